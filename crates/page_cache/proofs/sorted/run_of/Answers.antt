use Rattle.page_cache.proofs.sorted.run_of.Goals as goal

pub returns : goal.returns
returns c = record { start = c.count_before-from.ensures; end = c.count_before-to.ensures }
