use Rattle.std.proofs.Common.{◌∙◌, ap}
use Rattle.page_cache.specs.Full.{states_of}
use Rattle.page_cache.proofs.Bounds.{states_insert}
use Rattle.page_cache.proofs.files.Files.put.Goals as goal

pub returns-clause-ok : goal.returns-clause-ok
returns-clause-ok c = rw (← c.self.view_is) (ap states_of c.in_ok-insert.ensures.entries
    ∙ states_insert c.args.file.now (record { state = c.args.state; full_below = c.args.full_below }) c.self.inside.table.entries)
