use Rattle.std.proofs.Common.{rules, ◌≡◌}
use Rattle.page_store.proofs.mem_disk.write_noted.Goals as goal

pub returns-in-Ok-clause-ok : goal.returns-in-Ok-clause-ok
returns-in-Ok-clause-ok c =
    let same : c.in_ok-copy.copy.items ≡ c.args.piece.now = search rules in
    record { bytes = c.in-Ok.ensures.ok; copy = c.in_ok-copy.copy; same = same; call = c.in_ok-note.ensures.ok }
