use Rattle.std.proofs.Common.{rules, ◌≡◌}
use Rattle.std.specs.Prelude.{reverse}
use Rattle.page_store.specs.MemDisk.{torn_by}
use Rattle.page_store.proofs.Written.{crash-left}
use Rattle.page_store.proofs.mem_disk.MemDisk.crash.Goals as goal

pub returns-clause-left : goal.returns-clause-left
returns-clause-left c =
    let left : c.in_ok-bytes.bytes.items ≡ torn_by (reverse c.self.inside.calls.items) = search rules in
    rw (← c.self.view_is) (crash-left (reverse c.self.inside.calls.items) (reverse c.note.new.calls.items) c.in_ok-bytes.bytes c.in_ok-note.ensures.ok left)
