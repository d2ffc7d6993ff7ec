use Rattle.std.proofs.Common.{◌≡◌, ◌/◌}
use Rattle.file_ops.specs.Kept.{offered_from}
use Rattle.file_ops.proofs.offer.offer_all.Given as goal

abbrev pub invariant-loop-next : goal.invariant-loop-next
invariant-loop-next l = l.pages ≡ offered_from l.file l.stamp l.sent l.place l.bytes l.ends (l.place / 4096) l.next l.fn.pages
