use Rattle.std.proofs.Common.{◌≡◌, take}
use Rattle.page_cache.specs.Sorted.{freeing}
use Rattle.page_cache.proofs.sorted.free_all.Given as goal

abbrev pub invariant-loop-slot : goal.invariant-loop-slot
invariant-loop-slot l = l.by_slot ≡ freeing (take l.slot-index l.run) l.initial.by_slot
