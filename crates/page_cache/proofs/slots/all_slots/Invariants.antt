use Rattle.std.proofs.Common.{◌≡◌}
use Rattle.page_cache.specs.Slots.{AreAll}
use Rattle.page_cache.proofs.slots.all_slots.Given as goal

abbrev pub invariant-loop-slot : goal.invariant-loop-slot
invariant-loop-slot l = (l.order.cap ≡ l.count) × AreAll l.slot l.order.entries
