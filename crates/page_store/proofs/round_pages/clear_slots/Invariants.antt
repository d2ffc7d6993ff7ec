use Rattle.std.proofs.Common.{◌≡◌, take}
use Rattle.page_store.specs.Rounds.{cleared}
use Rattle.page_store.proofs.round_pages.clear_slots.Given as goal

abbrev pub invariant-loop-slot : goal.invariant-loop-slot
invariant-loop-slot l = l.pages.items ≡ cleared (take l.slot-index l.slots) l.fn.pages.items
