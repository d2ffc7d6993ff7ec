use Rattle.std.proofs.Common.{◌≡◌, take, replicate, length, None}
use Rattle.page_store.specs.Rounds.{taken_in}
use Rattle.page_store.proofs.round_pages.round_of.Given as goal

abbrev pub invariant-loop-slot : goal.invariant-loop-slot
invariant-loop-slot l = l.round.items ≡ taken_in (take l.slot-index l.slots) (replicate (length l.pages) None)
