use Rattle.std.proofs.Common.{◌≡◌, replicate, Some, None}
use Rattle.page_store.proofs.round_pages.whole_round.Given as goal

abbrev pub invariant-loop-slot : goal.invariant-loop-slot
invariant-loop-slot l = l.round.items ≡ replicate l.slot (Some None)
