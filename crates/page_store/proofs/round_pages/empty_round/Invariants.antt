use Rattle.std.proofs.Common.{◌≡◌, replicate, None}
use Rattle.page_store.proofs.round_pages.empty_round.Given as goal

abbrev pub invariant-loop-slot : goal.invariant-loop-slot
invariant-loop-slot l = l.round.items ≡ replicate l.slot None
