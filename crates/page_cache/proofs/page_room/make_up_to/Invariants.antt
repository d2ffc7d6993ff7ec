use Rattle.std.proofs.Common.{◌≡◌, ◌<◌, ◌≤◌, ◌+◌, ◌-◌, ℕ, length, vec_capacity}
use Rattle.page_cache.specs.Unmade.{with_empty}
use Rattle.page_cache.proofs.page_room.make_up_to.Given as goal

abbrev pub decreases-loop-made : goal.decreases-loop-made
decreases-loop-made l = l.number + 1 - length l.made.items

abbrev pub invariant-loop-made : goal.invariant-loop-made
invariant-loop-made l =
    ((count : ℕ) → l.number < count → length l.initial.made.items ≤ count → (length l.made.items ≤ count) × (with_empty count l.made.items ≡ with_empty count l.initial.made.items))
    × (vec_capacity l.initial.made ≤ vec_capacity l.made)
