-- What the slot holds by the operations so far.
use Rattle.std.proofs.Common.{length, ◌-◌, ◌≤◌}
use Rattle.trace_claims.specs.Slotted.{LastClose, HoldsUpTo}
use Rattle.trace_claims.proofs.slots.held_at.Given as goal

abbrev pub invariant-loop-at : goal.invariant-loop-at
invariant-loop-at l = record {
  within : l.at ≤ length l.all;
  last : LastClose l.all l.lane l.slot l.place (length l.all) l.closed;
  has : HoldsUpTo l.all l.lane l.slot l.place l.closed l.at l.holds.items;
}

abbrev pub decreases-loop-at : goal.decreases-loop-at
decreases-loop-at l = length l.all - l.at
