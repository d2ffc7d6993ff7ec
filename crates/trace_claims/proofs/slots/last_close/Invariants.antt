-- The last close so far.
use Rattle.std.proofs.Common.{length, ◌-◌, ◌≤◌}
use Rattle.trace_claims.specs.Slotted.{LastClose}
use Rattle.trace_claims.proofs.slots.last_close.Given as goal

abbrev pub invariant-loop-at : goal.invariant-loop-at
invariant-loop-at l = record { within : l.at ≤ length l.all; known : LastClose l.all l.lane l.slot l.place l.at l.last }

abbrev pub decreases-loop-at : goal.decreases-loop-at
decreases-loop-at l = length l.all - l.at
