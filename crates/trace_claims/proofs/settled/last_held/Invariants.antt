-- So far all stay.
use Rattle.std.proofs.Common.{length, ◌-◌, ◌≤◌}
use Rattle.trace_claims.specs.Staying.{LastHeld}
use Rattle.trace_claims.proofs.settled.last_held.Given as goal

abbrev pub invariant-loop-at : goal.invariant-loop-at
invariant-loop-at l = record { within : l.at ≤ length l.holds; known : LastHeld l.trace l.digest l.entry l.written l.holds l.at }

abbrev pub decreases-loop-at : goal.decreases-loop-at
decreases-loop-at l = length l.holds - l.at
