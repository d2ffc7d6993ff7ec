-- So far all stay.
use Rattle.std.proofs.Common.{length, ◌-◌, ◌≤◌}
use Rattle.trace_claims.specs.Staying.{AllStay}
use Rattle.trace_claims.proofs.settled.all_stay.Given as goal

abbrev pub invariant-loop-at : goal.invariant-loop-at
invariant-loop-at l = record { within : l.at ≤ length l.operations; known : AllStay l.trace l.digest l.total l.operations l.at }

abbrev pub decreases-loop-at : goal.decreases-loop-at
decreases-loop-at l = length l.operations - l.at
