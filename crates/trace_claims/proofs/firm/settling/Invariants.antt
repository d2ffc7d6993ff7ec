-- The least place so far.
use Rattle.std.proofs.Common.{length, ◌-◌, ◌≤◌}
use Rattle.trace_claims.specs.Settling.{Settles}
use Rattle.trace_claims.proofs.firm.settling.Given as goal

abbrev pub invariant-loop-at : goal.invariant-loop-at
invariant-loop-at l = record { within : l.at ≤ length l.operations; known : Settles l.operations l.entries l.written l.file l.at l.least }

abbrev pub decreases-loop-at : goal.decreases-loop-at
decreases-loop-at l = length l.operations - l.at
