-- So far each operation has its readings.
use Rattle.std.proofs.Common.{length, ◌-◌, ◌≤◌}
use Rattle.trace_claims.specs.Readings.{ReadingsOf}
use Rattle.trace_claims.proofs.readings.all_readings.Given as goal

abbrev pub invariant-loop-at : goal.invariant-loop-at
invariant-loop-at l = record { within : l.at ≤ length l.operations; of : ReadingsOf l.trace l.operations l.at l.all.items }

abbrev pub decreases-loop-at : goal.decreases-loop-at
decreases-loop-at l = length l.operations - l.at
