-- So far each hold has its reading.
use Rattle.std.proofs.Common.{length, ◌-◌, ◌≤◌}
use Rattle.trace_claims.specs.Readings.{AddsOfHolds}
use Rattle.trace_claims.proofs.readings.add_of_holds.Given as goal

abbrev pub invariant-loop-at : goal.invariant-loop-at
invariant-loop-at l = record { within : l.at ≤ length l.holds; adds : AddsOfHolds l.trace l.course l.holds l.at l.initial.all.items l.all.items }

abbrev pub decreases-loop-at : goal.decreases-loop-at
decreases-loop-at l = length l.holds - l.at
