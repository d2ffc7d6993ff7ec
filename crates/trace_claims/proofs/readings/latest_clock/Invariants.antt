-- The latest reading so far.
use Rattle.std.proofs.Common.{◌-◌, ◌≤◌}
use Rattle.trace_claims.specs.Clocks.{LatestClock}
use Rattle.trace_claims.proofs.readings.latest_clock.Given as goal

abbrev pub invariant-loop-at : goal.invariant-loop-at
invariant-loop-at l = record { within : l.at ≤ l.before; known : LatestClock l.entries l.at l.latest }

abbrev pub decreases-loop-at : goal.decreases-loop-at
decreases-loop-at l = l.before - l.at
