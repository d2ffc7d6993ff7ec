-- So far the object is listed for each time that the directory is.
use Rattle.std.proofs.Common.{length, ◌-◌, ◌≤◌}
use Rattle.trace_claims.specs.Paths.{AddsObjects}
use Rattle.trace_claims.proofs.paths.add_objects.Given as goal

abbrev pub invariant-loop-at : goal.invariant-loop-at
invariant-loop-at l = record { within : l.at ≤ length l.list; adds : AddsObjects l.list l.dir l.object l.since l.at l.initial.later.items l.later.items }

abbrev pub decreases-loop-at : goal.decreases-loop-at
decreases-loop-at l = length l.list - l.at
