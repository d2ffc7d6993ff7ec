-- So far it is held.
use Rattle.std.proofs.Common.{◌-◌, ◌≤◌}
use Rattle.trace_claims.specs.Staying.{StaysFrom}
use Rattle.trace_claims.proofs.settled.stays_from.Given as goal

abbrev pub invariant-loop-place : goal.invariant-loop-place
invariant-loop-place l = record { low : l.settled ≤ l.place; held : StaysFrom l.trace l.digest l.total l.written l.file l.settled l.place }

abbrev pub decreases-loop-place : goal.decreases-loop-place
decreases-loop-place l = l.total - l.place
