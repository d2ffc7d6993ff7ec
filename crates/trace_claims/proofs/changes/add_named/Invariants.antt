-- So far the cuts of the names are listed.
use Rattle.std.proofs.Common.{length, ◌-◌, ◌≤◌}
use Rattle.trace_claims.specs.Changes.{AddsNamed}
use Rattle.trace_claims.proofs.changes.add_named.Given as goal

abbrev pub invariant-loop-at : goal.invariant-loop-at
invariant-loop-at l = record { within : l.at ≤ length l.listed; adds : AddsNamed l.listed l.place l.made l.at l.initial.all.items l.all.items }

abbrev pub decreases-loop-at : goal.decreases-loop-at
decreases-loop-at l = length l.listed - l.at
