-- So far what the replies found is listed.
use Rattle.std.proofs.Common.{length, ◌-◌, ◌≤◌}
use Rattle.trace_claims.specs.Paths.{NextUpTo}
use Rattle.trace_claims.proofs.paths.next.Given as goal

abbrev pub invariant-loop-at : goal.invariant-loop-at
invariant-loop-at l = record { within : l.at ≤ length l.heard; next : NextUpTo l.list l.name l.heard l.at l.later.items }

abbrev pub decreases-loop-at : goal.decreases-loop-at
decreases-loop-at l = length l.heard - l.at
