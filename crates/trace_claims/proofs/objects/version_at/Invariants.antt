-- So far it was the same.
use Rattle.std.proofs.Common.{◌≤◌}
use Rattle.trace_claims.specs.Objects.{IsSame}
use Rattle.trace_claims.proofs.objects.version_at.Given as goal

abbrev pub invariant-loop-at : goal.invariant-loop-at
invariant-loop-at l = record { within : l.at ≤ l.moment; same : IsSame l.trace l.file l.at l.moment }

abbrev pub decreases-loop-at : goal.decreases-loop-at
decreases-loop-at l = l.at
