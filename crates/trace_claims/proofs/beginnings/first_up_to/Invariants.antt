-- So far each beginning keeps the claims.
use Rattle.std.proofs.Common.{◌≤◌, ◌-◌, length}
use Rattle.world_model.specs.Mounts.{Origin}
use Rattle.claims.specs.Modes.{Modes}
use Rattle.trace_claims.specs.Described.{Describes}
use Rattle.trace_claims.specs.Judging.{KeepsUpTo}
use Rattle.trace_claims.proofs.beginnings.first_up_to.Given as goal

abbrev pub invariant-loop-entry : goal.invariant-loop-entry
invariant-loop-entry l = record {
  within : l.entry ≤ l.most;
  keeps : (m : Modes) (origin : Origin) → Describes m origin l.trace l.digest → l.most ≤ length l.trace.entries.items → KeepsUpTo m origin l.trace l.entry;
}

abbrev pub decreases-loop-entry : goal.decreases-loop-entry
decreases-loop-entry l = l.most - l.entry
