-- So far each operation has its files.
use Rattle.std.proofs.Common.{length, ◌-◌, ◌≤◌, []}
use Rattle.world_model.specs.Mounts.{Origin}
use Rattle.claims.specs.Modes.{Modes}
use Rattle.trace_claims.specs.Assembled.{OperationsUpTo}
use Rattle.trace_claims.specs.Hearing.{HasHeard}
use Rattle.trace_claims.specs.Operations.{LeadsAll}
use Rattle.trace_claims.specs.Slotted.{HasNamed}
use Rattle.trace_claims.proofs.digest.with_files.Given as goal

abbrev pub invariant-loop-at : goal.invariant-loop-at
invariant-loop-at l = record {
  within : l.at ≤ length l.named;
  so_far : (m : Modes) (origin : Origin) → HasNamed m l.entries l.named → HasHeard l.entries (length l.entries) l.heard → LeadsAll origin l.entries [] l.roots → OperationsUpTo m origin l.entries l.named l.at l.all.items;
}

abbrev pub decreases-loop-at : goal.decreases-loop-at
decreases-loop-at l = length l.named - l.at
