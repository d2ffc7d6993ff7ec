-- The operations of a history with their files, as they are put together.
use Rattle.std.specs.Prelude.{◌≡◌, ◌<◌, ℕ, List, Some, slice_get}
use Rattle.world_model.specs.declared.entry.Entry.{Entry}
use Rattle.world_model.specs.declared.entry.Entry.TheVariants.{Began}
use Rattle.world_model.specs.declared.op.Op.{Op}
use Rattle.world_model.specs.declared.op.Op.TheVariants as ops
use Rattle.world_model.specs.Entries.{At}
use Rattle.world_model.specs.Mounts.{Origin}
use Rattle.claims.specs.Modes.{Modes}
use Rattle.trace_claims.specs.declared.courses.Course.{Course}
use Rattle.trace_claims.specs.declared.operations.Lead.{Lead}
use Rattle.trace_claims.specs.declared.operations.Operation.{Operation}
use Rattle.trace_claims.specs.declared.slots.Named.{Named}
use Rattle.trace_claims.specs.Operations.{LeadsAll, IsOperation}

-- if the operation is a put, its path leads to these
abbrev pub LeadsByOp : Origin → List Entry → Op → List Lead → Type 0
LeadsByOp origin h op leads = (path : List (List ℕ)) (offset : ℕ) (bytes : List ℕ) → op ≡ ops.Put path offset bytes → LeadsAll origin h path leads

abbrev pub LeadsByEntry : Origin → List Entry → Entry → List Lead → Type 0
LeadsByEntry origin h e leads = (lane line offset : ℕ) (path : List (List ℕ)) (bytes : List ℕ) → e ≡ Began lane line (ops.Put path offset bytes)
    → LeadsAll origin h path leads

abbrev pub LeadsOf : Origin → List Entry → Course → List Lead → Type 0
LeadsOf origin h c leads = (lane line offset : ℕ) (path : List (List ℕ)) (bytes : List ℕ) → At h c.place (Began lane line (ops.Put path offset bytes))
    → LeadsAll origin h path leads

-- the operation with its files
pub record IsOperationOf (m : Modes) (origin : Origin) (h : List Entry) (n : Named) (o : Operation) : Type 0 where
  pub is : IsOperation m origin h o
  pub course_is : o.course ≡ n.course

-- the list has the first k operations with their files
pub record OperationsUpTo (m : Modes) (origin : Origin) (h : List Entry) (ns : List Named) (k : ℕ) (os : List Operation) : Type 0 where
  pub each : (i : ℕ) (o : Operation) → slice_get os i ≡ Some o → IsOperation m origin h o
  pub every : (j : ℕ) (n : Named) → slice_get ns j ≡ Some n → j < k → (i : ℕ) × (o : Operation) × (slice_get os i ≡ Some o) × (o.course ≡ n.course)
