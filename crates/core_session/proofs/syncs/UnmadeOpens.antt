-- A call that came to nothing lets no put open its file.
use Rattle.core_session.proofs.Prelude.{ℕ, Bool, true, false, List, Result, Err, Fault, Reply, Step, Shelf, Turn, PutFile, Putting, FileMachine, Machine, PathMachine, file_of, Takes}
use Rattle.file_ops.specs.declared.put_file.Putting.TheVariants as putting
use Rattle.file_ops.specs.PutFile as puts
use Rattle.op_machines.specs.declared.file_machine.FileMachine.TheVariants as files
use Rattle.op_machines.specs.declared.machine.Machine.TheVariants as machines
use Rattle.op_machines.specs.FileSteps as steps
use Rattle.op_machines.specs.PathSteps as paths
use Rattle.core_session.proofs.order.Adds.{PutHas, FileHas, PathHas, TakesHas}
use Rattle.core_session.proofs.order.Unmade.{unmade-has}
use Rattle.core_session.proofs.syncs.AllJobs.{PathOpens, JobOpens}
use Rattle.core_session.proofs.syncs.Jobs.{PutOpens, FileOpens}

module _ (A : List ℕ → ℕ → List ℕ → Type 0) (wsize : ℕ) (sent turn : Turn) (came : Result Reply Fault) (old : Shelf) (next : Step) where
  put-opens : (at : Putting) (m : PutFile) (new : PutFile) (after : Shelf) (t : puts.Takes at wsize m sent turn came old next new after)
      → PutHas (λ f. ⊥) at wsize m sent turn came old next new after t → PutOpens A at wsize m sent turn came old next new after t
  put-opens putting.Idle m new after t has = tt
  put-opens putting.Opens m new after t has = λ file is. absurd (has file is)
  put-opens (putting.Adds file) m new after t has = tt
  put-opens (putting.Saves s) m new after t has = tt

  file-opens : (m : FileMachine) (new : FileMachine) (after : Shelf) (t : steps.Takes wsize m sent turn came old next new after) → FileHas (λ f o b. ⊥) wsize m sent turn came old next new after t
      → FileOpens A wsize m sent turn came old next new after t
  file-opens (files.Open m) new after t has = tt
  file-opens (files.Read m) new after t has = tt
  file-opens (files.Write m) new after t has = tt
  file-opens (files.Sync m) new after t has = tt
  file-opens (files.Close m) new after t has = tt
  file-opens (files.Truncate m) new after t has = tt
  file-opens (files.Put m) new after t has = put-opens m.state m t.machine after t.step has

  path-opens : (b : Bool) (m : PathMachine) (new : PathMachine) (after : Shelf) (t : paths.PathTakes b wsize m sent turn came old next new after)
      → PathHas (λ f o b. ⊥) b wsize m sent turn came old next new after t → PathOpens A b wsize m sent turn came old next new after t
  path-opens true m new after t has = file-opens (file_of m.opener) (file_of t.opener) after t.step has
  path-opens false m new after t has = tt

  -- where no bytes come in, no put opens its file
  pub has-opens : (machine new : Machine) (after : Shelf) (t : Takes wsize machine sent turn came old next new after) → TakesHas (λ f o b. ⊥) wsize machine sent turn came old next new after t
      → JobOpens A wsize machine sent turn came old next new after t
  has-opens (machines.File m) new after t has = file-opens m t.machine after t.step has
  has-opens (machines.Path m) new after t has = path-opens m.arrived m t.machine after t.step has
  has-opens (machines.Name m) new after t has = tt

pub unmade-opens : (A : List ℕ → ℕ → List ℕ → Type 0) (wsize : ℕ) (sent turn : Turn) (fault : Fault) (machine : Machine) (old : Shelf) (next : Step) (new : Machine) (after : Shelf)
    (t : Takes wsize machine sent turn (Err fault) old next new after) → JobOpens A wsize machine sent turn (Err fault) old next new after t
unmade-opens A wsize sent turn fault machine old next new after t =
    has-opens A wsize sent turn (Err fault) old next machine new after t (unmade-has (λ f o b. ⊥) wsize sent turn fault machine old next new after t)
