-- A step that takes a refusal gives out no number of a write.
use Rattle.std.proofs.Common.{◌≡◌, ℕ, Err, ap, ◌∙◌}
use Rattle.world_model.specs.declared.answer.Fault.{Fault}
use Rattle.client_shelf.specs.declared.shelf.Shelf.{Shelf}
use Rattle.client_shelf.specs.declared.turn.Turn.{Turn}
use Rattle.client_shelf.specs.declared.step.Step.{Step}
use Rattle.file_ops.proofs.Numbers.{sync-takes, close-takes}
use Rattle.file_ops.proofs.Unsent.{truncate-seq}
use Rattle.file_ops.proofs.Refusals.{write-refused, put-refused}
use Rattle.op_machines.specs.declared.file_machine.FileMachine.{FileMachine as Machine}
use Rattle.op_machines.specs.declared.file_machine.FileMachine.TheVariants as machines
use Rattle.op_machines.specs.FileSteps.{Takes}

abbrev seq : Shelf → ℕ
seq s = s.seq

pub refusals-number : (wsize : ℕ) (machine : Machine) (sent turn : Turn) (fault : Fault) (old : Shelf) (next : Step) (new : Machine) (after : Shelf)
    → Takes wsize machine sent turn (Err fault) old next new after → after.seq ≡ old.seq
refusals-number wsize (machines.Open m) sent turn fault old next new after s = ap seq s.others
refusals-number wsize (machines.Read m) sent turn fault old next new after s = ap seq s.others
refusals-number wsize (machines.Write m) sent turn fault old next new after s = write-refused m.state wsize m sent turn fault old next s.state after s.step
refusals-number wsize (machines.Sync m) sent turn fault old next new after s = sync-takes m.state wsize m sent turn (Err fault) old next s.state after s.step
refusals-number wsize (machines.Close m) sent turn fault old next new after s = close-takes m.state wsize m sent turn (Err fault) old next s.state after s.step
refusals-number wsize (machines.Truncate m) sent turn fault old next new after s =
    ap seq s.shelf_is ∙ truncate-seq m.state m (Err fault) sent turn after.attrs after.back old
refusals-number wsize (machines.Put m) sent turn fault old next new after s = put-refused m.state wsize m sent turn fault old next s.machine after s.step
