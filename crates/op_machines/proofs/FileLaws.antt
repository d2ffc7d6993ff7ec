-- A law of operations on files that the laws of all operations stand on.
use Rattle.std.proofs.Common.{◌≡◌, ℕ, false, Result, Err}
use Rattle.world_model.specs.declared.answer.Fault.{Fault}
use Rattle.client_shelf.specs.declared.shelf.Shelf.{Shelf}
use Rattle.client_shelf.specs.declared.turn.Turn.{Turn}
use Rattle.client_shelf.specs.declared.step.Step.{Step}
use Rattle.file_ops.specs.Ready.{IsReady}
use Rattle.op_machines.specs.declared.file_machine.FileMachine.{FileMachine}
use Rattle.op_machines.specs.FileSteps.{Takes}

-- The call that the step with the turn `sent` asked for isn't made: a refusal that is taken in its place leaves nothing in flight under its xid.
abbrev pub LeavesNothing : ℕ → Turn → FileMachine → Shelf → Type 0
LeavesNothing wsize sent machine shelf = (turn : Turn) (fault : Fault) (next : Step) (new : FileMachine) (after : Shelf)
    → turn.room ≡ false → Takes wsize machine sent turn (Err fault) shelf next new after → IsReady sent.xid after.seq after.back
