-- A step that is told of no room asks for no call.
use Rattle.std.proofs.Common.{◌≡◌, ℕ, false, Result}
use Rattle.world_model.specs.declared.answer.Fault.{Fault}
use Rattle.world_model.specs.declared.message.Reply.{Reply}
use Rattle.client_shelf.specs.declared.shelf.Shelf.{Shelf}
use Rattle.client_shelf.specs.declared.turn.Turn.{Turn}
use Rattle.client_shelf.specs.declared.step.Step.{Step}
use Rattle.file_ops.proofs.Roomless.{Anything, AnySave, NoneOf, carries-quiet, replies-quiet}
use Rattle.op_machines.specs.declared.file_machine.FileMachine.{FileMachine as Machine}
use Rattle.op_machines.specs.FileSteps.{Starts, Resumes, Takes}
use Rattle.op_machines.specs.Laws.{AsksNothing}
use Rattle.op_machines.proofs.Walk.{Has, has-any, left-call, starts-left, resumes-left, takes-left}

pub starts-quiet : (wsize : ℕ) (machine : Machine) (turn : Turn) (old : Shelf) (next : Step) (new : Machine) (after : Shelf)
    → turn.room ≡ false → Starts wsize machine turn old next new after → AsksNothing next
starts-quiet wsize machine turn old next new after none s =
    left-call Anything (Has Anything AnySave) NoneOf next new after.back
    (starts-left wsize turn Anything AnySave NoneOf (carries-quiet wsize turn none) machine old next new after s tt)

pub resumes-quiet : (wsize : ℕ) (machine : Machine) (turn : Turn) (old : Shelf) (next : Step) (new : Machine) (after : Shelf)
    → turn.room ≡ false → Resumes wsize machine turn old next new after → AsksNothing next
resumes-quiet wsize machine turn old next new after none s =
    left-call Anything (Has Anything AnySave) NoneOf next new after.back
    (resumes-left wsize turn Anything AnySave NoneOf (carries-quiet wsize turn none) machine old next new after s tt)

pub takes-quiet : (wsize : ℕ) (machine : Machine) (sent turn : Turn) (came : Result Reply Fault) (old : Shelf) (next : Step) (new : Machine) (after : Shelf)
    → turn.room ≡ false → Takes wsize machine sent turn came old next new after → AsksNothing next
takes-quiet wsize machine sent turn came old next new after none s =
    left-call Anything (Has Anything AnySave) NoneOf next new after.back
    (takes-left wsize turn Anything AnySave NoneOf (carries-quiet wsize turn none) sent came AnySave (replies-quiet wsize sent turn came none) machine old
    next new after s
    (has-any Anything AnySave (λ saving back p. tt) machine old.back tt))
