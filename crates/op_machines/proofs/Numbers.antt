-- How many numbers of writes a step gives out: a start or a reply one at most, any other step none.
use Rattle.std.proofs.Common.{◌≡◌, ◌≤◌, ◌+◌, ℕ, Result, ap, ◌∙◌}
use Rattle.world_model.specs.declared.answer.Fault.{Fault}
use Rattle.world_model.specs.declared.message.Reply.{Reply}
use Rattle.client_shelf.specs.declared.shelf.Shelf.{Shelf}
use Rattle.client_shelf.specs.declared.turn.Turn.{Turn}
use Rattle.client_shelf.specs.declared.step.Step.{Step}
use Rattle.file_ops.specs.TruncateFile as truncates
use Rattle.file_ops.proofs.Unsent.{truncate-seq, begun-seq}
use Rattle.file_ops.proofs.Numbers.{none-more, sync-starts, sync-resumes, sync-takes, close-starts, close-resumes, close-takes, write-starts, write-resumes, write-takes, put-resumes, put-takes}
use Rattle.op_machines.specs.declared.file_machine.FileMachine.{FileMachine as Machine}
use Rattle.op_machines.specs.declared.file_machine.FileMachine.TheVariants as machines
use Rattle.op_machines.specs.FileSteps.{Starts, Resumes, Takes}

abbrev seq : Shelf → ℕ
seq s = s.seq

pub starts-number : (wsize : ℕ) (machine : Machine) (turn : Turn) (old : Shelf) (next : Step) (new : Machine) (after : Shelf) → Starts wsize machine turn old next new after → after.seq ≤ old.seq + 1
starts-number wsize (machines.Open m) turn old next new after s = none-more after.seq old.seq (ap seq s.shelf_is)
starts-number wsize (machines.Read m) turn old next new after s = none-more after.seq old.seq (ap seq s.others)
starts-number wsize (machines.Write m) turn old next new after s = write-starts wsize m turn old next s.machine after s.step
starts-number wsize (machines.Sync m) turn old next new after s = none-more after.seq old.seq (sync-starts wsize m turn old next s.state after s.step)
starts-number wsize (machines.Close m) turn old next new after s = none-more after.seq old.seq (close-starts wsize m turn old next s.state after s.step)
starts-number wsize (machines.Truncate m) turn old next new after s = none-more after.seq old.seq (ap seq s.shelf_is ∙ begun-seq (truncates.found_file m old) m old)
starts-number wsize (machines.Put m) turn old next new after s = none-more after.seq old.seq (ap seq s.shelf_is)

pub resumes-number : (wsize : ℕ) (machine : Machine) (turn : Turn) (old : Shelf) (next : Step) (new : Machine) (after : Shelf) → Resumes wsize machine turn old next new after → after.seq ≡ old.seq
resumes-number wsize (machines.Open m) turn old next new after s = ap seq s.shelf_is
resumes-number wsize (machines.Read m) turn old next new after s = ap seq s.others
resumes-number wsize (machines.Write m) turn old next new after s = write-resumes m.state wsize m.lane turn old next s.state after s.step
resumes-number wsize (machines.Sync m) turn old next new after s = sync-resumes m.state wsize m turn old next s.state after s.step
resumes-number wsize (machines.Close m) turn old next new after s = close-resumes m.state wsize m turn old next s.state after s.step
resumes-number wsize (machines.Truncate m) turn old next new after s = ap seq s.shelf_is
resumes-number wsize (machines.Put m) turn old next new after s = put-resumes m.state wsize m turn old next s.machine after s.step

pub takes-number : (wsize : ℕ) (machine : Machine) (sent turn : Turn) (came : Result Reply Fault) (old : Shelf) (next : Step) (new : Machine) (after : Shelf)
    → Takes wsize machine sent turn came old next new after → after.seq ≤ old.seq + 1
takes-number wsize (machines.Open m) sent turn came old next new after s = none-more after.seq old.seq (ap seq s.others)
takes-number wsize (machines.Read m) sent turn came old next new after s = none-more after.seq old.seq (ap seq s.others)
takes-number wsize (machines.Write m) sent turn came old next new after s = write-takes m.state wsize m sent turn came old next s.state after s.step
takes-number wsize (machines.Sync m) sent turn came old next new after s = none-more after.seq old.seq (sync-takes m.state wsize m sent turn came old next s.state after s.step)
takes-number wsize (machines.Close m) sent turn came old next new after s = none-more after.seq old.seq (close-takes m.state wsize m sent turn came old next s.state after s.step)
takes-number wsize (machines.Truncate m) sent turn came old next new after s = none-more after.seq old.seq (ap seq s.shelf_is ∙ truncate-seq m.state m came sent turn after.attrs after.back old)
takes-number wsize (machines.Put m) sent turn came old next new after s = put-takes m.state wsize m sent turn came old next s.machine after s.step
