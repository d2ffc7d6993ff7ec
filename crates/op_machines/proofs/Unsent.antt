-- A step that asks for no call puts nothing in flight.
use Rattle.std.proofs.Common.{ℕ, Result, ap, ◌∙◌}
use Rattle.world_model.specs.declared.answer.Fault.{Fault}
use Rattle.world_model.specs.declared.message.Reply.{Reply}
use Rattle.client_shelf.specs.declared.shelf.Shelf.{Shelf}
use Rattle.client_shelf.specs.declared.turn.Turn.{Turn}
use Rattle.client_shelf.specs.declared.step.Step.{Step}
use Rattle.file_ops.specs.Ready.{IsReady}
use Rattle.file_ops.specs.TruncateFile as truncates
use Rattle.file_ops.proofs.Unsent.{same-leaves, fewer-leaves, sync-starts, sync-resumes, sync-takes, close-starts, close-resumes, close-takes, write-starts, write-resumes, write-takes, put-resumes, put-takes, truncate-back, truncate-begins, truncate-seq}
use Rattle.op_machines.specs.declared.file_machine.FileMachine.{FileMachine as Machine}
use Rattle.op_machines.specs.declared.file_machine.FileMachine.TheVariants as machines
use Rattle.op_machines.specs.FileSteps.{Starts, Resumes, Takes}
use Rattle.op_machines.specs.Laws.{AsksNothing}

pub starts-unsent : (xid wsize : ℕ) (machine : Machine) (turn : Turn) (old : Shelf) (next : Step) (new : Machine) (after : Shelf)
    → Starts wsize machine turn old next new after → AsksNothing next → IsReady xid old.seq old.back → IsReady xid after.seq after.back
starts-unsent xid wsize (machines.Open m) turn old next new after s none r = same-leaves xid old after s.shelf_is r
starts-unsent xid wsize (machines.Read m) turn old next new after s none r = same-leaves xid (record old { pages = after.pages }) after s.others r
starts-unsent xid wsize (machines.Write m) turn old next new after s none r = write-starts xid wsize m turn old next s.machine after s.step none r
starts-unsent xid wsize (machines.Sync m) turn old next new after s none r = sync-starts xid wsize m turn old next s.state after s.step none r
starts-unsent xid wsize (machines.Close m) turn old next new after s none r = close-starts xid wsize m turn old next s.state after s.step none r
starts-unsent xid wsize (machines.Truncate m) turn old next new after s none r = truncate-begins xid (truncates.found_file m old) m old after s.shelf_is r
starts-unsent xid wsize (machines.Put m) turn old next new after s none r = same-leaves xid old after s.shelf_is r

pub resumes-unsent : (xid wsize : ℕ) (machine : Machine) (turn : Turn) (old : Shelf) (next : Step) (new : Machine) (after : Shelf)
    → Resumes wsize machine turn old next new after → AsksNothing next → IsReady xid old.seq old.back → IsReady xid after.seq after.back
resumes-unsent xid wsize (machines.Open m) turn old next new after s none r = same-leaves xid old after s.shelf_is r
resumes-unsent xid wsize (machines.Read m) turn old next new after s none r = same-leaves xid (record old { pages = after.pages }) after s.others r
resumes-unsent xid wsize (machines.Write m) turn old next new after s none r = write-resumes xid m.state wsize m.lane turn old next s.state after s.step none r
resumes-unsent xid wsize (machines.Sync m) turn old next new after s none r = sync-resumes xid m.state wsize m turn old next s.state after s.step none r
resumes-unsent xid wsize (machines.Close m) turn old next new after s none r = close-resumes xid m.state wsize m turn old next s.state after s.step none r
resumes-unsent xid wsize (machines.Truncate m) turn old next new after s none r = same-leaves xid old after s.shelf_is r
resumes-unsent xid wsize (machines.Put m) turn old next new after s none r = put-resumes xid m.state wsize m turn old next s.machine after s.step none r

pub takes-unsent : (xid wsize : ℕ) (machine : Machine) (sent turn : Turn) (came : Result Reply Fault) (old : Shelf) (next : Step) (new : Machine) (after : Shelf)
    → Takes wsize machine sent turn came old next new after → AsksNothing next → IsReady xid old.seq old.back → IsReady xid after.seq after.back
takes-unsent xid wsize (machines.Open m) sent turn came old next new after s none r =
    same-leaves xid (record old { pages = after.pages; attrs = after.attrs; names = after.names; opens = after.opens; repeats = after.repeats }) after s.others r
takes-unsent xid wsize (machines.Read m) sent turn came old next new after s none r = same-leaves xid (record old { attrs = after.attrs; pages = after.pages; repeats = after.repeats }) after s.others r
takes-unsent xid wsize (machines.Write m) sent turn came old next new after s none r = write-takes xid m.state wsize m sent turn came old next s.state after s.step none r
takes-unsent xid wsize (machines.Sync m) sent turn came old next new after s none r = sync-takes xid m.state wsize m sent turn came old next s.state after s.step none r
takes-unsent xid wsize (machines.Close m) sent turn came old next new after s none r = close-takes xid m.state wsize m sent turn came old next s.state after s.step none r
takes-unsent xid wsize (machines.Truncate m) sent turn came old next new after s none r =
    fewer-leaves xid old.seq old.back after (ap (λ (x : Shelf). x.seq) s.shelf_is ∙ truncate-seq m.state m came sent turn after.attrs after.back old) (truncate-back m.state m came old.back after.back s.back) r
takes-unsent xid wsize (machines.Put m) sent turn came old next new after s none r = put-takes xid m.state wsize m sent turn came old next s.machine after s.step none r
