-- A call that was asked for and isn't made leaves nothing in flight.
use Rattle.std.proofs.Common.{◌≡◌, ◌≤◌, ◌<◌, ◌+◌, ℕ, Result, Err, subst, ◌⊎◌, inl, inr, arith}
use Rattle.std.proofs.lemmas.Bool.{cases_lt}
use Rattle.world_model.specs.declared.answer.Fault.{Fault}
use Rattle.world_model.specs.declared.message.Call.{Call}
use Rattle.world_model.specs.declared.message.Reply.{Reply}
use Rattle.write_back.specs.Files.{Pending}
use Rattle.client_shelf.specs.declared.shelf.Shelf.{Shelf}
use Rattle.client_shelf.specs.declared.turn.Turn.{Turn}
use Rattle.client_shelf.specs.declared.step.Step.TheVariants as nexts
use Rattle.file_ops.specs.Ready.{IsReady}
use Rattle.file_ops.specs.SlotFiles.{IsUnused}
use Rattle.file_ops.proofs.Walks.{LeftAs}
use Rattle.file_ops.proofs.Roomless.{NoneOf}
use Rattle.file_ops.proofs.Unmade.{Mine, AnyCall, UnusedSave, carries-mine, replies-mine, carries-refusal, replies-refusal}
use Rattle.op_machines.specs.declared.file_machine.FileMachine.{FileMachine as Machine}
use Rattle.op_machines.specs.FileSteps.{Starts, Resumes, Takes}
use Rattle.op_machines.proofs.FileLaws.{LeavesNothing}
use Rattle.op_machines.proofs.Walk.{Has, has-any, left-call, left-back, starts-left, resumes-left, takes-left}
use Rattle.op_machines.proofs.Leaves.{starts-ready, resumes-ready, takes-ready}
use Rattle.op_machines.proofs.Unsent.{takes-unsent}

-- what is ready for the next xid, with nothing under this one, is ready for this one
ready-again : (xid seq : ℕ) (back : Pending) → 1 ≤ xid → IsUnused xid back → IsReady (xid + 1) seq back → IsReady xid seq back
ready-again xid seq back first free r = record { first = first; numbers = r.numbers; xids = λ other which. by other which (cases_lt xid other) }
  where
    above : (other : ℕ) → xid ≤ other → (xid < other) ⊎ (other ≤ xid) → IsUnused other back
    above other from (inl more) = r.xids other (inr (omega (arith, more)))
    above other from (inr upto) = let same : xid ≡ other = omega (arith, from, upto) in subst (λ (x : ℕ). IsUnused x back) same free

    by : (other : ℕ) → (other ≡ 0) ⊎ (xid ≤ other) → (xid < other) ⊎ (other ≤ xid) → IsUnused other back
    by other (inl none) order = r.xids other (inl none)
    by other (inr from) order = above other from order

-- a machine whose call, asked for in the step with the turn `sent`, isn't made
leaves : (wsize : ℕ) (sent : Turn) (machine : Machine) (old : Shelf) → 1 ≤ sent.xid → Has (λ back. IsUnused sent.xid back) (Mine sent.xid) machine old.back
    → IsReady (sent.xid + 1) old.seq old.back → LeavesNothing wsize sent machine old
leaves wsize sent machine old first has ready turn fault next new after none takes =
    ready-again sent.xid after.seq after.back first (left-back (λ back. IsUnused sent.xid back) (UnusedSave sent.xid) NoneOf (λ saving back free. free) next
    new after.back left)
    (takes-unsent (sent.xid + 1) wsize machine sent turn (Err fault) old next new after takes
    (left-call (λ back. IsUnused sent.xid back) (Has (λ back. IsUnused sent.xid back) (UnusedSave sent.xid)) NoneOf next new after.back left) ready)
  where
    left : LeftAs (λ back. IsUnused sent.xid back) (Has (λ back. IsUnused sent.xid back) (UnusedSave sent.xid)) NoneOf next new after.back
    left =
        takes-left wsize turn (λ back. IsUnused sent.xid back) (UnusedSave sent.xid) NoneOf (carries-refusal wsize sent.xid turn none) sent (Err fault)
        (Mine sent.xid) (replies-refusal wsize sent turn fault none) machine old next new after takes has

pub starts-unmade : (wsize : ℕ) (machine : Machine) (turn : Turn) (old : Shelf) (call : Call) (new : Machine) (after : Shelf)
    → Starts wsize machine turn old (nexts.Send call) new after → IsReady turn.xid old.seq old.back → LeavesNothing wsize turn new after
starts-unmade wsize machine turn old call new after s r =
    let left = starts-left wsize turn (λ back. IsUnused turn.xid back) (Mine turn.xid) AnyCall (carries-mine wsize turn) machine old (nexts.Send call) new
    after s (r.xids turn.xid (inr (omega arith))) in
    leaves wsize turn new after r.first left.0 (starts-ready wsize machine turn old (nexts.Send call) new after s r)

pub resumes-unmade : (wsize : ℕ) (machine : Machine) (turn : Turn) (old : Shelf) (call : Call) (new : Machine) (after : Shelf)
    → Resumes wsize machine turn old (nexts.Send call) new after → IsReady turn.xid old.seq old.back → LeavesNothing wsize turn new after
resumes-unmade wsize machine turn old call new after s r =
    let left = resumes-left wsize turn (λ back. IsUnused turn.xid back) (Mine turn.xid) AnyCall (carries-mine wsize turn) machine old (nexts.Send call) new
    after s (r.xids turn.xid (inr (omega arith))) in
    leaves wsize turn new after r.first left.0 (resumes-ready wsize machine turn old (nexts.Send call) new after s r)

pub takes-unmade : (wsize : ℕ) (machine : Machine) (sent turn : Turn) (came : Result Reply Fault) (old : Shelf) (call : Call) (new : Machine) (after : Shelf)
    → Takes wsize machine sent turn came old (nexts.Send call) new after → IsReady turn.xid old.seq old.back → LeavesNothing wsize turn new after
takes-unmade wsize machine sent turn came old call new after s r =
    let free : IsUnused turn.xid old.back = r.xids turn.xid (inr (omega arith)) in
    let left = takes-left wsize turn (λ back. IsUnused turn.xid back) (Mine turn.xid) AnyCall (carries-mine wsize turn) sent came (UnusedSave turn.xid)
    (replies-mine wsize sent turn came) machine old (nexts.Send call) new after s
    (has-any (λ back. IsUnused turn.xid back) (UnusedSave turn.xid) (λ saving back p. p) machine old.back free) in
    leaves wsize turn new after r.first left.0 (takes-ready wsize machine sent turn came old (nexts.Send call) new after s r)
