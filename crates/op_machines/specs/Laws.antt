-- What holds of every step of any operation.
use Rattle.std.specs.Prelude.{◌≡◌, ◌≤◌, ℕ, ◌+◌, true, false, Result, Err}
use Rattle.world_model.specs.declared.answer.Fault.{Fault}
use Rattle.world_model.specs.declared.message.Call.{Call}
use Rattle.world_model.specs.declared.message.Reply.{Reply}
use Rattle.client_shelf.specs.declared.shelf.Shelf.{Shelf}
use Rattle.client_shelf.specs.declared.turn.Turn.{Turn}
use Rattle.client_shelf.specs.Spelling.{IsSpellable, AreSpellable}
use Rattle.client_shelf.specs.declared.step.Step.{Step}
use Rattle.client_shelf.specs.declared.step.Step.TheVariants.{Send, Wait}
use Rattle.file_ops.specs.Ready.{IsReady}
use Rattle.op_machines.specs.declared.machine.Machine.{Machine}
use Rattle.op_machines.specs.Fits.{Fits}
use Rattle.op_machines.specs.Steps.{Starts, Resumes, Takes}

-- A step that no reply made possible and that waits, though there is room for a call, changes neither the operation nor the shelf.
abbrev pub WaitsStill : Type 0
WaitsStill = (wsize : ℕ) (machine : Machine) (turn : Turn) (old : Shelf) (next : Step) (new : Machine) (after : Shelf)
    → turn.room ≡ true → Resumes wsize machine turn old next new after → next ≡ Wait → (new ≡ machine) × (after ≡ old)

-- ---- its bytes go on to fit

abbrev pub StartsFit : Type 0
StartsFit = (wsize : ℕ) (machine : Machine) (turn : Turn) (old : Shelf) (next : Step) (new : Machine) (after : Shelf)
    → Starts wsize machine turn old next new after → Fits machine → Fits new

abbrev pub ResumesFit : Type 0
ResumesFit = (wsize : ℕ) (machine : Machine) (turn : Turn) (old : Shelf) (next : Step) (new : Machine) (after : Shelf)
    → Resumes wsize machine turn old next new after → Fits machine → Fits new

abbrev pub TakesFit : Type 0
TakesFit = (wsize : ℕ) (machine : Machine) (sent turn : Turn) (came : Result Reply Fault) (old : Shelf) (next : Step) (new : Machine) (after : Shelf)
    → Takes wsize machine sent turn came old next new after → Fits machine → Fits new

-- ---- what a step leaves for the next one: numbers of writes and xids stay below the next ones

abbrev pub StaysReady : Turn → Shelf → Shelf → Type 0
StaysReady turn old new = IsReady turn.xid old.seq old.back → IsReady (turn.xid + 1) new.seq new.back

abbrev pub StartsReady : Type 0
StartsReady = (wsize : ℕ) (machine : Machine) (turn : Turn) (old : Shelf) (next : Step) (new : Machine) (after : Shelf)
    → Starts wsize machine turn old next new after → StaysReady turn old after

abbrev pub ResumesReady : Type 0
ResumesReady = (wsize : ℕ) (machine : Machine) (turn : Turn) (old : Shelf) (next : Step) (new : Machine) (after : Shelf)
    → Resumes wsize machine turn old next new after → StaysReady turn old after

abbrev pub TakesReady : Type 0
TakesReady = (wsize : ℕ) (machine : Machine) (sent turn : Turn) (came : Result Reply Fault) (old : Shelf) (next : Step) (new : Machine) (after : Shelf)
    → Takes wsize machine sent turn came old next new after → StaysReady turn old after

-- ---- a step that asks for no call leaves every xid free that was free

abbrev pub AsksNothing : Step → Type 0
AsksNothing next = (call : Call) → next ≡ Send call → ⊥

abbrev pub LeavesReady : Step → Shelf → Shelf → Type 0
LeavesReady next old new = (xid : ℕ) → AsksNothing next → IsReady xid old.seq old.back → IsReady xid new.seq new.back

abbrev pub StartsUnsent : Type 0
StartsUnsent = (wsize : ℕ) (machine : Machine) (turn : Turn) (old : Shelf) (next : Step) (new : Machine) (after : Shelf)
    → Starts wsize machine turn old next new after → LeavesReady next old after

abbrev pub ResumesUnsent : Type 0
ResumesUnsent = (wsize : ℕ) (machine : Machine) (turn : Turn) (old : Shelf) (next : Step) (new : Machine) (after : Shelf)
    → Resumes wsize machine turn old next new after → LeavesReady next old after

abbrev pub TakesUnsent : Type 0
TakesUnsent = (wsize : ℕ) (machine : Machine) (sent turn : Turn) (came : Result Reply Fault) (old : Shelf) (next : Step) (new : Machine) (after : Shelf)
    → Takes wsize machine sent turn came old next new after → LeavesReady next old after

-- ---- numbers of writes: a start or a reply gives out one at most, any other step none

abbrev pub StartsNumber : Type 0
StartsNumber = (wsize : ℕ) (machine : Machine) (turn : Turn) (old : Shelf) (next : Step) (new : Machine) (after : Shelf)
    → Starts wsize machine turn old next new after → after.seq ≤ old.seq + 1

abbrev pub ResumesNumber : Type 0
ResumesNumber = (wsize : ℕ) (machine : Machine) (turn : Turn) (old : Shelf) (next : Step) (new : Machine) (after : Shelf)
    → Resumes wsize machine turn old next new after → after.seq ≡ old.seq

abbrev pub TakesNumber : Type 0
TakesNumber = (wsize : ℕ) (machine : Machine) (sent turn : Turn) (came : Result Reply Fault) (old : Shelf) (next : Step) (new : Machine) (after : Shelf)
    → Takes wsize machine sent turn came old next new after → after.seq ≤ old.seq + 1

-- a refusal gives out none
abbrev pub RefusalsNumber : Type 0
RefusalsNumber = (wsize : ℕ) (machine : Machine) (sent turn : Turn) (fault : Fault) (old : Shelf) (next : Step) (new : Machine) (after : Shelf)
    → Takes wsize machine sent turn (Err fault) old next new after → after.seq ≡ old.seq

-- ---- a step that is told of no room asks for no call

abbrev pub StartsRoomless : Type 0
StartsRoomless = (wsize : ℕ) (machine : Machine) (turn : Turn) (old : Shelf) (next : Step) (new : Machine) (after : Shelf)
    → turn.room ≡ false → Starts wsize machine turn old next new after → AsksNothing next

abbrev pub ResumesRoomless : Type 0
ResumesRoomless = (wsize : ℕ) (machine : Machine) (turn : Turn) (old : Shelf) (next : Step) (new : Machine) (after : Shelf)
    → turn.room ≡ false → Resumes wsize machine turn old next new after → AsksNothing next

abbrev pub TakesRoomless : Type 0
TakesRoomless = (wsize : ℕ) (machine : Machine) (sent turn : Turn) (came : Result Reply Fault) (old : Shelf) (next : Step) (new : Machine) (after : Shelf)
    → turn.room ≡ false → Takes wsize machine sent turn came old next new after → AsksNothing next

-- ---- each call that a step asks for has a spelling, as long as each piece in flight has one

abbrev pub AsksSpellable : Step → Type 0
AsksSpellable next = (call : Call) → next ≡ Send call → IsSpellable call

abbrev pub StaysSpellable : Step → Shelf → Shelf → Type 0
StaysSpellable next old new = AreSpellable old.back → AreSpellable new.back × AsksSpellable next

abbrev pub StartsSpellable : Type 0
StartsSpellable = (wsize : ℕ) (machine : Machine) (turn : Turn) (old : Shelf) (next : Step) (new : Machine) (after : Shelf)
    → wsize ≤ 65536 → Fits machine → Starts wsize machine turn old next new after → StaysSpellable next old after

abbrev pub ResumesSpellable : Type 0
ResumesSpellable = (wsize : ℕ) (machine : Machine) (turn : Turn) (old : Shelf) (next : Step) (new : Machine) (after : Shelf)
    → wsize ≤ 65536 → Fits machine → Resumes wsize machine turn old next new after → StaysSpellable next old after

abbrev pub TakesSpellable : Type 0
TakesSpellable = (wsize : ℕ) (machine : Machine) (sent turn : Turn) (came : Result Reply Fault) (old : Shelf) (next : Step) (new : Machine) (after : Shelf)
    → wsize ≤ 65536 → Fits machine → Takes wsize machine sent turn came old next new after → StaysSpellable next old after

-- ---- a call that couldn't be made leaves nothing in flight

-- The operation asked for a call under the xid of the turn `sent`. The call isn't made: the operation takes a refusal in its place, with no
-- room for another call. Then nothing is in flight under that xid or a later one.
abbrev pub LeavesNothing : ℕ → Turn → Machine → Shelf → Type 0
LeavesNothing wsize sent machine shelf = (turn : Turn) (fault : Fault) (next : Step) (new : Machine) (after : Shelf)
    → turn.room ≡ false → Takes wsize machine sent turn (Err fault) shelf next new after → IsReady sent.xid after.seq after.back

abbrev pub StartsUnmade : Type 0
StartsUnmade = (wsize : ℕ) (machine : Machine) (turn : Turn) (old : Shelf) (call : Call) (new : Machine) (after : Shelf)
    → Starts wsize machine turn old (Send call) new after → IsReady turn.xid old.seq old.back → LeavesNothing wsize turn new after

abbrev pub ResumesUnmade : Type 0
ResumesUnmade = (wsize : ℕ) (machine : Machine) (turn : Turn) (old : Shelf) (call : Call) (new : Machine) (after : Shelf)
    → Resumes wsize machine turn old (Send call) new after → IsReady turn.xid old.seq old.back → LeavesNothing wsize turn new after

abbrev pub TakesUnmade : Type 0
TakesUnmade = (wsize : ℕ) (machine : Machine) (sent turn : Turn) (came : Result Reply Fault) (old : Shelf) (call : Call) (new : Machine) (after : Shelf)
    → Takes wsize machine sent turn came old (Send call) new after → IsReady turn.xid old.seq old.back → LeavesNothing wsize turn new after
