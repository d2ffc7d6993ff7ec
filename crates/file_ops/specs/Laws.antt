-- What holds of every step of an operation on files.
use Rattle.std.specs.Prelude.{◌≡◌, ℕ, ◌+◌, true, Result}
use Rattle.world_model.specs.declared.answer.Fault.{Fault}
use Rattle.world_model.specs.declared.message.Reply.{Reply}
use Rattle.page_cache.specs.Pages.{Pages}
use Rattle.write_back.specs.Files.{Pending}
use Rattle.client_shelf.specs.declared.shelf.Shelf.{Shelf}
use Rattle.client_shelf.specs.declared.turn.Turn.{Turn}
use Rattle.client_shelf.specs.declared.step.Step.{Step}
use Rattle.client_shelf.specs.declared.step.Step.TheVariants.{Wait}
use Rattle.file_ops.specs.declared.close_file.CloseFile.{CloseFile}
use Rattle.file_ops.specs.declared.close_file.Closing.{Closing}
use Rattle.file_ops.specs.declared.open_file.OpenFile.{OpenFile}
use Rattle.file_ops.specs.declared.put_file.PutFile.{PutFile}
use Rattle.file_ops.specs.declared.put_file.Putting.{Putting}
use Rattle.file_ops.specs.declared.truncate_file.Truncating.{Truncating}
use Rattle.file_ops.specs.declared.sync_file.SyncFile.{SyncFile}
use Rattle.file_ops.specs.declared.sync_file.Syncing.{Syncing}
use Rattle.file_ops.specs.declared.truncate_file.TruncateFile.{TruncateFile}
use Rattle.file_ops.specs.declared.read_file.ReadFile.{ReadFile}
use Rattle.file_ops.specs.declared.write_file.WriteFile.{WriteFile}
use Rattle.file_ops.specs.declared.write_file.Writing.{Writing}
use Rattle.file_ops.specs.Ready.{IsReady}
use Rattle.file_ops.specs.ReadFile as reads
use Rattle.file_ops.specs.Opening.{go_next}
use Rattle.file_ops.specs.OpenFile.{goes_as, gone}
use Rattle.file_ops.specs.TruncateFile.{resumed_next, resumed_state, TookBack}
use Rattle.file_ops.specs.Closes as closes
use Rattle.file_ops.specs.PutFile as puts
use Rattle.file_ops.specs.Syncs as syncs
use Rattle.file_ops.specs.WriteFile as writes

-- A step that no reply made possible and that waits, though there is room for a call, changes neither the operation nor the shelf.
abbrev pub SyncWaitsStill : Type 0
SyncWaitsStill = (at : Syncing) (wsize : ℕ) (machine : SyncFile) (turn : Turn) (old : Shelf) (next : Step) (state : Syncing) (new : Shelf)
    → syncs.Resumes at wsize machine turn old next state new → next ≡ Wait → (state ≡ at) × (new ≡ old)

abbrev pub WriteWaitsStill : Type 0
WriteWaitsStill = (at : Writing) (wsize lane : ℕ) (turn : Turn) (old : Shelf) (next : Step) (state : Writing) (new : Shelf)
    → writes.ResumesIn at wsize lane turn old next state new → next ≡ Wait → (state ≡ at) × (new ≡ old)

abbrev pub CloseWaitsStill : Type 0
CloseWaitsStill = (at : Closing) (wsize : ℕ) (machine : CloseFile) (turn : Turn) (old : Shelf) (next : Step) (state : Closing) (new : Shelf)
    → turn.room ≡ true → closes.Resumes at wsize machine turn old next state new → next ≡ Wait → (state ≡ at) × (new ≡ old)

abbrev pub PutWaitsStill : Type 0
PutWaitsStill = (wsize : ℕ) (machine : PutFile) (turn : Turn) (old : Shelf) (next : Step) (new : PutFile) (after : Shelf)
    → puts.Resumes machine.state wsize machine turn old next new after → next ≡ Wait → (new ≡ machine) × (after ≡ old)

abbrev pub OpenWaitsStill : Type 0
OpenWaitsStill = (machine : OpenFile) (turn : Turn) → goes_as (go_next machine.opening turn) ≡ Wait → gone machine turn ≡ machine

abbrev pub TruncateWaitsStill : Type 0
TruncateWaitsStill = (machine : TruncateFile) (turn : Turn) (old : Shelf) → resumed_next machine.state machine turn old ≡ Wait
    → resumed_state machine.state machine turn old ≡ machine.state

abbrev pub ReadWaitsStill : Type 0
ReadWaitsStill = (machine : ReadFile) (pages : Pages) (back : Pending) (next : Step) (new : ReadFile) (later : Pages)
    → reads.ResumesIn machine.reading true machine pages back next new later → next ≡ Wait → (new ≡ machine) × (later ≡ pages)

-- ---- what a step needs, and leaves for the next one: see `Ready`

abbrev pub StaysReady : Turn → Shelf → Shelf → Type 0
StaysReady turn old new = IsReady turn.xid old.seq old.back → IsReady (turn.xid + 1) new.seq new.back

abbrev pub SyncStartsReady : Type 0
SyncStartsReady = (wsize : ℕ) (machine : SyncFile) (turn : Turn) (old : Shelf) (next : Step) (state : Syncing) (new : Shelf)
    → syncs.Starts wsize machine turn old next state new → StaysReady turn old new

abbrev pub SyncResumesReady : Type 0
SyncResumesReady = (at : Syncing) (wsize : ℕ) (machine : SyncFile) (turn : Turn) (old : Shelf) (next : Step) (state : Syncing) (new : Shelf)
    → syncs.Resumes at wsize machine turn old next state new → StaysReady turn old new

abbrev pub SyncTakesReady : Type 0
SyncTakesReady =
    (at : Syncing) (wsize : ℕ) (machine : SyncFile) (sent turn : Turn) (came : Result Reply Fault) (old : Shelf) (next : Step) (state : Syncing) (new : Shelf)
    → syncs.Takes at wsize machine sent turn came old next state new → StaysReady turn old new

abbrev pub CloseStartsReady : Type 0
CloseStartsReady = (wsize : ℕ) (machine : CloseFile) (turn : Turn) (old : Shelf) (next : Step) (state : Closing) (new : Shelf)
    → closes.Starts wsize machine turn old next state new → StaysReady turn old new

abbrev pub CloseResumesReady : Type 0
CloseResumesReady = (at : Closing) (wsize : ℕ) (machine : CloseFile) (turn : Turn) (old : Shelf) (next : Step) (state : Closing) (new : Shelf)
    → closes.Resumes at wsize machine turn old next state new → StaysReady turn old new

abbrev pub CloseTakesReady : Type 0
CloseTakesReady =
    (at : Closing) (wsize : ℕ) (machine : CloseFile) (sent turn : Turn) (came : Result Reply Fault) (old : Shelf) (next : Step) (state : Closing) (new : Shelf)
    → closes.Takes at wsize machine sent turn came old next state new → StaysReady turn old new

abbrev pub WriteStartsReady : Type 0
WriteStartsReady = (wsize : ℕ) (machine : WriteFile) (turn : Turn) (old : Shelf) (next : Step) (new : WriteFile) (after : Shelf)
    → writes.Starts wsize machine turn old next new after → StaysReady turn old after

abbrev pub WriteResumesReady : Type 0
WriteResumesReady = (at : Writing) (wsize lane : ℕ) (turn : Turn) (old : Shelf) (next : Step) (new : Writing) (after : Shelf)
    → writes.ResumesIn at wsize lane turn old next new after → StaysReady turn old after

abbrev pub WriteTakesReady : Type 0
WriteTakesReady =
    (at : Writing) (wsize : ℕ) (machine : WriteFile) (sent turn : Turn) (came : Result Reply Fault) (old : Shelf) (next : Step) (new : Writing) (after : Shelf)
    → writes.TakesIn at wsize machine sent turn came old next new after → StaysReady turn old after

abbrev pub PutResumesReady : Type 0
PutResumesReady = (at : Putting) (wsize : ℕ) (machine : PutFile) (turn : Turn) (old : Shelf) (next : Step) (new : PutFile) (after : Shelf)
    → puts.Resumes at wsize machine turn old next new after → StaysReady turn old after

abbrev pub PutTakesReady : Type 0
PutTakesReady =
    (at : Putting) (wsize : ℕ) (machine : PutFile) (sent turn : Turn) (came : Result Reply Fault) (old : Shelf) (next : Step) (new : PutFile) (after : Shelf)
    → puts.Takes at wsize machine sent turn came old next new after → StaysReady turn old after

-- a truncate changes no number
abbrev pub TruncateTakesReady : Type 0
TruncateTakesReady = (at : Truncating) (machine : TruncateFile) (came : Result Reply Fault) (xid seq : ℕ) (old new : Pending)
    → TookBack at machine came old new → IsReady xid seq old → IsReady (xid + 1) seq new
