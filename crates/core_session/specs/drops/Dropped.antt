-- What a history and the core's view show once a close that was refused has given up what was pending of its file. (This is a rule of this client: NFS
-- version 3 has no closes, RFC 1813, section 1.5.)
use Rattle.std.specs.Prelude.{◌≡◌, ◌⊎◌, ◌<◌, ◌≤◌, ℕ, List, length, Some, slice_get}
use Rattle.open_files.specs.Slots.{IsOpen}
use Rattle.world_model.specs.declared.answer.Answer.{Answer}
use Rattle.world_model.specs.declared.answer.Answer.TheVariants.{Refused}
use Rattle.world_model.specs.declared.answer.Fault.{Fault}
use Rattle.world_model.specs.declared.entry.Entry.{Entry}
use Rattle.world_model.specs.declared.entry.Entry.TheVariants.{Delivered}
use Rattle.world_model.specs.declared.op.Op.TheVariants as ops
use Rattle.world_model.specs.Entries.{At}
use Rattle.claims.specs.Modes.{Modes}
use Rattle.world_model.specs.Operations.{Ended, UnderWay}
use Rattle.claims.specs.Slots.{IsOf}
use Rattle.claims.specs.Touched.{Left, GivesUp}
use Rattle.file_ops.specs.declared.close_file.CloseFile.{CloseFile}
use Rattle.file_ops.specs.declared.close_file.Closing.{Closing}
use Rattle.file_ops.specs.declared.close_file.Closing.TheVariants as closing
use Rattle.op_machines.specs.declared.file_machine.FileMachine.TheVariants as files
use Rattle.op_machines.specs.declared.machine.Machine.TheVariants as machines
use Rattle.client_core.specs.declared.lane.State.TheVariants.{Busy, Over}
use Rattle.client_core.specs.View.{View}

-- the close of the file removes it, or is about to: its sync has ended
abbrev pub IsPast : List ℕ → Closing → Type 0
IsPast file closing.Idle = ⊥
IsPast file (closing.Queued saving) = ⊥
IsPast file (closing.Saves saving) = ⊥
IsPast file (closing.ToRemove removal) = removal.file ≡ file
IsPast file (closing.Removing removal) = removal.file ≡ file

-- no operation is a close of the file past its sync
abbrev pub NonePast : View → List ℕ → Type 0
NonePast v file = (at number : ℕ) (c : CloseFile) → slice_get v.lanes at ≡ Some (record { number = number; state = Busy (machines.File (files.Close c)) })
    → IsPast file c.state → ⊥

-- a close of the file that has this answer, which isn't noted yet
pub record IsReady (m : Modes) (h : List Entry) (v : View) (file : List ℕ) (answer : Answer) : Type 0 where
  pub at : ℕ
  pub lane : ℕ
  pub slot : ℕ
  pub x : ℕ
  pub there : slice_get v.lanes at ≡ Some (record { number = lane; state = Over answer })
  pub under_way : UnderWay h lane x (length h) (ops.Close slot)
  pub of : IsOf m h x (ops.Close slot) file

-- a close of the file was refused: its answer isn't noted yet, or was noted at a place from `from` on
pub data IsRefused (m : Modes) (from : ℕ) (h : List Entry) (v : View) (file : List ℕ) : Type 0 where
  ready : (fault : Fault) → IsReady m h v file (Refused fault) → IsRefused m from h v file
  noted : (lane slot c j : ℕ) (fault : Fault) → IsOf m h c (ops.Close slot) file → Ended h lane c (ops.Close slot) j (Refused fault) → from ≤ j
      → IsRefused m from h v file

-- no record came at a place from `from` on and before `to`
abbrev pub StillBetween : List Entry → ℕ → ℕ → Type 0
StillBetween h from to = (i : ℕ) (bytes : List ℕ) → At h i (Delivered bytes) → from ≤ i → i < to → ⊥

-- From the place `from` on no record came, and a close of the file was refused; no slot holds the file; each close of it that is past its sync has its
-- answer, and that of one isn't noted yet.
pub record IsOwed (m : Modes) (from : ℕ) (h : List Entry) (v : View) (file : List ℕ) : Type 0 where
  pub since : from ≤ length h
  pub still : StillBetween h from (length h)
  pub shut : IsOpen v.shelf.opens file → ⊥
  pub none : NonePast v file
  pub answer : Answer
  pub some : IsReady m h v file answer
  pub refused : IsRefused m from h v file

-- The answer of the last close of the file was noted before a record came, and it or one just before was a refusal.
pub record WasLeft (m : Modes) (from : ℕ) (h : List Entry) (file : List ℕ) : Type 0 where
  pub k : ℕ
  pub late : from ≤ k
  pub soon : k < length h
  pub still : StillBetween h from k
  pub left : Left m h k file
  pub gives : GivesUp m h k file

-- One of these holds. (It isn't said which: which answer is that of the last close, the history shows only once all are noted.)
abbrev pub IsDropped : Modes → ℕ → List Entry → View → List ℕ → Type 0
IsDropped m from h v file = (IsOwed m from h v file ⊎ WasLeft m from h file → ⊥) → ⊥
