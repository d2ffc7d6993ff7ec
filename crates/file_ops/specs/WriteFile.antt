-- A write or a fill, step by step: its bytes become pending. If there is no room for them, the file with the oldest pending byte is
-- made stable first.
use Rattle.std.specs.Prelude.{◌≡◌, ◌≤◌, ◌⊎◌, ℕ, ◌+◌, ◌-◌, List, [], length, replicate, Bool, true, false, Result, Ok, Err}
use Rattle.world_model.specs.declared.answer.Fault.{Fault}
use Rattle.world_model.specs.declared.answer.Fault.TheVariants as faults
use Rattle.world_model.specs.declared.answer.Answer.TheVariants.{Done as done, Refused as refused}
use Rattle.world_model.specs.declared.answer.Value.TheVariants.{Nothing}
use Rattle.client_shelf.specs.declared.repeats.Repeat.{Repeat}
use Rattle.client_shelf.specs.declared.turn.Turn.{Turn}
use Rattle.client_shelf.specs.declared.shelf.Shelf.{Shelf}
use Rattle.client_shelf.specs.LaneFiles.{left, is_first}
use Rattle.write_back.specs.Files.{Pending, of_file, all_pending, OnFile, with_bytes, IsNothing, IsOldest}
use Rattle.client_shelf.specs.declared.step.Step.{Step}
use Rattle.client_shelf.specs.declared.step.Step.TheVariants.{Send, Wait, Done}
use Rattle.file_ops.specs.declared.saving.Saving.{Saving}
use Rattle.file_ops.specs.declared.saving.SavingStep.{SavingStep}
use Rattle.file_ops.specs.declared.saving.SavingStep.TheVariants as save
use Rattle.file_ops.specs.declared.write_file.WriteFile.{WriteFile}
use Rattle.file_ops.specs.declared.write_file.Text.{Text}
use Rattle.file_ops.specs.declared.write_file.Text.TheVariants.{Given, Fill}
use Rattle.file_ops.specs.declared.write_file.Writing.{Writing}
use Rattle.file_ops.specs.declared.write_file.Writing.TheVariants.{Idle, Room}
use Rattle.file_ops.specs.Adding.{counted, is_full}
use Rattle.file_ops.specs.Opens.{file_to_write}
use Rattle.file_ops.specs.SlotFiles.{joined}
use Rattle.file_ops.specs.Saves.{begun, Goes, Takes, pages_after}
use Rattle.file_ops.specs.Judging.{after_of}
use Rattle.client_shelf.specs.Learning.{Learns}
use Rattle.attr_cache.specs.Attrs.{Attrs}
use Rattle.world_model.specs.declared.message.Reply.{Reply}

-- the bytes that are to be written
abbrev pub text_bytes : Text → List ℕ
text_bytes (Given bytes) = bytes
text_bytes (Fill count byte) = replicate count byte

-- those of them that were made; a fill's are made at its start
abbrev pub made_bytes : Text → List ℕ
made_bytes (Given bytes) = bytes
made_bytes (Fill count byte) = []

-- what a step leads to
pub record Leads (next : Step) (state : Writing) (shelf : Shelf) (gives : Step) (new : Writing) (after : Shelf) : Type 0 where
  pub gives_next : gives ≡ next
  pub keeps : new ≡ state
  pub shelf_is : after ≡ shelf

-- It is refused, and nothing is changed.
abbrev pub Refuses : Fault → Shelf → Step → Writing → Shelf → Type 0
Refuses fault shelf next new after = Leads (Done (refused fault)) Idle shelf next new after

-- The bytes are pending, and no others that weren't.
pub record Adds (file : List ℕ) (offset : ℕ) (bytes : List ℕ) (shelf : Shelf) (next : Step) (new : Writing) (after : Shelf) : Type 0 where
  pub leads : Leads (Done (done Nothing)) Idle (counted after.back shelf) next new after
  pub adds : OnFile shelf.back after.back file (with_bytes offset bytes (shelf.seq + 1) (of_file file shelf.back))
  pub total : all_pending after.back ≤ all_pending shelf.back + length bytes

-- What a step of the save for room leads to. A save that hasn't just taken a reply never ends well.
abbrev pub room_next : SavingStep → Step
room_next (save.Send call) = Send call
room_next save.Wait = Wait
room_next (save.Ended (Ok nothing)) = Wait
room_next (save.Ended (Err fault)) = Done (refused fault)

abbrev pub room_state : SavingStep → List ℕ → Saving → Writing
room_state (save.Send call) file saving = Room file saving
room_state save.Wait file saving = Room file saving
room_state (save.Ended (Ok nothing)) file saving = Room file saving
room_state (save.Ended (Err fault)) file saving = Idle

abbrev pub room_shelf : SavingStep → ℕ → Shelf → Shelf
room_shelf (save.Send call) lane shelf = shelf
room_shelf save.Wait lane shelf = shelf
room_shelf (save.Ended (Ok nothing)) lane shelf = shelf
room_shelf (save.Ended (Err fault)) lane shelf = record shelf { order = left lane shelf.order }

-- a step of the save, and what it leads to
pub record Saves (wsize lane : ℕ) (file : List ℕ) (saving : Saving) (turn : Turn) (shelf : Shelf) (next : Step) (new : Writing) (after : Shelf) : Type 0 where
  pub told : SavingStep
  pub saved : Saving
  pub back : Pending
  pub goes : Goes wsize turn.xid turn.room false saving shelf.back told saved back
  pub leads : Leads (room_next told) (room_state told file saved) (room_shelf told lane (record shelf { back = back })) next new after

-- The save goes on in its turn, and waits before.
abbrev pub SavesIf : Bool → ℕ → ℕ → List ℕ → Saving → Turn → Shelf → Step → Writing → Shelf → Type 0
SavesIf true wsize lane file saving turn shelf next new after = Saves wsize lane file saving turn shelf next new after
SavesIf false wsize lane file saving turn shelf next new after = Leads Wait (Room file saving) shelf next new after

abbrev pub SavesInTurn : ℕ → ℕ → List ℕ → Saving → Turn → Shelf → Step → Writing → Shelf → Type 0
SavesInTurn wsize lane file saving turn shelf next new after = SavesIf (is_first lane shelf.order) wsize lane file saving turn shelf next new after

-- The file with the oldest pending byte is saved.
pub record SavesOldest (wsize lane : ℕ) (file : List ℕ) (turn : Turn) (shelf : Shelf) (next : Step) (new : Writing) (after : Shelf) : Type 0 where
  pub of : List ℕ
  pub oldest : IsOldest shelf.back of
  pub saves : SavesInTurn wsize lane file (begun of shelf.seq) turn (joined lane of shelf) next new after

-- There is no room: with nothing pending, more bytes are written than may ever be.
abbrev pub MakesRoom : ℕ → ℕ → List ℕ → Turn → Shelf → Step → Writing → Shelf → Type 0
MakesRoom wsize lane file turn shelf next new after =
    SavesOldest wsize lane file turn shelf next new after ⊎ IsNothing shelf.back × Refuses faults.Memory shelf next new after

abbrev pub WritesIf : Bool → ℕ → ℕ → List ℕ → ℕ → List ℕ → Turn → Shelf → Step → Writing → Shelf → Type 0
WritesIf true wsize lane file offset bytes turn shelf next new after = MakesRoom wsize lane file turn shelf next new after
WritesIf false wsize lane file offset bytes turn shelf next new after =
    Adds file offset bytes shelf next new after ⊎ Refuses faults.Memory shelf next new after

-- The bytes become pending, or room is made for them.
abbrev pub Writes : ℕ → ℕ → List ℕ → ℕ → List ℕ → Turn → Shelf → Step → Writing → Shelf → Type 0
Writes wsize lane file offset bytes turn shelf next new after =
    WritesIf (is_full bytes shelf.back) wsize lane file offset bytes turn shelf next new after

-- the bytes were made
pub record WritesMade (wsize : ℕ) (machine : WriteFile) (file : List ℕ) (turn : Turn) (shelf : Shelf) (next : Step) (new : WriteFile)
    (after : Shelf) : Type 0 where
  pub text : new ≡ record machine { text = Given (text_bytes machine.text); state = new.state }
  pub writes : Writes wsize machine.lane file machine.offset (text_bytes machine.text) turn shelf next new.state after

-- It is refused before any were made.
pub record RefusesUnmade (fault : Fault) (machine : WriteFile) (shelf : Shelf) (next : Step) (new : WriteFile) (after : Shelf) : Type 0 where
  pub text : new ≡ record machine { state = new.state }
  pub refuses : Refuses fault shelf next new.state after

-- At its start it makes its bytes, if its file may be written.
abbrev pub StartsAt : Result (List ℕ) Fault → ℕ → WriteFile → Turn → Shelf → Step → WriteFile → Shelf → Type 0
StartsAt (Err fault) wsize machine turn shelf next new after = RefusesUnmade fault machine shelf next new after
StartsAt (Ok file) wsize machine turn shelf next new after =
    WritesMade wsize machine file turn shelf next new after ⊎ RefusesUnmade faults.Memory machine shelf next new after

abbrev pub Starts : ℕ → WriteFile → Turn → Shelf → Step → WriteFile → Shelf → Type 0
Starts wsize machine turn shelf next new after = StartsAt (file_to_write machine.lane machine.slot shelf.opens) wsize machine turn shelf next new after

-- It goes on if it makes room.
abbrev pub ResumesIn : Writing → ℕ → ℕ → Turn → Shelf → Step → Writing → Shelf → Type 0
ResumesIn Idle wsize lane turn shelf next new after = Leads Wait Idle shelf next new after
ResumesIn (Room file saving) wsize lane turn shelf next new after = SavesInTurn wsize lane file saving turn shelf next new after

-- When the save has ended well, the lane leaves its place and the bytes are written.
abbrev pub Follows : SavingStep → ℕ → WriteFile → List ℕ → Saving → Turn → Shelf → Step → Writing → Shelf → Type 0
Follows (save.Ended (Ok nothing)) wsize machine file saved turn shelf next new after =
    Writes wsize machine.lane file machine.offset (made_bytes machine.text) turn (record shelf { order = left machine.lane shelf.order }) next new after
Follows told wsize machine file saved turn shelf next new after =
    Leads (room_next told) (room_state told file saved) (room_shelf told machine.lane shelf) next new after

-- The save takes what came of its call. Kept pages follow it, and attributes are learnt.
pub record TakesSave (wsize : ℕ) (machine : WriteFile) (sent turn : Turn) (came : Result Reply Fault) (file : List ℕ) (saving : Saving) (shelf : Shelf)
    (next : Step) (new : Writing) (after : Shelf) : Type 0 where
  pub told : SavingStep
  pub saved : Saving
  pub attrs : Attrs
  pub back : Pending
  pub repeats : List Repeat
  pub takes : Takes wsize sent turn came shelf.repeats saving shelf.back told saved back repeats
  pub learns : Learns saving.file (after_of came) sent.now shelf.attrs attrs
  pub follows : Follows told wsize machine file saved turn (record shelf
      { attrs = attrs; pages = pages_after sent.xid (turn.moment - 1) came saving shelf.back shelf.pages; back = back; repeats = repeats }) next new after

-- What comes if it asked for nothing means nothing.
abbrev pub TakesIn : Writing → ℕ → WriteFile → Turn → Turn → Result Reply Fault → Shelf → Step → Writing → Shelf → Type 0
TakesIn Idle wsize machine sent turn came shelf next new after = Leads Wait Idle shelf next new after
TakesIn (Room file saving) wsize machine sent turn came shelf next new after = TakesSave wsize machine sent turn came file saving shelf next new after
