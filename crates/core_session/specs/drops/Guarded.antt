-- Why a byte that was written stays pending, unless a close saves or gives it up: a slot holds its file, or a close of it that was refused removes the file.
use Rattle.std.specs.Prelude.{◌≡◌, ◌≤◌, ℕ, List, Option, Some, None, slice_get}
use Rattle.std.specs.FinMap as map
use Rattle.open_files.specs.declared.opened.Opened.{Opened}
use Rattle.open_files.specs.Slots.{Place}
use Rattle.world_model.specs.declared.answer.Fault.{Fault}
use Rattle.file_ops.specs.declared.close_file.CloseFile.{CloseFile}
use Rattle.file_ops.specs.declared.close_file.Closing.{Closing}
use Rattle.file_ops.specs.declared.close_file.Closing.TheVariants as closing
use Rattle.file_ops.specs.declared.closing.Removal.{Removal}
use Rattle.file_ops.specs.declared.saving.Saving.{Saving}
use Rattle.op_machines.specs.declared.file_machine.FileMachine.TheVariants as files
use Rattle.op_machines.specs.declared.machine.Machine.TheVariants as machines
use Rattle.client_core.specs.declared.lane.State.TheVariants.{Busy}
use Rattle.client_core.specs.View.{View}

-- the save of a close whose slot isn't free yet, and the removal of one past its sync
abbrev pub save_in : Closing → Option Saving
save_in closing.Idle = None
save_in (closing.Queued saving) = Some saving
save_in (closing.Saves saving) = Some saving
save_in (closing.ToRemove removal) = None
save_in (closing.Removing removal) = None

abbrev pub removal_in : Closing → Option Removal
removal_in closing.Idle = None
removal_in (closing.Queued saving) = None
removal_in (closing.Saves saving) = None
removal_in (closing.ToRemove removal) = Some removal
removal_in (closing.Removing removal) = Some removal

-- the file of a close that found one
abbrev pub file_in : Closing → Option (List ℕ)
file_in closing.Idle = None
file_in (closing.Queued saving) = Some saving.file
file_in (closing.Saves saving) = Some saving.file
file_in (closing.ToRemove removal) = Some removal.file
file_in (closing.Removing removal) = Some removal.file

-- a close under way
pub record IsClose (v : View) (n : ℕ) (c : CloseFile) : Type 0 where
  pub at : ℕ
  pub there : slice_get v.lanes at ≡ Some (record { number = n; state = Busy (machines.File (files.Close c)) })

-- it saves a file, with all numbers up to one
pub record IsSaving (v : View) (n : ℕ) (c : CloseFile) (file : List ℕ) (upto : ℕ) : Type 0 where
  pub close : IsClose v n c
  pub save : Saving
  pub is : save_in c.state ≡ Some save
  pub file_is : save.file ≡ file
  pub upto_is : save.upto ≡ upto

-- What came with this number is kept: a slot holds the file, and if a close of it is under way, that saves it; or a close of the file was refused, which
-- removes it, and each other close of the file that is under way saves it.
pub data IsGuarded (number : ℕ) (v : View) (file : List ℕ) : Type 0 where
  slot : (place : Place) (of : Opened) → map.get v.shelf.opens place ≡ Some of → of.file ≡ file
      → ((c : CloseFile) (upto : ℕ) → IsSaving v place.0 c file upto → c.slot ≡ place.1 → number ≤ upto) → IsGuarded number v file
  past : (n : ℕ) (c : CloseFile) (removal : Removal) (fault : Fault) → IsClose v n c → removal_in c.state ≡ Some removal
      → removal.file ≡ file → removal.refusal ≡ Some fault
      → ((l : ℕ) (d : CloseFile) (upto : ℕ) → IsSaving v l d file upto → number ≤ upto) → IsGuarded number v file
