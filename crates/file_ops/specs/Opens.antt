-- Which file an operation on a slot is at.
use Rattle.std.specs.Prelude.{ℕ, List, Option, Some, None, Result, Ok, Err}
use Rattle.std.specs.FinMap as map
use Rattle.nfs_types.specs.declared.mode.Mode.{Mode}
use Rattle.nfs_types.specs.declared.mode.Mode.TheVariants.{R, W, RW, C, X}
use Rattle.open_files.specs.declared.opened.Opened.{Opened}
use Rattle.open_files.specs.Slots.{Opens}
use Rattle.world_model.specs.declared.answer.Fault.{Fault}
use Rattle.world_model.specs.declared.answer.Fault.TheVariants as faults

-- a file that is open to be read alone isn't written
abbrev pub in_mode : Mode → List ℕ → Result (List ℕ) Fault
in_mode R file = Err faults.Mode
in_mode W file = Ok file
in_mode RW file = Ok file
in_mode C file = Ok file
in_mode X file = Ok file

abbrev pub of_open : Option Opened → Result (List ℕ) Fault
of_open None = Err faults.Slot
of_open (Some opened) = in_mode opened.mode opened.file

-- the file of a slot that may be written, or the fault
abbrev pub file_to_write : ℕ → ℕ → Opens → Result (List ℕ) Fault
file_to_write lane slot opens = of_open (map.get opens (lane, slot))
