-- Of what is pending: which operation wrote it (RFC 1813, section 4.8).
use Rattle.std.specs.Prelude.{◌≡◌, ◌-◌, ℕ, List, Option, Some, None, false, nat_lt, if◌then◌else◌, slice_get, replicate}
use Rattle.write_back.specs.Segments.{Cell}
use Rattle.write_back.specs.Files.{Pending, of_file}
use Rattle.write_back.specs.Pieces.{Flown, rest_at, fly_at}
use Rattle.world_model.specs.declared.entry.Entry.{Entry}
use Rattle.world_model.specs.declared.entry.Entry.TheVariants.{Began}
use Rattle.world_model.specs.declared.op.Op.{Op}
use Rattle.world_model.specs.declared.op.Op.TheVariants as ops
use Rattle.world_model.specs.Entries.{At}
use Rattle.claims.specs.Modes.{Modes}
use Rattle.claims.specs.Slots.{IsOf}
use Rattle.claims.specs.Terms.{Terms}
use Rattle.op_machines.specs.declared.begun.Mounted.{Mounted}
use Rattle.client_core.specs.declared.setup.Setup.{Setup}
use Rattle.client_core.specs.View.{View}
use Rattle.core_facts.specs.SlotAnswers.{GoesWith}

-- the byte that bytes from an offset on have at a place
abbrev pub byte_from : ℕ → List ℕ → ℕ → Option ℕ
byte_from offset bytes place = if nat_lt place offset then None else slice_get bytes (place - offset)

-- the byte that an operation gives to a place of its file
abbrev pub byte_by : Op → ℕ → Option ℕ
byte_by (ops.Write slot offset bytes) place = byte_from offset bytes place
byte_by (ops.Fill slot offset count byte) place = byte_from offset (replicate count byte) place
byte_by (ops.Put path offset bytes) place = byte_from offset bytes place
byte_by op place = None

-- Its file is the one that its slot holds as it begins. (That a put's is the one to which its path leads isn't said.)
abbrev pub IsAtFile : Modes → List Entry → ℕ → Op → List ℕ → Type 0
IsAtFile m h x (ops.Put path offset bytes) f = Unit {0}
IsAtFile m h x op f = IsOf m h x op f

-- An operation that began gave this byte to the place of the file.
pub record IsWritten (m : Modes) (h : List Entry) (f : List ℕ) (place byte : ℕ) : Type 0 where
  pub lane : ℕ
  pub line : ℕ
  pub x : ℕ
  pub op : Op
  pub began : At h x (Began lane line op)
  pub gives : byte_by op place ≡ Some byte
  pub file : IsAtFile m h x op f

-- what is pending at a place, not in flight and in flight
pub record PlaceWritten (m : Modes) (h : List Entry) (back : Pending) (f : List ℕ) (place : ℕ) : Type 0 where
  pub rest : (cell : Cell) → rest_at (of_file f back) place ≡ Some cell → IsWritten m h f place cell.byte
  pub fly : (flown : Flown) → fly_at (of_file f back) place ≡ Some flown → IsWritten m h f place flown.byte

-- As long as the session isn't lost, no byte is pending that no operation gave.
abbrev pub PendingWritten : Type 0
PendingWritten = (m : Mounted) (terms : Terms) (setup : Setup) (h : List Entry) (v : View) → GoesWith m terms setup h v → v.lost ≡ false
    → (f : List ℕ) (place : ℕ) → PlaceWritten terms.modes h v.shelf.back f place
