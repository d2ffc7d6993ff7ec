-- What is pending by place: for each place of a file the newest of it that isn't in flight, and what is in flight there. Each
-- call changes it over a range, and leaves the other places (RFC 1813, sections 3.3.7 and 4.8).
use Rattle.std.specs.Prelude.{◌≡◌, ◌⊎◌, ◌≤◌, ℕ, ◌-◌, true, ◌&&◌, nat_lt, nat_le, if◌then◌else◌, List, length, slice_index, Option, Some, None}
use Rattle.write_back.specs.declared.state.State.TheVariants.{Waiting, InFlight}
use Rattle.write_back.specs.declared.state.Ready.TheVariants.{Unsent}
use Rattle.write_back.specs.declared.change.Change.{Change}
use Rattle.write_back.specs.Segments.{Cell, covers}
use Rattle.write_back.specs.Changes.{cell_changed}
use Rattle.write_back.specs.Pieces.{Sent, FilePending, Flown, rest_at, fly_at, flown_in}

-- a byte of this write stands at the place, in flight or not
abbrev pub Stands : FilePending → ℕ → ℕ → Type 0
Stands of number place =
    ((cell : Cell) × (rest_at of place ≡ Some cell) × (cell.number ≡ number)) ⊎ ((flown : Flown) × (fly_at of place ≡ Some flown) × (flown.number ≡ number))

-- new bytes are the newest over their range; what is in flight stays
pub record PutsBytes (offset : ℕ) (bytes : List ℕ) (number : ℕ) (old new : FilePending) : Type 0 where
  pub rest : (place : ℕ) → rest_at new place ≡ (if covers offset (length bytes) place
      then Some (record { byte = slice_index bytes (place - offset); number = number; state = Waiting Unsent }) else rest_at old place)
  pub fly : (place : ℕ) → fly_at new place ≡ fly_at old place

-- A piece goes over from what isn't in flight: its places had these bytes, waiting, with numbers up to `upto`, and nothing was
-- in flight there.
pub record PutsInFlight (piece : Sent) (upto : ℕ) (old new : FilePending) : Type 0 where
  pub rest : (place : ℕ) → rest_at new place ≡ (if covers piece.offset (length piece.bytes) place then None else rest_at old place)
  pub fly : (place : ℕ) → fly_at new place ≡ (if covers piece.offset (length piece.bytes) place then flown_in piece place else fly_at old place)
  pub free : (place : ℕ) → covers piece.offset (length piece.bytes) place ≡ true → fly_at old place ≡ None
  pub was : (place : ℕ) (flown : Flown) → covers piece.offset (length piece.bytes) place ≡ true → flown_in piece place ≡ Some flown
      → rest_at old place ≡ Some (record { byte = flown.byte; number = flown.number; state = Waiting flown.before })
  pub old_enough : (place : ℕ) (flown : Flown) → flown_in piece place ≡ Some flown → flown.number ≤ upto

-- what is left at a place of what was in flight there, where newer bytes stay
abbrev pub cell_flown : Flown → Cell
cell_flown flown = record { byte = flown.byte; number = flown.number; state = InFlight flown.before }

abbrev pub cell_landed : Change → Option Flown → Option Cell
cell_landed change None = None
cell_landed change (Some flown) = cell_changed change (Some (cell_flown flown))

abbrev pub newer_or : Option Cell → Option Cell → Option Cell
newer_or None left = left
newer_or (Some cell) left = Some cell

-- A piece is in flight no more. Its first `count` bytes are changed by one change, the others by another, and newer bytes stay.
pub record Lands (piece : Sent) (count : ℕ) (first others : Change) (old new : FilePending) : Type 0 where
  pub rest : (place : ℕ) → rest_at new place ≡ (if covers piece.offset (length piece.bytes) place
      then newer_or (rest_at old place) (cell_landed (if nat_lt (place - piece.offset) count then first else others) (fly_at old place)) else rest_at old place)
  pub fly : (place : ℕ) → fly_at new place ≡ (if covers piece.offset (length piece.bytes) place then None else fly_at old place)

-- each place is changed alike; what is in flight stays
pub record ChangesAll (change : Change) (old new : FilePending) : Type 0 where
  pub rest : (place : ℕ) → rest_at new place ≡ cell_changed change (rest_at old place)
  pub fly : (place : ℕ) → fly_at new place ≡ fly_at old place

-- the places from one on lose what has a number up to another
abbrev pub cell_cut : ℕ → ℕ → ℕ → Option Cell → Option Cell
cell_cut size upto place None = None
cell_cut size upto place (Some cell) = if nat_le size place && nat_le cell.number upto then None else Some cell

pub record Cuts (size upto : ℕ) (old new : FilePending) : Type 0 where
  pub rest : (place : ℕ) → rest_at new place ≡ cell_cut size upto place (rest_at old place)
