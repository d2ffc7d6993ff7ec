-- What a call makes of the places, in the words of the law of written bytes (RFC 1813, sections 3.3.7, 3.3.21 and 4.8).
use Rattle.std.specs.Prelude.{◌≡◌, ◌≢◌, ◌≤◌, ◌⊎◌, ℕ, List, Some, None}
use Rattle.write_back.specs.Files.{Pending, of_file, IsFree}
use Rattle.write_back.specs.Pieces.{Sent, piece_under}
use Rattle.model_writes.specs.Machine.{View, Flight, unsent, SameAt, PicksUp, Renamed}
use Rattle.model_writes.specs.Story.{File, Spot, covers}

-- new bytes came in under a number, not sent yet; what is in flight stays
pub record Lays (file : File) (offset : ℕ) (bytes : List ℕ) (number : ℕ) (old new : View) : Type 0 where
  pub there : (i : Spot) (y : ℕ) → covers file offset bytes i ≡ Some y → new.rest i ≡ Some (record { byte = y; number = number; mark = unsent })
  pub fly : (i : Spot) → new.fly i ≡ old.fly i
  pub others : (i : Spot) → covers file offset bytes i ≡ None → new.rest i ≡ old.rest i

-- exactly the places that these bytes cover take off under an xid, with these bytes
pub record TakesOff (x : ℕ) (file : File) (offset : ℕ) (bytes : List ℕ) (old new : View) : Type 0 where
  pub picks : (i : Spot) (y : ℕ) → covers file offset bytes i ≡ Some y → PicksUp old new x i y
  pub others : (i : Spot) → covers file offset bytes i ≡ None → SameAt old new i

-- what was in flight under one xid is in flight under another
pub record Renames (x y : ℕ) (old new : View) : Type 0 where
  pub rest : (i : Spot) → new.rest i ≡ old.rest i
  pub fly : (i : Spot) → Renamed x y (old.fly i) (new.fly i)

-- pending bytes of a file from a size on are gone; the others stay
abbrev pub CutsFrom : File → ℕ → View → View → Type 0
CutsFrom file size old new =
    (i : Spot) → SameAt old new i ⊎ ((i.file ≡ file) × (size ≤ i.at) × (new.rest i ≡ None) × (new.fly i ≡ old.fly i))

-- all that is pending of a file is gone, while nothing of it is in flight
pub record GivesAll (file : File) (old new : View) : Type 0 where
  pub grounded : (i : Spot) → i.file ≡ file → old.fly i ≡ None
  pub none : (i : Spot) → i.file ≡ file → (new.rest i ≡ None) × (new.fly i ≡ None)
  pub others : (i : Spot) → i.file ≢ file → SameAt old new i

-- nothing of another file is in flight under an xid
abbrev pub IsOf : ℕ → File → Pending → Type 0
IsOf xid file pending = (other : File) → other ≢ file → IsFree xid other pending

-- a byte in flight is that of the piece under its xid
pub record IsPieceOf (pending : Pending) (i : Spot) (f : Flight) : Type 0 where
  pub piece : Sent
  pub under : piece_under f.xid (of_file i.file pending).pieces ≡ Some piece
  pub byte : covers i.file piece.offset piece.bytes i ≡ Some f.byte
