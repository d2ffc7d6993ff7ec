-- What callers see of the pending bytes of a file: why a place waits, its byte, and where the last one ends (RFC 1813, section
-- 3.3.7).
use Rattle.std.specs.Prelude.{◌≡◌, ◌<◌, ◌≤◌, ◌^◌, ◌-◌, ℕ, true, List, length, Option, Some, None, IsSome, Contains, All, nat_eq, if◌then◌else◌}
use Rattle.std.specs.Option.{option_map}
use Rattle.write_back.specs.States.{how_of}
use Rattle.write_back.specs.Segments.{Segment, Cell, covers, end_of, newest_at}
use Rattle.write_back.specs.Pieces.{Sent, FilePending, Flown, flown_in, rest_at, fly_at, overlaps, end_of_sent}
use Rattle.write_back.specs.Files.{Pending, of_file, all_pending}
use Rattle.write_back.specs.Sound.{IsSound, most_pending}

-- a place has a byte in a segment that shares a place with a piece in flight
pub record IsBlocked (of : FilePending) (place : ℕ) : Type 0 where
  pub segment : ℕ × Segment
  pub there : Contains of.segments segment
  pub here : covers segment.0 (length segment.1.bytes) place ≡ true
  pub shares : overlaps of.pieces segment.0 (end_of segment) ≡ true

-- A piece of at most `wsize` bytes, at least one, below 2^63. Each of its places is to be sent as the piece is.
pub record FitsCall (wsize : ℕ) (piece : Sent) : Type 0 where
  pub some : 0 < length piece.bytes
  pub fits : length piece.bytes ≤ wsize
  pub last : end_of_sent piece ≤ 2 ^ 63 - 1
  pub flies : (place : ℕ) → covers piece.offset (length piece.bytes) place ≡ true → IsSome (flown_in piece place)
  pub how : (place : ℕ) (flown : Flown) → flown_in piece place ≡ Some flown → how_of flown.before ≡ piece.how

-- the byte at a place: the newer one that isn't in flight, else the one in flight
abbrev pub byte_pending : Option Cell → Option Flown → Option ℕ
byte_pending (Some cell) flown = Some cell.byte
byte_pending None (Some flown) = Some flown.byte
byte_pending None None = None

-- what is in flight at a place, once the piece under one xid has another
abbrev pub flown_as_of : ℕ → ℕ → Flown → Flown
flown_as_of xid to flown = if nat_eq flown.xid xid then record { byte = flown.byte; number = flown.number; xid = to; before = flown.before } else flown

pub record Renumbers (xid to : ℕ) (old new : FilePending) : Type 0 where
  pub rest : (place : ℕ) → rest_at new place ≡ rest_at old place
  pub fly : (place : ℕ) → fly_at new place ≡ option_map (flown_as_of xid to) (fly_at old place)

-- no byte is pending at a place
pub record IsClear (of : FilePending) (place : ℕ) : Type 0 where
  pub rest : rest_at of place ≡ None
  pub fly : fly_at of place ≡ None

-- the last byte ends at a place
pub record EndsAt (of : FilePending) (place : ℕ) : Type 0 where
  pub some : 0 < place
  pub last : IsSome (newest_at of.segments (place - 1))
  pub past : (later : ℕ) → place ≤ later → IsClear of later

-- The pending bytes of each file are sound, at most 4,194,304 bytes are pending in all, and each file stands once among them.
pub record AreSound (p : Pending) : Type 0 where
  pub files : (file : List ℕ) → IsSound (of_file file p)
  pub room : all_pending p ≤ most_pending
  pub once : All (λ e. of_file e.0 p ≡ e.1) p
