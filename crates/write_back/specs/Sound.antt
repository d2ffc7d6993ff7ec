-- What holds at any time of the pending bytes of a file (RFC 1813, section 3.3.7).
use Rattle.std.specs.Prelude.{◌≡◌, ◌⊎◌, ◌<◌, ◌≤◌, ◌^◌, ◌-◌, ℕ, Bool, true, false, List, [], ◌∷◌, length, Option, Some, None, ⊤}
use Rattle.std.specs.List.{sum_by}
use Rattle.write_back.specs.declared.state.State.{State}
use Rattle.write_back.specs.declared.state.State.TheVariants.{Waiting}
use Rattle.write_back.specs.declared.state.Ready.TheVariants.{Unsent}
use Rattle.write_back.specs.declared.sent.Part.{Part}
use Rattle.write_back.specs.States.{is_in_flight, is_ready}
use Rattle.write_back.specs.Segments.{Segments, Cell, AreApart, cell_at, end_of}
use Rattle.write_back.specs.Pieces.{Sent, FilePending, Flown, fly_at, piece_under, end_of_sent, overlaps, flying_of, pending_of}
use Rattle.write_back.specs.Places.{cell_flown}

-- the most bytes that may be pending
unfoldable pub most_pending : ℕ
most_pending = 4194304

-- no segment that passes a test goes on past a place
abbrev pub StopsAt : (State → Bool) → ℕ → Segments → Type 0
StopsAt test place [] = ⊤
StopsAt test place (e ∷ es) = (test e.1.state ≡ true → e.0 < place → end_of e ≤ place) × StopsAt test place es

-- each part of a piece has bytes
abbrev pub HaveSizes : List Part → Type 0
HaveSizes [] = ⊤
HaveSizes (part ∷ parts) = (0 < part.size) × HaveSizes parts

-- a piece has bytes, each of one of its parts, and ends at or below 2^63 - 1
pub record IsWhole (piece : Sent) : Type 0 where
  pub some : 0 < length piece.bytes
  pub sizes : HaveSizes piece.parts
  pub parts : sum_by (λ (part : Part). part.size) piece.parts ≡ length piece.bytes
  pub last : end_of_sent piece ≤ 2 ^ 63 - 1

-- whole pieces that share no place
abbrev pub AreSent : List Sent → Type 0
AreSent [] = ⊤
AreSent (piece ∷ pieces) = IsWhole piece × (overlaps pieces piece.offset (end_of_sent piece) ≡ false) × AreSent pieces

-- no two pieces have one xid
abbrev pub AreDistinct : List Sent → Type 0
AreDistinct [] = ⊤
AreDistinct (piece ∷ pieces) = (piece_under piece.xid pieces ≡ None) × AreDistinct pieces

-- no segment in flight goes on past an end of a piece
abbrev pub AreWithin : List Sent → Segments → Type 0
AreWithin [] es = ⊤
AreWithin (piece ∷ pieces) es = StopsAt is_in_flight piece.offset es × StopsAt is_in_flight (end_of_sent piece) es × AreWithin pieces es

-- The newest byte at a place is the one in flight there, or one of a later write that wasn't sent yet.
abbrev pub IsOver : Option Flown → Option Cell → Type 0
IsOver None None = ⊤
IsOver None (Some cell) = is_in_flight cell.state ≡ false
IsOver (Some flown) None = ⊥
IsOver (Some flown) (Some cell) = (cell ≡ cell_flown flown) ⊎ (cell.state ≡ Waiting Unsent) × (flown.number < cell.number)

-- a number is above those of all that is in flight
abbrev pub IsAbove : ℕ → FilePending → Type 0
IsAbove number of = (place : ℕ) (flown : Flown) → fly_at of place ≡ Some flown → flown.number < number

-- no segment that may be sent begins before a place
abbrev pub NoneBefore : ℕ → Segments → Type 0
NoneBefore place [] = ⊤
NoneBefore place (e ∷ es) = (is_ready e.1.state ≡ true → place ≤ e.0) × NoneBefore place es

-- What is pending of a file: segments share no place, nor do pieces, each of which has its own xid. Each place of a piece has its bytes or newer ones.
pub record IsSound (of : FilePending) : Type 0 where
  pub apart : AreApart 0 of.segments
  pub sent : AreSent of.pieces
  pub xids : AreDistinct of.pieces
  pub within : AreWithin of.pieces of.segments
  pub over : (place : ℕ) → IsOver (fly_at of place) (cell_at of.segments place)
  pub room : pending_of of ≤ most_pending

-- Beside it are kept how many bytes are in flight, and a place before which nothing may be sent.
pub record IsKept (of : FilePending) (flown resume : ℕ) : Type 0 where
  pub sound : IsSound of
  pub flying : flown ≡ flying_of of.pieces
  pub none : NoneBefore resume of.segments
