-- What is pending, by file, and what each call makes of it (RFC 1813, sections 3.3.7, 3.3.21 and 4.8).
use Rattle.std.specs.Prelude.{◌≡◌, ◌≢◌, ℕ, ◌<◌, ◌≤◌, List, [], ◌∷◌, ◌++◌, map, Option, Some, None, unwrap_or, Contains, MatchOption, IsSomeAnd, Result, Ok, Err}
use Rattle.std.specs.Ordering.{nat_cmp}
use Rattle.std.specs.Cmp.Lexicographic.{slice_cmp}
use Rattle.std.specs.List.{sum_by, concat}
use Rattle.std.specs.Map.{lookup, values_of}
use Rattle.std.specs.BTreeMap.{is_at}
use Rattle.xdr_codec.specs.declared.blob.Memory.{Memory}
use Rattle.write_back.specs.declared.piece.Piece.{Piece}
use Rattle.write_back.specs.Choice.{piece_of, with_sent}
use Rattle.write_back.specs.Places.{PutsInFlight}
use Rattle.write_back.specs.Segments.{Segments, added}
use Rattle.write_back.specs.Pieces.{Sent, FilePending, nothing, piece_under, pending_of}
use Rattle.write_back.specs.Sound.{IsSound, most_pending}

-- what is pending, by file
abbrev pub Pending : Type 0
Pending = List (List ℕ × FilePending)

-- what is pending of a file
abbrev pub of_file : List ℕ → Pending → FilePending
of_file file p = unwrap_or (lookup (is_at (slice_cmp nat_cmp file)) p) nothing

-- a call changes what is pending of one file alone
pub record OnFile (old new : Pending) (file : List ℕ) (to : FilePending) : Type 0 where
  pub here : of_file file new ≡ to
  pub others : (other : List ℕ) → other ≢ file → of_file other new ≡ of_file other old

-- how many bytes are pending in all
abbrev pub all_pending : Pending → ℕ
all_pending p = sum_by pending_of (values_of p)

-- what is pending of a file after new bytes
abbrev pub with_bytes : ℕ → List ℕ → ℕ → FilePending → FilePending
with_bytes offset [] number of = of
with_bytes offset (b ∷ bs) number of = record { segments = added offset (b ∷ bs) number of.segments; pieces = of.pieces }

-- the numbers of the writes that have pending bytes
abbrev pub numbers_of : FilePending → List ℕ
numbers_of of = map (λ e. e.1.number) of.segments ++ concat (map (λ piece. map (λ part. part.number) piece.parts) of.pieces)

-- a number is above all of these
abbrev pub IsNewest : ℕ → Pending → Type 0
IsNewest number p = (file : List ℕ) (other : ℕ) → Contains (numbers_of (of_file file p)) other → other < number

-- a file has the least number
pub record IsOldest (p : Pending) (file : List ℕ) : Type 0 where
  pub number : ℕ
  pub there : Contains (numbers_of (of_file file p)) number
  pub least : (other : List ℕ) (n : ℕ) → Contains (numbers_of (of_file other p)) n → number ≤ n

-- no byte is pending
abbrev pub IsNothing : Pending → Type 0
IsNothing p = (file : List ℕ) → of_file file p ≡ nothing

-- the file of the least number is told, or that nothing is pending
abbrev pub TellsOldest : Pending → Option (List ℕ) → Type 0
TellsOldest p told = MatchOption told (IsNothing p) (IsOldest p)

-- of a file with no piece in flight
abbrev pub HasNoPiece : List ℕ → Pending → Type 0
HasNoPiece file p = (of_file file p).pieces ≡ []

-- nothing of a file is in flight under an xid
abbrev pub IsFree : ℕ → List ℕ → Pending → Type 0
IsFree xid file p = piece_under xid (of_file file p).pieces ≡ None

-- a piece has the bytes of what was sent
pub record ShowsBytes (sent : Sent) (piece : Piece) : Type 0 where
  pub offset : piece.offset ≡ sent.offset
  pub bytes : piece.bytes.now ≡ sent.bytes
  pub how : piece.how ≡ sent.how

-- a piece is shown of these segments, if there are any
abbrev pub ShowsPiece : ℕ → Segments → Option Piece → Type 0
ShowsPiece xid [] shown = shown ≡ None
ShowsPiece xid (e ∷ es) shown = IsSomeAnd shown (ShowsBytes (piece_of xid e (e ∷ es)))

-- a piece that was sent is shown
abbrev pub ShowsSent : Option Sent → Option Piece → Type 0
ShowsSent None shown = shown ≡ None
ShowsSent (Some sent) shown = IsSomeAnd shown (ShowsBytes sent)

-- These segments are put in flight, as one piece, if there are any. As many bytes are pending in all as before.
abbrev pub PutsPiece : ℕ → ℕ → Segments → Pending → Pending → List ℕ → Type 0
PutsPiece xid upto [] old new file = new ≡ old
PutsPiece xid upto (e ∷ es) old new file =
    OnFile old new file (with_sent (piece_of xid e (e ∷ es)) (of_file file old))
    × PutsInFlight (piece_of xid e (e ∷ es)) upto (of_file file old) (of_file file new) × (all_pending new ≡ all_pending old)

-- When out of memory nothing is changed.
abbrev pub SendsPiece : ℕ → ℕ → Segments → Pending → Pending → List ℕ → Result (Option Piece) Memory → Type 0
SendsPiece xid upto run old new file (Ok shown) = PutsPiece xid upto run old new file
SendsPiece xid upto run old new file (Err memory) = new ≡ old

-- the pending bytes of each file are sound, and all are counted, at most 4,194,304
pub record IsCounted (p : Pending) (count : ℕ) : Type 0 where
  pub sound : (file : List ℕ) → IsSound (of_file file p)
  pub total : count ≡ all_pending p
  pub room : count ≤ most_pending
