-- How many pending bytes came by each write, and the file of the oldest of them.
use Rattle.std.specs.Prelude.{◌≡◌, ◌≢◌, ℕ, zero, suc, Bool, true, false, ◌+◌, ◌-◌, ◌<◌, ◌≤◌, ◌&&◌, nat_eq, nat_le, nat_lt, if◌then◌else◌, List, [], ◌∷◌, length, Option, Some, None, MatchOption, All}
use Rattle.std.specs.Ordering.{nat_cmp}
use Rattle.std.specs.Cmp.Lexicographic.{slice_cmp}
use Rattle.std.specs.Map.{lookup}
use Rattle.std.specs.BTreeMap.{is_at}
use Rattle.write_back.specs.declared.sent.Part.{Part}
use Rattle.write_back.specs.declared.ages.Age.{Age}
use Rattle.write_back.specs.declared.state.State.{State}
use Rattle.write_back.specs.declared.change.Change.{Change}
use Rattle.write_back.specs.Changes.{fate}
use Rattle.write_back.specs.Segments.{Segment, Segments}
use Rattle.write_back.specs.Pieces.{Sent, FilePending}
use Rattle.write_back.specs.Files.{Pending, of_file, IsCounted}

-- how many bytes of one segment came by the write with a number, and of several
abbrev pub bytes_by : ℕ → ℕ × Segment → ℕ
bytes_by n e = if nat_eq e.1.number n then length e.1.bytes else 0

abbrev pub written_by : ℕ → Segments → ℕ
written_by n [] = 0
written_by n (e ∷ es) = bytes_by n e + written_by n es

-- the same of parts of a piece
abbrev pub parts_by : ℕ → List Part → ℕ
parts_by n [] = 0
parts_by n (part ∷ parts) = (if nat_eq part.number n then part.size else 0) + parts_by n parts

-- the parts of a piece, if there is one
abbrev pub parts_in : Option Sent → List Part
parts_in None = []
parts_in (Some piece) = piece.parts

-- the same of pieces
abbrev pub flying_by : ℕ → List Sent → ℕ
flying_by n [] = 0
flying_by n (piece ∷ pieces) = parts_by n piece.parts + flying_by n pieces

-- the same of all that is pending of a file: what is in flight counts as the newest byte of its place too
abbrev pub pending_by : ℕ → FilePending → ℕ
pending_by n of = written_by n of.segments + flying_by n of.pieces

-- the writes that have pending bytes, by number
abbrev pub Writes : Type 0
Writes = List (ℕ × Age)

-- how many bytes of a file are kept of a write
abbrev pub kept_for : List ℕ → Option Age → ℕ
kept_for file None = 0
kept_for file (Some age) = if is_at (slice_cmp nat_cmp file) age.file then age.bytes else 0

abbrev pub kept_by : Writes → List ℕ → ℕ → ℕ
kept_by writes file n = kept_for file (lookup (is_at (nat_cmp n)) writes)

-- each write that is kept has pending bytes
abbrev pub HaveBytes : Writes → Type 0
HaveBytes writes = All (λ e. 0 < e.1.bytes) writes

-- so many bytes of each write fewer are kept
abbrev pub Lessens : (ℕ → ℕ) → Writes → Writes → Type 0
Lessens amount old new = (file : List ℕ) (n : ℕ) → kept_by new file n ≡ kept_by old file n - amount n

-- so many bytes of each write that is kept more are kept
abbrev pub raised_by : ℕ → ℕ → ℕ
raised_by amount zero = zero
raised_by amount (suc kept) = suc kept + amount

abbrev pub Raises : (ℕ → ℕ) → Writes → Writes → Type 0
Raises amount old new = (file : List ℕ) (n : ℕ) → kept_by new file n ≡ raised_by (amount n) (kept_by old file n)

-- as many are kept
abbrev pub SameKept : Writes → Writes → Type 0
SameKept old new = (file : List ℕ) (n : ℕ) → kept_by new file n ≡ kept_by old file n

-- an amount of one write alone
abbrev pub only : ℕ → ℕ → ℕ → ℕ
only number amount n = if nat_eq number n then amount else 0

-- no byte of a write is kept
abbrev pub IsUnknown : ℕ → Writes → Type 0
IsUnknown number writes = (file : List ℕ) → kept_by writes file number ≡ 0

-- a write of a file is kept, and the others as before
pub record Enters (number : ℕ) (file : List ℕ) (size : ℕ) (old new : Writes) : Type 0 where
  pub here : kept_by new file number ≡ size
  pub elsewhere : (other : List ℕ) → other ≢ file → kept_by new other number ≡ 0
  pub others : (other : List ℕ) (n : ℕ) → n ≢ number → kept_by new other n ≡ kept_by old other n

-- a file has the oldest write that is kept
pub record IsFirst (writes : Writes) (file : List ℕ) : Type 0 where
  pub number : ℕ
  pub there : 0 < kept_by writes file number
  pub least : (other : List ℕ) (n : ℕ) → 0 < kept_by writes other n → number ≤ n

abbrev pub IsEmpty : Writes → Type 0
IsEmpty writes = (file : List ℕ) (n : ℕ) → kept_by writes file n ≡ 0

abbrev pub TellsFirst : Writes → Option (List ℕ) → Type 0
TellsFirst writes told = MatchOption told (IsEmpty writes) (IsFirst writes)

-- whether a change takes a segment away
abbrev pub is_gone : Option State → Bool
is_gone None = true
is_gone (Some state) = false

-- how many bytes of a write go with the segments that begin between two places, by a change
abbrev pub gone_by : Change → ℕ → ℕ → ℕ → Segments → ℕ
gone_by change low high n [] = 0
gone_by change low high n (e ∷ es) =
    (if nat_le low e.0 && nat_lt e.0 high && is_gone (fate change e.1.number e.1.state) then bytes_by n e else 0) + gone_by change low high n es

-- how many go from a place on, of segments with a number up to another
abbrev pub cut_by : ℕ → ℕ → ℕ → Segments → ℕ
cut_by place upto n [] = 0
cut_by place upto n (e ∷ es) =
    (if nat_le e.1.number upto && nat_eq e.1.number n then length e.1.bytes - (place - e.0) else 0) + cut_by place upto n es

-- What is pending of a file lost bytes, and so many fewer are kept.
pub record Loses (old new : FilePending) (before after : Writes) : Type 0 where
  pub fewer : (n : ℕ) → pending_by n new ≤ pending_by n old
  pub less : Lessens (λ n. pending_by n old - pending_by n new) before after

-- Bytes of writes that are pending count once more, and so many more are kept.
pub record Gains (old new : FilePending) (before after : Writes) : Type 0 where
  pub more : (n : ℕ) → pending_by n old ≤ pending_by n new
  pub known : (n : ℕ) → pending_by n old ≡ 0 → pending_by n new ≡ 0
  pub raises : Raises (λ n. pending_by n new - pending_by n old) before after

-- A file got bytes of a new write over those of older ones.
pub record Takes (number : ℕ) (file : List ℕ) (old new : FilePending) (before after : Writes) : Type 0 where
  pub here : kept_by after file number ≡ pending_by number new
  pub elsewhere : (other : List ℕ) → other ≢ file → kept_by after other number ≡ 0
  pub fewer : (n : ℕ) → n ≢ number → pending_by n new ≤ pending_by n old
  pub less : (other : List ℕ) (n : ℕ) → n ≢ number → kept_by after other n ≡ kept_by before other n - (pending_by n old - pending_by n new)

-- of each write of each file as many bytes are kept as are pending
abbrev pub IsAged : Pending → Writes → Type 0
IsAged p writes = (file : List ℕ) (n : ℕ) → kept_by writes file n ≡ pending_by n (of_file file p)

-- what is kept beside all that is pending: how many bytes, and the writes by number
pub record IsKnown (p : Pending) (count : ℕ) (writes : Writes) : Type 0 where
  pub counted : IsCounted p count
  pub aged : IsAged p writes
