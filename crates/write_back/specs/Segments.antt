-- The newest bytes of a file that are pending, as segments by offset (a client's write-back cache, RFC 1813, sections 3.3.7
-- and 4.8).
use Rattle.std.specs.Prelude.{ℕ, ◌+◌, ◌-◌, ◌<◌, ◌≤◌, ◌^◌, Bool, true, ◌&&◌, ◌||◌, nat_lt, nat_le, if◌then◌else◌, List, [], ◌∷◌, ◌++◌, length, take, drop, slice_index, Option, Some, None, ⊤, unwrap_or}
use Rattle.std.specs.List.{sum_by}
use Rattle.std.specs.Option.{option_map}
use Rattle.std.specs.Map.{values_of}
use Rattle.write_back.specs.declared.state.State.{State}
use Rattle.write_back.specs.declared.state.State.TheVariants.{Waiting}
use Rattle.write_back.specs.declared.state.Ready.TheVariants.{Unsent}
use Rattle.write_back.specs.States.{is_in_flight}

-- bytes that stand next to each other, the number of the write that they came by, and what became of them
pub record Segment : Type 0 where
  pub bytes : List ℕ
  pub number : ℕ
  pub state : State

-- segments by offset, in order
abbrev pub Segments : Type 0
Segments = List (ℕ × Segment)

-- the first n bytes of a segment, and the others
abbrev pub head_of : ℕ → Segment → Segment
head_of n s = record { bytes = take n s.bytes; number = s.number; state = s.state }

abbrev pub tail_of : ℕ → Segment → Segment
tail_of n s = record { bytes = drop n s.bytes; number = s.number; state = s.state }

abbrev pub with_state : State → Segment → Segment
with_state state s = record { bytes = s.bytes; number = s.number; state = state }

-- a segment that was just written
abbrev pub written : List ℕ → ℕ → Segment
written bytes number = record { bytes = bytes; number = number; state = Waiting Unsent }

-- where the bytes of a segment end
abbrev pub end_of : ℕ × Segment → ℕ
end_of e = e.0 + length e.1.bytes

-- how many bytes of a segment count for themselves: those in flight count with their piece
abbrev pub own_size : Segment → ℕ
own_size s = if is_in_flight s.state then 0 else length s.bytes

abbrev pub own_bytes : ℕ × Segment → ℕ
own_bytes e = own_size e.1

abbrev pub own_in : Option Segment → ℕ
own_in s = unwrap_or (option_map own_size s) 0

-- the same of all segments
abbrev pub own_of : Segments → ℕ
own_of es = sum_by own_size (values_of es)

-- Segments that have bytes, begin at `low` or after it, end at or below 2^63 - 1, and share no place.
abbrev pub AreApart : ℕ → Segments → Type 0
AreApart low [] = ⊤
AreApart low (e ∷ es) = (low ≤ e.0) × (0 < length e.1.bytes) × (end_of e ≤ 2 ^ 63 - 1) × AreApart (end_of e) es

-- the parts of segments before a place
abbrev pub before : ℕ → Segments → Segments
before place [] = []
before place (e ∷ es) = if nat_lt e.0 place then (e.0, head_of (place - e.0) e.1) ∷ before place es else []

-- the parts of segments at a place and after it
abbrev pub after : ℕ → Segments → Segments
after place [] = []
after place (e ∷ es) = if nat_le (end_of e) place then after place es else if nat_lt e.0 place then (place, tail_of (place - e.0) e.1) ∷ es else e ∷ es

-- New bytes at an offset: what older segments had there is gone.
abbrev pub added : ℕ → List ℕ → ℕ → Segments → Segments
added offset bytes number es = before offset es ++ (offset, written bytes number) ∷ after (offset + length bytes) es

-- the segment that goes on past a place is cut there, if it passes a test
abbrev pub split_if : (Segment → Bool) → ℕ → Segments → Segments
split_if test place [] = []
split_if test place (e ∷ es) =
    if nat_lt e.0 place then (if nat_lt place (end_of e) && test e.1 then (e.0, head_of (place - e.0) e.1) ∷ (place, tail_of (place - e.0) e.1) ∷ es
    else e ∷ split_if test place es) else e ∷ es

abbrev pub split : ℕ → Segments → Segments
split = split_if (λ _. true)

abbrev pub split_flying : ℕ → Segments → Segments
split_flying = split_if (λ s. is_in_flight s.state)

-- bytes at a place and after it go, of segments with a number up to another
abbrev pub cut_from : ℕ → ℕ → Segments → Segments
cut_from place upto [] = []
cut_from place upto (e ∷ es) =
    if nat_lt upto e.1.number || nat_le (end_of e) place then e ∷ cut_from place upto es else if nat_lt e.0 place
    then (e.0, head_of (place - e.0) e.1) ∷ cut_from place upto es else cut_from place upto es

-- what is pending at a place: the byte, the number of its write and what became of it
pub record Cell : Type 0 where
  pub byte : ℕ
  pub number : ℕ
  pub state : State

abbrev pub covers : ℕ → ℕ → ℕ → Bool
covers offset size place = nat_le offset place && nat_lt place (offset + size)

abbrev pub cell_in : ℕ × Segment → ℕ → Cell
cell_in e place = record { byte = slice_index e.1.bytes (place - e.0); number = e.1.number; state = e.1.state }

-- the newest of it at a place
abbrev pub cell_at : Segments → ℕ → Option Cell
cell_at [] place = None
cell_at (e ∷ es) place = if covers e.0 (length e.1.bytes) place then Some (cell_in e place) else cell_at es place

-- the newest byte at a place
abbrev pub byte_of : Option Cell → Option ℕ
byte_of None = None
byte_of (Some cell) = Some cell.byte

abbrev pub newest_at : Segments → ℕ → Option ℕ
newest_at es place = byte_of (cell_at es place)

-- bytes from a place on, with the newest pending byte over each place that has one
abbrev pub shown : Segments → ℕ → List ℕ → List ℕ
shown es place [] = []
shown es place (b ∷ bs) = unwrap_or (newest_at es place) b ∷ shown es (place + 1) bs

-- where the last pending byte ends
abbrev pub last_end : Segments → Option ℕ
last_end [] = None
last_end (e ∷ []) = Some (end_of e)
last_end (e ∷ f ∷ es) = last_end (f ∷ es)
