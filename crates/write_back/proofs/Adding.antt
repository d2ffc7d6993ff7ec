-- New bytes, by place, and a cut.
use Rattle.std.proofs.Common.{◌≡◌, ◌<◌, ◌≤◌, ◌^◌, ℕ, ◌+◌, ◌-◌, ◌&&◌, Bool, true, false, List, [], ◌∷◌, ◌++◌, length, take, drop, min, Option, Some, None, refl, sym, ap, ◌∙◌, ◌⊎◌, inl, inr, arith, length-drop, length-take}
use Rattle.std.specs.Prelude.{nat_le, nat_lt, if◌then◌else◌, slice_index}
use Rattle.std.proofs.lemmas.Bool.{le-leb, lt-leb, ltb-true, ltb-false, leb-true, leb-false, cases_lt}
use Rattle.std.proofs.lemmas.List.{get_or-take, get_or-drop}
use Rattle.write_back.specs.declared.state.State.TheVariants.{Waiting}
use Rattle.write_back.specs.declared.state.Ready.TheVariants.{Unsent}
use Rattle.write_back.specs.States.{is_in_flight}
use Rattle.write_back.specs.Segments.{Segment, Segments, Cell, AreApart, end_of, covers, cell_in, cell_at, written, before, after, added, head_of, tail_of, cut_from}
use Rattle.write_back.specs.Pieces.{Flown, FilePending, rest_of, rest_at, fly_at, pending_of}
use Rattle.write_back.specs.Places.{PutsBytes, Cuts, cell_cut}
use Rattle.write_back.specs.Landing.{with_cut}
use Rattle.write_back.specs.Sound.{IsSound, IsOver, IsAbove, most_pending}
use Rattle.write_back.proofs.Keys.{past-range, before-range, low-of, high-of}
use Rattle.write_back.proofs.Cells.{later-none}
use Rattle.write_back.proofs.ByPlace.{covered}
use Rattle.write_back.proofs.Apart.{apart-after, apart-added, apart-cut}
use Rattle.write_back.proofs.Stops.{within-added}
use Rattle.write_back.proofs.OwnBytes.{own-added, own-cut}

-- the first part of a segment, and the others
pub cell-head : (n : ℕ) (e : ℕ × Segment) (es : Segments) (place : ℕ) → place < e.0 + n → cell_at ((e.0, head_of n e.1) ∷ es) place ≡ (if covers e.0 (length e.1.bytes) place then Some (cell_in e place) else cell_at es place)
cell-head n e es place less = by (covers e.0 (length e.1.bytes) place) refl
  where
    size : length (take n e.1.bytes) ≡ min n (length e.1.bytes)
    size = length-take n e.1.bytes

    by : (b : Bool) → covers e.0 (length e.1.bytes) place ≡ b → cell_at ((e.0, head_of n e.1) ∷ es) place ≡ (if b then Some (cell_in e place) else cell_at es place)
    by true h =
        let first : e.0 ≤ place = low-of e.0 (end_of e) place h in
        let last : place < end_of e = high-of e.0 (end_of e) place h in
        let here : covers e.0 (length (take n e.1.bytes)) place ≡ true = covered e.0 (length (take n e.1.bytes)) place first (omega (arith, size, less, last, first)) in
        let byte : slice_index (take n e.1.bytes) (place - e.0) ≡ slice_index e.1.bytes (place - e.0) = get_or-take n e.1.bytes (place - e.0) 0 (omega (arith, less, first)) in
        rw here (ap (λ b. Some (record { byte = b; number = e.1.number; state = e.1.state })) byte)
    by false h =
        let out : covers e.0 (length (take n e.1.bytes)) place ≡ false = outside (cases_lt place e.0) in
        rw out refl
      where
        outside : (place < e.0) ⊎ (e.0 ≤ place) → covers e.0 (length (take n e.1.bytes)) place ≡ false
        outside (inl below) = before-range e.0 (e.0 + length (take n e.1.bytes)) place below
        outside (inr above) = past (cases_lt place (end_of e))
          where
            past : (place < end_of e) ⊎ (end_of e ≤ place) → covers e.0 (length (take n e.1.bytes)) place ≡ false
            past (inl inside) = let wrong : true ≡ false = sym (covered e.0 (length e.1.bytes) place above inside) ∙ h in absurd cc
            past (inr beyond) = past-range e.0 (e.0 + length (take n e.1.bytes)) place (omega (arith, size, beyond))

pub cell-tail : (at : ℕ) (e : ℕ × Segment) (es : Segments) (place : ℕ) → e.0 ≤ at → at ≤ place → at < end_of e → cell_at ((at, tail_of (at - e.0) e.1) ∷ es) place ≡ (if covers e.0 (length e.1.bytes) place then Some (cell_in e place) else cell_at es place)
cell-tail at e es place first later last = by (cases_lt place (end_of e))
  where
    size : length (drop (at - e.0) e.1.bytes) ≡ length e.1.bytes - (at - e.0)
    size = length-drop (at - e.0) e.1.bytes

    by : (place < end_of e) ⊎ (end_of e ≤ place) → cell_at ((at, tail_of (at - e.0) e.1) ∷ es) place ≡ (if covers e.0 (length e.1.bytes) place then Some (cell_in e place) else cell_at es place)
    by (inl inside) =
        let here : covers at (length (drop (at - e.0) e.1.bytes)) place ≡ true = covered at (length (drop (at - e.0) e.1.bytes)) place later (omega (arith, size, inside, later, first)) in
        let all : covers e.0 (length e.1.bytes) place ≡ true = covered e.0 (length e.1.bytes) place (omega (arith, first, later)) inside in
        let sums : (at - e.0) + (place - at) ≡ place - e.0 = omega (arith, first, later) in
        let byte : slice_index (drop (at - e.0) e.1.bytes) (place - at) ≡ slice_index e.1.bytes (place - e.0) = get_or-drop (at - e.0) e.1.bytes (place - at) 0 ∙ ap (λ n. slice_index e.1.bytes n) sums in
        rw (here, all) (ap (λ b. Some (record { byte = b; number = e.1.number; state = e.1.state })) byte)
    by (inr beyond) =
        let off : covers at (length (drop (at - e.0) e.1.bytes)) place ≡ false = past-range at (at + length (drop (at - e.0) e.1.bytes)) place (omega (arith, size, beyond, first, last)) in
        let all : covers e.0 (length e.1.bytes) place ≡ false = past-range e.0 (end_of e) place beyond in
        rw (off, all) refl

cells-after : (at from : ℕ) (es : Segments) (place : ℕ) → AreApart from es → at ≤ place → cell_at (after at es) place ≡ cell_at es place
cells-after at from [] place apart le = refl
cells-after at from (e ∷ es) place apart le = by (nat_le (end_of e) at) (nat_lt e.0 at) refl refl (cells-after at (end_of e) es place apart.3 le)
  where
    by : (b d : Bool) → nat_le (end_of e) at ≡ b → nat_lt e.0 at ≡ d → cell_at (after at es) place ≡ cell_at es place → cell_at (after at (e ∷ es)) place ≡ cell_at (e ∷ es) place
    by true d h g more =
        let off : covers e.0 (length e.1.bytes) place ≡ false = past-range e.0 (end_of e) place (omega (arith, le, leb-true (end_of e) at h)) in
        rw (h, off) more
    by false true h g more = rw (h, g) (cell-tail at e es place (omega (arith, ltb-true e.0 at g)) le (leb-false (end_of e) at h))
    by false false h g more = rw (h, g) refl

cells-before : (at from : ℕ) (es ys : Segments) (place : ℕ) → AreApart from es → place < at → cell_at ys place ≡ None → cell_at (before at es ++ ys) place ≡ cell_at es place
cells-before at from [] ys place apart less none = none
cells-before at from (e ∷ es) ys place apart less none = by (nat_lt e.0 at) refl (cells-before at (end_of e) es ys place apart.3 less none)
  where
    same : (b : Bool) → cell_at (before at es ++ ys) place ≡ cell_at es place → (if b then Some (cell_in e place) else cell_at (before at es ++ ys) place) ≡ (if b then Some (cell_in e place) else cell_at es place)
    same true k = refl
    same false k = k

    by : (b : Bool) → nat_lt e.0 at ≡ b → cell_at (before at es ++ ys) place ≡ cell_at es place → cell_at (before at (e ∷ es) ++ ys) place ≡ cell_at (e ∷ es) place
    by true h more = rw h (cell-head (at - e.0) e (before at es ++ ys) place (omega (arith, less, ltb-true e.0 at h)) ∙ same (covers e.0 (length e.1.bytes) place) more)
    by false h more = rw h (none ∙ sym (later-none e.0 (e ∷ es) place (omega arith, apart.1, apart.2, apart.3) (omega (arith, less, ltb-false e.0 at h))))

cells-past : (at : ℕ) (es ys : Segments) (place : ℕ) → at ≤ place → cell_at (before at es ++ ys) place ≡ cell_at ys place
cells-past at [] ys place le = refl
cells-past at (e ∷ es) ys place le = by (nat_lt e.0 at) refl (cells-past at es ys place le)
  where
    by : (b : Bool) → nat_lt e.0 at ≡ b → cell_at (before at es ++ ys) place ≡ cell_at ys place → cell_at (before at (e ∷ es) ++ ys) place ≡ cell_at ys place
    by true h more =
        let off : covers e.0 (length (take (at - e.0) e.1.bytes)) place ≡ false = past-range e.0 (e.0 + length (take (at - e.0) e.1.bytes)) place (omega (arith, length-take (at - e.0) e.1.bytes, ltb-true e.0 at h, le)) in
        rw (h, off) more
    by false h more = rw h refl

abbrev fresh : List ℕ → ℕ → ℕ → ℕ → Cell
fresh bytes number offset place = record { byte = slice_index bytes (place - offset); number = number; state = Waiting Unsent }

pub cells-added : (offset : ℕ) (bytes : List ℕ) (number : ℕ) (es : Segments) (place : ℕ) → AreApart 0 es
    → cell_at (added offset bytes number es) place ≡ (if covers offset (length bytes) place then Some (fresh bytes number offset place) else cell_at es place)
cells-added offset bytes number es place apart = by (cases_lt place offset) (cases_lt place (offset + length bytes))
  where
    ys : Segments
    ys = (offset, written bytes number) ∷ after (offset + length bytes) es

    later : AreApart (offset + length bytes) (after (offset + length bytes) es)
    later = apart-after (offset + length bytes) 0 es apart

    by : (place < offset) ⊎ (offset ≤ place) → (place < offset + length bytes) ⊎ (offset + length bytes ≤ place)
        → cell_at (added offset bytes number es) place ≡ (if covers offset (length bytes) place then Some (fresh bytes number offset place) else cell_at es place)
    by (inl less) c =
        let off : covers offset (length bytes) place ≡ false = before-range offset (offset + length bytes) place less in
        let none : cell_at ((offset, written bytes number) ∷ after (offset + length bytes) es) place ≡ None = rw off (later-none (offset + length bytes) (after (offset + length bytes) es) place later (omega (arith, less))) in
        cells-before offset 0 es ((offset, written bytes number) ∷ after (offset + length bytes) es) place apart less none ∙ rw off refl
    by (inr more) (inl inside) =
        let here : covers offset (length bytes) place ≡ true = covered offset (length bytes) place more inside in
        cells-past offset es ((offset, written bytes number) ∷ after (offset + length bytes) es) place more ∙ rw here refl
    by (inr more) (inr beyond) =
        let off : covers offset (length bytes) place ≡ false = past-range offset (offset + length bytes) place beyond in
        cells-past offset es ((offset, written bytes number) ∷ after (offset + length bytes) es) place more ∙ rw off (cells-after (offset + length bytes) 0 es place apart beyond)

-- what is pending then
abbrev pub with_added : ℕ → List ℕ → ℕ → FilePending → FilePending
with_added offset bytes number of = record { segments = added offset bytes number of.segments; pieces = of.pieces }

pub puts-added : (offset : ℕ) (bytes : List ℕ) (number : ℕ) (of : FilePending) → AreApart 0 of.segments → PutsBytes offset bytes number of (with_added offset bytes number of)
puts-added offset bytes number of apart = record { rest = λ place. rest place (covers offset (length bytes) place) refl; fly = λ place. refl }
  where
    rest : (place : ℕ) (b : Bool) → covers offset (length bytes) place ≡ b → rest_of (cell_at (added offset bytes number of.segments) place) ≡ (if covers offset (length bytes) place then Some (fresh bytes number offset place) else rest_at of place)
    rest place true h = let is : cell_at (added offset bytes number of.segments) place ≡ Some (fresh bytes number offset place) = cells-added offset bytes number of.segments place apart ∙ rw h refl in rw (is, h) refl
    rest place false h = let is : cell_at (added offset bytes number of.segments) place ≡ cell_at of.segments place = cells-added offset bytes number of.segments place apart ∙ rw h refl in rw (is, h) refl

over-fresh : (o : Option Flown) (cell : Cell) → cell.state ≡ Waiting Unsent → ((flown : Flown) → o ≡ Some flown → flown.number < cell.number) → IsOver o (Some cell)
over-fresh None cell is above = ap is_in_flight is
over-fresh (Some flown) cell is above = inr (is, above flown refl)

pub sound-added : (offset : ℕ) (bytes : List ℕ) (number : ℕ) (of : FilePending) → IsSound of → 0 < length bytes → offset + length bytes ≤ 2 ^ 63 - 1 → pending_of of + length bytes ≤ most_pending → IsAbove number of → IsSound (with_added offset bytes number of)
sound-added offset bytes number of sound some last room above = record {
  apart = apart-added offset bytes number of.segments sound.apart some last;
  sent = sound.sent;
  xids = sound.xids;
  within = within-added offset bytes number of.pieces of.segments sound.apart sound.within;
  over = λ place. over place (covers offset (length bytes) place) refl;
  room = omega (arith, own-added offset bytes number of.segments sound.apart, room);
}
  where
    over : (place : ℕ) (b : Bool) → covers offset (length bytes) place ≡ b → IsOver (fly_at of place) (cell_at (added offset bytes number of.segments) place)
    over place true h = let is : cell_at (added offset bytes number of.segments) place ≡ Some (fresh bytes number offset place) = cells-added offset bytes number of.segments place sound.apart ∙ rw h refl in rw is (over-fresh (fly_at of place) (fresh bytes number offset place) refl (above place))
    over place false h = let is : cell_at (added offset bytes number of.segments) place ≡ cell_at of.segments place = cells-added offset bytes number of.segments place sound.apart ∙ rw h refl in rw is (sound.over place)

-- a cut
pub cells-cut : (at upto from : ℕ) (es : Segments) (place : ℕ) → AreApart from es → cell_at (cut_from at upto es) place ≡ cell_cut at upto place (cell_at es place)
cells-cut at upto from [] place apart = refl
cells-cut at upto from (e ∷ es) place apart = by (nat_lt upto e.1.number) (nat_le (end_of e) at) (nat_lt e.0 at) (covers e.0 (length e.1.bytes) place) refl refl refl refl (cells-cut at upto (end_of e) es place apart.3)
  where
    gone : place < end_of e → cell_at (cut_from at upto es) place ≡ cell_cut at upto place (cell_at es place) → cell_at (cut_from at upto es) place ≡ None
    gone inside more = more ∙ ap (cell_cut at upto place) (later-none (end_of e) es place apart.3 inside)

    by : (b c d f : Bool) → nat_lt upto e.1.number ≡ b → nat_le (end_of e) at ≡ c → nat_lt e.0 at ≡ d → covers e.0 (length e.1.bytes) place ≡ f → cell_at (cut_from at upto es) place ≡ cell_cut at upto place (cell_at es place)
        → cell_at (cut_from at upto (e ∷ es)) place ≡ cell_cut at upto place (if covers e.0 (length e.1.bytes) place then Some (cell_in e place) else cell_at es place)
    by true c d true h g k m more =
        let newer : nat_le e.1.number upto ≡ false = lt-leb e.1.number upto (ltb-true upto e.1.number h) in
        rw (h, m, newer) (stays (nat_le at place))
      where
        stays : (b : Bool) → Some (cell_in e place) ≡ (if b && false then None else Some (cell_in e place))
        stays true = refl
        stays false = refl
    by true c d false h g k m more = rw (h, m) more
    by false true d true h g k m more =
        let first : nat_le at place ≡ false = lt-leb at place (omega (arith, high-of e.0 (end_of e) place m, leb-true (end_of e) at g)) in
        rw (h, g, m, first) refl
    by false true d false h g k m more = rw (h, g, m) more
    by false false true true h g k m more =
        let older : nat_le e.1.number upto ≡ true = le-leb e.1.number upto (ltb-false upto e.1.number h) in
        rw (h, g, k, m, older) (half (cases_lt place at))
      where
        half : (place < at) ⊎ (at ≤ place) → cell_at ((e.0, head_of (at - e.0) e.1) ∷ cut_from at upto es) place ≡ (if nat_le at place && true then None else Some (cell_in e place))
        half (inl less) =
            let out : nat_le at place ≡ false = lt-leb at place less in
            cell-head (at - e.0) e (cut_from at upto es) place (omega (arith, less, ltb-true e.0 at k)) ∙ rw (m, out) refl
        half (inr past) =
            let in_cut : nat_le at place ≡ true = le-leb at place past in
            let off : covers e.0 (length (take (at - e.0) e.1.bytes)) place ≡ false = past-range e.0 (e.0 + length (take (at - e.0) e.1.bytes)) place (omega (arith, length-take (at - e.0) e.1.bytes, ltb-true e.0 at k, past)) in
            rw (off, in_cut) (gone (high-of e.0 (end_of e) place m) more)
    by false false true false h g k m more = rw (h, g, k, m) (off (cases_lt place at))
      where
        off : (place < at) ⊎ (at ≤ place) → cell_at ((e.0, head_of (at - e.0) e.1) ∷ cut_from at upto es) place ≡ cell_cut at upto place (cell_at es place)
        off (inl less) = cell-head (at - e.0) e (cut_from at upto es) place (omega (arith, less, ltb-true e.0 at k)) ∙ rw m more
        off (inr past) =
            let out : covers e.0 (length (take (at - e.0) e.1.bytes)) place ≡ false = past-range e.0 (e.0 + length (take (at - e.0) e.1.bytes)) place (omega (arith, length-take (at - e.0) e.1.bytes, ltb-true e.0 at k, past)) in
            rw out more
    by false false false true h g k m more =
        let older : nat_le e.1.number upto ≡ true = le-leb e.1.number upto (ltb-false upto e.1.number h) in
        let past : nat_le at place ≡ true = le-leb at place (omega (arith, low-of e.0 (end_of e) place m, ltb-false e.0 at k)) in
        rw (h, g, k, m, older, past) (gone (high-of e.0 (end_of e) place m) more)
    by false false false false h g k m more = rw (h, g, k, m) more

rest-cut : (at upto place : ℕ) (cell : Option Cell) → rest_of (cell_cut at upto place cell) ≡ cell_cut at upto place (rest_of cell)
rest-cut at upto place None = refl
rest-cut at upto place (Some cell) = by (nat_le at place && nat_le cell.number upto) (is_in_flight cell.state) refl refl
  where
    by : (b d : Bool) → (nat_le at place && nat_le cell.number upto) ≡ b → is_in_flight cell.state ≡ d → rest_of (cell_cut at upto place (Some cell)) ≡ cell_cut at upto place (rest_of (Some cell))
    by true true h g = rw (h, g) refl
    by true false h g = rw (h, g, h) refl
    by false true h g = rw (h, g) refl
    by false false h g = rw (h, g, h) refl

pub cuts-so : (at upto : ℕ) (of : FilePending) → AreApart 0 of.segments → Cuts at upto of (with_cut at upto of)
cuts-so at upto of apart = record { rest = λ place. ap rest_of (cells-cut at upto 0 of.segments place apart) ∙ rest-cut at upto place (cell_at of.segments place) }

over-cut : (at upto place : ℕ) (cell : Option Cell) → IsOver None cell → IsOver None (cell_cut at upto place cell)
over-cut at upto place None over = over
over-cut at upto place (Some cell) over = by (nat_le at place && nat_le cell.number upto) refl
  where
    by : (b : Bool) → (nat_le at place && nat_le cell.number upto) ≡ b → IsOver None (cell_cut at upto place (Some cell))
    by true h = rw h tt
    by false h = rw h over

pub sound-cut : (at upto : ℕ) (of : FilePending) → IsSound of → of.pieces ≡ [] → IsSound (with_cut at upto of)
sound-cut at upto of sound none = record {
  apart = apart-cut at upto 0 of.segments sound.apart;
  sent = sound.sent;
  xids = sound.xids;
  within = rw none tt;
  over = λ place. over place;
  room = omega (arith, own-cut at upto of.segments, sound.room);
}
  where
    over : (place : ℕ) → IsOver (fly_at of place) (cell_at (cut_from at upto of.segments) place)
    over place =
        let here : IsOver None (cell_at of.segments place) = (rw none at (sound.over place)) in
        rw (none, cells-cut at upto 0 of.segments place sound.apart) (over-cut at upto place (cell_at of.segments place) here)
