-- A change of the segments that begin within a range, by place.
use Rattle.std.proofs.Common.{◌≡◌, ◌<◌, ◌≤◌, ℕ, ◌+◌, ◌-◌, ◌&&◌, Bool, true, false, [], ◌∷◌, length, take, drop, Some, None, refl, sym, ap, ◌∙◌, ◌⊎◌, inl, inr, arith, length-drop, length-take}
use Rattle.std.specs.Prelude.{nat_le, nat_lt, if◌then◌else◌, slice_index}
use Rattle.std.proofs.lemmas.Bool.{le-leb, lt-leb, lt-ltb, ltb-true, and_parts, cases_lt}
use Rattle.std.proofs.lemmas.List.{get_or-take, get_or-drop}
use Rattle.write_back.specs.declared.state.State.{State}
use Rattle.write_back.specs.declared.change.Change.{Change}
use Rattle.write_back.specs.Segments.{Segment, Segments, AreApart, end_of, covers, cell_in, cell_at, split_if, head_of, tail_of}
use Rattle.write_back.specs.Changes.{fate, left_of, fate_between, changed, cell_left, cell_changed}
use Rattle.write_back.specs.Walk.{between}
use Rattle.write_back.specs.Effects.{Leaves}
use Rattle.write_back.specs.Sound.{StopsAt}
use Rattle.write_back.proofs.Keys.{in-range, past-range, before-range, low-of, high-of}
use Rattle.write_back.proofs.Cells.{later-none, one}

pub covered : (at size place : ℕ) → at ≤ place → place < at + size → covers at size place ≡ true
covered at size place first last = rw (le-leb at place first, lt-ltb place (at + size) last) refl

-- what is changed of the segment that has a place, where the segments stop at both ends of a range
fate-covered : (change : Change) (test : State → Bool) (leaves : Leaves change test) (low high : ℕ) (e : ℕ × Segment) (place : ℕ)
    → (test e.1.state ≡ true → e.0 < low → end_of e ≤ low) → (test e.1.state ≡ true → e.0 < high → end_of e ≤ high) → covers e.0 (length e.1.bytes) place ≡ true
    → cell_left (fate_between change low high e) (cell_in e place) ≡ (if between low high place then cell_changed change (Some (cell_in e place)) else Some (cell_in e place))
fate-covered change test leaves low high e place at-low at-high h = by (test e.1.state) refl
  where
    first : e.0 ≤ place
    first = low-of e.0 (end_of e) place h

    last : place < end_of e
    last = high-of e.0 (end_of e) place h

    kept : (b d : Bool) → fate change e.1.number e.1.state ≡ Some e.1.state
        → cell_left (if b then fate change e.1.number e.1.state else Some e.1.state) (cell_in e place) ≡ (if d then cell_left (fate change e.1.number e.1.state) (cell_in e place) else Some (cell_in e place))
    kept true true k = refl
    kept true false k = rw k refl
    kept false true k = rw k refl
    kept false false k = refl

    same : (b d : Bool) → b ≡ d
        → cell_left (if b then fate change e.1.number e.1.state else Some e.1.state) (cell_in e place) ≡ (if d then cell_left (fate change e.1.number e.1.state) (cell_in e place) else Some (cell_in e place))
    same true true k = refl
    same false false k = refl
    same true false k = absurd cc
    same false true k = absurd cc

    ranges : test e.1.state ≡ true → (e.0 < low) ⊎ (low ≤ e.0) → (e.0 < high) ⊎ (high ≤ e.0) → (nat_le low e.0 && nat_lt e.0 high) ≡ between low high place
    ranges t (inl less) k = before-range low high e.0 less ∙ sym (before-range low high place (omega (arith, at-low t less, last)))
    ranges t (inr more) (inl less) = in-range low high e.0 more less ∙ sym (in-range low high place (omega (arith, more, first)) (omega (arith, at-high t less, last)))
    ranges t (inr more) (inr most) = past-range low high e.0 most ∙ sym (past-range low high place (omega (arith, most, first)))

    by : (t : Bool) → test e.1.state ≡ t
        → cell_left (if nat_le low e.0 && nat_lt e.0 high then fate change e.1.number e.1.state else Some e.1.state) (cell_in e place) ≡ (if between low high place then cell_left (fate change e.1.number e.1.state) (cell_in e place) else Some (cell_in e place))
    by true t = same (nat_le low e.0 && nat_lt e.0 high) (between low high place) (ranges t (cases_lt e.0 low) (cases_lt e.0 high))
    by false t = kept (nat_le low e.0 && nat_lt e.0 high) (between low high place) (leaves e.1.number e.1.state t)

-- a change of a range at whose ends the segments stop that it may change
pub cells-between : (change : Change) (test : State → Bool) (leaves : Leaves change test) (low high from : ℕ) (es : Segments) (place : ℕ) → AreApart from es → StopsAt test low es → StopsAt test high es
    → cell_at (changed change low high es) place ≡ (if between low high place then cell_changed change (cell_at es place) else cell_at es place)
cells-between change test leaves low high from [] place apart at-low at-high = none (between low high place)
  where
    none : (b : Bool) → None ≡ (if b then cell_changed change None else None)
    none true = refl
    none false = refl
cells-between change test leaves low high from (e ∷ es) place apart at-low at-high =
    by (covers e.0 (length e.1.bytes) place) refl (cells-between change test leaves low high (end_of e) es place apart.3 at-low.1 at-high.1)
  where
    by : (b : Bool) → covers e.0 (length e.1.bytes) place ≡ b → cell_at (changed change low high es) place ≡ (if between low high place then cell_changed change (cell_at es place) else cell_at es place)
        → cell_at (left_of (fate_between change low high e) e (changed change low high es)) place
        ≡ (if between low high place then cell_changed change (if covers e.0 (length e.1.bytes) place then Some (cell_in e place) else cell_at es place) else (if covers e.0 (length e.1.bytes) place then Some (cell_in e place) else cell_at es place))
    by true h more =
        let inside : place < end_of e = high-of e.0 (end_of e) place h in
        let none : cell_at es place ≡ None = later-none (end_of e) es place apart.3 inside in
        let gone : cell_at (changed change low high es) place ≡ None = more ∙ both (between low high place) none in
        one e (fate_between change low high e) (changed change low high es) place true h (λ _. gone) ∙ fate-covered change test leaves low high e place at-low.0 at-high.0 h ∙ rw h refl
      where
        both : (b : Bool) → cell_at es place ≡ None → (if b then cell_changed change (cell_at es place) else cell_at es place) ≡ None
        both true k = ap (cell_changed change) k
        both false k = k
    by false h more = one e (fate_between change low high e) (changed change low high es) place false h (λ (t : false ≡ true). absurd cc) ∙ more ∙ rw h refl

-- what is cut at a place is the same by place
pub cells-split : (test : Segment → Bool) (at from : ℕ) (es : Segments) (place : ℕ) → AreApart from es → cell_at (split_if test at es) place ≡ cell_at es place
cells-split test at from [] place apart = refl
cells-split test at from (e ∷ es) place apart = by (nat_lt e.0 at) (nat_lt at (end_of e) && test e.1) refl refl (cells-split test at (end_of e) es place apart.3)
  where
    halves : e.0 < at → at < end_of e → cell_at ((e.0, head_of (at - e.0) e.1) ∷ (at, tail_of (at - e.0) e.1) ∷ es) place ≡ cell_at (e ∷ es) place
    halves first last = where_is (cases_lt place e.0) (cases_lt place at) (cases_lt place (end_of e))
      where
        head : length (take (at - e.0) e.1.bytes) ≡ at - e.0
        head = omega (arith, length-take (at - e.0) e.1.bytes, first, last)

        tail : length (drop (at - e.0) e.1.bytes) ≡ length e.1.bytes - (at - e.0)
        tail = length-drop (at - e.0) e.1.bytes

        where_is : (place < e.0) ⊎ (e.0 ≤ place) → (place < at) ⊎ (at ≤ place) → (place < end_of e) ⊎ (end_of e ≤ place)
            → cell_at ((e.0, head_of (at - e.0) e.1) ∷ (at, tail_of (at - e.0) e.1) ∷ es) place ≡ cell_at (e ∷ es) place
        where_is (inl less) b c = rw (lt-leb e.0 place less, lt-leb at place (omega (arith, less, first))) refl
        where_is (inr more) (inl less) c =
            let here : covers e.0 (length (take (at - e.0) e.1.bytes)) place ≡ true = covered e.0 (length (take (at - e.0) e.1.bytes)) place more (omega (arith, head, less, more)) in
            let all : covers e.0 (length e.1.bytes) place ≡ true = covered e.0 (length e.1.bytes) place more (omega (arith, less, last)) in
            let byte : slice_index (take (at - e.0) e.1.bytes) (place - e.0) ≡ slice_index e.1.bytes (place - e.0) = get_or-take (at - e.0) e.1.bytes (place - e.0) 0 (omega (arith, less, more)) in
            rw (here, all) (ap (λ b. Some (record { byte = b; number = e.1.number; state = e.1.state })) byte)
        where_is (inr more) (inr past) (inl less) =
            let out : covers e.0 (length (take (at - e.0) e.1.bytes)) place ≡ false = past-range e.0 (e.0 + length (take (at - e.0) e.1.bytes)) place (omega (arith, head, past, first)) in
            let here : covers at (length (drop (at - e.0) e.1.bytes)) place ≡ true = covered at (length (drop (at - e.0) e.1.bytes)) place past (omega (arith, tail, less, first, past)) in
            let all : covers e.0 (length e.1.bytes) place ≡ true = covered e.0 (length e.1.bytes) place more less in
            let sums : (at - e.0) + (place - at) ≡ place - e.0 = omega (arith, first, past) in
            let byte : slice_index (drop (at - e.0) e.1.bytes) (place - at) ≡ slice_index e.1.bytes (place - e.0) = get_or-drop (at - e.0) e.1.bytes (place - at) 0 ∙ ap (λ n. slice_index e.1.bytes n) sums in
            rw (out, here, all) (ap (λ b. Some (record { byte = b; number = e.1.number; state = e.1.state })) byte)
        where_is (inr more) (inr past) (inr most) =
            let out : covers e.0 (length (take (at - e.0) e.1.bytes)) place ≡ false = past-range e.0 (e.0 + length (take (at - e.0) e.1.bytes)) place (omega (arith, head, past, first)) in
            let off : covers at (length (drop (at - e.0) e.1.bytes)) place ≡ false = past-range at (at + length (drop (at - e.0) e.1.bytes)) place (omega (arith, tail, most, first, last)) in
            let all : covers e.0 (length e.1.bytes) place ≡ false = past-range e.0 (end_of e) place most in
            rw (out, off, all) refl

    by : (b d : Bool) → nat_lt e.0 at ≡ b → (nat_lt at (end_of e) && test e.1) ≡ d → cell_at (split_if test at es) place ≡ cell_at es place → cell_at (split_if test at (e ∷ es)) place ≡ cell_at (e ∷ es) place
    by true true h g more = rw (h, g) (halves (ltb-true e.0 at h) (ltb-true at (end_of e) ((and_parts (nat_lt at (end_of e)) (test e.1) g).0)))
    by true false h g more = rw (h, g) (same (covers e.0 (length e.1.bytes) place) more)
      where
        same : (c : Bool) → cell_at (split_if test at es) place ≡ cell_at es place → (if c then Some (cell_in e place) else cell_at (split_if test at es) place) ≡ (if c then Some (cell_in e place) else cell_at es place)
        same true k = refl
        same false k = k
    by false d h g more = rw h refl
