-- How many bytes are pending, after new ones, a cut or a change.
use Rattle.std.proofs.Common.{◌≡◌, ◌≤◌, ℕ, ◌+◌, ◌-◌, ◌&&◌, ◌||◌, Bool, true, false, List, [], ◌∷◌, ◌++◌, length, Option, Some, None, refl, arith, length-drop, length-take}
use Rattle.std.specs.Prelude.{nat_le, nat_lt}
use Rattle.std.proofs.lemmas.Bool.{lt-ltb, le-ltb, ltb-true, leb-true, leb-false}
use Rattle.write_back.specs.declared.state.State.{State}
use Rattle.write_back.specs.declared.change.Change.{Change}
use Rattle.write_back.specs.States.{is_in_flight}
use Rattle.write_back.specs.Segments.{Segment, Segments, AreApart, end_of, head_of, tail_of, with_state, written, before, after, added, split_if, cut_from, own_size, own_of}
use Rattle.write_back.specs.Changes.{fate, left_of, changed, all_changed}
use Rattle.write_back.specs.Sound.{StopsAt}
use Rattle.write_back.proofs.Keys.{low-of, high-of}
use Rattle.write_back.proofs.Changing.{changed-lower}
use Rattle.write_back.specs.Effects.{Leaves}
use Rattle.write_back.proofs.Sums.{own-cons, own-le}

-- bytes of a segment
own-head : (n : ℕ) (s : Segment) → own_size (head_of n s) ≤ own_size s
own-head n s = by (is_in_flight s.state) refl
  where
    by : (b : Bool) → is_in_flight s.state ≡ b → own_size (head_of n s) ≤ own_size s
    by true h = rw h (omega arith)
    by false h = rw h (omega (arith, length-take n s.bytes))

own-halves : (n : ℕ) (s : Segment) → own_size (head_of n s) + own_size (tail_of n s) ≡ own_size s
own-halves n s = by (is_in_flight s.state) refl
  where
    by : (b : Bool) → is_in_flight s.state ≡ b → own_size (head_of n s) + own_size (tail_of n s) ≡ own_size s
    by true h = rw h refl
    by false h = rw h (omega (arith, length-take n s.bytes, length-drop n s.bytes))

pub own-split : (test : Segment → Bool) (at : ℕ) (es : Segments) → own_of (split_if test at es) ≡ own_of es
own-split test at [] = refl
own-split test at (e ∷ es) = by (nat_lt e.0 at) (nat_lt at (end_of e) && test e.1) refl refl (own-split test at es)
  where
    by : (b d : Bool) → nat_lt e.0 at ≡ b → (nat_lt at (end_of e) && test e.1) ≡ d → own_of (split_if test at es) ≡ own_of es → own_of (split_if test at (e ∷ es)) ≡ own_of (e ∷ es)
    by true true h g more =
        rw (h, g) (omega (arith, own-halves (at - e.0) e.1, own-cons e es, own-cons (at, tail_of (at - e.0) e.1) es, own-cons (e.0, head_of (at - e.0) e.1) ((at, tail_of (at - e.0) e.1) ∷ es)))
    by true false h g more = rw (h, g) (omega (arith, more, own-cons e es, own-cons e (split_if test at es)))
    by false d h g more = rw h refl

-- new bytes
own-before : (at : ℕ) (es ys : Segments) → own_of (before at es ++ ys) ≤ own_of es + own_of ys
own-before at [] ys = omega arith
own-before at (e ∷ es) ys = by (nat_lt e.0 at) refl (own-before at es ys)
  where
    by : (b : Bool) → nat_lt e.0 at ≡ b → own_of (before at es ++ ys) ≤ own_of es + own_of ys → own_of (before at (e ∷ es) ++ ys) ≤ own_of (e ∷ es) + own_of ys
    by true h more = rw h (omega (arith, more, own-cons e es, own-cons (e.0, head_of (at - e.0) e.1) (before at es ++ ys), own-head (at - e.0) e.1))
    by false h more = rw h (omega arith)

own-after : (at : ℕ) (es : Segments) → own_of (after at es) ≤ own_of es
own-after at [] = omega arith
own-after at (e ∷ es) = by (nat_le (end_of e) at) (nat_lt e.0 at) refl refl (own-after at es)
  where
    by : (b d : Bool) → nat_le (end_of e) at ≡ b → nat_lt e.0 at ≡ d → own_of (after at es) ≤ own_of es → own_of (after at (e ∷ es)) ≤ own_of (e ∷ es)
    by true d h g more = rw h (omega (arith, more, own-cons e es))
    by false true h g more = rw (h, g) (omega (arith, own-cons e es, own-cons (at, tail_of (at - e.0) e.1) es, own-halves (at - e.0) e.1))
    by false false h g more = rw (h, g) (omega arith)

-- what ends before a place and what begins there
own-around : (low high from : ℕ) (new : ℕ × Segment) (es : Segments) → AreApart from es → low ≤ high → own_of (before low es ++ new ∷ after high es) ≤ own_of es + own_size new.1
own-around low high from new [] apart le = omega (arith, own-cons new [])
own-around low high from new (e ∷ es) apart le = by (nat_lt e.0 low) (nat_le (end_of e) low) (nat_le (end_of e) high) refl refl refl (own-around low high (end_of e) new es apart.3 le)
  where
    more-of : own_of (e ∷ es) ≡ own_size e.1 + own_of es
    more-of = own-cons e es

    -- one that goes on past both places
    none : (from' : ℕ) (ys : Segments) → AreApart from' ys → low ≤ from' → before low ys ≡ []
    none from' [] a l = refl
    none from' (f ∷ fs) a l = let out : nat_lt f.0 low ≡ false = le-ltb f.0 low (omega (arith, l, a.0)) in rw out refl

    both : (n k : ℕ) (s : Segment) → n ≤ k → own_size (head_of n s) + own_size (tail_of k s) ≤ own_size s
    both n k s l = flight (is_in_flight s.state) refl
      where
        flight : (b : Bool) → is_in_flight s.state ≡ b → own_size (head_of n s) + own_size (tail_of k s) ≤ own_size s
        flight true h = rw h (omega arith)
        flight false h = rw h (omega (arith, length-take n s.bytes, length-drop k s.bytes, l))

    by : (b c d : Bool) → nat_lt e.0 low ≡ b → nat_le (end_of e) low ≡ c → nat_le (end_of e) high ≡ d → own_of (before low es ++ new ∷ after high es) ≤ own_of es + own_size new.1
        → own_of (before low (e ∷ es) ++ new ∷ after high (e ∷ es)) ≤ own_of (e ∷ es) + own_size new.1
    by true c true h k g more = rw (h, g) (omega (arith, more, more-of, own-cons (e.0, head_of (low - e.0) e.1) (before low es ++ new ∷ after high es), own-head (low - e.0) e.1))
    by true true false h k g more = absurd (omega (arith, leb-true (end_of e) low k, leb-false (end_of e) high g, le))
    by true false false h k g more =
        let past : nat_lt e.0 high ≡ true = lt-ltb e.0 high (omega (arith, ltb-true e.0 low h, le)) in
        let gone : before low es ≡ [] = none (end_of e) es apart.3 (omega (arith, leb-false (end_of e) low k)) in
        rw (h, g, past, gone) (omega (arith, more-of, both (low - e.0) (high - e.0) e.1 (omega (arith, le)), own-cons (e.0, head_of (low - e.0) e.1) (new ∷ (high, tail_of (high - e.0) e.1) ∷ es), own-cons new ((high, tail_of (high - e.0) e.1) ∷ es), own-cons (high, tail_of (high - e.0) e.1) es))
    by false c d h k g more = rw h (omega (arith, own-cons new (after high (e ∷ es)), own-after high (e ∷ es)))

pub own-added : (offset : ℕ) (bytes : List ℕ) (number : ℕ) (es : Segments) → AreApart 0 es → own_of (added offset bytes number es) ≤ own_of es + length bytes
own-added offset bytes number es apart = own-around offset (offset + length bytes) 0 (offset, written bytes number) es apart (omega arith)

-- a cut
pub own-cut : (at upto : ℕ) (es : Segments) → own_of (cut_from at upto es) ≤ own_of es
own-cut at upto [] = omega arith
own-cut at upto (e ∷ es) = by (nat_lt upto e.1.number || nat_le (end_of e) at) (nat_lt e.0 at) refl refl (own-cut at upto es)
  where
    by : (b d : Bool) → (nat_lt upto e.1.number || nat_le (end_of e) at) ≡ b → nat_lt e.0 at ≡ d → own_of (cut_from at upto es) ≤ own_of es → own_of (cut_from at upto (e ∷ es)) ≤ own_of (e ∷ es)
    by true d h g more = rw h (omega (arith, more, own-cons e es, own-cons e (cut_from at upto es)))
    by false true h g more = rw (h, g) (omega (arith, more, own-cons e es, own-cons (e.0, head_of (at - e.0) e.1) (cut_from at upto es), own-head (at - e.0) e.1))
    by false false h g more = rw (h, g) (omega (arith, more, own-cons e es))

-- one segment that may stay, before others
own-left-le : (o : Option State) (e : ℕ × Segment) (es : Segments) → own_of (left_of o e es) ≤ length e.1.bytes + own_of es
own-left-le None e es = omega arith
own-left-le (Some state) e es = omega (arith, own-cons (e.0, with_state state e.1) es, own-le (with_state state e.1))

pub own-left-same : (o : Option State) (e : ℕ × Segment) (es : Segments) → ((left : State) → o ≡ Some left → is_in_flight e.1.state ≡ true → is_in_flight left ≡ true) → own_of (left_of o e es) ≤ own_size e.1 + own_of es
own-left-same None e es flies = omega arith
own-left-same (Some state) e es flies = by (is_in_flight e.1.state) refl
  where
    by : (b : Bool) → is_in_flight e.1.state ≡ b → own_of ((e.0, with_state state e.1) ∷ es) ≤ own_size e.1 + own_of es
    by true h = let still : is_in_flight state ≡ true = flies state refl h in let none : own_size (with_state state e.1) ≡ 0 = rw still refl in omega (arith, own-cons (e.0, with_state state e.1) es, none)
    by false h = let all : own_size e.1 ≡ length e.1.bytes = rw h refl in omega (arith, own-cons (e.0, with_state state e.1) es, own-le (with_state state e.1), all)

-- a change that takes nothing out of flight
pub own-all : (change : Change) → ((number : ℕ) (state left : State) → fate change number state ≡ Some left → is_in_flight state ≡ true → is_in_flight left ≡ true) → (es : Segments) → own_of (all_changed change es) ≤ own_of es
own-all change flies [] = omega arith
own-all change flies (e ∷ es) = omega (arith, own-all change flies es, own-left-same (fate change e.1.number e.1.state) e (all_changed change es) (flies e.1.number e.1.state), own-cons e es)

-- what comes out of flight within a range has at most as many bytes as the range has places
pub own-landed : (change : Change) → Leaves change is_in_flight → (low high from : ℕ) (es : Segments) → AreApart from es → StopsAt is_in_flight high es → own_of (changed change low high es) ≤ own_of es + (high - low)
own-landed change leaves low high from [] apart stops = omega arith
own-landed change leaves low high from (e ∷ es) apart stops =
    by (nat_le low e.0 && nat_lt e.0 high) (is_in_flight e.1.state) refl refl (own-landed change leaves low high (end_of e) es apart.3 stops.1) (own-landed change leaves (end_of e) high (end_of e) es apart.3 stops.1)
  where
    by : (b d : Bool) → (nat_le low e.0 && nat_lt e.0 high) ≡ b → is_in_flight e.1.state ≡ d → own_of (changed change low high es) ≤ own_of es + (high - low) → own_of (changed change (end_of e) high es) ≤ own_of es + (high - end_of e)
        → own_of (changed change low high (e ∷ es)) ≤ own_of (e ∷ es) + (high - low)
    by true true h g more next =
        let first : low ≤ e.0 = low-of low high e.0 h in
        let last : end_of e ≤ high = stops.0 g (high-of low high e.0 h) in
        let same : changed change low high es ≡ changed change (end_of e) high es = changed-lower change low (end_of e) high (end_of e) es apart.3 (omega (arith, first)) (omega arith) in
        let rest : own_of (changed change low high es) ≤ own_of es + (high - end_of e) = rw same next in
        rw h (omega (arith, own-left-le (fate change e.1.number e.1.state) e (changed change low high es), own-cons e es, rest, first, last))
    by true false h g more next =
        let kept : fate change e.1.number e.1.state ≡ Some e.1.state = leaves e.1.number e.1.state g in
        rw (h, kept) (omega (arith, more, own-cons e es, own-cons (e.0, with_state e.1.state e.1) (changed change low high es)))
    by false d h g more next = rw h (omega (arith, more, own-cons e es, own-cons (e.0, with_state e.1.state e.1) (changed change low high es)))
