-- New bytes laid over segments.
use Rattle.std.proofs.Common.{◌≡◌, ◌<◌, ◌≤◌, ℕ, ◌+◌, ◌-◌, ◌&&◌, Bool, true, false, [], ◌∷◌, ◌++◌, length, Option, Some, None, refl, sym, ap, ◌∙◌, arith, nat_cmp}
use Rattle.std.specs.Prelude.{nat_le, nat_lt, if◌then◌else◌}
use Rattle.std.specs.declared.cmp.Ordering.{Ordering}
use Rattle.std.specs.declared.cmp.Ordering.TheVariants.{Less, Equal, Greater}
use Rattle.std.specs.Option.{option_map}
use Rattle.std.proofs.lemmas.Bool.{le-leb, lt-leb, lt-ltb, le-ltb, ltb-true, ltb-false}
use Rattle.std.proofs.lemmas.List.{take_all}
use Rattle.write_back.specs.Segments.{Segment, Segments, AreApart, end_of, head_of, tail_of, before, after}
use Rattle.write_back.specs.Walk.{passing, tail_past, laid, laid_tail, shortened, ended_at, without_between}
use Rattle.write_back.proofs.Keys.{cmp-above, cmp-same, cmp-below, at-same, at-above, in-range, past-range, before-range}

-- one segment among others
laid-past : (at : ℕ) (s : Segment) (e : ℕ × Segment) (es : Segments) → e.0 < at → laid at s (e ∷ es) ≡ e ∷ laid at s es
laid-past at s e es lt = rw (cmp-above at e.0 lt) refl

laid-here : (at : ℕ) (s : Segment) (e : ℕ × Segment) (es : Segments) → at ≡ e.0 → laid at s (e ∷ es) ≡ (e.0, s) ∷ es
laid-here at s e es is = rw (cmp-same at e.0 is) refl

laid-before : (at : ℕ) (s : Segment) (e : ℕ × Segment) (es : Segments) → at < e.0 → laid at s (e ∷ es) ≡ (at, s) ∷ e ∷ es
laid-before at s e es lt = rw (cmp-below at e.0 lt) refl

laid-front : (at : ℕ) (s : Segment) (from : ℕ) (es : Segments) → AreApart from es → at < from → laid at s es ≡ (at, s) ∷ es
laid-front at s from [] apart lt = refl
laid-front at s from (e ∷ es) apart lt = laid-before at s e es (omega (arith, lt, apart.0))

pub passing-none : (place from : ℕ) (es : Segments) → AreApart from es → place ≤ from → passing place es ≡ None
passing-none place from [] apart le = refl
passing-none place from (e ∷ es) apart le =
    let out : nat_lt e.0 place ≡ false = le-ltb e.0 place (omega (arith, le, apart.0)) in
    rw out (passing-none place (end_of e) es apart.3 (omega (arith, le, apart.0)))

pub passing-low : (place from : ℕ) (es : Segments) (x : ℕ × Segment) → AreApart from es → passing place es ≡ Some x → from ≤ x.0
passing-low place from [] x apart found = absurd cc
passing-low place from (e ∷ es) x apart found = by (nat_lt e.0 place && nat_lt place (end_of e)) refl (λ h. passing-low place (end_of e) es x apart.3 h)
  where
    by : (b : Bool) → (nat_lt e.0 place && nat_lt place (end_of e)) ≡ b → (passing place es ≡ Some x → end_of e ≤ x.0) → from ≤ x.0
    by true h more = let same : e ≡ x = (let g : Some e ≡ Some x = (rw h at found) in cc) in let key : e.0 ≡ x.0 = ap (λ (z : ℕ × Segment). z.0) same in omega (arith, apart.0, key)
    by false h more = let g : passing place es ≡ Some x = (rw h at found) in omega (arith, apart.0, more g)

pub without-past : (low high from : ℕ) (es : Segments) → AreApart from es → high ≤ from → without_between low high es ≡ es
without-past low high from [] apart le = refl
without-past low high from (e ∷ es) apart le =
    let out : (nat_le low e.0 && nat_lt e.0 high) ≡ false = past-range low high e.0 (omega (arith, le, apart.0)) in
    rw out (ap (λ z. e ∷ z) (without-past low high (end_of e) es apart.3 (omega (arith, le, apart.0))))

before-none : (place from : ℕ) (es : Segments) → AreApart from es → place ≤ from → before place es ≡ []
before-none place from [] apart le = refl
before-none place from (e ∷ es) apart le =
    let out : nat_lt e.0 place ≡ false = le-ltb e.0 place (omega (arith, le, apart.0)) in
    rw out refl

after-whole : (place : ℕ) (e : ℕ × Segment) (es : Segments) → place ≤ e.0 → 0 < length e.1.bytes → after place (e ∷ es) ≡ e ∷ es
after-whole place e es le some =
    let past : nat_le (end_of e) place ≡ false = lt-leb (end_of e) place (omega (arith, le, some)) in
    let out : nat_lt e.0 place ≡ false = le-ltb e.0 place le in
    rw (past, out) refl

-- segments, and the tail of the one that goes on past a place
abbrev pub with_tail : ℕ → Segments → Segments
with_tail end es = laid_tail end (tail_past end es) es

-- what comes after a segment then
abbrev rest_after : ℕ → ℕ × Segment → Segments → Segments
rest_after end e es = if nat_lt end (end_of e) then (end, tail_of (end - e.0) e.1) ∷ es else with_tail end es

tail-past : (end : ℕ) (t : Option Segment) (e : ℕ × Segment) (es : Segments) → e.0 < end → laid_tail end t (e ∷ es) ≡ e ∷ laid_tail end t es
tail-past end None e es lt = refl
tail-past end (Some s) e es lt = laid-past end s e es lt

tail-step : (end : ℕ) (e : ℕ × Segment) (es : Segments) → e.0 < end → AreApart (end_of e) es → with_tail end (e ∷ es) ≡ e ∷ rest_after end e es
tail-step end e es lt apart = by (nat_lt end (end_of e)) refl
  where
    by : (b : Bool) → nat_lt end (end_of e) ≡ b → with_tail end (e ∷ es) ≡ e ∷ rest_after end e es
    by true h =
        rw (lt-ltb e.0 end lt, h) (laid-past end (tail_of (end - e.0) e.1) e es lt ∙ ap (λ z. e ∷ z) (laid-front end (tail_of (end - e.0) e.1) (end_of e) es apart (ltb-true end (end_of e) h)))
    by false h = rw (lt-ltb e.0 end lt, h) (tail-past end (tail_past end es) e es lt)

-- a segment laid before all of these
tail-front : (at end : ℕ) (own : Segment) (from : ℕ) (t : Option Segment) (es : Segments) → AreApart from es → at < from → at < end → laid at own (laid_tail end t es) ≡ (at, own) ∷ laid_tail end t es
tail-front at end own from None es apart lt first = laid-front at own from es apart lt
tail-front at end own from (Some s) [] apart lt first = laid-before at own (end, s) [] first
tail-front at end own from (Some s) (e ∷ es) apart lt first = by (nat_cmp end e.0) refl
  where
    by : (r : Ordering) → nat_cmp end e.0 ≡ r → laid at own (laid end s (e ∷ es)) ≡ (at, own) ∷ laid end s (e ∷ es)
    by Less h = rw h (laid-before at own (end, s) (e ∷ es) first)
    by Equal h = rw h (laid-before at own (e.0, s) es (omega (arith, lt, apart.0)))
    by Greater h = rw h (laid-before at own e (laid end s es) (omega (arith, lt, apart.0)))

rest-front : (at end : ℕ) (own : Segment) (e : ℕ × Segment) (es : Segments) → at < end_of e → at < end → AreApart (end_of e) es → laid at own (rest_after end e es) ≡ (at, own) ∷ rest_after end e es
rest-front at end own e es lt first apart = by (nat_lt end (end_of e)) refl
  where
    by : (b : Bool) → nat_lt end (end_of e) ≡ b → laid at own (rest_after end e es) ≡ (at, own) ∷ rest_after end e es
    by true h = rw h (laid-before at own (end, tail_of (end - e.0) e.1) es first)
    by false h = rw h (tail-front at end own (end_of e) (tail_past end es) es apart lt first)

-- what is left of it once the segments that begin before the end are gone
rest-end : (low end : ℕ) (e : ℕ × Segment) (es : Segments) → e.0 < end → AreApart (end_of e) es → without_between low end (with_tail end es) ≡ after end es → without_between low end (rest_after end e es) ≡ after end (e ∷ es)
rest-end low end e es lt apart more = by (nat_lt end (end_of e)) refl
  where
    by : (b : Bool) → nat_lt end (end_of e) ≡ b → without_between low end (rest_after end e es) ≡ after end (e ∷ es)
    by true h =
        let past : nat_le (end_of e) end ≡ false = lt-leb (end_of e) end (ltb-true end (end_of e) h) in
        let inside : nat_lt e.0 end ≡ true = lt-ltb e.0 end lt in
        let out : (nat_le low end && nat_lt end end) ≡ false = past-range low end end (omega arith) in
        let kept : without_between low end es ≡ es = without-past low end (end_of e) es apart (omega (arith, ltb-true end (end_of e) h)) in
        rw (h, past, inside, out, kept) refl
    by false h =
        let past : nat_le (end_of e) end ≡ true = le-leb (end_of e) end (ltb-false end (end_of e) h) in
        rw (h, past) more

pub rest-all : (low end from : ℕ) (es : Segments) → AreApart from es → low ≤ from → low ≤ end → without_between low end (with_tail end es) ≡ after end es
rest-all low end from [] apart le first = refl
rest-all low end from (e ∷ es) apart le first = by (nat_lt e.0 end) refl (rest-all low end (end_of e) es apart.3 (omega (arith, le, apart.0)) first)
  where
    by : (b : Bool) → nat_lt e.0 end ≡ b → without_between low end (with_tail end es) ≡ after end es → without_between low end (with_tail end (e ∷ es)) ≡ after end (e ∷ es)
    by true h more =
        let inside : (nat_le low e.0 && nat_lt e.0 end) ≡ true = in-range low end e.0 (omega (arith, le, apart.0)) (ltb-true e.0 end h) in
        let dropped : without_between low end (e ∷ rest_after end e es) ≡ without_between low end (rest_after end e es) = rw inside refl in
        ap (without_between low end) (tail-step end e es (ltb-true e.0 end h) apart.3) ∙ dropped ∙ rest-end low end e es (ltb-true e.0 end h) apart.3 more
    by false h more =
        let past : end ≤ e.0 = ltb-false e.0 end h in
        let none : passing end es ≡ None = passing-none end (end_of e) es apart.3 (omega (arith, past)) in
        let whole : with_tail end (e ∷ es) ≡ e ∷ es = rw (h, none) refl in
        ap (without_between low end) whole ∙ without-past low end e.0 (e ∷ es) (omega arith, apart.1, apart.2, apart.3) past ∙ sym (after-whole end e es past apart.1)

-- the segment that goes on past a place comes after these
ended-past : (place : ℕ) (from : ℕ) (es : Segments) (e : ℕ × Segment) (ys : Segments) (p : Option (ℕ × Segment)) → AreApart from es → e.0 < from → passing place es ≡ p
    → ended_at (option_map (λ x. x.0) p) place (e ∷ ys) ≡ e ∷ ended_at (option_map (λ x. x.0) p) place ys
ended-past place from es e ys None apart lt found = refl
ended-past place from es e ys (Some x) apart lt found =
    let out = at-above x.0 e.0 (omega (arith, lt, passing-low place from es x apart found)) in
    rw out refl

-- all of it
pub put-is : (offset end : ℕ) (own : Segment) (low : ℕ) (es : Segments) → AreApart low es → offset < end
    → without_between (offset + 1) end (ended_at (option_map (λ x. x.0) (passing offset es)) offset (laid offset own (with_tail end es))) ≡ before offset es ++ (offset, own) ∷ after end es
put-is offset end own low [] apart lt = rw (before-range (offset + 1) end offset (omega arith)) refl
put-is offset end own low (e ∷ es) apart lt = by (nat_lt e.0 offset) refl (put-is offset end own (end_of e) es apart.3 lt)
  where
    keep : (offset + 1 ≤ end) × ((nat_le (offset + 1) offset && nat_lt offset end) ≡ false)
    keep = (omega (arith, lt), before-range (offset + 1) end offset (omega arith))

    -- it goes on past the place
    over : e.0 < offset → offset < end_of e → nat_lt e.0 offset ≡ true → nat_lt offset (end_of e) ≡ true
        → without_between (offset + 1) end (ended_at (option_map (λ x. x.0) (passing offset (e ∷ es))) offset (laid offset own (with_tail end (e ∷ es)))) ≡ before offset (e ∷ es) ++ (offset, own) ∷ after end (e ∷ es)
    over early late h g =
        let lay : laid offset own (with_tail end (e ∷ es)) ≡ e ∷ (offset, own) ∷ rest_after end e es =
        ap (laid offset own) (tail-step end e es (omega (arith, early, lt)) apart.3) ∙ laid-past offset own e (rest_after end e es) early ∙ ap (λ z. e ∷ z) (rest-front offset end own e es late lt apart.3) in
        let cut : shortened e.0 (offset - e.0) (e ∷ (offset, own) ∷ rest_after end e es) ≡ (e.0, head_of (offset - e.0) e.1) ∷ (offset, own) ∷ rest_after end e es = rw (at-same e.0 e.0 refl) refl in
        let out : (nat_le (offset + 1) e.0 && nat_lt e.0 end) ≡ false = before-range (offset + 1) end e.0 (omega (arith, early)) in
        let ends : without_between (offset + 1) end (rest_after end e es) ≡ after end (e ∷ es) =
        rest-end (offset + 1) end e es (omega (arith, early, lt)) apart.3 (rest-all (offset + 1) end (end_of e) es apart.3 (omega (arith, late)) keep.0) in
        let kept : without_between (offset + 1) end ((e.0, head_of (offset - e.0) e.1) ∷ (offset, own) ∷ rest_after end e es) ≡ (e.0, head_of (offset - e.0) e.1) ∷ (offset, own) ∷ after end (e ∷ es) =
        rw (out, keep.1) (ap (λ z. (e.0, head_of (offset - e.0) e.1) ∷ (offset, own) ∷ z) ends) in
        let found : ended_at (option_map (λ x. x.0) (passing offset (e ∷ es))) offset (laid offset own (with_tail end (e ∷ es))) ≡ shortened e.0 (offset - e.0) (laid offset own (with_tail end (e ∷ es))) = rw (h, g) refl in
        let first : before offset (e ∷ es) ≡ (e.0, head_of (offset - e.0) e.1) ∷ [] = rw h (ap (λ z. (e.0, head_of (offset - e.0) e.1) ∷ z) (before-none offset (end_of e) es apart.3 (omega (arith, late)))) in
        ap (without_between (offset + 1) end) (found ∙ ap (shortened e.0 (offset - e.0)) lay ∙ cut) ∙ kept ∙ sym (ap (λ z. z ++ (offset, own) ∷ after end (e ∷ es)) first)

    -- it ends before
    early : e.0 < offset → end_of e ≤ offset → nat_lt e.0 offset ≡ true → nat_lt offset (end_of e) ≡ false
        → without_between (offset + 1) end (ended_at (option_map (λ x. x.0) (passing offset es)) offset (laid offset own (with_tail end es))) ≡ before offset es ++ (offset, own) ∷ after end es
        → without_between (offset + 1) end (ended_at (option_map (λ x. x.0) (passing offset (e ∷ es))) offset (laid offset own (with_tail end (e ∷ es)))) ≡ before offset (e ∷ es) ++ (offset, own) ∷ after end (e ∷ es)
    early first ends h g more =
        let short : nat_lt end (end_of e) ≡ false = le-ltb end (end_of e) (omega (arith, ends, lt)) in
        let tail : with_tail end (e ∷ es) ≡ e ∷ with_tail end es = tail-step end e es (omega (arith, first, lt)) apart.3 ∙ rw short refl in
        let lay : laid offset own (with_tail end (e ∷ es)) ≡ e ∷ laid offset own (with_tail end es) = ap (laid offset own) tail ∙ laid-past offset own e (with_tail end es) first in
        let skip : passing offset (e ∷ es) ≡ passing offset es = rw (h, g) refl in
        let cut : ended_at (option_map (λ x. x.0) (passing offset (e ∷ es))) offset (laid offset own (with_tail end (e ∷ es))) ≡ e ∷ ended_at (option_map (λ x. x.0) (passing offset es)) offset (laid offset own (with_tail end es)) =
        ap (λ p. ended_at (option_map (λ x. x.0) p) offset (laid offset own (with_tail end (e ∷ es)))) skip ∙ ap (ended_at (option_map (λ x. x.0) (passing offset es)) offset) lay
        ∙ ended-past offset (end_of e) es e (laid offset own (with_tail end es)) (passing offset es) apart.3 (omega (arith, apart.1)) refl in
        let out : (nat_le (offset + 1) e.0 && nat_lt e.0 end) ≡ false = before-range (offset + 1) end e.0 (omega (arith, first)) in
        let kept : without_between (offset + 1) end (e ∷ ended_at (option_map (λ x. x.0) (passing offset es)) offset (laid offset own (with_tail end es))) ≡ e ∷ before offset es ++ (offset, own) ∷ after end es = rw out (ap (λ z. e ∷ z) more) in
        let whole : (e.0, head_of (offset - e.0) e.1) ≡ e = ap (λ bytes. (e.0, record { bytes = bytes; number = e.1.number; state = e.1.state })) (take_all (offset - e.0) e.1.bytes (omega (arith, ends))) in
        let starts : before offset (e ∷ es) ≡ e ∷ before offset es = rw h (ap (λ z. z ∷ before offset es) whole) in
        let goes : after end (e ∷ es) ≡ after end es = (let past : nat_le (end_of e) end ≡ true = le-leb (end_of e) end (omega (arith, ends, lt)) in rw past refl) in
        ap (without_between (offset + 1) end) cut ∙ kept ∙ sym (ap (λ z. z ++ (offset, own) ∷ after end (e ∷ es)) starts ∙ ap (λ z. e ∷ before offset es ++ (offset, own) ∷ z) goes)

    -- it begins at the place or after it
    late : offset ≤ e.0 → nat_lt e.0 offset ≡ false
        → without_between (offset + 1) end (ended_at (option_map (λ x. x.0) (passing offset (e ∷ es))) offset (laid offset own (with_tail end (e ∷ es)))) ≡ before offset (e ∷ es) ++ (offset, own) ∷ after end (e ∷ es)
    late le h =
        let none : passing offset es ≡ None = passing-none offset (end_of e) es apart.3 (omega (arith, le)) in
        let found : ended_at (option_map (λ x. x.0) (passing offset (e ∷ es))) offset (laid offset own (with_tail end (e ∷ es))) ≡ laid offset own (with_tail end (e ∷ es)) = rw (h, none) refl in
        let first : before offset (e ∷ es) ≡ [] = rw h refl in
        ap (without_between (offset + 1) end) found ∙ split (nat_lt offset e.0) refl ∙ sym (ap (λ z. z ++ (offset, own) ∷ after end (e ∷ es)) first)
      where
        split : (b : Bool) → nat_lt offset e.0 ≡ b → without_between (offset + 1) end (laid offset own (with_tail end (e ∷ es))) ≡ (offset, own) ∷ after end (e ∷ es)
        split true g =
            let lay : laid offset own (with_tail end (e ∷ es)) ≡ (offset, own) ∷ with_tail end (e ∷ es) =
            tail-front offset end own e.0 (tail_past end (e ∷ es)) (e ∷ es) (omega arith, apart.1, apart.2, apart.3) (ltb-true offset e.0 g) lt in
            let rest : without_between (offset + 1) end (with_tail end (e ∷ es)) ≡ after end (e ∷ es) = rest-all (offset + 1) end e.0 (e ∷ es) (omega arith, apart.1, apart.2, apart.3) (omega (arith, ltb-true offset e.0 g)) keep.0 in
            let kept : without_between (offset + 1) end ((offset, own) ∷ with_tail end (e ∷ es)) ≡ (offset, own) ∷ after end (e ∷ es) = rw keep.1 (ap (λ z. (offset, own) ∷ z) rest) in
            ap (without_between (offset + 1) end) lay ∙ kept
        split false g =
            let is : offset ≡ e.0 = omega (arith, le, ltb-false offset e.0 g) in
            let lay : laid offset own (with_tail end (e ∷ es)) ≡ (e.0, own) ∷ rest_after end e es =
            ap (laid offset own) (tail-step end e es (omega (arith, is, lt)) apart.3) ∙ laid-here offset own e (rest_after end e es) is in
            let out : (nat_le (offset + 1) e.0 && nat_lt e.0 end) ≡ false = before-range (offset + 1) end e.0 (omega (arith, is)) in
            let ends : without_between (offset + 1) end (rest_after end e es) ≡ after end (e ∷ es) =
            rest-end (offset + 1) end e es (omega (arith, is, lt)) apart.3 (rest-all (offset + 1) end (end_of e) es apart.3 (omega (arith, is, apart.1)) keep.0) in
            let kept : without_between (offset + 1) end ((e.0, own) ∷ rest_after end e es) ≡ (e.0, own) ∷ after end (e ∷ es) = rw out (ap (λ z. (e.0, own) ∷ z) ends) in
            ap (without_between (offset + 1) end) lay ∙ kept ∙ ap (λ (k : ℕ). (k, own) ∷ after end (e ∷ es)) (sym is)

    by : (b : Bool) → nat_lt e.0 offset ≡ b
        → without_between (offset + 1) end (ended_at (option_map (λ x. x.0) (passing offset es)) offset (laid offset own (with_tail end es))) ≡ before offset es ++ (offset, own) ∷ after end es
        → without_between (offset + 1) end (ended_at (option_map (λ x. x.0) (passing offset (e ∷ es))) offset (laid offset own (with_tail end (e ∷ es)))) ≡ before offset (e ∷ es) ++ (offset, own) ∷ after end (e ∷ es)
    by true h more = here (nat_lt offset (end_of e)) refl
      where
        here : (b : Bool) → nat_lt offset (end_of e) ≡ b → without_between (offset + 1) end (ended_at (option_map (λ x. x.0) (passing offset (e ∷ es))) offset (laid offset own (with_tail end (e ∷ es)))) ≡ before offset (e ∷ es) ++ (offset, own) ∷ after end (e ∷ es)
        here true g = over (ltb-true e.0 offset h) (ltb-true offset (end_of e) g) h g
        here false g = early (ltb-true e.0 offset h) (ltb-false offset (end_of e) g) h g more
    by false h more = late (ltb-false e.0 offset h) h
