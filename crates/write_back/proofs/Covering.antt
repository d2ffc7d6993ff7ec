-- The parts that segments have from one place to another, one segment after the other.
use Rattle.std.proofs.Common.{◌≡◌, ◌<◌, ◌≤◌, ℕ, ◌+◌, ◌-◌, ◌&&◌, Bool, true, false, List, [], ◌∷◌, ◌++◌, length, map, Option, Some, None, refl, sym, ap, subst, ◌∙◌, arith, append_assoc}
use Rattle.std.specs.Prelude.{nat_le, nat_lt, IfSome}
use Rattle.std.specs.Option.{option_map}
use Rattle.std.proofs.lemmas.Bool.{le-leb, lt-leb, le-ltb, ltb-true, ltb-false, leb-false}
use Rattle.std.proofs.lemmas.List.{map-append, append-nil}
use Rattle.write_back.specs.declared.sent.Part.{Part}
use Rattle.write_back.specs.Segments.{Segment, Segments, AreApart, end_of, before, after, tail_of}
use Rattle.write_back.specs.Choice.{part_of}
use Rattle.write_back.specs.Walk.{first_between, last_before, starting, one_of}
use Rattle.write_back.proofs.Keys.{in-range, past-range, before-range}
use Rattle.write_back.proofs.Splitting.{last-range}
use Rattle.write_back.proofs.Overlaying.{starting-none, starting-step, apart-starting, last-none}

-- what segments have from one place to another
abbrev pub cover : ℕ → ℕ → Segments → Segments
cover low high es = before high (after low es)

after-same : (low from : ℕ) (es : Segments) → AreApart from es → low ≤ from → after low es ≡ es
after-same low from [] apart le = refl
after-same low from (e ∷ es) apart le =
    let past : nat_le (end_of e) low ≡ false = lt-leb (end_of e) low (omega (arith, le, apart.0, apart.1)) in
    let here : nat_lt e.0 low ≡ false = le-ltb e.0 low (omega (arith, le, apart.0)) in
    rw (past, here) refl

before-none : (high from : ℕ) (es : Segments) → AreApart from es → high ≤ from → before high es ≡ []
before-none high from [] apart le = refl
before-none high from (e ∷ es) apart le =
    let out : nat_lt e.0 high ≡ false = le-ltb e.0 high (omega (arith, le, apart.0)) in
    rw out refl

before-cons : (high from : ℕ) (e : ℕ × Segment) (es : Segments) → AreApart from es → e.0 ≤ from → before high (e ∷ es) ≡ before high (e ∷ []) ++ before high es
before-cons high from e es apart le = by (nat_lt e.0 high) refl
  where
    by : (b : Bool) → nat_lt e.0 high ≡ b → before high (e ∷ es) ≡ before high (e ∷ []) ++ before high es
    by true h = rw h refl
    by false h =
        let none : before high es ≡ [] = before-none high from es apart (omega (arith, le, ltb-false e.0 high h)) in
        rw (h, none) refl

-- the first of them, and the others
cover-cons : (low high from : ℕ) (e : ℕ × Segment) (es : Segments) → AreApart from (e ∷ es) → cover low high (e ∷ es) ≡ cover low high (e ∷ []) ++ cover low high es
cover-cons low high from e es apart = by (nat_le (end_of e) low) refl (nat_lt e.0 low) refl
  where
    by : (b : Bool) → nat_le (end_of e) low ≡ b → (d : Bool) → nat_lt e.0 low ≡ d → cover low high (e ∷ es) ≡ cover low high (e ∷ []) ++ cover low high es
    by true h d k = rw h refl
    by false h true k =
        let late : after low es ≡ es = after-same low (end_of e) es apart.3 (omega (arith, leb-false (end_of e) low h)) in
        rw (h, k, late) (before-cons high (end_of e) (low, tail_of (low - e.0) e.1) es apart.3 (omega (arith, leb-false (end_of e) low h)))
    by false h false k =
        let late : after low es ≡ es = after-same low (end_of e) es apart.3 (omega (arith, leb-false (end_of e) low h)) in
        rw (h, k, late) (before-cons high (end_of e) e es apart.3 (omega arith))

-- the last segment that begins before the range, and those that begin in it
cover-first : (low high from : ℕ) (es : Segments) → AreApart from es → cover low high (one_of (last_before low es)) ++ cover low high (starting low high es) ≡ cover low high es
cover-first low high from [] apart = refl
cover-first low high from (e ∷ es) apart = by (last_before low es) refl (nat_lt e.0 low) refl (cover-first low high (end_of e) es apart.3)
  where
    here : low ≤ e.0 → cover low high (starting low high es) ≡ cover low high es → (k : Bool) → nat_lt e.0 high ≡ k → cover low high (starting low high (e ∷ es)) ≡ cover low high (e ∷ es)
    here begins m true k =
        let inside : (nat_le low e.0 && nat_lt e.0 high) ≡ true = in-range low high e.0 begins (ltb-true e.0 high k) in
        let some : AreApart from (e ∷ starting low high es) = (apart.0, apart.1, apart.2, apart-starting low high (end_of e) es apart.3) in
        rw inside (cover-cons low high from e (starting low high es) some ∙ ap (λ z. cover low high (e ∷ []) ++ z) m ∙ sym (cover-cons low high from e es apart))
    here begins m false k =
        let out : (nat_le low e.0 && nat_lt e.0 high) ≡ false = past-range low high e.0 (ltb-false e.0 high k) in
        let past : nat_le (end_of e) low ≡ false = lt-leb (end_of e) low (omega (arith, begins, apart.1)) in
        let at : nat_lt e.0 low ≡ false = le-ltb e.0 low begins in
        let none : cover low high (e ∷ []) ≡ [] = rw (past, at, k) refl in
        rw out (m ∙ sym (cover-cons low high from e es apart ∙ ap (λ z. z ++ cover low high es) none))

    by : (o : Option (ℕ × Segment)) → last_before low es ≡ o → (b : Bool) → nat_lt e.0 low ≡ b
        → cover low high (one_of (last_before low es)) ++ cover low high (starting low high es) ≡ cover low high es
        → cover low high (one_of (last_before low (e ∷ es))) ++ cover low high (starting low high (e ∷ es)) ≡ cover low high (e ∷ es)
    by None h true g more =
        let m : cover low high (starting low high es) ≡ cover low high es = (rw h at more) in
        let out : (nat_le low e.0 && nat_lt e.0 high) ≡ false = before-range low high e.0 (ltb-true e.0 low g) in
        let last : last_before low (e ∷ es) ≡ Some e = rw (h, g) refl in
        let others : starting low high (e ∷ es) ≡ starting low high es = rw out refl in
        ap (λ o. cover low high (one_of o) ++ cover low high (starting low high (e ∷ es))) last ∙ ap (λ z. cover low high (e ∷ []) ++ cover low high z) others ∙ ap (λ z. cover low high (e ∷ []) ++ z) m ∙ sym (cover-cons low high from e es apart)
    by (Some y) h true g more =
        let m : cover low high (y ∷ []) ++ cover low high (starting low high es) ≡ cover low high es = (rw h at more) in
        let out : (nat_le low e.0 && nat_lt e.0 high) ≡ false = before-range low high e.0 (ltb-true e.0 low g) in
        let range : (end_of e ≤ y.0) × (y.0 < low) = last-range low (end_of e) es y apart.3 h in
        let ends : nat_le (end_of e) low ≡ true = le-leb (end_of e) low (omega (arith, range.0, range.1)) in
        let last : last_before low (e ∷ es) ≡ Some y = rw h refl in
        let others : starting low high (e ∷ es) ≡ starting low high es = rw out refl in
        let skips : after low (e ∷ es) ≡ after low es = rw ends refl in
        ap (λ o. cover low high (one_of o) ++ cover low high (starting low high (e ∷ es))) last ∙ ap (λ z. cover low high (y ∷ []) ++ cover low high z) others ∙ m ∙ ap (before high) (sym skips)
    by o h false g more =
        let begins : low ≤ e.0 = ltb-false e.0 low g in
        let none : last_before low es ≡ None = last-none low (end_of e) es apart.3 (omega (arith, begins)) in
        let m : cover low high (starting low high es) ≡ cover low high es = (rw none at more) in
        let nothing : last_before low (e ∷ es) ≡ None = rw (none, g) refl in
        ap (λ o. cover low high (one_of o) ++ cover low high (starting low high (e ∷ es))) nothing ∙ here begins m (nat_lt e.0 high) refl

-- one segment of the range, and those after it
cover-step : (low next high from : ℕ) (es : Segments) (x : ℕ × Segment) → AreApart from es → first_between next high es ≡ Some x → cover low high (starting next high es) ≡ cover low high (x ∷ []) ++ cover low high (starting (x.0 + 1) high es)
cover-step low next high from es x apart found =
    let step : starting next high es ≡ x ∷ starting (x.0 + 1) high es = starting-step next high from es x apart found in
    let all : AreApart from (x ∷ starting (x.0 + 1) high es) = subst (AreApart from) step (apart-starting next high from es apart) in
    ap (cover low high) step ∙ cover-cons low high from x (starting (x.0 + 1) high es) all

-- the parts that are told in turn
pub parts-begin : (low high : ℕ) (es : Segments) (o : Option (ℕ × Segment)) (none told : List Part) → AreApart 0 es → told ≡ none ++ map part_of (cover low high (one_of o)) → none ≡ [] → o ≡ last_before low es
    → told ++ map part_of (cover low high (starting low high es)) ≡ map part_of (cover low high es)
parts-begin low high es o none told apart is empty found =
    let first : told ≡ map part_of (cover low high (one_of (last_before low es))) = is ∙ ap (λ z. z ++ map part_of (cover low high (one_of o))) empty ∙ ap (λ (z : Option (ℕ × Segment)). map part_of (cover low high (one_of z))) found in
    ap (λ z. z ++ map part_of (cover low high (starting low high es))) first ∙ sym (map-append part_of (cover low high (one_of (last_before low es))) (cover low high (starting low high es))) ∙ ap (map part_of) (cover-first low high 0 es apart)

pub parts-step : (low next high : ℕ) (es : Segments) (x : ℕ × Segment) (told more all : List Part) → AreApart 0 es → first_between next high es ≡ Some x → more ≡ told ++ map part_of (cover low high (x ∷ []))
    → told ++ map part_of (cover low high (starting next high es)) ≡ all → more ++ map part_of (cover low high (starting (x.0 + 1) high es)) ≡ all
parts-step low next high es x told more all apart found is so =
    let one = map part_of (cover low high (x ∷ [])) in
    let rest = map part_of (cover low high (starting (x.0 + 1) high es)) in
    let split : map part_of (cover low high (starting next high es)) ≡ one ++ rest =
    ap (map part_of) (cover-step low next high 0 es x apart found) ∙ map-append part_of (cover low high (x ∷ [])) (cover low high (starting (x.0 + 1) high es)) in
    ap (λ z. z ++ rest) is ∙ append_assoc told one rest ∙ ap (λ z. told ++ z) (sym split) ∙ so

pub parts-end : (low next high : ℕ) (es : Segments) (told all : List Part) → first_between next high es ≡ None → told ++ map part_of (cover low high (starting next high es)) ≡ all → told ≡ all
parts-end low next high es told all none so = sym (append-nil told) ∙ ap (λ z. told ++ map part_of (cover low high z)) (sym (starting-none next high es none)) ∙ so

-- the last segment before a place has bytes
last-some : (place from : ℕ) (es : Segments) → AreApart from es → IfSome (last_before place es) (λ (e : ℕ × Segment). 0 < length e.1.bytes)
last-some place from [] apart = tt
last-some place from (e ∷ es) apart = by (last_before place es) refl (nat_lt e.0 place) refl (last-some place (end_of e) es apart.3)
  where
    by : (o : Option (ℕ × Segment)) → last_before place es ≡ o → (b : Bool) → nat_lt e.0 place ≡ b → IfSome (last_before place es) (λ (e : ℕ × Segment). 0 < length e.1.bytes) → IfSome (last_before place (e ∷ es)) (λ (e : ℕ × Segment). 0 < length e.1.bytes)
    by (Some y) h b g more = rw h (rw h at more)
    by None h true g more = rw (h, g) apart.1
    by None h false g more = rw (h, g) tt

-- the same of what is mapped
if-mapped : {X Y : Type 0} (f : X → Y) (P : Y → Type 0) (o : Option X) → IfSome (option_map f o) P → IfSome o (λ x. P (f x))
if-mapped f P None is = is
if-mapped f P (Some x) is = is

pub last-fits : {X : Type 0} (f : X → ℕ × Segment) (o : Option X) (place : ℕ) (es : Segments) → AreApart 0 es → option_map f o ≡ last_before place es → IfSome o (λ x. 0 < length (f x).1.bytes)
last-fits f o place es apart is = if-mapped f (λ (e : ℕ × Segment). 0 < length e.1.bytes) o (subst (λ (z : Option (ℕ × Segment)). IfSome z (λ (e : ℕ × Segment). 0 < length e.1.bytes)) (sym is) (last-some place 0 es apart))
