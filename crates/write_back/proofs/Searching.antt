-- The first segment that passes a test, and which segments are sent together.
use Rattle.std.proofs.Common.{◌≡◌, ◌<◌, ◌≤◌, ℕ, ◌+◌, ◌-◌, ◌&&◌, Bool, true, false, List, [], ◌∷◌, length, Some, None, refl, sym, ap, subst, ◌∙◌, arith}
use Rattle.std.specs.Prelude.{nat_le, nat_lt, nat_eq, if◌then◌else◌}
use Rattle.std.proofs.lemmas.Bool.{le-leb, lt-leb, lt-ltb, le-ltb, ltb-true, ltb-false, leb-true, leb-false, eqb-true}
use Rattle.write_back.specs.Segments.{Segment, Segments, AreApart, end_of, head_of}
use Rattle.write_back.specs.Pieces.{Sent}
use Rattle.write_back.specs.Choice.{may_go, how_of_segment, run_from, chosen_from}
use Rattle.write_back.specs.Walk.{at_place, first_that, from_key}
use Rattle.write_back.proofs.Keys.{at-same, at-above, at-below}

-- which of two early places a search begins at is the same
that-lower : (test : ℕ × Segment → Bool) (low other from : ℕ) (es : Segments) → AreApart from es → low ≤ from → other ≤ from → first_that test low es ≡ first_that test other es
that-lower test low other from [] apart l o = refl
that-lower test low other from (e ∷ es) apart l o =
    let more : first_that test low es ≡ first_that test other es = that-lower test low other (end_of e) es apart.3 (omega (arith, apart.0, l)) (omega (arith, apart.0, o)) in
    let a : nat_le low e.0 ≡ true = le-leb low e.0 (omega (arith, apart.0, l)) in
    let b : nat_le other e.0 ≡ true = le-leb other e.0 (omega (arith, apart.0, o)) in
    rw (a, b, more) refl

-- a narrower test is failed by those that fail a wider one, so a search for it may begin at the first that passes that
pub that-within : (wide narrow : ℕ × Segment → Bool) (low from : ℕ) (es : Segments) → AreApart from es → ((e : ℕ × Segment) → wide e ≡ false → narrow e ≡ false)
    → (x : ℕ × Segment) → first_that wide low es ≡ Some x → first_that narrow x.0 es ≡ first_that narrow low es
that-within wide narrow low from [] apart less x found = refl
that-within wide narrow low from (e ∷ es) apart less x found = by (nat_le low e.0) (wide e) refl refl (λ h. that-within wide narrow low (end_of e) es apart.3 less x h)
  where
    late : (ys : Segments) (start : ℕ) → AreApart start ys → first_that wide low ys ≡ Some x → start ≤ x.0
    late [] start is found = absurd cc
    late (f ∷ fs) start is found = pass (nat_le low f.0 && wide f) refl (λ h. late fs (end_of f) is.3 h)
      where
        pass : (b : Bool) → (nat_le low f.0 && wide f) ≡ b → (first_that wide low fs ≡ Some x → end_of f ≤ x.0) → start ≤ x.0
        pass true h more = let same : f ≡ x = (let k : Some f ≡ Some x = (rw h at found) in cc) in let key : f.0 ≡ x.0 = ap (λ (z : ℕ × Segment). z.0) same in omega (arith, is.0, key)
        pass false h more = let k : first_that wide low fs ≡ Some x = (rw h at found) in omega (arith, is.0, more k)

    by : (b d : Bool) → nat_le low e.0 ≡ b → wide e ≡ d → (first_that wide low es ≡ Some x → first_that narrow x.0 es ≡ first_that narrow low es) → first_that narrow x.0 (e ∷ es) ≡ first_that narrow low (e ∷ es)
    by true true h g more =
        let same : e ≡ x = (let f : Some e ≡ Some x = (rw (h, g) at found) in cc) in
        let here : nat_le e.0 e.0 ≡ true = le-leb e.0 e.0 (omega arith) in
        subst (λ (z : ℕ × Segment). first_that narrow z.0 (e ∷ es) ≡ first_that narrow low (e ∷ es)) same
        (rw (here, h, that-lower narrow e.0 low (end_of e) es apart.3 (omega arith) (omega (arith, leb-true low e.0 h))) refl)
    by true false h g more =
        let f : first_that wide low es ≡ Some x = (rw (h, g) at found) in
        let out : nat_le x.0 e.0 ≡ false = lt-leb x.0 e.0 (omega (arith, apart.1, late es (end_of e) apart.3 f)) in
        rw (out, h, less e g) (more f)
    by false d h g more =
        let f : first_that wide low es ≡ Some x = (rw h at found) in
        let out : nat_le x.0 e.0 ≡ false = lt-leb x.0 e.0 (omega (arith, apart.1, late es (end_of e) apart.3 f)) in
        rw (out, h) (more f)

-- the segments from a place on, where one begins there
pub from-at : (place low : ℕ) (es : Segments) (s : Segment) → AreApart low es → at_place place es ≡ Some s → from_key place es ≡ (place, s) ∷ from_key (place + length s.bytes) es
from-at place low [] s apart found = absurd cc
from-at place low (e ∷ es) s apart found = by (nat_lt e.0 place) refl (λ h. from-at place (end_of e) es s apart.3 h)
  where
    none : (from : ℕ) (ys : Segments) → AreApart from ys → place < from → at_place place ys ≡ None
    none from [] is lt = refl
    none from (f ∷ fs) is lt = rw (at-below place f.0 (omega (arith, lt, is.0))) (none (end_of f) fs is.3 (omega (arith, lt, is.0)))

    whole : (from start : ℕ) (ys : Segments) → AreApart from ys → start ≤ from → from_key start ys ≡ ys
    whole from start [] is le = refl
    whole from start (f ∷ fs) is le = rw (le-ltb f.0 start (omega (arith, le, is.0))) refl

    by : (b : Bool) → nat_lt e.0 place ≡ b → (at_place place es ≡ Some s → from_key place es ≡ (place, s) ∷ from_key (place + length s.bytes) es) → from_key place (e ∷ es) ≡ (place, s) ∷ from_key (place + length s.bytes) (e ∷ es)
    by true h more =
        let lt : e.0 < place = ltb-true e.0 place h in
        let f : at_place place es ≡ Some s = (rw (at-above place e.0 lt) at found) in
        let past : nat_lt e.0 (place + length s.bytes) ≡ true = lt-ltb e.0 (place + length s.bytes) (omega (arith, lt)) in
        rw (h, past) (more f)
    by false h more = which (nat_lt place e.0) refl
      where
        which : (b : Bool) → nat_lt place e.0 ≡ b → from_key place (e ∷ es) ≡ (place, s) ∷ from_key (place + length s.bytes) (e ∷ es)
        which true g =
            let f : at_place place es ≡ Some s = (rw (at-below place e.0 (ltb-true place e.0 g)) at found) in
            let lost : at_place place es ≡ None = none (end_of e) es apart.3 (omega (arith, ltb-true place e.0 g)) in
            absurd cc
        which false g =
            let is : place ≡ e.0 = omega (arith, ltb-false e.0 place h, ltb-false place e.0 g) in
            let same : e.1 ≡ s = (let f : Some e.1 ≡ Some s = (rw (at-same place e.0 is) at found) in cc) in
            let past : nat_lt e.0 (e.0 + length e.1.bytes) ≡ true = lt-ltb e.0 (e.0 + length e.1.bytes) (omega (arith, apart.1)) in
            let rest : from_key (e.0 + length e.1.bytes) (e ∷ es) ≡ es = rw past (whole (end_of e) (e.0 + length e.1.bytes) es apart.3 (omega arith)) in
            let here : from_key place (e ∷ es) ≡ e ∷ es = rw h refl in
            here ∙ ap (λ z. e ∷ z) (sym rest) ∙ ap (λ (p : ℕ × Segment). p ∷ from_key (p.0 + length p.1.bytes) (e ∷ es)) (pair (sym is) same)
          where
            pair : e.0 ≡ place → e.1 ≡ s → e ≡ (place, s)
            pair a b = ap (λ k. (k, e.1)) a ∙ ap (λ v. (place, v)) b

-- no segment begins at a place
pub run-absent : (pieces : List Sent) (upto how place room low : ℕ) (es : Segments) → AreApart low es → at_place place es ≡ None → run_from pieces upto how place room (from_key place es) ≡ []
run-absent pieces upto how place room low [] apart none = refl
run-absent pieces upto how place room low (e ∷ es) apart none = by (nat_lt e.0 place) refl (λ h. run-absent pieces upto how place room (end_of e) es apart.3 h)
  where
    by : (b : Bool) → nat_lt e.0 place ≡ b → (at_place place es ≡ None → run_from pieces upto how place room (from_key place es) ≡ []) → run_from pieces upto how place room (from_key place (e ∷ es)) ≡ []
    by true h more =
        let f : at_place place es ≡ None = (rw (at-above place e.0 (ltb-true e.0 place h)) at none) in
        rw h (more f)
    by false h more = rw h (stop (nat_eq e.0 place) refl)
      where
        stop : (b : Bool) → nat_eq e.0 place ≡ b → run_from pieces upto how place room (e ∷ es) ≡ []
        stop true g = let f : Some e.1 ≡ None = (rw (at-same place e.0 (sym (eqb-true e.0 place g))) at none) in absurd cc
        stop false g = rw g (out (may_go pieces upto e && nat_eq (how_of_segment e) how))
          where
            out : (b : Bool) → (if (b && false) && nat_lt 0 room then (e.0, head_of room e.1) ∷ run_from pieces upto how (end_of e) (room - length e.1.bytes) es else []) ≡ []
            out true = refl
            out false = refl

-- the first that may go, and those that go with it
pub chosen-none : (pieces : List Sent) (upto wsize : ℕ) (es : Segments) → first_that (may_go pieces upto) 0 es ≡ None → chosen_from pieces upto wsize es ≡ []
chosen-none pieces upto wsize [] none = refl
chosen-none pieces upto wsize (e ∷ es) none = by (may_go pieces upto e) refl (λ h. chosen-none pieces upto wsize es h)
  where
    by : (b : Bool) → may_go pieces upto e ≡ b → (first_that (may_go pieces upto) 0 es ≡ None → chosen_from pieces upto wsize es ≡ []) → chosen_from pieces upto wsize (e ∷ es) ≡ []
    by true h more =
        let first : nat_le 0 e.0 ≡ true = le-leb 0 e.0 (omega arith) in
        let f : Some e ≡ None = (rw (first, h) at none) in
        absurd cc
    by false h more =
        let first : nat_le 0 e.0 ≡ true = le-leb 0 e.0 (omega arith) in
        let f : first_that (may_go pieces upto) 0 es ≡ None = (rw (first, h) at none) in
        rw h (more f)

pub chosen-first : (pieces : List Sent) (upto wsize low : ℕ) (es : Segments) (x : ℕ × Segment) → AreApart low es → first_that (may_go pieces upto) 0 es ≡ Some x
    → chosen_from pieces upto wsize es ≡ run_from pieces upto (how_of_segment x) x.0 wsize (from_key x.0 es)
chosen-first pieces upto wsize low [] x apart found = absurd cc
chosen-first pieces upto wsize low (e ∷ es) x apart found = by (may_go pieces upto e) refl (λ h. chosen-first pieces upto wsize (end_of e) es x apart.3 h)
  where
    first : nat_le 0 e.0 ≡ true
    first = le-leb 0 e.0 (omega arith)

    late : (ys : Segments) (start : ℕ) → AreApart start ys → first_that (may_go pieces upto) 0 ys ≡ Some x → start ≤ x.0
    late [] start is found = absurd cc
    late (f ∷ fs) start is found = pass (nat_le 0 f.0 && may_go pieces upto f) refl (λ h. late fs (end_of f) is.3 h)
      where
        pass : (b : Bool) → (nat_le 0 f.0 && may_go pieces upto f) ≡ b → (first_that (may_go pieces upto) 0 fs ≡ Some x → end_of f ≤ x.0) → start ≤ x.0
        pass true h more = let same : f ≡ x = (let k : Some f ≡ Some x = (rw h at found) in cc) in let key : f.0 ≡ x.0 = ap (λ (z : ℕ × Segment). z.0) same in omega (arith, is.0, key)
        pass false h more = let k : first_that (may_go pieces upto) 0 fs ≡ Some x = (rw h at found) in omega (arith, is.0, more k)

    by : (b : Bool) → may_go pieces upto e ≡ b → (first_that (may_go pieces upto) 0 es ≡ Some x → chosen_from pieces upto wsize es ≡ run_from pieces upto (how_of_segment x) x.0 wsize (from_key x.0 es))
        → chosen_from pieces upto wsize (e ∷ es) ≡ run_from pieces upto (how_of_segment x) x.0 wsize (from_key x.0 (e ∷ es))
    by true h more =
        let same : e ≡ x = (let f : Some e ≡ Some x = (rw (first, h) at found) in cc) in
        let here : from_key e.0 (e ∷ es) ≡ e ∷ es = (let out : nat_lt e.0 e.0 ≡ false = le-ltb e.0 e.0 (omega arith) in rw out refl) in
        let begins : chosen_from pieces upto wsize (e ∷ es) ≡ run_from pieces upto (how_of_segment e) e.0 wsize (e ∷ es) = rw h refl in
        subst (λ (z : ℕ × Segment). chosen_from pieces upto wsize (e ∷ es) ≡ run_from pieces upto (how_of_segment z) z.0 wsize (from_key z.0 (e ∷ es))) same
        (begins ∙ ap (run_from pieces upto (how_of_segment e) e.0 wsize) (sym here))
    by false h more =
        let f : first_that (may_go pieces upto) 0 es ≡ Some x = (rw (first, h) at found) in
        let past : nat_lt e.0 x.0 ≡ true = lt-ltb e.0 x.0 (omega (arith, apart.1, late es (end_of e) apart.3 f)) in
        rw (h, past) (more f)
