-- The segment that goes on past a place, and what is cut there.
use Rattle.std.proofs.Common.{◌≡◌, ◌<◌, ◌≤◌, ◌^◌, ℕ, ◌-◌, ◌&&◌, ◌||◌, Bool, true, false, [], ◌∷◌, Option, Some, None, refl, ap, ◌∙◌, subst, arith}
use Rattle.std.specs.Prelude.{nat_le, nat_lt, not, if◌then◌else◌}
use Rattle.std.proofs.lemmas.Bool.{le-leb, lt-leb, lt-ltb, le-ltb, ltb-true, ltb-false, leb-true, leb-false, and_parts}
use Rattle.write_back.specs.declared.change.Change.{Change}
use Rattle.write_back.specs.declared.change.Change.TheVariants as by_change
use Rattle.write_back.specs.Segments.{Segment, Segments, AreApart, end_of, head_of, tail_of, split_if, cut_from}
use Rattle.write_back.specs.Changes.{changed, count_changed, all_changed, count_all_changed}
use Rattle.write_back.specs.Walk.{at_place, last_before, passing, laid, shortened, ended_at, passing_upto, split_as}
use Rattle.write_back.specs.States.{is_in_flight}
use Rattle.write_back.proofs.Keys.{cmp-above, cmp-below, at-same, at-above, at-below, in-range, before-range}
use Rattle.write_back.proofs.Laying.{passing-none, passing-low}

-- where the last segment before a place begins
pub last-range : (place from : ℕ) (es : Segments) (x : ℕ × Segment) → AreApart from es → last_before place es ≡ Some x → (from ≤ x.0) × (x.0 < place)
last-range place from [] x apart found = absurd cc
last-range place from (e ∷ es) x apart found = by (last_before place es) refl (nat_lt e.0 place) refl (λ h. last-range place (end_of e) es x apart.3 h)
  where
    by : (o : Option (ℕ × Segment)) → last_before place es ≡ o → (b : Bool) → nat_lt e.0 place ≡ b → (last_before place es ≡ Some x → (end_of e ≤ x.0) × (x.0 < place)) → (from ≤ x.0) × (x.0 < place)
    by (Some y) h b g more =
        let f : Some y ≡ Some x = (rw h at found) in
        let m = more (h ∙ f) in
        (omega (arith, apart.0, m.0), m.1)
    by None h true g more =
        let f : Some e ≡ Some x = (rw (h, g) at found) in
        let same : e ≡ x = cc in
        let key : e.0 ≡ x.0 = ap (λ (z : ℕ × Segment). z.0) same in
        (omega (arith, apart.0, key), omega (arith, key, ltb-true e.0 place g))
    by None h false g more = let f : None ≡ Some x = (rw (h, g) at found) in absurd cc

pub passing-last-none : (place : ℕ) (es : Segments) → last_before place es ≡ None → passing place es ≡ None
passing-last-none place [] none = refl
passing-last-none place (e ∷ es) none = by (last_before place es) refl (nat_lt e.0 place) refl (λ h. passing-last-none place es h)
  where
    by : (o : Option (ℕ × Segment)) → last_before place es ≡ o → (b : Bool) → nat_lt e.0 place ≡ b → (last_before place es ≡ None → passing place es ≡ None) → passing place (e ∷ es) ≡ None
    by (Some y) h b g more = let f : Some y ≡ None = (rw h at none) in absurd cc
    by None h true g more = let f : Some e ≡ None = (rw (h, g) at none) in absurd cc
    by None h false g more = rw g (more h)

pub passing-last : (place from : ℕ) (es : Segments) (x : ℕ × Segment) → AreApart from es → last_before place es ≡ Some x → passing place es ≡ (if nat_lt place (end_of x) then Some x else None)
passing-last place from [] x apart found = absurd cc
passing-last place from (e ∷ es) x apart found = by (last_before place es) refl (nat_lt e.0 place) refl (λ h. passing-last place (end_of e) es x apart.3 h)
  where
    by : (o : Option (ℕ × Segment)) → last_before place es ≡ o → (b : Bool) → nat_lt e.0 place ≡ b → (last_before place es ≡ Some x → passing place es ≡ (if nat_lt place (end_of x) then Some x else None))
        → passing place (e ∷ es) ≡ (if nat_lt place (end_of x) then Some x else None)
    by (Some y) h b g more =
        let f : Some y ≡ Some x = (rw h at found) in
        let m : (end_of e ≤ x.0) × (x.0 < place) = last-range place (end_of e) es x apart.3 (h ∙ f) in
        let out : nat_lt place (end_of e) ≡ false = le-ltb place (end_of e) (omega (arith, m.0, m.1)) in
        skip b g out ∙ more (h ∙ f)
      where
        skip : (b : Bool) → nat_lt e.0 place ≡ b → nat_lt place (end_of e) ≡ false → passing place (e ∷ es) ≡ passing place es
        skip true g out = rw (g, out) refl
        skip false g out = rw g refl
    by None h true g more =
        let f : Some e ≡ Some x = (rw (h, g) at found) in
        let same : e ≡ x = cc in
        let none : passing place es ≡ None = passing-last-none place es h in
        subst (λ (z : ℕ × Segment). passing place (e ∷ es) ≡ (if nat_lt place (end_of z) then Some z else None)) same (rw (g, none) refl)
    by None h false g more = let f : None ≡ Some x = (rw (h, g) at found) in absurd cc

-- no segment begins where one goes on
pub passing-free : (place from : ℕ) (es : Segments) (x : ℕ × Segment) → AreApart from es → passing place es ≡ Some x → at_place place es ≡ None
passing-free place from [] x apart found = absurd cc
passing-free place from (e ∷ es) x apart found = by (nat_lt e.0 place && nat_lt place (end_of e)) refl (λ h. passing-free place (end_of e) es x apart.3 h)
  where
    none : (low : ℕ) (ys : Segments) → AreApart low ys → place < low → at_place place ys ≡ None
    none low [] apart lt = refl
    none low (f ∷ fs) apart lt = rw (at-below place f.0 (omega (arith, lt, apart.0))) (none (end_of f) fs apart.3 (omega (arith, lt, apart.0)))

    by : (b : Bool) → (nat_lt e.0 place && nat_lt place (end_of e)) ≡ b → (passing place es ≡ Some x → at_place place es ≡ None) → at_place place (e ∷ es) ≡ None
    by true h more =
        let parts = and_parts (nat_lt e.0 place) (nat_lt place (end_of e)) h in
        rw (at-above place e.0 (ltb-true e.0 place parts.0)) (none (end_of e) es apart.3 (ltb-true place (end_of e) parts.1))
    by false h more =
        let f : passing place es ≡ Some x = (rw h at found) in
        let low : end_of e ≤ x.0 = passing-low place (end_of e) es x apart.3 f in
        let first : x.0 < place = first-of es f in
        rw (at-above place e.0 (omega (arith, low, first))) (more f)
      where
        first-of : (ys : Segments) → passing place ys ≡ Some x → x.0 < place
        first-of [] found = absurd cc
        first-of (f ∷ fs) found = within (nat_lt f.0 place && nat_lt place (end_of f)) refl (λ g. first-of fs g)
          where
            within : (b : Bool) → (nat_lt f.0 place && nat_lt place (end_of f)) ≡ b → (passing place fs ≡ Some x → x.0 < place) → x.0 < place
            within true g more =
                let same : f ≡ x = (let k : Some f ≡ Some x = (rw g at found) in cc) in
                let key : f.0 ≡ x.0 = ap (λ (z : ℕ × Segment). z.0) same in
                omega (arith, key, ltb-true f.0 place (and_parts (nat_lt f.0 place) (nat_lt place (end_of f)) g).0)
            within false g more = let k : passing place fs ≡ Some x = (rw g at found) in more k

-- what is cut at a place
pub split-none : (test : Segment → Bool) (place from : ℕ) (es : Segments) → AreApart from es → passing place es ≡ None → split_if test place es ≡ es
split-none test place from [] apart none = refl
split-none test place from (e ∷ es) apart none = by (nat_lt e.0 place) (nat_lt place (end_of e)) refl refl (λ h. split-none test place (end_of e) es apart.3 h)
  where
    by : (b d : Bool) → nat_lt e.0 place ≡ b → nat_lt place (end_of e) ≡ d → (passing place es ≡ None → split_if test place es ≡ es) → split_if test place (e ∷ es) ≡ e ∷ es
    by true true h g more = let f : Some e ≡ None = (rw (h, g) at none) in absurd cc
    by true false h g more = let f : passing place es ≡ None = (rw (h, g) at none) in rw (h, g) (ap (λ z. e ∷ z) (more f))
    by false d h g more = rw h refl

pub split-kept : (test : Segment → Bool) (place from : ℕ) (es : Segments) (x : ℕ × Segment) → AreApart from es → passing place es ≡ Some x → test x.1 ≡ false → split_if test place es ≡ es
split-kept test place from [] x apart found kept = refl
split-kept test place from (e ∷ es) x apart found kept = by (nat_lt e.0 place) (nat_lt place (end_of e)) refl refl (λ h. split-kept test place (end_of e) es x apart.3 h kept)
  where
    by : (b d : Bool) → nat_lt e.0 place ≡ b → nat_lt place (end_of e) ≡ d → (passing place es ≡ Some x → split_if test place es ≡ es) → split_if test place (e ∷ es) ≡ e ∷ es
    by true true h g more =
        let same : e ≡ x = (let f : Some e ≡ Some x = (rw (h, g) at found) in cc) in
        let stays : test e.1 ≡ false = ap (λ (z : ℕ × Segment). test z.1) same ∙ kept in
        let none : passing place es ≡ None = passing-none place (end_of e) es apart.3 (omega (arith, ltb-true place (end_of e) g)) in
        rw (h, g, stays) (ap (λ z. e ∷ z) (split-none test place (end_of e) es apart.3 none))
    by true false h g more = let f : passing place es ≡ Some x = (rw (h, g) at found) in rw (h, g) (ap (λ z. e ∷ z) (more f))
    by false d h g more = rw h refl

pub split-cut : (test : Segment → Bool) (place from : ℕ) (es : Segments) (x : ℕ × Segment) → AreApart from es → passing place es ≡ Some x → test x.1 ≡ true
    → shortened x.0 (place - x.0) (laid place (tail_of (place - x.0) x.1) es) ≡ split_if test place es
split-cut test place from [] x apart found cut = absurd cc
split-cut test place from (e ∷ es) x apart found cut = by (nat_lt e.0 place) (nat_lt place (end_of e)) refl refl (λ h. (passing-low place (end_of e) es x apart.3 h, split-cut test place (end_of e) es x apart.3 h cut))
  where
    front : (s : Segment) (from : ℕ) (ys : Segments) → AreApart from ys → place < from → laid place s ys ≡ (place, s) ∷ ys
    front s from [] apart lt = refl
    front s from (f ∷ fs) apart lt = rw (cmp-below place f.0 (omega (arith, lt, apart.0))) refl

    by : (b d : Bool) → nat_lt e.0 place ≡ b → nat_lt place (end_of e) ≡ d
        → (passing place es ≡ Some x → (end_of e ≤ x.0) × (shortened x.0 (place - x.0) (laid place (tail_of (place - x.0) x.1) es) ≡ split_if test place es))
        → shortened x.0 (place - x.0) (laid place (tail_of (place - x.0) x.1) (e ∷ es)) ≡ split_if test place (e ∷ es)
    by true true h g more =
        let same : e ≡ x = (let f : Some e ≡ Some x = (rw (h, g) at found) in cc) in
        let goes : test e.1 ≡ true = ap (λ (z : ℕ × Segment). test z.1) same ∙ cut in
        let lay : laid place (tail_of (place - e.0) e.1) (e ∷ es) ≡ e ∷ (place, tail_of (place - e.0) e.1) ∷ es =
        rw (cmp-above place e.0 (ltb-true e.0 place h)) (ap (λ z. e ∷ z) (front (tail_of (place - e.0) e.1) (end_of e) es apart.3 (ltb-true place (end_of e) g))) in
        let short : shortened e.0 (place - e.0) (e ∷ (place, tail_of (place - e.0) e.1) ∷ es) ≡ (e.0, head_of (place - e.0) e.1) ∷ (place, tail_of (place - e.0) e.1) ∷ es = rw (at-same e.0 e.0 refl) refl in
        subst (λ (z : ℕ × Segment). shortened z.0 (place - z.0) (laid place (tail_of (place - z.0) z.1) (e ∷ es)) ≡ split_if test place (e ∷ es)) same
        (ap (shortened e.0 (place - e.0)) lay ∙ short ∙ rw (h, g, goes) refl)
    by true false h g more =
        let f : passing place es ≡ Some x = (rw (h, g) at found) in
        let m = more f in
        let later : e.0 < x.0 = omega (arith, apart.1, m.0) in
        rw (cmp-above place e.0 (ltb-true e.0 place h), at-above x.0 e.0 later, h, g) (ap (λ z. e ∷ z) m.1)
    by false d h g more =
        let none : passing place es ≡ None = passing-none place (end_of e) es apart.3 (omega (arith, ltb-false e.0 place h)) in
        let f : passing place es ≡ Some x = (rw h at found) in
        absurd cc

-- bytes at a place and after it go
cut-late : (place upto high from : ℕ) (es : Segments) → AreApart from es → place ≤ from → 2 ^ 63 - 1 ≤ high → changed (by_change.Drop upto) place high es ≡ cut_from place upto es
cut-late place upto high from [] apart le most = refl
cut-late place upto high from (e ∷ es) apart le most = by (nat_le e.1.number upto) refl (cut-late place upto high (end_of e) es apart.3 (omega (arith, le, apart.0)) most)
  where
    inside : (nat_le place e.0 && nat_lt e.0 high) ≡ true
    inside = in-range place high e.0 (omega (arith, le, apart.0)) (omega (arith, apart.1, apart.2, most))

    ends : nat_le (end_of e) place ≡ false
    ends = lt-leb (end_of e) place (omega (arith, le, apart.0, apart.1))

    first : nat_lt e.0 place ≡ false
    first = le-ltb e.0 place (omega (arith, le, apart.0))

    by : (b : Bool) → nat_le e.1.number upto ≡ b → changed (by_change.Drop upto) place high es ≡ cut_from place upto es → changed (by_change.Drop upto) place high (e ∷ es) ≡ cut_from place upto (e ∷ es)
    by true h more =
        let older : nat_lt upto e.1.number ≡ false = le-ltb upto e.1.number (leb-true e.1.number upto h) in
        rw (inside, h, older, ends, first) more
    by false h more =
        let newer : nat_lt upto e.1.number ≡ true = lt-ltb upto e.1.number (leb-false e.1.number upto h) in
        rw (inside, h, newer) (ap (λ z. e ∷ z) more)

pub cut-is : (place upto high from : ℕ) (es : Segments) → AreApart from es → 2 ^ 63 - 1 ≤ high → changed (by_change.Drop upto) place high (ended_at (passing_upto place upto es) place es) ≡ cut_from place upto es
cut-is place upto high from [] apart most = refl
cut-is place upto high from (e ∷ es) apart most = by (nat_lt e.0 place) refl (cut-is place upto high (end_of e) es apart.3 most)
  where
    out : nat_lt e.0 place ≡ true → (nat_le place e.0 && nat_lt e.0 high) ≡ false
    out h = before-range place high e.0 (ltb-true e.0 place h)

    past : (p : Option ℕ) → nat_lt e.0 place ≡ true → passing_upto place upto es ≡ p → (ended_at p place (e ∷ es) ≡ e ∷ ended_at p place es)
    past None h is = refl
    past (Some at) h is = rw (at-above at e.0 (key (passing place es) refl is)) refl
      where
        key : (o : Option (ℕ × Segment)) → passing place es ≡ o → passing_upto place upto es ≡ Some at → e.0 < at
        key None g f = let k : None ≡ Some at = (rw g at f) in absurd cc
        key (Some x) g f = old (nat_le x.1.number upto) refl (rw g at f)
          where
            old : (b : Bool) → nat_le x.1.number upto ≡ b → (if nat_le x.1.number upto then Some x.0 else None) ≡ Some at → e.0 < at
            old true w k = let same : x.0 ≡ at = (let z : Some x.0 ≡ Some at = (rw w at k) in cc) in omega (arith, same, apart.1, passing-low place (end_of e) es x apart.3 g)
            old false w k = let z : None ≡ Some at = (rw w at k) in absurd cc

    here : (b d : Bool) → nat_lt e.0 place ≡ true → nat_lt place (end_of e) ≡ b → nat_le e.1.number upto ≡ d → changed (by_change.Drop upto) place high (ended_at (passing_upto place upto es) place es) ≡ cut_from place upto es
        → changed (by_change.Drop upto) place high (ended_at (passing_upto place upto (e ∷ es)) place (e ∷ es)) ≡ cut_from place upto (e ∷ es)
    here true true h g w more =
        let older : nat_lt upto e.1.number ≡ false = le-ltb upto e.1.number (leb-true e.1.number upto w) in
        let ends : nat_le (end_of e) place ≡ false = lt-leb (end_of e) place (ltb-true place (end_of e) g) in
        let late : changed (by_change.Drop upto) place high es ≡ cut_from place upto es = cut-late place upto high (end_of e) es apart.3 (omega (arith, ltb-true place (end_of e) g)) most in
        let key : passing_upto place upto (e ∷ es) ≡ Some e.0 = rw (h, g, w) refl in
        let short : shortened e.0 (place - e.0) (e ∷ es) ≡ (e.0, head_of (place - e.0) e.1) ∷ es = rw (at-same e.0 e.0 refl) refl in
        let goes : changed (by_change.Drop upto) place high ((e.0, head_of (place - e.0) e.1) ∷ es) ≡ (e.0, head_of (place - e.0) e.1) ∷ cut_from place upto es = rw (out h) (ap (λ z. (e.0, head_of (place - e.0) e.1) ∷ z) late) in
        ap (λ p. changed (by_change.Drop upto) place high (ended_at p place (e ∷ es))) key ∙ ap (changed (by_change.Drop upto) place high) short ∙ goes ∙ rw (older, ends, h) refl
    here true false h g w more =
        let newer : nat_lt upto e.1.number ≡ true = lt-ltb upto e.1.number (leb-false e.1.number upto w) in
        let late : changed (by_change.Drop upto) place high es ≡ cut_from place upto es = cut-late place upto high (end_of e) es apart.3 (omega (arith, ltb-true place (end_of e) g)) most in
        let key : passing_upto place upto (e ∷ es) ≡ None = rw (h, g, w) refl in
        let goes : changed (by_change.Drop upto) place high (e ∷ es) ≡ e ∷ cut_from place upto es = rw (out h) (ap (λ z. e ∷ z) late) in
        ap (λ p. changed (by_change.Drop upto) place high (ended_at p place (e ∷ es))) key ∙ goes ∙ rw newer refl
    here false d h g w more =
        let ends : nat_le (end_of e) place ≡ true = le-leb (end_of e) place (ltb-false place (end_of e) g) in
        let stays : (nat_lt upto e.1.number || nat_le (end_of e) place) ≡ true = or (nat_lt upto e.1.number) ends in
        let key : passing_upto place upto (e ∷ es) ≡ passing_upto place upto es = rw (h, g) refl in
        let goes : changed (by_change.Drop upto) place high (e ∷ ended_at (passing_upto place upto es) place es) ≡ e ∷ cut_from place upto es = rw (out h) (ap (λ z. e ∷ z) more) in
        ap (λ p. changed (by_change.Drop upto) place high (ended_at p place (e ∷ es))) key ∙ ap (changed (by_change.Drop upto) place high) (past (passing_upto place upto es) h refl) ∙ goes ∙ rw stays refl
      where
        or : (b : Bool) → nat_le (end_of e) place ≡ true → (b || nat_le (end_of e) place) ≡ true
        or true h = refl
        or false h = h

    by : (b : Bool) → nat_lt e.0 place ≡ b → changed (by_change.Drop upto) place high (ended_at (passing_upto place upto es) place es) ≡ cut_from place upto es
        → changed (by_change.Drop upto) place high (ended_at (passing_upto place upto (e ∷ es)) place (e ∷ es)) ≡ cut_from place upto (e ∷ es)
    by true h more = here (nat_lt place (end_of e)) (nat_le e.1.number upto) h refl refl more
    by false h more =
        let le : place ≤ e.0 = ltb-false e.0 place h in
        let none : passing place es ≡ None = passing-none place (end_of e) es apart.3 (omega (arith, le)) in
        let key : passing_upto place upto (e ∷ es) ≡ None = rw (h, none) refl in
        ap (λ p. changed (by_change.Drop upto) place high (ended_at p place (e ∷ es))) key ∙ cut-late place upto high e.0 (e ∷ es) (omega arith, apart.1, apart.2, apart.3) le most

-- a change from the first place to beyond the last is one of all
pub changed-all : (change : Change) (high low : ℕ) (es : Segments) → AreApart low es → 2 ^ 63 - 1 ≤ high → changed change 0 high es ≡ all_changed change es
changed-all change high low [] apart most = refl
changed-all change high low (e ∷ es) apart most =
    let inside : (nat_le 0 e.0 && nat_lt e.0 high) ≡ true = in-range 0 high e.0 (omega arith) (omega (arith, apart.1, apart.2, most)) in
    rw (inside, changed-all change high (end_of e) es apart.3 most) refl

pub count-all : (change : Change) (high low : ℕ) (es : Segments) → AreApart low es → 2 ^ 63 - 1 ≤ high → count_changed change 0 high es ≡ count_all_changed change es
count-all change high low [] apart most = refl
count-all change high low (e ∷ es) apart most =
    let inside : (nat_le 0 e.0 && nat_lt e.0 high) ≡ true = in-range 0 high e.0 (omega arith) (omega (arith, apart.1, apart.2, most)) in
    rw (inside, count-all change high (end_of e) es apart.3 most) refl

-- the last segment before a place goes on past it, or ends before
pub passing-long : (place from : ℕ) (es : Segments) (x : ℕ × Segment) → AreApart from es → last_before place es ≡ Some x → place < end_of x → passing place es ≡ Some x
passing-long place from es x apart found lt = let past : nat_lt place (end_of x) ≡ true = lt-ltb place (end_of x) lt in passing-last place from es x apart found ∙ rw past refl

pub passing-short : (place from : ℕ) (es : Segments) (x : ℕ × Segment) → AreApart from es → last_before place es ≡ Some x → end_of x ≤ place → passing place es ≡ None
passing-short place from es x apart found le = let out : nat_lt place (end_of x) ≡ false = le-ltb place (end_of x) le in passing-last place from es x apart found ∙ rw out refl

-- what is cut, of what is in flight alone or of all
pub split-as-none : (flying : Bool) (place : ℕ) (es : Segments) → AreApart 0 es → passing place es ≡ None → split_as flying place es ≡ es
split-as-none true place es apart none = split-none (λ s. is_in_flight s.state) place 0 es apart none
split-as-none false place es apart none = split-none (λ s. true) place 0 es apart none

pub split-as-kept : (flying : Bool) (place : ℕ) (es : Segments) (x : ℕ × Segment) → AreApart 0 es → passing place es ≡ Some x → (flying && not (is_in_flight x.1.state)) ≡ true → split_as flying place es ≡ es
split-as-kept true place es x apart found kept = by (is_in_flight x.1.state) refl
  where
    by : (b : Bool) → is_in_flight x.1.state ≡ b → split_if (λ s. is_in_flight s.state) place es ≡ es
    by true h = let f : false ≡ true = (rw h at kept) in absurd cc
    by false h = split-kept (λ s. is_in_flight s.state) place 0 es x apart found h
split-as-kept false place es x apart found kept = absurd cc

pub split-as-cut : (flying : Bool) (place : ℕ) (es : Segments) (x : ℕ × Segment) → AreApart 0 es → passing place es ≡ Some x → (flying && not (is_in_flight x.1.state)) ≡ false
    → shortened x.0 (place - x.0) (laid place (tail_of (place - x.0) x.1) es) ≡ split_as flying place es
split-as-cut true place es x apart found cut = by (is_in_flight x.1.state) refl
  where
    by : (b : Bool) → is_in_flight x.1.state ≡ b → shortened x.0 (place - x.0) (laid place (tail_of (place - x.0) x.1) es) ≡ split_if (λ s. is_in_flight s.state) place es
    by true h = split-cut (λ s. is_in_flight s.state) place 0 es x apart found h
    by false h = let f : true ≡ false = (rw h at cut) in absurd cc
split-as-cut false place es x apart found cut = split-cut (λ s. true) place 0 es x apart found refl
