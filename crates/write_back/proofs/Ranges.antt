-- How the segments of a file are walked.
use Rattle.std.proofs.Common.{◌≡◌, ◌<◌, ◌≤◌, ℕ, ◌&&◌, Bool, true, false, [], ◌∷◌, ◌++◌, length, Some, None, refl, sym, ap, subst, arith, is_le, is_gt, nat_cmp}
use Rattle.std.specs.Prelude.{nat_le, nat_lt, not}
use Rattle.std.specs.declared.cmp.Ordering.{Ordering}
use Rattle.std.specs.declared.cmp.Ordering.TheVariants.{Less, Equal, Greater}
use Rattle.std.specs.declared.ops.Bound.TheVariants.{Included, Excluded, Unbounded}
use Rattle.std.specs.List.{slice_get}
use Rattle.std.specs.Map.{lookup, remove_entry, set_value}
use Rattle.std.specs.BTreeMap.{is_at}
use Rattle.std.specs.BTreeMap.Range.{range_contains, entries_between}
use Rattle.std.proofs.lemmas.Bool.{le-leb, lt-leb, lt-ltb, le-ltb}
use Rattle.std.proofs.lemmas.Cmp.{ranked}
use Rattle.write_back.specs.Segments.{Segment, Segments}
use Rattle.write_back.specs.Walk.{begun_from, first_between, last_before, without_between, edited_if, laid, taken_out}
use Rattle.write_back.proofs.Changing.{found-range}
use Rattle.write_back.proofs.Keys.{is-at, at-same}

le-same : (a q : ℕ) (r : Ordering) → r ≡ nat_cmp a q → is_le r ≡ nat_le a q
le-same a q Less e = sym (le-leb a q (omega (arith, ranked a q Less e)))
le-same a q Equal e = sym (le-leb a q (omega (arith, ranked a q Equal e)))
le-same a q Greater e = sym (lt-leb a q (ranked a q Greater e))

past-same : (b q : ℕ) (r : Ordering) → r ≡ nat_cmp b q → not (is_le r) ≡ nat_lt q b
past-same b q Less e = sym (le-ltb q b (omega (arith, ranked b q Less e)))
past-same b q Equal e = sym (le-ltb q b (omega (arith, ranked b q Equal e)))
past-same b q Greater e = sym (lt-ltb q b (ranked b q Greater e))

pub not-above : (a b : ℕ) → a ≤ b → (r : Ordering) → r ≡ nat_cmp a b → is_gt r ≡ false
not-above a b le Less e = refl
not-above a b le Equal e = refl
not-above a b le Greater e = absurd (omega (arith, le, ranked a b Greater e))

-- a range of the map, and its first entry
within-same : (low high q : ℕ) → range_contains nat_cmp (Included low) (Excluded high) q ≡ (nat_le low q && nat_lt q high)
within-same low high q = rw (le-same low q (nat_cmp low q) refl, past-same high q (nat_cmp high q) refl) refl

pub first_is : (low high : ℕ) (es : Segments) → slice_get (entries_between nat_cmp (Included low) (Excluded high) es) 0 ≡ first_between low high es
first_is low high [] = refl
first_is low high (e ∷ es) = by (nat_le low e.0 && nat_lt e.0 high) refl (first_is low high es)
  where
    by : (b : Bool) → (nat_le low e.0 && nat_lt e.0 high) ≡ b → slice_get (entries_between nat_cmp (Included low) (Excluded high) es) 0 ≡ first_between low high es
        → slice_get (entries_between nat_cmp (Included low) (Excluded high) (e ∷ es)) 0 ≡ first_between low high (e ∷ es)
    by true h more = rw (within-same low high e.0, h) refl
    by false h more = rw (within-same low high e.0, h) more

-- the last entry of a range
pub last_none : (place : ℕ) (es : Segments) → entries_between nat_cmp Unbounded (Excluded place) es ≡ [] → last_before place es ≡ None
last_none place [] none = refl
last_none place (e ∷ es) none = by (nat_lt e.0 place) refl (λ h. last_none place es h)
  where
    by : (b : Bool) → nat_lt e.0 place ≡ b → (entries_between nat_cmp Unbounded (Excluded place) es ≡ [] → last_before place es ≡ None) → last_before place (e ∷ es) ≡ None
    by true h more = let f : e ∷ entries_between nat_cmp Unbounded (Excluded place) es ≡ [] = (rw (past-same place e.0 (nat_cmp place e.0) refl, h) at none) in absurd cc
    by false h more = let f : entries_between nat_cmp Unbounded (Excluded place) es ≡ [] = (rw (past-same place e.0 (nat_cmp place e.0) refl, h) at none) in rw (more f, h) refl

pub last_some : (place : ℕ) (es t : Segments) (x : ℕ × Segment) → entries_between nat_cmp Unbounded (Excluded place) es ≡ t ++ x ∷ [] → last_before place es ≡ Some x
last_some place [] [] x is = absurd cc
last_some place [] (y ∷ t) x is = absurd cc
last_some place (e ∷ es) t x is = by (nat_lt e.0 place) refl t is (λ u h. last_some place es u x h)
  where
    step : (u : Segments) → e ∷ entries_between nat_cmp Unbounded (Excluded place) es ≡ u ++ x ∷ [] → nat_lt e.0 place ≡ true
        → ((v : Segments) → entries_between nat_cmp Unbounded (Excluded place) es ≡ v ++ x ∷ [] → last_before place es ≡ Some x) → last_before place (e ∷ es) ≡ Some x
    step [] is h more =
        let none : entries_between nat_cmp Unbounded (Excluded place) es ≡ [] = cc in
        let same : e ≡ x = cc in
        rw (last_none place es none, h) (ap Some same)
    step (y ∷ u) is h more =
        let f : entries_between nat_cmp Unbounded (Excluded place) es ≡ u ++ x ∷ [] = cc in
        rw (more u f) refl

    by : (b : Bool) → nat_lt e.0 place ≡ b → (u : Segments) → entries_between nat_cmp Unbounded (Excluded place) (e ∷ es) ≡ u ++ x ∷ []
        → ((v : Segments) → entries_between nat_cmp Unbounded (Excluded place) es ≡ v ++ x ∷ [] → last_before place es ≡ Some x) → last_before place (e ∷ es) ≡ Some x
    by true h u is more = step u (rw (past-same place e.0 (nat_cmp place e.0) refl, h) at is) h more
    by false h u is more = let f : entries_between nat_cmp Unbounded (Excluded place) es ≡ u ++ x ∷ [] = (rw (past-same place e.0 (nat_cmp place e.0) refl, h) at is) in rw (more u f) refl

-- a segment that is written through a borrow
pub set-edited : (test : ℕ → Bool) (f : Segment → Segment) (es : Segments) (v : Segment) → lookup test es ≡ Some v → set_value test es (f v) ≡ edited_if test f es
set-edited test f [] v found = absurd cc
set-edited test f (e ∷ es) v found = by (test e.0) refl (λ h. set-edited test f es v h)
  where
    by : (b : Bool) → test e.0 ≡ b → (lookup test es ≡ Some v → set_value test es (f v) ≡ edited_if test f es) → set_value test (e ∷ es) (f v) ≡ edited_if test f (e ∷ es)
    by true h more = let same : e.1 ≡ v = (let g : Some e.1 ≡ Some v = (rw h at found) in cc) in rw (h, same) refl
    by false h more = let g : lookup test es ≡ Some v = (rw h at found) in rw h (ap (λ z. e ∷ z) (more g))

pub edited-none : (test : ℕ → Bool) (f : Segment → Segment) (es : Segments) → lookup test es ≡ None → edited_if test f es ≡ es
edited-none test f [] found = refl
edited-none test f (e ∷ es) found = by (test e.0) refl (λ h. edited-none test f es h)
  where
    by : (b : Bool) → test e.0 ≡ b → (lookup test es ≡ None → edited_if test f es ≡ es) → edited_if test f (e ∷ es) ≡ e ∷ es
    by true h more = let g : Some e.1 ≡ None = (rw h at found) in absurd cc
    by false h more = let g : lookup test es ≡ None = (rw h at found) in rw h (ap (λ z. e ∷ z) (more g))

pub removed-none : (test : ℕ → Bool) (es : Segments) → lookup test es ≡ None → remove_entry test es ≡ es
removed-none test [] found = refl
removed-none test (e ∷ es) found = by (test e.0) refl (λ h. removed-none test es h)
  where
    by : (b : Bool) → test e.0 ≡ b → (lookup test es ≡ None → remove_entry test es ≡ es) → remove_entry test (e ∷ es) ≡ e ∷ es
    by true h more = let g : Some e.1 ≡ None = (rw h at found) in absurd cc
    by false h more = let g : lookup test es ≡ None = (rw h at found) in rw h (ap (λ z. e ∷ z) (more g))

-- one segment of a range goes, and then the others
pub without-step : (low high : ℕ) (es : Segments) (x : ℕ × Segment) → first_between low high es ≡ Some x → without_between low high (taken_out x.0 es) ≡ without_between low high es
without-step low high [] x found = absurd cc
without-step low high (e ∷ es) x found = by (is_at (nat_cmp x.0) e.0) (nat_le low e.0 && nat_lt e.0 high) refl refl (λ h. without-step low high es x h)
  where
    by : (b d : Bool) → is_at (nat_cmp x.0) e.0 ≡ b → (nat_le low e.0 && nat_lt e.0 high) ≡ d → (first_between low high es ≡ Some x → without_between low high (taken_out x.0 es) ≡ without_between low high es)
        → without_between low high (taken_out x.0 (e ∷ es)) ≡ without_between low high (e ∷ es)
    by true true t h more = rw (t, h) refl
    by true false t h more =
        let inside : (nat_le low x.0 && nat_lt x.0 high) ≡ true = found-range low high es x (rw h at found) in
        let other : (nat_le low x.0 && nat_lt x.0 high) ≡ false = subst (λ z. (nat_le low z && nat_lt z high) ≡ false) (sym (is-at x.0 e.0 t)) h in
        absurd cc
    by false true t h more =
        let same : e ≡ x = (let g : Some e ≡ Some x = (rw h at found) in cc) in
        let place : x.0 ≡ e.0 = ap (λ (z : ℕ × Segment). z.0) (sym same) in
        let here : is_at (nat_cmp x.0) e.0 ≡ true = at-same x.0 e.0 place in
        absurd cc
    by false false t h more = let g : first_between low high es ≡ Some x = (rw h at found) in rw (t, h) (ap (λ z. e ∷ z) (more g))

pub without-none : (low high : ℕ) (es : Segments) → first_between low high es ≡ None → without_between low high es ≡ es
without-none low high [] none = refl
without-none low high (e ∷ es) none = by (nat_le low e.0 && nat_lt e.0 high) refl (λ h. without-none low high es h)
  where
    by : (b : Bool) → (nat_le low e.0 && nat_lt e.0 high) ≡ b → (first_between low high es ≡ None → without_between low high es ≡ es) → without_between low high (e ∷ es) ≡ e ∷ es
    by true h more = let g : Some e ≡ None = (rw h at none) in absurd cc
    by false h more = let g : first_between low high es ≡ None = (rw h at none) in rw h (ap (λ z. e ∷ z) (more g))

pub taken-shorter : (low high : ℕ) (es : Segments) (x : ℕ × Segment) → first_between low high es ≡ Some x → length (taken_out x.0 es) < length es
taken-shorter low high [] x found = absurd cc
taken-shorter low high (e ∷ es) x found = by (is_at (nat_cmp x.0) e.0) (nat_le low e.0 && nat_lt e.0 high) refl refl (λ h. taken-shorter low high es x h)
  where
    by : (b d : Bool) → is_at (nat_cmp x.0) e.0 ≡ b → (nat_le low e.0 && nat_lt e.0 high) ≡ d → (first_between low high es ≡ Some x → length (taken_out x.0 es) < length es) → length (taken_out x.0 (e ∷ es)) < length (e ∷ es)
    by true d t h more = rw t (omega arith)
    by false true t h more =
        let same : e ≡ x = (let g : Some e ≡ Some x = (rw h at found) in cc) in
        let here : is_at (nat_cmp x.0) e.0 ≡ true = at-same x.0 e.0 (ap (λ (z : ℕ × Segment). z.0) (sym same)) in
        absurd cc
    by false false t h more = let g : first_between low high es ≡ Some x = (rw h at found) in rw t (omega (arith, more g))

-- a segment that is laid where none begins goes again
pub laid-taken : (at : ℕ) (s : Segment) (es : Segments) → lookup (is_at (nat_cmp at)) es ≡ None → taken_out at (laid at s es) ≡ es
laid-taken at s [] none = rw (at-same at at refl) refl
laid-taken at s (e ∷ es) none = by (nat_cmp at e.0) refl (laid-taken at s es)
  where
    by : (r : Ordering) → nat_cmp at e.0 ≡ r → (lookup (is_at (nat_cmp at)) es ≡ None → taken_out at (laid at s es) ≡ es) → taken_out at (laid at s (e ∷ es)) ≡ e ∷ es
    by Less h more = rw (h, at-same at at refl) refl
    by Equal h more = let f : Some e.1 ≡ None = (rw h at none) in absurd cc
    by Greater h more = let f : lookup (is_at (nat_cmp at)) es ≡ None = (rw h at none) in rw (h, h) (ap (λ z. e ∷ z) (more f))

-- a range of the map without an end
pub range_is : (place : ℕ) (es : Segments) → entries_between nat_cmp (Included place) Unbounded es ≡ begun_from place es
range_is place [] = refl
range_is place (e ∷ es) = by (nat_le place e.0) refl (range_is place es)
  where
    by : (b : Bool) → nat_le place e.0 ≡ b → entries_between nat_cmp (Included place) Unbounded es ≡ begun_from place es
        → entries_between nat_cmp (Included place) Unbounded (e ∷ es) ≡ begun_from place (e ∷ es)
    by true h more = rw (le-same place e.0 (nat_cmp place e.0) refl, h) (ap (λ z. e ∷ z) more)
    by false h more = rw (le-same place e.0 (nat_cmp place e.0) refl, h) more
