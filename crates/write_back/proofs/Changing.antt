-- A change of segments, one after the other.
use Rattle.std.proofs.Common.{◌≡◌, ◌≢◌, ◌<◌, ◌≤◌, ℕ, ◌+◌, ◌&&◌, Bool, true, false, [], ◌∷◌, length, Option, Some, None, refl, ap, arith, nat_cmp, subst}
use Rattle.std.specs.Prelude.{nat_le, nat_lt, if◌then◌else◌}
use Rattle.std.specs.Map.{remove_entry}
use Rattle.std.specs.BTreeMap.{is_at}
use Rattle.write_back.specs.declared.state.State.{State}
use Rattle.write_back.specs.declared.change.Change.{Change}
use Rattle.write_back.specs.declared.state.State.TheVariants.{Waiting, InFlight, Acked}
use Rattle.std.proofs.lemmas.Bool.{le-leb}
use Rattle.write_back.specs.States.{is_changed}
use Rattle.write_back.specs.Segments.{Segment, Segments, AreApart, end_of, with_state}
use Rattle.write_back.specs.Changes.{fate, changed, count_changed}
use Rattle.write_back.specs.Walk.{first_between, edited_if, left_at}
use Rattle.write_back.proofs.Keys.{at-same, at-above, before-range, low-of}

-- segments that are apart from a place on are so from an earlier one on
pub apart-lower : (low high : ℕ) (es : Segments) → low ≤ high → AreApart high es → AreApart low es
apart-lower low high [] le apart = tt
apart-lower low high (e ∷ es) le apart = (omega (arith, le, apart.0), apart.1, apart.2, apart.3)

pub apart-removed : (test : ℕ → Bool) (low : ℕ) (es : Segments) → AreApart low es → AreApart low (remove_entry test es)
apart-removed test low [] apart = tt
apart-removed test low (e ∷ es) apart = by (test e.0) refl (apart-removed test (end_of e) es apart.3)
  where
    by : (b : Bool) → test e.0 ≡ b → AreApart (end_of e) (remove_entry test es) → AreApart low (remove_entry test (e ∷ es))
    by true h more = rw h (apart-lower low (end_of e) es (omega (arith, apart.0)) apart.3)
    by false h more = rw h (apart.0, apart.1, apart.2, more)

pub apart-turned : (test : ℕ → Bool) (state : State) (low : ℕ) (es : Segments) → AreApart low es → AreApart low (edited_if test (with_state state) es)
apart-turned test state low [] apart = tt
apart-turned test state low (e ∷ es) apart = by (test e.0) refl (apart-turned test state (end_of e) es apart.3)
  where
    by : (b : Bool) → test e.0 ≡ b → AreApart (end_of e) (edited_if test (with_state state) es) → AreApart low (edited_if test (with_state state) (e ∷ es))
    by true h more = rw h (apart.0, apart.1, apart.2, apart.3)
    by false h more = rw h (apart.0, apart.1, apart.2, more)

pub apart-left : (at : ℕ) (left : Option State) (es : Segments) → AreApart 0 es → AreApart 0 (left_at at left es)
apart-left at None es apart = apart-removed (is_at (nat_cmp at)) 0 es apart
apart-left at (Some state) es apart = apart-turned (is_at (nat_cmp at)) state 0 es apart

-- where the first one begins
pub found-low : (low high from : ℕ) (es : Segments) (x : ℕ × Segment) → AreApart from es → first_between low high es ≡ Some x → from ≤ x.0
found-low low high from [] x apart found = absurd cc
found-low low high from (e ∷ es) x apart found = by (nat_le low e.0 && nat_lt e.0 high) refl (λ h. found-low low high (end_of e) es x apart.3 h)
  where
    by : (b : Bool) → (nat_le low e.0 && nat_lt e.0 high) ≡ b → (first_between low high es ≡ Some x → end_of e ≤ x.0) → from ≤ x.0
    by true h more = let same : e ≡ x = (let g : Some e ≡ Some x = (rw h at found) in cc) in let place : e.0 ≡ x.0 = ap (λ (z : ℕ × Segment). z.0) same in omega (arith, apart.0, place)
    by false h more = let g : first_between low high es ≡ Some x = (rw h at found) in omega (arith, apart.0, more g)

pub found-range : (low high : ℕ) (es : Segments) (x : ℕ × Segment) → first_between low high es ≡ Some x → (nat_le low x.0 && nat_lt x.0 high) ≡ true
found-range low high [] x found = absurd cc
found-range low high (e ∷ es) x found = by (nat_le low e.0 && nat_lt e.0 high) refl (λ h. found-range low high es x h)
  where
    by : (b : Bool) → (nat_le low e.0 && nat_lt e.0 high) ≡ b → (first_between low high es ≡ Some x → (nat_le low x.0 && nat_lt x.0 high) ≡ true) → (nat_le low x.0 && nat_lt x.0 high) ≡ true
    by true h more = let same : e ≡ x = (let g : Some e ≡ Some x = (rw h at found) in cc) in subst (λ (z : ℕ × Segment). (nat_le low z.0 && nat_lt z.0 high) ≡ true) same h
    by false h more = let g : first_between low high es ≡ Some x = (rw h at found) in more g

-- which of two early places a change begins at is the same
pub changed-lower : (change : Change) (low other high from : ℕ) (es : Segments) → AreApart from es → low ≤ from → other ≤ from → changed change low high es ≡ changed change other high es
changed-lower change low other high from [] apart l o = refl
changed-lower change low other high from (e ∷ es) apart l o =
    let more : changed change low high es ≡ changed change other high es = changed-lower change low other high (end_of e) es apart.3 (omega (arith, apart.0, l)) (omega (arith, apart.0, o)) in
    let same : (nat_le low e.0 && nat_lt e.0 high) ≡ (nat_le other e.0 && nat_lt e.0 high) = by (nat_lt e.0 high) (le-leb low e.0 (omega (arith, apart.0, l))) (le-leb other e.0 (omega (arith, apart.0, o))) in
    rw (same, more) refl
  where
    by : (d : Bool) → nat_le low e.0 ≡ true → nat_le other e.0 ≡ true → (nat_le low e.0 && d) ≡ (nat_le other e.0 && d)
    by d a b = rw (a, b) refl

pub count-lower : (change : Change) (low other high from : ℕ) (es : Segments) → AreApart from es → low ≤ from → other ≤ from → count_changed change low high es ≡ count_changed change other high es
count-lower change low other high from [] apart l o = refl
count-lower change low other high from (e ∷ es) apart l o =
    let more : count_changed change low high es ≡ count_changed change other high es = count-lower change low other high (end_of e) es apart.3 (omega (arith, apart.0, l)) (omega (arith, apart.0, o)) in
    let same : (nat_le low e.0 && nat_lt e.0 high) ≡ (nat_le other e.0 && nat_lt e.0 high) = by (nat_lt e.0 high) (le-leb low e.0 (omega (arith, apart.0, l))) (le-leb other e.0 (omega (arith, apart.0, o))) in
    rw (same, more) refl
  where
    by : (d : Bool) → nat_le low e.0 ≡ true → nat_le other e.0 ≡ true → (nat_le low e.0 && d) ≡ (nat_le other e.0 && d)
    by d a b = rw (a, b) refl

-- nothing is left to change
pub changed-none : (change : Change) (low high : ℕ) (es : Segments) → first_between low high es ≡ None → changed change low high es ≡ es
changed-none change low high [] none = refl
changed-none change low high (e ∷ es) none = by (nat_le low e.0 && nat_lt e.0 high) refl (λ h. changed-none change low high es h)
  where
    by : (b : Bool) → (nat_le low e.0 && nat_lt e.0 high) ≡ b → (first_between low high es ≡ None → changed change low high es ≡ es) → changed change low high (e ∷ es) ≡ e ∷ es
    by true h more = let g : Some e ≡ None = (rw h at none) in absurd cc
    by false h more = let g : first_between low high es ≡ None = (rw h at none) in rw h (ap (λ z. e ∷ z) (more g))

same-kind : (state : State) → is_changed state (Some state) ≡ false
same-kind (Waiting ready) = refl
same-kind (InFlight ready) = refl
same-kind (Acked verf) = refl

pub count-none : (change : Change) (low high : ℕ) (es : Segments) → first_between low high es ≡ None → count_changed change low high es ≡ 0
count-none change low high [] none = refl
count-none change low high (e ∷ es) none = by (nat_le low e.0 && nat_lt e.0 high) refl (λ h. count-none change low high es h)
  where
    by : (b : Bool) → (nat_le low e.0 && nat_lt e.0 high) ≡ b → (first_between low high es ≡ None → count_changed change low high es ≡ 0) → count_changed change low high (e ∷ es) ≡ 0
    by true h more = let g : Some e ≡ None = (rw h at none) in absurd cc
    by false h more = let g : first_between low high es ≡ None = (rw h at none) in rw (h, same-kind e.1.state) (omega (arith, more g))

-- the first segment of the range is changed, and then the others
changed-here : (change : Change) (low high : ℕ) (e : ℕ × Segment) (es : Segments) (left : Option State) → (nat_le low e.0 && nat_lt e.0 high) ≡ true → fate change e.1.number e.1.state ≡ left
    → AreApart (end_of e) es → 0 < length e.1.bytes → changed change low high (e ∷ es) ≡ changed change (e.0 + 1) high (left_at e.0 left (e ∷ es))
changed-here change low high e es None h f apart some =
    rw (h, f, at-same e.0 e.0 refl) (changed-lower change low (e.0 + 1) high (end_of e) es apart (omega (arith, low-of low high e.0 h)) (omega (arith, some)))
changed-here change low high e es (Some state) h f apart some =
    let out : (nat_le (e.0 + 1) e.0 && nat_lt e.0 high) ≡ false = before-range (e.0 + 1) high e.0 (omega arith) in
    rw (h, f, at-same e.0 e.0 refl, out) (ap (λ z. (e.0, with_state state e.1) ∷ z) (changed-lower change low (e.0 + 1) high (end_of e) es apart (omega (arith, low-of low high e.0 h)) (omega (arith, some))))

pub changed-step : (change : Change) (low high from : ℕ) (es : Segments) (x : ℕ × Segment) → AreApart from es → first_between low high es ≡ Some x
    → changed change low high es ≡ changed change (x.0 + 1) high (left_at x.0 (fate change x.1.number x.1.state) es)
changed-step change low high from [] x apart found = absurd cc
changed-step change low high from (e ∷ es) x apart found = by (nat_le low e.0 && nat_lt e.0 high) refl (λ g. (found-low low high (end_of e) es x apart.3 g, changed-step change low high (end_of e) es x apart.3 g))
  where
    later : (left : Option State) → x.0 ≢ e.0 → e.0 < x.0 → left_at x.0 left (e ∷ es) ≡ e ∷ left_at x.0 left es
    later None ne lt = rw (at-above x.0 e.0 lt) refl
    later (Some state) ne lt = rw (at-above x.0 e.0 lt) refl

    by : (b : Bool) → (nat_le low e.0 && nat_lt e.0 high) ≡ b
        → (first_between low high es ≡ Some x → (end_of e ≤ x.0) × (changed change low high es ≡ changed change (x.0 + 1) high (left_at x.0 (fate change x.1.number x.1.state) es)))
        → changed change low high (e ∷ es) ≡ changed change (x.0 + 1) high (left_at x.0 (fate change x.1.number x.1.state) (e ∷ es))
    by true h more =
        let same : e ≡ x = (let g : Some e ≡ Some x = (rw h at found) in cc) in
        subst (λ (z : ℕ × Segment). changed change low high (e ∷ es) ≡ changed change (z.0 + 1) high (left_at z.0 (fate change z.1.number z.1.state) (e ∷ es))) same
        (changed-here change low high e es (fate change e.1.number e.1.state) h refl apart.3 apart.1)
    by false h more =
        let g : first_between low high es ≡ Some x = (rw h at found) in
        let m = more g in
        let lt : e.0 < x.0 = omega (arith, m.0, apart.1) in
        let out : (nat_le (x.0 + 1) e.0 && nat_lt e.0 high) ≡ false = before-range (x.0 + 1) high e.0 (omega (arith, lt)) in
        rw (later (fate change x.1.number x.1.state) (omega (arith, lt)) lt, h, out) (ap (λ z. e ∷ z) m.1)

count-here : (change : Change) (low high : ℕ) (e : ℕ × Segment) (es : Segments) (left : Option State) → (nat_le low e.0 && nat_lt e.0 high) ≡ true → fate change e.1.number e.1.state ≡ left
    → AreApart (end_of e) es → 0 < length e.1.bytes → count_changed change low high (e ∷ es) ≡ (if is_changed e.1.state left then 1 else 0) + count_changed change (e.0 + 1) high (left_at e.0 left (e ∷ es))
count-here change low high e es None h f apart some =
    rw (h, f, at-same e.0 e.0 refl) (ap (λ z. 1 + z) (count-lower change low (e.0 + 1) high (end_of e) es apart (omega (arith, low-of low high e.0 h)) (omega (arith, some))))
count-here change low high e es (Some state) h f apart some =
    let out : (nat_le (e.0 + 1) e.0 && nat_lt e.0 high) ≡ false = before-range (e.0 + 1) high e.0 (omega arith) in
    let more : count_changed change low high es ≡ count_changed change (e.0 + 1) high es = count-lower change low (e.0 + 1) high (end_of e) es apart (omega (arith, low-of low high e.0 h)) (omega (arith, some)) in
    rw (h, f, at-same e.0 e.0 refl, out, same-kind state) (omega (arith, more))

pub count-step : (change : Change) (low high from : ℕ) (es : Segments) (x : ℕ × Segment) → AreApart from es → first_between low high es ≡ Some x
    → count_changed change low high es ≡ (if is_changed x.1.state (fate change x.1.number x.1.state) then 1 else 0) + count_changed change (x.0 + 1) high (left_at x.0 (fate change x.1.number x.1.state) es)
count-step change low high from [] x apart found = absurd cc
count-step change low high from (e ∷ es) x apart found = by (nat_le low e.0 && nat_lt e.0 high) refl (λ g. (found-low low high (end_of e) es x apart.3 g, count-step change low high (end_of e) es x apart.3 g))
  where
    later : (left : Option State) → e.0 < x.0 → left_at x.0 left (e ∷ es) ≡ e ∷ left_at x.0 left es
    later None lt = rw (at-above x.0 e.0 lt) refl
    later (Some state) lt = rw (at-above x.0 e.0 lt) refl

    by : (b : Bool) → (nat_le low e.0 && nat_lt e.0 high) ≡ b
        → (first_between low high es ≡ Some x → (end_of e ≤ x.0) × (count_changed change low high es ≡ (if is_changed x.1.state (fate change x.1.number x.1.state) then 1 else 0) + count_changed change (x.0 + 1) high (left_at x.0 (fate change x.1.number x.1.state) es)))
        → count_changed change low high (e ∷ es) ≡ (if is_changed x.1.state (fate change x.1.number x.1.state) then 1 else 0) + count_changed change (x.0 + 1) high (left_at x.0 (fate change x.1.number x.1.state) (e ∷ es))
    by true h more =
        let same : e ≡ x = (let g : Some e ≡ Some x = (rw h at found) in cc) in
        subst (λ (z : ℕ × Segment). count_changed change low high (e ∷ es) ≡ (if is_changed z.1.state (fate change z.1.number z.1.state) then 1 else 0) + count_changed change (z.0 + 1) high (left_at z.0 (fate change z.1.number z.1.state) (e ∷ es))) same
        (count-here change low high e es (fate change e.1.number e.1.state) h refl apart.3 apart.1)
    by false h more =
        let g : first_between low high es ≡ Some x = (rw h at found) in
        let m = more g in
        let lt : e.0 < x.0 = omega (arith, m.0, apart.1) in
        let out : (nat_le (x.0 + 1) e.0 && nat_lt e.0 high) ≡ false = before-range (x.0 + 1) high e.0 (omega (arith, lt)) in
        rw (later (fate change x.1.number x.1.state) lt, h, out, same-kind e.1.state) (omega (arith, m.1))
