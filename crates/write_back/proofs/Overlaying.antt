-- Pending bytes written over others, one segment after the other.
use Rattle.std.proofs.Common.{◌≡◌, ◌<◌, ◌≤◌, ◌^◌, ℕ, ◌+◌, ◌-◌, ◌&&◌, Bool, true, false, List, [], ◌∷◌, length, min, Option, Some, None, refl, sym, ap, subst, ◌∙◌, arith}
use Rattle.std.specs.Prelude.{nat_le, nat_lt, unwrap_or}
use Rattle.std.proofs.lemmas.Bool.{le-leb, le-ltb, ltb-true, ltb-false, leb-true, and_parts}
use Rattle.write_back.specs.Segments.{Segment, Segments, AreApart, end_of, covers, cell_at, newest_at, shown}
use Rattle.write_back.specs.Walk.{first_between, last_before, or_else, starting, one_of}
use Rattle.write_back.proofs.Keys.{in-range, past-range, before-range, low-of}
use Rattle.write_back.proofs.Changing.{found-low}
use Rattle.write_back.proofs.Cells.{later-none}

or_byte : Option ℕ → Option ℕ → Option ℕ
or_byte None other = other
or_byte (Some b) other = Some b

-- where no segment is, nothing is written
pub shown-none : (offset : ℕ) (buf : List ℕ) → shown [] offset buf ≡ buf
shown-none offset [] = refl
shown-none offset (b ∷ bs) = ap (λ z. b ∷ z) (shown-none (offset + 1) bs)

-- segments written over others are those that have the newest byte of each place
shown-over : (es ys zs : Segments) (offset : ℕ) (buf : List ℕ)
    → ((place : ℕ) → offset ≤ place → place < offset + length buf → newest_at zs place ≡ or_byte (newest_at es place) (newest_at ys place))
    → shown zs offset buf ≡ shown es offset (shown ys offset buf)
unfolding or_byte
shown-over es ys zs offset [] each = refl
shown-over es ys zs offset (b ∷ bs) each =
    let more = shown-over es ys zs (offset + 1) bs (λ place low high. each place (omega (arith, low)) (omega (arith, high))) in
    let here : newest_at zs offset ≡ or_byte (newest_at es offset) (newest_at ys offset) = each offset (omega arith) (omega arith) in
    rw (here, more) (by (newest_at es offset))
  where
    by : (o : Option ℕ) → unwrap_or (or_byte o (newest_at ys offset)) b ∷ shown es (offset + 1) (shown ys (offset + 1) bs) ≡ unwrap_or o (unwrap_or (newest_at ys offset) b) ∷ shown es (offset + 1) (shown ys (offset + 1) bs)
    by None = refl
    by (Some n) = refl

-- the segments of a range, the first of them and the others
pub starting-none : (low high : ℕ) (es : Segments) → first_between low high es ≡ None → starting low high es ≡ []
starting-none low high [] none = refl
starting-none low high (e ∷ es) none = by (nat_le low e.0 && nat_lt e.0 high) refl (λ h. starting-none low high es h)
  where
    by : (b : Bool) → (nat_le low e.0 && nat_lt e.0 high) ≡ b → (first_between low high es ≡ None → starting low high es ≡ []) → starting low high (e ∷ es) ≡ []
    by true h more = let g : Some e ≡ None = (rw h at none) in absurd cc
    by false h more = let g : first_between low high es ≡ None = (rw h at none) in rw h (more g)

starting-lower : (low other high from : ℕ) (es : Segments) → AreApart from es → low ≤ from → other ≤ from → starting low high es ≡ starting other high es
starting-lower low other high from [] apart l o = refl
starting-lower low other high from (e ∷ es) apart l o =
    let more : starting low high es ≡ starting other high es = starting-lower low other high (end_of e) es apart.3 (omega (arith, apart.0, l)) (omega (arith, apart.0, o)) in
    let same : (nat_le low e.0 && nat_lt e.0 high) ≡ (nat_le other e.0 && nat_lt e.0 high) = by (nat_lt e.0 high) (le-leb low e.0 (omega (arith, apart.0, l))) (le-leb other e.0 (omega (arith, apart.0, o))) in
    rw (same, more) refl
  where
    by : (d : Bool) → nat_le low e.0 ≡ true → nat_le other e.0 ≡ true → (nat_le low e.0 && d) ≡ (nat_le other e.0 && d)
    by d a b = rw (a, b) refl

pub starting-step : (low high from : ℕ) (es : Segments) (x : ℕ × Segment) → AreApart from es → first_between low high es ≡ Some x → starting low high es ≡ x ∷ starting (x.0 + 1) high es
starting-step low high from [] x apart found = absurd cc
starting-step low high from (e ∷ es) x apart found = by (nat_le low e.0 && nat_lt e.0 high) refl (λ g. (found-low low high (end_of e) es x apart.3 g, starting-step low high (end_of e) es x apart.3 g))
  where
    by : (b : Bool) → (nat_le low e.0 && nat_lt e.0 high) ≡ b → (first_between low high es ≡ Some x → (end_of e ≤ x.0) × (starting low high es ≡ x ∷ starting (x.0 + 1) high es)) → starting low high (e ∷ es) ≡ x ∷ starting (x.0 + 1) high (e ∷ es)
    by true h more =
        let same : e ≡ x = (let g : Some e ≡ Some x = (rw h at found) in cc) in
        let out : (nat_le (e.0 + 1) e.0 && nat_lt e.0 high) ≡ false = before-range (e.0 + 1) high e.0 (omega arith) in
        subst (λ (z : ℕ × Segment). starting low high (e ∷ es) ≡ z ∷ starting (z.0 + 1) high (e ∷ es)) same
        (rw (h, out) (ap (λ z. e ∷ z) (starting-lower low (e.0 + 1) high (end_of e) es apart.3 (omega (arith, low-of low high e.0 h)) (omega (arith, apart.1)))))
    by false h more =
        let g : first_between low high es ≡ Some x = (rw h at found) in
        let m = more g in
        let out : (nat_le (x.0 + 1) e.0 && nat_lt e.0 high) ≡ false = before-range (x.0 + 1) high e.0 (omega (arith, m.0, apart.1)) in
        rw (h, out) m.1

-- the segments of a range are apart
pub apart-starting : (low high from : ℕ) (es : Segments) → AreApart from es → AreApart from (starting low high es)
apart-starting low high from [] apart = tt
apart-starting low high from (e ∷ es) apart = by (nat_le low e.0 && nat_lt e.0 high) refl (apart-starting low high (end_of e) es apart.3)
  where
    lower : (a b : ℕ) (ys : Segments) → a ≤ b → AreApart b ys → AreApart a ys
    lower a b [] le is = tt
    lower a b (f ∷ fs) le is = (omega (arith, le, is.0), is.1, is.2, is.3)

    by : (b : Bool) → (nat_le low e.0 && nat_lt e.0 high) ≡ b → AreApart (end_of e) (starting low high es) → AreApart from (starting low high (e ∷ es))
    by true h more = rw h (apart.0, apart.1, apart.2, more)
    by false h more = rw h (lower from (end_of e) (starting low high es) (omega (arith, apart.0)) more)

-- one segment more is written
newest-first : (x : ℕ × Segment) (es : Segments) (place : ℕ) → AreApart (end_of x) es → newest_at (x ∷ es) place ≡ or_byte (newest_at es place) (newest_at (x ∷ []) place)
unfolding or_byte
newest-first x es place apart = by (covers x.0 (length x.1.bytes) place) refl
  where
    by : (b : Bool) → covers x.0 (length x.1.bytes) place ≡ b → newest_at (x ∷ es) place ≡ or_byte (newest_at es place) (newest_at (x ∷ []) place)
    by true h =
        let inside : place < end_of x = ltb-true place (end_of x) ((and_parts (nat_le x.0 place) (nat_lt place (end_of x)) h).1) in
        let none : cell_at es place ≡ None = later-none (end_of x) es place apart inside in
        rw (h, none) refl
    by false h = rw h (either (newest_at es place))
      where
        either : (o : Option ℕ) → o ≡ or_byte o None
        either None = refl
        either (Some b) = refl

pub shown-step : (low high from : ℕ) (es : Segments) (x : ℕ × Segment) (offset : ℕ) (buf : List ℕ) → AreApart from es → first_between low high es ≡ Some x
    → shown (starting (x.0 + 1) high es) offset (shown (x ∷ []) offset buf) ≡ shown (starting low high es) offset buf
shown-step low high from es x offset buf apart found =
    let step : starting low high es ≡ x ∷ starting (x.0 + 1) high es = starting-step low high from es x apart found in
    let all : AreApart from (x ∷ starting (x.0 + 1) high es) = subst (AreApart from) step (apart-starting low high from es apart) in
    sym (ap (λ z. shown z offset buf) step ∙ shown-over (starting (x.0 + 1) high es) (x ∷ []) (x ∷ starting (x.0 + 1) high es) offset buf (λ place begins ends. newest-first x (starting (x.0 + 1) high es) place all.3))

-- the last segment before a range, and those of the range
pub last-none : (place from : ℕ) (es : Segments) → AreApart from es → place ≤ from → last_before place es ≡ None
last-none place from [] apart le = refl
last-none place from (e ∷ es) apart le =
    let out : nat_lt e.0 place ≡ false = le-ltb e.0 place (omega (arith, le, apart.0)) in
    rw (last-none place (end_of e) es apart.3 (omega (arith, le, apart.0)), out) refl

newest-split : (low high from : ℕ) (es : Segments) (place : ℕ) → AreApart from es → low ≤ place → (place < 2 ^ 63 - 1 → place < high) → newest_at es place ≡ or_byte (newest_at (starting low high es) place) (newest_at (one_of (last_before low es)) place)
unfolding or_byte
newest-split low high from [] place apart l h = refl
newest-split low high from (e ∷ es) place apart l h = by (nat_lt e.0 low) (covers e.0 (length e.1.bytes) place) refl refl (newest-split low high (end_of e) es place apart.3 l h)
  where
    either : (o : Option ℕ) → o ≡ or_byte o None
    either None = refl
    either (Some b) = refl

    -- the newest of a segment before the range, where another one is after it or none
    behind : (o : Option (ℕ × Segment)) → covers e.0 (length e.1.bytes) place ≡ false → newest_at (one_of (or_else o (Some e))) place ≡ newest_at (one_of o) place
    behind None g = rw g refl
    behind (Some y) g = refl

    by : (b d : Bool) → nat_lt e.0 low ≡ b → covers e.0 (length e.1.bytes) place ≡ d
        → newest_at es place ≡ or_byte (newest_at (starting low high es) place) (newest_at (one_of (last_before low es)) place)
        → newest_at (e ∷ es) place ≡ or_byte (newest_at (starting low high (e ∷ es)) place) (newest_at (one_of (last_before low (e ∷ es))) place)
    by true true w g more =
        let inside : place < end_of e = ltb-true place (end_of e) ((and_parts (nat_le e.0 place) (nat_lt place (end_of e)) g).1) in
        let out : (nat_le low e.0 && nat_lt e.0 high) ≡ false = before-range low high e.0 (ltb-true e.0 low w) in
        let none : last_before low es ≡ None = last-none low (end_of e) es apart.3 (omega (arith, inside, l)) in
        let later : cell_at (starting low high es) place ≡ None = later-none (end_of e) (starting low high es) place (apart-starting low high (end_of e) es apart.3) inside in
        rw (none, w, out, later, g) refl
    by true false w g more =
        let out : (nat_le low e.0 && nat_lt e.0 high) ≡ false = before-range low high e.0 (ltb-true e.0 low w) in
        rw (w, out, g, behind (last_before low es) g) more
    by false d w g more = here (nat_lt e.0 high) refl d g
      where
        begins : low ≤ e.0
        begins = ltb-false e.0 low w

        none : last_before low es ≡ None
        none = last-none low (end_of e) es apart.3 (omega (arith, begins))

        alone : newest_at es place ≡ or_byte (newest_at (starting low high es) place) None
        alone = more ∙ ap (λ o. or_byte (newest_at (starting low high es) place) (newest_at (one_of o) place)) none

        here : (k : Bool) → nat_lt e.0 high ≡ k → (d : Bool) → covers e.0 (length e.1.bytes) place ≡ d → newest_at (e ∷ es) place ≡ or_byte (newest_at (starting low high (e ∷ es)) place) (newest_at (one_of (last_before low (e ∷ es))) place)
        here true k true g = rw (none, w, in-range low high e.0 begins (ltb-true e.0 high k), g) refl
        here true k false g = rw (none, w, in-range low high e.0 begins (ltb-true e.0 high k), g) alone
        here false k false g = rw (none, w, past-range low high e.0 (ltb-false e.0 high k), g) alone
        here false k true g =
            let parts = and_parts (nat_le e.0 place) (nat_lt place (end_of e)) g in
            let inside : place < end_of e = ltb-true place (end_of e) parts.1 in
            let upto : place < high = h (omega (arith, inside, apart.2)) in
            absurd (omega (arith, ltb-false e.0 high k, leb-true e.0 place parts.0, upto))

pub shown-first : (high from : ℕ) (es : Segments) (offset : ℕ) (buf : List ℕ) → AreApart from es → min (offset + length buf) (2 ^ 64 - 1) ≤ high
    → shown es offset buf ≡ shown (starting offset high es) offset (shown (one_of (last_before offset es)) offset buf)
shown-first high from es offset buf apart fits = shown-over (starting offset high es) (one_of (last_before offset es)) es offset buf (λ place low below. newest-split offset high from es place apart low (λ early. omega (arith, below, fits, early)))

-- every segment begins from the lowest place to the highest
pub starting-all : (low high from : ℕ) (es : Segments) → AreApart from es → low ≤ from → 2 ^ 63 - 1 ≤ high → starting low high es ≡ es
starting-all low high from [] apart le most = refl
starting-all low high from (e ∷ es) apart le most =
    let inside : (nat_le low e.0 && nat_lt e.0 high) ≡ true = in-range low high e.0 (omega (arith, le, apart.0)) (omega (arith, apart.1, apart.2, most)) in
    rw (inside, starting-all low high (end_of e) es apart.3 (omega (arith, le, apart.0)) most) refl
