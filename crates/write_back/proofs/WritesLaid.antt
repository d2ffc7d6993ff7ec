-- How many bytes of each write segments have after new bytes were laid over them, and after a cut.
use Rattle.std.proofs.Common.{◌≡◌, ◌<◌, ◌≤◌, ℕ, ◌+◌, ◌-◌, Bool, true, false, List, [], ◌∷◌, ◌++◌, length, map, drop, refl, ap, ◌∙◌, arith, length-drop, length-take}
use Rattle.std.specs.Prelude.{nat_le, nat_lt, nat_eq, if◌then◌else◌}
use Rattle.std.proofs.lemmas.Bool.{le-leb, lt-leb, lt-ltb, le-ltb, ltb-true, ltb-false, leb-true, leb-false}
use Rattle.write_back.specs.Segments.{Segment, Segments, AreApart, end_of, head_of, tail_of, before, after, added, cut_from, written}
use Rattle.write_back.specs.Choice.{part_of}
use Rattle.write_back.specs.Ages.{bytes_by, written_by, parts_by, only, cut_by}
use Rattle.write_back.proofs.Apart.{apart-after}
use Rattle.write_back.proofs.WritesChanged.{written-halves, parts-of}

pub written-append : (n : ℕ) (es ys : Segments) → written_by n (es ++ ys) ≡ written_by n es + written_by n ys
written-append n [] ys = omega arith
written-append n (e ∷ es) ys = omega (arith, written-append n es ys)

-- the first bytes of a segment, where they are all, and how many they are
pub head-all : (n k : ℕ) (e : ℕ × Segment) → length e.1.bytes ≤ k → bytes_by n (e.0, head_of k e.1) ≡ bytes_by n e
head-all n k e le = ap (λ l. if nat_eq e.1.number n then l else 0) (omega (arith, length-take k e.1.bytes, le))

pub head-le : (n k : ℕ) (e : ℕ × Segment) → bytes_by n (e.0, head_of k e.1) ≤ bytes_by n e
head-le n k e = omega (arith, written-halves n k 0 e)

-- before a place, and after it
before-none : (n place low : ℕ) (es : Segments) → AreApart low es → place ≤ low → written_by n (before place es) ≡ 0
before-none n place low [] apart le = refl
before-none n place low (e ∷ es) apart le = let out : nat_lt e.0 place ≡ false = le-ltb e.0 place (omega (arith, le, apart.0)) in rw out refl

parted : (n place low : ℕ) (es : Segments) → AreApart low es → written_by n (before place es) + written_by n (after place es) ≡ written_by n es
parted n place low [] apart = refl
parted n place low (e ∷ es) apart = by (nat_lt e.0 place) refl (nat_le (end_of e) place) refl (parted n place (end_of e) es apart.3)
  where
    by : (b : Bool) → nat_lt e.0 place ≡ b → (d : Bool) → nat_le (end_of e) place ≡ d → written_by n (before place es) + written_by n (after place es) ≡ written_by n es
        → written_by n (before place (e ∷ es)) + written_by n (after place (e ∷ es)) ≡ written_by n (e ∷ es)
    by true h true g more = rw (h, g) (omega (arith, more, head-all n (place - e.0) e (omega (arith, leb-true (end_of e) place g, ltb-true e.0 place h))))
    by true h false g more = rw (h, g) (omega (arith, written-halves n (place - e.0) place e, before-none n place (end_of e) es apart.3 (omega (arith, leb-false (end_of e) place g))))
    by false h true g more = absurd (omega (arith, ltb-false e.0 place h, leb-true (end_of e) place g, apart.1))
    by false h false g more = rw (h, g) (omega arith)

-- after a place, and after a later one
after-tail : (n low high : ℕ) (e : ℕ × Segment) (es : Segments) → e.0 < low → low < end_of e → low ≤ high → written_by n (after high ((low, tail_of (low - e.0) e.1) ∷ es)) ≡ written_by n (after high (e ∷ es))
after-tail n low high e es first past le = by (nat_le (end_of e) high) refl (nat_lt low high) refl
  where
    ends : low + length (drop (low - e.0) e.1.bytes) ≡ end_of e
    ends = omega (arith, length-drop (low - e.0) e.1.bytes, first, past)

    begins : nat_lt e.0 high ≡ true
    begins = lt-ltb e.0 high (omega (arith, first, le))

    same : (b : Bool) → nat_le (end_of e) high ≡ b → nat_le (low + length (drop (low - e.0) e.1.bytes)) high ≡ b
    same b h = ap (λ m. nat_le m high) ends ∙ h

    by : (b : Bool) → nat_le (end_of e) high ≡ b → (d : Bool) → nat_lt low high ≡ d → written_by n (after high ((low, tail_of (low - e.0) e.1) ∷ es)) ≡ written_by n (after high (e ∷ es))
    by true h d g = rw (h, same true h) refl
    by false h true g = rw (h, same false h, begins, g)
        (ap (λ l. (if nat_eq e.1.number n then l else 0) + written_by n es) (omega (arith, length-drop (high - low) (drop (low - e.0) e.1.bytes), length-drop (low - e.0) e.1.bytes, length-drop (high - e.0) e.1.bytes, first, le)))
    by false h false g = rw (h, same false h, begins, g)
        (ap (λ l. (if nat_eq e.1.number n then l else 0) + written_by n es) (omega (arith, length-drop (low - e.0) e.1.bytes, length-drop (high - e.0) e.1.bytes, le, ltb-false low high g)))

after-after : (n low high from : ℕ) (es : Segments) → AreApart from es → low ≤ high → written_by n (after high (after low es)) ≡ written_by n (after high es)
after-after n low high from [] apart le = refl
after-after n low high from (e ∷ es) apart le = by (nat_le (end_of e) low) refl (nat_lt e.0 low) refl (after-after n low high (end_of e) es apart.3 le)
  where
    by : (b : Bool) → nat_le (end_of e) low ≡ b → (d : Bool) → nat_lt e.0 low ≡ d → written_by n (after high (after low es)) ≡ written_by n (after high es) → written_by n (after high (after low (e ∷ es))) ≡ written_by n (after high (e ∷ es))
    by true h d g more = let later : nat_le (end_of e) high ≡ true = le-leb (end_of e) high (omega (arith, leb-true (end_of e) low h, le)) in rw (h, later) more
    by false h true g more =
        let is : after low (e ∷ es) ≡ (low, tail_of (low - e.0) e.1) ∷ es = rw (h, g) refl in
        ap (λ z. written_by n (after high z)) is ∙ after-tail n low high e es (ltb-true e.0 low g) (leb-false (end_of e) low h) le
    by false h false g more = let is : after low (e ∷ es) ≡ e ∷ es = rw (h, g) refl in ap (λ z. written_by n (after high z)) is

-- new bytes, and the parts that they lie over
pub written-added : (m offset : ℕ) (bytes : List ℕ) (number : ℕ) (es : Segments) → AreApart 0 es
    → written_by m (added offset bytes number es) + parts_by m (map part_of (before (offset + length bytes) (after offset es))) ≡ written_by m es + only number (length bytes) m
written-added m offset bytes number es apart = omega (
  arith,
  written-append m (before offset es) ((offset, written bytes number) ∷ after (offset + length bytes) es),
  parts-of m (before (offset + length bytes) (after offset es)),
  parted m (offset + length bytes) offset (after offset es) (apart-after offset 0 es apart),
  parted m offset 0 es apart,
  after-after m offset (offset + length bytes) 0 es apart (omega arith),
)

-- what stays of a cut, and what goes
pub written-cut : (place upto n : ℕ) (es : Segments) → written_by n (cut_from place upto es) + cut_by place upto n es ≡ written_by n es
written-cut place upto n [] = refl
written-cut place upto n (e ∷ es) = by (nat_lt upto e.1.number) refl (nat_le (end_of e) place) refl (nat_lt e.0 place) refl (nat_eq e.1.number n) refl (written-cut place upto n es)
  where
    by : (a : Bool) → nat_lt upto e.1.number ≡ a → (b : Bool) → nat_le (end_of e) place ≡ b → (d : Bool) → nat_lt e.0 place ≡ d → (k : Bool) → nat_eq e.1.number n ≡ k
        → written_by n (cut_from place upto es) + cut_by place upto n es ≡ written_by n es → written_by n (cut_from place upto (e ∷ es)) + cut_by place upto n (e ∷ es) ≡ written_by n (e ∷ es)
    by true h b g d i k j more = let newer : nat_le e.1.number upto ≡ false = lt-leb e.1.number upto (ltb-true upto e.1.number h) in rw (h, newer) (omega (arith, more))
    by false h true g d i true j more = let old : nat_le e.1.number upto ≡ true = le-leb e.1.number upto (ltb-false upto e.1.number h) in rw (h, old, g, j) (omega (arith, more, leb-true (end_of e) place g))
    by false h true g d i false j more = let old : nat_le e.1.number upto ≡ true = le-leb e.1.number upto (ltb-false upto e.1.number h) in rw (h, old, g, j) (omega (arith, more))
    by false h false g true i true j more =
        let old : nat_le e.1.number upto ≡ true = le-leb e.1.number upto (ltb-false upto e.1.number h) in
        rw (h, old, g, i, j) (omega (arith, more, length-take (place - e.0) e.1.bytes, leb-false (end_of e) place g, ltb-true e.0 place i))
    by false h false g true i false j more = let old : nat_le e.1.number upto ≡ true = le-leb e.1.number upto (ltb-false upto e.1.number h) in rw (h, old, g, i, j) (omega (arith, more))
    by false h false g false i true j more =
        let old : nat_le e.1.number upto ≡ true = le-leb e.1.number upto (ltb-false upto e.1.number h) in
        rw (h, old, g, i, j) (omega (arith, more, ltb-false e.0 place i))
    by false h false g false i false j more = let old : nat_le e.1.number upto ≡ true = le-leb e.1.number upto (ltb-false upto e.1.number h) in rw (h, old, g, i, j) (omega (arith, more))
