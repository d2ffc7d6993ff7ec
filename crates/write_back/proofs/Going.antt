-- Bytes of a write that go with the segments of a range, one segment after the other.
use Rattle.std.proofs.Common.{◌≡◌, ◌<◌, ◌≤◌, ◌^◌, ℕ, ◌+◌, ◌-◌, ◌&&◌, Bool, true, false, [], ◌∷◌, length, Option, Some, None, refl, sym, ap, subst, ◌∙◌, arith}
use Rattle.std.specs.Prelude.{nat_le, nat_lt, nat_eq, if◌then◌else◌}
use Rattle.std.proofs.lemmas.Bool.{le-leb, le-ltb, ltb-true, ltb-false}
use Rattle.write_back.specs.declared.change.Change.{Change}
use Rattle.write_back.specs.declared.change.Change.TheVariants.{Drop}
use Rattle.write_back.specs.Segments.{Segment, Segments, AreApart, end_of}
use Rattle.write_back.specs.Changes.{fate}
use Rattle.write_back.specs.Walk.{first_between, passing, one_of}
use Rattle.write_back.specs.Ages.{Writes, Lessens, bytes_by, is_gone, gone_by, cut_by}
use Rattle.write_back.proofs.Keys.{in-range, before-range, low-of}
use Rattle.write_back.proofs.Changing.{found-low}

-- how many bytes of a write go with one segment
abbrev pub goes_by : Change → ℕ → Segment → ℕ
goes_by change n s = if is_gone (fate change s.number s.state) && nat_eq s.number n then length s.bytes else 0

goes-if : (gone : Bool) (n : ℕ) (e : ℕ × Segment) → (if gone then bytes_by n e else 0) ≡ (if gone && nat_eq e.1.number n then length e.1.bytes else 0)
goes-if true n e = refl
goes-if false n e = refl

-- which of two early places a range begins at is the same
gone-lower : (change : Change) (low other high from n : ℕ) (es : Segments) → AreApart from es → low ≤ from → other ≤ from → gone_by change low high n es ≡ gone_by change other high n es
gone-lower change low other high from n [] apart l o = refl
gone-lower change low other high from n (e ∷ es) apart l o =
    let more : gone_by change low high n es ≡ gone_by change other high n es = gone-lower change low other high (end_of e) n es apart.3 (omega (arith, apart.0, l)) (omega (arith, apart.0, o)) in
    let same : (nat_le low e.0 && nat_lt e.0 high) ≡ (nat_le other e.0 && nat_lt e.0 high) = by (nat_lt e.0 high) (le-leb low e.0 (omega (arith, apart.0, l))) (le-leb other e.0 (omega (arith, apart.0, o))) in
    rw (same, more) refl
  where
    by : (d : Bool) → nat_le low e.0 ≡ true → nat_le other e.0 ≡ true → (nat_le low e.0 && d) ≡ (nat_le other e.0 && d)
    by d a b = rw (a, b) refl

-- nothing is left to go
pub gone-none : (change : Change) (low high n : ℕ) (es : Segments) → first_between low high es ≡ None → gone_by change low high n es ≡ 0
gone-none change low high n [] none = refl
gone-none change low high n (e ∷ es) none = by (nat_le low e.0 && nat_lt e.0 high) refl (λ h. gone-none change low high n es h)
  where
    by : (b : Bool) → (nat_le low e.0 && nat_lt e.0 high) ≡ b → (first_between low high es ≡ None → gone_by change low high n es ≡ 0) → gone_by change low high n (e ∷ es) ≡ 0
    by true h more = let g : Some e ≡ None = (rw h at none) in absurd cc
    by false h more = let g : first_between low high es ≡ None = (rw h at none) in rw h (omega (arith, more g))

-- the first segment of the range, and then the others
gone-here : (change : Change) (low high n : ℕ) (e : ℕ × Segment) (es : Segments) → (nat_le low e.0 && nat_lt e.0 high) ≡ true → AreApart (end_of e) es → 0 < length e.1.bytes
    → gone_by change low high n (e ∷ es) ≡ goes_by change n e.1 + gone_by change (e.0 + 1) high n (e ∷ es)
gone-here change low high n e es h apart some =
    let out : (nat_le (e.0 + 1) e.0 && nat_lt e.0 high) ≡ false = before-range (e.0 + 1) high e.0 (omega arith) in
    let more : gone_by change low high n es ≡ gone_by change (e.0 + 1) high n es = gone-lower change low (e.0 + 1) high (end_of e) n es apart (omega (arith, low-of low high e.0 h)) (omega (arith, some)) in
    let here = goes-if (is_gone (fate change e.1.number e.1.state)) n e in
    rw (h, out, here) (omega (arith, more))

pub gone-step : (change : Change) (low high from n : ℕ) (es : Segments) (x : ℕ × Segment) → AreApart from es → first_between low high es ≡ Some x
    → gone_by change low high n es ≡ goes_by change n x.1 + gone_by change (x.0 + 1) high n es
gone-step change low high from n [] x apart found = absurd cc
gone-step change low high from n (e ∷ es) x apart found = by (nat_le low e.0 && nat_lt e.0 high) refl (λ g. (found-low low high (end_of e) es x apart.3 g, gone-step change low high (end_of e) n es x apart.3 g))
  where
    by : (b : Bool) → (nat_le low e.0 && nat_lt e.0 high) ≡ b → (first_between low high es ≡ Some x → (end_of e ≤ x.0) × (gone_by change low high n es ≡ goes_by change n x.1 + gone_by change (x.0 + 1) high n es))
        → gone_by change low high n (e ∷ es) ≡ goes_by change n x.1 + gone_by change (x.0 + 1) high n (e ∷ es)
    by true h more =
        let same : e ≡ x = (let g : Some e ≡ Some x = (rw h at found) in cc) in
        subst (λ (z : ℕ × Segment). gone_by change low high n (e ∷ es) ≡ goes_by change n z.1 + gone_by change (z.0 + 1) high n (e ∷ es)) same (gone-here change low high n e es h apart.3 apart.1)
    by false h more =
        let g : first_between low high es ≡ Some x = (rw h at found) in
        let m = more g in
        let out : (nat_le (x.0 + 1) e.0 && nat_lt e.0 high) ≡ false = before-range (x.0 + 1) high e.0 (omega (arith, m.0, apart.1)) in
        rw (h, out) (omega (arith, m.1))

-- what is cut is the rest of the segment that goes on past the place, and the segments after it
passing-late : (place from : ℕ) (es : Segments) → AreApart from es → place ≤ from → passing place es ≡ None
passing-late place from [] apart le = refl
passing-late place from (e ∷ es) apart le =
    let out : nat_lt e.0 place ≡ false = le-ltb e.0 place (omega (arith, le, apart.0)) in
    rw out (passing-late place (end_of e) es apart.3 (omega (arith, le, apart.0)))

drops-if : (low : Bool) (n : ℕ) (e : ℕ × Segment) (place : ℕ) → place ≤ e.0
    → (if low && nat_eq e.1.number n then length e.1.bytes - (place - e.0) else 0) ≡ (if is_gone (if low then None else Some e.1.state) then bytes_by n e else 0)
drops-if false n e place le = refl
drops-if true n e place le = by (nat_eq e.1.number n)
  where
    by : (b : Bool) → (if b then length e.1.bytes - (place - e.0) else 0) ≡ (if b then length e.1.bytes else 0)
    by true = omega (arith, le)
    by false = refl

cut-late : (place upto high from n : ℕ) (es : Segments) → AreApart from es → place ≤ from → 2 ^ 63 - 1 ≤ high → cut_by place upto n es ≡ gone_by (Drop upto) place high n es
cut-late place upto high from n [] apart le most = refl
cut-late place upto high from n (e ∷ es) apart le most =
    let more : cut_by place upto n es ≡ gone_by (Drop upto) place high n es = cut-late place upto high (end_of e) n es apart.3 (omega (arith, le, apart.0)) most in
    let inside : (nat_le place e.0 && nat_lt e.0 high) ≡ true = in-range place high e.0 (omega (arith, le, apart.0)) (omega (arith, apart.1, apart.2, most)) in
    let here = drops-if (nat_le e.1.number upto) n e place (omega (arith, le, apart.0)) in
    rw (inside, more, here) refl

module _ (place upto high n : ℕ) (e : ℕ × Segment) (es : Segments) (apart : AreApart e.0 (e ∷ es)) (most : 2 ^ 63 - 1 ≤ high) where
  ended : end_of e ≤ place → (if nat_le e.1.number upto && nat_eq e.1.number n then length e.1.bytes - (place - e.0) else 0) ≡ 0
  ended le = past (nat_le e.1.number upto && nat_eq e.1.number n)
    where
      past : (b : Bool) → (if b then length e.1.bytes - (place - e.0) else 0) ≡ 0
      past true = omega (arith, le)
      past false = refl

  cut-cons : (b : Bool) → nat_lt e.0 place ≡ b → (d : Bool) → nat_lt place (end_of e) ≡ d → cut_by place upto n es ≡ cut_by place upto n (one_of (passing place es)) + gone_by (Drop upto) place high n es
      → cut_by place upto n (e ∷ es) ≡ cut_by place upto n (one_of (passing place (e ∷ es))) + gone_by (Drop upto) place high n (e ∷ es)
  cut-cons true h true k more =
      let out : (nat_le place e.0 && nat_lt e.0 high) ≡ false = before-range place high e.0 (ltb-true e.0 place h) in
      let late : cut_by place upto n es ≡ gone_by (Drop upto) place high n es = cut-late place upto high (end_of e) n es apart.3 (omega (arith, ltb-true place (end_of e) k)) most in
      rw (h, k, out) (omega (arith, late))
  cut-cons true h false k more =
      let out : (nat_le place e.0 && nat_lt e.0 high) ≡ false = before-range place high e.0 (ltb-true e.0 place h) in
      let gone = ended (ltb-false place (end_of e) k) in
      rw (h, k, out) (omega (arith, more, gone))
  cut-cons false h d k more =
      let begins : place ≤ e.0 = ltb-false e.0 place h in
      let none : passing place (e ∷ es) ≡ None = passing-late place e.0 (e ∷ es) apart begins in
      let late : cut_by place upto n (e ∷ es) ≡ gone_by (Drop upto) place high n (e ∷ es) = cut-late place upto high e.0 n (e ∷ es) apart begins most in
      let plus : gone_by (Drop upto) place high n (e ∷ es) ≡ 0 + gone_by (Drop upto) place high n (e ∷ es) = omega arith in
      late ∙ plus ∙ ap (λ o. cut_by place upto n (one_of o) + gone_by (Drop upto) place high n (e ∷ es)) (sym none)

cut-apart : (place upto high from n : ℕ) (es : Segments) → AreApart from es → 2 ^ 63 - 1 ≤ high
    → cut_by place upto n es ≡ cut_by place upto n (one_of (passing place es)) + gone_by (Drop upto) place high n es
cut-apart place upto high from n [] apart most = refl
cut-apart place upto high from n (e ∷ es) apart most =
    cut-cons place upto high n e es (omega arith, apart.1, apart.2, apart.3) most (nat_lt e.0 place) refl (nat_lt place (end_of e)) refl (cut-apart place upto high (end_of e) n es apart.3 most)

-- first the one, then the others
pub cut-both : (place upto high : ℕ) (es : Segments) (o : Option (ℕ × Segment)) (a b c : Writes) → AreApart 0 es → 2 ^ 63 - 1 ≤ high → o ≡ passing place es → Lessens (λ n. cut_by place upto n (one_of o)) a b
    → Lessens (λ n. gone_by (Drop upto) place high n es) b c → Lessens (λ n. cut_by place upto n es) a c
cut-both place upto high es o a b c apart most is first others = λ file n.
    let tail : cut_by place upto n (one_of o) ≡ cut_by place upto n (one_of (passing place es)) = ap (λ (z : Option (ℕ × Segment)). cut_by place upto n (one_of z)) is in
    omega (arith, first file n, others file n, cut-apart place upto high 0 n es apart most, tail)
