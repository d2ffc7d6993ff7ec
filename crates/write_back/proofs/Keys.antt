-- How places compare.
use Rattle.std.proofs.Common.{◌≡◌, ◌<◌, ◌≤◌, ℕ, ◌&&◌, Bool, true, false, refl, sym, arith, nat_cmp}
use Rattle.std.specs.Prelude.{nat_le, nat_lt}
use Rattle.std.specs.declared.cmp.Ordering.{Ordering}
use Rattle.std.specs.declared.cmp.Ordering.TheVariants.{Less, Equal, Greater}
use Rattle.std.specs.BTreeMap.{is_at}
use Rattle.std.proofs.lemmas.Bool.{le-leb, lt-leb, lt-ltb, le-ltb, ltb-true, leb-true, and_parts}
use Rattle.std.proofs.lemmas.Cmp.{ranked}

pub cmp-above : (a q : ℕ) → q < a → nat_cmp a q ≡ Greater
cmp-above a q lt = by (nat_cmp a q) refl
  where
    by : (r : Ordering) → r ≡ nat_cmp a q → nat_cmp a q ≡ Greater
    by Less e = absurd (omega (arith, lt, ranked a q Less e))
    by Equal e = absurd (omega (arith, lt, ranked a q Equal e))
    by Greater e = sym e

pub cmp-below : (a q : ℕ) → a < q → nat_cmp a q ≡ Less
cmp-below a q lt = by (nat_cmp a q) refl
  where
    by : (r : Ordering) → r ≡ nat_cmp a q → nat_cmp a q ≡ Less
    by Less e = sym e
    by Equal e = absurd (omega (arith, lt, ranked a q Equal e))
    by Greater e = absurd (omega (arith, lt, ranked a q Greater e))

pub cmp-same : (a q : ℕ) → a ≡ q → nat_cmp a q ≡ Equal
cmp-same a q is = by (nat_cmp a q) refl
  where
    by : (r : Ordering) → r ≡ nat_cmp a q → nat_cmp a q ≡ Equal
    by Less e = absurd (omega (arith, is, ranked a q Less e))
    by Equal e = sym e
    by Greater e = absurd (omega (arith, is, ranked a q Greater e))

pub at-same : (a q : ℕ) → a ≡ q → is_at (nat_cmp a) q ≡ true
at-same a q is = rw (cmp-same a q is) refl

pub at-above : (a q : ℕ) → q < a → is_at (nat_cmp a) q ≡ false
at-above a q lt = rw (cmp-above a q lt) refl

pub at-below : (a q : ℕ) → a < q → is_at (nat_cmp a) q ≡ false
at-below a q lt = rw (cmp-below a q lt) refl

pub is-at : (a q : ℕ) → is_at (nat_cmp a) q ≡ true → a ≡ q
is-at a q h = by (nat_cmp a q) refl
  where
    by : (r : Ordering) → r ≡ nat_cmp a q → a ≡ q
    by Less e = let f : false ≡ true = (rw (← e) at h) in absurd cc
    by Equal e = ranked a q Equal e
    by Greater e = let f : false ≡ true = (rw (← e) at h) in absurd cc

-- whether a place lies between two others
pub in-range : (low high q : ℕ) → low ≤ q → q < high → (nat_le low q && nat_lt q high) ≡ true
in-range low high q l h = rw (le-leb low q l, lt-ltb q high h) refl

pub past-range : (low high q : ℕ) → high ≤ q → (nat_le low q && nat_lt q high) ≡ false
past-range low high q h = by (nat_le low q) refl
  where
    by : (b : Bool) → nat_le low q ≡ b → (nat_le low q && nat_lt q high) ≡ false
    by true e = rw (e, le-ltb q high h) refl
    by false e = rw e refl

pub before-range : (low high q : ℕ) → q < low → (nat_le low q && nat_lt q high) ≡ false
before-range low high q h = rw (lt-leb low q h) refl

pub low-of : (low high q : ℕ) → (nat_le low q && nat_lt q high) ≡ true → low ≤ q
low-of low high q h = leb-true low q ((and_parts (nat_le low q) (nat_lt q high) h).0)

pub high-of : (low high q : ℕ) → (nat_le low q && nat_lt q high) ≡ true → q < high
high-of low high q h = ltb-true q high ((and_parts (nat_le low q) (nat_lt q high) h).1)
