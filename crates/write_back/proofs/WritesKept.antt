-- How much of each write is kept: by amounts, and by what is pending of a file.
use Rattle.std.proofs.Common.{◌≡◌, ◌<◌, ◌≤◌, ℕ, zero, suc, ◌+◌, ◌-◌, Bool, true, false, List, Option, Some, None, refl, sym, ap, ◌∙◌, arith, nat_cmp}
use Rattle.std.specs.declared.cmp.Ordering.{Ordering}
use Rattle.std.specs.declared.cmp.Ordering.TheVariants.{Less, Equal, Greater}
use Rattle.std.specs.Cmp.Lexicographic.{slice_cmp}
use Rattle.std.specs.FinMap as finite
use Rattle.std.specs.Map.{lookup}
use Rattle.std.specs.BTreeMap.{is_at}
use Rattle.std.proofs.lemmas.Bool.{true≢false}
use Rattle.write_back.specs.declared.ages.Age.{Age}
use Rattle.write_back.specs.Pieces.{FilePending}
use Rattle.write_back.specs.Ages.{Writes, kept_for, kept_by, pending_by, raised_by, Lessens, Raises, SameKept, Loses, Gains}

-- fewer by the same amounts, and by none
pub lessens-as : (f g : ℕ → ℕ) (a b : Writes) → Lessens f a b → ((n : ℕ) → f n ≡ g n) → Lessens g a b
lessens-as f g a b less same file n = omega (arith, less file n, same n)

pub lessens-none : (a : Writes) → Lessens (λ n. 0) a a
lessens-none a file n = omega arith

-- more, where there are some, and by no amount
pub raised-some : (amount kept : ℕ) → 0 < kept → raised_by amount kept ≡ kept + amount
raised-some amount zero some = absurd (omega (arith, some))
raised-some amount (suc kept) some = refl

pub raised-zero : (amount kept : ℕ) → amount ≡ 0 → raised_by amount kept ≡ kept
raised-zero amount zero none = refl
raised-zero amount (suc kept) none = omega (arith, none)

pub raises-as : (f g : ℕ → ℕ) (a b : Writes) → Raises f a b → ((n : ℕ) → f n ≡ g n) → Raises g a b
raises-as f g a b more same file n = more file n ∙ ap (λ x. raised_by x (kept_by a file n)) (same n)

-- by what is pending of a file
pub loses-from : (old new : FilePending) (amount : ℕ → ℕ) (a b : Writes) → ((n : ℕ) → pending_by n new + amount n ≡ pending_by n old) → Lessens amount a b → Loses old new a b
loses-from old new amount a b sum less = record {
  fewer = λ n. omega (arith, sum n);
  less = λ file n. omega (arith, sum n, less file n);
}

pub gains-from : (old new : FilePending) (amount : ℕ → ℕ) (a b : Writes) → ((n : ℕ) → pending_by n new ≡ pending_by n old + amount n) → ((n : ℕ) → amount n ≤ pending_by n old) → Raises amount a b → Gains old new a b
gains-from old new amount a b sum known more = record {
  more = λ n. omega (arith, sum n);
  known = λ n none. omega (arith, sum n, known n, none);
  raises = raises-as amount (λ n. pending_by n new - pending_by n old) a b more (λ n. omega (arith, sum n));
}

-- nothing is changed
pub loses-same : (old new : FilePending) (a b : Writes) → ((n : ℕ) → pending_by n new ≡ pending_by n old) → SameKept a b → Loses old new a b
loses-same old new a b same kept = record {
  fewer = λ n. omega (arith, same n);
  less = λ file n. omega (arith, same n, kept file n);
}

-- what is kept of a write is of one file
pub at-file : (file other : List ℕ) → is_at (slice_cmp nat_cmp file) other ≡ true → file ≡ other
at-file file other h = by (slice_cmp nat_cmp file other) refl
  where
    by : (r : Ordering) → slice_cmp nat_cmp file other ≡ r → file ≡ other
    by Less k = absurd (true≢false (sym h ∙ rw k refl))
    by Equal k = finite.slice_cmp-IsAntisymmetric finite.nat_cmp-IsAntisymmetric file other k
    by Greater k = absurd (true≢false (sym h ∙ rw k refl))

kept-at : (file : List ℕ) (age : Age) → 0 < kept_for file (Some age) → file ≡ age.file
kept-at file age some = by (is_at (slice_cmp nat_cmp file) age.file) refl
  where
    by : (b : Bool) → is_at (slice_cmp nat_cmp file) age.file ≡ b → file ≡ age.file
    by true h = at-file file age.file h
    by false h = let none : 0 < 0 = (rw h at some) in absurd (omega (arith, none))

kept-one : (f g : List ℕ) (o : Option Age) → 0 < kept_for f o → 0 < kept_for g o → f ≡ g
kept-one f g None here there = absurd (omega (arith, here))
kept-one f g (Some age) here there = kept-at f age here ∙ sym (kept-at g age there)

pub one-file : (w : Writes) (f g : List ℕ) (n : ℕ) → 0 < kept_by w f n → 0 < kept_by w g n → f ≡ g
one-file w f g n here there = kept-one f g (lookup (is_at (nat_cmp n)) w) here there
