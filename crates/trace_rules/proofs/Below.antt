-- Tests of all numbers below a bound: how a loop goes on and ends, and what they decide.
use Rattle.std.proofs.Common.{◌≡◌, ◌<◌, ◌+◌, ◌⊎◌, inl, inr, ℕ, suc, zero, Bool, true, false, refl, sym, ◌∙◌, ap, subst, arith, add-one}
use Rattle.std.specs.Prelude.{Decides, ◌&&◌, ◌||◌}
use Rattle.std.proofs.lemmas.Bool.Decides.{Decides-below_and, Decides-below_or}
use Rattle.trace_rules.specs.Decided.{all_below, any_below}

and-false : (x y : Bool) → y ≡ false → (x && y) ≡ false
and-false true y e = e
and-false false y e = refl

or-true : (x y : Bool) → y ≡ true → (x || y) ≡ true
or-true true y e = refl
or-true false y e = e

last-or-before : (k n : ℕ) → k < suc n → (k ≡ n) ⊎ (k < n)
last-or-before k n lt = grind arith

-- ---- how loops go on

pub all_below-none : (f : ℕ → Bool) → all_below f 0 ≡ true
unfolding all_below
all_below-none f = refl

pub all_below-more : (f : ℕ → Bool) (n : ℕ) → all_below f n ≡ true → f n ≡ true → all_below f (n + 1) ≡ true
unfolding all_below
all_below-more f n all this = subst (λ m. all_below f m ≡ true) (sym (add-one n)) (by all this)
  where
    by : all_below f n ≡ true → f n ≡ true → all_below f (suc n) ≡ true
    by all this = rw this all

pub all_below-fails : (f : ℕ → Bool) (k n : ℕ) → k < n → f k ≡ false → all_below f n ≡ false
unfolding all_below
all_below-fails f k zero lt this = absurd (omega arith)
all_below-fails f k (suc n) lt this = elim (last-or-before k n lt) [
  | inl e ↦ rw (sym (ap f e) ∙ this) refl
  | inr before ↦ and-false (f n) (all_below f n) (all_below-fails f k n before this)
]

pub any_below-none : (f : ℕ → Bool) → any_below f 0 ≡ false
unfolding any_below
any_below-none f = refl

pub any_below-more : (f : ℕ → Bool) (n : ℕ) → any_below f n ≡ false → f n ≡ false → any_below f (n + 1) ≡ false
unfolding any_below
any_below-more f n none this = subst (λ m. any_below f m ≡ false) (sym (add-one n)) (by none this)
  where
    by : any_below f n ≡ false → f n ≡ false → any_below f (suc n) ≡ false
    by none this = rw this none

pub any_below-found : (f : ℕ → Bool) (k n : ℕ) → k < n → f k ≡ true → any_below f n ≡ true
unfolding any_below
any_below-found f k zero lt this = absurd (omega arith)
any_below-found f k (suc n) lt this = elim (last-or-before k n lt) [
  | inl e ↦ rw (sym (ap f e) ∙ this) refl
  | inr before ↦ or-true (f n) (any_below f n) (any_below-found f k n before this)
]

-- ---- what they decide

pub all_below-decides : (f : ℕ → Bool) (P : ℕ → Type 0) → ((k : ℕ) → Decides (f k) (P k)) → (n : ℕ) → Decides (all_below f n) ((k : ℕ) → k < n → P k)
unfolding all_below
all_below-decides f P each n = Decides-below_and f P (all_below f) each refl (λ _. refl) n

pub any_below-decides : (f : ℕ → Bool) (P : ℕ → Type 0) → ((k : ℕ) → Decides (f k) (P k)) → (n : ℕ) → Decides (any_below f n) ((k : ℕ) × (k < n) × P k)
unfolding any_below
any_below-decides f P each n = Decides-below_or f P (any_below f) each refl (λ _. refl) n

pub ruleset all_below_steps = (all_below-none, all_below-more, all_below-fails)

pub ruleset any_below_steps = (any_below-none, any_below-more, any_below-found)
