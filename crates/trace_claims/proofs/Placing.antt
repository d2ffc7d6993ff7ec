-- A test of each place from one to before another says what it holds of each of them.
use Rattle.std.proofs.Common.{◌≡◌, ◌<◌, ◌≤◌, ◌+◌, ◌-◌, inl, inr, ℕ, zero, suc, Bool, true, false, true≢false, refl, sym, ◌∙◌, subst, arith}
use Rattle.std.specs.Prelude.{Decides}
use Rattle.std.proofs.lemmas.Bool.{cases_lt, and_parts, and_from, and_cases, false_from_ne_true}
use Rattle.trace_claims.specs.Places.{all_below, all_places}

below-told : (f : ℕ → Bool) (n : ℕ) → all_below f n ≡ true → (k : ℕ) → k < n → f k ≡ true
below-told f zero t k lt = absurd (omega (arith, lt))
below-told f (suc n) t k lt =
    let both = and_parts (all_below f n) (f n) t in
    let earlier = below-told f n both.0 in
    elim (cases_lt k n) [
      | inl less ↦ earlier k less
      | inr le ↦ subst (λ (z : ℕ). f z ≡ true) (let is : n ≡ k = omega (arith, lt, le) in is) both.1
    ]

below-shown : (f : ℕ → Bool) (n : ℕ) → ((k : ℕ) → k < n → f k ≡ true) → all_below f n ≡ true
below-shown f zero each = refl
below-shown f (suc n) each = and_from (all_below f n) (f n) (below-shown f n (λ k lt. each k (omega (arith, lt)))) (each n (omega arith))

record FailsBelow (f : ℕ → Bool) (n : ℕ) : Type 0 where
  pub k : ℕ
  pub low : k < n
  pub fails : f k ≡ false

below-some : (f : ℕ → Bool) (n : ℕ) → all_below f n ≡ false → FailsBelow f n
below-some f zero t = absurd (true≢false t)
below-some f (suc n) t =
    let earlier = below-some f n in
    elim (and_cases (all_below f n) (f n) t) [
      | inl x ↦ let it = earlier x in let lt = it.low in record { k = it.k; low = omega (arith, lt); fails = it.fails }
      | inr x ↦ record { k = n; low = omega arith; fails = x }
    ]

pub places-told : (f : ℕ → Bool) (from to : ℕ) → all_places f from to ≡ true → (i : ℕ) → from ≤ i → i < to → f i ≡ true
unfolding all_places
places-told f from to t i low high =
    subst (λ (z : ℕ). f z ≡ true) (let is : from + (i - from) ≡ i = omega (arith, low) in is) (below-told (λ k. f (from + k)) (to - from) t (i - from) (omega (arith, low, high)))

pub places-shown : (f : ℕ → Bool) (from to : ℕ) → ((i : ℕ) → from ≤ i → i < to → f i ≡ true) → all_places f from to ≡ true
unfolding all_places
places-shown f from to each = below-shown (λ k. f (from + k)) (to - from) (λ k lt. each (from + k) (omega arith) (omega (arith, lt)))

-- one of them fails
pub record FailsIn (f : ℕ → Bool) (from to : ℕ) : Type 0 where
  pub i : ℕ
  pub low : from ≤ i
  pub high : i < to
  pub fails : f i ≡ false

pub places-some : (f : ℕ → Bool) (from to : ℕ) → all_places f from to ≡ false → FailsIn f from to
unfolding all_places
places-some f from to t = let it = below-some (λ k. f (from + k)) (to - from) t in let lt = it.low in record { i = from + it.k; low = omega arith; high = omega (arith, lt); fails = it.fails }

pub places-decide : (f : ℕ → Bool) (from to : ℕ) → Decides (all_places f from to) ((i : ℕ) → from ≤ i → i < to → f i ≡ true)
places-decide f from to = (places-told f from to, places-shown f from to)

-- none so far
pub places-none : (f : ℕ → Bool) (from : ℕ) → all_places f from from ≡ true
places-none f from = places-shown f from from (λ i low high. absurd (omega (arith, low, high)))

-- some more
pub places-more : (f : ℕ → Bool) (from at to : ℕ) → all_places f from at ≡ true → ((i : ℕ) → at ≤ i → i < to → f i ≡ true) → all_places f from to ≡ true
places-more f from at to t more = places-shown f from to (λ i low high. elim (cases_lt i at) [
  | inl less ↦ places-told f from at t i low less
  | inr le ↦ more i le high
])

-- one more
pub places-one : (f : ℕ → Bool) (from at : ℕ) → all_places f from at ≡ true → f at ≡ true → all_places f from (at + 1) ≡ true
places-one f from at t here = places-more f from at (at + 1) t (λ i low high. subst (λ (z : ℕ). f z ≡ true) (let is : at ≡ i = omega (arith, low, high) in is) here)

-- one fails
pub places-fail : (f : ℕ → Bool) (from at to : ℕ) → from ≤ at → at < to → f at ≡ false → all_places f from to ≡ false
places-fail f from at to low high fails = false_from_ne_true (all_places f from to) (λ t. true≢false (sym (places-told f from to t at low high) ∙ fails))

-- all are done
pub places-done : (f : ℕ → Bool) (from at to : ℕ) → to ≤ at → all_places f from at ≡ true → all_places f from to ≡ true
places-done f from at to le t = places-shown f from to (λ i low high. places-told f from at t i low (omega (arith, high, le)))
