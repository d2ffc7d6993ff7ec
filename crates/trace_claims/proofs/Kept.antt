-- Up to which place bytes are shown as they were left, or may have been changed.
use Rattle.std.proofs.Common.{◌≡◌, ◌<◌, ◌+◌, ℕ, Bool, true, subst, arith}
use Rattle.trace_claims.specs.Places.{all_places, HoldsUntil}
use Rattle.trace_claims.proofs.Placing.{places-more}

-- the place itself
pub until-next : (f : ℕ → Bool) (at to : ℕ) → at < to → f at ≡ true → HoldsUntil f at to (at + 1)
until-next f at to lt t = record { some = omega arith; within = omega (arith, lt); each = λ i low high. subst (λ (z : ℕ). f z ≡ true) (let is : at ≡ i = omega (arith, low, high) in is) t }

-- so far, and further
pub until-more : (f : ℕ → Bool) (from at to e : ℕ) → all_places f from at ≡ true → HoldsUntil f at to e → all_places f from e ≡ true
until-more f from at to e t more = places-more f from at e t more.each
