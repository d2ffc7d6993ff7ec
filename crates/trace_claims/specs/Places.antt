-- A test of each place from one to before another.
use Rattle.std.specs.Prelude.{◌≡◌, ◌<◌, ◌≤◌, ◌+◌, ◌-◌, ◌&&◌, ℕ, zero, suc, Bool, true, false, Option, MatchOption}

abbrev pub all_below : (ℕ → Bool) → ℕ → Bool
all_below f zero = true
all_below f (suc n) = all_below f n && f n

-- the test holds of each place from one to before another
unfoldable pub all_places : (ℕ → Bool) → (from to : ℕ) → Bool
all_places f from to = all_below (λ k. f (from + k)) (to - from)

-- from the place at on the test holds up to e
pub record HoldsUntil (f : ℕ → Bool) (at to e : ℕ) : Type 0 where
  pub some : at < e
  pub within : e ≤ to
  pub each : (i : ℕ) → at ≤ i → i < e → f i ≡ true

-- some places from the place at on, or it fails there
abbrev pub KeepsUntil : (ℕ → Bool) → (at to : ℕ) → Option ℕ → Type 0
KeepsUntil f at to found = MatchOption found (f at ≡ false) (HoldsUntil f at to)
