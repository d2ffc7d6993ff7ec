-- What reading takes from a source.
use Rattle.std.specs.Prelude.{◌≡◌, ℕ, List, [], ◌++◌, take, Option, Some, None, Result, Ok, Err}
use Rattle.outside.specs.declared.source.Failed.{Failed}

-- The front of what was left stands in the front of the buffer. Nothing is read only at the end.
pub record ReadsFrom (old new buf : List ℕ) (n : ℕ) : Type 0 where
  pub is : old ≡ take n buf ++ new
  pub ends : n ≡ 0 → old ≡ []

-- The same of a source that may tell; one that tells goes on telling. A call that failed took nothing.
abbrev pub TakesFrom : Option (List ℕ) → Option (List ℕ) → List ℕ → Result ℕ Failed → Type 0
TakesFrom None new buf result = Unit {0}
TakesFrom (Some old) None buf result = ⊥
TakesFrom (Some old) (Some new) buf (Ok n) = ReadsFrom old new buf n
TakesFrom (Some old) (Some new) buf (Err e) = new ≡ old
