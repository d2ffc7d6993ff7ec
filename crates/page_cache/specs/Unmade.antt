-- Pages of which not all were made.
use Rattle.std.specs.Prelude.{ℕ, ◌-◌, List, [], ◌++◌, length, replicate}

-- so many pages: those that were made, and empty ones behind them
abbrev pub with_empty : ℕ → List (List ℕ) → List (List ℕ)
with_empty count made = made ++ replicate (count - length made) []
