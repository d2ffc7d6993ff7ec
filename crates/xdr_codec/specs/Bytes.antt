-- Lists of numbers that are bytes.
use Rattle.std.specs.Prelude.{ℕ, ◌<◌, List}
use Rattle.std.specs.Prelude.{get_or}

-- each of them is below 256, and so is what stands past the end
abbrev pub IsBytes : List ℕ → Type 0
IsBytes bytes = (i : ℕ) → get_or bytes i 0 < 256
