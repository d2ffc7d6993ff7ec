-- Bytes of a file that are shared.
use Rattle.std.specs.Prelude.{ℕ, ◌≤◌, List, length, Option, None, Some}

-- Either there is room for all bytes that there may be, or these are all there and shared.
abbrev pub Holds : Option (List ℕ) → ℕ → ℕ → Type 0
Holds None limit capacity = limit ≤ capacity
Holds (Some bytes) limit capacity = limit ≤ length bytes
