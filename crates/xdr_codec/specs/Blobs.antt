-- Bytes that are shared, or a blob's own, and bytes that are lent.
use Rattle.std.specs.Prelude.{◌≡◌, ℕ, ◌+◌, ◌≤◌, List, length, take, drop, Option, Some, None}

-- so many bytes from a place on
abbrev pub part_of : ℕ → ℕ → List ℕ → List ℕ
part_of from len all = take len (drop from all)

-- they are there
pub record IsPart (from len : ℕ) (all : List ℕ) : Type 0 where
  pub within : from + len ≤ length all

-- the part that is shared, or else its own
abbrev pub shared_or : Option (List ℕ) → List ℕ → List ℕ
shared_or None own = own
shared_or (Some part) own = part

-- bytes that stand in others from a place on
pub record StandAt (from : ℕ) (bytes all : List ℕ) : Type 0 where
  pub within : from + length bytes ≤ length all
  pub is : bytes ≡ part_of from (length bytes) all

-- lent bytes stand so in those that are shared, if any are
abbrev pub LieIn : Option (List ℕ) → ℕ → List ℕ → Type 0
LieIn None from bytes = Unit {0}
LieIn (Some all) from bytes = StandAt from bytes all
