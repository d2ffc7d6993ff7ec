-- How far that reaches which may have changed a place.
use Rattle.std.specs.Prelude.{min, ℕ, Option, Some, None}
use Rattle.trace_claims.specs.declared.touched.Reach.{Reach}
use Rattle.trace_claims.specs.declared.touched.Reach.TheVariants.{Range, Past}

-- the end of the places that an operation writes, or so far if it writes none
abbrev pub range_end : Option (ℕ × ℕ) → (most : ℕ) → ℕ
range_end None most = most
range_end (Some r) most = min r.1 most

-- the end of what another client changed, at most so far
abbrev pub reach_end : Reach → (most : ℕ) → ℕ
reach_end (Range from to) most = min to most
reach_end (Past size) most = most
