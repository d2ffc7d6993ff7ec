-- The bytes of runs, one after the other.
use Rattle.std.specs.Prelude.{ℕ, List, Option, Some, None}

-- the bytes of the single run, or those that were joined
abbrev pub bytes_of : Option (List ℕ) → List ℕ → List ℕ
bytes_of None joined = joined
bytes_of (Some run) joined = run
