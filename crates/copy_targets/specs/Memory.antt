-- What is known of a target in memory.
use Rattle.std.specs.Prelude.{List, Bool}
use Rattle.copy_targets.specs.declared.target.Took.{Took}

-- what it took, and whether a file was begun and goes on
pub record MemTaken : Type 0 where
  pub took : List Took
  pub writes : Bool
