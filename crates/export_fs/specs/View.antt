-- What the export is: its objects in order of making, the last number of changes, and how often it restarted.
use Rattle.std.specs.Prelude.{ℕ, List}
use Rattle.export_fs.specs.declared.node.Node.{Node}

pub record View : Type 0 where
  pub nodes : List Node
  pub counter : ℕ
  pub reboots : ℕ
