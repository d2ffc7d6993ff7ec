-- A restart goes through the objects in order of making.
use Rattle.std.proofs.Common.{◌≡◌, ◌+◌, ◌++◌, ℕ, List, take, drop, count_by}
use Rattle.export_fs.specs.declared.node.Node.{Node}
use Rattle.export_fs.specs.Restart.{is_unsteady, all_restarted}

-- so many objects are done, and the last number that was taken
pub record IsRestarting (nodes here : List Node) (counter number done : ℕ) : Type 0 where
  pub rest : all_restarted counter nodes ≡ take done here ++ all_restarted number (drop done here)
  pub left : counter + count_by is_unsteady nodes ≡ number + count_by is_unsteady (drop done here)
