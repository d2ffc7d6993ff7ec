-- A copy from the server that is under way.
use Rattle.std.specs.Prelude.{◌≤◌, ℕ, List, All, length, Bool}
use Rattle.nfs_script.specs.declared.script.ScriptLine.{ScriptLine}
use Rattle.nfs_script.specs.Asked.{IsAskedLine}

-- the path that is copied, and whether something wasn't copied
pub record BlameView : Type 0 where
  pub from : List (List ℕ)
  pub wrong : Bool

-- each operation is within its bounds, and there are 16,384 lines at most
pub record IsScript (lines : List ScriptLine) : Type 0 where
  pub asked : All IsAskedLine lines
  pub few : length lines ≤ 16384
