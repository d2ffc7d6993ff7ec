-- Scripts that are asked for.
use Rattle.std.specs.Prelude.{◌≤◌, ℕ, List, All, length, Option}
use Rattle.nfs_script.specs.declared.script.ScriptLine.{ScriptLine}
use Rattle.nfs_script.specs.Asked.{IsAskedLine}

-- A call for the next script: what was answered to the script before, with its status, and the lines of the next one, if there is one.
pub record Round : Type 0 where
  pub answers : List ℕ
  pub status : ℕ
  pub script : Option (List ScriptLine)

-- each operation is within its bounds, and there are 16,384 lines at most
pub record MayRun (script : List ScriptLine) : Type 0 where
  pub asked : All IsAskedLine script
  pub few : length script ≤ 16384
