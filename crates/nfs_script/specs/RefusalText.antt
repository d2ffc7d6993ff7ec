-- The text that refuses a script.
use Rattle.std.specs.Prelude.{ℕ, List, ◌++◌, codes, decimal}
use Rattle.nfs_script.specs.declared.fault.ScriptFault.{ScriptFault}

-- the word, the line and the kind of the fault, parted by single spaces, and a line feed
unfoldable pub refusal_text : ScriptFault → List ℕ
refusal_text fault = codes "script " ++ decimal fault.line ++ codes " " ++ decimal fault.kind ++ codes "\n"
