-- The bounds of what a script asks for.
use Rattle.std.specs.Prelude.{ℕ, ◌≤◌, List, length}
use Rattle.script_text.specs.Paths.{path_bytes}
use Rattle.world_model.specs.declared.op.Op.{Op}
use Rattle.world_model.specs.declared.op.Op.TheVariants as ops
use Rattle.nfs_script.specs.declared.script.ScriptLine.{ScriptLine}

-- a number is in a range
pub record IsFrom (low high n : ℕ) : Type 0 where
  pub least : low ≤ n
  pub most : n ≤ high

abbrev pub IsSlot : ℕ → Type 0
IsSlot slot = IsFrom 1 16 slot

-- an offset or a size is 2 ^ 62 at most
abbrev pub IsOffset : ℕ → Type 0
IsOffset n = n ≤ 4611686018427387904

-- there are 1 to 65,536 bytes
abbrev pub IsPayload : List ℕ → Type 0
IsPayload bytes = IsFrom 1 65536 (length bytes)

-- a path has 1,024 bytes at most
abbrev pub IsPath : List (List ℕ) → Type 0
IsPath path = path_bytes path ≤ 1024

-- such a path isn't the root
pub record IsNamed (path : List (List ℕ)) : Type 0 where
  pub some : 1 ≤ length path
  pub within : IsPath path

-- a link leads to 1 to 1,024 bytes
abbrev pub IsTarget : List ℕ → Type 0
IsTarget target = IsFrom 1 1024 (length target)

-- an operation is within the bounds of its command
abbrev pub IsAsked : Op → Type 0
IsAsked (ops.OpenFile slot mode path) = IsSlot slot × IsNamed path
IsAsked (ops.Read slot offset count) = IsSlot slot × IsOffset offset × (count ≤ 65536)
IsAsked (ops.Write slot offset bytes) = IsSlot slot × IsOffset offset × IsPayload bytes
IsAsked (ops.Fill slot offset count byte) = IsSlot slot × IsOffset offset × IsFrom 1 1048576 count
IsAsked (ops.Put path offset bytes) = IsNamed path × IsOffset offset × IsPayload bytes
IsAsked (ops.Sync slot) = IsSlot slot
IsAsked (ops.Close slot) = IsSlot slot
IsAsked (ops.Truncate slot size) = IsSlot slot × IsOffset size
IsAsked (ops.Stat path) = IsPath path
IsAsked (ops.Access path bits) = IsPath path × IsFrom 1 63 bits
IsAsked (ops.MakeDir path) = IsNamed path
IsAsked (ops.RemoveDir path) = IsNamed path
IsAsked (ops.Remove path) = IsNamed path
IsAsked (ops.Rename from to) = IsNamed from × IsNamed to
IsAsked (ops.Link from to) = IsNamed from × IsNamed to
IsAsked (ops.SymLink path target) = IsNamed path × IsTarget target
IsAsked (ops.ReadLink path) = IsNamed path
IsAsked (ops.List path) = IsPath path

-- an operation of a script, its lane and its line are within bounds; the greatest number of a line is 2 ^ 28 - 1
pub record IsAskedLine (asked : ScriptLine) : Type 0 where
  pub lane : IsFrom 1 16 asked.lane
  pub line : IsFrom 1 268435455 asked.line
  pub op : IsAsked asked.op
