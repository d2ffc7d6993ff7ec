-- Lines that are asked for, one after the other.
use Rattle.std.specs.Prelude.{◌≡◌, ◌+◌, ℕ, List, [], ◌∷◌, ◌++◌}
use Rattle.world_model.specs.declared.op.Op.{Op}
use Rattle.nfs_script.specs.declared.script.ScriptLine.{ScriptLine}

-- the lines of a script so far, and the number of the next one
pub record LinesView : Type 0 where
  pub lines : List ScriptLine
  pub next : ℕ

-- a lane is asked for an operation, too
abbrev pub asks : ℕ → Op → LinesView → LinesView
asks lane op v = record { lines = v.lines ++ record { lane = lane; line = v.next; op = op } ∷ []; next = v.next + 1 }

-- a line of folders and links: they have a lane of their own
abbrev pub IsNameLine : ScriptLine → Type 0
IsNameLine l = l.lane ≡ 16
