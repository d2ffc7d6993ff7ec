-- The lines that copy files, and those that read them.
use Rattle.std.specs.Prelude.{◌+◌, ℕ, List, length, nat_lt, Option, Some, None, if◌then◌else◌}
use Rattle.nfs_types.specs.declared.mode.Mode.{Mode}
use Rattle.nfs_types.specs.declared.mode.Mode.TheVariants as modes
use Rattle.world_model.specs.declared.op.Op.TheVariants as ops
use Rattle.nfs_script.specs.Asked.{IsOffset}
use Rattle.copy_plan.specs.Lines.{LinesView, asks}

-- the lines so far, the lane of the file that was begun last, and where its next piece goes to while it isn't ended
pub record FilesView : Type 0 where
  pub all : LinesView
  pub lane : ℕ
  pub at : Option ℕ

-- the place of a file that isn't ended is an offset
abbrev pub IsPlace : Option ℕ → Type 0
IsPlace None = Unit {0}
IsPlace (Some at) = IsOffset at

-- the lanes 1 to 15 by turns
abbrev pub next_lane : ℕ → ℕ
next_lane lane = if nat_lt lane 15 then lane + 1 else 1

-- a file is opened in the next lane
abbrev pub opens : Mode → List (List ℕ) → FilesView → FilesView
opens mode path v = record { all = asks (next_lane v.lane) (ops.OpenFile 1 mode path) v.all; lane = next_lane v.lane; at = Some 0 }

-- a file is asked for something, too
abbrev pub cuts : FilesView → FilesView
cuts v = record v { all = asks v.lane (ops.Truncate 1 0) v.all }

-- the copy of a file begins: it is opened, and made if it isn't there, and gets the size 0
abbrev pub begins : List (List ℕ) → FilesView → FilesView
begins path v = cuts (opens modes.C path v)

abbrev pub writes_at : Option ℕ → List ℕ → FilesView → FilesView
writes_at None bytes v = v
writes_at (Some at) bytes v = record v { all = asks v.lane (ops.Write 1 at bytes) v.all; at = Some (at + length bytes) }

-- the file goes on with these bytes
abbrev pub writes : List ℕ → FilesView → FilesView
writes bytes v = writes_at v.at bytes v

abbrev pub reads_at : Option ℕ → ℕ → FilesView → FilesView
reads_at None count v = v
reads_at (Some at) count v = record v { all = asks v.lane (ops.Read 1 at count) v.all; at = Some (at + count) }

-- so many bytes that come next are read
abbrev pub reads : ℕ → FilesView → FilesView
reads count v = reads_at v.at count v

abbrev pub ends_at : Option ℕ → FilesView → FilesView
ends_at None v = v
ends_at (Some at) v = record v { all = asks v.lane (ops.Close 1) v.all; at = None }

-- the file is closed
abbrev pub ends : FilesView → FilesView
ends v = ends_at v.at v
