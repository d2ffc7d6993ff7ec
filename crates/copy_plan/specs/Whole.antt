-- What a file is asked for, from its beginning to its end.
use Rattle.std.specs.Prelude.{◌≡◌, ℕ, suc, List, [], ◌∷◌, ◌++◌}
use Rattle.world_model.specs.declared.op.Op.{Op}
use Rattle.nfs_script.specs.declared.script.ScriptLine.{ScriptLine}
use Rattle.law_copies.specs.Copied.{copy_ops}
use Rattle.copy_plan.specs.Files.{FilesView, begins, ends, next_lane, writes}

-- a lane is asked for operations one after the other, in lines that are numbered on
abbrev pub asked_in : ℕ → ℕ → List Op → List ScriptLine
asked_in lane number [] = []
asked_in lane number (op ∷ more) = record { lane = lane; line = number; op = op } ∷ asked_in lane (suc number) more

-- pieces are written one after the other
abbrev pub all_written : List (List ℕ) → FilesView → FilesView
all_written [] v = v
all_written (piece ∷ pieces) v = all_written pieces (writes piece v)

-- A file that is begun, written and ended is asked for the operations that copy it, in one lane and one after the other.
abbrev pub AsksInOrder : Type 0
AsksInOrder = (v : FilesView) (path : List (List ℕ)) (pieces : List (List ℕ))
    → (ends (all_written pieces (begins path v))).all.lines ≡ v.all.lines ++ asked_in (next_lane v.lane) v.all.next (copy_ops path pieces)
