-- What a copy of a file to the server leaves in a history.
use Rattle.std.specs.Prelude.{◌≡◌, ◌+◌, ℕ, List, [], ◌∷◌, ◌++◌, length, map}
use Rattle.nfs_types.specs.declared.mode.Mode.TheVariants as modes
use Rattle.world_model.specs.declared.answer.Answer.TheVariants as answers
use Rattle.world_model.specs.declared.answer.Fault.{Fault}
use Rattle.world_model.specs.declared.answer.Value.{Value}
use Rattle.world_model.specs.declared.entry.Entry.{Entry}
use Rattle.world_model.specs.declared.entry.Entry.TheVariants.{Began, Answered}
use Rattle.world_model.specs.declared.op.Op.{Op}
use Rattle.world_model.specs.declared.op.Op.TheVariants as ops
use Rattle.world_model.specs.Entries.{At}
use Rattle.world_model.specs.Follows.{Finishes, Follows, begun, marks_of}

-- pieces laid end to end
abbrev pub laid : List (List ℕ) → List ℕ
laid [] = []
laid (piece ∷ pieces) = piece ++ laid pieces

-- pieces are written one behind the other, from an offset on
abbrev pub writes_from : ℕ → List (List ℕ) → List Op
writes_from at [] = []
writes_from at (piece ∷ pieces) = ops.Write 1 at piece ∷ writes_from (at + length piece) pieces

-- A file is copied by these operations: it is opened, and made if it isn't there; it gets the size 0; its pieces are written; and it is closed, which makes
-- them stable.
abbrev pub copy_ops : List (List ℕ) → List (List ℕ) → List Op
copy_ops path pieces = ops.OpenFile 1 modes.C path ∷ ops.Truncate 1 0 ∷ (writes_from 0 pieces ++ ops.Close 1 ∷ [])

-- ---- what a script asks for

-- the operations that entries begin
abbrev pub ops_of : List Entry → List Op
ops_of [] = []
ops_of (Began lane line op ∷ es) = op ∷ ops_of es
ops_of (e ∷ es) = ops_of es

-- Of a lane the script asks for the operations that copy a file, one behind the other.
pub record AsksForCopy (script : List Entry) (lane : ℕ) (path pieces : List (List ℕ)) : Type 0 where
  pub before : List Entry
  pub own : List Entry
  pub after : List Entry
  pub is : begun lane script ≡ before ++ (own ++ after)
  pub asks : ops_of own ≡ copy_ops path pieces

-- no operation of the lane was refused
abbrev pub NoneRefused : List Entry → ℕ → Type 0
NoneRefused h lane = (i line : ℕ) (fault : Fault) → At h i (Answered lane line (answers.Refused fault)) → ⊥

-- ---- what was done

-- an operation that succeeded: its line and its value
pub record Done : Type 0 where
  pub line : ℕ
  pub op : Op
  pub value : Value

-- each began and was answered, one after the other
abbrev pub done_marks : ℕ → List Done → List Entry
done_marks lane [] = []
done_marks lane (d ∷ ds) = Began lane d.line d.op ∷ Answered lane d.line (answers.Done d.value) ∷ done_marks lane ds

-- A file of these bytes was copied to the path: all operations of a lane succeeded, one after the other, and among them those that copy it, one behind the
-- other.
pub record Copied (h : List Entry) (path : List (List ℕ)) (bytes : List ℕ) : Type 0 where
  pub lane : ℕ
  pub pieces : List (List ℕ)
  pub whole : laid pieces ≡ bytes
  pub earlier : List Done
  pub done : List Done
  pub later : List Done
  pub did : map (λ (d : Done). d.op) done ≡ copy_ops path pieces
  pub marks : marks_of lane h ≡ done_marks lane (earlier ++ (done ++ later))

-- The law. Each line of the script has its answer, and none of the lane is refused.
abbrev pub AskedAreCopied : Type 0
AskedAreCopied = (script h : List Entry) → Follows script h → Finishes script h → (lane : ℕ) → NoneRefused h lane → (path pieces : List (List ℕ))
    → AsksForCopy script lane path pieces → Copied h path (laid pieces)
