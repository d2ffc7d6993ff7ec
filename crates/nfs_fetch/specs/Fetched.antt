-- What a copy from the server promises.
use Rattle.std.specs.Prelude.{◌≡◌, ◌<◌, ◌+◌, ℕ, List, [], ◌∷◌, ◌++◌, length, Contains, Option, Some, None}
use Rattle.nfs_types.specs.declared.mode.Mode.TheVariants as modes
use Rattle.world_model.specs.declared.answer.Value.TheVariants as values
use Rattle.world_model.specs.declared.entry.Entry.{Entry}
use Rattle.world_model.specs.declared.op.Op.TheVariants as ops
use Rattle.world_model.specs.Follows.{marks_of}
use Rattle.copy_targets.specs.declared.target.Took.{Took}
use Rattle.copy_targets.specs.Files.{File, files_in}
use Rattle.law_copies.specs.Copied.{Done, done_marks}

-- a piece was read at this offset
pub record IsPieceAt (at : ℕ) (piece : List ℕ) (d : Done) : Type 0 where
  pub op : d.op ≡ ops.Read 1 at 65536
  pub value : d.value ≡ values.Bytes piece

-- Pieces were read one behind the other, each but the last of 65,536 bytes, and the last one of fewer: so the end was seen.
abbrev pub AreReads : ℕ → List (List ℕ) → List Done → Type 0
AreReads at [] ds = ⊥
AreReads at (piece ∷ pieces) [] = ⊥
AreReads at (piece ∷ []) (d ∷ []) = IsPieceAt at piece d × (length piece < 65536)
AreReads at (piece ∷ []) (d ∷ e ∷ ds) = ⊥
AreReads at (piece ∷ next ∷ pieces) (d ∷ ds) = IsPieceAt at piece d × (length piece ≡ 65536) × AreReads (at + 65536) (next ∷ pieces) ds

-- A file of these pieces was read at the path: in one lane, and without anything in between, it was opened and read from its beginning to its end, and each of
-- these operations succeeded.
pub record Fetched (h : List Entry) (path : List (List ℕ)) (pieces : List (List ℕ)) : Type 0 where
  pub lane : ℕ
  pub earlier : List Entry
  pub opened : Done
  pub reads : List Done
  pub later : List Entry
  pub opens : opened.op ≡ ops.OpenFile 1 modes.R path
  pub are : AreReads 0 pieces reads
  pub marks : marks_of lane h ≡ earlier ++ (done_marks lane (opened ∷ reads) ++ later)

-- what holds of what a target took, if it tells
abbrev pub IfTold : Option (List Took) → (List Took → Type 0) → Type 0
IfTold None P = Unit {0}
IfTold (Some took) P = P took

-- Each file that the target took whole was read so from its place below this path: each of its bytes is one that a READ or the cache showed.
abbrev pub AllFetched : List (List ℕ) → List Took → List Entry → Type 0
AllFetched from took h = (file : File) → Contains (files_in took) file → Fetched h (from ++ file.path) file.pieces
