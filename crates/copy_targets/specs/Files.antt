-- Which files a target took.
use Rattle.std.specs.Prelude.{ℕ, List, [], ◌∷◌, ◌++◌, Option, Some, None}
use Rattle.copy_targets.specs.declared.target.Took.{Took}
use Rattle.copy_targets.specs.declared.target.Took.TheVariants as took

-- a file: its path and its bytes, in the pieces in which they came
pub record File : Type 0 where
  pub path : List (List ℕ)
  pub pieces : List (List ℕ)

-- the files that stand at their paths, and the one whose bytes come
pub record Taken : Type 0 where
  pub whole : List File
  pub now : Option File

abbrev pub with_piece : List ℕ → Option File → Option File
with_piece bytes None = None
with_piece bytes (Some file) = Some (record { path = file.path; pieces = file.pieces ++ bytes ∷ [] })

abbrev pub with_end : Option File → List File → List File
with_end None whole = whole
with_end (Some file) whole = whole ++ file ∷ []

abbrev pub with_one : Took → Taken → Taken
with_one (took.Folder path) t = t
with_one (took.Link path text) t = t
with_one (took.File path) t = record { whole = t.whole; now = Some (record { path = path; pieces = [] }) }
with_one (took.Piece bytes) t = record { whole = t.whole; now = with_piece bytes t.now }
with_one took.End t = record { whole = with_end t.now t.whole; now = None }

abbrev pub taken_after : Taken → List Took → Taken
taken_after t [] = t
taken_after t (one ∷ all) = taken_after (with_one one t) all

-- the files that a target took whole
abbrev pub files_in : List Took → List File
files_in all = (taken_after (record { whole = []; now = None }) all).whole
