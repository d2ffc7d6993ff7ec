-- Which files a tree gave.
use Rattle.std.specs.Prelude.{ℕ, List, [], ◌∷◌, ◌++◌, Option, Some, None}
use Rattle.file_trees.specs.declared.item.Node.{Node}
use Rattle.file_trees.specs.declared.item.Node.TheVariants as nodes
use Rattle.file_trees.specs.declared.item.Piece.{Piece}
use Rattle.file_trees.specs.declared.item.Piece.TheVariants as pieces
use Rattle.file_trees.specs.declared.tree.Given.{Given}
use Rattle.file_trees.specs.declared.tree.Given.TheVariants as gives

-- a file: its path and its bytes, in the pieces in which they came
pub record File : Type 0 where
  pub path : List (List ℕ)
  pub pieces : List (List ℕ)

-- the files that came whole, and the one whose bytes come
pub record Came : Type 0 where
  pub whole : List File
  pub now : Option File

-- A path is given: what was left of the file before it doesn't come.
abbrev pub with_node : Node → List (List ℕ) → Came → Came
with_node nodes.File path came = record { whole = came.whole; now = Some (record { path = path; pieces = [] }) }
with_node nodes.Folder path came = record { whole = came.whole; now = None }
with_node (nodes.Link target) path came = record { whole = came.whole; now = None }
with_node nodes.Other path came = record { whole = came.whole; now = None }
with_node (nodes.Unread error) path came = record { whole = came.whole; now = None }

abbrev pub with_bytes : Option File → List ℕ → Option File
with_bytes None bytes = None
with_bytes (Some file) bytes = Some (record { path = file.path; pieces = file.pieces ++ bytes ∷ [] })

abbrev pub with_end : Option File → List File → List File
with_end None whole = whole
with_end (Some file) whole = whole ++ file ∷ []

abbrev pub with_piece : Piece → Came → Came
with_piece (pieces.Bytes bytes) came = record { whole = came.whole; now = with_bytes came.now bytes }
with_piece pieces.End came = record { whole = with_end came.now came.whole; now = None }
with_piece (pieces.Cut cut) came = record { whole = came.whole; now = None }

abbrev pub with_one : Given → Came → Came
with_one (gives.Item item) came = with_node item.node item.path came
with_one (gives.Piece piece) came = with_piece piece came

-- what came after this, too
abbrev pub came_after : Came → List Given → Came
came_after came [] = came
came_after came (g ∷ given) = came_after (with_one g came) given

-- the files that a tree gave whole
abbrev pub files_in : List Given → List File
files_in given = (came_after (record { whole = []; now = None }) given).whole
