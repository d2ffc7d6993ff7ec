-- What the files that a tree gives become as lines.
use Rattle.std.specs.Prelude.{ℕ, List, [], ◌∷◌, ◌++◌, All, map, None}
use Rattle.world_model.specs.declared.entry.Entry.{Entry}
use Rattle.world_model.specs.declared.entry.Entry.TheVariants.{Began}
use Rattle.nfs_script.specs.declared.script.ScriptLine.{ScriptLine}
use Rattle.nfs_script.specs.Asked.{IsFrom}
use Rattle.file_trees.specs.declared.item.Node.{Node}
use Rattle.file_trees.specs.declared.item.Node.TheVariants as nodes
use Rattle.file_trees.specs.declared.item.Piece.{Piece}
use Rattle.file_trees.specs.declared.item.Piece.TheVariants as pieces
use Rattle.file_trees.specs.declared.tree.Given.{Given}
use Rattle.file_trees.specs.declared.tree.Given.TheVariants as gives
use Rattle.file_trees.specs.Files.{File, files_in}
use Rattle.law_copies.specs.Copied.{AsksForCopy}
use Rattle.copy_plan.specs.Files.{FilesView, begins, ends, writes}

-- a file at this path is begun; folders, links and others have no lines here
abbrev pub plan_node : Node → List (List ℕ) → FilesView → FilesView
plan_node nodes.File path v = begins path v
plan_node nodes.Folder path v = v
plan_node (nodes.Link target) path v = v
plan_node nodes.Other path v = v
plan_node (nodes.Unread error) path v = v

-- a file goes on, or it is closed: also if not all of it came
abbrev pub plan_piece : Piece → FilesView → FilesView
plan_piece (pieces.Bytes bytes) v = writes bytes v
plan_piece pieces.End v = ends v
plan_piece (pieces.Cut cut) v = ends v

abbrev pub plan_one : List (List ℕ) → Given → FilesView → FilesView
plan_one to (gives.Item item) v = plan_node item.node (to ++ item.path) v
plan_one to (gives.Piece piece) v = plan_piece piece v

-- all that a tree gave goes below this path
abbrev pub plan_of : List (List ℕ) → List Given → FilesView → FilesView
plan_of to [] v = v
plan_of to (g ∷ given) v = plan_of to given (plan_one to g v)

-- no line so far
abbrev pub no_files : FilesView
no_files = record { all = record { lines = []; next = 1 }; lane = 15; at = None }

-- the entries that begin these lines
abbrev pub beginnings : List ScriptLine → List Entry
beginnings lines = map (λ (l : ScriptLine). Began l.lane l.line l.op) lines

-- one of the lanes of files is asked for the operations that copy the file below this path, one behind the other
pub record IsAskedFor (to : List (List ℕ)) (lines : List ScriptLine) (file : File) : Type 0 where
  pub lane : ℕ
  pub within : IsFrom 1 15 lane
  pub asks : AsksForCopy (beginnings lines) lane (to ++ file.path) file.pieces

-- Of each file that a tree gave whole, a lane is asked for the operations that copy it.
abbrev pub FilesAreAsked : Type 0
FilesAreAsked = (to : List (List ℕ)) (given : List Given) → All (IsAskedFor to (plan_of to given no_files).all.lines) (files_in given)
