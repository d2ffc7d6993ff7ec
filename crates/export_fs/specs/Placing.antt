-- Objects that are placed in the export by hand, before it is used.
use Rattle.std.specs.Prelude.{◌-◌, ◌&&◌, not, ℕ, Bool, List, [], ◌∷◌, length, take, Option, Some, None, is_none, slice_get, ◌==◌, if◌then◌else◌}
use Rattle.world_model.specs.NameService.{keeps_all}
use Rattle.export_fs.specs.declared.node.Node.{Node}
use Rattle.export_fs.specs.View.{View}
use Rattle.export_fs.specs.Parts.{kind_at}
use Rattle.export_fs.specs.Names.{is_own_name, named_at}
use Rattle.export_fs.specs.Refusals.{is_full}
use Rattle.export_fs.specs.Changes.{made, file_of, new_dir}
use Rattle.export_fs.specs.After.{next, after_making_at}

-- the place to which the names lead from a place
abbrev pub walked : List Node → Option ℕ → List (List ℕ) → Option ℕ
walked nodes place [] = place
walked nodes place (name ∷ names) = walked nodes (named_at nodes place name) names

-- a file that is there with these bytes, all of them stable, or a directory
abbrev pub new_object : ℕ → ℕ → Option (List ℕ) → Node
new_object parent number None = new_dir parent number keeps_all
new_object parent number (Some bytes) = made 420 1 number keeps_all (file_of (record { bytes = bytes; stable = bytes }))

-- it gets that name in the directory at a place
abbrev pub after_placing : View → ℕ → List ℕ → Option (List ℕ) → View
after_placing view dir name file = after_making_at view (Some dir) name (new_object dir (next view) file)

-- there is a directory, which lacks the name, the name isn't `.` or `..`, and a number is left
abbrev pub may_place : View → ℕ → List ℕ → Bool
may_place view dir name = (kind_at view.nodes (Some dir) == 2) && not (is_own_name name) && is_none (named_at view.nodes (Some dir) name) && not (is_full view)

abbrev pub placed_in : View → List ℕ → Option (List ℕ) → Option ℕ → Option View
placed_in view name file None = None
placed_in view name file (Some dir) = if may_place view dir name then Some (after_placing view dir name file) else None

abbrev pub placed_last : View → List (List ℕ) → Option (List ℕ) → Option (List ℕ) → Option View
placed_last view front None file = None
placed_last view front (Some name) file = placed_in view name file (walked view.nodes (Some 0) front)

-- The export with an object at the end of the path, and None if it can't be placed: the path is the root, or the way
-- to its last name leads nowhere, or the object can't be placed there.
abbrev pub placed : View → List (List ℕ) → Option (List ℕ) → Option View
placed view path file = placed_last view (take (length path - 1) path) (slice_get path (length path - 1)) file
