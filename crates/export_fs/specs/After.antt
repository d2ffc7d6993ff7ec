-- What the export is after a call that isn't refused (RFC 1813, section 3.3).
use Rattle.std.specs.Prelude.{◌+◌, ℕ, List, [], ◌∷◌, ◌++◌, length, Option, Some, None, if◌then◌else◌}
use Rattle.nfs_types.specs.declared.set_attr.SetAttr.{SetAttr}
use Rattle.nfs_file_calls.specs.declared.call.FileCall.{FileCall}
use Rattle.nfs_file_calls.specs.declared.call.FileCall.TheVariants as files
use Rattle.nfs_dir_calls.specs.declared.call.DirCall.{DirCall}
use Rattle.nfs_dir_calls.specs.declared.call.DirCall.TheVariants as dirs
use Rattle.nfs_dir_calls.specs.declared.create.Making.{Making}
use Rattle.nfs_dir_calls.specs.declared.create.Making.TheVariants as makings
use Rattle.export_fs.specs.declared.node.Node.{Node}
use Rattle.export_fs.specs.View.{View}
use Rattle.export_fs.specs.Parts.{place_of}
use Rattle.export_fs.specs.Names.{named}
use Rattle.export_fs.specs.Refusals.{sets_nothing, same_place}
use Rattle.export_fs.specs.Changes.{changed, new_file, new_dir, new_link, with_set, written, committed, entered, left, unnamed, removed, linked, moved}

-- the number of the next change
abbrev pub next : View → ℕ
next view = view.counter + 1

-- the objects are those, and a number is taken
abbrev pub takes : View → List Node → View
takes view nodes = record view { nodes = nodes; counter = next view }

-- the object at a place is changed, if one is given
abbrev pub changed_at : (Node → Node) → Option ℕ → List Node → List Node
changed_at change None nodes = nodes
changed_at change (Some place) nodes = changed change place nodes

-- ---- calls on files

-- SETATTR, section 3.3.2
abbrev pub after_set_attr : View → Option ℕ → SetAttr → View
after_set_attr view place set = takes view (changed_at (with_set (next view) set) place view.nodes)

-- WRITE, section 3.3.7
abbrev pub after_write : View → List ℕ → ℕ → ℕ → List ℕ → View
after_write view file offset how bytes = takes view (changed_at (written (next view) offset how bytes) (place_of file) view.nodes)

-- COMMIT, section 3.3.21, is no change of the file
abbrev pub after_commit : View → List ℕ → ℕ → ℕ → View
after_commit view file offset count = record view { nodes = changed_at (committed offset count) (place_of file) view.nodes }

abbrev pub after_file : View → FileCall → View
after_file view (files.SetAttr file set guard) = after_set_attr view (place_of file) set
after_file view (files.Write file offset how bytes) = after_write view file offset how bytes
after_file view (files.Commit file offset count) = after_commit view file offset count
after_file view call = view

-- ---- calls on directories and names

-- an object at a place gets a name in the directory
abbrev pub enters : View → List ℕ → List ℕ → ℕ → List Node → List Node
enters view dir name place nodes = changed_at (entered (next view) name place) (place_of dir) nodes

-- a name leaves the directory
abbrev pub leaves : View → List ℕ → List ℕ → List Node → List Node
leaves view dir name nodes = changed_at (left (next view) name) (place_of dir) nodes

-- a new object, the last in order of making, gets a name in the directory
abbrev pub after_making_at : View → Option ℕ → List ℕ → Node → View
after_making_at view dir name node = takes view (changed_at (entered (next view) name (length view.nodes)) dir (view.nodes ++ node ∷ []))

abbrev pub after_making : View → List ℕ → List ℕ → Node → View
after_making view dir name node = after_making_at view (place_of dir) name node

abbrev pub after_file_made : View → List ℕ → List ℕ → SetAttr → View
after_file_made view dir name set = after_making view dir name (new_file (next view) set)

-- CREATE, section 3.3.8: a file that is there is only given what is to be set
abbrev pub after_meeting : View → ℕ → SetAttr → View
after_meeting view place set = if sets_nothing set then view else after_set_attr view (Some place) set

abbrev pub after_unchecked : View → List ℕ → List ℕ → SetAttr → Option ℕ → View
after_unchecked view dir name set None = after_file_made view dir name set
after_unchecked view dir name set (Some place) = after_meeting view place set

abbrev pub after_create : View → List ℕ → List ℕ → Making → View
after_create view dir name (makings.Unchecked set) = after_unchecked view dir name set (named view.nodes dir name)
after_create view dir name (makings.Guarded set) = after_file_made view dir name set
after_create view dir name (makings.Exclusive verf) = view

-- the place of a directory, or that of the root
abbrev pub place_or_root : List ℕ → ℕ
place_or_root dir = elim (place_of dir) [ None ↦ 0 | Some place ↦ place ]

-- MKDIR, section 3.3.9
abbrev pub after_mkdir : View → List ℕ → List ℕ → SetAttr → View
after_mkdir view dir name set = after_making view dir name (new_dir (place_or_root dir) (next view) set)

-- SYMLINK, section 3.3.10
abbrev pub after_symlink : View → List ℕ → List ℕ → SetAttr → List ℕ → View
after_symlink view dir name set target = after_making view dir name (new_link target (next view) set)

-- REMOVE and RMDIR, sections 3.3.12 and 3.3.13
abbrev pub after_remove : View → List ℕ → List ℕ → View
after_remove view dir name = takes view (changed_at (removed (next view)) (named view.nodes dir name) (leaves view dir name view.nodes))

-- RENAME, section 3.3.14: the new name enters, the old one leaves, what had the new name loses it, and a directory
-- that moves has another one above it
abbrev pub after_moving : View → List ℕ → List ℕ → List ℕ → List ℕ → Option ℕ → ℕ → View
after_moving view dir name to_dir to target place =
    takes view (changed (moved (place_or_root to_dir)) place (changed_at unnamed target (leaves view dir name (enters view to_dir to place view.nodes))))

-- two names of one object stay
abbrev pub after_rename_of : View → List ℕ → List ℕ → List ℕ → List ℕ → Option ℕ → Option ℕ → View
after_rename_of view dir name to_dir to target None = view
after_rename_of view dir name to_dir to target (Some place) = if same_place (Some place) target then view else after_moving view dir name to_dir to target place

abbrev pub after_rename : View → List ℕ → List ℕ → List ℕ → List ℕ → View
after_rename view dir name to_dir to = after_rename_of view dir name to_dir to (named view.nodes to_dir to) (named view.nodes dir name)

-- LINK, section 3.3.15
abbrev pub after_linking_at : View → List ℕ → List ℕ → ℕ → View
after_linking_at view dir name place = takes view (changed (linked (next view)) place (enters view dir name place view.nodes))

abbrev pub after_linking : View → List ℕ → List ℕ → Option ℕ → View
after_linking view dir name None = view
after_linking view dir name (Some place) = after_linking_at view dir name place

abbrev pub after_dir : View → DirCall → View
after_dir view (dirs.Create dir name making) = after_create view dir name making
after_dir view (dirs.MkDir dir name set) = after_mkdir view dir name set
after_dir view (dirs.SymLink dir name set target) = after_symlink view dir name set target
after_dir view (dirs.Remove dir name) = after_remove view dir name
after_dir view (dirs.RmDir dir name) = after_remove view dir name
after_dir view (dirs.Rename dir name to_dir to) = after_rename view dir name to_dir to
after_dir view (dirs.Link file dir name) = after_linking view dir name (place_of file)
after_dir view call = view
