-- When a call is refused, and with which status: the first of these lines that holds (RFC 1813, section 2.6, nfsstat3).
-- No line holds: 0.
use Rattle.std.specs.Prelude.{◌+◌, ◌&&◌, ◌||◌, not, ℕ, Bool, true, false, List, [], ◌∷◌, length, Option, Some, None, is_some, is_none, nat_lt, ◌==◌, if◌then◌else◌}
use Rattle.nfs_types.specs.declared.set_attr.SetAttr.{SetAttr}
use Rattle.nfs_types.specs.declared.set_attr.SetTime.{SetTime}
use Rattle.nfs_types.specs.declared.set_attr.SetTime.TheVariants.{Keep, Server, Client}
use Rattle.nfs_types.specs.declared.time.Time.{Time}
use Rattle.nfs_file_calls.specs.declared.call.FileCall.{FileCall}
use Rattle.nfs_file_calls.specs.declared.call.FileCall.TheVariants as files
use Rattle.nfs_dir_calls.specs.declared.call.DirCall.{DirCall}
use Rattle.nfs_dir_calls.specs.declared.call.DirCall.TheVariants as dirs
use Rattle.nfs_dir_calls.specs.declared.create.Making.{Making}
use Rattle.nfs_dir_calls.specs.declared.create.Making.TheVariants as makings
use Rattle.export_fs.specs.declared.node.Node.{Node}
use Rattle.export_fs.specs.Held.{Row}
use Rattle.export_fs.specs.View.{View}
use Rattle.export_fs.specs.Parts.{last_number, most_size, place_of, object, at_place, kind, kind_at, rows_in, last_in}
use Rattle.export_fs.specs.Names.{is_own_name, named, is_below}

-- ---- lines on file handles

-- 10001, BADHANDLE: a file handle isn't of 8 bytes
abbrev pub is_bad : List ℕ → Bool
is_bad h = not (length h == 8)

-- 70, STALE: no object has that number, or its last name was removed
abbrev pub is_stale : List Node → List ℕ → Bool
is_stale nodes h = is_none (object nodes h)

-- ---- lines of calls on files

abbrev pub file_of : FileCall → Option (List ℕ)
file_of files.Null = None
file_of (files.GetAttr file) = Some file
file_of (files.SetAttr file set guard) = Some file
file_of (files.Access file bits) = Some file
file_of (files.Read file offset count) = Some file
file_of (files.Write file offset how bytes) = Some file
file_of (files.FsStat file) = Some file
file_of (files.FsInfo file) = Some file
file_of (files.PathConf file) = Some file
file_of (files.Commit file offset count) = Some file

-- READ, WRITE, COMMIT and a size of SETATTR are for files: of a directory they are 21, ISDIR, and of a link 22, INVAL
abbrev pub needs_file : FileCall → Bool
needs_file (files.SetAttr file set guard) = is_some set.size
needs_file (files.Read file offset count) = true
needs_file (files.Write file offset how bytes) = true
needs_file (files.Commit file offset count) = true
needs_file call = false

-- 10002, NOT_SYNC: the guard of SETATTR differs from the ctime
abbrev pub is_other_time : Option Node → Time → Bool
is_other_time None guard = false
is_other_time (Some node) guard = not ((node.ctime == guard.seconds) && (guard.nanos == 0))

abbrev pub is_out_of_sync : List Node → FileCall → Bool
is_out_of_sync nodes (files.SetAttr file set (Some guard)) = is_other_time (object nodes file) guard
is_out_of_sync nodes call = false

-- 27, FBIG: a WRITE or a size would end past the most bytes
abbrev pub is_size_too_big : Option ℕ → Bool
is_size_too_big None = false
is_size_too_big (Some size) = nat_lt most_size size

abbrev pub is_too_big : FileCall → Bool
is_too_big (files.SetAttr file set guard) = is_size_too_big set.size
is_too_big (files.Write file offset how bytes) = nat_lt most_size (offset + length bytes)
is_too_big call = false

-- 28, NOSPC: WRITE and SETATTR are changes, and there is no number left
abbrev pub changes_file : FileCall → Bool
changes_file (files.SetAttr file set guard) = true
changes_file (files.Write file offset how bytes) = true
changes_file call = false

abbrev pub is_full : View → Bool
is_full view = not (nat_lt view.counter last_number)

abbrev pub refusal_on : View → FileCall → List ℕ → ℕ
refusal_on view call file =
    if is_bad file then 10001 else
    if is_stale view.nodes file then 70 else
    if needs_file call && (kind view.nodes file == 2) then 21 else
    if needs_file call && (kind view.nodes file == 5) then 22 else
    if is_out_of_sync view.nodes call then 10002 else
    if is_too_big call then 27 else
    if changes_file call && is_full view then 28 else 0

abbrev pub file_refusal : View → FileCall → ℕ
file_refusal view call = elim (file_of call) [ None ↦ 0 | Some file ↦ refusal_on view call file ]

-- ---- lines of calls on directories and names

-- the directory, or READLINK's link
abbrev pub dir_of : DirCall → List ℕ
dir_of (dirs.Lookup dir name) = dir
dir_of (dirs.ReadLink file) = file
dir_of (dirs.Create dir name making) = dir
dir_of (dirs.MkDir dir name set) = dir
dir_of (dirs.SymLink dir name set target) = dir
dir_of (dirs.MkNod dir name node) = dir
dir_of (dirs.Remove dir name) = dir
dir_of (dirs.RmDir dir name) = dir
dir_of (dirs.Rename dir name to_dir to) = dir
dir_of (dirs.Link file dir name) = dir
dir_of (dirs.ReadDir dir cookie verf count) = dir
dir_of (dirs.ReadDirPlus dir cookie verf dircount maxcount) = dir

-- the second file handle: RENAME's second directory and LINK's file. Other calls have one file handle, which is given
-- again.
abbrev pub other_of : DirCall → List ℕ
other_of (dirs.Rename dir name to_dir to) = to_dir
other_of (dirs.Link file dir name) = file
other_of call = dir_of call

abbrev pub is_dir : List Node → List ℕ → Bool
is_dir nodes h = kind nodes h == 2

-- 20, NOTDIR: a directory is needed and the object is another kind
abbrev pub is_named_no_dir : List Node → List ℕ → List ℕ → Bool
is_named_no_dir nodes dir name = is_some (named nodes dir name) && not (kind_at nodes (named nodes dir name) == 2)

abbrev pub is_no_dir : List Node → DirCall → Bool
is_no_dir nodes (dirs.ReadLink file) = false
is_no_dir nodes (dirs.RmDir dir name) = not (is_dir nodes dir) || is_named_no_dir nodes dir name
is_no_dir nodes (dirs.Rename dir name to_dir to) = not (is_dir nodes dir) || not (is_dir nodes to_dir)
is_no_dir nodes call = not (is_dir nodes (dir_of call))

-- 21, ISDIR: REMOVE or LINK names a directory
abbrev pub is_a_dir : List Node → DirCall → Bool
is_a_dir nodes (dirs.Remove dir name) = kind_at nodes (named nodes dir name) == 2
is_a_dir nodes (dirs.Link file dir name) = is_dir nodes file
is_a_dir nodes call = false

-- 22, INVAL: READLINK of another kind than a link; RENAME of a directory into itself or below itself
abbrev pub goes_below : List Node → Option ℕ → Option ℕ → Bool
goes_below nodes (Some moved) (Some to_dir) = (kind_at nodes (Some moved) == 2) && is_below (length nodes) nodes moved to_dir
goes_below nodes moved to_dir = false

abbrev pub is_invalid : List Node → DirCall → Bool
is_invalid nodes (dirs.ReadLink file) = not (kind nodes file == 5)
is_invalid nodes (dirs.Rename dir name to_dir to) = goes_below nodes (named nodes dir name) (place_of to_dir)
is_invalid nodes call = false

-- 10004, NOTSUPP: CREATE EXCLUSIVE, MKNOD, READDIR
abbrev pub is_unsupported : DirCall → Bool
is_unsupported (dirs.Create dir name (makings.Exclusive verf)) = true
is_unsupported (dirs.MkNod dir name node) = true
is_unsupported (dirs.ReadDir dir cookie verf count) = true
is_unsupported call = false

-- 2, NOENT: the name to look up, remove or rename isn't there
abbrev pub is_missing : List Node → DirCall → Bool
is_missing nodes (dirs.Lookup dir name) = is_none (named nodes dir name)
is_missing nodes (dirs.Remove dir name) = is_none (named nodes dir name)
is_missing nodes (dirs.RmDir dir name) = is_none (named nodes dir name)
is_missing nodes (dirs.Rename dir name to_dir to) = is_none (named nodes dir name)
is_missing nodes call = false

-- 17, EXIST: the name to make is there, or is `.` or `..`; CREATE UNCHECKED over another kind than a file; RENAME over
-- an object if one of the two is a directory and the other isn't
abbrev pub is_taken : List Node → List ℕ → List ℕ → Bool
is_taken nodes dir name = is_own_name name || is_some (named nodes dir name)

abbrev pub is_no_file : List Node → Option ℕ → Bool
is_no_file nodes place = is_some place && not (kind_at nodes place == 1)

abbrev pub is_one_a_dir : List Node → Option ℕ → Option ℕ → Bool
is_one_a_dir nodes moved target =
    if is_none target then false else if kind_at nodes moved == 2 then not (kind_at nodes target == 2) else kind_at nodes target == 2

abbrev pub is_made : List Node → List ℕ → List ℕ → Making → Bool
is_made nodes dir name (makings.Unchecked set) = is_own_name name || is_no_file nodes (named nodes dir name)
is_made nodes dir name (makings.Guarded set) = is_taken nodes dir name
is_made nodes dir name (makings.Exclusive verf) = false

abbrev pub exists : List Node → DirCall → Bool
exists nodes (dirs.Create dir name making) = is_made nodes dir name making
exists nodes (dirs.MkDir dir name set) = is_taken nodes dir name
exists nodes (dirs.SymLink dir name set target) = is_taken nodes dir name
exists nodes (dirs.Link file dir name) = is_taken nodes dir name
exists nodes (dirs.Rename dir name to_dir to) = is_own_name to || is_one_a_dir nodes (named nodes dir name) (named nodes to_dir to)
exists nodes call = false

-- 66, NOTEMPTY: RMDIR of, or RENAME of another object over, a directory that isn't empty
abbrev pub is_filled : List Row → Bool
is_filled [] = false
is_filled (row ∷ rows) = true

abbrev pub same_place : Option ℕ → Option ℕ → Bool
same_place (Some a) (Some b) = a == b
same_place a b = false

abbrev pub is_filled_at : List Node → Option ℕ → Bool
is_filled_at nodes place = is_filled (rows_in (at_place nodes place))

abbrev pub is_not_empty : List Node → DirCall → Bool
is_not_empty nodes (dirs.RmDir dir name) = is_filled_at nodes (named nodes dir name)
is_not_empty nodes (dirs.Rename dir name to_dir to) =
    not (same_place (named nodes dir name) (named nodes to_dir to)) && is_filled_at nodes (named nodes to_dir to)
is_not_empty nodes call = false

-- 27, FBIG: the size of a CREATE would end past the most bytes
abbrev pub is_making_too_big : Making → Bool
is_making_too_big (makings.Unchecked set) = is_size_too_big set.size
is_making_too_big (makings.Guarded set) = is_size_too_big set.size
is_making_too_big (makings.Exclusive verf) = false

abbrev pub is_made_too_big : DirCall → Bool
is_made_too_big (dirs.Create dir name making) = is_making_too_big making
is_made_too_big call = false

-- 10003, BAD_COOKIE: a cookie other than 0 that the directory never gave
abbrev pub last_cookie : List Node → List ℕ → ℕ
last_cookie nodes dir = last_in (object nodes dir)

abbrev pub is_bad_cookie : List Node → DirCall → Bool
is_bad_cookie nodes (dirs.ReadDirPlus dir cookie verf dircount maxcount) = nat_lt (last_cookie nodes dir) cookie
is_bad_cookie nodes call = false

-- 28, NOSPC: the call is a change, and there is no number left. A CREATE UNCHECKED that sets nothing of a file that is
-- there, and a RENAME whose two names are of one object, change nothing.
abbrev pub is_kept : SetTime → Bool
is_kept Keep = true
is_kept Server = false
is_kept (Client time) = false

abbrev pub sets_nothing : SetAttr → Bool
sets_nothing set = is_none set.mode && is_none set.uid && is_none set.gid && is_none set.size && is_kept set.atime && is_kept set.mtime

abbrev pub is_making : List Node → List ℕ → List ℕ → Making → Bool
is_making nodes dir name (makings.Unchecked set) = is_none (named nodes dir name) || not (sets_nothing set)
is_making nodes dir name (makings.Guarded set) = true
is_making nodes dir name (makings.Exclusive verf) = false

abbrev pub changes : List Node → DirCall → Bool
changes nodes (dirs.Create dir name making) = is_making nodes dir name making
changes nodes (dirs.MkDir dir name set) = true
changes nodes (dirs.SymLink dir name set target) = true
changes nodes (dirs.Remove dir name) = true
changes nodes (dirs.RmDir dir name) = true
changes nodes (dirs.Rename dir name to_dir to) = not (same_place (named nodes dir name) (named nodes to_dir to))
changes nodes (dirs.Link file dir name) = true
changes nodes call = false

-- 63, NAMETOOLONG: the text of a new link has more than 1,024 bytes, which no record spells (RFC 1813, section 3.3.10).
-- Each other line comes before it.
abbrev pub is_text_too_long : DirCall → Bool
is_text_too_long (dirs.SymLink dir name set target) = nat_lt 1024 (length target)
is_text_too_long call = false

abbrev pub dir_refusal : View → DirCall → ℕ
dir_refusal view call =
    if is_bad (dir_of call) || is_bad (other_of call) then 10001 else
    if is_stale view.nodes (dir_of call) || is_stale view.nodes (other_of call) then 70 else
    if is_no_dir view.nodes call then 20 else
    if is_a_dir view.nodes call then 21 else
    if is_invalid view.nodes call then 22 else
    if is_unsupported call then 10004 else
    if is_missing view.nodes call then 2 else
    if exists view.nodes call then 17 else
    if is_not_empty view.nodes call then 66 else
    if is_made_too_big call then 27 else
    if is_bad_cookie view.nodes call then 10003 else
    if changes view.nodes call && is_full view then 28 else
    if is_text_too_long call then 63 else 0
