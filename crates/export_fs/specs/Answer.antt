-- What a call is answered (RFC 1813, section 3.3): done, with the objects before and after it, or refused.
use Rattle.std.specs.Prelude.{◌+◌, ℕ, true, false, min, List, [], ◌∷◌, length, replicate, Option, Some, None, nat_le, ◌==◌, if◌then◌else◌}
use Rattle.std.specs.Str.{bytes_eq}
use Rattle.nfs_types.specs.declared.attr.Attr.{Attr}
use Rattle.nfs_types.specs.declared.status.Status.{Status}
use Rattle.nfs_types.specs.declared.verf.Verf.{Verf}
use Rattle.mount_calls.specs.declared.call.MountCall.{MountCall}
use Rattle.mount_calls.specs.declared.call.MountCall.TheVariants as mounts
use Rattle.mount_calls.specs.declared.reply.MountReply.{MountReply}
use Rattle.mount_calls.specs.declared.reply.MountReply.TheVariants as mounted
use Rattle.nfs_file_calls.specs.declared.call.FileCall.{FileCall}
use Rattle.nfs_file_calls.specs.declared.call.FileCall.TheVariants as files
use Rattle.nfs_file_calls.specs.declared.owned.FileKept.{FileKept}
use Rattle.nfs_file_calls.specs.declared.owned.FileKept.TheVariants as kept
use Rattle.nfs_dir_calls.specs.declared.call.DirCall.{DirCall}
use Rattle.nfs_dir_calls.specs.declared.call.DirCall.TheVariants as dirs
use Rattle.nfs_dir_calls.specs.declared.keeping.DirKept.{DirKept}
use Rattle.nfs_dir_calls.specs.declared.keeping.DirKept.TheVariants as found
use Rattle.world_model.specs.Bytes.{part}
use Rattle.export_fs.specs.declared.node.Node.{Node}
use Rattle.export_fs.specs.Held.{Row}
use Rattle.export_fs.specs.View.{View}
use Rattle.export_fs.specs.Parts.{handle_of, object, bytes_in, text_in, rows_in, second, attr, attr_at, wcc, verifier}
use Rattle.export_fs.specs.Names.{named}
use Rattle.export_fs.specs.Pages.{rows_after, page_of, most_page}

abbrev pub status : ℕ → Status
status number = record { 0 = number }

-- ---- calls on files

-- GETATTR, section 3.3.1; no attributes are shown of an object that isn't there
abbrev pub get_attr_answer : Option Attr → FileKept
get_attr_answer None = kept.GetAttrFail (status 70)
get_attr_answer (Some a) = kept.GetAttr a

-- READ, section 3.3.6: what is there up to the count and 65,536 bytes
abbrev pub read_bytes : List Node → List ℕ → ℕ → ℕ → List ℕ
read_bytes nodes file offset count = part offset (min count 65536) (bytes_in (object nodes file))

abbrev pub read_answer : List Node → List ℕ → ℕ → List ℕ → FileKept
read_answer nodes file offset bytes = kept.Read (attr nodes file) (length bytes) (nat_le (length (bytes_in (object nodes file))) (offset + length bytes)) bytes

-- FSSTAT, section 3.3.18: one gibibyte, and 65,536 files
abbrev pub fs_stat_answer : Option Attr → FileKept
fs_stat_answer a = kept.FsStat a 1073741824 1073741824 1073741824 65536 65536 65536 0

-- FSINFO, section 3.3.19: links, symbolic links and times that can be set, and one second between times
abbrev pub fs_info_answer : Option Attr → FileKept
fs_info_answer a = kept.FsInfo a 65536 65536 4096 65536 65536 4096 32768 16777216 (second 1) 11

-- PATHCONF, section 3.3.20
abbrev pub path_conf_answer : Option Attr → FileKept
path_conf_answer a = kept.PathConf a 1000 255 true true false true

abbrev pub file_answer : View → View → FileCall → FileKept
file_answer old new files.Null = kept.Null
file_answer old new (files.GetAttr file) = get_attr_answer (attr new.nodes file)
file_answer old new (files.SetAttr file set guard) = kept.SetAttr (wcc old.nodes new.nodes file)
file_answer old new (files.Access file bits) = kept.Access (attr new.nodes file) bits
file_answer old new (files.Read file offset count) = read_answer new.nodes file offset (read_bytes new.nodes file offset count)
file_answer old new (files.Write file offset how bytes) = kept.Write (wcc old.nodes new.nodes file) (length bytes) how (verifier new)
file_answer old new (files.FsStat file) = fs_stat_answer (attr new.nodes file)
file_answer old new (files.FsInfo file) = fs_info_answer (attr new.nodes file)
file_answer old new (files.PathConf file) = path_conf_answer (attr new.nodes file)
file_answer old new (files.Commit file offset count) = kept.Commit (wcc old.nodes new.nodes file) (verifier new)

-- refused: nothing changed
abbrev pub file_refused : List Node → ℕ → FileCall → FileKept
file_refused nodes number files.Null = kept.Null
file_refused nodes number (files.GetAttr file) = kept.GetAttrFail (status number)
file_refused nodes number (files.SetAttr file set guard) = kept.SetAttrFail (status number) (wcc nodes nodes file)
file_refused nodes number (files.Access file bits) = kept.AccessFail (status number) (attr nodes file)
file_refused nodes number (files.Read file offset count) = kept.ReadFail (status number) (attr nodes file)
file_refused nodes number (files.Write file offset how bytes) = kept.WriteFail (status number) (wcc nodes nodes file)
file_refused nodes number (files.FsStat file) = kept.FsStatFail (status number) (attr nodes file)
file_refused nodes number (files.FsInfo file) = kept.FsInfoFail (status number) (attr nodes file)
file_refused nodes number (files.PathConf file) = kept.PathConfFail (status number) (attr nodes file)
file_refused nodes number (files.Commit file offset count) = kept.CommitFail (status number) (wcc nodes nodes file)

-- ---- calls on directories and names

-- LOOKUP, section 3.3.3
abbrev pub lookup_answer : List Node → List ℕ → Option ℕ → DirKept
lookup_answer nodes dir None = found.LookupFail (status 2) (attr nodes dir)
lookup_answer nodes dir (Some place) = found.Lookup (handle_of place) (attr_at nodes (Some place)) (attr nodes dir)

-- READLINK, section 3.3.5
abbrev pub read_link_answer : List Node → List ℕ → Option (List ℕ) → DirKept
read_link_answer nodes file None = found.ReadLinkFail (status 22) (attr nodes file)
read_link_answer nodes file (Some text) = found.ReadLink (attr nodes file) text

-- the file handle of the object that has a place
abbrev pub found_handle : Option ℕ → Option (List ℕ)
found_handle None = None
found_handle (Some place) = Some (handle_of place)

-- READDIRPLUS, section 3.3.17, with a verifier of zeros
abbrev pub no_verifier : Verf
no_verifier = record { 0 = replicate 8 0 }

abbrev pub list_answer : List Node → List ℕ → ℕ → List Row → DirKept
list_answer nodes dir limit rows = found.ReadDirPlus (attr nodes dir) no_verifier (page_of nodes limit rows) (length (page_of nodes limit rows) == length rows)

-- refused: nothing changed
abbrev pub dir_refused : List Node → ℕ → DirCall → DirKept
dir_refused nodes number (dirs.Lookup dir name) = found.LookupFail (status number) (attr nodes dir)
dir_refused nodes number (dirs.ReadLink file) = found.ReadLinkFail (status number) (attr nodes file)
dir_refused nodes number (dirs.Create dir name making) = found.CreateFail (status number) (wcc nodes nodes dir)
dir_refused nodes number (dirs.MkDir dir name set) = found.MkDirFail (status number) (wcc nodes nodes dir)
dir_refused nodes number (dirs.SymLink dir name set target) = found.SymLinkFail (status number) (wcc nodes nodes dir)
dir_refused nodes number (dirs.MkNod dir name node) = found.MkNodFail (status number) (wcc nodes nodes dir)
dir_refused nodes number (dirs.Remove dir name) = found.RemoveFail (status number) (wcc nodes nodes dir)
dir_refused nodes number (dirs.RmDir dir name) = found.RmDirFail (status number) (wcc nodes nodes dir)
dir_refused nodes number (dirs.Rename dir name to_dir to) = found.RenameFail (status number) (wcc nodes nodes dir) (wcc nodes nodes to_dir)
dir_refused nodes number (dirs.Link file dir name) = found.LinkFail (status number) (attr nodes file) (wcc nodes nodes dir)
dir_refused nodes number (dirs.ReadDir dir cookie verf count) = found.ReadDirFail (status number) (attr nodes dir)
dir_refused nodes number (dirs.ReadDirPlus dir cookie verf dircount maxcount) = found.ReadDirPlusFail (status number) (attr nodes dir)

abbrev pub dir_answer : View → View → DirCall → DirKept
dir_answer old new (dirs.Lookup dir name) = lookup_answer new.nodes dir (named new.nodes dir name)
dir_answer old new (dirs.ReadLink file) = read_link_answer new.nodes file (text_in (object new.nodes file))
dir_answer old new (dirs.Create dir name making) =
    found.Create (found_handle (named new.nodes dir name)) (attr_at new.nodes (named new.nodes dir name)) (wcc old.nodes new.nodes dir)
dir_answer old new (dirs.MkDir dir name set) =
    found.MkDir (found_handle (named new.nodes dir name)) (attr_at new.nodes (named new.nodes dir name)) (wcc old.nodes new.nodes dir)
dir_answer old new (dirs.SymLink dir name set target) =
    found.SymLink (found_handle (named new.nodes dir name)) (attr_at new.nodes (named new.nodes dir name)) (wcc old.nodes new.nodes dir)
dir_answer old new (dirs.Remove dir name) = found.Remove (wcc old.nodes new.nodes dir)
dir_answer old new (dirs.RmDir dir name) = found.RmDir (wcc old.nodes new.nodes dir)
dir_answer old new (dirs.Rename dir name to_dir to) = found.Rename (wcc old.nodes new.nodes dir) (wcc old.nodes new.nodes to_dir)
dir_answer old new (dirs.Link file dir name) = found.Link (attr new.nodes file) (wcc old.nodes new.nodes dir)
dir_answer old new (dirs.ReadDirPlus dir cookie verf dircount maxcount) =
    list_answer new.nodes dir (most_page maxcount) (rows_after cookie (rows_in (object new.nodes dir)))
dir_answer old new (dirs.MkNod dir name node) = dir_refused new.nodes 10004 (dirs.MkNod dir name node)
dir_answer old new (dirs.ReadDir dir cookie verf count) = dir_refused new.nodes 10004 (dirs.ReadDir dir cookie verf count)

-- ---- calls of MOUNT

-- the export's name, `/srv`
abbrev pub export_name : List ℕ
export_name = 47 ∷ 115 ∷ 114 ∷ 118 ∷ []

-- MNT, section 5.2.1: the root, with the flavors AUTH_NONE and AUTH_SYS, for the export's name alone; else 2, NOENT
abbrev pub mnt_answer : List ℕ → MountReply
mnt_answer path = if bytes_eq path export_name then mounted.MntOk (handle_of 0) (0 ∷ 1 ∷ []) else mounted.MntFail 2

-- EXPORT, section 5.2.5: the export's name, without groups
abbrev pub export_answer : MountReply
export_answer = mounted.Export (record { path = export_name; groups = [] } ∷ [])

abbrev pub mount_answer : MountCall → MountReply
mount_answer mounts.Null = mounted.Null
mount_answer (mounts.Mnt path) = mnt_answer path
mount_answer (mounts.Umnt path) = mounted.Umnt
mount_answer mounts.Export = export_answer
