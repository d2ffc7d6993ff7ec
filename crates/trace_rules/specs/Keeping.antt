-- The tests that decide whether an entry leaves the server as it was.
use Rattle.std.specs.Prelude.{◌==◌, ◌&&◌, not, ℕ, Bool, true, false, List, length, Option, Some, None, slice_get, if◌then◌else◌}
use Rattle.std.specs.Str.{bytes_eq}
use Rattle.nfs_types.specs.declared.attr.Attr.{Attr}
use Rattle.nfs_types.specs.declared.verf.Verf.{Verf}
use Rattle.nfs_types.specs.Stamps.{same_time}
use Rattle.trace_data.specs.declared.trace.DirEntry.{DirEntry}
use Rattle.trace_data.specs.declared.trace.Contents.{Contents}
use Rattle.trace_data.specs.declared.trace.Contents.TheVariants.{File, Directory, Other}
use Rattle.trace_data.specs.declared.trace.Object.{Object}
use Rattle.trace_data.specs.declared.trace.Updated.{Updated}
use Rattle.trace_data.specs.declared.trace.Update.{Update}
use Rattle.trace_rules.specs.Decided.{all_below}
use Rattle.trace_data.specs.Histories.{named, objects_after, object_at, verf_at}
use Rattle.trace_rules.specs.Freshness.{same_entries, if_named}

-- ---- equal objects

-- the same kind, permissions, names, owner and sizes
abbrev pub same_owner : Attr → Attr → Bool
same_owner a b =
    (a.kind == b.kind) && (a.mode == b.mode) && (a.nlink == b.nlink) && (a.uid == b.uid) && (a.gid == b.gid) && (a.size == b.size)
    && (a.used == b.used)

-- and the same device, file system, number and times
unfoldable pub same_attr : Attr → Attr → Bool
same_attr a b =
    same_owner a b && (a.rdev_major == b.rdev_major) && (a.rdev_minor == b.rdev_minor) && (a.fsid == b.fsid) && (a.fileid == b.fileid)
    && same_time a.atime b.atime && same_time a.mtime b.mtime && same_time a.ctime b.ctime

abbrev pub same_bool : Bool → Bool → Bool
same_bool a b = if a then b else not b

-- a file of these bytes and these stable ones
abbrev pub is_file : List ℕ → List ℕ → Contents → Bool
is_file now stable (File later steady) = bytes_eq now later && bytes_eq stable steady
is_file now stable (Directory entries) = false
is_file now stable (Other text) = false

-- a directory of these entries
abbrev pub is_directory : List DirEntry → Contents → Bool
is_directory before (File now stable) = false
is_directory before (Directory entries) = same_entries before entries.items
is_directory before (Other text) = false

-- another object of this text
abbrev pub is_other : List ℕ → Contents → Bool
is_other text (File now stable) = false
is_other text (Directory entries) = false
is_other text (Other later) = bytes_eq text later

abbrev pub same_contents : Contents → Contents → Bool
same_contents (File now stable) new = is_file now stable new
same_contents (Directory entries) new = is_directory entries.items new
same_contents (Other text) new = is_other text new

unfoldable pub same_object : Object → Object → Bool
same_object a b = same_attr a.attr b.attr && same_bool a.gone b.gone && same_contents a.contents b.contents

-- ---- what an entry leaves

abbrev pub is_kept : Option Object → Option Object → Bool
is_kept old None = true
is_kept None (Some new) = false
is_kept (Some old) (Some new) = same_object old new

-- entry n leaves the object under the handle, which its update names, as it was
unfoldable pub keeps : List Updated → List Update → ℕ → List ℕ → Bool
keeps start us n f = is_kept (object_at start us n f) (named (objects_after us n) f)

unfoldable pub keeps_at : List Updated → List Update → ℕ → List Updated → ℕ → Bool
keeps_at start us n objects k = if_named (λ f. keeps start us n f) (slice_get objects k)

unfoldable pub keeps_all : List Updated → List Update → ℕ → Bool
keeps_all start us n = all_below (λ k. keeps_at start us n (objects_after us n) k) (length (objects_after us n))

abbrev pub is_verf : Verf → Option Update → Bool
is_verf was None = true
is_verf was (Some u) = bytes_eq u.verf.0 was.0

-- entry n leaves the write verifier
unfoldable pub keeps_verf : Verf → List Update → ℕ → Bool
keeps_verf start us n = is_verf (verf_at start us n) (slice_get us n)

unfoldable pub keeps_server : Verf → List Updated → List Update → ℕ → Bool
keeps_server verf start us n = keeps_verf verf us n && keeps_all start us n
