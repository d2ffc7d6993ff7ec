-- What an event makes of the server: a restart, a file made stable, or a call of another client.
use Rattle.std.specs.Prelude.{ℕ, ◌-◌, ◌&&◌, not, List, [], ◌∷◌, ◌++◌, length, take, Bool, true, false, Option, Some, None, is_some, slice_get, ◌==◌, if◌then◌else◌}
use Rattle.nfs_types.specs.declared.set_attr.SetAttr.{SetAttr}
use Rattle.nfs_types.specs.declared.set_attr.SetTime.TheVariants.{Keep}
use Rattle.nfs_dir_calls.specs.declared.call.DirCall.TheVariants as dirs
use Rattle.nfs_dir_calls.specs.declared.create.Making.TheVariants.{Guarded}
use Rattle.nfs_dir_calls.specs.declared.keeping.DirKept.TheVariants as kept
use Rattle.nfs_file_calls.specs.declared.call.FileCall.TheVariants as files
use Rattle.world_model.specs.declared.entry.Entry.TheVariants.{Foreign, Flushed, Reboot}
use Rattle.world_model.specs.declared.message.Call.{Call}
use Rattle.world_model.specs.declared.message.Call.TheVariants as calls
use Rattle.world_model.specs.declared.message.Reply.{Reply}
use Rattle.world_model.specs.declared.message.Reply.TheVariants as replies
use Rattle.export_fs.specs.View.{View}
use Rattle.export_fs.specs.Parts.{verifier}
use Rattle.export_fs.specs.Executed.{executed}
use Rattle.export_fs.specs.Restart.{may_restart, after_restart, after_flush}
use Rattle.export_fs.specs.Finding.{found, file_size}
use Rattle.world_link.specs.declared.event.Event.{Event}
use Rattle.world_link.specs.declared.event.Event.TheVariants as events
use Rattle.world_link.specs.View.{ServerView}

-- a call of another client is executed
abbrev pub foreign : ServerView → Call → ServerView
foreign v call = record v { export = (executed v.export call).0; entries = v.entries ++ Foreign call (executed v.export call).1 ∷ [] }

-- a restart is left out if the export can't make it
abbrev pub restarted : ServerView → ServerView
restarted v =
    if may_restart v.export then record v { export = after_restart v.export; entries = v.entries ++ Reboot (verifier (after_restart v.export)) ∷ [] }
    else v

-- ---- events at the object of a path; they are left out if it isn't there

-- the whole file becomes stable
abbrev pub flushed_of : ServerView → List ℕ → Option ℕ → ServerView
flushed_of v file None = v
flushed_of v file (Some size) = record v { export = after_flush v.export file 0 size; entries = v.entries ++ Flushed file 0 size ∷ [] }

abbrev pub flushed_at : ServerView → Option (List ℕ) → ServerView
flushed_at v None = v
flushed_at v (Some file) = flushed_of v file (file_size v.export file)

-- bytes are written, and are stable: 2 is FILE_SYNC (RFC 1813, section 3.3.7)
abbrev pub written_at : ServerView → ℕ → List ℕ → Option (List ℕ) → ServerView
written_at v offset bytes None = v
written_at v offset bytes (Some file) = foreign v (calls.File (files.Write file offset 2 bytes))

abbrev pub written : ServerView → List (List ℕ) → ℕ → List ℕ → ServerView
written v path offset bytes = written_at v offset bytes (found v.export path)

abbrev pub sets : Option ℕ → SetAttr
sets size = record { mode = None; uid = None; gid = None; size = size; atime = Keep; mtime = Keep }

abbrev pub truncated_at : ServerView → ℕ → Option (List ℕ) → ServerView
truncated_at v size None = v
truncated_at v size (Some file) = foreign v (calls.File (files.SetAttr file (sets (Some size)) None))

-- ---- events at the name at the end of a path; they are left out if it has none, or its directory isn't there

-- the file handle of the directory of a path's last name, and that name
abbrev pub named_in : Option (List ℕ) → Option (List ℕ) → Option (List ℕ × List ℕ)
named_in dir None = None
named_in None (Some name) = None
named_in (Some dir) (Some name) = Some (dir, name)

abbrev pub last_in : View → List (List ℕ) → Option (List ℕ × List ℕ)
last_in view path = named_in (found view (take (length path - 1) path)) (slice_get path (length path - 1))

-- the reply of a CREATE that made a file
abbrev pub is_made : Reply → Bool
is_made (replies.File reply) = false
is_made (replies.Dir (kept.Create file attr wcc)) = true
is_made (replies.Dir reply) = false
is_made (replies.Mount reply) = false

abbrev pub creates : List ℕ → List ℕ → Call
creates dir name = calls.Dir (dirs.Create dir name (Guarded (sets None)))

-- a file is made under a name that isn't there, and the bytes are written if there are any
abbrev pub created_at : ServerView → List (List ℕ) → List ℕ → Option (List ℕ × List ℕ) → ServerView
created_at v path bytes None = v
created_at v path bytes (Some at) =
    if is_made (executed v.export (creates at.0 at.1)).1 && not (length bytes == 0) then written (foreign v (creates at.0 at.1)) path 0 bytes
    else foreign v (creates at.0 at.1)

abbrev pub removed_at : ServerView → Option (List ℕ × List ℕ) → ServerView
removed_at v None = v
removed_at v (Some at) = foreign v (calls.Dir (dirs.Remove at.0 at.1))

abbrev pub renamed_at : ServerView → Option (List ℕ × List ℕ) → Option (List ℕ × List ℕ) → ServerView
renamed_at v None to = v
renamed_at v (Some at) None = v
renamed_at v (Some at) (Some to) = foreign v (calls.Dir (dirs.Rename at.0 at.1 to.0 to.1))

-- ---- all

abbrev pub happened : ServerView → Event → ServerView
happened v events.Reboot = restarted v
happened v (events.Flush path) = flushed_at v (found v.export path)
happened v (events.Write path offset bytes) = written v path offset bytes
happened v (events.Truncate path size) = truncated_at v size (found v.export path)
happened v (events.Create path bytes) = created_at v path bytes (last_in v.export path)
happened v (events.Remove path) = if is_some (found v.export path) then removed_at v (last_in v.export path) else v
happened v (events.Rename from to) = if is_some (found v.export from) then renamed_at v (last_in v.export from) (last_in v.export to) else v

-- in order
abbrev pub all_happened : ServerView → List Event → ServerView
all_happened v [] = v
all_happened v (event ∷ more) = all_happened (happened v event) more
