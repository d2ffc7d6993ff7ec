-- The server at each moment, worked out from the start and from what is told.
use Rattle.std.specs.Prelude.{ℕ, suc, List, [], ◌∷◌, take, Bool, true, false, Option, Some, None, ◌==◌, if◌then◌else◌}
use Rattle.nfs_dir_calls.specs.declared.keeping.DirKept.{DirKept}
use Rattle.nfs_dir_calls.specs.declared.keeping.DirKept.TheVariants as kept
use Rattle.nfs_file_calls.specs.declared.call.FileCall.{FileCall}
use Rattle.nfs_file_calls.specs.declared.call.FileCall.TheVariants as files
use Rattle.nfs_file_calls.specs.declared.owned.FileKept.{FileKept}
use Rattle.nfs_file_calls.specs.declared.owned.FileKept.TheVariants as owned
use Rattle.world_model.specs.declared.entry.Entry.{Entry}
use Rattle.world_model.specs.declared.entry.Entry.TheVariants as entries
use Rattle.world_model.specs.declared.message.Call.{Call}
use Rattle.world_model.specs.declared.message.Call.TheVariants as calls
use Rattle.world_model.specs.declared.message.Reply.{Reply}
use Rattle.world_model.specs.declared.message.Reply.TheVariants as replies
use Rattle.world_model.specs.History.{History}
use Rattle.world_model.specs.Server.{Server}
use Rattle.export_fs.specs.View.{View}
use Rattle.export_fs.specs.Executed.{executed}
use Rattle.export_fs.specs.Partial.{partly_executed}
use Rattle.export_fs.specs.Restart.{after_restart, after_flush}
use Rattle.export_fs.specs.Seen.{server_of}
use Rattle.world_link.specs.declared.broken.Broken.{Broken}
use Rattle.world_link.specs.declared.directive.PartialWrite.{PartialWrite}
use Rattle.world_link.specs.View.{WorldView}

-- a reply of status 0
abbrev pub file_granted : FileKept → Bool
file_granted (owned.GetAttrFail status) = false
file_granted (owned.SetAttrFail status wcc) = false
file_granted (owned.AccessFail status attr) = false
file_granted (owned.ReadFail status attr) = false
file_granted (owned.WriteFail status wcc) = false
file_granted (owned.FsStatFail status attr) = false
file_granted (owned.FsInfoFail status attr) = false
file_granted (owned.PathConfFail status attr) = false
file_granted (owned.CommitFail status wcc) = false
file_granted reply = true

abbrev pub dir_granted : DirKept → Bool
dir_granted (kept.LookupFail status dir) = false
dir_granted (kept.ReadLinkFail status attr) = false
dir_granted (kept.CreateFail status wcc) = false
dir_granted (kept.MkDirFail status wcc) = false
dir_granted (kept.SymLinkFail status wcc) = false
dir_granted (kept.MkNodFail status wcc) = false
dir_granted (kept.RemoveFail status wcc) = false
dir_granted (kept.RmDirFail status wcc) = false
dir_granted (kept.RenameFail status old new) = false
dir_granted (kept.LinkFail status attr wcc) = false
dir_granted (kept.ReadDirFail status attr) = false
dir_granted (kept.ReadDirPlusFail status attr) = false
dir_granted reply = true

-- MOUNT changes nothing
abbrev pub is_granted : Reply → Bool
is_granted (replies.File reply) = file_granted reply
is_granted (replies.Dir reply) = dir_granted reply
is_granted (replies.Mount reply) = false

-- a WRITE as it was executed: with as many of its bytes as the reply counts
abbrev pub cut_file : FileCall → FileKept → FileCall
cut_file (files.Write file offset how bytes) (owned.Write wcc count committed verf) = files.Write file offset how (take count bytes)
cut_file call reply = call

abbrev pub cut : Call → Reply → Call
cut (calls.File call) (replies.File reply) = calls.File (cut_file call reply)
cut call reply = call

abbrev pub stepped_by : View → Call → Reply → View
stepped_by view call reply = if is_granted reply then (executed view (cut call reply)).0 else view

-- A WRITE that failed doesn't say in its entry how many of its bytes were written. So that is known beside it.
abbrev pub stepped_with : Option PartialWrite → View → Call → Reply → View
stepped_with None view call reply = stepped_by view call reply
stepped_with (Some part) view call reply = (partly_executed view call part.bytes part.status).0

-- the export after an entry
abbrev pub stepped : Option PartialWrite → View → Entry → View
stepped part view (entries.Executed xid call reply) = stepped_with part view call reply
stepped part view (entries.Foreign call reply) = stepped_by view call reply
stepped part view (entries.Flushed file start count) = after_flush view file start count
stepped part view (entries.Reboot verf) = after_restart view
stepped part view entry = view

-- what is known beside an entry goes by its place
abbrev pub replayed : (ℕ → Option PartialWrite) → View → List Entry → View
replayed parts view [] = view
replayed parts view (entry ∷ more) = replayed (λ n. parts (suc n)) (stepped (parts 0) view entry) more

-- what is kept beside the entry at a place
abbrev pub part_at : List Broken → ℕ → Option PartialWrite
part_at [] n = None
part_at (broken ∷ more) n = if broken.at == n then Some broken.part else part_at more n

-- moment n lies after the first n entries
abbrev pub at_of : (ℕ → Option PartialWrite) → View → List Entry → ℕ → Server
at_of parts start entries n = server_of (replayed parts start (take n entries))

abbrev pub told_of : (ℕ → Option PartialWrite) → View → List Entry → History
told_of parts start entries = record { entries = entries; at = at_of parts start entries }

-- what a world tells
abbrev pub told : WorldView → History
told w = told_of (part_at w.server.partials) w.start w.server.entries
