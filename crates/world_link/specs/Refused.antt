-- What a call is answered that fails with a status which a schedule gives: without attributes (RFC 1813, section 3.3).
use Rattle.std.specs.Prelude.{ℕ, ◌==◌, Option, Some, None, if◌then◌else◌}
use Rattle.std.specs.Option.{option_map}
use Rattle.nfs_types.specs.declared.wcc.Wcc.{Wcc}
use Rattle.mount_calls.specs.declared.call.MountCall.{MountCall}
use Rattle.mount_calls.specs.declared.call.MountCall.TheVariants as mounts
use Rattle.mount_calls.specs.declared.reply.MountReply.{MountReply}
use Rattle.mount_calls.specs.declared.reply.MountReply.TheVariants as mounted
use Rattle.nfs_dir_calls.specs.declared.call.DirCall.{DirCall}
use Rattle.nfs_dir_calls.specs.declared.call.DirCall.TheVariants as dirs
use Rattle.nfs_dir_calls.specs.declared.keeping.DirKept.{DirKept}
use Rattle.nfs_dir_calls.specs.declared.keeping.DirKept.TheVariants as found
use Rattle.nfs_file_calls.specs.declared.call.FileCall.{FileCall}
use Rattle.nfs_file_calls.specs.declared.call.FileCall.TheVariants as files
use Rattle.nfs_file_calls.specs.declared.owned.FileKept.{FileKept}
use Rattle.nfs_file_calls.specs.declared.owned.FileKept.TheVariants as kept
use Rattle.world_model.specs.declared.message.Call.{Call}
use Rattle.world_model.specs.declared.message.Call.TheVariants as calls
use Rattle.world_model.specs.declared.message.Reply.{Reply}
use Rattle.world_model.specs.declared.message.Reply.TheVariants as replies
use Rattle.export_fs.specs.Answer.{status}

-- attributes that aren't given
abbrev pub no_wcc : Wcc
no_wcc = record { before = None; after = None }

-- NULL has no status
abbrev pub file_refused : ℕ → FileCall → Option FileKept
file_refused n files.Null = None
file_refused n (files.GetAttr file) = Some (kept.GetAttrFail (status n))
file_refused n (files.SetAttr file set guard) = Some (kept.SetAttrFail (status n) no_wcc)
file_refused n (files.Access file bits) = Some (kept.AccessFail (status n) None)
file_refused n (files.Read file offset count) = Some (kept.ReadFail (status n) None)
file_refused n (files.Write file offset how bytes) = Some (kept.WriteFail (status n) no_wcc)
file_refused n (files.FsStat file) = Some (kept.FsStatFail (status n) None)
file_refused n (files.FsInfo file) = Some (kept.FsInfoFail (status n) None)
file_refused n (files.PathConf file) = Some (kept.PathConfFail (status n) None)
file_refused n (files.Commit file offset count) = Some (kept.CommitFail (status n) no_wcc)

abbrev pub dir_refused : ℕ → DirCall → DirKept
dir_refused n (dirs.Lookup dir name) = found.LookupFail (status n) None
dir_refused n (dirs.ReadLink file) = found.ReadLinkFail (status n) None
dir_refused n (dirs.Create dir name making) = found.CreateFail (status n) no_wcc
dir_refused n (dirs.MkDir dir name set) = found.MkDirFail (status n) no_wcc
dir_refused n (dirs.SymLink dir name set target) = found.SymLinkFail (status n) no_wcc
dir_refused n (dirs.MkNod dir name node) = found.MkNodFail (status n) no_wcc
dir_refused n (dirs.Remove dir name) = found.RemoveFail (status n) no_wcc
dir_refused n (dirs.RmDir dir name) = found.RmDirFail (status n) no_wcc
dir_refused n (dirs.Rename dir name to_dir to) = found.RenameFail (status n) no_wcc no_wcc
dir_refused n (dirs.Link file dir name) = found.LinkFail (status n) None no_wcc
dir_refused n (dirs.ReadDir dir cookie verf count) = found.ReadDirFail (status n) None
dir_refused n (dirs.ReadDirPlus dir cookie verf dircount maxcount) = found.ReadDirPlusFail (status n) None

-- MNT is the one call of MOUNT with a status
abbrev pub mount_refused : ℕ → MountCall → Option MountReply
mount_refused n (mounts.Mnt path) = Some (mounted.MntFail n)
mount_refused n call = None

-- a call that fails with this status; None if it has none
abbrev pub refused_with : ℕ → Call → Option Reply
refused_with n (calls.File call) = option_map replies.File (file_refused n call)
refused_with n (calls.Dir call) = Some (replies.Dir (dir_refused n call))
refused_with n (calls.Mount call) = option_map replies.Mount (mount_refused n call)

-- the status of a call: that of MNT, or that of its sending
abbrev pub status_for : Option ℕ → Option ℕ → Call → Option ℕ
status_for mount answer (calls.File call) = answer
status_for mount answer (calls.Dir call) = answer
status_for mount answer (calls.Mount call) = mount

-- the reply to a call whose status is given; 0 is no such status
abbrev pub refused_by : Option ℕ → Call → Option Reply
refused_by None call = None
refused_by (Some n) call = if n == 0 then None else refused_with n call
