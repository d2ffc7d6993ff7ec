-- The tests that decide whether an entry serves a call, or flushes a file.
use Rattle.std.specs.Prelude.{◌==◌, ◌&&◌, not, ℕ, Bool, false, List, Option, Some, None}
use Rattle.mount_calls.specs.declared.call.MountCall.{MountCall}
use Rattle.mount_calls.specs.declared.call.MountCall.TheVariants as mounts
use Rattle.mount_calls.specs.declared.reply.MountReply.{MountReply}
use Rattle.mount_calls.specs.declared.reply.MountReply.TheVariants as mounted
use Rattle.nfs_dir_calls.specs.declared.call.DirCall.{DirCall}
use Rattle.nfs_dir_calls.specs.declared.call.DirCall.TheVariants as dirs
use Rattle.nfs_dir_calls.specs.declared.create.Making.{Making}
use Rattle.nfs_dir_calls.specs.declared.keeping.DirKept.{DirKept}
use Rattle.nfs_dir_calls.specs.declared.keeping.DirKept.TheVariants as found
use Rattle.world_model.specs.declared.message.Call.{Call}
use Rattle.world_model.specs.declared.message.Call.TheVariants as calls
use Rattle.world_model.specs.declared.message.Reply.{Reply}
use Rattle.world_model.specs.declared.message.Reply.TheVariants as replies
use Rattle.trace_data.specs.declared.trace.Object.{Object}
use Rattle.trace_data.specs.declared.trace.Trace.{Trace}
use Rattle.trace_rules.specs.Keeping.{same_attr, same_bool}
use Rattle.trace_steps.specs.MomentTests.{before, after, is_same, is_one, only}
use Rattle.trace_steps.specs.TurnTests.{is_committed}
use Rattle.trace_steps.specs.FileTests.{refuses_with, refuses_wcc, serves_file}
use Rattle.trace_steps.specs.NameTests.{looks_up, reads_link, creates, makes_other, links, refuses_link}
use Rattle.trace_steps.specs.MoveTests.{removes, renames, refuses_rename}
use Rattle.trace_steps.specs.PageTests.{lists_names, lists_objects}

-- ---- calls on names

abbrev pub serves_lookup : Trace → ℕ → List ℕ → List ℕ → DirKept → Bool
serves_lookup t n d name (found.Lookup object attr dir) = looks_up t n d name object attr dir
serves_lookup t n d name (found.LookupFail status attr) = refuses_with t n status d attr
serves_lookup t n d name reply = false

abbrev pub serves_readlink : Trace → ℕ → List ℕ → DirKept → Bool
serves_readlink t n f (found.ReadLink attr text) = reads_link t n f attr text
serves_readlink t n f (found.ReadLinkFail status attr) = refuses_with t n status f attr
serves_readlink t n f reply = false

abbrev pub serves_create : Trace → ℕ → DirCall → List ℕ → List ℕ → Making → DirKept → Bool
serves_create t n call d name making (found.Create object attr wcc) = creates t n call d name making object attr wcc
serves_create t n call d name making (found.CreateFail status wcc) = refuses_wcc t n status d wcc
serves_create t n call d name making reply = false

abbrev pub serves_mkdir : Trace → ℕ → DirCall → List ℕ → List ℕ → DirKept → Bool
serves_mkdir t n call d name (found.MkDir object attr wcc) = makes_other t n call d name object attr wcc
serves_mkdir t n call d name (found.MkDirFail status wcc) = refuses_wcc t n status d wcc
serves_mkdir t n call d name reply = false

abbrev pub serves_symlink : Trace → ℕ → DirCall → List ℕ → List ℕ → DirKept → Bool
serves_symlink t n call d name (found.SymLink object attr wcc) = makes_other t n call d name object attr wcc
serves_symlink t n call d name (found.SymLinkFail status wcc) = refuses_wcc t n status d wcc
serves_symlink t n call d name reply = false

abbrev pub serves_mknod : Trace → ℕ → DirCall → List ℕ → List ℕ → DirKept → Bool
serves_mknod t n call d name (found.MkNod object attr wcc) = makes_other t n call d name object attr wcc
serves_mknod t n call d name (found.MkNodFail status wcc) = refuses_wcc t n status d wcc
serves_mknod t n call d name reply = false

abbrev pub serves_remove : Trace → ℕ → List ℕ → List ℕ → DirKept → Bool
serves_remove t n d name (found.Remove wcc) = removes t n d name wcc
serves_remove t n d name (found.RemoveFail status wcc) = refuses_wcc t n status d wcc
serves_remove t n d name reply = false

abbrev pub serves_rmdir : Trace → ℕ → List ℕ → List ℕ → DirKept → Bool
serves_rmdir t n d name (found.RmDir wcc) = removes t n d name wcc
serves_rmdir t n d name (found.RmDirFail status wcc) = refuses_wcc t n status d wcc
serves_rmdir t n d name reply = false

abbrev pub serves_rename : Trace → ℕ → List ℕ → List ℕ → List ℕ → List ℕ → DirKept → Bool
serves_rename t n d from e to (found.Rename source target) = renames t n d from e to source target
serves_rename t n d from e to (found.RenameFail status source target) = refuses_rename t n status d source e target
serves_rename t n d from e to reply = false

abbrev pub serves_link : Trace → ℕ → List ℕ → List ℕ → List ℕ → DirKept → Bool
serves_link t n f d name (found.Link attr wcc) = links t n f d name attr wcc
serves_link t n f d name (found.LinkFail status attr wcc) = refuses_link t n status d wcc f attr
serves_link t n f d name reply = false

abbrev pub serves_readdir : Trace → ℕ → List ℕ → DirKept → Bool
serves_readdir t n d (found.ReadDir attr check rows eof) = lists_names t n d attr rows eof
serves_readdir t n d (found.ReadDirFail status attr) = refuses_with t n status d attr
serves_readdir t n d reply = false

abbrev pub serves_readdirplus : Trace → ℕ → List ℕ → DirKept → Bool
serves_readdirplus t n d (found.ReadDirPlus attr check rows eof) = lists_objects t n d attr rows eof
serves_readdirplus t n d (found.ReadDirPlusFail status attr) = refuses_with t n status d attr
serves_readdirplus t n d reply = false

abbrev pub serves_dir : Trace → ℕ → DirCall → DirKept → Bool
serves_dir t n (dirs.Lookup d name) reply = serves_lookup t n d name reply
serves_dir t n (dirs.ReadLink f) reply = serves_readlink t n f reply
serves_dir t n (dirs.Create d name making) reply = serves_create t n (dirs.Create d name making) d name making reply
serves_dir t n (dirs.MkDir d name set) reply = serves_mkdir t n (dirs.MkDir d name set) d name reply
serves_dir t n (dirs.SymLink d name set target) reply = serves_symlink t n (dirs.SymLink d name set target) d name reply
serves_dir t n (dirs.MkNod d name node) reply = serves_mknod t n (dirs.MkNod d name node) d name reply
serves_dir t n (dirs.Remove d name) reply = serves_remove t n d name reply
serves_dir t n (dirs.RmDir d name) reply = serves_rmdir t n d name reply
serves_dir t n (dirs.Rename d from e to) reply = serves_rename t n d from e to reply
serves_dir t n (dirs.Link f d name) reply = serves_link t n f d name reply
serves_dir t n (dirs.ReadDir d cookie verf count) reply = serves_readdir t n d reply
serves_dir t n (dirs.ReadDirPlus d cookie verf dircount maxcount) reply = serves_readdirplus t n d reply

-- ---- calls of MOUNT

abbrev pub serves_mount : Trace → ℕ → MountCall → MountReply → Bool
serves_mount t n mounts.Null mounted.Null = is_same t n
serves_mount t n (mounts.Mnt path) (mounted.MntOk root flavors) = is_same t n
serves_mount t n (mounts.Mnt path) (mounted.MntFail stat) = not (stat == 0) && is_same t n
serves_mount t n (mounts.Umnt path) mounted.Umnt = is_same t n
serves_mount t n mounts.Export (mounted.Export list) = is_same t n
serves_mount t n call reply = false

-- ---- any call

abbrev pub serves : Trace → ℕ → Call → Reply → Bool
serves t n (calls.File call) (replies.File reply) = serves_file t n call reply
serves t n (calls.Dir call) (replies.Dir reply) = serves_dir t n call reply
serves t n (calls.Mount call) (replies.Mount reply) = serves_mount t n call reply
serves t n call reply = false

-- ---- a range that becomes stable by itself

abbrev pub flushed_to : ℕ → ℕ → Option Object → Option Object → Bool
flushed_to start count None new = false
flushed_to start count (Some old) None = false
flushed_to start count (Some old) (Some new) =
    not old.gone && same_attr old.attr new.attr && same_bool new.gone old.gone && is_committed start count old.contents new.contents

unfoldable pub flushes : Trace → ℕ → List ℕ → ℕ → ℕ → Bool
flushes t n f start count = flushed_to start count (before t n f) (after t n f) && only (is_one f f f) t n
