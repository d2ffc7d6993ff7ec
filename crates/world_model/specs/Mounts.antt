-- What a history shows of the mount, and of what the server said of its sizes (RFC 1813, sections 5.2.1 and 3.3.19).
use Rattle.std.specs.Prelude.{◌≡◌, ◌==◌, min, ℕ, List, Option, if◌then◌else◌}
use Rattle.nfs_types.specs.declared.attr.Attr.{Attr}
use Rattle.nfs_types.specs.declared.time.Time.{Time}
use Rattle.mount_calls.specs.declared.call.MountCall.TheVariants as mounts
use Rattle.mount_calls.specs.declared.reply.MountReply.TheVariants as mounted
use Rattle.nfs_file_calls.specs.declared.call.FileCall.TheVariants as files
use Rattle.nfs_file_calls.specs.declared.owned.FileKept.TheVariants as kept
use Rattle.world_model.specs.declared.entry.Entry.{Entry}
use Rattle.world_model.specs.declared.message.Call.{Call}
use Rattle.world_model.specs.declared.message.Call.TheVariants as calls
use Rattle.world_model.specs.declared.message.Reply.TheVariants as replies
use Rattle.world_model.specs.declared.answer.Fault.{Fault}
use Rattle.world_model.specs.Heard.{Asked, Refused}

-- MNT of the path, and FSINFO of the root
abbrev pub mount_call : List ℕ → Call
mount_call path = calls.Mount (mounts.Mnt path)

abbrev pub info_call : List ℕ → Call
info_call root = calls.File (files.FsInfo root)

-- where a session's root comes from: a path that is mounted, or the file handle itself
pub data Origin : Type 0 where
  Mounting : (path : List ℕ) → Origin
  Given : (root : List ℕ) → Origin

-- The root is the one that MNT's reply gave, before the place to, or the one that is given.
abbrev pub Rooted : Origin → List Entry → ℕ → List ℕ → Type 0
Rooted (Mounting path) h to root = (flavors : List ℕ) × Asked h 0 to (mount_call path) (replies.Mount (mounted.MntOk root flavors))
Rooted (Given given) h to root = root ≡ given

-- the lesser of a size and the server's greatest; if that is 0, of the size and 4,096
abbrev pub lesser_size : ℕ → ℕ → ℕ
lesser_size size greatest = if greatest == 0 then min size 4096 else min size greatest

-- The size of WRITE is the lesser of a size and the greatest that FSINFO's reply names; if FSINFO was refused or
-- answered badly, of that size and 4,096.
pub data Sized (h : List Entry) (to : ℕ) (root : List ℕ) (size wsize : ℕ) : Type 0 where
  told : (attr : Option Attr) (rtmax rtpref rtmult wtmax wtpref wtmult dtpref maxfilesize : ℕ) (delta : Time) (properties : ℕ)
      → Asked h 0 to (info_call root) (replies.File (kept.FsInfo attr rtmax rtpref rtmult wtmax wtpref wtmult dtpref maxfilesize delta properties))
      → wsize ≡ lesser_size size wtmax → Sized h to root size wsize
  untold : (fault : Fault) → Refused h 0 to (info_call root) fault → wsize ≡ min size 4096 → Sized h to root size wsize
