-- The size of a session's READs, by what FSINFO said (RFC 1813, section 3.3.19).
use Rattle.std.specs.Prelude.{◌≡◌, ◌*◌, ◌/◌, min, nat_lt, ℕ, List, Option, if◌then◌else◌}
use Rattle.nfs_types.specs.declared.attr.Attr.{Attr}
use Rattle.nfs_types.specs.declared.time.Time.{Time}
use Rattle.nfs_file_calls.specs.declared.owned.FileKept.TheVariants as kept
use Rattle.world_model.specs.declared.entry.Entry.{Entry}
use Rattle.world_model.specs.declared.message.Reply.TheVariants as replies
use Rattle.world_model.specs.declared.answer.Fault.{Fault}
use Rattle.world_model.specs.Heard.{Asked, Refused}
use Rattle.world_model.specs.Mounts.{info_call, lesser_size}

-- how many bytes of a file are kept together
abbrev pub page_bytes : ℕ
page_bytes = 4096

-- a size above that of a page is rounded down to whole pages
abbrev pub whole_pages : ℕ → ℕ
whole_pages size = if nat_lt page_bytes size then size / page_bytes * page_bytes else size

-- The size of READ is the lesser of a size and the greatest that FSINFO's reply names, in whole pages; if FSINFO was
-- refused or answered badly, the lesser of that size and 4,096.
pub data ReadSized (h : List Entry) (to : ℕ) (root : List ℕ) (size rsize : ℕ) : Type 0 where
  told : (attr : Option Attr) (rtmax rtpref rtmult wtmax wtpref wtmult dtpref maxfilesize : ℕ) (delta : Time) (properties : ℕ)
      → Asked h 0 to (info_call root) (replies.File (kept.FsInfo attr rtmax rtpref rtmult wtmax wtpref wtmult dtpref maxfilesize delta properties))
      → rsize ≡ whole_pages (lesser_size size rtmax)
      → ReadSized h to root size rsize
  untold : (fault : Fault) → Refused h 0 to (info_call root) fault → rsize ≡ min size 4096 → ReadSized h to root size rsize
