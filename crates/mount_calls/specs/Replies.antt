-- The replies of MOUNT (RFC 1813, section 5.2): how results are read, and their written spelling.
use Rattle.std.specs.Prelude.{◌≡◌, ◌≤◌, ◌<◌, ◌++◌, ℕ, List, [], length, Result, Ok, Err, ◌==◌, if◌then◌else◌}
use Rattle.xdr_codec.specs.declared.reader.XdrFault.{XdrFault}
use Rattle.xdr_codec.specs.declared.reader.XdrFault.TheVariants.{BadValue}
use Rattle.xdr_codec.specs.Reading.{◌>>=◌, u32_at, end_at}
use Rattle.xdr_codec.specs.Spelling.{u32_bytes}
use Rattle.xdr_codec.specs.Spells.{◌⨾◌, SpellsU32}
use Rattle.xdr_codec.specs.Whole.{ended, whole_at}
use Rattle.nfs_types.specs.Fields.{handle_at, handle_bytes}
use Rattle.nfs_types.specs.Spells.{SpellsHandle}
use Rattle.nfs_types.specs.declared.mount_proc.TheConstants.{NULL, MNT, UMNT, EXPORT}
use Rattle.mount_calls.specs.declared.reply.MountReply.{MountReply}
use Rattle.mount_calls.specs.declared.reply.MountReply.TheVariants as replies
use Rattle.mount_calls.specs.Lists.{nothing_at, SpellsNothing}
use Rattle.mount_calls.specs.Flavors.{flavors_at, flavors_bytes, SpellsFlavors}
use Rattle.mount_calls.specs.Exports.{exports_at, exports_bytes, SpellsExports, AreExports}

-- the procedure that a reply answers
abbrev pub reply_proc : MountReply → ℕ
reply_proc replies.Null = 0
reply_proc (replies.MntOk root flavors) = 1
reply_proc (replies.MntFail stat) = 1
reply_proc replies.Umnt = 3
reply_proc (replies.Export list) = 5

-- ---- reading

unfoldable pub null_reply_at : List ℕ → Result MountReply XdrFault
null_reply_at results = whole_at nothing_at results >>= λ v. Ok replies.Null

-- after status 0: the root and the flavors
unfoldable pub mnt_done_at : List ℕ → Result MountReply XdrFault
mnt_done_at bytes = do
  root ← handle_at bytes
  flavors ← flavors_at root.1
  ended (replies.MntOk root.0 flavors.0) flavors.1

unfoldable pub mnt_reply_at : List ℕ → Result MountReply XdrFault
mnt_reply_at results = do
  stat ← u32_at results
  if stat.0 == 0 then mnt_done_at stat.1 else ended (replies.MntFail stat.0) stat.1

unfoldable pub umnt_reply_at : List ℕ → Result MountReply XdrFault
umnt_reply_at results = whole_at nothing_at results >>= λ v. Ok replies.Umnt

unfoldable pub export_reply_at : List ℕ → Result MountReply XdrFault
export_reply_at results = whole_at exports_at results >>= λ list. Ok (replies.Export list)

-- the reply of a procedure, from all of the bytes
abbrev pub mount_reply_at : ℕ → List ℕ → Result MountReply XdrFault
mount_reply_at proc results =
    if proc == NULL then null_reply_at results else
    (if proc == MNT then mnt_reply_at results else
    (if proc == UMNT then umnt_reply_at results else
    (if proc == EXPORT then export_reply_at results else Err BadValue)))

-- ---- spelling

-- a status other than 0, and nothing after it
pub record SpellsFailure (stat : ℕ) (bytes : List ℕ) : Type 0 where
  pub failed : 0 < stat
  pub is : SpellsU32 stat bytes

-- the results of a call
abbrev pub SpellsMountResults : MountReply → List ℕ → Type 0
SpellsMountResults replies.Null = SpellsNothing tt
SpellsMountResults (replies.MntOk root flavors) = SpellsU32 0 ⨾ SpellsHandle root ⨾ SpellsFlavors flavors
SpellsMountResults (replies.MntFail stat) = SpellsFailure stat
SpellsMountResults replies.Umnt = SpellsNothing tt
SpellsMountResults (replies.Export list) = SpellsExports list

-- a reply of that procedure
pub record SpellsMountReply (proc : ℕ) (reply : MountReply) (results : List ℕ) : Type 0 where
  pub names : reply_proc reply ≡ proc
  pub is : SpellsMountResults reply results

-- a reply that bytes can spell
abbrev pub HasSpellingReply : MountReply → Type 0
HasSpellingReply replies.Null = Unit {0}
HasSpellingReply (replies.MntOk root flavors) = length flavors ≤ 64
HasSpellingReply (replies.MntFail stat) = 0 < stat
HasSpellingReply replies.Umnt = Unit {0}
HasSpellingReply (replies.Export list) = AreExports list

-- status 0, the root and the flavors
unfoldable pub mnt_ok_bytes : List ℕ → List ℕ → List ℕ
mnt_ok_bytes root flavors = u32_bytes 0 ++ handle_bytes root ++ flavors_bytes flavors

unfoldable pub mount_reply_bytes : MountReply → List ℕ
mount_reply_bytes replies.Null = []
mount_reply_bytes (replies.MntOk root flavors) = mnt_ok_bytes root flavors
mount_reply_bytes (replies.MntFail stat) = u32_bytes stat
mount_reply_bytes replies.Umnt = []
mount_reply_bytes (replies.Export list) = exports_bytes list
