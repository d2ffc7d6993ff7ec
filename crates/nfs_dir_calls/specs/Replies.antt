-- The replies to calls on directories and names (RFC 1813, section 3.3), by their procedures. Results begin with a
-- status: 0 with what was asked, any other with what the procedure gives in failure.
use Rattle.std.specs.Prelude.{◌≡◌, ◌≤◌, ℕ, List, length, Result, Err, ◌==◌, if◌then◌else◌, Option}
use Rattle.xdr_codec.specs.declared.reader.XdrFault.{XdrFault}
use Rattle.xdr_codec.specs.declared.reader.XdrFault.TheVariants.{BadValue}
use Rattle.xdr_codec.specs.Spells.{◌⨾◌, SpellsU32, SpellsOpaque, SpellsFlag, SpellsList}
use Rattle.xdr_codec.specs.Arms.{SpellsStatus}
use Rattle.nfs_types.specs.declared.attr.Attr.{Attr}
use Rattle.nfs_types.specs.declared.wcc.Wcc.{Wcc}
use Rattle.nfs_types.specs.Spells.{SpellsHandle, SpellsOptAttr, SpellsWcc, SpellsVerf}
use Rattle.nfs_types.specs.declared.nfs_proc.TheConstants.{LOOKUP, READLINK, CREATE, MKDIR, SYMLINK, MKNOD, REMOVE, RMDIR, RENAME, LINK, READDIR, READDIRPLUS}
use Rattle.nfs_dir_calls.specs.declared.keeping.DirKept.{DirKept}
use Rattle.nfs_dir_calls.specs.declared.keeping.DirKept.TheVariants as kept
use Rattle.nfs_dir_calls.specs.Failures.{IsFailure, attr_failure_bytes, wcc_failure_bytes}
use Rattle.nfs_dir_calls.specs.OptHandles.{SpellsOptHandle}
use Rattle.nfs_dir_calls.specs.NewObjects.{new_object_bytes}
use Rattle.nfs_dir_calls.specs.Changed.{changed_bytes}
use Rattle.nfs_dir_calls.specs.DirPages.{SpellsDirRow}
use Rattle.nfs_dir_calls.specs.PlusPages.{SpellsPlusRow}
use Rattle.nfs_dir_calls.specs.Lookup.{lookup_at, lookup_bytes}
use Rattle.nfs_dir_calls.specs.ReadLink.{readlink_at, readlink_bytes}
use Rattle.nfs_dir_calls.specs.Create.{create_at}
use Rattle.nfs_dir_calls.specs.MkDir.{mkdir_at}
use Rattle.nfs_dir_calls.specs.SymLink.{symlink_at}
use Rattle.nfs_dir_calls.specs.MkNod.{mknod_at}
use Rattle.nfs_dir_calls.specs.Remove.{remove_at, rmdir_at}
use Rattle.nfs_dir_calls.specs.Rename.{rename_at, rename_bytes}
use Rattle.nfs_dir_calls.specs.Link.{link_at, link_bytes}
use Rattle.nfs_dir_calls.specs.ReadDir.{readdir_at, readdir_bytes}
use Rattle.nfs_dir_calls.specs.ReadDirPlus.{readdirplus_at, readdirplus_bytes}

-- the number of the procedure that a reply answers
abbrev pub reply_proc : DirKept → ℕ
reply_proc (kept.Lookup found attr dir) = 3
reply_proc (kept.LookupFail status dir) = 3
reply_proc (kept.ReadLink attr text) = 5
reply_proc (kept.ReadLinkFail status attr) = 5
reply_proc (kept.Create found attr wcc) = 8
reply_proc (kept.CreateFail status wcc) = 8
reply_proc (kept.MkDir found attr wcc) = 9
reply_proc (kept.MkDirFail status wcc) = 9
reply_proc (kept.SymLink found attr wcc) = 10
reply_proc (kept.SymLinkFail status wcc) = 10
reply_proc (kept.MkNod found attr wcc) = 11
reply_proc (kept.MkNodFail status wcc) = 11
reply_proc (kept.Remove wcc) = 12
reply_proc (kept.RemoveFail status wcc) = 12
reply_proc (kept.RmDir wcc) = 13
reply_proc (kept.RmDirFail status wcc) = 13
reply_proc (kept.Rename «from» to) = 14
reply_proc (kept.RenameFail status «from» to) = 14
reply_proc (kept.Link attr wcc) = 15
reply_proc (kept.LinkFail status attr wcc) = 15
reply_proc (kept.ReadDir attr verf page eof) = 16
reply_proc (kept.ReadDirFail status attr) = 16
reply_proc (kept.ReadDirPlus attr verf page eof) = 17
reply_proc (kept.ReadDirPlusFail status attr) = 17

-- the results that spell a reply
abbrev pub SpellsReply : DirKept → List ℕ → Type 0
SpellsReply (kept.Lookup found attr dir) = SpellsU32 0 ⨾ SpellsHandle found ⨾ SpellsOptAttr attr ⨾ SpellsOptAttr dir
SpellsReply (kept.LookupFail status dir) = SpellsStatus SpellsOptAttr status.0 dir
SpellsReply (kept.ReadLink attr text) = SpellsU32 0 ⨾ SpellsOptAttr attr ⨾ SpellsOpaque 1024 text
SpellsReply (kept.ReadLinkFail status attr) = SpellsStatus SpellsOptAttr status.0 attr
SpellsReply (kept.Create found attr wcc) = SpellsU32 0 ⨾ SpellsOptHandle found ⨾ SpellsOptAttr attr ⨾ SpellsWcc wcc
SpellsReply (kept.CreateFail status wcc) = SpellsStatus SpellsWcc status.0 wcc
SpellsReply (kept.MkDir found attr wcc) = SpellsU32 0 ⨾ SpellsOptHandle found ⨾ SpellsOptAttr attr ⨾ SpellsWcc wcc
SpellsReply (kept.MkDirFail status wcc) = SpellsStatus SpellsWcc status.0 wcc
SpellsReply (kept.SymLink found attr wcc) = SpellsU32 0 ⨾ SpellsOptHandle found ⨾ SpellsOptAttr attr ⨾ SpellsWcc wcc
SpellsReply (kept.SymLinkFail status wcc) = SpellsStatus SpellsWcc status.0 wcc
SpellsReply (kept.MkNod found attr wcc) = SpellsU32 0 ⨾ SpellsOptHandle found ⨾ SpellsOptAttr attr ⨾ SpellsWcc wcc
SpellsReply (kept.MkNodFail status wcc) = SpellsStatus SpellsWcc status.0 wcc
SpellsReply (kept.Remove wcc) = SpellsU32 0 ⨾ SpellsWcc wcc
SpellsReply (kept.RemoveFail status wcc) = SpellsStatus SpellsWcc status.0 wcc
SpellsReply (kept.RmDir wcc) = SpellsU32 0 ⨾ SpellsWcc wcc
SpellsReply (kept.RmDirFail status wcc) = SpellsStatus SpellsWcc status.0 wcc
SpellsReply (kept.Rename «from» to) = SpellsU32 0 ⨾ SpellsWcc «from» ⨾ SpellsWcc to
SpellsReply (kept.RenameFail status «from» to) = SpellsStatus {B = Wcc × Wcc} (λ v. SpellsWcc v.0 ⨾ SpellsWcc v.1) status.0 («from», to)
SpellsReply (kept.Link attr wcc) = SpellsU32 0 ⨾ SpellsOptAttr attr ⨾ SpellsWcc wcc
SpellsReply (kept.LinkFail status attr wcc) = SpellsStatus {B = Option Attr × Wcc} (λ v. SpellsOptAttr v.0 ⨾ SpellsWcc v.1) status.0 (attr, wcc)
SpellsReply (kept.ReadDir attr verf page eof) = SpellsU32 0 ⨾ SpellsOptAttr attr ⨾ SpellsVerf verf ⨾ SpellsList SpellsDirRow page ⨾ SpellsFlag eof
SpellsReply (kept.ReadDirFail status attr) = SpellsStatus SpellsOptAttr status.0 attr
SpellsReply (kept.ReadDirPlus attr verf page eof) = SpellsU32 0 ⨾ SpellsOptAttr attr ⨾ SpellsVerf verf ⨾ SpellsList SpellsPlusRow page ⨾ SpellsFlag eof
SpellsReply (kept.ReadDirPlusFail status attr) = SpellsStatus SpellsOptAttr status.0 attr

-- a reply to that procedure, and results that spell it
pub record SpellsDirReply (proc : ℕ) (reply : DirKept) (results : List ℕ) : Type 0 where
  pub of : reply_proc reply ≡ proc
  pub is : SpellsReply reply results

-- what the results of a procedure give
abbrev pub dir_reply_at : ℕ → List ℕ → Result DirKept XdrFault
dir_reply_at proc results =
    if proc == LOOKUP then lookup_at results else
    (if proc == READLINK then readlink_at results else
    (if proc == CREATE then create_at results else
    (if proc == MKDIR then mkdir_at results else
    (if proc == SYMLINK then symlink_at results else
    (if proc == MKNOD then mknod_at results else
    (if proc == REMOVE then remove_at results else
    (if proc == RMDIR then rmdir_at results else
    (if proc == RENAME then rename_at results else
    (if proc == LINK then link_at results else
    (if proc == READDIR then readdir_at results else
    (if proc == READDIRPLUS then readdirplus_at results else
    Err BadValue)))))))))))

-- a reply that has a spelling
abbrev pub HasSpellingDirReply : DirKept → Type 0
HasSpellingDirReply (kept.Lookup found attr dir) = Unit {0}
HasSpellingDirReply (kept.LookupFail status dir) = IsFailure status
HasSpellingDirReply (kept.ReadLink attr text) = length text ≤ 1024
HasSpellingDirReply (kept.ReadLinkFail status attr) = IsFailure status
HasSpellingDirReply (kept.Create found attr wcc) = Unit {0}
HasSpellingDirReply (kept.CreateFail status wcc) = IsFailure status
HasSpellingDirReply (kept.MkDir found attr wcc) = Unit {0}
HasSpellingDirReply (kept.MkDirFail status wcc) = IsFailure status
HasSpellingDirReply (kept.SymLink found attr wcc) = Unit {0}
HasSpellingDirReply (kept.SymLinkFail status wcc) = IsFailure status
HasSpellingDirReply (kept.MkNod found attr wcc) = Unit {0}
HasSpellingDirReply (kept.MkNodFail status wcc) = IsFailure status
HasSpellingDirReply (kept.Remove wcc) = Unit {0}
HasSpellingDirReply (kept.RemoveFail status wcc) = IsFailure status
HasSpellingDirReply (kept.RmDir wcc) = Unit {0}
HasSpellingDirReply (kept.RmDirFail status wcc) = IsFailure status
HasSpellingDirReply (kept.Rename «from» to) = Unit {0}
HasSpellingDirReply (kept.RenameFail status «from» to) = IsFailure status
HasSpellingDirReply (kept.Link attr wcc) = Unit {0}
HasSpellingDirReply (kept.LinkFail status attr wcc) = IsFailure status
HasSpellingDirReply (kept.ReadDir attr verf page eof) = Unit {0}
HasSpellingDirReply (kept.ReadDirFail status attr) = IsFailure status
HasSpellingDirReply (kept.ReadDirPlus attr verf page eof) = Unit {0}
HasSpellingDirReply (kept.ReadDirPlusFail status attr) = IsFailure status

-- its written spelling
unfoldable pub dir_reply_bytes : DirKept → List ℕ
dir_reply_bytes (kept.Lookup found attr dir) = lookup_bytes found attr dir
dir_reply_bytes (kept.LookupFail status dir) = attr_failure_bytes status dir
dir_reply_bytes (kept.ReadLink attr text) = readlink_bytes attr text
dir_reply_bytes (kept.ReadLinkFail status attr) = attr_failure_bytes status attr
dir_reply_bytes (kept.Create found attr wcc) = new_object_bytes found attr wcc
dir_reply_bytes (kept.CreateFail status wcc) = wcc_failure_bytes status wcc
dir_reply_bytes (kept.MkDir found attr wcc) = new_object_bytes found attr wcc
dir_reply_bytes (kept.MkDirFail status wcc) = wcc_failure_bytes status wcc
dir_reply_bytes (kept.SymLink found attr wcc) = new_object_bytes found attr wcc
dir_reply_bytes (kept.SymLinkFail status wcc) = wcc_failure_bytes status wcc
dir_reply_bytes (kept.MkNod found attr wcc) = new_object_bytes found attr wcc
dir_reply_bytes (kept.MkNodFail status wcc) = wcc_failure_bytes status wcc
dir_reply_bytes (kept.Remove wcc) = changed_bytes wcc
dir_reply_bytes (kept.RemoveFail status wcc) = wcc_failure_bytes status wcc
dir_reply_bytes (kept.RmDir wcc) = changed_bytes wcc
dir_reply_bytes (kept.RmDirFail status wcc) = wcc_failure_bytes status wcc
dir_reply_bytes (kept.Rename «from» to) = rename_bytes (record { 0 = 0 }) «from» to
dir_reply_bytes (kept.RenameFail status «from» to) = rename_bytes status «from» to
dir_reply_bytes (kept.Link attr wcc) = link_bytes (record { 0 = 0 }) attr wcc
dir_reply_bytes (kept.LinkFail status attr wcc) = link_bytes status attr wcc
dir_reply_bytes (kept.ReadDir attr verf page eof) = readdir_bytes attr verf page eof
dir_reply_bytes (kept.ReadDirFail status attr) = attr_failure_bytes status attr
dir_reply_bytes (kept.ReadDirPlus attr verf page eof) = readdirplus_bytes attr verf page eof
dir_reply_bytes (kept.ReadDirPlusFail status attr) = attr_failure_bytes status attr
