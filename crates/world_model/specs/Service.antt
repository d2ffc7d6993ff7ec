-- What a server may answer to a call, and what the call changes (RFC 1813, sections 3.3 and 5.2).
use Rattle.std.specs.Prelude.{◌≡◌, ◌≢◌, ◌⊎◌, ℕ, List, Option}
use Rattle.nfs_types.specs.declared.attr.Attr.{Attr}
use Rattle.nfs_types.specs.declared.status.Status.{Status}
use Rattle.nfs_types.specs.declared.wcc.Wcc.{Wcc}
use Rattle.mount_calls.specs.declared.call.MountCall.{MountCall}
use Rattle.mount_calls.specs.declared.call.MountCall.TheVariants as mounts
use Rattle.mount_calls.specs.declared.reply.MountReply.{MountReply}
use Rattle.mount_calls.specs.declared.reply.MountReply.TheVariants as mounted
use Rattle.nfs_file_calls.specs.declared.call.FileCall.{FileCall}
use Rattle.nfs_file_calls.specs.declared.call.FileCall.TheVariants as files
use Rattle.nfs_file_calls.specs.declared.owned.FileKept.{FileKept}
use Rattle.nfs_file_calls.specs.declared.owned.FileKept.TheVariants as kept
use Rattle.nfs_dir_calls.specs.declared.call.DirCall.{DirCall}
use Rattle.nfs_dir_calls.specs.declared.call.DirCall.TheVariants as dirs
use Rattle.nfs_dir_calls.specs.declared.keeping.DirKept.{DirKept}
use Rattle.nfs_dir_calls.specs.declared.keeping.DirKept.TheVariants as found
use Rattle.world_model.specs.declared.message.Call.{Call}
use Rattle.world_model.specs.declared.message.Call.TheVariants as calls
use Rattle.world_model.specs.declared.message.Reply.{Reply}
use Rattle.world_model.specs.declared.message.Reply.TheVariants as replies
use Rattle.world_model.specs.Server.{Server}
use Rattle.world_model.specs.Steps.{Same, TrueOf, TrueWcc}
use Rattle.world_model.specs.FileService.{GetsAttr, Asks, SetsAttr, ReadsBytes, Writes, WritesPrefix, Commits}
use Rattle.world_model.specs.NameService.{LooksUp, ReadsLink, Shown, Creates, MakesDir, MakesLink, MakesNode, Links, Removes, Renames, KeepsNames}
use Rattle.world_model.specs.ListService.{ListsNames, ListsObjects}

-- ---- calls that are refused

-- a status other than 0, and attributes that are true of the server
pub record RefusesWith (s : Server) (status : Status) (h : List ℕ) (attr : Option Attr) : Type 0 where
  pub nonzero : status.0 ≢ 0
  pub shows : TrueOf s h attr

pub record RefusesWcc (s : Server) (status : Status) (h : List ℕ) (wcc : Wcc) : Type 0 where
  pub nonzero : status.0 ≢ 0
  pub shows : TrueWcc s s h wcc

-- any call on a file may be refused
abbrev pub RefusesFile : Server → FileCall → FileKept → Type 0
RefusesFile s (files.GetAttr f) (kept.GetAttrFail status) = status.0 ≢ 0
RefusesFile s (files.SetAttr f set guard) (kept.SetAttrFail status wcc) = RefusesWcc s status f wcc
RefusesFile s (files.Access f bits) (kept.AccessFail status attr) = RefusesWith s status f attr
RefusesFile s (files.Read f offset count) (kept.ReadFail status attr) = RefusesWith s status f attr
RefusesFile s (files.Write f offset how bytes) (kept.WriteFail status wcc) = RefusesWcc s status f wcc
RefusesFile s (files.FsStat f) (kept.FsStatFail status attr) = RefusesWith s status f attr
RefusesFile s (files.FsInfo f) (kept.FsInfoFail status attr) = RefusesWith s status f attr
RefusesFile s (files.PathConf f) (kept.PathConfFail status attr) = RefusesWith s status f attr
RefusesFile s (files.Commit f offset count) (kept.CommitFail status wcc) = RefusesWcc s status f wcc
RefusesFile s call reply = ⊥

-- and so may any call on a name
abbrev pub RefusesDir : Server → DirCall → DirKept → Type 0
RefusesDir s (dirs.Lookup d name) (found.LookupFail status attr) = RefusesWith s status d attr
RefusesDir s (dirs.ReadLink f) (found.ReadLinkFail status attr) = RefusesWith s status f attr
RefusesDir s (dirs.Create d name making) (found.CreateFail status wcc) = RefusesWcc s status d wcc
RefusesDir s (dirs.MkDir d name set) (found.MkDirFail status wcc) = RefusesWcc s status d wcc
RefusesDir s (dirs.SymLink d name set target) (found.SymLinkFail status wcc) = RefusesWcc s status d wcc
RefusesDir s (dirs.MkNod d name node) (found.MkNodFail status wcc) = RefusesWcc s status d wcc
RefusesDir s (dirs.Remove d name) (found.RemoveFail status wcc) = RefusesWcc s status d wcc
RefusesDir s (dirs.RmDir d name) (found.RmDirFail status wcc) = RefusesWcc s status d wcc
RefusesDir s (dirs.Rename d old e new) (found.RenameFail status source target) = RefusesWcc s status d source × TrueWcc s s e target
RefusesDir s (dirs.Link f d name) (found.LinkFail status attr wcc) = RefusesWcc s status d wcc × TrueOf s f attr
RefusesDir s (dirs.ReadDir d cookie verf count) (found.ReadDirFail status attr) = RefusesWith s status d attr
RefusesDir s (dirs.ReadDirPlus d cookie verf dircount maxcount) (found.ReadDirPlusFail status attr) = RefusesWith s status d attr
RefusesDir s call reply = ⊥

-- and so may MNT
abbrev pub RefusesMount : MountCall → MountReply → Type 0
RefusesMount (mounts.Mnt path) (mounted.MntFail stat) = stat ≢ 0
RefusesMount call reply = ⊥

abbrev pub Refuses : Server → Call → Reply → Type 0
Refuses s (calls.File call) (replies.File reply) = RefusesFile s call reply
Refuses s (calls.Dir call) (replies.Dir reply) = RefusesDir s call reply
Refuses s (calls.Mount call) (replies.Mount reply) = RefusesMount call reply
Refuses s call reply = ⊥

-- ---- calls that are done

abbrev pub DoesFile : Server → FileCall → FileKept → Server → Type 0
DoesFile s files.Null kept.Null t = Same s t
DoesFile s (files.GetAttr f) (kept.GetAttr attr) t = GetsAttr s t f attr
DoesFile s (files.SetAttr f set guard) (kept.SetAttr wcc) t = SetsAttr s t f set × TrueWcc s t f wcc
DoesFile s (files.Access f bits) (kept.Access attr granted) t = Asks s t f attr
DoesFile s (files.Read f offset count) (kept.Read attr counted eof bytes) t = ReadsBytes s t f offset count attr counted eof bytes
DoesFile s (files.Write f offset how bytes) (kept.Write wcc counted committed verf) t = Writes s t f offset how bytes wcc counted committed verf
DoesFile s (files.FsStat f) (kept.FsStat attr tbytes fbytes abytes tfiles ffiles afiles invarsec) t = Asks s t f attr
DoesFile s (files.FsInfo f) (kept.FsInfo attr rtmax rtpref rtmult wtmax wtpref wtmult dtpref maxfilesize delta properties) t = Asks s t f attr
DoesFile s (files.PathConf f) (kept.PathConf attr linkmax name_max no_trunc chown_restricted case_insensitive case_preserving) t = Asks s t f attr
DoesFile s (files.Commit f offset count) (kept.Commit wcc verf) t = Commits s t f offset count wcc verf
DoesFile s call reply t = ⊥

abbrev pub DoesDir : Server → DirCall → DirKept → Server → Type 0
DoesDir s (dirs.Lookup d name) (found.Lookup object attr dir) t = LooksUp s t d name object attr dir
DoesDir s (dirs.ReadLink f) (found.ReadLink attr text) t = ReadsLink s t f attr text
DoesDir s (dirs.Create d name making) (found.Create object attr wcc) t = Creates s t d name making × Shown t d name object attr × TrueWcc s t d wcc
DoesDir s (dirs.MkDir d name set) (found.MkDir object attr wcc) t = MakesDir s t d name × Shown t d name object attr × TrueWcc s t d wcc
DoesDir s (dirs.SymLink d name set target) (found.SymLink object attr wcc) t = MakesLink s t d name target × Shown t d name object attr × TrueWcc s t d wcc
DoesDir s (dirs.MkNod d name node) (found.MkNod object attr wcc) t = MakesNode s t d name node × Shown t d name object attr × TrueWcc s t d wcc
DoesDir s (dirs.Remove d name) (found.Remove wcc) t = Removes s t d name × TrueWcc s t d wcc
DoesDir s (dirs.RmDir d name) (found.RmDir wcc) t = Removes s t d name × TrueWcc s t d wcc
DoesDir s (dirs.Rename d old e new) (found.Rename source target) t = (Renames s t d old e new ⊎ KeepsNames s t d old e new) × TrueWcc s t d source
    × TrueWcc s t e target
DoesDir s (dirs.Link f d name) (found.Link attr wcc) t = Links s t f d name × TrueOf t f attr × TrueWcc s t d wcc
DoesDir s (dirs.ReadDir d cookie verf count) (found.ReadDir attr check rows eof) t = ListsNames s t d attr rows eof
DoesDir s (dirs.ReadDirPlus d cookie verf dircount maxcount) (found.ReadDirPlus attr check rows eof) t = ListsObjects s t d attr rows eof
DoesDir s call reply t = ⊥

-- the calls of MOUNT change nothing
abbrev pub DoesMount : Server → MountCall → MountReply → Server → Type 0
DoesMount s mounts.Null mounted.Null t = Same s t
DoesMount s (mounts.Mnt path) (mounted.MntOk root flavors) t = Same s t
DoesMount s (mounts.Umnt path) mounted.Umnt t = Same s t
DoesMount s mounts.Export (mounted.Export list) t = Same s t
DoesMount s call reply t = ⊥

abbrev pub Does : Server → Call → Reply → Server → Type 0
Does s (calls.File call) (replies.File reply) t = DoesFile s call reply t
Does s (calls.Dir call) (replies.Dir reply) t = DoesDir s call reply t
Does s (calls.Mount call) (replies.Mount reply) t = DoesMount s call reply t
Does s call reply t = ⊥

-- The server s answers the call so, and is t afterwards: it refuses the call, and nothing changes; or it refuses a WRITE
-- of which it put a prefix into the file; or it does what the call asks for.
pub data Serves (s : Server) (call : Call) (reply : Reply) (t : Server) : Type 0 where
  refused : Refuses s call reply → Same s t → Serves s call reply t
  broken_off : (f : List ℕ) (offset how : ℕ) (bytes : List ℕ) (status : Status) (wcc : Wcc) → call ≡ calls.File (files.Write f offset how bytes)
      → reply ≡ replies.File (kept.WriteFail status wcc) → WritesPrefix s t f offset bytes status wcc
      → Serves s call reply t
  done : Does s call reply t → Serves s call reply t
