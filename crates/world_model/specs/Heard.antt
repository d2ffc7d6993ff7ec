-- Which call was made, and which record came in answer to it.
use Rattle.std.specs.Prelude.{◌≡◌, ◌≢◌, ◌<◌, ◌≤◌, ℕ, List}
use Rattle.rpc_message.specs.Reply.{SpellsRefusal}
use Rattle.mount_calls.specs.declared.reply.MountReply.TheVariants as mounted
use Rattle.nfs_dir_calls.specs.declared.keeping.DirKept.TheVariants as found
use Rattle.nfs_file_calls.specs.declared.owned.FileKept.TheVariants as kept
use Rattle.world_model.specs.declared.entry.Entry.{Entry}
use Rattle.world_model.specs.declared.message.Call.{Call}
use Rattle.world_model.specs.declared.message.Reply.{Reply}
use Rattle.world_model.specs.declared.message.Reply.TheVariants as replies
use Rattle.world_model.specs.declared.answer.Fault.{Fault}
use Rattle.world_model.specs.declared.answer.Fault.TheVariants as faults
use Rattle.world_model.specs.Messages.{SpellsCall, SpellsReply}
use Rattle.world_model.specs.Rules.{Breaks}
use Rattle.world_model.specs.Waiting.{FirstSent, Answers}

-- Between the places from and to a call was first sent, and a record came under its xid while it waited.
pub record Heard (h : List Entry) (from to : ℕ) (call : Call) (xid : ℕ) (bytes : List ℕ) : Type 0 where
  pub sent_at : ℕ
  pub record_sent : List ℕ
  pub got_at : ℕ
  pub sent : FirstSent h sent_at xid record_sent
  pub spells : SpellsCall xid call record_sent
  pub got : Answers h got_at xid bytes
  pub after : from ≤ sent_at
  pub later : sent_at < got_at
  pub before : got_at < to

-- The call was answered so.
pub record Asked (h : List Entry) (from to : ℕ) (call : Call) (reply : Reply) : Type 0 where
  pub xid : ℕ
  pub bytes : List ℕ
  pub heard : Heard h from to call xid bytes
  pub spells : SpellsReply xid call reply bytes

-- the status that a reply shows: that of a failure, else 0
abbrev pub status_of : Reply → ℕ
status_of (replies.Dir (found.LookupFail status dir)) = status.0
status_of (replies.Dir (found.ReadLinkFail status attr)) = status.0
status_of (replies.Dir (found.CreateFail status wcc)) = status.0
status_of (replies.Dir (found.MkDirFail status wcc)) = status.0
status_of (replies.Dir (found.SymLinkFail status wcc)) = status.0
status_of (replies.Dir (found.MkNodFail status wcc)) = status.0
status_of (replies.Dir (found.RemoveFail status wcc)) = status.0
status_of (replies.Dir (found.RmDirFail status wcc)) = status.0
status_of (replies.Dir (found.RenameFail status source target)) = status.0
status_of (replies.Dir (found.LinkFail status attr wcc)) = status.0
status_of (replies.Dir (found.ReadDirFail status attr)) = status.0
status_of (replies.Dir (found.ReadDirPlusFail status attr)) = status.0
status_of (replies.File (kept.GetAttrFail status)) = status.0
status_of (replies.File (kept.SetAttrFail status wcc)) = status.0
status_of (replies.File (kept.AccessFail status attr)) = status.0
status_of (replies.File (kept.ReadFail status attr)) = status.0
status_of (replies.File (kept.WriteFail status wcc)) = status.0
status_of (replies.File (kept.FsStatFail status attr)) = status.0
status_of (replies.File (kept.FsInfoFail status attr)) = status.0
status_of (replies.File (kept.PathConfFail status attr)) = status.0
status_of (replies.File (kept.CommitFail status wcc)) = status.0
status_of (replies.Mount (mounted.MntFail stat)) = stat
status_of reply = 0

-- The record refuses the call: by a status that isn't 0, by RPC, or by breaking a rule.
abbrev pub Refuses : ℕ → Call → List ℕ → Fault → Type 0
Refuses xid call bytes (faults.Nfs n) = (reply : Reply) × SpellsReply xid call reply bytes × (status_of reply ≡ n) × (n ≢ 0)
Refuses xid call bytes (faults.Rpc n) = SpellsRefusal xid n bytes
Refuses xid call bytes (faults.Bad n) = Breaks xid call bytes n
Refuses xid call bytes fault = ⊥

-- The call was refused so.
pub record Refused (h : List Entry) (from to : ℕ) (call : Call) (fault : Fault) : Type 0 where
  pub xid : ℕ
  pub bytes : List ℕ
  pub heard : Heard h from to call xid bytes
  pub refuses : Refuses xid call bytes fault
