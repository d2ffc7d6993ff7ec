-- A service: an export, and the replies that it kept; and what it makes of a record.
use Rattle.std.specs.Prelude.{◌≡◌, ◌⊎◌, ℕ, List, Option, Some, None}
use Rattle.world_model.specs.declared.message.Call.{Call}
use Rattle.world_model.specs.Service.{Serves}
use Rattle.export_fs.specs.View.{View}
use Rattle.export_fs.specs.Executed.{executed}
use Rattle.export_fs.specs.Seen.{server_of}
use Rattle.export_serve.specs.declared.request.Asked.{Asked}
use Rattle.export_serve.specs.declared.request.Asked.TheVariants as askings
use Rattle.export_serve.specs.declared.kept_replies.KeptReply.{KeptReply}
use Rattle.export_serve.specs.Asking.{asked_at}
use Rattle.export_serve.specs.Kept.{reply_kept, keeps}
use Rattle.export_serve.specs.Spelling.{reply_bytes}

pub record ServiceView : Type 0 where
  pub export : View
  pub kept : List KeptReply

-- the record of the reply to a call
abbrev pub reply_of : View → ℕ → Call → List ℕ
reply_of view xid call = reply_bytes xid (executed view call).1

-- the export after a call
abbrev pub after : View → Call → View
after view call = (executed view call).0

-- A call is executed once, and the reply to it is kept.
abbrev pub executes : List ℕ → ℕ → Call → ServiceView → ServiceView
executes rec xid call old = record {
  export = after old.export call;
  kept = keeps (record { xid = xid; call = rec; reply = reply_of old.export xid call }) old.kept;
}

-- by what a record asks for: nothing; a refusal, which executes nothing and isn't kept; or a call that is executed
abbrev pub serves : List ℕ → Asked → ServiceView → ServiceView × Option (List ℕ)
serves rec askings.NoCall old = (old, None)
serves rec (askings.Refuse xid bytes) old = (old, Some bytes)
serves rec (askings.Serve xid call) old = (executes rec xid call old, Some (reply_of old.export xid call))

-- a reply that is kept of an equal record is the answer, and nothing is executed
abbrev pub serves_by : Option (List ℕ) → List ℕ → ServiceView → ServiceView × Option (List ℕ)
serves_by (Some reply) rec old = (old, Some reply)
serves_by None rec old = serves rec (asked_at rec) old

-- the service after a record, and the record of the answer
abbrev pub served : List ℕ → ServiceView → ServiceView × Option (List ℕ)
served rec old = serves_by (reply_kept rec old.kept) rec old

-- A record whose reply wasn't kept asked for a call, and the export took its step; no reply to it is kept.
pub record Stepped (rec : List ℕ) (old new : ServiceView) : Type 0 where
  pub xid : ℕ
  pub call : Call
  pub asks : asked_at rec ≡ askings.Serve xid call
  pub unkept : reply_kept rec old.kept ≡ None
  pub is : new ≡ record old { export = after old.export call }

-- What out of memory leaves: all as it was, or that step.
abbrev pub LeftByMemory : List ℕ → ServiceView → ServiceView → Type 0
LeftByMemory rec old new = (new ≡ old) ⊎ Stepped rec old new

-- A call that no reply is kept of is one step of a server, with the reply of the export.
abbrev pub StepsOnce : List ℕ → ServiceView → ServiceView → Type 0
StepsOnce rec old new =
    (xid : ℕ) (call : Call) → asked_at rec ≡ askings.Serve xid call → reply_kept rec old.kept ≡ None
    → Serves (server_of old.export) call (executed old.export call).1 (server_of new.export)
