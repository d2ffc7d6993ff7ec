-- Taking a reply, which has the xid of its call (RFC 5531, section 9).
use Rattle.std.specs.Prelude.{◌≡◌, ℕ, List, Option, Some, None, Result}
use Rattle.rpc_message.specs.Call.{xid_at}
use Rattle.rpc_message.specs.Reply.{reply_at, reply_of, GivesReply, FindsReply}
use Rattle.rpc_message.specs.declared.reply.Reply.{Reply}
use Rattle.rpc_message.specs.declared.reply.ReplyFault.{ReplyFault}
use Rattle.rpc_retry.specs.declared.answers.Taken.{Taken}
use Rattle.rpc_retry.specs.declared.answers.Taken.TheVariants.{Dropped, Took}
use Rattle.rpc_retry.specs.declared.waiting.Waiting.{Waiting}
use Rattle.rpc_retry.specs.Waiting.{waiting_at, without}

-- the record read as a reply: what reading gives, and what it spells
pub record ReadsBody (rec : List ℕ) (body : Result Reply ReplyFault) : Type 0 where
  pub exact : GivesReply reply_of body (reply_at rec)
  pub spelled : FindsReply reply_of body rec

module _ {P : Type 0} where
  -- the call that waits for a record whose first word is this xid
  abbrev pub awaited : Option ℕ → List (ℕ × Waiting P) → Option (Waiting P)
  awaited None calls = None
  awaited (Some xid) calls = waiting_at xid calls

  -- the first word of the record is an xid that waits, and the purpose is that call's
  pub record TakesReply (calls : List (ℕ × Waiting P)) (rec : List ℕ) (xid : ℕ) (purpose : P) : Type 0 where
    pub named : xid_at rec ≡ Some xid
    pub call : Waiting P
    pub waits : waiting_at xid calls ≡ Some call
    pub is : purpose ≡ call.purpose

  -- a record is dropped if no call waits for it, and else its reply is taken
  abbrev pub Takes : List (ℕ × Waiting P) → List ℕ → Taken P → Type 0
  Takes calls rec Dropped = awaited (xid_at rec) calls ≡ None
  Takes calls rec (Took xid purpose body) = TakesReply calls rec xid purpose × ReadsBody rec body

  -- the same without what the record is as a reply: the xid, and what the call was made for
  abbrev pub TakesPurpose : List (ℕ × Waiting P) → List ℕ → Option (ℕ × P) → Type 0
  TakesPurpose calls rec None = awaited (xid_at rec) calls ≡ None
  TakesPurpose calls rec (Some took) = TakesReply calls rec took.0 took.1

  -- the calls that wait after a record with this first word
  abbrev pub after_taking : Option ℕ → List (ℕ × Waiting P) → List (ℕ × Waiting P)
  after_taking None calls = calls
  after_taking (Some xid) calls = without xid calls

  -- a record that was dropped leaves all as it was
  abbrev pub IfDropped : Taken P → Type 0 → Type 0
  IfDropped Dropped F = F
  IfDropped (Took xid purpose body) F = Unit {0}
