-- Which call was made under an xid, and the call of the last record that came.
use Rattle.std.specs.Prelude.{◌≡◌, ◌==◌, ◌<◌, ◌≤◌, ℕ, List, Option, Some, None, MatchOption, if◌then◌else◌}
use Rattle.world_model.specs.declared.entry.Entry.{Entry}
use Rattle.world_model.specs.declared.entry.Entry.TheVariants.{Delivered}
use Rattle.world_model.specs.declared.message.Call.{Call}
use Rattle.world_model.specs.Entries.{At}
use Rattle.world_model.specs.Messages.{HasXid, SpellsCall}
use Rattle.world_model.specs.Operations.{LastReply}
use Rattle.world_model.specs.Waiting.{FirstSent}
use Rattle.export_serve.specs.declared.request.Asked.{Asked}
use Rattle.export_serve.specs.declared.request.Asked.TheVariants as askings
use Rattle.trace_answers.specs.declared.calls.LastCall.{LastCall}

-- the call that a record is under the xid, if it is one, and no other
pub record IsCallOf (xid : ℕ) (rec : List ℕ) (call : Call) : Type 0 where
  pub spells : SpellsCall xid call rec
  pub only : (other : Call) → SpellsCall xid other rec → other ≡ call

abbrev pub FindsCall : ℕ → List ℕ → Option Call → Type 0
FindsCall xid rec found = MatchOption found ((call : Call) → SpellsCall xid call rec → ⊥) (IsCallOf xid rec)

-- what a record asks for, if it is under the xid
abbrev pub call_in : ℕ → Asked → Option Call
call_in xid askings.NoCall = None
call_in xid (askings.Refuse its bytes) = None
call_in xid (askings.Serve its call) = if its == xid then Some call else None

-- the record that was first sent under the xid is this call, and was sent before the place n
pub record CallBefore (h : List Entry) (xid n : ℕ) (call : Call) : Type 0 where
  pub sent_at : ℕ
  pub bytes : List ℕ
  pub sent : FirstSent h sent_at xid bytes
  pub spells : SpellsCall xid call bytes
  pub before : sent_at < n

-- this call and no other
pub record IsCallBefore (h : List Entry) (xid n : ℕ) (call : Call) : Type 0 where
  pub is : CallBefore h xid n call
  pub only : (other : Call) → CallBefore h xid n other → other ≡ call

abbrev pub NoCallBefore : List Entry → ℕ → ℕ → Type 0
NoCallBefore h xid n = (call : Call) → CallBefore h xid n call → ⊥

-- a record came at the place
abbrev pub CameAt : List Entry → ℕ → Type 0
CameAt h at = (bytes : List ℕ) × At h at (Delivered bytes)

abbrev pub called_so : ℕ → ℕ → Option Call → Option LastCall
called_so at xid None = None
called_so at xid (Some call) = Some (record { at = at; xid = xid; call = call })

-- the record that came at a place is under the xid of this call, which was sent before
pub record CalledAt (h : List Entry) (at : ℕ) (l : LastCall) : Type 0 where
  pub here : l.at ≡ at
  pub bytes : List ℕ
  pub got : At h at (Delivered bytes)
  pub under : HasXid bytes l.xid
  pub call : IsCallBefore h l.xid at l.call

abbrev pub NoCallAt : List Entry → ℕ → Type 0
NoCallAt h at = (bytes : List ℕ) (xid : ℕ) (call : Call) → At h at (Delivered bytes) → HasXid bytes xid → CallBefore h xid at call → ⊥

-- the last record that came before the place n, and its call
pub record LastCalled (h : List Entry) (n : ℕ) (l : LastCall) : Type 0 where
  pub replies : LastReply h n l.call
  pub place : replies.at ≡ l.at
  pub xid : replies.xid ≡ l.xid
  pub only : (other : Call) → LastReply h n other → other ≡ l.call

abbrev pub NoneCalled : List Entry → ℕ → Type 0
NoneCalled h n = (call : Call) → LastReply h n call → ⊥
