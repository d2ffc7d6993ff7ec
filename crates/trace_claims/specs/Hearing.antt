-- Replies that came: to which calls, and what they say.
use Rattle.std.specs.Prelude.{◌≡◌, ◌<◌, ◌+◌, ℕ, List, [], ◌∷◌, Option, Some, None, MatchOption, slice_get}
use Rattle.world_model.specs.declared.entry.Entry.{Entry}
use Rattle.world_model.specs.declared.entry.Entry.TheVariants.{Delivered}
use Rattle.world_model.specs.declared.message.Call.{Call}
use Rattle.world_model.specs.declared.message.Reply.{Reply}
use Rattle.world_model.specs.Entries.{At}
use Rattle.world_model.specs.Messages.{HasXid, SpellsCall, SpellsReply}
use Rattle.world_model.specs.Waiting.{FirstSent, Waits, Answers}
use Rattle.trace_answers.specs.Calling.{IsCallBefore}
use Rattle.trace_claims.specs.declared.records.Heard.{Heard}

-- the record that came at the place g answers this call, which was sent before, and spells this reply to it
pub record HeardAt (h : List Entry) (g : ℕ) (call : Call) (reply : Reply) : Type 0 where
  pub xid : ℕ
  pub bytes : List ℕ
  pub sent_at : ℕ
  pub record_sent : List ℕ
  pub sent : FirstSent h sent_at xid record_sent
  pub asks : SpellsCall xid call record_sent
  pub got : Answers h g xid bytes
  pub later : sent_at < g
  pub spells : SpellsReply xid call reply bytes

-- none does
abbrev pub NoneHeard : List Entry → ℕ → Type 0
NoneHeard h g = (call : Call) (reply : Reply) → HeardAt h g call reply → ⊥

abbrev pub IsThis : Heard → Call → Reply → Type 0
IsThis r call reply = (r.call ≡ call) × (r.reply ≡ reply)

-- this reply, and no other
pub record IsHeardAt (h : List Entry) (g after : ℕ) (r : Heard) : Type 0 where
  pub there : r.place ≡ g
  pub after_is : r.after ≡ after
  pub is : HeardAt h g r.call r.reply
  pub only : (call : Call) (reply : Reply) → HeardAt h g call reply → IsThis r call reply

abbrev pub FindsHeard : List Entry → (g after : ℕ) → Option Heard → Type 0
FindsHeard h g after found = MatchOption found (NoneHeard h g) (IsHeardAt h g after)

-- the record that came at the place g is under this xid, which waited
pub record CameUnder (h : List Entry) (g xid : ℕ) : Type 0 where
  pub bytes : List ℕ
  pub got : At h g (Delivered bytes)
  pub under : HasXid bytes xid

-- and under it this call was sent before
pub record IsCalled (h : List Entry) (g xid : ℕ) (call : Call) : Type 0 where
  pub came : CameUnder h g xid
  pub waits : Waits h xid g
  pub call_is : IsCallBefore h xid g call

-- it is a reply of the history
pub record IsReply (h : List Entry) (r : Heard) : Type 0 where
  pub is : HeardAt h r.place r.call r.reply
  pub after_is : r.after ≡ r.place + 1

abbrev pub ListsHeard : List Heard → ℕ → Call → Reply → Type 0
ListsHeard rs g call reply = (k : ℕ) × (r : Heard) × (slice_get rs k ≡ Some r) × (r.place ≡ g) × IsThis r call reply

-- the list has all replies that came before the place n, and those alone
pub record HasHeard (h : List Entry) (n : ℕ) (rs : List Heard) : Type 0 where
  pub each : (k : ℕ) (r : Heard) → slice_get rs k ≡ Some r → IsReply h r
  pub every : (g : ℕ) (call : Call) (reply : Reply) → HeardAt h g call reply → g < n → ListsHeard rs g call reply

abbrev pub heard_list : Option Heard → List Heard
heard_list None = []
heard_list (Some r) = r ∷ []
