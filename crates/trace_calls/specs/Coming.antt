-- Which reply a record is, and which entry it answers (RFC 5531, section 9).
use Rattle.std.specs.Prelude.{◌≡◌, ℕ, List, Option, MatchOption}
use Rattle.rpc_message.specs.Reply.{SpellsAccepted, SpellsRefusal}
use Rattle.world_model.specs.declared.entry.Entry.{Entry}
use Rattle.world_model.specs.declared.entry.Entry.TheVariants as entries
use Rattle.world_model.specs.declared.message.Call.{Call}
use Rattle.world_model.specs.declared.message.Reply.{Reply}
use Rattle.world_model.specs.Entries.{At}
use Rattle.world_model.specs.Messages.{HasXid, SpellsReply, SpellsResults}
use Rattle.export_fs.specs.Spelling.{HasSpellingReply}

-- the record is an accepted reply with these results alone
pub record HasResults (xid : ℕ) (rec results : List ℕ) : Type 0 where
  pub accepted : SpellsAccepted xid results rec
  pub only : (other : List ℕ) → SpellsAccepted xid other rec → other ≡ results

-- the record is no accepted reply under the xid
abbrev pub NoResults : ℕ → List ℕ → Type 0
NoResults xid rec = (results : List ℕ) → SpellsAccepted xid results rec → ⊥

-- the results are this reply to the call, which can be spelled again, and no other
pub record IsResultOf (call : Call) (results : List ℕ) (reply : Reply) : Type 0 where
  pub spells : SpellsResults call reply results
  pub writable : HasSpellingReply reply
  pub only : (other : Reply) → SpellsResults call other results → other ≡ reply

-- the reply to the call that the results are, if they are one
abbrev pub FindsResult : Call → List ℕ → Option Reply → Type 0
FindsResult call results found = MatchOption found ((reply : Reply) → SpellsResults call reply results → ⊥) (IsResultOf call results)

-- the record is this reply to the call under the xid, which can be spelled again, and no other
pub record IsReplyTo (xid : ℕ) (call : Call) (rec : List ℕ) (reply : Reply) : Type 0 where
  pub spells : SpellsReply xid call reply rec
  pub writable : HasSpellingReply reply
  pub only : (other : Reply) → SpellsReply xid call other rec → other ≡ reply

-- the reply to the call that the record is, if it is one
abbrev pub FindsReplyTo : ℕ → Call → List ℕ → Option Reply → Type 0
FindsReplyTo xid call rec found = MatchOption found ((reply : Reply) → SpellsReply xid call reply rec → ⊥) (IsReplyTo xid call rec)

-- a record refuses the call under the xid, by some number
abbrev pub IsRefusal : ℕ → List ℕ → Type 0
IsRefusal xid rec = (code : ℕ) × SpellsRefusal xid code rec

-- a record refuses the call that another one is
abbrev pub Refuses : List ℕ → List ℕ → Type 0
Refuses sent rec = (xid : ℕ) × HasXid sent xid × IsRefusal xid rec

-- entry m executes a call to which the record is the reply, or sends one that it refuses
pub data AnswersEntry (h : List Entry) (m : ℕ) (rec : List ℕ) : Type 0 where
  replied : (xid : ℕ) (call : Call) (reply : Reply) → At h m (entries.Executed xid call reply) → SpellsReply xid call reply rec → AnswersEntry h m rec
  refused : (sent : List ℕ) → At h m (entries.Sent sent) → Refuses sent rec → AnswersEntry h m rec
