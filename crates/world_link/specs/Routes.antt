-- Each call is executed for the end that sent it, and each record goes to the end whose call it answers.
use Rattle.std.specs.Prelude.{◌≡◌, ◌<◌, ℕ, List, [], ◌∷◌, ◌++◌, length, Option, Some, None, slice_get, ⊤}
use Rattle.rpc_message.specs.Reply.{SpellsRefusal}
use Rattle.world_model.specs.declared.entry.Entry.{Entry}
use Rattle.world_model.specs.declared.entry.Entry.TheVariants.{Sent, Executed, Delivered}
use Rattle.world_model.specs.declared.message.Call.{Call}
use Rattle.world_model.specs.declared.message.Reply.{Reply}
use Rattle.world_model.specs.Messages.{HasXid, SpellsCall, SpellsReply}
use Rattle.export_serve.specs.Asking.{IsSound}
use Rattle.export_serve.specs.declared.request.Asked.{Asked}
use Rattle.world_link.specs.declared.directive.RequestId.{RequestId}
use Rattle.world_link.specs.declared.routed.Routed.{Routed}
use Rattle.world_link.specs.declared.routed.Told.{Told}
use Rattle.world_link.specs.Honest.{Every}
use Rattle.world_link.specs.Ends.{ServerEnds, WorldEnds}

-- the entry at this place, of this end
abbrev pub TellsAt : List Told → ℕ → ℕ → Entry → Type 0
TellsAt told n end entry = slice_get told n ≡ Some (record { end = end; entry = entry })

-- its end sent the record
abbrev pub IsSentBy : List Told → Routed → Type 0
IsSentBy told r = (at : ℕ) × TellsAt told at r.end (Sent r.bytes)

-- before the place n that end sent this call under this xid
pub record SentCall (told : List Told) (end n xid : ℕ) (call : Call) : Type 0 where
  pub at : ℕ
  pub bytes : List ℕ
  pub before : at < n
  pub sent : TellsAt told at end (Sent bytes)
  pub spells : SpellsCall xid call bytes

-- Before the place n a call of that end was executed to which the record replies, or that end sent one that it refuses.
pub data AnswersAt (told : List Told) (end n : ℕ) (bytes : List ℕ) : Type 0 where
  replied : (m xid : ℕ) (call : Call) (reply : Reply) → m < n → TellsAt told m end (Executed xid call reply) → SpellsReply xid call reply bytes
      → AnswersAt told end n bytes
  refused : (m xid code : ℕ) (sent : List ℕ) → m < n → TellsAt told m end (Sent sent) → HasXid sent xid → SpellsRefusal xid code bytes
      → AnswersAt told end n bytes

-- the record answers a call of its end
abbrev pub Answers : List Told → Routed → Type 0
Answers told r = AnswersAt told r.end (length told) r.bytes

-- a reply to that end, if there is one, is such a record
abbrev pub MayAnswerTo : List Told → ℕ → Option (List ℕ) → Type 0
MayAnswerTo told end None = ⊤
MayAnswerTo told end (Some bytes) = AnswersAt told end (length told) bytes

-- A record that the end sent asks for this.
pub record IsAskedBy (told : List Told) (end : ℕ) (asked : Asked) : Type 0 where
  pub bytes : List ℕ
  pub sent : IsSentBy told (record { end = end; bytes = bytes })
  pub sound : IsSound bytes asked

-- The ends of what the server's side tells and holds are right.
pub record AreRouted (v : ServerEnds) : Type 0 where
  pub executed : (n end xid : ℕ) (call : Call) (reply : Reply) → TellsAt v.told n end (Executed xid call reply) → SentCall v.told end n xid call
  pub delivered : (n end : ℕ) (bytes : List ℕ) → TellsAt v.told n end (Delivered bytes) → AnswersAt v.told end n bytes
  pub sent : (s : RequestId) (r : Routed) → v.sent s ≡ Some r → IsSentBy v.told r
  pub ready : Every (Answers v.told) v.ready
  pub held : Every (Answers v.told) v.held

-- More is told, and ends that are right stay right, if this holds.
pub record KeepsEnds (such : Type 0) (old new : ServerEnds) : Type 0 where
  pub more : List Told
  pub grown : new.told ≡ old.told ++ more
  pub right : such → AreRouted old → AreRouted new

-- The ends are right, also of the records that wait for their turns.
pub record AreAllRouted (w : WorldEnds) : Type 0 where
  pub server : AreRouted w.server
  pub waiting : Every (IsSentBy w.server.told) w.waiting

-- More is told, and ends that are right stay right.
pub record KeepsAllEnds (old new : WorldEnds) : Type 0 where
  pub more : List Told
  pub grown : new.server.told ≡ old.server.told ++ more
  pub right : AreAllRouted old → AreAllRouted new
