-- When both sides of a history of two clients are lawful: the whole is lawful as if it were that of one client, and each reply goes to the end that called.
use Rattle.std.specs.Prelude.{◌≡◌, ◌<◌, ℕ, List, Some, slice_get}
use Rattle.rpc_message.specs.Reply.{SpellsRefusal}
use Rattle.world_model.specs.declared.entry.Entry.{Entry}
use Rattle.world_model.specs.declared.entry.Entry.TheVariants.{Sent, Executed, Foreign, Flushed, Reboot, Delivered}
use Rattle.world_model.specs.declared.message.Call.{Call}
use Rattle.world_model.specs.declared.message.Reply.{Reply}
use Rattle.world_model.specs.History.{History}
use Rattle.world_model.specs.Lawful.{Lawful}
use Rattle.world_model.specs.Messages.{HasXid, SpellsCall, SpellsReply}
use Rattle.outside.specs.Pairs.{PairStep, PairTold, entries_of, server_at, side}

-- all entries, as those of one client
abbrev pub whole : PairTold → History
whole h = record { entries = entries_of h.steps; at = server_at h.start h.steps }

-- what a client sent, received or noted
abbrev pub IsClients : Entry → Type 0
IsClients (Executed xid call reply) = ⊥
IsClients (Foreign call reply) = ⊥
IsClients (Flushed file from len) = ⊥
IsClients (Reboot verf) = ⊥
IsClients e = Unit {0}

-- the step at this place is of that end, with this entry
pub record StepIs (steps : List PairStep) (n end : ℕ) (entry : Entry) : Type 0 where
  pub step : PairStep
  pub is : slice_get steps n ≡ Some step
  pub end_is : step.end ≡ end
  pub entry_is : step.entry ≡ entry

-- before the place n that end sent this call under this xid
pub record SentBy (steps : List PairStep) (end n xid : ℕ) (call : Call) : Type 0 where
  pub at : ℕ
  pub bytes : List ℕ
  pub before : at < n
  pub sent : StepIs steps at end (Sent bytes)
  pub spells : SpellsCall xid call bytes

-- the record replies to a call of that end, or refuses one
pub data RepliedBy (steps : List PairStep) (end n : ℕ) (bytes : List ℕ) : Type 0 where
  replied : (m xid : ℕ) (call : Call) (reply : Reply) → m < n → StepIs steps m end (Executed xid call reply) → SpellsReply xid call reply bytes
      → RepliedBy steps end n bytes
  refused : (m xid code : ℕ) (record_sent : List ℕ) → m < n → StepIs steps m end (Sent record_sent) → HasXid record_sent xid → SpellsRefusal xid code bytes
      → RepliedBy steps end n bytes

-- A call is executed for the end that sent it. A record comes to the end whose call it answers. What a client does leaves the server as it is.
pub record IsSided (h : PairTold) : Type 0 where
  pub executed : (n end xid : ℕ) (call : Call) (reply : Reply) → StepIs h.steps n end (Executed xid call reply) → SentBy h.steps end n xid call
  pub delivered : (n end : ℕ) (bytes : List ℕ) → StepIs h.steps n end (Delivered bytes) → RepliedBy h.steps end n bytes
  pub still : (n : ℕ) (s : PairStep) → slice_get h.steps n ≡ Some s → IsClients s.entry → s.after ≡ server_at h.start h.steps n

abbrev pub SidesAreLawful : Type 0
SidesAreLawful = (h : PairTold) → Lawful (whole h) → IsSided h → (end : ℕ) → Lawful (side end h)
