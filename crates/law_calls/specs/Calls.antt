-- How a client numbers its calls, and what follows of them (RFC 5531, section 9; RFC 1813, section 4.5).
use Rattle.std.specs.Prelude.{◌≡◌, ◌<◌, ℕ, List}
use Rattle.rpc_message.specs.Reply.{SpellsRefusal}
use Rattle.world_model.specs.declared.entry.Entry.{Entry}
use Rattle.world_model.specs.declared.entry.Entry.TheVariants.{Sent, Executed, Delivered}
use Rattle.world_model.specs.declared.message.Call.{Call}
use Rattle.world_model.specs.declared.message.Reply.{Reply}
use Rattle.world_model.specs.Entries.{At}
use Rattle.world_model.specs.Messages.{HasXid, SpellsCall, SpellsReply}
use Rattle.world_model.specs.Waiting.{Waits, Answers}

-- What the client is to show: all records that it sends under one xid are equal, and it sends none after a reply under the xid
-- came while it waited. A call that is made again, as after JUKEBOX, has an xid of its own; a call may be given up at any time.
pub record Numbered (h : List Entry) : Type 0 where
  pub equal : (i j xid : ℕ) (a b : List ℕ) → At h i (Sent a) → At h j (Sent b) → HasXid a xid → HasXid b xid → a ≡ b
  pub unrepeated : (g i xid : ℕ) (reply bytes : List ℕ) → Answers h g xid reply → At h i (Sent bytes) → HasXid bytes xid → i < g

-- At the place n this call waits under the xid: each record under it that is ever sent spells the call, and no reply under it
-- came before.
pub record Waiting (h : List Entry) (n xid : ℕ) (call : Call) : Type 0 where
  pub waits : Waits h xid n
  pub is : (i : ℕ) (bytes : List ℕ) → At h i (Sent bytes) → HasXid bytes xid → SpellsCall xid call bytes
  pub unheard : (j : ℕ) (bytes : List ℕ) → At h j (Delivered bytes) → HasXid bytes xid → n < j

-- The record is the reply to a call that was executed under the xid before it came, while it waited.
pub record Execution (h : List Entry) (n xid : ℕ) (bytes : List ℕ) : Type 0 where
  pub place : ℕ
  pub call : Call
  pub reply : Reply
  pub executed : At h place (Executed xid call reply)
  pub waiting : Waiting h place xid call
  pub before : place < n
  pub spells : SpellsReply xid call reply bytes

-- What the record tells that answers the call under the xid.
pub data Told (h : List Entry) (n xid : ℕ) (bytes : List ℕ) : Type 0 where
  executed : Execution h n xid bytes → Told h n xid bytes
  refused : (code : ℕ) → SpellsRefusal xid code bytes → Told h n xid bytes

-- The place n lies after a record under the xid was sent and before the place g.
pub record Between (h : List Entry) (n g xid : ℕ) : Type 0 where
  pub at : ℕ
  pub bytes : List ℕ
  pub sent : At h at (Sent bytes)
  pub under : HasXid bytes xid
  pub after : at < n
  pub before : n < g
