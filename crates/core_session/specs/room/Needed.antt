-- For which operation each call of a session is made: if it makes room for bytes, there is need of it.
use Rattle.std.specs.Prelude.{◌≡◌, ◌≤◌, ◌<◌, ◌+◌, ◌⊎◌, ℕ, List}
use Rattle.world_model.specs.declared.entry.Entry.{Entry}
use Rattle.world_model.specs.declared.entry.Entry.TheVariants.{Sent}
use Rattle.world_model.specs.declared.message.Call.{Call}
use Rattle.world_model.specs.declared.op.Op.{Op}
use Rattle.world_model.specs.declared.op.Op.TheVariants as ops
use Rattle.claims.specs.Asks.{Asks, IsWriter, NeedsRoom}
use Rattle.claims.specs.CallsAsked.{NoneBegan, IsCaused, AreSetUp, KeepsTo}
use Rattle.world_model.specs.Entries.{At}
use Rattle.world_model.specs.Messages.{HasXid, SpellsCall, SpellsCallBy}
use Rattle.world_model.specs.Operations.{UnderWay}
use Rattle.claims.specs.Terms.{Terms}
use Rattle.world_model.specs.Waiting.{Answers}
use Rattle.op_machines.specs.declared.begun.Mounted.{Mounted}
use Rattle.op_machines.specs.Begun.{machine_of}
use Rattle.client_core.specs.declared.setup.Setup.{Setup}
use Rattle.client_core.specs.View.{View}
use Rattle.core_facts.specs.Notes.{Notes}
use Rattle.core_answers.specs.asks.PutCalls.{IsForRoom}
use Rattle.core_answers.specs.asks.SlotCalls.{IsRemoval}
use Rattle.core_session.specs.calls.Sessions.{IsSession}
use Rattle.core_session.specs.calls.Whole.{GoesFrom}

-- What isn't said to be asked for:
-- - WRITE or COMMIT of a file, with which a write, fill or put makes room. Those that began before the call, but for refused writes and fills, have
--   more bytes than may be dirty at once.
-- - The REMOVE of a close.
pub data IsLeft (terms : Terms) (h : List Entry) (x i : ℕ) (op : Op) (call : Call) : Type 0 where
  makes_room : IsWriter op → NeedsRoom h x i → IsForRoom call → IsLeft terms h x i op call
  removes : (slot : ℕ) → op ≡ ops.Close slot → IsRemoval call → IsLeft terms h x i op call

-- The record at the place i is a call, with the session's credential, of an operation that is under way, and this asks for it; or it is one of those.
pub record IsMadeInNeed (terms : Terms) (h : List Entry) (i : ℕ) (bytes : List ℕ) : Type 0 where
  pub xid : ℕ
  pub call : Call
  pub made : SpellsCallBy terms.cred xid call bytes
  pub lane : ℕ
  pub x : ℕ
  pub op : Op
  pub under_way : UnderWay h lane x i op
  pub asks : Asks terms h x i op call ⊎ IsLeft terms h x i op call

-- Each record was sent before any operation began, or is such a call.
abbrev pub RoomIsNeeded : Type 0
RoomIsNeeded = (m : Mounted) (terms : Terms) (setup : Setup) (h : List Entry) (v : View) → IsSession m terms setup h v
    → (i : ℕ) (bytes : List ℕ) → At h i (Sent bytes) → NoneBegan h i ⊎ IsMadeInNeed terms h i bytes

-- ---- a session that was set up

-- The record at the place i is a call of an operation that is under way. That this operation asks for it isn't said.
pub record IsCausedInNeed (terms : Terms) (h : List Entry) (i : ℕ) (bytes : List ℕ) : Type 0 where
  pub xid : ℕ
  pub call : Call
  pub made : SpellsCallBy terms.cred xid call bytes
  pub lane : ℕ
  pub x : ℕ
  pub op : Op
  pub under_way : UnderWay h lane x i op
  pub left : IsLeft terms h x i op call
  pub keeps : KeepsTo terms h x i call

-- As `CallsAsked` of `claims`, but that a call may be such a one.
pub record CallsAskedInNeed (terms : Terms) (h : List Entry) : Type 0 where
  pub caused : (i : ℕ) (bytes : List ℕ) → At h i (Sent bytes) → IsCaused terms h i bytes ⊎ IsCausedInNeed terms h i bytes
  pub among : (i xid : ℕ) (bytes : List ℕ) → At h i (Sent bytes) → HasXid bytes xid → (terms.first ≤ xid) × (xid < terms.first + terms.calls)
  pub equal : (i j xid : ℕ) (a b : List ℕ) → At h i (Sent a) → At h j (Sent b) → HasXid a xid → HasXid b xid → a ≡ b
  pub single : (i j x y : ℕ) (a b : List ℕ) (call other : Call) → At h i (Sent a) → At h j (Sent b) → SpellsCall x call a → SpellsCall y other b
      → AreSetUp call other → x ≡ y
  pub unrepeated : (g i xid : ℕ) (reply bytes : List ℕ) → Answers h g xid reply → At h i (Sent bytes) → HasXid bytes xid → i < g

abbrev pub SessionsCallsNeeded : Type 0
SessionsCallsNeeded = (m : Mounted) (terms : Terms) (setup : Setup) (before h : List Entry) (v : View) → GoesFrom m terms setup before h v → Notes (machine_of m) setup h v
    → CallsAskedInNeed terms h
