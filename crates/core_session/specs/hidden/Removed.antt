-- Each call of a session was asked for, but WRITEs and COMMITs with which an operation makes room.
use Rattle.std.specs.Prelude.{◌≡◌, ◌≤◌, ◌<◌, ◌+◌, ◌⊎◌, ℕ, List}
use Rattle.world_model.specs.declared.entry.Entry.{Entry}
use Rattle.world_model.specs.declared.entry.Entry.TheVariants.{Sent}
use Rattle.world_model.specs.declared.message.Call.{Call}
use Rattle.world_model.specs.declared.op.Op.{Op}
use Rattle.claims.specs.Asks.{IsWriter}
use Rattle.claims.specs.CallsAsked.{IsCaused, AreSetUp, KeepsTo}
use Rattle.world_model.specs.Entries.{At}
use Rattle.world_model.specs.Messages.{HasXid, SpellsCall, SpellsCallBy}
use Rattle.world_model.specs.Operations.{UnderWay}
use Rattle.claims.specs.Terms.{Terms}
use Rattle.world_model.specs.Waiting.{Answers}
use Rattle.op_machines.specs.declared.begun.Mounted.{Mounted}
use Rattle.op_machines.specs.Begun.{machine_of}
use Rattle.client_core.specs.declared.setup.Setup.{Setup}
use Rattle.client_core.specs.View.{View}
use Rattle.core_answers.specs.asks.PutCalls.{IsForRoom}
use Rattle.core_session.specs.calls.Whole.{GoesFrom}
use Rattle.core_facts.specs.Notes.{Notes}

-- The record at the place i is WRITE or COMMIT of a file. With it a write, fill or put that is under way makes room.
pub record IsCausedForRoom (terms : Terms) (h : List Entry) (i : ℕ) (bytes : List ℕ) : Type 0 where
  pub xid : ℕ
  pub call : Call
  pub made : SpellsCallBy terms.cred xid call bytes
  pub lane : ℕ
  pub x : ℕ
  pub op : Op
  pub under_way : UnderWay h lane x i op
  pub writer : IsWriter op
  pub room : IsForRoom call
  pub keeps : KeepsTo terms h x i call

-- As `CallsAsked` of `claims`, but that a call may be such a one.
pub record CallsAskedButRoom (terms : Terms) (h : List Entry) : Type 0 where
  pub caused : (i : ℕ) (bytes : List ℕ) → At h i (Sent bytes) → IsCaused terms h i bytes ⊎ IsCausedForRoom terms h i bytes
  pub among : (i xid : ℕ) (bytes : List ℕ) → At h i (Sent bytes) → HasXid bytes xid → (terms.first ≤ xid) × (xid < terms.first + terms.calls)
  pub equal : (i j xid : ℕ) (a b : List ℕ) → At h i (Sent a) → At h j (Sent b) → HasXid a xid → HasXid b xid → a ≡ b
  pub single : (i j x y : ℕ) (a b : List ℕ) (call other : Call) → At h i (Sent a) → At h j (Sent b) → SpellsCall x call a → SpellsCall y other b
      → AreSetUp call other → x ≡ y
  pub unrepeated : (g i xid : ℕ) (reply bytes : List ℕ) → Answers h g xid reply → At h i (Sent bytes) → HasXid bytes xid → i < g

-- Of a session that was set up, in which no record is sent while an answer is ready that wasn't noted.
abbrev pub ClosesRemoveWhatWasHidden : Type 0
ClosesRemoveWhatWasHidden = (m : Mounted) (terms : Terms) (setup : Setup) (before h : List Entry) (v : View) → GoesFrom m terms setup before h v
    → Notes (machine_of m) setup h v → CallsAskedButRoom terms h
