-- Each call of a session was asked for: those of the set-up before it, and those of its operations.
use Rattle.std.specs.Prelude.{◌≡◌, ◌≤◌, ◌<◌, ◌+◌, ◌⊎◌, ◌++◌, ℕ, List, [], length}
use Rattle.nfs_file_calls.specs.declared.call.FileCall.TheVariants as files
use Rattle.world_model.specs.declared.entry.Entry.{Entry}
use Rattle.world_model.specs.declared.entry.Entry.TheVariants.{Began, Sent}
use Rattle.world_model.specs.declared.message.Call.{Call}
use Rattle.world_model.specs.declared.message.Call.TheVariants as calls
use Rattle.world_model.specs.declared.op.Op.{Op}
use Rattle.claims.specs.Asks.{Asks}
use Rattle.claims.specs.CallsAsked.{CallsAsked, IsCaused, AreSetUp, KeepsTo}
use Rattle.world_model.specs.Entries.{At}
use Rattle.world_model.specs.LanesTogether.{HasBegun}
use Rattle.world_model.specs.Messages.{HasXid, SpellsCall, SpellsCallBy}
use Rattle.world_model.specs.Mounts.{Rooted, Sized}
use Rattle.world_model.specs.Operations.{UnderWay}
use Rattle.world_model.specs.ReadSize.{ReadSized}
use Rattle.claims.specs.Terms.{Terms}
use Rattle.world_model.specs.Waiting.{Answers}
use Rattle.op_machines.specs.declared.begun.Mounted.{Mounted}
use Rattle.op_machines.specs.Begun.{machine_of}
use Rattle.client_core.specs.declared.setup.Setup.{Setup}
use Rattle.client_core.specs.View.{View}
use Rattle.core_facts.specs.SlotAnswers.{GoesWith}
use Rattle.core_facts.specs.Notes.{Notes}
use Rattle.core_session.specs.calls.Made.{IsBeside}
use Rattle.core_session.specs.calls.Sessions.{AreAsked}

-- ---- the session

-- What the set-up left: the calls that it made, before any operation began; the root and the sizes, as the server told them; and the xids that the core
-- goes on with (RFC 1813, sections 5.2.1 and 3.3.19).
pub record IsSetUpFor (m : Mounted) (terms : Terms) (setup : Setup) (before : List Entry) : Type 0 where
  pub unbegun : (i lane line : ℕ) (op : Op) → At before i (Began lane line op) → ⊥
  pub asked : CallsAsked terms before
  pub root : Rooted terms.origin before (length before) m.root
  pub read : ReadSized before (length before) m.root terms.rsize m.rsize
  pub write : Sized before (length before) m.root terms.wsize setup.wsize
  pub first : terms.first ≤ setup.first_xid
  pub total : setup.first_xid + setup.limit ≤ terms.first + terms.calls

-- A core goes on from there, as the terms are: it sends nothing before an operation begins, and each of these is one of a script.
pub record GoesFrom (m : Mounted) (terms : Terms) (setup : Setup) (before h : List Entry) (v : View) : Type 0 where
  pub set_up : IsSetUpFor m terms setup before
  pub more : List Entry
  pub grows : h ≡ before ++ more
  pub goes : GoesWith m terms setup h v
  pub noac : m.noac ≡ terms.modes.noac
  pub some : 1 ≤ m.rsize
  pub cred : setup.cred ≡ terms.cred
  pub since : (i : ℕ) (bytes : List ℕ) → At h i (Sent bytes) → (i < length before) ⊎ HasBegun h i
  pub asked : AreAsked h

-- ---- its calls

-- The record at the place i is a call of an operation that is under way. That this operation asks for it isn't said.
pub record IsCausedBeside (terms : Terms) (h : List Entry) (i : ℕ) (bytes : List ℕ) : Type 0 where
  pub xid : ℕ
  pub call : Call
  pub made : SpellsCallBy terms.cred xid call bytes
  pub lane : ℕ
  pub x : ℕ
  pub op : Op
  pub under_way : UnderWay h lane x i op
  pub beside : IsBeside terms h x i op call
  pub keeps : KeepsTo terms h x i call

-- As `CallsAsked` of `claims`, but that a call may be such a one.
pub record CallsAskedBut (terms : Terms) (h : List Entry) : Type 0 where
  pub caused : (i : ℕ) (bytes : List ℕ) → At h i (Sent bytes) → IsCaused terms h i bytes ⊎ IsCausedBeside terms h i bytes
  pub among : (i xid : ℕ) (bytes : List ℕ) → At h i (Sent bytes) → HasXid bytes xid → (terms.first ≤ xid) × (xid < terms.first + terms.calls)
  pub equal : (i j xid : ℕ) (a b : List ℕ) → At h i (Sent a) → At h j (Sent b) → HasXid a xid → HasXid b xid → a ≡ b
  pub single : (i j x y : ℕ) (a b : List ℕ) (call other : Call) → At h i (Sent a) → At h j (Sent b) → SpellsCall x call a → SpellsCall y other b
      → AreSetUp call other → x ≡ y
  pub unrepeated : (g i xid : ℕ) (reply bytes : List ℕ) → Answers h g xid reply → At h i (Sent bytes) → HasXid bytes xid → i < g

-- Of a session in which each answer that is ready is noted before a record is sent or received.
abbrev pub SessionsCallsAsked : Type 0
SessionsCallsAsked = (m : Mounted) (terms : Terms) (setup : Setup) (before h : List Entry) (v : View) → GoesFrom m terms setup before h v → Notes (machine_of m) setup h v
    → CallsAskedBut terms h

-- Each WRITE carries a byte.
abbrev pub WritesCarryBytes : Type 0
WritesCarryBytes = (m : Mounted) (terms : Terms) (setup : Setup) (before h : List Entry) (v : View) → GoesFrom m terms setup before h v
    → (i xid : ℕ) (bytes f : List ℕ) (offset how : ℕ) → At h i (Sent bytes) → SpellsCall xid (calls.File (files.Write f offset how [])) bytes → ⊥

-- If each operation asks for such calls too, each call was asked for.
abbrev pub BesideAsked : Terms → List Entry → Type 0
BesideAsked terms h = (lane x i : ℕ) (op : Op) (call : Call) → UnderWay h lane x i op → IsBeside terms h x i op call → Asks terms h x i op call

abbrev pub AllCallsAsked : Type 0
AllCallsAsked = (m : Mounted) (terms : Terms) (setup : Setup) (before h : List Entry) (v : View) → GoesFrom m terms setup before h v → Notes (machine_of m) setup h v
    → BesideAsked terms h → CallsAsked terms h
