-- What the calls of a write show.
use Rattle.std.specs.Prelude.{◌≡◌, ◌⊎◌, ℕ, List}
use Rattle.rpc_message.specs.declared.cred.Cred.{Cred}
use Rattle.world_model.specs.declared.entry.Entry.{Entry}
use Rattle.world_model.specs.declared.entry.Entry.TheVariants.{Sent}
use Rattle.world_model.specs.declared.message.Call.{Call}
use Rattle.world_model.specs.declared.op.Op.{Op}
use Rattle.world_model.specs.declared.op.Op.TheVariants as ops
use Rattle.claims.specs.CallsAsked.{NoneBegan}
use Rattle.world_model.specs.Entries.{At}
use Rattle.world_model.specs.Messages.{SpellsCallBy}
use Rattle.world_model.specs.Operations.{UnderWay}
use Rattle.op_machines.specs.declared.begun.Mounted.{Mounted}
use Rattle.op_machines.specs.Begun.{machine_of}
use Rattle.client_core.specs.declared.setup.Setup.{Setup}
use Rattle.client_core.specs.View.{View}
use Rattle.core_facts.specs.Reaches.{Reaches}
use Rattle.core_answers.specs.asks.PutCalls.{IsForRoom}

-- The record at the place i is a call, with the session's credential, of an operation that is under way. A write, or a fill, makes room by it: what is
-- pending of some file becomes stable. (Of which file it then may be, and when, isn't said.)
pub record IsMadeForWrite (cred : Cred) (h : List Entry) (i : ℕ) (bytes : List ℕ) : Type 0 where
  pub xid : ℕ
  pub call : Call
  pub made : SpellsCallBy cred xid call bytes
  pub lane : ℕ
  pub x : ℕ
  pub op : Op
  pub under_way : UnderWay h lane x i op
  pub write : (slot offset : ℕ) (text : List ℕ) → op ≡ ops.Write slot offset text → IsForRoom call
  pub fill : (slot offset count byte : ℕ) → op ≡ ops.Fill slot offset count byte → IsForRoom call

-- Each record that was sent was sent before any operation began, or for one.
abbrev pub WritesAsk : Type 0
WritesAsk = (m : Mounted) (setup : Setup) (h : List Entry) (v : View) → Reaches (machine_of m) setup h v → (i : ℕ) (bytes : List ℕ) → At h i (Sent bytes)
    → NoneBegan h i ⊎ IsMadeForWrite setup.cred h i bytes
