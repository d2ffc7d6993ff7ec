-- What the calls of operations on slots show.
use Rattle.std.specs.Prelude.{◌≡◌, ◌⊎◌, ℕ, List}
use Rattle.rpc_message.specs.declared.cred.Cred.{Cred}
use Rattle.nfs_dir_calls.specs.declared.call.DirCall.TheVariants as dirs
use Rattle.world_model.specs.declared.entry.Entry.{Entry}
use Rattle.world_model.specs.declared.entry.Entry.TheVariants.{Sent}
use Rattle.world_model.specs.declared.message.Call.{Call}
use Rattle.world_model.specs.declared.message.Call.TheVariants as calls
use Rattle.world_model.specs.declared.op.Op.{Op}
use Rattle.world_model.specs.declared.op.Op.TheVariants as ops
use Rattle.claims.specs.Asks.{Asks}
use Rattle.claims.specs.CallsAsked.{NoneBegan}
use Rattle.world_model.specs.Entries.{At}
use Rattle.world_model.specs.Messages.{SpellsCallBy}
use Rattle.world_model.specs.Operations.{UnderWay}
use Rattle.claims.specs.Terms.{Terms}
use Rattle.op_machines.specs.declared.begun.Mounted.{Mounted}
use Rattle.client_core.specs.declared.setup.Setup.{Setup}
use Rattle.client_core.specs.View.{View}
use Rattle.core_facts.specs.SlotAnswers.{GoesWith}

-- the REMOVE of a name
pub record IsRemoval (call : Call) : Type 0 where
  pub d : List ℕ
  pub name : List ℕ
  pub is : call ≡ calls.Dir (dirs.Remove d name)

-- The record at the place i is a call, with the session's credential, of an operation that is under way. A sync asks for it: WRITE or COMMIT of the
-- file of its slot. So does a truncate: SETATTR of the size of that file. And so does a close, WRITE or COMMIT, but for its REMOVE. (That this is of
-- the place where the file was hidden isn't said.)
pub record IsMadeOnSlot (terms : Terms) (cred : Cred) (h : List Entry) (i : ℕ) (bytes : List ℕ) : Type 0 where
  pub xid : ℕ
  pub call : Call
  pub made : SpellsCallBy cred xid call bytes
  pub lane : ℕ
  pub x : ℕ
  pub op : Op
  pub under_way : UnderWay h lane x i op
  pub sync : (slot : ℕ) → op ≡ ops.Sync slot → Asks terms h x i (ops.Sync slot) call
  pub truncate : (slot size : ℕ) → op ≡ ops.Truncate slot size → Asks terms h x i (ops.Truncate slot size) call
  pub close : (slot : ℕ) → op ≡ ops.Close slot → Asks terms h x i (ops.Close slot) call ⊎ IsRemoval call

-- Each record that was sent was sent before any operation began, or for one.
abbrev pub SlotsAsk : Type 0
SlotsAsk = (m : Mounted) (terms : Terms) (setup : Setup) (h : List Entry) (v : View) → GoesWith m terms setup h v
    → (i : ℕ) (bytes : List ℕ) → At h i (Sent bytes) → NoneBegan h i ⊎ IsMadeOnSlot terms setup.cred h i bytes
