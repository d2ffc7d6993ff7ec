-- What the calls of a read show.
use Rattle.std.specs.Prelude.{◌≡◌, ◌≤◌, ◌⊎◌, ℕ, List}
use Rattle.rpc_message.specs.declared.cred.Cred.{Cred}
use Rattle.nfs_file_calls.specs.declared.call.FileCall.TheVariants as files
use Rattle.world_model.specs.declared.entry.Entry.{Entry}
use Rattle.world_model.specs.declared.entry.Entry.TheVariants.{Sent}
use Rattle.world_model.specs.declared.message.Call.{Call}
use Rattle.world_model.specs.declared.message.Call.TheVariants as calls
use Rattle.world_model.specs.declared.op.Op.{Op}
use Rattle.world_model.specs.declared.op.Op.TheVariants as ops
use Rattle.claims.specs.Asks.{Asks}
use Rattle.claims.specs.CallsAsked.{NoneBegan}
use Rattle.world_model.specs.Entries.{At}
use Rattle.world_model.specs.Messages.{SpellsCallBy}
use Rattle.world_model.specs.Operations.{UnderWay}
use Rattle.claims.specs.Terms.{Terms}
use Rattle.op_machines.specs.declared.begun.Mounted.{Mounted}
use Rattle.client_core.specs.declared.setup.Setup.{Setup}
use Rattle.client_core.specs.View.{View}
use Rattle.core_facts.specs.SlotAnswers.{GoesWith}

-- The record at the place i is a call, with the session's credential, of an operation that is under way. A read asks for it: READ of the file of its
-- slot, of no more bytes than the session's READ size, inside the pages that meet its range; or, in a session that asks anew, GETATTR of the file.
pub record IsMadeForRead (terms : Terms) (cred : Cred) (rsize : ℕ) (h : List Entry) (i : ℕ) (bytes : List ℕ) : Type 0 where
  pub xid : ℕ
  pub call : Call
  pub made : SpellsCallBy cred xid call bytes
  pub lane : ℕ
  pub x : ℕ
  pub op : Op
  pub under_way : UnderWay h lane x i op
  pub asks : (slot offset count : ℕ) → op ≡ ops.Read slot offset count → Asks terms h x i (ops.Read slot offset count) call
  pub fits : (slot offset count : ℕ) → op ≡ ops.Read slot offset count → (f : List ℕ) (at size : ℕ) → call ≡ calls.File (files.Read f at size) → size ≤ rsize

-- Each record that was sent was sent before any operation began, or for one.
abbrev pub ReadsAsk : Type 0
ReadsAsk = (m : Mounted) (terms : Terms) (setup : Setup) (h : List Entry) (v : View) → GoesWith m terms setup h v → m.noac ≡ terms.modes.noac → 1 ≤ m.rsize
    → (i : ℕ) (bytes : List ℕ) → At h i (Sent bytes) → NoneBegan h i ⊎ IsMadeForRead terms setup.cred m.rsize h i bytes
