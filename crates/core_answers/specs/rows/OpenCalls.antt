-- What the calls of an open show.
use Rattle.std.specs.Prelude.{◌≡◌, ◌⊎◌, ℕ, List}
use Rattle.rpc_message.specs.declared.cred.Cred.{Cred}
use Rattle.nfs_types.specs.declared.mode.Mode.{Mode}
use Rattle.world_model.specs.declared.entry.Entry.{Entry}
use Rattle.world_model.specs.declared.entry.Entry.TheVariants.{Sent}
use Rattle.world_model.specs.declared.message.Call.{Call}
use Rattle.world_model.specs.declared.op.Op.{Op}
use Rattle.world_model.specs.declared.op.Op.TheVariants as ops
use Rattle.claims.specs.Asks.{Asks}
use Rattle.claims.specs.CallsAsked.{NoneBegan}
use Rattle.world_model.specs.Entries.{At}
use Rattle.world_model.specs.Messages.{SpellsCallBy}
use Rattle.world_model.specs.Operations.{UnderWay}
use Rattle.claims.specs.Terms.{Terms}
use Rattle.op_machines.specs.declared.begun.Mounted.{Mounted}
use Rattle.op_machines.specs.Begun.{IsNamed, machine_of}
use Rattle.client_core.specs.declared.setup.Setup.{Setup}
use Rattle.client_core.specs.View.{View}
use Rattle.core_facts.specs.Naming.{KnowsRoot}
use Rattle.core_facts.specs.Reaches.{Reaches}

-- The record at the place i is a call, with the session's credential, of an operation that is under way. An open of a path with a name asks for
-- it: it is the LOOKUP of a name of its path; CREATE of the last one, if the open makes its file; or GETATTR of the file.
pub record IsMadeForOpen (terms : Terms) (cred : Cred) (h : List Entry) (i : ℕ) (bytes : List ℕ) : Type 0 where
  pub xid : ℕ
  pub call : Call
  pub made : SpellsCallBy cred xid call bytes
  pub lane : ℕ
  pub x : ℕ
  pub op : Op
  pub under_way : UnderWay h lane x i op
  pub asks : (slot : ℕ) (mode : Mode) (path : List (List ℕ)) → op ≡ ops.OpenFile slot mode path → IsNamed path → Asks terms h x i (ops.OpenFile slot mode path) call

-- Each record that was sent was sent before any operation began, or for one.
abbrev pub OpensAsk : Type 0
OpensAsk = (m : Mounted) (setup : Setup) (h : List Entry) (v : View) → Reaches (machine_of m) setup h v → (terms : Terms) → KnowsRoot terms.origin h m.root
    → (i : ℕ) (bytes : List ℕ) → At h i (Sent bytes) → NoneBegan h i ⊎ IsMadeForOpen terms setup.cred h i bytes
