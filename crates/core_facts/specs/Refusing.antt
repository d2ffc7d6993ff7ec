-- What the answer of an operation that a server refused shows.
use Rattle.std.specs.Prelude.{ℕ, List}
use Rattle.world_model.specs.declared.answer.Answer.TheVariants as answers
use Rattle.world_model.specs.declared.answer.Fault.{Fault}
use Rattle.world_model.specs.declared.answer.Fault.TheVariants as faults
use Rattle.world_model.specs.declared.entry.Entry.{Entry}
use Rattle.world_model.specs.declared.message.Call.{Call}
use Rattle.world_model.specs.declared.op.Op.{Op}
use Rattle.world_model.specs.Heard.{Refused}
use Rattle.world_model.specs.Operations.{Ended}
use Rattle.op_machines.specs.declared.begun.Mounted.{Mounted}
use Rattle.op_machines.specs.Begun.{machine_of}
use Rattle.client_core.specs.declared.setup.Setup.{Setup}
use Rattle.client_core.specs.View.{View}
use Rattle.core_facts.specs.Reaches.{Reaches}

-- A record refused so a call that was first sent between the places x and y.
pub record IsRefusedSo (h : List Entry) (x y : ℕ) (fault : Fault) : Type 0 where
  pub call : Call
  pub refused : Refused h x y call fault

-- A status of NFS (RFC 1813, section 2.6) and a refusal by RPC (RFC 5531, section 9) come from a record.
abbrev pub IsRefusalShown : List Entry → ℕ → ℕ → Fault → Type 0
IsRefusalShown h x y (faults.Nfs status) = IsRefusedSo h x y (faults.Nfs status)
IsRefusalShown h x y (faults.Rpc n) = IsRefusedSo h x y (faults.Rpc n)
IsRefusalShown h x y fault = Unit {0}

-- An operation is answered so only if a record that came within it refused so a call that was made within it.
abbrev pub RefusalsShown : Type 0
RefusalsShown = (m : Mounted) (setup : Setup) (h : List Entry) (v : View) → Reaches (machine_of m) setup h v
    → (lane x : ℕ) (op : Op) (y : ℕ) (fault : Fault) → Ended h lane x op y (answers.Refused fault) → IsRefusalShown h x y fault
