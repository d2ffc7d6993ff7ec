-- Where the lanes stand after each entry.
use Rattle.std.specs.Prelude.{◌≡◌, ℕ, List, true}
use Rattle.world_model.specs.declared.entry.Entry.{Entry}
use Rattle.world_model.specs.declared.op.Op.{Op}
use Rattle.op_machines.specs.declared.machine.Machine.{Machine}
use Rattle.client_core.specs.declared.setup.Setup.{Setup}
use Rattle.client_core.specs.Steps.{IsBusyAt, Still}
use Rattle.client_core.specs.View.{View}
use Rattle.core_facts.specs.Reaches.{Reaches}

-- no operation is under way
abbrev pub NoneBusy : View → Type 0
NoneBusy v = (at number : ℕ) (machine : Machine) → IsBusyAt v at number machine → ⊥

-- No lane can go on, or no further call may wait; in a lost session each operation has its answer.
pub record IsSettled (v : View) : Type 0 where
  pub still : Still v
  pub over : v.lost ≡ true → NoneBusy v

abbrev pub ComeToRest : Type 0
ComeToRest = (machine_of : ℕ → Op → Machine) (setup : Setup) (h : List Entry) (v : View) → Reaches machine_of setup h v → IsSettled v
