-- What a put shows that is refused for a rule that a reply broke, and for which faults a put is never refused.
use Rattle.std.specs.Prelude.{ℕ, List}
use Rattle.world_model.specs.declared.answer.Answer.TheVariants.{Refused}
use Rattle.world_model.specs.declared.answer.Fault.{Fault}
use Rattle.world_model.specs.declared.answer.Fault.TheVariants as faults
use Rattle.world_model.specs.declared.entry.Entry.{Entry}
use Rattle.world_model.specs.declared.op.Op.TheVariants.{Put}
use Rattle.world_model.specs.Operations.{Ended}
use Rattle.op_machines.specs.declared.begun.Mounted.{Mounted}
use Rattle.op_machines.specs.Begun.{IsNamed, machine_of}
use Rattle.client_core.specs.declared.setup.Setup.{Setup}
use Rattle.client_core.specs.View.{View}
use Rattle.core_facts.specs.Reaches.{Reaches}
use Rattle.core_facts.specs.Refusing.{IsRefusedSo}

-- A put is refused for rule n only if a record breaks that rule of what a reply to its call has to be. The record came since the put began, for a
-- call that was first sent since then.
abbrev pub PutRulesShown : Type 0
PutRulesShown = (m : Mounted) (setup : Setup) (h : List Entry) (v : View) → Reaches (machine_of m) setup h v
    → (lane x : ℕ) (path : List (List ℕ)) (offset : ℕ) (bytes : List ℕ) (y n : ℕ) → IsNamed path
    → Ended h lane x (Put path offset bytes) y (Refused (faults.Bad n)) → IsRefusedSo h x y (faults.Bad n)

-- no fault of a slot, of a right of a slot, or of a list
abbrev pub MayRefusePut : Fault → Type 0
MayRefusePut faults.Slot = ⊥
MayRefusePut faults.Mode = ⊥
MayRefusePut faults.Many = ⊥
MayRefusePut fault = Unit {0}

-- A put is refused for no other fault.
abbrev pub PutFaultsFew : Type 0
PutFaultsFew = (m : Mounted) (setup : Setup) (h : List Entry) (v : View) → Reaches (machine_of m) setup h v
    → (lane x : ℕ) (path : List (List ℕ)) (offset : ℕ) (bytes : List ℕ) (y : ℕ) (fault : Fault) → IsNamed path
    → Ended h lane x (Put path offset bytes) y (Refused fault) → MayRefusePut fault
