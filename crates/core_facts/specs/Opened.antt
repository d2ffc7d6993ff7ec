-- What the answer of an open shows.
use Rattle.std.specs.Prelude.{◌≡◌, ℕ, List, false}
use Rattle.nfs_types.specs.declared.mode.Mode.{Mode}
use Rattle.world_model.specs.declared.answer.Answer.TheVariants.{Done, Refused}
use Rattle.world_model.specs.declared.answer.Fault.TheVariants as faults
use Rattle.world_model.specs.declared.answer.Value.{Value}
use Rattle.world_model.specs.declared.entry.Entry.{Entry}
use Rattle.world_model.specs.declared.op.Op.TheVariants.{OpenFile}
use Rattle.claims.specs.OkRows.{OkRow}
use Rattle.world_model.specs.Operations.{Ended}
use Rattle.claims.specs.RefusalRows.{RefusalRow}
use Rattle.claims.specs.Terms.{Terms}
use Rattle.op_machines.specs.declared.begun.Mounted.{Mounted}
use Rattle.op_machines.specs.Begun.{IsNamed, machine_of}
use Rattle.client_core.specs.declared.setup.Setup.{Setup}
use Rattle.client_core.specs.View.{View}
use Rattle.core_facts.specs.Naming.{KnowsRoot}
use Rattle.core_facts.specs.Reaches.{Reaches}

-- In a session in which each open asks anew, one succeeds only so: its last reply is that to GETATTR of the file to which its path leads, or which
-- its CREATE gave, and says kind 1.
abbrev pub OpensShown : Type 0
OpensShown = (m : Mounted) (setup : Setup) (h : List Entry) (v : View) → Reaches (machine_of m) setup h v → (terms : Terms) → KnowsRoot terms.origin h m.root
    → m.nocto ≡ false → (lane x slot : ℕ) (mode : Mode) (path : List (List ℕ)) (y : ℕ) (value : Value) → IsNamed path
    → Ended h lane x (OpenFile slot mode path) y (Done value) → OkRow terms h lane x y (OpenFile slot mode path) value

-- In any session an open is refused for the kind of its file only so: that reply says another kind.
abbrev pub KindsShown : Type 0
KindsShown = (m : Mounted) (setup : Setup) (h : List Entry) (v : View) → Reaches (machine_of m) setup h v → (terms : Terms) → KnowsRoot terms.origin h m.root
    → (lane x slot : ℕ) (mode : Mode) (path : List (List ℕ)) (y : ℕ) → IsNamed path
    → Ended h lane x (OpenFile slot mode path) y (Refused faults.Kind) → RefusalRow terms h lane x y (OpenFile slot mode path) faults.Kind
