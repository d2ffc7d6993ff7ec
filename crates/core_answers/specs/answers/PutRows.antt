-- What the answer of a put shows.
use Rattle.std.specs.Prelude.{ℕ, List}
use Rattle.world_model.specs.declared.answer.Answer.TheVariants.{Done, Refused}
use Rattle.world_model.specs.declared.answer.Fault.TheVariants as faults
use Rattle.world_model.specs.declared.answer.Value.{Value}
use Rattle.world_model.specs.declared.entry.Entry.{Entry}
use Rattle.world_model.specs.declared.op.Op.TheVariants.{Put}
use Rattle.claims.specs.OkRows.{OkRow}
use Rattle.world_model.specs.Operations.{Ended}
use Rattle.claims.specs.RefusalRows.{RefusalRow}
use Rattle.claims.specs.Terms.{Terms}
use Rattle.op_machines.specs.declared.begun.Mounted.{Mounted}
use Rattle.op_machines.specs.Begun.{IsNamed, machine_of}
use Rattle.client_core.specs.declared.setup.Setup.{Setup}
use Rattle.client_core.specs.View.{View}
use Rattle.core_facts.specs.Naming.{KnowsRoot}
use Rattle.core_facts.specs.Reaches.{Reaches}

-- A put succeeds only so. Its last reply answers a WRITE or COMMIT of the file to which its path leads. COMMIT of that whole file, sent since the
-- put began, was answered 0 (RFC 1813, sections 3.3.7 and 3.3.21).
abbrev pub PutsShown : Type 0
PutsShown = (m : Mounted) (setup : Setup) (h : List Entry) (v : View) → Reaches (machine_of m) setup h v → (terms : Terms) → KnowsRoot terms.origin h m.root
    → (lane x : ℕ) (path : List (List ℕ)) (offset : ℕ) (bytes : List ℕ) (y : ℕ) (value : Value) → IsNamed path
    → Ended h lane x (Put path offset bytes) y (Done value) → OkRow terms h lane x y (Put path offset bytes) value

-- A put is refused for the kind of its file only so. Its last reply is that to GETATTR of the file to which its path leads. It says another kind
-- than 1 (RFC 1813, section 2.5, ftype3).
abbrev pub PutKindsShown : Type 0
PutKindsShown = (m : Mounted) (setup : Setup) (h : List Entry) (v : View) → Reaches (machine_of m) setup h v → (terms : Terms) → KnowsRoot terms.origin h m.root
    → (lane x : ℕ) (path : List (List ℕ)) (offset : ℕ) (bytes : List ℕ) (y : ℕ) → IsNamed path
    → Ended h lane x (Put path offset bytes) y (Refused faults.Kind) → RefusalRow terms h lane x y (Put path offset bytes) faults.Kind
