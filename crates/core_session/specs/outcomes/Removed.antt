-- What a remove shows that succeeds.
use Rattle.std.specs.Prelude.{ℕ, List}
use Rattle.world_model.specs.declared.answer.Answer.TheVariants.{Done, Refused}
use Rattle.world_model.specs.declared.answer.Fault.{Fault}
use Rattle.world_model.specs.declared.answer.Value.{Value}
use Rattle.world_model.specs.declared.entry.Entry.{Entry}
use Rattle.world_model.specs.declared.op.Op.TheVariants as ops
use Rattle.claims.specs.OkRows.{OkRow}
use Rattle.world_model.specs.Operations.{Ended}
use Rattle.claims.specs.RefusalRows.{RefusedBy}
use Rattle.claims.specs.Terms.{Terms}
use Rattle.op_machines.specs.declared.begun.Mounted.{Mounted}
use Rattle.op_machines.specs.Begun.{IsNamed}
use Rattle.client_core.specs.declared.setup.Setup.{Setup}
use Rattle.client_core.specs.View.{View}
use Rattle.core_facts.specs.Naming.{KnowsRoot}
use Rattle.core_facts.specs.SlotAnswers.{GoesWith}
use Rattle.core_answers.specs.refusals.Rowed.{IsFinal}

-- A remove succeeds only so: it ends with a reply of status 0 (RFC 1813, sections 3.3.12 and 3.3.14). That is one of these:
-- - the reply to REMOVE of the name to which its path leads;
-- - the reply to RENAME of that name to a hidden one in the same directory. A slot held the file meanwhile, and a LOOKUP of that hidden name had found
--   nothing.
abbrev pub RemovesWell : Type 0
RemovesWell = (m : Mounted) (terms : Terms) (setup : Setup) (h : List Entry) (v : View) → GoesWith m terms setup h v → KnowsRoot terms.origin h m.root
    → (lane x y : ℕ) (path : List (List ℕ)) (value : Value) → IsNamed path → Ended h lane x (ops.Remove path) y (Done value)
    → OkRow terms h lane x y (ops.Remove path) value

-- A remove is refused with a status from which it doesn't go on, by RPC or for a rule only so: a record refused so a call for which it asked as that was first
-- sent; a file that it hides was open then.
abbrev pub RemovesRefused : Type 0
RemovesRefused = (m : Mounted) (terms : Terms) (setup : Setup) (h : List Entry) (v : View) → GoesWith m terms setup h v → KnowsRoot terms.origin h m.root
    → (lane x y : ℕ) (path : List (List ℕ)) (fault : Fault) → IsNamed path → IsFinal (ops.Remove path) fault
    → Ended h lane x (ops.Remove path) y (Refused fault)
    → RefusedBy terms h x y (ops.Remove path) fault
