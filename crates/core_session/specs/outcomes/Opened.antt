-- What an open shows that succeeds, in any session.
use Rattle.std.specs.Prelude.{ℕ, List}
use Rattle.nfs_types.specs.declared.mode.Mode.{Mode}
use Rattle.world_model.specs.declared.answer.Answer.TheVariants.{Done}
use Rattle.world_model.specs.declared.answer.Value.{Value}
use Rattle.world_model.specs.declared.entry.Entry.{Entry}
use Rattle.world_model.specs.declared.op.Op.TheVariants as ops
use Rattle.claims.specs.OkRows.{OkRow}
use Rattle.world_model.specs.Operations.{Ended}
use Rattle.claims.specs.Terms.{Terms}
use Rattle.op_machines.specs.declared.begun.Mounted.{Mounted}
use Rattle.op_machines.specs.Begun.{IsNamed}
use Rattle.client_core.specs.declared.setup.Setup.{Setup}
use Rattle.client_core.specs.View.{View}
use Rattle.core_facts.specs.Naming.{KnowsRoot}
use Rattle.core_facts.specs.SlotAnswers.{GoesWith}

-- An open succeeds only so (RFC 1813, sections 3.3.1, 3.3.3 and 3.3.8). It ends with the reply to GETATTR of its file, of kind 1. If the session may go by
-- kept attributes, it may end with the reply to the LOOKUP or CREATE that gave the file. Then a reply before showed kind 1 of it.
abbrev pub OpensWell : Type 0
OpensWell = (m : Mounted) (terms : Terms) (setup : Setup) (h : List Entry) (v : View) → GoesWith m terms setup h v
    → KnowsRoot terms.origin h m.root
    → (lane x y slot : ℕ) (mode : Mode) (path : List (List ℕ)) (value : Value) → IsNamed path → Ended h lane x (ops.OpenFile slot mode path) y (Done value)
    → OkRow terms h lane x y (ops.OpenFile slot mode path) value
