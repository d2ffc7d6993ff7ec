-- What any operation shows that succeeds.
use Rattle.std.specs.Prelude.{ℕ, List}
use Rattle.world_model.specs.declared.answer.Answer.TheVariants.{Done}
use Rattle.world_model.specs.declared.answer.Value.{Value}
use Rattle.world_model.specs.declared.entry.Entry.{Entry}
use Rattle.world_model.specs.declared.op.Op.{Op}
use Rattle.claims.specs.OkRows.{OkRow}
use Rattle.world_model.specs.Operations.{Ended}
use Rattle.claims.specs.Terms.{Terms}
use Rattle.op_machines.specs.declared.begun.Mounted.{Mounted}
use Rattle.op_machines.specs.Begun.{IsAsked}
use Rattle.client_core.specs.declared.setup.Setup.{Setup}
use Rattle.client_core.specs.View.{View}
use Rattle.core_facts.specs.Naming.{KnowsRoot}
use Rattle.core_facts.specs.SlotAnswers.{GoesWith}

-- Each operation of a script that succeeds has its row.
abbrev pub OksRowed : Type 0
OksRowed = (m : Mounted) (terms : Terms) (setup : Setup) (h : List Entry) (v : View) → GoesWith m terms setup h v
    → KnowsRoot terms.origin h m.root
    → (lane x y : ℕ) (op : Op) (value : Value) → IsAsked op → Ended h lane x op y (Done value) → OkRow terms h lane x y op value
