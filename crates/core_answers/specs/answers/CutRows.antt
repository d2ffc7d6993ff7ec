-- What the answer of a truncate shows.
use Rattle.std.specs.Prelude.{ℕ, List}
use Rattle.world_model.specs.declared.answer.Answer.TheVariants.{Done}
use Rattle.world_model.specs.declared.answer.Value.{Value}
use Rattle.world_model.specs.declared.entry.Entry.{Entry}
use Rattle.world_model.specs.declared.op.Op.TheVariants.{Truncate}
use Rattle.claims.specs.OkRows.{OkRow}
use Rattle.world_model.specs.Operations.{Ended}
use Rattle.claims.specs.Terms.{Terms}
use Rattle.op_machines.specs.declared.begun.Mounted.{Mounted}
use Rattle.client_core.specs.declared.setup.Setup.{Setup}
use Rattle.client_core.specs.View.{View}
use Rattle.core_facts.specs.SlotAnswers.{GoesWith}

-- A truncate succeeds only so. It ends with the reply, of status 0, to SETATTR of its size alone (RFC 1813, section 3.3.2). This is on the file that
-- its slot held as it began.
abbrev pub TruncatesOk : Type 0
TruncatesOk = (m : Mounted) (terms : Terms) (setup : Setup) (h : List Entry) (v : View) → GoesWith m terms setup h v
    → (lane x slot size y : ℕ) (value : Value) → Ended h lane x (Truncate slot size) y (Done value) → OkRow terms h lane x y (Truncate slot size) value
