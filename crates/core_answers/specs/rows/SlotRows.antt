-- What the answers of operations on slots show, with their values.
use Rattle.std.specs.Prelude.{ℕ, List}
use Rattle.world_model.specs.declared.answer.Answer.TheVariants.{Done}
use Rattle.world_model.specs.declared.answer.Value.{Value}
use Rattle.world_model.specs.declared.entry.Entry.{Entry}
use Rattle.world_model.specs.declared.op.Op.{Op}
use Rattle.world_model.specs.declared.op.Op.TheVariants.{Read, Write, Fill, Sync, Close}
use Rattle.claims.specs.OkRows.{OkRow}
use Rattle.world_model.specs.Operations.{Ended}
use Rattle.claims.specs.Terms.{Terms}
use Rattle.op_machines.specs.declared.begun.Mounted.{Mounted}
use Rattle.client_core.specs.declared.setup.Setup.{Setup}
use Rattle.client_core.specs.View.{View}
use Rattle.core_facts.specs.SlotAnswers.{GoesWith}

-- a read, write, fill, sync or close
abbrev pub IsOnSlot : Op → Type 0
IsOnSlot (Read slot offset count) = Unit {0}
IsOnSlot (Write slot offset bytes) = Unit {0}
IsOnSlot (Fill slot offset count byte) = Unit {0}
IsOnSlot (Sync slot) = Unit {0}
IsOnSlot (Close slot) = Unit {0}
IsOnSlot op = ⊥

-- If one of them succeeds, the history shows its row.
abbrev pub SlotRowsShown : Type 0
SlotRowsShown = (m : Mounted) (terms : Terms) (setup : Setup) (h : List Entry) (v : View) → GoesWith m terms setup h v
    → (lane x y : ℕ) (op : Op) (value : Value) → IsOnSlot op → Ended h lane x op y (Done value) → OkRow terms h lane x y op value
