-- A put that succeeded, as the only operation until then: what the history shows of each of its bytes (RFC 1813, sections 3.3.7 and 3.3.21).
use Rattle.std.specs.Prelude.{◌≡◌, ◌<◌, ◌-◌, ℕ, true, List, length, slice_index, false}
use Rattle.world_model.specs.declared.answer.Answer.TheVariants as answers
use Rattle.world_model.specs.declared.answer.Value.{Value}
use Rattle.world_model.specs.declared.entry.Entry.{Entry}
use Rattle.world_model.specs.declared.entry.Entry.TheVariants.{Began}
use Rattle.world_model.specs.declared.op.Op.{Op}
use Rattle.world_model.specs.declared.op.Op.TheVariants as ops
use Rattle.world_model.specs.Entries.{At}
use Rattle.world_model.specs.Operations.{Ended}
use Rattle.write_back.specs.Segments.{covers}
use Rattle.op_machines.specs.declared.begun.Mounted.{Mounted}
use Rattle.op_machines.specs.Begun.{machine_of}
use Rattle.client_core.specs.declared.setup.Setup.{Setup}
use Rattle.client_core.specs.View.{View}
use Rattle.core_facts.specs.Reaches.{Reaches}
use Rattle.core_session.specs.saves.Evidence.{MadeStable}

-- of a file each byte of the put was made stable between two places
pub record AllMadeStable (h : List Entry) (from to : ℕ) (offset : ℕ) (bytes : List ℕ) : Type 0 where
  pub file : List ℕ
  pub each : (place : ℕ) → covers offset (length bytes) place ≡ true → MadeStable h from to file place (slice_index bytes (place - offset))

-- no other operation began before a place
abbrev pub IsAlone : List Entry → ℕ → ℕ → Type 0
IsAlone h x y = (i lane line : ℕ) (op : Op) → At h i (Began lane line op) → i < y → i ≡ x

-- As long as the session isn't lost: each byte of such a put was made stable between its beginning and its answer.
abbrev pub PutsWritten : Type 0
PutsWritten = (m : Mounted) (setup : Setup) (h : List Entry) (v : View) → Reaches (machine_of m) setup h v → v.lost ≡ false
    → (lane x y : ℕ) (path : List (List ℕ)) (offset : ℕ) (bytes : List ℕ) (value : Value) → Ended h lane x (ops.Put path offset bytes) y (answers.Done value)
    → IsAlone h x y → AllMadeStable h x y offset bytes
