-- What the answer of a sync or a put shows.
use Rattle.std.specs.Prelude.{ℕ, List}
use Rattle.world_model.specs.declared.answer.Answer.TheVariants.{Done}
use Rattle.world_model.specs.declared.answer.Value.{Value}
use Rattle.world_model.specs.declared.entry.Entry.{Entry}
use Rattle.world_model.specs.declared.op.Op.TheVariants.{Put, Sync}
use Rattle.world_model.specs.Operations.{Ended}
use Rattle.world_model.specs.Commits.{Committed}
use Rattle.op_machines.specs.declared.begun.Mounted.{Mounted}
use Rattle.op_machines.specs.Begun.{machine_of}
use Rattle.client_core.specs.declared.setup.Setup.{Setup}
use Rattle.client_core.specs.View.{View}
use Rattle.core_facts.specs.Reaches.{Reaches}

-- A COMMIT of a whole file, sent since the operation began, was answered 0. (That it is the file of a sync's slot is said in SlotAnswers; that it is
-- that of a put's path isn't.)
pub record IsCommitted (h : List Entry) (x y : ℕ) : Type 0 where
  pub f : List ℕ
  pub committed : Committed h x y f

-- A sync is answered ok only so.
abbrev pub SyncsCommitted : Type 0
SyncsCommitted = (m : Mounted) (setup : Setup) (h : List Entry) (v : View) → Reaches (machine_of m) setup h v
    → (lane x slot y : ℕ) (value : Value) → Ended h lane x (Sync slot) y (Done value) → IsCommitted h x y

-- and a put too
abbrev pub PutsCommitted : Type 0
PutsCommitted = (m : Mounted) (setup : Setup) (h : List Entry) (v : View) → Reaches (machine_of m) setup h v
    → (lane x : ℕ) (path : List (List ℕ)) (offset : ℕ) (bytes : List ℕ) (y : ℕ) (value : Value)
    → Ended h lane x (Put path offset bytes) y (Done value) → IsCommitted h x y
