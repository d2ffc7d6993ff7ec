-- The histories of a core in which each answer that is ready is noted before a record is sent or received.
use Rattle.std.specs.Prelude.{◌≡◌, ◌⊎◌, ℕ, List, [], ◌∷◌, ◌++◌, length, Some, slice_get}
use Rattle.world_model.specs.declared.answer.Answer.{Answer}
use Rattle.world_model.specs.declared.entry.Entry.{Entry}
use Rattle.world_model.specs.declared.entry.Entry.TheVariants.{Sent, Delivered}
use Rattle.world_model.specs.declared.op.Op.{Op}
use Rattle.claims.specs.CallsAsked.{NoneBegan}
use Rattle.world_model.specs.Entries.{At}
use Rattle.world_model.specs.Lost.{Loses}
use Rattle.op_machines.specs.declared.machine.Machine.{Machine}
use Rattle.client_core.specs.declared.lane.State.TheVariants.{Over}
use Rattle.client_core.specs.declared.setup.Setup.{Setup}
use Rattle.client_core.specs.Fresh.{IsFresh}
use Rattle.client_core.specs.Steps.{lost}
use Rattle.client_core.specs.View.{View}
use Rattle.core_facts.specs.Reaches.{MaySetUp, IsSetUp, StepsTo, Reaches}

-- no lane has an answer that wasn't noted
abbrev pub NoneReady : View → Type 0
NoneReady v = (at number : ℕ) (answer : Answer) → slice_get v.lanes at ≡ Some (record { number = number; state = Over answer }) → ⊥

-- a record is sent or received
abbrev pub ComesAfter : Entry → Type 0
ComesAfter (Sent bytes) = Unit {0}
ComesAfter (Delivered bytes) = Unit {0}
ComesAfter e = ⊥

-- The view goes with the history, as by `Reaches` of core_facts; and each record was sent or received after all answers that were ready.
pub data Notes (machine_of : ℕ → Op → Machine) (setup : Setup) : List Entry → View → Type 0 where
  notes_fresh : (h : List Entry) (v : View) → MaySetUp setup → IsSetUp setup h → IsFresh setup v → Notes machine_of setup h v
  notes_step : (h before : List Entry) (v b : View) (e : Entry) → Notes machine_of setup before b → h ≡ before ++ e ∷ [] → (ComesAfter e → NoneReady b)
      → StepsTo machine_of before b e v → Notes machine_of setup h v
  notes_lost : (h : List Entry) (v b : View) → Notes machine_of setup h b → Loses h (length h) → v ≡ lost b → Notes machine_of setup h v

-- such a history is one that the core goes with
abbrev pub HistoriesReached : Type 0
HistoriesReached = (machine_of : ℕ → Op → Machine) (setup : Setup) (h : List Entry) (v : View) → Notes machine_of setup h v → Reaches machine_of setup h v

-- The entry at a place: the core went with the history before it, and no answer was ready.
pub record IsAfterAnswers (machine_of : ℕ → Op → Machine) (setup : Setup) (h : List Entry) (i : ℕ) (e : Entry) : Type 0 where
  pub before : List Entry
  pub after : List Entry
  pub is : h ≡ before ++ e ∷ after
  pub there : length before ≡ i
  pub old : View
  pub notes : Notes machine_of setup before old
  pub none : NoneReady old
  pub new : View
  pub step : StepsTo machine_of before old e new

-- At each place at which a record was sent or received, after an operation began, no answer was ready.
abbrev pub AnswersFirst : Type 0
AnswersFirst = (machine_of : ℕ → Op → Machine) (setup : Setup) (h : List Entry) (v : View) → Notes machine_of setup h v → (i : ℕ) (e : Entry) → At h i e → ComesAfter e
    → NoneBegan h i ⊎ IsAfterAnswers machine_of setup h i e
