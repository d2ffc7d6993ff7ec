-- What a history shows of the lanes of the core, and of a lost session.
use Rattle.std.specs.Prelude.{◌≡◌, ℕ, List, length, Some, true, slice_get}
use Rattle.rpc_retry.specs.Sound.{IsSound}
use Rattle.law_calls.specs.Calls.{Numbered}
use Rattle.world_model.specs.declared.answer.Answer.TheVariants.{Refused}
use Rattle.world_model.specs.declared.answer.Fault.TheVariants as faults
use Rattle.world_model.specs.declared.entry.Entry.{Entry}
use Rattle.world_model.specs.declared.op.Op.{Op}
use Rattle.world_model.specs.Follows.{marks_of, Alternates}
use Rattle.world_model.specs.LanesTogether.{IsBusy}
use Rattle.world_model.specs.Lost.{IsLost}
use Rattle.world_model.specs.Operations.{Ended}
use Rattle.op_machines.specs.Begun.{machine_of}
use Rattle.op_machines.specs.declared.begun.Mounted.{Mounted}
use Rattle.op_machines.specs.declared.machine.Machine.{Machine}
use Rattle.client_core.specs.declared.lane.Lane.{Lane}
use Rattle.client_core.specs.declared.setup.Setup.{Setup}
use Rattle.client_core.specs.View.{View}
use Rattle.client_core.specs.Numbers.{IsOther, numbers_of}
use Rattle.core_facts.specs.Reaches.{Reaches}

-- Xids rise, are different and lie below the next one; at most 32 calls wait, and no more were made than may be.
abbrev pub CallsSound : Type 0
CallsSound = (machine_of : ℕ → Op → Machine) (setup : Setup) (h : List Entry) (v : View) → Reaches machine_of setup h v → IsSound v.calls

-- All records under one xid are equal, and none is sent after its reply (RFC 5531, section 9).
abbrev pub ReachedNumbered : Type 0
ReachedNumbered = (machine_of : ℕ → Op → Machine) (setup : Setup) (h : List Entry) (v : View) → Reaches machine_of setup h v → Numbered h

-- In each lane the lines begin one after the other: each but the last is answered before the next begins.
abbrev pub LanesAlternate : Type 0
LanesAlternate = (machine_of : ℕ → Op → Machine) (setup : Setup) (h : List Entry) (v : View) → Reaches machine_of setup h v
    → (lane : ℕ) → Alternates (marks_of lane h)

-- two lanes of one number are one lane
abbrev pub AreApart : List Lane → Type 0
AreApart lanes = (at other : ℕ) (a b : Lane) → slice_get lanes at ≡ Some a → slice_get lanes other ≡ Some b → a.number ≡ b.number → at ≡ other

-- The lanes of the core are those that have an operation under way; of each there is one.
pub record AreUnderWay (h : List Entry) (v : View) : Type 0 where
  pub busy : (at : ℕ) (lane : Lane) → slice_get v.lanes at ≡ Some lane → IsBusy h lane.number (length h)
  pub idle : (number : ℕ) → IsOther number (numbers_of v.lanes) → IsBusy h number (length h) → ⊥
  pub apart : AreApart v.lanes

abbrev pub LanesUnderWay : Type 0
LanesUnderWay = (machine_of : ℕ → Op → Machine) (setup : Setup) (h : List Entry) (v : View) → Reaches machine_of setup h v → AreUnderWay h v

-- A session is lost only for one of the three causes: a call was given up, four dials failed, or too many records were dropped.
abbrev pub LossesShown : Type 0
LossesShown = (machine_of : ℕ → Op → Machine) (setup : Setup) (h : List Entry) (v : View) → Reaches machine_of setup h v
    → v.lost ≡ true → IsLost h (length h)

-- An operation is answered that the session is lost only if one of them came before its answer.
abbrev pub LostAnswersShown : Type 0
LostAnswersShown = (m : Mounted) (setup : Setup) (h : List Entry) (v : View) → Reaches (machine_of m) setup h v
    → (lane x : ℕ) (op : Op) (y : ℕ) → Ended h lane x op y (Refused faults.Lost) → IsLost h y
