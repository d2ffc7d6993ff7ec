-- Which views of the core go with a history: from the set-up of a session on, by each call of the core and the entry that its caller
-- notes with it, into a loss.
use Rattle.std.specs.Prelude.{◌≡◌, ◌⊎◌, ◌<◌, ◌≤◌, ◌+◌, ◌-◌, ◌^◌, ℕ, List, [], ◌∷◌, ◌++◌, length, Bool, Some, slice_get}
use Rattle.world_model.specs.declared.answer.Answer.{Answer}
use Rattle.world_model.specs.declared.entry.Entry.{Entry}
use Rattle.world_model.specs.declared.entry.Entry.TheVariants.{Began, Answered, Dialed, Sent, Executed, Foreign, Flushed, Reboot, Delivered, Failed, Clock}
use Rattle.world_model.specs.declared.op.Op.{Op}
use Rattle.world_model.specs.Entries.{At}
use Rattle.world_model.specs.Follows.{marks_of}
use Rattle.world_model.specs.Lost.{Loses}
use Rattle.world_model.specs.Messages.{HasXid}
use Rattle.law_calls.specs.Calls.{Numbered}
use Rattle.op_machines.specs.declared.machine.Machine.{Machine}
use Rattle.op_machines.specs.Fits.{Fits}
use Rattle.client_core.specs.declared.lane.State.TheVariants.{Over}
use Rattle.client_core.specs.declared.setup.Setup.{Setup}
use Rattle.client_core.specs.Fresh.{AreSizes, IsFresh}
use Rattle.client_core.specs.Numbers.{IsIdle}
use Rattle.client_core.specs.Steps.{Begins, WereSent, Hears, SendsBy, FailsBy, AnswersBy, lost}
use Rattle.client_core.specs.View.{View}

-- ---- the set-up

-- What a session may be set up with: xids of 32 bits from 1 on, for as many calls as may be made; and the sizes of READ and WRITE.
pub record MaySetUp (setup : Setup) : Type 0 where
  pub first : 1 ≤ setup.first_xid
  pub last : setup.first_xid + setup.limit ≤ 2 ^ 32 - 1
  pub sizes : AreSizes setup

-- What the set-up leaves, which makes its calls (MNT, FSINFO) by itself: no operation has begun; all records under one xid are equal, and
-- none was sent after its reply; and its xids lie below the first one of the core.
pub record IsSetUp (setup : Setup) (h : List Entry) : Type 0 where
  pub unmarked : (lane : ℕ) → marks_of lane h ≡ []
  pub unbegun : (i lane line : ℕ) (op : Op) → At h i (Began lane line op) → ⊥
  pub numbered : Numbered h
  pub below : (i xid : ℕ) (bytes : List ℕ) → At h i (Sent bytes) → HasXid bytes xid → xid < setup.first_xid

-- ---- what the caller keeps to

-- The lane began this line last, and hasn't answered it.
pub record IsOpenLine (h : List Entry) (lane line : ℕ) : Type 0 where
  pub op : Op
  pub before : List Entry
  pub is : marks_of lane h ≡ before ++ Began lane line op ∷ []

-- A record is received only when each call that waits was sent, and each answer that is ready was noted.
pub record MayHear (v : View) : Type 0 where
  pub sent : WereSent v.calls.calls
  pub noted : (at number : ℕ) (answer : Answer) → slice_get v.lanes at ≡ Some (record { number = number; state = Over answer }) → ⊥

-- the last reading of the clock, or this one if there is none
abbrev pub last_reading : ℕ → List Entry → ℕ
last_reading ms [] = ms
last_reading ms (Clock now ∷ es) = last_reading now es
last_reading ms (e ∷ es) = last_reading ms es

-- ---- the steps

-- An operation begins in an idle lane, as its machine, at the last reading of the clock.
pub record BeginsOp (machine_of : ℕ → Op → Machine) (h : List Entry) (old : View) (lane : ℕ) (op : Op) (new : View) : Type 0 where
  pub idle : IsIdle lane old.lanes
  pub few : old.begun < 2 ^ 32
  pub fits : Fits (machine_of lane op)
  pub step : Begins old lane (machine_of lane op) (last_reading 0 h) new

-- the answer of the line that the lane began
pub record AnswersLine (h : List Entry) (old : View) (lane line : ℕ) (answer : Answer) (new : View) : Type 0 where
  pub line_is : IsOpenLine h lane line
  pub answers : AnswersBy old lane (Some answer) new

pub record HearsRecord (old : View) (bytes : List ℕ) (new : View) : Type 0 where
  pub may : MayHear old
  pub result : Bool
  pub hears : Hears old bytes result new

-- From old the core comes to new at an entry that the history goes on with. A failure ends the attempts that run, or is that of a dial.
-- What it can't see leaves it as it is.
abbrev pub StepsTo : (ℕ → Op → Machine) → List Entry → View → Entry → View → Type 0
StepsTo machine_of h old (Began lane line op) new = BeginsOp machine_of h old lane op new
StepsTo machine_of h old (Answered lane line answer) new = AnswersLine h old lane line answer new
StepsTo machine_of h old (Sent bytes) new = SendsBy old (Some bytes) new
StepsTo machine_of h old (Delivered bytes) new = HearsRecord old bytes new
StepsTo machine_of h old Failed new = ((result : Bool) × FailsBy old result new) ⊎ (new ≡ old)
StepsTo machine_of h old (Dialed port) new = new ≡ old
StepsTo machine_of h old (Executed xid call reply) new = new ≡ old
StepsTo machine_of h old (Foreign call reply) new = new ≡ old
StepsTo machine_of h old (Flushed file from len) new = new ≡ old
StepsTo machine_of h old (Reboot verf) new = new ≡ old
StepsTo machine_of h old (Clock ms) new = new ≡ old

-- The view goes with the history. The caller gives the session up only if the history shows a cause.
pub data Reaches (machine_of : ℕ → Op → Machine) (setup : Setup) : List Entry → View → Type 0 where
  begins : (h : List Entry) (v : View) → MaySetUp setup → IsSetUp setup h → IsFresh setup v → Reaches machine_of setup h v
  goes : (h before : List Entry) (v b : View) (e : Entry) → Reaches machine_of setup before b → h ≡ before ++ e ∷ []
      → StepsTo machine_of before b e v → Reaches machine_of setup h v
  loses : (h : List Entry) (v b : View) → Reaches machine_of setup h b → Loses h (length h) → v ≡ lost b → Reaches machine_of setup h v
