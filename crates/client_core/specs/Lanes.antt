-- What a lane is at.
use Rattle.std.specs.Prelude.{◌≡◌, ◌<◌, ℕ, List, [], ◌∷◌, Option, Some, None, Bool, true, false, ◌==◌, min, slice_get, position, Result}
use Rattle.client_shelf.specs.declared.shelf.Shelf.{Shelf}
use Rattle.client_shelf.specs.declared.turn.Turn.{Turn}
use Rattle.client_shelf.specs.declared.step.Step.{Step}
use Rattle.client_shelf.specs.declared.step.Step.TheVariants.{Send, Wait, Done}
use Rattle.world_model.specs.declared.answer.Answer.{Answer}
use Rattle.world_model.specs.declared.answer.Fault.{Fault}
use Rattle.world_model.specs.declared.message.Reply.{Reply}
use Rattle.world_model.specs.declared.answer.Answer.TheVariants.{Refused}
use Rattle.world_model.specs.declared.answer.Fault.TheVariants as faults
use Rattle.op_machines.specs.declared.machine.Machine.{Machine}
use Rattle.op_machines.specs.Fits.{Fits}
use Rattle.op_machines.specs.Rests.{Rests}
use Rattle.op_machines.specs.Steps.{Resumes, Takes}
use Rattle.client_core.specs.declared.lane.Lane.{Lane}
use Rattle.client_core.specs.declared.lane.State.{State}
use Rattle.client_core.specs.declared.lane.State.TheVariants.{Busy, Over}

abbrev pub busy_by : Bool → State → Bool
busy_by own (Busy machine) = own
busy_by own (Over answer) = false

abbrev pub is_busy : ℕ → Lane → Bool
is_busy number lane = busy_by (lane.number == number) lane.state

abbrev pub over_by : Bool → State → Bool
over_by own (Busy machine) = false
over_by own (Over answer) = own

abbrev pub is_over : ℕ → Lane → Bool
is_over number lane = over_by (lane.number == number) lane.state

-- the lesser of a number and that of a lane, if the lane has its answer
abbrev pub least_by : Option ℕ → ℕ → State → Option ℕ
least_by first number (Busy machine) = first
least_by None number (Over answer) = Some number
least_by (Some least) number (Over answer) = Some (min least number)

-- the least number of a lane that has its answer, beside another number
abbrev pub least_answered : Option ℕ → List Lane → Option ℕ
least_answered first [] = first
least_answered first (lane ∷ lanes) = least_answered (least_by first lane.number lane.state) lanes

-- the number is less than the least one
abbrev pub IsUnder : ℕ → Option ℕ → Type 0
IsUnder number None = Unit {0}
IsUnder number (Some least) = number < least

-- a lane of a number less than this one has no answer
abbrev pub AnsweredFrom : Option ℕ → List Lane → Type 0
AnsweredFrom least lanes = (number : ℕ) → IsUnder number least → position (is_over number) lanes ≡ None

abbrev pub lost_state : State → State
lost_state (Busy machine) = Over (Refused faults.Lost)
lost_state (Over answer) = Over answer

abbrev pub lost_lane : Lane → Lane
lost_lane lane = record { number = lane.number; state = lost_state lane.state }

-- the bytes that its operation has to write end within all places of a file
abbrev pub StateFits : State → Type 0
StateFits (Busy machine) = Fits machine
StateFits (Over answer) = Unit {0}

abbrev pub LaneFits : Lane → Type 0
LaneFits lane = StateFits lane.state

-- whether the operation of the lane at a place is under way
abbrev pub busy_in : Option Lane → Bool
busy_in None = false
busy_in (Some lane) = busy_by true lane.state

abbrev pub is_busy_at : ℕ → List Lane → Bool
is_busy_at at lanes = busy_in (slice_get lanes at)

-- ---- steps of an operation, if it is under way

pub record OperationResumes (wsize : ℕ) (machine : Machine) (turn : Turn) (old : Shelf) (next : Step) (state : State) (shelf : Shelf) : Type 0 where
  pub after : Machine
  pub state_is : state ≡ Busy after
  pub resumes : Resumes wsize machine turn old next after shelf

pub record OperationTakes (wsize : ℕ) (machine : Machine) (sent turn : Turn) (came : Result Reply Fault) (old : Shelf) (next : Step) (state : State)
    (shelf : Shelf) : Type 0 where
  pub after : Machine
  pub state_is : state ≡ Busy after
  pub takes : Takes wsize machine sent turn came old next after shelf

-- an operation that has its answer does nothing
pub record DoesNothing (answer : Answer) (old : Shelf) (next : Step) (state : State) (shelf : Shelf) : Type 0 where
  pub next_is : next ≡ Wait
  pub state_is : state ≡ Over answer
  pub shelf_is : shelf ≡ old

abbrev pub StateResumes : ℕ → State → Turn → Shelf → Step → State → Shelf → Type 0
StateResumes wsize (Busy machine) turn old next new shelf = OperationResumes wsize machine turn old next new shelf
StateResumes wsize (Over answer) turn old next new shelf = DoesNothing answer old next new shelf

abbrev pub StateTakes : ℕ → State → Turn → Turn → Result Reply Fault → Shelf → Step → State → Shelf → Type 0
StateTakes wsize (Busy machine) sent turn came old next new shelf = OperationTakes wsize machine sent turn came old next new shelf
StateTakes wsize (Over answer) sent turn came old next new shelf = DoesNothing answer old next new shelf

-- the same of the lane, whose number stays
abbrev pub LaneResumes : ℕ → Lane → Turn → Shelf → Step → Lane → Shelf → Type 0
LaneResumes wsize lane turn old next new shelf = StateResumes wsize lane.state turn old next new.state shelf × (new.number ≡ lane.number)

abbrev pub LaneTakes : ℕ → Lane → Turn → Turn → Result Reply Fault → Shelf → Step → Lane → Shelf → Type 0
LaneTakes wsize lane sent turn came old next new shelf = StateTakes wsize lane.state sent turn came old next new.state shelf × (new.number ≡ lane.number)

-- the lane at a place has this number, and has come so far
abbrev pub IsAt : List Lane → ℕ → ℕ → State → Type 0
IsAt lanes at number state = slice_get lanes at ≡ Some (record { number = number; state = state })

-- a step of its operation that no reply made possible waits and changes nothing, unless it has its answer
abbrev pub StateRests : State → Shelf → Type 0
StateRests (Busy machine) shelf = Rests machine shelf
StateRests (Over answer) shelf = Unit {0}

abbrev pub LaneRests : Lane → Shelf → Type 0
LaneRests lane shelf = StateRests lane.state shelf

-- whether a step waits
abbrev pub waits : Step → Bool
waits (Send call) = false
waits Wait = true
waits (Done answer) = false
