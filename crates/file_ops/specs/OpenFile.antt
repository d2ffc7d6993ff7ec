-- A file is opened at a slot of a lane.
use Rattle.std.specs.Prelude.{◌≡◌, ◌⊎◌, ◌-◌, ℕ, Bool, List, Option, Some, None, is_some, Result, Ok, Err, if◌then◌else◌}
use Rattle.std.specs.FinMap as finite
use Rattle.open_files.specs.Slots.{Place, Opens}
use Rattle.open_files.specs.declared.opened.Opened.{Opened}
use Rattle.page_cache.specs.Pages.{Pages}
use Rattle.world_model.specs.declared.answer.Fault.{Fault}
use Rattle.world_model.specs.declared.answer.Fault.TheVariants as faults
use Rattle.world_model.specs.declared.answer.Value.TheVariants as values
use Rattle.world_model.specs.declared.answer.Answer.TheVariants as answers
use Rattle.world_model.specs.declared.message.Reply.{Reply}
use Rattle.client_shelf.specs.declared.turn.Turn.{Turn}
use Rattle.client_shelf.specs.declared.repeats.Repeat.{Repeat}
use Rattle.attr_cache.specs.Attrs.{Attrs}
use Rattle.client_shelf.specs.declared.step.Step.{Step}
use Rattle.client_shelf.specs.declared.step.Step.TheVariants.{Send, Wait, Done}
use Rattle.file_ops.specs.declared.opening.Opening.{Opening}
use Rattle.file_ops.specs.declared.opening.OpeningStep.{OpeningStep}
use Rattle.file_ops.specs.declared.opening.OpeningStep.TheVariants as steps
use Rattle.file_ops.specs.declared.open_file.OpenFile.{OpenFile}
use Rattle.file_ops.specs.Opening.{go_next, go_after, opening_again, opening_after, led_on, LedIf}

-- where it is opened
abbrev pub place_of : OpenFile → Place
place_of m = (m.lane, m.slot)

-- it succeeded, without a value
abbrev pub well : Step
well = Done (answers.Done values.Nothing)

abbrev pub refused : Fault → Step
refused fault = Done (answers.Refused fault)

-- a step of the opening as one of the operation
abbrev pub goes_as : OpeningStep → Step
goes_as (steps.Send call) = Send call
goes_as steps.Wait = Wait
goes_as (steps.Ended (Ok file)) = well
goes_as (steps.Ended (Err fault)) = refused fault

-- the operation's own moment is the last one that was given out
abbrev pub begun : OpenFile → Turn → OpenFile
begun m turn = record m { opening = record m.opening { moment = turn.moment - 1 } }

-- the machine after its opening asked for a call, if there was room
abbrev pub gone : OpenFile → Turn → OpenFile
gone m turn = record m { opening = go_after m.opening turn }

-- whether the slot holds an open
abbrev pub is_taken : OpenFile → Opens → Bool
is_taken m opens = is_some (finite.get opens (place_of m))

-- the first step: a slot that holds an open refuses
abbrev pub start_next : OpenFile → Turn → Opens → Step
start_next m turn opens = if is_taken m opens then refused faults.Slot else goes_as (go_next (begun m turn).opening turn)

abbrev pub start_after : OpenFile → Turn → Opens → OpenFile
start_after m turn opens = if is_taken m opens then m else gone (begun m turn) turn

-- what is kept of the open
abbrev pub opened_of : Opening → List ℕ → Opened
opened_of o file = record { file = file; dir = o.dir; name = o.name; mode = o.mode; mark = o.moment }

-- the open goes to its slot, unless another one came there meanwhile or there is no memory
abbrev pub PutsOver : Option Opened → Place → Opened → Step → Opens → Opens → Type 0
PutsOver (Some other) place of next old new = (next ≡ refused faults.Slot) × (new ≡ old)
PutsOver None place of next old new =
    ((next ≡ well) × (new ≡ finite.insert old place of)) ⊎ ((next ≡ refused faults.Memory) × (new ≡ old))

abbrev pub Puts : Place → Opened → Step → Opens → Opens → Type 0
Puts place of next old new = PutsOver (finite.get old place) place of next old new

-- what a step of the opening comes to
abbrev pub Follows : OpenFile → OpeningStep → Step → Opens → Opens → Type 0
Follows m (steps.Ended (Ok file)) next old new = Puts (place_of m) (opened_of m.opening file) next old new
Follows m step next old new = (next ≡ goes_as step) × (new ≡ old)

-- the machine after a reply: if the call is made again, it stays as it is
abbrev pub took_after : Bool → OpenFile → Turn → Result Reply Fault → Attrs → Pages → OpenFile
took_after again m turn reply attrs pages = record m { opening = opening_after again m.opening turn (led_on m.opening turn.now reply attrs pages) }

-- a reply's step: the opening's, and what follows
pub record OpenTakes (m : OpenFile) (sent turn : Turn) (reply : Result Reply Fault) (attrs : Attrs) (repeats : List Repeat) (next : Step)
    (pages later : Pages) (old new : Opens) : Type 0 where
  pub step : OpeningStep
  pub led : LedIf (opening_again m.opening sent turn reply repeats) m.opening sent turn (led_on m.opening turn.now reply attrs pages) step pages later
  pub follows : Follows m step next old new
