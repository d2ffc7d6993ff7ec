-- A put, step by step. Its file is opened to be written. Its bytes become pending as those of a write do. What is pending of the file is made stable.
use Rattle.std.specs.Prelude.{◌≡◌, ℕ, ◌-◌, Bool, true, false, not, ◌||◌, List, Option, Some, Result, Ok, Err}
use Rattle.std.specs.List.{list_any}
use Rattle.world_model.specs.declared.answer.Fault.{Fault}
use Rattle.world_model.specs.declared.answer.Answer.TheVariants as answers
use Rattle.world_model.specs.declared.message.Reply.{Reply}
use Rattle.client_shelf.specs.declared.turn.Turn.{Turn}
use Rattle.client_shelf.specs.declared.lane_files.LaneFile.{LaneFile}
use Rattle.client_shelf.specs.declared.shelf.Shelf.{Shelf}
use Rattle.client_shelf.specs.LaneFiles.{added, left, is_other, is_first}
use Rattle.open_files.specs.Slots.{Opens}
use Rattle.write_back.specs.Files.{Pending}
use Rattle.client_shelf.specs.declared.step.Step.{Step}
use Rattle.client_shelf.specs.declared.step.Step.TheVariants as nexts
use Rattle.file_ops.specs.declared.saving.Saving.{Saving}
use Rattle.file_ops.specs.declared.saving.SavingStep.{SavingStep}
use Rattle.file_ops.specs.declared.saving.SavingStep.TheVariants.{Send, Wait, Ended}
use Rattle.file_ops.specs.declared.put_file.Putting.{Putting}
use Rattle.file_ops.specs.declared.put_file.Putting.TheVariants.{Idle, Opens as AtOpening, Adds, Saves}
use Rattle.file_ops.specs.declared.put_file.PutFile.{PutFile}
use Rattle.file_ops.specs.declared.opening.Opening.{Opening}
use Rattle.file_ops.specs.declared.opening.OpeningStep.{OpeningStep}
use Rattle.file_ops.specs.declared.opening.OpeningStep.TheVariants as steps
use Rattle.file_ops.specs.declared.write_file.Text.TheVariants.{Given}
use Rattle.file_ops.specs.declared.write_file.Writing.{Writing}
use Rattle.file_ops.specs.declared.write_file.Writing.TheVariants as writings
use Rattle.nfs_types.specs.declared.mode.Mode.TheVariants.{W}
use Rattle.attr_cache.specs.Attrs.{Attrs}
use Rattle.page_cache.specs.Pages.{Pages}
use Rattle.client_shelf.specs.Busy.{repeats_after}
use Rattle.file_ops.specs.Opening.{first_step, go_next, go_after, NotesAttrs, NotesNames, opening_again, opening_after, led_on, LedIf, told_led, may_again}
use Rattle.file_ops.specs.OpenFile.{goes_as}
use Rattle.file_ops.specs.WriteFile.{made_bytes, Writes, TakesIn, ResumesIn}
use Rattle.file_ops.specs.Closings.{GivesUpBy, closed_answer, refusal_of}
use Rattle.file_ops.specs.Judging.{after_of}
use Rattle.client_shelf.specs.Learning.{Learns}
use Rattle.file_ops.specs.SlotFiles.{joined}
use Rattle.file_ops.specs.Saves as saves

-- nothing happens
pub record Waits (state : Putting) (old : Shelf) (next : Step) (after : Putting) (new : Shelf) : Type 0 where
  pub next_is : next ≡ nexts.Wait
  pub state_is : after ≡ state
  pub shelf_is : new ≡ old

-- Refused bytes stay if another put is at the file, or if this one isn't the first in its order: then it wasn't its own save that was refused, but
-- room for its bytes, and what is pending of the file came from others.
abbrev pub keeps_refused : ℕ → List ℕ → List LaneFile → List LaneFile → Bool
keeps_refused lane file places order = list_any (is_other lane file) places || not (is_first lane order)

-- If they don't stay, refused bytes of a file that isn't open are given up.
abbrev pub GivesUpAlone : Bool → Option Fault → List ℕ → Opens → Pending → Pending → Type 0
GivesUpAlone true refusal file opens old new = new ≡ old
GivesUpAlone false refusal file opens old new = GivesUpBy refusal file opens old new

-- The last step: refused bytes are given up, and it is at no file any more.
pub record Ends (lane : ℕ) (file : List ℕ) (refusal : Option Fault) (old : Shelf) (next : Step) (state : Putting) (new : Shelf) : Type 0 where
  pub next_is : next ≡ nexts.Done (closed_answer refusal)
  pub state_is : state ≡ Idle
  pub back : GivesUpAlone (keeps_refused lane file old.puts old.order) refusal file old.opens old.back new.back
  pub others : new ≡ record old { back = new.back; order = left lane old.order; puts = left lane old.puts }

-- It does as its save does, until that has ended.
abbrev pub Follows : SavingStep → ℕ → Saving → Shelf → Step → Putting → Shelf → Type 0
Follows (Send call) lane saving old next state new = (next ≡ nexts.Send call) × (state ≡ Saves saving) × (new ≡ old)
Follows Wait lane saving old next state new = (next ≡ nexts.Wait) × (state ≡ Saves saving) × (new ≡ old)
Follows (Ended result) lane saving old next state new = Ends lane saving.file (refusal_of result) old next state new

-- its save goes on
pub record GoesOn (wsize lane : ℕ) (turn : Turn) (saving : Saving) (old : Shelf) (next : Step) (state : Putting) (new : Shelf) : Type 0 where
  pub gives : SavingStep
  pub saved : Saving
  pub gone : Shelf
  pub goes : saves.Goes wsize turn.xid turn.room false saving old.back gives saved gone.back
  pub others : gone ≡ record old { back = gone.back }
  pub follows : Follows gives lane saved gone next state new

-- It goes on once its turn has come.
abbrev pub QueuesIf : Bool → ℕ → ℕ → Turn → Saving → Shelf → Step → Putting → Shelf → Type 0
QueuesIf true wsize lane turn saving old next state new = GoesOn wsize lane turn saving old next state new
QueuesIf false wsize lane turn saving old next state new = Waits (Saves saving) old next state new

abbrev pub Queues : ℕ → ℕ → Turn → Saving → Shelf → Step → Putting → Shelf → Type 0
Queues wsize lane turn saving old next state new = QueuesIf (is_first lane old.order) wsize lane turn saving old next state new

-- Its bytes are pending: it takes its place in the order of its file, and saves.
abbrev pub SavesFile : ℕ → ℕ → List ℕ → Turn → Shelf → Step → Putting → Shelf → Type 0
SavesFile wsize lane file turn old next state new = Queues wsize lane turn (saves.begun file old.seq) (joined lane file old) next state new

-- What follows a step of the write.
abbrev pub AfterWrite : Step → ℕ → ℕ → List ℕ → Turn → Shelf → Step → Putting → Shelf → Type 0
AfterWrite (nexts.Send call) wsize lane file turn old next state new = (next ≡ nexts.Send call) × (state ≡ Adds file) × (new ≡ old)
AfterWrite nexts.Wait wsize lane file turn old next state new = (next ≡ nexts.Wait) × (state ≡ Adds file) × (new ≡ old)
AfterWrite (nexts.Done (answers.Done value)) wsize lane file turn old next state new = SavesFile wsize lane file turn old next state new
AfterWrite (nexts.Done (answers.Refused fault)) wsize lane file turn old next state new = Ends lane file (Some fault) old next state new

-- the save takes what came of its call
pub record TakesOne (wsize lane : ℕ) (sent turn : Turn) (came : Result Reply Fault) (saving : Saving) (old : Shelf) (next : Step) (state : Putting)
    (new : Shelf) : Type 0 where
  pub gives : SavingStep
  pub saved : Saving
  pub took : Shelf
  pub takes : saves.Takes wsize sent turn came old.repeats saving old.back gives saved took.back took.repeats
  pub pages : took.pages ≡ saves.pages_after sent.xid (turn.moment - 1) came saving old.back old.pages
  pub attrs : Learns saving.file (after_of came) sent.now old.attrs took.attrs
  pub others : took ≡ record old { attrs = took.attrs; back = took.back; pages = took.pages; repeats = took.repeats }
  pub follows : Follows gives lane saved took next state new

-- ---- before its bytes are pending

-- a put that hasn't started
abbrev pub not_begun : ℕ → Bool → List ℕ → List ℕ → ℕ → List ℕ → PutFile
not_begun lane nocto dir name offset bytes = record {
  opening = record { dir = dir; name = name; mode = W; nocto = nocto; moment = 0; step = first_step W; asked = false; put_off = 0 };
  write = record { lane = lane; slot = 0; offset = offset; text = Given bytes; state = writings.Idle };
  state = Idle;
}

-- its own moment is the last one that was given out
abbrev pub opening_at : Turn → PutFile → Opening
opening_at turn machine = record machine.opening { moment = turn.moment - 1 }

-- nothing happens
pub record Stays (machine : PutFile) (old : Shelf) (next : Step) (new : PutFile) (after : Shelf) : Type 0 where
  pub next_is : next ≡ nexts.Wait
  pub machine_is : new ≡ machine
  pub shelf_is : after ≡ old

-- the lane is at its file
abbrev pub put_at : ℕ → List ℕ → Shelf → Shelf
put_at lane file shelf = record shelf { puts = added (record { lane = lane; file = file }) (left lane shelf.puts) }

-- what a step of its write, which leads to `told`, makes of the put
pub record WritesOn (wsize : ℕ) (machine : PutFile) (file : List ℕ) (turn : Turn) (told : Step) (written : Writing) (mid : Shelf) (next : Step)
    (new : PutFile) (after : Shelf) : Type 0 where
  pub follows : AfterWrite told wsize machine.write.lane file turn mid next new.state after
  pub machine_is : new ≡ record machine { write = record machine.write { state = written }; state = new.state }

-- Its bytes become pending at its file, or room is made for them.
pub record AddsBytes (wsize : ℕ) (machine : PutFile) (file : List ℕ) (turn : Turn) (old : Shelf) (next : Step) (new : PutFile) (after : Shelf) : Type 0 where
  pub told : Step
  pub written : Writing
  pub mid : Shelf
  pub writes : Writes wsize machine.write.lane file machine.write.offset (made_bytes machine.write.text) turn (put_at machine.write.lane file old) told
      written mid
  pub goes : WritesOn wsize machine file turn told written mid next new after

-- The write, which makes room, takes what came of its call.
pub record TakesRoom (wsize : ℕ) (machine : PutFile) (file : List ℕ) (sent turn : Turn) (came : Result Reply Fault) (old : Shelf) (next : Step)
    (new : PutFile) (after : Shelf) : Type 0 where
  pub told : Step
  pub written : Writing
  pub mid : Shelf
  pub takes : TakesIn machine.write.state wsize machine.write sent turn came old told written mid
  pub goes : WritesOn wsize machine file turn told written mid next new after

-- The write goes on to make room.
pub record ResumesRoom (wsize : ℕ) (machine : PutFile) (file : List ℕ) (turn : Turn) (old : Shelf) (next : Step) (new : PutFile) (after : Shelf) : Type 0 where
  pub told : Step
  pub written : Writing
  pub mid : Shelf
  pub resumes : ResumesIn machine.write.state wsize machine.write.lane turn old told written mid
  pub goes : WritesOn wsize machine file turn told written mid next new after

-- what follows a step of the opening
abbrev pub AfterOpening : OpeningStep → ℕ → PutFile → Turn → Shelf → Step → PutFile → Shelf → Type 0
AfterOpening (steps.Send call) wsize machine turn old next new after = (next ≡ nexts.Send call) × (new ≡ machine) × (after ≡ old)
AfterOpening steps.Wait wsize machine turn old next new after = Stays machine old next new after
AfterOpening (steps.Ended (Ok file)) wsize machine turn old next new after = AddsBytes wsize machine file turn old next new after
AfterOpening (steps.Ended (Err fault)) wsize machine turn old next new after =
    (next ≡ nexts.Done (answers.Refused fault)) × (new ≡ record machine { state = Idle }) × (after ≡ old)

-- the put after its opening took a reply
abbrev pub led : Bool → PutFile → Turn → Result Reply Fault → Attrs → Pages → PutFile
led again machine turn came attrs pages =
    record machine { opening = opening_after again machine.opening turn (led_on machine.opening turn.now came attrs pages) }

-- The opening takes what came of its call.
pub record TakesOpening (wsize : ℕ) (machine : PutFile) (sent turn : Turn) (came : Result Reply Fault) (old : Shelf) (next : Step) (new : PutFile)
    (after : Shelf) : Type 0 where
  pub step : OpeningStep
  pub took : Shelf
  pub leads : LedIf (opening_again machine.opening sent turn came old.repeats) machine.opening sent turn
      (led_on machine.opening turn.now came took.attrs old.pages) step old.pages took.pages
  pub attrs : NotesAttrs machine.opening sent.now came machine.opening.step old.attrs took.attrs
  pub names : NotesNames machine.opening came machine.opening.step old.names took.names
  pub repeats : took.repeats ≡ repeats_after (may_again machine.opening (told_led machine.opening came)) sent turn old.repeats
  pub others : took ≡ record old { pages = took.pages; attrs = took.attrs; names = took.names; repeats = took.repeats }
  pub follows : AfterOpening step wsize (led (opening_again machine.opening sent turn came old.repeats) machine turn came took.attrs old.pages) turn took next
      new after

-- a step that no reply made possible
abbrev pub Resumes : Putting → ℕ → PutFile → Turn → Shelf → Step → PutFile → Shelf → Type 0
Resumes Idle wsize machine turn old next new after = Stays machine old next new after
Resumes AtOpening wsize machine turn old next new after =
    (next ≡ goes_as (go_next machine.opening turn)) × (new ≡ record machine { opening = go_after machine.opening turn }) × (after ≡ old)
Resumes (Adds file) wsize machine turn old next new after = ResumesRoom wsize machine file turn old next new after
Resumes (Saves saving) wsize machine turn old next new after =
    Queues wsize machine.write.lane turn saving old next new.state after × (new ≡ record machine { state = new.state })

-- What comes to a put that asked for nothing means nothing.
abbrev pub Takes : Putting → ℕ → PutFile → Turn → Turn → Result Reply Fault → Shelf → Step → PutFile → Shelf → Type 0
Takes Idle wsize machine sent turn came old next new after = Stays machine old next new after
Takes AtOpening wsize machine sent turn came old next new after = TakesOpening wsize machine sent turn came old next new after
Takes (Adds file) wsize machine sent turn came old next new after = TakesRoom wsize machine file sent turn came old next new after
Takes (Saves saving) wsize machine sent turn came old next new after =
    TakesOne wsize machine.write.lane sent turn came saving old next new.state after × (new ≡ record machine { state = new.state })
