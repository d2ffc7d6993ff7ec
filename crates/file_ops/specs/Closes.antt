-- A close, step by step: it takes its place in the order of its file; when its turn has come, what is pending of the file is made
-- stable, and then the slot is free.
use Rattle.std.specs.Prelude.{◌≡◌, ℕ, ◌-◌, Bool, true, false, if◌then◌else◌, List, Option, Some, None, Result}
use Rattle.std.specs.FinMap as map
use Rattle.client_shelf.specs.declared.shelf.Shelf.{Shelf}
use Rattle.client_shelf.specs.declared.turn.Turn.{Turn}
use Rattle.client_shelf.specs.LaneFiles.{left, is_first}
use Rattle.world_model.specs.declared.answer.Fault.{Fault}
use Rattle.world_model.specs.declared.answer.Fault.TheVariants.{Slot}
use Rattle.world_model.specs.declared.answer.Answer.TheVariants as answers
use Rattle.world_model.specs.declared.message.Reply.{Reply}
use Rattle.write_back.specs.Segments.{last_end}
use Rattle.write_back.specs.Files.{of_file}
use Rattle.client_shelf.specs.declared.step.Step.{Step}
use Rattle.client_shelf.specs.declared.step.Step.TheVariants as nexts
use Rattle.file_ops.specs.declared.saving.Saving.{Saving}
use Rattle.file_ops.specs.declared.saving.SavingStep.{SavingStep}
use Rattle.file_ops.specs.declared.saving.SavingStep.TheVariants.{Send, Wait, Ended}
use Rattle.file_ops.specs.declared.closing.Removal.{Removal}
use Rattle.file_ops.specs.declared.close_file.CloseFile.{CloseFile}
use Rattle.file_ops.specs.declared.close_file.Closing.{Closing}
use Rattle.file_ops.specs.declared.close_file.Closing.TheVariants.{Idle, Queued, Saves, ToRemove, Removing}
use Rattle.file_ops.specs.Judging.{after_of}
use Rattle.client_shelf.specs.Learning.{Learns}
use Rattle.client_shelf.specs.Unmade.{came_unmade, names_after, RenewsUnless}
use Rattle.file_ops.specs.SlotFiles.{file_at, joined}
use Rattle.client_shelf.specs.Busy.{goes_again, repeats_after}
use Rattle.file_ops.specs.Closings.{TellsPlace, remove_of, removed_of, remove_busy, GivesUpBy, closed_answer, refusal_of}
use Rattle.file_ops.specs.Saves as saves

-- nothing happens
pub record Waits (state : Closing) (old : Shelf) (next : Step) (after : Closing) (new : Shelf) : Type 0 where
  pub next_is : next ≡ nexts.Wait
  pub state_is : after ≡ state
  pub shelf_is : new ≡ old

-- The last step: refused bytes are given up, and it leaves the order.
pub record Ends (lane : ℕ) (file : List ℕ) (refusal : Option Fault) (old : Shelf) (next : Step) (state : Closing) (new : Shelf) : Type 0 where
  pub next_is : next ≡ nexts.Done (closed_answer refusal)
  pub state_is : state ≡ Idle
  pub back : GivesUpBy refusal file old.opens old.back new.back
  pub others : new ≡ record old { back = new.back; order = left lane old.order }

-- The file is removed as soon as there is room for the call.
abbrev pub ask_next : Bool → Removal → Step
ask_next room removal = if room then nexts.Send (remove_of removal) else nexts.Wait

abbrev pub ask_state : Bool → Removal → Closing
ask_state room removal = if room then Removing removal else ToRemove removal

pub record Asks (room : Bool) (removal : Removal) (old : Shelf) (next : Step) (state : Closing) (new : Shelf) : Type 0 where
  pub next_is : next ≡ ask_next room removal
  pub state_is : state ≡ ask_state room removal
  pub shelf_is : new ≡ old

-- After a last close the file is removed, if it is to be.
abbrev pub EndsAt : Option (List ℕ × List ℕ) → ℕ → Bool → List ℕ → Option Fault → Shelf → Step → Closing → Shelf → Type 0
EndsAt None lane room file refusal old next state new = Ends lane file refusal old next state new
EndsAt (Some place) lane room file refusal old next state new =
    Asks room (record { file = file; dir = place.0; name = place.1; refusal = refusal }) old next state new

-- The sync has ended, with a refusal or not: the slot is free.
pub record Frees (lane slot : ℕ) (room : Bool) (file : List ℕ) (refusal : Option Fault) (old : Shelf) (next : Step) (state : Closing)
    (new : Shelf) : Type 0 where
  pub freed : Shelf
  pub place : Option (List ℕ × List ℕ)
  pub slot_is : freed ≡ record old { opens = map.remove old.opens (lane, slot); silly = freed.silly }
  pub tells : TellsPlace file freed.opens old.silly place freed.silly
  pub ends : EndsAt place lane room file refusal freed next state new

-- how a save waits that has begun or not
abbrev pub waits_as : Bool → Saving → Closing
waits_as begun saving = if begun then Saves saving else Queued saving

-- It does as its save does, until that has ended. A save that waits may not have begun.
abbrev pub Follows : SavingStep → ℕ → ℕ → Bool → Bool → Saving → Shelf → Step → Closing → Shelf → Type 0
Follows (Send call) lane slot room begun saving old next state new = (next ≡ nexts.Send call) × (state ≡ Saves saving) × (new ≡ old)
Follows Wait lane slot room begun saving old next state new = (next ≡ nexts.Wait) × (state ≡ waits_as begun saving) × (new ≡ old)
Follows (Ended result) lane slot room begun saving old next state new = Frees lane slot room saving.file (refusal_of result) old next state new

-- its save goes on
pub record GoesOn (wsize lane slot : ℕ) (turn : Turn) (begun : Bool) (saving : Saving) (old : Shelf) (next : Step) (state : Closing)
    (new : Shelf) : Type 0 where
  pub gives : SavingStep
  pub saved : Saving
  pub gone : Shelf
  pub goes : saves.Goes wsize turn.xid turn.room false saving old.back gives saved gone.back
  pub others : gone ≡ record old { back = gone.back }
  pub follows : Follows gives lane slot turn.room begun saved gone next state new

abbrev pub GoesOnIf : Bool → ℕ → ℕ → ℕ → Turn → Saving → Shelf → Step → Closing → Shelf → Type 0
GoesOnIf true wsize lane slot turn saving old next state new = GoesOn wsize lane slot turn true saving old next state new
GoesOnIf false wsize lane slot turn saving old next state new = Waits (Saves saving) old next state new

-- When its turn has come, a file with no pending byte needs no sync.
abbrev pub Begins : Option ℕ → ℕ → ℕ → ℕ → Turn → Saving → Shelf → Step → Closing → Shelf → Type 0
Begins None wsize lane slot turn saving old next state new = Frees lane slot turn.room saving.file None old next state new
Begins (Some end) wsize lane slot turn saving old next state new = GoesOn wsize lane slot turn false saving old next state new

abbrev pub QueuesIf : Bool → ℕ → ℕ → ℕ → Turn → Saving → Shelf → Step → Closing → Shelf → Type 0
QueuesIf true wsize lane slot turn saving old next state new =
    Begins (last_end (of_file saving.file old.back).segments) wsize lane slot turn saving old next state new
QueuesIf false wsize lane slot turn saving old next state new = Waits (Queued saving) old next state new

abbrev pub Queues : ℕ → ℕ → ℕ → Turn → Saving → Shelf → Step → Closing → Shelf → Type 0
Queues wsize lane slot turn saving old next state new = QueuesIf (is_first lane old.order) wsize lane slot turn saving old next state new

-- At its start the slot's file is found, or the close is refused.
pub record HasNoFile (machine : CloseFile) (old : Shelf) (next : Step) (state : Closing) (new : Shelf) : Type 0 where
  pub next_is : next ≡ nexts.Done (answers.Refused Slot)
  pub state_is : state ≡ machine.state
  pub shelf_is : new ≡ old

abbrev pub StartsAt : Option (List ℕ) → ℕ → CloseFile → Turn → Shelf → Step → Closing → Shelf → Type 0
StartsAt None wsize machine turn old next state new = HasNoFile machine old next state new
StartsAt (Some file) wsize machine turn old next state new =
    Queues wsize machine.lane machine.slot turn (saves.begun file old.seq) (joined machine.lane file old) next state new

abbrev pub Starts : ℕ → CloseFile → Turn → Shelf → Step → Closing → Shelf → Type 0
Starts wsize machine turn old next state new = StartsAt (file_at machine.lane machine.slot old.opens) wsize machine turn old next state new

-- a step that no reply made possible
abbrev pub Resumes : Closing → ℕ → CloseFile → Turn → Shelf → Step → Closing → Shelf → Type 0
Resumes Idle wsize machine turn old next state new = Waits Idle old next state new
Resumes (Queued saving) wsize machine turn old next state new = Queues wsize machine.lane machine.slot turn saving old next state new
Resumes (Saves saving) wsize machine turn old next state new =
    GoesOnIf (is_first machine.lane old.order) wsize machine.lane machine.slot turn saving old next state new
Resumes (ToRemove removal) wsize machine turn old next state new = Asks turn.room removal old next state new
Resumes (Removing removal) wsize machine turn old next state new = Waits (Removing removal) old next state new

-- the save takes what came of its call
pub record TakesOne (wsize lane slot : ℕ) (sent turn : Turn) (came : Result Reply Fault) (saving : Saving) (old : Shelf) (next : Step) (state : Closing)
    (new : Shelf) : Type 0 where
  pub gives : SavingStep
  pub saved : Saving
  pub took : Shelf
  pub takes : saves.Takes wsize sent turn came old.repeats saving old.back gives saved took.back took.repeats
  pub pages : took.pages ≡ saves.pages_after sent.xid (turn.moment - 1) came saving old.back old.pages
  pub attrs : Learns saving.file (after_of came) sent.now old.attrs took.attrs
  pub others : took ≡ record old { attrs = took.attrs; back = took.back; pages = took.pages; repeats = took.repeats }
  pub follows : Follows gives lane slot turn.room true saved took next state new

-- what follows the reply to the REMOVE: it is made again if the server is busy, or the close ends
pub record RemovesAgain (removal : Removal) (old : Shelf) (next : Step) (state : Closing) (new : Shelf) : Type 0 where
  pub next_is : next ≡ nexts.Send (remove_of removal)
  pub state_is : state ≡ Removing removal
  pub shelf_is : new ≡ old

abbrev pub EndsIf : Bool → ℕ → Removal → Shelf → Step → Closing → Shelf → Type 0
EndsIf true lane removal old next state new = RemovesAgain removal old next state new
EndsIf false lane removal old next state new = Ends lane removal.file removal.refusal old next state new

-- The file was removed, or its removal refused: the directory's names are dropped and its attributes are new or forgotten, unless the
-- REMOVE couldn't be made.
pub record Removed (lane : ℕ) (sent turn : Turn) (came : Result Reply Fault) (removal : Removal) (old : Shelf) (next : Step) (state : Closing)
    (new : Shelf) : Type 0 where
  pub took : Shelf
  pub attrs : RenewsUnless (came_unmade came) removal.dir (removed_of came) sent.now old.attrs took.attrs
  pub others : took ≡ record old {
    attrs = took.attrs;
    names = names_after (came_unmade came) removal.dir old.names;
    repeats = repeats_after (remove_busy came) sent turn old.repeats;
  }
  pub ends : EndsIf (goes_again (remove_busy came) sent turn old.repeats) lane removal took next state new

-- What comes to a close that asked for nothing means nothing.
abbrev pub Takes : Closing → ℕ → CloseFile → Turn → Turn → Result Reply Fault → Shelf → Step → Closing → Shelf → Type 0
Takes Idle wsize machine sent turn came old next state new = Waits Idle old next state new
Takes (Queued saving) wsize machine sent turn came old next state new = Waits (Queued saving) old next state new
Takes (Saves saving) wsize machine sent turn came old next state new = TakesOne wsize machine.lane machine.slot sent turn came saving old next state new
Takes (ToRemove removal) wsize machine sent turn came old next state new = Waits (ToRemove removal) old next state new
Takes (Removing removal) wsize machine sent turn came old next state new = Removed machine.lane sent turn came removal old next state new
