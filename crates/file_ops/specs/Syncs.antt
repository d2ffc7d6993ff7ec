-- A sync, step by step (RFC 1813, sections 3.3.7 and 3.3.21). It takes its place in the order of its file. When its turn has come,
-- what was pending of the file at its start is made stable.
use Rattle.std.specs.Prelude.{◌≡◌, ℕ, ◌-◌, Bool, true, false, List, Option, Some, None, Result, Ok, Err}
use Rattle.client_shelf.specs.declared.lane_files.LaneFile.{LaneFile}
use Rattle.client_shelf.specs.declared.shelf.Shelf.{Shelf}
use Rattle.client_shelf.specs.declared.turn.Turn.{Turn}
use Rattle.client_shelf.specs.LaneFiles.{left, is_first}
use Rattle.world_model.specs.declared.answer.Fault.TheVariants.{Slot}
use Rattle.world_model.specs.declared.answer.Answer.TheVariants as answers
use Rattle.world_model.specs.declared.answer.Value.TheVariants.{Nothing}
use Rattle.world_model.specs.declared.answer.Answer.{Answer}
use Rattle.world_model.specs.declared.answer.Fault.{Fault}
use Rattle.world_model.specs.declared.message.Reply.{Reply}
use Rattle.client_shelf.specs.declared.step.Step.{Step}
use Rattle.client_shelf.specs.declared.step.Step.TheVariants as nexts
use Rattle.file_ops.specs.declared.saving.Saving.{Saving}
use Rattle.file_ops.specs.declared.saving.SavingStep.{SavingStep}
use Rattle.file_ops.specs.declared.saving.SavingStep.TheVariants.{Send, Wait, Ended}
use Rattle.file_ops.specs.declared.sync_file.SyncFile.{SyncFile}
use Rattle.file_ops.specs.declared.sync_file.Syncing.{Syncing}
use Rattle.file_ops.specs.declared.sync_file.Syncing.TheVariants.{Idle, Saves}
use Rattle.file_ops.specs.Judging.{after_of}
use Rattle.client_shelf.specs.Learning.{Learns}
use Rattle.file_ops.specs.SlotFiles.{file_at, joined}
use Rattle.file_ops.specs.Saves as saves

-- its answer
abbrev pub answer_of : Result (Unit {0}) Fault → Answer
answer_of (Ok done) = answers.Done Nothing
answer_of (Err fault) = answers.Refused fault

-- It does as the save does, and has its answer as soon as the save has ended; then it leaves the order.
abbrev pub sync_next : SavingStep → Step
sync_next (Send call) = nexts.Send call
sync_next Wait = nexts.Wait
sync_next (Ended result) = nexts.Done (answer_of result)

abbrev pub sync_state : SavingStep → Saving → Syncing
sync_state (Send call) saving = Saves saving
sync_state Wait saving = Saves saving
sync_state (Ended result) saving = Idle

abbrev pub sync_order : SavingStep → ℕ → List LaneFile → List LaneFile
sync_order (Send call) lane order = order
sync_order Wait lane order = order
sync_order (Ended result) lane order = left lane order

-- what a step of the save, and the save after it, make of the sync
pub record Follows (lane : ℕ) (gives : SavingStep) (saving : Saving) (order : List LaneFile) (next : Step) (state : Syncing)
    (left : List LaneFile) : Type 0 where
  pub next_is : next ≡ sync_next gives
  pub state_is : state ≡ sync_state gives saving
  pub order_is : left ≡ sync_order gives lane order

-- nothing happens
pub record Waits (state : Syncing) (old : Shelf) (next : Step) (after : Syncing) (new : Shelf) : Type 0 where
  pub next_is : next ≡ nexts.Wait
  pub state_is : after ≡ state
  pub shelf_is : new ≡ old

-- its save goes on
pub record GoesOn (wsize lane : ℕ) (turn : Turn) (saving : Saving) (old : Shelf) (next : Step) (state : Syncing) (new : Shelf) : Type 0 where
  pub gives : SavingStep
  pub saved : Saving
  pub goes : saves.Goes wsize turn.xid turn.room false saving old.back gives saved new.back
  pub follows : Follows lane gives saved old.order next state new.order
  pub others : new ≡ record old { back = new.back; order = new.order }

-- It goes on once its turn has come.
abbrev pub QueuesIf : Bool → ℕ → ℕ → Turn → Saving → Shelf → Step → Syncing → Shelf → Type 0
QueuesIf true wsize lane turn saving old next state new = GoesOn wsize lane turn saving old next state new
QueuesIf false wsize lane turn saving old next state new = Waits (Saves saving) old next state new

abbrev pub Queues : ℕ → ℕ → Turn → Saving → Shelf → Step → Syncing → Shelf → Type 0
Queues wsize lane turn saving old next state new = QueuesIf (is_first lane old.order) wsize lane turn saving old next state new

-- At its start the slot's file is found, or the sync is refused.
pub record HasNoFile (machine : SyncFile) (old : Shelf) (next : Step) (state : Syncing) (new : Shelf) : Type 0 where
  pub next_is : next ≡ nexts.Done (answers.Refused Slot)
  pub state_is : state ≡ machine.state
  pub shelf_is : new ≡ old

abbrev pub StartsAt : Option (List ℕ) → ℕ → SyncFile → Turn → Shelf → Step → Syncing → Shelf → Type 0
StartsAt None wsize machine turn old next state new = HasNoFile machine old next state new
StartsAt (Some file) wsize machine turn old next state new =
    Queues wsize machine.lane turn (saves.begun file old.seq) (joined machine.lane file old) next state new

abbrev pub Starts : ℕ → SyncFile → Turn → Shelf → Step → Syncing → Shelf → Type 0
Starts wsize machine turn old next state new = StartsAt (file_at machine.lane machine.slot old.opens) wsize machine turn old next state new

-- a step that no reply made possible
abbrev pub Resumes : Syncing → ℕ → SyncFile → Turn → Shelf → Step → Syncing → Shelf → Type 0
Resumes Idle wsize machine turn old next state new = Waits Idle old next state new
Resumes (Saves saving) wsize machine turn old next state new = Queues wsize machine.lane turn saving old next state new

-- the save takes what came of its call
pub record TakesOne (wsize lane : ℕ) (sent turn : Turn) (came : Result Reply Fault) (saving : Saving) (old : Shelf) (next : Step) (state : Syncing)
    (new : Shelf) : Type 0 where
  pub gives : SavingStep
  pub saved : Saving
  pub takes : saves.Takes wsize sent turn came old.repeats saving old.back gives saved new.back new.repeats
  pub pages : new.pages ≡ saves.pages_after sent.xid (turn.moment - 1) came saving old.back old.pages
  pub attrs : Learns saving.file (after_of came) sent.now old.attrs new.attrs
  pub follows : Follows lane gives saved old.order next state new.order
  pub others : new ≡ record old { attrs = new.attrs; back = new.back; order = new.order; pages = new.pages; repeats = new.repeats }

-- What comes to a sync that asked for nothing means nothing.
abbrev pub Takes : Syncing → ℕ → SyncFile → Turn → Turn → Result Reply Fault → Shelf → Step → Syncing → Shelf → Type 0
Takes Idle wsize machine sent turn came old next state new = Waits Idle old next state new
Takes (Saves saving) wsize machine sent turn came old next state new = TakesOne wsize machine.lane sent turn came saving old next state new
