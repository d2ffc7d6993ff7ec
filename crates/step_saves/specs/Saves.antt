-- What holds of a save under way and of what is pending of its file (RFC 1813, sections 3.3.7, 3.3.21 and 4.8). What a save leaves when it ends.
use Rattle.std.specs.Prelude.{◌≡◌, ◌<◌, ◌≤◌, ℕ, true, List, [], ◌∷◌, length, Option, Some, None, IsSome, ⊤}
use Rattle.world_model.specs.declared.answer.Answer.TheVariants as answers
use Rattle.world_model.specs.declared.answer.Fault.{Fault}
use Rattle.client_shelf.specs.declared.step.Step.{Step}
use Rattle.client_shelf.specs.declared.step.Step.TheVariants.{Send, Wait, Done}
use Rattle.write_back.specs.declared.state.State.{State}
use Rattle.write_back.specs.declared.state.State.TheVariants.{Waiting, InFlight, Acked}
use Rattle.write_back.specs.declared.state.Ready.TheVariants.{Again}
use Rattle.write_back.specs.Files.{Pending, of_file, HasNoPiece}
use Rattle.write_back.specs.Pieces.{Sent, FilePending, Flown, rest_at, fly_at, flown_in, piece_under}
use Rattle.write_back.specs.Segments.{Cell, covers}
use Rattle.file_ops.specs.declared.saving.Phase.{Phase}
use Rattle.file_ops.specs.declared.saving.Phase.TheVariants.{Sending, Committing, Resending, CommittingAgain}
use Rattle.file_ops.specs.declared.saving.Saving.{Saving}
use Rattle.file_ops.specs.Saves.{is_sending}

-- no byte with a number up to another is pending
pub record IsClearUpTo (upto : ℕ) (of : FilePending) : Type 0 where
  pub rest : (place : ℕ) (cell : Cell) → rest_at of place ≡ Some cell → upto < cell.number
  pub fly : (place : ℕ) (flown : Flown) → fly_at of place ≡ Some flown → upto < flown.number

-- the server has a byte; or it may have lost it, and the byte is to be sent again
abbrev pub IsHeld : State → Type 0
IsHeld (Waiting ready) = ⊥
IsHeld (InFlight ready) = ⊥
IsHeld (Acked verf) = ⊤

abbrev pub IsLost : State → Type 0
IsLost (Waiting ready) = ready ≡ Again
IsLost (InFlight ready) = ⊥
IsLost (Acked verf) = ⊥

-- so is each byte that isn't in flight, with a number up to another
abbrev pub EachUpTo : ℕ → (State → Type 0) → FilePending → Type 0
EachUpTo upto Is of = (place : ℕ) (cell : Cell) → rest_at of place ≡ Some cell → cell.number ≤ upto → Is cell.state

-- a piece of lost bytes, which the server is to make stable at once (stable_how 2)
pub record IsAgain (piece : Sent) : Type 0 where
  pub how : piece.how ≡ 2
  pub lost : (place : ℕ) (flown : Flown) → covers piece.offset (length piece.bytes) place ≡ true → flown_in piece place ≡ Some flown → flown.before ≡ Again

abbrev pub AreAgain : List Sent → Type 0
AreAgain [] = ⊤
AreAgain (piece ∷ pieces) = IsAgain piece × AreAgain pieces

-- What is pending of its file, in each phase: while the COMMIT waits the server has all up to its number; then what is left was lost, unless the
-- save was refused; and while the second COMMIT waits nothing is left.
abbrev pub PhaseHas : Phase → Option Fault → ℕ → FilePending → Type 0
PhaseHas Sending refusal upto of = ⊤
PhaseHas Committing refusal upto of = EachUpTo upto IsHeld of
PhaseHas Resending None upto of = EachUpTo upto IsLost of × AreAgain of.pieces
PhaseHas Resending (Some fault) upto of = ⊤
PhaseHas CommittingAgain refusal upto of = IsClearUpTo upto of

-- the calls that wait: WRITEs of the pieces in flight, or a COMMIT while nothing is
abbrev pub PhaseCounts : Phase → ℕ → List Sent → Type 0
PhaseCounts Sending waiting pieces = length pieces ≡ waiting
PhaseCounts Committing waiting pieces = (waiting ≡ 1) × (pieces ≡ [])
PhaseCounts Resending waiting pieces = length pieces ≡ waiting
PhaseCounts CommittingAgain waiting pieces = (waiting ≡ 1) × (pieces ≡ [])

pub record IsUnderWay (s : Saving) (back : Pending) : Type 0 where
  pub counts : PhaseCounts s.phase s.waiting (of_file s.file back).pieces
  pub has : PhaseHas s.phase s.refusal s.upto (of_file s.file back)

-- the same save, under way
pub record GoesOn (s new : Saving) (after : Pending) : Type 0 where
  pub file : new.file ≡ s.file
  pub upto : new.upto ≡ s.upto
  pub so : IsUnderWay new after

-- it has ended well: of its file nothing is in flight, and nothing up to its number is pending
pub record IsSaved (s : Saving) (after : Pending) : Type 0 where
  pub quiet : HasNoPiece s.file after
  pub clear : IsClearUpTo s.upto (of_file s.file after)

-- what a step leaves: it asks for a call or waits, or has ended well or with a fault
abbrev pub Leaves : Step → Saving → Saving → Pending → Type 0
Leaves (Send call) s new after = GoesOn s new after
Leaves Wait s new after = GoesOn s new after
Leaves (Done (answers.Done value)) s new after = IsSaved s after
Leaves (Done (answers.Refused fault)) s new after = HasNoPiece s.file after

-- what came is that of a WRITE in flight, if it was one
abbrev pub IsAwaited : Saving → ℕ → Pending → Type 0
IsAwaited s xid back = is_sending s.phase ≡ true → IsSome (piece_under xid (of_file s.file back).pieces)
