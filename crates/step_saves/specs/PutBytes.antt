-- What becomes of the bytes of a put beside which nothing is pending (RFC 1813, sections 3.3.7 and 3.3.21).
use Rattle.std.specs.Prelude.{◌≡◌, ◌-◌, ℕ, true, List, length, slice_index}
use Rattle.world_model.specs.declared.answer.Answer.TheVariants as answers
use Rattle.client_shelf.specs.declared.step.Step.{Step}
use Rattle.client_shelf.specs.declared.step.Step.TheVariants.{Send, Wait, Done}
use Rattle.write_back.specs.Files.{Pending, of_file, IsNothing}
use Rattle.write_back.specs.Segments.{covers}
use Rattle.file_ops.specs.declared.put_file.Putting.{Putting}
use Rattle.file_ops.specs.declared.put_file.Putting.TheVariants as putting
use Rattle.file_ops.specs.declared.saving.Saving.{Saving}
use Rattle.step_pending.specs.Cells.{EachSound}
use Rattle.step_saves.specs.Accounts.{Account}
use Rattle.step_saves.specs.Saves.{IsUnderWay}

module _ (offset : ℕ) (bytes : List ℕ) (Wrote : List ℕ → ℕ → List ℕ → Type 0) (Finished : List ℕ → ℕ → Type 0) where
  -- its save is under way, and each of its bytes is accounted for under the save's number
  pub record PutSaves (s : Saving) (back : Pending) : Type 0 where
    pub sound : EachSound back
    pub way : IsUnderWay s back
    pub bytes_are : (place : ℕ) → covers offset (length bytes) place ≡ true →
        Account place (slice_index bytes (place - offset)) s.upto (Wrote s.file place) (Finished s.file place) (of_file s.file back)

  -- nothing is pending until its bytes come in, at once, as there is room for them
  abbrev pub PutAt : Putting → Pending → Type 0
  PutAt putting.Idle back = IsNothing back
  PutAt putting.Opens back = IsNothing back
  PutAt (putting.Adds file) back = ⊥
  PutAt (putting.Saves saving) back = PutSaves saving back

  -- it ends well only if each of its bytes left what is pending of its file for a reason
  abbrev pub PutLeaves : Step → Putting → Pending → Type 0
  PutLeaves (Send call) state back = PutAt state back
  PutLeaves Wait state back = PutAt state back
  PutLeaves (Done (answers.Done value)) state back = (file : List ℕ) × ((place : ℕ) → covers offset (length bytes) place ≡ true → Finished file place)
  PutLeaves (Done (answers.Refused fault)) state back = Unit {0}
