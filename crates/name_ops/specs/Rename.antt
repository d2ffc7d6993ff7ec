-- An object gets another name in place of one that it has (RFC 1813, section 3.3.14).
use Rattle.std.specs.Prelude.{◌≡◌, ℕ, Bool, true, false, if◌then◌else◌, List, Result}
use Rattle.world_model.specs.declared.answer.Fault.{Fault}
use Rattle.world_model.specs.declared.message.Call.{Call}
use Rattle.world_model.specs.declared.message.Reply.{Reply}
use Rattle.client_shelf.specs.declared.turn.Turn.{Turn}
use Rattle.client_shelf.specs.declared.shelf.Shelf.{Shelf}
use Rattle.client_shelf.specs.declared.step.Step.{Step}
use Rattle.client_shelf.specs.declared.step.Step.TheVariants.{Send, Done}
use Rattle.name_ops.specs.declared.moving.Moved.{Moved}
use Rattle.name_ops.specs.declared.pair.Pair.{Pair}
use Rattle.name_ops.specs.declared.rename.Rename.{Rename}
use Rattle.client_shelf.specs.Busy.{goes_again}
use Rattle.name_ops.specs.Changing.{told_busy, answer_of}
use Rattle.name_ops.specs.Moving.{move_call, moved_told, moved_shelf, RenewsMoved}
use Rattle.name_ops.specs.Pairs.{Walks}

abbrev pub rename_call : List ℕ → List ℕ → List ℕ → List ℕ → Call
rename_call from to from_dir to_dir = move_call from_dir from to_dir to

-- the same call again if the server is busy, or the answer
abbrev pub renamed_next : Bool → Call → Moved → Step
renamed_next again call told = if again then Send call else Done (answer_of told.refusal)

-- the step at the reply
pub record Renames (m : Rename) (sent turn : Turn) (told : Moved) (old : Shelf) (next : Step) (after : Shelf) : Type 0 where
  pub attrs : RenewsMoved told.unmade m.pair.first.spot.dir m.pair.second.spot.dir told sent.now old.attrs after.attrs
  pub next_is : next ≡ renamed_next (goes_again (told_busy told.refusal) sent turn old.repeats)
      (rename_call m.from m.to m.pair.first.spot.dir m.pair.second.spot.dir) told
  pub others : after ≡ moved_shelf m.pair.first.spot.dir m.pair.second.spot.dir told sent turn after.attrs old

-- The step at what came of a call, by whether the RENAME was asked for.
abbrev pub TakesRename : Bool → Rename → Turn → Turn → Result Reply Fault → Shelf → Step → Pair → Shelf → Type 0
TakesRename true m sent turn came old next new after = (new ≡ m.pair) × Renames m sent turn (moved_told came) old next after
TakesRename false m sent turn came old next new after = Walks (rename_call m.from m.to) m.pair sent turn came old next new after
