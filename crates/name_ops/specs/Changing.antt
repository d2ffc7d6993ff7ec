-- What follows the reply to a call that changes a directory. A call that is repeated may be refused because its first copy was
-- executed. So a refusal, too, drops the directory's names, and its attributes are learnt or forgotten. If the call couldn't be made
-- both stay.
use Rattle.std.specs.Prelude.{◌≡◌, ℕ, Bool, true, false, if◌then◌else◌, List, Option, Some, None, Result}
use Rattle.nfs_types.specs.declared.attr.Attr.{Attr}
use Rattle.nfs_types.specs.declared.set_attr.SetAttr.{SetAttr}
use Rattle.nfs_types.specs.declared.set_attr.SetTime.TheVariants.{Keep}
use Rattle.nfs_types.specs.declared.status.Status.{Status}
use Rattle.nfs_types.specs.declared.wcc.Wcc.{Wcc}
use Rattle.attr_cache.specs.Attrs.{Attrs}
use Rattle.world_model.specs.declared.answer.Fault.{Fault}
use Rattle.world_model.specs.declared.answer.Fault.TheVariants.{Nfs, Bad}
use Rattle.world_model.specs.declared.answer.Answer.{Answer}
use Rattle.world_model.specs.declared.answer.Answer.TheVariants as answers
use Rattle.world_model.specs.declared.answer.Value.TheVariants.{Nothing}
use Rattle.world_model.specs.declared.message.Call.{Call}
use Rattle.world_model.specs.declared.message.Reply.{Reply}
use Rattle.client_shelf.specs.declared.repeats.Repeat.{Repeat}
use Rattle.client_shelf.specs.declared.turn.Turn.{Turn}
use Rattle.client_shelf.specs.declared.shelf.Shelf.{Shelf}
use Rattle.client_shelf.specs.declared.step.Step.{Step}
use Rattle.client_shelf.specs.declared.step.Step.TheVariants.{Send, Done}
use Rattle.name_ops.specs.declared.told.Told.{Told}
use Rattle.name_ops.specs.declared.visit.Visit.{Visit}
use Rattle.client_shelf.specs.Busy.{is_busy, goes_again, repeats_after}
use Rattle.client_shelf.specs.Learning.{Learns, Renews, LearnsThen}
use Rattle.client_shelf.specs.Unmade.{is_unmade, names_after}
use Rattle.name_ops.specs.Visiting.{Walks}

-- a mode, and all else as the server likes
abbrev pub mode_set : ℕ → SetAttr
mode_set mode = record { mode = Some mode; uid = None; gid = None; size = None; atime = Keep; mtime = Keep }

-- the call was executed, and no object got a name
abbrev pub done : Wcc → Told
done wcc = record { object = None; attr = None; dir = wcc.after; refusal = None; unmade = false }

-- an object was made
abbrev pub made : Option (List ℕ) → Option Attr → Wcc → Told
made found attr wcc = record { object = found; attr = attr; dir = wcc.after; refusal = None; unmade = false }

-- the server refused the call
abbrev pub failed : Status → Wcc → Told
failed status wcc = record { object = None; attr = None; dir = wcc.after; refusal = Some (Nfs status.0); unmade = false }

-- no reply of this call came, or it couldn't be made
abbrev pub refused_by : Fault → Told
refused_by fault = record { object = None; attr = None; dir = None; refusal = Some fault; unmade = is_unmade fault }

-- the answer of the operation
abbrev pub answer_of : Option Fault → Answer
answer_of None = answers.Done Nothing
answer_of (Some fault) = answers.Refused fault

abbrev pub told_busy : Option Fault → Bool
told_busy None = false
told_busy (Some fault) = is_busy fault

-- The attributes of the object, if it is known, are learnt, and then those of the directory.
abbrev pub LearnsOf : Option (List ℕ) → Option Attr → List ℕ → Option Attr → ℕ → Attrs → Attrs → Type 0
LearnsOf (Some object) attr dir after now old new = LearnsThen object attr now (Renews dir after now) old new
LearnsOf None attr dir after now old new = Renews dir after now old new

-- unless the call couldn't be made
abbrev pub LearnsTold : Bool → Told → List ℕ → ℕ → Attrs → Attrs → Type 0
LearnsTold true told dir now old new = new ≡ old
LearnsTold false told dir now old new = LearnsOf told.object told.attr dir told.dir now old new

-- the same call again if the server is busy, or the answer
abbrev pub change_next : Bool → Call → Told → Step
change_next again call told = if again then Send call else Done (answer_of told.refusal)

-- what the shelf becomes, but for what is learnt of attributes
abbrev pub changed_shelf : List ℕ → Told → Turn → Turn → Attrs → Shelf → Shelf
changed_shelf dir told sent turn attrs shelf = record shelf {
  attrs = attrs;
  names = names_after told.unmade dir shelf.names;
  repeats = repeats_after (told_busy told.refusal) sent turn shelf.repeats;
}

-- the step at the reply
pub record Changes (dir : List ℕ) (call : Call) (told : Told) (sent turn : Turn) (old : Shelf) (next : Step) (after : Shelf) : Type 0 where
  pub attrs : LearnsTold told.unmade told dir sent.now old.attrs after.attrs
  pub next_is : next ≡ change_next (goes_again (told_busy told.refusal) sent turn old.repeats) call told
  pub others : after ≡ changed_shelf dir told sent turn after.attrs old

-- the step at a reply that leads to no further call
pub record EndsChange (dir : List ℕ) (told : Told) (sent turn : Turn) (old : Shelf) (next : Step) (after : Shelf) : Type 0 where
  pub attrs : LearnsTold told.unmade told dir sent.now old.attrs after.attrs
  pub next_is : next ≡ Done (answer_of told.refusal)
  pub others : after ≡ changed_shelf dir told sent turn after.attrs old

-- The step at what came of a call, by whether the operation's own call was asked for.
abbrev pub TakesChange : Bool → (List ℕ → Call) → Told → Visit → Turn → Turn → Result Reply Fault → Shelf → Step → Visit → Shelf → Type 0
TakesChange true call told v sent turn came old next new after =
    (new ≡ v) × Changes v.walk.spot.dir (call v.walk.spot.dir) told sent turn old next after
TakesChange false call told v sent turn came old next new after = Walks call v sent turn came old next new after
