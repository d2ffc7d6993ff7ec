-- What follows the reply to a call that shows something of an object.
use Rattle.std.specs.Prelude.{◌≡◌, ℕ, Bool, true, false, if◌then◌else◌, List, Option, Result, Ok, Err}
use Rattle.nfs_types.specs.declared.attr.Attr.{Attr}
use Rattle.attr_cache.specs.Attrs.{Attrs}
use Rattle.world_model.specs.declared.answer.Fault.{Fault}
use Rattle.world_model.specs.declared.answer.Value.{Value}
use Rattle.world_model.specs.declared.answer.Answer.{Answer}
use Rattle.world_model.specs.declared.answer.Answer.TheVariants as answers
use Rattle.world_model.specs.declared.message.Call.{Call}
use Rattle.world_model.specs.declared.message.Reply.{Reply}
use Rattle.client_shelf.specs.declared.turn.Turn.{Turn}
use Rattle.client_shelf.specs.declared.shelf.Shelf.{Shelf}
use Rattle.client_shelf.specs.declared.step.Step.{Step}
use Rattle.client_shelf.specs.declared.step.Step.TheVariants.{Send, Done}
use Rattle.name_ops.specs.declared.visit.Visit.{Visit}
use Rattle.client_shelf.specs.Busy.{fails_busy, goes_again, repeats_after}
use Rattle.client_shelf.specs.Learning.{Learns}
use Rattle.name_ops.specs.Visiting.{Walks}

-- the answer of the operation
abbrev pub shown_answer : Result Value Fault → Answer
shown_answer (Ok value) = answers.Done value
shown_answer (Err fault) = answers.Refused fault

-- the same call again if the server is busy, or the answer
abbrev pub show_next : Bool → Call → Result Value Fault → Step
show_next again call told = if again then Send call else Done (shown_answer told)

-- what the shelf becomes, but for what is learnt of attributes
abbrev pub shown_shelf : Bool → Turn → Turn → Attrs → Shelf → Shelf
shown_shelf busy sent turn attrs shelf = record shelf { attrs = attrs; repeats = repeats_after busy sent turn shelf.repeats }

-- the step at the reply
pub record Shows (object : List ℕ) (attr : Option Attr) (told : Result Value Fault) (call : Call) (sent turn : Turn) (old : Shelf) (next : Step)
    (after : Shelf) : Type 0 where
  pub attrs : Learns object attr sent.now old.attrs after.attrs
  pub next_is : next ≡ show_next (goes_again (fails_busy told) sent turn old.repeats) call told
  pub others : after ≡ shown_shelf (fails_busy told) sent turn after.attrs old

-- The step at what came of a call, by whether the operation's own call was asked for.
abbrev pub TakesShow : Bool → (List ℕ → Call) → Option Attr → Result Value Fault → Visit → Turn → Turn → Result Reply Fault → Shelf → Step → Visit → Shelf
    → Type 0
TakesShow true call attr told v sent turn came old next new after = (new ≡ v) × Shows v.walk.spot.dir attr told (call v.walk.spot.dir) sent turn old next after
TakesShow false call attr told v sent turn came old next new after = Walks call v sent turn came old next new after
