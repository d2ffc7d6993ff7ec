-- A path is walked, and one call is made on the object to which it leads.
use Rattle.std.specs.Prelude.{◌≡◌, ℕ, Bool, true, false, if◌then◌else◌, List, length, Result, Ok, Err}
use Rattle.world_model.specs.declared.answer.Fault.{Fault}
use Rattle.world_model.specs.declared.answer.Answer.TheVariants as answers
use Rattle.world_model.specs.declared.message.Call.{Call}
use Rattle.world_model.specs.declared.message.Reply.{Reply}
use Rattle.client_shelf.specs.declared.turn.Turn.{Turn}
use Rattle.client_shelf.specs.declared.shelf.Shelf.{Shelf}
use Rattle.client_shelf.specs.declared.step.Step.{Step}
use Rattle.client_shelf.specs.declared.step.Step.TheVariants as nexts
use Rattle.name_ops.specs.declared.walk.WalkStep.{WalkStep}
use Rattle.name_ops.specs.declared.walk.WalkStep.TheVariants.{Send, Wait, At, Refused}
use Rattle.name_ops.specs.declared.visit.Visit.{Visit}
use Rattle.name_ops.specs.declared.visit.VisitStep.{VisitStep}
use Rattle.name_ops.specs.declared.visit.VisitStep.TheVariants as visits
use Rattle.name_ops.specs.Walking.{go_next, go_after, go_shelf, waiting_name, Takes}

-- a visit that stands at the root
abbrev pub visit_of : List ℕ → List (List ℕ) → Visit
visit_of root path = record { walk = record { path = path; spot = record { dir = root; left = length path }; asked = false }; asked = false }

-- It does as its walk does, until that has come to its end. Then it asks for the call as soon as there is room.
abbrev pub follow_next : WalkStep → Bool → VisitStep
follow_next (Send call) room = visits.Look call
follow_next Wait room = visits.Wait
follow_next (At object) room = if room then visits.Ask object else visits.Wait
follow_next (Refused fault) room = visits.Refused fault

abbrev pub follow_after : WalkStep → Bool → Visit → Visit
follow_after (Send call) room v = v
follow_after Wait room v = v
follow_after (At object) room v = if room then record v { asked = true } else v
follow_after (Refused fault) room v = v

-- a step that no reply made possible
abbrev pub visit_next : Visit → Turn → Shelf → VisitStep
visit_next v turn shelf = if v.asked then visits.Wait else follow_next (go_next v.walk turn shelf) turn.room

abbrev pub visit_after : Visit → Turn → Shelf → Visit
visit_after v turn shelf = if v.asked then v else follow_after (go_next v.walk turn shelf) turn.room (record v { walk = go_after v.walk turn shelf })

abbrev pub visit_shelf : Visit → Turn → Shelf → Shelf
visit_shelf v turn shelf = if v.asked then shelf else go_shelf v.walk turn shelf

-- the step at what came of a call of its walk
pub record VisitTakes (v : Visit) (sent turn : Turn) (came : Result Reply Fault) (old : Shelf) (next : VisitStep) (new : Visit) (after : Shelf) : Type 0 where
  pub step : WalkStep
  pub walked : Visit
  pub takes : Takes (waiting_name v.walk) v.walk sent turn came old step walked.walk after
  pub walked_is : walked ≡ record v { walk = walked.walk }
  pub next_is : next ≡ follow_next step turn.room
  pub visit_is : new ≡ follow_after step turn.room walked

-- a step of the visit as one of an operation that makes this call on the object
abbrev pub next_by : (List ℕ → Call) → VisitStep → Step
next_by call (visits.Look look) = nexts.Send look
next_by call visits.Wait = nexts.Wait
next_by call (visits.Ask object) = nexts.Send (call object)
next_by call (visits.Refused fault) = nexts.Done (answers.Refused fault)

-- a reply's step of an operation that made no call on the object yet
pub record Walks (call : List ℕ → Call) (v : Visit) (sent turn : Turn) (came : Result Reply Fault) (old : Shelf) (next : Step) (new : Visit)
    (after : Shelf) : Type 0 where
  pub step : VisitStep
  pub takes : VisitTakes v sent turn came old step new after
  pub next_is : next ≡ next_by call step
