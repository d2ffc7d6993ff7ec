-- The attributes of an object are shown: those that are believed, or else what GETATTR tells (RFC 1813, section 3.3.1).
use Rattle.std.specs.Prelude.{◌≡◌, ℕ, Bool, true, false, if◌then◌else◌, List, Option, Some, None, Result, Ok, Err}
use Rattle.nfs_types.specs.declared.attr.Attr.{Attr}
use Rattle.attr_cache.specs.Attrs as attrs
use Rattle.nfs_file_calls.specs.declared.call.FileCall.TheVariants as files
use Rattle.nfs_file_calls.specs.declared.owned.FileKept.TheVariants as kept
use Rattle.world_model.specs.declared.answer.Fault.{Fault}
use Rattle.world_model.specs.declared.answer.Fault.TheVariants.{Nfs, Bad}
use Rattle.world_model.specs.declared.answer.Answer.TheVariants as answers
use Rattle.world_model.specs.declared.answer.Value.{Value}
use Rattle.world_model.specs.declared.answer.Value.TheVariants as values
use Rattle.world_model.specs.declared.message.Call.{Call}
use Rattle.world_model.specs.declared.message.Call.TheVariants as calls
use Rattle.world_model.specs.declared.message.Reply.{Reply}
use Rattle.world_model.specs.declared.message.Reply.TheVariants.{File}
use Rattle.client_shelf.specs.declared.turn.Turn.{Turn}
use Rattle.client_shelf.specs.declared.shelf.Shelf.{Shelf}
use Rattle.client_shelf.specs.declared.step.Step.{Step}
use Rattle.client_shelf.specs.declared.step.Step.TheVariants as nexts
use Rattle.name_ops.specs.declared.walk.WalkStep.{WalkStep}
use Rattle.name_ops.specs.declared.walk.WalkStep.TheVariants.{Send, Wait, At, Refused}
use Rattle.name_ops.specs.declared.stat.Stat.{Stat}
use Rattle.name_ops.specs.Showing.{Shows}
use Rattle.name_ops.specs.Walking.{go_next, go_after, go_shelf, waiting_name, Takes}

abbrev pub get_attr : List ℕ → Call
get_attr object = calls.File (files.GetAttr object)

-- the attributes in the reply
abbrev pub got_attr : Result Reply Fault → Option Attr
got_attr (Ok (File (kept.GetAttr attr))) = Some attr
got_attr (Ok reply) = None
got_attr (Err fault) = None

-- what the reply shows; one that doesn't fit the call is answered badly
abbrev pub got_told : Result Reply Fault → Result Value Fault
got_told (Ok (File (kept.GetAttr attr))) = Ok (values.Attrs attr)
got_told (Ok (File (kept.GetAttrFail status))) = Err (Nfs status.0)
got_told (Ok reply) = Err (Bad 2)
got_told (Err fault) = Err fault

-- At the object, attributes that are believed are the answer. Others are asked for as soon as there is room.
abbrev pub ask_next : Option Attr → List ℕ → Bool → Step
ask_next (Some attr) object room = nexts.Done (answers.Done (values.Attrs attr))
ask_next None object room = if room then nexts.Send (get_attr object) else nexts.Wait

abbrev pub ask_after : Option Attr → Bool → Stat → Stat
ask_after (Some attr) room m = m
ask_after None room m = if room then record m { asked = true } else m

-- It does as its walk does, until that has come to its end.
abbrev pub follow_next : WalkStep → Turn → attrs.Attrs → Step
follow_next (Send call) turn known = nexts.Send call
follow_next Wait turn known = nexts.Wait
follow_next (At object) turn known = ask_next (attrs.looked object turn.now known) object turn.room
follow_next (Refused fault) turn known = nexts.Done (answers.Refused fault)

abbrev pub follow_after : WalkStep → Turn → attrs.Attrs → Stat → Stat
follow_after (Send call) turn known m = m
follow_after Wait turn known m = m
follow_after (At object) turn known m = ask_after (attrs.looked object turn.now known) turn.room m
follow_after (Refused fault) turn known m = m

-- a step that no reply made possible
abbrev pub stat_next : Stat → Turn → Shelf → Step
stat_next m turn shelf = if m.asked then nexts.Wait else follow_next (go_next m.walk turn shelf) turn shelf.attrs

abbrev pub stat_after : Stat → Turn → Shelf → Stat
stat_after m turn shelf =
    if m.asked then m else follow_after (go_next m.walk turn shelf) turn shelf.attrs (record m { walk = go_after m.walk turn shelf })

abbrev pub stat_shelf : Stat → Turn → Shelf → Shelf
stat_shelf m turn shelf = if m.asked then shelf else go_shelf m.walk turn shelf

-- the step at what came of a call of its walk
pub record StatWalks (m : Stat) (sent turn : Turn) (came : Result Reply Fault) (old : Shelf) (next : Step) (new : Stat) (after : Shelf) : Type 0 where
  pub step : WalkStep
  pub walked : Stat
  pub takes : Takes (waiting_name m.walk) m.walk sent turn came old step walked.walk after
  pub walked_is : walked ≡ record m { walk = walked.walk }
  pub next_is : next ≡ follow_next step turn after.attrs
  pub machine_is : new ≡ follow_after step turn after.attrs walked

-- The step at what came of a call, by whether it was asked for the attributes.
abbrev pub StatTakes : Bool → Stat → Turn → Turn → Result Reply Fault → Shelf → Step → Stat → Shelf → Type 0
StatTakes true m sent turn came old next new after =
    (new ≡ m) × Shows m.walk.spot.dir (got_attr came) (got_told came) (get_attr m.walk.spot.dir) sent turn old next after
StatTakes false m sent turn came old next new after = StatWalks m sent turn came old next new after
