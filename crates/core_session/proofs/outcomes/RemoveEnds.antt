-- A step of a remove ends it well only at the reply to its REMOVE, or to the RENAME that hides its file.
use Rattle.core_session.proofs.Prelude.{◌≡◌, inl, inr, ℕ, Bool, true, false, List, Option, Some, None, Result, Ok, Err, refl, sym, ◌∙◌, if◌then◌else◌, DirKept, Opens, Fault, Value, Call, Reply, Step, Shelf, Turn, Deed, Look, Seek, Move, RemoveFile, WalkStep, found_by, look_again, moved_told, NameMachine}
use Rattle.name_ops.specs.declared.remove_file.Deed.TheVariants.{Remove}
use Rattle.nfs_dir_calls.specs.declared.keeping.DirKept.TheVariants as kept
use Rattle.world_model.specs.declared.answer.Answer.TheVariants as answers
use Rattle.world_model.specs.declared.answer.Value.TheVariants as values
use Rattle.world_model.specs.declared.message.Reply.TheVariants as replies
use Rattle.client_shelf.specs.declared.step.Step.TheVariants as nexts
use Rattle.name_ops.specs.declared.walk.WalkStep.TheVariants as walks
use Rattle.name_ops.specs.Changing.{answer_of}
use Rattle.name_ops.specs.RemoveFile as removals
use Rattle.name_ops.specs.Walking as walking
use Rattle.op_machines.specs.NameSteps as steps
use Rattle.core_facts.proofs.OneCalls.{IsOkReply, moved-ok}

-- it ends, and well
abbrev IsWell : Step → Value → Type 0
IsWell next value = next ≡ nexts.Done (answers.Done value)

-- it doesn't
abbrev pub IsUnwell : Step → Type 0
IsUnwell next = (value : Value) → IsWell next value → ⊥

unwell-as : (to next : Step) → next ≡ to → IsUnwell to → IsUnwell next
unwell-as to next is u value well = u value (sym is ∙ well)

sends-unwell : (call : Call) → IsUnwell (nexts.Send call)
sends-unwell call value well = absurd (cc)

waits-unwell : IsUnwell nexts.Wait
waits-unwell value well = absurd (cc)

refused-unwell : (fault : Fault) → IsUnwell (nexts.Done (answers.Refused fault))
refused-unwell fault value well = absurd (cc)

asked-unwell : (m : RemoveFile) (deed : Deed) (room : Bool) → IsUnwell (removals.asked_next m deed room)
asked-unwell m deed true = sends-unwell (removals.call_of m deed)
asked-unwell m deed false = waits-unwell

-- ---- steps that no reply made possible

follows-unwell : (step : WalkStep) (room : Bool) (m : RemoveFile) (opens : Opens) (next : Step) (new : RemoveFile) → removals.Follows step room m opens next new → IsUnwell next
follows-unwell (walks.Send call) room m opens next new f = unwell-as (nexts.Send call) next f.0 (sends-unwell call)
follows-unwell walks.Wait room m opens next new f = unwell-as nexts.Wait next f.0 waits-unwell
follows-unwell (walks.At dir) room m opens next new f =
    unwell-as (removals.asked_next m (removals.first_deed f.any) room) next f.next_is (asked-unwell m (removals.first_deed f.any) room)
follows-unwell (walks.Refused fault) room m opens next new f = unwell-as (nexts.Done (answers.Refused fault)) next f.0 (refused-unwell fault)

goes-unwell : (deed : Option Deed) (m : RemoveFile) (turn : Turn) (old : Shelf) (next : Step) (new : RemoveFile) (after : Shelf) → removals.Goes deed m turn old next new after → IsUnwell next
goes-unwell (Some deed) m turn old next new after g = unwell-as (removals.asked_next m deed turn.room) next g.next_is (asked-unwell m deed turn.room)
goes-unwell None m turn old next new after g =
    follows-unwell (walking.go_next m.walk turn old) turn.room (record m { walk = walking.go_after m.walk turn old }) old.opens next new g.follows

resumes-unwell : (asked : Bool) (m : RemoveFile) (turn : Turn) (old : Shelf) (next : Step) (new : RemoveFile) (after : Shelf) → removals.Resumes asked m turn old next new after
    → IsUnwell next
resumes-unwell true m turn old next new after r = unwell-as nexts.Wait next r.next_is waits-unwell
resumes-unwell false m turn old next new after r = goes-unwell m.deed m turn old next new after r

pub remove-goes-unwell : (m : RemoveFile) (turn : Turn) (old : Shelf) (next : Step) (new : NameMachine) (after : Shelf) → steps.RemoveGoes m turn old next new after → IsUnwell next
remove-goes-unwell m turn old next new after g = resumes-unwell m.asked m turn old next g.machine after g.step

-- ---- steps that take what came

-- the call that does it
abbrev pub DoesIt : Deed → Type 0
DoesIt Look = ⊥
DoesIt (Seek file to) = ⊥
DoesIt (Move file to) = Unit {0}
DoesIt Remove = Unit {0}

-- It went well by this deed.
pub record WellBy (deed : Deed) (came : Result Reply Fault) (value : Value) : Type 0 where
  pub does : DoesIt deed
  pub ok : IsOkReply came values.Nothing
  pub gives : value ≡ values.Nothing

plans-unwell : (is_open : Bool) (file : List ℕ) (m : RemoveFile) (room : Bool) (old : Shelf) (next : Step) (new : RemoveFile) (after : Shelf)
    → removals.Plans is_open file m room old next new after → IsUnwell next
plans-unwell is_open file m room old next new after p = unwell-as _ next p.next_is (asked-unwell m _ room)

look-unwell : (again : Bool) (told : Result (List ℕ) Fault) (m : RemoveFile) (room : Bool) (old : Shelf) (next : Step) (new : RemoveFile) (after : Shelf)
    → removals.FollowsLook again told m room old next new after → IsUnwell next
look-unwell true told m room old next new after f = unwell-as (nexts.Send (removals.call_of m Look)) next f.next_is (sends-unwell (removals.call_of m Look))
look-unwell false (Ok file) m room old next new after f = plans-unwell f.is_open file m room old next new after f.plans
look-unwell false (Err fault) m room old next new after f = unwell-as (nexts.Done (answers.Refused fault)) next f.next_is (refused-unwell fault)

missed-unwell : (missing : Bool) (fault : Fault) (file to : List ℕ) (m : RemoveFile) (room : Bool) → IsUnwell (removals.missed_next missing fault file to m room)
missed-unwell true fault file to m room = asked-unwell m (Move file to) room
missed-unwell false fault file to m room = refused-unwell fault

seek-unwell : (again : Bool) (told : Result (List ℕ) Fault) (file to : List ℕ) (m : RemoveFile) (room : Bool) (old : Shelf) (next : Step) (new : RemoveFile) (after : Shelf)
    → removals.FollowsSeek again told file to m room old next new after → IsUnwell next
seek-unwell true told file to m room old next new after f = unwell-as (nexts.Send (removals.call_of m (Seek file to))) next f.next_is (sends-unwell (removals.call_of m (Seek file to)))
seek-unwell false (Ok found) file to m room old next new after f = plans-unwell true file m room old next new after f
seek-unwell false (Err fault) file to m room old next new after f =
    unwell-as (removals.missed_next (removals.is_missing fault) fault file to m room) next f.next_is (missed-unwell (removals.is_missing fault) fault file to m room)

nothing-more : (value : Value) → nexts.Done (answers.Done values.Nothing) ≡ nexts.Done (answers.Done value) → value ≡ values.Nothing
nothing-more value e = let same : values.Nothing ≡ value = cc in sym same

-- what the reply told, where the operation goes well
pub record NoneRefused (refusal : Option Fault) (value : Value) : Type 0 where
  pub none : refusal ≡ None
  pub gives : value ≡ values.Nothing

moves-well : (again : Bool) (refusal : Option Fault) (file to : List ℕ) (m : RemoveFile) (old : removals.Places) (next : Step) (new : removals.Places) (value : Value)
    → removals.EndsMove again refusal file to m old next new → IsWell next value → NoneRefused refusal value
moves-well true refusal file to m old next new value e well = absurd (unwell-as (nexts.Send (removals.call_of m (Move file to))) next e.0 (sends-unwell (removals.call_of m (Move file to))) value well)
moves-well false None file to m old next new value (inl k) well = record { none = refl; gives = nothing-more value (sym k.0 ∙ well) }
moves-well false None file to m old next new value (inr k) well = absurd (unwell-as _ next k.0 (refused-unwell _) value well)
moves-well false (Some fault) file to m old next new value e well = absurd (unwell-as (nexts.Done (answers.Refused fault)) next e.0 (refused-unwell fault) value well)

change-well : (again : Bool) (call : Call) (refusal : Option Fault) (value : Value) → IsWell (if again then nexts.Send call else nexts.Done (answer_of refusal)) value → NoneRefused refusal value
change-well true call refusal value well = absurd (sends-unwell call value well)
change-well false call None value well = record { none = refl; gives = nothing-more value well }
change-well false call (Some fault) value well = absurd (refused-unwell fault value well)

removed-by : (reply : DirKept) → (removals.removed_told (Ok (replies.Dir reply))).refusal ≡ None → IsOkReply (Ok (replies.Dir reply)) values.Nothing
removed-by (kept.Remove wcc) is = record { reply = replies.Dir (kept.Remove wcc); is = refl; went = refl; gives = refl }
removed-by (kept.RemoveFail status wcc) is = absurd (cc)
removed-by reply is = absurd (cc)

removed-ok : (came : Result Reply Fault) → (removals.removed_told came).refusal ≡ None → IsOkReply came values.Nothing
removed-ok (Ok (replies.Dir reply)) is = removed-by reply is
removed-ok (Ok (replies.File reply)) is = absurd (cc)
removed-ok (Ok (replies.Mount reply)) is = absurd (cc)
removed-ok (Err fault) is = absurd (cc)

deed-well : (deed : Deed) (m : RemoveFile) (sent turn : Turn) (came : Result Reply Fault) (old : Shelf) (next : Step) (new : RemoveFile) (after : Shelf) (value : Value)
    → removals.TakesDeed deed m sent turn came old next new after → IsWell next value → WellBy deed came value
deed-well Look m sent turn came old next new after value t well =
    absurd (look-unwell (look_again sent turn came old) (found_by came) m turn.room t.heard next new after t.follows value well)
deed-well (Seek file to) m sent turn came old next new after value t well =
    absurd (seek-unwell (look_again sent turn came old) (found_by came) file to m turn.room t.heard next new after t.follows value well)
deed-well (Move file to) m sent turn came old next new after value t well =
    let k = moves-well (removals.move_again sent turn came old) (moved_told came).refusal file to m old.silly next after.silly value t.1.ends well in
    record { does = tt; ok = moved-ok came k.none; gives = k.gives }
deed-well Remove m sent turn came old next new after value t well =
    let k = change-well _ (removals.call_of m Remove) (removals.removed_told came).refusal value (sym t.1.next_is ∙ well) in
    record { does = tt; ok = removed-ok came k.none; gives = k.gives }

-- the deed of a machine that ends well
pub record EndsWell (m : RemoveFile) (came : Result Reply Fault) (value : Value) : Type 0 where
  pub deed : Deed
  pub is : m.deed ≡ Some deed
  pub well : WellBy deed came value

if-well : (asked : Bool) (deed : Deed) (m : RemoveFile) (sent turn : Turn) (came : Result Reply Fault) (old : Shelf) (next : Step) (new : RemoveFile) (after : Shelf) (value : Value)
    → removals.TakesIf asked deed m sent turn came old next new after → IsWell next value → WellBy deed came value
if-well true deed m sent turn came old next new after value t well = deed-well deed m sent turn came old next new after value t well
if-well false deed m sent turn came old next new after value t well = absurd (unwell-as nexts.Wait next t.next_is waits-unwell value well)

takes-well : (deed : Option Deed) (m : RemoveFile) (sent turn : Turn) (came : Result Reply Fault) (old : Shelf) (next : Step) (new : RemoveFile) (after : Shelf) (value : Value) → m.deed ≡ deed
    → removals.Takes deed m sent turn came old next new after → IsWell next value → EndsWell m came value
takes-well (Some deed) m sent turn came old next new after value is t well =
    record { deed = deed; is = is; well = if-well m.asked deed m sent turn came old next new after value t well }
takes-well None m sent turn came old next new after value is t well =
    absurd (follows-unwell t.step turn.room t.walked after.opens next new t.follows value well)

pub remove-takes-well : (m : RemoveFile) (sent turn : Turn) (came : Result Reply Fault) (old : Shelf) (next : Step) (new : NameMachine) (after : Shelf) (value : Value)
    → steps.RemoveTakes m sent turn came old next new after → next ≡ nexts.Done (answers.Done value) → EndsWell m came value
remove-takes-well m sent turn came old next new after value g well = takes-well m.deed m sent turn came old next g.machine after value refl g.step well
