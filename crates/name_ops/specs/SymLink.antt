-- A symbolic link is made (RFC 1813, section 3.3.10). Each call carries a copy of the target, for which there may be no memory.
use Rattle.std.specs.Prelude.{◌≡◌, ◌⊎◌, ℕ, Bool, true, false, List, Some, Result, Ok, Err}
use Rattle.nfs_dir_calls.specs.declared.call.DirCall.TheVariants as dirs
use Rattle.nfs_dir_calls.specs.declared.keeping.DirKept.TheVariants as kept
use Rattle.world_model.specs.declared.answer.Fault.{Fault}
use Rattle.world_model.specs.declared.answer.Fault.TheVariants as faults
use Rattle.world_model.specs.declared.answer.Answer.TheVariants as answers
use Rattle.world_model.specs.declared.message.Call.{Call}
use Rattle.world_model.specs.declared.message.Call.TheVariants as calls
use Rattle.world_model.specs.declared.message.Reply.{Reply}
use Rattle.world_model.specs.declared.message.Reply.TheVariants.{Dir}
use Rattle.client_shelf.specs.declared.turn.Turn.{Turn}
use Rattle.client_shelf.specs.declared.shelf.Shelf.{Shelf}
use Rattle.client_shelf.specs.declared.step.Step.{Step}
use Rattle.client_shelf.specs.declared.step.Step.TheVariants.{Send, Wait, Done}
use Rattle.name_ops.specs.declared.sym_link.SymLink.{SymLink}
use Rattle.name_ops.specs.declared.told.Told.{Told}
use Rattle.name_ops.specs.declared.visit.Visit.{Visit}
use Rattle.name_ops.specs.declared.visit.VisitStep.{VisitStep}
use Rattle.name_ops.specs.declared.visit.VisitStep.TheVariants as visits
use Rattle.name_ops.specs.Changing.{mode_set, made, failed, refused_by, told_busy, Changes}
use Rattle.name_ops.specs.Visiting.{VisitTakes}

-- its mode is 0777
abbrev pub sym_link_call : List ℕ → List ℕ → List ℕ → Call
sym_link_call name target dir = calls.Dir (dirs.SymLink dir name (mode_set 511) target)

-- what the reply tells
abbrev pub sym_linked_told : Result Reply Fault → Told
sym_linked_told (Ok (Dir (kept.SymLink found attr wcc))) = made found attr wcc
sym_linked_told (Ok (Dir (kept.SymLinkFail status wcc))) = failed status wcc
sym_linked_told (Ok reply) = refused_by (faults.Bad 2)
sym_linked_told (Err fault) = refused_by fault

-- the call, or that there is no memory for it
abbrev pub SendsCopy : Call → Step → Type 0
SendsCopy call next = (next ≡ Send call) ⊎ (next ≡ Done (answers.Refused faults.Memory))

-- a step of the visit as one of the operation
abbrev pub CopiesBy : (List ℕ → Call) → VisitStep → Step → Type 0
CopiesBy call (visits.Look look) next = next ≡ Send look
CopiesBy call visits.Wait next = next ≡ Wait
CopiesBy call (visits.Ask dir) next = SendsCopy (call dir) next
CopiesBy call (visits.Refused fault) next = next ≡ Done (answers.Refused fault)

-- a reply's step of an operation that made no call on the object yet
pub record WalksByCopy (call : List ℕ → Call) (v : Visit) (sent turn : Turn) (came : Result Reply Fault) (old : Shelf) (next : Step) (new : Visit)
    (after : Shelf) : Type 0 where
  pub step : VisitStep
  pub takes : VisitTakes v sent turn came old step new after
  pub next_is : CopiesBy call step next

-- what a reply tells, but for that there is no memory for the call that would follow
abbrev pub lacking : Told → Told
lacking told = record told { refusal = Some faults.Memory }

-- The step at the reply. If the server is busy the target is copied first, and if there is no memory for that no call follows.
abbrev pub ChangesByCopy : List ℕ → Call → Told → Turn → Turn → Shelf → Step → Shelf → Type 0
ChangesByCopy dir call told sent turn old next after =
    (Changes dir call told sent turn old next after)
    ⊎ ((told_busy told.refusal ≡ true) × Changes dir call (lacking told) sent turn old next after)

-- The step at what came of a call, by whether the SYMLINK was asked for.
abbrev pub TakesSymLink : Bool → SymLink → Turn → Turn → Result Reply Fault → Shelf → Step → Visit → Shelf → Type 0
TakesSymLink true m sent turn came old next new after =
    (new ≡ m.visit)
    × ChangesByCopy m.visit.walk.spot.dir (sym_link_call m.name m.target m.visit.walk.spot.dir) (sym_linked_told came) sent turn old next after
TakesSymLink false m sent turn came old next new after = WalksByCopy (sym_link_call m.name m.target) m.visit sent turn came old next new after
