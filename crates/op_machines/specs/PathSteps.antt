-- The steps of an open or a put: a walk leads to the directory of its name, and then its machine goes on.
use Rattle.std.specs.Prelude.{◌≡◌, ◌-◌, ℕ, Bool, true, false, List, Result}
use Rattle.world_model.specs.declared.answer.Fault.{Fault}
use Rattle.world_model.specs.declared.answer.Fault.TheVariants.{Slot}
use Rattle.world_model.specs.declared.answer.Answer.TheVariants as answers
use Rattle.world_model.specs.declared.message.Reply.{Reply}
use Rattle.client_shelf.specs.declared.shelf.Shelf.{Shelf}
use Rattle.client_shelf.specs.declared.turn.Turn.{Turn}
use Rattle.client_shelf.specs.declared.step.Step.{Step}
use Rattle.client_shelf.specs.declared.step.Step.TheVariants as nexts
use Rattle.name_ops.specs.declared.walk.WalkStep.{WalkStep}
use Rattle.name_ops.specs.declared.walk.WalkStep.TheVariants.{Send, Wait, At, Refused}
use Rattle.name_ops.specs.Walking as walking
use Rattle.op_machines.specs.declared.opener.Opener.{Opener}
use Rattle.op_machines.specs.declared.path_machine.PathMachine.{PathMachine}
use Rattle.op_machines.specs.FileSteps as steps
use Rattle.op_machines.specs.Openers.{file_of, slot_taken, begun_at, placed}

-- its own machine goes on
pub record ThenResumes (wsize : ℕ) (m : PathMachine) (turn : Turn) (old : Shelf) (next : Step) (new : PathMachine) (after : Shelf) : Type 0 where
  pub opener : Opener
  pub machine_is : new ≡ record m { opener = opener }
  pub step : steps.Resumes wsize (file_of m.opener) turn old next (file_of opener) after

-- It does as its walk does, until that has come to its end.
abbrev pub Follows : WalkStep → ℕ → PathMachine → Turn → Shelf → Step → PathMachine → Shelf → Type 0
Follows (Send call) wsize m turn old next new after = (next ≡ nexts.Send call) × (new ≡ m) × (after ≡ old)
Follows Wait wsize m turn old next new after = (next ≡ nexts.Wait) × (new ≡ m) × (after ≡ old)
Follows (At dir) wsize m turn old next new after =
    ThenResumes wsize (record m { opener = placed dir m.opener; arrived = true }) turn old next new after
Follows (Refused fault) wsize m turn old next new after = (next ≡ nexts.Done (answers.Refused fault)) × (new ≡ m) × (after ≡ old)

-- a step that no reply made possible
abbrev pub PathResumes : Bool → ℕ → PathMachine → Turn → Shelf → Step → PathMachine → Shelf → Type 0
PathResumes true wsize m turn old next new after = ThenResumes wsize m turn old next new after
PathResumes false wsize m turn old next new after =
    Follows (walking.go_next m.walk turn old) wsize (record m { walk = walking.go_after m.walk turn old }) turn
    (walking.go_shelf m.walk turn old) next new after

-- The first step: a slot that holds an open refuses. The operation's own moment is that of this step, not that of the walk's end.
abbrev pub StartsIf : Bool → ℕ → PathMachine → Turn → Shelf → Step → PathMachine → Shelf → Type 0
StartsIf true wsize m turn old next new after = (next ≡ nexts.Done (answers.Refused Slot)) × (new ≡ m) × (after ≡ old)
StartsIf false wsize m turn old next new after =
    PathResumes m.arrived wsize (record m { opener = begun_at (turn.moment - 1) m.opener }) turn old next new after

abbrev pub PathStarts : ℕ → PathMachine → Turn → Shelf → Step → PathMachine → Shelf → Type 0
PathStarts wsize m turn old next new after = StartsIf (slot_taken m.opener old.opens) wsize m turn old next new after

-- a reply's step of its own machine
pub record ThenTakes (wsize : ℕ) (m : PathMachine) (sent turn : Turn) (came : Result Reply Fault) (old : Shelf) (next : Step)
    (new : PathMachine) (after : Shelf) : Type 0 where
  pub opener : Opener
  pub machine_is : new ≡ record m { opener = opener }
  pub step : steps.Takes wsize (file_of m.opener) sent turn came old next (file_of opener) after

-- one of its walk
pub record WalkTakes (wsize : ℕ) (m : PathMachine) (sent turn : Turn) (came : Result Reply Fault) (old : Shelf) (next : Step)
    (new : PathMachine) (after : Shelf) : Type 0 where
  pub step : WalkStep
  pub walked : PathMachine
  pub heard : Shelf
  pub takes : walking.Takes (walking.waiting_name m.walk) m.walk sent turn came old step walked.walk heard
  pub walked_is : walked ≡ record m { walk = walked.walk }
  pub follows : Follows step wsize walked turn heard next new after

abbrev pub PathTakes : Bool → ℕ → PathMachine → Turn → Turn → Result Reply Fault → Shelf → Step → PathMachine → Shelf → Type 0
PathTakes true wsize m sent turn came old next new after = ThenTakes wsize m sent turn came old next new after
PathTakes false wsize m sent turn came old next new after = WalkTakes wsize m sent turn came old next new after
