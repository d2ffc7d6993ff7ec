-- What any operation learns of attributes was shown by what came of its call.
use Rattle.core_answers.proofs.Prelude.{◌-◌, ℕ, Bool, true, false, List, Result, refl, KeptAttr, Fault, Call, Reply, Step, Shelf, Turn, WalkStep, Machine, PathMachine, file_of, slot_taken, begun_at, placed, Starts, Resumes, Takes}
use Rattle.name_ops.specs.declared.walk.WalkStep.TheVariants as walks
use Rattle.name_ops.specs.Walking as walking
use Rattle.op_machines.specs.declared.machine.Machine.TheVariants as machines
use Rattle.op_machines.specs.PathSteps as paths
use Rattle.core_answers.proofs.bonds.FileAttrs.{file-starts, file-resumes, file-takes}
use Rattle.core_answers.proofs.bonds.Learnt.{Good, Tells, good-as}
use Rattle.core_answers.proofs.bonds.MachineCalls.{PathOn, Asks}
use Rattle.core_answers.proofs.bonds.NameAttrs.{SameAttrs, same-as, name-goes, name-takes, walk-takes}

-- ---- opens and puts on their way

follows-same : (step : WalkStep) (wsize : ℕ) (m : PathMachine) (turn : Turn) (old : Shelf) (next : Step) (new : PathMachine) (after : Shelf) → paths.Follows step wsize m turn old next new after
    → SameAttrs old after
follows-same (walks.Send call) wsize m turn old next new after f = same-as old old after f.2 refl
follows-same walks.Wait wsize m turn old next new after f = same-as old old after f.2 refl
follows-same (walks.At dir) wsize m turn old next new after f = file-resumes (file_of (placed dir m.opener)) wsize turn old next (file_of f.opener) after f.step
follows-same (walks.Refused fault) wsize m turn old next new after f = same-as old old after f.2 refl

path-resumes : (b : Bool) (wsize : ℕ) (m : PathMachine) (turn : Turn) (old : Shelf) (next : Step) (new : PathMachine) (after : Shelf) → paths.PathResumes b wsize m turn old next new after
    → SameAttrs old after
path-resumes true wsize m turn old next new after r = file-resumes (file_of m.opener) wsize turn old next (file_of r.opener) after r.step
path-resumes false wsize m turn old next new after r =
    follows-same (walking.go_next m.walk turn old) wsize (record m { walk = walking.go_after m.walk turn old }) turn (walking.go_shelf m.walk turn old) next new after r

path-starts : (taken : Bool) (wsize : ℕ) (m : PathMachine) (turn : Turn) (old : Shelf) (next : Step) (new : PathMachine) (after : Shelf) → paths.StartsIf taken wsize m turn old next new after
    → SameAttrs old after
path-starts true wsize m turn old next new after s = same-as old old after s.2 refl
path-starts false wsize m turn old next new after s = path-resumes m.arrived wsize (record m { opener = begun_at (turn.moment - 1) m.opener }) turn old next new after s

-- ---- any operation

pub attrs-starts : (m : Machine) (wsize : ℕ) (turn : Turn) (old : Shelf) (next : Step) (new : Machine) (after : Shelf) → Starts wsize m turn old next new after → SameAttrs old after
attrs-starts (machines.File m) wsize turn old next new after s = file-starts m wsize turn old next s.machine after s.step
attrs-starts (machines.Path m) wsize turn old next new after s = path-starts (slot_taken m.opener old.opens) wsize m turn old next s.machine after s.step
attrs-starts (machines.Name m) wsize turn old next new after s = name-goes m turn old next s.machine after s.step

pub attrs-resumes : (m : Machine) (wsize : ℕ) (turn : Turn) (old : Shelf) (next : Step) (new : Machine) (after : Shelf) → Resumes wsize m turn old next new after → SameAttrs old after
attrs-resumes (machines.File m) wsize turn old next new after s = file-resumes m wsize turn old next s.machine after s.step
attrs-resumes (machines.Path m) wsize turn old next new after s = path-resumes m.arrived wsize m turn old next s.machine after s.step
attrs-resumes (machines.Name m) wsize turn old next new after s = name-goes m turn old next s.machine after s.step

module _ (P : List ℕ × KeptAttr → Type 0) (most : ℕ) (call : Call) (sent turn : Turn) (came : Result Reply Fault) (told : Tells P most call sent.now came) where
  path-takes : (b : Bool) (wsize : ℕ) (m : PathMachine) (old : Shelf) (next : Step) (new : PathMachine) (after : Shelf) → PathOn b m call
      → paths.PathTakes b wsize m sent turn came old next new after → Good P most old.attrs → Good P most after.attrs
  path-takes true wsize m old next new after on t g = file-takes P most call sent turn came told (file_of m.opener) wsize old next (file_of t.opener) after on t.step g
  path-takes false wsize m old next new after on t g =
      good-as P most t.heard.attrs after.attrs (follows-same t.step wsize t.walked turn t.heard next new after t.follows)
      (walk-takes P most call sent turn came told (walking.waiting_name m.walk) m.walk old t.step t.walked.walk t.heard on t.takes g)

  pub attrs-takes : (m : Machine) (wsize : ℕ) (old : Shelf) (next : Step) (new : Machine) (after : Shelf) → Asks m call → Takes wsize m sent turn came old next new after
      → Good P most old.attrs → Good P most after.attrs
  attrs-takes (machines.File m) wsize old next new after on s g = file-takes P most call sent turn came told m wsize old next s.machine after on s.step g
  attrs-takes (machines.Path m) wsize old next new after on s g = path-takes m.arrived wsize m old next s.machine after on s.step g
  attrs-takes (machines.Name m) wsize old next new after on s g = name-takes P most call sent turn came told m old next s.machine after on s.step g
