-- What holds of every step of an open or a put, whose walk comes first.
use Rattle.std.proofs.Common.{◌≡◌, ◌≤◌, ◌+◌, ◌-◌, ℕ, Bool, true, false, List, Result, Err, refl, sym, ap, subst, ◌∙◌}
use Rattle.std.specs.Prelude.{if◌then◌else◌, not}
use Rattle.world_model.specs.declared.answer.Fault.{Fault}
use Rattle.world_model.specs.declared.answer.Fault.TheVariants.{Slot}
use Rattle.world_model.specs.declared.answer.Answer.TheVariants as answers
use Rattle.world_model.specs.declared.message.Call.{Call}
use Rattle.world_model.specs.declared.message.Reply.{Reply}
use Rattle.write_back.specs.Files.{Pending}
use Rattle.client_shelf.specs.declared.shelf.Shelf.{Shelf}
use Rattle.client_shelf.specs.declared.turn.Turn.{Turn}
use Rattle.client_shelf.specs.declared.step.Step.{Step}
use Rattle.client_shelf.specs.declared.step.Step.TheVariants as nexts
use Rattle.client_shelf.specs.Spelling.{IsSpellable, AreSpellable}
use Rattle.file_ops.specs.declared.opening.OpeningStep.TheVariants as openings
use Rattle.file_ops.specs.Opening.{call_of}
use Rattle.file_ops.specs.OpenFile.{goes_as}
use Rattle.file_ops.specs.Ready.{IsReady}
use Rattle.file_ops.proofs.Numbers.{none-more}
use Rattle.file_ops.proofs.Steps.{next-ready, same-ready}
use Rattle.name_ops.specs.declared.walk.Walk.{Walk}
use Rattle.name_ops.specs.declared.walk.WalkStep.{WalkStep}
use Rattle.name_ops.specs.declared.walk.WalkStep.TheVariants.{Send, Wait, At, Refused}
use Rattle.name_ops.specs.Walking.{go_next, go_after, go_shelf, waiting_name}
use Rattle.name_ops.proofs.Asking.{Looks, WalkAsks, walk-asks, walk-takes-asks, asks-as, asks-call}
use Rattle.name_ops.proofs.Keeps.{IsKept, walk-kept, walk-takes-kept}
use Rattle.name_ops.proofs.Stills.{walk-still}
use Rattle.op_machines.specs.declared.file_machine.FileMachine.{FileMachine}
use Rattle.op_machines.specs.declared.file_machine.FileMachine.TheVariants as files
use Rattle.op_machines.specs.declared.opener.Opener.{Opener}
use Rattle.op_machines.specs.declared.opener.Opener.TheVariants as openers
use Rattle.op_machines.specs.declared.path_machine.PathMachine.{PathMachine}
use Rattle.op_machines.specs.FileFits.{FileFits}
use Rattle.op_machines.specs.FileSteps as steps
use Rattle.op_machines.specs.Laws.{AsksNothing, AsksSpellable}
use Rattle.op_machines.specs.Openers.{file_of, slot_taken, begun_at, opening_in, placed}
use Rattle.op_machines.specs.PathSteps.{ThenResumes, Follows, PathResumes, StartsIf, PathStarts, PathTakes}
use Rattle.op_machines.proofs.FileLaws.{LeavesNothing}
use Rattle.op_machines.proofs.Still.{waits-still}
use Rattle.op_machines.proofs.Fit.{resumes-fit, takes-fit}
use Rattle.op_machines.proofs.Leaves.{resumes-ready, takes-ready}
use Rattle.op_machines.proofs.Unsent.{resumes-unsent, takes-unsent}
use Rattle.op_machines.proofs.Numbers.{resumes-number, takes-number}
use Rattle.op_machines.proofs.Refusals.{refusals-number}
use Rattle.op_machines.proofs.Roomless.{resumes-quiet, takes-quiet}
use Rattle.op_machines.proofs.Spelling.{resumes-spell, takes-spell}
use Rattle.op_machines.proofs.Unmade.{resumes-unmade, takes-unmade}
use Rattle.op_machines.proofs.NameLaws.{ready-kept}

abbrev begun : PathMachine → Turn → PathMachine
begun m turn = record m { opener = begun_at (turn.moment - 1) m.opener }

abbrev walked : PathMachine → Turn → Shelf → PathMachine
walked m turn old = record m { walk = go_after m.walk turn old }

abbrev arrived_at : List ℕ → PathMachine → PathMachine
arrived_at dir m = record m { opener = placed dir m.opener; arrived = true }

ready-as : (xid : ℕ) (old new : Shelf) → new ≡ old → IsReady xid old.seq old.back → IsReady xid new.seq new.back
ready-as xid old new is r = subst (λ (s : Shelf). IsReady xid s.seq s.back) (sym is) r

-- ---- one that waits stays as it is

same-opener : (a b : Opener) → file_of a ≡ file_of b → a ≡ b
same-opener (openers.Open a) (openers.Open b) e = let k : files.Open a ≡ files.Open b = e in cc
same-opener (openers.Put a) (openers.Put b) e = let k : files.Put a ≡ files.Put b = e in cc
same-opener (openers.Open a) (openers.Put b) e = let no-way : files.Open a ≡ files.Put b = e in absurd cc
same-opener (openers.Put a) (openers.Open b) e = let no-way : files.Put a ≡ files.Open b = e in absurd cc

goes-sends : (room : Bool) (call : Call) → room ≡ true → goes_as (if not room then openings.Wait else openings.Send call) ≡ nexts.Send call
goes-sends true call e = refl
goes-sends false call e = absurd cc

-- with room it asks for its call from the directory
placed-asks : (dir : List ℕ) (o : Opener) (wsize : ℕ) (turn : Turn) (old : Shelf) (next : Step) (new : FileMachine) (after : Shelf) → turn.room ≡ true
    → steps.Resumes wsize (file_of (placed dir o)) turn old next new after → next ≡ nexts.Wait → ⊥
placed-asks dir (openers.Open m) wsize turn old next new after room r waits =
    let o = opening_in dir m.opening in
    let no-way : nexts.Send (call_of o o.step) ≡ nexts.Wait = sym (goes-sends turn.room (call_of o o.step) room) ∙ sym r.next_is ∙ waits in
    absurd cc
placed-asks dir (openers.Put m) wsize turn old next new after room r waits =
    let o = opening_in dir m.opening in
    let no-way : nexts.Send (call_of o o.step) ≡ nexts.Wait = sym (goes-sends turn.room (call_of o o.step) room) ∙ sym r.step.0 ∙ waits in
    absurd cc

then-still : (wsize : ℕ) (m : PathMachine) (turn : Turn) (old : Shelf) (next : Step) (new : PathMachine) (after : Shelf) → turn.room ≡ true
    → ThenResumes wsize m turn old next new after → next ≡ nexts.Wait → (new ≡ m) × (after ≡ old)
then-still wsize m turn old next new after room r waits =
    let still = waits-still wsize (file_of m.opener) turn old next (file_of r.opener) after room r.step waits in
    (r.machine_is ∙ ap (λ (o : Opener). record m { opener = o }) (same-opener r.opener m.opener still.0), still.1)

walk-follows-still : (step : WalkStep) (wsize : ℕ) (m : PathMachine) (turn : Turn) (old : Shelf) (next : Step) (new : PathMachine) (after : Shelf) → turn.room ≡ true
    → go_next m.walk turn old ≡ step → Follows step wsize (walked m turn old) turn (go_shelf m.walk turn old) next new after → next ≡ nexts.Wait → (new ≡ m) × (after ≡ old)
walk-follows-still (Send call) wsize m turn old next new after room is f waits = let no-way : nexts.Send call ≡ nexts.Wait = sym f.0 ∙ waits in absurd cc
walk-follows-still Wait wsize m turn old next new after room is f waits =
    let still = walk-still m.walk turn old room is in
    (f.1 ∙ ap (λ (w : Walk). record m { walk = w }) still.0, f.2 ∙ still.1)
walk-follows-still (At dir) wsize m turn old next new after room is f waits =
    absurd (placed-asks dir m.opener wsize turn (go_shelf m.walk turn old) next (file_of f.opener) after room f.step waits)
walk-follows-still (Refused fault) wsize m turn old next new after room is f waits =
    let no-way : nexts.Done (answers.Refused fault) ≡ nexts.Wait = sym f.0 ∙ waits in absurd cc

pub path-still : (wsize : ℕ) (m : PathMachine) (turn : Turn) (old : Shelf) (next : Step) (new : PathMachine) (after : Shelf) → turn.room ≡ true
    → PathResumes m.arrived wsize m turn old next new after → next ≡ nexts.Wait → (new ≡ m) × (after ≡ old)
path-still wsize m turn old next new after room r waits = by m.arrived r
  where
    by : (b : Bool) → PathResumes b wsize m turn old next new after → (new ≡ m) × (after ≡ old)
    by true r = then-still wsize m turn old next new after room r waits
    by false r = walk-follows-still (go_next m.walk turn old) wsize m turn old next new after room refl r waits

-- ---- its bytes go on to fit

abbrev HasFit : PathMachine → Type 0
HasFit m = FileFits (file_of m.opener)

placed-fits : (dir : List ℕ) (o : Opener) → FileFits (file_of o) → FileFits (file_of (placed dir o))
placed-fits dir (openers.Open m) fits = tt
placed-fits dir (openers.Put m) fits = fits

begun-fits : (moment : ℕ) (o : Opener) → FileFits (file_of o) → FileFits (file_of (begun_at moment o))
begun-fits moment (openers.Open m) fits = tt
begun-fits moment (openers.Put m) fits = fits

then-fits : (wsize : ℕ) (m : PathMachine) (turn : Turn) (old : Shelf) (next : Step) (new : PathMachine) (after : Shelf) → ThenResumes wsize m turn old next new after → HasFit m → HasFit new
then-fits wsize m turn old next new after r fits =
    subst HasFit (sym r.machine_is) (resumes-fit wsize (file_of m.opener) turn old next (file_of r.opener) after r.step fits)

follows-fits : (step : WalkStep) (wsize : ℕ) (m : PathMachine) (turn : Turn) (old : Shelf) (next : Step) (new : PathMachine) (after : Shelf)
    → Follows step wsize m turn old next new after → HasFit m → HasFit new
follows-fits (Send call) wsize m turn old next new after f fits = subst HasFit (sym f.1) fits
follows-fits Wait wsize m turn old next new after f fits = subst HasFit (sym f.1) fits
follows-fits (At dir) wsize m turn old next new after f fits = then-fits wsize (arrived_at dir m) turn old next new after f (placed-fits dir m.opener fits)
follows-fits (Refused fault) wsize m turn old next new after f fits = subst HasFit (sym f.1) fits

pub path-resumes-fits : (arrived : Bool) (wsize : ℕ) (m : PathMachine) (turn : Turn) (old : Shelf) (next : Step) (new : PathMachine) (after : Shelf)
    → PathResumes arrived wsize m turn old next new after → HasFit m → HasFit new
path-resumes-fits true wsize m turn old next new after r fits = then-fits wsize m turn old next new after r fits
path-resumes-fits false wsize m turn old next new after r fits =
    follows-fits (go_next m.walk turn old) wsize (walked m turn old) turn (go_shelf m.walk turn old) next new after r fits

starts-if-fits : (taken : Bool) (wsize : ℕ) (m : PathMachine) (turn : Turn) (old : Shelf) (next : Step) (new : PathMachine) (after : Shelf)
    → StartsIf taken wsize m turn old next new after → HasFit m → HasFit new
starts-if-fits true wsize m turn old next new after s fits = subst HasFit (sym s.1) fits
starts-if-fits false wsize m turn old next new after s fits =
    path-resumes-fits m.arrived wsize (begun m turn) turn old next new after s (begun-fits (turn.moment - 1) m.opener fits)

pub path-starts-fits : (wsize : ℕ) (m : PathMachine) (turn : Turn) (old : Shelf) (next : Step) (new : PathMachine) (after : Shelf) → PathStarts wsize m turn old next new after → HasFit m → HasFit new
path-starts-fits wsize m turn old next new after s fits = starts-if-fits (slot_taken m.opener old.opens) wsize m turn old next new after s fits

pub path-takes-fits : (arrived : Bool) (wsize : ℕ) (m : PathMachine) (sent turn : Turn) (came : Result Reply Fault) (old : Shelf) (next : Step) (new : PathMachine) (after : Shelf)
    → PathTakes arrived wsize m sent turn came old next new after → HasFit m → HasFit new
path-takes-fits true wsize m sent turn came old next new after t fits =
    subst HasFit (sym t.machine_is) (takes-fit wsize (file_of m.opener) sent turn came old next (file_of t.opener) after t.step fits)
path-takes-fits false wsize m sent turn came old next new after t fits =
    follows-fits t.step wsize t.walked turn t.heard next new after t.follows (subst HasFit (sym t.walked_is) fits)

-- ---- each step leaves what the next one needs

follows-ready : (step : WalkStep) (wsize : ℕ) (m : PathMachine) (turn : Turn) (old : Shelf) (next : Step) (new : PathMachine) (after : Shelf)
    → Follows step wsize m turn old next new after → IsReady turn.xid old.seq old.back → IsReady (turn.xid + 1) after.seq after.back
follows-ready (Send call) wsize m turn old next new after f r = same-ready turn.xid old after f.2 r
follows-ready Wait wsize m turn old next new after f r = same-ready turn.xid old after f.2 r
follows-ready (At dir) wsize m turn old next new after f r = resumes-ready wsize (file_of (placed dir m.opener)) turn old next (file_of f.opener) after f.step r
follows-ready (Refused fault) wsize m turn old next new after f r = same-ready turn.xid old after f.2 r

pub path-resumes-ready : (arrived : Bool) (wsize : ℕ) (m : PathMachine) (turn : Turn) (old : Shelf) (next : Step) (new : PathMachine) (after : Shelf)
    → PathResumes arrived wsize m turn old next new after → IsReady turn.xid old.seq old.back → IsReady (turn.xid + 1) after.seq after.back
path-resumes-ready true wsize m turn old next new after s r = resumes-ready wsize (file_of m.opener) turn old next (file_of s.opener) after s.step r
path-resumes-ready false wsize m turn old next new after s r =
    follows-ready (go_next m.walk turn old) wsize (walked m turn old) turn (go_shelf m.walk turn old) next new after s
    (ready-kept turn.xid old (go_shelf m.walk turn old) (walk-kept m.walk turn old) r)

starts-if-ready : (taken : Bool) (wsize : ℕ) (m : PathMachine) (turn : Turn) (old : Shelf) (next : Step) (new : PathMachine) (after : Shelf)
    → StartsIf taken wsize m turn old next new after → IsReady turn.xid old.seq old.back → IsReady (turn.xid + 1) after.seq after.back
starts-if-ready true wsize m turn old next new after s r = same-ready turn.xid old after s.2 r
starts-if-ready false wsize m turn old next new after s r = path-resumes-ready m.arrived wsize (begun m turn) turn old next new after s r

pub path-starts-ready : (wsize : ℕ) (m : PathMachine) (turn : Turn) (old : Shelf) (next : Step) (new : PathMachine) (after : Shelf)
    → PathStarts wsize m turn old next new after → IsReady turn.xid old.seq old.back → IsReady (turn.xid + 1) after.seq after.back
path-starts-ready wsize m turn old next new after s r = starts-if-ready (slot_taken m.opener old.opens) wsize m turn old next new after s r

pub path-takes-ready : (arrived : Bool) (wsize : ℕ) (m : PathMachine) (sent turn : Turn) (came : Result Reply Fault) (old : Shelf) (next : Step) (new : PathMachine) (after : Shelf)
    → PathTakes arrived wsize m sent turn came old next new after → IsReady turn.xid old.seq old.back → IsReady (turn.xid + 1) after.seq after.back
path-takes-ready true wsize m sent turn came old next new after t r = takes-ready wsize (file_of m.opener) sent turn came old next (file_of t.opener) after t.step r
path-takes-ready false wsize m sent turn came old next new after t r =
    follows-ready t.step wsize t.walked turn t.heard next new after t.follows
    (ready-kept turn.xid old t.heard (walk-takes-kept (waiting_name m.walk) m.walk sent turn came old t.step t.walked.walk t.heard t.takes) r)

-- ---- a step that asks for no call puts nothing in flight

follows-unsent : (step : WalkStep) (xid wsize : ℕ) (m : PathMachine) (turn : Turn) (old : Shelf) (next : Step) (new : PathMachine) (after : Shelf)
    → Follows step wsize m turn old next new after → AsksNothing next → IsReady xid old.seq old.back → IsReady xid after.seq after.back
follows-unsent (Send call) xid wsize m turn old next new after f none r = ready-as xid old after f.2 r
follows-unsent Wait xid wsize m turn old next new after f none r = ready-as xid old after f.2 r
follows-unsent (At dir) xid wsize m turn old next new after f none r = resumes-unsent xid wsize (file_of (placed dir m.opener)) turn old next (file_of f.opener) after f.step none r
follows-unsent (Refused fault) xid wsize m turn old next new after f none r = ready-as xid old after f.2 r

pub path-resumes-unsent : (arrived : Bool) (xid wsize : ℕ) (m : PathMachine) (turn : Turn) (old : Shelf) (next : Step) (new : PathMachine) (after : Shelf)
    → PathResumes arrived wsize m turn old next new after → AsksNothing next → IsReady xid old.seq old.back → IsReady xid after.seq after.back
path-resumes-unsent true xid wsize m turn old next new after s none r = resumes-unsent xid wsize (file_of m.opener) turn old next (file_of s.opener) after s.step none r
path-resumes-unsent false xid wsize m turn old next new after s none r =
    follows-unsent (go_next m.walk turn old) xid wsize (walked m turn old) turn (go_shelf m.walk turn old) next new after s none
    (ready-kept xid old (go_shelf m.walk turn old) (walk-kept m.walk turn old) r)

starts-if-unsent : (taken : Bool) (xid wsize : ℕ) (m : PathMachine) (turn : Turn) (old : Shelf) (next : Step) (new : PathMachine) (after : Shelf)
    → StartsIf taken wsize m turn old next new after → AsksNothing next → IsReady xid old.seq old.back → IsReady xid after.seq after.back
starts-if-unsent true xid wsize m turn old next new after s none r = ready-as xid old after s.2 r
starts-if-unsent false xid wsize m turn old next new after s none r = path-resumes-unsent m.arrived xid wsize (begun m turn) turn old next new after s none r

pub path-starts-unsent : (xid wsize : ℕ) (m : PathMachine) (turn : Turn) (old : Shelf) (next : Step) (new : PathMachine) (after : Shelf)
    → PathStarts wsize m turn old next new after → AsksNothing next → IsReady xid old.seq old.back → IsReady xid after.seq after.back
path-starts-unsent xid wsize m turn old next new after s none r = starts-if-unsent (slot_taken m.opener old.opens) xid wsize m turn old next new after s none r

pub path-takes-unsent : (arrived : Bool) (xid wsize : ℕ) (m : PathMachine) (sent turn : Turn) (came : Result Reply Fault) (old : Shelf) (next : Step) (new : PathMachine) (after : Shelf)
    → PathTakes arrived wsize m sent turn came old next new after → AsksNothing next → IsReady xid old.seq old.back → IsReady xid after.seq after.back
path-takes-unsent true xid wsize m sent turn came old next new after t none r = takes-unsent xid wsize (file_of m.opener) sent turn came old next (file_of t.opener) after t.step none r
path-takes-unsent false xid wsize m sent turn came old next new after t none r =
    follows-unsent t.step xid wsize t.walked turn t.heard next new after t.follows none
    (ready-kept xid old t.heard (walk-takes-kept (waiting_name m.walk) m.walk sent turn came old t.step t.walked.walk t.heard t.takes) r)

-- ---- numbers of writes

abbrev seq : Shelf → ℕ
seq s = s.seq

follows-number : (step : WalkStep) (wsize : ℕ) (m : PathMachine) (turn : Turn) (old : Shelf) (next : Step) (new : PathMachine) (after : Shelf)
    → Follows step wsize m turn old next new after → after.seq ≡ old.seq
follows-number (Send call) wsize m turn old next new after f = ap seq f.2
follows-number Wait wsize m turn old next new after f = ap seq f.2
follows-number (At dir) wsize m turn old next new after f = resumes-number wsize (file_of (placed dir m.opener)) turn old next (file_of f.opener) after f.step
follows-number (Refused fault) wsize m turn old next new after f = ap seq f.2

pub path-resumes-number : (arrived : Bool) (wsize : ℕ) (m : PathMachine) (turn : Turn) (old : Shelf) (next : Step) (new : PathMachine) (after : Shelf)
    → PathResumes arrived wsize m turn old next new after → after.seq ≡ old.seq
path-resumes-number true wsize m turn old next new after s = resumes-number wsize (file_of m.opener) turn old next (file_of s.opener) after s.step
path-resumes-number false wsize m turn old next new after s =
    let walk = walk-kept m.walk turn old in
    follows-number (go_next m.walk turn old) wsize (walked m turn old) turn (go_shelf m.walk turn old) next new after s ∙ walk.seq

starts-if-number : (taken : Bool) (wsize : ℕ) (m : PathMachine) (turn : Turn) (old : Shelf) (next : Step) (new : PathMachine) (after : Shelf)
    → StartsIf taken wsize m turn old next new after → after.seq ≡ old.seq
starts-if-number true wsize m turn old next new after s = ap seq s.2
starts-if-number false wsize m turn old next new after s = path-resumes-number m.arrived wsize (begun m turn) turn old next new after s

pub path-starts-number : (wsize : ℕ) (m : PathMachine) (turn : Turn) (old : Shelf) (next : Step) (new : PathMachine) (after : Shelf) → PathStarts wsize m turn old next new after → after.seq ≤ old.seq + 1
path-starts-number wsize m turn old next new after s = none-more after.seq old.seq (starts-if-number (slot_taken m.opener old.opens) wsize m turn old next new after s)

walk-takes-number : (wsize : ℕ) (m : PathMachine) (sent turn : Turn) (came : Result Reply Fault) (old : Shelf) (next : Step) (new : PathMachine) (after : Shelf)
    → PathTakes false wsize m sent turn came old next new after → after.seq ≡ old.seq
walk-takes-number wsize m sent turn came old next new after t =
    let walk = walk-takes-kept (waiting_name m.walk) m.walk sent turn came old t.step t.walked.walk t.heard t.takes in
    follows-number t.step wsize t.walked turn t.heard next new after t.follows ∙ walk.seq

pub path-takes-number : (arrived : Bool) (wsize : ℕ) (m : PathMachine) (sent turn : Turn) (came : Result Reply Fault) (old : Shelf) (next : Step) (new : PathMachine) (after : Shelf)
    → PathTakes arrived wsize m sent turn came old next new after → after.seq ≤ old.seq + 1
path-takes-number true wsize m sent turn came old next new after t = takes-number wsize (file_of m.opener) sent turn came old next (file_of t.opener) after t.step
path-takes-number false wsize m sent turn came old next new after t = none-more after.seq old.seq (walk-takes-number wsize m sent turn came old next new after t)

pub path-refusals-number : (arrived : Bool) (wsize : ℕ) (m : PathMachine) (sent turn : Turn) (fault : Fault) (old : Shelf) (next : Step) (new : PathMachine) (after : Shelf)
    → PathTakes arrived wsize m sent turn (Err fault) old next new after → after.seq ≡ old.seq
path-refusals-number true wsize m sent turn fault old next new after t = refusals-number wsize (file_of m.opener) sent turn fault old next (file_of t.opener) after t.step
path-refusals-number false wsize m sent turn fault old next new after t = walk-takes-number wsize m sent turn (Err fault) old next new after t

-- ---- a step that is told of no room asks for no call

abbrev NoCall : Call → Type 0
NoCall call = ⊥

no-looks : (turn : Turn) → turn.room ≡ false → Looks NoCall turn.room
no-looks turn none = λ room dir name. let no-way : true ≡ false = sym room ∙ none in absurd cc

asks-nothing : (to next : Step) → next ≡ to → ((call : Call) → to ≡ nexts.Send call → ⊥) → AsksNothing next
asks-nothing to next is never = λ call e. never call (sym is ∙ e)

never-waits : (call : Call) → nexts.Wait ≡ nexts.Send call → ⊥
never-waits call e = absurd cc

follows-quiet : (step : WalkStep) (wsize : ℕ) (m : PathMachine) (turn : Turn) (old : Shelf) (next : Step) (new : PathMachine) (after : Shelf) → turn.room ≡ false
    → WalkAsks NoCall step → Follows step wsize m turn old next new after → AsksNothing next
follows-quiet (Send call) wsize m turn old next new after none a f = absurd a
follows-quiet Wait wsize m turn old next new after none a f = asks-nothing nexts.Wait next f.0 never-waits
follows-quiet (At dir) wsize m turn old next new after none a f = resumes-quiet wsize (file_of (placed dir m.opener)) turn old next (file_of f.opener) after none f.step
follows-quiet (Refused fault) wsize m turn old next new after none a f =
    asks-nothing (nexts.Done (answers.Refused fault)) next f.0 (λ call e. let no-way : nexts.Done (answers.Refused fault) ≡ nexts.Send call = e in absurd cc)

pub path-resumes-quiet : (arrived : Bool) (wsize : ℕ) (m : PathMachine) (turn : Turn) (old : Shelf) (next : Step) (new : PathMachine) (after : Shelf) → turn.room ≡ false
    → PathResumes arrived wsize m turn old next new after → AsksNothing next
path-resumes-quiet true wsize m turn old next new after none s = resumes-quiet wsize (file_of m.opener) turn old next (file_of s.opener) after none s.step
path-resumes-quiet false wsize m turn old next new after none s =
    follows-quiet (go_next m.walk turn old) wsize (walked m turn old) turn (go_shelf m.walk turn old) next new after none
    (walk-asks NoCall m.walk turn old (no-looks turn none)) s

starts-if-quiet : (taken : Bool) (wsize : ℕ) (m : PathMachine) (turn : Turn) (old : Shelf) (next : Step) (new : PathMachine) (after : Shelf) → turn.room ≡ false
    → StartsIf taken wsize m turn old next new after → AsksNothing next
starts-if-quiet true wsize m turn old next new after none s =
    asks-nothing (nexts.Done (answers.Refused Slot)) next s.0 (λ call e. let no-way : nexts.Done (answers.Refused Slot) ≡ nexts.Send call = e in absurd cc)
starts-if-quiet false wsize m turn old next new after none s = path-resumes-quiet m.arrived wsize (begun m turn) turn old next new after none s

pub path-starts-quiet : (wsize : ℕ) (m : PathMachine) (turn : Turn) (old : Shelf) (next : Step) (new : PathMachine) (after : Shelf) → turn.room ≡ false
    → PathStarts wsize m turn old next new after → AsksNothing next
path-starts-quiet wsize m turn old next new after none s = starts-if-quiet (slot_taken m.opener old.opens) wsize m turn old next new after none s

pub path-takes-quiet : (arrived : Bool) (wsize : ℕ) (m : PathMachine) (sent turn : Turn) (came : Result Reply Fault) (old : Shelf) (next : Step) (new : PathMachine) (after : Shelf)
    → turn.room ≡ false → PathTakes arrived wsize m sent turn came old next new after → AsksNothing next
path-takes-quiet true wsize m sent turn came old next new after none t = takes-quiet wsize (file_of m.opener) sent turn came old next (file_of t.opener) after none t.step
path-takes-quiet false wsize m sent turn came old next new after none t =
    follows-quiet t.step wsize t.walked turn t.heard next new after none
    (walk-takes-asks NoCall (waiting_name m.walk) m.walk sent turn came old t.step t.walked.walk t.heard (no-looks turn none) t.takes) t.follows

-- ---- each call that a step asks for has a spelling

abbrev Spells : Step → Shelf → Type 0
Spells next after = AreSpellable after.back × AsksSpellable next

any-looks : (turn : Turn) → Looks IsSpellable turn.room
any-looks turn = λ room dir name. tt

same-spells : (to next : Step) (old after : Shelf) → next ≡ to → after ≡ old → ((call : Call) → to ≡ nexts.Send call → IsSpellable call) → AreSpellable old.back → Spells next after
same-spells to next old after is same spells all =
    (subst (λ (s : Shelf). AreSpellable s.back) (sym same) all, λ call e. spells call (sym is ∙ e))

follows-spell : (step : WalkStep) (wsize : ℕ) (m : PathMachine) (turn : Turn) (old : Shelf) (next : Step) (new : PathMachine) (after : Shelf) → wsize ≤ 65536
    → WalkAsks IsSpellable step → Follows step wsize m turn old next new after → AreSpellable old.back → Spells next after
follows-spell (Send look) wsize m turn old next new after small a f all =
    same-spells (nexts.Send look) next old after f.0 f.2 (λ call e. asks-call IsSpellable (nexts.Send look) call a e) all
follows-spell Wait wsize m turn old next new after small a f all = same-spells nexts.Wait next old after f.0 f.2 (λ call e. absurd (never-waits call e)) all
follows-spell (At dir) wsize m turn old next new after small a f all =
    resumes-spell wsize (file_of (placed dir m.opener)) turn old next (file_of f.opener) after small f.step all
follows-spell (Refused fault) wsize m turn old next new after small a f all =
    same-spells (nexts.Done (answers.Refused fault)) next old after f.0 f.2 (λ call e. let no-way : nexts.Done (answers.Refused fault) ≡ nexts.Send call = e in absurd cc) all

kept-spells : (old new : Shelf) → IsKept old new → AreSpellable old.back → AreSpellable new.back
kept-spells old new k all = subst (λ (p : Pending). AreSpellable p) (sym k.back) all

pub path-resumes-spell : (arrived : Bool) (wsize : ℕ) (m : PathMachine) (turn : Turn) (old : Shelf) (next : Step) (new : PathMachine) (after : Shelf) → wsize ≤ 65536
    → PathResumes arrived wsize m turn old next new after → AreSpellable old.back → Spells next after
path-resumes-spell true wsize m turn old next new after small s all = resumes-spell wsize (file_of m.opener) turn old next (file_of s.opener) after small s.step all
path-resumes-spell false wsize m turn old next new after small s all =
    follows-spell (go_next m.walk turn old) wsize (walked m turn old) turn (go_shelf m.walk turn old) next new after small
    (walk-asks IsSpellable m.walk turn old (any-looks turn)) s (kept-spells old (go_shelf m.walk turn old) (walk-kept m.walk turn old) all)

starts-if-spell : (taken : Bool) (wsize : ℕ) (m : PathMachine) (turn : Turn) (old : Shelf) (next : Step) (new : PathMachine) (after : Shelf) → wsize ≤ 65536
    → StartsIf taken wsize m turn old next new after → AreSpellable old.back → Spells next after
starts-if-spell true wsize m turn old next new after small s all =
    same-spells (nexts.Done (answers.Refused Slot)) next old after s.0 s.2 (λ call e. let no-way : nexts.Done (answers.Refused Slot) ≡ nexts.Send call = e in absurd cc) all
starts-if-spell false wsize m turn old next new after small s all = path-resumes-spell m.arrived wsize (begun m turn) turn old next new after small s all

pub path-starts-spell : (wsize : ℕ) (m : PathMachine) (turn : Turn) (old : Shelf) (next : Step) (new : PathMachine) (after : Shelf) → wsize ≤ 65536
    → PathStarts wsize m turn old next new after → AreSpellable old.back → Spells next after
path-starts-spell wsize m turn old next new after small s all = starts-if-spell (slot_taken m.opener old.opens) wsize m turn old next new after small s all

pub path-takes-spell : (arrived : Bool) (wsize : ℕ) (m : PathMachine) (sent turn : Turn) (came : Result Reply Fault) (old : Shelf) (next : Step) (new : PathMachine) (after : Shelf)
    → wsize ≤ 65536 → PathTakes arrived wsize m sent turn came old next new after → AreSpellable old.back → Spells next after
path-takes-spell true wsize m sent turn came old next new after small t all = takes-spell wsize (file_of m.opener) sent turn came old next (file_of t.opener) after small t.step all
path-takes-spell false wsize m sent turn came old next new after small t all =
    follows-spell t.step wsize t.walked turn t.heard next new after small
    (walk-takes-asks IsSpellable (waiting_name m.walk) m.walk sent turn came old t.step t.walked.walk t.heard (any-looks turn) t.takes) t.follows
    (kept-spells old t.heard (walk-takes-kept (waiting_name m.walk) m.walk sent turn came old t.step t.walked.walk t.heard t.takes) all)

-- ---- a call that couldn't be made leaves nothing in flight

abbrev pub PathLeaves : ℕ → Turn → PathMachine → Shelf → Type 0
PathLeaves wsize sent p old = (turn : Turn) (fault : Fault) (next : Step) (new : PathMachine) (after : Shelf)
    → turn.room ≡ false → PathTakes p.arrived wsize p sent turn (Err fault) old next new after → IsReady sent.xid after.seq after.back

-- once it is at its directory its own machine leaves nothing, and before that nothing is in flight
leaves : (wsize : ℕ) (sent : Turn) (p : PathMachine) (old : Shelf) → (p.arrived ≡ true → LeavesNothing wsize sent (file_of p.opener) old)
    → (p.arrived ≡ false → IsReady sent.xid old.seq old.back) → PathLeaves wsize sent p old
leaves wsize sent p old own ready turn fault next new after none takes = by p.arrived refl takes
  where
    by : (b : Bool) → p.arrived ≡ b → PathTakes b wsize p sent turn (Err fault) old next new after → IsReady sent.xid after.seq after.back
    by true e t = own e turn fault next (file_of t.opener) after none t.step
    by false e t =
        follows-unsent t.step sent.xid wsize t.walked turn t.heard next new after t.follows
        (path-takes-quiet false wsize p sent turn (Err fault) old next new after none t)
        (ready-kept sent.xid old t.heard (walk-takes-kept (waiting_name p.walk) p.walk sent turn (Err fault) old t.step t.walked.walk t.heard t.takes) (ready e))

own-leaves : (wsize : ℕ) (sent : Turn) (p : PathMachine) (old : Shelf) → p.arrived ≡ true → LeavesNothing wsize sent (file_of p.opener) old → PathLeaves wsize sent p old
own-leaves wsize sent p old at own = leaves wsize sent p old (λ e. own) (λ e. let no-way : true ≡ false = sym at ∙ e in absurd cc)

walk-leaves : (wsize : ℕ) (sent : Turn) (p : PathMachine) (old : Shelf) → p.arrived ≡ false → IsReady sent.xid old.seq old.back → PathLeaves wsize sent p old
walk-leaves wsize sent p old at ready = leaves wsize sent p old (λ e. let no-way : true ≡ false = sym e ∙ at in absurd cc) (λ e. ready)

then-unmade : (wsize : ℕ) (m : PathMachine) (turn : Turn) (old : Shelf) (call : Call) (new : PathMachine) (after : Shelf) → m.arrived ≡ true
    → ThenResumes wsize m turn old (nexts.Send call) new after → IsReady turn.xid old.seq old.back → PathLeaves wsize turn new after
then-unmade wsize m turn old call new after at s r =
    subst (λ (p : PathMachine). PathLeaves wsize turn p after) (sym s.machine_is)
    (own-leaves wsize turn (record m { opener = s.opener }) after at (resumes-unmade wsize (file_of m.opener) turn old call (file_of s.opener) after s.step r))

follows-unmade : (step : WalkStep) (wsize : ℕ) (m : PathMachine) (turn : Turn) (old : Shelf) (call : Call) (new : PathMachine) (after : Shelf) → m.arrived ≡ false
    → Follows step wsize m turn old (nexts.Send call) new after → IsReady turn.xid old.seq old.back → PathLeaves wsize turn new after
follows-unmade (Send look) wsize m turn old call new after at f r =
    walk-leaves wsize turn new after (ap (λ (p : PathMachine). p.arrived) f.1 ∙ at) (ready-as turn.xid old after f.2 r)
follows-unmade Wait wsize m turn old call new after at f r = let no-way : nexts.Send call ≡ nexts.Wait = f.0 in absurd cc
follows-unmade (At dir) wsize m turn old call new after at f r = then-unmade wsize (arrived_at dir m) turn old call new after refl f r
follows-unmade (Refused fault) wsize m turn old call new after at f r = let no-way : nexts.Send call ≡ nexts.Done (answers.Refused fault) = f.0 in absurd cc

pub path-resumes-unmade : (wsize : ℕ) (m : PathMachine) (turn : Turn) (old : Shelf) (call : Call) (new : PathMachine) (after : Shelf)
    → PathResumes m.arrived wsize m turn old (nexts.Send call) new after → IsReady turn.xid old.seq old.back → PathLeaves wsize turn new after
path-resumes-unmade wsize m turn old call new after s r = by m.arrived refl s
  where
    by : (b : Bool) → m.arrived ≡ b → PathResumes b wsize m turn old (nexts.Send call) new after → PathLeaves wsize turn new after
    by true e s = then-unmade wsize m turn old call new after e s r
    by false e s =
        follows-unmade (go_next m.walk turn old) wsize (walked m turn old) turn (go_shelf m.walk turn old) call new after e s
        (ready-kept turn.xid old (go_shelf m.walk turn old) (walk-kept m.walk turn old) r)

starts-if-unmade : (taken : Bool) (wsize : ℕ) (m : PathMachine) (turn : Turn) (old : Shelf) (call : Call) (new : PathMachine) (after : Shelf)
    → StartsIf taken wsize m turn old (nexts.Send call) new after → IsReady turn.xid old.seq old.back → PathLeaves wsize turn new after
starts-if-unmade true wsize m turn old call new after s r = let no-way : nexts.Send call ≡ nexts.Done (answers.Refused Slot) = s.0 in absurd cc
starts-if-unmade false wsize m turn old call new after s r = path-resumes-unmade wsize (begun m turn) turn old call new after s r

pub path-starts-unmade : (wsize : ℕ) (m : PathMachine) (turn : Turn) (old : Shelf) (call : Call) (new : PathMachine) (after : Shelf)
    → PathStarts wsize m turn old (nexts.Send call) new after → IsReady turn.xid old.seq old.back → PathLeaves wsize turn new after
path-starts-unmade wsize m turn old call new after s r = starts-if-unmade (slot_taken m.opener old.opens) wsize m turn old call new after s r

pub path-takes-unmade : (wsize : ℕ) (m : PathMachine) (sent turn : Turn) (came : Result Reply Fault) (old : Shelf) (call : Call) (new : PathMachine) (after : Shelf)
    → PathTakes m.arrived wsize m sent turn came old (nexts.Send call) new after → IsReady turn.xid old.seq old.back → PathLeaves wsize turn new after
path-takes-unmade wsize m sent turn came old call new after t r = by m.arrived refl t
  where
    by : (b : Bool) → m.arrived ≡ b → PathTakes b wsize m sent turn came old (nexts.Send call) new after → PathLeaves wsize turn new after
    by true e t =
        subst (λ (p : PathMachine). PathLeaves wsize turn p after) (sym t.machine_is)
        (own-leaves wsize turn (record m { opener = t.opener }) after e (takes-unmade wsize (file_of m.opener) sent turn came old call (file_of t.opener) after t.step r))
    by false e t =
        follows-unmade t.step wsize t.walked turn t.heard call new after (ap (λ (p : PathMachine). p.arrived) t.walked_is ∙ e) t.follows
        (ready-kept turn.xid old t.heard (walk-takes-kept (waiting_name m.walk) m.walk sent turn came old t.step t.walked.walk t.heard t.takes) r)
