-- A call of an open or a put that can't be made ends it, or leaves it fewer calls to ask for in vain.
use Rattle.std.proofs.Common.{◌≡◌, ◌<◌, ◌≤◌, ℕ, Bool, true, false, List, Err, refl, sym, ap, subst, ◌∙◌, arith}
use Rattle.world_model.specs.declared.answer.Fault.{Fault}
use Rattle.world_model.specs.declared.answer.Answer.TheVariants as answers
use Rattle.world_model.specs.declared.message.Call.{Call}
use Rattle.client_shelf.specs.declared.shelf.Shelf.{Shelf}
use Rattle.client_shelf.specs.declared.turn.Turn.{Turn}
use Rattle.client_shelf.specs.declared.step.Step.{Step}
use Rattle.client_shelf.specs.declared.step.Step.TheVariants as nexts
use Rattle.name_ops.specs.declared.walk.WalkStep.{WalkStep}
use Rattle.name_ops.specs.declared.walk.WalkStep.TheVariants.{Send, Wait, At, Refused}
use Rattle.name_ops.specs.Walking.{go_next, go_after, go_shelf}
use Rattle.op_machines.specs.declared.opener.Opener.{Opener}
use Rattle.op_machines.specs.declared.opener.Opener.TheVariants as openers
use Rattle.op_machines.specs.declared.path_machine.PathMachine.{PathMachine}
use Rattle.op_machines.specs.Endings.{path_left}
use Rattle.op_machines.specs.FileEndings.{calls_left}
use Rattle.op_machines.specs.Openers.{file_of, placed}
use Rattle.op_machines.specs.PathSteps.{ThenResumes, Follows, PathResumes, PathTakes}
use Rattle.op_machines.proofs.Endings as files
use Rattle.op_machines.proofs.NameEnds.{IsOut, IsEnded, walk-out, walk-ends}

abbrev left : PathMachine → ℕ
left m = path_left m.arrived m.opener

-- once it is at its directory
then-less : (wsize : ℕ) (m : PathMachine) (turn : Turn) (old : Shelf) (call : Call) (mid : PathMachine) (between : Shelf) (sent : Turn) (fault : Fault) (next : Step) (new : PathMachine) (after : Shelf)
    → m.arrived ≡ true → ThenResumes wsize m turn old (nexts.Send call) mid between → PathTakes mid.arrived wsize mid turn sent (Err fault) between next new after → next ≡ nexts.Wait
    → left new < calls_left (file_of m.opener)
then-less wsize m turn old call mid between sent fault next new after at r t waits =
    by (subst (λ (b : Bool). PathTakes b wsize (record m { opener = r.opener }) turn sent (Err fault) between next new after) at
    (subst (λ (p : PathMachine). PathTakes p.arrived wsize p turn sent (Err fault) between next new after) r.machine_is t))
  where
    by : PathTakes true wsize (record m { opener = r.opener }) turn sent (Err fault) between next new after → left new < calls_left (file_of m.opener)
    by own =
        let less = files.refusals-end wsize (file_of m.opener) turn old call (file_of r.opener) between sent fault next (file_of own.opener) after r.step own.step waits in
        subst (λ (p : PathMachine). left p < calls_left (file_of m.opener)) (sym own.machine_is)
        (subst (λ (b : Bool). path_left b own.opener < calls_left (file_of m.opener)) (sym at) less)

-- as it starts from its directory it has one at most
placed-few : (dir : List ℕ) (o : Opener) → calls_left (file_of (placed dir o)) ≤ 1
placed-few dir (openers.Open m) = omega arith
placed-few dir (openers.Put m) = omega arith

less-then : (a b c : ℕ) → a < b → b ≤ c → a < c
less-then a b c less few = omega (arith, less, few)

follows-never : (step : WalkStep) (wsize : ℕ) (m : PathMachine) (turn : Turn) (old : Shelf) (next : Step) (new : PathMachine) (after : Shelf) → IsEnded step
    → Follows step wsize m turn old next new after → next ≡ nexts.Wait → ⊥
follows-never (Send call) wsize m turn old next new after ended f waits = let no-way : nexts.Send call ≡ nexts.Wait = sym f.0 ∙ waits in absurd cc
follows-never Wait wsize m turn old next new after ended f waits = ended
follows-never (At dir) wsize m turn old next new after ended f waits = absurd ended
follows-never (Refused fault) wsize m turn old next new after ended f waits = let no-way : nexts.Done (answers.Refused fault) ≡ nexts.Wait = sym f.0 ∙ waits in absurd cc

-- its walk asked
walk-never-waits : (wsize : ℕ) (m mid : PathMachine) (sent turn : Turn) (fault : Fault) (old : Shelf) (next : Step) (new : PathMachine) (after : Shelf) → mid ≡ m → m.arrived ≡ false → IsOut m.walk
    → PathTakes mid.arrived wsize mid sent turn (Err fault) old next new after → next ≡ nexts.Wait → ⊥
walk-never-waits wsize m mid sent turn fault old next new after is idle out t waits =
    by (subst (λ (b : Bool). PathTakes b wsize m sent turn (Err fault) old next new after) idle
    (subst (λ (p : PathMachine). PathTakes p.arrived wsize p sent turn (Err fault) old next new after) is t))
  where
    by : PathTakes false wsize m sent turn (Err fault) old next new after → ⊥
    by w =
        let ended = walk-ends m.walk sent turn fault old w.step w.walked.walk w.heard out w.takes in
        follows-never w.step wsize w.walked turn w.heard next new after ended w.follows waits

follows-less : (step : WalkStep) (wsize : ℕ) (m : PathMachine) (turn : Turn) (old : Shelf) (call : Call) (mid : PathMachine) (between : Shelf) (sent : Turn) (fault : Fault) (next : Step)
    (new : PathMachine) (after : Shelf) → m.arrived ≡ false → ((look : Call) → step ≡ Send look → IsOut m.walk) → Follows step wsize m turn old (nexts.Send call) mid between
    → PathTakes mid.arrived wsize mid turn sent (Err fault) between next new after → next ≡ nexts.Wait → left new < 1
follows-less (Send look) wsize m turn old call mid between sent fault next new after idle out f t waits =
    absurd (walk-never-waits wsize m mid turn sent fault between next new after f.1 idle (out look refl) t waits)
follows-less Wait wsize m turn old call mid between sent fault next new after idle out f t waits = let no-way : nexts.Send call ≡ nexts.Wait = f.0 in absurd cc
follows-less (At dir) wsize m turn old call mid between sent fault next new after idle out f t waits =
    less-then (left new) (calls_left (file_of (placed dir m.opener))) 1
    (then-less wsize (record m { opener = placed dir m.opener; arrived = true }) turn old call mid between sent fault next new after refl f t waits) (placed-few dir m.opener)
follows-less (Refused other) wsize m turn old call mid between sent fault next new after idle out f t waits =
    let no-way : nexts.Send call ≡ nexts.Done (answers.Refused other) = f.0 in absurd cc

pub paths-end : (wsize : ℕ) (m : PathMachine) (turn : Turn) (old : Shelf) (call : Call) (mid : PathMachine) (between : Shelf) (sent : Turn) (fault : Fault) (next : Step) (new : PathMachine) (after : Shelf)
    → PathResumes m.arrived wsize m turn old (nexts.Send call) mid between → PathTakes mid.arrived wsize mid turn sent (Err fault) between next new after → next ≡ nexts.Wait
    → path_left new.arrived new.opener < path_left m.arrived m.opener
paths-end wsize m turn old call mid between sent fault next new after r t waits = by m.arrived refl r
  where
    by : (b : Bool) → m.arrived ≡ b → PathResumes b wsize m turn old (nexts.Send call) mid between → left new < path_left b m.opener
    by true e r = then-less wsize m turn old call mid between sent fault next new after e r t waits
    by false e r =
        follows-less (go_next m.walk turn old) wsize (record m { walk = go_after m.walk turn old }) turn (go_shelf m.walk turn old) call mid between sent fault next new after e
        (λ look is. walk-out m.walk turn old look is) r t waits

pub few-paths : (m : PathMachine) → path_left m.arrived m.opener ≤ 2
few-paths m = by m.arrived
  where
    by : (b : Bool) → path_left b m.opener ≤ 2
    by true = files.few-left (file_of m.opener)
    by false = omega arith
