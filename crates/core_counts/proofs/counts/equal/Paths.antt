-- What the steps of opens and puts cost on the way to their directory: LOOKUPs of the names that are left, and then those of the opening.
use Rattle.core_counts.proofs.Prelude.{◌≡◌, ◌≤◌, ◌+◌, ◌-◌, ℕ, Bool, true, false, List, Result, refl, sym, ap, subst, ◌∙◌, arith, Fault, Call, Reply, Step, Shelf, Turn, WalkStep, FileMachine, Opener, PathMachine, file_of, begun_at, of_walk, Counts, AskedOf, Expects, Saves}
use Rattle.op_machines.specs.Openers.{placed}
use Rattle.core_facts.specs.InFlight.{of_file, path_by}
use Rattle.core_answers.proofs.asks.CallsAwaited.{PathNames}
use Rattle.world_model.specs.declared.answer.Answer.TheVariants as answers
use Rattle.world_model.specs.declared.answer.Fault.TheVariants as faults
use Rattle.client_shelf.specs.declared.step.Step.TheVariants as nexts
use Rattle.file_ops.specs.OpenFile as opens
use Rattle.file_ops.specs.Opening as opening
use Rattle.name_ops.specs.declared.walk.WalkStep.TheVariants as walks
use Rattle.name_ops.specs.Walking as walking
use Rattle.op_machines.specs.declared.file_machine.FileMachine.TheVariants as files
use Rattle.op_machines.specs.declared.machine.Machine.TheVariants as machines
use Rattle.op_machines.specs.declared.opener.Opener.TheVariants as openers
use Rattle.op_machines.specs.FileSteps as stepping
use Rattle.op_machines.specs.PathSteps as paths
use Rattle.core_counts.proofs.counts.equal.Costs.{Costs, costs-as, costs-more, TakesCosts, repeats_it, goes_on, names_left, WalkCosts, go-costs as walk-costs, WalkTakes, walk_again, walk_on, walk-takes}
use Rattle.core_counts.proofs.counts.equal.Files.{SendsOf, opening_left, file_left, placed-left, go-costs, open-takes}
use Rattle.core_counts.proofs.counts.equal.Puts.{put-resumes, put-takes}
use Rattle.core_counts.proofs.counts.equal.Tables.{Tabled}

abbrev pub path_left_by : Bool → ℕ → ℕ → ℕ
path_left_by true walk file = file
path_left_by false walk file = walk + 4

abbrev pub path_left : PathMachine → ℕ
path_left m = path_left_by m.arrived (names_left m.walk) (file_left (file_of m.opener))

-- the call that a step asks for, if it does
abbrev pub SendsPath : Step → PathMachine → Type 0
SendsPath next new = (call : Call) → next ≡ nexts.Send call → PathNames new.arrived new call × (1 ≤ path_by new.arrived (of_walk new.walk) (of_file (file_of new.opener)))

same-call : (a b : Call) → nexts.Send a ≡ nexts.Send b → a ≡ b
same-call a b e = cc

pub sends-path : (next : Step) (new : PathMachine) (before : ℕ) → Counts next before (machines.Path new) → AskedOf Expects next (machines.Path new) → SendsPath next new
sends-path (nexts.Send call) new before c a = λ other same. (subst (PathNames new.arrived new) (same-call call other same) a.1, (let count = c.0 in omega (arith, count)))
sends-path nexts.Wait new before c a = λ other same. absurd (cc)
sends-path (nexts.Done answer) new before c a = λ other same. absurd (cc)

there-sends : (next : Step) (k : PathMachine) → k.arrived ≡ true → SendsPath next k → SendsOf next (file_of k.opener)
there-sends next k there s = λ call is. (
  subst (λ (b : Bool). PathNames b k call) there (s call is).0,
  subst (λ (b : Bool). 1 ≤ path_by b (of_walk k.walk) (of_file (file_of k.opener))) there (s call is).1,
)

there-left : (k : PathMachine) → k.arrived ≡ true → path_left k ≡ file_left (file_of k.opener)
there-left k there = ap (λ (b : Bool). path_left_by b (names_left k.walk) (file_left (file_of k.opener))) there

away-left : (k : PathMachine) → k.arrived ≡ false → path_left k ≡ names_left k.walk + 4
away-left k away = ap (λ (b : Bool). path_left_by b (names_left k.walk) (file_left (file_of k.opener))) away

same-shelf : (opener : Opener) (dir : List ℕ) (wsize : ℕ) (turn : Turn) (old : Shelf) (next : Step) (new : FileMachine) (after : Shelf) → stepping.Resumes wsize (file_of (placed dir opener)) turn old next new after
    → after ≡ old
same-shelf (openers.Open m) dir wsize turn old next new after r = r.shelf_is
same-shelf (openers.Put m) dir wsize turn old next new after r = r.step.2

follows-same : (step : WalkStep) (wsize : ℕ) (m : PathMachine) (turn : Turn) (was : Shelf) (next : Step) (new : PathMachine) (after : Shelf) → paths.Follows step wsize m turn was next new after → after ≡ was
follows-same (walks.Send call) wsize m turn was next new after f = f.2
follows-same walks.Wait wsize m turn was next new after f = f.2
follows-same (walks.At dir) wsize m turn was next new after f = same-shelf m.opener dir wsize turn was next (file_of f.opener) after f.step
follows-same (walks.Refused fault) wsize m turn was next new after f = f.2

module _ (P : Call → Type 0) (no_saved : (f : List ℕ) (call : Call) → Saves f call → P call → ⊥) where
  file-goes : (opener : Opener) (wsize : ℕ) (turn : Turn) (old : Shelf) (next : Step) (new : FileMachine) (after : Shelf) → stepping.Resumes wsize (file_of opener) turn old next new after → SendsOf next new
      → Costs P (file_left (file_of opener)) next (file_left new)
  file-goes (openers.Open m) wsize turn old next new after r s =
      costs-as P (opening_left m.opening) (opens.goes_as (opening.go_next m.opening turn)) next (opening_left (opening.go_after m.opening turn)) (file_left new) r.next_is (ap file_left r.machine_is)
      (go-costs P m.opening turn (opening_left m.opening) (omega arith))
  file-goes (openers.Put m) wsize turn old next new after r s =
      subst (λ (k : FileMachine). Costs P (file_left (files.Put m)) next (file_left k)) (sym r.machine_is)
      (put-resumes P no_saved m.state wsize m turn old next r.machine after refl r.step (subst (SendsOf next) r.machine_is s))

  file-took : (opener : Opener) (wsize : ℕ) (sent turn : Turn) (came : Result Reply Fault) (old : Shelf) (next : Step) (new : FileMachine) (after : Shelf) (others : ℕ) → of_file (file_of opener) ≡ others + 1
      → stepping.Takes wsize (file_of opener) sent turn came old next new after → SendsOf next new → Tabled sent turn old.repeats next after.repeats
      → TakesCosts P (file_left (file_of opener)) sent turn old.repeats next (file_left new) after.repeats
  file-took (openers.Open m) wsize sent turn came old next new after others flight t s w = open-takes P m sent turn came old next new after others flight t
  file-took (openers.Put m) wsize sent turn came old next new after others flight t s w =
      subst (λ (k : FileMachine). TakesCosts P (file_left (files.Put m)) sent turn old.repeats next (file_left k) after.repeats) (sym t.machine_is)
      (put-takes P no_saved m.state wsize m sent turn came old next t.machine after others refl flight t.step (subst (SendsOf next) t.machine_is s) w)

  then-goes : (wsize : ℕ) (m : PathMachine) (turn : Turn) (old : Shelf) (next : Step) (new : PathMachine) (after : Shelf) → m.arrived ≡ true → paths.ThenResumes wsize m turn old next new after → SendsPath next new
      → Costs P (file_left (file_of m.opener)) next (path_left new)
  then-goes wsize m turn old next new after there r s =
      let k : PathMachine = record m { opener = r.opener } in
      costs-as P (file_left (file_of m.opener)) next next (file_left (file_of r.opener)) (path_left new) refl (ap path_left r.machine_is ∙ there-left k there)
      (file-goes m.opener wsize turn old next (file_of r.opener) after r.step (there-sends next k there (subst (SendsPath next) r.machine_is s)))

  follows-goes : (step : WalkStep) (wsize : ℕ) (m : PathMachine) (turn : Turn) (was : Shelf) (next : Step) (new : PathMachine) (after : Shelf) (had : ℕ) → m.arrived ≡ false
      → WalkCosts had step (names_left m.walk) → paths.Follows step wsize m turn was next new after → SendsPath next new → Costs P (had + 4) next (path_left new)
  follows-goes (walks.Send call) wsize m turn was next new after had away c f s =
      costs-as P (had + 4) (nexts.Send call) next (names_left m.walk + 4) (path_left new) f.0 (ap path_left f.1 ∙ away-left m away) (omega (arith, c), λ p. omega (arith, c))
  follows-goes walks.Wait wsize m turn was next new after had away c f s =
      costs-as P (had + 4) nexts.Wait next (names_left m.walk + 4) (path_left new) f.0 (ap path_left f.1 ∙ away-left m away) (omega (arith, c))
  follows-goes (walks.At dir) wsize m turn was next new after had away c f s =
      let low = placed-left dir m.opener in
      costs-more P (file_left (file_of (placed dir m.opener))) (had + 4) next (path_left new) (omega (arith, low))
      (then-goes wsize (record m { opener = placed dir m.opener; arrived = true }) turn was next new after refl f s)
  follows-goes (walks.Refused fault) wsize m turn was next new after had away c f s =
      costs-as P (had + 4) (nexts.Done (answers.Refused fault)) next (path_left new) (path_left new) f.0 refl tt

  pub path-resumes : (b : Bool) (wsize : ℕ) (m : PathMachine) (turn : Turn) (old : Shelf) (next : Step) (new : PathMachine) (after : Shelf) → m.arrived ≡ b
      → paths.PathResumes b wsize m turn old next new after → SendsPath next new → Costs P (path_left m) next (path_left new)
  path-resumes true wsize m turn old next new after is r s =
      subst (λ (n : ℕ). Costs P n next (path_left new)) (sym (there-left m is)) (then-goes wsize m turn old next new after is r s)
  path-resumes false wsize m turn old next new after is r s =
      subst (λ (n : ℕ). Costs P n next (path_left new)) (sym (away-left m is))
      (follows-goes (walking.go_next m.walk turn old) wsize (record m { walk = walking.go_after m.walk turn old }) turn (walking.go_shelf m.walk turn old) next new after (names_left m.walk) is
      (walk-costs m.walk turn old) r s)

  pub path-starts : (taken : Bool) (wsize : ℕ) (m : PathMachine) (turn : Turn) (old : Shelf) (next : Step) (new : PathMachine) (after : Shelf) → m.arrived ≡ false
      → paths.StartsIf taken wsize m turn old next new after → SendsPath next new → Costs P (names_left m.walk + 4) next (path_left new)
  path-starts true wsize m turn old next new after away t s = costs-as P (names_left m.walk + 4) (nexts.Done (answers.Refused faults.Slot)) next (path_left new) (path_left new) t.0 refl tt
  path-starts false wsize m turn old next new after away t s =
      let k : PathMachine = record m { opener = begun_at (turn.moment - 1) m.opener } in
      subst (λ (n : ℕ). Costs P n next (path_left new)) (away-left k away) (path-resumes m.arrived wsize k turn old next new after refl t s)

  pub path-takes : (b : Bool) (wsize : ℕ) (m : PathMachine) (sent turn : Turn) (came : Result Reply Fault) (old : Shelf) (next : Step) (new : PathMachine) (after : Shelf) (others : ℕ) → m.arrived ≡ b
      → path_by b (of_walk m.walk) (of_file (file_of m.opener)) ≡ others + 1 → paths.PathTakes b wsize m sent turn came old next new after → SendsPath next new
      → Tabled sent turn old.repeats next after.repeats → TakesCosts P (path_left m) sent turn old.repeats next (path_left new) after.repeats
  path-takes true wsize m sent turn came old next new after others is flight t s w =
      let k : PathMachine = record m { opener = t.opener } in
      subst (λ (n : ℕ). TakesCosts P n sent turn old.repeats next (path_left new) after.repeats) (sym (there-left m is))
      (subst (λ (n : ℕ). TakesCosts P (file_left (file_of m.opener)) sent turn old.repeats next n after.repeats) (sym (ap path_left t.machine_is ∙ there-left k is))
      (file-took m.opener wsize sent turn came old next (file_of t.opener) after others flight t.step (there-sends next k is (subst (SendsPath next) t.machine_is s)) w))
  path-takes false wsize m sent turn came old next new after others is flight t s w =
      subst (λ (n : ℕ). TakesCosts P n sent turn old.repeats next (path_left new) after.repeats) (sym (away-left m is))
      (by (walk-takes (walking.waiting_name m.walk) m.walk sent turn came old t.step t.walked.walk t.heard refl (omega (arith, flight)) t.takes))
    where
      away : t.walked.arrived ≡ false
      away = ap (λ (k : PathMachine). k.arrived) t.walked_is ∙ is

      by : WalkTakes (names_left m.walk) sent turn old.repeats t.step (names_left t.walked.walk) t.heard.repeats → TakesCosts P (names_left m.walk + 4) sent turn old.repeats next (path_left new) after.repeats
      by (walk_again call step_is table few) =
          let f = subst (λ (step : WalkStep). paths.Follows step wsize t.walked turn t.heard next new after) step_is t.follows in
          repeats_it (ap (λ (q : Shelf). q.repeats) f.2 ∙ table) (let same = ap path_left f.1 ∙ away-left t.walked away in omega (arith, same, few))
      by (walk_on table c) =
          goes_on (ap (λ (q : Shelf). q.repeats) (follows-same t.step wsize t.walked turn t.heard next new after t.follows) ∙ table)
          (follows-goes t.step wsize t.walked turn t.heard next new after (names_left m.walk) away c t.follows s)
