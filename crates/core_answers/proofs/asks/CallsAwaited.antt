-- For which call any operation waits: on names and of an open or walk as core_facts says, and on files.
use Rattle.core_answers.proofs.Prelude.{◌≡◌, ◌≤◌, ◌+◌, ◌-◌, ℕ, Bool, true, false, Result, refl, sym, ap, subst, ◌∙◌, arith, Fault, Call, Reply, Step, Shelf, Turn, WalkStep, FileMachine, Machine, Opener, PathMachine, file_of, slot_taken, begun_at, placed, Starts, Resumes, Takes, of_walk, in_flight, Awaits, awaits-laws, of_path, path-file, path-walk, ExpectLaws, walk-takes, AskedOf, KeptOf}
use Rattle.core_facts.specs.InFlight.{of_file}
use Rattle.core_facts.proofs.AllCounts.{placed-none}
use Rattle.core_facts.proofs.NameCounts.{WalkCounts, walk-counts, took-counts}
use Rattle.world_model.specs.declared.answer.Answer.TheVariants as answers
use Rattle.client_shelf.specs.declared.step.Step.TheVariants as nexts
use Rattle.name_ops.specs.declared.walk.WalkStep.TheVariants as walks
use Rattle.name_ops.specs.Walking as walking
use Rattle.op_machines.specs.declared.machine.Machine.TheVariants as machines
use Rattle.op_machines.specs.PathSteps as paths
use Rattle.core_answers.proofs.asks.FilesAwaited.{FileNames, file-starts, file-resumes, file-takes}
use Rattle.core_answers.proofs.asks.OnSteps.{On, on-done, on-none, on-any, on-lift}

-- an open or a put once it has its directory
abbrev pub PathNames : Bool → PathMachine → Call → Type 0
PathNames true m call = FileNames (file_of m.opener) call
PathNames false m call = Unit {0}

abbrev pub Names : Machine → Call → Type 0
Names (machines.File m) call = FileNames m call
Names (machines.Path m) call = PathNames m.arrived m call
Names (machines.Name m) call = Unit {0}

abbrev AllOn : ℕ → Machine → Step → Machine → Type 0
AllOn others old next new = On Machine Names others old next new

all-as : (others : ℕ) (old : Machine) (next : Step) (to new : Machine) → new ≡ to → AllOn others old next to → AllOn others old next new
all-as others old next to new is o = subst (λ (m : Machine). AllOn others old next m) (sym is) o

file-on : (others : ℕ) (old : FileMachine) (next : Step) (new : FileMachine) → On FileMachine FileNames others old next new → AllOn others (machines.File old) next (machines.File new)
file-on others old next new o = on-lift FileMachine Machine FileNames Names others old next new (machines.File old) (machines.File new) (λ some c e. e) (λ c e. e) o

-- ---- opens and puts on their way

path-on : (others : ℕ) (m : PathMachine) (opener : Opener) (old : Machine) (next : Step) (new : PathMachine) → m.arrived ≡ true → new ≡ record m { opener = opener }
    → (1 ≤ others → (c : Call) → Names old c → FileNames (file_of m.opener) c) → On FileMachine FileNames others (file_of m.opener) next (file_of opener) → AllOn others old next (machines.Path new)
path-on others m opener old next new there is had o =
    on-lift FileMachine Machine FileNames Names others (file_of m.opener) next (file_of opener) old (machines.Path new) had
    (λ c e. subst (λ (n : PathMachine). PathNames n.arrived n c) (sym is) (subst (λ (b : Bool). PathNames b (record m { opener = opener }) c) (sym there) e)) o

walking-any : (m : PathMachine) → m.arrived ≡ false → (c : Call) → Names (machines.Path m) c
walking-any m on_way c = subst (λ (b : Bool). PathNames b m c) (sym on_way) tt

follows-on : (step : WalkStep) (wsize : ℕ) (m : PathMachine) (turn : Turn) (was : Shelf) (next : Step) (new : PathMachine) (after : Shelf) (others : ℕ) (old : Machine) → m.arrived ≡ false
    → WalkCounts step others (of_walk m.walk) → paths.Follows step wsize m turn was next new after → AllOn others old next (machines.Path new)
follows-on (walks.Send call) wsize m turn was next new after others old on_way c f =
    all-as others old next (machines.Path m) (machines.Path new) (ap machines.Path f.1) (on-any Machine Names others old next (machines.Path m) (walking-any m on_way))
follows-on walks.Wait wsize m turn was next new after others old on_way c f =
    all-as others old next (machines.Path m) (machines.Path new) (ap machines.Path f.1) (on-any Machine Names others old next (machines.Path m) (walking-any m on_way))
follows-on (walks.At dir) wsize m turn was next new after others old on_way c f =
    let at : PathMachine = record m { opener = placed dir m.opener; arrived = true } in
    on-none Machine Names others old next (machines.Path new) c.0
    (path-on (of_file (file_of at.opener)) at f.opener old next new refl f.machine_is
    (λ some. let none = placed-none dir m.opener in absurd (omega (arith, none, some)))
    (file-resumes (file_of at.opener) wsize turn was next (file_of f.opener) after f.step)).asked
follows-on (walks.Refused fault) wsize m turn was next new after others old on_way c f = on-done Machine Names others old (answers.Refused fault) next (machines.Path new) f.0

there-names : (m : PathMachine) (c : Call) → m.arrived ≡ true → Names (machines.Path m) c → FileNames (file_of m.opener) c
there-names m c there e = subst (λ (b : Bool). PathNames b m c) there e

path-resumes : (b : Bool) (wsize : ℕ) (m : PathMachine) (turn : Turn) (was : Shelf) (next : Step) (new : PathMachine) (after : Shelf) → m.arrived ≡ b
    → paths.PathResumes b wsize m turn was next new after → AllOn (of_path m) (machines.Path m) next (machines.Path new)
path-resumes true wsize m turn was next new after is r =
    subst (λ (n : ℕ). AllOn n (machines.Path m) next (machines.Path new)) (sym (path-file m is))
    (path-on (of_file (file_of m.opener)) m r.opener (machines.Path m) next new is r.machine_is (λ some c e. there-names m c is e)
    (file-resumes (file_of m.opener) wsize turn was next (file_of r.opener) after r.step))
path-resumes false wsize m turn was next new after is r =
    subst (λ (n : ℕ). AllOn n (machines.Path m) next (machines.Path new)) (sym (path-walk m is))
    (follows-on (walking.go_next m.walk turn was) wsize (record m { walk = walking.go_after m.walk turn was }) turn (walking.go_shelf m.walk turn was) next new after (of_walk m.walk) (machines.Path m) is
    (walk-counts m.walk turn was) r)

path-starts : (taken : Bool) (wsize : ℕ) (m : PathMachine) (turn : Turn) (was : Shelf) (next : Step) (new : PathMachine) (after : Shelf)
    → paths.StartsIf taken wsize m turn was next new after → AskedOf Names next (machines.Path new)
path-starts true wsize m turn was next new after s = subst (λ (n : Step). AskedOf Names n (machines.Path new)) (sym s.0) tt
path-starts false wsize m turn was next new after s = (path-resumes m.arrived wsize (record m { opener = begun_at (turn.moment - 1) m.opener }) turn was next new after refl s).asked

path-takes : (b : Bool) (wsize : ℕ) (m : PathMachine) (sent turn : Turn) (came : Result Reply Fault) (was : Shelf) (next : Step) (new : PathMachine) (after : Shelf) (others : ℕ) → m.arrived ≡ b
    → of_path m ≡ others + 1 → paths.PathTakes b wsize m sent turn came was next new after → AllOn others (machines.Path m) next (machines.Path new)
path-takes true wsize m sent turn came was next new after others is one t =
    path-on others m t.opener (machines.Path m) next new is t.machine_is (λ some c e. there-names m c is e)
    (file-takes (file_of m.opener) wsize sent turn came was next (file_of t.opener) after others (sym (path-file m is) ∙ one) t.step)
path-takes false wsize m sent turn came was next new after others is one t =
    let took = walk-takes m.walk sent turn came was t.step t.walked.walk t.heard others (sym (path-walk m is) ∙ one) t.takes in
    follows-on t.step wsize t.walked turn t.heard next new after others (machines.Path m) (ap (λ (w : PathMachine). w.arrived) t.walked_is ∙ is)
    (took-counts others t.step t.walked.walk took) t.follows

-- ---- any operation

starts-asked : (m : Machine) (wsize : ℕ) (turn : Turn) (old : Shelf) (next : Step) (new : Machine) (after : Shelf) → Starts wsize m turn old next new after → AskedOf Names next new
starts-asked (machines.File m) wsize turn old next new after s =
    (all-as 0 (machines.File m) next (machines.File s.machine) new s.machine_is (file-on 0 m next s.machine (file-starts m wsize turn old next s.machine after s.step))).asked
starts-asked (machines.Path m) wsize turn old next new after s =
    subst (λ (n : Machine). AskedOf Names next n) (sym s.machine_is) (path-starts (slot_taken m.opener old.opens) wsize m turn old next s.machine after s.step)
starts-asked (machines.Name m) wsize turn old next new after s =
    (all-as 0 (machines.Name m) next (machines.Name s.machine) new s.machine_is (on-any Machine Names 0 (machines.Name m) next (machines.Name s.machine) (λ c. tt))).asked

resumes-on : (m : Machine) (wsize : ℕ) (turn : Turn) (old : Shelf) (next : Step) (new : Machine) (after : Shelf) → Resumes wsize m turn old next new after → AllOn (in_flight m) m next new
resumes-on (machines.File m) wsize turn old next new after s =
    all-as _ (machines.File m) next (machines.File s.machine) new s.machine_is (file-on (of_file m) m next s.machine (file-resumes m wsize turn old next s.machine after s.step))
resumes-on (machines.Path m) wsize turn old next new after s =
    all-as _ (machines.Path m) next (machines.Path s.machine) new s.machine_is (path-resumes m.arrived wsize m turn old next s.machine after refl s.step)
resumes-on (machines.Name m) wsize turn old next new after s =
    all-as _ (machines.Name m) next (machines.Name s.machine) new s.machine_is (on-any Machine Names _ (machines.Name m) next (machines.Name s.machine) (λ c. tt))

takes-on : (m : Machine) (wsize : ℕ) (sent turn : Turn) (came : Result Reply Fault) (old : Shelf) (next : Step) (new : Machine) (after : Shelf) (others : ℕ) → in_flight m ≡ others + 1
    → Takes wsize m sent turn came old next new after → AllOn others m next new
takes-on (machines.File m) wsize sent turn came old next new after others one s =
    all-as others (machines.File m) next (machines.File s.machine) new s.machine_is (file-on others m next s.machine (file-takes m wsize sent turn came old next s.machine after others one s.step))
takes-on (machines.Path m) wsize sent turn came old next new after others one s =
    all-as others (machines.Path m) next (machines.Path s.machine) new s.machine_is (path-takes m.arrived wsize m sent turn came old next s.machine after others refl one s.step)
takes-on (machines.Name m) wsize sent turn came old next new after others one s =
    all-as others (machines.Name m) next (machines.Name s.machine) new s.machine_is (on-any Machine Names others (machines.Name m) next (machines.Name s.machine) (λ c. tt))

-- ---- both

abbrev pub Expects : Machine → Call → Type 0
Expects m call = Awaits m call × Names m call

both-asked : (next : Step) (new : Machine) → AskedOf Awaits next new → AskedOf Names next new → AskedOf Expects next new
both-asked (nexts.Send call) new a b = (a, b)
both-asked nexts.Wait new a b = tt
both-asked (nexts.Done answer) new a b = tt

both-kept : (others : ℕ) (old : Machine) (next : Step) (new : Machine) → KeptOf Awaits others old next new → KeptOf Names others old next new → KeptOf Expects others old next new
both-kept others old (nexts.Send call) new a b = λ some c e. (a some c e.0, b some c e.1)
both-kept others old nexts.Wait new a b = λ some c e. (a some c e.0, b some c e.1)
both-kept others old (nexts.Done answer) new a b = tt

pub expects-laws : ExpectLaws Expects
expects-laws = record {
  starts = λ m wsize turn old next new after s. both-asked next new (awaits-laws.starts m wsize turn old next new after s) (starts-asked m wsize turn old next new after s);
  resumes = λ m wsize turn old next new after s.
      let a = awaits-laws.resumes m wsize turn old next new after s in
      let b = resumes-on m wsize turn old next new after s in
      (both-asked next new a.0 b.asked, both-kept (in_flight m) m next new a.1 b.kept);
  takes = λ m wsize sent turn came old next new after others one s.
      let a = awaits-laws.takes m wsize sent turn came old next new after others one s in
      let b = takes-on m wsize sent turn came old next new after others one s in
      (both-asked next new a.0 b.asked, both-kept others m next new a.1 b.kept);
}
