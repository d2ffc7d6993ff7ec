-- On which object the call is made for which an operation waits.
use Rattle.core_answers.proofs.Prelude.{◌≡◌, ◌≤◌, ◌+◌, ◌-◌, ℕ, Bool, true, false, List, Option, Some, None, Result, refl, sym, ap, subst, ◌∙◌, arith, if◌then◌else◌, Fault, Call, Reply, Step, Shelf, Turn, Deed, Walk, WalkStep, Machine, NameMachine, Opener, PathMachine, file_of, slot_taken, begun_at, placed, Starts, Resumes, Takes, of_name, of_walk, visit_by, own_or, removal_by, in_flight, IsCounted, Counts, counts-calls, of_path, path-file, path-walk, walk-takes, AskedOf}
use Rattle.core_facts.specs.InFlight.{pair_by, one_if, of_names, of_file, FileCounted}
use Rattle.core_facts.proofs.NameCounts.{unasked}
use Rattle.world_model.specs.declared.answer.Answer.TheVariants as answers
use Rattle.world_model.specs.declared.answer.Fault.TheVariants as faults
use Rattle.client_shelf.specs.declared.step.Step.TheVariants as nexts
use Rattle.name_ops.specs.declared.walk.WalkStep.TheVariants as walks
use Rattle.name_ops.specs.Walking as walking
use Rattle.op_machines.specs.declared.machine.Machine.TheVariants as machines
use Rattle.op_machines.specs.declared.name_machine.NameMachine.TheVariants as names
use Rattle.op_machines.specs.declared.opener.Opener.TheVariants as openers
use Rattle.op_machines.specs.PathSteps as paths
use Rattle.core_answers.proofs.bonds.FileCalls.{FileAsks, Asking, alone, asking-for, file-starts-asked, file-resumes-asking, file-takes-asking}
use Rattle.core_answers.proofs.engine.Told.{AskLaws}
use Rattle.core_answers.proofs.bonds.NameCalls.{NameAsks, WalkOn, WalkAsked, asked-done, asked-waits, asked-sends, asked-for, go-walk, took-walk, name-goes-asked, name-takes-asked}

abbrev pub PathOn : Bool → PathMachine → Call → Type 0
PathOn true m call = FileAsks (file_of m.opener) call
PathOn false m call = WalkOn m.walk call

abbrev pub PathAsks : PathMachine → Call → Type 0
PathAsks m call = PathOn m.arrived m call

abbrev pub Asks : Machine → Call → Type 0
Asks (machines.File m) call = FileAsks m call
Asks (machines.Path m) call = PathAsks m call
Asks (machines.Name m) call = NameAsks m call

-- a step that waits asks for nothing
asked-by : {S : Type 0} → (E : S → Call → Type 0) (next : Step) (new : S) → ((next ≡ nexts.Wait → ⊥) → AskedOf E next new) → AskedOf E next new
asked-by E (nexts.Send call) new a = a (λ is. absurd cc)
asked-by E nexts.Wait new a = tt
asked-by E (nexts.Done answer) new a = tt

-- ---- opens and puts on their way

opener-counted : (o : Opener) → FileCounted (file_of o)
opener-counted (openers.Open m) = tt
opener-counted (openers.Put m) = tt

placed-none : (dir : List ℕ) (o : Opener) → of_file (file_of (placed dir o)) ≡ 0
placed-none dir (openers.Open m) = refl
placed-none dir (openers.Put m) = refl

arrived-on : (m : PathMachine) (opener : Opener) (call : Call) → m.arrived ≡ true → FileAsks (file_of opener) call → PathAsks (record m { opener = opener }) call
arrived-on m opener call is on = subst (λ b. PathOn b (record m { opener = opener }) call) (sym is) on

then-resumes : (wsize : ℕ) (m : PathMachine) (turn : Turn) (old : Shelf) (next : Step) (new : PathMachine) (after : Shelf) → m.arrived ≡ true → (next ≡ nexts.Wait → ⊥)
    → paths.ThenResumes wsize m turn old next new after → Asking PathAsks (FileAsks (file_of m.opener)) (of_file (file_of m.opener)) next new
then-resumes wsize m turn old next new after there goes t =
    subst (λ k. Asking PathAsks (FileAsks (file_of m.opener)) (of_file (file_of m.opener)) next k) (sym t.machine_is)
    (asking-for FileAsks PathAsks (FileAsks (file_of m.opener)) (of_file (file_of m.opener)) next (file_of t.opener) (record m { opener = t.opener }) (λ call on. arrived-on m t.opener call there on)
    (file-resumes-asking (file_of m.opener) wsize turn old next (file_of t.opener) after (opener-counted m.opener) goes t.step))

-- the calls that the machine waits for after its walk made a step
follows-asked : (step : WalkStep) (wsize : ℕ) (m : PathMachine) (turn : Turn) (old : Shelf) (next : Step) (new : PathMachine) (after : Shelf) → m.arrived ≡ false → WalkAsked step m.walk
    → paths.Follows step wsize m turn old next new after → AskedOf PathAsks next new
follows-asked (walks.Send call) wsize m turn old next new after on_way a f =
    asked-sends PathAsks call next new f.0 (subst (λ k. PathAsks k call) (sym f.1) (subst (λ b. PathOn b m call) (sym on_way) a.1))
follows-asked walks.Wait wsize m turn old next new after on_way a f = asked-waits PathAsks next new f.0
follows-asked (walks.At dir) wsize m turn old next new after on_way a f =
    asked-by PathAsks next new (λ goes. (then-resumes wsize (record m { opener = placed dir m.opener; arrived = true }) turn old next new after refl goes f).asked)
follows-asked (walks.Refused fault) wsize m turn old next new after on_way a f = asked-done PathAsks (answers.Refused fault) next new f.0

path-resumes-asked : (b : Bool) (wsize : ℕ) (m : PathMachine) (turn : Turn) (old : Shelf) (next : Step) (new : PathMachine) (after : Shelf) → m.arrived ≡ b
    → paths.PathResumes b wsize m turn old next new after → AskedOf PathAsks next new
path-resumes-asked true wsize m turn old next new after is r = asked-by PathAsks next new (λ goes. (then-resumes wsize m turn old next new after is goes r).asked)
path-resumes-asked false wsize m turn old next new after is r =
    follows-asked (walking.go_next m.walk turn old) wsize (record m { walk = walking.go_after m.walk turn old }) turn (walking.go_shelf m.walk turn old) next new after is
    (go-walk m.walk turn old) r

path-starts-asked : (taken : Bool) (wsize : ℕ) (m : PathMachine) (turn : Turn) (old : Shelf) (next : Step) (new : PathMachine) (after : Shelf) → paths.StartsIf taken wsize m turn old next new after
    → AskedOf PathAsks next new
path-starts-asked true wsize m turn old next new after s = asked-done PathAsks (answers.Refused faults.Slot) next new s.0
path-starts-asked false wsize m turn old next new after s =
    path-resumes-asked m.arrived wsize (record m { opener = begun_at (turn.moment - 1) m.opener }) turn old next new after refl s

-- a walk that goes on asks where it waits for nothing
walk-none : (b : Bool) (wsize : ℕ) (m : PathMachine) (turn : Turn) (old : Shelf) (next : Step) (new : PathMachine) (after : Shelf) → m.walk.asked ≡ b → (next ≡ nexts.Wait → ⊥)
    → paths.Follows (if b then walks.Wait else walking.on_next m.walk turn old.attrs old.names) wsize (record m { walk = walking.go_after m.walk turn old }) turn
    (walking.go_shelf m.walk turn old) next new after → of_walk m.walk ≡ 0
walk-none true wsize m turn old next new after is goes f = absurd (goes f.0)
walk-none false wsize m turn old next new after is goes f = unasked m.walk is

path-resumes : (b : Bool) (wsize : ℕ) (m : PathMachine) (turn : Turn) (old : Shelf) (next : Step) (new : PathMachine) (after : Shelf) → m.arrived ≡ b → (next ≡ nexts.Wait → ⊥)
    → paths.PathResumes b wsize m turn old next new after → Asking PathAsks (PathOn b m) (of_path m) next new
path-resumes true wsize m turn old next new after is goes r =
    subst (λ n. Asking PathAsks (FileAsks (file_of m.opener)) n next new) (sym (path-file m is)) (then-resumes wsize m turn old next new after is goes r)
path-resumes false wsize m turn old next new after is goes r =
    alone PathAsks (WalkOn m.walk) (of_path m) next new (path-walk m is ∙ walk-none m.walk.asked wsize m turn old next new after refl goes r)
    (path-resumes-asked false wsize m turn old next new after is r)

path-takes : (b : Bool) (wsize : ℕ) (m : PathMachine) (sent turn : Turn) (came : Result Reply Fault) (old : Shelf) (next : Step) (new : PathMachine) (after : Shelf) (others : ℕ)
    → m.arrived ≡ b → of_path m ≡ others + 1 → paths.PathTakes b wsize m sent turn came old next new after → Asking PathAsks (PathOn b m) others next new
path-takes true wsize m sent turn came old next new after others is one t =
    subst (λ k. Asking PathAsks (FileAsks (file_of m.opener)) others next k) (sym t.machine_is)
    (asking-for FileAsks PathAsks (FileAsks (file_of m.opener)) others next (file_of t.opener) (record m { opener = t.opener }) (λ call on. arrived-on m t.opener call is on)
    (file-takes-asking (file_of m.opener) wsize sent turn came old next (file_of t.opener) after others (sym (path-file m is) ∙ one) t.step))
path-takes false wsize m sent turn came old next new after others is one t =
    alone PathAsks (WalkOn m.walk) others next new
    (walk-takes m.walk sent turn came old t.step t.walked.walk t.heard others (sym (path-walk m is) ∙ one) t.takes).none
    (follows-asked t.step wsize t.walked turn t.heard next new after (ap (λ (w : PathMachine). w.arrived) t.walked_is ∙ is)
    (took-walk m.walk sent turn came old t.step t.walked.walk t.heard t.takes) t.follows)

-- ---- operations on names have one call at most

name-most : (o : Option (List ℕ)) → of_name o ≤ 1
name-most None = omega arith
name-most (Some name) = omega arith

walk-most : (w : Walk) → of_walk w ≤ 1
walk-most w = name-most (walking.waiting_name w)

visit-most : (b : Bool) (walk : ℕ) → walk ≤ 1 → visit_by b walk ≤ 1
visit-most true walk most = omega arith
visit-most false walk most = most

own-most : (b : Bool) (walk : ℕ) → walk ≤ 1 → own_or b walk ≤ 1
own-most true walk most = omega arith
own-most false walk most = most

if-most : (b : Bool) → one_if b ≤ 1
if-most true = omega arith
if-most false = omega arith

removal-most : (deed : Option Deed) (asked : Bool) (walk : ℕ) → walk ≤ 1 → removal_by deed asked walk ≤ 1
removal-most None asked walk most = most
removal-most (Some deed) asked walk most = if-most asked

pair-most : (asked first second : Bool) (one two : ℕ) → one ≤ 1 → two ≤ 1 → pair_by asked first second one two ≤ 1
pair-most true first second one two m n = omega arith
pair-most false true true one two m n = omega arith
pair-most false true false one two m n = m
pair-most false false second one two m n = n

names-most : (m : NameMachine) → of_names m ≤ 1
names-most (names.Change m) = visit-most m.visit.asked (of_walk m.visit.walk) (walk-most m.visit.walk)
names-most (names.Stat m) = own-most m.asked (of_walk m.walk) (walk-most m.walk)
names-most (names.Access m) = visit-most m.visit.asked (of_walk m.visit.walk) (walk-most m.visit.walk)
names-most (names.ReadLink m) = visit-most m.visit.asked (of_walk m.visit.walk) (walk-most m.visit.walk)
names-most (names.Remove m) = removal-most m.deed m.asked (of_walk m.walk) (walk-most m.walk)
names-most (names.Rename m) = pair-most m.pair.asked m.pair.first.asked m.pair.second.asked (of_walk m.pair.first) (of_walk m.pair.second) (walk-most m.pair.first) (walk-most m.pair.second)
names-most (names.Link m) = pair-most m.pair.asked m.pair.first.asked m.pair.second.asked (of_walk m.pair.first) (of_walk m.pair.second) (walk-most m.pair.first) (walk-most m.pair.second)
names-most (names.SymLink m) = visit-most m.visit.asked (of_walk m.visit.walk) (walk-most m.visit.walk)
names-most (names.List m) = visit-most m.visit.asked (of_walk m.visit.walk) (walk-most m.visit.walk)

single : (Old : Call → Type 0) (others : ℕ) (next : Step) (m : NameMachine) → (next ≡ nexts.Wait → ⊥) → Counts next others (machines.Name m) → AskedOf NameAsks next m
    → Asking Asks Old others next (machines.Name m)
single Old others (nexts.Send call) m goes c a =
    let more = c.0 in
    let most = names-most m in
    alone Asks Old others (nexts.Send call) (machines.Name m) (omega (arith, more, most)) a
single Old others nexts.Wait m goes c a = absurd (goes refl)
single Old others (nexts.Done answer) m goes c a = record { asked = tt; kept = tt }

-- ---- any operation

as-machine : {S : Type 0} → (E : S → Call → Type 0) (Old : Call → Type 0) (others : ℕ) (next : Step) (state : S) (to new : Machine) → ((call : Call) → E state call → Asks to call) → new ≡ to
    → Asking E Old others next state → Asking Asks Old others next new
as-machine E Old others next state to new on is a = subst (λ k. Asking Asks Old others next k) (sym is) (asking-for E Asks Old others next state to on a)

asked-machine : {S : Type 0} → (E : S → Call → Type 0) (next : Step) (state : S) (to new : Machine) → ((call : Call) → E state call → Asks to call) → new ≡ to → AskedOf E next state
    → AskedOf Asks next new
asked-machine E next state to new on is a = subst (λ k. AskedOf Asks next k) (sym is) (asked-for E Asks next state to on a)

pub asks-starts : (m : Machine) (wsize : ℕ) (turn : Turn) (old : Shelf) (next : Step) (new : Machine) (after : Shelf) → Starts wsize m turn old next new after → AskedOf Asks next new
asks-starts (machines.File m) wsize turn old next new after s =
    asked-machine FileAsks next s.machine (machines.File s.machine) new (λ call on. on) s.machine_is (file-starts-asked m wsize turn old next s.machine after s.step)
asks-starts (machines.Path m) wsize turn old next new after s =
    asked-machine PathAsks next s.machine (machines.Path s.machine) new (λ call on. on) s.machine_is
    (path-starts-asked (slot_taken m.opener old.opens) wsize m turn old next s.machine after s.step)
asks-starts (machines.Name m) wsize turn old next new after s =
    asked-machine NameAsks next s.machine (machines.Name s.machine) new (λ call on. on) s.machine_is (name-goes-asked m turn old next s.machine after s.step)

pub asks-resumes : (m : Machine) (wsize : ℕ) (turn : Turn) (old : Shelf) (next : Step) (new : Machine) (after : Shelf) → IsCounted m → (next ≡ nexts.Wait → ⊥)
    → Resumes wsize m turn old next new after → Asking Asks (Asks m) (in_flight m) next new
asks-resumes (machines.File m) wsize turn old next new after right goes s =
    as-machine FileAsks (FileAsks m) (of_file m) next s.machine (machines.File s.machine) new (λ call on. on) s.machine_is
    (file-resumes-asking m wsize turn old next s.machine after right goes s.step)
asks-resumes (machines.Path m) wsize turn old next new after right goes s =
    as-machine PathAsks (PathAsks m) (of_path m) next s.machine (machines.Path s.machine) new (λ call on. on) s.machine_is
    (path-resumes m.arrived wsize m turn old next s.machine after refl goes s.step)
asks-resumes (machines.Name m) wsize turn old next new after right goes s =
    subst (λ k. Asking Asks (NameAsks m) (of_names m) next k) (sym s.machine_is)
    (single (NameAsks m) (of_names m) next s.machine goes
    (subst (λ k. Counts next (of_names m) k) s.machine_is (counts-calls.resume wsize (machines.Name m) turn old next new after s right))
    (name-goes-asked m turn old next s.machine after s.step))

pub asks-takes : (m : Machine) (wsize : ℕ) (sent turn : Turn) (came : Result Reply Fault) (old : Shelf) (next : Step) (new : Machine) (after : Shelf) (others : ℕ) → in_flight m ≡ others + 1
    → Takes wsize m sent turn came old next new after → Asking Asks (Asks m) others next new
asks-takes (machines.File m) wsize sent turn came old next new after others one s =
    as-machine FileAsks (FileAsks m) others next s.machine (machines.File s.machine) new (λ call on. on) s.machine_is
    (file-takes-asking m wsize sent turn came old next s.machine after others one s.step)
asks-takes (machines.Path m) wsize sent turn came old next new after others one s =
    as-machine PathAsks (PathAsks m) others next s.machine (machines.Path s.machine) new (λ call on. on) s.machine_is
    (path-takes m.arrived wsize m sent turn came old next s.machine after others refl one s.step)
asks-takes (machines.Name m) wsize sent turn came old next new after others one s =
    let most = names-most m in
    subst (λ k. Asking Asks (NameAsks m) others next k) (sym s.machine_is)
    (alone Asks (NameAsks m) others next (machines.Name s.machine) (omega (arith, one, most))
    (asked-for NameAsks Asks next s.machine (machines.Name s.machine) (λ call on. on) (name-takes-asked m sent turn came old next s.machine after s.step)))

pub asks-laws : AskLaws Asks
asks-laws = record {
  starts = λ m wsize turn old next new after s. asks-starts m wsize turn old next new after s;
  resumes = λ m wsize turn old next new after right goes s. asks-resumes m wsize turn old next new after right goes s;
  takes = λ m wsize sent turn came old next new after others one s. asks-takes m wsize sent turn came old next new after others one s;
}
