-- A put before which nothing is pending makes no room: its bytes become pending at once, or it is refused.
use Rattle.core_answers.proofs.Prelude.{◌≡◌, inl, inr, ℕ, Bool, true, false, List, Contains, Option, Some, None, Result, Ok, Err, refl, sym, ap, subst, ◌∙◌, arith, Pending, FilePending, nothing, Answer, Fault, Reply, is_first, Step, Shelf, Turn, OpeningStep, PutFile, Putting, Saving, Writing, is_full, joined, by-step, Walk, WalkStep, found_by, look_again, Machine, Opener, PathMachine, Resumes, Takes}
use Rattle.write_back.specs.Files.{numbers_of, IsOldest, IsNothing}
use Rattle.world_model.specs.declared.answer.Answer.TheVariants as answers
use Rattle.world_model.specs.declared.answer.Fault.TheVariants as faults
use Rattle.world_model.specs.declared.answer.Value.TheVariants as values
use Rattle.client_shelf.specs.declared.step.Step.TheVariants as nexts
use Rattle.file_ops.specs.declared.opening.OpeningStep.TheVariants as openings
use Rattle.file_ops.specs.declared.put_file.Putting.TheVariants as putting
use Rattle.file_ops.specs.Opening as opening
use Rattle.file_ops.specs.PutFile as puts
use Rattle.file_ops.specs.Saves as saves
use Rattle.file_ops.specs.WriteFile as writes
use Rattle.name_ops.specs.declared.walk.WalkStep.TheVariants as walks
use Rattle.name_ops.specs.Walking as walking
use Rattle.op_machines.specs.declared.machine.Machine.TheVariants as machines
use Rattle.op_machines.specs.declared.opener.Opener.TheVariants as openers
use Rattle.op_machines.specs.PathSteps as paths
use Rattle.core_answers.proofs.asks.PutSteps.{put-of}

-- before its bytes are pending nothing is
abbrev pub CalmAt : Bool → Putting → Pending → Type 0
CalmAt false state back = IsNothing back
CalmAt true putting.Idle back = Unit {0}
CalmAt true putting.Opens back = IsNothing back
CalmAt true (putting.Adds file) back = ⊥
CalmAt true (putting.Saves s) back = Unit {0}

pub record Calm (machine : Machine) (back : Pending) : Type 0 where
  pub walk : Walk
  pub p : PutFile
  pub arrived : Bool
  pub is : machine ≡ machines.Path (record { walk = walk; opener = openers.Put p; arrived = arrived })
  pub calm : CalmAt arrived p.state back

-- ---- pending bytes

none-there : (n : ℕ) → Contains (numbers_of nothing) n → ⊥
none-there n c = absurd (let within = c.1 in omega (arith, within))

none-oldest : (back : Pending) (file : List ℕ) → IsNothing back → IsOldest back file → ⊥
none-oldest back file none o = none-there o.number (subst (λ (f : FilePending). Contains (numbers_of f) o.number) (none file) o.there)

nothing-as : (a b : Pending) → a ≡ b → IsNothing b → IsNothing a
nothing-as a b is none = subst IsNothing (sym is) none

state-calm : (b : Bool) (to state : Putting) (back : Pending) → state ≡ to → CalmAt b to back → CalmAt b state back
state-calm b to state back is k = subst (λ (s : Putting). CalmAt b s back) (sym is) k

-- ---- its save

follows-calm : (gives : _) (saved : Saving) (lane : ℕ) (was : Shelf) (next : Step) (state : Putting) (after : Shelf) → puts.Follows gives lane saved was next state after
    → CalmAt true state after.back
follows-calm gives saved lane was next state after e = by-step
    (λ g. puts.Follows g lane saved was next state after → CalmAt true state after.back)
    (λ call e. state-calm true (putting.Saves saved) state after.back e.1 tt)
    (λ e. state-calm true (putting.Saves saved) state after.back e.1 tt)
    (λ result e. state-calm true putting.Idle state after.back e.state_is tt)
    gives e

queues-calm : (b : Bool) (wsize lane : ℕ) (turn : Turn) (s : Saving) (was : Shelf) (next : Step) (state : Putting) (after : Shelf) → puts.QueuesIf b wsize lane turn s was next state after
    → CalmAt true state after.back
queues-calm true wsize lane turn s was next state after q = follows-calm q.gives q.saved lane q.gone next state after q.follows
queues-calm false wsize lane turn s was next state after q = state-calm true (putting.Saves s) state after.back q.state_is tt

-- ---- its write

-- with nothing pending a write has its answer at once
writes-done : (b : Bool) (wsize lane : ℕ) (file : List ℕ) (offset : ℕ) (bytes : List ℕ) (turn : Turn) (shelf : Shelf) (told : Step) (written : Writing) (mid : Shelf) → IsNothing shelf.back
    → writes.WritesIf b wsize lane file offset bytes turn shelf told written mid → (answer : Answer) × (told ≡ nexts.Done answer)
writes-done true wsize lane file offset bytes turn shelf told written mid none (inl s) = absurd (none-oldest shelf.back s.of none s.oldest)
writes-done true wsize lane file offset bytes turn shelf told written mid none (inr s) = (answers.Refused faults.Memory, s.1.gives_next)
writes-done false wsize lane file offset bytes turn shelf told written mid none (inl s) = (answers.Done values.Nothing, s.leads.gives_next)
writes-done false wsize lane file offset bytes turn shelf told written mid none (inr s) = (answers.Refused faults.Memory, s.gives_next)

answer-calm : (answer : Answer) (wsize lane : ℕ) (file : List ℕ) (turn : Turn) (was : Shelf) (next : Step) (state : Putting) (after : Shelf)
    → puts.AfterWrite (nexts.Done answer) wsize lane file turn was next state after → CalmAt true state after.back
answer-calm (answers.Done value) wsize lane file turn was next state after a =
    queues-calm (is_first lane (joined lane file was).order) wsize lane turn (saves.begun file was.seq) (joined lane file was) next state after a
answer-calm (answers.Refused fault) wsize lane file turn was next state after a = state-calm true putting.Idle state after.back a.state_is tt

adds-calm : (wsize : ℕ) (m : PutFile) (file : List ℕ) (turn : Turn) (old : Shelf) (next : Step) (new : PutFile) (after : Shelf) → IsNothing old.back
    → puts.AddsBytes wsize m file turn old next new after → CalmAt true new.state after.back
adds-calm wsize m file turn old next new after none a =
    let d = writes-done (is_full (writes.made_bytes m.write.text) (puts.put_at m.write.lane file old).back) wsize m.write.lane file m.write.offset (writes.made_bytes m.write.text) turn
    (puts.put_at m.write.lane file old) a.told a.written a.mid none a.writes in
    answer-calm d.0 wsize m.write.lane file turn a.mid next new.state after
    (subst (λ (n : Step). puts.AfterWrite n wsize m.write.lane file turn a.mid next new.state after) d.1 a.goes.follows)

-- ---- a step of the put

same-calm : (m new : PutFile) (at : Putting) (old after : Shelf) → new.state ≡ m.state → m.state ≡ at → after ≡ old → CalmAt true at old.back → CalmAt true new.state after.back
same-calm m new at old after is was same k =
    subst (λ (s : Shelf). CalmAt true new.state s.back) (sym same) (state-calm true at new.state old.back (is ∙ was) k)

resumes-calm : (at : Putting) (wsize : ℕ) (m : PutFile) (turn : Turn) (old : Shelf) (next : Step) (new : PutFile) (after : Shelf) → m.state ≡ at → CalmAt true at old.back
    → puts.Resumes at wsize m turn old next new after → CalmAt true new.state after.back
resumes-calm putting.Idle wsize m turn old next new after is k r = same-calm m new putting.Idle old after (ap (λ (p : PutFile). p.state) r.machine_is) is r.shelf_is k
resumes-calm putting.Opens wsize m turn old next new after is k r = same-calm m new putting.Opens old after (ap (λ (p : PutFile). p.state) r.1) is r.2 k
resumes-calm (putting.Adds file) wsize m turn old next new after is k r = absurd k
resumes-calm (putting.Saves s) wsize m turn old next new after is k r = queues-calm (is_first m.write.lane old.order) wsize m.write.lane turn s old next new.state after r.0

opening-calm : (step : OpeningStep) (wsize : ℕ) (m : PutFile) (turn : Turn) (old : Shelf) (next : Step) (new : PutFile) (after : Shelf) → m.state ≡ putting.Opens → IsNothing old.back
    → puts.AfterOpening step wsize m turn old next new after → CalmAt true new.state after.back
opening-calm (openings.Send call) wsize m turn old next new after is none a = same-calm m new putting.Opens old after (ap (λ (p : PutFile). p.state) a.1) is a.2 none
opening-calm openings.Wait wsize m turn old next new after is none a = same-calm m new putting.Opens old after (ap (λ (p : PutFile). p.state) a.machine_is) is a.shelf_is none
opening-calm (openings.Ended (Ok file)) wsize m turn old next new after is none a = adds-calm wsize m file turn old next new after none a
opening-calm (openings.Ended (Err fault)) wsize m turn old next new after is none a =
    state-calm true putting.Idle new.state after.back (ap (λ (p : PutFile). p.state) a.1) tt

takes-calm : (at : Putting) (wsize : ℕ) (m : PutFile) (sent turn : Turn) (came : Result Reply Fault) (old : Shelf) (next : Step) (new : PutFile) (after : Shelf) → m.state ≡ at
    → CalmAt true at old.back → puts.Takes at wsize m sent turn came old next new after → CalmAt true new.state after.back
takes-calm putting.Idle wsize m sent turn came old next new after is k t = same-calm m new putting.Idle old after (ap (λ (p : PutFile). p.state) t.machine_is) is t.shelf_is k
takes-calm putting.Opens wsize m sent turn came old next new after is k t =
    opening-calm t.step wsize (puts.led (opening.opening_again m.opening sent turn came old.repeats) m turn came t.took.attrs old.pages) turn t.took next new after is
    (nothing-as t.took.back old.back (ap (λ (s : Shelf). s.back) t.others) k) t.follows
takes-calm (putting.Adds file) wsize m sent turn came old next new after is k t = absurd k
takes-calm (putting.Saves s) wsize m sent turn came old next new after is k t = follows-calm t.0.gives t.0.saved m.write.lane t.0.took next new.state after t.0.follows

-- ---- on its way

then-calm : (wsize : ℕ) (walk : Walk) (p : PutFile) (turn : Turn) (old : Shelf) (next : Step) (new : PathMachine) (after : Shelf) → CalmAt true p.state old.back
    → paths.ThenResumes wsize (record { walk = walk; opener = openers.Put p; arrived = true }) turn old next new after → Calm (machines.Path new) after.back
then-calm wsize walk p turn old next new after k t = record {
  walk = walk;
  p = t.step.machine;
  arrived = true;
  is = ap machines.Path (t.machine_is ∙ ap (λ (o : Opener). record { walk = walk; opener = o; arrived = true }) (put-of t.opener t.step.machine t.step.machine_is));
  calm = resumes-calm p.state wsize p turn old next t.step.machine after refl k t.step.step;
}

on-calm : (step : WalkStep) (wsize : ℕ) (walk : Walk) (p : PutFile) (turn : Turn) (old : Shelf) (next : Step) (new : PathMachine) (after : Shelf) → IsNothing old.back
    → paths.Follows step wsize (record { walk = walk; opener = openers.Put p; arrived = false }) turn old next new after → Calm (machines.Path new) after.back
on-calm step wsize walk p turn old next new after none f = by step f
  where
    stays : new ≡ record { walk = walk; opener = openers.Put p; arrived = false } → after ≡ old → Calm (machines.Path new) after.back
    stays is same = record { walk = walk; p = p; arrived = false; is = ap machines.Path is; calm = nothing-as after.back old.back (ap (λ (s : Shelf). s.back) same) none }

    by : (w : WalkStep) → paths.Follows w wsize (record { walk = walk; opener = openers.Put p; arrived = false }) turn old next new after → Calm (machines.Path new) after.back
    by (walks.Send call) g = stays g.1 g.2
    by walks.Wait g = stays g.1 g.2
    by (walks.At dir) g =
        then-calm wsize walk (record p {
          opening = record { dir = dir; name = p.opening.name; mode = p.opening.mode; nocto = p.opening.nocto; moment = p.opening.moment; step = opening.first_step p.opening.mode; asked = false; put_off = 0 };
          state = putting.Opens;
        }) turn old next new after none g
    by (walks.Refused fault) g = stays g.1 g.2

-- a walk leaves what is pending
told-back : (w : Walk) (told : Result (List ℕ) Fault) (turn : Turn) (shelf : Shelf) → (walking.told_shelf w told turn shelf).back ≡ shelf.back
told-back w (Ok found) turn shelf = refl
told-back w (Err fault) turn shelf = refl

took-back : (name : Option (List ℕ)) (w : Walk) (sent turn : Turn) (came : Result Reply Fault) (old : Shelf) (next : WalkStep) (new : Walk) (after : Shelf)
    → walking.Takes name w sent turn came old next new after → after.back ≡ old.back
took-back None w sent turn came old next new after t = ap (λ (s : Shelf). s.back) t.shelf_is
took-back (Some name) w sent turn came old next new after t =
    ap (λ (s : Shelf). s.back) t.shelf_is ∙ by (look_again sent turn came old) ∙ ap (λ (s : Shelf). s.back) t.hears.others
  where
    by : (b : Bool) → (walking.followed_shelf b w (found_by came) turn t.heard).back ≡ t.heard.back
    by true = refl
    by false = told-back w (found_by came) turn t.heard

path-resumes : (b : Bool) (wsize : ℕ) (walk : Walk) (p : PutFile) (turn : Turn) (old : Shelf) (next : Step) (new : PathMachine) (after : Shelf) → CalmAt b p.state old.back
    → paths.PathResumes b wsize (record { walk = walk; opener = openers.Put p; arrived = b }) turn old next new after → Calm (machines.Path new) after.back
path-resumes true wsize walk p turn old next new after k r = then-calm wsize walk p turn old next new after k r
path-resumes false wsize walk p turn old next new after k r =
    on-calm (walking.go_next walk turn old) wsize (walking.go_after walk turn old) p turn (walking.go_shelf walk turn old) next new after k r

path-takes : (b : Bool) (wsize : ℕ) (walk : Walk) (p : PutFile) (sent turn : Turn) (came : Result Reply Fault) (old : Shelf) (next : Step) (new : PathMachine) (after : Shelf)
    → CalmAt b p.state old.back → paths.PathTakes b wsize (record { walk = walk; opener = openers.Put p; arrived = b }) sent turn came old next new after → Calm (machines.Path new) after.back
path-takes true wsize walk p sent turn came old next new after k t = record {
  walk = walk;
  p = t.step.machine;
  arrived = true;
  is = ap machines.Path (t.machine_is ∙ ap (λ (o : Opener). record { walk = walk; opener = o; arrived = true }) (put-of t.opener t.step.machine t.step.machine_is));
  calm = takes-calm p.state wsize p sent turn came old next t.step.machine after refl k t.step.step;
}
path-takes false wsize walk p sent turn came old next new after k t =
    on-calm t.step wsize t.walked.walk p turn t.heard next new after
    (nothing-as t.heard.back old.back (took-back (walking.waiting_name walk) walk sent turn came old t.step t.walked.walk t.heard t.takes) k)
    (subst (λ (m : PathMachine). paths.Follows t.step wsize m turn t.heard next new after) t.walked_is t.follows)

-- ---- any machine that is calm

calm-as : (to new : Machine) (back : Pending) → new ≡ to → Calm to back → Calm new back
calm-as to new back is k = subst (λ (m : Machine). Calm m back) (sym is) k

pub calm-resumes : (machine : Machine) (wsize : ℕ) (turn : Turn) (old : Shelf) (next : Step) (new : Machine) (after : Shelf) → Calm machine old.back
    → Resumes wsize machine turn old next new after → Calm new after.back
calm-resumes machine wsize turn old next new after k r =
    let g = subst (λ (n : Machine). Resumes wsize n turn old next new after) k.is r in
    calm-as (machines.Path g.machine) new after.back g.machine_is (path-resumes k.arrived wsize k.walk k.p turn old next g.machine after k.calm g.step)

pub calm-takes : (machine : Machine) (wsize : ℕ) (sent turn : Turn) (came : Result Reply Fault) (old : Shelf) (next : Step) (new : Machine) (after : Shelf) → Calm machine old.back
    → Takes wsize machine sent turn came old next new after → Calm new after.back
calm-takes machine wsize sent turn came old next new after k t =
    let g = subst (λ (n : Machine). Takes wsize n sent turn came old next new after) k.is t in
    calm-as (machines.Path g.machine) new after.back g.machine_is (path-takes k.arrived wsize k.walk k.p sent turn came old next g.machine after k.calm g.step)

-- it begins on its way
pub calm-starts : (wsize : ℕ) (walk : Walk) (p : PutFile) (turn : Turn) (old : Shelf) (next : Step) (new : PathMachine) (after : Shelf) → IsNothing old.back
    → paths.PathResumes false wsize (record { walk = walk; opener = openers.Put p; arrived = false }) turn old next new after → Calm (machines.Path new) after.back
calm-starts wsize walk p turn old next new after none r = path-resumes false wsize walk p turn old next new after none r
