-- A put ends well only by the reply to a call of its own save.
use Rattle.core_session.proofs.Prelude.{◌≡◌, ◌-◌, ℕ, Bool, true, false, List, length, Option, Some, None, Result, Ok, Err, slice_get, refl, sym, ap, subst, ◌∙◌, ◌≤◌, arith, if◌then◌else◌, Answer, Fault, Value, Call, Reply, is_first, LaneFile, Pending, Step, Shelf, Turn, OpeningStep, PutFile, Putting, Saving, joined, closed_answer, refusal_of, by-step, WalkStep, FileMachine, Machine, Opener, PathMachine, file_of, slot_taken, begun_at, Starts, Resumes, Takes, Lane, State, Busy, Over, IsRefused, Stirs, StartsLane, TakesAt, View, turn_at, at-set, at-push, EndsSo, takes-not}
use Rattle.op_machines.specs.Openers.{placed}
use Rattle.core_facts.proofs.SaveCommits.{WellDone}
use Rattle.core_answers.proofs.paths.Endings.{ends-map, ends-any, goes-not}
use Rattle.world_model.specs.declared.answer.Answer.TheVariants as answers
use Rattle.client_shelf.specs.declared.step.Step.TheVariants as nexts
use Rattle.file_ops.specs.declared.opening.OpeningStep.TheVariants as openings
use Rattle.file_ops.specs.declared.put_file.Putting.TheVariants as putting
use Rattle.file_ops.specs.OpenFile as opens
use Rattle.file_ops.specs.Opening as opening
use Rattle.file_ops.specs.PutFile as puts
use Rattle.file_ops.specs.Saves as saves
use Rattle.file_ops.specs.Syncs as syncs
use Rattle.name_ops.specs.declared.walk.WalkStep.TheVariants as walks
use Rattle.name_ops.specs.Walking as walking
use Rattle.op_machines.specs.declared.file_machine.FileMachine.TheVariants as files
use Rattle.op_machines.specs.declared.machine.Machine.TheVariants as machines
use Rattle.op_machines.specs.declared.opener.Opener.TheVariants as openers
use Rattle.op_machines.specs.FileSteps as steps
use Rattle.op_machines.specs.PathSteps as paths
use Rattle.core_session.proofs.drops.LaneIs.{state-is, answer-is, busy-over}
use Rattle.core_session.proofs.drops.SaveFiles.{IsSave, goes-save, takes-save}
use Rattle.core_session.proofs.drops.Leading.{Settles, Leading, settles, unmade, stirs-led, takes-led, starts-led}
use Rattle.core_session.proofs.syncs.AllJobs.{PathHas, JobHas}
use Rattle.core_session.proofs.syncs.Jobs.{Fact, Job, PutHas, FileHas}
use Rattle.core_session.proofs.syncs.Fates.{file_kind, job_kind, start-kind, resume-kind, take-kind}

-- ---- a put's own save, which comes once its bytes are there

abbrev pub put_own : Putting → Option Saving
put_own putting.Idle = None
put_own putting.Opens = None
put_own (putting.Adds file) = None
put_own (putting.Saves s) = Some s

abbrev pub file_own : FileMachine → Option Saving
file_own (files.Open m) = None
file_own (files.Read m) = None
file_own (files.Write m) = None
file_own (files.Sync m) = None
file_own (files.Close m) = None
file_own (files.Truncate m) = None
file_own (files.Put m) = put_own m.state

abbrev pub path_own : Bool → Opener → Option Saving
path_own true opener = file_own (file_of opener)
path_own false opener = None

abbrev pub own_save : Machine → Option Saving
own_save (machines.File m) = file_own m
own_save (machines.Path m) = path_own m.arrived m.opener
own_save (machines.Name m) = None

-- it is at it
abbrev pub AtSave : Option Saving → Type 0
AtSave own = (z : Saving) × (own ≡ Some z)

one-own : (a b : Saving) → Some a ≡ Some b → a ≡ b
one-own a b e = cc

-- what is said of it
put-own-has : (P : Fact) (K KA : Saving → Fact) (A : List ℕ → ℕ → List ℕ → Type 0) (m : PutFile) (at : Putting) (z : Saving) → put_own at ≡ Some z → (q : ℕ) (b : Pending) (o : List LaneFile)
    → PutHas P K KA A m at q b o → KA z q b o
put-own-has P K KA A m putting.Idle z is q b o h = absurd (let no_way : None ≡ Some z = is in cc)
put-own-has P K KA A m putting.Opens z is q b o h = absurd (let no_way : None ≡ Some z = is in cc)
put-own-has P K KA A m (putting.Adds file) z is q b o h = absurd (let no_way : None ≡ Some z = is in cc)
put-own-has P K KA A m (putting.Saves w) z is q b o h = subst (λ (y : Saving). KA y q b o) (one-own w z is) h

file-own-has : (j : Job) (m : FileMachine) (z : Saving) → file_own m ≡ Some z → (q : ℕ) (b : Pending) (o : List LaneFile) → FileHas j m q b o → j.KA z q b o
file-own-has j (files.Open m) z is q b o h = absurd (let no_way : None ≡ Some z = is in cc)
file-own-has j (files.Read m) z is q b o h = absurd (let no_way : None ≡ Some z = is in cc)
file-own-has j (files.Write m) z is q b o h = absurd (let no_way : None ≡ Some z = is in cc)
file-own-has j (files.Sync m) z is q b o h = absurd (let no_way : None ≡ Some z = is in cc)
file-own-has j (files.Close m) z is q b o h = absurd (let no_way : None ≡ Some z = is in cc)
file-own-has j (files.Truncate m) z is q b o h = absurd (let no_way : None ≡ Some z = is in cc)
file-own-has j (files.Put m) z is q b o h = put-own-has j.P j.K j.KA j.A m m.state z is q b o h

path-own-has : (j : Job) (there : Bool) (m : Opener) (z : Saving) → path_own there m ≡ Some z → (q : ℕ) (b : Pending) (o : List LaneFile) → PathHas j there m q b o → j.KA z q b o
path-own-has j true m z is q b o h = file-own-has j (file_of m) z is q b o h
path-own-has j false m z is q b o h = absurd (let no_way : None ≡ Some z = is in cc)

pub own-has : (j : Job) (m : Machine) (z : Saving) → own_save m ≡ Some z → (q : ℕ) (b : Pending) (o : List LaneFile) → JobHas j m q b o → j.KA z q b o
own-has j (machines.File m) z is q b o h = file-own-has j m z is q b o h
own-has j (machines.Path m) z is q b o h = path-own-has j m.arrived m.opener z is q b o h
own-has j (machines.Name m) z is q b o h = absurd (let no_way : None ≡ Some z = is in cc)

-- ---- the steps of a put

ends-as : (C : Type 0) (to next : Step) → next ≡ to → EndsSo C to → EndsSo C next
ends-as C to next is e = subst (λ (n : Step). EndsSo C n) (sym is) e

put-ends : (C : Type 0) (result : Result (Unit {0}) Fault) (lane : ℕ) (file : List ℕ) (was : Shelf) (next : Step) (state : Putting) (new : Shelf)
    → EndsSo C (nexts.Done (syncs.answer_of result)) → puts.Ends lane file (refusal_of result) was next state new → EndsSo C next
put-ends C (Ok done) lane file was next state new e f = subst (λ (n : Step). EndsSo C n) (sym f.next_is) e
put-ends C (Err fault) lane file was next state new e f = subst (λ (n : Step). EndsSo C n) (sym f.next_is) tt

put-follows : (C : Type 0) (gives : _) (lane : ℕ) (saved : Saving) (was : Shelf) (next : Step) (state : Putting) (new : Shelf) → EndsSo C (syncs.sync_next gives)
    → puts.Follows gives lane saved was next state new → EndsSo C next
put-follows C gives lane saved was next state new ends f = by-step
    (λ g. EndsSo C (syncs.sync_next g) → puts.Follows g lane saved was next state new → EndsSo C next)
    (λ call e l. ends-as C (nexts.Send call) next l.0 tt)
    (λ e l. ends-as C nexts.Wait next l.0 tt)
    (λ result e l. put-ends C result lane saved.file was next state new e l) gives ends f

put-queues : (b : Bool) (wsize lane : ℕ) (turn : Turn) (s : Saving) (was : Shelf) (next : Step) (state : Putting) (new : Shelf) → puts.QueuesIf b wsize lane turn s was next state new → EndsSo ⊥ next
put-queues true wsize lane turn s was next state new q =
    put-follows ⊥ q.gives lane q.saved q.gone next state new (goes-not wsize turn.xid turn.room s was.back q.gives q.saved q.gone.back q.goes) q.follows
put-queues false wsize lane turn s was next state new q = ends-as ⊥ nexts.Wait next q.next_is tt

after-write : (told : Step) (wsize lane : ℕ) (file : List ℕ) (turn : Turn) (was : Shelf) (next : Step) (state : Putting) (new : Shelf)
    → puts.AfterWrite told wsize lane file turn was next state new → EndsSo ⊥ next
after-write (nexts.Send call) wsize lane file turn was next state new a = ends-as ⊥ (nexts.Send call) next a.0 tt
after-write nexts.Wait wsize lane file turn was next state new a = ends-as ⊥ nexts.Wait next a.0 tt
after-write (nexts.Done (answers.Done value)) wsize lane file turn was next state new a =
    put-queues (is_first lane (joined lane file was).order) wsize lane turn (saves.begun file was.seq) (joined lane file was) next state new a
after-write (nexts.Done (answers.Refused fault)) wsize lane file turn was next state new a = subst (λ (n : Step). EndsSo ⊥ n) (sym a.next_is) tt

goes-opening : (b : Bool) (call : Call) → EndsSo ⊥ (opens.goes_as (if b then openings.Wait else openings.Send call))
goes-opening true call = tt
goes-opening false call = tt

put-resumes : (at : Putting) (wsize : ℕ) (m : PutFile) (turn : Turn) (was : Shelf) (next : Step) (new : PutFile) (after : Shelf) → puts.Resumes at wsize m turn was next new after → EndsSo ⊥ next
put-resumes putting.Idle wsize m turn was next new after r = ends-as ⊥ nexts.Wait next r.next_is tt
put-resumes putting.Opens wsize m turn was next new after r =
    ends-as ⊥ (opens.goes_as (opening.go_next m.opening turn)) next r.0 (goes-opening (opening.waits m.opening turn) (opening.call_of m.opening m.opening.step))
put-resumes (putting.Adds file) wsize m turn was next new after r = after-write r.told wsize m.write.lane file turn r.mid next new.state after r.goes.follows
put-resumes (putting.Saves saving) wsize m turn was next new after r = put-queues (is_first m.write.lane was.order) wsize m.write.lane turn saving was next new.state after r.0

after-opening : (step : OpeningStep) (wsize : ℕ) (m : PutFile) (turn : Turn) (was : Shelf) (next : Step) (new : PutFile) (after : Shelf) → puts.AfterOpening step wsize m turn was next new after
    → EndsSo ⊥ next
after-opening (openings.Send call) wsize m turn was next new after a = ends-as ⊥ (nexts.Send call) next a.0 tt
after-opening openings.Wait wsize m turn was next new after a = ends-as ⊥ nexts.Wait next a.next_is tt
after-opening (openings.Ended (Ok file)) wsize m turn was next new after a = after-write a.told wsize m.write.lane file turn a.mid next new.state after a.goes.follows
after-opening (openings.Ended (Err fault)) wsize m turn was next new after a = ends-as ⊥ (nexts.Done (answers.Refused fault)) next a.0 tt

none-ends : (C : Type 0) (next : Step) → EndsSo ⊥ next → EndsSo C next
none-ends C next e = ends-map ⊥ C (λ no_way. absurd no_way) next e

-- by a reply, or where its call came to nothing
put-takes : (at : Putting) (wsize : ℕ) (m : PutFile) (sent turn : Turn) (came : Result Reply Fault) (was : Shelf) (next : Step) (new : PutFile) (after : Shelf)
    → puts.Takes at wsize m sent turn came was next new after → EndsSo (AtSave (put_own at)) next
put-takes putting.Idle wsize m sent turn came was next new after t = ends-as (AtSave None) nexts.Wait next t.next_is tt
put-takes putting.Opens wsize m sent turn came was next new after t =
    none-ends (AtSave None) next
    (after-opening t.step wsize (puts.led (opening.opening_again m.opening sent turn came was.repeats) m turn came t.took.attrs was.pages) turn t.took next new after t.follows)
put-takes (putting.Adds file) wsize m sent turn came was next new after t = none-ends (AtSave None) next (after-write t.told wsize m.write.lane file turn t.mid next new.state after t.goes.follows)
put-takes (putting.Saves saving) wsize m sent turn came was next new after t =
    put-follows (AtSave (Some saving)) t.0.gives m.write.lane t.0.saved t.0.took next new.state after (ends-any (AtSave (Some saving)) (saving, refl) (syncs.sync_next t.0.gives)) t.0.follows

put-unmade : (at : Putting) (wsize : ℕ) (m : PutFile) (sent turn : Turn) (fault : Fault) (was : Shelf) (next : Step) (new : PutFile) (after : Shelf)
    → puts.Takes at wsize m sent turn (Err fault) was next new after → EndsSo ⊥ next
put-unmade putting.Idle wsize m sent turn fault was next new after t = ends-as ⊥ nexts.Wait next t.next_is tt
put-unmade putting.Opens wsize m sent turn fault was next new after t =
    after-opening t.step wsize (puts.led (opening.opening_again m.opening sent turn (Err fault) was.repeats) m turn (Err fault) t.took.attrs was.pages) turn t.took next new after t.follows
put-unmade (putting.Adds file) wsize m sent turn fault was next new after t = after-write t.told wsize m.write.lane file turn t.mid next new.state after t.goes.follows
put-unmade (putting.Saves saving) wsize m sent turn fault was next new after t =
    put-follows ⊥ t.0.gives m.write.lane t.0.saved t.0.took next new.state after
    (takes-not wsize sent turn fault was.repeats saving was.back t.0.gives t.0.saved t.0.took.back t.0.took.repeats t.0.takes) t.0.follows

-- ---- of any operation that is a put

module _ (wsize : ℕ) (turn : Turn) where
  file-resumes : (m : FileMachine) → file_kind m ≡ 3 → (was : Shelf) (next : Step) (new : FileMachine) (after : Shelf) → steps.Resumes wsize m turn was next new after → EndsSo ⊥ next
  file-resumes (files.Open m) is was next new after s = absurd (omega (arith, is))
  file-resumes (files.Read m) is was next new after s = absurd (omega (arith, is))
  file-resumes (files.Write m) is was next new after s = absurd (omega (arith, is))
  file-resumes (files.Sync m) is was next new after s = absurd (omega (arith, is))
  file-resumes (files.Close m) is was next new after s = absurd (omega (arith, is))
  file-resumes (files.Truncate m) is was next new after s = absurd (omega (arith, is))
  file-resumes (files.Put m) is was next new after s = put-resumes m.state wsize m turn was next s.machine after s.step

  file-starts : (m : FileMachine) → file_kind m ≡ 3 → (was : Shelf) (next : Step) (new : FileMachine) (after : Shelf) → steps.Starts wsize m turn was next new after → EndsSo ⊥ next
  file-starts (files.Open m) is was next new after s = absurd (omega (arith, is))
  file-starts (files.Read m) is was next new after s = absurd (omega (arith, is))
  file-starts (files.Write m) is was next new after s = absurd (omega (arith, is))
  file-starts (files.Sync m) is was next new after s = absurd (omega (arith, is))
  file-starts (files.Close m) is was next new after s = absurd (omega (arith, is))
  file-starts (files.Truncate m) is was next new after s = absurd (omega (arith, is))
  file-starts (files.Put m) is was next new after s =
      ends-as ⊥ (opens.goes_as (opening.go_next (puts.opening_at turn m) turn)) next s.next_is
      (goes-opening (opening.waits (puts.opening_at turn m) turn) (opening.call_of (puts.opening_at turn m) (puts.opening_at turn m).step))

  then-resumes : (m : PathMachine) → file_kind (file_of m.opener) ≡ 3 → (was : Shelf) (next : Step) (new : PathMachine) (after : Shelf) → paths.ThenResumes wsize m turn was next new after → EndsSo ⊥ next
  then-resumes m is was next new after t = file-resumes (file_of m.opener) is was next (file_of t.opener) after t.step

  placed-put : (dir : List ℕ) (o : Opener) → file_kind (file_of o) ≡ 3 → file_kind (file_of (placed dir o)) ≡ 3
  placed-put dir (openers.Open m) is = absurd (omega (arith, is))
  placed-put dir (openers.Put m) is = refl

  begun-put : (moment : ℕ) (o : Opener) → file_kind (file_of o) ≡ 3 → file_kind (file_of (begun_at moment o)) ≡ 3
  begun-put moment (openers.Open m) is = absurd (omega (arith, is))
  begun-put moment (openers.Put m) is = refl

  follows-path : (step : WalkStep) (m : PathMachine) → file_kind (file_of m.opener) ≡ 3 → (was : Shelf) (next : Step) (new : PathMachine) (after : Shelf) → paths.Follows step wsize m turn was next new after
      → EndsSo ⊥ next
  follows-path (walks.Send call) m is was next new after f = ends-as ⊥ (nexts.Send call) next f.0 tt
  follows-path walks.Wait m is was next new after f = ends-as ⊥ nexts.Wait next f.0 tt
  follows-path (walks.At dir) m is was next new after f = then-resumes (record m { opener = placed dir m.opener; arrived = true }) (placed-put dir m.opener is) was next new after f
  follows-path (walks.Refused fault) m is was next new after f = ends-as ⊥ (nexts.Done (answers.Refused fault)) next f.0 tt

  path-resumes : (b : Bool) (m : PathMachine) → file_kind (file_of m.opener) ≡ 3 → (was : Shelf) (next : Step) (new : PathMachine) (after : Shelf) → paths.PathResumes b wsize m turn was next new after
      → EndsSo ⊥ next
  path-resumes true m is was next new after r = then-resumes m is was next new after r
  path-resumes false m is was next new after r =
      follows-path (walking.go_next m.walk turn was) (record m { walk = walking.go_after m.walk turn was }) is (walking.go_shelf m.walk turn was) next new after r

  path-starts : (taken : Bool) (m : PathMachine) → file_kind (file_of m.opener) ≡ 3 → (was : Shelf) (next : Step) (new : PathMachine) (after : Shelf) → paths.StartsIf taken wsize m turn was next new after
      → EndsSo ⊥ next
  path-starts true m is was next new after s = subst (λ (n : Step). EndsSo ⊥ n) (sym s.0) tt
  path-starts false m is was next new after s =
      path-resumes m.arrived (record m { opener = begun_at (turn.moment - 1) m.opener }) (begun-put (turn.moment - 1) m.opener is) was next new after s

  pub starts-end : (m : Machine) → job_kind m ≡ 3 → (was : Shelf) (next : Step) (new : Machine) (after : Shelf) → Starts wsize m turn was next new after → EndsSo ⊥ next
  starts-end (machines.File m) is was next new after s = file-starts m is was next s.machine after s.step
  starts-end (machines.Path m) is was next new after s = path-starts (slot_taken m.opener was.opens) m is was next s.machine after s.step
  starts-end (machines.Name m) is was next new after s = absurd (omega (arith, is))

  pub resumes-end : (m : Machine) → job_kind m ≡ 3 → (was : Shelf) (next : Step) (new : Machine) (after : Shelf) → Resumes wsize m turn was next new after → EndsSo ⊥ next
  resumes-end (machines.File m) is was next new after s = file-resumes m is was next s.machine after s.step
  resumes-end (machines.Path m) is was next new after s = path-resumes m.arrived m is was next s.machine after s.step
  resumes-end (machines.Name m) is was next new after s = absurd (omega (arith, is))

  module _ (sent : Turn) (came : Result Reply Fault) where
    file-takes : (m : FileMachine) → file_kind m ≡ 3 → (was : Shelf) (next : Step) (new : FileMachine) (after : Shelf) → steps.Takes wsize m sent turn came was next new after
        → EndsSo (AtSave (file_own m)) next
    file-takes (files.Open m) is was next new after s = absurd (omega (arith, is))
    file-takes (files.Read m) is was next new after s = absurd (omega (arith, is))
    file-takes (files.Write m) is was next new after s = absurd (omega (arith, is))
    file-takes (files.Sync m) is was next new after s = absurd (omega (arith, is))
    file-takes (files.Close m) is was next new after s = absurd (omega (arith, is))
    file-takes (files.Truncate m) is was next new after s = absurd (omega (arith, is))
    file-takes (files.Put m) is was next new after s = put-takes m.state wsize m sent turn came was next s.machine after s.step

    path-takes : (b : Bool) (m : PathMachine) → file_kind (file_of m.opener) ≡ 3 → (was : Shelf) (next : Step) (new : PathMachine) (after : Shelf) → paths.PathTakes b wsize m sent turn came was next new after
        → EndsSo (AtSave (path_own b m.opener)) next
    path-takes true m is was next new after t = file-takes (file_of m.opener) is was next (file_of t.opener) after t.step
    path-takes false m is was next new after t =
        none-ends (AtSave None) next
        (follows-path t.step t.walked (subst (λ (z : PathMachine). file_kind (file_of z.opener) ≡ 3) (sym t.walked_is) is) t.heard next new after t.follows)

    pub takes-end : (m : Machine) → job_kind m ≡ 3 → (was : Shelf) (next : Step) (new : Machine) (after : Shelf) → Takes wsize m sent turn came was next new after → EndsSo (AtSave (own_save m)) next
    takes-end (machines.File m) is was next new after s = file-takes m is was next s.machine after s.step
    takes-end (machines.Path m) is was next new after s = path-takes m.arrived m is was next s.machine after s.step
    takes-end (machines.Name m) is was next new after s = absurd (omega (arith, is))

  module _ (sent : Turn) (fault : Fault) where
    file-unmade : (m : FileMachine) → file_kind m ≡ 3 → (was : Shelf) (next : Step) (new : FileMachine) (after : Shelf) → steps.Takes wsize m sent turn (Err fault) was next new after → EndsSo ⊥ next
    file-unmade (files.Open m) is was next new after s = absurd (omega (arith, is))
    file-unmade (files.Read m) is was next new after s = absurd (omega (arith, is))
    file-unmade (files.Write m) is was next new after s = absurd (omega (arith, is))
    file-unmade (files.Sync m) is was next new after s = absurd (omega (arith, is))
    file-unmade (files.Close m) is was next new after s = absurd (omega (arith, is))
    file-unmade (files.Truncate m) is was next new after s = absurd (omega (arith, is))
    file-unmade (files.Put m) is was next new after s = put-unmade m.state wsize m sent turn fault was next s.machine after s.step

    path-unmade : (b : Bool) (m : PathMachine) → file_kind (file_of m.opener) ≡ 3 → (was : Shelf) (next : Step) (new : PathMachine) (after : Shelf)
        → paths.PathTakes b wsize m sent turn (Err fault) was next new after → EndsSo ⊥ next
    path-unmade true m is was next new after t = file-unmade (file_of m.opener) is was next (file_of t.opener) after t.step
    path-unmade false m is was next new after t =
        follows-path t.step t.walked (subst (λ (z : PathMachine). file_kind (file_of z.opener) ≡ 3) (sym t.walked_is) is) t.heard next new after t.follows

    pub unmade-end : (m : Machine) → job_kind m ≡ 3 → (was : Shelf) (next : Step) (new : Machine) (after : Shelf) → Takes wsize m sent turn (Err fault) was next new after → EndsSo ⊥ next
    unmade-end (machines.File m) is was next new after s = file-unmade m is was next s.machine after s.step
    unmade-end (machines.Path m) is was next new after s = path-unmade m.arrived m is was next s.machine after s.step
    unmade-end (machines.Name m) is was next new after s = absurd (omega (arith, is))

-- ---- the state of its lane

refused-done : (fault : Fault) (value : Value) → answers.Refused fault ≡ answers.Done value → ⊥
refused-done fault value e = absurd cc

module _ (C : Type 0) (wsize : ℕ) (S : Step → Machine → Shelf → Type 0) (state : State) (after : Shelf) (value : Value) (is : state ≡ Over (answers.Done value)) where
  well-so : (D : Type 0) (answer : Answer) → answer ≡ answers.Done value → WellDone D answer → D
  well-so D (answers.Done other) same e = e
  well-so D (answers.Refused fault) same e = absurd (refused-done fault value same)

  settled-so : (next : Step) (new : Machine) → EndsSo C next → Settles next new state → C
  settled-so (nexts.Send call) new e s = absurd (busy-over new (answers.Done value) (sym s ∙ is))
  settled-so nexts.Wait new e s = absurd (busy-over new (answers.Done value) (sym s ∙ is))
  settled-so (nexts.Done answer) new e s = well-so C answer (answer-is answer (answers.Done value) (sym s ∙ is)) e

  refused-so : (next : Step) (new : Machine) → EndsSo ⊥ next → IsRefused new next state → ⊥
  refused-so (nexts.Send call) new e s = s
  refused-so nexts.Wait new e s = busy-over new (answers.Done value) (sym s ∙ is)
  refused-so (nexts.Done answer) new e s = well-so ⊥ answer (answer-is answer (answers.Done value) (sym s ∙ is)) e

  led-so : ((next : Step) (new : Machine) (shelf : Shelf) → S next new shelf → EndsSo C next) → ((next : Step) (new : Machine) (shelf : Shelf) → S next new shelf → job_kind new ≡ 3) → Leading wsize S state after → C
  led-so ends kinds (settles next new s st) = settled-so next new (ends next new after s) st
  led-so ends kinds (unmade call mid between sent turn fault next new s takes refused) =
      absurd (refused-so next new (unmade-end wsize turn sent fault mid (kinds (nexts.Send call) mid between s) between next new after takes) refused)

-- not by a step of its own
pub stirs-not : (old new : View) (at : ℕ) (t : Stirs old at new) → job_kind t.machine ≡ 3 → (number : ℕ) (state : State) → slice_get new.lanes at ≡ Some (record { number = number; state = state })
    → (value : Value) → state ≡ Over (answers.Done value) → ⊥
stirs-not old new at t kind number state here value is =
    let l = stirs-led old new at t in
    let same : l.state ≡ state =
    state-is l.state state t.number number
    (sym (at-set old.lanes at (record { number = t.number; state = Busy t.machine }) (record { number = t.number; state = l.state }) t.there) ∙ ap (λ (ls : List Lane). slice_get ls at) (sym l.lanes_are) ∙ here) in
    led-so ⊥ old.wsize (λ next machine shelf. Resumes old.wsize t.machine (turn_at old) old.shelf next machine shelf) l.state new.shelf value (same ∙ is)
    (λ next machine shelf s. resumes-end old.wsize (turn_at old) t.machine kind old.shelf next machine shelf s)
    (λ next machine shelf s. resume-kind old.wsize (turn_at old) t.machine old.shelf next machine shelf s ∙ kind) l.leading

pub starts-not : (old new : View) (lane : ℕ) (machine : Machine) → StartsLane old lane machine new → job_kind machine ≡ 3 → (number : ℕ) (state : State)
    → slice_get new.lanes (length old.lanes) ≡ Some (record { number = number; state = state }) → (value : Value) → state ≡ Over (answers.Done value) → ⊥
starts-not old new lane machine t kind number state here value is =
    let l = starts-led old new lane machine t in
    let same : l.state ≡ state =
    state-is l.state state lane number (sym (at-push old.lanes (record { number = lane; state = l.state })) ∙ ap (λ (ls : List Lane). slice_get ls (length old.lanes)) (sym l.lanes_are) ∙ here) in
    led-so ⊥ old.wsize (λ next made shelf. Starts old.wsize machine (turn_at old) old.shelf next made shelf) l.state new.shelf value (same ∙ is)
    (λ next made shelf s. starts-end old.wsize (turn_at old) machine kind old.shelf next made shelf s)
    (λ next made shelf s. start-kind old.wsize (turn_at old) machine old.shelf next made shelf s ∙ kind) l.leading

-- by a reply, at its own save
pub takes-at-save : (old new : View) (at : ℕ) (sent : Turn) (came : Result Reply Fault) (t : TakesAt old at sent came new) → job_kind t.machine ≡ 3 → (number : ℕ) (state : State)
    → slice_get new.lanes at ≡ Some (record { number = number; state = state }) → (value : Value) → state ≡ Over (answers.Done value) → AtSave (own_save t.machine)
takes-at-save old new at sent came t kind number state here value is =
    let l = takes-led old new at sent came t in
    let same : l.state ≡ state =
    state-is l.state state t.number number
    (sym (at-set old.lanes at (record { number = t.number; state = Busy t.machine }) (record { number = t.number; state = l.state }) t.there) ∙ ap (λ (ls : List Lane). slice_get ls at) (sym l.lanes_are) ∙ here) in
    led-so (AtSave (own_save t.machine)) old.wsize (λ next machine shelf. Takes old.wsize t.machine sent (turn_at old) came old.shelf next machine shelf) l.state new.shelf value (same ∙ is)
    (λ next machine shelf s. takes-end old.wsize (turn_at old) sent came t.machine kind old.shelf next machine shelf s)
    (λ next machine shelf s. take-kind old.wsize (turn_at old) sent came t.machine old.shelf next machine shelf s ∙ kind) l.leading

pub none-at : {X : Type 0} → AtSave None → X
none-at a = absurd (let no_way : None ≡ Some a.0 = a.1 in cc)

-- ---- at its own save it stays until it ends

-- its own save, of which Q holds
abbrev pub OwnAt : (Saving → Type 0) → Option Saving → Type 0
OwnAt Q own = (z : Saving) × (own ≡ Some z) × Q z

pub at-save : (Q : Saving → Type 0) (own : Option Saving) → OwnAt Q own → AtSave own
at-save Q own a = (a.0, a.1)

-- it is of this file, with all numbers up to this one
abbrev pub Names : List ℕ → ℕ → Saving → Type 0
Names f n z = (z.file ≡ f) × (n ≤ z.upto)

pub names-keep : (f : List ℕ) (n : ℕ) (a b : Saving) → IsSave a.file a.upto b → Names f n a → Names f n b
names-keep f n a b is k = (is.file_is ∙ k.0, (let low = k.1 in let same = is.upto_is in omega (arith, low, same)))

none-own : (Q : Saving → Type 0) → {X : Type 0} → OwnAt Q None → X
none-own Q a = absurd (let no_way : None ≡ Some a.0 = a.1 in cc)

busy-one : (a b : Machine) → Busy a ≡ Busy b → a ≡ b
busy-one a b e = cc

module _ (Q : Saving → Type 0) (keeps : (a b : Saving) → IsSave a.file a.upto b → Q a → Q b) where
  abbrev pub StaysAt : Step → Option Saving → Type 0
  StaysAt (nexts.Send call) own = OwnAt Q own
  StaysAt nexts.Wait own = OwnAt Q own
  StaysAt (nexts.Done answer) own = Unit {0}

  stays-as : (to next : Step) (at state : Putting) → next ≡ to → state ≡ at → StaysAt to (put_own at) → StaysAt next (put_own state)
  stays-as to next at state is same s = subst (λ (n : Step). StaysAt n (put_own state)) (sym is) (subst (λ (p : Putting). StaysAt to (put_own p)) (sym same) s)

  ended-stays : (next : Step) (answer : Answer) (own : Option Saving) → next ≡ nexts.Done answer → StaysAt next own
  ended-stays next answer own is = subst (λ (n : Step). StaysAt n own) (sym is) tt

  follows-stays : (gives : _) (lane : ℕ) (saved : Saving) (was : Shelf) (next : Step) (state : Putting) (new : Shelf) → Q saved → puts.Follows gives lane saved was next state new
      → StaysAt next (put_own state)
  follows-stays gives lane saved was next state new own f = by-step
      (λ g. puts.Follows g lane saved was next state new → StaysAt next (put_own state))
      (λ call l. stays-as (nexts.Send call) next (putting.Saves saved) state l.0 l.1 (saved, refl, own))
      (λ l. stays-as nexts.Wait next (putting.Saves saved) state l.0 l.1 (saved, refl, own))
      (λ result l. ended-stays next (closed_answer (refusal_of result)) (put_own state) l.next_is) gives f

  queues-stays : (b : Bool) (wsize lane : ℕ) (turn : Turn) (s : Saving) (was : Shelf) (next : Step) (state : Putting) (new : Shelf) → Q s → puts.QueuesIf b wsize lane turn s was next state new
      → StaysAt next (put_own state)
  queues-stays true wsize lane turn s was next state new own q =
      follows-stays q.gives lane q.saved q.gone next state new
      (keeps s q.saved (goes-save s.file s.upto wsize turn.xid turn.room false s was.back q.gives q.saved q.gone.back (record { file_is = refl; upto_is = refl }) q.goes) own) q.follows
  queues-stays false wsize lane turn s was next state new own q = stays-as nexts.Wait next (putting.Saves s) state q.next_is q.state_is (s, refl, own)

  its-own : (s : Saving) → OwnAt Q (Some s) → Q s
  its-own s a = subst Q (sym (one-own s a.0 a.1)) a.2

  put-resumes-stays : (at : Putting) → OwnAt Q (put_own at) → (wsize : ℕ) (m : PutFile) (turn : Turn) (was : Shelf) (next : Step) (new : PutFile) (after : Shelf) → puts.Resumes at wsize m turn was next new after
      → StaysAt next (put_own new.state)
  put-resumes-stays putting.Idle a wsize m turn was next new after r = none-own Q a
  put-resumes-stays putting.Opens a wsize m turn was next new after r = none-own Q a
  put-resumes-stays (putting.Adds file) a wsize m turn was next new after r = none-own Q a
  put-resumes-stays (putting.Saves s) a wsize m turn was next new after r = queues-stays (is_first m.write.lane was.order) wsize m.write.lane turn s was next new.state after (its-own s a) r.0

  put-takes-stays : (at : Putting) → OwnAt Q (put_own at) → (wsize : ℕ) (m : PutFile) (sent turn : Turn) (came : Result Reply Fault) (was : Shelf) (next : Step) (new : PutFile) (after : Shelf)
      → puts.Takes at wsize m sent turn came was next new after → StaysAt next (put_own new.state)
  put-takes-stays putting.Idle a wsize m sent turn came was next new after t = none-own Q a
  put-takes-stays putting.Opens a wsize m sent turn came was next new after t = none-own Q a
  put-takes-stays (putting.Adds file) a wsize m sent turn came was next new after t = none-own Q a
  put-takes-stays (putting.Saves s) a wsize m sent turn came was next new after t =
      follows-stays t.0.gives m.write.lane t.0.saved t.0.took next new.state after
      (keeps s t.0.saved (takes-save s.file s.upto wsize sent turn came was.repeats s was.back t.0.gives t.0.saved t.0.took.back t.0.took.repeats (record { file_is = refl; upto_is = refl }) t.0.takes)
      (its-own s a)) t.0.follows

  module _ (wsize : ℕ) (turn : Turn) where
    file-stays-as : (next : Step) (to new : FileMachine) → new ≡ to → StaysAt next (file_own to) → StaysAt next (file_own new)
    file-stays-as next to new is s = subst (λ (z : FileMachine). StaysAt next (file_own z)) (sym is) s

    file-resumes-stays : (m : FileMachine) → OwnAt Q (file_own m) → (was : Shelf) (next : Step) (new : FileMachine) (after : Shelf) → steps.Resumes wsize m turn was next new after → StaysAt next (file_own new)
    file-resumes-stays (files.Open m) a was next new after s = none-own Q a
    file-resumes-stays (files.Read m) a was next new after s = none-own Q a
    file-resumes-stays (files.Write m) a was next new after s = none-own Q a
    file-resumes-stays (files.Sync m) a was next new after s = none-own Q a
    file-resumes-stays (files.Close m) a was next new after s = none-own Q a
    file-resumes-stays (files.Truncate m) a was next new after s = none-own Q a
    file-resumes-stays (files.Put m) a was next new after s = file-stays-as next (files.Put s.machine) new s.machine_is (put-resumes-stays m.state a wsize m turn was next s.machine after s.step)

    path-stays-as : (next : Step) (to new : PathMachine) → new ≡ to → StaysAt next (path_own to.arrived to.opener) → StaysAt next (path_own new.arrived new.opener)
    path-stays-as next to new is s = subst (λ (z : PathMachine). StaysAt next (path_own z.arrived z.opener)) (sym is) s

    path-resumes-stays : (b : Bool) (m : PathMachine) → m.arrived ≡ b → OwnAt Q (path_own b m.opener) → (was : Shelf) (next : Step) (new : PathMachine) (after : Shelf) → paths.PathResumes b wsize m turn was next new after
        → StaysAt next (path_own new.arrived new.opener)
    path-resumes-stays true m there a was next new after t =
        path-stays-as next (record m { opener = t.opener }) new t.machine_is
        (subst (λ (c : Bool). StaysAt next (path_own c t.opener)) (sym there) (file-resumes-stays (file_of m.opener) a was next (file_of t.opener) after t.step))
    path-resumes-stays false m there a was next new after t = none-own Q a

    pub resumes-stays : (m : Machine) → OwnAt Q (own_save m) → (was : Shelf) (next : Step) (new : Machine) (after : Shelf) → Resumes wsize m turn was next new after → StaysAt next (own_save new)
    resumes-stays (machines.File m) a was next new after s = subst (λ (z : Machine). StaysAt next (own_save z)) (sym s.machine_is) (file-resumes-stays m a was next s.machine after s.step)
    resumes-stays (machines.Path m) a was next new after s = subst (λ (z : Machine). StaysAt next (own_save z)) (sym s.machine_is) (path-resumes-stays m.arrived m refl a was next s.machine after s.step)
    resumes-stays (machines.Name m) a was next new after s = none-own Q a

    module _ (sent : Turn) (came : Result Reply Fault) where
      file-takes-stays : (m : FileMachine) → OwnAt Q (file_own m) → (was : Shelf) (next : Step) (new : FileMachine) (after : Shelf) → steps.Takes wsize m sent turn came was next new after
          → StaysAt next (file_own new)
      file-takes-stays (files.Open m) a was next new after s = none-own Q a
      file-takes-stays (files.Read m) a was next new after s = none-own Q a
      file-takes-stays (files.Write m) a was next new after s = none-own Q a
      file-takes-stays (files.Sync m) a was next new after s = none-own Q a
      file-takes-stays (files.Close m) a was next new after s = none-own Q a
      file-takes-stays (files.Truncate m) a was next new after s = none-own Q a
      file-takes-stays (files.Put m) a was next new after s = file-stays-as next (files.Put s.machine) new s.machine_is (put-takes-stays m.state a wsize m sent turn came was next s.machine after s.step)

      path-takes-stays : (b : Bool) (m : PathMachine) → m.arrived ≡ b → OwnAt Q (path_own b m.opener) → (was : Shelf) (next : Step) (new : PathMachine) (after : Shelf)
          → paths.PathTakes b wsize m sent turn came was next new after → StaysAt next (path_own new.arrived new.opener)
      path-takes-stays true m there a was next new after t =
          path-stays-as next (record m { opener = t.opener }) new t.machine_is
          (subst (λ (c : Bool). StaysAt next (path_own c t.opener)) (sym there) (file-takes-stays (file_of m.opener) a was next (file_of t.opener) after t.step))
      path-takes-stays false m there a was next new after t = none-own Q a

      pub takes-stays : (m : Machine) → OwnAt Q (own_save m) → (was : Shelf) (next : Step) (new : Machine) (after : Shelf) → Takes wsize m sent turn came was next new after → StaysAt next (own_save new)
      takes-stays (machines.File m) a was next new after s = subst (λ (z : Machine). StaysAt next (own_save z)) (sym s.machine_is) (file-takes-stays m a was next s.machine after s.step)
      takes-stays (machines.Path m) a was next new after s = subst (λ (z : Machine). StaysAt next (own_save z)) (sym s.machine_is) (path-takes-stays m.arrived m refl a was next s.machine after s.step)
      takes-stays (machines.Name m) a was next new after s = none-own Q a

  module _ (wsize : ℕ) (S : Step → Machine → Shelf → Type 0) (state : State) (after : Shelf) (machine : Machine) (is : state ≡ Busy machine) where
    is-at : (new : Machine) → state ≡ Busy new → OwnAt Q (own_save new) → OwnAt Q (own_save machine)
    is-at new s a = subst (λ (z : Machine). OwnAt Q (own_save z)) (busy-one new machine (sym s ∙ is)) a

    settled-at : (next : Step) (new : Machine) → StaysAt next (own_save new) → Settles next new state → OwnAt Q (own_save machine)
    settled-at (nexts.Send call) new a s = is-at new s a
    settled-at nexts.Wait new a s = is-at new s a
    settled-at (nexts.Done answer) new a s = absurd (busy-over machine answer (sym is ∙ s))

    refused-at : (next : Step) (new : Machine) → StaysAt next (own_save new) → IsRefused new next state → OwnAt Q (own_save machine)
    refused-at (nexts.Send call) new a s = absurd s
    refused-at nexts.Wait new a s = is-at new s a
    refused-at (nexts.Done answer) new a s = absurd (busy-over machine answer (sym is ∙ s))

    led-stays : ((next : Step) (new : Machine) (shelf : Shelf) → S next new shelf → StaysAt next (own_save new)) → Leading wsize S state after → OwnAt Q (own_save machine)
    led-stays stays (settles next new s st) = settled-at next new (stays next new after s) st
    led-stays stays (unmade call mid between sent turn fault next new s takes refused) =
        refused-at next new (takes-stays wsize turn sent (Err fault) mid (stays (nexts.Send call) mid between s) between next new after takes) refused

  pub stirs-at-save : (old new : View) (at : ℕ) (t : Stirs old at new) → OwnAt Q (own_save t.machine) → (number : ℕ) (state : State) → slice_get new.lanes at ≡ Some (record { number = number; state = state })
      → (machine : Machine) → state ≡ Busy machine → OwnAt Q (own_save machine)
  stirs-at-save old new at t a number state here machine is =
      let l = stirs-led old new at t in
      let same : l.state ≡ state =
      state-is l.state state t.number number
      (sym (at-set old.lanes at (record { number = t.number; state = Busy t.machine }) (record { number = t.number; state = l.state }) t.there) ∙ ap (λ (ls : List Lane). slice_get ls at) (sym l.lanes_are) ∙ here) in
      led-stays old.wsize (λ next made shelf. Resumes old.wsize t.machine (turn_at old) old.shelf next made shelf) l.state new.shelf machine (same ∙ is)
      (λ next made shelf s. resumes-stays old.wsize (turn_at old) t.machine a old.shelf next made shelf s) l.leading

  pub takes-still : (old new : View) (at : ℕ) (sent : Turn) (came : Result Reply Fault) (t : TakesAt old at sent came new) → OwnAt Q (own_save t.machine) → (number : ℕ) (state : State)
      → slice_get new.lanes at ≡ Some (record { number = number; state = state }) → (machine : Machine) → state ≡ Busy machine → OwnAt Q (own_save machine)
  takes-still old new at sent came t a number state here machine is =
      let l = takes-led old new at sent came t in
      let same : l.state ≡ state =
      state-is l.state state t.number number
      (sym (at-set old.lanes at (record { number = t.number; state = Busy t.machine }) (record { number = t.number; state = l.state }) t.there) ∙ ap (λ (ls : List Lane). slice_get ls at) (sym l.lanes_are) ∙ here) in
      led-stays old.wsize (λ next made shelf. Takes old.wsize t.machine sent (turn_at old) came old.shelf next made shelf) l.state new.shelf machine (same ∙ is)
      (λ next made shelf s. takes-stays old.wsize (turn_at old) sent came t.machine a old.shelf next made shelf s) l.leading

-- ---- what is said of a put at its own save

module _ (P : Fact) (K KA : Saving → Fact) (A : List ℕ → ℕ → List ℕ → Type 0) (z : Saving) (q : ℕ) (b : Pending) (o : List LaneFile) (has : KA z q b o) where
  put-has-own : (m : PutFile) (at : Putting) → put_own at ≡ Some z → PutHas P K KA A m at q b o
  put-has-own m putting.Idle is = absurd (let no_way : None ≡ Some z = is in cc)
  put-has-own m putting.Opens is = absurd (let no_way : None ≡ Some z = is in cc)
  put-has-own m (putting.Adds file) is = absurd (let no_way : None ≡ Some z = is in cc)
  put-has-own m (putting.Saves w) is = subst (λ (y : Saving). KA y q b o) (sym (one-own w z is)) has

module _ (j : Job) (z : Saving) (q : ℕ) (b : Pending) (o : List LaneFile) (has : j.KA z q b o) where
  file-has-own : (m : FileMachine) → file_own m ≡ Some z → FileHas j m q b o
  file-has-own (files.Open m) is = absurd (let no_way : None ≡ Some z = is in cc)
  file-has-own (files.Read m) is = absurd (let no_way : None ≡ Some z = is in cc)
  file-has-own (files.Write m) is = absurd (let no_way : None ≡ Some z = is in cc)
  file-has-own (files.Sync m) is = absurd (let no_way : None ≡ Some z = is in cc)
  file-has-own (files.Close m) is = absurd (let no_way : None ≡ Some z = is in cc)
  file-has-own (files.Truncate m) is = absurd (let no_way : None ≡ Some z = is in cc)
  file-has-own (files.Put m) is = put-has-own j.P j.K j.KA j.A z q b o has m m.state is

  path-has-own : (there : Bool) (m : Opener) → path_own there m ≡ Some z → PathHas j there m q b o
  path-has-own true m is = file-has-own (file_of m) is
  path-has-own false m is = absurd (let no_way : None ≡ Some z = is in cc)

  pub has-own : (m : Machine) → own_save m ≡ Some z → JobHas j m q b o
  has-own (machines.File m) is = file-has-own m is
  has-own (machines.Path m) is = path-has-own m.arrived m.opener is
  has-own (machines.Name m) is = absurd (let no_way : None ≡ Some z = is in cc)
