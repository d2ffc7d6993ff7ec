-- For which calls a put waits once it has its file: for those of its saves.
use Rattle.core_answers.proofs.Prelude.{◌≡◌, ◌≤◌, ◌+◌, ◌-◌, ◌⊎◌, ℕ, Bool, true, false, List, Result, Ok, Err, refl, sym, ap, subst, ◌∙◌, inl, inr, arith, Fault, Call, Reply, is_first, Step, Shelf, Turn, OpenFile, OpeningStep, PutFile, Putting, Saving, Writing, joined, made_bytes, by-step, WalkStep, FileMachine, Machine, Opener, PathMachine, file_of, slot_taken, begun_at, placed, Starts, Resumes, Takes, of_walk, of_opening, of_saving, of_writing, of_putting, in_flight, of_path, path-file, path-walk, ExpectLaws, Plain, walk-takes, AskedOf, KeptOf}
use Rattle.core_facts.specs.InFlight.{of_file}
use Rattle.core_facts.proofs.AllCounts.{placed-none}
use Rattle.core_facts.proofs.NameCounts.{WalkCounts, walk-counts, took-counts}
use Rattle.world_model.specs.declared.answer.Answer.TheVariants as answers
use Rattle.client_shelf.specs.declared.step.Step.TheVariants as nexts
use Rattle.file_ops.specs.declared.opening.OpeningStep.TheVariants as openings
use Rattle.file_ops.specs.declared.put_file.Putting.TheVariants as putting
use Rattle.file_ops.specs.Syncs as syncs
use Rattle.file_ops.specs.Opening as opening
use Rattle.file_ops.specs.PutFile as puts
use Rattle.file_ops.specs.Saves as saves
use Rattle.name_ops.specs.declared.walk.WalkStep.TheVariants as walks
use Rattle.name_ops.specs.Walking as walking
use Rattle.op_machines.specs.declared.file_machine.FileMachine.TheVariants as files
use Rattle.op_machines.specs.declared.machine.Machine.TheVariants as machines
use Rattle.op_machines.specs.declared.opener.Opener.TheVariants as openers
use Rattle.op_machines.specs.FileSteps as steps
use Rattle.op_machines.specs.PathSteps as paths
use Rattle.core_facts.proofs.FileCounts.{OpeningCounts, opening-took, writes-leave, write-resumes, write-takes}
use Rattle.core_facts.proofs.PutCounts.{of_put}
use Rattle.core_answers.proofs.answers.SaveCalls.{SaveCall, CallSo, goes-calls, takes-calls, goes-stay, takes-stay}
use Rattle.core_answers.proofs.answers.WriteCalls.{WriteCalls, AskedBy, KeptBy, CallStep, writes-calls, resumes-calls, took-calls}

-- ---- the machine of a put

abbrev pub StateCalls : Putting → Writing → Call → Type 0
StateCalls putting.Idle w call = Unit {0}
StateCalls putting.Opens w call = Unit {0}
StateCalls (putting.Adds file) w call = WriteCalls w call
StateCalls (putting.Saves saving) w call = SaveCall saving call

abbrev pub PutCalls : PutFile → Call → Type 0
PutCalls p call = StateCalls p.state p.write.state call

module _ (others : ℕ) (D : Call → Type 0) where
  abbrev pub PutStep : Step → Putting → Writing → Type 0
  PutStep next state w = CallStep others D next (StateCalls state w)

  step-to : (to : Step) (state : Putting) (next : Step) (new : Putting) (w : Writing) → next ≡ to → new ≡ state → PutStep to state w → PutStep next new w
  step-to to state next new w is at c = subst (λ (n : Step). PutStep n new w) (sym is) (subst (λ (s : Putting). PutStep to s w) (sym at) c)

  step-done : (answer : _) (next : Step) (new : Putting) (w : Writing) → next ≡ nexts.Done answer → PutStep next new w
  step-done answer next new w is = subst (λ (n : Step). PutStep n new w) (sym is) (record { asked = tt; kept = tt })

  -- a state of which nothing is said
  step-plain : (next : Step) (new state : Putting) (w : Writing) → new ≡ state → ((c : Call) → StateCalls state w c) → PutStep next new w
  step-plain (nexts.Send call) new state w is any = subst (λ (s : Putting). PutStep (nexts.Send call) s w) (sym is) (record { asked = any call; kept = λ some c e. any c })
  step-plain nexts.Wait new state w is any = subst (λ (s : Putting). PutStep nexts.Wait s w) (sym is) (record { asked = tt; kept = λ some c e. any c })
  step-plain (nexts.Done answer) new state w is any = record { asked = tt; kept = tt }

  -- what waits as a save goes on waited for it before, or nothing does
  abbrev FromSave : Saving → Type 0
  FromSave s = 1 ≤ others → (c : Call) → D c → SaveCall s c

  put-follows : (gives : _) (saved : Saving) (lane : ℕ) (was : Shelf) (next : Step) (new : Putting) (w : Writing) (after : Shelf)
      → FromSave saved → CallSo (syncs.sync_next gives) saved → puts.Follows gives lane saved was next new after → PutStep next new w
  put-follows gives saved lane was next new w after from n f = by-step
      (λ g. CallSo (syncs.sync_next g) saved → puts.Follows g lane saved was next new after → PutStep next new w)
      (λ call k l. step-to (nexts.Send call) (putting.Saves saved) next new w l.0 l.1 (record { asked = k; kept = from }))
      (λ k l. step-to nexts.Wait (putting.Saves saved) next new w l.0 l.1 (record { asked = tt; kept = from }))
      (λ result k l. step-done _ next new w l.next_is)
      gives n f

  put-queues : (b : Bool) (wsize lane : ℕ) (turn : Turn) (s : Saving) (was : Shelf) (next : Step) (new : Putting) (w : Writing) (after : Shelf) → others ≡ of_saving s → FromSave s
      → puts.QueuesIf b wsize lane turn s was next new after → PutStep next new w
  put-queues true wsize lane turn s was next new w after count from q =
      put-follows q.gives q.saved lane q.gone next new w after
      (λ some c d. goes-stay wsize turn.xid turn.room false s was.back q.gives q.saved q.gone.back q.goes (omega (arith, some, count)) c (from some c d))
      (goes-calls wsize turn.xid turn.room false s was.back q.gives q.saved q.gone.back q.goes) q.follows
  put-queues false wsize lane turn s was next new w after count from q =
      step-to nexts.Wait (putting.Saves s) next new w q.next_is q.state_is (record { asked = tt; kept = from })

  after-write : (told : Step) (written : Writing) (wsize lane : ℕ) (file : List ℕ) (turn : Turn) (was : Shelf) (next : Step) (new : Putting) (after : Shelf)
      → (others ≡ 0) ⊎ ((answer : _) → told ≡ nexts.Done answer → ⊥) → CallStep others D told (WriteCalls written) → puts.AfterWrite told wsize lane file turn was next new after
      → PutStep next new written
  after-write (nexts.Send call) written wsize lane file turn was next new after c k a = step-to (nexts.Send call) (putting.Adds file) next new written a.0 a.1 (record { asked = k.asked; kept = k.kept })
  after-write nexts.Wait written wsize lane file turn was next new after c k a = step-to nexts.Wait (putting.Adds file) next new written a.0 a.1 (record { asked = tt; kept = k.kept })
  after-write (nexts.Done (answers.Done value)) written wsize lane file turn was next new after (inl none) k a =
      put-queues (is_first lane (joined lane file was).order) wsize lane turn (saves.begun file was.seq) (joined lane file was) next new written after none
      (λ some. absurd (omega (arith, none, some))) a
  after-write (nexts.Done (answers.Done value)) written wsize lane file turn was next new after (inr not_done) k a = absurd (not_done (answers.Done value) refl)
  after-write (nexts.Done (answers.Refused fault)) written wsize lane file turn was next new after c k a = step-done _ next new written a.next_is

  writes-on : (wsize : ℕ) (m : PutFile) (file : List ℕ) (turn : Turn) (told : Step) (written : Writing) (mid : Shelf) (next : Step) (new : PutFile) (after : Shelf)
      → Plain told others (of_writing written) → CallStep others D told (WriteCalls written) → puts.WritesOn wsize m file turn told written mid next new after
      → PutStep next new.state new.write.state
  writes-on wsize m file turn told written mid next new after count k w =
      subst (λ (x : Writing). PutStep next new.state x) (sym (ap (λ (p : PutFile). p.write.state) w.machine_is))
      (after-write told written wsize m.write.lane file turn mid next new.state after (by told count) k w.follows)
    where
      by : (n : Step) → Plain n others (of_writing written) → (others ≡ 0) ⊎ ((answer : _) → n ≡ nexts.Done answer → ⊥)
      by (nexts.Send call) c = inr (λ answer is. cc)
      by nexts.Wait c = inr (λ answer is. cc)
      by (nexts.Done answer) c = inl c

  opens-plain : (next : Step) (m new : PutFile) → m.state ≡ putting.Opens → new.state ≡ m.state → PutStep next new.state new.write.state
  opens-plain next m new is same = step-plain next new.state putting.Opens new.write.state (same ∙ is) (λ c. tt)

  after-opening : (step : OpeningStep) (wsize : ℕ) (m : PutFile) (turn : Turn) (was : Shelf) (next : Step) (new : PutFile) (after : Shelf) → m.state ≡ putting.Opens
      → OpeningCounts step others (of_opening m.opening) → puts.AfterOpening step wsize m turn was next new after → PutStep next new.state new.write.state
  after-opening (openings.Send call) wsize m turn was next new after is c a = opens-plain next m new is (ap (λ (p : PutFile). p.state) a.1)
  after-opening openings.Wait wsize m turn was next new after is c a = opens-plain next m new is (ap (λ (p : PutFile). p.state) a.machine_is)
  after-opening (openings.Ended (Ok file)) wsize m turn was next new after is c a =
      writes-on wsize m file turn a.told a.written a.mid next new after
      (subst (λ (n : ℕ). Plain a.told n (of_writing a.written)) (sym c)
      (writes-leave wsize m.write.lane file m.write.offset (made_bytes m.write.text) turn (puts.put_at m.write.lane file was) a.told a.written a.mid a.writes))
      (writes-calls others D wsize m.write.lane file m.write.offset (made_bytes m.write.text) turn (puts.put_at m.write.lane file was) a.told a.written a.mid c a.writes) a.goes
  after-opening (openings.Ended (Err fault)) wsize m turn was next new after is c a = step-done _ next new.state new.write.state a.0

put-resumes : (at : Putting) (wsize : ℕ) (m : PutFile) (turn : Turn) (was : Shelf) (next : Step) (new : PutFile) (after : Shelf) → m.state ≡ at
    → puts.Resumes at wsize m turn was next new after → PutStep (of_putting at m.opening m.write.state) (StateCalls at m.write.state) next new.state new.write.state
put-resumes putting.Idle wsize m turn was next new after is r =
    step-plain 0 _ next new.state putting.Idle new.write.state (ap (λ (p : PutFile). p.state) r.machine_is ∙ is) (λ c. tt)
put-resumes putting.Opens wsize m turn was next new after is r = opens-plain (of_opening m.opening) _ next m new is (ap (λ (p : PutFile). p.state) r.1)
put-resumes (putting.Adds file) wsize m turn was next new after is r =
    writes-on (of_writing m.write.state) (WriteCalls m.write.state) wsize m file turn r.told r.written r.mid next new after
    (write-resumes m.write.state wsize m.write.lane turn was r.told r.written r.mid r.resumes)
    (resumes-calls (of_writing m.write.state) (WriteCalls m.write.state) m.write.state wsize m.write.lane turn was r.told r.written r.mid refl (λ c d. d) r.resumes) r.goes
put-resumes (putting.Saves s) wsize m turn was next new after is r =
    put-queues (of_saving s) (SaveCall s) (is_first m.write.lane was.order) wsize m.write.lane turn s was next new.state new.write.state after refl (λ some c e. e) r.0

put-takes : (at : Putting) (wsize : ℕ) (m : PutFile) (sent turn : Turn) (came : Result Reply Fault) (was : Shelf) (next : Step) (new : PutFile) (after : Shelf) (others : ℕ)
    → m.state ≡ at → of_putting at m.opening m.write.state ≡ others + 1 → puts.Takes at wsize m sent turn came was next new after
    → PutStep others (StateCalls at m.write.state) next new.state new.write.state
put-takes putting.Idle wsize m sent turn came was next new after others is one t = absurd (omega (arith, one))
put-takes putting.Opens wsize m sent turn came was next new after others is one t =
    let again = opening.opening_again m.opening sent turn came was.repeats in
    after-opening others (λ c. Unit {0}) t.step wsize (puts.led again m turn came t.took.attrs was.pages) turn t.took next new after is
    (opening-took again m.opening sent turn (opening.led_on m.opening turn.now came t.took.attrs was.pages) t.step was.pages t.took.pages others one t.leads) t.follows
put-takes (putting.Adds file) wsize m sent turn came was next new after others is one t =
    writes-on others (WriteCalls m.write.state) wsize m file turn t.told t.written t.mid next new after
    (write-takes m.write.state wsize m.write sent turn came was t.told t.written t.mid others one t.takes)
    (took-calls others (WriteCalls m.write.state) m.write.state wsize m.write sent turn came was t.told t.written t.mid one (λ c d. d) t.takes) t.goes
put-takes (putting.Saves s) wsize m sent turn came was next new after others is one t =
    put-follows others (SaveCall s) t.0.gives t.0.saved m.write.lane t.0.took next new.state new.write.state after
    (takes-stay wsize sent turn came was.repeats s was.back t.0.gives t.0.saved t.0.took.back t.0.took.repeats others one t.0.takes)
    (takes-calls wsize sent turn came was.repeats s was.back t.0.gives t.0.saved t.0.took.back t.0.took.repeats t.0.takes) t.0.follows

-- ---- any operation: of the others nothing is said

abbrev pub OpenerCalls : Bool → Opener → Call → Type 0
OpenerCalls true (openers.Open m) call = Unit {0}
OpenerCalls true (openers.Put m) call = PutCalls m call
OpenerCalls false opener call = Unit {0}

abbrev pub Calls : Machine → Call → Type 0
Calls (machines.File m) call = Unit {0}
Calls (machines.Path m) call = OpenerCalls m.arrived m.opener call
Calls (machines.Name m) call = Unit {0}

record Named (others : ℕ) (old : Machine) (next : Step) (new : Machine) : Type 0 where
  pub asked : AskedOf Calls next new
  pub kept : KeptOf Calls others old next new

named-as : (others : ℕ) (old to : Machine) (next : Step) (new : Machine) → new ≡ to → Named others old next to → Named others old next new
named-as others old to next new is e = subst (λ (m : Machine). Named others old next m) (sym is) e

plain-named : (others : ℕ) (old new : Machine) (next : Step) → ((call : Call) → Calls new call) → Named others old next new
plain-named others old new (nexts.Send call) any = record { asked = any call; kept = λ some c e. any c }
plain-named others old new nexts.Wait any = record { asked = tt; kept = λ some c e. any c }
plain-named others old new (nexts.Done answer) any = record { asked = tt; kept = tt }

-- ---- opens and puts on their way

same-put : (a b : PutFile) → files.Put a ≡ files.Put b → b ≡ a
same-put a b e = cc

not-put : (m : OpenFile) (q : PutFile) → files.Put q ≡ files.Open m → ⊥
not-put m q e = cc

-- with the opener that it has then
opener-as : (others : ℕ) (m : PathMachine) (opener to : Opener) (next : Step) (new : PathMachine) (old : Machine) → new ≡ record m { opener = opener } → opener ≡ to
    → Named others old next (machines.Path (record m { opener = to })) → Named others old next (machines.Path new)
opener-as others m opener to next new old is at e =
    subst (λ (n : PathMachine). Named others old next (machines.Path n)) (sym is)
    (subst (λ (o : Opener). Named others old next (machines.Path (record m { opener = o }))) (sym at) e)

open-any : (b : Bool) (o : OpenFile) (call : Call) → OpenerCalls b (openers.Open o) call
open-any true o call = tt
open-any false o call = tt

-- a put that has its directory
put-named : (others : ℕ) (m : PathMachine) (p q : PutFile) (next : Step) (old : Machine) → m.arrived ≡ true → PutStep others (PutCalls p) next q.state q.write.state
    → ((c : Call) → Calls old c → PutCalls p c) → Named others old next (machines.Path (record m { opener = openers.Put q }))
put-named others m p q next old there s was = by next s.asked s.kept
  where
    here : (c : Call) → PutCalls q c → OpenerCalls m.arrived (openers.Put q) c
    here c e = subst (λ (b : Bool). OpenerCalls b (openers.Put q) c) (sym there) e

    by : (n : Step) → AskedBy n (PutCalls q) → KeptBy others (PutCalls p) n (PutCalls q) → Named others old n (machines.Path (record m { opener = openers.Put q }))
    by (nexts.Send call) a k = record { asked = here call a; kept = λ some c e. here c (k some c (was c e)) }
    by nexts.Wait a k = record { asked = tt; kept = λ some c e. here c (k some c (was c e)) }
    by (nexts.Done answer) a k = record { asked = tt; kept = tt }

then-named : (wsize : ℕ) (m : PathMachine) (turn : Turn) (was : Shelf) (next : Step) (new : PathMachine) (after : Shelf) (old : Machine) → m.arrived ≡ true
    → ((p : PutFile) → m.opener ≡ openers.Put p → (c : Call) → Calls old c → PutCalls p c) → paths.ThenResumes wsize m turn was next new after
    → Named (of_file (file_of m.opener)) old next (machines.Path new)
then-named wsize m turn was next new after old there names t = by m.opener t.opener refl refl t.step
  where
    by : (o k : Opener) → m.opener ≡ o → t.opener ≡ k → steps.Resumes wsize (file_of o) turn was next (file_of k) after → Named (of_file (file_of o)) old next (machines.Path new)
    by o (openers.Open k) at to step = opener-as (of_file (file_of o)) m t.opener (openers.Open k) next new old t.machine_is to (plain-named _ old _ next (open-any m.arrived k))
    by (openers.Open o) (openers.Put q) at to step = absurd (not-put _ q step.machine_is)
    by (openers.Put p) (openers.Put q) at to step =
        let s = put-resumes p.state wsize p turn was next step.machine after refl step.step in
        opener-as (of_put p) m t.opener (openers.Put q) next new old t.machine_is to
        (put-named (of_put p) m p q next old there (subst (λ (k : PutFile). PutStep (of_put p) (PutCalls p) next k.state k.write.state) (same-put q step.machine step.machine_is) s) (names p at))

walking-names : (m : PathMachine) → m.arrived ≡ false → (c : Call) → Calls (machines.Path m) c
walking-names m on_way c = subst (λ (b : Bool). OpenerCalls b m.opener c) (sym on_way) tt

placed-names : (dir : List ℕ) (o : Opener) (p : PutFile) → placed dir o ≡ openers.Put p → (c : Call) → PutCalls p c
placed-names dir (openers.Open m) p is c = absurd (cc)
placed-names dir (openers.Put m) p is c = let same : putting.Opens ≡ p.state = ap state_of is in subst (λ (s : Putting). StateCalls s p.write.state c) same tt
  where
    state_of : Opener → Putting
    state_of (openers.Open m) = putting.Idle
    state_of (openers.Put m) = m.state

follows-named : (step : WalkStep) (wsize : ℕ) (m : PathMachine) (turn : Turn) (was : Shelf) (next : Step) (new : PathMachine) (after : Shelf) (others : ℕ) (old : Machine) → m.arrived ≡ false
    → WalkCounts step others (of_walk m.walk) → paths.Follows step wsize m turn was next new after → Named others old next (machines.Path new)
follows-named (walks.Send call) wsize m turn was next new after others old on_way c f =
    subst (λ (n : PathMachine). Named others old next (machines.Path n)) (sym f.1) (plain-named others old (machines.Path m) next (walking-names m on_way))
follows-named walks.Wait wsize m turn was next new after others old on_way c f =
    subst (λ (n : PathMachine). Named others old next (machines.Path n)) (sym f.1) (plain-named others old (machines.Path m) next (walking-names m on_way))
follows-named (walks.At dir) wsize m turn was next new after others old on_way c f =
    subst (λ (n : ℕ). Named n old next (machines.Path new)) (placed-none dir m.opener ∙ sym c.0)
    (then-named wsize (record m { opener = placed dir m.opener; arrived = true }) turn was next new after old refl (λ p is k e. placed-names dir m.opener p is k) f)
follows-named (walks.Refused fault) wsize m turn was next new after others old on_way c f =
    subst (λ (n : Step). Named others old n (machines.Path new)) (sym f.0) (record { asked = tt; kept = tt })

-- what an arrived put waits for
pub arrived-names : (m : PathMachine) → m.arrived ≡ true → (p : PutFile) → m.opener ≡ openers.Put p → (c : Call) → Calls (machines.Path m) c → PutCalls p c
arrived-names m there p is c e = subst (λ (o : Opener). OpenerCalls true o c) is (subst (λ (b : Bool). OpenerCalls b m.opener c) there e)

path-resumes : (b : Bool) (wsize : ℕ) (m : PathMachine) (turn : Turn) (was : Shelf) (next : Step) (new : PathMachine) (after : Shelf) → m.arrived ≡ b
    → paths.PathResumes b wsize m turn was next new after → Named (of_path m) (machines.Path m) next (machines.Path new)
path-resumes true wsize m turn was next new after is r =
    subst (λ (n : ℕ). Named n (machines.Path m) next (machines.Path new)) (sym (path-file m is))
    (then-named wsize m turn was next new after (machines.Path m) is (arrived-names m is) r)
path-resumes false wsize m turn was next new after is r =
    subst (λ (n : ℕ). Named n (machines.Path m) next (machines.Path new)) (sym (path-walk m is))
    (follows-named (walking.go_next m.walk turn was) wsize (record m { walk = walking.go_after m.walk turn was }) turn (walking.go_shelf m.walk turn was) next new after (of_walk m.walk)
    (machines.Path m) is (walk-counts m.walk turn was) r)

path-starts : (taken : Bool) (wsize : ℕ) (m : PathMachine) (turn : Turn) (was : Shelf) (next : Step) (new : PathMachine) (after : Shelf)
    → paths.StartsIf taken wsize m turn was next new after → AskedOf Calls next (machines.Path new)
path-starts true wsize m turn was next new after s = subst (λ (n : Step). AskedOf Calls n (machines.Path new)) (sym s.0) tt
path-starts false wsize m turn was next new after s = (path-resumes m.arrived wsize (record m { opener = begun_at (turn.moment - 1) m.opener }) turn was next new after refl s).asked

path-takes : (b : Bool) (wsize : ℕ) (m : PathMachine) (sent turn : Turn) (came : Result Reply Fault) (was : Shelf) (next : Step) (new : PathMachine) (after : Shelf) (others : ℕ) → m.arrived ≡ b
    → of_path m ≡ others + 1 → paths.PathTakes b wsize m sent turn came was next new after → Named others (machines.Path m) next (machines.Path new)
path-takes true wsize m sent turn came was next new after others is one t = by m.opener t.opener refl refl (sym (path-file m is) ∙ one) t.step
  where
    by : (o k : Opener) → m.opener ≡ o → t.opener ≡ k → of_file (file_of o) ≡ others + 1 → steps.Takes wsize (file_of o) sent turn came was next (file_of k) after
        → Named others (machines.Path m) next (machines.Path new)
    by o (openers.Open k) at to count step =
        opener-as others m t.opener (openers.Open k) next new (machines.Path m) t.machine_is to (plain-named others (machines.Path m) _ next (open-any m.arrived k))
    by (openers.Open o) (openers.Put q) at to count step = absurd (not-put _ q step.machine_is)
    by (openers.Put p) (openers.Put q) at to count step =
        let s = put-takes p.state wsize p sent turn came was next step.machine after others refl count step.step in
        opener-as others m t.opener (openers.Put q) next new (machines.Path m) t.machine_is to
        (put-named others m p q next (machines.Path m) is (subst (λ (k : PutFile). PutStep others (PutCalls p) next k.state k.write.state) (same-put q step.machine step.machine_is) s) (arrived-names m is p at))
path-takes false wsize m sent turn came was next new after others is one t =
    let took = walk-takes m.walk sent turn came was t.step t.walked.walk t.heard others (sym (path-walk m is) ∙ one) t.takes in
    follows-named t.step wsize t.walked turn t.heard next new after others (machines.Path m) (ap (λ (w : PathMachine). w.arrived) t.walked_is ∙ is)
    (took-counts others t.step t.walked.walk took) t.follows

-- ---- the laws

any-file : (others : ℕ) (old : Machine) (next : Step) (new : Machine) (to : FileMachine) → new ≡ machines.File to → Named others old next new
any-file others old next new to is = named-as others old (machines.File to) next new is (plain-named others old (machines.File to) next (λ c. tt))

starts-named : (m : Machine) (wsize : ℕ) (turn : Turn) (old : Shelf) (next : Step) (new : Machine) (after : Shelf) → Starts wsize m turn old next new after → AskedOf Calls next new
starts-named (machines.File m) wsize turn old next new after s = (any-file 0 (machines.File m) next new s.machine s.machine_is).asked
starts-named (machines.Path m) wsize turn old next new after s =
    subst (λ (k : Machine). AskedOf Calls next k) (sym s.machine_is) (path-starts (slot_taken m.opener old.opens) wsize m turn old next s.machine after s.step)
starts-named (machines.Name m) wsize turn old next new after s =
    (named-as 0 (machines.Name m) (machines.Name s.machine) next new s.machine_is (plain-named 0 _ _ next (λ c. tt))).asked

resumes-named : (m : Machine) (wsize : ℕ) (turn : Turn) (old : Shelf) (next : Step) (new : Machine) (after : Shelf) → Resumes wsize m turn old next new after → Named (in_flight m) m next new
resumes-named (machines.File m) wsize turn old next new after s = any-file _ (machines.File m) next new s.machine s.machine_is
resumes-named (machines.Path m) wsize turn old next new after s =
    named-as (of_path m) (machines.Path m) (machines.Path s.machine) next new s.machine_is (path-resumes m.arrived wsize m turn old next s.machine after refl s.step)
resumes-named (machines.Name m) wsize turn old next new after s =
    named-as _ (machines.Name m) (machines.Name s.machine) next new s.machine_is (plain-named _ _ _ next (λ c. tt))

takes-named : (m : Machine) (wsize : ℕ) (sent turn : Turn) (came : Result Reply Fault) (old : Shelf) (next : Step) (new : Machine) (after : Shelf) (others : ℕ) → in_flight m ≡ others + 1
    → Takes wsize m sent turn came old next new after → Named others m next new
takes-named (machines.File m) wsize sent turn came old next new after others one s = any-file others (machines.File m) next new s.machine s.machine_is
takes-named (machines.Path m) wsize sent turn came old next new after others one s =
    named-as others (machines.Path m) (machines.Path s.machine) next new s.machine_is (path-takes m.arrived wsize m sent turn came old next s.machine after others refl one s.step)
takes-named (machines.Name m) wsize sent turn came old next new after others one s =
    named-as others (machines.Name m) (machines.Name s.machine) next new s.machine_is (plain-named others _ _ next (λ c. tt))

pub calls-laws : ExpectLaws Calls
calls-laws = record {
  starts = λ m wsize turn old next new after s. starts-named m wsize turn old next new after s;
  resumes = λ m wsize turn old next new after s. let e = resumes-named m wsize turn old next new after s in (e.asked, e.kept);
  takes = λ m wsize sent turn came old next new after others one s. let e = takes-named m wsize sent turn came old next new after others one s in (e.asked, e.kept);
}
