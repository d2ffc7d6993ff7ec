-- The calls for which a put waits once its bytes are pending name its file.
use Rattle.core_answers.proofs.Prelude.{◌≡◌, ◌≤◌, ◌+◌, ◌-◌, ℕ, Bool, true, false, List, Result, Ok, Err, refl, sym, ap, subst, ◌∙◌, arith, Fault, Call, Reply, NamesFile, is_first, Step, Shelf, Turn, OpenFile, OpeningStep, PutFile, Putting, Saving, Writing, joined, made_bytes, by-step, WalkStep, FileMachine, Machine, Opener, PathMachine, file_of, slot_taken, begun_at, placed, Starts, Resumes, Takes, of_walk, of_opening, of_saving, of_writing, of_putting, in_flight, of_path, path-file, path-walk, ExpectLaws, Plain, walk-takes, goes-steps, takes-steps, AskedOf, KeptOf}
use Rattle.core_facts.specs.InFlight.{of_file}
use Rattle.core_facts.proofs.AllCounts.{placed-none}
use Rattle.core_facts.proofs.NameCounts.{WalkCounts, walk-counts, took-counts}
use Rattle.world_model.specs.declared.answer.Answer.TheVariants as answers
use Rattle.client_shelf.specs.declared.step.Step.TheVariants as nexts
use Rattle.file_ops.specs.declared.opening.OpeningStep.TheVariants as openings
use Rattle.file_ops.specs.declared.put_file.Putting.TheVariants as putting
use Rattle.file_ops.specs.Syncs as syncs
use Rattle.file_ops.specs.Opening as opening
use Rattle.file_ops.specs.PutFile as puts
use Rattle.file_ops.specs.Saves as saves
use Rattle.name_ops.specs.declared.walk.WalkStep.TheVariants as walks
use Rattle.name_ops.specs.Walking as walking
use Rattle.op_machines.specs.declared.file_machine.FileMachine.TheVariants as files
use Rattle.op_machines.specs.declared.machine.Machine.TheVariants as machines
use Rattle.op_machines.specs.declared.opener.Opener.TheVariants as openers
use Rattle.op_machines.specs.FileSteps as steps
use Rattle.op_machines.specs.PathSteps as paths
use Rattle.core_facts.proofs.FileCounts.{OpeningCounts, opening-took, writes-leave, write-resumes, write-takes}
use Rattle.core_facts.proofs.PutCounts.{of_put}
use Rattle.core_answers.proofs.answers.SaveNames.{CallNames, goes-names, takes-names}

-- ---- the machine of a put

abbrev pub PutNames : Putting → Call → Type 0
PutNames putting.Idle call = Unit {0}
PutNames putting.Opens call = Unit {0}
PutNames (putting.Adds file) call = Unit {0}
PutNames (putting.Saves saving) call = NamesFile saving.file call

pub record NamesStep (others : ℕ) (old : Putting) (next : Step) (new : Putting) : Type 0 where
  pub asked : AskedOf PutNames next new
  pub kept : KeptOf PutNames others old next new

step-to : (others : ℕ) (old : Putting) (to : Step) (state : Putting) (next : Step) (new : Putting) → next ≡ to → new ≡ state → NamesStep others old to state → NamesStep others old next new
step-to others old to state next new is at c = subst (λ (n : Step). NamesStep others old n new) (sym is) (subst (λ (s : Putting). NamesStep others old to s) (sym at) c)

step-done : (others : ℕ) (old : Putting) (answer : _) (next : Step) (new : Putting) → next ≡ nexts.Done answer → NamesStep others old next new
step-done others old answer next new is = subst (λ (n : Step). NamesStep others old n new) (sym is) (record { asked = tt; kept = tt })

step-waits : (others : ℕ) (old : Putting) (next : Step) (new : Putting) → next ≡ nexts.Wait → new ≡ old → NamesStep others old next new
step-waits others old next new is same = step-to others old nexts.Wait old next new is same (record { asked = tt; kept = λ some c e. e })

-- a state of which nothing is said
step-plain : (others : ℕ) (old : Putting) (next : Step) (new state : Putting) → new ≡ state → ((c : Call) → PutNames state c) → NamesStep others old next new
step-plain others old (nexts.Send call) new state is any =
    subst (λ (s : Putting). NamesStep others old (nexts.Send call) s) (sym is) (record { asked = any call; kept = λ some c e. any c })
step-plain others old nexts.Wait new state is any = subst (λ (s : Putting). NamesStep others old nexts.Wait s) (sym is) (record { asked = tt; kept = λ some c e. any c })
step-plain others old (nexts.Done answer) new state is any = record { asked = tt; kept = tt }

-- what waits as a save goes on waited for it before, or nothing does
abbrev FromSave : ℕ → Putting → List ℕ → Type 0
FromSave others old file = 1 ≤ others → (c : Call) → PutNames old c → NamesFile file c

put-follows : (others : ℕ) (old : Putting) (s : Saving) (gives : _) (saved : Saving) (lane : ℕ) (was : Shelf) (next : Step) (new : Putting) (after : Shelf)
    → FromSave others old s.file → saved.file ≡ s.file → CallNames s.file (syncs.sync_next gives) → puts.Follows gives lane saved was next new after → NamesStep others old next new
put-follows others old s gives saved lane was next new after from file n f = by-step
    (λ g. CallNames s.file (syncs.sync_next g) → puts.Follows g lane saved was next new after → NamesStep others old next new)
    (λ call k l. step-to others old (nexts.Send call) (putting.Saves saved) next new l.0 l.1
    (record { asked = subst (λ (d : List ℕ). NamesFile d call) (sym file) k; kept = on }))
    (λ k l. step-to others old nexts.Wait (putting.Saves saved) next new l.0 l.1 (record { asked = tt; kept = on }))
    (λ result k l. step-done others old _ next new l.next_is)
    gives n f
  where
    on : 1 ≤ others → (c : Call) → PutNames old c → NamesFile saved.file c
    on some c e = subst (λ (d : List ℕ). NamesFile d c) (sym file) (from some c e)

-- nothing is claimed of a COMMIT here
same-file : (wsize xid : ℕ) (room by_reply : Bool) (s : Saving) (back : _) (next : _) (new : Saving) (after : _) → saves.Goes wsize xid room by_reply s back next new after
    → new.file ≡ s.file
same-file wsize xid room by_reply s back next new after g = (goes-steps (Unit {0}) wsize xid room by_reply s back next new after (λ again. tt) g).file

put-queues : (b : Bool) (others : ℕ) (old : Putting) (wsize lane : ℕ) (turn : Turn) (s : Saving) (was : Shelf) (next : Step) (new : Putting) (after : Shelf) → FromSave others old s.file
    → puts.QueuesIf b wsize lane turn s was next new after → NamesStep others old next new
put-queues true others old wsize lane turn s was next new after from q =
    put-follows others old s q.gives q.saved lane q.gone next new after from
    (same-file wsize turn.xid turn.room false s was.back q.gives q.saved q.gone.back q.goes)
    (goes-names wsize turn.xid turn.room false s was.back q.gives q.saved q.gone.back q.goes) q.follows
put-queues false others old wsize lane turn s was next new after from q =
    step-to others old nexts.Wait (putting.Saves s) next new q.next_is q.state_is (record { asked = tt; kept = from })

after-write : (told : Step) (others : ℕ) (old : Putting) (written : Writing) (wsize lane : ℕ) (file : List ℕ) (turn : Turn) (was : Shelf) (next : Step) (new : Putting) (after : Shelf)
    → Plain told others (of_writing written) → puts.AfterWrite told wsize lane file turn was next new after → NamesStep others old next new
after-write (nexts.Send call) others old written wsize lane file turn was next new after c a = step-plain others old next new (putting.Adds file) a.1 (λ k. tt)
after-write nexts.Wait others old written wsize lane file turn was next new after c a = step-plain others old next new (putting.Adds file) a.1 (λ k. tt)
after-write (nexts.Done (answers.Done value)) others old written wsize lane file turn was next new after c a =
    put-queues (is_first lane (joined lane file was).order) others old wsize lane turn (saves.begun file was.seq) (joined lane file was) next new after
    (λ some. absurd (let none : others ≡ 0 = c in omega (arith, none, some))) a
after-write (nexts.Done (answers.Refused fault)) others old written wsize lane file turn was next new after c a = step-done others old _ next new a.next_is

writes-on : (wsize : ℕ) (m : PutFile) (file : List ℕ) (turn : Turn) (told : Step) (written : Writing) (mid : Shelf) (next : Step) (new : PutFile) (after : Shelf) (others : ℕ) (old : Putting)
    → Plain told others (of_writing written) → puts.WritesOn wsize m file turn told written mid next new after → NamesStep others old next new.state
writes-on wsize m file turn told written mid next new after others old c w = after-write told others old written wsize m.write.lane file turn mid next new.state after c w.follows

put-resumes : (at : Putting) (wsize : ℕ) (m : PutFile) (turn : Turn) (was : Shelf) (next : Step) (new : PutFile) (after : Shelf) → m.state ≡ at
    → puts.Resumes at wsize m turn was next new after → NamesStep (of_putting at m.opening m.write.state) at next new.state
put-resumes putting.Idle wsize m turn was next new after is r = step-waits 0 putting.Idle next new.state r.next_is (ap (λ (p : PutFile). p.state) r.machine_is ∙ is)
put-resumes putting.Opens wsize m turn was next new after is r =
    step-plain (of_opening m.opening) putting.Opens next new.state putting.Opens (ap (λ (p : PutFile). p.state) r.1 ∙ is) (λ c. tt)
put-resumes (putting.Adds file) wsize m turn was next new after is r =
    writes-on wsize m file turn r.told r.written r.mid next new after (of_writing m.write.state) (putting.Adds file)
    (write-resumes m.write.state wsize m.write.lane turn was r.told r.written r.mid r.resumes) r.goes
put-resumes (putting.Saves s) wsize m turn was next new after is r =
    put-queues (is_first m.write.lane was.order) (of_saving s) (putting.Saves s) wsize m.write.lane turn s was next new.state after (λ some c e. e) r.0

after-opening : (step : OpeningStep) (wsize : ℕ) (m : PutFile) (turn : Turn) (was : Shelf) (next : Step) (new : PutFile) (after : Shelf) (others : ℕ) (old : Putting) → m.state ≡ putting.Opens
    → OpeningCounts step others (of_opening m.opening) → puts.AfterOpening step wsize m turn was next new after → NamesStep others old next new.state
after-opening (openings.Send call) wsize m turn was next new after others old is c a =
    step-plain others old next new.state putting.Opens (ap (λ (p : PutFile). p.state) a.1 ∙ is) (λ k. tt)
after-opening openings.Wait wsize m turn was next new after others old is c a =
    step-plain others old next new.state putting.Opens (ap (λ (p : PutFile). p.state) a.machine_is ∙ is) (λ k. tt)
after-opening (openings.Ended (Ok file)) wsize m turn was next new after others old is c a =
    subst (λ (n : ℕ). NamesStep n old next new.state) (sym c)
    (writes-on wsize m file turn a.told a.written a.mid next new after 0 old
    (writes-leave wsize m.write.lane file m.write.offset (made_bytes m.write.text) turn (puts.put_at m.write.lane file was) a.told a.written a.mid a.writes) a.goes)
after-opening (openings.Ended (Err fault)) wsize m turn was next new after others old is c a = step-done others old _ next new.state a.0

put-takes : (at : Putting) (wsize : ℕ) (m : PutFile) (sent turn : Turn) (came : Result Reply Fault) (was : Shelf) (next : Step) (new : PutFile) (after : Shelf) (others : ℕ)
    → m.state ≡ at → of_putting at m.opening m.write.state ≡ others + 1 → puts.Takes at wsize m sent turn came was next new after → NamesStep others at next new.state
put-takes putting.Idle wsize m sent turn came was next new after others is one t = absurd (omega (arith, one))
put-takes putting.Opens wsize m sent turn came was next new after others is one t =
    let again = opening.opening_again m.opening sent turn came was.repeats in
    after-opening t.step wsize (puts.led again m turn came t.took.attrs was.pages) turn t.took next new after others putting.Opens is
    (opening-took again m.opening sent turn (opening.led_on m.opening turn.now came t.took.attrs was.pages) t.step was.pages t.took.pages others one t.leads) t.follows
put-takes (putting.Adds file) wsize m sent turn came was next new after others is one t =
    writes-on wsize m file turn t.told t.written t.mid next new after others (putting.Adds file)
    (write-takes m.write.state wsize m.write sent turn came was t.told t.written t.mid others one t.takes) t.goes
put-takes (putting.Saves s) wsize m sent turn came was next new after others is one t =
    put-follows others (putting.Saves s) s t.0.gives t.0.saved m.write.lane t.0.took next new.state after (λ some c e. e)
    (takes-steps (Unit {0}) wsize sent turn came was.repeats s was.back t.0.gives t.0.saved t.0.took.back t.0.took.repeats others one (λ again. tt) (λ idle verf told. tt) t.0.takes).file
    (takes-names wsize sent turn came was.repeats s was.back t.0.gives t.0.saved t.0.took.back t.0.took.repeats t.0.takes) t.0.follows

-- ---- any operation: of the others nothing is said

abbrev pub OpenerNames : Bool → Opener → Call → Type 0
OpenerNames true (openers.Open m) call = Unit {0}
OpenerNames true (openers.Put m) call = PutNames m.state call
OpenerNames false opener call = Unit {0}

abbrev pub Names : Machine → Call → Type 0
Names (machines.File m) call = Unit {0}
Names (machines.Path m) call = OpenerNames m.arrived m.opener call
Names (machines.Name m) call = Unit {0}

record Named (others : ℕ) (old : Machine) (next : Step) (new : Machine) : Type 0 where
  pub asked : AskedOf Names next new
  pub kept : KeptOf Names others old next new

named-as : (others : ℕ) (old to : Machine) (next : Step) (new : Machine) → new ≡ to → Named others old next to → Named others old next new
named-as others old to next new is e = subst (λ (m : Machine). Named others old next m) (sym is) e

plain-named : (others : ℕ) (old new : Machine) (next : Step) → ((call : Call) → Names new call) → Named others old next new
plain-named others old new (nexts.Send call) any = record { asked = any call; kept = λ some c e. any c }
plain-named others old new nexts.Wait any = record { asked = tt; kept = λ some c e. any c }
plain-named others old new (nexts.Done answer) any = record { asked = tt; kept = tt }

-- ---- opens and puts on their way

same-put : (a b : PutFile) → files.Put a ≡ files.Put b → b ≡ a
same-put a b e = cc

not-put : (m : OpenFile) (q : PutFile) → files.Put q ≡ files.Open m → ⊥
not-put m q e = cc

-- with the opener that it has then
opener-as : (others : ℕ) (m : PathMachine) (opener to : Opener) (next : Step) (new : PathMachine) (old : Machine) → new ≡ record m { opener = opener } → opener ≡ to
    → Named others old next (machines.Path (record m { opener = to })) → Named others old next (machines.Path new)
opener-as others m opener to next new old is at e =
    subst (λ (n : PathMachine). Named others old next (machines.Path n)) (sym is)
    (subst (λ (o : Opener). Named others old next (machines.Path (record m { opener = o }))) (sym at) e)

open-any : (b : Bool) (o : OpenFile) (call : Call) → OpenerNames b (openers.Open o) call
open-any true o call = tt
open-any false o call = tt

-- a put that has its directory
put-named : (others : ℕ) (m : PathMachine) (p q : PutFile) (next : Step) (old : Machine) → m.arrived ≡ true → NamesStep others p.state next q.state
    → ((c : Call) → Names old c → PutNames p.state c) → Named others old next (machines.Path (record m { opener = openers.Put q }))
put-named others m p q next old there s was = by next s.asked s.kept
  where
    here : (c : Call) → PutNames q.state c → OpenerNames m.arrived (openers.Put q) c
    here c e = subst (λ (b : Bool). OpenerNames b (openers.Put q) c) (sym there) e

    by : (n : Step) → AskedOf PutNames n q.state → KeptOf PutNames others p.state n q.state → Named others old n (machines.Path (record m { opener = openers.Put q }))
    by (nexts.Send call) a k = record { asked = here call a; kept = λ some c e. here c (k some c (was c e)) }
    by nexts.Wait a k = record { asked = tt; kept = λ some c e. here c (k some c (was c e)) }
    by (nexts.Done answer) a k = record { asked = tt; kept = tt }

then-named : (wsize : ℕ) (m : PathMachine) (turn : Turn) (was : Shelf) (next : Step) (new : PathMachine) (after : Shelf) (old : Machine) → m.arrived ≡ true
    → ((p : PutFile) → m.opener ≡ openers.Put p → (c : Call) → Names old c → PutNames p.state c) → paths.ThenResumes wsize m turn was next new after
    → Named (of_file (file_of m.opener)) old next (machines.Path new)
then-named wsize m turn was next new after old there names t = by m.opener t.opener refl refl t.step
  where
    by : (o k : Opener) → m.opener ≡ o → t.opener ≡ k → steps.Resumes wsize (file_of o) turn was next (file_of k) after → Named (of_file (file_of o)) old next (machines.Path new)
    by o (openers.Open k) at to step = opener-as (of_file (file_of o)) m t.opener (openers.Open k) next new old t.machine_is to (plain-named _ old _ next (open-any m.arrived k))
    by (openers.Open o) (openers.Put q) at to step = absurd (not-put _ q step.machine_is)
    by (openers.Put p) (openers.Put q) at to step =
        let s = put-resumes p.state wsize p turn was next step.machine after refl step.step in
        opener-as (of_put p) m t.opener (openers.Put q) next new old t.machine_is to
        (put-named (of_put p) m p q next old there (subst (λ (k : PutFile). NamesStep (of_put p) p.state next k.state) (same-put q step.machine step.machine_is) s) (names p at))

walking-names : (m : PathMachine) → m.arrived ≡ false → (c : Call) → Names (machines.Path m) c
walking-names m on_way c = subst (λ (b : Bool). OpenerNames b m.opener c) (sym on_way) tt

placed-names : (dir : List ℕ) (o : Opener) (p : PutFile) → placed dir o ≡ openers.Put p → (c : Call) → PutNames p.state c
placed-names dir (openers.Open m) p is c = absurd (cc)
placed-names dir (openers.Put m) p is c = let same : putting.Opens ≡ p.state = ap state_of is in subst (λ (s : Putting). PutNames s c) same tt
  where
    state_of : Opener → Putting
    state_of (openers.Open m) = putting.Idle
    state_of (openers.Put m) = m.state

follows-named : (step : WalkStep) (wsize : ℕ) (m : PathMachine) (turn : Turn) (was : Shelf) (next : Step) (new : PathMachine) (after : Shelf) (others : ℕ) (old : Machine) → m.arrived ≡ false
    → WalkCounts step others (of_walk m.walk) → paths.Follows step wsize m turn was next new after → Named others old next (machines.Path new)
follows-named (walks.Send call) wsize m turn was next new after others old on_way c f =
    subst (λ (n : PathMachine). Named others old next (machines.Path n)) (sym f.1) (plain-named others old (machines.Path m) next (walking-names m on_way))
follows-named walks.Wait wsize m turn was next new after others old on_way c f =
    subst (λ (n : PathMachine). Named others old next (machines.Path n)) (sym f.1) (plain-named others old (machines.Path m) next (walking-names m on_way))
follows-named (walks.At dir) wsize m turn was next new after others old on_way c f =
    subst (λ (n : ℕ). Named n old next (machines.Path new)) (placed-none dir m.opener ∙ sym c.0)
    (then-named wsize (record m { opener = placed dir m.opener; arrived = true }) turn was next new after old refl (λ p is k e. placed-names dir m.opener p is k) f)
follows-named (walks.Refused fault) wsize m turn was next new after others old on_way c f =
    subst (λ (n : Step). Named others old n (machines.Path new)) (sym f.0) (record { asked = tt; kept = tt })

-- what an arrived put waits for names the file of its save
pub arrived-names : (m : PathMachine) → m.arrived ≡ true → (p : PutFile) → m.opener ≡ openers.Put p → (c : Call) → Names (machines.Path m) c → PutNames p.state c
arrived-names m there p is c e = subst (λ (o : Opener). OpenerNames true o c) is (subst (λ (b : Bool). OpenerNames b m.opener c) there e)

path-resumes : (b : Bool) (wsize : ℕ) (m : PathMachine) (turn : Turn) (was : Shelf) (next : Step) (new : PathMachine) (after : Shelf) → m.arrived ≡ b
    → paths.PathResumes b wsize m turn was next new after → Named (of_path m) (machines.Path m) next (machines.Path new)
path-resumes true wsize m turn was next new after is r =
    subst (λ (n : ℕ). Named n (machines.Path m) next (machines.Path new)) (sym (path-file m is))
    (then-named wsize m turn was next new after (machines.Path m) is (arrived-names m is) r)
path-resumes false wsize m turn was next new after is r =
    subst (λ (n : ℕ). Named n (machines.Path m) next (machines.Path new)) (sym (path-walk m is))
    (follows-named (walking.go_next m.walk turn was) wsize (record m { walk = walking.go_after m.walk turn was }) turn (walking.go_shelf m.walk turn was) next new after (of_walk m.walk)
    (machines.Path m) is (walk-counts m.walk turn was) r)

path-starts : (taken : Bool) (wsize : ℕ) (m : PathMachine) (turn : Turn) (was : Shelf) (next : Step) (new : PathMachine) (after : Shelf)
    → paths.StartsIf taken wsize m turn was next new after → AskedOf Names next (machines.Path new)
path-starts true wsize m turn was next new after s = subst (λ (n : Step). AskedOf Names n (machines.Path new)) (sym s.0) tt
path-starts false wsize m turn was next new after s = (path-resumes m.arrived wsize (record m { opener = begun_at (turn.moment - 1) m.opener }) turn was next new after refl s).asked

path-takes : (b : Bool) (wsize : ℕ) (m : PathMachine) (sent turn : Turn) (came : Result Reply Fault) (was : Shelf) (next : Step) (new : PathMachine) (after : Shelf) (others : ℕ) → m.arrived ≡ b
    → of_path m ≡ others + 1 → paths.PathTakes b wsize m sent turn came was next new after → Named others (machines.Path m) next (machines.Path new)
path-takes true wsize m sent turn came was next new after others is one t = by m.opener t.opener refl refl (sym (path-file m is) ∙ one) t.step
  where
    by : (o k : Opener) → m.opener ≡ o → t.opener ≡ k → of_file (file_of o) ≡ others + 1 → steps.Takes wsize (file_of o) sent turn came was next (file_of k) after
        → Named others (machines.Path m) next (machines.Path new)
    by o (openers.Open k) at to count step =
        opener-as others m t.opener (openers.Open k) next new (machines.Path m) t.machine_is to (plain-named others (machines.Path m) _ next (open-any m.arrived k))
    by (openers.Open o) (openers.Put q) at to count step = absurd (not-put _ q step.machine_is)
    by (openers.Put p) (openers.Put q) at to count step =
        let s = put-takes p.state wsize p sent turn came was next step.machine after others refl count step.step in
        opener-as others m t.opener (openers.Put q) next new (machines.Path m) t.machine_is to
        (put-named others m p q next (machines.Path m) is (subst (λ (k : PutFile). NamesStep others p.state next k.state) (same-put q step.machine step.machine_is) s) (arrived-names m is p at))
path-takes false wsize m sent turn came was next new after others is one t =
    let took = walk-takes m.walk sent turn came was t.step t.walked.walk t.heard others (sym (path-walk m is) ∙ one) t.takes in
    follows-named t.step wsize t.walked turn t.heard next new after others (machines.Path m) (ap (λ (w : PathMachine). w.arrived) t.walked_is ∙ is)
    (took-counts others t.step t.walked.walk took) t.follows

-- ---- the laws

any-file : (others : ℕ) (old : Machine) (next : Step) (new : Machine) (to : FileMachine) → new ≡ machines.File to → Named others old next new
any-file others old next new to is = named-as others old (machines.File to) next new is (plain-named others old (machines.File to) next (λ c. tt))

starts-named : (m : Machine) (wsize : ℕ) (turn : Turn) (old : Shelf) (next : Step) (new : Machine) (after : Shelf) → Starts wsize m turn old next new after → AskedOf Names next new
starts-named (machines.File m) wsize turn old next new after s = (any-file 0 (machines.File m) next new s.machine s.machine_is).asked
starts-named (machines.Path m) wsize turn old next new after s =
    subst (λ (k : Machine). AskedOf Names next k) (sym s.machine_is) (path-starts (slot_taken m.opener old.opens) wsize m turn old next s.machine after s.step)
starts-named (machines.Name m) wsize turn old next new after s =
    (named-as 0 (machines.Name m) (machines.Name s.machine) next new s.machine_is (plain-named 0 _ _ next (λ c. tt))).asked

resumes-named : (m : Machine) (wsize : ℕ) (turn : Turn) (old : Shelf) (next : Step) (new : Machine) (after : Shelf) → Resumes wsize m turn old next new after → Named (in_flight m) m next new
resumes-named (machines.File m) wsize turn old next new after s = any-file _ (machines.File m) next new s.machine s.machine_is
resumes-named (machines.Path m) wsize turn old next new after s =
    named-as (of_path m) (machines.Path m) (machines.Path s.machine) next new s.machine_is (path-resumes m.arrived wsize m turn old next s.machine after refl s.step)
resumes-named (machines.Name m) wsize turn old next new after s =
    named-as _ (machines.Name m) (machines.Name s.machine) next new s.machine_is (plain-named _ _ _ next (λ c. tt))

takes-named : (m : Machine) (wsize : ℕ) (sent turn : Turn) (came : Result Reply Fault) (old : Shelf) (next : Step) (new : Machine) (after : Shelf) (others : ℕ) → in_flight m ≡ others + 1
    → Takes wsize m sent turn came old next new after → Named others m next new
takes-named (machines.File m) wsize sent turn came old next new after others one s = any-file others (machines.File m) next new s.machine s.machine_is
takes-named (machines.Path m) wsize sent turn came old next new after others one s =
    named-as others (machines.Path m) (machines.Path s.machine) next new s.machine_is (path-takes m.arrived wsize m sent turn came old next s.machine after others refl one s.step)
takes-named (machines.Name m) wsize sent turn came old next new after others one s =
    named-as others (machines.Name m) (machines.Name s.machine) next new s.machine_is (plain-named others _ _ next (λ c. tt))

pub names-laws : ExpectLaws Names
names-laws = record {
  starts = λ m wsize turn old next new after s. starts-named m wsize turn old next new after s;
  resumes = λ m wsize turn old next new after s. let e = resumes-named m wsize turn old next new after s in (e.asked, e.kept);
  takes = λ m wsize sent turn came old next new after others one s. let e = takes-named m wsize sent turn came old next new after others one s in (e.asked, e.kept);
}
