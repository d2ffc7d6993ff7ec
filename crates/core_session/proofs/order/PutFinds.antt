-- A put, step by step: its walk leads to its directory, its opening to its file, and its bytes are of that file.
use Rattle.core_session.proofs.Prelude.{◌≡◌, ◌-◌, ℕ, Bool, true, false, List, [], ◌∷◌, ◌++◌, length, take, Result, Ok, Err, refl, sym, ap, subst, ◌∙◌, arith, Fault, Entry, Call, Reply, is_first, Step, Shelf, Turn, Opening, OpeningStep, PutFile, Putting, Saving, WriteFile, Writing, joined, by-step, Walk, WalkStep, walk_of, Machine, Opener, PathMachine, IsNamed, front_of, last_of, PathOr, NamesTold, LeadsTo, leads-later, WalkLeads, end-leads, IsHeard, RoomIs}
use Rattle.core_facts.proofs.AllAwaited.{PutAwaits}
use Rattle.core_facts.proofs.Leading.{walk-later, go-leads, took-leads}
use Rattle.nfs_types.specs.declared.mode.Mode.TheVariants as modes
use Rattle.world_model.specs.declared.answer.Answer.TheVariants as answers
use Rattle.world_model.specs.Leads as leads
use Rattle.client_shelf.specs.declared.step.Step.TheVariants as nexts
use Rattle.file_ops.specs.declared.opening.OpeningStep.TheVariants as openings
use Rattle.file_ops.specs.declared.put_file.Putting.TheVariants as putting
use Rattle.file_ops.specs.declared.write_file.Writing.TheVariants as writing
use Rattle.file_ops.specs.Opening as opening
use Rattle.file_ops.specs.PutFile as puts
use Rattle.file_ops.specs.Saves as saves
use Rattle.file_ops.specs.Syncs as syncs
use Rattle.file_ops.specs.WriteFile as writes
use Rattle.name_ops.specs.declared.walk.WalkStep.TheVariants as walks
use Rattle.name_ops.specs.Walking as walking
use Rattle.op_machines.specs.declared.machine.Machine.TheVariants as machines
use Rattle.op_machines.specs.declared.opener.Opener.TheVariants as openers
use Rattle.op_machines.specs.PathSteps as paths
use Rattle.core_facts.proofs.Awaited.{WalkMoves, go-step, took-step}
use Rattle.core_answers.proofs.asks.PutOpenings.{PutOpening, PutNext, go-opening, took-next, first-opening, opening-later}
use Rattle.core_answers.proofs.asks.SavedCalls.{SavesOn, goes-on, takes-on}
use Rattle.core_answers.proofs.asks.PutSteps.{put-of}
use Rattle.core_session.proofs.order.Adds.{RoomHas, PutHas}
use Rattle.core_session.proofs.order.Rooms.{writes-to, resumes-to, takes-to}

module _ (top : List ℕ) (h : List Entry) (path : List (List ℕ)) where
  -- ---- a put that has its directory

  -- The file at which it is, or which it saves, is the one to which its path leads.
  abbrev pub PutAt : Putting → Opening → Writing → Type 0
  PutAt putting.Idle o w = Unit {0}
  PutAt putting.Opens o w = PutOpening top h path o
  PutAt (putting.Adds file) o w = LeadsTo top h path file × RoomIs (λ f. LeadsTo top h path f) w
  PutAt (putting.Saves s) o w = LeadsTo top h path s.file

  state-as : (o : Opening) (w : Writing) (to state : Putting) → state ≡ to → PutAt to o w → PutAt state o w
  state-as o w to state is k = subst (λ (s : Putting). PutAt s o w) (sym is) k

  follows-at : (o : Opening) (w : Writing) (f : List ℕ) (gives : _) (saved : Saving) (lane : ℕ) (was : Shelf) (next : Step) (state : Putting) (after : Shelf) → LeadsTo top h path f
      → SavesOn f (syncs.sync_next gives) saved → puts.Follows gives lane saved was next state after → PutAt state o w
  follows-at o w f gives saved lane was next state after l k e = by-step
      (λ g. SavesOn f (syncs.sync_next g) saved → puts.Follows g lane saved was next state after → PutAt state o w)
      (λ call j e. state-as o w (putting.Saves saved) state e.1 (subst (LeadsTo top h path) (sym j.file) l))
      (λ j e. state-as o w (putting.Saves saved) state e.1 (subst (LeadsTo top h path) (sym j.file) l))
      (λ result j e. state-as o w putting.Idle state e.state_is tt)
      gives k e

  queues-at : (b : Bool) (o : Opening) (w : Writing) (wsize lane : ℕ) (turn : Turn) (s : Saving) (was : Shelf) (next : Step) (state : Putting) (after : Shelf) → LeadsTo top h path s.file
      → puts.QueuesIf b wsize lane turn s was next state after → PutAt state o w
  queues-at true o w wsize lane turn s was next state after l q =
      follows-at o w s.file q.gives q.saved lane q.gone next state after l (goes-on s.file wsize turn.xid turn.room false s was.back q.gives q.saved q.gone.back refl q.goes) q.follows
  queues-at false o w wsize lane turn s was next state after l q = state-as o w (putting.Saves s) state q.state_is l

  write-at : (told : Step) (o : Opening) (w : Writing) (wsize lane : ℕ) (file : List ℕ) (turn : Turn) (was : Shelf) (next : Step) (state : Putting) (after : Shelf) → LeadsTo top h path file
      → RoomIs (λ f. LeadsTo top h path f) w → puts.AfterWrite told wsize lane file turn was next state after → PutAt state o w
  write-at (nexts.Send call) o w wsize lane file turn was next state after l r a = state-as o w (putting.Adds file) state a.1 (l, r)
  write-at nexts.Wait o w wsize lane file turn was next state after l r a = state-as o w (putting.Adds file) state a.1 (l, r)
  write-at (nexts.Done (answers.Done value)) o w wsize lane file turn was next state after l r a =
      queues-at (is_first lane (joined lane file was).order) o w wsize lane turn (saves.begun file was.seq) (joined lane file was) next state after l a
  write-at (nexts.Done (answers.Refused fault)) o w wsize lane file turn was next state after l r a = state-as o w putting.Idle state a.state_is tt

  writes-at : (wsize : ℕ) (m : PutFile) (file : List ℕ) (turn : Turn) (told : Step) (written : Writing) (mid : Shelf) (next : Step) (new : PutFile) (after : Shelf) → LeadsTo top h path file
      → RoomIs (λ f. LeadsTo top h path f) written → puts.WritesOn wsize m file turn told written mid next new after → PutAt new.state new.opening new.write.state
  writes-at wsize m file turn told written mid next new after l r w =
      subst (λ (o : Opening). PutAt new.state o new.write.state) (sym (ap (λ (p : PutFile). p.opening) w.machine_is))
      (subst (λ (s : Writing). PutAt new.state m.opening s) (sym (ap (λ (p : PutFile). p.write.state) w.machine_is))
      (write-at told m.opening written wsize m.write.lane file turn mid next new.state after l r w.follows))

  -- as it was
  abbrev pub PutStands : PutFile → Type 0
  PutStands m = PutAt m.state m.opening m.write.state

  same-put : (m new : PutFile) → new ≡ m → PutStands m → PutStands new
  same-put m new is k = subst PutStands (sym is) k

  was-at : (m : PutFile) (at : Putting) → m.state ≡ at → PutStands m → PutAt at m.opening m.write.state
  was-at m at is k = subst (λ (s : Putting). PutAt s m.opening m.write.state) is k

  resumes-at : (at : Putting) (wsize : ℕ) (m : PutFile) (turn : Turn) (was : Shelf) (next : Step) (new : PutFile) (after : Shelf) → m.state ≡ at → PutStands m
      → puts.Resumes at wsize m turn was next new after → PutStands new
  resumes-at putting.Idle wsize m turn was next new after is k r = same-put m new r.machine_is k
  resumes-at putting.Opens wsize m turn was next new after is k r =
      same-put (record m { opening = opening.go_after m.opening turn }) new r.1
      (state-as (opening.go_after m.opening turn) m.write.state putting.Opens m.state is (go-opening top h path m.opening turn (was-at m putting.Opens is k)))
  resumes-at (putting.Adds file) wsize m turn was next new after is k r =
      let at = was-at m (putting.Adds file) is k in
      writes-at wsize m file turn r.told r.written r.mid next new after at.0
      (resumes-to (λ f. LeadsTo top h path f) m.write.state wsize m.write.lane turn was r.told r.written r.mid r.resumes at.1) r.goes
  resumes-at (putting.Saves s) wsize m turn was next new after is k r =
      same-put (record m { state = new.state }) new r.1
      (queues-at (is_first m.write.lane was.order) m.opening m.write.state wsize m.write.lane turn s was next new.state after (was-at m (putting.Saves s) is k) r.0)

  opening-at : (step : OpeningStep) (wsize : ℕ) (m : PutFile) (turn : Turn) (was : Shelf) (next : Step) (new : PutFile) (after : Shelf) → m.state ≡ putting.Opens
      → PutNext top h path step m.opening → puts.AfterOpening step wsize m turn was next new after → PutStands new
  opening-at (openings.Send call) wsize m turn was next new after is k a = same-put m new a.1 (state-as m.opening m.write.state putting.Opens m.state is k)
  opening-at openings.Wait wsize m turn was next new after is k a = same-put m new a.machine_is (state-as m.opening m.write.state putting.Opens m.state is k)
  opening-at (openings.Ended (Ok file)) wsize m turn was next new after is k a =
      writes-at wsize m file turn a.told a.written a.mid next new after k
      (writes-to (λ f. LeadsTo top h path f) wsize m.write.lane file m.write.offset (writes.made_bytes m.write.text) turn (puts.put_at m.write.lane file was) a.told a.written a.mid a.writes k) a.goes
  opening-at (openings.Ended (Err fault)) wsize m turn was next new after is k a = same-put (record m { state = putting.Idle }) new a.1 tt

  -- what its opening comes to
  pub opens-next : (wsize : ℕ) (m : PutFile) (sent turn : Turn) (came : Result Reply Fault) (was : Shelf) (next : Step) (new : PutFile) (after : Shelf) → IsNamed path
      → PutOpening top h path m.opening → IsHeard top h came (opening.call_of m.opening m.opening.step) → (t : puts.Takes putting.Opens wsize m sent turn came was next new after)
      → PutNext top h path t.step (opening.opening_after (opening.opening_again m.opening sent turn came was.repeats) m.opening turn (opening.led_on m.opening turn.now came t.took.attrs was.pages))
  opens-next wsize m sent turn came was next new after named k heard t =
      took-next top h path (opening.opening_again m.opening sent turn came was.repeats) m.opening sent turn turn.now came t.took.attrs was.pages t.step was.pages t.took.pages named k heard t.leads

  takes-at : (at : Putting) (wsize : ℕ) (m : PutFile) (sent turn : Turn) (came : Result Reply Fault) (was : Shelf) (next : Step) (new : PutFile) (after : Shelf) → IsNamed path
      → m.state ≡ at → PutStands m → (at ≡ putting.Opens → IsHeard top h came (opening.call_of m.opening m.opening.step))
      → puts.Takes at wsize m sent turn came was next new after → PutStands new
  takes-at putting.Idle wsize m sent turn came was next new after named is k heard t = same-put m new t.machine_is k
  takes-at putting.Opens wsize m sent turn came was next new after named is k heard t =
      opening-at t.step wsize (puts.led (opening.opening_again m.opening sent turn came was.repeats) m turn came t.took.attrs was.pages) turn t.took next new after is
      (opens-next wsize m sent turn came was next new after named (was-at m putting.Opens is k) (heard refl) t) t.follows
  takes-at (putting.Adds file) wsize m sent turn came was next new after named is k heard t =
      let at = was-at m (putting.Adds file) is k in
      writes-at wsize m file turn t.told t.written t.mid next new after at.0
      (takes-to (λ f. LeadsTo top h path f) m.write.state wsize m.write sent turn came was t.told t.written t.mid t.takes at.1) t.goes
  takes-at (putting.Saves s) wsize m sent turn came was next new after named is k heard t =
      same-put (record m { state = new.state }) new t.1
      (follows-at m.opening m.write.state s.file t.0.gives t.0.saved m.write.lane t.0.took next new.state after (was-at m (putting.Saves s) is k)
      (takes-on s.file wsize sent turn came was.repeats s was.back t.0.gives t.0.saved t.0.took.back t.0.took.repeats refl t.0.takes) t.0.follows)

  -- ---- the file to which it adds its bytes

  next-leads : (step : OpeningStep) (o : Opening) (file : List ℕ) → step ≡ openings.Ended (Ok file) → PutNext top h path step o → LeadsTo top h path file
  next-leads step o file is k = subst (λ (s : OpeningStep). PutNext top h path s o) is k

  room-leads : (at : Writing) (wsize : ℕ) (m : WriteFile) (sent turn : Turn) (came : Result Reply Fault) (old : Shelf) (next : Step) (state : Writing) (after : Shelf)
      (t : writes.TakesIn at wsize m sent turn came old next state after) → RoomIs (λ f. LeadsTo top h path f) at → RoomHas (λ f. LeadsTo top h path f) at wsize m sent turn came old next state after t
  room-leads writing.Idle wsize m sent turn came old next state after t r = tt
  room-leads (writing.Room file saving) wsize m sent turn came old next state after t r = λ well. r

  pub put-has : (at : Putting) (wsize : ℕ) (m : PutFile) (sent turn : Turn) (came : Result Reply Fault) (was : Shelf) (next : Step) (new : PutFile) (after : Shelf) → IsNamed path
      → m.state ≡ at → PutStands m → (at ≡ putting.Opens → IsHeard top h came (opening.call_of m.opening m.opening.step))
      → (t : puts.Takes at wsize m sent turn came was next new after) → PutHas (λ f. LeadsTo top h path f) at wsize m sent turn came was next new after t
  put-has putting.Idle wsize m sent turn came was next new after named is k heard t = tt
  put-has putting.Opens wsize m sent turn came was next new after named is k heard t = λ file ends.
      next-leads t.step (opening.opening_after (opening.opening_again m.opening sent turn came was.repeats) m.opening turn (opening.led_on m.opening turn.now came t.took.attrs was.pages)) file ends
      (opens-next wsize m sent turn came was next new after named (was-at m putting.Opens is k) (heard refl) t)
  put-has (putting.Adds file) wsize m sent turn came was next new after named is k heard t =
      room-leads m.write.state wsize m.write sent turn came was t.told t.written t.mid t.takes (was-at m (putting.Adds file) is k).1
  put-has (putting.Saves s) wsize m sent turn came was next new after named is k heard t = tt

  -- ---- on its way

  pub record OnWay (w : Walk) (o : Opening) : Type 0 where
    pub walk : WalkLeads top h (front_of path) w
    pub name_is : o.name ≡ last_of path
    pub mode_is : o.mode ≡ modes.W

  -- its walk leads to its directory, and then it goes on
  pub record PutRuns (machine : Machine) : Type 0 where
    pub walk : Walk
    pub p : PutFile
    pub arrived : Bool
    pub is : machine ≡ machines.Path (record { walk = walk; opener = openers.Put p; arrived = arrived })
    pub on_way : arrived ≡ false → OnWay walk p.opening
    pub there : arrived ≡ true → PutStands p

  then-put : (wsize : ℕ) (walk : Walk) (p : PutFile) (turn : Turn) (old : Shelf) (next : Step) (new : PathMachine) (after : Shelf) → PutStands p
      → paths.ThenResumes wsize (record { walk = walk; opener = openers.Put p; arrived = true }) turn old next new after → PutRuns (machines.Path new)
  then-put wsize walk p turn old next new after k t = record {
    walk = walk;
    p = t.step.machine;
    arrived = true;
    is = ap machines.Path (t.machine_is ∙ ap (λ (o : Opener). record { walk = walk; opener = o; arrived = true }) (put-of t.opener t.step.machine t.step.machine_is));
    on_way = λ no_way. absurd (cc);
    there = λ yes_is. resumes-at p.state wsize p turn old next t.step.machine after refl k t.step.step;
  }

  -- where its walk ends with a refusal it has its answer
  follows-put : (step : WalkStep) (wsize : ℕ) (walk : Walk) (p : PutFile) (turn : Turn) (old : Shelf) (next : Step) (new : PathMachine) (after : Shelf) → OnWay walk p.opening → WalkMoves step walk
      → paths.Follows step wsize (record { walk = walk; opener = openers.Put p; arrived = false }) turn old next new after → PutRuns (machines.Path new)
  follows-put step wsize walk p turn old next new after way s f = by step s f
    where
      runs : new ≡ record { walk = walk; opener = openers.Put p; arrived = false } → PutRuns (machines.Path new)
      runs is = record { walk = walk; p = p; arrived = false; is = ap machines.Path is; on_way = λ yes_is. way; there = λ no_way. absurd (cc) }

      by : (w : WalkStep) → WalkMoves w walk → paths.Follows w wsize (record { walk = walk; opener = openers.Put p; arrived = false }) turn old next new after → PutRuns (machines.Path new)
      by (walks.Send call) k g = runs g.1
      by walks.Wait k g = runs g.1
      by (walks.At dir) k g =
          then-put wsize walk (record p {
            opening = record { dir = dir; name = p.opening.name; mode = p.opening.mode; nocto = p.opening.nocto; moment = p.opening.moment; step = opening.first_step p.opening.mode; asked = false; put_off = 0 };
            state = putting.Opens;
          }) turn old next new after
          (first-opening top h path dir p.opening way.name_is way.mode_is
          (subst (λ (d : List ℕ). LeadsTo top h (front_of path) d) (sym k.0) (end-leads top h (front_of path) walk way.walk k.1))) g
      by (walks.Refused fault) k g = runs g.1

  pub put-resumes : (b : Bool) (wsize : ℕ) (walk : Walk) (p : PutFile) (turn : Turn) (old : Shelf) (next : Step) (new : PathMachine) (after : Shelf) → (b ≡ false → OnWay walk p.opening)
      → (b ≡ true → PutStands p) → NamesTold h old.names → paths.PathResumes b wsize (record { walk = walk; opener = openers.Put p; arrived = b }) turn old next new after
      → PutRuns (machines.Path new)
  put-resumes true wsize walk p turn old next new after way there t r = then-put wsize walk p turn old next new after (there refl) r
  put-resumes false wsize walk p turn old next new after way there t r =
      let w = way refl in
      follows-put (walking.go_next walk turn old) wsize (walking.go_after walk turn old) p turn (walking.go_shelf walk turn old) next new after
      (record { walk = go-leads top h (front_of path) walk turn old t w.walk; name_is = w.name_is; mode_is = w.mode_is }) (go-step walk turn old) r

  pub awaited : (p : PutFile) (call : Call) → p.state ≡ putting.Opens → PutAwaits p.state p.opening call → call ≡ opening.call_of p.opening p.opening.step
  awaited p call is e = of p.state is e
    where
      of : (s : Putting) → s ≡ putting.Opens → PutAwaits s p.opening call → call ≡ opening.call_of p.opening p.opening.step
      of s at w = subst (λ (q : Putting). PutAwaits q p.opening call) at w

  pub put-takes : (b : Bool) (wsize : ℕ) (walk : Walk) (p : PutFile) (sent turn : Turn) (came : Result Reply Fault) (old : Shelf) (next : Step) (new : PathMachine) (after : Shelf) (call : Call)
      → IsNamed path → (b ≡ false → OnWay walk p.opening) → (b ≡ true → PutStands p) → NamesTold h old.names
      → PathOr b (record { walk = walk; opener = openers.Put p; arrived = b }) call → IsHeard top h came call
      → paths.PathTakes b wsize (record { walk = walk; opener = openers.Put p; arrived = b }) sent turn came old next new after → PutRuns (machines.Path new)
  put-takes true wsize walk p sent turn came old next new after call named way there t e heard k = record {
    walk = walk;
    p = k.step.machine;
    arrived = true;
    is = ap machines.Path (k.machine_is ∙ ap (λ (o : Opener). record { walk = walk; opener = o; arrived = true }) (put-of k.opener k.step.machine k.step.machine_is));
    on_way = λ no_way. absurd (cc);
    there = λ yes_is. takes-at p.state wsize p sent turn came old next k.step.machine after named refl (there refl) (λ opens. subst (IsHeard top h came) (awaited p call opens e) heard) k.step.step;
  }
  put-takes false wsize walk p sent turn came old next new after call named way there t e heard k =
      let w = way refl in
      let on : k.walked ≡ record { walk = k.walked.walk; opener = openers.Put p; arrived = false } = k.walked_is in
      follows-put k.step wsize k.walked.walk p turn k.heard next new after
      (record { walk = took-leads top h (front_of path) walk sent turn came old k.step k.walked.walk k.heard call t w.walk e heard k.takes; name_is = w.name_is; mode_is = w.mode_is })
      (took-step walk sent turn came old k.step k.walked.walk k.heard k.takes)
      (subst (λ (m : PathMachine). paths.Follows k.step wsize m turn k.heard next new after) on k.follows)

  -- as it begins
  pub walk-begins : (p : List (List ℕ)) → WalkLeads top h p (walk_of top p)
  walk-begins p = record {
    path_is = refl;
    spot = record {
      few = omega arith;
      leads = leads.root (take (length p - length p) p) top (let none : length p - length p ≡ 0 = omega arith in ap (λ (n : ℕ). take n p) none) refl;
    };
  }

-- ---- one entry more

room-later : (top : List ℕ) (h : List Entry) (e : Entry) (path : List (List ℕ)) (w : Writing) → RoomIs (λ f. LeadsTo top h path f) w → RoomIs (λ f. LeadsTo top (h ++ e ∷ []) path f) w
room-later top h e path writing.Idle r = tt
room-later top h e path (writing.Room file saving) r = leads-later top h e path file r

pub state-later : (top : List ℕ) (h : List Entry) (e : Entry) (path : List (List ℕ)) (state : Putting) (o : Opening) (w : Writing) → PutAt top h path state o w
    → PutAt top (h ++ e ∷ []) path state o w
state-later top h e path putting.Idle o w k = tt
state-later top h e path putting.Opens o w k = opening-later top h e path o k
state-later top h e path (putting.Adds file) o w k = (leads-later top h e path file k.0, room-later top h e path w k.1)
state-later top h e path (putting.Saves s) o w k = leads-later top h e path s.file k

pub runs-later : (top : List ℕ) (h : List Entry) (e : Entry) (path : List (List ℕ)) (machine : Machine) → PutRuns top h path machine → PutRuns top (h ++ e ∷ []) path machine
runs-later top h e path machine k = record {
  walk = k.walk;
  p = k.p;
  arrived = k.arrived;
  is = k.is;
  on_way = λ is. let w = k.on_way is in record { walk = walk-later top h e (front_of path) k.walk w.walk; name_is = w.name_is; mode_is = w.mode_is };
  there = λ is. state-later top h e path k.p.state k.p.opening k.p.write.state (k.there is);
}
