-- A put, step by step: its walk leads to its directory, its opening to its file, and its save is of that file.
use Rattle.core_answers.proofs.Prelude.{◌≡◌, ◌-◌, ℕ, Bool, true, false, List, [], ◌∷◌, ◌++◌, length, take, Result, Ok, Err, refl, sym, ap, subst, ◌∙◌, arith, Fault, Entry, Call, Reply, is_first, Step, Shelf, Turn, Opening, OpeningStep, PutFile, Putting, Saving, Writing, joined, by-step, Walk, WalkStep, walk_of, Mounted, Machine, Opener, PathMachine, IsNamed, front_of, last_of, file_of, PathOr, PutAwaits, WalkMoves, go-step, took-step, NamesTold, LeadsTo, leads-later, WalkLeads, walk-later, go-leads, took-leads, end-leads, IsHeard}
use Rattle.nfs_types.specs.declared.mode.Mode.TheVariants as modes
use Rattle.world_model.specs.declared.answer.Answer.TheVariants as answers
use Rattle.world_model.specs.Leads as leads
use Rattle.client_shelf.specs.declared.step.Step.TheVariants as nexts
use Rattle.file_ops.specs.declared.opening.OpeningStep.TheVariants as openings
use Rattle.file_ops.specs.declared.put_file.Putting.TheVariants as putting
use Rattle.file_ops.specs.Opening as opening
use Rattle.file_ops.specs.PutFile as puts
use Rattle.file_ops.specs.Saves as saves
use Rattle.file_ops.specs.Syncs as syncs
use Rattle.name_ops.specs.declared.walk.WalkStep.TheVariants as walks
use Rattle.name_ops.specs.Walking as walking
use Rattle.op_machines.specs.declared.file_machine.FileMachine.TheVariants as files
use Rattle.op_machines.specs.declared.machine.Machine.TheVariants as machines
use Rattle.op_machines.specs.declared.opener.Opener.TheVariants as openers
use Rattle.op_machines.specs.PathSteps as paths
use Rattle.core_answers.proofs.asks.PutOpenings.{PutOpening, PutNext, go-opening, took-next, first-opening, opening-later}
use Rattle.core_answers.proofs.asks.SavedCalls.{SavesOn, goes-on, takes-on}

-- ---- which opener it is

pub put-of : (k : Opener) (p : PutFile) → file_of k ≡ files.Put p → k ≡ openers.Put p
put-of (openers.Put a) p is = ap openers.Put (same a p is)
  where
    same : (a b : PutFile) → files.Put a ≡ files.Put b → a ≡ b
    same a b e = cc
put-of (openers.Open a) p is = absurd (cc)

-- a put at its first step
abbrev pub begun-put : Mounted → ℕ → List (List ℕ) → ℕ → List ℕ → Turn → PutFile
begun-put m lane path offset text turn =
    let p : PutFile = puts.not_begun lane m.nocto m.root (last_of path) offset text in
    record p { opening = record p.opening { moment = turn.moment - 1 } }

module _ (top : List ℕ) (h : List Entry) (path : List (List ℕ)) where
  -- ---- a put that has its directory

  -- The file at which it is, or which it saves, is the one to which its path leads.
  abbrev pub PutAt : Putting → Opening → Type 0
  PutAt putting.Idle o = Unit {0}
  PutAt putting.Opens o = PutOpening top h path o
  PutAt (putting.Adds file) o = LeadsTo top h path file
  PutAt (putting.Saves s) o = LeadsTo top h path s.file

  state-as : (o : Opening) (to state : Putting) → state ≡ to → PutAt to o → PutAt state o
  state-as o to state is k = subst (λ (s : Putting). PutAt s o) (sym is) k

  follows-at : (o : Opening) (f : List ℕ) (gives : _) (saved : Saving) (lane : ℕ) (was : Shelf) (next : Step) (state : Putting) (after : Shelf) → LeadsTo top h path f
      → SavesOn f (syncs.sync_next gives) saved → puts.Follows gives lane saved was next state after → PutAt state o
  follows-at o f gives saved lane was next state after l k e = by-step
      (λ g. SavesOn f (syncs.sync_next g) saved → puts.Follows g lane saved was next state after → PutAt state o)
      (λ call j e. state-as o (putting.Saves saved) state e.1 (subst (LeadsTo top h path) (sym j.file) l))
      (λ j e. state-as o (putting.Saves saved) state e.1 (subst (LeadsTo top h path) (sym j.file) l))
      (λ result j e. state-as o putting.Idle state e.state_is tt)
      gives k e

  queues-at : (b : Bool) (o : Opening) (wsize lane : ℕ) (turn : Turn) (s : Saving) (was : Shelf) (next : Step) (state : Putting) (after : Shelf) → LeadsTo top h path s.file
      → puts.QueuesIf b wsize lane turn s was next state after → PutAt state o
  queues-at true o wsize lane turn s was next state after l q =
      follows-at o s.file q.gives q.saved lane q.gone next state after l (goes-on s.file wsize turn.xid turn.room false s was.back q.gives q.saved q.gone.back refl q.goes) q.follows
  queues-at false o wsize lane turn s was next state after l q = state-as o (putting.Saves s) state q.state_is l

  write-at : (told : Step) (o : Opening) (wsize lane : ℕ) (file : List ℕ) (turn : Turn) (was : Shelf) (next : Step) (state : Putting) (after : Shelf) → LeadsTo top h path file
      → puts.AfterWrite told wsize lane file turn was next state after → PutAt state o
  write-at (nexts.Send call) o wsize lane file turn was next state after l a = state-as o (putting.Adds file) state a.1 l
  write-at nexts.Wait o wsize lane file turn was next state after l a = state-as o (putting.Adds file) state a.1 l
  write-at (nexts.Done (answers.Done value)) o wsize lane file turn was next state after l a =
      queues-at (is_first lane (joined lane file was).order) o wsize lane turn (saves.begun file was.seq) (joined lane file was) next state after l a
  write-at (nexts.Done (answers.Refused fault)) o wsize lane file turn was next state after l a = state-as o putting.Idle state a.state_is tt

  writes-at : (wsize : ℕ) (m : PutFile) (file : List ℕ) (turn : Turn) (told : Step) (written : Writing) (mid : Shelf) (next : Step) (new : PutFile) (after : Shelf) → LeadsTo top h path file
      → puts.WritesOn wsize m file turn told written mid next new after → PutAt new.state new.opening
  writes-at wsize m file turn told written mid next new after l w =
      subst (λ (o : Opening). PutAt new.state o) (sym (ap (λ (p : PutFile). p.opening) w.machine_is))
      (write-at told m.opening wsize m.write.lane file turn mid next new.state after l w.follows)

  -- as it was
  same-put : (m new : PutFile) → new ≡ m → PutAt m.state m.opening → PutAt new.state new.opening
  same-put m new is k = subst (λ (p : PutFile). PutAt p.state p.opening) (sym is) k

  was-at : (m : PutFile) (at : Putting) → m.state ≡ at → PutAt m.state m.opening → PutAt at m.opening
  was-at m at is k = subst (λ (s : Putting). PutAt s m.opening) is k

  resumes-at : (at : Putting) (wsize : ℕ) (m : PutFile) (turn : Turn) (was : Shelf) (next : Step) (new : PutFile) (after : Shelf) → m.state ≡ at → PutAt m.state m.opening
      → puts.Resumes at wsize m turn was next new after → PutAt new.state new.opening
  resumes-at putting.Idle wsize m turn was next new after is k r = same-put m new r.machine_is k
  resumes-at putting.Opens wsize m turn was next new after is k r =
      same-put (record m { opening = opening.go_after m.opening turn }) new r.1
      (state-as (opening.go_after m.opening turn) putting.Opens m.state is (go-opening top h path m.opening turn (was-at m putting.Opens is k)))
  resumes-at (putting.Adds file) wsize m turn was next new after is k r =
      writes-at wsize m file turn r.told r.written r.mid next new after (was-at m (putting.Adds file) is k) r.goes
  resumes-at (putting.Saves s) wsize m turn was next new after is k r =
      subst (λ (o : Opening). PutAt new.state o) (sym (ap (λ (p : PutFile). p.opening) r.1))
      (queues-at (is_first m.write.lane was.order) m.opening wsize m.write.lane turn s was next new.state after (was-at m (putting.Saves s) is k) r.0)

  opening-at : (step : OpeningStep) (wsize : ℕ) (m : PutFile) (turn : Turn) (was : Shelf) (next : Step) (new : PutFile) (after : Shelf) → m.state ≡ putting.Opens
      → PutNext top h path step m.opening → puts.AfterOpening step wsize m turn was next new after → PutAt new.state new.opening
  opening-at (openings.Send call) wsize m turn was next new after is k a = same-put m new a.1 (state-as m.opening putting.Opens m.state is k)
  opening-at openings.Wait wsize m turn was next new after is k a = same-put m new a.machine_is (state-as m.opening putting.Opens m.state is k)
  opening-at (openings.Ended (Ok file)) wsize m turn was next new after is k a = writes-at wsize m file turn a.told a.written a.mid next new after k a.goes
  opening-at (openings.Ended (Err fault)) wsize m turn was next new after is k a = same-put (record m { state = putting.Idle }) new a.1 tt

  takes-at : (at : Putting) (wsize : ℕ) (m : PutFile) (sent turn : Turn) (came : Result Reply Fault) (was : Shelf) (next : Step) (new : PutFile) (after : Shelf) → IsNamed path
      → m.state ≡ at → PutAt m.state m.opening → (at ≡ putting.Opens → IsHeard top h came (opening.call_of m.opening m.opening.step))
      → puts.Takes at wsize m sent turn came was next new after → PutAt new.state new.opening
  takes-at putting.Idle wsize m sent turn came was next new after named is k heard t = same-put m new t.machine_is k
  takes-at putting.Opens wsize m sent turn came was next new after named is k heard t =
      let again = opening.opening_again m.opening sent turn came was.repeats in
      opening-at t.step wsize (puts.led again m turn came t.took.attrs was.pages) turn t.took next new after is
      (took-next top h path again m.opening sent turn turn.now came t.took.attrs was.pages t.step was.pages t.took.pages named (was-at m putting.Opens is k) (heard refl) t.leads) t.follows
  takes-at (putting.Adds file) wsize m sent turn came was next new after named is k heard t =
      writes-at wsize m file turn t.told t.written t.mid next new after (was-at m (putting.Adds file) is k) t.goes
  takes-at (putting.Saves s) wsize m sent turn came was next new after named is k heard t =
      subst (λ (o : Opening). PutAt new.state o) (sym (ap (λ (p : PutFile). p.opening) t.1))
      (follows-at m.opening s.file t.0.gives t.0.saved m.write.lane t.0.took next new.state after (was-at m (putting.Saves s) is k)
      (takes-on s.file wsize sent turn came was.repeats s was.back t.0.gives t.0.saved t.0.took.back t.0.took.repeats refl t.0.takes) t.0.follows)

  -- ---- on its way

  pub record OnWay (w : Walk) (o : Opening) : Type 0 where
    pub walk : WalkLeads top h (front_of path) w
    pub name_is : o.name ≡ last_of path
    pub mode_is : o.mode ≡ modes.W

  -- its walk leads to its directory, and then it goes on
  pub record PutRuns (machine : Machine) : Type 0 where
    pub walk : Walk
    pub p : PutFile
    pub arrived : Bool
    pub is : machine ≡ machines.Path (record { walk = walk; opener = openers.Put p; arrived = arrived })
    pub on_way : arrived ≡ false → OnWay walk p.opening
    pub there : arrived ≡ true → PutAt p.state p.opening

  then-put : (wsize : ℕ) (walk : Walk) (p : PutFile) (turn : Turn) (old : Shelf) (next : Step) (new : PathMachine) (after : Shelf) → PutAt p.state p.opening
      → paths.ThenResumes wsize (record { walk = walk; opener = openers.Put p; arrived = true }) turn old next new after → PutRuns (machines.Path new)
  then-put wsize walk p turn old next new after k t = record {
    walk = walk;
    p = t.step.machine;
    arrived = true;
    is = ap machines.Path (t.machine_is ∙ ap (λ (o : Opener). record { walk = walk; opener = o; arrived = true }) (put-of t.opener t.step.machine t.step.machine_is));
    on_way = λ no_way. absurd (cc);
    there = λ yes_is. resumes-at p.state wsize p turn old next t.step.machine after refl k t.step.step;
  }

  -- where its walk ends with a refusal it has its answer
  follows-put : (step : WalkStep) (wsize : ℕ) (walk : Walk) (p : PutFile) (turn : Turn) (old : Shelf) (next : Step) (new : PathMachine) (after : Shelf) → OnWay walk p.opening → WalkMoves step walk
      → paths.Follows step wsize (record { walk = walk; opener = openers.Put p; arrived = false }) turn old next new after → PutRuns (machines.Path new)
  follows-put step wsize walk p turn old next new after way s f = by step s f
    where
      runs : new ≡ record { walk = walk; opener = openers.Put p; arrived = false } → PutRuns (machines.Path new)
      runs is = record { walk = walk; p = p; arrived = false; is = ap machines.Path is; on_way = λ yes_is. way; there = λ no_way. absurd (cc) }

      by : (w : WalkStep) → WalkMoves w walk → paths.Follows w wsize (record { walk = walk; opener = openers.Put p; arrived = false }) turn old next new after → PutRuns (machines.Path new)
      by (walks.Send call) k g = runs g.1
      by walks.Wait k g = runs g.1
      by (walks.At dir) k g =
          then-put wsize walk (record p {
            opening = record { dir = dir; name = p.opening.name; mode = p.opening.mode; nocto = p.opening.nocto; moment = p.opening.moment; step = opening.first_step p.opening.mode; asked = false; put_off = 0 };
            state = putting.Opens;
          }) turn old next new after
          (first-opening top h path dir p.opening way.name_is way.mode_is
          (subst (λ (d : List ℕ). LeadsTo top h (front_of path) d) (sym k.0) (end-leads top h (front_of path) walk way.walk k.1))) g
      by (walks.Refused fault) k g = runs g.1

  pub put-resumes : (b : Bool) (wsize : ℕ) (walk : Walk) (p : PutFile) (turn : Turn) (old : Shelf) (next : Step) (new : PathMachine) (after : Shelf) → (b ≡ false → OnWay walk p.opening)
      → (b ≡ true → PutAt p.state p.opening) → NamesTold h old.names → paths.PathResumes b wsize (record { walk = walk; opener = openers.Put p; arrived = b }) turn old next new after
      → PutRuns (machines.Path new)
  put-resumes true wsize walk p turn old next new after way there t r = then-put wsize walk p turn old next new after (there refl) r
  put-resumes false wsize walk p turn old next new after way there t r =
      let w = way refl in
      follows-put (walking.go_next walk turn old) wsize (walking.go_after walk turn old) p turn (walking.go_shelf walk turn old) next new after
      (record { walk = go-leads top h (front_of path) walk turn old t w.walk; name_is = w.name_is; mode_is = w.mode_is }) (go-step walk turn old) r

  pub put-takes : (b : Bool) (wsize : ℕ) (walk : Walk) (p : PutFile) (sent turn : Turn) (came : Result Reply Fault) (old : Shelf) (next : Step) (new : PathMachine) (after : Shelf) (call : Call)
      → IsNamed path → (b ≡ false → OnWay walk p.opening) → (b ≡ true → PutAt p.state p.opening) → NamesTold h old.names
      → PathOr b (record { walk = walk; opener = openers.Put p; arrived = b }) call → IsHeard top h came call
      → paths.PathTakes b wsize (record { walk = walk; opener = openers.Put p; arrived = b }) sent turn came old next new after → PutRuns (machines.Path new)
  put-takes true wsize walk p sent turn came old next new after call named way there t e heard k = record {
    walk = walk;
    p = k.step.machine;
    arrived = true;
    is = ap machines.Path (k.machine_is ∙ ap (λ (o : Opener). record { walk = walk; opener = o; arrived = true }) (put-of k.opener k.step.machine k.step.machine_is));
    on_way = λ no_way. absurd (cc);
    there = λ yes_is. takes-at p.state wsize p sent turn came old next k.step.machine after named refl (there refl) (λ opens. subst (IsHeard top h came) (awaited opens) heard) k.step.step;
  }
    where
      awaited : p.state ≡ putting.Opens → call ≡ opening.call_of p.opening p.opening.step
      awaited is = of p.state is e
        where
          of : (s : Putting) → s ≡ putting.Opens → PutAwaits s p.opening call → call ≡ opening.call_of p.opening p.opening.step
          of s at w = subst (λ (q : Putting). PutAwaits q p.opening call) at w
  put-takes false wsize walk p sent turn came old next new after call named way there t e heard k =
      let w = way refl in
      let on : k.walked ≡ record { walk = k.walked.walk; opener = openers.Put p; arrived = false } = k.walked_is in
      follows-put k.step wsize k.walked.walk p turn k.heard next new after
      (record { walk = took-leads top h (front_of path) walk sent turn came old k.step k.walked.walk k.heard call t w.walk e heard k.takes; name_is = w.name_is; mode_is = w.mode_is })
      (took-step walk sent turn came old k.step k.walked.walk k.heard k.takes)
      (subst (λ (m : PathMachine). paths.Follows k.step wsize m turn k.heard next new after) on k.follows)

  -- as it begins
  pub walk-begins : (p : List (List ℕ)) → WalkLeads top h p (walk_of top p)
  walk-begins p = record {
    path_is = refl;
    spot = record {
      few = omega arith;
      leads = leads.root (take (length p - length p) p) top (let none : length p - length p ≡ 0 = omega arith in ap (λ (n : ℕ). take n p) none) refl;
    };
  }

-- ---- one entry more

state-later : (top : List ℕ) (h : List Entry) (e : Entry) (path : List (List ℕ)) (state : Putting) (o : Opening) → PutAt top h path state o → PutAt top (h ++ e ∷ []) path state o
state-later top h e path putting.Idle o k = tt
state-later top h e path putting.Opens o k = opening-later top h e path o k
state-later top h e path (putting.Adds file) o k = leads-later top h e path file k
state-later top h e path (putting.Saves s) o k = leads-later top h e path s.file k

pub runs-later : (top : List ℕ) (h : List Entry) (e : Entry) (path : List (List ℕ)) (machine : Machine) → PutRuns top h path machine → PutRuns top (h ++ e ∷ []) path machine
runs-later top h e path machine k = record {
  walk = k.walk;
  p = k.p;
  arrived = k.arrived;
  is = k.is;
  on_way = λ is. let w = k.on_way is in record { walk = walk-later top h e (front_of path) k.walk w.walk; name_is = w.name_is; mode_is = w.mode_is };
  there = λ is. state-later top h e path k.p.state k.p.opening (k.there is);
}
