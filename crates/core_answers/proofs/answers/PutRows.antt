-- A put goes well, or is refused for the kind of its file, only where its history shows it.
use Rattle.core_answers.proofs.Prelude.{◌≡◌, ◌+◌, ◌-◌, ℕ, Bool, true, false, List, [], ◌∷◌, ◌++◌, length, take, Result, refl, sym, ap, subst, ◌∙◌, arith, All-nil, Mode, Answer, Fault, Entry, Began, Call, Reply, Op, At, Rooted, Ended, RefusalRow, Terms, IsDelivered, Asked-wide, Rooted-wide, Step, Shelf, Turn, Opening, PutFile, Putting, OpenFile, Writing, Walk, WalkStep, walk_of, Mounted, Machine, Opener, PathMachine, IsNamed, front_of, last_of, machine_of, file_of, Starts, Resumes, Takes, State, Busy, Over, Setup, in_flight, Awaits, awaits-laws, PathOr, begins-unbegun, of_path, WalkMoves, go-step, took-step, all-starts, all-resumes, all-takes, IsNameTold, NamesTold, names-later, LeadsTo, leads-from, leads-later, WalkLeads, go-leads, took-leads, end-leads, walk-later, IsHeard, heard-tells, then-as, ends-later, ends-until, OpeningStory, StepStory, has_to, ThenOf, IsTold, TaleLaws, IsQuiet, AsksFor}
use Rattle.world_model.proofs.Growth.{Committed-grow}
use Rattle.op_machines.specs.Openers.{opening_in}
use Rattle.core_facts.proofs.OpenStory.{not-kind, OpeningTold}
use Rattle.core_facts.proofs.Tales.{reached-answered}
use Rattle.nfs_types.specs.declared.mode.Mode.TheVariants as modes
use Rattle.world_model.specs.declared.answer.Answer.TheVariants as answers
use Rattle.world_model.specs.declared.answer.Fault.TheVariants as faults
use Rattle.world_model.specs.declared.op.Op.TheVariants as ops
use Rattle.claims.specs.Asks as asks
use Rattle.world_model.specs.Leads as leads
use Rattle.claims.specs.OkRows.{OkRow}
use Rattle.world_model.specs.Commits.{Committed}
use Rattle.client_shelf.specs.declared.step.Step.TheVariants as nexts
use Rattle.file_ops.specs.declared.put_file.Putting.TheVariants as putting
use Rattle.file_ops.specs.Opening as opening
use Rattle.file_ops.specs.PutFile as puts
use Rattle.name_ops.specs.declared.walk.WalkStep.TheVariants as walks
use Rattle.name_ops.specs.Walking as walking
use Rattle.op_machines.specs.declared.file_machine.FileMachine.TheVariants as files
use Rattle.op_machines.specs.declared.machine.Machine.TheVariants as machines
use Rattle.op_machines.specs.declared.opener.Opener.TheVariants as openers
use Rattle.op_machines.specs.PathSteps as paths
use Rattle.core_facts.proofs.Expecting.{Expects, OpenerExpects}
use Rattle.core_facts.proofs.Syncing.{committed-later}
use Rattle.core_answers.specs.answers.PutRows.{PutsShown, PutKindsShown}
use Rattle.core_answers.proofs.answers.Both.{Both, both-laws, expects-laws}
use Rattle.core_answers.proofs.answers.PutNames.{Names, OpenerNames, names-laws}
use Rattle.core_answers.proofs.answers.PutOpens.{story-later}
use Rattle.core_answers.proofs.answers.PutRuns.{NotKind, fault-fine, PutAt, PutAnswer, other-answer, PutShown, PutKind, StateAt, put-resumes, put-takes}
use Rattle.core_answers.proofs.answers.WalkFaults.{LookFaults, FineWalk, go-walk-fine, took-walk-fine}

-- for which calls a put waits
abbrev Waited : Machine → Call → Type 0
Waited = Both Awaits (Both Expects Names)

abbrev OpenerWaits : Bool → Opener → Call → Type 0
OpenerWaits b opener call = OpenerExpects b opener call × OpenerNames b opener call

abbrev WaitedPath : Bool → PathMachine → Call → Type 0
WaitedPath b m call = PathOr b m call × OpenerWaits b m.opener call

put-of : (k : Opener) (p : PutFile) → file_of k ≡ files.Put p → k ≡ openers.Put p
put-of (openers.Put a) p is = ap openers.Put (same a p is)
  where
    same : (a b : PutFile) → files.Put a ≡ files.Put b → a ≡ b
    same a b e = cc
put-of (openers.Open a) p is = absurd (no_put a p is)
  where
    no_put : (a : OpenFile) (b : PutFile) → files.Open a ≡ files.Put b → ⊥
    no_put a b e = cc

look : LookFaults NotKind
look = record { nfs = λ status. tt; bad = tt }

module _ (top : List ℕ) (h : List Entry) (x : ℕ) (path : List (List ℕ)) where
  -- ---- on its way

  pub record OnWay (walk : Walk) (p : PutFile) : Type 0 where
    pub leads : WalkLeads top h (front_of path) walk
    pub name_is : p.opening.name ≡ last_of path
    pub mode_is : p.opening.mode ≡ modes.W

  -- a walk leads to its directory, and then it opens its file
  pub record PutRuns (machine : Machine) : Type 0 where
    pub walk : Walk
    pub opener : PutFile
    pub arrived : Bool
    pub is : machine ≡ machines.Path (record { walk = walk; opener = openers.Put opener; arrived = arrived })
    pub on_way : arrived ≡ false → OnWay walk opener
    pub there : arrived ≡ true → PutAt top h x path opener

  abbrev pub StepIs : Step → Machine → Type 0
  StepIs next new = ThenOf PutRuns (PutAnswer top h x path) next new

  path-then : (next : Step) (p : PutFile) (walk : Walk) (new : Machine) → new ≡ machines.Path (record { walk = walk; opener = openers.Put p; arrived = true })
      → ThenOf (PutAt top h x path) (PutAnswer top h x path) next p → StepIs next new
  path-then next p walk new is t = by next t
    where
      runs : PutAt top h x path p → PutRuns new
      runs at = record { walk = walk; opener = p; arrived = true; is = is; on_way = λ no_way. absurd (cc); there = λ yes_is. at }

      by : (k : Step) → ThenOf (PutAt top h x path) (PutAnswer top h x path) k p → StepIs k new
      by (nexts.Send call) at = runs at
      by nexts.Wait at = runs at
      by (nexts.Done answer) a = a

  then-put : (wsize : ℕ) (walk : Walk) (p : PutFile) (turn : Turn) (old : Shelf) (next : Step) (new : PathMachine) (after : Shelf) → PutAt top h x path p
      → paths.ThenResumes wsize (record { walk = walk; opener = openers.Put p; arrived = true }) turn old next new after → StepIs next (machines.Path new)
  then-put wsize walk p turn old next new after at t =
      path-then next t.step.machine walk (machines.Path new)
      (ap machines.Path (t.machine_is ∙ ap (λ (k : Opener). record { walk = walk; opener = k; arrived = true }) (put-of t.opener t.step.machine t.step.machine_is)))
      (put-resumes top h x path p.state wsize p turn old next t.step.machine after refl at t.step.step)

  -- it starts at its directory
  first-story : (dir : List ℕ) (o : Opening) → o.name ≡ last_of path → o.mode ≡ modes.W → LeadsTo top h (front_of path) dir
      → OpeningStory top h x path modes.W (opening_in dir o)
  first-story dir o name_is mode_is l = record { name_is = name_is; mode_is = mode_is; leads = l; step = by o.mode mode_is }
    where
      by : (m : Mode) → m ≡ modes.W → StepStory top h x path modes.W dir (opening.first_step m)
      by modes.X is = has_to (sym is)
      by modes.R is = tt
      by modes.W is = tt
      by modes.RW is = tt
      by modes.C is = tt

  follows-put : (step : WalkStep) (wsize : ℕ) (walk : Walk) (p : PutFile) (turn : Turn) (old : Shelf) (next : Step) (new : PathMachine) (after : Shelf) → OnWay walk p → WalkMoves step walk
      → FineWalk NotKind step → paths.Follows step wsize (record { walk = walk; opener = openers.Put p; arrived = false }) turn old next new after → StepIs next (machines.Path new)
  follows-put step wsize walk p turn old next new after way s none f = by step s none f
    where
      runs : new ≡ record { walk = walk; opener = openers.Put p; arrived = false } → PutRuns (machines.Path new)
      runs is = record { walk = walk; opener = p; arrived = false; is = ap machines.Path is; on_way = λ yes_is. way; there = λ no_way. absurd (cc) }

      by : (k : WalkStep) → WalkMoves k walk → FineWalk NotKind k → paths.Follows k wsize (record { walk = walk; opener = openers.Put p; arrived = false }) turn old next new after → StepIs next (machines.Path new)
      by (walks.Send call) k z g = then-as PutRuns (PutAnswer top h x path) (nexts.Send call) next (machines.Path new) g.0 (runs g.1)
      by walks.Wait k z g = then-as PutRuns (PutAnswer top h x path) nexts.Wait next (machines.Path new) g.0 (runs g.1)
      by (walks.At dir) k z g =
          then-put wsize walk (record p { opening = opening_in dir p.opening; state = putting.Opens }) turn old next new after
          (first-story dir p.opening way.name_is way.mode_is (subst (LeadsTo top h (front_of path)) (sym k.0) (end-leads top h (front_of path) walk way.leads k.1))) g
      by (walks.Refused fault) k z g = then-as PutRuns (PutAnswer top h x path) (nexts.Done (answers.Refused fault)) next (machines.Path new) g.0 (other-answer top h x path fault z)

  -- ---- each step

  pub put-goes : (b : Bool) (wsize : ℕ) (walk : Walk) (p : PutFile) (turn : Turn) (old : Shelf) (next : Step) (new : PathMachine) (after : Shelf) → (b ≡ false → OnWay walk p)
      → (b ≡ true → PutAt top h x path p) → NamesTold h old.names → paths.PathResumes b wsize (record { walk = walk; opener = openers.Put p; arrived = b }) turn old next new after
      → StepIs next (machines.Path new)
  put-goes true wsize walk p turn old next new after way at t r = then-put wsize walk p turn old next new after (at refl) r
  put-goes false wsize walk p turn old next new after way at t r =
      let w = way refl in
      follows-put (walking.go_next walk turn old) wsize (walking.go_after walk turn old) p turn (walking.go_shelf walk turn old) next new after
      (record { leads = go-leads top h (front_of path) walk turn old t w.leads; name_is = w.name_is; mode_is = w.mode_is }) (go-step walk turn old) (go-walk-fine NotKind walk turn old) r

  pub put-hears : (b : Bool) (wsize : ℕ) (walk : Walk) (p : PutFile) (sent turn : Turn) (came : Result Reply Fault) (old : Shelf) (next : Step) (new : PathMachine) (after : Shelf)
      (call : Call) (others : ℕ) → IsNamed path → (b ≡ false → OnWay walk p) → (b ≡ true → PutAt top h x path p) → NamesTold h old.names
      → of_path (record { walk = walk; opener = openers.Put p; arrived = b }) ≡ others + 1 → WaitedPath b (record { walk = walk; opener = openers.Put p; arrived = b }) call
      → IsHeard top h came call → OpeningTold top h x path modes.W came call
      → paths.PathTakes b wsize (record { walk = walk; opener = openers.Put p; arrived = b }) sent turn came old next new after → StepIs next (machines.Path new)
  put-hears true wsize walk p sent turn came old next new after call others named way at t one e heard told k =
      path-then next k.step.machine walk (machines.Path new)
      (ap machines.Path (k.machine_is ∙ ap (λ (q : Opener). record { walk = walk; opener = q; arrived = true }) (put-of k.opener k.step.machine k.step.machine_is)))
      (put-takes top h x path came call told p.state wsize p sent turn old next k.step.machine after others named refl one (at refl) e.0 e.1.0 e.1.1 k.step.step)
  put-hears false wsize walk p sent turn came old next new after call others named way at t one e heard told k =
      let w = way refl in
      let same : k.walked ≡ record { walk = k.walked.walk; opener = openers.Put p; arrived = false } = k.walked_is in
      follows-put k.step wsize k.walked.walk p turn k.heard next new after
      (record {
        leads = took-leads top h (front_of path) walk sent turn came old k.step k.walked.walk k.heard call t w.leads e.0 heard k.takes;
        name_is = w.name_is;
        mode_is = w.mode_is;
      })
      (took-step walk sent turn came old k.step k.walked.walk k.heard k.takes)
      (took-walk-fine NotKind look (walking.waiting_name walk) walk sent turn came old k.step k.walked.walk k.heard
      (λ f is. fault-fine f (λ same. not-kind h x call f (told.refused f is) same)) k.takes)
      (subst (λ (m : PathMachine). paths.Follows k.step wsize m turn k.heard next new after) same k.follows)

-- ---- one entry more

module _ (top : List ℕ) (h : List Entry) (e : Entry) (x : ℕ) (path : List (List ℕ)) where
  state-at-later : (state : Putting) (o : Opening) (w : Writing) → StateAt top h x path state o w → StateAt top (h ++ e ∷ []) x path state o w
  state-at-later putting.Idle o w s = tt
  state-at-later putting.Opens o w s = story-later top h e x path modes.W o s
  state-at-later (putting.Adds file) o w s = (leads-later top h e path file s.0, s.1)
  state-at-later (putting.Saves saving) o w s = (leads-later top h e path saving.file s.0, λ again. committed-later h e x saving.file (s.1 again), s.2)

  runs-later : (machine : Machine) → PutRuns top h x path machine → PutRuns top (h ++ e ∷ []) x path machine
  runs-later machine k = record {
    walk = k.walk;
    opener = k.opener;
    arrived = k.arrived;
    is = k.is;
    on_way = λ is. let w = k.on_way is in record { leads = walk-later top h e (front_of path) k.walk w.leads; name_is = w.name_is; mode_is = w.mode_is };
    there = λ is. state-at-later k.opener.state k.opener.opening k.opener.write.state (k.there is);
  }

  shown-later : (IsDelivered e → ⊥) → PutShown top h x path → PutShown top (h ++ e ∷ []) x path
  shown-later quiet s = record {
    f = s.f;
    leads = leads-later top h e path s.f s.leads;
    committed = committed-later h e x s.f s.committed;
    last = record { call = s.last.call; reply = s.last.reply; names = s.last.names; ends = ends-later h e x s.last.call s.last.reply quiet s.last.ends };
  }

  kind-later : (IsDelivered e → ⊥) → PutKind top h x path → PutKind top (h ++ e ∷ []) x path
  kind-later quiet k = record { f = k.f; attr = k.attr; leads = leads-later top h e path k.f k.leads; ends = ends-later h e x _ _ quiet k.ends; other = k.other }

  answer-later : (answer : Answer) → (IsDelivered e → ⊥) → PutAnswer top h x path answer → PutAnswer top (h ++ e ∷ []) x path answer
  answer-later (answers.Done value) quiet a = (a.0, shown-later quiet a.1)
  answer-later (answers.Refused fault) quiet a = λ is. kind-later quiet (a is)

-- ---- the story

module _ (m : Mounted) where
  abbrev StateStory : List Entry → ℕ → List (List ℕ) → State → Type 0
  StateStory h x path (Busy machine) = PutRuns m.root h x path machine
  StateStory h x path (Over answer) = PutAnswer m.root h x path answer

  abbrev Story : List Entry → ℕ → Op → State → Type 0
  Story h x op state = (path : List (List ℕ)) (offset : ℕ) (bytes : List ℕ) → op ≡ ops.Put path offset bytes → IsNamed path → StateStory h x path state

  abbrev NoWait : List Entry → ℕ → Op → Call → Type 0
  NoWait h x op call = Unit {0}

  abbrev Shelved : List Entry → Shelf → Type 0
  Shelved h shelf = NamesTold h shelf.names

  asks-none : (h : List Entry) (x : ℕ) (op : Op) (next : Step) → AsksFor (NoWait h x op) next
  asks-none h x op (nexts.Send call) = tt
  asks-none h x op nexts.Wait = tt
  asks-none h x op (nexts.Done answer) = tt

  for-put : (h : List Entry) (x : ℕ) (op : Op) (next : Step) (new : Machine)
      → ((path : List (List ℕ)) (offset : ℕ) (bytes : List ℕ) → op ≡ ops.Put path offset bytes → IsNamed path → StepIs m.root h x path next new)
      → ThenOf (λ k. Story h x op (Busy k)) (λ a. Story h x op (Over a)) next new
  for-put h x op (nexts.Send call) new t = t
  for-put h x op nexts.Wait new t = t
  for-put h x op (nexts.Done answer) new t = t

  step-as : (h : List Entry) (x : ℕ) (path : List (List ℕ)) (next : Step) (to new : Machine) → new ≡ to → StepIs m.root h x path next to → StepIs m.root h x path next new
  step-as h x path next to new is t = subst (λ (k : Machine). StepIs m.root h x path next k) (sym is) t

  heard-all : (h : List Entry) (x : ℕ) (op : Op) (machine : Machine) (came : Result Reply Fault) (told : IsTold Waited NoWait h x op machine came) → IsHeard m.root h came told.call
  heard-all h x op machine came told reply is = Asked-wide h x (length h) 0 (length h) told.call reply (omega arith) (omega arith) (told.heard reply is).asked

  begins : (h : List Entry) (x lane : ℕ) (path : List (List ℕ)) (offset : ℕ) (bytes : List ℕ) (wsize : ℕ) (turn : Turn) (old : Shelf) (next : Step) (new : PathMachine) (after : Shelf)
      → NamesTold h old.names
      → paths.StartsIf false wsize (record {
        walk = walk_of m.root (front_of path);
        opener = openers.Put (puts.not_begun lane m.nocto m.root (last_of path) offset bytes);
        arrived = false;
      }) turn old next new after → StepIs m.root h x path next (machines.Path new)
  begins h x lane path offset bytes wsize turn old next new after t s =
      let p : PutFile = puts.not_begun lane m.nocto m.root (last_of path) offset bytes in
      put-goes m.root h x path false wsize (walk_of m.root (front_of path)) (record p { opening = record p.opening { moment = turn.moment - 1 } }) turn old next new after
      (λ is. record { leads = walk-begins; name_is = refl; mode_is = refl }) (λ is. absurd (let no_way : false ≡ true = is in cc)) t s
    where
      walk-begins : WalkLeads m.root h (front_of path) (walk_of m.root (front_of path))
      walk-begins = record {
        path_is = refl;
        spot = record {
          few = omega arith;
          leads = leads.root (take (length (front_of path) - length (front_of path)) (front_of path)) m.root
              (let none : length (front_of path) - length (front_of path) ≡ 0 = omega arith in ap (λ (n : ℕ). take n (front_of path)) none) refl;
        };
      }

  state-later : (h : List Entry) (e : Entry) (x : ℕ) (path : List (List ℕ)) (state : State) → IsQuiet state e → StateStory h x path state → StateStory (h ++ e ∷ []) x path state
  state-later h e x path (Busy machine) quiet k = runs-later m.root h e x path machine k
  state-later h e x path (Over answer) quiet k = answer-later m.root h e x path answer quiet k

  put-laws : (setup : Setup) → TaleLaws (machine_of m) setup Waited NoWait Shelved Story
  put-laws setup = record {
    fresh = λ h v up fresh. subst (λ (es : _). NamesTold h es) (sym fresh.names) (All-nil (IsNameTold h));
    starts = λ h lane line op wsize turn old next new after kept s. record {
      shelf = all-starts (IsNameTold (h ++ Began lane line op ∷ [])) (machine_of m lane op) wsize turn old next new after s kept;
      asks = asks-none (h ++ Began lane line op ∷ []) (length h) op next;
      then_ = for-put (h ++ Began lane line op ∷ []) (length h) op next new (λ path offset bytes is named.
          let k = subst (λ (o : Op). Starts wsize (machine_of m lane o) turn old next new after) is s in
          step-as (h ++ Began lane line op ∷ []) (length h) path next (machines.Path k.machine) new k.machine_is
          (begins (h ++ Began lane line op ∷ []) (length h) lane path offset bytes wsize turn old next k.machine after kept k.step));
    };
    resumes = λ h x op machine wsize turn old next new after kept story r. record {
      shelf = all-resumes (IsNameTold h) machine wsize turn old next new after r kept;
      asks = asks-none h x op next;
      then_ = for-put h x op next new (λ path offset bytes is named.
          let k = story path offset bytes is named in
          let g = subst (λ (n : Machine). Resumes wsize n turn old next new after) k.is r in
          step-as h x path next (machines.Path g.machine) new g.machine_is
          (put-goes m.root h x path k.arrived wsize k.walk k.opener turn old next g.machine after k.on_way k.there kept g.step));
    };
    takes = λ h x op machine wsize sent turn came old next new after others kept story one told t. record {
      shelf = all-takes (IsNameTold h) machine wsize sent turn came old next new after told.call told.expects.0 (heard-tells m.root h came told.call (heard-all h x op machine came told)) t kept;
      asks = asks-none h x op next;
      then_ = for-put h x op next new (λ path offset bytes is named.
          let k = story path offset bytes is named in
          let g = subst (λ (n : Machine). Takes wsize n sent turn came old next new after) k.is t in
          let e = subst (λ (n : Machine). Waited n told.call) k.is told.expects in
          step-as h x path next (machines.Path g.machine) new g.machine_is
          (put-hears m.root h x path k.arrived wsize k.walk k.opener sent turn came old next g.machine after told.call others named k.on_way k.there kept (sym (ap in_flight k.is) ∙ one) e
          (heard-all h x op machine came told) (record { heard = told.heard; refused = told.refused }) g.step));
    };
    still = λ h e shelf kept. names-later h e shelf.names kept;
    waits = λ h e x op call w. tt;
    grows = λ h e x op state quiet story path offset bytes is named. state-later h e x path state quiet (story path offset bytes is named);
    lost = λ h x op shown path offset bytes is named same. absurd (let no_way : faults.Lost ≡ faults.Kind = same in cc);
  }

  -- ---- answers

  root-at : (terms : Terms) (h : List Entry) (lane x y : ℕ) (op : Op) (answer : Answer) → ((i l line : ℕ) (o : Op) → At h i (Began l line o) → Rooted terms.origin h i m.root)
      → Ended h lane x op y answer → Rooted terms.origin h y m.root
  root-at terms h lane x y op answer known d = let since = d.later in Rooted-wide terms.origin h x y m.root (omega (arith, since)) (known x lane d.line op d.began)

pub puts-shown : PutsShown
puts-shown m setup h v r terms known lane x path offset bytes y value named ended =
    let s = reached-answered (machine_of m) (begins-unbegun m) setup Waited (both-laws Awaits (Both Expects Names) awaits-laws (both-laws Expects Names expects-laws names-laws)) (NoWait m)
    (Shelved m) (Story m) (put-laws m setup) h v r lane x (ops.Put path offset bytes) y (answers.Done value) ended in
    let rooted = root-at m terms h lane x y (ops.Put path offset bytes) (answers.Done value) known ended in
    subst (λ (k : List Entry). OkRow terms k lane x y (ops.Put path offset bytes) value) (sym s.is)
    (by s.before s.after s.there (subst (λ (k : List Entry). Rooted terms.origin k y m.root) s.is rooted)
    (subst (λ (k : List Entry). Ended k lane x (ops.Put path offset bytes) y (answers.Done value)) s.is ended) (s.story path offset bytes refl named))
  where
    by : (before after : List Entry) → length before ≡ y → Rooted terms.origin (before ++ after) y m.root → Ended (before ++ after) lane x (ops.Put path offset bytes) y (answers.Done value)
        → PutAnswer m.root before x path (answers.Done value) → OkRow terms (before ++ after) lane x y (ops.Put path offset bytes) value
    by before after there rooted d a =
        let s = a.1 in (
          record {
            f = s.f;
            puts = record {
              lane = lane;
              path = path;
              value = value;
              call = s.last.call;
              ended = d;
              names = s.last.names;
              asked = (ends-until before after x y s.last.call s.last.reply there s.last.ends).last;
            };
            leads = leads-from m.root terms.origin before after (length before) y path s.f (omega (arith, there)) rooted s.leads;
            committed = Committed-grow before after x y s.f (subst (λ (n : ℕ). Committed before x n s.f) there s.committed);
          },
          a.0,
        )

pub put-kinds-shown : PutKindsShown
put-kinds-shown m setup h v r terms known lane x path offset bytes y named ended =
    let s = reached-answered (machine_of m) (begins-unbegun m) setup Waited (both-laws Awaits (Both Expects Names) awaits-laws (both-laws Expects Names expects-laws names-laws)) (NoWait m)
    (Shelved m) (Story m) (put-laws m setup) h v r lane x (ops.Put path offset bytes) y (answers.Refused faults.Kind) ended in
    let rooted = root-at m terms h lane x y (ops.Put path offset bytes) (answers.Refused faults.Kind) known ended in
    subst (λ (k : List Entry). RefusalRow terms k lane x y (ops.Put path offset bytes) faults.Kind) (sym s.is)
    (by s.before s.after s.there (subst (λ (k : List Entry). Rooted terms.origin k y m.root) s.is rooted) (s.story path offset bytes refl named))
  where
    by : (before after : List Entry) → length before ≡ y → Rooted terms.origin (before ++ after) y m.root → PutAnswer m.root before x path (answers.Refused faults.Kind)
        → RefusalRow terms (before ++ after) lane x y (ops.Put path offset bytes) faults.Kind
    by before after there rooted a =
        let k = a refl in
        let l = leads-from m.root terms.origin before after (length before) y path k.f (omega (arith, there)) rooted k.leads in
        record {
          path = path;
          f = k.f;
          attr = k.attr;
          opening = asks.put offset bytes refl;
          asks = asks.opens path k.f (asks.put offset bytes refl) l refl;
          ends = ends-until before after x y _ _ there k.ends;
          other = k.other;
        }
