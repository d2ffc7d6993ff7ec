-- A put's walk leads to its directory by recent names, and there it finds its file.
use Rattle.core_answers.proofs.Prelude.{◌≡◌, ◌<◌, ◌≤◌, ◌+◌, ◌-◌, inl, ℕ, Bool, true, false, List, [], ◌∷◌, ◌++◌, length, Result, Ok, refl, sym, ap, subst, ◌∙◌, arith, Answer, Fault, Entry, Began, Call, Reply, Op, IsDelivered, length_last, Step, Shelf, Turn, OpenFile, Opening, PutFile, Putting, Walk, WalkStep, walk_of, Mounted, Machine, Opener, PathMachine, front_of, last_of, machine_of, file_of, Starts, Resumes, Takes, in_flight, PathOr, Awaits, of_path, WalkMoves, go-step, took-step, then-as, ThenOf, time_next}
use Rattle.op_machines.specs.Openers.{opening_in}
use Rattle.world_model.specs.declared.answer.Answer.TheVariants as answers
use Rattle.world_model.specs.declared.op.Op.TheVariants as ops
use Rattle.client_shelf.specs.declared.step.Step.TheVariants as nexts
use Rattle.file_ops.specs.declared.put_file.Putting.TheVariants as putting
use Rattle.file_ops.specs.PutFile.{not_begun}
use Rattle.name_ops.specs.declared.walk.WalkStep.TheVariants as walks
use Rattle.name_ops.specs.Walking as walking
use Rattle.op_machines.specs.declared.file_machine.FileMachine.TheVariants as files
use Rattle.op_machines.specs.declared.machine.Machine.TheVariants as machines
use Rattle.op_machines.specs.declared.opener.Opener.TheVariants as openers
use Rattle.op_machines.specs.PathSteps as paths
use Rattle.core_answers.proofs.bonds.AttrsShown.{ShownIn}
use Rattle.core_answers.proofs.engine.Laws.{FromPlace}
use Rattle.core_answers.proofs.engine.Told.{ToldSince, IsLate, take-early, take-whole}
use Rattle.core_answers.proofs.bonds.Learnt.{Good}
use Rattle.core_answers.proofs.bonds.MachineCalls.{PathOn, Asks}
use Rattle.core_answers.proofs.bonds.StatsLed.{Both, Kept}
use Rattle.core_answers.proofs.bonds.Walked.{LedBy, WalkAt, go-led, took-led, end-led, walk-grows, walk-begins}
use Rattle.core_answers.proofs.paths.Following.{FollowLaws}
use Rattle.core_answers.proofs.paths.Lasts.{last-later}
use Rattle.core_answers.proofs.paths.OpenFound.{own-of, IsHeard, opening-grows, found-grows}
use Rattle.core_answers.proofs.paths.OpenPaths.{first-at}
use Rattle.core_answers.proofs.paths.PutFound.{PutAt, PutAnswer, PutThen, put-resumes, put-takes}
use Rattle.core_answers.proofs.paths.Stood.{both-laws}

-- ---- which opener it is

put-of : (k : Opener) (m : PutFile) → file_of k ≡ files.Put m → k ≡ openers.Put m
put-of (openers.Put a) m is = ap openers.Put (same a m is)
  where
    same : (a b : PutFile) → files.Put a ≡ files.Put b → a ≡ b
    same a b e = cc
put-of (openers.Open a) m is = absurd (other a m is)
  where
    other : (a : OpenFile) (b : PutFile) → files.Open a ≡ files.Put b → ⊥
    other a b e = cc

-- as its walk ends, the shelf stays
heard-put : (step : WalkStep) (wsize : ℕ) (walk : Walk) (p : PutFile) (turn : Turn) (heard : Shelf) (next : Step) (new : PathMachine) (after : Shelf)
    → paths.Follows step wsize (record { walk = walk; opener = openers.Put p; arrived = false }) turn heard next new after → after ≡ heard
heard-put (walks.Send call) wsize walk p turn heard next new after f = f.2
heard-put walks.Wait wsize walk p turn heard next new after f = f.2
heard-put (walks.At dir) wsize walk p turn heard next new after f = f.step.step.2
heard-put (walks.Refused fault) wsize walk p turn heard next new after f = f.2

-- the put once its directory is found
abbrev in_dir : List ℕ → PutFile → PutFile
in_dir dir p = record p { opening = opening_in dir p.opening; state = putting.Opens }

module _ (most : ℕ) (top : List ℕ) (h : List Entry) (x : ℕ) (path : List (List ℕ)) where
  -- its walk leads to its directory, and then the put goes on
  pub record PutRuns (machine : Machine) : Type 0 where
    pub within : x < length h
    pub walk : Walk
    pub put : PutFile
    pub arrived : Bool
    pub is : machine ≡ machines.Path (record { walk = walk; opener = openers.Put put; arrived = arrived })
    pub on_way : arrived ≡ false → WalkAt most top h x (front_of path) walk × (put.opening.name ≡ last_of path)
    pub there : arrived ≡ true → PutAt most top h x path put.state put.opening

  abbrev pub StepIs : Step → Machine → Type 0
  StepIs next new = ThenOf PutRuns (PutAnswer most top h x path) next new

  -- what the put comes to
  path-then : (next : Step) (q : PutFile) (walk : Walk) (new : Machine) → x < length h → new ≡ machines.Path (record { walk = walk; opener = openers.Put q; arrived = true })
      → PutThen most top h x path next q → StepIs next new
  path-then next q walk new within is t = by next t
    where
      runs : PutAt most top h x path q.state q.opening → PutRuns new
      runs s = record { within = within; walk = walk; put = q; arrived = true; is = is; on_way = λ no_way. absurd (cc); there = λ yes_is. s }

      by : (k : Step) → PutThen most top h x path k q → StepIs k new
      by (nexts.Send call) s = runs s
      by nexts.Wait s = runs s
      by (nexts.Done answer) s = s

  then-put : (wsize : ℕ) (walk : Walk) (p : PutFile) (turn : Turn) (old : Shelf) (next : Step) (new : PathMachine) (after : Shelf) → x < length h
      → PutAt most top h x path p.state p.opening → paths.ThenResumes wsize (record { walk = walk; opener = openers.Put p; arrived = true }) turn old next new after
      → StepIs next (machines.Path new)
  then-put wsize walk p turn old next new after within s t =
      let opener : t.opener ≡ openers.Put t.step.machine = put-of t.opener t.step.machine t.step.machine_is in
      path-then next t.step.machine walk (machines.Path new) within
      (ap machines.Path (t.machine_is ∙ ap (λ (k : Opener). record { walk = walk; opener = k; arrived = true }) opener))
      (put-resumes most top h x path p.state wsize p turn old next t.step.machine after refl s t.step.step)

  follows-put : (step : WalkStep) (wsize : ℕ) (walk : Walk) (p : PutFile) (turn : Turn) (old : Shelf) (next : Step) (new : PathMachine) (after : Shelf) → x < length h
      → p.opening.name ≡ last_of path → WalkAt most top h x (front_of path) walk → WalkMoves step walk
      → paths.Follows step wsize (record { walk = walk; opener = openers.Put p; arrived = false }) turn old next new after → StepIs next (machines.Path new)
  follows-put step wsize walk p turn old next new after within name_is l s f = by step s f
    where
      runs : new ≡ record { walk = walk; opener = openers.Put p; arrived = false } → PutRuns (machines.Path new)
      runs is = record { within = within; walk = walk; put = p; arrived = false; is = ap machines.Path is; on_way = λ yes_is. (l, name_is); there = λ no_way. absurd (cc) }

      by : (w : WalkStep) → WalkMoves w walk → paths.Follows w wsize (record { walk = walk; opener = openers.Put p; arrived = false }) turn old next new after → StepIs next (machines.Path new)
      by (walks.Send call) k g = then-as PutRuns (PutAnswer most top h x path) (nexts.Send call) next (machines.Path new) g.0 (runs g.1)
      by walks.Wait k g = then-as PutRuns (PutAnswer most top h x path) nexts.Wait next (machines.Path new) g.0 (runs g.1)
      by (walks.At dir) k g = then-put wsize walk (in_dir dir p) turn old next new after within
          (first-at most top h x path dir p.opening name_is (subst (λ (d : List ℕ). LedBy h most x top (front_of path) d) (sym k.0) (end-led most top h x within (front_of path) walk l k.1))) g
      by (walks.Refused fault) k g = then-as PutRuns (PutAnswer most top h x path) (nexts.Done (answers.Refused fault)) next (machines.Path new) g.0 tt

  pub path-resumes : (b : Bool) (wsize : ℕ) (walk : Walk) (p : PutFile) (turn : Turn) (old : Shelf) (next : Step) (new : PathMachine) (after : Shelf) → x < length h
      → (b ≡ false → WalkAt most top h x (front_of path) walk × (p.opening.name ≡ last_of path)) → (b ≡ true → PutAt most top h x path p.state p.opening) → Kept most h old → IsLate h x turn.now
      → paths.PathResumes b wsize (record { walk = walk; opener = openers.Put p; arrived = b }) turn old next new after → StepIs next (machines.Path new)
  path-resumes true wsize walk p turn old next new after within l s k late r = then-put wsize walk p turn old next new after within (s refl) r
  path-resumes false wsize walk p turn old next new after within l s k late r =
      follows-put (walking.go_next walk turn old) wsize (walking.go_after walk turn old) p turn (walking.go_shelf walk turn old) next new after within (l refl).1
      (go-led most top h x within (front_of path) walk turn old k.0 late k.1 (l refl).0) (go-step walk turn old) r

  pub path-takes : (b : Bool) (wsize : ℕ) (walk : Walk) (p : PutFile) (sent turn : Turn) (came : Result Reply Fault) (old : Shelf) (next : Step) (new : PathMachine) (after : Shelf) (call : Call)
      (others : ℕ) → x < length h → of_path (record { walk = walk; opener = openers.Put p; arrived = b }) ≡ others + 1
      → (b ≡ false → WalkAt most top h x (front_of path) walk × (p.opening.name ≡ last_of path)) → (b ≡ true → PutAt most top h x path p.state p.opening)
      → Kept most h old → Kept most h after → IsLate h x turn.now → PathOn b (record { walk = walk; opener = openers.Put p; arrived = b }) call
      → PathOr b (record { walk = walk; opener = openers.Put p; arrived = b }) call → ((reply : Reply) → came ≡ Ok reply → ToldSince h x call sent.now reply)
      → IsHeard most top h x path came call → paths.PathTakes b wsize (record { walk = walk; opener = openers.Put p; arrived = b }) sent turn came old next new after
      → StepIs next (machines.Path new)
  path-takes true wsize walk p sent turn came old next new after call others within one l s before kept late on e since told k =
      let opener : k.opener ≡ openers.Put k.step.machine = put-of k.opener k.step.machine k.step.machine_is in
      path-then next k.step.machine walk (machines.Path new) within
      (ap machines.Path (k.machine_is ∙ ap (λ (q : Opener). record { walk = walk; opener = q; arrived = true }) opener))
      (put-takes most top h x path p.state wsize p sent turn came old next k.step.machine after others call within refl one (s refl) on e told k.step.step)
  path-takes false wsize walk p sent turn came old next new after call others within one l s before kept late on e since told k =
      let way : k.walked ≡ record { walk = k.walked.walk; opener = openers.Put p; arrived = false } = k.walked_is in
      let follows = subst (λ (m : PathMachine). paths.Follows k.step wsize m turn k.heard next new after) way k.follows in
      let same : after ≡ k.heard = heard-put k.step wsize k.walked.walk p turn k.heard next new after follows in
      follows-put k.step wsize k.walked.walk p turn k.heard next new after within (l refl).1
      (took-led most top h x within (front_of path) walk sent turn came old k.step k.walked.walk k.heard call
      (subst (λ (z : Shelf). Good (ShownIn h) most z.attrs) same kept.0) late before.1 (l refl).0 e since k.takes)
      (took-step walk sent turn came old k.step k.walked.walk k.heard k.takes) follows

-- ---- one entry more

module _ (most : ℕ) (top : List ℕ) (h : List Entry) (e : Entry) (x : ℕ) (path : List (List ℕ)) where
  at-grows : (state : Putting) (o : Opening) → x < length h → PutAt most top h x path state o → PutAt most top (h ++ e ∷ []) x path state o
  at-grows putting.Idle o within s = tt
  at-grows putting.Opens o within s = opening-grows most top h e x path o within s
  at-grows (putting.Adds file) o within s = found-grows most top h e x path file s
  at-grows (putting.Saves saving) o within s = found-grows most top h e x path saving.file s

  runs-grows : (machine : Machine) → PutRuns most top h x path machine → PutRuns most top (h ++ e ∷ []) x path machine
  runs-grows machine k =
      let within = k.within in
      let more = length_last h e in
      record {
        within = omega (arith, within, more);
        walk = k.walk;
        put = k.put;
        arrived = k.arrived;
        is = k.is;
        on_way = λ is. (walk-grows h e most x top (front_of path) k.walk k.within (k.on_way is).0, (k.on_way is).1);
        there = λ is. at-grows k.put.state k.put.opening k.within (k.there is);
      }

  answer-grows : (answer : Answer) → (IsDelivered e → ⊥) → PutAnswer most top h x path answer → PutAnswer most top (h ++ e ∷ []) x path answer
  answer-grows (answers.Done value) quiet a =
      record { file = a.file; found = found-grows most top h e x path a.file a.found; call = a.call; on = a.on; reply = a.reply; last = last-later h e x a.call a.reply quiet a.last }
  answer-grows (answers.Refused fault) quiet a = tt

-- ---- the laws

module _ (m : Mounted) (most : ℕ) where
  abbrev pub PutsRun : List Entry → ℕ → ℕ → Op → Machine → Type 0
  PutsRun h place x op machine = (path : List (List ℕ)) (offset : ℕ) (bytes : List ℕ) → op ≡ ops.Put path offset bytes → PutRuns most m.root h x path machine

  abbrev pub PutsOver : List Entry → ℕ → Op → Answer → Type 0
  PutsOver h x op answer = (path : List (List ℕ)) (offset : ℕ) (bytes : List ℕ) → op ≡ ops.Put path offset bytes → PutAnswer most m.root h x path answer

  for-put : (h : List Entry) (place x : ℕ) (op : Op) (next : Step) (new : Machine)
      → ((path : List (List ℕ)) (offset : ℕ) (bytes : List ℕ) → op ≡ ops.Put path offset bytes → StepIs most m.root h x path next new)
      → ThenOf (PutsRun h place x op) (PutsOver h x op) next new
  for-put h place x op (nexts.Send call) new t = t
  for-put h place x op nexts.Wait new t = t
  for-put h place x op (nexts.Done answer) new t = t

  from-put : (h : List Entry) (others place x : ℕ) (op : Op) (next : Step) (new : Machine)
      → ((path : List (List ℕ)) (offset : ℕ) (bytes : List ℕ) → op ≡ ops.Put path offset bytes → StepIs most m.root h x path next new)
      → ThenOf (λ k. FromPlace h others place (λ n. PutsRun h n x op k)) (PutsOver h x op) next new
  from-put h others place x op (nexts.Send call) new t = record { place = 0; within = omega arith; fits = inl (omega arith); holds = t }
  from-put h others place x op nexts.Wait new t = record { place = 0; within = omega arith; fits = inl (omega arith); holds = t }
  from-put h others place x op (nexts.Done answer) new t = t

  step-as : (h : List Entry) (x : ℕ) (path : List (List ℕ)) (next : Step) (to new : Machine) → new ≡ to → StepIs most m.root h x path next to → StepIs most m.root h x path next new
  step-as h x path next to new is t = subst (λ (k : Machine). StepIs most m.root h x path next k) (sym is) t

  pub put-laws : FollowLaws (machine_of m) Both (Kept most) PutsRun PutsOver
  put-laws = record {
    shelf = both-laws most;
    starts = λ h lane line op wsize turn old next new after kept late s.
        let later : List Entry = h ++ Began lane line op ∷ [] in
        let more = length_last h (Began lane line op) in
        for-put later (length h) (length h) op next new (λ path offset bytes is.
        let k = subst (λ (o : Op). Starts wsize (machine_of m lane o) turn old next new after) is s in
        let p : PutFile = not_begun lane m.nocto m.root (last_of path) offset bytes in
        step-as later (length h) path next (machines.Path k.machine) new k.machine_is
        (path-resumes most m.root later (length h) path false wsize (walk_of m.root (front_of path)) (record p { opening = record p.opening { moment = turn.moment - 1 } }) turn old next k.machine after
        (omega (arith, more)) (λ is. (walk-begins later most (length h) m.root (front_of path), refl)) (λ is. absurd (let no_way : false ≡ true = is in cc)) kept
        (subst (λ k. time_next k ≤ turn.now) (sym (take-early h (Began lane line op ∷ []) (length h) (omega arith) ∙ take-whole h)) late) k.step));
    resumes = λ h place x op machine wsize turn old next new after kept within late story r.
        for-put h place x op next new (λ path offset bytes is.
        let k = story path offset bytes is in
        let g = subst (λ (n : Machine). Resumes wsize n turn old next new after) k.is r in
        step-as h x path next (machines.Path g.machine) new g.machine_is
        (path-resumes most m.root h x path k.arrived wsize k.walk k.put turn old next g.machine after within k.on_way k.there kept late g.step));
    takes = λ h place x op machine call wsize sent turn came old next new after others before kept within low late one story on told t.
        from-put h others place x op next new (λ path offset bytes is.
        let k = story path offset bytes is in
        let g = subst (λ (n : Machine). Takes wsize n sent turn came old next new after) k.is t in
        step-as h x path next (machines.Path g.machine) new g.machine_is
        (path-takes most m.root h x path k.arrived wsize k.walk k.put sent turn came old next g.machine after call others within
        (subst (λ (n : Machine). in_flight n ≡ others + 1) k.is one) k.on_way k.there before kept late
        (subst (λ (n : Machine). Asks n call) k.is on.0) (subst (λ (n : Machine). Awaits n call) k.is on.1)
        (λ reply got. (told reply got).since) (λ reply got. own-of h x place call sent.now reply (told reply got)) g.step));
    grows = λ h e place x op machine story path offset bytes is. runs-grows most m.root h e x path machine (story path offset bytes is);
    stays = λ h e x op answer quiet story path offset bytes is. answer-grows most m.root h e x path answer quiet (story path offset bytes is);
    lost = λ h x op shown path offset bytes is. tt;
  }
