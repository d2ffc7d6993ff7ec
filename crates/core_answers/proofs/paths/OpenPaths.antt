-- An open's walk leads to its directory by recent names, and there it finds its file.
use Rattle.core_answers.proofs.Prelude.{◌≡◌, ◌<◌, ◌≤◌, ◌-◌, inl, ℕ, Bool, true, false, List, [], ◌∷◌, ◌++◌, length, Result, Ok, refl, sym, ap, subst, ◌∙◌, arith, Mode, Answer, Fault, Entry, Began, Call, Reply, Op, IsDelivered, length_last, Step, Shelf, Turn, OpenFile, Opening, PutFile, Walk, WalkStep, walk_of, Mounted, Machine, Opener, PathMachine, front_of, last_of, machine_of, file_of, Starts, Resumes, Takes, PathOr, Awaits, WalkMoves, go-step, took-step, then-as, ThenOf, time_next}
use Rattle.nfs_types.specs.declared.mode.Mode.TheVariants as modes
use Rattle.world_model.specs.declared.answer.Answer.TheVariants as answers
use Rattle.world_model.specs.declared.answer.Fault.TheVariants as faults
use Rattle.world_model.specs.declared.op.Op.TheVariants as ops
use Rattle.client_shelf.specs.declared.step.Step.TheVariants as nexts
use Rattle.file_ops.specs.OpenFile as opens
use Rattle.file_ops.specs.Opening as opening
use Rattle.name_ops.specs.declared.walk.WalkStep.TheVariants as walks
use Rattle.name_ops.specs.Walking as walking
use Rattle.op_machines.specs.declared.file_machine.FileMachine.TheVariants as files
use Rattle.op_machines.specs.declared.machine.Machine.TheVariants as machines
use Rattle.op_machines.specs.declared.opener.Opener.TheVariants as openers
use Rattle.op_machines.specs.PathSteps as paths
use Rattle.core_answers.proofs.bonds.AttrsShown.{ShownIn}
use Rattle.core_answers.proofs.engine.Laws.{FromPlace}
use Rattle.core_answers.proofs.engine.Told.{ToldSince, IsLate, take-early, take-whole}
use Rattle.core_answers.proofs.bonds.Learnt.{Good}
use Rattle.core_answers.proofs.bonds.StatsLed.{Both, Kept}
use Rattle.core_answers.proofs.bonds.Walked.{LedBy, WalkAt, go-led, took-led, end-led, walk-grows, walk-begins}
use Rattle.core_answers.proofs.paths.Following.{FollowLaws}
use Rattle.core_answers.proofs.paths.OpenFound.{own-of, OpeningAt, StepFound, IsHeard, led-on, go-next, led-next, OpenAnswer, as-next, follows-then, opening-grows, found-grows, last-of-later}
use Rattle.core_answers.proofs.paths.Stood.{both-laws}

-- ---- which opener it is

open-of : (k : Opener) (m : OpenFile) → file_of k ≡ files.Open m → k ≡ openers.Open m
open-of (openers.Open a) m is = ap openers.Open (same a m is)
  where
    same : (a b : OpenFile) → files.Open a ≡ files.Open b → a ≡ b
    same a b e = cc
open-of (openers.Put a) m is = absurd (put a m is)
  where
    put : (a : PutFile) (b : OpenFile) → files.Put a ≡ files.Open b → ⊥
    put a b e = cc

-- as its walk ends, the shelf stays
heard-open : (step : WalkStep) (wsize : ℕ) (walk : Walk) (o : OpenFile) (turn : Turn) (heard : Shelf) (next : Step) (new : PathMachine) (after : Shelf)
    → paths.Follows step wsize (record { walk = walk; opener = openers.Open o; arrived = false }) turn heard next new after → after ≡ heard
heard-open (walks.Send call) wsize walk o turn heard next new after f = f.2
heard-open walks.Wait wsize walk o turn heard next new after f = f.2
heard-open (walks.At dir) wsize walk o turn heard next new after f = f.step.shelf_is
heard-open (walks.Refused fault) wsize walk o turn heard next new after f = f.2

module _ (most : ℕ) (top : List ℕ) (h : List Entry) (x : ℕ) (path : List (List ℕ)) where
  -- its walk leads to its directory, and then its opening goes on
  pub record OpenRuns (machine : Machine) : Type 0 where
    pub within : x < length h
    pub walk : Walk
    pub opener : OpenFile
    pub arrived : Bool
    pub is : machine ≡ machines.Path (record { walk = walk; opener = openers.Open opener; arrived = arrived })
    pub name_is : opener.opening.name ≡ last_of path
    pub on_way : arrived ≡ false → WalkAt most top h x (front_of path) walk
    pub there : arrived ≡ true → OpeningAt most top h x path opener.opening

  abbrev pub StepIs : Step → Machine → Type 0
  StepIs next new = ThenOf OpenRuns (OpenAnswer most top h x path) next new

  -- what the opening comes to
  path-then : (next : Step) (n : OpenFile) (walk : Walk) (new : Machine) → x < length h → new ≡ machines.Path (record { walk = walk; opener = openers.Open n; arrived = true })
      → ThenOf (λ (k : OpenFile). OpeningAt most top h x path k.opening) (OpenAnswer most top h x path) next n → StepIs next new
  path-then next n walk new within is t = by next t
    where
      runs : OpeningAt most top h x path n.opening → OpenRuns new
      runs s = record {
        within = within;
        walk = walk;
        opener = n;
        arrived = true;
        is = is;
        name_is = s.name_is;
        on_way = λ no_way. absurd (cc);
        there = λ yes_is. s;
      }

      by : (k : Step) → ThenOf (λ (k : OpenFile). OpeningAt most top h x path k.opening) (OpenAnswer most top h x path) k n → StepIs k new
      by (nexts.Send call) s = runs s
      by nexts.Wait s = runs s
      by (nexts.Done answer) s = s

  then-open : (wsize : ℕ) (walk : Walk) (o : OpenFile) (turn : Turn) (old : Shelf) (next : Step) (new : PathMachine) (after : Shelf) → x < length h
      → OpeningAt most top h x path o.opening → paths.ThenResumes wsize (record { walk = walk; opener = openers.Open o; arrived = true }) turn old next new after
      → StepIs next (machines.Path new)
  then-open wsize walk o turn old next new after within s t =
      let opener : t.opener ≡ openers.Open (opens.gone o turn) = open-of t.opener (opens.gone o turn) t.step.machine_is in
      path-then next (opens.gone o turn) walk (machines.Path new) within
      (ap machines.Path (t.machine_is ∙ ap (λ (k : Opener). record { walk = walk; opener = k; arrived = true }) opener))
      (then-as (λ (k : OpenFile). OpeningAt most top h x path k.opening) (OpenAnswer most top h x path) _ next (opens.gone o turn) t.step.next_is
      (as-next most top h x path (opening.go_next o.opening turn) (opens.gone o turn) (go-next most top h x path o.opening turn s)))

  -- it starts at its directory
  pub first-at : (dir : List ℕ) (o : Opening) → o.name ≡ last_of path → LedBy h most x top (front_of path) dir
      → OpeningAt most top h x path (record { dir = dir; name = o.name; mode = o.mode; nocto = o.nocto; moment = o.moment; step = opening.first_step o.mode; asked = false; put_off = 0 })
  first-at dir o name_is led = record { name_is = name_is; led = led; step = by o.mode }
    where
      by : (m : Mode) → StepFound most top h x path dir (opening.first_step m)
      by modes.X = tt
      by modes.R = tt
      by modes.W = tt
      by modes.RW = tt
      by modes.C = tt

  follows-open : (step : WalkStep) (wsize : ℕ) (walk : Walk) (o : OpenFile) (turn : Turn) (old : Shelf) (next : Step) (new : PathMachine) (after : Shelf) → x < length h
      → o.opening.name ≡ last_of path → WalkAt most top h x (front_of path) walk → WalkMoves step walk
      → paths.Follows step wsize (record { walk = walk; opener = openers.Open o; arrived = false }) turn old next new after → StepIs next (machines.Path new)
  follows-open step wsize walk o turn old next new after within name_is l s f = by step s f
    where
      runs : new ≡ record { walk = walk; opener = openers.Open o; arrived = false } → OpenRuns (machines.Path new)
      runs is = record {
        within = within;
        walk = walk;
        opener = o;
        arrived = false;
        is = ap machines.Path is;
        name_is = name_is;
        on_way = λ yes_is. l;
        there = λ no_way. absurd (cc);
      }

      by : (w : WalkStep) → WalkMoves w walk → paths.Follows w wsize (record { walk = walk; opener = openers.Open o; arrived = false }) turn old next new after → StepIs next (machines.Path new)
      by (walks.Send call) k g = then-as OpenRuns (OpenAnswer most top h x path) (nexts.Send call) next (machines.Path new) g.0 (runs g.1)
      by walks.Wait k g = then-as OpenRuns (OpenAnswer most top h x path) nexts.Wait next (machines.Path new) g.0 (runs g.1)
      by (walks.At dir) k g = then-open wsize walk (record o { opening = record { dir = dir; name = o.opening.name; mode = o.opening.mode; nocto = o.opening.nocto; moment = o.opening.moment; step = opening.first_step o.opening.mode; asked = false; put_off = 0 } })
          turn old next new after within
          (first-at dir o.opening name_is (subst (λ (d : List ℕ). LedBy h most x top (front_of path) d) (sym k.0) (end-led most top h x within (front_of path) walk l k.1))) g
      by (walks.Refused fault) k g = then-as OpenRuns (OpenAnswer most top h x path) (nexts.Done (answers.Refused fault)) next (machines.Path new) g.0 tt

  pub open-resumes : (b : Bool) (wsize : ℕ) (walk : Walk) (o : OpenFile) (turn : Turn) (old : Shelf) (next : Step) (new : PathMachine) (after : Shelf) → x < length h
      → o.opening.name ≡ last_of path → (b ≡ false → WalkAt most top h x (front_of path) walk) → (b ≡ true → OpeningAt most top h x path o.opening) → Kept most h old → IsLate h x turn.now
      → paths.PathResumes b wsize (record { walk = walk; opener = openers.Open o; arrived = b }) turn old next new after → StepIs next (machines.Path new)
  open-resumes true wsize walk o turn old next new after within name_is l s k late r = then-open wsize walk o turn old next new after within (s refl) r
  open-resumes false wsize walk o turn old next new after within name_is l s k late r =
      follows-open (walking.go_next walk turn old) wsize (walking.go_after walk turn old) o turn (walking.go_shelf walk turn old) next new after within name_is
      (go-led most top h x within (front_of path) walk turn old k.0 late k.1 (l refl)) (go-step walk turn old) r

  pub open-takes : (b : Bool) (wsize : ℕ) (walk : Walk) (o : OpenFile) (sent turn : Turn) (came : Result Reply Fault) (old : Shelf) (next : Step) (new : PathMachine) (after : Shelf) (call : Call)
      → x < length h → o.opening.name ≡ last_of path → (b ≡ false → WalkAt most top h x (front_of path) walk) → (b ≡ true → OpeningAt most top h x path o.opening)
      → Kept most h old → Kept most h after → IsLate h x turn.now → PathOr b (record { walk = walk; opener = openers.Open o; arrived = b }) call
      → ((reply : Reply) → came ≡ Ok reply → ToldSince h x call sent.now reply) → IsHeard most top h x path came call
      → paths.PathTakes b wsize (record { walk = walk; opener = openers.Open o; arrived = b }) sent turn came old next new after → StepIs next (machines.Path new)
  open-takes true wsize walk o sent turn came old next new after call within name_is l s before kept late e since told k =
      let again = opening.opening_again o.opening sent turn came old.repeats in
      let led = opening.led_on o.opening turn.now came after.attrs old.pages in
      let done : OpenFile = opens.took_after again o turn came after.attrs old.pages in
      let opener : k.opener ≡ openers.Open done = open-of k.opener done k.step.machine_is in
      let mine : IsHeard most top h x path came (opening.call_of o.opening o.opening.step) = subst (IsHeard most top h x path came) e told in
      path-then next done walk (machines.Path new) within (ap machines.Path (k.machine_is ∙ ap (λ (q : Opener). record { walk = walk; opener = q; arrived = true }) opener))
      (follows-then most top h x path o done k.step.steps.step next old.opens after.opens
      (led-next most top h x path within again o.opening sent turn led k.step.steps.step old.pages after.pages (s refl)
      (led-on most top h x path o.opening turn.now came after.attrs old.pages (s refl) mine) k.step.steps.led) k.step.steps.follows)
  open-takes false wsize walk o sent turn came old next new after call within name_is l s before kept late e since told k =
      let way : k.walked ≡ record { walk = k.walked.walk; opener = openers.Open o; arrived = false } = k.walked_is in
      let follows = subst (λ (m : PathMachine). paths.Follows k.step wsize m turn k.heard next new after) way k.follows in
      let same : after ≡ k.heard = heard-open k.step wsize k.walked.walk o turn k.heard next new after follows in
      follows-open k.step wsize k.walked.walk o turn k.heard next new after within name_is
      (took-led most top h x within (front_of path) walk sent turn came old k.step k.walked.walk k.heard call
      (subst (λ (z : Shelf). Good (ShownIn h) most z.attrs) same kept.0) late before.1 (l refl) e since k.takes)
      (took-step walk sent turn came old k.step k.walked.walk k.heard k.takes) follows

-- ---- one entry more

module _ (most : ℕ) (top : List ℕ) (h : List Entry) (e : Entry) (x : ℕ) (path : List (List ℕ)) where
  runs-grows : (machine : Machine) → OpenRuns most top h x path machine → OpenRuns most top (h ++ e ∷ []) x path machine
  runs-grows machine k =
      let within = k.within in
      let more = length_last h e in
      record {
        within = omega (arith, within, more);
        walk = k.walk;
        opener = k.opener;
        arrived = k.arrived;
        is = k.is;
        name_is = k.name_is;
        on_way = λ is. walk-grows h e most x top (front_of path) k.walk k.within (k.on_way is);
        there = λ is. opening-grows most top h e x path k.opener.opening k.within (k.there is);
      }

  answer-grows : (answer : Answer) → (IsDelivered e → ⊥) → OpenAnswer most top h x path answer → OpenAnswer most top (h ++ e ∷ []) x path answer
  answer-grows (answers.Done value) quiet a = (a.0, record { found = found-grows most top h e x path a.0 a.1.found; last = last-of-later h e x a.0 quiet a.1.last })
  answer-grows (answers.Refused fault) quiet a = tt

-- ---- the laws

module _ (m : Mounted) (most : ℕ) where
  abbrev pub OpensRun : List Entry → ℕ → ℕ → Op → Machine → Type 0
  OpensRun h place x op machine = (slot : ℕ) (mode : Mode) (path : List (List ℕ)) → op ≡ ops.OpenFile slot mode path → OpenRuns most m.root h x path machine

  abbrev pub OpensOver : List Entry → ℕ → Op → Answer → Type 0
  OpensOver h x op answer = (slot : ℕ) (mode : Mode) (path : List (List ℕ)) → op ≡ ops.OpenFile slot mode path → OpenAnswer most m.root h x path answer

  for-open : (h : List Entry) (place x : ℕ) (op : Op) (next : Step) (new : Machine) → ((slot : ℕ) (mode : Mode) (path : List (List ℕ)) → op ≡ ops.OpenFile slot mode path → StepIs most m.root h x path next new)
      → ThenOf (OpensRun h place x op) (OpensOver h x op) next new
  for-open h place x op (nexts.Send call) new t = t
  for-open h place x op nexts.Wait new t = t
  for-open h place x op (nexts.Done answer) new t = t

  from-open : (h : List Entry) (others place x : ℕ) (op : Op) (next : Step) (new : Machine)
      → ((slot : ℕ) (mode : Mode) (path : List (List ℕ)) → op ≡ ops.OpenFile slot mode path → StepIs most m.root h x path next new)
      → ThenOf (λ k. FromPlace h others place (λ n. OpensRun h n x op k)) (OpensOver h x op) next new
  from-open h others place x op (nexts.Send call) new t = record { place = 0; within = omega arith; fits = inl (omega arith); holds = t }
  from-open h others place x op nexts.Wait new t = record { place = 0; within = omega arith; fits = inl (omega arith); holds = t }
  from-open h others place x op (nexts.Done answer) new t = t

  step-as : (h : List Entry) (x : ℕ) (path : List (List ℕ)) (next : Step) (to new : Machine) → new ≡ to → StepIs most m.root h x path next to → StepIs most m.root h x path next new
  step-as h x path next to new is t = subst (λ (k : Machine). StepIs most m.root h x path next k) (sym is) t

  starts-if : (b : Bool) (h : List Entry) (x lane slot : ℕ) (mode : Mode) (path : List (List ℕ)) (wsize : ℕ) (turn : Turn) (old : Shelf) (next : Step) (new : PathMachine) (after : Shelf)
      → x < length h → Kept most h old → IsLate h x turn.now
      → paths.StartsIf b wsize (record {
        walk = walk_of m.root (front_of path);
        opener = openers.Open (record {
          lane = lane;
          slot = slot;
          opening = record { dir = m.root; name = last_of path; mode = mode; nocto = m.nocto; moment = 0; step = opening.first_step mode; asked = false; put_off = 0 };
        });
        arrived = false;
      }) turn old next new after → StepIs most m.root h x path next (machines.Path new)
  starts-if true h x lane slot mode path wsize turn old next new after within k late s =
      then-as (OpenRuns most m.root h x path) (OpenAnswer most m.root h x path) (nexts.Done (answers.Refused faults.Slot)) next (machines.Path new) s.0 tt
  starts-if false h x lane slot mode path wsize turn old next new after within k late s =
      open-resumes most m.root h x path false wsize (walk_of m.root (front_of path)) (record {
        lane = lane;
        slot = slot;
        opening = record { dir = m.root; name = last_of path; mode = mode; nocto = m.nocto; moment = turn.moment - 1; step = opening.first_step mode; asked = false; put_off = 0 };
      }) turn old next new after within refl (λ is. walk-begins h most x m.root (front_of path)) (λ is. absurd (let no_way : false ≡ true = is in cc)) k late s

  pub open-laws : FollowLaws (machine_of m) Both (Kept most) OpensRun OpensOver
  open-laws = record {
    shelf = both-laws most;
    starts = λ h lane line op wsize turn old next new after kept late s.
        let later : List Entry = h ++ Began lane line op ∷ [] in
        let more = length_last h (Began lane line op) in
        for-open later (length h) (length h) op next new (λ slot mode path is.
        let k = subst (λ (o : Op). Starts wsize (machine_of m lane o) turn old next new after) is s in
        step-as later (length h) path next (machines.Path k.machine) new k.machine_is
        (starts-if _ later (length h) lane slot mode path wsize turn old next k.machine after (omega (arith, more)) kept
        (subst (λ k. time_next k ≤ turn.now) (sym (take-early h (Began lane line op ∷ []) (length h) (omega arith) ∙ take-whole h)) late) k.step));
    resumes = λ h place x op machine wsize turn old next new after kept within late story r.
        for-open h place x op next new (λ slot mode path is.
        let k = story slot mode path is in
        let g = subst (λ (n : Machine). Resumes wsize n turn old next new after) k.is r in
        step-as h x path next (machines.Path g.machine) new g.machine_is
        (open-resumes most m.root h x path k.arrived wsize k.walk k.opener turn old next g.machine after within k.name_is k.on_way k.there kept late g.step));
    takes = λ h place x op machine call wsize sent turn came old next new after others before kept within low late one story on told t.
        from-open h others place x op next new (λ slot mode path is.
        let k = story slot mode path is in
        let g = subst (λ (n : Machine). Takes wsize n sent turn came old next new after) k.is t in
        let e = subst (λ (n : Machine). Awaits n call) k.is on.1 in
        step-as h x path next (machines.Path g.machine) new g.machine_is
        (open-takes most m.root h x path k.arrived wsize k.walk k.opener sent turn came old next g.machine after call within k.name_is k.on_way k.there before kept late e
        (λ reply got. (told reply got).since) (λ reply got. own-of h x place call sent.now reply (told reply got)) g.step));
    grows = λ h e place x op machine story slot mode path is. runs-grows most m.root h e x path machine (story slot mode path is);
    stays = λ h e x op answer quiet story slot mode path is. answer-grows most m.root h e x path answer quiet (story slot mode path is);
    lost = λ h x op shown slot mode path is. tt;
  }
