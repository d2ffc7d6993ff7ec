-- How an open runs, and for which calls it asks: as `proofs/rows/OpenAsks` has it, for a record of which it is known that it was sent for the open.
use Rattle.core_answers.proofs.Prelude.{◌≡◌, ◌≤◌, ◌-◌, ◌⊎◌, inl, inr, ℕ, zero, suc, Bool, true, false, List, [], ◌∷◌, ◌++◌, length, take, drop, slice_get, Option, Some, None, Result, refl, sym, ap, subst, ◌∙◌, arith, append_assoc, if◌then◌else◌, All-nil, Attr, Mode, Answer, Fault, Entry, Began, Call, Reply, Op, Asks, look_up, Asked, Rooted, PlaceOf, Terms, IsDelivered, Asked-grow, Asked-wide, length_last, Step, Shelf, Turn, Opening, OpeningPhase, Walk, walk_of, Mounted, Machine, PathMachine, IsNamed, front_of, last_of, machine_of, file_of, Starts, Resumes, Takes, State, Busy, Setup, of_name, of_walk, in_flight, IsCounted, Counts, Awaits, PathOr, awaits-laws, begins-unbegun, counts-calls, WalkAwaits, all-starts, all-resumes, all-takes, IsNameTold, NamesTold, names-later, LeadsTo, leads-from, leads-later, WalkLeads, walk-later, IsHeard, heard-tells, then-as, front-last, ends-later, OpeningStory, StepStory, has_to, IsFileOf, ThenOf, AskedOf, IsTold, TaleLaws, IsQuiet, AsksFor}
use Rattle.claims.specs.Asks.{create_guarded, create_unchecked}
use Rattle.core_facts.specs.InFlight.{of_file, path_by}
use Rattle.core_facts.proofs.OpenStory.{MayMake, missing, found, made, GotLast, OpenAnswer}
use Rattle.nfs_dir_calls.specs.declared.call.DirCall.TheVariants as dirs
use Rattle.nfs_file_calls.specs.declared.call.FileCall.TheVariants as file_calls
use Rattle.world_model.specs.declared.answer.Answer.TheVariants as answers
use Rattle.world_model.specs.declared.answer.Fault.TheVariants as faults
use Rattle.world_model.specs.declared.message.Call.TheVariants as calls
use Rattle.world_model.specs.declared.op.Op.TheVariants as ops
use Rattle.claims.specs.Asks as asks
use Rattle.world_model.specs.Leads as leads
use Rattle.client_shelf.specs.declared.step.Step.TheVariants as nexts
use Rattle.file_ops.specs.declared.opening.OpeningPhase.TheVariants as opening_steps
use Rattle.file_ops.specs.Opening as opening
use Rattle.name_ops.specs.Walking as walking
use Rattle.op_machines.specs.declared.machine.Machine.TheVariants as machines
use Rattle.op_machines.specs.declared.opener.Opener.TheVariants as openers
use Rattle.op_machines.specs.PathSteps as paths
use Rattle.client_core.specs.declared.lane.State.TheVariants.{Over as Ends}
use Rattle.core_facts.proofs.OpenPath.{OpenRuns, Over, StepIs, open-resumes, open-takes}

-- ---- lists of names

split-at : (xs : List (List ℕ)) (i : ℕ) (x : List ℕ) → slice_get xs i ≡ Some x → xs ≡ take i xs ++ x ∷ drop (suc i) xs
split-at [] i x at = absurd (cc)
split-at (y ∷ ys) zero x at = let same : y ≡ x = cc in ap (λ (z : List ℕ). z ∷ ys) same
split-at (y ∷ ys) (suc i) x at = ap (λ (zs : List (List ℕ)). y ∷ zs) (split-at ys i x at)

-- ---- the call for which an open waits

module _ (top : List ℕ) (h : List Entry) (x : ℕ) where
  -- the LOOKUP of a name of a path
  pub record Looks (path : List (List ℕ)) (call : Call) : Type 0 where
    pub at : ℕ
    pub name : List ℕ
    pub d : List ℕ
    pub there : slice_get path at ≡ Some name
    pub leads : LeadsTo top h (take at path) d
    pub is : call ≡ look_up d name

  walk-looks : (path : List (List ℕ)) (w : Walk) (call : Call) → WalkLeads top h path w → WalkAwaits w call → 1 ≤ of_walk w → Looks path call
  walk-looks path w call l e some = by (walking.waiting_name w) refl
    where
      then_name : (b : Bool) (name : List ℕ) → (if b then walking.next_name w else None) ≡ Some name → walking.next_name w ≡ Some name
      then_name true name is = is
      then_name false name is = absurd (cc)

      by : (o : Option (List ℕ)) → walking.waiting_name w ≡ o → Looks path call
      by None none = absurd (let zero_is : of_walk w ≡ 0 = ap of_name none in omega (arith, some, zero_is))
      by (Some name) is = record {
        at = length path - w.spot.left;
        name = name;
        d = w.spot.dir;
        there = ap (λ (p : List (List ℕ)). walking.name_at p w.spot.left) (sym l.path_is) ∙ then_name w.asked name is;
        leads = l.spot.leads;
        is = e name is;
      }

  -- the call of its step
  pub record StepAsks (path : List (List ℕ)) (mode : Mode) (call : Call) : Type 0 where
    pub o : Opening
    pub story : OpeningStory top h x path mode o
    pub is : call ≡ opening.call_of o o.step

  abbrev pub Wants : List (List ℕ) → Mode → Call → Type 0
  Wants path mode call = Looks (front_of path) call ⊎ StepAsks path mode call

  wanted : (path : List (List ℕ)) (mode : Mode) (nocto : Bool) (machine : Machine) (call : Call) → OpenRuns top h x path mode nocto machine → Awaits machine call → 1 ≤ in_flight machine
      → Wants path mode call
  wanted path mode nocto machine call k e some = by k.arrived refl
    where
      at : PathMachine
      at = record { walk = k.walk; opener = openers.Open k.opener; arrived = k.arrived }

      mine : PathOr k.arrived at call
      mine = subst (λ (n : Machine). Awaits n call) k.is e

      many : 1 ≤ path_by k.arrived (of_walk k.walk) (of_file (file_of (openers.Open k.opener)))
      many = subst (λ (n : Machine). 1 ≤ in_flight n) k.is some

      by : (b : Bool) → k.arrived ≡ b → Wants path mode call
      by true is = inr (record { o = k.opener.opening; story = k.there is; is = subst (λ (b : Bool). PathOr b at call) is mine })
      by false is = inl (walk-looks (front_of path) k.walk call (k.on_way is) (subst (λ (b : Bool). PathOr b at call) is mine)
          (subst (λ (b : Bool). 1 ≤ path_by b (of_walk k.walk) (of_file (file_of (openers.Open k.opener)))) is many))

asked-until : (before after : List Entry) (x y : ℕ) (call : Call) (reply : Reply) → length before ≡ y → Asked before x (length before) call reply → Asked (before ++ after) x y call reply
asked-until before after x y call reply there a = subst (λ (n : ℕ). Asked (before ++ after) x n call reply) there (Asked-grow before after x (length before) call reply a)

asked-on : (h : List Entry) (e : Entry) (x : ℕ) (call : Call) (reply : Reply) → Asked h x (length h) call reply → Asked (h ++ e ∷ []) x (length (h ++ e ∷ [])) call reply
asked-on h e x call reply a =
    let more = length_last h e in
    Asked-wide (h ++ e ∷ []) x (length h) x (length (h ++ e ∷ [])) call reply (omega arith) (omega (arith, more)) (Asked-grow h (e ∷ []) x (length h) call reply a)

module _ (m : Mounted) where
  -- ---- one entry more

  module _ (h : List Entry) (e : Entry) (x : ℕ) (path : List (List ℕ)) (mode : Mode) where
    file-later : (d file : List ℕ) → IsFileOf m.root h x path mode d file → IsFileOf m.root (h ++ e ∷ []) x path mode d file
    file-later d file (found l) = found (leads-later m.root h e path file l)
    file-later d file (made making attr wcc mk a) = made making attr wcc mk (asked-on h e x making _ a)

    may-later : (d : List ℕ) → MayMake m.root h x path mode d → MayMake m.root (h ++ e ∷ []) x path mode d
    may-later d (has_to is) = has_to is
    may-later d (missing reply is a none) = missing reply is (asked-on h e x _ reply a) none

    step-later : (d : List ℕ) (step : OpeningPhase) → StepStory m.root h x path mode d step → StepStory m.root (h ++ e ∷ []) x path mode d step
    step-later d opening_steps.Look s = tt
    step-later d opening_steps.Make s = may-later d s
    step-later d opening_steps.Find s = tt
    step-later d (opening_steps.Ask file) s = file-later d file s

    story-later : (o : Opening) → OpeningStory m.root h x path mode o → OpeningStory m.root (h ++ e ∷ []) x path mode o
    story-later o s = record { name_is = s.name_is; mode_is = s.mode_is; leads = leads-later m.root h e (front_of path) o.dir s.leads; step = step-later o.dir o.step s.step }

    runs-later : (machine : Machine) → OpenRuns m.root h x path mode m.nocto machine → OpenRuns m.root (h ++ e ∷ []) x path mode m.nocto machine
    runs-later machine k = record {
      walk = k.walk;
      opener = k.opener;
      arrived = k.arrived;
      is = k.is;
      nocto_is = k.nocto_is;
      name_is = k.name_is;
      mode_is = k.mode_is;
      on_way = λ is. walk-later m.root h e (front_of path) k.walk (k.on_way is);
      there = λ is. story-later k.opener.opening (k.there is);
    }

    got-later : (quiet : IsDelivered e → ⊥) (d : List ℕ) (attr : Attr) → GotLast m.root h x path mode d attr → GotLast m.root (h ++ e ∷ []) x path mode d attr
    got-later quiet d attr g = record { f = g.f; of = file-later d g.f g.of; ends = ends-later h e x _ _ quiet g.ends }

    answer-later : (quiet : IsDelivered e → ⊥) (nocto : Bool) (d : List ℕ) (answer : Answer) → OpenAnswer m.root h x path mode nocto d answer → OpenAnswer m.root (h ++ e ∷ []) x path mode nocto d answer
    answer-later quiet nocto d (answers.Done value) a = (a.0, λ is. let s = a.1 is in record { attr = s.attr; got = got-later quiet d s.attr s.got; kind = s.kind })
    answer-later quiet nocto d (answers.Refused fault) a = λ is. let s = a is in record { attr = s.attr; got = got-later quiet d s.attr s.got; other = s.other }

    over-later : (quiet : IsDelivered e → ⊥) (answer : Answer) → Over m.root h x path mode m.nocto answer → Over m.root (h ++ e ∷ []) x path mode m.nocto answer
    over-later quiet answer (inl k) = inl (record { d = k.d; leads = leads-later m.root h e (front_of path) k.d k.leads; answer_is = answer-later quiet m.nocto k.d answer k.answer_is })
    over-later quiet answer (inr k) = inr k

  -- ---- the story

  abbrev pub StateStory : List Entry → ℕ → List (List ℕ) → Mode → State → Type 0
  StateStory h x path mode (Busy machine) = OpenRuns m.root h x path mode m.nocto machine
  StateStory h x path mode (Ends answer) = Over m.root h x path mode m.nocto answer

  abbrev pub Story : List Entry → ℕ → Op → State → Type 0
  Story h x op state = (slot : ℕ) (mode : Mode) (path : List (List ℕ)) → op ≡ ops.OpenFile slot mode path → IsNamed path → StateStory h x path mode state

  -- each call that waits is one that its open asks for
  abbrev pub Caused : List Entry → ℕ → Op → Call → Type 0
  Caused h x op call = (slot : ℕ) (mode : Mode) (path : List (List ℕ)) → op ≡ ops.OpenFile slot mode path → IsNamed path → Wants m.root h x path mode call

  abbrev pub Shelved : List Entry → Shelf → Type 0
  Shelved h shelf = NamesTold h shelf.names

  -- what a step of an open comes to
  abbrev Comes : List Entry → ℕ → Op → Step → Machine → Type 0
  Comes h x op next new = (slot : ℕ) (mode : Mode) (path : List (List ℕ)) → op ≡ ops.OpenFile slot mode path → IsNamed path → StepIs m.root h x path mode m.nocto next new

  asks-all : (h : List Entry) (x : ℕ) (op : Op) (next : Step) (before : ℕ) (new : Machine) → Comes h x op next new → AskedOf Awaits next new
      → ((slot : ℕ) (mode : Mode) (path : List (List ℕ)) → op ≡ ops.OpenFile slot mode path → IsNamed path → Counts next before new) → AsksFor (Caused h x op) next
  asks-all h x op (nexts.Send call) before new t e c = λ slot mode path is named.
      wanted m.root h x path mode m.nocto new call (t slot mode path is named) e (let more = (c slot mode path is named).0 in omega (arith, more))
  asks-all h x op nexts.Wait before new t e c = tt
  asks-all h x op (nexts.Done answer) before new t e c = tt

  runs-counted : (h : List Entry) (x : ℕ) (path : List (List ℕ)) (mode : Mode) (machine : Machine) → OpenRuns m.root h x path mode m.nocto machine → IsCounted machine
  runs-counted h x path mode machine k = subst IsCounted (sym k.is) tt

  wants-later : (h : List Entry) (e : Entry) (x : ℕ) (path : List (List ℕ)) (mode : Mode) (call : Call) → Wants m.root h x path mode call → Wants m.root (h ++ e ∷ []) x path mode call
  wants-later h e x path mode call (inl k) =
      inl (record { at = k.at; name = k.name; d = k.d; there = k.there; leads = leads-later m.root h e (take k.at (front_of path)) k.d k.leads; is = k.is })
  wants-later h e x path mode call (inr k) = inr (record { o = k.o; story = story-later h e x path mode k.o k.story; is = k.is })

  for-open : (h : List Entry) (x : ℕ) (op : Op) (next : Step) (new : Machine)
      → ((slot : ℕ) (mode : Mode) (path : List (List ℕ)) → op ≡ ops.OpenFile slot mode path → IsNamed path → StepIs m.root h x path mode m.nocto next new)
      → ThenOf (λ k. Story h x op (Busy k)) (λ a. Story h x op (Ends a)) next new
  for-open h x op (nexts.Send call) new t = t
  for-open h x op nexts.Wait new t = t
  for-open h x op (nexts.Done answer) new t = t

  step-as : (h : List Entry) (x : ℕ) (path : List (List ℕ)) (mode : Mode) (next : Step) (to new : Machine) → new ≡ to → StepIs m.root h x path mode m.nocto next to
      → StepIs m.root h x path mode m.nocto next new
  step-as h x path mode next to new is t = subst (λ (k : Machine). StepIs m.root h x path mode m.nocto next k) (sym is) t

  heard-all : (h : List Entry) (x : ℕ) (op : Op) (machine : Machine) (came : Result Reply Fault) (told : IsTold Awaits Caused h x op machine came) → IsHeard m.root h came told.call
  heard-all h x op machine came told reply is = Asked-wide h x (length h) 0 (length h) told.call reply (omega arith) (omega arith) (told.heard reply is).asked

  starts-if : (b : Bool) (h : List Entry) (x lane slot : ℕ) (mode : Mode) (path : List (List ℕ)) (wsize : ℕ) (turn : Turn) (old : Shelf) (next : Step) (new : PathMachine) (after : Shelf)
      → NamesTold h old.names
      → paths.StartsIf b wsize (record {
        walk = walk_of m.root (front_of path);
        opener = openers.Open (record {
          lane = lane;
          slot = slot;
          opening = record { dir = m.root; name = last_of path; mode = mode; nocto = m.nocto; moment = 0; step = opening.first_step mode; asked = false; put_off = 0 };
        });
        arrived = false;
      }) turn old next new after → StepIs m.root h x path mode m.nocto next (machines.Path new)
  starts-if true h x lane slot mode path wsize turn old next new after t s =
      then-as (OpenRuns m.root h x path mode m.nocto) (Over m.root h x path mode m.nocto) (nexts.Done (answers.Refused faults.Slot)) next (machines.Path new) s.0
      (inr (faults.Slot, refl, λ is. absurd (let no_way : faults.Slot ≡ faults.Kind = is in cc)))
  starts-if false h x lane slot mode path wsize turn old next new after t s =
      open-resumes m.root h x path mode m.nocto false wsize (walk_of m.root (front_of path)) (record {
        lane = lane;
        slot = slot;
        opening = record { dir = m.root; name = last_of path; mode = mode; nocto = m.nocto; moment = turn.moment - 1; step = opening.first_step mode; asked = false; put_off = 0 };
      }) turn old next new after refl refl refl (λ is. walk-begins) (λ is. absurd (let no_way : false ≡ true = is in cc)) t s
    where
      walk-begins : WalkLeads m.root h (front_of path) (walk_of m.root (front_of path))
      walk-begins = record {
        path_is = refl;
        spot = record {
          few = omega arith;
          leads = leads.root (take (length (front_of path) - length (front_of path)) (front_of path)) m.root
              (let none : length (front_of path) - length (front_of path) ≡ 0 = omega arith in ap (λ (n : ℕ). take n (front_of path)) none) refl;
        };
      }

  pub open-laws : (setup : Setup) → TaleLaws (machine_of m) setup Awaits Caused Shelved Story
  open-laws setup = record {
    fresh = λ h v up fresh. subst (λ (es : _). NamesTold h es) (sym fresh.names) (All-nil (IsNameTold h));
    starts = λ h lane line op wsize turn old next new after kept s.
        let steps : Comes (h ++ Began lane line op ∷ []) (length h) op next new =
        λ slot mode path is named.
        let k = subst (λ (o : Op). Starts wsize (machine_of m lane o) turn old next new after) is s in
        step-as (h ++ Began lane line op ∷ []) (length h) path mode next (machines.Path k.machine) new k.machine_is
        (starts-if _ (h ++ Began lane line op ∷ []) (length h) lane slot mode path wsize turn old next k.machine after kept k.step) in
        record {
          shelf = all-starts (IsNameTold (h ++ Began lane line op ∷ [])) (machine_of m lane op) wsize turn old next new after s kept;
          asks = asks-all (h ++ Began lane line op ∷ []) (length h) op next 0 new steps (awaits-laws.starts (machine_of m lane op) wsize turn old next new after s)
              (λ slot mode path is named. counts-calls.start wsize (machine_of m lane op) turn old next new after s (begins-unbegun m lane op));
          then_ = for-open (h ++ Began lane line op ∷ []) (length h) op next new steps;
        };
    resumes = λ h x op machine wsize turn old next new after kept story r.
        let steps : Comes h x op next new =
        λ slot mode path is named.
        let k = story slot mode path is named in
        let g = subst (λ (n : Machine). Resumes wsize n turn old next new after) k.is r in
        step-as h x path mode next (machines.Path g.machine) new g.machine_is
        (open-resumes m.root h x path mode m.nocto k.arrived wsize k.walk k.opener turn old next g.machine after k.nocto_is k.name_is k.mode_is k.on_way k.there kept g.step) in
        record {
          shelf = all-resumes (IsNameTold h) machine wsize turn old next new after r kept;
          asks = asks-all h x op next (in_flight machine) new steps (awaits-laws.resumes machine wsize turn old next new after r).0
              (λ slot mode path is named. counts-calls.resume wsize machine turn old next new after r (runs-counted h x path mode machine (story slot mode path is named)));
          then_ = for-open h x op next new steps;
        };
    takes = λ h x op machine wsize sent turn came old next new after others kept story one told t.
        let steps : Comes h x op next new =
        λ slot mode path is named.
        let k = story slot mode path is named in
        let g = subst (λ (n : Machine). Takes wsize n sent turn came old next new after) k.is t in
        let e = subst (λ (n : Machine). Awaits n told.call) k.is told.expects in
        step-as h x path mode next (machines.Path g.machine) new g.machine_is
        (open-takes m.root h x path mode m.nocto k.arrived wsize k.walk k.opener sent turn came old next g.machine after told.call named k.nocto_is k.name_is k.mode_is k.on_way k.there kept e
        (heard-all h x op machine came told) (record { heard = told.heard; refused = told.refused }) g.step) in
        record {
          shelf = all-takes (IsNameTold h) machine wsize sent turn came old next new after told.call told.expects
              (heard-tells m.root h came told.call (heard-all h x op machine came told)) t kept;
          asks = asks-all h x op next others new steps (awaits-laws.takes machine wsize sent turn came old next new after others one t).0
              (λ slot mode path is named. counts-calls.take wsize machine sent turn came old next new after others t (runs-counted h x path mode machine (story slot mode path is named)) one);
          then_ = for-open h x op next new steps;
        };
    still = λ h e shelf kept. names-later h e shelf.names kept;
    waits = λ h e x op call w slot mode path is named. wants-later h e x path mode call (w slot mode path is named);
    grows = λ h e x op state quiet story slot mode path is named. state-later h e x path mode state quiet (story slot mode path is named);
    lost = λ h x op shown slot mode path is named. inr (faults.Lost, refl, λ same. absurd (let no_way : faults.Lost ≡ faults.Kind = same in cc));
  }
    where
      state-later : (h : List Entry) (e : Entry) (x : ℕ) (path : List (List ℕ)) (mode : Mode) (state : State) → IsQuiet state e → StateStory h x path mode state
          → StateStory (h ++ e ∷ []) x path mode state
      state-later h e x path mode (Busy machine) quiet k = runs-later h e x path mode machine k
      state-later h e x path mode (Ends answer) quiet k = over-later h e x path mode quiet answer k

  -- ---- what an open asks for

  pub asks-as : (terms : Terms) (before after : List Entry) (x y slot : ℕ) (mode : Mode) (path : List (List ℕ)) (call : Call) → IsNamed path → length before ≡ y
      → Rooted terms.origin (before ++ after) y m.root → Wants m.root before x path mode call → Asks terms (before ++ after) x y (ops.OpenFile slot mode path) call
  asks-as terms before after x y slot mode path call named there rooted (inl k) = by (drop (suc k.at) (front_of path)) refl
    where
      leads-on : leads.Leads terms.origin (before ++ after) y (take k.at (front_of path)) k.d
      leads-on = leads-from m.root terms.origin before after (length before) y (take k.at (front_of path)) k.d (omega (arith, there)) rooted k.leads

      whole : path ≡ (take k.at (front_of path) ++ k.name ∷ drop (suc k.at) (front_of path)) ++ last_of path ∷ []
      whole = front-last path named ∙ ap (λ (f : List (List ℕ)). f ++ last_of path ∷ []) (split-at (front_of path) k.at k.name k.there)

      apart : path ≡ take k.at (front_of path) ++ k.name ∷ (drop (suc k.at) (front_of path) ++ last_of path ∷ [])
      apart = whole ∙ append_assoc (take k.at (front_of path)) (k.name ∷ drop (suc k.at) (front_of path)) (last_of path ∷ [])

      by : (rest : List (List ℕ)) → drop (suc k.at) (front_of path) ≡ rest → Asks terms (before ++ after) x y (ops.OpenFile slot mode path) call
      by [] is = asks.walks path (take k.at (front_of path)) [] k.name (last_of path) k.d (0, omega arith, refl)
          (apart ∙ ap (λ (r : List (List ℕ)). take k.at (front_of path) ++ k.name ∷ (r ++ last_of path ∷ [])) is) leads-on k.is
      by (z ∷ zs) is = asks.walks path (take k.at (front_of path)) (zs ++ last_of path ∷ []) k.name z k.d (0, omega arith, refl)
          (apart ∙ ap (λ (r : List (List ℕ)). take k.at (front_of path) ++ k.name ∷ (r ++ last_of path ∷ [])) is) leads-on k.is
  asks-as terms before after x y slot mode path call named there rooted (inr k) = by k.o.step refl k.story.step
    where
      placed : PlaceOf terms.origin (before ++ after) y path k.o.dir (last_of path)
      placed = record {
        earlier = front_of path;
        is = front-last path named;
        leads = leads-from m.root terms.origin before after (length before) y (front_of path) k.o.dir (omega (arith, there)) rooted k.story.leads;
      }

      at : (s : OpeningPhase) → k.o.step ≡ s → call ≡ opening.call_of k.o s
      at s is = k.is ∙ ap (opening.call_of k.o) is

      looks : call ≡ look_up k.o.dir k.o.name → Asks terms (before ++ after) x y (ops.OpenFile slot mode path) call
      looks is = asks.finds path k.o.dir (last_of path) (0, omega arith, refl) placed (is ∙ ap (look_up k.o.dir) k.story.name_is)

      makes : call ≡ opening.call_of k.o opening_steps.Make → MayMake m.root before x path mode k.o.dir → Asks terms (before ++ after) x y (ops.OpenFile slot mode path) call
      makes is (has_to x_is) = asks.creates slot path k.o.dir (last_of path) (ap (λ (n : Mode). ops.OpenFile slot n path) x_is) placed
          (is ∙ ap (λ (n : Mode). calls.Dir (dirs.Create k.o.dir k.o.name (opening.making_of n))) (k.story.mode_is ∙ x_is) ∙ ap (create_guarded k.o.dir) k.story.name_is)
      makes is (missing reply c_is a none) =
          asks.creates_after slot path k.o.dir (last_of path) reply (ap (λ (n : Mode). ops.OpenFile slot n path) c_is) placed (asked-until before after x y _ reply there a) none
          (is ∙ ap (λ (n : Mode). calls.Dir (dirs.Create k.o.dir k.o.name (opening.making_of n))) (k.story.mode_is ∙ c_is) ∙ ap (create_unchecked k.o.dir) k.story.name_is)

      gets : (file : List ℕ) → call ≡ calls.File (file_calls.GetAttr file) → IsFileOf m.root before x path mode k.o.dir file → Asks terms (before ++ after) x y (ops.OpenFile slot mode path) call
      gets file is (found l) = asks.opens path file (asks.opens slot mode refl) (leads-from m.root terms.origin before after (length before) y path file (omega (arith, there)) rooted l) is
      gets file is (made making attr wcc mk a) =
          asks.opens_made slot mode path k.o.dir (last_of path) file making attr wcc refl placed mk (asked-until before after x y making _ there a) is

      by : (s : OpeningPhase) → k.o.step ≡ s → StepStory m.root before x path mode k.o.dir s → Asks terms (before ++ after) x y (ops.OpenFile slot mode path) call
      by opening_steps.Look is s = looks (at opening_steps.Look is)
      by opening_steps.Find is s = looks (at opening_steps.Find is)
      by opening_steps.Make is s = makes (at opening_steps.Make is) s
      by (opening_steps.Ask file) is s = gets file (at (opening_steps.Ask file) is) s
