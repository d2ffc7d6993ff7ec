-- An open goes well, or is refused for the kind of its file, only where its last reply shows it.
use Rattle.core_facts.proofs.Prelude.{◌≡◌, ◌+◌, ◌-◌, inl, inr, ℕ, Bool, true, false, List, [], ◌∷◌, ◌++◌, length, take, Result, refl, sym, ap, subst, arith, Attr, Mode, Answer, Fault, Entry, Began, Call, Reply, Op, At, Asked, Rooted, Ended, Terms, Asked-wide, length_last, Step, Shelf, Turn, OpenFile, Opening, OpeningPhase, Mounted, Machine, PathMachine, IsNamed, front_of, last_of, machine_of, Starts, Resumes, Takes, State, Busy, Setup}
use Rattle.world_model.proofs.Growth.{Asked-grow, Rooted-wide}
use Rattle.std.proofs.lemmas.List.Elements.{All-nil}
use Rattle.nfs_file_calls.specs.declared.call.FileCall.TheVariants as file_calls
use Rattle.world_model.specs.declared.answer.Answer.TheVariants as answers
use Rattle.world_model.specs.declared.answer.Fault.TheVariants as faults
use Rattle.world_model.specs.declared.message.Call.TheVariants as calls
use Rattle.world_model.specs.declared.op.Op.TheVariants as ops
use Rattle.claims.specs.Asks.{Asks}
use Rattle.claims.specs.Asks as asks
use Rattle.world_model.specs.Leads as leads
use Rattle.claims.specs.OkRows as rows
use Rattle.claims.specs.RefusalRows.{IsNoFile}
use Rattle.world_model.specs.Waiting.{IsDelivered}
use Rattle.client_shelf.specs.declared.step.Step.TheVariants as nexts
use Rattle.file_ops.specs.declared.opening.OpeningPhase.TheVariants as opening_steps
use Rattle.file_ops.specs.Opening as opening
use Rattle.name_ops.specs.Pairs.{walk_of}
use Rattle.op_machines.specs.declared.machine.Machine.TheVariants as machines
use Rattle.op_machines.specs.declared.opener.Opener.TheVariants as openers
use Rattle.op_machines.specs.PathSteps as paths
use Rattle.client_core.specs.declared.lane.State.TheVariants.{Over as Ends}
use Rattle.core_facts.specs.Opened.{OpensShown, KindsShown}
use Rattle.core_facts.proofs.AllAwaited.{Awaits, awaits-laws}
use Rattle.core_facts.proofs.AllCounts.{begins-unbegun}
use Rattle.core_facts.proofs.FilesKept.{all-starts, all-resumes, all-takes}
use Rattle.core_facts.proofs.Leading.{IsNameTold, NamesTold, names-later, LeadsTo, leads-from, leads-later, WalkLeads, walk-later, IsHeard, heard-tells}
use Rattle.core_facts.proofs.OneCalls.{then-as}
use Rattle.core_facts.proofs.OneCallStory.{front-last, ends-later, ends-until}
use Rattle.core_facts.proofs.OpenPath.{OpenRuns, Over, StepIs, open-resumes, open-takes}
use Rattle.core_facts.proofs.OpenStory.{OpeningStory, StepStory, MayMake, has_to, missing, IsFileOf, found, made, GotLast, OpenAnswer}
use Rattle.core_facts.proofs.Steps.{ThenOf}
use Rattle.core_facts.proofs.Tales.{IsTold, TaleLaws, reached-answered}
use Rattle.core_facts.proofs.Telling.{IsQuiet, AsksFor}

asked-until : (before after : List Entry) (x y : ℕ) (call : Call) (reply : Reply) → length before ≡ y → Asked before x (length before) call reply → Asked (before ++ after) x y call reply
asked-until before after x y call reply there a = subst (λ (n : ℕ). Asked (before ++ after) x n call reply) there (Asked-grow before after x (length before) call reply a)

asked-on : (h : List Entry) (e : Entry) (x : ℕ) (call : Call) (reply : Reply) → Asked h x (length h) call reply → Asked (h ++ e ∷ []) x (length (h ++ e ∷ [])) call reply
asked-on h e x call reply a =
    let more = length_last h e in
    Asked-wide (h ++ e ∷ []) x (length h) x (length (h ++ e ∷ [])) call reply (omega arith) (omega (arith, more)) (Asked-grow h (e ∷ []) x (length h) call reply a)

module _ (m : Mounted) where
  -- ---- one entry more

  module _ (h : List Entry) (e : Entry) (x : ℕ) (path : List (List ℕ)) (mode : Mode) where
    file-later : (d file : List ℕ) → IsFileOf m.root h x path mode d file → IsFileOf m.root (h ++ e ∷ []) x path mode d file
    file-later d file (found l) = found (leads-later m.root h e path file l)
    file-later d file (made making attr wcc mk a) = made making attr wcc mk (asked-on h e x making _ a)

    may-later : (d : List ℕ) → MayMake m.root h x path mode d → MayMake m.root (h ++ e ∷ []) x path mode d
    may-later d (has_to is) = has_to is
    may-later d (missing reply is a none) = missing reply is (asked-on h e x _ reply a) none

    step-later : (d : List ℕ) (step : OpeningPhase) → StepStory m.root h x path mode d step → StepStory m.root (h ++ e ∷ []) x path mode d step
    step-later d opening_steps.Look s = tt
    step-later d opening_steps.Make s = may-later d s
    step-later d opening_steps.Find s = tt
    step-later d (opening_steps.Ask file) s = file-later d file s

    story-later : (o : Opening) → OpeningStory m.root h x path mode o → OpeningStory m.root (h ++ e ∷ []) x path mode o
    story-later o s = record { name_is = s.name_is; mode_is = s.mode_is; leads = leads-later m.root h e (front_of path) o.dir s.leads; step = step-later o.dir o.step s.step }

    runs-later : (machine : Machine) → OpenRuns m.root h x path mode m.nocto machine → OpenRuns m.root (h ++ e ∷ []) x path mode m.nocto machine
    runs-later machine k = record {
      walk = k.walk;
      opener = k.opener;
      arrived = k.arrived;
      is = k.is;
      nocto_is = k.nocto_is;
      name_is = k.name_is;
      mode_is = k.mode_is;
      on_way = λ is. walk-later m.root h e (front_of path) k.walk (k.on_way is);
      there = λ is. story-later k.opener.opening (k.there is);
    }

    got-later : (quiet : IsDelivered e → ⊥) (d : List ℕ) (attr : Attr) → GotLast m.root h x path mode d attr → GotLast m.root (h ++ e ∷ []) x path mode d attr
    got-later quiet d attr g = record { f = g.f; of = file-later d g.f g.of; ends = ends-later h e x _ _ quiet g.ends }

    answer-later : (quiet : IsDelivered e → ⊥) (nocto : Bool) (d : List ℕ) (answer : Answer) → OpenAnswer m.root h x path mode nocto d answer → OpenAnswer m.root (h ++ e ∷ []) x path mode nocto d answer
    answer-later quiet nocto d (answers.Done value) a = (a.0, λ is. let s = a.1 is in record { attr = s.attr; got = got-later quiet d s.attr s.got; kind = s.kind })
    answer-later quiet nocto d (answers.Refused fault) a = λ is. let s = a is in record { attr = s.attr; got = got-later quiet d s.attr s.got; other = s.other }

    over-later : (quiet : IsDelivered e → ⊥) (answer : Answer) → Over m.root h x path mode m.nocto answer → Over m.root (h ++ e ∷ []) x path mode m.nocto answer
    over-later quiet answer (inl k) = inl (record { d = k.d; leads = leads-later m.root h e (front_of path) k.d k.leads; answer_is = answer-later quiet m.nocto k.d answer k.answer_is })
    over-later quiet answer (inr k) = inr k

  -- ---- the story

  abbrev StateStory : List Entry → ℕ → List (List ℕ) → Mode → State → Type 0
  StateStory h x path mode (Busy machine) = OpenRuns m.root h x path mode m.nocto machine
  StateStory h x path mode (Ends answer) = Over m.root h x path mode m.nocto answer

  abbrev Story : List Entry → ℕ → Op → State → Type 0
  Story h x op state = (slot : ℕ) (mode : Mode) (path : List (List ℕ)) → op ≡ ops.OpenFile slot mode path → IsNamed path → StateStory h x path mode state

  abbrev NoWait : List Entry → ℕ → Op → Call → Type 0
  NoWait h x op call = Unit {0}

  abbrev Shelved : List Entry → Shelf → Type 0
  Shelved h shelf = NamesTold h shelf.names

  asks-none : (h : List Entry) (x : ℕ) (op : Op) (next : Step) → AsksFor (NoWait h x op) next
  asks-none h x op (nexts.Send call) = tt
  asks-none h x op nexts.Wait = tt
  asks-none h x op (nexts.Done answer) = tt

  for-open : (h : List Entry) (x : ℕ) (op : Op) (next : Step) (new : Machine)
      → ((slot : ℕ) (mode : Mode) (path : List (List ℕ)) → op ≡ ops.OpenFile slot mode path → IsNamed path → StepIs m.root h x path mode m.nocto next new)
      → ThenOf (λ k. Story h x op (Busy k)) (λ a. Story h x op (Ends a)) next new
  for-open h x op (nexts.Send call) new t = t
  for-open h x op nexts.Wait new t = t
  for-open h x op (nexts.Done answer) new t = t

  step-as : (h : List Entry) (x : ℕ) (path : List (List ℕ)) (mode : Mode) (next : Step) (to new : Machine) → new ≡ to → StepIs m.root h x path mode m.nocto next to
      → StepIs m.root h x path mode m.nocto next new
  step-as h x path mode next to new is t = subst (λ (k : Machine). StepIs m.root h x path mode m.nocto next k) (sym is) t

  heard-all : (h : List Entry) (x : ℕ) (op : Op) (machine : Machine) (came : Result Reply Fault) (told : IsTold Awaits NoWait h x op machine came) → IsHeard m.root h came told.call
  heard-all h x op machine came told reply is = Asked-wide h x (length h) 0 (length h) told.call reply (omega arith) (omega arith) (told.heard reply is).asked

  starts-if : (b : Bool) (h : List Entry) (x lane slot : ℕ) (mode : Mode) (path : List (List ℕ)) (wsize : ℕ) (turn : Turn) (old : Shelf) (next : Step) (new : PathMachine) (after : Shelf)
      → NamesTold h old.names
      → paths.StartsIf b wsize (record {
        walk = walk_of m.root (front_of path);
        opener = openers.Open (record {
          lane = lane;
          slot = slot;
          opening = record { dir = m.root; name = last_of path; mode = mode; nocto = m.nocto; moment = 0; step = opening.first_step mode; asked = false; put_off = 0 };
        });
        arrived = false;
      }) turn old next new after → StepIs m.root h x path mode m.nocto next (machines.Path new)
  starts-if true h x lane slot mode path wsize turn old next new after t s =
      then-as (OpenRuns m.root h x path mode m.nocto) (Over m.root h x path mode m.nocto) (nexts.Done (answers.Refused faults.Slot)) next (machines.Path new) s.0
      (inr (faults.Slot, refl, λ is. absurd (let no_way : faults.Slot ≡ faults.Kind = is in cc)))
  starts-if false h x lane slot mode path wsize turn old next new after t s =
      open-resumes m.root h x path mode m.nocto false wsize (walk_of m.root (front_of path)) (record {
        lane = lane;
        slot = slot;
        opening = record { dir = m.root; name = last_of path; mode = mode; nocto = m.nocto; moment = turn.moment - 1; step = opening.first_step mode; asked = false; put_off = 0 };
      }) turn old next new after refl refl refl (λ is. walk-begins) (λ is. absurd (let no_way : false ≡ true = is in cc)) t s
    where
      walk-begins : WalkLeads m.root h (front_of path) (walk_of m.root (front_of path))
      walk-begins = record {
        path_is = refl;
        spot = record {
          few = omega arith;
          leads = leads.root (take (length (front_of path) - length (front_of path)) (front_of path)) m.root
              (let none : length (front_of path) - length (front_of path) ≡ 0 = omega arith in ap (λ (n : ℕ). take n (front_of path)) none) refl;
        };
      }

  open-laws : (setup : Setup) → TaleLaws (machine_of m) setup Awaits NoWait Shelved Story
  open-laws setup = record {
    fresh = λ h v up fresh. subst (λ (es : _). NamesTold h es) (sym fresh.names) (All-nil (IsNameTold h));
    starts = λ h lane line op wsize turn old next new after kept s. record {
      shelf = all-starts (IsNameTold (h ++ Began lane line op ∷ [])) (machine_of m lane op) wsize turn old next new after s kept;
      asks = asks-none (h ++ Began lane line op ∷ []) (length h) op next;
      then_ = for-open (h ++ Began lane line op ∷ []) (length h) op next new (λ slot mode path is named.
          let k = subst (λ (o : Op). Starts wsize (machine_of m lane o) turn old next new after) is s in
          step-as (h ++ Began lane line op ∷ []) (length h) path mode next (machines.Path k.machine) new k.machine_is
          (starts-if _ (h ++ Began lane line op ∷ []) (length h) lane slot mode path wsize turn old next k.machine after kept k.step));
    };
    resumes = λ h x op machine wsize turn old next new after kept story r. record {
      shelf = all-resumes (IsNameTold h) machine wsize turn old next new after r kept;
      asks = asks-none h x op next;
      then_ = for-open h x op next new (λ slot mode path is named.
          let k = story slot mode path is named in
          let g = subst (λ (n : Machine). Resumes wsize n turn old next new after) k.is r in
          step-as h x path mode next (machines.Path g.machine) new g.machine_is
          (open-resumes m.root h x path mode m.nocto k.arrived wsize k.walk k.opener turn old next g.machine after k.nocto_is k.name_is k.mode_is k.on_way k.there kept g.step));
    };
    takes = λ h x op machine wsize sent turn came old next new after others kept story one told t. record {
      shelf = all-takes (IsNameTold h) machine wsize sent turn came old next new after told.call told.expects (heard-tells m.root h came told.call (heard-all h x op machine came told)) t kept;
      asks = asks-none h x op next;
      then_ = for-open h x op next new (λ slot mode path is named.
          let k = story slot mode path is named in
          let g = subst (λ (n : Machine). Takes wsize n sent turn came old next new after) k.is t in
          let e = subst (λ (n : Machine). Awaits n told.call) k.is told.expects in
          step-as h x path mode next (machines.Path g.machine) new g.machine_is
          (open-takes m.root h x path mode m.nocto k.arrived wsize k.walk k.opener sent turn came old next g.machine after told.call named k.nocto_is k.name_is k.mode_is k.on_way k.there kept e
          (heard-all h x op machine came told) (record { heard = told.heard; refused = told.refused }) g.step));
    };
    still = λ h e shelf kept. names-later h e shelf.names kept;
    waits = λ h e x op call w. tt;
    grows = λ h e x op state quiet story slot mode path is named. state-later h e x path mode state quiet (story slot mode path is named);
    lost = λ h x op shown slot mode path is named. inr (faults.Lost, refl, λ same. absurd (let no_way : faults.Lost ≡ faults.Kind = same in cc));
  }
    where
      state-later : (h : List Entry) (e : Entry) (x : ℕ) (path : List (List ℕ)) (mode : Mode) (state : State) → IsQuiet state e → StateStory h x path mode state
          → StateStory (h ++ e ∷ []) x path mode state
      state-later h e x path mode (Busy machine) quiet k = runs-later h e x path mode machine k
      state-later h e x path mode (Ends answer) quiet k = over-later h e x path mode quiet answer k

  -- ---- answers

  -- GETATTR of its file is a call that the open asks for
  asks-file : (terms : Terms) (before after : List Entry) (x y slot : ℕ) (mode : Mode) (path : List (List ℕ)) (d f : List ℕ) → IsNamed path → length before ≡ y
      → Rooted terms.origin (before ++ after) y m.root → LeadsTo m.root before (front_of path) d → IsFileOf m.root before x path mode d f
      → Asks terms (before ++ after) x y (ops.OpenFile slot mode path) (calls.File (file_calls.GetAttr f))
  asks-file terms before after x y slot mode path d f named there rooted l (found k) =
      asks.opens path f (asks.opens slot mode refl) (leads-from m.root terms.origin before after (length before) y path f (omega (arith, there)) rooted k) refl
  asks-file terms before after x y slot mode path d f named there rooted l (made making attr wcc mk a) =
      asks.opens_made slot mode path d (last_of path) f making attr wcc refl
      (record { earlier = front_of path; is = front-last path named; leads = leads-from m.root terms.origin before after (length before) y (front_of path) d (omega (arith, there)) rooted l })
      mk (asked-until before after x y making _ there a) refl

  root-at : (terms : Terms) (h : List Entry) (lane x y : ℕ) (op : Op) (answer : Answer) → ((i l line : ℕ) (o : Op) → At h i (Began l line o) → Rooted terms.origin h i m.root)
      → Ended h lane x op y answer → Rooted terms.origin h y m.root
  root-at terms h lane x y op answer known d = let since = d.later in Rooted-wide terms.origin h x y m.root (omega (arith, since)) (known x lane d.line op d.began)

pub opens-shown : OpensShown
opens-shown m setup h v r terms known fresh lane x slot mode path y value named ended =
    let s = reached-answered (machine_of m) (begins-unbegun m) setup Awaits awaits-laws (NoWait m) (Shelved m) (Story m) (open-laws m setup) h v r lane x (ops.OpenFile slot mode path) y
    (answers.Done value) ended in
    let rooted = root-at m terms h lane x y (ops.OpenFile slot mode path) (answers.Done value) known ended in
    subst (λ (k : List Entry). rows.OkRow terms k lane x y (ops.OpenFile slot mode path) value) (sym s.is)
    (by s.before s.after s.there (subst (λ (k : List Entry). Rooted terms.origin k y m.root) s.is rooted) (s.story slot mode path refl named))
  where
    by : (before after : List Entry) → length before ≡ y → Rooted terms.origin (before ++ after) y m.root → Over m.root before x path mode m.nocto (answers.Done value)
        → rows.OkRow terms (before ++ after) lane x y (ops.OpenFile slot mode path) value
    by before after there rooted (inr k) = absurd (let no_way : answers.Done value ≡ answers.Refused k.0 = k.1 in cc)
    by before after there rooted (inl k) =
        let shown = k.answer_is.1 fresh in (
          rows.asked shown.got.f shown.attr (asks-file m terms before after x y slot mode path k.d shown.got.f named there rooted k.leads shown.got.of)
              (ends-until before after x y _ _ there shown.got.ends) shown.kind,
          k.answer_is.0,
        )

pub kinds-shown : KindsShown
kinds-shown m setup h v r terms known lane x slot mode path y named ended =
    let s = reached-answered (machine_of m) (begins-unbegun m) setup Awaits awaits-laws (NoWait m) (Shelved m) (Story m) (open-laws m setup) h v r lane x (ops.OpenFile slot mode path) y
    (answers.Refused faults.Kind) ended in
    let rooted = root-at m terms h lane x y (ops.OpenFile slot mode path) (answers.Refused faults.Kind) known ended in
    subst (λ (k : List Entry). IsNoFile terms k x y (ops.OpenFile slot mode path)) (sym s.is)
    (by s.before s.after s.there (subst (λ (k : List Entry). Rooted terms.origin k y m.root) s.is rooted) (s.story slot mode path refl named))
  where
    by : (before after : List Entry) → length before ≡ y → Rooted terms.origin (before ++ after) y m.root → Over m.root before x path mode m.nocto (answers.Refused faults.Kind)
        → IsNoFile terms (before ++ after) x y (ops.OpenFile slot mode path)
    by before after there rooted (inr k) = absurd (k.2 (same k.0 k.1))
      where
        same : (fault : Fault) → answers.Refused faults.Kind ≡ answers.Refused fault → fault ≡ faults.Kind
        same fault e = cc
    by before after there rooted (inl k) =
        let shown = k.answer_is refl in
        record {
          path = path;
          f = shown.got.f;
          attr = shown.attr;
          opening = asks.opens slot mode refl;
          asks = asks-file m terms before after x y slot mode path k.d shown.got.f named there rooted k.leads shown.got.of;
          ends = ends-until before after x y _ _ there shown.got.ends;
          other = shown.other;
        }
