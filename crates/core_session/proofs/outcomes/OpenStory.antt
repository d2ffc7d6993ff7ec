-- How an open goes well: with the reply to its GETATTR, or with the one that gave its file, of which attributes are kept.
use Rattle.core_session.proofs.Prelude.{◌≡◌, ◌≤◌, ◌+◌, ◌⊎◌, inl, inr, ℕ, Bool, true, false, List, [], ◌∷◌, ◌++◌, length, Result, refl, sym, subst, ◌∙◌, arith, Attr, Mode, Answer, Fault, Value, Entry, Began, Delivered, Call, Reply, Op, IsDelivered, Asked-grow, Asked-wide, length_last, Step, Shelf, Turn, OpenFile, Opening, walk_of, Mounted, Machine, PathMachine, IsNamed, front_of, last_of, machine_of, file_of, slot_taken, Starts, Resumes, Takes, State, Busy, Setup, of_walk, path_by, in_flight, Awaits, PathOr, LeadsTo, leads-later, ends-later, IsQuiet, Did, TaleLaws, walk-looks, LastAtMost, one-call, CameOf, heard_of, unmade, SlotLaws}
use Rattle.core_facts.specs.InFlight.{of_file}
use Rattle.core_facts.specs.Tries.{IsMade}
use Rattle.core_answers.proofs.refusals.Answering.{IsSeen}
use Rattle.world_model.specs.declared.answer.Answer.TheVariants as answers
use Rattle.world_model.specs.declared.answer.Value.TheVariants as values
use Rattle.world_model.specs.declared.op.Op.TheVariants as ops
use Rattle.claims.specs.Shown.{ShownWithin}
use Rattle.client_shelf.specs.declared.step.Step.TheVariants as nexts
use Rattle.file_ops.specs.Opening as opening
use Rattle.op_machines.specs.declared.opener.Opener.TheVariants as openers
use Rattle.client_core.specs.declared.lane.State.TheVariants.{Over as Ends}
use Rattle.core_facts.proofs.OpenPath.{OpenRuns}
use Rattle.core_facts.proofs.OpenStory.{IsFileOf, found, made, OpenShown, OpeningTold, LedStory, led-on}
use Rattle.core_answers.proofs.bonds.AttrsShown.{ShownIn, attr-laws, fresh-attrs, no-story}
use Rattle.core_answers.proofs.bonds.Keeping.{Known, reached-known}
use Rattle.core_answers.proofs.bonds.Learnt.{Good}
use Rattle.core_answers.proofs.bonds.MachineAttrs.{attrs-takes}
use Rattle.core_answers.proofs.bonds.MachineCalls.{Asks, asks-laws}
use Rattle.core_answers.proofs.refusals.OpenAsking as asking
use Rattle.core_answers.proofs.refusals.SentCalls.{nfs-of}
use Rattle.core_session.proofs.outcomes.OpenEnds.{IsUnwell, resumes-unwell, starts-unwell, KnownAt, known-at, WellLed, opened, knew, err-unwell, EndsWell, takes-well}
use Rattle.core_session.proofs.outcomes.OpenGiven.{ShownSo, shown-later, kept-so, tells-so, looked-shown, GivenBy, gave-file}
use Rattle.core_session.proofs.outcomes.Telling.{replied, refused-so, told-so}

-- ---- the call for which an open waits

module _ (top : List ℕ) (h : List Entry) (x : ℕ) where
  wanted : (path : List (List ℕ)) (mode : Mode) (nocto : Bool) (machine : Machine) (call : Call) → OpenRuns top h x path mode nocto machine → Awaits machine call → 1 ≤ in_flight machine
      → asking.Wants top h x path mode call
  wanted path mode nocto machine call k e some = by k.arrived refl
    where
      at : PathMachine
      at = record { walk = k.walk; opener = openers.Open k.opener; arrived = k.arrived }

      mine : PathOr k.arrived at call
      mine = subst (λ (n : Machine). Awaits n call) k.is e

      many : 1 ≤ path_by k.arrived (of_walk k.walk) (of_file (file_of (openers.Open k.opener)))
      many = subst (λ (n : Machine). 1 ≤ in_flight n) k.is some

      by : (b : Bool) → k.arrived ≡ b → asking.Wants top h x path mode call
      by true is = inr (record { o = k.opener.opening; story = k.there is; is = subst (λ (b : Bool). PathOr b at call) is mine })
      by false is =
          let l = walk-looks top h (front_of path) k.walk call (k.on_way is) (subst (λ (b : Bool). PathOr b at call) is mine)
          (subst (λ (b : Bool). 1 ≤ path_by b (of_walk k.walk) (of_file (file_of (openers.Open k.opener)))) is many) in
          inl (record { at = l.at; name = l.name; d = l.d; there = l.there; leads = l.leads; is = l.is })

-- ---- how it goes well

module _ (m : Mounted) (most : ℕ) where
  -- attributes of its file, by the last reply or as they are kept
  pub record KnownShown (h : List Entry) (x : ℕ) (path : List (List ℕ)) (mode : Mode) (d : List ℕ) : Type 0 where
    pub file : List ℕ
    pub attr : Attr
    pub nocto : m.nocto ≡ true
    pub given : GivenBy m.root h x path mode d file
    pub shown : ShownWithin h 0 (length h) file attr
    pub kind : attr.kind ≡ 1

  pub record WentWell (h : List Entry) (x : ℕ) (path : List (List ℕ)) (mode : Mode) (value : Value) : Type 0 where
    pub d : List ℕ
    pub leads : LeadsTo m.root h (front_of path) d
    pub well : OpenShown m.root h x path mode d ⊎ KnownShown h x path mode d
    pub gives : value ≡ values.Nothing

  -- ---- one entry more

  module _ (h : List Entry) (e : Entry) (x : ℕ) (path : List (List ℕ)) (mode : Mode) (quiet : IsDelivered e → ⊥) where
    file-later : (d file : List ℕ) → IsFileOf m.root h x path mode d file → IsFileOf m.root (h ++ e ∷ []) x path mode d file
    file-later d file (found l) = found (leads-later m.root h e path file l)
    file-later d file (made making attr wcc mk a) = let more = length_last h e in made making attr wcc mk
        (Asked-wide (h ++ e ∷ []) x (length h) x (length (h ++ e ∷ [])) making _ (omega arith) (omega (arith, more)) (Asked-grow h (e ∷ []) x (length h) making _ a))

    open-later : (d : List ℕ) → OpenShown m.root h x path mode d → OpenShown m.root (h ++ e ∷ []) x path mode d
    open-later d s = record { attr = s.attr; got = record { f = s.got.f; of = file-later d s.got.f s.got.of; ends = ends-later h e x _ _ quiet s.got.ends }; kind = s.kind }

    given-later : (d file : List ℕ) → GivenBy m.root h x path mode d file → GivenBy m.root (h ++ e ∷ []) x path mode d file
    given-later d file g = record { call = g.call; reply = g.reply; finds = g.finds; ends = ends-later h e x g.call g.reply quiet g.ends; went = g.went; gives = g.gives }

    known-later : (d : List ℕ) → KnownShown h x path mode d → KnownShown (h ++ e ∷ []) x path mode d
    known-later d k = record {
      file = k.file;
      attr = k.attr;
      nocto = k.nocto;
      given = given-later d k.file k.given;
      shown = shown-later h e k.file k.attr k.shown;
      kind = k.kind;
    }

    shown-on : (d : List ℕ) → OpenShown m.root h x path mode d ⊎ KnownShown h x path mode d → OpenShown m.root (h ++ e ∷ []) x path mode d ⊎ KnownShown (h ++ e ∷ []) x path mode d
    shown-on d (inl s) = inl (open-later d s)
    shown-on d (inr k) = inr (known-later d k)

    well-later : (value : Value) → WentWell h x path mode value → WentWell (h ++ e ∷ []) x path mode value
    well-later value k = record { d = k.d; leads = leads-later m.root h e (front_of path) k.d k.leads; well = shown-on k.d k.well; gives = k.gives }

  -- ---- the story

  abbrev AnswerStory : List Entry → ℕ → List (List ℕ) → Mode → Answer → Type 0
  AnswerStory h x path mode (answers.Done value) = WentWell h x path mode value
  AnswerStory h x path mode (answers.Refused fault) = Unit {0}

  abbrev OverStory : List Entry → ℕ → Op → Answer → Type 0
  OverStory h x op answer = (slot : ℕ) (mode : Mode) (path : List (List ℕ)) → op ≡ ops.OpenFile slot mode path → IsNamed path → AnswerStory h x path mode answer

  abbrev pub Story : List Entry → ℕ → Op → State → Type 0
  Story h x op (Busy machine) = asking.Story m h x op (Busy machine)
  Story h x op (Ends answer) = OverStory h x op answer

  abbrev DidOld : List Entry → ℕ → Op → Step → Machine → Shelf → Type 0
  DidOld h x op next new after = Did (asking.Caused m) (asking.Shelved m) (asking.Story m) h x op next new after

  abbrev DidSo : List Entry → ℕ → Op → Step → Machine → Shelf → Type 0
  DidSo h x op next new after = Did (asking.Caused m) (asking.Shelved m) Story h x op next new after

  did-so : (h : List Entry) (x : ℕ) (op : Op) (next : Step) (new : Machine) (after : Shelf) → DidOld h x op next new after
      → ((answer : Answer) → next ≡ nexts.Done answer → OverStory h x op answer) → DidSo h x op next new after
  did-so h x op (nexts.Send call) new after d over = record { shelf = d.shelf; asks = d.asks; then_ = d.then_ }
  did-so h x op nexts.Wait new after d over = record { shelf = d.shelf; asks = d.asks; then_ = d.then_ }
  did-so h x op (nexts.Done answer) new after d over = record { shelf = d.shelf; asks = d.asks; then_ = over answer refl }

  never-well : (h : List Entry) (x : ℕ) (path : List (List ℕ)) (mode : Mode) (next : Step) (answer : Answer) → IsUnwell next → next ≡ nexts.Done answer → AnswerStory h x path mode answer
  never-well h x path mode next (answers.Done value) unwell is = absurd (unwell value is)
  never-well h x path mode next (answers.Refused fault) unwell is = tt

  -- of each call that waits: kept attributes were shown
  pub record Seen (h : List Entry) (x : ℕ) (op : Op) (machine : Machine) (from : ℕ) (sent : Turn) (call : Call) (shelf : Shelf) : Type 0 where
    pub asks : Asks machine call
    pub kept : Good (ShownSo h) most shelf.attrs

  module _ (h : List Entry) (x : ℕ) (op : Op) (path : List (List ℕ)) (mode : Mode) (machine : Machine) (sent turn : Turn) (came : Result Reply Fault) (old after : Shelf) (named : IsNamed path) where
    -- what its last reply led to
    well-by : (k : OpenRuns m.root h x path mode m.nocto machine) → k.arrived ≡ true → OpeningTold m.root h x path mode came (opening.call_of k.opener.opening k.opener.opening.step)
        → Good (ShownSo h) most after.attrs → WellLed (opening.led_on k.opener.opening turn.now came after.attrs old.pages)
        → OpenShown m.root h x path mode k.opener.opening.dir ⊎ KnownShown h x path mode k.opener.opening.dir
    well-by k there t good (opened file attr is) =
        let o : Opening = k.opener.opening in
        inl (subst (LedStory m.root h x path mode o.nocto o.dir) is (led-on m.root h x path mode o turn.now came after.attrs old.pages named (k.there there) t))
    well-by k there t good (knew file stamp is) =
        let o : Opening = k.opener.opening in
        let w : KnownAt o came turn.now after.attrs = known-at o came turn.now after.attrs old.pages file stamp is in
        inr (record {
          file = w.file;
          attr = w.attr;
          nocto = sym k.nocto_is ∙ w.nocto;
          given = gave-file m.root h x path mode o came w.file (k.there there) t w.gave;
          shown = looked-shown most h w.file turn.now after.attrs w.attr good w.believed;
          kind = w.kind;
        })

    asked-as : (k : OpenRuns m.root h x path mode m.nocto machine) (call : Call) → k.arrived ≡ true → Awaits machine call → call ≡ opening.call_of k.opener.opening k.opener.opening.step
    asked-as k call there e =
        let at : PathMachine = record { walk = k.walk; opener = openers.Open k.opener; arrived = k.arrived } in
        let mine : PathOr k.arrived at call = subst (λ (n : Machine). Awaits n call) k.is e in
        subst (λ (b : Bool). PathOr b at call) there mine

    ends-so : (wsize : ℕ) (next : Step) (new : Machine) (value : Value) (k : OpenRuns m.root h x path mode m.nocto machine) → k.arrived ≡ true
        → EndsWell k.opener came turn.now after.attrs old.pages value → CameOf Seen Awaits (asking.Caused m) h x op machine sent came old
        → Takes wsize machine sent turn came old next new after → WentWell h x path mode value
    ends-so wsize next new value k there w (unmade call e fault is u) t =
        absurd (err-unwell k.opener.opening turn.now fault after.attrs old.pages
        (subst (λ (r : Result Reply Fault). WellLed (opening.led_on k.opener.opening turn.now r after.attrs old.pages)) is w.led))
    ends-so wsize next new value k there w (heard_of s) t =
        record {
          d = k.opener.opening.dir;
          leads = (k.there there).leads;
          well = well-by k there
              (subst (OpeningTold m.root h x path mode came) (asked-as k s.call there s.expects)
              (record { heard = replied h x s.call came s.now; refused = refused-so h x s.call came s.now }))
              (attrs-takes (ShownSo h) most s.call sent turn came (tells-so most h x s.call sent.now came (λ r is. (replied h x s.call came s.now r is).asked)) machine wsize old next new after
              s.seen.asks t s.seen.kept) w.led;
          gives = w.gives;
        }

  over-after : (h : List Entry) (x : ℕ) (op : Op) (path : List (List ℕ)) (mode : Mode) (machine : Machine) (wsize : ℕ) (sent turn : Turn) (came : Result Reply Fault) (old : Shelf)
      (next : Step) (new : Machine) (after : Shelf) (answer : Answer) → IsNamed path → OpenRuns m.root h x path mode m.nocto machine
      → CameOf Seen Awaits (asking.Caused m) h x op machine sent came old → Takes wsize machine sent turn came old next new after → next ≡ nexts.Done answer
      → AnswerStory h x path mode answer
  over-after h x op path mode machine wsize sent turn came old next new after (answers.Refused fault) named k told t is = tt
  over-after h x op path mode machine wsize sent turn came old next new after (answers.Done value) named k told t is =
      let g = subst (λ (n : Machine). Takes wsize n sent turn came old next new after) k.is t in
      let w = takes-well k.arrived wsize k.walk k.opener sent turn came old next g.machine after value g.step is in
      ends-so h x op path mode machine sent turn came old after named wsize next new value k w.arrived w.ends told t

  over-later : (h : List Entry) (e : Entry) (x : ℕ) (op : Op) (answer : Answer) → (IsDelivered e → ⊥) → OverStory h x op answer → OverStory (h ++ e ∷ []) x op answer
  over-later h e x op (answers.Done value) quiet k slot mode path is named = well-later h e x path mode quiet value (k slot mode path is named)
  over-later h e x op (answers.Refused fault) quiet k slot mode path is named = tt

  module _ (setup : Setup) where
    base : TaleLaws (machine_of m) setup Awaits (asking.Caused m) (asking.Shelved m) (asking.Story m)
    base = asking.open-laws m setup

    abbrev pub NoLane : List Entry → ℕ → Shelf → Type 0
    NoLane h lane shelf = Unit {0}

    grows-so : (h : List Entry) (e : Entry) (x : ℕ) (op : Op) (state : State) → IsQuiet state e → Story h x op state → Story (h ++ e ∷ []) x op state
    grows-so h e x op (Busy machine) quiet story = base.grows h e x op (Busy machine) quiet story
    grows-so h e x op (Ends answer) quiet story = over-later h e x op answer quiet story

    caused-so : (h : List Entry) (x : ℕ) (op : Op) (machine : Machine) (others : ℕ) → asking.Story m h x op (Busy machine) → in_flight machine ≡ others + 1 → (call : Call) → Awaits machine call
        → asking.Caused m h x op call
    caused-so h x op machine others story one call e slot mode path is named =
        wanted m.root h x path mode m.nocto machine call (story slot mode path is named) e (omega (arith, one))

    pub open-laws : SlotLaws NoLane Seen (machine_of m) setup Awaits (asking.Caused m) (asking.Shelved m) Story
    open-laws = record {
      fresh = base.fresh;
      starts = λ h lane line op wsize turn old next new after given kept s.
          let later = h ++ Began lane line op ∷ [] in
          did-so later (length h) op next new after (base.starts h lane line op wsize turn old next new after kept s)
          (λ answer done slot mode path is named.
          let k = subst (λ (o : Op). Starts wsize (machine_of m lane o) turn old next new after) is s in
          let o : OpenFile = record {
            lane = lane;
            slot = slot;
            opening = record { dir = m.root; name = last_of path; mode = mode; nocto = m.nocto; moment = 0; step = opening.first_step mode; asked = false; put_off = 0 };
          } in
          never-well later (length h) path mode next answer
          (starts-unwell (slot_taken (openers.Open o) old.opens) wsize (walk_of m.root (front_of path)) o turn old next k.machine after k.step) done);
      resumes = λ h x op machine wsize turn old next new after kept story r.
          did-so h x op next new after (base.resumes h x op machine wsize turn old next new after kept story r)
          (λ answer done slot mode path is named.
          let k = story slot mode path is named in
          let g = subst (λ (n : Machine). Resumes wsize n turn old next new after) k.is r in
          never-well h x path mode next answer (resumes-unwell k.arrived wsize k.walk k.opener turn old next g.machine after g.step) done);
      takes = λ h x op machine wsize sent turn came old next new after others kept story one told t.
          did-so h x op next new after
          (base.takes h x op machine wsize sent turn came old next new after others kept story one
          (told-so Seen Awaits (asking.Caused m) h x op machine sent came old (caused-so h x op machine others story one) told) t)
          (λ answer done slot mode path is named. over-after h x op path mode machine wsize sent turn came old next new after answer named (story slot mode path is named) told t done);
      still = base.still;
      waits = base.waits;
      grows = grows-so;
      lost = λ h x op shown slot mode path is named. tt;
    }

    abbrev NoStory : List Entry → ℕ → Op → State → Type 0
    NoStory h x op state = Unit {0}

    abbrev KeptShown : List Entry → Shelf → Type 0
    KeptShown h shelf = Good (ShownIn h) most shelf.attrs

    pub sees : LastAtMost setup.lives most → IsSeen (machine_of m) setup Seen
    sees lasts h v r kept_up may xid w waits it_made at machine there x op u from o rec = record {
      asks = subst (Asks machine) same on;
      kept = kept-so most h (Delivered rec) v.shelf.attrs known.kept;
    }
      where
        known : Known m setup Asks asks-laws KeptShown NoStory (no-story m Asks KeptShown (attr-laws most)) h v
        known = reached-known m setup Asks asks-laws KeptShown NoStory (no-story m Asks KeptShown (attr-laws most)) (λ k n fresh. fresh-attrs setup most k n.shelf.attrs lasts fresh.attrs) h v r

        mine : IsMade setup.cred xid w
        mine = ((known.lanes at (record { number = w.purpose.lane; state = Busy machine }) there).0 xid w waits refl).made

        on : Asks machine mine.asked
        on = ((known.lanes at (record { number = w.purpose.lane; state = Busy machine }) there).0 xid w waits refl).on

        same : mine.asked ≡ it_made.asked
        same = one-call xid xid mine.asked it_made.asked w.bytes (nfs-of mine.asked mine.nfs) mine.spells.spells it_made.spells.spells
