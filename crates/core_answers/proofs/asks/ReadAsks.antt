-- A read asks for each call that is sent for it.
use Rattle.core_answers.proofs.Prelude.{◌≡◌, ◌≤◌, ◌-◌, ◌⊎◌, inl, inr, ℕ, Bool, true, false, List, [], ◌∷◌, ◌++◌, length, Option, Some, None, Result, Ok, Err, refl, sym, ap, subst, ◌∙◌, arith, if◌then◌else◌, Mode, Opened, Pages, Pending, Answer, Fault, Entry, Began, Call, Reply, Op, Asks, Modes, UnderWay, IsOf, Terms, Step, Repeat, Shelf, Turn, ReadFile, Phase, Reading, place_after, nothing_of, Mounted, Machine, machine_of, Starts, Resumes, Takes, State, Busy, Over, Setup, of_phase, of_reading, in_flight, begins-unbegun, Held, held-later, held-begins, always-later, Given, is-given, ThenOf, good-over}
use Rattle.core_facts.proofs.Stories.{LawsOver}
use Rattle.std.specs.FinMap as finite
use Rattle.nfs_types.specs.declared.mode.Mode.TheVariants as modes
use Rattle.nfs_file_calls.specs.declared.call.FileCall.TheVariants as calls_of
use Rattle.world_model.specs.declared.answer.Answer.TheVariants as answers
use Rattle.world_model.specs.declared.answer.Fault.TheVariants as faults
use Rattle.world_model.specs.declared.message.Call.TheVariants as calls
use Rattle.world_model.specs.declared.op.Op.TheVariants as ops
use Rattle.claims.specs.Asks as asks
use Rattle.claims.specs.Rights.{can_read}
use Rattle.client_shelf.specs.declared.step.Step.TheVariants as nexts
use Rattle.file_ops.specs.declared.reading.Phase.TheVariants as phases
use Rattle.file_ops.specs.ReadFile as reads
use Rattle.file_ops.specs.Reading as reading
use Rattle.op_machines.specs.declared.file_machine.FileMachine.TheVariants as files
use Rattle.op_machines.specs.declared.machine.Machine.TheVariants as machines
use Rattle.core_answers.specs.asks.ReadCalls.{IsMadeForRead, ReadsAsk}
use Rattle.core_answers.proofs.asks.CallsAwaited.{Expects, expects-laws}
use Rattle.core_answers.proofs.asks.ReadRanges.{begun-in, inside}
use Rattle.core_answers.proofs.asks.ReadsAwaited.{PhaseNames, ReadNames}
use Rattle.core_answers.proofs.asks.ReadSteps.{PhaseAt, ReadAt, settled-at, gone-at, takes-at}
use Rattle.core_answers.proofs.asks.Sendings.{SentFor, under-until, reached-sent}
use Rattle.core_answers.proofs.asks.SlotAsks.{of-slot}

-- ---- the story

module _ (m : Modes) (mounted : Mounted) (one : 1 ≤ mounted.rsize) where
  abbrev pub Within : List ℕ → ℕ → ℕ → Reading → Type 0
  Within f offset count r = ReadAt f offset count mounted.rsize mounted.noac one r

  abbrev pub ReadIn : List ℕ → ℕ → ℕ → Option Reading → Type 0
  ReadIn f offset count None = Unit {0}
  ReadIn f offset count (Some r) = Within f offset count r

  pub record ReadRuns (h : List Entry) (x slot offset count : ℕ) (machine : Machine) : Type 0 where
    pub held : Held m h x (ops.Read slot offset count)
    pub of : ReadFile
    pub is : machine ≡ machines.File (files.Read of)
    pub at : ReadIn held.o.file offset count of.reading

  abbrev StateStory : List Entry → ℕ → ℕ → ℕ → ℕ → State → Type 0
  StateStory h x slot offset count (Busy machine) = ReadRuns h x slot offset count machine
  StateStory h x slot offset count (Over answer) = Unit {0}

  abbrev pub ReadStory : List Entry → ℕ → Op → State → Type 0
  ReadStory h x op state = (slot offset count : ℕ) → op ≡ ops.Read slot offset count → StateStory h x slot offset count state

  -- it runs so, or has its answer
  abbrev RunsOr : List Entry → ℕ → ℕ → ℕ → ℕ → Step → Machine → Type 0
  RunsOr h x slot offset count next new = ReadRuns h x slot offset count new ⊎ ((answer : Answer) × (next ≡ nexts.Done answer))

  then-runs : (h : List Entry) (x : ℕ) (op : Op) (next : Step) (new : Machine)
      → ((slot offset count : ℕ) → op ≡ ops.Read slot offset count → RunsOr h x slot offset count next new)
      → ThenOf (λ k. ReadStory h x op (Busy k)) (λ a. ReadStory h x op (Over a)) next new
  then-runs h x op next new k = by next refl
    where
      by : (n : Step) → next ≡ n → ThenOf (λ k. ReadStory h x op (Busy k)) (λ a. ReadStory h x op (Over a)) n new
      by (nexts.Send call) is = λ slot offset count same. elim (k slot offset count same) [
        | inl runs ↦ runs
        | inr ends ↦ absurd (let no_way : nexts.Send call ≡ nexts.Done ends.0 = sym is ∙ ends.1 in cc)
      ]
      by nexts.Wait is = λ slot offset count same. elim (k slot offset count same) [
        | inl runs ↦ runs
        | inr ends ↦ absurd (let no_way : nexts.Wait ≡ nexts.Done ends.0 = sym is ∙ ends.1 in cc)
      ]
      by (nexts.Done answer) is = λ slot offset count same. tt

  -- ---- its steps

  in-as : (f : List ℕ) (offset count : ℕ) (to new : Option Reading) → new ≡ to → ReadIn f offset count to → ReadIn f offset count new
  in-as f offset count to new is k = subst (ReadIn f offset count) (sym is) k

  resumes-in : (f : List ℕ) (offset count : ℕ) (of : Option Reading) (room : Bool) (k : ReadFile) (pages : Pages) (back : Pending) (next : Step) (new : ReadFile) (later : Pages) → k.reading ≡ of
      → ReadIn f offset count k.reading → reads.ResumesIn of room k pages back next new later → ReadIn f offset count new.reading
  resumes-in f offset count None room k pages back next new later is at s = in-as f offset count k.reading new.reading (ap (λ (r : ReadFile). r.reading) s.machine) at
  resumes-in f offset count (Some r) room k pages back next new later is at s =
      in-as f offset count (Some (reading.gone room (reading.settled r pages)).reading) new.reading (ap (λ (q : ReadFile). q.reading) s.machine)
      (gone-at f offset count mounted.rsize mounted.noac one room (reading.settled r pages)
      (settled-at f offset count mounted.rsize mounted.noac one r pages (subst (ReadIn f offset count) is at)))

  takes-in : (f : List ℕ) (offset count : ℕ) (of : Option Reading) (sent turn : Turn) (came : Result Reply Fault) (repeats : List Repeat) (k : ReadFile) (pages : Pages) (back : Pending) (next : Step)
      (new : ReadFile) (later : Pages) → k.reading ≡ of → ReadIn f offset count k.reading → reads.TakesIn of sent turn came repeats k pages back next new later → ReadIn f offset count new.reading
  takes-in f offset count None sent turn came repeats k pages back next new later is at t = in-as f offset count k.reading new.reading (ap (λ (r : ReadFile). r.reading) t.machine) at
  takes-in f offset count (Some r) sent turn came repeats k pages back next new later is at t =
      in-as f offset count (Some t.state.reading) new.reading (ap (λ (q : ReadFile). q.reading) t.machine)
      (takes-at f offset count mounted.rsize mounted.noac one sent turn came repeats r pages back next t.state (subst (ReadIn f offset count) is at) t.step)

  module _ (h : List Entry) (lane line slot offset count wsize : ℕ) (turn : Turn) (old : Shelf) (next : Step) (new : Machine) (after : Shelf) (given : Given m h lane old) where
    abbrev own : ReadFile
    own = record { lane = lane; slot = slot; offset = offset; count = count; rsize = mounted.rsize; noac = mounted.noac; reading = None }

    abbrev Later : List Entry
    Later = h ++ Began lane line (ops.Read slot offset count) ∷ []

    first-phase : (f : List ℕ) (b : Bool) → mounted.noac ≡ b → PhaseAt f offset count mounted.rsize mounted.noac one (if b then phases.Attrs else phases.Pages) (nothing_of offset count)
    first-phase f true is = is
    first-phase f false is = tt

    begun-at : (moment : ℕ) (f : List ℕ) → Within f offset count (reads.begun moment own f old.back)
    begun-at moment f = record { file = refl; size = refl; base = begun-in offset count; phase = first-phase f mounted.noac refl }

    from-begun : (o : Opened) (machine : ReadFile) (result : Result Reading Fault) (moment : ℕ) → finite.get old.opens (lane, slot) ≡ Some o → can_read o.mode ≡ true
        → new ≡ machines.File (files.Read machine) → reads.Begins (Ok (reads.begun moment own o.file old.back)) result
        → reads.StartsWith result turn.room own old.pages old.back next machine after.pages → RunsOr Later (length h) slot offset count next new
    from-begun o machine result moment there right is (inr none) s =
        inr (answers.Refused faults.Memory, (subst (λ (r : Result Reading Fault). reads.StartsWith r turn.room own old.pages old.back next machine after.pages) none s).step)
    from-begun o machine result moment there right is (inl ok) s =
        let g = subst (λ (r : Result Reading Fault). reads.StartsWith r turn.room own old.pages old.back next machine after.pages) ok s in
        let begun : Reading = reads.begun moment own o.file old.back in
        inl (record {
          held = held-begins m h lane line slot (ops.Read slot offset count) o old given refl there right;
          of = machine;
          is = is;
          at = in-as o.file offset count (Some (reading.gone turn.room (reading.settled begun old.pages)).reading) machine.reading (ap (λ (q : ReadFile). q.reading) g.machine)
              (gone-at o.file offset count mounted.rsize mounted.noac one turn.room (reading.settled begun old.pages)
              (settled-at o.file offset count mounted.rsize mounted.noac one begun old.pages (begun-at moment o.file)));
        })

    begins : Starts wsize (machine_of mounted lane (ops.Read slot offset count)) turn old next new after → RunsOr Later (length h) slot offset count next new
    begins s = by (finite.get old.opens (lane, slot)) refl s.step.step.begins
      where
        is : new ≡ machines.File (files.Read s.step.machine)
        is = s.machine_is ∙ ap machines.File s.step.machine_is

        refused : (fault : Fault) → s.step.step.reading ≡ Err fault → RunsOr Later (length h) slot offset count next new
        refused fault e =
            inr (answers.Refused fault, (subst (λ (r : Result Reading Fault). reads.StartsWith r turn.room own old.pages old.back next s.step.machine after.pages) e s.step.step.goes).step)

        by : (at : Option Opened) → finite.get old.opens (lane, slot) ≡ at → reads.Begins (reads.begun_at at (turn.moment - 1) own old.back) s.step.step.reading
            → RunsOr Later (length h) slot offset count next new
        by None there b = refused faults.Slot b
        by (Some o) there b = of o.mode refl b
          where
            goes : can_read o.mode ≡ true → reads.Begins (Ok (reads.begun (turn.moment - 1) own o.file old.back)) s.step.step.reading → RunsOr Later (length h) slot offset count next new
            goes right ok = from-begun o s.step.machine s.step.step.reading (turn.moment - 1) there right is ok s.step.step.goes

            of : (mode : Mode) → o.mode ≡ mode → reads.Begins (reads.begun_in mode (turn.moment - 1) own o.file old.back) s.step.step.reading → RunsOr Later (length h) slot offset count next new
            of modes.W same ok = refused faults.Mode ok
            of modes.R same ok = goes (ap can_read same) ok
            of modes.RW same ok = goes (ap can_read same) ok
            of modes.C same ok = goes (ap can_read same) ok
            of modes.X same ok = goes (ap can_read same) ok

  goes : (h : List Entry) (x slot offset count : ℕ) (machine : Machine) (wsize : ℕ) (turn : Turn) (old : Shelf) (next : Step) (new : Machine) (after : Shelf) → ReadRuns h x slot offset count machine
      → Resumes wsize machine turn old next new after → RunsOr h x slot offset count next new
  goes h x slot offset count machine wsize turn old next new after k r =
      let g = subst (λ (n : Machine). Resumes wsize n turn old next new after) k.is r in
      inl (record {
        held = k.held;
        of = g.step.machine;
        is = g.machine_is ∙ ap machines.File g.step.machine_is;
        at = resumes-in k.held.o.file offset count k.of.reading turn.room k.of old.pages old.back next g.step.machine after.pages refl k.at g.step.step;
      })

  hears : (h : List Entry) (x slot offset count : ℕ) (machine : Machine) (wsize : ℕ) (sent turn : Turn) (came : Result Reply Fault) (old : Shelf) (next : Step) (new : Machine) (after : Shelf)
      → ReadRuns h x slot offset count machine → Takes wsize machine sent turn came old next new after → RunsOr h x slot offset count next new
  hears h x slot offset count machine wsize sent turn came old next new after k t =
      let g = subst (λ (n : Machine). Takes wsize n sent turn came old next new after) k.is t in
      inl (record {
        held = k.held;
        of = g.step.machine;
        is = g.machine_is ∙ ap machines.File g.step.machine_is;
        at = takes-in k.held.o.file offset count k.of.reading sent turn came old.repeats k.of old.pages old.back next g.step.machine after.pages refl k.at g.step.step;
      })

  state-later : (h : List Entry) (e : Entry) (x slot offset count : ℕ) (state : State) → StateStory h x slot offset count state → StateStory (h ++ e ∷ []) x slot offset count state
  state-later h e x slot offset count (Busy machine) k = record { held = held-later m h e x (ops.Read slot offset count) k.held; of = k.of; is = k.is; at = k.at }
  state-later h e x slot offset count (Over answer) k = tt

  pub read-laws : LawsOver (Given m) (machine_of mounted) ReadStory
  read-laws = record {
    starts = λ h lane line op wsize turn old next new after given s.
        then-runs (h ++ Began lane line op ∷ []) (length h) op next new (λ slot offset count is.
        subst (λ (o : Op). RunsOr (h ++ Began lane line o ∷ []) (length h) slot offset count next new) (sym is)
        (begins h lane line slot offset count wsize turn old next new after given (subst (λ (o : Op). Starts wsize (machine_of mounted lane o) turn old next new after) is s)));
    resumes = λ h x op machine wsize turn old next new after story r.
        then-runs h x op next new (λ slot offset count is. goes h x slot offset count machine wsize turn old next new after (story slot offset count is) r);
    takes = λ h x op machine wsize sent turn came old next new after others story one told t.
        then-runs h x op next new (λ slot offset count is. hears h x slot offset count machine wsize sent turn came old next new after (story slot offset count is) t);
    grows = λ h e x op state story slot offset count is. state-later h e x slot offset count state (story slot offset count is);
    lost = λ h x op shown slot offset count is. tt;
  }

-- ---- what a read asks for

read-parts : (f g : List ℕ) (a b c d : ℕ) → calls.File (calls_of.Read f a b) ≡ calls.File (calls_of.Read g c d) → d ≡ b
read-parts f g a b c d e = cc

not-read : (f g : List ℕ) (a b : ℕ) → calls.File (calls_of.GetAttr f) ≡ calls.File (calls_of.Read g a b) → ⊥
not-read f g a b e = cc

module _ (mounted : Mounted) (terms : Terms) (setup : Setup) (same : mounted.nocto ≡ terms.modes.nocto) (anew : mounted.noac ≡ terms.modes.noac) (one : 1 ≤ mounted.rsize) (h : List Entry) (i : ℕ)
    (bytes : List ℕ) where
  abbrev Sending : Type 0
  Sending = SentFor (machine_of mounted) (begins-unbegun mounted) setup Expects expects-laws h i bytes

  abbrev HeldOf : List Entry → ℕ → Op → List ℕ → Type 0
  HeldOf g x op f = (k : Held terms.modes g x op) × (k.o.file ≡ f)

  runs : (w : Sending) (slot offset count : ℕ) → w.op ≡ ops.Read slot offset count → ReadRuns terms.modes mounted one w.before w.x slot offset count w.machine
  runs w slot offset count is =
      (good-over (machine_of mounted) (begins-unbegun mounted) setup (Given terms.modes) (is-given terms.modes mounted same setup) (ReadStory terms.modes mounted one) (read-laws terms.modes mounted one)
      w.before w.old w.reached w.at (record { number = w.lane; state = Busy w.machine }) w.busy).1 w.x w.op w.under_way slot offset count is

  of-now : (w : Sending) (slot offset count : ℕ) (k : ReadRuns terms.modes mounted one w.before w.x slot offset count w.machine) → IsOf terms.modes h w.x (ops.Read slot offset count) k.held.o.file
  of-now w slot offset count k =
      let op : Op = ops.Read slot offset count in
      let later = always-later (λ g. HeldOf g w.x op k.held.o.file) (λ g e t. (held-later terms.modes g e w.x op t.0, t.1)) w.before w.after (k.held, refl) in
      subst (λ (g : List Entry). IsOf terms.modes g w.x op k.held.o.file) (sym w.is)
      (subst (IsOf terms.modes (w.before ++ w.after) w.x op) later.1 (of-slot terms.modes (w.before ++ w.after) w.x op later.0))

  names : (w : Sending) (slot offset count : ℕ) (k : ReadRuns terms.modes mounted one w.before w.x slot offset count w.machine) → ReadNames k.of.reading w.call
  names w slot offset count k = (subst (λ (m : Machine). Expects m w.call) k.is w.expects).1

  many : (w : Sending) (slot offset count : ℕ) (k : ReadRuns terms.modes mounted one w.before w.x slot offset count w.machine) → 1 ≤ of_reading k.of.reading
  many w slot offset count k = subst (λ (m : Machine). 1 ≤ in_flight m) k.is w.some

  -- what is asked for, and how much
  record Asking (x slot offset count : ℕ) (call : Call) : Type 0 where
    pub asks : Asks terms h x i (ops.Read slot offset count) call
    pub fits : (f : List ℕ) (at size : ℕ) → call ≡ calls.File (calls_of.Read f at size) → size ≤ mounted.rsize

  phase-asks : (p : Phase) (r : Reading) (x slot offset count : ℕ) (f : List ℕ) (call : Call) → r.phase ≡ p → IsOf terms.modes h x (ops.Read slot offset count) f
      → ReadAt f offset count mounted.rsize mounted.noac one r → PhaseNames p r call → 1 ≤ of_phase p → Asking x slot offset count call
  phase-asks phases.AskedAttrs r x slot offset count f call is of k e some =
      let anew_is : mounted.noac ≡ true = subst (λ (p : Phase). PhaseAt f offset count mounted.rsize mounted.noac one p r.base) is k.phase in
      record {
        asks = asks.asks_anew slot offset count f refl (sym anew ∙ anew_is) of (e ∙ ap reading.attrs_call k.file);
        fits = λ g at size c. absurd (not-read r.file g at size (sym e ∙ c));
      }
  phase-asks (phases.Asked n) r x slot offset count f call is of k e some =
      let asked = subst (λ (p : Phase). PhaseAt f offset count mounted.rsize mounted.noac one p r.base) is k.phase in
      record {
        asks = asks.reads slot offset count (place_after r.base) n f refl of (inside offset count n r.base k.base asked.0 asked.1)
            (e ∙ ap (λ (g : List ℕ). calls.File (calls_of.Read g (place_after r.base) n)) k.file);
        fits = λ g at size c.
            let part : size ≡ n = read-parts r.file g (place_after r.base) n at size (sym e ∙ c) in
            let most = asked.2 in
            omega (arith, part, most);
      }
  phase-asks phases.Attrs r x slot offset count f call is of k e some = absurd (omega (arith, some))
  phase-asks phases.Pages r x slot offset count f call is of k e some = absurd (omega (arith, some))
  phase-asks phases.Rest r x slot offset count f call is of k e some = absurd (omega (arith, some))
  phase-asks phases.Ended r x slot offset count f call is of k e some = absurd (omega (arith, some))

  reading-asks : (o : Option Reading) (x slot offset count : ℕ) (f : List ℕ) (call : Call) → IsOf terms.modes h x (ops.Read slot offset count) f
      → ReadIn terms.modes mounted one f offset count o → ReadNames o call → 1 ≤ of_reading o → Asking x slot offset count call
  reading-asks None x slot offset count f call of k e some = absurd (omega (arith, some))
  reading-asks (Some r) x slot offset count f call of k e some = phase-asks r.phase r x slot offset count f call refl of k e some

  asking : (w : Sending) (slot offset count : ℕ) → w.op ≡ ops.Read slot offset count → Asking w.x slot offset count w.call
  asking w slot offset count is =
      let k = runs w slot offset count is in
      reading-asks k.of.reading w.x slot offset count k.held.o.file w.call (of-now w slot offset count k) k.at (names w slot offset count k) (many w slot offset count k)

  pub made-for : Sending → IsMadeForRead terms setup.cred mounted.rsize h i bytes
  made-for w = record {
    xid = w.xid;
    call = w.call;
    made = w.made;
    lane = w.lane;
    x = w.x;
    op = w.op;
    under_way = subst (λ (k : List Entry). UnderWay k w.lane w.x i w.op) (sym w.is) (under-until w.before w.after w.lane w.x i w.op w.there w.under_way);
    asks = λ slot offset count is. (asking w slot offset count is).asks;
    fits = λ slot offset count is. (asking w slot offset count is).fits;
  }

pub reads-ask : ReadsAsk
reads-ask m terms setup h v g anew one i bytes at = elim (reached-sent (machine_of m) (begins-unbegun m) setup Expects expects-laws h v g.reaches i bytes at) [
  | inl none ↦ inl none
  | inr w ↦ inr (made-for m terms setup g.nocto anew one h i bytes w)
]
