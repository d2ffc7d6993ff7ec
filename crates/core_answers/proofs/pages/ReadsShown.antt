-- What a read answers, along a history.
use Rattle.core_answers.proofs.Prelude.{◌≡◌, ◌+◌, ◌-◌, inl, inr, ℕ, Bool, true, false, List, [], ◌∷◌, ◌++◌, length, take, Option, Some, None, Result, Ok, Err, refl, sym, ap, subst, ◌∙◌, append_assoc, arith, Mode, Opened, Pages, Pending, Fault, Entry, Began, Call, Reply, Op, Modes, Ended, IsOf, Terms, At-grow, At-below, Step, Shelf, Turn, ReadFile, Reading, nothing_of, machine_of, Mounted, FileMachine, Machine, Starts, Resumes, Takes, State, Busy, Over, Setup, View, Held, Given, is-given, held-begins, ThenOf, IsShown}
use Rattle.core_facts.proofs.HeldSlots.{may}
use Rattle.core_answers.specs.pages.Read.{IsFound, in_page, in_reply, WasPending, own, served, empty, ReadShown, ReadsShown}
use Rattle.std.specs.FinMap as finite
use Rattle.nfs_types.specs.declared.mode.Mode.TheVariants as modes
use Rattle.world_model.specs.declared.answer.Answer.TheVariants as answers
use Rattle.world_model.specs.declared.answer.Fault.TheVariants as faults
use Rattle.world_model.specs.declared.answer.Value.TheVariants as values
use Rattle.world_model.specs.declared.op.Op.TheVariants as ops
use Rattle.client_shelf.specs.declared.step.Step.TheVariants as nexts
use Rattle.file_ops.specs.ReadFile as reads
use Rattle.file_ops.specs.Reading as reading
use Rattle.op_machines.specs.declared.file_machine.FileMachine.TheVariants as files
use Rattle.op_machines.specs.declared.machine.Machine.TheVariants as machines
use Rattle.core_facts.specs.SlotAnswers.{GoesWith}
use Rattle.core_facts.proofs.SlotGrowth.{IsHeld, held-grow}
use Rattle.core_answers.proofs.bonds.AttrsShown.{answered-last}
use Rattle.core_answers.proofs.engine.Told.{take-early, take-whole}
use Rattle.core_answers.proofs.pages.Keeping.{HasPassed, WasTaken, BondLaws, reached-answered}
use Rattle.core_answers.proofs.pages.MachinePages.{pages-starts, pages-resumes}
use Rattle.core_answers.proofs.pages.PageCalls.{PageAwaits, ReadAwaits, PartAwaits, Both, both-asks}
use Rattle.core_answers.proofs.pages.PageLaws.{Good, quiet-good, told-good-laws}
use Rattle.core_answers.proofs.pages.PagesShown.{GoodShelf, page-grows, good-grows, from-start, takes-good, first-good}
use Rattle.core_answers.proofs.pages.ReadStory.{AlignedIn, ReadAt, Answered, from-settled, takes-read, framed-begins}

-- ---- one entry more

module _ (mo : ℕ → Op → Machine) (setup : Setup) (modes_ : Modes) (h : List Entry) (e : Entry) where
  passed-grows : (x : ℕ) (back : Pending) → HasPassed mo setup h x back → HasPassed mo setup (h ++ e ∷ []) x back
  passed-grows x back p = record {
    before = p.before;
    after = p.after ++ e ∷ [];
    is = ap (λ (k : List Entry). k ++ e ∷ []) p.is ∙ append_assoc p.before p.after (e ∷ []);
    late = p.late;
    view = p.view;
    passed = p.passed;
    same = p.same;
  }

  pending-grows : (x : ℕ) (file : List ℕ) (place v : ℕ) → WasPending mo setup h x file place v → WasPending mo setup (h ++ e ∷ []) x file place v
  pending-grows x file place v p = record {
    before = p.before;
    after = p.after ++ e ∷ [];
    is = ap (λ (k : List Entry). k ++ e ∷ []) p.is ∙ append_assoc p.before p.after (e ∷ []);
    late = p.late;
    view = p.view;
    passed = p.passed;
    pending = p.pending;
  }

  found-grows : (x : ℕ) (file : List ℕ) (place v : ℕ) → IsFound setup.pages h x file place v → IsFound setup.pages (h ++ e ∷ []) x file place v
  found-grows x file place v (in_page stamp index at page is there same) = in_page stamp index at page (page-grows setup.pages h e file stamp index page is) there same
  found-grows x file place v (in_reply since offset count counted at attr eof given later answered there same) =
      in_reply since offset count counted at attr eof given later (answered-last h e since _ _ answered) there same

  of-grows : (x : ℕ) (op : Op) (f : List ℕ) → IsOf modes_ h x op f → IsOf modes_ (h ++ e ∷ []) x op f
  of-grows x op f i =
      let low = At-below h x (Began i.lane i.line op) i.began in
      let held : IsHeld modes_ (h ++ e ∷ []) x i.lane i.slot f i.holds.opens.mode =
      held-grow modes_ h e i.lane i.slot f i.holds.opens.mode x (omega (arith, low)) (record { x = i.open_at; holds = i.holds; mode_is = refl }) in
      record {
        lane = i.lane;
        line = i.line;
        slot = i.slot;
        open_at = held.x;
        began = At-grow h (e ∷ []) x (Began i.lane i.line op) i.began;
        works_on = i.works_on;
        holds = held.holds;
      }

  shows-grow : (x : ℕ) (file server : List ℕ) (k place v : ℕ) → IsShown mo setup h x file server k place v → IsShown mo setup (h ++ e ∷ []) x file server k place v
  shows-grow x file server k place v (own p) = own (pending-grows x file place v p)
  shows-grow x file server k place v (served is) = served is
  shows-grow x file server k place v (empty is past) = empty is past

  read-grows : (x : ℕ) (op : Op) (offset : ℕ) (bytes : List ℕ) → ReadShown mo setup modes_ h x op offset bytes → ReadShown mo setup modes_ (h ++ e ∷ []) x op offset bytes
  read-grows x op offset bytes r = record {
    file = r.file;
    of = of-grows x op r.file r.of;
    server = r.server;
    found = λ k v is. found-grows x r.file (offset + k) v (r.found k v is);
    each = λ k v is. shows-grow x r.file r.server k (offset + k) v (r.each k v is);
  }

  at-grows : (x : ℕ) (op : Op) (offset count : ℕ) (r : Reading) → ReadAt mo setup modes_ h x op offset count r → ReadAt mo setup modes_ (h ++ e ∷ []) x op offset count r
  at-grows x op offset count r a = record {
    of = of-grows x op r.file a.of;
    at = a.at;
    space = a.space;
    was = record { back = a.was.back; passed = passed-grows x a.was.back a.was.passed; is = a.was.is };
    start = a.start;
    framed = record { first = a.framed.first; last = a.framed.last; start = a.framed.start; limit = a.framed.limit };
    base = λ k v is. found-grows x r.file (r.base.start + k) v (a.base k v is);
    aligned = a.aligned;
  }

-- ---- the story of a read

module _ (mo : ℕ → Op → Machine) (setup : Setup) (modes_ : Modes) where
  pub record IsReading (h : List Entry) (x : ℕ) (op : Op) (offset count : ℕ) (machine : Machine) : Type 0 where
    pub m : ReadFile
    pub is : machine ≡ machines.File (files.Read m)
    pub r : Reading
    pub reading : m.reading ≡ Some r
    pub at : ReadAt mo setup modes_ h x op offset count r

  abbrev pub StateOf : List Entry → ℕ → Op → ℕ → ℕ → State → Type 0
  StateOf h x op offset count (Busy machine) = IsReading h x op offset count machine
  StateOf h x op offset count (Over answer) = Answered mo setup modes_ h x op offset answer

  abbrev pub Story : List Entry → ℕ → Op → State → Type 0
  Story h x op state = (slot offset count : ℕ) → op ≡ ops.Read slot offset count → StateOf h x op offset count state

  abbrev ThenState : List Entry → ℕ → Op → ℕ → ℕ → Step → Machine → Type 0
  ThenState h x op offset count next new = ThenOf (IsReading h x op offset count) (Answered mo setup modes_ h x op offset) next new

  then-story : (h : List Entry) (x : ℕ) (op : Op) (next : Step) (new : Machine) → ((slot offset count : ℕ) → op ≡ ops.Read slot offset count → ThenState h x op offset count next new)
      → ThenOf (λ k. Story h x op (Busy k)) (λ a. Story h x op (Over a)) next new
  then-story h x op (nexts.Send call) new g = λ slot offset count is. g slot offset count is
  then-story h x op nexts.Wait new g = λ slot offset count is. g slot offset count is
  then-story h x op (nexts.Done answer) new g = λ slot offset count is. g slot offset count is

  state-grows : (h : List Entry) (e : Entry) (x : ℕ) (op : Op) (offset count : ℕ) (state : State) → StateOf h x op offset count state → StateOf (h ++ e ∷ []) x op offset count state
  state-grows h e x op offset count (Busy machine) s =
      record { m = s.m; is = s.is; r = s.r; reading = s.reading; at = at-grows mo setup modes_ h e x op offset count s.r s.at }
  state-grows h e x op offset count (Over answer) s = λ bytes is. read-grows mo setup modes_ h e x op offset bytes (s bytes is)

  module _ (h : List Entry) (x : ℕ) (op : Op) (offset count : ℕ) where
    -- a step of the reading, as one of the machine
    as-machine : (next : Step) (m k : ReadFile) (r : Reading) (new : Machine) → new ≡ machines.File (files.Read k) → k ≡ record m { reading = Some r }
        → ThenOf (ReadAt mo setup modes_ h x op offset count) (Answered mo setup modes_ h x op offset) next r → ThenState h x op offset count next new
    as-machine (nexts.Send call) m k r new is same a = record { m = k; is = is; r = r; reading = ap (λ (z : ReadFile). z.reading) same; at = a }
    as-machine nexts.Wait m k r new is same a = record { m = k; is = is; r = r; reading = ap (λ (z : ReadFile). z.reading) same; at = a }
    as-machine (nexts.Done answer) m k r new is same a = a

    as-file : (next : Step) (m : ReadFile) (r : Reading) (k : ReadFile) (f : FileMachine) (new : Machine) → new ≡ machines.File f → f ≡ files.Read k → k ≡ record m { reading = Some r }
        → ThenOf (ReadAt mo setup modes_ h x op offset count) (Answered mo setup modes_ h x op offset) next r → ThenState h x op offset count next new
    as-file next m r k f new is at same a = as-machine next m k r new (is ∙ ap machines.File at) same a

    goes-from : (room : Bool) (m : ReadFile) (back : Pending) (r : Reading) (c : Pages) (next : Step) (k : ReadFile) (later : Pages) (f : FileMachine) (new : Machine) → new ≡ machines.File f
        → f ≡ files.Read k → ReadAt mo setup modes_ h x op offset count r → Good setup.pages h c → HasPassed mo setup h x back → reads.GoesFrom room m back (reading.settled r c) next k later
        → ThenState h x op offset count next new
    goes-from room m back r c next k later f new is at a good passed g =
        as-file next m (reading.gone room (reading.settled r c)).reading k f new is at g.machine
        (from-settled mo setup modes_ h x op offset count room back r c next (reading.gone room (reading.settled r c)) a good passed g.step refl)

    resumes-in : (o : Option Reading) (m : ReadFile) (r : Reading) (room : Bool) (back : Pending) (c : Pages) (next : Step) (k : ReadFile) (later : Pages) (f : FileMachine) (new : Machine)
        → o ≡ Some r → new ≡ machines.File f → f ≡ files.Read k → ReadAt mo setup modes_ h x op offset count r → Good setup.pages h c → HasPassed mo setup h x back
        → reads.ResumesIn o room m c back next k later → ThenState h x op offset count next new
    resumes-in None m r room back c next k later f new there is at a good passed s = absurd (let no_way : None ≡ Some r = there in cc)
    resumes-in (Some q) m r room back c next k later f new there is at a good passed s =
        goes-from room m back q c next k later f new is at (subst (ReadAt mo setup modes_ h x op offset count) (let same : r ≡ q = cc in same) a) good passed s

    takes-in : (o : Option Reading) (m : ReadFile) (r : Reading) (call : Call) (sent turn : Turn) (came : Result Reply Fault) (repeats : _) (back : Pending) (c : Pages) (next : Step) (k : ReadFile)
        (later : Pages) (f : FileMachine) (new : Machine) → o ≡ Some r → new ≡ machines.File f → f ≡ files.Read k → ReadAt mo setup modes_ h x op offset count r → Good setup.pages h c
        → PartAwaits r call → ((reply : Reply) → came ≡ Ok reply → WasTaken mo setup h x call sent back reply) → reads.TakesIn o sent turn came repeats m c back next k later
        → ThenState h x op offset count next new
    takes-in None m r call sent turn came repeats back c next k later f new there is at a good asked told t = absurd (let no_way : None ≡ Some r = there in cc)
    takes-in (Some q) m r call sent turn came repeats back c next k later f new there is at a good asked told t =
        let same : r ≡ q = cc in
        as-file next m t.state.reading k f new is at t.machine
        (takes-read mo setup modes_ h x op offset count call came
        (told-good-laws setup.pages h call came (λ reply got. let w = told reply got in from-start h w.since.told.since call reply w.since.told.answered)) sent turn back told q c
        (subst (ReadAt mo setup modes_ h x op offset count) same a) good (reading.waits_attrs q.phase) repeats next t.state refl (subst (λ (z : Reading). PartAwaits z call) same asked) t.step)

  -- ---- as it begins

  pub record BegunAs (lane slot : ℕ) (moment : ℕ) (m : ReadFile) (old : Shelf) (r : Reading) : Type 0 where
    pub o : Opened
    pub there : finite.get old.opens (lane, slot) ≡ Some o
    pub right : may (ops.Read slot m.offset m.count) o.mode ≡ true
    pub is : r ≡ reads.begun moment m o.file old.back

  some-ok : (a b : Reading) → ◌≡◌ {A = Result Reading Fault} (Ok a) (Ok b) → a ≡ b
  some-ok a b e = cc

  begun-in : (mode : Mode) (lane slot moment : ℕ) (m : ReadFile) (old : Shelf) (o : Opened) (r : Reading) → finite.get old.opens (lane, slot) ≡ Some o → o.mode ≡ mode
      → reads.Begins (reads.begun_in mode moment m o.file old.back) (Ok r) → BegunAs lane slot moment m old r
  begun-in modes.W lane slot moment m old o r there at b = absurd (let no_way : Ok r ≡ Err faults.Mode = b in cc)
  begun-in modes.R lane slot moment m old o r there at (inl b) =
      record { o = o; there = there; right = ap (may (ops.Read slot m.offset m.count)) at; is = some-ok r _ b }
  begun-in modes.R lane slot moment m old o r there at (inr b) = absurd (let no_way : Ok r ≡ Err faults.Memory = b in cc)
  begun-in modes.RW lane slot moment m old o r there at (inl b) =
      record { o = o; there = there; right = ap (may (ops.Read slot m.offset m.count)) at; is = some-ok r _ b }
  begun-in modes.RW lane slot moment m old o r there at (inr b) = absurd (let no_way : Ok r ≡ Err faults.Memory = b in cc)
  begun-in modes.C lane slot moment m old o r there at (inl b) =
      record { o = o; there = there; right = ap (may (ops.Read slot m.offset m.count)) at; is = some-ok r _ b }
  begun-in modes.C lane slot moment m old o r there at (inr b) = absurd (let no_way : Ok r ≡ Err faults.Memory = b in cc)
  begun-in modes.X lane slot moment m old o r there at (inl b) =
      record { o = o; there = there; right = ap (may (ops.Read slot m.offset m.count)) at; is = some-ok r _ b }
  begun-in modes.X lane slot moment m old o r there at (inr b) = absurd (let no_way : Ok r ≡ Err faults.Memory = b in cc)

  begun-at : (found : Option Opened) (lane slot moment : ℕ) (m : ReadFile) (old : Shelf) (r : Reading) → finite.get old.opens (lane, slot) ≡ found
      → reads.Begins (reads.begun_at found moment m old.back) (Ok r) → BegunAs lane slot moment m old r
  begun-at None lane slot moment m old r there b = absurd (let no_way : Ok r ≡ Err faults.Slot = b in cc)
  begun-at (Some o) lane slot moment m old r there b = begun-in o.mode lane slot moment m old o r there refl b

  module _ (h : List Entry) (lane line slot offset count : ℕ) (old : Shelf) (given : Given modes_ h lane old) where
    abbrev later : List Entry
    later = h ++ Began lane line (ops.Read slot offset count) ∷ []

    begins-at : (rsize : ℕ) (noac : Bool) (moment : ℕ) (r : Reading)
        → BegunAs lane slot moment (record { lane = lane; slot = slot; offset = offset; count = count; rsize = rsize; noac = noac; reading = None }) old r
        → HasPassed mo setup later (length h) old.back → ReadAt mo setup modes_ later (length h) (ops.Read slot offset count) offset count r
    begins-at rsize noac moment r b passed = subst (ReadAt mo setup modes_ later (length h) (ops.Read slot offset count) offset count) (sym b.is) (record {
      of = record {
        lane = k.lane;
        line = k.line;
        slot = k.slot;
        open_at = k.held.x;
        began = k.began;
        works_on = k.works_on;
        holds = k.held.holds;
      };
      at = refl;
      space = refl;
      was = record { back = old.back; passed = passed; is = refl };
      start = omega arith;
      framed = framed-begins setup.pages later (length h) b.o.file offset count;
      base = λ j v is. absurd (let no_way : None ≡ Some v = is in cc);
      aligned = first noac;
    })
      where
        k : Held modes_ later (length h) (ops.Read slot offset count)
        k = held-begins modes_ h lane line slot (ops.Read slot offset count) b.o old given refl b.there b.right

        first : (n : Bool) → AlignedIn setup.pages later (length h) b.o.file (reads.first_phase n) (nothing_of offset count)
        first true = (0, refl)
        first false = (0, refl)

    starts-with : (begun : Result Reading Fault) (rsize : ℕ) (noac : Bool) (turn : Turn) (next : Step) (k : ReadFile) (after_ : Pages) (f : FileMachine) (new : Machine) → new ≡ machines.File f
        → f ≡ files.Read k → HasPassed mo setup later (length h) old.back → Good setup.pages later old.pages
        → reads.Begins (reads.begun_at (finite.get old.opens (lane, slot)) (turn.moment - 1)
        (record { lane = lane; slot = slot; offset = offset; count = count; rsize = rsize; noac = noac; reading = None }) old.back) begun
        → reads.StartsWith begun turn.room (record { lane = lane; slot = slot; offset = offset; count = count; rsize = rsize; noac = noac; reading = None }) old.pages old.back next k after_
        → ThenState later (length h) (ops.Read slot offset count) offset count next new
    starts-with (Err fault) rsize noac turn next k after_ f new is at passed good b s =
        subst (λ n. ThenState later (length h) (ops.Read slot offset count) offset count n new) (sym s.step) (λ bytes no_way. absurd cc)
    starts-with (Ok r) rsize noac turn next k after_ f new is at passed good b s =
        goes-from later (length h) (ops.Read slot offset count) offset count turn.room _ old.back r old.pages next k after_ f new is at
        (begins-at rsize noac (turn.moment - 1) r (begun-at (finite.get old.opens (lane, slot)) lane slot (turn.moment - 1) _ old r refl b) passed) good passed s

-- ---- the laws

module _ (mounted : Mounted) (modes_ : Modes) (setup : Setup) where
  abbrev mo : ℕ → Op → Machine
  mo = machine_of mounted

  starts-read : (h : List Entry) (lane line slot offset count wsize : ℕ) (turn : Turn) (old : Shelf) (next : Step) (new : Machine) (after : Shelf) → Given modes_ h lane old
      → HasPassed mo setup (h ++ Began lane line (ops.Read slot offset count) ∷ []) (length h) old.back → Good setup.pages (h ++ Began lane line (ops.Read slot offset count) ∷ []) old.pages
      → Starts wsize (machine_of mounted lane (ops.Read slot offset count)) turn old next new after
      → ThenState mo setup modes_ (h ++ Began lane line (ops.Read slot offset count) ∷ []) (length h) (ops.Read slot offset count) offset count next new
  starts-read h lane line slot offset count wsize turn old next new after given passed good s =
      starts-with mo setup modes_ h lane line slot offset count old given s.step.step.reading mounted.rsize mounted.noac turn next s.step.machine after.pages s.machine new s.machine_is
      s.step.machine_is passed good s.step.step.begins s.step.step.goes

  laws : BondLaws mo setup Both (Given modes_) (GoodShelf setup.pages) (Story mo setup modes_)
  laws = record {
    starts = λ h lane line op wsize turn old next new after given passed good late s. record {
      kept = pages-starts (Good setup.pages (h ++ Began lane line op ∷ [])) (quiet-good setup.pages (h ++ Began lane line op ∷ [])) (mo lane op) wsize turn old next new after s good;
      then_ = then-story mo setup modes_ (h ++ Began lane line op ∷ []) (length h) op next new (λ slot offset count is.
          subst (λ (o : Op). Starts wsize (machine_of mounted lane o) turn old next new after → HasPassed mo setup (h ++ Began lane line o ∷ []) (length h) old.back
          → Good setup.pages (h ++ Began lane line o ∷ []) old.pages → ThenState mo setup modes_ (h ++ Began lane line o ∷ []) (length h) o offset count next new) (sym is)
          (λ starts has good. starts-read h lane line slot offset count wsize turn old next new after given has good starts) s passed good);
    };
    resumes = λ h x op machine wsize turn old next new after good passed within late story r. record {
      kept = pages-resumes (Good setup.pages h) (quiet-good setup.pages h) machine wsize turn old next new after r good;
      then_ = then-story mo setup modes_ h x op next new (λ slot offset count is.
          let k = story slot offset count is in
          let moved : Resumes wsize (machines.File (files.Read k.m)) turn old next new after = subst (λ (n : Machine). Resumes wsize n turn old next new after) k.is r in
          resumes-in mo setup modes_ h x op offset count k.m.reading k.m k.r turn.room old.back old.pages next moved.step.machine after.pages moved.machine new k.reading moved.machine_is
          moved.step.machine_is k.at good passed moved.step.step);
    };
    takes = λ h x op machine call wsize sent turn came old next new after good within late story on told t. record {
      kept = takes-good setup.pages h machine call wsize sent turn came old next new after on.1
          (λ reply is. let w = told reply is in (from-start h w.since.told.since call reply w.since.told.answered, w.link)) t good;
      then_ = then-story mo setup modes_ h x op next new (λ slot offset count is.
          let k = story slot offset count is in
          let moved : Takes wsize (machines.File (files.Read k.m)) sent turn came old next new after = subst (λ (n : Machine). Takes wsize n sent turn came old next new after) k.is t in
          let awaits : ReadAwaits k.m.reading call = subst (λ (n : Machine). PageAwaits n call) k.is on.1 in
          let asked : PartAwaits k.r call = subst (λ (o : Option Reading). ReadAwaits o call) k.reading awaits in
          takes-in mo setup modes_ h x op offset count k.m.reading k.m k.r call sent turn came old.repeats old.back old.pages next moved.step.machine after.pages moved.machine new k.reading
          moved.machine_is moved.step.machine_is k.at good asked told moved.step.step);
    };
    still = λ h e shelf good. good-grows setup.pages h e shelf.pages good;
    grows = λ h e x op state story slot offset count is. state-grows mo setup modes_ h e x op offset count state (story slot offset count is);
    lost = λ h x op shown slot offset count is. λ bytes no_way. absurd cc;
  }

-- the answer of a read, by the history until then
pub record HadRead (mo : ℕ → Op → Machine) (setup : Setup) (modes_ : Modes) (h : List Entry) (x y : ℕ) (op : Op) (offset : ℕ) (bytes : List ℕ) : Type 0 where
  pub before : List Entry
  pub after : List Entry
  pub is : h ≡ before ++ after
  pub there : length before ≡ y
  pub shown : ReadShown mo setup modes_ before x op offset bytes

pub had-read : (m : Mounted) (terms : Terms) (setup : Setup) (h : List Entry) (v : View) → GoesWith m terms setup h v → (lane x slot offset count y : ℕ) (bytes : List ℕ)
    → Ended h lane x (ops.Read slot offset count) y (answers.Done (values.Bytes bytes))
    → HadRead (machine_of m) setup terms.modes h x y (ops.Read slot offset count) offset bytes
had-read m terms setup h v g lane x slot offset count y bytes ended =
    let s = reached-answered m setup Both both-asks (Given terms.modes) (GoodShelf setup.pages) (Story (machine_of m) setup terms.modes) (laws m terms.modes setup)
    (λ k w lane r found other. is-given terms.modes m g.nocto setup k w r found lane other) (λ k w fresh. first-good setup.pages k w.shelf.pages fresh.pages fresh.sound) h v g.reaches lane x
    (ops.Read slot offset count) y (answers.Done (values.Bytes bytes)) ended in
    record { before = s.before; after = s.after; is = s.is; there = s.there; shown = s.story slot offset count refl bytes refl }

pub until : (h before after : List Entry) (y : ℕ) → h ≡ before ++ after → length before ≡ y → take y h ≡ before
until h before after y is there =
    ap (take y) is ∙ ap (λ (n : ℕ). take n (before ++ after)) (sym there) ∙ take-early before after (length before) (omega arith) ∙ take-whole before

pub reads-shown : ReadsShown
reads-shown m terms setup h v g lane x slot offset count y bytes ended =
    let s = had-read m terms setup h v g lane x slot offset count y bytes ended in
    subst (λ (k : List Entry). ReadShown (machine_of m) setup terms.modes k x (ops.Read slot offset count) offset bytes) (sym (until h s.before s.after y s.is s.there)) s.shown
