-- What a read answers, along a history, as `proofs.current.ReadsTaken`; with how the session went on from the views in which its own bytes were pending.
use Rattle.core_session.proofs.Prelude.{◌≡◌, ◌≤◌, ◌+◌, ◌-◌, ◌⊎◌, inl, inr, ℕ, Bool, true, false, List, [], ◌∷◌, ◌++◌, length, Option, Some, None, Result, Ok, Err, refl, sym, ap, subst, ◌∙◌, append_assoc, arith, Attr, stamp_of, of_object, IsAnswered, LastAtMost, Mode, Opened, Stamp, Pages, known_of, Pending, EachSound, Fault, Entry, Began, Call, Reply, Op, Modes, Ended, IsOf, Terms, At-grow, At-below, Step, Shelf, Turn, ReadFile, Repeat, Phase, Reading, place_after, nothing_of, opened_pages, machine_of, Mounted, FileMachine, Machine, Starts, Resumes, Takes, State, Busy, Over, Setup, View, GoesWith, may, Held, Given, is-given, held-begins, always-later, IsHeld, held-grow, ThenOf, answered-last, RecentThen, IsFound, in_page, in_reply, IsEnd, by_known, by_page, by_reply, IsAged, IsSeen, SeenFrom, shown, WasRegular, ReadOn, IsOn, ReadAwaits, Both, both-asks, Good, quiet-good, page-grows, from-start, HasPassed, RunsIn}
use Rattle.file_ops.specs.Base.{Bytes}
use Rattle.core_answers.proofs.pages.PageCalls.{PageAwaits, PartAwaits}
use Rattle.core_answers.proofs.pages.PageLaws.{told-good-laws}
use Rattle.core_answers.proofs.pages.PagesShown.{GoodShelf, good-grows, takes-good, first-good}
use Rattle.std.specs.FinMap as finite
use Rattle.world_model.specs.declared.message.Call.TheVariants as calls
use Rattle.nfs_file_calls.specs.declared.call.FileCall.TheVariants as file_calls
use Rattle.nfs_types.specs.declared.mode.Mode.TheVariants as modes
use Rattle.nfs_file_calls.specs.declared.owned.FileKept.TheVariants as kept
use Rattle.world_model.specs.declared.answer.Answer.TheVariants as answers
use Rattle.world_model.specs.declared.answer.Fault.TheVariants as faults
use Rattle.world_model.specs.declared.answer.Value.TheVariants as values
use Rattle.world_model.specs.declared.message.Reply.TheVariants as replies
use Rattle.world_model.specs.declared.op.Op.TheVariants as ops
use Rattle.client_shelf.specs.declared.step.Step.TheVariants as nexts
use Rattle.file_ops.specs.declared.reading.Phase.TheVariants as phases
use Rattle.file_ops.specs.ReadFile as reads
use Rattle.file_ops.specs.Reading as reading
use Rattle.op_machines.specs.declared.file_machine.FileMachine.TheVariants as files
use Rattle.op_machines.specs.declared.machine.Machine.TheVariants as machines
use Rattle.core_session.proofs.shown.Answer.{OwnByte, OwnPast, IsShown, own, served, empty, ReadShown}
use Rattle.core_session.proofs.current.FedPages as fed
use Rattle.core_session.proofs.current.Good as marked
use Rattle.core_session.proofs.current.Along.{KeepsMoments, of-moments}
use Rattle.core_session.proofs.current.Keeping.{WasTaken, BondLaws}
use Rattle.core_session.proofs.shown.Following.{Followed, reached-answered}
use Rattle.core_session.proofs.room.Onward as onward
use Rattle.core_session.proofs.syncs.WatchingAlong.{KeepsWatching}
use Rattle.core_session.proofs.current.ReadMarks.{past, ReadIn}
use Rattle.core_session.proofs.current.Sounds.{All, each-sound, keeps-all}
use Rattle.core_session.proofs.current.Moments.{IsMoment, SinceIn, newly-opened, marked-grows, regular-grows, seen-grows, known-seen, IsToldSince, fed-marks, shows-marks}
use Rattle.core_answers.proofs.bonds.MachineCalls.{Asks}
use Rattle.core_answers.proofs.pages.FilePages.{pages-opened, noted-pages}
use Rattle.core_answers.proofs.pages.MachinePages.{pages-starts, pages-resumes}
use Rattle.core_session.proofs.shown.Story.{AlignedIn, EndsSo, GoodFor, HadBack, ReadAt, Answered, from-settled, takes-read, framed-begins, begins-reach}

-- ---- one entry more

seen-more : (h more : List Entry) (o : ℕ) (file : List ℕ) (stamp : Stamp) → IsSeen h o file stamp → IsSeen (h ++ more) o file stamp
seen-more h more o file stamp s = always-later (λ k. IsSeen k o file stamp) (λ k e. seen-grows k e o file stamp) h more s

aged-more : (h more : List Entry) (modes_ : Modes) (o s : ℕ) → IsAged modes_ h o s → IsAged modes_ (h ++ more) o s
aged-more h more modes_ o s a = always-later (λ k. IsAged modes_ k o s) (λ k e. marked.aged-grows modes_ k e o s) h more a

from-more : (h more : List Entry) (modes_ : Modes) (o : ℕ) (file : List ℕ) (stamp : Stamp) → SeenFrom modes_ h o file stamp → SeenFrom modes_ (h ++ more) o file stamp
from-more h more modes_ o file stamp f = record { s = f.s; seen = seen-more h more f.s file stamp f.seen; age = by f.age }
  where
    by : (f.s ≡ o) ⊎ IsAged modes_ h o f.s → (f.s ≡ o) ⊎ IsAged modes_ (h ++ more) o f.s
    by (inl same) = inl same
    by (inr old) = inr (aged-more h more modes_ o f.s old)

regular-more : (h more : List Entry) (f : List ℕ) → WasRegular h f → WasRegular (h ++ more) f
regular-more h more f r = always-later (λ g. WasRegular g f) (λ g e. regular-grows g e f) h more r

marked-more : (h more : List Entry) (o : ℕ) (f : List ℕ) (k : ℕ) (c : Pages) → SinceIn h o f k c → SinceIn (h ++ more) o f k c
marked-more h more o f k c s = always-later (λ g. SinceIn g o f k c) (λ g e. marked-grows g e o f k c) h more s

module _ (mo : ℕ → Op → Machine) (setup : Setup) (modes_ : Modes) (H : List Entry) (V : View) (W : List Entry → View → Type 0) where
  -- what is known of a view through which the core passed
  abbrev pub AllOf : List Entry → View → Type 0
  AllOf = Followed mo setup H V (All setup modes_) W

  pub sounds : (h : List Entry) (v : View) → AllOf h v → EachSound v.shelf.back
  sounds h v a = each-sound setup modes_ h v a.good

module _ (mo : ℕ → Op → Machine) (setup : Setup) (modes_ : Modes) (H : List Entry) (V : View) (W : List Entry → View → Type 0) (h : List Entry) (e : Entry) where
  abbrev passed-grows : (x : ℕ) (back : Pending) → HadBack mo setup modes_ (AllOf mo setup modes_ H V W) (sounds mo setup modes_ H V W) h x back → HadBack mo setup modes_ (AllOf mo setup modes_ H V W) (sounds mo setup modes_ H V W) (h ++ e ∷ []) x back
  passed-grows x back p = record {
    shelf = p.shelf;
    passed = record {
      before = p.passed.before;
      after = p.passed.after ++ e ∷ [];
      is = ap (λ (k : List Entry). k ++ e ∷ []) p.passed.is ∙ append_assoc p.passed.before p.passed.after (e ∷ []);
      late = p.passed.late;
      view = p.passed.view;
      passed = p.passed.passed;
      same = p.passed.same;
      good = p.passed.good;
    };
    same = p.same;
  }

  pending-grows : (x : ℕ) (file : List ℕ) (place v : ℕ) → OwnByte (AllOf mo setup modes_ H V W) h x file place v → OwnByte (AllOf mo setup modes_ H V W) (h ++ e ∷ []) x file place v
  pending-grows x file place v p = record {
    before = p.before;
    after = p.after ++ e ∷ [];
    is = ap (λ (k : List Entry). k ++ e ∷ []) p.is ∙ append_assoc p.before p.after (e ∷ []);
    late = p.late;
    view = p.view;
    good = p.good;
    pending = p.pending;
  }

  past-grows : (x : ℕ) (file : List ℕ) (place : ℕ) → OwnPast (AllOf mo setup modes_ H V W) h x file place → OwnPast (AllOf mo setup modes_ H V W) (h ++ e ∷ []) x file place
  past-grows x file place p = record {
    before = p.before;
    after = p.after ++ e ∷ [];
    is = ap (λ (k : List Entry). k ++ e ∷ []) p.is ∙ append_assoc p.before p.after (e ∷ []);
    late = p.late;
    view = p.view;
    good = p.good;
    q = p.q;
    byte = p.byte;
    past = p.past;
    there = p.there;
  }

  recent-grows : (x : ℕ) (file : List ℕ) (stamp : Stamp) → RecentThen modes_ h x file stamp → RecentThen modes_ (h ++ e ∷ []) x file stamp
  recent-grows x file stamp r = record {
    before = r.before;
    after = r.after ++ e ∷ [];
    is = ap (λ (k : List Entry). k ++ e ∷ []) r.is ∙ append_assoc r.before r.after (e ∷ []);
    late = r.late;
    recent = λ lane slot o y opens. let k = r.recent lane slot o y opens in (from-more h (e ∷ []) modes_ o file stamp k.0, regular-grows h e file k.1);
    again = λ noac. seen-grows h e x file stamp (r.again noac);
  }

  found-grows : (x : ℕ) (file : List ℕ) (place v : ℕ) → IsFound setup.pages modes_ h x file place v → IsFound setup.pages modes_ (h ++ e ∷ []) x file place v
  found-grows x file place v (in_page stamp index at page is r there same) = in_page stamp index at page (page-grows setup.pages h e file stamp index page is) (recent-grows x file stamp r) there same
  found-grows x file place v (in_reply since offset count counted at attr eof given later answered there same) =
      in_reply since offset count counted at attr eof given later (answered-last h e since _ _ answered) there same

  end-grows : (x : ℕ) (file : List ℕ) (place : ℕ) → IsEnd setup.pages modes_ h x file place → IsEnd setup.pages modes_ (h ++ e ∷ []) x file place
  end-grows x file place (by_known stamp r low) = by_known stamp (recent-grows x file stamp r) low
  end-grows x file place (by_page stamp index page is r short low) = by_page stamp index page (page-grows setup.pages h e file stamp index page is) (recent-grows x file stamp r) short low
  end-grows x file place (by_reply since offset count counted attr given later answered low) = by_reply since offset count counted attr given later (answered-last h e since _ _ answered) low

  ends-grow : (x : ℕ) (file : List ℕ) (b : Bytes) → EndsSo setup.pages modes_ h x file b → EndsSo setup.pages modes_ (h ++ e ∷ []) x file b
  ends-grow x file b (inl whole) = inl whole
  ends-grow x file b (inr end) = inr (end-grows x file (place_after b) end)

  aligned-grows : (x : ℕ) (file : List ℕ) (p : Phase) (b : Bytes) → AlignedIn setup.pages modes_ h x file p b → AlignedIn setup.pages modes_ (h ++ e ∷ []) x file p b
  aligned-grows x file phases.Attrs b a = a
  aligned-grows x file phases.AskedAttrs b a = a
  aligned-grows x file phases.Pages b a = a
  aligned-grows x file phases.Rest b a = a
  aligned-grows x file (phases.Asked count) b a = a
  aligned-grows x file phases.Ended b a = ends-grow x file b a

  pub of-grows : (x : ℕ) (op : Op) (f : List ℕ) → IsOf modes_ h x op f → IsOf modes_ (h ++ e ∷ []) x op f
  of-grows x op f i =
      let low = At-below h x (Began i.lane i.line op) i.began in
      let held : IsHeld modes_ (h ++ e ∷ []) x i.lane i.slot f i.holds.opens.mode =
      held-grow modes_ h e i.lane i.slot f i.holds.opens.mode x (omega (arith, low)) (record { x = i.open_at; holds = i.holds; mode_is = refl }) in
      record {
        lane = i.lane;
        line = i.line;
        slot = i.slot;
        open_at = held.x;
        began = At-grow h (e ∷ []) x (Began i.lane i.line op) i.began;
        works_on = i.works_on;
        holds = held.holds;
      }

  shows-grow : (x : ℕ) (file server : List ℕ) (k place v : ℕ) → IsShown (AllOf mo setup modes_ H V W) h x file server k place v → IsShown (AllOf mo setup modes_ H V W) (h ++ e ∷ []) x file server k place v
  shows-grow x file server k place v (own p) = own (pending-grows x file place v p)
  shows-grow x file server k place v (served is) = served is
  shows-grow x file server k place v (empty is past beyond) = empty is past (past-grows x file place beyond)

  read-grows : (x : ℕ) (op : Op) (offset count : ℕ) (bytes : List ℕ) → ReadShown setup.pages (AllOf mo setup modes_ H V W) modes_ h x op offset count bytes → ReadShown setup.pages (AllOf mo setup modes_ H V W) modes_ (h ++ e ∷ []) x op offset count bytes
  read-grows x op offset count bytes r = record {
    file = r.file;
    of = of-grows x op r.file r.of;
    server = r.server;
    found = λ k v is. found-grows x r.file (offset + k) v (r.found k v is);
    ends = by r.ends;
    long = r.long;
    most = r.most;
    each = λ k v is. shows-grow x r.file r.server k (offset + k) v (r.each k v is);
  }
    where
      by : (count ≤ length r.server) ⊎ IsEnd setup.pages modes_ h x r.file (offset + length r.server) → (count ≤ length r.server) ⊎ IsEnd setup.pages modes_ (h ++ e ∷ []) x r.file (offset + length r.server)
      by (inl whole) = inl whole
      by (inr end) = inr (end-grows x r.file (offset + length r.server) end)

  at-grows : (x : ℕ) (op : Op) (offset count : ℕ) (r : Reading) → ReadAt mo setup modes_ (AllOf mo setup modes_ H V W) (sounds mo setup modes_ H V W) h x op offset count r → ReadAt mo setup modes_ (AllOf mo setup modes_ H V W) (sounds mo setup modes_ H V W) (h ++ e ∷ []) x op offset count r
  at-grows x op offset count r a = record {
    of = of-grows x op r.file a.of;
    at = a.at;
    space = a.space;
    was = record { back = a.was.back; passed = passed-grows x a.was.back a.was.passed; at = a.was.at; is = a.was.is };
    start = a.start;
    reaches = a.reaches;
    framed = record { first = a.framed.first; last = a.framed.last; start = a.framed.start; limit = a.framed.limit };
    base = λ k v is. found-grows x r.file (r.base.start + k) v (a.base k v is);
    aligned = aligned-grows x r.file r.phase r.base a.aligned;
  }

-- ---- what is known of the kept pages

module _ (mo : ℕ → Op → Machine) (setup : Setup) (modes_ : Modes) (H : List Entry) (V : View) (W : List Entry → View → Type 0) (h : List Entry) (x : ℕ) (file : List ℕ) where
  -- those of a view through which the core passes
  good-passed : (shelf : Shelf) → Good setup.pages h shelf.pages → (p : HasPassed mo setup (AllOf mo setup modes_ H V W) h x shelf)
      → (modes_.noac ≡ true → (k : ℕ) × SinceIn p.before x file k p.view.shelf.pages) → GoodFor setup.pages modes_ h x file shelf.pages
  good-passed shelf good p own_ = (
    good,
    λ stamp known. record {
      before = p.before;
      after = p.after;
      is = p.is;
      late = p.late;
      recent = λ lane slot o y opens.
          let k = p.good.good.ours.opened lane slot o y file opens in
          let s = k.since in (
            subst (λ (k : List Entry). SeenFrom modes_ k o file stamp) (sym p.is)
                (from-more p.before p.after modes_ o file stamp
                (record { s = k.s; seen = known-seen p.before k.s file s.k p.view.shelf.pages stamp s.marked (ap (λ (z : Shelf). known_of file z.pages) p.same ∙ known); age = k.age })),
            subst (λ (k : List Entry). WasRegular k file) (sym p.is) (regular-more p.before p.after file s.regular),
          );
      again = λ noac.
          let s = own_ noac in
          subst (λ (k : List Entry). IsSeen k x file stamp) (sym p.is)
          (seen-more p.before p.after x file stamp (known-seen p.before x file s.0 p.view.shelf.pages stamp s.1 (ap (λ (z : Shelf). known_of file z.pages) p.same ∙ known)));
    },
  )

  -- those after what came of a call was taken, as far as it goes by what the reply tells
  ok-reply : (a b : Reply) → ◌≡◌ {A = Result Reply Fault} (Ok a) (Ok b) → a ≡ b
  ok-reply a b e = cc

  module _ (call : Call) (came : Result Reply Fault) (sent turn : Turn) (shelf : Shelf) (reply : Reply) (is : came ≡ Ok reply) (w : WasTaken mo setup (AllOf mo setup modes_ H V W) h x call sent turn shelf reply) where
    told-since : (o k : ℕ) → IsMoment w.passed.before w.passed.view o k → (other : Reply) → came ≡ Ok other → IsToldSince h call sent o k other
    told-since o k m other there =
        let same : reply ≡ other = ok-reply reply other (sym is ∙ there) in
        subst (λ (z : Reply). IsToldSince h call sent o k z) same (record { since = w.since.told.since; answered = w.since.told.answered; later = λ late. w.after o k m late })

    age_now : (o s : ℕ) → (s ≡ o) ⊎ IsAged modes_ w.passed.before o s → (s ≡ o) ⊎ IsAged modes_ h o s
    age_now o s (inl same) = inl same
    age_now o s (inr old) = inr (subst (λ (g : List Entry). IsAged modes_ g o s) (sym w.passed.is) (aged-more w.passed.before w.passed.after modes_ o s old))

    good-then : (later : Pages) → Good setup.pages h later
        → ((o k : ℕ) → fed.FedLaws (SinceIn h o file k) call came sent turn → SinceIn h o file k shelf.pages → SinceIn h o file k later)
        → (modes_.noac ≡ true → (k : ℕ) × SinceIn h x file k later) → GoodFor setup.pages modes_ h x file later
    good-then later good step own_ = (
      good,
      λ stamp known. record {
        before = w.passed.before;
        after = w.passed.after;
        is = w.passed.is;
        late = w.passed.late;
        recent = λ lane slot o y opens.
            let k = w.passed.good.good.ours.opened lane slot o y file opens in
            let s = k.since in
            let given = s.moment.given in
            let soon = w.soon in
            let marked : SinceIn h k.s file s.k shelf.pages =
            subst (λ (g : List Entry). SinceIn g k.s file s.k shelf.pages) (sym w.passed.is)
            (marked-more w.passed.before w.passed.after k.s file s.k shelf.pages (subst (λ (z : Shelf). SinceIn w.passed.before k.s file s.k z.pages) w.passed.same s.marked)) in (
              record {
                s = k.s;
                seen = known-seen h k.s file s.k later stamp
                    (step k.s s.k (fed-marks h k.s file s.k call came sent turn (omega (arith, given, soon)) (told-since k.s s.k s.moment)) marked) known;
                age = age_now o k.s k.age;
              },
              subst (λ (k : List Entry). WasRegular k file) (sym w.passed.is) (regular-more w.passed.before w.passed.after file s.regular),
            );
        again = λ noac. let s = own_ noac in known-seen h x file s.0 later stamp s.1 known;
      },
    )

    -- what is known of its own, after the step
    own-step : (later : Pages) (k : ℕ) → IsMoment w.passed.before w.passed.view x k → SinceIn w.passed.before x file k w.passed.view.shelf.pages
        → (fed.FedLaws (SinceIn h x file k) call came sent turn → SinceIn h x file k shelf.pages → SinceIn h x file k later) → SinceIn h x file k later
    own-step later k m s step =
        let given = m.given in
        let soon = w.soon in
        let now : SinceIn h x file k shelf.pages =
        subst (λ (g : List Entry). SinceIn g x file k shelf.pages) (sym w.passed.is)
        (marked-more w.passed.before w.passed.after x file k shelf.pages (subst (λ (z : Shelf). SinceIn w.passed.before x file k z.pages) w.passed.same s)) in
        step (fed-marks h x file k call came sent turn (omega (arith, given, soon)) (told-since x k m)) now

    -- and where its attributes came
    own-opened : (attr : Attr) (k : ℕ) → IsMoment w.passed.before w.passed.view x k → came ≡ Ok (replies.File (kept.GetAttr attr)) → IsOn file call
        → SinceIn h x file k (opened_pages file attr k sent turn shelf.pages)
    own-opened attr k m got on =
        let given = m.given in
        let soon = w.soon in
        let said : reply ≡ replies.File (kept.GetAttr attr) = ok-reply reply (replies.File (kept.GetAttr attr)) (sym is ∙ got) in
        let answered = subst (λ (z : Reply). IsAnswered h w.since.told.since (length h) call z) said w.since.told.answered in
        newly-opened h x file k attr sent turn shelf.pages (omega (arith, given, soon))
        (shown (stamp_of attr) w.since.told.since call (replies.File (kept.GetAttr attr)) attr w.since.later answered (of_object on refl) refl)

-- ---- the story of a read

module _ (mo : ℕ → Op → Machine) (setup : Setup) (modes_ : Modes) (H : List Entry) (V : View) (W : List Entry → View → Type 0) where
  pub record IsReading (h : List Entry) (x : ℕ) (op : Op) (offset count : ℕ) (machine : Machine) : Type 0 where
    pub m : ReadFile
    pub is : machine ≡ machines.File (files.Read m)
    pub r : Reading
    pub reading : m.reading ≡ Some r
    pub at : ReadAt mo setup modes_ (AllOf mo setup modes_ H V W) (sounds mo setup modes_ H V W) h x op offset count r

  abbrev pub StateOf : List Entry → ℕ → Op → ℕ → ℕ → State → Type 0
  StateOf h x op offset count (Busy machine) = IsReading h x op offset count machine
  StateOf h x op offset count (Over answer) = Answered mo setup modes_ (AllOf mo setup modes_ H V W) (sounds mo setup modes_ H V W) h x op offset count answer

  abbrev pub Story : List Entry → ℕ → Op → State → Type 0
  Story h x op state = (slot offset count : ℕ) → op ≡ ops.Read slot offset count → StateOf h x op offset count state

  abbrev ThenState : List Entry → ℕ → Op → ℕ → ℕ → Step → Machine → Type 0
  ThenState h x op offset count next new = ThenOf (IsReading h x op offset count) (Answered mo setup modes_ (AllOf mo setup modes_ H V W) (sounds mo setup modes_ H V W) h x op offset count) next new

  then-story : (h : List Entry) (x : ℕ) (op : Op) (next : Step) (new : Machine) → ((slot offset count : ℕ) → op ≡ ops.Read slot offset count → ThenState h x op offset count next new)
      → ThenOf (λ k. Story h x op (Busy k)) (λ a. Story h x op (Over a)) next new
  then-story h x op (nexts.Send call) new g = λ slot offset count is. g slot offset count is
  then-story h x op nexts.Wait new g = λ slot offset count is. g slot offset count is
  then-story h x op (nexts.Done answer) new g = λ slot offset count is. g slot offset count is

  state-grows : (h : List Entry) (e : Entry) (x : ℕ) (op : Op) (offset count : ℕ) (state : State) → StateOf h x op offset count state → StateOf (h ++ e ∷ []) x op offset count state
  state-grows h e x op offset count (Busy machine) s =
      record { m = s.m; is = s.is; r = s.r; reading = s.reading; at = at-grows mo setup modes_ H V W h e x op offset count s.r s.at }
  state-grows h e x op offset count (Over answer) s = λ bytes is. read-grows mo setup modes_ H V W h e x op offset count bytes (s bytes is)

  module _ (h : List Entry) (x : ℕ) (op : Op) (offset count : ℕ) where
    -- a step of the reading, as one of the machine
    as-machine : (next : Step) (m k : ReadFile) (r : Reading) (new : Machine) → new ≡ machines.File (files.Read k) → k ≡ record m { reading = Some r }
        → ThenOf (ReadAt mo setup modes_ (AllOf mo setup modes_ H V W) (sounds mo setup modes_ H V W) h x op offset count) (Answered mo setup modes_ (AllOf mo setup modes_ H V W) (sounds mo setup modes_ H V W) h x op offset count) next r → ThenState h x op offset count next new
    as-machine (nexts.Send call) m k r new is same a = record { m = k; is = is; r = r; reading = ap (λ (z : ReadFile). z.reading) same; at = a }
    as-machine nexts.Wait m k r new is same a = record { m = k; is = is; r = r; reading = ap (λ (z : ReadFile). z.reading) same; at = a }
    as-machine (nexts.Done answer) m k r new is same a = a

    as-file : (next : Step) (m : ReadFile) (r : Reading) (k : ReadFile) (f : FileMachine) (new : Machine) → new ≡ machines.File f → f ≡ files.Read k → k ≡ record m { reading = Some r }
        → ThenOf (ReadAt mo setup modes_ (AllOf mo setup modes_ H V W) (sounds mo setup modes_ H V W) h x op offset count) (Answered mo setup modes_ (AllOf mo setup modes_ H V W) (sounds mo setup modes_ H V W) h x op offset count) next r → ThenState h x op offset count next new
    as-file next m r k f new is at same a = as-machine next m k r new (is ∙ ap machines.File at) same a

    goes-from : (room : Bool) (m : ReadFile) (shelf : Shelf) (r : Reading) (next : Step) (k : ReadFile) (later : Pages) (f : FileMachine) (new : Machine) → new ≡ machines.File f
        → f ≡ files.Read k → ReadAt mo setup modes_ (AllOf mo setup modes_ H V W) (sounds mo setup modes_ H V W) h x op offset count r → (past r.phase ≡ true → GoodFor setup.pages modes_ h x r.file shelf.pages)
        → HasPassed mo setup (AllOf mo setup modes_ H V W) h x shelf → reads.GoesFrom room m shelf.back (reading.settled r shelf.pages) next k later → ThenState h x op offset count next new
    goes-from room m shelf r next k later f new is at a good passed g =
        as-file next m (reading.gone room (reading.settled r shelf.pages)).reading k f new is at g.machine
        (from-settled mo setup modes_ (AllOf mo setup modes_ H V W) (sounds mo setup modes_ H V W) h x op offset count room shelf.back r shelf.pages next (reading.gone room (reading.settled r shelf.pages)) a
        good (record { shelf = shelf; passed = passed; same = refl }) g.step refl)

    resumes-in : (o : Option Reading) (m : ReadFile) (r : Reading) (room : Bool) (shelf : Shelf) (next : Step) (k : ReadFile) (later : Pages) (f : FileMachine) (new : Machine)
        → o ≡ Some r → new ≡ machines.File f → f ≡ files.Read k → ReadAt mo setup modes_ (AllOf mo setup modes_ H V W) (sounds mo setup modes_ H V W) h x op offset count r
        → (past r.phase ≡ true → GoodFor setup.pages modes_ h x r.file shelf.pages) → HasPassed mo setup (AllOf mo setup modes_ H V W) h x shelf → reads.ResumesIn o room m shelf.pages shelf.back next k later → ThenState h x op offset count next new
    resumes-in None m r room shelf next k later f new there is at a good passed s = absurd (let no_way : None ≡ Some r = there in cc)
    resumes-in (Some q) m r room shelf next k later f new there is at a good passed s =
        let same : r ≡ q = cc in
        goes-from room m shelf q next k later f new is at (subst (ReadAt mo setup modes_ (AllOf mo setup modes_ H V W) (sounds mo setup modes_ H V W) h x op offset count) same a)
        (subst (λ (z : Reading). past z.phase ≡ true → GoodFor setup.pages modes_ h x z.file shelf.pages) same good) passed s

    takes-in : (o : Option Reading) (m : ReadFile) (r : Reading) (call : Call) (sent turn : Turn) (came : Result Reply Fault) (repeats : List Repeat) (shelf : Shelf) (next : Step) (k : ReadFile)
        (later : Pages) (f : FileMachine) (new : Machine) → o ≡ Some r → new ≡ machines.File f → f ≡ files.Read k → ReadAt mo setup modes_ (AllOf mo setup modes_ H V W) (sounds mo setup modes_ H V W) h x op offset count r → Good setup.pages h shelf.pages
        → PartAwaits r call → IsOn r.file call → (told : (reply : Reply) → came ≡ Ok reply → WasTaken mo setup (AllOf mo setup modes_ H V W) h x call sent turn shelf reply)
        → ((reply : Reply) → (got : came ≡ Ok reply) → modes_.noac ≡ true → marked.AskedSo (told reply got).passed.before (told reply got).passed.view x r) → reads.TakesIn o sent turn came repeats m shelf.pages shelf.back next k later → ThenState h x op offset count next new
    takes-in None m r call sent turn came repeats shelf next k later f new there is at a good asked on told begun t = absurd (let no_way : None ≡ Some r = there in cc)
    takes-in (Some q) m r call sent turn came repeats shelf next k later f new there is at a good asked on told begun t =
        as-file next m t.state.reading k f new is at t.machine
        (takes-read mo setup modes_ (AllOf mo setup modes_ H V W) (sounds mo setup modes_ H V W) h x op offset count call came sent turn shelf told q shelf.pages (subst (ReadAt mo setup modes_ (AllOf mo setup modes_ H V W) (sounds mo setup modes_ H V W) h x op offset count) same a)
        (λ attr after got o. attrs_good attr after got o) (λ attr counted eof given size got asks far. part_good attr counted eof given size got asks far)
        (reading.waits_attrs q.phase) repeats next t.state refl (subst (λ (z : Reading). PartAwaits z call) same asked) t.step)
      where
        same : r ≡ q
        same = cc

        mine : IsOn q.file call
        mine = subst (λ (z : Reading). IsOn z.file call) same on

        own : (reply : Reply) (got : came ≡ Ok reply) → modes_.noac ≡ true → marked.AskedSo (told reply got).passed.before (told reply got).passed.view x q
        own reply got noac = subst (marked.AskedSo (told reply got).passed.before (told reply got).passed.view x) same (begun reply got noac)

        attrs_good : (attr : Attr) (after : Pages) → came ≡ Ok (replies.File (kept.GetAttr attr)) → after ≡ opened_pages q.file attr q.moment sent turn shelf.pages → GoodFor setup.pages modes_ h x q.file after
        attrs_good attr after got o =
            let reply : Reply = replies.File (kept.GetAttr attr) in
            good-then mo setup modes_ H V W h x q.file call came sent turn shelf reply got (told reply got) after
            (pages-opened (Good setup.pages h) (quiet-good setup.pages h) (Ok tt) q.file attr q.moment sent turn shelf.pages after o good)
            (λ p n laws marked_. fed.pages-opened (SinceIn h p q.file n) (λ file index c. shows-marks h p q.file n file index c) call came sent turn laws (Ok tt) q.file attr q.moment shelf.pages after got mine o marked_)
            (λ noac. (
              q.moment,
              subst (SinceIn h x q.file q.moment) (sym o)
                  (own-opened mo setup modes_ H V W h x q.file call came sent turn shelf reply got (told reply got) attr q.moment (own reply got noac).moment got mine),
            ))

        part_good : (attr : Option Attr) (counted : ℕ) (eof : Bool) (given : List ℕ) (size : ℕ) → came ≡ Ok (replies.File (kept.Read attr counted eof given))
            → call ≡ calls.File (file_calls.Read q.file (place_after q.base) size) → past q.phase ≡ true → GoodFor setup.pages modes_ h x q.file (reading.noted attr q.file sent.moment (place_after q.base) given eof shelf.pages)
        part_good attr counted eof given size got asks far =
            let reply : Reply = replies.File (kept.Read attr counted eof given) in
            let later : Pages = reading.noted attr q.file sent.moment (place_after q.base) given eof shelf.pages in
            good-then mo setup modes_ H V W h x q.file call came sent turn shelf reply got (told reply got) later
            (noted-pages (Good setup.pages h) (quiet-good setup.pages h) call came
            (told-good-laws setup.pages h call came (λ reply there_. let w = told reply there_ in from-start h w.since.told.since call reply w.since.told.answered))
            attr q.file counted eof given (place_after q.base) size sent.moment shelf.pages got asks good)
            (λ p n laws marked_. fed.noted-pages (SinceIn h p q.file n) (λ file index c. shows-marks h p q.file n file index c) call came sent turn laws attr q.file counted eof given (place_after q.base) size shelf.pages
            got asks marked_)
            (λ noac. (
              q.moment,
              own-step mo setup modes_ H V W h x q.file call came sent turn shelf reply got (told reply got) later q.moment (own reply got noac).moment ((own reply got noac).marked far)
                  (λ laws marked_. fed.noted-pages (SinceIn h x q.file q.moment) (λ file index c. shows-marks h x q.file q.moment file index c) call came sent turn laws attr q.file counted eof given
                  (place_after q.base) size shelf.pages got asks marked_),
            ))

  -- ---- as it begins

  pub record BegunAs (lane slot : ℕ) (moment : ℕ) (m : ReadFile) (old : Shelf) (r : Reading) : Type 0 where
    pub o : Opened
    pub there : finite.get old.opens (lane, slot) ≡ Some o
    pub right : may (ops.Read slot m.offset m.count) o.mode ≡ true
    pub is : r ≡ reads.begun moment m o.file old.back

  some-ok : (a b : Reading) → ◌≡◌ {A = Result Reading Fault} (Ok a) (Ok b) → a ≡ b
  some-ok a b e = cc

  begun-in : (mode : Mode) (lane slot moment : ℕ) (m : ReadFile) (old : Shelf) (o : Opened) (r : Reading) → finite.get old.opens (lane, slot) ≡ Some o → o.mode ≡ mode
      → reads.Begins (reads.begun_in mode moment m o.file old.back) (Ok r) → BegunAs lane slot moment m old r
  begun-in modes.W lane slot moment m old o r there at b = absurd (let no_way : Ok r ≡ Err faults.Mode = b in cc)
  begun-in modes.R lane slot moment m old o r there at (inl b) =
      record { o = o; there = there; right = ap (may (ops.Read slot m.offset m.count)) at; is = some-ok r _ b }
  begun-in modes.R lane slot moment m old o r there at (inr b) = absurd (let no_way : Ok r ≡ Err faults.Memory = b in cc)
  begun-in modes.RW lane slot moment m old o r there at (inl b) =
      record { o = o; there = there; right = ap (may (ops.Read slot m.offset m.count)) at; is = some-ok r _ b }
  begun-in modes.RW lane slot moment m old o r there at (inr b) = absurd (let no_way : Ok r ≡ Err faults.Memory = b in cc)
  begun-in modes.C lane slot moment m old o r there at (inl b) =
      record { o = o; there = there; right = ap (may (ops.Read slot m.offset m.count)) at; is = some-ok r _ b }
  begun-in modes.C lane slot moment m old o r there at (inr b) = absurd (let no_way : Ok r ≡ Err faults.Memory = b in cc)
  begun-in modes.X lane slot moment m old o r there at (inl b) =
      record { o = o; there = there; right = ap (may (ops.Read slot m.offset m.count)) at; is = some-ok r _ b }
  begun-in modes.X lane slot moment m old o r there at (inr b) = absurd (let no_way : Ok r ≡ Err faults.Memory = b in cc)

  begun-at : (found : Option Opened) (lane slot moment : ℕ) (m : ReadFile) (old : Shelf) (r : Reading) → finite.get old.opens (lane, slot) ≡ found
      → reads.Begins (reads.begun_at found moment m old.back) (Ok r) → BegunAs lane slot moment m old r
  begun-at None lane slot moment m old r there b = absurd (let no_way : Ok r ≡ Err faults.Slot = b in cc)
  begun-at (Some o) lane slot moment m old r there b = begun-in o.mode lane slot moment m old o r there refl b

  module _ (h : List Entry) (lane line slot offset count : ℕ) (old : Shelf) (given : Given modes_ h lane old) where
    abbrev later : List Entry
    later = h ++ Began lane line (ops.Read slot offset count) ∷ []

    begins-at : (rsize : ℕ) (noac : Bool) (moment : ℕ) (r : Reading)
        → BegunAs lane slot moment (record { lane = lane; slot = slot; offset = offset; count = count; rsize = rsize; noac = noac; reading = None }) old r
        → (p : HasPassed mo setup (AllOf mo setup modes_ H V W) later (length h) old) → p.before ≡ h → ReadAt mo setup modes_ (AllOf mo setup modes_ H V W) (sounds mo setup modes_ H V W) later (length h) (ops.Read slot offset count) offset count r
    begins-at rsize noac moment r b passed place = subst (ReadAt mo setup modes_ (AllOf mo setup modes_ H V W) (sounds mo setup modes_ H V W) later (length h) (ops.Read slot offset count) offset count) (sym b.is) (record {
      of = record {
        lane = k.lane;
        line = k.line;
        slot = k.slot;
        open_at = k.held.x;
        began = k.began;
        works_on = k.works_on;
        holds = k.held.holds;
      };
      at = refl;
      space = refl;
      was = record { back = old.back; passed = record { shelf = old; passed = passed; same = refl }; at = ap (λ (k : List Entry). length k) place; is = refl };
      start = omega arith;
      reaches = begins-reach offset count;
      framed = framed-begins setup.pages modes_ later (length h) b.o.file offset count;
      base = λ j v is. absurd (let no_way : None ≡ Some v = is in cc);
      aligned = first noac;
    })
      where
        k : Held modes_ later (length h) (ops.Read slot offset count)
        k = held-begins modes_ h lane line slot (ops.Read slot offset count) b.o old given refl b.there b.right

        first : (n : Bool) → AlignedIn setup.pages modes_ later (length h) b.o.file (reads.first_phase n) (nothing_of offset count)
        first true = (0, refl)
        first false = (0, refl)

    starts-with : (begun : Result Reading Fault) (rsize : ℕ) (noac : Bool) → noac ≡ modes_.noac → (turn : Turn) (next : Step) (k : ReadFile) (after_ : Pages) (f : FileMachine) (new : Machine) → new ≡ machines.File f
        → f ≡ files.Read k → (p : HasPassed mo setup (AllOf mo setup modes_ H V W) later (length h) old) → p.before ≡ h → Good setup.pages later old.pages
        → reads.Begins (reads.begun_at (finite.get old.opens (lane, slot)) (turn.moment - 1)
        (record { lane = lane; slot = slot; offset = offset; count = count; rsize = rsize; noac = noac; reading = None }) old.back) begun
        → reads.StartsWith begun turn.room (record { lane = lane; slot = slot; offset = offset; count = count; rsize = rsize; noac = noac; reading = None }) old.pages old.back next k after_
        → ThenState later (length h) (ops.Read slot offset count) offset count next new
    starts-with (Err fault) rsize noac same turn next k after_ f new is at passed place good b s =
        subst (λ n. ThenState later (length h) (ops.Read slot offset count) offset count n new) (sym s.step) (λ bytes no_way. absurd cc)
    starts-with (Ok r) rsize noac same turn next k after_ f new is at passed place good b s =
        let begun_ = begun-at (finite.get old.opens (lane, slot)) lane slot (turn.moment - 1) _ old r refl b in
        goes-from later (length h) (ops.Read slot offset count) offset count turn.room _ old r next k after_ f new is at
        (begins-at rsize noac (turn.moment - 1) r begun_ passed place)
        (λ far. good-passed mo setup modes_ H V W later (length h) r.file old good passed (λ asks_. absurd (not-far noac (same ∙ asks_) (subst (λ (p : Phase). past p ≡ true) (ap (λ (z : Reading). z.phase) begun_.is) far)))) passed s
      where
        not-far : (b : Bool) → b ≡ true → past (reads.first_phase b) ≡ true → ⊥
        not-far true is_ far_ = cc
        not-far false is_ far_ = cc

-- ---- the laws

module _ (mounted : Mounted) (modes_ : Modes) (same_noac : mounted.noac ≡ modes_.noac) (setup : Setup) (H : List Entry) (V : View) (W : List Entry → View → Type 0) where
  abbrev mo : ℕ → Op → Machine
  mo = machine_of mounted

  starts-read : (h : List Entry) (lane line slot offset count wsize : ℕ) (turn : Turn) (old : Shelf) (next : Step) (new : Machine) (after : Shelf) → Given modes_ h lane old
      → (p : HasPassed mo setup (AllOf mo setup modes_ H V W) (h ++ Began lane line (ops.Read slot offset count) ∷ []) (length h) old) → p.before ≡ h → Good setup.pages (h ++ Began lane line (ops.Read slot offset count) ∷ []) old.pages
      → Starts wsize (machine_of mounted lane (ops.Read slot offset count)) turn old next new after
      → ThenState mo setup modes_ H V W (h ++ Began lane line (ops.Read slot offset count) ∷ []) (length h) (ops.Read slot offset count) offset count next new
  starts-read h lane line slot offset count wsize turn old next new after given passed place good s =
      starts-with mo setup modes_ H V W h lane line slot offset count old given s.step.step.reading mounted.rsize mounted.noac same_noac turn next s.step.machine after.pages s.machine new s.machine_is
      s.step.machine_is passed place good s.step.step.begins s.step.step.goes

  -- what is known of the read in a view in which it is under way
  asked-of : modes_.noac ≡ true → (before : List Entry) (view : View) (x : ℕ) (op : Op) (machine : Machine) → RunsIn before view x op machine → All setup modes_ before view
      → (slot offset count : ℕ) → op ≡ ops.Read slot offset count → (m : ReadFile) (r : Reading) → machine ≡ machines.File (files.Read m) → m.reading ≡ Some r → marked.AskedSo before view x r
  asked-of noac before view x op machine runs good slot offset count is m r at there =
      let story = good.ours.lanes runs.at (record { number = runs.number; state = Busy machine }) runs.there x op runs.under_way in
      let k : ReadIn (marked.AskedSo before view x) machine =
      subst (λ (b : Bool). marked.Story modes_ before view x (marked.kind_of b (ops.Read slot offset count)) (Busy machine)) noac
      (subst (λ (o : Op). marked.Story modes_ before view x (marked.kind_of modes_.noac o) (Busy machine)) is story) in
      subst (marked.AskedSo before view x) (same-reading k.m m k.r r (sym k.is ∙ at) k.reading there) k.told
    where
      same-file : (a b : ReadFile) → machines.File (files.Read a) ≡ machines.File (files.Read b) → a ≡ b
      same-file a b e = cc

      some-reading : (a b : Reading) → Some a ≡ Some b → a ≡ b
      some-reading a b e = cc

      same-reading : (a b : ReadFile) (p q : Reading) → machines.File (files.Read a) ≡ machines.File (files.Read b) → a.reading ≡ Some p → b.reading ≡ Some q → p ≡ q
      same-reading a b p q e at_a at_b = some-reading p q (sym at_a ∙ ap (λ (z : ReadFile). z.reading) (same-file a b e) ∙ at_b)

  laws : BondLaws mo setup (AllOf mo setup modes_ H V W) Both (Given modes_) (GoodShelf setup.pages) (Story mo setup modes_ H V W)
  laws = record {
    starts = λ h lane line op wsize turn old next new after given passed place good late s. record {
      kept = pages-starts (Good setup.pages (h ++ Began lane line op ∷ [])) (quiet-good setup.pages (h ++ Began lane line op ∷ [])) (mo lane op) wsize turn old next new after s good;
      then_ = then-story mo setup modes_ H V W (h ++ Began lane line op ∷ []) (length h) op next new (λ slot offset count is.
          subst (λ (o : Op). Starts wsize (machine_of mounted lane o) turn old next new after
          → (p : HasPassed mo setup (AllOf mo setup modes_ H V W) (h ++ Began lane line o ∷ []) (length h) old) → p.before ≡ h
          → Good setup.pages (h ++ Began lane line o ∷ []) old.pages → ThenState mo setup modes_ H V W (h ++ Began lane line o ∷ []) (length h) o offset count next new) (sym is)
          (λ starts has place_ good. starts-read h lane line slot offset count wsize turn old next new after given has place_ good starts) s passed place good);
    };
    resumes = λ h x op machine wsize turn old next new after good passed runs within late story r. record {
      kept = pages-resumes (Good setup.pages h) (quiet-good setup.pages h) machine wsize turn old next new after r good;
      then_ = then-story mo setup modes_ H V W h x op next new (λ slot offset count is.
          let k = story slot offset count is in
          let moved : Resumes wsize (machines.File (files.Read k.m)) turn old next new after = subst (λ (n : Machine). Resumes wsize n turn old next new after) k.is r in
          resumes-in mo setup modes_ H V W h x op offset count k.m.reading k.m k.r turn.room old next moved.step.machine after.pages moved.machine new k.reading moved.machine_is
          moved.step.machine_is k.at
          (λ far. good-passed mo setup modes_ H V W h x k.r.file old good passed
          (λ noac. (k.r.moment, (asked-of noac passed.before passed.view x op machine runs passed.good.good slot offset count is k.m k.r k.is k.reading).marked far))) passed moved.step.step);
    };
    takes = λ h x op machine call wsize sent turn came old next new after good within late story on told t. record {
      kept = takes-good setup.pages h machine call wsize sent turn came old next new after on.1
          (λ reply is. let w = (told reply is).0 in (from-start h w.since.told.since call reply w.since.told.answered, w.link)) t good;
      then_ = then-story mo setup modes_ H V W h x op next new (λ slot offset count is.
          let k = story slot offset count is in
          let moved : Takes wsize (machines.File (files.Read k.m)) sent turn came old next new after = subst (λ (n : Machine). Takes wsize n sent turn came old next new after) k.is t in
          let awaits : ReadAwaits k.m.reading call = subst (λ (n : Machine). PageAwaits n call) k.is on.1 in
          let asked : PartAwaits k.r call = subst (λ (o : Option Reading). ReadAwaits o call) k.reading awaits in
          let reads_on : ReadOn k.m.reading call = subst (λ (n : Machine). Asks n call) k.is on.0 in
          let mine : IsOn k.r.file call = subst (λ (o : Option Reading). ReadOn o call) k.reading reads_on in
          takes-in mo setup modes_ H V W h x op offset count k.m.reading k.m k.r call sent turn came old.repeats old next moved.step.machine after.pages moved.machine new k.reading
          moved.machine_is moved.step.machine_is k.at good asked mine (λ reply got. (told reply got).0)
          (λ reply got noac. let w = told reply got in asked-of noac w.0.passed.before w.0.passed.view x op machine w.1 w.0.passed.good.good slot offset count is k.m k.r k.is k.reading) moved.step.step);
    };
    still = λ h e shelf good. good-grows setup.pages h e shelf.pages good;
    grows = λ h e x op state story slot offset count is. state-grows mo setup modes_ H V W h e x op offset count state (story slot offset count is);
    lost = λ h x op shown slot offset count is. λ bytes no_way. absurd cc;
  }

-- the answer of a read, by the history until then
pub record HadRead (mo : ℕ → Op → Machine) (setup : Setup) (modes_ : Modes) (H : List Entry) (V : View) (W : List Entry → View → Type 0) (h : List Entry) (x y : ℕ) (op : Op) (offset count : ℕ) (bytes : List ℕ) : Type 0 where
  pub before : List Entry
  pub after : List Entry
  pub is : h ≡ before ++ after
  pub there : length before ≡ y
  pub shown : ReadShown setup.pages (AllOf mo setup modes_ H V W) modes_ before x op offset count bytes

pub had-read : (m : Mounted) (terms : Terms) (setup : Setup) (h : List Entry) (v : View) → GoesWith m terms setup h v → m.noac ≡ terms.modes.noac
    → (terms.modes.nocto ≡ true → LastAtMost setup.lives terms.modes.longest)
    → (W : List Entry → View → Type 0) → KeepsWatching (machine_of m) setup W → (lane x slot offset count y : ℕ) (bytes : List ℕ)
    → Ended h lane x (ops.Read slot offset count) y (answers.Done (values.Bytes bytes))
    → HadRead (machine_of m) setup terms.modes h v W h x y (ops.Read slot offset count) offset count bytes
had-read m terms setup h v g noac lasts W watching lane x slot offset count y bytes ended =
    let s = reached-answered m setup h v (All setup terms.modes)
    (of-moments (machine_of m) setup (All setup terms.modes) (keeps-all m terms.modes setup
    (subst (λ (b : Bool). KeepsMoments (machine_of m) setup (marked.Good b terms.modes)) noac (marked.keeps-good m terms.modes g.nocto setup lasts)))) W watching Both both-asks (Given terms.modes) (GoodShelf setup.pages)
    (Story (machine_of m) setup terms.modes h v W) (laws m terms.modes noac setup h v W)
    (λ k w lane r found other. is-given terms.modes m g.nocto setup k w r found lane other) (λ k w fresh. first-good setup.pages k w.shelf.pages fresh.pages fresh.sound) h v g.reaches (onward.stays h v refl refl) lane x
    (ops.Read slot offset count) y (answers.Done (values.Bytes bytes)) ended in
    record { before = s.before; after = s.after; is = s.is; there = s.there; shown = s.story slot offset count refl bytes refl }
