-- Each place of the table of hidden files is one where a remove has hidden its file, and so is each of which a close removes it.
use Rattle.core_session.proofs.Prelude.{◌≡◌, ◌⊎◌, inl, inr, ℕ, Bool, true, false, List, [], ◌∷◌, ◌++◌, length, Option, Some, None, slice_get, Result, Ok, Err, refl, sym, ap, subst, ◌∙◌, arith, DirKept, Wcc, Waiting, waiting_at, Fault, Entry, Began, Delivered, Call, Reply, Op, At, Asked, SpellsCall, SpellsReply, UnderWay, Asked-grow, Asked-wide, At-grow, Says, Step, Shelf, Turn, Closing, Deed, Move, RemoveFile, moved_told, Mounted, FileMachine, Machine, NameMachine, front_of, last_of, machine_of, Purpose, State, Busy, Over, Setup, View, Reaches, IsOutstanding, Awaits, awaits-laws, begins-unbegun, LeadsTo, end-leads, leads-later, RemoveAwaits, Did, Expects, expects-laws, RemoveRuns, NoCall, CameOf, heard_of, unmade, SlotLaws}
use Rattle.name_ops.specs.Moving.{move_call}
use Rattle.core_answers.proofs.asks.RemoveSteps.{HasDeed}
use Rattle.core_answers.proofs.refusals.Answering.{IsSeen, IsToldOf, AllGood, reached-good}
use Rattle.std.specs.FinMap as finite
use Rattle.std.specs.Ordering.{nat_cmp}
use Rattle.std.specs.Cmp.Lexicographic.{slice_cmp}
use Rattle.nfs_dir_calls.specs.declared.keeping.DirKept.TheVariants as kept
use Rattle.world_model.specs.declared.message.Reply.TheVariants as replies
use Rattle.world_model.specs.declared.op.Op.TheVariants as ops
use Rattle.claims.specs.Hidden.{IsHidden}
use Rattle.client_shelf.specs.declared.step.Step.TheVariants as nexts
use Rattle.file_ops.specs.declared.close_file.Closing.TheVariants as closing
use Rattle.file_ops.specs.Closings.{Places}
use Rattle.name_ops.specs.Looking.{look_up}
use Rattle.name_ops.specs.RemoveFile as removals
use Rattle.op_machines.specs.declared.file_machine.FileMachine.TheVariants as files
use Rattle.op_machines.specs.declared.machine.Machine.TheVariants as machines
use Rattle.op_machines.specs.declared.name_machine.NameMachine.TheVariants as names
use Rattle.core_facts.proofs.Tales.{reached-good as tales-good}
use Rattle.core_answers.proofs.asks.RemoveAsks as removes
use Rattle.core_session.proofs.hidden.MoveTales.{Gave, SomeGave, GaveBefore, reached-gave}
use Rattle.core_session.proofs.hidden.Places.{WasHidden, hidden-later}
use Rattle.core_session.proofs.hidden.SillyNames.{Moved}
use Rattle.core_session.proofs.hidden.SillySteps.{AllHidden, CloseHas, FileHas, Removes, Left, starts-silly, resumes-silly, takes-silly, added-was}

-- ---- as a reply comes

-- What is known of a remove that takes a hidden name, as the reply to its RENAME comes: this was sent at the place `from`.
pub record TakesName (top : List ℕ) (h : List Entry) (x : ℕ) (op : Op) (m : RemoveFile) (from : ℕ) (file to : List ℕ) : Type 0 where
  pub lane : ℕ
  pub line : ℕ
  pub path : List (List ℕ)
  pub began : At h x (Began lane line (ops.Remove path))
  pub hidden : IsHidden to
  pub name_is : m.name ≡ last_of path
  pub leads : LeadsTo top h (front_of path) m.walk.spot.dir
  pub gave : Gave h x from m.walk.spot.dir (last_of path) file

abbrev pub NameSeen : List ℕ → List Entry → ℕ → Op → ℕ → NameMachine → Type 0
NameSeen top h x op from (names.Remove m) = (file to : List ℕ) → m.deed ≡ Some (Move file to) → TakesName top h x op m from file to
NameSeen top h x op from (names.Change m) = Unit {0}
NameSeen top h x op from (names.Stat m) = Unit {0}
NameSeen top h x op from (names.Access m) = Unit {0}
NameSeen top h x op from (names.ReadLink m) = Unit {0}
NameSeen top h x op from (names.Rename m) = Unit {0}
NameSeen top h x op from (names.Link m) = Unit {0}
NameSeen top h x op from (names.SymLink m) = Unit {0}
NameSeen top h x op from (names.List m) = Unit {0}

abbrev pub MachineSeen : List ℕ → List Entry → ℕ → Op → ℕ → Machine → Type 0
MachineSeen top h x op from (machines.File m) = Unit {0}
MachineSeen top h x op from (machines.Path m) = Unit {0}
MachineSeen top h x op from (machines.Name m) = NameSeen top h x op from m

module _ (m : Mounted) where
  abbrev pub Seen : List Entry → ℕ → Op → Machine → ℕ → Turn → Call → Shelf → Type 0
  Seen h x op machine from sent call shelf = MachineSeen m.root h x op from machine

  same-remove : (a b : RemoveFile) → machines.Name (names.Remove a) ≡ machines.Name (names.Remove b) → a ≡ b
  same-remove a b e = cc

  module _ (setup : Setup) (h : List Entry) (v : View) (r : Reaches (machine_of m) setup h v) (xid : ℕ) (w : Waiting Purpose) (waits : waiting_at xid v.calls.calls ≡ Some w) (at : ℕ)
      (x : ℕ) (op : Op) (u : UnderWay h w.purpose.lane x (length h) op) (from : ℕ) (o : IsOutstanding h xid w.bytes from) (rec : List ℕ) where
    abbrev Later : List Entry
    Later = h ++ Delivered rec ∷ []

    -- its path, as it was found, and the file
    takes-name : (s : RemoveFile) (file to : List ℕ) → slice_get v.lanes at ≡ Some (record { number = w.purpose.lane; state = Busy (machines.Name (names.Remove s)) }) → s.deed ≡ Some (Move file to)
        → TakesName m.root Later x op s from file to
    takes-name s file to there deed = record {
      lane = w.purpose.lane;
      line = u.line;
      path = path;
      began = At-grow h (Delivered rec ∷ []) x (Began w.purpose.lane u.line (ops.Remove path)) (subst (λ (p : Op). At h x (Began w.purpose.lane u.line p)) is u.began);
      hidden = has.0.0;
      name_is = ap (λ (n : RemoveFile). n.name) same ∙ runs.story.name_is;
      leads = leads-later m.root h (Delivered rec) (front_of path) s.walk.spot.dir
          (subst (λ (n : RemoveFile). LeadsTo m.root h (front_of path) n.walk.spot.dir) (sym same) (end-leads m.root h (front_of path) runs.m.walk runs.story.walk has.1));
      gave = record {
        attr = given.attr;
        dir = given.dir;
        asked = Asked-wide Later x before.place x from (look_up s.walk.spot.dir (last_of path)) (replies.Dir (kept.Lookup file given.attr given.dir)) (omega arith)
            (before.sent xid w waits refl from w.bytes o.sent.sent o.sent.under)
            (Asked-grow h (Delivered rec ∷ []) x before.place (look_up s.walk.spot.dir (last_of path)) (replies.Dir (kept.Lookup file given.attr given.dir))
            (subst (λ (n : List ℕ). Asked h x before.place (look_up s.walk.spot.dir n) (replies.Dir (kept.Lookup file given.attr given.dir)))
            (ap (λ (n : RemoveFile). n.name) same ∙ runs.story.name_is) given.asked));
      };
    }
      where
        before : GaveBefore h v w.purpose.lane x op (machines.Name (names.Remove s))
        before = reached-gave m setup h v r at w.purpose.lane (machines.Name (names.Remove s)) there x op u

        path : List (List ℕ)
        path = before.gave.0.0

        is : op ≡ ops.Remove path
        is = before.gave.0.1

        given : Gave h x before.place s.walk.spot.dir s.name file
        given = subst (λ (d : Option Deed). SomeGave h before.place x s.walk.spot.dir s.name d) deed before.gave.1

        runs : RemoveRuns m.root h x (front_of path) (last_of path) (machines.Name (names.Remove s))
        runs = ((tales-good (machine_of m) (begins-unbegun m) setup Expects expects-laws NoCall (removes.Shelved m) (removes.RemoveStory m) (removes.remove-laws m setup) h v r).each at
            (record { number = w.purpose.lane; state = Busy (machines.Name (names.Remove s)) }) there).1 x op u path is

        same : s ≡ runs.m
        same = same-remove s runs.m runs.is

        has : HasDeed m.root h x (front_of path) (last_of path) (Some (Move file to)) runs.m.walk
        has = subst (λ (d : Option Deed). HasDeed m.root h x (front_of path) (last_of path) d runs.m.walk) (ap (λ (n : RemoveFile). n.deed) (sym same) ∙ deed) runs.story.deed

    name-seen : (n : NameMachine) → slice_get v.lanes at ≡ Some (record { number = w.purpose.lane; state = Busy (machines.Name n) }) → NameSeen m.root Later x op from n
    name-seen (names.Remove s) there = λ file to deed. takes-name s file to there deed
    name-seen (names.Change s) there = tt
    name-seen (names.Stat s) there = tt
    name-seen (names.Access s) there = tt
    name-seen (names.ReadLink s) there = tt
    name-seen (names.Rename s) there = tt
    name-seen (names.Link s) there = tt
    name-seen (names.SymLink s) there = tt
    name-seen (names.List s) there = tt

    machine-seen : (machine : Machine) → slice_get v.lanes at ≡ Some (record { number = w.purpose.lane; state = Busy machine }) → MachineSeen m.root Later x op from machine
    machine-seen (machines.File f) there = tt
    machine-seen (machines.Path p) there = tt
    machine-seen (machines.Name n) there = name-seen n there

  pub sees : (setup : Setup) → IsSeen (machine_of m) setup Seen
  sees setup h v r found may xid w waits made at machine there x op u from o rec = machine-seen setup h v r xid w waits at x op u from o rec machine there

  -- ---- where a remove has hidden its file

  abbrev pub Hidden : List Entry → List ℕ → List ℕ → List ℕ → Type 0
  Hidden h f d name = WasHidden m.root h f d name

  module _ (h : List Entry) (x : ℕ) (op : Op) (s : RemoveFile) (sent turn : Turn) (came : Result Reply Fault) (old : Shelf) where
    -- the reply to its RENAME
    renames : (file to : List ℕ) (told : IsToldOf Seen Awaits NoCall h x op (machines.Name (names.Remove s)) sent came old) → s.deed ≡ Some (Move file to) → (source target : Wcc)
        → came ≡ Ok (replies.Dir (kept.Rename source target)) → Hidden h file s.walk.spot.dir to
    renames file to told deed source target is = record {
      x = x;
      lane = k.lane;
      line = k.line;
      path = k.path;
      attr = k.gave.attr;
      dir = k.gave.dir;
      source = source;
      target = target;
      began = k.began;
      hidden = k.hidden;
      leads = k.leads;
      renamed = record {
        xid = told.now.xid;
        bytes = told.now.rec;
        heard = record {
          sent_at = told.now.heard.sent_at;
          record_sent = told.now.heard.record_sent;
          got_at = told.now.heard.got_at;
          sent = told.now.heard.sent;
          spells = subst (λ (c : Call). SpellsCall told.now.xid c told.now.heard.record_sent) call_is told.now.heard.spells;
          got = told.now.heard.got;
          after = told.now.heard.after;
          later = told.now.heard.later;
          before = told.now.heard.before;
        };
        spells = subst (λ (c : Call). SpellsReply told.now.xid c (replies.Dir (kept.Rename source target)) told.now.rec) call_is spelt;
      };
      gave = k.gave.asked;
    }
      where
        k : TakesName m.root h x op s told.now.heard.sent_at file to
        k = told.seen file to deed

        awaits : RemoveAwaits (Some (Move file to)) s told.call
        awaits = subst (λ (d : Option Deed). RemoveAwaits d s told.call) deed told.expects

        call_is : told.call ≡ move_call s.walk.spot.dir (last_of k.path) s.walk.spot.dir to
        call_is = awaits ∙ ap (λ (n : List ℕ). move_call s.walk.spot.dir n s.walk.spot.dir to) k.name_is

        spelt : SpellsReply told.now.xid told.call (replies.Dir (kept.Rename source target)) told.now.rec
        spelt = (subst (λ (c : Result Reply Fault). Says told.now.xid told.call told.now.rec c) is told.now.says).is

    -- all as before, or where the reply tells of no refusal the file's place is new
    keeps : (file to : List ℕ) (again : Bool) (refusal : Option Fault) (next : Step) (was after : Places) → (refusal ≡ None → Hidden h file s.walk.spot.dir to)
        → removals.EndsMove again refusal file to s was next after → AllHidden (Hidden h) was → AllHidden (Hidden h) after
    keeps file to true refusal next was after new e all = subst (AllHidden (Hidden h)) (sym e.1) all
    keeps file to false (Some fault) next was after new e all = subst (AllHidden (Hidden h)) (sym e.1) all
    keeps file to false None next was after new (inr e) all = subst (AllHidden (Hidden h)) (sym e.1) all
    keeps file to false None next was after new (inl e) all = subst (AllHidden (Hidden h)) (sym e.1) (λ f d name at. by f d name (added-was was file f (s.walk.spot.dir, to) (d, name) at))
      where
        place-is : (f d name : List ℕ) → f ≡ file → ◌≡◌ {A = List ℕ × List ℕ} (d, name) (s.walk.spot.dir, to) → Hidden h f d name
        place-is f d name same is =
            subst (λ (q : List ℕ × List ℕ). Hidden h f q.0 q.1) (sym is) (subst (λ (g : List ℕ). Hidden h g s.walk.spot.dir to) (sym same) (new refl))

        by : (f d name : List ℕ) → ((f ≡ file) × ◌≡◌ {A = List ℕ × List ℕ} (d, name) (s.walk.spot.dir, to)) ⊎ (finite.get was f ≡ Some (d, name)) → Hidden h f d name
        by f d name (inl now) = place-is f d name now.0 now.1
        by f d name (inr there) = all f d name there

  -- no refusal: the RENAME was answered 0
  renamed-by : (came : Result Reply Fault) → (moved_told came).refusal ≡ None → (source : Wcc) × (target : Wcc) × (came ≡ Ok (replies.Dir (kept.Rename source target)))
  renamed-by (Ok (replies.Dir reply)) none = by reply refl none
    where
      by : (r : DirKept) → r ≡ reply → (moved_told (Ok (replies.Dir r))).refusal ≡ None
          → (source : Wcc) × (target : Wcc) × ◌≡◌ {A = Result Reply Fault} (Ok (replies.Dir reply)) (Ok (replies.Dir (kept.Rename source target)))
      by (kept.Rename source target) same e = (source, target, ap (λ (r : DirKept). Ok (replies.Dir r)) (sym same))
      by (kept.RenameFail status source target) same e = absurd (cc)
      by r same e = absurd (cc)
  renamed-by (Ok (replies.File reply)) none = absurd (cc)
  renamed-by (Ok (replies.Mount reply)) none = absurd (cc)
  renamed-by (Err fault) none = absurd (cc)

  moved-hidden : (h : List Entry) (x : ℕ) (op : Op) (s : RemoveFile) (sent turn : Turn) (came : Result Reply Fault) (old : Shelf) (next : Step) (after : Shelf)
      → CameOf Seen Awaits NoCall h x op (machines.Name (names.Remove s)) sent came old → Moved s sent turn came old next after → AllHidden (Hidden h) old.silly
      → AllHidden (Hidden h) after.silly
  moved-hidden h x op s sent turn came old next after told k all =
      keeps h x op s sent turn came old k.file k.to (removals.move_again sent turn came old) (moved_told came).refusal next old.silly after.silly (λ none. by told (renamed-by came none)) k.ends all
    where
      by : CameOf Seen Awaits NoCall h x op (machines.Name (names.Remove s)) sent came old → (source : Wcc) × (target : Wcc) × (came ≡ Ok (replies.Dir (kept.Rename source target)))
          → Hidden h k.file s.walk.spot.dir k.to
      by (heard_of now) r = renames h x op s sent turn came old k.file k.to now k.deed_is r.0 r.1 r.2
      by (unmade call e fault is why) r =
          absurd (let no_way : ◌≡◌ {A = Result Reply Fault} (Err fault) (Ok (replies.Dir (kept.Rename r.0 r.1))) = sym is ∙ r.2 in cc)

  -- ---- the story

  abbrev pub PlacesKept : List Entry → Shelf → Type 0
  PlacesKept h shelf = AllHidden (Hidden h) shelf.silly

  abbrev pub RemovesHidden : List Entry → ℕ → Op → State → Type 0
  RemovesHidden h x op (Busy machine) = Removes (Hidden h) machine
  RemovesHidden h x op (Over answer) = Unit {0}

  abbrev pub NoLane : List Entry → ℕ → Shelf → Type 0
  NoLane h lane shelf = Unit {0}

  did : (h : List Entry) (x : ℕ) (op : Op) (next : Step) (new : Machine) (after : Shelf) → Left (Hidden h) new after → Did NoCall PlacesKept RemovesHidden h x op next new after
  did h x op (nexts.Send call) new after k = record { shelf = k.0; asks = tt; then_ = k.1 }
  did h x op nexts.Wait new after k = record { shelf = k.0; asks = tt; then_ = k.1 }
  did h x op (nexts.Done answer) new after k = record { shelf = k.0; asks = tt; then_ = tt }

  begun-removes : (B : List ℕ → List ℕ → List ℕ → Type 0) (lane : ℕ) (op : Op) → Removes B (machine_of m lane op)
  begun-removes B lane (ops.OpenFile slot mode path) = tt
  begun-removes B lane (ops.Read slot offset count) = tt
  begun-removes B lane (ops.Write slot offset bytes) = tt
  begun-removes B lane (ops.Fill slot offset count byte) = tt
  begun-removes B lane (ops.Put path offset bytes) = tt
  begun-removes B lane (ops.Sync slot) = tt
  begun-removes B lane (ops.Close slot) = tt
  begun-removes B lane (ops.Truncate slot size) = tt
  begun-removes B lane (ops.Stat path) = tt
  begun-removes B lane (ops.Access path bits) = tt
  begun-removes B lane (ops.MakeDir path) = tt
  begun-removes B lane (ops.RemoveDir path) = tt
  begun-removes B lane (ops.Remove path) = tt
  begun-removes B lane (ops.Rename from to) = tt
  begun-removes B lane (ops.Link from to) = tt
  begun-removes B lane (ops.SymLink path target) = tt
  begun-removes B lane (ops.ReadLink path) = tt
  begun-removes B lane (ops.List path) = tt

  places-later : (h : List Entry) (e : Entry) (places : Places) → AllHidden (Hidden h) places → AllHidden (Hidden (h ++ e ∷ [])) places
  places-later h e places all f d name at = hidden-later m.root h e f d name (all f d name at)

  close-later : (h : List Entry) (e : Entry) (state : Closing) → CloseHas (Hidden h) state → CloseHas (Hidden (h ++ e ∷ [])) state
  close-later h e closing.Idle k = tt
  close-later h e (closing.Queued saving) k = tt
  close-later h e (closing.Saves saving) k = tt
  close-later h e (closing.ToRemove removal) k = hidden-later m.root h e removal.file removal.dir removal.name k
  close-later h e (closing.Removing removal) k = hidden-later m.root h e removal.file removal.dir removal.name k

  file-later : (h : List Entry) (e : Entry) (f : FileMachine) → FileHas (Hidden h) f → FileHas (Hidden (h ++ e ∷ [])) f
  file-later h e (files.Close c) k = close-later h e c.state k
  file-later h e (files.Open c) k = tt
  file-later h e (files.Read c) k = tt
  file-later h e (files.Write c) k = tt
  file-later h e (files.Sync c) k = tt
  file-later h e (files.Truncate c) k = tt
  file-later h e (files.Put c) k = tt

  removes-later : (h : List Entry) (e : Entry) (x : ℕ) (op : Op) (state : State) → RemovesHidden h x op state → RemovesHidden (h ++ e ∷ []) x op state
  removes-later h e x op (Busy (machines.File f)) k = file-later h e f k
  removes-later h e x op (Busy (machines.Path p)) k = tt
  removes-later h e x op (Busy (machines.Name n)) k = tt
  removes-later h e x op (Over answer) k = tt

  none-there : (B : List ℕ → List ℕ → List ℕ → Type 0) (places : Places) → places ≡ finite.empty → AllHidden B places
  none-there B places is f d name at =
      absurd (let no_way : None ≡ Some (d, name) = sym (finite.get-empty (slice_cmp nat_cmp) f) ∙ ap (λ (p : Places). finite.get p f) (sym is) ∙ at in cc)

  module _ (setup : Setup) where
    pub hidden-laws : SlotLaws NoLane Seen (machine_of m) setup Awaits NoCall PlacesKept RemovesHidden
    hidden-laws = record {
      fresh = λ h v up fresh. none-there (Hidden h) v.shelf.silly fresh.silly;
      starts = λ h lane line op wsize turn old next new after given kept s.
          let later : List Entry = h ++ Began lane line op ∷ [] in
          did later (length h) op next new after (starts-silly (Hidden later) wsize (machine_of m lane op) turn old next new after s kept (begun-removes (Hidden later) lane op));
      resumes = λ h x op machine wsize turn old next new after kept story r. did h x op next new after (resumes-silly (Hidden h) wsize machine turn old next new after r kept story);
      takes = λ h x op machine wsize sent turn came old next new after others kept story one told t.
          did h x op next new after
          (takes-silly (Hidden h) wsize machine sent turn came old next new after t
          (λ s is k. moved-hidden h x op s sent turn came old next after (subst (λ (n : Machine). CameOf Seen Awaits NoCall h x op n sent came old) is told) k kept) kept story);
      still = λ h e shelf kept. places-later h e shelf.silly kept;
      waits = λ h e x op call w. tt;
      grows = λ h e x op state quiet story. removes-later h e x op state story;
      lost = λ h x op shown. tt;
    }

    abbrev pub HiddenGood : List Entry → View → Type 0
    HiddenGood h v = AllGood (machine_of m) (begins-unbegun m) setup NoLane (λ g w t found number other. tt) Seen (sees setup) Awaits awaits-laws NoCall PlacesKept RemovesHidden hidden-laws h v

    pub reached-hidden : (h : List Entry) (v : View) → Reaches (machine_of m) setup h v → HiddenGood h v
    reached-hidden h v r =
        reached-good (machine_of m) (begins-unbegun m) setup NoLane (λ g w t found number other. tt) Seen (sees setup) Awaits awaits-laws NoCall PlacesKept RemovesHidden hidden-laws h v r
