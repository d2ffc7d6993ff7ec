-- One place of a file along a history: from a moment at which a byte is known there, it stays pending under its number or is covered by a WRITE, or a later operation took it away.
use Rattle.core_counts.proofs.Prelude.{◌≡◌, ◌≤◌, ◌<◌, ◌⊎◌, inl, inr, ℕ, false, List, [], ◌∷◌, ◌++◌, length, Some, None, position, slice_get, refl, sym, ap, subst, ◌∙◌, arith, xid_at, Waiting, waiting_at, Answer, Fault, Value, Entry, Began, Answered, Delivered, Op, At, IsBusy, EndsAt, UnderWay, IsOf, Terms, CoveredEarlier, At-grow, length_last, said_of, Shelf, Mounted, Machine, machine_of, Fits, Lane, Purpose, State, Busy, Over, Setup, IsFresh, is_busy, IsIdle, numbers_of, AnswersAt, StartsLane, Stirs, TakesAt, counted, View, AreApart, KnowsRoot, MaySetUp, Reaches, HearsRecord, GoesWith, taken_one, Known, taker-is, Runs, LanesKnown, number_of, lanes-under-way, lanes-begin, quiet-facts, at-push, to-map, keeps-placed, stirs-stay, starts-stay, steps-stay, SameCalls, AreAsked, IsPlain, keeps-wholly, starts-wholly, Common, own_save, state-is, Saving, Story, story-turns, job_kind, Owned, Turns, Pending, of_file}
use Rattle.core_facts.specs.Reaches.{IsOpenLine}
use Rattle.core_session.proofs.drops.KnowingAlong.{NotedBefore}
use Rattle.core_session.proofs.syncs.PutGoes.{OwnAt, stirs-not, starts-not, stirs-at-save, takes-at-save, takes-still}
use Rattle.core_session.proofs.drops.LaneIs.{number-is}
use Rattle.core_session.proofs.syncs.Fate.{story-answers, story-same}
use Rattle.core_session.proofs.syncs.Turning.{under-plain, IsFixed, ready, fixed-turns, fixed-answers, fixed-same, turns-stir, turns-starts, turns-take, under-was}
use Rattle.world_model.specs.declared.answer.Answer.TheVariants as answers
use Rattle.world_model.specs.declared.op.Op.TheVariants as ops
use Rattle.world_model.specs.Leads.{Leads}
use Rattle.claims.specs.Touched.{Cuts}
use Rattle.core_session.proofs.pending.Entries.{fresh-phase}
use Rattle.core_session.proofs.syncs.Causes.{IsWriter as IsWrite}
use Rattle.core_session.proofs.syncs.Aparts.{names-next}
use Rattle.core_session.proofs.syncs.Looks.{OpView, view-of, writes, syncs, closes, puts, others}
use Rattle.core_session.proofs.syncs.PutEnds.{LastNames, last-names-later, own-last}
use Rattle.core_counts.proofs.thrift.short.PutsOwn.{OfFile, Follows, file-keeps, saves, went_well, was_refused, follows-turns, follows-same, follows-answers, save-kind}
use Rattle.core_session.proofs.syncs.Phases.{KnownBy}
use Rattle.core_session.proofs.syncs.Stages.{known-more}
use Rattle.core_counts.proofs.counts.rooms.Steps.{has-some, some-stays}
use Rattle.core_counts.proofs.counts.rooms.Whole.{owned-removed}
use Rattle.core_counts.proofs.thrift.short.PendsSteps.{busy-same, none-past, settled, Comes, Base, Told, Stepped, Loss, lost_came, lost_cut, lost_closed, lost_dropped, stirs-stepped, takes-stepped, starts-stepped}

pub covered-on : (h : List Entry) (e : Entry) (f : List ℕ) (i : ℕ) → CoveredEarlier h (length h) f i → CoveredEarlier (h ++ e ∷ []) (length (h ++ e ∷ [])) f i
covered-on h e f i c = record {
  at = c.at;
  xid = c.xid;
  bytes = c.bytes;
  call = c.call;
  sent = At-grow h (e ∷ []) c.at _ c.sent;
  spells = c.spells;
  covers = c.covers;
  earlier = (let low = c.earlier in let long = length_last h e in omega (arith, low, long));
}

abbrev pub Cov : List ℕ → ℕ → List Entry → Type 0
Cov f i h = CoveredEarlier h (length h) f i

answered-began : (a b c d : ℕ) (p : Answer) (o : Op) → Began a b o ≡ Answered c d p → ⊥
answered-began a b c d p o e = cc

answered-came : (c d : ℕ) (rec : List ℕ) (p : Answer) → Delivered rec ≡ Answered c d p → ⊥
answered-came c d rec p e = cc

module _ (mt : Mounted) (terms : Terms) (setup : Setup) (H : List Entry) (V : View) (g : GoesWith mt terms setup H V) (roots : KnowsRoot terms.origin H mt.root) (asked : AreAsked H) (f : List ℕ) (i byte n : ℕ)
    (s0 : ℕ) (W0 : Type 0) where
  abbrev pub Stays : List Entry → View → Type 0
  Stays h v = KnownBy (settled (Cov f i h)) 0 f i byte n ⊥ v.shelf.seq v.shelf.back

  abbrev pub Based : List Entry → View → Type 0
  Based = Base mt terms setup H V g roots asked f i byte n

  abbrev Tell : ℕ → ℕ → Machine → Op → Type 0
  Tell = Told mt terms setup H V g roots asked f i byte n

  abbrev pub ComesBy : ℕ → Op → Type 0
  ComesBy = Comes mt terms setup H V g roots asked f i byte n

  -- what the operation at x did to it
  pub data Bad (h : List Entry) (v : View) (x : ℕ) (op : Op) : Type 0 where
    bad_came : ComesBy x op → (IsWrite op → (value : Value) × IsFixed h v x (answers.Done value))
        → ((path : List (List ℕ)) (offset : ℕ) (bytes : List ℕ) → op ≡ ops.Put path offset bytes → Follows f x op h v) → Bad h v x op
    bad_cut : Cuts terms.modes H x f i → Bad h v x op
    bad_closed : (fault : Fault) → IsFixed h v x (answers.Refused fault) → (slot : ℕ) → op ≡ ops.Close slot → IsOf terms.modes H x (ops.Close slot) f → Bad h v x op
    bad_dropped : (fault : Fault) → IsFixed h v x (answers.Refused fault) → (path : List (List ℕ)) (offset : ℕ) (bytes : List ℕ) → op ≡ ops.Put path offset bytes
        → ((end : ℕ) → EndsAt H x end → Leads terms.origin H end path f) → Bad h v x op

  pub record Lost (h : List Entry) (v : View) : Type 0 where
    pub x : ℕ
    pub lane : ℕ
    pub line : ℕ
    pub op : Op
    pub began : At h x (Began lane line op)
    pub late : s0 < x
    pub bad : Bad h v x op

  bad-on : (h h2 : List Entry) (v u : View) (x : ℕ) (op : Op) → ((a : Answer) → IsFixed h v x a → IsFixed h2 u x a) → (Follows f x op h v → Follows f x op h2 u) → Bad h v x op → Bad h2 u x op
  bad-on h h2 v u x op on follow (bad_came c done led) = bad_came c (λ w. let d = done w in (d.0, on (answers.Done d.0) d.1)) (λ path offset bytes at. follow (led path offset bytes at))
  bad-on h h2 v u x op on follow (bad_cut c) = bad_cut c
  bad-on h h2 v u x op on follow (bad_closed fault is slot at of) = bad_closed fault (on (answers.Refused fault) is) slot at of
  bad-on h h2 v u x op on follow (bad_dropped fault is path offset bytes at leads) = bad_dropped fault (on (answers.Refused fault) is) path offset bytes at leads

  lost-on : (h h2 : List Entry) (v u : View) → ((x lane line : ℕ) (op : Op) → At h x (Began lane line op) → At h2 x (Began lane line op)) → ((x : ℕ) (a : Answer) → IsFixed h v x a → IsFixed h2 u x a)
      → ((x : ℕ) (op : Op) → Follows f x op h v → Follows f x op h2 u) → Lost h v → Lost h2 u
  lost-on h h2 v u at on follow l = record { x = l.x; lane = l.lane; line = l.line; op = l.op; began = at l.x l.lane l.line l.op l.began; late = l.late; bad = bad-on h h2 v u l.x l.op (on l.x) (follow l.x l.op) l.bad }

  pub record Phase (h : List Entry) (v : View) : Type 0 where
    pub low : s0 < length h
    pub stage : Stays h v ⊎ Lost h v
    pub late : Story (λ number x machine op. s0 < x) h v

  abbrev pub Both : List Entry → View → Type 0
  Both h v = Based h v × (W0 → Phase h v)

  stays-on : (h : List Entry) (e : Entry) (q : ℕ) (b : Pending) → KnownBy (settled (Cov f i h)) 0 f i byte n ⊥ q b → KnownBy (settled (Cov f i (h ++ e ∷ []))) 0 f i byte n ⊥ q b
  stays-on h e q b c = record {
    common = c.common;
    low = c.low;
    stage = known-more i byte n (λ k z. Unit {0}) (λ k z. Unit {0}) (λ k. Unit {0}) (λ k. Unit {0}) (λ k v. Cov f i h) (λ k v. Cov f i (h ++ e ∷ [])) (λ k. Cov f i h) (λ k. Cov f i (h ++ e ∷ [])) ⊥ ⊥ (of_file f b)
        (λ k xid flown is same z. z) (λ k st z. z) (λ k v z. covered-on h e f i z) (λ k z. covered-on h e f i z) (λ z. z) c.stage;
  }

  abbrev StepOf : Type 0 → Type 0 → View → View → ℕ → ℕ → ℕ → Op → Type 0
  StepOf C W old new at number x op = Stepped mt terms setup H V g roots asked f i byte n C W old new at number x op

  abbrev LossOf : Type 0 → Type 0 → ℕ → Op → ℕ → ℕ → List ℕ → State → Type 0
  LossOf C W x op q kind tgt state = Loss mt terms setup H V g roots asked f i byte n C W x op q kind tgt state

  -- what a step has done
  module _ (C W : Type 0) (h2 : List Entry) (new : View) (at number x line q kind : ℕ) (op : Op) (tgt : List ℕ) (state : State) (here : slice_get new.lanes at ≡ Some (record { number = number; state = state }))
      (under : UnderWay h2 number x (length h2) op) (kind_is : kind ≡ job_kind (machine_of mt number op)) (ends : kind ≡ 3 → f ≡ tgt → (value : Value) → state ≡ Over (answers.Done value) → LastNames h2 (length h2) f) where
    fixed : (answer : Answer) → state ≡ Over answer → IsFixed h2 new x answer
    fixed answer is = ready at number op (here ∙ ap (λ (s : State). Some (record { number = number; state = s })) is) under

    put-kind : (path : List (List ℕ)) (offset : ℕ) (bytes : List ℕ) → op ≡ ops.Put path offset bytes → kind ≡ 3
    put-kind path offset bytes is = kind_is ∙ by (view-of mt number op)
      where
        by : OpView mt number op → job_kind (machine_of mt number op) ≡ 3
        by (writes w k) = absurd (subst IsWrite is w)
        by (syncs slot at_ k) = absurd (let no_way : ops.Sync slot ≡ ops.Put path offset bytes = sym at_ ∙ is in cc)
        by (closes slot at_ k) = absurd (let no_way : ops.Close slot ≡ ops.Put path offset bytes = sym at_ ∙ is in cc)
        by (puts path2 offset2 bytes2 at_ k) = k
        by (others k nay saver) = ap (λ (o : Op). job_kind (machine_of mt number o)) is

    -- a put that brought bytes is at its own save of the file, or ended
    led-on : (kind ≡ 3 → (f ≡ tgt) × ((m : Machine) → state ≡ Busy m → OwnAt (λ z. z.file ≡ f) (own_save m))) → kind ≡ 3 → Follows f x op h2 new
    led-on led three = by state refl
      where
        placed_ : (s : State) → state ≡ s → slice_get new.lanes at ≡ Some (record { number = number; state = s })
        placed_ s is = here ∙ ap (λ (z : State). Some (record { number = number; state = z })) is

        by : (s : State) → state ≡ s → Follows f x op h2 new
        by (Busy m) is = saves at number m (placed_ (Busy m) is) under ((led three).1 m is)
        by (Over (answers.Done value)) is = went_well at number value (placed_ (Over (answers.Done value)) is) under (ends three (led three).0 value is)
        by (Over (answers.Refused fault)) is = was_refused fault (fixed (answers.Refused fault) is)

    bad-of : LossOf C W x op q kind tgt state → Bad h2 new x op
    bad-of (lost_came c done led) = bad_came c (λ w. let d = done w in (d.0, fixed (answers.Done d.0) d.1)) (λ path offset bytes is. led-on led (put-kind path offset bytes is))
    bad-of (lost_cut c) = bad_cut c
    bad-of (lost_closed fault is slot same of) = bad_closed fault (fixed (answers.Refused fault) is) slot same of
    bad-of (lost_dropped fault is path offset bytes same leads) = bad_dropped fault (fixed (answers.Refused fault) is) path offset bytes same leads

    lost-of : s0 < x → LossOf C W x op q kind tgt state → Lost h2 new
    lost-of low loss = record { x = x; lane = number; line = under.line; op = op; began = under.began; late = low; bad = bad-of loss }

  -- the stage after a step, where it was known or lost before
  stage-of : (C : Type 0) (h h2 : List Entry) (old new : View) (at number x : ℕ) (op : Op) (st : StepOf C (Stays h old) old new at number x op) → C ≡ C → (Stays h old ⊎ Lost h old)
      → (KnownBy (settled C) 0 f i byte n ⊥ new.shelf.seq new.shelf.back → Stays h2 new) → (LossOf C (Stays h old) x op old.shelf.seq (job_kind (machine_of mt number op)) st.tgt st.state → Lost h2 new) → (Lost h old → Lost h2 new)
      → Stays h2 new ⊎ Lost h2 new
  stage-of C h h2 old new at number x op st refl_ (inl stays) keep turn on = by (st.outcome stays)
    where
      by : KnownBy (settled C) 0 f i byte n ⊥ new.shelf.seq new.shelf.back ⊎ LossOf C (Stays h old) x op old.shelf.seq (job_kind (machine_of mt number op)) st.tgt st.state → Stays h2 new ⊎ Lost h2 new
      by (inl k) = inl (keep k)
      by (inr l) = inr (turn l)
  stage-of C h h2 old new at number x op st refl_ (inr lost) keep turn on = inr (on lost)

  -- ---- a lane goes on

  module _ (h : List Entry) (old new : View) (at : ℕ) (known : Known setup h old) (t : Stirs old at new) (b : Both h old) where
    run : IsBusy h t.number (length h)
    run = (lanes-under-way h old known.lanes).busy at (record { number = t.number; state = Busy t.machine }) t.there

    runs : Runs h t.number
    runs = known.lanes.busy at t.number (to-map number_of old.lanes at (record { number = t.number; state = Busy t.machine }) t.there)

    stepped : StepOf (Cov f i h) (Stays h old) old new at t.number run.x run.op
    stepped = stirs-stepped mt terms setup H V g roots asked f i byte n (Cov f i h) (Stays h old) h old new at known t b.0 run.x run.op run.under_way (λ k. k)

    turns : Turns f h h old new at t.number run.x run.op stepped.state
    turns = turns-stir f setup h old new at t.number t.machine stepped.state known t.there stepped.but run.x run.op run.under_way

    stirs-base : Based h new
    stirs-base = record {
      wholly = (keeps-wholly mt setup).stirs h old new at known t b.0.wholly;
      placed = (keeps-placed mt setup).stirs h old new at known t b.0.placed;
      wsize = stirs-stay has-some some-stays old new at t b.0.wsize;
      common_ = stepped.common_;
      owned = stepped.owned;
      story = story-turns f h h old new at t.number run.x run.op stepped.state turns runs Tell Tell (λ machine is. stepped.told_ machine is) (λ n z machine o off u k. k) b.0.story;
    }

    kind-was : job_kind (machine_of mt t.number run.op) ≡ 3 → job_kind t.machine ≡ 3
    kind-was three = (b.0.story at t.number t.machine run.x run.op t.there run.under_way).0 ∙ three

    -- a put that is followed
    follow : (x : ℕ) (op : Op) → Follows f x op h old → Follows f x op h new
    follow x op = follows-turns f x op h h old new at t.number run.x run.op stepped.state turns (λ y low l. l) (λ k n_ value there l. l) own
      where
        own : (n_ : ℕ) (machine : Machine) → slice_get old.lanes at ≡ Some (record { number = n_; state = Busy machine }) → UnderWay h n_ x (length h) op → OfFile f x op (own_save machine) → Follows f x op h new
        own n_ machine there u a = by stepped.state refl
          where
            same_lane : (n_ ≡ t.number) × (Busy machine ≡ Busy t.machine)
            same_lane = let e = sym there ∙ t.there in (number-is (Busy machine) (Busy t.machine) n_ t.number e, state-is (Busy machine) (Busy t.machine) n_ t.number e)

            at_own : OfFile f x op (own_save t.machine)
            at_own = subst (λ (m : Machine). OfFile f x op (own_save m)) (busy-same machine t.machine same_lane.1) a

            its : UnderWay h t.number x (length h) op
            its = subst (λ (m : ℕ). UnderWay h m x (length h) op) same_lane.0 u

            placed_ : (s : State) → stepped.state ≡ s → slice_get new.lanes at ≡ Some (record { number = t.number; state = s })
            placed_ s is = stepped.but.here ∙ ap (λ (z : State). Some (record { number = t.number; state = z })) is

            by : (s : State) → stepped.state ≡ s → Follows f x op h new
            by (Busy m) is = saves at t.number m (placed_ (Busy m) is) its (stirs-at-save (λ z. z.file ≡ f) (file-keeps f) old new at t at_own t.number stepped.state stepped.but.here m is)
            by (Over (answers.Done value)) is = absurd (stirs-not old new at t (save-kind t.machine (at_own.0, at_own.1)) t.number stepped.state stepped.but.here value is)
            by (Over (answers.Refused fault)) is = was_refused fault (ready at t.number op (placed_ (Over (answers.Refused fault)) is) its)

    stirs-phase : Phase h old → Phase h new
    stirs-phase p =
        let low = p.late at t.number t.machine run.x run.op t.there run.under_way in
        record {
          low = p.low;
          stage = stage-of (Cov f i h) h h old new at t.number run.x run.op stepped refl p.stage (λ k. k)
              (λ l. lost-of (Cov f i h) (Stays h old) h new at t.number run.x 0 old.shelf.seq (job_kind (machine_of mt t.number run.op)) run.op stepped.tgt stepped.state stepped.but.here run.under_way refl
              (λ three same value is_. absurd (stirs-not old new at t (kind-was three) t.number stepped.state stepped.but.here value is_)) low l)
              (lost-on h h old new (λ x l k o z. z) (fixed-turns f h h old new at t.number run.x run.op stepped.state turns) follow);
          late = story-turns f h h old new at t.number run.x run.op stepped.state turns runs (λ number x machine op. s0 < x) (λ number x machine op. s0 < x) (λ machine is. low) (λ n z machine o off u k. k) p.late;
        }

    pub stirs-both : Both h new
    stirs-both = (stirs-base, λ w. stirs-phase (b.1 w))

  -- ---- one begins

  module _ (h rest : List Entry) (old new : View) (lane line : ℕ) (op : Op) (now_ : ℕ) (is : h ++ Began lane line op ∷ rest ≡ H) (r : Reaches (machine_of mt) setup h old) (found : old.lost ≡ false) (known : Known setup h old)
      (idle : IsIdle lane old.lanes) (fits : Fits (machine_of mt lane op)) (t : StartsLane (counted old now_) lane (machine_of mt lane op) new) (b : Both h old) where
    abbrev pub later : List Entry
    later = h ++ Began lane line op ∷ []

    stepped_ : StepOf (Cov f i h) (Stays h old) old new (length old.lanes) lane (length h) op
    stepped_ = starts-stepped mt terms setup H V g roots asked f i byte n h rest old new lane line op now_ is r found known idle fits t b.0 (Cov f i h) (Stays h old) (λ k. k)

    turns_ : Turns f h later old new (length old.lanes) lane (length h) op stepped_.state
    turns_ = turns-starts f h old new lane line op stepped_.state idle stepped_.but

    abbrev mid_ : View
    mid_ = record (counted old now_) { lanes = old.lanes ++ record { number = lane; state = Busy t.after } ∷ []; shelf = t.shelf }

    lanes_known : LanesKnown later mid_
    lanes_known = lanes-begin h old lane line op known.lanes idle.other (Busy t.after)

    runs_ : Runs later lane
    runs_ = lanes_known.busy (length old.lanes) lane
        (to-map number_of (old.lanes ++ record { number = lane; state = Busy t.after } ∷ []) (length old.lanes) (record { number = lane; state = Busy t.after })
        (at-push old.lanes (record { number = lane; state = Busy t.after })))

    starts-base : Based later new
    starts-base = record {
      wholly = starts-wholly mt setup h old new lane line op now_ r found known idle t b.0.wholly;
      placed = (keeps-placed mt setup).starts h old new lane op now_ known idle t b.0.placed;
      wsize = starts-stay has-some some-stays (counted old now_) new lane (machine_of mt lane op) (λ state shelf. b.0.wsize) t;
      common_ = stepped_.common_;
      owned = stepped_.owned;
      story = story-turns f h later old new (length old.lanes) lane (length h) op stepped_.state turns_ runs_ Tell Tell (λ machine same. stepped_.told_ machine same) (λ n z machine o off u k. k) b.0.story;
    }

    busy_ : IsBusy later lane (length later)
    busy_ = (lanes-under-way later mid_ lanes_known).busy (length old.lanes) (record { number = lane; state = Busy t.after }) (at-push old.lanes (record { number = lane; state = Busy t.after }))

    its_ : UnderWay later lane (length h) (length later) op
    its_ = turns_.own

    follow_ : (x : ℕ) (o : Op) → Follows f x o h old → Follows f x o later new
    follow_ x o = follows-turns f x o h later old new (length old.lanes) lane (length h) op stepped_.state turns_ (λ y low l. last-names-later h (Began lane line op ∷ []) y f low l)
        (λ k n_ value there l. names-next h (Began lane line op) f (λ d. let e = d.1 in absurd cc) l) (λ n_ machine there u a. absurd (none-past old.lanes (record { number = n_; state = Busy machine }) there))

    starts-phase : Phase h old → Phase later new
    starts-phase p = record {
      low = (let low = p.low in let long = length_last h (Began lane line op) in omega (arith, low, long));
      stage = stage-of (Cov f i h) h later old new (length old.lanes) lane (length h) op stepped_ refl p.stage (stays-on h (Began lane line op) new.shelf.seq new.shelf.back)
          (λ l. lost-of (Cov f i h) (Stays h old) later new (length old.lanes) lane (length h) line old.shelf.seq (job_kind (machine_of mt lane op)) op stepped_.tgt stepped_.state stepped_.but.here its_ refl
          (λ three same value is_. absurd (starts-not (counted old now_) new lane (machine_of mt lane op) t three lane stepped_.state stepped_.but.here value is_)) p.low l)
          (lost-on h later old new (λ x l k o z. At-grow h (Began lane line op ∷ []) x (Began l k o) z) (fixed-turns f h later old new (length old.lanes) lane (length h) op stepped_.state turns_) follow_);
      late = story-turns f h later old new (length old.lanes) lane (length h) op stepped_.state turns_ runs_ (λ number x machine op. s0 < x) (λ number x machine op. s0 < x) (λ machine is_. p.low) (λ n z machine o off u k. k) p.late;
    }

    pub starts-both : Both later new
    starts-both = (starts-base, λ w. starts-phase (b.1 w))

  -- ---- a record comes

  module _ (h rest : List Entry) (rec : List ℕ) (is : h ++ Delivered rec ∷ rest ≡ H) (old new : View) (xid : ℕ) (call : Waiting Purpose) (at : ℕ) (r : Reaches (machine_of mt) setup h old) (found : old.lost ≡ false)
      (known : Known setup h old) (fin : View) (hears : HearsRecord old rec fin) (named : xid_at rec ≡ Some xid) (waits : waiting_at xid old.calls.calls ≡ Some call)
      (there : position (is_busy call.purpose.lane) old.lanes ≡ Some at) (o : TakesAt (taken_one old xid) at call.purpose.sent (said_of call.purpose.proc rec) new) (b : Both h old) where
    abbrev pub later2 : List Entry
    later2 = h ++ Delivered rec ∷ []

    lanes-later : LanesKnown later2 (taken_one old xid)
    lanes-later = quiet-facts h (Delivered rec) (numbers_of old.lanes) (λ number. refl) known.lanes

    runs2 : Runs later2 o.number
    runs2 = lanes-later.busy at o.number (to-map number_of old.lanes at (record { number = o.number; state = Busy o.machine }) o.there)

    later-busy : IsBusy later2 o.number (length later2)
    later-busy = (lanes-under-way later2 (taken_one old xid) lanes-later).busy at (record { number = o.number; state = Busy o.machine }) o.there

    own-before : UnderWay h o.number later-busy.x (length h) later-busy.op
    own-before = under-was h (Delivered rec) o.number later-busy.x later-busy.op (λ l q e. absurd (cc e)) later-busy.under_way

    stepped2 : StepOf (Cov f i later2) (Stays h old) old new at o.number later-busy.x later-busy.op
    stepped2 = takes-stepped mt terms setup H V g roots asked f i byte n h rest rec is old new xid call at r found known fin hears named waits there o b.0 later-busy.x later-busy.op own-before (Stays h old)
        (λ k. stays-on h (Delivered rec) old.shelf.seq old.shelf.back k)

    turns2 : Turns f h later2 old new at o.number later-busy.x later-busy.op stepped2.state
    turns2 = turns-take f setup h old new at o.number o.machine stepped2.state known o.there stepped2.but rec later-busy.x later-busy.op later-busy.under_way

    pub takes-base : Based later2 new
    takes-base = record {
      wholly = (keeps-wholly mt setup).takes h old new rec xid call at r found known waits there o b.0.wholly;
      placed = (keeps-placed mt setup).takes h old new rec xid call at known waits there o b.0.placed;
      wsize = steps-stay has-some some-stays (taken_one old xid) new at o.number o.machine o.after o.shelf o.next o.there o.leads b.0.wsize;
      common_ = stepped2.common_;
      owned = stepped2.owned;
      story = story-turns f h later2 old new at o.number later-busy.x later-busy.op stepped2.state turns2 runs2 Tell Tell (λ machine same. stepped2.told_ machine same) (λ n z machine q off u k. k) b.0.story;
    }

    kind-then : job_kind (machine_of mt o.number later-busy.op) ≡ 3 → job_kind o.machine ≡ 3
    kind-then three = (b.0.story at o.number o.machine later-busy.x later-busy.op o.there own-before).0 ∙ three

    names-then : (z : Saving) → own_save o.machine ≡ Some z → LastNames later2 (length later2) z.file
    names-then z is_ = own-last mt setup h old rec fin xid call at r found hears named waits o.machine
        (subst (λ (m : ℕ). slice_get old.lanes at ≡ Some (record { number = m; state = Busy o.machine })) (taker-is setup h old xid call at known waits there o.number o.machine o.there) o.there) z is_

    follow2 : (x : ℕ) (op : Op) → Follows f x op h old → Follows f x op later2 new
    follow2 x op = follows-turns f x op h later2 old new at o.number later-busy.x later-busy.op stepped2.state turns2 (λ y low l. last-names-later h (Delivered rec ∷ []) y f low l)
        (λ k n_ value there_ l. absurd (hears.may.noted k n_ (answers.Done value) there_)) own
      where
        own : (n_ : ℕ) (machine : Machine) → slice_get old.lanes at ≡ Some (record { number = n_; state = Busy machine }) → UnderWay h n_ x (length h) op → OfFile f x op (own_save machine) → Follows f x op later2 new
        own n_ machine there_ u a = by stepped2.state refl
          where
            same_lane : (n_ ≡ o.number) × (Busy machine ≡ Busy o.machine)
            same_lane = let e = sym there_ ∙ o.there in (number-is (Busy machine) (Busy o.machine) n_ o.number e, state-is (Busy machine) (Busy o.machine) n_ o.number e)

            at_own : OfFile f x op (own_save o.machine)
            at_own = subst (λ (m : Machine). OfFile f x op (own_save m)) (busy-same machine o.machine same_lane.1) a

            its : UnderWay later2 o.number x (length later2) op
            its = under-plain h (Delivered rec) o.number x op (record { begins_ = λ l q p e. cc; answers_ = λ l q p e. cc }) (subst (λ (m : ℕ). UnderWay h m x (length h) op) same_lane.0 u)

            placed_ : (s : State) → stepped2.state ≡ s → slice_get new.lanes at ≡ Some (record { number = o.number; state = s })
            placed_ s is_ = stepped2.but.here ∙ ap (λ (z : State). Some (record { number = o.number; state = z })) is_

            by : (s : State) → stepped2.state ≡ s → Follows f x op later2 new
            by (Busy m) is_ = saves at o.number m (placed_ (Busy m) is_) its (takes-still (λ z. z.file ≡ f) (file-keeps f) (taken_one old xid) new at call.purpose.sent (said_of call.purpose.proc rec) o at_own o.number stepped2.state stepped2.but.here m is_)
            by (Over (answers.Done value)) is_ =
                went_well at o.number value (placed_ (Over (answers.Done value)) is_) its (subst (λ (g_ : List ℕ). LastNames later2 (length later2) g_) at_own.2 (names-then at_own.0 at_own.1))
            by (Over (answers.Refused fault)) is_ = was_refused fault (ready at o.number op (placed_ (Over (answers.Refused fault)) is_) its)

    pub takes-phase : Phase h old → Phase later2 new
    takes-phase p =
        let low = p.late at o.number o.machine later-busy.x later-busy.op o.there own-before in
        record {
          low = (let low_ = p.low in let long = length_last h (Delivered rec) in omega (arith, low_, long));
          stage = stage-of (Cov f i later2) h later2 old new at o.number later-busy.x later-busy.op stepped2 refl p.stage (λ k. k)
              (λ l. lost-of (Cov f i later2) (Stays h old) later2 new at o.number later-busy.x 0 old.shelf.seq (job_kind (machine_of mt o.number later-busy.op)) later-busy.op stepped2.tgt stepped2.state stepped2.but.here
              later-busy.under_way refl (λ three same value is_. let own = takes-at-save (taken_one old xid) new at call.purpose.sent (said_of call.purpose.proc rec) o (kind-then three) o.number stepped2.state stepped2.but.here value is_ in
              subst (λ (g_ : List ℕ). LastNames later2 (length later2) g_) (sym (same ∙ stepped2.aims o.number o.machine o.there own.0 own.1)) (names-then own.0 own.1)) low l)
              (lost-on h later2 old new (λ x l k o z. At-grow h (Delivered rec ∷ []) x (Began l k o) z) (fixed-turns f h later2 old new at o.number later-busy.x later-busy.op stepped2.state turns2) follow2);
          late = story-turns f h later2 old new at o.number later-busy.x later-busy.op stepped2.state turns2 runs2 (λ number x machine op. s0 < x) (λ number x machine op. s0 < x) (λ machine is_. low)
              (λ n z machine q off u k. k) p.late;
        }

  -- ---- no operation makes a step

  same-stays : (h : List Entry) (e : Entry) (old new : View) → new.shelf ≡ old.shelf → Stays h old → Stays (h ++ e ∷ []) new
  same-stays h e old new shelf k =
      subst (λ (s : Shelf). KnownBy (settled (Cov f i (h ++ e ∷ []))) 0 f i byte n ⊥ s.seq s.back) (sym shelf) (stays-on h e old.shelf.seq old.shelf.back k)

  same-phase : (h : List Entry) (e : Entry) (old new : View) → new.shelf ≡ old.shelf → ((x : ℕ) (a : Answer) → IsFixed h old x a → IsFixed (h ++ e ∷ []) new x a)
      → ((x : ℕ) (op : Op) → Follows f x op h old → Follows f x op (h ++ e ∷ []) new) → Story (λ number x machine op. s0 < x) (h ++ e ∷ []) new → Phase h old → Phase (h ++ e ∷ []) new
  same-phase h e old new shelf on follow late p = record { low = (let low = p.low in let long = length_last h e in omega (arith, low, long)); stage = by p.stage; late = late }
    where
      by : Stays h old ⊎ Lost h old → Stays (h ++ e ∷ []) new ⊎ Lost (h ++ e ∷ []) new
      by (inl k) = inl (same-stays h e old new shelf k)
      by (inr l) = inr (lost-on h (h ++ e ∷ []) old new (λ x l k o z. At-grow h (e ∷ []) x (Began l k o) z) on follow l)

  module _ (h : List Entry) (e : Entry) (old new : View) (plain : IsPlain e) (noted_ : NotedBefore e old) (lanes : new.lanes ≡ old.lanes) (shelf : new.shelf ≡ old.shelf) (wsize : new.wsize ≡ old.wsize)
      (calls : SameCalls old.calls.calls new.calls.calls) (b : Both h old) where
    same-base : Based (h ++ e ∷ []) new
    same-base = record {
      wholly = (keeps-wholly mt setup).same h e old new lanes shelf calls b.0.wholly;
      placed = (keeps-placed mt setup).same old new lanes shelf calls.purposes b.0.placed;
      wsize = subst (λ (n : ℕ). 1 ≤ n) (sym wsize) b.0.wsize;
      common_ = subst (λ (s : Shelf). Common 0 s.seq s.back) (sym shelf) b.0.common_;
      owned = subst (λ (s : Shelf). Owned f new.lanes s.seq s.back s.order) (sym shelf) (subst (λ (l : List Lane). Owned f l old.shelf.seq old.shelf.back old.shelf.order) (sym lanes) b.0.owned);
      story = story-same h e old new plain lanes Tell Tell (λ n z machine o k. k) b.0.story;
    }

    pub same-both : Both (h ++ e ∷ []) new
    same-both = (
      same-base,
      λ w.
          let p = b.1 w in
          same-phase h e old new shelf (fixed-same h e old new plain lanes) (λ x op. follows-same f x op h e old new plain noted_ lanes) (story-same h e old new plain lanes (λ number x machine op. s0 < x) (λ number x machine op. s0 < x) (λ n z machine o k. k) p.late) p,
    )

  -- ---- an answer is noted

  module _ (h : List Entry) (old new : View) (at lane line : ℕ) (answer : Answer) (k : Known setup h old) (apart : AreApart new.lanes) (open_ : IsOpenLine h lane line) (a : AnswersAt old at lane (Some answer) new) (b : Both h old) where
    shelf-is : new.shelf ≡ old.shelf
    shelf-is = ap (λ (w : View). w.shelf) a.is

    pub answers-both : Both (h ++ Answered lane line answer ∷ []) new
    answers-both = (
      record {
        wholly = (keeps-wholly mt setup).answers h old new at lane line answer k a b.0.wholly;
        placed = (keeps-placed mt setup).answers h old new at lane answer k a b.0.placed;
        wsize = subst (λ (v : View). 1 ≤ v.wsize) (sym a.is) b.0.wsize;
        common_ = subst (λ (s : Shelf). Common 0 s.seq s.back) (sym shelf-is) b.0.common_;
        owned = subst (λ (s : Shelf). Owned f new.lanes s.seq s.back s.order) (sym shelf-is)
            (subst (λ (v : View). Owned f v.lanes old.shelf.seq old.shelf.back old.shelf.order) (sym a.is)
            (owned-removed f old.lanes at lane a.answer a.there (subst (λ (v : View). AreApart v.lanes) a.is apart) old.shelf.seq old.shelf.back old.shelf.order b.0.owned));
        story = story-answers h old new at lane line answer a Tell Tell (λ n z machine o t. t) b.0.story;
      },
      λ w.
          let p = b.1 w in
          same-phase h (Answered lane line answer) old new shelf-is (fixed-answers setup h old new at lane line answer k open_ a) (λ x op. follows-answers f x op setup h old new at lane line answer k open_ a)
          (story-answers h old new at lane line answer a (λ number x machine op. s0 < x) (λ number x machine op. s0 < x) (λ n z machine o t. t) p.late) p,
    )

  -- ---- a fresh core

  pub fresh-base : (h : List Entry) (v : View) → MaySetUp setup → IsFresh setup v → Based h v
  fresh-base h v may fresh =
      let p = fresh-phase mt terms setup H f 0 h v fresh in
      record {
        wholly = (keeps-wholly mt setup).fresh h v fresh;
        placed = (keeps-placed mt setup).fresh v fresh;
        wsize = subst (λ (n : ℕ). 1 ≤ n) (sym fresh.wsize) may.sizes.write;
        common_ = p.common;
        owned = p.owned;
        story = λ k number machine x op there u. absurd (let no_way : None ≡ Some (record { number = number; state = Busy machine }) = ap (λ (lanes : List Lane). slice_get lanes k) (sym fresh.lanes) ∙ there in cc);
      }
