-- What the steps of lanes keep of the history and of the core's view, as long as the session isn't lost.
use Rattle.core_answers.proofs.Prelude.{◌≡◌, inl, inr, ℕ, List, [], ◌∷◌, ◌++◌, Bool, true, false, Option, Some, None, MatchOption, position, refl, sym, ap, subst, ◌∙◌, xid_at, Waiting, waiting_at, Answer, Entry, Began, Answered, Dialed, Executed, Foreign, Flushed, Reboot, Delivered, Failed, Clock, Op, said_of, Shelf, Machine, Purpose, State, Setup, IsFresh, is_busy, IsIdle, numbers_of, Stirs, Moves, moves_none, moves_more, counted, StartsLane, BeginsIf, TakesAt, View, IsUnbegun, StepsTo, Reaches, begins, goes, loses, last_reading, Heard, dropped, replied, sent_now, FailedNow, goes_on, gives_up, failed_now, answered_now, taken_one, stirs-count, starts-count, hears-count, reached-count, Known, reached-all, LanesKnown, quiet-facts, lanes-stay, lanes-begin, lanes-under-way, Rows, rows-stay, same-rows, rows-grow, silent-grow, taken-quiet, not-sent, taken-rows, stirs-stay, starts-stay, steps-stay}
use Rattle.world_model.specs.declared.entry.Entry.TheVariants.{Sent}
use Rattle.client_core.specs.Steps.{AnswersAt}
use Rattle.core_facts.specs.Reaches.{IsSetUp}
use Rattle.core_facts.proofs.Cases.{heard}
use Rattle.core_facts.proofs.Counting.{none-busy, heard-lost}

-- An entry that tells neither that an operation begins nor that one is answered.
pub record IsPlain (e : Entry) : Type 0 where
  pub began : (lane line : ℕ) (op : Op) → e ≡ Began lane line op → ⊥
  pub answered : (lane line : ℕ) (answer : Answer) → e ≡ Answered lane line answer → ⊥

-- A fact of a history and a view that holds of a fresh core, and that each step of a lane keeps, also where an operation begins or a reply comes,
-- each answer that is fetched, and each other entry.
pub record KeepsAlong (machine_of : ℕ → Op → Machine) (setup : Setup) (I : List Entry → View → Type 0) : Type 0 where
  pub fresh : (h : List Entry) (v : View) → IsSetUp setup h → IsFresh setup v → I h v
  pub stirs : (h : List Entry) (old new : View) (at : ℕ) → Known setup h old → Stirs old at new → I h old → I h new
  pub starts : (h : List Entry) (old new : View) (lane line : ℕ) (op : Op) (now : ℕ) → Known setup h old → IsIdle lane old.lanes
      → StartsLane (counted old now) lane (machine_of lane op) new → I h old → I (h ++ Began lane line op ∷ []) new
  pub takes : (h : List Entry) (old new : View) (rec : List ℕ) (xid : ℕ) (call : Waiting Purpose) (at : ℕ) → Known setup h old
      → waiting_at xid old.calls.calls ≡ Some call → position (is_busy call.purpose.lane) old.lanes ≡ Some at
      → TakesAt (taken_one old xid) at call.purpose.sent (said_of call.purpose.proc rec) new → I h old → I (h ++ Delivered rec ∷ []) new
  pub answers : (h : List Entry) (old new : View) (at lane line : ℕ) (answer : Answer) → Known setup h old → AnswersAt old at lane (Some answer) new → I h old
      → I (h ++ Answered lane line answer ∷ []) new
  pub same : (h : List Entry) (e : Entry) (old new : View) → IsPlain e → new.lanes ≡ old.lanes → new.shelf ≡ old.shelf → I h old → I (h ++ e ∷ []) new

module _ (machine_of : ℕ → Op → Machine) (unbegun : (lane : ℕ) (op : Op) → IsUnbegun (machine_of lane op)) (setup : Setup) (I : List Entry → View → Type 0)
    (laws : KeepsAlong machine_of setup I) where
  known-of : (h : List Entry) (v : View) → Reaches machine_of setup h v → v.lost ≡ false → Known setup h v
  known-of = reached-all machine_of unbegun setup

  pub record Kept (h : List Entry) (v : View) : Type 0 where
    pub known : Known setup h v
    pub is : I h v

  moves-kept : (h : List Entry) (old new : View) → Moves old new → Kept h old → Kept h new
  moves-kept h _ _ (moves_none old new is) k = subst (Kept h) (sym is) k
  moves-kept h _ _ (moves_more old mid new at m room t first) k =
      let before = moves-kept h old mid m k in
      record {
        known = record {
          rows = stirs-stay (Rows setup h) (rows-stay setup h) mid new at t before.known.rows;
          lanes = stirs-stay (LanesKnown h) (lanes-stay h) mid new at t before.known.lanes;
          known = stirs-count mid new at t before.known.known;
        };
        is = laws.stirs h mid new at before.known t before.is;
      }

  -- ---- an operation begins

  begins-kept : (b : Bool) (h : List Entry) (old new : View) (lane line : ℕ) (op : Op) → old.lost ≡ b → StepsTo machine_of h old (Began lane line op) new
      → Reaches machine_of setup h old → BeginsIf b old lane (machine_of lane op) (last_reading 0 h) new → (old.lost ≡ false → I h old) → new.lost ≡ false
      → I (h ++ Began lane line op ∷ []) new
  begins-kept true h old new lane line op was t r is i found =
      absurd (let no_way : true ≡ false = sym was ∙ ap (λ (w : View). w.lost) (sym is) ∙ found in cc)
  begins-kept false h old new lane line op was t r b i found = (moves-kept later b.first new b.rest (record { known = known; is = first })).is
    where
      later : List Entry
      later = h ++ Began lane line op ∷ []

      before : Known setup h old
      before = known-of h old r was

      pushed : (state : State) (shelf : Shelf) → LanesKnown later (record (counted old (last_reading 0 h)) { lanes = old.lanes ++ record { number = lane; state = state } ∷ []; shelf = shelf })
      pushed state shelf = lanes-begin h old lane line op before.lanes t.idle.other state

      known : Known setup later b.first
      known = record {
        rows = starts-stay (Rows setup later) (rows-stay setup later) (counted old (last_reading 0 h)) b.first lane (machine_of lane op)
            (λ state shelf. same-rows setup later old (record (counted old (last_reading 0 h)) { lanes = old.lanes ++ record { number = lane; state = state } ∷ []; shelf = shelf }) refl
            (silent-grow setup h (Began lane line op) old (record { sent = λ bytes is. cc; came = λ bytes is. cc }) before.rows)) b.own;
        lanes = starts-stay (LanesKnown later) (lanes-stay later) (counted old (last_reading 0 h)) b.first lane (machine_of lane op) pushed b.own;
        known = starts-count (counted old (last_reading 0 h)) b.first lane (machine_of lane op) (unbegun lane op) b.own
            (record { counted = before.known.counted; right = before.known.right });
      }

      first : I later b.first
      first = laws.starts h old b.first lane line op (last_reading 0 h) before t.idle b.own (i was)

  -- ---- a record comes

  plain-came : (rec : List ℕ) → IsPlain (Delivered rec)
  plain-came rec = record { began = λ lane line op e. cc; answered = λ lane line answer e. cc }

  hears-kept : (h : List Entry) (old : View) (rec : List ℕ) (xid : ℕ) (call : Waiting Purpose) (at : ℕ) (first : View) → Reaches machine_of setup h old → old.lost ≡ false
      → xid_at rec ≡ Some xid → waiting_at xid old.calls.calls ≡ Some call → position (is_busy call.purpose.lane) old.lanes ≡ Some at
      → TakesAt (taken_one old xid) at call.purpose.sent (said_of call.purpose.proc rec) first → I h old → Kept (h ++ Delivered rec ∷ []) first
  hears-kept h old rec xid call at first r found named waits there o i = record {
    known = record {
      rows = steps-stay (Rows setup later) (rows-stay setup later) (taken_one old xid) first at o.number o.machine o.after o.shelf o.next o.there o.leads
          (rows-grow setup h (Delivered rec) (taken_one old xid) (taken-quiet setup h old rec xid before.rows named) (not-sent rec) (taken-rows setup h old xid before.rows));
      lanes = steps-stay (LanesKnown later) (lanes-stay later) (taken_one old xid) first at o.number o.machine o.after o.shelf o.next o.there o.leads
          (quiet-facts h (Delivered rec) (numbers_of old.lanes) (λ number. refl) before.lanes);
      known = hears-count old first rec xid call at waits there (lanes-under-way h old before.lanes).apart o before.known;
    };
    is = laws.takes h old first rec xid call at before waits there o i;
  }
    where
      later : List Entry
      later = h ++ Delivered rec ∷ []

      before : Known setup h old
      before = known-of h old r found

  heard-kept : (h : List Entry) (old : View) (rec : List ℕ) (new : View) → old.lost ≡ false → Reaches machine_of setup h old → Heard old rec new → I h old → I (h ++ Delivered rec ∷ []) new
  heard-kept h old rec new found r (dropped none is) i =
      laws.same h (Delivered rec) old new (plain-came rec) (ap (λ (v : View). v.lanes) is) (ap (λ (v : View). v.shelf) is) i
  heard-kept h old rec new found r (replied xid call named waits f) i = by (position (is_busy call.purpose.lane) old.lanes) refl f.own
    where
      by : (o : Option ℕ) → position (is_busy call.purpose.lane) old.lanes ≡ o
          → MatchOption o (f.first ≡ taken_one old xid) (λ at. TakesAt (taken_one old xid) at call.purpose.sent (said_of call.purpose.proc rec) f.first) → I (h ++ Delivered rec ∷ []) new
      by None none is = absurd (none-busy old xid call waits none (reached-count machine_of unbegun setup h old r found).counted)
      by (Some at) there o = (moves-kept (h ++ Delivered rec ∷ []) f.first new f.rest (hears-kept h old rec xid call at f.first r found named waits there o i)).is

  -- ---- each entry

  failed-kept : (h : List Entry) (old new : View) → FailedNow old new → (old.lost ≡ false → I h old) → new.lost ≡ false → I (h ++ Failed ∷ []) new
  failed-kept h old new (goes_on none is) i found =
      laws.same h Failed old new (record { began = λ lane line op e. cc; answered = λ lane line answer e. cc }) (ap (λ (v : View). v.lanes) is) (ap (λ (v : View). v.shelf) is)
      (i (ap (λ (v : View). v.lost) (sym is) ∙ found))
  failed-kept h old new (gives_up xid up is) i found = absurd (let no_way : true ≡ false = ap (λ (v : View). v.lost) (sym is) ∙ found in cc)

  -- an entry that leaves the core as it is
  still-kept : (h : List Entry) (e : Entry) (old new : View) → IsPlain e → new ≡ old → (old.lost ≡ false → I h old) → new.lost ≡ false → I (h ++ e ∷ []) new
  still-kept h e old new plain is i found =
      laws.same h e old new plain (ap (λ (v : View). v.lanes) is) (ap (λ (v : View). v.shelf) is) (i (ap (λ (v : View). v.lost) (sym is) ∙ found))

  kept-step : (h : List Entry) (old : View) (e : Entry) (new : View) → StepsTo machine_of h old e new → Reaches machine_of setup h old → (old.lost ≡ false → I h old)
      → new.lost ≡ false → ((rec : List ℕ) → Heard old rec new → old.lost ≡ false) → I (h ++ e ∷ []) new
  kept-step h old (Began lane line op) new t r i found was = begins-kept old.lost h old new lane line op refl t r t.step i found
  kept-step h old (Answered lane line answer) new t r i found was =
      let a = answered_now old lane answer new t.answers in
      let before = ap (λ (v : View). v.lost) (sym a.is.is) ∙ found in
      laws.answers h old new a.at lane line answer (known-of h old r before) a.is (i before)
  kept-step h old (Sent bytes) new t r i found was =
      let n = sent_now old bytes new t in
      laws.same h (Sent bytes) old new (record { began = λ lane line op e. cc; answered = λ lane line answer e. cc }) (ap (λ (v : View). v.lanes) n.is) (ap (λ (v : View). v.shelf) n.is)
      (i (ap (λ (v : View). v.lost) (sym n.is) ∙ found))
  kept-step h old (Delivered bytes) new t r i found was =
      let d = heard old bytes t.result new t.hears in
      let before = was bytes d in
      heard-kept h old bytes new before r d (i before)
  kept-step h old Failed new (inl t) r i found was = failed-kept h old new (failed_now old t.0 new t.1) i found
  kept-step h old Failed new (inr t) r i found was = still-kept h Failed old new (record { began = λ lane line op e. cc; answered = λ lane line answer e. cc }) t i found
  kept-step h old (Dialed port) new t r i found was = still-kept h (Dialed port) old new (record { began = λ lane line op e. cc; answered = λ lane line answer e. cc }) t i found
  kept-step h old (Executed xid call reply) new t r i found was =
      still-kept h (Executed xid call reply) old new (record { began = λ lane line op e. cc; answered = λ lane line answer e. cc }) t i found
  kept-step h old (Foreign call reply) new t r i found was = still-kept h (Foreign call reply) old new (record { began = λ lane line op e. cc; answered = λ lane line answer e. cc }) t i found
  kept-step h old (Flushed file from len) new t r i found was =
      still-kept h (Flushed file from len) old new (record { began = λ lane line op e. cc; answered = λ lane line answer e. cc }) t i found
  kept-step h old (Reboot verf) new t r i found was = still-kept h (Reboot verf) old new (record { began = λ lane line op e. cc; answered = λ lane line answer e. cc }) t i found
  kept-step h old (Clock ms) new t r i found was = still-kept h (Clock ms) old new (record { began = λ lane line op e. cc; answered = λ lane line answer e. cc }) t i found

  pub reached-along : (h : List Entry) (v : View) → Reaches machine_of setup h v → v.lost ≡ false → I h v
  reached-along _ _ (begins h v may up fresh) found = laws.fresh h v up fresh
  reached-along _ _ (goes h before v b e r is t) found =
      subst (λ (k : List Entry). I k v) (sym is) (kept-step before b e v t r (reached-along before b r) found (λ rec d. sym (heard-lost b rec v d) ∙ found))
  reached-along _ _ (loses h v b r shown is) found = absurd (let no_way : true ≡ false = ap (λ (w : View). w.lost) (sym is) ∙ found in cc)
