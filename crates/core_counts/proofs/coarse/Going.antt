-- What holds of a history and the core's view that goes with it, as `core_session.proofs.saves.HearingAlong`; at each step of a lane it is
-- known how the session goes on to where a history goes with it; and where an entry leaves lanes and shelf as they are, that it leaves the next xid too.
use Rattle.core_counts.proofs.Prelude.{◌≡◌, inl, inr, ℕ, List, [], ◌∷◌, ◌++◌, Bool, true, false, Option, Some, None, MatchOption, position, refl, sym, ap, subst, ◌∙◌, xid_at, Waiting, failed_after, next_xid, waiting_at, awaited, at_sent, before_sent, Answer, Entry, Began, Answered, Dialed, Sent, Executed, Foreign, Flushed, Reboot, Delivered, Failed, Clock, Op, said_of, Shelf, Machine, Fits, Purpose, State, Setup, IsFresh, is_busy, IsIdle, numbers_of, Stirs, moves_none, moves_more, counted, StartsLane, BeginsIf, TakesAt, AnswersAt, View, MaySetUp, IsSetUp, StepsTo, HearsRecord, Reaches, begins, goes, loses, last_reading, dropped, replied, sent_now, FailedNow, goes_on, gives_up, failed_now, answered_now, taken_one, none-busy, heard-lost, Known, purpose_at, reached-all, LanesKnown, quiet-facts, lanes-stay, lanes-begin, lanes-under-way, Rows, rows-stay, same-rows, rows-grow, silent-grow, taken-quiet, not-sent, taken-rows, SameCalls, sent-purposes, stirs-stay, starts-stay, steps-stay, IsPlain}
use Rattle.rpc_retry.proofs.Records.{before_failed}
use Rattle.client_core.specs.Steps.{Moves}
use Rattle.core_facts.proofs.Cases.{Heard, heard}
use Rattle.core_facts.proofs.Counting.{stirs-count, starts-count, hears-count}
use Rattle.core_answers.proofs.writes.Along.{failed-purposes}
use Rattle.core_facts.specs.InFlight.{IsUnbegun}
use Rattle.core_counts.proofs.coarse.Onward.{Ahead, on-same, ahead-of}

-- It holds of a fresh core; each step of a lane keeps it, also where an operation begins or a reply comes, each answer that is noted, and each
-- entry that leaves lanes, shelf and calls as they are.
-- what the core sees of it: a record that is sent is one of a call that waits, and one that comes here is one for which none waits
pub record IsSeen (e : Entry) (old : View) : Type 0 where
  pub sent_ : (bytes : List ℕ) → e ≡ Sent bytes → (xid : ℕ) × (call : Waiting Purpose) × (waiting_at xid old.calls.calls ≡ Some call) × (call.bytes ≡ bytes)
  pub came : (rec : List ℕ) → e ≡ Delivered rec → awaited (xid_at rec) old.calls.calls ≡ None

pub record KeepsGoing (machine_of : ℕ → Op → Machine) (setup : Setup) (I : List Entry → View → Type 0) : Type 0 where
  pub fresh : (h : List Entry) (v : View) → MaySetUp setup → IsSetUp setup h → IsFresh setup v → I h v
  pub stirs : (h : List Entry) (old new : View) (at : ℕ) → Known setup h old → Ahead machine_of setup h new → Stirs old at new → I h old → I h new
  pub starts : (h : List Entry) (old new : View) (lane line : ℕ) (op : Op) → Reaches machine_of setup h old → old.lost ≡ false → Known setup h old
      → IsIdle lane old.lanes → Fits (machine_of lane op) → StartsLane (counted old (last_reading 0 h)) lane (machine_of lane op) new → Ahead machine_of setup (h ++ Began lane line op ∷ []) new → I h old
      → I (h ++ Began lane line op ∷ []) new
  pub takes : (h : List Entry) (old new : View) (rec : List ℕ) (xid : ℕ) (call : Waiting Purpose) (at : ℕ) → Reaches machine_of setup h old → old.lost ≡ false
      → Known setup h old → (fin : View) → HearsRecord old rec fin → xid_at rec ≡ Some xid → waiting_at xid old.calls.calls ≡ Some call
      → position (is_busy call.purpose.lane) old.lanes ≡ Some at → TakesAt (taken_one old xid) at call.purpose.sent (said_of call.purpose.proc rec) new
      → Ahead machine_of setup (h ++ Delivered rec ∷ []) new → I h old → I (h ++ Delivered rec ∷ []) new
  pub answers : (h : List Entry) (old new : View) (at lane line : ℕ) (answer : Answer) → StepsTo machine_of h old (Answered lane line answer) new → Known setup h old → AnswersAt old at lane (Some answer) new → I h old
      → I (h ++ Answered lane line answer ∷ []) new
  pub same : (h : List Entry) (e : Entry) (old new : View) → StepsTo machine_of h old e new → IsPlain e → IsSeen e old → new.lanes ≡ old.lanes → new.shelf ≡ old.shelf → new.wsize ≡ old.wsize → next_xid new.calls ≡ next_xid old.calls → SameCalls old.calls.calls new.calls.calls → I h old
      → I (h ++ e ∷ []) new

module _ (machine_of : ℕ → Op → Machine) (unbegun : (lane : ℕ) (op : Op) → IsUnbegun (machine_of lane op)) (setup : Setup) (I : List Entry → View → Type 0)
    (laws : KeepsGoing machine_of setup I) where
  known-of : (h : List Entry) (v : View) → Reaches machine_of setup h v → v.lost ≡ false → Known setup h v
  known-of = reached-all machine_of unbegun setup

  record Kept (h : List Entry) (v : View) : Type 0 where
    known : Known setup h v
    is : I h v

  moves-kept : (h : List Entry) (old new : View) → Moves old new → Ahead machine_of setup h new → (Ahead machine_of setup h old → Kept h old) → Kept h new
  moves-kept h _ _ (moves_none old new is) a k = subst (Kept h) (sym is) (k (subst (Ahead machine_of setup h) is a))
  moves-kept h _ _ (moves_more old mid new at m room t first) a k =
      let before = moves-kept h old mid m (ahead-of machine_of setup h mid new at t a) k in
      record {
        known = record {
          rows = stirs-stay (Rows setup h) (rows-stay setup h) mid new at t before.known.rows;
          lanes = stirs-stay (LanesKnown h) (lanes-stay h) mid new at t before.known.lanes;
          known = stirs-count mid new at t before.known.known;
        };
        is = laws.stirs h mid new at before.known a t before.is;
      }

  -- where the entry ends
  pub ahead-here : (h : List Entry) (v : View) → Reaches machine_of setup h v → v.lost ≡ false → Ahead machine_of setup h v
  ahead-here h v r found = record { fin = v; reach = r; found = found; on = on-same v v refl }

  lost-of : (old new : View) → new ≡ old → new.lost ≡ false → old.lost ≡ false
  lost-of old new is found = ap (λ (v : View). v.lost) (sym is) ∙ found

  -- ---- an operation begins

  begins-kept : (b : Bool) (h : List Entry) (old new : View) (lane line : ℕ) (op : Op) → old.lost ≡ b → StepsTo machine_of h old (Began lane line op) new
      → Reaches machine_of setup h old → BeginsIf b old lane (machine_of lane op) (last_reading 0 h) new → (old.lost ≡ false → I h old) → new.lost ≡ false
      → I (h ++ Began lane line op ∷ []) new
  begins-kept true h old new lane line op was t r is i found =
      absurd (let no_way : true ≡ false = sym was ∙ ap (λ (w : View). w.lost) (sym is) ∙ found in cc)
  begins-kept false h old new lane line op was t r b i found = (moves-kept later b.first new b.rest
      (ahead-here later new (goes later h new old (Began lane line op) r refl t) found) (λ a. record { known = known; is = first a })).is
    where
      later : List Entry
      later = h ++ Began lane line op ∷ []

      before : Known setup h old
      before = known-of h old r was

      pushed : (state : State) (shelf : Shelf) → LanesKnown later (record (counted old (last_reading 0 h)) { lanes = old.lanes ++ record { number = lane; state = state } ∷ []; shelf = shelf })
      pushed state shelf = lanes-begin h old lane line op before.lanes t.idle.other state

      known : Known setup later b.first
      known = record {
        rows = starts-stay (Rows setup later) (rows-stay setup later) (counted old (last_reading 0 h)) b.first lane (machine_of lane op)
            (λ state shelf. same-rows setup later old (record (counted old (last_reading 0 h)) { lanes = old.lanes ++ record { number = lane; state = state } ∷ []; shelf = shelf }) refl
            (silent-grow setup h (Began lane line op) old (record { sent = λ bytes is. cc; came = λ bytes is. cc }) before.rows)) b.own;
        lanes = starts-stay (LanesKnown later) (lanes-stay later) (counted old (last_reading 0 h)) b.first lane (machine_of lane op) pushed b.own;
        known = starts-count (counted old (last_reading 0 h)) b.first lane (machine_of lane op) (unbegun lane op) b.own
            (record { counted = before.known.counted; right = before.known.right });
      }

      first : Ahead machine_of setup later b.first → I later b.first
      first a = laws.starts h old b.first lane line op r was before t.idle t.fits b.own a (i was)

  -- ---- a record comes

  hears-kept : (h : List Entry) (old : View) (rec : List ℕ) (xid : ℕ) (call : Waiting Purpose) (at : ℕ) (first : View) → Reaches machine_of setup h old → old.lost ≡ false → (fin : View) → HearsRecord old rec fin
      → xid_at rec ≡ Some xid → waiting_at xid old.calls.calls ≡ Some call → position (is_busy call.purpose.lane) old.lanes ≡ Some at
      → TakesAt (taken_one old xid) at call.purpose.sent (said_of call.purpose.proc rec) first → I h old → Ahead machine_of setup (h ++ Delivered rec ∷ []) first → Kept (h ++ Delivered rec ∷ []) first
  hears-kept h old rec xid call at first r found fin hears named waits there o i a = record {
    known = record {
      rows = steps-stay (Rows setup later) (rows-stay setup later) (taken_one old xid) first at o.number o.machine o.after o.shelf o.next o.there o.leads
          (rows-grow setup h (Delivered rec) (taken_one old xid) (taken-quiet setup h old rec xid before.rows named) (not-sent rec) (taken-rows setup h old xid before.rows));
      lanes = steps-stay (LanesKnown later) (lanes-stay later) (taken_one old xid) first at o.number o.machine o.after o.shelf o.next o.there o.leads
          (quiet-facts h (Delivered rec) (numbers_of old.lanes) (λ number. refl) before.lanes);
      known = hears-count old first rec xid call at waits there (lanes-under-way h old before.lanes).apart o before.known;
    };
    is = laws.takes h old first rec xid call at r found before fin hears named waits there o a i;
  }
    where
      later : List Entry
      later = h ++ Delivered rec ∷ []

      before : Known setup h old
      before = known-of h old r found

  same-kept : (h : List Entry) (e : Entry) (old new : View) → StepsTo machine_of h old e new → IsPlain e → IsSeen e old → new ≡ old → I h old → I (h ++ e ∷ []) new
  same-kept h e old new t plain seen is i =
      subst (I (h ++ e ∷ [])) (sym is)
      (laws.same h e old old (subst (StepsTo machine_of h old e) is t) plain seen refl refl refl refl (record { waited = λ xid w at. record { was = w; waited = at; bytes = refl; purpose = refl }; purposes = λ xid. refl }) i)

  came-is : (a b : List ℕ) → Delivered a ≡ Delivered b → a ≡ b
  came-is a b e = cc

  heard-kept : (h : List Entry) (old : View) (rec : List ℕ) (new : View) → old.lost ≡ false → Reaches machine_of setup h old → HearsRecord old rec new
      → Reaches machine_of setup (h ++ Delivered rec ∷ []) new → new.lost ≡ false → Heard old rec new → I h old → I (h ++ Delivered rec ∷ []) new
  heard-kept h old rec new found r hears reach last (dropped none is) i = same-kept h (Delivered rec) old new hears (record { begins_ = λ lane line op is. cc; answers_ = λ lane line answer is. cc }) (record { sent_ = λ other same. absurd cc; came = λ other same. subst (λ (b : List ℕ). awaited (xid_at b) old.calls.calls ≡ None) (came-is rec other same) none }) is i
  heard-kept h old rec new found r hears reach last (replied xid call named waits f) i = by (position (is_busy call.purpose.lane) old.lanes) refl f.own
    where
      by : (o : Option ℕ) → position (is_busy call.purpose.lane) old.lanes ≡ o
          → MatchOption o (f.first ≡ taken_one old xid) (λ at. TakesAt (taken_one old xid) at call.purpose.sent (said_of call.purpose.proc rec) f.first)
          → I (h ++ Delivered rec ∷ []) new
      by None none is = absurd (none-busy old xid call waits none (known-of h old r found).known.counted)
      by (Some at) there o = (moves-kept (h ++ Delivered rec ∷ []) f.first new f.rest (ahead-here (h ++ Delivered rec ∷ []) new reach last)
          (hears-kept h old rec xid call at f.first r found new hears named waits there o i)).is

  sent-is : (a b : List ℕ) → Sent a ≡ Sent b → a ≡ b
  sent-is a b e = cc

  -- ---- each entry

  failed-kept : (h : List Entry) (old new : View) → StepsTo machine_of h old Failed new → FailedNow old new → (old.lost ≡ false → I h old) → new.lost ≡ false → I (h ++ Failed ∷ []) new
  failed-kept h old new t (goes_on none is) i found =
      laws.same h Failed old new t (record { begins_ = λ lane line op is. cc; answers_ = λ lane line answer is. cc }) (record { sent_ = λ other is. absurd cc; came = λ other is. absurd cc }) (ap (λ (v : View). v.lanes) is) (ap (λ (v : View). v.shelf) is) (ap (λ (v : View). v.wsize) is) (ap (λ (v : View). next_xid v.calls) is)
      (record {
        waited = λ xid w at. before_failed true old.calls.calls xid w
            (sym (ap (λ (v : View). waiting_at xid v.calls.calls) is ∙ ap (λ (o : Option ℕ). waiting_at xid (failed_after o old.calls.calls)) none) ∙ at);
        purposes = λ xid.
            ap (λ (v : View). purpose_at xid v.calls.calls) is ∙ ap (λ (o : Option ℕ). purpose_at xid (failed_after o old.calls.calls)) none
            ∙ failed-purposes true xid old.calls.calls;
      })
      (i (ap (λ (v : View). v.lost) (sym is) ∙ found))
  failed-kept h old new t (gives_up xid up is) i found = absurd (let no_way : true ≡ false = ap (λ (v : View). v.lost) (sym is) ∙ found in cc)

  kept-step : (h : List Entry) (old : View) (e : Entry) (new : View) → StepsTo machine_of h old e new → Reaches machine_of setup h old → (old.lost ≡ false → I h old)
      → new.lost ≡ false → ((rec : List ℕ) → Heard old rec new → old.lost ≡ false) → I (h ++ e ∷ []) new
  kept-step h old (Began lane line op) new t r i found was = begins-kept old.lost h old new lane line op refl t r t.step i found
  kept-step h old (Answered lane line answer) new t r i found was =
      let a = answered_now old lane answer new t.answers in
      let before = ap (λ (v : View). v.lost) (sym a.is.is) ∙ found in
      laws.answers h old new a.at lane line answer t (known-of h old r before) a.is (i before)
  kept-step h old (Sent bytes) new t r i found was =
      let n = sent_now old bytes new t in
      let known : Known setup h old = known-of h old r (ap (λ (v : View). v.lost) (sym n.is) ∙ found) in
      let waits = (at_sent old.calls.cred old.calls.first_xid (next_xid old.calls) n.xid old.calls.calls n.call known.rows.sound.calls.each n.due).before in
      laws.same h (Sent bytes) old new t (record { begins_ = λ lane line op is. cc; answers_ = λ lane line answer is. cc }) (record { sent_ = λ other same. (n.xid, n.call, waits, sym n.bytes_is ∙ sent-is bytes other same); came = λ other is. absurd cc }) (ap (λ (v : View). v.lanes) n.is) (ap (λ (v : View). v.shelf) n.is) (ap (λ (v : View). v.wsize) n.is) (ap (λ (v : View). next_xid v.calls) n.is)
      (record {
        waited = λ xid w at. before_sent old.calls.calls xid w (sym (ap (λ (v : View). waiting_at xid v.calls.calls) n.is) ∙ at);
        purposes = λ xid. ap (λ (v : View). purpose_at xid v.calls.calls) n.is ∙ sent-purposes xid old.calls.calls;
      }) (i (ap (λ (v : View). v.lost) (sym n.is) ∙ found))
  kept-step h old (Delivered bytes) new t r i found was =
      let d = heard old bytes t.result new t.hears in
      let before = was bytes d in
      heard-kept h old bytes new before r t (goes (h ++ Delivered bytes ∷ []) h new old (Delivered bytes) r refl t) found d (i before)
  kept-step h old Failed new (inl t) r i found was = failed-kept h old new (inl t) (failed_now old t.0 new t.1) i found
  kept-step h old Failed new (inr t) r i found was = same-kept h Failed old new (inr t) (record { begins_ = λ lane line op is. cc; answers_ = λ lane line answer is. cc }) (record { sent_ = λ other is. absurd cc; came = λ other is. absurd cc }) t (i (lost-of old new t found))
  kept-step h old (Dialed port) new t r i found was = same-kept h (Dialed port) old new t (record { begins_ = λ lane line op is. cc; answers_ = λ lane line answer is. cc }) (record { sent_ = λ other is. absurd cc; came = λ other is. absurd cc }) t (i (lost-of old new t found))
  kept-step h old (Executed xid call reply) new t r i found was = same-kept h (Executed xid call reply) old new t (record { begins_ = λ lane line op is. cc; answers_ = λ lane line answer is. cc }) (record { sent_ = λ other is. absurd cc; came = λ other is. absurd cc }) t (i (lost-of old new t found))
  kept-step h old (Foreign call reply) new t r i found was = same-kept h (Foreign call reply) old new t (record { begins_ = λ lane line op is. cc; answers_ = λ lane line answer is. cc }) (record { sent_ = λ other is. absurd cc; came = λ other is. absurd cc }) t (i (lost-of old new t found))
  kept-step h old (Flushed file from len) new t r i found was = same-kept h (Flushed file from len) old new t (record { begins_ = λ lane line op is. cc; answers_ = λ lane line answer is. cc }) (record { sent_ = λ other is. absurd cc; came = λ other is. absurd cc }) t (i (lost-of old new t found))
  kept-step h old (Reboot verf) new t r i found was = same-kept h (Reboot verf) old new t (record { begins_ = λ lane line op is. cc; answers_ = λ lane line answer is. cc }) (record { sent_ = λ other is. absurd cc; came = λ other is. absurd cc }) t (i (lost-of old new t found))
  kept-step h old (Clock ms) new t r i found was = same-kept h (Clock ms) old new t (record { begins_ = λ lane line op is. cc; answers_ = λ lane line answer is. cc }) (record { sent_ = λ other is. absurd cc; came = λ other is. absurd cc }) t (i (lost-of old new t found))

  pub reached-going : (h : List Entry) (v : View) → Reaches machine_of setup h v → v.lost ≡ false → I h v
  reached-going _ _ (begins h v may up fresh) found = laws.fresh h v may up fresh
  reached-going _ _ (goes h before v b e r is t) found =
      subst (λ (k : List Entry). I k v) (sym is) (kept-step before b e v t r (reached-going before b r) found (λ rec d. sym (heard-lost b rec v d) ∙ found))
  reached-going _ _ (loses h v b r shown is) found = absurd (let no_way : true ≡ false = ap (λ (w : View). w.lost) (sym is) ∙ found in cc)
