-- What the steps of lanes and the entries keep, as `syncs.WatchingAlong` of core_session, from any view of a session on.
use Rattle.core_session.proofs.Prelude.{◌≡◌, inl, inr, ℕ, List, [], ◌∷◌, ◌++◌, length, length-append, append_assoc, append-nil, ◌<◌, ◌≤◌, ◌⊎◌, arith, Bool, true, false, Option, Some, None, MatchOption, position, refl, sym, ap, subst, ◌∙◌, cases_lt, xid_at, Waiting, failed_after, waiting_at, next_xid, at_sent, before_sent, before_failed, Answer, Entry, Began, Answered, Dialed, Sent, Executed, Foreign, Flushed, Reboot, Delivered, Failed, Clock, Op, said_of, Shelf, Machine, Fits, Purpose, State, Setup, is_busy, IsIdle, numbers_of, Stirs, Moves, moves_none, moves_more, counted, StartsLane, BeginsIf, TakesAt, AnswersAt, SendsIf, View, IsUnbegun, StepsTo, HearsRecord, IsOpenLine, Reaches, goes, last_reading, Heard, dropped, replied, sent_now, FailedNow, goes_on, gives_up, failed_now, answered_now, taken_one, stirs-count, starts-count, hears-count, none-busy, heard-lost, Known, purpose_at, reached-all, LanesKnown, quiet-facts, lanes-stay, lanes-begin, lanes-under-way, Rows, rows-stay, same-rows, rows-grow, silent-grow, taken-quiet, not-sent, taken-rows, SameCalls, sent-purposes, failed-purposes, Stays, stirs-stay, starts-stay, steps-stay, At, At-below, At-cases, length_last, Passes}
use Rattle.core_facts.proofs.Cases.{heard}
use Rattle.core_session.proofs.drops.KnowingAlong.{IsPlain, NotedBefore}
use Rattle.core_session.proofs.room.Onward.{Onward}
use Rattle.core_session.proofs.room.Onward as onward
use Rattle.core_session.proofs.shown.Following.{Moved, rests, moves}
use Rattle.core_session.proofs.syncs.WatchingAlong.{SentWaits}
use Rattle.core_answers.specs.pages.Passing as passing

-- what is kept from any view on, as `KeepsWatching` has it from the beginning
pub record KeepsOn (machine_of : ℕ → Op → Machine) (setup : Setup) (I : List Entry → View → Type 0) : Type 0 where
  pub stirs : (h : List Entry) (old new : View) (at : ℕ) → Known setup h old → Stirs old at new → I h old → I h new
  pub starts : (h : List Entry) (old new : View) (lane line : ℕ) (op : Op) (now : ℕ) → Reaches machine_of setup h old → old.lost ≡ false → Known setup h old
      → IsIdle lane old.lanes → Fits (machine_of lane op) → StartsLane (counted old now) lane (machine_of lane op) new → I h old → I (h ++ Began lane line op ∷ []) new
  pub takes : (h : List Entry) (old new : View) (rec : List ℕ) (xid : ℕ) (call : Waiting Purpose) (at : ℕ) → Reaches machine_of setup h old → old.lost ≡ false
      → Known setup h old → (fin : View) → HearsRecord old rec fin → xid_at rec ≡ Some xid → waiting_at xid old.calls.calls ≡ Some call
      → position (is_busy call.purpose.lane) old.lanes ≡ Some at → TakesAt (taken_one old xid) at call.purpose.sent (said_of call.purpose.proc rec) new → I h old → I (h ++ Delivered rec ∷ []) new
  pub answers : (h : List Entry) (old new : View) (at lane line : ℕ) (answer : Answer) → Reaches machine_of setup h old → old.lost ≡ false → Known setup h old
      → Reaches machine_of setup (h ++ Answered lane line answer ∷ []) new → new.lost ≡ false → IsOpenLine h lane line → AnswersAt old at lane (Some answer) new → I h old
      → I (h ++ Answered lane line answer ∷ []) new
  pub same : (h : List Entry) (e : Entry) (old new : View) → Reaches machine_of setup h old → old.lost ≡ false → Known setup h old → IsPlain e → NotedBefore e old → SentWaits e old → new.lanes ≡ old.lanes → new.shelf ≡ old.shelf → new.wsize ≡ old.wsize → SameCalls old.calls.calls new.calls.calls → I h old
      → I (h ++ e ∷ []) new

-- what is known of whether the session is lost
unlost-stays : Stays (λ (v : View). v.lost ≡ false)
unlost-stays = record {
  makes = λ old new number call m p. ap (λ (z : View). z.lost) m.is ∙ p;
  sets = λ old at number was state shelf there p. p;
}

pub moved-unlost : (v u : View) → Moved v u → v.lost ≡ false → u.lost ≡ false
moved-unlost _ _ (rests v u is) p = ap (λ (z : View). z.lost) is ∙ p
moved-unlost _ _ (moves v mid u at t more) p = moved-unlost mid u more (stirs-stay (λ (z : View). z.lost ≡ false) unlost-stays v mid at t p)

pub passes-unlost : (machine_of : ℕ → Op → Machine) (setup : Setup) (h : List Entry) (v : View) → Passes machine_of setup h v → v.lost ≡ false
passes-unlost machine_of setup h _ (passing.rests v r found) = found
passes-unlost machine_of setup h _ (passing.stirs v old at p t) = stirs-stay (λ (z : View). z.lost ≡ false) unlost-stays old v at t (passes-unlost machine_of setup h old p)
passes-unlost machine_of setup h _ (passing.starts v old before lane line op r found is idle t) =
    starts-stay (λ (z : View). z.lost ≡ false) unlost-stays (counted old (last_reading 0 before)) v lane (machine_of lane op) (λ state shelf. found) t
passes-unlost machine_of setup h _ (passing.takes v old before rec xid at call r found is named waits there o) =
    steps-stay (λ (z : View). z.lost ≡ false) unlost-stays (taken_one old xid) v at o.number o.machine o.after o.shelf o.next o.there o.leads found

-- whether an entry is of a record that was sent
sent-or : (e : Entry) → ((bytes : List ℕ) × (e ≡ Sent bytes)) ⊎ ((bytes : List ℕ) → e ≡ Sent bytes → ⊥)
sent-or (Began lane line op) = inr (λ bytes is. cc)
sent-or (Answered lane line answer) = inr (λ bytes is. cc)
sent-or (Dialed port) = inr (λ bytes is. cc)
sent-or (Sent bytes) = inl (bytes, refl)
sent-or (Executed xid call reply) = inr (λ bytes is. cc)
sent-or (Foreign call reply) = inr (λ bytes is. cc)
sent-or (Flushed file from len) = inr (λ bytes is. cc)
sent-or (Reboot verf) = inr (λ bytes is. cc)
sent-or (Delivered bytes) = inr (λ b is. cc)
sent-or Failed = inr (λ bytes is. cc)
sent-or (Clock ms) = inr (λ bytes is. cc)

-- nothing is sent once the session is lost
sends-unlost : (b : Bool) (old : View) (bytes : List ℕ) (new : View) → old.lost ≡ b → SendsIf b old (Some bytes) new → old.lost ≡ false
sends-unlost true old bytes new was t = absurd (let no_way : Some bytes ≡ None = t.0 in cc)
sends-unlost false old bytes new was t = was

module _ (machine_of : ℕ → Op → Machine) (unbegun : (lane : ℕ) (op : Op) → IsUnbegun (machine_of lane op)) (setup : Setup) (I : List Entry → View → Type 0)
    (laws : KeepsOn machine_of setup I) where
  known-of : (h : List Entry) (v : View) → Reaches machine_of setup h v → v.lost ≡ false → Known setup h v
  known-of = reached-all machine_of unbegun setup

  record Kept (h : List Entry) (v : View) : Type 0 where
    known : Known setup h v
    is : I h v

  moves-kept : (h : List Entry) (old new : View) → Moves old new → Kept h old → Kept h new
  moves-kept h _ _ (moves_none old new is) k = subst (Kept h) (sym is) k
  moves-kept h _ _ (moves_more old mid new at m room t first) k =
      let before = moves-kept h old mid m k in
      record {
        known = record {
          rows = stirs-stay (Rows setup h) (rows-stay setup h) mid new at t before.known.rows;
          lanes = stirs-stay (LanesKnown h) (lanes-stay h) mid new at t before.known.lanes;
          known = stirs-count mid new at t before.known.known;
        };
        is = laws.stirs h mid new at before.known t before.is;
      }

  lost-of : (old new : View) → new ≡ old → new.lost ≡ false → old.lost ≡ false
  lost-of old new is found = ap (λ (v : View). v.lost) (sym is) ∙ found

  -- ---- an operation begins

  begins-kept : (b : Bool) (h : List Entry) (old new : View) (lane line : ℕ) (op : Op) → old.lost ≡ b → StepsTo machine_of h old (Began lane line op) new
      → Reaches machine_of setup h old → BeginsIf b old lane (machine_of lane op) (last_reading 0 h) new → (old.lost ≡ false → I h old) → new.lost ≡ false
      → I (h ++ Began lane line op ∷ []) new
  begins-kept true h old new lane line op was t r is i found =
      absurd (let no_way : true ≡ false = sym was ∙ ap (λ (w : View). w.lost) (sym is) ∙ found in cc)
  begins-kept false h old new lane line op was t r b i found = (moves-kept later b.first new b.rest (record { known = known; is = first })).is
    where
      later : List Entry
      later = h ++ Began lane line op ∷ []

      before : Known setup h old
      before = known-of h old r was

      pushed : (state : State) (shelf : Shelf) → LanesKnown later (record (counted old (last_reading 0 h)) { lanes = old.lanes ++ record { number = lane; state = state } ∷ []; shelf = shelf })
      pushed state shelf = lanes-begin h old lane line op before.lanes t.idle.other state

      known : Known setup later b.first
      known = record {
        rows = starts-stay (Rows setup later) (rows-stay setup later) (counted old (last_reading 0 h)) b.first lane (machine_of lane op)
            (λ state shelf. same-rows setup later old (record (counted old (last_reading 0 h)) { lanes = old.lanes ++ record { number = lane; state = state } ∷ []; shelf = shelf }) refl
            (silent-grow setup h (Began lane line op) old (record { sent = λ bytes is. cc; came = λ bytes is. cc }) before.rows)) b.own;
        lanes = starts-stay (LanesKnown later) (lanes-stay later) (counted old (last_reading 0 h)) b.first lane (machine_of lane op) pushed b.own;
        known = starts-count (counted old (last_reading 0 h)) b.first lane (machine_of lane op) (unbegun lane op) b.own
            (record { counted = before.known.counted; right = before.known.right });
      }

      first : I later b.first
      first = laws.starts h old b.first lane line op (last_reading 0 h) r was before t.idle t.fits b.own (i was)

  -- ---- a record comes

  hears-kept : (h : List Entry) (old : View) (rec : List ℕ) (xid : ℕ) (call : Waiting Purpose) (at : ℕ) (first : View) → Reaches machine_of setup h old → old.lost ≡ false → (fin : View) → HearsRecord old rec fin
      → xid_at rec ≡ Some xid → waiting_at xid old.calls.calls ≡ Some call → position (is_busy call.purpose.lane) old.lanes ≡ Some at
      → TakesAt (taken_one old xid) at call.purpose.sent (said_of call.purpose.proc rec) first → I h old → Kept (h ++ Delivered rec ∷ []) first
  hears-kept h old rec xid call at first r found fin hears named waits there o i = record {
    known = record {
      rows = steps-stay (Rows setup later) (rows-stay setup later) (taken_one old xid) first at o.number o.machine o.after o.shelf o.next o.there o.leads
          (rows-grow setup h (Delivered rec) (taken_one old xid) (taken-quiet setup h old rec xid before.rows named) (not-sent rec) (taken-rows setup h old xid before.rows));
      lanes = steps-stay (LanesKnown later) (lanes-stay later) (taken_one old xid) first at o.number o.machine o.after o.shelf o.next o.there o.leads
          (quiet-facts h (Delivered rec) (numbers_of old.lanes) (λ number. refl) before.lanes);
      known = hears-count old first rec xid call at waits there (lanes-under-way h old before.lanes).apart o before.known;
    };
    is = laws.takes h old first rec xid call at r found before fin hears named waits there o i;
  }
    where
      later : List Entry
      later = h ++ Delivered rec ∷ []

      before : Known setup h old
      before = known-of h old r found

  same-kept : (h : List Entry) (e : Entry) (old new : View) → Reaches machine_of setup h old → old.lost ≡ false → IsPlain e → NotedBefore e old → SentWaits e old → new ≡ old → I h old → I (h ++ e ∷ []) new
  same-kept h e old new r before plain noted sends is i =
      subst (I (h ++ e ∷ [])) (sym is)
      (laws.same h e old old r before (known-of h old r before) plain noted sends refl refl refl (record { waited = λ xid w at. record { was = w; waited = at; bytes = refl; purpose = refl }; purposes = λ xid. refl }) i)

  heard-kept : (h : List Entry) (old : View) (rec : List ℕ) (new : View) → old.lost ≡ false → Reaches machine_of setup h old → (fin : View) → HearsRecord old rec fin → Heard old rec new → I h old
      → I (h ++ Delivered rec ∷ []) new
  heard-kept h old rec new found r fin hears (dropped none is) i = same-kept h (Delivered rec) old new r found (record { begins_ = λ lane line op is. cc; answers_ = λ lane line answer is. cc }) (λ other same. hears.may) (λ bytes same. absurd cc) is i
  heard-kept h old rec new found r fin hears (replied xid call named waits f) i = by (position (is_busy call.purpose.lane) old.lanes) refl f.own
    where
      by : (o : Option ℕ) → position (is_busy call.purpose.lane) old.lanes ≡ o
          → MatchOption o (f.first ≡ taken_one old xid) (λ at. TakesAt (taken_one old xid) at call.purpose.sent (said_of call.purpose.proc rec) f.first)
          → I (h ++ Delivered rec ∷ []) new
      by None none is = absurd (none-busy old xid call waits none (known-of h old r found).known.counted)
      by (Some at) there o = (moves-kept (h ++ Delivered rec ∷ []) f.first new f.rest (hears-kept h old rec xid call at f.first r found fin hears named waits there o i)).is

  sent-is : (a b : List ℕ) → Sent a ≡ Sent b → a ≡ b
  sent-is a b e = cc

  -- ---- each entry

  failed-kept : (h : List Entry) (old new : View) → Reaches machine_of setup h old → FailedNow old new → (old.lost ≡ false → I h old) → new.lost ≡ false → I (h ++ Failed ∷ []) new
  failed-kept h old new r (goes_on none is) i found =
      let before : old.lost ≡ false = ap (λ (v : View). v.lost) (sym is) ∙ found in
      laws.same h Failed old new r before (known-of h old r before) (record { begins_ = λ lane line op is. cc; answers_ = λ lane line answer is. cc }) (λ rec same. absurd cc) (λ bytes same. absurd cc) (ap (λ (v : View). v.lanes) is) (ap (λ (v : View). v.shelf) is) (ap (λ (v : View). v.wsize) is)
      (record {
        waited = λ xid w at. before_failed true old.calls.calls xid w
            (sym (ap (λ (v : View). waiting_at xid v.calls.calls) is ∙ ap (λ (o : Option ℕ). waiting_at xid (failed_after o old.calls.calls)) none) ∙ at);
        purposes = λ xid.
            ap (λ (v : View). purpose_at xid v.calls.calls) is ∙ ap (λ (o : Option ℕ). purpose_at xid (failed_after o old.calls.calls)) none
            ∙ failed-purposes true xid old.calls.calls;
      })
      (i before)
  failed-kept h old new r (gives_up xid up is) i found = absurd (let no_way : true ≡ false = ap (λ (v : View). v.lost) (sym is) ∙ found in cc)

  kept-step : (h : List Entry) (old : View) (e : Entry) (new : View) → StepsTo machine_of h old e new → Reaches machine_of setup h old → (old.lost ≡ false → I h old)
      → new.lost ≡ false → ((rec : List ℕ) → Heard old rec new → old.lost ≡ false) → I (h ++ e ∷ []) new
  kept-step h old (Began lane line op) new t r i found was = begins-kept old.lost h old new lane line op refl t r t.step i found
  kept-step h old (Answered lane line answer) new t r i found was =
      let a = answered_now old lane answer new t.answers in
      let before = ap (λ (v : View). v.lost) (sym a.is.is) ∙ found in
      laws.answers h old new a.at lane line answer r before (known-of h old r before)
      (goes (h ++ Answered lane line answer ∷ []) h new old (Answered lane line answer) r refl t) found t.line_is a.is (i before)
  kept-step h old (Sent bytes) new t r i found was =
      let n = sent_now old bytes new t in
      let before : old.lost ≡ false = ap (λ (v : View). v.lost) (sym n.is) ∙ found in
      let known : Known setup h old = known-of h old r before in
      let waits = (at_sent old.calls.cred old.calls.first_xid (next_xid old.calls) n.xid old.calls.calls n.call known.rows.sound.calls.each n.due).before in
      laws.same h (Sent bytes) old new r before known (record { begins_ = λ lane line op is. cc; answers_ = λ lane line answer is. cc }) (λ rec same. absurd cc)
      (λ other same. (n.xid, n.call, waits, sym n.bytes_is ∙ sent-is bytes other same)) (ap (λ (v : View). v.lanes) n.is) (ap (λ (v : View). v.shelf) n.is) (ap (λ (v : View). v.wsize) n.is)
      (record {
        waited = λ xid w at. before_sent old.calls.calls xid w (sym (ap (λ (v : View). waiting_at xid v.calls.calls) n.is) ∙ at);
        purposes = λ xid. ap (λ (v : View). purpose_at xid v.calls.calls) n.is ∙ sent-purposes xid old.calls.calls;
      }) (i before)
  kept-step h old (Delivered bytes) new t r i found was =
      let d = heard old bytes t.result new t.hears in
      let before = was bytes d in
      heard-kept h old bytes new before r new t d (i before)
  kept-step h old Failed new (inl t) r i found was = failed-kept h old new r (failed_now old t.0 new t.1) i found
  kept-step h old Failed new (inr t) r i found was = same-kept h Failed old new r (lost-of old new t found) (record { begins_ = λ lane line op is. cc; answers_ = λ lane line answer is. cc }) (λ rec same. absurd cc) (λ bytes same. absurd cc) t (i (lost-of old new t found))
  kept-step h old (Dialed port) new t r i found was = same-kept h (Dialed port) old new r (lost-of old new t found) (record { begins_ = λ lane line op is. cc; answers_ = λ lane line answer is. cc }) (λ rec same. absurd cc) (λ bytes same. absurd cc) t (i (lost-of old new t found))
  kept-step h old (Executed xid call reply) new t r i found was = same-kept h (Executed xid call reply) old new r (lost-of old new t found) (record { begins_ = λ lane line op is. cc; answers_ = λ lane line answer is. cc }) (λ rec same. absurd cc) (λ bytes same. absurd cc) t (i (lost-of old new t found))
  kept-step h old (Foreign call reply) new t r i found was = same-kept h (Foreign call reply) old new r (lost-of old new t found) (record { begins_ = λ lane line op is. cc; answers_ = λ lane line answer is. cc }) (λ rec same. absurd cc) (λ bytes same. absurd cc) t (i (lost-of old new t found))
  kept-step h old (Flushed file from len) new t r i found was = same-kept h (Flushed file from len) old new r (lost-of old new t found) (record { begins_ = λ lane line op is. cc; answers_ = λ lane line answer is. cc }) (λ rec same. absurd cc) (λ bytes same. absurd cc) t (i (lost-of old new t found))
  kept-step h old (Reboot verf) new t r i found was = same-kept h (Reboot verf) old new r (lost-of old new t found) (record { begins_ = λ lane line op is. cc; answers_ = λ lane line answer is. cc }) (λ rec same. absurd cc) (λ bytes same. absurd cc) t (i (lost-of old new t found))
  kept-step h old (Clock ms) new t r i found was = same-kept h (Clock ms) old new r (lost-of old new t found) (record { begins_ = λ lane line op is. cc; answers_ = λ lane line answer is. cc }) (λ rec same. absurd cc) (λ bytes same. absurd cc) t (i (lost-of old new t found))

  pub onward-watching : (g : List Entry) (a : View) → (a.lost ≡ false → I g a) → (h : List Entry) (v : View) → Onward machine_of setup g a h v → v.lost ≡ false → I h v
  onward-watching g a i _ _ (onward.stays h v is same) found =
      subst (λ (k : List Entry). I k v) (sym is) (subst (I g) (sym same) (i (ap (λ (z : View). z.lost) (sym same) ∙ found)))
  onward-watching g a i _ _ (onward.steps h before v u e on r is t) found =
      subst (λ (k : List Entry). I k v) (sym is) (kept-step before u e v t r (onward-watching g a i before u on) found (λ rec d. sym (heard-lost u rec v d) ∙ found))
  onward-watching g a i _ _ (onward.drops h v u on is) found = absurd (let no_way : true ≡ false = ap (λ (w : View). w.lost) (sym is) ∙ found in cc)

  -- The last view of the session before the place n that isn't lost, and of which this is known: from there to n no record is sent.
  pub record UpTo (least : ℕ) (h : List Entry) (last : View) (n : ℕ) : Type 0 where
    pub front : List Entry
    pub rest : List Entry
    pub is : front ++ rest ≡ h
    pub view : View
    pub good : I front view
    pub found : view.lost ≡ false
    pub reached : Reaches machine_of setup front view
    pub on : Onward machine_of setup front view h last
    pub soon : length front ≤ n
    pub late : least ≤ length front
    pub silent : (j : ℕ) (bytes : List ℕ) → At h j (Sent bytes) → length front ≤ j → j < n → ⊥

  up-step : (n : ℕ) (g : List Entry) (a : View) → I g a → (before : List Entry) (u v : View) (e : Entry) → Onward machine_of setup g a before u → Reaches machine_of setup before u → StepsTo machine_of before u e v
      → UpTo (length g) before u n → UpTo (length g) (before ++ e ∷ []) v n
  up-step n g a i before u v e on r t k = by (sent-or e)
    where
      within : length k.front ≤ length before
      within = let long = length-append k.front k.rest in let same = ap (λ (z : List Entry). length z) k.is in omega (arith, long, same)

      all : k.front ++ (k.rest ++ e ∷ []) ≡ before ++ e ∷ []
      all = sym (append_assoc k.front k.rest (e ∷ [])) ∙ ap (λ (z : List Entry). z ++ e ∷ []) k.is

      as-before : ((j : ℕ) (bytes : List ℕ) → j ≡ length before → e ≡ Sent bytes → j < n → ⊥) → UpTo (length g) (before ++ e ∷ []) v n
      as-before not = record {
        front = k.front;
        rest = k.rest ++ e ∷ [];
        is = all;
        view = k.view;
        good = k.good;
        found = k.found;
        reached = k.reached;
        on = onward.steps (before ++ e ∷ []) before v u e k.on r refl t;
        soon = k.soon;
        late = k.late;
        silent = λ j bytes at late soon. elim (At-cases before e j (Sent bytes) at) [
          | inl there ↦ k.silent j bytes there late soon
          | inr here ↦ not j bytes here.0 here.1 soon
        ];
      }

      unlost : (bytes : List ℕ) → e ≡ Sent bytes → v.lost ≡ false
      unlost bytes same =
          let s = subst (λ (z : Entry). StepsTo machine_of before u z v) same t in
          let n_ = sent_now u bytes v s in
          ap (λ (z : View). z.lost) n_.is ∙ sends-unlost u.lost u bytes v refl s

      by : ((bytes : List ℕ) × (e ≡ Sent bytes)) ⊎ ((bytes : List ℕ) → e ≡ Sent bytes → ⊥) → UpTo (length g) (before ++ e ∷ []) v n
      by (inr not) = as-before (λ j bytes here same soon. not bytes same)
      by (inl (bytes, same)) = elim (cases_lt (length before) n) [
        | inr ge ↦ as-before (λ j b here same_ soon. omega (arith, here, ge, soon))
        | inl lt ↦ record {
          front = before ++ e ∷ [];
          rest = [];
          is = append-nil (before ++ e ∷ []);
          view = v;
          good = onward-watching g a (λ f. i) (before ++ e ∷ []) v (onward.steps (before ++ e ∷ []) before v u e on r refl t) (unlost bytes same);
          found = unlost bytes same;
          reached = goes (before ++ e ∷ []) before v u e r refl t;
          on = onward.stays (before ++ e ∷ []) v refl refl;
          soon = let long = length_last before e in omega (arith, long, lt);
          late = let long = length_last before e in let low = k.late in let soon = within in omega (arith, long, low, soon);
          silent = λ j b at late soon. let within = At-below (before ++ e ∷ []) j (Sent b) at in omega (arith, within, late);
        }
      ]

  pub up-to : (n : ℕ) (g : List Entry) (a : View) → Reaches machine_of setup g a → a.lost ≡ false → I g a → length g ≤ n → (h : List Entry) (v : View) → Onward machine_of setup g a h v → UpTo (length g) h v n
  up-to n g a reach found i low _ _ (onward.stays h v is same) =
      record {
        front = g;
        rest = [];
        is = append-nil g ∙ sym is;
        view = a;
        good = i;
        found = found;
        reached = reach;
        on = onward.stays h v is same;
        soon = low;
        late = omega arith;
        silent = λ j bytes at late before. let within = At-below g j (Sent bytes) (subst (λ (z : List Entry). At z j (Sent bytes)) is at) in omega (arith, within, late);
      }
  up-to n g a reach found i low _ _ (onward.drops h v u on is) =
      let k = up-to n g a reach found i low h u on in
      record { front = k.front; rest = k.rest; is = k.is; view = k.view; good = k.good; found = k.found; reached = k.reached; on = onward.drops h v u k.on is; soon = k.soon; late = k.late; silent = k.silent }
  up-to n g a reach found i low _ _ (onward.steps h before v u e on r is t) =
      subst (λ (z : List Entry). UpTo (length g) z v n) (sym is) (up-step n g a i before u v e on r t (up-to n g a reach found i low before u on))

  -- ---- what is known of the views through which the core passes

  pub passes-known : (h : List Entry) (v : View) → Passes machine_of setup h v → Known setup h v
  passes-known h _ (passing.rests v r found) = known-of h v r found
  passes-known h _ (passing.stirs v old at p t) =
      let k = passes-known h old p in
      record {
        rows = stirs-stay (Rows setup h) (rows-stay setup h) old v at t k.rows;
        lanes = stirs-stay (LanesKnown h) (lanes-stay h) old v at t k.lanes;
        known = stirs-count old v at t k.known;
      }
  passes-known h _ (passing.starts v old before lane line op r found is idle t) = subst (λ (z : List Entry). Known setup z v) (sym is) (record {
    rows = starts-stay (Rows setup later) (rows-stay setup later) (counted old (last_reading 0 before)) v lane (machine_of lane op)
        (λ state shelf. same-rows setup later old (record (counted old (last_reading 0 before)) { lanes = old.lanes ++ record { number = lane; state = state } ∷ []; shelf = shelf }) refl
        (silent-grow setup before (Began lane line op) old (record { sent = λ bytes e. cc; came = λ bytes e. cc }) k.rows)) t;
    lanes = starts-stay (LanesKnown later) (lanes-stay later) (counted old (last_reading 0 before)) v lane (machine_of lane op) (λ state shelf. lanes-begin before old lane line op k.lanes idle.other state) t;
    known = starts-count (counted old (last_reading 0 before)) v lane (machine_of lane op) (unbegun lane op) t (record { counted = k.known.counted; right = k.known.right });
  })
    where
      later : List Entry
      later = before ++ Began lane line op ∷ []

      k : Known setup before old
      k = known-of before old r found
  passes-known h _ (passing.takes v old before rec xid at call r found is named waits there o) = subst (λ (z : List Entry). Known setup z v) (sym is) (record {
    rows = steps-stay (Rows setup later) (rows-stay setup later) (taken_one old xid) v at o.number o.machine o.after o.shelf o.next o.there o.leads
        (rows-grow setup before (Delivered rec) (taken_one old xid) (taken-quiet setup before old rec xid k.rows named) (not-sent rec) (taken-rows setup before old xid k.rows));
    lanes = steps-stay (LanesKnown later) (lanes-stay later) (taken_one old xid) v at o.number o.machine o.after o.shelf o.next o.there o.leads
        (quiet-facts before (Delivered rec) (numbers_of old.lanes) (λ number. refl) k.lanes);
    known = hears-count old v rec xid call at waits there (lanes-under-way before old k.lanes).apart o k.known;
  })
    where
      later : List Entry
      later = before ++ Delivered rec ∷ []

      k : Known setup before old
      k = known-of before old r found

  -- a fact of such a view is one of each to which it moves
  pub moved-kept : (h : List Entry) (v u : View) → Moved v u → Known setup h v → I h v → I h u
  moved-kept h _ _ (rests v u is) k i = subst (I h) (sym is) i
  moved-kept h _ _ (moves v mid u at t more) k i =
      moved-kept h mid u more (record {
        rows = stirs-stay (Rows setup h) (rows-stay setup h) v mid at t k.rows;
        lanes = stirs-stay (LanesKnown h) (lanes-stay h) v mid at t k.lanes;
        known = stirs-count v mid at t k.known;
      }) (laws.stirs h v mid at k t i)
