-- What the steps of lanes keep of the core's view, as long as the session isn't lost.
use Rattle.core_facts.proofs.Prelude.{◌≡◌, ◌≢◌, ◌+◌, ◌-◌, inl, inr, ℕ, List, [], ◌∷◌, ◌++◌, Bool, true, false, cond, nat_eq, Option, Some, None, MatchOption, option_map, position, slice_get, Result, refl, sym, ap, subst, ◌∙◌, arith, eqb-true, xid_at, Waiting, failed_after, waiting_at, Answer, Entry, Began, Answered, Dialed, Sent, Executed, Foreign, Flushed, Reboot, Delivered, Failed, Clock, Op, said_of, Shelf, Machine, Purpose, State, Busy, Setup, IsFresh, is_busy, numbers_of, Stirs, Moves, moves_none, moves_more, counted, StartsLane, BeginsIf, TakesAt, AnswersAt, View, in_flight, IsUnbegun, calls_for, StepsTo, Reaches, begins, goes, loses, last_reading}
use Rattle.rpc_retry.specs.Waiting.{sent, sent_call, failed, failed_call}
use Rattle.client_core.specs.Numbers.{IsIdle}
use Rattle.core_facts.proofs.Cases.{Heard, dropped, replied, heard, sent_now, FailedNow, goes_on, gives_up, failed_now, answered_now, taken_one}
use Rattle.core_facts.proofs.Counting.{IsKnown, calls-some, known-only, stirs-count, starts-count, hears-count, reached-count, none-busy, heard-lost}
use Rattle.core_facts.proofs.Lists.{at-position}
use Rattle.core_facts.proofs.LaneMarks.{LanesKnown, quiet-facts, lanes-stay, lanes-begin, lanes-under-way, reached-lanes}
use Rattle.core_facts.proofs.Rows.{Rows, rows-stay, same-rows, rows-grow, silent-grow, taken-quiet, not-sent, taken-rows, reached-rows}
use Rattle.core_facts.proofs.Walks.{stirs-stay, starts-stay, steps-stay}

-- what is known of each view on the way
pub record Known (setup : Setup) (h : List Entry) (v : View) : Type 0 where
  pub rows : Rows setup h v
  pub lanes : LanesKnown h v
  pub known : IsKnown v

-- the purpose of the call that waits under an xid
abbrev pub purpose_at : ℕ → List (ℕ × Waiting Purpose) → Option Purpose
purpose_at xid calls = option_map (λ (w : Waiting Purpose). w.purpose) (waiting_at xid calls)

-- A fact of a view that holds of a fresh core, and that each step of a lane keeps, also where an operation begins or a reply comes, each answer that
-- is fetched, and what leaves lanes, shelf and the purposes of the calls as they are.
pub record Keeps (machine_of : ℕ → Op → Machine) (setup : Setup) (I : View → Type 0) : Type 0 where
  pub fresh : (v : View) → IsFresh setup v → I v
  pub stirs : (h : List Entry) (old new : View) (at : ℕ) → Known setup h old → Stirs old at new → I old → I new
  pub starts : (h : List Entry) (old new : View) (lane : ℕ) (op : Op) (now : ℕ) → Known setup h old → IsIdle lane old.lanes
      → StartsLane (counted old now) lane (machine_of lane op) new → I old → I new
  pub takes : (h : List Entry) (old new : View) (rec : List ℕ) (xid : ℕ) (call : Waiting Purpose) (at : ℕ) → Known setup h old
      → waiting_at xid old.calls.calls ≡ Some call → position (is_busy call.purpose.lane) old.lanes ≡ Some at
      → TakesAt (taken_one old xid) at call.purpose.sent (said_of call.purpose.proc rec) new → I old → I new
  pub answers : (h : List Entry) (old new : View) (at lane : ℕ) (answer : Answer) → Known setup h old → AnswersAt old at lane (Some answer) new → I old → I new
  pub same : (old new : View) → new.lanes ≡ old.lanes → new.shelf ≡ old.shelf
      → ((xid : ℕ) → purpose_at xid new.calls.calls ≡ purpose_at xid old.calls.calls) → I old → I new

-- ---- sendings and failures leave the purposes

sent-purposes : (xid : ℕ) (es : List (ℕ × Waiting Purpose)) → purpose_at xid (sent es) ≡ purpose_at xid es
sent-purposes xid [] = refl
sent-purposes xid (e ∷ es) =
    let rest = sent-purposes xid es in
    elim e.1.due as (λ b. purpose_at xid (cond b ((e.0, sent_call e.1) ∷ es) (e ∷ sent es)) ≡ purpose_at xid (e ∷ es)) [
      | true ↦ elim (nat_eq xid e.0) as (λ c. option_map (λ (w : Waiting Purpose). w.purpose) (cond c (Some (sent_call e.1)) (waiting_at xid es))
          ≡ option_map (λ (w : Waiting Purpose). w.purpose) (cond c (Some e.1) (waiting_at xid es))) [ true ↦ refl | false ↦ refl ]
      | false ↦ elim (nat_eq xid e.0) as (λ c. option_map (λ (w : Waiting Purpose). w.purpose) (cond c (Some e.1) (waiting_at xid (sent es)))
          ≡ option_map (λ (w : Waiting Purpose). w.purpose) (cond c (Some e.1) (waiting_at xid es))) [ true ↦ refl | false ↦ rest ]
    ]

failed-purposes : (again : Bool) (xid : ℕ) (es : List (ℕ × Waiting Purpose)) → purpose_at xid (failed again es) ≡ purpose_at xid es
failed-purposes again xid [] = refl
failed-purposes again xid (e ∷ es) =
    let rest = failed-purposes again xid es in
    elim (nat_eq xid e.0) as (λ c. option_map (λ (w : Waiting Purpose). w.purpose) (cond c (Some (failed_call again e.1)) (waiting_at xid (failed again es)))
    ≡ option_map (λ (w : Waiting Purpose). w.purpose) (cond c (Some e.1) (waiting_at xid es))) [
      | true ↦ failed-purpose again e.1
      | false ↦ rest
    ]
  where
    failed-purpose : (again : Bool) (w : Waiting Purpose) → Some (failed_call again w).purpose ≡ Some w.purpose
    failed-purpose true w = refl
    failed-purpose false w = refl

-- as many calls of its lane wait as an operation knows of
pub lane-count : (setup : Setup) (h : List Entry) (v : View) (at number : ℕ) (machine : Machine) → Known setup h v
    → slice_get v.lanes at ≡ Some (record { number = number; state = Busy machine }) → calls_for number v.calls.calls ≡ in_flight machine
lane-count setup h v at number machine k busy =
    k.known.counted number ∙ known-only number v.lanes at (Busy machine) busy
    (λ j l here same. (lanes-under-way h v k.lanes).apart j at l (record { number = number; state = Busy machine }) here busy same)

-- ---- the operation whose call is answered

module _ (setup : Setup) (h : List Entry) (old : View) (xid : ℕ) (call : Waiting Purpose) (at : ℕ) (k : Known setup h old) (waits : waiting_at xid old.calls.calls ≡ Some call)
    (there : position (is_busy call.purpose.lane) old.lanes ≡ Some at) (number : ℕ) (machine : Machine)
    (busy : slice_get old.lanes at ≡ Some (record { number = number; state = Busy machine })) where
  pub taker-is : number ≡ call.purpose.lane
  taker-is = eqb-true number call.purpose.lane (at-position (is_busy call.purpose.lane) old.lanes at (record { number = number; state = Busy machine }) there busy)

  pub taker-count : calls_for number old.calls.calls ≡ in_flight machine
  taker-count = lane-count setup h old at number machine k busy

  pub taker-one : in_flight machine ≡ (in_flight machine - 1) + 1
  taker-one =
      let some = calls-some xid old.calls.calls call waits in
      let all : calls_for call.purpose.lane old.calls.calls ≡ in_flight machine = ap (λ (n : ℕ). calls_for n old.calls.calls) (sym taker-is) ∙ taker-count in
      omega (arith, some, all)

-- ---- a session that isn't lost

pub reached-all : (machine_of : ℕ → Op → Machine) → ((lane : ℕ) (op : Op) → IsUnbegun (machine_of lane op)) → (setup : Setup) (h : List Entry) (v : View)
    → Reaches machine_of setup h v → v.lost ≡ false → Known setup h v
reached-all machine_of unbegun setup h v r found = record {
  rows = reached-rows machine_of setup h v r;
  lanes = reached-lanes machine_of setup h v r;
  known = reached-count machine_of unbegun setup h v r found;
}

module _ (machine_of : ℕ → Op → Machine) (unbegun : (lane : ℕ) (op : Op) → IsUnbegun (machine_of lane op)) (setup : Setup) (I : View → Type 0)
    (laws : Keeps machine_of setup I) where
  known-of : (h : List Entry) (v : View) → Reaches machine_of setup h v → v.lost ≡ false → Known setup h v
  known-of = reached-all machine_of unbegun setup

  pub record Kept (h : List Entry) (v : View) : Type 0 where
    pub known : Known setup h v
    pub is : I v

  moves-kept : (h : List Entry) (old new : View) → Moves old new → Kept h old → Kept h new
  moves-kept h _ _ (moves_none old new is) k = subst (Kept h) (sym is) k
  moves-kept h _ _ (moves_more old mid new at m room t first) k =
      let before = moves-kept h old mid m k in
      record {
        known = record {
          rows = stirs-stay (Rows setup h) (rows-stay setup h) mid new at t before.known.rows;
          lanes = stirs-stay (LanesKnown h) (lanes-stay h) mid new at t before.known.lanes;
          known = stirs-count mid new at t before.known.known;
        };
        is = laws.stirs h mid new at before.known t before.is;
      }

  lost-of : (old new : View) → new ≡ old → new.lost ≡ false → old.lost ≡ false
  lost-of old new is found = ap (λ (v : View). v.lost) (sym is) ∙ found

  -- ---- an operation begins

  begins-kept : (b : Bool) (h : List Entry) (old new : View) (lane line : ℕ) (op : Op) → old.lost ≡ b → StepsTo machine_of h old (Began lane line op) new
      → Reaches machine_of setup h old → BeginsIf b old lane (machine_of lane op) (last_reading 0 h) new → (old.lost ≡ false → I old) → new.lost ≡ false → I new
  begins-kept true h old new lane line op was t r is i found =
      absurd (let no_way : true ≡ false = sym was ∙ ap (λ (w : View). w.lost) (sym is) ∙ found in cc)
  begins-kept false h old new lane line op was t r b i found = (moves-kept later b.first new b.rest (record { known = known; is = first })).is
    where
      later : List Entry
      later = h ++ Began lane line op ∷ []

      before : Known setup h old
      before = known-of h old r was

      pushed : (state : State) (shelf : Shelf) → LanesKnown later (record (counted old (last_reading 0 h)) { lanes = old.lanes ++ record { number = lane; state = state } ∷ []; shelf = shelf })
      pushed state shelf = lanes-begin h old lane line op before.lanes t.idle.other state

      known : Known setup later b.first
      known = record {
        rows = starts-stay (Rows setup later) (rows-stay setup later) (counted old (last_reading 0 h)) b.first lane (machine_of lane op)
            (λ state shelf. same-rows setup later old (record (counted old (last_reading 0 h)) { lanes = old.lanes ++ record { number = lane; state = state } ∷ []; shelf = shelf }) refl
            (silent-grow setup h (Began lane line op) old (record { sent = λ bytes is. cc; came = λ bytes is. cc }) before.rows)) b.own;
        lanes = starts-stay (LanesKnown later) (lanes-stay later) (counted old (last_reading 0 h)) b.first lane (machine_of lane op) pushed b.own;
        known = starts-count (counted old (last_reading 0 h)) b.first lane (machine_of lane op) (unbegun lane op) b.own
            (record { counted = before.known.counted; right = before.known.right });
      }

      first : I b.first
      first = laws.starts h old b.first lane op (last_reading 0 h) before t.idle b.own (i was)

  -- ---- a record comes

  hears-kept : (h : List Entry) (old : View) (rec : List ℕ) (xid : ℕ) (call : Waiting Purpose) (at : ℕ) (first : View) → Reaches machine_of setup h old → old.lost ≡ false
      → xid_at rec ≡ Some xid → waiting_at xid old.calls.calls ≡ Some call → position (is_busy call.purpose.lane) old.lanes ≡ Some at
      → TakesAt (taken_one old xid) at call.purpose.sent (said_of call.purpose.proc rec) first → I old → Kept (h ++ Delivered rec ∷ []) first
  hears-kept h old rec xid call at first r found named waits there o i = record {
    known = record {
      rows = steps-stay (Rows setup later) (rows-stay setup later) (taken_one old xid) first at o.number o.machine o.after o.shelf o.next o.there o.leads
          (rows-grow setup h (Delivered rec) (taken_one old xid) (taken-quiet setup h old rec xid before.rows named) (not-sent rec) (taken-rows setup h old xid before.rows));
      lanes = steps-stay (LanesKnown later) (lanes-stay later) (taken_one old xid) first at o.number o.machine o.after o.shelf o.next o.there o.leads
          (quiet-facts h (Delivered rec) (numbers_of old.lanes) (λ number. refl) before.lanes);
      known = hears-count old first rec xid call at waits there (lanes-under-way h old before.lanes).apart o before.known;
    };
    is = laws.takes h old first rec xid call at before waits there o i;
  }
    where
      later : List Entry
      later = h ++ Delivered rec ∷ []

      before : Known setup h old
      before = known-of h old r found

  heard-kept : (h : List Entry) (old : View) (rec : List ℕ) (new : View) → old.lost ≡ false → Reaches machine_of setup h old → Heard old rec new → I old → I new
  heard-kept h old rec new found r (dropped none is) i = subst I (sym is) i
  heard-kept h old rec new found r (replied xid call named waits f) i = by (position (is_busy call.purpose.lane) old.lanes) refl f.own
    where
      by : (o : Option ℕ) → position (is_busy call.purpose.lane) old.lanes ≡ o
          → MatchOption o (f.first ≡ taken_one old xid) (λ at. TakesAt (taken_one old xid) at call.purpose.sent (said_of call.purpose.proc rec) f.first) → I new
      by None none is = absurd (none-busy old xid call waits none (reached-count machine_of unbegun setup h old r found).counted)
      by (Some at) there o = (moves-kept (h ++ Delivered rec ∷ []) f.first new f.rest (hears-kept h old rec xid call at f.first r found named waits there o i)).is

  -- ---- each entry

  failed-kept : (old new : View) → FailedNow old new → (old.lost ≡ false → I old) → new.lost ≡ false → I new
  failed-kept old new (goes_on none is) i found =
      laws.same old new (ap (λ (v : View). v.lanes) is) (ap (λ (v : View). v.shelf) is)
      (λ xid.
      ap (λ (v : View). purpose_at xid v.calls.calls) is ∙ ap (λ (o : Option ℕ). purpose_at xid (failed_after o old.calls.calls)) none ∙ failed-purposes true xid old.calls.calls)
      (i (ap (λ (v : View). v.lost) (sym is) ∙ found))
  failed-kept old new (gives_up xid up is) i found = absurd (let no_way : true ≡ false = ap (λ (v : View). v.lost) (sym is) ∙ found in cc)

  kept-step : (h : List Entry) (old : View) (e : Entry) (new : View) → StepsTo machine_of h old e new → Reaches machine_of setup h old → (old.lost ≡ false → I old)
      → new.lost ≡ false → ((rec : List ℕ) → Heard old rec new → old.lost ≡ false) → I new
  kept-step h old (Began lane line op) new t r i found was = begins-kept old.lost h old new lane line op refl t r t.step i found
  kept-step h old (Answered lane line answer) new t r i found was =
      let a = answered_now old lane answer new t.answers in
      let before = ap (λ (v : View). v.lost) (sym a.is.is) ∙ found in
      laws.answers h old new a.at lane answer (known-of h old r before) a.is (i before)
  kept-step h old (Sent bytes) new t r i found was =
      let n = sent_now old bytes new t in
      laws.same old new (ap (λ (v : View). v.lanes) n.is) (ap (λ (v : View). v.shelf) n.is)
      (λ xid. ap (λ (v : View). purpose_at xid v.calls.calls) n.is ∙ sent-purposes xid old.calls.calls) (i (ap (λ (v : View). v.lost) (sym n.is) ∙ found))
  kept-step h old (Delivered bytes) new t r i found was =
      let d = heard old bytes t.result new t.hears in
      let before = was bytes d in
      heard-kept h old bytes new before r d (i before)
  kept-step h old Failed new (inl t) r i found was = failed-kept old new (failed_now old t.0 new t.1) i found
  kept-step h old Failed new (inr t) r i found was = subst I (sym t) (i (lost-of old new t found))
  kept-step h old (Dialed port) new t r i found was = subst I (sym t) (i (lost-of old new t found))
  kept-step h old (Executed xid call reply) new t r i found was = subst I (sym t) (i (lost-of old new t found))
  kept-step h old (Foreign call reply) new t r i found was = subst I (sym t) (i (lost-of old new t found))
  kept-step h old (Flushed file from len) new t r i found was = subst I (sym t) (i (lost-of old new t found))
  kept-step h old (Reboot verf) new t r i found was = subst I (sym t) (i (lost-of old new t found))
  kept-step h old (Clock ms) new t r i found was = subst I (sym t) (i (lost-of old new t found))

  pub reached-kept : (h : List Entry) (v : View) → Reaches machine_of setup h v → v.lost ≡ false → I v
  reached-kept _ _ (begins h v may up fresh) found = laws.fresh v fresh
  reached-kept _ _ (goes h before v b e r is t) found =
      kept-step before b e v t r (reached-kept before b r) found (λ rec d. sym (heard-lost b rec v d) ∙ found)
  reached-kept _ _ (loses h v b r shown is) found = absurd (let no_way : true ≡ false = ap (λ (w : View). w.lost) (sym is) ∙ found in cc)
