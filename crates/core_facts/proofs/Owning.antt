-- Each record of a call that waits was sent since its operation began.
use Rattle.core_facts.proofs.Prelude.{◌≡◌, ◌<◌, ◌⊎◌, inl, inr, ℕ, List, [], ◌∷◌, ◌++◌, length, true, false, nat_eq, Option, Some, None, refl, sym, ap, subst, ◌∙◌, arith, Waiting, failed_after, Held, next_xid, made_call, waiting_at, without, others_made, others_taken, gone, Entry, Began, Answered, Dialed, Sent, Executed, Foreign, Flushed, Reboot, Delivered, Failed, Clock, Call, Op, At, HasXid, proc_of, At-below, At-cases, Machine, Purpose, Busy, Setup, record_of, counted, View, turn_at, IsUnbegun, StepsTo, Reaches, begins, goes, loses, last_reading}
use Rattle.rpc_retry.proofs.Records.{before_sent, before_failed}
use borrow.Author.Tests.{eqb-true}
use Rattle.rpc_retry.specs.Records.{WaitedAs}
use Rattle.core_facts.specs.Counted.{AreCounted, AreOwned}
use Rattle.core_facts.proofs.Cases.{Heard, dropped, replied, heard, sent_now, FailedNow, goes_on, gives_up, failed_now, answered_now, taken_one}
use Rattle.core_facts.proofs.Counting.{calls-some, known-some, reached-known, none-idle}
use Rattle.core_facts.proofs.LaneMarks.{lanes-under-way, reached-lanes}
use Rattle.core_facts.proofs.Rows.{Rows, rows-stay, same-rows, taken-rows, rows-grow, silent-grow, taken-quiet, not-sent, rows-step, reached-rows}
use Rattle.core_facts.proofs.Walks.{Stays, begins-stay, hears-for-stay}

-- each operation that the call's lane has begun began before each record of it was sent
abbrev pub IsSince : List Entry → ℕ → Waiting Purpose → Type 0
IsSince h xid call =
    (k line : ℕ) (op : Op) → At h k (Began call.purpose.lane line op) → (i : ℕ) (bytes : List ℕ) → At h i (Sent bytes) → HasXid bytes xid → k < i

abbrev pub AllSince : List Entry → View → Type 0
AllSince h v = (xid : ℕ) (call : Waiting Purpose) → waiting_at xid v.calls.calls ≡ Some call → IsSince h xid call

some-is : (x y : Waiting Purpose) → Some x ≡ Some y → x ≡ y
some-is x y e = cc

since-grow : (h : List Entry) (e : Entry) (xid : ℕ) (call : Waiting Purpose) → ((line : ℕ) (op : Op) → e ≡ Began call.purpose.lane line op → ⊥) → IsSince h xid call → IsSince (h ++ e ∷ []) xid call
since-grow h e xid call other s k line op began i bytes at has = by (At-cases h e k (Began call.purpose.lane line op) began) (At-cases h e i (Sent bytes) at)
  where
    by : At h k (Began call.purpose.lane line op) ⊎ ((k ≡ length h) × (e ≡ Began call.purpose.lane line op)) → At h i (Sent bytes) ⊎ ((i ≡ length h) × (e ≡ Sent bytes)) → k < i
    by (inl p) (inl q) = s k line op p i bytes q has
    by (inl p) (inr q) = let below = At-below h k (Began call.purpose.lane line op) p in let is = q.0 in omega (arith, below, is)
    by (inr p) q = absurd (other line op p.1)

-- the same call, as far as its operation goes
since-same : (h : List Entry) (xid : ℕ) (was call : Waiting Purpose) → call.purpose ≡ was.purpose → IsSince h xid was → IsSince h xid call
since-same h xid was call same s k line op began = s k line op (subst (λ (p : Purpose). At h k (Began p.lane line op)) same began)

pub record Since (setup : Setup) (h : List Entry) (v : View) : Type 0 where
  pub rows : Rows setup h v
  pub since : v.lost ≡ false → AllSince h v

-- a call that was made wasn't sent yet
made-since : (setup : Setup) (h : List Entry) (old : View) (number : ℕ) (call : Call) (args : List ℕ) → Since setup h old → old.lost ≡ false
    → (xid : ℕ) (c : Waiting Purpose) → waiting_at xid (old.calls.calls ++ (next_xid old.calls, made_call (record_of old call args) (record { lane = number; proc = proc_of call; sent = turn_at old })) ∷ []) ≡ Some c → IsSince h xid c
made-since setup h old number call args s found xid c at =
    let w : Waiting Purpose = made_call (record_of old call args) (record { lane = number; proc = proc_of call; sent = turn_at old }) in
    let next : ℕ = next_xid old.calls in
    (elim (nat_eq xid next) as (λ b. nat_eq xid next ≡ b → IsSince h xid c) [
      | true ↦ λ d k line op began i bytes sent_at has.
          let same : xid ≡ next = eqb-true xid next d in
          let low = s.rows.used i xid bytes sent_at has in
          absurd (omega (arith, same, low))
      | false ↦ λ d. s.since found xid c (sym (others_made xid next old.calls.calls w d) ∙ at)
    ]) refl

since-stays : (setup : Setup) (h : List Entry) → Stays (Since setup h)
since-stays setup h = record {
  makes = λ old new number call m s. subst (Since setup h) (sym m.is) (record {
    rows = subst (Rows setup h) m.is ((rows-stay setup h).makes old new number call m s.rows);
    since = λ found. made-since setup h old number call m.args s found;
  });
  sets = λ old at number was state shelf there s. record { rows = (rows-stay setup h).sets old at number was state shelf there s.rows; since = s.since };
}

taken-since : (setup : Setup) (h : List Entry) (old : View) (xid : ℕ) → Rows setup h old → AllSince h old → AllSince h (taken_one old xid)
taken-since setup h old xid r s x c at = (elim (nat_eq x xid) as (λ b. nat_eq x xid ≡ b → IsSince h x c) [
  | true ↦ λ d. absurd (still-waits (eqb-true x xid d))
  | false ↦ λ d. s x c (sym (others_taken x xid old.calls.calls d) ∙ at)
]) refl
  where
    still-waits : x ≡ xid → ⊥
    still-waits same =
        let none : waiting_at xid (without xid old.calls.calls) ≡ None = gone old.calls.cred old.calls.first_xid (next_xid old.calls) xid old.calls.calls r.sound.calls.each in
        let there : waiting_at xid (without xid old.calls.calls) ≡ Some c = ap (λ (n : ℕ). waiting_at n (without xid old.calls.calls)) (sym same) ∙ at in
        let no_way : None ≡ Some c = sym none ∙ there in
        cc

-- the calls that waited, with the same purposes
waited-since : (h : List Entry) (old new : View) → ((xid : ℕ) (call : Waiting Purpose) → waiting_at xid new.calls.calls ≡ Some call → WaitedAs old.calls.calls xid call) → AllSince h old → AllSince h new
waited-since h old new was s xid call at = let w = was xid call at in since-same h xid w.was call w.purpose (s xid w.was w.waited)

unchanged : (v new : View) → new.calls ≡ v.calls → (xid : ℕ) (call : Waiting Purpose) → waiting_at xid new.calls.calls ≡ Some call → WaitedAs v.calls.calls xid call
unchanged v new same xid call at = record { was = call; waited = ap (λ (c : Held Purpose). waiting_at xid c.calls) (sym same) ∙ at; bytes = refl; purpose = refl }

all-grow : (h : List Entry) (e : Entry) (v : View) → ((lane line : ℕ) (op : Op) → e ≡ Began lane line op → ⊥) → AllSince h v → AllSince (h ++ e ∷ []) v
all-grow h e v other s xid call at = since-grow h e xid call (other call.purpose.lane) (s xid call at)

module _ (machine_of : ℕ → Op → Machine) (none : (lane : ℕ) (op : Op) → IsUnbegun (machine_of lane op)) (setup : Setup) where
  abbrev pub IfSince : List Entry → View → Type 0
  IfSince h v = v.lost ≡ false → AllSince h v

  began-same : (a b line other : ℕ) (op o : Op) → Began a line op ≡ Began b other o → a ≡ b
  began-same a b line other op o e = cc

  begins-since : (h : List Entry) (old new : View) (lane line : ℕ) (op : Op) → StepsTo machine_of h old (Began lane line op) new → Rows setup (h ++ Began lane line op ∷ []) old → (old.lost ≡ false → AreCounted old)
      → IfSince h old → Since setup (h ++ Began lane line op ∷ []) new
  begins-since h old new lane line op t rows c s =
      begins-stay (Since setup (h ++ Began lane line op ∷ [])) (since-stays setup (h ++ Began lane line op ∷ [])) old new lane (machine_of lane op) (last_reading 0 h)
      (λ state shelf. record {
        rows = same-rows setup (h ++ Began lane line op ∷ []) old (record (counted old (last_reading 0 h)) { lanes = old.lanes ++ record { number = lane; state = state } ∷ []; shelf = shelf }) refl rows;
        since = λ found xid call at. since-grow h (Began lane line op) xid call
            (λ l o is. none-idle old lane xid call t.idle.other (c found) at (sym (began-same lane call.purpose.lane line l op o is))) (s found xid call at);
      }) t.step

  heard-since : (h : List Entry) (old : View) (rec : List ℕ) (new : View) → Heard old rec new → Rows setup h old → Rows setup (h ++ Delivered rec ∷ []) new → IfSince h old → IfSince (h ++ Delivered rec ∷ []) new
  heard-since h old rec new (dropped no_call is) r later s = λ found.
      waited-since (h ++ Delivered rec ∷ []) old new (unchanged old new (ap (λ (v : View). v.calls) is))
      (all-grow h (Delivered rec) old (λ lane line op e. not-began rec lane line op e) (s (ap (λ (v : View). v.lost) (sym is) ∙ found)))
    where
      not-began : (bytes : List ℕ) (lane line : ℕ) (op : Op) → Delivered bytes ≡ Began lane line op → ⊥
      not-began bytes lane line op e = cc
  heard-since h old rec new (replied xid call named waits t) r later s = λ found.
      (hears-for-stay (Since setup (h ++ Delivered rec ∷ [])) (since-stays setup (h ++ Delivered rec ∷ [])) (taken_one old xid) new rec call.purpose t (record {
        rows = rows-grow setup h (Delivered rec) (taken_one old xid) (taken-quiet setup h old rec xid r named) (not-sent rec) (taken-rows setup h old xid r);
        since = λ ok. all-grow h (Delivered rec) (taken_one old xid) (λ lane line op e. not-began rec lane line op e) (taken-since setup h old xid r (s ok));
      })).since found
    where
      not-began : (bytes : List ℕ) (lane line : ℕ) (op : Op) → Delivered bytes ≡ Began lane line op → ⊥
      not-began bytes lane line op e = cc

  failed-since : (h : List Entry) (old new : View) → FailedNow old new → IfSince h old → IfSince (h ++ Failed ∷ []) new
  failed-since h old new (goes_on up is) s = λ found.
      waited-since (h ++ Failed ∷ []) old new (λ xid call at. before_failed true old.calls.calls xid call
      (sym (ap (λ (v : View). waiting_at xid v.calls.calls) is ∙ ap (λ (o : Option ℕ). waiting_at xid (failed_after o old.calls.calls)) up) ∙ at))
      (all-grow h Failed old (λ lane line op e. cc) (s (ap (λ (v : View). v.lost) (sym is) ∙ found)))
  failed-since h old new (gives_up xid up is) s = λ found. absurd (let no_way : true ≡ false = ap (λ (v : View). v.lost) (sym is) ∙ found in cc)

  same-since : (h : List Entry) (e : Entry) (old new : View) → ((lane line : ℕ) (op : Op) → e ≡ Began lane line op → ⊥) → new ≡ old → IfSince h old → IfSince (h ++ e ∷ []) new
  same-since h e old new other is s = subst (IfSince (h ++ e ∷ [])) (sym is) (λ found. all-grow h e old other (s found))

  since-step : (h : List Entry) (old : View) (e : Entry) (new : View) → StepsTo machine_of h old e new → Rows setup h old → Rows setup (h ++ e ∷ []) new → (old.lost ≡ false → AreCounted old)
      → IfSince h old → IfSince (h ++ e ∷ []) new
  since-step h old (Began lane line op) new t r later c s =
      (begins-since h old new lane line op t (silent-grow setup h (Began lane line op) old (record { sent = λ bytes is. cc; came = λ bytes is. cc }) r) c s).since
  since-step h old (Answered lane line answer) new t r later c s = λ found.
      let a = answered_now old lane answer new t.answers in
      waited-since (h ++ Answered lane line answer ∷ []) old new (unchanged old new (ap (λ (v : View). v.calls) a.is.is))
      (all-grow h (Answered lane line answer) old (λ l n op e. cc) (s (ap (λ (v : View). v.lost) (sym a.is.is) ∙ found)))
  since-step h old (Sent bytes) new t r later c s = λ found.
      let n = sent_now old bytes new t in
      waited-since (h ++ Sent bytes ∷ []) old new (λ xid call at. before_sent old.calls.calls xid call (ap (λ (v : View). waiting_at xid v.calls.calls) (sym n.is) ∙ at))
      (all-grow h (Sent bytes) old (λ lane line op e. cc) (s (ap (λ (v : View). v.lost) (sym n.is) ∙ found)))
  since-step h old (Delivered bytes) new t r later c s = heard-since h old bytes new (heard old bytes t.result new t.hears) r later s
  since-step h old Failed new (inl t) r later c s = failed-since h old new (failed_now old t.0 new t.1) s
  since-step h old Failed new (inr t) r later c s = same-since h Failed old new (λ lane line op e. cc) t s
  since-step h old (Dialed port) new t r later c s = same-since h (Dialed port) old new (λ lane line op e. cc) t s
  since-step h old (Executed xid call reply) new t r later c s = same-since h (Executed xid call reply) old new (λ lane line op e. cc) t s
  since-step h old (Foreign call reply) new t r later c s = same-since h (Foreign call reply) old new (λ lane line op e. cc) t s
  since-step h old (Flushed file from len) new t r later c s = same-since h (Flushed file from len) old new (λ lane line op e. cc) t s
  since-step h old (Reboot verf) new t r later c s = same-since h (Reboot verf) old new (λ lane line op e. cc) t s
  since-step h old (Clock ms) new t r later c s = same-since h (Clock ms) old new (λ lane line op e. cc) t s

  pub reached-since : (h : List Entry) (v : View) → Reaches machine_of setup h v → IfSince h v
  reached-since _ _ (begins h v may up fresh) = λ found xid call at.
      absurd (let no_way : None ≡ Some call = sym (ap (λ (c : Held Purpose). waiting_at xid c.calls) fresh.calls) ∙ at in cc)
  reached-since _ _ (goes h before v b e r is t) =
      let rows = reached-rows machine_of setup before b r in
      subst (λ (k : List Entry). IfSince k v) (sym is)
      (since-step before b e v t rows (rows-step machine_of setup before b e v t rows) (reached-known machine_of none setup before b r) (reached-since before b r))
  reached-since _ _ (loses h v b r shown is) = λ found. absurd (let no_way : true ≡ false = ap (λ (w : View). w.lost) (sym is) ∙ found in cc)

  pub reached-owned : (h : List Entry) (v : View) → Reaches machine_of setup h v → v.lost ≡ false → AreOwned h v
  reached-owned h v r found =
      let c = reached-known machine_of none setup h v r found in
      let lanes = lanes-under-way h v (reached-lanes machine_of setup h v r) in
      record {
        counted = c;
        owned = λ xid call at.
            let some = calls-some xid v.calls.calls call at in
            let all = c call.purpose.lane in
            let k = known-some call.purpose.lane v.lanes (omega (arith, some, all)) in
            let busy = lanes.busy k.at (record { number = call.purpose.lane; state = Busy k.machine }) k.there in
            record {
              at = k.at;
              machine = k.machine;
              there = k.there;
              x = busy.x;
              op = busy.op;
              under_way = busy.under_way;
              since = λ i bytes sent_at has. reached-since h v r found xid call at busy.x busy.under_way.line busy.op busy.under_way.began i bytes sent_at has;
            };
      }
