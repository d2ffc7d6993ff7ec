-- Each xid of a call that was made was sent, or its call waits.
use Rattle.core_answers.proofs.Prelude.{◌≡◌, ◌<◌, ◌≤◌, ◌+◌, ◌⊎◌, inl, inr, nat_eq, ℕ, Bool, true, false, List, [], ◌∷◌, ◌++◌, length, cond, slice_get, Option, Some, None, refl, sym, ap, subst, ◌∙◌, arith, eqb-true, eqb-false, eq-eqb, cases_lt, Waiting, failed_after, next_xid, made_call, waiting_at, without, at_made, others_made, others_taken, Entry, Began, Answered, Dialed, Executed, Foreign, Flushed, Reboot, Delivered, Failed, Clock, Call, Op, At, HasXid, proc_of, At-grow, At-below, At-cases, At-last, length_last, Mounted, Machine, machine_of, Lane, Purpose, Setup, record_of, counted, View, turn_at, StepsTo, Reaches, begins, goes, loses, last_reading, IsOutstanding, Heard, dropped, replied, sent_now, FailedNow, goes_on, gives_up, failed_now, answered_now, taken_one, calls_for, begins-unbegun, calls-some, reached-count, Rows, rows-stay, same-rows, taken-rows, rows-grow, silent-grow, taken-quiet, not-sent, reached-rows, Stays, begins-stay, hears-for-stay}
use Rattle.rpc_retry.specs.Held.{Held}
use Rattle.rpc_retry.specs.Waiting.{sent, sent_call, failed, failed_call}
use Rattle.world_model.specs.declared.entry.Entry.TheVariants.{Sent}
use Rattle.client_core.specs.Steps.{WereSent}
use Rattle.core_facts.specs.Reaches.{HearsRecord}
use Rattle.core_facts.specs.Tries.{Tried, unsent, runs, ended}
use Rattle.core_facts.proofs.Cases.{heard}
use Rattle.core_facts.proofs.Counting.{known-none}
use Rattle.core_facts.proofs.Hearing.{was-sent}
use Rattle.world_model.specs.declared.answer.Answer.TheVariants as answers
use Rattle.world_model.specs.declared.answer.Fault.TheVariants as faults
use Rattle.world_model.specs.Rows.{WasSent}
use Rattle.core_answers.specs.limits.Limited.{AllSent, SentByThen}
use Rattle.core_answers.proofs.limits.Unspent.{all-made, made-by}

-- ---- sendings and failures leave the calls that wait

abbrev Waits : ℕ → List (ℕ × Waiting Purpose) → Type 0
Waits xid es = (call : Waiting Purpose) × (waiting_at xid es ≡ Some call)

sent-waits : (xid : ℕ) (es : List (ℕ × Waiting Purpose)) → Waits xid es → Waits xid (sent es)
sent-waits xid [] w = w
sent-waits xid (e ∷ es) w = by e.1.due (sent-waits xid es)
  where
    first : (b : Bool) (call : Waiting Purpose) → cond b (Some e.1) (waiting_at xid es) ≡ Some call → (k : Waiting Purpose) × (cond b (Some (sent_call e.1)) (waiting_at xid es) ≡ Some k)
    first true call is = (sent_call e.1, refl)
    first false call is = (call, is)

    rest : (b : Bool) (call : Waiting Purpose) → (Waits xid es → Waits xid (sent es)) → cond b (Some e.1) (waiting_at xid es) ≡ Some call
        → (k : Waiting Purpose) × (cond b (Some e.1) (waiting_at xid (sent es)) ≡ Some k)
    rest true call more is = (e.1, refl)
    rest false call more is = more (call, is)

    by : (due : Bool) → (Waits xid es → Waits xid (sent es)) → Waits xid (cond due ((e.0, sent_call e.1) ∷ es) (e ∷ sent es))
    by true more = first (nat_eq xid e.0) w.0 w.1
    by false more = rest (nat_eq xid e.0) w.0 more w.1

failed-waits : (again : Bool) (xid : ℕ) (es : List (ℕ × Waiting Purpose)) → Waits xid es → Waits xid (failed again es)
failed-waits again xid [] w = w
failed-waits again xid (e ∷ es) w = by (nat_eq xid e.0) w.0 (failed-waits again xid es) w.1
  where
    by : (b : Bool) (call : Waiting Purpose) → (Waits xid es → Waits xid (failed again es)) → cond b (Some e.1) (waiting_at xid es) ≡ Some call
        → (k : Waiting Purpose) × (cond b (Some (failed_call again e.1)) (waiting_at xid (failed again es)) ≡ Some k)
    by true call more is = (failed_call again e.1, refl)
    by false call more is = more (call, is)

-- ---- what is kept

-- each xid was sent, or waits
abbrev pub AllTried : List Entry → View → Type 0
AllTried h v = (xid : ℕ) → v.calls.first_xid ≤ xid → xid < next_xid v.calls → WasSent h xid (length h) ⊎ Waits xid v.calls.calls

pub record Tries (setup : Setup) (h : List Entry) (v : View) : Type 0 where
  pub rows : Rows setup h v
  pub all : AllTried h v

sent-later : (h : List Entry) (e : Entry) (xid : ℕ) → WasSent h xid (length h) → WasSent (h ++ e ∷ []) xid (length (h ++ e ∷ []))
sent-later h e xid w =
    let more = length_last h e in
    let early = w.before in
    record { at = w.at; bytes = w.bytes; sent = At-grow h (e ∷ []) w.at (Sent w.bytes) w.sent; under = w.under; before = omega (arith, more, early) }

all-later : (h : List Entry) (e : Entry) (v : View) → AllTried h v → AllTried (h ++ e ∷ []) v
all-later h e v all xid low high = by (all xid low high)
  where
    by : WasSent h xid (length h) ⊎ Waits xid v.calls.calls → WasSent (h ++ e ∷ []) xid (length (h ++ e ∷ [])) ⊎ Waits xid v.calls.calls
    by (inl w) = inl (sent-later h e xid w)
    by (inr w) = inr w

-- calls that wait go on waiting
kept-waiting : (h : List Entry) (old new : View) → new.calls.first_xid ≡ old.calls.first_xid → new.calls.made ≡ old.calls.made
    → ((xid : ℕ) → Waits xid old.calls.calls → Waits xid new.calls.calls) → AllTried h old → AllTried h new
kept-waiting h old new first made keeps all xid low high = by (all xid (omega (arith, low, first)) (omega (arith, high, first, made)))
  where
    by : WasSent h xid (length h) ⊎ Waits xid old.calls.calls → WasSent h xid (length h) ⊎ Waits xid new.calls.calls
    by (inl w) = inl w
    by (inr w) = inr (keeps xid w)

-- a call that waits and isn't new was sent
outstanding : (h : List Entry) (xid from : ℕ) (bytes : List ℕ) → IsOutstanding h xid bytes from → WasSent h xid (length h)
outstanding h xid from bytes o = record { at = from; bytes = bytes; sent = o.sent.sent; under = o.sent.under; before = At-below h from (Sent bytes) o.sent.sent }

tried-sent : (h : List Entry) (xid : ℕ) (call : Waiting Purpose) → 1 ≤ call.attempts → Tried h xid call → WasSent h xid (length h)
tried-sent h xid call some (unsent none u) = absurd (omega (arith, some, none))
tried-sent h xid call some (runs from running o rest) = outstanding h xid from call.bytes o
tried-sent h xid call some (ended from idle o rest) = outstanding h xid from call.bytes o

-- ---- each step

made-tries : (setup : Setup) (h : List Entry) (old : View) (number : ℕ) (call : Call) (args : List ℕ) → Tries setup h old → (xid : ℕ) → old.calls.first_xid ≤ xid
    → xid < next_xid old.calls + 1
    → WasSent h xid (length h)
    ⊎ Waits xid (old.calls.calls ++ (next_xid old.calls, made_call (record_of old call args) (record { lane = number; proc = proc_of call; sent = turn_at old })) ∷ [])
made-tries setup h old number call args t xid low high = by (nat_eq xid next) refl
  where
    next : ℕ
    next = next_xid old.calls

    row : Waiting Purpose
    row = made_call (record_of old call args) (record { lane = number; proc = proc_of call; sent = turn_at old })

    others : nat_eq xid next ≡ false → WasSent h xid (length h) ⊎ Waits xid old.calls.calls → WasSent h xid (length h) ⊎ Waits xid (old.calls.calls ++ (next, row) ∷ [])
    others d (inl w) = inl w
    others d (inr w) = inr (w.0, others_made xid next old.calls.calls row d ∙ w.1)

    by : (b : Bool) → nat_eq xid next ≡ b → WasSent h xid (length h) ⊎ Waits xid (old.calls.calls ++ (next, row) ∷ [])
    by true d = inr (row, at_made old.calls.cred old.calls.first_xid next xid next old.calls.calls row t.rows.sound.calls.each (eqb-true xid next d) refl)
    by false d = others d (t.all xid low (less (eqb-false xid next d)))
      where
        less : (xid ≡ next → ⊥) → xid < next_xid old.calls
        less apart = elim (cases_lt xid (next_xid old.calls)) [
          | inl lt ↦ lt
          | inr ge ↦ absurd (apart (omega (arith, ge, high)))
        ]

tries-stays : (setup : Setup) (h : List Entry) → Stays (Tries setup h)
tries-stays setup h = record {
  makes = λ old new number call m t. subst (Tries setup h) (sym m.is) (record {
    rows = subst (Rows setup h) m.is ((rows-stay setup h).makes old new number call m t.rows);
    all = λ xid low high. made-tries setup h old number call m.args t xid low (omega (arith, high));
  });
  sets = λ old at number was state shelf there t. record { rows = (rows-stay setup h).sets old at number was state shelf there t.rows; all = t.all };
}

-- the call that was answered was sent
taken-tries : (setup : Setup) (h : List Entry) (old : View) (rec : List ℕ) (new : View) (xid : ℕ) (call : Waiting Purpose) → HearsRecord old rec new → Rows setup h old
    → waiting_at xid old.calls.calls ≡ Some call → AllTried h old → AllTried h (taken_one old xid)
taken-tries setup h old rec new xid call t r waits all x low high = by (nat_eq x xid) refl (all x low high)
  where
    by : (b : Bool) → nat_eq x xid ≡ b → WasSent h x (length h) ⊎ Waits x old.calls.calls → WasSent h x (length h) ⊎ Waits x (without xid old.calls.calls)
    by b d (inl w) = inl w
    by true d (inr w) =
        let some = was-sent xid old.calls.calls call t.may.sent waits in
        inl (subst (λ (n : ℕ). WasSent h n (length h)) (sym (eqb-true x xid d)) (tried-sent h xid call some (r.rows xid call waits).tried))
    by false d (inr w) = inr (w.0, others_taken x xid old.calls.calls d ∙ w.1)

heard-tries : (setup : Setup) (h : List Entry) (old : View) (rec : List ℕ) (new : View) → HearsRecord old rec new → Heard old rec new → Rows setup h old → AllTried h old
    → AllTried (h ++ Delivered rec ∷ []) new
heard-tries setup h old rec new t (dropped none is) r all = subst (AllTried (h ++ Delivered rec ∷ [])) (sym is) (all-later h (Delivered rec) old all)
heard-tries setup h old rec new t (replied xid call named waits f) r all =
    (hears-for-stay (Tries setup (h ++ Delivered rec ∷ [])) (tries-stays setup (h ++ Delivered rec ∷ [])) (taken_one old xid) new rec call.purpose f (record {
      rows = rows-grow setup h (Delivered rec) (taken_one old xid) (taken-quiet setup h old rec xid r named) (not-sent rec) (taken-rows setup h old xid r);
      all = all-later h (Delivered rec) (taken_one old xid) (taken-tries setup h old rec new xid call t r waits all);
    })).all

failed-tries : (h : List Entry) (old new : View) → FailedNow old new → AllTried h old → AllTried h new
failed-tries h old new (goes_on none is) all =
    kept-waiting h old new (ap (λ (v : View). v.calls.first_xid) is) (ap (λ (v : View). v.calls.made) is)
    (λ xid w.
    subst (λ (v : View). Waits xid v.calls.calls) (sym is)
    (subst (λ (o : Option ℕ). Waits xid (failed_after o old.calls.calls)) (sym none) (failed-waits true xid old.calls.calls w))) all
failed-tries h old new (gives_up given up is) all =
    kept-waiting h old new (ap (λ (v : View). v.calls.first_xid) is) (ap (λ (v : View). v.calls.made) is)
    (λ xid w.
    subst (λ (v : View). Waits xid v.calls.calls) (sym is)
    (subst (λ (o : Option ℕ). Waits xid (failed_after o old.calls.calls)) (sym up) (failed-waits false xid old.calls.calls w))) all

same-tries : (h : List Entry) (e : Entry) (old new : View) → new ≡ old → AllTried h old → AllTried (h ++ e ∷ []) new
same-tries h e old new is all = subst (AllTried (h ++ e ∷ [])) (sym is) (all-later h e old all)

tries-step : (machine_of : ℕ → Op → Machine) (setup : Setup) (h : List Entry) (old : View) (e : Entry) (new : View) → StepsTo machine_of h old e new → Rows setup h old → AllTried h old
    → AllTried (h ++ e ∷ []) new
tries-step machine_of setup h old (Began lane line op) new s r all =
    (begins-stay (Tries setup later) (tries-stays setup later) old new lane (machine_of lane op) (last_reading 0 h)
    (λ state shelf. record {
      rows = same-rows setup later old (record (counted old (last_reading 0 h)) { lanes = old.lanes ++ record { number = lane; state = state } ∷ []; shelf = shelf }) refl
          (silent-grow setup h (Began lane line op) old (record { sent = λ bytes is. cc; came = λ bytes is. cc }) r);
      all = all-later h (Began lane line op) old all;
    }) s.step).all
  where
    later : List Entry
    later = h ++ Began lane line op ∷ []
tries-step machine_of setup h old (Answered lane line answer) new s r all =
    let a = answered_now old lane answer new s.answers in
    kept-waiting (h ++ Answered lane line answer ∷ []) old new (ap (λ (v : View). v.calls.first_xid) a.is.is) (ap (λ (v : View). v.calls.made) a.is.is)
    (λ xid w. subst (λ (v : View). Waits xid v.calls.calls) (sym a.is.is) w) (all-later h (Answered lane line answer) old all)
tries-step machine_of setup h old (Sent bytes) new s r all =
    let n = sent_now old bytes new s in
    kept-waiting (h ++ Sent bytes ∷ []) old new (ap (λ (v : View). v.calls.first_xid) n.is) (ap (λ (v : View). v.calls.made) n.is)
    (λ xid w. subst (λ (v : View). Waits xid v.calls.calls) (sym n.is) (sent-waits xid old.calls.calls w)) (all-later h (Sent bytes) old all)
tries-step machine_of setup h old (Delivered bytes) new s r all = heard-tries setup h old bytes new s (heard old bytes s.result new s.hears) r all
tries-step machine_of setup h old Failed new (inl s) r all = failed-tries (h ++ Failed ∷ []) old new (failed_now old s.0 new s.1) (all-later h Failed old all)
tries-step machine_of setup h old Failed new (inr s) r all = same-tries h Failed old new s all
tries-step machine_of setup h old (Dialed port) new s r all = same-tries h (Dialed port) old new s all
tries-step machine_of setup h old (Executed xid call reply) new s r all = same-tries h (Executed xid call reply) old new s all
tries-step machine_of setup h old (Foreign call reply) new s r all = same-tries h (Foreign call reply) old new s all
tries-step machine_of setup h old (Flushed file from len) new s r all = same-tries h (Flushed file from len) old new s all
tries-step machine_of setup h old (Reboot verf) new s r all = same-tries h (Reboot verf) old new s all
tries-step machine_of setup h old (Clock ms) new s r all = same-tries h (Clock ms) old new s all

pub reached-tries : (machine_of : ℕ → Op → Machine) (setup : Setup) (h : List Entry) (v : View) → Reaches machine_of setup h v → AllTried h v
reached-tries machine_of setup _ _ (begins h v may up fresh) = λ xid low high.
    let none : v.calls.made ≡ 0 = ap (λ (c : Held Purpose). c.made) fresh.calls in
    absurd (omega (arith, low, high, none))
reached-tries machine_of setup _ _ (goes h before v b e r is t) =
    subst (λ (k : List Entry). AllTried k v) (sym is) (tries-step machine_of setup before b e v t (reached-rows machine_of setup before b r) (reached-tries machine_of setup before b r))
reached-tries machine_of setup _ _ (loses h v b r shown is) =
    kept-waiting h b v (ap (λ (w : View). w.calls.first_xid) is) (ap (λ (w : View). w.calls.made) is) (λ xid w. subst (λ (z : View). Waits xid z.calls.calls) (sym is) w)
    (reached-tries machine_of setup h b r)

pub all-sent : AllSent
all-sent m setup h v r lane x op y answered were xid low high =
    let rows = reached-rows (machine_of m) setup h v r in
    let first = rows.sound.first in
    let made = all-made m setup h v r lane x op y answered in
    by rows (reached-tries (machine_of m) setup h v r xid (omega (arith, low, first)) (omega (arith, high, first, made)))
  where
    by : Rows setup h v → WasSent h xid (length h) ⊎ Waits xid v.calls.calls → WasSent h xid (length h)
    by rows (inl w) = w
    by rows (inr w) = tried-sent h xid w.0 (was-sent xid v.calls.calls w.0 were w.1) (rows.rows xid w.0 w.1).tried

-- ---- a lone operation

none-wait : (m : Mounted) (setup : Setup) (h : List Entry) (v : View) → Reaches (machine_of m) setup h v → v.lost ≡ false → v.lanes ≡ [] → (xid : ℕ) (w : Waiting Purpose)
    → waiting_at xid v.calls.calls ≡ Some w → ⊥
none-wait m setup h v r found none xid w waits =
    let counts = reached-count (machine_of m) (begins-unbegun m) setup h v r found in
    let all : calls_for w.purpose.lane v.calls.calls ≡ 0 =
    counts.counted w.purpose.lane
    ∙ known-none w.purpose.lane v.lanes (λ k l there same. absurd (let no_way : None ≡ Some l = ap (λ (lanes : List Lane). slice_get lanes k) (sym none) ∙ there in cc)) in
    let some = calls-some xid v.calls.calls w waits in
    omega (arith, all, some)

-- where none waits by its xid there is none
no-calls : (xs : List (ℕ × Waiting Purpose)) → ((xid : ℕ) (w : Waiting Purpose) → waiting_at xid xs ≡ Some w → ⊥) → WereSent xs
no-calls [] none = λ k d lt. absurd (omega (arith, lt))
no-calls (e ∷ xs) none = absurd (none e.0 e.1 (ap (λ (b : Bool). cond b (Some e.1) (waiting_at e.0 xs)) (eq-eqb e.0 e.0 refl)))

pub sent-by-then : SentByThen
sent-by-then m setup h before v lane line x line_began op r is began found none xid low high =
    let low_at = At-below before x (Began lane line_began op) began in
    let w = subst (λ (k : List Entry). WasSent k xid (length k)) is (sent-all low_at) in
    early w.at w.bytes w.under (At-cases before (Answered lane line (answers.Refused faults.Spent)) w.at (Sent w.bytes) w.sent)
  where
    last : At h (length before) (Answered lane line (answers.Refused faults.Spent))
    last = subst (λ (k : List Entry). At k (length before) (Answered lane line (answers.Refused faults.Spent))) (sym is) (At-last before (Answered lane line (answers.Refused faults.Spent)))

    first : At h x (Began lane line_began op)
    first = subst (λ (k : List Entry). At k x (Began lane line_began op)) (sym is) (At-grow before (Answered lane line (answers.Refused faults.Spent) ∷ []) x (Began lane line_began op) began)

    rows : Rows setup h v
    rows = reached-rows (machine_of m) setup h v r

    made : x < length before → v.calls.made ≡ setup.limit
    made low_at = made-by m setup h v r x (length before) lane line_began line op first last low_at

    sent-all : x < length before → WasSent h xid (length h)
    sent-all low_at =
        let first_xid = rows.sound.first in
        let all = made low_at in
        by (reached-tries (machine_of m) setup h v r xid (omega (arith, low, first_xid)) (omega (arith, high, first_xid, all)))
      where
        by : WasSent h xid (length h) ⊎ Waits xid v.calls.calls → WasSent h xid (length h)
        by (inl w) = w
        by (inr w) = absurd (none-wait m setup h v r found none xid w.0 w.1)

    early : (i : ℕ) (bytes : List ℕ) → HasXid bytes xid
        → At before i (Sent bytes) ⊎ ((i ≡ length before) × (Answered lane line (answers.Refused faults.Spent) ≡ Sent bytes)) → WasSent before xid (length before)
    early i bytes named (inl there) = record { at = i; bytes = bytes; sent = there; under = named; before = At-below before i (Sent bytes) there }
    early i bytes named (inr now) = absurd (let no_way = now.1 in cc)
