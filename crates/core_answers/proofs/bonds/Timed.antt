-- A call that waits was made at a time that the clock had shown before any record of it was sent.
use Rattle.core_answers.proofs.Prelude.{◌≡◌, ◌<◌, ◌≤◌, ◌⊎◌, inl, inr, ℕ, suc, List, [], ◌∷◌, ◌++◌, length, max, true, false, nat_eq, Option, Some, None, refl, sym, ap, subst, ◌∙◌, arith, eqb-true, cases_lt, Waiting, failed_after, next_xid, WaitedAs, made_call, waiting_at, without, at_made, others_made, others_taken, gone, before_sent, before_failed, Entry, Began, Answered, Dialed, Executed, Foreign, Flushed, Reboot, Delivered, Failed, Clock, Call, Op, At, HasXid, proc_of, At-grow, At-below, At-cases, length_last, Machine, Purpose, Setup, record_of, counted, View, turn_at, StepsTo, Reaches, begins, goes, loses, last_reading, Heard, dropped, replied, sent_now, FailedNow, goes_on, gives_up, failed_now, answered_now, taken_one, Rows, rows-stay, same-rows, taken-rows, rows-grow, silent-grow, taken-quiet, not-sent, reached-rows, Stays, begins-stay, hears-for-stay}
use Rattle.rpc_retry.specs.Held.{Held}
use Rattle.world_model.specs.declared.entry.Entry.TheVariants.{Sent}
use Rattle.core_facts.proofs.Cases.{heard}

-- the clock showed this time before the place n, or the time is 0
abbrev pub MayHaveShown : List Entry → ℕ → ℕ → Type 0
MayHaveShown h n ms = (ms ≡ 0) ⊎ ((at : ℕ) × At h at (Clock ms) × (at < n))

-- before each record of the call was sent
abbrev pub MadeAfter : List Entry → ℕ → ℕ → Type 0
MadeAfter h xid ms = (ms ≡ 0) ⊎ ((at : ℕ) × At h at (Clock ms) × ((i : ℕ) (bytes : List ℕ) → At h i (Sent bytes) → HasXid bytes xid → at < i))

abbrev pub AllTimed : List Entry → View → Type 0
AllTimed h v = (xid : ℕ) (w : Waiting Purpose) → waiting_at xid v.calls.calls ≡ Some w → MadeAfter h xid w.purpose.sent.now

pub record Timed (setup : Setup) (h : List Entry) (v : View) : Type 0 where
  pub rows : Rows setup h v
  pub clock : MayHaveShown h (length h) v.clock
  pub calls : AllTimed h v

-- ---- the clock

some-call : (a b : Waiting Purpose) → Some a ≡ Some b → a ≡ b
some-call a b e = cc

pub shown-grow : (h : List Entry) (e : Entry) (n ms : ℕ) → MayHaveShown h n ms → MayHaveShown (h ++ e ∷ []) n ms
shown-grow h e n ms (inl none) = inl none
shown-grow h e n ms (inr s) = inr (s.0, At-grow h (e ∷ []) s.0 (Clock ms) s.1, s.2)

pub shown-wide : (h : List Entry) (n m ms : ℕ) → n ≤ m → MayHaveShown h n ms → MayHaveShown h m ms
shown-wide h n m ms le (inl none) = inl none
shown-wide h n m ms le (inr s) = inr (s.0, s.1, let below = s.2 in omega (arith, below, le))

-- the last reading is one that was shown, or the one before
abbrev Read : ℕ → List Entry → Type 0
Read ms h = (last_reading ms h ≡ ms) ⊎ ((at : ℕ) × At h at (Clock (last_reading ms h)))

reading-later : (ms now : ℕ) (e : Entry) (es : List Entry) → last_reading ms (e ∷ es) ≡ last_reading now es → (At (e ∷ es) 0 (Clock now) ⊎ (now ≡ ms)) → Read now es → Read ms (e ∷ es)
reading-later ms now e es is (inl here) (inl same) = inr (0, subst (λ n. At (e ∷ es) 0 (Clock n)) (sym same ∙ sym is) here)
reading-later ms now e es is (inr old) (inl same) = inl (is ∙ same ∙ old)
reading-later ms now e es is first (inr s) = inr (suc s.0, subst (λ n. At (e ∷ es) (suc s.0) (Clock n)) (sym is) s.1)

reading : (ms : ℕ) (h : List Entry) → Read ms h
reading ms [] = inl refl
reading ms (Clock now ∷ es) = reading-later ms now (Clock now) es refl (inl refl) (reading now es)
reading ms (Began lane line op ∷ es) = reading-later ms ms (Began lane line op) es refl (inr refl) (reading ms es)
reading ms (Answered lane line answer ∷ es) = reading-later ms ms (Answered lane line answer) es refl (inr refl) (reading ms es)
reading ms (Dialed port ∷ es) = reading-later ms ms (Dialed port) es refl (inr refl) (reading ms es)
reading ms (Sent bytes ∷ es) = reading-later ms ms (Sent bytes) es refl (inr refl) (reading ms es)
reading ms (Executed xid call reply ∷ es) = reading-later ms ms (Executed xid call reply) es refl (inr refl) (reading ms es)
reading ms (Foreign call reply ∷ es) = reading-later ms ms (Foreign call reply) es refl (inr refl) (reading ms es)
reading ms (Flushed file from len ∷ es) = reading-later ms ms (Flushed file from len) es refl (inr refl) (reading ms es)
reading ms (Reboot verf ∷ es) = reading-later ms ms (Reboot verf) es refl (inr refl) (reading ms es)
reading ms (Delivered bytes ∷ es) = reading-later ms ms (Delivered bytes) es refl (inr refl) (reading ms es)
reading ms (Failed ∷ es) = reading-later ms ms Failed es refl (inr refl) (reading ms es)

reading-shown : (h : List Entry) → MayHaveShown h (length h) (last_reading 0 h)
reading-shown h = by (reading 0 h)
  where
    by : Read 0 h → MayHaveShown h (length h) (last_reading 0 h)
    by (inl none) = inl none
    by (inr s) = inr (s.0, s.1, At-below h s.0 (Clock (last_reading 0 h)) s.1)

later-shown : (h : List Entry) (n old now : ℕ) → MayHaveShown h n old → MayHaveShown h n now → MayHaveShown h n (max old now)
later-shown h n old now a b = by (cases_lt old now)
  where
    by : (old < now) ⊎ (now ≤ old) → MayHaveShown h n (max old now)
    by (inl less) = let is : max old now ≡ now = omega (arith, less) in subst (λ ms. MayHaveShown h n ms) (sym is) b
    by (inr more) = let is : max old now ≡ old = omega (arith, more) in subst (λ ms. MayHaveShown h n ms) (sym is) a

-- ---- the calls that wait

-- a record that is sent now comes after all that the clock showed
made-grow : (h : List Entry) (e : Entry) (xid ms : ℕ) → MadeAfter h xid ms → MadeAfter (h ++ e ∷ []) xid ms
made-grow h e xid ms (inl none) = inl none
made-grow h e xid ms (inr s) = inr (s.0, At-grow h (e ∷ []) s.0 (Clock ms) s.1, λ i bytes at has. by i bytes has (At-cases h e i (Sent bytes) at))
  where
    by : (i : ℕ) (bytes : List ℕ) → HasXid bytes xid → At h i (Sent bytes) ⊎ ((i ≡ length h) × (e ≡ Sent bytes)) → s.0 < i
    by i bytes has (inl there) = s.2 i bytes there has
    by i bytes has (inr now) = let below = At-below h s.0 (Clock ms) s.1 in let is = now.0 in omega (arith, below, is)

all-grow : (h : List Entry) (e : Entry) (v : View) → AllTimed h v → AllTimed (h ++ e ∷ []) v
all-grow h e v t xid w waits = made-grow h e xid w.purpose.sent.now (t xid w waits)

made-timed : (setup : Setup) (h : List Entry) (old : View) (number : ℕ) (call : Call) (args : List ℕ) → Timed setup h old → (xid : ℕ) (w : Waiting Purpose)
    → waiting_at xid (old.calls.calls ++ (next_xid old.calls, made_call (record_of old call args) (record { lane = number; proc = proc_of call; sent = turn_at old })) ∷ []) ≡ Some w
    → MadeAfter h xid w.purpose.sent.now
made-timed setup h old number call args t xid w at =
    (elim (nat_eq xid next) as (λ b. nat_eq xid next ≡ b → MadeAfter h xid w.purpose.sent.now) [
      | true ↦ λ d. now (eqb-true xid next d)
      | false ↦ λ d. t.calls xid w (sym (others_made xid next old.calls.calls row d) ∙ at)
    ]) refl
  where
    next : ℕ
    next = next_xid old.calls

    row : Waiting Purpose
    row = made_call (record_of old call args) (record { lane = number; proc = proc_of call; sent = turn_at old })

    unsent : xid ≡ next → MayHaveShown h (length h) old.clock → MadeAfter h xid old.clock
    unsent is (inl none) = inl none
    unsent is (inr s) = inr (s.0, s.1, λ i bytes sent_at has. let low = t.rows.used i xid bytes sent_at has in absurd (omega (arith, is, low)))

    now : xid ≡ next → MadeAfter h xid w.purpose.sent.now
    now is =
        let which : row ≡ w = some-call row w (sym (at_made old.calls.cred old.calls.first_xid next xid next old.calls.calls row t.rows.sound.calls.each is refl) ∙ at) in
        subst (λ (k : Waiting Purpose). MadeAfter h xid k.purpose.sent.now) which (unsent is t.clock)

pub timed-stays : (setup : Setup) (h : List Entry) → Stays (Timed setup h)
timed-stays setup h = record {
  makes = λ old new number call m t. subst (Timed setup h) (sym m.is) (record {
    rows = subst (Rows setup h) m.is ((rows-stay setup h).makes old new number call m t.rows);
    clock = t.clock;
    calls = made-timed setup h old number call m.args t;
  });
  sets = λ old at number was state shelf there t. record { rows = (rows-stay setup h).sets old at number was state shelf there t.rows; clock = t.clock; calls = t.calls };
}

taken-timed : (setup : Setup) (h : List Entry) (old : View) (xid : ℕ) → Rows setup h old → AllTimed h old → AllTimed h (taken_one old xid)
taken-timed setup h old xid r t x w at = (elim (nat_eq x xid) as (λ b. nat_eq x xid ≡ b → MadeAfter h x w.purpose.sent.now) [
  | true ↦ λ d. absurd (still-waits (eqb-true x xid d))
  | false ↦ λ d. t x w (sym (others_taken x xid old.calls.calls d) ∙ at)
]) refl
  where
    still-waits : x ≡ xid → ⊥
    still-waits same =
        let none : waiting_at xid (without xid old.calls.calls) ≡ None = gone old.calls.cred old.calls.first_xid (next_xid old.calls) xid old.calls.calls r.sound.calls.each in
        let there : waiting_at xid (without xid old.calls.calls) ≡ Some w = ap (λ (n : ℕ). waiting_at n (without xid old.calls.calls)) (sym same) ∙ at in
        let no_way : None ≡ Some w = sym none ∙ there in
        cc

-- the calls that waited, with the same purposes
waited-timed : (h : List Entry) (old new : View) → ((xid : ℕ) (w : Waiting Purpose) → waiting_at xid new.calls.calls ≡ Some w → WaitedAs old.calls.calls xid w) → AllTimed h old → AllTimed h new
waited-timed h old new was t xid w at = let k = was xid w at in subst (λ (p : Purpose). MadeAfter h xid p.sent.now) (sym k.purpose) (t xid k.was k.waited)

-- ---- one entry more

abbrev pub TimedView : List Entry → View → Type 0
TimedView h v = MayHaveShown h (length h) v.clock × AllTimed h v

clock-grow : (h : List Entry) (e : Entry) (ms : ℕ) → MayHaveShown h (length h) ms → MayHaveShown (h ++ e ∷ []) (length (h ++ e ∷ [])) ms
clock-grow h e ms s = let more = length_last h e in shown-wide (h ++ e ∷ []) (length h) (length (h ++ e ∷ [])) ms (omega (arith, more)) (shown-grow h e (length h) ms s)

view-grow : (h : List Entry) (e : Entry) (v : View) → TimedView h v → TimedView (h ++ e ∷ []) v
view-grow h e v t = (clock-grow h e v.clock t.0, all-grow h e v t.1)

-- with the same clock and calls
same-calls : (h : List Entry) (old new : View) → new.clock ≡ old.clock → new.calls ≡ old.calls → TimedView h old → TimedView h new
same-calls h old new clock calls t = (
  subst (λ ms. MayHaveShown h (length h) ms) (sym clock) t.0,
  λ xid w at. t.1 xid w (ap (λ (c : Held Purpose). waiting_at xid c.calls) (sym calls) ∙ at),
)

as-view : (setup : Setup) (h : List Entry) (v : View) → Timed setup h v → TimedView h v
as-view setup h v t = (t.clock, t.calls)

heard-timed : (setup : Setup) (h : List Entry) (old : View) (rec : List ℕ) (new : View) → Heard old rec new → Rows setup h old → TimedView h old → TimedView (h ++ Delivered rec ∷ []) new
heard-timed setup h old rec new (dropped none is) r t = subst (TimedView (h ++ Delivered rec ∷ [])) (sym is) (view-grow h (Delivered rec) old t)
heard-timed setup h old rec new (replied xid call named waits f) r t =
    as-view setup (h ++ Delivered rec ∷ []) new
    (hears-for-stay (Timed setup (h ++ Delivered rec ∷ [])) (timed-stays setup (h ++ Delivered rec ∷ [])) (taken_one old xid) new rec call.purpose f (record {
      rows = rows-grow setup h (Delivered rec) (taken_one old xid) (taken-quiet setup h old rec xid r named) (not-sent rec) (taken-rows setup h old xid r);
      clock = clock-grow h (Delivered rec) old.clock t.0;
      calls = all-grow h (Delivered rec) (taken_one old xid) (taken-timed setup h old xid r t.1);
    }))

failed-timed : (h : List Entry) (old new : View) → FailedNow old new → TimedView h old → TimedView (h ++ Failed ∷ []) new
failed-timed h old new (goes_on up is) t = (
  subst (λ ms. MayHaveShown (h ++ Failed ∷ []) (length (h ++ Failed ∷ [])) ms) (ap (λ (v : View). v.clock) (sym is)) (clock-grow h Failed old.clock t.0),
  waited-timed (h ++ Failed ∷ []) old new (λ xid w at. before_failed true old.calls.calls xid w
      (sym (ap (λ (v : View). waiting_at xid v.calls.calls) is ∙ ap (λ (o : Option ℕ). waiting_at xid (failed_after o old.calls.calls)) up) ∙ at))
      (all-grow h Failed old t.1),
)
failed-timed h old new (gives_up xid up is) t = (
  subst (λ ms. MayHaveShown (h ++ Failed ∷ []) (length (h ++ Failed ∷ [])) ms) (ap (λ (v : View). v.clock) (sym is)) (clock-grow h Failed old.clock t.0),
  waited-timed (h ++ Failed ∷ []) old new (λ x w at. before_failed false old.calls.calls x w
      (sym (ap (λ (v : View). waiting_at x v.calls.calls) is ∙ ap (λ (o : Option ℕ). waiting_at x (failed_after o old.calls.calls)) up) ∙ at))
      (all-grow h Failed old t.1),
)

same-timed : (h : List Entry) (e : Entry) (old new : View) → new ≡ old → TimedView h old → TimedView (h ++ e ∷ []) new
same-timed h e old new is t = subst (TimedView (h ++ e ∷ [])) (sym is) (view-grow h e old t)

timed-step : (machine_of : ℕ → Op → Machine) (setup : Setup) (h : List Entry) (old : View) (e : Entry) (new : View) → StepsTo machine_of h old e new → Rows setup h old → TimedView h old
    → TimedView (h ++ e ∷ []) new
timed-step machine_of setup h old (Began lane line op) new s r t =
    as-view setup later new
    (begins-stay (Timed setup later) (timed-stays setup later) old new lane (machine_of lane op) (last_reading 0 h)
    (λ state shelf. record {
      rows = same-rows setup later old (record (counted old (last_reading 0 h)) { lanes = old.lanes ++ record { number = lane; state = state } ∷ []; shelf = shelf }) refl
          (silent-grow setup h (Began lane line op) old (record { sent = λ bytes is. cc; came = λ bytes is. cc }) r);
      clock = later-shown later (length later) old.clock (last_reading 0 h) (clock-grow h (Began lane line op) old.clock t.0)
          (clock-grow h (Began lane line op) (last_reading 0 h) (reading-shown h));
      calls = all-grow h (Began lane line op) old t.1;
    }) s.step)
  where
    later : List Entry
    later = h ++ Began lane line op ∷ []
timed-step machine_of setup h old (Answered lane line answer) new s r t =
    let a = answered_now old lane answer new s.answers in
    same-calls (h ++ Answered lane line answer ∷ []) old new (ap (λ (v : View). v.clock) a.is.is) (ap (λ (v : View). v.calls) a.is.is) (view-grow h (Answered lane line answer) old t)
timed-step machine_of setup h old (Sent bytes) new s r t =
    let n = sent_now old bytes new s in (
      subst (λ ms. MayHaveShown (h ++ Sent bytes ∷ []) (length (h ++ Sent bytes ∷ [])) ms) (ap (λ (v : View). v.clock) (sym n.is)) (clock-grow h (Sent bytes) old.clock t.0),
      waited-timed (h ++ Sent bytes ∷ []) old new (λ xid w at. before_sent old.calls.calls xid w (ap (λ (v : View). waiting_at xid v.calls.calls) (sym n.is) ∙ at))
          (all-grow h (Sent bytes) old t.1),
    )
timed-step machine_of setup h old (Delivered bytes) new s r t = heard-timed setup h old bytes new (heard old bytes s.result new s.hears) r t
timed-step machine_of setup h old Failed new (inl s) r t = failed-timed h old new (failed_now old s.0 new s.1) t
timed-step machine_of setup h old Failed new (inr s) r t = same-timed h Failed old new s t
timed-step machine_of setup h old (Dialed port) new s r t = same-timed h (Dialed port) old new s t
timed-step machine_of setup h old (Executed xid call reply) new s r t = same-timed h (Executed xid call reply) old new s t
timed-step machine_of setup h old (Foreign call reply) new s r t = same-timed h (Foreign call reply) old new s t
timed-step machine_of setup h old (Flushed file from len) new s r t = same-timed h (Flushed file from len) old new s t
timed-step machine_of setup h old (Reboot verf) new s r t = same-timed h (Reboot verf) old new s t
timed-step machine_of setup h old (Clock ms) new s r t = same-timed h (Clock ms) old new s t

pub reached-timed : (machine_of : ℕ → Op → Machine) (setup : Setup) (h : List Entry) (v : View) → Reaches machine_of setup h v → TimedView h v
reached-timed machine_of setup _ _ (begins h v may up fresh) = (
  inl fresh.clock,
  λ xid w at. absurd (let no_way : None ≡ Some w = sym (ap (λ (c : Held Purpose). waiting_at xid c.calls) fresh.calls) ∙ at in cc),
)
reached-timed machine_of setup _ _ (goes h before v b e r is t) =
    subst (λ (k : List Entry). TimedView k v) (sym is) (timed-step machine_of setup before b e v t (reached-rows machine_of setup before b r) (reached-timed machine_of setup before b r))
reached-timed machine_of setup _ _ (loses h v b r shown is) =
    same-calls h b v (ap (λ (w : View). w.clock) is) (ap (λ (w : View). w.calls) is) (reached-timed machine_of setup h b r)
