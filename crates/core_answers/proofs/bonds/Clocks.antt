-- The core's time is the greatest of the readings at which operations began.
use Rattle.core_answers.proofs.Prelude.{◌≡◌, ◌≤◌, inl, inr, ℕ, suc, List, [], ◌∷◌, ◌++◌, max, Some, refl, sym, ap, ◌∙◌, arith, Entry, Began, Answered, Dialed, Executed, Foreign, Flushed, Reboot, Delivered, Failed, Clock, Op, At, Machine, Setup, View, StepsTo, Reaches, begins, goes, loses, last_reading, Heard, dropped, replied, sent_now, FailedNow, goes_on, gives_up, failed_now, answered_now, taken_one, Stays, begins-stay, hears-for-stay, time_next}
use Rattle.world_model.specs.declared.entry.Entry.TheVariants.{Sent}
use Rattle.core_facts.proofs.Cases.{heard}
use Rattle.core_answers.specs.bonds.Ages.{read_by, timed_by, time_from, time_of}

-- ---- one entry

pub read-on : (e : Entry) (es : List Entry) (last : ℕ) → last_reading last (e ∷ es) ≡ last_reading (read_by e last) es
read-on (Began lane line op) es last = refl
read-on (Answered lane line answer) es last = refl
read-on (Dialed port) es last = refl
read-on (Sent bytes) es last = refl
read-on (Executed xid call reply) es last = refl
read-on (Foreign call reply) es last = refl
read-on (Flushed file from len) es last = refl
read-on (Reboot verf) es last = refl
read-on (Delivered bytes) es last = refl
read-on Failed es last = refl
read-on (Clock ms) es last = refl

-- the time doesn't go back
timed-least : (e : Entry) (time last : ℕ) → time ≤ timed_by e time last
timed-least (Began lane line op) time last = omega arith
timed-least (Answered lane line answer) time last = omega arith
timed-least (Dialed port) time last = omega arith
timed-least (Sent bytes) time last = omega arith
timed-least (Executed xid call reply) time last = omega arith
timed-least (Foreign call reply) time last = omega arith
timed-least (Flushed file from len) time last = omega arith
timed-least (Reboot verf) time last = omega arith
timed-least (Delivered bytes) time last = omega arith
timed-least Failed time last = omega arith
timed-least (Clock ms) time last = omega arith

-- where no operation begins it stays
timed-none : (e : Entry) (time last : ℕ) → ((lane line : ℕ) (op : Op) → e ≡ Began lane line op → ⊥) → timed_by e time last ≡ time
timed-none (Began lane line op) time last none = absurd (none lane line op refl)
timed-none (Answered lane line answer) time last none = refl
timed-none (Dialed port) time last none = refl
timed-none (Sent bytes) time last none = refl
timed-none (Executed xid call reply) time last none = refl
timed-none (Foreign call reply) time last none = refl
timed-none (Flushed file from len) time last none = refl
timed-none (Reboot verf) time last none = refl
timed-none (Delivered bytes) time last none = refl
timed-none Failed time last none = refl
timed-none (Clock ms) time last none = refl

-- ---- a list of entries

pub time-least : (h : List Entry) (time last : ℕ) → time ≤ time_from time last h
time-least [] time last = omega arith
time-least (e ∷ es) time last =
    let one = timed-least e time last in
    let more = time-least es (timed_by e time last) (read_by e last) in
    omega (arith, one, more)

time-none : (h : List Entry) (time last : ℕ) → ((i lane line : ℕ) (op : Op) → At h i (Began lane line op) → ⊥) → time_from time last h ≡ time
time-none [] time last none = refl
time-none (e ∷ es) time last none =
    time-none es (timed_by e time last) (read_by e last) (λ i lane line op at. none (suc i) lane line op at)
    ∙ timed-none e time last (λ lane line op is. none 0 lane line op (ap (λ (x : Entry). Some x) is))

-- one entry more
time-on : (h : List Entry) (e : Entry) (time last : ℕ) → time_from time last (h ++ e ∷ []) ≡ timed_by e (time_from time last h) (last_reading last h)
time-on [] e time last = refl
time-on (x ∷ xs) e time last =
    time-on xs e (timed_by x time last) (read_by x last) ∙ ap (λ (n : ℕ). timed_by e (time_from time last (x ∷ xs)) n) (sym (read-on x xs last))

-- ---- the core

abbrev IsTime : ℕ → View → Type 0
IsTime n v = v.clock ≡ n

time-stays : (n : ℕ) → Stays (IsTime n)
time-stays n = record {
  makes = λ old new number call m t. ap (λ (v : View). v.clock) m.is ∙ t;
  sets = λ old at number was state shelf there t. t;
}

heard-time : (old : View) (rec : List ℕ) (new : View) → Heard old rec new → new.clock ≡ old.clock
heard-time old rec new (dropped none is) = ap (λ (v : View). v.clock) is
heard-time old rec new (replied xid call named waits f) = hears-for-stay (IsTime old.clock) (time-stays old.clock) (taken_one old xid) new rec call.purpose f refl

failed-time : (old new : View) → FailedNow old new → new.clock ≡ old.clock
failed-time old new (goes_on up is) = ap (λ (v : View). v.clock) is
failed-time old new (gives_up xid up is) = ap (λ (v : View). v.clock) is

-- what an entry makes of the core's time
step-time : (machine_of : ℕ → Op → Machine) (h : List Entry) (old : View) (e : Entry) (new : View) → StepsTo machine_of h old e new
    → new.clock ≡ timed_by e old.clock (last_reading 0 h)
step-time machine_of h old (Began lane line op) new s =
    begins-stay (IsTime (max old.clock (last_reading 0 h))) (time-stays (max old.clock (last_reading 0 h))) old new lane (machine_of lane op) (last_reading 0 h)
    (λ state shelf. refl) s.step
step-time machine_of h old (Answered lane line answer) new s = let a = answered_now old lane answer new s.answers in ap (λ (v : View). v.clock) a.is.is
step-time machine_of h old (Sent bytes) new s = let n = sent_now old bytes new s in ap (λ (v : View). v.clock) n.is
step-time machine_of h old (Delivered bytes) new s = heard-time old bytes new (heard old bytes s.result new s.hears)
step-time machine_of h old Failed new (inl s) = failed-time old new (failed_now old s.0 new s.1)
step-time machine_of h old Failed new (inr s) = ap (λ (v : View). v.clock) s
step-time machine_of h old (Dialed port) new s = ap (λ (v : View). v.clock) s
step-time machine_of h old (Executed xid call reply) new s = ap (λ (v : View). v.clock) s
step-time machine_of h old (Foreign call reply) new s = ap (λ (v : View). v.clock) s
step-time machine_of h old (Flushed file from len) new s = ap (λ (v : View). v.clock) s
step-time machine_of h old (Reboot verf) new s = ap (λ (v : View). v.clock) s
step-time machine_of h old (Clock ms) new s = ap (λ (v : View). v.clock) s

pub reached-time : (machine_of : ℕ → Op → Machine) (setup : Setup) (h : List Entry) (v : View) → Reaches machine_of setup h v → v.clock ≡ time_of h
reached-time machine_of setup _ _ (begins h v may up fresh) = fresh.clock ∙ sym (time-none h 0 0 up.unbegun)
reached-time machine_of setup _ _ (goes h before v b e r is t) =
    step-time machine_of before b e v t
    ∙ ap (λ (n : ℕ). timed_by e n (last_reading 0 before)) (reached-time machine_of setup before b r)
    ∙ sym (time-on before e 0 0)
    ∙ ap (λ (k : List Entry). time_of k) (sym is)
reached-time machine_of setup _ _ (loses h v b r shown is) = ap (λ (w : View). w.clock) is ∙ reached-time machine_of setup h b r

-- an operation that begins does so no earlier than that
pub time-begins : (machine_of : ℕ → Op → Machine) (setup : Setup) (h : List Entry) (old : View) → Reaches machine_of setup h old
    → time_next h ≤ max old.clock (last_reading 0 h)
time-begins machine_of setup h old r = let is = reached-time machine_of setup h old r in omega (arith, is)
