-- What is recent by the core's time is recent by all readings of the clock, also where that goes back: operations began at each of them.
use Rattle.core_answers.proofs.Prelude.{◌≡◌, ◌<◌, ◌≤◌, ◌⊎◌, inl, inr, ℕ, zero, suc, List, [], ◌∷◌, max, take, Some, refl, sym, ap, subst, arith, cases_lt, Answer, Entry, Began, Answered, Dialed, Executed, Foreign, Flushed, Reboot, Delivered, Failed, Clock, Op, At, Modes, Ended, last_reading, IsRecent, own}
use Rattle.world_model.specs.declared.entry.Entry.TheVariants.{Sent}
use Rattle.world_model.specs.Operations.{answered}
use Rattle.core_answers.specs.bonds.Ages.{young, began_at, read_by, timed_by, time_from}
use Rattle.claims.specs.ReadTrue.{IsYoung}
use Rattle.claims.specs.Recent.{Recent, during, kept}
use Rattle.core_answers.specs.bonds.Aged.{BeginsAt, TakesReadings}
use Rattle.core_answers.proofs.bonds.Clocks.{read-on, time-least}

-- ---- readings

some-entry : (a b : Entry) → Some a ≡ Some b → a ≡ b
some-entry a b same = cc

-- An operation that begins right after a reading has it in its time.
taken-now : (e : Entry) (lane line : ℕ) (op : Op) (time last : ℕ) → e ≡ Began lane line op → last ≤ timed_by e time last
taken-now e lane line op time last is = subst (λ (x : Entry). last ≤ timed_by x time last) (sym is) (omega arith)

-- so has the time of each later one
own-taken : (x : ℕ) (es : List Entry) (time ms : ℕ) → (0 < x → BeginsAt es 0) → ms ≤ max (time_from time ms (take x es)) (last_reading ms (take x es))
own-taken zero es time ms next = omega arith
own-taken (suc x) [] time ms next = omega arith
own-taken (suc x) (e ∷ es) time ms next =
    let b = next (omega arith) in
    let is : e ≡ Began b.lane b.line b.op = some-entry e (Began b.lane b.line b.op) b.began in
    let now = taken-now e b.lane b.line b.op time ms is in
    let later = time-least (take x es) (timed_by e time ms) (read_by e ms) in
    omega (arith, now, later)

-- each reading within so many entries, at which an operation began, isn't later than the time after these
bound : (x : ℕ) (h : List Entry) (time last j ms : ℕ) → At h j (Clock ms) → j < x → (suc j < x → BeginsAt h (suc j))
    → ms ≤ max (time_from time last (take x h)) (last_reading last (take x h))
bound zero h time last j ms at below next = absurd (omega (arith, below))
bound (suc x) [] time last j ms at below next = absurd (cc)
bound (suc x) (e ∷ es) time last zero ms at below next =
    subst (λ (a : Entry). ms ≤ max (time_from time last (a ∷ take x es)) (last_reading last (a ∷ take x es))) (sym (some-entry e (Clock ms) at))
    (own-taken x es time ms (λ more. let b = next (omega (arith, more)) in record { lane = b.lane; line = b.line; op = b.op; began = b.began }))
bound (suc x) (e ∷ es) time last (suc k) ms at below next =
    subst (λ (n : ℕ). ms ≤ max (time_from time last (e ∷ take x es)) n) (sym (read-on e (take x es) last))
    (bound x es (timed_by e time last) (read_by e last) k ms at (omega (arith, below))
    (λ more. let b = next (omega (arith, more)) in record { lane = b.lane; line = b.line; op = b.op; began = b.began }))

-- ---- the time is a reading

read-so : (P : ℕ → Type 0) (e : Entry) (last : ℕ) → P last → ((ms : ℕ) → e ≡ Clock ms → P ms) → P (read_by e last)
read-so P (Began lane line op) last p q = p
read-so P (Answered lane line answer) last p q = p
read-so P (Dialed port) last p q = p
read-so P (Sent bytes) last p q = p
read-so P (Executed xid call reply) last p q = p
read-so P (Foreign call reply) last p q = p
read-so P (Flushed file from len) last p q = p
read-so P (Reboot verf) last p q = p
read-so P (Delivered bytes) last p q = p
read-so P Failed last p q = p
read-so P (Clock ms) last p q = q ms refl

max-so : (P : ℕ → Type 0) (a b : ℕ) → P a → P b → P (max a b)
max-so P a b p q = by (cases_lt a b)
  where
    by : (a < b) ⊎ (b ≤ a) → P (max a b)
    by (inl less) = let is : max a b ≡ b = omega (arith, less) in subst P (sym is) q
    by (inr more) = let is : max a b ≡ a = omega (arith, more) in subst P (sym is) p

timed-so : (P : ℕ → Type 0) (e : Entry) (time last : ℕ) → P time → P last → P (timed_by e time last)
timed-so P (Began lane line op) time last p q = max-so P time last p q
timed-so P (Answered lane line answer) time last p q = p
timed-so P (Dialed port) time last p q = p
timed-so P (Sent bytes) time last p q = p
timed-so P (Executed xid call reply) time last p q = p
timed-so P (Foreign call reply) time last p q = p
timed-so P (Flushed file from len) time last p q = p
timed-so P (Reboot verf) time last p q = p
timed-so P (Delivered bytes) time last p q = p
timed-so P Failed time last p q = p
timed-so P (Clock ms) time last p q = p

-- what holds of all readings within so many entries, and of the times before, holds of the time after these
each-so : (P : ℕ → Type 0) (x : ℕ) (h : List Entry) (time last : ℕ) → P time → P last → ((at ms : ℕ) → At h at (Clock ms) → at < x → P ms)
    → P (max (time_from time last (take x h)) (last_reading last (take x h)))
each-so P zero h time last p q all = max-so P time last p q
each-so P (suc x) [] time last p q all = max-so P time last p q
each-so P (suc x) (e ∷ es) time last p q all =
    subst (λ (n : ℕ). P (max (time_from time last (e ∷ take x es)) n)) (sym (read-on e (take x es) last))
    (each-so P x es (timed_by e time last) (read_by e last) (timed-so P e time last p q)
    (read-so P e last q (λ ms is. all 0 ms (ap (λ (a : Entry). Some a) is) (omega arith)))
    (λ at ms there below. all (suc at) ms there (omega (arith, below))))

-- the time is 0, or stands among so many entries
abbrev Stands : ℕ → List Entry → ℕ → Type 0
Stands x h ms = (ms ≡ 0) ⊎ ((at : ℕ) × At h at (Clock ms) × (at < x))

stands : (x : ℕ) (h : List Entry) → Stands x h (began_at h x)
stands x h = each-so (Stands x h) x h 0 0 (inl refl) (inl refl) (λ at ms there below. inr (at, there, below))

-- ---- recent moments

module _ (modes : Modes) (h : List Entry) (takes : TakesReadings h) (lane x y line : ℕ) (op : Op) (began : At h x (Began lane line op)) where
  none-later : (j later : ℕ) → At h j (Clock later) → j < x → later ≤ began_at h x
  none-later j later at below = bound x h 0 0 j later at below (λ more. takes.taken j later x lane line op at began below)

  pub young-of : (n : ℕ) → 0 < modes.longest → IsRecent h modes.longest x n → IsYoung modes h x n
  young-of n some (own after) = by (stands x h)
    where
      by : Stands x h (began_at h x) → IsYoung modes h x n
      by (inr s) = record {
        at = s.0;
        ms = began_at h x;
        read = s.1;
        before = let below = s.2 in omega (arith, below, after);
        young = λ j later at below. let low = none-later j later at below in omega (arith, low, some);
      }
      by (inl none) =
          let r = takes.read x lane line op began in
          let early = r.before in
          record {
            at = r.at;
            ms = r.ms;
            read = r.read;
            before = omega (arith, early, after);
            young = λ j later at below. let low = none-later j later at below in omega (arith, low, none, some);
          }
  young-of n some (young ms (inr s) less) = record {
    at = s.0;
    ms = ms;
    read = s.1;
    before = s.2;
    young = λ j later at below. let low = none-later j later at below in omega (arith, low, less);
  }
  young-of n some (young ms (inl none) less) =
      let b = none.1 in
      let zero_is = none.0 in
      let r = takes.read b.x b.lane b.line b.op b.began in
      let early = r.before in
      let soon = b.before in
      record {
        at = r.at;
        ms = r.ms;
        read = r.read;
        before = omega (arith, early, soon);
        young = λ j later at below. let low = none-later j later at below in omega (arith, low, less, zero_is);
      }

  -- where nothing is kept for any time it is one of the operation's own
  pub own-of : (n : ℕ) → modes.longest ≤ 0 → IsRecent h modes.longest x n → x ≤ n
  own-of n none (own after) = omega (arith, after)
  own-of n none (young ms (inl zeros) less) = let zero_is = zeros.0 in absurd (omega (arith, less, zero_is, none))
  own-of n none (young ms (inr s) less) = by (cases_lt s.0 x)
    where
      by : (s.0 < x) ⊎ (x ≤ s.0) → x ≤ n
      by (inl early) = let low = none-later s.0 ms s.1 early in absurd (omega (arith, low, less, none))
      by (inr late) = let below = s.2 in omega (arith, below, late)

  pub recent-of : (answer : Answer) → Ended h lane x op y answer → (n : ℕ) → IsRecent h modes.longest x n → n ≤ y → Recent modes h x n
  recent-of answer ended n recent soon = by (cases_lt 0 modes.longest)
    where
      by : (0 < modes.longest) ⊎ (modes.longest ≤ 0) → Recent modes h x n
      by (inl some) = kept y some (answered lane op answer ended) soon (young-of n some recent)
      by (inr none) = during y (omega (arith, none)) (answered lane op answer ended) (record { late = own-of n none recent; soon = soon })
