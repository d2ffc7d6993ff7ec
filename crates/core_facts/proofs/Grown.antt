-- What a history shows of calls, it shows as well with one entry more.
use Rattle.core_facts.proofs.Prelude.{◌≡◌, ◌<◌, ◌≤◌, ◌⊎◌, inl, inr, ℕ, List, [], ◌∷◌, ◌++◌, length, Some, sym, ◌∙◌, arith, Waiting, Entry, Sent, Delivered, At, HasXid, FirstSent-grow, At-grow, At-below, At-cases, length_last, Purpose, IsOutstanding, Tried, unsent, runs}
use Rattle.world_model.proofs.Growth.{Waits-back}
use Rattle.core_facts.specs.Tries.{IsUnsent, FailedTries, one, more, IsRunning, ended}
use Rattle.world_model.specs.Lost.{FailedAttempt}
use Rattle.world_model.specs.Waiting.{Answers}
use Rattle.law_calls.specs.Calls.{Numbered}

-- the entry is no record under the xid that was sent or came
pub record IsQuiet (xid : ℕ) (e : Entry) : Type 0 where
  pub sent : (bytes : List ℕ) → e ≡ Sent bytes → HasXid bytes xid → ⊥
  pub came : (bytes : List ℕ) → e ≡ Delivered bytes → HasXid bytes xid → ⊥

pub longer : (h : List Entry) (e : Entry) → length h < length (h ++ e ∷ [])
longer h e = let l = length_last h e in omega (arith, l)

-- one record has one xid
pub one-xid : (x y : ℕ) (bytes : List ℕ) → HasXid bytes x → HasXid bytes y → x ≡ y
one-xid x y bytes hx hy = same (sym hx ∙ hy)
  where
    same : Some x ≡ Some y → x ≡ y
    same e = cc

pub one-sent : (a b : List ℕ) → Sent a ≡ Sent b → a ≡ b
one-sent a b e = cc

module _ (h : List Entry) (e : Entry) (xid : ℕ) where
  pub unsent-grow : IsQuiet xid e → IsUnsent h xid → IsUnsent (h ++ e ∷ []) xid
  unsent-grow quiet u i bytes at has = elim (At-cases h e i (Sent bytes) at) [ inl p ↦ u i bytes p has | inr q ↦ quiet.sent bytes q.1 has ]

  pub outstanding-grow : (bytes : List ℕ) (from : ℕ) → IsQuiet xid e → IsOutstanding h xid bytes from → IsOutstanding (h ++ e ∷ []) xid bytes from
  outstanding-grow bytes from quiet o = record {
    sent = FirstSent-grow h (e ∷ []) from xid bytes o.sent;
    equal = λ i other at has. elim (At-cases h e i (Sent other) at) [ inl p ↦ o.equal i other p has | inr q ↦ absurd (quiet.sent other q.1 has) ];
    unheard = λ j reply at has after. elim (At-cases h e j (Delivered reply) at) [ inl p ↦ o.unheard j reply p has after | inr q ↦ quiet.came reply q.1 has ];
  }

  pub attempt-grow : (at to : ℕ) → FailedAttempt h xid at to → FailedAttempt (h ++ e ∷ []) xid at to
  attempt-grow at to a = record {
    bytes = a.bytes;
    failed = a.failed;
    sent = At-grow h (e ∷ []) at (Sent a.bytes) a.sent;
    under = a.under;
    is = At-grow h (e ∷ []) a.failed _ a.is;
    after = a.after;
    before = a.before;
  }

  pub tries-grow : (n from to : ℕ) → FailedTries h xid n from to → FailedTries (h ++ e ∷ []) xid n from to
  tries-grow _ _ _ (one n from to is a) = one n from to is (attempt-grow from to a)
  tries-grow _ _ _ (more n from to m at is t a) = more n from to m at is (tries-grow m from at t) (attempt-grow at to a)

  pub running-grow : (n from : ℕ) → IsRunning h xid n from → IsRunning (h ++ e ∷ []) xid n from
  running-grow n from r = record {
    at = r.at;
    bytes = r.bytes;
    sent = At-grow h (e ∷ []) r.at (Sent r.bytes) r.sent;
    under = r.under;
    failed = elim r.failed [ inl first ↦ inl first | inr t ↦ inr (t.0, t.1, tries-grow t.0 from r.at t.2) ];
  }

pub attempt-wide : (h : List Entry) (xid at to later : ℕ) → to ≤ later → FailedAttempt h xid at to → FailedAttempt h xid at later
attempt-wide h xid at to later le a = record { bytes = a.bytes; failed = a.failed; sent = a.sent; under = a.under; is = a.is; after = a.after; before = let b = a.before in omega (arith, b, le) }

pub tries-wide : (h : List Entry) (xid n from to later : ℕ) → to ≤ later → FailedTries h xid n from to → FailedTries h xid n from later
tries-wide h xid _ _ _ later le (one n from to is a) = one n from later is (attempt-wide h xid from to later le a)
tries-wide h xid _ _ _ later le (more n from to m at is t a) = more n from later m at is t (attempt-wide h xid at to later le a)

pub tried-grow : (h : List Entry) (e : Entry) (xid : ℕ) (call : Waiting Purpose) → IsQuiet xid e → Tried h xid call → Tried (h ++ e ∷ []) xid call
tried-grow h e xid call quiet (unsent none u) = unsent none (unsent-grow h e xid quiet u)
tried-grow h e xid call quiet (runs from running o r) = runs from running (outstanding-grow h e xid call.bytes from quiet o) (running-grow h e xid call.attempts from r)
tried-grow h e xid call quiet (ended from idle o t) =
    ended from idle (outstanding-grow h e xid call.bytes from quiet o)
    (tries-wide (h ++ e ∷ []) xid call.attempts from (length h) (length (h ++ e ∷ [])) (let l = longer h e in omega (arith, l)) (tries-grow h e xid call.attempts from (length h) t))

-- ---- records of one xid are equal, and none is sent after its reply

-- the record may be sent next
pub record FitsIn (h : List Entry) (bytes : List ℕ) : Type 0 where
  pub same : (i xid : ℕ) (other : List ℕ) → At h i (Sent other) → HasXid other xid → HasXid bytes xid → other ≡ bytes
  pub fresh : (g xid : ℕ) (reply : List ℕ) → Answers h g xid reply → HasXid bytes xid → ⊥

pub numbered-grow : (h : List Entry) (e : Entry) → ((bytes : List ℕ) → e ≡ Sent bytes → FitsIn h bytes) → Numbered h → Numbered (h ++ e ∷ [])
numbered-grow h e fits n = record { equal = equal; unrepeated = unrepeated }
  where
    equal : (i j xid : ℕ) (a b : List ℕ) → At (h ++ e ∷ []) i (Sent a) → At (h ++ e ∷ []) j (Sent b) → HasXid a xid → HasXid b xid → a ≡ b
    equal i j xid a b p q ha hb = by (At-cases h e i (Sent a) p) (At-cases h e j (Sent b) q)
      where
        by : At h i (Sent a) ⊎ ((i ≡ length h) × (e ≡ Sent a)) → At h j (Sent b) ⊎ ((j ≡ length h) × (e ≡ Sent b)) → a ≡ b
        by (inl x) (inl y) = n.equal i j xid a b x y ha hb
        by (inl x) (inr y) = (fits b y.1).same i xid a x ha hb
        by (inr x) (inl y) = sym ((fits a x.1).same j xid b y hb ha)
        by (inr x) (inr y) = one-sent a b (sym x.1 ∙ y.1)

    earlier : (g xid : ℕ) (reply : List ℕ) → At h g (Delivered reply) → Answers (h ++ e ∷ []) g xid reply → Answers h g xid reply
    earlier g xid reply at a =
        let below = At-below h g (Delivered reply) at in
        record { got = at; under = a.under; waits = Waits-back h (e ∷ []) xid g (omega (arith, below)) a.waits }

    unrepeated : (g i xid : ℕ) (reply bytes : List ℕ) → Answers (h ++ e ∷ []) g xid reply → At (h ++ e ∷ []) i (Sent bytes) → HasXid bytes xid → i < g
    unrepeated g i xid reply bytes a p has = by (At-cases h e g (Delivered reply) a.got) (At-cases h e i (Sent bytes) p)
      where
        by : At h g (Delivered reply) ⊎ ((g ≡ length h) × (e ≡ Delivered reply)) → At h i (Sent bytes) ⊎ ((i ≡ length h) × (e ≡ Sent bytes)) → i < g
        by (inl x) (inl y) = n.unrepeated g i xid reply bytes (earlier g xid reply x a) y has
        by (inl x) (inr y) = absurd ((fits bytes y.1).fresh g xid reply (earlier g xid reply x a) has)
        by (inr x) (inl y) = let below = At-below h i (Sent bytes) y in let is = x.0 in omega (arith, below, is)
        by (inr x) (inr y) = absurd (let no_way : Delivered reply ≡ Sent bytes = sym x.1 ∙ y.1 in cc)
