-- Where records were sent under each of so many xids, and under no other, so many calls were made.
use Rattle.core_answers.proofs.Prelude.{◌≡◌, ◌≢◌, ◌<◌, ◌≤◌, ◌+◌, ◌⊎◌, ◌||◌, ◌==◌, inl, inr, ℕ, zero, suc, Bool, true, false, List, [], ◌∷◌, ◌++◌, length, Option, Some, None, refl, sym, ap, subst, ◌∙◌, arith, if◌then◌else◌, eqb-true, eqb-false, eq-eqb, cases_lt, xid_at, Entry, Began, Answered, Dialed, Executed, Foreign, Flushed, Reboot, Delivered, Failed, Clock, At, HasXid}
use Rattle.world_model.specs.declared.entry.Entry.TheVariants.{Sent}
use Rattle.std.specs.List.{list_any}
use Rattle.claims.specs.Caused.{number_of, xids_of}
use Rattle.world_model.specs.Counts.{different}
use Rattle.core_answers.specs.limits.Limited.{CallsAreAll}

-- ---- numbers in a list

abbrev has : ℕ → List ℕ → Bool
has m xs = list_any (λ y. y == m) xs

abbrev Holds : ℕ → List ℕ → Type 0
Holds m xs = has m xs ≡ true

-- the others
abbrev others : ℕ → List ℕ → List ℕ
others m [] = []
others m (x ∷ xs) = if x == m then others m xs else x ∷ others m xs

either : (a b : Bool) → (a || b) ≡ true → (a ≡ true) ⊎ (b ≡ true)
either true b e = inl refl
either false b e = inr e

no-way : (P : Type 0) → false ≡ true → P
no-way P e = absurd cc

others-same : (m : ℕ) (xs : List ℕ) → has m xs ≡ false → others m xs ≡ xs
others-same m [] none = refl
others-same m (x ∷ xs) none = by (x == m) none (others-same m xs)
  where
    by : (b : Bool) → (b || has m xs) ≡ false → (has m xs ≡ false → others m xs ≡ xs) → (if b then others m xs else x ∷ others m xs) ≡ x ∷ xs
    by true e more = absurd (cc)
    by false e more = ap (λ (ys : List ℕ). x ∷ ys) (more e)

others-has : (m k : ℕ) (xs : List ℕ) → k ≢ m → has k (others m xs) ≡ has k xs
others-has m k [] apart = refl
others-has m k (x ∷ xs) apart = by (x == m) refl (others-has m k xs apart)
  where
    by : (b : Bool) → (x == m) ≡ b → has k (others m xs) ≡ has k xs → has k (if b then others m xs else x ∷ others m xs) ≡ ((x == k) || has k xs)
    by true d more = more ∙ sym (ap (λ (c : Bool). c || has k xs) (none (eqb-true x m d)))
      where
        none : x ≡ m → (x == k) ≡ false
        none is = other (x == k) refl
          where
            other : (c : Bool) → (x == k) ≡ c → c ≡ false
            other true e = absurd (apart (sym (eqb-true x k e) ∙ is))
            other false e = refl
    by false d more = ap (λ (c : Bool). (x == k) || c) more

others-lack : (m : ℕ) (xs : List ℕ) → has m (others m xs) ≡ false
others-lack m [] = refl
others-lack m (x ∷ xs) = by (x == m) refl (others-lack m xs)
  where
    by : (b : Bool) → (x == m) ≡ b → has m (others m xs) ≡ false → has m (if b then others m xs else x ∷ others m xs) ≡ false
    by true d more = more
    by false d more = ap (λ (c : Bool). c || has m (others m xs)) d ∙ more

-- without one of its numbers there is one less
one-less : (m : ℕ) (xs : List ℕ) → Holds m xs → length (different (others m xs)) + 1 ≡ length (different xs)
one-less m [] there = no-way (length (different (others m [])) + 1 ≡ 0) there
one-less m (x ∷ xs) there = by (x == m) refl there (one-less m xs)
  where
    mine : x ≡ m → (c : Bool) → has x xs ≡ c → (Holds m xs → length (different (others m xs)) + 1 ≡ length (different xs))
        → length (different (others m xs)) + 1 ≡ length (if c then different xs else x ∷ different xs)
    mine is true e more = more (ap (λ (n : ℕ). has n xs) (sym is) ∙ e)
    mine is false e more = let same = ap (λ (ys : List ℕ). length (different ys)) (others-same m xs (ap (λ (n : ℕ). has n xs) (sym is) ∙ e)) in omega (arith, same)

    another : (c : Bool) → (length (different (others m xs)) + 1 ≡ length (different xs))
        → length (if c then different (others m xs) else x ∷ different (others m xs)) + 1 ≡ length (if c then different xs else x ∷ different xs)
    another true more = more
    another false more = omega (arith, more)

    by : (b : Bool) → (x == m) ≡ b → (b || has m xs) ≡ true → (Holds m xs → length (different (others m xs)) + 1 ≡ length (different xs))
        → length (different (if b then others m xs else x ∷ others m xs)) + 1 ≡ length (if has x xs then different xs else x ∷ different xs)
    by true d e more = mine (eqb-true x m d) (has x xs) refl more
    by false d e more =
        subst (λ (c : Bool). length (if c then different (others m xs) else x ∷ different (others m xs)) + 1 ≡ length (if has x xs then different xs else x ∷ different xs))
        (sym (others-has m x xs (eqb-false x m d))) (another (has x xs) (more e))

nothing : (xs : List ℕ) → ((k : ℕ) → Holds k xs → ⊥) → length (different xs) ≡ 0
nothing [] none = refl
nothing (x ∷ xs) none = absurd (none x (ap (λ (b : Bool). b || has x xs) (eq-eqb x x refl)))

count-of : (n first : ℕ) (xs : List ℕ) → ((k : ℕ) → Holds k xs → (first ≤ k) × (k < first + n)) → ((k : ℕ) → first ≤ k → k < first + n → Holds k xs) → length (different xs) ≡ n
count-of zero first xs within all = nothing xs (λ k h. let w = within k h in let low = w.0 in let high = w.1 in omega (arith, low, high))
count-of (suc n) first xs within all =
    let one = one-less (first + n) xs (all (first + n) (omega arith) (omega arith)) in
    let rest = count-of n first (others (first + n) xs) fewer more in
    omega (arith, one, rest)
  where
    apart : (k : ℕ) → Holds k (others (first + n) xs) → k ≢ first + n
    apart k h is = no-way ⊥ (sym (others-lack (first + n) xs) ∙ ap (λ (j : ℕ). has j (others (first + n) xs)) (sym is) ∙ h)

    fewer : (k : ℕ) → Holds k (others (first + n) xs) → (first ≤ k) × (k < first + n)
    fewer k h =
        let w = within k (sym (others-has (first + n) k xs (apart k h)) ∙ h) in
        let low = w.0 in
        let high = w.1 in
        (low, less (apart k h) high)
      where
        less : (k ≢ first + n) → k < first + suc n → k < first + n
        less other high = elim (cases_lt k (first + n)) [
          | inl lt ↦ lt
          | inr ge ↦ absurd (other (omega (arith, ge, high)))
        ]

    more : (k : ℕ) → first ≤ k → k < first + n → Holds k (others (first + n) xs)
    more k low high = others-has (first + n) k xs (λ is. omega (arith, is, high)) ∙ all k low (omega (arith, high))

-- ---- xids of a history

has-both : (k : ℕ) (o : Option ℕ) (xs : List ℕ) → Holds k xs → Holds k (number_of o ++ xs)
has-both k None xs h = h
has-both k (Some x) xs h = by (x == k)
  where
    by : (b : Bool) → (b || has k xs) ≡ true
    by true = refl
    by false = h

has-first : (k : ℕ) (o : Option ℕ) (xs : List ℕ) → o ≡ Some k → Holds k (number_of o ++ xs)
has-first k o xs is = subst (λ (p : Option ℕ). Holds k (number_of p ++ xs)) (sym is) (ap (λ (b : Bool). b || has k xs) (eq-eqb k k refl))

sent-is : (a b : List ℕ) → Some (Sent a) ≡ Some (Sent b) → a ≡ b
sent-is a b e = cc

sent-has : (h : List Entry) (i : ℕ) (bytes : List ℕ) (xid : ℕ) → At h i (Sent bytes) → HasXid bytes xid → Holds xid (xids_of h)
sent-has [] i bytes xid at named = absurd (cc)
sent-has (Sent b ∷ es) zero bytes xid at named = has-first xid (xid_at b) (xids_of es) (ap xid_at (sent-is b bytes at) ∙ named)
sent-has (Sent b ∷ es) (suc i) bytes xid at named = has-both xid (xid_at b) (xids_of es) (sent-has es i bytes xid at named)
sent-has (Began lane line op ∷ es) zero bytes xid at named = absurd (cc)
sent-has (Began lane line op ∷ es) (suc i) bytes xid at named = sent-has es i bytes xid at named
sent-has (Answered lane line answer ∷ es) zero bytes xid at named = absurd (cc)
sent-has (Answered lane line answer ∷ es) (suc i) bytes xid at named = sent-has es i bytes xid at named
sent-has (Dialed port ∷ es) zero bytes xid at named = absurd (cc)
sent-has (Dialed port ∷ es) (suc i) bytes xid at named = sent-has es i bytes xid at named
sent-has (Executed x call reply ∷ es) zero bytes xid at named = absurd (cc)
sent-has (Executed x call reply ∷ es) (suc i) bytes xid at named = sent-has es i bytes xid at named
sent-has (Foreign call reply ∷ es) zero bytes xid at named = absurd (cc)
sent-has (Foreign call reply ∷ es) (suc i) bytes xid at named = sent-has es i bytes xid at named
sent-has (Flushed file from len ∷ es) zero bytes xid at named = absurd (cc)
sent-has (Flushed file from len ∷ es) (suc i) bytes xid at named = sent-has es i bytes xid at named
sent-has (Reboot verf ∷ es) zero bytes xid at named = absurd (cc)
sent-has (Reboot verf ∷ es) (suc i) bytes xid at named = sent-has es i bytes xid at named
sent-has (Delivered b ∷ es) zero bytes xid at named = absurd (cc)
sent-has (Delivered b ∷ es) (suc i) bytes xid at named = sent-has es i bytes xid at named
sent-has (Failed ∷ es) zero bytes xid at named = absurd (cc)
sent-has (Failed ∷ es) (suc i) bytes xid at named = sent-has es i bytes xid at named
sent-has (Clock ms ∷ es) zero bytes xid at named = absurd (cc)
sent-has (Clock ms ∷ es) (suc i) bytes xid at named = sent-has es i bytes xid at named

-- a record was sent under the xid
abbrev WasOne : List Entry → ℕ → Type 0
WasOne h xid = (i : ℕ) × (bytes : List ℕ) × At h i (Sent bytes) × HasXid bytes xid

one-later : (e : Entry) (es : List Entry) (xid : ℕ) → WasOne es xid → WasOne (e ∷ es) xid
one-later e es xid w = (suc w.0, w.1, w.2, w.3)

number-is : (o : Option ℕ) (k : ℕ) (xs : List ℕ) → Holds k (number_of o ++ xs) → (o ≡ Some k) ⊎ Holds k xs
number-is None k xs h = inr h
number-is (Some x) k xs h = by (either (x == k) (has k xs) h)
  where
    by : ((x == k) ≡ true) ⊎ (has k xs ≡ true) → (Some x ≡ Some k) ⊎ Holds k xs
    by (inl same) = inl (ap Some (eqb-true x k same))
    by (inr there) = inr there

has-sent : (h : List Entry) (xid : ℕ) → Holds xid (xids_of h) → WasOne h xid
has-sent [] xid there = no-way (WasOne [] xid) there
has-sent (Sent b ∷ es) xid there = by (number-is (xid_at b) xid (xids_of es) there) (has-sent es xid)
  where
    by : (xid_at b ≡ Some xid) ⊎ Holds xid (xids_of es) → (Holds xid (xids_of es) → WasOne es xid) → WasOne (Sent b ∷ es) xid
    by (inl named) more = (0, b, refl, named)
    by (inr rest) more = one-later (Sent b) es xid (more rest)
has-sent (Began lane line op ∷ es) xid there = one-later (Began lane line op) es xid (has-sent es xid there)
has-sent (Answered lane line answer ∷ es) xid there = one-later (Answered lane line answer) es xid (has-sent es xid there)
has-sent (Dialed port ∷ es) xid there = one-later (Dialed port) es xid (has-sent es xid there)
has-sent (Executed x call reply ∷ es) xid there = one-later (Executed x call reply) es xid (has-sent es xid there)
has-sent (Foreign call reply ∷ es) xid there = one-later (Foreign call reply) es xid (has-sent es xid there)
has-sent (Flushed file from len ∷ es) xid there = one-later (Flushed file from len) es xid (has-sent es xid there)
has-sent (Reboot verf ∷ es) xid there = one-later (Reboot verf) es xid (has-sent es xid there)
has-sent (Delivered b ∷ es) xid there = one-later (Delivered b) es xid (has-sent es xid there)
has-sent (Failed ∷ es) xid there = one-later Failed es xid (has-sent es xid there)
has-sent (Clock ms ∷ es) xid there = one-later (Clock ms) es xid (has-sent es xid there)

pub calls-are-all : CallsAreAll
calls-are-all h first calls within all =
    count-of calls first (xids_of h) (λ xid there. let w = has-sent h xid there in within w.0 xid w.1 w.2 w.3)
    (λ xid low high. let w = all xid low high in sent-has h w.at w.bytes xid w.sent w.under)
