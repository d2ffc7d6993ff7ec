-- A put whose path leads to a file before it is answered writes its bytes there, as a whole history sees it.
use Rattle.core_session.proofs.Prelude.{◌≡◌, ◌<◌, ◌≤◌, ◌⊎◌, inl, inr, ℕ, zero, suc, Bool, true, false, nat_eq, List, [], ◌∷◌, ◌++◌, length, Option, Some, None, slice_get, refl, sym, ap, subst, ◌∙◌, arith, eqb-true, eqb-false, cases_lt, Answer, Entry, Began, Answered, Dialed, Sent, Executed, Foreign, Flushed, Reboot, Delivered, Failed, Clock, Op, At, Modes, Origin, Rooted, AnsweredBefore, WritesByte, Rooted-wide, At-one, KnowsRoot, LeadsTo, leads-from}
use Rattle.world_model.specs.Operations.{EndsAt, answered, unanswered}
use Rattle.claims.specs.Touched.{Covers}
use Rattle.world_model.specs.declared.op.Op.TheVariants as ops
use Rattle.world_model.specs.Leads.{Leads}
use Rattle.claims.specs.Touched as touched

-- ---- when an operation ends

module _ (lane line : ℕ) where
  abbrev IsAnswer : Option Entry → Type 0
  IsAnswer o = (a : Answer) × (o ≡ Some (Answered lane line a))

  not-that : (e : Entry) → ((a : Answer) → e ≡ Answered lane line a → ⊥) → (a : Answer) → Some e ≡ Some (Answered lane line a) → ⊥
  not-that e none a is = none a (let same : e ≡ Answered lane line a = cc in same)

  entry-answers : (e : Entry) → IsAnswer (Some e) ⊎ (IsAnswer (Some e) → ⊥)
  entry-answers (Answered l k a) = by (nat_eq l lane) (nat_eq k line) refl refl
    where
      lane-of : (b : Answer) → Answered l k a ≡ Answered lane line b → l ≡ lane
      lane-of b e = cc

      line-of : (b : Answer) → Answered l k a ≡ Answered lane line b → k ≡ line
      line-of b e = cc

      by : (c d : Bool) → nat_eq l lane ≡ c → nat_eq k line ≡ d → IsAnswer (Some (Answered l k a)) ⊎ (IsAnswer (Some (Answered l k a)) → ⊥)
      by true true p q = inl (a, ap (λ (n : ℕ). Some (Answered n k a)) (eqb-true l lane p) ∙ ap (λ (n : ℕ). Some (Answered lane n a)) (eqb-true k line q))
      by false d p q = inr (λ s. not-that (Answered l k a) (λ b e. eqb-false l lane p (lane-of b e)) s.0 s.1)
      by true false p q = inr (λ s. not-that (Answered l k a) (λ b e. eqb-false k line q (line-of b e)) s.0 s.1)
  entry-answers (Began l k op) = inr (λ s. not-that (Began l k op) (λ b e. cc) s.0 s.1)
  entry-answers (Dialed port) = inr (λ s. not-that (Dialed port) (λ b e. cc) s.0 s.1)
  entry-answers (Sent bytes) = inr (λ s. not-that (Sent bytes) (λ b e. cc) s.0 s.1)
  entry-answers (Executed xid call reply) = inr (λ s. not-that (Executed xid call reply) (λ b e. cc) s.0 s.1)
  entry-answers (Foreign call reply) = inr (λ s. not-that (Foreign call reply) (λ b e. cc) s.0 s.1)
  entry-answers (Flushed file from len) = inr (λ s. not-that (Flushed file from len) (λ b e. cc) s.0 s.1)
  entry-answers (Reboot verf) = inr (λ s. not-that (Reboot verf) (λ b e. cc) s.0 s.1)
  entry-answers (Delivered bytes) = inr (λ s. not-that (Delivered bytes) (λ b e. cc) s.0 s.1)
  entry-answers Failed = inr (λ s. not-that Failed (λ b e. cc) s.0 s.1)
  entry-answers (Clock ms) = inr (λ s. not-that (Clock ms) (λ b e. cc) s.0 s.1)

  is-answer : (o : Option Entry) → IsAnswer o ⊎ (IsAnswer o → ⊥)
  is-answer None = inr (λ s. let no_way : None ≡ Some (Answered lane line s.0) = s.1 in absurd cc)
  is-answer (Some e) = entry-answers e

  -- the first answer of the line after a place
  record FirstAnswer (h : List Entry) (x n : ℕ) : Type 0 where
    pub y : ℕ
    pub answer : Answer
    pub at : At h y (Answered lane line answer)
    pub later : x < y
    pub within : y < n
    pub first : (j : ℕ) (a : Answer) → At h j (Answered lane line a) → x < j → y ≤ j

  abbrev NoneUpTo : List Entry → ℕ → ℕ → Type 0
  NoneUpTo h x n = (j : ℕ) (a : Answer) → At h j (Answered lane line a) → x < j → j < n → ⊥

  first-answer : (h : List Entry) (x n : ℕ) → FirstAnswer h x n ⊎ NoneUpTo h x n
  first-answer h x zero = inr (λ j a at past early. absurd (omega (arith, early)))
  first-answer h x (suc n) = by (first-answer h x n)
    where
      more : NoneUpTo h x n → (IsAnswer (slice_get h n) × (x < n) → ⊥) → NoneUpTo h x (suc n)
      more none not j a at past early = elim (cases_lt j n) [
        | inl lt ↦ none j a at past lt
        | inr ge ↦ let here : j ≡ n = omega (arith, ge, early) in not ((a, ap (slice_get h) (sym here) ∙ at), omega (arith, past, here))
      ]

      found : NoneUpTo h x n → IsAnswer (slice_get h n) → x < n → FirstAnswer h x (suc n)
      found none is past = record { y = n; answer = is.0; at = is.1; later = past; within = omega arith; first = λ j a at after. least j a at after }
        where
          least : (j : ℕ) (a : Answer) → At h j (Answered lane line a) → x < j → n ≤ j
          least j a at after = elim (cases_lt j n) [
            | inl lt ↦ absurd (none j a at after lt)
            | inr ge ↦ omega (arith, ge)
          ]

      look : NoneUpTo h x n → IsAnswer (slice_get h n) ⊎ (IsAnswer (slice_get h n) → ⊥) → FirstAnswer h x (suc n) ⊎ NoneUpTo h x (suc n)
      look none (inr not) = inr (more none (λ s. not s.0))
      look none (inl is) = elim (cases_lt x n) [
        | inl lt ↦ inl (found none is lt)
        | inr ge ↦ inr (more none (λ s. let past = s.1 in absurd (omega (arith, ge, past))))
      ]

      by : FirstAnswer h x n ⊎ NoneUpTo h x n → FirstAnswer h x (suc n) ⊎ NoneUpTo h x (suc n)
      by (inl f) = inl (record { y = f.y; answer = f.answer; at = f.at; later = f.later; within = let low = f.within in omega (arith, low); first = f.first })
      by (inr none) = look none (is-answer (slice_get h n))

-- each operation ends somewhere
pub ends-at : (h : List Entry) (x lane line : ℕ) (op : Op) → At h x (Began lane line op) → (n : ℕ) × EndsAt h x n
ends-at h x lane line op began = by (first-answer lane line h x (length h))
  where
    same-lane : (a b c d : ℕ) (o q : Op) → Began a b o ≡ Began c d q → a ≡ c
    same-lane a b c d o q e = cc

    same-line : (a b c d : ℕ) (o q : Op) → Began a b o ≡ Began c d q → b ≡ d
    same-line a b c d o q e = cc

    by : FirstAnswer lane line h x (length h) ⊎ NoneUpTo lane line h x (length h) → (n : ℕ) × EndsAt h x n
    by (inl f) = (f.y, answered lane op f.answer (record { line = line; began = began; answered = f.at; later = f.later; first = f.first }))
    by (inr none) = (
      length h,
      unanswered (λ a.
          let d = a.ended in
          let one : Began a.lane d.line a.op ≡ Began lane line op = At-one h x (Began a.lane d.line a.op) (Began lane line op) d.began began in
          none a.y a.answer
          (subst (λ (k : ℕ). At h a.y (Answered lane k a.answer)) (same-line a.lane d.line lane line a.op op one)
          (subst (λ (k : ℕ). At h a.y (Answered k d.line a.answer)) (same-lane a.lane d.line lane line a.op op one) d.answered)) d.later a.before) refl,
    )

-- ---- a put

-- where it wasn't answered at a moment, it ends then or later
ends-late : (h : List Entry) (x n k : ℕ) → k ≤ length h → (AnsweredBefore h x k → ⊥) → EndsAt h x n → k ≤ n
ends-late h x n k within none (answered lane op answer d) = elim (cases_lt n k) [
  | inl lt ↦ absurd (none (record { lane = lane; op = op; y = n; answer = answer; ended = d; before = lt }))
  | inr ge ↦ omega (arith, ge)
]
ends-late h x n k within none (unanswered not is) = omega (arith, within, is)

-- A put that wasn't answered when its path led to the file by then writes its bytes to it.
pub put-writes : (m : Modes) (origin : Origin) (root : List ℕ) (g more h : List Entry) → h ≡ g ++ more → KnowsRoot origin h root → (x lane line offset : ℕ) (path : List (List ℕ)) (bytes : List ℕ)
    → At h x (Began lane line (ops.Put path offset bytes)) → (AnsweredBefore h x (length g) → ⊥) → x < length g → (f : List ℕ) → LeadsTo root g path f → (i v : ℕ) → Covers offset bytes i v
    → WritesByte m origin h x f i v
put-writes m origin root g more h is known x lane line offset path bytes began none since f leads i v covers =
    let e = ends-at h x lane line (ops.Put path offset bytes) began in
    let long : length g ≤ length h = longer in
    let late : length g ≤ e.0 = ends-late h x e.0 (length g) long none e.1 in
    touched.put lane line offset e.0 path bytes began e.1
    (subst (λ (k : List Entry). Leads origin k e.0 path f) (sym is)
    (leads-from root origin g more (length g) e.0 path f late
    (subst (λ (k : List Entry). Rooted origin k e.0 root) is (Rooted-wide origin h x e.0 root (omega (arith, since, late)) (known x lane line (ops.Put path offset bytes) began))) leads)) covers
  where
    grows : (a b : List Entry) → length a ≤ length (a ++ b)
    grows [] b = omega arith
    grows (e ∷ a) b = let rest = grows a b in omega (arith, rest)

    longer : length g ≤ length h
    longer = subst (λ (k : List Entry). length g ≤ length k) (sym is) (grows g more)
