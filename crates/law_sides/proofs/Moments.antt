-- The moments of one client's history among those of both.
use Rattle.std.proofs.Common.{◌≡◌, ◌≤◌, ◌<◌, ◌⊎◌, inl, inr, ℕ, zero, suc, List, [], ◌∷◌, length, Option, Some, None, slice_get, refl, sym, ap, subst, ◌∙◌, arith}
use Rattle.std.proofs.lemmas.Bool.{cases_lt}
use Rattle.outside.specs.Pairs.{PairStep, seen_as, with_seen, side_steps, entries_of, one_more, moment_in, StandsAt}

pub moment-first : (end : ℕ) (steps : List PairStep) → moment_in end steps zero ≡ 0
moment-first end [] = refl
moment-first end (s ∷ steps) = refl

-- ---- one step more

abbrev Steps : ℕ → ℕ → Type 0
Steps n m = (n ≤ m) × (m ≤ suc n)

more-steps : (x : Option PairStep) (n m : ℕ) → Steps n m → Steps (one_more x n) (one_more x m)
more-steps None n m s = s
more-steps (Some t) n m s = (omega (arith, s.0), omega (arith, s.1))

first-steps : (x : Option PairStep) (m : ℕ) → m ≡ 0 → Steps 0 (one_more x m)
first-steps None m z = (omega (arith, z), omega (arith, z))
first-steps (Some t) m z = (omega (arith, z), omega (arith, z))

steps-once : (end : ℕ) (steps : List PairStep) (n : ℕ) → Steps (moment_in end steps n) (moment_in end steps (suc n))
steps-once end [] n = (omega arith, omega arith)
steps-once end (s ∷ steps) zero = first-steps (seen_as end s) (moment_in end steps zero) (moment-first end steps)
steps-once end (s ∷ steps) (suc n) = more-steps (seen_as end s) (moment_in end steps n) (moment_in end steps (suc n)) (steps-once end steps n)

-- a later moment of both is no earlier one of one of them
pub moments-rise : (end : ℕ) (steps : List PairStep) (n m : ℕ) → n ≤ m → moment_in end steps n ≤ moment_in end steps m
moments-rise end steps n zero le = let same : n ≡ zero = omega (arith, le) in subst (λ (k : ℕ). moment_in end steps k ≤ moment_in end steps zero) (sym same) (omega arith)
moments-rise end steps n (suc m) le = by (moments-rise end steps n m) (cases_lt m n)
  where
    by : (n ≤ m → moment_in end steps n ≤ moment_in end steps m) → (m < n) ⊎ (n ≤ m) → moment_in end steps n ≤ moment_in end steps (suc m)
    by rest (inl low) = let same : n ≡ suc m = omega (arith, le, low) in subst (λ (k : ℕ). moment_in end steps k ≤ moment_in end steps (suc m)) (sym same) (omega arith)
    by rest (inr high) = let r = rest high in let s = (steps-once end steps m).0 in omega (arith, r, s)

-- behind a step that is seen there is one moment more
pub seen-next : (end : ℕ) (steps : List PairStep) (at : ℕ) (s t : PairStep) → slice_get steps at ≡ Some s → seen_as end s ≡ Some t → moment_in end steps (suc at) ≡ suc (moment_in end steps at)
seen-next end [] at s t is sees = absurd cc
seen-next end (x ∷ steps) zero s t is sees =
    let same : x ≡ s = cc in
    ap (λ (o : Option PairStep). one_more o (moment_in end steps zero)) (ap (seen_as end) same ∙ sees) ∙ ap suc (moment-first end steps)
seen-next end (x ∷ steps) (suc at) s t is sees = more (seen_as end x) (seen-next end steps at s t is sees)
  where
    more : (o : Option PairStep) → moment_in end steps (suc at) ≡ suc (moment_in end steps at) → one_more o (moment_in end steps (suc at)) ≡ suc (one_more o (moment_in end steps at))
    more None e = e
    more (Some u) e = ap suc e

pub stands-next : (end : ℕ) (steps : List PairStep) (at n : ℕ) → StandsAt end steps at n → moment_in end steps (suc at) ≡ suc n
stands-next end steps at n s = seen-next end steps at s.step s.seen s.is s.sees ∙ ap suc s.place

-- a moment is one of the history
pub moment-within : (end : ℕ) (steps : List PairStep) (n : ℕ) → moment_in end steps n ≤ length (entries_of (side_steps end steps))
moment-within end [] n = omega arith
moment-within end (s ∷ steps) zero = omega arith
moment-within end (s ∷ steps) (suc n) = more (seen_as end s) (moment-within end steps n)
  where
    more : (o : Option PairStep) → moment_in end steps n ≤ length (entries_of (side_steps end steps)) → one_more o (moment_in end steps n) ≤ length (entries_of (with_seen o (side_steps end steps)))
    more None le = le
    more (Some u) le = omega (arith, le)

-- ---- each moment of one client is a moment of both

pub record Between (end : ℕ) (steps : List PairStep) (from to n : ℕ) : Type 0 where
  pub at : ℕ
  pub late : from ≤ at
  pub soon : at ≤ to
  pub is : moment_in end steps at ≡ n

pub between : (end : ℕ) (steps : List PairStep) (from to n : ℕ) → from ≤ to → moment_in end steps from ≤ n → n ≤ moment_in end steps to → Between end steps from to n
between end steps from zero n le low high =
    let same : from ≡ zero = omega (arith, le) in
    let down : moment_in end steps zero ≤ n = subst (λ (k : ℕ). moment_in end steps k ≤ n) same low in
    record { at = zero; late = omega (arith, same); soon = omega arith; is = omega (arith, down, high) }
between end steps from (suc to) n le low high = by (λ within below. between end steps from to n within low below) (cases_lt to from) (cases_lt (moment_in end steps to) n)
  where
    by : (from ≤ to → n ≤ moment_in end steps to → Between end steps from to n) → (to < from) ⊎ (from ≤ to) → (moment_in end steps to < n) ⊎ (n ≤ moment_in end steps to) → Between end steps from (suc to) n
    by rest (inl last) side =
        let same : from ≡ suc to = omega (arith, le, last) in
        let down : moment_in end steps (suc to) ≤ n = subst (λ (k : ℕ). moment_in end steps k ≤ n) same low in
        record { at = suc to; late = le; soon = omega arith; is = omega (arith, down, high) }
    by rest (inr within) (inl above) =
        let s = (steps-once end steps to).1 in
        record { at = suc to; late = le; soon = omega arith; is = omega (arith, high, above, s) }
    by rest (inr within) (inr below) =
        let r = rest within below in
        record { at = r.at; late = r.late; soon = let soon = r.soon in omega (arith, soon); is = r.is }
