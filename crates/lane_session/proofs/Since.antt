-- The status of a script by the answers since its place in the history.
use Rattle.std.proofs.Common.{◌≡◌, ◌≤◌, ◌+◌, ◌⊎◌, inl, inr, ℕ, zero, suc, List, [], ◌∷◌, ◌++◌, length, drop, refl, sym, ap, subst, arith}
use Rattle.world_model.specs.declared.answer.Answer.{Answer}
use Rattle.world_model.specs.declared.answer.Answer.TheVariants.{Refused}
use Rattle.world_model.specs.declared.answer.Fault.{Fault}
use Rattle.world_model.specs.declared.answer.Fault.TheVariants as faults
use Rattle.world_model.specs.declared.entry.Entry.{Entry}
use Rattle.world_model.specs.declared.entry.Entry.TheVariants.{Answered}
use Rattle.world_model.specs.Entries.{At}
use Rattle.world_model.specs.Follows.{marks_of}
use Rattle.lane_session.specs.Statuses.{after_answer, IsAnswered, HasStatus, lost, refused, well}
use Rattle.lane_session.proofs.Placing.{status-quiet, status-answer}

drop-on : (n : ℕ) (h more : List Entry) → n ≤ length h → drop n (h ++ more) ≡ drop n h ++ more
drop-on zero h more le = refl
drop-on (suc n) [] more le = absurd (omega (arith, le))
drop-on (suc n) (e ∷ h) more le = drop-on n h more (omega (arith, le))

drop-whole : (h : List Entry) → drop (length h) h ≡ []
drop-whole [] = refl
drop-whole (e ∷ h) = drop-whole h

drop-past : (h more : List Entry) → drop (length h) (h ++ more) ≡ more
drop-past [] more = refl
drop-past (e ∷ h) more = drop-past h more

pub within-grow : (from : ℕ) (h : List Entry) (e : Entry) → from ≤ length h → from ≤ length (h ++ e ∷ [])
within-grow from h e le = let long = longer h in omega (arith, le, long)
  where
    longer : (k : List Entry) → length k ≤ length (k ++ e ∷ [])
    longer [] = omega arith
    longer (d ∷ k) = let l = longer k in omega (arith, l)

-- an entry that refuses nothing
pub since-quiet : (from : ℕ) (h : List Entry) (e : Entry) (n : ℕ) → from ≤ length h → ((fault : Fault) (lane line : ℕ) → e ≡ Answered lane line (Refused fault) → ⊥) → HasStatus (drop from h) n
    → HasStatus (drop from (h ++ e ∷ [])) n
since-quiet from h e n within other s = subst (λ (t : List Entry). HasStatus t n) (sym (drop-on from h (e ∷ []) within)) (status-quiet (drop from h) e n other s)

-- one more answer
pub since-answer : (from : ℕ) (h : List Entry) (lane line n : ℕ) (a : Answer) → from ≤ length h → HasStatus (drop from h) n → HasStatus (drop from (h ++ Answered lane line a ∷ [])) (after_answer n a)
since-answer from h lane line n a within s =
    subst (λ (t : List Entry). HasStatus t (after_answer n a)) (sym (drop-on from h (Answered lane line a ∷ []) within)) (status-answer (drop from h) lane line n a s)

-- nothing was answered yet
pub since-none : (h : List Entry) → HasStatus (drop (length h) h) 0
since-none h = subst (λ (t : List Entry). HasStatus t 0) (sym (drop-whole h)) (well refl (λ fault i. none i.at (Answered i.lane i.line (Refused fault)) i.is))
  where
    none : (n : ℕ) (e : Entry) → At [] n e → ⊥
    none n e at = absurd cc

-- ---- all answers

At-past : (h more : List Entry) (i : ℕ) (e : Entry) → At more i e → At (h ++ more) (length h + i) e
At-past [] more i e at = let z : 0 + i ≡ i = omega arith in subst (λ (n : ℕ). At more n e) (sym z) at
At-past (x ∷ h) more i e at = let z : suc (length h) + i ≡ suc (length h + i) = omega arith in subst (λ (n : ℕ). At (x ∷ (h ++ more)) n e) (sym z) (At-past h more i e at)

At-split : (h more : List Entry) (i : ℕ) (e : Entry) → At (h ++ more) i e → At h i e ⊎ ((j : ℕ) × At more j e)
At-split [] more i e at = inr (i, at)
At-split (x ∷ h) more zero e at = inl at
At-split (x ∷ h) more (suc i) e at = elim (At-split h more i e at) [ inl a ↦ inl a | inr b ↦ inr b ]

module _ (h more : List Entry) (unanswered : (n lane line : ℕ) (a : Answer) → At h n (Answered lane line a) → ⊥) where
  answered-past : (a : Answer) → IsAnswered more a → IsAnswered (h ++ more) a
  answered-past a i = record { at = length h + i.at; lane = i.lane; line = i.line; is = At-past h more i.at (Answered i.lane i.line a) i.is }

  answered-since : (a : Answer) → IsAnswered (h ++ more) a → IsAnswered more a
  answered-since a i = elim (At-split h more i.at (Answered i.lane i.line a) i.is) [
    | inl before ↦ absurd (unanswered i.at i.lane i.line a before)
    | inr after ↦ record { at = after.0; lane = i.lane; line = i.line; is = after.1 }
  ]

  status-past : (n : ℕ) → HasStatus more n → HasStatus (h ++ more) n
  status-past n (lost is i) = lost is (answered-past (Refused faults.Lost) i)
  status-past n (refused is fault i none) = refused is fault (answered-past (Refused fault) i) (λ j. none (answered-since (Refused faults.Lost) j))
  status-past n (well is none) = well is (λ fault j. none fault (answered-since (Refused fault) j))

  -- where none came before
  pub since-whole : (k : List Entry) (n : ℕ) → k ≡ h ++ more → HasStatus (drop (length h) k) n → HasStatus k n
  since-whole k n is s =
      subst (λ (t : List Entry). HasStatus t n) (sym is)
      (status-past n (subst (λ (t : List Entry). HasStatus t n) (drop-past h more) (subst (λ (t : List Entry). HasStatus (drop (length h) t) n) is s)))
