-- What stands at a place goes on standing there.
use Rattle.std.proofs.Common.{inl, inr, ◌⊎◌, ◌≡◌, ◌≢◌, ◌<◌, ℕ, zero, suc, List, [], ◌∷◌, ◌++◌, length, true, false, refl, sym, ap, ◌∙◌, append_assoc, arith, eqb, bytes_eq}
use Rattle.std.proofs.lemmas.Bool.{eqb-true, eq-eqb}
use Rattle.std.proofs.lemmas.List.{length-append}
use Rattle.std.proofs.lemmas.Slice.Eq.{bytes_eq-Decides}
use Rattle.model_writes.specs.Story.{File, Entry, At, Told, Begins}

pub At-grow : (h more : List Entry) (i : ℕ) (e : Entry) → At h i e → At (h ++ more) i e
At-grow [] more i e at = absurd cc
At-grow (x ∷ h) more zero e at = at
At-grow (x ∷ h) more (suc i) e at = At-grow h more i e at

pub At-below : (h : List Entry) (i : ℕ) (e : Entry) → At h i e → i < length h
At-below [] i e at = absurd cc
At-below (x ∷ h) zero e at = omega arith
At-below (x ∷ h) (suc i) e at = let r = At-below h i e at in omega (arith, r)

pub At-last : (h : List Entry) (e : Entry) → At (h ++ e ∷ []) (length h) e
At-last [] e = refl
At-last (x ∷ h) e = At-last h e

pub length_last : (h : List Entry) (e : Entry) → length (h ++ e ∷ []) ≡ suc (length h)
length_last h e = let l = length-append h (e ∷ []) in omega (arith, l)

-- what stands at a place of a longer list stood there, or is the last
pub At-cases : (h : List Entry) (e : Entry) (i : ℕ) (d : Entry) → At (h ++ e ∷ []) i d → At h i d ⊎ ((i ≡ length h) × (e ≡ d))
At-cases [] e zero d at = inr (refl, cc)
At-cases [] e (suc i) d at = absurd cc
At-cases (x ∷ h) e zero d at = inl at
At-cases (x ∷ h) e (suc i) d at = elim (At-cases h e i d at) [ inl a ↦ inl a | inr b ↦ inr (ap suc b.0, b.1) ]

-- below the length a longer list has the same
pub At-shorten : (h more : List Entry) (i : ℕ) (e : Entry) → i < length h → At (h ++ more) i e → At h i e
At-shorten [] more i e lt at = absurd (omega (arith, lt))
At-shorten (x ∷ h) more zero e lt at = at
At-shorten (x ∷ h) more (suc i) e lt at = At-shorten h more i e (omega (arith, lt)) at

-- the first entries that are told
pub before_begins : (t : Told) (h : List Entry) (e : Entry) → Begins t (h ++ e ∷ []) → Begins t h
before_begins t h e b = record { rest = e ∷ b.rest; is = b.is ∙ append_assoc h (e ∷ []) b.rest }

pub At-told : (t : Told) (h : List Entry) (i : ℕ) (e : Entry) → Begins t h → At h i e → At t.entries i e
At-told t h i e b at = rw b.is (At-grow h b.rest i e at)

pub At-past : (t : Told) (h : List Entry) (i : ℕ) (e : Entry) → Begins t h → i < length h → At t.entries i e → At h i e
At-past t h i e b lt at = At-shorten h b.rest i e lt (rw b.is at at)

pub last_told : (t : Told) (h : List Entry) (e : Entry) → Begins t (h ++ e ∷ []) → At t.entries (length h) e
last_told t h e b = At-told t (h ++ e ∷ []) (length h) e b (At-last h e)

pub same_or_not : (a b : ℕ) → (a ≡ b) ⊎ (a ≢ b)
same_or_not a b = elim (eqb a b) as (λ t. eqb a b ≡ t → (a ≡ b) ⊎ (a ≢ b)) [
  | true ↦ λ e. inl (eqb-true a b e)
  | false ↦ λ e. inr (λ same. absurd (differ (sym e ∙ eq-eqb a b same)))
] refl
  where
    differ : false ≡ true → ⊥
    differ e = cc

pub same_file_or_not : (a b : File) → (a ≡ b) ⊎ (a ≢ b)
same_file_or_not a b = elim (bytes_eq a b) as (λ t. bytes_eq a b ≡ t → (a ≡ b) ⊎ (a ≢ b)) [
  | true ↦ λ e. inl ((bytes_eq-Decides a b).0 e)
  | false ↦ λ e. inr (λ same. absurd (differ (sym e ∙ (bytes_eq-Decides a b).1 same)))
] refl
  where
    differ : false ≡ true → ⊥
    differ e = cc
