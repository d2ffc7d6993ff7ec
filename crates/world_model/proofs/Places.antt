-- What stands at a place of a history goes on standing there.
use Rattle.std.proofs.Common.{inl, inr, ◌⊎◌, ◌≡◌, ◌<◌, ◌+◌, ℕ, zero, suc, List, [], ◌∷◌, ◌++◌, length, Option, Some, refl, sym, ap, ◌∙◌, arith}
use Rattle.std.proofs.lemmas.List.{length-append}
use Rattle.world_model.specs.declared.entry.Entry.{Entry}
use Rattle.world_model.specs.Entries.{At}

pub At-grow : (h more : List Entry) (i : ℕ) (e : Entry) → At h i e → At (h ++ more) i e
At-grow [] more i e at = absurd cc
At-grow (x ∷ h) more zero e at = at
At-grow (x ∷ h) more (suc i) e at = At-grow h more i e at

pub At-below : (h : List Entry) (i : ℕ) (e : Entry) → At h i e → i < length h
At-below [] i e at = absurd cc
At-below (x ∷ h) zero e at = omega arith
At-below (x ∷ h) (suc i) e at = let r = At-below h i e at in omega (arith, r)

pub At-last : (h : List Entry) (e : Entry) → At (h ++ e ∷ []) (length h) e
At-last [] e = refl
At-last (x ∷ h) e = At-last h e

pub length_last : (h : List Entry) (e : Entry) → length (h ++ e ∷ []) ≡ length h + 1
length_last h e = length-append h (e ∷ [])

-- what stands at a place of a history with one more entry stood there, or is that entry
pub At-cases : (h : List Entry) (e : Entry) (i : ℕ) (d : Entry) → At (h ++ e ∷ []) i d → At h i d ⊎ ((i ≡ length h) × (e ≡ d))
At-cases [] e zero d at = inr (refl, cc)
At-cases [] e (suc i) d at = absurd cc
At-cases (x ∷ h) e zero d at = inl at
At-cases (x ∷ h) e (suc i) d at = elim (At-cases h e i d at) [ inl a ↦ inl a | inr b ↦ inr (ap suc b.0, b.1) ]

abbrev some : Entry → Option Entry
some x = Some x

some_is : (x y : Entry) → some x ≡ some y → x ≡ y
some_is x y e = cc

-- one entry stands at a place
pub At-one : (h : List Entry) (i : ℕ) (d e : Entry) → At h i d → At h i e → d ≡ e
At-one h i d e p q = some_is d e (sym p ∙ q)

-- what stands below the end of a shorter history stood in it
pub At-back : (h more : List Entry) (i : ℕ) (e : Entry) → At (h ++ more) i e → i < length h → At h i e
At-back [] more i e at lt = absurd (omega (arith, lt))
At-back (x ∷ h) more zero e at lt = at
At-back (x ∷ h) more (suc i) e at lt = At-back h more i e at (omega (arith, lt))
