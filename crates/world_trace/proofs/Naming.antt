-- What a list names when it has one more object.
use Rattle.std.proofs.Common.{◌≡◌, ℕ, true, false, List, [], ◌∷◌, ◌++◌, Option, Some, None, refl, inl, inr}
use Rattle.std.specs.Str.{bytes_eq}
use Rattle.std.proofs.lemmas.Bool.{cases_Bool}
use Rattle.trace_data.specs.declared.trace.Object.{Object}
use Rattle.trace_data.specs.declared.trace.Updated.{Updated}
use Rattle.trace_data.specs.Histories.{named, or_else}

pub named-push : (us : List Updated) (u : Updated) (h : List ℕ) → named (us ++ u ∷ []) h ≡ or_else (named us h) (named (u ∷ []) h)
named-push [] u h = refl
named-push (x ∷ us) u h = elim (cases_Bool (bytes_eq x.handle h)) [
  | inl t ↦ rw t refl
  | inr f ↦ rw f (named-push us u h)
]

pub named-here : (u : Updated) (h : List ℕ) → bytes_eq u.handle h ≡ true → named (u ∷ []) h ≡ Some u.object
named-here u h t = rw t refl

pub named-past : (u : Updated) (h : List ℕ) → bytes_eq u.handle h ≡ false → named (u ∷ []) h ≡ None
named-past u h f = rw f refl
