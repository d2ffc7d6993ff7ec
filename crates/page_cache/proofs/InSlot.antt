-- The page that a slot holds is one of those that are kept.
use Rattle.std.proofs.Common.{◌≡◌, ℕ, suc, inl, inr, List, [], ◌∷◌, get_or, slice_get, Option, Some, None, refl}
use Rattle.std.proofs.lemmas.Bool.{cases_eq}
use Rattle.page_cache.specs.declared.place.PagePlace.{PagePlace}
use Rattle.page_cache.specs.Slots.{shown, shown_at, Lacks}

-- a page stands among these
abbrev Among : PagePlace × List ℕ → List (PagePlace × List ℕ) → Type 0
Among page all = (n : ℕ) × (slice_get all n ≡ Some page)

module _ {V : Type 0} (held : List (Option PagePlace)) (pages : List (List ℕ)) (slot : ℕ) (place : PagePlace) (is : get_or held slot None ≡ Some place) where
  pub in-shown : (order : List (ℕ × V)) → (Lacks slot order → ⊥) → (n : ℕ) × (slice_get (shown order held pages) n ≡ Some (place, get_or pages slot []))
  in-shown [] there = absurd (there tt)
  in-shown (e ∷ order) there = elim (cases_eq e.0 slot) [
    | inl same ↦ (0, rw (same, is) refl)
    | inr other ↦ later (get_or held e.0 None) (in-shown order (λ l. there (other, l)))
  ]
    where
      later : (o : Option PagePlace) → Among (place, get_or pages slot []) (shown order held pages)
          → Among (place, get_or pages slot []) (shown_at o (get_or pages e.0 []) (shown order held pages))
      later None it = it
      later (Some p) it = (suc it.0, it.1)
