-- No page is shown twice, as no two slots hold the same page and each slot stands in the order once.
use Rattle.std.proofs.Common.{◌≡◌, ◌<◌, ◌≤◌, ℕ, true, false, Bool, List, [], ◌∷◌, length, get_or, Option, Some, None, refl, sym, arith}
use Rattle.std.specs.List.{IsDistinct, AllByRecursion}
use Rattle.std.specs.Map.{keys_of}
use Rattle.page_cache.specs.declared.place.PagePlace.{PagePlace}
use Rattle.page_cache.specs.Slots.{shown, shown_at, Lacks, AreApart, IsSound}
use Rattle.page_cache.specs.Sound.{same_place}
use Rattle.page_cache.proofs.Shown as shown_by
use Rattle.page_cache.proofs.Shown.{most-shown}

module _ {V : Type 0} (count : ℕ) (held : List (Option PagePlace)) (pages : List (List ℕ))
    (once : (s t : ℕ) (place : PagePlace) → s < count → t < count → get_or held s None ≡ Some place → get_or held t None ≡ Some place → s ≡ t) where
  -- the page of a slot isn't among those of others
  none-same : (order : List (ℕ × V)) (slot : ℕ) (place : PagePlace) → AreApart count order → slot < count → Lacks slot order → get_or held slot None ≡ Some place
      → AllByRecursion (λ q. same_place place q ≡ false) (keys_of (shown order held pages))
  none-same [] slot place a low lacks is = tt
  none-same (e ∷ order) slot place a low lacks is = by (get_or held e.0 None) refl (none-same order slot place a.2 low lacks.1 is)
    where
      other : (p : PagePlace) → get_or held e.0 None ≡ Some p → (b : Bool) → same_place place p ≡ b → b ≡ false
      other p here true t = absurd (lacks.0 (sym (once slot e.0 p low a.0 (is_now p t) here)))
        where
          is_now : (p : PagePlace) → same_place place p ≡ true → get_or held slot None ≡ Some p
          is_now p t = let it = shown_by.same_place place.file place.index p t in is_by it
            where
              is_by : p ≡ record { file = place.file; index = place.index } → get_or held slot None ≡ Some p
              is_by it = cc
      other p here false t = refl

      by : (o : Option PagePlace) → get_or held e.0 None ≡ o → AllByRecursion (λ q. same_place place q ≡ false) (keys_of (shown order held pages))
          → AllByRecursion (λ q. same_place place q ≡ false) (keys_of (shown_at o (get_or pages e.0 []) (shown order held pages)))
      by None here on = on
      by (Some p) here on = (other p here (same_place place p) refl, on)

  distinct : (order : List (ℕ × V)) → AreApart count order → IsDistinct same_place (keys_of (shown order held pages))
  unfolding IsDistinct
  distinct [] a = tt
  distinct (e ∷ order) a = by (get_or held e.0 None) refl (distinct order a.2)
    where
      by : (o : Option PagePlace) → get_or held e.0 None ≡ o → IsDistinct same_place (keys_of (shown order held pages))
          → IsDistinct same_place (keys_of (shown_at o (get_or pages e.0 []) (shown order held pages)))
      by None here on = on
      by (Some p) here on = (none-same order e.0 p a.2 a.0 a.1 here, on)

module _ {V : Type 0} {count : ℕ} (order : List (ℕ × V)) (held : List (Option PagePlace)) (pages : List (List ℕ)) (sound : IsSound count order held pages) where
  pub shown-few : length (shown order held pages) ≤ count
  shown-few = omega (arith, most-shown held pages order, sound.all)

  pub shown-distinct : IsDistinct same_place (keys_of (shown order held pages))
  shown-distinct = distinct count held pages sound.once order sound.apart
