-- A page is shown: it goes to the front.
use Rattle.std.proofs.Common.{◌≡◌, ◌<◌, ℕ, Bool, true, false, cond, nat_eq, List, [], ◌∷◌, set, get_or, Option, Some, None, refl, sym, ap, ◌∙◌, subst}
use Rattle.std.proofs.lemmas.List.{set-get_or}
use Rattle.std.specs.Option.{option_map}
use Rattle.std.specs.Map.{lookup, lookup_entry}
use Rattle.lru.specs.LruCache.{promoted}
use Rattle.page_cache.specs.declared.place.PagePlace.{PagePlace}
use Rattle.page_cache.specs.Pages.{is_place}
use Rattle.page_cache.specs.Slots.{shown, holds_page, HoldsNone, IsSound}
use Rattle.page_cache.proofs.Shown.{held-place, shown-absent, shown-lookup, shown-rest}
use Rattle.page_cache.proofs.Sound.{sound-front, shown-front, alone-found}

value-of : (test : PagePlace → Bool) (pages : List (PagePlace × List ℕ)) → lookup test pages ≡ option_map (λ e. e.1) (lookup_entry test pages)
value-of test [] = refl
value-of test (e ∷ pages) = (elim (test e.0) as (λ y. cond y (Some e.1) (lookup test pages) ≡ option_map (λ e. e.1) (cond y (Some e) (lookup_entry test pages))) [
  | true ↦ refl
  | false ↦ value-of test pages
])

module _ {V : Type 0} {count : ℕ} (order : List (ℕ × V)) (held : List (Option PagePlace)) (pages : List (List ℕ)) (sound : IsSound count order held pages) (file : List ℕ) (index : ℕ) where
  -- where no slot holds the page
  module _ (none : HoldsNone count (holds_page file index) held) where
    pub promoted-none : shown order held pages ≡ promoted (is_place file index) (shown order held pages)
    promoted-none = rw (shown-absent held pages count file index order sound.apart none) refl

    pub lookup-none : None ≡ lookup (is_place file index) (shown order held pages)
    lookup-none = sym (value-of (is_place file index) (shown order held pages) ∙ ap (option_map (λ e. e.1)) (shown-absent held pages count file index order sound.apart none))

  -- where a slot holds it
  module _ (slot : ℕ) (low : slot < count) (holds : holds_page file index (get_or held slot None) ≡ true) where
    abbrev place : PagePlace
    place = record { file = file; index = index }

    abbrev bytes : List ℕ
    bytes = get_or pages slot []

    is : get_or held slot None ≡ Some place
    is = held-place place (get_or held slot None) holds

    same-held : set held slot (Some place) ≡ held
    same-held = ap (set held slot) (sym is) ∙ set-get_or held slot None

    same-pages : set pages slot bytes ≡ pages
    same-pages = set-get_or pages slot []

    entry : lookup_entry (is_place file index) (shown order held pages) ≡ Some (place, bytes)
    entry = shown-lookup held pages count slot place order sound.apart low is sound.once (sound.every slot low)

    pub sound-promoted : IsSound count (promoted (nat_eq slot) order) held pages
    sound-promoted = subst (λ h. IsSound count (promoted (nat_eq slot) order) h pages) same-held
        (subst (λ b. IsSound count (promoted (nat_eq slot) order) (set held slot (Some place)) b) same-pages
        (sound-front count order held pages sound slot low place bytes (alone-found count order held pages sound slot low place bytes is)))

    pub shown-promoted : shown (promoted (nat_eq slot) order) held pages ≡ promoted (is_place file index) (shown order held pages)
    shown-promoted =
        (λ i. shown (promoted (nat_eq slot) order) (sym same-held i) (sym same-pages i))
        ∙ shown-front count order held pages sound slot low place bytes (alone-found count order held pages sound slot low place bytes is)
        ∙ ap (λ l. (place, bytes) ∷ l) (shown-rest held pages count slot place order sound.apart low is sound.once)
        ∙ rw entry refl

    pub lookup-shown : Some (get_or pages slot []) ≡ lookup (is_place file index) (shown order held pages)
    lookup-shown = sym (value-of (is_place file index) (shown order held pages) ∙ ap (option_map (λ e. e.1)) entry)
