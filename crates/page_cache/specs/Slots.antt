-- Pages that stand in slots: what each slot holds, and the slots in the order of their last use, free ones at the end.
use Rattle.std.specs.Prelude.{◌≡◌, ◌≢◌, ◌<◌, ℕ, Bool, true, false, nat_eq, List, [], ◌∷◌, length, get_or, Option, Some, None, is_some, MatchOption, ⊤, ◌⊎◌, option_and_then, if◌then◌else◌}
use Rattle.std.specs.Option.{option_map_or}
use Rattle.std.specs.Cmp.Lexicographic.{pointwise}
use Rattle.lru.specs.LruCache.{last_entry}
use Rattle.page_cache.specs.declared.place.PagePlace.{PagePlace}
use Rattle.page_cache.specs.Pages.{is_place}

-- the pages that slots hold: how many slots there are, and the pages, the one that was used last in front
pub record SlotPages : Type 0 where
  pub room : ℕ
  pub pages : List (PagePlace × List ℕ)

-- none of so many slots holds a page
abbrev pub no_pages : ℕ → SlotPages
no_pages room = record { room = room; pages = [] }

-- whether a slot holds this page
abbrev pub holds_page : List ℕ → ℕ → Option PagePlace → Bool
holds_page file index held = option_map_or (is_place file index) held false

-- the number of the page of this file that a slot holds
abbrev pub index_in : List ℕ → Option PagePlace → Option ℕ
index_in file held = option_and_then (λ place. if pointwise nat_eq place.file file then Some place.index else None) held

-- what a slot's bytes become if each page of this file is changed
abbrev pub changed_bytes : List ℕ → (ℕ → List ℕ → List ℕ) → Option PagePlace → List ℕ → List ℕ
changed_bytes file change held bytes = option_map_or (λ index. change index bytes) (index_in file held) bytes

-- no slot passes
abbrev pub HoldsNone : ℕ → (Option PagePlace → Bool) → List (Option PagePlace) → Type 0
HoldsNone count test held = (slot : ℕ) → slot < count → test (get_or held slot None) ≡ false

-- what a search for a page answers
abbrev pub FindsPage : ℕ → List ℕ → ℕ → List (Option PagePlace) → Option ℕ → Type 0
FindsPage count file index held result =
    MatchOption result (HoldsNone count (holds_page file index) held) (λ slot. (slot < count) × (holds_page file index (get_or held slot None) ≡ true))

-- a slot's page goes before the others, if it holds one
abbrev pub shown_at : Option PagePlace → List ℕ → List (PagePlace × List ℕ) → List (PagePlace × List ℕ)
shown_at None bytes rest = rest
shown_at (Some place) bytes rest = (place, bytes) ∷ rest

module _ {V : Type 0} where
  -- the pages in the order of the slots
  abbrev pub shown : List (ℕ × V) → List (Option PagePlace) → List (List ℕ) → List (PagePlace × List ℕ)
  shown [] held pages = []
  shown (e ∷ order) held pages = shown_at (get_or held e.0 None) (get_or pages e.0 []) (shown order held pages)

  -- the slot isn't in the order
  abbrev pub Lacks : ℕ → List (ℕ × V) → Type 0
  Lacks slot [] = ⊤
  Lacks slot (e ∷ order) = (e.0 ≢ slot) × Lacks slot order

  -- each slot is in it at most once, and none is above the last one
  abbrev pub AreApart : ℕ → List (ℕ × V) → Type 0
  AreApart count [] = ⊤
  AreApart count (e ∷ order) = (e.0 < count) × Lacks e.0 order × AreApart count order

  -- each slot stands in it once
  pub record AreAll (count : ℕ) (order : List (ℕ × V)) : Type 0 where
    pub apart : AreApart count order
    pub every : (slot : ℕ) → slot < count → Lacks slot order → ⊥
    pub all : length order ≡ count

  -- every slot of the order is free
  abbrev pub AreFree : List (ℕ × V) → List (Option PagePlace) → Type 0
  AreFree [] held = ⊤
  AreFree (e ∷ order) held = (get_or held e.0 None ≡ None) × AreFree order held

  abbrev pub FreeAfter : Bool → List (ℕ × V) → List (Option PagePlace) → Type 0 → Type 0
  FreeAfter true order held rest = rest
  FreeAfter false order held rest = AreFree order held

  -- after a free slot no other holds a page
  abbrev pub FreeLast : List (ℕ × V) → List (Option PagePlace) → Type 0
  FreeLast [] held = ⊤
  FreeLast (e ∷ order) held = FreeAfter (is_some (get_or held e.0 None)) order held (FreeLast order held)

  -- What holds of a cache of so many slots: each is in the order once, each has its page's bytes, and no page is held twice.
  pub record IsSound (count : ℕ) (order : List (ℕ × V)) (held : List (Option PagePlace)) (pages : List (List ℕ)) : Type 0 where
    pub apart : AreApart count order
    pub every : (slot : ℕ) → slot < count → Lacks slot order → ⊥
    pub all : length order ≡ count
    pub holders : length held ≡ count
    pub bytes : length pages ≡ count
    pub once : (s t : ℕ) (place : PagePlace) → s < count → t < count → get_or held s None ≡ Some place → get_or held t None ≡ Some place → s ≡ t
    pub free_last : FreeLast order held

  -- the slot that holds a page, or else the last one
  abbrev pub IsSlotFor : ℕ → List (ℕ × V) → List (Option PagePlace) → PagePlace → ℕ → Type 0
  IsSlotFor count order held place slot =
      ((slot < count) × (holds_page place.file place.index (get_or held slot None) ≡ true))
      ⊎ (HoldsNone count (holds_page place.file place.index) held × ((value : V) × (last_entry order ≡ Some (slot, value))))
