-- What holds of the slots goes on holding, and what they show, after each thing that is done to them.
use Rattle.std.proofs.Common.{◌≡◌, ◌≢◌, ◌<◌, ◌≤◌, ℕ, ◌+◌, ◌-◌, zero, suc, true, false, nat_eq, inl, inr, List, [], ◌∷◌, ◌++◌, length, take, set, get_or, Option, Some, None, refl, sym, ap, ◌∙◌, subst, arith, length-append, append-nil}
use Rattle.std.proofs.lemmas.List.{get_or-set_other, get_or-set_same, take_all, length-set}
use Rattle.std.proofs.lemmas.Bool.{cases_eq}
use Rattle.std.specs.Map.{lookup_entry, remove_entry}
use Rattle.lru.specs.LruCache.{promoted, demoted, last_entry}
use Rattle.page_cache.specs.declared.place.PagePlace.{PagePlace}
use Rattle.page_cache.specs.Pages.{is_place, fronted}
use Rattle.page_cache.specs.Slots.{shown, holds_page, Lacks, AreApart, IsSlotFor, IsSound}
use Rattle.page_cache.proofs.Orders.{rest_of, lookup-slot, lookup-none, length-rest, last-more, lacks-whole, lacks-parts, apart-lacks, apart-rest, apart-back, last-rest, last-set, last-back}
use Rattle.page_cache.proofs.Shown.{held-place, holds-same, shown-held, shown-bytes, most-shown, shown-append, shown-rest, shown-last, shown-none}

module _ {V : Type 0} (count : ℕ) (order : List (ℕ × V)) (held : List (Option PagePlace)) (pages : List (List ℕ)) (sound : IsSound count order held pages) where
  -- a slot stands in the order
  abbrev Stands : ℕ → Type 0
  Stands slot = (e : ℕ × V) × (lookup_entry (nat_eq slot) order ≡ Some e) × (e.0 ≡ slot)

  pub stands : (slot : ℕ) → slot < count → Stands slot
  stands slot low = by (lookup_entry (nat_eq slot) order) refl
    where
      by : (o : Option (ℕ × V)) → lookup_entry (nat_eq slot) order ≡ o → Stands slot
      by None none = absurd (sound.every slot low (lookup-none slot order none))
      by (Some e) some = (e, some, lookup-slot slot order e some)

  module _ (slot : ℕ) (low : slot < count) where
    abbrev rest : List (ℕ × V)
    rest = rest_of slot order

    abbrev it : ℕ × V
    it = (stands slot low).0

    at-slot : it.0 ≡ slot
    at-slot = (stands slot low).2

    promoted-is : promoted (nat_eq slot) order ≡ it ∷ rest
    promoted-is = rw (stands slot low).1 refl

    demoted-is : demoted (nat_eq slot) order ≡ rest ++ it ∷ []
    demoted-is = rw (stands slot low).1 refl

    lacks : Lacks slot rest
    lacks = apart-lacks count slot order sound.apart

    lacks-it : Lacks it.0 rest
    lacks-it = subst (λ s. Lacks s rest) (sym at-slot) lacks

    fewer : length rest + 1 ≡ count
    fewer = length-rest slot order it (stands slot low).1 ∙ sound.all

    every-front : (t : ℕ) → t < count → Lacks t (it ∷ rest) → ⊥
    every-front t within l = sound.every t within (lacks-whole slot t order (λ same. l.0 (at-slot ∙ same)) l.1)

    every-back : (t : ℕ) → t < count → Lacks t (rest ++ it ∷ []) → ⊥
    every-back t within l = let parts = lacks-parts t rest (it ∷ []) l in every-front t within (parts.1.0, parts.0)

    -- A page is put into the slot, which goes to the front; no other slot holds the page.
    module _ (place : PagePlace) (bytes : List ℕ) (alone : (t : ℕ) → t < count → get_or held t None ≡ Some place → t ≡ slot) where
      abbrev holders : List (Option PagePlace)
      holders = set held slot (Some place)

      here : get_or holders slot None ≡ Some place
      here = get_or-set_same held slot (Some place) None (rw sound.holders low)

      elsewhere : (t : ℕ) → t ≢ slot → get_or holders t None ≡ get_or held t None
      elsewhere t other = get_or-set_other held slot t (Some place) None other

      once-after : (s t : ℕ) (p : PagePlace) → s < count → t < count → get_or holders s None ≡ Some p → get_or holders t None ≡ Some p → s ≡ t
      once-after s t p ls lt hs ht = elim (cases_eq s slot) [
        | inl es ↦ elim (cases_eq t slot) [
          | inl et ↦ es ∙ sym et
          | inr nt ↦
              let same : Some place ≡ Some p = sym here ∙ ap (λ k. get_or holders k None) (sym es) ∙ hs in
              es ∙ sym (alone t lt (sym (elsewhere t nt) ∙ ht ∙ sym same))
        ]
        | inr ns ↦ elim (cases_eq t slot) [
          | inl et ↦
              let same : Some place ≡ Some p = sym here ∙ ap (λ k. get_or holders k None) (sym et) ∙ ht in
              alone s ls (sym (elsewhere s ns) ∙ hs ∙ sym same) ∙ sym et
          | inr nt ↦ sound.once s t p ls lt (sym (elsewhere s ns) ∙ hs) (sym (elsewhere t nt) ∙ ht)
        ]
      ]

      pub sound-front : IsSound count (promoted (nat_eq slot) order) holders (set pages slot bytes)
      sound-front = rw promoted-is (record {
        apart = (rw at-slot low, lacks-it, apart-rest count slot order sound.apart);
        every = every-front;
        all = omega (arith, fewer);
        holders = length-set held slot (Some place) ∙ sound.holders;
        bytes = length-set pages slot bytes ∙ sound.bytes;
        once = once-after;
        free_last = rw (at-slot, here) (last-set slot rest held (Some place) lacks (last-rest slot order held sound.free_last));
      })

      pub shown-front : shown (promoted (nat_eq slot) order) holders (set pages slot bytes) ≡ (place, bytes) ∷ shown rest held pages
      shown-front = rw promoted-is (rw (at-slot, here, get_or-set_same pages slot bytes [] (rw sound.bytes low))
          (ap (λ l. (place, bytes) ∷ l) (shown-bytes slot rest holders pages bytes lacks ∙ shown-held slot rest held pages (Some place) lacks)))

    -- The slot is freed, and goes to the end.
    module _ where
      abbrev freed : List (Option PagePlace)
      freed = set held slot None

      free-here : get_or freed slot None ≡ None
      free-here = get_or-set_same held slot None None (rw sound.holders low)

      once-freed : (s t : ℕ) (p : PagePlace) → s < count → t < count → get_or freed s None ≡ Some p → get_or freed t None ≡ Some p → s ≡ t
      once-freed s t p ls lt hs ht = sound.once s t p ls lt (held-still s p hs) (held-still t p ht)
        where
          held-still : (k : ℕ) (q : PagePlace) → get_or freed k None ≡ Some q → get_or held k None ≡ Some q
          held-still k q h = elim (cases_eq k slot) [
            | inl e ↦ absurd (let none : get_or freed k None ≡ None = ap (λ j. get_or freed j None) e ∙ free-here in cc)
            | inr n ↦ sym (get_or-set_other held slot k None None n) ∙ h
          ]

      pub sound-back : IsSound count (demoted (nat_eq slot) order) freed pages
      sound-back = rw demoted-is (record {
        apart = apart-back count it rest (rw at-slot low) (apart-rest count slot order sound.apart) lacks-it;
        every = every-back;
        all = omega (arith, length-append rest (it ∷ []), fewer);
        holders = length-set held slot None ∙ sound.holders;
        bytes = sound.bytes;
        once = once-freed;
        free_last = last-back it rest freed (rw at-slot free-here) (last-set slot rest held None lacks (last-rest slot order held sound.free_last));
      })

      pub shown-back : shown (demoted (nat_eq slot) order) freed pages ≡ shown rest held pages
      shown-back = rw demoted-is (shown-append freed pages rest (it ∷ []) ∙ rw (at-slot, free-here) (append-nil (shown rest freed pages)) ∙ shown-held slot rest held pages None lacks)

    -- the slot of the page itself
    module _ (place : PagePlace) (bytes : List ℕ) (is : get_or held slot None ≡ Some place) where
      pub alone-found : (t : ℕ) → t < count → get_or held t None ≡ Some place → t ≡ slot
      alone-found t lt h = sound.once t slot place lt low h is

      pub front-found : shown (promoted (nat_eq slot) order) (set held slot (Some place)) (set pages slot bytes)
          ≡ take count ((place, bytes) ∷ remove_entry (is_place place.file place.index) (shown order held pages))
      front-found =
          let whole : shown rest held pages ≡ remove_entry (is_place place.file place.index) (shown order held pages) = shown-rest held pages count slot place order sound.apart low is sound.once in
          let room : length ((place, bytes) ∷ shown rest held pages) ≤ count = omega (arith, most-shown held pages rest, fewer) in
          shown-front place bytes alone-found ∙ sym (take_all count ((place, bytes) ∷ shown rest held pages) room) ∙ ap (λ l. take count ((place, bytes) ∷ l)) whole

-- the last slot, where no slot holds the page
module _ {V : Type 0} (n : ℕ) (order : List (ℕ × V)) (held : List (Option PagePlace)) (pages : List (List ℕ)) (sound : IsSound (suc n) order held pages)
    (place : PagePlace) (bytes : List ℕ) (slot : ℕ) (value : V) (last : last_entry order ≡ Some (slot, value))
    (none : (t : ℕ) → t < suc n → holds_page place.file place.index (get_or held t None) ≡ false) where
  pub last-low : (order : List (ℕ × V)) (e : ℕ × V) → AreApart (suc n) order → last_entry order ≡ Some e → e.0 < suc n
  last-low [] e a h = cc
  last-low (f ∷ []) e a h = let is : f ≡ e = cc in subst (λ p. p.0 < suc n) is a.0
  last-low (f ∷ g ∷ order) e a h = last-low (g ∷ order) e a.2 (sym (last-more f g order) ∙ h)

  pub low-last : slot < suc n
  low-last = last-low order (slot, value) sound.apart last

  pub alone-last : (t : ℕ) → t < suc n → get_or held t None ≡ Some place → t ≡ slot
  alone-last t lt h = absurd (let held_here : holds_page place.file place.index (get_or held t None) ≡ true = holds-same place (get_or held t None) h in let not_here = none t lt in cc)

  pub front-last : shown (promoted (nat_eq slot) order) (set held slot (Some place)) (set pages slot bytes)
      ≡ take (suc n) ((place, bytes) ∷ remove_entry (is_place place.file place.index) (shown order held pages))
  front-last =
      let fewer : length order - 1 ≡ n = omega (arith, sound.all) in
      let whole : shown (rest_of slot order) held pages ≡ take n (shown order held pages) =
      shown-last held pages (suc n) order (slot, value) sound.apart sound.free_last last ∙ ap (λ k. take k (shown order held pages)) fewer in
      shown-front (suc n) order held pages sound slot low-last place bytes alone-last
      ∙ ap (λ l. (place, bytes) ∷ l) whole
      ∙ ap (λ l. take (suc n) ((place, bytes) ∷ l)) (sym (shown-none held pages (suc n) place order sound.apart none))

-- a page is put in front
module _ {V : Type 0} (order : List (ℕ × V)) (held : List (Option PagePlace)) (pages : List (List ℕ)) (place : PagePlace) (bytes : List ℕ) (slot : ℕ) where
  pub chosen-low : (count : ℕ) → 0 < count → IsSound count order held pages → IsSlotFor count order held place slot → slot < count
  chosen-low zero some sound chosen = absurd (omega arith)
  chosen-low (suc n) some sound chosen = elim chosen [
    | inl found ↦ found.0
    | inr new ↦ low-last n order held pages sound place bytes slot new.1.0 new.1.1 new.0
  ]

  pub chosen-alone : (count : ℕ) → 0 < count → IsSound count order held pages → IsSlotFor count order held place slot → (t : ℕ) → t < count → get_or held t None ≡ Some place → t ≡ slot
  chosen-alone zero some sound chosen = absurd (omega arith)
  chosen-alone (suc n) some sound chosen = elim chosen [
    | inl found ↦ alone-found (suc n) order held pages sound slot found.0 place bytes (held-place place (get_or held slot None) found.1)
    | inr new ↦ alone-last n order held pages sound place bytes slot new.1.0 new.1.1 new.0
  ]

  pub sound-put : (count : ℕ) → 0 < count → IsSound count order held pages → IsSlotFor count order held place slot
      → IsSound count (promoted (nat_eq slot) order) (set held slot (Some place)) (set pages slot bytes)
  sound-put count some sound chosen =
      sound-front count order held pages sound slot (chosen-low count some sound chosen) place bytes (chosen-alone count some sound chosen)

  pub shown-put : (count : ℕ) → 0 < count → IsSound count order held pages → IsSlotFor count order held place slot
      → shown (promoted (nat_eq slot) order) (set held slot (Some place)) (set pages slot bytes) ≡ fronted count place bytes (shown order held pages)
  shown-put zero some sound chosen = absurd (omega arith)
  shown-put (suc n) some sound chosen =
      let whole : shown (promoted (nat_eq slot) order) (set held slot (Some place)) (set pages slot bytes)
      ≡ take (suc n) ((place, bytes) ∷ remove_entry (is_place place.file place.index) (shown order held pages)) = elim chosen [
        | inl found ↦ front-found (suc n) order held pages sound slot found.0 place bytes (held-place place (get_or held slot None) found.1)
        | inr new ↦ front-last n order held pages sound place bytes slot new.1.0 new.1.1 new.0
      ] in
      whole ∙ ap (λ k. (place, bytes) ∷ take k (remove_entry (is_place place.file place.index) (shown order held pages))) (one-less n)
    where
      one-less : (n : ℕ) → n ≡ suc n - 1
      one-less n = omega arith
