-- The pages that the slots show, where one of the slots moves or changes.
use Rattle.std.proofs.Common.{◌≡◌, ◌≢◌, ◌<◌, ◌≤◌, ℕ, ◌-◌, suc, Bool, true, false, not, cond, nat_eq, List, [], ◌∷◌, ◌++◌, length, take, map, set, get_or, Option, Some, None, is_some, if◌then◌else◌, refl, sym, ap, ◌∙◌, subst, arith}
use Rattle.std.proofs.lemmas.List.{get_or-set_other}
use Rattle.std.proofs.lemmas.Bool.{eqb-true}
use Rattle.std.proofs.lemmas.Bool.Decides.{nat_tests}
use Rattle.std.specs.Option.{option_map_or}
use Rattle.std.specs.Cmp.{first_so, second_so}
use Rattle.std.specs.Cmp.Lexicographic.{pointwise, bytes_decides}
use Rattle.std.specs.Map.{lookup_entry, remove_entry}
use Rattle.lru.specs.LruCache.{last_entry}
use Rattle.page_cache.specs.declared.place.PagePlace.{PagePlace}
use Rattle.page_cache.specs.Pages.{is_place, is_of_other, without_file, changed_page}
use Rattle.page_cache.specs.Slots.{shown, shown_at, changed_bytes, holds_page, index_in, Lacks, AreApart, AreFree, FreeAfter, FreeLast}
use Rattle.page_cache.proofs.Orders.{rest_of, free-rest, last-more, last-apart}

-- a place that passes the test is the place
pub same_place : (file : List ℕ) (index : ℕ) (p : PagePlace) → is_place file index p ≡ true → p ≡ record { file = file; index = index }
same_place file index p t =
    let number : p.index ≡ index = eqb-true p.index index (first_so _ _ t) in
    let name : p.file ≡ file = (bytes_decides p.file file).0 (second_so _ _ t) in
    λ i. record { file = name i; index = number i }

pub is_place-same : (p : PagePlace) → is_place p.file p.index p ≡ true
is_place-same p = let a : nat_eq p.index p.index ≡ true = same-eq p.index in let b = (bytes_decides p.file p.file).1 refl in rw (a, b) refl
  where
    same-eq : (n : ℕ) → nat_eq n n ≡ true
    same-eq n = grind (arith, nat_tests)

-- a slot that holds the page holds it by its very place
pub held-place : (place : PagePlace) (held : Option PagePlace) → holds_page place.file place.index held ≡ true → held ≡ Some place
held-place place None t = cc
held-place place (Some p) t = ap Some (same_place place.file place.index p t)

pub holds-same : (place : PagePlace) (held : Option PagePlace) → held ≡ Some place → holds_page place.file place.index held ≡ true
holds-same place held is = rw is (is_place-same place)

module _ {V : Type 0} where
  pub shown-held : (slot : ℕ) (order : List (ℕ × V)) (held : List (Option PagePlace)) (pages : List (List ℕ)) (x : Option PagePlace)
      → Lacks slot order → shown order (set held slot x) pages ≡ shown order held pages
  shown-held slot [] held pages x l = refl
  shown-held slot (f ∷ order) held pages x l =
      rw (get_or-set_other held slot f.0 x None l.0) (ap (shown_at (get_or held f.0 None) (get_or pages f.0 [])) (shown-held slot order held pages x l.1))

  pub shown-bytes : (slot : ℕ) (order : List (ℕ × V)) (held : List (Option PagePlace)) (pages : List (List ℕ)) (x : List ℕ)
      → Lacks slot order → shown order held (set pages slot x) ≡ shown order held pages
  shown-bytes slot [] held pages x l = refl
  shown-bytes slot (f ∷ order) held pages x l =
      rw (get_or-set_other pages slot f.0 x [] l.0) (ap (shown_at (get_or held f.0 None) (get_or pages f.0 [])) (shown-bytes slot order held pages x l.1))

  module _ (held : List (Option PagePlace)) (pages : List (List ℕ)) where
    length-shown : (order : List (ℕ × V)) → length (shown order held pages) ≤ length order
    length-shown [] = omega arith
    length-shown (f ∷ order) = by (get_or held f.0 None) (length-shown order)
      where
        by : (o : Option PagePlace) → length (shown order held pages) ≤ length order
            → length (shown_at o (get_or pages f.0 []) (shown order held pages)) ≤ length (f ∷ order)
        by None h = omega arith
        by (Some p) h = omega arith

    pub most-shown : (order : List (ℕ × V)) → length (shown order held pages) ≤ length order
    most-shown order = length-shown order

    pub shown-free : (order : List (ℕ × V)) → AreFree order held → shown order held pages ≡ []
    shown-free [] a = refl
    shown-free (f ∷ order) a = rw a.0 (shown-free order a.1)

    pub shown-append : (order more : List (ℕ × V)) → shown (order ++ more) held pages ≡ shown order held pages ++ shown more held pages
    shown-append [] more = refl
    shown-append (f ∷ order) more = by (get_or held f.0 None) (shown-append order more)
      where
        by : (o : Option PagePlace) → shown (order ++ more) held pages ≡ shown order held pages ++ shown more held pages
            → shown_at o (get_or pages f.0 []) (shown (order ++ more) held pages) ≡ shown_at o (get_or pages f.0 []) (shown order held pages) ++ shown more held pages
        by None h = h
        by (Some p) h = ap (λ l. (p, get_or pages f.0 []) ∷ l) h

    -- the order without a slot that holds a page shows all but that page
    pub shown-rest : (count slot : ℕ) (place : PagePlace) (order : List (ℕ × V)) → AreApart count order → slot < count → get_or held slot None ≡ Some place
        → ((s t : ℕ) (p : PagePlace) → s < count → t < count → get_or held s None ≡ Some p → get_or held t None ≡ Some p → s ≡ t)
        → shown (rest_of slot order) held pages ≡ remove_entry (is_place place.file place.index) (shown order held pages)
    shown-rest count slot place [] a low is once = refl
    shown-rest count slot place (f ∷ order) a low is once =
        (elim (nat_eq slot f.0) as (λ y. nat_eq slot f.0 ≡ y → shown (rest_of slot (f ∷ order)) held pages ≡ remove_entry (is_place place.file place.index) (shown (f ∷ order) held pages)) [
          | true ↦ λ t. rw t (here (get_or held f.0 None) (subst (λ s. get_or held s None ≡ Some place) (eqb-true slot f.0 t) is))
          | false ↦ λ t. rw t (there (get_or held f.0 None) refl t (shown-rest count slot place order a.2 low is once))
        ]) refl
      where
        here : (o : Option PagePlace) → o ≡ Some place
            → shown order held pages ≡ remove_entry (is_place place.file place.index) (shown_at o (get_or pages f.0 []) (shown order held pages))
        here o e = rw (e, is_place-same place) refl

        differs : nat_eq slot f.0 ≡ false → (p : PagePlace) → get_or held f.0 None ≡ Some p → (b : Bool) → is_place place.file place.index p ≡ b → b ≡ false
        differs t p e false h = refl
        differs t p e true h =
            let same : p ≡ place = same_place place.file place.index p h in
            let equal : slot ≡ f.0 = once slot f.0 place low a.0 is (e ∙ ap Some same) in
            absurd (let yes_eq : nat_eq slot f.0 ≡ true = grind (arith, nat_tests) in cc)

        there : (o : Option PagePlace) → get_or held f.0 None ≡ o → nat_eq slot f.0 ≡ false
            → shown (rest_of slot order) held pages ≡ remove_entry (is_place place.file place.index) (shown order held pages)
            → shown_at o (get_or pages f.0 []) (shown (rest_of slot order) held pages) ≡ remove_entry (is_place place.file place.index) (shown_at o (get_or pages f.0 []) (shown order held pages))
        there None e t h = h
        there (Some p) e t h = rw (differs t p e (is_place place.file place.index p) refl) (ap (λ l. (p, get_or pages f.0 []) ∷ l) h)

    -- the order without its last slot shows all but the last page, where every slot holds one, and else as much
    pub shown-last : (count : ℕ) (order : List (ℕ × V)) (e : ℕ × V) → AreApart count order → FreeLast order held → last_entry order ≡ Some e
        → shown (rest_of e.0 order) held pages ≡ take (length order - 1) (shown order held pages)
    shown-last count [] e a free last = cc
    shown-last count (f ∷ []) e a free last =
        let is : f ≡ e = cc in
        let t : nat_eq e.0 f.0 ≡ true = (let same : e.0 ≡ f.0 = ap (λ p. p.0) (sym is) in grind (arith, nat_tests)) in rw t refl
    shown-last count (f ∷ g ∷ order) e a free last =
        let other : e.0 ≢ f.0 = last-apart f.0 (g ∷ order) e a.1 (sym (last-more f g order) ∙ last) in
        let t : nat_eq e.0 f.0 ≡ false = grind (arith, nat_tests) in
        let n : length (f ∷ g ∷ order) - 1 ≡ suc (length (g ∷ order) - 1) = omega arith in
        rw (t, n) (by (get_or held f.0 None) free (λ l. shown-last count (g ∷ order) e a.2 l (sym (last-more f g order) ∙ last)))
      where
        by : (o : Option PagePlace) → FreeAfter (is_some o) (g ∷ order) held (FreeLast (g ∷ order) held)
            → (FreeLast (g ∷ order) held → shown (rest_of e.0 (g ∷ order)) held pages ≡ take (length (g ∷ order) - 1) (shown (g ∷ order) held pages))
            → shown_at o (get_or pages f.0 []) (shown (rest_of e.0 (g ∷ order)) held pages) ≡ take (suc (length (g ∷ order) - 1)) (shown_at o (get_or pages f.0 []) (shown (g ∷ order) held pages))
        by None l on = rw (shown-free (g ∷ order) l) (shown-free (rest_of e.0 (g ∷ order)) (free-rest e.0 (g ∷ order) held l))
        by (Some p) l on = ap (λ r. (p, get_or pages f.0 []) ∷ r) (on l)

    -- a page that no slot holds isn't shown
    pub shown-none : (count : ℕ) (place : PagePlace) (order : List (ℕ × V)) → AreApart count order
        → ((s : ℕ) → s < count → holds_page place.file place.index (get_or held s None) ≡ false)
        → remove_entry (is_place place.file place.index) (shown order held pages) ≡ shown order held pages
    shown-none count place [] a none = refl
    shown-none count place (f ∷ order) a none = by (get_or held f.0 None) (none f.0 a.0) (shown-none count place order a.2 none)
      where
        by : (o : Option PagePlace) → holds_page place.file place.index o ≡ false
            → remove_entry (is_place place.file place.index) (shown order held pages) ≡ shown order held pages
            → remove_entry (is_place place.file place.index) (shown_at o (get_or pages f.0 []) (shown order held pages)) ≡ shown_at o (get_or pages f.0 []) (shown order held pages)
        by None h on = on
        by (Some p) h on = rw h (ap (λ l. (p, get_or pages f.0 []) ∷ l) on)

    -- what is looked up is what the slot holds
    pub shown-lookup : (count slot : ℕ) (place : PagePlace) (order : List (ℕ × V)) → AreApart count order → slot < count → get_or held slot None ≡ Some place
        → ((s t : ℕ) (p : PagePlace) → s < count → t < count → get_or held s None ≡ Some p → get_or held t None ≡ Some p → s ≡ t)
        → (Lacks slot order → ⊥) → lookup_entry (is_place place.file place.index) (shown order held pages) ≡ Some (place, get_or pages slot [])
    shown-lookup count slot place [] a low is once stands = absurd (stands tt)
    shown-lookup count slot place (f ∷ order) a low is once stands =
        (elim (nat_eq slot f.0) as (λ y. nat_eq slot f.0 ≡ y → lookup_entry (is_place place.file place.index) (shown (f ∷ order) held pages) ≡ Some (place, get_or pages slot [])) [
          | true ↦ λ t. here (get_or held f.0 None) (subst (λ s. get_or held s None ≡ Some place) (eqb-true slot f.0 t) is) (eqb-true slot f.0 t)
          | false ↦ λ t. there (get_or held f.0 None) refl t (λ s. shown-lookup count slot place order a.2 low is once s)
        ]) refl
      where
        here : (o : Option PagePlace) → o ≡ Some place → slot ≡ f.0
            → lookup_entry (is_place place.file place.index) (shown_at o (get_or pages f.0 []) (shown order held pages)) ≡ Some (place, get_or pages slot [])
        here o e same = rw (e, is_place-same place, same) refl

        apart : nat_eq slot f.0 ≡ false → f.0 ≢ slot
        apart t same = absurd (let yes_eq : nat_eq slot f.0 ≡ true = grind (arith, nat_tests) in cc)

        differs : nat_eq slot f.0 ≡ false → (p : PagePlace) → get_or held f.0 None ≡ Some p → (b : Bool) → is_place place.file place.index p ≡ b → b ≡ false
        differs t p e false h = refl
        differs t p e true h = absurd (apart t (sym (once slot f.0 place low a.0 is (e ∙ ap Some (same_place place.file place.index p h)))))

        there : (o : Option PagePlace) → get_or held f.0 None ≡ o → nat_eq slot f.0 ≡ false
            → ((Lacks slot order → ⊥) → lookup_entry (is_place place.file place.index) (shown order held pages) ≡ Some (place, get_or pages slot []))
            → lookup_entry (is_place place.file place.index) (shown_at o (get_or pages f.0 []) (shown order held pages)) ≡ Some (place, get_or pages slot [])
        there None e t on = on (λ l. stands (apart t, l))
        there (Some p) e t on = rw (differs t p e (is_place place.file place.index p) refl) (on (λ l. stands (apart t, l)))

    pub shown-absent : (count : ℕ) (file : List ℕ) (index : ℕ) (order : List (ℕ × V)) → AreApart count order
        → ((s : ℕ) → s < count → holds_page file index (get_or held s None) ≡ false)
        → lookup_entry (is_place file index) (shown order held pages) ≡ None
    shown-absent count file index [] a none = refl
    shown-absent count file index (f ∷ order) a none = by (get_or held f.0 None) (none f.0 a.0) (shown-absent count file index order a.2 none)
      where
        by : (o : Option PagePlace) → holds_page file index o ≡ false → lookup_entry (is_place file index) (shown order held pages) ≡ None
            → lookup_entry (is_place file index) (shown_at o (get_or pages f.0 []) (shown order held pages)) ≡ None
        by None h on = on
        by (Some p) h on = rw h on

    -- the pages of other files, without a slot that holds one of the file
    pub others-rest : (file : List ℕ) (slot : ℕ) (order : List (ℕ × V)) → is_some (index_in file (get_or held slot None)) ≡ true
        → without_file file (shown (rest_of slot order) held pages) ≡ without_file file (shown order held pages)
    others-rest file slot [] is = refl
    others-rest file slot (f ∷ order) is =
        (elim (nat_eq slot f.0) as (λ y. nat_eq slot f.0 ≡ y → without_file file (shown (rest_of slot (f ∷ order)) held pages) ≡ without_file file (shown (f ∷ order) held pages)) [
          | true ↦ λ t. rw t (here (get_or held f.0 None) (subst (λ s. is_some (index_in file (get_or held s None)) ≡ true) (eqb-true slot f.0 t) is))
          | false ↦ λ t. rw t (there (get_or held f.0 None) (others-rest file slot order is))
        ]) refl
      where
        of_file : (p : PagePlace) (b : Bool) → pointwise nat_eq p.file file ≡ b → is_some (if b then Some p.index else None) ≡ true → b ≡ true
        of_file p true e h = refl
        of_file p false e h = cc

        here : (o : Option PagePlace) → is_some (index_in file o) ≡ true
            → without_file file (shown order held pages) ≡ without_file file (shown_at o (get_or pages f.0 []) (shown order held pages))
        here None h = cc
        here (Some p) h = rw (of_file p (pointwise nat_eq p.file file) refl h) refl

        there : (o : Option PagePlace) → without_file file (shown (rest_of slot order) held pages) ≡ without_file file (shown order held pages)
            → without_file file (shown_at o (get_or pages f.0 []) (shown (rest_of slot order) held pages)) ≡ without_file file (shown_at o (get_or pages f.0 []) (shown order held pages))
        there None h = h
        there (Some p) h = (elim (is_of_other file (p, get_or pages f.0 [])) as (λ y. cond y ((p, get_or pages f.0 []) ∷ without_file file (shown (rest_of slot order) held pages)) (without_file file (shown (rest_of slot order) held pages))
            ≡ cond y ((p, get_or pages f.0 []) ∷ without_file file (shown order held pages)) (without_file file (shown order held pages))) [
              | true ↦ ap (λ l. (p, get_or pages f.0 []) ∷ l) h
              | false ↦ h
            ])

    -- where no slot holds one of the file, all pages are of others
    pub others-all : (count : ℕ) (file : List ℕ) (order : List (ℕ × V)) → AreApart count order
        → ((s : ℕ) → s < count → is_some (index_in file (get_or held s None)) ≡ false) → without_file file (shown order held pages) ≡ shown order held pages
    others-all count file [] a none = refl
    others-all count file (f ∷ order) a none = by (get_or held f.0 None) (none f.0 a.0) (others-all count file order a.2 none)
      where
        of_other : (p : PagePlace) (b : Bool) → pointwise nat_eq p.file file ≡ b → is_some (if b then Some p.index else None) ≡ false → b ≡ false
        of_other p true e h = cc
        of_other p false e h = refl

        by : (o : Option PagePlace) → is_some (index_in file o) ≡ false → without_file file (shown order held pages) ≡ shown order held pages
            → without_file file (shown_at o (get_or pages f.0 []) (shown order held pages)) ≡ shown_at o (get_or pages f.0 []) (shown order held pages)
        by None h on = on
        by (Some p) h on = rw (of_other p (pointwise nat_eq p.file file) refl h) (ap (λ l. (p, get_or pages f.0 []) ∷ l) on)

    -- each page of the file is changed
    pub shown-changed : (count : ℕ) (file : List ℕ) (change : ℕ → List ℕ → List ℕ) (changed : List (List ℕ)) (order : List (ℕ × V)) → AreApart count order
        → ((s : ℕ) → s < count → get_or changed s [] ≡ changed_bytes file change (get_or held s None) (get_or pages s []))
        → shown order held changed ≡ map (changed_page file change) (shown order held pages)
    shown-changed count file change changed [] a each = refl
    shown-changed count file change changed (f ∷ order) a each = by (get_or held f.0 None) (each f.0 a.0) (shown-changed count file change changed order a.2 each)
      where
        bytes_at : (p : PagePlace) (b : Bool) (bytes : List ℕ)
            → ◌≡◌ {A = PagePlace × List ℕ} (p, option_map_or (λ i. change i bytes) (if b then Some p.index else None) bytes) (if not b then (p, bytes) else (p, change p.index bytes))
        bytes_at p true bytes = refl
        bytes_at p false bytes = refl

        by : (o : Option PagePlace) → get_or changed f.0 [] ≡ changed_bytes file change o (get_or pages f.0 [])
            → shown order held changed ≡ map (changed_page file change) (shown order held pages)
            → shown_at o (get_or changed f.0 []) (shown order held changed) ≡ map (changed_page file change) (shown_at o (get_or pages f.0 []) (shown order held pages))
        by None h on = on
        by (Some p) h on = rw (h, on) (ap (λ q. q ∷ map (changed_page file change) (shown order held pages)) (bytes_at p (pointwise nat_eq p.file file) (get_or pages f.0 [])))
