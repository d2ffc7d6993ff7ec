-- What holds of each page goes on holding, and a page that is found is one of them. For the proofs of callers.
use Rattle.std.proofs.Common.{◌≡◌, ℕ, ◌-◌, Bool, true, false, not, cond, nat_eq, if◌then◌else◌, List, [], ◌∷◌, map, All, Option, Some, None, refl, sym, subst}
use Rattle.std.proofs.lemmas.List.Elements.{All-nil, All-head, All-tail, All-cons, All-take}
use Rattle.std.specs.Option.{option_map_or}
use Rattle.std.specs.Cmp.Lexicographic.{pointwise, bytes_decides}
use Rattle.std.specs.Map.{lookup, lookup_entry, remove_entry}
use Rattle.lru.specs.LruCache.{promoted}
use Rattle.page_cache.specs.declared.place.PagePlace.{PagePlace}
use Rattle.page_cache.specs.Pages.{is_place, without_file, changed_page, fronted}
use Rattle.page_cache.proofs.Shown.{same_place}

module _ (P : PagePlace × List ℕ → Type 0) where
  All-removed : (test : PagePlace → Bool) (pages : List (PagePlace × List ℕ)) → All P pages → All P (remove_entry test pages)
  All-removed test [] all = All-nil P
  All-removed test (p ∷ pages) all = (elim (test p.0) as (λ y. All P (cond y pages (p ∷ remove_entry test pages))) [
    | true ↦ All-tail P p pages all
    | false ↦ All-cons P p _ (All-head P p pages all) (All-removed test pages (All-tail P p pages all))
  ])

  All-found : (test : PagePlace → Bool) (pages : List (PagePlace × List ℕ)) (e : PagePlace × List ℕ) → All P pages → lookup_entry test pages ≡ Some e → P e
  All-found test [] e all found = cc
  All-found test (p ∷ pages) e all found = (elim (test p.0) as (λ y. test p.0 ≡ y → P e) [
    | true ↦ λ t. let is : p ≡ e = (let h = rw t at found in cc) in subst P is (All-head P p pages all)
    | false ↦ λ t. All-found test pages e (All-tail P p pages all) (rw t at found)
  ]) refl

  -- a page that is found is one of them
  pub All-page : (file : List ℕ) (index : ℕ) (pages : List (PagePlace × List ℕ)) (bytes : List ℕ) → All P pages → lookup (is_place file index) pages ≡ Some bytes
      → P (record { file = file; index = index }, bytes)
  All-page file index [] bytes all found = cc
  All-page file index (p ∷ pages) bytes all found = (elim (is_place file index p.0) as (λ y. is_place file index p.0 ≡ y → P (record { file = file; index = index }, bytes)) [
    | true ↦ λ t. let is : p.1 ≡ bytes = (let h = rw t at found in cc) in
        subst (λ q. P (q, bytes)) (same_place file index p.0 t) (subst (λ b. P (p.0, b)) is (All-head P p pages all))
    | false ↦ λ t. All-page file index pages bytes (All-tail P p pages all) (rw t at found)
  ]) refl

  -- a page is shown
  pub All-promoted : (test : PagePlace → Bool) (pages : List (PagePlace × List ℕ)) → All P pages → All P (promoted test pages)
  All-promoted test pages all = by (lookup_entry test pages) refl
    where
      by : (o : Option (PagePlace × List ℕ)) → lookup_entry test pages ≡ o → All P (option_map_or (λ e. e ∷ remove_entry test pages) o pages)
      by None found = all
      by (Some e) found = All-cons P e _ (All-found test pages e all found) (All-removed test pages all)

  -- a page is kept
  pub All-fronted : (room : ℕ) (place : PagePlace) (bytes : List ℕ) (pages : List (PagePlace × List ℕ)) → All P pages → P (place, bytes) → All P (fronted room place bytes pages)
  All-fronted room place bytes pages all told =
      All-cons P (place, bytes) _ told (All-take P (room - 1) (remove_entry (is_place place.file place.index) pages) (All-removed (is_place place.file place.index) pages all))

  -- the pages of a file are dropped: something may hold of the others then
  pub All-others : (Q : PagePlace × List ℕ → Type 0) (file : List ℕ) → ((p : PagePlace × List ℕ) → pointwise nat_eq p.0.file file ≡ false → P p → Q p)
      → (pages : List (PagePlace × List ℕ)) → All P pages → All Q (without_file file pages)
  All-others Q file goes_on [] all = All-nil Q
  All-others Q file goes_on (p ∷ pages) all = by (pointwise nat_eq p.0.file file) refl (All-others Q file goes_on pages (All-tail P p pages all))
    where
      by : (t : Bool) → pointwise nat_eq p.0.file file ≡ t → All Q (without_file file pages) → All Q (cond (not t) (p ∷ without_file file pages) (without_file file pages))
      by true e on = on
      by false e on = All-cons Q p _ (goes_on p e (All-head P p pages all)) on

  -- the pages of a file are changed: something may hold of each then
  pub All-changed : (Q : PagePlace × List ℕ → Type 0) (file : List ℕ) (change : ℕ → List ℕ → List ℕ) → ((p : PagePlace × List ℕ) → pointwise nat_eq p.0.file file ≡ false → P p → Q p)
      → ((index : ℕ) (bytes : List ℕ) → P (record { file = file; index = index }, bytes) → Q (record { file = file; index = index }, change index bytes))
      → (pages : List (PagePlace × List ℕ)) → All P pages → All Q (map (changed_page file change) pages)
  All-changed Q file change goes_on follows [] all = All-nil Q
  All-changed Q file change goes_on follows (p ∷ pages) all =
      by (pointwise nat_eq p.0.file file) refl (All-changed Q file change goes_on follows pages (All-tail P p pages all))
    where
      place_is : pointwise nat_eq p.0.file file ≡ true → p.0 ≡ record { file = file; index = p.0.index }
      place_is t = λ i. record { file = (bytes_decides p.0.file file).0 t i; index = p.0.index }

      by : (t : Bool) → pointwise nat_eq p.0.file file ≡ t → All Q (map (changed_page file change) pages)
          → All Q ((if not t then p else (p.0, change p.0.index p.1)) ∷ map (changed_page file change) pages)
      by true e on =
          let is = place_is e in
          All-cons Q (p.0, change p.0.index p.1) _
          (subst (λ q. Q (q, change p.0.index p.1)) (sym is) (follows p.0.index p.1 (subst (λ q. P (q, p.1)) is (All-head P p pages all)))) on
      by false e on = All-cons Q p _ (goes_on p e (All-head P p pages all)) on
