-- The page in the n-th slot of the order is the n-th page, as free slots stand last; and each kept page is handed out.
use Rattle.std.proofs.Common.{◌≡◌, ◌<◌, ℕ, zero, suc, List, [], ◌∷◌, get_or, slice_get, filter_map, All, Option, Some, None, is_some, IsSome, option_map, option_and_then, refl, sym, ap, ◌∙◌, subst}
use Rattle.std.proofs.lemmas.List.Elements.{All-head, All-tail}
use Rattle.nfs_types.specs.declared.wcc.Stamp.{Stamp}
use Rattle.page_cache.specs.declared.place.PagePlace.{PagePlace}
use Rattle.page_cache.specs.Pages.{Pages, known_of, handed, nth_handed}
use Rattle.page_cache.specs.Sound.{AreKnown}
use Rattle.page_cache.specs.Slots.{shown, shown_at, AreFree, FreeAfter, FreeLast, AreApart, IsSound}

module _ {V : Type 0} (held : List (Option PagePlace)) (pages : List (List ℕ)) where
  -- the page that a slot holds
  abbrev pub page_in : ℕ × V → Option (PagePlace × List ℕ)
  page_in e = option_map (λ place. (place, get_or pages e.0 [])) (get_or held e.0 None)

  none-in : (n : ℕ) (order : List (ℕ × V)) → AreFree order held → option_and_then page_in (slice_get order n) ≡ None
  none-in n [] free = refl
  none-in zero (e ∷ order) free = ap (option_map (λ place. (place, get_or pages e.0 []))) free.0
  none-in (suc n) (e ∷ order) free = none-in n order free.1

  all-free : (order : List (ℕ × V)) → AreFree order held → shown order held pages ≡ []
  all-free [] free = refl
  all-free (e ∷ order) free = rw free.0 (all-free order free.1)

  pub nth-shown : (n : ℕ) (order : List (ℕ × V)) → FreeLast order held → slice_get (shown order held pages) n ≡ option_and_then page_in (slice_get order n)
  nth-shown n [] free = refl
  nth-shown n (e ∷ order) free = by n (get_or held e.0 None) refl free (λ k f. nth-shown k order f)
    where
      by : (n : ℕ) (o : Option PagePlace) → get_or held e.0 None ≡ o → FreeAfter (is_some o) order held (FreeLast order held)
          → ((k : ℕ) → FreeLast order held → slice_get (shown order held pages) k ≡ option_and_then page_in (slice_get order k))
          → slice_get (shown_at o (get_or pages e.0 []) (shown order held pages)) n ≡ option_and_then page_in (slice_get (e ∷ order) n)
      by zero None is f on = rw (is, all-free order f) refl
      by (suc n) None is f on = rw (all-free order f) (sym (none-in n order f))
      by zero (Some p) is f on = rw is refl
      by (suc n) (Some p) is f on = on n f

module _ (c : Pages) where
  -- each page is handed out
  nth-all : (n : ℕ) (pages : List (PagePlace × List ℕ)) → All (λ p. IsSome (known_of p.0.file c)) pages → slice_get (filter_map (handed c) pages) n ≡ option_and_then (handed c) (slice_get pages n)
  nth-all n [] all = refl
  nth-all n (p ∷ pages) all = by n (known_of p.0.file c) refl (All-head (λ p. IsSome (known_of p.0.file c)) p pages all) (λ k. nth-all k pages (All-tail (λ p. IsSome (known_of p.0.file c)) p pages all))
    where
      by : (n : ℕ) (o : Option Stamp) → known_of p.0.file c ≡ o → IsSome o
          → ((k : ℕ) → slice_get (filter_map (handed c) pages) k ≡ option_and_then (handed c) (slice_get pages k))
          → slice_get (filter_map (handed c) (p ∷ pages)) n ≡ option_and_then (handed c) (slice_get (p ∷ pages) n)
      by n None is h on = cc
      by zero (Some s) is h on = rw is refl
      by (suc n) (Some s) is h on = rw is (on n)

  pub nth-handed : (n : ℕ) → AreKnown c → nth_handed n c ≡ option_and_then (handed c) (slice_get c.pages n)
  nth-handed n known = nth-all n c.pages known

module _ {V : Type 0} {count : ℕ} (order : List (ℕ × V)) (held : List (Option PagePlace)) (pages : List (List ℕ)) (sound : IsSound count order held pages) (n : ℕ) where
  -- where the order has no such place
  pub nth-none : None ≡ option_map (λ e. e.0) (slice_get order n) → None ≡ slice_get (shown order held pages) n
  nth-none is = sym (nth-shown held pages n order sound.free_last ∙ by (slice_get order n) is)
    where
      by : (o : Option (ℕ × V)) → None ≡ option_map (λ e. e.0) o → option_and_then (page_in held pages) o ≡ None
      by None is = refl
      by (Some e) is = cc

  pub nth-low : (slot : ℕ) → Some slot ≡ option_map (λ e. e.0) (slice_get order n) → slot < count
  nth-low slot is = within n order sound.apart is
    where
      within : (n : ℕ) (order : List (ℕ × V)) → AreApart count order → Some slot ≡ option_map (λ e. e.0) (slice_get order n) → slot < count
      within n [] a is = cc
      within zero (e ∷ order) a is = let same : slot ≡ e.0 = cc in subst (λ s. s < count) (sym same) a.0
      within (suc n) (e ∷ order) a is = within n order a.2 is

  -- where the slot there is free
  pub nth-free : (slot : ℕ) → Some slot ≡ option_map (λ e. e.0) (slice_get order n) → None ≡ get_or held slot None → None ≡ slice_get (shown order held pages) n
  nth-free slot is free = sym (nth-shown held pages n order sound.free_last ∙ by (slice_get order n) is)
    where
      by : (o : Option (ℕ × V)) → Some slot ≡ option_map (λ e. e.0) o → option_and_then (page_in held pages) o ≡ None
      by None is = cc
      by (Some e) is = let same : slot ≡ e.0 = cc in ap (option_map (λ place. (place, get_or pages e.0 []))) (ap (λ s. get_or held s None) (sym same) ∙ sym free)

  -- where it holds a page
  pub nth-holds : (slot : ℕ) (place : PagePlace) (bytes : List ℕ) → Some slot ≡ option_map (λ e. e.0) (slice_get order n) → Some place ≡ get_or held slot None → bytes ≡ get_or pages slot []
      → Some (place, bytes) ≡ slice_get (shown order held pages) n
  nth-holds slot place bytes is holds same_bytes = sym (nth-shown held pages n order sound.free_last ∙ by (slice_get order n) is)
    where
      by : (o : Option (ℕ × V)) → Some slot ≡ option_map (λ e. e.0) o → option_and_then (page_in held pages) o ≡ Some (place, bytes)
      by None is = cc
      by (Some e) is =
          let same : slot ≡ e.0 = cc in
          ap (option_map (λ place. (place, get_or pages e.0 []))) (ap (λ s. get_or held s None) (sym same) ∙ sym holds)
          ∙ ap (λ b. Some (place, b)) (ap (λ s. get_or pages s []) (sym same) ∙ sym same_bytes)

module _ (c : Pages) (n : ℕ) (known : AreKnown c) where
  -- what is handed out of the page there
  pub nth-gives : (o : Option (PagePlace × List ℕ)) → o ≡ slice_get c.pages n → option_and_then (handed c) o ≡ nth_handed n c
  nth-gives o is = ap (option_and_then (handed c)) is ∙ sym (nth-handed c n known)

-- the same of what is kept inside
module _ (inside now : Pages) (n : ℕ) (view : inside ≡ now) (known : AreKnown inside) where
  of-now : (o : Option (PagePlace × List ℕ)) → o ≡ slice_get inside.pages n → option_and_then (handed now) o ≡ nth_handed n now
  of-now o is = nth-gives now n (subst AreKnown view known) o (is ∙ ap (λ c. slice_get c.pages n) view)

  pub nth-some : (place : PagePlace) (bytes : List ℕ) (stamp : Stamp) → Some (place, bytes) ≡ slice_get inside.pages n → Some stamp ≡ known_of place.file now
      → Some (record { file = place.file; stamp = stamp; index = place.index; bytes = bytes }) ≡ nth_handed n now
  nth-some place bytes stamp is told = ap (option_map (λ s. record { file = place.file; stamp = s; index = place.index; bytes = bytes })) told ∙ of-now (Some (place, bytes)) is

  pub nth-unknown : (place : PagePlace) (bytes : List ℕ) → Some (place, bytes) ≡ slice_get inside.pages n → None ≡ known_of place.file now → None ≡ nth_handed n now
  nth-unknown place bytes is none = ap (option_map (λ s. record { file = place.file; stamp = s; index = place.index; bytes = bytes })) none ∙ of-now (Some (place, bytes)) is

  pub nth-missing : None ≡ slice_get inside.pages n → None ≡ nth_handed n now
  nth-missing is = of-now None is
