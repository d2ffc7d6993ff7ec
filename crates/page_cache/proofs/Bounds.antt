-- The pages of each file below its number are whole, after each thing that is done to the files and the pages.
use Rattle.std.proofs.Common.{◌≡◌, ◌<◌, ◌≤◌, ℕ, ◌-◌, ◌/◌, inl, inr, zero, suc, Bool, true, false, not, cond, List, [], ◌∷◌, length, take, map, All, Option, Some, None, option_map, if◌then◌else◌, refl, sym, ap, ◌∙◌, subst, arith}
use Rattle.std.proofs.lemmas.Bool.{cases_lt}
use Rattle.std.proofs.lemmas.List.Elements.{All-nil, All-cons}
use Rattle.std.specs.Option.{option_map_or}
use Rattle.std.specs.Map.{lookup, lookup_entry, remove_entry}
use Rattle.indexmap.specs.IndexMap.{insert_entry}
use Rattle.lru.specs.LruCache.{promoted}
use Rattle.page_cache.specs.declared.place.PagePlace.{PagePlace}
use Rattle.page_cache.specs.declared.files.FileRecord.{FileRecord}
use Rattle.page_cache.specs.Bytes.{put_page, cut_page}
use Rattle.page_cache.specs.Pages.{is_place, without_file, changed_page, fronted}
use Rattle.page_cache.specs.Full.{states_of, full_below_of, AreFull, FullBelow}
use Rattle.page_cache.proofs.Inserts.{same, same-is, same-self, lookup-insert}
use Rattle.page_cache.proofs.Full.{below-first, put-fits, put-grows, put-whole, length-cut}

-- the files' states and numbers, where one file is known anew
pub states_lookup : (test : List ℕ → Bool) (files : List (List ℕ × FileRecord)) → lookup test (states_of files) ≡ option_map (λ r. r.state) (lookup test files)
states_lookup test [] = refl
states_lookup test (e ∷ files) = by (test e.0) (states_lookup test files)
  where
    by : (b : Bool) → lookup test (states_of files) ≡ option_map (λ r. r.state) (lookup test files)
        → (if b then Some e.1.state else lookup test (states_of files)) ≡ option_map (λ r. r.state) (if b then Some e.1 else lookup test files)
    by true on = refl
    by false on = on

pub states_insert : (file : List ℕ) (r : FileRecord) (files : List (List ℕ × FileRecord)) → states_of (insert_entry same files file r) ≡ insert_entry same (states_of files) file r.state
states_insert file r [] = refl
states_insert file r (e ∷ files) = by (same file e.0) (states_insert file r files)
  where
    by : (b : Bool) → states_of (insert_entry same files file r) ≡ insert_entry same (states_of files) file r.state
        → states_of (if b then (e.0, r) ∷ files else e ∷ insert_entry same files file r)
        ≡ (if b then (e.0, r.state) ∷ states_of files else (e.0, e.1.state) ∷ insert_entry same (states_of files) file r.state)
    by true on = refl
    by false on = ap (λ l. (e.0, e.1.state) ∷ l) on

pub full_below_insert : (file : List ℕ) (r : FileRecord) (files : List (List ℕ × FileRecord)) (f : List ℕ)
    → full_below_of (insert_entry same files file r) f ≡ (if same f file then r.full_below else full_below_of files f)
full_below_insert file r files f = ap (λ o. option_map_or (λ q. q.full_below) o 0) (lookup-insert f file r files) ∙ by (same f file)
  where
    by : (b : Bool) → option_map_or (λ q. q.full_below) (if b then Some r else lookup (same f) files) 0 ≡ (if b then r.full_below else full_below_of files f)
    by true = refl
    by false = refl

-- no page has more than 4,096 bytes
pub full-fits : (b : List ℕ → ℕ) (pages : List (PagePlace × List ℕ)) → AreFull b pages → All (λ p. length p.1 ≤ 4096) pages
full-fits b [] a = All-nil (λ p. length p.1 ≤ 4096)
full-fits b (p ∷ pages) a = All-cons (λ p. length p.1 ≤ 4096) p pages a.0 (full-fits b pages a.2)

-- a bound that says less
pub full-lower : (b c : List ℕ → ℕ) (pages : List (PagePlace × List ℕ)) → ((f : List ℕ) → c f ≤ b f) → AreFull b pages → AreFull c pages
full-lower b c [] less a = tt
full-lower b c (p ∷ pages) less a = (a.0, (λ low. a.1 (let l = less p.0.file in omega arith)), full-lower b c pages less a.2)

module _ (b : List ℕ → ℕ) where
  full-take : (n : ℕ) (pages : List (PagePlace × List ℕ)) → AreFull b pages → AreFull b (take n pages)
  full-take zero pages a = tt
  full-take (suc n) [] a = tt
  full-take (suc n) (p ∷ pages) a = (a.0, a.1, full-take n pages a.2)

  full-removed : (test : PagePlace → Bool) (pages : List (PagePlace × List ℕ)) → AreFull b pages → AreFull b (remove_entry test pages)
  full-removed test [] a = tt
  full-removed test (p ∷ pages) a = by (test p.0) (full-removed test pages a.2)
    where
      by : (t : Bool) → AreFull b (remove_entry test pages) → AreFull b (if t then pages else p ∷ remove_entry test pages)
      by true on = a.2
      by false on = (a.0, a.1, on)

  abbrev IsFull : PagePlace × List ℕ → Type 0
  IsFull p = (length p.1 ≤ 4096) × (p.0.index < b p.0.file → length p.1 ≡ 4096)

  full-found : (test : PagePlace → Bool) (pages : List (PagePlace × List ℕ)) (e : PagePlace × List ℕ) → lookup_entry test pages ≡ Some e → AreFull b pages → IsFull e
  full-found test [] e is a = cc
  full-found test (p ∷ pages) e is a = by (test p.0) is (λ h. full-found test pages e h a.2)
    where
      by : (t : Bool) → (if t then Some p else lookup_entry test pages) ≡ Some e → (lookup_entry test pages ≡ Some e → IsFull e) → IsFull e
      by true h on = let is_e : p ≡ e = cc in subst IsFull is_e (a.0, a.1)
      by false h on = on h

  -- a page is shown
  pub full-promoted : (test : PagePlace → Bool) (pages : List (PagePlace × List ℕ)) → AreFull b pages → AreFull b (promoted test pages)
  full-promoted test pages a = by (lookup_entry test pages) refl
    where
      by : (o : Option (PagePlace × List ℕ)) → lookup_entry test pages ≡ o → AreFull b (option_map_or (λ e. e ∷ remove_entry test pages) o pages)
      by None e = a
      by (Some q) e = let h = full-found test pages q e a in (h.0, h.1, full-removed test pages a)

  pub full-below : (file : List ℕ) (pages : List (PagePlace × List ℕ)) → AreFull b pages → FullBelow file (b file) pages
  full-below file [] a = tt
  full-below file (p ∷ pages) a = ((λ of_file low. a.1 (subst (λ f. p.0.index < b f) (sym (same-is p.0.file file of_file)) low)), full-below file pages a.2)

-- one file has another number
module _ (b c : List ℕ → ℕ) (file : List ℕ) (n : ℕ) (is : (f : List ℕ) → c f ≡ (if same f file then n else b f)) where
  its : (f : List ℕ) → same f file ≡ true → c f ≡ n
  its f t = is f ∙ rw t refl

  of_other : (f : List ℕ) → same f file ≡ false → c f ≡ b f
  of_other f t = is f ∙ rw t refl

  lower : n ≤ b file → (f : List ℕ) → c f ≤ b f
  lower less f = by (same f file) refl
    where
      by : (t : Bool) → same f file ≡ t → c f ≤ b f
      by true e = let x = its f e in let y = ap b (same-is f file e) in omega (arith, less)
      by false e = let x = of_other f e in omega arith

  -- a file's number is as it was
  pub full-same : (pages : List (PagePlace × List ℕ)) → n ≤ b file → AreFull b pages → AreFull c pages
  full-same pages less a = full-lower b c pages (lower less) a

  -- a page is kept
  pub full-kept : (room index : ℕ) (bytes : List ℕ) (pages : List (PagePlace × List ℕ)) → n ≤ b file → length bytes ≤ 4096 → (index < n → length bytes ≡ 4096)
      → AreFull b pages → AreFull c (fronted room (record { file = file; index = index }) bytes pages)
  full-kept room index bytes pages less fits whole a = (
    fits,
    (λ low. whole (subst (λ k. index < k) (its file (same-self file)) low)),
    full-take c (room - 1) (remove_entry (is_place file index) pages) (full-removed c (is_place file index) pages (full-same pages less a)),
  )

  -- its pages are dropped
  pub full-dropped : (pages : List (PagePlace × List ℕ)) → AreFull b pages → AreFull c (without_file file pages)
  full-dropped [] a = tt
  full-dropped (p ∷ pages) a = by (same p.0.file file) refl (full-dropped pages a.2)
    where
      by : (t : Bool) → same p.0.file file ≡ t → AreFull c (without_file file pages) → AreFull c (cond (not t) (p ∷ without_file file pages) (without_file file pages))
      by true e on = on
      by false e on = (a.0, (λ low. a.1 (subst (λ k. p.0.index < k) (of_other p.0.file e) low)), on)

  -- its pages are changed
  full-changed : (change : ℕ → List ℕ → List ℕ) (pages : List (PagePlace × List ℕ))
      → ((i : ℕ) (old : List ℕ) → length old ≤ 4096 → length (change i old) ≤ 4096)
      → ((i : ℕ) (old : List ℕ) → length old ≤ 4096 → (i < b file → length old ≡ 4096) → i < n → length (change i old) ≡ 4096)
      → AreFull b pages → AreFull c (map (changed_page file change) pages)
  full-changed change [] fits whole a = tt
  full-changed change (p ∷ pages) fits whole a = by (same p.0.file file) refl (full-changed change pages fits whole a.2)
    where
      rest : List (PagePlace × List ℕ)
      rest = map (changed_page file change) pages

      by : (t : Bool) → same p.0.file file ≡ t → AreFull c (map (changed_page file change) pages)
          → AreFull c ((if not t then p else (p.0, change p.0.index p.1)) ∷ map (changed_page file change) pages)
      by true e on = (
        fits p.0.index p.1 a.0,
        (λ low. whole p.0.index p.1 a.0 (λ below. a.1 (subst (λ f. p.0.index < b f) (sym (same-is p.0.file file e)) below)) (subst (λ k. p.0.index < k) (its p.0.file e) low)),
        on,
      )
      by false e on = (a.0, (λ low. a.1 (subst (λ k. p.0.index < k) (of_other p.0.file e) low)), on)

  pub full-written : (offset : ℕ) (bytes : List ℕ) (pages : List (PagePlace × List ℕ)) → ((i : ℕ) → i < n → b file ≤ i → (0 < length bytes) × (i < offset / 4096))
      → AreFull b pages → AreFull c (map (changed_page file (λ index. put_page index offset bytes)) pages)
  full-written offset bytes pages raised a = full-changed (λ index. put_page index offset bytes) pages
      (λ i old fits. put-fits i offset bytes old fits)
      (λ i old fits whole low. elim (cases_lt i (b file)) [
        | inl less ↦ let was = whole less in let most = put-fits i offset bytes old fits in let least = put-grows i offset bytes old in omega arith
        | inr from ↦ let r = raised i low from in put-whole i offset bytes old (below-first i offset r.1) r.0 fits
      ])
      a

  pub full-cut : (size : ℕ) (pages : List (PagePlace × List ℕ)) → n ≡ size / 4096 → AreFull b pages → AreFull c (map (changed_page file (λ index. cut_page index size)) pages)
  full-cut size pages at_size a = full-changed (λ index. cut_page index size) pages
      (λ i old fits. omega (arith, length-cut i size old))
      (λ i old fits whole low. let early = below-first i size (subst (λ k. i < k) at_size low) in omega (arith, length-cut i size old))
      a
