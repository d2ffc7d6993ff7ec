-- Each page is kept once, and so no page gives way where the reads met no more pages than are kept.
use Rattle.core_counts.proofs.Prelude.{◌≡◌, ◌≢◌, ◌≤◌, ◌-◌, ℕ, zero, suc, Bool, true, false, not, cond, nat_eq, List, [], ◌∷◌, length, map, take, All, Option, Some, None, refl, sym, ap, subst, ◌∙◌, arith, option_map_or, remove_entry, All-nil, All-head, All-cons, All-weaker, PagePlace, is_place, fronted}
use Rattle.std.specs.Map.{lookup_entry}
use Rattle.std.proofs.lemmas.List.Elements.{All-tail, All-take, All-map}
use Rattle.page_cache.specs.Pages.{without_file}
use Rattle.std.specs.Prelude.{AllPairs}
use Rattle.std.specs.Cmp.Lexicographic.{pointwise}
use Rattle.std.proofs.lemmas.List.{length-map}
use Rattle.std.proofs.lemmas.List.Kept.{AllPairs-cons}
use Rattle.lru.specs.LruCache.{promoted}
use Rattle.page_cache.proofs.Shown.{same_place}
use Rattle.claims.specs.Thrifty.{FilePage, most_pages}

abbrev pub Entry : Type 0
Entry = PagePlace × List ℕ

abbrev pub IsApart : Entry → Entry → Type 0
IsApart p q = q.0 ≡ p.0 → ⊥

-- each page is there once
abbrev pub Distinct : List Entry → Type 0
Distinct [] = Unit {0}
Distinct (p ∷ pages) = All (IsApart p) pages × Distinct pages

-- ---- what holds of each goes on holding

module _ (P : Entry → Type 0) where
  pub all-removed : (test : PagePlace → Bool) (pages : List Entry) → All P pages → All P (remove_entry test pages)
  all-removed test [] all = All-nil P
  all-removed test (p ∷ pages) all = by (all-removed test pages) (test p.0)
    where
      by : (All P pages → All P (remove_entry test pages)) → (b : Bool) → All P (cond b pages (p ∷ remove_entry test pages))
      by rest true = All-tail P p pages all
      by rest false = All-cons P p (remove_entry test pages) (All-head P p pages all) (rest (All-tail P p pages all))

  all-others : (g : List ℕ) (pages : List Entry) → All P pages → All P (without_file g pages)
  all-others g [] all = All-nil P
  all-others g (p ∷ pages) all = by (all-others g pages) (pointwise nat_eq p.0.file g)
    where
      by : (All P pages → All P (without_file g pages)) → (b : Bool) → All P (cond (not b) (p ∷ without_file g pages) (without_file g pages))
      by rest true = rest (All-tail P p pages all)
      by rest false = All-cons P p (without_file g pages) (All-head P p pages all) (rest (All-tail P p pages all))

  found-is : (test : PagePlace → Bool) (pages : List Entry) (e : Entry) → All P pages → lookup_entry test pages ≡ Some e → P e
  found-is test [] e all found = absurd (cc)
  found-is test (p ∷ pages) e all found = by (found-is test pages e) (test p.0) refl
    where
      by : (All P pages → lookup_entry test pages ≡ Some e → P e) → (b : Bool) → test p.0 ≡ b → P e
      by rest true t = let is : p ≡ e = (let h = rw t at found in cc) in subst P is (All-head P p pages all)
      by rest false t = rest (All-tail P p pages all) (rw t at found)

-- ---- each call of the cache

distinct-removed : (test : PagePlace → Bool) (pages : List Entry) → Distinct pages → Distinct (remove_entry test pages)
distinct-removed test [] d = tt
distinct-removed test (p ∷ pages) d = by (distinct-removed test pages) (test p.0)
  where
    by : (Distinct pages → Distinct (remove_entry test pages)) → (b : Bool) → Distinct (cond b pages (p ∷ remove_entry test pages))
    by rest true = d.1
    by rest false = (all-removed (IsApart p) test pages d.0, rest d.1)

pub distinct-others : (g : List ℕ) (pages : List Entry) → Distinct pages → Distinct (without_file g pages)
distinct-others g [] d = tt
distinct-others g (p ∷ pages) d = by (distinct-others g pages) (pointwise nat_eq p.0.file g)
  where
    by : (Distinct pages → Distinct (without_file g pages)) → (b : Bool) → Distinct (cond (not b) (p ∷ without_file g pages) (without_file g pages))
    by rest true = rest d.1
    by rest false = (all-others (IsApart p) g pages d.0, rest d.1)

-- an entry that was taken out isn't among the rest
apart-removed : (test : PagePlace → Bool) (pages : List Entry) (e : Entry) → Distinct pages → lookup_entry test pages ≡ Some e → All (IsApart e) (remove_entry test pages)
apart-removed test [] e d found = absurd (cc)
apart-removed test (p ∷ pages) e d found = by (apart-removed test pages e) (test p.0) refl
  where
    by : (Distinct pages → lookup_entry test pages ≡ Some e → All (IsApart e) (remove_entry test pages)) → (b : Bool) → test p.0 ≡ b → All (IsApart e) (cond b pages (p ∷ remove_entry test pages))
    by rest true t = let is : p ≡ e = (let h = rw t at found in cc) in subst (λ (q : Entry). All (IsApart q) pages) is d.0
    by rest false t =
        let there = rw t at found in
        let off : IsApart p e = found-is (IsApart p) test pages e d.0 there in
        All-cons (IsApart e) p (remove_entry test pages) (λ same. off (sym same)) (rest d.1 there)

pub distinct-promoted : (test : PagePlace → Bool) (pages : List Entry) → Distinct pages → Distinct (promoted test pages)
distinct-promoted test pages d = by (lookup_entry test pages) refl
  where
    by : (o : Option Entry) → lookup_entry test pages ≡ o → Distinct (option_map_or (λ e. e ∷ remove_entry test pages) o pages)
    by None found = d
    by (Some e) found = (apart-removed test pages e d found, distinct-removed test pages d)

-- where none passes a test, each entry fails it
none-passes : (test : PagePlace → Bool) (pages : List Entry) → lookup_entry test pages ≡ None → All (λ (q : Entry). test q.0 ≡ false) (remove_entry test pages)
none-passes test [] none = All-nil (λ (q : Entry). test q.0 ≡ false)
none-passes test (p ∷ pages) none = by (none-passes test pages) (test p.0) refl
  where
    by : (lookup_entry test pages ≡ None → All (λ (q : Entry). test q.0 ≡ false) (remove_entry test pages)) → (b : Bool) → test p.0 ≡ b
        → All (λ (q : Entry). test q.0 ≡ false) (cond b pages (p ∷ remove_entry test pages))
    by rest true t = absurd (let h = rw t at none in cc)
    by rest false t = All-cons (λ (q : Entry). test q.0 ≡ false) p (remove_entry test pages) t (rest (rw t at none))

found-passes : (test : PagePlace → Bool) (pages : List Entry) (e : Entry) → lookup_entry test pages ≡ Some e → test e.0 ≡ true
found-passes test [] e found = absurd (cc)
found-passes test (p ∷ pages) e found = by (found-passes test pages e) (test p.0) refl
  where
    by : (lookup_entry test pages ≡ Some e → test e.0 ≡ true) → (b : Bool) → test p.0 ≡ b → test e.0 ≡ true
    by rest true t = let is : p ≡ e = (let h = rw t at found in cc) in ap (λ (q : Entry). test q.0) (sym is) ∙ t
    by rest false t = rest (rw t at found)

place-passes : (place : PagePlace) → is_place place.file place.index place ≡ true → (q : Entry) → is_place place.file place.index q.0 ≡ false → q.0 ≡ place → ⊥
place-passes place own q off same = let no_way : false ≡ true = sym off ∙ ap (is_place place.file place.index) same ∙ own in cc

-- a page that is put in front
pub distinct-front : (place : PagePlace) (bytes : List ℕ) (pages : List Entry) → is_place place.file place.index place ≡ true → Distinct pages
    → Distinct ((place, bytes) ∷ remove_entry (is_place place.file place.index) pages)
distinct-front place bytes pages own d = (by (lookup_entry (is_place place.file place.index) pages) refl, distinct-removed (is_place place.file place.index) pages d)
  where
    by : (o : Option Entry) → lookup_entry (is_place place.file place.index) pages ≡ o → All (IsApart (place, bytes)) (remove_entry (is_place place.file place.index) pages)
    by None found = All-weaker (λ (q : Entry). is_place place.file place.index q.0 ≡ false) (IsApart (place, bytes)) (λ q off same. place-passes place own q off same)
        (remove_entry (is_place place.file place.index) pages) (none-passes (is_place place.file place.index) pages found)
    by (Some e) found =
        let at : e.0 ≡ place = same_place place.file place.index e.0 (found-passes (is_place place.file place.index) pages e found) in
        All-weaker (IsApart e) (IsApart (place, bytes)) (λ q off same. off (same ∙ sym at)) (remove_entry (is_place place.file place.index) pages)
        (apart-removed (is_place place.file place.index) pages e d found)

distinct-take : (n : ℕ) (pages : List Entry) → Distinct pages → Distinct (take n pages)
distinct-take zero pages d = tt
distinct-take (suc n) [] d = tt
distinct-take (suc n) (p ∷ pages) d = (All-take (IsApart p) n pages d.0, distinct-take n pages d.1)

pub distinct-fronted : (room : ℕ) (place : PagePlace) (bytes : List ℕ) (pages : List Entry) → is_place place.file place.index place ≡ true → Distinct pages → Distinct (fronted room place bytes pages)
distinct-fronted room place bytes pages own d =
    let front = distinct-front place bytes pages own d in
    let rest = remove_entry (is_place place.file place.index) pages in
    (All-take (IsApart (place, bytes)) (room - 1) rest front.0, distinct-take (room - 1) rest front.1)

-- ---- how many there may be

abbrev pub key : Entry → FilePage
key p = (p.0.file, p.0.index)

-- pages that were met are at most as many as are kept
abbrev pub Few : (List ℕ → ℕ → Type 0) → Type 0
Few M = (pages : List FilePage) → AllPairs (λ (a b : FilePage). a ≢ b) pages → All (λ (p : FilePage). M p.0 p.1) pages → length pages ≤ most_pages

key-place : (p q : Entry) → key p ≡ key q → q.0 ≡ p.0
key-place p q same = λ i. record { file = (sym same i).0; index = (sym same i).1 }

keys-apart : (pages : List Entry) → Distinct pages → AllPairs (λ (a b : FilePage). a ≢ b) (map key pages)
keys-apart [] d = λ i j none lt within. absurd (omega (arith, within))
keys-apart (p ∷ pages) d =
    AllPairs-cons (λ (a b : FilePage). a ≢ b) (key p) (map key pages)
    (All-map (λ (b : FilePage). key p ≢ b) key pages (All-weaker (IsApart p) (λ (q : Entry). key p ≢ key q) (λ q off same. off (key-place p q same)) pages d.0))
    (keys-apart pages d.1)

pub few-kept : (M : List ℕ → ℕ → Type 0) (pages : List Entry) → Few M → Distinct pages → All (λ (p : Entry). M p.0.file p.0.index) pages → length pages ≤ most_pages
few-kept M pages few d all =
    let most = few (map key pages) (keys-apart pages d) (All-map (λ (p : FilePage). M p.0 p.1) key pages all) in
    let long = length-map pages key in
    omega (arith, most, long)
