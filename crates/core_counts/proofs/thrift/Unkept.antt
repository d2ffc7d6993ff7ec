-- Which pages a READ doesn't meet: none that is kept as it is planned.
use Rattle.core_counts.proofs.Prelude.{◌≡◌, ◌<◌, ◌≤◌, ◌+◌, ◌-◌, ◌*◌, ◌/◌, ◌%◌, ◌⊎◌, inl, inr, ℕ, zero, suc, Bool, true, false, nat_eq, nat_le, List, [], ◌∷◌, length, All, Option, Some, None, refl, sym, ap, ◌∙◌, arith, if◌then◌else◌, cases_lt, eq-eqb, nat_tests, All-nil, All-cons, All-weaker, PagePlace, start_of, Pages, page_of, is_place, after_page, same-self, MeetsPage, Bytes, place_after, next_page}
use Rattle.std.proofs.Common.{is_some}
use Rattle.file_ops.specs.Gather.{Planned, stopped, planned, most_asked, next_plan, next_count}
use Rattle.std.specs.Cmp.Lexicographic.{pointwise}
use Rattle.std.specs.Map.{lookup}
use Rattle.page_cache.proofs.Entries.{All-page, All-promoted}
use Rattle.core_counts.proofs.thrift.PageNames.{Of, AllOf}

-- another page than this one of the file
abbrev pub NotPage : List ℕ → ℕ → List ℕ → ℕ → Type 0
NotPage file index f i = f ≡ file → i ≡ index → ⊥

-- a page of another file, or one that these bytes don't meet
abbrev pub Missed : List ℕ → ℕ → ℕ → List ℕ → ℕ → Type 0
Missed file place n f i = f ≡ file → MeetsPage place n i → ⊥

-- ---- pages that aren't kept

is-there : (file : List ℕ) (index : ℕ) (place : PagePlace) → place.file ≡ file → place.index ≡ index → is_place file index place ≡ true
is-there file index place same is = rw (eq-eqb place.index index is) (ap (λ (g : List ℕ). pointwise nat_eq g file) same ∙ same-self file)

none-there : (file : List ℕ) (index : ℕ) (pages : List (PagePlace × List ℕ)) → lookup (is_place file index) pages ≡ None → All (Of (NotPage file index)) pages
none-there file index [] none = All-nil (Of (NotPage file index))
none-there file index (p ∷ pages) none = by (none-there file index pages) (is_place file index p.0) refl
  where
    by : (lookup (is_place file index) pages ≡ None → All (Of (NotPage file index)) pages) → (b : Bool) → is_place file index p.0 ≡ b → All (Of (NotPage file index)) (p ∷ pages)
    by rest true t = absurd (let h = rw t at none in cc)
    by rest false t =
        All-cons (Of (NotPage file index)) p pages (λ same is. absurd (let no_way : false ≡ true = sym t ∙ is-there file index p.0 same is in cc)) (rest (rw t at none))

pub not-kept : (file : List ℕ) (index : ℕ) (c : Pages) → page_of file index c ≡ None → AllOf (NotPage file index) c
not-kept file index c none = none-there file index c.pages none

pub kept-none : (P : List ℕ → ℕ → Type 0) (file : List ℕ) (index : ℕ) (c : Pages) → AllOf P c → (P file index → ⊥) → page_of file index c ≡ None
kept-none P file index c all not = by (page_of file index c) refl
  where
    by : (o : Option (List ℕ)) → page_of file index c ≡ o → page_of file index c ≡ None
    by None is = is
    by (Some bytes) is = absurd (not (All-page (Of P) file index c.pages bytes all is))

-- ---- what a READ looks at

module _ (P : List ℕ → ℕ → Type 0) (file : List ℕ) where
  pub shown-all : (index : ℕ) (c : Pages) → AllOf P c → AllOf P (after_page file index c)
  shown-all index c all = All-promoted (Of P) (is_place file index) c.pages all

  stopped-if : (b : Bool) (index : ℕ) (plan : Planned) → AllOf P plan.pages
      → AllOf P (if b then plan else record { end = if is_some (page_of file index plan.pages) then start_of index else plan.end; pages = after_page file index plan.pages }).pages
  stopped-if true index plan all = all
  stopped-if false index plan all = shown-all index plan.pages all

  pub planned-all : (index n : ℕ) (plan : Planned) → AllOf P plan.pages → AllOf P (planned file index n plan).pages
  planned-all index zero plan all = all
  planned-all index (suc n) plan all =
      let before = planned file index n plan in stopped-if (nat_le before.end (start_of (index + n))) (index + n) before (planned-all index n plan all)

module _ (file : List ℕ) (first : ℕ) where
  -- of so many pages from the first on none that is kept begins before the end
  abbrev Looked : ℕ → ℕ → List ℕ → ℕ → Type 0
  Looked n end f i = f ≡ file → first ≤ i → i < first + n → start_of i < end → ⊥

  abbrev IsLooked : ℕ → Planned → Type 0
  IsLooked n plan = AllOf (Looked n plan.end) plan.pages

  last-or : (n i : ℕ) → i < first + suc n → (i < first + n) ⊎ (i ≡ first + n)
  last-or n i high = elim (cases_lt i (first + n)) [ inl low ↦ inl low | inr past ↦ inr (omega (arith, high, past)) ]

  past-end : (n : ℕ) (plan : Planned) → plan.end ≤ start_of (first + n) → IsLooked n plan → IsLooked (suc n) plan
  past-end n plan most all = All-weaker (Of (Looked n plan.end)) (Of (Looked (suc n) plan.end))
      (λ p had same low high early. elim (last-or n p.0.index high) [
        | inl before ↦ had same low before early
        | inr last ↦ absurd (omega (arith, most, early, last))
      ]) plan.pages.pages all

  at-kept : (n : ℕ) (plan : Planned) → start_of (first + n) < plan.end → IsLooked n plan → AllOf (Looked (suc n) (start_of (first + n))) plan.pages
  at-kept n plan within all = All-weaker (Of (Looked n plan.end)) (Of (Looked (suc n) (start_of (first + n))))
      (λ p had same low high early. had same low (omega (arith, early)) (omega (arith, early, within))) plan.pages.pages all

  not-there : (n : ℕ) (plan : Planned) → page_of file (first + n) plan.pages ≡ None → IsLooked n plan → IsLooked (suc n) plan
  not-there n plan none all =
      let others = not-kept file (first + n) plan.pages none in
      λ k d low. λ same above high early. elim (last-or n _ high) [
        | inl before ↦ all k d low same above before early
        | inr last ↦ others k d low same last
      ]

  end-at : (n : ℕ) (plan : Planned) → start_of (first + n) < plan.end → IsLooked n plan → (o : Option (List ℕ)) → page_of file (first + n) plan.pages ≡ o
      → AllOf (Looked (suc n) (if is_some o then start_of (first + n) else plan.end)) plan.pages
  end-at n plan within all None is = not-there n plan is all
  end-at n plan within all (Some bytes) is = at-kept n plan within all

  stopped-looked : (n : ℕ) (plan : Planned) → IsLooked n plan → IsLooked (suc n) (stopped file (first + n) plan)
  stopped-looked n plan all = by (nat_le plan.end (start_of (first + n))) refl
    where
      by : (b : Bool) → nat_le plan.end (start_of (first + n)) ≡ b
          → IsLooked (suc n) (if b then plan else record { end = if is_some (page_of file (first + n) plan.pages) then start_of (first + n) else plan.end; pages = after_page file (first + n) plan.pages })
      by true is = past-end n plan (grind (arith, nat_tests)) all
      by false is = shown-all (Looked (suc n) (if is_some (page_of file (first + n) plan.pages) then start_of (first + n) else plan.end)) file (first + n) plan.pages
          (end-at n plan (grind (arith, nat_tests)) all (page_of file (first + n) plan.pages) refl)

  planned-looked : (n : ℕ) (plan : Planned) → IsLooked n (planned file first n plan)
  planned-looked zero plan = λ k d low. λ same above high early. absurd (omega (arith, above, high))
  planned-looked (suc n) plan = stopped-looked n (planned file first n plan) (planned-looked n plan)

-- ---- the pages of a READ

-- a page that so many bytes meet is the first one, or begins after it, among those that were looked at and before the end
in-range : (start long limit end n i : ℕ) → start % 4096 ≡ 0 → 1 ≤ n → n ≤ end - (start + long) → n ≤ limit - long → (start + long) / 4096 ≤ i → i < (start + long + n + 4095) / 4096
    → (i ≡ (start + long) / 4096) ⊎ (((start + long) / 4096 + 1 ≤ i) × (i < (start + long) / 4096 + 1 + limit / 4096) × (i * 4096 < end))
in-range start long limit end n i whole some most left low high = elim (cases_lt ((start + long) / 4096) i) [
  | inl past ↦ inr (omega (arith, past), omega (arith, whole, some, left, high), omega (arith, some, most, high))
  | inr same ↦ inl (omega (arith, low, same))
]

-- The READ that is planned misses each page that is kept, where the page in which it begins isn't.
pub part-misses : (file : List ℕ) (rsize : ℕ) (b : Bytes) (c : Pages) → b.start % 4096 ≡ 0 → AllOf (NotPage file (next_page b)) c
    → AllOf (Missed file (place_after b) (next_count file rsize b c)) (next_plan file rsize b c).pages
part-misses file rsize b c whole first =
    let plan : Planned = record { end = place_after b + most_asked rsize b; pages = c } in
    let firsts = planned-all (NotPage file (next_page b)) file (next_page b + 1) (b.limit / 4096) plan first in
    let looked = planned-looked file (next_page b + 1) (b.limit / 4096) plan in
    λ k d low. λ same met.
    let some = met.some in
    elim (in-range b.start (length b.bytes) b.limit (next_plan file rsize b c).end (next_count file rsize b c) _ whole met.some (omega (arith, some)) (omega (arith, some)) met.low met.high) [
      | inl is ↦ firsts k d low same is
      | inr past ↦ looked k d low same past.0 past.1 past.2
    ]
