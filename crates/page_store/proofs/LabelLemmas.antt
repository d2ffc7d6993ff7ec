-- What an image has while a label is put behind its slots.
use Rattle.std.proofs.Common.{◌≡◌, ◌<◌, ◌≤◌, ◌⊎◌, inl, inr, ℕ, zero, suc, ◌+◌, List, [], ◌∷◌, length, replicate, Option, Some, None, refl, sym, ◌∙◌, ap, subst, arith}
use Rattle.std.specs.Prelude.{slice_get, set}
use Rattle.std.proofs.lemmas.List.{length-set, length-replicate}
use Rattle.std.proofs.lemmas.Option.{slice_get_within}
use Rattle.std.proofs.lemmas.Bool.{cases_lt}
use Rattle.page_store.specs.Disk.{Every, Only}
use Rattle.page_store.specs.Slots.{IsShut}
use Rattle.page_store.specs.Pages.{StoredPage, HasPage, WasKept, KeepsOnly}
use Rattle.page_store.specs.Store.{IsShown, IsStored, Stands}
use Rattle.page_store.specs.Rounds.{Round, IsIn, KeepsAll, AreHeld}
use Rattle.page_store.specs.Labels.{IsLabel, IsLabelled, AreNone, Relabels, IsRelabelled}
use Rattle.page_store.proofs.InMemory.{get-set, held-long}

-- ---- a round of all slots

pub all-in : (n k : ℕ) → k < n → IsIn (replicate n (Some None)) k
all-in zero k low = absurd (omega (arith, low))
all-in (suc n) zero low = (None, refl)
all-in (suc n) (suc k) low = all-in n k (omega (arith, low))

pub whole-long : (round : Round) (n : ℕ) → round ≡ replicate n (Some None) → length round ≡ n
whole-long round n is = ap (λ (r : Round). length r) is ∙ length-replicate {A = Option (Option StoredPage)} n (Some None)

pub whole-fits : (round : Round) (n m : ℕ) → round ≡ replicate n (Some None) → n ≤ m → length round ≤ m
whole-fits round n m is le = let long = whole-long round n is in omega (arith, long, le)

pub whole-below : (round : Round) (n m : ℕ) → round ≡ replicate n (Some None) → n < m → length round ≤ m
whole-below round n m is lt = let long = whole-long round n is in omega (arith, long, lt)

pub whole-shut : (round : Round) (n : ℕ) (mid : List ℕ → Type 0) → round ≡ replicate n (Some None) → ((k : ℕ) → IsIn round k → IsShut mid k) → (k : ℕ) → k < n → IsShut mid k
whole-shut round n mid is shut k low = shut k (subst (λ (r : Round). IsIn r k) (sym is) (all-in n k low))

-- ---- images

-- before the label is written
pub shut-relabels : (m n : ℕ) (label : StoredPage) (old : List ℕ → Type 0) → n < m → (c : List ℕ) → KeepsAll m old c → Relabels n label old c
shut-relabels m n label old lt c keeps = record {
  pages = λ k page less has. keeps k page (omega (arith, less, lt)) has;
  labels = λ l has. inl (keeps n l lt has);
}

-- where no slot is open, an image of a store into the place behind them has no page there
pub put-none : (m n : ℕ) (label : StoredPage) (mid : List ℕ → Type 0) → n < m → ((k : ℕ) → k < n → IsShut mid k) → (c : List ℕ) → KeepsOnly m n label mid c
    → (k : ℕ) (page : StoredPage) → k < n → HasPage c k page → ⊥
put-none m n label mid lt shut c keeps k page less has = elim (keeps k page (omega (arith, less, lt)) has) [
  | inl was ↦ shut k less was.0 was.1 was.2.opens
  | inr is ↦ absurd (let same = is.0 in omega (arith, same, less))
]

-- while it is written
pub put-relabels : (m n : ℕ) (label : StoredPage) (old mid : List ℕ → Type 0) → n < m → Every mid (KeepsAll m old) → ((k : ℕ) → k < n → IsShut mid k)
    → (c : List ℕ) → KeepsOnly m n label mid c → Relabels n label old c
put-relabels m n label old mid lt each shut c keeps = record {
  pages = λ k page less has. absurd (put-none m n label mid lt shut c keeps k page less has);
  labels = λ l has. elim (keeps n l lt has) [
    | inl was ↦ inl (each was.0 was.1 n l lt was.2)
    | inr is ↦ inr (is.1, put-none m n label mid lt shut c keeps)
  ];
}

pub is-relabelled : (m n : ℕ) (label : StoredPage) (mid : List ℕ → Type 0) (seen : List ℕ) (now : List ℕ → Type 0) → n < m → ((k : ℕ) → k < n → IsShut mid k)
    → KeepsOnly m n label mid seen → IsStored n label seen now → IsRelabelled n label seen now
is-relabelled m n label mid seen now lt shut keeps stored = record { there = stored.there; none = put-none m n label mid lt shut seen keeps; only = stored.only }

-- ---- the label that is read

pub is-labelled : (image : List ℕ) (n : ℕ) (page label : Option StoredPage) → IsShown image n page → ((l : StoredPage) → label ≡ Some l → (page ≡ Some l) × IsLabel n l)
    → (label ≡ None → (l : StoredPage) → page ≡ Some l → IsLabel n l → ⊥) → IsLabelled image n label
is-labelled image n page (Some l) shown some none =
    let s = some l refl in
    (subst (λ (o : Option StoredPage). IsShown image n o) s.0 shown, s.1)
is-labelled image n None None shown some none = λ p has is. shown p has
is-labelled image n (Some q) None shown some none = λ p has is. none refl q refl (subst (λ (r : StoredPage). IsLabel n r) (one p has) is)
  where
    one : (p : StoredPage) → HasPage image n p → p ≡ q
    one p has = let e : Some p ≡ Some q = sym has.is ∙ shown.is in cc

-- ---- pages that count as closed

pub none-more : (pages after : List (Option StoredPage)) (slot : ℕ) → after ≡ set pages slot None → ((k : ℕ) (page : StoredPage) → k < slot → slice_get pages k ≡ Some (Some page) → ⊥)
    → (k : ℕ) (page : StoredPage) → k < slot + 1 → slice_get after k ≡ Some (Some page) → ⊥
none-more pages after slot is so_far k page less there =
    elim (get-set pages slot k None (Some page) (subst (λ (ps : List (Option StoredPage)). slice_get ps k ≡ Some (Some page)) is there)) [
      | inl e ↦ absurd (let no_way : Some page ≡ None = e.1 in cc)
      | inr e ↦ so_far k page (below e.0) e.1
    ]
  where
    below : (k ≡ slot → ⊥) → k < slot
    below other = elim (cases_lt k slot) [ inl lt ↦ lt | inr ge ↦ absurd (other (omega (arith, ge, less))) ]

pub none-all : (pages : List (Option StoredPage)) (n : ℕ) → length pages ≡ n → ((k : ℕ) (page : StoredPage) → k < n → slice_get pages k ≡ Some (Some page) → ⊥) → AreNone pages
none-all pages n long none k page there = let low = slice_get_within pages k (Some page) there in none k page (omega (arith, low, long)) there

pub held-clear : (pages after : List (Option StoredPage)) (was : Round) → AreHeld pages was → length after ≡ length pages → AreHeld after []
held-clear pages after was h same = held-long pages after was h same
