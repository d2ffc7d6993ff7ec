-- Slots in the order of their pages: what is found there, and what stays where a slot comes or goes.
use Rattle.std.proofs.Common.{◌≡◌, ◌≢◌, ◌<◌, ◌≤◌, ℕ, ◌+◌, ◌-◌, zero, suc, Bool, true, false, ◌||◌, nat_eq, inl, inr, List, [], ◌∷◌, length, set, replicate, get_or, Option, Some, None, is_some, refl, sym, ap, ◌∙◌, subst, arith}
use Rattle.std.proofs.lemmas.List.{get_or_default, get_or-set_other, get_or-set_same, get_or-replicate, length-set, length-replicate}
use Rattle.std.proofs.lemmas.List.Edits.{length-insert, length-remove, get_or-insert_at, get_or-insert_below, get_or-insert_above, get_or-remove_below, get_or-remove_above}
use Rattle.std.proofs.lemmas.Grind.{get_or_default_zero}
use Rattle.std.proofs.lemmas.Option.{same_Some}
use Rattle.std.proofs.lemmas.Bool.{cases_eq, cases_lt, eqb-true}
use Rattle.std.proofs.lemmas.Bool.Decides.{nat_tests}
use Rattle.std.proofs.lemmas.Map.Steps.{length-le_from_distinct_below}
use Rattle.std.proofs.lemmas.Map.Keys.{IsDistinct-from_apart}
use Rattle.std.specs.List.{insert, remove, list_any}
use Rattle.std.specs.List.Sorted.{IsPartitionedBy, IsPartitionPoint}
use Rattle.page_cache.specs.declared.place.PagePlace.{PagePlace}
use Rattle.page_cache.specs.Slots.{holds_page, HoldsNone}
use Rattle.page_cache.specs.Sorted.{stands_before, is_before, held_at, IsSorted, IsGap}
use Rattle.page_cache.proofs.Shown.{held-place}
use Rattle.page_cache.proofs.PageOrder.{before-itself, before-then, before-or}

-- the page that is held
pub page-held : (held : Option PagePlace) → is_some held ≡ true → (p : PagePlace) × (held ≡ Some p)
page-held None h = cc
page-held (Some p) h = (p, refl)

pub not-before-itself : (held : Option PagePlace) (p : PagePlace) → held ≡ Some p → is_before p.file (Some p.index) held ≡ false
not-before-itself held p is = rw is (before-itself p)

module _ {count : ℕ} (held : List (Option PagePlace)) (sorted : List ℕ) (s : IsSorted count held sorted) where
  pub page-at : (i : ℕ) → i < length sorted → (p : PagePlace) × (held_at held sorted i ≡ Some p)
  page-at i within = page-held (held_at held sorted i) (s.holds i within)

  -- no slot is there twice
  pub apart : (i j : ℕ) → i < j → j < length sorted → get_or sorted i 0 ≢ get_or sorted j 0
  apart i j less within same =
      let q = page-at j within in
      let there : held_at held sorted i ≡ Some q.0 = ap (λ n. get_or held n None) same ∙ q.1 in
      absurd (let yes_before = s.rises i j q.0 less within q.1 in let not_before = not-before-itself (held_at held sorted i) q.0 there in cc)

  module _ (file : List ℕ) (bound : Option ℕ) where
    pub parted : (i j : ℕ) → i ≤ j → j < length sorted → is_before file bound (held_at held sorted j) ≡ true → is_before file bound (held_at held sorted i) ≡ true
    parted i j le within later = elim (cases_eq i j) [
      | inl e ↦ rw e later
      | inr n ↦
          let q = page-at j within in
          let p = page-at i (omega arith) in
          let lower = s.rises i j q.0 (omega arith) within q.1 in
          rw p.1 (before-then p.0 q.0 file bound (rw p.1 at lower) (rw q.1 at later))
    ]

    pub partitioned : IsPartitionedBy (λ slot. is_before file bound (get_or held slot None)) sorted
    partitioned i j d le within later =
        let ei = get_or_default_zero sorted i d (omega arith) in
        let ej = get_or_default_zero sorted j d within in
        rw ei (parted i j le within (rw ej at later))

    pub gap-from_point : (at : ℕ) → at ≤ length sorted
        → IsPartitionPoint (λ slot. is_before file bound (get_or held slot None) ≡ true) (λ slot. is_before file bound (get_or held slot None) ≡ false) sorted at
        → IsGap held sorted file bound at
    gap-from_point at inside point = record {
      inside = inside;
      before = λ i low. point.0 i 0 (omega arith) low;
      after = λ i from low. point.1 i 0 from low;
    }

  -- the slot of a page stands where the pages before it end
  pub found : (place : PagePlace) (at slot : ℕ) → IsGap held sorted place.file (Some place.index) at → slot < count → get_or held slot None ≡ Some place
      → (at < length sorted) × (get_or sorted at 0 ≡ slot)
  found place at slot gap low is =
      let it = s.every slot low (ap is_some is) in
      let there : held_at held sorted it.0 ≡ Some place = ap (λ n. get_or held n None) it.2 ∙ is in
      let not_before = not-before-itself (held_at held sorted it.0) place there in
      elim (cases_lt it.0 at) [
        | inl less ↦ absurd (let yes_before = gap.before it.0 less in cc)
        | inr from ↦ elim (cases_eq at it.0) [
          | inl e ↦ (subst (λ n. n < length sorted) (sym e) it.1, ap (λ n. get_or sorted n 0) e ∙ it.2)
          | inr n ↦ absurd (let within = it.1 in let yes_before = s.rises at it.0 place (omega arith) within there in let not_at = gap.after at (omega arith) (omega arith) in cc)
        ]
      ]

  -- a page that isn't held there is nowhere held
  pub absent : (file : List ℕ) (index at : ℕ) → IsGap held sorted file (Some index) at
      → (at < length sorted → holds_page file index (held_at held sorted at) ≡ false) → (slot : ℕ) → slot < count → holds_page file index (get_or held slot None) ≡ false
  absent file index at gap other slot low = by (holds_page file index (get_or held slot None)) refl
    where
      place : PagePlace
      place = record { file = file; index = index }

      by : (b : Bool) → holds_page file index (get_or held slot None) ≡ b → b ≡ false
      by false e = refl
      by true e = absurd (
          let f = found place at slot gap low (held-place place (get_or held slot None) e) in
          let here : holds_page file index (held_at held sorted at) ≡ true = ap (λ n. holds_page file index (get_or held n None)) f.1 ∙ e in
          let not_here = other f.0 in cc)

-- The same of lists that were read.
module _ {count : ℕ} (held held_read : List (Option PagePlace)) (sorted sorted_read : List ℕ) (s : IsSorted count held sorted) (is_held : held_read ≡ held) (is_sorted : sorted_read ≡ sorted) where
  -- the slot at a place
  pub slot-read : (at slot : ℕ) → at < length sorted_read → slot ≡ get_or sorted_read at slot → (slot < count) × (at < length sorted) × (get_or sorted at 0 ≡ slot)
  slot-read at slot within was =
      let inside : at < length sorted = rw is_sorted at within in
      let is : get_or sorted at 0 ≡ slot = get_or_default sorted at 0 slot inside ∙ ap (λ l. get_or l at slot) (sym is_sorted) ∙ sym was in
      (subst (λ n. n < count) is (s.low at inside), inside, is)

  module _ (seen : List (Option PagePlace)) (view : held ≡ seen) (file : List ℕ) (index at : ℕ) (gap : IsGap held_read sorted_read file (Some index) at) where
    absent-seen : (at < length sorted → holds_page file index (held_at held sorted at) ≡ false) → HoldsNone count (holds_page file index) seen
    absent-seen other slot low = subst (λ h. holds_page file index (get_or h slot None) ≡ false) view (absent held sorted s file index at (rw (is_held, is_sorted) at gap) other slot low)

    -- where none stands a page isn't held
    pub find-past : length sorted_read ≤ at → HoldsNone count (holds_page file index) seen
    find-past past = let end : length sorted ≤ at = rw is_sorted at past in absent-seen (λ within. absurd (omega arith))

    -- where another one stands
    pub find-other : (slot : ℕ) → at < length sorted_read → slot ≡ get_or sorted_read at slot → holds_page file index (get_or seen slot None) ≡ false
        → HoldsNone count (holds_page file index) seen
    find-other slot within was differs = absent-seen (λ inside.
        ap (λ n. holds_page file index (get_or held n None)) (slot-read at slot within was).2 ∙ subst (λ h. holds_page file index (get_or h slot None) ≡ false) (sym view) differs)

-- a slot is freed
module _ {count : ℕ} (held : List (Option PagePlace)) (sorted : List ℕ) (s : IsSorted count held sorted) (at slot : ℕ) (within : at < length sorted) (is : get_or sorted at 0 ≡ slot) where
  abbrev left : List ℕ
  left = remove sorted at

  abbrev without : List (Option PagePlace)
  without = set held slot None

  -- where an entry stood
  abbrev was : ℕ → ℕ
  was k = k + (1 - (at - k))

  length-left : length left + 1 ≡ length sorted
  length-left = length-remove sorted at within

  at-left : (k : ℕ) → get_or left k 0 ≡ get_or sorted (was k) 0
  at-left k = elim (cases_lt k at) [
    | inl low ↦ get_or-remove_below sorted at 0 k low within ∙ ap (λ n. get_or sorted n 0) (omega arith)
    | inr high ↦ get_or-remove_above sorted at 0 k high within ∙ ap (λ n. get_or sorted n 0) (omega arith)
  ]

  other : (i : ℕ) → i < length sorted → i ≢ at → get_or sorted i 0 ≢ slot
  other i low n same = elim (cases_lt i at) [
    | inl less ↦ apart held sorted s i at less within (same ∙ sym is)
    | inr from ↦ apart held sorted s at i (omega arith) low (is ∙ sym same)
  ]

  was-low : (k : ℕ) → k < length left → was k < length sorted
  was-low k low = omega (arith, length-left)

  held-left : (k : ℕ) → k < length left → held_at without left k ≡ held_at held sorted (was k)
  held-left k low = ap (λ n. get_or without n None) (at-left k) ∙ get_or-set_other held slot (get_or sorted (was k) 0) None None (other (was k) (was-low k low) (omega arith))

  slot-low : slot < length held
  slot-low = let h = subst (λ n. n < count) is (s.low at within) in let l = s.slots in omega arith

  every-left : (t : ℕ) → t < count → is_some (get_or without t None) ≡ true → (i : ℕ) × (i < length left) × (get_or left i 0 ≡ t)
  every-left t low h = elim (cases_eq t slot) [
    | inl e ↦ absurd (let none : get_or without t None ≡ None = ap (λ n. get_or without n None) e ∙ get_or-set_same held slot None None slot-low in let x = rw none at h in cc)
    | inr n ↦
        let it = s.every t low (ap is_some (sym (get_or-set_other held slot t None None n)) ∙ h) in
        let inside = it.1 in
        elim (cases_lt it.0 at) [
          | inl less ↦ (it.0, omega (arith, length-left), at-left it.0 ∙ ap (λ n. get_or sorted n 0) (omega arith) ∙ it.2)
          | inr from ↦ elim (cases_eq it.0 at) [
            | inl e ↦ absurd (n (sym it.2 ∙ ap (λ i. get_or sorted i 0) e ∙ is))
            | inr above ↦ (it.0 - 1, omega (arith, length-left), at-left (it.0 - 1) ∙ ap (λ n. get_or sorted n 0) (omega arith) ∙ it.2)
          ]
        ]
  ]

  pub sorted-without : IsSorted count without left
  sorted-without = record {
    slots = length-set held slot None ∙ s.slots;
    low = λ k h. subst (λ n. n < count) (sym (at-left k)) (s.low (was k) (was-low k h));
    holds = λ k h. ap is_some (held-left k h) ∙ s.holds (was k) (was-low k h);
    rises = λ i j p less h e. ap (is_before p.file (Some p.index)) (held-left i (omega arith)) ∙ s.rises (was i) (was j) p (omega arith) (was-low j h) (sym (held-left j h) ∙ e);
    every = every-left;
  }

-- a free slot takes a page
module _ {count : ℕ} (held : List (Option PagePlace)) (sorted : List ℕ) (s : IsSorted count held sorted) (at slot : ℕ) (place : PagePlace) (low : slot < count)
    (free : get_or held slot None ≡ None) (gap : IsGap held sorted place.file (Some place.index) at)
    (alone : (t : ℕ) → t < count → get_or held t None ≢ Some place) where
  abbrev more : List ℕ
  more = insert sorted at slot

  abbrev with_page : List (Option PagePlace)
  with_page = set held slot (Some place)

  abbrev old : ℕ → ℕ
  old k = k - (1 - (at - k))

  length-more : length more ≡ length sorted + 1
  length-more = length-insert sorted at slot gap.inside

  at-more : (k : ℕ) → k ≢ at → get_or more k 0 ≡ get_or sorted (old k) 0
  at-more k n = elim (cases_lt k at) [
    | inl less ↦ get_or-insert_below sorted at slot 0 k less gap.inside ∙ ap (λ i. get_or sorted i 0) (omega arith)
    | inr from ↦ ap (λ i. get_or more i 0) (omega arith) ∙ get_or-insert_above sorted at slot 0 (k - 1) (omega arith) gap.inside ∙ ap (λ i. get_or sorted i 0) (omega arith)
  ]

  at-place : get_or more at 0 ≡ slot
  at-place = get_or-insert_at sorted at slot 0 gap.inside

  not-slot : (i : ℕ) → i < length sorted → get_or sorted i 0 ≢ slot
  not-slot i within same = absurd (let none : held_at held sorted i ≡ None = ap (λ n. get_or held n None) same ∙ free in let h = rw none at (s.holds i within) in cc)

  old-low : (k : ℕ) → k ≢ at → k < length more → old k < length sorted
  old-low k n within = let inside = gap.inside in omega (arith, length-more)

  held-more : (k : ℕ) → k ≢ at → k < length more → held_at with_page more k ≡ held_at held sorted (old k)
  held-more k n within = ap (λ i. get_or with_page i None) (at-more k n) ∙ get_or-set_other held slot (get_or sorted (old k) 0) (Some place) None (not-slot (old k) (old-low k n within))

  held-new : held_at with_page more at ≡ Some place
  held-new = ap (λ i. get_or with_page i None) at-place ∙ get_or-set_same held slot (Some place) None (rw s.slots low)

  place-before : (i : ℕ) (p : PagePlace) → at ≤ i → i < length sorted → held_at held sorted i ≡ Some p → stands_before p.file (Some p.index) place ≡ true
  place-before i p from within is = by (stands_before p.file (Some p.index) place) refl
    where
      after : stands_before place.file (Some place.index) p ≡ false
      after = rw is at (gap.after i from within)

      by : (b : Bool) → stands_before p.file (Some p.index) place ≡ b → b ≡ true
      by true e = refl
      by false e = absurd (alone (get_or sorted i 0) (s.low i within) (is ∙ ap Some (sym (before-or place p e after))))

  rises-more : (i j : ℕ) (p : PagePlace) → i < j → j < length more → held_at with_page more j ≡ Some p → is_before p.file (Some p.index) (held_at with_page more i) ≡ true
  rises-more i j p less within is = elim (cases_eq j at) [
    | inl e ↦
        let same : place ≡ p = same_Some place p (sym held-new ∙ ap (held_at with_page more) (sym e) ∙ is) in
        subst (λ q. is_before q.file (Some q.index) (held_at with_page more i) ≡ true) same
        (ap (is_before place.file (Some place.index)) (held-more i (omega arith) (omega arith)) ∙ gap.before (old i) (omega arith))
    | inr n ↦
        let there : held_at held sorted (old j) ≡ Some p = sym (held-more j n within) ∙ is in
        elim (cases_eq i at) [
          | inl e ↦ ap (λ k. is_before p.file (Some p.index) (held_at with_page more k)) e ∙ ap (is_before p.file (Some p.index)) held-new
              ∙ place-before (old j) p (omega arith) (old-low j n within) there
          | inr m ↦ ap (is_before p.file (Some p.index)) (held-more i m (omega arith)) ∙ s.rises (old i) (old j) p (omega arith) (old-low j n within) there
        ]
  ]

  low-more : (k : ℕ) → k < length more → get_or more k 0 < count
  low-more k within = elim (cases_eq k at) [
    | inl e ↦ subst (λ n. n < count) (sym (ap (λ i. get_or more i 0) e ∙ at-place)) low
    | inr n ↦ subst (λ n. n < count) (sym (at-more k n)) (s.low (old k) (old-low k n within))
  ]

  holds-more : (k : ℕ) → k < length more → is_some (held_at with_page more k) ≡ true
  holds-more k within = elim (cases_eq k at) [
    | inl e ↦ ap (λ i. is_some (held_at with_page more i)) e ∙ ap is_some held-new
    | inr n ↦ ap is_some (held-more k n within) ∙ s.holds (old k) (old-low k n within)
  ]

  every-more : (t : ℕ) → t < count → is_some (get_or with_page t None) ≡ true → (i : ℕ) × (i < length more) × (get_or more i 0 ≡ t)
  every-more t small h = elim (cases_eq t slot) [
    | inl e ↦ let inside = gap.inside in (at, omega (arith, length-more), at-place ∙ sym e)
    | inr n ↦
        let it = s.every t small (ap is_some (sym (get_or-set_other held slot t (Some place) None n)) ∙ h) in
        let inside = it.1 in
        elim (cases_lt it.0 at) [
          | inl less ↦ (it.0, omega (arith, length-more), at-more it.0 (omega arith) ∙ ap (λ i. get_or sorted i 0) (omega arith) ∙ it.2)
          | inr from ↦ (it.0 + 1, omega (arith, length-more), at-more (it.0 + 1) (omega arith) ∙ ap (λ i. get_or sorted i 0) (omega arith) ∙ it.2)
        ]
  ]

  pub sorted-with : IsSorted count with_page more
  sorted-with = record {
    slots = length-set held slot (Some place) ∙ s.slots;
    low = low-more;
    holds = holds-more;
    rises = rises-more;
    every = every-more;
  }

-- where each entry is below a bound, what is found is
below : (count : ℕ) (xs : List ℕ) → ((i : ℕ) → i < length xs → get_or xs i 0 < count) → (q : ℕ) → list_any (nat_eq q) xs ≡ true → q < count
below count [] all q any = cc
below count (x ∷ xs) all q any = by (nat_eq q x) refl any (λ h. below count xs (λ i low. all (suc i) (omega arith)) q h)
  where
    by : (b : Bool) → nat_eq q x ≡ b → (b || list_any (nat_eq q) xs) ≡ true → (list_any (nat_eq q) xs ≡ true → q < count) → q < count
    by true t h rest = subst (λ n. n < count) (sym (eqb-true q x t)) (all 0 (omega arith))
    by false t h rest = rest h

-- no more slots than there are
module _ {count : ℕ} (held : List (Option PagePlace)) (sorted : List ℕ) (s : IsSorted count held sorted) where
  eqb-apart : (m n : ℕ) → m ≢ n → nat_eq m n ≡ false
  eqb-apart m n other = grind (arith, nat_tests)

  pub at-most : length sorted ≤ count
  at-most = length-le_from_distinct_below sorted count
      (IsDistinct-from_apart nat_eq sorted (λ i j d less within. eqb-apart (get_or sorted i d) (get_or sorted j d)
      (λ same. apart held sorted s i j less within (sym (get_or_default_zero sorted i d (omega arith)) ∙ same ∙ get_or_default_zero sorted j d within))))
      (λ q any. below count sorted s.low q any)

-- where every slot is free none is in the order
pub sorted-none : (count : ℕ) (held : List (Option PagePlace)) → held ≡ replicate count None → IsSorted count held []
sorted-none count held free = record {
  slots = ap length free ∙ length-replicate {A = Option PagePlace} count None;
  low = λ i within. absurd (omega arith);
  holds = λ i within. absurd (omega arith);
  rises = λ i j place less within is. absurd (omega arith);
  every = λ slot low some. absurd (let none : get_or held slot None ≡ None = ap (λ l. get_or l slot None) free ∙ get_or-replicate {A = Option PagePlace} count slot None None low in let h = rw none at some in cc);
}

-- once a slot is free its page is nowhere held
pub alone-freed : {count : ℕ} (held : List (Option PagePlace)) (slot : ℕ) (place : PagePlace) → slot < length held → ((t : ℕ) → t < count → get_or held t None ≡ Some place → t ≡ slot)
    → (t : ℕ) → t < count → get_or (set held slot None) t None ≢ Some place
alone-freed held slot place low alone t small is = elim (cases_eq t slot) [
  | inl e ↦ absurd (let none : get_or (set held slot None) t None ≡ None = ap (λ n. get_or (set held slot None) n None) e ∙ get_or-set_same held slot None None low in cc)
  | inr n ↦ absurd (n (alone t small (sym (get_or-set_other held slot t None None n) ∙ is)))
]

pub set-twice : {A : Type 0} (xs : List A) (i : ℕ) (a b : A) → set (set xs i a) i b ≡ set xs i b
set-twice [] i a b = refl
set-twice (x ∷ xs) zero a b = refl
set-twice (x ∷ xs) (suc i) a b = ap (λ l. x ∷ l) (set-twice xs i a b)
