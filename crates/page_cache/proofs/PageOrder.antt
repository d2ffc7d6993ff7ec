-- The order of pages: by the bytes of the file, then by the page's number.
use Rattle.std.proofs.Common.{◌≡◌, ◌≤◌, ℕ, Bool, true, false, not, ◌&&◌, nat_eq, nat_lt, List, Option, Some, None, is_some, refl, sym, ap, ◌∙◌, arith, if◌then◌else◌}
use Rattle.std.proofs.lemmas.Bool.Decides.{nat_tests}
use Rattle.std.specs.Prelude.{IfSome}
use Rattle.std.specs.Option.{option_map_or}
use Rattle.std.specs.Ordering.{nat_cmp, is_eq, ordering_reverse}
use Rattle.std.specs.declared.cmp.Ordering.{Ordering}
use Rattle.std.specs.declared.cmp.Ordering.TheVariants.{Less, Equal, Greater}
use Rattle.std.specs.Cmp.Lexicographic.{slice_cmp, pointwise, nat_list_cmp_total, texts_ties}
use Rattle.std.proofs.lemmas.Cmp.{tied_itself, alike_right}
use Rattle.page_cache.specs.declared.place.PagePlace.{PagePlace}
use Rattle.page_cache.specs.Slots.{index_in}
use Rattle.page_cache.specs.Sorted.{is_below, before_by, stands_before, is_before, is_within}
use Rattle.page_cache.proofs.Shown.{same_place}

abbrev pub files : List ℕ → List ℕ → Ordering
files f g = slice_cmp nat_cmp f g

-- no page stands before itself
pub before-itself : (p : PagePlace) → stands_before p.file (Some p.index) p ≡ false
before-itself p = rw (tied_itself nat_list_cmp_total p.file) (below-itself p.index)
  where
    below-itself : (n : ℕ) → nat_lt n n ≡ false
    below-itself n = grind (arith, nat_tests)

-- what stands before a page stands before what the page stands before
pub before-then : (p q : PagePlace) (file : List ℕ) (bound : Option ℕ) → stands_before q.file (Some q.index) p ≡ true → stands_before file bound q ≡ true → stands_before file bound p ≡ true
before-then p q file bound first then_ = by (files p.file q.file) (files q.file file) refl refl first then_
  where
    numbers : (m n : ℕ) (b : Option ℕ) → nat_lt m n ≡ true → is_below n b ≡ true → is_below m b ≡ true
    numbers m n None low next = refl
    numbers m n (Some b) low next = grind (arith, nat_tests)

    by : (a b : Ordering) → files p.file q.file ≡ a → files q.file file ≡ b
        → before_by a (nat_lt p.index q.index) ≡ true → before_by b (is_below q.index bound) ≡ true → before_by (files p.file file) (is_below p.index bound) ≡ true
    by Less Less ea eb x y = rw (nat_list_cmp_total.trans p.file q.file file ea eb) refl
    by Less Equal ea eb x y = rw (sym (alike_right nat_list_cmp_total q.file file p.file eb) ∙ ea) refl
    by Less Greater ea eb x y = cc
    by Equal Less ea eb x y = rw (nat_list_cmp_total.congr p.file q.file file ea ∙ eb) refl
    by Equal Equal ea eb x y = rw (nat_list_cmp_total.congr p.file q.file file ea ∙ eb) (numbers p.index q.index bound x y)
    by Equal Greater ea eb x y = cc
    by Greater b ea eb x y = cc

pub tied-files : (f g : List ℕ) → files f g ≡ Equal → pointwise nat_eq f g ≡ true
tied-files f g e = texts_ties f g ∙ ap is_eq e

-- of two pages one stands before the other, or they are one
pub before-or : (p q : PagePlace) → stands_before q.file (Some q.index) p ≡ false → stands_before p.file (Some p.index) q ≡ false → p ≡ q
before-or p q one other = by (files p.file q.file) refl one (rw (nat_list_cmp_total.antisymm q.file p.file) at other)
  where
    same_number : (m n : ℕ) → nat_lt m n ≡ false → nat_lt n m ≡ false → nat_eq m n ≡ true
    same_number m n a b = grind (arith, nat_tests)

    by : (o : Ordering) → files p.file q.file ≡ o → before_by o (nat_lt p.index q.index) ≡ false → before_by (ordering_reverse (files p.file q.file)) (nat_lt q.index p.index) ≡ false → p ≡ q
    by Less e x y = cc
    by Equal e x y = same_place q.file q.index p (rw (same_number p.index q.index x (rw e at y), tied-files p.file q.file e) refl)
    by Greater e x y = absurd (let h = rw e at y in cc)

-- a file's pages with numbers from one on and below another are those that don't stand before the first, and before the other
pub in-file : (file : List ℕ) (low : ℕ) (high : Option ℕ) (p : PagePlace) → stands_before file (Some low) p ≡ false → stands_before file high p ≡ true
    → is_within file low high (Some p) ≡ true
in-file file low high p late early = by (files p.file file) refl late early
  where
    by : (o : Ordering) → files p.file file ≡ o → before_by o (nat_lt p.index low) ≡ false → before_by o (is_below p.index high) ≡ true → is_within file low high (Some p) ≡ true
    by Less e x y = cc
    by Equal e x y = rw (tied-files p.file file e, x, y) refl
    by Greater e x y = cc

tied : (o : Ordering) → true ≡ is_eq o → o ≡ Equal
tied Less h = cc
tied Equal h = refl
tied Greater h = cc

pub of-file : (file : List ℕ) (p : PagePlace) → pointwise nat_eq p.file file ≡ true → files p.file file ≡ Equal
of-file file p same = tied (files p.file file) (sym same ∙ texts_ties p.file file)

-- what stands before the first of these pages stands before their end
pub starts-ends : (file : List ℕ) (low : ℕ) (high : Option ℕ) (p : PagePlace) → IfSome high (λ h. low ≤ h) → stands_before file (Some low) p ≡ true → stands_before file high p ≡ true
starts-ends file low high p ordered early = by (files p.file file) early
  where
    numbers : (o : Option ℕ) → IfSome o (λ h. low ≤ h) → nat_lt p.index low ≡ true → is_below p.index o ≡ true
    numbers None le less = refl
    numbers (Some h) le less = grind (arith, nat_tests)

    by : (o : Ordering) → before_by o (nat_lt p.index low) ≡ true → before_by o (is_below p.index high) ≡ true
    by Less x = refl
    by Equal x = numbers high ordered x
    by Greater x = cc

-- which of the pages that a slot may hold are these
pub in-file-held : (file : List ℕ) (low : ℕ) (high : Option ℕ) (held : Option PagePlace) (p : PagePlace) → held ≡ Some p → is_before file (Some low) held ≡ false → is_before file high held ≡ true
    → is_within file low high held ≡ true
in-file-held file low high held p is late early = rw is (in-file file low high p (rw is at late) (rw is at early))

module _ (file : List ℕ) (low : ℕ) (high : Option ℕ) (p : PagePlace) where
  abbrev numbered : Bool → Bool
  numbered b = option_map_or (λ index. not (nat_lt index low) && is_below index high) (if b then Some p.index else None) false

  -- what being one of these pages says
  within-parts : is_within file low high (Some p) ≡ true → (pointwise nat_eq p.file file ≡ true) × (nat_lt p.index low ≡ false) × (is_below p.index high ≡ true)
  within-parts h = by (pointwise nat_eq p.file file) h
    where
      numbers : (a b : Bool) → (not a && b) ≡ true → (a ≡ false) × (b ≡ true)
      numbers true b h = cc
      numbers false b h = (refl, h)

      by : (b : Bool) → numbered b ≡ true → (b ≡ true) × (nat_lt p.index low ≡ false) × (is_below p.index high ≡ true)
      by true h = let n = numbers (nat_lt p.index low) (is_below p.index high) h in (refl, n.0, n.1)
      by false h = cc

pub file-starts-held : (file : List ℕ) (low : ℕ) (high : Option ℕ) (held : Option PagePlace) → is_within file low high held ≡ true → is_before file (Some low) held ≡ false
file-starts-held file low high None h = refl
file-starts-held file low high (Some p) h = let w = within-parts file low high p h in rw (of-file file p w.0) w.1

pub file-ends-held : (file : List ℕ) (low : ℕ) (high : Option ℕ) (held : Option PagePlace) → is_within file low high held ≡ true → is_before file high held ≡ true
file-ends-held file low high None h = cc
file-ends-held file low high (Some p) h = let w = within-parts file low high p h in rw (of-file file p w.0) w.2

-- all of a file's pages
pub within-all : (file : List ℕ) (held : Option PagePlace) → is_within file 0 None held ≡ is_some (index_in file held)
within-all file None = refl
within-all file (Some p) = by (pointwise nat_eq p.file file)
  where
    none-below : (n : ℕ) → nat_lt n 0 ≡ false
    none-below n = grind (arith, nat_tests)

    by : (b : Bool) → option_map_or (λ index. not (nat_lt index 0) && is_below index None) (if b then Some p.index else None) false ≡ is_some (if b then Some p.index else None)
    by true = rw (none-below p.index) refl
    by false = refl
