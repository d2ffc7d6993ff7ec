-- Where no page of a file is kept from one on.
use Rattle.std.proofs.Common.{◌≡◌, ◌<◌, ◌≤◌, ℕ, Bool, true, false, cond, ◌&&◌, nat_eq, List, [], ◌∷◌, length, Option, Some, None, refl, sym, ap, ◌∙◌, arith}
use Rattle.std.specs.Bool.{OnFalse}
use Rattle.std.specs.Option.{option_map, option_map_or}
use Rattle.std.specs.Map.{lookup, lookup_entry, remove_entry}
use Rattle.std.specs.declared.cmp.Ordering.{Ordering}
use Rattle.std.specs.declared.cmp.Ordering.TheVariants.{Less, Equal, Greater}
use Rattle.std.specs.Cmp.Lexicographic.{pointwise}
use Rattle.std.proofs.lemmas.Bool.{lt-ltb}
use Rattle.page_cache.specs.declared.place.PagePlace.{PagePlace}
use Rattle.page_cache.specs.Pages.{Pages, is_place, page_of, after_page}
use Rattle.page_cache.specs.Slots.{holds_page, shown, HoldsNone, IsSound}
use Rattle.page_cache.specs.Sorted.{before_by, is_below, stands_before, is_before, held_at, is_of_file, is_of_file_at, IsSorted, IsGap}
use Rattle.page_cache.proofs.PageOrder.{files, starts-ends, tied-files}
use Rattle.page_cache.proofs.Showing.{lookup-none}
use Rattle.page_cache.proofs.SortedSlots.{page-at, parted, absent}

-- another file's page that doesn't stand before one of a file stands before none of it
other-late : (file : List ℕ) (low high : Option ℕ) (p : PagePlace) → pointwise nat_eq p.file file ≡ false → stands_before file low p ≡ false → stands_before file high p ≡ false
other-late file low high p other late = by (files p.file file) refl late
  where
    by : (o : Ordering) → files p.file file ≡ o → before_by o (is_below p.index low) ≡ false → before_by (files p.file file) (is_below p.index high) ≡ false
    by Less e x = cc
    by Equal e x = absurd (let same = tied-files p.file file e in cc)
    by Greater e x = rw e refl

-- no file's page is a page of it
other-page : (file : List ℕ) (index : ℕ) (held : Option PagePlace) → is_of_file file held ≡ false → holds_page file index held ≡ false
other-page file index None other = refl
other-page file index (Some p) other = ap (λ (b : Bool). nat_eq p.index index && b) other ∙ none (nat_eq p.index index)
  where
    none : (b : Bool) → (b && false) ≡ false
    none true = refl
    none false = refl

module _ {count : ℕ} (held : List (Option PagePlace)) (sorted : List ℕ) (s : IsSorted count held sorted) (file : List ℕ) (low at : ℕ) (gap : IsGap held sorted file (Some low) at)
    (none : at < length sorted → is_of_file file (held_at held sorted at) ≡ false) where
  -- the same gap is that of each later page
  late : (index : ℕ) → at < length sorted → is_before file (Some index) (held_at held sorted at) ≡ false
  late index within =
      let p = page-at held sorted s at within in
      let other : pointwise nat_eq p.0.file file ≡ false = rw p.1 at (none within) in
      rw p.1 (other-late file (Some low) (Some index) p.0 other (rw p.1 at (gap.after at (omega arith) within)))

  later-gap : (index : ℕ) → low ≤ index → IsGap held sorted file (Some index) at
  later-gap index le = record {
    inside = gap.inside;
    before = λ i less.
        let inside = gap.inside in
        let p = page-at held sorted s i (omega arith) in
        rw p.1 (starts-ends file low (Some index) p.0 le (rw p.1 at (gap.before i less)));
    after = λ i from within. by i from within (is_before file (Some index) (held_at held sorted i)) refl;
  }
    where
      by : (i : ℕ) → at ≤ i → i < length sorted → (b : Bool) → is_before file (Some index) (held_at held sorted i) ≡ b → b ≡ false
      by i from within false e = refl
      by i from within true e = absurd (let early = parted held sorted s file (Some index) at i from within e in let not_early = late index (omega arith) in cc)

  none-held : (index : ℕ) → low ≤ index → HoldsNone count (holds_page file index) held
  none-held index le slot small = absent held sorted s file index at (later-gap index le) (λ within. other-page file index (held_at held sorted at) (none within)) slot small

pub none-later : {count : ℕ} (held : List (Option PagePlace)) (sorted : List ℕ) (s : IsSorted count held sorted) (file : List ℕ) (low at : ℕ) → IsGap held sorted file (Some low) at
    → (result : Bool) → result ≡ is_of_file_at file held sorted at → OnFalse result ((index : ℕ) → low ≤ index → HoldsNone count (holds_page file index) held)
none-later held sorted s file low at gap true is = tt
none-later held sorted s file low at gap false is = none-held held sorted s file low at gap
    (λ within. ap (λ (b : Bool). b && is_of_file file (held_at held sorted at)) (sym (lt-ltb at (length sorted) within)) ∙ sym is)

-- so none is kept
pub none-shown : {V : Type 0} {count : ℕ} (order : List (ℕ × V)) (held : List (Option PagePlace)) (pages : List (List ℕ)) → IsSound count order held pages → (file : List ℕ) (low : ℕ)
    → (result : Bool) → OnFalse result ((index : ℕ) → low ≤ index → HoldsNone count (holds_page file index) held)
    → OnFalse result ((index : ℕ) → low ≤ index → lookup (is_place file index) (shown order held pages) ≡ None)
none-shown order held pages sound file low true h = tt
none-shown order held pages sound file low false h = λ index le. sym (lookup-none order held pages sound file index (h index le))

-- to look at a page that isn't kept changes nothing
entry-none : (test : PagePlace → Bool) (pages : List (PagePlace × List ℕ)) → lookup test pages ≡ None → lookup_entry test pages ≡ None
entry-none test [] e = refl
entry-none test (p ∷ pages) e =
    let rest = entry-none test pages in
    elim (test p.0) as (λ (b : Bool). cond b (Some p.1) (lookup test pages) ≡ None → cond b (Some p) (lookup_entry test pages) ≡ None) [
      | true ↦ λ h. cc
      | false ↦ λ h. rest h
    ] e

pub unkept : (file : List ℕ) (index : ℕ) (c : Pages) → page_of file index c ≡ None → after_page file index c ≡ c
unkept file index c none =
    ap (λ (o : Option (PagePlace × List ℕ)). record c { pages = option_map_or (λ e. e ∷ remove_entry (is_place file index) c.pages) o c.pages }) (entry-none (is_place file index) c.pages none)
