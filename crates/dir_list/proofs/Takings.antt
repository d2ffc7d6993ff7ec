-- A page is taken entry by entry.
use Rattle.std.proofs.Common.{◌≡◌, ◌≢◌, ◌⊎◌, ◌≤◌, ◌<◌, ℕ, ◌+◌, List, [], ◌∷◌, ◌++◌, length, take, Option, Some, None, Bool, true, false, cond, Result, Ok, Err, IfOk, IfErr, OnErr, nat_lt, refl, sym, ap, subst, ◌∙◌, inl, inr, arith, append-nil, append_assoc, length-append}
use Rattle.std.specs.Prelude.{map, filter}
use Rattle.std.proofs.Math.Seq.{take-append_seam}
use Rattle.std.proofs.lemmas.Bool.{lt-ltb, le-ltb}
use Rattle.std.proofs.lemmas.List.{map-append}
use Rattle.std.proofs.lemmas.List.Elements.{filter-append}
use Rattle.nfs_types.specs.declared.verf.Verf.{Verf}
use Rattle.nfs_dir_calls.specs.declared.plus_page.PlusRow.{PlusRow}
use Rattle.dir_list.specs.declared.progress.ListStep.{ListStep}
use Rattle.dir_list.specs.declared.progress.ListStep.TheVariants.{More, End}
use Rattle.dir_list.specs.declared.progress.ListFault.{ListFault}
use Rattle.dir_list.specs.declared.progress.ListFault.TheVariants.{Many, Memory}
use Rattle.dir_list.specs.Listings.{listing_limit, counts, counted, last_cookie, page_step}
use Rattle.dir_list.specs.Taking.{counted_name, last_of, Taking, Took, IsOver, BeginsWith, next_step}

pub is_limit : (n : ℕ) → n ≡ 65536 → n ≡ listing_limit
unfolding listing_limit
is_limit n h = h

-- one more has room below the limit
pub room : (old new : List (List ℕ)) (name : List ℕ) → new ≡ old ++ name ∷ [] → length old ≤ listing_limit → length old ≢ 65536 → length new ≤ listing_limit
unfolding listing_limit
room old new name is fits other =
    let one = ap length is ∙ length-append old (name ∷ []) in
    omega (arith, one, fits, other)

counted-one : (row : PlusRow) (b : Bool) → counts row.name ≡ b → counted (row ∷ []) ≡ counted_name row.name
unfolding counted
counted-one row true is = rw is refl
counted-one row false is = rw is refl

counted-append : (front back : List PlusRow) → counted (front ++ back) ≡ counted front ++ counted back
unfolding counted
counted-append front back = ap (filter counts) (map-append (λ row. row.name) front back) ∙ filter-append counts (map (λ row. row.name) front) (map (λ row. row.name) back)

last_of-append : (rows : List PlusRow) (row : PlusRow) → last_of (rows ++ row ∷ []) ≡ Some row.cookie
last_of-append [] row = refl
last_of-append (first ∷ rows) row = ap Some (last first rows)
  where
    last : (first : PlusRow) (rows : List PlusRow) → last_cookie first (rows ++ row ∷ []) ≡ row.cookie
    last first [] = refl
    last first (next ∷ rows) = last next rows

pub at_start : (before : List (List ℕ)) (all : List PlusRow) → length before ≤ listing_limit → Taking before all before None all
unfolding counted
at_start before all fits = record { taken = []; is = refl; named = sym (append-nil before); fits = fits; cookie = refl }

pub after_row : (before : List (List ℕ)) (all : List PlusRow) (names more : List (List ℕ)) (last : Option ℕ) (row : PlusRow) (left : List PlusRow) → Taking before all names last (row ∷ left) → more ≡ names ++ counted_name row.name → length more ≤ listing_limit → Taking before all more (Some row.cookie) left
after_row before all names more last row left t is fits = record {
  taken = t.taken ++ row ∷ [];
  is = t.is ∙ sym (append_assoc t.taken (row ∷ []) left);
  named = is ∙ rw (t.named, counted-append t.taken (row ∷ []), counted-one row _ refl) (append_assoc before (counted t.taken) (counted_name row.name));
  fits = fits;
  cookie = sym (last_of-append t.taken row);
}

pub at_end : (before : List (List ℕ)) (all : List PlusRow) (names : List (List ℕ)) (last : Option ℕ) → Taking before all names last [] → Took before all names last
at_end before all names last t =
    let all_taken : t.taken ≡ all = sym (t.is ∙ append-nil t.taken) in
    record { named = rw (← all_taken) t.named; fits = t.fits; cookie = rw (← all_taken) t.cookie }

pub too_many : (before : List (List ℕ)) (all : List PlusRow) (names : List (List ℕ)) (last : Option ℕ) (row : PlusRow) (left : List PlusRow) → Taking before all names last (row ∷ left) → length names ≡ listing_limit → counts row.name ≡ true → IsOver before all
too_many before all names last row left t full counts_it =
    let here : length (counted (row ∷ [])) ≡ 1 = rw (counted-one row true counts_it, counts_it) refl in
    let front = counted-append t.taken (row ∷ left) in
    let back = counted-append (row ∷ []) left in
    let named : length names ≡ length before + length (counted t.taken) = ap length t.named ∙ length-append before (counted t.taken) in
    let whole : length (counted all) ≡ length (counted t.taken) + (length (counted (row ∷ [])) + length (counted left)) =
    ap (λ rows. length (counted rows)) t.is ∙ ap length front ∙ length-append _ _ ∙ ap (λ n. length (counted t.taken) + n) (ap length back ∙ length-append _ _) in
    omega (arith, here, named, whole, full)

pub begins : (before : List (List ℕ)) (all : List PlusRow) (names : List (List ℕ)) (last : Option ℕ) (left : List PlusRow) → Taking before all names last left → BeginsWith before names
begins before all names last left t = record { rest = counted t.taken; is = t.named }

-- what was there before is there again once the rest is cut off
pub cut : (before names : List (List ℕ)) → BeginsWith before names → take (length before) names ≡ before
cut before names b = rw b.is (take-append_seam before b.rest)

-- a page that was taken
pub taken_step : (before : List (List ℕ)) (all : List PlusRow) (names : List (List ℕ)) (last : Option ℕ) (verf : Verf) (eof : Bool) → Took before all names last → page_step before all verf eof ≡ next_step last verf eof
unfolding page_step
taken_step before [] names last verf true t = refl
taken_step before [] names last verf false t = rw t.cookie refl
taken_step before (row ∷ rows) names last verf eof t =
    let named = ap length t.named ∙ length-append before (counted (row ∷ rows)) in
    let fits = t.fits in
    let few : nat_lt listing_limit (length before + length (counted (row ∷ rows))) ≡ false = le-ltb _ _ (omega (arith, named, fits)) in
    rw (few, t.cookie) (by_end eof)
  where
    by_end : (eof : Bool) → cond eof (Ok End) (Ok (More (last_cookie row rows) verf)) ≡ next_step (Some (last_cookie row rows)) verf eof
    by_end true = refl
    by_end false = refl

-- a page that is too much
pub over_step : (before : List (List ℕ)) (all : List PlusRow) (verf : Verf) (eof : Bool) → length before ≤ listing_limit → IsOver before all → page_step before all verf eof ≡ Err Many
unfolding page_step counted
over_step before [] verf eof fits over = absurd (omega (arith, fits, over))
over_step before (row ∷ rows) verf eof fits over = rw (lt-ltb _ _ over) refl

-- an answer that is the page's
pub told_ok : (r p : Result ListStep ListFault) → r ≡ p → IfOk r (λ step. p ≡ Ok step)
told_ok (Ok step) p is = sym is
told_ok (Err fault) p is = tt

pub told_fault : (r p : Result ListStep ListFault) → r ≡ p → IfErr r (λ fault. (fault ≡ Memory) ⊎ (p ≡ Err fault))
told_fault (Ok step) p is = tt
told_fault (Err fault) p is = inr (sym is)

on_err : (r : Result ListStep ListFault) (P : Type 0) → P → OnErr r P
on_err (Ok step) P p = tt
on_err (Err fault) P p = p

-- a page that has no entry leaves the names
pub stuck_keeps : (before : List (List ℕ)) (all : List PlusRow) (names : List (List ℕ)) (last : Option ℕ) (verf : Verf) (eof : Bool) (r : Result ListStep ListFault) → Took before all names last → r ≡ next_step last verf eof → OnErr r (names ≡ before)
unfolding counted
stuck_keeps before [] names last verf eof r t is = on_err r _ (t.named ∙ append-nil before)
stuck_keeps before (row ∷ rows) names last verf eof r t is = rw (is, t.cookie) (by_end eof)
  where
    by_end : (eof : Bool) → OnErr (next_step (Some (last_cookie row rows)) verf eof) (names ≡ before)
    by_end true = tt
    by_end false = tt

-- a fault of a page
pub fault_told : (before : List (List ℕ)) (all : List PlusRow) (verf : Verf) (eof : Bool) (fault : ListFault) → length before ≤ listing_limit → (fault ≡ Memory) ⊎ ((fault ≡ Many) × IsOver before all) → (fault ≡ Memory) ⊎ (page_step before all verf eof ≡ Err fault)
fault_told before all verf eof fault fits (inl memory) = inl memory
fault_told before all verf eof fault fits (inr many) = inr (over_step before all verf eof fits many.1 ∙ ap Err (sym many.0))

-- a fault of an entry
pub fault_found : (before : List (List ℕ)) (all : List PlusRow) (names : List (List ℕ)) (last : Option ℕ) (row : PlusRow) (left : List PlusRow) (fault : ListFault) → Taking before all names last (row ∷ left) → (fault ≡ Memory) ⊎ ((fault ≡ Many) × (length names ≡ listing_limit) × (counts row.name ≡ true)) → (fault ≡ Memory) ⊎ ((fault ≡ Many) × IsOver before all)
fault_found before all names last row left fault t (inl memory) = inl memory
fault_found before all names last row left fault t (inr many) = inr (many.0, too_many before all names last row left t many.1 many.2)
