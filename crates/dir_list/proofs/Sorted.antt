-- Names that are sorted and then lose their repeats are a listing.
use Rattle.std.proofs.Common.{◌≡◌, ℕ, List, [], true, IsPermutation, IsSorted, sym, subst, ◌∙◌}
use Rattle.std.specs.Prelude.{nat_eq}
use Rattle.std.specs.List.{dedup}
use Rattle.std.specs.List.Retain.{IsFiltered, DiffersFromLast}
use Rattle.std.specs.Ordering.{nat_cmp, eq_by_cmp}
use Rattle.std.specs.Cmp.{Equal-is}
use Rattle.std.specs.Cmp.Lexicographic.{pointwise, slice_cmp, nat_list_cmp_total, nat_list_eq_equiv, texts_ties}
use Rattle.std.proofs.lemmas.List.Filters.{dedup_is}
use Rattle.std.proofs.lemmas.List.Kept.{IsStrictlySortedBy-dedup, Contains-dedup, Contains-from_dedup}
use Rattle.std.proofs.lemmas.List.Sorted.{Contains-permutation, IsPermutation-sym}
use Rattle.std.proofs.lemmas.Map.Lookups.{exact_bytes}
use Rattle.dir_list.specs.Listings.{Lists}

same_name : (x y : List ℕ) → pointwise nat_eq x y ≡ true → x ≡ y
same_name x y h = exact_bytes x y ((Equal-is (slice_cmp nat_cmp x y)).0 (sym (texts_ties x y) ∙ h))

-- a list without its repeats
once : (counts sorted : List (List ℕ)) → IsPermutation counts sorted → IsSorted (slice_cmp nat_cmp) sorted → Lists counts (dedup (pointwise nat_eq) sorted)
once counts sorted all order = record {
  ordered = IsStrictlySortedBy-dedup nat_list_cmp_total texts_ties sorted order;
  same = λ name. (
    (λ has. Contains-permutation sorted counts name (IsPermutation-sym _ _ all) (Contains-from_dedup (pointwise nat_eq) sorted name has)),
    (λ has. Contains-dedup nat_list_eq_equiv same_name sorted name (Contains-permutation counts sorted name all has)),
  );
}

pub lists : (counts sorted names : List (List ℕ)) → IsPermutation counts sorted → IsSorted (slice_cmp nat_cmp) sorted → IsFiltered (DiffersFromLast (pointwise nat_eq)) [] sorted names → Lists counts names
lists counts sorted names all order kept = subst (Lists counts) (sym (dedup_is (pointwise nat_eq) sorted names kept)) (once counts sorted all order)
