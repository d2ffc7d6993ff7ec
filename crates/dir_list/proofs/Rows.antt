-- Rows by hand: what the pages of a listing lead to, and the names that count (RFC 1813, section 3.3.17).
use Rattle.std.proofs.Common.{◌≡◌, ℕ, suc, zero, true, false, List, [], ◌∷◌, ◌++◌, Ok, Err, None, refl}
use Rattle.nfs_types.specs.declared.verf.Verf.{Verf}
use Rattle.nfs_dir_calls.specs.declared.plus_page.PlusRow.{PlusRow}
use Rattle.dir_list.specs.declared.progress.ListStep.TheVariants.{More, End}
use Rattle.dir_list.specs.declared.progress.ListFault.TheVariants.{Many, Stuck}
use Rattle.dir_list.specs.Listings.{listing_limit, counts, counted, page_step}

-- an entry of a page
abbrev entry : List ℕ → ℕ → PlusRow
entry name cookie = record { fileid = 9; name = name; cookie = cookie; attr = None; found = None }

abbrev dot : List ℕ
dot = 46 ∷ []

abbrev dot_dot : List ℕ
dot_dot = 46 ∷ 46 ∷ []

abbrev three_dots : List ℕ
three_dots = 46 ∷ 46 ∷ 46 ∷ []

-- the names a and b
abbrev a : List ℕ
a = 97 ∷ []

abbrev b : List ℕ
b = 98 ∷ []

-- ---- `.` and `..` don't count, and a name that stands twice counts twice

only_dots : counted (entry dot 1 ∷ entry dot_dot 2 ∷ []) ≡ []
unfolding counted counts
only_dots = refl

others_count : counted (entry b 3 ∷ entry three_dots 4 ∷ entry dot 5 ∷ entry b 6 ∷ []) ≡ b ∷ three_dots ∷ b ∷ []
unfolding counted counts
others_count = refl

-- ---- a listing goes on from the last cookie of a page, also where none of its names counts

goes_on : (verf : Verf) → page_step [] (entry dot 1 ∷ entry dot_dot 2 ∷ []) verf false ≡ Ok (More 2 verf)
unfolding page_step counted counts listing_limit
goes_on verf = refl

last_page : (verf : Verf) → page_step (b ∷ []) (entry b 6 ∷ entry a 7 ∷ []) verf true ≡ Ok End
unfolding page_step counted counts listing_limit
last_page verf = refl

-- ---- a page without entries is the last one, or leads nowhere

stuck : (verf : Verf) → page_step (b ∷ []) [] verf false ≡ Err Stuck
unfolding page_step
stuck verf = refl

empty_last_page : (verf : Verf) → page_step (b ∷ []) [] verf true ≡ Ok End
unfolding page_step
empty_last_page verf = refl
