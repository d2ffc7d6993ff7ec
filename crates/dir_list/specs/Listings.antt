-- What the pages of READDIRPLUS make up (RFC 1813, section 3.3.17), but for `.` and `..`, which every directory has.
use Rattle.std.specs.Prelude.{◌≡◌, ◌↔◌, ℕ, ◌+◌, List, [], ◌∷◌, length, map, filter, Bool, true, false, not, ◌||◌, nat_lt, nat_eq, Result, Ok, Err, if◌then◌else◌, Contains}
use Rattle.std.specs.Ordering.{nat_cmp}
use Rattle.std.specs.Cmp.Lexicographic.{pointwise, slice_cmp}
use Rattle.std.specs.List.Sorted.{IsStrictlySortedBy}
use Rattle.nfs_types.specs.declared.verf.Verf.{Verf}
use Rattle.nfs_dir_calls.specs.declared.plus_page.PlusRow.{PlusRow}
use Rattle.dir_list.specs.declared.progress.ListStep.{ListStep}
use Rattle.dir_list.specs.declared.progress.ListStep.TheVariants.{More, End}
use Rattle.dir_list.specs.declared.progress.ListFault.{ListFault}
use Rattle.dir_list.specs.declared.progress.ListFault.TheVariants.{Many, Stuck}

-- how many entries a listing has at most
unfoldable pub listing_limit : ℕ
listing_limit = 65536

-- `.` and `..` don't count as entries
unfoldable pub counts : List ℕ → Bool
counts name = not (pointwise nat_eq name (46 ∷ []) || pointwise nat_eq name (46 ∷ 46 ∷ []))

-- the names of the entries that count, in the order of the page
unfoldable pub counted : List PlusRow → List (List ℕ)
counted rows = filter counts (map (λ row. row.name) rows)

abbrev pub last_cookie : PlusRow → List PlusRow → ℕ
last_cookie row [] = row.cookie
last_cookie row (next ∷ rows) = last_cookie next rows

-- What a page leads to, if these names count of the pages before it: a name that stands twice counts twice, and too
-- many are found before the end is.
unfoldable pub page_step : List (List ℕ) → List PlusRow → Verf → Bool → Result ListStep ListFault
page_step before [] verf true = Ok End
page_step before [] verf false = Err Stuck
page_step before (row ∷ rows) verf eof =
    if nat_lt listing_limit (length before + length (counted (row ∷ rows))) then Err Many
    else if eof then Ok End
    else Ok (More (last_cookie row rows) verf)

-- The names of a listing, each once, by their bytes.
pub record Lists (counts names : List (List ℕ)) : Type 0 where
  pub ordered : IsStrictlySortedBy (slice_cmp nat_cmp) names
  pub same : (name : List ℕ) → Contains names name ↔ Contains counts name
