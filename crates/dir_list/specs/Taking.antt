-- How a page is taken, entry by entry.
use Rattle.std.specs.Prelude.{◌≡◌, ◌≤◌, ◌<◌, ℕ, ◌+◌, List, [], ◌∷◌, ◌++◌, length, Option, Some, None, Bool, true, false, Result, Ok, Err, if◌then◌else◌}
use Rattle.nfs_dir_calls.specs.declared.plus_page.PlusRow.{PlusRow}
use Rattle.nfs_types.specs.declared.verf.Verf.{Verf}
use Rattle.dir_list.specs.declared.progress.ListStep.{ListStep}
use Rattle.dir_list.specs.declared.progress.ListStep.TheVariants.{More, End}
use Rattle.dir_list.specs.declared.progress.ListFault.{ListFault}
use Rattle.dir_list.specs.declared.progress.ListFault.TheVariants.{Stuck}
use Rattle.dir_list.specs.Listings.{listing_limit, counts, counted, last_cookie}

-- a name, or none if it doesn't count
abbrev pub counted_name : List ℕ → List (List ℕ)
counted_name name = if counts name then name ∷ [] else []

-- the cookie of the last row
abbrev pub last_of : List PlusRow → Option ℕ
last_of [] = None
last_of (row ∷ rows) = Some (last_cookie row rows)

-- Of a page, some rows were taken, and some are left.
pub record Taking (before : List (List ℕ)) (all : List PlusRow) (names : List (List ℕ)) (last : Option ℕ) (left : List PlusRow) : Type 0 where
  pub taken : List PlusRow
  pub is : all ≡ taken ++ left
  pub named : names ≡ before ++ counted taken
  pub fits : length names ≤ listing_limit
  pub cookie : last ≡ last_of taken

-- All rows were taken.
pub record Took (before : List (List ℕ)) (all : List PlusRow) (names : List (List ℕ)) (last : Option ℕ) : Type 0 where
  pub named : names ≡ before ++ counted all
  pub fits : length names ≤ listing_limit
  pub cookie : last ≡ last_of all

-- these many names are too many with the page's
abbrev pub IsOver : List (List ℕ) → List PlusRow → Type 0
IsOver before all = listing_limit < length before + length (counted all)

-- the first names are these
pub record BeginsWith (front names : List (List ℕ)) : Type 0 where
  pub rest : List (List ℕ)
  pub is : names ≡ front ++ rest

-- what follows a page that isn't too many, by the cookie of its last entry
abbrev pub next_step : Option ℕ → Verf → Bool → Result ListStep ListFault
next_step last verf true = Ok End
next_step (Some cookie) verf false = Ok (More cookie verf)
next_step None verf false = Err Stuck
