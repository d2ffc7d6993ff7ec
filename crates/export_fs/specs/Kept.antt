-- How a directory keeps its names: found by name, and listed by cookie.
use Rattle.std.specs.Prelude.{◌≡◌, ◌≤◌, ◌&&◌, ℕ, Bool, true, List, [], ◌∷◌, Option, Some, None, option_map, nat_lt, ◌==◌, if◌then◌else◌}
use Rattle.std.specs.Ordering.{nat_cmp}
use Rattle.std.specs.Cmp.Lexicographic.{slice_cmp}
use Rattle.std.specs.BTreeMap.{BTreeMap, get}
use Rattle.export_fs.specs.declared.entries.Entry.{Entry}
use Rattle.export_fs.specs.declared.directory.Spot.{Spot}
use Rattle.export_fs.specs.Held.{Row}
use Rattle.export_fs.specs.Names.{find_row, without}

abbrev pub row_of : ℕ × Entry → Row
row_of e = record { name = e.1.name; place = e.1.place; cookie = e.0 }

abbrev pub rows_of : List (ℕ × Entry) → List Row
rows_of [] = []
rows_of (e ∷ es) = row_of e ∷ rows_of es

-- cookies, each above the one before
abbrev pub is_rising : ℕ → List Row → Bool
is_rising low [] = true
is_rising low (row ∷ rows) = nat_lt low row.cookie && is_rising row.cookie rows

-- the last of the cookies
abbrev pub top : ℕ → List Row → ℕ
top low [] = low
top low (row ∷ rows) = top row.cookie rows

-- the entries without that of the cookie
abbrev pub without_cookie : ℕ → List Row → List Row
without_cookie cookie [] = []
without_cookie cookie (row ∷ rows) = if cookie == row.cookie then rows else row ∷ without_cookie cookie rows

abbrev pub spot_of : Row → Spot
spot_of row = record { place = row.place; cookie = row.cookie }

-- the entries without that of what had a name
abbrev pub without_spot : Option Spot → List Row → List Row
without_spot None rows = rows
without_spot (Some spot) rows = without_cookie spot.cookie rows

-- Each name is there once and is found with what has it; cookies rise, and none is above the last one given.
pub record IsKept (rows : List Row) (by_name : BTreeMap (List ℕ) Spot) (last : ℕ) : Type 0 where
  pub found : (name : List ℕ) → get (slice_cmp nat_cmp) by_name name ≡ option_map spot_of (find_row name rows)
  pub once : (name : List ℕ) → find_row name (without name rows) ≡ None
  pub rising : is_rising 0 rows ≡ true
  pub bounded : top 0 rows ≤ last
