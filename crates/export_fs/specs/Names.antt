-- The names in directories (RFC 1813, section 3.3).
use Rattle.std.specs.Prelude.{◌+◌, ◌||◌, ℕ, zero, suc, Bool, true, false, List, [], ◌∷◌, ◌++◌, Option, Some, None, option_map, ◌==◌, if◌then◌else◌}
use Rattle.std.specs.Str.{bytes_eq}
use Rattle.world_model.specs.Names.{own_name, parent_name}
use Rattle.export_fs.specs.declared.node.Node.{Node}
use Rattle.export_fs.specs.Held.{Row, Listing}
use Rattle.export_fs.specs.Parts.{place_of, at_place, live, rows_in, parent_in}

-- `.` and `..`, which name the directory and the one above it, and are neither listed nor made
abbrev pub is_own_name : List ℕ → Bool
is_own_name name = bytes_eq name own_name || bytes_eq name parent_name

-- the entry of that name
abbrev pub find_row : List ℕ → List Row → Option Row
find_row name [] = None
find_row name (row ∷ rows) = if bytes_eq name row.name then Some row else find_row name rows

-- the entries without that of the name
abbrev pub without : List ℕ → List Row → List Row
without name [] = []
without name (row ∷ rows) = if bytes_eq name row.name then rows else row ∷ without name rows

-- the name enters for the object at the place, with the next cookie; an entry that had the name is gone
abbrev pub with_row : List ℕ → ℕ → Listing → Listing
with_row name place listing = record {
  parent = listing.parent;
  last = listing.last + 1;
  rows = without name listing.rows ++ record { name = name; place = place; cookie = listing.last + 1 } ∷ [];
}

-- the name leaves
abbrev pub without_row : List ℕ → Listing → Listing
without_row name listing = record listing { rows = without name listing.rows }

-- the place of the object that has the name in the directory at a place, and in that under a file handle
abbrev pub named_at : List Node → Option ℕ → List ℕ → Option ℕ
named_at nodes dir name = option_map (λ (row : Row). row.place) (find_row name (rows_in (at_place nodes dir)))

abbrev pub named : List Node → List ℕ → List ℕ → Option ℕ
named nodes dir name = named_at nodes (place_of dir) name

-- Whether the directory at the place `from` is that at the place `top` or lies below it, so many steps up at most.
abbrev pub is_below : ℕ → List Node → ℕ → ℕ → Bool
is_below zero nodes top from = from == top
is_below (suc steps) nodes top from = if from == top then true else if from == 0 then false else is_below steps nodes top (parent_in (live nodes from))
