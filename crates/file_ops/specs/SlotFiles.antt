-- Which file a lane's slot holds, and its place in the order of that file.
use Rattle.std.specs.Prelude.{ℕ, List, Option, option_map}
use Rattle.std.specs.FinMap as map
use Rattle.client_shelf.specs.declared.shelf.Shelf.{Shelf}
use Rattle.client_shelf.specs.LaneFiles.{added, left}
use Rattle.open_files.specs.Slots.{Opens}
use Rattle.write_back.specs.Files.{Pending, IsFree}

-- the file that a slot holds open
abbrev pub file_at : ℕ → ℕ → Opens → Option (List ℕ)
file_at lane slot opens = option_map (λ opened. opened.file) (map.get opens (lane, slot))

-- the lane is the last in the order of a file
abbrev pub joined : ℕ → List ℕ → Shelf → Shelf
joined lane file shelf = record shelf { order = added (record { lane = lane; file = file }) (left lane shelf.order) }

-- nothing is in flight under an xid
abbrev pub IsUnused : ℕ → Pending → Type 0
IsUnused xid back = (file : List ℕ) → IsFree xid file back
