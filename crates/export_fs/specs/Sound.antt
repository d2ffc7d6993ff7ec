-- What every export keeps: each name is of an object that is there, and an object's names are counted.
use Rattle.std.specs.Prelude.{◌≡◌, ◌≢◌, ◌≤◌, ◌<◌, ◌+◌, ◌||◌, ℕ, Bool, true, false, List, [], ◌∷◌, length, Some, None, slice_get, ◌==◌, if◌then◌else◌, ⊤}
use Rattle.export_fs.specs.declared.node.Holds.{Holds}
use Rattle.export_fs.specs.declared.node.Holds.TheVariants.{File, Directory, Link}
use Rattle.export_fs.specs.declared.node.Node.{Node}
use Rattle.export_fs.specs.Held.{Row, Listing}
use Rattle.export_fs.specs.View.{View}
use Rattle.export_fs.specs.Parts.{last_number, kind_of, rows_of}
use Rattle.export_fs.specs.Names.{is_own_name, find_row, without}

-- ---- how many names an object has

abbrev pub one_if : Bool → ℕ
one_if b = if b then 1 else 0

abbrev pub names_in : ℕ → List Row → ℕ
names_in place [] = 0
names_in place (row ∷ rows) = one_if (row.place == place) + names_in place rows

abbrev pub names_of : ℕ → List Node → ℕ
names_of place [] = 0
names_of place (node ∷ nodes) = names_in place (rows_of node.holds) + names_of place nodes

-- ---- objects

-- An entry of the directory at a place, among so many objects: it is of an object, and not of the directory itself; its
-- cookie was given; its name isn't `.` or `..`.
pub record IsEntry (count dir last : ℕ) (row : Row) : Type 0 where
  pub there : row.place < count
  pub apart : row.place ≢ dir
  pub cookie : 1 ≤ row.cookie
  pub given : row.cookie ≤ last
  pub own : is_own_name row.name ≡ false

-- each name stands once
abbrev pub IsOnce : List Row → Type 0
IsOnce rows = (name : List ℕ) → find_row name (without name rows) ≡ None

abbrev pub Each : (Row → Type 0) → List Row → Type 0
Each P rows = (at : ℕ) (row : Row) → slice_get rows at ≡ Some row → P row

pub record IsListing (count dir : ℕ) (listing : Listing) : Type 0 where
  pub entries : Each (IsEntry count dir listing.last) listing.rows
  pub once : IsOnce listing.rows

-- a file has no more stable bytes than bytes
abbrev pub IsHeld : ℕ → ℕ → Holds → Type 0
IsHeld count place (File content) = length content.stable ≤ length content.bytes
IsHeld count place (Directory listing) = IsListing count place listing
IsHeld count place (Link text) = ⊤

-- A directory that is there has one name, unless it is the root. Another object has as many names as it counts, and is
-- gone if it has none.
pub record IsCounted (names place : ℕ) (node : Node) : Type 0 where
  pub directory : (kind_of node.holds == 2) ≡ true → names ≡ (if node.gone || (place == 0) then 0 else 1)
  pub links : (kind_of node.holds == 2) ≡ false → names ≡ node.nlink
  pub gone : (kind_of node.holds == 2) ≡ false → node.gone ≡ (node.nlink == 0)

-- the root is a directory, and there
pub record IsRoot (node : Node) : Type 0 where
  pub kind : (kind_of node.holds == 2) ≡ true
  pub there : node.gone ≡ false

-- Each object took a number, and so did each name.
pub record Sound (view : View) : Type 0 where
  pub places : length view.nodes ≤ view.counter
  pub numbers : view.counter ≤ last_number
  pub reboots : view.reboots ≤ last_number
  pub root : (node : Node) × (slice_get view.nodes 0 ≡ Some node) × IsRoot node
  pub held : (place : ℕ) (node : Node) → slice_get view.nodes place ≡ Some node → IsHeld (length view.nodes) place node.holds
  pub counted : (place : ℕ) (node : Node) → slice_get view.nodes place ≡ Some node → IsCounted (names_of place view.nodes) place node
  pub few : (place : ℕ) → names_of place view.nodes ≤ view.counter
