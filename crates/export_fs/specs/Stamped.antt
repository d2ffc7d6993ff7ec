-- Stamps that are fresh and cookies that rise (RFC 1813, sections 2.6 and 3.3.16): each change takes a number that no
-- object has yet, and each entry of a directory takes a cookie that the directory never gave.
use Rattle.std.specs.Prelude.{◌≡◌, ◌≤◌, ◌<◌, ◌⊎◌, ℕ, suc, true, List, Option, Some, None, slice_get, ⊤}
use Rattle.export_fs.specs.declared.node.Node.{Node}
use Rattle.export_fs.specs.Held.{Row}
use Rattle.export_fs.specs.View.{View}
use Rattle.export_fs.specs.Parts.{size_of, bytes_of, rows_of, last_of}
use Rattle.export_fs.specs.Kept.{is_rising, top}

-- The times of an object have no number above that, its cookies rise, and none is above the last one given.
pub record IsStamped (counter : ℕ) (node : Node) : Type 0 where
  pub mtime : node.mtime ≤ counter
  pub ctime : node.ctime ≤ counter
  pub rising : is_rising 0 (rows_of node.holds) ≡ true
  pub given : top 0 (rows_of node.holds) ≤ last_of node.holds

-- no object has a number above the counter
abbrev pub Stamped : View → Type 0
Stamped view = (place : ℕ) (node : Node) → slice_get view.nodes place ≡ Some node → IsStamped view.counter node

-- ---- steps

-- an object has the stamp, the bytes and the entries that it had
pub record Alike (old new : Node) : Type 0 where
  pub mtime : new.mtime ≡ old.mtime
  pub ctime : new.ctime ≡ old.ctime
  pub size : size_of new.holds ≡ size_of old.holds
  pub bytes : bytes_of new.holds ≡ bytes_of old.holds
  pub rows : rows_of new.holds ≡ rows_of old.holds

abbrev pub HasRow : List Row → Row → Type 0
HasRow rows row = (at : ℕ) × (slice_get rows at ≡ Some row)

-- An object after a step that took the numbers above `before`, up to `after`: it is like before, or its ctime is one of
-- these; each of its entries was there, or has a cookie that the directory hadn't given.
pub record Goes (before after : ℕ) (old new : Node) : Type 0 where
  pub stamped : IsStamped after old → IsStamped after new
  pub changed : Alike old new ⊎ (before < new.ctime)
  pub last : last_of old.holds ≤ last_of new.holds
  pub rows : (row : Row) → HasRow (rows_of new.holds) row → HasRow (rows_of old.holds) row ⊎ (last_of old.holds < row.cookie)

-- no object goes, and a new one has a number that was taken
abbrev pub GoesAt : ℕ → ℕ → Option Node → Option Node → Type 0
GoesAt before after None None = ⊤
GoesAt before after None (Some new) = IsStamped after new
GoesAt before after (Some old) None = ⊥
GoesAt before after (Some old) (Some new) = Goes before after old new

-- one step, or none
pub record Proceeds (old new : View) : Type 0 where
  pub counter : old.counter ≤ new.counter
  pub objects : (place : ℕ) → GoesAt old.counter new.counter (slice_get old.nodes place) (slice_get new.nodes place)

-- each of so many views is one step after that before it
abbrev pub Proceeding : (ℕ → View) → ℕ → Type 0
Proceeding views count = (n : ℕ) → n < count → Proceeds (views n) (views (suc n))
