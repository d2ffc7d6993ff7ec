-- Where an operation finds no open file in its slot, or one that isn't open for it.
use Rattle.std.specs.Prelude.{◌≡◌, ℕ, Bool, true, false, List, Some}
use Rattle.nfs_types.specs.declared.mode.Mode.{Mode}
use Rattle.nfs_types.specs.declared.mode.Mode.TheVariants as modes
use Rattle.world_model.specs.declared.entry.Entry.{Entry}
use Rattle.world_model.specs.declared.op.Op.{Op}
use Rattle.world_model.specs.declared.op.Op.TheVariants as ops
use Rattle.claims.specs.Slots.{InSlot, slot_of}
use Rattle.claims.specs.Terms.{Terms}

-- an open of this mode is for reading: all but that for writing alone
abbrev pub can_read : Mode → Bool
can_read modes.R = true
can_read modes.W = false
can_read modes.RW = true
can_read modes.C = true
can_read modes.X = true

-- and for writing: all but that for reading alone
abbrev pub can_write : Mode → Bool
can_write modes.R = false
can_write modes.W = true
can_write modes.RW = true
can_write modes.C = true
can_write modes.X = true

-- a write, fill or truncate of the slot
pub data Changes (op : Op) (slot : ℕ) : Type 0 where
  write : (offset : ℕ) (bytes : List ℕ) → op ≡ ops.Write slot offset bytes → Changes op slot
  fill : (offset count byte : ℕ) → op ≡ ops.Fill slot offset count byte → Changes op slot
  truncate : (size : ℕ) → op ≡ ops.Truncate slot size → Changes op slot

-- the slot holds an open for reading as the operation at the place x begins
pub record HoldsToRead (terms : Terms) (h : List Entry) (lane x slot : ℕ) : Type 0 where
  pub f : List ℕ
  pub open_at : ℕ
  pub holds : InSlot terms.modes h x lane slot open_at f
  pub right : can_read holds.opens.mode ≡ true

-- the slot holds an open for writing as the operation at the place x begins
pub record HoldsToWrite (terms : Terms) (h : List Entry) (lane x slot : ℕ) : Type 0 where
  pub f : List ℕ
  pub open_at : ℕ
  pub holds : InSlot terms.modes h x lane slot open_at f
  pub right : can_write holds.opens.mode ≡ true

-- As the operation at the place x begins, the slot that it is to open holds an open; or the slot that it works on holds
-- none.
pub data NoPlace (terms : Terms) (h : List Entry) (lane x : ℕ) (op : Op) : Type 0 where
  taken : (slot open_at : ℕ) (mode : Mode) (path : List (List ℕ)) (f : List ℕ) → op ≡ ops.OpenFile slot mode path → InSlot terms.modes h x lane slot open_at f
      → NoPlace terms h lane x op
  free : (slot : ℕ) → slot_of op ≡ Some slot → ((open_at : ℕ) (f : List ℕ) → InSlot terms.modes h x lane slot open_at f → ⊥) → NoPlace terms h lane x op

-- The slot holds an open, and a read isn't among its rights, or a write, fill or truncate isn't.
pub data NoRight (terms : Terms) (h : List Entry) (lane x : ℕ) (op : Op) : Type 0 where
  read : (slot offset count open_at : ℕ) (f : List ℕ) (holds : InSlot terms.modes h x lane slot open_at f) → op ≡ ops.Read slot offset count
      → can_read holds.opens.mode ≡ false → NoRight terms h lane x op
  change : (slot open_at : ℕ) (f : List ℕ) (holds : InSlot terms.modes h x lane slot open_at f) → Changes op slot → can_write holds.opens.mode ≡ false
      → NoRight terms h lane x op
