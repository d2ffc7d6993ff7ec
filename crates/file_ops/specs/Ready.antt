-- What must hold when an operation on a file makes a step.
use Rattle.std.specs.Prelude.{◌≡◌, ◌⊎◌, ℕ, ◌+◌, ◌≤◌}
use Rattle.write_back.specs.Files.{Pending, IsNewest}
use Rattle.file_ops.specs.SlotFiles.{IsUnused}

-- The next number of a write is above those of all pending bytes. Nothing is in flight under the next xid or a later one, nor
-- under 0, which is no call's xid.
pub record IsReady (xid seq : ℕ) (back : Pending) : Type 0 where
  pub first : 1 ≤ xid
  pub numbers : IsNewest (seq + 1) back
  pub xids : (other : ℕ) → (other ≡ 0) ⊎ (xid ≤ other) → IsUnused other back
