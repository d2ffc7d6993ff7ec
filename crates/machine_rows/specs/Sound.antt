-- What each step leaves for the next one.
use Rattle.std.specs.Prelude.{ℕ, ◌≤◌}
use Rattle.client_shelf.specs.declared.shelf.Shelf.{Shelf}
use Rattle.file_ops.specs.Ready.{IsReady}

-- Numbers of writes are below the next one and not above those of the steps. Nothing is in flight under the number of the next step or
-- of a later one.
pub record IsSound (number : ℕ) (shelf : Shelf) : Type 0 where
  pub ready : IsReady number shelf.seq shelf.back
  pub numbers : shelf.seq ≤ number
