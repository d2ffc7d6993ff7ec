-- What must hold when an operation makes a step.
use Rattle.std.specs.Prelude.{ℕ, ◌≤◌, ◌<◌, ◌+◌, ◌^◌}
use Rattle.write_back.specs.Files.{IsNewest}
use Rattle.client_shelf.specs.declared.shelf.Shelf.{Shelf}
use Rattle.client_shelf.specs.declared.turn.Turn.{Turn}
use Rattle.file_ops.specs.SlotFiles.{IsUnused}

-- A WRITE carries some bytes. The next number of a write is above those of all pending bytes and below the moment. Nothing is in
-- flight under the step's xid.
pub record MayStep (wsize : ℕ) (turn : Turn) (shelf : Shelf) : Type 0 where
  pub size : 1 ≤ wsize
  pub newest : IsNewest (shelf.seq + 1) shelf.back
  pub free : IsUnused turn.xid shelf.back
  pub seq : shelf.seq < turn.moment
  pub moment : turn.moment < 2 ^ 63
