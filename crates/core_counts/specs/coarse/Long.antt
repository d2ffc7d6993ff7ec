-- WRITEs are long (RFC 1813, section 3.3.7). As one is made it has as many bytes as a WRITE may have, or its bytes don't go on where it ends.
use Rattle.std.specs.Prelude.{◌≡◌, ◌≢◌, ◌<◌, ◌≤◌, ◌⊎◌, ◌+◌, ℕ, List, false, length, Some, None}
use Rattle.nfs_file_calls.specs.declared.call.FileCall.TheVariants as files
use Rattle.rpc_retry.specs.declared.waiting.Waiting.{Waiting}
use Rattle.rpc_retry.specs.Waiting.{waiting_at}
use Rattle.world_model.specs.declared.message.Call.TheVariants as calls
use Rattle.world_model.specs.Messages.{SpellsCallBy}
use Rattle.write_back.specs.Files.{of_file}
use Rattle.write_back.specs.Pieces.{FilePending, Flown, rest_at, fly_at}
use Rattle.write_back.specs.Segments.{Cell}
use Rattle.write_back.specs.States.{is_ready, how_of, ready_of}
use Rattle.client_core.specs.declared.lane.Purpose.{Purpose}
use Rattle.client_core.specs.declared.setup.Setup.{Setup}
use Rattle.client_core.specs.View.{View}

-- Why the bytes from `low` to `next` that took off don't go on: there nothing is pending that isn't in flight; or what is was acknowledged; or is of a
-- later write than each of them; or is to be sent in another way; or its write has bytes behind that are to wait, as older ones are in flight there.
pub data Stops (of : FilePending) (low next how : ℕ) : Type 0 where
  none : rest_at of next ≡ None → Stops of low next how
  acked : (cell : Cell) → rest_at of next ≡ Some cell → is_ready cell.state ≡ false → Stops of low next how
  later : (cell : Cell) → rest_at of next ≡ Some cell
      → ((place : ℕ) (flown : Flown) → low ≤ place → place < next → fly_at of place ≡ Some flown → flown.number < cell.number) → Stops of low next how
  otherwise : (cell : Cell) → rest_at of next ≡ Some cell → how_of (ready_of cell.state) ≢ how → Stops of low next how
  held : (cell : Cell) → rest_at of next ≡ Some cell
      → (((place : ℕ) (other : Cell) → next ≤ place → rest_at of place ≡ Some other → other.number ≡ cell.number → fly_at of place ≡ None) → ⊥)
      → Stops of low next how

-- Each WRITE that waits under an xid from this one on has as many bytes as a WRITE may have. Or these bytes don't go on where it ends.
abbrev pub MakesLong : Setup → ℕ → View → Type 0
MakesLong setup first v = (x : ℕ) (w : Waiting Purpose) (file : List ℕ) (offset how : ℕ) (bytes : List ℕ) → first ≤ x → waiting_at x v.calls.calls ≡ Some w
    → SpellsCallBy setup.cred x (calls.File (files.Write file offset how bytes)) w.bytes
    → (length bytes ≡ v.wsize) ⊎ Stops (of_file file v.shelf.back) offset (offset + length bytes) how
