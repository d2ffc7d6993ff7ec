-- What may change a byte that this client wrote, if its own operations alone are looked at (a rule of this client: NFS version 3 has no closes, RFC 1813,
-- section 1.5).
use Rattle.std.specs.Prelude.{◌≢◌, ◌<◌, ℕ, List}
use Rattle.world_model.specs.declared.entry.Entry.{Entry}
use Rattle.claims.specs.Modes.{Modes}
use Rattle.world_model.specs.Mounts.{Origin}
use Rattle.world_model.specs.Operations.{AnsweredBefore}
use Rattle.claims.specs.Touched.{WritesByte, RefusedWrite, Cuts, Left, GivesUp}

-- One of these, beside the write at the place w:
-- - another operation writes to the place i of the file, or cuts it off. It wasn't answered before w, and began before the place p.
-- - after w and before the place j, the last close left the file, and a refusal went with it.
pub data TouchedUntil (m : Modes) (origin : Origin) (h : List Entry) (w j p : ℕ) (f : List ℕ) (i : ℕ) : Type 0 where
  written : (x v : ℕ) → x ≢ w → x < p → (AnsweredBefore h x w → ⊥) → WritesByte m origin h x f i v → (RefusedWrite h x → ⊥) → TouchedUntil m origin h w j p f i
  cut : (x : ℕ) → x ≢ w → x < p → (AnsweredBefore h x w → ⊥) → Cuts m h x f i → TouchedUntil m origin h w j p f i
  given_up : (k : ℕ) → w < k → k < j → Left m h k f → GivesUp m h k f → TouchedUntil m origin h w j p f i
