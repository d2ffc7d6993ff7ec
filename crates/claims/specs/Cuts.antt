-- A place that a truncate cut off stays cut off (RFC 1813, sections 3.3.2 and 4.8).
use Rattle.std.specs.Prelude.{◌≡◌, ◌<◌, ◌≤◌, ℕ, List, length, Some, slice_get}
use Rattle.world_model.specs.History.{History}
use Rattle.world_model.specs.Mounts.{Origin}
use Rattle.world_model.specs.Server.{HasBytes}
use Rattle.claims.specs.Modes.{Modes}
use Rattle.claims.specs.Touched.{Truncated, Touched}

-- After a truncate that succeeded the file has no byte but a zero at a place past its size, unless that was touched.
abbrev pub CutsStay : Modes → Origin → History → Type 0
CutsStay m origin t = (x e : ℕ) (f : List ℕ) (size i : ℕ) → Truncated m t.entries x e f size → size ≤ i → (p : ℕ) → e < p → p ≤ length t.entries
    → (Touched m origin t x p f i → ⊥) → (now stable : List ℕ) → HasBytes (t.at p) f now stable → (v : ℕ) → slice_get now i ≡ Some v → v ≡ 0
