-- A read shows what was made stable before the moments of which it may show bytes (RFC 1813, section 4.8; nfs(5), close-to-open consistency).
use Rattle.std.specs.Prelude.{◌≡◌, ◌<◌, ◌≤◌, ◌+◌, ℕ, List, length, Some, slice_get}
use Rattle.world_model.specs.History.{History}
use Rattle.world_model.specs.Lawful.{Lawful}
use Rattle.claims.specs.Modes.{Modes}
use Rattle.world_model.specs.Mounts.{Origin}
use Rattle.claims.specs.ReadTrue.{ReadsBytes, Since, HeldSize, ReadCurrent}
use Rattle.world_model.specs.Server.{HasBytes}
use Rattle.claims.specs.Settled.{SettledBy, Settled}
use Rattle.claims.specs.Touched.{Wrote, Truncated, Touched}
use Rattle.claims.specs.Cuts.{CutsStay}

-- Let a byte of a write, fill or put that succeeded be settled before each moment of which a read may show bytes. It is seen in the range that was asked
-- for, unless it was touched.
abbrev pub ReadSettled : Modes → Origin → History → Type 0
ReadSettled m origin t = (r y o : ℕ) (f : List ℕ) (offset count : ℕ) (bytes : List ℕ) → ReadsBytes m t.entries r y o f offset count bytes
    → (w e k v j : ℕ) → Wrote m t.entries w e f (offset + k) v → SettledBy m t.entries w e f j → e < r → ((n : ℕ) → Since m t.entries r o n → j < n)
    → k < count → (Touched m origin t w y f (offset + k) → ⊥) → slice_get bytes k ≡ Some v

-- An answer of fewer bytes than were asked for ends where the file ended at a moment that the read may show. (This is a part of `ReadShort`.)
abbrev pub ReadEnds : Modes → History → Type 0
ReadEnds m t = (r y o : ℕ) (f : List ℕ) (offset count : ℕ) (bytes : List ℕ) → ReadsBytes m t.entries r y o f offset count bytes
    → length bytes < count → HeldSize t (Since m t.entries r o) y f (offset + length bytes)

-- If settled bytes stay, and reads are current and end where the file ended, settled bytes are read.
abbrev pub SettledAreRead : Type 0
SettledAreRead = (m : Modes) (origin : Origin) (t : History) → Lawful t → Settled m origin t → ReadCurrent m origin t → ReadEnds m t
    → ReadSettled m origin t

-- ---- sizes

-- Let a truncate succeed before each moment of which a read may show bytes. A byte of the answer past its size is 0, unless it was touched.
abbrev pub ReadCutBefore : Modes → Origin → History → Type 0
ReadCutBefore m origin t = (r y o : ℕ) (f : List ℕ) (offset count : ℕ) (bytes : List ℕ) → ReadsBytes m t.entries r y o f offset count bytes
    → (x e size k v : ℕ) → Truncated m t.entries x e f size → e < r → ((n : ℕ) → Since m t.entries r o n → e < n) → size ≤ offset + k
    → slice_get bytes k ≡ Some v → (Touched m origin t x y f (offset + k) → ⊥) → v ≡ 0

-- If places that were cut off stay so, and reads are current, they are read so.
abbrev pub CutsAreRead : Type 0
CutsAreRead = (m : Modes) (origin : Origin) (t : History) → Lawful t → CutsStay m origin t → ReadCurrent m origin t → ReadCutBefore m origin t
