-- What the read of one client shows of what another made stable before (RFC 1813, section 4.8; nfs(5), close-to-open consistency).
use Rattle.std.specs.Prelude.{◌≡◌, ◌<◌, ◌+◌, ◌⊎◌, ℕ, false, List, Some, slice_get}
use Rattle.world_model.specs.Lawful.{Lawful}
use Rattle.claims.specs.Modes.{Modes}
use Rattle.world_model.specs.Mounts.{Origin}
use Rattle.claims.specs.ReadTrue.{ReadsBytes, PendingWithin, ReadCurrent}
use Rattle.claims.specs.Settled.{SettledBy, Settled}
use Rattle.claims.specs.Touched.{Wrote, Touched}
use Rattle.law_own.specs.Own.{ReadEnds}
use Rattle.outside.specs.Pairs.{PairTold, StandsAt, side, moment_in}

-- the answer holds this byte at the place k; or another one, which may be pending in the reader during the read
abbrev pub ShowsOrPends : Modes → Origin → PairTold → ℕ → ℕ → ℕ → List ℕ → ℕ → ℕ → List ℕ → ℕ → Type 0
ShowsOrPends m origin h reader r y f i k bytes v =
    (slice_get bytes k ≡ Some v) ⊎ ((u : ℕ) × (slice_get bytes k ≡ Some u) × PendingWithin m origin (side reader h).entries r y f i u)

-- Let a byte of a write, fill or put of the writer that succeeded be settled. The reader sees it in an open that began after that, in the range that was
-- asked for. Or it shows a byte that is pending in itself. That is so unless the place was touched, by the writer's history, up to the end of the read.
abbrev pub ReadsOther : Modes → Origin → PairTold → ℕ → ℕ → Type 0
ReadsOther m origin h writer reader = (r y o : ℕ) (f : List ℕ) (offset count : ℕ) (bytes : List ℕ) → ReadsBytes m (side reader h).entries r y o f offset count bytes
    → (w e k v j : ℕ) → Wrote m (side writer h).entries w e f (offset + k) v → SettledBy m (side writer h).entries w e f j
    → (settled opened ended : ℕ) → StandsAt writer h.steps settled j → StandsAt reader h.steps opened o → StandsAt reader h.steps ended y → settled < opened
    → k < count → (Touched m origin (side writer h) w (moment_in writer h.steps ended) f (offset + k) → ⊥)
    → ShowsOrPends m origin h reader r y f (offset + k) k bytes v

-- If settled bytes of the writer stay, and the reader's reads are current and end where the file ended, the writer's settled bytes are seen.
abbrev pub SettledAreSeen : Type 0
SettledAreSeen = (m : Modes) (origin : Origin) (h : PairTold) (writer reader : ℕ) → m.nocto ≡ false → Lawful (side writer h) → Lawful (side reader h)
    → Settled m origin (side writer h) → ReadCurrent m origin (side reader h) → ReadEnds m (side reader h) → ReadsOther m origin h writer reader
