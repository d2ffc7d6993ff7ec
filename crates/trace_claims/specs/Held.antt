-- Whether what an operation wrote is held at a moment.
use Rattle.std.specs.Prelude.{◌≡◌, ◌<◌, ◌≤◌, ℕ, true, List, length, Some, slice_get}
use Rattle.world_model.specs.declared.entry.Entry.{Entry}
use Rattle.world_model.specs.History.{History}
use Rattle.world_model.specs.Mounts.{Origin}
use Rattle.world_model.specs.Server.{Server}
use Rattle.claims.specs.Modes.{Modes}
use Rattle.claims.specs.Settled.{HoldsStable}
use Rattle.claims.specs.Touched.{Wrote, Touched}
use Rattle.trace_claims.specs.declared.operations.Operation.{Operation}
use Rattle.trace_claims.specs.Operations.{wrote_to}
use Rattle.trace_claims.specs.Settling.{SettlesFirst}

-- these entries, with the server at each moment
abbrev pub start_of : List Entry → (ℕ → Server) → History
start_of b at = record { entries = b; at = at }

-- Each byte that the operation wrote to the file is held at the moment p and stable there, unless it was touched.
abbrev pub IsHeld : Modes → Origin → List Entry → (ℕ → Server) → Operation → List ℕ → ℕ → Type 0
IsHeld m origin b at o f p = (i v : ℕ) → Wrote m b o.course.place o.course.ending.end f i v
    → (Touched m origin (start_of b at) o.course.place p f i → ⊥) → HoldsStable (at p) f i v

-- What the operation wrote to the file is held at each moment after the least place at which it is known to be stable.
abbrev pub Stays : Modes → Origin → List Entry → (ℕ → Server) → List Operation → Operation → List ℕ → Type 0
Stays m origin b at os o f = wrote_to o (length b) f ≡ true → (first : ℕ) → SettlesFirst os (length b) o.course f (length os) first
    → (p : ℕ) → first < p → p ≤ length b → IsHeld m origin b at o f p

-- so of each operation and each file
abbrev pub AllStay : Modes → Origin → List Entry → (ℕ → Server) → List Operation → Type 0
AllStay m origin b at os = (k : ℕ) (o : Operation) → slice_get os k ≡ Some o → (f : List ℕ) → Stays m origin b at os o f
