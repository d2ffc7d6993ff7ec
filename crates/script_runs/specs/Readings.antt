-- What the clock gave.
use Rattle.std.specs.Prelude.{◌≡◌, ℕ, List, ◌++◌, Option, Some, None}
use Rattle.outside.specs.Clock.{ReadsClock}

-- these are the readings that the clock gave, as far as it tells them
abbrev pub ReadsAll : Option (List ℕ) → Option (List ℕ) → List ℕ → Type 0
ReadsAll None new given = new ≡ None
ReadsAll (Some old) None given = Unit {0}
ReadsAll (Some old) (Some new) given = new ≡ old ++ given

-- the clock was read once, and what is so of the reading
abbrev pub ReadsOnce : Option (List ℕ) → Option (List ℕ) → (ℕ → Type 0) → Type 0
ReadsOnce old new P = (ms : ℕ) × ReadsClock old new ms × P ms

-- the clock was read, and what is so of the readings
abbrev pub Reads : Option (List ℕ) → Option (List ℕ) → (List ℕ → Type 0) → Type 0
Reads old new P = (given : List ℕ) × ReadsAll old new given × P given
