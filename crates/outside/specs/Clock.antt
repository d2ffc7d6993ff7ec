-- The readings of a clock.
use Rattle.std.specs.Prelude.{◌≡◌, ◌*◌, ◌-◌, ◌^◌, ◌==◌, min, ℕ, zero, suc, List, [], ◌∷◌, ◌++◌, Option, Some, None, if◌then◌else◌}
use Rattle.outside.specs.Views.{ClockView}

-- One more reading. A clock that can't count its readings any more stops telling them, and doesn't begin again.
abbrev pub ReadsClock : Option (List ℕ) → Option (List ℕ) → ℕ → Type 0
ReadsClock None new ms = new ≡ None
ReadsClock (Some old) None ms = Unit {0}
ReadsClock (Some old) (Some new) ms = new ≡ old ++ ms ∷ []

-- the reading after so many of a clock that goes on by tick at each, up to the end of its type
abbrev pub reading : ℕ → ℕ → ℕ
reading tick count = min (tick * count) (2 ^ 64 - 1)

-- its first readings
abbrev pub readings : ℕ → ℕ → List ℕ
readings tick zero = []
readings tick (suc n) = readings tick n ++ reading tick n ∷ []

-- what such a clock tells, as long as it can count its readings
abbrev pub told_readings : ClockView → Option (List ℕ)
told_readings c = if c.count == 2 ^ 64 - 1 then None else Some (readings c.tick c.count)
