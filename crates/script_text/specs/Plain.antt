-- Bytes that are ASCII and no line feed.
use Rattle.std.specs.Prelude.{ℕ, ◌<◌, ◌≡◌, bit_xor}

abbrev pub IsPlain : ℕ → Type 0
IsPlain b = (b < 128) × (b ≡ 10 → ⊥)

abbrev pub IsHigh : ℕ → Type 0
IsHigh lane = 128 < lane

-- a byte as a number that is above 128 exactly if it is plain
abbrev pub mark : ℕ → ℕ
mark b = bit_xor b 138
