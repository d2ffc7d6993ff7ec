-- Values of hex digits, and the bytes of pairs of them.
use Rattle.std.specs.Prelude.{◌≡◌, ℕ, ◌+◌, ◌*◌, ◌<◌, ◌≤◌, List, [], ◌∷◌, get_or, length, nat_le, Bool, true, false, Option, Some, None, Ok, if◌then◌else◌}
use Rattle.std.specs.List.{AllPass}
use Rattle.std.specs.Simd.Lanes.{Each1}
use Rattle.hex.specs.Hex.{decode_of, is_hex_digit}
use Rattle.script_text.specs.Paths.{escaped}

-- the value of a digit, which is below sixteen
abbrev pub digit_of : ℕ → Option ℕ
digit_of value = if nat_le value 15 then Some value else None

-- the bytes of pairs of values, the high four bits first
abbrev pub pairs_of : List ℕ → List ℕ
pairs_of [] = []
pairs_of (value ∷ []) = []
pairs_of (high ∷ low ∷ values) = (high * 16 + low) ∷ pairs_of values

-- digits were read: these are their bytes, or one of them is no hex digit
abbrev pub Tells : List ℕ → Bool → List ℕ → Type 0
Tells hex true bytes = decode_of hex ≡ Ok bytes
Tells hex false bytes = (others : List ℕ) → decode_of hex ≡ Ok others → ⊥

-- the bytes at these places are those of their digits
abbrev pub AreRead : List ℕ → List ℕ → ℕ → ℕ → Type 0
AreRead hex bytes from to = (i : ℕ) → from ≤ i → i < to → escaped (get_or hex (2 * i) 0) (get_or hex (2 * i + 1) 0) ≡ Some (get_or bytes i 0)

-- What was seen of the digits of the bytes before a place: if all values are below sixteen the bytes are theirs, and they are if all are digits.
pub record IsSeen (hex bytes seen : List ℕ) (to : ℕ) : Type 0 where
  pub many : length seen ≡ 32
  pub found : Each1 (λ value. value < 16) seen → AreRead hex bytes 0 to
  pub small : AllPass is_hex_digit hex → Each1 (λ value. value < 16) seen
