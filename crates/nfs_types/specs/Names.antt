-- File handles and names (RFC 1813, section 2.5).
use Rattle.std.specs.Prelude.{◌<◌, ◌≤◌, ℕ, List, [], ◌∷◌, length, Bool, true, ◌||◌, ◌==◌, Contains}
use Rattle.std.specs.List.{list_any}

-- at most 64 bytes
abbrev pub IsHandle : List ℕ → Type 0
IsHandle bytes = length bytes ≤ 64

-- 1 to 255 bytes without `/` and without a zero byte
pub record IsName (bytes : List ℕ) : Type 0 where
  pub some : 0 < length bytes
  pub bound : length bytes ≤ 255
  pub no_slash : ¬ Contains bytes 47
  pub no_zero : ¬ Contains bytes 0

-- the test of a name, but for its length
abbrev pub is_no_name : List ℕ → Bool
is_no_name [] = true
is_no_name (b ∷ bytes) = list_any (λ y. y == 47) (b ∷ bytes) || list_any (λ y. y == 0) (b ∷ bytes)
