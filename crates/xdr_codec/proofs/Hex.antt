-- Bytes by hand, as hex digits in lower case. Spaces between them count for nothing.
use Rattle.std.proofs.Common.{ℕ, List, [], ◌∷◌, ◌+◌, ◌*◌, ◌==◌, Option, Some, None}
use Rattle.std.specs.Prelude.{◌-◌, nat_lt, if◌then◌else◌}

-- `0` to `9` and `a` to `f`
abbrev digit : ℕ → ℕ
digit c = if nat_lt c 97 then c - 48 else c - 87

-- the bytes of digits, of which one may stand before them
abbrev after_digit : Option ℕ → List ℕ → List ℕ
after_digit first [] = []
after_digit None (c ∷ more) = if c == 32 then after_digit None more else after_digit (Some (digit c)) more
after_digit (Some first) (c ∷ more) = (first * 16 + digit c) ∷ after_digit None more

abbrev pub hex : List ℕ → List ℕ
hex digits = after_digit None digits
