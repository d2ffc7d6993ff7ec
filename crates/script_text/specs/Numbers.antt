-- Decimal numbers.
use Rattle.std.specs.Prelude.{◌^◌, ℕ, List, length, Bool, not, ◌&&◌, ◌==◌, nat_le, nat_lt, Option, Some, None, if◌then◌else◌}
use Rattle.std.specs.Char.{is_ascii_digit}
use Rattle.std.specs.List.{list_all}
use Rattle.std.specs.Str.Parse.{digits_value}

-- one or more decimal digits, leading zeros allowed
abbrev pub is_numeral : List ℕ → Bool
is_numeral digits = not (length digits == 0) && list_all is_ascii_digit digits

abbrev pub is_within : ℕ → ℕ → ℕ → Bool
is_within least most n = nat_le least n && nat_le n most

-- the number that a word writes, if it is a number from `least` to `most`
abbrev pub number_of : ℕ → ℕ → List ℕ → Option ℕ
number_of least most digits =
    if is_numeral digits && is_within least most (digits_value 10 digits) then Some (digits_value 10 digits) else None

-- such a number of 64 bits
abbrev pub is_decimal : List ℕ → Bool
is_decimal digits = is_numeral digits && nat_lt (digits_value 10 digits) (2 ^ 64)
