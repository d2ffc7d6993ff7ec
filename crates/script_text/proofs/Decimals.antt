-- What parsing digits gives.
use Rattle.std.proofs.Common.{nat_le, Some, None, if◌then◌else◌, refl, ◌≡◌, ◌^◌, ◌<◌, length, ℕ, List, [], ◌∷◌, true, false, not, ◌&&◌, ◌==◌, nat_lt, Result, Ok, Err, arith, rules}
use Rattle.std.specs.Prelude.{MatchOption}
use Rattle.std.specs.Char.{is_ascii_digit}
use Rattle.std.specs.List.{list_all}
use Rattle.std.specs.Result.{result_ok, OkIff}
use Rattle.std.specs.Str.{IsAscii, IsUtf8}
use Rattle.std.specs.Str.Parse.{digits_value, ParsesUnsigned}
use Rattle.std.proofs.lemmas.Bool.{and_parts, false_from_ne_true, lt-ltb, ltb-true, leb-true}
use Rattle.std.proofs.lemmas.Str.{IsUtf8-from_ascii}
use Rattle.std.proofs.lemmas.Str.Ascii.{IsAscii-nil, IsAscii-cons}
use Rattle.std.proofs.lemmas.Str.Parse.{IsNumeralModel, numerals_by_value, parse_digits}
use Rattle.script_text.specs.Numbers.{number_of, is_numeral, is_within, is_decimal}

own : IsNumeralModel (λ ds. list_all is_ascii_digit ds ≡ true) (digits_value 10)
own = numerals_by_value _ (search rules)

ascii_digits : (ds : List ℕ) → list_all is_ascii_digit ds ≡ true → IsAscii ds
ascii_digits [] h = IsAscii-nil
ascii_digits (c ∷ cs) h =
    let k = and_parts (is_ascii_digit c) (list_all is_ascii_digit cs) h in
    IsAscii-cons c cs (grind (arith, k.0)) (ascii_digits cs k.1)

pub utf8_digits : (ds : List ℕ) → list_all is_ascii_digit ds ≡ true → IsUtf8 ds
utf8_digits ds h = IsUtf8-from_ascii ds (ascii_digits ds h)

pub no_number : (ds : List ℕ) → list_all is_ascii_digit ds ≡ false → is_decimal ds ≡ false
no_number ds h = rw h (grind arith)

-- the number of some digits, in range
in_range : (ds : List ℕ) → 0 < length ds → list_all is_ascii_digit ds ≡ true → digits_value 10 ds < 18446744073709551616 → is_decimal ds ≡ true
in_range ds some digits small = rw (digits, lt-ltb _ _ small) (grind (arith, some))

some_digits : (ds : List ℕ) → is_decimal ds ≡ true → (0 < length ds) × (digits_value 10 ds < 18446744073709551616)
some_digits ds h =
    let k = and_parts (not (length ds == 0) && list_all is_ascii_digit ds) (nat_lt (digits_value 10 ds) 18446744073709551616) h in
    let j = and_parts (not (length ds == 0)) (list_all is_ascii_digit ds) k.0 in
    (grind (arith, j.0), ltb-true (digits_value 10 ds) 18446744073709551616 k.1)

pub number_from : {E : Type 0} (ds : List ℕ) (r : Result ℕ E) → ParsesUnsigned 64 10 ds r → list_all is_ascii_digit ds ≡ true
    → MatchOption (result_ok r) (is_decimal ds ≡ false) (λ n. (is_decimal ds ≡ true) × (n ≡ digits_value 10 ds))
number_from {E = E} ds r h p = go r (parse_digits own 64 ds r h p)
  where
    go : (r : Result ℕ E) → OkIff r ((0 < length ds) × (digits_value 10 ds < 2 ^ 64)) (digits_value 10 ds) → MatchOption (result_ok r) (is_decimal ds ≡ false) (λ n. (is_decimal ds ≡ true) × (n ≡ digits_value 10 ds))
    go (Ok v) k = (in_range ds k.0.0 p k.0.1, k.1)
    go (Err e) k = false_from_ne_true _ (λ t. k (some_digits ds t))

-- a number of 64 bits is taken where it is in the range
pub number_in : (least most n : ℕ) (ds : List ℕ) → is_decimal ds ≡ true → n ≡ digits_value 10 ds → number_of least most ds ≡ (if is_within least most n then Some n else None)
number_in least most n ds h e =
    let numeral = (and_parts (is_numeral ds) (nat_lt (digits_value 10 ds) 18446744073709551616) h).0 in
    rw (e, numeral) refl

-- what is no number of 64 bits is in no range of such
pub number_out : (least most : ℕ) (ds : List ℕ) → is_decimal ds ≡ false → most < 18446744073709551616 → number_of least most ds ≡ None
number_out least most ds h small = rw (false_from_ne_true (is_numeral ds && is_within least most (digits_value 10 ds)) (λ t.
    let k = and_parts (is_numeral ds) (is_within least most (digits_value 10 ds)) t in
    let w = and_parts (nat_le least (digits_value 10 ds)) (nat_le (digits_value 10 ds) most) k.1 in
    let le = leb-true _ _ w.1 in
    let f : is_decimal ds ≡ true = rw (k.0, lt-ltb (digits_value 10 ds) 18446744073709551616 (omega (arith, le, small))) refl in
    absurd (cc (f, h)))) refl
