-- What parsing digits gives.
use Rattle.std.proofs.Common.{◌≡◌, ◌^◌, ◌<◌, length, ℕ, List, [], ◌∷◌, true, false, Result, Ok, Err, arith, rules}
use Rattle.std.specs.Prelude.{MatchOption}
use Rattle.std.specs.Char.{is_ascii_digit}
use Rattle.std.specs.List.{list_all}
use Rattle.std.specs.Result.{result_ok, OkIff}
use Rattle.std.specs.Str.{IsAscii, IsUtf8}
use Rattle.std.specs.Str.Parse.{digits_value, ParsesUnsigned}
use Rattle.std.proofs.lemmas.Bool.{and_parts}
use Rattle.std.proofs.lemmas.Str.{IsUtf8-from_ascii}
use Rattle.std.proofs.lemmas.Str.Ascii.{IsAscii-nil, IsAscii-cons}
use Rattle.std.proofs.lemmas.Str.Parse.{IsNumeralModel, numerals_by_value, parse_digits}
use Rattle.session_words.specs.Words.{SpellsNumber}

own : IsNumeralModel (λ ds. list_all is_ascii_digit ds ≡ true) (digits_value 10)
own = numerals_by_value _ (search rules)

pub no_digits : (n : ℕ) (ds : List ℕ) → list_all is_ascii_digit ds ≡ false → ¬ SpellsNumber n ds
no_digits n ds h s = let t = own.from ds s.numeral.1 in absurd (cc (t, h))

ascii_digits : (ds : List ℕ) → list_all is_ascii_digit ds ≡ true → IsAscii ds
ascii_digits [] h = IsAscii-nil
ascii_digits (c ∷ cs) h =
    let k = and_parts (is_ascii_digit c) (list_all is_ascii_digit cs) h in
    IsAscii-cons c cs (grind (arith, k.0)) (ascii_digits cs k.1)

pub utf8_digits : (ds : List ℕ) → list_all is_ascii_digit ds ≡ true → IsUtf8 ds
utf8_digits ds h = IsUtf8-from_ascii ds (ascii_digits ds h)

pub number_from : {E : Type 0} (ds : List ℕ) (r : Result ℕ E) → ParsesUnsigned 32 10 ds r → list_all is_ascii_digit ds ≡ true
    → MatchOption (result_ok r) ((n : ℕ) → n < 2 ^ 32 → ¬ SpellsNumber n ds) (λ n. SpellsNumber n ds)
number_from {E = E} ds r h p = go r (parse_digits own 32 ds r h p)
  where
    go : (r : Result ℕ E) → OkIff r ((0 < length ds) × (digits_value 10 ds < 2 ^ 32)) (digits_value 10 ds) → MatchOption (result_ok r) ((n : ℕ) → n < 2 ^ 32 → ¬ SpellsNumber n ds) (λ n. SpellsNumber n ds)
    go (Ok v) k = record { numeral = (k.0.0, own.to ds p); value = k.1 }
    go (Err e) k = λ n small s. k (s.numeral.0, rw (← s.value) small)
