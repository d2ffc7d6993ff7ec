-- The number that a hidden name spells.
use Rattle.std.proofs.Common.{◌≡◌, ◌<◌, ◌+◌, ◌-◌, ◌*◌, ◌/◌, ◌%◌, ℕ, zero, suc, List, [], ◌∷◌, drop, slice_index, refl, ap, ◌∙◌, arith}
use Rattle.std.specs.Prelude.{if◌then◌else◌, nat_le}
use Rattle.std.specs.Int.{byte_at, bytes_high_first}
use Rattle.hex.specs.Hex.{lower_digits, encode_with, encode_lower}
use Rattle.silly_rename.specs.Plans.{silly_name}

-- a digit's value, and that of digits after others
abbrev digit_value : ℕ → ℕ
digit_value digit = if nat_le digit 57 then digit - 48 else digit - 87

abbrev digits_value : List ℕ → ℕ → ℕ
digits_value [] before = before
digits_value (digit ∷ digits) before = digits_value digits (before * 16 + digit_value digit)

abbrev pub number_of : List ℕ → ℕ
number_of name = digits_value (drop 4 name) 0

-- each of the sixteen digits
digit-is : (n : ℕ) → n < 16 → digit_value (slice_index lower_digits n) ≡ n
digit-is zero low = refl
digit-is (suc zero) low = refl
digit-is (suc (suc zero)) low = refl
digit-is (suc (suc (suc zero))) low = refl
digit-is (suc (suc (suc (suc zero)))) low = refl
digit-is (suc (suc (suc (suc (suc zero))))) low = refl
digit-is (suc (suc (suc (suc (suc (suc zero)))))) low = refl
digit-is (suc (suc (suc (suc (suc (suc (suc zero))))))) low = refl
digit-is (suc (suc (suc (suc (suc (suc (suc (suc zero)))))))) low = refl
digit-is (suc (suc (suc (suc (suc (suc (suc (suc (suc zero))))))))) low = refl
digit-is (suc (suc (suc (suc (suc (suc (suc (suc (suc (suc zero)))))))))) low = refl
digit-is (suc (suc (suc (suc (suc (suc (suc (suc (suc (suc (suc zero))))))))))) low = refl
digit-is (suc (suc (suc (suc (suc (suc (suc (suc (suc (suc (suc (suc zero)))))))))))) low = refl
digit-is (suc (suc (suc (suc (suc (suc (suc (suc (suc (suc (suc (suc (suc zero))))))))))))) low = refl
digit-is (suc (suc (suc (suc (suc (suc (suc (suc (suc (suc (suc (suc (suc (suc zero)))))))))))))) low = refl
digit-is (suc (suc (suc (suc (suc (suc (suc (suc (suc (suc (suc (suc (suc (suc (suc zero))))))))))))))) low = refl
digit-is (suc (suc (suc (suc (suc (suc (suc (suc (suc (suc (suc (suc (suc (suc (suc (suc n)))))))))))))))) low = absurd (omega (arith, low))

byte-low : (k n : ℕ) → byte_at k n < 256
byte-low zero n = omega arith
byte-low (suc k) n = omega arith

-- two digits of a byte
byte-read : (digits : List ℕ) (byte before : ℕ) → byte < 256
    → digits_value digits ((before * 16 + digit_value (slice_index lower_digits (byte / 16))) * 16 + digit_value (slice_index lower_digits (byte % 16))) ≡ digits_value digits (before * 256 + byte)
byte-read digits byte before low =
    ap (λ (v : ℕ). digits_value digits ((before * 16 + v) * 16 + digit_value (slice_index lower_digits (byte % 16)))) (digit-is (byte / 16) (omega (arith, low)))
    ∙ ap (λ (v : ℕ). digits_value digits ((before * 16 + byte / 16) * 16 + v)) (digit-is (byte % 16) (omega arith))
    ∙ ap (λ (v : ℕ). digits_value digits v) (both before byte)
  where
    both : (b c : ℕ) → (b * 16 + c / 16) * 16 + c % 16 ≡ b * 256 + c
    both b c = omega arith

bytes-read : (k n before : ℕ) → digits_value (encode_lower (bytes_high_first (suc k) n)) before ≡ digits_value (encode_lower (bytes_high_first k n)) (before * 256 + byte_at k n)
unfolding encode_with
bytes-read k n before = byte-read (encode_lower (bytes_high_first k n)) (byte_at k n) before (byte-low k n)

four-bytes : (n : ℕ) → n < 4294967296 → (((0 * 256 + n / 16777216 % 256) * 256 + n / 65536 % 256) * 256 + n / 256 % 256) * 256 + n % 256 ≡ n
four-bytes n low = omega (arith, low)

pub silly-number : (n : ℕ) → n < 4294967296 → number_of (silly_name n) ≡ n
unfolding silly_name encode_with
silly-number n low =
    bytes-read 3 n 0
    ∙ bytes-read 2 n (0 * 256 + byte_at 3 n)
    ∙ bytes-read 1 n ((0 * 256 + byte_at 3 n) * 256 + byte_at 2 n)
    ∙ bytes-read 0 n (((0 * 256 + byte_at 3 n) * 256 + byte_at 2 n) * 256 + byte_at 1 n)
    ∙ four-bytes n low
