-- A silly name is a hidden one.
use Rattle.std.proofs.Common.{◌<◌, ◌≤◌, inl, inr, ◌/◌, ◌%◌, ℕ, zero, suc, List, [], ◌∷◌, length, slice_index, refl, arith}
use Rattle.std.specs.List.{AllByRecursion}
use Rattle.std.specs.Prelude.{All, codes}
use Rattle.std.specs.Int.{w32, byte_at, bytes_high_first, to_be_bytes}
use Rattle.std.proofs.lemmas.List.Elements.{All-from_recursion, All-nil, All-cons, All-head, All-tail}
use Rattle.hex.specs.Hex.{lower_digits, encode_with, encode_lower}
use Rattle.silly_rename.specs.Plans.{silly_name}
use Rattle.claims.specs.Hidden.{IsHexDigit, IsHidden}

digit-at : (t : List ℕ) (k : ℕ) → All IsHexDigit t → k < length t → IsHexDigit (slice_index t k)
digit-at [] k all within = absurd (omega (arith, within))
digit-at (y ∷ ys) zero all within = All-head IsHexDigit y ys all
digit-at (y ∷ ys) (suc k) all within = digit-at ys k (All-tail IsHexDigit y ys all) (omega (arith, within))

cons : (x : ℕ) (xs : List ℕ) → IsHexDigit x → All IsHexDigit xs → All IsHexDigit (x ∷ xs)
cons x xs p all = All-cons IsHexDigit x xs p all

number : (x : ℕ) → 48 ≤ x → x ≤ 57 → IsHexDigit x
number x low high = inl (low, high)

letter : (x : ℕ) → 97 ≤ x → x ≤ 102 → IsHexDigit x
letter x low high = inr (low, high)

letters : AllByRecursion IsHexDigit (codes "abcdef")
letters = (
  letter 97 (omega arith) (omega arith),
  (
    letter 98 (omega arith) (omega arith),
    (
      letter 99 (omega arith) (omega arith),
      (letter 100 (omega arith) (omega arith), (letter 101 (omega arith) (omega arith), (letter 102 (omega arith) (omega arith), tt))),
    ),
  ),
)

from_five : AllByRecursion IsHexDigit (codes "56789abcdef")
from_five = (
  number 53 (omega arith) (omega arith),
  (
    number 54 (omega arith) (omega arith),
    (
      number 55 (omega arith) (omega arith),
      (number 56 (omega arith) (omega arith), (number 57 (omega arith) (omega arith), letters)),
    ),
  ),
)

table : All IsHexDigit lower_digits
table = All-from_recursion IsHexDigit lower_digits (
  number 48 (omega arith) (omega arith),
  (
    number 49 (omega arith) (omega arith),
    (number 50 (omega arith) (omega arith), (number 51 (omega arith) (omega arith), (number 52 (omega arith) (omega arith), from_five))),
  ),
)

fits : (k n : ℕ) → byte_at k n < 256
fits zero n = omega arith
fits (suc k) n = omega arith

digits : (k n : ℕ) → All IsHexDigit (encode_lower (bytes_high_first k n))
unfolding encode_with
digits zero n = All-nil IsHexDigit
digits (suc k) n =
    let small = fits k n in
    cons (slice_index lower_digits (byte_at k n / 16)) (slice_index lower_digits (byte_at k n % 16) ∷ encode_lower (bytes_high_first k n))
    (digit-at lower_digits (byte_at k n / 16) table (omega (arith, small)))
    (cons (slice_index lower_digits (byte_at k n % 16)) (encode_lower (bytes_high_first k n)) (digit-at lower_digits (byte_at k n % 16) table (omega arith)) (digits k n))

pub silly-hidden : (counter : ℕ) → IsHidden (silly_name counter)
unfolding silly_name encode_with
silly-hidden counter = record { digits = encode_lower (to_be_bytes w32 counter); is = refl; eight = refl; hex = digits 4 counter }
