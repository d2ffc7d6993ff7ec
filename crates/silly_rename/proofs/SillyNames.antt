-- A name that stands for an open file meets the rule of a name.
use Rattle.std.proofs.Common.{◌≡◌, ◌<◌, ◌≤◌, ℕ, zero, suc, ◌/◌, ◌%◌, List, [], ◌∷◌, ◌++◌, append-nil, length, Bool, true, false, ◌||◌, ◌==◌, slice_index, Option, Some, None, MatchOption, IsSome, unwrap_or, refl, sym, ap, subst, ◌∙◌, arith, lit≤}
use Rattle.std.specs.List.{list_any}
use Rattle.std.specs.Int.{w32, byte_at, bytes_high_first, to_be_bytes}
use Rattle.hex.specs.Hex.{lower_digits, encode_with, encode_lower}
use Rattle.nfs_types.specs.Names.{IsName}
use Rattle.nfs_types.proofs.Names.{name_of_test}
use Rattle.silly_rename.specs.Plans.{silly_name}

neither : (a b : Bool) → (a || b) ≡ false → (a ≡ false) × (b ≡ false)
neither true b h = absurd cc
neither false b h = (refl, h)

-- a byte that a table lacks is at none of its places
at_place : (x : ℕ) (t : List ℕ) (k : ℕ) → list_any (λ y. y == x) t ≡ false → k < length t → (slice_index t k == x) ≡ false
at_place x [] k h lt = absurd (omega (arith, lt))
at_place x (y ∷ ys) zero h lt = (neither (y == x) (list_any (λ y. y == x) ys) h).0
at_place x (y ∷ ys) (suc k) h lt = at_place x ys k (neither (y == x) (list_any (λ y. y == x) ys) h).1 (omega (arith, lt))

byte_at-fits : (k n : ℕ) → byte_at k n < 256
byte_at-fits zero n = omega arith
byte_at-fits (suc k) n = omega arith

-- a byte that is no digit isn't among the digits of a number
digits-lack : (x : ℕ) → list_any (λ y. y == x) lower_digits ≡ false → (k n : ℕ) → list_any (λ y. y == x) (encode_lower (bytes_high_first k n)) ≡ false
unfolding encode_with
digits-lack x h zero n = refl
digits-lack x h (suc k) n =
    let fits = byte_at-fits k n in
    rw (at_place x lower_digits (byte_at k n / 16) h (omega (arith, fits)), at_place x lower_digits (byte_at k n % 16) h (omega arith)) (digits-lack x h k n)

pub silly_name-is_name : (counter : ℕ) → IsName (silly_name counter)
unfolding silly_name encode_with
silly_name-is_name counter = name_of_test (silly_name counter) (lit≤ tt) (rw (digits-lack 47 refl 4 counter, digits-lack 0 refl 4 counter) refl)

-- the digits behind `.nfs`
pub spelled : (out : List ℕ) (counter : ℕ) → out ≡ encode_lower (to_be_bytes w32 counter) → 46 ∷ 110 ∷ 102 ∷ 115 ∷ (out ++ []) ≡ silly_name counter
unfolding silly_name
spelled out counter same = rw (append-nil out, same) refl

-- what is made of a silly name is that name
made : (o : Option (List ℕ)) (bytes : List ℕ) (counter : ℕ) → MatchOption o (¬ IsName bytes) (λ n. (n ≡ bytes) × IsName bytes) → bytes ≡ silly_name counter → o ≡ Some (silly_name counter)
made None bytes counter h same = absurd (h (subst IsName (sym same) (silly_name-is_name counter)))
made (Some n) bytes counter h same = ap Some (h.0 ∙ same)

pub made-some : (o : Option (List ℕ)) (bytes : List ℕ) (counter : ℕ) → MatchOption o (¬ IsName bytes) (λ n. (n ≡ bytes) × IsName bytes) → bytes ≡ silly_name counter → IsSome o
made-some o bytes counter h same = rw (made o bytes counter h same) refl

pub made-is : (o : Option (List ℕ)) (n bytes : List ℕ) (counter : ℕ) → o ≡ Some n → MatchOption o (¬ IsName bytes) (λ n. (n ≡ bytes) × IsName bytes) → bytes ≡ silly_name counter → n ≡ silly_name counter
made-is o n bytes counter is h same = ap (λ r. unwrap_or r n) (sym is ∙ made o bytes counter h same)
