-- The sixteen digits of lower case, by their numbers.
use Rattle.std.proofs.Common.{◌≡◌, [], ◌∷◌, ◌/◌, ◌%◌, ◌<◌, ◌≤◌, ◌+◌, ℕ, zero, suc, slice_index, nat_lt, if◌then◌else◌, true, false, refl, sym, arith}
use Rattle.std.proofs.lemmas.Bool.{lt-ltb, le-ltb}
use Rattle.hex.specs.Hex.{encode_lower, encode_with, lower_digits}

each : (n : ℕ) → n < 16 → slice_index lower_digits n ≡ (if nat_lt n 10 then 48 + n else 87 + n)
each zero below = refl
each (suc zero) below = refl
each (suc (suc zero)) below = refl
each (suc (suc (suc zero))) below = refl
each (suc (suc (suc (suc zero)))) below = refl
each (suc (suc (suc (suc (suc zero))))) below = refl
each (suc (suc (suc (suc (suc (suc zero)))))) below = refl
each (suc (suc (suc (suc (suc (suc (suc zero))))))) below = refl
each (suc (suc (suc (suc (suc (suc (suc (suc zero)))))))) below = refl
each (suc (suc (suc (suc (suc (suc (suc (suc (suc zero))))))))) below = refl
each (suc (suc (suc (suc (suc (suc (suc (suc (suc (suc zero)))))))))) below = refl
each (suc (suc (suc (suc (suc (suc (suc (suc (suc (suc (suc zero))))))))))) below = refl
each (suc (suc (suc (suc (suc (suc (suc (suc (suc (suc (suc (suc zero)))))))))))) below = refl
each (suc (suc (suc (suc (suc (suc (suc (suc (suc (suc (suc (suc (suc zero))))))))))))) below = refl
each (suc (suc (suc (suc (suc (suc (suc (suc (suc (suc (suc (suc (suc (suc zero)))))))))))))) below = refl
each (suc (suc (suc (suc (suc (suc (suc (suc (suc (suc (suc (suc (suc (suc (suc zero))))))))))))))) below = refl
each (suc (suc (suc (suc (suc (suc (suc (suc (suc (suc (suc (suc (suc (suc (suc (suc n)))))))))))))))) below = absurd (omega (arith, below))

pub numeral : (n : ℕ) → n < 10 → 48 + n ≡ slice_index lower_digits n
numeral n below = let first : nat_lt n 10 ≡ true = lt-ltb n 10 below in let is = each n (omega (arith, below)) in sym (rw first at is)

pub letter : (n : ℕ) → n < 16 → 10 ≤ n → 87 + n ≡ slice_index lower_digits n
letter n below from = let later : nat_lt n 10 ≡ false = le-ltb n 10 from in let is = each n below in sym (rw later at is)

pub of_byte : (byte : ℕ) → encode_lower (byte ∷ []) ≡ slice_index lower_digits (byte / 16) ∷ slice_index lower_digits (byte % 16) ∷ []
unfolding encode_with
of_byte byte = refl
