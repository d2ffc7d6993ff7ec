-- Which place a byte of a call or an operation lands on.
use Rattle.std.proofs.Common.{◌≡◌, ◌<◌, ◌≤◌, ◌+◌, ◌-◌, ℕ, zero, suc, List, [], ◌∷◌, length, Some, slice_get, Bool, true, false, nat_lt, bytes_eq, refl, arith}
use Rattle.std.proofs.lemmas.Bool.{ltb-false, le-ltb}
use Rattle.std.proofs.lemmas.Slice.Eq.{bytes_eq-Decides}
use Rattle.model_writes.specs.Story.{File, Spot, covers}

pub byte_below : (bytes : List ℕ) (k y : ℕ) → slice_get bytes k ≡ Some y → k < length bytes
byte_below [] k y e = absurd cc
byte_below (b ∷ bytes) zero y e = omega arith
byte_below (b ∷ bytes) (suc k) y e = let r = byte_below bytes k y e in omega (arith, r)

pub covers_is : (file : File) (o : ℕ) (bytes : List ℕ) (i : Spot) (y : ℕ) → covers file o bytes i ≡ Some y → (o ≤ i.at) × (slice_get bytes (i.at - o) ≡ Some y)
unfolding covers
covers_is file o bytes i y e = by (bytes_eq file i.file) refl (nat_lt i.at o) refl
  where
    by : (same : Bool) → bytes_eq file i.file ≡ same → (low : Bool) → nat_lt i.at o ≡ low → (o ≤ i.at) × (slice_get bytes (i.at - o) ≡ Some y)
    by false s low l = absurd (cc (rw s at e))
    by true s true l = absurd (cc (rw (s, l) at e))
    by true s false l = (ltb-false i.at o l, rw (s, l) at e)

pub covers_from : (file : File) (o : ℕ) (bytes : List ℕ) (i : Spot) (y : ℕ) → file ≡ i.file → o ≤ i.at → slice_get bytes (i.at - o) ≡ Some y → covers file o bytes i ≡ Some y
unfolding covers
covers_from file o bytes i y f le e = rw ((bytes_eq-Decides file i.file).1 f, le-ltb i.at o le) e

pub covers_within : (file : File) (o : ℕ) (bytes : List ℕ) (i : Spot) (y : ℕ) → covers file o bytes i ≡ Some y → i.at < o + length bytes
covers_within file o bytes i y e = let c = covers_is file o bytes i y e in let low = c.0 in let b = byte_below bytes (i.at - o) y c.1 in omega (arith, low, b)
