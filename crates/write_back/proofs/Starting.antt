-- A walk over the segments from a place on, in order.
use Rattle.std.proofs.Common.{◌≡◌, ◌≤◌, ℕ, Bool, true, false, [], ◌∷◌, refl, arith}
use Rattle.std.specs.Prelude.{nat_le}
use Rattle.std.proofs.lemmas.Bool.{le-leb}
use Rattle.write_back.specs.Segments.{Segment, Segments, AreApart, end_of}
use Rattle.write_back.specs.Walk.{begun_from, first_that}
use Rattle.write_back.proofs.Changing.{apart-lower}

-- they share no place either
pub apart-begun : (place from : ℕ) (es : Segments) → AreApart from es → AreApart from (begun_from place es)
apart-begun place from [] apart = tt
apart-begun place from (e ∷ es) apart = by (nat_le place e.0) refl (apart-begun place (end_of e) es apart.3)
  where
    by : (b : Bool) → nat_le place e.0 ≡ b → AreApart (end_of e) (begun_from place es) → AreApart from (begun_from place (e ∷ es))
    by true h more = rw h (apart.0, apart.1, apart.2, more)
    by false h more = rw h (apart-lower from (end_of e) (begun_from place es) (omega (arith, apart.0)) more)

-- the first one that passes a test
pub that-begun : (test : ℕ × Segment → Bool) (place : ℕ) (es : Segments) → first_that test 0 (begun_from place es) ≡ first_that test place es
that-begun test place [] = refl
that-begun test place (e ∷ es) = by (nat_le place e.0) refl (that-begun test place es)
  where
    by : (b : Bool) → nat_le place e.0 ≡ b → first_that test 0 (begun_from place es) ≡ first_that test place es → first_that test 0 (begun_from place (e ∷ es)) ≡ first_that test place (e ∷ es)
    by true h more = let first : nat_le 0 e.0 ≡ true = le-leb 0 e.0 (omega arith) in rw (h, first, more) refl
    by false h more = rw h more

-- one that fails it is passed over
pub that-passed : (test : ℕ × Segment → Bool) (e : ℕ × Segment) (es : Segments) → test e ≡ false → first_that test 0 (e ∷ es) ≡ first_that test 0 es
that-passed test e es fails = let first : nat_le 0 e.0 ≡ true = le-leb 0 e.0 (omega arith) in rw (first, fails) refl
