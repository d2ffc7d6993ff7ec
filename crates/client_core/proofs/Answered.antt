-- A lane of a number less than the least of those with an answer has none.
use Rattle.std.proofs.Common.{◌≡◌, ◌<◌, ℕ, zero, suc, List, [], ◌∷◌, length, Bool, true, false, Option, Some, None, position, get_or, refl, arith}
use Rattle.std.specs.Prelude.{◌==◌}
use Rattle.std.proofs.lemmas.Bool.{ne_eqb}
use Rattle.std.proofs.lemmas.List.Quantifiers.{position-Some}
use Rattle.client_core.specs.declared.lane.Lane.{Lane}
use Rattle.client_core.specs.declared.lane.State.{State}
use Rattle.client_core.specs.declared.lane.State.TheVariants.{Busy, Over}
use Rattle.client_core.specs.Lanes.{is_over, over_by, least_by, least_answered, IsUnder, AnsweredFrom}

under-by : (k : ℕ) (first : Option ℕ) (number : ℕ) (s : State) → IsUnder k (least_by first number s) → IsUnder k first
under-by k first number (Busy machine) u = u
under-by k None number (Over answer) u = tt
under-by k (Some least) number (Over answer) u = omega (arith, u)

under-all : (k : ℕ) (first : Option ℕ) (lanes : List Lane) → IsUnder k (least_answered first lanes) → IsUnder k first
under-all k first [] u = u
under-all k first (x ∷ xs) u = under-by k first x.number x.state (under-all k (least_by first x.number x.state) xs u)

not-over : (k : ℕ) (first : Option ℕ) (number : ℕ) (s : State) → IsUnder k (least_by first number s) → over_by (number == k) s ≡ false
not-over k first number (Busy machine) u = refl
not-over k None number (Over answer) u = ne_eqb number k (λ same. absurd (omega (arith, u, same)))
not-over k (Some least) number (Over answer) u = ne_eqb number k (λ same. absurd (omega (arith, u, same)))

none-at : (k : ℕ) (first : Option ℕ) (lanes : List Lane) (i : ℕ) (d : Lane) → IsUnder k (least_answered first lanes) → i < length lanes → is_over k (get_or lanes i d) ≡ false
none-at k first [] i d u lt = absurd (omega (arith, lt))
none-at k first (x ∷ xs) zero d u lt = not-over k first x.number x.state (under-all k (least_by first x.number x.state) xs u)
none-at k first (x ∷ xs) (suc i) d u lt = none-at k (least_by first x.number x.state) xs i d u (omega (arith, lt))

differ : (b : Bool) → b ≡ true → b ≡ false → ⊥
differ true t f = absurd (cc)
differ false t f = absurd (cc)

pub answered-from : (lanes : List Lane) → AnsweredFrom (least_answered None lanes) lanes
answered-from [] k u = refl
answered-from (x ∷ xs) k u = by (position (is_over k) (x ∷ xs)) refl
  where
    by : (o : Option ℕ) → position (is_over k) (x ∷ xs) ≡ o → position (is_over k) (x ∷ xs) ≡ None
    by None e = e
    by (Some at) e =
        let p = position-Some (is_over k) (x ∷ xs) at x e in
        absurd (differ (is_over k (get_or (x ∷ xs) at x)) p.1 (none-at k None (x ∷ xs) at x u p.0))
