-- A clock that goes on by the same step tells each reading.
use Rattle.std.proofs.Common.{◌≡◌, ◌+◌, min, ℕ, suc, true, false, cond, eqb, List, Option, Some, None, refl, ap, arith}
use Rattle.std.proofs.lemmas.Bool.{eqb-false, eqb-true, eq-eqb}
use Rattle.outside.specs.Clock.{ReadsClock, reading, readings}

abbrev told_at : ℕ → ℕ → Option (List ℕ)
told_at tick count = cond (eqb count 18446744073709551615) None (Some (readings tick count))

goes_on : (tick count next : ℕ) → next ≡ suc count → ReadsClock (Some (readings tick count)) (Some (readings tick next)) (reading tick count)
goes_on tick count next e = ap (readings tick) e

after : (tick count next : ℕ) → next ≡ min (count + 1) 18446744073709551615 → ReadsClock (Some (readings tick count)) (told_at tick next) (reading tick count)
after tick count next e =
    elim (eqb next 18446744073709551615) as (λ b. eqb next 18446744073709551615 ≡ b → ReadsClock (Some (readings tick count)) (cond b None (Some (readings tick next))) (reading tick count)) [
      | true ↦ λ f. tt
      | false ↦ λ f. goes_on tick count next (let d = eqb-false _ _ f in omega (arith, e, d))
    ] refl

-- at its last count it doesn't tell, and stays there
stays : (tick count next : ℕ) → next ≡ min (count + 1) 18446744073709551615 → count ≡ 18446744073709551615 → ReadsClock None (told_at tick next) (reading tick count)
stays tick count next e f = rw (eq-eqb next 18446744073709551615 (omega (arith, e, f))) refl

pub told_step : (tick count next : ℕ) → next ≡ min (count + 1) 18446744073709551615 → ReadsClock (told_at tick count) (told_at tick next) (reading tick count)
told_step tick count next e =
    elim (eqb count 18446744073709551615) as (λ b. eqb count 18446744073709551615 ≡ b → ReadsClock (cond b None (Some (readings tick count))) (told_at tick next) (reading tick count)) [
      | true ↦ λ f. stays tick count next e (eqb-true _ _ f)
      | false ↦ λ f. after tick count next e
    ] refl
