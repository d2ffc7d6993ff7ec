-- The test of a name says whether it meets the rule.
use Rattle.std.proofs.Common.{◌≡◌, ◌⊎◌, suc, ◌≤◌, ℕ, List, [], ◌∷◌, length, Bool, true, false, ◌||◌, ◌==◌, Contains, refl, arith, inl, inr}
use Rattle.std.specs.List.{list_any}
use Rattle.std.proofs.lemmas.Bool.{eqb-true, eq-eqb}
use Rattle.std.proofs.lemmas.List.Folds.{list_any_at}
use Rattle.nfs_types.specs.Names.{IsName, is_no_name}

either : (a b : Bool) → (a || b) ≡ true → (a ≡ true) ⊎ (b ≡ true)
either true b h = inl refl
either false b h = inr h

neither : (a b : Bool) → (a || b) ≡ false → (a ≡ false) × (b ≡ false)
neither true b h = absurd cc
neither false b h = (refl, h)

has : (c : ℕ) (bytes : List ℕ) → list_any (λ y. y == c) bytes ≡ true → Contains bytes c
has c [] h = absurd cc
has c (x ∷ xs) h =
    elim (either (x == c) (list_any (λ y. y == c) xs) h) [
      | inl is ↦ (0, omega arith, eqb-true x c is)
      | inr more ↦ let r = has c xs more in (suc r.0, omega (arith, r.1), r.2)
    ]

lacks : (c : ℕ) (bytes : List ℕ) → list_any (λ y. y == c) bytes ≡ false → ¬ Contains bytes c
lacks c bytes h = λ k. let t = list_any_at (λ y. y == c) bytes k.0 c k.1 (eq-eqb _ _ k.2) in absurd (cc (t, h))

not_true : (b : Bool) → ¬ (b ≡ true) → b ≡ false
not_true true h = absurd (h refl)
not_true false h = refl

lacking : (c : ℕ) (bytes : List ℕ) → ¬ Contains bytes c → list_any (λ y. y == c) bytes ≡ false
lacking c bytes h = not_true _ (λ t. h (has c bytes t))

-- what passes the test is a name
pub name_of_test : (bytes : List ℕ) → length bytes ≤ 255 → is_no_name bytes ≡ false → IsName bytes
name_of_test [] le h = absurd cc
name_of_test (b ∷ bytes) le h =
    let n = neither (list_any (λ y. y == 47) (b ∷ bytes)) (list_any (λ y. y == 0) (b ∷ bytes)) h in
    record { some = omega arith; bound = le; no_slash = lacks 47 (b ∷ bytes) n.0; no_zero = lacks 0 (b ∷ bytes) n.1 }

-- a name passes it
pub test_of_name : (bytes : List ℕ) → IsName bytes → is_no_name bytes ≡ false
test_of_name [] k = absurd (omega (arith, k.some))
test_of_name (b ∷ bytes) k = rw (lacking 47 (b ∷ bytes) k.no_slash, lacking 0 (b ∷ bytes) k.no_zero) refl

-- what fails it is none
pub none_of_test : (bytes : List ℕ) → is_no_name bytes ≡ true → ¬ IsName bytes
none_of_test bytes h = λ k. let t = test_of_name bytes k in absurd (cc (t, h))
