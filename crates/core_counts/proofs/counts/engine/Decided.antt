-- Whether two lists of numbers are one.
use Rattle.core_counts.proofs.Prelude.{◌≡◌, ◌&&◌, ℕ, nat_eq, Bool, true, false, List, [], ◌∷◌, refl, ap, ◌∙◌, eqb-true, eq-eqb}

abbrev pub same_list : List ℕ → List ℕ → Bool
same_list [] [] = true
same_list [] (b ∷ ys) = false
same_list (a ∷ xs) [] = false
same_list (a ∷ xs) (b ∷ ys) = nat_eq a b && same_list xs ys

pub first-of : (a b : Bool) → (a && b) ≡ true → a ≡ true
first-of true b e = refl
first-of false b e = absurd (let no_way : false ≡ true = e in cc)

pub second-of : (a b : Bool) → (a && b) ≡ true → b ≡ true
second-of true b e = e
second-of false b e = absurd (let no_way : false ≡ true = e in cc)

pub both-of : (a b : Bool) → a ≡ true → b ≡ true → (a && b) ≡ true
both-of true b e f = f
both-of false b e f = absurd (let no_way : false ≡ true = e in cc)

pub list-is : (xs ys : List ℕ) → same_list xs ys ≡ true → xs ≡ ys
list-is [] [] e = refl
list-is [] (b ∷ ys) e = absurd (let no_way : false ≡ true = e in cc)
list-is (a ∷ xs) [] e = absurd (let no_way : false ≡ true = e in cc)
list-is (a ∷ xs) (b ∷ ys) e =
    ap (λ (n : ℕ). n ∷ xs) (eqb-true a b (first-of (nat_eq a b) (same_list xs ys) e)) ∙ ap (λ (ns : List ℕ). b ∷ ns) (list-is xs ys (second-of (nat_eq a b) (same_list xs ys) e))

pub list-same : (xs : List ℕ) → same_list xs xs ≡ true
list-same [] = refl
list-same (a ∷ xs) = both-of (nat_eq a a) (same_list xs xs) (eq-eqb a a refl) (list-same xs)
