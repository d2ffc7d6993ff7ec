-- What stands at a place of two lists that are joined.
use Rattle.std.proofs.Common.{inl, inr, ◌⊎◌, ◌≡◌, ◌+◌, ℕ, zero, suc, List, [], ◌∷◌, ◌++◌, length, take, Some, slice_get, refl, ap, arith}

-- it stands at that place of the second
pub record Behind {E : Type 0} (xs ys : List E) (n : ℕ) (e : E) : Type 0 where
  pub at : ℕ
  pub place : n ≡ length xs + at
  pub is : slice_get ys at ≡ Some e

further : {E : Type 0} → (x : E) (xs ys : List E) (n : ℕ) (e : E) → Behind xs ys n e → Behind (x ∷ xs) ys (suc n) e
further x xs ys n e b = let p = b.place in record { at = b.at; place = omega (arith, p); is = b.is }

pub get_cases : {E : Type 0} → (xs ys : List E) (n : ℕ) (e : E) → slice_get (xs ++ ys) n ≡ Some e → (slice_get xs n ≡ Some e) ⊎ Behind xs ys n e
get_cases [] ys n e g = inr (record { at = n; place = omega arith; is = g })
get_cases (x ∷ xs) ys zero e g = inl g
get_cases (x ∷ xs) ys (suc n) e g = elim (get_cases xs ys n e g) [ inl l ↦ inl l | inr b ↦ inr (further x xs ys n e b) ]

pub get_grow : {E : Type 0} → (xs ys : List E) (n : ℕ) (e : E) → slice_get xs n ≡ Some e → slice_get (xs ++ ys) n ≡ Some e
get_grow [] ys n e g = absurd cc
get_grow (x ∷ xs) ys zero e g = g
get_grow (x ∷ xs) ys (suc n) e g = get_grow xs ys n e g

pub get_front : {E : Type 0} → (xs : List E) (y : E) (ys : List E) → slice_get (xs ++ y ∷ ys) (length xs) ≡ Some y
get_front [] y ys = refl
get_front (x ∷ xs) y ys = get_front xs y ys

pub get_next : {E : Type 0} → (xs : List E) (x y : E) (ys : List E) → slice_get (xs ++ x ∷ y ∷ ys) (suc (length xs)) ≡ Some y
get_next [] x y ys = refl
get_next (z ∷ xs) x y ys = get_next xs x y ys

pub take_grow : {E : Type 0} → (xs ys : List E) (n : ℕ) (e : E) → slice_get xs n ≡ Some e → take n (xs ++ ys) ≡ take n xs
take_grow [] ys n e g = absurd cc
take_grow (x ∷ xs) ys zero e g = refl
take_grow {E} (x ∷ xs) ys (suc n) e g = ap (λ (t : List E). x ∷ t) (take_grow xs ys n e g)

pub take_front : {E : Type 0} → (xs ys : List E) → take (length xs) (xs ++ ys) ≡ xs
take_front [] ys = refl
take_front {E} (x ∷ xs) ys = ap (λ (t : List E). x ∷ t) (take_front xs ys)
