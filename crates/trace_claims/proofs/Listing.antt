-- Lists with one member more.
use Rattle.std.proofs.Common.{◌≡◌, ◌⊎◌, inl, inr, ℕ, zero, suc, List, [], ◌∷◌, ◌++◌, length, Some, slice_get, refl, sym, ◌∙◌}

some-one : {X : Type 0} (a b : X) → Some a ≡ Some b → a ≡ b
some-one a b e = cc

-- what a list with one member more has, it had, or is that member
pub get-last : {X : Type 0} (xs : List X) (x : X) (k : ℕ) (y : X) → slice_get (xs ++ x ∷ []) k ≡ Some y → (slice_get xs k ≡ Some y) ⊎ (x ≡ y)
get-last [] x zero y at = inr (some-one x y at)
get-last [] x (suc k) y at = absurd cc
get-last (z ∷ xs) x zero y at = inl at
get-last (z ∷ xs) x (suc k) y at = get-last xs x k y at

pub get-grow : {X : Type 0} (xs : List X) (x : X) (k : ℕ) (y : X) → slice_get xs k ≡ Some y → slice_get (xs ++ x ∷ []) k ≡ Some y
get-grow [] x k y at = absurd cc
get-grow (z ∷ xs) x zero y at = at
get-grow (z ∷ xs) x (suc k) y at = get-grow xs x k y at

pub get-new : {X : Type 0} (xs : List X) (x : X) → slice_get (xs ++ x ∷ []) (length xs) ≡ Some x
get-new [] x = refl
get-new (z ∷ xs) x = get-new xs x

pub get-one : {X : Type 0} (x : X) (k : ℕ) (y : X) → slice_get (x ∷ []) k ≡ Some y → x ≡ y
get-one x zero y at = some-one x y at
get-one x (suc k) y at = absurd cc

-- one place has one member
pub get-same : {X : Type 0} (xs : List X) (k : ℕ) (x y : X) → slice_get xs k ≡ Some x → slice_get xs k ≡ Some y → x ≡ y
get-same xs k x y a b = some-one x y (sym a ∙ b)
