-- An item is put where the first stands that passes, before it, or at the end.
use Rattle.std.proofs.Common.{◌≡◌, ◌<◌, ◌+◌, ℕ, suc, List, [], ◌∷◌, ◌++◌, length, map, Bool, true, false, Some, None, refl, sym, ap, ◌∙◌, arith}
use Rattle.std.specs.Prelude.{cond, position, insert, nat_lt, not, slice_set, if◌then◌else◌}
use Rattle.std.specs.List.{position_or_len}
use Rattle.std.proofs.lemmas.Bool.{ltb-true, lt-ltb}
use Rattle.trace_text.specs.Lists.{replaced, inserted}

one-more : (k : ℕ) → 1 + k ≡ suc k
one-more k = omega arith

-- ---- at the first place

set-at : {X : Type 0} (p : X → Bool) (x : X) (xs : List X) → position_or_len p xs < length xs → slice_set xs (position_or_len p xs) x ≡ replaced p x xs
set-at p x [] lt = absurd (omega (arith, lt))
set-at p x (y ∷ ys) lt = by (p y) lt (λ less. set-at p x ys less)
  where
    by : (b : Bool) → cond (not b) (1 + position_or_len p ys) 0 < length (y ∷ ys)
        → (position_or_len p ys < length ys → slice_set ys (position_or_len p ys) x ≡ replaced p x ys)
        → slice_set (y ∷ ys) (cond (not b) (1 + position_or_len p ys) 0) x ≡ (if b then x ∷ ys else y ∷ replaced p x ys)
    by true lt rest = refl
    by false lt rest = rw (one-more (position_or_len p ys)) (ap (λ zs. y ∷ zs) (rest (let l : 1 + position_or_len p ys < suc (length ys) = lt in omega (arith, l))))

insert-at : {X : Type 0} (p : X → Bool) (x : X) (xs : List X) → position_or_len p xs < length xs → insert xs (position_or_len p xs) x ≡ inserted p x xs
insert-at p x [] lt = absurd (omega (arith, lt))
insert-at p x (y ∷ ys) lt = by (p y) lt (λ less. insert-at p x ys less)
  where
    by : (b : Bool) → cond (not b) (1 + position_or_len p ys) 0 < length (y ∷ ys)
        → (position_or_len p ys < length ys → insert ys (position_or_len p ys) x ≡ inserted p x ys)
        → insert (y ∷ ys) (cond (not b) (1 + position_or_len p ys) 0) x ≡ (if b then x ∷ y ∷ ys else y ∷ inserted p x ys)
    by true lt rest = refl
    by false lt rest = rw (one-more (position_or_len p ys)) (ap (λ zs. y ∷ zs) (rest (let l : 1 + position_or_len p ys < suc (length ys) = lt in omega (arith, l))))

-- ---- at the end

add-replaced : {X : Type 0} (p : X → Bool) (x : X) (xs : List X) → (position_or_len p xs < length xs → ⊥) → xs ++ x ∷ [] ≡ replaced p x xs
add-replaced p x [] past = refl
add-replaced p x (y ∷ ys) past = by (p y) past (λ none. add-replaced p x ys none)
  where
    by : (b : Bool) → (cond (not b) (1 + position_or_len p ys) 0 < length (y ∷ ys) → ⊥)
        → ((position_or_len p ys < length ys → ⊥) → ys ++ x ∷ [] ≡ replaced p x ys) → y ∷ (ys ++ x ∷ []) ≡ (if b then x ∷ ys else y ∷ replaced p x ys)
    by true past rest = absurd (past (let l : 0 < suc (length ys) = omega arith in l))
    by false past rest = ap (λ zs. y ∷ zs) (rest (λ lt. past (let l : 1 + position_or_len p ys < suc (length ys) = omega (arith, lt) in l)))

add-inserted : {X : Type 0} (p : X → Bool) (x : X) (xs : List X) → (position_or_len p xs < length xs → ⊥) → xs ++ x ∷ [] ≡ inserted p x xs
add-inserted p x [] past = refl
add-inserted p x (y ∷ ys) past = by (p y) past (λ none. add-inserted p x ys none)
  where
    by : (b : Bool) → (cond (not b) (1 + position_or_len p ys) 0 < length (y ∷ ys) → ⊥)
        → ((position_or_len p ys < length ys → ⊥) → ys ++ x ∷ [] ≡ inserted p x ys) → y ∷ (ys ++ x ∷ []) ≡ (if b then x ∷ y ∷ ys else y ∷ inserted p x ys)
    by true past rest = absurd (past (let l : 0 < suc (length ys) = omega arith in l))
    by false past rest = ap (λ zs. y ∷ zs) (rest (λ lt. past (let l : 1 + position_or_len p ys < suc (length ys) = omega (arith, lt) in l)))

-- ---- by what `position` gives

there : (b : Bool) (k at : ℕ) → cond b (Some k) None ≡ Some at → (b ≡ true) × (k ≡ at)
there true k at e = (refl, same k at e)
  where
    same : (a c : ℕ) → Some a ≡ Some c → a ≡ c
    same a c q = cc
there false k at e = absurd cc

nowhere : (b : Bool) (k : ℕ) → cond b (Some k) None ≡ None → b ≡ false
nowhere true k e = absurd cc
nowhere false k e = refl

not-both : (b : Bool) → b ≡ false → b ≡ true → ⊥
not-both true f t = absurd cc
not-both false f t = absurd cc

pub set-first : {X : Type 0} (p : X → Bool) (x : X) (xs : List X) (at : ℕ) → position p xs ≡ Some at → slice_set xs at x ≡ replaced p x xs
set-first p x xs at found =
    let here = there (nat_lt (position_or_len p xs) (length xs)) (position_or_len p xs) at found in
    ap (λ (k : ℕ). slice_set xs k x) (sym here.1) ∙ set-at p x xs (ltb-true (position_or_len p xs) (length xs) here.0)

pub insert-first : {X : Type 0} (p : X → Bool) (x : X) (xs : List X) (at : ℕ) → position p xs ≡ Some at → insert xs at x ≡ inserted p x xs
insert-first p x xs at found =
    let here = there (nat_lt (position_or_len p xs) (length xs)) (position_or_len p xs) at found in
    ap (λ (k : ℕ). insert xs k x) (sym here.1) ∙ insert-at p x xs (ltb-true (position_or_len p xs) (length xs) here.0)

past-all : {X : Type 0} (p : X → Bool) (xs : List X) → position p xs ≡ None → position_or_len p xs < length xs → ⊥
past-all p xs none lt = not-both (nat_lt (position_or_len p xs) (length xs)) (nowhere (nat_lt (position_or_len p xs) (length xs)) (position_or_len p xs) none) (lt-ltb (position_or_len p xs) (length xs) lt)

pub set-last : {X : Type 0} (p : X → Bool) (x : X) (xs : List X) → position p xs ≡ None → xs ++ x ∷ [] ≡ replaced p x xs
set-last p x xs none = add-replaced p x xs (past-all p xs none)

pub insert-last : {X : Type 0} (p : X → Bool) (x : X) (xs : List X) → position p xs ≡ None → xs ++ x ∷ [] ≡ inserted p x xs
insert-last p x xs none = add-inserted p x xs (past-all p xs none)

pub position-within : {X : Type 0} (p : X → Bool) (xs : List X) (at : ℕ) → position p xs ≡ Some at → at < length xs
position-within p xs at found =
    let here = there (nat_lt (position_or_len p xs) (length xs)) (position_or_len p xs) at found in
    let lt : position_or_len p xs < length xs = ltb-true (position_or_len p xs) (length xs) here.0 in
    let is : position_or_len p xs ≡ at = here.1 in
    omega (arith, lt, is)

-- ---- by another view

pub inserted-map : {X Y : Type 0} (f : X → Y) (p : Y → Bool) (x : X) (xs : List X) → map f (inserted (λ y. p (f y)) x xs) ≡ inserted p (f x) (map f xs)
inserted-map f p x [] = refl
inserted-map f p x (y ∷ ys) = by (p (f y)) (inserted-map f p x ys)
  where
    by : (b : Bool) → map f (inserted (λ z. p (f z)) x ys) ≡ inserted p (f x) (map f ys)
        → map f (if b then x ∷ y ∷ ys else y ∷ inserted (λ z. p (f z)) x ys) ≡ (if b then f x ∷ f y ∷ map f ys else f y ∷ inserted p (f x) (map f ys))
    by true rest = refl
    by false rest = ap (λ zs. f y ∷ zs) rest
