-- Places in a list that an element was put into or taken from.
use Rattle.std.proofs.Common.{◌≡◌, ◌≢◌, ◌⊎◌, inl, inr, ℕ, zero, suc, List, [], ◌∷◌, ◌++◌, length, map, remove, Some, option_map, slice_get, slice_set, position, Bool, true, refl, sym, ap, subst, ◌∙◌, arith}
use Rattle.std.proofs.lemmas.List.Quantifiers.{position-Some}
use Rattle.std.proofs.lemmas.Option.{get_or_from_slice_get}

module _ {A B : Type 0} (f : A → B) where
  pub get-map : (xs : List A) (at : ℕ) → slice_get (map f xs) at ≡ option_map f (slice_get xs at)
  get-map [] at = refl
  get-map (x ∷ xs) zero = refl
  get-map (x ∷ xs) (suc at) = get-map xs at

  -- an element with the same image changes no image
  pub map-set : (xs : List A) (at : ℕ) (x y : A) → slice_get xs at ≡ Some x → f y ≡ f x → map f (slice_set xs at y) ≡ map f xs
  map-set [] at x y there same = refl
  map-set (z ∷ zs) zero x y there same = let is : z ≡ x = cc in ap (λ b. b ∷ map f zs) (same ∙ ap f (sym is))
  map-set (z ∷ zs) (suc at) x y there same = ap (λ bs. f z ∷ bs) (map-set zs at x y there same)

  pub map-push : (xs : List A) (x : A) → map f (xs ++ x ∷ []) ≡ map f xs ++ f x ∷ []
  map-push [] x = refl
  map-push (y ∷ ys) x = ap (λ bs. f y ∷ bs) (map-push ys x)

  pub map-remove : (xs : List A) (at : ℕ) → map f (remove xs at) ≡ remove (map f xs) at
  map-remove [] zero = refl
  map-remove [] (suc at) = refl
  map-remove (x ∷ xs) zero = refl
  map-remove (x ∷ xs) (suc at) = ap (λ bs. f x ∷ bs) (map-remove xs at)

  -- what stands among the images is the image of what stands there
  pub in-map : (xs : List A) (at : ℕ) (b : B) → slice_get (map f xs) at ≡ Some b → (a : A) × (slice_get xs at ≡ Some a) × (b ≡ f a)
  in-map [] at b there = absurd (cc)
  in-map (x ∷ xs) zero b there = (x, refl, cc)
  in-map (x ∷ xs) (suc at) b there = in-map xs at b there

  pub to-map : (xs : List A) (at : ℕ) (a : A) → slice_get xs at ≡ Some a → slice_get (map f xs) at ≡ Some (f a)
  to-map xs at a there = get-map xs at ∙ ap (option_map f) there

-- where the element stood that stands at a place after one was taken out
abbrev pub skip : ℕ → ℕ → ℕ
skip zero k = suc k
skip (suc at) zero = zero
skip (suc at) (suc k) = suc (skip at k)

module _ {A : Type 0} where
  pub get-remove : (xs : List A) (at k : ℕ) (x : A) → slice_get (remove xs at) k ≡ Some x → slice_get xs (skip at k) ≡ Some x
  get-remove [] zero k x there = absurd (cc)
  get-remove [] (suc at) k x there = absurd (cc)
  get-remove (y ∷ ys) zero k x there = there
  get-remove (y ∷ ys) (suc at) zero x there = there
  get-remove (y ∷ ys) (suc at) (suc k) x there = get-remove ys at k x there

  -- each element but the one that was taken out stands there still
  pub still-there : (xs : List A) (at k : ℕ) (x : A) → k ≢ at → slice_get xs k ≡ Some x → (m : ℕ) × (slice_get (remove xs at) m ≡ Some x)
  still-there [] at k x other there = absurd (cc)
  still-there (y ∷ ys) zero zero x other there = absurd (other refl)
  still-there (y ∷ ys) zero (suc k) x other there = (k, there)
  still-there (y ∷ ys) (suc at) zero x other there = (zero, there)
  still-there (y ∷ ys) (suc at) (suc k) x other there = let r = still-there ys at k x (λ e. other (ap suc e)) there in (suc r.0, r.1)

  pub get-push : (xs : List A) (x : A) (k : ℕ) (y : A) → slice_get (xs ++ x ∷ []) k ≡ Some y → (slice_get xs k ≡ Some y) ⊎ ((k ≡ length xs) × (y ≡ x))
  get-push [] x zero y there = inr (refl, cc)
  get-push [] x (suc k) y there = absurd (cc)
  get-push (z ∷ zs) x zero y there = inl there
  get-push (z ∷ zs) x (suc k) y there = elim (get-push zs x k y there) [ inl e ↦ inl e | inr e ↦ inr (ap suc e.0, e.1) ]

  pub at-push : (xs : List A) (x : A) → slice_get (xs ++ x ∷ []) (length xs) ≡ Some x
  at-push [] x = refl
  at-push (y ∷ ys) x = at-push ys x

  pub before-push : (xs : List A) (x : A) (k : ℕ) (y : A) → slice_get xs k ≡ Some y → slice_get (xs ++ x ∷ []) k ≡ Some y
  before-push [] x k y there = absurd (cc)
  before-push (z ∷ zs) x zero y there = there
  before-push (z ∷ zs) x (suc k) y there = before-push zs x k y there

  -- what stands at the place that was looked for is what was looked for
  pub at-position : (p : A → Bool) (xs : List A) (at : ℕ) (x : A) → position p xs ≡ Some at → slice_get xs at ≡ Some x → p x ≡ true
  at-position p xs at x found there = subst (λ (y : A). p y ≡ true) (get_or_from_slice_get xs at x x there) (position-Some p xs at x found).1

  pub at-set : (xs : List A) (at : ℕ) (old x : A) → slice_get xs at ≡ Some old → slice_get (slice_set xs at x) at ≡ Some x
  at-set [] at old x there = absurd (cc)
  at-set (y ∷ ys) zero old x there = refl
  at-set (y ∷ ys) (suc at) old x there = at-set ys at old x there

-- where the elements stood is different for different places, and isn't that of the one that was taken out
pub skip-apart : (at k m : ℕ) → skip at k ≡ skip at m → k ≡ m
skip-apart zero k m e = omega (arith, e)
skip-apart (suc at) zero zero e = refl
skip-apart (suc at) zero (suc m) e = absurd (omega (arith, e))
skip-apart (suc at) (suc k) zero e = absurd (omega (arith, e))
skip-apart (suc at) (suc k) (suc m) e = ap suc (skip-apart at k m (omega (arith, e)))

pub skip-other : (at k : ℕ) → skip at k ≢ at
skip-other zero k e = absurd (omega (arith, e))
skip-other (suc at) zero e = absurd (omega (arith, e))
skip-other (suc at) (suc k) e = skip-other at k (omega (arith, e))
