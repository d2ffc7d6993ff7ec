-- The order of places, and what a list of items has at a place, whatever their order.
use Rattle.std.proofs.Common.{◌≡◌, ◌≢◌, ◌⊎◌, ℕ, zero, suc, ◌==◌, Bool, true, false, cond, List, [], ◌∷◌, length, Option, Some, None, unwrap_or, Contains, refl, sym, ap, ◌∙◌, inl, inr, arith}
use Rattle.std.specs.Prelude.{map}
use Rattle.std.specs.Ordering.{nat_cmp, on, eq_by_cmp}
use Rattle.std.specs.Cmp.{IsTotalOrder, Equal-is, nat_cmp_total, on_total, then_total, tied_itself}
use Rattle.std.specs.FinMap as finite
use Rattle.std.proofs.lemmas.Bool.{eqb-true, eq-eqb}
use Rattle.std.proofs.lemmas.Map.Lookups.{exact_pairs, exact_unsigned}
use Rattle.slab.proofs.SlabLemmas.{Contains-cons, Contains-cons_cases}
use Rattle.open_files.specs.Slots.{Place, place_cmp}

pub place_cmp-total : IsTotalOrder place_cmp
place_cmp-total = then_total (on_total (λ place. place.0) nat_cmp_total) (on_total (λ place. place.1) nat_cmp_total)

pub place_cmp-antisymmetric : finite.IsAntisymmetric place_cmp
place_cmp-antisymmetric = exact_pairs nat_cmp nat_cmp exact_unsigned exact_unsigned

pub same_place : (p q : Place) → eq_by_cmp place_cmp p q ≡ true → p ≡ q
same_place p q h = place_cmp-antisymmetric p q ((Equal-is (place_cmp p q)).0 h)

pub own_place : (p q : Place) → p ≡ q → eq_by_cmp place_cmp p q ≡ true
own_place p q h = rw h ((Equal-is (place_cmp q q)).1 (tied_itself place_cmp-total q))

pub apart : (p q : Place) → eq_by_cmp place_cmp p q ≡ false → p ≢ q
apart p q h = λ same. let t = own_place p q same in absurd (cc (t, h))

pub other_place : (p q : Place) → p ≢ q → eq_by_cmp place_cmp p q ≡ false
other_place p q differs = elim (eq_by_cmp place_cmp p q) as (λ b. eq_by_cmp place_cmp p q ≡ b → b ≡ false) [
  | true ↦ λ is. absurd (differs (same_place p q is))
  | false ↦ λ _. refl
] refl

pub either : (k j : ℕ) → (k ≡ j) ⊎ (k ≢ j)
either k j = elim (k == j) as (λ b. (k == j) ≡ b → (k ≡ j) ⊎ (k ≢ j)) [
  | true ↦ λ is. inl (eqb-true k j is)
  | false ↦ λ is. inr (λ same. let t = eq-eqb k j same in absurd (cc (t, is)))
] refl

-- two answers are one where each is the other's
pub same_option : {X : Type 0} (a b : Option X) → ((v : X) → a ≡ Some v → b ≡ Some v) → ((v : X) → b ≡ Some v → a ≡ Some v) → a ≡ b
same_option None None there back = refl
same_option None (Some y) there back = back y refl
same_option (Some x) b there back = sym (there x refl)

pub none_of : {X : Type 0} (a : Option X) → ((v : X) → ¬ (a ≡ Some v)) → a ≡ None
none_of None h = refl
none_of (Some x) h = absurd (h x refl)

module _ {A X : Type 0} (place : A → Place) (value : A → X) where
  -- what is found at a place is the value of an item there
  pub found : (es : List A) (q : Place) (v : X) → finite.find place_cmp q (map (λ a. (place a, value a)) es) ≡ Some v → (a : A) × Contains es a × (place a ≡ q) × (value a ≡ v)
  found [] q v h = absurd cc
  found (e ∷ es) q v h =
      elim (eq_by_cmp place_cmp q (place e)) as (λ b. eq_by_cmp place_cmp q (place e) ≡ b → cond b (Some (value e)) (finite.find place_cmp q (map (λ a. (place a, value a)) es)) ≡ Some v → (a : A) × Contains (e ∷ es) a × (place a ≡ q) × (value a ≡ v)) [
        | true ↦ λ is this. (e, (0, omega arith, refl), sym (same_place q (place e) is), ap (λ o. unwrap_or o (value e)) this)
        | false ↦ λ _ later. let r = found es q v later in (r.0, Contains-cons e r.0 es r.1, r.2, r.3)
      ] refl h

  -- an item is found at its place where each item there has its value
  pub kept : (es : List A) (q : Place) (a : A) → Contains es a → place a ≡ q → ((b : A) → Contains es b → place b ≡ q → value b ≡ value a) → finite.find place_cmp q (map (λ a. (place a, value a)) es) ≡ Some (value a)
  kept [] q a has here one = absurd (omega (arith, has.1))
  kept (e ∷ es) q a has here one =
      elim (eq_by_cmp place_cmp q (place e)) as (λ b. eq_by_cmp place_cmp q (place e) ≡ b → cond b (Some (value e)) (finite.find place_cmp q (map (λ a. (place a, value a)) es)) ≡ Some (value a)) [
        | true ↦ λ is. ap Some (one e (0, omega arith, refl) (sym (same_place q (place e) is)))
        | false ↦ λ other. elim (Contains-cons_cases e a es has) [
          | inl same ↦ absurd (apart q (place e) other (sym here ∙ ap place (sym same)))
          | inr later ↦ kept es q a later here (λ b there. one b (Contains-cons e b es there))
        ]
      ] refl
