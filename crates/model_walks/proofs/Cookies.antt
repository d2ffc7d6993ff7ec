-- An entry of a directory was there at an earlier moment, or has a cookie above all those of that moment.
use Rattle.std.proofs.Common.{inl, inr, ◌⊎◌, ◌≡◌, ◌≢◌, ◌<◌, ◌≤◌, ℕ, zero, suc, List, [], ◌∷◌, length, Some, slice_get, sym, ap, subst, ◌∙◌, arith}
use Rattle.std.proofs.lemmas.Bool.{cases_lt}
use Rattle.world_model.specs.History.{History}
use Rattle.world_model.specs.Lawful.{Lawful}
use Rattle.world_model.specs.Names.{parent_name}
use Rattle.world_model.specs.Rising.{Rising}
use Rattle.world_model.specs.Server.{Listed, Entries, Object, Lists}
use Rattle.world_model.proofs.Deciding.{same_entries}
use Rattle.world_model.proofs.Lasting.{lasts}
use Rattle.model_walks.proofs.NamesStand.{lists_after}

some_is : (a b : Object) → Some a ≡ Some b → a ≡ b
some_is a b e = cc

list_is : (a b : List Listed) → Entries a ≡ Entries b → a ≡ b
list_is a b e = cc

-- one object has one list
pub one_list : (t : History) (n : ℕ) (d : List ℕ) (o p : Object) (a b : List Listed) → (t.at n).object d ≡ Some o → (t.at n).object d ≡ Some p → o.holds ≡ Entries a → p.holds ≡ Entries b → a ≡ b
one_list t n d o p a b x y ha hb = list_is a b (sym ha ∙ ap (λ (z : Object). z.holds) (some_is o p (sym x ∙ y)) ∙ hb)

listed_or_not : (list : List Listed) (e : Listed) → Lists list e ⊎ (Lists list e → ⊥)
listed_or_not [] e = inr (λ k. absurd (cc k.1))
listed_or_not (x ∷ list) e = elim (same_entries (x ∷ []) (e ∷ [])) [
  | inl same ↦ inl (0, some_entry same)
  | inr other ↦ elim (listed_or_not list e) [
    | inl k ↦ inl (suc k.0, k.1)
    | inr none ↦ inr (λ k. by k.0 k.1 other none)
  ]
]
  where
    some_entry : x ∷ [] ≡ e ∷ [] → Some x ≡ Some e
    some_entry q = cc

    one : Some x ≡ Some e → x ∷ [] ≡ e ∷ []
    one q = cc

    by : (at : ℕ) → slice_get (x ∷ list) at ≡ Some e → (x ∷ [] ≡ e ∷ [] → ⊥) → (Lists list e → ⊥) → ⊥
    by zero is other none = other (one is)
    by (suc at) is other none = none (at, is)

pub cookies_rise : (t : History) → Lawful t → Rising t → (d : List ℕ) (m n : ℕ) → m ≤ n → n ≤ length t.entries → (o : Object) (before : List Listed) → (t.at m).object d ≡ Some o → o.holds ≡ Entries before
    → (p : Object) (after : List Listed) → (t.at n).object d ≡ Some p → p.holds ≡ Entries after → (e : Listed) → Lists after e → e.name ≢ parent_name → Lists before e ⊎ ((f : Listed) → Lists before f → f.cookie < e.cookie)
cookies_rise t l rising d m zero le within o before is holds p after there has e listed ne =
    let same : m ≡ 0 = omega (arith, le) in
    inl (subst (λ z. Lists z e) (one_list t 0 d p o after before there (subst (λ k. (t.at k).object d ≡ Some o) same is) has holds) listed)
cookies_rise t l rising d m (suc n) le within o before is holds p after there has e listed ne = elim (cases_lt m (suc n)) [
  | inr ge ↦
      let same : m ≡ suc n = omega (arith, le, ge) in
      inl (subst (λ z. Lists z e) (one_list t (suc n) d p o after before there (subst (λ k. (t.at k).object d ≡ Some o) same is) has holds) listed)
  | inl lt ↦
      let q = lasts t l m n (omega (arith, lt)) (omega (arith, within)) d o is in
      let mid = lists_after o.holds q.new.holds before q.sort holds in
      elim (listed_or_not mid.0 e) [
        | inl old ↦ cookies_rise t l rising d m n (omega (arith, lt)) (omega (arith, within)) o before is holds q.new mid.0 q.is mid.1 e old ne
        | inr new ↦ inr (λ f earlier. rising.enters n (omega (arith, within)) d q.new p mid.0 after e q.is mid.1 there has listed new ne m o before f (omega (arith, lt)) is holds earlier)
      ]
]
