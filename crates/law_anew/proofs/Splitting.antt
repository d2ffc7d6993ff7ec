-- A history that a later client sees: the front as another client's, and then as it is.
use Rattle.std.proofs.Common.{◌≡◌, ◌≤◌, ℕ, zero, suc, Bool, true, false, List, [], ◌∷◌, ◌++◌, length, refl, sym, ap, subst, ◌∙◌, arith}
use Rattle.world_model.specs.declared.entry.Entry.{Entry}
use Rattle.world_model.specs.Entries.{At, ours}
use Rattle.anew_link.specs.Anew.{anew, aside, is_own, rest_anew, since}
use Rattle.anew_link.proofs.Splits.{by-own, ours-none, ours-own}
use Rattle.law_anew.proofs.Thin.{Thin, none, left, kept, after, aside_entry, aside-is}

-- The list is parted: of its front, which is as long as first at least, the client's entries are left out and the others are set aside; none of the client's stands
-- in it from first on.
pub record Split (first : ℕ) (h seen : List Entry) : Type 0 where
  pub c : List Entry
  pub rest : List Entry
  pub l : List Entry
  pub f : ℕ → ℕ
  pub thin : Thin c l f
  pub is : h ≡ c ++ rest
  pub sees : seen ≡ l ++ rest
  pub low : first ≤ length c
  pub others : (n : ℕ) (e : Entry) → first ≤ n → At c n e → is_own e ≡ false

others-none : (first n : ℕ) (e : Entry) → At [] n e → is_own e ≡ false
others-none first n e at = absurd cc

some-entry : (a b : Entry) → At (a ∷ []) zero b → a ≡ b
some-entry a b e = cc

-- one entry more in front, which is set aside
module _ (first next : ℕ) (fewer : next ≤ suc first) (before : (n : ℕ) → next ≤ suc n → first ≤ n) (e : Entry) (h seen : List Entry) (is : is_own e ≡ false) where
  aside-more : Split first h seen → Split next (e ∷ h) (aside_entry e ∷ seen)
  aside-more s = record {
    c = e ∷ s.c;
    rest = s.rest;
    l = aside_entry e ∷ s.l;
    f = after s.f;
    thin = kept e s.c s.l s.f is s.thin;
    is = ap (λ (x : List Entry). e ∷ x) s.is;
    sees = ap (λ (x : List Entry). aside_entry e ∷ x) s.sees;
    low = let low = s.low in omega (arith, low, fewer);
    others = by;
  }
    where
      by : (n : ℕ) (d : Entry) → next ≤ n → At (e ∷ s.c) n d → is_own d ≡ false
      by zero d le at = subst (λ (x : Entry). is_own x ≡ false) (some-entry e d at) is
      by (suc n) d le at = s.others n d (before n le) at

-- and one of the client's, which is left out
left-more : (first : ℕ) (e : Entry) (h seen : List Entry) → is_own e ≡ true → Split first h seen → Split (suc first) (e ∷ h) seen
left-more first e h seen is s = record {
  c = e ∷ s.c;
  rest = s.rest;
  l = s.l;
  f = λ (n : ℕ). suc (s.f n);
  thin = left e s.c s.l s.f is s.thin;
  is = ap (λ (x : List Entry). e ∷ x) s.is;
  sees = s.sees;
  low = let low = s.low in omega (arith, low);
  others = by;
}
  where
    by : (n : ℕ) (d : Entry) → suc first ≤ n → At (e ∷ s.c) n d → is_own d ≡ false
    by zero d le at = absurd (omega (arith, le))
    by (suc n) d le at = s.others n d (omega (arith, le)) at

-- ---- up to the client's next entry

nothing-aside : (h : List Entry) → Split 0 h h
nothing-aside h = record { c = []; rest = h; l = []; f = λ (n : ℕ). n; thin = none; is = refl; sees = refl; low = omega arith; others = λ n e le at. others-none 0 n e at }

either-rest : (e : Entry) (es : List Entry) (b : Bool) → is_own e ≡ b → Split 0 es (rest_anew es) → Split 0 (e ∷ es) (rest_anew (e ∷ es))
either-rest e es true is s = subst (λ (x : List Entry). Split 0 (e ∷ es) x) (sym (by-own true e (e ∷ es) (aside e ++ rest_anew es) is)) (nothing-aside (e ∷ es))
either-rest e es false is s =
    let seen : rest_anew (e ∷ es) ≡ aside_entry e ∷ rest_anew es =
    by-own false e (e ∷ es) (aside e ++ rest_anew es) is ∙ ap (λ (x : List Entry). x ++ rest_anew es) (aside-is e is) in
    subst (λ (x : List Entry). Split 0 (e ∷ es) x) (sym seen) (aside-more 0 0 (omega arith) (λ n le. omega arith) e es (rest_anew es) is s)

split-rest : (h : List Entry) → Split 0 h (rest_anew h)
split-rest [] = nothing-aside []
split-rest (e ∷ es) = either-rest e es (is_own e) refl (split-rest es)

-- ---- the first part

aside-first : (k : ℕ) (e : Entry) (es : List Entry) → is_own e ≡ false → anew k (e ∷ es) ≡ aside_entry e ∷ anew k es
aside-first zero e es is = by-own false e (e ∷ es) (aside e ++ rest_anew es) is ∙ ap (λ (x : List Entry). x ++ rest_anew es) (aside-is e is)
aside-first (suc k) e es is = by-own false e (anew k es) (aside e ++ anew (suc k) es) is ∙ ap (λ (x : List Entry). x ++ anew (suc k) es) (aside-is e is)

either-first : (e : Entry) (es h : List Entry) (b : Bool) → is_own e ≡ b → Split (length es) h (since es h) → Split (length (e ∷ es)) (e ∷ h) (since (e ∷ es) (e ∷ h))
either-first e es h true is s =
    let long : length (ours (e ∷ es)) ≡ suc (length (ours es)) = ap (λ (x : List Entry). length x) (ours-own e es is) in
    let seen : since (e ∷ es) (e ∷ h) ≡ since es h =
    ap (λ (k : ℕ). anew k (e ∷ h)) long ∙ by-own true e (anew (length (ours es)) h) (aside e ++ anew (suc (length (ours es))) h) is in
    subst (λ (x : List Entry). Split (length (e ∷ es)) (e ∷ h) x) (sym seen) (left-more (length es) e h (since es h) is s)
either-first e es h false is s =
    let long : length (ours (e ∷ es)) ≡ length (ours es) = ap (λ (x : List Entry). length x) (ours-none e es is) in
    let seen : since (e ∷ es) (e ∷ h) ≡ aside_entry e ∷ since es h = ap (λ (k : ℕ). anew k (e ∷ h)) long ∙ aside-first (length (ours es)) e h is in
    subst (λ (x : List Entry). Split (length (e ∷ es)) (e ∷ h) x) (sym seen)
    (aside-more (length es) (length (e ∷ es)) (omega arith) (λ n le. omega (arith, le)) e h (since es h) is s)

pub split : (first more : List Entry) → Split (length first) (first ++ more) (since first (first ++ more))
split [] more = split-rest more
split (e ∷ es) more = either-first e es (es ++ more) (is_own e) refl (split es more)
