-- What a file was from one moment to another.
use Rattle.std.proofs.Common.{◌≡◌, ◌<◌, ◌≤◌, ◌+◌, ◌-◌, inl, inr, ℕ, Bool, true, false, List, [], ◌∷◌, ◌++◌, append-nil, length, refl, sym, ◌∙◌, ap, subst, arith}
use Rattle.std.proofs.lemmas.Bool.{cases_lt}
use Rattle.trace_data.specs.declared.trace.Trace.{Trace}
use Rattle.trace_claims.specs.Coming.{place_if}
use Rattle.trace_claims.specs.Objects.{object_of_trace, is_named_at, IsSame, IsVersion, HasWindow}
use Rattle.trace_claims.proofs.Lasting.{unnamed-same}
use Rattle.trace_claims.proofs.Listing.{get-last, get-grow, get-new, get-one}

-- one moment earlier it is the same
pub same-before : (t : Trace) (f : List ℕ) (k n : ℕ) → 0 < k → is_named_at t (k - 1) f ≡ false → IsSame t f k n → IsSame t f (k - 1) n
same-before t f k n some none same =
    sym (subst (λ (z : ℕ). object_of_trace t z f ≡ object_of_trace t (k - 1) f) (let is : k - 1 + 1 ≡ k = omega (arith, some) in is) (unnamed-same t (k - 1) f none)) ∙ same

pub window-one : (t : Trace) (f : List ℕ) (from v : ℕ) → IsVersion t f from v → HasWindow t f from from (v ∷ [])
window-one t f from v is = record {
  each = λ j k at. record { n = from; late = omega arith; soon = omega arith; same = sym (subst (λ (z : ℕ). IsSame t f z from) (get-one v j k at) is.1) };
  every = λ n low high. (0, v, refl, subst (λ (z : ℕ). IsSame t f z v) (let e : from ≡ n = omega (arith, low, high) in e) (sym is.1));
}

pub window-more : (t : Trace) (f : List ℕ) (from at : ℕ) (ks : List ℕ) (b : Bool) → from ≤ at → b ≡ is_named_at t at f → HasWindow t f from at ks → HasWindow t f from (at + 1) (ks ++ place_if b (at + 1))
window-more t f from at ks true low is has = record {
  each = λ j k got. elim (get-last ks (at + 1) j k got) [
    | inl there ↦ let old = has.each j k there in let soon = old.soon in record { n = old.n; late = old.late; soon = omega (arith, soon); same = old.same }
    | inr e ↦ record { n = at + 1; late = omega (arith, low); soon = omega arith; same = ap (λ (z : ℕ). object_of_trace t z f) e }
  ];
  every = λ n late soon. elim (cases_lt at n) [
    | inl last ↦ (length ks, at + 1, get-new ks (at + 1), ap (λ (z : ℕ). object_of_trace t z f) (let e : n ≡ at + 1 = omega (arith, last, soon) in e))
    | inr before ↦ let old = has.every n late before in (old.0, old.1, get-grow ks (at + 1) old.0 old.1 old.2, old.3)
  ];
}
window-more t f from at ks false low is has = subst (λ (l : List ℕ). HasWindow t f from (at + 1) l) (sym (append-nil ks)) (record {
  each = λ j k got. let old = has.each j k got in let soon = old.soon in record { n = old.n; late = old.late; soon = omega (arith, soon); same = old.same };
  every = λ n late soon. elim (cases_lt at n) [
    | inl last ↦
        let old = has.every at low (omega arith) in
        (old.0, old.1, old.2, subst (λ (z : ℕ). IsSame t f z old.1) (let e : at + 1 ≡ n = omega (arith, last, soon) in e) (unnamed-same t at f (sym is) ∙ old.3))
    | inr before ↦ has.every n late before
  ];
})
