-- Whether a server holds a byte, and stable, is decided.
use Rattle.std.proofs.Common.{inl, inr, ◌⊎◌, ◌≡◌, ◌==◌, ℕ, List, Option, Some, None, slice_get, refl, sym, ap, ◌∙◌}
use Rattle.std.proofs.lemmas.Bool.{cases_Bool, eqb-true, eqb-false}
use Rattle.std.proofs.lemmas.Option.{slice_get_past}
use Rattle.world_model.specs.Server.{Holds, Bytes, Entries, Text, Object, Server}
use Rattle.claims.specs.Settled.{HoldsStable}
use Rattle.law_stable.proofs.Bytes.{some_or_past, number_is}
use Rattle.law_stable.specs.Stable.{StableDecided}

-- whether the byte stands at the place
pub stands_or_not : (xs : List ℕ) (i v : ℕ) → (slice_get xs i ≡ Some v) ⊎ (slice_get xs i ≡ Some v → ⊥)
stands_or_not xs i v = elim (some_or_past xs i) [
  | inr past ↦ inr (λ e. absurd (cc (sym (slice_get_past xs i past) ∙ e)))
  | inl y ↦ elim (cases_Bool (y.0 == v)) [
    | inl same ↦ inl (y.1 ∙ ap (λ (z : ℕ). Some z) (eqb-true y.0 v same))
    | inr differs ↦ inr (λ e. eqb-false y.0 v differs (number_is y.0 v (sym y.1 ∙ e)))
  ]
]

some_object : (a b : Object) → Some a ≡ Some b → a ≡ b
some_object a b e = cc

bytes_now : (a b c d : List ℕ) → Bytes a b ≡ Bytes c d → a ≡ c
bytes_now a b c d e = cc

bytes_stable : (a b c d : List ℕ) → Bytes a b ≡ Bytes c d → b ≡ d
bytes_stable a b c d e = cc

same_bytes : (s : Server) (f : List ℕ) (i v : ℕ) (o : Object) → s.object f ≡ Some o → (h : HoldsStable s f i v) → (now stable : List ℕ) → o.holds ≡ Bytes now stable → Bytes h.now h.stable ≡ Bytes now stable
same_bytes s f i v o is h now stable held = sym h.has.holds ∙ ap (λ (z : Object). z.holds) (some_object h.has.file o (sym h.has.is ∙ is)) ∙ held

no_bytes : (s : Server) (f : List ℕ) (i v : ℕ) (o : Object) → s.object f ≡ Some o → (h : HoldsStable s f i v) → Bytes h.now h.stable ≡ o.holds
no_bytes s f i v o is h = sym h.has.holds ∙ ap (λ (z : Object). z.holds) (some_object h.has.file o (sym h.has.is ∙ is))

pub stable_decided : StableDecided
stable_decided s f i v never = object (s.object f) refl
  where
    content : (o : Object) → s.object f ≡ Some o → (holds : Holds) → o.holds ≡ holds → HoldsStable s f i v
    content o is (Bytes now stable) held = elim (stands_or_not now i v) [
      | inr other ↦ absurd (never (λ h. other (ap (λ (z : List ℕ). slice_get z i) (sym (bytes_now h.now h.stable now stable (same_bytes s f i v o is h now stable held))) ∙ h.holds)))
      | inl here ↦ elim (stands_or_not stable i v) [
        | inr other ↦ absurd (never (λ h. other (ap (λ (z : List ℕ). slice_get z i) (sym (bytes_stable h.now h.stable now stable (same_bytes s f i v o is h now stable held))) ∙ h.steady)))
        | inl firm ↦ record { now = now; stable = stable; has = record { file = o; is = is; holds = held }; holds = here; steady = firm }
      ]
    ]
    content o is (Entries entries) held = absurd (never (λ h. absurd (cc (no_bytes s f i v o is h ∙ held))))
    content o is (Text text) held = absurd (never (λ h. absurd (cc (no_bytes s f i v o is h ∙ held))))

    object : (o : Option Object) → s.object f ≡ o → HoldsStable s f i v
    object None e = absurd (never (λ h. absurd (cc (sym e ∙ h.has.is))))
    object (Some o) e = content o e o.holds refl
