-- The first place that a search tells is the position of the first byte that passes.
use Rattle.std.proofs.Common.{◌≡◌, ◌<◌, ◌≤◌, ◌⊎◌, ℕ, zero, suc, List, [], ◌∷◌, length, slice_index, Option, None, Some, Bool, true, false, position, nat_lt, refl, inl, inr, arith}
use Rattle.std.specs.List.{position_or_len}
use Rattle.std.proofs.lemmas.Bool.{false_from_ne_true, lt-ltb, le-ltb}
use Rattle.memchr.specs.Find.{IsFirstByte}

-- None passes before k, and one passes there unless the bytes end.
first-at : (test : ℕ → Bool) (bytes : List ℕ) (k : ℕ) → k ≤ length bytes → ((j : ℕ) → j < k → ¬ (test (slice_index bytes j) ≡ true))
    → (k ≡ length bytes) ⊎ (test (slice_index bytes k) ≡ true) → position_or_len test bytes ≡ k
first-at test [] k le none ends = omega (arith, le)
first-at test (b ∷ bytes) zero le none (inl e) = absurd (omega (arith, e))
first-at test (b ∷ bytes) zero le none (inr passes) = rw passes refl
first-at test (b ∷ bytes) (suc k) le none ends =
    let fails : test b ≡ false = false_from_ne_true (test b) (none 0 (omega arith)) in
    let rest : position_or_len test bytes ≡ k = first-at test bytes k (omega (arith, le)) (λ j lt. none (suc j) (omega (arith, lt))) (elim ends [
      | inl e ↦ inl (omega (arith, e))
      | inr passes ↦ inr passes
    ]) in
    rw (fails, rest) (omega arith)

pub first-is : (test : ℕ → Bool) (bytes : List ℕ) (found : Option ℕ) → IsFirstByte test bytes found → found ≡ position test bytes
first-is test bytes None none =
    let at : position_or_len test bytes ≡ length bytes = first-at test bytes (length bytes) (omega arith) (λ j lt. none j (omega arith) lt) (inl refl) in
    let past : nat_lt (length bytes) (length bytes) ≡ false = le-ltb (length bytes) (length bytes) (omega arith) in
    rw (at, past) refl
first-is test bytes (Some k) first =
    let inside = first.0.high in
    let at : position_or_len test bytes ≡ k = first-at test bytes k (omega (arith, inside)) (λ j lt. first.0.before j (omega arith) lt) (inr first.1) in
    let within : nat_lt k (length bytes) ≡ true = lt-ltb k (length bytes) inside in
    rw (at, within) refl
