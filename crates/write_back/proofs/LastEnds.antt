-- Where the last segment ends.
use Rattle.std.proofs.Common.{◌≡◌, ◌<◌, ◌≤◌, ◌^◌, ℕ, ◌-◌, [], ◌∷◌, length, Some, None, refl, ap, subst, suc, arith}
use Rattle.std.specs.List.{slice_get}
use Rattle.write_back.specs.Segments.{Segment, Segments, AreApart, end_of, last_end}

pub last-none : (es : Segments) → (0 < length es → ⊥) → last_end es ≡ None
last-none [] none = refl
last-none (e ∷ es) none = absurd (none (omega arith))

pub last-is : (low : ℕ) (es : Segments) (x : ℕ × Segment) → AreApart low es → slice_get es (length es - 1) ≡ Some x → (last_end es ≡ Some (end_of x)) × (end_of x ≤ 2 ^ 63 - 1)
last-is low [] x apart found = absurd cc
last-is low (e ∷ []) x apart found =
    let same : e ≡ x = cc in
    (ap (λ z. Some (end_of z)) same, subst (λ z. end_of z ≤ 2 ^ 63 - 1) same apart.2)
last-is low (e ∷ f ∷ es) x apart found =
    let a : length (e ∷ f ∷ es) - 1 ≡ suc (length es) = omega arith in
    let b : length (f ∷ es) - 1 ≡ length es = omega arith in
    let g : slice_get (f ∷ es) (length es) ≡ Some x = (rw a at found) in
    last-is (end_of e) (f ∷ es) x apart.3 (rw b g)

pub empty-is : (es : Segments) → length es ≡ 0 → es ≡ []
empty-is [] none = refl
empty-is (e ∷ es) none = absurd (omega (arith, none))
