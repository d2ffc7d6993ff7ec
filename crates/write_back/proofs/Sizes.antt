-- How large segments are that were found.
use Rattle.std.proofs.Common.{◌≡◌, ◌<◌, ◌≤◌, ◌^◌, ℕ, ◌-◌, ◌&&◌, Bool, true, false, [], ◌∷◌, length, Some, refl, sym, subst, nat_cmp}
use Rattle.std.specs.Prelude.{nat_le, nat_lt}
use Rattle.std.specs.BTreeMap.{is_at}
use Rattle.write_back.specs.Segments.{Segment, Segments, AreApart, end_of}
use Rattle.write_back.specs.Walk.{at_place, first_between}
use Rattle.write_back.proofs.Keys.{is-at}

-- a segment has bytes, and ends at or below 2^63 - 1
abbrev pub IsSized : ℕ × Segment → Type 0
IsSized e = (0 < length e.1.bytes) × (end_of e ≤ 2 ^ 63 - 1)

pub found-size : (low high from : ℕ) (es : Segments) (x : ℕ × Segment) → AreApart from es → first_between low high es ≡ Some x → IsSized x
found-size low high from [] x apart found = absurd cc
found-size low high from (e ∷ es) x apart found = by (nat_le low e.0 && nat_lt e.0 high) refl (λ h. found-size low high (end_of e) es x apart.3 h)
  where
    by : (b : Bool) → (nat_le low e.0 && nat_lt e.0 high) ≡ b → (first_between low high es ≡ Some x → IsSized x) → IsSized x
    by true h more = let same : e ≡ x = (let f : Some e ≡ Some x = (rw h at found) in cc) in subst IsSized same (apart.1, apart.2)
    by false h more = let f : first_between low high es ≡ Some x = (rw h at found) in more f

pub at-size : (place from : ℕ) (es : Segments) (s : Segment) → AreApart from es → at_place place es ≡ Some s → IsSized (place, s)
at-size place from [] s apart found = absurd cc
at-size place from (e ∷ es) s apart found = by (is_at (nat_cmp place) e.0) refl (λ h. at-size place (end_of e) es s apart.3 h)
  where
    by : (b : Bool) → is_at (nat_cmp place) e.0 ≡ b → (at_place place es ≡ Some s → IsSized (place, s)) → IsSized (place, s)
    by true h more =
        let same : e.1 ≡ s = (let f : Some e.1 ≡ Some s = (rw h at found) in cc) in
        let here : place ≡ e.0 = is-at place e.0 h in
        subst (λ (k : ℕ). IsSized (k, s)) (sym here) (subst (λ (v : Segment). IsSized (e.0, v)) same (apart.1, apart.2))
    by false h more = let f : at_place place es ≡ Some s = (rw h at found) in more f
