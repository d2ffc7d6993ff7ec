-- The bytes of segments with one more fit 64 bits.
use Rattle.std.proofs.Common.{◌≡◌, ◌<◌, ◌≤◌, ◌^◌, ℕ, ◌+◌, ◌-◌, ◌&&◌, Bool, true, false, [], ◌∷◌, length, drop, Option, Some, None, refl, ap, arith, length-drop}
use Rattle.std.specs.Prelude.{nat_lt}
use Rattle.std.specs.Option.{option_map}
use Rattle.std.proofs.lemmas.Bool.{ltb-true, and_parts}
use Rattle.write_back.specs.Segments.{Segment, Segments, AreApart, end_of, tail_of, own_size, own_of}
use Rattle.write_back.specs.Walk.{passing, laid, laid_tail, tail_past}
use Rattle.write_back.proofs.Sums.{own-le, own-bound, own-laid-le}

-- where the segment that goes on past a place begins and ends
pub passing-inside : (place from : ℕ) (es : Segments) (x : ℕ × Segment) → AreApart from es → passing place es ≡ Some x → (x.0 < place) × (place < end_of x) × (end_of x ≤ 2 ^ 63 - 1)
passing-inside place from [] x apart found = absurd cc
passing-inside place from (e ∷ es) x apart found = by (nat_lt e.0 place && nat_lt place (end_of e)) refl (λ h. passing-inside place (end_of e) es x apart.3 h)
  where
    by : (b : Bool) → (nat_lt e.0 place && nat_lt place (end_of e)) ≡ b → (passing place es ≡ Some x → (x.0 < place) × (place < end_of x) × (end_of x ≤ 2 ^ 63 - 1)) → (x.0 < place) × (place < end_of x) × (end_of x ≤ 2 ^ 63 - 1)
    by true h more =
        let same : e ≡ x = (let f : Some e ≡ Some x = (rw h at found) in cc) in
        let parts = and_parts (nat_lt e.0 place) (nat_lt place (end_of e)) h in
        let key : e.0 ≡ x.0 = ap (λ (z : ℕ × Segment). z.0) same in
        let ends : end_of e ≡ end_of x = ap (λ (z : ℕ × Segment). end_of z) same in
        (omega (arith, key, ltb-true e.0 place parts.0), omega (arith, ends, ltb-true place (end_of e) parts.1), omega (arith, ends, apart.2))
    by false h more = let f : passing place es ≡ Some x = (rw h at found) in more f

-- room for the tail of a segment that is cut
pub cut-room : (place : ℕ) (es : Segments) (x : ℕ × Segment) → AreApart 0 es → passing place es ≡ Some x → own_of es + own_size (tail_of (place - x.0) x.1) + place ≤ 2 ^ 63 - 1 + (2 ^ 63 - 1)
cut-room place es x apart found =
    let in_it = passing-inside place 0 es x apart found in
    let size : length (drop (place - x.0) x.1.bytes) ≡ length x.1.bytes - (place - x.0) = length-drop (place - x.0) x.1.bytes in
    let own : own_size (tail_of (place - x.0) x.1) ≤ length (drop (place - x.0) x.1.bytes) = own-le (tail_of (place - x.0) x.1) in
    omega (arith, own-bound 0 es apart (omega arith), own, size, in_it.0, in_it.1, in_it.2)

-- room for new bytes and the tail of an older segment
pub put-room : (offset end : ℕ) (own : Segment) (es : Segments) → AreApart 0 es → offset + own_size own ≤ end → end ≤ 2 ^ 63 - 1 → own_of (laid_tail end (tail_past end es) es) + own_size own < 2 ^ 64
put-room offset end own es apart fits most = by (passing end es) refl
  where
    by : (p : Option (ℕ × Segment)) → passing end es ≡ p → own_of (laid_tail end (option_map (λ (e : ℕ × Segment). tail_of (end - e.0) e.1) p) es) + own_size own < 2 ^ 64
    by None h = omega (arith, own-bound 0 es apart (omega arith), fits, most)
    by (Some x) h =
        let more : own_of (laid end (tail_of (end - x.0) x.1) es) ≤ own_of es + own_size (tail_of (end - x.0) x.1) = own-laid-le end (tail_of (end - x.0) x.1) es in
        omega (arith, more, cut-room end es x apart h, fits)
