-- New bytes laid among older segments, step by step.
use Rattle.std.proofs.Common.{◌≡◌, ◌<◌, ◌≤◌, ◌^◌, ℕ, ◌+◌, ◌-◌, List, ◌∷◌, ◌++◌, length, Option, Some, None, refl, ap, ◌∙◌, arith}
use Rattle.std.specs.Prelude.{IfSome}
use Rattle.std.specs.Option.{option_map}
use Rattle.write_back.specs.Segments.{Segment, Segments, AreApart, written, added, after, before, own_size, own_bytes, own_of, tail_of}
use Rattle.write_back.specs.Walk.{at_place, passing, laid, laid_tail, tail_past, ended_at, without_between}
use Rattle.write_back.proofs.Laying.{put-is}
use Rattle.write_back.proofs.Room.{put-room}
use Rattle.write_back.proofs.Splitting.{passing-free}
use Rattle.write_back.proofs.Sums.{own-le}

-- where a tail is laid, no segment begins
tail-free : (end : ℕ) (es : Segments) → AreApart 0 es → (p : Option (ℕ × Segment)) → passing end es ≡ p → IfSome (option_map (λ (e : ℕ × Segment). tail_of (end - e.0) e.1) p) (λ _. at_place end es ≡ None)
tail-free end es apart None h = tt
tail-free end es apart (Some x) h = passing-free end 0 es x apart h

pub put-free : (end : ℕ) (tail : Option Segment) (es : Segments) → AreApart 0 es → tail ≡ tail_past end es → IfSome tail (λ _. at_place end es ≡ None)
put-free end tail es apart is = rw is (tail-free end es apart (passing end es) refl)

-- there is room for both
pub put-fits : (offset end number : ℕ) (bytes : List ℕ) (own : Segment) (tail : Option Segment) (es : Segments) → AreApart 0 es → own ≡ written bytes number → tail ≡ tail_past end es
    → end ≡ offset + length bytes → end ≤ 2 ^ 63 - 1 → own_of (laid_tail end tail es) + own_bytes (offset, own) < 2 ^ 64
put-fits offset end number bytes own tail es apart made is ends most =
    let few : own_size (written bytes number) ≤ length bytes = own-le (written bytes number) in
    rw (made, is) (put-room offset end (written bytes number) es apart (omega (arith, few, ends)) most)

-- and the bytes are added
pub put-done : (offset end number : ℕ) (bytes : List ℕ) (own : Segment) (tail : Option Segment) (cut : Option ℕ) (es : Segments) → AreApart 0 es → own ≡ written bytes number → tail ≡ tail_past end es
    → cut ≡ option_map (λ e. e.0) (passing offset es) → end ≡ offset + length bytes → 0 < length bytes
    → without_between (offset + 1) end (ended_at cut offset (laid offset own (laid_tail end tail es))) ≡ added offset bytes number es
put-done offset end number bytes own tail cut es apart made is cuts ends some =
    rw (made, is, cuts) (put-is offset end (written bytes number) 0 es apart (omega (arith, ends, some)) ∙ ap (λ n. before offset es ++ (offset, written bytes number) ∷ after n es) ends)
