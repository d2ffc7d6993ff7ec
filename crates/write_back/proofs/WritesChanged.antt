-- How many bytes of each write segments have after a change that leaves them where they are, and after a split.
use Rattle.std.proofs.Common.{◌≡◌, ◌≤◌, ◌^◌, ℕ, ◌+◌, ◌-◌, ◌&&◌, Bool, true, false, List, [], ◌∷◌, length, map, take, drop, Option, Some, None, refl, sym, ap, ◌∙◌, arith, length-drop, length-take}
use Rattle.std.specs.Prelude.{nat_le, nat_lt, nat_eq, if◌then◌else◌}
use Rattle.write_back.specs.declared.state.State.{State}
use Rattle.write_back.specs.declared.state.State.TheVariants.{Waiting, InFlight, Acked}
use Rattle.write_back.specs.declared.change.Change.{Change}
use Rattle.write_back.specs.declared.change.Change.TheVariants as by_change
use Rattle.write_back.specs.States.{is_in_flight}
use Rattle.write_back.specs.Segments.{Segment, Segments, AreApart, end_of, head_of, tail_of, split, split_if, split_flying}
use Rattle.write_back.specs.Changes.{fate, changed, all_changed}
use Rattle.write_back.specs.Choice.{part_of}
use Rattle.write_back.specs.Walk.{split_as}
use Rattle.write_back.specs.Ages.{bytes_by, written_by, parts_by, is_gone, gone_by}
use Rattle.write_back.proofs.Keys.{in-range}
use Rattle.write_back.proofs.Splitting.{changed-all}

-- what stays, and what goes
pub gone-changed : (change : Change) (low high n : ℕ) (es : Segments) → written_by n (changed change low high es) + gone_by change low high n es ≡ written_by n es
gone-changed change low high n [] = refl
gone-changed change low high n (e ∷ es) = by (nat_le low e.0 && nat_lt e.0 high) refl (fate change e.1.number e.1.state) refl (gone-changed change low high n es)
  where
    by : (b : Bool) → (nat_le low e.0 && nat_lt e.0 high) ≡ b → (o : Option State) → fate change e.1.number e.1.state ≡ o → written_by n (changed change low high es) + gone_by change low high n es ≡ written_by n es
        → written_by n (changed change low high (e ∷ es)) + gone_by change low high n (e ∷ es) ≡ written_by n (e ∷ es)
    by true h None g more = rw (h, g) (omega (arith, more))
    by true h (Some state) g more = rw (h, g) (omega (arith, more))
    by false h o g more = rw h (omega (arith, more))

pub gone-all : (change : Change) (n : ℕ) (es : Segments) → AreApart 0 es → written_by n (all_changed change es) + gone_by change 0 18446744073709551615 n es ≡ written_by n es
gone-all change n es apart =
    sym (ap (λ z. written_by n z + gone_by change 0 18446744073709551615 n es) (changed-all change 18446744073709551615 0 es apart (omega arith))) ∙ gone-changed change 0 18446744073709551615 n es

-- a change that takes no segment away
gone-stays : (change : Change) → ((number : ℕ) (state : State) → is_gone (fate change number state) ≡ false) → (low high n : ℕ) (es : Segments) → gone_by change low high n es ≡ 0
gone-stays change stays low high n [] = refl
gone-stays change stays low high n (e ∷ es) = by (nat_le low e.0 && nat_lt e.0 high) refl (gone-stays change stays low high n es)
  where
    by : (b : Bool) → (nat_le low e.0 && nat_lt e.0 high) ≡ b → gone_by change low high n es ≡ 0 → gone_by change low high n (e ∷ es) ≡ 0
    by true h more = rw (h, stays e.1.number e.1.state) (omega (arith, more))
    by false h more = rw h (omega (arith, more))

pub written-stays : (change : Change) → ((number : ℕ) (state : State) → is_gone (fate change number state) ≡ false) → (low high n : ℕ) (es : Segments) → written_by n (changed change low high es) ≡ written_by n es
written-stays change stays low high n es = omega (arith, gone-changed change low high n es, gone-stays change stays low high n es)

pub stays-send : (number : ℕ) (state : State) → is_gone (fate by_change.Send number state) ≡ false
stays-send number state = refl

pub stays-return : (number : ℕ) (state : State) → is_gone (fate by_change.Return number state) ≡ false
stays-return number (Waiting ready) = refl
stays-return number (InFlight ready) = refl
stays-return number (Acked verf) = refl

-- all segments go
gone-clear : (high n low : ℕ) (es : Segments) → AreApart low es → 2 ^ 63 - 1 ≤ high → gone_by by_change.Clear 0 high n es ≡ written_by n es
gone-clear high n low [] apart most = refl
gone-clear high n low (e ∷ es) apart most =
    let inside : (nat_le 0 e.0 && nat_lt e.0 high) ≡ true = in-range 0 high e.0 (omega arith) (omega (arith, apart.1, apart.2, most)) in
    rw inside (ap (λ k. bytes_by n e + k) (gone-clear high n (end_of e) es apart.3 most))

pub written-all-gone : (n : ℕ) (es : Segments) → AreApart 0 es → gone_by by_change.Clear 0 18446744073709551615 n es ≡ written_by n es
written-all-gone n es apart = gone-clear 18446744073709551615 n 0 es apart (omega arith)

-- the first bytes of a segment, and the others
halves : (k : ℕ) (bytes : List ℕ) (b : Bool) → (if b then length (take k bytes) else 0) + (if b then length (drop k bytes) else 0) ≡ (if b then length bytes else 0)
halves k bytes true = omega (arith, length-take k bytes, length-drop k bytes)
halves k bytes false = refl

pub written-halves : (n k at : ℕ) (e : ℕ × Segment) → bytes_by n (e.0, head_of k e.1) + bytes_by n (at, tail_of k e.1) ≡ bytes_by n e
written-halves n k at e = halves k e.1.bytes (nat_eq e.1.number n)

pub written-split-if : (test : Segment → Bool) (place n : ℕ) (es : Segments) → written_by n (split_if test place es) ≡ written_by n es
written-split-if test place n [] = refl
written-split-if test place n (e ∷ es) = by (nat_lt e.0 place) refl (nat_lt place (end_of e) && test e.1) refl (written-split-if test place n es)
  where
    by : (b : Bool) → nat_lt e.0 place ≡ b → (d : Bool) → (nat_lt place (end_of e) && test e.1) ≡ d → written_by n (split_if test place es) ≡ written_by n es → written_by n (split_if test place (e ∷ es)) ≡ written_by n (e ∷ es)
    by true h true g more = rw (h, g) (omega (arith, written-halves n (place - e.0) place e))
    by true h false g more = rw (h, g) (omega (arith, more))
    by false h d g more = rw h refl

pub written-split : (place n : ℕ) (es : Segments) → written_by n (split place es) ≡ written_by n es
written-split place n es = written-split-if (λ s. true) place n es

pub written-split-flying : (place n : ℕ) (es : Segments) → written_by n (split_flying place es) ≡ written_by n es
written-split-flying place n es = written-split-if (λ s. is_in_flight s.state) place n es

pub written-split-as : (flying : Bool) (place n : ℕ) (es : Segments) → written_by n (split_as flying place es) ≡ written_by n es
written-split-as true place n es = written-split-flying place n es
written-split-as false place n es = written-split place n es

-- the parts of a piece have the bytes of their segments
pub parts-of : (n : ℕ) (es : Segments) → parts_by n (map part_of es) ≡ written_by n es
parts-of n [] = refl
parts-of n (e ∷ es) = ap (λ k. bytes_by n e + k) (parts-of n es)
