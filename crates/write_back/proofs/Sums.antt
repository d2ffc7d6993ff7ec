-- How many bytes segments have that aren't in flight.
use Rattle.std.proofs.Common.{◌≡◌, ◌≤◌, ◌^◌, ℕ, ◌+◌, ◌-◌, Bool, true, false, [], ◌∷◌, length, Some, None, refl, arith, nat_cmp}
use Rattle.std.specs.Option.{option_map}
use Rattle.std.specs.declared.cmp.Ordering.{Ordering}
use Rattle.std.specs.declared.cmp.Ordering.TheVariants.{Less, Equal, Greater}
use Rattle.std.specs.Map.{lookup, remove_entry, keys_of, values_of}
use Rattle.std.specs.Cmp.{nat_cmp_total}
use Rattle.std.specs.List.Sorted.{IsStrictlySortedBy}
use Rattle.std.specs.BTreeMap.{is_at}
use Rattle.write_back.specs.Walk.{laid, edited_if}
use Rattle.std.proofs.lemmas.List.Sums.{sum_by-cons}
use Rattle.std.proofs.lemmas.Map.Entries.{sum_by-remove_entry, sum_by-insert_entry}
use Rattle.write_back.specs.States.{is_in_flight}
use Rattle.write_back.specs.Segments.{Segment, Segments, AreApart, end_of, own_size, own_in, own_of}

pub own-cons : (e : ℕ × Segment) (es : Segments) → own_of (e ∷ es) ≡ own_size e.1 + own_of es
own-cons e es = sum_by-cons own_size e.1 (values_of es)

-- a segment's own bytes are at most its bytes
pub own-le : (s : Segment) → own_size s ≤ length s.bytes
own-le s = by (is_in_flight s.state) refl
  where
    by : (b : Bool) → is_in_flight s.state ≡ b → own_size s ≤ length s.bytes
    by true h = rw h (omega arith)
    by false h = rw h (omega arith)

-- segments that are apart have no more bytes than places
pub own-bound : (low : ℕ) (es : Segments) → AreApart low es → low ≤ 2 ^ 63 - 1 → low + own_of es ≤ 2 ^ 63 - 1
own-bound low [] apart h = omega (arith, h)
own-bound low (e ∷ es) apart h =
    let more : end_of e + own_of es ≤ 2 ^ 63 - 1 = own-bound (end_of e) es apart.3 apart.2 in
    omega (arith, own-cons e es, own-le e.1, more, apart.0)

-- after one went
pub own-removed : (test : ℕ → Bool) (es : Segments) → own_of (remove_entry test es) + own_in (lookup test es) ≡ own_of es
own-removed test es = sum_by-remove_entry own_size test es

-- the own bytes of a segment are some of all
pub own-among : (test : ℕ → Bool) (es : Segments) → own_in (lookup test es) ≤ own_of es
own-among test es = omega (arith, own-removed test es)

-- after one was laid
pub own-laid : (at : ℕ) (s : Segment) (es : Segments) → IsStrictlySortedBy nat_cmp (keys_of es) → own_of (laid at s es) + own_in (lookup (is_at (nat_cmp at)) es) ≡ own_of es + own_size s
own-laid at s es sorted = sum_by-insert_entry own_size nat_cmp_total es at s sorted

-- after one was changed
pub own-edited : (test : ℕ → Bool) (f : Segment → Segment) (es : Segments) → own_of (edited_if test f es) + own_in (lookup test es) ≡ own_of es + own_in (option_map f (lookup test es))
own-edited test f [] = refl
own-edited test f (e ∷ es) = by (test e.0) refl (own-edited test f es)
  where
    by : (b : Bool) → test e.0 ≡ b → own_of (edited_if test f es) + own_in (lookup test es) ≡ own_of es + own_in (option_map f (lookup test es))
        → own_of (edited_if test f (e ∷ es)) + own_in (lookup test (e ∷ es)) ≡ own_of (e ∷ es) + own_in (option_map f (lookup test (e ∷ es)))
    by true h more = rw h (omega (arith, own-cons (e.0, f e.1) es, own-cons e es))
    by false h more = rw h (omega (arith, own-cons e (edited_if test f es), own-cons e es, more))

-- a segment that is laid adds at most its own bytes
pub own-laid-le : (at : ℕ) (s : Segment) (es : Segments) → own_of (laid at s es) ≤ own_of es + own_size s
own-laid-le at s [] = omega (arith, own-cons (at, s) [])
own-laid-le at s (e ∷ es) = by (nat_cmp at e.0) refl (own-laid-le at s es)
  where
    by : (r : Ordering) → nat_cmp at e.0 ≡ r → own_of (laid at s es) ≤ own_of es + own_size s → own_of (laid at s (e ∷ es)) ≤ own_of (e ∷ es) + own_size s
    by Less h more = rw h (omega (arith, own-cons (at, s) (e ∷ es), own-cons e es))
    by Equal h more = rw h (omega (arith, own-cons (e.0, s) es, own-cons e es))
    by Greater h more = rw h (omega (arith, own-cons e (laid at s es), own-cons e es, more))

pub own-laid-free : (at : ℕ) (s : Segment) (es : Segments) → lookup (is_at (nat_cmp at)) es ≡ None → own_of (laid at s es) ≡ own_of es + own_size s
own-laid-free at s [] none = omega (arith, own-cons (at, s) [])
own-laid-free at s (e ∷ es) none = by (nat_cmp at e.0) refl (own-laid-free at s es)
  where
    by : (r : Ordering) → nat_cmp at e.0 ≡ r → (lookup (is_at (nat_cmp at)) es ≡ None → own_of (laid at s es) ≡ own_of es + own_size s) → own_of (laid at s (e ∷ es)) ≡ own_of (e ∷ es) + own_size s
    by Less h more = rw h (omega (arith, own-cons (at, s) (e ∷ es), own-cons e es))
    by Equal h more = let f : Some e.1 ≡ None = (rw h at none) in absurd cc
    by Greater h more = let f : lookup (is_at (nat_cmp at)) es ≡ None = (rw h at none) in rw h (omega (arith, own-cons e (laid at s es), own-cons e es, more f))
