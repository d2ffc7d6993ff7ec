-- Segments stay apart.
use Rattle.std.proofs.Common.{◌≡◌, ◌<◌, ◌≤◌, ◌^◌, ℕ, ◌+◌, ◌-◌, ◌&&◌, ◌||◌, Bool, true, false, List, [], ◌∷◌, ◌++◌, length, take, drop, Option, Some, None, refl, arith, length-drop, length-take, nat_cmp}
use Rattle.std.specs.BTreeMap.{is_at}
use Rattle.std.specs.Prelude.{nat_le, nat_lt, if◌then◌else◌}
use Rattle.std.proofs.lemmas.Bool.{ltb-true, ltb-false, leb-false, and_parts}
use Rattle.write_back.specs.declared.state.State.{State}
use Rattle.write_back.specs.declared.change.Change.{Change}
use Rattle.write_back.specs.Segments.{Segment, Segments, AreApart, end_of, head_of, written, before, after, added, split_if, cut_from}
use Rattle.write_back.specs.Changes.{left_of, fate_between, changed}
use Rattle.write_back.specs.Walk.{passing, passing_upto, key_upto, ended_at, edited_if, split_as}
use Rattle.write_back.specs.States.{is_in_flight}
use Rattle.write_back.proofs.Changing.{apart-lower}
use Rattle.write_back.proofs.Room.{passing-inside}

-- the first bytes of a segment, and the others
head-length : (n : ℕ) (e : ℕ × Segment) → length (take n e.1.bytes) ≤ n
head-length n e = omega (arith, length-take n e.1.bytes)

head-some : (n : ℕ) (e : ℕ × Segment) → 0 < n → 0 < length e.1.bytes → 0 < length (take n e.1.bytes)
head-some n e some bytes = omega (arith, length-take n e.1.bytes, some, bytes)

head-short : (n : ℕ) (e : ℕ × Segment) → length (take n e.1.bytes) ≤ length e.1.bytes
head-short n e = omega (arith, length-take n e.1.bytes)

-- one segment that may stay, before others
apart-left-of : (low : ℕ) (state : Option State) (e : ℕ × Segment) (es : Segments) → low ≤ e.0 → 0 < length e.1.bytes → end_of e ≤ 2 ^ 63 - 1 → AreApart (end_of e) es → AreApart low (left_of state e es)
apart-left-of low None e es le some ends apart = apart-lower low (end_of e) es (omega (arith, le)) apart
apart-left-of low (Some state) e es le some ends apart = (le, some, ends, apart)

pub apart-changed : (change : Change) (a b low : ℕ) (es : Segments) → AreApart low es → AreApart low (changed change a b es)
apart-changed change a b low [] apart = tt
apart-changed change a b low (e ∷ es) apart = apart-left-of low (fate_between change a b e) e (changed change a b es) apart.0 apart.1 apart.2 (apart-changed change a b (end_of e) es apart.3)

-- what comes after a place
pub apart-after : (place low : ℕ) (es : Segments) → AreApart low es → AreApart place (after place es)
apart-after place low [] apart = tt
apart-after place low (e ∷ es) apart = by (nat_le (end_of e) place) (nat_lt e.0 place) refl refl (apart-after place (end_of e) es apart.3)
  where
    by : (b d : Bool) → nat_le (end_of e) place ≡ b → nat_lt e.0 place ≡ d → AreApart place (after place es) → AreApart place (after place (e ∷ es))
    by true d h g more = rw h more
    by false true h g more =
        let past : place < end_of e = leb-false (end_of e) place h in
        let first : e.0 < place = ltb-true e.0 place g in
        let size : length (drop (place - e.0) e.1.bytes) ≡ length e.1.bytes - (place - e.0) = length-drop (place - e.0) e.1.bytes in
        let ends : place + length (drop (place - e.0) e.1.bytes) ≡ end_of e = omega (arith, size, past, first) in
        rw (h, g) (omega arith, omega (arith, size, past, first), omega (arith, ends, apart.2), rw ends apart.3)
    by false false h g more = rw (h, g) (ltb-false e.0 place g, apart.1, apart.2, apart.3)

-- what comes before a place, and others after it
pub apart-before : (place low : ℕ) (es ys : Segments) → AreApart low es → low ≤ place → AreApart place ys → AreApart low (before place es ++ ys)
apart-before place low [] ys apart le rest = apart-lower low place ys le rest
apart-before place low (e ∷ es) ys apart le rest = by (nat_lt e.0 place) refl (λ start is most. apart-before place start es ys is most rest)
  where
    by : (b : Bool) → nat_lt e.0 place ≡ b → ((start : ℕ) → AreApart start es → start ≤ place → AreApart start (before place es ++ ys)) → AreApart low (before place (e ∷ es) ++ ys)
    by true h more =
        let first : e.0 < place = ltb-true e.0 place h in
        let size = head-length (place - e.0) e in
        let short = head-short (place - e.0) e in
        let most : e.0 + length (take (place - e.0) e.1.bytes) ≤ place = omega (arith, size, first) in
        let within : e.0 + length (take (place - e.0) e.1.bytes) ≤ end_of e = omega (arith, short) in
        rw h (
          apart.0,
          head-some (place - e.0) e (omega (arith, first)) apart.1,
          omega (arith, within, apart.2),
          more (e.0 + length (take (place - e.0) e.1.bytes)) (apart-lower (e.0 + length (take (place - e.0) e.1.bytes)) (end_of e) es within apart.3) most,
        )
    by false h more = rw h (apart-lower low place ys le rest)

pub apart-added : (offset : ℕ) (bytes : List ℕ) (number : ℕ) (es : Segments) → AreApart 0 es → 0 < length bytes → offset + length bytes ≤ 2 ^ 63 - 1 → AreApart 0 (added offset bytes number es)
apart-added offset bytes number es apart some last =
    apart-before offset 0 es ((offset, written bytes number) ∷ after (offset + length bytes) es) apart (omega arith) (omega arith, some, last, apart-after (offset + length bytes) 0 es apart)

pub apart-split : (test : Segment → Bool) (place low : ℕ) (es : Segments) → AreApart low es → AreApart low (split_if test place es)
apart-split test place low [] apart = tt
apart-split test place low (e ∷ es) apart = by (nat_lt e.0 place) (nat_lt place (end_of e) && test e.1) refl refl (apart-split test place (end_of e) es apart.3)
  where
    by : (b d : Bool) → nat_lt e.0 place ≡ b → (nat_lt place (end_of e) && test e.1) ≡ d → AreApart (end_of e) (split_if test place es) → AreApart low (split_if test place (e ∷ es))
    by true true h g more =
        let first : e.0 < place = ltb-true e.0 place h in
        let past : place < end_of e = ltb-true place (end_of e) ((and_parts (nat_lt place (end_of e)) (test e.1) g).0) in
        let size : length (take (place - e.0) e.1.bytes) ≡ place - e.0 = omega (arith, length-take (place - e.0) e.1.bytes, first, past) in
        let rest : length (drop (place - e.0) e.1.bytes) ≡ length e.1.bytes - (place - e.0) = length-drop (place - e.0) e.1.bytes in
        let ends : place + length (drop (place - e.0) e.1.bytes) ≡ end_of e = omega (arith, rest, past, first) in
        rw (h, g) (apart.0, omega (arith, size, first), omega (arith, size, past, first, apart.2), (omega (arith, size, first), omega (arith, rest, past, first), omega (arith, ends, apart.2), rw ends apart.3))
    by true false h g more = rw (h, g) (apart.0, apart.1, apart.2, more)
    by false d h g more = rw h (apart.0, apart.1, apart.2, apart.3)

pub apart-cut : (place upto low : ℕ) (es : Segments) → AreApart low es → AreApart low (cut_from place upto es)
apart-cut place upto low [] apart = tt
apart-cut place upto low (e ∷ es) apart = by (nat_lt upto e.1.number || nat_le (end_of e) place) (nat_lt e.0 place) refl refl (apart-cut place upto (end_of e) es apart.3)
  where
    by : (b d : Bool) → (nat_lt upto e.1.number || nat_le (end_of e) place) ≡ b → nat_lt e.0 place ≡ d → AreApart (end_of e) (cut_from place upto es) → AreApart low (cut_from place upto (e ∷ es))
    by true d h g more = rw h (apart.0, apart.1, apart.2, more)
    by false true h g more =
        let first : e.0 < place = ltb-true e.0 place g in
        let within : e.0 + length (take (place - e.0) e.1.bytes) ≤ end_of e = omega (arith, head-short (place - e.0) e) in
        rw (h, g) (apart.0, head-some (place - e.0) e (omega (arith, first)) apart.1, omega (arith, within, apart.2), apart-lower (e.0 + length (take (place - e.0) e.1.bytes)) (end_of e) (cut_from place upto es) within more)
    by false false h g more = rw (h, g) (apart-lower low (end_of e) (cut_from place upto es) (omega (arith, apart.0)) more)

pub apart-split-as : (flying : Bool) (place : ℕ) (es : Segments) → AreApart 0 es → AreApart 0 (split_as flying place es)
apart-split-as true place es apart = apart-split (λ s. is_in_flight s.state) place 0 es apart
apart-split-as false place es apart = apart-split (λ s. true) place 0 es apart

-- the first bytes of a segment alone are left, at least one
apart-shortened : (test : ℕ → Bool) (len low : ℕ) (es : Segments) → AreApart low es → 0 < len → AreApart low (edited_if test (head_of len) es)
apart-shortened test len low [] apart some = tt
apart-shortened test len low (e ∷ es) apart some = by (test e.0) refl (apart-shortened test len (end_of e) es apart.3 some)
  where
    by : (b : Bool) → test e.0 ≡ b → AreApart (end_of e) (edited_if test (head_of len) es) → AreApart low (edited_if test (head_of len) (e ∷ es))
    by true h more =
        let within : e.0 + length (take len e.1.bytes) ≤ end_of e = omega (arith, head-short len e) in
        rw h (apart.0, head-some len e some apart.1, omega (arith, within, apart.2), apart-lower (e.0 + length (take len e.1.bytes)) (end_of e) es within apart.3)
    by false h more = rw h (apart.0, apart.1, apart.2, more)

pub apart-ended : (place upto : ℕ) (es : Segments) → AreApart 0 es → AreApart 0 (ended_at (passing_upto place upto es) place es)
apart-ended place upto es apart = by (passing place es) refl
  where
    by : (p : Option (ℕ × Segment)) → passing place es ≡ p → AreApart 0 (ended_at (key_upto upto p) place es)
    by None h = apart
    by (Some x) h = old (nat_le x.1.number upto)
      where
        old : (b : Bool) → AreApart 0 (ended_at (if b then Some x.0 else None) place es)
        old true = apart-shortened (is_at (nat_cmp x.0)) (place - x.0) 0 es apart (omega (arith, (passing-inside place 0 es x apart h).0))
        old false = apart
