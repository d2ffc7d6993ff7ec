-- Segments that stop at a place, after a change or a cut.
use Rattle.std.proofs.Common.{◌≡◌, ◌<◌, ◌≤◌, ℕ, ◌+◌, ◌-◌, ◌&&◌, ◌||◌, Bool, true, false, List, [], ◌∷◌, ◌++◌, length, take, drop, Option, Some, None, refl, sym, ap, ◌∙◌, arith, length-drop, length-take}
use Rattle.std.specs.Prelude.{nat_le, nat_lt}
use Rattle.std.proofs.lemmas.Bool.{ltb-true, ltb-false, leb-true, leb-false, and_parts}
use Rattle.write_back.specs.declared.state.State.{State}
use Rattle.write_back.specs.declared.change.Change.{Change}
use Rattle.write_back.specs.States.{is_in_flight, is_ready}
use Rattle.write_back.specs.Segments.{Segment, Segments, AreApart, end_of, written, before, after, added, split_if, cut_from}
use Rattle.write_back.specs.Changes.{fate, left_of, fate_between, changed, all_changed}
use Rattle.write_back.specs.Pieces.{Sent}
use Rattle.write_back.specs.Sound.{StopsAt, AreWithin, NoneBefore}

-- a change makes nothing pass a test that didn't before
abbrev pub Keeps : Change → (State → Bool) → Type 0
Keeps change test = (number : ℕ) (state left : State) → fate change number state ≡ Some left → test left ≡ true → test state ≡ true

left-stops : (test : State → Bool) (place : ℕ) (e : ℕ × Segment) (es : Segments) (o : Option State) → ((left : State) → o ≡ Some left → test left ≡ true → e.0 < place → end_of e ≤ place) → StopsAt test place es → StopsAt test place (left_of o e es)
left-stops test place e es None stops more = more
left-stops test place e es (Some left) stops more = (stops left refl, more)

between-keeps : (change : Change) (test : State → Bool) → Keeps change test → (low high : ℕ) (e : ℕ × Segment) (left : State) → fate_between change low high e ≡ Some left → test left ≡ true → test e.1.state ≡ true
between-keeps change test keeps low high e left is t = by (nat_le low e.0 && nat_lt e.0 high) refl
  where
    by : (b : Bool) → (nat_le low e.0 && nat_lt e.0 high) ≡ b → test e.1.state ≡ true
    by true h = let f : fate change e.1.number e.1.state ≡ Some left = (rw h at is) in keeps e.1.number e.1.state left f t
    by false h = let f : Some e.1.state ≡ Some left = (rw h at is) in let same : e.1.state ≡ left = cc in ap test same ∙ t

pub stops-changed : (change : Change) (test : State → Bool) → Keeps change test → (low high place : ℕ) (es : Segments) → StopsAt test place es → StopsAt test place (changed change low high es)
stops-changed change test keeps low high place [] stops = tt
stops-changed change test keeps low high place (e ∷ es) stops =
    left-stops test place e (changed change low high es) (fate_between change low high e) (λ left is t. stops.0 (between-keeps change test keeps low high e left is t)) (stops-changed change test keeps low high place es stops.1)

pub stops-all : (change : Change) (test : State → Bool) → Keeps change test → (place : ℕ) (es : Segments) → StopsAt test place es → StopsAt test place (all_changed change es)
stops-all change test keeps place [] stops = tt
stops-all change test keeps place (e ∷ es) stops =
    left-stops test place e (all_changed change es) (fate change e.1.number e.1.state) (λ left is t. stops.0 (keeps e.1.number e.1.state left is t)) (stops-all change test keeps place es stops.1)

pub within-changed : (change : Change) → Keeps change is_in_flight → (low high : ℕ) (pieces : List Sent) (es : Segments) → AreWithin pieces es → AreWithin pieces (changed change low high es)
within-changed change keeps low high [] es within = tt
within-changed change keeps low high (p ∷ pieces) es within =
    (stops-changed change is_in_flight keeps low high _ es within.0, stops-changed change is_in_flight keeps low high _ es within.1, within-changed change keeps low high pieces es within.2)

pub within-all : (change : Change) → Keeps change is_in_flight → (pieces : List Sent) (es : Segments) → AreWithin pieces es → AreWithin pieces (all_changed change es)
within-all change keeps [] es within = tt
within-all change keeps (p ∷ pieces) es within =
    (stops-all change is_in_flight keeps _ es within.0, stops-all change is_in_flight keeps _ es within.1, within-all change keeps pieces es within.2)

-- what begins at a place or after it stops there
pub stops-later : (test : State → Bool) (place from : ℕ) (es : Segments) → AreApart from es → place ≤ from → StopsAt test place es
stops-later test place from [] apart le = tt
stops-later test place from (e ∷ es) apart le = (λ t less. absurd (omega (arith, less, le, apart.0)), stops-later test place (end_of e) es apart.3 (omega (arith, le, apart.0)))

-- what is cut at another place
pub stops-split : (test : State → Bool) (cut : Segment → Bool) (place at : ℕ) (es : Segments) → StopsAt test place es → StopsAt test place (split_if cut at es)
stops-split test cut place at [] stops = tt
stops-split test cut place at (e ∷ es) stops = by (nat_lt e.0 at) (nat_lt at (end_of e) && cut e.1) refl refl (stops-split test cut place at es stops.1)
  where
    by : (b d : Bool) → nat_lt e.0 at ≡ b → (nat_lt at (end_of e) && cut e.1) ≡ d → StopsAt test place (split_if cut at es) → StopsAt test place (split_if cut at (e ∷ es))
    by true true h g more =
        let first : e.0 < at = ltb-true e.0 at h in
        let last : at < end_of e = ltb-true at (end_of e) ((and_parts (nat_lt at (end_of e)) (cut e.1) g).0) in
        let head : length (take (at - e.0) e.1.bytes) ≡ at - e.0 = omega (arith, length-take (at - e.0) e.1.bytes, first, last) in
        let tail : length (drop (at - e.0) e.1.bytes) ≡ length e.1.bytes - (at - e.0) = length-drop (at - e.0) e.1.bytes in
        rw (h, g) (λ t less. omega (arith, head, first, last, stops.0 t less), (λ t less. omega (arith, tail, first, last, stops.0 t (omega (arith, first, less))), stops.1))
    by true false h g more = rw (h, g) (stops.0, more)
    by false d h g more = rw h stops

-- what is cut at this place
pub stops-cut : (test : State → Bool) (cut : Segment → Bool) (at from : ℕ) (es : Segments) → AreApart from es → ((s : Segment) → test s.state ≡ true → cut s ≡ true) → StopsAt test at (split_if cut at es)
stops-cut test cut at from [] apart all = tt
stops-cut test cut at from (e ∷ es) apart all = by (nat_lt e.0 at) (nat_lt at (end_of e)) (cut e.1) refl refl refl (stops-cut test cut at (end_of e) es apart.3 all)
  where
    by : (b d c : Bool) → nat_lt e.0 at ≡ b → nat_lt at (end_of e) ≡ d → cut e.1 ≡ c → StopsAt test at (split_if cut at es) → StopsAt test at (split_if cut at (e ∷ es))
    by true true true h g k more =
        let first : e.0 < at = ltb-true e.0 at h in
        let last : at < end_of e = ltb-true at (end_of e) g in
        let head : length (take (at - e.0) e.1.bytes) ≡ at - e.0 = omega (arith, length-take (at - e.0) e.1.bytes, first, last) in
        rw (h, g, k) (λ t less. omega (arith, head, first), ((λ t less. omega (arith, less)), stops-later test at (end_of e) es apart.3 (omega (arith, last))))
    by true true false h g k more = rw (h, g, k) (λ t less. absurd (let wrong : false ≡ true = sym k ∙ all e.1 t in cc), more)
    by true false c h g k more = rw (h, g) (λ t less. ltb-false at (end_of e) g, more)
    by false d c h g k more = rw h (stops-later test at e.0 (e ∷ es) (omega arith, apart.1, apart.2, apart.3) (ltb-false e.0 at h))

-- new bytes, which aren't in flight
stops-after : (test : State → Bool) (place at from : ℕ) (es : Segments) → AreApart from es → StopsAt test place es → StopsAt test place (after at es)
stops-after test place at from [] apart stops = tt
stops-after test place at from (e ∷ es) apart stops = by (nat_le (end_of e) at) (nat_lt e.0 at) refl refl (stops-after test place at (end_of e) es apart.3 stops.1)
  where
    by : (b d : Bool) → nat_le (end_of e) at ≡ b → nat_lt e.0 at ≡ d → StopsAt test place (after at es) → StopsAt test place (after at (e ∷ es))
    by true d h g more = rw h more
    by false true h g more =
        let last : at < end_of e = leb-false (end_of e) at h in
        let first : e.0 < at = ltb-true e.0 at g in
        let tail : length (drop (at - e.0) e.1.bytes) ≡ length e.1.bytes - (at - e.0) = length-drop (at - e.0) e.1.bytes in
        rw (h, g) (λ t less. omega (arith, tail, first, last, stops.0 t (omega (arith, first, less))), stops.1)
    by false false h g more = rw (h, g) stops

stops-before : (test : State → Bool) (place at : ℕ) (es ys : Segments) → StopsAt test place es → StopsAt test place ys → StopsAt test place (before at es ++ ys)
stops-before test place at [] ys stops rest = rest
stops-before test place at (e ∷ es) ys stops rest = by (nat_lt e.0 at) refl (stops-before test place at es ys stops.1 rest)
  where
    by : (b : Bool) → nat_lt e.0 at ≡ b → StopsAt test place (before at es ++ ys) → StopsAt test place (before at (e ∷ es) ++ ys)
    by true h more = rw h (λ t less. omega (arith, length-take (at - e.0) e.1.bytes, stops.0 t less), more)
    by false h more = rw h rest

stops-added : (place offset : ℕ) (bytes : List ℕ) (number : ℕ) (es : Segments) → AreApart 0 es → StopsAt is_in_flight place es → StopsAt is_in_flight place (added offset bytes number es)
stops-added place offset bytes number es apart stops =
    stops-before is_in_flight place offset es ((offset, written bytes number) ∷ after (offset + length bytes) es) stops ((λ (t : false ≡ true). absurd cc), stops-after is_in_flight place (offset + length bytes) 0 es apart stops)

pub within-added : (offset : ℕ) (bytes : List ℕ) (number : ℕ) (pieces : List Sent) (es : Segments) → AreApart 0 es → AreWithin pieces es → AreWithin pieces (added offset bytes number es)
within-added offset bytes number [] es apart within = tt
within-added offset bytes number (p ∷ pieces) es apart within = (stops-added _ offset bytes number es apart within.0, stops-added _ offset bytes number es apart within.1, within-added offset bytes number pieces es apart within.2)

-- no segment that may be sent begins before a place
pub none-lower : (low place : ℕ) (es : Segments) → low ≤ place → NoneBefore place es → NoneBefore low es
none-lower low place [] le none = tt
none-lower low place (e ∷ es) le none = (λ t. omega (arith, le, none.0 t), none-lower low place es le none.1)

pub none-zero : (es : Segments) → NoneBefore 0 es
none-zero [] = tt
none-zero (e ∷ es) = (λ t. omega arith, none-zero es)

pub none-later : (place from : ℕ) (es : Segments) → AreApart from es → place ≤ from → NoneBefore place es
none-later place from [] apart le = tt
none-later place from (e ∷ es) apart le = (λ t. omega (arith, le, apart.0), none-later place (end_of e) es apart.3 (omega (arith, le, apart.0)))

none-before : (place at : ℕ) (es ys : Segments) → NoneBefore place es → NoneBefore place ys → NoneBefore place (before at es ++ ys)
none-before place at [] ys none rest = rest
none-before place at (e ∷ es) ys none rest = by (nat_lt e.0 at) refl (none-before place at es ys none.1 rest)
  where
    by : (b : Bool) → nat_lt e.0 at ≡ b → NoneBefore place (before at es ++ ys) → NoneBefore place (before at (e ∷ es) ++ ys)
    by true h more = rw h (none.0, more)
    by false h more = rw h rest

none-after : (place at : ℕ) (es : Segments) → place ≤ at → NoneBefore place es → NoneBefore place (after at es)
none-after place at [] le none = tt
none-after place at (e ∷ es) le none = by (nat_le (end_of e) at) (nat_lt e.0 at) refl refl (none-after place at es le none.1)
  where
    by : (b d : Bool) → nat_le (end_of e) at ≡ b → nat_lt e.0 at ≡ d → NoneBefore place (after at es) → NoneBefore place (after at (e ∷ es))
    by true d h g more = rw h more
    by false true h g more = rw (h, g) (λ t. le, none.1)
    by false false h g more = rw (h, g) none

pub none-added : (place offset : ℕ) (bytes : List ℕ) (number : ℕ) (es : Segments) → place ≤ offset → NoneBefore place es → NoneBefore place (added offset bytes number es)
none-added place offset bytes number es le none =
    none-before place offset es ((offset, written bytes number) ∷ after (offset + length bytes) es) none (λ t. le, none-after place (offset + length bytes) es (omega (arith, le)) none)

pub none-split : (place at : ℕ) (cut : Segment → Bool) (es : Segments) → NoneBefore place es → NoneBefore place (split_if cut at es)
none-split place at cut [] none = tt
none-split place at cut (e ∷ es) none = by (nat_lt e.0 at) (nat_lt at (end_of e) && cut e.1) refl refl (none-split place at cut es none.1)
  where
    by : (b d : Bool) → nat_lt e.0 at ≡ b → (nat_lt at (end_of e) && cut e.1) ≡ d → NoneBefore place (split_if cut at es) → NoneBefore place (split_if cut at (e ∷ es))
    by true true h g more = rw (h, g) (none.0, ((λ t. omega (arith, none.0 t, ltb-true e.0 at h)), none.1))
    by true false h g more = rw (h, g) (none.0, more)
    by false d h g more = rw h none

pub none-cut : (place at upto : ℕ) (es : Segments) → NoneBefore place es → NoneBefore place (cut_from at upto es)
none-cut place at upto [] none = tt
none-cut place at upto (e ∷ es) none = by (nat_lt upto e.1.number || nat_le (end_of e) at) (nat_lt e.0 at) refl refl (none-cut place at upto es none.1)
  where
    by : (b d : Bool) → (nat_lt upto e.1.number || nat_le (end_of e) at) ≡ b → nat_lt e.0 at ≡ d → NoneBefore place (cut_from at upto es) → NoneBefore place (cut_from at upto (e ∷ es))
    by true d h g more = rw h (none.0, more)
    by false true h g more = rw (h, g) (none.0, more)
    by false false h g more = rw (h, g) more

-- a change of a range that begins at the place or after it
none-left : (place : ℕ) (e : ℕ × Segment) (es : Segments) (o : Option State) → ((left : State) → o ≡ Some left → is_ready left ≡ true → place ≤ e.0) → NoneBefore place es → NoneBefore place (left_of o e es)
none-left place e es None none more = more
none-left place e es (Some left) none more = (none left refl, more)

pub none-changed : (change : Change) (place low high : ℕ) (es : Segments) → place ≤ low → NoneBefore place es → NoneBefore place (changed change low high es)
none-changed change place low high [] le none = tt
none-changed change place low high (e ∷ es) le none = none-left place e (changed change low high es) (fate_between change low high e) (λ left is t. by left is t (nat_le low e.0 && nat_lt e.0 high) refl) (none-changed change place low high es le none.1)
  where
    by : (left : State) → fate_between change low high e ≡ Some left → is_ready left ≡ true → (b : Bool) → (nat_le low e.0 && nat_lt e.0 high) ≡ b → place ≤ e.0
    by left is t true h = omega (arith, le, leb-true low e.0 ((and_parts (nat_le low e.0) (nat_lt e.0 high) h).0))
    by left is t false h = let f : Some e.1.state ≡ Some left = (rw h at is) in let same : e.1.state ≡ left = cc in none.0 (ap is_ready same ∙ t)

-- no segment in flight goes on past an end of a piece, after a cut
pub within-split : (cut : Segment → Bool) (at : ℕ) (pieces : List Sent) (es : Segments) → AreWithin pieces es → AreWithin pieces (split_if cut at es)
within-split cut at [] es within = tt
within-split cut at (p ∷ pieces) es within = (stops-split is_in_flight cut _ at es within.0, stops-split is_in_flight cut _ at es within.1, within-split cut at pieces es within.2)
