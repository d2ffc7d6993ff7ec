-- What holds of the newest byte of each place, by its number, goes on holding: no change of what is pending makes a byte.
use Rattle.core_session.proofs.Prelude.{◌≡◌, ◌≢◌, ◌≤◌, ◌<◌, ◌+◌, ◌-◌, ◌&&◌, ◌||◌, ◌⊎◌, inl, inr, ℕ, Bool, true, false, List, [], ◌∷◌, ◌++◌, length, take, drop, Option, Some, None, refl, sym, ap, subst, ◌∙◌, arith, nat_lt, slice_index, if◌then◌else◌, ltb-true, Verf, Change, is_in_flight, Segments, Cell, covers, cell_at, EachSound, with_sent, Pending, of_file, OnFile, with_bytes, landed, landed_part, at_xid, with_cut, FilePending, piece_under, covered, low-of, high-of, same-or}
use Rattle.std.proofs.Common.{length-take, length-drop}
use Rattle.std.specs.Prelude.{nat_le}
use Rattle.write_back.specs.Segments.{Segment, AreApart, cell_in, end_of, head_of, tail_of, written, before, after, split_if, split_flying, cut_from}
use Rattle.write_back.specs.Landing.{changed_part, at_piece}
use Rattle.write_back.specs.Pieces.{Sent, end_of_sent}
use Rattle.std.proofs.lemmas.List.{get_or-take, get_or-drop}
use Rattle.write_back.specs.declared.change.Change.TheVariants as by_change
use Rattle.write_back.specs.declared.state.State.{State}
use Rattle.write_back.specs.Changes.{fate, left_of, fate_between, changed, all_changed}
use Rattle.write_back.proofs.Cells.{later-none}

some-cell : (a b : Cell) → Some a ≡ Some b → a ≡ b
some-cell a b e = cc

-- G holds of a place, a byte and a number.
module _ (G : ℕ → ℕ → ℕ → Type 0) where
  abbrev pub OfOne : ℕ × Segment → Type 0
  OfOne e = (place : ℕ) → covers e.0 (length e.1.bytes) place ≡ true → G place (slice_index e.1.bytes (place - e.0)) e.1.number

  abbrev pub OfAll : Segments → Type 0
  OfAll [] = Unit {0}
  OfAll (e ∷ es) = OfOne e × OfAll es

  -- ---- by place

  pub cell-of : (es : Segments) (place : ℕ) (cell : Cell) → OfAll es → cell_at es place ≡ Some cell → G place cell.byte cell.number
  cell-of [] place cell g is = absurd (let no_way : None ≡ Some cell = is in cc)
  cell-of (e ∷ es) place cell g is = by (covers e.0 (length e.1.bytes) place) refl (λ k. cell-of es place cell g.1 k) is
    where
      by : (b : Bool) → covers e.0 (length e.1.bytes) place ≡ b → (cell_at es place ≡ Some cell → G place cell.byte cell.number)
          → (if b then Some (cell_in e place) else cell_at es place) ≡ Some cell → G place cell.byte cell.number
      by true c rest k = subst (λ (q : Cell). G place q.byte q.number) (some-cell (cell_in e place) cell k) (g.0 place c)
      by false c rest k = rest k

  -- and the other way round, of segments that share no place
  pub of-cells : (low : ℕ) (es : Segments) → AreApart low es → ((place : ℕ) (cell : Cell) → cell_at es place ≡ Some cell → G place cell.byte cell.number) → OfAll es
  of-cells low [] apart each = tt
  of-cells low (e ∷ es) apart each = (own, of-cells (end_of e) es apart.3 rest)
    where
      own : OfOne e
      own place c = each place (cell_in e place) (rw c refl)

      rest : (place : ℕ) (cell : Cell) → cell_at es place ≡ Some cell → G place cell.byte cell.number
      rest place cell is = by (covers e.0 (length e.1.bytes) place) refl
        where
          by : (b : Bool) → covers e.0 (length e.1.bytes) place ≡ b → G place cell.byte cell.number
          by true c =
              let inside : place < end_of e = high-of e.0 (end_of e) place c in
              absurd (let no_way : None ≡ Some cell = sym (later-none (end_of e) es place apart.3 inside) ∙ is in cc)
          by false c = each place cell (rw c is)

  -- ---- segments

  head-on : (n : ℕ) (e : ℕ × Segment) → OfOne e → OfOne (e.0, head_of n e.1)
  head-on n e g place c =
      let low = low-of e.0 (e.0 + length (take n e.1.bytes)) place c in
      let high = high-of e.0 (e.0 + length (take n e.1.bytes)) place c in
      let short : length (take n e.1.bytes) ≤ n = short-take n e.1.bytes in
      let less : length (take n e.1.bytes) ≤ length e.1.bytes = less-take n e.1.bytes in
      let byte : slice_index (take n e.1.bytes) (place - e.0) ≡ slice_index e.1.bytes (place - e.0) = get_or-take n e.1.bytes (place - e.0) 0 (omega (arith, low, high, short)) in
      subst (λ (b : ℕ). G place b e.1.number) (sym byte) (g place (covered e.0 (length e.1.bytes) place low (omega (arith, high, less))))
    where
      short-take : (n : ℕ) (bytes : List ℕ) → length (take n bytes) ≤ n
      short-take n bytes = let is = length-take n bytes in omega (arith, is)

      less-take : (n : ℕ) (bytes : List ℕ) → length (take n bytes) ≤ length bytes
      less-take n bytes = let is = length-take n bytes in omega (arith, is)

  tail-on : (at : ℕ) (e : ℕ × Segment) → e.0 ≤ at → OfOne e → OfOne (at, tail_of (at - e.0) e.1)
  tail-on at e from g place c =
      let all : length (drop (at - e.0) e.1.bytes) ≡ length e.1.bytes - (at - e.0) = length-drop (at - e.0) e.1.bytes in
      let low = low-of at (at + length (drop (at - e.0) e.1.bytes)) place c in
      let high = high-of at (at + length (drop (at - e.0) e.1.bytes)) place c in
      let sums : at - e.0 + (place - at) ≡ place - e.0 = omega (arith, from, low) in
      let byte : slice_index (drop (at - e.0) e.1.bytes) (place - at) ≡ slice_index e.1.bytes (place - e.0) =
      get_or-drop (at - e.0) e.1.bytes (place - at) 0 ∙ ap (λ n. slice_index e.1.bytes n) sums in
      subst (λ (b : ℕ). G place b e.1.number) (sym byte) (g place (covered e.0 (length e.1.bytes) place (omega (arith, from, low)) (omega (arith, from, low, high, all))))

  left-on : (o : Option State) (e : ℕ × Segment) (es : Segments) → OfOne e → OfAll es → OfAll (left_of o e es)
  left-on None e es own rest = rest
  left-on (Some state) e es own rest = (own, rest)

  changed-on : (change : Change) (low high : ℕ) (es : Segments) → OfAll es → OfAll (changed change low high es)
  changed-on change low high [] g = tt
  changed-on change low high (e ∷ es) g = left-on (fate_between change low high e) e (changed change low high es) g.0 (changed-on change low high es g.1)

  all-on : (change : Change) (es : Segments) → OfAll es → OfAll (all_changed change es)
  all-on change [] g = tt
  all-on change (e ∷ es) g = left-on (fate change e.1.number e.1.state) e (all_changed change es) g.0 (all-on change es g.1)

  split-on : (test : Segment → Bool) (place : ℕ) (es : Segments) → OfAll es → OfAll (split_if test place es)
  split-on test place [] g = tt
  split-on test place (e ∷ es) g = by (nat_lt e.0 place) refl (nat_lt place (end_of e) && test e.1) (split-on test place es g.1)
    where
      by : (b : Bool) → nat_lt e.0 place ≡ b → (d : Bool) → OfAll (split_if test place es)
          → OfAll (if b then (if d then (e.0, head_of (place - e.0) e.1) ∷ (place, tail_of (place - e.0) e.1) ∷ es else e ∷ split_if test place es) else e ∷ es)
      by false is d rest = g
      by true is false rest = (g.0, rest)
      by true is true rest =
          let low = ltb-true e.0 place is in (head-on (place - e.0) e g.0, (tail-on place e (omega (arith, low)) g.0, g.1))

  cut-on : (place upto : ℕ) (es : Segments) → OfAll es → OfAll (cut_from place upto es)
  cut-on place upto [] g = tt
  cut-on place upto (e ∷ es) g = by (nat_lt upto e.1.number || nat_le (end_of e) place) (nat_lt e.0 place) (cut-on place upto es g.1)
    where
      by : (b d : Bool) → OfAll (cut_from place upto es)
          → OfAll (if b then e ∷ cut_from place upto es else if d then (e.0, head_of (place - e.0) e.1) ∷ cut_from place upto es else cut_from place upto es)
      by true d rest = (g.0, rest)
      by false true rest = (head-on (place - e.0) e g.0, rest)
      by false false rest = rest

  before-on : (place : ℕ) (es : Segments) → OfAll es → OfAll (before place es)
  before-on place [] g = tt
  before-on place (e ∷ es) g = by (nat_lt e.0 place) (before-on place es g.1)
    where
      by : (b : Bool) → OfAll (before place es) → OfAll (if b then (e.0, head_of (place - e.0) e.1) ∷ before place es else [])
      by true rest = (head-on (place - e.0) e g.0, rest)
      by false rest = tt

  after-on : (place : ℕ) (es : Segments) → OfAll es → OfAll (after place es)
  after-on place [] g = tt
  after-on place (e ∷ es) g = by (nat_le (end_of e) place) (nat_lt e.0 place) refl (after-on place es g.1)
    where
      by : (b d : Bool) → nat_lt e.0 place ≡ d → OfAll (after place es)
          → OfAll (if b then after place es else if d then (place, tail_of (place - e.0) e.1) ∷ es else e ∷ es)
      by true d is rest = rest
      by false true is rest = let low = ltb-true e.0 place is in (tail-on place e (omega (arith, low)) g.0, g.1)
      by false false is rest = g

  append-on : (es others : Segments) → OfAll es → OfAll others → OfAll (es ++ others)
  append-on [] others g h = h
  append-on (e ∷ es) others g h = (g.0, append-on es others g.1 h)

  part-on : (change : Change) (count : ℕ) (piece : Sent) (es : Segments) → OfAll es → OfAll (changed_part change count piece es)
  part-on change count piece es g = by (nat_le (length piece.bytes) count)
    where
      by : (b : Bool) → OfAll (if b then changed change piece.offset (end_of_sent piece) es
          else changed by_change.Return (piece.offset + count) (end_of_sent piece) (changed change piece.offset (piece.offset + count) (split_flying (piece.offset + count) es)))
      by true = changed-on change piece.offset (end_of_sent piece) es g
      by false =
          changed-on by_change.Return (piece.offset + count) (end_of_sent piece) (changed change piece.offset (piece.offset + count) (split_flying (piece.offset + count) es))
          (changed-on change piece.offset (piece.offset + count) (split_flying (piece.offset + count) es)
          (split-on (λ (s : Segment). is_in_flight s.state) (piece.offset + count) es g))

  -- ---- one file

  pub landed-on : (change : Change) (xid : ℕ) (of : FilePending) → OfAll of.segments → OfAll (at_xid (landed change) xid of).segments
  landed-on change xid of g = by (piece_under xid of.pieces)
    where
      by : (o : Option Sent) → OfAll (at_piece (landed change) o of).segments
      by None = g
      by (Some piece) = changed-on change piece.offset (end_of_sent piece) of.segments g

  pub landed-part-on : (change : Change) (count xid : ℕ) (of : FilePending) → OfAll of.segments → OfAll (at_xid (landed_part change count) xid of).segments
  landed-part-on change count xid of g = by (piece_under xid of.pieces)
    where
      by : (o : Option Sent) → OfAll (at_piece (landed_part change count) o of).segments
      by None = g
      by (Some piece) = part-on change count piece of.segments g

  pub decided-on : (upto : ℕ) (verf : Verf) (es : Segments) → OfAll es → OfAll (all_changed (by_change.MarkAgain upto) (all_changed (by_change.Settle verf upto) es))
  decided-on upto verf es g = all-on (by_change.MarkAgain upto) (all_changed (by_change.Settle verf upto) es) (all-on (by_change.Settle verf upto) es g)

  pub cut-file-on : (size upto : ℕ) (of : FilePending) → OfAll of.segments → OfAll (with_cut size upto of).segments
  cut-file-on size upto of g = cut-on size upto of.segments g

  pub bytes-on : (offset : ℕ) (bytes : List ℕ) (number : ℕ) (of : FilePending)
      → ((place : ℕ) → covers offset (length bytes) place ≡ true → G place (slice_index bytes (place - offset)) number) → OfAll of.segments → OfAll (with_bytes offset bytes number of).segments
  bytes-on offset [] number of own g = g
  bytes-on offset (b ∷ bs) number of own g =
      append-on (before offset of.segments) ((offset, written (b ∷ bs) number) ∷ after (offset + length (b ∷ bs)) of.segments)
      (before-on offset of.segments g) (own, after-on (offset + length (b ∷ bs)) of.segments g)

  pub sent-on : (piece : Sent) (of : FilePending) → OfAll of.segments → OfAll (with_sent piece of).segments
  sent-on piece of g =
      changed-on by_change.Send piece.offset (piece.offset + length piece.bytes) (split_if (λ (s : Segment). true) (piece.offset + length piece.bytes) of.segments)
      (split-on (λ (s : Segment). true) (piece.offset + length piece.bytes) of.segments g)

-- ---- every file

pub record OfNewest (G : List ℕ → ℕ → ℕ → ℕ → Type 0) (back : Pending) : Type 0 where
  pub file : (f : List ℕ) → OfAll (G f) (of_file f back).segments

pub on-newest : (G : List ℕ → ℕ → ℕ → ℕ → Type 0) (old new : Pending) (file : List ℕ) (to : FilePending) → OnFile old new file to
    → (OfAll (G file) (of_file file old).segments → OfAll (G file) to.segments) → OfNewest G old → OfNewest G new
on-newest G old new file to on step g = record { file = λ f. by f (same-or file f) }
  where
    by : (f : List ℕ) → (f ≡ file) ⊎ (f ≢ file) → OfAll (G f) (of_file f new).segments
    by f (inl same) =
        subst (λ (k : List ℕ). OfAll (G k) (of_file k new).segments) (sym same)
        (subst (λ (of : FilePending). OfAll (G file) of.segments) (sym on.here) (step (g.file file)))
    by f (inr apart) = subst (λ (of : FilePending). OfAll (G f) of.segments) (sym (on.others f apart)) (g.file f)

-- ---- of each byte

all-zip : (G K L : ℕ → ℕ → ℕ → Type 0) → ((place byte number : ℕ) → G place byte number → K place byte number → L place byte number) → (es : Segments) → OfAll G es → OfAll K es → OfAll L es
all-zip G K L f [] g k = tt
all-zip G K L f (e ∷ es) g k = (λ place c. f place _ e.1.number (g.0 place c) (k.0 place c), all-zip G K L f es g.1 k.1)

all-each : (A : Type 0) (G : A → ℕ → ℕ → ℕ → Type 0) (es : Segments) → ((a : A) → OfAll (G a) es) → OfAll (λ place byte number. (a : A) → G a place byte number) es
all-each A G [] g = tt
all-each A G (e ∷ es) g = (λ place c a. (g a).0 place c, all-each A G es (λ a. (g a).1))

pub newest-zip : (G K L : List ℕ → ℕ → ℕ → ℕ → Type 0) → ((f : List ℕ) (place byte number : ℕ) → G f place byte number → K f place byte number → L f place byte number)
    → (back : Pending) → OfNewest G back → OfNewest K back → OfNewest L back
newest-zip G K L f back g k = record { file = λ file. all-zip (G file) (K file) (L file) (f file) (of_file file back).segments (g.file file) (k.file file) }

pub newest-map : (G L : List ℕ → ℕ → ℕ → ℕ → Type 0) → ((f : List ℕ) (place byte number : ℕ) → G f place byte number → L f place byte number) → (back : Pending) → OfNewest G back → OfNewest L back
newest-map G L f back g = newest-zip G G L (λ file place byte number k _. f file place byte number k) back g g

pub newest-each : (A : Type 0) (G : A → List ℕ → ℕ → ℕ → ℕ → Type 0) (back : Pending) → ((a : A) → OfNewest (G a) back) → OfNewest (λ f place byte number. (a : A) → G a f place byte number) back
newest-each A G back g = record { file = λ f. all-each A (λ a. G a f) (of_file f back).segments (λ a. (g a).file f) }

-- of each byte that is there
pub newest-there : (G L : List ℕ → ℕ → ℕ → ℕ → Type 0) (back : Pending) → EachSound back
    → ((file : List ℕ) (place : ℕ) (cell : Cell) → cell_at (of_file file back).segments place ≡ Some cell → G file place cell.byte cell.number → L file place cell.byte cell.number)
    → OfNewest G back → OfNewest L back
newest-there G L back sound step g = record {
  file = λ file.
      of-cells (L file) 0 (of_file file back).segments (sound file).apart
      (λ place cell there. step file place cell there (cell-of (G file) (of_file file back).segments place cell (g.file file) there));
}
