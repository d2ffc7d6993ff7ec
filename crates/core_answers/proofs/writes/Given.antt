-- What holds of each pending byte, by its place and its number, goes on holding: no change of what is pending makes a byte.
use Rattle.core_answers.proofs.Prelude.{◌≡◌, ◌≢◌, ◌≤◌, ◌+◌, ◌-◌, ◌&&◌, ◌||◌, ◌⊎◌, inl, inr, ℕ, Bool, true, false, List, [], ◌∷◌, ◌++◌, length, take, drop, Option, Some, None, option_map, refl, sym, ap, subst, ◌∙◌, arith, nat_lt, if◌then◌else◌, Verf, Segments, with_sent, Pending, of_file, OnFile, with_xid, Sent, FilePending, nothing, piece_under, renumbered, same-or}
use Rattle.std.proofs.Common.{length-take, length-drop}
use Rattle.std.specs.Prelude.{nat_le, nat_eq, slice_index}
use Rattle.write_back.specs.Segments.{Segment, Cell, covers, cell_in, cell_at, end_of, head_of, tail_of, written, before, after, split_if, split, split_flying, cut_from}
use Rattle.write_back.specs.Files.{with_bytes}
use Rattle.write_back.specs.Landing.{landed, changed_part, landed_part, at_piece, at_xid, with_change, with_cut}
use Rattle.write_back.specs.Pieces.{Flown, part_at, flown_in, fly_in, rest_of, rest_at, without, end_of_sent}
use Rattle.std.proofs.lemmas.Bool.{ltb-true}
use Rattle.std.proofs.lemmas.List.{get_or-take, get_or-drop}
use Rattle.write_back.specs.declared.change.Change.{Change}
use Rattle.write_back.specs.declared.change.Change.TheVariants as by_change
use Rattle.write_back.specs.declared.sent.Part.{Part}
use Rattle.write_back.specs.declared.state.State.{State}
use Rattle.write_back.specs.States.{is_in_flight}
use Rattle.write_back.specs.Changes.{fate, left_of, fate_between, changed, all_changed}
use Rattle.write_back.specs.Places.{PutsInFlight}
use Rattle.write_back.proofs.ByPlace.{covered}
use Rattle.write_back.proofs.Keys.{low-of, high-of}
use Rattle.commit_verf.specs.Decisions.{decided}

some-cell : (a b : Cell) → Some a ≡ Some b → a ≡ b
some-cell a b e = cc

some-flown : (a b : Flown) → Some a ≡ Some b → a ≡ b
some-flown a b e = cc

-- G holds of a place, a byte and a number.
module _ (G : ℕ → ℕ → ℕ → Type 0) where
  abbrev pub OfSegment : ℕ × Segment → Type 0
  OfSegment e = (place : ℕ) → covers e.0 (length e.1.bytes) place ≡ true → G place (slice_index e.1.bytes (place - e.0)) e.1.number

  abbrev pub OfSegments : Segments → Type 0
  OfSegments [] = Unit {0}
  OfSegments (e ∷ es) = OfSegment e × OfSegments es

  abbrev pub OfPiece : Sent → Type 0
  OfPiece piece = (place : ℕ) (part : Part) → covers piece.offset (length piece.bytes) place ≡ true → part_at piece.parts (place - piece.offset) ≡ Some part
      → G place (slice_index piece.bytes (place - piece.offset)) part.number

  abbrev pub OfPieces : List Sent → Type 0
  OfPieces [] = Unit {0}
  OfPieces (piece ∷ pieces) = OfPiece piece × OfPieces pieces

  pub record OfFile (of : FilePending) : Type 0 where
    pub segments : OfSegments of.segments
    pub pieces : OfPieces of.pieces

  -- ---- by place

  pub cell-given : (es : Segments) (place : ℕ) (cell : Cell) → OfSegments es → cell_at es place ≡ Some cell → G place cell.byte cell.number
  cell-given [] place cell g is = absurd (let no_way : None ≡ Some cell = is in cc)
  cell-given (e ∷ es) place cell g is = by (covers e.0 (length e.1.bytes) place) refl (λ k. cell-given es place cell g.1 k) is
    where
      by : (b : Bool) → covers e.0 (length e.1.bytes) place ≡ b → (cell_at es place ≡ Some cell → G place cell.byte cell.number)
          → (if b then Some (cell_in e place) else cell_at es place) ≡ Some cell → G place cell.byte cell.number
      by true c rest k = subst (λ (q : Cell). G place q.byte q.number) (some-cell (cell_in e place) cell k) (g.0 place c)
      by false c rest k = rest k

  pub rest-given : (of : FilePending) (place : ℕ) (cell : Cell) → OfFile of → rest_at of place ≡ Some cell → G place cell.byte cell.number
  rest-given of place cell g is = by (cell_at of.segments place) refl is
    where
      flies : (at : Cell) (b : Bool) → cell_at of.segments place ≡ Some at → (if b then None else Some at) ≡ Some cell → G place cell.byte cell.number
      flies at true here k = absurd (let no_way : None ≡ Some cell = k in cc)
      flies at false here k = cell-given of.segments place cell g.segments (here ∙ k)

      by : (o : Option Cell) → cell_at of.segments place ≡ o → rest_of o ≡ Some cell → G place cell.byte cell.number
      by None here k = absurd (let no_way : None ≡ Some cell = k in cc)
      by (Some at) here k = flies at (is_in_flight at.state) here k

  flown-given : (piece : Sent) (place : ℕ) (flown : Flown) → covers piece.offset (length piece.bytes) place ≡ true → OfPiece piece → flown_in piece place ≡ Some flown
      → G place flown.byte flown.number
  flown-given piece place flown c g is = by (part_at piece.parts (place - piece.offset)) refl is
    where
      of-part : Part → Flown
      of-part part = record { byte = slice_index piece.bytes (place - piece.offset); number = part.number; xid = piece.xid; before = part.before }

      by : (o : Option Part) → part_at piece.parts (place - piece.offset) ≡ o
          → option_map (λ (part : Part). record { byte = slice_index piece.bytes (place - piece.offset); number = part.number; xid = piece.xid; before = part.before }) o ≡ Some flown
          → G place flown.byte flown.number
      by None here k = absurd (let no_way : None ≡ Some flown = k in cc)
      by (Some part) here k = subst (λ (f : Flown). G place f.byte f.number) (some-flown (of-part part) flown k) (g place part c here)

  pub fly-given : (pieces : List Sent) (place : ℕ) (flown : Flown) → OfPieces pieces → fly_in pieces place ≡ Some flown → G place flown.byte flown.number
  fly-given [] place flown g is = absurd (let no_way : None ≡ Some flown = is in cc)
  fly-given (piece ∷ pieces) place flown g is = by (covers piece.offset (length piece.bytes) place) refl (λ k. fly-given pieces place flown g.1 k) is
    where
      by : (b : Bool) → covers piece.offset (length piece.bytes) place ≡ b → (fly_in pieces place ≡ Some flown → G place flown.byte flown.number)
          → (if b then flown_in piece place else fly_in pieces place) ≡ Some flown → G place flown.byte flown.number
      by true c rest k = flown-given piece place flown c g.0 k
      by false c rest k = rest k

  -- ---- segments

  head-given : (n : ℕ) (e : ℕ × Segment) → OfSegment e → OfSegment (e.0, head_of n e.1)
  head-given n e g place c =
      let low = low-of e.0 (e.0 + length (take n e.1.bytes)) place c in
      let high = high-of e.0 (e.0 + length (take n e.1.bytes)) place c in
      let short : length (take n e.1.bytes) ≤ n = short-take n e.1.bytes in
      let less : length (take n e.1.bytes) ≤ length e.1.bytes = less-take n e.1.bytes in
      let byte : slice_index (take n e.1.bytes) (place - e.0) ≡ slice_index e.1.bytes (place - e.0) = get_or-take n e.1.bytes (place - e.0) 0 (omega (arith, low, high, short)) in
      subst (λ (b : ℕ). G place b e.1.number) (sym byte) (g place (covered e.0 (length e.1.bytes) place low (omega (arith, high, less))))
    where
      short-take : (n : ℕ) (bytes : List ℕ) → length (take n bytes) ≤ n
      short-take n bytes = let is = length-take n bytes in omega (arith, is)

      less-take : (n : ℕ) (bytes : List ℕ) → length (take n bytes) ≤ length bytes
      less-take n bytes = let is = length-take n bytes in omega (arith, is)

  tail-given : (at : ℕ) (e : ℕ × Segment) → e.0 ≤ at → OfSegment e → OfSegment (at, tail_of (at - e.0) e.1)
  tail-given at e from g place c =
      let all : length (drop (at - e.0) e.1.bytes) ≡ length e.1.bytes - (at - e.0) = length-drop (at - e.0) e.1.bytes in
      let low = low-of at (at + length (drop (at - e.0) e.1.bytes)) place c in
      let high = high-of at (at + length (drop (at - e.0) e.1.bytes)) place c in
      let sums : at - e.0 + (place - at) ≡ place - e.0 = omega (arith, from, low) in
      let byte : slice_index (drop (at - e.0) e.1.bytes) (place - at) ≡ slice_index e.1.bytes (place - e.0) =
      get_or-drop (at - e.0) e.1.bytes (place - at) 0 ∙ ap (λ n. slice_index e.1.bytes n) sums in
      subst (λ (b : ℕ). G place b e.1.number) (sym byte) (g place (covered e.0 (length e.1.bytes) place (omega (arith, from, low)) (omega (arith, from, low, high, all))))

  left-given : (o : Option State) (e : ℕ × Segment) (es : Segments) → OfSegment e → OfSegments es → OfSegments (left_of o e es)
  left-given None e es own rest = rest
  left-given (Some state) e es own rest = (own, rest)

  changed-given : (change : Change) (low high : ℕ) (es : Segments) → OfSegments es → OfSegments (changed change low high es)
  changed-given change low high [] g = tt
  changed-given change low high (e ∷ es) g =
      left-given (fate_between change low high e) e (changed change low high es) g.0 (changed-given change low high es g.1)

  all-given : (change : Change) (es : Segments) → OfSegments es → OfSegments (all_changed change es)
  all-given change [] g = tt
  all-given change (e ∷ es) g = left-given (fate change e.1.number e.1.state) e (all_changed change es) g.0 (all-given change es g.1)

  split-given : (test : Segment → Bool) (place : ℕ) (es : Segments) → OfSegments es → OfSegments (split_if test place es)
  split-given test place [] g = tt
  split-given test place (e ∷ es) g = by (nat_lt e.0 place) refl (nat_lt place (end_of e) && test e.1) (split-given test place es g.1)
    where
      by : (b : Bool) → nat_lt e.0 place ≡ b → (d : Bool) → OfSegments (split_if test place es)
          → OfSegments (if b then (if d then (e.0, head_of (place - e.0) e.1) ∷ (place, tail_of (place - e.0) e.1) ∷ es else e ∷ split_if test place es) else e ∷ es)
      by false is d rest = g
      by true is false rest = (g.0, rest)
      by true is true rest =
          let low = ltb-true e.0 place is in (head-given (place - e.0) e g.0, (tail-given place e (omega (arith, low)) g.0, g.1))

  cut-given : (place upto : ℕ) (es : Segments) → OfSegments es → OfSegments (cut_from place upto es)
  cut-given place upto [] g = tt
  cut-given place upto (e ∷ es) g = by (nat_lt upto e.1.number || nat_le (end_of e) place) (nat_lt e.0 place) (cut-given place upto es g.1)
    where
      by : (b d : Bool) → OfSegments (cut_from place upto es)
          → OfSegments (if b then e ∷ cut_from place upto es else if d then (e.0, head_of (place - e.0) e.1) ∷ cut_from place upto es else cut_from place upto es)
      by true d rest = (g.0, rest)
      by false true rest = (head-given (place - e.0) e g.0, rest)
      by false false rest = rest

  before-given : (place : ℕ) (es : Segments) → OfSegments es → OfSegments (before place es)
  before-given place [] g = tt
  before-given place (e ∷ es) g = by (nat_lt e.0 place) (before-given place es g.1)
    where
      by : (b : Bool) → OfSegments (before place es) → OfSegments (if b then (e.0, head_of (place - e.0) e.1) ∷ before place es else [])
      by true rest = (head-given (place - e.0) e g.0, rest)
      by false rest = tt

  after-given : (place : ℕ) (es : Segments) → OfSegments es → OfSegments (after place es)
  after-given place [] g = tt
  after-given place (e ∷ es) g = by (nat_le (end_of e) place) (nat_lt e.0 place) refl (after-given place es g.1)
    where
      by : (b d : Bool) → nat_lt e.0 place ≡ d → OfSegments (after place es)
          → OfSegments (if b then after place es else if d then (place, tail_of (place - e.0) e.1) ∷ es else e ∷ es)
      by true d is rest = rest
      by false true is rest = let low = ltb-true e.0 place is in (tail-given place e (omega (arith, low)) g.0, g.1)
      by false false is rest = g

  append-given : (es others : Segments) → OfSegments es → OfSegments others → OfSegments (es ++ others)
  append-given [] others g h = h
  append-given (e ∷ es) others g h = (g.0, append-given es others g.1 h)

  -- ---- pieces

  without-given : (xid : ℕ) (pieces : List Sent) → OfPieces pieces → OfPieces (without xid pieces)
  without-given xid [] g = tt
  without-given xid (piece ∷ pieces) g = by (nat_eq piece.xid xid) (without-given xid pieces g.1)
    where
      by : (b : Bool) → OfPieces (without xid pieces) → OfPieces (if b then pieces else piece ∷ without xid pieces)
      by true rest = g.1
      by false rest = (g.0, rest)

  renumbered-given : (xid to : ℕ) (pieces : List Sent) → OfPieces pieces → OfPieces (renumbered xid to pieces)
  renumbered-given xid to [] g = tt
  renumbered-given xid to (piece ∷ pieces) g = by (nat_eq piece.xid xid) (renumbered-given xid to pieces g.1)
    where
      by : (b : Bool) → OfPieces (renumbered xid to pieces)
          → OfPieces (if b then record { xid = to; offset = piece.offset; how = piece.how; bytes = piece.bytes; parts = piece.parts } ∷ pieces else piece ∷ renumbered xid to pieces)
      by true rest = (g.0, g.1)
      by false rest = (g.0, rest)

  more-given : (pieces : List Sent) (piece : Sent) → OfPieces pieces → OfPiece piece → OfPieces (pieces ++ piece ∷ [])
  more-given [] piece g own = (own, tt)
  more-given (p ∷ pieces) piece g own = (g.0, more-given pieces piece g.1 own)

  -- ---- one file

  pub none-given : OfFile nothing
  none-given = record { segments = tt; pieces = tt }

  part-given : (change : Change) (count : ℕ) (piece : Sent) (es : Segments) → OfSegments es → OfSegments (changed_part change count piece es)
  part-given change count piece es g = by (nat_le (length piece.bytes) count)
    where
      by : (b : Bool) → OfSegments (if b then changed change piece.offset (end_of_sent piece) es
          else changed by_change.Return (piece.offset + count) (end_of_sent piece) (changed change piece.offset (piece.offset + count) (split_flying (piece.offset + count) es)))
      by true = changed-given change piece.offset (end_of_sent piece) es g
      by false =
          changed-given by_change.Return (piece.offset + count) (end_of_sent piece) (changed change piece.offset (piece.offset + count) (split_flying (piece.offset + count) es))
          (changed-given change piece.offset (piece.offset + count) (split_flying (piece.offset + count) es)
          (split-given (λ (s : Segment). is_in_flight s.state) (piece.offset + count) es g))

  pub landed-given : (change : Change) (xid : ℕ) (of : FilePending) → OfFile of → OfFile (at_xid (landed change) xid of)
  landed-given change xid of g = by (piece_under xid of.pieces)
    where
      by : (o : Option Sent) → OfFile (at_piece (landed change) o of)
      by None = g
      by (Some piece) = record {
        segments = changed-given change piece.offset (end_of_sent piece) of.segments g.segments;
        pieces = without-given piece.xid of.pieces g.pieces;
      }

  pub landed-part-given : (change : Change) (count xid : ℕ) (of : FilePending) → OfFile of → OfFile (at_xid (landed_part change count) xid of)
  landed-part-given change count xid of g = by (piece_under xid of.pieces)
    where
      by : (o : Option Sent) → OfFile (at_piece (landed_part change count) o of)
      by None = g
      by (Some piece) = record { segments = part-given change count piece of.segments g.segments; pieces = without-given piece.xid of.pieces g.pieces }

  pub change-given : (change : Change) (of : FilePending) → OfFile of → OfFile (with_change change of)
  change-given change of g = record { segments = all-given change of.segments g.segments; pieces = g.pieces }

  pub decided-given : (upto : ℕ) (verf : Verf) (of : FilePending) → OfFile of → OfFile (decided upto verf of)
  decided-given upto verf of g = change-given (by_change.MarkAgain upto) (with_change (by_change.Settle verf upto) of) (change-given (by_change.Settle verf upto) of g)

  pub cut-file-given : (size upto : ℕ) (of : FilePending) → OfFile of → OfFile (with_cut size upto of)
  cut-file-given size upto of g = record { segments = cut-given size upto of.segments g.segments; pieces = g.pieces }

  pub xid-given : (xid to : ℕ) (of : FilePending) → OfFile of → OfFile (with_xid xid to of)
  xid-given xid to of g = record { segments = g.segments; pieces = renumbered-given xid to of.pieces g.pieces }

  pub bytes-given : (offset : ℕ) (bytes : List ℕ) (number : ℕ) (of : FilePending)
      → ((place : ℕ) → covers offset (length bytes) place ≡ true → G place (slice_index bytes (place - offset)) number) → OfFile of → OfFile (with_bytes offset bytes number of)
  bytes-given offset [] number of own g = g
  bytes-given offset (b ∷ bs) number of own g = record {
    segments = append-given (before offset of.segments) ((offset, written (b ∷ bs) number) ∷ after (offset + length (b ∷ bs)) of.segments)
        (before-given offset of.segments g.segments) (own, after-given (offset + length (b ∷ bs)) of.segments g.segments);
    pieces = g.pieces;
  }

  pub sent-given : (piece : Sent) (upto : ℕ) (of to : FilePending) → PutsInFlight piece upto of to → OfFile of → OfFile (with_sent piece of)
  sent-given piece upto of to puts g = record {
    segments = changed-given by_change.Send piece.offset (piece.offset + length piece.bytes) (split (piece.offset + length piece.bytes) of.segments)
        (split-given (λ (s : Segment). true) (piece.offset + length piece.bytes) of.segments g.segments);
    pieces = more-given of.pieces piece g.pieces own;
  }
    where
      own : OfPiece piece
      own place part c here =
          rest-given of place _ g (puts.was place (record { byte = slice_index piece.bytes (place - piece.offset); number = part.number; xid = piece.xid; before = part.before }) c
          (ap (option_map (λ (p : Part). record { byte = slice_index piece.bytes (place - piece.offset); number = p.number; xid = piece.xid; before = p.before })) here))

-- ---- every file

pub record OfBack (G : List ℕ → ℕ → ℕ → ℕ → Type 0) (back : Pending) : Type 0 where
  pub file : (f : List ℕ) → OfFile (G f) (of_file f back)

module _ (G : List ℕ → ℕ → ℕ → ℕ → Type 0) where
  pub on-file-given : (old new : Pending) (file : List ℕ) (to : FilePending) → OnFile old new file to → (OfFile (G file) (of_file file old) → OfFile (G file) to)
      → OfBack G old → OfBack G new
  on-file-given old new file to on step g = record { file = λ f. by f (same-or file f) }
    where
      by : (f : List ℕ) → (f ≡ file) ⊎ (f ≢ file) → OfFile (G f) (of_file f new)
      by f (inl same) = subst (λ (k : List ℕ). OfFile (G k) (of_file k new)) (sym same) (subst (OfFile (G file)) (sym on.here) (step (g.file file)))
      by f (inr apart) = subst (OfFile (G f)) (sym (on.others f apart)) (g.file f)
