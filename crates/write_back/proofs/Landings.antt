-- A piece that is in flight no more, by place.
use Rattle.std.proofs.Common.{◌≡◌, ◌<◌, ◌≤◌, ℕ, ◌+◌, ◌-◌, Bool, true, false, length, Option, Some, None, refl, sym, ap, ◌∙◌, ◌⊎◌, inl, inr, subst, arith}
use Rattle.std.specs.Prelude.{nat_le, nat_lt, if◌then◌else◌}
use Rattle.std.proofs.lemmas.Bool.{lt-ltb, le-ltb, leb-true, leb-false, cases_lt}
use Rattle.nfs_types.specs.declared.verf.Verf.{Verf}
use Rattle.write_back.specs.declared.state.State.{State}
use Rattle.write_back.specs.declared.state.State.TheVariants.{Waiting, InFlight, Acked}
use Rattle.write_back.specs.declared.state.Ready.{Ready}
use Rattle.write_back.specs.declared.change.Change.{Change}
use Rattle.write_back.specs.declared.change.Change.TheVariants as by_change
use Rattle.write_back.specs.States.{is_in_flight, answered}
use Rattle.write_back.specs.Segments.{Segments, Cell, AreApart, covers, cell_at, split_flying, own_of}
use Rattle.write_back.specs.Changes.{fate, changed, cell_left, cell_changed}
use Rattle.write_back.specs.Walk.{between}
use Rattle.write_back.specs.Pieces.{Sent, Flown, FilePending, rest_of, rest_at, fly_at, fly_in, piece_under, without, end_of_sent, pending_of}
use Rattle.write_back.specs.Places.{Lands, cell_flown, cell_landed, newer_or}
use Rattle.write_back.specs.Landing.{landed, landed_part, acked_by}
use Rattle.write_back.specs.Effects.{IsAnswer}
use Rattle.write_back.specs.Sound.{IsSound, IsOver, StopsAt}
use Rattle.write_back.proofs.Keys.{in-range, past-range, before-range, low-of, high-of}
use Rattle.write_back.proofs.Apart.{apart-changed, apart-split}
use Rattle.write_back.proofs.ByPlace.{cells-between, cells-split}
use Rattle.write_back.proofs.Stops.{Keeps, stops-changed, within-changed, stops-split, stops-cut, within-split}
use Rattle.write_back.proofs.OwnBytes.{own-landed, own-split}
use Rattle.write_back.proofs.Flying.{fly-without, fly-some, under-within, sent-without, within-without, flying-without}
use Rattle.write_back.proofs.Xids.{distinct-without}

-- what isn't in flight is left
leaves-answered : (f : Ready → Option State) (state : State) → is_in_flight state ≡ false → answered f state ≡ Some state
leaves-answered f (Waiting ready) h = refl
leaves-answered f (InFlight ready) h = absurd cc
leaves-answered f (Acked verf) h = refl

pub answer-ack : (verf : Verf) → IsAnswer (by_change.Ack verf)
answer-ack verf = record {
  leaves = λ number state h. leaves-answered (λ _. Some (Acked verf)) state h;
  lands = λ number ready left is. (let same : Acked verf ≡ left = (let k : Some (Acked verf) ≡ Some left = is in cc) in sym (ap is_in_flight same));
}

pub answer-store : IsAnswer by_change.Store
answer-store = record {
  leaves = λ number state h. leaves-answered (λ _. None) state h;
  lands = λ number ready left is. (let k : None ≡ Some left = is in absurd cc);
}

pub answer-return : IsAnswer by_change.Return
answer-return = record {
  leaves = λ number state h. leaves-answered (λ ready. Some (Waiting ready)) state h;
  lands = λ number ready left is. (let same : Waiting ready ≡ left = (let k : Some (Waiting ready) ≡ Some left = is in cc) in sym (ap is_in_flight same));
}

pub answer-acked : (committed : ℕ) (verf : Verf) → IsAnswer (acked_by committed verf)
answer-acked committed verf = by (nat_lt 0 committed) refl
  where
    by : (b : Bool) → nat_lt 0 committed ≡ b → IsAnswer (acked_by committed verf)
    by true h = rw h answer-store
    by false h = rw h (answer-ack verf)

pub answer-keeps : (change : Change) → IsAnswer change → Keeps change is_in_flight
answer-keeps change answer number (InFlight ready) left is t = refl
answer-keeps change answer number (Waiting ready) left is t =
    let kept : fate change number (Waiting ready) ≡ Some (Waiting ready) = answer.leaves number (Waiting ready) refl in
    let same : Some (Waiting ready) ≡ Some left = sym kept ∙ is in
    let equal : Waiting ready ≡ left = cc in
    ap is_in_flight equal ∙ t
answer-keeps change answer number (Acked verf) left is t =
    let kept : fate change number (Acked verf) ≡ Some (Acked verf) = answer.leaves number (Acked verf) refl in
    let same : Some (Acked verf) ≡ Some left = sym kept ∙ is in
    let equal : Acked verf ≡ left = cc in
    ap is_in_flight equal ∙ t

-- what isn't in flight stays
kept-cell : (change : Change) → IsAnswer change → (cell : Cell) → is_in_flight cell.state ≡ false → cell_changed change (Some cell) ≡ Some cell
kept-cell change answer cell h = ap (λ o. cell_left o cell) (answer.leaves cell.number cell.state h)

rest-left : (cell : Cell) (o : Option State) → ((left : State) → o ≡ Some left → is_in_flight left ≡ false) → rest_of (cell_left o cell) ≡ cell_left o cell
rest-left cell None lands = refl
rest-left cell (Some left) lands = rw (lands left refl) refl

-- what is left at a place of the piece
rest-covered : (change : Change) → IsAnswer change → (o : Option Flown) (c : Option Cell) → (o ≡ None → ⊥) → IsOver o c → rest_of (cell_changed change c) ≡ newer_or (rest_of c) (cell_landed change o)
rest-covered change answer None c some over = absurd (some refl)
rest-covered change answer (Some flown) None some over = absurd over
rest-covered change answer (Some flown) (Some cell) some (inl is) =
    subst (λ (z : Cell). rest_of (cell_changed change (Some z)) ≡ newer_or (rest_of (Some z)) (cell_landed change (Some flown))) (sym is) (rest-left (cell_flown flown) (fate change flown.number (InFlight flown.before)) (answer.lands flown.number flown.before))
rest-covered change answer (Some flown) (Some cell) some (inr waits) =
    let out : is_in_flight cell.state ≡ false = ap is_in_flight waits.0 in
    rw (kept-cell change answer cell out, out) refl

-- no byte of it is in flight then
over-landed : (change : Change) → IsAnswer change → (o : Option Flown) (c : Option Cell) → IsOver o c → IsOver None (cell_changed change c)
over-landed change answer o None over = tt
over-landed change answer o (Some cell) over = by (is_in_flight cell.state) refl
  where
    flew : (st : State) → cell.state ≡ st → is_in_flight st ≡ true → IsOver None (cell_left (fate change cell.number st) cell)
    flew (Waiting ready) is t = absurd cc
    flew (Acked verf) is t = absurd cc
    flew (InFlight ready) is t = left (fate change cell.number (InFlight ready)) refl
      where
        left : (l : Option State) → fate change cell.number (InFlight ready) ≡ l → IsOver None (cell_left (fate change cell.number (InFlight ready)) cell)
        left None k = rw k tt
        left (Some st) k = rw k (answer.lands cell.number ready st k)

    by : (b : Bool) → is_in_flight cell.state ≡ b → IsOver None (cell_changed change (Some cell))
    by true h = flew cell.state refl h
    by false h = rw (kept-cell change answer cell h) h

-- the segments after two changes side by side
abbrev pub two_changed : Change → Change → ℕ → ℕ → ℕ → Segments → Segments
two_changed first others low middle high es = changed others middle high (changed first low middle (split_flying middle es))

-- which of two changes a place has
abbrev pub pick : Change → Change → Sent → ℕ → ℕ → Change
pick first others piece count place = if nat_lt (place - piece.offset) count then first else others

-- the segments have this at each place, after a piece landed
abbrev pub CellsLand : Change → Change → Sent → ℕ → Segments → Segments → Type 0
CellsLand first others piece count es new = (place : ℕ) → cell_at new place ≡ (if covers piece.offset (length piece.bytes) place then cell_changed (pick first others piece count place) (cell_at es place) else cell_at es place)

pub cells-one : (change : Change) → IsAnswer change → (piece : Sent) (count : ℕ) (es : Segments) → AreApart 0 es → StopsAt is_in_flight piece.offset es → StopsAt is_in_flight (end_of_sent piece) es
    → CellsLand change change piece count es (changed change piece.offset (end_of_sent piece) es)
cells-one change answer piece count es apart at-low at-high place = by (nat_lt (place - piece.offset) count) refl
  where
    is : cell_at (changed change piece.offset (end_of_sent piece) es) place ≡ (if covers piece.offset (length piece.bytes) place then cell_changed change (cell_at es place) else cell_at es place)
    is = cells-between change is_in_flight answer.leaves piece.offset (end_of_sent piece) 0 es place apart at-low at-high

    by : (b : Bool) → nat_lt (place - piece.offset) count ≡ b
        → cell_at (changed change piece.offset (end_of_sent piece) es) place ≡ (if covers piece.offset (length piece.bytes) place then cell_changed (pick change change piece count place) (cell_at es place) else cell_at es place)
    by true h = rw h is
    by false h = rw h is

pub cells-two : (first others : Change) → IsAnswer first → IsAnswer others → (piece : Sent) (count : ℕ) (es : Segments) → count < length piece.bytes → AreApart 0 es → StopsAt is_in_flight piece.offset es → StopsAt is_in_flight (end_of_sent piece) es
    → CellsLand first others piece count es (two_changed first others piece.offset (piece.offset + count) (end_of_sent piece) es)
cells-two first others answer others-answer piece count es short apart at-low at-high place = by (cases_lt place piece.offset) (cases_lt place (piece.offset + count)) (cases_lt place (end_of_sent piece))
  where
    middle : ℕ
    middle = piece.offset + count

    one : Segments
    one = split_flying (piece.offset + count) es

    two : Segments
    two = changed first piece.offset (piece.offset + count) (split_flying (piece.offset + count) es)

    apart-one : AreApart 0 (split_flying (piece.offset + count) es)
    apart-one = apart-split (λ s. is_in_flight s.state) (piece.offset + count) 0 es apart

    low-one : StopsAt is_in_flight piece.offset (split_flying (piece.offset + count) es)
    low-one = stops-split is_in_flight (λ s. is_in_flight s.state) piece.offset (piece.offset + count) es at-low

    middle-one : StopsAt is_in_flight (piece.offset + count) (split_flying (piece.offset + count) es)
    middle-one = stops-cut is_in_flight (λ s. is_in_flight s.state) (piece.offset + count) 0 es apart (λ s t. t)

    high-one : StopsAt is_in_flight (end_of_sent piece) (split_flying (piece.offset + count) es)
    high-one = stops-split is_in_flight (λ s. is_in_flight s.state) (end_of_sent piece) (piece.offset + count) es at-high

    keeps : Keeps first is_in_flight
    keeps = answer-keeps first answer

    is-one : cell_at (split_flying (piece.offset + count) es) place ≡ cell_at es place
    is-one = cells-split (λ s. is_in_flight s.state) (piece.offset + count) 0 es place apart

    is-two : cell_at (changed first piece.offset (piece.offset + count) (split_flying (piece.offset + count) es)) place
        ≡ (if between piece.offset (piece.offset + count) place then cell_changed first (cell_at (split_flying (piece.offset + count) es) place) else cell_at (split_flying (piece.offset + count) es) place)
    is-two = cells-between first is_in_flight answer.leaves piece.offset (piece.offset + count) 0 (split_flying (piece.offset + count) es) place apart-one low-one middle-one

    is-three : cell_at (two_changed first others piece.offset (piece.offset + count) (end_of_sent piece) es) place
        ≡ (if between (piece.offset + count) (end_of_sent piece) place then cell_changed others (cell_at (changed first piece.offset (piece.offset + count) (split_flying (piece.offset + count) es)) place) else cell_at (changed first piece.offset (piece.offset + count) (split_flying (piece.offset + count) es)) place)
    is-three = cells-between others is_in_flight others-answer.leaves (piece.offset + count) (end_of_sent piece) 0 (changed first piece.offset (piece.offset + count) (split_flying (piece.offset + count) es)) place
        (apart-changed first piece.offset (piece.offset + count) 0 (split_flying (piece.offset + count) es) apart-one)
        (stops-changed first is_in_flight keeps piece.offset (piece.offset + count) (piece.offset + count) (split_flying (piece.offset + count) es) middle-one)
        (stops-changed first is_in_flight keeps piece.offset (piece.offset + count) (end_of_sent piece) (split_flying (piece.offset + count) es) high-one)

    -- where the place lies in both ranges, as two tests tell
    so : (a b c d : Bool) → between (piece.offset + count) (end_of_sent piece) place ≡ a → between piece.offset (piece.offset + count) place ≡ b → covers piece.offset (length piece.bytes) place ≡ c → nat_lt (place - piece.offset) count ≡ d
        → (if a then cell_changed others (if b then cell_changed first (cell_at es place) else cell_at es place) else (if b then cell_changed first (cell_at es place) else cell_at es place)) ≡ (if c then cell_changed (if d then first else others) (cell_at es place) else cell_at es place)
        → cell_at (two_changed first others piece.offset (piece.offset + count) (end_of_sent piece) es) place ≡ (if covers piece.offset (length piece.bytes) place then cell_changed (pick first others piece count place) (cell_at es place) else cell_at es place)
    so a b c d ha hb hc hd same =
        let two-is : cell_at (changed first piece.offset (piece.offset + count) (split_flying (piece.offset + count) es)) place ≡ (if b then cell_changed first (cell_at es place) else cell_at es place) = is-two ∙ ap (λ z. if z then cell_changed first (cell_at (split_flying (piece.offset + count) es) place) else cell_at (split_flying (piece.offset + count) es) place) hb ∙ ap (λ z. if b then cell_changed first z else z) is-one in
        let three-is : cell_at (two_changed first others piece.offset (piece.offset + count) (end_of_sent piece) es) place ≡ (if a then cell_changed others (if b then cell_changed first (cell_at es place) else cell_at es place) else (if b then cell_changed first (cell_at es place) else cell_at es place))
        = is-three ∙ ap (λ z. if z then cell_changed others (cell_at (changed first piece.offset (piece.offset + count) (split_flying (piece.offset + count) es)) place) else cell_at (changed first piece.offset (piece.offset + count) (split_flying (piece.offset + count) es)) place) ha ∙ ap (λ z. if a then cell_changed others z else z) two-is in
        three-is ∙ same ∙ sym (ap (λ z. if z then cell_changed (pick first others piece count place) (cell_at es place) else cell_at es place) hc ∙ ap (λ z. if c then cell_changed (if z then first else others) (cell_at es place) else cell_at es place) hd)

    by : (place < piece.offset) ⊎ (piece.offset ≤ place) → (place < piece.offset + count) ⊎ (piece.offset + count ≤ place) → (place < end_of_sent piece) ⊎ (end_of_sent piece ≤ place)
        → cell_at (two_changed first others piece.offset (piece.offset + count) (end_of_sent piece) es) place ≡ (if covers piece.offset (length piece.bytes) place then cell_changed (pick first others piece count place) (cell_at es place) else cell_at es place)
    by (inl less) m l =
        so false false false (nat_lt (place - piece.offset) count) (before-range (piece.offset + count) (end_of_sent piece) place (omega (arith, less))) (before-range piece.offset (piece.offset + count) place less) (before-range piece.offset (end_of_sent piece) place less) refl refl
    by (inr more) (inl less) l =
        so false true true true (before-range (piece.offset + count) (end_of_sent piece) place less) (in-range piece.offset (piece.offset + count) place more less) (in-range piece.offset (end_of_sent piece) place more (omega (arith, less, short))) (lt-ltb (place - piece.offset) count (omega (arith, less, more))) refl
    by (inr more) (inr past) (inl less) =
        so true false true false (in-range (piece.offset + count) (end_of_sent piece) place past less) (past-range piece.offset (piece.offset + count) place past) (in-range piece.offset (end_of_sent piece) place more less) (le-ltb (place - piece.offset) count (omega (arith, past))) refl
    by (inr more) (inr past) (inr most) =
        so false false false (nat_lt (place - piece.offset) count) (past-range (piece.offset + count) (end_of_sent piece) place most) (past-range piece.offset (piece.offset + count) place past) (past-range piece.offset (end_of_sent piece) place most) refl refl

-- what is pending once a piece landed, with these segments
abbrev pub with_landed : Sent → FilePending → Segments → FilePending
with_landed piece of es = record { segments = es; pieces = without piece.xid of.pieces }

picked : (first others : Change) → IsAnswer first → IsAnswer others → (piece : Sent) (count place : ℕ) → IsAnswer (pick first others piece count place)
picked first others a b piece count place = by (nat_lt (place - piece.offset) count) refl
  where
    by : (d : Bool) → nat_lt (place - piece.offset) count ≡ d → IsAnswer (pick first others piece count place)
    by true h = rw h a
    by false h = rw h b

pub lands-so : (first others : Change) → IsAnswer first → IsAnswer others → (piece : Sent) (count : ℕ) (of : FilePending) (es : Segments) → IsSound of → piece_under piece.xid of.pieces ≡ Some piece → CellsLand first others piece count of.segments es
    → Lands piece count first others of (with_landed piece of es)
lands-so first others a b piece count of es sound found cells = record {
  rest = λ place. rest place (covers piece.offset (length piece.bytes) place) refl;
  fly = λ place. fly-without piece.xid of.pieces piece place sound.sent found;
}
  where
    rest : (place : ℕ) (d : Bool) → covers piece.offset (length piece.bytes) place ≡ d
        → rest_of (cell_at es place) ≡ (if covers piece.offset (length piece.bytes) place then newer_or (rest_at of place) (cell_landed (pick first others piece count place) (fly_at of place)) else rest_at of place)
    rest place true h =
        let is : cell_at es place ≡ cell_changed (pick first others piece count place) (cell_at of.segments place) = cells place ∙ ap (λ z. if z then cell_changed (pick first others piece count place) (cell_at of.segments place) else cell_at of.segments place) h in
        ap rest_of is ∙ rest-covered (pick first others piece count place) (picked first others a b piece count place) (fly_at of place) (cell_at of.segments place) (fly-some piece.xid of.pieces piece place sound.sent found h) (sound.over place) ∙ rw h refl
    rest place false h =
        let is : cell_at es place ≡ cell_at of.segments place = cells place ∙ ap (λ z. if z then cell_changed (pick first others piece count place) (cell_at of.segments place) else cell_at of.segments place) h in
        ap rest_of is ∙ rw h refl

pub over-so : (first others : Change) → IsAnswer first → IsAnswer others → (piece : Sent) (count : ℕ) (of : FilePending) (es : Segments) → IsSound of → piece_under piece.xid of.pieces ≡ Some piece → CellsLand first others piece count of.segments es
    → (place : ℕ) → IsOver (fly_at (with_landed piece of es) place) (cell_at es place)
over-so first others a b piece count of es sound found cells place = by (covers piece.offset (length piece.bytes) place) refl
  where
    by : (d : Bool) → covers piece.offset (length piece.bytes) place ≡ d → IsOver (fly_in (without piece.xid of.pieces) place) (cell_at es place)
    by true h =
        let is : cell_at es place ≡ cell_changed (pick first others piece count place) (cell_at of.segments place) = cells place ∙ ap (λ z. if z then cell_changed (pick first others piece count place) (cell_at of.segments place) else cell_at of.segments place) h in
        let flies : fly_in (without piece.xid of.pieces) place ≡ None = fly-without piece.xid of.pieces piece place sound.sent found ∙ ap (λ z. if z then None else fly_at of place) h in
        rw (is, flies) (over-landed (pick first others piece count place) (picked first others a b piece count place) (fly_at of place) (cell_at of.segments place) (sound.over place))
    by false h =
        let is : cell_at es place ≡ cell_at of.segments place = cells place ∙ ap (λ z. if z then cell_changed (pick first others piece count place) (cell_at of.segments place) else cell_at of.segments place) h in
        let flies : fly_in (without piece.xid of.pieces) place ≡ fly_at of place = fly-without piece.xid of.pieces piece place sound.sent found ∙ ap (λ z. if z then None else fly_at of place) h in
        rw (is, flies) (sound.over place)

-- one change
pub lands-one : (change : Change) → IsAnswer change → (piece : Sent) (count : ℕ) (of : FilePending) → IsSound of → piece_under piece.xid of.pieces ≡ Some piece → Lands piece count change change of (landed change piece of)
lands-one change answer piece count of sound found =
    let stops = under-within piece.xid of.pieces piece of.segments sound.within found in
    lands-so change change answer answer piece count of (changed change piece.offset (end_of_sent piece) of.segments) sound found (cells-one change answer piece count of.segments sound.apart stops.0 stops.1)

pub sound-one : (change : Change) → IsAnswer change → (piece : Sent) (of : FilePending) → IsSound of → piece_under piece.xid of.pieces ≡ Some piece → IsSound (landed change piece of)
sound-one change answer piece of sound found =
    let stops = under-within piece.xid of.pieces piece of.segments sound.within found in
    record {
      apart = apart-changed change piece.offset (end_of_sent piece) 0 of.segments sound.apart;
      sent = sent-without piece.xid of.pieces sound.sent;
      xids = distinct-without piece.xid of.pieces sound.xids;
      within = within-changed change (answer-keeps change answer) piece.offset (end_of_sent piece) (without piece.xid of.pieces) of.segments (within-without piece.xid of.pieces of.segments sound.within);
      over = over-so change change answer answer piece 0 of (changed change piece.offset (end_of_sent piece) of.segments) sound found (cells-one change answer piece 0 of.segments sound.apart stops.0 stops.1);
      room = omega (arith, sound.room, flying-without piece.xid of.pieces piece found, own-landed change answer.leaves piece.offset (end_of_sent piece) 0 of.segments sound.apart stops.1);
    }

pub room-one : (change : Change) → IsAnswer change → (piece : Sent) (of : FilePending) → IsSound of → piece_under piece.xid of.pieces ≡ Some piece → pending_of (landed change piece of) ≤ pending_of of
room-one change answer piece of sound found =
    let stops = under-within piece.xid of.pieces piece of.segments sound.within found in
    omega (arith, flying-without piece.xid of.pieces piece found, own-landed change answer.leaves piece.offset (end_of_sent piece) 0 of.segments sound.apart stops.1)

-- a change of the first bytes, and another one of the others
module _ (first : Change) (answer : IsAnswer first) (piece : Sent) (count : ℕ) (of : FilePending) (sound : IsSound of) (found : piece_under piece.xid of.pieces ≡ Some piece) where
  stops : StopsAt is_in_flight piece.offset of.segments × StopsAt is_in_flight (end_of_sent piece) of.segments
  stops = under-within piece.xid of.pieces piece of.segments sound.within found

  part : FilePending
  part = with_landed piece of (two_changed first by_change.Return piece.offset (piece.offset + count) (end_of_sent piece) of.segments)

  apart-one : AreApart 0 (split_flying (piece.offset + count) of.segments)
  apart-one = apart-split (λ s. is_in_flight s.state) (piece.offset + count) 0 of.segments sound.apart

  apart-two : AreApart 0 (changed first piece.offset (piece.offset + count) (split_flying (piece.offset + count) of.segments))
  apart-two = apart-changed first piece.offset (piece.offset + count) 0 (split_flying (piece.offset + count) of.segments) apart-one

  high-two : StopsAt is_in_flight (end_of_sent piece) (changed first piece.offset (piece.offset + count) (split_flying (piece.offset + count) of.segments))
  high-two = stops-changed first is_in_flight (answer-keeps first answer) piece.offset (piece.offset + count) (end_of_sent piece) (split_flying (piece.offset + count) of.segments)
      (stops-split is_in_flight (λ s. is_in_flight s.state) (end_of_sent piece) (piece.offset + count) of.segments stops.1)

  less : count < length piece.bytes → own_of (two_changed first by_change.Return piece.offset (piece.offset + count) (end_of_sent piece) of.segments) ≤ own_of of.segments + length piece.bytes
  less short = omega (
    arith,
    short,
    own-split (λ s. is_in_flight s.state) (piece.offset + count) of.segments,
    own-landed first answer.leaves piece.offset (piece.offset + count) 0 (split_flying (piece.offset + count) of.segments) apart-one (stops-cut is_in_flight (λ s. is_in_flight s.state) (piece.offset + count) 0 of.segments sound.apart (λ s t. t)),
    own-landed by_change.Return answer-return.leaves (piece.offset + count) (end_of_sent piece) 0 (changed first piece.offset (piece.offset + count) (split_flying (piece.offset + count) of.segments)) apart-two high-two,
  )

  pub lands-part : Lands piece count first by_change.Return of (landed_part first count piece of)
  lands-part = by (nat_le (length piece.bytes) count) refl
    where
      by : (b : Bool) → nat_le (length piece.bytes) count ≡ b → Lands piece count first by_change.Return of (landed_part first count piece of)
      by false h = rw h (lands-so first by_change.Return answer answer-return piece count of (two_changed first by_change.Return piece.offset (piece.offset + count) (end_of_sent piece) of.segments) sound found
          (cells-two first by_change.Return answer answer-return piece count of.segments (leb-false (length piece.bytes) count h) sound.apart stops.0 stops.1))
      by true h = rw h (lands-so first by_change.Return answer answer-return piece count of (changed first piece.offset (end_of_sent piece) of.segments) sound found all)
        where
          whole : (place : ℕ) (d : Bool) → covers piece.offset (length piece.bytes) place ≡ d
              → (if covers piece.offset (length piece.bytes) place then cell_changed (pick first first piece count place) (cell_at of.segments place) else cell_at of.segments place) ≡ (if covers piece.offset (length piece.bytes) place then cell_changed (pick first by_change.Return piece count place) (cell_at of.segments place) else cell_at of.segments place)
          whole place false g = rw g refl
          whole place true g =
              let early : nat_lt (place - piece.offset) count ≡ true = lt-ltb (place - piece.offset) count (omega (arith, low-of piece.offset (end_of_sent piece) place g, high-of piece.offset (end_of_sent piece) place g, leb-true (length piece.bytes) count h)) in
              rw early refl

          all : CellsLand first by_change.Return piece count of.segments (changed first piece.offset (end_of_sent piece) of.segments)
          all place = cells-one first answer piece count of.segments sound.apart stops.0 stops.1 place ∙ whole place (covers piece.offset (length piece.bytes) place) refl

  pub room-part : pending_of (landed_part first count piece of) ≤ pending_of of
  room-part = by (nat_le (length piece.bytes) count) refl
    where
      by : (b : Bool) → nat_le (length piece.bytes) count ≡ b → pending_of (landed_part first count piece of) ≤ pending_of of
      by true h = rw h (room-one first answer piece of sound found)
      by false h = rw h (omega (arith, less (leb-false (length piece.bytes) count h), flying-without piece.xid of.pieces piece found))

  pub sound-part : IsSound (landed_part first count piece of)
  sound-part = by (nat_le (length piece.bytes) count) refl
    where
      by : (b : Bool) → nat_le (length piece.bytes) count ≡ b → IsSound (landed_part first count piece of)
      by true h = rw h (sound-one first answer piece of sound found)
      by false h = rw h (record {
        apart = apart-changed by_change.Return (piece.offset + count) (end_of_sent piece) 0 (changed first piece.offset (piece.offset + count) (split_flying (piece.offset + count) of.segments)) apart-two;
        sent = sent-without piece.xid of.pieces sound.sent;
        xids = distinct-without piece.xid of.pieces sound.xids;
        within = within-changed by_change.Return (answer-keeps by_change.Return answer-return) (piece.offset + count) (end_of_sent piece) (without piece.xid of.pieces) (changed first piece.offset (piece.offset + count) (split_flying (piece.offset + count) of.segments))
            (within-changed first (answer-keeps first answer) piece.offset (piece.offset + count) (without piece.xid of.pieces) (split_flying (piece.offset + count) of.segments)
            (within-split (λ s. is_in_flight s.state) (piece.offset + count) (without piece.xid of.pieces) of.segments (within-without piece.xid of.pieces of.segments sound.within)));
        over = over-so first by_change.Return answer answer-return piece count of (two_changed first by_change.Return piece.offset (piece.offset + count) (end_of_sent piece) of.segments) sound found
            (cells-two first by_change.Return answer answer-return piece count of.segments (leb-false (length piece.bytes) count h) sound.apart stops.0 stops.1);
        room = omega (arith, sound.room, less (leb-false (length piece.bytes) count h), flying-without piece.xid of.pieces piece found);
      })
