-- A piece that is put in flight, by place.
use Rattle.std.proofs.Common.{◌≡◌, ◌<◌, ◌≤◌, ℕ, ◌+◌, ◌-◌, ◌&&◌, Bool, true, false, List, [], ◌∷◌, ◌++◌, length, map, Some, None, refl, sym, ap, ◌∙◌, ◌⊎◌, inl, inr, subst, arith, length-append}
use Rattle.std.specs.Prelude.{nat_le, nat_lt, if◌then◌else◌, slice_index}
use Rattle.std.specs.Option.{option_map}
use Rattle.std.specs.List.{sum_by}
use Rattle.std.proofs.lemmas.Bool.{le-ltb, ltb-false, or_parts, cases_lt}
use Rattle.std.proofs.lemmas.List.Sums.{sum_by-cons}
use Rattle.write_back.specs.declared.state.State.TheVariants.{Waiting}
use Rattle.write_back.specs.declared.change.Change.TheVariants.{Send}
use Rattle.write_back.specs.declared.sent.Part.{Part}
use Rattle.write_back.specs.States.{is_in_flight}
use Rattle.write_back.specs.Segments.{Segment, Segments, AreApart, end_of, covers, cell_at, split, own_of}
use Rattle.write_back.specs.Changes.{changed, cell_changed}
use Rattle.write_back.specs.Pieces.{Sent, Flown, FilePending, part_at, flown_in, fly_in, fly_at, rest_of, rest_at, overlaps, end_of_sent, pending_of, piece_under}
use Rattle.write_back.specs.Places.{PutsInFlight, cell_flown}
use Rattle.write_back.specs.Choice.{chosen, bytes_in, part_of, piece_of, with_sent}
use Rattle.write_back.specs.Sound.{IsSound, IsOver, IsWhole, HaveSizes, StopsAt, AreWithin}
use Rattle.write_back.proofs.Keys.{in-range, low-of, high-of}
use Rattle.write_back.proofs.Apart.{apart-changed, apart-split}
use Rattle.write_back.proofs.ByPlace.{cells-between, cells-split}
use Rattle.write_back.proofs.Stops.{stops-changed, stops-split, stops-cut, within-split}
use Rattle.write_back.proofs.Flying.{fly-append, sent-append, within-append, flying-append, overlaps-free, meets}
use Rattle.write_back.proofs.WritesSent.{sized-chosen}
use Rattle.write_back.proofs.Running.{AtPlace, IsChosen, chosen-is, parts-sum}
use Rattle.write_back.proofs.Xids.{distinct-append}

-- a piece that may be sent next
pub record IsNext (piece : Sent) (upto : ℕ) (of : FilePending) : Type 0 where
  pub whole : IsWhole piece
  pub has : (place : ℕ) → covers piece.offset (length piece.bytes) place ≡ true → AtPlace of.pieces upto of.segments piece.bytes piece.parts piece.offset place
  pub stops : StopsAt (λ _. true) piece.offset of.segments
  pub own : own_of (changed Send piece.offset (end_of_sent piece) (split (end_of_sent piece) of.segments)) + length piece.bytes ≡ own_of of.segments

pub next-is : (xid upto wsize : ℕ) (of : FilePending) (first : ℕ × Segment) (run : Segments) → AreApart 0 of.segments → chosen upto wsize of ≡ first ∷ run → IsNext (piece_of xid first (first ∷ run)) upto of
next-is xid upto wsize of first run apart is =
    let c : IsChosen of.pieces upto of.segments first run = (chosen-is of.pieces upto wsize 0 of.segments first run apart is).0 in
    record {
      whole = record { some = omega (arith, c.some, length-append first.1.bytes (bytes_in run)); sizes = subst (λ z. HaveSizes (map part_of z)) is (sized-chosen of.pieces upto wsize 0 of.segments apart); parts = parts-sum (first ∷ run); last = c.is_run.last };
      has = λ place h. c.is_run.has place (low-of first.0 (first.0 + length (bytes_in (first ∷ run))) place h) (high-of first.0 (first.0 + length (bytes_in (first ∷ run))) place h);
      stops = c.stops;
      own = c.is_run.own;
    }

-- what is in flight at a place of it
abbrev pub flown_as : Sent → ℕ → Part → Flown
flown_as piece place part = record { byte = slice_index piece.bytes (place - piece.offset); number = part.number; xid = piece.xid; before = part.before }

flown-is : (piece : Sent) (place : ℕ) (part : Part) → part_at piece.parts (place - piece.offset) ≡ Some part → flown_in piece place ≡ Some (flown_as piece place part)
flown-is piece place part is = ap (option_map (flown_as piece place)) is

part-none : (parts : List Part) (n : ℕ) → sum_by (λ (part : Part). part.size) parts ≤ n → part_at parts n ≡ None
part-none [] n le = refl
part-none (part ∷ parts) n le =
    let sum : sum_by (λ (part : Part). part.size) (part ∷ parts) ≡ part.size + sum_by (λ (part : Part). part.size) parts = sum_by-cons (λ (part : Part). part.size) part parts in
    let past : nat_lt n part.size ≡ false = le-ltb n part.size (omega (arith, le, sum)) in
    rw past (part-none parts (n - part.size) (omega (arith, le, sum)))

-- the segments then
abbrev pub segments_sent : Sent → FilePending → Segments
segments_sent piece of = changed Send piece.offset (end_of_sent piece) (split (end_of_sent piece) of.segments)

pub cells-sent : (piece : Sent) (upto : ℕ) (of : FilePending) (place : ℕ) → AreApart 0 of.segments → IsNext piece upto of
    → cell_at (segments_sent piece of) place ≡ (if covers piece.offset (length piece.bytes) place then cell_changed Send (cell_at of.segments place) else cell_at of.segments place)
cells-sent piece upto of place apart next =
    cells-between Send (λ _. true) (λ number state (t : true ≡ false). absurd cc) piece.offset (end_of_sent piece) 0 (split (end_of_sent piece) of.segments) place
    (apart-split (λ _. true) (end_of_sent piece) 0 of.segments apart)
    (stops-split (λ _. true) (λ _. true) piece.offset (end_of_sent piece) of.segments next.stops)
    (stops-cut (λ _. true) (λ _. true) (end_of_sent piece) 0 of.segments apart (λ s t. refl))
    ∙ ap (λ z. if covers piece.offset (length piece.bytes) place then cell_changed Send z else z) (cells-split (λ _. true) (end_of_sent piece) 0 of.segments place apart)

fly-sent : (piece : Sent) (upto : ℕ) (of : FilePending) (place : ℕ) → IsSound of → IsNext piece upto of → fly_in (of.pieces ++ piece ∷ []) place ≡ (if covers piece.offset (length piece.bytes) place then flown_in piece place else fly_at of place)
fly-sent piece upto of place sound next = fly-append of.pieces piece place (λ h. (next.has place h).free) sound.sent

pub puts-sent : (piece : Sent) (upto : ℕ) (of : FilePending) → IsSound of → IsNext piece upto of → PutsInFlight piece upto of (with_sent piece of)
puts-sent piece upto of sound next = record {
  rest = λ place. rest place (covers piece.offset (length piece.bytes) place) refl;
  fly = λ place. fly-sent piece upto of place sound next;
  free = λ place h. (next.has place h).free;
  was = λ place flown h is. was place flown h is;
  old_enough = λ place flown is. old place flown is (cases_lt place piece.offset) (cases_lt place (end_of_sent piece));
}
  where
    rest : (place : ℕ) (b : Bool) → covers piece.offset (length piece.bytes) place ≡ b → rest_of (cell_at (segments_sent piece of) place) ≡ (if covers piece.offset (length piece.bytes) place then None else rest_at of place)
    rest place true h =
        let at = next.has place h in
        let is : cell_at (segments_sent piece of) place ≡ cell_changed Send (cell_at of.segments place) = cells-sent piece upto of place sound.apart next ∙ ap (λ z. if z then cell_changed Send (cell_at of.segments place) else cell_at of.segments place) h in
        rw (is, at.cell, h) refl
    rest place false h =
        let is : cell_at (segments_sent piece of) place ≡ cell_at of.segments place = cells-sent piece upto of place sound.apart next ∙ ap (λ z. if z then cell_changed Send (cell_at of.segments place) else cell_at of.segments place) h in
        ap rest_of is ∙ rw h refl

    same-flown : (place : ℕ) (flown : Flown) (part : Part) → part_at piece.parts (place - piece.offset) ≡ Some part → flown_in piece place ≡ Some flown → flown_as piece place part ≡ flown
    same-flown place flown part is found = let k : Some (flown_as piece place part) ≡ Some flown = sym (flown-is piece place part is) ∙ found in cc

    was : (place : ℕ) (flown : Flown) → covers piece.offset (length piece.bytes) place ≡ true → flown_in piece place ≡ Some flown → rest_at of place ≡ Some (record { byte = flown.byte; number = flown.number; state = Waiting flown.before })
    was place flown h is =
        let at = next.has place h in
        ap rest_of at.cell ∙ ap (λ (z : Flown). Some (record { byte = z.byte; number = z.number; state = Waiting z.before })) (same-flown place flown at.part at.there is)

    first-covered : covers piece.offset (length piece.bytes) piece.offset ≡ true
    first-covered = in-range piece.offset (end_of_sent piece) piece.offset (omega arith) (omega (arith, next.whole.some))

    old : (place : ℕ) (flown : Flown) → flown_in piece place ≡ Some flown → (place < piece.offset) ⊎ (piece.offset ≤ place) → (place < end_of_sent piece) ⊎ (end_of_sent piece ≤ place) → flown.number ≤ upto
    old place flown is (inl less) c =
        let at = next.has piece.offset first-covered in
        let zero-is : place - piece.offset ≡ piece.offset - piece.offset = omega (arith, less) in
        let part-is : part_at piece.parts (place - piece.offset) ≡ Some at.part = ap (part_at piece.parts) zero-is ∙ at.there in
        let same : at.part.number ≡ flown.number = ap (λ (z : Flown). z.number) (same-flown place flown at.part part-is is) in
        omega (arith, at.old_enough, same)
    old place flown is (inr more) (inl less) =
        let at = next.has place (in-range piece.offset (end_of_sent piece) place more less) in
        let same : at.part.number ≡ flown.number = ap (λ (z : Flown). z.number) (same-flown place flown at.part at.there is) in
        omega (arith, at.old_enough, same)
    old place flown is (inr more) (inr past) =
        let none : part_at piece.parts (place - piece.offset) ≡ None = part-none piece.parts (place - piece.offset) (omega (arith, next.whole.parts, past)) in
        let k : None ≡ Some flown = sym (ap (option_map (flown_as piece place)) none) ∙ is in
        absurd cc

-- segments that are put in flight within a range stop at each place that isn't inside it
stops-sent : (low high place : ℕ) (es : Segments) → (place ≤ low) ⊎ (high ≤ place) → StopsAt (λ _. true) high es → StopsAt is_in_flight place es → StopsAt is_in_flight place (changed Send low high es)
stops-sent low high place [] out at-high stops = tt
stops-sent low high place (e ∷ es) out at-high stops = by (nat_le low e.0 && nat_lt e.0 high) refl (stops-sent low high place es out at-high.1 stops.1)
  where
    ends : low ≤ e.0 → e.0 < high → (place ≤ low) ⊎ (high ≤ place) → e.0 < place → end_of e ≤ place
    ends l h (inl before) less = absurd (omega (arith, l, before, less))
    ends l h (inr after) less = omega (arith, at-high.0 refl h, after)

    by : (b : Bool) → (nat_le low e.0 && nat_lt e.0 high) ≡ b → StopsAt is_in_flight place (changed Send low high es) → StopsAt is_in_flight place (changed Send low high (e ∷ es))
    by true h more = rw h ((λ t less. ends (low-of low high e.0 h) (high-of low high e.0 h) out less), more)
    by false h more = rw h (stops.0, more)

within-sent : (low high : ℕ) (pieces : List Sent) (es : Segments) → overlaps pieces low high ≡ false → StopsAt (λ _. true) high es → AreWithin pieces es → AreWithin pieces (changed Send low high es)
within-sent low high [] es apart at-high within = tt
within-sent low high (p ∷ pieces) es apart at-high within =
    let parts = or_parts (meets low high p) (overlaps pieces low high) apart in
    (stops-sent low high p.offset es (first parts.0) at-high within.0, stops-sent low high (end_of_sent p) es (last parts.0) at-high within.1, within-sent low high pieces es parts.1 at-high within.2)
  where
    sides : meets low high p ≡ false → (end_of_sent p ≤ low) ⊎ (high ≤ p.offset)
    sides none = by (nat_lt p.offset high) (nat_lt low (end_of_sent p)) refl refl none
      where
        by : (b d : Bool) → nat_lt p.offset high ≡ b → nat_lt low (end_of_sent p) ≡ d → (b && d) ≡ false → (end_of_sent p ≤ low) ⊎ (high ≤ p.offset)
        by true true h g k = absurd cc
        by true false h g k = inl (ltb-false low (end_of_sent p) g)
        by false d h g k = inr (ltb-false p.offset high h)

    first : meets low high p ≡ false → (p.offset ≤ low) ⊎ (high ≤ p.offset)
    first none = pass (sides none)
      where
        pass : (end_of_sent p ≤ low) ⊎ (high ≤ p.offset) → (p.offset ≤ low) ⊎ (high ≤ p.offset)
        pass (inl a) = inl (omega (arith, a))
        pass (inr a) = inr a

    last : meets low high p ≡ false → (end_of_sent p ≤ low) ⊎ (high ≤ end_of_sent p)
    last none = pass (sides none)
      where
        pass : (end_of_sent p ≤ low) ⊎ (high ≤ p.offset) → (end_of_sent p ≤ low) ⊎ (high ≤ end_of_sent p)
        pass (inl a) = inl a
        pass (inr a) = inr (omega (arith, a))

stops-any : (place : ℕ) (es : Segments) → StopsAt (λ _. true) place es → StopsAt is_in_flight place es
stops-any place [] stops = tt
stops-any place (e ∷ es) stops = ((λ t. stops.0 refl), stops-any place es stops.1)

pub room-sent : (piece : Sent) (upto : ℕ) (of : FilePending) → IsNext piece upto of → pending_of (with_sent piece of) ≡ pending_of of
room-sent piece upto of next = omega (arith, next.own, flying-append of.pieces piece)

pub sound-sent : (piece : Sent) (upto : ℕ) (of : FilePending) → piece_under piece.xid of.pieces ≡ None → IsSound of → IsNext piece upto of → IsSound (with_sent piece of)
sound-sent piece upto of free_xid sound next = record {
  apart = apart-changed Send piece.offset (end_of_sent piece) 0 (split (end_of_sent piece) of.segments) (apart-split (λ _. true) (end_of_sent piece) 0 of.segments sound.apart);
  sent = sent-append of.pieces piece sound.sent next.whole apart;
  xids = distinct-append of.pieces piece sound.xids free_xid;
  within = within-append of.pieces piece (segments_sent piece of)
      (within-sent piece.offset (end_of_sent piece) of.pieces (split (end_of_sent piece) of.segments) apart at-high (within-split (λ _. true) (end_of_sent piece) of.pieces of.segments sound.within))
      (stops-any piece.offset (segments_sent piece of) (stops-changed Send (λ _. true) (λ number state left is t. refl) piece.offset (end_of_sent piece) piece.offset (split (end_of_sent piece) of.segments) at-low))
      (stops-any (end_of_sent piece) (segments_sent piece of) (stops-changed Send (λ _. true) (λ number state left is t. refl) piece.offset (end_of_sent piece) (end_of_sent piece) (split (end_of_sent piece) of.segments) at-high));
  over = λ place. over place (covers piece.offset (length piece.bytes) place) refl;
  room = omega (arith, room-sent piece upto of next, sound.room);
}
  where
    apart : overlaps of.pieces piece.offset (end_of_sent piece) ≡ false
    apart = overlaps-free of.pieces piece.offset (end_of_sent piece) sound.sent (omega (arith, next.whole.some)) (λ place l h. (next.has place (in-range piece.offset (end_of_sent piece) place l h)).free)

    at-low : StopsAt (λ _. true) piece.offset (split (end_of_sent piece) of.segments)
    at-low = stops-split (λ _. true) (λ _. true) piece.offset (end_of_sent piece) of.segments next.stops

    at-high : StopsAt (λ _. true) (end_of_sent piece) (split (end_of_sent piece) of.segments)
    at-high = stops-cut (λ _. true) (λ _. true) (end_of_sent piece) 0 of.segments sound.apart (λ s t. refl)

    over : (place : ℕ) (b : Bool) → covers piece.offset (length piece.bytes) place ≡ b → IsOver (fly_in (of.pieces ++ piece ∷ []) place) (cell_at (segments_sent piece of) place)
    over place true h =
        let at = next.has place h in
        let is : cell_at (segments_sent piece of) place ≡ Some (cell_flown (flown_as piece place at.part)) = cells-sent piece upto of place sound.apart next ∙ ap (λ z. if z then cell_changed Send (cell_at of.segments place) else cell_at of.segments place) h ∙ ap (cell_changed Send) at.cell in
        let flies : fly_in (of.pieces ++ piece ∷ []) place ≡ Some (flown_as piece place at.part) = fly-sent piece upto of place sound next ∙ ap (λ z. if z then flown_in piece place else fly_at of place) h ∙ flown-is piece place at.part at.there in
        rw (is, flies) (inl refl)
    over place false h =
        let is : cell_at (segments_sent piece of) place ≡ cell_at of.segments place = cells-sent piece upto of place sound.apart next ∙ ap (λ z. if z then cell_changed Send (cell_at of.segments place) else cell_at of.segments place) h in
        let flies : fly_in (of.pieces ++ piece ∷ []) place ≡ fly_at of place = fly-sent piece upto of place sound next ∙ ap (λ z. if z then flown_in piece place else fly_at of place) h in
        rw (is, flies) (sound.over place)
