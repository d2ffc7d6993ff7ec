-- For callers: what is sent next, and what waits where nothing is.
use Rattle.std.proofs.Common.{◌≡◌, ◌<◌, ◌≤◌, ◌^◌, ℕ, ◌+◌, ◌-◌, ◌&&◌, Bool, true, false, List, [], ◌∷◌, ◌++◌, length, map, min, take, Option, Some, None, Contains, refl, sym, ap, ◌∙◌, ◌⊎◌, inl, inr, subst, arith, length-append, length-take}
use Rattle.std.specs.Prelude.{⊤, IsSome, nat_le, nat_lt, nat_eq, not, if◌then◌else◌}
use Rattle.std.specs.Option.{option_map}
use Rattle.std.proofs.lemmas.Bool.{le-leb, lt-leb, lt-ltb, ltb-true, eq-eqb, eqb-true, and_parts, cases_lt}
use Rattle.std.proofs.lemmas.List.Elements.{Contains-append_left, Contains-append_right, Contains-push}
use Rattle.write_back.specs.declared.piece.Piece.{Piece}
use Rattle.write_back.specs.declared.sent.Part.{Part}
use Rattle.write_back.specs.declared.state.State.{State}
use Rattle.write_back.specs.declared.state.State.TheVariants.{Waiting}
use Rattle.write_back.specs.declared.state.Ready.{Ready}
use Rattle.write_back.specs.States.{is_ready, is_in_flight, how_of}
use Rattle.write_back.specs.Segments.{Segment, Segments, Cell, AreApart, covers, cell_in, cell_at, end_of, head_of}
use Rattle.write_back.specs.Pieces.{Sent, FilePending, Flown, part_at, flown_in, overlaps, rest_of, rest_at}
use Rattle.write_back.specs.Choice.{may_go, how_of_segment, run_from, chosen_from, chosen, bytes_in, part_of, piece_of}
use Rattle.write_back.specs.Files.{ShowsPiece}
use Rattle.write_back.specs.Sound.{IsSound}
use Rattle.write_back.specs.Waits.{IsBlocked, FitsCall}
use Rattle.write_back.proofs.Flying.{flown-some}
use Rattle.write_back.proofs.Gathering.{run-zero}
use Rattle.write_back.proofs.Sending.{IsNext, next-is, flown_as}

-- where no piece is shown, none was chosen
pub nothing-chosen : (xid : ℕ) (run : Segments) → ShowsPiece xid run None → run ≡ []
nothing-chosen xid [] shows = refl
nothing-chosen xid (e ∷ run) shows = absurd shows

-- a segment that may go is sent
goes-first : (pieces : List Sent) (upto wsize : ℕ) (e : ℕ × Segment) (es : Segments) → 0 < wsize → may_go pieces upto e ≡ true → chosen_from pieces upto wsize (e ∷ es) ≡ [] → ⊥
goes-first pieces upto wsize e es some go none =
    let how : nat_eq (how_of_segment e) (how_of_segment e) ≡ true = eq-eqb (how_of_segment e) (how_of_segment e) refl in
    let here : nat_eq e.0 e.0 ≡ true = eq-eqb e.0 e.0 refl in
    let room : nat_lt 0 wsize ≡ true = lt-ltb 0 wsize some in
    let k : (e.0, head_of wsize e.1) ∷ run_from pieces upto (how_of_segment e) (end_of e) (wsize - length e.1.bytes) es ≡ [] = (rw (go, how, here, room) at none) in
    absurd cc

-- a place of a segment that waits and may not go
stays : (pieces : List Sent) (upto : ℕ) (e : ℕ × Segment) → is_ready e.1.state ≡ true → e.1.number ≤ upto → may_go pieces upto e ≡ false → overlaps pieces e.0 (end_of e) ≡ true
stays pieces upto e ready number held =
    let old : nat_le e.1.number upto ≡ true = le-leb e.1.number upto number in
    un (overlaps pieces e.0 (end_of e)) (rw (ready, old) at held)
  where
    un : (b : Bool) → not b ≡ false → b ≡ true
    un true h = refl
    un false h = absurd cc

blocked : (pieces : List Sent) (upto wsize : ℕ) (es : Segments) (place : ℕ) (cell : Cell) → 0 < wsize → chosen_from pieces upto wsize es ≡ [] → cell_at es place ≡ Some cell → is_ready cell.state ≡ true → cell.number ≤ upto
    → IsBlocked (record { segments = es; pieces = pieces }) place
blocked pieces upto wsize [] place cell some none at ready old = absurd cc
blocked pieces upto wsize (e ∷ es) place cell some none at ready old = by (may_go pieces upto e) (covers e.0 (length e.1.bytes) place) refl refl (λ k h. blocked pieces upto wsize es place cell some k h ready old)
  where
    by : (b d : Bool) → may_go pieces upto e ≡ b → covers e.0 (length e.1.bytes) place ≡ d
        → (chosen_from pieces upto wsize es ≡ [] → cell_at es place ≡ Some cell → IsBlocked (record { segments = es; pieces = pieces }) place) → IsBlocked (record { segments = e ∷ es; pieces = pieces }) place
    by true d go h more = absurd (goes-first pieces upto wsize e es some go none)
    by false true held h more =
        let same : cell_in e place ≡ cell = (let k : Some (cell_in e place) ≡ Some cell = (rw h at at) in cc) in
        let waits : is_ready e.1.state ≡ true = ap (λ (c : Cell). is_ready c.state) same ∙ ready in
        let number : e.1.number ≡ cell.number = ap (λ (c : Cell). c.number) same in
        record { segment = e; there = Contains-append_left (e ∷ []) es e (Contains-push [] e); here = h; shares = stays pieces upto e waits (omega (arith, number, old)) held }
    by false false held h more =
        let m = more (rw held at none) (rw h at at) in
        record { segment = m.segment; there = Contains-append_right (e ∷ []) es m.segment m.there; here = m.here; shares = m.shares }

rest-cell : (c : Option Cell) (cell : Cell) → rest_of c ≡ Some cell → c ≡ Some cell
rest-cell None cell is = absurd cc
rest-cell (Some found) cell is = by (is_in_flight found.state) refl
  where
    by : (b : Bool) → is_in_flight found.state ≡ b → Some found ≡ Some cell
    by true h = let k : None ≡ Some cell = (rw h at is) in absurd cc
    by false h = (rw h at is)

-- Where nothing is sent, each place that waits under a number up to `upto` stands in a segment that shares a place with what
-- is in flight.
pub waits-blocked : (upto wsize : ℕ) (of : FilePending) (place : ℕ) (cell : Cell) (ready : Ready) → 1 ≤ wsize → chosen upto wsize of ≡ [] → rest_at of place ≡ Some cell → cell.state ≡ Waiting ready → cell.number ≤ upto → IsBlocked of place
waits-blocked upto wsize of place cell ready some none at state old = blocked of.pieces upto wsize of.segments place cell (omega (arith, some)) none (rest-cell (cell_at of.segments place) cell at) (ap is_ready state) old

quiet-shares : {A : Type 0} (pieces : List Sent) (low high : ℕ) → pieces ≡ [] → overlaps pieces low high ≡ true → A
quiet-shares [] low high quiet shares = absurd cc
quiet-shares (piece ∷ pieces) low high quiet shares = absurd cc

-- So where nothing is in flight, each place that waits has a number above `upto`.
pub waits-later : (upto wsize : ℕ) (of : FilePending) (place : ℕ) (cell : Cell) (ready : Ready) → 1 ≤ wsize → chosen upto wsize of ≡ [] → of.pieces ≡ [] → rest_at of place ≡ Some cell → cell.state ≡ Waiting ready → upto < cell.number
waits-later upto wsize of place cell ready some none quiet at state = by (cases_lt upto cell.number)
  where
    by : (upto < cell.number) ⊎ (cell.number ≤ upto) → upto < cell.number
    by (inl later) = later
    by (inr old) =
        let block = waits-blocked upto wsize of place cell ready some none at state old in
        quiet-shares of.pieces block.segment.0 (end_of block.segment) quiet block.shares

-- ---- a piece that is sent

abbrev AreAlike : ℕ → List Part → Type 0
AreAlike how [] = ⊤
AreAlike how (part ∷ parts) = (how_of part.before ≡ how) × AreAlike how parts

run-alike : (pieces : List Sent) (upto how place room : ℕ) (es : Segments) → AreAlike how (map part_of (run_from pieces upto how place room es))
run-alike pieces upto how place room [] = tt
run-alike pieces upto how place room (e ∷ es) = by (may_go pieces upto e && nat_eq (how_of_segment e) how && nat_eq e.0 place && nat_lt 0 room) refl (run-alike pieces upto how (end_of e) (room - length e.1.bytes) es)
  where
    by : (b : Bool) → (may_go pieces upto e && nat_eq (how_of_segment e) how && nat_eq e.0 place && nat_lt 0 room) ≡ b → AreAlike how (map part_of (run_from pieces upto how (end_of e) (room - length e.1.bytes) es)) → AreAlike how (map part_of (run_from pieces upto how place room (e ∷ es)))
    by false h more = rw h tt
    by true h more =
        let three = and_parts (may_go pieces upto e && nat_eq (how_of_segment e) how && nat_eq e.0 place) (nat_lt 0 room) h in
        let two = and_parts (may_go pieces upto e && nat_eq (how_of_segment e) how) (nat_eq e.0 place) three.0 in
        let alike : how_of_segment e ≡ how = eqb-true (how_of_segment e) how ((and_parts (may_go pieces upto e) (nat_eq (how_of_segment e) how) two.0).1) in
        rw h (alike, more)

run-fits : (pieces : List Sent) (upto how place room : ℕ) (es : Segments) → length (bytes_in (run_from pieces upto how place room es)) ≤ room
run-fits pieces upto how place room [] = omega arith
run-fits pieces upto how place room (e ∷ es) = by (may_go pieces upto e && nat_eq (how_of_segment e) how && nat_eq e.0 place && nat_lt 0 room) refl (run-fits pieces upto how (end_of e) (room - length e.1.bytes) es)
  where
    by : (b : Bool) → (may_go pieces upto e && nat_eq (how_of_segment e) how && nat_eq e.0 place && nat_lt 0 room) ≡ b → length (bytes_in (run_from pieces upto how (end_of e) (room - length e.1.bytes) es)) ≤ room - length e.1.bytes → length (bytes_in (run_from pieces upto how place room (e ∷ es))) ≤ room
    by false h more = rw h (omega arith)
    by true h more = rw h (omega (arith, more, length-append (take room e.1.bytes) (bytes_in (run_from pieces upto how (end_of e) (room - length e.1.bytes) es)), length-take room e.1.bytes))

-- what is sent is a run from its first segment on, sent as that is
pub record IsRunOf (pieces : List Sent) (upto wsize : ℕ) (run : Segments) (how : ℕ) : Type 0 where
  pub place : ℕ
  pub from : Segments
  pub is : run_from pieces upto how place wsize from ≡ run

chosen-run : (pieces : List Sent) (upto wsize : ℕ) (es : Segments) (first : ℕ × Segment) (run : Segments) → chosen_from pieces upto wsize es ≡ first ∷ run → IsRunOf pieces upto wsize (first ∷ run) (how_of_segment first)
chosen-run pieces upto wsize [] first run is = absurd cc
chosen-run pieces upto wsize (e ∷ es) first run is = by (may_go pieces upto e) refl (λ k. chosen-run pieces upto wsize es first run k)
  where
    by : (b : Bool) → may_go pieces upto e ≡ b → (chosen_from pieces upto wsize es ≡ first ∷ run → IsRunOf pieces upto wsize (first ∷ run) (how_of_segment first)) → IsRunOf pieces upto wsize (first ∷ run) (how_of_segment first)
    by false h more = more (rw h at is)
    by true h more =
        let here : chosen_from pieces upto wsize (e ∷ es) ≡ run_from pieces upto (how_of_segment e) e.0 wsize (e ∷ es) = rw h refl in
        let k : run_from pieces upto (how_of_segment e) e.0 wsize (e ∷ es) ≡ first ∷ run = sym here ∙ is in
        let alike : AreAlike (how_of_segment e) (map part_of (first ∷ run)) = subst (λ z. AreAlike (how_of_segment e) (map part_of z)) k (run-alike pieces upto (how_of_segment e) e.0 wsize (e ∷ es)) in
        record { place = e.0; from = e ∷ es; is = ap (λ n. run_from pieces upto n e.0 wsize (e ∷ es)) alike.0 ∙ k }

part-alike : (how : ℕ) (parts : List Part) (n : ℕ) (part : Part) → AreAlike how parts → part_at parts n ≡ Some part → how_of part.before ≡ how
part-alike how [] n part alike is = absurd cc
part-alike how (p ∷ parts) n part alike is = by (nat_lt n p.size) refl (part-alike how parts (n - p.size) part alike.1)
  where
    by : (b : Bool) → nat_lt n p.size ≡ b → (part_at parts (n - p.size) ≡ Some part → how_of part.before ≡ how) → how_of part.before ≡ how
    by true h more = let same : p ≡ part = (let k : Some p ≡ Some part = (rw h at is) in cc) in sym (ap (λ (z : Part). how_of z.before) same) ∙ alike.0
    by false h more = more (rw h at is)

flown-alike : (piece : Sent) (place : ℕ) (flown : Flown) (o : Option Part) → part_at piece.parts (place - piece.offset) ≡ o → AreAlike piece.how piece.parts → flown_in piece place ≡ Some flown → how_of flown.before ≡ piece.how
flown-alike piece place flown None h alike is = let k : None ≡ Some flown = sym (ap (option_map (flown_as piece place)) h) ∙ is in absurd cc
flown-alike piece place flown (Some part) h alike is =
    let k : Some (flown_as piece place part) ≡ Some flown = sym (ap (option_map (flown_as piece place)) h) ∙ is in
    let same : flown_as piece place part ≡ flown = cc in
    sym (ap (λ (z : Flown). how_of z.before) same) ∙ part-alike piece.how piece.parts (place - piece.offset) part alike h

is-some : {A : Type 0} (o : Option A) → (o ≡ None → ⊥) → IsSome o
is-some None not = absurd (not refl)
is-some (Some x) not = refl

-- What is sent has at most `wsize` bytes, at least one, and each of its places is to be sent as the piece is.
pub fits-call : (xid upto wsize : ℕ) (of : FilePending) (first : ℕ × Segment) (run : Segments) → IsSound of → chosen upto wsize of ≡ first ∷ run → FitsCall wsize (piece_of xid first (first ∷ run))
fits-call xid upto wsize of first run sound is =
    let next : IsNext (piece_of xid first (first ∷ run)) upto of = next-is xid upto wsize of first run sound.apart is in
    let from = chosen-run of.pieces upto wsize of.segments first run is in
    let alike : AreAlike (how_of_segment first) (map part_of (first ∷ run)) = subst (λ z. AreAlike (how_of_segment first) (map part_of z)) from.is (run-alike of.pieces upto (how_of_segment first) from.place wsize from.from) in
    record {
      some = next.whole.some;
      fits = subst (λ z. length (bytes_in z) ≤ wsize) from.is (run-fits of.pieces upto (how_of_segment first) from.place wsize from.from);
      last = next.whole.last;
      flies = λ place h. is-some (flown_in (piece_of xid first (first ∷ run)) place) (flown-some (piece_of xid first (first ∷ run)) place next.whole h);
      how = λ place flown f. flown-alike (piece_of xid first (first ∷ run)) place flown (part_at (map part_of (first ∷ run)) (place - first.0)) refl alike f;
    }
