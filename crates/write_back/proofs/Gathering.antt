-- One segment more of those that are sent together.
use Rattle.std.proofs.Common.{◌≡◌, ◌<◌, ◌≤◌, ℕ, ◌+◌, ◌-◌, ◌&&◌, Bool, true, false, List, [], ◌∷◌, ◌++◌, length, map, take, min, Some, refl, sym, ap, ◌∙◌, ◌⊎◌, inl, inr, arith, append_assoc, append-nil, length-append, length-take}
use Rattle.std.specs.Prelude.{nat_lt, nat_eq, if◌then◌else◌}
use Rattle.std.proofs.lemmas.Bool.{lt-ltb, le-ltb, ltb-true, ltb-false, cases_lt, and_parts, eq-eqb}
use Rattle.write_back.specs.Segments.{Segment, Segments, AreApart, end_of, head_of}
use Rattle.write_back.specs.Pieces.{Sent, end_of_sent}
use Rattle.write_back.specs.Choice.{may_go, how_of_segment, run_from, bytes_in, part_of, gathered, with_run}
use Rattle.write_back.specs.Walk.{at_place, from_key}
use Rattle.write_back.proofs.Searching.{from-at}
use Rattle.write_back.proofs.Sizes.{at-size}

-- no room is left
pub run-zero : (pieces : List Sent) (upto how place room : ℕ) (es : Segments) → room ≡ 0 → run_from pieces upto how place room es ≡ []
run-zero pieces upto how place room [] none = refl
run-zero pieces upto how place room (e ∷ es) none =
    let out : nat_lt 0 room ≡ false = le-ltb 0 room (omega (arith, none)) in
    rw out (stop (may_go pieces upto e && nat_eq (how_of_segment e) how && nat_eq e.0 place))
  where
    stop : (b : Bool) → (if b && false then (e.0, head_of room e.1) ∷ run_from pieces upto how (end_of e) (room - length e.1.bytes) es else []) ≡ []
    stop true = refl
    stop false = refl

-- it is sent otherwise, or may not go
pub run-other : (pieces : List Sent) (upto how place room : ℕ) (e : ℕ × Segment) (es : Segments) → nat_eq (how_of_segment e) how ≡ false → run_from pieces upto how place room (e ∷ es) ≡ []
run-other pieces upto how place room e es other = rw other (stop (may_go pieces upto e))
  where
    stop : (b : Bool) → (if (b && false) && nat_eq e.0 place && nat_lt 0 room then (e.0, head_of room e.1) ∷ run_from pieces upto how (end_of e) (room - length e.1.bytes) es else []) ≡ []
    stop true = refl
    stop false = refl

pub run-held : (pieces : List Sent) (upto how place room : ℕ) (e : ℕ × Segment) (es : Segments) → may_go pieces upto e ≡ false → run_from pieces upto how place room (e ∷ es) ≡ []
run-held pieces upto how place room e es held = rw held refl

-- it goes too
pub run-step : (pieces : List Sent) (upto how place room low : ℕ) (es : Segments) (s : Segment) (size : ℕ) → AreApart low es → at_place place es ≡ Some s → may_go pieces upto (place, s) ≡ true
    → nat_eq (how_of_segment (place, s)) how ≡ true → nat_eq place place ≡ true → 0 < room → size ≡ min (length s.bytes) room
    → run_from pieces upto how place room (from_key place es) ≡ (place, head_of room s) ∷ run_from pieces upto how (place + size) (room - size) (from_key (place + size) es)
run-step pieces upto how place room low es s size apart found goes same here some is =
    let room_left : nat_lt 0 room ≡ true = lt-ltb 0 room some in
    let unfolds : run_from pieces upto how place room (from_key place es) ≡ (place, head_of room s) ∷ run_from pieces upto how (place + length s.bytes) (room - length s.bytes) (from_key (place + length s.bytes) es) =
    ap (run_from pieces upto how place room) (from-at place low es s apart found) ∙ rw (goes, same, here, room_left) refl in
    unfolds ∙ ap (λ z. (place, head_of room s) ∷ z) (fits (cases_lt room (length s.bytes)))
  where
    fits : (room < length s.bytes) ⊎ (length s.bytes ≤ room) → run_from pieces upto how (place + length s.bytes) (room - length s.bytes) (from_key (place + length s.bytes) es) ≡ run_from pieces upto how (place + size) (room - size) (from_key (place + size) es)
    fits (inl less) =
        let whole : size ≡ room = omega (arith, is, less) in
        run-zero pieces upto how (place + length s.bytes) (room - length s.bytes) (from_key (place + length s.bytes) es) (omega (arith, less))
        ∙ sym (run-zero pieces upto how (place + size) (room - size) (from_key (place + size) es) (omega (arith, whole)))
    fits (inr most) =
        let whole : length s.bytes ≡ size = omega (arith, is, most) in
        ap (λ n. run_from pieces upto how (place + n) (room - n) (from_key (place + n) es)) whole

-- a piece with one segment more, and then with others
pub with-run-step : (piece : Sent) (e : ℕ × Segment) (run : Segments) → with_run (with_run piece (e ∷ [])) run ≡ with_run piece (e ∷ run)
with-run-step piece e run =
    let bytes : (piece.bytes ++ (e.1.bytes ++ [])) ++ bytes_in run ≡ piece.bytes ++ (e.1.bytes ++ bytes_in run) =
    append_assoc piece.bytes (e.1.bytes ++ []) (bytes_in run) ∙ ap (λ z. piece.bytes ++ z) (append_assoc e.1.bytes [] (bytes_in run)) in
    let parts : (piece.parts ++ (part_of e ∷ [])) ++ map part_of run ≡ piece.parts ++ (part_of e ∷ map part_of run) = append_assoc piece.parts (part_of e ∷ []) (map part_of run) in
    ap (λ z. record { xid = piece.xid; offset = piece.offset; how = piece.how; bytes = z; parts = (piece.parts ++ (part_of e ∷ [])) ++ map part_of run }) bytes
    ∙ ap (λ z. record { xid = piece.xid; offset = piece.offset; how = piece.how; bytes = piece.bytes ++ (e.1.bytes ++ bytes_in run); parts = z }) parts

with-run-none : (piece : Sent) → with_run piece [] ≡ piece
with-run-none piece =
    ap (λ z. record { xid = piece.xid; offset = piece.offset; how = piece.how; bytes = z; parts = piece.parts ++ [] }) (append-nil piece.bytes)
    ∙ ap (λ z. record { xid = piece.xid; offset = piece.offset; how = piece.how; bytes = piece.bytes; parts = z }) (append-nil piece.parts)

-- whether a segment goes with those before it
abbrev pub goes_too : List Sent → ℕ → ℕ → ℕ → ℕ × Segment → Bool
goes_too pieces upto how room e = may_go pieces upto e && nat_eq (how_of_segment e) how && nat_lt 0 room

pub goes-told : (pieces : List Sent) (upto how room place : ℕ) (bytes : List ℕ) (s : Segment) (piece : Sent) (told b : Bool) → told ≡ goes_too pieces upto how (room - length bytes) (place, s)
    → place ≡ end_of_sent piece → bytes ≡ piece.bytes → told ≡ b → goes_too pieces upto how (room - length piece.bytes) (end_of_sent piece, s) ≡ b
goes-told pieces upto how room place bytes s piece told b is ends same so =
    ap (λ l. goes_too pieces upto how (room - length l) (end_of_sent piece, s)) (sym same) ∙ ap (λ p. goes_too pieces upto how (room - length bytes) (p, s)) (sym ends) ∙ sym is ∙ so

run-stop : (pieces : List Sent) (upto how place room low : ℕ) (es : Segments) (s : Segment) → AreApart low es → at_place place es ≡ Some s → goes_too pieces upto how room (place, s) ≡ false
    → run_from pieces upto how place room (from_key place es) ≡ []
run-stop pieces upto how place room low es s apart found stops =
    ap (run_from pieces upto how place room) (from-at place low es s apart found) ∙ by (may_go pieces upto (place, s)) (nat_eq (how_of_segment (place, s)) how) (nat_lt 0 room) refl refl refl
  where
    by : (a b d : Bool) → may_go pieces upto (place, s) ≡ a → nat_eq (how_of_segment (place, s)) how ≡ b → nat_lt 0 room ≡ d → run_from pieces upto how place room ((place, s) ∷ from_key (place + length s.bytes) es) ≡ []
    by false b d h g k = run-held pieces upto how place room (place, s) (from_key (place + length s.bytes) es) h
    by true false d h g k = run-other pieces upto how place room (place, s) (from_key (place + length s.bytes) es) g
    by true true false h g k = run-zero pieces upto how place room ((place, s) ∷ from_key (place + length s.bytes) es) (omega (arith, ltb-false 0 room k))
    by true true true h g k = let f : true ≡ false = (rw (h, g, k) at stops) in absurd cc

-- what a piece is to get from the segments after it
abbrev pub run_after : List Sent → ℕ → ℕ → ℕ → Segments → Sent → Segments
run_after pieces upto how room es piece = run_from pieces upto how (end_of_sent piece) (room - length piece.bytes) (from_key (end_of_sent piece) es)

-- a piece with no bytes yet gets all of them
pub gather-start : (pieces : List Sent) (upto how room xid first : ℕ) (es : Segments) (piece : Sent) → piece ≡ record { xid = xid; offset = first; how = how; bytes = []; parts = [] }
    → with_run piece (run_after pieces upto how room es piece) ≡ gathered xid first (run_from pieces upto how first room (from_key first es)) how
gather-start pieces upto how room xid first es piece is =
    let place : first + 0 ≡ first = omega arith in
    let left : room - 0 ≡ room = omega arith in
    rw is (ap (λ n. gathered xid first (run_from pieces upto how n (room - 0) (from_key n es)) how) place ∙ ap (λ n. gathered xid first (run_from pieces upto how first n (from_key first es)) how) left)

-- nothing more goes
pub gather-stop : (pieces : List Sent) (upto how room : ℕ) (es : Segments) (piece : Sent) → run_after pieces upto how room es piece ≡ [] → piece ≡ with_run piece (run_after pieces upto how room es piece)
gather-stop pieces upto how room es piece none = sym (ap (with_run piece) none ∙ with-run-none piece)

pub gather-held : (pieces : List Sent) (upto how room : ℕ) (es : Segments) (s : Segment) (piece : Sent) → AreApart 0 es → at_place (end_of_sent piece) es ≡ Some s
    → goes_too pieces upto how (room - length piece.bytes) (end_of_sent piece, s) ≡ false → piece ≡ with_run piece (run_after pieces upto how room es piece)
gather-held pieces upto how room es s piece apart found stops =
    gather-stop pieces upto how room es piece (run-stop pieces upto how (end_of_sent piece) (room - length piece.bytes) 0 es s apart found stops)

-- one segment more goes
pub record Grown (pieces : List Sent) (upto how room : ℕ) (es : Segments) (piece next : Sent) : Type 0 where
  pub fits : length next.bytes ≤ room
  pub less : room - length next.bytes < room - length piece.bytes
  pub goes : with_run next (run_after pieces upto how room es next) ≡ with_run piece (run_after pieces upto how room es piece)

pub gather-step : (pieces : List Sent) (upto how room : ℕ) (es : Segments) (s : Segment) (piece next : Sent) → AreApart 0 es → at_place (end_of_sent piece) es ≡ Some s
    → goes_too pieces upto how (room - length piece.bytes) (end_of_sent piece, s) ≡ true → length piece.bytes ≤ room
    → next ≡ with_run piece ((end_of_sent piece, head_of (room - length piece.bytes) s) ∷ []) → Grown pieces upto how room es piece next
gather-step pieces upto how room es s piece next apart found goes fits is = record {
  fits = omega (arith, longer, size_le);
  less = omega (arith, longer, size_some, size_le);
  goes = ap (λ (p : Sent). with_run p (run_after pieces upto how room es next)) is ∙ ap (with_run (with_run piece ((end_of_sent piece, head_of (room - length piece.bytes) s) ∷ []))) same
      ∙ with-run-step piece (end_of_sent piece, head_of (room - length piece.bytes) s) (run_from pieces upto how (end_of_sent piece + min (length s.bytes) (room - length piece.bytes)) ((room - length piece.bytes) - min (length s.bytes) (room - length piece.bytes)) (from_key (end_of_sent piece + min (length s.bytes) (room - length piece.bytes)) es)) ∙ ap (with_run piece) (sym step);
}
  where
    parts : ((may_go pieces upto (end_of_sent piece, s) && nat_eq (how_of_segment (end_of_sent piece, s)) how) ≡ true) × (nat_lt 0 (room - length piece.bytes) ≡ true)
    parts = and_parts (may_go pieces upto (end_of_sent piece, s) && nat_eq (how_of_segment (end_of_sent piece, s)) how) (nat_lt 0 (room - length piece.bytes)) goes

    some : 0 < room - length piece.bytes
    some = ltb-true 0 (room - length piece.bytes) parts.1

    size_some : 0 < min (length s.bytes) (room - length piece.bytes)
    size_some = omega (arith, some, (at-size (end_of_sent piece) 0 es s apart found).0)

    size_le : length piece.bytes + min (length s.bytes) (room - length piece.bytes) ≤ room
    size_le = omega (arith, fits)

    longer : length next.bytes ≡ length piece.bytes + min (length s.bytes) (room - length piece.bytes)
    longer = ap (λ (p : Sent). length p.bytes) is ∙ omega (arith, length-append piece.bytes (take (room - length piece.bytes) s.bytes ++ []), length-append (take (room - length piece.bytes) s.bytes) [], length-take (room - length piece.bytes) s.bytes)

    ends : end_of_sent next ≡ end_of_sent piece + min (length s.bytes) (room - length piece.bytes)
    ends = let begins : next.offset ≡ piece.offset = ap (λ (p : Sent). p.offset) is in omega (arith, begins, longer)

    rest : room - length next.bytes ≡ (room - length piece.bytes) - min (length s.bytes) (room - length piece.bytes)
    rest = omega (arith, longer)

    same : run_after pieces upto how room es next ≡ run_from pieces upto how (end_of_sent piece + min (length s.bytes) (room - length piece.bytes)) ((room - length piece.bytes) - min (length s.bytes) (room - length piece.bytes)) (from_key (end_of_sent piece + min (length s.bytes) (room - length piece.bytes)) es)
    same = ap (λ n. run_from pieces upto how n (room - length next.bytes) (from_key n es)) ends ∙ ap (λ n. run_from pieces upto how (end_of_sent piece + min (length s.bytes) (room - length piece.bytes)) n (from_key (end_of_sent piece + min (length s.bytes) (room - length piece.bytes)) es)) rest

    step : run_after pieces upto how room es piece ≡ (end_of_sent piece, head_of (room - length piece.bytes) s) ∷ run_from pieces upto how (end_of_sent piece + min (length s.bytes) (room - length piece.bytes)) ((room - length piece.bytes) - min (length s.bytes) (room - length piece.bytes)) (from_key (end_of_sent piece + min (length s.bytes) (room - length piece.bytes)) es)
    step =
        let both = and_parts (may_go pieces upto (end_of_sent piece, s)) (nat_eq (how_of_segment (end_of_sent piece, s)) how) parts.0 in
        run-step pieces upto how (end_of_sent piece) (room - length piece.bytes) 0 es s (min (length s.bytes) (room - length piece.bytes)) apart found both.0 both.1 (eq-eqb (end_of_sent piece) (end_of_sent piece) refl) some refl
