-- Which bytes of a file are sent next (RFC 1813, section 3.3.7).
use Rattle.std.specs.Prelude.{◌≡◌, ℕ, ◌+◌, ◌-◌, Bool, true, false, ◌&&◌, not, nat_lt, nat_le, nat_eq, if◌then◌else◌, List, [], ◌∷◌, ◌++◌, length, map, Option, Some, None, Result, Ok}
use Rattle.std.specs.List.{concat}
use Rattle.xdr_codec.specs.declared.blob.Memory.{Memory}
use Rattle.write_back.specs.declared.sent.Part.{Part}
use Rattle.write_back.specs.declared.change.Change.TheVariants.{Send}
use Rattle.write_back.specs.States.{is_ready, how_of, ready_of}
use Rattle.write_back.specs.Segments.{Segment, Segments, head_of, end_of, split}
use Rattle.write_back.specs.Changes.{changed}
use Rattle.write_back.specs.Walk.{at_place}
use Rattle.write_back.specs.Pieces.{Sent, FilePending, overlaps}

-- A segment may go if its state allows it, its number is at most `upto`, and nothing in flight shares a place with it.
abbrev pub may_go : List Sent → ℕ → ℕ × Segment → Bool
may_go pieces upto e = is_ready e.1.state && nat_le e.1.number upto && not (overlaps pieces e.0 (end_of e))

-- how a segment is to be sent
abbrev pub how_of_segment : ℕ × Segment → ℕ
how_of_segment e = how_of (ready_of e.1.state)

-- Segments that touch each other from a place on, may go and are to be sent alike, until `room` bytes are taken.
abbrev pub run_from : List Sent → ℕ → ℕ → ℕ → ℕ → Segments → Segments
run_from pieces upto how place room [] = []
run_from pieces upto how place room (e ∷ es) =
    if may_go pieces upto e && nat_eq (how_of_segment e) how && nat_eq e.0 place && nat_lt 0 room
    then (e.0, head_of room e.1) ∷ run_from pieces upto how (end_of e) (room - length e.1.bytes) es else []

-- What is sent next begins at the lowest offset of a segment that may go.
abbrev pub chosen_from : List Sent → ℕ → ℕ → Segments → Segments
chosen_from pieces upto wsize [] = []
chosen_from pieces upto wsize (e ∷ es) =
    if may_go pieces upto e then run_from pieces upto (how_of_segment e) e.0 wsize (e ∷ es) else chosen_from pieces upto wsize es

abbrev pub chosen : ℕ → ℕ → FilePending → Segments
chosen upto wsize of = chosen_from of.pieces upto wsize of.segments

abbrev pub bytes_in : Segments → List ℕ
bytes_in run = concat (map (λ e. e.1.bytes) run)

abbrev pub part_of : ℕ × Segment → Part
part_of e = record { size = length e.1.bytes; number = e.1.number; before = ready_of e.1.state }

-- how the segment at a place is to be sent
abbrev pub how_in : Option Segment → ℕ
how_in None = 0
how_in (Some s) = how_of (ready_of s.state)

abbrev pub how_at : ℕ → Segments → ℕ
how_at place es = how_in (at_place place es)

-- the piece of these segments, under an xid
abbrev pub gathered : ℕ → ℕ → Segments → ℕ → Sent
gathered xid offset run how = record { xid = xid; offset = offset; how = how; bytes = bytes_in run; parts = map part_of run }

-- a piece with the bytes of more segments
abbrev pub with_run : Sent → Segments → Sent
with_run piece run =
    record { xid = piece.xid; offset = piece.offset; how = piece.how; bytes = piece.bytes ++ bytes_in run; parts = piece.parts ++ map part_of run }

abbrev pub piece_of : ℕ → ℕ × Segment → Segments → Sent
piece_of xid first run = gathered xid first.0 run (how_of_segment first)

-- what is pending of a file once a piece was put in flight
abbrev pub with_sent : Sent → FilePending → FilePending
with_sent piece of =
    record {
      segments = changed Send piece.offset (piece.offset + length piece.bytes) (split (piece.offset + length piece.bytes) of.segments);
      pieces = of.pieces ++ piece ∷ [];
    }

-- These segments are put in flight, as one piece, if there are any, and whether there are is told.
abbrev pub IsPut : ℕ → Segments → FilePending → FilePending → Result Bool Memory → Type 0
IsPut xid [] old new done = (done ≡ Ok false) × (new ≡ old)
IsPut xid (e ∷ es) old new done = (done ≡ Ok true) × (new ≡ with_sent (piece_of xid e (e ∷ es)) old)

-- whether there are any
abbrev pub some_go : Segments → Bool
some_go [] = false
some_go (e ∷ es) = true

-- no segment with a number up to another may go
abbrev pub NoneGo : ℕ → FilePending → Type 0
NoneGo upto of = (wsize : ℕ) → chosen upto wsize of ≡ []
