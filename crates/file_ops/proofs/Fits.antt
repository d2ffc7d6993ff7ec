-- A piece that is sent next has at most as many bytes as it may.
use Rattle.std.proofs.Common.{◌≡◌, ◌≤◌, ◌-◌, ◌&&◌, ℕ, Bool, true, false, List, [], ◌∷◌, ◌++◌, length, take, Option, Some, None, sym, subst, ◌∙◌, arith, length-append, length-take}
use Rattle.std.specs.Prelude.{nat_eq, nat_lt, if◌then◌else◌, IsSomeAnd}
use Rattle.write_back.specs.Segments.{Segments, head_of, end_of}
use Rattle.write_back.specs.declared.piece.Piece.{Piece}
use Rattle.write_back.specs.Files.{ShowsPiece, ShowsBytes}
use Rattle.write_back.specs.Pieces.{Sent, FilePending}
use Rattle.write_back.specs.Choice.{may_go, how_of_segment, run_from, chosen_from, chosen, bytes_in, piece_of}

none-fits : (room : ℕ) → length (bytes_in []) ≤ room
none-fits room = omega arith

one-fits : (room : ℕ) (bytes rest : List ℕ) → length rest ≤ room - length bytes → length (take room bytes ++ rest) ≤ room
one-fits room bytes rest less = omega (arith, less, length-append (take room bytes) rest, length-take room bytes)

run-fits : (pieces : List Sent) (upto how place room : ℕ) (es : Segments) → length (bytes_in (run_from pieces upto how place room es)) ≤ room
run-fits pieces upto how place room [] = none-fits room
run-fits pieces upto how place room (e ∷ es) = by (may_go pieces upto e && nat_eq (how_of_segment e) how && nat_eq e.0 place && nat_lt 0 room) (run-fits pieces upto how (end_of e) (room - length e.1.bytes) es)
  where
    by : (b : Bool) → length (bytes_in (run_from pieces upto how (end_of e) (room - length e.1.bytes) es)) ≤ room - length e.1.bytes
        → length (bytes_in (if b then (e.0, head_of room e.1) ∷ run_from pieces upto how (end_of e) (room - length e.1.bytes) es else [])) ≤ room
    by true less = one-fits room e.1.bytes (bytes_in (run_from pieces upto how (end_of e) (room - length e.1.bytes) es)) less
    by false less = none-fits room

pub chosen-fits : (pieces : List Sent) (upto wsize : ℕ) (es : Segments) → length (bytes_in (chosen_from pieces upto wsize es)) ≤ wsize
chosen-fits pieces upto wsize [] = none-fits wsize
chosen-fits pieces upto wsize (e ∷ es) = by (may_go pieces upto e) (chosen-fits pieces upto wsize es)
  where
    by : (b : Bool) → length (bytes_in (chosen_from pieces upto wsize es)) ≤ wsize → length (bytes_in (if b then run_from pieces upto (how_of_segment e) e.0 wsize (e ∷ es) else chosen_from pieces upto wsize es)) ≤ wsize
    by true less = run-fits pieces upto (how_of_segment e) e.0 wsize (e ∷ es)
    by false less = less

shows-fits : (xid wsize : ℕ) (run : Segments) (shown : Option Piece) (piece : Piece) → length (bytes_in run) ≤ wsize → ShowsPiece xid run shown → shown ≡ Some piece → length piece.bytes.now ≤ wsize
shows-fits xid wsize [] shown piece less shows is = let no-way : Some piece ≡ None = sym is ∙ shows in absurd cc
shows-fits xid wsize (e ∷ es) shown piece less shows is =
    let bytes : ShowsBytes (piece_of xid e (e ∷ es)) piece = subst (λ s. IsSomeAnd s (ShowsBytes (piece_of xid e (e ∷ es)))) is shows in
    subst (λ b. length b ≤ wsize) (sym bytes.bytes) less

-- the piece that is shown fits into room for so many bytes
pub piece-fits : (xid upto wsize room : ℕ) (of : FilePending) (shown : Option Piece) (piece : Piece) → ShowsPiece xid (chosen upto wsize of) shown → shown ≡ Some piece → room ≡ wsize → length piece.bytes.now ≤ room
piece-fits xid upto wsize room of shown piece shows is whole = subst (λ n. length piece.bytes.now ≤ n) (sym whole) (shows-fits xid wsize (chosen upto wsize of) shown piece (chosen-fits of.pieces upto wsize of.segments) shows is)
