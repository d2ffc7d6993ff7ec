-- What of a file is in flight, as pieces in order of transmission (RFC 1813, section 3.3.7). What is pending of a
-- file in all.
use Rattle.std.specs.Prelude.{ℕ, ◌+◌, ◌-◌, Bool, ◌&&◌, nat_lt, nat_eq, if◌then◌else◌, List, [], ◌∷◌, length, slice_get, slice_index, Option, Some, None}
use Rattle.std.specs.List.{list_any, sum_by}
use Rattle.std.specs.Option.{option_map}
use Rattle.write_back.specs.declared.state.Ready.{Ready}
use Rattle.write_back.specs.declared.sent.Part.{Part}
use Rattle.write_back.specs.States.{is_in_flight}
use Rattle.write_back.specs.Segments.{Segments, Cell, cell_at, covers, own_of}

-- the bytes that were sent under an xid, and the parts that they came from, in order
pub record Sent : Type 0 where
  pub xid : ℕ
  pub offset : ℕ
  pub how : ℕ
  pub bytes : List ℕ
  pub parts : List Part

abbrev pub end_of_sent : Sent → ℕ
end_of_sent piece = piece.offset + length piece.bytes

-- what is pending of a file: the newest bytes of each place, and what is in flight, also beneath newer bytes
pub record FilePending : Type 0 where
  pub segments : Segments
  pub pieces : List Sent

abbrev pub nothing : FilePending
nothing = record { segments = []; pieces = [] }

-- the part of a piece that has its n-th byte
abbrev pub part_at : List Part → ℕ → Option Part
part_at [] n = None
part_at (part ∷ parts) n = if nat_lt n part.size then Some part else part_at parts (n - part.size)

-- what is in flight at a place: the byte, the number of its write, the xid, and what became of it before it was sent
pub record Flown : Type 0 where
  pub byte : ℕ
  pub number : ℕ
  pub xid : ℕ
  pub before : Ready

abbrev pub flown_in : Sent → ℕ → Option Flown
flown_in piece place =
    option_map (λ part. record { byte = slice_index piece.bytes (place - piece.offset); number = part.number; xid = piece.xid; before = part.before })
    (part_at piece.parts (place - piece.offset))

abbrev pub fly_in : List Sent → ℕ → Option Flown
fly_in [] place = None
fly_in (piece ∷ pieces) place = if covers piece.offset (length piece.bytes) place then flown_in piece place else fly_in pieces place

abbrev pub fly_at : FilePending → ℕ → Option Flown
fly_at of place = fly_in of.pieces place

-- what is pending at a place and isn't in flight
abbrev pub rest_of : Option Cell → Option Cell
rest_of None = None
rest_of (Some cell) = if is_in_flight cell.state then None else Some cell

abbrev pub rest_at : FilePending → ℕ → Option Cell
rest_at of place = rest_of (cell_at of.segments place)

-- whether something in flight shares a place with those from one to another
abbrev pub overlaps : List Sent → ℕ → ℕ → Bool
overlaps pieces low high = list_any (λ piece. nat_lt piece.offset high && nat_lt low (end_of_sent piece)) pieces

-- the piece that was sent last
abbrev pub last_of : List Sent → Option Sent
last_of pieces = slice_get pieces (length pieces - 1)

-- the bytes of a piece, none of none
abbrev pub bytes_sent : Option Sent → List ℕ
bytes_sent None = []
bytes_sent (Some piece) = piece.bytes

-- the piece in flight under an xid
abbrev pub piece_under : ℕ → List Sent → Option Sent
piece_under xid [] = None
piece_under xid (piece ∷ pieces) = if nat_eq piece.xid xid then Some piece else piece_under xid pieces

-- the others
abbrev pub without : ℕ → List Sent → List Sent
without xid [] = []
without xid (piece ∷ pieces) = if nat_eq piece.xid xid then pieces else piece ∷ without xid pieces

-- the piece under one xid gets another
abbrev pub renumbered : ℕ → ℕ → List Sent → List Sent
renumbered xid to [] = []
renumbered xid to (piece ∷ pieces) =
    if nat_eq piece.xid xid then record { xid = to; offset = piece.offset; how = piece.how; bytes = piece.bytes; parts = piece.parts } ∷ pieces
    else piece ∷ renumbered xid to pieces

-- how many bytes are in flight
abbrev pub flying_of : List Sent → ℕ
flying_of pieces = sum_by (λ piece. length piece.bytes) pieces

-- how many bytes of a file are pending
abbrev pub pending_of : FilePending → ℕ
pending_of of = own_of of.segments + flying_of of.pieces
