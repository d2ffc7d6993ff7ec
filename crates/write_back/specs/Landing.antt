-- What becomes of a file's bytes (RFC 1813, sections 3.3.7 and 4.8): once a piece is in flight no more; and by a change of
-- them all.
use Rattle.std.specs.Prelude.{ℕ, ◌+◌, nat_lt, nat_le, if◌then◌else◌, length, Option, Some, None}
use Rattle.nfs_types.specs.declared.verf.Verf.{Verf}
use Rattle.write_back.specs.declared.change.Change.{Change}
use Rattle.write_back.specs.declared.change.Change.TheVariants as by
use Rattle.write_back.specs.Segments.{Segments, split_flying, cut_from}
use Rattle.write_back.specs.Changes.{changed, all_changed}
use Rattle.write_back.specs.Pieces.{Sent, FilePending, piece_under, without, renumbered, end_of_sent}

-- a piece is in flight no more, and what is left of it is changed
abbrev pub landed : Change → Sent → FilePending → FilePending
landed change piece of = record { segments = changed change piece.offset (end_of_sent piece) of.segments; pieces = without piece.xid of.pieces }

-- the same if a change is for the first bytes alone, and the others are as before they were sent
abbrev pub changed_part : Change → ℕ → Sent → Segments → Segments
changed_part change count piece es =
    if nat_le (length piece.bytes) count then changed change piece.offset (end_of_sent piece) es
    else changed by.Return (piece.offset + count) (end_of_sent piece) (changed change piece.offset (piece.offset + count)
    (split_flying (piece.offset + count) es))

abbrev pub landed_part : Change → ℕ → Sent → FilePending → FilePending
landed_part change count piece of = record { segments = changed_part change count piece of.segments; pieces = without piece.xid of.pieces }

-- what the piece under an xid leads to, or nothing if there is none
abbrev pub at_piece : (Sent → FilePending → FilePending) → Option Sent → FilePending → FilePending
at_piece f None of = of
at_piece f (Some piece) of = f piece of

abbrev pub at_xid : (Sent → FilePending → FilePending) → ℕ → FilePending → FilePending
at_xid f xid of = at_piece f (piece_under xid of.pieces) of

-- the change of bytes that the server has: stable if `committed` is at least 1 (RFC 1813, section 3.3.7)
abbrev pub acked_by : ℕ → Verf → Change
acked_by committed verf = if nat_lt 0 committed then by.Store else by.Ack verf

-- every segment of a file is changed
abbrev pub with_change : Change → FilePending → FilePending
with_change change of = record { segments = all_changed change of.segments; pieces = of.pieces }

abbrev pub with_cut : ℕ → ℕ → FilePending → FilePending
with_cut size upto of = record { segments = cut_from size upto of.segments; pieces = of.pieces }

abbrev pub with_xid : ℕ → ℕ → FilePending → FilePending
with_xid xid to of = record { segments = of.segments; pieces = renumbered xid to of.pieces }
