-- Worked examples of what is read from the calls of a wire.
use Rattle.std.proofs.Common.{◌≡◌, [], ◌∷◌, refl}
use Rattle.world_model.specs.declared.entry.Entry.TheVariants as entries
use Rattle.world_model.specs.History.{no_server}
use Rattle.outside.specs.declared.wire.WireEntry.TheVariants.{Connected, Wrote, Read}
use Rattle.outside.specs.Wire.{WireTold}
use Rattle.outside.specs.MemWire.{in_memory}
use Rattle.outside.specs.Records.{joined, record_at, split_in}
use Rattle.outside.specs.Reading.{reading}

-- A record of one byte is written; another comes in two pieces, with the first byte of a third behind it.
abbrev some_calls : WireTold
some_calls = in_memory (Connected 2049 ∷ Wrote (128 ∷ 0 ∷ 0 ∷ 1 ∷ 7 ∷ []) ∷ Read (128 ∷ 0 ∷ []) ∷ Read (0 ∷ 1 ∷ 9 ∷ 128 ∷ []) ∷ [])

pub read_in_pieces : (reading some_calls).history.entries ≡ entries.Dialed 2049 ∷ entries.Sent (7 ∷ []) ∷ entries.Delivered (9 ∷ []) ∷ []
unfolding joined record_at split_in
read_in_pieces = refl

pub left_unread : (reading some_calls).unread ≡ 128 ∷ []
unfolding joined record_at split_in
left_unread = refl

-- Two records come in one piece, and a record of two fragments; one that was written in part isn't sent.
abbrev more_calls : WireTold
more_calls = in_memory (Wrote (128 ∷ 0 ∷ 0 ∷ 2 ∷ 7 ∷ []) ∷ Read (128 ∷ 0 ∷ 0 ∷ 0 ∷ 0 ∷ 0 ∷ 0 ∷ 1 ∷ 5 ∷ 128 ∷ 0 ∷ 0 ∷ 1 ∷ 6 ∷ []) ∷ [])

pub read_at_once : (reading more_calls).history.entries ≡ entries.Delivered [] ∷ entries.Delivered (5 ∷ 6 ∷ []) ∷ []
unfolding joined record_at split_in
read_at_once = refl
