-- Bytes that are written become pending, under the next number of a write.
use Rattle.std.specs.Prelude.{ℕ, ◌+◌, List, length, Bool, nat_lt}
use Rattle.client_shelf.specs.declared.shelf.Shelf.{Shelf}
use Rattle.write_back.specs.Files.{Pending, all_pending}
use Rattle.write_back.specs.Sound.{most_pending}

-- with other pending bytes, and one more write that was counted
abbrev pub counted : Pending → Shelf → Shelf
counted back shelf = record shelf { back = back; seq = shelf.seq + 1 }

-- whether there is no room for bytes
abbrev pub is_full : List ℕ → Pending → Bool
is_full bytes back = nat_lt most_pending (all_pending back + length bytes)
