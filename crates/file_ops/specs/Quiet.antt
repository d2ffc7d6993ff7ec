-- Whether nothing of a file is in flight.
use Rattle.std.specs.Prelude.{ℕ, List, [], ◌∷◌, Bool, true, false}
use Rattle.write_back.specs.Pieces.{Sent}
use Rattle.write_back.specs.Files.{Pending, of_file}

abbrev pub are_none : List Sent → Bool
are_none [] = true
are_none (piece ∷ pieces) = false

abbrev pub is_quiet : List ℕ → Pending → Bool
is_quiet file back = are_none (of_file file back).pieces
