-- Where bytes found no room, room is made for them.
use Rattle.std.proofs.Common.{◌≡◌, ℕ, List, true}
use Rattle.client_shelf.specs.declared.turn.Turn.{Turn}
use Rattle.client_shelf.specs.declared.shelf.Shelf.{Shelf}
use Rattle.client_shelf.specs.declared.step.Step.{Step}
use Rattle.file_ops.specs.declared.write_file.Writing.{Writing}
use Rattle.file_ops.specs.Adding.{is_full}
use Rattle.file_ops.specs.WriteFile.{MakesRoom, Writes}

pub full-writes : (wsize lane : ℕ) (file : List ℕ) (offset : ℕ) (bytes : List ℕ) (turn : Turn) (shelf now : Shelf) (next : Step) (new : Writing) (after : Shelf)
    → is_full bytes shelf.back ≡ true → now ≡ shelf → MakesRoom wsize lane file turn now next new after → Writes wsize lane file offset bytes turn shelf next new after
full-writes wsize lane file offset bytes turn shelf now next new after full same makes = rw full (rw same at makes)
