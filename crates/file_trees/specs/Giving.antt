-- What a tree gives, call by call.
use Rattle.std.specs.Prelude.{◌≡◌, ◌≤◌, ℕ, List, [], ◌∷◌, ◌++◌, length, Option, Some, None, Result, Ok, Err}
use Rattle.xdr_codec.specs.declared.blob.Memory.{Memory}
use Rattle.file_trees.specs.declared.item.Item.{Item}
use Rattle.file_trees.specs.declared.item.Piece.{Piece}
use Rattle.file_trees.specs.declared.item.Piece.TheVariants as pieces
use Rattle.file_trees.specs.declared.tree.Given.{Given}
use Rattle.file_trees.specs.declared.tree.Given.TheVariants as gives

-- what a call for the next path gave
abbrev pub told_item : Result (Option Item) Memory → List Given
told_item (Ok (Some item)) = gives.Item item ∷ []
told_item (Ok None) = []
told_item (Err e) = []

-- what a call for the next bytes gave
abbrev pub told_piece : Result Piece Memory → List Given
told_piece (Ok piece) = gives.Piece piece ∷ []
told_piece (Err e) = []

-- This was added to what a tree gave. One that tells goes on telling.
abbrev pub Gives : Option (List Given) → Option (List Given) → List Given → Type 0
Gives None new more = Unit {0}
Gives (Some old) None more = ⊥
Gives (Some old) (Some new) more = new ≡ old ++ more

-- there are 1 to 65,536 bytes
pub record IsFew (bytes : List ℕ) : Type 0 where
  pub some : 1 ≤ length bytes
  pub most : length bytes ≤ 65536

abbrev pub IsPiece : Piece → Type 0
IsPiece (pieces.Bytes bytes) = IsFew bytes
IsPiece pieces.End = Unit {0}
IsPiece (pieces.Cut cut) = Unit {0}
