-- That no pending byte came by a write with a number above another: then each number above that one may be the next.
use Rattle.std.specs.Prelude.{ℕ, ◌≤◌, List, [], ◌∷◌, ⊤}
use Rattle.write_back.specs.declared.sent.Part.{Part}
use Rattle.write_back.specs.Segments.{Segments}
use Rattle.write_back.specs.Pieces.{Sent, FilePending}
use Rattle.write_back.specs.Files.{Pending, of_file}

-- no segment has a number above n
abbrev pub SegmentsUpTo : ℕ → Segments → Type 0
SegmentsUpTo n [] = ⊤
SegmentsUpTo n (e ∷ es) = (e.1.number ≤ n) × SegmentsUpTo n es

-- no part of a piece has one
abbrev pub PartsUpTo : ℕ → List Part → Type 0
PartsUpTo n [] = ⊤
PartsUpTo n (part ∷ parts) = (part.number ≤ n) × PartsUpTo n parts

-- no piece has one
abbrev pub PiecesUpTo : ℕ → List Sent → Type 0
PiecesUpTo n [] = ⊤
PiecesUpTo n (piece ∷ pieces) = PartsUpTo n piece.parts × PiecesUpTo n pieces

pub record FileUpTo (n : ℕ) (of : FilePending) : Type 0 where
  pub segments : SegmentsUpTo n of.segments
  pub pieces : PiecesUpTo n of.pieces

-- the same of every file
abbrev pub AllUpTo : ℕ → Pending → Type 0
AllUpTo n p = (file : List ℕ) → FileUpTo n (of_file file p)
