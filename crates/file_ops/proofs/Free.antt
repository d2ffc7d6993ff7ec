-- Under an xid nothing is in flight after a piece under another one landed, if nothing was.
use Rattle.std.proofs.Common.{◌≡◌, ℕ, Bool, true, false, List, [], ◌∷◌, Option, Some, None, refl, nat_eq}
use Rattle.write_back.specs.Pieces.{Sent, FilePending, piece_under, without}
use Rattle.write_back.specs.Landing.{at_piece, at_xid}
use Rattle.write_back.specs.Files.{Pending, of_file, IsFree}

pub none-without : (x y : ℕ) (ps : List Sent) → piece_under x ps ≡ None → piece_under x (without y ps) ≡ None
none-without x y [] h = refl
none-without x y (p ∷ ps) h = by (nat_eq p.xid y) (nat_eq p.xid x) refl refl h (none-without x y ps)
  where
    by : (b d : Bool) → nat_eq p.xid y ≡ b → nat_eq p.xid x ≡ d → piece_under x (p ∷ ps) ≡ None → (piece_under x ps ≡ None → piece_under x (without y ps) ≡ None) → piece_under x (without y (p ∷ ps)) ≡ None
    by true true hb hd h k = let no-way : Some p ≡ None = (rw hd at h) in absurd cc
    by true false hb hd h k = let rest : piece_under x ps ≡ None = (rw hd at h) in rw hb rest
    by false true hb hd h k = let no-way : Some p ≡ None = (rw hd at h) in absurd cc
    by false false hb hd h k = let rest : piece_under x ps ≡ None = (rw hd at h) in rw hb (rw hd (k rest))

in_piece : (x : ℕ) (f : Sent → FilePending → FilePending) → ((piece : Sent) (of : FilePending) → (f piece of).pieces ≡ without piece.xid of.pieces) → (found : Option Sent) (of : FilePending) → piece_under x of.pieces ≡ None → piece_under x (at_piece f found of).pieces ≡ None
in_piece x f w None of h = h
in_piece x f w (Some piece) of h = rw (w piece of) (none-without x piece.xid of.pieces h)

pub free-landed : (x asked : ℕ) (file : List ℕ) (f : Sent → FilePending → FilePending) (old new : Pending)
    → ((piece : Sent) (of : FilePending) → (f piece of).pieces ≡ without piece.xid of.pieces)
    → of_file file new ≡ at_xid f asked (of_file file old) → IsFree x file old → IsFree x file new
free-landed x asked file f old new w e h = rw e (in_piece x f w (piece_under asked (of_file file old).pieces) (of_file file old) h)
