-- How many bytes of each write are in flight.
use Rattle.std.proofs.Common.{◌≡◌, ℕ, ◌+◌, Bool, true, false, List, [], ◌∷◌, ◌++◌, Some, refl, ap, arith}
use Rattle.std.specs.Prelude.{nat_eq}
use Rattle.write_back.specs.Pieces.{Sent, piece_under, without, renumbered}
use Rattle.write_back.specs.Ages.{parts_by, flying_by}

pub flying-without-by : (n xid : ℕ) (pieces : List Sent) (piece : Sent) → piece_under xid pieces ≡ Some piece → flying_by n (without xid pieces) + parts_by n piece.parts ≡ flying_by n pieces
flying-without-by n xid [] piece found = absurd cc
flying-without-by n xid (p ∷ pieces) piece found = by (nat_eq p.xid xid) refl (flying-without-by n xid pieces piece)
  where
    by : (b : Bool) → nat_eq p.xid xid ≡ b → (piece_under xid pieces ≡ Some piece → flying_by n (without xid pieces) + parts_by n piece.parts ≡ flying_by n pieces)
        → flying_by n (without xid (p ∷ pieces)) + parts_by n piece.parts ≡ flying_by n (p ∷ pieces)
    by true h more =
        let same : p ≡ piece = (let k : Some p ≡ Some piece = (rw h at found) in cc) in
        let parts : parts_by n p.parts ≡ parts_by n piece.parts = ap (λ (q : Sent). parts_by n q.parts) same in
        rw h (omega (arith, parts))
    by false h more = let k : piece_under xid pieces ≡ Some piece = (rw h at found) in rw h (omega (arith, more k))

pub flying-renumbered-by : (n xid to : ℕ) (pieces : List Sent) → flying_by n (renumbered xid to pieces) ≡ flying_by n pieces
flying-renumbered-by n xid to [] = refl
flying-renumbered-by n xid to (p ∷ pieces) = by (nat_eq p.xid xid) refl (flying-renumbered-by n xid to pieces)
  where
    by : (b : Bool) → nat_eq p.xid xid ≡ b → flying_by n (renumbered xid to pieces) ≡ flying_by n pieces → flying_by n (renumbered xid to (p ∷ pieces)) ≡ flying_by n (p ∷ pieces)
    by true h more = rw h refl
    by false h more = rw h (ap (λ k. parts_by n p.parts + k) more)

pub flying-append-by : (n : ℕ) (pieces : List Sent) (piece : Sent) → flying_by n (pieces ++ piece ∷ []) ≡ flying_by n pieces + parts_by n piece.parts
flying-append-by n [] piece = omega arith
flying-append-by n (p ∷ pieces) piece = omega (arith, flying-append-by n pieces piece)
