-- The piece that is in flight under an xid, by its place among the others.
use Rattle.std.proofs.Common.{◌≡◌, ◌<◌, ◌≤◌, ◌+◌, ℕ, suc, List, [], ◌∷◌, length, get_or, set, Bool, true, false, cond, Some, None, position, nat_lt, refl, sym, ap, ◌∙◌, arith}
use Rattle.std.specs.Prelude.{nat_eq}
use Rattle.std.specs.List.{remove, position_or_len}
use Rattle.std.proofs.lemmas.Bool.{eqb-true}
use Rattle.write_back.specs.Pieces.{Sent, piece_under, without, renumbered}

-- whether a piece is in flight under an xid
abbrev pub is_under : ℕ → Sent → Bool
is_under xid piece = nat_eq piece.xid xid

abbrev pub with_xid_of : ℕ → Sent → Sent
with_xid_of to piece = record { xid = to; offset = piece.offset; how = piece.how; bytes = piece.bytes; parts = piece.parts }

-- what `position` says
pub found : (n m place : ℕ) (b : Bool) → nat_lt n m ≡ b → cond b (Some n) None ≡ Some place → (n < m) × (n ≡ place)
found n m place true t e = (search (arith, t), cc)
found n m place false t e = absurd cc

none : (n m : ℕ) (b : Bool) → nat_lt n m ≡ b → cond b (Some n) None ≡ None → m ≤ n
none n m true t e = absurd cc
none n m false t e = search (arith, t)

one_more : (n : ℕ) → 1 + n ≡ suc n
one_more n = omega arith

-- what is at the first place that passes
abbrev IsFirst : ℕ → ℕ → List Sent → Sent → Type 0
IsFirst xid to pieces d =
    (piece_under xid pieces ≡ Some (get_or pieces (position_or_len (is_under xid) pieces) d))
    × (without xid pieces ≡ remove pieces (position_or_len (is_under xid) pieces))
    × (renumbered xid to pieces ≡ set pieces (position_or_len (is_under xid) pieces) (with_xid_of to (get_or pieces (position_or_len (is_under xid) pieces) d)))

first-is : (xid to : ℕ) (pieces : List Sent) (d : Sent) → position_or_len (is_under xid) pieces < length pieces → IsFirst xid to pieces d
first-is xid to [] d l = absurd (omega (arith, l))
first-is xid to (p ∷ pieces) d l = by (nat_eq p.xid xid) refl (first-is xid to pieces d)
  where
    by : (b : Bool) → nat_eq p.xid xid ≡ b → (position_or_len (is_under xid) pieces < length pieces → IsFirst xid to pieces d) → IsFirst xid to (p ∷ pieces) d
    by true h more = rw h (refl, refl, refl)
    by false h more =
        let k : position_or_len (is_under xid) pieces < length pieces = omega (arith, rw h at l) in
        let m = more k in
        rw (h, one_more) (m.0, ap (λ z. p ∷ z) m.1, ap (λ z. p ∷ z) m.2)

none-is : (xid to : ℕ) (pieces : List Sent) → length pieces ≤ position_or_len (is_under xid) pieces → (piece_under xid pieces ≡ None) × (without xid pieces ≡ pieces) × (renumbered xid to pieces ≡ pieces)
none-is xid to [] l = (refl, refl, refl)
none-is xid to (p ∷ pieces) l = by (nat_eq p.xid xid) refl (none-is xid to pieces)
  where
    by : (b : Bool) → nat_eq p.xid xid ≡ b → (length pieces ≤ position_or_len (is_under xid) pieces → (piece_under xid pieces ≡ None) × (without xid pieces ≡ pieces) × (renumbered xid to pieces ≡ pieces))
        → (piece_under xid (p ∷ pieces) ≡ None) × (without xid (p ∷ pieces) ≡ p ∷ pieces) × (renumbered xid to (p ∷ pieces) ≡ p ∷ pieces)
    by true h more = absurd (omega (arith, rw h at l))
    by false h more =
        let k : length pieces ≤ position_or_len (is_under xid) pieces = omega (arith, rw h at l) in
        let m = more k in
        rw h (m.0, ap (λ z. p ∷ z) m.1, ap (λ z. p ∷ z) m.2)

pub under-some : (xid place : ℕ) (pieces : List Sent) (p : Sent) → position (λ (piece : Sent). nat_eq piece.xid xid) pieces ≡ Some place → p ≡ get_or pieces place p → piece_under xid pieces ≡ Some p
under-some xid place pieces p is at =
    let f : (position_or_len (is_under xid) pieces < length pieces) × (position_or_len (is_under xid) pieces ≡ place) = found (position_or_len (is_under xid) pieces) (length pieces) place (nat_lt (position_or_len (is_under xid) pieces) (length pieces)) refl is in
    (first-is xid 0 pieces p f.0).0 ∙ ap (λ n. Some (get_or pieces n p)) f.1 ∙ ap Some (sym at)

pub without-some : (xid place : ℕ) (pieces : List Sent) → position (λ (piece : Sent). nat_eq piece.xid xid) pieces ≡ Some place → without xid pieces ≡ remove pieces place
without-some xid place pieces is =
    let f : (position_or_len (is_under xid) pieces < length pieces) × (position_or_len (is_under xid) pieces ≡ place) = found (position_or_len (is_under xid) pieces) (length pieces) place (nat_lt (position_or_len (is_under xid) pieces) (length pieces)) refl is in
    (first-is xid 0 pieces (record { xid = 0; offset = 0; how = 0; bytes = []; parts = [] }) f.0).1 ∙ ap (remove pieces) f.1

pub renumbered-some : (xid to place : ℕ) (pieces : List Sent) (p : Sent) → position (λ (piece : Sent). nat_eq piece.xid xid) pieces ≡ Some place → p ≡ get_or pieces place p → renumbered xid to pieces ≡ set pieces place (with_xid_of to p)
renumbered-some xid to place pieces p is at =
    let f : (position_or_len (is_under xid) pieces < length pieces) × (position_or_len (is_under xid) pieces ≡ place) = found (position_or_len (is_under xid) pieces) (length pieces) place (nat_lt (position_or_len (is_under xid) pieces) (length pieces)) refl is in
    (first-is xid to pieces p f.0).2 ∙ ap (λ n. set pieces n (with_xid_of to (get_or pieces n p))) f.1 ∙ ap (λ q. set pieces place (with_xid_of to q)) (sym at)

pub under-none : (xid : ℕ) (pieces : List Sent) → position (λ (piece : Sent). nat_eq piece.xid xid) pieces ≡ None → (piece_under xid pieces ≡ None) × (without xid pieces ≡ pieces)
under-none xid pieces is = let m = none-is xid 0 pieces (none (position_or_len (is_under xid) pieces) (length pieces) (nat_lt (position_or_len (is_under xid) pieces) (length pieces)) refl is) in (m.0, m.1)

pub renumbered-none : (xid to : ℕ) (pieces : List Sent) → position (λ (piece : Sent). nat_eq piece.xid xid) pieces ≡ None → renumbered xid to pieces ≡ pieces
renumbered-none xid to pieces is = (none-is xid to pieces (none (position_or_len (is_under xid) pieces) (length pieces) (nat_lt (position_or_len (is_under xid) pieces) (length pieces)) refl is)).2

-- it is under its own xid
pub under-own : (xid : ℕ) (pieces : List Sent) (piece : Sent) → piece_under xid pieces ≡ Some piece → piece.xid ≡ xid
under-own xid [] piece found = absurd cc
under-own xid (p ∷ pieces) piece found = by (nat_eq p.xid xid) refl (under-own xid pieces piece)
  where
    by : (b : Bool) → nat_eq p.xid xid ≡ b → (piece_under xid pieces ≡ Some piece → piece.xid ≡ xid) → piece.xid ≡ xid
    by true h more = let same : p ≡ piece = (let k : Some p ≡ Some piece = (rw h at found) in cc) in sym (ap (λ (q : Sent). q.xid) same) ∙ eqb-true p.xid xid h
    by false h more = let k : piece_under xid pieces ≡ Some piece = (rw h at found) in more k
