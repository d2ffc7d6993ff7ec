-- What a view shows of a place.
use Rattle.std.proofs.Common.{◌≡◌, ◌≢◌, ℕ, ◌-◌, Bool, true, false, List, [], ◌∷◌, length, Option, Some, None, refl, sym, ap, subst, ◌∙◌}
use Rattle.std.specs.Prelude.{nat_eq, slice_index}
use Rattle.std.specs.Option.{option_map}
use Rattle.std.proofs.lemmas.Bool.{eq-eqb, eqb-true}
use Rattle.write_back.specs.declared.sent.Part.{Part}
use Rattle.write_back.specs.Pieces.{Sent, Flown, part_at, flown_in, fly_in, piece_under}
use Rattle.write_back.specs.Segments as segments
use Rattle.write_back.specs.Sound.{AreDistinct}
use Rattle.write_back.proofs.Sending.{flown_as}
use Rattle.model_writes.specs.Machine.{Cell, Flight}
use Rattle.step_pending.specs.Cells.{IsCell, IsRest, flight_of}

-- a pending byte is shown by one
pub rest-some : (kept : segments.Cell) (o : Option Cell) → IsRest (Some kept) o → (cell : Cell) × (o ≡ Some cell) × IsCell kept cell
rest-some kept None is = absurd is
rest-some kept (Some cell) is = (cell, refl, is)

-- and the other way round
pub kept-some : (o : Option segments.Cell) (cell : Cell) → IsRest o (Some cell) → (kept : segments.Cell) × (o ≡ Some kept) × IsCell kept cell
kept-some None cell is = absurd is
kept-some (Some kept) cell is = (kept, refl, is)

pub kept-none : (o : Option segments.Cell) → IsRest o None → o ≡ None
kept-none None is = refl
kept-none (Some kept) is = absurd is

-- a byte in flight is shown by one
pub flown-of : (o : Option Flown) (f : Flight) → option_map flight_of o ≡ Some f → (flown : Flown) × (o ≡ Some flown) × (flight_of flown ≡ f)
flown-of None f is = absurd cc
flown-of (Some flown) f is = (flown, refl, the_one)
  where
    the_one : flight_of flown ≡ f
    the_one = let k : Some (flight_of flown) ≡ Some f = is in cc

pub some-of : {A : Type 0} → (o : Option A) → (o ≡ None → ⊥) → (x : A) × (o ≡ Some x)
some-of None not = absurd (not refl)
some-of (Some x) not = (x, refl)

pub flight-is : (f : Flight) (y n x : ℕ) → f.byte ≡ y → f.number ≡ n → f.xid ≡ x → Some f ≡ Some (record { byte = y; number = n; xid = x })
flight-is f y n x b m z =
    ap (λ k. Some (record { byte = k; number = f.number; xid = f.xid })) b ∙ ap (λ k. Some (record { byte = y; number = k; xid = f.xid })) m
    ∙ ap (λ k. Some (record { byte = y; number = n; xid = k })) z

-- a byte of a piece has its xid and stands there
pub record IsFrom (piece : Sent) (place : ℕ) (flown : Flown) : Type 0 where
  pub byte : flown.byte ≡ slice_index piece.bytes (place - piece.offset)
  pub xid : flown.xid ≡ piece.xid

pub flown-from : (piece : Sent) (place : ℕ) (flown : Flown) → flown_in piece place ≡ Some flown → IsFrom piece place flown
flown-from piece place flown is = by (part_at piece.parts (place - piece.offset)) refl
  where
    by : (o : Option Part) → part_at piece.parts (place - piece.offset) ≡ o → IsFrom piece place flown
    by None h = let k : None ≡ Some flown = sym (ap (option_map (flown_as piece place)) h) ∙ is in absurd cc
    by (Some part) h =
        let k : Some (flown_as piece place part) ≡ Some flown = sym (ap (option_map (flown_as piece place)) h) ∙ is in
        let same : flown_as piece place part ≡ flown = cc in
        record { byte = sym (ap (λ (z : Flown). z.byte) same); xid = sym (ap (λ (z : Flown). z.xid) same) }

-- what is in flight at a place is of a piece that covers it, the one under its xid
pub record HasPiece (pieces : List Sent) (place : ℕ) (flown : Flown) : Type 0 where
  pub piece : Sent
  pub under : piece_under flown.xid pieces ≡ Some piece
  pub inside : segments.covers piece.offset (length piece.bytes) place ≡ true
  pub from : IsFrom piece place flown

pub has-piece : (pieces : List Sent) (place : ℕ) (flown : Flown) → AreDistinct pieces → fly_in pieces place ≡ Some flown → HasPiece pieces place flown
has-piece [] place flown distinct is = absurd cc
has-piece (p ∷ pieces) place flown distinct is = by (segments.covers p.offset (length p.bytes) place) refl (has-piece pieces place flown distinct.1)
  where
    later : HasPiece pieces place flown → (b : Bool) → nat_eq p.xid flown.xid ≡ b → HasPiece (p ∷ pieces) place flown
    later h true same =
        let none : piece_under flown.xid pieces ≡ None = subst (λ x. piece_under x pieces ≡ None) (eqb-true p.xid flown.xid same) distinct.0 in
        let k : None ≡ Some h.piece = sym none ∙ h.under in
        absurd cc
    later h false apart = record { piece = h.piece; under = rw apart h.under; inside = h.inside; from = h.from }

    by : (b : Bool) → segments.covers p.offset (length p.bytes) place ≡ b → (fly_in pieces place ≡ Some flown → HasPiece pieces place flown) → HasPiece (p ∷ pieces) place flown
    by true h more =
        let here : flown_in p place ≡ Some flown = (rw h at is) in
        let from : IsFrom p place flown = flown-from p place flown here in
        let own : nat_eq p.xid flown.xid ≡ true = eq-eqb p.xid flown.xid (sym from.xid) in
        record { piece = p; under = rw own refl; inside = h; from = from }
    by false h more = later (more (rw h at is)) (nat_eq p.xid flown.xid) refl

-- where none is under an xid, nothing is in flight under it; and else only where its piece is
pub not-under : (pieces : List Sent) (xid place : ℕ) (flown : Flown) → AreDistinct pieces → piece_under xid pieces ≡ None → fly_in pieces place ≡ Some flown → flown.xid ≢ xid
not-under pieces xid place flown distinct none is same =
    let has : HasPiece pieces place flown = has-piece pieces place flown distinct is in
    let k : None ≡ Some has.piece = sym none ∙ ap (λ x. piece_under x pieces) (sym same) ∙ has.under in
    absurd cc

pub not-there : (pieces : List Sent) (xid place : ℕ) (piece : Sent) (flown : Flown) → AreDistinct pieces → piece_under xid pieces ≡ Some piece
    → segments.covers piece.offset (length piece.bytes) place ≡ false → fly_in pieces place ≡ Some flown → flown.xid ≢ xid
not-there pieces xid place piece flown distinct found out is same =
    let has : HasPiece pieces place flown = has-piece pieces place flown distinct is in
    let k : Some piece ≡ Some has.piece = sym found ∙ ap (λ x. piece_under x pieces) (sym same) ∙ has.under in
    let one : piece ≡ has.piece = cc in
    let wrong : true ≡ false = sym has.inside ∙ ap (λ (z : Sent). segments.covers z.offset (length z.bytes) place) (sym one) ∙ out in
    absurd cc
