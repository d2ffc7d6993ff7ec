-- For callers: the least number that is pending stands at a place of the file that is told.
use Rattle.std.proofs.Common.{◌≡◌, ◌<◌, ◌≤◌, ℕ, ◌+◌, ◌-◌, ◌&&◌, Bool, true, false, List, [], ◌∷◌, ◌++◌, length, Option, Some, None, refl, sym, ap, ◌∙◌, ◌⊎◌, inl, inr, arith}
use Rattle.std.specs.Prelude.{Contains, nat_le, nat_lt, option_map, if◌then◌else◌, slice_index}
use Rattle.std.specs.List.{sum_by}
use Rattle.std.proofs.lemmas.Bool.{lt-ltb, le-ltb, ltb-true, leb-true, and_parts}
use Rattle.std.proofs.lemmas.List.Elements.{Contains-append_cases}
use Rattle.std.proofs.lemmas.List.Sums.{sum_by-cons}
use Rattle.write_back.specs.declared.sent.Part.{Part}
use Rattle.write_back.specs.Segments.{Segments, AreApart, Cell, covers, cell_in, cell_at, end_of}
use Rattle.write_back.specs.Pieces.{Sent, FilePending, Flown, part_at, flown_in, fly_in, fly_at, rest_of, rest_at, end_of_sent}
use Rattle.write_back.specs.Files.{Pending, of_file, numbers_of, TellsOldest}
use Rattle.write_back.specs.Places.{Stands, cell_flown}
use Rattle.write_back.specs.Sound.{IsSound, AreSent, HaveSizes, IsOver}
use Rattle.write_back.specs.Waits.{AreSound}
use Rattle.write_back.proofs.ByPlace.{covered}
use Rattle.write_back.proofs.Flying.{fly-none}
use Rattle.write_back.proofs.WritesTold.{none-in, cases-in, numbers_written, numbers_parted, numbers_flying}

-- where a byte of a write begins among segments
record InSegments (n low : ℕ) (es : Segments) : Type 0 where
  place : ℕ
  after : low ≤ place
  cell : Cell
  there : cell_at es place ≡ Some cell
  is : cell.number ≡ n

in-segments : (n low : ℕ) (es : Segments) → AreApart low es → Contains (numbers_written es) n → InSegments n low es
in-segments n low [] apart c = absurd (none-in n c)
in-segments n low (e ∷ es) apart c = by (cases-in e.1.number (numbers_written es) n c) (in-segments n (end_of e) es apart.3)
  where
    none : (b : Bool) → (b && false) ≡ false
    none true = refl
    none false = refl

    past : (at size place : ℕ) → at + size ≤ place → covers at size place ≡ false
    past at size place le = let off : nat_lt place (at + size) ≡ false = le-ltb place (at + size) le in rw off (none (nat_le at place))

    by : (e.1.number ≡ n) ⊎ Contains (numbers_written es) n → (Contains (numbers_written es) n → InSegments n (end_of e) es) → InSegments n low (e ∷ es)
    by (inl is) more =
        let on : covers e.0 (length e.1.bytes) e.0 ≡ true = covered e.0 (length e.1.bytes) e.0 (omega arith) (omega (arith, apart.1)) in
        record { place = e.0; after = apart.0; cell = cell_in e e.0; there = rw on refl; is = is }
    by (inr d) more =
        let f = more d in
        let off : covers e.0 (length e.1.bytes) f.place ≡ false = past e.0 (length e.1.bytes) f.place f.after in
        record { place = f.place; after = omega (arith, apart.0, f.after); cell = f.cell; there = rw off f.there; is = f.is }

-- which byte of a piece has the number of a part
record InParts (n : ℕ) (parts : List Part) : Type 0 where
  index : ℕ
  below : index < sum_by (λ (part : Part). part.size) parts
  part : Part
  there : part_at parts index ≡ Some part
  is : part.number ≡ n

in-parts : (n : ℕ) (parts : List Part) → HaveSizes parts → Contains (numbers_parted parts) n → InParts n parts
in-parts n [] sizes c = absurd (none-in n c)
in-parts n (p ∷ parts) sizes c = by (cases-in p.number (numbers_parted parts) n c) (in-parts n parts sizes.1)
  where
    total : sum_by (λ (part : Part). part.size) (p ∷ parts) ≡ p.size + sum_by (λ (part : Part). part.size) parts
    total = sum_by-cons (λ (part : Part). part.size) p parts

    by : (p.number ≡ n) ⊎ Contains (numbers_parted parts) n → (Contains (numbers_parted parts) n → InParts n parts) → InParts n (p ∷ parts)
    by (inl is) more =
        let on : nat_lt 0 p.size ≡ true = lt-ltb 0 p.size sizes.0 in
        record { index = 0; below = omega (arith, total, sizes.0); part = p; there = rw on refl; is = is }
    by (inr d) more =
        let f = more d in
        let off : nat_lt (p.size + f.index) p.size ≡ false = le-ltb (p.size + f.index) p.size (omega arith) in
        let back : p.size + f.index - p.size ≡ f.index = omega arith in
        record { index = p.size + f.index; below = omega (arith, total, f.below); part = f.part; there = rw (off, back) f.there; is = f.is }

-- where a byte of a write is in flight
record InPieces (n : ℕ) (pieces : List Sent) : Type 0 where
  place : ℕ
  flown : Flown
  there : fly_in pieces place ≡ Some flown
  is : flown.number ≡ n

in-pieces : (n : ℕ) (pieces : List Sent) → AreSent pieces → Contains (numbers_flying pieces) n → InPieces n pieces
in-pieces n [] sent c = absurd (none-in n c)
in-pieces n (p ∷ pieces) sent c = by (Contains-append_cases (numbers_parted p.parts) (numbers_flying pieces) n c) (in-pieces n pieces sent.2)
  where
    here : InParts n p.parts → InPieces n (p ∷ pieces)
    here f =
        let on : covers p.offset (length p.bytes) (p.offset + f.index) ≡ true = covered p.offset (length p.bytes) (p.offset + f.index) (omega arith) (omega (arith, f.below, sent.0.parts)) in
        let back : p.offset + f.index - p.offset ≡ f.index = omega arith in
        record {
          place = p.offset + f.index;
          flown = record { byte = slice_index p.bytes f.index; number = f.part.number; xid = p.xid; before = f.part.before };
          there = rw (on, back, f.there) refl;
          is = f.is;
        }

    some : {flown : Flown} → None ≡ Some flown → ⊥
    some e = absurd cc

    later : (f : InPieces n pieces) (b : Bool) → covers p.offset (length p.bytes) f.place ≡ b → InPieces n (p ∷ pieces)
    later f true on =
        let both = and_parts (nat_le p.offset f.place) (nat_lt f.place (p.offset + length p.bytes)) on in
        let none : fly_in pieces f.place ≡ None = fly-none pieces p.offset (end_of_sent p) f.place sent.1 (leb-true p.offset f.place both.0) (ltb-true f.place (p.offset + length p.bytes) both.1) in
        absurd (some (sym none ∙ f.there))
    later f false off = record { place = f.place; flown = f.flown; there = rw off f.there; is = f.is }

    by : Contains (numbers_parted p.parts) n ⊎ Contains (numbers_flying pieces) n → (Contains (numbers_flying pieces) n → InPieces n pieces) → InPieces n (p ∷ pieces)
    by (inl d) more = here (in-parts n p.parts sent.0.sizes d)
    by (inr d) more = let f = more d in later f (covers p.offset (length p.bytes) f.place) refl

-- each number that is pending of a file stands at a place of it
pub number-stands : (n : ℕ) (of : FilePending) → IsSound of → Contains (numbers_of of) n → (place : ℕ) × Stands of n place
number-stands n of sound c = by (Contains-append_cases (numbers_written of.segments) (numbers_flying of.pieces) n c)
  where
    seen : (f : InSegments n 0 of.segments) (fly : Option Flown) → fly_at of f.place ≡ fly → IsOver fly (Some f.cell) → Stands of n f.place
    seen f None none rests = inl (f.cell, ap rest_of f.there ∙ rw rests refl, f.is)
    seen f (Some flown) there (inl same) = inr (flown, there, sym (ap (λ (c : Cell). c.number) same) ∙ f.is)
    seen f (Some flown) there (inr newer) = inl (f.cell, ap rest_of f.there ∙ rw newer.0 refl, f.is)

    by : Contains (numbers_written of.segments) n ⊎ Contains (numbers_flying of.pieces) n → (place : ℕ) × Stands of n place
    by (inl d) =
        let f = in-segments n 0 of.segments sound.apart d in
        (f.place, seen f (fly_at of f.place) refl (rw (← f.there) (sound.over f.place)))
    by (inr d) = let f = in-pieces n of.pieces sound.sent d in (f.place, inr (f.flown, f.there, f.is))

-- so does the least, in the file that is told
pub oldest-stands : (p : Pending) (file : List ℕ) → AreSound p → (tells : TellsOldest p (Some file)) → (place : ℕ) × Stands (of_file file p) tells.number place
oldest-stands p file sound tells = number-stands tells.number (of_file file p) (sound.files file) tells.there
