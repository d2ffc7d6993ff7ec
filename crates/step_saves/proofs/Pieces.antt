-- Pieces that are taken out, get another xid or come in: how many there are, and that each is of lost bytes.
use Rattle.std.proofs.Common.{◌≡◌, ◌+◌, ◌-◌, ℕ, Bool, true, false, List, [], ◌∷◌, ◌++◌, length, Option, Some, None, refl, sym, ap, subst, ◌∙◌, arith}
use Rattle.std.specs.Prelude.{nat_eq}
use Rattle.std.specs.Option.{option_map}
use Rattle.write_back.specs.declared.sent.Part.{Part}
use Rattle.write_back.specs.declared.state.Ready.TheVariants.{Again}
use Rattle.write_back.specs.Pieces.{Sent, Flown, part_at, flown_in, fly_in, piece_under, without, renumbered}
use Rattle.write_back.specs.Segments.{covers}
use Rattle.write_back.proofs.Sending.{flown_as}
use Rattle.step_saves.specs.Saves.{IsAgain, AreAgain}

pub none-of : (pieces : List Sent) → length pieces ≡ 0 → pieces ≡ []
none-of [] is = refl
none-of (p ∷ pieces) is = absurd (omega (arith, is))

pub length-without : (xid : ℕ) (pieces : List Sent) (piece : Sent) → piece_under xid pieces ≡ Some piece → length (without xid pieces) + 1 ≡ length pieces
length-without xid [] piece found = absurd cc
length-without xid (p ∷ pieces) piece found = by (nat_eq p.xid xid) refl (length-without xid pieces piece)
  where
    by : (b : Bool) → nat_eq p.xid xid ≡ b → (piece_under xid pieces ≡ Some piece → length (without xid pieces) + 1 ≡ length pieces) → length (without xid (p ∷ pieces)) + 1 ≡ length (p ∷ pieces)
    by true h more = rw h (omega arith)
    by false h more = let less : length (without xid pieces) + 1 ≡ length pieces = more (rw h at found) in rw h (omega (arith, less))

pub length-renumbered : (xid to : ℕ) (pieces : List Sent) → length (renumbered xid to pieces) ≡ length pieces
length-renumbered xid to [] = refl
length-renumbered xid to (p ∷ pieces) = by (nat_eq p.xid xid) refl (length-renumbered xid to pieces)
  where
    by : (b : Bool) → nat_eq p.xid xid ≡ b → length (renumbered xid to pieces) ≡ length pieces → length (renumbered xid to (p ∷ pieces)) ≡ length (p ∷ pieces)
    by true h more = rw h (omega arith)
    by false h more = rw h (omega (arith, more))

pub again-without : (xid : ℕ) (pieces : List Sent) → AreAgain pieces → AreAgain (without xid pieces)
again-without xid [] all = tt
again-without xid (p ∷ pieces) all = by (nat_eq p.xid xid) refl (again-without xid pieces all.1)
  where
    by : (b : Bool) → nat_eq p.xid xid ≡ b → AreAgain (without xid pieces) → AreAgain (without xid (p ∷ pieces))
    by true h more = rw h all.1
    by false h more = rw h (all.0, more)

abbrev under_xid : ℕ → Sent → Sent
under_xid to p = record { xid = to; offset = p.offset; how = p.how; bytes = p.bytes; parts = p.parts }

-- under another xid it has the same bytes from before
again-xid : (to : ℕ) (p : Sent) → IsAgain p → IsAgain (under_xid to p)
again-xid to p again = record { how = again.how; lost = λ place flown inside is. lost place flown inside is }
  where
    lost : (place : ℕ) (flown : Flown) → covers p.offset (length p.bytes) place ≡ true → flown_in (under_xid to p) place ≡ Some flown → flown.before ≡ Again
    lost place flown inside is = by (part_at p.parts (place - p.offset)) refl
      where
        by : (o : Option Part) → part_at p.parts (place - p.offset) ≡ o → flown.before ≡ Again
        by None h = let k : None ≡ Some flown = sym (ap (option_map (flown_as (under_xid to p) place)) h) ∙ is in absurd cc
        by (Some part) h =
            let k : Some (flown_as (under_xid to p) place part) ≡ Some flown = sym (ap (option_map (flown_as (under_xid to p) place)) h) ∙ is in
            let same : flown_as (under_xid to p) place part ≡ flown = cc in
            sym (ap (λ (z : Flown). z.before) same) ∙ again.lost place (flown_as p place part) inside (ap (option_map (flown_as p place)) h)

pub again-renumbered : (xid to : ℕ) (pieces : List Sent) → AreAgain pieces → AreAgain (renumbered xid to pieces)
again-renumbered xid to [] all = tt
again-renumbered xid to (p ∷ pieces) all = by (nat_eq p.xid xid) refl (again-renumbered xid to pieces all.1)
  where
    by : (b : Bool) → nat_eq p.xid xid ≡ b → AreAgain (renumbered xid to pieces) → AreAgain (renumbered xid to (p ∷ pieces))
    by true h more = rw h (again-xid to p all.0, all.1)
    by false h more = rw h (all.0, more)

pub again-append : (pieces : List Sent) (piece : Sent) → AreAgain pieces → IsAgain piece → AreAgain (pieces ++ piece ∷ [])
again-append [] piece all one = (one, tt)
again-append (p ∷ pieces) piece all one = (all.0, again-append pieces piece all.1 one)

pub again-under : (xid : ℕ) (pieces : List Sent) (piece : Sent) → AreAgain pieces → piece_under xid pieces ≡ Some piece → IsAgain piece
again-under xid [] piece all found = absurd cc
again-under xid (p ∷ pieces) piece all found = by (nat_eq p.xid xid) refl (again-under xid pieces piece all.1)
  where
    by : (b : Bool) → nat_eq p.xid xid ≡ b → (piece_under xid pieces ≡ Some piece → IsAgain piece) → IsAgain piece
    by true h more = let same : p ≡ piece = (let k : Some p ≡ Some piece = (rw h at found) in cc) in subst IsAgain same all.0
    by false h more = more (rw h at found)

-- what flies was lost before
pub again-flown : (pieces : List Sent) (place : ℕ) (flown : Flown) → AreAgain pieces → fly_in pieces place ≡ Some flown → flown.before ≡ Again
again-flown [] place flown all is = absurd cc
again-flown (p ∷ pieces) place flown all is = by (covers p.offset (length p.bytes) place) refl (again-flown pieces place flown all.1)
  where
    by : (b : Bool) → covers p.offset (length p.bytes) place ≡ b → (fly_in pieces place ≡ Some flown → flown.before ≡ Again) → flown.before ≡ Again
    by true h more = all.0.lost place flown h (rw h at is)
    by false h more = more (rw h at is)
