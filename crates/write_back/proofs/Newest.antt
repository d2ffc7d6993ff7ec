-- A number above all that are pending is above those in flight.
use Rattle.std.proofs.Common.{◌≡◌, ℕ, ◌-◌, Bool, true, false, List, [], ◌∷◌, ◌++◌, length, map, Option, Some, None, refl, sym, ap, ◌∙◌, subst}
use Rattle.std.specs.Prelude.{Contains, nat_lt}
use Rattle.std.specs.Option.{option_map}
use Rattle.std.specs.List.{concat}
use Rattle.std.proofs.lemmas.List.Elements.{Contains-append_left, Contains-append_right, Contains-push}
use Rattle.write_back.specs.declared.sent.Part.{Part}
use Rattle.write_back.specs.Segments.{covers}
use Rattle.write_back.specs.Pieces.{Sent, Flown, part_at, flown_in, fly_in}
use Rattle.write_back.specs.Files.{Pending, of_file, IsNewest}
use Rattle.write_back.specs.Sound.{IsAbove}
use Rattle.write_back.proofs.Sending.{flown_as}

first-in : (n : ℕ) (ns : List ℕ) → Contains (n ∷ ns) n
first-in n ns = Contains-append_left (n ∷ []) ns n (Contains-push [] n)

part-in : (parts : List Part) (n : ℕ) (part : Part) → part_at parts n ≡ Some part → Contains (map (λ (part : Part). part.number) parts) part.number
part-in [] n part is = absurd cc
part-in (p ∷ parts) n part is = by (nat_lt n p.size) refl (part-in parts (n - p.size) part)
  where
    by : (b : Bool) → nat_lt n p.size ≡ b → (part_at parts (n - p.size) ≡ Some part → Contains (map (λ (part : Part). part.number) parts) part.number) → Contains (p.number ∷ map (λ (part : Part). part.number) parts) part.number
    by true h more = let same : p ≡ part = (let k : Some p ≡ Some part = (rw h at is) in cc) in subst (λ (z : Part). Contains (p.number ∷ map (λ (part : Part). part.number) parts) z.number) same (first-in p.number (map (λ (part : Part). part.number) parts))
    by false h more = let k : part_at parts (n - p.size) ≡ Some part = (rw h at is) in Contains-append_right (p.number ∷ []) (map (λ (part : Part). part.number) parts) part.number (more k)

flown-in : (piece : Sent) (place : ℕ) (flown : Flown) (o : Option Part) → part_at piece.parts (place - piece.offset) ≡ o → flown_in piece place ≡ Some flown → Contains (map (λ (part : Part). part.number) piece.parts) flown.number
flown-in piece place flown None h is = let k : None ≡ Some flown = sym (ap (option_map (flown_as piece place)) h) ∙ is in absurd cc
flown-in piece place flown (Some part) h is =
    let k : Some (flown_as piece place part) ≡ Some flown = sym (ap (option_map (flown_as piece place)) h) ∙ is in
    let same : flown_as piece place part ≡ flown = cc in
    subst (λ (z : Flown). Contains (map (λ (part : Part). part.number) piece.parts) z.number) same (part-in piece.parts (place - piece.offset) part h)

abbrev numbers_flying : List Sent → List ℕ
numbers_flying pieces = concat (map (λ (piece : Sent). map (λ (part : Part). part.number) piece.parts) pieces)

fly-in : (pieces : List Sent) (place : ℕ) (flown : Flown) → fly_in pieces place ≡ Some flown → Contains (numbers_flying pieces) flown.number
fly-in [] place flown is = absurd cc
fly-in (p ∷ pieces) place flown is = by (covers p.offset (length p.bytes) place) refl (fly-in pieces place flown)
  where
    by : (b : Bool) → covers p.offset (length p.bytes) place ≡ b → (fly_in pieces place ≡ Some flown → Contains (numbers_flying pieces) flown.number) → Contains (map (λ (part : Part). part.number) p.parts ++ numbers_flying pieces) flown.number
    by true h more = let k : flown_in p place ≡ Some flown = (rw h at is) in Contains-append_left (map (λ (part : Part). part.number) p.parts) (numbers_flying pieces) flown.number (flown-in p place flown (part_at p.parts (place - p.offset)) refl k)
    by false h more = let k : fly_in pieces place ≡ Some flown = (rw h at is) in Contains-append_right (map (λ (part : Part). part.number) p.parts) (numbers_flying pieces) flown.number (more k)

pub newest-above : (number : ℕ) (file : List ℕ) (p : Pending) → IsNewest number p → IsAbove number (of_file file p)
newest-above number file p newest place flown is =
    newest file flown.number (Contains-append_right (map (λ e. e.1.number) (of_file file p).segments) (numbers_flying (of_file file p).pieces) flown.number (fly-in (of_file file p).pieces place flown is))
