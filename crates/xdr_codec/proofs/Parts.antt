-- Parts of bytes, and parts of parts.
use Rattle.std.proofs.Common.{◌≡◌, ◌≤◌, ◌+◌, ◌-◌, ℕ, List, length, take, drop, sym, ap, ◌∙◌, arith}
use Rattle.std.proofs.lemmas.List.{take-take, drop-take, drop-drop, length-take-le, length-drop}
use Rattle.xdr_codec.specs.Blobs.{part_of, StandAt}

-- a part of a part is a part of all
pub part_of_part : (all : List ℕ) (place size from len : ℕ) → from + len ≤ size → part_of from len (part_of place size all) ≡ part_of (place + from) len all
part_of_part all place size from len fits =
    let split : size ≡ from + (size - from) = omega (arith, fits) in
    ap (λ (n : ℕ). take len (drop from (take n (drop place all)))) split
    ∙ ap (take len) (drop-take from (size - from) (drop place all))
    ∙ take-take len (size - from) (drop from (drop place all)) (omega (arith, fits))
    ∙ ap (take len) (drop-drop from place all)

-- a part has as many bytes as are asked for, if they are there
pub length-part_of : (all : List ℕ) (from len : ℕ) → from + len ≤ length all → length (part_of from len all) ≡ len
length-part_of all from len fits =
    let left = length-drop from all in
    length-take-le len (drop from all) (omega (arith, left, fits))

-- a part stands where it was taken
pub part_stands : (all : List ℕ) (from len : ℕ) → from + len ≤ length all → StandAt from (part_of from len all) all
part_stands all from len fits =
    let long = length-part_of all from len fits in
    record { within = omega (arith, long, fits); is = ap (λ (n : ℕ). part_of from n all) (sym long) }

-- a part of bytes that stand in others is a part of these
pub part_of_stands : (all bytes : List ℕ) (place from len : ℕ) → StandAt place bytes all → from + len ≤ length bytes → part_of from len bytes ≡ part_of (place + from) len all
part_of_stands all bytes place from len stands fits = ap (part_of from len) stands.is ∙ part_of_part all place (length bytes) from len fits
