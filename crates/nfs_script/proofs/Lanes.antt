-- Both digits of eight bytes at once, lane by lane.
use Rattle.std.proofs.Common.{◌≡◌, ℕ, zero, suc, ◌+◌, ◌*◌, ◌/◌, ◌%◌, ◌^◌, ◌<◌, replicate, List, [], ◌∷◌, map, length, slice_index, refl, sym, ap, ◌∙◌, arith, w8, Fits, get_or}
use Rattle.std.proofs.lemmas.List.{get_or-map, length-map, ext_get_or}
use Rattle.std.proofs.lemmas.Simd.{Each1-get_or, below_from_Fits, swz_l, SwzOk, SwzOk-from_below, length-swz_l, get_or-swz_l_below, zip2_of_maps, splat_is_map}
use Rattle.std.specs.List.{flat_map}
use Rattle.std.specs.Simd.Lanes.{Each1, zip2, number_l, digits_l}
use Rattle.hex.specs.Hex.{encode_with}

-- the numbers of a byte's two digits
abbrev pub pair : ℕ → List ℕ
pair byte = (byte / 16) ∷ (byte % 16) ∷ []

-- a byte in a lane of sixteen bits becomes them
abbrev pub lane : ℕ → ℕ
lane byte = byte * 4097 % 65536 / 16

lane_is : (byte : ℕ) → byte < 256 → lane byte ≡ byte / 16 + 256 * (byte % 16)
lane_is byte h = omega arith

abbrev pub twice : ℕ → ℕ
twice zero = zero
twice (suc n) = suc (suc (twice n))

numbers_in : (n : ℕ) (bytes : List ℕ) → length bytes ≡ n → Each1 (λ byte. byte < 256) bytes → digits_l 256 (twice n) (number_l 65536 (map lane bytes)) ≡ flat_map pair bytes
numbers_in zero [] e h = refl
numbers_in zero (byte ∷ bytes) e h = absurd (omega (arith, e))
numbers_in (suc n) [] e h = absurd (omega (arith, e))
numbers_in (suc n) (byte ∷ bytes) e h =
    let more = number_l 65536 (map lane bytes) in
    let all = lane byte + 65536 * more in
    let is = lane_is byte h.0 in
    let first : all % 256 ≡ byte / 16 = omega (arith, is, h.0) in
    let second : all / 256 % 256 ≡ byte % 16 = omega (arith, is, h.0) in
    let rest : all / 256 / 256 ≡ more = omega (arith, is, h.0) in
    ap (λ (k : ℕ). k ∷ (all / 256 % 256) ∷ digits_l 256 (twice n) (all / 256 / 256)) first
    ∙ ap (λ (k : ℕ). (byte / 16) ∷ k ∷ digits_l 256 (twice n) (all / 256 / 256)) second
    ∙ ap (λ (k : ℕ). (byte / 16) ∷ (byte % 16) ∷ digits_l 256 (twice n) k) rest
    ∙ ap (λ (l : List ℕ). (byte / 16) ∷ (byte % 16) ∷ l) (numbers_in n bytes (omega (arith, e)) h.1)

-- eight lanes of bytes
abbrev pub AreBytes : List ℕ → Type 0
AreBytes v = (length v ≡ 8) × Each1 (Fits w8) v

-- what the operators of sixteen bits give
abbrev pub times : ℕ → ℕ → ℕ
times a b = a * b % 65536

abbrev pub down : ℕ → ℕ → ℕ
down a b = a / 2 ^ b

-- lane by lane
pub lanes_are : (v : List ℕ) → length v ≡ 8 → zip2 down (zip2 times (map (λ byte. byte) v) (replicate 8 4097)) (replicate 8 4) ≡ map lane v
lanes_are v long = zip2_of_maps down (λ byte. times byte 4097) (λ _. 4) v (zip2_of_maps times (λ byte. byte) (λ _. 4097) v refl (splat_is_map v 8 4097 long)) (splat_is_map v 8 4 long)

-- the numbers that eight lanes have
pub numbers : (v : List ℕ) → AreBytes v → digits_l 256 16 (number_l 65536 (map lane v)) ≡ flat_map pair v
numbers v fits = numbers_in 8 v fits.0 (below_from_Fits w8 v fits.1)

-- there are two for each byte, below sixteen
length-pairs : (v : List ℕ) → length (flat_map pair v) ≡ 2 * length v
length-pairs [] = refl
length-pairs (byte ∷ v) = let rest = length-pairs v in omega (arith, rest)

small : (v : List ℕ) → Each1 (λ byte. byte < 256) v → Each1 (λ k. k < 16) (flat_map pair v)
small [] h = tt
small (byte ∷ v) h = (omega (arith, h.0), (omega arith, small v h.1))

pub numbers_ok : (v : List ℕ) → AreBytes v → SwzOk w8 16 16 0 (flat_map pair v)
numbers_ok v fits = SwzOk-from_below w8 16 1 16 0 (flat_map pair v) refl (omega (arith, length-pairs v, fits.0)) (small v (below_from_Fits w8 v fits.1))

-- what is found at each
looked_up : (table js : List ℕ) → length js ≡ 16 → Each1 (λ k. k < 16) js → swz_l w8 16 table 0 js ≡ map (λ k. slice_index table k) js
looked_up table js long below =
    ext_get_or 0 _ _ (length-swz_l w8 16 table 0 js ∙ sym (length-map js (λ k. slice_index table k))) (λ i h.
    let within : i < length js = omega (arith, length-swz_l w8 16 table 0 js) in
    let low : get_or js i 0 < 16 = Each1-get_or (λ k. k < 16) js i 0 within below in
    let place : 16 * ((0 + i) / 16) + get_or js i 0 ≡ get_or js i 0 = omega (arith, long, within) in
    get_or-swz_l_below w8 16 table 0 js i within low ∙ ap (λ (k : ℕ). get_or table k 0) place
    ∙ sym (get_or-map (λ k. slice_index table k) js i 0 0 within))

digits_in : (table v : List ℕ) → map (λ k. slice_index table k) (flat_map pair v) ≡ encode_with table v
unfolding encode_with
digits_in table [] = refl
digits_in table (byte ∷ v) = ap (λ (l : List ℕ). slice_index table (byte / 16) ∷ slice_index table (byte % 16) ∷ l) (digits_in table v)

pub numbers_found : (table v : List ℕ) → AreBytes v → swz_l w8 16 table 0 (flat_map pair v) ≡ encode_with table v
numbers_found table v fits =
    looked_up table (flat_map pair v) (omega (arith, length-pairs v, fits.0)) (small v (below_from_Fits w8 v fits.1)) ∙ digits_in table v
