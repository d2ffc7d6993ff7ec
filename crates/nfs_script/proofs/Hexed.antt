-- Hex digits that are written piece by piece.
use Rattle.std.proofs.Common.{◌≡◌, ◌<◌, ◌≤◌, ℕ, ◌+◌, ◌*◌, ◌/◌, ◌%◌, List, [], ◌∷◌, ◌++◌, length, take, drop, codes, slice_index, refl, sym, ap, ◌∙◌, append_assoc, arith}
use Rattle.std.proofs.lemmas.List.{append-nil, take-append-drop, take-take, drop-take}
use Rattle.std.proofs.lemmas.Simd.{length-chunk, take_more_put_chunk}
use Rattle.std.specs.Simd.Lanes.{chunk, put_chunk}
use Rattle.hex.specs.Hex.{encode_lower, encode_with, lower_digits}
use Rattle.world_model.specs.Transcript.{spaced}

encode-append : (table a b : List ℕ) → encode_with table (a ++ b) ≡ encode_with table a ++ encode_with table b
unfolding encode_with
encode-append table [] b = refl
encode-append table (x ∷ a) b = ap (λ (k : List ℕ). slice_index table (x / 16) ∷ slice_index table (x % 16) ∷ k) (encode-append table a b)

pub hex_step : (old now next bytes left : List ℕ) (n : ℕ) → now ++ encode_lower left ≡ old ++ encode_lower bytes → next ≡ now ++ encode_lower (take n left)
    → next ++ encode_lower (drop n left) ≡ old ++ encode_lower bytes
hex_step old now next bytes left n h e =
    let joined : encode_lower (take n left) ++ encode_lower (drop n left) ≡ encode_lower left = sym (encode-append lower_digits (take n left) (drop n left)) ∙ ap encode_lower (take-append-drop n left) in
    ap (λ (k : List ℕ). k ++ encode_lower (drop n left)) e ∙ append_assoc now (encode_lower (take n left)) (encode_lower (drop n left)) ∙ ap (λ (k : List ℕ). now ++ k) joined ∙ h

pub hex_end : (old now bytes left : List ℕ) → length left ≡ 0 → now ++ encode_lower left ≡ old ++ encode_lower bytes → now ≡ old ++ encode_lower bytes
unfolding encode_with
hex_end old now bytes [] e h = sym (append-nil now) ∙ h
hex_end old now bytes (x ∷ left) e h = cc e

-- where there are bytes, there are digits
pub spaced_hex : (bytes : List ℕ) → 0 < length bytes → spaced (encode_lower bytes) ≡ codes " " ++ encode_lower bytes
unfolding encode_with
spaced_hex [] h = absurd (omega arith)
spaced_hex (x ∷ bytes) h = refl

pub hex_none : (old bytes : List ℕ) → length bytes ≡ 0 → old ≡ old ++ spaced (encode_lower bytes)
unfolding encode_with
hex_none old [] h = sym (append-nil old)
hex_none old (x ∷ bytes) h = cc h

-- the digits of the first bytes, and then those of the rest
pub begun_all : (bytes digits : List ℕ) (at : ℕ) → take (2 * at) digits ≡ encode_lower (take at bytes) → take (2 * at) digits ++ encode_lower (drop at bytes) ≡ encode_lower bytes
begun_all bytes digits at h =
    ap (λ (k : List ℕ). k ++ encode_lower (drop at bytes)) h ∙ sym (encode-append lower_digits (take at bytes) (drop at bytes)) ∙ ap encode_lower (take-append-drop at bytes)

take-add : (n m : ℕ) (bytes : List ℕ) → take n bytes ++ take m (drop n bytes) ≡ take (n + m) bytes
take-add n m bytes =
    ap (λ (k : List ℕ). k ++ take m (drop n bytes)) (sym (take-take n (n + m) bytes (omega arith)))
    ∙ ap (λ (k : List ℕ). take n (take (n + m) bytes) ++ k) (sym (drop-take n m bytes)) ∙ take-append-drop n (take (n + m) bytes)

length-encode : (table bytes : List ℕ) → length (encode_with table bytes) ≡ 2 * length bytes
unfolding encode_with
length-encode table [] = refl
length-encode table (x ∷ bytes) = let rest = length-encode table bytes in omega (arith, rest)

-- a vector of digits is written behind those of the bytes before
pub begun_half : (bytes digits block : List ℕ) (at : ℕ) → at + 8 ≤ length bytes → length digits ≡ 2 * length bytes
    → take (2 * at) digits ≡ encode_lower (take at bytes) → block ≡ encode_lower (chunk at 8 bytes)
    → take (2 * (at + 8)) (put_chunk (2 * at) digits block) ≡ encode_lower (take (at + 8) bytes)
begun_half bytes digits block at fits room begun is =
    let long : length block ≡ 16 = ap length is ∙ length-encode lower_digits (chunk at 8 bytes) ∙ ap (λ (n : ℕ). 2 * n) (length-chunk at 8 bytes fits) in
    let more = take_more_put_chunk (2 * at) digits block (2 * (at + 8)) (omega (arith, long)) (omega arith) in
    more ∙ ap (λ (k : List ℕ). k ++ block) begun ∙ ap (λ (k : List ℕ). encode_lower (take at bytes) ++ k) is
    ∙ sym (encode-append lower_digits (take at bytes) (chunk at 8 bytes)) ∙ ap encode_lower (take-add at 8 bytes)

pub begun_none : (bytes digits : List ℕ) → take (2 * (64 * 0)) digits ≡ encode_lower (take (64 * 0) bytes)
unfolding encode_with
begun_none bytes digits = refl

-- up to a place that is told in two ways
pub begun_to : (bytes digits : List ℕ) (at to : ℕ) → at ≡ to → take (2 * at) digits ≡ encode_lower (take at bytes) → take (2 * to) digits ≡ encode_lower (take to bytes)
begun_to bytes digits at to e h = rw e at h
