-- Hex digits, and how many bytes they stand for.
use Rattle.std.proofs.Common.{◌≡◌, ◌<◌, ◌≤◌, ◌⊎◌, ℕ, ◌%◌, List, [], ◌∷◌, length, true, false, Some, None, Result, Ok, Err, refl, ◌∙◌, arith, inl, inr}
use Rattle.std.specs.Prelude.{MatchResult}
use Rattle.hex.specs.Hex.{decode_of, decode_sized}
use Rattle.hex.specs.declared.error.FromHexError.{FromHexError}
use Rattle.hex.proofs.HexLemmas.{decode_of-odd, decode_of-ok, decode_sized-twice}
use Rattle.script_text.specs.Digits.{Tells}
use Rattle.script_text.specs.Payloads.{payload_of, byte_of, some_bytes, only_byte, is_payload_length}

fits : (n : ℕ) → 1 ≤ n → n ≤ 65536 → is_payload_length n ≡ true
fits n low high = grind (arith, low, high)

exceeds : (n : ℕ) → (n ≡ 0) ⊎ (65536 < n) → is_payload_length n ≡ false
exceeds n h = grind (arith, h)

-- digits that decode, of a length in range
pub payload_from : (hex bytes : List ℕ) → decode_of hex ≡ Ok bytes → 1 ≤ length hex → length hex ≤ 131072 → Some bytes ≡ payload_of hex
payload_from hex bytes e low high =
    let twice = (decode_of-ok hex bytes e).2 in
    rw (e, fits (length bytes) (omega (arith, twice, low)) (omega (arith, twice, high))) refl

-- digits of another length
pub no_payload : (hex : List ℕ) → (length hex ≡ 0) ⊎ (131072 < length hex) → None ≡ payload_of hex
no_payload hex h = go (decode_of hex) refl
  where
    go : (r : Result (List ℕ) FromHexError) → decode_of hex ≡ r → None ≡ some_bytes r
    go (Err e) d = refl
    go (Ok bytes) d =
        let twice = (decode_of-ok hex bytes d).2 in
        let out : (length bytes ≡ 0) ⊎ (65536 < length bytes) = elim h [
          | inl none ↦ inl (omega (arith, twice, none))
          | inr long ↦ inr (omega (arith, twice, long))
        ] in
        rw (exceeds (length bytes) out) refl

-- digits that don't decode
pub bad_payload : (hex : List ℕ) (e : FromHexError) → decode_of hex ≡ Err e → None ≡ payload_of hex
bad_payload hex e d = rw d refl

-- an odd number of digits
pub odd_payload : (hex : List ℕ) → length hex % 2 ≡ 1 → None ≡ payload_of hex
odd_payload hex odd = bad_payload hex _ (decode_of-odd hex odd)

-- digits that were read, one of which is none
pub untold_payload : (hex bytes : List ℕ) → Tells hex false bytes → None ≡ payload_of hex
untold_payload hex bytes tells = go (decode_of hex) refl
  where
    go : (r : Result (List ℕ) FromHexError) → decode_of hex ≡ r → None ≡ some_bytes r
    go (Err e) d = refl
    go (Ok others) d = absurd (tells others d)

-- digits that were read
pub told_payload : (hex bytes : List ℕ) → Tells hex true bytes → 32 ≤ length hex → length hex ≤ 131072 → Some bytes ≡ payload_of hex
told_payload hex bytes tells low high = payload_from hex bytes tells (omega (arith, low)) high

-- what isn't decoded into room for one byte stands for no byte
pub no_byte : (hex out : List ℕ) (e : FromHexError) → MatchResult (decode_sized hex 1) (λ bytes. (◌≡◌ {A = Result (Unit {0}) FromHexError} (Err e) (Ok tt)) × (out ≡ bytes)) (λ x. ◌≡◌ {A = Result (Unit {0}) FromHexError} (Err e) (Err x)) → None ≡ byte_of hex
no_byte hex out e d = go (decode_of hex) refl
  where
    go : (r : Result (List ℕ) FromHexError) → decode_of hex ≡ r → None ≡ only_byte r
    go (Err x) h = refl
    go (Ok []) h = refl
    go (Ok (a ∷ b ∷ bytes)) h = refl
    go (Ok (b ∷ [])) h =
        let twice = (decode_of-ok hex (b ∷ []) h).2 in
        let sized : decode_sized hex 1 ≡ Ok (b ∷ []) = decode_sized-twice hex 1 twice ∙ h in
        let k = rw sized at d in
        absurd (cc k.0)
