-- A write whose bytes are all that follows its second word.
use Rattle.std.proofs.Common.{◌≡◌, ◌*◌, ℕ, suc, List, [], ◌∷◌, length, Bool, true, false, not, Option, Some, None, Result, Ok, Err, refl, sym, ap, ◌∙◌, arith, if◌then◌else◌}
use Rattle.std.specs.List.{slice_split, AllPass}
use Rattle.std.proofs.lemmas.List.Elements.{All-head, All-tail}
use Rattle.hex.specs.Hex.{decode_of, is_hex_digit}
use Rattle.hex.specs.declared.error.FromHexError.{FromHexError}
use Rattle.hex.proofs.HexLemmas.{decode_of-ok}
use Rattle.script_text.specs.Lines.{words, is_blank}
use Rattle.script_text.specs.Payloads.{payload_of, some_bytes}
use Rattle.nfs_script.specs.Commands.{write_of, write_at}

-- a hex digit is no blank
no_blank : (b : ℕ) → is_hex_digit b ≡ true → is_blank b ≡ false
no_blank b h = grind (arith, h)

one_piece : (hex : List ℕ) → AllPass is_hex_digit hex → slice_split is_blank hex ≡ hex ∷ []
one_piece [] all = refl
one_piece (b ∷ hex) all =
    rw (no_blank b (All-head (λ c. is_hex_digit c ≡ true) b hex all), one_piece hex (All-tail (λ c. is_hex_digit c ≡ true) b hex all)) refl

-- hex digits are one word
one_word : (hex : List ℕ) → AllPass is_hex_digit hex → (length hex ≡ 0 → ⊥) → words hex ≡ hex ∷ []
unfolding words
one_word [] all some = absurd (some refl)
one_word (b ∷ hex) all some = rw (one_piece (b ∷ hex) all) refl

-- what is a payload as a whole is one word
payload_word : (hex bytes : List ℕ) → payload_of hex ≡ Some bytes → words hex ≡ hex ∷ []
payload_word hex bytes h = go (decode_of hex) refl h
  where
    half : (digits bytes : ℕ) → digits ≡ 2 * bytes → digits ≡ 0 → bytes ≡ 0
    half digits bytes e z = omega (arith, e, z)

    none : (bytes : List ℕ) → length bytes ≡ 0 → some_bytes (Ok bytes) ≡ None
    none [] e = refl
    none (b ∷ bytes) e = absurd (omega (arith, e))

    go : (r : Result (List ℕ) FromHexError) → decode_of hex ≡ r → some_bytes r ≡ Some bytes → words hex ≡ hex ∷ []
    go (Err e) d k = absurd cc
    go (Ok others) d k =
        let ok = decode_of-ok hex others d in
        one_word hex ok.1 (λ z. let gone = none others (half (length hex) (length others) ok.2 z) in absurd cc)

-- what follows the second word is a payload
pub sole : (ws : List (List ℕ)) (slot offset hex bytes : List ℕ) → ws ≡ slot ∷ offset ∷ words hex → Some bytes ≡ payload_of hex
    → write_of ws ≡ write_at slot offset bytes
unfolding write_of
sole ws slot offset hex bytes e p = rw (e, payload_word hex bytes (sym p), sym p) refl
