-- Words that are written: numbers, hex digits, names and paths, each read back as what it writes.
use Rattle.std.proofs.Common.{◌≡◌, ◌<◌, ◌≤◌, ◌+◌, ◌*◌, ◌/◌, ◌%◌, ◌^◌, ℕ, zero, suc, List, [], ◌∷◌, ◌++◌, length, Bool, true, false, not, ◌&&◌, ◌==◌, nat_le, Option, Some, All, slice_index, refl, sym, ap, ◌∙◌, arith, rules, ◌||◌}
use Rattle.std.specs.Prelude.{codes, decimal, if◌then◌else◌, option_and_then}
use Rattle.std.specs.Char.{is_ascii_digit}
use Rattle.std.specs.List.{list_all, list_any, AllPass}
use Rattle.std.specs.Option.{option_map}
use Rattle.std.specs.Str.{bytes_eq}
use Rattle.std.specs.Str.Parse.{digits_value}
use Rattle.std.proofs.lemmas.Bool.{and_parts, leb-true, le-leb, ne_eqb}
use Rattle.std.proofs.lemmas.Fmt.{digits_decimal, digits_value-decimal, decimal_nonempty}
use Rattle.std.proofs.lemmas.List.Elements.{All-cons, All-head, All-tail, All-append, All-nil}
use Rattle.std.proofs.lemmas.List.Sums.{AllPass-from_list_all}
use Rattle.std.proofs.lemmas.Str.Parse.{IsNumeralModel, numerals_by_value}
use Rattle.hex.specs.Hex.{IsBytes, encode_lower, encode_with, hex_digit_value, lower_digits}
use Rattle.hex.proofs.HexLemmas.{decode_of-encode_lower, IsDigits-lower_digits}
use Rattle.script_text.specs.Numbers.{number_of, is_numeral, is_within}
use Rattle.script_text.specs.Paths.{decoded, escaped, before, is_slash}
use Rattle.world_model.specs.Transcript.{is_shown, shown, shown_byte}
use Rattle.trace_text.specs.Texts.{hex_word}
use Rattle.trace_text.specs.Words.{bytes_of, decoded_or, handle_of, long_of}
use Rattle.trace_prints.proofs.Lined.{IsPlain, IsWord}

-- ---- decimal numbers

own : IsNumeralModel (λ ds. list_all is_ascii_digit ds ≡ true) (digits_value 10)
own = numerals_by_value _ (search rules)

digit-plain : (b : ℕ) → is_ascii_digit b ≡ true → IsPlain b
digit-plain b h =
    let low : 48 ≤ b = grind (arith, h) in
    let high : b ≤ 57 = grind (arith, h) in
    record { least = omega (arith, low); most = omega (arith, high) }

digits-plain : (ds : List ℕ) → list_all is_ascii_digit ds ≡ true → All IsPlain ds
digits-plain [] h = All-nil IsPlain
digits-plain (c ∷ cs) h =
    let k = and_parts (is_ascii_digit c) (list_all is_ascii_digit cs) h in
    All-cons IsPlain c cs (digit-plain c k.0) (digits-plain cs k.1)

pub decimal-word : (n : ℕ) → n < 2 ^ 64 → IsWord (decimal n)
decimal-word n small = record { some = decimal_nonempty n small; plain = digits-plain (decimal n) (digits_decimal own n small) }

some-length : (n : ℕ) → 0 < n → not (n == 0) ≡ true
some-length n h = ap not (ne_eqb n 0 (λ e. omega (arith, e, h)))

pub number-back : (least most n : ℕ) → least ≤ n → n ≤ most → n < 2 ^ 64 → number_of least most (decimal n) ≡ Some n
number-back least most n low high small =
    let value : digits_value 10 (decimal n) ≡ n = digits_value-decimal own n small in
    let all : list_all is_ascii_digit (decimal n) ≡ true = digits_decimal own n small in
    let some : not (length (decimal n) == 0) ≡ true = some-length (length (decimal n)) (decimal_nonempty n small) in
    let numeral : is_numeral (decimal n) ≡ true = rw (some, all) refl in
    let within : is_within least most n ≡ true = rw (le-leb least n low, le-leb n most high) refl in
    taken (decimal n) n value numeral within
  where
    taken : (ds : List ℕ) (v : ℕ) → digits_value 10 ds ≡ v → is_numeral ds ≡ true → is_within least most v ≡ true → number_of least most ds ≡ Some v
    taken ds v e f g = rw (e, f, g) refl

pub long-back : (n : ℕ) → n < 2 ^ 64 → long_of (decimal n) ≡ Some n
long-back n small = number-back 0 18446744073709551615 n (omega arith) (omega (arith, small)) small

-- ---- hex digits

-- a digit, or a letter of lower case
record IsDigit (b : ℕ) : Type 0 where
  least : 48 ≤ b
  most : b ≤ 126

digit-is-plain : (b : ℕ) → IsDigit b → IsPlain b
digit-is-plain b d = record { least = omega (arith, d.least); most = d.most }

pub plain-so : (b : ℕ) → (nat_le 33 b && nat_le b 126) ≡ true → IsPlain b
plain-so b h =
    let k = and_parts (nat_le 33 b) (nat_le b 126) h in
    record { least = leb-true 33 b k.0; most = leb-true b 126 k.1 }

digits-pass : AllPass (λ b. nat_le 48 b && nat_le b 126) lower_digits
digits-pass = AllPass-from_list_all (λ b. nat_le 48 b && nat_le b 126) lower_digits refl

hex-digit : (k : ℕ) → k < 16 → IsDigit (slice_index lower_digits k)
hex-digit k lt =
    let h : (nat_le 48 (slice_index lower_digits k) && nat_le (slice_index lower_digits k) 126) ≡ true = digits-pass k 0 lt in
    let p = and_parts (nat_le 48 (slice_index lower_digits k)) (nat_le (slice_index lower_digits k) 126) h in
    record { least = leb-true 48 (slice_index lower_digits k) p.0; most = leb-true (slice_index lower_digits k) 126 p.1 }

hex-digit-plain : (k : ℕ) → k < 16 → IsPlain (slice_index lower_digits k)
hex-digit-plain k lt = digit-is-plain (slice_index lower_digits k) (hex-digit k lt)

pub hex-plain : (bytes : List ℕ) → IsBytes bytes → All IsPlain (encode_lower bytes)
unfolding encode_with
hex-plain [] h = All-nil IsPlain
hex-plain (b ∷ bytes) h =
    let fits : b < 256 = h 0 in
    let high : b / 16 < 16 = omega (arith, fits) in
    let low : b % 16 < 16 = omega arith in
    All-cons IsPlain (slice_index lower_digits (b / 16)) (slice_index lower_digits (b % 16) ∷ encode_lower bytes) (hex-digit-plain (b / 16) high)
    (All-cons IsPlain (slice_index lower_digits (b % 16)) (encode_lower bytes) (hex-digit-plain (b % 16) low) (hex-plain bytes (λ k. h (suc k))))

dash-word : IsWord (codes "-")
dash-word = record { some = omega arith; plain = All-cons IsPlain 45 [] (record { least = omega arith; most = omega arith }) (All-nil IsPlain) }

pub hex-is-word : (bytes : List ℕ) → IsBytes bytes → IsWord (hex_word bytes)
unfolding encode_with
hex-is-word [] h = dash-word
hex-is-word (b ∷ bytes) h = record { some = omega arith; plain = hex-plain (b ∷ bytes) h }

-- hex digits aren't a dash
pub not-dash : (b : ℕ) (bytes : List ℕ) → bytes_eq (encode_lower (b ∷ bytes)) (codes "-") ≡ false
unfolding encode_with
not-dash b bytes = by (slice_index lower_digits (b / 16) == 45)
  where
    by : (t : Bool) → (t && false) ≡ false
    by true = refl
    by false = refl

pub hex-back : (bytes : List ℕ) → IsBytes bytes → bytes_of (hex_word bytes) ≡ Some bytes
hex-back [] h = refl
hex-back (b ∷ bytes) h = rw (not-dash b bytes) (ap decoded_or (decode_of-encode_lower (b ∷ bytes) h))

pub handle-back : (h : List ℕ) → IsBytes h → length h ≤ 64 → handle_of (hex_word h) ≡ Some h
handle-back h b le = rw (hex-back h b) (rw (le-leb (length h) 64 le) refl)

-- ---- shown bytes

shown-byte-plain : (b : ℕ) → b < 256 → All IsPlain (shown_byte b)
shown-byte-plain b fits = by (is_shown b) refl
  where
    only : (b : ℕ) → b < 256 → IsBytes (b ∷ [])
    only b fits zero = fits
    only b fits (suc k) = omega arith

    by : (t : Bool) → is_shown b ≡ t → All IsPlain (if t then b ∷ [] else 37 ∷ encode_lower (b ∷ []))
    by true e =
        let k = and_parts (nat_le 33 b && nat_le b 126) (not (b == 37)) e in
        All-cons IsPlain b [] (plain-so b k.0) (All-nil IsPlain)
    by false e = All-cons IsPlain 37 (encode_lower (b ∷ [])) (record { least = omega arith; most = omega arith }) (hex-plain (b ∷ []) (only b fits))

pub shown-plain : (bytes : List ℕ) → IsBytes bytes → All IsPlain (shown bytes)
unfolding shown
shown-plain [] h = All-nil IsPlain
shown-plain (b ∷ bytes) h = All-append IsPlain (shown_byte b) (shown bytes) (shown-byte-plain b (h 0)) (shown-plain bytes (λ k. h (suc k)))

-- ---- shown bytes are read back

plain-front : (b : ℕ) (text : List ℕ) → (b == 37) ≡ false → decoded (b ∷ text) ≡ before (Some b) (decoded text)
unfolding decoded
plain-front b [] e = rw e refl
plain-front b (c ∷ []) e = rw e refl
plain-front b (c ∷ d ∷ text) e = rw e refl

escape-front : (c d : ℕ) (text : List ℕ) → decoded (37 ∷ c ∷ d ∷ text) ≡ before (escaped c d) (decoded text)
unfolding decoded
escape-front c d text = refl

escaped-back : (b : ℕ) → b < 256 → escaped (slice_index lower_digits (b / 16)) (slice_index lower_digits (b % 16)) ≡ Some b
escaped-back b fits =
    let high : b / 16 < 16 = omega (arith, fits) in
    let low : b % 16 < 16 = omega arith in
    let whole : b / 16 * 16 + b % 16 ≡ b = omega arith in
    ap (λ (o : Option ℕ). option_and_then (λ (h : ℕ). option_map (λ (l : ℕ). h * 16 + l) (hex_digit_value (slice_index lower_digits (b % 16)))) o) (IsDigits-lower_digits (b / 16) high)
    ∙ ap (λ (o : Option ℕ). option_map (λ (l : ℕ). b / 16 * 16 + l) o) (IsDigits-lower_digits (b % 16) low) ∙ ap (λ (v : ℕ). Some v) whole

shown-front : (b : ℕ) (text : List ℕ) → b < 256 → decoded (shown_byte b ++ text) ≡ before (Some b) (decoded text)
unfolding encode_with
shown-front b text fits = by (is_shown b) refl
  where
    by : (t : Bool) → is_shown b ≡ t → decoded ((if t then b ∷ [] else 37 ∷ encode_lower (b ∷ [])) ++ text) ≡ before (Some b) (decoded text)
    by true e =
        let k = and_parts (nat_le 33 b && nat_le b 126) (not (b == 37)) e in
        plain-front b text (negated (b == 37) k.1)
      where
        negated : (t : Bool) → not t ≡ true → t ≡ false
        negated false h = refl
        negated true h = sym h
    by false e = escape-front (slice_index lower_digits (b / 16)) (slice_index lower_digits (b % 16)) text
        ∙ ap (λ (o : Option ℕ). before o (decoded text)) (escaped-back b fits)

pub shown-back : (bytes : List ℕ) → IsBytes bytes → decoded (shown bytes) ≡ Some bytes
unfolding shown decoded
shown-back [] h = refl
shown-back (b ∷ bytes) h = shown-front b (shown bytes) (h 0) ∙ ap (before (Some b)) (shown-back bytes (λ k. h (suc k)))

pub shown-some : (bytes : List ℕ) → 0 < length bytes → 0 < length (shown bytes)
unfolding shown
shown-some [] h = absurd (omega (arith, h))
shown-some (b ∷ bytes) h = by (is_shown b)
  where
    by : (t : Bool) → 0 < length ((if t then b ∷ [] else 37 ∷ encode_lower (b ∷ [])) ++ shown bytes)
    by true = omega arith
    by false = omega arith

pub shown-is-word : (bytes : List ℕ) → IsBytes bytes → 0 < length bytes → IsWord (shown bytes)
shown-is-word bytes h some = record { some = shown-some bytes some; plain = shown-plain bytes h }

-- ---- paths

pub no-slash : (bytes : List ℕ) → list_any (λ y. y == 47) bytes ≡ false → All (λ b. is_slash b ≡ false) bytes
no-slash [] h = All-nil (λ b. is_slash b ≡ false)
no-slash (b ∷ bytes) h = by (λ f. no-slash bytes f) (b == 47) refl (list_any (λ y. y == 47) bytes) refl h
  where
    by : (list_any (λ y. y == 47) bytes ≡ false → All (λ b. is_slash b ≡ false) bytes) → (t : Bool) → (b == 47) ≡ t → (u : Bool) → list_any (λ y. y == 47) bytes ≡ u → (t || u) ≡ false → All (λ b. is_slash b ≡ false) (b ∷ bytes)
    by next false e false f g = All-cons (λ b. is_slash b ≡ false) b bytes e (next f)
    by next true e u f g = absurd (cc g)
    by next false e true f g = absurd (cc g)

digit-slash : (b : ℕ) → IsDigit b → is_slash b ≡ false
digit-slash b d = ne_eqb b 47 (λ e. omega (arith, e, d.least))

shown-byte-slash : (b : ℕ) → b < 256 → is_slash b ≡ false → All (λ b. is_slash b ≡ false) (shown_byte b)
unfolding encode_with
shown-byte-slash b fits free = by (is_shown b)
  where
    by : (t : Bool) → All (λ b. is_slash b ≡ false) (if t then b ∷ [] else 37 ∷ encode_lower (b ∷ []))
    by true = All-cons (λ b. is_slash b ≡ false) b [] free (All-nil (λ b. is_slash b ≡ false))
    by false =
        let high : b / 16 < 16 = omega (arith, fits) in
        let low : b % 16 < 16 = omega arith in
        All-cons (λ b. is_slash b ≡ false) 37 (encode_lower (b ∷ [])) refl
        (All-cons (λ b. is_slash b ≡ false) (slice_index lower_digits (b / 16)) (slice_index lower_digits (b % 16) ∷ []) (digit-slash (slice_index lower_digits (b / 16)) (hex-digit (b / 16) high))
        (All-cons (λ b. is_slash b ≡ false) (slice_index lower_digits (b % 16)) [] (digit-slash (slice_index lower_digits (b % 16)) (hex-digit (b % 16) low)) (All-nil (λ b. is_slash b ≡ false))))

pub shown-slash : (bytes : List ℕ) → IsBytes bytes → All (λ b. is_slash b ≡ false) bytes → All (λ b. is_slash b ≡ false) (shown bytes)
unfolding shown
shown-slash [] h free = All-nil (λ b. is_slash b ≡ false)
shown-slash (b ∷ bytes) h free = All-append (λ b. is_slash b ≡ false) (shown_byte b) (shown bytes)
    (shown-byte-slash b (h 0) (All-head (λ b. is_slash b ≡ false) b bytes free)) (shown-slash bytes (λ k. h (suc k)) (All-tail (λ b. is_slash b ≡ false) b bytes free))
