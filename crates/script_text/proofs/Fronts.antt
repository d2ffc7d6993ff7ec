-- Behind a plain front: where the first line feed stands, and whether the bytes are UTF-8.
use Rattle.std.proofs.Common.{◌≡◌, ◌<◌, ◌≤◌, ◌+◌, ◌-◌, ℕ, zero, suc, List, [], ◌∷◌, ◌++◌, length, take, drop, Some, None, true, false, cond, position, nat_lt, slice_get, slice_index, refl, sym, ap, ◌∙◌, arith, ne_eqb}
use Rattle.std.specs.List.{position_or_len}
use Rattle.std.specs.Simd.Lanes.{Each1}
use Rattle.std.specs.Str.{is_utf8}
use Rattle.std.proofs.lemmas.Bool.{false_from_ne_true, lt-ltb, le-ltb}
use Rattle.std.proofs.lemmas.List.{length-drop}
use Rattle.std.proofs.lemmas.Str.{IsUtf8-append, IsUtf8-past_char, IsUtf8-from_ascii, IsUtf8-from_is_utf8, is_utf8-from_IsUtf8, encode_ascii}
use Rattle.script_text.specs.Lines.{is_feed, is_return, without_return}
use Rattle.script_text.specs.Plain.{IsPlain}
use Rattle.script_text.proofs.Parting.{none_passes, first_passes}

-- ---- the first line feed

stands : (text : List ℕ) (n : ℕ) → Each1 IsPlain (take n text) → n ≤ length text → position_or_len is_feed text ≡ n + position_or_len is_feed (drop n text)
stands text zero h le = omega arith
stands [] (suc n) h le = absurd (omega (arith, le))
stands (b ∷ text) (suc n) h le =
    let other : is_feed b ≡ false = ne_eqb b 10 h.0.1 in
    let later = stands text n h.1 (omega (arith, le)) in
    rw other (omega (arith, later))

pub no_feed : (text : List ℕ) (n : ℕ) → Each1 IsPlain (take n text) → n ≤ length text → position is_feed (drop n text) ≡ None → None ≡ position is_feed text
no_feed text n h le e =
    let none = none_passes is_feed (drop n text) e in
    let whole : position_or_len is_feed text ≡ length text = omega (arith, le, stands text n h le, none, length-drop n text) in
    let past : nat_lt (length text) (length text) ≡ false = le-ltb (length text) (length text) (omega arith) in
    rw (whole, past) refl

pub first_feed : (text : List ℕ) (n at : ℕ) → Each1 IsPlain (take n text) → n ≤ length text → position is_feed (drop n text) ≡ Some at → Some (n + at) ≡ position is_feed text
first_feed text n at h le e =
    let p = first_passes is_feed (drop n text) at e in
    let whole : position_or_len is_feed text ≡ n + at = omega (arith, stands text n h le, p.at) in
    let within : nat_lt (n + at) (length text) ≡ true = lt-ltb (n + at) (length text) (omega (arith, le, p.inside, length-drop n text)) in
    rw (whole, within) refl

pub feed_inside : (text : List ℕ) (at : ℕ) → position is_feed text ≡ Some at → at < length text
feed_inside text at e = (first_passes is_feed text at e).inside

-- ---- UTF-8

ascii_then : (b : ℕ) (rest : List ℕ) → b < 128 → is_utf8 (b ∷ rest) ≡ is_utf8 rest
ascii_then b rest h = elim (is_utf8 rest) as (λ t. is_utf8 rest ≡ t → is_utf8 (b ∷ rest) ≡ t) [
  | true ↦ λ e. is_utf8-from_IsUtf8 (b ∷ rest) (IsUtf8-append (b ∷ []) rest (IsUtf8-from_ascii (b ∷ []) one) (IsUtf8-from_is_utf8 rest e))
  | false ↦ λ e. false_from_ne_true (is_utf8 (b ∷ rest)) (λ t. other e (is_utf8-from_IsUtf8 rest (IsUtf8-past_char (b ∷ rest) rest b (IsUtf8-from_is_utf8 (b ∷ rest) t) (ap (λ l. l ++ rest) (sym (encode_ascii b h))))))
] refl
  where
    one : (i : ℕ) → slice_index (b ∷ []) i < 128
    one zero = h
    one (suc i) = omega arith

    other : is_utf8 rest ≡ false → is_utf8 rest ≡ true → ⊥
    other f t = absurd cc

pub utf8_behind : (n : ℕ) (line : List ℕ) → Each1 IsPlain (take n line) → is_utf8 (drop n line) ≡ is_utf8 line
utf8_behind zero line h = refl
utf8_behind (suc n) [] h = refl
utf8_behind (suc n) (b ∷ line) h = utf8_behind n line h.1 ∙ sym (ascii_then b line h.0.0)

-- ---- the front of a line

front : (n m : ℕ) (text : List ℕ) → Each1 IsPlain (take n text) → Each1 IsPlain (take n (take m text))
front zero m text h = tt
front (suc n) zero text h = tt
front (suc n) (suc m) [] h = tt
front (suc n) (suc m) (b ∷ text) h = (h.0, front n m text h.1)

line_front : (n : ℕ) (line : List ℕ) → Each1 IsPlain (take n line) → Each1 IsPlain (take n (without_return line))
line_front n line h = elim (is_return (slice_get line (length line - 1))) as (λ t. Each1 IsPlain (take n (cond t (take (length line - 1) line) line))) [
  | true ↦ front n (length line - 1) line h
  | false ↦ h
]

pub plain_line : (n at : ℕ) (text line : List ℕ) → line ≡ without_return (take at text) → Each1 IsPlain (take n text) → Each1 IsPlain (take n line)
plain_line n at text line e h = rw e (line_front n (take at text) (front n at text h))
