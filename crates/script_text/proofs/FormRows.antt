-- Rows by hand: what is taken as a line, a word, a number, bytes, a path or the text of a link, and what isn't.
use Rattle.std.proofs.Common.{◌≡◌, ℕ, Bool, true, false, List, [], ◌∷◌, ◌++◌, Option, Some, None, is_some, replicate, map, codes, refl}
use Rattle.std.specs.Str.{is_utf8, chars}
use lib.Utf8.{encode}
use Rattle.hex.specs.Hex.{decode_pairs}
use Rattle.script_text.specs.Lines.{lines, words, is_skipped, one, two, three, four}
use Rattle.script_text.specs.Numbers.{number_of}
use Rattle.script_text.specs.Paths.{path_of, target_of, decoded}
use Rattle.script_text.specs.Payloads.{payload_of, contents_of, byte_of}

-- whether each of some texts is taken
abbrev taken : {A : Type 0} → (List ℕ → Option A) → List (List ℕ) → List Bool
taken read texts = map (λ text. is_some (read text)) texts

-- ---- lines: a carriage return before a line feed belongs to neither line; another one stays

feed : lines (codes "ab" ++ 10 ∷ codes "cd") ≡ codes "ab" ∷ codes "cd" ∷ []
unfolding lines
feed = refl

return_feed : lines (codes "ab" ++ 13 ∷ 10 ∷ codes "cd") ≡ codes "ab" ∷ codes "cd" ∷ []
unfolding lines
return_feed = refl

empty_line : lines (10 ∷ codes "cd") ≡ [] ∷ codes "cd" ∷ []
unfolding lines
empty_line = refl

returns : lines (codes "a" ++ 13 ∷ codes "b" ++ 13 ∷ 13 ∷ 10 ∷ []) ≡ (codes "a" ++ 13 ∷ codes "b" ++ 13 ∷ []) ∷ []
unfolding lines
returns = refl

last_return : lines (codes "ab" ++ 13 ∷ []) ≡ (codes "ab" ++ 13 ∷ []) ∷ []
unfolding lines
last_return = refl

skipped : map is_skipped ([] ∷ codes "#" ∷ codes "# 1 stat /" ∷ codes " " ∷ codes " #" ∷ []) ≡ true ∷ true ∷ true ∷ false ∷ false ∷ []
skipped = refl

-- `ä` is of the bytes c3 and a4; ff begins no character
utf8 : map is_utf8 ((195 ∷ 164 ∷ []) ∷ (35 ∷ 255 ∷ []) ∷ []) ≡ true ∷ false ∷ []
unfolding is_utf8 chars encode
utf8 = refl

-- ---- words

tabs_and_spaces : words (9 ∷ codes " sync  1 ") ≡ codes "sync" ∷ codes "1" ∷ []
unfolding words
tabs_and_spaces = refl

no_word : words (32 ∷ 9 ∷ []) ≡ []
unfolding words
no_word = refl

one_word : map (λ line. one (words line)) (codes "1" ∷ [] ∷ codes "a b" ∷ []) ≡ Some (codes "1") ∷ None ∷ None ∷ []
unfolding words
one_word = refl

two_words : map (λ line. two (words line)) ((codes "/a" ++ 9 ∷ codes "/b") ∷ codes "a" ∷ codes "a b c" ∷ []) ≡ Some (codes "/a", codes "/b") ∷ None ∷ None ∷ []
unfolding words
two_words = refl

three_words : map (λ line. three (words line)) (codes "1 0 6869" ∷ codes "a b" ∷ codes "a b c d" ∷ []) ≡ Some (codes "1", codes "0", codes "6869") ∷ None ∷ None ∷ []
unfolding words
three_words = refl

four_words : map (λ line. four (words line)) (codes "1 0 65536 aA" ∷ codes "a b c" ∷ codes "a b c d e" ∷ []) ≡ Some (codes "1", codes "0", codes "65536", codes "aA") ∷ None ∷ None ∷ []
unfolding words
four_words = refl

-- ---- numbers in a range: decimal digits alone, and zeros before them

in_range : map (number_of 1 16) (codes "007" ∷ codes "16" ∷ codes "0" ∷ codes "17" ∷ []) ≡ Some 7 ∷ Some 16 ∷ None ∷ None ∷ []
in_range = refl

digits_alone : map (number_of 0 16) ([] ∷ codes "+7" ∷ codes "7a" ∷ []) ≡ None ∷ None ∷ None ∷ []
digits_alone = refl

word_ends : map (number_of 0 4294967295) (codes "4294967295" ∷ codes "4294967296" ∷ []) ≡ Some 4294967295 ∷ None ∷ []
word_ends = refl

long_ends : map (number_of 0 4611686018427387904) (codes "00000000000000004611686018427387904" ∷ codes "4611686018427387905" ∷ codes "100000000000000000000" ∷ []) ≡ Some 4611686018427387904 ∷ None ∷ None ∷ []
long_ends = refl

-- ---- bytes in hex, of digits of either case

payloads : map payload_of (codes "6869" ∷ codes "4a6Bff" ∷ []) ≡ Some (codes "hi") ∷ Some (74 ∷ 107 ∷ 255 ∷ []) ∷ []
unfolding decode_pairs
payloads = refl

no_payloads : taken payload_of ([] ∷ codes "-" ∷ codes "686" ∷ codes "6g" ∷ []) ≡ false ∷ false ∷ false ∷ false ∷ []
unfolding decode_pairs
no_payloads = refl

-- the dash is no byte
some_contents : map contents_of (codes "-" ∷ codes "00" ∷ [] ∷ codes "--" ∷ []) ≡ Some [] ∷ Some (0 ∷ []) ∷ None ∷ None ∷ []
unfolding decode_pairs
some_contents = refl

bytes : map byte_of (codes "aF" ∷ codes "a" ∷ [] ∷ codes "aaaa" ∷ codes "0x" ∷ []) ≡ Some 175 ∷ None ∷ None ∷ None ∷ None ∷ []
unfolding decode_pairs
bytes = refl

-- ---- paths: `%` and two digits are a byte

paths : map path_of (codes "/" ∷ codes "/a" ∷ codes "/a/b%20%C3%a4" ∷ codes "/a/..." ∷ [])
    ≡ Some [] ∷ Some (codes "a" ∷ []) ∷ Some (codes "a" ∷ (98 ∷ 32 ∷ 195 ∷ 164 ∷ []) ∷ []) ∷ Some (codes "a" ∷ codes "..." ∷ []) ∷ []
unfolding decoded
paths = refl

no_paths : taken path_of ([] ∷ codes "a" ∷ codes "//" ∷ codes "/a/" ∷ codes "/a//b" ∷ codes "/." ∷ codes "/a/.." ∷ codes "/%2e%2E" ∷ codes "/a%2fb" ∷ codes "/%00" ∷ codes "/%" ∷ codes "/%4" ∷ codes "/%4g" ∷ [])
    ≡ replicate 13 false
unfolding decoded
no_paths = refl

-- a name of so many bytes, with its slash
abbrev name : ℕ → List ℕ
name count = 47 ∷ replicate count 97

-- names of 255 bytes and paths of 1,024
path_bounds : taken path_of ((name 255 ++ name 255 ++ name 255 ++ name 255) ∷ (name 255 ++ name 255 ++ name 255 ++ name 255 ++ name 1) ∷ name 256 ∷ [])
    ≡ true ∷ false ∷ false ∷ []
unfolding decoded
path_bounds = refl

-- ---- texts of links

target : target_of (codes "../x%2f.") ≡ Some (codes "../x/.")
unfolding decoded
target = refl

no_targets : taken target_of ([] ∷ codes "%00" ∷ codes "a%2" ∷ []) ≡ false ∷ false ∷ false ∷ []
unfolding decoded
no_targets = refl

target_bounds : taken target_of (replicate 1024 97 ∷ replicate 1025 97 ∷ []) ≡ true ∷ false ∷ []
unfolding decoded
target_bounds = refl
