-- Words and lines are no longer than the text that they are parts of.
use Rattle.std.proofs.Common.{◌≡◌, ◌≤◌, ◌+◌, ◌-◌, ℕ, List, [], ◌∷◌, length, take, slice_get, codes, bytes_eq, Some, None, Bool, true, false, cond, not, filter, refl, arith, if◌then◌else◌}
use Rattle.std.proofs.lemmas.List.{length-take}
use Rattle.std.specs.List.{slice_split, onto_first}
use Rattle.script_text.specs.Lines.{is_feed, is_blank, is_empty, is_return, without_return, if_some, lines_of, lines, words}
use Rattle.made_script.specs.Summaries.{after_ok, first_length, length_where, digits_of}

-- how long all pieces are together
abbrev total : List (List ℕ) → ℕ
total [] = 0
total (piece ∷ pieces) = length piece + total pieces

total_onto : (b : ℕ) (pieces : List (List ℕ)) → total (onto_first b pieces) ≡ 1 + total pieces
total_onto b [] = refl
total_onto b (piece ∷ pieces) = omega arith

split_total : (test : ℕ → Bool) (text : List ℕ) → total (slice_split test text) ≤ length text
split_total test [] = omega arith
split_total test (b ∷ text) = elim (test b) as (λ t. total (cond t ([] ∷ slice_split test text) (onto_first b (slice_split test text))) ≤ length (b ∷ text)) [
  | true ↦ omega (arith, split_total test text)
  | false ↦ omega (arith, split_total test text, total_onto b (slice_split test text))
]

take_shorter : (n : ℕ) (piece : List ℕ) → length (take n piece) ≤ length piece
take_shorter n piece = omega (arith, length-take n piece)

without_shorter : (line : List ℕ) → length (without_return line) ≤ length line
without_shorter line = elim (is_return (slice_get line (length line - 1))) as (λ t. length (if t then take (length line - 1) line else line) ≤ length line) [
  | true ↦ take_shorter (length line - 1) line
  | false ↦ omega arith
]

some_total : (line : List ℕ) → total (if_some line) ≤ length line
some_total [] = omega arith
some_total (b ∷ line) = omega arith

lines_total : (pieces : List (List ℕ)) → total (lines_of pieces) ≤ total pieces
lines_total [] = omega arith
lines_total (last ∷ []) = omega (arith, some_total last)
lines_total (line ∷ next ∷ pieces) = omega (arith, without_shorter line, lines_total (next ∷ pieces))

filter_total : (pieces : List (List ℕ)) → total (filter (λ word. not (is_empty word)) pieces) ≤ total pieces
filter_total [] = omega arith
filter_total ([] ∷ pieces) = omega (arith, filter_total pieces)
filter_total ((b ∷ word) ∷ pieces) = omega (arith, filter_total pieces)

words_total : (line : List ℕ) → total (words line) ≤ length line
unfolding words
words_total line = omega (arith, filter_total (slice_split is_blank line), split_total is_blank line)

shown_total : (words : List (List ℕ)) → length_where (after_ok words) ≤ total words
shown_total [] = omega arith
shown_total (a ∷ []) = omega arith
shown_total (a ∷ b ∷ []) = omega arith
shown_total (a ∷ b ∷ c ∷ others) = elim (bytes_eq c (codes "ok")) as (λ t. length_where (if t then Some others else None) ≤ length a + (length b + (length c + total others))) [
  | true ↦ first_total others
  | false ↦ omega arith
]
  where
    first_total : (others : List (List ℕ)) → first_length others ≤ length a + (length b + (length c + total others))
    first_total [] = omega arith
    first_total (d ∷ others) = omega arith

digits_total : (lines : List (List ℕ)) → digits_of lines ≤ total lines
digits_total [] = omega arith
digits_total (line ∷ lines) = omega (arith, digits_total lines, shown_total (words line), words_total line)

pub digits_within : (text : List ℕ) → digits_of (lines text) ≤ length text
unfolding lines
digits_within text = omega (arith, digits_total (lines text), lines_total (slice_split is_feed text), split_total is_feed text)

pub no_lines : (rest : List ℕ) → length rest ≡ 0 → lines rest ≡ []
unfolding lines
no_lines [] e = refl
no_lines (b ∷ rest) e = absurd (omega (arith, e))
