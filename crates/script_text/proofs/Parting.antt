-- The first piece of a text, and the pieces after it.
use Rattle.std.proofs.Common.{◌≡◌, ◌<◌, ◌+◌, ◌-◌, ℕ, suc, List, [], ◌∷◌, length, take, drop, Some, None, Bool, true, false, cond, not, filter, position, nat_lt, refl, sym, ◌∙◌, add-one, arith, if◌then◌else◌}
use Rattle.std.specs.List.{position_or_len, slice_split, onto_first}
use Rattle.std.proofs.Math.Seq.{drop-length}
use Rattle.std.proofs.lemmas.Bool.{ltb-true, ltb-false}
use Rattle.std.proofs.lemmas.List.{take_rest}
use Rattle.std.proofs.lemmas.List.Sums.{prefix_len-le-length}
use Rattle.script_text.specs.Lines.{if_some, lines_of, lines, words, is_feed, is_blank, is_empty, without_return}

-- no element passes
pub none_passes : (test : ℕ → Bool) (text : List ℕ) → position test text ≡ None → position_or_len test text ≡ length text
none_passes test text e = elim (nat_lt (position_or_len test text) (length text)) as (λ t. nat_lt (position_or_len test text) (length text) ≡ t → cond t (Some (position_or_len test text)) None ≡ None → position_or_len test text ≡ length text) [
  | true ↦ λ h e. absurd cc
  | false ↦ λ h e. omega (arith, ltb-false _ _ h, prefix_len-le-length (λ b. not (test b)) text)
] refl e

pub record Passes (test : ℕ → Bool) (text : List ℕ) (n : ℕ) : Type 0 where
  pub at : position_or_len test text ≡ n
  pub inside : n < length text

pub first_passes : (test : ℕ → Bool) (text : List ℕ) (n : ℕ) → position test text ≡ Some n → Passes test text n
first_passes test text n e = elim (nat_lt (position_or_len test text) (length text)) as (λ t. nat_lt (position_or_len test text) (length text) ≡ t → cond t (Some (position_or_len test text)) None ≡ Some n → Passes test text n) [
  | true ↦ λ h e. let same : position_or_len test text ≡ n = cc in record { at = same; inside = omega (arith, ltb-true _ _ h, same) }
  | false ↦ λ h e. absurd cc
] refl e

-- where none passes the test, the text is one piece
one_piece : (test : ℕ → Bool) (text : List ℕ) → position_or_len test text ≡ length text → slice_split test text ≡ text ∷ []
one_piece test [] e = refl
one_piece test (b ∷ text) e = elim (test b) as (λ t. cond (not t) (1 + position_or_len test text) 0 ≡ suc (length text) → cond t ([] ∷ slice_split test text) (onto_first b (slice_split test text)) ≡ (b ∷ text) ∷ []) [
  | true ↦ λ h. absurd (omega (arith, h))
  | false ↦ λ h. rw (one_piece test text (omega (arith, h))) refl
] e

-- where the first that passes stands at n, the first piece stands before it, and the others after it
piece_at : (test : ℕ → Bool) (text : List ℕ) (n : ℕ) → position_or_len test text ≡ n → n < length text → slice_split test text ≡ take n text ∷ slice_split test (drop (suc n) text)
piece_at test [] n e h = absurd (omega (arith, h))
piece_at test (b ∷ text) n e h = elim (test b) as (λ t. (n : ℕ) → cond (not t) (1 + position_or_len test text) 0 ≡ n → n < suc (length text) → cond t ([] ∷ slice_split test text) (onto_first b (slice_split test text)) ≡ take n (b ∷ text) ∷ slice_split test (drop (suc n) (b ∷ text))) [
  | true ↦ λ n e h. at_once n (sym e)
  | false ↦ λ n e h. later n e (piece_at test text (position_or_len test text) refl (omega (arith, e, h)))
] n e h
  where
    at_once : (n : ℕ) → n ≡ 0 → [] ∷ slice_split test text ≡ take n (b ∷ text) ∷ slice_split test (drop (suc n) (b ∷ text))
    at_once n e = rw e refl

    later : (n : ℕ) → 1 + position_or_len test text ≡ n → slice_split test text ≡ take (position_or_len test text) text ∷ slice_split test (drop (suc (position_or_len test text)) text) → onto_first b (slice_split test text) ≡ take n (b ∷ text) ∷ slice_split test (drop (suc n) (b ∷ text))
    later n e i =
        let next : n ≡ suc (position_or_len test text) = omega (arith, e) in
        rw (next, i) refl

-- there is always a piece
abbrev Pieces : List (List ℕ) → Type 0
Pieces pieces = (first : List ℕ) × (others : List (List ℕ)) × (pieces ≡ first ∷ others)

pieces : (test : ℕ → Bool) (text : List ℕ) → Pieces (slice_split test text)
pieces test [] = ([], [], refl)
pieces test (b ∷ text) = elim (test b) as (λ t. Pieces (cond t ([] ∷ slice_split test text) (onto_first b (slice_split test text)))) [
  | true ↦ ([], slice_split test text, refl)
  | false ↦ (let p = pieces test text in (b ∷ p.0, p.1, rw p.2 refl))
]

more_lines : (line : List ℕ) (pieces : List (List ℕ)) → Pieces pieces → lines_of (line ∷ pieces) ≡ without_return line ∷ lines_of pieces
more_lines line pieces p = rw p.2 refl

last_line : (text : List ℕ) → 0 < length text → if_some text ≡ text ∷ []
last_line [] h = absurd (omega (arith, h))
last_line (b ∷ text) h = refl

nothing_after : (text : List ℕ) → take (length text - length text) (drop (length text) text) ≡ []
nothing_after text = take_rest text (length text) ∙ drop-length text

pub only_line : (text : List ℕ) → position is_feed text ≡ None → 0 < length text → lines text ≡ text ∷ lines (take (length text - length text) (drop (length text) text))
unfolding lines
only_line text e h = rw (nothing_after text, one_piece is_feed text (none_passes is_feed text e)) (last_line text h)

pub first_line_at : (text line : List ℕ) (n : ℕ) → position is_feed text ≡ Some n → line ≡ without_return (take n text) → lines text ≡ line ∷ lines (take (length text - (n + 1)) (drop (n + 1) text))
unfolding lines
first_line_at text line n e l =
    let p = first_passes is_feed text n e in
    rw (take_rest text (n + 1), add-one, l, piece_at is_feed text n p.at p.inside) (more_lines (take n text) (slice_split is_feed (drop (suc n) text)) (pieces is_feed (drop (suc n) text)))

-- a word and others, or the others alone where the word is empty
abbrev with_word : List ℕ → List (List ℕ) → List (List ℕ)
with_word word others = if is_empty word then others else word ∷ others

kept : (word : List ℕ) (others : List (List ℕ)) → filter (λ w. not (is_empty w)) (word ∷ others) ≡ with_word word (filter (λ w. not (is_empty w)) others)
kept [] others = refl
kept (b ∷ word) others = refl

pub only_word : (line : List ℕ) → position is_blank line ≡ None → words line ≡ with_word line (words (take (length line - length line) (drop (length line) line)))
unfolding words
only_word line e = rw (nothing_after line, one_piece is_blank line (none_passes is_blank line e)) (kept line [])

pub first_word_at : (line : List ℕ) (n : ℕ) → position is_blank line ≡ Some n → words line ≡ with_word (take n line) (words (take (length line - (n + 1)) (drop (n + 1) line)))
unfolding words
first_word_at line n e =
    let p = first_passes is_blank line n e in
    rw (take_rest line (n + 1), add-one, piece_at is_blank line n p.at p.inside) (kept (take n line) (slice_split is_blank (drop (suc n) line)))

pub no_words : (rest : List ℕ) → length rest ≡ 0 → words rest ≡ []
unfolding words
no_words [] e = refl
no_words (b ∷ rest) e = absurd (omega (arith, e))

-- a text in which none passes the test
pub only_piece : (test : ℕ → Bool) (text : List ℕ) → position test text ≡ None → slice_split test text ≡ text ∷ []
only_piece test text e = one_piece test text (none_passes test text e)

-- the piece before the first that passes, and those after it
pub first_piece_at : (test : ℕ → Bool) (text : List ℕ) (n : ℕ) → position test text ≡ Some n → slice_split test text ≡ take n text ∷ slice_split test (take (length text - (n + 1)) (drop (n + 1) text))
first_piece_at test text n e =
    let p = first_passes test text n e in
    rw (take_rest text (n + 1), add-one, piece_at test text n p.at p.inside) refl
