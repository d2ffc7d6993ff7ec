-- Lines and words of a text that is written word by word.
use Rattle.std.proofs.Common.{◌≡◌, ◌<◌, ◌≤◌, ◌+◌, ◌-◌, ◌⊎◌, inl, inr, ℕ, List, [], ◌∷◌, ◌++◌, length, Bool, true, false, cond, not, ◌==◌, filter, Option, Some, None, All, slice_get, refl, sym, ap, ◌∙◌, subst, arith, take, get_or, if◌then◌else◌, ◌||◌}
use Rattle.std.specs.List.{slice_split, onto_first}
use Rattle.std.specs.Str.{is_utf8}
use Rattle.std.proofs.lemmas.Bool.{cases_lt, eqb-true}
use Rattle.std.proofs.lemmas.List.{append-nil, get_or_past}
use Rattle.std.proofs.lemmas.List.Elements.{All-cons, All-append, All-weaker, All-nil, All-get_or}
use Rattle.std.proofs.lemmas.List.Splits.{slice_split_none, slice_split_at}
use Rattle.std.proofs.lemmas.Option.{slice_get_within, get_or_from_slice_get}
use Rattle.std.proofs.lemmas.Str.{IsUtf8-from_ascii, is_utf8-from_IsUtf8}
use Rattle.script_text.specs.Lines.{lines, lines_of, words, is_feed, is_blank, is_empty, is_return, is_skipped, without_return}
use Rattle.trace_text.specs.Texts.{spread}

-- ---- words

-- a byte that stands in a word: 33 to 126
pub record IsPlain (b : ℕ) : Type 0 where
  pub least : 33 ≤ b
  pub most : b ≤ 126

-- bytes that are a word
pub record IsWord (word : List ℕ) : Type 0 where
  pub some : 0 < length word
  pub plain : All IsPlain word

abbrev pub AreWords : List (List ℕ) → Type 0
AreWords [] = Unit {0}
AreWords (word ∷ words) = IsWord word × AreWords words

plain-blank : (b : ℕ) → IsPlain b → is_blank b ≡ false
plain-blank b p = by (b == 32) refl (b == 9) refl
  where
    by : (s : Bool) → (b == 32) ≡ s → (t : Bool) → (b == 9) ≡ t → (s || t) ≡ false
    by false e false f = refl
    by true e t f = let is : b ≡ 32 = eqb-true b 32 e in absurd (omega (arith, is, p.least))
    by false e true f = let is : b ≡ 9 = eqb-true b 9 f in absurd (omega (arith, is, p.least))

blanks-none : (word : List ℕ) → All IsPlain word → All (λ b. is_blank b ≡ false) word
blanks-none word p = All-weaker IsPlain (λ b. is_blank b ≡ false) plain-blank word p

kept-word : (word : List ℕ) (others : List (List ℕ)) → 0 < length word → filter (λ w. not (is_empty w)) (word ∷ others) ≡ word ∷ filter (λ w. not (is_empty w)) others
kept-word [] others h = absurd (omega (arith, h))
kept-word (b ∷ word) others h = refl

-- a word alone
one-word : (word : List ℕ) → IsWord word → words word ≡ word ∷ []
unfolding words
one-word word w = ap (filter (λ v. not (is_empty v))) (slice_split_none is_blank word (blanks-none word w.plain)) ∙ kept-word word [] w.some

-- a word, a space, and more
next-word : (word rest : List ℕ) → IsWord word → words (word ++ 32 ∷ rest) ≡ word ∷ words rest
unfolding words
next-word word rest w = ap (filter (λ v. not (is_empty v))) (slice_split_at is_blank word 32 rest (blanks-none word w.plain) refl)
    ∙ kept-word word (slice_split is_blank rest) w.some

pub spread-cons : (word : List ℕ) (words : List (List ℕ)) → spread (word ∷ words) ≡ 32 ∷ (word ++ spread words)
spread-cons word [] = ap (λ (k : List ℕ). 32 ∷ k) (sym (append-nil word))
spread-cons word (next ∷ words) = refl

-- words that are spread are read as they are
pub words-spread : (word : List ℕ) (more : List (List ℕ)) → IsWord word → AreWords more → words (word ++ spread more) ≡ word ∷ more
words-spread word [] w ws = ap words (append-nil word) ∙ one-word word w
words-spread word (next ∷ more) w ws = ap (λ (k : List ℕ). words (word ++ k)) (spread-cons next more) ∙ next-word word (next ++ spread more) w
    ∙ ap (λ (k : List (List ℕ)). word ∷ k) (words-spread next more ws.0 ws.1)

-- ---- lines

-- a byte that stands in a line: 32 to 126
pub record IsInLine (b : ℕ) : Type 0 where
  pub least : 32 ≤ b
  pub most : b ≤ 126

plain-in : (b : ℕ) → IsPlain b → IsInLine b
plain-in b p = record { least = omega (arith, p.least); most = p.most }

word-in : (word : List ℕ) → IsWord word → All IsInLine word
word-in word w = All-weaker IsPlain IsInLine plain-in word w.plain

spread-in : (more : List (List ℕ)) → AreWords more → All IsInLine (spread more)
spread-in [] ws = All-nil IsInLine
spread-in (word ∷ more) ws = subst (λ (k : List ℕ). All IsInLine k) (sym (spread-cons word more))
    (All-cons IsInLine 32 (word ++ spread more) (record { least = omega arith; most = omega arith })
    (All-append IsInLine word (spread more) (word-in word ws.0) (spread-in more ws.1)))

pub line-in : (word : List ℕ) (more : List (List ℕ)) → IsWord word → AreWords more → All IsInLine (word ++ spread more)
line-in word more w ws = All-append IsInLine word (spread more) (word-in word w) (spread-in more ws)

in-feed : (b : ℕ) → IsInLine b → is_feed b ≡ false
in-feed b p = by (b == 10) refl
  where
    by : (s : Bool) → (b == 10) ≡ s → s ≡ false
    by false e = refl
    by true e = let is : b ≡ 10 = eqb-true b 10 e in absurd (omega (arith, is, p.least))

in-return : (b : ℕ) → IsInLine b → (b == 13) ≡ false
in-return b p = by (b == 13) refl
  where
    by : (s : Bool) → (b == 13) ≡ s → s ≡ false
    by false e = refl
    by true e = let is : b ≡ 13 = eqb-true b 13 e in absurd (omega (arith, is, p.least))

no-return : (line : List ℕ) (o : Option ℕ) → All IsInLine line → o ≡ slice_get line (length line - 1) → is_return o ≡ false
no-return line None p e = refl
no-return line (Some b) p e =
    let within : length line - 1 < length line = slice_get_within line (length line - 1) b (sym e) in
    in-return b (subst (λ (x : ℕ). IsInLine x) (get_or_from_slice_get line (length line - 1) b 0 (sym e)) (All-get_or IsInLine line (length line - 1) 0 within p))

whole-line : (line : List ℕ) → All IsInLine line → without_return line ≡ line
whole-line line p = ap (λ (t : Bool). if t then take (length line - 1) line else line) (no-return line (slice_get line (length line - 1)) p refl)

-- there is always a piece
abbrev Pieces : List (List ℕ) → Type 0
Pieces pieces = (first : List ℕ) × (others : List (List ℕ)) × (pieces ≡ first ∷ others)

pieces : (test : ℕ → Bool) (text : List ℕ) → Pieces (slice_split test text)
pieces test [] = ([], [], refl)
pieces test (b ∷ text) = elim (test b) as (λ t. Pieces (cond t ([] ∷ slice_split test text) (onto_first b (slice_split test text)))) [
  | true ↦ ([], slice_split test text, refl)
  | false ↦ (let p = pieces test text in (b ∷ p.0, p.1, rw p.2 refl))
]

more-lines : (line : List ℕ) (pieces : List (List ℕ)) → Pieces pieces → lines_of (line ∷ pieces) ≡ without_return line ∷ lines_of pieces
more-lines line pieces p = rw p.2 refl

-- a line that ends with a line feed, and more
pub first-line : (line rest : List ℕ) → All IsInLine line → lines (line ++ 10 ∷ rest) ≡ line ∷ lines rest
unfolding lines
first-line line rest p = ap lines_of (slice_split_at is_feed line 10 rest (All-weaker IsInLine (λ b. is_feed b ≡ false) in-feed line p) refl)
    ∙ more-lines line (slice_split is_feed rest) (pieces is_feed rest) ∙ ap (λ (k : List ℕ). k ∷ lines_of (slice_split is_feed rest)) (whole-line line p)

pub line-utf8 : (line : List ℕ) → All IsInLine line → is_utf8 line ≡ true
line-utf8 line p = is_utf8-from_IsUtf8 line (IsUtf8-from_ascii line (λ i. below i (cases_lt i (length line))))
  where
    below : (i : ℕ) → (i < length line) ⊎ (length line ≤ i) → get_or line i 0 < 128
    below i (inl lt) = let in-it : IsInLine (get_or line i 0) = All-get_or IsInLine line i 0 lt p in omega (arith, in-it.most)
    below i (inr le) = let past : get_or line i 0 ≡ 0 = get_or_past line i 0 le in omega (arith, past)

-- a line that begins with a letter says something
pub line-says : (b : ℕ) (word more : List ℕ) → (b == 35) ≡ false → is_skipped ((b ∷ word) ++ more) ≡ false
line-says b word more e = e
