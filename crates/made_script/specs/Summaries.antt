-- What comes of a run's answers, in one line.
use Rattle.std.specs.Prelude.{ℕ, ◌+◌, ◌/◌, List, [], ◌∷◌, ◌++◌, length, codes, decimal, bytes_eq, Option, Some, None, if◌then◌else◌}
use Rattle.script_text.specs.Lines.{lines, words}

-- what follows the word `ok`, if that is the third
abbrev pub after_ok : List (List ℕ) → Option (List (List ℕ))
after_ok (lane ∷ line ∷ word ∷ others) = if bytes_eq word (codes "ok") then Some others else None
after_ok words = None

-- how long the first word is
abbrev pub first_length : List (List ℕ) → ℕ
first_length [] = 0
first_length (word ∷ words) = length word

abbrev pub one_where : Option (List (List ℕ)) → ℕ
one_where None = 0
one_where (Some words) = 1

abbrev pub length_where : Option (List (List ℕ)) → ℕ
length_where None = 0
length_where (Some words) = first_length words

-- of how many lines the third word is `ok`
abbrev pub oks_of : List (List ℕ) → ℕ
oks_of [] = 0
oks_of (line ∷ lines) = one_where (after_ok (words line)) + oks_of lines

-- how long the words are that follow these
abbrev pub digits_of : List (List ℕ) → ℕ
digits_of [] = 0
digits_of (line ∷ lines) = length_where (after_ok (words line)) + digits_of lines

-- The number of lines, of those that succeeded, and of the bytes that they answer, which are two digits each.
unfoldable pub summary_text : List ℕ → List ℕ
summary_text text =
    codes "lines " ++ decimal (length (lines text)) ++ codes " ok " ++ decimal (oks_of (lines text)) ++ codes " bytes "
    ++ decimal (digits_of (lines text) / 2) ++ codes "\n"
