-- The lines of a text, and the words of a line.
use Rattle.std.specs.Prelude.{◌-◌, ℕ, List, [], ◌∷◌, length, take, Option, Some, None, slice_get, filter, Bool, true, false, not, ◌||◌, ◌==◌, if◌then◌else◌}
use Rattle.std.specs.List.{slice_split}

abbrev pub is_feed : ℕ → Bool
is_feed b = b == 10

-- a space or a tab
abbrev pub is_blank : ℕ → Bool
is_blank b = (b == 32) || (b == 9)

abbrev pub is_return : Option ℕ → Bool
is_return None = false
is_return (Some b) = b == 13

-- a line without a carriage return at its end
abbrev pub without_return : List ℕ → List ℕ
without_return line = if is_return (slice_get line (length line - 1)) then take (length line - 1) line else line

-- a line, unless it is empty
abbrev pub if_some : List ℕ → List (List ℕ)
if_some [] = []
if_some (b ∷ line) = (b ∷ line) ∷ []

-- Each piece before a line feed is a line, without its carriage return; the piece after the last line feed is a line
-- as it stands, unless it is empty.
abbrev pub lines_of : List (List ℕ) → List (List ℕ)
lines_of [] = []
lines_of (last ∷ []) = if_some last
lines_of (line ∷ next ∷ pieces) = without_return line ∷ lines_of (next ∷ pieces)

unfoldable pub lines : List ℕ → List (List ℕ)
lines text = lines_of (slice_split is_feed text)

-- an empty line, or one that begins with `#`
abbrev pub is_skipped : List ℕ → Bool
is_skipped [] = true
is_skipped (b ∷ line) = b == 35

abbrev pub is_empty : List ℕ → Bool
is_empty [] = true
is_empty (b ∷ bytes) = false

-- the pieces between spaces and tabs that aren't empty
unfoldable pub words : List ℕ → List (List ℕ)
words line = filter (λ word. not (is_empty word)) (slice_split is_blank line)

-- the one word that there is
abbrev pub one : List (List ℕ) → Option (List ℕ)
one (a ∷ []) = Some a
one words = None

-- the two words that there are
abbrev pub two : List (List ℕ) → Option (List ℕ × List ℕ)
two (a ∷ b ∷ []) = Some (a, b)
two words = None

-- the three words that there are
abbrev pub three : List (List ℕ) → Option (List ℕ × List ℕ × List ℕ)
three (a ∷ b ∷ c ∷ []) = Some (a, b, c)
three words = None

-- the four words that there are
abbrev pub four : List (List ℕ) → Option (List ℕ × List ℕ × List ℕ × List ℕ)
four (a ∷ b ∷ c ∷ d ∷ []) = Some (a, b, c, d)
four words = None
