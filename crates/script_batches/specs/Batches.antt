-- The batches of an input.
use Rattle.std.specs.Prelude.{◌+◌, ◌*◌, ℕ, min, List, [], ◌∷◌, ◌++◌, codes, length, take, nat_lt, Bool, true, false, ◌&&◌, Option, Some, None, if◌then◌else◌}
use Rattle.std.specs.Str.{bytes_eq}
use Rattle.script_text.specs.Lines.{is_feed, is_skipped, lines, one, words}

-- one byte more than a batch may have
unfoldable pub kept_bytes : ℕ
kept_bytes = 1048577

-- lines are counted up to 2 ^ 28
abbrev pub counted : ℕ → ℕ
counted n = min n 268435456

-- ---- lines

abbrev pub onto_first : ℕ → List (List ℕ) → List (List ℕ)
onto_first b [] = (b ∷ []) ∷ []
onto_first b (line ∷ more) = (b ∷ line) ∷ more

-- the lines of an input, each with the line feed at its end, which the last one may lack
abbrev pub raw_lines : List ℕ → List (List ℕ)
raw_lines [] = []
raw_lines (b ∷ bytes) = if is_feed b then (b ∷ []) ∷ raw_lines bytes else onto_first b (raw_lines bytes)

-- a word is `go`
abbrev pub says_go : Option (List ℕ) → Bool
says_go None = false
says_go (Some word) = bytes_eq word (codes "go")

-- the only word of the first line is `go`
abbrev pub begins_go : List (List ℕ) → Bool
begins_go [] = false
begins_go (line ∷ more) = says_go (one (words line))

-- The only word of a line is `go`. A line of more than 1,048,576 bytes isn't so.
abbrev pub is_go : List ℕ → Bool
is_go line = nat_lt (length line) kept_bytes && begins_go (lines line)

abbrev pub all_skipped : List (List ℕ) → Bool
all_skipped [] = true
all_skipped (line ∷ more) = is_skipped line && all_skipped more

-- a text of at most 1,048,576 bytes, each line of which is passed over
abbrev pub is_idle : List ℕ → Bool
is_idle text = nat_lt (length text) kept_bytes && all_skipped (lines text)

-- ---- batches

-- A batch: how many lines stand before it and how many were read with it, what is kept of its text, and whether `go` ended it.
pub record Read : Type 0 where
  pub before : ℕ
  pub last : ℕ
  pub text : List ℕ
  pub ended : Bool

-- lines one after the other
abbrev pub joined : List (List ℕ) → List ℕ
joined [] = []
joined (line ∷ more) = line ++ joined more

abbrev pub kept_of : List (List ℕ) → List ℕ
kept_of text = take kept_bytes (joined text)

-- After so many lines, and then these of a batch, and then more: a line `go` ends the batch. Lines without one at the end are a batch that isn't ended,
-- unless they ask for nothing.
abbrev pub batches_from : ℕ → List (List ℕ) → List (List ℕ) → List Read
batches_from before text [] =
    if is_idle (kept_of text) then [] else record { before = before; last = counted (before + length text); text = kept_of text; ended = false } ∷ []
batches_from before text (line ∷ more) =
    if is_go line
    then record { before = before; last = counted (before + length text + 1); text = kept_of text; ended = true }
    ∷ batches_from (counted (before + length text + 1)) [] more
    else batches_from before (text ++ line ∷ []) more

-- the batches of an input after so many lines
abbrev pub batches_of : ℕ → List ℕ → List Read
batches_of before input = batches_from before [] (raw_lines input)

-- ---- what is left of an input

-- bytes that were read and aren't taken yet, and how many reads may still be made
pub record HeldView : Type 0 where
  pub bytes : List ℕ
  pub reads : ℕ

-- what is held of an input, and after how many lines it stands
pub record InputView : Type 0 where
  pub held : HeldView
  pub lines : ℕ

-- how much may still be taken: a read gives 4,096 bytes at most
abbrev pub work_left : HeldView → ℕ
work_left held = 4097 * held.reads + length held.bytes
