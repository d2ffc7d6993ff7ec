-- A text while it is written: there is none once it has more bytes than a text may have.
use Rattle.std.specs.Prelude.{◌≡◌, ℕ, List, [], ◌∷◌, ◌++◌, length, Bool, true, false, nat_lt, Option, Some, None, if◌then◌else◌}

-- a text of 1,048,576 bytes at most
abbrev pub within : List ℕ → Option (List ℕ)
within text = if nat_lt 1048576 (length text) then None else Some text

-- with these bytes at the end
abbrev pub put : Option (List ℕ) → List ℕ → Option (List ℕ)
put None bytes = None
put (Some text) [] = Some text
put (Some text) (byte ∷ bytes) = within (text ++ byte ∷ bytes)

abbrev pub is_none : Option (List ℕ) → Bool
is_none None = true
is_none (Some text) = false

-- what is kept of a text that had so many bytes
abbrev pub kept : ℕ → List ℕ → Option (List ℕ)
kept count out = if nat_lt 1048576 count then None else Some out

-- what is kept has so many bytes, unless there are too many
pub record IsCounted (count : ℕ) (out : List ℕ) : Type 0 where
  pub counted : nat_lt 1048576 count ≡ false → count ≡ length out
