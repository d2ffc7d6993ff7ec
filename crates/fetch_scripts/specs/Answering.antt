-- What the text of answers says.
use Rattle.std.specs.Prelude.{◌≡◌, ◌<◌, ◌⊎◌, ℕ, suc, length, slice_index, List, [], ◌∷◌, Contains, codes, Option, Some, None}
use Rattle.script_text.specs.Lines.{lines, words}
use Rattle.script_text.specs.Numbers.{number_of}
use Rattle.script_text.specs.Payloads.{payload_of}

-- a line has a lane, this number, and these words behind them
pub record Numbered (line : List ℕ) (number : ℕ) (shown : List (List ℕ)) : Type 0 where
  pub lane : List ℕ
  pub digits : List ℕ
  pub parts : words line ≡ lane ∷ digits ∷ shown
  pub is : number_of 1 268435455 digits ≡ Some number

-- a line begins at a place of a text that isn't over there
pub record BeginsLine (text : List ℕ) (place : ℕ) : Type 0 where
  pub inside : place < length text
  pub after : (place ≡ 0) ⊎ ((before : ℕ) × (place ≡ suc before) × (slice_index text before ≡ 10))

-- A line of the text has a lane, this number, and these words behind them.
pub record Says (text : List ℕ) (number : ℕ) (shown : List (List ℕ)) : Type 0 where
  pub line : List ℕ
  pub has : Contains (lines text) line
  pub numbered : Numbered line number shown

-- the line of this number is answered by `ok`
pub record IsOk (text : List ℕ) (number : ℕ) : Type 0 where
  pub shown : List (List ℕ)
  pub says : Says text number (codes "ok" ∷ shown)

-- the bytes that the digits behind `ok` stand for; without any they are none
abbrev pub bytes_of : List (List ℕ) → Option (List ℕ)
bytes_of [] = Some []
bytes_of (digits ∷ more) = payload_of digits

-- the line of this number is answered by `ok` and these bytes
pub record IsRead (text : List ℕ) (number : ℕ) (bytes : List ℕ) : Type 0 where
  pub shown : List (List ℕ)
  pub says : Says text number (codes "ok" ∷ shown)
  pub are : bytes_of shown ≡ Some bytes
