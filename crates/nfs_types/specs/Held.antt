-- Bytes that are held in an array: so many of them count, and the rest are zero.
use Rattle.std.specs.Prelude.{◌≡◌, ◌≤◌, ℕ, ◌-◌, List, ◌++◌, length, take, drop, replicate}
use Rattle.std.proofs.Common.{arith}
use Rattle.std.proofs.lemmas.List.{take-append-drop, length-take-le}

-- the array that holds these bytes
abbrev pub held : ℕ → List ℕ → List ℕ
held size bytes = bytes ++ replicate (size - length bytes) 0

pub record Holds (size : ℕ) (array : List ℕ) (len : ℕ) : Type 0 where
  pub whole : length array ≡ size
  pub fits : len ≤ size
  pub rest : drop len array ≡ replicate (size - len) 0

-- What an array holds gives the array back.
pub held_len : (size : ℕ) (array : List ℕ) (len : ℕ) → Holds size array len → length (take len array) ≡ len
held_len size array len h = length-take-le len array (omega (arith, h.whole, h.fits))

pub held_again : (size : ℕ) (array : List ℕ) (len : ℕ) → Holds size array len → held size (take len array) ≡ array
held_again size array len h = rw (held_len size array len h, ← h.rest) (take-append-drop len array)
