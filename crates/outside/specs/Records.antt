-- Records on a stream of bytes. (RFC 5531 section 11)
use Rattle.std.specs.Prelude.{ℕ, zero, suc, ◌%◌, ◌^◌, List, [], ◌∷◌, ◌++◌, length, take, drop, Option, Some, None, nat_lt, if◌then◌else◌}
use Rattle.byteorder.specs.Endian.{big_number}

infixl 10 ◌>>=◌
abbrev pub ◌>>=◌ : {A B : Type 0} → Option A → (A → Option B) → Option B
(Some x) >>= f = f x
None >>= f = None

-- The record that the fragments at the front make behind what came before them, and the bytes after it: each fragment
-- has a word with its length, whose top bit is set on the last one. The number bounds how many fragments are looked at.
unfoldable pub joined : ℕ → List ℕ → List ℕ → Option (List ℕ × List ℕ)
joined zero front bytes = None
joined (suc n) front bytes =
    if nat_lt (length bytes) 4 then None else
    (if nat_lt (length (drop 4 bytes)) (big_number 4 bytes % 2 ^ 31) then None else
    (if nat_lt (big_number 4 bytes) (2 ^ 31) then joined n (front ++ take (big_number 4 bytes % 2 ^ 31) (drop 4 bytes))
    (drop (big_number 4 bytes % 2 ^ 31) (drop 4 bytes)) else
    Some (front ++ take (big_number 4 bytes % 2 ^ 31) (drop 4 bytes), drop (big_number 4 bytes % 2 ^ 31) (drop 4 bytes))))

-- the whole record at the front, and the bytes after it; no bytes have more fragments than bytes
unfoldable pub record_at : List ℕ → Option (List ℕ × List ℕ)
record_at bytes = joined (length bytes) [] bytes

-- what is left after so many whole records
abbrev pub left : ℕ → List ℕ → Option (List ℕ)
left zero bytes = Some bytes
left (suc n) bytes = record_at bytes >>= λ r. left n r.1

-- the record of that number, counted from 0
abbrev pub nth_record : ℕ → List ℕ → Option (List ℕ)
nth_record n bytes = left n bytes >>= λ rest. record_at rest >>= λ r. Some r.0

-- whole records, and the bytes behind them
pub record Split : Type 0 where
  pub records : List (List ℕ)
  pub rest : List ℕ

-- a record at the front, if there is one, before those of the bytes after it
abbrev pub split_next : (List ℕ → Split) → List ℕ → Option (List ℕ × List ℕ) → Split
split_next more bytes None = record { records = []; rest = bytes }
split_next more bytes (Some r) = record { records = r.0 ∷ (more r.1).records; rest = (more r.1).rest }

unfoldable pub split_in : ℕ → List ℕ → Split
split_in zero bytes = record { records = []; rest = bytes }
split_in (suc n) bytes = split_next (split_in n) bytes (record_at bytes)

-- all whole records at the front, in order, and the bytes behind them; no bytes have more records than bytes
abbrev pub split : List ℕ → Split
split bytes = split_in (length bytes) bytes
