-- Records under the limits of this client: 131,072 bytes and 4,096 fragments.
use Rattle.std.specs.Prelude.{ℕ, zero, suc, ◌+◌, ◌%◌, ◌^◌, List, [], ◌++◌, length, take, drop, Bool, nat_lt, if◌then◌else◌}
use Rattle.byteorder.specs.Endian.{big_number}

-- What stands at the front of bytes: no whole record yet; one that is past the limits; or a record and what follows it.
pub data Found : Type 0 where
  Cut : Found
  Long : Found
  Whole : (rec rest : List ℕ) → Found

-- a fragment of which so many bytes are to come, behind what came before; then the record is whole, or it goes on
abbrev pub body : (List ℕ → List ℕ → Found) → List ℕ → ℕ → Bool → List ℕ → Found
body next front len more bytes =
    if nat_lt (length bytes) len then Cut else
    (if more then next (front ++ take len bytes) (drop len bytes) else Whole (front ++ take len bytes) (drop len bytes))

-- a fragment of that header: it is past the limit if the lengths in the headers add up to more than 131,072
abbrev pub opened : (List ℕ → List ℕ → Found) → List ℕ → ℕ → List ℕ → Found
opened next front header bytes =
    if nat_lt 131072 (length front + header % 2 ^ 31) then Long else body next front (header % 2 ^ 31) (nat_lt header (2 ^ 31)) bytes

-- What the fragments at the front make behind what came before, if so many may begin. One header more is past the limit.
unfoldable pub found : ℕ → List ℕ → List ℕ → Found
found zero front bytes = if nat_lt (length bytes) 4 then Cut else Long
found (suc n) front bytes = if nat_lt (length bytes) 4 then Cut else opened (found n) front (big_number 4 bytes) (drop 4 bytes)

unfoldable pub found_at : List ℕ → Found
found_at bytes = found 4096 [] bytes
