-- Bytes in hex digits of either case, two for a byte.
use Rattle.std.specs.Prelude.{ℕ, List, [], ◌∷◌, length, codes, Bool, not, ◌&&◌, ◌==◌, nat_le, Option, Some, None, Result, Ok, Err, if◌then◌else◌}
use Rattle.std.specs.Str.{bytes_eq}
use Rattle.hex.specs.Hex.{decode_of}
use Rattle.hex.specs.declared.error.FromHexError.{FromHexError}

abbrev pub is_payload_length : ℕ → Bool
is_payload_length n = not (n == 0) && nat_le n 65536

-- the bytes, if there are 1 to 65,536
abbrev pub some_bytes : Result (List ℕ) FromHexError → Option (List ℕ)
some_bytes (Ok bytes) = if is_payload_length (length bytes) then Some bytes else None
some_bytes (Err e) = None

-- 1 to 65,536 bytes
abbrev pub payload_of : List ℕ → Option (List ℕ)
payload_of hex = some_bytes (decode_of hex)

-- 1 to 65,536 bytes, or none if the word is `-`
abbrev pub contents_of : List ℕ → Option (List ℕ)
contents_of hex = if bytes_eq hex (codes "-") then Some [] else payload_of hex

abbrev pub only_byte : Result (List ℕ) FromHexError → Option ℕ
only_byte (Ok (byte ∷ [])) = Some byte
only_byte (Ok bytes) = None
only_byte (Err e) = None

-- one byte
abbrev pub byte_of : List ℕ → Option ℕ
byte_of hex = only_byte (decode_of hex)
