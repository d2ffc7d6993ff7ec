-- Paths and the texts of links, with `%` and two hex digits for a byte.
use Rattle.std.specs.Prelude.{ℕ, ◌+◌, ◌*◌, List, [], ◌∷◌, length, sum_by, codes, Bool, not, ◌&&◌, ◌==◌, nat_le, Option, Some, None, if◌then◌else◌, option_and_then}
use Rattle.std.specs.Option.{option_map}
use Rattle.std.specs.List.{list_any, slice_split}
use Rattle.std.specs.Str.{bytes_eq}
use Rattle.hex.specs.Hex.{hex_digit_value}
use Rattle.nfs_types.specs.Names.{is_no_name}

-- the byte of two hex digits of either case, the high four bits first
abbrev pub escaped : ℕ → ℕ → Option ℕ
escaped high low = option_and_then (λ h. option_map (λ l. h * 16 + l) (hex_digit_value low)) (hex_digit_value high)

-- a byte before some bytes
abbrev pub before : Option ℕ → Option (List ℕ) → Option (List ℕ)
before None bytes = None
before (Some b) bytes = option_map (λ more. b ∷ more) bytes

-- the bytes of a text: `%` and two hex digits stand for one, each other byte for itself; None if a `%` isn't
-- followed by two digits
unfoldable pub decoded : List ℕ → Option (List ℕ)
decoded [] = Some []
decoded (b ∷ []) = if b == 37 then None else Some (b ∷ [])
decoded (b ∷ c ∷ []) = if b == 37 then None else before (Some b) (decoded (c ∷ []))
decoded (b ∷ c ∷ d ∷ text) = if b == 37 then before (escaped c d) (decoded text) else before (Some b) (decoded (c ∷ d ∷ text))

-- the byte that two hex digits at the front of a text stand for, and what follows them
abbrev pub first_escaped : List ℕ → Option (ℕ × List ℕ)
first_escaped [] = None
first_escaped (c ∷ []) = None
first_escaped (c ∷ d ∷ text) = option_map (λ byte. (byte, text)) (escaped c d)

-- the byte that the front of a text stands for, and what follows it
abbrev pub first_decoded : List ℕ → Option (ℕ × List ℕ)
first_decoded [] = None
first_decoded (b ∷ text) = if b == 37 then first_escaped text else Some (b, text)

-- 1 to 255 bytes without `/` and without a zero byte, neither `.` nor `..` (RFC 1813, section 2.5, filename3)
abbrev pub is_path_name : List ℕ → Bool
is_path_name bytes = nat_le (length bytes) 255 && not (is_no_name bytes) && not (bytes_eq bytes (codes ".")) && not (bytes_eq bytes (codes ".."))

-- the name that a piece of a path stands for
abbrev pub name_of : List ℕ → Option (List ℕ)
name_of piece = option_and_then (λ bytes. if is_path_name bytes then Some bytes else None) (decoded piece)

-- the names that the pieces stand for, if each stands for one
abbrev pub names_of : List (List ℕ) → Option (List (List ℕ))
names_of [] = Some []
names_of (piece ∷ pieces) = option_and_then (λ name. option_map (λ names. name ∷ names) (names_of pieces)) (name_of piece)

-- the bytes of a path of these names after decoding: each with its slash
abbrev pub path_bytes : List (List ℕ) → ℕ
path_bytes names = sum_by (λ name. length name + 1) names

-- a path's names, if they have 1,024 bytes at most
abbrev pub within_path : List (List ℕ) → Option (List (List ℕ))
within_path names = if nat_le (path_bytes names) 1024 then Some names else None

abbrev pub is_slash : ℕ → Bool
is_slash b = b == 47

-- the names between single slashes
abbrev pub names_between : List ℕ → Option (List (List ℕ))
names_between text = option_and_then within_path (names_of (slice_split is_slash text))

-- the names along a path, which begins with `/`; none if it is `/` alone
abbrev pub path_of : List ℕ → Option (List (List ℕ))
path_of [] = None
path_of (b ∷ []) = if b == 47 then Some [] else None
path_of (b ∷ c ∷ text) = if b == 47 then names_between (c ∷ text) else None

-- 1 to 1,024 bytes without a zero byte
abbrev pub is_target : List ℕ → Bool
is_target bytes = not (length bytes == 0) && nat_le (length bytes) 1024 && not (list_any (λ b. b == 0) bytes)

-- what a link is to lead to
abbrev pub target_of : List ℕ → Option (List ℕ)
target_of text = option_and_then (λ bytes. if is_target bytes then Some bytes else None) (decoded text)
