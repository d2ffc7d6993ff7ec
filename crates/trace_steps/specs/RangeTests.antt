-- The tests that decide what a change of a range makes of a list of bytes.
use Rattle.std.specs.Prelude.{◌==◌, ◌&&◌, ℕ, Bool, true, List, [], ◌∷◌}
use Rattle.std.specs.Str.{bytes_eq}
use Rattle.world_model.specs.Bytes.{resized, put_at, part}

-- the list is that one with the bytes put at the offset
unfoldable pub is_put : ℕ → List ℕ → List ℕ → List ℕ → Bool
is_put offset bytes old later = bytes_eq later (put_at offset bytes old)

-- the list is that one cut or grown to the size
unfoldable pub is_resized : ℕ → List ℕ → List ℕ → Bool
is_resized size old later = bytes_eq later (resized size old)

-- these are so many bytes of the list at the offset
unfoldable pub is_part : ℕ → ℕ → List ℕ → List ℕ → Bool
is_part offset count whole bytes = bytes_eq bytes (part offset count whole)

-- each byte is zero
abbrev pub are_zeros : List ℕ → Bool
are_zeros [] = true
are_zeros (b ∷ bs) = (b == 0) && are_zeros bs
