-- What WRITE, COMMIT and SETATTR make of a list of bytes (RFC 1813, sections 3.3.2, 3.3.7 and 3.3.21).
use Rattle.std.specs.Prelude.{ℕ, List, [], ◌∷◌, ◌++◌, ◌+◌, ◌-◌, ◌==◌, length, take, drop, replicate, if◌then◌else◌}

-- the list with zeros at its end, if it is shorter than that
abbrev pub filled : ℕ → List ℕ → List ℕ
filled size old = old ++ replicate (size - length old) 0

-- the list cut to a size, or grown to it with zeros
abbrev pub resized : ℕ → List ℕ → List ℕ
resized size old = take size (filled size old)

-- The list with bytes put at an offset, a gap before them filled with zeros. No bytes change nothing.
abbrev pub put_at : ℕ → List ℕ → List ℕ → List ℕ
put_at offset [] old = old
put_at offset (b ∷ bytes) old = resized offset old ++ (b ∷ bytes) ++ drop (offset + length (b ∷ bytes)) old

-- the bytes from an offset, so many at most
abbrev pub part : ℕ → ℕ → List ℕ → List ℕ
part offset count bytes = take count (drop offset bytes)

-- the bytes that a COMMIT speaks of: a count of 0 means all up to the end
abbrev pub committed_part : ℕ → ℕ → List ℕ → List ℕ
committed_part offset count bytes = if count == 0 then drop offset bytes else part offset count bytes
