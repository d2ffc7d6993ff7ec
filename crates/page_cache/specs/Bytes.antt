-- Bytes of a file, and those of one of its pages of 4,096 bytes, after WRITE and SETATTR (RFC 1813, sections 3.3.7 and 3.3.2).
use Rattle.std.specs.Prelude.{ℕ, List, [], ◌∷◌, ◌++◌, ◌+◌, ◌-◌, ◌*◌, Bool, ◌||◌, ◌==◌, nat_le, min, length, take, drop, replicate, if◌then◌else◌}

-- bytes cut to a size, or grown to it with zeros
abbrev pub resized : ℕ → List ℕ → List ℕ
resized size old = take size (old ++ replicate (size - length old) 0)

-- bytes over those from an offset on, a gap before them filled with zeros
abbrev pub over : ℕ → List ℕ → List ℕ → List ℕ
over offset bytes old = resized offset old ++ bytes ++ drop (offset + length bytes) old

-- the file so written; no bytes change nothing
abbrev pub put_at : ℕ → List ℕ → List ℕ → List ℕ
put_at offset [] old = old
put_at offset (b ∷ bytes) old = over offset (b ∷ bytes) old

-- where a page begins
abbrev pub start_of : ℕ → ℕ
start_of index = index * 4096

-- a page of a file: it is shorter if the file ends in it, and empty past the end
abbrev pub page_at : ℕ → List ℕ → List ℕ
page_at index bytes = take 4096 (drop (start_of index) bytes)

-- whether bytes at an offset leave a page as it is: there are none, or they end before it
abbrev pub misses : ℕ → ℕ → List ℕ → Bool
misses index offset bytes = (length bytes == 0) || nat_le (offset + length bytes) (start_of index)

-- where in a page bytes at an offset begin
abbrev pub begins_in : ℕ → ℕ → ℕ
begins_in index offset = min (offset - start_of index) 4096

-- those of the bytes that fall into a page
abbrev pub share_of : ℕ → ℕ → List ℕ → List ℕ
share_of index offset bytes = take (4096 - begins_in index offset) (drop (start_of index - offset) bytes)

-- a page after bytes were written at an offset of the file
abbrev pub put_page : ℕ → ℕ → List ℕ → List ℕ → List ℕ
put_page index offset bytes old =
    if misses index offset bytes then old else over (begins_in index offset) (share_of index offset bytes) old

-- a page after the file was given a size
abbrev pub cut_page : ℕ → ℕ → List ℕ → List ℕ
cut_page index size old = resized (min (size - start_of index) 4096) old
