-- The bytes of a file from the start of a page on, as far as a read has them.
use Rattle.std.specs.Prelude.{ℕ, Bool, ◌+◌, ◌-◌, ◌*◌, ◌%◌, nat_le, ◌==◌, if◌then◌else◌, List, [], ◌++◌, length, take}
use Rattle.std.specs.Int.{div_ceil}

-- where they begin, how many they may be, and the bytes
pub record Bytes : Type 0 where
  pub start : ℕ
  pub limit : ℕ
  pub bytes : List ℕ

-- how many bytes the pages have that meet a range, which begins so far inside of a page
abbrev pub pages_size : ℕ → ℕ → ℕ
pages_size inside count = if count == 0 then 0 else div_ceil (inside + count) 4096 * 4096

-- no bytes yet of the pages that meet a range
abbrev pub nothing_of : ℕ → ℕ → Bytes
nothing_of offset count = record { start = offset - offset % 4096; limit = pages_size (offset % 4096) count; bytes = [] }

-- where the bytes end in the file
abbrev pub place_after : Bytes → ℕ
place_after b = b.start + length b.bytes

-- all pages are there
abbrev pub is_whole : Bytes → Bool
is_whole b = nat_le b.limit (length b.bytes)

-- more bytes after them, as many as there may be
abbrev pub with_more : List ℕ → Bytes → Bytes
with_more more b = record b { bytes = b.bytes ++ take (b.limit - length b.bytes) more }
