-- A record as the one fragment in which it goes out on a stream of bytes. (RFC 5531, section 11)
use Rattle.std.specs.Prelude.{◌≡◌, ◌<◌, ◌≤◌, ℕ, ◌+◌, ◌^◌, List, ◌++◌, length, drop}
use Rattle.byteorder.specs.Endian.{big_bytes}

-- the record behind its mark: that the fragment is the last one, and how many bytes it has
unfoldable pub marked : List ℕ → List ℕ
marked rec = big_bytes 4 (2 ^ 31 + length rec) ++ rec

-- the text is a record behind its mark, which has 31 bits for the number of bytes
pub record IsMarked (text : List ℕ) : Type 0 where
  pub room : 4 ≤ length text
  pub is : text ≡ marked (drop 4 text)
  pub fits : length (drop 4 text) < 2 ^ 31
