-- The pages of a file that meet a range of it.
use Rattle.std.specs.Prelude.{◌≤◌, ◌+◌, ◌-◌, ◌*◌, ◌/◌, ◌==◌, ℕ, if◌then◌else◌}
use Rattle.world_model.specs.ReadSize.{page_bytes}
use Rattle.world_model.specs.declared.op.Op.{Op}
use Rattle.world_model.specs.declared.op.Op.TheVariants as ops

-- the page with the byte at this offset, and the first page from it on
abbrev pub page_of : ℕ → ℕ
page_of offset = offset / page_bytes

abbrev pub page_from : ℕ → ℕ
page_from offset = (offset + 4095) / page_bytes

-- how many pages meet the range of a read
abbrev pub pages_met : Op → ℕ
pages_met (ops.Read slot offset count) = if count == 0 then 0 else page_from (offset + count) - page_of offset
pages_met op = 0

-- how many READs of this size a page takes
abbrev pub reads_a_page : ℕ → ℕ
reads_a_page rsize = (page_bytes + (rsize - 1)) / rsize

-- So many bytes at a place, one at least, lie inside the pages that meet the range.
pub record InsidePages (offset count at size : ℕ) : Type 0 where
  pub some : 1 ≤ count
  pub asked : 1 ≤ size
  pub low : page_of offset * page_bytes ≤ at
  pub high : at + size ≤ page_from (offset + count) * page_bytes
