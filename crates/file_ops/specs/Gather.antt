-- How a read takes kept pages, and which part of the file it asks for next.
use Rattle.std.specs.Prelude.{ℕ, zero, suc, ◌+◌, ◌-◌, ◌/◌, ◌||◌, Bool, false, min, nat_le, nat_lt, if◌then◌else◌, List, length, Option, None, Some, is_some}
use Rattle.std.specs.Option.{option_map_or}
use Rattle.nfs_types.specs.declared.wcc.Stamp.{Stamp}
use Rattle.page_cache.specs.Bytes.{start_of}
use Rattle.page_cache.specs.Pages.{Pages, known_of, page_of, after_page}
use Rattle.file_ops.specs.Base.{Bytes, place_after, is_whole, with_more}
use Rattle.file_ops.specs.declared.gather.Found.{Found}
use Rattle.file_ops.specs.declared.gather.Found.TheVariants.{Page, Ended, Wanted}

-- what was found, and the bytes and the pages then
pub record Gathered : Type 0 where
  pub found : Found
  pub base : Bytes
  pub pages : Pages

-- whether a file of a known size ends at a place or before it
abbrev pub is_past : Option Stamp → ℕ → Bool
is_past known place = option_map_or (λ stamp. nat_le stamp.size place) known false

-- the number of the page in which the next byte stands
abbrev pub next_page : Bytes → ℕ
next_page base = place_after base / 4096

-- A kept page is taken; one that is short of 4,096 bytes ends the bytes.
abbrev pub found_of : Option (List ℕ) → Found
found_of None = Wanted
found_of (Some bytes) = if nat_lt (length bytes) 4096 then Ended else Page

abbrev pub base_with : Option (List ℕ) → Bytes → Bytes
base_with None base = base
base_with (Some bytes) base = with_more bytes base

-- The next page is taken if it is kept; the bytes end if all pages are there, or the file is known to end.
abbrev pub taken : List ℕ → Bytes → Pages → Gathered
taken file base pages =
    if is_whole base || is_past (known_of file pages) (place_after base) then record { found = Ended; base = base; pages = pages } else record {
      found = found_of (page_of file (next_page base) pages);
      base = base_with (page_of file (next_page base) pages) base;
      pages = after_page file (next_page base) pages;
    }

-- one page more, if the last one was whole
abbrev pub then_taken : List ℕ → Gathered → Found → Gathered
then_taken file g Page = taken file g.base g.pages
then_taken file g Ended = g
then_taken file g Wanted = g

-- at most so many pages are taken, one after the other
abbrev pub gathered : List ℕ → ℕ → Bytes → Pages → Gathered
gathered file zero base pages = record { found = Page; base = base; pages = pages }
gathered file (suc n) base pages = then_taken file (gathered file n base pages) (gathered file n base pages).found

-- where the next READ ends at the latest, and the pages once those after its first one were looked at
pub record Planned : Type 0 where
  pub end : ℕ
  pub pages : Pages

-- A READ up to a place stops before a page that begins earlier and is kept.
abbrev pub stopped : List ℕ → ℕ → Planned → Planned
stopped file index plan = if nat_le plan.end (start_of index) then plan else record {
  end = if is_some (page_of file index plan.pages) then start_of index else plan.end;
  pages = after_page file index plan.pages;
}

-- so many pages are looked at, one after the other
abbrev pub planned : List ℕ → ℕ → ℕ → Planned → Planned
planned file index zero plan = plan
planned file index (suc n) plan = stopped file (index + n) (planned file index n plan)

-- how many bytes a READ may ask for: what the pages lack, at most so many
abbrev pub most_asked : ℕ → Bytes → ℕ
most_asked rsize base = min (base.limit - length base.bytes) rsize

-- the next READ begins where the bytes end
abbrev pub next_plan : List ℕ → ℕ → Bytes → Pages → Planned
next_plan file rsize base pages =
    planned file (next_page base + 1) (base.limit / 4096) (record { end = place_after base + most_asked rsize base; pages = pages })

-- how many bytes it asks for
abbrev pub next_count : List ℕ → ℕ → Bytes → Pages → ℕ
next_count file rsize base pages = min ((next_plan file rsize base pages).end - place_after base) (most_asked rsize base)
