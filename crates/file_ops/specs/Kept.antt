-- Which pages a read offers to the cache out of a reply.
use Rattle.std.specs.Prelude.{ℕ, zero, suc, ◌+◌, ◌-◌, ◌/◌, ◌&&◌, ◌||◌, Bool, nat_le, nat_lt, if◌then◌else◌, List, length, take, drop, Option, None, Some}
use Rattle.nfs_types.specs.declared.wcc.Stamp.{Stamp}
use Rattle.page_cache.specs.Bytes.{start_of}
use Rattle.page_cache.specs.Pages.{Pages, keep_answer, after_keep}

-- the bytes that a reply told from the start of a page on, if they begin at a place that isn't after it
abbrev pub told_of : ℕ → List ℕ → ℕ → Option (List ℕ)
told_of place bytes index = if nat_lt (start_of index) place then None else Some (drop (start_of index - place) bytes)

-- They are the whole page and more, or end where the file does.
abbrev pub is_given : List ℕ → Bool → Bool
is_given told ends = nat_le 4096 (length told) || (ends && nat_lt 0 (length told))

-- a page is offered
unfoldable pub kept_page : List ℕ → Stamp → ℕ → ℕ → List ℕ → Pages → Pages
kept_page file stamp sent index page pages = after_keep (keep_answer file stamp sent pages) stamp (record { file = file; index = index }) page pages

-- the same if the reply gave it
abbrev pub offered_told : List ℕ → Stamp → ℕ → Bool → ℕ → Option (List ℕ) → Pages → Pages
offered_told file stamp sent ends index None pages = pages
offered_told file stamp sent ends index (Some told) pages = if is_given told ends then kept_page file stamp sent index (take 4096 told) pages else pages

unfoldable pub offered : List ℕ → Stamp → ℕ → ℕ → List ℕ → Bool → ℕ → Pages → Pages
offered file stamp sent place bytes ends index pages = offered_told file stamp sent ends index (told_of place bytes index) pages

-- so many pages from one on, one after the other
abbrev pub offered_from : List ℕ → Stamp → ℕ → ℕ → List ℕ → Bool → ℕ → ℕ → Pages → Pages
offered_from file stamp sent place bytes ends index zero pages = pages
offered_from file stamp sent place bytes ends index (suc n) pages =
    offered file stamp sent place bytes ends (index + n) (offered_from file stamp sent place bytes ends index n pages)

-- all pages that it gave
abbrev pub all_offered : List ℕ → Stamp → ℕ → ℕ → List ℕ → Bool → Pages → Pages
all_offered file stamp sent place bytes ends pages = offered_from file stamp sent place bytes ends (place / 4096) (length bytes / 4096 + 2) pages
