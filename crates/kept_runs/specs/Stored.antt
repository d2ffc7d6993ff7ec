-- What the images of a disk hold of files, by the history of a server (RFC 1813, sections 2.6 and 3.3.6).
use Rattle.std.specs.Prelude.{◌≡◌, ◌≤◌, ◌<◌, ℕ, List, length, Option, Some, None}
use Rattle.page_cache.specs.Bytes.{page_at}
use Rattle.page_cache.specs.Sound.{IsSound}
use Rattle.page_store.specs.Disk.{Every, LeavesOnly}
use Rattle.page_store.specs.Pages.{StoredPage, HasPage}
use Rattle.page_store.specs.Store.{Stands}
use Rattle.kept_pages.specs.Kept.{KeepsOrKept}
use Rattle.world_model.specs.History.{History}
use Rattle.law_reads.specs.Kept.{HasStamp}
use Rattle.core_answers.specs.pages.True.{IsEarly}
use Rattle.script_runs.specs.declared.stock.Stock.{Stock}

-- At a moment until u the page's file had its stamp, and at each such moment this was the page.
pub record WasTrue (t : History) (u : ℕ) (page : StoredPage) : Type 0 where
  pub n : ℕ
  pub within : n ≤ u
  pub now : List ℕ
  pub has : HasStamp t n page.file page.stamp now
  pub each : (m : ℕ) (later : List ℕ) → m ≤ u → HasStamp t m page.file page.stamp later → page.bytes ≡ page_at page.index later

-- each open slot of an image has such a page
abbrev pub Stored : ℕ → History → ℕ → List ℕ → Type 0
Stored slots t u image = (k : ℕ) (page : StoredPage) → k < slots → HasPage image k page → WasTrue t u page

-- Before a session, until a moment before any operation began: the disk tells what it holds; each image that a crash could leave has true pages; and each page
-- in memory stands in all of them.
pub record BeganTrue {D : Type 0} (tells : D → Type 0) (may_leave : D → List ℕ → Type 0) (slots : List (Option StoredPage)) (disk : D) (t : History) : Type 0 where
  pub told : tells disk
  pub stands : Stands (may_leave disk) slots
  pub until : ℕ
  pub early : IsEarly t until
  pub stored : Every (may_leave disk) (Stored (length slots) t until)

-- While the pages are stored that a session handed back, a crash leaves in the slots pages that stood there, or these. If it handed none back, nothing changes.
abbrev pub KeepsBack : {D : Type 0} → (D → List ℕ → Type 0) → (D → ℕ) → (D → ℕ → List ℕ → Type 0) → ℕ → Option Stock → D → D → Type 0
KeepsBack may_leave moment left_since slots None old new = LeavesOnly moment left_since old new (may_leave old)
KeepsBack may_leave moment left_since slots (Some back) old new =
    IsSound back.pages × LeavesOnly moment left_since old new (KeepsOrKept slots slots back.pages (may_leave old))
