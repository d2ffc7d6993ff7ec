-- What storing the pages of a cache leaves on a disk.
use Rattle.std.specs.Prelude.{◌<◌, ◌≡◌, ◌⊎◌, ℕ, List, Some}
use Rattle.page_cache.specs.Pages.{Pages, nth_handed}
use Rattle.page_store.specs.Pages.{StoredPage, HasPage, WasKept}
use Rattle.page_store.specs.Disk.{Every, LeavesOnly}
use Rattle.page_store.specs.Rounds.{Round, IsFilled, IsUnderWay, KeepsAll}
use Rattle.page_store.specs.Slots.{IsSound}
use Rattle.page_store.specs.Store.{StoreView, Stands}

-- a cache keeps this page, under its file's known stamp
abbrev pub IsKept : Pages → StoredPage → Type 0
IsKept c page = (n : ℕ) × (nth_handed n c ≡ Some (record { file = page.file; stamp = page.stamp; index = page.index; bytes = page.bytes }))

-- Each page in the first n places of an image stood there in one of these images; or it is in a slot and the cache keeps
-- it.
abbrev pub KeepsOrKept : ℕ → ℕ → Pages → (List ℕ → Type 0) → List ℕ → Type 0
KeepsOrKept n slots c old image = (k : ℕ) (page : StoredPage) → k < n → HasPage image k page → WasKept old k page ⊎ ((k < slots) × IsKept c page)

-- the cache keeps the pages of a round
abbrev pub AreKept : Pages → Round → Type 0
AreKept c round = (k : ℕ) (page : StoredPage) → IsFilled round k page → IsKept c page

-- While the slots of a round are filled: a crash leaves what stood there before, and the round goes on.
pub record Fills {D : Type 0} (seen : D → List ℕ) (may_leave : D → List ℕ → Type 0) (moment : D → ℕ) (left_since : D → ℕ → List ℕ → Type 0) (n : ℕ)
    (old new : StoreView D) : Type 0 where
  pub sound : IsSound n (may_leave new.disk)
  pub under_way : IsUnderWay (seen new.disk) (may_leave new.disk) new.round
  pub leaves : Every (may_leave new.disk) (KeepsAll n (may_leave old.disk))
  pub moments : LeavesOnly moment left_since old.disk new.disk (KeepsAll n (may_leave old.disk))
  pub stands : Stands (may_leave old.disk) old.pages → Stands (may_leave new.disk) new.pages
