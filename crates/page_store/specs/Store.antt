-- The pages of a store as they stand in memory, and what they say of its disk.
use Rattle.std.specs.Prelude.{◌<◌, ◌≡◌, ◌≤◌, ℕ, List, length, set, Option, Some, None, Result, Ok, Err, slice_get}
use Rattle.nfs_types.specs.declared.wcc.Stamp.{Stamp}
use Rattle.page_store.specs.Disk.{Only, LeavesOnly, Every, byte_at}
use Rattle.page_store.specs.Slots.{IsSound, AreLong}
use Rattle.page_store.specs.Pages.{StoredPage, HasPage}
use Rattle.page_store.specs.declared.fault.StoreFault.{StoreFault}

-- a store: its disk; the page of each slot in memory, None if the slot counts as closed; the round that is under way; and the label,
-- as a page
pub record StoreView (D : Type 0) : Type 0 where
  pub disk : D
  pub pages : List (Option StoredPage)
  pub round : List (Option (Option StoredPage))
  pub label : Option StoredPage

-- a slot has this page, or none
abbrev pub IsShown : List ℕ → ℕ → Option StoredPage → Type 0
IsShown image k None = (page : StoredPage) → HasPage image k page → ⊥
IsShown image k (Some page) = HasPage image k page

-- so it is with each of the first n slots
pub record AreShown (image : List ℕ) (n : ℕ) (pages : List (Option StoredPage)) : Type 0 where
  pub all : length pages ≡ n
  pub each : (k : ℕ) (page : Option StoredPage) → slice_get pages k ≡ Some page → IsShown image k page

-- Each page in memory stands in its slot in every image. Of a slot that counts as closed nothing is said.
abbrev pub Stands : (List ℕ → Type 0) → List (Option StoredPage) → Type 0
Stands may_leave pages = (k : ℕ) (page : StoredPage) → slice_get pages k ≡ Some (Some page) → Every may_leave (λ c. HasPage c k page)

-- After a disk was opened: the pages in memory are those of one image of before, which is the only one now.
pub record IsOpened (n : ℕ) (before : List ℕ → Type 0) (seen : List ℕ) (now : List ℕ → Type 0) (pages : List (Option StoredPage)) : Type 0 where
  pub one : before seen
  pub only : Only seen now
  pub shown : AreShown seen n pages
  pub sound : (m : ℕ) → AreLong m before → IsSound m now
  pub stands : Stands now pages

-- after a page was stored whole: it stands in its slot, and a crash leaves just what a read gives
pub record IsStored (slot : ℕ) (page : StoredPage) (seen : List ℕ) (now : List ℕ → Type 0) : Type 0 where
  pub there : HasPage seen slot page
  pub only : Only seen now

-- the pages in memory after a store into a slot: the page at Ok, and else none
abbrev pub pages_after : {T : Type 0} → ℕ → StoredPage → Result T StoreFault → List (Option StoredPage) → List (Option StoredPage)
pages_after slot page (Ok _) old = set old slot (Some page)
pages_after slot page (Err _) old = set old slot None

abbrev pub flat : {A : Type 0} → Option (Option A) → Option A
flat None = None
flat (Some o) = o

-- the page that a slot shows
abbrev pub shown_at : ℕ → List (Option StoredPage) → Option StoredPage
shown_at k pages = flat (slice_get pages k)

-- a slot has the page of this file, stamp and number
abbrev pub IsOf : List ℕ → Stamp → ℕ → Option StoredPage → Type 0
IsOf file stamp index None = ⊥
IsOf file stamp index (Some page) = (page.file ≡ file) × (page.stamp ≡ stamp) × (page.index ≡ index)

-- the first n bytes are zeros, and are there
pub record HasZeros (n : ℕ) (image : List ℕ) : Type 0 where
  pub long : n ≤ length image
  pub zeros : (i : ℕ) → i < n → byte_at image i ≡ 0

-- After calls that only read or sync: a read gives the same, and a crash at any moment leaves what it left before.
pub record StaysAs {D : Type 0} (seen : D → List ℕ) (may_leave : D → List ℕ → Type 0) (moment : D → ℕ) (left_since : D → ℕ → List ℕ → Type 0)
    (old new : D) : Type 0 where
  pub same : seen new ≡ seen old
  pub fewer : Every (may_leave new) (may_leave old)
  pub moments : LeavesOnly moment left_since old new (may_leave old)
