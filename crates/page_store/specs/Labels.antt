-- What a store is for: words that name a server and its folder, and the handle of the root. It stands behind the slots as a page: the
-- handle is its file, the number of slots its number, the words are its bytes, and its stamp is all zeros.
use Rattle.std.specs.Prelude.{◌<◌, ◌≡◌, ◌⊎◌, ℕ, List, Option, Some, None, Result, Ok, Err, slice_get}
use Rattle.nfs_types.specs.declared.wcc.Stamp.{Stamp}
use Rattle.page_store.specs.declared.fault.StoreFault.{StoreFault}
use Rattle.page_store.specs.Disk.{Only}
use Rattle.page_store.specs.Pages.{StoredPage, HasPage, WasKept, stored_page}
use Rattle.page_store.specs.Rounds.{KeepsAll}

abbrev pub no_stamp : Stamp
no_stamp = record { size = 0; mtime = record { seconds = 0; nanos = 0 }; ctime = record { seconds = 0; nanos = 0 } }

-- the label of a store of n slots, as a page
abbrev pub label_for : ℕ → List ℕ → List ℕ → StoredPage
label_for n root words = stored_page root no_stamp n words

-- a page is the label of a store of n slots
abbrev pub IsLabel : ℕ → StoredPage → Type 0
IsLabel n page = (page.index ≡ n) × (page.stamp ≡ no_stamp)

-- an image has this label behind n slots, or none
abbrev pub IsLabelled : List ℕ → ℕ → Option StoredPage → Type 0
IsLabelled image n None = (page : StoredPage) → HasPage image n page → IsLabel n page → ⊥
IsLabelled image n (Some page) = HasPage image n page × IsLabel n page

-- no slot shows a page
abbrev pub AreNone : List (Option StoredPage) → Type 0
AreNone pages = (k : ℕ) (page : StoredPage) → slice_get pages k ≡ Some (Some page) → ⊥

-- While a label is put behind n slots: pages stay or go, and an image that has it, if none had it before, has no page.
pub record Relabels (n : ℕ) (label : StoredPage) (old : List ℕ → Type 0) (image : List ℕ) : Type 0 where
  pub pages : KeepsAll n old image
  pub labels : (l : StoredPage) → HasPage image n l → WasKept old n l ⊎ ((l ≡ label) × ((k : ℕ) (page : StoredPage) → k < n → HasPage image k page → ⊥))

-- After that: it stands there, no slot has a page, and a crash leaves just what a read gives.
pub record IsRelabelled (n : ℕ) (label : StoredPage) (seen : List ℕ) (now : List ℕ → Type 0) : Type 0 where
  pub there : HasPage seen n label
  pub none : (k : ℕ) (page : StoredPage) → k < n → HasPage seen k page → ⊥
  pub only : Only seen now

-- the label in memory after one was to be put there: none after an error
abbrev pub label_after : {T : Type 0} → StoredPage → Result T StoreFault → Option StoredPage
label_after label (Ok _) = Some label
label_after label (Err _) = None
