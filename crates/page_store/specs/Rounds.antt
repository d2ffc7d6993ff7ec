-- A round of stores into several slots: all gates are closed, then the bodies are written, then the gates are opened.
use Rattle.std.specs.Prelude.{◌<◌, ◌≤◌, ◌≡◌, ◌⊎◌, ◌*◌, ℕ, List, length, [], ◌∷◌, set, slice_get, Option, Some, None, Result, Ok, Err, Bool, true, false}
use Rattle.page_store.specs.Disk.{Only}
use Rattle.page_store.specs.Slots.{IsOpen, IsShut, SameBody, SameSlot}
use Rattle.page_store.specs.Pages.{StoredPage, HasPage, WasKept, page_of, body_in}
use Rattle.page_store.specs.Store.{flat, shown_at}
use Rattle.page_store.specs.declared.fault.StoreFault.{StoreFault}

-- For each slot: None outside of the round; a slot in the round has its page once its body was written.
abbrev pub Round : Type 0
Round = List (Option (Option StoredPage))

-- a slot is in the round
abbrev pub IsIn : Round → ℕ → Type 0
IsIn round k = (page : Option StoredPage) × (slice_get round k ≡ Some (Some page))

-- its body was written, with this page
abbrev pub IsFilled : Round → ℕ → StoredPage → Type 0
IsFilled round k page = slice_get round k ≡ Some (Some (Some page))

-- an image has the bodies that were written
abbrev pub HasBodies : Round → List ℕ → Type 0
HasBodies round image = (k : ℕ) (page : StoredPage) → IsFilled round k page → page_of (body_in image k) ≡ Some page

-- Between the calls of a round: each of its slots is closed in every image, and a read gives the bodies that were written.
pub record IsUnderWay (seen : List ℕ) (may_leave : List ℕ → Type 0) (round : Round) : Type 0 where
  pub shut : (k : ℕ) → IsIn round k → IsShut may_leave k
  pub whole : HasBodies round seen

-- each page in the first n slots of an image stood there in one of these images
abbrev pub KeepsAll : ℕ → (List ℕ → Type 0) → List ℕ → Type 0
KeepsAll n old image = (k : ℕ) (page : StoredPage) → k < n → HasPage image k page → WasKept old k page

-- the same, or it is the page that the round has for the slot
abbrev pub KeepsOrFills : ℕ → Round → (List ℕ → Type 0) → List ℕ → Type 0
KeepsOrFills n round old image = (k : ℕ) (page : StoredPage) → k < n → HasPage image k page → WasKept old k page ⊎ IsFilled round k page

-- all of the first n slots outside of the round are those of one of these images
abbrev pub IsOutside : ℕ → Round → (List ℕ → Type 0) → List ℕ → Type 0
IsOutside n round old image = (d : List ℕ) × old d × ((k : ℕ) → k < n → (IsIn round k → ⊥) → SameSlot k image d)

-- While gates are opened over one image: all bodies stay, and so does what is outside of the round; only gates of slots that were
-- filled open.
pub record IsOpening (n : ℕ) (round : Round) (image c : List ℕ) : Type 0 where
  pub long : 4224 * n ≤ length c
  pub bodies : (k : ℕ) → k < n → SameBody k c image
  pub gates : (k : ℕ) → k < n → IsOpen c k → IsOpen image k ⊎ ((page : StoredPage) × IsFilled round k page)
  pub aside : (k : ℕ) → k < n → (IsIn round k → ⊥) → SameSlot k c image

-- after a round that was ended whole: its pages stand in their slots, and a crash leaves just what a read gives
pub record IsEnded (round : Round) (seen : List ℕ) (now : List ℕ → Type 0) : Type 0 where
  pub there : (k : ℕ) (page : StoredPage) → IsFilled round k page → HasPage seen k page
  pub only : Only seen now

-- the pages in memory once these slots count as closed
abbrev pub cleared : List ℕ → List (Option StoredPage) → List (Option StoredPage)
cleared [] pages = pages
cleared (k ∷ slots) pages = cleared slots (set pages k None)

-- the round once these slots are in it; one that isn't among the slots is left out
abbrev pub taken_in : List ℕ → Round → Round
taken_in [] round = round
taken_in (k ∷ slots) round = taken_in slots (set round k (Some None))

-- the page that a slot shows once the round is ended: the one that it was filled with, or the one from before
abbrev pub shown_after : Option (Option StoredPage) → Option StoredPage → Option StoredPage
shown_after (Some (Some page)) was = Some page
shown_after (Some None) was = was
shown_after None was = was

-- what a round has for a slot
abbrev pub entry_at : ℕ → Round → Option (Option StoredPage)
entry_at k round = flat (slice_get round k)

-- the pages in memory once a round is ended
pub record AreEnded (round : Round) (old new : List (Option StoredPage)) : Type 0 where
  pub all : length new ≡ length old
  pub each : (k : ℕ) → shown_at k new ≡ shown_after (entry_at k round) (shown_at k old)

-- the same if it was to be ended: after an error its slots count as closed
abbrev pub ArePagesAfter : {T : Type 0} → Round → Result T StoreFault → List (Option StoredPage) → List (Option StoredPage) → Type 0
ArePagesAfter round (Ok _) old new = AreEnded round old new
ArePagesAfter round (Err _) old new = new ≡ old

-- The round once a page was to be written into a slot. It stays if the slot isn't in it, and none is left after an error.
abbrev pub round_after : ℕ → StoredPage → Result Bool StoreFault → Round → Round
round_after slot page (Ok true) old = set old slot (Some (Some page))
round_after slot page (Ok false) old = old
round_after slot page (Err _) old = []

-- a slot in the round shows no page
abbrev pub AreApart : List (Option StoredPage) → Round → Type 0
AreApart pages round = (k : ℕ) (page : StoredPage) → slice_get pages k ≡ Some (Some page) → IsIn round k → ⊥

-- pages and a round as a store holds them in memory
abbrev pub AreHeld : List (Option StoredPage) → Round → Type 0
AreHeld pages round = (1024 ≤ length pages) × (length pages ≤ 65536) × (length round ≤ length pages) × AreApart pages round
