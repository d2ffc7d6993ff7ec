-- A cache whose pages are those of a store.
use Rattle.std.specs.Prelude.{◌≡◌, ◌⊎◌, ℕ, ◌+◌, ◌*◌, List, length, All, Option, Some}
use Rattle.nfs_types.specs.declared.wcc.Stamp.{Stamp}
use Rattle.page_cache.specs.declared.place.PagePlace.{PagePlace}
use Rattle.page_cache.specs.Pages.{Pages, known_of, page_of}
use Rattle.page_store.specs.Pages.{StoredPage, stored_page}
use Rattle.page_store.specs.Store.{shown_at}

-- a page is whole, or ends where a file of this stamp ends
abbrev pub IsFit : Stamp → ℕ → List ℕ → Type 0
IsFit stamp index bytes = (length bytes ≡ 4096) ⊎ (4096 * index + length bytes ≡ stamp.size)

-- a slot shows this page, and it is fit
abbrev pub IsIn : List (Option StoredPage) → List ℕ → Stamp → ℕ → List ℕ → Type 0
IsIn slots file stamp index bytes = ((k : ℕ) × (shown_at k slots ≡ Some (stored_page file stamp index bytes))) × IsFit stamp index bytes

-- so it is with each page that is kept, under its file's known stamp
abbrev pub ArePages : List (Option StoredPage) → Pages → Type 0
ArePages slots c = All (λ (p : PagePlace × List ℕ). (s : Stamp) → known_of p.0.file c ≡ Some s → IsIn slots p.0.file s p.0.index p.1) c.pages

-- each page that a cache keeps, under its file's known stamp, is one that a slot shows
abbrev pub Comes : List (Option StoredPage) → Pages → Type 0
Comes slots c =
    (file : List ℕ) (stamp : Stamp) (index : ℕ) (bytes : List ℕ) → known_of file c ≡ Some stamp → page_of file index c ≡ Some bytes
    → IsIn slots file stamp index bytes
