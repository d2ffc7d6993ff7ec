-- The machine of kept pages: how a page cache goes on along a history (RFC 1813, sections 3.3.2, 3.3.6 and 3.3.7). Its steps are those by which a cache of
-- law_pages is fed, and one more: a file's pages are dropped if no reply tells to which state a change of it led.
use Rattle.std.specs.Prelude.{◌≡◌, ℕ, List, [], Some, None, take}
use Rattle.nfs_types.specs.declared.wcc.Stamp.{Stamp}
use Rattle.nfs_types.specs.declared.wcc.Wcc.{Wcc}
use Rattle.page_cache.specs.Bytes.{page_at}
use Rattle.page_cache.specs.Pages.{Pages, nothing_kept, page_of, known_of, after_page, opened, saw, keep_answer, after_keep, wrote, cut}
use Rattle.world_model.specs.Fresh.{Fresh}
use Rattle.world_model.specs.History.{History}
use Rattle.world_model.specs.Lawful.{Lawful}
use Rattle.law_reads.specs.Kept.{HasStamp}
use Rattle.law_pages.specs.Feeds.{IsOffered, IsWritten, IsSized}

-- neither the state before a change was told, nor that after it
abbrev pub untold : Wcc
untold = record { before = None; after = None }

-- One step. At opens and replies the cache is told any stamp of a file. A page is looked at. A page is offered that a READ gave, under the stamp in its
-- reply. An own WRITE or SETATTR is told with the wcc of its reply, and of a WRITE as many bytes as were counted. Or a change is told of which nothing is
-- known: then the file's pages are dropped, and no state of it is known.
pub data Step (t : History) (b c : Pages) : Type 0 where
  opens : (file : List ℕ) (stamp : Stamp) (mark : ℕ) → c ≡ opened file stamp mark b → Step t b c
  sees : (file : List ℕ) (stamp : Stamp) (sent : ℕ) → c ≡ saw file stamp sent b → Step t b c
  shows : (file : List ℕ) (index : ℕ) → c ≡ after_page file index b → Step t b c
  keeps : (file : List ℕ) (stamp : Stamp) (sent index : ℕ) (bytes : List ℕ) → IsOffered t file stamp index bytes
      → c ≡ after_keep (keep_answer file stamp sent b) stamp (record { file = file; index = index }) bytes b → Step t b c
  writes : (file bytes : List ℕ) (wcc : Wcc) (offset counted moment : ℕ) → IsWritten t file offset counted bytes wcc
      → c ≡ wrote file wcc offset (take counted bytes) moment b → Step t b c
  cuts : (file : List ℕ) (wcc : Wcc) (size moment : ℕ) → IsSized t file size wcc → c ≡ cut file wcc size moment b → Step t b c
  drops : (file : List ℕ) (moment : ℕ) → c ≡ wrote file untold 0 [] moment b → Step t b c

-- none, or one after the other
pub data Steps (t : History) : Pages → Pages → Type 0 where
  stays : (b c : Pages) → c ≡ b → Steps t b c
  goes : (b c d : Pages) → Steps t b c → Step t c d → Steps t b d

-- The cache was empty at first.
abbrev pub IsFed : History → Pages → Type 0
IsFed t c = Steps t nothing_kept c

-- A page that the machine of pages keeps under its file's known stamp is that page of the file at every moment of the stamp.
abbrev pub FedPagesTrue : Type 0
FedPagesTrue = (t : History) → Lawful t → Fresh t → (c : Pages) → IsFed t c
    → (file : List ℕ) (stamp : Stamp) (index : ℕ) (bytes : List ℕ) → page_of file index c ≡ Some bytes → known_of file c ≡ Some stamp
    → (n : ℕ) (now : List ℕ) → HasStamp t n file stamp now → bytes ≡ page_at index now
