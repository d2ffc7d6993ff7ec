-- What the client keeps of a file's pages: what READs gave, and what it wrote or cut since (RFC 1813, sections 3.3.2, 3.3.6 and 3.3.7).
use Rattle.std.specs.Prelude.{◌≡◌, ◌≤◌, ◌-◌, ◌⊎◌, ℕ, Bool, true, List, length, take, drop, Option, Some}
use Rattle.nfs_types.specs.declared.attr.Attr.{Attr}
use Rattle.nfs_types.specs.declared.set_attr.SetAttr.{SetAttr}
use Rattle.nfs_types.specs.declared.time.Time.{Time}
use Rattle.nfs_types.specs.declared.verf.Verf.{Verf}
use Rattle.nfs_types.specs.declared.wcc.Stamp.{Stamp}
use Rattle.nfs_types.specs.declared.wcc.Wcc.{Wcc}
use Rattle.nfs_types.specs.Stamps.{stamp_of}
use Rattle.nfs_file_calls.specs.declared.call.FileCall.TheVariants as files
use Rattle.nfs_file_calls.specs.declared.owned.FileKept.TheVariants as replies
use Rattle.page_cache.specs.Bytes.{start_of, put_page, cut_page}
use Rattle.page_cache.specs.Pages.{Pages, nothing_kept, page_of, known_of}
use Rattle.world_model.specs.declared.entry.Entry.{Entry}
use Rattle.world_model.specs.declared.message.Call.TheVariants as calls
use Rattle.world_model.specs.declared.message.Reply.TheVariants as answers
use Rattle.op_machines.specs.Begun.{machine_of}
use Rattle.op_machines.specs.declared.begun.Mounted.{Mounted}
use Rattle.client_core.specs.declared.setup.Setup.{Setup}
use Rattle.client_core.specs.View.{View}
use Rattle.core_facts.specs.Reaches.{Reaches}
use Rattle.core_answers.specs.bonds.Kept.{IsAnswered}
use Rattle.law_reads.specs.Kept.{Leads}

-- A READ of the file that began at the page or before it was answered with these bytes of the page. The stamp stands beside them in the reply. They fill the
-- page, or the READ reached the file's end.
pub record WasRead (h : List Entry) (file : List ℕ) (stamp : Stamp) (index : ℕ) (bytes : List ℕ) : Type 0 where
  pub offset : ℕ
  pub count : ℕ
  pub counted : ℕ
  pub attr : Attr
  pub eof : Bool
  pub given : List ℕ
  pub answered : IsAnswered h 0 (length h) (calls.File (files.Read file offset count)) (answers.File (replies.Read (Some attr) counted eof given))
  pub is : stamp_of attr ≡ stamp
  pub before : offset ≤ start_of index
  pub page : bytes ≡ take 4096 (drop (start_of index - offset) given)
  pub whole : (length bytes ≡ 4096) ⊎ (eof ≡ true)

-- A WRITE of these bytes was answered, which counted so many of them, and whose reply leads from one stamp to another.
pub record WasWritten (h : List Entry) (file : List ℕ) (offset count : ℕ) (bytes : List ℕ) (old new : Stamp) : Type 0 where
  pub how : ℕ
  pub committed : ℕ
  pub wcc : Wcc
  pub verf : Verf
  pub answered : IsAnswered h 0 (length h) (calls.File (files.Write file offset how bytes)) (answers.File (replies.Write wcc count committed verf))
  pub leads : Leads wcc old new

-- The same of a SETATTR that gave the file a size.
pub record WasCut (h : List Entry) (file : List ℕ) (size : ℕ) (old new : Stamp) : Type 0 where
  pub set : SetAttr
  pub guard : Option Time
  pub wcc : Wcc
  pub answered : IsAnswered h 0 (length h) (calls.File (files.SetAttr file set guard)) (answers.File (replies.SetAttr wcc))
  pub is : set.size ≡ Some size
  pub leads : Leads wcc old new

-- So a page of a file is known under a stamp:
-- - it was kept from the start, under this stamp;
-- - a READ gave it;
-- - it was known under another stamp, and the reply to a WRITE or a SETATTR of this client leads from that to this one. It has the bytes that were written, or
--   the size, since.
pub data IsPage (first : Pages) (h : List Entry) (file : List ℕ) : Stamp → ℕ → List ℕ → Type 0 where
  from_start : (stamp : Stamp) (index : ℕ) (bytes : List ℕ) → page_of file index first ≡ Some bytes → known_of file first ≡ Some stamp
      → length bytes ≤ 4096 → IsPage first h file stamp index bytes
  read : (stamp : Stamp) (index : ℕ) (bytes : List ℕ) → WasRead h file stamp index bytes → IsPage first h file stamp index bytes
  written : (old stamp : Stamp) (index offset count : ℕ) (bytes page now : List ℕ) → IsPage first h file old index page → WasWritten h file offset count bytes old stamp
      → now ≡ put_page index offset (take count bytes) page → IsPage first h file stamp index now
  cut : (old stamp : Stamp) (index size : ℕ) (page now : List ℕ) → IsPage first h file old index page → WasCut h file size old stamp → now ≡ cut_page index size page
      → IsPage first h file stamp index now

-- The file's known stamp, and the page is known under it.
pub record IsKeptFrom (first : Pages) (h : List Entry) (c : Pages) (file : List ℕ) (index : ℕ) (bytes : List ℕ) : Type 0 where
  pub stamp : Stamp
  pub known : known_of file c ≡ Some stamp
  pub page : IsPage first h file stamp index bytes

-- the same if nothing was kept from the start: a READ gave the page, and this client wrote and cut it since
abbrev pub IsKept : List Entry → Pages → List ℕ → ℕ → List ℕ → Type 0
IsKept h c file index bytes = IsKeptFrom nothing_kept h c file index bytes

-- Each page that the client keeps is so.
abbrev pub PagesShown : Type 0
PagesShown = (m : Mounted) (setup : Setup) (h : List Entry) (v : View) → Reaches (machine_of m) setup h v
    → (file : List ℕ) (index : ℕ) (bytes : List ℕ) → page_of file index v.shelf.pages ≡ Some bytes → IsKeptFrom setup.pages h v.shelf.pages file index bytes
