-- How a page cache is fed along a history (RFC 1813, sections 3.3.2, 3.3.6 and 3.3.7).
use Rattle.std.specs.Prelude.{◌≡◌, ◌≤◌, ◌-◌, ◌*◌, ◌⊎◌, ℕ, Bool, true, List, length, take, drop, Option, Some}
use Rattle.nfs_types.specs.declared.attr.Attr.{Attr}
use Rattle.nfs_types.specs.declared.set_attr.SetAttr.{SetAttr}
use Rattle.nfs_types.specs.declared.time.Time.{Time}
use Rattle.nfs_types.specs.declared.verf.Verf.{Verf}
use Rattle.nfs_types.specs.declared.wcc.Stamp.{Stamp}
use Rattle.nfs_types.specs.declared.wcc.Wcc.{Wcc}
use Rattle.nfs_types.specs.Stamps.{stamp_of}
use Rattle.nfs_file_calls.specs.declared.call.FileCall.TheVariants as files
use Rattle.nfs_file_calls.specs.declared.owned.FileKept.TheVariants as replies
use Rattle.page_cache.specs.Pages.{Pages, nothing_with, after_page, opened, saw, keep_answer, after_keep, wrote, cut}
use Rattle.page_cache.specs.Sound.{AreKnown}
use Rattle.world_model.specs.History.{History}
use Rattle.law_reads.specs.Kept.{Done}

-- Bytes that are offered as a page come from a READ that began at the page or before it: they fill the page, or the READ
-- reached the file's end.
pub record IsOffered (t : History) (file : List ℕ) (s : Stamp) (index : ℕ) (bytes : List ℕ) : Type 0 where
  pub offset : ℕ
  pub count : ℕ
  pub counted : ℕ
  pub attr : Attr
  pub eof : Bool
  pub given : List ℕ
  pub done : Done t (files.Read file offset count) (replies.Read (Some attr) counted eof given)
  pub is : stamp_of attr ≡ s
  pub before : offset ≤ index * 4096
  pub page : bytes ≡ take 4096 (drop (index * 4096 - offset) given)
  pub whole : (length bytes ≡ 4096) ⊎ (eof ≡ true)

-- an own WRITE put the first of its bytes, as many as were counted
pub record IsWritten (t : History) (file : List ℕ) (offset counted : ℕ) (bytes : List ℕ) (wcc : Wcc) : Type 0 where
  pub how : ℕ
  pub committed : ℕ
  pub verf : Verf
  pub done : Done t (files.Write file offset how bytes) (replies.Write wcc counted committed verf)

-- an own SETATTR gave the file a size
pub record IsSized (t : History) (file : List ℕ) (size : ℕ) (wcc : Wcc) : Type 0 where
  pub set : SetAttr
  pub guard : Option Time
  pub done : Done t (files.SetAttr file set guard) (replies.SetAttr wcc)
  pub is : set.size ≡ Some size

-- The cache was empty at first, with room for any number of pages. Then it took stamps of any kind at opens and replies, pages that READs gave, and own
-- changes. That each kept page's file has a known stamp holds of it at any time (`PageCache::is_sound`).
pub data IsFed (t : History) : Pages → Type 0 where
  begins : (c : Pages) (room : ℕ) → c ≡ nothing_with room → IsFed t c
  opens : (b c : Pages) (file : List ℕ) (stamp : Stamp) (mark : ℕ) → IsFed t b → c ≡ opened file stamp mark b → IsFed t c
  sees : (b c : Pages) (file : List ℕ) (stamp : Stamp) (sent : ℕ) → IsFed t b → c ≡ saw file stamp sent b → IsFed t c
  shows : (b c : Pages) (file : List ℕ) (index : ℕ) → IsFed t b → c ≡ after_page file index b → IsFed t c
  keeps : (b c : Pages) (file : List ℕ) (stamp : Stamp) (sent index : ℕ) (bytes : List ℕ) → IsFed t b → AreKnown b → IsOffered t file stamp index bytes
      → c ≡ after_keep (keep_answer file stamp sent b) stamp (record { file = file; index = index }) bytes b → IsFed t c
  writes : (b c : Pages) (file bytes : List ℕ) (wcc : Wcc) (offset counted moment : ℕ) → IsFed t b → IsWritten t file offset counted bytes wcc
      → c ≡ wrote file wcc offset (take counted bytes) moment b → IsFed t c
  cuts : (b c : Pages) (file : List ℕ) (wcc : Wcc) (size moment : ℕ) → IsFed t b → IsSized t file size wcc → c ≡ cut file wcc size moment b → IsFed t c
