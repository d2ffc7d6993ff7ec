-- What a client may keep of a file: bytes under the stamp that a reply gave (RFC 1813, sections 2.6, 3.3.6 and 3.3.7).
use Rattle.std.specs.Prelude.{◌≡◌, ◌<◌, ◌≤◌, ◌+◌, ◌⊎◌, ℕ, Bool, List, length, Option, Some, slice_get}
use Rattle.nfs_types.specs.declared.attr.Attr.{Attr}
use Rattle.nfs_types.specs.declared.verf.Verf.{Verf}
use Rattle.nfs_types.specs.declared.wcc.Stamp.{Stamp}
use Rattle.nfs_types.specs.declared.wcc.Wcc.{Wcc}
use Rattle.nfs_types.specs.Stamps.{stamp_of}
use Rattle.nfs_types.specs.declared.set_attr.SetAttr.{SetAttr}
use Rattle.nfs_types.specs.declared.time.Time.{Time}
use Rattle.nfs_file_calls.specs.declared.call.FileCall.{FileCall}
use Rattle.nfs_file_calls.specs.declared.call.FileCall.TheVariants as files
use Rattle.nfs_file_calls.specs.declared.owned.FileKept.{FileKept}
use Rattle.nfs_file_calls.specs.declared.owned.FileKept.TheVariants as replies
use Rattle.world_model.specs.declared.entry.Entry.TheVariants.{Executed}
use Rattle.world_model.specs.declared.message.Call.TheVariants as calls
use Rattle.world_model.specs.declared.message.Reply.TheVariants as answers
use Rattle.world_model.specs.Entries.{At}
use Rattle.world_model.specs.History.{History}
use Rattle.world_model.specs.Server.{Bytes, Object}

-- at the moment n the file has this stamp and these bytes
pub record HasStamp (t : History) (n : ℕ) (f : List ℕ) (s : Stamp) (now : List ℕ) : Type 0 where
  pub file : Object
  pub stable : List ℕ
  pub moment : n ≤ length t.entries
  pub is : (t.at n).object f ≡ Some file
  pub holds : file.holds ≡ Bytes now stable
  pub stamp : stamp_of file.attr ≡ s

-- the call on a file was executed with this reply
abbrev pub Done : History → FileCall → FileKept → Type 0
Done t call reply = (n : ℕ) × (xid : ℕ) × At t.entries n (Executed xid (calls.File call) (answers.File reply))

-- a reply leads from the file's stamp before the call to that after it
pub record Leads (wcc : Wcc) (old new : Stamp) : Type 0 where
  pub attr : Attr
  pub before : wcc.before ≡ Some old
  pub after : wcc.after ≡ Some attr
  pub is : stamp_of attr ≡ new

-- an own WRITE was executed, and its reply leads from one stamp to another
pub record Written (t : History) (f : List ℕ) (offset counted : ℕ) (bytes : List ℕ) (old new : Stamp) : Type 0 where
  pub how : ℕ
  pub committed : ℕ
  pub wcc : Wcc
  pub verf : Verf
  pub done : Done t (files.Write f offset how bytes) (replies.Write wcc counted committed verf)
  pub leads : Leads wcc old new

-- an own SETATTR set the size of the file, and its reply leads from one stamp to another
pub record Sized (t : History) (f : List ℕ) (size : ℕ) (old new : Stamp) : Type 0 where
  pub set : SetAttr
  pub guard : Option Time
  pub wcc : Wcc
  pub done : Done t (files.SetAttr f set guard) (replies.SetAttr wcc)
  pub is : set.size ≡ Some size
  pub leads : Leads wcc old new

-- a READ was executed that gave these bytes beside the stamp
pub record Given (t : History) (f : List ℕ) (offset : ℕ) (bytes : List ℕ) (stamp : Stamp) : Type 0 where
  pub count : ℕ
  pub counted : ℕ
  pub attr : Attr
  pub eof : Bool
  pub done : Done t (files.Read f offset count) (replies.Read (Some attr) counted eof bytes)
  pub is : stamp_of attr ≡ stamp

-- The client keeps the byte v at the place i of the file under a stamp: a READ gave it; or an own WRITE put it; or it was kept
-- under the stamp before an own WRITE that went beside it, or before an own SETATTR of a size above it; or it is one of the
-- zeros between the file's end before that and the bytes, or the size, after it.
pub data KeptByte (t : History) (f : List ℕ) : Stamp → ℕ → ℕ → Type 0 where
  read : (s : Stamp) (i v offset k : ℕ) (bytes : List ℕ) → Given t f offset bytes s → i ≡ offset + k → slice_get bytes k ≡ Some v → KeptByte t f s i v
  written : (old s : Stamp) (i v offset counted k : ℕ) (bytes : List ℕ) → Written t f offset counted bytes old s → i ≡ offset + k → k < counted
      → slice_get bytes k ≡ Some v → KeptByte t f s i v
  beside : (old s : Stamp) (i v offset counted : ℕ) (bytes : List ℕ) → KeptByte t f old i v → Written t f offset counted bytes old s
      → (i < offset) ⊎ (offset + counted ≤ i) → KeptByte t f s i v
  below : (old s : Stamp) (i v size : ℕ) → KeptByte t f old i v → Sized t f size old s → i < size → KeptByte t f s i v
  gap : (old s : Stamp) (i v offset counted : ℕ) (bytes : List ℕ) → Written t f offset counted bytes old s → 1 ≤ counted → old.size ≤ i → i < offset → v ≡ 0
      → KeptByte t f s i v
  grown : (old s : Stamp) (i v size : ℕ) → Sized t f size old s → old.size ≤ i → i < size → v ≡ 0 → KeptByte t f s i v
