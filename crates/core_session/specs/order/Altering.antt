-- Calls that may change a place of a file, and that a reply to a call came (RFC 1813, sections 3.3.2 and 3.3.7).
use Rattle.std.specs.Prelude.{◌≡◌, ◌<◌, ◌≤◌, ◌+◌, ℕ, List, length, Option, Some}
use Rattle.nfs_types.specs.declared.set_attr.SetAttr.{SetAttr}
use Rattle.nfs_types.specs.declared.time.Time.{Time}
use Rattle.nfs_file_calls.specs.declared.call.FileCall.TheVariants as files
use Rattle.world_model.specs.declared.entry.Entry.{Entry}
use Rattle.world_model.specs.declared.entry.Entry.TheVariants.{Delivered}
use Rattle.world_model.specs.declared.message.Call.{Call}
use Rattle.world_model.specs.declared.message.Call.TheVariants as calls
use Rattle.world_model.specs.Entries.{At}
use Rattle.world_model.specs.Messages.{HasXid}

-- The call is a WRITE of the file whose bytes cover the place; or a SETATTR that sets the file's size to at most the place.
pub data Alters (f : List ℕ) (i : ℕ) (call : Call) : Type 0 where
  writes : (offset how : ℕ) (bytes : List ℕ) → call ≡ calls.File (files.Write f offset how bytes) → offset ≤ i → i < offset + length bytes → Alters f i call
  sizes : (set : SetAttr) (size : ℕ) (guard : Option Time) → call ≡ calls.File (files.SetAttr f set guard) → set.size ≡ Some size → size ≤ i → Alters f i call

-- a record under the xid came before the place n
pub record HeardBefore (h : List Entry) (xid n : ℕ) : Type 0 where
  pub at : ℕ
  pub bytes : List ℕ
  pub got : At h at (Delivered bytes)
  pub under : HasXid bytes xid
  pub before : at < n
