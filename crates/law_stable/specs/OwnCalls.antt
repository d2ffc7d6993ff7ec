-- This client's calls at a place of a file, and other clients' (RFC 1813, sections 3.3.2, 3.3.7 and 3.3.8).
use Rattle.std.specs.Prelude.{◌≡◌, ◌<◌, ◌≤◌, ◌+◌, ℕ, suc, List, length, Option, Some, slice_get}
use Rattle.nfs_types.specs.declared.set_attr.SetAttr.{SetAttr}
use Rattle.nfs_types.specs.declared.time.Time.{Time}
use Rattle.nfs_dir_calls.specs.declared.call.DirCall.TheVariants as dirs
use Rattle.nfs_dir_calls.specs.declared.create.Making.TheVariants as makings
use Rattle.nfs_file_calls.specs.declared.call.FileCall.TheVariants as files
use Rattle.world_model.specs.declared.entry.Entry.{Entry}
use Rattle.world_model.specs.declared.entry.Entry.TheVariants.{Sent, Foreign, Delivered}
use Rattle.world_model.specs.declared.message.Call.{Call}
use Rattle.world_model.specs.declared.message.Call.TheVariants as calls
use Rattle.world_model.specs.declared.message.Reply.{Reply}
use Rattle.world_model.specs.Entries.{At}
use Rattle.world_model.specs.History.{History}
use Rattle.world_model.specs.Messages.{HasXid, SpellsCall}
use Rattle.claims.specs.Touched.{ChangesPlace}
use Rattle.world_model.specs.Waiting.{FirstSent}

-- a WRITE with the place i of the file in its range, or a SETATTR of the file to a size of at most i
pub data Alters (f : List ℕ) (i : ℕ) (call : Call) : Type 0 where
  writes : (offset how : ℕ) (bytes : List ℕ) → call ≡ calls.File (files.Write f offset how bytes) → offset ≤ i → i < offset + length bytes → Alters f i call
  sizes : (set : SetAttr) (size : ℕ) (guard : Option Time) → call ≡ calls.File (files.SetAttr f set guard) → set.size ≡ Some size → size ≤ i → Alters f i call

-- a record under the xid came before the place n
pub record HeardBefore (h : List Entry) (xid n : ℕ) : Type 0 where
  pub at : ℕ
  pub bytes : List ℕ
  pub got : At h at (Delivered bytes)
  pub under : HasXid bytes xid
  pub before : at < n

-- This client's calls at the place i of the file, by where they were first sent. From the place `from` to the place `to` each WRITE has the byte v
-- there, and no SETATTR cuts it off; each earlier call that alters the place was answered before; and no CREATE sets a size.
pub record OwnCalls (h : List Entry) (from to : ℕ) (f : List ℕ) (i v : ℕ) : Type 0 where
  pub later : (s xid : ℕ) (sent : List ℕ) (offset how k b : ℕ) (bytes : List ℕ) → FirstSent h s xid sent
      → SpellsCall xid (calls.File (files.Write f offset how bytes)) sent → from ≤ s → s < to → i ≡ offset + k → slice_get bytes k ≡ Some b → b ≡ v
  pub earlier : (s xid : ℕ) (sent : List ℕ) (call : Call) → FirstSent h s xid sent → SpellsCall xid call sent → Alters f i call → s < from → HeardBefore h xid from
  pub uncut : (s xid : ℕ) (sent : List ℕ) (set : SetAttr) (guard : Option Time) (size : ℕ) → FirstSent h s xid sent
      → SpellsCall xid (calls.File (files.SetAttr f set guard)) sent → from ≤ s → s < to → set.size ≡ Some size → size ≤ i → ⊥
  pub unsized : (s xid : ℕ) (sent d name : List ℕ) (set : SetAttr) (size : ℕ) → At h s (Sent sent)
      → SpellsCall xid (calls.Dir (dirs.Create d name (makings.Unchecked set))) sent → set.size ≡ Some size → ⊥

-- No other client changes the place after the place `from` and before the place `to`.
abbrev pub NoForeign : History → ℕ → ℕ → List ℕ → ℕ → Type 0
NoForeign t from to f i = (n : ℕ) (call : Call) (reply : Reply) → At t.entries n (Foreign call reply) → from < n → n < to
    → ChangesPlace (t.at (suc n)) f i call reply → ⊥
