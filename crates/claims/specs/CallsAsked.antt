-- Each call that a session makes was asked for.
use Rattle.std.specs.Prelude.{◌≡◌, ◌<◌, ◌≤◌, ◌+◌, ℕ, List, length, Some, slice_get}
use Rattle.nfs_file_calls.specs.declared.call.FileCall.TheVariants as files
use Rattle.world_model.specs.declared.entry.Entry.{Entry}
use Rattle.world_model.specs.declared.entry.Entry.TheVariants.{Began, Sent}
use Rattle.world_model.specs.declared.message.Call.{Call}
use Rattle.world_model.specs.declared.message.Call.TheVariants as calls
use Rattle.world_model.specs.declared.op.Op.{Op}
use Rattle.claims.specs.Asks.{Asks}
use Rattle.world_model.specs.Entries.{At}
use Rattle.world_model.specs.Messages.{HasXid, SpellsCall, SpellsCallBy}
use Rattle.world_model.specs.Mounts.{Mounting, Rooted, Sized, mount_call, info_call}
use Rattle.world_model.specs.ReadSize.{ReadSized}
use Rattle.claims.specs.ReadTrue.{PendingWithin}
use Rattle.claims.specs.Terms.{Terms}
use Rattle.world_model.specs.Operations.{UnderWay}
use Rattle.world_model.specs.Waiting.{Answers}

-- no operation began before the place i
abbrev pub NoneBegan : List Entry → ℕ → Type 0
NoneBegan h i = (j lane line : ℕ) (op : Op) → At h j (Began lane line op) → j < i → ⊥

-- a READ asks for no more bytes than the session's READ size
pub record IsRead (terms : Terms) (h : List Entry) (i size : ℕ) : Type 0 where
  pub root : List ℕ
  pub rsize : ℕ
  pub rooted : Rooted terms.origin h i root
  pub sized : ReadSized h i root terms.rsize rsize
  pub fits : size ≤ rsize

-- a WRITE carries no more bytes than the session's WRITE size
pub record IsWrite (terms : Terms) (h : List Entry) (i size : ℕ) : Type 0 where
  pub root : List ℕ
  pub wsize : ℕ
  pub rooted : Rooted terms.origin h i root
  pub sized : Sized h i root terms.wsize wsize
  pub fits : size ≤ wsize

-- READs and WRITEs keep to the session's sizes. Each byte of a WRITE may have been pending at a moment since the operation began for
-- which it is sent: the one at the place x.
pub record KeepsTo (terms : Terms) (h : List Entry) (x i : ℕ) (call : Call) : Type 0 where
  pub read : (f : List ℕ) (offset count : ℕ) → call ≡ calls.File (files.Read f offset count) → IsRead terms h i count
  pub write : (f bytes : List ℕ) (offset how : ℕ) → call ≡ calls.File (files.Write f offset how bytes) → IsWrite terms h i (length bytes)
  pub own : (f bytes : List ℕ) (offset how : ℕ) → call ≡ calls.File (files.Write f offset how bytes) → (k v : ℕ) → slice_get bytes k ≡ Some v
      → PendingWithin terms.modes terms.origin h x i f (offset + k) v

-- Why the call at the place i was made: as MNT of the path or FSINFO of the root, before any operation began; or for an
-- operation that is under way and asks for it.
pub data IsCause (terms : Terms) (h : List Entry) (i : ℕ) (call : Call) : Type 0 where
  mounts : (path : List ℕ) → terms.origin ≡ Mounting path → call ≡ mount_call path → NoneBegan h i → IsCause terms h i call
  informs : (root : List ℕ) → Rooted terms.origin h i root → call ≡ info_call root → NoneBegan h i → IsCause terms h i call
  asked : (lane x : ℕ) (op : Op) → UnderWay h lane x i op → Asks terms h x i op call → KeepsTo terms h x i call → IsCause terms h i call

-- A record that was sent is a call, with the session's credential, that was asked for.
pub record IsCaused (terms : Terms) (h : List Entry) (i : ℕ) (bytes : List ℕ) : Type 0 where
  pub xid : ℕ
  pub call : Call
  pub made : SpellsCallBy terms.cred xid call bytes
  pub cause : IsCause terms h i call

-- both are calls of MNT, or both are calls of FSINFO
pub data AreSetUp (call other : Call) : Type 0 where
  mount : (path its_path : List ℕ) → call ≡ mount_call path → other ≡ mount_call its_path → AreSetUp call other
  inform : (root its_root : List ℕ) → call ≡ info_call root → other ≡ info_call its_root → AreSetUp call other

-- Each record that was sent is such a call, under an xid among those that there are; those of one xid are equal; MNT and
-- FSINFO have one xid each; and no record is sent after a reply under its xid came while it waited.
pub record CallsAsked (terms : Terms) (h : List Entry) : Type 0 where
  pub caused : (i : ℕ) (bytes : List ℕ) → At h i (Sent bytes) → IsCaused terms h i bytes
  pub among : (i xid : ℕ) (bytes : List ℕ) → At h i (Sent bytes) → HasXid bytes xid → (terms.first ≤ xid) × (xid < terms.first + terms.calls)
  pub equal : (i j xid : ℕ) (a b : List ℕ) → At h i (Sent a) → At h j (Sent b) → HasXid a xid → HasXid b xid → a ≡ b
  pub single : (i j x y : ℕ) (a b : List ℕ) (call other : Call) → At h i (Sent a) → At h j (Sent b) → SpellsCall x call a → SpellsCall y other b
      → AreSetUp call other → x ≡ y
  pub unrepeated : (g i xid : ℕ) (reply bytes : List ℕ) → Answers h g xid reply → At h i (Sent bytes) → HasXid bytes xid → i < g
