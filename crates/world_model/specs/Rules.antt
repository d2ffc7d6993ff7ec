-- What a record under the xid of a call has to be.
use Rattle.std.specs.Prelude.{◌≡◌, ◌≢◌, ◌<◌, ◌⊎◌, ℕ, List, length, drop}
use Rattle.nfs_types.specs.declared.wcc.Wcc.{Wcc}
use Rattle.nfs_types.specs.declared.verf.Verf.{Verf}
use Rattle.nfs_file_calls.specs.declared.call.FileCall.TheVariants as files
use Rattle.nfs_file_calls.specs.declared.owned.FileKept.TheVariants as kept
use Rattle.rpc_message.specs.Reply.{SpellsRefusal}
use Rattle.world_model.specs.declared.message.Call.{Call}
use Rattle.world_model.specs.declared.message.Call.TheVariants as calls
use Rattle.world_model.specs.declared.message.Reply.{Reply}
use Rattle.world_model.specs.declared.message.Reply.TheVariants as replies
use Rattle.world_model.specs.Messages.{HasXid, SpellsReply}

-- the most bytes of a record
abbrev pub most_bytes : ℕ
most_bytes = 131072

-- the second word is there and isn't 1, the message type of a reply
abbrev pub IsNotReply : List ℕ → Type 0
IsNotReply bytes = (kind : ℕ) × HasXid (drop 4 bytes) kind × (kind ≢ 1)

-- neither an accepted reply to the call nor a refusal by RPC is spelled
pub record IsUnspelled (xid : ℕ) (call : Call) (bytes : List ℕ) : Type 0 where
  pub no_reply : (reply : Reply) → SpellsReply xid call reply bytes → ⊥
  pub no_refusal : (n : ℕ) → SpellsRefusal xid n bytes → ⊥

-- The record breaks rule n of what a reply to the call has to be.
pub data Breaks (xid : ℕ) (call : Call) (bytes : List ℕ) (n : ℕ) : Type 0 where
  -- 1: it isn't a reply
  not_a_reply : n ≡ 1 → IsNotReply bytes → Breaks xid call bytes n
  -- 2: the grammar doesn't spell it
  unspelled : n ≡ 2 → (IsNotReply bytes → ⊥) → IsUnspelled xid call bytes → Breaks xid call bytes n
  -- 3: its committed is below what the WRITE asked, or above 2, the greatest that there is
  wrong_committed : n ≡ 3 → (wcc : Wcc) (count committed : ℕ) (verf : Verf) (file : List ℕ) (offset how : ℕ) (data_ : List ℕ)
      → call ≡ calls.File (files.Write file offset how data_)
      → SpellsReply xid call (replies.File (kept.Write wcc count committed verf)) bytes → (committed < how) ⊎ (2 < committed) → Breaks xid call bytes n
  -- 4: it counts no bytes, or more than the WRITE carried
  wrong_count : n ≡ 4 → (wcc : Wcc) (count committed : ℕ) (verf : Verf) (file : List ℕ) (offset how : ℕ) (data_ : List ℕ)
      → call ≡ calls.File (files.Write file offset how data_)
      → SpellsReply xid call (replies.File (kept.Write wcc count committed verf)) bytes → (count ≡ 0) ⊎ (length data_ < count) → Breaks xid call bytes n
  -- 7: it is too long
  too_long : n ≡ 7 → most_bytes < length bytes → Breaks xid call bytes n
