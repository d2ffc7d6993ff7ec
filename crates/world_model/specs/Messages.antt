-- Which records are which call and which reply (RFC 5531, section 9, and RFC 1813, sections 3 and 5).
use Rattle.std.specs.Prelude.{◌≡◌, ◌++◌, ℕ, List, Some}
use Rattle.rpc_message.specs.declared.call.CallHead.{CallHead}
use Rattle.rpc_message.specs.declared.cred.Cred.{Cred}
use Rattle.rpc_message.specs.Call.{xid_at, SpellsCallHead, call_head_bytes}
use Rattle.rpc_message.specs.Reply.{SpellsAccepted}
use Rattle.nfs_types.specs.declared.program.TheConstants.{NFS_PROGRAM, MOUNT_PROGRAM, PROGRAM_VERSION}
use Rattle.mount_calls.specs.Calls.{mount_proc, SpellsMountArgs}
use Rattle.mount_calls.specs.Replies.{SpellsMountReply}
use Rattle.nfs_dir_calls.specs.Calls.{dir_proc, SpellsDirCall}
use Rattle.nfs_dir_calls.specs.Replies.{SpellsDirReply}
use Rattle.nfs_file_calls.specs.Calls.{file_proc, SpellsFileArgs}
use Rattle.nfs_file_calls.specs.Replies.{SpellsFileReply}
use Rattle.world_model.specs.declared.message.Call.{Call}
use Rattle.world_model.specs.declared.message.Call.TheVariants as calls
use Rattle.world_model.specs.declared.message.Reply.{Reply}
use Rattle.world_model.specs.declared.message.Reply.TheVariants as replies

-- the record's first word is x
abbrev pub HasXid : List ℕ → ℕ → Type 0
HasXid bytes x = xid_at bytes ≡ Some x

-- the number of the procedure that a call asks for
abbrev pub proc_of : Call → ℕ
proc_of (calls.File call) = file_proc call
proc_of (calls.Dir call) = dir_proc call
proc_of (calls.Mount call) = mount_proc call

-- the number of its program: NFS or MOUNT (RFC 1813, sections 2.1 and 5)
abbrev pub program_of : Call → ℕ
program_of (calls.File call) = NFS_PROGRAM
program_of (calls.Dir call) = NFS_PROGRAM
program_of (calls.Mount call) = MOUNT_PROGRAM

-- the head of a call, of version 3 of its program
abbrev pub head_of : ℕ → Call → CallHead
head_of xid call = record { xid = xid; prog = program_of call; vers = PROGRAM_VERSION; proc = proc_of call }

-- the arguments spell the call
abbrev pub SpellsArguments : Call → List ℕ → Type 0
SpellsArguments (calls.File call) args = SpellsFileArgs call args
SpellsArguments (calls.Dir call) args = SpellsDirCall call args
SpellsArguments (calls.Mount call) args = SpellsMountArgs call args

-- The record is this call under this xid, whatever its credential.
pub record SpellsCall (xid : ℕ) (call : Call) (bytes : List ℕ) : Type 0 where
  pub args : List ℕ
  pub head : SpellsCallHead (head_of xid call) args bytes
  pub is : SpellsArguments call args

-- The record is this call under this xid, made with this credential.
pub record SpellsCallBy (cred : Cred) (xid : ℕ) (call : Call) (bytes : List ℕ) : Type 0 where
  pub spells : SpellsCall xid call bytes
  pub made : bytes ≡ call_head_bytes (head_of xid call) cred ++ spells.args

-- the results spell this reply to that call
abbrev pub SpellsResults : Call → Reply → List ℕ → Type 0
SpellsResults (calls.File call) (replies.File reply) results = SpellsFileReply (file_proc call) reply results
SpellsResults (calls.Dir call) (replies.Dir reply) results = SpellsDirReply (dir_proc call) reply results
SpellsResults (calls.Mount call) (replies.Mount reply) results = SpellsMountReply (mount_proc call) reply results
SpellsResults call reply results = ⊥

-- The record is an accepted reply under this xid, with this reply to that call.
pub record SpellsReply (xid : ℕ) (call : Call) (reply : Reply) (bytes : List ℕ) : Type 0 where
  pub results : List ℕ
  pub accepted : SpellsAccepted xid results bytes
  pub is : SpellsResults call reply results
