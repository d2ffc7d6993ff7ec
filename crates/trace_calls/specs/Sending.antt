-- Which entries send a call.
use Rattle.std.specs.Prelude.{ℕ, List, ◌++◌}
use Rattle.mount_calls.specs.Calls.{mount_call_bytes}
use Rattle.nfs_dir_calls.specs.Calls.{dir_call_bytes}
use Rattle.nfs_file_calls.specs.Calls.{file_call_bytes}
use Rattle.rpc_message.specs.declared.cred.Cred.TheVariants as creds
use Rattle.rpc_message.specs.Call.{call_head_bytes}
use Rattle.world_model.specs.declared.entry.Entry.{Entry}
use Rattle.world_model.specs.declared.entry.Entry.TheVariants as entries
use Rattle.world_model.specs.declared.message.Call.{Call}
use Rattle.world_model.specs.declared.message.Call.TheVariants as calls
use Rattle.world_model.specs.Entries.{At}
use Rattle.world_model.specs.Messages.{SpellsCall, head_of}

-- entry m sends a record that is this call under this xid
abbrev pub Sends : List Entry → ℕ → ℕ → Call → Type 0
Sends h m xid call = (bytes : List ℕ) × At h m (entries.Sent bytes) × SpellsCall xid call bytes

-- the written spelling of a call's arguments
abbrev pub arguments_bytes : Call → List ℕ
arguments_bytes (calls.File call) = file_call_bytes call
arguments_bytes (calls.Dir call) = dir_call_bytes call
arguments_bytes (calls.Mount call) = mount_call_bytes call

-- the record of a call under this xid, with no credential
abbrev pub call_bytes : ℕ → Call → List ℕ
call_bytes xid call = call_head_bytes (head_of xid call) creds.None ++ arguments_bytes call
