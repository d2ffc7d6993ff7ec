-- Each WRITE that is sent was long as it was made.
use Rattle.std.specs.Prelude.{◌≡◌, ◌≤◌, ◌⊎◌, ◌+◌, ◌++◌, ℕ, List, length, Some}
use Rattle.nfs_file_calls.specs.declared.call.FileCall.TheVariants as files
use Rattle.rpc_retry.specs.declared.waiting.Waiting.{Waiting}
use Rattle.rpc_retry.specs.Waiting.{waiting_at}
use Rattle.world_model.specs.declared.entry.Entry.{Entry}
use Rattle.world_model.specs.declared.entry.Entry.TheVariants.{Sent}
use Rattle.world_model.specs.declared.message.Call.{Call}
use Rattle.world_model.specs.declared.message.Call.TheVariants as calls
use Rattle.world_model.specs.Entries.{At}
use Rattle.world_model.specs.Messages.{SpellsCall, SpellsCallBy}
use Rattle.write_back.specs.Files.{of_file}
use Rattle.op_machines.specs.declared.begun.Mounted.{Mounted}
use Rattle.op_machines.specs.Begun.{machine_of}
use Rattle.client_core.specs.declared.lane.Purpose.{Purpose}
use Rattle.client_core.specs.declared.setup.Setup.{Setup}
use Rattle.client_core.specs.View.{View}
use Rattle.core_facts.specs.Reaches.{Reaches}
use Rattle.model_writes.specs.Machine as coarse
use Rattle.core_counts.specs.coarse.Long.{Stops}
use Rattle.core_counts.specs.coarse.Runs.{Runs}

abbrev pub write_call : List ℕ → ℕ → ℕ → List ℕ → Call
write_call file offset how bytes = calls.File (files.Write file offset how bytes)

-- There was a moment after the step that made this WRITE, at the place n of the history or before it. Then it had as many bytes as a WRITE may have, or
-- they didn't go on where it ends. If a busy server answered it, it may be sent under another xid now.
pub record WasLong (m : Mounted) (setup : Setup) (h : List Entry) (n : ℕ) (file : List ℕ) (offset how : ℕ) (bytes : List ℕ) : Type 0 where
  pub before : List Entry
  pub after : List Entry
  pub is : h ≡ before ++ after
  pub early : length before ≤ n
  pub view : View
  pub c : coarse.View
  pub run : Runs m setup before view c
  pub xid : ℕ
  pub call : Waiting Purpose
  pub waits : waiting_at xid view.calls.calls ≡ Some call
  pub spells : SpellsCallBy setup.cred xid (write_call file offset how bytes) call.bytes
  pub long : (length bytes ≡ setup.wsize) ⊎ Stops (of_file file view.shelf.back) offset (offset + length bytes) how

-- So it is with each WRITE that is sent under an xid of the core's own.
abbrev pub WritesWereLong : Type 0
WritesWereLong = (m : Mounted) (setup : Setup) (h : List Entry) (v : View) → Reaches (machine_of m) setup h v
    → (i xid offset how : ℕ) (file bytes rec : List ℕ) → At h i (Sent rec) → SpellsCall xid (write_call file offset how bytes) rec → setup.first_xid ≤ xid
    → WasLong m setup h i file offset how bytes
