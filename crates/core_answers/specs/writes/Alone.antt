-- What waits beside a COMMIT of a file (RFC 1813, section 3.3.21).
use Rattle.std.specs.Prelude.{◌≡◌, ℕ, List, Option, Some, None, false}
use Rattle.nfs_file_calls.specs.declared.call.FileCall.{FileCall}
use Rattle.nfs_file_calls.specs.declared.call.FileCall.TheVariants as files
use Rattle.rpc_retry.specs.declared.waiting.Waiting.{Waiting}
use Rattle.rpc_retry.specs.Waiting.{waiting_at}
use Rattle.write_back.specs.Files.{HasNoPiece}
use Rattle.world_model.specs.declared.entry.Entry.{Entry}
use Rattle.world_model.specs.declared.message.Call.{Call}
use Rattle.world_model.specs.declared.message.Call.TheVariants as calls
use Rattle.world_model.specs.Messages.{SpellsCallBy}
use Rattle.op_machines.specs.declared.begun.Mounted.{Mounted}
use Rattle.op_machines.specs.Begun.{machine_of}
use Rattle.client_core.specs.declared.lane.Purpose.{Purpose}
use Rattle.client_core.specs.declared.setup.Setup.{Setup}
use Rattle.client_core.specs.View.{View}
use Rattle.core_facts.specs.Reaches.{Reaches}

-- the file of a WRITE, and of a COMMIT
abbrev pub write_in : FileCall → Option (List ℕ)
write_in (files.Write f offset how bytes) = Some f
write_in call = None

abbrev pub written_file : Call → Option (List ℕ)
written_file (calls.File call) = write_in call
written_file call = None

abbrev pub commit_in : FileCall → Option (List ℕ)
commit_in (files.Commit f offset count) = Some f
commit_in call = None

abbrev pub committed_file : Call → Option (List ℕ)
committed_file (calls.File call) = commit_in call
committed_file call = None

-- The call waits under the xid: the record that is sent for it spells it, with the session's credential.
pub record IsWaiting (setup : Setup) (v : View) (xid : ℕ) (call : Call) : Type 0 where
  pub waiting : Waiting Purpose
  pub waits : waiting_at xid v.calls.calls ≡ Some waiting
  pub spells : SpellsCallBy setup.cred xid call waiting.bytes

-- nothing of the file is in flight, and no WRITE of it waits
pub record IsQuiet (setup : Setup) (v : View) (f : List ℕ) : Type 0 where
  pub none : HasNoPiece f v.shelf.back
  pub no_write : (xid : ℕ) (call : Call) → IsWaiting setup v xid call → written_file call ≡ Some f → ⊥

-- As long as the session isn't lost: while a COMMIT of a file waits, nothing of it is in flight, and no WRITE of it waits.
abbrev pub CommitsAlone : Type 0
CommitsAlone = (m : Mounted) (setup : Setup) (h : List Entry) (v : View) → Reaches (machine_of m) setup h v → v.lost ≡ false
    → (xid : ℕ) (call : Call) (f : List ℕ) → IsWaiting setup v xid call → committed_file call ≡ Some f → IsQuiet setup v f
