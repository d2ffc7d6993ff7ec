-- Calls that may change a place of a file are sent one after the other's reply (RFC 1813, section 4.8: WRITEs may be executed in any order).
use Rattle.std.specs.Prelude.{◌<◌, ◌≤◌, ◌+◌, ◌⊎◌, ℕ, List, length}
use Rattle.nfs_file_calls.specs.declared.call.FileCall.TheVariants as files
use Rattle.world_model.specs.declared.entry.Entry.{Entry}
use Rattle.world_model.specs.declared.message.Call.{Call}
use Rattle.world_model.specs.declared.message.Call.TheVariants as calls
use Rattle.claims.specs.CallsAsked.{NoneBegan}
use Rattle.world_model.specs.Messages.{SpellsCall}
use Rattle.world_model.specs.Waiting.{FirstSent}
use Rattle.op_machines.specs.declared.begun.Mounted.{Mounted}
use Rattle.op_machines.specs.Begun.{machine_of}
use Rattle.client_core.specs.declared.setup.Setup.{Setup}
use Rattle.client_core.specs.View.{View}
use Rattle.core_facts.specs.Reaches.{Reaches}
use Rattle.core_session.specs.order.Altering.{Alters, HeardBefore}

-- Let a WRITE of a file cover a place. Each call that may change this place, and was first sent before it, was answered before it was sent. (Of the records
-- of the set-up, before any operation began, nothing is said.)
abbrev pub EarlierHeard : Type 0
EarlierHeard = (m : Mounted) (setup : Setup) (h : List Entry) (v : View) → Reaches (machine_of m) setup h v → (f : List ℕ) (i s xid : ℕ) (sent : List ℕ) (call : Call)
    → FirstSent h s xid sent → SpellsCall xid call sent → Alters f i call → (n last : ℕ) (next : List ℕ) (offset how : ℕ) (bytes : List ℕ) → FirstSent h n last next
    → SpellsCall last (calls.File (files.Write f offset how bytes)) next → offset ≤ i → i < offset + length bytes → s < n → NoneBegan h s ⊎ HeardBefore h xid n
