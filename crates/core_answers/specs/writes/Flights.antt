-- Of each WRITE that waits: its piece is in flight (RFC 1813, section 3.3.7).
use Rattle.std.specs.Prelude.{◌≡◌, ℕ, List, Some, false}
use Rattle.write_back.specs.Files.{Pending, of_file}
use Rattle.write_back.specs.Pieces.{Sent, piece_under}
use Rattle.world_model.specs.declared.entry.Entry.{Entry}
use Rattle.world_model.specs.declared.message.Call.{Call}
use Rattle.op_machines.specs.declared.begun.Mounted.{Mounted}
use Rattle.op_machines.specs.Begun.{machine_of}
use Rattle.client_core.specs.declared.setup.Setup.{Setup}
use Rattle.client_core.specs.View.{View}
use Rattle.core_facts.specs.Reaches.{Reaches}
use Rattle.core_answers.specs.writes.Alone.{written_file, IsWaiting}
use Rattle.core_answers.specs.writes.Carried.{write_of}

-- A piece of the file is in flight under the xid, and it is what the call carries.
pub record IsInFlight (xid : ℕ) (f : List ℕ) (call : Call) (back : Pending) : Type 0 where
  pub piece : Sent
  pub there : piece_under xid (of_file f back).pieces ≡ Some piece
  pub is : call ≡ write_of f piece

-- As long as the session isn't lost, what a WRITE that waits carries is in flight under its xid.
abbrev pub WritesInFlight : Type 0
WritesInFlight = (m : Mounted) (setup : Setup) (h : List Entry) (v : View) → Reaches (machine_of m) setup h v → v.lost ≡ false
    → (xid : ℕ) (call : Call) (f : List ℕ) → IsWaiting setup v xid call → written_file call ≡ Some f → IsInFlight xid f call v.shelf.back
