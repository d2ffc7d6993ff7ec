-- Of what is in flight: which WRITE waits for its reply (RFC 1813, section 3.3.7).
use Rattle.std.specs.Prelude.{◌≡◌, ℕ, List, Some, false}
use Rattle.nfs_file_calls.specs.declared.call.FileCall.TheVariants.{Write}
use Rattle.rpc_retry.specs.declared.waiting.Waiting.{Waiting}
use Rattle.rpc_retry.specs.Waiting.{waiting_at}
use Rattle.write_back.specs.Files.{of_file}
use Rattle.write_back.specs.Pieces.{Sent, piece_under}
use Rattle.world_model.specs.declared.entry.Entry.{Entry}
use Rattle.world_model.specs.declared.message.Call.{Call}
use Rattle.world_model.specs.declared.message.Call.TheVariants as calls
use Rattle.world_model.specs.Messages.{SpellsCallBy}
use Rattle.op_machines.specs.declared.begun.Mounted.{Mounted}
use Rattle.op_machines.specs.Begun.{machine_of}
use Rattle.client_core.specs.declared.lane.Purpose.{Purpose}
use Rattle.client_core.specs.declared.setup.Setup.{Setup}
use Rattle.client_core.specs.View.{View}
use Rattle.core_facts.specs.Reaches.{Reaches}

-- the WRITE of a piece of a file, at its offset, in its way, with its bytes
abbrev pub write_of : List ℕ → Sent → Call
write_of f piece = calls.File (Write f piece.offset piece.how piece.bytes)

-- The WRITE of the piece waits under its xid: the record that is sent for it spells that call, with the session's credential.
pub record IsCarried (setup : Setup) (v : View) (f : List ℕ) (xid : ℕ) (piece : Sent) : Type 0 where
  pub waiting : Waiting Purpose
  pub waits : waiting_at xid v.calls.calls ≡ Some waiting
  pub spells : SpellsCallBy setup.cred xid (write_of f piece) waiting.bytes

-- As long as the session isn't lost, each piece in flight is what a WRITE that waits carries.
abbrev pub PiecesCarried : Type 0
PiecesCarried = (m : Mounted) (setup : Setup) (h : List Entry) (v : View) → Reaches (machine_of m) setup h v → v.lost ≡ false
    → (f : List ℕ) (xid : ℕ) (piece : Sent) → piece_under xid (of_file f v.shelf.back).pieces ≡ Some piece → IsCarried setup v f xid piece
