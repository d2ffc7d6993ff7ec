-- What a record that comes answers.
use Rattle.std.specs.Prelude.{◌≡◌, ◌+◌, ℕ, List, [], ◌∷◌, ◌++◌, length, false, Some}
use Rattle.rpc_message.specs.Call.{xid_at}
use Rattle.rpc_retry.specs.declared.waiting.Waiting.{Waiting}
use Rattle.rpc_retry.specs.Waiting.{waiting_at}
use Rattle.world_model.specs.declared.entry.Entry.{Entry}
use Rattle.world_model.specs.declared.entry.Entry.TheVariants.{Delivered}
use Rattle.world_model.specs.declared.message.Call.{Call}
use Rattle.world_model.specs.declared.op.Op.{Op}
use Rattle.world_model.specs.Heard.{Heard}
use Rattle.world_model.specs.Operations.{UnderWay}
use Rattle.call_replies.specs.Says.{said_of, Says}
use Rattle.op_machines.specs.declared.begun.Mounted.{Mounted}
use Rattle.op_machines.specs.Begun.{machine_of}
use Rattle.client_core.specs.declared.lane.Purpose.{Purpose}
use Rattle.client_core.specs.declared.setup.Setup.{Setup}
use Rattle.client_core.specs.View.{View}
use Rattle.core_facts.specs.Reaches.{Reaches, HearsRecord}

-- The record answers a call of the operation that is under way in the lane: it was first sent since that began, and what is taken of the
-- record is what it says of that call.
pub record IsAnswer (h : List Entry) (xid : ℕ) (rec : List ℕ) (call : Waiting Purpose) : Type 0 where
  pub asked : Call
  pub x : ℕ
  pub op : Op
  pub under_way : UnderWay h call.purpose.lane x (length h) op
  pub heard : Heard (h ++ Delivered rec ∷ []) x (length h + 1) asked xid rec
  pub says : Says xid asked rec (said_of call.purpose.proc rec)

-- As long as the session isn't lost, a record under the xid of a call that waits is an answer.
abbrev pub RepliesHeard : Type 0
RepliesHeard = (m : Mounted) (setup : Setup) (h : List Entry) (old : View) → Reaches (machine_of m) setup h old → old.lost ≡ false
    → (rec : List ℕ) (new : View) → HearsRecord old rec new
    → (xid : ℕ) (call : Waiting Purpose) → xid_at rec ≡ Some xid → waiting_at xid old.calls.calls ≡ Some call → IsAnswer h xid rec call
