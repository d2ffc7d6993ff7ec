-- One step of one operation, of a view that the core reaches: by itself, by the reply to a call of its own, or as it begins.
use Rattle.std.specs.Prelude.{◌≡◌, ◌+◌, ℕ, List, [], ◌∷◌, ◌++◌, Some, position}
use Rattle.rpc_retry.specs.declared.waiting.Waiting.{Waiting}
use Rattle.rpc_retry.specs.Waiting.{waiting_at, without}
use Rattle.world_model.specs.declared.entry.Entry.{Entry}
use Rattle.world_model.specs.declared.entry.Entry.TheVariants.{Delivered}
use Rattle.world_model.specs.declared.op.Op.{Op}
use Rattle.call_replies.specs.Says.{said_of}
use Rattle.op_machines.specs.declared.machine.Machine.{Machine}
use Rattle.client_core.specs.declared.lane.Purpose.{Purpose}
use Rattle.client_core.specs.Lanes.{is_busy}
use Rattle.client_core.specs.Steps.{Stirs, TakesAt}
use Rattle.client_core.specs.View.{View}

-- from a view with its history to the next
pub data LaneStep (machine_of : ℕ → Op → Machine) (h : List Entry) (old : View) : List Entry → View → Type 0 where
  stirs : (at : ℕ) (new : View) → Stirs old at new → LaneStep machine_of h old h new
  takes : (rec : List ℕ) (xid : ℕ) (call : Waiting Purpose) (at : ℕ) (new : View) → waiting_at xid old.calls.calls ≡ Some call
      → position (is_busy call.purpose.lane) old.lanes ≡ Some at
      → TakesAt (record old { calls = record old.calls { calls = without xid old.calls.calls }; moments = old.moments + 1 }) at call.purpose.sent
      (said_of call.purpose.proc rec) new
      → LaneStep machine_of h old (h ++ Delivered rec ∷ []) new
