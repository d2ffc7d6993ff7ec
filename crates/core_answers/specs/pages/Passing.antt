-- Which views the core passes through: at rest after each entry, and between the steps of its lanes.
use Rattle.std.specs.Prelude.{◌≡◌, ◌+◌, ℕ, false, List, [], ◌∷◌, ◌++◌, Some, position}
use Rattle.rpc_message.specs.Call.{xid_at}
use Rattle.rpc_retry.specs.declared.waiting.Waiting.{Waiting}
use Rattle.rpc_retry.specs.Waiting.{waiting_at, without}
use Rattle.world_model.specs.declared.entry.Entry.{Entry}
use Rattle.world_model.specs.declared.entry.Entry.TheVariants.{Began, Delivered}
use Rattle.world_model.specs.declared.op.Op.{Op}
use Rattle.call_replies.specs.Says.{said_of}
use Rattle.op_machines.specs.declared.machine.Machine.{Machine}
use Rattle.client_core.specs.declared.lane.Purpose.{Purpose}
use Rattle.client_core.specs.declared.setup.Setup.{Setup}
use Rattle.client_core.specs.Lanes.{is_busy}
use Rattle.client_core.specs.Numbers.{IsIdle}
use Rattle.client_core.specs.Steps.{Stirs, counted, StartsLane, TakesAt}
use Rattle.client_core.specs.View.{View}
use Rattle.core_facts.specs.Reaches.{Reaches, last_reading}

-- Over the last entry an operation makes its first step, or takes what came of its call; then others go on, each by a step.
pub data Passes (machine_of : ℕ → Op → Machine) (setup : Setup) (h : List Entry) : View → Type 0 where
  rests : (v : View) → Reaches machine_of setup h v → v.lost ≡ false → Passes machine_of setup h v
  starts : (v old : View) (before : List Entry) (lane line : ℕ) (op : Op) → Reaches machine_of setup before old → old.lost ≡ false
      → h ≡ before ++ Began lane line op ∷ [] → IsIdle lane old.lanes → StartsLane (counted old (last_reading 0 before)) lane (machine_of lane op) v → Passes machine_of setup h v
  takes : (v old : View) (before : List Entry) (rec : List ℕ) (xid at : ℕ) (call : Waiting Purpose) → Reaches machine_of setup before old → old.lost ≡ false
      → h ≡ before ++ Delivered rec ∷ [] → xid_at rec ≡ Some xid → waiting_at xid old.calls.calls ≡ Some call → position (is_busy call.purpose.lane) old.lanes ≡ Some at
      → TakesAt (record old { calls = record old.calls { calls = without xid old.calls.calls }; moments = old.moments + 1 }) at call.purpose.sent (said_of call.purpose.proc rec) v
      → Passes machine_of setup h v
  stirs : (v old : View) (at : ℕ) → Passes machine_of setup h old → Stirs old at v → Passes machine_of setup h v
