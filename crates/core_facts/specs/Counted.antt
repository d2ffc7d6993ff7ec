-- Of which operation a call is that waits.
use Rattle.std.specs.Prelude.{◌≡◌, ◌<◌, ◌+◌, ◌==◌, ℕ, List, [], ◌∷◌, length, Bool, true, false, Some, slice_get}
use Rattle.rpc_retry.specs.declared.waiting.Waiting.{Waiting}
use Rattle.rpc_retry.specs.Waiting.{waiting_at}
use Rattle.world_model.specs.declared.entry.Entry.{Entry}
use Rattle.world_model.specs.declared.entry.Entry.TheVariants.{Sent}
use Rattle.world_model.specs.declared.op.Op.{Op}
use Rattle.world_model.specs.Entries.{At}
use Rattle.world_model.specs.Messages.{HasXid}
use Rattle.world_model.specs.Operations.{UnderWay}
use Rattle.op_machines.specs.declared.begun.Mounted.{Mounted}
use Rattle.op_machines.specs.declared.machine.Machine.{Machine}
use Rattle.op_machines.specs.Begun.{machine_of}
use Rattle.client_core.specs.declared.lane.Lane.{Lane}
use Rattle.client_core.specs.declared.lane.Purpose.{Purpose}
use Rattle.client_core.specs.declared.lane.State.{State}
use Rattle.client_core.specs.declared.lane.State.TheVariants.{Busy, Over}
use Rattle.client_core.specs.declared.setup.Setup.{Setup}
use Rattle.client_core.specs.View.{View}
use Rattle.core_facts.specs.InFlight.{in_flight}
use Rattle.core_facts.specs.Reaches.{Reaches}

-- a number that counts, or not
abbrev pub where_ : Bool → ℕ → ℕ
where_ true n = n
where_ false n = 0

-- how many of the calls were made for the lane
abbrev pub calls_for : ℕ → List (ℕ × Waiting Purpose) → ℕ
calls_for number [] = 0
calls_for number (e ∷ es) = where_ (e.1.purpose.lane == number) 1 + calls_for number es

-- how many of its calls wait, by what the operation of the lane knows
abbrev pub known_in : State → ℕ
known_in (Busy machine) = in_flight machine
known_in (Over answer) = 0

abbrev pub known_by : ℕ → List Lane → ℕ
known_by number [] = 0
known_by number (lane ∷ lanes) = where_ (lane.number == number) (known_in lane.state) + known_by number lanes

-- In each lane as many calls wait as its operation knows of, and none if it has its answer.
abbrev pub AreCounted : View → Type 0
AreCounted v = (number : ℕ) → calls_for number v.calls.calls ≡ known_by number v.lanes

-- The call is one of the operation that is under way in its lane: each record of it was sent since that began.
pub record IsOfOperation (h : List Entry) (v : View) (xid : ℕ) (call : Waiting Purpose) : Type 0 where
  pub at : ℕ
  pub machine : Machine
  pub there : slice_get v.lanes at ≡ Some (record { number = call.purpose.lane; state = Busy machine })
  pub x : ℕ
  pub op : Op
  pub under_way : UnderWay h call.purpose.lane x (length h) op
  pub since : (i : ℕ) (bytes : List ℕ) → At h i (Sent bytes) → HasXid bytes xid → x < i

-- As long as the session isn't lost: the calls of each lane are counted, and each is one of the operation that is under way there.
pub record AreOwned (h : List Entry) (v : View) : Type 0 where
  pub counted : AreCounted v
  pub owned : (xid : ℕ) (call : Waiting Purpose) → waiting_at xid v.calls.calls ≡ Some call → IsOfOperation h v xid call

abbrev pub CallsOwned : Type 0
CallsOwned = (m : Mounted) (setup : Setup) (h : List Entry) (v : View) → Reaches (machine_of m) setup h v → v.lost ≡ false → AreOwned h v
