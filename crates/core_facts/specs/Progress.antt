-- What a lane that has no answer yet waits for.
use Rattle.std.specs.Prelude.{◌≡◌, ◌≢◌, ℕ, List, [], Bool, true, false, Some, slice_get}
use Rattle.rpc_retry.specs.declared.waiting.Waiting.{Waiting}
use Rattle.world_model.specs.declared.entry.Entry.{Entry}
use Rattle.client_shelf.specs.declared.lane_files.LaneFile.{LaneFile}
use Rattle.client_shelf.specs.LaneFiles.{is_first}
use Rattle.file_ops.specs.Quiet.{is_quiet}
use Rattle.op_machines.specs.declared.begun.Mounted.{Mounted}
use Rattle.op_machines.specs.declared.machine.Machine.{Machine}
use Rattle.op_machines.specs.Begun.{machine_of}
use Rattle.client_core.specs.declared.lane.Purpose.{Purpose}
use Rattle.client_core.specs.declared.setup.Setup.{Setup}
use Rattle.client_core.specs.Steps.{IsBusyAt}
use Rattle.client_core.specs.View.{View, has_room}
use Rattle.core_facts.specs.Reaches.{Reaches}
use Rattle.core_facts.specs.Resting.{NoneBusy}

-- a call of the lane waits for its reply
pub record HasCall (v : View) (number : ℕ) : Type 0 where
  pub at : ℕ
  pub xid : ℕ
  pub call : Waiting Purpose
  pub there : slice_get v.calls.calls at ≡ Some (xid, call)
  pub own : call.purpose.lane ≡ number

-- it has its place in the order of the file
pub record HasPlace (order : List LaneFile) (lane : ℕ) (file : List ℕ) : Type 0 where
  pub at : ℕ
  pub there : slice_get order at ≡ Some (record { lane = lane; file = file })

-- It is in the order of a file, in which another operation that is under way stands first.
pub record IsBehind (v : View) (number : ℕ) : Type 0 where
  pub file : List ℕ
  pub own : HasPlace v.shelf.order number file
  pub first : ℕ
  pub other : first ≢ number
  pub place : HasPlace v.shelf.order first file
  pub leads : is_first first v.shelf.order ≡ true
  pub at : ℕ
  pub machine : Machine
  pub busy : IsBusyAt v at first machine

-- It stands first in the order of a file of which bytes are in flight, so a call waits.
pub record WaitsForBytes (v : View) (number : ℕ) : Type 0 where
  pub file : List ℕ
  pub own : HasPlace v.shelf.order number file
  pub leads : is_first number v.shelf.order ≡ true
  pub flies : is_quiet file v.shelf.back ≡ false
  pub some : v.calls.calls ≢ []

pub data WaitsFor (v : View) (number : ℕ) : Type 0 where
  own_call : HasCall v number → WaitsFor v number
  crowded : has_room v ≡ false → WaitsFor v number
  behind : IsBehind v number → WaitsFor v number
  bytes : WaitsForBytes v number → WaitsFor v number

-- As long as the session isn't lost each operation under way waits for something.
abbrev pub LanesWait : Type 0
LanesWait = (m : Mounted) (setup : Setup) (h : List Entry) (v : View) → Reaches (machine_of m) setup h v → v.lost ≡ false → (at number : ℕ) (machine : Machine)
    → IsBusyAt v at number machine → WaitsFor v number

-- If no call waits no operation is under way.
abbrev pub NoneUnanswered : Type 0
NoneUnanswered = (m : Mounted) (setup : Setup) (h : List Entry) (v : View) → Reaches (machine_of m) setup h v → v.calls.calls ≡ [] → NoneBusy v
