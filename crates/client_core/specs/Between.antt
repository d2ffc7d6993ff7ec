-- What holds between the step of an operation and the call that it asks for.
use Rattle.std.specs.Prelude.{◌≡◌, ◌+◌, ℕ, true}
use Rattle.rpc_retry.specs.Held.{next_xid}
use Rattle.client_shelf.specs.Spelling.{IsSpellable}
use Rattle.file_ops.specs.Ready.{IsReady}
use Rattle.client_shelf.specs.declared.step.Step.{Step}
use Rattle.client_shelf.specs.declared.step.Step.TheVariants.{Send, Wait, Done}
use Rattle.world_model.specs.declared.message.Call.{Call}
use Rattle.op_machines.specs.Laws.{LeavesNothing}
use Rattle.op_machines.specs.declared.machine.Machine.{Machine}
use Rattle.client_core.specs.View.{View, has_room, turn_at, IsBound, IsSound}
use Rattle.client_core.specs.Steps.{IsBusyAt}

-- The operation of the lane at a place asked for a call: a piece that flies under its xid is taken back if the call isn't made.
pub record AwaitsRefusal (v : View) (at : ℕ) : Type 0 where
  pub bound : IsBound v
  pub ready : IsReady (next_xid v.calls + 1) v.shelf.seq v.shelf.back
  pub unmade : (number : ℕ) (machine : Machine) → IsBusyAt v at number machine → LeavesNothing v.wsize (turn_at v) machine v.shelf

-- There is room for the call, and it has a spelling.
pub record AwaitsCall (v : View) (at : ℕ) (call : Call) : Type 0 where
  pub room : has_room v ≡ true
  pub spells : IsSpellable call
  pub refusal : AwaitsRefusal v at

abbrev pub Awaits : View → ℕ → Step → Type 0
Awaits v at (Send call) = AwaitsCall v at call
Awaits v at Wait = IsSound v
Awaits v at (Done answer) = IsSound v
