-- The core and the machine of written bytes beside it: each exact step of the core is moves of the machine.
use Rattle.std.specs.Prelude.{◌≡◌, ◌⊎◌, ℕ, List, [], ◌∷◌, ◌++◌, Option, Some, None, true, length, position, Result, Ok, Err}
use Rattle.rpc_message.specs.Call.{xid_at}
use Rattle.rpc_retry.specs.declared.waiting.Waiting.{Waiting}
use Rattle.rpc_retry.specs.Held.{Held, next_xid}
use Rattle.rpc_retry.specs.Waiting.{waiting_at}
use Rattle.world_model.specs.declared.answer.Fault.{Fault}
use Rattle.world_model.specs.declared.entry.Entry.{Entry}
use Rattle.world_model.specs.declared.entry.Entry.TheVariants.{Began, Sent, Delivered}
use Rattle.world_model.specs.declared.message.Call.{Call}
use Rattle.world_model.specs.declared.message.Reply.{Reply}
use Rattle.world_model.specs.declared.op.Op.{Op}
use Rattle.world_model.specs.Lost.{Loses}
use Rattle.world_model.specs.Messages.{SpellsCallBy}
use Rattle.call_replies.specs.Says.{said_of}
use Rattle.op_machines.specs.declared.begun.Mounted.{Mounted}
use Rattle.op_machines.specs.Begun.{machine_of}
use Rattle.client_core.specs.declared.lane.Purpose.{Purpose}
use Rattle.client_core.specs.declared.setup.Setup.{Setup}
use Rattle.client_core.specs.Fresh.{IsFresh}
use Rattle.client_core.specs.Lanes.{is_busy}
use Rattle.client_core.specs.Numbers.{IsIdle}
use Rattle.client_core.specs.Steps.{Stirs, counted, StartsLane, TakesAt, taken, lost}
use Rattle.client_core.specs.View.{View}
use Rattle.core_facts.specs.Reaches.{MaySetUp, IsSetUp, MayHear, StepsTo, Reaches, last_reading}
use Rattle.step_pending.specs.Cells.{Shows}
use Rattle.model_writes.specs.Machine as coarse
use Rattle.model_writes.specs.Mirrors.{call_of, reply_of}
use Rattle.model_writes.specs.Story as story
use Rattle.core_counts.specs.coarse.Long.{MakesLong}
use Rattle.core_counts.specs.coarse.Moves.{Moves, Hears, IsReached}

-- ---- what the machine shows of the core

-- under an xid no call waits, or the one that the record spells which waits there
abbrev pub ShownCall : Setup → ℕ → Option (Waiting Purpose) → Option story.Call → Type 0
ShownCall setup x None shown = shown ≡ None
ShownCall setup x (Some w) shown = (call : Call) × SpellsCallBy setup.cred x call w.bytes × (shown ≡ Some (call_of call))

-- the calls that wait, and the next xid
pub record ShownCalls (setup : Setup) (held : Held Purpose) (c : coarse.View) : Type 0 where
  pub next : c.next_xid ≡ next_xid held
  pub calls : (x : ℕ) → ShownCall setup x (waiting_at x held.calls) (c.wait x)

-- Of each place of each file the machine has what is pending there and what is in flight; and the same calls wait.
pub record Shown (setup : Setup) (v : View) (c : coarse.View) : Type 0 where
  pub places : Shows v.shelf.back c
  pub calls : ShownCalls setup v.calls c

-- what a record says of the call that it answers; if no reply is read from it, the call was denied
abbrev pub heard_as : story.Call → Result Reply Fault → story.Reply
heard_as call (Ok reply) = reply_of call reply
heard_as call (Err fault) = story.denied

-- ---- steps

-- What else happens, seen by the machine: a record that is sent is that of a call that waits, and one that comes under an xid under which none
-- waits changes nothing.
abbrev pub RestsAt : Setup → Entry → coarse.View → Type 0
RestsAt setup (Sent bytes) c = (x : ℕ) × (call : Call) × SpellsCallBy setup.cred x call bytes × (c.wait x ≡ Some (call_of call))
RestsAt setup (Delivered rec) c = (x : ℕ) → xid_at rec ≡ Some x → c.wait x ≡ None
RestsAt setup e c = Unit {0}

-- The core goes with a history, by its exact steps, and the machine with the core. A step of a lane's operation, with the call that it makes, is moves of the
-- machine: as it begins, as it goes on, and as it takes what came of its call, after the machine has heard what the record says. The WRITE that
-- it makes is long, or an answered one is made once more, and no other. What else happens
-- leaves the machine as it is. As the session is lost, and from then on, it stops: what is pending stays so.
pub data Runs (m : Mounted) (setup : Setup) : List Entry → View → coarse.View → Type 0 where
  fresh : (h : List Entry) (v : View) (c : coarse.View) → MaySetUp setup → IsSetUp setup h → IsFresh setup v → Shown setup v c → Runs m setup h v c
  starts : (h : List Entry) (old new : View) (lane line : ℕ) (op : Op) (c d : coarse.View) → Runs m setup h old c → IsIdle lane old.lanes
      → StartsLane (counted old (last_reading 0 h)) lane (machine_of m lane op) new → Moves c d → Shown setup new d
      → MakesLong setup (next_xid old.calls) new
      → Runs m setup (h ++ Began lane line op ∷ []) new d
  stirs : (h : List Entry) (old new : View) (at : ℕ) (c d : coarse.View) → Runs m setup h old c → Stirs old at new → Moves c d → Shown setup new d
      → MakesLong setup (next_xid old.calls) new → Runs m setup h new d
  takes : (h : List Entry) (old new : View) (rec : List ℕ) (xid : ℕ) (call : Waiting Purpose) (at : ℕ) (c b d : coarse.View) (asked : story.Call)
      → Runs m setup h old c → MayHear old → xid_at rec ≡ Some xid → waiting_at xid old.calls.calls ≡ Some call
      → position (is_busy call.purpose.lane) old.lanes ≡ Some at → TakesAt (taken old rec) at call.purpose.sent (said_of call.purpose.proc rec) new
      → c.wait xid ≡ Some asked → Hears c xid (heard_as asked (said_of call.purpose.proc rec)) b → Moves b d → Shown setup new d
      → coarse.Renews c b xid (heard_as asked (said_of call.purpose.proc rec)) × (d ≡ b) ⊎ MakesLong setup (next_xid old.calls) new
      → Runs m setup (h ++ Delivered rec ∷ []) new d
  rests : (h : List Entry) (e : Entry) (old new : View) (c : coarse.View) → Runs m setup h old c → StepsTo (machine_of m) h old e new
      → new.shelf ≡ old.shelf → RestsAt setup e c → Shown setup new c → Runs m setup (h ++ e ∷ []) new c
  stops : (h : List Entry) (e : Entry) (old new : View) (c : coarse.View) → Runs m setup h old c → StepsTo (machine_of m) h old e new
      → new.lost ≡ true → new.shelf ≡ old.shelf → Runs m setup (h ++ e ∷ []) new c
  given_up : (h : List Entry) (old new : View) (c : coarse.View) → Runs m setup h old c → Loses h (length h) → new ≡ lost old → Runs m setup h new c

-- with each history that the core goes with, the machine goes too
abbrev pub CoreIsCoarse : Type 0
CoreIsCoarse = (m : Mounted) (setup : Setup) (h : List Entry) (v : View) → Reaches (machine_of m) setup h v → (c : coarse.View) × Runs m setup h v c

-- So what the core keeps of each place is what the machine comes to.
abbrev pub StatesReached : Type 0
StatesReached = (m : Mounted) (setup : Setup) (h : List Entry) (v : View) → Reaches (machine_of m) setup h v
    → (c : coarse.View) × IsReached c × Shows v.shelf.back c
