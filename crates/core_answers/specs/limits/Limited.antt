-- How many calls a session makes, and when an operation is refused because all were made.
use Rattle.std.specs.Prelude.{◌≡◌, ◌<◌, ◌≤◌, ◌+◌, ◌++◌, ℕ, false, List, [], ◌∷◌, length}
use Rattle.world_model.specs.declared.answer.Answer.TheVariants.{Refused}
use Rattle.world_model.specs.declared.answer.Fault.TheVariants.{Spent}
use Rattle.world_model.specs.declared.entry.Entry.{Entry}
use Rattle.world_model.specs.declared.entry.Entry.TheVariants.{Began, Answered, Sent}
use Rattle.world_model.specs.declared.op.Op.{Op}
use Rattle.claims.specs.Caused.{calls_in}
use Rattle.world_model.specs.Entries.{At}
use Rattle.world_model.specs.Messages.{HasXid}
use Rattle.world_model.specs.Operations.{Ended}
use Rattle.world_model.specs.Rows.{WasSent}
use Rattle.op_machines.specs.Begun.{machine_of}
use Rattle.op_machines.specs.declared.begun.Mounted.{Mounted}
use Rattle.client_core.specs.declared.setup.Setup.{Setup}
use Rattle.client_core.specs.Steps.{WereSent}
use Rattle.client_core.specs.View.{View}
use Rattle.core_facts.specs.Reaches.{Reaches}

-- Each record that was sent is under one of the xids that there are: those of the core, or an earlier one.
abbrev pub XidsWithin : Type 0
XidsWithin = (m : Mounted) (setup : Setup) (h : List Entry) (v : View) → Reaches (machine_of m) setup h v
    → (i xid : ℕ) (bytes : List ℕ) → At h i (Sent bytes) → HasXid bytes xid → xid < setup.first_xid + setup.limit

-- An operation is answered that no more calls may be made only if as many were made as may be.
abbrev pub AllMade : Type 0
AllMade = (m : Mounted) (setup : Setup) (h : List Entry) (v : View) → Reaches (machine_of m) setup h v
    → (lane x : ℕ) (op : Op) (y : ℕ) → Ended h lane x op y (Refused Spent) → v.calls.made ≡ setup.limit

-- Once each call that waits then was sent, a call was sent under each of the core's xids.
abbrev pub AllSent : Type 0
AllSent = (m : Mounted) (setup : Setup) (h : List Entry) (v : View) → Reaches (machine_of m) setup h v
    → (lane x : ℕ) (op : Op) (y : ℕ) → Ended h lane x op y (Refused Spent) → WereSent v.calls.calls
    → (xid : ℕ) → setup.first_xid ≤ xid → xid < setup.first_xid + setup.limit → WasSent h xid (length h)

-- If a record was sent under each of so many xids from a first one on, and under no other, so many calls were made.
abbrev pub CallsAreAll : Type 0
CallsAreAll = (h : List Entry) (first calls : ℕ) → ((i xid : ℕ) (bytes : List ℕ) → At h i (Sent bytes) → HasXid bytes xid → (first ≤ xid) × (xid < first + calls))
    → ((xid : ℕ) → first ≤ xid → xid < first + calls → WasSent h xid (length h)) → calls_in h ≡ calls

-- An operation that is answered so while no other is under way, in a session that isn't lost: by then a record was sent under each of the core's xids.
abbrev pub SentByThen : Type 0
SentByThen = (m : Mounted) (setup : Setup) (h before : List Entry) (v : View) (lane line x line_began : ℕ) (op : Op) → Reaches (machine_of m) setup h v
    → h ≡ before ++ Answered lane line (Refused Spent) ∷ [] → At before x (Began lane line_began op) → v.lost ≡ false → v.lanes ≡ []
    → (xid : ℕ) → setup.first_xid ≤ xid → xid < setup.first_xid + setup.limit → WasSent before xid (length before)
