-- Which xids calls are sent under.
use Rattle.std.specs.Prelude.{◌<◌, ◌≤◌, ◌+◌, ◌⊎◌, ℕ, List}
use Rattle.world_model.specs.declared.entry.Entry.{Entry}
use Rattle.world_model.specs.declared.entry.Entry.TheVariants.{Sent}
use Rattle.claims.specs.CallsAsked.{NoneBegan}
use Rattle.world_model.specs.Entries.{At}
use Rattle.world_model.specs.Messages.{HasXid}
use Rattle.op_machines.specs.declared.begun.Mounted.{Mounted}
use Rattle.op_machines.specs.Begun.{machine_of}
use Rattle.client_core.specs.declared.setup.Setup.{Setup}
use Rattle.client_core.specs.View.{View}
use Rattle.core_facts.specs.Reaches.{Reaches}

-- it is one of so many xids, from the first one on
pub record IsAmong (first count xid : ℕ) : Type 0 where
  pub low : first ≤ xid
  pub high : xid < first + count

-- Each record is sent before any operation begins, or under one of the xids of the core: those for as many calls as it may make. So the calls have
-- no more different xids than that.
abbrev pub XidsKept : Type 0
XidsKept = (m : Mounted) (setup : Setup) (h : List Entry) (v : View) → Reaches (machine_of m) setup h v
    → (i xid : ℕ) (bytes : List ℕ) → At h i (Sent bytes) → HasXid bytes xid → NoneBegan h i ⊎ IsAmong setup.first_xid setup.limit xid
