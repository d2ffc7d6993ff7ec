-- How old the names and attributes are that a stat goes by, as `claims` says it (nfs(5), acregmax and acdirmax).
use Rattle.std.specs.Prelude.{◌<◌, ℕ, suc, List}
use Rattle.world_model.specs.declared.entry.Entry.{Entry}
use Rattle.world_model.specs.declared.entry.Entry.TheVariants.{Began, Clock}
use Rattle.world_model.specs.declared.op.Op.{Op}
use Rattle.world_model.specs.Entries.{At}
use Rattle.world_model.specs.Fresh.{Fresh}
use Rattle.world_model.specs.History.{History}
use Rattle.world_model.specs.Lawful.{Lawful}
use Rattle.claims.specs.Modes.{Modes}
use Rattle.world_model.specs.Mounts.{Origin}
use Rattle.claims.specs.Recent.{AttrAge}
use Rattle.op_machines.specs.Begun.{machine_of}
use Rattle.op_machines.specs.declared.begun.Mounted.{Mounted}
use Rattle.client_core.specs.declared.setup.Setup.{Setup}
use Rattle.client_core.specs.View.{View}
use Rattle.core_facts.specs.Naming.{KnowsRoot}
use Rattle.core_facts.specs.Reaches.{Reaches}
use Rattle.core_answers.specs.bonds.Kept.{LastAtMost}

-- a reading of the clock, before the place n
pub record IsRead (h : List Entry) (n : ℕ) : Type 0 where
  pub at : ℕ
  pub ms : ℕ
  pub read : At h at (Clock ms)
  pub before : at < n

-- an operation began at the place n
pub record BeginsAt (h : List Entry) (n : ℕ) : Type 0 where
  pub lane : ℕ
  pub line : ℕ
  pub op : Op
  pub began : At h n (Began lane line op)

-- The clock is read before operations begin, and at each reading before one of them an operation began.
pub record TakesReadings (h : List Entry) : Type 0 where
  pub read : (x lane line : ℕ) (op : Op) → At h x (Began lane line op) → IsRead h x
  pub taken : (i ms x lane line : ℕ) (op : Op) → At h i (Clock ms) → At h x (Began lane line op) → i < x → BeginsAt h (suc i)

-- The attributes that a stat shows are those that an object, to which its path leads by recent names, had at a recent moment.
abbrev pub AttrsAged : Type 0
AttrsAged = (m : Mounted) (setup : Setup) (modes : Modes) (origin : Origin) (t : History) (v : View) → LastAtMost setup.lives modes.longest → Lawful t → Fresh t
    → TakesReadings t.entries → KnowsRoot origin t.entries m.root → Reaches (machine_of m) setup t.entries v → AttrAge modes origin t
