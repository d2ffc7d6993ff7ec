-- What the answer of an operation on names that succeeded shows.
use Rattle.std.specs.Prelude.{ℕ, List}
use Rattle.world_model.specs.declared.answer.Answer.TheVariants.{Done}
use Rattle.world_model.specs.declared.answer.Value.{Value}
use Rattle.world_model.specs.declared.entry.Entry.{Entry}
use Rattle.world_model.specs.declared.entry.Entry.TheVariants.{Began}
use Rattle.world_model.specs.declared.op.Op.{Op}
use Rattle.world_model.specs.declared.op.Op.TheVariants as ops
use Rattle.world_model.specs.Entries.{At}
use Rattle.world_model.specs.Mounts.{Origin, Rooted}
use Rattle.claims.specs.OkRows.{OkRow}
use Rattle.world_model.specs.Operations.{Ended}
use Rattle.claims.specs.Terms.{Terms}
use Rattle.op_machines.specs.declared.begun.Mounted.{Mounted}
use Rattle.op_machines.specs.Begun.{IsAsked, machine_of}
use Rattle.client_core.specs.declared.setup.Setup.{Setup}
use Rattle.client_core.specs.View.{View}
use Rattle.core_facts.specs.Reaches.{Reaches}

-- the operations that walk along their paths and make one call: access, readlink, mkdir, rmdir, symlink, rename and link
abbrev pub IsOneCall : Op → Type 0
IsOneCall (ops.Access path bits) = Unit {0}
IsOneCall (ops.ReadLink path) = Unit {0}
IsOneCall (ops.MakeDir path) = Unit {0}
IsOneCall (ops.RemoveDir path) = Unit {0}
IsOneCall (ops.SymLink path target) = Unit {0}
IsOneCall (ops.Rename from to) = Unit {0}
IsOneCall (ops.Link from to) = Unit {0}
IsOneCall op = ⊥

-- The session's root was known when each operation began.
abbrev pub KnowsRoot : Origin → List Entry → List ℕ → Type 0
KnowsRoot origin h root = (x lane line : ℕ) (op : Op) → At h x (Began lane line op) → Rooted origin h x root

-- An operation of a script that makes one call succeeds only so: it ends with the reply to that call on the objects to which its paths lead, of
-- status 0, and its value is the reply's.
abbrev pub OneCallsDone : Type 0
OneCallsDone = (m : Mounted) (setup : Setup) (h : List Entry) (v : View) → Reaches (machine_of m) setup h v → (terms : Terms) → KnowsRoot terms.origin h m.root
    → (lane x : ℕ) (op : Op) (y : ℕ) (value : Value) → IsOneCall op → IsAsked op → Ended h lane x op y (Done value) → OkRow terms h lane x y op value
