-- How operations walk, as the machine of model_walks does: through each name by a LOOKUP of their own, or by a name that is kept (RFC 1813, section 3.3.3;
-- nfs(5), acregmin to acdirmax).
use Rattle.std.specs.Prelude.{◌≡◌, ◌<◌, ◌≤◌, ◌-◌, ℕ, List, [], ◌∷◌, ◌++◌, length, take, Option, Some, slice_get}
use Rattle.nfs_types.specs.declared.attr.Attr.{Attr}
use Rattle.nfs_types.specs.Stamps.{stamp_of}
use Rattle.nfs_dir_calls.specs.declared.keeping.DirKept.TheVariants.{Lookup}
use Rattle.world_model.specs.declared.entry.Entry.{Entry}
use Rattle.world_model.specs.declared.message.Reply.TheVariants.{Dir}
use Rattle.world_model.specs.declared.op.Op.{Op}
use Rattle.world_model.specs.Operations.{UnderWay}
use Rattle.name_ops.specs.declared.walk.Walk.{Walk}
use Rattle.name_ops.specs.Looking.{look_up}
use Rattle.op_machines.specs.declared.begun.Mounted.{Mounted}
use Rattle.op_machines.specs.declared.machine.Machine.{Machine}
use Rattle.op_machines.specs.declared.machine.Machine.TheVariants as machines
use Rattle.op_machines.specs.declared.name_machine.NameMachine.{NameMachine}
use Rattle.op_machines.specs.declared.name_machine.NameMachine.TheVariants as names
use Rattle.op_machines.specs.Begun.{machine_of}
use Rattle.client_core.specs.declared.lane.State.TheVariants.{Busy}
use Rattle.client_core.specs.declared.setup.Setup.{Setup}
use Rattle.client_core.specs.View.{View}
use Rattle.core_facts.specs.Reaches.{Reaches}
use Rattle.core_answers.specs.bonds.Ages.{ShownRecently}
use Rattle.core_answers.specs.bonds.Kept.{IsAnswered, LastAtMost}
use Rattle.core_answers.specs.bonds.Named.{WasNamed}

-- ---- the walks of an operation

abbrev pub EachNamed : (Walk → Type 0) → NameMachine → Type 0
EachNamed P (names.Change m) = P m.visit.walk
EachNamed P (names.Stat m) = P m.walk
EachNamed P (names.Access m) = P m.visit.walk
EachNamed P (names.ReadLink m) = P m.visit.walk
EachNamed P (names.Remove m) = P m.walk
EachNamed P (names.Rename m) = P m.pair.first × P m.pair.second
EachNamed P (names.Link m) = P m.pair.first × P m.pair.second
EachNamed P (names.SymLink m) = P m.visit.walk
EachNamed P (names.List m) = P m.visit.walk

-- it holds of each of them
abbrev pub EachWalk : (Walk → Type 0) → Machine → Type 0
EachWalk P (machines.File m) = Unit {0}
EachWalk P (machines.Path m) = P m.walk
EachWalk P (machines.Name m) = EachNamed P m

-- ---- one name, and a path

-- From a directory a name leads to the object, for the operation that began at the place x: by what a LOOKUP found that was first sent after it began; or as it
-- is kept under the stamp of attributes of the directory that were shown at a recent place.
pub data Goes (h : List Entry) (most x : ℕ) (d name object : List ℕ) : Type 0 where
  looks_up : (since : ℕ) (attr dir : Option Attr) → x < since → IsAnswered h since (length h) (look_up d name) (Dir (Lookup object attr dir))
      → Goes h most x d name object
  goes_by_name : (attr : Attr) (s : ShownRecently h most x (length h) attr) → s.object ≡ d
      → WasNamed h (record { dir = d; name = name }) (record { stamp = stamp_of attr; found = object }) → Goes h most x d name object

-- from the root, one name after the other
pub data Leads (h : List Entry) (most x : ℕ) (root : List ℕ) : List (List ℕ) → List ℕ → Type 0 where
  starts : (path : List (List ℕ)) (object : List ℕ) → path ≡ [] → object ≡ root → Leads h most x root path object
  goes : (path earlier : List (List ℕ)) (object name d : List ℕ) → path ≡ earlier ++ name ∷ [] → Leads h most x root earlier d → Goes h most x d name object
      → Leads h most x root path object

-- A walk stands where the names lead that it has gone through.
pub record Stands (h : List Entry) (most x : ℕ) (root : List ℕ) (w : Walk) : Type 0 where
  pub few : w.spot.left ≤ length w.path
  pub leads : Leads h most x root (take (length w.path - w.spot.left) w.path) w.spot.dir

-- So each walk does of each operation under way.
abbrev pub WalksLed : Type 0
WalksLed = (m : Mounted) (setup : Setup) (most : ℕ) (h : List Entry) (v : View) → LastAtMost setup.lives most → Reaches (machine_of m) setup h v
    → (at number : ℕ) (machine : Machine) → slice_get v.lanes at ≡ Some (record { number = number; state = Busy machine })
    → (x : ℕ) (op : Op) → UnderWay h number x (length h) op → EachWalk (Stands h most x m.root) machine
