-- What operations find where their walks lead, and what they list there, as the machine of model_walks does (RFC 1813, sections 3.3.3, 3.3.8 and 3.3.17).
use Rattle.std.specs.Prelude.{◌≡◌, ◌<◌, ◌≤◌, ℕ, Bool, true, List, [], ◌++◌, length, Option, Some, None, slice_get}
use Rattle.nfs_types.specs.declared.attr.Attr.{Attr}
use Rattle.nfs_types.specs.declared.mode.Mode.{Mode}
use Rattle.nfs_types.specs.declared.verf.Verf.{Verf}
use Rattle.nfs_types.specs.declared.wcc.Wcc.{Wcc}
use Rattle.nfs_dir_calls.specs.declared.call.DirCall.TheVariants as dirs
use Rattle.nfs_dir_calls.specs.declared.create.Making.{Making}
use Rattle.nfs_dir_calls.specs.declared.keeping.DirKept.TheVariants.{Lookup, Create}
use Rattle.nfs_dir_calls.specs.declared.plus_page.PlusRow.{PlusRow}
use Rattle.dir_list.specs.Listings.{counted}
use Rattle.world_model.specs.declared.entry.Entry.{Entry}
use Rattle.world_model.specs.declared.message.Call.TheVariants as calls
use Rattle.world_model.specs.declared.message.Reply.TheVariants.{Dir}
use Rattle.world_model.specs.declared.op.Op.{Op}
use Rattle.world_model.specs.declared.op.Op.TheVariants as ops
use Rattle.world_model.specs.Chains.{LastCookie, list_call, page_reply}
use Rattle.world_model.specs.Operations.{UnderWay}
use Rattle.file_ops.specs.declared.opening.Opening.{Opening}
use Rattle.file_ops.specs.declared.opening.OpeningPhase.{OpeningPhase}
use Rattle.file_ops.specs.declared.opening.OpeningPhase.TheVariants.{Look, Make, Find, Ask}
use Rattle.file_ops.specs.declared.put_file.Putting.{Putting}
use Rattle.file_ops.specs.declared.put_file.Putting.TheVariants.{Idle, Opens, Adds, Saves}
use Rattle.name_ops.specs.declared.list_dir.ListDir.{ListDir}
use Rattle.name_ops.specs.ListDir.{first_page}
use Rattle.name_ops.specs.Looking.{look_up}
use Rattle.name_ops.specs.Walking.{next_name}
use Rattle.op_machines.specs.declared.begun.Mounted.{Mounted}
use Rattle.op_machines.specs.declared.machine.Machine.{Machine}
use Rattle.op_machines.specs.declared.machine.Machine.TheVariants as machines
use Rattle.op_machines.specs.declared.name_machine.NameMachine.{NameMachine}
use Rattle.op_machines.specs.declared.name_machine.NameMachine.TheVariants as names
use Rattle.op_machines.specs.declared.opener.Opener.{Opener}
use Rattle.op_machines.specs.declared.opener.Opener.TheVariants as openers
use Rattle.op_machines.specs.Begun.{machine_of, front_of, last_of}
use Rattle.client_core.specs.declared.lane.State.TheVariants.{Busy}
use Rattle.client_core.specs.declared.setup.Setup.{Setup}
use Rattle.client_core.specs.View.{View}
use Rattle.core_facts.specs.Reaches.{Reaches}
use Rattle.core_answers.specs.bonds.Kept.{IsAnswered, LastAtMost}
use Rattle.core_counts.specs.coarse.FedWalks.{Leads}

-- ---- files

-- an open or a put that has found its file has this one
abbrev pub StepHas : OpeningPhase → List ℕ → Type 0
StepHas Look file = ⊥
StepHas Make file = ⊥
StepHas Find file = ⊥
StepHas (Ask found) file = found ≡ file

abbrev pub PutHas : Putting → Opening → List ℕ → Type 0
PutHas Idle o file = ⊥
PutHas Opens o file = StepHas o.step file
PutHas (Adds found) o file = found ≡ file
PutHas (Saves saving) o file = saving.file ≡ file

abbrev pub OpenerHas : Opener → List ℕ → Type 0
OpenerHas (openers.Open q) file = StepHas q.opening.step file
OpenerHas (openers.Put p) file = PutHas p.state p.opening file

-- It is where its walk leads, and has found the file.
abbrev pub HasFile : Machine → List ℕ → Type 0
HasFile (machines.File m) file = ⊥
HasFile (machines.Path m) file = (m.arrived ≡ true) × OpenerHas m.opener file
HasFile (machines.Name m) file = ⊥

-- The reply to a LOOKUP or CREATE of the name in the directory gave the file. It was first sent after the operation at the place x began.
pub data Gives (h : List Entry) (x : ℕ) (d name file : List ℕ) : Type 0 where
  looks_up : (since : ℕ) (attr dir : Option Attr) → x < since → IsAnswered h since (length h) (look_up d name) (Dir (Lookup file attr dir))
      → Gives h x d name file
  creates : (since : ℕ) (making : Making) (attr : Option Attr) (wcc : Wcc) → x < since
      → IsAnswered h since (length h) (calls.Dir (dirs.Create d name making)) (Dir (Create (Some file) attr wcc)) → Gives h x d name file

-- The last name of the path gave the file, in the directory to which the names before it lead.
pub record IsFound (h : List Entry) (most x : ℕ) (root : List ℕ) (path : List (List ℕ)) (file : List ℕ) : Type 0 where
  pub d : List ℕ
  pub leads : Leads h most x root (front_of path) d
  pub gives : Gives h x d (last_of path) file

-- an open or a put of this path
pub data IsAt (path : List (List ℕ)) (op : Op) : Type 0 where
  an_open : (slot : ℕ) (mode : Mode) → op ≡ ops.OpenFile slot mode path → IsAt path op
  a_put : (offset : ℕ) (bytes : List ℕ) → op ≡ ops.Put path offset bytes → IsAt path op

-- Each file that an open or a put under way has found is so.
abbrev pub FilesFound : Type 0
FilesFound = (m : Mounted) (setup : Setup) (most : ℕ) (h : List Entry) (v : View) → LastAtMost setup.lives most → Reaches (machine_of m) setup h v
    → (at number : ℕ) (machine : Machine) → slice_get v.lanes at ≡ Some (record { number = number; state = Busy machine })
    → (x : ℕ) (op : Op) → UnderWay h number x (length h) op → (path : List (List ℕ)) → IsAt path op
    → (file : List ℕ) → HasFile machine file → IsFound h most x m.root path file

-- ---- lists

-- Pages of the directory that came between the places x and n, and with them these entries: the first was asked from cookie 0 since x, each next one from the
-- last cookie of the one before it, since that came.
pub data Pages (h : List Entry) (x : ℕ) (d : List ℕ) : ℕ → List PlusRow → ℕ → Verf → Type 0 where
  begins : (n : ℕ) (rows : List PlusRow) (cookie : ℕ) (verf : Verf) → n ≡ x → rows ≡ [] → cookie ≡ 0 → Pages h x d n rows cookie verf
  takes : (n was since : ℕ) (rows before page : List PlusRow) (cookie from : ℕ) (verf with_ : Verf) (attr : Option Attr) (eof : Bool)
      → Pages h x d was before from with_ → was ≤ since → n ≤ length h → IsAnswered h since n (list_call d from with_) (page_reply attr verf page eof)
      → LastCookie page cookie → rows ≡ before ++ page → Pages h x d n rows cookie verf

-- A listing begins at the first page; or its walk has come to its end, and it goes on behind the pages that it took, with their entries.
pub data Lists (h : List Entry) (x : ℕ) (m : ListDir) : Type 0 where
  at_first : m.place ≡ first_page → m.listing ≡ [] → Lists h x m
  goes_on : (n : ℕ) (rows : List PlusRow) → next_name m.visit.walk ≡ None → n ≤ length h
      → Pages h x m.visit.walk.spot.dir n rows m.place.cookie m.place.verf → m.listing ≡ counted rows → Lists h x m

abbrev pub NamesList : (ListDir → Type 0) → NameMachine → Type 0
NamesList P (names.List m) = P m
NamesList P m = ⊥

-- The operation is a listing of which this holds.
abbrev pub OfList : (ListDir → Type 0) → Machine → Type 0
OfList P (machines.File m) = ⊥
OfList P (machines.Path m) = ⊥
OfList P (machines.Name m) = NamesList P m

-- Each listing under way is so.
abbrev pub ListsTaken : Type 0
ListsTaken = (m : Mounted) (setup : Setup) (most : ℕ) (h : List Entry) (v : View) → LastAtMost setup.lives most → Reaches (machine_of m) setup h v
    → (at number : ℕ) (machine : Machine) → slice_get v.lanes at ≡ Some (record { number = number; state = Busy machine })
    → (x : ℕ) (op : Op) → UnderWay h number x (length h) op → (path : List (List ℕ)) → op ≡ ops.List path → OfList (Lists h x) machine
