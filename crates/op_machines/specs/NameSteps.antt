-- The steps of an operation on names: those of its machine.
use Rattle.std.specs.Prelude.{◌≡◌, ℕ, List, Result}
use Rattle.world_model.specs.declared.answer.Fault.{Fault}
use Rattle.world_model.specs.declared.message.Call.{Call}
use Rattle.world_model.specs.declared.message.Reply.{Reply}
use Rattle.client_shelf.specs.declared.shelf.Shelf.{Shelf}
use Rattle.client_shelf.specs.declared.turn.Turn.{Turn}
use Rattle.client_shelf.specs.declared.step.Step.{Step}
use Rattle.name_ops.specs.declared.access.Access.{Access}
use Rattle.name_ops.specs.declared.dir_change.DirChange.{DirChange}
use Rattle.name_ops.specs.declared.link.Link.{Link}
use Rattle.name_ops.specs.declared.list_dir.ListDir.{ListDir}
use Rattle.name_ops.specs.declared.pair.Pair.{Pair}
use Rattle.name_ops.specs.declared.read_link.ReadLink.{ReadLink}
use Rattle.name_ops.specs.declared.remove_file.RemoveFile.{RemoveFile}
use Rattle.name_ops.specs.declared.rename.Rename.{Rename}
use Rattle.name_ops.specs.declared.stat.Stat.{Stat}
use Rattle.name_ops.specs.declared.sym_link.SymLink.{SymLink}
use Rattle.name_ops.specs.declared.visit.Visit.{Visit}
use Rattle.name_ops.specs.Access.{access_call, access_attr, access_told}
use Rattle.name_ops.specs.Changing.{TakesChange}
use Rattle.name_ops.specs.DirChange.{deed_call, deed_told}
use Rattle.name_ops.specs.Link.{link_call, TakesLink}
use Rattle.name_ops.specs.ListDir.{page_call, TakesList}
use Rattle.name_ops.specs.Pairs as pairs
use Rattle.name_ops.specs.ReadLink.{text_call, TakesText}
use Rattle.name_ops.specs.RemoveFile as removals
use Rattle.name_ops.specs.Rename.{rename_call, TakesRename}
use Rattle.name_ops.specs.Showing.{TakesShow}
use Rattle.name_ops.specs.Stat as stats
use Rattle.name_ops.specs.SymLink.{sym_link_call, CopiesBy, TakesSymLink}
use Rattle.name_ops.specs.Visiting.{next_by, visit_next, visit_after, visit_shelf}
use Rattle.op_machines.specs.declared.name_machine.NameMachine.{NameMachine}
use Rattle.op_machines.specs.declared.name_machine.NameMachine.TheVariants as machines

-- ---- steps that no reply made possible, the first one among them

-- an operation of one walk and one call
pub record VisitGoes (call : List ℕ → Call) (v : Visit) (with_visit : Visit → NameMachine) (turn : Turn) (old : Shelf) (next : Step)
    (new : NameMachine) (after : Shelf) : Type 0 where
  pub next_is : next ≡ next_by call (visit_next v turn old)
  pub machine_is : new ≡ with_visit (visit_after v turn old)
  pub shelf_is : after ≡ visit_shelf v turn old

-- one whose call carries a copy
pub record CopyGoes (call : List ℕ → Call) (v : Visit) (with_visit : Visit → NameMachine) (turn : Turn) (old : Shelf) (next : Step)
    (new : NameMachine) (after : Shelf) : Type 0 where
  pub next_is : CopiesBy call (visit_next v turn old) next
  pub machine_is : new ≡ with_visit (visit_after v turn old)
  pub shelf_is : after ≡ visit_shelf v turn old

-- one of two walks and one call
pub record PairGoes (call : List ℕ → List ℕ → Call) (p : Pair) (with_pair : Pair → NameMachine) (turn : Turn) (old : Shelf) (next : Step)
    (new : NameMachine) (after : Shelf) : Type 0 where
  pub next_is : next ≡ pairs.next_by call (pairs.pair_next p turn old)
  pub machine_is : new ≡ with_pair (pairs.pair_after p turn old)
  pub shelf_is : after ≡ pairs.pair_shelf p turn old

pub record StatGoes (m : Stat) (turn : Turn) (old : Shelf) (next : Step) (new : NameMachine) (after : Shelf) : Type 0 where
  pub next_is : next ≡ stats.stat_next m turn old
  pub machine_is : new ≡ machines.Stat (stats.stat_after m turn old)
  pub shelf_is : after ≡ stats.stat_shelf m turn old

pub record RemoveGoes (m : RemoveFile) (turn : Turn) (old : Shelf) (next : Step) (new : NameMachine) (after : Shelf) : Type 0 where
  pub machine : RemoveFile
  pub machine_is : new ≡ machines.Remove machine
  pub step : removals.Resumes m.asked m turn old next machine after

-- each operation with its visit or its walks in another state
abbrev pub change_with : DirChange → Visit → NameMachine
change_with m visit = machines.Change (record m { visit = visit })

abbrev pub access_with : Access → Visit → NameMachine
access_with m visit = machines.Access (record m { visit = visit })

abbrev pub read_link_with : ReadLink → Visit → NameMachine
read_link_with m visit = machines.ReadLink (record m { visit = visit })

abbrev pub sym_link_with : SymLink → Visit → NameMachine
sym_link_with m visit = machines.SymLink (record m { visit = visit })

abbrev pub list_with : ListDir → Visit → NameMachine
list_with m visit = machines.List (record m { visit = visit })

abbrev pub rename_with : Rename → Pair → NameMachine
rename_with m pair = machines.Rename (record m { pair = pair })

abbrev pub link_with : Link → Pair → NameMachine
link_with m pair = machines.Link (record m { pair = pair })

abbrev pub NameGoes : NameMachine → Turn → Shelf → Step → NameMachine → Shelf → Type 0
NameGoes (machines.Change m) turn old next new after = VisitGoes (deed_call m.deed m.name) m.visit (change_with m) turn old next new after
NameGoes (machines.Stat m) turn old next new after = StatGoes m turn old next new after
NameGoes (machines.Access m) turn old next new after = VisitGoes (access_call m.bits) m.visit (access_with m) turn old next new after
NameGoes (machines.ReadLink m) turn old next new after = VisitGoes text_call m.visit (read_link_with m) turn old next new after
NameGoes (machines.Remove m) turn old next new after = RemoveGoes m turn old next new after
NameGoes (machines.Rename m) turn old next new after = PairGoes (rename_call m.from m.to) m.pair (rename_with m) turn old next new after
NameGoes (machines.Link m) turn old next new after = PairGoes (link_call m.name) m.pair (link_with m) turn old next new after
NameGoes (machines.SymLink m) turn old next new after = CopyGoes (sym_link_call m.name m.target) m.visit (sym_link_with m) turn old next new after
NameGoes (machines.List m) turn old next new after = VisitGoes (page_call m.place) m.visit (list_with m) turn old next new after

-- ---- the step at what came of the call that the step with the turn `sent` asked for

pub record ChangeTakes (m : DirChange) (sent turn : Turn) (came : Result Reply Fault) (old : Shelf) (next : Step) (new : NameMachine)
    (after : Shelf) : Type 0 where
  pub visit : Visit
  pub machine_is : new ≡ change_with m visit
  pub step : TakesChange m.visit.asked (deed_call m.deed m.name) (deed_told m.deed came) m.visit sent turn came old next visit after

pub record StatTakes (m : Stat) (sent turn : Turn) (came : Result Reply Fault) (old : Shelf) (next : Step) (new : NameMachine)
    (after : Shelf) : Type 0 where
  pub machine : Stat
  pub machine_is : new ≡ machines.Stat machine
  pub step : stats.StatTakes m.asked m sent turn came old next machine after

pub record AccessTakes (m : Access) (sent turn : Turn) (came : Result Reply Fault) (old : Shelf) (next : Step) (new : NameMachine)
    (after : Shelf) : Type 0 where
  pub visit : Visit
  pub machine_is : new ≡ access_with m visit
  pub step : TakesShow m.visit.asked (access_call m.bits) (access_attr came) (access_told came) m.visit sent turn came old next visit after

pub record ReadLinkTakes (m : ReadLink) (sent turn : Turn) (came : Result Reply Fault) (old : Shelf) (next : Step) (new : NameMachine)
    (after : Shelf) : Type 0 where
  pub visit : Visit
  pub machine_is : new ≡ read_link_with m visit
  pub step : TakesText m.visit.asked m.visit sent turn came old next visit after

pub record RemoveTakes (m : RemoveFile) (sent turn : Turn) (came : Result Reply Fault) (old : Shelf) (next : Step) (new : NameMachine)
    (after : Shelf) : Type 0 where
  pub machine : RemoveFile
  pub machine_is : new ≡ machines.Remove machine
  pub step : removals.Takes m.deed m sent turn came old next machine after

pub record RenameTakes (m : Rename) (sent turn : Turn) (came : Result Reply Fault) (old : Shelf) (next : Step) (new : NameMachine)
    (after : Shelf) : Type 0 where
  pub pair : Pair
  pub machine_is : new ≡ rename_with m pair
  pub step : TakesRename m.pair.asked m sent turn came old next pair after

pub record LinkTakes (m : Link) (sent turn : Turn) (came : Result Reply Fault) (old : Shelf) (next : Step) (new : NameMachine)
    (after : Shelf) : Type 0 where
  pub pair : Pair
  pub machine_is : new ≡ link_with m pair
  pub step : TakesLink m.pair.asked m sent turn came old next pair after

pub record SymLinkTakes (m : SymLink) (sent turn : Turn) (came : Result Reply Fault) (old : Shelf) (next : Step) (new : NameMachine)
    (after : Shelf) : Type 0 where
  pub visit : Visit
  pub machine_is : new ≡ sym_link_with m visit
  pub step : TakesSymLink m.visit.asked m sent turn came old next visit after

pub record ListTakes (m : ListDir) (sent turn : Turn) (came : Result Reply Fault) (old : Shelf) (next : Step) (new : NameMachine)
    (after : Shelf) : Type 0 where
  pub machine : ListDir
  pub machine_is : new ≡ machines.List machine
  pub step : TakesList m.visit.asked m sent turn came old next machine after

abbrev pub NameTakes : NameMachine → Turn → Turn → Result Reply Fault → Shelf → Step → NameMachine → Shelf → Type 0
NameTakes (machines.Change m) sent turn came old next new after = ChangeTakes m sent turn came old next new after
NameTakes (machines.Stat m) sent turn came old next new after = StatTakes m sent turn came old next new after
NameTakes (machines.Access m) sent turn came old next new after = AccessTakes m sent turn came old next new after
NameTakes (machines.ReadLink m) sent turn came old next new after = ReadLinkTakes m sent turn came old next new after
NameTakes (machines.Remove m) sent turn came old next new after = RemoveTakes m sent turn came old next new after
NameTakes (machines.Rename m) sent turn came old next new after = RenameTakes m sent turn came old next new after
NameTakes (machines.Link m) sent turn came old next new after = LinkTakes m sent turn came old next new after
NameTakes (machines.SymLink m) sent turn came old next new after = SymLinkTakes m sent turn came old next new after
NameTakes (machines.List m) sent turn came old next new after = ListTakes m sent turn came old next new after
