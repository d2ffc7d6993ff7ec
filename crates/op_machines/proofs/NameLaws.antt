-- What holds of every step of an operation on names.
use Rattle.std.proofs.Common.{◌≡◌, ◌≤◌, ℕ, true, false, List, length, Option, Result, Ok, Err, sym, ap, subst, ◌∙◌}
use Rattle.world_model.specs.declared.answer.Fault.{Fault}
use Rattle.world_model.specs.declared.message.Call.{Call}
use Rattle.world_model.specs.declared.message.Reply.{Reply}
use Rattle.write_back.specs.Files.{Pending}
use Rattle.client_shelf.specs.declared.shelf.Shelf.{Shelf}
use Rattle.client_shelf.specs.declared.turn.Turn.{Turn}
use Rattle.client_shelf.specs.declared.step.Step.{Step}
use Rattle.client_shelf.specs.declared.step.Step.TheVariants as nexts
use Rattle.client_shelf.specs.Spelling.{IsSpellable}
use Rattle.file_ops.specs.Ready.{IsReady}
use Rattle.name_ops.specs.declared.dir_change.DirDeed.{DirDeed}
use Rattle.name_ops.specs.declared.dir_change.DirDeed.TheVariants as deeds
use Rattle.name_ops.specs.declared.pair.Pair.{Pair}
use Rattle.name_ops.specs.declared.remove_file.Deed.{Deed}
use Rattle.name_ops.specs.declared.remove_file.Deed.TheVariants.{Look, Seek, Move, Remove}
use Rattle.name_ops.specs.declared.remove_file.RemoveFile.{RemoveFile}
use Rattle.name_ops.specs.declared.stat.Stat.{Stat}
use Rattle.name_ops.specs.declared.visit.Visit.{Visit}
use Rattle.name_ops.specs.Access.{access_call, access_attr, access_told}
use Rattle.name_ops.specs.DirChange.{deed_call, deed_told}
use Rattle.name_ops.specs.Link.{link_call}
use Rattle.name_ops.specs.ListDir.{page_call}
use Rattle.name_ops.specs.Pairs as pairs
use Rattle.name_ops.specs.ReadLink.{text_call}
use Rattle.name_ops.specs.RemoveFile as removals
use Rattle.name_ops.specs.Rename.{rename_call}
use Rattle.name_ops.specs.Stat as stats
use Rattle.name_ops.specs.SymLink.{sym_link_call}
use Rattle.name_ops.specs.Visiting as visiting
use Rattle.name_ops.proofs.Asking as asking
use Rattle.name_ops.proofs.Asking.{Asks, asks-as}
use Rattle.name_ops.proofs.Keeps as keeps
use Rattle.name_ops.proofs.Keeps.{IsKept, kept-as}
use Rattle.name_ops.proofs.Stills.{visit-still, copy-still, stat-still, remove-still, pair-still}
use Rattle.op_machines.specs.declared.name_machine.NameMachine.{NameMachine}
use Rattle.op_machines.specs.declared.name_machine.NameMachine.TheVariants as machines
use Rattle.op_machines.specs.Fits.{NameFits}
use Rattle.op_machines.specs.NameSteps as steps
use Rattle.op_machines.specs.NameSteps.{NameGoes, NameTakes}

-- ---- what is pending stays

pub ready-kept : (xid : ℕ) (old new : Shelf) → IsKept old new → IsReady xid old.seq old.back → IsReady xid new.seq new.back
ready-kept xid old new k r =
    subst (λ (n : ℕ). IsReady xid n new.back) (sym k.seq) (subst (λ (p : Pending). IsReady xid old.seq p) (sym k.back) r)

visit-goes-kept : (call : List ℕ → Call) (v : Visit) (with_visit : Visit → NameMachine) (turn : Turn) (old : Shelf) (next : Step) (new : NameMachine) (after : Shelf)
    → steps.VisitGoes call v with_visit turn old next new after → IsKept old after
visit-goes-kept call v with_visit turn old next new after g = kept-as old (visiting.visit_shelf v turn old) after g.shelf_is (keeps.visit-kept v turn old)

pair-goes-kept : (call : List ℕ → List ℕ → Call) (p : Pair) (with_pair : Pair → NameMachine) (turn : Turn) (old : Shelf) (next : Step) (new : NameMachine) (after : Shelf)
    → steps.PairGoes call p with_pair turn old next new after → IsKept old after
pair-goes-kept call p with_pair turn old next new after g = kept-as old (pairs.pair_shelf p turn old) after g.shelf_is (keeps.pair-kept p turn old)

pub name-goes-kept : (m : NameMachine) (turn : Turn) (old : Shelf) (next : Step) (new : NameMachine) (after : Shelf) → NameGoes m turn old next new after → IsKept old after
name-goes-kept (machines.Change m) turn old next new after g = visit-goes-kept (deed_call m.deed m.name) m.visit (steps.change_with m) turn old next new after g
name-goes-kept (machines.Stat m) turn old next new after g = kept-as old (stats.stat_shelf m turn old) after g.shelf_is (keeps.stat-kept m turn old)
name-goes-kept (machines.Access m) turn old next new after g = visit-goes-kept (access_call m.bits) m.visit (steps.access_with m) turn old next new after g
name-goes-kept (machines.ReadLink m) turn old next new after g = visit-goes-kept text_call m.visit (steps.read_link_with m) turn old next new after g
name-goes-kept (machines.Remove m) turn old next new after g = keeps.remove-kept m.asked m turn old next g.machine after g.step
name-goes-kept (machines.Rename m) turn old next new after g = pair-goes-kept (rename_call m.from m.to) m.pair (steps.rename_with m) turn old next new after g
name-goes-kept (machines.Link m) turn old next new after g = pair-goes-kept (link_call m.name) m.pair (steps.link_with m) turn old next new after g
name-goes-kept (machines.SymLink m) turn old next new after g = kept-as old (visiting.visit_shelf m.visit turn old) after g.shelf_is (keeps.visit-kept m.visit turn old)
name-goes-kept (machines.List m) turn old next new after g = visit-goes-kept (page_call m.place) m.visit (steps.list_with m) turn old next new after g

pub name-takes-kept : (m : NameMachine) (sent turn : Turn) (came : Result Reply Fault) (old : Shelf) (next : Step) (new : NameMachine) (after : Shelf)
    → NameTakes m sent turn came old next new after → IsKept old after
name-takes-kept (machines.Change m) sent turn came old next new after t =
    keeps.change-takes-kept m.visit.asked (deed_call m.deed m.name) (deed_told m.deed came) m.visit sent turn came old next t.visit after t.step
name-takes-kept (machines.Stat m) sent turn came old next new after t = keeps.stat-takes-kept m.asked m sent turn came old next t.machine after t.step
name-takes-kept (machines.Access m) sent turn came old next new after t =
    keeps.show-takes-kept m.visit.asked (access_call m.bits) (access_attr came) (access_told came) m.visit sent turn came old next t.visit after t.step
name-takes-kept (machines.ReadLink m) sent turn came old next new after t = keeps.text-takes-kept m.visit.asked m.visit sent turn came old next t.visit after t.step
name-takes-kept (machines.Remove m) sent turn came old next new after t = keeps.remove-takes-kept m.deed m sent turn came old next t.machine after t.step
name-takes-kept (machines.Rename m) sent turn came old next new after t = keeps.rename-takes-kept m.pair.asked m sent turn came old next t.pair after t.step
name-takes-kept (machines.Link m) sent turn came old next new after t = keeps.link-takes-kept m.pair.asked m sent turn came old next t.pair after t.step
name-takes-kept (machines.SymLink m) sent turn came old next new after t = keeps.sym-link-takes-kept m.visit.asked m sent turn came old next t.visit after t.step
name-takes-kept (machines.List m) sent turn came old next new after t = keeps.list-takes-kept m.visit.asked m sent turn came old next t.machine after t.step

-- ---- one that waits stays as it is

visit-goes-still : (call : List ℕ → Call) (v : Visit) (with_visit : Visit → NameMachine) (turn : Turn) (old : Shelf) (next : Step) (new : NameMachine) (after : Shelf)
    → turn.room ≡ true → steps.VisitGoes call v with_visit turn old next new after → next ≡ nexts.Wait → (new ≡ with_visit v) × (after ≡ old)
visit-goes-still call v with_visit turn old next new after room g waits =
    let still = visit-still call v turn old room (sym g.next_is ∙ waits) in
    (g.machine_is ∙ ap with_visit still.0, g.shelf_is ∙ still.1)

pair-goes-still : (call : List ℕ → List ℕ → Call) (p : Pair) (with_pair : Pair → NameMachine) (turn : Turn) (old : Shelf) (next : Step) (new : NameMachine) (after : Shelf)
    → turn.room ≡ true → steps.PairGoes call p with_pair turn old next new after → next ≡ nexts.Wait → (new ≡ with_pair p) × (after ≡ old)
pair-goes-still call p with_pair turn old next new after room g waits =
    let still = pair-still call p turn old room (sym g.next_is ∙ waits) in
    (g.machine_is ∙ ap with_pair still.0, g.shelf_is ∙ still.1)

pub name-still : (m : NameMachine) (turn : Turn) (old : Shelf) (next : Step) (new : NameMachine) (after : Shelf) → turn.room ≡ true → NameGoes m turn old next new after
    → next ≡ nexts.Wait → (new ≡ m) × (after ≡ old)
name-still (machines.Change m) turn old next new after room g waits = visit-goes-still (deed_call m.deed m.name) m.visit (steps.change_with m) turn old next new after room g waits
name-still (machines.Stat m) turn old next new after room g waits =
    let still = stat-still m turn old room (sym g.next_is ∙ waits) in
    (g.machine_is ∙ ap (λ (x : Stat). machines.Stat x) still.0, g.shelf_is ∙ still.1)
name-still (machines.Access m) turn old next new after room g waits = visit-goes-still (access_call m.bits) m.visit (steps.access_with m) turn old next new after room g waits
name-still (machines.ReadLink m) turn old next new after room g waits = visit-goes-still text_call m.visit (steps.read_link_with m) turn old next new after room g waits
name-still (machines.Remove m) turn old next new after room g waits =
    let still = remove-still m turn old next g.machine after room g.step waits in
    (g.machine_is ∙ ap (λ (x : RemoveFile). machines.Remove x) still.0, still.1)
name-still (machines.Rename m) turn old next new after room g waits = pair-goes-still (rename_call m.from m.to) m.pair (steps.rename_with m) turn old next new after room g waits
name-still (machines.Link m) turn old next new after room g waits = pair-goes-still (link_call m.name) m.pair (steps.link_with m) turn old next new after room g waits
name-still (machines.SymLink m) turn old next new after room g waits =
    let still = copy-still (sym_link_call m.name m.target) m.visit turn old next room g.next_is waits in
    (g.machine_is ∙ ap (λ (v : Visit). steps.sym_link_with m v) still.0, g.shelf_is ∙ still.1)
name-still (machines.List m) turn old next new after room g waits = visit-goes-still (page_call m.place) m.visit (steps.list_with m) turn old next new after room g waits

-- ---- the target of a symbolic link stays

as-it-is : (new to : NameMachine) → new ≡ to → NameFits to → NameFits new
as-it-is new to is fits = subst NameFits (sym is) fits

pub name-goes-fits : (m : NameMachine) (turn : Turn) (old : Shelf) (next : Step) (new : NameMachine) (after : Shelf) → NameGoes m turn old next new after → NameFits m → NameFits new
name-goes-fits (machines.Change m) turn old next new after g fits = as-it-is new _ g.machine_is tt
name-goes-fits (machines.Stat m) turn old next new after g fits = as-it-is new _ g.machine_is tt
name-goes-fits (machines.Access m) turn old next new after g fits = as-it-is new _ g.machine_is tt
name-goes-fits (machines.ReadLink m) turn old next new after g fits = as-it-is new _ g.machine_is tt
name-goes-fits (machines.Remove m) turn old next new after g fits = as-it-is new _ g.machine_is tt
name-goes-fits (machines.Rename m) turn old next new after g fits = as-it-is new _ g.machine_is tt
name-goes-fits (machines.Link m) turn old next new after g fits = as-it-is new _ g.machine_is tt
name-goes-fits (machines.SymLink m) turn old next new after g fits = as-it-is new _ g.machine_is fits
name-goes-fits (machines.List m) turn old next new after g fits = as-it-is new _ g.machine_is tt

pub name-takes-fits : (m : NameMachine) (sent turn : Turn) (came : Result Reply Fault) (old : Shelf) (next : Step) (new : NameMachine) (after : Shelf)
    → NameTakes m sent turn came old next new after → NameFits m → NameFits new
name-takes-fits (machines.Change m) sent turn came old next new after t fits = as-it-is new _ t.machine_is tt
name-takes-fits (machines.Stat m) sent turn came old next new after t fits = as-it-is new _ t.machine_is tt
name-takes-fits (machines.Access m) sent turn came old next new after t fits = as-it-is new _ t.machine_is tt
name-takes-fits (machines.ReadLink m) sent turn came old next new after t fits = as-it-is new _ t.machine_is tt
name-takes-fits (machines.Remove m) sent turn came old next new after t fits = as-it-is new _ t.machine_is tt
name-takes-fits (machines.Rename m) sent turn came old next new after t fits = as-it-is new _ t.machine_is tt
name-takes-fits (machines.Link m) sent turn came old next new after t fits = as-it-is new _ t.machine_is tt
name-takes-fits (machines.SymLink m) sent turn came old next new after t fits = as-it-is new _ t.machine_is fits
name-takes-fits (machines.List m) sent turn came old next new after t fits = as-it-is new _ t.machine_is tt

-- ---- a call is asked for where there is room, and has a spelling

abbrev pub IsFine : NameMachine → Turn → Call → Type 0
IsFine m turn call = (turn.room ≡ true) × (NameFits m → IsSpellable call)

looks : (m : NameMachine) (turn : Turn) → asking.Looks (IsFine m turn) turn.room
looks m turn = λ room dir name. (room, λ fits. tt)

deed-spells : (deed : DirDeed) (name dir : List ℕ) → IsSpellable (deed_call deed name dir)
deed-spells deeds.Make name dir = tt
deed-spells deeds.Remove name dir = tt

removal-spells : (m : RemoveFile) (deed : Deed) → IsSpellable (removals.call_of m deed)
removal-spells m Look = tt
removal-spells m (Seek file to) = tt
removal-spells m (Move file to) = tt
removal-spells m Remove = tt

pub name-goes-asks : (m : NameMachine) (turn : Turn) (old : Shelf) (next : Step) (new : NameMachine) (after : Shelf) → NameGoes m turn old next new after → Asks (IsFine m turn) next
name-goes-asks (machines.Change m) turn old next new after g =
    let P = IsFine (machines.Change m) turn in
    let call = deed_call m.deed m.name in
    asks-as P (visiting.next_by call (visiting.visit_next m.visit turn old)) next g.next_is
    (asking.visit-asks P call m.visit turn old (looks (machines.Change m) turn) (λ room dir. (room, λ fits. deed-spells m.deed m.name dir)))
name-goes-asks (machines.Stat m) turn old next new after g =
    let P = IsFine (machines.Stat m) turn in
    asks-as P (stats.stat_next m turn old) next g.next_is (asking.stat-asks P m turn old (looks (machines.Stat m) turn) (λ room dir. (room, λ fits. tt)))
name-goes-asks (machines.Access m) turn old next new after g =
    let P = IsFine (machines.Access m) turn in
    let call = access_call m.bits in
    asks-as P (visiting.next_by call (visiting.visit_next m.visit turn old)) next g.next_is
    (asking.visit-asks P call m.visit turn old (looks (machines.Access m) turn) (λ room dir. (room, λ fits. tt)))
name-goes-asks (machines.ReadLink m) turn old next new after g =
    let P = IsFine (machines.ReadLink m) turn in
    asks-as P (visiting.next_by text_call (visiting.visit_next m.visit turn old)) next g.next_is
    (asking.visit-asks P text_call m.visit turn old (looks (machines.ReadLink m) turn) (λ room dir. (room, λ fits. tt)))
name-goes-asks (machines.Remove m) turn old next new after g =
    let P = IsFine (machines.Remove m) turn in
    asking.remove-asks P m.asked m turn old next g.machine after (looks (machines.Remove m) turn) (λ room n deed. (room, λ fits. removal-spells n deed)) g.step
name-goes-asks (machines.Rename m) turn old next new after g =
    let P = IsFine (machines.Rename m) turn in
    let call = rename_call m.from m.to in
    asks-as P (pairs.next_by call (pairs.pair_next m.pair turn old)) next g.next_is
    (asking.pair-asks P call m.pair turn old (looks (machines.Rename m) turn) (λ room first second. (room, λ fits. tt)))
name-goes-asks (machines.Link m) turn old next new after g =
    let P = IsFine (machines.Link m) turn in
    let call = link_call m.name in
    asks-as P (pairs.next_by call (pairs.pair_next m.pair turn old)) next g.next_is
    (asking.pair-asks P call m.pair turn old (looks (machines.Link m) turn) (λ room first second. (room, λ fits. tt)))
name-goes-asks (machines.SymLink m) turn old next new after g =
    let P = IsFine (machines.SymLink m) turn in
    asking.copy-asks P (sym_link_call m.name m.target) m.visit turn old next (looks (machines.SymLink m) turn) (λ room dir. (room, λ fits. fits)) g.next_is
name-goes-asks (machines.List m) turn old next new after g =
    let P = IsFine (machines.List m) turn in
    let call = page_call m.place in
    asks-as P (visiting.next_by call (visiting.visit_next m.visit turn old)) next g.next_is
    (asking.visit-asks P call m.visit turn old (looks (machines.List m) turn) (λ room dir. (room, λ fits. tt)))

pub name-takes-asks : (m : NameMachine) (sent turn : Turn) (came : Result Reply Fault) (old : Shelf) (next : Step) (new : NameMachine) (after : Shelf)
    → NameTakes m sent turn came old next new after → Asks (IsFine m turn) next
name-takes-asks (machines.Change m) sent turn came old next new after t =
    asking.change-takes-asks (IsFine (machines.Change m) turn) m.visit.asked (deed_call m.deed m.name) (deed_told m.deed came) m.visit sent turn came old next t.visit after
    (looks (machines.Change m) turn) (λ room dir. (room, λ fits. deed-spells m.deed m.name dir)) t.step
name-takes-asks (machines.Stat m) sent turn came old next new after t =
    asking.stat-takes-asks (IsFine (machines.Stat m) turn) m.asked m sent turn came old next t.machine after (looks (machines.Stat m) turn) (λ room dir. (room, λ fits. tt)) t.step
name-takes-asks (machines.Access m) sent turn came old next new after t =
    asking.show-takes-asks (IsFine (machines.Access m) turn) m.visit.asked (access_call m.bits) (access_attr came) (access_told came) m.visit sent turn came old next t.visit after
    (looks (machines.Access m) turn) (λ room dir. (room, λ fits. tt)) t.step
name-takes-asks (machines.ReadLink m) sent turn came old next new after t =
    asking.text-takes-asks (IsFine (machines.ReadLink m) turn) m.visit.asked m.visit sent turn came old next t.visit after (looks (machines.ReadLink m) turn)
    (λ room dir. (room, λ fits. tt)) t.step
name-takes-asks (machines.Remove m) sent turn came old next new after t =
    asking.remove-takes-asks (IsFine (machines.Remove m) turn) m.deed m sent turn came old next t.machine after (looks (machines.Remove m) turn)
    (λ room n deed. (room, λ fits. removal-spells n deed)) t.step
name-takes-asks (machines.Rename m) sent turn came old next new after t =
    asking.rename-takes-asks (IsFine (machines.Rename m) turn) m.pair.asked m sent turn came old next t.pair after (looks (machines.Rename m) turn)
    (λ room first second. (room, λ fits. tt)) t.step
name-takes-asks (machines.Link m) sent turn came old next new after t =
    asking.link-takes-asks (IsFine (machines.Link m) turn) m.pair.asked m sent turn came old next t.pair after (looks (machines.Link m) turn)
    (λ room first second. (room, λ fits. tt)) t.step
name-takes-asks (machines.SymLink m) sent turn came old next new after t =
    asking.sym-link-takes-asks (IsFine (machines.SymLink m) turn) m.visit.asked m sent turn came old next t.visit after (looks (machines.SymLink m) turn)
    (λ room dir. (room, λ fits. fits)) t.step
name-takes-asks (machines.List m) sent turn came old next new after t =
    asking.list-takes-asks (IsFine (machines.List m) turn) m.visit.asked m sent turn came old next t.machine after (looks (machines.List m) turn)
    (λ room place dir. (room, λ fits. tt)) t.step
