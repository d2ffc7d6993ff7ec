-- No operation on names asks for a WRITE or a COMMIT, nor does one that is on its way to its file.
use Rattle.core_answers.proofs.Prelude.{◌≡◌, ◌-◌, ℕ, Bool, true, false, List, Result, refl, sym, ap, subst, ◌∙◌, Fault, Call, Reply, Shelf, Turn, Step, DirDeed, Deed, Look, Seek, Move, Remove, RemoveFile, access_call, access_attr, access_told, deed_call, deed_told, link_call, text_call, rename_call, sym_link_call, NameMachine, WalkStep, FileMachine, Machine, PathMachine, slot_taken, begun_at, Starts, Resumes, Takes}
use Rattle.client_shelf.specs.declared.step.Step.TheVariants as nexts
use Rattle.name_ops.specs.declared.dir_change.DirDeed.TheVariants as deeds
use Rattle.name_ops.specs.ListDir.{page_call}
use Rattle.name_ops.specs.Pairs as pairs
use Rattle.name_ops.specs.RemoveFile as removals
use Rattle.name_ops.specs.Stat as stats
use Rattle.name_ops.specs.Visiting as visiting
use Rattle.name_ops.proofs.Asking as asking
use Rattle.name_ops.proofs.Asking.{Asks, asks-as}
use Rattle.op_machines.specs.declared.name_machine.NameMachine.TheVariants as machines
use Rattle.op_machines.specs.NameSteps.{NameGoes, NameTakes}
use Rattle.name_ops.specs.Walking as walking
use Rattle.name_ops.specs.declared.walk.WalkStep.TheVariants as walks
use Rattle.op_machines.specs.declared.machine.Machine.TheVariants as all_machines
use Rattle.op_machines.specs.PathSteps as paths
use Rattle.core_answers.proofs.writes.AllBacks.{OnWay, AsksOther}
use Rattle.core_answers.proofs.writes.Plain.{IsOther}

looks : (turn : Turn) → asking.Looks IsOther turn.room
looks turn = λ room dir name. tt

deed-other : (deed : DirDeed) (name dir : List ℕ) → IsOther (deed_call deed name dir)
deed-other deeds.Make name dir = tt
deed-other deeds.Remove name dir = tt

removal-other : (m : RemoveFile) (deed : Deed) → IsOther (removals.call_of m deed)
removal-other m Look = tt
removal-other m (Seek file to) = tt
removal-other m (Move file to) = tt
removal-other m Remove = tt

pub names-go-other : (m : NameMachine) (turn : Turn) (old : Shelf) (next : Step) (new : NameMachine) (after : Shelf) → NameGoes m turn old next new after → Asks (IsOther) next
names-go-other (machines.Change m) turn old next new after g =
    let call = deed_call m.deed m.name in
    asks-as IsOther (visiting.next_by call (visiting.visit_next m.visit turn old)) next g.next_is
    (asking.visit-asks IsOther call m.visit turn old (looks turn) (λ room dir. deed-other m.deed m.name dir))
names-go-other (machines.Stat m) turn old next new after g =
    asks-as IsOther (stats.stat_next m turn old) next g.next_is (asking.stat-asks IsOther m turn old (looks turn) (λ room dir. tt))
names-go-other (machines.Access m) turn old next new after g =
    let call = access_call m.bits in
    asks-as IsOther (visiting.next_by call (visiting.visit_next m.visit turn old)) next g.next_is
    (asking.visit-asks IsOther call m.visit turn old (looks turn) (λ room dir. tt))
names-go-other (machines.ReadLink m) turn old next new after g =
    asks-as IsOther (visiting.next_by text_call (visiting.visit_next m.visit turn old)) next g.next_is
    (asking.visit-asks IsOther text_call m.visit turn old (looks turn) (λ room dir. tt))
names-go-other (machines.Remove m) turn old next new after g =
    asking.remove-asks IsOther m.asked m turn old next g.machine after (looks turn) (λ room n deed. removal-other n deed) g.step
names-go-other (machines.Rename m) turn old next new after g =
    let call = rename_call m.from m.to in
    asks-as IsOther (pairs.next_by call (pairs.pair_next m.pair turn old)) next g.next_is
    (asking.pair-asks IsOther call m.pair turn old (looks turn) (λ room first second. tt))
names-go-other (machines.Link m) turn old next new after g =
    let call = link_call m.name in
    asks-as IsOther (pairs.next_by call (pairs.pair_next m.pair turn old)) next g.next_is
    (asking.pair-asks IsOther call m.pair turn old (looks turn) (λ room first second. tt))
names-go-other (machines.SymLink m) turn old next new after g =
    asking.copy-asks IsOther (sym_link_call m.name m.target) m.visit turn old next (looks turn) (λ room dir. tt) g.next_is
names-go-other (machines.List m) turn old next new after g =
    let call = page_call m.place in
    asks-as IsOther (visiting.next_by call (visiting.visit_next m.visit turn old)) next g.next_is
    (asking.visit-asks IsOther call m.visit turn old (looks turn) (λ room dir. tt))

pub names-take-other : (m : NameMachine) (sent turn : Turn) (came : Result Reply Fault) (old : Shelf) (next : Step) (new : NameMachine) (after : Shelf)
    → NameTakes m sent turn came old next new after → Asks (IsOther) next
names-take-other (machines.Change m) sent turn came old next new after t =
    asking.change-takes-asks (IsOther) m.visit.asked (deed_call m.deed m.name) (deed_told m.deed came) m.visit sent turn came old next t.visit after
    (looks turn) (λ room dir. deed-other m.deed m.name dir) t.step
names-take-other (machines.Stat m) sent turn came old next new after t =
    asking.stat-takes-asks (IsOther) m.asked m sent turn came old next t.machine after (looks turn) (λ room dir. tt) t.step
names-take-other (machines.Access m) sent turn came old next new after t =
    asking.show-takes-asks (IsOther) m.visit.asked (access_call m.bits) (access_attr came) (access_told came) m.visit sent turn came old next t.visit after
    (looks turn) (λ room dir. tt) t.step
names-take-other (machines.ReadLink m) sent turn came old next new after t =
    asking.text-takes-asks (IsOther) m.visit.asked m.visit sent turn came old next t.visit after (looks turn)
    (λ room dir. tt) t.step
names-take-other (machines.Remove m) sent turn came old next new after t =
    asking.remove-takes-asks (IsOther) m.deed m sent turn came old next t.machine after (looks turn)
    (λ room n deed. removal-other n deed) t.step
names-take-other (machines.Rename m) sent turn came old next new after t =
    asking.rename-takes-asks (IsOther) m.pair.asked m sent turn came old next t.pair after (looks turn)
    (λ room first second. tt) t.step
names-take-other (machines.Link m) sent turn came old next new after t =
    asking.link-takes-asks (IsOther) m.pair.asked m sent turn came old next t.pair after (looks turn)
    (λ room first second. tt) t.step
names-take-other (machines.SymLink m) sent turn came old next new after t =
    asking.sym-link-takes-asks (IsOther) m.visit.asked m sent turn came old next t.visit after (looks turn)
    (λ room dir. tt) t.step
names-take-other (machines.List m) sent turn came old next new after t =
    asking.list-takes-asks (IsOther) m.visit.asked m sent turn came old next t.machine after (looks turn)
    (λ room place dir. tt) t.step

-- ---- opens and puts on their way

other-by : (next : Step) (new : NameMachine) → Asks IsOther next → AsksOther IsOther next (all_machines.Name new)
other-by (nexts.Send call) new a = a
other-by nexts.Wait new a = tt
other-by (nexts.Done answer) new a = tt

way-other : (b : Bool) (call : Call) → IsOther call → OnWay IsOther b call
way-other true call a = tt
way-other false call a = a

there-other : (next : Step) (new : PathMachine) → new.arrived ≡ true → AsksOther IsOther next (all_machines.Path new)
there-other (nexts.Send call) new there = subst (λ (b : Bool). OnWay IsOther b call) (sym there) tt
there-other nexts.Wait new there = tt
there-other (nexts.Done answer) new there = tt

other-next : (to next : Step) (new : PathMachine) → next ≡ to → AsksOther IsOther to (all_machines.Path new) → AsksOther IsOther next (all_machines.Path new)
other-next to next new is a = subst (λ (n : Step). AsksOther IsOther n (all_machines.Path new)) (sym is) a

follows-other : (step : WalkStep) (wsize : ℕ) (m : PathMachine) (turn : Turn) (old : Shelf) (next : Step) (new : PathMachine) (after : Shelf) → asking.WalkAsks IsOther step
    → paths.Follows step wsize m turn old next new after → AsksOther IsOther next (all_machines.Path new)
follows-other (walks.Send call) wsize m turn old next new after a f = other-next (nexts.Send call) next new f.0 (way-other new.arrived call a)
follows-other walks.Wait wsize m turn old next new after a f = other-next nexts.Wait next new f.0 tt
follows-other (walks.At dir) wsize m turn old next new after a f = there-other next new (ap (λ (n : PathMachine). n.arrived) f.machine_is)
follows-other (walks.Refused fault) wsize m turn old next new after a f = other-next (nexts.Done _) next new f.0 tt

path-goes-other : (b : Bool) (wsize : ℕ) (m : PathMachine) (turn : Turn) (old : Shelf) (next : Step) (new : PathMachine) (after : Shelf) → m.arrived ≡ b
    → paths.PathResumes b wsize m turn old next new after → AsksOther IsOther next (all_machines.Path new)
path-goes-other true wsize m turn old next new after is r = there-other next new (ap (λ (n : PathMachine). n.arrived) r.machine_is ∙ is)
path-goes-other false wsize m turn old next new after is r =
    follows-other (walking.go_next m.walk turn old) wsize (record m { walk = walking.go_after m.walk turn old }) turn (walking.go_shelf m.walk turn old) next new after
    (asking.walk-asks IsOther m.walk turn old (looks turn)) r

path-starts-other : (taken : Bool) (wsize : ℕ) (m : PathMachine) (turn : Turn) (old : Shelf) (next : Step) (new : PathMachine) (after : Shelf)
    → paths.StartsIf taken wsize m turn old next new after → AsksOther IsOther next (all_machines.Path new)
path-starts-other true wsize m turn old next new after s = other-next (nexts.Done _) next new s.0 tt
path-starts-other false wsize m turn old next new after s = path-goes-other m.arrived wsize (record m { opener = begun_at (turn.moment - 1) m.opener }) turn old next new after refl s

path-takes-other : (b : Bool) (wsize : ℕ) (m : PathMachine) (sent turn : Turn) (came : Result Reply Fault) (old : Shelf) (next : Step) (new : PathMachine) (after : Shelf) → m.arrived ≡ b
    → paths.PathTakes b wsize m sent turn came old next new after → AsksOther IsOther next (all_machines.Path new)
path-takes-other true wsize m sent turn came old next new after is t = there-other next new (ap (λ (n : PathMachine). n.arrived) t.machine_is ∙ is)
path-takes-other false wsize m sent turn came old next new after is t =
    follows-other t.step wsize t.walked turn t.heard next new after
    (asking.walk-takes-asks IsOther (walking.waiting_name m.walk) m.walk sent turn came old t.step t.walked.walk t.heard (looks turn) t.takes) t.follows

-- ---- any operation

any-file : (next : Step) (m : FileMachine) → AsksOther IsOther next (all_machines.File m)
any-file (nexts.Send call) m = tt
any-file nexts.Wait m = tt
any-file (nexts.Done answer) m = tt

machine-as : (next : Step) (new to : Machine) → new ≡ to → AsksOther IsOther next to → AsksOther IsOther next new
machine-as next new to is a = subst (AsksOther IsOther next) (sym is) a

pub starts-other : (m : Machine) (wsize : ℕ) (turn : Turn) (old : Shelf) (next : Step) (new : Machine) (after : Shelf) → Starts wsize m turn old next new after → AsksOther IsOther next new
starts-other (all_machines.File m) wsize turn old next new after s = machine-as next new (all_machines.File s.machine) s.machine_is (any-file next s.machine)
starts-other (all_machines.Path m) wsize turn old next new after s =
    machine-as next new (all_machines.Path s.machine) s.machine_is (path-starts-other (slot_taken m.opener old.opens) wsize m turn old next s.machine after s.step)
starts-other (all_machines.Name m) wsize turn old next new after s =
    machine-as next new (all_machines.Name s.machine) s.machine_is (other-by next s.machine (names-go-other m turn old next s.machine after s.step))

pub resumes-other : (m : Machine) (wsize : ℕ) (turn : Turn) (old : Shelf) (next : Step) (new : Machine) (after : Shelf) → Resumes wsize m turn old next new after → AsksOther IsOther next new
resumes-other (all_machines.File m) wsize turn old next new after s = machine-as next new (all_machines.File s.machine) s.machine_is (any-file next s.machine)
resumes-other (all_machines.Path m) wsize turn old next new after s =
    machine-as next new (all_machines.Path s.machine) s.machine_is (path-goes-other m.arrived wsize m turn old next s.machine after refl s.step)
resumes-other (all_machines.Name m) wsize turn old next new after s =
    machine-as next new (all_machines.Name s.machine) s.machine_is (other-by next s.machine (names-go-other m turn old next s.machine after s.step))

pub takes-other : (m : Machine) (wsize : ℕ) (sent turn : Turn) (came : Result Reply Fault) (old : Shelf) (next : Step) (new : Machine) (after : Shelf)
    → Takes wsize m sent turn came old next new after → AsksOther IsOther next new
takes-other (all_machines.File m) wsize sent turn came old next new after s = machine-as next new (all_machines.File s.machine) s.machine_is (any-file next s.machine)
takes-other (all_machines.Path m) wsize sent turn came old next new after s =
    machine-as next new (all_machines.Path s.machine) s.machine_is (path-takes-other m.arrived wsize m sent turn came old next s.machine after refl s.step)
takes-other (all_machines.Name m) wsize sent turn came old next new after s =
    machine-as next new (all_machines.Name s.machine) s.machine_is (other-by next s.machine (names-take-other m sent turn came old next s.machine after s.step))
