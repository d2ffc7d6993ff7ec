-- What a step of any operation leaves of the number of the next hidden name, and that the names that removes look for have lower numbers.
use Rattle.core_counts.proofs.Prelude.{◌≡◌, ◌-◌, ℕ, Bool, true, false, List, Result, Ok, Err, refl, sym, ap, subst, ◌∙◌, Fault, Reply, Op, Step, Shelf, Turn, file_to_write, file_at, WalkStep, Mounted, FileMachine, Machine, NameMachine, PathMachine, machine_of, file_of, begun_at, slot_taken, Starts, Resumes, Takes}
use Rattle.op_machines.specs.Openers.{placed}
use Rattle.world_model.specs.declared.op.Op.TheVariants as ops
use Rattle.file_ops.specs.TruncateFile as truncates
use Rattle.name_ops.specs.declared.walk.WalkStep.TheVariants as walks
use Rattle.name_ops.specs.Walking as walking
use Rattle.op_machines.specs.declared.file_machine.FileMachine.TheVariants as files
use Rattle.op_machines.specs.declared.machine.Machine.TheVariants as machines
use Rattle.op_machines.specs.FileSteps as steps
use Rattle.op_machines.specs.PathSteps as paths
use Rattle.core_counts.proofs.counts.sought.Closes as on_closes
use Rattle.core_counts.proofs.counts.sought.Files as on_files
use Rattle.core_counts.proofs.counts.sought.Names.{NameBelow, Took, stays, Goes}
use Rattle.core_counts.proofs.counts.sought.Names as on_names

-- ---- operations on files

truncate-begins : (found : Result (List ℕ) Fault) (m : _) (old : Shelf) → (truncates.begun_shelf found m old).counter ≡ old.counter
truncate-begins (Ok file) m old = refl
truncate-begins (Err fault) m old = refl

file-starts : (wsize : ℕ) (m : FileMachine) (turn : Turn) (old : Shelf) (next : Step) (new : FileMachine) (after : Shelf) → steps.Starts wsize m turn old next new after → after.counter ≡ old.counter
file-starts wsize (files.Open m) turn old next new after s = ap (λ (k : Shelf). k.counter) s.shelf_is
file-starts wsize (files.Read m) turn old next new after s = ap (λ (k : Shelf). k.counter) s.others
file-starts wsize (files.Write m) turn old next new after s = on_files.write-starts (file_to_write m.lane m.slot old.opens) wsize m turn old next s.machine after s.step
file-starts wsize (files.Sync m) turn old next new after s = on_files.sync-starts (file_at m.lane m.slot old.opens) wsize m turn old next s.state after s.step
file-starts wsize (files.Close m) turn old next new after s = on_closes.close-starts wsize m turn old next s.state after s.step
file-starts wsize (files.Truncate m) turn old next new after s = ap (λ (k : Shelf). k.counter) s.shelf_is ∙ truncate-begins (truncates.found_file m old) m old
file-starts wsize (files.Put m) turn old next new after s = ap (λ (k : Shelf). k.counter) s.shelf_is

file-resumes : (wsize : ℕ) (m : FileMachine) (turn : Turn) (old : Shelf) (next : Step) (new : FileMachine) (after : Shelf) → steps.Resumes wsize m turn old next new after → after.counter ≡ old.counter
file-resumes wsize (files.Open m) turn old next new after s = ap (λ (k : Shelf). k.counter) s.shelf_is
file-resumes wsize (files.Read m) turn old next new after s = ap (λ (k : Shelf). k.counter) s.others
file-resumes wsize (files.Write m) turn old next new after s = on_files.write-resumes m.state wsize m.lane turn old next s.state after s.step
file-resumes wsize (files.Sync m) turn old next new after s = on_files.sync-resumes m.state wsize m turn old next s.state after s.step
file-resumes wsize (files.Close m) turn old next new after s = on_closes.close-resumes m.state wsize m turn old next s.state after s.step
file-resumes wsize (files.Truncate m) turn old next new after s = ap (λ (k : Shelf). k.counter) s.shelf_is
file-resumes wsize (files.Put m) turn old next new after s = on_files.put-resumes m.state wsize m turn old next s.machine after s.step

file-takes : (wsize : ℕ) (m : FileMachine) (sent turn : Turn) (came : Result Reply Fault) (old : Shelf) (next : Step) (new : FileMachine) (after : Shelf)
    → steps.Takes wsize m sent turn came old next new after → after.counter ≡ old.counter
file-takes wsize (files.Open m) sent turn came old next new after s = ap (λ (k : Shelf). k.counter) s.others
file-takes wsize (files.Read m) sent turn came old next new after s = ap (λ (k : Shelf). k.counter) s.others
file-takes wsize (files.Write m) sent turn came old next new after s = on_files.write-takes m.state wsize m sent turn came old next s.state after s.step
file-takes wsize (files.Sync m) sent turn came old next new after s = on_files.sync-takes m.state wsize m sent turn came old next s.state after s.step
file-takes wsize (files.Close m) sent turn came old next new after s = on_closes.close-takes m.state wsize m sent turn came old next s.state after s.step
file-takes wsize (files.Truncate m) sent turn came old next new after s = on_files.truncate-takes m.state m came sent turn after.attrs after.back old after s.shelf_is
file-takes wsize (files.Put m) sent turn came old next new after s = on_files.put-takes m.state wsize m sent turn came old next s.machine after s.step

-- ---- opens and puts on their paths

follows-path : (step : WalkStep) (wsize : ℕ) (m : PathMachine) (turn : Turn) (old : Shelf) (next : Step) (new : PathMachine) (after : Shelf) → paths.Follows step wsize m turn old next new after
    → after.counter ≡ old.counter
follows-path (walks.Send call) wsize m turn old next new after f = ap (λ (k : Shelf). k.counter) f.2
follows-path walks.Wait wsize m turn old next new after f = ap (λ (k : Shelf). k.counter) f.2
follows-path (walks.At dir) wsize m turn old next new after f = file-resumes wsize (file_of (placed dir m.opener)) turn old next (file_of f.opener) after f.step
follows-path (walks.Refused fault) wsize m turn old next new after f = ap (λ (k : Shelf). k.counter) f.2

path-resumes : (b : Bool) (wsize : ℕ) (m : PathMachine) (turn : Turn) (old : Shelf) (next : Step) (new : PathMachine) (after : Shelf) → paths.PathResumes b wsize m turn old next new after
    → after.counter ≡ old.counter
path-resumes true wsize m turn old next new after r = file-resumes wsize (file_of m.opener) turn old next (file_of r.opener) after r.step
path-resumes false wsize m turn old next new after r =
    follows-path (walking.go_next m.walk turn old) wsize (record m { walk = walking.go_after m.walk turn old }) turn (walking.go_shelf m.walk turn old) next new after r

path-starts : (taken : Bool) (wsize : ℕ) (m : PathMachine) (turn : Turn) (old : Shelf) (next : Step) (new : PathMachine) (after : Shelf) → paths.StartsIf taken wsize m turn old next new after
    → after.counter ≡ old.counter
path-starts true wsize m turn old next new after s = ap (λ (k : Shelf). k.counter) s.2
path-starts false wsize m turn old next new after s = path-resumes m.arrived wsize (record m { opener = begun_at (turn.moment - 1) m.opener }) turn old next new after s

path-takes : (b : Bool) (wsize : ℕ) (m : PathMachine) (sent turn : Turn) (came : Result Reply Fault) (old : Shelf) (next : Step) (new : PathMachine) (after : Shelf)
    → paths.PathTakes b wsize m sent turn came old next new after → after.counter ≡ old.counter
path-takes true wsize m sent turn came old next new after t = file-takes wsize (file_of m.opener) sent turn came old next (file_of t.opener) after t.step
path-takes false wsize m sent turn came old next new after t =
    follows-path t.step wsize t.walked turn t.heard next new after t.follows
    ∙ on_names.walk-counter (walking.waiting_name m.walk) m.walk sent turn came old t.step t.walked.walk t.heard t.takes

-- ---- any operation

abbrev pub SeeksBelow : Machine → ℕ → Type 0
SeeksBelow (machines.File m) counter = Unit {0}
SeeksBelow (machines.Path m) counter = Unit {0}
SeeksBelow (machines.Name m) counter = NameBelow m counter

machine-as : (to new : Machine) → new ≡ to → (n : ℕ) → SeeksBelow to n → SeeksBelow new n
machine-as to new is n k = subst (λ (m : Machine). SeeksBelow m n) (sym is) k

abbrev pub GoesOn : Machine → Shelf → Machine → Shelf → Type 0
GoesOn m old new after = Goes old after (SeeksBelow m) (SeeksBelow new)

name-goes-on : (m : NameMachine) (turn : Turn) (old : Shelf) (next : Step) (to : NameMachine) (new : Machine) (after : Shelf) → new ≡ machines.Name to
    → Goes old after (NameBelow m) (NameBelow to) → GoesOn (machines.Name m) old new after
name-goes-on m turn old next to new after is g = record { counter = g.counter; below = λ n k. machine-as (machines.Name to) new is n (g.below n k) }

pub starts-on : (wsize : ℕ) (m : Machine) (turn : Turn) (old : Shelf) (next : Step) (new : Machine) (after : Shelf) → Starts wsize m turn old next new after → GoesOn m old new after
starts-on wsize (machines.File m) turn old next new after s =
    record { counter = file-starts wsize m turn old next s.machine after s.step; below = λ n k. machine-as (machines.File s.machine) new s.machine_is n tt }
starts-on wsize (machines.Path m) turn old next new after s =
    record { counter = path-starts (slot_taken m.opener old.opens) wsize m turn old next s.machine after s.step; below = λ n k. machine-as (machines.Path s.machine) new s.machine_is n tt }
starts-on wsize (machines.Name m) turn old next new after s = name-goes-on m turn old next s.machine new after s.machine_is (on_names.name-goes m turn old next s.machine after s.step)

pub resumes-on : (wsize : ℕ) (m : Machine) (turn : Turn) (old : Shelf) (next : Step) (new : Machine) (after : Shelf) → Resumes wsize m turn old next new after → GoesOn m old new after
resumes-on wsize (machines.File m) turn old next new after s =
    record { counter = file-resumes wsize m turn old next s.machine after s.step; below = λ n k. machine-as (machines.File s.machine) new s.machine_is n tt }
resumes-on wsize (machines.Path m) turn old next new after s =
    record { counter = path-resumes m.arrived wsize m turn old next s.machine after s.step; below = λ n k. machine-as (machines.Path s.machine) new s.machine_is n tt }
resumes-on wsize (machines.Name m) turn old next new after s = name-goes-on m turn old next s.machine new after s.machine_is (on_names.name-goes m turn old next s.machine after s.step)

abbrev pub TookOn : Result Reply Fault → Machine → Shelf → Machine → Shelf → Type 0
TookOn came m old new after = Took came old after (SeeksBelow m) (SeeksBelow new)

pub takes-on : (wsize : ℕ) (m : Machine) (sent turn : Turn) (came : Result Reply Fault) (old : Shelf) (next : Step) (new : Machine) (after : Shelf) → Takes wsize m sent turn came old next new after
    → TookOn came m old new after
takes-on wsize (machines.File m) sent turn came old next new after t =
    stays (file-takes wsize m sent turn came old next t.machine after t.step) (λ n k. machine-as (machines.File t.machine) new t.machine_is n tt)
takes-on wsize (machines.Path m) sent turn came old next new after t =
    stays (path-takes m.arrived wsize m sent turn came old next t.machine after t.step) (λ n k. machine-as (machines.Path t.machine) new t.machine_is n tt)
takes-on wsize (machines.Name m) sent turn came old next new after t =
    subst (λ (k : Machine). Took came old after (NameBelow m) (SeeksBelow k)) (sym t.machine_is) (on_names.name-takes m sent turn came old next t.machine after t.step)

-- an operation that begins looks for no hidden name
pub begins-below : (m : Mounted) (lane : ℕ) (op : Op) (n : ℕ) → SeeksBelow (machine_of m lane op) n
begins-below m lane (ops.OpenFile slot mode path) n = tt
begins-below m lane (ops.Read slot offset count) n = tt
begins-below m lane (ops.Write slot offset bytes) n = tt
begins-below m lane (ops.Fill slot offset count byte) n = tt
begins-below m lane (ops.Truncate slot size) n = tt
begins-below m lane (ops.Sync slot) n = tt
begins-below m lane (ops.Close slot) n = tt
begins-below m lane (ops.Put path offset bytes) n = tt
begins-below m lane (ops.Stat path) n = tt
begins-below m lane (ops.Access path bits) n = tt
begins-below m lane (ops.MakeDir path) n = tt
begins-below m lane (ops.RemoveDir path) n = tt
begins-below m lane (ops.Remove path) n = tt
begins-below m lane (ops.Rename from to) n = tt
begins-below m lane (ops.Link from to) n = tt
begins-below m lane (ops.SymLink path target) n = tt
begins-below m lane (ops.ReadLink path) n = tt
begins-below m lane (ops.List path) n = tt
