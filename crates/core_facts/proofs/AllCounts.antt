-- How many calls of any operation wait after each of its steps.
use Rattle.core_facts.proofs.Prelude.{◌≡◌, ◌+◌, ◌-◌, ℕ, Bool, true, false, List, Result, refl, sym, ap, subst, ◌∙◌, Fault, Reply, Op, Step, Shelf, Turn, WalkStep, Opening, Putting, Writing, file_to_write, file_at, found_file, Mounted, FileMachine, Machine, Opener, PathMachine, machine_of, file_of, slot_taken, begun_at, placed, Starts, Resumes, Takes, of_walk, of_opening, of_writing, of_syncing, of_closing, of_truncating, of_putting, in_flight, IsUnbegun, IsCounted, Counts}
use Rattle.core_facts.specs.InFlight.{of_reading, of_file, path_by, FileUnbegun, FileCounted, Leaves, CountsCalls}
use Rattle.std.specs.FinMap as finite
use Rattle.world_model.specs.declared.answer.Answer.TheVariants as answers
use Rattle.world_model.specs.declared.answer.Fault.TheVariants as faults
use Rattle.world_model.specs.declared.op.Op.TheVariants as ops
use Rattle.name_ops.specs.declared.walk.WalkStep.TheVariants as walks
use Rattle.name_ops.specs.Walking as walking
use Rattle.file_ops.specs.declared.put_file.Putting.TheVariants as putting
use Rattle.file_ops.specs.OpenFile.{is_taken}
use Rattle.file_ops.specs.Opening.{opening_again, led_on}
use Rattle.op_machines.specs.declared.file_machine.FileMachine.TheVariants as files
use Rattle.op_machines.specs.declared.machine.Machine.TheVariants as machines
use Rattle.op_machines.specs.declared.opener.Opener.TheVariants as openers
use Rattle.op_machines.specs.FileSteps as steps
use Rattle.op_machines.specs.PathSteps as paths
use Rattle.core_facts.proofs.NameCounts.{sends-leaves, waits-leaves, done-leaves, Plain, from-none, leaves-after, WalkCounts, walk-counts, walk-takes, took-counts}
use Rattle.core_facts.proofs.PairCounts.{name-goes, name-takes}
use Rattle.core_facts.proofs.FileCounts.{open-starts, open-follows, opening-goes, opening-leaves, opening-took, read-starts, read-resumes, read-takes, write-starts, write-resumes, write-takes, sync-starts, sync-resumes, sync-takes, close-starts, close-resumes, close-takes, truncate-starts, truncate-resumes, truncate-takes}
use Rattle.core_facts.proofs.PutCounts.{of_put, put-starts, put-resumes, put-takes}

-- ---- operations on files

abbrev pub FileLeaves : Step → ℕ → FileMachine → Type 0
FileLeaves next before new = Leaves next before (of_file new) (FileCounted new)

file-as : (to : FileMachine) (next : Step) (before : ℕ) (new : FileMachine) → new ≡ to → FileLeaves next before to → FileLeaves next before new
file-as to next before new is l = subst (λ (m : FileMachine). FileLeaves next before m) (sym is) l

file-starts : (m : FileMachine) (wsize : ℕ) (turn : Turn) (old : Shelf) (next : Step) (new : FileMachine) (after : Shelf) → FileUnbegun m
    → steps.Starts wsize m turn old next new after → FileLeaves next 0 new
file-starts (files.Open m) wsize turn old next new after none s = file-as (files.Open _) next 0 new s.machine_is (open-starts (is_taken m old.opens) m turn next none s.next_is)
file-starts (files.Read m) wsize turn old next new after none s =
    file-as (files.Read s.machine) next 0 new s.machine_is (read-starts (finite.get old.opens (m.lane, m.slot)) turn m old.pages old.back next s.machine after.pages s.step)
file-starts (files.Write m) wsize turn old next new after none s =
    file-as (files.Write s.machine) next 0 new s.machine_is (write-starts (file_to_write m.lane m.slot old.opens) wsize m turn old next s.machine after s.step)
file-starts (files.Sync m) wsize turn old next new after none s =
    file-as (files.Sync (record m { state = s.state })) next 0 new s.machine_is (sync-starts (file_at m.lane m.slot old.opens) wsize m turn old next s.state after s.step)
file-starts (files.Close m) wsize turn old next new after none s =
    file-as (files.Close (record m { state = s.state })) next 0 new s.machine_is (close-starts (file_at m.lane m.slot old.opens) wsize m turn old next s.state after s.step)
file-starts (files.Truncate m) wsize turn old next new after none s =
    file-as (files.Truncate _) next 0 new s.machine_is (truncate-starts (found_file m old) m turn old next _ s.next_is refl)
file-starts (files.Put m) wsize turn old next new after none s = file-as (files.Put _) next 0 new s.machine_is (put-starts m turn next none s.next_is)

file-resumes : (m : FileMachine) (wsize : ℕ) (turn : Turn) (old : Shelf) (next : Step) (new : FileMachine) (after : Shelf) → FileCounted m
    → steps.Resumes wsize m turn old next new after → FileLeaves next (of_file m) new
file-resumes (files.Open m) wsize turn old next new after counted s =
    file-as (files.Open _) next (of_opening m.opening) new s.machine_is (opening-leaves _ next (of_opening m.opening) _ s.next_is (opening-goes m.opening turn))
file-resumes (files.Read m) wsize turn old next new after counted s =
    file-as (files.Read s.machine) next (of_reading m.reading) new s.machine_is (read-resumes m.reading turn.room m old.pages old.back next s.machine after.pages refl s.step)
file-resumes (files.Write m) wsize turn old next new after counted s =
    file-as (files.Write (record m { state = s.state })) next (of_writing m.state) new s.machine_is (write-resumes m.state wsize m.lane turn old next s.state after s.step)
file-resumes (files.Sync m) wsize turn old next new after counted s =
    file-as (files.Sync (record m { state = s.state })) next (of_syncing m.state) new s.machine_is (sync-resumes m.state wsize m turn old next s.state after s.step)
file-resumes (files.Close m) wsize turn old next new after counted s =
    file-as (files.Close (record m { state = s.state })) next (of_closing m.state) new s.machine_is (close-resumes m.state wsize m turn old next s.state after counted s.step)
file-resumes (files.Truncate m) wsize turn old next new after counted s =
    file-as (files.Truncate _) next (of_truncating m.state) new s.machine_is (truncate-resumes m.state m turn old next _ s.next_is refl)
file-resumes (files.Put m) wsize turn old next new after counted s =
    file-as (files.Put s.machine) next (of_put m) new s.machine_is (put-resumes m.state wsize m turn old next s.machine after refl s.step)

file-takes : (m : FileMachine) (wsize : ℕ) (sent turn : Turn) (came : Result Reply Fault) (old : Shelf) (next : Step) (new : FileMachine) (after : Shelf) (others : ℕ)
    → of_file m ≡ others + 1 → steps.Takes wsize m sent turn came old next new after → FileLeaves next others new
file-takes (files.Open m) wsize sent turn came old next new after others one s =
    let again = opening_again m.opening sent turn came old.repeats in
    file-as (files.Open _) next others new s.machine_is
    (open-follows m s.steps.step next old.opens after.opens others _ s.steps.follows
    (opening-took again m.opening sent turn (led_on m.opening turn.now came after.attrs old.pages) s.steps.step old.pages after.pages others one s.steps.led))
file-takes (files.Read m) wsize sent turn came old next new after others one s =
    file-as (files.Read s.machine) next others new s.machine_is (read-takes m.reading sent turn came old.repeats m old.pages old.back next s.machine after.pages others one s.step)
file-takes (files.Write m) wsize sent turn came old next new after others one s =
    file-as (files.Write (record m { state = s.state })) next others new s.machine_is (write-takes m.state wsize m sent turn came old next s.state after others one s.step)
file-takes (files.Sync m) wsize sent turn came old next new after others one s =
    file-as (files.Sync (record m { state = s.state })) next others new s.machine_is (sync-takes m.state wsize m sent turn came old next s.state after others one s.step)
file-takes (files.Close m) wsize sent turn came old next new after others one s =
    file-as (files.Close (record m { state = s.state })) next others new s.machine_is (close-takes m.state wsize m sent turn came old next s.state after others one s.step)
file-takes (files.Truncate m) wsize sent turn came old next new after others one s =
    file-as (files.Truncate _) next others new s.machine_is (truncate-takes m.state m came sent turn old.repeats next _ others one s.next_is refl)
file-takes (files.Put m) wsize sent turn came old next new after others one s =
    file-as (files.Put s.machine) next others new s.machine_is (put-takes m.state wsize m sent turn came old next s.machine after others refl one s.step)

-- ---- opens and puts on their way

abbrev pub of_path : PathMachine → ℕ
of_path m = path_by m.arrived (of_walk m.walk) (of_file (file_of m.opener))

pub path-file : (m : PathMachine) → m.arrived ≡ true → of_path m ≡ of_file (file_of m.opener)
path-file m is = ap (λ (b : Bool). path_by b (of_walk m.walk) (of_file (file_of m.opener))) is

pub path-walk : (m : PathMachine) → m.arrived ≡ false → of_path m ≡ of_walk m.walk
path-walk m is = ap (λ (b : Bool). path_by b (of_walk m.walk) (of_file (file_of m.opener))) is

-- no close is on its way
opener-counted : (o : Opener) → FileCounted (file_of o)
opener-counted (openers.Open m) = tt
opener-counted (openers.Put m) = tt

as-plain : (next : Step) (before : ℕ) (o : Opener) → FileLeaves next before (file_of o) → Plain next before (of_file (file_of o))
as-plain next before (openers.Open m) l = l
as-plain next before (openers.Put m) l = l

-- it starts from its directory with no call
pub placed-none : (dir : List ℕ) (o : Opener) → of_file (file_of (placed dir o)) ≡ 0
placed-none dir (openers.Open m) = refl
placed-none dir (openers.Put m) = refl

putting-same : (state : Putting) (o : Opening) (write : Writing) (moment : ℕ) → of_putting state (record o { moment = moment }) write ≡ of_putting state o write
putting-same putting.Idle o write moment = refl
putting-same putting.Opens o write moment = refl
putting-same (putting.Adds file) o write moment = refl
putting-same (putting.Saves saving) o write moment = refl

begun-same : (moment : ℕ) (o : Opener) → of_file (file_of (begun_at moment o)) ≡ of_file (file_of o)
begun-same moment (openers.Open m) = refl
begun-same moment (openers.Put m) = putting-same m.state m.opening m.write.state moment

path-as : (m : PathMachine) (opener : Opener) (new : PathMachine) → m.arrived ≡ true → new ≡ record m { opener = opener } → of_path new ≡ of_file (file_of opener)
path-as m opener new there is = ap of_path is ∙ path-file (record m { opener = opener }) there

then-resumes : (wsize : ℕ) (m : PathMachine) (turn : Turn) (old : Shelf) (next : Step) (new : PathMachine) (after : Shelf) → m.arrived ≡ true
    → paths.ThenResumes wsize m turn old next new after → Plain next (of_file (file_of m.opener)) (of_path new)
then-resumes wsize m turn old next new after there t =
    leaves-after next (of_file (file_of m.opener)) (of_path new) (of_file (file_of t.opener)) (Unit {0}) (path-as m t.opener new there t.machine_is)
    (as-plain next (of_file (file_of m.opener)) t.opener (file-resumes (file_of m.opener) wsize turn old next (file_of t.opener) after (opener-counted m.opener) t.step))

follows-path : (step : WalkStep) (wsize : ℕ) (m : PathMachine) (turn : Turn) (old : Shelf) (next : Step) (new : PathMachine) (after : Shelf) (before : ℕ) → m.arrived ≡ false
    → WalkCounts step before (of_walk m.walk) → paths.Follows step wsize m turn old next new after → Plain next before (of_path new)
follows-path (walks.Send call) wsize m turn old next new after before on_way c f = sends-leaves call next before (of_path new) (Unit {0}) f.0 (ap of_path f.1 ∙ path-walk m on_way ∙ c) tt
follows-path walks.Wait wsize m turn old next new after before on_way c f = waits-leaves next before (of_path new) (Unit {0}) f.0 (ap of_path f.1 ∙ path-walk m on_way ∙ c) tt
follows-path (walks.At dir) wsize m turn old next new after before on_way c f =
    from-none next before (of_path new) (Unit {0}) c.0
    (subst (λ (n : ℕ). Plain next n (of_path new)) (placed-none dir m.opener)
    (then-resumes wsize (record m { opener = placed dir m.opener; arrived = true }) turn old next new after refl f))
follows-path (walks.Refused fault) wsize m turn old next new after before on_way c f = done-leaves (answers.Refused fault) next before (of_path new) (Unit {0}) f.0 c

path-resumes : (b : Bool) (wsize : ℕ) (m : PathMachine) (turn : Turn) (old : Shelf) (next : Step) (new : PathMachine) (after : Shelf) → m.arrived ≡ b
    → paths.PathResumes b wsize m turn old next new after → Plain next (of_path m) (of_path new)
path-resumes true wsize m turn old next new after is r = subst (λ (n : ℕ). Plain next n (of_path new)) (sym (path-file m is)) (then-resumes wsize m turn old next new after is r)
path-resumes false wsize m turn old next new after is r =
    subst (λ (n : ℕ). Plain next n (of_path new)) (sym (path-walk m is))
    (follows-path (walking.go_next m.walk turn old) wsize (record m { walk = walking.go_after m.walk turn old }) turn (walking.go_shelf m.walk turn old) next new after (of_walk m.walk) is
    (walk-counts m.walk turn old) r)

path-starts : (taken : Bool) (wsize : ℕ) (m : PathMachine) (turn : Turn) (old : Shelf) (next : Step) (new : PathMachine) (after : Shelf) → of_path m ≡ 0
    → paths.StartsIf taken wsize m turn old next new after → Plain next 0 (of_path new)
path-starts true wsize m turn old next new after none s = done-leaves (answers.Refused faults.Slot) next 0 (of_path new) (Unit {0}) s.0 refl
path-starts false wsize m turn old next new after none s =
    let begun : PathMachine = record m { opener = begun_at (turn.moment - 1) m.opener } in
    let same : of_path begun ≡ of_path m = ap (λ (n : ℕ). path_by m.arrived (of_walk m.walk) n) (begun-same (turn.moment - 1) m.opener) in
    subst (λ (n : ℕ). Plain next n (of_path new)) (same ∙ none) (path-resumes m.arrived wsize begun turn old next new after refl s)

path-takes : (b : Bool) (wsize : ℕ) (m : PathMachine) (sent turn : Turn) (came : Result Reply Fault) (old : Shelf) (next : Step) (new : PathMachine) (after : Shelf) (others : ℕ)
    → m.arrived ≡ b → of_path m ≡ others + 1 → paths.PathTakes b wsize m sent turn came old next new after → Plain next others (of_path new)
path-takes true wsize m sent turn came old next new after others is one t =
    leaves-after next others (of_path new) (of_file (file_of t.opener)) (Unit {0}) (path-as m t.opener new is t.machine_is)
    (as-plain next others t.opener
    (file-takes (file_of m.opener) wsize sent turn came old next (file_of t.opener) after others (sym (path-file m is) ∙ one) t.step))
path-takes false wsize m sent turn came old next new after others is one t =
    let took = walk-takes m.walk sent turn came old t.step t.walked.walk t.heard others (sym (path-walk m is) ∙ one) t.takes in
    follows-path t.step wsize t.walked turn t.heard next new after others (ap (λ (w : PathMachine). w.arrived) t.walked_is ∙ is) (took-counts others t.step t.walked.walk took) t.follows

-- ---- any operation

all-as : (to : Machine) (next : Step) (before : ℕ) (new : Machine) → new ≡ to → Counts next before to → Counts next before new
all-as to next before new is l = subst (λ (m : Machine). Counts next before m) (sym is) l

all-starts : (m : Machine) (wsize : ℕ) (turn : Turn) (old : Shelf) (next : Step) (new : Machine) (after : Shelf) → IsUnbegun m
    → Starts wsize m turn old next new after → Counts next 0 new
all-starts (machines.File m) wsize turn old next new after none s = all-as (machines.File s.machine) next 0 new s.machine_is (file-starts m wsize turn old next s.machine after none s.step)
all-starts (machines.Path m) wsize turn old next new after none s =
    all-as (machines.Path s.machine) next 0 new s.machine_is (path-starts (slot_taken m.opener old.opens) wsize m turn old next s.machine after none s.step)
all-starts (machines.Name m) wsize turn old next new after none s =
    all-as (machines.Name s.machine) next 0 new s.machine_is (subst (λ (n : ℕ). Plain next n (in_flight (machines.Name s.machine))) none (name-goes m turn old next s.machine after s.step))

all-resumes : (m : Machine) (wsize : ℕ) (turn : Turn) (old : Shelf) (next : Step) (new : Machine) (after : Shelf) → IsCounted m
    → Resumes wsize m turn old next new after → Counts next (in_flight m) new
all-resumes (machines.File m) wsize turn old next new after counted s =
    all-as (machines.File s.machine) next (of_file m) new s.machine_is (file-resumes m wsize turn old next s.machine after counted s.step)
all-resumes (machines.Path m) wsize turn old next new after counted s =
    all-as (machines.Path s.machine) next (of_path m) new s.machine_is (path-resumes m.arrived wsize m turn old next s.machine after refl s.step)
all-resumes (machines.Name m) wsize turn old next new after counted s =
    all-as (machines.Name s.machine) next (in_flight (machines.Name m)) new s.machine_is (name-goes m turn old next s.machine after s.step)

all-takes : (m : Machine) (wsize : ℕ) (sent turn : Turn) (came : Result Reply Fault) (old : Shelf) (next : Step) (new : Machine) (after : Shelf) (others : ℕ)
    → in_flight m ≡ others + 1 → Takes wsize m sent turn came old next new after → Counts next others new
all-takes (machines.File m) wsize sent turn came old next new after others one s =
    all-as (machines.File s.machine) next others new s.machine_is (file-takes m wsize sent turn came old next s.machine after others one s.step)
all-takes (machines.Path m) wsize sent turn came old next new after others one s =
    all-as (machines.Path s.machine) next others new s.machine_is (path-takes m.arrived wsize m sent turn came old next s.machine after others refl one s.step)
all-takes (machines.Name m) wsize sent turn came old next new after others one s =
    all-as (machines.Name s.machine) next others new s.machine_is (name-takes m sent turn came old next s.machine after others one s.step)

pub counts-calls : CountsCalls
counts-calls = record {
  start = λ wsize machine turn old next new after s none. all-starts machine wsize turn old next new after none s;
  resume = λ wsize machine turn old next new after s counted. all-resumes machine wsize turn old next new after counted s;
  take = λ wsize machine sent turn came old next new after others s counted one. all-takes machine wsize sent turn came old next new after others one s;
}

-- no operation of a script has made a call before it begins
pub begins-unbegun : (m : Mounted) (lane : ℕ) (op : Op) → IsUnbegun (machine_of m lane op)
begins-unbegun m lane (ops.OpenFile slot mode path) = refl
begins-unbegun m lane (ops.Read slot offset count) = refl
begins-unbegun m lane (ops.Write slot offset bytes) = refl
begins-unbegun m lane (ops.Fill slot offset count byte) = refl
begins-unbegun m lane (ops.Put path offset bytes) = refl
begins-unbegun m lane (ops.Sync slot) = refl
begins-unbegun m lane (ops.Close slot) = refl
begins-unbegun m lane (ops.Truncate slot size) = refl
begins-unbegun m lane (ops.Stat path) = refl
begins-unbegun m lane (ops.Access path bits) = refl
begins-unbegun m lane (ops.MakeDir path) = refl
begins-unbegun m lane (ops.RemoveDir path) = refl
begins-unbegun m lane (ops.Remove path) = refl
begins-unbegun m lane (ops.Rename from to) = refl
begins-unbegun m lane (ops.Link from to) = refl
begins-unbegun m lane (ops.SymLink path target) = refl
begins-unbegun m lane (ops.ReadLink path) = refl
begins-unbegun m lane (ops.List path) = refl
