-- What holds of every step of any operation, since it holds of those on files, of opens and puts with their walks, and of those on names.
use Rattle.std.proofs.Common.{◌≡◌, ◌≤◌, ◌+◌, ℕ, true, false, Result, Err, sym, ap, subst, ◌∙◌}
use Rattle.world_model.specs.declared.answer.Fault.{Fault}
use Rattle.world_model.specs.declared.message.Call.{Call}
use Rattle.world_model.specs.declared.message.Reply.{Reply}
use Rattle.write_back.specs.Files.{Pending}
use Rattle.client_shelf.specs.declared.shelf.Shelf.{Shelf}
use Rattle.client_shelf.specs.declared.turn.Turn.{Turn}
use Rattle.client_shelf.specs.declared.step.Step.{Step}
use Rattle.client_shelf.specs.declared.step.Step.TheVariants.{Send, Wait}
use Rattle.client_shelf.specs.Spelling.{IsSpellable, AreSpellable}
use Rattle.file_ops.specs.Ready.{IsReady}
use Rattle.file_ops.proofs.Numbers.{none-more}
use Rattle.file_ops.proofs.Steps.{next-ready}
use Rattle.name_ops.proofs.Asking.{asks-call}
use Rattle.name_ops.proofs.Keeps.{IsKept}
use Rattle.op_machines.specs.declared.file_machine.FileMachine.{FileMachine}
use Rattle.op_machines.specs.declared.machine.Machine.{Machine}
use Rattle.op_machines.specs.declared.machine.Machine.TheVariants.{File, Path, Name}
use Rattle.op_machines.specs.declared.name_machine.NameMachine.{NameMachine}
use Rattle.op_machines.specs.declared.path_machine.PathMachine.{PathMachine}
use Rattle.op_machines.specs.Fits.{Fits}
use Rattle.op_machines.specs.Laws.{AsksNothing, AsksSpellable, LeavesNothing}
use Rattle.op_machines.specs.NameSteps.{NameTakes}
use Rattle.op_machines.specs.Steps.{Starts, Resumes, Takes}
use Rattle.op_machines.proofs.Still as still
use Rattle.op_machines.proofs.Fit as fit
use Rattle.op_machines.proofs.Leaves as ready
use Rattle.op_machines.proofs.Unsent as unsent
use Rattle.op_machines.proofs.Numbers as numbers
use Rattle.op_machines.proofs.Refusals as refusals
use Rattle.op_machines.proofs.Roomless as quiet
use Rattle.op_machines.proofs.Spelling as spell
use Rattle.op_machines.proofs.Unmade as unmade
use Rattle.op_machines.proofs.FileLaws as file_laws
use Rattle.op_machines.proofs.PathLaws as paths
use Rattle.op_machines.proofs.NameLaws as names

as-it-is : (new to : Machine) → new ≡ to → Fits to → Fits new
as-it-is new to is fits = subst Fits (sym is) fits

-- ---- one that waits stays as it is

pub all-still : (wsize : ℕ) (machine : Machine) (turn : Turn) (old : Shelf) (next : Step) (new : Machine) (after : Shelf)
    → turn.room ≡ true → Resumes wsize machine turn old next new after → next ≡ Wait → (new ≡ machine) × (after ≡ old)
all-still wsize (File m) turn old next new after room r waits =
    let s = still.waits-still wsize m turn old next r.machine after room r.step waits in
    (r.machine_is ∙ ap (λ (x : FileMachine). File x) s.0, s.1)
all-still wsize (Path m) turn old next new after room r waits =
    let s = paths.path-still wsize m turn old next r.machine after room r.step waits in
    (r.machine_is ∙ ap (λ (x : PathMachine). Path x) s.0, s.1)
all-still wsize (Name m) turn old next new after room r waits =
    let s = names.name-still m turn old next r.machine after room r.step waits in
    (r.machine_is ∙ ap (λ (x : NameMachine). Name x) s.0, s.1)

-- ---- what it has to write goes on to fit

pub starts-fit : (wsize : ℕ) (machine : Machine) (turn : Turn) (old : Shelf) (next : Step) (new : Machine) (after : Shelf) → Starts wsize machine turn old next new after → Fits machine → Fits new
starts-fit wsize (File m) turn old next new after s fits = as-it-is new (File s.machine) s.machine_is (fit.starts-fit wsize m turn old next s.machine after s.step fits)
starts-fit wsize (Path m) turn old next new after s fits = as-it-is new (Path s.machine) s.machine_is (paths.path-starts-fits wsize m turn old next s.machine after s.step fits)
starts-fit wsize (Name m) turn old next new after s fits = as-it-is new (Name s.machine) s.machine_is (names.name-goes-fits m turn old next s.machine after s.step fits)

pub resumes-fit : (wsize : ℕ) (machine : Machine) (turn : Turn) (old : Shelf) (next : Step) (new : Machine) (after : Shelf) → Resumes wsize machine turn old next new after → Fits machine → Fits new
resumes-fit wsize (File m) turn old next new after s fits = as-it-is new (File s.machine) s.machine_is (fit.resumes-fit wsize m turn old next s.machine after s.step fits)
resumes-fit wsize (Path m) turn old next new after s fits = as-it-is new (Path s.machine) s.machine_is (paths.path-resumes-fits m.arrived wsize m turn old next s.machine after s.step fits)
resumes-fit wsize (Name m) turn old next new after s fits = as-it-is new (Name s.machine) s.machine_is (names.name-goes-fits m turn old next s.machine after s.step fits)

pub takes-fit : (wsize : ℕ) (machine : Machine) (sent turn : Turn) (came : Result Reply Fault) (old : Shelf) (next : Step) (new : Machine) (after : Shelf)
    → Takes wsize machine sent turn came old next new after → Fits machine → Fits new
takes-fit wsize (File m) sent turn came old next new after t fits =
    as-it-is new (File t.machine) t.machine_is (fit.takes-fit wsize m sent turn came old next t.machine after t.step fits)
takes-fit wsize (Path m) sent turn came old next new after t fits =
    as-it-is new (Path t.machine) t.machine_is (paths.path-takes-fits m.arrived wsize m sent turn came old next t.machine after t.step fits)
takes-fit wsize (Name m) sent turn came old next new after t fits =
    as-it-is new (Name t.machine) t.machine_is (names.name-takes-fits m sent turn came old next t.machine after t.step fits)

-- ---- each step leaves what the next one needs

kept-ready : (xid : ℕ) (old new : Shelf) → IsKept old new → IsReady xid old.seq old.back → IsReady (xid + 1) new.seq new.back
kept-ready xid old new k r = next-ready xid new.seq new.back (names.ready-kept xid old new k r)

pub starts-ready : (wsize : ℕ) (machine : Machine) (turn : Turn) (old : Shelf) (next : Step) (new : Machine) (after : Shelf)
    → Starts wsize machine turn old next new after → IsReady turn.xid old.seq old.back → IsReady (turn.xid + 1) after.seq after.back
starts-ready wsize (File m) turn old next new after s r = ready.starts-ready wsize m turn old next s.machine after s.step r
starts-ready wsize (Path m) turn old next new after s r = paths.path-starts-ready wsize m turn old next s.machine after s.step r
starts-ready wsize (Name m) turn old next new after s r = kept-ready turn.xid old after (names.name-goes-kept m turn old next s.machine after s.step) r

pub resumes-ready : (wsize : ℕ) (machine : Machine) (turn : Turn) (old : Shelf) (next : Step) (new : Machine) (after : Shelf)
    → Resumes wsize machine turn old next new after → IsReady turn.xid old.seq old.back → IsReady (turn.xid + 1) after.seq after.back
resumes-ready wsize (File m) turn old next new after s r = ready.resumes-ready wsize m turn old next s.machine after s.step r
resumes-ready wsize (Path m) turn old next new after s r = paths.path-resumes-ready m.arrived wsize m turn old next s.machine after s.step r
resumes-ready wsize (Name m) turn old next new after s r = kept-ready turn.xid old after (names.name-goes-kept m turn old next s.machine after s.step) r

pub takes-ready : (wsize : ℕ) (machine : Machine) (sent turn : Turn) (came : Result Reply Fault) (old : Shelf) (next : Step) (new : Machine) (after : Shelf)
    → Takes wsize machine sent turn came old next new after → IsReady turn.xid old.seq old.back → IsReady (turn.xid + 1) after.seq after.back
takes-ready wsize (File m) sent turn came old next new after t r = ready.takes-ready wsize m sent turn came old next t.machine after t.step r
takes-ready wsize (Path m) sent turn came old next new after t r = paths.path-takes-ready m.arrived wsize m sent turn came old next t.machine after t.step r
takes-ready wsize (Name m) sent turn came old next new after t r = kept-ready turn.xid old after (names.name-takes-kept m sent turn came old next t.machine after t.step) r

-- ---- a step that asks for no call puts nothing in flight

pub starts-unsent : (xid wsize : ℕ) (machine : Machine) (turn : Turn) (old : Shelf) (next : Step) (new : Machine) (after : Shelf)
    → Starts wsize machine turn old next new after → AsksNothing next → IsReady xid old.seq old.back → IsReady xid after.seq after.back
starts-unsent xid wsize (File m) turn old next new after s none r = unsent.starts-unsent xid wsize m turn old next s.machine after s.step none r
starts-unsent xid wsize (Path m) turn old next new after s none r = paths.path-starts-unsent xid wsize m turn old next s.machine after s.step none r
starts-unsent xid wsize (Name m) turn old next new after s none r = names.ready-kept xid old after (names.name-goes-kept m turn old next s.machine after s.step) r

pub resumes-unsent : (xid wsize : ℕ) (machine : Machine) (turn : Turn) (old : Shelf) (next : Step) (new : Machine) (after : Shelf)
    → Resumes wsize machine turn old next new after → AsksNothing next → IsReady xid old.seq old.back → IsReady xid after.seq after.back
resumes-unsent xid wsize (File m) turn old next new after s none r = unsent.resumes-unsent xid wsize m turn old next s.machine after s.step none r
resumes-unsent xid wsize (Path m) turn old next new after s none r = paths.path-resumes-unsent m.arrived xid wsize m turn old next s.machine after s.step none r
resumes-unsent xid wsize (Name m) turn old next new after s none r = names.ready-kept xid old after (names.name-goes-kept m turn old next s.machine after s.step) r

pub takes-unsent : (xid wsize : ℕ) (machine : Machine) (sent turn : Turn) (came : Result Reply Fault) (old : Shelf) (next : Step) (new : Machine) (after : Shelf)
    → Takes wsize machine sent turn came old next new after → AsksNothing next → IsReady xid old.seq old.back → IsReady xid after.seq after.back
takes-unsent xid wsize (File m) sent turn came old next new after t none r = unsent.takes-unsent xid wsize m sent turn came old next t.machine after t.step none r
takes-unsent xid wsize (Path m) sent turn came old next new after t none r = paths.path-takes-unsent m.arrived xid wsize m sent turn came old next t.machine after t.step none r
takes-unsent xid wsize (Name m) sent turn came old next new after t none r = names.ready-kept xid old after (names.name-takes-kept m sent turn came old next t.machine after t.step) r

-- ---- numbers of writes

pub starts-number : (wsize : ℕ) (machine : Machine) (turn : Turn) (old : Shelf) (next : Step) (new : Machine) (after : Shelf) → Starts wsize machine turn old next new after → after.seq ≤ old.seq + 1
starts-number wsize (File m) turn old next new after s = numbers.starts-number wsize m turn old next s.machine after s.step
starts-number wsize (Path m) turn old next new after s = paths.path-starts-number wsize m turn old next s.machine after s.step
starts-number wsize (Name m) turn old next new after s = let k = names.name-goes-kept m turn old next s.machine after s.step in none-more after.seq old.seq k.seq

pub resumes-number : (wsize : ℕ) (machine : Machine) (turn : Turn) (old : Shelf) (next : Step) (new : Machine) (after : Shelf) → Resumes wsize machine turn old next new after → after.seq ≡ old.seq
resumes-number wsize (File m) turn old next new after s = numbers.resumes-number wsize m turn old next s.machine after s.step
resumes-number wsize (Path m) turn old next new after s = paths.path-resumes-number m.arrived wsize m turn old next s.machine after s.step
resumes-number wsize (Name m) turn old next new after s = let k = names.name-goes-kept m turn old next s.machine after s.step in k.seq

pub takes-number : (wsize : ℕ) (machine : Machine) (sent turn : Turn) (came : Result Reply Fault) (old : Shelf) (next : Step) (new : Machine) (after : Shelf)
    → Takes wsize machine sent turn came old next new after → after.seq ≤ old.seq + 1
takes-number wsize (File m) sent turn came old next new after t = numbers.takes-number wsize m sent turn came old next t.machine after t.step
takes-number wsize (Path m) sent turn came old next new after t = paths.path-takes-number m.arrived wsize m sent turn came old next t.machine after t.step
takes-number wsize (Name m) sent turn came old next new after t = let k = names.name-takes-kept m sent turn came old next t.machine after t.step in none-more after.seq old.seq k.seq

pub refusals-number : (wsize : ℕ) (machine : Machine) (sent turn : Turn) (fault : Fault) (old : Shelf) (next : Step) (new : Machine) (after : Shelf)
    → Takes wsize machine sent turn (Err fault) old next new after → after.seq ≡ old.seq
refusals-number wsize (File m) sent turn fault old next new after t = refusals.refusals-number wsize m sent turn fault old next t.machine after t.step
refusals-number wsize (Path m) sent turn fault old next new after t = paths.path-refusals-number m.arrived wsize m sent turn fault old next t.machine after t.step
refusals-number wsize (Name m) sent turn fault old next new after t = let k = names.name-takes-kept m sent turn (Err fault) old next t.machine after t.step in k.seq

-- ---- a step that is told of no room asks for no call

has-room : (m : NameMachine) (turn : Turn) (call : Call) → turn.room ≡ false → names.IsFine m turn call → ⊥
has-room m turn call none fine = let no-way : true ≡ false = sym fine.0 ∙ none in absurd cc

pub starts-quiet : (wsize : ℕ) (machine : Machine) (turn : Turn) (old : Shelf) (next : Step) (new : Machine) (after : Shelf) → turn.room ≡ false
    → Starts wsize machine turn old next new after → AsksNothing next
starts-quiet wsize (File m) turn old next new after none s = quiet.starts-quiet wsize m turn old next s.machine after none s.step
starts-quiet wsize (Path m) turn old next new after none s = paths.path-starts-quiet wsize m turn old next s.machine after none s.step
starts-quiet wsize (Name m) turn old next new after none s =
    λ call e. has-room m turn call none (asks-call (names.IsFine m turn) next call (names.name-goes-asks m turn old next s.machine after s.step) e)

pub resumes-quiet : (wsize : ℕ) (machine : Machine) (turn : Turn) (old : Shelf) (next : Step) (new : Machine) (after : Shelf) → turn.room ≡ false
    → Resumes wsize machine turn old next new after → AsksNothing next
resumes-quiet wsize (File m) turn old next new after none s = quiet.resumes-quiet wsize m turn old next s.machine after none s.step
resumes-quiet wsize (Path m) turn old next new after none s = paths.path-resumes-quiet m.arrived wsize m turn old next s.machine after none s.step
resumes-quiet wsize (Name m) turn old next new after none s =
    λ call e. has-room m turn call none (asks-call (names.IsFine m turn) next call (names.name-goes-asks m turn old next s.machine after s.step) e)

pub takes-quiet : (wsize : ℕ) (machine : Machine) (sent turn : Turn) (came : Result Reply Fault) (old : Shelf) (next : Step) (new : Machine) (after : Shelf) → turn.room ≡ false
    → Takes wsize machine sent turn came old next new after → AsksNothing next
takes-quiet wsize (File m) sent turn came old next new after none t = quiet.takes-quiet wsize m sent turn came old next t.machine after none t.step
takes-quiet wsize (Path m) sent turn came old next new after none t = paths.path-takes-quiet m.arrived wsize m sent turn came old next t.machine after none t.step
takes-quiet wsize (Name m) sent turn came old next new after none t =
    λ call e. has-room m turn call none (asks-call (names.IsFine m turn) next call (names.name-takes-asks m sent turn came old next t.machine after t.step) e)

-- ---- each call that a step asks for has a spelling

kept-spells : (old new : Shelf) → IsKept old new → AreSpellable old.back → AreSpellable new.back
kept-spells old new k all = subst (λ (p : Pending). AreSpellable p) (sym k.back) all

fine-spells : (m : NameMachine) (turn : Turn) (call : Call) → Fits (Name m) → names.IsFine m turn call → IsSpellable call
fine-spells m turn call fits fine = fine.1 fits

pub starts-spell : (wsize : ℕ) (machine : Machine) (turn : Turn) (old : Shelf) (next : Step) (new : Machine) (after : Shelf) → wsize ≤ 65536 → Fits machine
    → Starts wsize machine turn old next new after → AreSpellable old.back → AreSpellable after.back × AsksSpellable next
starts-spell wsize (File m) turn old next new after small fits s all = spell.starts-spell wsize m turn old next s.machine after small s.step all
starts-spell wsize (Path m) turn old next new after small fits s all = paths.path-starts-spell wsize m turn old next s.machine after small s.step all
starts-spell wsize (Name m) turn old next new after small fits s all = (
  kept-spells old after (names.name-goes-kept m turn old next s.machine after s.step) all,
  λ call e. fine-spells m turn call fits (asks-call (names.IsFine m turn) next call (names.name-goes-asks m turn old next s.machine after s.step) e),
)

pub resumes-spell : (wsize : ℕ) (machine : Machine) (turn : Turn) (old : Shelf) (next : Step) (new : Machine) (after : Shelf) → wsize ≤ 65536 → Fits machine
    → Resumes wsize machine turn old next new after → AreSpellable old.back → AreSpellable after.back × AsksSpellable next
resumes-spell wsize (File m) turn old next new after small fits s all = spell.resumes-spell wsize m turn old next s.machine after small s.step all
resumes-spell wsize (Path m) turn old next new after small fits s all = paths.path-resumes-spell m.arrived wsize m turn old next s.machine after small s.step all
resumes-spell wsize (Name m) turn old next new after small fits s all = (
  kept-spells old after (names.name-goes-kept m turn old next s.machine after s.step) all,
  λ call e. fine-spells m turn call fits (asks-call (names.IsFine m turn) next call (names.name-goes-asks m turn old next s.machine after s.step) e),
)

pub takes-spell : (wsize : ℕ) (machine : Machine) (sent turn : Turn) (came : Result Reply Fault) (old : Shelf) (next : Step) (new : Machine) (after : Shelf) → wsize ≤ 65536 → Fits machine
    → Takes wsize machine sent turn came old next new after → AreSpellable old.back → AreSpellable after.back × AsksSpellable next
takes-spell wsize (File m) sent turn came old next new after small fits t all = spell.takes-spell wsize m sent turn came old next t.machine after small t.step all
takes-spell wsize (Path m) sent turn came old next new after small fits t all = paths.path-takes-spell m.arrived wsize m sent turn came old next t.machine after small t.step all
takes-spell wsize (Name m) sent turn came old next new after small fits t all = (
  kept-spells old after (names.name-takes-kept m sent turn came old next t.machine after t.step) all,
  λ call e. fine-spells m turn call fits (asks-call (names.IsFine m turn) next call (names.name-takes-asks m sent turn came old next t.machine after t.step) e),
)

-- ---- a call that couldn't be made leaves nothing in flight

file-leaves : (wsize : ℕ) (sent : Turn) (new : Machine) (m : FileMachine) (after : Shelf) → new ≡ File m → file_laws.LeavesNothing wsize sent m after → LeavesNothing wsize sent new after
file-leaves wsize sent new m after is own = subst (λ (x : Machine). LeavesNothing wsize sent x after) (sym is) by
  where
    by : LeavesNothing wsize sent (File m) after
    by turn fault next last ends none t = own turn fault next t.machine ends none t.step

path-leaves : (wsize : ℕ) (sent : Turn) (new : Machine) (m : PathMachine) (after : Shelf) → new ≡ Path m → paths.PathLeaves wsize sent m after → LeavesNothing wsize sent new after
path-leaves wsize sent new m after is own = subst (λ (x : Machine). LeavesNothing wsize sent x after) (sym is) by
  where
    by : LeavesNothing wsize sent (Path m) after
    by turn fault next last ends none t = own turn fault next t.machine ends none t.step

name-leaves : (wsize : ℕ) (sent : Turn) (new : Machine) (m : NameMachine) (after : Shelf) → new ≡ Name m → IsReady sent.xid after.seq after.back → LeavesNothing wsize sent new after
name-leaves wsize sent new m after is r = subst (λ (x : Machine). LeavesNothing wsize sent x after) (sym is) by
  where
    by : LeavesNothing wsize sent (Name m) after
    by turn fault next last ends none t = names.ready-kept sent.xid after ends (names.name-takes-kept m sent turn (Err fault) after next t.machine ends t.step) r

pub starts-unmade : (wsize : ℕ) (machine : Machine) (turn : Turn) (old : Shelf) (call : Call) (new : Machine) (after : Shelf)
    → Starts wsize machine turn old (Send call) new after → IsReady turn.xid old.seq old.back → LeavesNothing wsize turn new after
starts-unmade wsize (File m) turn old call new after s r = file-leaves wsize turn new s.machine after s.machine_is (unmade.starts-unmade wsize m turn old call s.machine after s.step r)
starts-unmade wsize (Path m) turn old call new after s r = path-leaves wsize turn new s.machine after s.machine_is (paths.path-starts-unmade wsize m turn old call s.machine after s.step r)
starts-unmade wsize (Name m) turn old call new after s r =
    name-leaves wsize turn new s.machine after s.machine_is (names.ready-kept turn.xid old after (names.name-goes-kept m turn old (Send call) s.machine after s.step) r)

pub resumes-unmade : (wsize : ℕ) (machine : Machine) (turn : Turn) (old : Shelf) (call : Call) (new : Machine) (after : Shelf)
    → Resumes wsize machine turn old (Send call) new after → IsReady turn.xid old.seq old.back → LeavesNothing wsize turn new after
resumes-unmade wsize (File m) turn old call new after s r = file-leaves wsize turn new s.machine after s.machine_is (unmade.resumes-unmade wsize m turn old call s.machine after s.step r)
resumes-unmade wsize (Path m) turn old call new after s r = path-leaves wsize turn new s.machine after s.machine_is (paths.path-resumes-unmade wsize m turn old call s.machine after s.step r)
resumes-unmade wsize (Name m) turn old call new after s r =
    name-leaves wsize turn new s.machine after s.machine_is (names.ready-kept turn.xid old after (names.name-goes-kept m turn old (Send call) s.machine after s.step) r)

pub takes-unmade : (wsize : ℕ) (machine : Machine) (sent turn : Turn) (came : Result Reply Fault) (old : Shelf) (call : Call) (new : Machine) (after : Shelf)
    → Takes wsize machine sent turn came old (Send call) new after → IsReady turn.xid old.seq old.back → LeavesNothing wsize turn new after
takes-unmade wsize (File m) sent turn came old call new after t r =
    file-leaves wsize turn new t.machine after t.machine_is (unmade.takes-unmade wsize m sent turn came old call t.machine after t.step r)
takes-unmade wsize (Path m) sent turn came old call new after t r =
    path-leaves wsize turn new t.machine after t.machine_is (paths.path-takes-unmade wsize m sent turn came old call t.machine after t.step r)
takes-unmade wsize (Name m) sent turn came old call new after t r =
    name-leaves wsize turn new t.machine after t.machine_is (names.ready-kept turn.xid old after (names.name-takes-kept m sent turn came old (Send call) t.machine after t.step) r)
