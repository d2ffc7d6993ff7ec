-- A call that any operation asks for, and that can't be made, ends it or leaves it fewer calls to ask for in vain.
use Rattle.std.proofs.Common.{◌≡◌, ◌<◌, ◌≤◌, ℕ, Err, sym, subst, arith}
use Rattle.world_model.specs.declared.answer.Fault.{Fault}
use Rattle.world_model.specs.declared.message.Call.{Call}
use Rattle.client_shelf.specs.declared.shelf.Shelf.{Shelf}
use Rattle.client_shelf.specs.declared.turn.Turn.{Turn}
use Rattle.client_shelf.specs.declared.step.Step.{Step}
use Rattle.client_shelf.specs.declared.step.Step.TheVariants.{Send, Wait}
use Rattle.op_machines.specs.declared.machine.Machine.{Machine}
use Rattle.op_machines.specs.declared.machine.Machine.TheVariants.{File, Path, Name}
use Rattle.op_machines.specs.Endings.{calls_left}
use Rattle.op_machines.specs.Steps.{Resumes, Takes}
use Rattle.op_machines.proofs.Endings as files
use Rattle.op_machines.proofs.NameEnds as names
use Rattle.op_machines.proofs.PathEnds as paths

below-two : (n : ℕ) → n < 2 → n ≤ 2
below-two n less = omega (arith, less)

pub few-left : (machine : Machine) → calls_left machine ≤ 2
few-left (File m) = files.few-left m
few-left (Path m) = paths.few-paths m
few-left (Name m) = below-two (calls_left (Name m)) (names.few-left m)

pub refusals-end : (wsize : ℕ) (machine : Machine) (turn : Turn) (old : Shelf) (call : Call) (mid : Machine) (between : Shelf) (unmade : Turn) (fault : Fault) (next : Step) (new : Machine) (after : Shelf)
    → Resumes wsize machine turn old (Send call) mid between → Takes wsize mid turn unmade (Err fault) between next new after → next ≡ Wait → calls_left new < calls_left machine
refusals-end wsize (File m) turn old call mid between unmade fault next new after r t waits =
    let own = subst (λ (it : Machine). Takes wsize it turn unmade (Err fault) between next new after) r.machine_is t in
    subst (λ (it : Machine). calls_left it < calls_left (File m)) (sym own.machine_is)
    (files.refusals-end wsize m turn old call r.machine between unmade fault next own.machine after r.step own.step waits)
refusals-end wsize (Path m) turn old call mid between unmade fault next new after r t waits =
    let own = subst (λ (it : Machine). Takes wsize it turn unmade (Err fault) between next new after) r.machine_is t in
    subst (λ (it : Machine). calls_left it < calls_left (Path m)) (sym own.machine_is)
    (paths.paths-end wsize m turn old call r.machine between unmade fault next own.machine after r.step own.step waits)
refusals-end wsize (Name m) turn old call mid between unmade fault next new after r t waits =
    let own = subst (λ (it : Machine). Takes wsize it turn unmade (Err fault) between next new after) r.machine_is t in
    subst (λ (it : Machine). calls_left it < calls_left (Name m)) (sym own.machine_is)
    (names.names-end m turn old call r.machine between unmade fault next own.machine after r.step own.step waits)
