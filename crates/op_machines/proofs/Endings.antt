-- A call that an operation asks for, and that can't be made, ends the operation or leaves it fewer calls to ask for in vain.
use Rattle.std.proofs.Common.{◌≡◌, ◌+◌, ◌<◌, ◌≤◌, ℕ, Option, Some, None, Err, refl, sym, ap, subst, ◌∙◌, arith}
use Rattle.world_model.specs.declared.answer.Fault.{Fault}
use Rattle.world_model.specs.declared.message.Call.{Call}
use Rattle.client_shelf.specs.declared.shelf.Shelf.{Shelf}
use Rattle.client_shelf.specs.declared.turn.Turn.{Turn}
use Rattle.client_shelf.specs.declared.step.Step.{Step}
use Rattle.client_shelf.specs.declared.step.Step.TheVariants.{Send, Wait}
use Rattle.file_ops.specs.declared.open_file.OpenFile.{OpenFile}
use Rattle.file_ops.specs.declared.read_file.ReadFile.{ReadFile}
use Rattle.file_ops.specs.declared.close_file.CloseFile.{CloseFile}
use Rattle.file_ops.specs.declared.close_file.Closing.{Closing}
use Rattle.file_ops.specs.declared.close_file.Closing.TheVariants as closing
use Rattle.file_ops.specs.declared.write_file.Writing.{Writing}
use Rattle.file_ops.specs.declared.write_file.Writing.TheVariants as writing
use Rattle.file_ops.specs.declared.sync_file.Syncing.{Syncing}
use Rattle.file_ops.specs.declared.sync_file.Syncing.TheVariants as syncing
use Rattle.file_ops.specs.declared.put_file.Putting.{Putting}
use Rattle.file_ops.specs.declared.put_file.Putting.TheVariants as putting
use Rattle.file_ops.specs.declared.truncate_file.Truncating.{Truncating}
use Rattle.file_ops.specs.Endings.{save_left, sync_left, write_left, close_left, put_left}
use Rattle.file_ops.specs.Closes as closes
use Rattle.file_ops.proofs.Endings.{sync-asks, sync-ends, CloseAsked, saves_on, removes, close-asks, saves-end, removes-end, write-asks, write-ends, open-ends, put-asks, put-ends, IsSized, truncate-asks, truncate-ends, read-asks, read-ends}
use Rattle.op_machines.specs.declared.file_machine.FileMachine.{FileMachine as Machine}
use Rattle.op_machines.specs.declared.file_machine.FileMachine.TheVariants as machines
use Rattle.op_machines.specs.FileEndings.{calls_left}
use Rattle.op_machines.specs.FileSteps.{Resumes, Takes}

-- ---- at most two are left

few-saves : (refusal : Option Fault) → save_left refusal ≤ 1
few-saves None = omega arith
few-saves (Some fault) = omega arith

few-writes : (at : Writing) → write_left at ≤ 1
few-writes writing.Idle = omega arith
few-writes (writing.Room file saving) = few-saves saving.refusal

few-syncs : (at : Syncing) → sync_left at ≤ 1
few-syncs syncing.Idle = omega arith
few-syncs (syncing.Saves saving) = few-saves saving.refusal

few-closes : (at : Closing) → close_left at ≤ 2
few-closes closing.Idle = omega arith
few-closes (closing.Queued saving) = omega arith
few-closes (closing.Saves saving) = let few = few-saves saving.refusal in omega (arith, few)
few-closes (closing.ToRemove removal) = omega arith
few-closes (closing.Removing removal) = omega arith

few-puts : (at : Putting) (write : Writing) → put_left at write ≤ 1
few-puts putting.Idle write = omega arith
few-puts putting.Opens write = omega arith
few-puts (putting.Adds file) write = few-writes write
few-puts (putting.Saves saving) write = few-saves saving.refusal

pub few-left : (machine : Machine) → calls_left machine ≤ 2
few-left (machines.Open m) = omega arith
few-left (machines.Read m) = omega arith
few-left (machines.Write m) = let few = few-writes m.state in omega (arith, few)
few-left (machines.Sync m) = let few = few-syncs m.state in omega (arith, few)
few-left (machines.Close m) = few-closes m.state
few-left (machines.Truncate m) = omega arith
few-left (machines.Put m) = let few = few-puts m.state m.write.state in omega (arith, few)

-- ---- by machine

none-of-one : (a b : ℕ) → a ≡ 0 → b ≡ 1 → a < b
none-of-one a b none one = omega (arith, none, one)

one-of-two : (a b : ℕ) → a ≤ 1 → b ≡ 2 → a < b
one-of-two a b few two = omega (arith, few, two)

close-left : (at mid : Closing) (wsize : ℕ) (m : CloseFile) (sent turn : Turn) (fault : Fault) (old : Shelf) (next : Step) (state : Closing) (new : Shelf)
    → CloseAsked at mid → closes.Takes mid wsize m sent turn (Err fault) old next state new → next ≡ Wait → close_left state < close_left at
close-left at mid wsize m sent turn fault old next state new (saves_on saving two is) t waits =
    one-of-two (close_left state) (close_left at) (saves-end wsize m saving sent turn fault old next state new (subst (λ (c : Closing). closes.Takes c wsize m sent turn (Err fault) old next state new) is t) waits) two
close-left at mid wsize m sent turn fault old next state new (removes removal is) t waits =
    absurd (removes-end wsize m removal sent turn fault old next state new (subst (λ (c : Closing). closes.Takes c wsize m sent turn (Err fault) old next state new) is t) waits)

pub refusals-end : (wsize : ℕ) (machine : Machine) (turn : Turn) (old : Shelf) (call : Call) (mid : Machine) (between : Shelf) (unmade : Turn) (fault : Fault) (next : Step) (new : Machine) (after : Shelf)
    → Resumes wsize machine turn old (Send call) mid between → Takes wsize mid turn unmade (Err fault) between next new after → next ≡ Wait → calls_left new < calls_left machine
refusals-end wsize (machines.Open m) turn old call mid between unmade fault next new after r t waits =
    let own = subst (λ (it : Machine). Takes wsize it turn unmade (Err fault) between next new after) r.machine_is t in
    absurd (open-ends _ turn unmade fault after.attrs between.repeats next between.pages after.pages between.opens after.opens own.steps waits)
refusals-end wsize (machines.Read m) turn old call mid between unmade fault next new after r t waits =
    let own = subst (λ (it : Machine). Takes wsize it turn unmade (Err fault) between next new after) r.machine_is t in
    absurd (read-ends r.machine.reading r.machine turn unmade fault between.repeats between.pages between.back next own.machine after.pages
    (read-asks m.reading turn.room m old.pages old.back (Send call) call r.machine between.pages r.step refl) own.step waits)
refusals-end wsize (machines.Write m) turn old call mid between unmade fault next new after r t waits =
    let own = subst (λ (it : Machine). Takes wsize it turn unmade (Err fault) between next new after) r.machine_is t in
    subst (λ (it : Machine). calls_left it < write_left m.state) (sym own.machine_is)
    (none-of-one (write_left own.state) (write_left m.state) (write-ends r.state wsize _ turn unmade fault between next own.state after own.step waits) (write-asks m.state wsize m.lane turn old (Send call) call r.state between r.step refl))
refusals-end wsize (machines.Sync m) turn old call mid between unmade fault next new after r t waits =
    let own = subst (λ (it : Machine). Takes wsize it turn unmade (Err fault) between next new after) r.machine_is t in
    subst (λ (it : Machine). calls_left it < sync_left m.state) (sym own.machine_is)
    (none-of-one (sync_left own.state) (sync_left m.state) (sync-ends r.state wsize _ turn unmade fault between next own.state after own.step waits) (sync-asks m.state wsize m turn old (Send call) call r.state between r.step refl))
refusals-end wsize (machines.Close m) turn old call mid between unmade fault next new after r t waits =
    let own = subst (λ (it : Machine). Takes wsize it turn unmade (Err fault) between next new after) r.machine_is t in
    subst (λ (it : Machine). calls_left it < close_left m.state) (sym own.machine_is)
    (close-left m.state r.state wsize _ turn unmade fault between next own.state after (close-asks m.state wsize m turn old (Send call) call r.state between r.step refl) own.step waits)
refusals-end wsize (machines.Truncate m) turn old call mid between unmade fault next new after r t waits =
    let own = subst (λ (it : Machine). Takes wsize it turn unmade (Err fault) between next new after) r.machine_is t in
    absurd (truncate-ends _ _ turn unmade fault between.repeats next (truncate-asks m.state m turn old (Send call) call r.next_is refl) own.next_is waits)
refusals-end wsize (machines.Put m) turn old call mid between unmade fault next new after r t waits =
    let own = subst (λ (it : Machine). Takes wsize it turn unmade (Err fault) between next new after) r.machine_is t in
    subst (λ (it : Machine). calls_left it < put_left m.state m.write.state) (sym own.machine_is)
    (none-of-one (put_left own.machine.state own.machine.write.state) (put_left m.state m.write.state)
    (put-ends r.machine.state wsize r.machine turn unmade fault between next own.machine after refl own.step waits) (put-asks m.state wsize m turn old (Send call) call r.machine between r.step refl))
