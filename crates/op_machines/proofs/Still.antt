-- An operation that waits, though there is room for a call, stays as it is.
use Rattle.std.proofs.Common.{◌≡◌, ℕ, true, refl, ap, subst, ◌∙◌}
use Rattle.client_shelf.specs.declared.shelf.Shelf.{Shelf}
use Rattle.client_shelf.specs.declared.turn.Turn.{Turn}
use Rattle.client_shelf.specs.declared.step.Step.{Step}
use Rattle.client_shelf.specs.declared.step.Step.TheVariants.{Wait}
use Rattle.file_ops.specs.declared.write_file.Writing.{Writing}
use Rattle.file_ops.specs.declared.sync_file.Syncing.{Syncing}
use Rattle.file_ops.specs.declared.close_file.Closing.{Closing}
use Rattle.file_ops.specs.declared.truncate_file.Truncating.{Truncating}
use Rattle.file_ops.specs.declared.open_file.OpenFile.{OpenFile}
use Rattle.file_ops.specs.declared.read_file.ReadFile.{ReadFile}
use Rattle.file_ops.specs.declared.put_file.PutFile.{PutFile}
use Rattle.file_ops.specs.OpenFile.{gone}
use Rattle.file_ops.specs.ReadFile.{ResumesIn}
use Rattle.file_ops.proofs.Stills.{sync-still, write-still}
use Rattle.file_ops.proofs.Waits.{close-still, put-still, open-still, truncate-still, read-still}
use Rattle.op_machines.specs.declared.file_machine.FileMachine.{FileMachine as Machine}
use Rattle.op_machines.specs.declared.file_machine.FileMachine.TheVariants as machines
use Rattle.op_machines.specs.FileSteps.{Resumes}

abbrev an_open : OpenFile → Machine
an_open m = machines.Open m

abbrev a_read : ReadFile → Machine
a_read m = machines.Read m

abbrev a_put : PutFile → Machine
a_put m = machines.Put m

pub waits-still : (wsize : ℕ) (machine : Machine) (turn : Turn) (old : Shelf) (next : Step) (new : Machine) (after : Shelf)
    → turn.room ≡ true → Resumes wsize machine turn old next new after → next ≡ Wait → (new ≡ machine) × (after ≡ old)
waits-still wsize (machines.Open m) turn old next new after room r waits =
    (r.machine_is ∙ ap an_open (open-still m turn next (gone m turn) r.next_is refl waits), r.shelf_is)
waits-still wsize (machines.Read m) turn old next new after room r waits =
    let step = subst (λ b. ResumesIn m.reading b m old.pages old.back next r.machine after.pages) room r.step in
    let still = read-still m.reading m old.pages old.back next r.machine after.pages refl step waits in
    (r.machine_is ∙ ap a_read still.0, r.others ∙ ap (λ p. record old { pages = p }) still.1)
waits-still wsize (machines.Write m) turn old next new after room r waits =
    let still = write-still m.state wsize m.lane turn old next r.state after r.step waits in
    (r.machine_is ∙ ap (λ (s : Writing). machines.Write (record m { state = s })) still.0, still.1)
waits-still wsize (machines.Sync m) turn old next new after room r waits =
    let still = sync-still m.state wsize m turn old next r.state after r.step waits in
    (r.machine_is ∙ ap (λ (s : Syncing). machines.Sync (record m { state = s })) still.0, still.1)
waits-still wsize (machines.Close m) turn old next new after room r waits =
    let still = close-still m.state wsize m turn old next r.state after room r.step waits in
    (r.machine_is ∙ ap (λ (s : Closing). machines.Close (record m { state = s })) still.0, still.1)
waits-still wsize (machines.Truncate m) turn old next new after room r waits =
    (r.machine_is ∙ ap (λ (s : Truncating). machines.Truncate (record m { state = s })) (truncate-still m.state m turn old next r.next_is waits), r.shelf_is)
waits-still wsize (machines.Put m) turn old next new after room r waits =
    let still = put-still m.state wsize m turn old next r.machine after refl r.step waits in
    (r.machine_is ∙ ap a_put still.0, still.1)
