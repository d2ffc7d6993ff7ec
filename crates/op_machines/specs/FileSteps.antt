-- The steps of an operation on a file: those of its machine.
use Rattle.std.specs.Prelude.{◌≡◌, ◌≤◌, ℕ, Result}
use Rattle.std.specs.FinMap as finite
use Rattle.world_model.specs.declared.answer.Fault.{Fault}
use Rattle.world_model.specs.declared.message.Reply.{Reply}
use Rattle.write_back.specs.Files.{all_pending}
use Rattle.client_shelf.specs.declared.shelf.Shelf.{Shelf}
use Rattle.client_shelf.specs.declared.turn.Turn.{Turn}
use Rattle.client_shelf.specs.declared.step.Step.{Step}
use Rattle.file_ops.specs.declared.open_file.OpenFile.{OpenFile}
use Rattle.file_ops.specs.declared.read_file.ReadFile.{ReadFile}
use Rattle.file_ops.specs.declared.write_file.WriteFile.{WriteFile}
use Rattle.file_ops.specs.declared.write_file.Writing.{Writing}
use Rattle.file_ops.specs.declared.sync_file.SyncFile.{SyncFile}
use Rattle.file_ops.specs.declared.sync_file.Syncing.{Syncing}
use Rattle.file_ops.specs.declared.close_file.CloseFile.{CloseFile}
use Rattle.file_ops.specs.declared.close_file.Closing.{Closing}
use Rattle.file_ops.specs.declared.truncate_file.TruncateFile.{TruncateFile}
use Rattle.file_ops.specs.declared.put_file.PutFile.{PutFile}
use Rattle.file_ops.specs.declared.put_file.Putting.TheVariants.{Opens}
use Rattle.client_shelf.specs.Busy.{repeats_after}
use Rattle.client_shelf.specs.Learning.{Learns}
use Rattle.file_ops.specs.Opening.{go_next, go_after, NotesAttrs, NotesNames, opening_again, told_led, may_again}
use Rattle.file_ops.specs.OpenFile as opens
use Rattle.file_ops.specs.ReadFile as reads
use Rattle.file_ops.specs.WriteFile as writes
use Rattle.file_ops.specs.Syncs as syncs
use Rattle.file_ops.specs.Closes as closes
use Rattle.file_ops.specs.TruncateFile as truncates
use Rattle.file_ops.specs.PutFile as puts
use Rattle.op_machines.specs.declared.file_machine.FileMachine.{FileMachine}
use Rattle.op_machines.specs.declared.file_machine.FileMachine.TheVariants as machines

-- ---- opens

pub record OpenStarts (m : OpenFile) (turn : Turn) (old : Shelf) (next : Step) (new : FileMachine) (after : Shelf) : Type 0 where
  pub next_is : next ≡ opens.start_next m turn old.opens
  pub machine_is : new ≡ machines.Open (opens.start_after m turn old.opens)
  pub shelf_is : after ≡ old

pub record OpenResumes (m : OpenFile) (turn : Turn) (old : Shelf) (next : Step) (new : FileMachine) (after : Shelf) : Type 0 where
  pub next_is : next ≡ opens.goes_as (go_next m.opening turn)
  pub machine_is : new ≡ machines.Open (opens.gone m turn)
  pub shelf_is : after ≡ old

pub record OpenTakes (m : OpenFile) (sent turn : Turn) (came : Result Reply Fault) (old : Shelf) (next : Step) (new : FileMachine)
    (after : Shelf) : Type 0 where
  pub steps : opens.OpenTakes m sent turn came after.attrs old.repeats next old.pages after.pages old.opens after.opens
  pub machine_is : new ≡ machines.Open (opens.took_after (opening_again m.opening sent turn came old.repeats) m turn came after.attrs old.pages)
  pub attrs : NotesAttrs m.opening sent.now came m.opening.step old.attrs after.attrs
  pub names : NotesNames m.opening came m.opening.step old.names after.names
  pub repeats : after.repeats ≡ repeats_after (may_again m.opening (told_led m.opening came)) sent turn old.repeats
  pub others : after ≡ record old { pages = after.pages; attrs = after.attrs; names = after.names; opens = after.opens; repeats = after.repeats }

-- ---- reads

pub record ReadStarts (m : ReadFile) (turn : Turn) (old : Shelf) (next : Step) (new : FileMachine) (after : Shelf) : Type 0 where
  pub machine : ReadFile
  pub machine_is : new ≡ machines.Read machine
  pub step : reads.Starts (finite.get old.opens (m.lane, m.slot)) turn m old.pages old.back next machine after.pages
  pub others : after ≡ record old { pages = after.pages }

pub record ReadResumes (m : ReadFile) (turn : Turn) (old : Shelf) (next : Step) (new : FileMachine) (after : Shelf) : Type 0 where
  pub machine : ReadFile
  pub machine_is : new ≡ machines.Read machine
  pub step : reads.ResumesIn m.reading turn.room m old.pages old.back next machine after.pages
  pub others : after ≡ record old { pages = after.pages }

pub record ReadTakes (m : ReadFile) (sent turn : Turn) (came : Result Reply Fault) (old : Shelf) (next : Step) (new : FileMachine)
    (after : Shelf) : Type 0 where
  pub machine : ReadFile
  pub machine_is : new ≡ machines.Read machine
  pub step : reads.TakesIn m.reading sent turn came old.repeats m old.pages old.back next machine after.pages
  pub attrs : Learns (reads.file_of m.reading) (reads.attr_heard m.reading came) sent.now old.attrs after.attrs
  pub repeats : after.repeats ≡ reads.repeats_heard m.reading sent turn came old.repeats
  pub others : after ≡ record old { attrs = after.attrs; pages = after.pages; repeats = after.repeats }

-- ---- writes and fills

pub record WriteStarts (wsize : ℕ) (m : WriteFile) (turn : Turn) (old : Shelf) (next : Step) (new : FileMachine) (after : Shelf) : Type 0 where
  pub machine : WriteFile
  pub machine_is : new ≡ machines.Write machine
  pub step : writes.Starts wsize m turn old next machine after

pub record WriteResumes (wsize : ℕ) (m : WriteFile) (turn : Turn) (old : Shelf) (next : Step) (new : FileMachine) (after : Shelf) : Type 0 where
  pub state : Writing
  pub machine_is : new ≡ machines.Write (record m { state = state })
  pub step : writes.ResumesIn m.state wsize m.lane turn old next state after

pub record WriteTakes (wsize : ℕ) (m : WriteFile) (sent turn : Turn) (came : Result Reply Fault) (old : Shelf) (next : Step) (new : FileMachine)
    (after : Shelf) : Type 0 where
  pub state : Writing
  pub machine_is : new ≡ machines.Write (record m { state = state })
  pub step : writes.TakesIn m.state wsize m sent turn came old next state after

-- ---- syncs

pub record SyncStarts (wsize : ℕ) (m : SyncFile) (turn : Turn) (old : Shelf) (next : Step) (new : FileMachine) (after : Shelf) : Type 0 where
  pub state : Syncing
  pub machine_is : new ≡ machines.Sync (record m { state = state })
  pub step : syncs.Starts wsize m turn old next state after

pub record SyncResumes (wsize : ℕ) (m : SyncFile) (turn : Turn) (old : Shelf) (next : Step) (new : FileMachine) (after : Shelf) : Type 0 where
  pub state : Syncing
  pub machine_is : new ≡ machines.Sync (record m { state = state })
  pub step : syncs.Resumes m.state wsize m turn old next state after

pub record SyncTakes (wsize : ℕ) (m : SyncFile) (sent turn : Turn) (came : Result Reply Fault) (old : Shelf) (next : Step) (new : FileMachine)
    (after : Shelf) : Type 0 where
  pub state : Syncing
  pub machine_is : new ≡ machines.Sync (record m { state = state })
  pub step : syncs.Takes m.state wsize m sent turn came old next state after

-- ---- closes

pub record CloseStarts (wsize : ℕ) (m : CloseFile) (turn : Turn) (old : Shelf) (next : Step) (new : FileMachine) (after : Shelf) : Type 0 where
  pub state : Closing
  pub machine_is : new ≡ machines.Close (record m { state = state })
  pub step : closes.Starts wsize m turn old next state after

pub record CloseResumes (wsize : ℕ) (m : CloseFile) (turn : Turn) (old : Shelf) (next : Step) (new : FileMachine) (after : Shelf) : Type 0 where
  pub state : Closing
  pub machine_is : new ≡ machines.Close (record m { state = state })
  pub step : closes.Resumes m.state wsize m turn old next state after

pub record CloseTakes (wsize : ℕ) (m : CloseFile) (sent turn : Turn) (came : Result Reply Fault) (old : Shelf) (next : Step) (new : FileMachine)
    (after : Shelf) : Type 0 where
  pub state : Closing
  pub machine_is : new ≡ machines.Close (record m { state = state })
  pub step : closes.Takes m.state wsize m sent turn came old next state after

-- ---- truncates

pub record TruncateStarts (m : TruncateFile) (turn : Turn) (old : Shelf) (next : Step) (new : FileMachine) (after : Shelf) : Type 0 where
  pub next_is : next ≡ truncates.started_next m turn old
  pub machine_is : new ≡ machines.Truncate (record m { state = truncates.started_state m turn old })
  pub shelf_is : after ≡ truncates.started_shelf m old

pub record TruncateResumes (m : TruncateFile) (turn : Turn) (old : Shelf) (next : Step) (new : FileMachine) (after : Shelf) : Type 0 where
  pub next_is : next ≡ truncates.resumed_next m.state m turn old
  pub machine_is : new ≡ machines.Truncate (record m { state = truncates.resumed_state m.state m turn old })
  pub shelf_is : after ≡ old

pub record TruncateTakes (m : TruncateFile) (sent turn : Turn) (came : Result Reply Fault) (old : Shelf) (next : Step) (new : FileMachine)
    (after : Shelf) : Type 0 where
  pub next_is : next ≡ truncates.took_next m.state m came sent turn old.repeats
  pub machine_is : new ≡ machines.Truncate (record m { state = truncates.took_state m.state came sent turn old.repeats })
  pub back : truncates.TookBack m.state m came old.back after.back
  pub total : all_pending after.back ≤ all_pending old.back
  pub attrs : truncates.TookAttrs m.state came sent.now old.attrs after.attrs
  pub shelf_is : after ≡ truncates.took_shelf m.state m came sent turn after.attrs after.back old

-- ---- puts

pub record PutStarts (m : PutFile) (turn : Turn) (old : Shelf) (next : Step) (new : FileMachine) (after : Shelf) : Type 0 where
  pub next_is : next ≡ opens.goes_as (go_next (puts.opening_at turn m) turn)
  pub machine_is : new ≡ machines.Put (record m { opening = go_after (puts.opening_at turn m) turn; state = Opens })
  pub shelf_is : after ≡ old

pub record PutResumes (wsize : ℕ) (m : PutFile) (turn : Turn) (old : Shelf) (next : Step) (new : FileMachine) (after : Shelf) : Type 0 where
  pub machine : PutFile
  pub machine_is : new ≡ machines.Put machine
  pub step : puts.Resumes m.state wsize m turn old next machine after

pub record PutTakes (wsize : ℕ) (m : PutFile) (sent turn : Turn) (came : Result Reply Fault) (old : Shelf) (next : Step) (new : FileMachine)
    (after : Shelf) : Type 0 where
  pub machine : PutFile
  pub machine_is : new ≡ machines.Put machine
  pub step : puts.Takes m.state wsize m sent turn came old next machine after

-- ---- any of them

-- the first step
abbrev pub Starts : ℕ → FileMachine → Turn → Shelf → Step → FileMachine → Shelf → Type 0
Starts wsize (machines.Open m) turn old next new after = OpenStarts m turn old next new after
Starts wsize (machines.Read m) turn old next new after = ReadStarts m turn old next new after
Starts wsize (machines.Write m) turn old next new after = WriteStarts wsize m turn old next new after
Starts wsize (machines.Sync m) turn old next new after = SyncStarts wsize m turn old next new after
Starts wsize (machines.Close m) turn old next new after = CloseStarts wsize m turn old next new after
Starts wsize (machines.Truncate m) turn old next new after = TruncateStarts m turn old next new after
Starts wsize (machines.Put m) turn old next new after = PutStarts m turn old next new after

-- a step that no reply made possible
abbrev pub Resumes : ℕ → FileMachine → Turn → Shelf → Step → FileMachine → Shelf → Type 0
Resumes wsize (machines.Open m) turn old next new after = OpenResumes m turn old next new after
Resumes wsize (machines.Read m) turn old next new after = ReadResumes m turn old next new after
Resumes wsize (machines.Write m) turn old next new after = WriteResumes wsize m turn old next new after
Resumes wsize (machines.Sync m) turn old next new after = SyncResumes wsize m turn old next new after
Resumes wsize (machines.Close m) turn old next new after = CloseResumes wsize m turn old next new after
Resumes wsize (machines.Truncate m) turn old next new after = TruncateResumes m turn old next new after
Resumes wsize (machines.Put m) turn old next new after = PutResumes wsize m turn old next new after

-- the step at what came of the call that the step with the turn `sent` asked for
abbrev pub Takes : ℕ → FileMachine → Turn → Turn → Result Reply Fault → Shelf → Step → FileMachine → Shelf → Type 0
Takes wsize (machines.Open m) sent turn came old next new after = OpenTakes m sent turn came old next new after
Takes wsize (machines.Read m) sent turn came old next new after = ReadTakes m sent turn came old next new after
Takes wsize (machines.Write m) sent turn came old next new after = WriteTakes wsize m sent turn came old next new after
Takes wsize (machines.Sync m) sent turn came old next new after = SyncTakes wsize m sent turn came old next new after
Takes wsize (machines.Close m) sent turn came old next new after = CloseTakes wsize m sent turn came old next new after
Takes wsize (machines.Truncate m) sent turn came old next new after = TruncateTakes m sent turn came old next new after
Takes wsize (machines.Put m) sent turn came old next new after = PutTakes wsize m sent turn came old next new after
