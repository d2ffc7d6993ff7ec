-- A call that came to nothing lets no operation add its bytes.
use Rattle.core_session.proofs.Prelude.{◌≡◌, ℕ, Bool, true, false, List, Ok, Err, refl, sym, subst, ◌∙◌, Mode, Fault, Step, Shelf, Turn, Led, Opening, OpeningStep, OpeningPhase, PutFile, Putting, WriteFile, Writing, FileMachine, Machine, PathMachine, file_of, Takes, EndsSo, takes-not}
use Rattle.nfs_types.specs.declared.mode.Mode.TheVariants as modes
use Rattle.file_ops.specs.declared.opening.Led.TheVariants as leads
use Rattle.file_ops.specs.declared.opening.OpeningStep.TheVariants as openings
use Rattle.file_ops.specs.declared.opening.OpeningPhase.TheVariants as opening_steps
use Rattle.file_ops.specs.declared.put_file.Putting.TheVariants as putting
use Rattle.file_ops.specs.declared.write_file.Writing.TheVariants as writing
use Rattle.file_ops.specs.Opening as opening
use Rattle.file_ops.specs.PutFile as puts
use Rattle.file_ops.specs.Syncs as syncs
use Rattle.file_ops.specs.WriteFile as writes
use Rattle.op_machines.specs.declared.file_machine.FileMachine.TheVariants as files
use Rattle.op_machines.specs.declared.machine.Machine.TheVariants as machines
use Rattle.op_machines.specs.FileSteps as steps
use Rattle.op_machines.specs.PathSteps as paths
use Rattle.core_session.proofs.order.Adds.{RoomHas, PutHas, FileHas, PathHas, TakesHas}

-- ---- an opening

-- it doesn't open a file
abbrev NotOpened : Led → Type 0
NotOpened (leads.Goes opening_steps.Look) = Unit {0}
NotOpened (leads.Goes opening_steps.Make) = Unit {0}
NotOpened (leads.Goes opening_steps.Find) = Unit {0}
NotOpened (leads.Goes (opening_steps.Ask file)) = ⊥
NotOpened (leads.Opens file attr) = ⊥
NotOpened (leads.Knows file stamp) = ⊥
NotOpened (leads.Ends fault) = Unit {0}

missed : (m : Mode) (fault : Fault) → NotOpened (opening.led_to m opening_steps.Look (Err fault))
missed modes.R fault = tt
missed modes.W fault = tt
missed modes.RW fault = tt
missed modes.C fault = tt
missed modes.X fault = tt

told-not : (m : Mode) (step : OpeningPhase) (fault : Fault) → NotOpened (opening.led_to m step (Err fault))
told-not m opening_steps.Look fault = missed m fault
told-not m opening_steps.Make fault = tt
told-not m opening_steps.Find fault = tt
told-not m (opening_steps.Ask file) fault = tt

known-not : (b : Bool) (led : Led) (now : ℕ) (attrs pages : _) → NotOpened led → NotOpened (opening.known_by b led now attrs pages)
known-not false led now attrs pages n = n
known-not true (leads.Goes opening_steps.Look) now attrs pages n = tt
known-not true (leads.Goes opening_steps.Make) now attrs pages n = tt
known-not true (leads.Goes opening_steps.Find) now attrs pages n = tt
known-not true (leads.Goes (opening_steps.Ask file)) now attrs pages n = absurd n
known-not true (leads.Opens file attr) now attrs pages n = absurd n
known-not true (leads.Knows file stamp) now attrs pages n = absurd n
known-not true (leads.Ends fault) now attrs pages n = tt

go-not : (o : Opening) (turn : Turn) (file : List ℕ) → opening.go_next o turn ≡ openings.Ended (Ok file) → ⊥
go-not o turn file is = by (opening.waits o turn) refl
  where
    by : (b : Bool) → opening.waits o turn ≡ b → ⊥
    by true w = let no_way : openings.Wait ≡ openings.Ended (Ok file) = (rw w at is) in absurd cc
    by false w = let no_way : openings.Send (opening.call_of o o.step) ≡ openings.Ended (Ok file) = (rw w at is) in absurd cc

led-not : (again : Bool) (o : Opening) (sent turn : Turn) (led : Led) (step : OpeningStep) (pages later : _) (file : List ℕ) → NotOpened led → opening.LedIf again o sent turn led step pages later
    → step ≡ openings.Ended (Ok file) → ⊥
led-not true o sent turn led step pages later file n l is = let no_way : openings.Send (opening.call_of o o.step) ≡ openings.Ended (Ok file) = sym l.0 ∙ is in absurd cc
led-not false o sent turn (leads.Goes to) step pages later file n l is = go-not (opening.at_step o to) turn file (sym l.0 ∙ is)
led-not false o sent turn (leads.Opens f attr) step pages later file n l is = n
led-not false o sent turn (leads.Knows f stamp) step pages later file n l is = n
led-not false o sent turn (leads.Ends fault) step pages later file n l is = let no_way : openings.Ended (Err fault) ≡ openings.Ended (Ok file) = sym l.0 ∙ is in absurd cc

-- ---- each operation

module _ (A : List ℕ → ℕ → List ℕ → Type 0) (wsize : ℕ) (sent turn : Turn) (fault : Fault) where
  room-unmade : (B : List ℕ → Type 0) (at : Writing) (m : WriteFile) (old : Shelf) (next : Step) (state : Writing) (after : Shelf)
      (t : writes.TakesIn at wsize m sent turn (Err fault) old next state after) → RoomHas B at wsize m sent turn (Err fault) old next state after t
  room-unmade B writing.Idle m old next state after t = tt
  room-unmade B (writing.Room file saving) m old next state after t = λ well.
      absurd (subst (λ n. EndsSo ⊥ (syncs.sync_next n)) well (takes-not wsize sent turn fault old.repeats saving old.back t.told t.saved t.back t.repeats t.takes))

  put-unmade : (B : List ℕ → Type 0) (at : Putting) (m : PutFile) (old : Shelf) (next : Step) (new : PutFile) (after : Shelf)
      (t : puts.Takes at wsize m sent turn (Err fault) old next new after) → PutHas B at wsize m sent turn (Err fault) old next new after t
  put-unmade B putting.Idle m old next new after t = tt
  put-unmade B putting.Opens m old next new after t = λ file is.
      absurd (led-not (opening.opening_again m.opening sent turn (Err fault) old.repeats) m.opening sent turn (opening.led_on m.opening turn.now (Err fault) t.took.attrs old.pages) t.step old.pages
      t.took.pages file (known-not m.opening.nocto (opening.told_led m.opening (Err fault)) turn.now t.took.attrs old.pages (told-not m.opening.mode m.opening.step fault)) t.leads is)
  put-unmade B (putting.Adds file) m old next new after t = room-unmade B m.write.state m.write old t.told t.written t.mid t.takes
  put-unmade B (putting.Saves saving) m old next new after t = tt

  file-unmade : (m : FileMachine) (old : Shelf) (next : Step) (new : FileMachine) (after : Shelf) (t : steps.Takes wsize m sent turn (Err fault) old next new after)
      → FileHas A wsize m sent turn (Err fault) old next new after t
  file-unmade (files.Open m) old next new after t = tt
  file-unmade (files.Read m) old next new after t = tt
  file-unmade (files.Write m) old next new after t = room-unmade _ m.state m old next t.state after t.step
  file-unmade (files.Sync m) old next new after t = tt
  file-unmade (files.Close m) old next new after t = tt
  file-unmade (files.Truncate m) old next new after t = tt
  file-unmade (files.Put m) old next new after t = put-unmade _ m.state m old next t.machine after t.step

  path-unmade : (b : Bool) (m : PathMachine) (old : Shelf) (next : Step) (new : PathMachine) (after : Shelf) (t : paths.PathTakes b wsize m sent turn (Err fault) old next new after)
      → PathHas A b wsize m sent turn (Err fault) old next new after t
  path-unmade true m old next new after t = file-unmade (file_of m.opener) old next (file_of t.opener) after t.step
  path-unmade false m old next new after t = tt

  -- so it has any A of what it adds
  pub unmade-has : (m : Machine) (old : Shelf) (next : Step) (new : Machine) (after : Shelf) (t : Takes wsize m sent turn (Err fault) old next new after)
      → TakesHas A wsize m sent turn (Err fault) old next new after t
  unmade-has (machines.File m) old next new after t = file-unmade m old next t.machine after t.step
  unmade-has (machines.Path m) old next new after t = path-unmade m.arrived m old next t.machine after t.step
  unmade-has (machines.Name m) old next new after t = tt
