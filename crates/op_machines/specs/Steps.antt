-- The steps of any operation: those of its machine.
use Rattle.std.specs.Prelude.{◌≡◌, ℕ, Result}
use Rattle.world_model.specs.declared.answer.Fault.{Fault}
use Rattle.world_model.specs.declared.message.Reply.{Reply}
use Rattle.client_shelf.specs.declared.shelf.Shelf.{Shelf}
use Rattle.client_shelf.specs.declared.turn.Turn.{Turn}
use Rattle.client_shelf.specs.declared.step.Step.{Step}
use Rattle.op_machines.specs.declared.file_machine.FileMachine.{FileMachine}
use Rattle.op_machines.specs.declared.machine.Machine.{Machine}
use Rattle.op_machines.specs.declared.machine.Machine.TheVariants as machines
use Rattle.op_machines.specs.declared.name_machine.NameMachine.{NameMachine}
use Rattle.op_machines.specs.declared.path_machine.PathMachine.{PathMachine}
use Rattle.op_machines.specs.FileSteps as files
use Rattle.op_machines.specs.NameSteps.{NameGoes, NameTakes}
use Rattle.op_machines.specs.PathSteps.{PathStarts, PathResumes, PathTakes}

-- ---- the first step

pub record FileStarts (wsize : ℕ) (m : FileMachine) (turn : Turn) (old : Shelf) (next : Step) (new : Machine) (after : Shelf) : Type 0 where
  pub machine : FileMachine
  pub machine_is : new ≡ machines.File machine
  pub step : files.Starts wsize m turn old next machine after

pub record StartsPath (wsize : ℕ) (m : PathMachine) (turn : Turn) (old : Shelf) (next : Step) (new : Machine) (after : Shelf) : Type 0 where
  pub machine : PathMachine
  pub machine_is : new ≡ machines.Path machine
  pub step : PathStarts wsize m turn old next machine after

pub record GoesName (m : NameMachine) (turn : Turn) (old : Shelf) (next : Step) (new : Machine) (after : Shelf) : Type 0 where
  pub machine : NameMachine
  pub machine_is : new ≡ machines.Name machine
  pub step : NameGoes m turn old next machine after

abbrev pub Starts : ℕ → Machine → Turn → Shelf → Step → Machine → Shelf → Type 0
Starts wsize (machines.File m) turn old next new after = FileStarts wsize m turn old next new after
Starts wsize (machines.Path m) turn old next new after = StartsPath wsize m turn old next new after
Starts wsize (machines.Name m) turn old next new after = GoesName m turn old next new after

-- ---- a step that no reply made possible

pub record FileResumes (wsize : ℕ) (m : FileMachine) (turn : Turn) (old : Shelf) (next : Step) (new : Machine) (after : Shelf) : Type 0 where
  pub machine : FileMachine
  pub machine_is : new ≡ machines.File machine
  pub step : files.Resumes wsize m turn old next machine after

pub record ResumesPath (wsize : ℕ) (m : PathMachine) (turn : Turn) (old : Shelf) (next : Step) (new : Machine) (after : Shelf) : Type 0 where
  pub machine : PathMachine
  pub machine_is : new ≡ machines.Path machine
  pub step : PathResumes m.arrived wsize m turn old next machine after

abbrev pub Resumes : ℕ → Machine → Turn → Shelf → Step → Machine → Shelf → Type 0
Resumes wsize (machines.File m) turn old next new after = FileResumes wsize m turn old next new after
Resumes wsize (machines.Path m) turn old next new after = ResumesPath wsize m turn old next new after
Resumes wsize (machines.Name m) turn old next new after = GoesName m turn old next new after

-- ---- the step at what came of the call that the step with the turn `sent` asked for

pub record FileTakes (wsize : ℕ) (m : FileMachine) (sent turn : Turn) (came : Result Reply Fault) (old : Shelf) (next : Step) (new : Machine)
    (after : Shelf) : Type 0 where
  pub machine : FileMachine
  pub machine_is : new ≡ machines.File machine
  pub step : files.Takes wsize m sent turn came old next machine after

pub record TakesPath (wsize : ℕ) (m : PathMachine) (sent turn : Turn) (came : Result Reply Fault) (old : Shelf) (next : Step) (new : Machine)
    (after : Shelf) : Type 0 where
  pub machine : PathMachine
  pub machine_is : new ≡ machines.Path machine
  pub step : PathTakes m.arrived wsize m sent turn came old next machine after

pub record TakesName (m : NameMachine) (sent turn : Turn) (came : Result Reply Fault) (old : Shelf) (next : Step) (new : Machine)
    (after : Shelf) : Type 0 where
  pub machine : NameMachine
  pub machine_is : new ≡ machines.Name machine
  pub step : NameTakes m sent turn came old next machine after

abbrev pub Takes : ℕ → Machine → Turn → Turn → Result Reply Fault → Shelf → Step → Machine → Shelf → Type 0
Takes wsize (machines.File m) sent turn came old next new after = FileTakes wsize m sent turn came old next new after
Takes wsize (machines.Path m) sent turn came old next new after = TakesPath wsize m sent turn came old next new after
Takes wsize (machines.Name m) sent turn came old next new after = TakesName m sent turn came old next new after
