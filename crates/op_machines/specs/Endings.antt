-- A call that can't be made ends its operation, or leaves it fewer calls to ask for in vain: so a core that goes on with its operations as
-- long as one can go on comes to an end.
use Rattle.std.specs.Prelude.{◌≡◌, ◌<◌, ◌≤◌, ℕ, Bool, true, false, Option, Some, None, Err}
use Rattle.world_model.specs.declared.answer.Fault.{Fault}
use Rattle.world_model.specs.declared.message.Call.{Call}
use Rattle.client_shelf.specs.declared.shelf.Shelf.{Shelf}
use Rattle.client_shelf.specs.declared.turn.Turn.{Turn}
use Rattle.client_shelf.specs.declared.step.Step.{Step}
use Rattle.client_shelf.specs.declared.step.Step.TheVariants.{Send, Wait}
use Rattle.name_ops.specs.declared.remove_file.Deed.{Deed}
use Rattle.name_ops.specs.declared.remove_file.Deed.TheVariants as deeds
use Rattle.op_machines.specs.declared.machine.Machine.{Machine}
use Rattle.op_machines.specs.declared.machine.Machine.TheVariants as machines
use Rattle.op_machines.specs.declared.name_machine.NameMachine.{NameMachine}
use Rattle.op_machines.specs.declared.name_machine.NameMachine.TheVariants as names
use Rattle.op_machines.specs.declared.opener.Opener.{Opener}
use Rattle.op_machines.specs.FileEndings as files
use Rattle.op_machines.specs.Openers.{file_of}
use Rattle.op_machines.specs.Steps.{Resumes, Takes}

-- If nothing has a name, a removal of an open file goes on to rename it.
abbrev pub removal_left : Option Deed → ℕ
removal_left (Some (deeds.Seek file to)) = 1
removal_left deed = 0

abbrev pub name_left : NameMachine → ℕ
name_left (names.Remove m) = removal_left m.deed
name_left machine = 0

-- before an open or a put has its directory, and then
abbrev pub path_left : Bool → Opener → ℕ
path_left true opener = files.calls_left (file_of opener)
path_left false opener = 1

-- how many of its calls an operation may still ask for in vain, and then go on
abbrev pub calls_left : Machine → ℕ
calls_left (machines.File m) = files.calls_left m
calls_left (machines.Path m) = path_left m.arrived m.opener
calls_left (machines.Name m) = name_left m

-- It asks for a call, and takes a refusal in its place.
abbrev pub RefusalsEnd : Type 0
RefusalsEnd = (wsize : ℕ) (machine : Machine) (turn : Turn) (old : Shelf) (call : Call) (mid : Machine) (between : Shelf) (unmade : Turn)
    (fault : Fault) (next : Step) (new : Machine) (after : Shelf)
    → Resumes wsize machine turn old (Send call) mid between → Takes wsize mid turn unmade (Err fault) between next new after → next ≡ Wait
    → calls_left new < calls_left machine

abbrev pub FewLeft : Type 0
FewLeft = (machine : Machine) → calls_left machine ≤ 2
