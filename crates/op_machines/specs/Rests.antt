-- Operations that wait so that a step that no reply made possible does nothing.
use Rattle.std.specs.Prelude.{◌≡◌, ℕ, Bool, true, false, ◌||◌}
use Rattle.client_shelf.specs.declared.shelf.Shelf.{Shelf}
use Rattle.client_shelf.specs.declared.turn.Turn.{Turn}
use Rattle.client_shelf.specs.declared.step.Step.TheVariants.{Wait}
use Rattle.file_ops.specs.declared.truncate_file.Truncating.{Truncating}
use Rattle.file_ops.specs.declared.truncate_file.Truncating.TheVariants as truncatings
use Rattle.name_ops.specs.declared.pair.Pair.{Pair}
use Rattle.name_ops.specs.declared.visit.Visit.{Visit}
use Rattle.op_machines.specs.declared.file_machine.FileMachine.{FileMachine}
use Rattle.op_machines.specs.declared.machine.Machine.{Machine}
use Rattle.op_machines.specs.declared.name_machine.NameMachine.{NameMachine}
use Rattle.op_machines.specs.declared.name_machine.NameMachine.TheVariants as names
use Rattle.op_machines.specs.declared.path_machine.PathMachine.{PathMachine}
use Rattle.op_machines.specs.FileSteps as files
use Rattle.op_machines.specs.PathSteps.{PathResumes}
use Rattle.op_machines.specs.Steps.{Resumes}

-- A step that no reply made possible waits, and changes neither the operation nor the shelf; so of one on a file, and of an open or a put.
abbrev pub Rests : Machine → Shelf → Type 0
Rests machine shelf = (wsize : ℕ) (turn : Turn) → Resumes wsize machine turn shelf Wait machine shelf

abbrev pub FileRests : FileMachine → Shelf → Type 0
FileRests machine shelf = (wsize : ℕ) (turn : Turn) → files.Resumes wsize machine turn shelf Wait machine shelf

abbrev pub PathRests : PathMachine → Shelf → Type 0
PathRests machine shelf = (wsize : ℕ) (turn : Turn) → PathResumes machine.arrived wsize machine turn shelf Wait machine shelf

-- its call, or that of its walk, has no reply yet
abbrev pub visit_rests : Visit → Bool
visit_rests v = v.asked || v.walk.asked

abbrev pub pair_rests : Pair → Bool
pair_rests p = (p.asked || p.second.asked) || p.first.asked

abbrev pub name_rests : NameMachine → Bool
name_rests (names.Change m) = visit_rests m.visit
name_rests (names.Stat m) = m.asked || m.walk.asked
name_rests (names.Access m) = visit_rests m.visit
name_rests (names.ReadLink m) = visit_rests m.visit
name_rests (names.Remove m) = m.asked
name_rests (names.Rename m) = pair_rests m.pair
name_rests (names.Link m) = pair_rests m.pair
name_rests (names.SymLink m) = visit_rests m.visit
name_rests (names.List m) = visit_rests m.visit

-- a truncate waits for the reply to its SETATTR
abbrev pub truncate_rests : Truncating → Bool
truncate_rests (truncatings.Asked file upto) = true
truncate_rests state = false
