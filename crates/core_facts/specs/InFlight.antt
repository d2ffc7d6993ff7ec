-- How many calls of an operation wait, as far as the operation knows.
use Rattle.std.specs.Prelude.{◌≡◌, ◌+◌, ◌-◌, ◌==◌, ℕ, Bool, true, false, if◌then◌else◌, List, Option, Some, None, Result}
use Rattle.world_model.specs.declared.answer.Fault.{Fault}
use Rattle.world_model.specs.declared.message.Reply.{Reply}
use Rattle.client_shelf.specs.declared.step.Step.{Step}
use Rattle.client_shelf.specs.declared.step.Step.TheVariants.{Send, Wait, Done}
use Rattle.client_shelf.specs.declared.shelf.Shelf.{Shelf}
use Rattle.client_shelf.specs.declared.turn.Turn.{Turn}
use Rattle.file_ops.specs.declared.close_file.Closing.{Closing}
use Rattle.file_ops.specs.declared.close_file.Closing.TheVariants as closing
use Rattle.file_ops.specs.declared.opening.Opening.{Opening}
use Rattle.file_ops.specs.declared.put_file.Putting.{Putting}
use Rattle.file_ops.specs.declared.put_file.Putting.TheVariants as putting
use Rattle.file_ops.specs.declared.reading.Phase.{Phase}
use Rattle.file_ops.specs.declared.reading.Phase.TheVariants as phases
use Rattle.file_ops.specs.declared.reading.Reading.{Reading}
use Rattle.file_ops.specs.declared.saving.Saving.{Saving}
use Rattle.file_ops.specs.declared.sync_file.Syncing.{Syncing}
use Rattle.file_ops.specs.declared.sync_file.Syncing.TheVariants as syncing
use Rattle.file_ops.specs.declared.truncate_file.Truncating.{Truncating}
use Rattle.file_ops.specs.declared.truncate_file.Truncating.TheVariants as truncating
use Rattle.file_ops.specs.declared.write_file.Writing.{Writing}
use Rattle.file_ops.specs.declared.write_file.Writing.TheVariants as writing
use Rattle.file_ops.specs.Saves.{is_sending}
use Rattle.name_ops.specs.declared.pair.Pair.{Pair}
use Rattle.name_ops.specs.declared.remove_file.Deed.{Deed}
use Rattle.name_ops.specs.declared.remove_file.RemoveFile.{RemoveFile}
use Rattle.name_ops.specs.declared.stat.Stat.{Stat}
use Rattle.name_ops.specs.declared.visit.Visit.{Visit}
use Rattle.name_ops.specs.declared.walk.Walk.{Walk}
use Rattle.name_ops.specs.Walking.{waiting_name}
use Rattle.op_machines.specs.declared.file_machine.FileMachine.{FileMachine}
use Rattle.op_machines.specs.declared.file_machine.FileMachine.TheVariants as files
use Rattle.op_machines.specs.declared.machine.Machine.{Machine}
use Rattle.op_machines.specs.declared.machine.Machine.TheVariants as machines
use Rattle.op_machines.specs.declared.name_machine.NameMachine.{NameMachine}
use Rattle.op_machines.specs.declared.name_machine.NameMachine.TheVariants as names
use Rattle.op_machines.specs.Openers.{file_of}
use Rattle.op_machines.specs.Steps.{Starts, Resumes, Takes}

-- one if it is so
abbrev pub one_if : Bool → ℕ
one_if true = 1
one_if false = 0

-- ---- operations on names

abbrev pub of_name : Option (List ℕ) → ℕ
of_name (Some name) = 1
of_name None = 0

-- a walk waits for one LOOKUP at most
abbrev pub of_walk : Walk → ℕ
of_walk w = of_name (waiting_name w)

-- The call on the object comes after the walk.
abbrev pub visit_by : Bool → ℕ → ℕ
visit_by true walk = 1 - walk
visit_by false walk = walk

abbrev pub of_visit : Visit → ℕ
of_visit v = visit_by v.asked (of_walk v.walk)

-- The second walk comes after the first, and the call on the objects after both.
abbrev pub pair_by : Bool → Bool → Bool → ℕ → ℕ → ℕ
pair_by true first second one two = 1
pair_by false true true one two = 0
pair_by false true false one two = one
pair_by false false second one two = two

abbrev pub of_pair : Pair → ℕ
of_pair p = pair_by p.asked p.first.asked p.second.asked (of_walk p.first) (of_walk p.second)

-- whether it waits for a call of its own, and else for one of its walk
abbrev pub own_or : Bool → ℕ → ℕ
own_or true walk = 1
own_or false walk = walk

abbrev pub of_stat : Stat → ℕ
of_stat m = own_or m.asked (of_walk m.walk)

abbrev pub removal_by : Option Deed → Bool → ℕ → ℕ
removal_by None asked walk = walk
removal_by (Some deed) asked walk = one_if asked

abbrev pub of_removal : RemoveFile → ℕ
of_removal m = removal_by m.deed m.asked (of_walk m.walk)

abbrev pub of_names : NameMachine → ℕ
of_names (names.Change m) = of_visit m.visit
of_names (names.Stat m) = of_stat m
of_names (names.Access m) = of_visit m.visit
of_names (names.ReadLink m) = of_visit m.visit
of_names (names.Remove m) = of_removal m
of_names (names.Rename m) = of_pair m.pair
of_names (names.Link m) = of_pair m.pair
of_names (names.SymLink m) = of_visit m.visit
of_names (names.List m) = of_visit m.visit

-- ---- operations on files

abbrev pub of_opening : Opening → ℕ
of_opening o = one_if o.asked

abbrev pub of_phase : Phase → ℕ
of_phase phases.Attrs = 0
of_phase phases.AskedAttrs = 1
of_phase phases.Pages = 0
of_phase phases.Rest = 0
of_phase (phases.Asked count) = 1
of_phase phases.Ended = 0

abbrev pub of_reading : Option Reading → ℕ
of_reading None = 0
of_reading (Some reading) = of_phase reading.phase

-- Several WRITEs of a save may wait, but one COMMIT alone.
abbrev pub of_saving : Saving → ℕ
of_saving s = if is_sending s.phase then s.waiting else if s.waiting == 1 then 1 else 0

abbrev pub of_writing : Writing → ℕ
of_writing writing.Idle = 0
of_writing (writing.Room file saving) = of_saving saving

abbrev pub of_syncing : Syncing → ℕ
of_syncing syncing.Idle = 0
of_syncing (syncing.Saves saving) = of_saving saving

abbrev pub of_closing : Closing → ℕ
of_closing closing.Idle = 0
of_closing (closing.Queued saving) = 0
of_closing (closing.Saves saving) = of_saving saving
of_closing (closing.ToRemove removal) = 0
of_closing (closing.Removing removal) = 1

abbrev pub of_truncating : Truncating → ℕ
of_truncating truncating.Idle = 0
of_truncating (truncating.Queued file upto) = 0
of_truncating (truncating.Asked file upto) = 1

abbrev pub of_putting : Putting → Opening → Writing → ℕ
of_putting putting.Idle opening write = 0
of_putting putting.Opens opening write = of_opening opening
of_putting (putting.Adds file) opening write = of_writing write
of_putting (putting.Saves saving) opening write = of_saving saving

abbrev pub of_file : FileMachine → ℕ
of_file (files.Open m) = of_opening m.opening
of_file (files.Read m) = of_reading m.reading
of_file (files.Write m) = of_writing m.state
of_file (files.Sync m) = of_syncing m.state
of_file (files.Close m) = of_closing m.state
of_file (files.Truncate m) = of_truncating m.state
of_file (files.Put m) = of_putting m.state m.opening m.write.state

-- ---- any operation

-- before its walk has come to its end, and then
abbrev pub path_by : Bool → ℕ → ℕ → ℕ
path_by true walk file = file
path_by false walk file = walk

abbrev pub in_flight : Machine → ℕ
in_flight (machines.File m) = of_file m
in_flight (machines.Path m) = path_by m.arrived (of_walk m.walk) (of_file (file_of m.opener))
in_flight (machines.Name m) = of_names m

-- No call was made for it: so it begins.
abbrev pub FileUnbegun : FileMachine → Type 0
FileUnbegun (files.Put m) = m.opening.asked ≡ false
FileUnbegun m = of_file m ≡ 0

abbrev pub IsUnbegun : Machine → Type 0
IsUnbegun (machines.File m) = FileUnbegun m
IsUnbegun machine = in_flight machine ≡ 0

-- A close that waits for its turn has made no call.
abbrev pub ClosingCounted : Closing → Type 0
ClosingCounted closing.Idle = Unit {0}
ClosingCounted (closing.Queued saving) = of_saving saving ≡ 0
ClosingCounted (closing.Saves saving) = Unit {0}
ClosingCounted (closing.ToRemove removal) = Unit {0}
ClosingCounted (closing.Removing removal) = Unit {0}

abbrev pub FileCounted : FileMachine → Type 0
FileCounted (files.Close m) = ClosingCounted m.state
FileCounted m = Unit {0}

abbrev pub IsCounted : Machine → Type 0
IsCounted (machines.File m) = FileCounted m
IsCounted machine = Unit {0}

-- ---- how they are counted

-- A step before which so many calls wait, and after it so many: one that asks for a call adds it, and an operation ends only if none
-- waits. P holds as long as it goes on.
abbrev pub Leaves : Step → ℕ → ℕ → Type 0 → Type 0
Leaves (Send call) before after P = (after ≡ before + 1) × P
Leaves Wait before after P = (after ≡ before) × P
Leaves (Done answer) before after P = before ≡ 0

abbrev pub Counts : Step → ℕ → Machine → Type 0
Counts next before new = Leaves next before (in_flight new) (IsCounted new)

-- Each operation knows how many of its calls wait: none before its first step, and one less once what came of one is taken.
pub record CountsCalls : Type 0 where
  pub start : (wsize : ℕ) (machine : Machine) (turn : Turn) (old : Shelf) (next : Step) (new : Machine) (after : Shelf)
      → Starts wsize machine turn old next new after → IsUnbegun machine → Counts next 0 new
  pub resume : (wsize : ℕ) (machine : Machine) (turn : Turn) (old : Shelf) (next : Step) (new : Machine) (after : Shelf)
      → Resumes wsize machine turn old next new after → IsCounted machine → Counts next (in_flight machine) new
  pub take : (wsize : ℕ) (machine : Machine) (sent turn : Turn) (came : Result Reply Fault) (old : Shelf) (next : Step) (new : Machine) (after : Shelf)
      (others : ℕ)
      → Takes wsize machine sent turn came old next new after → IsCounted machine → in_flight machine ≡ others + 1 → Counts next others new
