-- A range of an open file is read.
use Rattle.std.specs.Prelude.{◌≡◌, ◌⊎◌, ℕ, ◌-◌, Bool, if◌then◌else◌, List, [], Option, None, Some, Result, Ok, Err}
use Rattle.nfs_types.specs.declared.mode.Mode.{Mode}
use Rattle.nfs_types.specs.declared.mode.Mode.TheVariants as modes
use Rattle.open_files.specs.declared.opened.Opened.{Opened}
use Rattle.page_cache.specs.Pages.{Pages}
use Rattle.write_back.specs.Files.{Pending}
use Rattle.world_model.specs.declared.answer.Fault.{Fault}
use Rattle.world_model.specs.declared.answer.Fault.TheVariants as faults
use Rattle.world_model.specs.declared.message.Reply.{Reply}
use Rattle.client_shelf.specs.declared.step.Step.{Step}
use Rattle.client_shelf.specs.declared.step.Step.TheVariants.{Wait}
use Rattle.client_shelf.specs.declared.repeats.Repeat.{Repeat}
use Rattle.client_shelf.specs.declared.turn.Turn.{Turn}
use Rattle.file_ops.specs.declared.reading.Phase.{Phase}
use Rattle.file_ops.specs.declared.reading.Phase.TheVariants as phases
use Rattle.file_ops.specs.declared.reading.Reading.{Reading}
use Rattle.file_ops.specs.declared.read_file.ReadFile.{ReadFile}
use Rattle.file_ops.specs.Base.{nothing_of}
use Rattle.file_ops.specs.Overlaid.{was_pending}
use Rattle.file_ops.specs.Reading.{refused, settled, gone, Goes, Takes, attr_of, repeats_taken, State}
use Rattle.nfs_types.specs.declared.attr.Attr.{Attr}

-- what it does first
abbrev pub first_phase : Bool → Phase
first_phase noac = if noac then phases.Attrs else phases.Pages

-- no byte is read yet, and what is pending now is kept
abbrev pub begun : ℕ → ReadFile → List ℕ → Pending → Reading
begun moment m file back = record {
  file = file;
  offset = m.offset;
  space = m.count;
  rsize = m.rsize;
  moment = moment;
  base = nothing_of m.offset m.count;
  was = was_pending file m.offset m.count back;
  phase = first_phase m.noac;
}

-- A file that is open to be written alone isn't read.
abbrev pub begun_in : Mode → ℕ → ReadFile → List ℕ → Pending → Result Reading Fault
begun_in modes.W moment m file back = Err faults.Mode
begun_in modes.R moment m file back = Ok (begun moment m file back)
begun_in modes.RW moment m file back = Ok (begun moment m file back)
begun_in modes.C moment m file back = Ok (begun moment m file back)
begun_in modes.X moment m file back = Ok (begun moment m file back)

-- nor one that isn't open
abbrev pub begun_at : Option Opened → ℕ → ReadFile → Pending → Result Reading Fault
begun_at None moment m back = Err faults.Slot
begun_at (Some opened) moment m back = begun_in opened.mode moment m opened.file back

-- It begins so, or there is no memory.
abbrev pub Begins : Result Reading Fault → Result Reading Fault → Type 0
Begins (Err fault) result = result ≡ Err fault
Begins (Ok reading) result = (result ≡ Ok reading) ⊎ (result ≡ Err faults.Memory)

-- a step in which nothing changes
pub record StaysSo (m : ReadFile) (pages : Pages) (next to : Step) (new : ReadFile) (later : Pages) : Type 0 where
  pub step : next ≡ to
  pub machine : new ≡ m
  pub kept : later ≡ pages

-- the read goes on from a state
pub record GoesFrom (room : Bool) (m : ReadFile) (back : Pending) (s : State) (next : Step) (new : ReadFile) (later : Pages) : Type 0 where
  pub step : Goes room back s next
  pub machine : new ≡ record m { reading = Some (gone room s).reading }
  pub kept : later ≡ (gone room s).pages

-- what a read that begins comes to
abbrev pub StartsWith : Result Reading Fault → Bool → ReadFile → Pages → Pending → Step → ReadFile → Pages → Type 0
StartsWith (Err fault) room m pages back next new later = StaysSo m pages next (refused fault) new later
StartsWith (Ok reading) room m pages back next new later = GoesFrom room m back (settled reading pages) next new later

-- the first step: there may be no memory to begin
pub record Starts (opened : Option Opened) (turn : Turn) (m : ReadFile) (pages : Pages) (back : Pending) (next : Step) (new : ReadFile)
    (later : Pages) : Type 0 where
  pub reading : Result Reading Fault
  pub begins : Begins (begun_at opened (turn.moment - 1) m back) reading
  pub goes : StartsWith reading turn.room m pages back next new later

-- a step without a reply
abbrev pub ResumesIn : Option Reading → Bool → ReadFile → Pages → Pending → Step → ReadFile → Pages → Type 0
ResumesIn None room m pages back next new later = StaysSo m pages next Wait new later
ResumesIn (Some reading) room m pages back next new later = GoesFrom room m back (settled reading pages) next new later

-- a step with what came of its call
pub record TakesFrom (sent turn : Turn) (reply : Result Reply Fault) (repeats : List Repeat) (m : ReadFile) (reading : Reading) (back : Pending)
    (pages : Pages) (next : Step) (new : ReadFile) (later : Pages) : Type 0 where
  pub state : State
  pub step : Takes sent turn reply repeats reading pages back next state
  pub machine : new ≡ record m { reading = Some state.reading }
  pub kept : later ≡ state.pages

abbrev pub TakesIn : Option Reading → Turn → Turn → Result Reply Fault → List Repeat → ReadFile → Pages → Pending → Step → ReadFile → Pages → Type 0
TakesIn None sent turn reply repeats m pages back next new later = StaysSo m pages next Wait new later
TakesIn (Some reading) sent turn reply repeats m pages back next new later = TakesFrom sent turn reply repeats m reading back pages next new later

-- the file and the attributes that a step with a reply learns, and the calls that are made again then
abbrev pub file_of : Option Reading → List ℕ
file_of None = []
file_of (Some reading) = reading.file

abbrev pub attr_heard : Option Reading → Result Reply Fault → Option Attr
attr_heard None reply = None
attr_heard (Some reading) reply = attr_of reading.phase reply

abbrev pub repeats_heard : Option Reading → Turn → Turn → Result Reply Fault → List Repeat → List Repeat
repeats_heard None sent turn reply repeats = repeats
repeats_heard (Some reading) sent turn reply repeats = repeats_taken reading.phase sent turn reply repeats
