-- Scripts one after another in one session.
use Rattle.std.specs.Prelude.{◌≡◌, ◌≢◌, ◌≤◌, ◌⊎◌, ℕ, List, [], ◌∷◌, All, length, Option, Some, None, Result, Ok, Err}
use Rattle.xdr_codec.specs.declared.blob.Memory.{Memory}
use Rattle.world_model.specs.declared.entry.Entry.{Entry}
use Rattle.world_model.specs.History.{History}
use Rattle.world_model.specs.Told.{Relates}
use Rattle.outside.specs.Views.{SinkView}
use Rattle.op_machines.specs.declared.begun.Mounted.{Mounted}
use Rattle.nfs_script.specs.declared.script.ScriptLine.{ScriptLine}
use Rattle.nfs_script.specs.Asked.{IsAskedLine}
use Rattle.session_words.specs.declared.settings.Settings.{Settings}
use Rattle.client_core.specs.declared.setup.Setup.{Setup}
use Rattle.lane_session.specs.declared.halt.Halt.{Halt}
use Rattle.lane_session.specs.declared.running.Session.{Session}
use Rattle.lane_session.specs.Bonds.{Bonded, HasCore, Start}
use Rattle.lane_session.specs.Going.{CutsOff, Goes, GoesOn}
use Rattle.lane_session.specs.Running.{mounted_by}
use Rattle.lane_session.specs.Streams.{Reads}
use Rattle.script_runs.specs.Scripts.{IsOver, StandsBefore}
use Rattle.asked_runs.specs.Asking.{Round}
use Rattle.asked_runs.specs.Runs.{SessionOf, lines_of, rounds_of}
use Rattle.asked_runs.specs.Statuses.{ended_with}

-- The clock was read, and what the link tells went on: and so it is of the readings and of the history before and after.
abbrev pub Shows : Option (List ℕ) → Option (List ℕ) → Option History → Option History → (List ℕ → List Entry → List Entry → Type 0) → Type 0
Shows read_old read_new told_old told_new R = Reads read_old read_new (λ given. Relates told_old told_new (R given))

-- the first call for a script gave this one
abbrev pub first_round : List ScriptLine → List Round
first_round script = record { answers = []; status = 0; script = Some script } ∷ []

-- ---- one script

-- The lines of a script were run, and these lines were written of their answers.
pub record RunsWhole (script : List ScriptLine) (old new : Session) (answers given : List ℕ) (h k : List Entry) : Type 0 where
  pub goes : GoesOn [] script old new given answers h k
  pub over : IsOver script new

-- The run was cut off in the lines of a script, or before them.
pub record IsCut (script : List ScriptLine) (old : Session) (given : List ℕ) (h k : List Entry) : Type 0 where
  pub halt : Halt
  pub text : List ℕ
  pub cuts : CutsOff [] script old halt given text h k

abbrev pub RunsScript : List ScriptLine → Session → Session → Result SinkView Memory → List ℕ → List Entry → List Entry → Type 0
RunsScript script old new (Ok answers) given h k = RunsWhole script old new answers.written given h k
RunsScript script old new (Err e) given h k = IsCut script old given h k

-- ---- what comes behind it

-- The session isn't lost, and stands before the lines of the next script. Or it is lost.
abbrev pub GoesOver : List ScriptLine → List ScriptLine → Session → Session → Result (Option (List ScriptLine)) Memory → Type 0
GoesOver script next old new (Ok (Some now)) = (now ≡ next) × (old.status ≢ 6) × StandsBefore script next old new
GoesOver script next old new (Ok None) = (old.status ≡ 6) × (new ≡ old)
GoesOver script next old new (Err e) = Unit {0}

-- The next script was asked for, and the session stands before its lines. Or there is none, or the session is lost.
abbrev pub FindsNext : (Round → Type 0) → List ScriptLine → List ℕ → Session → Session → Result (Option (List ScriptLine)) Memory → Type 0
FindsNext Asks script answers old new (Ok (Some next)) =
    Asks (record { answers = answers; status = old.status; script = Some next }) × (old.status ≢ 6) × StandsBefore script next old new
FindsNext Asks script answers old new (Ok None) =
    (new ≡ old) × ((old.status ≡ 6) ⊎ Asks (record { answers = answers; status = old.status; script = None }))
FindsNext Asks script answers old new (Err e) = Unit {0}

-- A script was run, and then it went on so.
pub record RunsOn (Asks : Round → Type 0) (script : List ScriptLine) (old new : Session) (result : Result (Option (List ScriptLine)) Memory) (given : List ℕ)
    (h k : List Entry) : Type 0 where
  pub mid : Session
  pub answers : List ℕ
  pub runs : RunsWhole script old mid answers given h k
  pub finds : FindsNext Asks script answers mid new result

-- the same; or the run was cut off in it
abbrev pub RunsNext : (Round → Type 0) → List ScriptLine → Session → Session → Result (Option (List ScriptLine)) Memory → List ℕ → List Entry → List Entry
    → Type 0
RunsNext Asks script old new (Ok next) given h k = RunsOn Asks script old new (Ok next) given h k
RunsNext Asks script old new (Err e) given h k = IsCut script old given h k ⊎ RunsOn Asks script old new (Err e) given h k

-- ---- all scripts

-- The scripts of a session, each of which was asked for; and a core goes with the whole history.
pub record RunsTo (Asked : List Round → Type 0) (m : Mounted) (setup : Setup) (from : List Entry) (result : Result ℕ Memory) (given : List ℕ)
    (h k : List Entry) : Type 0 where
  pub session : SessionOf given h k (ended_with result)
  pub asked : ended_with result ≤ 1 → Asked (rounds_of [] 0 session.parts)
  pub may : All IsAskedLine (lines_of session)
  pub core : HasCore m setup from k

-- A session stands before the lines of the first script, and goes with the history.
abbrev pub RunsIn : (List Round → Type 0) → List ScriptLine → Session → Result ℕ Memory → List ℕ → List Entry → List Entry → Type 0
RunsIn Asked first session result given h k =
    (m : Mounted) (setup : Setup) (start : Start) → Goes [] (length h) first h session → Bonded m setup start h session
    → RunsTo Asked m setup start.from result given h k

-- the same over a set-up
abbrev pub RunsOver : (List Round → Type 0) → Settings → Setup → Result ℕ Memory → List ℕ → List Entry → List Entry → Type 0
RunsOver Asked s setup result given h k = RunsTo Asked (mounted_by s setup) setup h result given h k
