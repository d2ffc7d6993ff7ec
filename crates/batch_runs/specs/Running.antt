-- Scripts one after another in one session.
use Rattle.std.specs.Prelude.{◌≡◌, ◌+◌, ◌⊎◌, ℕ, suc, max, Bool, true, List, [], ◌∷◌, ◌++◌, All, length, map, Option, Some, None, Result, Ok, Err}
use Rattle.world_model.specs.declared.entry.Entry.{Entry}
use Rattle.world_model.specs.declared.tally.Tally.{Tally}
use Rattle.op_machines.specs.declared.begun.Mounted.{Mounted}
use Rattle.world_model.specs.Follows.{Follows}
use Rattle.nfs_script.specs.declared.script.ScriptLine.{ScriptLine}
use Rattle.nfs_script.specs.Asked.{IsAskedLine}
use Rattle.nfs_script.specs.DoneText.{done_text}
use Rattle.script_batches.specs.Batches.{Read}
use Rattle.session_words.specs.declared.settings.Settings.{Settings}
use Rattle.client_core.specs.declared.setup.Setup.{Setup}
use Rattle.lane_session.specs.declared.halt.Halt.{Halt}
use Rattle.lane_session.specs.declared.running.Session.{Session}
use Rattle.lane_session.specs.Bonds.{Bonded, HasCore, Start}
use Rattle.lane_session.specs.Endings.{NotesAll, counts_text, entries_of}
use Rattle.lane_session.specs.Going.{AllTimed, CutsOff, Goes, GoesOn}
use Rattle.lane_session.specs.Losing.{by_lanes, LosesBy, LosesOnly, status_of as status_of_lines}
use Rattle.lane_session.specs.Running.{mounted_by}
use Rattle.lane_session.specs.TogetherFrom.{TogetherFrom}
use Rattle.script_runs.specs.Scripts.{IsOver, StandsBefore}
use Rattle.batch_runs.specs.declared.answered.Answered.{Answered}
use Rattle.batch_runs.specs.declared.stop.Stop.{Stop}
use Rattle.batch_runs.specs.Parts.{ArePartsFrom, Part, RefusedFrom, asked_in, entries_in, lines_in, text_in, worst_in}
use Rattle.batch_runs.specs.Reading.{AnswersOne, FindsScript, StopsAt}
use Rattle.batch_runs.specs.Runs.{EndsBatches, Rest}
use Rattle.batch_runs.specs.Stops.{of_halt, status_of}

-- The lines of a script were run, and then what ends its batch was written, or a front of that.
pub record RunsWhole (count : Bool) (lines : List ScriptLine) (old new : Session) (before after : Answered) (result : Result (Unit {0}) Stop)
    (given text : List ℕ) (h k : List Entry) : Type 0 where
  pub told : List ℕ
  pub ended : List ℕ
  pub text_is : text ≡ told ++ ended
  pub goes : GoesOn [] lines old new given told h k
  pub over : IsOver lines new
  pub answers : AnswersOne new.status (counts_text count new.counts.tally ++ done_text (before.count + 1) new.status) before after result ended

-- The run was cut off in the lines of a script.
pub record IsCut (lines : List ScriptLine) (old : Session) (before after : Answered) (stop : Stop) (given text : List ℕ) (h k : List Entry) : Type 0 where
  pub halt : Halt
  pub stops : stop ≡ of_halt halt
  pub same : after ≡ before
  pub cuts : CutsOff [] lines old halt given text h k

-- The lines of a script were run, and its batch was answered. Or the run was cut off in its lines, or behind them.
abbrev pub RunsOne : Bool → List ScriptLine → Session → Session → Answered → Answered → Result (Unit {0}) Stop
    → List ℕ → List ℕ → List Entry → List Entry → Type 0
RunsOne count lines old new before after (Ok u) given text h k = RunsWhole count lines old new before after (Ok u) given text h k
RunsOne count lines old new before after (Err stop) given text h k =
    IsCut lines old before after stop given text h k ⊎ RunsWhole count lines old new before after (Err stop) given text h k

-- The same of a session that its set-up lost: each line was begun and answered so.
pub record LosesWhole (count : Bool) (lines : List ScriptLine) (tally : Tally) (before after : Answered) (result : Result (Unit {0}) Stop)
    (given text : List ℕ) (h k : List Entry) : Type 0 where
  pub told : List ℕ
  pub ended : List ℕ
  pub text_is : text ≡ told ++ ended
  pub loses : LosesBy [] (by_lanes 16 lines) (Ok tt) given told h k
  pub answers : AnswersOne (status_of_lines lines) (counts_text count tally ++ done_text (before.count + 1) (status_of_lines lines)) before after result ended

pub record IsLostCut (lines : List ScriptLine) (before after : Answered) (stop : Stop) (given text : List ℕ) (h k : List Entry) : Type 0 where
  pub halt : Halt
  pub stops : stop ≡ of_halt halt
  pub same : after ≡ before
  pub loses : LosesBy [] (by_lanes 16 lines) (Err halt) given text h k

abbrev pub LosesOne : Bool → List ScriptLine → Tally → Answered → Answered → Result (Unit {0}) Stop → List ℕ → List ℕ → List Entry → List Entry → Type 0
LosesOne count lines tally before after (Ok u) given text h k = LosesWhole count lines tally before after (Ok u) given text h k
LosesOne count lines tally before after (Err stop) given text h k =
    IsLostCut lines before after stop given text h k ⊎ LosesWhole count lines tally before after (Err stop) given text h k

abbrev pub ended_with : Result ℕ Stop → ℕ
ended_with (Ok status) = status
ended_with (Err stop) = status_of stop

-- a batch in front of those that are left
abbrev pub in_front : Read → Option (List Read) → Option (List Read)
in_front batch None = None
in_front batch (Some left) = Some (batch ∷ left)

-- A batch that asks for these lines was read, and these are left of the input: so is what holds of all of them.
abbrev pub IsRead : List ScriptLine → Option (List Read) → (Option (List Read) → Type 0) → Type 0
IsRead lines left P = (batch : Read) → asked_in batch ≡ Ok lines → P (in_front batch left)

-- the batches that were left, of which this one is the first that is run
abbrev pub FromBatch : Option (List Read) → List Read → Type 0
FromBatch None batches = Unit {0}
FromBatch (Some left) batches = left ≡ batches

-- After so many batches with this worst status, and after the history: the batches that were run or refused, and what is left at the end.
pub record RunsAll (count : Bool) (old : Answered) (left : Option (List Read)) (result : Result ℕ Stop) (given text : List ℕ) (h k : List Entry) : Type 0 where
  pub parts : List Part
  pub rest : Rest
  pub are : ArePartsFrom count old.count h [] parts
  pub read : FromBatch left (map (λ (p : Part). p.read) parts ++ rest.more)
  pub ends : EndsBatches count (suc (old.count + length parts)) (h ++ entries_in parts) (ended_with result) (max old.status (worst_in parts)) rest
  pub history : k ≡ h ++ (entries_in parts ++ rest.entries)
  pub written : text ≡ text_in parts ++ rest.text
  pub follows : Follows (entries_of (lines_in parts ++ rest.lines)) k
  pub together : TogetherFrom (length (h ++ entries_in parts)) (entries_of rest.lines) k
  pub clock : NotesAll (ended_with result) given h k
  pub timed : AllTimed k
  pub asked : All IsAskedLine (lines_in parts ++ rest.lines)

abbrev pub IfNext : List ScriptLine → Result (Option (List ScriptLine)) Stop → Session → Session → Type 0
IfNext script (Ok (Some next)) old new = StandsBefore script next old new
IfNext script (Ok None) old new = Unit {0}
IfNext script (Err stop) old new = Unit {0}

-- The lines of a script were run and its batch was answered. Then batches were refused, and one was read that may be run; or there is none; or it came to an
-- end.
pub record RunsOn (count : Bool) (lines : List ScriptLine) (old new : Session) (before after : Answered) (left rest : Option (List Read))
    (result : Result (Option (List ScriptLine)) Stop) (given text : List ℕ) (h k : List Entry) : Type 0 where
  pub told : List ℕ
  pub ended : List ℕ
  pub text_is : text ≡ told ++ ended
  pub mid : Session
  pub done : Answered
  pub runs : RunsWhole count lines old mid before done (Ok tt) given told h k
  pub finds : FindsScript RefusedFrom StopsAt done after left rest result ended
  pub next : IfNext lines result mid new

-- The same; or the run was cut off in that batch.
abbrev pub RunsNext : Bool → List ScriptLine → Session → Session → Answered → Answered → Option (List Read) → Option (List Read)
    → Result (Option (List ScriptLine)) Stop → List ℕ → List ℕ → List Entry → List Entry → Type 0
RunsNext count lines old new before after left rest (Ok next) given text h k = RunsOn count lines old new before after left rest (Ok next) given text h k
RunsNext count lines old new before after left rest (Err stop) given text h k =
    RunsOn count lines old new before after left rest (Err stop) given text h k
    ⊎ ((left ≡ rest) × RunsOne count lines old new before after (Err stop) given text h k)

-- The same of a session that its set-up lost.
pub record LosesOn (count : Bool) (lines : List ScriptLine) (tally : Tally) (before after : Answered) (left rest : Option (List Read))
    (result : Result (Option (List ScriptLine)) Stop) (given text : List ℕ) (h k : List Entry) : Type 0 where
  pub told : List ℕ
  pub ended : List ℕ
  pub text_is : text ≡ told ++ ended
  pub done : Answered
  pub loses : LosesWhole count lines tally before done (Ok tt) given told h k
  pub finds : FindsScript RefusedFrom StopsAt done after left rest result ended

abbrev pub LosesNext : Bool → List ScriptLine → Tally → Answered → Answered → Option (List Read) → Option (List Read) → Result (Option (List ScriptLine)) Stop
    → List ℕ → List ℕ → List Entry → List Entry → Type 0
LosesNext count lines tally before after left rest (Ok next) given text h k = LosesOn count lines tally before after left rest (Ok next) given text h k
LosesNext count lines tally before after left rest (Err stop) given text h k =
    LosesOn count lines tally before after left rest (Err stop) given text h k
    ⊎ ((left ≡ rest) × LosesOne count lines tally before after (Err stop) given text h k)

-- A session stands before the lines of a script, and a core goes with it, and so with the whole history at the end.
pub record RunsTo (count : Bool) (old : Answered) (left : Option (List Read)) (from : List Entry) (m : Mounted) (setup : Setup) (result : Result ℕ Stop)
    (given text : List ℕ) (h k : List Entry) : Type 0 where
  pub runs : RunsAll count old left result given text h k
  pub core : HasCore m setup from k

abbrev pub RunsIn : Bool → List ScriptLine → Session → Answered → Option (List Read) → Result ℕ Stop → List ℕ → List ℕ → List Entry → List Entry → Type 0
RunsIn count first session old left result given text h k =
    (m : Mounted) (setup : Setup) (start : Start) → start.counted ≡ true → Goes [] (length h) first h session → Bonded m setup start h session
    → RunsTo count old left start.from m setup result given text h k

-- The same over a set-up: a core goes with the whole history.
pub record RunsOver (s : Settings) (setup : Setup) (old : Answered) (left : Option (List Read)) (result : Result ℕ Stop) (given text : List ℕ)
    (h k : List Entry) : Type 0 where
  pub runs : RunsAll s.count old left result given text h k
  pub core : HasCore (mounted_by s setup) setup h k

-- The same of a session that its set-up lost: each line is answered so.
pub record LosesScripts (count : Bool) (old : Answered) (left : Option (List Read)) (result : Result ℕ Stop) (given text : List ℕ)
    (h k : List Entry) : Type 0 where
  pub runs : RunsAll count old left result given text h k
  pub only : LosesOnly (lines_in runs.parts ++ runs.rest.lines) h k
