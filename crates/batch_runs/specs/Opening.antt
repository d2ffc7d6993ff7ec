-- A set-up, and what comes of the scripts behind it.
use Rattle.std.specs.Prelude.{◌≡◌, ◌⊎◌, ℕ, List, [], ◌∷◌, ◌++◌, length, Option, Result, Ok, Err}
use Rattle.world_model.specs.declared.answer.Fault.{Fault}
use Rattle.world_model.specs.declared.entry.Entry.{Entry}
use Rattle.world_model.specs.declared.tally.Tally.{Tally}
use Rattle.world_model.specs.Lost.{IsLost}
use Rattle.nfs_script.specs.declared.script.ScriptLine.{ScriptLine}
use Rattle.script_batches.specs.Batches.{Read}
use Rattle.session_words.specs.declared.settings.Settings.{Settings}
use Rattle.session_setup.specs.declared.opening.SetUp.{SetUp}
use Rattle.session_setup.specs.declared.opening.SetUpFault.TheVariants.{Lost, Memory, Refused}
use Rattle.session_setup.specs.Outcomes.{SetsUp}
use Rattle.script_runs.specs.Ends.{TellsMount}
use Rattle.script_runs.specs.Run.{IsFirst}
use Rattle.batch_runs.specs.declared.answered.Answered.{Answered}
use Rattle.batch_runs.specs.declared.stop.Stop.{Stop}
use Rattle.batch_runs.specs.Parts.{lines_in}
use Rattle.batch_runs.specs.Running.{LosesScripts, RunsAll, ended_with}

-- a run whose batches could all be read ends with one of these, and if the mount is refused with 8, 5 or 7
abbrev pub IsEnding : ℕ → Type 0
IsEnding status = (status ≡ 0) ⊎ (status ≡ 1) ⊎ (status ≡ 3) ⊎ (status ≡ 6) ⊎ (status ≡ 8) ⊎ (status ≡ 5) ⊎ (status ≡ 7)

-- The session was set up, and all batches from the first one with a line on were run; or it was lost in its set-up; or the mount was refused, or memory ran
-- out.
pub data OpensWith (R : Settings → List ScriptLine → ℕ → SetUp → List Entry → List Entry → Type 0) (s : Settings) (old : Answered)
    (left : Option (List Read)) (given : List ℕ) (h : List Entry) (result : Result ℕ Stop) (text : List ℕ) : Type 0 where
  opened : (ms xid : ℕ) (later : List ℕ) → given ≡ ms ∷ later → IsFirst given s.xid xid → (v : SetUp) (before : List Entry) → SetsUp s xid (Ok v) before
      → (runs : RunsAll s.count old left result later text before h) → R s (lines_in runs.parts ++ runs.rest.lines) xid v before h
      → OpensWith R s old left given h result text
  lost : (ms xid : ℕ) (later : List ℕ) → given ≡ ms ∷ later → IsFirst given s.xid xid → (tally : Tally) (before : List Entry)
      → SetsUp s xid (Err (Lost tally)) before → LosesScripts s.count old left result later text before h → IsLost h (length h)
      → OpensWith R s old left given h result text
  refused : (ms xid : ℕ) → given ≡ ms ∷ [] → IsFirst given s.xid xid → (fault : Fault) → SetsUp s xid (Err (Refused fault)) h
      → TellsMount fault (ended_with result) text → OpensWith R s old left given h result text
  unready : (ms xid : ℕ) → given ≡ ms ∷ [] → IsFirst given s.xid xid → SetsUp s xid (Err Memory) h → ended_with result ≡ 7 → text ≡ []
      → OpensWith R s old left given h result text
