-- What a session comes to whose scripts are asked for as it goes on.
use Rattle.std.specs.Prelude.{◌≡◌, ◌≢◌, ◌≤◌, ◌⊎◌, ℕ, List, [], ◌∷◌, ◌++◌, length, Some, None, Ok, Err}
use Rattle.world_model.specs.declared.answer.Fault.{Fault}
use Rattle.world_model.specs.declared.entry.Entry.{Entry}
use Rattle.world_model.specs.declared.tally.Tally.{Tally}
use Rattle.world_model.specs.Follows.{Finishes, Follows}
use Rattle.world_model.specs.Transcript.{transcript}
use Rattle.nfs_script.specs.declared.script.ScriptLine.{ScriptLine}
use Rattle.session_words.specs.declared.settings.Settings.{Settings}
use Rattle.session_setup.specs.declared.opening.SetUp.{SetUp}
use Rattle.session_setup.specs.declared.opening.SetUpFault.TheVariants.{Refused, Lost, Memory}
use Rattle.session_setup.specs.Outcomes.{SetsUp}
use Rattle.lane_session.specs.Endings.{NotesAll, entries_of}
use Rattle.lane_session.specs.Going.{AllTimed}
use Rattle.lane_session.specs.Statuses.{HasStatus}
use Rattle.lane_session.specs.TogetherFrom.{TogetherFrom}
use Rattle.script_runs.specs.Run.{IsFirst}
use Rattle.asked_runs.specs.Asking.{Round}
use Rattle.asked_runs.specs.Statuses.{IsEnding}

-- A script that was run: its lines, what the history got by it, and its status.
pub record Part : Type 0 where
  pub lines : List ScriptLine
  pub entries : List Entry
  pub status : ℕ

abbrev pub lines_in : List Part → List ScriptLine
lines_in [] = []
lines_in (p ∷ ps) = p.lines ++ lines_in ps

abbrev pub entries_in : List Part → List Entry
entries_in [] = []
entries_in (p ∷ ps) = p.entries ++ entries_in ps

-- at none of them the session was lost
abbrev pub AreKept : List Part → Type 0
AreKept [] = Unit {0}
AreKept (p ∷ ps) = (p.status ≢ 6) × AreKept ps

-- the status of the last one; without any it is this one
abbrev pub last_status : ℕ → List Part → ℕ
last_status status [] = status
last_status status (p ∷ ps) = last_status p.status ps

-- The calls for these scripts, one after another, and the one at which there was none. At the first of them these answers were shown, with this status; at each
-- other one the lines of the answers to the script before.
abbrev pub rounds_of : List ℕ → ℕ → List Part → List Round
rounds_of answers status [] = record { answers = answers; status = status; script = None } ∷ []
rounds_of answers status (p ∷ ps) = record { answers = answers; status = status; script = Some p.lines } ∷ rounds_of (transcript p.entries) p.status ps

-- After the history and the lines that were run before it, each line of the script was begun and answered; its lanes ran together; and its status is that of
-- its own answers.
pub record PartIs (h : List Entry) (done : List ScriptLine) (p : Part) : Type 0 where
  pub finishes : Finishes (entries_of (done ++ p.lines)) (h ++ p.entries)
  pub together : TogetherFrom (length h) (entries_of p.lines) (h ++ p.entries)
  pub status : HasStatus p.entries p.status

-- scripts one after another, after the history and after the lines that were run before them
abbrev pub ArePartsFrom : List Entry → List ScriptLine → List Part → Type 0
ArePartsFrom h done [] = Unit {0}
ArePartsFrom h done (p ∷ ps) = PartIs h done p × ArePartsFrom (h ++ p.entries) (done ++ p.lines) ps

-- Scripts were run one after another, before which the set-up left the history; and at 7 perhaps one more was begun, in which the session was cut off. At 6
-- an answer to the last of them was that the session is lost, and at 0 and 1 none of any was.
pub record SessionOf (given : List ℕ) (before h : List Entry) (status : ℕ) : Type 0 where
  pub parts : List Part
  pub rest : List ScriptLine
  pub last : List Entry
  pub are : ArePartsFrom before [] parts
  pub history : h ≡ before ++ (entries_in parts ++ last)
  pub whole : status ≢ 7 → (rest ≡ []) × (last ≡ [])
  pub lost : status ≡ 6 → last_status 0 parts ≡ 6
  pub kept : status ≤ 1 → AreKept parts
  pub ending : IsEnding status
  pub follows : Follows (entries_of (lines_in parts ++ rest)) h
  pub clock : NotesAll status given before h
  pub timed : AllTimed h

abbrev pub lines_of : {given : List ℕ} {before h : List Entry} {status : ℕ} → SessionOf given before h status → List ScriptLine
lines_of session = lines_in session.parts ++ session.rest

-- What a session comes to. `Asked` says of calls for scripts that they were made, up to the one at which there was none; `R` is so of the whole history of a
-- session that was set up. Or there was no script, or the first call for one failed, and the history is empty. Or the session was lost in its set-up, the
-- mount was refused, or memory ran out.
pub data RunsAsked (R : Settings → List ScriptLine → ℕ → SetUp → List Entry → List Entry → Type 0) (Asked : List Round → Type 0) (s : Settings)
    (given : List ℕ) (h : List Entry) (status : ℕ) : Type 0 where
  no_script : h ≡ [] → Asked (rounds_of [] 0 []) → status ≤ 1 → RunsAsked R Asked s given h status
  cut_before : h ≡ [] → status ≡ 7 → RunsAsked R Asked s given h status
  ready : (ms first : ℕ) (later : List ℕ) → given ≡ ms ∷ later → IsFirst given s.xid first → (v : SetUp) (before : List Entry) → SetsUp s first (Ok v) before
      → (session : SessionOf later before h status) → (status ≤ 1 → Asked (rounds_of [] 0 session.parts)) → R s (lines_of session) first v before h
      → RunsAsked R Asked s given h status
  lost : (ms first : ℕ) → given ≡ ms ∷ [] → IsFirst given s.xid first → (tally : Tally) → SetsUp s first (Err (Lost tally)) h → status ≡ 6
      → RunsAsked R Asked s given h status
  refused : (ms first : ℕ) → given ≡ ms ∷ [] → IsFirst given s.xid first → (fault : Fault) → SetsUp s first (Err (Refused fault)) h
      → (status ≡ 8) ⊎ (status ≡ 7) → RunsAsked R Asked s given h status
  unready : (ms first : ℕ) → given ≡ ms ∷ [] → IsFirst given s.xid first → SetsUp s first (Err Memory) h → status ≡ 7 → RunsAsked R Asked s given h status
