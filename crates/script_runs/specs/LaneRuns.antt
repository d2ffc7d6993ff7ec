-- A session: what its set-up came to, and then what came of its lines.
use Rattle.std.specs.Prelude.{◌≡◌, ◌≢◌, ◌⊎◌, ℕ, List, [], ◌∷◌, All, length, Option, Ok, Err}
use Rattle.world_model.specs.declared.answer.Fault.{Fault}
use Rattle.world_model.specs.declared.entry.Entry.{Entry}
use Rattle.world_model.specs.declared.tally.Tally.{Tally}
use Rattle.world_model.specs.Counts.{tally_of}
use Rattle.world_model.specs.Lost.{IsLost}
use Rattle.link_dials.specs.Dials.{Dials}
use Rattle.nfs_script.specs.declared.script.ScriptLine.{ScriptLine}
use Rattle.nfs_script.specs.Asked.{IsAskedLine}
use Rattle.session_words.specs.declared.settings.Settings.{Settings}
use Rattle.client_core.specs.declared.setup.Setup.{Setup}
use Rattle.session_setup.specs.declared.opening.SetUp.{SetUp}
use Rattle.session_setup.specs.declared.opening.SetUpFault.TheVariants.{Refused, Lost, Memory}
use Rattle.session_setup.specs.Outcomes.{FitsSession, SetsUp}
use Rattle.lane_session.specs.Bonds.{HasCore}
use Rattle.lane_session.specs.Losing.{LosesOnly}
use Rattle.lane_session.specs.Running.{mounted_by}
use Rattle.lane_session.specs.Sessions.{SessionIs}
use Rattle.lane_session.specs.Endings.{TextOf}
use Rattle.lane_session.specs.Statuses.{IsCutOff}
use Rattle.script_runs.specs.Ends.{TellsMount}
use Rattle.script_runs.specs.Run.{IsFirst, RunFrom, RunOf, RunWith}
use Rattle.script_runs.specs.declared.stock.Stock.{Stock}
use Rattle.script_runs.specs.Stock.{nothing_stored, setup_with}

-- what the core goes by after its set-up, of a session that begins with no pages
abbrev pub setup_of : Settings → SetUp → Setup
setup_of s v = setup_with nothing_stored s v

-- Of a session that was set up with the history before: a core goes with the whole history, which was so set up, and began with the pages of the stock that fit
-- its root; each line of its script may be run; and after the set-up only the port of NFS is dialed.
pub record LeavesOver (stock : Stock) (s : Settings) (lines : List ScriptLine) (first : ℕ) (v : SetUp) (before h : List Entry) : Type 0 where
  pub fits : FitsSession s first v
  pub asked : All IsAskedLine lines
  pub core : HasCore (mounted_by s (setup_with stock s v)) (setup_with stock s v) before h
  pub dials : Dials s.nfs_port before h

-- the same if no pages are kept
abbrev pub Leaves : Settings → List ScriptLine → ℕ → SetUp → List Entry → List Entry → Type 0
Leaves s lines first v before h = LeavesOver nothing_stored s lines first v before h

-- no session was set up
abbrev pub NoCore : Settings → List ScriptLine → ℕ → SetUp → List Entry → List Entry → Type 0
NoCore s lines first v before h = ⊥

-- The session was set up with the history before, its lines were run, and this is so of the whole history. Or it was lost in its set-up: then each line is
-- answered so, and nothing is sent. Or the mount was refused, or memory ran out, and no line began. The counts are those of the whole history.
pub data SetUpAndRun (R : Settings → List ScriptLine → ℕ → SetUp → List Entry → List Entry → Type 0) (s : Settings) (lines : List ScriptLine) (first : ℕ)
    (given : List ℕ) (h : List Entry) (status : ℕ) (text : List ℕ) : Type 0 where
  ready : (v : SetUp) (before : List Entry) → SetsUp s first (Ok v) before → SessionIs s.count lines given before h status text
      → R s lines first v before h → TextOf s.count (tally_of h) h status text → SetUpAndRun R s lines first given h status text
  lost : (tally : Tally) (before : List Entry) → SetsUp s first (Err (Lost tally)) before → SessionIs s.count lines given before h status text
      → LosesOnly lines before h → IsLost h (length h) → TextOf s.count (tally_of h) h status text → SetUpAndRun R s lines first given h status text
  refused : (fault : Fault) → given ≡ [] → SetsUp s first (Err (Refused fault)) h → TellsMount fault status text
      → SetUpAndRun R s lines first given h status text
  unready : given ≡ [] → SetsUp s first (Err Memory) h → status ≡ 7 → text ≡ [] → SetUpAndRun R s lines first given h status text

-- A session of these lines that began with the history before. Without lines no call is made, and nothing is noted; else the first reading of the clock, for
-- the first xid, isn't noted.
pub data SessionFrom (R : Settings → List ScriptLine → ℕ → SetUp → List Entry → List Entry → Type 0) (s : Settings) (lines : List ScriptLine) (given : List ℕ)
    (before h : List Entry) (status : ℕ) (text : List ℕ) : Type 0 where
  no_lines : lines ≡ [] → h ≡ before → SessionIs s.count [] given before h status text → TextOf s.count (tally_of h) h status text
      → SessionFrom R s lines given before h status text
  some_lines : lines ≢ [] → (ms first : ℕ) (rest : List ℕ) → given ≡ ms ∷ rest → IsFirst given s.xid first
      → SetUpAndRun R s lines first rest h status text → SessionFrom R s lines given before h status text

-- one that began with an empty history
abbrev pub SessionBy : (Settings → List ScriptLine → ℕ → SetUp → List Entry → List Entry → Type 0) → Settings → List ScriptLine → List ℕ → List Entry → ℕ → List ℕ → Type 0
SessionBy R s lines given h status text = SessionFrom R s lines given [] h status text

-- a session ends with one of these: each operation succeeded, or one was refused, the link was lost, the mount was refused, or it was cut off
abbrev pub IsEnding : ℕ → Type 0
IsEnding status = (status ≡ 0) ⊎ (status ≡ 1) ⊎ (status ≡ 6) ⊎ (status ≡ 8) ⊎ IsCutOff status

-- ---- a run

-- what a run comes to that began with the history before and with this stock of pages, and whose session leaves a core behind
abbrev pub LeavesFrom : Stock → List ℕ → Settings → Option (List ℕ) → List Entry → List Entry → ℕ → List ℕ → Type 0
LeavesFrom stock given s left before h status text =
    RunFrom (λ t lines read k ended said. SessionFrom (LeavesOver stock) t lines read before k ended said) given s left before h status text

-- the same without pages, and with an empty history before
abbrev pub RunLeaves : List ℕ → List (List ℕ) → Option (List ℕ) → List Entry → ℕ → List ℕ → Type 0
RunLeaves given words left h status text = RunOf (SessionBy Leaves) given words left h status text

abbrev pub LeavesWith : List ℕ → Settings → Option (List ℕ) → List Entry → ℕ → List ℕ → Type 0
LeavesWith given s left h status text = RunWith (SessionBy Leaves) given s left h status text
