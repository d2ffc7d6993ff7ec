-- What a run comes to, and all that its core shows.
use Rattle.std.specs.Prelude.{ℕ, List, Option}
use Rattle.world_model.specs.declared.entry.Entry.{Entry}
use Rattle.nfs_script.specs.declared.script.ScriptLine.{ScriptLine}
use Rattle.session_words.specs.declared.settings.Settings.{Settings}
use Rattle.session_setup.specs.declared.opening.SetUp.{SetUp}
use Rattle.script_runs.specs.LaneRuns.{SessionBy}
use Rattle.script_runs.specs.Run.{RunOf, RunWith}
use Rattle.nfs_client.specs.Shown.{RunShows}

-- a session that was set up shows what its core does
abbrev pub Shows : Settings → List ScriptLine → ℕ → SetUp → List Entry → List Entry → Type 0
Shows s lines first v before h = RunShows s first v before h

-- The run of these words, whose source had this left, ended so; the clock gave these readings, and the history is what the link tells.
abbrev pub RunIs : List ℕ → List (List ℕ) → Option (List ℕ) → List Entry → ℕ → List ℕ → Type 0
RunIs given words left h status text = RunOf (SessionBy Shows) given words left h status text

-- The same by these settings, whatever words gave them.
abbrev pub RunsWith : List ℕ → Settings → Option (List ℕ) → List Entry → ℕ → List ℕ → Type 0
RunsWith given s left h status text = RunWith (SessionBy Shows) given s left h status text
