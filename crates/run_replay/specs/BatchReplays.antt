-- What a session of batches over a simulated server promises.
use Rattle.std.specs.Prelude.{ℕ, List, Option}
use Rattle.world_model.specs.declared.entry.Entry.{Entry}
use Rattle.world_model.specs.History.{History}
use Rattle.session_words.specs.declared.settings.Settings.{Settings}
use Rattle.batch_runs.specs.Runs.{RunOf}
use Rattle.run_batches.specs.Headline.{Headline}
use Rattle.run_replay.specs.Replays.{Keeps}

-- A session of batches by these settings, and the history that the world tells.
pub record BatchReplayShows (t : History) (s : Settings) (left : Option (List ℕ)) (given : List ℕ) (h : List Entry) (status : ℕ) (text : List ℕ) : Type 0 where
  pub headline : Headline s left given h status text
  pub keeps : Keeps s headline.first t

-- What is written, and the status, are those of a run of batches, with such a session, of which the world tells.
abbrev pub BatchReplayOf : History → List (List ℕ) → Option (List ℕ) → ℕ → List ℕ → Type 0
BatchReplayOf t words left status text = (given : List ℕ) × RunOf (BatchReplayShows t) given words left t.entries status text
