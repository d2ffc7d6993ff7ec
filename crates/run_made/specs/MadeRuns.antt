-- What a run of a script that was made promises.
use Rattle.std.specs.Prelude.{◌≡◌, ◌==◌, ◌||◌, ℕ, Bool, List, Some, if◌then◌else◌}
use Rattle.world_model.specs.declared.entry.Entry.{Entry}
use Rattle.nfs_script.specs.declared.script.ScriptLine.{ScriptLine}
use Rattle.session_words.specs.declared.settings.Settings.{Settings}
use Rattle.made_script.specs.Made.{made_text}
use Rattle.made_script.specs.Summaries.{summary_text}
use Rattle.script_runs.specs.LaneRuns.{SessionBy}
use Rattle.script_runs.specs.Run.{IsCutOff, RunOf}
use Rattle.nfs_client.specs.Run.{Shows}
use Rattle.world_model.specs.Follows.{IsFront}

-- each operation succeeded, one was refused, or the link was lost
abbrev pub is_summed : ℕ → Bool
is_summed ran = (ran == 0) || (ran == 1) || (ran == 6)

-- what is written of a run that ended so, with this text: the summary of its answers, else the text
abbrev pub said_of : ℕ → List ℕ → List ℕ
said_of ran text = if is_summed ran then summary_text text else text

-- All of it was written, and the status is that of the run; or a front of it was, if the sink failed or memory ran out. A run
-- that memory ended stays one.
pub data Tells (whole : List ℕ) (ran status : ℕ) (said : List ℕ) : Type 0 where
  told : status ≡ ran → said ≡ whole → Tells whole ran status said
  cut : IsCutOff status → (ran ≡ 7 → status ≡ 7) → IsFront said whole → Tells whole ran status said

-- The run of the script that was made wrote a text and ended in a status. Both are by the history h, with a session that is so; of these it was told. So
-- the history is one of a run that ends in the status here.
pub record MadeRunOf (Is : Settings → List ScriptLine → List ℕ → List Entry → ℕ → List ℕ → Type 0) (given : List ℕ) (words : List (List ℕ)) (n : ℕ)
    (h : List Entry) (status : ℕ) (said : List ℕ) : Type 0 where
  pub text : List ℕ
  pub ran : ℕ
  pub runs : RunOf Is given words (Some (made_text n)) h ran text
  pub tells : Tells (said_of ran text) ran status said
  pub ends : RunOf Is given words (Some (made_text n)) h status text

-- a session that was set up shows what its core does
abbrev pub MadeRunIs : List ℕ → List (List ℕ) → ℕ → List Entry → ℕ → List ℕ → Type 0
MadeRunIs given words n h status said = MadeRunOf (SessionBy Shows) given words n h status said
