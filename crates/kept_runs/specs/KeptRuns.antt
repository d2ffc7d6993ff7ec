-- What a run of words comes to that began with kept pages.
use Rattle.std.specs.Prelude.{◌≡◌, ℕ, List, Option}
use Rattle.world_model.specs.declared.entry.Entry.{Entry}
use Rattle.world_model.specs.History.{History}
use Rattle.session_words.specs.declared.settings.Settings.{Settings}
use Rattle.session_words.specs.Words.{IsCommand}
use Rattle.script_runs.specs.Run.{Unbegun}
use Rattle.nfs_client.specs.KeptHeadline.{KeptRun}

-- The words gave no settings, or memory ran out, and nothing was begun; or it is the run by the settings that they give.
pub data KeptWords (AreTrue : History → Type 0) (given : List ℕ) (words : List (List ℕ)) (left : Option (List ℕ)) (before h : List Entry) (status : ℕ)
    (text : List ℕ) : Type 0 where
  unread : h ≡ before → Unbegun left status text → KeptWords AreTrue given words left before h status text
  by_words : (s : Settings) → IsCommand words s → KeptRun AreTrue given s left before h status text → KeptWords AreTrue given words left before h status text
