-- What a session promises that began with pages that earlier sessions kept, in the words of the model.
use Rattle.std.specs.Prelude.{◌≡◌, ℕ, List, [], Option}
use Rattle.world_model.specs.declared.entry.Entry.{Entry}
use Rattle.world_model.specs.Follows.{Follows}
use Rattle.world_model.specs.History.{History}
use Rattle.world_model.specs.LanesTogether.{LanesTogether}
use Rattle.claims.specs.Caused.{Caused}
use Rattle.claims.specs.Complete.{Completes}
use Rattle.claims.specs.Settled.{Evident}
use Rattle.link_dials.specs.Sendings.{GoesToPorts, Resends}
use Rattle.nfs_script.specs.declared.script.ScriptLine.{ScriptLine}
use Rattle.session_words.specs.declared.settings.Settings.{Settings}
use Rattle.session_setup.specs.Origins.{origin_of, modes_of, terms_by}
use Rattle.lane_session.specs.Endings.{entries_of}
use Rattle.script_runs.specs.Ends.{EndsSo, IsClocked}
use Rattle.script_runs.specs.Run.{RunFrom}
use Rattle.nfs_client.specs.Headline.{Promises}

-- A session of these lines, by these settings, that began with kept pages and the history before. All of `Headline` but that kept pages aren't asked for again.
-- What is promised of an honest server asks that these pages are true, in some sense.
pub record KeptHeadline (AreTrue : History → Type 0) (s : Settings) (lines : List ScriptLine) (given : List ℕ) (before h : List Entry) (status : ℕ) (text : List ℕ) : Type 0 where
  pub first : ℕ
  pub idle : lines ≡ [] → h ≡ before
  pub follows : Follows (entries_of lines) h
  pub together : LanesTogether (entries_of lines) h
  pub clock : IsClocked status given h
  pub ends : EndsSo s lines h status text
  pub caused : Caused (terms_by s first) (entries_of lines) status h
  pub ports : GoesToPorts s.mount_port s.nfs_port h
  pub resends : Resends h
  pub evidence : Evident (modes_of s) (origin_of s.export) h
  pub completes : (t : History) → t.entries ≡ h → Completes (terms_by s first) t
  pub server : (t : History) → t.entries ≡ h → AreTrue t → Promises s first t

-- what a run by these settings comes to that began with kept pages and the history before
abbrev pub KeptRun : (History → Type 0) → List ℕ → Settings → Option (List ℕ) → List Entry → List Entry → ℕ → List ℕ → Type 0
KeptRun AreTrue given s left before h status text =
    RunFrom (λ t lines read k ended said. KeptHeadline AreTrue t lines read before k ended said) given s left before h status text
