-- What a session of scripts that are asked for promises, in the words of the model alone: what one of a single script does, of the lines of all its scripts.
use Rattle.std.specs.Prelude.{◌≡◌, ℕ, List, All}
use Rattle.world_model.specs.declared.entry.Entry.{Entry}
use Rattle.world_model.specs.History.{History}
use Rattle.claims.specs.Caused.{Caused}
use Rattle.claims.specs.Settled.{Evident}
use Rattle.claims.specs.Thrifty.{Thrifty}
use Rattle.link_dials.specs.Sendings.{GoesToPorts, Resends}
use Rattle.nfs_script.specs.declared.script.ScriptLine.{ScriptLine}
use Rattle.nfs_script.specs.Asked.{IsAskedLine}
use Rattle.session_words.specs.declared.settings.Settings.{Settings}
use Rattle.session_setup.specs.declared.opening.SetUp.{SetUp}
use Rattle.session_setup.specs.Origins.{modes_of, origin_of, terms_by}
use Rattle.lane_session.specs.Endings.{EndsAs, entries_of}
use Rattle.nfs_client.specs.Headline.{Promises}

-- A session by these settings that was set up with the history before, and the lines of all its scripts. An `ok` of a sync in one script makes stable what
-- another one wrote.
pub record Promised (s : Settings) (lines : List ScriptLine) (first : ℕ) (v : SetUp) (before h : List Entry) : Type 0 where
  pub asked : All IsAskedLine lines
  pub caused : (answers : ℕ) → EndsAs lines h answers → Caused (terms_by s first) (entries_of lines) answers h
  pub ports : GoesToPorts s.mount_port s.nfs_port h
  pub resends : Resends h
  pub thrifty : Thrifty (terms_by s first) h
  pub evidence : Evident (modes_of s) (origin_of s.export) h
  pub server : (t : History) → t.entries ≡ h → Promises s first t
