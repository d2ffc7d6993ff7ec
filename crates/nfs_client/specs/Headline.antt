-- What a session promises, in the words of the model alone.
use Rattle.std.specs.Prelude.{◌≡◌, ℕ, List, []}
use Rattle.world_model.specs.declared.entry.Entry.{Entry}
use Rattle.world_model.specs.Follows.{Follows}
use Rattle.world_model.specs.Fresh.{Fresh}
use Rattle.world_model.specs.History.{History}
use Rattle.world_model.specs.LanesTogether.{LanesTogether}
use Rattle.world_model.specs.Lawful.{Lawful}
use Rattle.world_model.specs.Once.{Once}
use Rattle.world_model.specs.Rising.{Rising}
use Rattle.claims.specs.Caused.{Caused}
use Rattle.claims.specs.Complete.{Completes}
use Rattle.claims.specs.Cuts.{CutsStay}
use Rattle.claims.specs.ReadTrue.{ReadCurrent, ReadShort, ReadTrue}
use Rattle.claims.specs.Recent.{AttrAge, ListTrue, NamesTrue}
use Rattle.claims.specs.Settled.{Evident, Settled}
use Rattle.claims.specs.Thrifty.{Thrifty}
use Rattle.link_dials.specs.Sendings.{GoesToPorts, Resends}
use Rattle.nfs_script.specs.declared.script.ScriptLine.{ScriptLine}
use Rattle.session_words.specs.declared.settings.Settings.{Settings}
use Rattle.session_setup.specs.Origins.{origin_of, modes_of, terms_by}
use Rattle.lane_session.specs.Endings.{entries_of}
use Rattle.script_runs.specs.Ends.{EndsSo, IsClocked}

-- Of the history with the server at each of its moments. An honest server executes calls as RFC 1813 says (`Lawful`), and none anew once its reply
-- came (`Once`). It gives each change stamps that the object never had (`Fresh`).
pub record Promises (s : Settings) (first : ℕ) (t : History) : Type 0 where
  pub completes : Completes (terms_by s first) t
  pub settled : Lawful t → Once t.entries → Settled (modes_of s) (origin_of s.export) t
  pub cuts_stay : Lawful t → Once t.entries → CutsStay (modes_of s) (origin_of s.export) t
  pub read_true : Lawful t → Once t.entries → Fresh t → ReadTrue (modes_of s) (origin_of s.export) t
  pub read_short : Lawful t → Once t.entries → Fresh t → ReadShort (modes_of s) (origin_of s.export) t
  pub read_current : Lawful t → Fresh t → ReadCurrent (modes_of s) (origin_of s.export) t
  pub names_true : Lawful t → Fresh t → NamesTrue (modes_of s) (origin_of s.export) t
  pub attr_age : Lawful t → Fresh t → AttrAge (modes_of s) (origin_of s.export) t
  pub list_true : Lawful t → Fresh t → Rising t → ListTrue (modes_of s) (origin_of s.export) t

-- A session of these lines, by these settings. The clock gave these readings, the history is what the link tells, and the text is what was written.
pub record Headline (s : Settings) (lines : List ScriptLine) (given : List ℕ) (h : List Entry) (status : ℕ) (text : List ℕ) : Type 0 where
  pub first : ℕ
  pub idle : lines ≡ [] → h ≡ []
  pub follows : Follows (entries_of lines) h
  pub together : LanesTogether (entries_of lines) h
  pub clock : IsClocked status given h
  pub ends : EndsSo s lines h status text
  pub caused : Caused (terms_by s first) (entries_of lines) status h
  pub ports : GoesToPorts s.mount_port s.nfs_port h
  pub resends : Resends h
  pub thrifty : Thrifty (terms_by s first) h
  pub evidence : Evident (modes_of s) (origin_of s.export) h
  pub server : (t : History) → t.entries ≡ h → Promises s first t
