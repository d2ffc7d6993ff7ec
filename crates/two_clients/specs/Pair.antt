-- What a run of two clients promises: of each along its side of the history what one session promises, and of one by the other.
use Rattle.std.specs.Prelude.{◌≡◌, ℕ, List, [], Option, Ok}
use Rattle.world_model.specs.declared.entry.Entry.{Entry}
use Rattle.world_model.specs.Follows.{Follows}
use Rattle.world_model.specs.History.{History}
use Rattle.world_model.specs.LanesTogether.{LanesTogether}
use Rattle.claims.specs.Caused.{Caused}
use Rattle.claims.specs.Settled.{Evident}
use Rattle.claims.specs.Thrifty.{Thrifty}
use Rattle.law_pair.specs.Seen.{ReadsOther}
use Rattle.link_dials.specs.Sendings.{GoesToPorts, Resends}
use Rattle.nfs_script.specs.declared.script.ScriptLine.{ScriptLine}
use Rattle.outside.specs.Pairs.{PairTold, seen_by, side}
use Rattle.session_words.specs.declared.settings.Settings.{Settings}
use Rattle.session_setup.specs.Origins.{origin_of, modes_of, terms_by}
use Rattle.lane_session.specs.Endings.{EndsAs, entries_of}
use Rattle.lane_session.specs.Going.{AllTimed}
use Rattle.script_runs.specs.Run.{IsReadAs}
use Rattle.nfs_client.specs.Headline.{Promises}
use Rattle.pair_runs.specs.Given.{pair_settings}
use Rattle.pair_runs.specs.PairRuns.{NoneBegan, PairClocked, PairText, StatusOf}
use Rattle.two_clients.specs.Sees.{IsHonestTo}

-- What `Headline` says of a session, of the history as one client sees it. It is all but its text and its readings of the clock, which are among those of
-- both. `idle` isn't said, since a client without lines asks for the sizes too. The first xid is this one, and this is the status by the client's own
-- answers.
pub record SideKeeps (s : Settings) (first : ℕ) (lines : List ScriptLine) (status : ℕ) (h : List Entry) : Type 0 where
  pub follows : Follows (entries_of lines) h
  pub together : LanesTogether (entries_of lines) h
  pub timed : AllTimed h
  pub ends : EndsAs lines h status
  pub caused : Caused (terms_by s first) (entries_of lines) status h
  pub ports : GoesToPorts s.mount_port s.nfs_port h
  pub resends : Resends h
  pub thrifty : Thrifty (terms_by s first) h
  pub evidence : Evident (modes_of s) (origin_of s.export) h
  pub server : (t : History) → t.entries ≡ h → Promises s first t

-- Over a server that is honest to both, the reads of one client show what another one made stable before their open began.
abbrev pub PairSees : PairTold → ℕ → ℕ → Type 0
PairSees h writer reader = IsHonestTo writer h → IsHonestTo reader h → ReadsOther (modes_of pair_settings) (origin_of pair_settings.export) h writer reader

-- Each client keeps all this along its side; the status is by the answers of both, and the text and the readings are what the whole history tells.
pub record PairHeadline (first second : List ScriptLine) (given : List ℕ) (h : PairTold) (status : ℕ) (text : List ℕ) : Type 0 where
  pub a : ℕ
  pub b : ℕ
  pub one : SideKeeps pair_settings 1 first a (seen_by 0 h.steps)
  pub other : SideKeeps pair_settings 1073741825 second b (seen_by 1 h.steps)
  pub ends : StatusOf status a b
  pub says : PairText h.steps status text
  pub clocked : PairClocked h.steps status given
  pub sees : PairSees h 0 1
  pub seen : PairSees h 1 0

-- A run of two scripts, whose sources had this left, from a link that had told nothing: nothing was begun, and the history stays empty; or both were run so.
pub data PairIs (given : List ℕ) (left_a left_b : Option (List ℕ)) (h : PairTold) (status : ℕ) (text : List ℕ) : Type 0 where
  none_began : h.steps ≡ [] → given ≡ [] → NoneBegan left_a left_b status text → PairIs given left_a left_b h status text
  both_ran : (first second : List ScriptLine) → IsReadAs left_a (Ok first) → IsReadAs left_b (Ok second) → PairHeadline first second given h status text
      → PairIs given left_a left_b h status text
