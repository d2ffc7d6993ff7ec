-- What a session promises whose ports a port mapper tells (RFC 1833, section 3).
use Rattle.std.specs.Prelude.{◌≡◌, ◌≢◌, ◌≤◌, ◌⊎◌, ℕ, List, [], take, Option, None, IfSome, Result, Ok, Err}
use Rattle.world_model.specs.History.{History}
use Rattle.world_model.specs.Told.{Relates}
use Rattle.outside.specs.Causes.{Rose}
use Rattle.session_words.specs.declared.settings.Settings.{Settings}
use Rattle.session_words.specs.Words.{IsCommand}
use Rattle.script_runs.specs.Streams.{script_limit}
use Rattle.script_runs.specs.Readings.{Reads}
use Rattle.script_runs.specs.Run.{IsScript, Refuses, RefusalIs, RunOf, Says}
use Rattle.nfs_client.specs.Headline.{Headline}
use Rattle.nfs_client.specs.Run.{RunIs}
use Rattle.port_finder.specs.declared.finder.Ports.{Ports}
use Rattle.port_finder.specs.declared.finder.PortFault.{PortFault}
use Rattle.port_finder.specs.Does.{Does}
use Rattle.port_finder.specs.Found.{Ported}
use Rattle.port_words.specs.declared.portmap.Portmap.{Portmap}
use Rattle.port_words.specs.Portmaps.{Names, NamesOne, with_ports}
use Rattle.run_ports.specs.Refusals.{Ends}

-- ---- what is seen of the outside

-- the link over which the port mapper is asked: what it tells, and its count of faults
pub record Finder : Type 0 where
  pub told : Option History
  pub faults : ℕ

abbrev pub finder_at : Option History → ℕ → Finder
finder_at told faults = record { told = told; faults = faults }

-- all else that a session goes by: the link to the server, the readings of the clock, what was written, and the counts of faults
pub record Outside : Type 0 where
  pub told : Option History
  pub faults : ℕ
  pub readings : Option (List ℕ)
  pub written : Option (List ℕ)
  pub sink_faults : ℕ
  pub source_faults : ℕ

abbrev pub outside_at : Option History → ℕ → Option (List ℕ) → Option (List ℕ) → ℕ → ℕ → Outside
outside_at told faults readings written sink_faults source_faults = record {
  told = told;
  faults = faults;
  readings = readings;
  written = written;
  sink_faults = sink_faults;
  source_faults = source_faults;
}

-- ---- a run with such words

-- What `nfs_client::run` promises of these words, clause by clause, if the source had this left.
pub record RunsBy (words : List (List ℕ)) (left : Option (List ℕ)) (a b : Outside) (status : ℕ) : Type 0 where
  pub statuses : status ≤ 8
  pub untaken : status ≡ 2 → (s : Settings) → IsCommand words s → ⊥
  pub no_words : ((s : Settings) → IsCommand words s → ⊥) → (status ≡ 2) ⊎ (status ≡ 7)
  pub script : IfSome left (λ l. status ≡ 3 → IsScript (take script_limit l) → ⊥)
  pub unspelled : IfSome left (λ l. (IsScript (take script_limit l) → ⊥) → Refuses status)
  pub unread : (status ≡ 2) ⊎ (status ≡ 4) → Says a.written b.written (λ text. text ≡ [])
  pub refused : status ≡ 3 → Says a.written b.written (RefusalIs left)
  pub source : status ≡ 4 → Rose a.source_faults b.source_faults
  pub sink : status ≡ 5 → Rose a.sink_faults b.sink_faults
  pub headline : Says a.written b.written (λ text. Reads a.readings b.readings (λ given. Relates a.told b.told (λ before h. before ≡ []
      → RunOf Headline given words left h status text)))
  pub shown : Says a.written b.written (λ text. Reads a.readings b.readings (λ given. Relates a.told b.told (λ before h. before ≡ []
      → RunIs given words left h status text)))

-- The other words with the ports that were told are a command line, whose ports are these. A run with them keeps all its promises.
pub record RunsAt (others : List (List ℕ)) (ports : Ports) (left : Option (List ℕ)) (a b : Outside) (status : ℕ) : Type 0 where
  pub settings : Settings
  pub is : IsCommand (with_ports others ports.mount ports.nfs) settings
  pub mount : settings.mount_port ≡ ports.mount
  pub nfs : settings.nfs_port ≡ ports.nfs
  pub runs : RunsBy (with_ports others ports.mount ports.nfs) left a b status
  pub taken : status ≢ 2

-- settings with the ports that were told
abbrev pub at_ports : Settings → Ports → Settings
at_ports s ports = record s { mount_port = ports.mount; nfs_port = ports.nfs }

-- ---- the words

-- the words that are tested: the others with the ports that a session has without any word
abbrev pub usual_words : List (List ℕ) → List (List ℕ)
usual_words others = with_ports others 20048 2049

-- they are a command line
pub record IsTaken (others : List (List ℕ)) : Type 0 where
  pub settings : Settings
  pub is : IsCommand (usual_words others) settings

-- the words name a port mapper, and the others are a command line
pub record IsNamed (words : List (List ℕ)) : Type 0 where
  pub port : ℕ
  pub others : List (List ℕ)
  pub named : NamesOne words port others
  pub taken : IsTaken others

-- ---- the session

-- the port mapper at the port was asked under the xid 1 for ports over TCP, and that came of it
abbrev pub Asked : ℕ → Finder → Finder → Result Ports PortFault → Type 0
Asked port f g result = Does f.told g.told f.faults g.faults (Ported port 1 6 result)

-- Nothing but the line of a refusal was written, and that is all that was done; at 5 the sink failed.
pub record EndsUnfound (fault : PortFault) (a b : Outside) (status : ℕ) : Type 0 where
  pub told : b.told ≡ a.told
  pub faults : b.faults ≡ a.faults
  pub readings : b.readings ≡ a.readings
  pub source_faults : b.source_faults ≡ a.source_faults
  pub said : Says a.written b.written (Ends fault status)
  pub sink : status ≡ 5 → Rose a.sink_faults b.sink_faults

-- A session by a port mapper: the other words were refused, or memory ran out, before anything was dialed; or the port mapper was asked, and the
-- client ran with the ports that it told, or there were none.
pub data ByPortmap (port : ℕ) (others : List (List ℕ)) (left : Option (List ℕ)) (f g : Finder) (a b : Outside) (status : ℕ) : Type 0 where
  refused : (IsTaken others → ⊥) → status ≡ 2 → g ≡ f → b ≡ a → ByPortmap port others left f g a b status
  wanting : status ≡ 7 → g ≡ f → b ≡ a → ByPortmap port others left f g a b status
  found : (ports : Ports) → IsTaken others → Asked port f g (Ok ports) → RunsAt others ports left a b status → ByPortmap port others left f g a b status
  unfound : (fault : PortFault) → IsTaken others → Asked port f g (Err fault) → EndsUnfound fault a b status → ByPortmap port others left f g a b status

-- A session: without a port mapper among the words it is a run of the client; words that name one in another way are refused before anything was
-- dialed; or memory ran out before that.
pub data SessionIs (words : List (List ℕ)) (left : Option (List ℕ)) (f g : Finder) (a b : Outside) (status : ℕ) : Type 0 where
  unnamed : Names words None → g ≡ f → RunsBy words left a b status → SessionIs words left f g a b status
  named : (port : ℕ) (others : List (List ℕ)) → NamesOne words port others → ByPortmap port others left f g a b status
      → SessionIs words left f g a b status
  unread : ((p : Option Portmap) → Names words p → ⊥) → status ≡ 2 → g ≡ f → b ≡ a → SessionIs words left f g a b status
  unmade : status ≡ 7 → g ≡ f → b ≡ a → SessionIs words left f g a b status
