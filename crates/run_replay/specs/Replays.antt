-- What a session over a simulated server promises.
use Rattle.std.specs.Prelude.{◌≡◌, ℕ, List, Option, Result, Ok, Err}
use Rattle.world_model.specs.declared.entry.Entry.{Entry}
use Rattle.world_model.specs.Fresh.{Fresh}
use Rattle.world_model.specs.History.{History}
use Rattle.world_model.specs.Lawful.{Lawful}
use Rattle.world_model.specs.Once.{Once}
use Rattle.world_model.specs.Rising.{Rising}
use Rattle.claims.specs.Complete.{Completes}
use Rattle.claims.specs.Cuts.{CutsStay}
use Rattle.claims.specs.ReadTrue.{ReadCurrent, ReadShort, ReadTrue}
use Rattle.claims.specs.Recent.{AttrAge, ListTrue, NamesTrue}
use Rattle.claims.specs.Settled.{Settled}
use Rattle.nfs_script.specs.declared.script.ScriptLine.{ScriptLine}
use Rattle.session_words.specs.declared.settings.Settings.{Settings}
use Rattle.session_setup.specs.Origins.{origin_of, modes_of, terms_by}
use Rattle.script_runs.specs.Run.{RunOf}
use Rattle.nfs_client.specs.Headline.{Headline}
use Rattle.run_made.specs.MadeRuns.{MadeRunOf}
use Rattle.export_fs.specs.Seen.{server_of}
use Rattle.world_link.specs.declared.schedule.ScheduleFault.{ScheduleFault}
use Rattle.world_link.specs.declared.schedule.ScheduleFault.TheVariants as faults
use Rattle.world_link.specs.declared.world.World.{World}
use Rattle.world_link.specs.Readings.{ReadView}

-- A text that is read begins a session, or its first fault is named. Out of memory may come at any text.
abbrev pub IsRead : Result ReadView ℕ → Result (World × ℕ) ScheduleFault → Type 0
IsRead read (Ok ran) = (view : ReadView) × (read ≡ Ok view)
IsRead read (Err (faults.Line n)) = read ≡ Err n
IsRead read (Err faults.Memory) = Unit {0}

-- At the first moment the server is the one that the lines of the schedule make: it holds the files and directories that they name.
abbrev pub StartsAs : Result ReadView ℕ → History → Type 0
StartsAs (Ok view) t = t.at 0 ≡ server_of view.export
StartsAs (Err n) t = ⊥

-- The simulated server is honest, gives each change a fresh stamp, and its cookies rise. It remembers no calls: if a late copy of one may be executed,
-- `Once` is asked for.
pub record Keeps (s : Settings) (first : ℕ) (t : History) : Type 0 where
  pub lawful : Lawful t
  pub fresh : Fresh t
  pub rising : Rising t
  pub completes : Completes (terms_by s first) t
  pub settled : Once t.entries → Settled (modes_of s) (origin_of s.export) t
  pub cuts_stay : Once t.entries → CutsStay (modes_of s) (origin_of s.export) t
  pub read_true : Once t.entries → ReadTrue (modes_of s) (origin_of s.export) t
  pub read_short : Once t.entries → ReadShort (modes_of s) (origin_of s.export) t
  pub read_current : ReadCurrent (modes_of s) (origin_of s.export) t
  pub names_true : NamesTrue (modes_of s) (origin_of s.export) t
  pub attr_age : AttrAge (modes_of s) (origin_of s.export) t
  pub list_true : ListTrue (modes_of s) (origin_of s.export) t

-- A session of these lines, by these settings, and the history that the world tells.
pub record ReplayShows (t : History) (s : Settings) (lines : List ScriptLine) (given : List ℕ) (h : List Entry) (status : ℕ) (text : List ℕ) : Type 0 where
  pub headline : Headline s lines given h status text
  pub keeps : Keeps s headline.first t

-- What is written, and the status, are those of a run, with such a session, of which the world tells.
abbrev pub ReplayOf : History → List (List ℕ) → Option (List ℕ) → ℕ → List ℕ → Type 0
ReplayOf t words left status text = (given : List ℕ) × RunOf (ReplayShows t) given words left t.entries status text

-- the same of a script that is made of this size
abbrev pub MadeReplayOf : History → List (List ℕ) → ℕ → ℕ → List ℕ → Type 0
MadeReplayOf t words n status said = (given : List ℕ) × MadeRunOf (ReplayShows t) given words n t.entries status said
