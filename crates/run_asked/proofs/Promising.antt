-- What a session of scripts that are asked for leaves is what it promises.
use Rattle.std.proofs.Common.{◌≡◌, ℕ, List, [], ◌++◌, Option, Some, None, Ok}
use Rattle.world_model.specs.declared.entry.Entry.{Entry}
use Rattle.world_model.specs.History.{History}
use Rattle.world_model.specs.Told.{Relates}
use Rattle.session_words.specs.declared.settings.Settings.{Settings}
use Rattle.session_setup.specs.declared.opening.SetUp.{SetUp}
use Rattle.session_setup.specs.Outcomes.{SetsUp}
use Rattle.script_runs.specs.LaneRuns.{Leaves}
use Rattle.script_runs.specs.Readings.{Reads}
use Rattle.nfs_client.specs.Shown.{RunShows}
use Rattle.nfs_client.proofs.Headlines.{ready-promises}
use Rattle.nfs_client.proofs.ScriptAsked.{script-asked}
use Rattle.nfs_client.proofs.Showing.{run-shows}
use Rattle.asked_runs.specs.Asking.{Round}
use Rattle.asked_runs.specs.Runs.{RunsAsked, SessionOf, cut_before, entries_in, lines_of, lost, no_script, ready, refused, unready}
use Rattle.run_asked.specs.Promised.{Promised}

ready-promised : (s : Settings) (first : ℕ) (later : List ℕ) (v : SetUp) (before h : List Entry) (status : ℕ) → SetsUp s first (Ok v) before
    → (session : SessionOf later before h status) → Leaves s (lines_of session) first v before h → Promised s (lines_of session) first v before h
ready-promised s first later v before h status so session leaves =
    let shows : RunShows s first v before h =
    run-shows s first v before h so leaves.fits (entries_in session.parts ++ session.last, session.history) session.timed (script-asked (lines_of session) h leaves.asked session.follows) leaves.core leaves.dials in
    record {
      asked = leaves.asked;
      caused = λ answers ends. shows.caused (lines_of session) answers session.follows ends;
      ports = shows.ports;
      resends = shows.has.resends;
      thrifty = shows.thrift;
      evidence = shows.evidence;
      server = ready-promises s first v before h shows;
    }

asked-promised : (Asked : List Round → Type 0) (s : Settings) (given : List ℕ) (h : List Entry) (status : ℕ) → RunsAsked Leaves Asked s given h status → RunsAsked Promised Asked s given h status
asked-promised Asked s given h status (no_script none asked few) = no_script none asked few
asked-promised Asked s given h status (cut_before none cut) = cut_before none cut
asked-promised Asked s given h status (ready ms first later is by v before sets session asked leaves) =
    ready ms first later is by v before sets session asked (ready-promised s first later v before h status sets session leaves)
asked-promised Asked s given h status (lost ms first is by tally sets six) = lost ms first is by tally sets six
asked-promised Asked s given h status (refused ms first is by fault sets how) = refused ms first is by fault sets how
asked-promised Asked s given h status (unready ms first is by sets seven) = unready ms first is by sets seven

-- with what the clock gave and what the link tells
pub with-promised : (a b : Option (List ℕ)) (old new : Option History) (Asked : List Round → Type 0) (s : Settings) (status : ℕ)
    → Reads a b (λ given. Relates old new (λ before h. before ≡ [] → RunsAsked Leaves Asked s given h status))
    → Reads a b (λ given. Relates old new (λ before h. before ≡ [] → RunsAsked Promised Asked s given h status))
with-promised a b old new Asked s status said = (said.0, said.1, by old new said.2)
  where
    by : (old new : Option History) → Relates old new (λ before h. before ≡ [] → RunsAsked Leaves Asked s said.0 h status)
        → Relates old new (λ before h. before ≡ [] → RunsAsked Promised Asked s said.0 h status)
    by None new r = tt
    by (Some x) None r = absurd r
    by (Some x) (Some y) r = λ e. asked-promised Asked s said.0 y.entries status (r e)
