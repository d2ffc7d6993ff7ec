-- What a run with settings promises is what a run promises of the words that give them.
use Rattle.std.proofs.Common.{arith, ◌≡◌, ◌≢◌, ◌≤◌, ℕ, List, [], Option, inl, inr, refl, subst}
use Rattle.std.specs.Prelude.{take, IfSome}
use Rattle.world_model.specs.Told.{Relates}
use Rattle.outside.specs.Causes.{Rose}
use Rattle.session_words.specs.declared.settings.Settings.{Settings}
use Rattle.session_words.specs.Words.{IsCommand}
use Rattle.script_runs.proofs.Runs.{words_say}
use Rattle.script_runs.specs.Readings.{Reads}
use Rattle.script_runs.specs.LaneRuns.{SessionBy}
use Rattle.script_runs.specs.Run.{IsScript, Refuses, RefusalIs, RunWith, Says}
use Rattle.nfs_client.specs.Headline.{Headline}
use Rattle.nfs_client.specs.Run.{Shows, RunsWith}
use Rattle.script_runs.specs.Streams.{script_limit}
use Rattle.port_finder.specs.Replies.{IsPort}
use Rattle.port_finder.specs.declared.finder.Ports.{Ports}
use Rattle.port_words.specs.Portmaps.{with_ports}
use Rattle.run_ports.specs.Sessions.{Outside, RunsBy, RunsAt, at_ports, usual_words}
use Rattle.run_ports.proofs.Commands.{commands_alike}

-- what `run_with` promises
pub record RunsSo (s : Settings) (left : Option (List ℕ)) (a b : Outside) (status : ℕ) : Type 0 where
  pub statuses : status ≤ 8
  pub taken : status ≢ 2
  pub script : IfSome left (λ l. status ≡ 3 → IsScript (take script_limit l) → ⊥)
  pub unspelled : IfSome left (λ l. (IsScript (take script_limit l) → ⊥) → Refuses status)
  pub unread : status ≡ 4 → Says a.written b.written (λ text. text ≡ [])
  pub refused : status ≡ 3 → Says a.written b.written (RefusalIs left)
  pub source : status ≡ 4 → Rose a.source_faults b.source_faults
  pub sink : status ≡ 5 → Rose a.sink_faults b.sink_faults
  pub headline : Says a.written b.written (λ text. Reads a.readings b.readings (λ given. Relates a.told b.told (λ before h. before ≡ [] → RunWith Headline given s left h status text)))
  pub shown : Says a.written b.written (λ text. Reads a.readings b.readings (λ given. Relates a.told b.told (λ before h. before ≡ [] → RunsWith given s left h status text)))

by_settings : (words : List (List ℕ)) (s : Settings) (left : Option (List ℕ)) (a b : Outside) (status : ℕ) → IsCommand words s → RunsSo s left a b status → RunsBy words left a b status
by_settings words s left a b status is r = record {
  statuses = r.statuses;
  untaken = λ two. absurd (r.taken two);
  no_words = λ none. absurd (none s is);
  script = r.script;
  unspelled = r.unspelled;
  unread = λ read. elim read [ inl two ↦ absurd (r.taken two) | inr four ↦ r.unread four ];
  refused = r.refused;
  source = r.source;
  sink = r.sink;
  headline = words_say Headline _ _ _ _ _ _ words left s status is r.headline;
  shown = words_say (SessionBy Shows) _ _ _ _ _ _ words left s status is r.shown;
}

-- with the ports that were told
pub runs_at : (others : List (List ℕ)) (ports : Ports) (s t : Settings) (left : Option (List ℕ)) (a b : Outside) (status : ℕ) → IsPort ports.mount × IsPort ports.nfs → IsCommand (usual_words others) s → t ≡ at_ports s ports
    → RunsSo t left a b status → RunsAt others ports left a b status
runs_at others ports s t left a b status range is same r =
    let so : RunsSo (at_ports s ports) left a b status = subst (λ (z : Settings). RunsSo z left a b status) same r in
    let command = commands_alike others 20048 2049 ports.mount ports.nfs s (omega arith, omega arith) (omega arith, omega arith) range.0 range.1 is in
    record { settings = at_ports s ports; is = command; mount = refl; nfs = refl; runs = by_settings (with_ports others ports.mount ports.nfs) (at_ports s ports) left a b status command so; taken = so.taken }
