-- Two clients that ran keep, each along its side, what one session keeps.
use Rattle.std.proofs.Common.{inl, inr, ◌≡◌, ℕ, List, [], ◌∷◌, ◌++◌, Option, Some, None, Ok, Err, Result, refl, sym, ap, subst, ◌∙◌}
use Rattle.world_model.specs.declared.entry.Entry.{Entry}
use Rattle.nfs_script.specs.declared.script.ScriptLine.{ScriptLine}
use Rattle.outside.specs.Pairs.{PairTold, seen_by, side}
use Rattle.session_words.specs.declared.settings.Settings.{Settings}
use Rattle.session_setup.specs.Origins.{origin_of, modes_of, terms_by}
use Rattle.lane_session.specs.Endings.{cut, entries_of}
use Rattle.lane_session.specs.Sessions.{IsUnmarked}
use Rattle.lane_session.proofs.Ending.{broken-none}
use Rattle.script_runs.specs.Readings.{Reads}
use Rattle.script_runs.specs.Run.{Says}
use Rattle.script_runs.proofs.LaneRuns.{fresh}
use Rattle.nfs_client.specs.Headline.{Promises}
use Rattle.nfs_client.proofs.Headlines.{ready-promises, quiet-promises}
use Rattle.nfs_client.proofs.Hushed.{hushed-among}
use Rattle.nfs_client.proofs.Ports.{hushed-ports}
use Rattle.nfs_client.proofs.Quiet.{IsQuiet, quiet-caused, quiet-thrifty, quiet-evident}
use Rattle.nfs_client.proofs.Resending.{hushed-resends}
use Rattle.nfs_client.proofs.ScriptAsked.{script-asked}
use Rattle.nfs_client.proofs.SetUpAlone.{lost-quiet}
use Rattle.nfs_client.proofs.Showing.{run-shows}
use Rattle.link_dials.specs.Sendings.{GoesToPorts, Resends}
use Rattle.link_dials.proofs.Ports.{ports-none}
use Rattle.pair_runs.specs.Given.{pair_settings}
use Rattle.pair_runs.specs.PairRuns.{ran, lost, began, unready, unbegun, ClientRan, RunsLines, BothRan, PairLeaves, none_began, both_ran, PairRelates}
use Rattle.two_clients.specs.Pair.{SideKeeps, PairHeadline, PairSees, PairIs}
use Rattle.two_clients.specs.Pair as pairs
use Rattle.two_clients.specs.Sees.{AreAlike}
use Rattle.two_clients.proofs.Sees.{one-sees}
use Rattle.two_clients.proofs.Unready.{unseen-hushed, unseen-unmarked, unready-quiet, unseen-quiet, unseen-resends, empty-unmarked}

-- ---- one client

module _ (s : Settings) (first : ℕ) (lines : List ScriptLine) (status : ℕ) (h : List Entry) where
  -- no operation is its own
  quietly : IsQuiet (terms_by s first) h → GoesToPorts s.mount_port s.nfs_port h → Resends h → RunsLines lines h status → SideKeeps s first lines status h
  quietly quiet ports resends runs = record {
    follows = runs.follows;
    together = runs.together;
    timed = runs.timed;
    ends = runs.ends;
    caused = quiet-caused (terms_by s first) h quiet (entries_of lines) status;
    ports = ports;
    resends = resends;
    thrifty = quiet-thrifty (terms_by s first) h quiet;
    evidence = quiet-evident (terms_by s first) h quiet (modes_of s) (origin_of s.export);
    server = quiet-promises s first h quiet;
  }

-- no line began
unmarked-runs : (lines : List ScriptLine) (h : List Entry) (status : ℕ) → IsUnmarked h → status ≡ 7 → RunsLines lines h status
unmarked-runs lines h status unmarked seven =
    let none = broken-none lines h unmarked in
    record { follows = none.follows; ends = cut (inr seven); timed = none.timed; together = none.together }

pub side-keeps : (first : ℕ) (lines : List ScriptLine) (h : List Entry) (status : ℕ) → ClientRan first lines h status → SideKeeps pair_settings first lines status h
side-keeps first lines h status (began (ran v before so fits asked core dials) runs) =
    let shows = run-shows pair_settings first v before h so fits (dials.more, dials.is) runs.timed (script-asked lines h asked runs.follows) core dials in
    record {
      follows = runs.follows;
      together = runs.together;
      timed = runs.timed;
      ends = runs.ends;
      caused = shows.caused lines status runs.follows runs.ends;
      ports = shows.ports;
      resends = shows.has.resends;
      thrifty = shows.thrift;
      evidence = shows.evidence;
      server = ready-promises pair_settings first v before h shows;
    }
side-keeps first lines h status (began (lost tally before more is so loses) runs) =
    let hushed = hushed-among more loses.each in
    quietly pair_settings first lines status h (subst (IsQuiet (terms_by pair_settings first)) (sym is) (lost-quiet pair_settings first tally before more so hushed))
    (hushed-ports pair_settings first _ before more h so is hushed) (hushed-resends pair_settings first _ before more h so is hushed) runs
side-keeps first lines h status (unready result before more is so none seven) =
    let hushed = unseen-hushed more none in
    quietly pair_settings first lines status h (subst (IsQuiet (terms_by pair_settings first)) (sym is) (unready-quiet pair_settings first result before more so none))
    (hushed-ports pair_settings first result before more h so is hushed) (hushed-resends pair_settings first result before more h so is hushed)
    (unmarked-runs lines h status (subst IsUnmarked (sym is) (fresh (before ++ more) (unseen-unmarked before more none so.unmarked))) seven)
side-keeps first lines h status (unbegun none seven) =
    quietly pair_settings first lines status h (unseen-quiet h none (terms_by pair_settings first)) (ports-none pair_settings.mount_port pair_settings.nfs_port h none) (unseen-resends h none)
    (unmarked-runs lines h status (fresh h (unseen-unmarked [] h none empty-unmarked)) seven)

-- ---- both

alike : AreAlike pair_settings pair_settings
alike = record { asks = refl; modes = refl; origin = refl }

pub pair-headline : (first second : List ScriptLine) (given : List ℕ) (h : PairTold) (status : ℕ) (text : List ℕ) → BothRan first second given h status text
    → PairHeadline first second given h status text
pair-headline first second given h status text r =
    let one : SideKeeps pair_settings 1 first r.a (seen_by 0 h.steps) = side-keeps 1 first (seen_by 0 h.steps) r.a r.one in
    let other : SideKeeps pair_settings 1073741825 second r.b (seen_by 1 h.steps) = side-keeps 1073741825 second (seen_by 1 h.steps) r.b r.other in
    let mine : Promises pair_settings 1 (side 0 h) = one.server (side 0 h) refl in
    let its : Promises pair_settings 1073741825 (side 1 h) = other.server (side 1 h) refl in
    record {
      a = r.a;
      b = r.b;
      one = one;
      other = other;
      ends = r.ends;
      says = r.says;
      clocked = r.clocked;
      sees = λ x y. one-sees h 0 1 pair_settings pair_settings 1 1073741825 mine its alike x y;
      seen = λ x y. one-sees h 1 0 pair_settings pair_settings 1073741825 1 its mine alike x y;
    }

pub pair-is : (given : List ℕ) (left_a left_b : Option (List ℕ)) (h : PairTold) (status : ℕ) (text : List ℕ) → PairLeaves given left_a left_b h status text
    → PairIs given left_a left_b h status text
pair-is given left_a left_b h status text (none_began still unread none) = pairs.none_began still unread none
pair-is given left_a left_b h status text (both_ran first second a b r) = pairs.both_ran first second a b (pair-headline first second given h status text r)

-- ---- a run

pair-told : (old new : Option PairTold) (given : List ℕ) (left_a left_b : Option (List ℕ)) (status : ℕ) (text : List ℕ)
    → PairRelates old new (λ before h. before.steps ≡ [] → PairLeaves given left_a left_b h status text) → PairRelates old new (λ before h. before.steps ≡ [] → PairIs given left_a left_b h status text)
pair-told None new given left_a left_b status text r = tt
pair-told (Some x) None given left_a left_b status text r = absurd r
pair-told (Some x) (Some y) given left_a left_b status text r = λ none. pair-is given left_a left_b y status text (r none)

pub says-headline : (v w a b : Option (List ℕ)) (old new : Option PairTold) (left_a left_b : Option (List ℕ)) (status : ℕ)
    → Says v w (λ text. Reads a b (λ given. PairRelates old new (λ before h. before.steps ≡ [] → PairLeaves given left_a left_b h status text)))
    → Says v w (λ text. Reads a b (λ given. PairRelates old new (λ before h. before.steps ≡ [] → PairIs given left_a left_b h status text)))
says-headline v w a b old new left_a left_b status said = record {
  text = said.text;
  added = said.added;
  is = (said.is.0, said.is.1, pair-told old new said.is.0 left_a left_b status said.text said.is.2);
}
