-- What a session of batches leaves is what the headline says of it.
use Rattle.std.proofs.Common.{◌≡◌, ℕ, List, [], ◌∷◌, ◌++◌, Option, Ok, Err, refl, sym, ap, subst, ◌∙◌, arith}
use Rattle.world_model.specs.declared.entry.Entry.{Entry}
use Rattle.world_model.specs.declared.entry.Entry.TheVariants.{Began}
use Rattle.world_model.specs.declared.op.Op.{Op}
use Rattle.world_model.specs.declared.tally.Tally.{Tally}
use Rattle.world_model.specs.Entries.{At, ours}
use Rattle.world_model.specs.Follows.{Follows, begun}
use Rattle.link_dials.specs.Sendings.{GoesToPorts}
use Rattle.nfs_script.specs.declared.script.ScriptLine.{ScriptLine}
use Rattle.session_words.specs.declared.settings.Settings.{Settings}
use Rattle.session_setup.specs.declared.opening.SetUp.{SetUp}
use Rattle.session_setup.specs.declared.opening.SetUpFault.TheVariants.{Lost}
use Rattle.session_setup.specs.Origins.{modes_of, origin_of, terms_by}
use Rattle.session_setup.specs.Outcomes.{SetsUp}
use Rattle.session_setup.specs.Sendings.{IsUnmarked}
use Rattle.lane_session.specs.Endings.{entries_of}
use Rattle.lane_session.specs.Losing.{LosesOnly}
use Rattle.lane_session.proofs.Ending.{broken-none}
use Rattle.lane_session.proofs.Together.{none-began}
use Rattle.script_runs.specs.LaneRuns.{Leaves}
use Rattle.script_runs.proofs.LaneRuns.{fresh}
use Rattle.nfs_client.proofs.Headlines.{clocked, no-clocks, quiet-promises, ready-promises}
use Rattle.nfs_client.proofs.Hushed.{all-losing}
use Rattle.nfs_client.proofs.Ports.{empty-ports, lost-ports}
use Rattle.nfs_client.proofs.Quiet.{IsQuiet, quiet-caused, quiet-evident, quiet-thrifty}
use Rattle.nfs_client.proofs.Resending.{early-resends, empty-resends, lost-resends}
use Rattle.nfs_client.proofs.ScriptAsked.{script-asked}
use Rattle.nfs_client.proofs.SetUpAlone.{early-quiet, empty-quiet, lost-quiet}
use Rattle.nfs_client.proofs.Showing.{run-shows}
use Rattle.nfs_client.specs.Shown.{RunShows}
use Rattle.batch_runs.specs.Parts.{entries_in}
use Rattle.batch_runs.specs.Runs.{BatchesBy, SessionOf, lines_of, lost, no_lines, ready, unmounted as by_refusal, unready as by_memory}
use Rattle.run_batches.specs.Headline.{AnswersBatches, Headline, answered, unmounted, unready}

-- what follows no line began none
idle-none : (h : List Entry) (lines : List ScriptLine) → Follows (entries_of lines) h → lines ≡ [] → (i lane line : ℕ) (op : Op) → At h i (Began lane line op) → ⊥
idle-none h lines f none i lane line op at = none-began h i lane line op at (front (begun lane h) (f.begins lane).rest (sym (f.begins lane).is ∙ ap (λ (l : List ScriptLine). begun lane (entries_of l)) none))
  where
    front : (xs ys : List Entry) → xs ++ ys ≡ [] → xs ≡ []
    front [] ys e = refl
    front (x ∷ xs) ys e = absurd cc

-- ---- a session that was set up

ready-headline : (s : Settings) (left : Option (List ℕ)) (first ms : ℕ) (later : List ℕ) (v : SetUp) (before h : List Entry) (status : ℕ) (text : List ℕ) → SetsUp s first (Ok v) before
    → (session : SessionOf s.count left later before h status text) → Leaves s (lines_of session) first v before h → Headline s left (ms ∷ later) h status text
ready-headline s left first ms later v before h status text so session leaves =
    let shows : RunShows s first v before h =
    run-shows s first v before h so leaves.fits (entries_in session.parts ++ session.rest.entries, session.history) session.timed (script-asked (lines_of session) h leaves.asked session.follows) leaves.core leaves.dials in
    record {
      first = first;
      lines = lines_of session;
      idle = idle-none h (lines_of session) session.follows;
      follows = session.follows;
      batches = answered later before session refl;
      clock = clocked status ms later before h so.unmarked session.clock session.timed;
      caused = λ answers ends. shows.caused (lines_of session) answers session.follows ends;
      ports = shows.ports;
      resends = shows.has.resends;
      thrifty = shows.thrift;
      evidence = shows.evidence;
      server = ready-promises s first v before h shows;
    }

-- ---- a session without an operation of its own

-- it was lost in its set-up
lost-headline : (s : Settings) (left : Option (List ℕ)) (first ms : ℕ) (later : List ℕ) (tally : Tally) (before h : List Entry) (status : ℕ) (text : List ℕ) → SetsUp s first (Err (Lost tally)) before
    → (session : SessionOf s.count left later before h status text) → LosesOnly (lines_of session) before h → Headline s left (ms ∷ later) h status text
lost-headline s left first ms later tally before h status text so session only =
    let quiet : IsQuiet (terms_by s first) h = subst (IsQuiet (terms_by s first)) (sym only.is) (lost-quiet s first tally before only.more so (all-losing only.more only.each)) in
    record {
      first = first;
      lines = lines_of session;
      idle = idle-none h (lines_of session) session.follows;
      follows = session.follows;
      batches = answered later before session refl;
      clock = clocked status ms later before h so.unmarked session.clock session.timed;
      caused = λ answers ends. quiet-caused (terms_by s first) h quiet _ answers;
      ports = lost-ports s first tally before only.more h so only.is (all-losing only.more only.each);
      resends = lost-resends s first tally before only.more h so only.is (all-losing only.more only.each);
      thrifty = quiet-thrifty (terms_by s first) h quiet;
      evidence = quiet-evident (terms_by s first) h quiet (modes_of s) (origin_of s.export);
      server = quiet-promises s first h quiet;
    }

-- no line had begun when the mount was refused, or memory ran out
early-headline : (s : Settings) (left : Option (List ℕ)) (first ms : ℕ) (h : List Entry) (status : ℕ) (text : List ℕ) → IsUnmarked h → GoesToPorts s.mount_port s.nfs_port h
    → IsQuiet (terms_by s first) h → AnswersBatches s left [] h status text → Headline s left (ms ∷ []) h status text
early-headline s left first ms h status text unmarked ports quiet answers =
    let none = broken-none [] h (fresh h unmarked) in
    record {
      first = first;
      lines = [];
      idle = λ e. unmarked.began;
      follows = none.follows;
      batches = answers;
      clock = record {
        first = ms ∷ [];
        last = [];
        is = ap (λ (t : List ℕ). ms ∷ (t ++ [])) (sym (no-clocks h unmarked));
        few = omega arith;
        late = omega arith;
        whole = λ other. refl;
        timed = none.timed;
      };
      caused = λ how ends. quiet-caused (terms_by s first) h quiet _ how;
      ports = ports;
      resends = early-resends h unmarked;
      thrifty = quiet-thrifty (terms_by s first) h quiet;
      evidence = quiet-evident (terms_by s first) h quiet (modes_of s) (origin_of s.export);
      server = quiet-promises s first h quiet;
    }

-- no batch had a line
empty-headline : (s : Settings) (left : Option (List ℕ)) (given : List ℕ) (h : List Entry) (status : ℕ) (text : List ℕ) → h ≡ [] → (session : SessionOf s.count left given [] h status text)
    → Headline s left given h status text
empty-headline s left given h status text none session =
    let quiet : IsQuiet (terms_by s 1) h = subst (IsQuiet (terms_by s 1)) (sym none) (empty-quiet (terms_by s 1)) in
    record {
      first = 1;
      lines = lines_of session;
      idle = idle-none h (lines_of session) session.follows;
      follows = session.follows;
      batches = answered given [] session refl;
      clock = record {
        first = [];
        last = session.clock.last;
        is = session.clock.is;
        few = omega arith;
        late = session.clock.few;
        whole = session.clock.whole;
        timed = session.timed;
      };
      caused = λ how ends. quiet-caused (terms_by s 1) h quiet _ how;
      ports = empty-ports s h (ap ours none);
      resends = empty-resends h none;
      thrifty = quiet-thrifty (terms_by s 1) h quiet;
      evidence = quiet-evident (terms_by s 1) h quiet (modes_of s) (origin_of s.export);
      server = quiet-promises s 1 h quiet;
    }

-- ---- any session

pub batches-headline : (s : Settings) (left : Option (List ℕ)) (given : List ℕ) (h : List Entry) (status : ℕ) (text : List ℕ) → BatchesBy Leaves s left given h status text → Headline s left given h status text
batches-headline s left given h status text (no_lines none session empty) = empty-headline s left given h status text none session
batches-headline s left given h status text (ready ms first later is by v before so session leaves) =
    subst (λ (g : List ℕ). Headline s left g h status text) (sym is) (ready-headline s left first ms later v before h status text so session leaves)
batches-headline s left given h status text (lost ms first later is by tally before so session only gone) =
    subst (λ (g : List ℕ). Headline s left g h status text) (sym is) (lost-headline s left first ms later tally before h status text so session only)
batches-headline s left given h status text (by_refusal ms first is by early more idle are read fault so last tells written) =
    subst (λ (g : List ℕ). Headline s left g h status text) (sym is)
    (early-headline s left first ms h status text so.unmarked so.ports (early-quiet s first _ h so)
    (unmounted refl early more idle are read so.unmarked.began so.ends.path fault last so.ends.mounting so.ends.refused tells written))
batches-headline s left given h status text (by_memory ms first is by early more idle are read so seven written) =
    subst (λ (g : List ℕ). Headline s left g h status text) (sym is)
    (early-headline s left first ms h status text so.unmarked so.ports (early-quiet s first _ h so) (unready refl early more idle are read so.unmarked.began seven written))
