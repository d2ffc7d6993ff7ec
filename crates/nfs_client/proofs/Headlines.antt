-- What a run leaves is what the headline says of it.
use Rattle.std.proofs.Common.{inr, ◌≡◌, ◌≢◌, ℕ, List, [], ◌∷◌, ◌++◌, Err, refl, sym, ap, subst, ◌∙◌, arith}
use Rattle.world_model.specs.declared.answer.Fault.{Fault}
use Rattle.world_model.specs.declared.entry.Entry.{Entry}
use Rattle.world_model.specs.declared.entry.Entry.TheVariants.{Began, Answered, Dialed, Sent, Executed, Foreign, Flushed, Reboot, Delivered, Failed, Clock}
use Rattle.world_model.specs.declared.tally.Tally.{Tally}
use Rattle.world_model.specs.Clocked.{clocks}
use Rattle.world_model.specs.Counts.{tally_of}
use Rattle.world_model.specs.Entries.{ours}
use Rattle.world_model.specs.History.{History}
use Rattle.link_dials.specs.Sendings.{GoesToPorts}
use Rattle.nfs_script.specs.declared.script.ScriptLine.{ScriptLine}
use Rattle.session_words.specs.declared.settings.Settings.{Settings}
use Rattle.session_setup.specs.declared.opening.SetUp.{SetUp}
use Rattle.session_setup.specs.declared.opening.SetUpFault.TheVariants.{Refused, Lost}
use Rattle.session_setup.specs.Origins.{origin_of, modes_of, terms_by}
use Rattle.session_setup.specs.Outcomes.{SetsUp}
use Rattle.session_setup.specs.Sendings.{IsUnmarked}
use Rattle.lane_session.specs.Endings.{cut, TextOf, NotesAll}
use Rattle.lane_session.specs.Going.{AllTimed}
use Rattle.lane_session.specs.Labels.{IsCutIn}
use Rattle.lane_session.specs.Losing.{LosesOnly}
use Rattle.lane_session.specs.Sessions.{SessionIs}
use Rattle.lane_session.proofs.Closing.{cut-text}
use Rattle.lane_session.proofs.Ending.{broken-none}
use Rattle.script_runs.specs.Ends.{TellsMount, EndsSo, ran, unmounted, IsClocked}
use Rattle.script_runs.specs.LaneRuns.{SetUpAndRun, ready, lost, refused, unready, SessionBy, no_lines, some_lines}
use Rattle.script_runs.proofs.LaneRuns.{fresh, fewer}
use Rattle.nfs_client.specs.Headline.{Promises, Headline}
use Rattle.nfs_client.specs.Run.{Shows}
use Rattle.nfs_client.specs.Shown.{RunShows}
use Rattle.nfs_client.proofs.Hushed.{all-losing}
use Rattle.nfs_client.proofs.Ports.{lost-ports, empty-ports}
use Rattle.nfs_client.proofs.Resending.{lost-resends, early-resends, empty-resends}
use Rattle.nfs_client.proofs.Quiet.{IsQuiet, quiet-caused, quiet-thrifty, quiet-completes, quiet-evident, quiet-settled, quiet-cuts, quiet-current, quiet-read, quiet-short, quiet-names, quiet-ages, quiet-lists}
use Rattle.nfs_client.proofs.SetUpAlone.{lost-quiet, early-quiet, empty-quiet}

-- ---- readings of the clock

pub no-clocks : (h : List Entry) → IsUnmarked h → clocks h ≡ []
no-clocks [] u = refl
no-clocks (Clock ms ∷ h) u = absurd (u.clock 0 ms refl)
no-clocks (Began lane line op ∷ h) u = no-clocks h (fewer (Began lane line op) h u)
no-clocks (Answered lane line answer ∷ h) u = no-clocks h (fewer (Answered lane line answer) h u)
no-clocks (Dialed port ∷ h) u = no-clocks h (fewer (Dialed port) h u)
no-clocks (Sent bytes ∷ h) u = no-clocks h (fewer (Sent bytes) h u)
no-clocks (Executed xid call reply ∷ h) u = no-clocks h (fewer (Executed xid call reply) h u)
no-clocks (Foreign call reply ∷ h) u = no-clocks h (fewer (Foreign call reply) h u)
no-clocks (Flushed file start count ∷ h) u = no-clocks h (fewer (Flushed file start count) h u)
no-clocks (Reboot verf ∷ h) u = no-clocks h (fewer (Reboot verf) h u)
no-clocks (Delivered bytes ∷ h) u = no-clocks h (fewer (Delivered bytes) h u)
no-clocks (Failed ∷ h) u = no-clocks h (fewer Failed h u)

-- the first reading, and those that a session noted after its set-up
pub clocked : (status ms : ℕ) (rest : List ℕ) (before h : List Entry) → IsUnmarked before → NotesAll status rest before h → AllTimed h → IsClocked status (ms ∷ rest) h
clocked status ms rest before h u n timed = record {
  first = ms ∷ [];
  last = n.last;
  is = ap (λ (t : List ℕ). ms ∷ t) (sym (ap (λ (t : List ℕ). t ++ rest) (no-clocks before u)) ∙ n.is);
  few = omega arith;
  late = n.few;
  whole = n.whole;
  timed = timed;
}

-- ---- a session that was set up

pub ready-promises : (s : Settings) (first : ℕ) (v : SetUp) (before h : List Entry) → RunShows s first v before h → (t : History) → t.entries ≡ h → Promises s first t
ready-promises s first v before h shows t is = record {
  completes = (shows.complete t is).completes;
  settled = λ lawful once. (shows.stable t is lawful once).settled;
  cuts_stay = λ lawful once. (shows.stable t is lawful once).cuts_stay;
  read_true = λ lawful once anew. (shows.stable t is lawful once).reads anew;
  read_short = λ lawful once anew. (shows.stable t is lawful once).ends anew;
  read_current = λ lawful anew. (shows.honest t is lawful anew).read_true;
  names_true = λ lawful anew. (shows.honest t is lawful anew).names;
  attr_age = λ lawful anew. (shows.honest t is lawful anew).ages;
  list_true = λ lawful anew rising. (shows.honest t is lawful anew).lists rising;
}

ready-headline : (s : Settings) (lines : List ScriptLine) (first ms : ℕ) (rest : List ℕ) (v : SetUp) (before h : List Entry) (status : ℕ) (text : List ℕ) → lines ≢ [] → IsUnmarked before
    → SessionIs s.count lines rest before h status text → RunShows s first v before h → TextOf s.count (tally_of h) h status text → Headline s lines (ms ∷ rest) h status text
ready-headline s lines first ms rest v before h status text some unmarked is shows says = record {
  first = first;
  idle = λ none. absurd (some none);
  follows = is.follows;
  together = is.together;
  clock = clocked status ms rest before h unmarked is.clock is.timed;
  ends = ran is.ends says;
  caused = shows.caused lines status is.follows is.ends;
  ports = shows.ports;
  resends = shows.has.resends;
  thrifty = shows.thrift;
  evidence = shows.evidence;
  server = ready-promises s first v before h shows;
}

-- ---- a session without an operation of its own

pub quiet-promises : (s : Settings) (first : ℕ) (h : List Entry) → IsQuiet (terms_by s first) h → (t : History) → t.entries ≡ h → Promises s first t
quiet-promises s first h quiet t is =
    let q : IsQuiet (terms_by s first) t.entries = subst (IsQuiet (terms_by s first)) (sym is) quiet in
    record {
      completes = quiet-completes (terms_by s first) t q;
      settled = λ lawful once. quiet-settled (terms_by s first) t q (modes_of s) (origin_of s.export);
      cuts_stay = λ lawful once. quiet-cuts (terms_by s first) t q (modes_of s) (origin_of s.export);
      read_true = λ lawful once anew. quiet-read (terms_by s first) t q (modes_of s) (origin_of s.export);
      read_short = λ lawful once anew. quiet-short (terms_by s first) t q (modes_of s) (origin_of s.export);
      read_current = λ lawful anew. quiet-current (terms_by s first) t q (modes_of s) (origin_of s.export);
      names_true = λ lawful anew. quiet-names (terms_by s first) t q (modes_of s) (origin_of s.export);
      attr_age = λ lawful anew. quiet-ages (terms_by s first) t q (modes_of s) (origin_of s.export);
      list_true = λ lawful anew rising. quiet-lists (terms_by s first) t q (modes_of s) (origin_of s.export);
    }

-- its lines were answered that it is lost
pub lost-headline : (s : Settings) (lines : List ScriptLine) (first ms : ℕ) (rest : List ℕ) (tally : Tally) (before h : List Entry) (status : ℕ) (text : List ℕ)
    → lines ≢ [] → SetsUp s first (Err (Lost tally)) before → SessionIs s.count lines rest before h status text → LosesOnly lines before h → TextOf s.count (tally_of h) h status text
    → Headline s lines (ms ∷ rest) h status text
lost-headline s lines first ms rest tally before h status text some so is only says =
    let quiet : IsQuiet (terms_by s first) h = subst (IsQuiet (terms_by s first)) (sym only.is) (lost-quiet s first tally before only.more so (all-losing only.more only.each)) in
    record {
      first = first;
      idle = λ none_left. absurd (some none_left);
      follows = is.follows;
      together = is.together;
      clock = clocked status ms rest before h so.unmarked is.clock is.timed;
      ends = ran is.ends says;
      caused = quiet-caused (terms_by s first) h quiet _ status;
      ports = lost-ports s first tally before only.more h so only.is (all-losing only.more only.each);
      resends = lost-resends s first tally before only.more h so only.is (all-losing only.more only.each);
      thrifty = quiet-thrifty (terms_by s first) h quiet;
      evidence = quiet-evident (terms_by s first) h quiet (modes_of s) (origin_of s.export);
      server = quiet-promises s first h quiet;
    }

-- no line was begun, as memory ran out in the set-up or the mount was refused
pub early-headline : (s : Settings) (lines : List ScriptLine) (first ms : ℕ) (h : List Entry) (status : ℕ) (text : List ℕ) → lines ≢ [] → IsUnmarked h → GoesToPorts s.mount_port s.nfs_port h
    → IsQuiet (terms_by s first) h → EndsSo s lines h status text → Headline s lines (ms ∷ []) h status text
early-headline s lines first ms h status text some unmarked ports quiet ends =
    let none = broken-none lines h (fresh h unmarked) in
    record {
      first = first;
      idle = λ none_left. absurd (some none_left);
      follows = none.follows;
      together = none.together;
      clock = record {
        first = ms ∷ [];
        last = [];
        is = ap (λ (t : List ℕ). ms ∷ (t ++ [])) (sym (no-clocks h unmarked));
        few = omega arith;
        late = omega arith;
        whole = λ other. refl;
        timed = none.timed;
      };
      ends = ends;
      caused = quiet-caused (terms_by s first) h quiet _ status;
      ports = ports;
      resends = early-resends h unmarked;
      thrifty = quiet-thrifty (terms_by s first) h quiet;
      evidence = quiet-evident (terms_by s first) h quiet (modes_of s) (origin_of s.export);
      server = quiet-promises s first h quiet;
    }

pub refused-ends : (s : Settings) (lines : List ScriptLine) (first : ℕ) (fault : Fault) (h : List Entry) (status : ℕ) (text : List ℕ) → SetsUp s first (Err (Refused fault)) h → TellsMount fault status text
    → EndsSo s lines h status text
refused-ends s lines first fault h status text so tells = unmounted so.ends.path fault so.ends.mounting so.ends.refused so.unmarked.began tells

pub unready-ends : (s : Settings) (lines : List ScriptLine) (h : List Entry) (status : ℕ) (text : List ℕ) → IsUnmarked h → status ≡ 7 → text ≡ [] → EndsSo s lines h status text
unready-ends s lines h status text unmarked seven none =
    ran (cut (inr seven)) (cut-text s.count (tally_of h) status text h (inr seven) (subst (IsCutIn [] h) (sym none) (broken-none lines h (fresh h unmarked)).shown))

-- there were no lines
empty-headline : (s : Settings) (given : List ℕ) (h : List Entry) (status : ℕ) (text : List ℕ) → h ≡ [] → SessionIs s.count [] given [] h status text → TextOf s.count (tally_of h) h status text
    → Headline s [] given h status text
empty-headline s given h status text none is says =
    let quiet : IsQuiet (terms_by s 1) h = subst (IsQuiet (terms_by s 1)) (sym none) (empty-quiet (terms_by s 1)) in
    record {
      first = 1;
      idle = λ none_left. none;
      follows = is.follows;
      together = is.together;
      clock = record {
        first = [];
        last = is.clock.last;
        is = is.clock.is;
        few = omega arith;
        late = is.clock.few;
        whole = is.clock.whole;
        timed = is.timed;
      };
      ends = ran is.ends says;
      caused = quiet-caused (terms_by s 1) h quiet _ status;
      ports = empty-ports s h (ap ours none);
      resends = empty-resends h none;
      thrifty = quiet-thrifty (terms_by s 1) h quiet;
      evidence = quiet-evident (terms_by s 1) h quiet (modes_of s) (origin_of s.export);
      server = quiet-promises s 1 h quiet;
    }

-- ---- any session

set-up-headline : (s : Settings) (lines : List ScriptLine) (first ms : ℕ) (rest : List ℕ) (h : List Entry) (status : ℕ) (text : List ℕ) → lines ≢ [] → SetUpAndRun Shows s lines first rest h status text
    → Headline s lines (ms ∷ rest) h status text
set-up-headline s lines first ms rest h status text some (ready v before so is shows says) = ready-headline s lines first ms rest v before h status text some so.unmarked is shows says
set-up-headline s lines first ms rest h status text some (lost tally before so is only gone says) = lost-headline s lines first ms rest tally before h status text some so is only says
set-up-headline s lines first ms rest h status text some (refused fault none so tells) =
    subst (λ (g : List ℕ). Headline s lines (ms ∷ g) h status text) (sym none)
    (early-headline s lines first ms h status text some so.unmarked so.ports (early-quiet s first _ h so) (refused-ends s lines first fault h status text so tells))
set-up-headline s lines first ms rest h status text some (unready none so seven empty) =
    subst (λ (g : List ℕ). Headline s lines (ms ∷ g) h status text) (sym none)
    (early-headline s lines first ms h status text some so.unmarked so.ports (early-quiet s first _ h so) (unready-ends s lines h status text so.unmarked seven empty))

pub session-headline : (s : Settings) (lines : List ScriptLine) (given : List ℕ) (h : List Entry) (status : ℕ) (text : List ℕ) → SessionBy Shows s lines given h status text
    → Headline s lines given h status text
session-headline s lines given h status text (no_lines empty none is says) =
    subst (λ (l : List ScriptLine). Headline s l given h status text) (sym empty) (empty-headline s given h status text none is says)
session-headline s lines given h status text (some_lines some ms first rest is by run) =
    subst (λ (g : List ℕ). Headline s lines g h status text) (sym is) (set-up-headline s lines first ms rest h status text some run)
