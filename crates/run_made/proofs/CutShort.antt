-- A run that is cut off at its end is one that was cut off.
use Rattle.std.proofs.Common.{inl, inr, ◌≡◌, ℕ, Bool, List, [], Option, sym, ◌∙◌, arith}
use Rattle.std.proofs.lemmas.List.{append-nil}
use Rattle.world_model.specs.declared.entry.Entry.{Entry}
use Rattle.world_model.specs.declared.tally.Tally.{Tally}
use Rattle.nfs_script.specs.declared.script.ScriptLine.{ScriptLine}
use Rattle.session_words.specs.declared.settings.Settings.{Settings}
use Rattle.lane_session.specs.Endings.{TextOf, NotesAll}
use Rattle.lane_session.specs.Endings as sessions
use Rattle.lane_session.specs.Sessions.{SessionIs}
use Rattle.claims.specs.Caused.{Caused}
use Rattle.claims.specs.Terms.{Terms}
use Rattle.script_runs.specs.Ends.{EndsSo, IsClocked}
use Rattle.script_runs.specs.Ends as mounting
use Rattle.script_runs.specs.LaneRuns.{SetUpAndRun, SessionBy}
use Rattle.script_runs.specs.LaneRuns as runs
use Rattle.script_runs.specs.Run.{IsCutOff, Unbegun, RunOf}
use Rattle.script_runs.specs.Run as tops
use Rattle.nfs_client.specs.Headline.{Headline}
use Rattle.nfs_client.specs.Run.{Shows}
use Rattle.world_model.specs.Follows.{IsFront}

-- one status comes in place of another: 5 or 7, and 7 in place of 7
pub record Cuts (ran status : ℕ) : Type 0 where
  pub off : IsCutOff status
  pub stays : ran ≡ 7 → status ≡ 7

all_of : (text whole : List ℕ) → text ≡ whole → IsFront text whole
all_of text whole is = record { rest = []; is = sym is ∙ sym (append-nil text) }

texts : (count : Bool) (tally : Tally) (k : List Entry) (ran status : ℕ) (text : List ℕ) → Cuts ran status → TextOf count tally k ran text → TextOf count tally k status text
texts count tally k ran status text c (sessions.whole_text is) = sessions.whole_text is
texts count tally k ran status text c (sessions.counts_cut off front is within) = sessions.counts_cut c.off front is within
texts count tally k ran status text c (sessions.line_cut off before lane line answer front split is within) = sessions.line_cut c.off before lane line answer front split is within

notes : (ran status : ℕ) (given : List ℕ) (h k : List Entry) → Cuts ran status → NotesAll ran given h k → NotesAll status given h k
notes ran status given h k c n = record { last = n.last; is = n.is; few = n.few; whole = λ other. n.whole (λ seven. other (c.stays seven)) }

session_is : (count : Bool) (lines : List ScriptLine) (given : List ℕ) (h k : List Entry) (ran status : ℕ) (text : List ℕ) → Cuts ran status → SessionIs count lines given h k ran text
    → SessionIs count lines given h k status text
session_is count lines given h k ran status text c s = record {
  grown = s.grown;
  follows = s.follows;
  ends = sessions.cut c.off;
  tally = s.tally;
  says = texts count s.tally k ran status text c s.says;
  clock = notes ran status given h k c s.clock;
  timed = s.timed;
  together = s.together;
}

set_up : (s : Settings) (lines : List ScriptLine) (first : ℕ) (given : List ℕ) (h : List Entry) (ran status : ℕ) (text : List ℕ) → Cuts ran status → SetUpAndRun Shows s lines first given h ran text
    → SetUpAndRun Shows s lines first given h status text
set_up s lines first given h ran status text c (runs.ready v before sets is shows says) =
    runs.ready v before sets (session_is s.count lines given before h ran status text c is) shows (texts s.count _ h ran status text c says)
set_up s lines first given h ran status text c (runs.lost tally before sets is only lost says) =
    runs.lost tally before sets (session_is s.count lines given before h ran status text c is) only lost (texts s.count _ h ran status text c says)
set_up s lines first given h ran status text c (runs.refused fault none sets (mounting.all_told e is)) = runs.refused fault none sets (mounting.front_told c.off (all_of text _ is))
set_up s lines first given h ran status text c (runs.refused fault none sets (mounting.front_told off front)) = runs.refused fault none sets (mounting.front_told c.off front)
set_up s lines first given h ran status text c (runs.unready none sets seven is) = runs.unready none sets (c.stays seven) is

unbegun : (left : Option (List ℕ)) (ran status : ℕ) (text : List ℕ) → Cuts ran status → Unbegun left ran text → Unbegun left status text
unbegun left ran status text c (tops.no_words e is) = tops.cut_before c.off is
unbegun left ran status text c (tops.no_source e is) = tops.cut_before c.off is
unbegun left ran status text c (tops.cut_before off is) = tops.cut_before c.off is
unbegun left ran status text c (tops.no_script fault f (tops.whole e is)) = tops.no_script fault f (tops.cut c.off (all_of text _ is))
unbegun left ran status text c (tops.no_script fault f (tops.cut off front)) = tops.no_script fault f (tops.cut c.off front)

pub session_by : (s : Settings) (lines : List ScriptLine) (given : List ℕ) (h : List Entry) (ran status : ℕ) (text : List ℕ) → Cuts ran status → SessionBy Shows s lines given h ran text
    → SessionBy Shows s lines given h status text
session_by s lines given h ran status text c (runs.no_lines none empty is says) = runs.no_lines none empty (session_is s.count [] given [] h ran status text c is) (texts s.count _ h ran status text c says)
session_by s lines given h ran status text c (runs.some_lines some ms first rest is by run) = runs.some_lines some ms first rest is by (set_up s lines first rest h ran status text c run)

-- ---- in the words of the model

caused : (terms : Terms) (script h : List Entry) (ran status : ℕ) → Cuts ran status → Caused terms script ran h → Caused terms script status h
caused terms script h ran status c k = record {
  calls = k.calls;
  counts = k.counts;
  ok = k.ok;
  refused = k.refused;
  slot = k.slot;
  mode = k.mode;
  lost = k.lost;
  spent = λ lane x y op by_itself ended. absurd (elim c.off [
    | inl five ↦ elim by_itself [ inl a ↦ omega (arith, five, a) | inr b ↦ omega (arith, five, b) ]
    | inr seven ↦ elim by_itself [ inl a ↦ omega (arith, seven, a) | inr b ↦ omega (arith, seven, b) ]
  ]);
}

ends : (s : Settings) (lines : List ScriptLine) (h : List Entry) (ran status : ℕ) (text : List ℕ) → Cuts ran status → EndsSo s lines h ran text → EndsSo s lines h status text
ends s lines h ran status text c (mounting.ran whole says) = mounting.ran (sessions.cut c.off) (texts s.count _ h ran status text c says)
ends s lines h ran status text c (mounting.unmounted path fault is refused none (mounting.all_told e told)) =
    mounting.unmounted path fault is refused none (mounting.front_told c.off (all_of text _ told))
ends s lines h ran status text c (mounting.unmounted path fault is refused none (mounting.front_told off front)) =
    mounting.unmounted path fault is refused none (mounting.front_told c.off front)

clocked : (ran status : ℕ) (given : List ℕ) (h : List Entry) → Cuts ran status → IsClocked ran given h → IsClocked status given h
clocked ran status given h c k = record {
  first = k.first;
  last = k.last;
  is = k.is;
  few = k.few;
  late = k.late;
  whole = λ other. k.whole (λ seven. other (c.stays seven));
  timed = k.timed;
}

pub headline_by : (s : Settings) (lines : List ScriptLine) (given : List ℕ) (h : List Entry) (ran status : ℕ) (text : List ℕ) → Cuts ran status → Headline s lines given h ran text
    → Headline s lines given h status text
headline_by s lines given h ran status text c k = record {
  first = k.first;
  idle = k.idle;
  follows = k.follows;
  together = k.together;
  clock = clocked ran status given h c k.clock;
  ends = ends s lines h ran status text c k.ends;
  caused = caused _ _ h ran status c k.caused;
  ports = k.ports;
  resends = k.resends;
  thrifty = k.thrifty;
  evidence = k.evidence;
  server = k.server;
}

-- ---- a run

pub run_is : (Is : Settings → List ScriptLine → List ℕ → List Entry → ℕ → List ℕ → Type 0)
    → ((s : Settings) (lines : List ScriptLine) (given : List ℕ) (h : List Entry) (ran status : ℕ) (text : List ℕ) → Cuts ran status → Is s lines given h ran text → Is s lines given h status text)
    → (given : List ℕ) (words : List (List ℕ)) (left : Option (List ℕ)) (h : List Entry) (ran status : ℕ) (text : List ℕ) → Cuts ran status → RunOf Is given words left h ran text
    → RunOf Is given words left h status text
run_is Is cuts given words left h ran status text c (tops.unbegun e u) = tops.unbegun e (unbegun left ran status text c u)
run_is Is cuts given words left h ran status text c (tops.session s lines command keeps read is) = tops.session s lines command keeps read (cuts s lines given h ran status text c is)
