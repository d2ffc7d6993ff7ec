-- What a run of two scripts comes to, as the history of both shows it.
use Rattle.std.specs.Prelude.{◌≡◌, ◌≢◌, ◌≤◌, ◌⊎◌, ℕ, List, [], ◌∷◌, ◌++◌, All, length, max, Option, Some, None, Ok, Err, Result}
use Rattle.world_model.specs.declared.entry.Entry.{Entry}
use Rattle.world_model.specs.declared.tally.Tally.{Tally}
use Rattle.world_model.specs.Entries.{At, ours}
use Rattle.world_model.specs.Follows.{Follows, IsFront}
use Rattle.world_model.specs.LanesTogether.{LanesTogether}
use Rattle.link_dials.specs.Dials.{Dials}
use Rattle.nfs_script.specs.declared.fault.ScriptFault.{ScriptFault}
use Rattle.nfs_script.specs.declared.script.ScriptLine.{ScriptLine}
use Rattle.nfs_script.specs.Asked.{IsAskedLine}
use Rattle.nfs_script.specs.RefusalText.{refusal_text}
use Rattle.outside.specs.Pairs.{PairStep, PairTold, seen_by}
use Rattle.session_setup.specs.declared.opening.SetUp.{SetUp}
use Rattle.session_setup.specs.declared.opening.SetUpFault.{SetUpFault}
use Rattle.session_setup.specs.declared.opening.SetUpFault.TheVariants.{Lost}
use Rattle.session_setup.specs.Outcomes.{FitsSession, SetsUp}
use Rattle.lane_session.specs.Bonds.{HasCore}
use Rattle.lane_session.specs.Endings.{EndsAs, entries_of}
use Rattle.lane_session.specs.Going.{AllTimed}
use Rattle.lane_session.specs.Losing.{IsLosing}
use Rattle.lane_session.specs.Running.{mounted_by}
use Rattle.lane_session.specs.Statuses.{IsCutOff, IsSessionStatus}
use Rattle.script_runs.specs.LaneRuns.{setup_of}
use Rattle.script_runs.specs.Run.{IsReadAs, IsFaultOf}
use Rattle.pair_runs.specs.Given.{pair_settings}
use Rattle.pair_runs.specs.Texts.{label_at, pair_transcript, pair_clocks}

-- ---- one client, along its side

-- Its lines began and were answered in order, and this is the status by its answers; or the run was cut off.
pub record RunsLines (lines : List ScriptLine) (h : List Entry) (status : ℕ) : Type 0 where
  pub follows : Follows (entries_of lines) h
  pub ends : EndsAs lines h status
  pub timed : AllTimed h
  pub together : LanesTogether (entries_of lines) h

-- Of a client's own entries these say that its session is lost; of a script without lines there are none.
pub record LosesAmong (lines : List ScriptLine) (more : List Entry) : Type 0 where
  pub each : (i : ℕ) (e : Entry) → At (ours more) i e → IsLosing e
  pub none : lines ≡ [] → ours more ≡ []

-- A client whose calls have xids from the first on. It was set up with the history before, after which its core goes with its side and only NFS's port is
-- dialed; or its set-up lost the session, and each answer says so.
pub data ClientBegan (first : ℕ) (lines : List ScriptLine) (h : List Entry) : Type 0 where
  ran : (v : SetUp) (before : List Entry) → SetsUp pair_settings first (Ok v) before → FitsSession pair_settings first v → All IsAskedLine lines
      → HasCore (mounted_by pair_settings (setup_of pair_settings v)) (setup_of pair_settings v) before h → Dials pair_settings.nfs_port before h
      → ClientBegan first lines h
  lost : (tally : Tally) (before more : List Entry) → h ≡ before ++ more → SetsUp pair_settings first (Err (Lost tally)) before → LosesAmong lines more
      → ClientBegan first lines h

-- Its lines were run. Or memory ran out in its set-up, right after it, or in that of the client before it, and no line began.
pub data ClientRan (first : ℕ) (lines : List ScriptLine) (h : List Entry) (status : ℕ) : Type 0 where
  began : ClientBegan first lines h → RunsLines lines h status → ClientRan first lines h status
  unready : (result : Result SetUp SetUpFault) (before more : List Entry) → h ≡ before ++ more → SetsUp pair_settings first result before → ours more ≡ []
      → status ≡ 7 → ClientRan first lines h status
  unbegun : ours h ≡ [] → status ≡ 7 → ClientRan first lines h status

-- ---- both

-- The answers were written, in order, each behind the letter of its client; or a front of that, if the run was cut off.
pub data PairText (steps : List PairStep) (status : ℕ) (text : List ℕ) : Type 0 where
  whole_text : text ≡ pair_transcript steps → PairText steps status text
  cut_text : IsCutOff status → IsFront text (pair_transcript steps) → PairText steps status text

-- The readings that the clock gave to both were noted, in order, but at status 7 perhaps the last.
pub record PairClocked (steps : List PairStep) (status : ℕ) (given : List ℕ) : Type 0 where
  pub last : List ℕ
  pub is : given ≡ pair_clocks steps ++ last
  pub few : length last ≤ 1
  pub whole : status ≢ 7 → last ≡ []

-- The status is the larger one of those by the answers of each: 6 if an answer is that a session is lost, else 1 if one is refused, else 0. 5 and 7 end the run
-- of both where they come.
pub data StatusOf (status a b : ℕ) : Type 0 where
  by_both : IsSessionStatus a → IsSessionStatus b → status ≡ max a b → StatusOf status a b
  cut_off : IsCutOff status → a ≡ status → b ≡ status → StatusOf status a b

-- Both scripts were run, by clients whose first xids are 1 and 1,073,741,825.
pub record BothRan (first second : List ScriptLine) (given : List ℕ) (h : PairTold) (status : ℕ) (text : List ℕ) : Type 0 where
  pub a : ℕ
  pub b : ℕ
  pub one : ClientRan 1 first (seen_by 0 h.steps) a
  pub other : ClientRan 1073741825 second (seen_by 1 h.steps) b
  pub ends : StatusOf status a b
  pub says : PairText h.steps status text
  pub clocked : PairClocked h.steps status given

-- ---- before the set-ups

-- One script was refused: the line that says so, behind the letter of its client, or a front of it.
pub data RefusesOne (end : ℕ) (fault : ScriptFault) (status : ℕ) (text : List ℕ) : Type 0 where
  whole : status ≡ 3 → text ≡ label_at end ++ refusal_text fault → RefusesOne end fault status text
  cut : IsCutOff status → IsFront text (label_at end ++ refusal_text fault) → RefusesOne end fault status text

-- Nothing was begun. A source failed, or memory ran out, and nothing was written; or the script of client a was refused; or that of client b, and that of
-- client a was sound.
pub data NoneBegan (left_a left_b : Option (List ℕ)) (status : ℕ) (text : List ℕ) : Type 0 where
  unread : (status ≡ 4) ⊎ (status ≡ 7) → text ≡ [] → NoneBegan left_a left_b status text
  refused_a : (fault : ScriptFault) → IsFaultOf left_a fault → RefusesOne 0 fault status text → NoneBegan left_a left_b status text
  refused_b : (lines : List ScriptLine) → IsReadAs left_a (Ok lines) → (fault : ScriptFault) → IsFaultOf left_b fault → RefusesOne 1 fault status text
      → NoneBegan left_a left_b status text

-- ---- a run

-- A run of two scripts, whose sources had this left, from a link that had told nothing: nothing was begun, and the history stays empty and the clock unread; or
-- both scripts were run.
pub data PairLeaves (given : List ℕ) (left_a left_b : Option (List ℕ)) (h : PairTold) (status : ℕ) (text : List ℕ) : Type 0 where
  none_began : h.steps ≡ [] → given ≡ [] → NoneBegan left_a left_b status text → PairLeaves given left_a left_b h status text
  both_ran : (first second : List ScriptLine) → IsReadAs left_a (Ok first) → IsReadAs left_b (Ok second) → BothRan first second given h status text
      → PairLeaves given left_a left_b h status text

-- what a link with two ends told and tells are related so, if it tells anything
abbrev pub PairRelates : Option PairTold → Option PairTold → (PairTold → PairTold → Type 0) → Type 0
PairRelates None new R = Unit {0}
PairRelates (Some old) None R = ⊥
PairRelates (Some old) (Some new) R = R old new
