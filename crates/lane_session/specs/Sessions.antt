-- What a session promises.
use Rattle.std.specs.Prelude.{◌≡◌, ℕ, Bool, List, [], ◌++◌, Option, Some, None, Result, Ok, Err}
use Rattle.world_model.specs.declared.entry.Entry.{Entry}
use Rattle.world_model.specs.declared.tally.Tally.{Tally}
use Rattle.world_model.specs.Clocked.{clocks}
use Rattle.world_model.specs.Counts.{tally_of}
use Rattle.world_model.specs.Follows.{Follows, Finishes, marks_of}
use Rattle.world_model.specs.LanesTogether.{LanesTogether}
use Rattle.world_model.specs.Transcript.{transcript}
use Rattle.nfs_script.specs.declared.script.ScriptLine.{ScriptLine}
use Rattle.client_core.specs.declared.setup.Setup.{Setup}
use Rattle.core_facts.specs.Reaches.{MaySetUp}
use Rattle.lane_session.specs.declared.halt.Halt.{Halt}
use Rattle.lane_session.specs.declared.top.End.{End}
use Rattle.lane_session.specs.Endings.{entries_of, EndsAs, counts_text, TextOf, NotesAll}
use Rattle.lane_session.specs.Going.{AllTimed, Grows}
use Rattle.lane_session.specs.Labels.{IsCutIn}
use Rattle.lane_session.specs.Statuses.{HasStatus, IsCutOff, IsLeft}
use Rattle.lane_session.specs.Streams.{IsFrontOf}

-- a set-up by which a session may go
abbrev pub MayGo : Option Setup → Type 0
MayGo None = Unit {0}
MayGo (Some setup) = MaySetUp setup

-- no operation has begun or was answered
abbrev pub IsUnmarked : List Entry → Type 0
IsUnmarked h = (lane : ℕ) → marks_of lane h ≡ []

-- The session of a script, before which the history is h and at whose end it is k.
pub record SessionIs (count : Bool) (script : List ScriptLine) (given : List ℕ) (h k : List Entry) (status : ℕ) (text : List ℕ) : Type 0 where
  pub grown : Grows h k
  pub follows : Follows (entries_of script) k
  pub ends : EndsAs script k status
  pub tally : Tally
  pub says : TextOf count tally k status text
  pub clock : NotesAll status given h k
  pub timed : AllTimed k
  pub together : LanesTogether (entries_of script) k

-- The session of a script; and if its set-up was so, and the calls before it were counted, the counts are those of the whole history.
pub record SessionCounts (opened : Type 0) (before : Tally) (count : Bool) (script : List ScriptLine) (given : List ℕ) (h k : List Entry) (status : ℕ)
    (text : List ℕ) : Type 0 where
  pub is : SessionIs count script given h k status text
  pub counted : opened → before ≡ tally_of h → TextOf count (tally_of k) k status text

-- ---- before the counts

-- each line was begun and answered, and its answer was written
pub record IsDone (script : List ScriptLine) (end : End) (given text : List ℕ) (h k : List Entry) : Type 0 where
  pub grown : Grows h k
  pub follows : Follows (entries_of script) k
  pub finishes : Finishes (entries_of script) k
  pub status : HasStatus k end.status
  pub shown : text ≡ transcript k
  pub clocked : clocks k ≡ clocks h ++ given
  pub timed : AllTimed k
  pub together : LanesTogether (entries_of script) k

-- the session was cut off
pub record IsBroken (script : List ScriptLine) (halt : Halt) (given text : List ℕ) (h k : List Entry) : Type 0 where
  pub grown : Grows h k
  pub follows : Follows (entries_of script) k
  pub shown : IsCutIn [] k text
  pub last : List ℕ
  pub clocked : clocks h ++ given ≡ clocks k ++ last
  pub left : IsLeft halt last
  pub timed : AllTimed k
  pub together : LanesTogether (entries_of script) k

abbrev pub EndsBy : List ScriptLine → Result End Halt → List ℕ → List ℕ → List Entry → List Entry → Type 0
EndsBy script (Ok end) given text h k = IsDone script end given text h k
EndsBy script (Err halt) given text h k = IsBroken script halt given text h k

-- the line of counts was written if it is wanted; or a front of it, if the session was cut off
pub data TellsEnd (end : End) (count : Bool) (status : ℕ) (text : List ℕ) : Type 0 where
  tells : status ≡ end.status → text ≡ counts_text count end.tally → TellsEnd end count status text
  tells_front : IsCutOff status → IsFrontOf (counts_text count end.tally) text → TellsEnd end count status text
