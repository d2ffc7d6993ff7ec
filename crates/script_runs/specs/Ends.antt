-- How a run ends whose mount may be refused, and which readings of the clock it notes.
use Rattle.std.specs.Prelude.{◌≡◌, ◌≢◌, ◌≤◌, ◌++◌, ℕ, List, [], length}
use Rattle.world_model.specs.declared.answer.Fault.{Fault}
use Rattle.world_model.specs.declared.entry.Entry.{Entry}
use Rattle.world_model.specs.declared.entry.Entry.TheVariants.{Began}
use Rattle.world_model.specs.declared.op.Op.{Op}
use Rattle.world_model.specs.Clocked.{clocks, IsTimed}
use Rattle.world_model.specs.Counts.{tally_of}
use Rattle.world_model.specs.Entries.{At}
use Rattle.world_model.specs.Follows.{IsFront}
use Rattle.world_model.specs.Heard.{Refused}
use Rattle.world_model.specs.Mounts.{mount_call}
use Rattle.world_model.specs.Transcript.{mount_text}
use Rattle.nfs_script.specs.declared.script.ScriptLine.{ScriptLine}
use Rattle.session_words.specs.declared.settings.Export.TheVariants as exports
use Rattle.session_words.specs.declared.settings.Settings.{Settings}
use Rattle.lane_session.specs.Endings.{EndsAs, TextOf}
use Rattle.lane_session.specs.Statuses.{IsCutOff}

-- the line of a mount that is refused was written, or the session was cut off within it
pub data TellsMount (fault : Fault) (status : ℕ) (text : List ℕ) : Type 0 where
  all_told : status ≡ 8 → text ≡ mount_text fault → TellsMount fault status text
  front_told : IsCutOff status → IsFront text (mount_text fault) → TellsMount fault status text

-- The status is that of the answers, and they were written with the counts; or a front of that was, if the session was cut off. Or no line began, the
-- server refused the mount (RFC 1813, section 5.2.1), and the line that says so was written.
pub data EndsSo (s : Settings) (lines : List ScriptLine) (h : List Entry) (status : ℕ) (text : List ℕ) : Type 0 where
  ran : EndsAs lines h status → TextOf s.count (tally_of h) h status text → EndsSo s lines h status text
  unmounted : (path : List ℕ) (fault : Fault) → s.export ≡ exports.Path path → Refused h 0 (length h) (mount_call path) fault
      → ((i lane line : ℕ) (op : Op) → At h i (Began lane line op) → ⊥) → TellsMount fault status text → EndsSo s lines h status text

-- The readings that the clock gave were noted, in order, but for the first, which the first xid goes by. At status 7 perhaps the last wasn't noted
-- either. Each operation began right after a reading.
pub record IsClocked (status : ℕ) (given : List ℕ) (h : List Entry) : Type 0 where
  pub first : List ℕ
  pub last : List ℕ
  pub is : given ≡ first ++ (clocks h ++ last)
  pub few : length first ≤ 1
  pub late : length last ≤ 1
  pub whole : status ≢ 7 → last ≡ []
  pub timed : (x lane line : ℕ) (op : Op) → At h x (Began lane line op) → IsTimed h x
