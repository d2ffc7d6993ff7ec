-- How a session ends, by its history: its lines, the status, what was written, and which readings of the clock were noted.
use Rattle.std.specs.Prelude.{◌≡◌, ◌≢◌, ◌≤◌, ◌++◌, ℕ, Bool, List, [], ◌∷◌, length, map, if◌then◌else◌}
use Rattle.world_model.specs.declared.answer.Answer.{Answer}
use Rattle.world_model.specs.declared.entry.Entry.{Entry}
use Rattle.world_model.specs.declared.entry.Entry.TheVariants.{Began, Answered}
use Rattle.world_model.specs.declared.tally.Tally.{Tally}
use Rattle.world_model.specs.Clocked.{clocks}
use Rattle.world_model.specs.Counts.{tally_text}
use Rattle.world_model.specs.Follows.{Finishes, IsFront}
use Rattle.world_model.specs.Transcript.{transcript, line_text}
use Rattle.nfs_script.specs.declared.script.ScriptLine.{ScriptLine}
use Rattle.lane_session.specs.Statuses.{HasStatus, IsCutOff}

-- the entries that begin the lines of a script
abbrev pub entries_of : List ScriptLine → List Entry
entries_of script = map (λ l. Began l.lane l.line l.op) script

-- Each line was begun and answered, and the status is that of the answers; or the session was cut off.
pub data EndsAs (script : List ScriptLine) (k : List Entry) (status : ℕ) : Type 0 where
  whole : Finishes (entries_of script) k → HasStatus k status → EndsAs script k status
  cut : IsCutOff status → EndsAs script k status

-- the line of counts, if it is wanted
abbrev pub counts_text : Bool → Tally → List ℕ
counts_text count tally = if count then tally_text tally else []

-- The answers and the counts were written. If the session was cut off, this was while the counts were written, or the line of the last entry, an answer: each
-- line is written before anything else is noted, sent or received.
pub data TextOf (count : Bool) (tally : Tally) (k : List Entry) (status : ℕ) (text : List ℕ) : Type 0 where
  whole_text : text ≡ transcript k ++ counts_text count tally → TextOf count tally k status text
  counts_cut : IsCutOff status → (front : List ℕ) → text ≡ transcript k ++ front → IsFront front (counts_text count tally) → TextOf count tally k status text
  line_cut : IsCutOff status → (before : List Entry) (lane line : ℕ) (answer : Answer) (front : List ℕ) → k ≡ before ++ Answered lane line answer ∷ []
      → text ≡ transcript before ++ front → IsFront front (line_text lane line answer) → TextOf count tally k status text

-- The readings that the clock gave were noted, in order, but at status 7 perhaps the last.
pub record NotesAll (status : ℕ) (given : List ℕ) (h k : List Entry) : Type 0 where
  pub last : List ℕ
  pub is : clocks h ++ given ≡ clocks k ++ last
  pub few : length last ≤ 1
  pub whole : status ≢ 7 → last ≡ []
