-- How a session goes along its history.
use Rattle.std.specs.Prelude.{◌≡◌, ◌≤◌, ◌<◌, ◌⊎◌, ℕ, suc, List, [], ◌∷◌, ◌++◌, length, drop, slice_get, Some, Result, Ok, Err}
use Rattle.xdr_codec.specs.declared.blob.Memory.{Memory}
use Rattle.world_model.specs.declared.entry.Entry.{Entry}
use Rattle.world_model.specs.declared.entry.Entry.TheVariants.{Began, Answered, Clock}
use Rattle.world_model.specs.declared.answer.Answer.{Answer}
use Rattle.world_model.specs.declared.op.Op.{Op}
use Rattle.world_model.specs.Clocked.{clocks, IsTimed}
use Rattle.world_model.specs.Entries.{At}
use Rattle.world_model.specs.Follows.{begun, marks_of, Alternates, IsFront}
use Rattle.world_model.specs.Transcript.{line_text}
use Rattle.nfs_script.specs.declared.script.ScriptLine.{ScriptLine}
use Rattle.lane_session.specs.declared.lanes.Place.{Place}
use Rattle.lane_session.specs.declared.halt.Halt.{Halt}
use Rattle.lane_session.specs.declared.running.Session.{Session}
use Rattle.lane_session.specs.Bonds.{CoreGoes, CoreWent}
use Rattle.lane_session.specs.LaneMarks.{IsResting}
use Rattle.lane_session.specs.Endings.{entries_of}
use Rattle.lane_session.specs.Labels.{told_by, IsCutIn}
use Rattle.lane_session.specs.Places.{IsPlaced}
use Rattle.lane_session.specs.Statuses.{HasStatus, IsLeft}
use Rattle.lane_session.specs.Streams.{IsFrontOf}
use Rattle.lane_session.specs.TogetherFrom.{TogetherFrom}

-- each operation began right after the clock was read
abbrev pub AllTimed : List Entry → Type 0
AllTimed h = (x lane line : ℕ) (op : Op) → At h x (Began lane line op) → IsTimed h x

-- The lines of the scripts that are done were begun and answered. Each lane is at its place in the script that followed them at the place `from` of the
-- history. The status is that of the answers since then. Whenever a record came since that place, each lane that had a line left had one under way.
pub record Goes (done : List ScriptLine) (from : ℕ) (script : List ScriptLine) (h : List Entry) (s : Session) : Type 0 where
  pub others : (lane : ℕ) → (lane ≡ 0) ⊎ (16 < lane) → (begun lane h ≡ []) × IsResting h lane
  pub placed : (n : ℕ) (p : Place) → slice_get s.lanes n ≡ Some p → IsPlaced done script h (suc n) p
  pub within : from ≤ length h
  pub status : HasStatus (drop from h) s.status
  pub timed : AllTimed h
  pub together : TogetherFrom from (entries_of script) h

-- What is left of that if a session is cut off.
pub record Went (done : List ScriptLine) (from : ℕ) (script : List ScriptLine) (h : List Entry) : Type 0 where
  pub alternates : (lane : ℕ) → Alternates (marks_of lane h)
  pub begins : (lane : ℕ) → IsFront (begun lane h) (begun lane (entries_of (done ++ script)))
  pub timed : AllTimed h
  pub together : TogetherFrom from (entries_of script) h

-- the history goes on
abbrev pub Grows : List Entry → List Entry → Type 0
Grows h k = (more : List Entry) × (k ≡ h ++ more)

-- The readings were noted, the text is that of the answers behind their label, and the session goes on.
pub record GoesOn (label : List ℕ) (script : List ScriptLine) (old new : Session) (given text : List ℕ) (h k : List Entry) : Type 0 where
  pub grown : Grows h k
  pub clocked : clocks k ≡ clocks h ++ given
  pub shown : told_by label k ≡ told_by label h ++ text
  pub goes : (done : List ScriptLine) (from : ℕ) → Goes done from script h old → Goes done from script k new
  pub core : (done : List ScriptLine) (from : ℕ) → Goes done from script h old → CoreGoes old new h k

-- The readings were noted but perhaps the last. The text is that of the answers but perhaps within the line of the last entry. The session went so far.
pub record CutsOff (label : List ℕ) (script : List ScriptLine) (old : Session) (halt : Halt) (given text : List ℕ) (h k : List Entry) : Type 0 where
  pub grown : Grows h k
  pub last : List ℕ
  pub clocked : clocks h ++ given ≡ clocks k ++ last
  pub left : IsLeft halt last
  pub shown : IsCutIn label k (told_by label h ++ text)
  pub went : (done : List ScriptLine) (from : ℕ) → Goes done from script h old → Went done from script k
  pub core : (done : List ScriptLine) (from : ℕ) → Goes done from script h old → CoreWent old h k

abbrev pub GoesBy : {T : Type 0} → List ℕ → List ScriptLine → Session → Session → Result T Halt → List ℕ → List ℕ → List Entry → List Entry → Type 0
GoesBy label script old new (Ok x) given text h k = GoesOn label script old new given text h k
GoesBy label script old new (Err halt) given text h k = CutsOff label script old halt given text h k

-- The script is done, and another one goes on from here.
abbrev pub GoesNext : List ScriptLine → List ScriptLine → Session → Session → Type 0
GoesNext script next old new = (done : List ScriptLine) (from : ℕ) (h : List Entry) → Goes done from script h old → Goes (done ++ script) (length h) next h new

-- ---- single lines

-- The time was noted, and right after it that a line begins; or the one alone, or nothing.
abbrev pub NotesBeginning : ℕ → ℕ → Op → ℕ → Result ℕ Memory → List Entry → List Entry → Type 0
NotesBeginning lane line op ms (Ok now) h k = (now ≡ ms) × (k ≡ h ++ Clock ms ∷ Began lane line op ∷ [])
NotesBeginning lane line op ms (Err e) h k = (k ≡ h) ⊎ (k ≡ h ++ Clock ms ∷ [])

-- The answer was noted, and its line was written behind the label; or a front of the line; or neither.
abbrev pub TellsAnswer : {T : Type 0} → List ℕ → ℕ → ℕ → Answer → Result T Halt → List ℕ → List Entry → List Entry → Type 0
TellsAnswer label lane line answer (Ok x) text h k = (k ≡ h ++ Answered lane line answer ∷ []) × (text ≡ label ++ line_text lane line answer)
TellsAnswer label lane line answer (Err halt) text h k =
    ((k ≡ h) × (text ≡ [])) ⊎ ((k ≡ h ++ Answered lane line answer ∷ []) × IsFrontOf (label ++ line_text lane line answer) text)
