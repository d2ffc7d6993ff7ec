-- The lines of a session that was lost before any began.
use Rattle.std.specs.Prelude.{◌≡◌, ◌==◌, ℕ, zero, suc, List, [], ◌∷◌, ◌++◌, filter, take, slice_get, Some, Result, Ok, Err}
use Rattle.world_model.specs.declared.answer.Answer.TheVariants as answers
use Rattle.world_model.specs.declared.answer.Fault.TheVariants as faults
use Rattle.world_model.specs.declared.entry.Entry.{Entry}
use Rattle.world_model.specs.declared.entry.Entry.TheVariants.{Began, Answered, Clock}
use Rattle.world_model.specs.Clocked.{clocks}
use Rattle.world_model.specs.Entries.{At}
use Rattle.nfs_script.specs.declared.script.ScriptLine.{ScriptLine}
use Rattle.lane_session.specs.declared.halt.Halt.{Halt}
use Rattle.lane_session.specs.Labels.{told_by, IsCutIn}
use Rattle.lane_session.specs.Statuses.{IsLeft}

-- the lines of a lane, in the order of the script
abbrev pub of_lane : ℕ → List ScriptLine → List ScriptLine
of_lane lane script = filter (λ (l : ScriptLine). l.lane == lane) script

-- the lines of the lanes from 1 to this one, lane after lane
unfoldable pub by_lanes : ℕ → List ScriptLine → List ScriptLine
by_lanes zero script = []
by_lanes (suc n) script = by_lanes n script ++ of_lane (suc n) script

-- a line began at the reading, and was answered that the session is lost
abbrev pub lost_line : ScriptLine → ℕ → List Entry
lost_line l ms = Clock ms ∷ Began l.lane l.line l.op ∷ Answered l.lane l.line (answers.Refused faults.Lost) ∷ []

-- each of these lines did, in their order
pub data LostLines : List ScriptLine → List Entry → Type 0 where
  no_line : (script : List ScriptLine) (es : List Entry) → script ≡ [] → es ≡ [] → LostLines script es
  one_line : (script before : List ScriptLine) (es more : List Entry) (l : ScriptLine) (ms : ℕ) → script ≡ before ++ l ∷ [] → es ≡ more ++ lost_line l ms
      → LostLines before more → LostLines script es

-- a front of what a further line adds
pub data LostPart (l : ScriptLine) (es : List Entry) : Type 0 where
  nothing : es ≡ [] → LostPart l es
  timed : (ms : ℕ) → es ≡ Clock ms ∷ [] → LostPart l es
  begun : (ms : ℕ) → es ≡ Clock ms ∷ Began l.lane l.line l.op ∷ [] → LostPart l es
  answered : (ms : ℕ) → es ≡ lost_line l ms → LostPart l es

-- All readings were noted but perhaps the last, and the text is that of the answers, but perhaps within the line of the last entry.
pub record IsToldOf (label : List ℕ) (halt : Halt) (given text : List ℕ) (es : List Entry) : Type 0 where
  pub last : List ℕ
  pub clocked : given ≡ clocks es ++ last
  pub left : IsLeft halt last
  pub shown : IsCutIn label es text

abbrev pub LosesLine : List ℕ → List ScriptLine → ℕ → Result (Unit {0}) Halt → List ℕ → List ℕ → List Entry → List Entry → Type 0
LosesLine label script at (Ok u) given text h k =
    (l : ScriptLine) × (slice_get script at ≡ Some l) × ((ms : ℕ) × (k ≡ h ++ lost_line l ms) × (given ≡ ms ∷ []) × (text ≡ told_by label (lost_line l ms)))
LosesLine label script at (Err halt) given text h k =
    (l : ScriptLine) × (slice_get script at ≡ Some l) × ((es : List Entry) × (k ≡ h ++ es) × LostPart l es × IsToldOf label halt given text es)

-- All these lines were begun and answered so, in their order; or the first ones, and then a front of what a further one adds.
abbrev pub LosesBy : List ℕ → List ScriptLine → Result (Unit {0}) Halt → List ℕ → List ℕ → List Entry → List Entry → Type 0
LosesBy label script (Ok u) given text h k = (es : List Entry) × (k ≡ h ++ es) × LostLines script es × (given ≡ clocks es) × (text ≡ told_by label es)
LosesBy label script (Err halt) given text h k = (n : ℕ) × (l : ScriptLine) × (slice_get script n ≡ Some l)
    × ((es part : List Entry) × (k ≡ h ++ (es ++ part)) × LostLines (take n script) es × LostPart l part × IsToldOf label halt given text (es ++ part))

-- the status of a session that was lost before: 6, and 0 if no line was answered so
abbrev pub status_of : List ScriptLine → ℕ
status_of [] = 0
status_of (l ∷ ls) = 6

-- ---- what such a session adds to its history

-- a reading of the clock, the beginning of a line, or an answer that the session is lost
abbrev pub IsLosing : Entry → Type 0
IsLosing (Clock ms) = Unit {0}
IsLosing (Began lane line op) = Unit {0}
IsLosing (Answered lane line answer) = answer ≡ answers.Refused faults.Lost
IsLosing e = ⊥

-- The history goes on with such entries alone; of a script without lines with none.
pub record LosesOnly (script : List ScriptLine) (h k : List Entry) : Type 0 where
  pub more : List Entry
  pub is : k ≡ h ++ more
  pub each : (i : ℕ) (e : Entry) → At more i e → IsLosing e
  pub none : script ≡ [] → more ≡ []
