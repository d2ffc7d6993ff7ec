-- What a turn of a session adds to its history, and what is written in it.
use Rattle.std.specs.Prelude.{◌≡◌, ◌⊎◌, ℕ, List, [], ◌∷◌, ◌++◌, Result, Ok, Err}
use Rattle.world_model.specs.declared.entry.Entry.{Entry}
use Rattle.world_model.specs.declared.entry.Entry.TheVariants.{Began, Answered, Clock}
use Rattle.lane_session.specs.declared.halt.Halt.{Halt}
use Rattle.lane_session.specs.Labels.{told_by}
use Rattle.lane_session.specs.Running.{marks}

-- a reading of the clock, or a line that begins or is answered: no dial, nothing sent, nothing that came
abbrev pub IsMark : Entry → Type 0
IsMark (Clock ms) = Unit {0}
IsMark (Began lane line op) = Unit {0}
IsMark (Answered lane line answer) = Unit {0}
IsMark e = ⊥

abbrev pub AreMarks : List Entry → Type 0
AreMarks [] = Unit {0}
AreMarks (e ∷ es) = IsMark e × AreMarks es

-- such entries alone were added
pub record AddsMarks (h k : List Entry) : Type 0 where
  pub more : List Entry
  pub is : k ≡ h ++ more
  pub each : AreMarks more

-- First lines begin and are answered, and nothing is sent. Then records are sent and may come, and no line begins or is answered. The text is that of the
-- answers, all of which stand in the first part.
pub record InTime (label text : List ℕ) (h k : List Entry) : Type 0 where
  pub lines : List Entry
  pub records : List Entry
  pub is : k ≡ h ++ (lines ++ records)
  pub marked : AreMarks lines
  pub unmarked : marks records ≡ []
  pub written : text ≡ told_by label lines

-- the same of a turn that is cut off, perhaps among its lines
abbrev pub WritesInTime : {T : Type 0} → List ℕ → Result T Halt → List ℕ → List Entry → List Entry → Type 0
WritesInTime label (Ok x) text h k = InTime label text h k
WritesInTime label (Err halt) text h k = InTime label text h k ⊎ AddsMarks h k
