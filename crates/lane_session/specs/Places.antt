-- Where the lanes are in the script.
use Rattle.std.specs.Prelude.{◌≡◌, ◌≤◌, ◌<◌, ◌+◌, ◌-◌, ◌*◌, ℕ, List, [], ◌∷◌, ◌++◌, length, take, slice_get, slice_set, Option, Some, None}
use Rattle.world_model.specs.declared.entry.Entry.{Entry}
use Rattle.world_model.specs.Follows.{begun}
use Rattle.nfs_script.specs.declared.script.ScriptLine.{ScriptLine}
use Rattle.lane_session.specs.declared.lanes.Place.{Place}
use Rattle.lane_session.specs.Endings.{entries_of}
use Rattle.lane_session.specs.LaneMarks.{IsRunning, IsResting}

-- a lane's place
abbrev pub PlaceAt : List Place → ℕ → Place → Type 0
PlaceAt places lane p = slice_get places (lane - 1) ≡ Some p

-- the line of the lane at the place, or the end of the script
abbrev pub FoundAt : List ScriptLine → ℕ → ℕ → Option ℕ → Type 0
FoundAt script lane at None = at ≡ length script
FoundAt script lane at (Some found) = (found ≡ at) × ((l : ScriptLine) × (slice_get script at ≡ Some l) × (l.lane ≡ lane))

-- The first line of the lane from a place on stands there; or there is none, and the place is the end of the script.
pub record IsNext (script : List ScriptLine) (lane from at : ℕ) : Type 0 where
  pub after : from ≤ at
  pub within : at ≤ length script
  pub others : (k : ℕ) (l : ScriptLine) → slice_get script k ≡ Some l → from ≤ k → k < at → l.lane ≡ lane → ⊥
  pub own : (l : ScriptLine) → slice_get script at ≡ Some l → l.lane ≡ lane

pub record Seeks (script : List ScriptLine) (lane : ℕ) (old : List Place) (result : Option ℕ) (new : List Place) : Type 0 where
  pub before : Place
  pub there : PlaceAt old lane before
  pub at : ℕ
  pub next : IsNext script lane before.next at
  pub found : FoundAt script lane at result
  pub is : new ≡ slice_set old (lane - 1) (record before { next = at })

-- the lane's line has its answer
pub record Ends (lane : ℕ) (old new : List Place) : Type 0 where
  pub before : Place
  pub there : PlaceAt old lane before
  pub is : new ≡ slice_set old (lane - 1) (record before { line = None })

-- no line is under way
abbrev pub AreIdle : List Place → Type 0
AreIdle places = (n : ℕ) (p : Place) → slice_get places n ≡ Some p → p.line ≡ None

-- no lane has a line left to begin, but for those with a line under way
abbrev pub AreBegun : ℕ → List Place → Type 0
AreBegun count places = (n : ℕ) (p : Place) → slice_get places n ≡ Some p → p.line ≡ None → p.next ≡ count

-- ---- how much is left

abbrev pub one_if : Option ℕ → ℕ
one_if None = 0
one_if (Some line) = 1

-- the lines of the script that aren't begun, twice, and those under way, for each lane
abbrev pub lines_left : ℕ → List Place → ℕ
lines_left count [] = 0
lines_left count (p ∷ ps) = 2 * (count - p.next) + one_if p.line + lines_left count ps

-- so many lines at most were begun
abbrev pub passed : List Place → ℕ
passed [] = 0
passed (p ∷ ps) = p.next + passed ps

-- ---- what a history shows of a lane

abbrev pub IsOpen : List Entry → ℕ → Option ℕ → Type 0
IsOpen h lane None = IsResting h lane
IsOpen h lane (Some line) = IsRunning h lane line

-- The lane began its lines of the scripts that are done, then those of this one up to its place; and the line that is under way is the last one.
pub record IsPlaced (done script : List ScriptLine) (h : List Entry) (lane : ℕ) (p : Place) : Type 0 where
  pub begins : begun lane h ≡ begun lane (entries_of (done ++ take p.next script))
  pub open_line : IsOpen h lane p.line
