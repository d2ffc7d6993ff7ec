-- What operations do, and how they went.
use Rattle.std.specs.Prelude.{◌≡◌, ◌<◌, ◌+◌, ◌&&◌, ◌==◌, nat_lt, nat_le, ℕ, Bool, true, false, List, [], ◌∷◌, length, Option, Some, None, slice_get}
use Rattle.world_model.specs.declared.entry.Entry.{Entry}
use Rattle.world_model.specs.declared.entry.Entry.TheVariants.{Began}
use Rattle.world_model.specs.declared.op.Op.{Op}
use Rattle.world_model.specs.declared.op.Op.TheVariants as ops
use Rattle.world_model.specs.Entries.{At}
use Rattle.trace_claims.specs.declared.courses.Work.{Work}
use Rattle.trace_claims.specs.declared.courses.Work.TheVariants as works
use Rattle.trace_claims.specs.declared.courses.Course.{Course}
use Rattle.trace_claims.specs.declared.endings.Outcome.{Outcome}
use Rattle.trace_claims.specs.declared.endings.Outcome.TheVariants as outcomes
use Rattle.trace_claims.specs.Endings.{EndsSo}

-- ---- what an operation does to a file's bytes

abbrev pub work_of : Op → Work
work_of (ops.OpenFile slot mode path) = works.Open slot
work_of (ops.Read slot offset count) = works.Read slot offset count
work_of (ops.Write slot offset bytes) = works.Write slot offset (length bytes)
work_of (ops.Fill slot offset count byte) = works.Write slot offset count
work_of (ops.Put path offset bytes) = works.Put offset (length bytes)
work_of (ops.Sync slot) = works.Sync slot
work_of (ops.Close slot) = works.Close slot
work_of (ops.Truncate slot size) = works.Truncate slot size
work_of op = works.Other

-- the slot that it works on
abbrev pub slot_of_work : Work → Option ℕ
slot_of_work (works.Read slot offset count) = Some slot
slot_of_work (works.Write slot offset count) = Some slot
slot_of_work (works.Sync slot) = Some slot
slot_of_work (works.Close slot) = Some slot
slot_of_work (works.Truncate slot size) = Some slot
slot_of_work work = None

-- it opens the slot
abbrev pub opens : Work → ℕ → Bool
opens (works.Open its) slot = its == slot
opens work slot = false

-- it closes the slot
abbrev pub closes : Work → ℕ → Bool
closes (works.Close its) slot = its == slot
closes work slot = false

abbrev pub is_open : Work → Bool
is_open (works.Open its) = true
is_open work = false

abbrev pub is_close : Work → Bool
is_close (works.Close its) = true
is_close work = false

abbrev pub is_put : Work → Bool
is_put (works.Put offset count) = true
is_put work = false

-- a write or fill
abbrev pub is_write : Work → Bool
is_write (works.Write slot offset count) = true
is_write work = false

abbrev pub is_read : Work → Bool
is_read (works.Read slot offset count) = true
is_read work = false

-- the size of a truncate
abbrev pub cut_size : Work → Option ℕ
cut_size (works.Truncate slot size) = Some size
cut_size work = None

-- the place is one of so many from the offset on
abbrev pub within : ℕ → ℕ → ℕ → Bool
within offset count i = nat_le offset i && nat_lt i (offset + count)

-- the places that it writes, from the first to past the last
abbrev pub range : Work → Option (ℕ × ℕ)
range (works.Write slot offset count) = Some (offset, offset + count)
range (works.Put offset count) = Some (offset, offset + count)
range work = None

-- it writes the place i
abbrev pub covers : Work → ℕ → Bool
covers (works.Write slot offset count) i = within offset count i
covers (works.Put offset count) i = within offset count i
covers work i = false

-- ---- how it went

-- it was answered before the place n
abbrev pub ended_before : Course → ℕ → Bool
ended_before c n = nat_lt c.ending.end n

abbrev pub succeeds : Outcome → Bool
succeeds outcomes.Done = true
succeeds outcomes.Refused = false
succeeds outcomes.Unanswered = false

abbrev pub fails : Outcome → Bool
fails outcomes.Done = false
fails outcomes.Refused = true
fails outcomes.Unanswered = false

-- it succeeded before the place n
abbrev pub is_done : Course → ℕ → Bool
is_done c n = succeeds c.ending.outcome && nat_lt c.ending.end n

-- it was refused before the place n
abbrev pub is_refused : Course → ℕ → Bool
is_refused c n = fails c.ending.outcome && nat_lt c.ending.end n

-- ---- the operations of a history

-- The operation of the history that began at its place: what it does, and how it ended.
pub record IsCourse (h : List Entry) (c : Course) : Type 0 where
  pub line : ℕ
  pub op : Op
  pub began : At h c.place (Began c.lane line op)
  pub does : c.work ≡ work_of op
  pub ends : EndsSo h c.place c.ending

pub record IsCourseAt (h : List Entry) (x : ℕ) (c : Course) : Type 0 where
  pub is : IsCourse h c
  pub there : c.place ≡ x

-- no operation begins at the place x
abbrev pub NoneBegins : List Entry → ℕ → Type 0
NoneBegins h x = (lane line : ℕ) (op : Op) → At h x (Began lane line op) → ⊥

-- the list has the operation that began at the place x
abbrev pub Lists : List Course → ℕ → Type 0
Lists cs x = (k : ℕ) × (c : Course) × (slice_get cs k ≡ Some c) × (c.place ≡ x)

-- The list has all operations that began before the place n, and operations of the history alone.
pub record HasCourses (h : List Entry) (n : ℕ) (cs : List Course) : Type 0 where
  pub each : (k : ℕ) (c : Course) → slice_get cs k ≡ Some c → IsCourse h c
  pub every : (x lane line : ℕ) (op : Op) → At h x (Began lane line op) → x < n → Lists cs x

abbrev pub list_of : Option Course → List Course
list_of None = []
list_of (Some c) = c ∷ []
