-- The last closes of a history, as the list of them is made.
use Rattle.std.specs.Prelude.{◌≡◌, ◌<◌, ◌+◌, ◌⊎◌, ◌&&◌, nat_lt, ℕ, Bool, true, false, List, [], ◌∷◌, length, Option, Some, None, slice_get, if◌then◌else◌}
use Rattle.world_model.specs.declared.entry.Entry.{Entry}
use Rattle.claims.specs.Modes.{Modes}
use Rattle.trace_claims.specs.declared.courses.Course.{Course}
use Rattle.trace_claims.specs.declared.operations.Hold.{Hold}
use Rattle.trace_claims.specs.declared.operations.Operation.{Operation}
use Rattle.trace_claims.specs.declared.touched.Left.{Left}
use Rattle.trace_claims.specs.Courses.{is_close, ended_before}
use Rattle.trace_claims.specs.Leaving.{left_of, IsHeldAt}

-- it is a close that was answered
abbrev pub closes : List Entry → Operation → Bool
closes h o = is_close o.course.work && ended_before o.course (length h)

-- after the answer of the close no slot holds the file of this hold
abbrev pub IsLeftHold : Modes → List Entry → Course → Hold → Type 0
IsLeftHold m h c hold = IsHeldAt m h (c.ending.end + 1) hold.file → ⊥

-- the last close by a hold of an operation
pub record LeftBy (m : Modes) (h : List Entry) (os : List Operation) (came : List ℕ) (k : ℕ) (l : Left) : Type 0 where
  pub j : ℕ
  pub o : Operation
  pub i : ℕ
  pub hold : Hold
  pub low : j < k
  pub there : slice_get os j ≡ Some o
  pub held : slice_get o.holds.items i ≡ Some hold
  pub close_is : closes h o ≡ true
  pub is : l ≡ left_of os came o.course hold
  pub left : IsLeftHold m h o.course hold

abbrev pub ListsLast : List Left → Left → Type 0
ListsLast ls l = (k : ℕ) × (slice_get ls k ≡ Some l)

-- the list has the last closes by the first k operations, and those alone
pub record LeftsUpTo (m : Modes) (h : List Entry) (os : List Operation) (came : List ℕ) (k : ℕ) (ls : List Left) : Type 0 where
  pub each : (i : ℕ) (l : Left) → slice_get ls i ≡ Some l → LeftBy m h os came k l
  pub every : (j : ℕ) (o : Operation) → slice_get os j ≡ Some o → j < k → closes h o ≡ true → (i : ℕ) (hold : Hold) → slice_get o.holds.items i ≡ Some hold
      → IsLeftHold m h o.course hold
      → ListsLast ls (left_of os came o.course hold)

abbrev pub FromHold : Modes → List Entry → List Operation → List ℕ → Course → List Hold → ℕ → Left → Type 0
FromHold m h os came c holds k l = (j : ℕ) × (hold : Hold) × (j < k) × (slice_get holds j ≡ Some hold) × (l ≡ left_of os came c hold) × IsLeftHold m h c hold

-- a list with those by the first k holds of a close more
pub record AddsLefts (m : Modes) (h : List Entry) (os : List Operation) (came : List ℕ) (c : Course)
    (holds : List Hold) (k : ℕ) (old new : List Left) : Type 0 where
  pub before : (i : ℕ) (l : Left) → slice_get old i ≡ Some l → slice_get new i ≡ Some l
  pub each : (i : ℕ) (l : Left) → slice_get new i ≡ Some l → (slice_get old i ≡ Some l) ⊎ FromHold m h os came c holds k l
  pub every : (j : ℕ) (hold : Hold) → slice_get holds j ≡ Some hold → j < k → IsLeftHold m h c hold → ListsLast new (left_of os came c hold)

abbrev pub FromClose : Modes → List Entry → List Operation → List ℕ → Operation → Left → Type 0
FromClose m h os came o l = (closes h o ≡ true) × FromHold m h os came o.course o.holds.items (length o.holds.items) l

-- the same of an operation, if it is a close that was answered
pub record AddsClose (m : Modes) (h : List Entry) (os : List Operation) (came : List ℕ) (o : Operation) (old new : List Left) : Type 0 where
  pub before : (i : ℕ) (l : Left) → slice_get old i ≡ Some l → slice_get new i ≡ Some l
  pub each : (i : ℕ) (l : Left) → slice_get new i ≡ Some l → (slice_get old i ≡ Some l) ⊎ FromClose m h os came o l
  pub every : closes h o ≡ true → (j : ℕ) (hold : Hold) → slice_get o.holds.items j ≡ Some hold → IsLeftHold m h o.course hold
      → ListsLast new (left_of os came o.course hold)

-- ---- tests

-- the moment after the answer of a close, if it was answered among so many entries
abbrev pub after_close : Course → ℕ → Option ℕ
after_close c count = if is_close c.work && nat_lt c.ending.end count then Some (c.ending.end + 1) else None

abbrev pub left_unless : Bool → Left → List Left
left_unless true l = []
left_unless false l = l ∷ []
