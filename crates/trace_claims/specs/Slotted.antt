-- What slots hold, by the operations of a history.
use Rattle.std.specs.Prelude.{◌≡◌, ◌<◌, ◌≤◌, ◌==◌, ◌&&◌, not, max, ℕ, Bool, true}
use Rattle.std.specs.Prelude.{false, List, [], ◌∷◌, Option, Some, None, MatchOption, slice_get, if◌then◌else◌}
use Rattle.world_model.specs.declared.entry.Entry.{Entry}
use Rattle.world_model.specs.declared.entry.Entry.TheVariants.{Began}
use Rattle.world_model.specs.declared.op.Op.{Op}
use Rattle.world_model.specs.Entries.{At}
use Rattle.claims.specs.Modes.{Modes}
use Rattle.trace_claims.specs.declared.courses.Course.{Course}
use Rattle.trace_claims.specs.declared.operations.Hold.{Hold}
use Rattle.trace_claims.specs.declared.slots.Named.{Named}
use Rattle.trace_claims.specs.Courses.{IsCourse, opens, closes, ended_before}
use Rattle.trace_claims.specs.Operations.{FindsFile}

-- ---- tests

-- it opens the slot of the lane and was answered before the place
abbrev pub opens_there : Named → (lane slot place : ℕ) → Bool
opens_there n lane slot place = (n.course.lane == lane) && opens n.course.work slot && ended_before n.course place

-- it closes the slot of the lane and was answered before the place
abbrev pub closes_there : Named → (lane slot place : ℕ) → Bool
closes_there n lane slot place = (n.course.lane == lane) && closes n.course.work slot && ended_before n.course place

-- it was answered before that place, if there is one
abbrev pub ended_before_that : Named → Option ℕ → Bool
ended_before_that n None = false
ended_before_that n (Some place) = ended_before n.course place

-- where it ended, if it closes the slot before the place
abbrev pub close_at : Named → (lane slot place : ℕ) → Option ℕ
close_at n lane slot place = if closes_there n lane slot place then Some n.course.ending.end else None

-- the later of two places, if there is one
abbrev pub later : Option ℕ → Option ℕ → Option ℕ
later None b = b
later (Some a) None = Some a
later (Some a) (Some b) = Some (max a b)

abbrev pub hold_of : Named → Option (List ℕ) → Option Hold
hold_of n None = None
hold_of n (Some f) = Some (record { opened_at = n.course.place; file = f })

-- what the slot holds by this open before the place, if that is its last close
abbrev pub hold_by : Named → (lane slot place : ℕ) → Option ℕ → Option Hold
hold_by n lane slot place closed = if opens_there n lane slot place && not (ended_before_that n closed) then hold_of n n.file else None

abbrev pub list_of : Option Hold → List Hold
list_of None = []
list_of (Some hold) = hold ∷ []

-- ---- the last close

-- of the first k operations none closes the slot before the place
abbrev pub NoneCloses : List Named → (lane slot place k : ℕ) → Type 0
NoneCloses ns lane slot place k = (j : ℕ) (n : Named) → slice_get ns j ≡ Some n → j < k → closes_there n lane slot place ≡ false

-- of the first k operations the last close of the slot before the place was answered there
pub record IsLastClose (ns : List Named) (lane slot place k at : ℕ) : Type 0 where
  pub j : ℕ
  pub n : Named
  pub is : slice_get ns j ≡ Some n
  pub closes : closes_there n lane slot place ≡ true
  pub there : n.course.ending.end ≡ at
  pub most : (i : ℕ) (o : Named) → slice_get ns i ≡ Some o → i < k → closes_there o lane slot place ≡ true → o.course.ending.end ≤ at

abbrev pub LastClose : List Named → (lane slot place k : ℕ) → Option ℕ → Type 0
LastClose ns lane slot place k last = MatchOption last (NoneCloses ns lane slot place k) (IsLastClose ns lane slot place k)

-- ---- what a slot holds

abbrev pub HoldFrom : List Named → (lane slot place : ℕ) → Option ℕ → (k : ℕ) → Hold → Type 0
HoldFrom ns lane slot place closed k hold = (j : ℕ) × (n : Named) × (j < k) × (slice_get ns j ≡ Some n) × (hold_by n lane slot place closed ≡ Some hold)

abbrev pub HasHoldAt : List Hold → Hold → Type 0
HasHoldAt holds hold = (i : ℕ) × (slice_get holds i ≡ Some hold)

-- the list has what the slot holds by the first k operations, and that alone
pub record HoldsUpTo (ns : List Named) (lane slot place : ℕ) (closed : Option ℕ) (k : ℕ) (holds : List Hold) : Type 0 where
  pub each : (i : ℕ) (hold : Hold) → slice_get holds i ≡ Some hold → HoldFrom ns lane slot place closed k hold
  pub every : (j : ℕ) (n : Named) (hold : Hold) → slice_get ns j ≡ Some n → j < k → hold_by n lane slot place closed ≡ Some hold → HasHoldAt holds hold

pub record HoldsBy (ns : List Named) (lane slot place k : ℕ) (holds : List Hold) : Type 0 where
  pub closed : Option ℕ
  pub last : LastClose ns lane slot place k closed
  pub has : HoldsUpTo ns lane slot place closed k holds

-- ---- the operations of a history, with the file of each open and put that succeeded

pub record IsNamed (m : Modes) (h : List Entry) (n : Named) : Type 0 where
  pub course : IsCourse h n.course
  pub file : FindsFile m h n.course n.file

-- this operation, with its file
pub record IsNamedOf (m : Modes) (h : List Entry) (c : Course) (n : Named) : Type 0 where
  pub course_is : n.course ≡ c
  pub file : FindsFile m h c n.file

abbrev pub ListsNamed : List Named → ℕ → Type 0
ListsNamed ns x = (k : ℕ) × (n : Named) × (slice_get ns k ≡ Some n) × (n.course.place ≡ x)

pub record HasNamed (m : Modes) (h : List Entry) (ns : List Named) : Type 0 where
  pub each : (k : ℕ) (n : Named) → slice_get ns k ≡ Some n → IsNamed m h n
  pub every : (x lane line : ℕ) (op : Op) → At h x (Began lane line op) → ListsNamed ns x
