-- Reads that succeeded: what they show, and what their file was at the moments that they may show.
use Rattle.std.specs.Prelude.{◌≡◌, ◌<◌, ◌≤◌, ◌⊎◌, ◌&&◌, ℕ, Bool, true, false, List, [], length, Option, Some, None, slice_get}
use Rattle.world_model.specs.declared.answer.Answer.{Answer}
use Rattle.world_model.specs.declared.answer.Answer.TheVariants.{Done, Refused}
use Rattle.world_model.specs.declared.answer.Value.{Value}
use Rattle.world_model.specs.declared.answer.Value.TheVariants as values
use Rattle.world_model.specs.declared.entry.Entry.{Entry}
use Rattle.world_model.specs.declared.entry.Entry.TheVariants.{Began, Answered, Dialed, Sent, Executed, Foreign, Flushed, Reboot, Delivered, Failed, Clock}
use Rattle.claims.specs.Modes.{Modes}
use Rattle.claims.specs.ReadTrue.{ReadsBytes, Since}
use Rattle.trace_data.specs.declared.trace.Trace.{Trace}
use Rattle.trace_claims.specs.declared.readings.Reading.{Reading}
use Rattle.trace_claims.specs.declared.courses.Course.{Course}
use Rattle.trace_claims.specs.declared.courses.Work.{Work}
use Rattle.trace_claims.specs.declared.courses.Work.TheVariants as works
use Rattle.trace_claims.specs.declared.operations.Hold.{Hold}
use Rattle.trace_claims.specs.declared.operations.Operation.{Operation}
use Rattle.trace_claims.specs.Clocks.{IsSince}
use Rattle.trace_claims.specs.Courses.{is_read, is_done}
use Rattle.trace_claims.specs.Objects.{HasWindow}

-- ---- the bytes of an answer

abbrev pub value_bytes : Value → List ℕ
value_bytes (values.Bytes bytes) = bytes
value_bytes value = []

abbrev pub done_bytes : Answer → List ℕ
done_bytes (Done value) = value_bytes value
done_bytes (Refused fault) = []

abbrev pub entry_bytes : Entry → List ℕ
entry_bytes (Answered lane line answer) = done_bytes answer
entry_bytes (Began lane line op) = []
entry_bytes (Dialed port) = []
entry_bytes (Sent bytes) = []
entry_bytes (Executed xid call reply) = []
entry_bytes (Foreign call reply) = []
entry_bytes (Flushed file from len) = []
entry_bytes (Reboot verf) = []
entry_bytes (Delivered bytes) = []
entry_bytes Failed = []
entry_bytes (Clock ms) = []

abbrev pub answer_there : Option Entry → List ℕ
answer_there None = []
answer_there (Some e) = entry_bytes e

unfoldable pub answer_bytes : List Entry → ℕ → List ℕ
answer_bytes h y = answer_there (slice_get h y)

-- ---- whether an answer has bytes

abbrev pub has_value : Value → Bool
has_value (values.Bytes bytes) = true
has_value value = false

abbrev pub has_done : Answer → Bool
has_done (Done value) = has_value value
has_done (Refused fault) = false

abbrev pub has_entry : Entry → Bool
has_entry (Answered lane line answer) = has_done answer
has_entry (Began lane line op) = false
has_entry (Dialed port) = false
has_entry (Sent bytes) = false
has_entry (Executed xid call reply) = false
has_entry (Foreign call reply) = false
has_entry (Flushed file from len) = false
has_entry (Reboot verf) = false
has_entry (Delivered bytes) = false
has_entry Failed = false
has_entry (Clock ms) = false

abbrev pub has_there : Option Entry → Bool
has_there None = false
has_there (Some e) = has_entry e

unfoldable pub has_bytes : List Entry → ℕ → Bool
has_bytes h y = has_there (slice_get h y)

-- the operation is a read that succeeded and whose answer has bytes
abbrev pub reads : List Entry → Course → Bool
reads h c = is_read c.work && is_done c (length h) && has_bytes h c.ending.end

abbrev pub offset_of : Work → ℕ
offset_of (works.Read slot offset count) = offset
offset_of work = 0

abbrev pub count_of : Work → ℕ
count_of (works.Read slot offset count) = count
count_of work = 0

-- ---- the list as it is made

-- the reading of an operation and of one that its slot held
pub record ReadingSo (t : Trace) (c : Course) (hold : Hold) (r : Reading) : Type 0 where
  pub place_is : r.place ≡ c.place
  pub end_is : r.end ≡ c.ending.end
  pub file_is : r.file ≡ hold.file
  pub offset_is : r.offset ≡ offset_of c.work
  pub count_is : r.count ≡ count_of c.work
  pub since : ℕ
  pub is : IsSince t c.place hold.opened_at since
  pub has : since ≤ c.ending.end → HasWindow t hold.file since c.ending.end r.window.items

-- it is one of the first k of them
abbrev pub FromHold : Trace → Course → List Hold → ℕ → Reading → Type 0
FromHold t c holds k r = (j : ℕ) × (hold : Hold) × (j < k) × (slice_get holds j ≡ Some hold) × ReadingSo t c hold r

abbrev pub ListsHold : Trace → Course → List Reading → Hold → Type 0
ListsHold t c rs hold = (i : ℕ) × (r : Reading) × (slice_get rs i ≡ Some r) × ReadingSo t c hold r

-- a list with a reading of each of the first k more
pub record AddsOfHolds (t : Trace) (c : Course) (holds : List Hold) (k : ℕ) (old new : List Reading) : Type 0 where
  pub before : (i : ℕ) (r : Reading) → slice_get old i ≡ Some r → slice_get new i ≡ Some r
  pub each : (i : ℕ) (r : Reading) → slice_get new i ≡ Some r → (slice_get old i ≡ Some r) ⊎ FromHold t c holds k r
  pub every : (j : ℕ) (hold : Hold) → slice_get holds j ≡ Some hold → j < k → ListsHold t c new hold

abbrev pub FromRead : Trace → Operation → ℕ → Reading → Type 0
FromRead t o k r = (reads t.entries.items o.course ≡ true) × FromHold t o.course o.holds.items k r

-- the same of an operation, if it is such a read
pub record AddsReadings (t : Trace) (o : Operation) (k : ℕ) (old new : List Reading) : Type 0 where
  pub before : (i : ℕ) (r : Reading) → slice_get old i ≡ Some r → slice_get new i ≡ Some r
  pub each : (i : ℕ) (r : Reading) → slice_get new i ≡ Some r → (slice_get old i ≡ Some r) ⊎ FromRead t o k r
  pub every : reads t.entries.items o.course ≡ true → (j : ℕ) (hold : Hold) → slice_get o.holds.items j ≡ Some hold → j < k → ListsHold t o.course new hold

-- one of the first k operations is such a read, with this reading
abbrev pub FromOperation : Trace → List Operation → ℕ → Reading → Type 0
FromOperation t os k r = (j : ℕ) × (o : Operation) × (j < k) × (slice_get os j ≡ Some o) × FromRead t o (length o.holds.items) r

-- the list has the readings of the first k operations
pub record ReadingsOf (t : Trace) (os : List Operation) (k : ℕ) (rs : List Reading) : Type 0 where
  pub each : (i : ℕ) (r : Reading) → slice_get rs i ≡ Some r → FromOperation t os k r
  pub every : (j : ℕ) (o : Operation) → slice_get os j ≡ Some o → j < k → reads t.entries.items o.course ≡ true → (i : ℕ) (hold : Hold)
      → slice_get o.holds.items i ≡ Some hold → ListsHold t o.course rs hold

-- ---- readings

-- the read that succeeded, of its file in an open that began at the place o
pub record IsReading (m : Modes) (t : Trace) (o : ℕ) (r : Reading) : Type 0 where
  pub reads : ReadsBytes m t.entries.items r.place r.end o r.file r.offset r.count (answer_bytes t.entries.items r.end)
  pub since : ℕ
  pub late : (n : ℕ) → Since m t.entries.items r.place o n → since ≤ n
  pub early : (n : ℕ) → since ≤ n → Since m t.entries.items r.place o n
  pub has : HasWindow t r.file since r.end r.window.items

-- the list has this read
pub record ListsReading (m : Modes) (t : Trace) (rs : List Reading) (x y o : ℕ) (f : List ℕ) (offset count : ℕ) (bytes : List ℕ) : Type 0 where
  pub k : ℕ
  pub r : Reading
  pub at : slice_get rs k ≡ Some r
  pub is : IsReading m t o r
  pub place_is : r.place ≡ x
  pub end_is : r.end ≡ y
  pub file_is : r.file ≡ f
  pub offset_is : r.offset ≡ offset
  pub count_is : r.count ≡ count
  pub bytes_are : answer_bytes t.entries.items y ≡ bytes

-- the list has all reads that succeeded, with each file and open, and those alone
pub record HasReadings (m : Modes) (t : Trace) (rs : List Reading) : Type 0 where
  pub each : (k : ℕ) (r : Reading) → slice_get rs k ≡ Some r → (o : ℕ) × IsReading m t o r
  pub every : (x y o : ℕ) (f : List ℕ) (offset count : ℕ) (bytes : List ℕ) → ReadsBytes m t.entries.items x y o f offset count bytes
      → ListsReading m t rs x y o f offset count bytes
