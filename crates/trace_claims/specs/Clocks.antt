-- From which moment on a read may show what its file was, by the clock's readings.
use Rattle.std.specs.Prelude.{◌<◌, ◌≤◌, ◌+◌, ◌-◌, ◌||◌, nat_lt, max, ℕ, Bool, true, false, List, Option, Some, None, MatchOption, slice_get}
use Rattle.std.specs.Prelude.{if◌then◌else◌}
use Rattle.world_model.specs.declared.entry.Entry.{Entry}
use Rattle.world_model.specs.declared.entry.Entry.TheVariants.{Began, Answered, Dialed, Sent, Executed, Foreign, Flushed, Reboot, Delivered, Failed, Clock}
use Rattle.world_model.specs.Entries.{At}
use Rattle.claims.specs.ReadTrue.{Since}
use Rattle.trace_data.specs.declared.trace.Trace.{Trace}
use Rattle.trace_claims.specs.Modes.{modes_of}

abbrev pub clock_of : Entry → Option ℕ
clock_of (Clock ms) = Some ms
clock_of (Began lane line op) = None
clock_of (Answered lane line answer) = None
clock_of (Dialed port) = None
clock_of (Sent bytes) = None
clock_of (Executed xid call reply) = None
clock_of (Foreign call reply) = None
clock_of (Flushed file from len) = None
clock_of (Reboot verf) = None
clock_of (Delivered bytes) = None
clock_of Failed = None

abbrev pub clock_there : Option Entry → Option ℕ
clock_there None = None
clock_there (Some e) = clock_of e

-- the reading of the clock at the place
unfoldable pub clock_at : List Entry → ℕ → Option ℕ
clock_at h i = clock_there (slice_get h i)

-- the greater of two readings, if there is one
abbrev pub later : Option ℕ → Option ℕ → Option ℕ
later None b = b
later (Some a) None = Some a
later (Some a) (Some b) = Some (max a b)

-- ---- the latest reading before a place

abbrev pub NoClock : List Entry → ℕ → Type 0
NoClock h n = (j ms : ℕ) → At h j (Clock ms) → j < n → ⊥

pub record IsLatest (h : List Entry) (n ms : ℕ) : Type 0 where
  pub j : ℕ
  pub there : At h j (Clock ms)
  pub before : j < n
  pub most : (k other : ℕ) → At h k (Clock other) → k < n → other ≤ ms

abbrev pub LatestClock : List Entry → ℕ → Option ℕ → Type 0
LatestClock h n latest = MatchOption latest (NoClock h n) (IsLatest h n)

-- ---- young readings

abbrev pub young_by : ℕ → Option ℕ → ℕ → Bool
young_by ms None longest = true
young_by ms (Some later) longest = nat_lt later ms || nat_lt (later - ms) longest

abbrev pub young_reading : Option ℕ → Option ℕ → ℕ → Bool
young_reading None latest longest = false
young_reading (Some ms) latest longest = young_by ms latest longest

abbrev pub is_young : List Entry → ℕ → Option ℕ → ℕ → Bool
is_young h i latest longest = young_reading (clock_at h i) latest longest

-- at the place i the clock's reading is less than the longest before each reading before the place o
pub record YoungAt (h : List Entry) (o longest i : ℕ) : Type 0 where
  pub ms : ℕ
  pub read : At h i (Clock ms)
  pub young : (j later : ℕ) → At h j (Clock later) → j < o → later < ms + longest

abbrev pub NoneYoung : List Entry → (o longest : ℕ) → Type 0
NoneYoung h o longest = (i : ℕ) → YoungAt h o longest i → ⊥

pub record IsFirstYoung (h : List Entry) (o longest i : ℕ) : Type 0 where
  pub is : YoungAt h o longest i
  pub first : (j : ℕ) → YoungAt h o longest j → i ≤ j

-- ---- moments

-- the place after one, at most so far
abbrev pub after_within : (at most : ℕ) → ℕ
after_within at most = if nat_lt at most then at + 1 else most

-- the moment n isn't before the open, or comes after such a reading
pub data KeptBy (h : List Entry) (o longest n : ℕ) : Type 0 where
  by_open : o ≤ n → KeptBy h o longest n
  by_clock : (i : ℕ) → YoungAt h o longest i → i < n → KeptBy h o longest n

-- the moment s is the first that isn't before the open, or that comes after such a reading
pub record SinceKept (h : List Entry) (o longest s : ℕ) : Type 0 where
  pub opened : s ≤ o
  pub young : (i : ℕ) → YoungAt h o longest i → s ≤ i + 1
  pub least : (n : ℕ) → s ≤ n → KeptBy h o longest n

-- the moment s is the first that a read may show
pub record IsSince (t : Trace) (r o s : ℕ) : Type 0 where
  pub late : (n : ℕ) → Since (modes_of t) t.entries.items r o n → s ≤ n
  pub early : (n : ℕ) → s ≤ n → Since (modes_of t) t.entries.items r o n
