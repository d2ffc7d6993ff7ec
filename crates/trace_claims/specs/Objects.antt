-- What a file was at a moment, by the trace.
use Rattle.std.specs.Prelude.{◌≡◌, ◌≤◌, nat_le, ℕ, Bool, true, false, List, [], length, Option, Some, None, slice_get}
use Rattle.trace_data.specs.declared.trace.Trace.{Trace}
use Rattle.trace_data.specs.declared.trace.Object.{Object}
use Rattle.trace_data.specs.declared.trace.Contents.{Contents}
use Rattle.trace_data.specs.declared.trace.Contents.TheVariants.{File, Directory, Other}
use Rattle.trace_data.specs.Histories.{object_at, objects_after, named}

-- the object under the handle at a moment
abbrev pub object_of_trace : Trace → ℕ → List ℕ → Option Object
object_of_trace t n f = object_at t.start.objects.items t.updates.items n f

abbrev pub now_of : Contents → List ℕ
now_of (File now stable) = now
now_of (Directory entries) = []
now_of (Other text) = []

abbrev pub stable_of : Contents → List ℕ
stable_of (File now stable) = stable
stable_of (Directory entries) = []
stable_of (Other text) = []

abbrev pub now_in : Option Object → List ℕ
now_in None = []
now_in (Some o) = now_of o.contents

abbrev pub stable_in : Option Object → List ℕ
stable_in None = []
stable_in (Some o) = stable_of o.contents

abbrev pub gone_in : Option Object → Bool
gone_in None = false
gone_in (Some o) = o.gone

-- a file with at most so many bytes
abbrev pub file_within : Contents → ℕ → Bool
file_within (File now stable) most = nat_le (length now) most
file_within (Directory entries) most = false
file_within (Other text) most = false

abbrev pub is_within : Option Object → ℕ → Bool
is_within None most = false
is_within (Some o) most = file_within o.contents most

unfoldable pub now_at : Trace → ℕ → List ℕ → List ℕ
now_at t n f = now_in (object_of_trace t n f)

unfoldable pub stable_at : Trace → ℕ → List ℕ → List ℕ
stable_at t n f = stable_in (object_of_trace t n f)

unfoldable pub is_gone_at : Trace → ℕ → List ℕ → Bool
is_gone_at t n f = gone_in (object_of_trace t n f)

unfoldable pub is_file_within : Trace → ℕ → List ℕ → ℕ → Bool
is_file_within t n f most = is_within (object_of_trace t n f) most

abbrev pub is_there : Option Object → Bool
is_there None = false
is_there (Some o) = true

-- the update of entry n names the file
unfoldable pub is_named_at : Trace → ℕ → List ℕ → Bool
is_named_at t n f = is_there (named (objects_after t.updates.items n) f)

-- ---- moments

-- at both moments the file is the same
abbrev pub IsSame : Trace → List ℕ → ℕ → ℕ → Type 0
IsSame t f n k = object_of_trace t n f ≡ object_of_trace t k f

-- at the moment k the file is as at the moment n
abbrev pub IsVersion : Trace → List ℕ → ℕ → ℕ → Type 0
IsVersion t f n k = (k ≤ n) × IsSame t f k n

-- at the moment k the file is what it was at a moment from one to another
pub record IsFromWindow (t : Trace) (f : List ℕ) (from to k : ℕ) : Type 0 where
  pub n : ℕ
  pub late : from ≤ n
  pub soon : n ≤ to
  pub same : IsSame t f n k

-- the list has a moment at which the file is what it was at the moment n
abbrev pub HasVersion : Trace → List ℕ → ℕ → List ℕ → Type 0
HasVersion t f n ks = (j : ℕ) × (k : ℕ) × (slice_get ks j ≡ Some k) × IsSame t f n k

-- the list has what the file was from one moment to another, and that alone
pub record HasWindow (t : Trace) (f : List ℕ) (from to : ℕ) (ks : List ℕ) : Type 0 where
  pub each : (j k : ℕ) → slice_get ks j ≡ Some k → IsFromWindow t f from to k
  pub every : (n : ℕ) → from ≤ n → n ≤ to → HasVersion t f n ks
