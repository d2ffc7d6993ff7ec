-- Places by pieces: no range or size that an operation or another client's change names begins or ends within one.
use Rattle.std.specs.Prelude.{◌≡◌, ◌<◌, ◌≤◌, ◌+◌, ◌&&◌, ◌||◌, nat_le, nat_lt, min, ℕ, Bool, true, List, Some, slice_get, if◌then◌else◌}
use Rattle.trace_claims.specs.declared.courses.Work.{Work}
use Rattle.trace_claims.specs.declared.courses.Work.TheVariants as works
use Rattle.trace_claims.specs.declared.operations.Operation.{Operation}
use Rattle.trace_claims.specs.declared.touched.Foreign as changed
use Rattle.trace_claims.specs.declared.touched.Reach.{Reach}
use Rattle.trace_claims.specs.declared.touched.Reach.TheVariants.{Range, Past}

-- ---- tests

-- the edge doesn't lie past a and before b
abbrev pub apart : (a b edge : ℕ) → Bool
apart a b edge = nat_le edge a || nat_le b edge

abbrev pub apart_work : (a b : ℕ) → Work → Bool
apart_work a b (works.Write slot offset count) = apart a b offset && apart a b (offset + count)
apart_work a b (works.Put offset count) = apart a b offset && apart a b (offset + count)
apart_work a b (works.Truncate slot size) = apart a b size
apart_work a b work = true

abbrev pub apart_reach : (a b : ℕ) → Reach → Bool
apart_reach a b (Range from to) = apart a b from && apart a b to
apart_reach a b (Past size) = apart a b size

-- ---- ends

-- the end of a piece that begins at a place, cut at an edge
abbrev pub nearer : (from end edge : ℕ) → ℕ
nearer from end edge = if nat_lt from edge then min end edge else end

abbrev pub nearer_of_work : (from end : ℕ) → Work → ℕ
nearer_of_work from end (works.Write slot offset count) = nearer from (nearer from end offset) (offset + count)
nearer_of_work from end (works.Put offset count) = nearer from (nearer from end offset) (offset + count)
nearer_of_work from end (works.Truncate slot size) = nearer from end size
nearer_of_work from end work = end

abbrev pub nearer_of_reach : (from end : ℕ) → Reach → ℕ
nearer_of_reach from end (Range first to) = nearer from (nearer from end first) to
nearer_of_reach from end (Past size) = nearer from end size

-- ---- pieces

-- the places from a to before b are a piece by the first k operations
pub record IsPieceOfWorks (os : List Operation) (k a most b : ℕ) : Type 0 where
  pub some : a < b
  pub within : b ≤ most
  pub apart_from : (j : ℕ) (o : Operation) → slice_get os j ≡ Some o → j < k → apart_work a b o.course.work ≡ true

-- and by the first k changes of other clients
pub record IsPieceOfReaches (cs : List changed.Foreign) (k a most b : ℕ) : Type 0 where
  pub some : a < b
  pub within : b ≤ most
  pub apart_from : (j : ℕ) (c : changed.Foreign) → slice_get cs j ≡ Some c → j < k → apart_reach a b c.reach ≡ true

-- and by all of both
pub record IsPiece (os : List Operation) (cs : List changed.Foreign) (a most b : ℕ) : Type 0 where
  pub some : a < b
  pub within : b ≤ most
  pub works : (j : ℕ) (o : Operation) → slice_get os j ≡ Some o → apart_work a b o.course.work ≡ true
  pub reaches : (j : ℕ) (c : changed.Foreign) → slice_get cs j ≡ Some c → apart_reach a b c.reach ≡ true

-- and by one operation beside
pub record IsOwnPiece (os : List Operation) (cs : List changed.Foreign) (w : Work) (a most b : ℕ) : Type 0 where
  pub piece : IsPiece os cs a most b
  pub own : apart_work a b w ≡ true
