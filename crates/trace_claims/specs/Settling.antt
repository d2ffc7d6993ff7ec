-- From which place on what an operation wrote is known to be stable.
use Rattle.std.specs.Prelude.{◌≡◌, ◌<◌, ◌≤◌, ◌&&◌, min, ℕ, Bool, true, false, List, Option, Some, None, MatchOption, slice_get, if◌then◌else◌}
use Rattle.trace_claims.specs.declared.courses.Course.{Course}
use Rattle.trace_claims.specs.declared.operations.Operation.{Operation}
use Rattle.trace_claims.specs.Courses.{ended_before, is_put}
use Rattle.trace_claims.specs.Operations.{made_stable}

-- ---- tests

-- the end of a put
abbrev pub own_end : Course → Option ℕ
own_end w = if is_put w.work then Some w.ending.end else None

-- it made the file stable in the beginning of n entries, and began after w was answered
abbrev pub settles_after : Operation → ℕ → Course → List ℕ → Bool
settles_after o n w f = ended_before w o.course.place && made_stable o n f

abbrev pub settles_at : Operation → ℕ → Course → List ℕ → Option ℕ
settles_at o n w f = if settles_after o n w f then Some o.course.ending.end else None

-- the sooner of two places, if there is one
abbrev pub sooner : Option ℕ → Option ℕ → Option ℕ
sooner None b = b
sooner (Some a) None = Some a
sooner (Some a) (Some b) = Some (min a b)

-- ---- the least place

-- w is no put, and none of the first k operations settles what it wrote
pub record NoneSettles (os : List Operation) (n : ℕ) (w : Course) (f : List ℕ) (k : ℕ) : Type 0 where
  pub no_put : is_put w.work ≡ false
  pub none : (j : ℕ) (o : Operation) → slice_get os j ≡ Some o → j < k → settles_after o n w f ≡ false

-- at this place w, a put, ended; or one of the first k operations settled there what w wrote
pub data SettlesThere (os : List Operation) (n : ℕ) (w : Course) (f : List ℕ) (k at : ℕ) : Type 0 where
  itself : is_put w.work ≡ true → w.ending.end ≡ at → SettlesThere os n w f k at
  by : (j : ℕ) (o : Operation) → slice_get os j ≡ Some o → j < k → settles_after o n w f ≡ true → o.course.ending.end ≡ at → SettlesThere os n w f k at

-- and that is the least such place
pub record SettlesFirst (os : List Operation) (n : ℕ) (w : Course) (f : List ℕ) (k at : ℕ) : Type 0 where
  pub there : SettlesThere os n w f k at
  pub own : is_put w.work ≡ true → at ≤ w.ending.end
  pub least : (j : ℕ) (o : Operation) → slice_get os j ≡ Some o → j < k → settles_after o n w f ≡ true → at ≤ o.course.ending.end

abbrev pub Settles : List Operation → ℕ → Course → List ℕ → ℕ → Option ℕ → Type 0
Settles os n w f k found = MatchOption found (NoneSettles os n w f k) (SettlesFirst os n w f k)
