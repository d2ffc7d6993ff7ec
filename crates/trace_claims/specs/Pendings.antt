-- Which bytes of the client may still be dirty, by the tests on a digest of the history.
use Rattle.std.specs.Prelude.{◌+◌, ◌&&◌, ◌||◌, not, nat_lt, nat_le, ℕ, Bool, true, List, Option, Some, None, if◌then◌else◌}
use Rattle.std.specs.List.{list_any}
use Rattle.std.specs.Str.{bytes_eq}
use Rattle.trace_claims.specs.declared.courses.Course.{Course}
use Rattle.trace_claims.specs.declared.digest.Digest.{Digest}
use Rattle.trace_claims.specs.declared.operations.Operation.{Operation}
use Rattle.trace_claims.specs.declared.touched.Left as lefts
use Rattle.trace_claims.specs.Coming.{none_came}
use Rattle.trace_claims.specs.Courses.{range, covers, ended_before, is_done, is_refused, is_put, is_write, is_open}
use Rattle.trace_claims.specs.Operations.{named_is, writes_to, ends_pending}
use Rattle.trace_claims.specs.Places.{all_places}

-- it began after w was answered, succeeded before the moment n, and covers, cuts off or settles the place i
abbrev pub ends_after : Course → List ℕ → (n i : ℕ) → Operation → Bool
ends_after w f n i o = ended_before w o.course.place && ends_pending o n f i

abbrev pub is_ended : List Operation → Course → List ℕ → (n i : ℕ) → Bool
is_ended os w f n i = list_any (ends_after w f n i) os

-- it is an open of the file that succeeded after the last close and before the next record came
abbrev pub opens_after : List ℕ → ℕ → lefts.Left → Operation → Bool
opens_after came n l o =
    is_open o.course.work && is_done o.course n && named_is l.file o.named && nat_lt l.place o.course.ending.end && none_came came l.place o.course.ending.end

abbrev pub some_opens : Digest → ℕ → lefts.Left → Bool
some_opens d n l = list_any (opens_after d.came.items n l) d.operations.items

-- after the last close the client holds nothing of the file back
abbrev pub is_left_alone : Digest → ℕ → lefts.Left → Bool
is_left_alone d n l = l.no_put && not (some_opens d n l)

abbrev pub leaves : Digest → ℕ → Course → List ℕ → ℕ → lefts.Left → Bool
leaves d n w f p l = bytes_eq l.file f && nat_lt l.place p && ended_before w l.place && is_left_alone d n l

abbrev pub is_left : Digest → ℕ → Course → List ℕ → ℕ → Bool
is_left d n w f p = list_any (leaves d n w f p) d.left.items

-- in the beginning of n entries what the operation writes at the place i of the file is pending at the moment p
unfoldable pub is_pending : Digest → ℕ → Operation → List ℕ → (p i : ℕ) → Bool
is_pending d n o f p i =
    nat_lt o.course.place p && covers o.course.work i && writes_to o n f && not (is_write o.course.work && is_refused o.course n)
    && not (is_put o.course.work && is_done o.course p) && not (is_ended d.operations.items o.course f p i)
    && ((is_put o.course.work && is_refused o.course n) || not (is_left d n o.course f p))

-- the place q isn't past the place i, or what is written there isn't pending
abbrev pub is_free : Digest → ℕ → Operation → List ℕ → (p i q : ℕ) → Bool
is_free d n o f p i q = nat_le q i || not (is_pending d n o f p q)

-- the place after one, at most so far
abbrev pub next_past : (i to : ℕ) → ℕ
next_past i to = if nat_lt i to then i + 1 else to

abbrev pub none_in_range : Digest → ℕ → Operation → List ℕ → (p i : ℕ) → Option (ℕ × ℕ) → Bool
none_in_range d n o f p i None = true
none_in_range d n o f p i (Some r) = all_places (is_free d n o f p i) r.0 r.1

-- none past the place i is pending
abbrev pub none_pending_past : Digest → ℕ → Operation → List ℕ → (p i : ℕ) → Bool
none_pending_past d n o f p i = none_in_range d n o f p i (range o.course.work)
