-- Whether what was made stable stays, by the tests on a digest of the history.
use Rattle.std.specs.Prelude.{◌≡◌, ◌<◌, ◌≤◌, ◌+◌, ◌==◌, ◌&&◌, ◌||◌, not, nat_lt, ℕ, Bool, true, false, List, [], length, Option, Some, None, slice_get}
use Rattle.trace_data.specs.declared.trace.Trace.{Trace}
use Rattle.trace_claims.specs.declared.courses.Course.{Course}
use Rattle.trace_claims.specs.declared.digest.Digest.{Digest}
use Rattle.trace_claims.specs.declared.keeping.Question.{Question}
use Rattle.trace_claims.specs.declared.operations.Hold.{Hold}
use Rattle.trace_claims.specs.declared.operations.Operation.{Operation}
use Rattle.trace_claims.specs.Courses.{range}
use Rattle.trace_claims.specs.Operations.{wrote_to}
use Rattle.trace_claims.specs.Settling.{SettlesFirst}
use Rattle.trace_claims.specs.Places.{all_places}
use Rattle.trace_claims.specs.Objects.{now_at, stable_at, is_gone_at, is_named_at}
use Rattle.trace_claims.specs.Keeping.{is_kept}

-- what may have been changed of the file up to the moment p, in the beginning of n entries
abbrev pub question_at : Trace → (n p : ℕ) → List ℕ → Question
question_at t n p f = record { length = n; moment = p; file = f; gone = is_gone_at t p f }

-- at each place from one to before another the file has at the moment p what the operation wrote, or that may have been changed
unfoldable pub held_in : Trace → Digest → ℕ → Course → ℕ → List ℕ → (from to : ℕ) → Bool
held_in t d n w p f from to = all_places (is_kept t.entries.items d w (question_at t n p f) (now_at t p f) (stable_at t p f) 0) from to

abbrev pub held_by_range : Trace → Digest → ℕ → Course → ℕ → List ℕ → Option (ℕ × ℕ) → Bool
held_by_range t d n w p f None = true
held_by_range t d n w p f (Some r) = held_in t d n w p f r.0 r.1

unfoldable pub is_held : Trace → Digest → ℕ → Course → ℕ → List ℕ → Bool
is_held t d n w p f = held_by_range t d n w p f (range w.work)

-- ---- what may have been changed whole

-- what may have been changed of the file up to the moment p, be it gone or not
abbrev pub question_past : (n p : ℕ) → List ℕ → Question
question_past n p f = record { length = n; moment = p; file = f; gone = false }

-- each place from one to before another may have been changed before the moment p, and so before each later one
unfoldable pub outdated_in : Trace → Digest → ℕ → Course → ℕ → List ℕ → (from to : ℕ) → Bool
outdated_in t d n w p f from to = all_places (is_kept t.entries.items d w (question_past n p f) [] [] 0) from to

abbrev pub outdated_by_range : Trace → Digest → ℕ → Course → ℕ → List ℕ → Option (ℕ × ℕ) → Bool
outdated_by_range t d n w p f None = true
outdated_by_range t d n w p f (Some r) = outdated_in t d n w p f r.0 r.1

unfoldable pub is_outdated : Trace → Digest → ℕ → Course → ℕ → List ℕ → Bool
is_outdated t d n w p f = outdated_by_range t d n w p f (range w.work)

-- ---- from moment to moment

-- the same after an entry, if that changed the file or settled what was written
abbrev pub holds_next : Trace → Digest → ℕ → Course → List ℕ → (settled place : ℕ) → Bool
holds_next t d n w f settled place = not (place == settled) && not (is_named_at t place f) || is_held t d n w (place + 1) f

-- it is held at each moment past the place, up to another one
abbrev pub StaysFrom : Trace → Digest → ℕ → Course → List ℕ → (first to : ℕ) → Type 0
StaysFrom t d n w f first to = (p : ℕ) → first < p → p ≤ to → is_held t d n w p f ≡ true

-- what the operation wrote to the file is held at each moment after the least place at which it is known to be stable
abbrev pub StaysSo : Trace → Digest → ℕ → Operation → List ℕ → Type 0
StaysSo t d n o f = wrote_to o n f ≡ true → (first : ℕ) → SettlesFirst d.operations.items n o.course f (length d.operations.items) first
    → StaysFrom t d n o.course f first n

abbrev pub StayNamed : Trace → Digest → ℕ → Operation → Option (List ℕ) → Type 0
StayNamed t d n o named = (f : List ℕ) → named ≡ Some f → StaysSo t d n o f

abbrev pub StayHeld : Trace → Digest → ℕ → Operation → List Hold → ℕ → Type 0
StayHeld t d n o holds k = (j : ℕ) (hold : Hold) → slice_get holds j ≡ Some hold → j < k → StaysSo t d n o hold.file

-- so in each file
abbrev pub StaysEverywhere : Trace → Digest → ℕ → Operation → Type 0
StaysEverywhere t d n o = (f : List ℕ) → StaysSo t d n o f

abbrev pub AllStay : Trace → Digest → ℕ → List Operation → ℕ → Type 0
AllStay t d n os k = (j : ℕ) (o : Operation) → slice_get os j ≡ Some o → j < k → StaysEverywhere t d n o

-- and of each operation
abbrev pub AllStaySo : Trace → Digest → ℕ → Type 0
AllStaySo t d n = AllStay t d n d.operations.items (length d.operations.items)

-- ---- the last moment of a beginning

-- it was settled later than by the entry n, or is held after that, or nothing changed there
abbrev pub holds_last : Trace → Digest → Course → List ℕ → (settled n : ℕ) → Bool
holds_last t d w f settled n = nat_lt n settled || holds_next t d (n + 1) w f settled n

-- if it was written and settled by the entry n, it is held after that, or nothing changed there
abbrev pub LastSo : Trace → Digest → ℕ → Operation → List ℕ → Type 0
LastSo t d n o f = wrote_to o (n + 1) f ≡ true → (first : ℕ) → SettlesFirst d.operations.items (n + 1) o.course f (length d.operations.items) first
    → first ≤ n → holds_next t d (n + 1) o.course f first n ≡ true

abbrev pub LastNamed : Trace → Digest → ℕ → Operation → Option (List ℕ) → Type 0
LastNamed t d n o named = (f : List ℕ) → named ≡ Some f → LastSo t d n o f

abbrev pub LastHeld : Trace → Digest → ℕ → Operation → List Hold → ℕ → Type 0
LastHeld t d n o holds k = (j : ℕ) (hold : Hold) → slice_get holds j ≡ Some hold → j < k → LastSo t d n o hold.file

abbrev pub LastEverywhere : Trace → Digest → ℕ → Operation → Type 0
LastEverywhere t d n o = (f : List ℕ) → LastSo t d n o f

abbrev pub AllLast : Trace → Digest → ℕ → List Operation → ℕ → Type 0
AllLast t d n os k = (j : ℕ) (o : Operation) → slice_get os j ≡ Some o → j < k → LastEverywhere t d n o

abbrev pub AllLastSo : Trace → Digest → ℕ → Type 0
AllLastSo t d n = AllLast t d n d.operations.items (length d.operations.items)
