-- Whether reads show what they may, by the tests on a digest of the history.
use Rattle.std.specs.Prelude.{◌+◌, ◌==◌, ◌&&◌, ◌||◌, not, nat_lt, nat_le, min, max, ℕ, Bool, true, List, [], length, Option, Some, None}
use Rattle.std.specs.List.{list_any, list_all}
use Rattle.trace_data.specs.declared.trace.Trace.{Trace}
use Rattle.trace_claims.specs.declared.courses.Course.{Course}
use Rattle.trace_claims.specs.declared.digest.Digest.{Digest}
use Rattle.trace_claims.specs.declared.keeping.Question.{Question}
use Rattle.trace_claims.specs.declared.operations.Operation.{Operation}
use Rattle.trace_claims.specs.declared.readings.Reading.{Reading}
use Rattle.trace_claims.specs.Bytes.{byte_from, byte_of, same_byte}
use Rattle.trace_claims.specs.Courses.{range, cut_size, ended_before, is_done, is_refused, is_write}
use Rattle.trace_claims.specs.Keeping.{is_kept}
use Rattle.trace_claims.specs.Objects.{now_at, is_file_within, is_gone_at}
use Rattle.trace_claims.specs.Operations.{is_of, wrote_to}
use Rattle.trace_claims.specs.Pendings.{is_pending, none_pending_past}
use Rattle.trace_claims.specs.Places.{all_places}
use Rattle.trace_claims.specs.Readings.{answer_bytes}

-- the bytes that it showed, and the place after the last of them
abbrev pub shown_bytes : Trace → Reading → List ℕ
shown_bytes t r = answer_bytes t.entries.items r.end

abbrev pub stop_of : Trace → Reading → ℕ
stop_of t r = r.offset + length (shown_bytes t r)

-- ---- bytes that are pending, or that the file held

abbrev pub has_at : Trace → List ℕ → (i : ℕ) → Option ℕ → ℕ → Bool
has_at t f i byte n = same_byte (byte_from (now_at t n f) 0 i) byte

abbrev pub was_held : Trace → Reading → (i : ℕ) → Option ℕ → Bool
was_held t r i byte = list_any (has_at t r.file i byte) r.window.items

abbrev pub within_at : Trace → List ℕ → (most n : ℕ) → Bool
within_at t f most n = is_file_within t n f most

abbrev pub is_short : Trace → Reading → ℕ → Bool
is_short t r most = list_any (within_at t r.file most) r.window.items

abbrev pub first_moment : Operation → Reading → ℕ
first_moment o r = max r.place (o.course.place + 1)

abbrev pub is_pending_during : Digest → ℕ → Reading → ℕ → Operation → Bool
is_pending_during d n r i o = nat_lt o.course.place r.end && is_pending d n o r.file (first_moment o r) i

abbrev pub owns : Trace → Digest → ℕ → Reading → (i : ℕ) → Option ℕ → Operation → Bool
owns t d n r i byte o = same_byte (byte_of t.entries.items o.course.place i) byte && is_pending_during d n r i o

abbrev pub is_own : Trace → Digest → ℕ → Reading → (i : ℕ) → Option ℕ → Bool
is_own t d n r i byte = list_any (owns t d n r i byte) d.operations.items

abbrev pub is_pending_past : Digest → ℕ → Reading → ℕ → Operation → Bool
is_pending_past d n r i o = nat_lt o.course.place r.end && not (none_pending_past d n o r.file (first_moment o r) i)

abbrev pub is_before_pending : Digest → ℕ → Reading → ℕ → Bool
is_before_pending d n r i = list_any (is_pending_past d n r i) d.operations.items

unfoldable pub is_current_at : Trace → Digest → ℕ → Reading → List ℕ → ℕ → Bool
is_current_at t d n r bytes k =
    was_held t r (r.offset + k) (byte_from bytes 0 k) || is_own t d n r (r.offset + k) (byte_from bytes 0 k)
    || (same_byte (byte_from bytes 0 k) (Some 0) && is_short t r (r.offset + k) && is_before_pending d n r (r.offset + k))

abbrev pub is_current : Trace → Digest → ℕ → Reading → Bool
is_current t d n r = all_places (is_current_at t d n r (shown_bytes t r)) 0 (length (shown_bytes t r))

-- ---- what was written or cut off before

abbrev pub question_of : Trace → ℕ → Reading → Question
question_of t n r = record { length = n; moment = r.end; file = r.file; gone = is_gone_at t r.end r.file }

unfoldable pub shows_from : Trace → Digest → Question → Reading → Course → (from to : ℕ) → Bool
shows_from t d q r w from to = all_places (is_kept t.entries.items d w q (shown_bytes t r) (shown_bytes t r) r.offset) (max from r.offset) to

abbrev pub written_in : Trace → Digest → Question → Reading → Course → Option (ℕ × ℕ) → Bool
written_in t d q r w None = true
written_in t d q r w (Some p) = shows_from t d q r w p.0 (min p.1 (r.offset + r.count))

abbrev pub shows_written : Trace → Digest → Question → Reading → Course → Bool
shows_written t d q r w = written_in t d q r w (range w.work)

abbrev pub shows_one : Trace → Digest → ℕ → Reading → Operation → Bool
shows_one t d n r o = not (ended_before o.course r.place) || not (wrote_to o n r.file) || shows_written t d (question_of t n r) r o.course

abbrev pub shows_own : Trace → Digest → ℕ → Reading → Bool
shows_own t d n r = list_all (shows_one t d n r) d.operations.items

abbrev pub cut_in : Trace → Digest → Question → Reading → Course → Option ℕ → Bool
cut_in t d q r w None = true
cut_in t d q r w (Some size) = shows_from t d q r w size (stop_of t r)

abbrev pub shows_cut : Trace → Digest → Question → Reading → Course → Bool
shows_cut t d q r w = cut_in t d q r w (cut_size w.work)

abbrev pub cuts_one : Trace → Digest → ℕ → Reading → Operation → Bool
cuts_one t d n r o = not (ended_before o.course r.place) || not (is_done o.course n) || not (is_of o r.file) || shows_cut t d (question_of t n r) r o.course

abbrev pub shows_cuts : Trace → Digest → ℕ → Reading → Bool
shows_cuts t d n r = list_all (cuts_one t d n r) d.operations.items

-- ---- what was written past the end

unfoldable pub is_changed_from : Trace → Digest → Question → Course → (from to : ℕ) → Bool
is_changed_from t d q w from to = all_places (is_kept t.entries.items d w q [] [] 0) from to

abbrev pub changed_in : Trace → Digest → Question → Course → ℕ → Option (ℕ × ℕ) → Bool
changed_in t d q w stop None = true
changed_in t d q w stop (Some p) = is_changed_from t d q w (max p.0 stop) p.1

abbrev pub is_changed_past : Trace → Digest → Question → Course → ℕ → Bool
is_changed_past t d q w stop = changed_in t d q w stop (range w.work)

abbrev pub past_one : Trace → Digest → ℕ → Reading → ℕ → Operation → Bool
past_one t d n r stop o = not (ended_before o.course r.place) || not (wrote_to o n r.file) || is_changed_past t d (question_of t n r) o.course stop

abbrev pub wrote_none_past : Trace → Digest → ℕ → Reading → ℕ → Bool
wrote_none_past t d n r stop = list_all (past_one t d n r stop) d.operations.items

-- ---- the rules of one read

unfoldable pub shows_well : Trace → Digest → ℕ → Reading → Bool
shows_well t d n r = nat_le n r.end || (is_current t d n r && shows_own t d n r && shows_cuts t d n r)

unfoldable pub ends_well : Trace → Digest → ℕ → Reading → Bool
ends_well t d n r = nat_le n r.end || nat_le r.count (length (shown_bytes t r)) || (is_short t r (stop_of t r) && wrote_none_past t d n r (stop_of t r))

-- ---- all reads

abbrev pub all_show_well : Trace → Digest → ℕ → Bool
all_show_well t d n = list_all (shows_well t d n) d.readings.items

abbrev pub all_end_well : Trace → Digest → ℕ → Bool
all_end_well t d n = list_all (ends_well t d n) d.readings.items

-- those that the entry n answers
abbrev pub shows_last : Trace → Digest → ℕ → Reading → Bool
shows_last t d n r = not (r.end == n) || shows_well t d (n + 1) r

abbrev pub ends_last : Trace → Digest → ℕ → Reading → Bool
ends_last t d n r = not (r.end == n) || ends_well t d (n + 1) r

abbrev pub last_shows_well : Trace → Digest → ℕ → Bool
last_shows_well t d n = list_all (shows_last t d n) d.readings.items

abbrev pub last_ends_well : Trace → Digest → ℕ → Bool
last_ends_well t d n = list_all (ends_last t d n) d.readings.items

-- the entry n refuses a write or fill
abbrev pub refuses_there : ℕ → Operation → Bool
refuses_there n o = is_write o.course.work && (o.course.ending.end == n) && is_refused o.course (n + 1)

abbrev pub refuses_write : Digest → ℕ → Bool
refuses_write d n = list_any (refuses_there n) d.operations.items
