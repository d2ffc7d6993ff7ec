-- What a beginning breaks that no shorter one does, the tests of its last entry tell.
use Rattle.std.proofs.Common.{◌≡◌, ◌<◌, ◌≤◌, ◌+◌, ◌-◌, inl, inr, ℕ, zero, suc, Bool, true, false, true≢false, List, [], ◌∷◌, ◌++◌, length, Some, slice_get, refl, sym, ◌∙◌, ap, subst, arith, add-one}
use Rattle.std.specs.Prelude.{Decides, ◌==◌, ◌&&◌, ◌||◌, not, nat_lt, nat_le, take, drop}
use Rattle.std.proofs.lemmas.Bool.{cases_lt, ltb-true, lt-ltb, le-leb, and_parts, and_from, or_cases, or_left, or_right, not-true, eqb-false, eq-eqb}
use Rattle.std.proofs.lemmas.List.{take-append-drop, length-take-le}
use Rattle.world_model.specs.declared.answer.Answer.TheVariants.{Done}
use Rattle.world_model.specs.declared.answer.Value.TheVariants as values
use Rattle.world_model.specs.declared.entry.Entry.{Entry}
use Rattle.world_model.specs.declared.entry.Entry.TheVariants.{Began, Answered}
use Rattle.world_model.specs.declared.op.Op.TheVariants as ops
use Rattle.world_model.specs.History.{History}
use Rattle.world_model.specs.Mounts.{Origin}
use Rattle.world_model.proofs.Places.{At-below}
use Rattle.claims.specs.Modes.{Modes}
use Rattle.claims.specs.ReadTrue.{ReadsBytes, IsCurrent, ReadTrue, EndsRightly, ReadShort}
use Rattle.claims.specs.Settled.{Settled}
use Rattle.claims.specs.Touched as touching
use Rattle.claims.specs.Touched.{RefusedWrite, Wrote, Truncated, Touched}
use Rattle.trace_data.specs.declared.trace.Trace.{Trace}
use Rattle.trace_data.specs.Histories.{server_at}
use Rattle.trace_claims.specs.declared.digest.Digest.{Digest}
use Rattle.trace_claims.specs.declared.operations.Operation.{Operation}
use Rattle.trace_claims.specs.declared.readings.Reading.{Reading}
use Rattle.trace_claims.specs.Bytes.{byte_from}
use Rattle.trace_claims.specs.Courses.{is_write, is_refused, fails}
use Rattle.trace_claims.specs.Described.{Describes}
use Rattle.trace_claims.specs.Held.{start_of}
use Rattle.trace_claims.specs.Judging.{KeepsClaims}
use Rattle.trace_claims.specs.Objects.{is_named_at}
use Rattle.trace_claims.specs.Operations.{wrote_to}
use Rattle.trace_claims.specs.Reading.{shown_bytes, stop_of, is_current, shows_own, shows_cuts, is_short, wrote_none_past, shows_well, ends_well, all_show_well, all_end_well, shows_last, ends_last, last_shows_well, last_ends_well, refuses_there, refuses_write}
use Rattle.trace_claims.specs.Readings.{answer_bytes, IsReading, ListsReading}
use Rattle.trace_claims.specs.Settling.{SettlesFirst}
use Rattle.trace_claims.specs.Staying.{is_held, AllStaySo, AllLastSo}
use Rattle.trace_claims.proofs.Frames.{Ended-grow, InSlot-grow}
use Rattle.trace_claims.proofs.Holdings.{Begins, operations-of, held-decides, settled-decides}
use Rattle.trace_claims.proofs.Lasting.{held-later}
use Rattle.trace_claims.proofs.Moments.{settles-there}
use Rattle.trace_claims.proofs.Owning.{any-there}
use Rattle.trace_claims.proofs.ReadFrame.{Reads-back, IsFine, read-frame}
use Rattle.trace_claims.proofs.Recalling.{from-bytes, ShowsWell, EndsWell, well-decides, end-decides}
use Rattle.trace_claims.proofs.Resting.{all-holds, all-from}
use Rattle.trace_claims.proofs.SettledFrame.{RefusesNone, SettledAt, settled-frame}
use Rattle.trace_claims.proofs.Telling.{refused-write-decides}
use Rattle.trace_claims.proofs.Touches.{Begun, listed}

-- ---- all reads of a beginning

Reads-grow : (m : Modes) (b more : List Entry) (x y o : ℕ) (f : List ℕ) (offset count : ℕ) (bytes : List ℕ) → ReadsBytes m b x y o f offset count bytes → ReadsBytes m (b ++ more) x y o f offset count bytes
Reads-grow m b more x y o f offset count bytes reads =
    let began = At-below b x (Began reads.lane reads.ended.line (ops.Read reads.slot offset count)) reads.ended.began in
    record {
      lane = reads.lane;
      slot = reads.slot;
      ended = Ended-grow b more reads.lane x (ops.Read reads.slot offset count) y (Done (values.Bytes bytes)) reads.ended;
      holds = InSlot-grow m b more x reads.lane reads.slot o f (omega (arith, began)) reads.holds;
    }

-- what a read shows, of one place and file
pub record ReadsSo (m : Modes) (origin : Origin) (h : History) (x y o : ℕ) (f : List ℕ) (offset count : ℕ) (bytes : List ℕ) : Type 0 where
  pub current : (k v : ℕ) → slice_get bytes k ≡ Some v → IsCurrent m origin h x y o f (offset + k) v
  pub own : (w e k v : ℕ) → Wrote m h.entries w e f (offset + k) v → e < x → k < count → (Touched m origin h w y f (offset + k) → ⊥) → slice_get bytes k ≡ Some v
  pub cut : (w e size k v : ℕ) → Truncated m h.entries w e f size → e < x → size ≤ offset + k → slice_get bytes k ≡ Some v → (Touched m origin h w y f (offset + k) → ⊥) → v ≡ 0

-- and where it ends
abbrev pub EndsSoHere : Modes → Origin → History → (x y o : ℕ) → List ℕ → (offset count : ℕ) → List ℕ → Type 0
EndsSoHere m origin h x y o f offset count bytes = length bytes < count → EndsRightly m origin h x y o f (offset + length bytes)

so-of-well : (m : Modes) (origin : Origin) (t : Trace) (b : List Entry) (o : ℕ) (r : Reading) → ShowsWell m origin t b o r → ReadsSo m origin (start_of b (server_at t)) r.place r.end o r.file r.offset r.count (shown_bytes t r)
so-of-well m origin t b o r well = record {
  current = well.current;
  own = λ w e k v wrote before in_it untouched. sym (from-bytes (shown_bytes t r) r.offset k) ∙ well.own w e (r.offset + k) v wrote before (omega arith) (omega (arith, in_it)) untouched;
  cut = λ w e size k v cut before low is untouched. well.cut w e size (r.offset + k) v cut before low (omega arith) (from-bytes (shown_bytes t r) r.offset k ∙ is) untouched;
}

well-of-so : (m : Modes) (origin : Origin) (t : Trace) (b : List Entry) (o : ℕ) (r : Reading) → ReadsSo m origin (start_of b (server_at t)) r.place r.end o r.file r.offset r.count (shown_bytes t r) → ShowsWell m origin t b o r
well-of-so m origin t b o r so = record {
  current = so.current;
  own = λ w e i v wrote before low high untouched.
      let same : i ≡ r.offset + (i - r.offset) = omega (arith, low) in
      subst (λ (z : ℕ). byte_from (shown_bytes t r) r.offset z ≡ Some v) (sym same) (from-bytes (shown_bytes t r) r.offset (i - r.offset)
      ∙ so.own w e (i - r.offset) v (subst (λ (z : ℕ). Wrote m b w e r.file z v) same wrote) before (omega (arith, low, high))
      (λ touched. untouched (subst (λ (z : ℕ). Touched m origin (start_of b (server_at t)) w r.end r.file z) (sym same) touched)));
  cut = λ w e size i v cut before le low is untouched.
      let same : i ≡ r.offset + (i - r.offset) = omega (arith, low) in
      so.cut w e size (i - r.offset) v cut before (omega (arith, le, low))
      (sym (from-bytes (shown_bytes t r) r.offset (i - r.offset)) ∙ subst (λ (z : ℕ). byte_from (shown_bytes t r) r.offset z ≡ Some v) same is)
      (λ touched. untouched (subst (λ (z : ℕ). Touched m origin (start_of b (server_at t)) w r.end r.file z) (sym same) touched));
}

-- a fact of a reading is one of the read that it lists
moved : (P : (x y : ℕ) (f : List ℕ) (offset count : ℕ) (bytes : List ℕ) → Type 0) (m : Modes) (t : Trace) (rs : List Reading) (x y o : ℕ) (f : List ℕ) (offset count : ℕ) (bytes : List ℕ)
    → (l : ListsReading m t rs x y o f offset count bytes) → P l.r.place l.r.end l.r.file l.r.offset l.r.count (shown_bytes t l.r) → P x y f offset count bytes
moved P m t rs x y o f offset count bytes l p =
    subst (λ (z : List ℕ). P x y f offset count z) (bytes_there)
    (subst (λ (z : ℕ). P x y f offset z (shown_bytes t l.r)) l.count_is
    (subst (λ (z : ℕ). P x y f z l.r.count (shown_bytes t l.r)) l.offset_is
    (subst (λ (z : List ℕ). P x y z l.r.offset l.r.count (shown_bytes t l.r)) l.file_is
    (subst (λ (z : ℕ). P x z l.r.file l.r.offset l.r.count (shown_bytes t l.r)) l.end_is
    (subst (λ (z : ℕ). P z l.r.end l.r.file l.r.offset l.r.count (shown_bytes t l.r)) l.place_is p)))))
  where
    bytes_there : shown_bytes t l.r ≡ bytes
    bytes_there = ap (λ (z : ℕ). answer_bytes t.entries.items z) l.end_is ∙ l.bytes_are

-- in the beginning each read that the digest lists shows what it may
pub record AllRead (m : Modes) (origin : Origin) (t : Trace) (d : Digest) (b : List Entry) : Type 0 where
  pub each : (k : ℕ) (r : Reading) → slice_get d.readings.items k ≡ Some r → (o : ℕ) → IsReading m t o r → r.end < length b → ShowsWell m origin t b o r

-- and ends where it may
abbrev pub AllEnd : Modes → Origin → Trace → Digest → List Entry → Type 0
AllEnd m origin t d b = (k : ℕ) (r : Reading) → slice_get d.readings.items k ≡ Some r → (o : ℕ) → IsReading m t o r → r.end < length b → EndsWell m origin t b o r

listed-read : (m : Modes) (origin : Origin) (t : Trace) (d : Digest) (b more : List Entry) → Begins m origin t d b more → (x y o : ℕ) (f : List ℕ) (offset count : ℕ) (bytes : List ℕ) → ReadsBytes m b x y o f offset count bytes
    → ListsReading m t d.readings.items x y o f offset count bytes
listed-read m origin t d b more is x y o f offset count bytes reads =
    is.all.readings.every x y o f offset count bytes (subst (λ (h : List Entry). ReadsBytes m h x y o f offset count bytes) is.whole (Reads-grow m b more x y o f offset count bytes reads))

read-below : (m : Modes) (b : List Entry) (x y o : ℕ) (f : List ℕ) (offset count : ℕ) (bytes : List ℕ) → ReadsBytes m b x y o f offset count bytes → y < length b
read-below m b x y o f offset count bytes reads = At-below b y (Answered reads.lane reads.ended.line (Done (values.Bytes bytes))) reads.ended.answered

reads-so : (m : Modes) (origin : Origin) (t : Trace) (d : Digest) (b more : List Entry) → Begins m origin t d b more → AllRead m origin t d b → (x y o : ℕ) (f : List ℕ) (offset count : ℕ) (bytes : List ℕ) → ReadsBytes m b x y o f offset count bytes
    → ReadsSo m origin (start_of b (server_at t)) x y o f offset count bytes
reads-so m origin t d b more is all x y o f offset count bytes reads =
    let l = listed-read m origin t d b more is x y o f offset count bytes reads in
    let below : l.r.end < length b = subst (λ (z : ℕ). z < length b) (sym l.end_is) (read-below m b x y o f offset count bytes reads) in
    moved (λ x y f offset count bytes. ReadsSo m origin (start_of b (server_at t)) x y o f offset count bytes) m t d.readings.items x y o f offset count bytes l
    (so-of-well m origin t b o l.r (all.each l.k l.r l.at o l.is below))

pub read-told : (m : Modes) (origin : Origin) (t : Trace) (d : Digest) (b more : List Entry) → Begins m origin t d b more → AllRead m origin t d b → ReadTrue m origin (start_of b (server_at t))
read-told m origin t d b more is all = record {
  current = λ x y o f offset count bytes reads. (reads-so m origin t d b more is all x y o f offset count bytes reads).current;
  own = λ x y o f offset count bytes reads. (reads-so m origin t d b more is all x y o f offset count bytes reads).own;
  cut = λ x y o f offset count bytes reads. (reads-so m origin t d b more is all x y o f offset count bytes reads).cut;
}

pub short-told : (m : Modes) (origin : Origin) (t : Trace) (d : Digest) (b more : List Entry) → Begins m origin t d b more → AllEnd m origin t d b → ReadShort m origin (start_of b (server_at t))
short-told m origin t d b more is all x y o f offset count bytes reads =
    let l = listed-read m origin t d b more is x y o f offset count bytes reads in
    let below : l.r.end < length b = subst (λ (z : ℕ). z < length b) (sym l.end_is) (read-below m b x y o f offset count bytes reads) in
    moved (λ x y f offset count bytes. EndsSoHere m origin (start_of b (server_at t)) x y o f offset count bytes) m t d.readings.items x y o f offset count bytes l (all l.k l.r l.at o l.is below)

in-beginning : (m : Modes) (origin : Origin) (t : Trace) (d : Digest) (b more : List Entry) → Begins m origin t d b more → (o : ℕ) (r : Reading) → IsReading m t o r → r.end < length b → ReadsBytes m b r.place r.end o r.file r.offset r.count (shown_bytes t r)
in-beginning m origin t d b more is o r reading below =
    Reads-back m b more r.place r.end o r.file r.offset r.count (shown_bytes t r) below (subst (λ (h : List Entry). ReadsBytes m h r.place r.end o r.file r.offset r.count (shown_bytes t r)) (sym is.whole) reading.reads)

pub read-shown : (m : Modes) (origin : Origin) (t : Trace) (d : Digest) (b more : List Entry) → Begins m origin t d b more → ReadTrue m origin (start_of b (server_at t)) → AllRead m origin t d b
read-shown m origin t d b more is read = record {
  each = λ k r there o reading below.
      let reads = in-beginning m origin t d b more is o r reading below in
      well-of-so m origin t b o r (record {
        current = read.current r.place r.end o r.file r.offset r.count (shown_bytes t r) reads;
        own = read.own r.place r.end o r.file r.offset r.count (shown_bytes t r) reads;
        cut = read.cut r.place r.end o r.file r.offset r.count (shown_bytes t r) reads;
      });
}

pub short-shown : (m : Modes) (origin : Origin) (t : Trace) (d : Digest) (b more : List Entry) → Begins m origin t d b more → ReadShort m origin (start_of b (server_at t)) → AllEnd m origin t d b
short-shown m origin t d b more is short k r there o reading below =
    short r.place r.end o r.file r.offset r.count (shown_bytes t r) (in-beginning m origin t d b more is o r reading below)

-- ---- by the tests

late-well : (t : Trace) (d : Digest) (n : ℕ) (r : Reading) → n ≤ r.end → (shows_well t d n r ≡ true) × (ends_well t d n r ≡ true)
unfolding shows_well ends_well
late-well t d n r le = (
  or_left (nat_le n r.end) (is_current t d n r && shows_own t d n r && shows_cuts t d n r) (le-leb n r.end le),
  or_left (nat_le n r.end || nat_le r.count (length (shown_bytes t r))) (is_short t r (stop_of t r) && wrote_none_past t d n r (stop_of t r)) (or_left (nat_le n r.end) (nat_le r.count (length (shown_bytes t r))) (le-leb n r.end le)),
)

pub reads-decide : (m : Modes) (origin : Origin) (t : Trace) (d : Digest) (b more : List Entry) → Begins m origin t d b more → Decides (all_show_well t d (length b)) (ReadTrue m origin (start_of b (server_at t)))
reads-decide m origin t d b more is = (
  λ x. read-told m origin t d b more is (record { each = λ k r there o reading below. (well-decides m origin t d b more o r (record { begins = is; is = reading; below = below })).0 (all-holds (shows_well t d (length b)) d.readings.items k r x there) }),
  λ read. let all = read-shown m origin t d b more is read in all-from (shows_well t d (length b)) d.readings.items (λ k r there.
      elim (cases_lt r.end (length b)) [
        | inl below ↦ let it = is.all.readings.each k r there in (well-decides m origin t d b more it.0 r (record { begins = is; is = it.1; below = below })).1 (all.each k r there it.0 it.1 below)
        | inr late ↦ (late-well t d (length b) r late).0
      ]),
)

pub ends-decide : (m : Modes) (origin : Origin) (t : Trace) (d : Digest) (b more : List Entry) → Begins m origin t d b more → Decides (all_end_well t d (length b)) (ReadShort m origin (start_of b (server_at t)))
ends-decide m origin t d b more is = (
  λ x. short-told m origin t d b more is (λ k r there o reading below. (end-decides m origin t d b more o r (record { begins = is; is = reading; below = below })).0 (all-holds (ends_well t d (length b)) d.readings.items k r x there)),
  λ short. let all = short-shown m origin t d b more is short in all-from (ends_well t d (length b)) d.readings.items (λ k r there.
      elim (cases_lt r.end (length b)) [
        | inl below ↦ let it = is.all.readings.each k r there in (end-decides m origin t d b more it.0 r (record { begins = is; is = it.1; below = below })).1 (all k r there it.0 it.1 below)
        | inr late ↦ (late-well t d (length b) r late).1
      ]),
)

-- ---- one entry more

take-suc : (h : List Entry) (n : ℕ) → n < length h → (e : Entry) × (take (suc n) h ≡ take n h ++ e ∷ [])
take-suc [] n lt = absurd (omega (arith, lt))
take-suc (x ∷ h) zero lt = (x, refl)
take-suc (x ∷ h) (suc n) lt = let r = take-suc h n (omega (arith, lt)) in (r.0, ap (λ (l : List Entry). x ∷ l) r.1)

pub take-one : (h : List Entry) (n : ℕ) → n < length h → (e : Entry) × (take (n + 1) h ≡ take n h ++ e ∷ [])
take-one h n lt = let r = take-suc h n lt in (r.0, subst (λ (k : ℕ). take k h ≡ take n h ++ r.0 ∷ []) (sym (add-one n)) r.1)

pub begins-at : (m : Modes) (origin : Origin) (t : Trace) (d : Digest) (n : ℕ) → Describes m origin t d → Begins m origin t d (take n t.entries.items) (drop n t.entries.items)
begins-at m origin t d n all = record { all = all; whole = take-append-drop n t.entries.items }

-- an entry that refuses no write, after a beginning that keeps all
pub record Steps (m : Modes) (origin : Origin) (t : Trace) (d : Digest) (n : ℕ) : Type 0 where
  pub all : Describes m origin t d
  pub below : n < length t.entries.items
  pub quiet : refuses_write d n ≡ false
  pub keep : KeepsClaims m origin (start_of (take n t.entries.items) (server_at t))

refused-begun : (h : List Entry) (x : ℕ) → RefusedWrite h x → Begun h x
refused-begun h x (touching.write lane slot offset y bytes fault ended) = record { lane = lane; line = ended.line; op = ops.Write slot offset bytes; at = ended.began }
refused-begun h x (touching.fill lane slot offset count byte y fault ended) = record { lane = lane; line = ended.line; op = ops.Fill slot offset count byte; at = ended.began }

refuses-none : (m : Modes) (origin : Origin) (t : Trace) (d : Digest) (n : ℕ) → Steps m origin t d n → (e : Entry) → take (n + 1) t.entries.items ≡ take n t.entries.items ++ e ∷ [] → RefusesNone (take n t.entries.items) e
refuses-none m origin t d n s e next x refused =
    let here : RefusedWrite (take (n + 1) t.entries.items) x = subst (λ (l : List Entry). RefusedWrite l x) (sym next) refused in
    let longer = begins-at m origin t d (n + 1) s.all in
    let shorter = begins-at m origin t d n s.all in
    let below = s.below in
    let long : length (take (n + 1) t.entries.items) ≡ n + 1 = length-take-le (n + 1) t.entries.items (omega (arith, below)) in
    let short : length (take n t.entries.items) ≡ n = length-take-le n t.entries.items (omega (arith, below)) in
    let op = listed m origin (take (n + 1) t.entries.items) (drop (n + 1) t.entries.items) d.operations.items x (operations-of m origin t d (take (n + 1) t.entries.items) (drop (n + 1) t.entries.items) longer) (refused-begun (take (n + 1) t.entries.items) x here) in
    let its = (operations-of m origin t d (take (n + 1) t.entries.items) (drop (n + 1) t.entries.items) longer).each op.0 op.1 op.2 in
    let test = (refused-write-decides (take (n + 1) t.entries.items) (drop (n + 1) t.entries.items) op.1.course its.course).1 (subst (λ (z : ℕ). RefusedWrite (take (n + 1) t.entries.items) z) (sym op.3) here) in
    let two = and_parts (is_write op.1.course.work) (is_refused op.1.course (length (take (n + 1) t.entries.items))) test in
    let refuses : is_refused op.1.course (n + 1) ≡ true = subst (λ (k : ℕ). is_refused op.1.course k ≡ true) long two.1 in
    let parts = and_parts (fails op.1.course.ending.outcome) (nat_lt op.1.course.ending.end (n + 1)) refuses in
    let low : op.1.course.ending.end < n + 1 = ltb-true op.1.course.ending.end (n + 1) parts.1 in
    elim (cases_lt op.1.course.ending.end n) [
      | inl before ↦
          let was : is_refused op.1.course (length (take n t.entries.items)) ≡ true =
          subst (λ (k : ℕ). is_refused op.1.course k ≡ true) (sym short) (and_from (fails op.1.course.ending.outcome) (nat_lt op.1.course.ending.end n) parts.0 (lt-ltb op.1.course.ending.end n before)) in
          subst (λ (z : ℕ). RefusedWrite (take n t.entries.items) z) op.3
          ((refused-write-decides (take n t.entries.items) (drop n t.entries.items) op.1.course ((operations-of m origin t d (take n t.entries.items) (drop n t.entries.items) shorter).each op.0 op.1 op.2).course).0
          (and_from (is_write op.1.course.work) (is_refused op.1.course (length (take n t.entries.items))) two.0 was))
      | inr above ↦
          let same : op.1.course.ending.end ≡ n = omega (arith, low, above) in
          absurd (true≢false (sym (any-there (refuses_there n) d.operations.items op.0 op.1 op.2
          (and_from (is_write op.1.course.work && (op.1.course.ending.end == n)) (is_refused op.1.course (n + 1))
          (and_from (is_write op.1.course.work) (op.1.course.ending.end == n) two.0 (eq-eqb op.1.course.ending.end n same)) refuses)) ∙ s.quiet))
    ]

-- ---- settled at its last moment

carried : (m : Modes) (origin : Origin) (t : Trace) (d : Digest) (n : ℕ) → Steps m origin t d n → (p : ℕ) → p ≤ n → SettledAt m origin (start_of (take (n + 1) t.entries.items) (server_at t)) p
carried m origin t d n s p le =
    let one = take-one t.entries.items n s.below in
    let below = s.below in
    let short : length (take n t.entries.items) ≡ n = length-take-le n t.entries.items (omega (arith, below)) in
    let within : p ≤ length (take n t.entries.items) = omega (arith, short, le) in
    subst (λ (l : List Entry). SettledAt m origin (start_of l (server_at t)) p) (sym one.1)
    (settled-frame m origin (start_of (take n t.entries.items) (server_at t)) one.0 p (refuses-none m origin t d n s one.0 one.1) within
    (λ w y f i v j wrote settles lt untouched. s.keep.settled w y f i v j wrote settles p lt within untouched))

held-early : (m : Modes) (origin : Origin) (t : Trace) (d : Digest) (n : ℕ) → Steps m origin t d n → (k : ℕ) (o : Operation) → slice_get d.operations.items k ≡ Some o → (f : List ℕ) → wrote_to o (n + 1) f ≡ true
    → (first : ℕ) → SettlesFirst d.operations.items (n + 1) o.course f (length d.operations.items) first → (p : ℕ) → first < p → p ≤ n → is_held t d (n + 1) o.course p f ≡ true
held-early m origin t d n s k o there f wrote first known p lt le =
    let below = s.below in
    let begins = begins-at m origin t d (n + 1) s.all in
    let long : length (take (n + 1) t.entries.items) ≡ n + 1 = length-take-le (n + 1) t.entries.items (omega (arith, below)) in
    let written : wrote_to o (length (take (n + 1) t.entries.items)) f ≡ true = subst (λ (z : ℕ). wrote_to o z f ≡ true) (sym long) wrote in
    let first_known : SettlesFirst d.operations.items (length (take (n + 1) t.entries.items)) o.course f (length d.operations.items) first =
    subst (λ (z : ℕ). SettlesFirst d.operations.items z o.course f (length d.operations.items) first) (sym long) known in
    subst (λ (z : ℕ). is_held t d z o.course p f ≡ true) long
    ((held-decides m origin t d (take (n + 1) t.entries.items) (drop (n + 1) t.entries.items) begins k o there f written p (omega (arith, long, le))).1
    (λ i v w untouched. carried m origin t d n s p le o.course.place o.course.ending.end f i v first w
    (settles-there m origin (take (n + 1) t.entries.items) (drop (n + 1) t.entries.items) d.operations.items (operations-of m origin t d (take (n + 1) t.entries.items) (drop (n + 1) t.entries.items) begins) k o there f i v first w first_known.there) lt untouched))

last-told : (m : Modes) (origin : Origin) (t : Trace) (d : Digest) (n : ℕ) → Steps m origin t d n → AllLastSo t d n → AllStaySo t d (n + 1)
last-told m origin t d n s last k o there lt f wrote first known p low high = elim (cases_lt n p) [
  | inl above ↦ subst (λ (z : ℕ). is_held t d (n + 1) o.course z f ≡ true) (let is : n + 1 ≡ p = omega (arith, above, high) in is) at_last
  | inr early ↦ held-early m origin t d n s k o there f wrote first known p low early
]
  where
    before : first ≤ n → (n ≡ first → ⊥) → first < n
    before le other = elim (cases_lt first n) [
      | inl less ↦ less
      | inr above ↦ absurd (other (let is : n ≡ first = omega (arith, le, above) in is))
    ]

    at_last : is_held t d (n + 1) o.course (n + 1) f ≡ true
    at_last = elim (cases_lt n first) [
      | inl beyond ↦ absurd (omega (arith, beyond, low, high))
      | inr le ↦ elim (or_cases (not (n == first) && not (is_named_at t n f)) (is_held t d (n + 1) o.course (n + 1) f) (last k o there lt f wrote first known le)) [
        | inr held ↦ held
        | inl quiet ↦
            let two = and_parts (not (n == first)) (not (is_named_at t n f)) quiet in
            let other = eqb-false n first (not-true (n == first) two.0) in
            held-later t d (n + 1) o.course n f (not-true (is_named_at t n f) two.1) (held-early m origin t d n s k o there f wrote first known n (before le other) (omega arith))
      ]
    ]

last-shown : (t : Trace) (d : Digest) (n : ℕ) → AllStaySo t d (n + 1) → AllLastSo t d n
last-shown t d n stays k o there lt f wrote first known le =
    or_right (not (n == first) && not (is_named_at t n f)) (is_held t d (n + 1) o.course (n + 1) f) (stays k o there lt f wrote first known (n + 1) (omega (arith, le)) (omega arith))

pub settled-step : (m : Modes) (origin : Origin) (t : Trace) (d : Digest) (n : ℕ) → Steps m origin t d n → (b : Bool) → Decides b (AllLastSo t d n) → Decides b (Settled m origin (start_of (take (n + 1) t.entries.items) (server_at t)))
settled-step m origin t d n s b decided =
    settled-decides m origin t d (n + 1) s.all (let below = s.below in omega (arith, below)) b (λ x. last-told m origin t d n s (decided.0 x), λ stays. decided.1 (last-shown t d n stays))

-- ---- reads that its last entry answers

fine-before : (m : Modes) (origin : Origin) (t : Trace) (d : Digest) (n : ℕ) → Steps m origin t d n → (o : ℕ) (r : Reading) → IsReading m t o r → r.end < n → IsFine m origin (start_of (take (n + 1) t.entries.items) (server_at t)) r.place r.end
fine-before m origin t d n s o r is before =
    let one = take-one t.entries.items n s.below in
    let below = s.below in
    let short : length (take n t.entries.items) ≡ n = length-take-le n t.entries.items (omega (arith, below)) in
    subst (λ (l : List Entry). IsFine m origin (start_of l (server_at t)) r.place r.end) (sym one.1)
    (read-frame m origin (start_of (take n t.entries.items) (server_at t)) one.0 r.place r.end (refuses-none m origin t d n s one.0 one.1) is.reads.ended.later (omega (arith, before, short)) (record {
      current = s.keep.read.current r.place r.end;
      owned = s.keep.read.own r.place r.end;
      cut = s.keep.read.cut r.place r.end;
      short = s.keep.short r.place r.end;
    }))

not-there : (a b : ℕ) (c : Bool) → a ≡ b → (not (a == b) || c) ≡ true → c ≡ true
not-there a b c same t = elim (or_cases (not (a == b)) c t) [
  | inl x ↦ absurd (eqb-false a b (not-true (a == b) x) same)
  | inr y ↦ y
]

well-step-one : (m : Modes) (origin : Origin) (t : Trace) (d : Digest) (n : ℕ) → Steps m origin t d n → (k : ℕ) (r : Reading) → slice_get d.readings.items k ≡ Some r → shows_last t d n r ≡ true → shows_well t d (length (take (n + 1) t.entries.items)) r ≡ true
well-step-one m origin t d n s k r there x =
    let below = s.below in
    let long : length (take (n + 1) t.entries.items) ≡ n + 1 = length-take-le (n + 1) t.entries.items (omega (arith, below)) in
    let begins = begins-at m origin t d (n + 1) s.all in
    let it = s.all.readings.each k r there in
    elim (cases_lt r.end n) [
      | inl before ↦
          let fine = fine-before m origin t d n s it.0 r it.1 before in
          let low : r.end < length (take (n + 1) t.entries.items) = omega (arith, long, before) in
          let reads = in-beginning m origin t d (take (n + 1) t.entries.items) (drop (n + 1) t.entries.items) begins it.0 r it.1 low in
          (well-decides m origin t d (take (n + 1) t.entries.items) (drop (n + 1) t.entries.items) it.0 r (record { begins = begins; is = it.1; below = low })).1
          (well-of-so m origin t (take (n + 1) t.entries.items) it.0 r (record {
            current = fine.current it.0 r.file r.offset r.count (shown_bytes t r) reads;
            own = fine.owned it.0 r.file r.offset r.count (shown_bytes t r) reads;
            cut = fine.cut it.0 r.file r.offset r.count (shown_bytes t r) reads;
          }))
      | inr le ↦ elim (cases_lt n r.end) [
        | inl above ↦ (late-well t d (length (take (n + 1) t.entries.items)) r (omega (arith, long, above))).0
        | inr high ↦ subst (λ (z : ℕ). shows_well t d z r ≡ true) (sym long) (not-there r.end n (shows_well t d (n + 1) r) (let same : r.end ≡ n = omega (arith, le, high) in same) x)
      ]
    ]

pub reads-step : (m : Modes) (origin : Origin) (t : Trace) (d : Digest) (n : ℕ) → Steps m origin t d n → Decides (last_shows_well t d n) (ReadTrue m origin (start_of (take (n + 1) t.entries.items) (server_at t)))
reads-step m origin t d n s = (
  λ x. decided.0 (all-from (shows_well t d (length (take (n + 1) t.entries.items))) d.readings.items (λ k r there. well-step-one m origin t d n s k r there (all-holds (shows_last t d n) d.readings.items k r x there))),
  λ read. let all = decided.1 read in all-from (shows_last t d n) d.readings.items (λ k r there. or_right (not (r.end == n)) (shows_well t d (n + 1) r)
      (subst (λ (z : ℕ). shows_well t d z r ≡ true) long (all-holds (shows_well t d (length (take (n + 1) t.entries.items))) d.readings.items k r all there))),
)
  where
    long : length (take (n + 1) t.entries.items) ≡ n + 1
    long = length-take-le (n + 1) t.entries.items (let below = s.below in omega (arith, below))

    decided : Decides (all_show_well t d (length (take (n + 1) t.entries.items))) (ReadTrue m origin (start_of (take (n + 1) t.entries.items) (server_at t)))
    decided = reads-decide m origin t d (take (n + 1) t.entries.items) (drop (n + 1) t.entries.items) (begins-at m origin t d (n + 1) s.all)

end-step-one : (m : Modes) (origin : Origin) (t : Trace) (d : Digest) (n : ℕ) → Steps m origin t d n → (k : ℕ) (r : Reading) → slice_get d.readings.items k ≡ Some r → ends_last t d n r ≡ true → ends_well t d (length (take (n + 1) t.entries.items)) r ≡ true
end-step-one m origin t d n s k r there x =
    let below = s.below in
    let long : length (take (n + 1) t.entries.items) ≡ n + 1 = length-take-le (n + 1) t.entries.items (omega (arith, below)) in
    let begins = begins-at m origin t d (n + 1) s.all in
    let it = s.all.readings.each k r there in
    elim (cases_lt r.end n) [
      | inl before ↦
          let fine = fine-before m origin t d n s it.0 r it.1 before in
          let low : r.end < length (take (n + 1) t.entries.items) = omega (arith, long, before) in
          let reads = in-beginning m origin t d (take (n + 1) t.entries.items) (drop (n + 1) t.entries.items) begins it.0 r it.1 low in
          (end-decides m origin t d (take (n + 1) t.entries.items) (drop (n + 1) t.entries.items) it.0 r (record { begins = begins; is = it.1; below = low })).1
          (fine.short it.0 r.file r.offset r.count (shown_bytes t r) reads)
      | inr le ↦ elim (cases_lt n r.end) [
        | inl above ↦ (late-well t d (length (take (n + 1) t.entries.items)) r (omega (arith, long, above))).1
        | inr high ↦ subst (λ (z : ℕ). ends_well t d z r ≡ true) (sym long) (not-there r.end n (ends_well t d (n + 1) r) (let same : r.end ≡ n = omega (arith, le, high) in same) x)
      ]
    ]

pub ends-step : (m : Modes) (origin : Origin) (t : Trace) (d : Digest) (n : ℕ) → Steps m origin t d n → Decides (last_ends_well t d n) (ReadShort m origin (start_of (take (n + 1) t.entries.items) (server_at t)))
ends-step m origin t d n s = (
  λ x. decided.0 (all-from (ends_well t d (length (take (n + 1) t.entries.items))) d.readings.items (λ k r there. end-step-one m origin t d n s k r there (all-holds (ends_last t d n) d.readings.items k r x there))),
  λ read. let all = decided.1 read in all-from (ends_last t d n) d.readings.items (λ k r there. or_right (not (r.end == n)) (ends_well t d (n + 1) r)
      (subst (λ (z : ℕ). ends_well t d z r ≡ true) long (all-holds (ends_well t d (length (take (n + 1) t.entries.items))) d.readings.items k r all there))),
)
  where
    long : length (take (n + 1) t.entries.items) ≡ n + 1
    long = length-take-le (n + 1) t.entries.items (let below = s.below in omega (arith, below))

    decided : Decides (all_end_well t d (length (take (n + 1) t.entries.items))) (ReadShort m origin (start_of (take (n + 1) t.entries.items) (server_at t)))
    decided = ends-decide m origin t d (take (n + 1) t.entries.items) (drop (n + 1) t.entries.items) (begins-at m origin t d (n + 1) s.all)
