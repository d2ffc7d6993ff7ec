-- The readings that the list has are the reads of the history that succeeded.
use Rattle.std.proofs.Common.{◌≡◌, ◌<◌, ◌≤◌, ◌+◌, inl, inr, ℕ, true, false, true≢false, List, [], ◌∷◌, ◌++◌, length, Option, Some, Result, Ok, Err, slice_get, refl, sym, ◌∙◌, ap, subst, arith}
use Rattle.std.specs.Prelude.{◌&&◌, nat_lt, IfOk}
use Rattle.xdr_codec.specs.declared.blob.Memory.{Memory}
use Rattle.std.proofs.lemmas.Bool.{cases_Bool, cases_lt, lt-ltb, and_parts, and_from}
use Rattle.std.proofs.lemmas.Option.{slice_get_within}
use Rattle.world_model.specs.declared.answer.Answer.TheVariants.{Done, Refused}
use Rattle.world_model.specs.declared.answer.Value.{Value}
use Rattle.world_model.specs.declared.answer.Value.TheVariants as values
use Rattle.world_model.specs.declared.entry.Entry.{Entry}
use Rattle.world_model.specs.declared.entry.Entry.TheVariants.{Answered}
use Rattle.world_model.specs.declared.op.Op.{Op}
use Rattle.world_model.specs.declared.op.Op.TheVariants as ops
use Rattle.world_model.specs.Entries.{At}
use Rattle.world_model.specs.Mounts.{Origin}
use Rattle.world_model.specs.Operations.{Ended}
use Rattle.world_model.proofs.Places.{At-below}
use Rattle.claims.specs.Modes.{Modes}
use Rattle.claims.specs.ReadTrue.{ReadsBytes, Since, each_read, opened}
use Rattle.claims.specs.Slots.{InSlot}
use Rattle.trace_data.specs.declared.trace.Trace.{Trace}
use Rattle.trace_claims.specs.declared.courses.Course.{Course}
use Rattle.trace_claims.specs.declared.courses.Work.{Work}
use Rattle.trace_claims.specs.declared.courses.Work.TheVariants as works
use Rattle.trace_claims.specs.declared.endings.Outcome.{Outcome}
use Rattle.trace_claims.specs.declared.endings.Outcome.TheVariants as outcomes
use Rattle.trace_claims.specs.declared.operations.Hold.{Hold}
use Rattle.trace_claims.specs.declared.operations.Operation.{Operation}
use Rattle.trace_claims.specs.declared.readings.Reading.{Reading}
use Rattle.trace_claims.specs.Clocks.{IsSince}
use Rattle.trace_claims.specs.Courses.{work_of, slot_of_work, is_read, is_done, succeeds}
use Rattle.trace_claims.specs.Modes.{modes_of}
use Rattle.trace_claims.specs.Objects.{HasWindow}
use Rattle.trace_claims.specs.Operations.{HoldsFor, IsOperation}
use Rattle.trace_claims.specs.Readings.{value_bytes, answer_there, answer_bytes, has_value, has_there, has_bytes, reads, offset_of, count_of, ReadingSo, ListsHold, AddsOfHolds, AddsReadings, ReadingsOf, IsReading, ListsReading, HasReadings}
use Rattle.trace_claims.specs.Touching.{HasOperations}
use Rattle.trace_claims.proofs.Listing.{get-last, get-grow, get-new, get-same}
use Rattle.trace_claims.proofs.Namings.{done-here}
use Rattle.trace_claims.proofs.Telling.{course-lane, course-work, ends-says}

-- ---- the list as it is made

pub holds-none : (t : Trace) (c : Course) (holds : List Hold) (rs : List Reading) → AddsOfHolds t c holds 0 rs rs
holds-none t c holds rs = record { before = λ i r at. at; each = λ i r at. inl at; every = λ j hold at lt. absurd (omega (arith, lt)) }

kept-hold : (t : Trace) (c : Course) (old new : List Reading) (hold : Hold) → ((i : ℕ) (r : Reading) → slice_get old i ≡ Some r → slice_get new i ≡ Some r) → ListsHold t c old hold → ListsHold t c new hold
kept-hold t c old new hold keeps l = (l.0, l.1, keeps l.0 l.1 l.2, l.3)

pub holds-more : (t : Trace) (c : Course) (holds : List Hold) (k : ℕ) (hold : Hold) (r : Reading) (old mid : List Reading) → slice_get holds k ≡ Some hold → ReadingSo t c hold r → AddsOfHolds t c holds k old mid → AddsOfHolds t c holds (k + 1) old (mid ++ r ∷ [])
holds-more t c holds k hold r old mid at is so-far = record {
  before = λ i x was. get-grow mid r i x (so-far.before i x was);
  each = λ i x there. elim (get-last mid r i x there) [
    | inl was ↦ elim (so-far.each i x was) [
      | inl older ↦ inl older
      | inr from ↦ let low = from.2 in inr (from.0, from.1, omega (arith, low), from.3, from.4)
    ]
    | inr e ↦ inr (k, hold, omega arith, at, subst (λ (z : Reading). ReadingSo t c hold z) e is)
  ];
  every = λ j x there lt. elim (cases_lt j k) [
    | inl before ↦ kept-hold t c mid (mid ++ r ∷ []) x (λ i z was. get-grow mid r i z was) (so-far.every j x there before)
    | inr le ↦ subst (λ (z : Hold). ListsHold t c (mid ++ r ∷ []) z) (get-same holds k hold x at (subst (λ (z : ℕ). slice_get holds z ≡ Some x) (let same : j ≡ k = omega (arith, le, lt) in same) there)) (length mid, r, get-new mid r, is)
  ];
}

pub reads-adds : (t : Trace) (o : Operation) (old new : List Reading) → reads t.entries.items o.course ≡ true → AddsOfHolds t o.course o.holds.items (length o.holds.items) old new → AddsReadings t o (length o.holds.items) old new
reads-adds t o old new is adds = record {
  before = adds.before;
  each = λ i r at. elim (adds.each i r at) [
    | inl was ↦ inl was
    | inr from ↦ inr (is, from)
  ];
  every = λ its j hold at lt. adds.every j hold at lt;
}

pub reads-adds-ok : {A : Type 0} (t : Trace) (o : Operation) (old new : List Reading) (r : Result A Memory) → reads t.entries.items o.course ≡ true
    → IfOk r (λ done. AddsOfHolds t o.course o.holds.items (length o.holds.items) old new) → IfOk r (λ done. AddsReadings t o (length o.holds.items) old new)
reads-adds-ok t o old new (Ok a) is adds = reads-adds t o old new is adds
reads-adds-ok t o old new (Err fault) is adds = tt

pub reads-not : (t : Trace) (o : Operation) (rs : List Reading) → reads t.entries.items o.course ≡ false → AddsReadings t o (length o.holds.items) rs rs
reads-not t o rs none = record { before = λ i r at. at; each = λ i r at. inl at; every = λ its j hold at lt. absurd (true≢false (sym its ∙ none)) }

pub of-none : (t : Trace) (os : List Operation) → ReadingsOf t os 0 []
of-none t os = record { each = λ i r at. absurd cc; every = λ j o at lt is i hold held. absurd (omega (arith, lt)) }

pub of-more : (t : Trace) (os : List Operation) (k : ℕ) (o : Operation) (old new : List Reading) → slice_get os k ≡ Some o → AddsReadings t o (length o.holds.items) old new → ReadingsOf t os k old → ReadingsOf t os (k + 1) new
of-more t os k o old new at adds so-far = record {
  each = λ i r there. elim (adds.each i r there) [
    | inl was ↦ let it = so-far.each i r was in let low = it.2 in (it.0, it.1, omega (arith, low), it.3, it.4)
    | inr from ↦ (k, o, omega arith, at, from)
  ];
  every = λ j x there lt is i hold held. elim (cases_lt j k) [
    | inl before ↦ kept-hold t x.course old new hold adds.before (so-far.every j x there before is i hold held)
    | inr le ↦
        let same = get-same os k o x at (subst (λ (z : ℕ). slice_get os z ≡ Some x) (let e : j ≡ k = omega (arith, le, lt) in e) there) in
        subst (λ (z : Operation). ListsHold t z.course new hold) same
        (adds.every (subst (λ (z : Operation). reads t.entries.items z.course ≡ true) (sym same) is) i hold (subst (λ (z : Operation). slice_get z.holds.items i ≡ Some hold) (sym same) held)
        (slice_get_within o.holds.items i hold (subst (λ (z : Operation). slice_get z.holds.items i ≡ Some hold) (sym same) held)))
  ];
}

-- ---- one read

read-op : (op : Op) → is_read (work_of op) ≡ true → (slot : ℕ) × (offset : ℕ) × (count : ℕ) × (op ≡ ops.Read slot offset count)
read-op (ops.Read slot offset count) t = (slot, offset, count, refl)
read-op (ops.Close slot) t = absurd cc
read-op (ops.OpenFile its mode path) t = absurd cc
read-op (ops.Put path offset bytes) t = absurd cc
read-op (ops.Write its offset bytes) t = absurd cc
read-op (ops.Fill its offset count byte) t = absurd cc
read-op (ops.Sync its) t = absurd cc
read-op (ops.Truncate its size) t = absurd cc
read-op (ops.Stat path) t = absurd cc
read-op (ops.Access path bits) t = absurd cc
read-op (ops.MakeDir path) t = absurd cc
read-op (ops.RemoveDir path) t = absurd cc
read-op (ops.Remove path) t = absurd cc
read-op (ops.Rename from to) t = absurd cc
read-op (ops.Link from to) t = absurd cc
read-op (ops.SymLink path target) t = absurd cc
read-op (ops.ReadLink path) t = absurd cc
read-op (ops.List path) t = absurd cc

succeeds-done : (o : Outcome) → succeeds o ≡ true → o ≡ outcomes.Done
succeeds-done outcomes.Done t = refl
succeeds-done outcomes.Refused t = absurd (true≢false (sym t))
succeeds-done outcomes.Unanswered t = absurd (true≢false (sym t))

has-value : (value : Value) → has_value value ≡ true → value ≡ values.Bytes (value_bytes value)
has-value (values.Bytes bytes) t = refl
has-value values.Nothing t = absurd (true≢false (sym t))
has-value (values.Text text) t = absurd (true≢false (sym t))
has-value (values.Attrs attr) t = absurd (true≢false (sym t))
has-value (values.Bits bits) t = absurd (true≢false (sym t))
has-value (values.Names names) t = absurd (true≢false (sym t))

answer-at : (h : List Entry) (y lane line : ℕ) (value : Value) → At h y (Answered lane line (Done value)) → answer_bytes h y ≡ value_bytes value
unfolding answer_bytes
answer-at h y lane line value at = ap answer_there at

has-at : (h : List Entry) (y lane line : ℕ) (value : Value) → At h y (Answered lane line (Done value)) → has_bytes h y ≡ has_value value
unfolding has_bytes
has-at h y lane line value at = ap has_there at

-- what the operation read, of a file that its slot held
pub read-told : (m : Modes) (origin : Origin) (h : List Entry) (o : Operation) → IsOperation m origin h o → reads h o.course ≡ true → (i : ℕ) (hold : Hold) → slice_get o.holds.items i ≡ Some hold
    → ReadsBytes m h o.course.place o.course.ending.end hold.opened_at hold.file (offset_of o.course.work) (count_of o.course.work) (answer_bytes h o.course.ending.end)
read-told m origin h o is t i hold held =
    let two = and_parts (is_read o.course.work && is_done o.course (length h)) (has_bytes h o.course.ending.end) t in
    let one = and_parts (is_read o.course.work) (is_done o.course (length h)) two.0 in
    let done = and_parts (succeeds o.course.ending.outcome) (nat_lt o.course.ending.end (length h)) one.1 in
    let op = read-op is.course.op (sym (ap is_read is.course.does) ∙ one.0) in
    let work : o.course.work ≡ works.Read op.0 op.1 op.2 = is.course.does ∙ ap work_of op.3 in
    let ended = done-here h o.course is.course (succeeds-done o.course.ending.outcome done.0) in
    let bytes = has-value ended.0 (sym (has-at h o.course.ending.end o.course.lane ended.1.line ended.0 ended.1.answered) ∙ two.1) in
    let shown = answer-at h o.course.ending.end o.course.lane ended.1.line ended.0 ended.1.answered in
    let all : HoldsFor m h o.course (Some op.0) o.holds.items = subst (λ (s : Option ℕ). HoldsFor m h o.course s o.holds.items) (ap slot_of_work work) is.holds in
    let here : Ended h o.course.lane o.course.place (ops.Read op.0 op.1 op.2) o.course.ending.end (Done (values.Bytes (answer_bytes h o.course.ending.end))) =
    subst (λ (z : List ℕ). Ended h o.course.lane o.course.place (ops.Read op.0 op.1 op.2) o.course.ending.end (Done (values.Bytes z))) (sym shown)
    (subst (λ (v : Value). Ended h o.course.lane o.course.place (ops.Read op.0 op.1 op.2) o.course.ending.end (Done v)) bytes (subst (λ (z : Op). Ended h o.course.lane o.course.place z o.course.ending.end (Done ended.0)) op.3 ended.1)) in
    subst (λ (w : Work). ReadsBytes m h o.course.place o.course.ending.end hold.opened_at hold.file (offset_of w) (count_of w) (answer_bytes h o.course.ending.end)) (sym work)
    (record { lane = o.course.lane; slot = op.0; ended = here; holds = all.each i hold held })

-- the moment from which it may show bytes isn't past its end
since-within : (t : Trace) (r o s e : ℕ) → IsSince t r o s → r ≤ e → o ≤ e → s ≤ e
since-within t r o s e is low before = elim (cases_Bool t.noac) [
  | inl on ↦ is.late e (each_read on low)
  | inr off ↦ is.late e (opened off before)
]

pub readings-all : (origin : Origin) (t : Trace) (os : List Operation) (rs : List Reading) → HasOperations (modes_of t) origin t.entries.items os → ReadingsOf t os (length os) rs → HasReadings (modes_of t) t rs
readings-all origin t os rs has all = record { each = each; every = every }
  where
    m : Modes
    m = modes_of t

    is-reading : (o : Operation) → IsOperation (modes_of t) origin t.entries.items o → reads t.entries.items o.course ≡ true → (i : ℕ) (hold : Hold) → slice_get o.holds.items i ≡ Some hold → (r : Reading) → ReadingSo t o.course hold r
        → IsReading (modes_of t) t hold.opened_at r
    is-reading o op t_reads i hold held r so =
        let told = read-told (modes_of t) origin t.entries.items o op t_reads i hold held in
        let later = told.ended.later in
        let a = told.holds.opens.ended.later in
        let b = told.holds.before in
        let since : so.since ≤ o.course.ending.end = since-within t o.course.place hold.opened_at so.since o.course.ending.end so.is (omega (arith, later)) (omega (arith, a, b, later)) in
        record {
          reads = subst (λ (z : ℕ). ReadsBytes (modes_of t) t.entries.items r.place r.end hold.opened_at r.file r.offset z (answer_bytes t.entries.items r.end)) (sym so.count_is)
              (subst (λ (z : ℕ). ReadsBytes (modes_of t) t.entries.items r.place r.end hold.opened_at r.file z (count_of o.course.work) (answer_bytes t.entries.items r.end)) (sym so.offset_is)
              (subst (λ (z : List ℕ). ReadsBytes (modes_of t) t.entries.items r.place r.end hold.opened_at z (offset_of o.course.work) (count_of o.course.work) (answer_bytes t.entries.items r.end)) (sym so.file_is)
              (subst (λ (z : ℕ). ReadsBytes (modes_of t) t.entries.items r.place z hold.opened_at hold.file (offset_of o.course.work) (count_of o.course.work) (answer_bytes t.entries.items z)) (sym so.end_is)
              (subst (λ (z : ℕ). ReadsBytes (modes_of t) t.entries.items z o.course.ending.end hold.opened_at hold.file (offset_of o.course.work) (count_of o.course.work) (answer_bytes t.entries.items o.course.ending.end)) (sym so.place_is) told))));
          since = so.since;
          late = subst (λ (z : ℕ). (n : ℕ) → Since (modes_of t) t.entries.items z hold.opened_at n → so.since ≤ n) (sym so.place_is) so.is.late;
          early = subst (λ (z : ℕ). (n : ℕ) → so.since ≤ n → Since (modes_of t) t.entries.items z hold.opened_at n) (sym so.place_is) so.is.early;
          has = subst (λ (z : List ℕ). HasWindow t z so.since r.end r.window.items) (sym so.file_is) (subst (λ (z : ℕ). HasWindow t hold.file so.since z r.window.items) (sym so.end_is) (so.has since));
        }

    each : (k : ℕ) (r : Reading) → slice_get rs k ≡ Some r → (o : ℕ) × IsReading (modes_of t) t o r
    each k r at =
        let from = all.each k r at in
        let hold = from.4.1 in
        (hold.1.opened_at, is-reading from.1 (has.each from.0 from.1 from.3) from.4.0 hold.0 hold.1 hold.3 r hold.4)

    every : (x y o : ℕ) (f : List ℕ) (offset count : ℕ) (bytes : List ℕ) → ReadsBytes (modes_of t) t.entries.items x y o f offset count bytes → ListsReading (modes_of t) t rs x y o f offset count bytes
    every x y o f offset count bytes b =
        let op = ops.Read b.slot offset count in
        let it = has.every x b.lane b.ended.line op b.ended.began in
        let own = has.each it.0 it.1 it.2 in
        let its : Ended t.entries.items b.lane it.1.course.place (ops.Read b.slot offset count) y (Done (values.Bytes bytes)) = subst (λ (z : ℕ). Ended t.entries.items b.lane z (ops.Read b.slot offset count) y (Done (values.Bytes bytes))) (sym it.3) b.ended in
        let work = course-work t.entries.items it.1.course own.course b.lane its.line (ops.Read b.slot offset count) its.began in
        let lane = course-lane t.entries.items it.1.course own.course b.lane its.line (ops.Read b.slot offset count) its.began in
        let says = ends-says t.entries.items it.1.course own.course b.lane (ops.Read b.slot offset count) y (Done (values.Bytes bytes)) its in
        let below : y < length t.entries.items = At-below t.entries.items y (Answered b.lane b.ended.line (Done (values.Bytes bytes))) b.ended.answered in
        let holds_all : HoldsFor (modes_of t) t.entries.items it.1.course (Some b.slot) it.1.holds.items = subst (λ (s : Option ℕ). HoldsFor (modes_of t) t.entries.items it.1.course s it.1.holds.items) (ap slot_of_work work) own.holds in
        let in_slot : InSlot (modes_of t) t.entries.items it.1.course.place it.1.course.lane b.slot o f =
        subst (λ (l : ℕ). InSlot (modes_of t) t.entries.items it.1.course.place l b.slot o f) (sym lane) (subst (λ (z : ℕ). InSlot (modes_of t) t.entries.items z b.lane b.slot o f) (sym it.3) b.holds) in
        let hold = holds_all.every o f in_slot in
        let done = and_from (succeeds it.1.course.ending.outcome) (nat_lt it.1.course.ending.end (length t.entries.items)) (ap succeeds says.1) (lt-ltb it.1.course.ending.end (length t.entries.items) (subst (λ (z : ℕ). z < length t.entries.items) (sym says.0) below)) in
        let shows = subst (λ (z : ℕ). has_bytes t.entries.items z ≡ true) (sym says.0) (has-at t.entries.items y b.lane its.line (values.Bytes bytes) its.answered) in
        let t_reads = and_from (is_read it.1.course.work && is_done it.1.course (length t.entries.items)) (has_bytes t.entries.items it.1.course.ending.end)
        (and_from (is_read it.1.course.work) (is_done it.1.course (length t.entries.items)) (ap is_read work) done) shows in
        let l = all.every it.0 it.1 it.2 (slice_get_within os it.0 it.1 it.2) t_reads hold.0 hold.1 hold.2 in
        record {
          k = l.0;
          r = l.1;
          at = l.2;
          is = subst (λ (z : ℕ). IsReading (modes_of t) t z l.1) hold.3 (is-reading it.1 own t_reads hold.0 hold.1 hold.2 l.1 l.3);
          place_is = l.3.place_is ∙ it.3;
          end_is = l.3.end_is ∙ says.0;
          file_is = l.3.file_is ∙ hold.4;
          offset_is = l.3.offset_is ∙ ap offset_of work;
          count_is = l.3.count_is ∙ ap count_of work;
          bytes_are = answer-at t.entries.items y b.lane its.line (values.Bytes bytes) its.answered;
        }
