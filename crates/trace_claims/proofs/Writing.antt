-- Which operations write a file's bytes or make them stable, by the tests on an operation with its files.
use Rattle.std.proofs.Common.{◌≡◌, ◌<◌, ◌≤◌, ◌+◌, ◌-◌, ℕ, zero, suc, Bool, true, List, [], ◌∷◌, ◌++◌, length, Some, slice_get, refl, sym, ◌∙◌, ap, subst, arith}
use Rattle.std.specs.Prelude.{nat_lt, nat_le}
use Rattle.std.proofs.lemmas.Bool.{ltb-true, lt-ltb, leb-true, le-leb, and_parts, and_from}
use Rattle.std.proofs.lemmas.Option.{slice_get_within}
use Rattle.world_model.specs.declared.answer.Answer.TheVariants.{Done}
use Rattle.world_model.specs.declared.answer.Value.{Value}
use Rattle.world_model.specs.declared.entry.Entry.{Entry}
use Rattle.world_model.specs.declared.entry.Entry.TheVariants.{Answered}
use Rattle.world_model.specs.declared.op.Op.{Op}
use Rattle.world_model.specs.declared.op.Op.TheVariants as ops
use Rattle.world_model.specs.Mounts.{Origin}
use Rattle.world_model.specs.Operations.{Ended}
use Rattle.world_model.proofs.Places.{At-below}
use Rattle.claims.specs.Modes.{Modes}
use Rattle.claims.specs.Slots.{IsOf, PutsTo}
use Rattle.claims.specs.Touched as touching
use Rattle.claims.specs.Touched.{Covers, Wrote, MadeStable, Truncated}
use Rattle.trace_claims.specs.declared.courses.Work.{Work}
use Rattle.trace_claims.specs.declared.operations.Operation.{Operation}
use Rattle.trace_claims.specs.Courses.{work_of, is_done, within, covers, succeeds}
use Rattle.trace_claims.specs.Operations.{is_of, named_is, if_writer, if_stabilizer, if_cut, made_stable, wrote_to, cuts, put, IsOperation}
use Rattle.trace_claims.proofs.Frames.{Ended-grow, Last-grow}
use Rattle.trace_claims.proofs.SettledFrame.{PutsTo-back}
use Rattle.trace_claims.proofs.Telling.{course-work, done-ended, ended-says, ended-done}
use Rattle.trace_claims.proofs.Owning.{of-told, of-shown, cut-op, named-told, named-shown, file-put}

PutsTo-grow : (h more : List Entry) (x y : ℕ) (f : List ℕ) (offset : ℕ) (bytes : List ℕ) → y ≤ length h → PutsTo h x y f offset bytes → PutsTo (h ++ more) x y f offset bytes
PutsTo-grow h more x y f offset bytes within p = record { lane = p.lane; path = p.path; value = p.value; call = p.call; ended = Ended-grow h more p.lane x (ops.Put p.path offset bytes) y (Done p.value) p.ended; names = p.names; asked = Last-grow h more y p.call within p.asked }

-- the answer stands in the beginning
answered-below : (b : List Entry) (lane x : ℕ) (op : Op) (y : ℕ) (value : Value) → Ended b lane x op y (Done value) → y < length b
answered-below b lane x op y value ended = At-below b y (Answered lane ended.line (Done value)) ended.answered

-- a put that succeeded in the beginning is of the file that is named
put-named : (m : Modes) (origin : Origin) (b more : List Entry) (o : Operation) → IsOperation m origin (b ++ more) o → (f : List ℕ) (y offset : ℕ) (bytes : List ℕ) → PutsTo b o.course.place y f offset bytes → named_is f o.named ≡ true
put-named m origin b more o is f y offset bytes p =
    let same : o.course.ending.end ≡ y = (ended-says b more o.course is.course p.lane (ops.Put p.path offset bytes) y (Done p.value) p.ended).0 in
    let below : y < length b = answered-below b p.lane o.course.place (ops.Put p.path offset bytes) y p.value p.ended in
    named-shown m (b ++ more) o.course o.named f is.named
    (put offset bytes (subst (λ (n : ℕ). PutsTo (b ++ more) o.course.place n f offset bytes) (sym same) (PutsTo-grow b more o.course.place y f offset bytes (omega (arith, below)) p)))

-- ---- made stable

made-by : (m : Modes) (origin : Origin) (b more : List Entry) (o : Operation) (is : IsOperation m origin (b ++ more) o) (f : List ℕ) (lane : ℕ) (op : Op) (y : ℕ) (value : Value) → Ended b lane o.course.place op y (Done value)
    → if_stabilizer (work_of op) (is_of o f) (named_is f o.named) ≡ true → (made_stable o (length b) f ≡ true) × (o.course.ending.end ≡ y)
made-by m origin b more o is f lane op y value ended t =
    let long = Ended-grow b more lane o.course.place op y (Done value) ended in
    let done = ended-done b more o.course is.course lane op y (length b) value ended (answered-below b lane o.course.place op y value ended) in
    let work = course-work (b ++ more) o.course is.course lane long.line op long.began in
    (and_from (is_done o.course (length b)) (if_stabilizer o.course.work (is_of o f) (named_is f o.named)) done (ap (λ (w : Work). if_stabilizer w (is_of o f) (named_is f o.named)) work ∙ t), (ended-says b more o.course is.course lane op y (Done value) ended).0)

pub made-shown : (m : Modes) (origin : Origin) (b more : List Entry) (o : Operation) → IsOperation m origin (b ++ more) o → (f : List ℕ) (y : ℕ) → MadeStable m b o.course.place y f → (made_stable o (length b) f ≡ true) × (o.course.ending.end ≡ y)
made-shown m origin b more o is f y (touching.sync lane slot value of ended) = made-by m origin b more o is f lane (ops.Sync slot) y value ended (of-shown m origin b more o is (ops.Sync slot) f of)
made-shown m origin b more o is f y (touching.close lane slot value of ended) = made-by m origin b more o is f lane (ops.Close slot) y value ended (of-shown m origin b more o is (ops.Close slot) f of)
made-shown m origin b more o is f y (touching.put offset bytes puts) = made-by m origin b more o is f puts.lane (ops.Put puts.path offset bytes) y puts.value puts.ended (put-named m origin b more o is f y offset bytes puts)

-- ---- places of a range

byte-at : (bytes : List ℕ) (k : ℕ) → k < length bytes → (v : ℕ) × (slice_get bytes k ≡ Some v)
byte-at [] k lt = absurd (omega (arith, lt))
byte-at (x ∷ bytes) zero lt = (x, refl)
byte-at (x ∷ bytes) (suc k) lt = byte-at bytes k (omega (arith, lt))

pub within-parts : (offset count i : ℕ) → within offset count i ≡ true → (offset ≤ i) × (i < offset + count)
within-parts offset count i t = let p = and_parts (nat_le offset i) (nat_lt i (offset + count)) t in (leb-true offset i p.0, ltb-true i (offset + count) p.1)

pub within-from : (offset count i : ℕ) → offset ≤ i → i < offset + count → within offset count i ≡ true
within-from offset count i low high = and_from (nat_le offset i) (nat_lt i (offset + count)) (le-leb offset i low) (lt-ltb i (offset + count) high)

-- bytes at an offset cover exactly the places of their range
pub covers-told : (offset : ℕ) (bytes : List ℕ) (i : ℕ) → within offset (length bytes) i ≡ true → (v : ℕ) × Covers offset bytes i v
covers-told offset bytes i t =
    let p = within-parts offset (length bytes) i t in
    let byte = byte-at bytes (i - offset) (omega (arith, p.0, p.1)) in
    (byte.0, record { k = i - offset; place = omega (arith, p.0); byte = byte.1 })

pub covers-shown : (offset : ℕ) (bytes : List ℕ) (i v : ℕ) → Covers offset bytes i v → within offset (length bytes) i ≡ true
covers-shown offset bytes i v c =
    let below : c.k < length bytes = slice_get_within bytes c.k v c.byte in
    within-from offset (length bytes) i (omega (arith, c.place)) (omega (arith, c.place, below))

-- ---- written

-- a write or fill of the slot's file, or a put of the other one, that covers the place
pub data WriterOp (op : Op) (a n : Bool) (i : ℕ) : Type 0 where
  write : (slot offset : ℕ) (bytes : List ℕ) → op ≡ ops.Write slot offset bytes → a ≡ true → within offset (length bytes) i ≡ true → WriterOp op a n i
  fill : (slot offset count byte : ℕ) → op ≡ ops.Fill slot offset count byte → a ≡ true → within offset count i ≡ true → WriterOp op a n i
  puts_it : (path : List (List ℕ)) (offset : ℕ) (bytes : List ℕ) → op ≡ ops.Put path offset bytes → n ≡ true → within offset (length bytes) i ≡ true → WriterOp op a n i

pub writer-op : (op : Op) (a n : Bool) (i : ℕ) → if_writer (work_of op) a n ≡ true → covers (work_of op) i ≡ true → WriterOp op a n i
writer-op (ops.Write slot offset bytes) a n i t c = write slot offset bytes refl t c
writer-op (ops.Fill slot offset count byte) a n i t c = fill slot offset count byte refl t c
writer-op (ops.Put path offset bytes) a n i t c = puts_it path offset bytes refl t c
writer-op (ops.Sync slot) a n i t c = absurd cc
writer-op (ops.Close slot) a n i t c = absurd cc
writer-op (ops.Truncate slot size) a n i t c = absurd cc
writer-op (ops.OpenFile slot mode path) a n i t c = absurd cc
writer-op (ops.Read slot offset count) a n i t c = absurd cc
writer-op (ops.Stat path) a n i t c = absurd cc
writer-op (ops.Access path bits) a n i t c = absurd cc
writer-op (ops.MakeDir path) a n i t c = absurd cc
writer-op (ops.RemoveDir path) a n i t c = absurd cc
writer-op (ops.Remove path) a n i t c = absurd cc
writer-op (ops.Rename from to) a n i t c = absurd cc
writer-op (ops.Link from to) a n i t c = absurd cc
writer-op (ops.SymLink path target) a n i t c = absurd cc
writer-op (ops.ReadLink path) a n i t c = absurd cc
writer-op (ops.List path) a n i t c = absurd cc

-- a write, fill or put of the file that succeeded in the beginning put some byte at each place that it covers
pub wrote-told : (m : Modes) (origin : Origin) (b more : List Entry) (o : Operation) → IsOperation m origin (b ++ more) o → (f : List ℕ) (i : ℕ) → wrote_to o (length b) f ≡ true → covers o.course.work i ≡ true
    → (v : ℕ) × Wrote m b o.course.place o.course.ending.end f i v
wrote-told m origin b more o is f i t c =
    by (writer-op is.course.op (is_of o f) (named_is f o.named) i (sym (ap (λ (w : Work). if_writer w (is_of o f) (named_is f o.named)) is.course.does) ∙ parts.1) (sym (ap (λ (w : Work). covers w i) is.course.does) ∙ c))
  where
    parts : (is_done o.course (length b) ≡ true) × (if_writer o.course.work (is_of o f) (named_is f o.named) ≡ true)
    parts = and_parts (is_done o.course (length b)) (if_writer o.course.work (is_of o f) (named_is f o.named)) t

    ended : (value : Value) × Ended b o.course.lane o.course.place is.course.op o.course.ending.end (Done value)
    ended = done-ended b more o.course (length b) is.course (omega arith) parts.0

    low : o.course.ending.end < length b
    low = ltb-true o.course.ending.end (length b) (and_parts (succeeds o.course.ending.outcome) (nat_lt o.course.ending.end (length b)) parts.0).1

    below : o.course.place < length b
    below = let later : o.course.place < o.course.ending.end = ended.1.later in omega (arith, later, low)

    moved : (op : Op) → is.course.op ≡ op → Ended b o.course.lane o.course.place op o.course.ending.end (Done ended.0)
    moved op same = subst (λ (z : Op). Ended b o.course.lane o.course.place z o.course.ending.end (Done ended.0)) same ended.1

    by : WriterOp is.course.op (is_of o f) (named_is f o.named) i → (v : ℕ) × Wrote m b o.course.place o.course.ending.end f i v
    by (write slot offset bytes same a inside) =
        let covered = covers-told offset bytes i inside in
        (covered.0, touching.write o.course.lane slot offset bytes ended.0 (subst (λ (op : Op). IsOf m b o.course.place op f) same (of-told m origin b more o is f below a)) (moved (ops.Write slot offset bytes) same) covered.1)
    by (fill slot offset count byte same a inside) =
        let p = within-parts offset count i inside in
        (byte, touching.fill o.course.lane slot offset count ended.0 (subst (λ (op : Op). IsOf m b o.course.place op f) same (of-told m origin b more o is f below a)) (moved (ops.Fill slot offset count byte) same) p.0 p.1)
    by (puts_it path offset bytes same n inside) =
        let covered = covers-told offset bytes i inside in (
          covered.0,
          touching.put offset bytes (PutsTo-back b more o.course.place o.course.ending.end f offset bytes low
              (file-put m (b ++ more) o.course is.course f path offset bytes same (named-told m (b ++ more) o.course o.named f is.named n))) covered.1,
        )

wrote-by : (m : Modes) (origin : Origin) (b more : List Entry) (o : Operation) (is : IsOperation m origin (b ++ more) o) (f : List ℕ) (i lane : ℕ) (op : Op) (y : ℕ) (value : Value) → Ended b lane o.course.place op y (Done value)
    → if_writer (work_of op) (is_of o f) (named_is f o.named) ≡ true → covers (work_of op) i ≡ true → (wrote_to o (length b) f ≡ true) × (covers o.course.work i ≡ true) × (o.course.ending.end ≡ y)
wrote-by m origin b more o is f i lane op y value ended t c =
    let long = Ended-grow b more lane o.course.place op y (Done value) ended in
    let work = course-work (b ++ more) o.course is.course lane long.line op long.began in
    let done = ended-done b more o.course is.course lane op y (length b) value ended (answered-below b lane o.course.place op y value ended) in
    let writer = ap (λ (w : Work). if_writer w (is_of o f) (named_is f o.named)) work ∙ t in
    (and_from (is_done o.course (length b)) (if_writer o.course.work (is_of o f) (named_is f o.named)) done writer, ap (λ (w : Work). covers w i) work ∙ c, (ended-says b more o.course is.course lane op y (Done value) ended).0)

-- and what was put at a place was put by one that the tests find
pub wrote-shown : (m : Modes) (origin : Origin) (b more : List Entry) (o : Operation) → IsOperation m origin (b ++ more) o → (f : List ℕ) (y i v : ℕ) → Wrote m b o.course.place y f i v
    → (wrote_to o (length b) f ≡ true) × (covers o.course.work i ≡ true) × (o.course.ending.end ≡ y)
wrote-shown m origin b more o is f y i v (touching.write lane slot offset bytes value of ended covered) =
    wrote-by m origin b more o is f i lane (ops.Write slot offset bytes) y value ended (of-shown m origin b more o is (ops.Write slot offset bytes) f of) (covers-shown offset bytes i v covered)
wrote-shown m origin b more o is f y i v (touching.fill lane slot offset count value of ended low high) =
    wrote-by m origin b more o is f i lane (ops.Fill slot offset count v) y value ended (of-shown m origin b more o is (ops.Fill slot offset count v) f of) (within-from offset count i low high)
wrote-shown m origin b more o is f y i v (touching.put offset bytes puts covered) =
    wrote-by m origin b more o is f i puts.lane (ops.Put puts.path offset bytes) y puts.value puts.ended (put-named m origin b more o is f y offset bytes puts) (covers-shown offset bytes i v covered)

-- ---- truncates that succeeded

pub truncated-told : (m : Modes) (origin : Origin) (b more : List Entry) (o : Operation) → IsOperation m origin (b ++ more) o → (f : List ℕ) (i : ℕ) → is_done o.course (length b) ≡ true → cuts o f i ≡ true
    → (size : ℕ) × (size ≤ i) × Truncated m b o.course.place o.course.ending.end f size
truncated-told m origin b more o is f i done t =
    let ended = done-ended b more o.course (length b) is.course (omega arith) done in
    let low : o.course.ending.end < length b = ltb-true o.course.ending.end (length b) (and_parts (succeeds o.course.ending.outcome) (nat_lt o.course.ending.end (length b)) done).1 in
    let later : o.course.place < o.course.ending.end = ended.1.later in
    let cut = cut-op is.course.op i (is_of o f) (sym (ap (λ (w : Work). if_cut w i (is_of o f)) is.course.does) ∙ t) in (
      cut.1,
      cut.3,
      record {
        lane = o.course.lane;
        slot = cut.0;
        value = ended.0;
        of = subst (λ (op : Op). IsOf m b o.course.place op f) cut.2 (of-told m origin b more o is f (omega (arith, later, low)) cut.4);
        ended = subst (λ (op : Op). Ended b o.course.lane o.course.place op o.course.ending.end (Done ended.0)) cut.2 ended.1;
      },
    )

pub truncated-shown : (m : Modes) (origin : Origin) (b more : List Entry) (o : Operation) → IsOperation m origin (b ++ more) o → (f : List ℕ) (y size i : ℕ) → size ≤ i → Truncated m b o.course.place y f size
    → (is_done o.course (length b) ≡ true) × (cuts o f i ≡ true) × (o.course.ending.end ≡ y)
truncated-shown m origin b more o is f y size i le c =
    let long = Ended-grow b more c.lane o.course.place (ops.Truncate c.slot size) y (Done c.value) c.ended in
    let done = ended-done b more o.course is.course c.lane (ops.Truncate c.slot size) y (length b) c.value c.ended (answered-below b c.lane o.course.place (ops.Truncate c.slot size) y c.value c.ended) in
    let work = course-work (b ++ more) o.course is.course c.lane long.line (ops.Truncate c.slot size) long.began in
    let cut = ap (λ (w : Work). if_cut w i (is_of o f)) work ∙ and_from (nat_le size i) (is_of o f) (le-leb size i le) (of-shown m origin b more o is (ops.Truncate c.slot size) f c.of) in
    (done, cut, (ended-says b more o.course is.course c.lane (ops.Truncate c.slot size) y (Done c.value) c.ended).0)
