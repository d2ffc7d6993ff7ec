-- What the tests on an operation tell of a beginning of its history.
use Rattle.std.proofs.Common.{◌≡◌, ◌<◌, ◌≤◌, ◌+◌, ℕ, true, false, true≢false, List, ◌++◌, length, refl, sym, ◌∙◌, ap, subst, arith}
use Rattle.std.specs.Prelude.{Decides, ◌&&◌, nat_lt}
use Rattle.std.proofs.lemmas.Bool.{ltb-true, lt-ltb, and_parts, and_from}
use Rattle.std.proofs.lemmas.Bool.Decides.{Decides-like}
use Rattle.std.proofs.lemmas.List.{length-append}
use Rattle.world_model.specs.declared.answer.Answer.{Answer}
use Rattle.world_model.specs.declared.answer.Answer.TheVariants.{Done, Refused}
use Rattle.world_model.specs.declared.answer.Fault.{Fault}
use Rattle.world_model.specs.declared.answer.Value.{Value}
use Rattle.world_model.specs.declared.entry.Entry.{Entry}
use Rattle.world_model.specs.declared.entry.Entry.TheVariants.{Began, Answered}
use Rattle.world_model.specs.declared.op.Op.{Op}
use Rattle.world_model.specs.declared.op.Op.TheVariants as ops
use Rattle.world_model.specs.Entries.{At}
use Rattle.world_model.specs.Operations.{Ended, AnsweredBefore}
use Rattle.world_model.proofs.Places.{At-one, At-below}
use Rattle.claims.specs.Touched as touching
use Rattle.claims.specs.Touched.{RefusedWrite, IsAnsweredPut}
use Rattle.claims.specs.Pending.{PutSucceeded, PutRefused}
use Rattle.trace_claims.specs.declared.courses.Course.{Course}
use Rattle.trace_claims.specs.declared.courses.Work.TheVariants as works
use Rattle.trace_claims.specs.declared.endings.Outcome.{Outcome}
use Rattle.trace_claims.specs.declared.endings.Outcome.TheVariants as outcomes
use Rattle.trace_claims.specs.Endings.{EndsSo, answered, unanswered, outcome_of}
use Rattle.trace_claims.specs.Courses.{IsCourse, work_of, ended_before, succeeds, fails, is_done, is_refused, is_put, is_write}
use Rattle.trace_claims.proofs.Frames.{Ended-grow, Ended-back, Before-grow, Before-back}

-- ---- an operation has one end

-- of two ends of an operation neither is the earlier one
ends-once : (h : List Entry) (lane k x : ℕ) (op o : Op) (y z : ℕ) (a b : Answer) → Ended h lane x op y a → Ended h k x o z b → y ≤ z
ends-once h lane k x op o y z a b d e = d.first z b (subst (λ (entry : Entry). At h z entry) (moved k e.line o b (At-one h x (Began lane d.line op) (Began k e.line o) d.began e.began)) e.answered) e.later
  where
    moved : (k n : ℕ) (o : Op) (b : Answer) → Began lane d.line op ≡ Began k n o → Answered k n b ≡ Answered lane d.line b
    moved k n o b same = let l : lane ≡ k = cc in let s : d.line ≡ n = cc in rw (l, s) refl

pub ends-same : (h : List Entry) (lane k x : ℕ) (op o : Op) (y z : ℕ) (a b : Answer) → Ended h lane x op y a → Ended h k x o z b → y ≡ z
ends-same h lane k x op o y z a b d e =
    let le : y ≤ z = ends-once h lane k x op o y z a b d e in
    let ge : z ≤ y = ends-once h k lane x o op z y b a e d in
    omega (arith, le, ge)

same-answer : (lane k line n : ℕ) (a b : Answer) → Answered lane line a ≡ Answered k n b → a ≡ b
same-answer lane k line n a b e = cc

-- and one answer
pub answers-same : (h : List Entry) (lane k x : ℕ) (op o : Op) (y z : ℕ) (a b : Answer) → Ended h lane x op y a → Ended h k x o z b → a ≡ b
answers-same h lane k x op o y z a b d e =
    same-answer lane k d.line e.line a b
    (At-one h y (Answered lane d.line a) (Answered k e.line b) d.answered (subst (λ (n : ℕ). At h n (Answered k e.line b)) (sym (ends-same h lane k x op o y z a b d e)) e.answered))

same-op : (lane k line n : ℕ) (op o : Op) → Began lane line op ≡ Began k n o → op ≡ o
same-op lane k line n op o e = cc

same-lane : (lane k line n : ℕ) (op o : Op) → Began lane line op ≡ Began k n o → lane ≡ k
same-lane lane k line n op o e = cc

-- the operation that began at its place is this one
pub course-op : (h : List Entry) (c : Course) (is : IsCourse h c) (lane line : ℕ) (op : Op) → At h c.place (Began lane line op) → is.op ≡ op
course-op h c is lane line op at = same-op c.lane lane is.line line is.op op (At-one h c.place (Began c.lane is.line is.op) (Began lane line op) is.began at)

pub course-lane : (h : List Entry) (c : Course) (is : IsCourse h c) (lane line : ℕ) (op : Op) → At h c.place (Began lane line op) → c.lane ≡ lane
course-lane h c is lane line op at = same-lane c.lane lane is.line line is.op op (At-one h c.place (Began c.lane is.line is.op) (Began lane line op) is.began at)

pub course-work : (h : List Entry) (c : Course) (is : IsCourse h c) (lane line : ℕ) (op : Op) → At h c.place (Began lane line op) → c.work ≡ work_of op
course-work h c is lane line op at = is.does ∙ ap work_of (course-op h c is lane line op at)

-- ---- answered before a place

pub before-decides : (h : List Entry) (c : Course) (p : ℕ) → IsCourse h c → p ≤ length h → Decides (ended_before c p) (AnsweredBefore h c.place p)
before-decides h c p is within = by is.ends
  where
    by : EndsSo h c.place c.ending → Decides (ended_before c p) (AnsweredBefore h c.place p)
    by (answered lane op answer ended says) = (
      λ t. record { lane = lane; op = op; y = c.ending.end; answer = answer; ended = ended; before = ltb-true c.ending.end p t },
      λ b. let same : c.ending.end ≡ b.y = ends-same h lane b.lane c.place op b.op c.ending.end b.y answer b.answer ended b.ended in lt-ltb c.ending.end p (omega (arith, same, b.before)),
    )
    by (unanswered none at says) = (
      λ t. let lt : c.ending.end < p = ltb-true c.ending.end p t in absurd (omega (arith, lt, at, within)),
      λ b. absurd (none (record { lane = b.lane; op = b.op; y = b.y; answer = b.answer; ended = b.ended; before = omega (arith, b.before, within) })),
    )

-- the same of a beginning that reaches the place
pub before-of-beginning : (b more : List Entry) (c : Course) (p : ℕ) → IsCourse (b ++ more) c → p ≤ length b → Decides (ended_before c p) (AnsweredBefore b c.place p)
before-of-beginning b more c p is within =
    Decides-like (ended_before c p) (λ w. Before-back b more c.place p within w) (λ w. Before-grow b more c.place p w)
    (before-decides (b ++ more) c p is (let long : length (b ++ more) ≡ length b + length more = length-append b more in omega (arith, long, within)))

-- ---- how it ended in a beginning

never-done : (o : Outcome) (fault : Fault) → o ≡ outcome_of (Refused fault) → succeeds o ≡ true → ⊥
never-done o fault is t = true≢false (sym t ∙ ap succeeds is)

never-failed : (o : Outcome) (value : Value) → o ≡ outcome_of (Done value) → fails o ≡ true → ⊥
never-failed o value is t = true≢false (sym t ∙ ap fails is)

-- an operation that succeeded in the beginning of n entries: its answer stands there
pub done-ended : (b more : List Entry) (c : Course) (n : ℕ) (is : IsCourse (b ++ more) c) → n ≤ length b → is_done c n ≡ true → (value : Value) × Ended b c.lane c.place is.op c.ending.end (Done value)
done-ended b more c n is within t = by is.ends
  where
    parts : (succeeds c.ending.outcome ≡ true) × (nat_lt c.ending.end n ≡ true)
    parts = and_parts (succeeds c.ending.outcome) (nat_lt c.ending.end n) t

    low : c.ending.end < length b
    low = let lt : c.ending.end < n = ltb-true c.ending.end n parts.1 in omega (arith, lt, within)

    there : (lane : ℕ) (op : Op) (value : Value) → Ended (b ++ more) lane c.place op c.ending.end (Done value) → Ended b c.lane c.place is.op c.ending.end (Done value)
    there lane op value ended =
        Ended-back b more c.lane c.place is.op c.ending.end (Done value) low
        (rw (course-lane (b ++ more) c is lane ended.line op ended.began, course-op (b ++ more) c is lane ended.line op ended.began) ended)

    by : EndsSo (b ++ more) c.place c.ending → (value : Value) × Ended b c.lane c.place is.op c.ending.end (Done value)
    by (answered lane op (Done value) ended says) = (value, there lane op value ended)
    by (answered lane op (Refused fault) ended says) = absurd (never-done c.ending.outcome fault says parts.0)
    by (unanswered none at says) = absurd (true≢false (sym parts.0 ∙ ap succeeds says))

pub refused-ended : (b more : List Entry) (c : Course) (n : ℕ) (is : IsCourse (b ++ more) c) → n ≤ length b → is_refused c n ≡ true → (fault : Fault) × Ended b c.lane c.place is.op c.ending.end (Refused fault)
refused-ended b more c n is within t = by is.ends
  where
    parts : (fails c.ending.outcome ≡ true) × (nat_lt c.ending.end n ≡ true)
    parts = and_parts (fails c.ending.outcome) (nat_lt c.ending.end n) t

    low : c.ending.end < length b
    low = let lt : c.ending.end < n = ltb-true c.ending.end n parts.1 in omega (arith, lt, within)

    there : (lane : ℕ) (op : Op) (fault : Fault) → Ended (b ++ more) lane c.place op c.ending.end (Refused fault) → Ended b c.lane c.place is.op c.ending.end (Refused fault)
    there lane op fault ended =
        Ended-back b more c.lane c.place is.op c.ending.end (Refused fault) low
        (rw (course-lane (b ++ more) c is lane ended.line op ended.began, course-op (b ++ more) c is lane ended.line op ended.began) ended)

    by : EndsSo (b ++ more) c.place c.ending → (fault : Fault) × Ended b c.lane c.place is.op c.ending.end (Refused fault)
    by (answered lane op (Refused fault) ended says) = (fault, there lane op fault ended)
    by (answered lane op (Done value) ended says) = absurd (never-failed c.ending.outcome value says parts.0)
    by (unanswered none at says) = absurd (true≢false (sym parts.0 ∙ ap fails says))

-- what was answered ended so and there
pub ends-says : (h : List Entry) (c : Course) (is : IsCourse h c) (lane : ℕ) (op : Op) (y : ℕ) (a : Answer) → Ended h lane c.place op y a → (c.ending.end ≡ y) × (c.ending.outcome ≡ outcome_of a)
ends-says h c is lane op y a long = by is.ends
  where
    by : EndsSo h c.place c.ending → (c.ending.end ≡ y) × (c.ending.outcome ≡ outcome_of a)
    by (answered k o answer other says) =
        (ends-same h k lane c.place o op c.ending.end y answer a other long, says ∙ ap outcome_of (answers-same h k lane c.place o op c.ending.end y answer a other long))
    by (unanswered none at says) = absurd (none (record { lane = lane; op = op; y = y; answer = a; ended = long; before = At-below h y (Answered lane long.line a) long.answered }))

-- what ended in the beginning ended so and there
pub ended-says : (b more : List Entry) (c : Course) (is : IsCourse (b ++ more) c) (lane : ℕ) (op : Op) (y : ℕ) (a : Answer) → Ended b lane c.place op y a → (c.ending.end ≡ y) × (c.ending.outcome ≡ outcome_of a)
ended-says b more c is lane op y a ended = ends-says (b ++ more) c is lane op y a (Ended-grow b more lane c.place op y a ended)

pub ended-done : (b more : List Entry) (c : Course) (is : IsCourse (b ++ more) c) (lane : ℕ) (op : Op) (y n : ℕ) (value : Value) → Ended b lane c.place op y (Done value) → y < n → is_done c n ≡ true
ended-done b more c is lane op y n value ended lt =
    let says = ended-says b more c is lane op y (Done value) ended in
    and_from (succeeds c.ending.outcome) (nat_lt c.ending.end n) (ap succeeds says.1) (lt-ltb c.ending.end n (let at : c.ending.end ≡ y = says.0 in omega (arith, at, lt)))

pub ended-refused : (b more : List Entry) (c : Course) (is : IsCourse (b ++ more) c) (lane : ℕ) (op : Op) (y n : ℕ) (fault : Fault) → Ended b lane c.place op y (Refused fault) → y < n → is_refused c n ≡ true
ended-refused b more c is lane op y n fault ended lt =
    let says = ended-says b more c is lane op y (Refused fault) ended in
    and_from (fails c.ending.outcome) (nat_lt c.ending.end n) (ap fails says.1) (lt-ltb c.ending.end n (let at : c.ending.end ≡ y = says.0 in omega (arith, at, lt)))

-- ---- writes and puts

-- a put's work is that of a put alone
pub put-op : (op : Op) → is_put (work_of op) ≡ true → (path : List (List ℕ)) × (offset : ℕ) × (bytes : List ℕ) × (op ≡ ops.Put path offset bytes)
put-op (ops.Put path offset bytes) t = (path, offset, bytes, refl)
put-op (ops.OpenFile slot mode path) t = absurd cc
put-op (ops.Read slot offset count) t = absurd cc
put-op (ops.Write slot offset bytes) t = absurd cc
put-op (ops.Fill slot offset count byte) t = absurd cc
put-op (ops.Sync slot) t = absurd cc
put-op (ops.Close slot) t = absurd cc
put-op (ops.Truncate slot size) t = absurd cc
put-op (ops.Stat path) t = absurd cc
put-op (ops.Access path bits) t = absurd cc
put-op (ops.MakeDir path) t = absurd cc
put-op (ops.RemoveDir path) t = absurd cc
put-op (ops.Remove path) t = absurd cc
put-op (ops.Rename from to) t = absurd cc
put-op (ops.Link from to) t = absurd cc
put-op (ops.SymLink path target) t = absurd cc
put-op (ops.ReadLink path) t = absurd cc
put-op (ops.List path) t = absurd cc

-- a write or a fill
pub data WriteOp (op : Op) : Type 0 where
  write : (slot offset : ℕ) (bytes : List ℕ) → op ≡ ops.Write slot offset bytes → WriteOp op
  fill : (slot offset count byte : ℕ) → op ≡ ops.Fill slot offset count byte → WriteOp op

pub write-op : (op : Op) → is_write (work_of op) ≡ true → WriteOp op
write-op (ops.Write slot offset bytes) t = write slot offset bytes refl
write-op (ops.Fill slot offset count byte) t = fill slot offset count byte refl
write-op (ops.Put path offset bytes) t = absurd cc
write-op (ops.OpenFile slot mode path) t = absurd cc
write-op (ops.Read slot offset count) t = absurd cc
write-op (ops.Sync slot) t = absurd cc
write-op (ops.Close slot) t = absurd cc
write-op (ops.Truncate slot size) t = absurd cc
write-op (ops.Stat path) t = absurd cc
write-op (ops.Access path bits) t = absurd cc
write-op (ops.MakeDir path) t = absurd cc
write-op (ops.RemoveDir path) t = absurd cc
write-op (ops.Remove path) t = absurd cc
write-op (ops.Rename from to) t = absurd cc
write-op (ops.Link from to) t = absurd cc
write-op (ops.SymLink path target) t = absurd cc
write-op (ops.ReadLink path) t = absurd cc
write-op (ops.List path) t = absurd cc

work-put : (h : List Entry) (c : Course) (is : IsCourse h c) (lane line offset : ℕ) (path : List (List ℕ)) (bytes : List ℕ) → At h c.place (Began lane line (ops.Put path offset bytes)) → is_put c.work ≡ true
work-put h c is lane line offset path bytes at = ap is_put (course-work h c is lane line (ops.Put path offset bytes) at)

-- a write or fill that was refused in the beginning
pub refused-write-decides : (b more : List Entry) (c : Course) → IsCourse (b ++ more) c → Decides (is_write c.work && is_refused c (length b)) (RefusedWrite b c.place)
refused-write-decides b more c is = (λ t. told (and_parts (is_write c.work) (is_refused c (length b)) t), shown)
  where
    by : (fault : Fault) → Ended b c.lane c.place is.op c.ending.end (Refused fault) → WriteOp is.op → RefusedWrite b c.place
    by fault ended (write slot offset bytes same) = touching.write c.lane slot offset c.ending.end bytes fault (subst (λ (o : Op). Ended b c.lane c.place o c.ending.end (Refused fault)) same ended)
    by fault ended (fill slot offset count byte same) = touching.fill c.lane slot offset count byte c.ending.end fault (subst (λ (o : Op). Ended b c.lane c.place o c.ending.end (Refused fault)) same ended)

    told : (is_write c.work ≡ true) × (is_refused c (length b) ≡ true) → RefusedWrite b c.place
    told t =
        let ended : (fault : Fault) × Ended b c.lane c.place is.op c.ending.end (Refused fault) = refused-ended b more c (length b) is (omega arith) t.1 in
        by ended.0 ended.1 (write-op is.op (sym (ap is_write is.does) ∙ t.0))

    at-least : (lane y : ℕ) (op : Op) (fault : Fault) → Ended b lane c.place op y (Refused fault) → is_write (work_of op) ≡ true → (is_write c.work && is_refused c (length b)) ≡ true
    at-least lane y op fault ended t =
        let long = Ended-grow b more lane c.place op y (Refused fault) ended in
        and_from (is_write c.work) (is_refused c (length b)) (ap is_write (course-work (b ++ more) c is lane long.line op long.began) ∙ t)
        (ended-refused b more c is lane op y (length b) fault ended (At-below b y (Answered lane ended.line (Refused fault)) ended.answered))

    shown : RefusedWrite b c.place → (is_write c.work && is_refused c (length b)) ≡ true
    shown (touching.write lane slot offset y bytes fault ended) = at-least lane y (ops.Write slot offset bytes) fault ended refl
    shown (touching.fill lane slot offset count byte y fault ended) = at-least lane y (ops.Fill slot offset count byte) fault ended refl

-- a put that was answered before the place
pub answered-put-decides : (b more : List Entry) (c : Course) (k : ℕ) → IsCourse (b ++ more) c → k ≤ length b → Decides (is_put c.work && ended_before c k) (IsAnsweredPut b c.place k)
answered-put-decides b more c k is within = (λ t. told (and_parts (is_put c.work) (ended_before c k) t), shown)
  where
    decided : Decides (ended_before c k) (AnsweredBefore b c.place k)
    decided = before-of-beginning b more c k is within

    told : (is_put c.work ≡ true) × (ended_before c k ≡ true) → IsAnsweredPut b c.place k
    told t =
        let w = decided.0 t.1 in
        let long = Ended-grow b more w.lane c.place w.op w.y w.answer w.ended in
        let put = put-op w.op (sym (ap is_put (course-work (b ++ more) c is w.lane long.line w.op long.began)) ∙ t.0) in
        record { lane = w.lane; path = put.0; offset = put.1; bytes = put.2; y = w.y; answer = w.answer; ended = subst (λ (o : Op). Ended b w.lane c.place o w.y w.answer) put.3 w.ended; before = w.before }

    shown : IsAnsweredPut b c.place k → (is_put c.work && ended_before c k) ≡ true
    shown p =
        let long = Ended-grow b more p.lane c.place (ops.Put p.path p.offset p.bytes) p.y p.answer p.ended in
        and_from (is_put c.work) (ended_before c k) (work-put (b ++ more) c is p.lane long.line p.offset p.path p.bytes long.began)
        (decided.1 (record { lane = p.lane; op = ops.Put p.path p.offset p.bytes; y = p.y; answer = p.answer; ended = p.ended; before = p.before }))

-- a put that succeeded before the place
pub succeeded-put-decides : (b more : List Entry) (c : Course) (k : ℕ) → IsCourse (b ++ more) c → k ≤ length b → Decides (is_put c.work && is_done c k) (PutSucceeded b c.place k)
succeeded-put-decides b more c k is within = (λ t. told (and_parts (is_put c.work) (is_done c k) t), shown)
  where
    told : (is_put c.work ≡ true) × (is_done c k ≡ true) → PutSucceeded b c.place k
    told t =
        let ended : (value : Value) × Ended b c.lane c.place is.op c.ending.end (Done value) = done-ended b more c k is within t.1 in
        let put = put-op is.op (sym (ap is_put is.does) ∙ t.0) in
        record { lane = c.lane; path = put.0; offset = put.1; bytes = put.2; y = c.ending.end; value = ended.0; ended = subst (λ (o : Op). Ended b c.lane c.place o c.ending.end (Done ended.0)) put.3 ended.1; before = ltb-true c.ending.end k (and_parts (succeeds c.ending.outcome) (nat_lt c.ending.end k) t.1).1 }

    shown : PutSucceeded b c.place k → (is_put c.work && is_done c k) ≡ true
    shown p =
        let long = Ended-grow b more p.lane c.place (ops.Put p.path p.offset p.bytes) p.y (Done p.value) p.ended in
        and_from (is_put c.work) (is_done c k) (work-put (b ++ more) c is p.lane long.line p.offset p.path p.bytes long.began)
        (ended-done b more c is p.lane (ops.Put p.path p.offset p.bytes) p.y k p.value p.ended p.before)

-- a put that was refused in the beginning
pub refused-put-decides : (b more : List Entry) (c : Course) → IsCourse (b ++ more) c → Decides (is_put c.work && is_refused c (length b)) (PutRefused b c.place)
refused-put-decides b more c is = (λ t. told (and_parts (is_put c.work) (is_refused c (length b)) t), shown)
  where
    told : (is_put c.work ≡ true) × (is_refused c (length b) ≡ true) → PutRefused b c.place
    told t =
        let ended : (fault : Fault) × Ended b c.lane c.place is.op c.ending.end (Refused fault) = refused-ended b more c (length b) is (omega arith) t.1 in
        let put = put-op is.op (sym (ap is_put is.does) ∙ t.0) in
        record { lane = c.lane; path = put.0; offset = put.1; bytes = put.2; y = c.ending.end; fault = ended.0; ended = subst (λ (o : Op). Ended b c.lane c.place o c.ending.end (Refused ended.0)) put.3 ended.1 }

    shown : PutRefused b c.place → (is_put c.work && is_refused c (length b)) ≡ true
    shown p =
        let long = Ended-grow b more p.lane c.place (ops.Put p.path p.offset p.bytes) p.y (Refused p.fault) p.ended in
        and_from (is_put c.work) (is_refused c (length b)) (work-put (b ++ more) c is p.lane long.line p.offset p.path p.bytes long.began)
        (ended-refused b more c is p.lane (ops.Put p.path p.offset p.bytes) p.y (length b) p.fault p.ended (At-below b p.y (Answered p.lane p.ended.line (Refused p.fault)) p.ended.answered))
