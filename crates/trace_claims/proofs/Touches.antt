-- The tests of what may have changed a byte tell exactly what a beginning of the history shows.
use Rattle.std.proofs.Common.{◌≡◌, ◌≢◌, ◌<◌, ◌≤◌, ◌+◌, ◌⊎◌, inl, inr, ℕ, suc, Bool, true, false, true≢false, List, ◌++◌, length, Some, slice_get, refl, sym, ◌∙◌, subst, arith}
use Rattle.std.specs.Prelude.{Decides, ◌==◌, ◌&&◌, ◌||◌, not, nat_lt, nat_le}
use Rattle.std.specs.Str.{bytes_eq}
use Rattle.std.proofs.lemmas.Bool.{cases_Bool, ltb-true, lt-ltb, leb-true, le-leb, and_parts, and_from, or_cases, not-true, eqb-false, ne_eqb}
use Rattle.std.proofs.lemmas.Slice.Eq.{bytes_eq-Decides}
use Rattle.world_model.specs.declared.entry.Entry.{Entry}
use Rattle.world_model.specs.declared.entry.Entry.TheVariants.{Began, Foreign}
use Rattle.world_model.specs.declared.message.Call.{Call}
use Rattle.world_model.specs.declared.message.Reply.{Reply}
use Rattle.world_model.specs.declared.op.Op.{Op}
use Rattle.world_model.specs.declared.op.Op.TheVariants as ops
use Rattle.world_model.specs.Entries.{At}
use Rattle.world_model.specs.Mounts.{Origin}
use Rattle.world_model.specs.Operations.{AnsweredBefore}
use Rattle.world_model.specs.Server.{Server}
use Rattle.world_model.proofs.Places.{At-grow, At-back, At-below}
use Rattle.claims.specs.Modes.{Modes}
use Rattle.claims.specs.Touched as touching
use Rattle.claims.specs.Touched.{WritesByte, Cuts, RefusedWrite, MadeStable, StableSince, ChangesPlace, Touched}
use Rattle.trace_claims.specs.declared.courses.Course.{Course}
use Rattle.trace_claims.specs.declared.operations.Operation.{Operation}
use Rattle.trace_claims.specs.declared.touched.Foreign as changed
use Rattle.trace_claims.specs.Courses.{IsCourse, ended_before, is_write, is_refused, covers}
use Rattle.trace_claims.specs.Operations.{writes_to, made_stable, cuts, writes_or_cuts, IsOperation}
use Rattle.trace_claims.specs.Held.{start_of}
use Rattle.trace_claims.specs.Touching.{changes, touches, is_foreign, rewrites, is_rewritten, settles, is_stable_since, ListsOperation, HasOperations, HasForeign}
use Rattle.trace_claims.proofs.Telling.{before-of-beginning, refused-write-decides}
use Rattle.trace_claims.proofs.Owning.{any-there, any-found, cuts-decides, made-told}
use Rattle.trace_claims.proofs.Writing.{made-shown}
use Rattle.trace_claims.proofs.Leading.{writes-told, writes-shown}

-- ---- where operations began

pub record Begun (h : List Entry) (x : ℕ) : Type 0 where
  pub lane : ℕ
  pub line : ℕ
  pub op : Op
  pub at : At h x (Began lane line op)

pub made-begun : (m : Modes) (h : List Entry) (x y : ℕ) (f : List ℕ) → MadeStable m h x y f → Begun h x
made-begun m h x y f (touching.sync lane slot value of ended) = record { lane = lane; line = ended.line; op = ops.Sync slot; at = ended.began }
made-begun m h x y f (touching.close lane slot value of ended) = record { lane = lane; line = ended.line; op = ops.Close slot; at = ended.began }
made-begun m h x y f (touching.put offset bytes it) = record { lane = it.lane; line = it.ended.line; op = ops.Put it.path offset bytes; at = it.ended.began }

writes-begun : (m : Modes) (origin : Origin) (h : List Entry) (x : ℕ) (f : List ℕ) (i v : ℕ) → WritesByte m origin h x f i v → Begun h x
writes-begun m origin h x f i v (touching.write slot offset bytes of covered) = record { lane = of.lane; line = of.line; op = ops.Write slot offset bytes; at = of.began }
writes-begun m origin h x f i v (touching.fill slot offset count of low high) = record { lane = of.lane; line = of.line; op = ops.Fill slot offset count v; at = of.began }
writes-begun m origin h x f i v (touching.put lane line offset n path bytes at ends leads covered) = record { lane = lane; line = line; op = ops.Put path offset bytes; at = at }

-- the list has the operation that began in the beginning
pub listed : (m : Modes) (origin : Origin) (b more : List Entry) (os : List Operation) (x : ℕ) → HasOperations m origin (b ++ more) os → Begun b x → ListsOperation os x
listed m origin b more os x has begun = has.every x begun.lane begun.line begun.op (At-grow b more x (Began begun.lane begun.line begun.op) begun.at)

-- ---- made stable since

pub since-decides : (m : Modes) (origin : Origin) (b more : List Entry) (os : List Operation) → HasOperations m origin (b ++ more) os → (w : Course) → IsCourse (b ++ more) w → (k : ℕ) (f : List ℕ)
    → Decides (is_stable_since os (length b) w k f) (StableSince m b w.place k f)
since-decides m origin b more os has w is k f = (told, shown)
  where
    told : is_stable_since os (length b) w k f ≡ true → StableSince m b w.place k f
    told t =
        let it = any-found (settles (length b) w k f) os t in
        let outer = and_parts (ended_before w it.1.course.place && nat_le it.1.course.ending.end k) (made_stable it.1 (length b) f) it.3 in
        let inner = and_parts (ended_before w it.1.course.place) (nat_le it.1.course.ending.end k) outer.0 in
        let made = made-told m origin b more it.1 (has.each it.0 it.1 it.2) f outer.1 in
        let begun = made-begun m b it.1.course.place it.1.course.ending.end f made in
        let below : it.1.course.place < length b = At-below b it.1.course.place (Began begun.lane begun.line begun.op) begun.at in
        record {
          x = it.1.course.place;
          y = it.1.course.ending.end;
          after = (before-of-beginning b more w it.1.course.place is (omega (arith, below))).0 inner.0;
          made = made;
          by = leb-true it.1.course.ending.end k inner.1;
        }

    shown : StableSince m b w.place k f → is_stable_since os (length b) w k f ≡ true
    shown s =
        let begun = made-begun m b s.x s.y f s.made in
        let below : s.x < length b = At-below b s.x (Began begun.lane begun.line begun.op) begun.at in
        let it = listed m origin b more os s.x has begun in
        let made = made-shown m origin b more it.1 (has.each it.0 it.1 it.2) f s.y (subst (λ (z : ℕ). MadeStable m b z s.y f) (sym it.3) s.made) in
        let same : it.1.course.ending.end ≡ s.y = made.1 in
        let after : ended_before w it.1.course.place ≡ true = subst (λ (z : ℕ). ended_before w z ≡ true) (sym it.3) ((before-of-beginning b more w s.x is (omega (arith, below))).1 s.after) in
        let by : nat_le it.1.course.ending.end k ≡ true = le-leb it.1.course.ending.end k (let le = s.by in omega (arith, same, le)) in
        any-there (settles (length b) w k f) os it.0 it.1 it.2
        (and_from (ended_before w it.1.course.place && nat_le it.1.course.ending.end k) (made_stable it.1 (length b) f)
        (and_from (ended_before w it.1.course.place) (nat_le it.1.course.ending.end k) after by) made.0)

-- ---- rewritten by another operation

not-eq : (a b : ℕ) → not (a == b) ≡ true → a ≢ b
not-eq a b t = eqb-false a b (not-true (a == b) t)

not-when : (b : Bool) → b ≡ false → not b ≡ true
not-when b e = rw e refl

not-decided : {P : Type 0} (b : Bool) → Decides b P → (P → ⊥) → not b ≡ true
not-decided b d none = elim (cases_Bool b) [
  | inl t ↦ absurd (none (d.0 t))
  | inr f ↦ not-when b f
]

decided-not : {P : Type 0} (b : Bool) → Decides b P → not b ≡ true → P → ⊥
decided-not b d t p = true≢false (sym (d.1 p) ∙ not-true b t)

left-or : (a b : Bool) → a ≡ true → (a || b) ≡ true
left-or a b t = rw t refl

right-or : (a b : Bool) → b ≡ true → (a || b) ≡ true
right-or true b t = refl
right-or false b t = t

-- another operation of the beginning that the test finds touches the place
pub rewritten-told : (m : Modes) (origin : Origin) (b more : List Entry) (at : ℕ → Server) (os : List Operation) → HasOperations m origin (b ++ more) os → (w : Course) (p : ℕ) (f : List ℕ) (i : ℕ) → w.place ≤ length b → p ≤ length b
    → is_rewritten os (length b) w p f i ≡ true → Touched m origin (start_of b at) w.place p f i
rewritten-told m origin b more at os has w p f i w_in p_in t = by (or_cases (covers o.course.work i && writes_to o (length b) f && not (is_write o.course.work && is_refused o.course (length b))) (cuts o f i) four.1)
  where
    it : (k : ℕ) × (o : Operation) × (slice_get os k ≡ Some o) × (rewrites (length b) w p f i o ≡ true)
    it = any-found (rewrites (length b) w p f i) os t

    o : Operation
    o = it.1

    is : IsOperation m origin (b ++ more) o
    is = has.each it.0 it.1 it.2

    four : ((not (o.course.place == w.place) && nat_lt o.course.place p && not (ended_before o.course w.place)) ≡ true) × (writes_or_cuts o (length b) f i ≡ true)
    four = and_parts (not (o.course.place == w.place) && nat_lt o.course.place p && not (ended_before o.course w.place)) (writes_or_cuts o (length b) f i) it.3

    three : ((not (o.course.place == w.place) && nat_lt o.course.place p) ≡ true) × (not (ended_before o.course w.place) ≡ true)
    three = and_parts (not (o.course.place == w.place) && nat_lt o.course.place p) (not (ended_before o.course w.place)) four.0

    two : (not (o.course.place == w.place) ≡ true) × (nat_lt o.course.place p ≡ true)
    two = and_parts (not (o.course.place == w.place)) (nat_lt o.course.place p) three.0

    other : o.course.place ≢ w.place
    other = not-eq o.course.place w.place two.0

    before : o.course.place < p
    before = ltb-true o.course.place p two.1

    below : o.course.place < length b
    below = omega (arith, before, p_in)

    begun : AnsweredBefore b o.course.place w.place → ⊥
    begun = decided-not (ended_before o.course w.place) (before-of-beginning b more o.course w.place is.course w_in) three.1

    by : ((covers o.course.work i && writes_to o (length b) f && not (is_write o.course.work && is_refused o.course (length b))) ≡ true) ⊎ (cuts o f i ≡ true) → Touched m origin (start_of b at) w.place p f i
    by (inl wrote) =
        let outer = and_parts (covers o.course.work i && writes_to o (length b) f) (not (is_write o.course.work && is_refused o.course (length b))) wrote in
        let inner = and_parts (covers o.course.work i) (writes_to o (length b) f) outer.0 in
        let writes = writes-told m origin b more o is f i below inner.1 inner.0 in
        touching.written o.course.place writes.0 other before begun writes.1 (decided-not (is_write o.course.work && is_refused o.course (length b)) (refused-write-decides b more o.course is.course) outer.1)
    by (inr cut) = touching.cut o.course.place other before begun ((cuts-decides m origin b more o is f i below).0 cut)

found-so : (m : Modes) (origin : Origin) (b more : List Entry) (os : List Operation) → HasOperations m origin (b ++ more) os → (w : Course) (p : ℕ) (f : List ℕ) (i x : ℕ) (it : ListsOperation os x) → w.place ≤ length b
    → x ≢ w.place → x < p → (AnsweredBefore b x w.place → ⊥) → writes_or_cuts it.1 (length b) f i ≡ true → is_rewritten os (length b) w p f i ≡ true
found-so m origin b more os has w p f i x it w_in other before begun t =
    any-there (rewrites (length b) w p f i) os it.0 it.1 it.2
    (and_from (not (it.1.course.place == w.place) && nat_lt it.1.course.place p && not (ended_before it.1.course w.place)) (writes_or_cuts it.1 (length b) f i)
    (and_from (not (it.1.course.place == w.place) && nat_lt it.1.course.place p) (not (ended_before it.1.course w.place))
    (and_from (not (it.1.course.place == w.place)) (nat_lt it.1.course.place p)
    (not-when (it.1.course.place == w.place) (ne_eqb it.1.course.place w.place (λ e. other (sym it.3 ∙ e))))
    (lt-ltb it.1.course.place p (subst (λ (z : ℕ). z < p) (sym it.3) before)))
    (not-decided (ended_before it.1.course w.place) (before-of-beginning b more it.1.course w.place (has.each it.0 it.1 it.2).course w_in) (λ a. begun (subst (λ (z : ℕ). AnsweredBefore b z w.place) it.3 a)))) t)

-- and another operation that touches it is found
pub written-shown : (m : Modes) (origin : Origin) (b more : List Entry) (os : List Operation) → HasOperations m origin (b ++ more) os → (w : Course) (p : ℕ) (f : List ℕ) (i x v : ℕ) → w.place ≤ length b
    → x ≢ w.place → x < p → (AnsweredBefore b x w.place → ⊥) → WritesByte m origin b x f i v → (RefusedWrite b x → ⊥) → is_rewritten os (length b) w p f i ≡ true
written-shown m origin b more os has w p f i x v w_in other before begun writes refused =
    let it = listed m origin b more os x has (writes-begun m origin b x f i v writes) in
    let is = has.each it.0 it.1 it.2 in
    let shown = writes-shown m origin b more it.1 is f i v (subst (λ (z : ℕ). WritesByte m origin b z f i v) (sym it.3) writes) in
    let kept = not-decided (is_write it.1.course.work && is_refused it.1.course (length b)) (refused-write-decides b more it.1.course is.course) (λ r. refused (subst (λ (z : ℕ). RefusedWrite b z) it.3 r)) in
    found-so m origin b more os has w p f i x it w_in other before begun
    (left-or (covers it.1.course.work i && writes_to it.1 (length b) f && not (is_write it.1.course.work && is_refused it.1.course (length b))) (cuts it.1 f i)
    (and_from (covers it.1.course.work i && writes_to it.1 (length b) f) (not (is_write it.1.course.work && is_refused it.1.course (length b)))
    (and_from (covers it.1.course.work i) (writes_to it.1 (length b) f) shown.1 shown.0) kept))

pub cut-shown : (m : Modes) (origin : Origin) (b more : List Entry) (os : List Operation) → HasOperations m origin (b ++ more) os → (w : Course) (p : ℕ) (f : List ℕ) (i x : ℕ) → w.place ≤ length b
    → x ≢ w.place → x < p → (AnsweredBefore b x w.place → ⊥) → Cuts m b x f i → is_rewritten os (length b) w p f i ≡ true
cut-shown m origin b more os has w p f i x w_in other before begun c =
    let begun_at : Begun b x = record { lane = c.of.lane; line = c.of.line; op = ops.Truncate c.slot c.size; at = c.of.began } in
    let it = listed m origin b more os x has begun_at in
    let is = has.each it.0 it.1 it.2 in
    let below : x < length b = At-below b x (Began c.of.lane c.of.line (ops.Truncate c.slot c.size)) c.of.began in
    let there : it.1.course.place < length b = subst (λ (z : ℕ). z < length b) (sym it.3) below in
    found-so m origin b more os has w p f i x it w_in other before begun
    (right-or (covers it.1.course.work i && writes_to it.1 (length b) f && not (is_write it.1.course.work && is_refused it.1.course (length b))) (cuts it.1 f i)
    ((cuts-decides m origin b more it.1 is f i there).1 (subst (λ (z : ℕ). Cuts m b z f i) (sym it.3) c)))

-- ---- changed by another client

pub foreign-told : (m : Modes) (origin : Origin) (b more : List Entry) (at : ℕ → Server) (cs : List changed.Foreign) → HasForeign (start_of (b ++ more) at) cs → (w p : ℕ) (f : List ℕ) (i : ℕ) → p ≤ length b
    → is_foreign cs w p f i ≡ true → Touched m origin (start_of b at) w p f i
foreign-told m origin b more at cs has w p f i within t =
    let it = any-found (touches w p f i) cs t in
    let four = and_parts (nat_lt w it.1.place && nat_lt it.1.place p && bytes_eq it.1.file f) (changes it.1.reach i) it.3 in
    let three = and_parts (nat_lt w it.1.place && nat_lt it.1.place p) (bytes_eq it.1.file f) four.0 in
    let two = and_parts (nat_lt w it.1.place) (nat_lt it.1.place p) three.0 in
    let is = has.each it.0 it.1 it.2 in
    let before : it.1.place < p = ltb-true it.1.place p two.1 in
    touching.foreign it.1.place is.call is.reply (ltb-true w it.1.place two.0) before
    (At-back b more it.1.place (Foreign is.call is.reply) is.at (omega (arith, before, within)))
    (subst (λ (z : List ℕ). ChangesPlace (at (suc it.1.place)) z i is.call is.reply) ((bytes_eq-Decides it.1.file f).0 three.1) (is.changes_it i four.1))

pub foreign-shown : (b more : List Entry) (at : ℕ → Server) (cs : List changed.Foreign) → HasForeign (start_of (b ++ more) at) cs → (w p : ℕ) (f : List ℕ) (i n : ℕ) (call : Call) (reply : Reply) → w < n → n < p → At b n (Foreign call reply) → ChangesPlace (at (suc n)) f i call reply
    → is_foreign cs w p f i ≡ true
foreign-shown b more at cs has w p f i n call reply after before there change =
    let it = has.every n call reply f i (At-grow b more n (Foreign call reply) there) change in
    any-there (touches w p f i) cs it.0 it.1 it.2
    (and_from (nat_lt w it.1.place && nat_lt it.1.place p && bytes_eq it.1.file f) (changes it.1.reach i)
    (and_from (nat_lt w it.1.place && nat_lt it.1.place p) (bytes_eq it.1.file f)
    (and_from (nat_lt w it.1.place) (nat_lt it.1.place p)
    (lt-ltb w it.1.place (subst (λ (z : ℕ). w < z) (sym it.3) after))
    (lt-ltb it.1.place p (subst (λ (z : ℕ). z < p) (sym it.3) before)))
    ((bytes_eq-Decides it.1.file f).1 it.4)) it.5)
