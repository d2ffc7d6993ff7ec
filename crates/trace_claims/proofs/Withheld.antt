-- The test of what may be pending decides it.
use Rattle.std.proofs.Common.{◌≡◌, ◌<◌, ◌≤◌, ◌+◌, inl, inr, ℕ, Bool, true, false, true≢false, List, ◌++◌, length, Some, slice_get, refl, sym, ◌∙◌, ap, subst, arith}
use Rattle.std.specs.Prelude.{Decides, ◌&&◌, ◌||◌, not, nat_lt}
use Rattle.std.specs.Str.{bytes_eq}
use Rattle.std.specs.List.{list_any}
use Rattle.std.proofs.lemmas.Bool.{cases_Bool, ltb-true, lt-ltb, and_parts, and_from, or_cases, or_left, or_right, not-true}
use Rattle.std.proofs.lemmas.Slice.Eq.{bytes_eq-Decides}
use Rattle.world_model.specs.declared.answer.Answer.TheVariants.{Done}
use Rattle.world_model.specs.declared.entry.Entry.{Entry}
use Rattle.world_model.specs.declared.entry.Entry.TheVariants.{Began, Answered}
use Rattle.world_model.specs.declared.op.Op.{Op}
use Rattle.world_model.specs.declared.op.Op.TheVariants as ops
use Rattle.world_model.specs.Entries.{At}
use Rattle.world_model.specs.Mounts.{Origin}
use Rattle.world_model.specs.Operations.{AnsweredBefore, NoneCame}
use Rattle.world_model.proofs.Places.{At-grow, At-back, At-below}
use Rattle.claims.specs.Modes.{Modes}
use Rattle.claims.specs.Pending.{NoPutAt, PutSucceeded, PutRefused, NoneOpens, LeftAlone, Pending}
use Rattle.claims.specs.Slots.{Opens}
use Rattle.claims.specs.Touched as touching
use Rattle.claims.specs.Touched.{WritesByte, RefusedWrite, Wrote, Truncated, MadeStable}
use Rattle.trace_data.specs.declared.trace.Trace.{Trace}
use Rattle.trace_claims.specs.declared.courses.Course.{Course}
use Rattle.trace_claims.specs.declared.digest.Digest.{Digest}
use Rattle.trace_claims.specs.declared.operations.Operation.{Operation}
use Rattle.trace_claims.specs.declared.touched.Left as lefts
use Rattle.trace_claims.specs.Coming.{none_came, HasCame}
use Rattle.trace_claims.specs.Courses.{IsCourse, covers, ended_before, is_done, is_refused, is_put, is_write, is_open, succeeds}
use Rattle.trace_claims.specs.Operations.{is_of, named_is, if_writer, if_stabilizer, writes_to, wrote_to, made_stable, cuts, ends_pending, IsFileOf, opened, put, IsOperation}
use Rattle.trace_claims.specs.Pendings.{ends_after, is_ended, opens_after, is_left_alone, leaves, is_left, is_pending}
use Rattle.trace_claims.specs.Touching.{HasOperations, HasLeft, IsLeft}
use Rattle.trace_claims.proofs.Comings.{none-came-decides}
use Rattle.trace_claims.proofs.Frames.{Before-grow, Before-back, Opens-grow}
use Rattle.trace_claims.proofs.Holdings.{Begins, operations-of}
use Rattle.trace_claims.proofs.Leading.{writes-told, writes-shown}
use Rattle.trace_claims.proofs.Owning.{any-there, any-found, made-told, named-told, named-shown}
use Rattle.trace_claims.proofs.ReadFrame.{Left-back}
use Rattle.trace_claims.proofs.SettledFrame.{Opens-back, Left-grow}
use Rattle.trace_claims.proofs.Telling.{course-work, before-of-beginning, ended-says, ended-done, refused-write-decides, succeeded-put-decides, refused-put-decides}
use Rattle.trace_claims.proofs.Touches.{Begun, made-begun, listed}
use Rattle.trace_claims.proofs.Writing.{made-shown, wrote-told, wrote-shown, truncated-told, truncated-shown}

-- ---- decided facts

not-decided : {P : Type 0} (b : Bool) → Decides b P → (P → ⊥) → not b ≡ true
not-decided b d none = elim (cases_Bool b) [
  | inl t ↦ absurd (none (d.0 t))
  | inr f ↦ (rw f refl)
]

decided-not : {P : Type 0} (b : Bool) → Decides b P → not b ≡ true → P → ⊥
decided-not b d t p = true≢false (sym (d.1 p) ∙ not-true b t)

-- ---- what ended before a place

done-sooner : (c : Course) (n p : ℕ) → is_done c n ≡ true → c.ending.end < p → is_done c p ≡ true
done-sooner c n p t lt = and_from (succeeds c.ending.outcome) (nat_lt c.ending.end p) (and_parts (succeeds c.ending.outcome) (nat_lt c.ending.end n) t).0 (lt-ltb c.ending.end p lt)

done-later : (c : Course) (p n : ℕ) → p ≤ n → is_done c p ≡ true → is_done c n ≡ true
done-later c p n le t =
    let two = and_parts (succeeds c.ending.outcome) (nat_lt c.ending.end p) t in
    let lt : c.ending.end < p = ltb-true c.ending.end p two.1 in
    and_from (succeeds c.ending.outcome) (nat_lt c.ending.end n) two.0 (lt-ltb c.ending.end n (omega (arith, lt, le)))

end-before : (c : Course) (p : ℕ) → is_done c p ≡ true → c.ending.end < p
end-before c p t = ltb-true c.ending.end p (and_parts (succeeds c.ending.outcome) (nat_lt c.ending.end p) t).1

wrote-sooner : (o : Operation) (n p : ℕ) (f : List ℕ) → wrote_to o n f ≡ true → o.course.ending.end < p → wrote_to o p f ≡ true
wrote-sooner o n p f t lt = let two = and_parts (is_done o.course n) (if_writer o.course.work (is_of o f) (named_is f o.named)) t in and_from (is_done o.course p) (if_writer o.course.work (is_of o f) (named_is f o.named)) (done-sooner o.course n p two.0 lt) two.1

wrote-later : (o : Operation) (p n : ℕ) (f : List ℕ) → p ≤ n → wrote_to o p f ≡ true → wrote_to o n f ≡ true
wrote-later o p n f le t = let two = and_parts (is_done o.course p) (if_writer o.course.work (is_of o f) (named_is f o.named)) t in and_from (is_done o.course n) (if_writer o.course.work (is_of o f) (named_is f o.named)) (done-later o.course p n le two.0) two.1

made-sooner : (o : Operation) (n p : ℕ) (f : List ℕ) → made_stable o n f ≡ true → o.course.ending.end < p → made_stable o p f ≡ true
made-sooner o n p f t lt = let two = and_parts (is_done o.course n) (if_stabilizer o.course.work (is_of o f) (named_is f o.named)) t in and_from (is_done o.course p) (if_stabilizer o.course.work (is_of o f) (named_is f o.named)) (done-sooner o.course n p two.0 lt) two.1

made-after : (o : Operation) (p n : ℕ) (f : List ℕ) → p ≤ n → made_stable o p f ≡ true → made_stable o n f ≡ true
made-after o p n f le t = let two = and_parts (is_done o.course p) (if_stabilizer o.course.work (is_of o f) (named_is f o.named)) t in and_from (is_done o.course n) (if_stabilizer o.course.work (is_of o f) (named_is f o.named)) (done-later o.course p n le two.0) two.1

pub pending-covers : (d : Digest) (n : ℕ) (o : Operation) (f : List ℕ) (p i : ℕ) → is_pending d n o f p i ≡ true → covers o.course.work i ≡ true
unfolding is_pending
pending-covers d n o f p i x =
    let c1 = nat_lt o.course.place p in
    let c2 = covers o.course.work i in
    let c3 = writes_to o n f in
    let c4 = not (is_write o.course.work && is_refused o.course n) in
    let c5 = not (is_put o.course.work && is_done o.course p) in
    let c6 = not (is_ended d.operations.items o.course f p i) in
    let c7 = (is_put o.course.work && is_refused o.course n) || not (is_left d n o.course f p) in
    let s6 = and_parts (c1 && c2 && c3 && c4 && c5 && c6) c7 x in
    let s5 = and_parts (c1 && c2 && c3 && c4 && c5) c6 s6.0 in
    let s4 = and_parts (c1 && c2 && c3 && c4) c5 s5.0 in
    let s3 = and_parts (c1 && c2 && c3) c4 s4.0 in
    let s2 = and_parts (c1 && c2) c3 s3.0 in
    (and_parts c1 c2 s2.0).1

pub begun-writes : (m : Modes) (origin : Origin) (h : List Entry) (x : ℕ) (f : List ℕ) (i v : ℕ) → WritesByte m origin h x f i v → Begun h x
begun-writes m origin h x f i v (touching.write slot offset bytes of covered) = record { lane = of.lane; line = of.line; op = ops.Write slot offset bytes; at = of.began }
begun-writes m origin h x f i v (touching.fill slot offset count of low high) = record { lane = of.lane; line = of.line; op = ops.Fill slot offset count v; at = of.began }
begun-writes m origin h x f i v (touching.put lane line offset n path bytes at ends leads covered) = record { lane = lane; line = line; op = ops.Put path offset bytes; at = at }

-- ---- ended by a later operation

-- no later operation that succeeded before the moment covers, cuts off or settles the place
pub record Unended (m : Modes) (b : List Entry) (w : ℕ) (f : List ℕ) (i n : ℕ) : Type 0 where
  pub uncovered : (x y u : ℕ) → AnsweredBefore b w x → Wrote m b x y f i u → y < n → ⊥
  pub uncut : (x y size : ℕ) → AnsweredBefore b w x → Truncated m b x y f size → size ≤ i → y < n → ⊥
  pub unsettled : (x y : ℕ) → AnsweredBefore b w x → MadeStable m b x y f → y < n → ⊥

pub begun-of : (m : Modes) (b : List Entry) (x y : ℕ) (f : List ℕ) (i v : ℕ) → Wrote m b x y f i v → Begun b x
begun-of m b x y f i v (touching.write lane slot offset bytes value of ended covered) = record { lane = of.lane; line = of.line; op = ops.Write slot offset bytes; at = of.began }
begun-of m b x y f i v (touching.fill lane slot offset count value of ended low high) = record { lane = of.lane; line = of.line; op = ops.Fill slot offset count v; at = of.began }
begun-of m b x y f i v (touching.put offset bytes puts covered) = record { lane = puts.lane; line = puts.ended.line; op = ops.Put puts.path offset bytes; at = puts.ended.began }

ended-there : (m : Modes) (origin : Origin) (b more : List Entry) (os : List Operation) → HasOperations m origin (b ++ more) os → (w : Course) → IsCourse (b ++ more) w → (f : List ℕ) (i p k : ℕ) (o : Operation) → slice_get os k ≡ Some o
    → AnsweredBefore b w.place o.course.place → o.course.place ≤ length b → o.course.ending.end < p → is_done o.course (length b) ≡ true
    → (made_stable o p f || (covers o.course.work i && wrote_to o p f) || cuts o f i) ≡ true → is_ended os w f p i ≡ true
ended-there m origin b more os has w is f i p k o there after within before done t =
    any-there (ends_after w f p i) os k o there
    (and_from (ended_before w o.course.place) (ends_pending o p f i) ((before-of-beginning b more w o.course.place is within).1 after)
    (and_from (is_done o.course p) (made_stable o p f || (covers o.course.work i && wrote_to o p f) || cuts o f i) (done-sooner o.course (length b) p done before) t))

pub ended-decides : (m : Modes) (origin : Origin) (b more : List Entry) (os : List Operation) → HasOperations m origin (b ++ more) os → (w : Course) → IsCourse (b ++ more) w → (f : List ℕ) (i p : ℕ) → p ≤ length b
    → Decides (not (is_ended os w f p i)) (Unended m b w.place f i p)
ended-decides m origin b more os has w is f i p within = (told, shown)
  where
    within-of : (x lane line : ℕ) (op : Op) → At b x (Began lane line op) → x ≤ length b
    within-of x lane line op at = let it = At-below b x (Began lane line op) at in omega (arith, it)

    never : not (is_ended os w f p i) ≡ true → is_ended os w f p i ≡ true → ⊥
    never t e = true≢false (sym e ∙ not-true (is_ended os w f p i) t)

    told : not (is_ended os w f p i) ≡ true → Unended m b w.place f i p
    told t = record {
      uncovered = λ x y u after wrote lt.
          let begun = begun-of m b x y f i u wrote in
          let it = listed m origin b more os x has begun in
          let o = it.1 in
          let op = has.each it.0 it.1 it.2 in
          let shows = wrote-shown m origin b more it.1 op f y i u (subst (λ (z : ℕ). Wrote m b z y f i u) (sym it.3) wrote) in
          let before : it.1.course.ending.end < p = (let same = shows.2 in omega (arith, same, lt)) in
          let done = (and_parts (is_done it.1.course (length b)) (if_writer it.1.course.work (is_of it.1 f) (named_is f it.1.named)) shows.0).0 in
          never t (ended-there m origin b more os has w is f i p it.0 it.1 it.2 (subst (λ (z : ℕ). AnsweredBefore b w.place z) (sym it.3) after)
          (subst (λ (z : ℕ). z ≤ length b) (sym it.3) (within-of x begun.lane begun.line begun.op begun.at)) before done
          (or_left (made_stable it.1 p f || (covers it.1.course.work i && wrote_to it.1 p f)) (cuts it.1 f i)
          (or_right (made_stable it.1 p f) (covers it.1.course.work i && wrote_to it.1 p f) (and_from (covers it.1.course.work i) (wrote_to it.1 p f) shows.1 (wrote-sooner it.1 (length b) p f shows.0 before)))));
      uncut = λ x y size after cut low lt.
          let begun : Begun b x = record { lane = cut.of.lane; line = cut.of.line; op = ops.Truncate cut.slot size; at = cut.of.began } in
          let it = listed m origin b more os x has begun in
          let op = has.each it.0 it.1 it.2 in
          let shows = truncated-shown m origin b more it.1 op f y size i low (subst (λ (z : ℕ). Truncated m b z y f size) (sym it.3) cut) in
          let before : it.1.course.ending.end < p = (let same = shows.2 in omega (arith, same, lt)) in
          never t (ended-there m origin b more os has w is f i p it.0 it.1 it.2 (subst (λ (z : ℕ). AnsweredBefore b w.place z) (sym it.3) after)
          (subst (λ (z : ℕ). z ≤ length b) (sym it.3) (within-of x begun.lane begun.line begun.op begun.at)) before shows.0
          (or_right (made_stable it.1 p f || (covers it.1.course.work i && wrote_to it.1 p f)) (cuts it.1 f i) shows.1));
      unsettled = λ x y after made lt.
          let begun = made-begun m b x y f made in
          let it = listed m origin b more os x has begun in
          let op = has.each it.0 it.1 it.2 in
          let shows = made-shown m origin b more it.1 op f y (subst (λ (z : ℕ). MadeStable m b z y f) (sym it.3) made) in
          let before : it.1.course.ending.end < p = (let same = shows.1 in omega (arith, same, lt)) in
          let done = (and_parts (is_done it.1.course (length b)) (if_stabilizer it.1.course.work (is_of it.1 f) (named_is f it.1.named)) shows.0).0 in
          never t (ended-there m origin b more os has w is f i p it.0 it.1 it.2 (subst (λ (z : ℕ). AnsweredBefore b w.place z) (sym it.3) after)
          (subst (λ (z : ℕ). z ≤ length b) (sym it.3) (within-of x begun.lane begun.line begun.op begun.at)) before done
          (or_left (made_stable it.1 p f || (covers it.1.course.work i && wrote_to it.1 p f)) (cuts it.1 f i)
          (or_left (made_stable it.1 p f) (covers it.1.course.work i && wrote_to it.1 p f) (made-sooner it.1 (length b) p f shows.0 before))));
    }

    found : Unended m b w.place f i p → (k : ℕ) (o : Operation) → slice_get os k ≡ Some o → IsOperation m origin (b ++ more) o → o.course.ending.end < p → is_done o.course (length b) ≡ true → ended_before w o.course.place ≡ true
        → (made_stable o p f || (covers o.course.work i && wrote_to o p f) || cuts o f i) ≡ true → ⊥
    found none k o there op before done after t = elim (or_cases (made_stable o p f || (covers o.course.work i && wrote_to o p f)) (cuts o f i) t) [
      | inl x ↦ elim (or_cases (made_stable o p f) (covers o.course.work i && wrote_to o p f) x) [
        | inl a ↦
            let made = made-told m origin b more o op f (made-after o p (length b) f within a) in
            let begun = made-begun m b o.course.place o.course.ending.end f made in
            none.unsettled o.course.place o.course.ending.end ((before-of-beginning b more w o.course.place is (within-of o.course.place begun.lane begun.line begun.op begun.at)).0 after) made before
        | inr a ↦
            let both = and_parts (covers o.course.work i) (wrote_to o p f) a in
            let wrote = wrote-told m origin b more o op f i (wrote-later o p (length b) f within both.1) both.0 in
            let begun = begun-of m b o.course.place o.course.ending.end f i wrote.0 wrote.1 in
            none.uncovered o.course.place o.course.ending.end wrote.0 ((before-of-beginning b more w o.course.place is (within-of o.course.place begun.lane begun.line begun.op begun.at)).0 after) wrote.1 before
      ]
      | inr a ↦
          let cut = truncated-told m origin b more o op f i done a in
          none.uncut o.course.place o.course.ending.end cut.0 ((before-of-beginning b more w o.course.place is (within-of o.course.place cut.2.of.lane cut.2.of.line (ops.Truncate cut.2.slot cut.0) cut.2.of.began)).0 after) cut.2 cut.1 before
    ]

    shown : Unended m b w.place f i p → not (is_ended os w f p i) ≡ true
    shown none = elim (cases_Bool (is_ended os w f p i)) [
      | inr e ↦ (rw e refl)
      | inl t ↦
          let it = any-found (ends_after w f p i) os t in
          let op = has.each it.0 it.1 it.2 in
          let two = and_parts (ended_before w it.1.course.place) (ends_pending it.1 p f i) it.3 in
          let ends = and_parts (is_done it.1.course p) (made_stable it.1 p f || (covers it.1.course.work i && wrote_to it.1 p f) || cuts it.1 f i) two.1 in
          let before : it.1.course.ending.end < p = end-before it.1.course p ends.0 in
          let done : is_done it.1.course (length b) ≡ true = done-later it.1.course p (length b) within ends.0 in
          absurd (found none it.0 it.1 it.2 op before done two.0 ends.1)
    ]

-- ---- left alone

put-grow : (b more : List Entry) (k : ℕ) → k ≤ length b → NoPutAt b k → NoPutAt (b ++ more) k
put-grow b more k within none x lane line offset path bytes at lt = Before-grow b more x k (none x lane line offset path bytes (At-back b more x (Began lane line (ops.Put path offset bytes)) at (omega (arith, lt, within))) lt)

put-back : (b more : List Entry) (k : ℕ) → k ≤ length b → NoPutAt (b ++ more) k → NoPutAt b k
put-back b more k within none x lane line offset path bytes at lt = Before-back b more x k within (none x lane line offset path bytes (At-grow b more x (Began lane line (ops.Put path offset bytes)) at) lt)

open-file : (m : Modes) (h : List Entry) (c : Course) → IsCourse h c → (f : List ℕ) → is_open c.work ≡ true → IsFileOf m h c f → (lane : ℕ) × (slot : ℕ) × Opens m h lane slot c.place c.ending.end f
open-file m h c is f t (opened lane slot opens) = (lane, slot, opens)
open-file m h c is f t (put offset bytes puts) =
    absurd (true≢false (sym t ∙ ap is_open (course-work h c is puts.lane puts.ended.line (ops.Put puts.path offset bytes) puts.ended.began)))

pub opens-decides : (m : Modes) (origin : Origin) (b more : List Entry) (os : List Operation) (came : List ℕ) → HasOperations m origin (b ++ more) os → HasCame (b ++ more) (length (b ++ more)) came → (l : lefts.Left) → l.place < length b
    → Decides (not (list_any (opens_after came (length b) l) os)) (NoneOpens m b l.place l.file)
opens-decides m origin b more os came has has_came l below = (told, shown)
  where
    told : not (list_any (opens_after came (length b) l) os) ≡ true → NoneOpens m b l.place l.file
    told t lane slot x y opens after none =
        let begun : Begun b x = record { lane = lane; line = opens.ended.line; op = ops.OpenFile slot opens.mode opens.path; at = opens.ended.began } in
        let it = listed m origin b more os x has begun in
        let op = has.each it.0 it.1 it.2 in
        let here = subst (λ (z : ℕ). Opens m b lane slot z y l.file) (sym it.3) opens in
        let low : y < length b = At-below b y (Answered lane opens.ended.line (Done opens.value)) opens.ended.answered in
        let grown = Opens-grow m b more lane slot it.1.course.place y l.file here in
        let says = ended-says b more it.1.course op.course lane (ops.OpenFile slot here.mode here.path) y (Done here.value) here.ended in
        let end : it.1.course.ending.end ≡ y = says.0 in
        let open_is = ap is_open (course-work (b ++ more) it.1.course op.course lane grown.ended.line (ops.OpenFile slot grown.mode grown.path) grown.ended.began) in
        let done = ended-done b more it.1.course op.course lane (ops.OpenFile slot here.mode here.path) y (length b) here.value here.ended low in
        let named = named-shown m (b ++ more) it.1.course it.1.named l.file op.named (opened lane slot (subst (λ (z : ℕ). Opens m (b ++ more) lane slot it.1.course.place z l.file) (sym end) grown)) in
        let later = lt-ltb l.place it.1.course.ending.end (subst (λ (z : ℕ). l.place < z) (sym end) after) in
        let quiet = (none-came-decides b more came has_came l.place it.1.course.ending.end (omega (arith, end, low))).1 (subst (λ (z : ℕ). NoneCame b l.place z) (sym end) none) in
        true≢false (sym (any-there (opens_after came (length b) l) os it.0 it.1 it.2
        (and_from (is_open it.1.course.work && is_done it.1.course (length b) && named_is l.file it.1.named && nat_lt l.place it.1.course.ending.end) (none_came came l.place it.1.course.ending.end)
        (and_from (is_open it.1.course.work && is_done it.1.course (length b) && named_is l.file it.1.named) (nat_lt l.place it.1.course.ending.end)
        (and_from (is_open it.1.course.work && is_done it.1.course (length b)) (named_is l.file it.1.named)
        (and_from (is_open it.1.course.work) (is_done it.1.course (length b)) open_is done) named) later) quiet)) ∙ not-true (list_any (opens_after came (length b) l) os) t)

    shown : NoneOpens m b l.place l.file → not (list_any (opens_after came (length b) l) os) ≡ true
    shown none = elim (cases_Bool (list_any (opens_after came (length b) l) os)) [
      | inr f ↦ (rw f refl)
      | inl t ↦
          let it = any-found (opens_after came (length b) l) os t in
          let op = has.each it.0 it.1 it.2 in
          let four = and_parts (is_open it.1.course.work && is_done it.1.course (length b) && named_is l.file it.1.named && nat_lt l.place it.1.course.ending.end) (none_came came l.place it.1.course.ending.end) it.3 in
          let three = and_parts (is_open it.1.course.work && is_done it.1.course (length b) && named_is l.file it.1.named) (nat_lt l.place it.1.course.ending.end) four.0 in
          let two = and_parts (is_open it.1.course.work && is_done it.1.course (length b)) (named_is l.file it.1.named) three.0 in
          let one = and_parts (is_open it.1.course.work) (is_done it.1.course (length b)) two.0 in
          let low : it.1.course.ending.end < length b = end-before it.1.course (length b) one.1 in
          let file = open-file m (b ++ more) it.1.course op.course l.file one.0 (named-told m (b ++ more) it.1.course it.1.named l.file op.named two.1) in
          absurd (none file.0 file.1 it.1.course.place it.1.course.ending.end (Opens-back m b more file.0 file.1 it.1.course.place it.1.course.ending.end l.file low file.2)
          (ltb-true l.place it.1.course.ending.end three.1) ((none-came-decides b more came has_came l.place it.1.course.ending.end (omega (arith, low))).0 four.1))
    ]

pub alone-decides : (m : Modes) (origin : Origin) (t : Trace) (d : Digest) (b more : List Entry) → Begins m origin t d b more → (l : lefts.Left) → IsLeft m (b ++ more) l → l.place < length b
    → Decides (is_left_alone d (length b) l) (LeftAlone m b l.place l.file)
alone-decides m origin t d b more is l left below = (
  λ x.
      let two = and_parts l.no_put (not (list_any (opens_after d.came.items (length b) l) d.operations.items)) x in
      record {
        left = Left-back m b more l.place l.file below left.is;
        no_put = put-back b more l.place (omega (arith, below)) (left.no_put.0 two.0);
        unopened = opens.0 two.1;
      },
  λ a. and_from l.no_put (not (list_any (opens_after d.came.items (length b) l) d.operations.items)) (left.no_put.1 (put-grow b more l.place (omega (arith, below)) a.no_put)) (opens.1 a.unopened),
)
  where
    opens : Decides (not (list_any (opens_after d.came.items (length b) l) d.operations.items)) (NoneOpens m b l.place l.file)
    opens = opens-decides m origin b more d.operations.items d.came.items (operations-of m origin t d b more is) (subst (λ (h : List Entry). HasCame h (length h) d.came.items) (sym is.whole) is.all.came) l below

-- no last close left the file alone since w was answered and before the moment
abbrev pub Unleft : Modes → List Entry → ℕ → List ℕ → ℕ → Type 0
Unleft m b w f n = (k : ℕ) → AnsweredBefore b w k → LeftAlone m b k f → k < n → ⊥

pub left-decides : (m : Modes) (origin : Origin) (t : Trace) (d : Digest) (b more : List Entry) → Begins m origin t d b more → (w : Course) → IsCourse (b ++ more) w → (f : List ℕ) (p : ℕ) → p ≤ length b
    → Decides (not (is_left d (length b) w f p)) (Unleft m b w.place f p)
left-decides m origin t d b more is w course f p within = (told, shown)
  where
    has : HasLeft m (b ++ more) d.left.items
    has = subst (λ (h : List Entry). HasLeft m h d.left.items) (sym is.whole) is.all.left

    told : not (is_left d (length b) w f p) ≡ true → Unleft m b w.place f p
    told x k after alone lt =
        let below : k < length b = omega (arith, lt, within) in
        let it = has.every k f (Left-grow m b more k f below alone.left) in
        let left = has.each it.0 it.1 it.2 in
        let here : it.1.place < length b = subst (λ (z : ℕ). z < length b) (sym it.3) below in
        let its = subst (λ (z : ℕ). LeftAlone m b z it.1.file) (sym it.3) (subst (λ (z : List ℕ). LeftAlone m b k z) (sym it.4) alone) in
        true≢false (sym (any-there (leaves d (length b) w f p) d.left.items it.0 it.1 it.2
        (and_from (bytes_eq it.1.file f && nat_lt it.1.place p && ended_before w it.1.place) (is_left_alone d (length b) it.1)
        (and_from (bytes_eq it.1.file f && nat_lt it.1.place p) (ended_before w it.1.place)
        (and_from (bytes_eq it.1.file f) (nat_lt it.1.place p) ((bytes_eq-Decides it.1.file f).1 it.4) (lt-ltb it.1.place p (subst (λ (z : ℕ). z < p) (sym it.3) lt)))
        ((before-of-beginning b more w it.1.place course (omega (arith, here))).1 (subst (λ (z : ℕ). AnsweredBefore b w.place z) (sym it.3) after)))
        ((alone-decides m origin t d b more is it.1 left here).1 its))) ∙ not-true (is_left d (length b) w f p) x)

    shown : Unleft m b w.place f p → not (is_left d (length b) w f p) ≡ true
    shown none = elim (cases_Bool (is_left d (length b) w f p)) [
      | inr e ↦ (rw e refl)
      | inl x ↦
          let it = any-found (leaves d (length b) w f p) d.left.items x in
          let left = has.each it.0 it.1 it.2 in
          let three = and_parts (bytes_eq it.1.file f && nat_lt it.1.place p && ended_before w it.1.place) (is_left_alone d (length b) it.1) it.3 in
          let two = and_parts (bytes_eq it.1.file f && nat_lt it.1.place p) (ended_before w it.1.place) three.0 in
          let one = and_parts (bytes_eq it.1.file f) (nat_lt it.1.place p) two.0 in
          let lt : it.1.place < p = ltb-true it.1.place p one.1 in
          let below : it.1.place < length b = omega (arith, lt, within) in
          absurd (none it.1.place ((before-of-beginning b more w it.1.place course (omega (arith, below))).0 two.1)
          (subst (λ (z : List ℕ). LeftAlone m b it.1.place z) ((bytes_eq-Decides it.1.file f).0 one.0) ((alone-decides m origin t d b more is it.1 left below).0 three.1)) lt)
    ]

-- ---- pending

-- what the operation at the place w writes at the place i of the file may be pending at the moment n
pub record PendingBy (m : Modes) (origin : Origin) (h : List Entry) (w : ℕ) (f : List ℕ) (i n : ℕ) : Type 0 where
  pub before : w < n
  pub v : ℕ
  pub writes : WritesByte m origin h w f i v
  pub unrefused : RefusedWrite h w → ⊥
  pub unput : PutSucceeded h w n → ⊥
  pub unended : Unended m h w f i n
  pub unleft : (PutRefused h w → ⊥) → Unleft m h w f n

pub pending-of : (m : Modes) (origin : Origin) (h : List Entry) (w : ℕ) (f : List ℕ) (i n : ℕ) (p : PendingBy m origin h w f i n) → Pending m origin h f i n p.v
pending-of m origin h w f i n p = record { w = w; before = p.before; writes = p.writes; unrefused = p.unrefused; unput = p.unput; uncovered = p.unended.uncovered; uncut = p.unended.uncut; unsettled = p.unended.unsettled; unleft = p.unleft }

pub pending-by : (m : Modes) (origin : Origin) (h : List Entry) (f : List ℕ) (i n v : ℕ) (p : Pending m origin h f i n v) → PendingBy m origin h p.w f i n
pending-by m origin h f i n v p = record {
  before = p.before;
  v = v;
  writes = p.writes;
  unrefused = p.unrefused;
  unput = p.unput;
  unended = record { uncovered = p.uncovered; uncut = p.uncut; unsettled = p.unsettled };
  unleft = p.unleft;
}

-- what is pending was so at each moment before, since it began
pub pending-sooner : (m : Modes) (origin : Origin) (h : List Entry) (w : ℕ) (f : List ℕ) (i k n : ℕ) → w < k → k ≤ n → PendingBy m origin h w f i n → PendingBy m origin h w f i k
pending-sooner m origin h w f i k n began le p = record {
  before = began;
  v = p.v;
  writes = p.writes;
  unrefused = p.unrefused;
  unput = λ s. p.unput (let lt = s.before in record { lane = s.lane; path = s.path; offset = s.offset; bytes = s.bytes; y = s.y; value = s.value; ended = s.ended; before = omega (arith, lt, le) });
  unended = record {
    uncovered = λ x y u after wrote lt. p.unended.uncovered x y u after wrote (omega (arith, lt, le));
    uncut = λ x y size after cut low lt. p.unended.uncut x y size after cut low (omega (arith, lt, le));
    unsettled = λ x y after made lt. p.unended.unsettled x y after made (omega (arith, lt, le));
  };
  unleft = λ refused j after alone lt. p.unleft refused j after alone (omega (arith, lt, le));
}

-- the test decides it
pub pending-decides : (m : Modes) (origin : Origin) (t : Trace) (d : Digest) (b more : List Entry) → Begins m origin t d b more → (k : ℕ) (o : Operation) → slice_get d.operations.items k ≡ Some o → (f : List ℕ) (p i : ℕ) → p ≤ length b
    → Decides (is_pending d (length b) o f p i) (PendingBy m origin b o.course.place f i p)
unfolding is_pending
pending-decides m origin t d b more is k o there f p i within = (told, shown)
  where
    op : IsOperation m origin (b ++ more) o
    op = (operations-of m origin t d b more is).each k o there

    ended : Decides (not (is_ended d.operations.items o.course f p i)) (Unended m b o.course.place f i p)
    ended = ended-decides m origin b more d.operations.items (operations-of m origin t d b more is) o.course op.course f i p within

    left : Decides (not (is_left d (length b) o.course f p)) (Unleft m b o.course.place f p)
    left = left-decides m origin t d b more is o.course op.course f p within

    refused : Decides (is_write o.course.work && is_refused o.course (length b)) (RefusedWrite b o.course.place)
    refused = refused-write-decides b more o.course op.course

    put_done : Decides (is_put o.course.work && is_done o.course p) (PutSucceeded b o.course.place p)
    put_done = succeeded-put-decides b more o.course p op.course within

    put_refused : Decides (is_put o.course.work && is_refused o.course (length b)) (PutRefused b o.course.place)
    put_refused = refused-put-decides b more o.course op.course

    c1 : Bool
    c1 = nat_lt o.course.place p

    c2 : Bool
    c2 = covers o.course.work i

    c3 : Bool
    c3 = writes_to o (length b) f

    c4 : Bool
    c4 = not (is_write o.course.work && is_refused o.course (length b))

    c5 : Bool
    c5 = not (is_put o.course.work && is_done o.course p)

    c6 : Bool
    c6 = not (is_ended d.operations.items o.course f p i)

    c7 : Bool
    c7 = (is_put o.course.work && is_refused o.course (length b)) || not (is_left d (length b) o.course f p)

    told : (c1 && c2 && c3 && c4 && c5 && c6 && c7) ≡ true → PendingBy m origin b o.course.place f i p
    told x =
        let s6 = and_parts (c1 && c2 && c3 && c4 && c5 && c6) c7 x in
        let s5 = and_parts (c1 && c2 && c3 && c4 && c5) c6 s6.0 in
        let s4 = and_parts (c1 && c2 && c3 && c4) c5 s5.0 in
        let s3 = and_parts (c1 && c2 && c3) c4 s4.0 in
        let s2 = and_parts (c1 && c2) c3 s3.0 in
        let s1 = and_parts c1 c2 s2.0 in
        let before : o.course.place < p = ltb-true o.course.place p s1.0 in
        let writes = writes-told m origin b more o op f i (omega (arith, before, within)) s2.1 s1.1 in
        record {
          before = before;
          v = writes.0;
          writes = writes.1;
          unrefused = decided-not (is_write o.course.work && is_refused o.course (length b)) refused s3.1;
          unput = decided-not (is_put o.course.work && is_done o.course p) put_done s4.1;
          unended = ended.0 s5.1;
          unleft = λ unrefused. elim (or_cases (is_put o.course.work && is_refused o.course (length b)) (not (is_left d (length b) o.course f p)) s6.1) [
            | inl a ↦ absurd (unrefused (put_refused.0 a))
            | inr a ↦ left.0 a
          ];
        }

    last : (((PutRefused b o.course.place) → ⊥) → Unleft m b o.course.place f p) → c7 ≡ true
    last unleft = elim (cases_Bool (is_put o.course.work && is_refused o.course (length b))) [
      | inl a ↦ or_left (is_put o.course.work && is_refused o.course (length b)) (not (is_left d (length b) o.course f p)) a
      | inr a ↦ or_right (is_put o.course.work && is_refused o.course (length b)) (not (is_left d (length b) o.course f p)) (left.1 (unleft (λ r. true≢false (sym (put_refused.1 r) ∙ a))))
    ]

    shown : PendingBy m origin b o.course.place f i p → (c1 && c2 && c3 && c4 && c5 && c6 && c7) ≡ true
    shown g =
        let writes = writes-shown m origin b more o op f i g.v g.writes in
        and_from (c1 && c2 && c3 && c4 && c5 && c6) c7
        (and_from (c1 && c2 && c3 && c4 && c5) c6
        (and_from (c1 && c2 && c3 && c4) c5
        (and_from (c1 && c2 && c3) c4
        (and_from (c1 && c2) c3
        (and_from c1 c2 (lt-ltb o.course.place p g.before) writes.1) writes.0)
        (not-decided (is_write o.course.work && is_refused o.course (length b)) refused g.unrefused))
        (not-decided (is_put o.course.work && is_done o.course p) put_done g.unput))
        (ended.1 g.unended)) (last g.unleft)
