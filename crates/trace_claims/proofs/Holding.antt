-- What the operations of a history show of a slot is what the slot holds.
use Rattle.std.proofs.Common.{◌≡◌, ◌<◌, ◌≤◌, inl, inr, ℕ, Bool, true, false, true≢false, List, length, Option, Some, None, refl, sym, ◌∙◌, ap, subst, arith}
use Rattle.std.specs.Prelude.{◌==◌, ◌&&◌, not}
use Rattle.std.proofs.lemmas.Bool.{cases_Bool, ltb-true, lt-ltb, and_parts, and_from, not-true, eqb-true, eq-eqb}
use Rattle.std.proofs.lemmas.Option.{slice_get_within}
use Rattle.world_model.specs.declared.answer.Answer.{Answer}
use Rattle.world_model.specs.declared.answer.Answer.TheVariants.{Done}
use Rattle.world_model.specs.declared.entry.Entry.{Entry}
use Rattle.world_model.specs.declared.op.Op.{Op}
use Rattle.world_model.specs.declared.op.Op.TheVariants as ops
use Rattle.world_model.specs.Operations.{Ended, AnsweredBefore}
use Rattle.claims.specs.Modes.{Modes}
use Rattle.claims.specs.Slots.{Opens, InSlot}
use Rattle.trace_claims.specs.declared.courses.Course.{Course}
use Rattle.trace_claims.specs.declared.courses.Work.{Work}
use Rattle.trace_claims.specs.declared.courses.Work.TheVariants as works
use Rattle.trace_claims.specs.declared.operations.Hold.{Hold}
use Rattle.trace_claims.specs.declared.slots.Named.{Named}
use Rattle.trace_claims.specs.Courses.{IsCourse, work_of, opens, closes, ended_before}
use Rattle.trace_claims.specs.Operations.{IsFileOf, opened, put, FindsFile, HasHold, HoldsAll}
use Rattle.trace_claims.specs.Slotted.{opens_there, ended_before_that, hold_of, hold_by, LastClose, HoldsBy, IsNamed, HasNamed}
use Rattle.trace_claims.proofs.Telling.{course-op, course-lane, course-work, before-decides, ends-says}

-- ---- opens and closes

opens-op : (op : Op) (slot : ℕ) → opens (work_of op) slot ≡ true → (mode : _) × (path : List (List ℕ)) × (op ≡ ops.OpenFile slot mode path)
opens-op (ops.OpenFile its mode path) slot t = (mode, path, ap (λ z. ops.OpenFile z mode path) (eqb-true its slot t))
opens-op (ops.Close its) slot t = absurd cc
opens-op (ops.Read its offset count) slot t = absurd cc
opens-op (ops.Write its offset bytes) slot t = absurd cc
opens-op (ops.Fill its offset count byte) slot t = absurd cc
opens-op (ops.Put path offset bytes) slot t = absurd cc
opens-op (ops.Sync its) slot t = absurd cc
opens-op (ops.Truncate its size) slot t = absurd cc
opens-op (ops.Stat path) slot t = absurd cc
opens-op (ops.Access path bits) slot t = absurd cc
opens-op (ops.MakeDir path) slot t = absurd cc
opens-op (ops.RemoveDir path) slot t = absurd cc
opens-op (ops.Remove path) slot t = absurd cc
opens-op (ops.Rename from to) slot t = absurd cc
opens-op (ops.Link from to) slot t = absurd cc
opens-op (ops.SymLink path target) slot t = absurd cc
opens-op (ops.ReadLink path) slot t = absurd cc
opens-op (ops.List path) slot t = absurd cc

closes-op : (op : Op) (slot : ℕ) → closes (work_of op) slot ≡ true → op ≡ ops.Close slot
closes-op (ops.Close its) slot t = ap (λ z. ops.Close z) (eqb-true its slot t)
closes-op (ops.OpenFile its mode path) slot t = absurd cc
closes-op (ops.Read its offset count) slot t = absurd cc
closes-op (ops.Write its offset bytes) slot t = absurd cc
closes-op (ops.Fill its offset count byte) slot t = absurd cc
closes-op (ops.Put path offset bytes) slot t = absurd cc
closes-op (ops.Sync its) slot t = absurd cc
closes-op (ops.Truncate its size) slot t = absurd cc
closes-op (ops.Stat path) slot t = absurd cc
closes-op (ops.Access path bits) slot t = absurd cc
closes-op (ops.MakeDir path) slot t = absurd cc
closes-op (ops.RemoveDir path) slot t = absurd cc
closes-op (ops.Remove path) slot t = absurd cc
closes-op (ops.Rename from to) slot t = absurd cc
closes-op (ops.Link from to) slot t = absurd cc
closes-op (ops.SymLink path target) slot t = absurd cc
closes-op (ops.ReadLink path) slot t = absurd cc
closes-op (ops.List path) slot t = absurd cc

three-parts : (a b c : Bool) → (a && b && c) ≡ true → (a ≡ true) × (b ≡ true) × (c ≡ true)
three-parts true true true t = (refl, refl, refl)
three-parts true true false t = absurd cc
three-parts true false c t = absurd cc
three-parts false b c t = absurd cc

three-from : (a b c : Bool) → a ≡ true → b ≡ true → c ≡ true → (a && b && c) ≡ true
three-from a b c x y z = rw (x, y, z) refl

-- ---- a close before the place, by the tests and by the history

-- an answered close of the slot is found by the test
close-shown : (h : List Entry) (c : Course) (is : IsCourse h c) (lane slot k place : ℕ) (answer : Answer) → Ended h lane c.place (ops.Close slot) k answer → k < place
    → ((c.lane == lane) && closes c.work slot && ended_before c place) ≡ true
close-shown h c is lane slot k place answer ended lt =
    let end : c.ending.end ≡ k = (ends-says h c is lane (ops.Close slot) k answer ended).0 in
    three-from (c.lane == lane) (closes c.work slot) (ended_before c place)
    (eq-eqb c.lane lane (course-lane h c is lane ended.line (ops.Close slot) ended.began))
    (ap (λ (w : Work). closes w slot) (course-work h c is lane ended.line (ops.Close slot) ended.began) ∙ eq-eqb slot slot refl)
    (lt-ltb c.ending.end place (omega (arith, end, lt)))

-- what the test finds is an answered close of the slot
close-told : (h : List Entry) (c : Course) (is : IsCourse h c) (lane slot place : ℕ) → place ≤ length h → ((c.lane == lane) && closes c.work slot && ended_before c place) ≡ true
    → (answer : Answer) × Ended h lane c.place (ops.Close slot) c.ending.end answer
close-told h c is lane slot place within t =
    let parts = three-parts (c.lane == lane) (closes c.work slot) (ended_before c place) t in
    let b : AnsweredBefore h c.place place = (before-decides h c place is within).0 parts.2 in
    let op : is.op ≡ ops.Close slot = closes-op is.op slot (sym (ap (λ (w : Work). closes w slot) is.does) ∙ parts.1) in
    let same : is.op ≡ b.op = course-op h c is b.lane b.ended.line b.op b.ended.began in
    let lane_is : c.lane ≡ b.lane = course-lane h c is b.lane b.ended.line b.op b.ended.began in
    let end : c.ending.end ≡ b.y = (ends-says h c is b.lane b.op b.y b.answer b.ended).0 in
    (b.answer, moved b.lane lane b.op b.y b.answer (sym lane_is ∙ eqb-true c.lane lane parts.0) (sym same ∙ op) end b.ended)
  where
    moved : (k l : ℕ) (o : Op) (y : ℕ) (a : Answer) → k ≡ l → o ≡ ops.Close slot → c.ending.end ≡ y → Ended h k c.place o y a → Ended h l c.place (ops.Close slot) c.ending.end a
    moved k l o y a lanes op end ended = subst (λ (z : ℕ). Ended h z c.place (ops.Close slot) c.ending.end a) lanes (subst (λ (z : Op). Ended h k c.place z c.ending.end a) op (subst (λ (z : ℕ). Ended h k c.place o z a) (sym end) ended))

-- ---- what a slot holds

pub slot-holds : (m : Modes) (h : List Entry) (ns : List Named) (lane slot place : ℕ) (holds : List Hold) → HasNamed m h ns → place ≤ length h → HoldsBy ns lane slot place (length ns) holds → HoldsAll m h place lane slot holds
slot-holds m h ns lane slot place holds all within by = record {
  each = λ i hold at. let from = by.has.each i hold at in told from.1 (all.each from.0 from.1 from.3) hold from.4;
  every = λ x f s. shown x f s;
}
  where
    kept-so : (n : Named) (o : Option ℕ) → LastClose ns lane slot place (length ns) o → ended_before_that n o ≡ false → (c k : ℕ) (answer : Answer) → Ended h lane c (ops.Close slot) k answer → n.course.ending.end < k → k < place → ⊥
    kept-so n None none f c k answer ended after lt =
        let it = all.every c lane ended.line (ops.Close slot) ended.began in
        let closes = close-shown h it.1.course (all.each it.0 it.1 it.2).course lane slot k place answer (subst (λ (z : ℕ). Ended h lane z (ops.Close slot) k answer) (sym it.3) ended) lt in
        true≢false (sym closes ∙ none it.0 it.1 it.2 (slice_get_within ns it.0 it.1 it.2))
    kept-so n (Some last) known f c k answer ended after lt =
        let it = all.every c lane ended.line (ops.Close slot) ended.began in
        let here : Ended h lane it.1.course.place (ops.Close slot) k answer = subst (λ (z : ℕ). Ended h lane z (ops.Close slot) k answer) (sym it.3) ended in
        let closes = close-shown h it.1.course (all.each it.0 it.1 it.2).course lane slot k place answer here lt in
        let end : it.1.course.ending.end ≡ k = (ends-says h it.1.course (all.each it.0 it.1 it.2).course lane (ops.Close slot) k answer here).0 in
        let most : it.1.course.ending.end ≤ last = known.most it.0 it.1 it.2 (slice_get_within ns it.0 it.1 it.2) closes in
        true≢false (sym (lt-ltb n.course.ending.end last (omega (arith, end, most, after))) ∙ f)

    some-hold : (a b : Hold) → Some a ≡ Some b → a ≡ b
    some-hold a b e = cc

    told : (n : Named) → IsNamed m h n → (hold : Hold) → hold_by n lane slot place by.closed ≡ Some hold → InSlot m h place lane slot hold.opened_at hold.file
    told n is hold e = elim (cases_Bool (opens_there n lane slot place && not (ended_before_that n by.closed))) [
      | inl t ↦ let parts = and_parts (opens_there n lane slot place) (not (ended_before_that n by.closed)) t in file n.file refl is.file (sym (when t) ∙ e) parts.0 (not-true (ended_before_that n by.closed) parts.1)
      | inr f ↦ absurd (let no_way : None ≡ Some hold = sym (unless f) ∙ e in cc)
    ]
      where
        when : (opens_there n lane slot place && not (ended_before_that n by.closed)) ≡ true → hold_by n lane slot place by.closed ≡ hold_of n n.file
        when t = rw t refl

        unless : (opens_there n lane slot place && not (ended_before_that n by.closed)) ≡ false → hold_by n lane slot place by.closed ≡ None
        unless t = rw t refl

        found : (f : List ℕ) → IsFileOf m h n.course f → opens_there n lane slot place ≡ true → ended_before_that n by.closed ≡ false → InSlot m h place lane slot n.course.place f
        found f (put offset bytes puts) t late =
            let parts = three-parts (n.course.lane == lane) (opens n.course.work slot) (ended_before n.course place) t in
            let work = course-work h n.course is.course puts.lane puts.ended.line (ops.Put puts.path offset bytes) puts.ended.began in
            let no_way : false ≡ true = sym (ap (λ (w : Work). opens w slot) work) ∙ parts.1 in
            absurd (true≢false (sym no_way))
        found f (opened its_lane its_slot o) t late =
            let parts = three-parts (n.course.lane == lane) (opens n.course.work slot) (ended_before n.course place) t in
            let work = course-work h n.course is.course its_lane o.ended.line (ops.OpenFile its_slot o.mode o.path) o.ended.began in
            let slots : its_slot ≡ slot = eqb-true its_slot slot (sym (ap (λ (w : Work). opens w slot) work) ∙ parts.1) in
            let lanes : its_lane ≡ lane = sym (course-lane h n.course is.course its_lane o.ended.line (ops.OpenFile its_slot o.mode o.path) o.ended.began) ∙ eqb-true n.course.lane lane parts.0 in
            record {
              y = n.course.ending.end;
              opens = subst (λ (z : ℕ). Opens m h z slot n.course.place n.course.ending.end f) lanes (subst (λ (z : ℕ). Opens m h its_lane z n.course.place n.course.ending.end f) slots o);
              before = ltb-true n.course.ending.end place parts.2;
              kept = λ c k answer ended after lt. kept-so n by.closed by.last late c k answer ended after lt;
            }

        file : (o : Option (List ℕ)) → n.file ≡ o → FindsFile m h n.course o → hold_of n n.file ≡ Some hold → opens_there n lane slot place ≡ true → ended_before_that n by.closed ≡ false → InSlot m h place lane slot hold.opened_at hold.file
        file None e finds is_hold t late = absurd (let no_way : None ≡ Some hold = sym (ap (hold_of n) e) ∙ is_hold in cc)
        file (Some f) e finds is_hold t late =
            subst (λ (z : Hold). InSlot m h place lane slot z.opened_at z.file) (some-hold (record { opened_at = n.course.place; file = f }) hold (sym (ap (hold_of n) e) ∙ is_hold))
            (found f finds.is t late)

    -- no close came between the open and the last close
    not-before : (n : Named) (x : ℕ) (f : List ℕ) (s : InSlot m h place lane slot x f) → n.course.ending.end ≡ s.y → (o : Option ℕ) → LastClose ns lane slot place (length ns) o → ended_before_that n o ≡ false
    not-before n x f s end None none = refl
    not-before n x f s end (Some last) known = elim (cases_Bool (ended_before n.course last)) [
      | inl t ↦
          let closed = close-told h known.n.course (all.each known.j known.n known.is).course lane slot place within known.closes in
          let parts = three-parts (known.n.course.lane == lane) (closes known.n.course.work slot) (ended_before known.n.course place) known.closes in
          let later : n.course.ending.end < last = ltb-true n.course.ending.end last t in
          let there = known.there in
          let low : known.n.course.ending.end < place = ltb-true known.n.course.ending.end place parts.2 in
          absurd (s.kept known.n.course.place known.n.course.ending.end closed.0 closed.1 (omega (arith, end, later, there)) low)
      | inr e ↦ e
    ]

    shown : (x : ℕ) (f : List ℕ) → InSlot m h place lane slot x f → HasHold holds x f
    shown x f s =
        let op : Op = ops.OpenFile slot s.opens.mode s.opens.path in
        let it = all.every x lane s.opens.ended.line op s.opens.ended.began in
        let is : IsNamed m h it.1 = all.each it.0 it.1 it.2 in
        let ended : Ended h lane it.1.course.place op s.y (Done s.opens.value) = subst (λ (z : ℕ). Ended h lane z op s.y (Done s.opens.value)) (sym it.3) s.opens.ended in
        let end : it.1.course.ending.end ≡ s.y = (ends-says h it.1.course is.course lane op s.y (Done s.opens.value) ended).0 in
        let there : opens_there it.1 lane slot place ≡ true =
        three-from (it.1.course.lane == lane) (opens it.1.course.work slot) (ended_before it.1.course place)
        (eq-eqb it.1.course.lane lane (course-lane h it.1.course is.course lane ended.line op ended.began))
        (ap (λ (w : Work). opens w slot) (course-work h it.1.course is.course lane ended.line op ended.began) ∙ eq-eqb slot slot refl)
        (lt-ltb it.1.course.ending.end place (let lt = s.before in omega (arith, end, lt)))
        in
        let late : ended_before_that it.1 by.closed ≡ false = not-before it.1 x f s end by.closed by.last in
        let opens_it : IsFileOf m h it.1.course f = opened lane slot (subst (λ (z : ℕ). Opens m h lane slot z it.1.course.ending.end f) (sym it.3) (subst (λ (z : ℕ). Opens m h lane slot x z f) (sym end) s.opens)) in
        let named : it.1.file ≡ Some f = name it.1 f it.1.file refl is.file opens_it in
        let hold : hold_by it.1 lane slot place by.closed ≡ Some (record { opened_at = it.1.course.place; file = f }) =
        when it.1 (and_from (opens_there it.1 lane slot place) (not (ended_before_that it.1 by.closed)) there (rw late refl)) ∙ ap (hold_of it.1) named
        in
        let at = by.has.every it.0 it.1 (record { opened_at = it.1.course.place; file = f }) it.2 (slice_get_within ns it.0 it.1 it.2) hold in
        (at.0, record { opened_at = it.1.course.place; file = f }, at.1, it.3, refl)
      where
        when : (n : Named) → (opens_there n lane slot place && not (ended_before_that n by.closed)) ≡ true → hold_by n lane slot place by.closed ≡ hold_of n n.file
        when n t = rw t refl

        name : (n : Named) (f : List ℕ) (o : Option (List ℕ)) → n.file ≡ o → FindsFile m h n.course o → IsFileOf m h n.course f → n.file ≡ Some f
        name n f None e finds is = absurd (finds f is)
        name n f (Some g) e finds is = e ∙ ap (λ (z : List ℕ). Some z) (sym (finds.only f is))
