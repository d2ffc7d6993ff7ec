-- The last closes that the list has are those of the history.
use Rattle.std.proofs.Common.{◌≡◌, ◌<◌, ◌≤◌, ◌+◌, inl, inr, ℕ, suc, Bool, true, false, true≢false, List, [], ◌∷◌, ◌++◌, append-nil, length, Some, slice_get, refl, sym, ◌∙◌, ap, subst, arith, add-one}
use Rattle.std.specs.Prelude.{Decides, ◌&&◌, nat_lt}
use Rattle.std.specs.List.{list_any}
use Rattle.std.proofs.lemmas.Bool.{cases_lt, ltb-true, lt-ltb, and_parts, and_from, or_cases, or_left, or_right}
use Rattle.std.proofs.lemmas.Option.{slice_get_within}
use Rattle.std.proofs.lemmas.Slice.Eq.{bytes_eq-Decides}
use Rattle.world_model.specs.declared.answer.Answer.{Answer}
use Rattle.world_model.specs.declared.answer.Answer.TheVariants.{Done, Refused}
use Rattle.world_model.specs.declared.answer.Fault.{Fault}
use Rattle.world_model.specs.declared.entry.Entry.{Entry}
use Rattle.world_model.specs.declared.entry.Entry.TheVariants.{Began, Answered}
use Rattle.world_model.specs.declared.op.Op.{Op}
use Rattle.world_model.specs.declared.op.Op.TheVariants as ops
use Rattle.world_model.specs.Entries.{At}
use Rattle.world_model.specs.Mounts.{Origin}
use Rattle.world_model.specs.Operations.{Ended, NoneCame}
use Rattle.world_model.proofs.Places.{At-one, At-below}
use Rattle.claims.specs.Modes.{Modes}
use Rattle.claims.specs.Slots.{InSlot, IsOf}
use Rattle.claims.specs.Touched as touching
use Rattle.claims.specs.Touched.{GivesUp}
use Rattle.trace_claims.specs.declared.courses.Course.{Course}
use Rattle.trace_claims.specs.declared.courses.Work.{Work}
use Rattle.trace_claims.specs.declared.courses.Work.TheVariants as works
use Rattle.trace_claims.specs.declared.operations.Hold.{Hold}
use Rattle.trace_claims.specs.declared.operations.Operation.{Operation}
use Rattle.trace_claims.specs.declared.slots.Named.{Named}
use Rattle.trace_claims.specs.declared.touched.Left as lefts
use Rattle.trace_claims.specs.Coming.{none_came, HasCame}
use Rattle.trace_claims.specs.Courses.{IsCourse, work_of, ended_before, fails, is_close, is_refused}
use Rattle.trace_claims.specs.Endings.{EndsSo, answered, unanswered, outcome_of}
use Rattle.trace_claims.specs.Leaving.{has_file, was_refused, gives_up_beside, gives_up, left_of, SlotHolds, WorkHolds, OpensHold, IsHeldAt}
use Rattle.trace_claims.specs.Lefts.{closes, IsLeftHold, ListsLast, LeftsUpTo, AddsLefts, AddsClose, left_unless}
use Rattle.trace_claims.specs.Operations.{holds_file, is_of, HoldsAll, IsOperation}
use Rattle.trace_claims.specs.Slotted.{HoldsBy, HasNamed}
use Rattle.trace_claims.specs.Touching.{no_put, HasOperations, IsLeft, HasLeft}
use Rattle.trace_claims.proofs.Comings.{none-came-decides}
use Rattle.trace_claims.proofs.Holding.{slot-holds}
use Rattle.trace_claims.proofs.Listing.{get-last, get-grow, get-new, get-same}
use Rattle.trace_claims.proofs.Owning.{any-there, any-found, of-told, of-shown}
use Rattle.trace_claims.proofs.Resting.{no-put-decides}
use Rattle.trace_claims.proofs.Telling.{course-op, course-lane, course-work, refused-ended, ends-says, ended-refused}
use Rattle.trace_claims.proofs.Touches.{Begun, listed}

-- ---- what slots hold

pub slot-decides : (m : Modes) (h : List Entry) (ns : List Named) (n lane slot : ℕ) (holds : List Hold) (f : List ℕ) → HasNamed m h ns → n ≤ length h → HoldsBy ns lane slot n (length ns) holds → Decides (has_file holds f) (SlotHolds m h n lane slot f)
slot-decides m h ns n lane slot holds f has within by = (
  λ t. let it = any-found (holds_file f) holds t in (it.1.opened_at, subst (λ (z : List ℕ). InSlot m h n lane slot it.1.opened_at z) ((bytes_eq-Decides it.1.file f).0 it.3) (all.each it.0 it.1 it.2)),
  λ s. let it = all.every s.0 f s.1 in any-there (holds_file f) holds it.0 it.1 it.2 ((bytes_eq-Decides it.1.file f).1 it.4),
)
  where
    all : HoldsAll m h n lane slot holds
    all = slot-holds m h ns lane slot n holds has within by

pub work-held : (m : Modes) (h : List Entry) (n lane : ℕ) (f : List ℕ) (w : Work) → WorkHolds m h n lane f w → IsHeldAt m h n f
work-held m h n lane f (works.Open slot) s = (lane, slot, s)
work-held m h n lane f (works.Read slot offset count) s = absurd s
work-held m h n lane f (works.Write slot offset count) s = absurd s
work-held m h n lane f (works.Put offset count) s = absurd s
work-held m h n lane f (works.Sync slot) s = absurd s
work-held m h n lane f (works.Close slot) s = absurd s
work-held m h n lane f (works.Truncate slot size) s = absurd s
work-held m h n lane f works.Other s = absurd s

-- none of the first k operations opens a slot that holds the file
abbrev pub NoneHold : Modes → List Entry → ℕ → List Named → List ℕ → ℕ → Type 0
NoneHold m h n ns f k = (j : ℕ) (o : Named) → slice_get ns j ≡ Some o → j < k → OpensHold m h n o f → ⊥

pub hold-none : (m : Modes) (h : List Entry) (n : ℕ) (ns : List Named) (f : List ℕ) → NoneHold m h n ns f 0
hold-none m h n ns f j o is lt held = omega (arith, lt)

pub hold-more : (m : Modes) (h : List Entry) (n : ℕ) (ns : List Named) (f : List ℕ) (k : ℕ) (x : Named) (b : Bool) → slice_get ns k ≡ Some x → Decides b (OpensHold m h n x f) → b ≡ false → NoneHold m h n ns f k → NoneHold m h n ns f (k + 1)
hold-more m h n ns f k x b at d none so-far j o is lt held = elim (cases_lt j k) [
  | inl before ↦ so-far j o is before held
  | inr le ↦ true≢false (sym (d.1 (subst (λ (z : Named). OpensHold m h n z f) (sym (get-same ns k x o at (subst (λ (z : ℕ). slice_get ns z ≡ Some o) (let e : j ≡ k = omega (arith, le, lt) in e) is))) held)) ∙ none)
]

pub held-none : (m : Modes) (h : List Entry) (n : ℕ) (ns : List Named) (f : List ℕ) → HasNamed m h ns → NoneHold m h n ns f (length ns) → IsHeldAt m h n f → ⊥
held-none m h n ns f has none held =
    let lane = held.0 in
    let slot = held.1 in
    let x = held.2.0 in
    let s = held.2.1 in
    let op = ops.OpenFile held.1 s.opens.mode s.opens.path in
    let it = has.every x held.0 s.opens.ended.line op s.opens.ended.began in
    let is = has.each it.0 it.1 it.2 in
    let at : At h it.1.course.place (Began held.0 s.opens.ended.line op) = subst (λ (z : ℕ). At h z (Began held.0 s.opens.ended.line op)) (sym it.3) s.opens.ended.began in
    let work = course-work h it.1.course is.course held.0 s.opens.ended.line op at in
    let its_lane = course-lane h it.1.course is.course held.0 s.opens.ended.line op at in
    none it.0 it.1 it.2 (slice_get_within ns it.0 it.1 it.2)
    (subst (λ (w : Work). WorkHolds m h n it.1.course.lane f w) (sym work) (subst (λ (l : ℕ). SlotHolds m h n l held.1 f) (sym its_lane) held.2))

-- ---- one last close

close-op : (op : Op) → is_close (work_of op) ≡ true → (slot : ℕ) × (op ≡ ops.Close slot)
close-op (ops.Close slot) t = (slot, refl)
close-op (ops.OpenFile its mode path) t = absurd cc
close-op (ops.Put path offset bytes) t = absurd cc
close-op (ops.Read its offset count) t = absurd cc
close-op (ops.Write its offset bytes) t = absurd cc
close-op (ops.Fill its offset count byte) t = absurd cc
close-op (ops.Sync its) t = absurd cc
close-op (ops.Truncate its size) t = absurd cc
close-op (ops.Stat path) t = absurd cc
close-op (ops.Access path bits) t = absurd cc
close-op (ops.MakeDir path) t = absurd cc
close-op (ops.RemoveDir path) t = absurd cc
close-op (ops.Remove path) t = absurd cc
close-op (ops.Rename from to) t = absurd cc
close-op (ops.Link from to) t = absurd cc
close-op (ops.SymLink path target) t = absurd cc
close-op (ops.ReadLink path) t = absurd cc
close-op (ops.List path) t = absurd cc

-- an operation that was answered
answered-here : (h : List Entry) (c : Course) (is : IsCourse h c) → c.ending.end < length h → (a : Answer) × Ended h c.lane c.place is.op c.ending.end a × (c.ending.outcome ≡ outcome_of a)
answered-here h c is lt = by is.ends
  where
    by : EndsSo h c.place c.ending → (a : Answer) × Ended h c.lane c.place is.op c.ending.end a × (c.ending.outcome ≡ outcome_of a)
    by (answered lane op a ended says) = (a, rw (course-lane h c is lane ended.line op ended.began, course-op h c is lane ended.line op ended.began) ended, says)
    by (unanswered none at says) = absurd (omega (arith, lt, at))

refused-answer : (a : Answer) → fails (outcome_of a) ≡ true → (fault : Fault) × (a ≡ Refused fault)
refused-answer (Refused fault) t = (fault, refl)
refused-answer (Done value) t = absurd (true≢false (sym t))

same-answer : (k l m n : ℕ) (a b : Answer) → Answered k l a ≡ Answered m n b → a ≡ b
same-answer k l m n a b e = cc

-- the whole as a beginning of itself
whole-of : (m : Modes) (origin : Origin) (h : List Entry) (os : List Operation) → HasOperations m origin h os → HasOperations m origin (h ++ []) os
whole-of m origin h os has = subst (λ (l : List Entry). HasOperations m origin l os) (sym (append-nil h)) has

-- the test whether a last close gave up what was pending decides it
gives-decides : (m : Modes) (origin : Origin) (h : List Entry) (os : List Operation) (came : List ℕ) → HasOperations m origin h os → HasCame h (length h) came → (c : Course) → IsCourse h c → c.ending.end < length h → (f : List ℕ)
    → Decides (gives_up os came c f) (GivesUp m h c.ending.end f)
gives-decides m origin h os came has has_came c is lt f = (told, shown)
  where
    k : ℕ
    k = c.ending.end

    whole : HasOperations m origin (h ++ []) os
    whole = whole-of m origin h os has

    quiet : (j : ℕ) → Decides (none_came came j k) (NoneCame h j k)
    quiet j = none-came-decides h [] came (subst (λ (l : List Entry). HasCame l (length l) came) (sym (append-nil h)) has_came) j k (omega (arith, lt))

    told : gives_up os came c f ≡ true → GivesUp m h k f
    told t = elim (or_cases (was_refused c) (list_any (gives_up_beside came k f) os) t) [
      | inl refused ↦
          let ended = answered-here h c is lt in
          let fault = refused-answer ended.0 (sym (ap fails ended.2) ∙ refused) in
          touching.itself c.lane ended.1.line fault.0 (subst (λ (a : Answer). At h c.ending.end (Answered c.lane ended.1.line a)) fault.1 ended.1.answered)
      | inr beside ↦
          let it = any-found (gives_up_beside came k f) os beside in
          let op = whole.each it.0 it.1 it.2 in
          let three = and_parts (is_close it.1.course.work && is_refused it.1.course k && is_of it.1 f) (none_came came it.1.course.ending.end k) it.3 in
          let two = and_parts (is_close it.1.course.work && is_refused it.1.course k) (is_of it.1 f) three.0 in
          let one = and_parts (is_close it.1.course.work) (is_refused it.1.course k) two.0 in
          let low : it.1.course.ending.end < k = ltb-true it.1.course.ending.end k (and_parts (fails it.1.course.ending.outcome) (nat_lt it.1.course.ending.end k) one.1).1 in
          let ended = refused-ended h [] it.1.course k op.course (omega (arith, lt)) one.1 in
          let close = close-op op.course.op (sym (ap is_close op.course.does) ∙ one.0) in
          let later = ended.1.later in
          touching.beside it.1.course.lane close.0 it.1.course.place it.1.course.ending.end ended.0
          (subst (λ (o : Op). IsOf m h it.1.course.place o f) close.1 (of-told m origin h [] it.1 op f (omega (arith, later, low, lt)) two.1))
          (subst (λ (o : Op). Ended h it.1.course.lane it.1.course.place o it.1.course.ending.end (Refused ended.0)) close.1 ended.1) low ((quiet it.1.course.ending.end).0 three.1)
    ]

    shown : GivesUp m h k f → gives_up os came c f ≡ true
    shown (touching.itself lane line fault at) =
        let ended = answered-here h c is lt in
        let same = same-answer c.lane ended.1.line lane line ended.0 (Refused fault) (At-one h k (Answered c.lane ended.1.line ended.0) (Answered lane line (Refused fault)) ended.1.answered at) in
        or_left (was_refused c) (list_any (gives_up_beside came k f) os) (ap fails ended.2 ∙ ap (λ (a : Answer). fails (outcome_of a)) same)
    shown (touching.beside lane slot x j fault of ended before none) =
        let begun : Begun h x = record { lane = lane; line = ended.line; op = ops.Close slot; at = ended.began } in
        let it = listed m origin h [] os x whole begun in
        let op = whole.each it.0 it.1 it.2 in
        let here : IsOf m h it.1.course.place (ops.Close slot) f = subst (λ (z : ℕ). IsOf m h z (ops.Close slot) f) (sym it.3) of in
        let its : Ended h lane it.1.course.place (ops.Close slot) j (Refused fault) = subst (λ (z : ℕ). Ended h lane z (ops.Close slot) j (Refused fault)) (sym it.3) ended in
        let refused = ended-refused h [] it.1.course op.course lane (ops.Close slot) j k fault its before in
        let own = has.each it.0 it.1 it.2 in
        let work = course-work h it.1.course own.course lane its.line (ops.Close slot) its.began in
        let says = ends-says h it.1.course own.course lane (ops.Close slot) j (Refused fault) its in
        let none_here : NoneCame h it.1.course.ending.end k = subst (λ (z : ℕ). NoneCame h z k) (sym says.0) none in
        or_right (was_refused c) (list_any (gives_up_beside came k f) os)
        (any-there (gives_up_beside came k f) os it.0 it.1 it.2
        (and_from (is_close it.1.course.work && is_refused it.1.course k && is_of it.1 f) (none_came came it.1.course.ending.end k)
        (and_from (is_close it.1.course.work && is_refused it.1.course k) (is_of it.1 f)
        (and_from (is_close it.1.course.work) (is_refused it.1.course k) (ap is_close work) refused) (of-shown m origin h [] it.1 op (ops.Close slot) f here)) ((quiet it.1.course.ending.end).1 none_here)))

-- the last close that a hold of a close makes is one of the history
left-told : (m : Modes) (origin : Origin) (h : List Entry) (os : List Operation) (came : List ℕ) → HasOperations m origin h os → HasCame h (length h) came → (o : Operation) → IsOperation m origin h o → closes h o ≡ true
    → (i : ℕ) (hold : Hold) → slice_get o.holds.items i ≡ Some hold → IsLeftHold m h o.course hold → IsLeft m h (left_of os came o.course hold)
left-told m origin h os came has has_came o op t i hold held free =
    let two = and_parts (is_close o.course.work) (ended_before o.course (length h)) t in
    let lt : o.course.ending.end < length h = ltb-true o.course.ending.end (length h) two.1 in
    let ended = answered-here h o.course op.course lt in
    let close = close-op op.course.op (sym (ap is_close op.course.does) ∙ two.0) in
    let later = ended.1.later in
    let of_it = any-there (holds_file hold.file) o.holds.items i hold held ((bytes_eq-Decides hold.file hold.file).1 refl) in
    let whole : IsOperation m origin (h ++ []) o = subst (λ (l : List Entry). IsOperation m origin l o) (sym (append-nil h)) op in
    let of_told = of-told m origin h [] o whole hold.file (omega (arith, later, lt)) of_it in
    record {
      is = record {
        lane = o.course.lane;
        slot = close.0;
        close = o.course.place;
        answer = ended.0;
        of = subst (λ (z : Op). IsOf m h o.course.place z hold.file) (same-op whole close.0 close.1) of_told;
        ended = subst (λ (z : Op). Ended h o.course.lane o.course.place z o.course.ending.end ended.0) close.1 ended.1;
        last = λ other its_slot x s. free (other, its_slot, (x, subst (λ (n : ℕ). InSlot m h n other its_slot x hold.file) (sym (add-one o.course.ending.end)) s));
      };
      gives_up = gives-decides m origin h os came has has_came o.course op.course lt hold.file;
      no_put = no-put-decides m origin h [] os (whole-of m origin h os has) o.course.ending.end (omega (arith, lt));
    }
  where
    same-op : (whole : IsOperation m origin (h ++ []) o) → (slot : ℕ) → op.course.op ≡ ops.Close slot → whole.course.op ≡ ops.Close slot
    same-op whole slot e = let at = subst (λ (l : List Entry). At l o.course.place (Began o.course.lane op.course.line op.course.op)) (sym (append-nil h)) op.course.began in course-op (h ++ []) o.course whole.course o.course.lane op.course.line op.course.op at ∙ e

-- and each last close of the history is made by a hold of a close
pub record LeftThere (m : Modes) (h : List Entry) (os : List Operation) (k : ℕ) (f : List ℕ) : Type 0 where
  pub j : ℕ
  pub o : Operation
  pub i : ℕ
  pub hold : Hold
  pub there : slice_get os j ≡ Some o
  pub held : slice_get o.holds.items i ≡ Some hold
  pub close_is : closes h o ≡ true
  pub end_is : o.course.ending.end ≡ k
  pub file_is : hold.file ≡ f
  pub left : IsLeftHold m h o.course hold

left-shown : (m : Modes) (origin : Origin) (h : List Entry) (os : List Operation) → HasOperations m origin h os → (k : ℕ) (f : List ℕ) → touching.Left m h k f → LeftThere m h os k f
left-shown m origin h os has k f l =
    let whole = whole-of m origin h os has in
    let begun : Begun h l.close = record { lane = l.lane; line = l.ended.line; op = ops.Close l.slot; at = l.ended.began } in
    let it = listed m origin h [] os l.close whole begun in
    let op = has.each it.0 it.1 it.2 in
    let its : Ended h l.lane it.1.course.place (ops.Close l.slot) k l.answer = subst (λ (z : ℕ). Ended h l.lane z (ops.Close l.slot) k l.answer) (sym it.3) l.ended in
    let here : IsOf m h it.1.course.place (ops.Close l.slot) f = subst (λ (z : ℕ). IsOf m h z (ops.Close l.slot) f) (sym it.3) l.of in
    let work = course-work h it.1.course op.course l.lane its.line (ops.Close l.slot) its.began in
    let says = ends-says h it.1.course op.course l.lane (ops.Close l.slot) k l.answer its in
    let below : k < length h = At-below h k (Answered l.lane l.ended.line l.answer) l.ended.answered in
    let own = whole.each it.0 it.1 it.2 in
    let of_it = any-found (holds_file f) it.1.holds.items (of-shown m origin h [] it.1 own (ops.Close l.slot) f here) in
    let file = (bytes_eq-Decides of_it.1.file f).0 of_it.3 in
    record {
      j = it.0;
      o = it.1;
      i = of_it.0;
      hold = of_it.1;
      there = it.2;
      held = of_it.2;
      close_is = and_from (is_close it.1.course.work) (ended_before it.1.course (length h)) (ap is_close work) (lt-ltb it.1.course.ending.end (length h) (subst (λ (z : ℕ). z < length h) (sym says.0) below));
      end_is = says.0;
      file_is = file;
      left = λ held. l.last held.0 held.1 held.2.0
          (subst (λ (z : List ℕ). InSlot m h (suc k) held.0 held.1 held.2.0 z) file
          (subst (λ (n : ℕ). InSlot m h n held.0 held.1 held.2.0 of_it.1.file) (ap (λ (n : ℕ). n + 1) says.0 ∙ add-one k) held.2.1));
    }

-- ---- the list as it is made

pub lefts-none : (m : Modes) (h : List Entry) (os : List Operation) (came : List ℕ) → LeftsUpTo m h os came 0 []
lefts-none m h os came = record { each = λ i l at. absurd cc; every = λ j o at lt close i hold held left. absurd (omega (arith, lt)) }

kept-last : (old new : List lefts.Left) (l : lefts.Left) → ((i : ℕ) (x : lefts.Left) → slice_get old i ≡ Some x → slice_get new i ≡ Some x) → ListsLast old l → ListsLast new l
kept-last old new l keeps it = (it.0, keeps it.0 l it.1)

pub lefts-more : (m : Modes) (h : List Entry) (os : List Operation) (came : List ℕ) (k : ℕ) (o : Operation) (old new : List lefts.Left) → slice_get os k ≡ Some o → AddsClose m h os came o old new → LeftsUpTo m h os came k old → LeftsUpTo m h os came (k + 1) new
lefts-more m h os came k o old new at adds so-far = record {
  each = λ i l there. elim (adds.each i l there) [
    | inl was ↦
        let it = so-far.each i l was in let low = it.low in
        record { j = it.j; o = it.o; i = it.i; hold = it.hold; low = omega (arith, low); there = it.there; held = it.held; close_is = it.close_is; is = it.is; left = it.left }
    | inr from ↦ record { j = k; o = o; i = from.1.0; hold = from.1.1; low = omega arith; there = at; held = from.1.3; close_is = from.0; is = from.1.4; left = from.1.5 }
  ];
  every = λ j x there lt close i hold held left. elim (cases_lt j k) [
    | inl before ↦ kept-last old new (left_of os came x.course hold) adds.before (so-far.every j x there before close i hold held left)
    | inr le ↦
        let same = get-same os k o x at (subst (λ (z : ℕ). slice_get os z ≡ Some x) (let e : j ≡ k = omega (arith, le, lt) in e) there) in
        subst (λ (z : Operation). ListsLast new (left_of os came z.course hold)) same
        (adds.every (subst (λ (z : Operation). closes h z ≡ true) (sym same) close) i hold (subst (λ (z : Operation). slice_get z.holds.items i ≡ Some hold) (sym same) held) (subst (λ (z : Operation). IsLeftHold m h z.course hold) (sym same) left))
  ];
}

pub close-adds : (m : Modes) (h : List Entry) (os : List Operation) (came : List ℕ) (o : Operation) (old new : List lefts.Left) → closes h o ≡ true → AddsLefts m h os came o.course o.holds.items (length o.holds.items) old new → AddsClose m h os came o old new
close-adds m h os came o old new is adds = record {
  before = adds.before;
  each = λ i l at. elim (adds.each i l at) [
    | inl was ↦ inl was
    | inr from ↦ inr (is, from)
  ];
  every = λ its j hold at left. adds.every j hold at (slice_get_within o.holds.items j hold at) left;
}

pub close-not : (m : Modes) (h : List Entry) (os : List Operation) (came : List ℕ) (o : Operation) (ls : List lefts.Left) → closes h o ≡ false → AddsClose m h os came o ls ls
close-not m h os came o ls none = record { before = λ i l at. at; each = λ i l at. inl at; every = λ its j hold at left. absurd (true≢false (sym its ∙ none)) }

pub same-hold : (a b : Hold) → Some a ≡ Some b → a ≡ b
same-hold a b e = cc

pub adds-none : (m : Modes) (h : List Entry) (os : List Operation) (came : List ℕ) (c : Course) (holds : List Hold) (ls : List lefts.Left) → AddsLefts m h os came c holds 0 ls ls
adds-none m h os came c holds ls = record { before = λ i l at. at; each = λ i l at. inl at; every = λ j hold at lt left. absurd (omega (arith, lt)) }

pub adds-more : (m : Modes) (h : List Entry) (os : List Operation) (came : List ℕ) (c : Course) (holds : List Hold) (k : ℕ) (hold : Hold) (b : Bool) (old mid : List lefts.Left) → slice_get holds k ≡ Some hold
    → Decides b (IsHeldAt m h (c.ending.end + 1) hold.file) → AddsLefts m h os came c holds k old mid → AddsLefts m h os came c holds (k + 1) old (mid ++ left_unless b (left_of os came c hold))
adds-more m h os came c holds k hold true old mid at d so-far = subst (λ (l : List lefts.Left). AddsLefts m h os came c holds (k + 1) old l) (sym (append-nil mid)) (record {
  before = so-far.before;
  each = λ i l there. elim (so-far.each i l there) [
    | inl was ↦ inl was
    | inr from ↦ let low = from.2 in inr (from.0, from.1, omega (arith, low), from.3, from.4, from.5)
  ];
  every = λ j x there lt left. elim (cases_lt j k) [
    | inl before ↦ so-far.every j x there before left
    | inr le ↦ absurd (subst (λ (z : Hold). IsLeftHold m h c z) (sym (get-same holds k hold x at (subst (λ (z : ℕ). slice_get holds z ≡ Some x) (let e : j ≡ k = omega (arith, le, lt) in e) there))) left (d.0 refl))
  ];
})
adds-more m h os came c holds k hold false old mid at d so-far =
    let new = left_of os came c hold in
    record {
      before = λ i l was. get-grow mid (left_of os came c hold) i l (so-far.before i l was);
      each = λ i l there. elim (get-last mid (left_of os came c hold) i l there) [
        | inl was ↦ elim (so-far.each i l was) [
          | inl older ↦ inl older
          | inr from ↦ let low = from.2 in inr (from.0, from.1, omega (arith, low), from.3, from.4, from.5)
        ]
        | inr e ↦ inr (k, hold, omega arith, at, sym e, λ held. true≢false (sym (d.1 held)))
      ];
      every = λ j x there lt left. elim (cases_lt j k) [
        | inl before ↦ kept-last mid (mid ++ left_of os came c hold ∷ []) (left_of os came c x) (λ i l was. get-grow mid (left_of os came c hold) i l was) (so-far.every j x there before left)
        | inr le ↦ subst (λ (z : Hold). ListsLast (mid ++ left_of os came c hold ∷ []) (left_of os came c z)) (get-same holds k hold x at (subst (λ (z : ℕ). slice_get holds z ≡ Some x) (let e : j ≡ k = omega (arith, le, lt) in e) there))
            (length mid, get-new mid (left_of os came c hold))
      ];
    }

-- ---- all of them

pub lefts-all : (m : Modes) (origin : Origin) (h : List Entry) (os : List Operation) (came : List ℕ) (ls : List lefts.Left) → HasOperations m origin h os → HasCame h (length h) came → LeftsUpTo m h os came (length os) ls → HasLeft m h ls
lefts-all m origin h os came ls has has_came all = record {
  each = λ k l at. let by = all.each k l at in subst (λ (z : lefts.Left). IsLeft m h z) (sym by.is) (left-told m origin h os came has has_came by.o (has.each by.j by.o by.there) by.close_is by.i by.hold by.held by.left);
  every = λ k f left.
      let by = left-shown m origin h os has k f left in
      let it = all.every by.j by.o by.there (slice_get_within os by.j by.o by.there) by.close_is by.i by.hold by.held by.left in
      (it.0, left_of os came by.o.course by.hold, it.1, by.end_is, by.file_is);
}
