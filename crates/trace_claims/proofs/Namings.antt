-- The file of an open or put that succeeded, by the calls of the last records that came before its answer.
use Rattle.std.proofs.Common.{◌≡◌, ◌<◌, ◌≤◌, ◌+◌, inl, inr, ℕ, true, false, true≢false, List, [], ◌∷◌, ◌++◌, length, Option, Some, None, Result, Ok, Err, slice_get, refl, sym, ◌∙◌, ap, subst, arith}
use Rattle.std.specs.Prelude.{IfOk}
use Rattle.xdr_codec.specs.declared.blob.Memory.{Memory}
use Rattle.std.proofs.lemmas.Bool.{cases_lt}
use Rattle.std.proofs.lemmas.Option.{slice_get_within}
use Rattle.nfs_types.specs.declared.mode.Mode.{Mode}
use Rattle.world_model.specs.declared.answer.Answer.{Answer}
use Rattle.world_model.specs.declared.answer.Answer.TheVariants.{Done, Refused}
use Rattle.world_model.specs.declared.answer.Value.{Value}
use Rattle.world_model.specs.declared.entry.Entry.{Entry}
use Rattle.world_model.specs.declared.entry.Entry.TheVariants.{Began, Answered}
use Rattle.world_model.specs.declared.op.Op.{Op}
use Rattle.world_model.specs.declared.op.Op.TheVariants as ops
use Rattle.world_model.specs.Operations.{Ended}
use Rattle.world_model.proofs.Places.{At-below}
use Rattle.claims.specs.Modes.{Modes}
use Rattle.claims.specs.Slots.{Finds}
use Rattle.trace_answers.specs.Filing as answers
use Rattle.trace_claims.specs.declared.courses.Course.{Course}
use Rattle.trace_claims.specs.declared.courses.Work.{Work}
use Rattle.trace_claims.specs.declared.courses.Work.TheVariants as works
use Rattle.trace_claims.specs.declared.endings.Outcome.{Outcome}
use Rattle.trace_claims.specs.declared.endings.Outcome.TheVariants as outcomes
use Rattle.trace_claims.specs.declared.slots.Named.{Named}
use Rattle.trace_claims.specs.Courses.{IsCourse, HasCourses, work_of, is_open, is_put, succeeds}
use Rattle.trace_claims.specs.Endings.{EndsSo, answered, unanswered, outcome_of}
use Rattle.trace_claims.specs.Operations.{IsFileOf, opened, put, FindsFile}
use Rattle.trace_claims.specs.Slotted.{IsNamed, IsNamedOf, HasNamed}
use Rattle.trace_claims.proofs.Listing.{get-last, get-grow, get-new}
use Rattle.trace_claims.proofs.Telling.{course-op, course-lane, course-work, ends-says, put-op}

-- what holds of each value that a reading gives
pub if-ok : {A : Type 0} (r : Result A Memory) (P Q : A → Type 0) → ((a : A) → P a → Q a) → IfOk r P → IfOk r Q
if-ok (Ok a) P Q each p = each a p
if-ok (Err fault) P Q each p = tt

-- ---- how it ended

pub end-within : (h : List Entry) (c : Course) → IsCourse h c → c.ending.end ≤ length h
end-within h c is = by is.ends
  where
    by : EndsSo h c.place c.ending → c.ending.end ≤ length h
    by (answered lane op answer ended says) = let it = At-below h c.ending.end (Answered lane ended.line answer) ended.answered in omega (arith, it)
    by (unanswered none at says) = omega (arith, at)

not-done : (fault : Answer) → outcome_of fault ≡ outcomes.Done → (value : Value) × (fault ≡ Done value)
not-done (Done value) e = (value, refl)
not-done (Refused fault) e = let t : false ≡ true = ap succeeds e in absurd (true≢false (sym t))

pub done-here : (h : List Entry) (c : Course) (is : IsCourse h c) → c.ending.outcome ≡ outcomes.Done → (value : Value) × Ended h c.lane c.place is.op c.ending.end (Done value)
done-here h c is done = by is.ends
  where
    by : EndsSo h c.place c.ending → (value : Value) × Ended h c.lane c.place is.op c.ending.end (Done value)
    by (answered lane op answer ended says) =
        let it = not-done answer (sym says ∙ done) in
        (it.0, rw (course-lane h c is lane ended.line op ended.began, course-op h c is lane ended.line op ended.began) (subst (λ (a : Answer). Ended h lane c.place op c.ending.end a) it.1 ended))
    by (unanswered none at says) = let t : succeeds outcomes.Unanswered ≡ true = ap succeeds (sym says ∙ done) in absurd (true≢false (sym t))

file-done : (m : Modes) (h : List Entry) (c : Course) → IsCourse h c → (f : List ℕ) → IsFileOf m h c f → c.ending.outcome ≡ outcomes.Done
file-done m h c is f (opened lane slot opens) = (ends-says h c is lane (ops.OpenFile slot opens.mode opens.path) c.ending.end (Done opens.value) opens.ended).1
file-done m h c is f (put offset bytes puts) = (ends-says h c is puts.lane (ops.Put puts.path offset bytes) c.ending.end (Done puts.value) puts.ended).1

pub finds-undone : (m : Modes) (h : List Entry) (c : Course) → IsCourse h c → succeeds c.ending.outcome ≡ false → FindsFile m h c None
finds-undone m h c is other f file = true≢false (sym (ap succeeds (file-done m h c is f file)) ∙ other)

pub not-done-fails : (o : Outcome) → (o ≡ outcomes.Done → ⊥) → succeeds o ≡ false
not-done-fails outcomes.Done none = absurd (none refl)
not-done-fails outcomes.Refused none = refl
not-done-fails outcomes.Unanswered none = refl

-- ---- opens

open-op : (op : Op) (slot : ℕ) → work_of op ≡ works.Open slot → (mode : Mode) × (path : List (List ℕ)) × (op ≡ ops.OpenFile slot mode path)
open-op (ops.OpenFile its mode path) slot e = (mode, path, ap (λ z. ops.OpenFile z mode path) (slots its slot e))
  where
    slots : (a b : ℕ) → works.Open a ≡ works.Open b → a ≡ b
    slots a b e = cc
open-op (ops.Put path offset bytes) slot e = absurd cc
open-op (ops.Read its offset count) slot e = absurd cc
open-op (ops.Write its offset bytes) slot e = absurd cc
open-op (ops.Fill its offset count byte) slot e = absurd cc
open-op (ops.Sync its) slot e = absurd cc
open-op (ops.Close its) slot e = absurd cc
open-op (ops.Truncate its size) slot e = absurd cc
open-op (ops.Stat path) slot e = absurd cc
open-op (ops.Access path bits) slot e = absurd cc
open-op (ops.MakeDir path) slot e = absurd cc
open-op (ops.RemoveDir path) slot e = absurd cc
open-op (ops.Remove path) slot e = absurd cc
open-op (ops.Rename from to) slot e = absurd cc
open-op (ops.Link from to) slot e = absurd cc
open-op (ops.SymLink path target) slot e = absurd cc
open-op (ops.ReadLink path) slot e = absurd cc
open-op (ops.List path) slot e = absurd cc

finds-of : (m : Modes) (h : List Entry) (c : Course) → IsCourse h c → is_open c.work ≡ true → (f : List ℕ) → IsFileOf m h c f → Finds m h c.ending.end f
finds-of m h c is t f (opened lane slot opens) = opens.finds
finds-of m h c is t f (put offset bytes puts) =
    absurd (true≢false (sym t ∙ ap is_open (course-work h c is puts.lane puts.ended.line (ops.Put puts.path offset bytes) puts.ended.began)))

pub finds-open : (m : Modes) (h : List Entry) (c : Course) (is : IsCourse h c) → c.ending.outcome ≡ outcomes.Done → (slot : ℕ) → c.work ≡ works.Open slot → (found : Option (List ℕ)) → answers.FindsFile m h c.ending.end found → FindsFile m h c found
finds-open m h c is done slot work None none = λ f file. none f (finds-of m h c is (ap is_open work) f file)
finds-open m h c is done slot work (Some f) found =
    let op = open-op is.op slot (sym is.does ∙ work) in
    let ended = done-here h c is done in
    record {
      is = opened c.lane slot (record { mode = op.0; path = op.1; value = ended.0; ended = subst (λ (o : Op). Ended h c.lane c.place o c.ending.end (Done ended.0)) op.2 ended.1; finds = found.finds });
      only = λ g file. found.only g (finds-of m h c is (ap is_open work) g file);
    }

-- ---- puts

names-of : (m : Modes) (h : List Entry) (c : Course) → IsCourse h c → is_put c.work ≡ true → (f : List ℕ) → IsFileOf m h c f → answers.Names h c.ending.end f
names-of m h c is t f (put offset bytes puts) = record { call = puts.call; names = puts.names; asked = puts.asked }
names-of m h c is t f (opened lane slot opens) =
    absurd (true≢false (sym t ∙ ap is_put (course-work h c is lane opens.ended.line (ops.OpenFile slot opens.mode opens.path) opens.ended.began)))

pub finds-put : (m : Modes) (h : List Entry) (c : Course) (is : IsCourse h c) → c.ending.outcome ≡ outcomes.Done → is_put c.work ≡ true → (found : Option (List ℕ)) → answers.NamesAFile h c.ending.end found → FindsFile m h c found
finds-put m h c is done work None none = λ f file. none f (names-of m h c is work f file)
finds-put m h c is done work (Some f) found =
    let op = put-op is.op (sym (ap is_put is.does) ∙ work) in
    let ended = done-here h c is done in
    record {
      is = put op.1 op.2 (record {
        lane = c.lane;
        path = op.0;
        value = ended.0;
        call = found.is.call;
        ended = subst (λ (o : Op). Ended h c.lane c.place o c.ending.end (Done ended.0)) op.3 ended.1;
        names = found.is.names;
        asked = found.is.asked;
      });
      only = λ g file. found.only g (names-of m h c is work g file);
    }

-- ---- other operations

pub finds-other : (m : Modes) (h : List Entry) (c : Course) → IsCourse h c → is_open c.work ≡ false → is_put c.work ≡ false → FindsFile m h c None
finds-other m h c is no_open no_put f (opened lane slot opens) =
    true≢false (sym (ap is_open (course-work h c is lane opens.ended.line (ops.OpenFile slot opens.mode opens.path) opens.ended.began)) ∙ no_open)
finds-other m h c is no_open no_put f (put offset bytes puts) =
    true≢false (sym (ap is_put (course-work h c is puts.lane puts.ended.line (ops.Put puts.path offset bytes) puts.ended.began)) ∙ no_put)

pub opened-ok : (m : Modes) (h : List Entry) (c : Course) (is : IsCourse h c) → c.ending.outcome ≡ outcomes.Done → (slot : ℕ) → c.work ≡ works.Open slot → (r : Result (Option (List ℕ)) Memory) → IfOk r (answers.FindsFile m h c.ending.end) → IfOk r (FindsFile m h c)
opened-ok m h c is done slot work r p = if-ok r (answers.FindsFile m h c.ending.end) (FindsFile m h c) (λ found f. finds-open m h c is done slot work found f) p

pub put-ok : (m : Modes) (h : List Entry) (c : Course) (is : IsCourse h c) → c.ending.outcome ≡ outcomes.Done → (offset count : ℕ) → c.work ≡ works.Put offset count → (r : Result (Option (List ℕ)) Memory) → IfOk r (answers.NamesAFile h c.ending.end) → IfOk r (FindsFile m h c)
put-ok m h c is done offset count work r p = if-ok r (answers.NamesAFile h c.ending.end) (FindsFile m h c) (λ found f. finds-put m h c is done (ap is_put work) found f) p

pub other-none : (m : Modes) (h : List Entry) (c : Course) → IsCourse h c → ((slot : ℕ) → c.work ≡ works.Open slot → ⊥) → ((offset count : ℕ) → c.work ≡ works.Put offset count → ⊥) → FindsFile m h c None
other-none m h c is no_open no_put = finds-other m h c is (by c.work no_open) (by-put c.work no_put)
  where
    by : (w : Work) → ((slot : ℕ) → w ≡ works.Open slot → ⊥) → is_open w ≡ false
    by (works.Open slot) none = absurd (none slot refl)
    by (works.Read slot offset count) none = refl
    by (works.Write slot offset count) none = refl
    by (works.Put offset count) none = refl
    by (works.Sync slot) none = refl
    by (works.Close slot) none = refl
    by (works.Truncate slot size) none = refl
    by works.Other none = refl

    by-put : (w : Work) → ((offset count : ℕ) → w ≡ works.Put offset count → ⊥) → is_put w ≡ false
    by-put (works.Put offset count) none = absurd (none offset count refl)
    by-put (works.Open slot) none = refl
    by-put (works.Read slot offset count) none = refl
    by-put (works.Write slot offset count) none = refl
    by-put (works.Sync slot) none = refl
    by-put (works.Close slot) none = refl
    by-put (works.Truncate slot size) none = refl
    by-put works.Other none = refl

-- ---- all of them

-- the list has the first k operations with their files
pub record NamedUpTo (m : Modes) (h : List Entry) (cs : List Course) (k : ℕ) (ns : List Named) : Type 0 where
  pub each : (j : ℕ) (n : Named) → slice_get ns j ≡ Some n → IsNamed m h n
  pub every : (j : ℕ) (c : Course) → slice_get cs j ≡ Some c → j < k → (i : ℕ) × (n : Named) × (slice_get ns i ≡ Some n) × (n.course ≡ c)

pub named-none : (m : Modes) (h : List Entry) (cs : List Course) → NamedUpTo m h cs 0 []
named-none m h cs = record { each = λ j n at. absurd cc; every = λ j c at lt. absurd (omega (arith, lt)) }

some-course : (a b : Course) → Some a ≡ Some b → a ≡ b
some-course a b e = cc

-- what a place past the list's end would show
abbrev pub no-course : Course
no-course = record { place = 0; lane = 0; ending = record { end = 0; outcome = outcomes.Unanswered }; work = works.Open 0 }

pub named-more : (m : Modes) (h : List Entry) (cs : List Course) (k : ℕ) (c : Course) (n : Named) (ns : List Named) → slice_get cs k ≡ Some c → IsCourse h c → IsNamedOf m h c n → NamedUpTo m h cs k ns → NamedUpTo m h cs (k + 1) (ns ++ n ∷ [])
named-more m h cs k c n ns at is of so-far = record {
  each = λ j x there. elim (get-last ns n j x there) [
    | inl old ↦ so-far.each j x old
    | inr e ↦ subst (λ (z : Named). IsNamed m h z) e (record { course = subst (λ (z : Course). IsCourse h z) (sym of.course_is) is; file = subst (λ (z : Course). FindsFile m h z n.file) (sym of.course_is) of.file })
  ];
  every = λ j x there lt. elim (cases_lt j k) [
    | inl before ↦ let old = so-far.every j x there before in (old.0, old.1, get-grow ns n old.0 old.1 old.2, old.3)
    | inr le ↦
        (length ns, n, get-new ns n, of.course_is ∙ some-course c x (sym at ∙ subst (λ (z : ℕ). slice_get cs z ≡ Some x) (let same : j ≡ k = omega (arith, le, lt) in same) there))
  ];
}

pub named-all : (m : Modes) (h : List Entry) (cs : List Course) (ns : List Named) → HasCourses h (length h) cs → NamedUpTo m h cs (length cs) ns → HasNamed m h ns
named-all m h cs ns has all = record {
  each = all.each;
  every = λ x lane line op at.
      let c = has.every x lane line op at (At-below h x (Began lane line op) at) in
      let n = all.every c.0 c.1 c.2 (slice_get_within cs c.0 c.1 c.2) in
      (n.0, n.1, n.2, ap (λ (z : Course). z.place) n.3 ∙ c.3);
}
