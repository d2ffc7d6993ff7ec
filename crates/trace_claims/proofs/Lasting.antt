-- What is held at a moment is held at the next, if no update names the file; and so from the least place on.
use Rattle.std.proofs.Common.{◌≡◌, ◌<◌, ◌≤◌, ◌+◌, ◌⊎◌, inl, inr, ℕ, Bool, true, false, true≢false, List, length, Option, Some, None, slice_get, refl, sym, ◌∙◌, ap, subst, arith, add-one}
use Rattle.std.specs.Prelude.{◌==◌, ◌&&◌, not, nat_lt, Decides}
use Rattle.std.proofs.lemmas.Bool.{cases_lt, and_parts, or_cases, or_left, or_right, or_parts, not-true, eqb-false, ltb-true, lt-ltb}
use Rattle.std.proofs.lemmas.Option.{slice_get_within}
use Rattle.std.proofs.lemmas.Slice.Eq.{bytes_eq-Decides}
use Rattle.trace_data.specs.declared.trace.Trace.{Trace}
use Rattle.trace_data.specs.declared.trace.Object.{Object}
use Rattle.trace_data.specs.Histories.{object_at, objects_after, named, or_else}
use Rattle.trace_claims.specs.declared.courses.Course.{Course}
use Rattle.trace_claims.specs.declared.digest.Digest.{Digest}
use Rattle.trace_claims.specs.declared.operations.Hold.{Hold}
use Rattle.trace_claims.specs.declared.operations.Operation.{Operation}
use Rattle.trace_claims.specs.Bytes.{shows}
use Rattle.trace_claims.specs.declared.courses.Work.{Work}
use Rattle.trace_claims.specs.declared.courses.Work.TheVariants as works
use Rattle.trace_claims.specs.Courses.{range, is_done}
use Rattle.trace_claims.specs.Keeping.{is_touched, is_kept}
use Rattle.trace_claims.specs.Objects.{object_of_trace, now_in, stable_in, gone_in, now_at, stable_at, is_gone_at, is_there, is_named_at}
use Rattle.trace_claims.specs.Operations.{holds_file, is_of, named_is, if_writer, wrote_to}
use Rattle.trace_claims.specs.Settling.{NoneSettles, SettlesThere, itself, by, SettlesFirst}
use Rattle.trace_claims.specs.Staying.{question_at, held_in, held_by_range, is_held, holds_next, StaysFrom, StaysSo, StayNamed, StayHeld, StaysEverywhere, AllStay, holds_last, LastSo, LastNamed, LastHeld, LastEverywhere, AllLast}
use Rattle.trace_claims.proofs.Listing.{get-same}
use Rattle.trace_claims.proofs.Moving.{touched-later}
use Rattle.trace_claims.proofs.Owning.{any-found}
use Rattle.trace_claims.proofs.Placing.{places-told, places-shown}

-- ---- from one moment to the next

same-by : (here : Option Object) (was : Option Object) → is_there here ≡ false → or_else here was ≡ was
same-by None was none = refl
same-by (Some o) was none = absurd (true≢false none)

-- an entry whose update doesn't name the file leaves it as it was
pub unnamed-same : (t : Trace) (p : ℕ) (f : List ℕ) → is_named_at t p f ≡ false → object_of_trace t (p + 1) f ≡ object_of_trace t p f
unfolding is_named_at
unnamed-same t p f none =
    subst (λ (z : ℕ). object_of_trace t z f ≡ object_of_trace t p f) (sym (add-one p))
    (same-by (named (objects_after t.updates.items p) f) (object_at t.start.objects.items t.updates.items p f) none)

kept-same : (t : Trace) (d : Digest) (n : ℕ) (w : Course) (p : ℕ) (f : List ℕ) (i : ℕ) → object_of_trace t (p + 1) f ≡ object_of_trace t p f
    → is_kept t.entries.items d w (question_at t n p f) (now_at t p f) (stable_at t p f) 0 i ≡ true
    → is_kept t.entries.items d w (question_at t n (p + 1) f) (now_at t (p + 1) f) (stable_at t (p + 1) f) 0 i ≡ true
unfolding now_at stable_at is_gone_at
kept-same t d n w p f i same k =
    subst (λ (o : Option Object). is_kept t.entries.items d w (record { length = n; moment = p + 1; file = f; gone = gone_in o }) (now_in o) (stable_in o) 0 i ≡ true) (sym same)
    (elim (or_cases (shows t.entries.items w.place (now_in (object_of_trace t p f)) (stable_in (object_of_trace t p f)) 0 i) (is_touched d w (record { length = n; moment = p; file = f; gone = gone_in (object_of_trace t p f) }) i) k) [
      | inl shown ↦
          or_left (shows t.entries.items w.place (now_in (object_of_trace t p f)) (stable_in (object_of_trace t p f)) 0 i)
          (is_touched d w (record { length = n; moment = p + 1; file = f; gone = gone_in (object_of_trace t p f) }) i) shown
      | inr touched ↦
          or_right (shows t.entries.items w.place (now_in (object_of_trace t p f)) (stable_in (object_of_trace t p f)) 0 i)
          (is_touched d w (record { length = n; moment = p + 1; file = f; gone = gone_in (object_of_trace t p f) }) i)
          (touched-later d w n p (p + 1) f (gone_in (object_of_trace t p f)) i (omega arith) touched)
    ])

in-later : (t : Trace) (d : Digest) (n : ℕ) (w : Course) (p : ℕ) (f : List ℕ) (from to : ℕ) → object_of_trace t (p + 1) f ≡ object_of_trace t p f
    → held_in t d n w p f from to ≡ true → held_in t d n w (p + 1) f from to ≡ true
unfolding held_in
in-later t d n w p f from to same held =
    places-shown (is_kept t.entries.items d w (question_at t n (p + 1) f) (now_at t (p + 1) f) (stable_at t (p + 1) f) 0) from to
    (λ i low high. kept-same t d n w p f i same (places-told (is_kept t.entries.items d w (question_at t n p f) (now_at t p f) (stable_at t p f) 0) from to held i low high))

range-later : (t : Trace) (d : Digest) (n : ℕ) (w : Course) (p : ℕ) (f : List ℕ) (r : Option (ℕ × ℕ)) → object_of_trace t (p + 1) f ≡ object_of_trace t p f
    → held_by_range t d n w p f r ≡ true → held_by_range t d n w (p + 1) f r ≡ true
range-later t d n w p f None same held = refl
range-later t d n w p f (Some r) same held = in-later t d n w p f r.0 r.1 same held

pub held-later : (t : Trace) (d : Digest) (n : ℕ) (w : Course) (p : ℕ) (f : List ℕ) → is_named_at t p f ≡ false → is_held t d n w p f ≡ true → is_held t d n w (p + 1) f ≡ true
unfolding is_held
held-later t d n w p f none held = range-later t d n w p f (range w.work) (unnamed-same t p f none) held

-- ---- from the least place on

pub stays-none : (t : Trace) (d : Digest) (n : ℕ) (w : Course) (f : List ℕ) (settled : ℕ) → StaysFrom t d n w f settled settled
stays-none t d n w f settled p low high = absurd (omega (arith, low, high))

next-held : (t : Trace) (d : Digest) (n : ℕ) (w : Course) (f : List ℕ) (settled place : ℕ) → settled ≤ place → StaysFrom t d n w f settled place → holds_next t d n w f settled place ≡ true → is_held t d n w (place + 1) f ≡ true
next-held t d n w f settled place le so-far next = elim (or_cases (not (place == settled) && not (is_named_at t place f)) (is_held t d n w (place + 1) f) next) [
  | inl quiet ↦
      let two = and_parts (not (place == settled)) (not (is_named_at t place f)) quiet in
      let other = eqb-false place settled (not-true (place == settled) two.0) in
      held-later t d n w place f (not-true (is_named_at t place f) two.1) (so-far place (later other) (omega arith))
  | inr held ↦ held
]
  where
    later : (place ≡ settled → ⊥) → settled < place
    later other = elim (cases_lt settled place) [
      | inl less ↦ less
      | inr above ↦ absurd (other (let is : place ≡ settled = omega (arith, le, above) in is))
    ]

-- at one moment more
pub stays-more : (t : Trace) (d : Digest) (n : ℕ) (w : Course) (f : List ℕ) (settled place : ℕ) → settled ≤ place → StaysFrom t d n w f settled place → holds_next t d n w f settled place ≡ true
    → StaysFrom t d n w f settled (place + 1)
stays-more t d n w f settled place le so-far next p low high = elim (cases_lt place p) [
  | inl last ↦ subst (λ (z : ℕ). is_held t d n w z f ≡ true) (let is : place + 1 ≡ p = omega (arith, last, high) in is) (next-held t d n w f settled place le so-far next)
  | inr before ↦ so-far p low before
]

-- or not
pub stays-fails : (t : Trace) (d : Digest) (n : ℕ) (w : Course) (f : List ℕ) (settled place to : ℕ) → settled ≤ place → place < to → holds_next t d n w f settled place ≡ false → StaysFrom t d n w f settled to → ⊥
stays-fails t d n w f settled place to le lt fails stays =
    true≢false (sym (stays (place + 1) (omega (arith, le)) (omega (arith, lt))) ∙ (or_parts (not (place == settled) && not (is_named_at t place f)) (is_held t d n w (place + 1) f) fails).1)

pub stays-past : (t : Trace) (d : Digest) (n : ℕ) (w : Course) (f : List ℕ) (settled place to : ℕ) → to ≤ place → StaysFrom t d n w f settled place → StaysFrom t d n w f settled to
stays-past t d n w f settled place to le stays p low high = stays p low (omega (arith, le, high))

-- ---- the least place is one

there-least : (os : List Operation) (n : ℕ) (w : Course) (f : List ℕ) (k a b : ℕ) → SettlesFirst os n w f k a → SettlesThere os n w f k b → a ≤ b
there-least os n w f k a b first (itself put end) = let le : a ≤ w.ending.end = first.own put in omega (arith, le, end)
there-least os n w f k a b first (by j o is lt passes end) = let le : a ≤ o.course.ending.end = first.least j o is lt passes in omega (arith, le, end)

pub first-one : (os : List Operation) (n : ℕ) (w : Course) (f : List ℕ) (k a b : ℕ) → SettlesFirst os n w f k a → SettlesFirst os n w f k b → a ≡ b
first-one os n w f k a b x y = let low = there-least os n w f k a b x y.there in let high = there-least os n w f k b a y x.there in omega (arith, low, high)

none-there : (os : List Operation) (n : ℕ) (w : Course) (f : List ℕ) (k b : ℕ) → NoneSettles os n w f k → SettlesThere os n w f k b → ⊥
none-there os n w f k b none (itself put end) = true≢false (sym put ∙ none.no_put)
none-there os n w f k b none (by j o is lt passes end) = true≢false (sym passes ∙ none.none j o is lt)

-- what was settled somewhere stays so, exactly where it stays from there
pub so-from : (t : Trace) (d : Digest) (n : ℕ) (o : Operation) (f : List ℕ) (b : Bool) (at : ℕ) → wrote_to o n f ≡ true → SettlesFirst d.operations.items n o.course f (length d.operations.items) at
    → Decides b (StaysFrom t d n o.course f at n) → Decides b (StaysSo t d n o f)
so-from t d n o f b at wrote first decided = (
  λ yes-is w other known. subst (λ (z : ℕ). StaysFrom t d n o.course f z n) (first-one d.operations.items n o.course f (length d.operations.items) at other first known) (decided.0 yes-is),
  λ so. decided.1 (so wrote at first),
)

pub so-nowhere : (t : Trace) (d : Digest) (n : ℕ) (o : Operation) (f : List ℕ) → NoneSettles d.operations.items n o.course f (length d.operations.items) → Decides true (StaysSo t d n o f)
so-nowhere t d n o f none = (λ yes-is w first known. absurd (none-there d.operations.items n o.course f (length d.operations.items) first none known.there), λ so. refl)

pub so-unwritten : (t : Trace) (d : Digest) (n : ℕ) (o : Operation) (f : List ℕ) → wrote_to o n f ≡ false → Decides true (StaysSo t d n o f)
so-unwritten t d n o f none = (λ yes-is w. absurd (true≢false (sym w ∙ none)), λ so. refl)

-- the same of the last moment of a beginning
pub last-from : (t : Trace) (d : Digest) (n : ℕ) (o : Operation) (f : List ℕ) (b : Bool) (at : ℕ) → wrote_to o (n + 1) f ≡ true → SettlesFirst d.operations.items (n + 1) o.course f (length d.operations.items) at
    → b ≡ holds_last t d o.course f at n → Decides b (LastSo t d n o f)
last-from t d n o f b at wrote first same = (
  λ x w other known le.
      let is = first-one d.operations.items (n + 1) o.course f (length d.operations.items) at other first known in
      subst (λ (z : ℕ). holds_next t d (n + 1) o.course f z n ≡ true) is
      (elim (or_cases (nat_lt n at) (holds_next t d (n + 1) o.course f at n) (sym same ∙ x)) [
        | inl beyond ↦ let lt : n < at = ltb-true n at beyond in absurd (omega (arith, lt, is, le))
        | inr holds ↦ holds
      ]),
  λ so. same ∙ elim (cases_lt n at) [
    | inl beyond ↦ or_left (nat_lt n at) (holds_next t d (n + 1) o.course f at n) (lt-ltb n at beyond)
    | inr le ↦ or_right (nat_lt n at) (holds_next t d (n + 1) o.course f at n) (so wrote at first le)
  ],
)

pub last-nowhere : (t : Trace) (d : Digest) (n : ℕ) (o : Operation) (f : List ℕ) → NoneSettles d.operations.items (n + 1) o.course f (length d.operations.items) → Decides true (LastSo t d n o f)
last-nowhere t d n o f none = (λ yes-is w first known le. absurd (none-there d.operations.items (n + 1) o.course f (length d.operations.items) first none known.there), λ so. refl)

pub last-unwritten : (t : Trace) (d : Digest) (n : ℕ) (o : Operation) (f : List ℕ) → wrote_to o (n + 1) f ≡ false → Decides true (LastSo t d n o f)
last-unwritten t d n o f none = (λ yes-is w. absurd (true≢false (sym w ∙ none)), λ so. refl)

pub lastheld-none : (t : Trace) (d : Digest) (n : ℕ) (o : Operation) (holds : List Hold) → LastHeld t d n o holds 0
lastheld-none t d n o holds j hold is lt = absurd (omega (arith, lt))

pub lastheld-more : (t : Trace) (d : Digest) (n : ℕ) (o : Operation) (holds : List Hold) (k : ℕ) (h : Hold) → slice_get holds k ≡ Some h → LastHeld t d n o holds k → LastSo t d n o h.file → LastHeld t d n o holds (k + 1)
lastheld-more t d n o holds k h at so-far new j hold is lt = elim (cases_lt j k) [
  | inl less ↦ so-far j hold is less
  | inr above ↦ subst (λ (z : Hold). LastSo t d n o z.file) (get-same holds k h hold at (subst (λ (z : ℕ). slice_get holds z ≡ Some hold) (let same : j ≡ k = omega (arith, lt, above) in same) is)) new
]

pub lasts-none : (t : Trace) (d : Digest) (n : ℕ) (os : List Operation) → AllLast t d n os 0
lasts-none t d n os j o is lt = absurd (omega (arith, lt))

pub lasts-more : (t : Trace) (d : Digest) (n : ℕ) (os : List Operation) (k : ℕ) (x : Operation) → slice_get os k ≡ Some x → AllLast t d n os k → LastEverywhere t d n x → AllLast t d n os (k + 1)
lasts-more t d n os k x at so-far new j o is lt = elim (cases_lt j k) [
  | inl less ↦ so-far j o is less
  | inr above ↦ subst (λ (z : Operation). LastEverywhere t d n z) (get-same os k x o at (subst (λ (z : ℕ). slice_get os z ≡ Some o) (let same : j ≡ k = omega (arith, lt, above) in same) is)) new
]

-- in each file that an operation may have written

of-file : (o : Operation) (f : List ℕ) → is_of o f ≡ true → (k : ℕ) × (h : Hold) × (slice_get o.holds.items k ≡ Some h) × (h.file ≡ f)
of-file o f t = let it = any-found (holds_file f) o.holds.items t in (it.0, it.1, it.2, (bytes_eq-Decides it.1.file f).0 it.3)

name-file : (named : Option (List ℕ)) (f : List ℕ) → named_is f named ≡ true → named ≡ Some f
name-file None f t = absurd (true≢false (sym t))
name-file (Some g) f t = ap (λ z. Some z) ((bytes_eq-Decides g f).0 t)

writer-of : (w : Work) (a b : Bool) → if_writer w a b ≡ true → (a ≡ true) ⊎ (b ≡ true)
writer-of (works.Write slot offset count) a b t = inl t
writer-of (works.Put offset count) a b t = inr t
writer-of (works.Open slot) a b t = absurd cc
writer-of (works.Read slot offset count) a b t = absurd cc
writer-of (works.Sync slot) a b t = absurd cc
writer-of (works.Close slot) a b t = absurd cc
writer-of (works.Truncate slot size) a b t = absurd cc
writer-of works.Other a b t = absurd cc

-- a fact of each file that is named or held is one of each that was written
pub each-file : (P : List ℕ → Type 0) (o : Operation) (n : ℕ) → ((f : List ℕ) → o.named ≡ Some f → wrote_to o n f ≡ true → P f) → ((j : ℕ) (h : Hold) → slice_get o.holds.items j ≡ Some h → wrote_to o n h.file ≡ true → P h.file)
    → (f : List ℕ) → wrote_to o n f ≡ true → P f
each-file P o n named held f t = elim (writer-of o.course.work (is_of o f) (named_is f o.named) (and_parts (is_done o.course n) (if_writer o.course.work (is_of o f) (named_is f o.named)) t).1) [
  | inl of_it ↦ let h = of-file o f of_it in subst P h.3 (held h.0 h.1 h.2 (subst (λ (z : List ℕ). wrote_to o n z ≡ true) (sym h.3) t))
  | inr named_it ↦ named f (name-file o.named f named_it) t
]

pub everywhere-both : (t : Trace) (d : Digest) (n : ℕ) (o : Operation) → StayNamed t d n o o.named → StayHeld t d n o o.holds.items (length o.holds.items) → StaysEverywhere t d n o
everywhere-both t d n o named held f wrote =
    each-file (λ (f : List ℕ). (first : ℕ) → SettlesFirst d.operations.items n o.course f (length d.operations.items) first → StaysFrom t d n o.course f first n) o n
    (λ f is w. named f is w) (λ j h at w. held j h at (slice_get_within o.holds.items j h at) w) f wrote

pub last-both : (t : Trace) (d : Digest) (n : ℕ) (o : Operation) → LastNamed t d n o o.named → LastHeld t d n o o.holds.items (length o.holds.items) → LastEverywhere t d n o
last-both t d n o named held f wrote =
    each-file (λ (f : List ℕ). (first : ℕ) → SettlesFirst d.operations.items (n + 1) o.course f (length d.operations.items) first → first ≤ n → holds_next t d (n + 1) o.course f first n ≡ true) o (n + 1)
    (λ f is w. named f is w) (λ j h at w. held j h at (slice_get_within o.holds.items j h at) w) f wrote

pub everywhere-decides-held : (t : Trace) (d : Digest) (n : ℕ) (o : Operation) (b : Bool) → StayNamed t d n o o.named → Decides b (StayHeld t d n o o.holds.items (length o.holds.items)) → Decides b (StaysEverywhere t d n o)
everywhere-decides-held t d n o b named held = (λ x. everywhere-both t d n o named (held.0 x), λ all. held.1 (λ j hold at lt. all hold.file))

pub everywhere-decides-named : (t : Trace) (d : Digest) (n : ℕ) (o : Operation) (b : Bool) → b ≡ false → Decides b (StayNamed t d n o o.named) → Decides b (StaysEverywhere t d n o)
everywhere-decides-named t d n o b f named = (λ x. absurd (true≢false (sym x ∙ f)), λ all. named.1 (λ g is. all g))

pub last-decides-held : (t : Trace) (d : Digest) (n : ℕ) (o : Operation) (b : Bool) → LastNamed t d n o o.named → Decides b (LastHeld t d n o o.holds.items (length o.holds.items)) → Decides b (LastEverywhere t d n o)
last-decides-held t d n o b named held = (λ x. last-both t d n o named (held.0 x), λ all. held.1 (λ j hold at lt. all hold.file))

pub last-decides-named : (t : Trace) (d : Digest) (n : ℕ) (o : Operation) (b : Bool) → b ≡ false → Decides b (LastNamed t d n o o.named) → Decides b (LastEverywhere t d n o)
last-decides-named t d n o b f named = (λ x. absurd (true≢false (sym x ∙ f)), λ all. named.1 (λ g is. all g))

some-file : (a b : List ℕ) → Some a ≡ Some b → a ≡ b
some-file a b e = cc

pub named-decides : (t : Trace) (d : Digest) (n : ℕ) (o : Operation) (named : Option (List ℕ)) (f : List ℕ) (b : Bool) → named ≡ Some f → Decides b (StaysSo t d n o f) → Decides b (StayNamed t d n o named)
named-decides t d n o named f b is decided = (λ x g its. subst (λ (z : List ℕ). StaysSo t d n o z) (some-file f g (sym is ∙ its)) (decided.0 x), λ all. decided.1 (all f is))

pub lastnamed-decides : (t : Trace) (d : Digest) (n : ℕ) (o : Operation) (named : Option (List ℕ)) (f : List ℕ) (b : Bool) → named ≡ Some f → Decides b (LastSo t d n o f) → Decides b (LastNamed t d n o named)
lastnamed-decides t d n o named f b is decided = (λ x g its. subst (λ (z : List ℕ). LastSo t d n o z) (some-file f g (sym is ∙ its)) (decided.0 x), λ all. decided.1 (all f is))

-- ---- files and operations, one after another

pub held-none : (t : Trace) (d : Digest) (n : ℕ) (o : Operation) (holds : List Hold) → StayHeld t d n o holds 0
held-none t d n o holds j hold is lt = absurd (omega (arith, lt))

some-hold : (a b : Hold) → Some a ≡ Some b → a ≡ b
some-hold a b e = cc

pub held-more : (t : Trace) (d : Digest) (n : ℕ) (o : Operation) (holds : List Hold) (k : ℕ) (h : Hold) → slice_get holds k ≡ Some h → StayHeld t d n o holds k → StaysSo t d n o h.file → StayHeld t d n o holds (k + 1)
held-more t d n o holds k h at so-far new j hold is lt = elim (cases_lt j k) [
  | inl less ↦ so-far j hold is less
  | inr above ↦ subst (λ (z : Hold). StaysSo t d n o z.file) (some-hold h hold (sym at ∙ subst (λ (z : ℕ). slice_get holds z ≡ Some hold) (let same : j ≡ k = omega (arith, lt, above) in same) is)) new
]

pub all-none : (t : Trace) (d : Digest) (n : ℕ) (os : List Operation) → AllStay t d n os 0
all-none t d n os j o is lt = absurd (omega (arith, lt))

some-operation : (a b : Operation) → Some a ≡ Some b → a ≡ b
some-operation a b e = cc

pub all-more : (t : Trace) (d : Digest) (n : ℕ) (os : List Operation) (k : ℕ) (x : Operation) → slice_get os k ≡ Some x → AllStay t d n os k → StaysEverywhere t d n x → AllStay t d n os (k + 1)
all-more t d n os k x at so-far new j o is lt = elim (cases_lt j k) [
  | inl less ↦ so-far j o is less
  | inr above ↦ subst (λ (z : Operation). StaysEverywhere t d n z) (some-operation x o (sym at ∙ subst (λ (z : ℕ). slice_get os z ≡ Some o) (let same : j ≡ k = omega (arith, lt, above) in same) is)) new
]
