-- What may have changed a place may have changed each further one up to where it reaches.
use Rattle.std.proofs.Common.{◌≡◌, ◌<◌, ◌≤◌, ◌+◌, inl, inr, ℕ, Bool, true, List, Option, Some, None, position, get_or, slice_get, length, refl, sym, ap, ◌∙◌, subst, arith}
use Rattle.std.specs.Prelude.{◌==◌, ◌&&◌, ◌||◌, not, nat_lt, nat_le, min}
use Rattle.std.specs.Str.{bytes_eq}
use Rattle.std.proofs.lemmas.Bool.{ltb-true, lt-ltb, leb-true, le-leb, and_parts, and_from, or_cases, or_left, or_right}
use Rattle.std.proofs.lemmas.List.Quantifiers.{position-Some}
use Rattle.std.proofs.lemmas.Option.{get_or_from_slice_get, slice_get_read}
use Rattle.world_model.specs.declared.entry.Entry.{Entry}
use Rattle.trace_claims.specs.declared.courses.Work.{Work}
use Rattle.trace_claims.specs.declared.courses.Work.TheVariants as works
use Rattle.trace_claims.specs.declared.courses.Course.{Course}
use Rattle.trace_claims.specs.declared.digest.Digest.{Digest}
use Rattle.trace_claims.specs.declared.keeping.Question.{Question}
use Rattle.trace_claims.specs.declared.operations.Operation.{Operation}
use Rattle.trace_claims.specs.declared.touched.Foreign as changed
use Rattle.trace_claims.specs.declared.touched.Reach.{Reach}
use Rattle.trace_claims.specs.declared.touched.Reach.TheVariants.{Range, Past}
use Rattle.trace_claims.specs.Bytes.{shows}
use Rattle.trace_claims.specs.Courses.{covers, range, is_write, is_refused, ended_before}
use Rattle.trace_claims.specs.Keeping.{is_touched, is_kept}
use Rattle.trace_claims.specs.Operations.{is_of, if_cut, cuts, writes_to, writes_or_cuts}
use Rattle.trace_claims.specs.Pieces.{IsPiece}
use Rattle.trace_claims.specs.Places.{HoldsUntil}
use Rattle.trace_claims.specs.Reaching.{range_end, reach_end}
use Rattle.trace_claims.specs.Touching.{changes, touches, is_foreign, rewrites, is_rewritten, is_given_up}
use Rattle.trace_claims.proofs.Moving.{touched-moves}
use Rattle.trace_claims.proofs.Owning.{any-there}

-- what stands at the place that was looked for is what was looked for
found-at : {X : Type 0} (p : X → Bool) (xs : List X) (k : ℕ) (x : X) → position p xs ≡ Some k → slice_get xs k ≡ Some x → p x ≡ true
found-at p xs k x found there = subst (λ y. p y ≡ true) (get_or_from_slice_get xs k x x there) (position-Some p xs k x found).1

found-within : {X : Type 0} (p : X → Bool) (xs : List X) (k : ℕ) (d : X) → position p xs ≡ Some k → k < length xs
found-within p xs k d found = (position-Some p xs k d found).0

-- ---- how far an operation reaches

end-within : (r : Option (ℕ × ℕ)) (most : ℕ) → range_end r most ≤ most
end-within None most = omega arith
end-within (Some r) most = omega arith

within-until : (offset count at i : ℕ) → (nat_le offset at && nat_lt at (offset + count)) ≡ true → at ≤ i → i < offset + count → (nat_le offset i && nat_lt i (offset + count)) ≡ true
within-until offset count at i t low high =
    let first : offset ≤ at = leb-true offset at (and_parts (nat_le offset at) (nat_lt at (offset + count)) t).0 in
    and_from (nat_le offset i) (nat_lt i (offset + count)) (le-leb offset i (omega (arith, first, low))) (lt-ltb i (offset + count) high)

covers-until : (w : Work) (at most i : ℕ) → covers w at ≡ true → at ≤ i → i < range_end (range w) most → covers w i ≡ true
covers-until (works.Write slot offset count) at most i t low high = within-until offset count at i t low (omega (arith, high))
covers-until (works.Put offset count) at most i t low high = within-until offset count at i t low (omega (arith, high))
covers-until (works.Truncate slot size) at most i t low high = absurd cc
covers-until (works.Open slot) at most i t low high = absurd cc
covers-until (works.Read slot offset count) at most i t low high = absurd cc
covers-until (works.Sync slot) at most i t low high = absurd cc
covers-until (works.Close slot) at most i t low high = absurd cc
covers-until works.Other at most i t low high = absurd cc

within-some : (offset count at most : ℕ) → (nat_le offset at && nat_lt at (offset + count)) ≡ true → at < most → at < min (offset + count) most
within-some offset count at most t lt =
    let last : at < offset + count = ltb-true at (offset + count) (and_parts (nat_le offset at) (nat_lt at (offset + count)) t).1 in omega (arith, last, lt)

covers-some : (w : Work) (at most : ℕ) → covers w at ≡ true → at < most → at < range_end (range w) most
covers-some (works.Write slot offset count) at most t lt = within-some offset count at most t lt
covers-some (works.Put offset count) at most t lt = within-some offset count at most t lt
covers-some (works.Truncate slot size) at most t lt = lt
covers-some (works.Open slot) at most t lt = lt
covers-some (works.Read slot offset count) at most t lt = lt
covers-some (works.Sync slot) at most t lt = lt
covers-some (works.Close slot) at most t lt = lt
covers-some works.Other at most t lt = lt

cut-until : (w : Work) (at i : ℕ) (x : Bool) → if_cut w at x ≡ true → at ≤ i → if_cut w i x ≡ true
cut-until (works.Truncate slot size) at i x t low =
    let two = and_parts (nat_le size at) x t in
    let first : size ≤ at = leb-true size at two.0 in
    and_from (nat_le size i) x (le-leb size i (omega (arith, first, low))) two.1
cut-until (works.Write slot offset count) at i x t low = absurd cc
cut-until (works.Put offset count) at i x t low = absurd cc
cut-until (works.Open slot) at i x t low = absurd cc
cut-until (works.Read slot offset count) at i x t low = absurd cc
cut-until (works.Sync slot) at i x t low = absurd cc
cut-until (works.Close slot) at i x t low = absurd cc
cut-until works.Other at i x t low = absurd cc

cut-some : (w : Work) (at most : ℕ) (x : Bool) → if_cut w at x ≡ true → at < most → at < range_end (range w) most
cut-some (works.Truncate slot size) at most x t lt = lt
cut-some (works.Write slot offset count) at most x t lt = absurd cc
cut-some (works.Put offset count) at most x t lt = absurd cc
cut-some (works.Open slot) at most x t lt = absurd cc
cut-some (works.Read slot offset count) at most x t lt = absurd cc
cut-some (works.Sync slot) at most x t lt = absurd cc
cut-some (works.Close slot) at most x t lt = absurd cc
cut-some works.Other at most x t lt = absurd cc

writes-until : (o : Operation) (n : ℕ) (f : List ℕ) (at most i : ℕ) → writes_or_cuts o n f at ≡ true → at ≤ i → i < range_end (range o.course.work) most → writes_or_cuts o n f i ≡ true
writes-until o n f at most i t low high = elim (or_cases (covers o.course.work at && writes_to o n f && not (is_write o.course.work && is_refused o.course n)) (cuts o f at) t) [
  | inl x ↦
      let outer = and_parts (covers o.course.work at && writes_to o n f) (not (is_write o.course.work && is_refused o.course n)) x in
      let inner = and_parts (covers o.course.work at) (writes_to o n f) outer.0 in
      or_left (covers o.course.work i && writes_to o n f && not (is_write o.course.work && is_refused o.course n)) (cuts o f i)
      (and_from (covers o.course.work i && writes_to o n f) (not (is_write o.course.work && is_refused o.course n))
      (and_from (covers o.course.work i) (writes_to o n f) (covers-until o.course.work at most i inner.0 low high) inner.1) outer.1)
  | inr x ↦ or_right (covers o.course.work i && writes_to o n f && not (is_write o.course.work && is_refused o.course n)) (cuts o f i) (cut-until o.course.work at i (is_of o f) x low)
]

writes-some : (o : Operation) (n : ℕ) (f : List ℕ) (at most : ℕ) → writes_or_cuts o n f at ≡ true → at < most → at < range_end (range o.course.work) most
writes-some o n f at most t lt = elim (or_cases (covers o.course.work at && writes_to o n f && not (is_write o.course.work && is_refused o.course n)) (cuts o f at) t) [
  | inl x ↦
      let outer = and_parts (covers o.course.work at && writes_to o n f) (not (is_write o.course.work && is_refused o.course n)) x in
      covers-some o.course.work at most (and_parts (covers o.course.work at) (writes_to o n f) outer.0).0 lt
  | inr x ↦ cut-some o.course.work at most (is_of o f) x lt
]

-- ---- how far another client's change reaches

changes-until : (r : Reach) (at most i : ℕ) → changes r at ≡ true → at ≤ i → i < reach_end r most → changes r i ≡ true
changes-until (Range from to) at most i t low high =
    let first : from ≤ at = leb-true from at (and_parts (nat_le from at) (nat_lt at to) t).0 in
    and_from (nat_le from i) (nat_lt i to) (le-leb from i (omega (arith, first, low))) (lt-ltb i to (omega (arith, high)))
changes-until (Past size) at most i t low high = let first : size ≤ at = leb-true size at t in le-leb size i (omega (arith, first, low))

changes-some : (r : Reach) (at most : ℕ) → changes r at ≡ true → at < most → at < reach_end r most
changes-some (Range from to) at most t lt = let last : at < to = ltb-true at to (and_parts (nat_le from at) (nat_lt at to) t).1 in omega (arith, last, lt)
changes-some (Past size) at most t lt = lt

reach-within : (r : Reach) (most : ℕ) → reach_end r most ≤ most
reach-within (Range from to) most = omega arith
reach-within (Past size) most = omega arith

-- ---- so each further place may have been changed

-- by that operation
until-rewriter : (d : Digest) (w : Course) (q : Question) (at most k : ℕ) (o : Operation) → position (rewrites q.length w q.moment q.file at) d.operations.items ≡ Some k
    → slice_get d.operations.items k ≡ Some o → at < most → HoldsUntil (is_touched d w q) at most (range_end (range o.course.work) most)
unfolding is_touched
until-rewriter d w q at most k o found there lt =
    let it = and_parts (not (o.course.place == w.place) && nat_lt o.course.place q.moment && not (ended_before o.course w.place)) (writes_or_cuts o q.length q.file at)
    (found-at (rewrites q.length w q.moment q.file at) d.operations.items k o found there) in record {
      some = writes-some o q.length q.file at most it.1 lt;
      within = end-within (range o.course.work) most;
      each = λ i low high.
          or_left (is_foreign d.foreign.items w.place q.moment q.file i || is_rewritten d.operations.items q.length w q.moment q.file i || q.gone)
          (is_given_up d.left.items d.operations.items q.length w q.moment q.file)
          (or_left (is_foreign d.foreign.items w.place q.moment q.file i || is_rewritten d.operations.items q.length w q.moment q.file i) q.gone
          (or_right (is_foreign d.foreign.items w.place q.moment q.file i) (is_rewritten d.operations.items q.length w q.moment q.file i)
          (any-there (rewrites q.length w q.moment q.file i) d.operations.items k o there
          (and_from (not (o.course.place == w.place) && nat_lt o.course.place q.moment && not (ended_before o.course w.place)) (writes_or_cuts o q.length q.file i) it.0
          (writes-until o q.length q.file at most i it.1 low high)))));
    }

-- by that change
until-changer : (d : Digest) (w : Course) (q : Question) (at most k : ℕ) (c : changed.Foreign) → position (touches w.place q.moment q.file at) d.foreign.items ≡ Some k
    → slice_get d.foreign.items k ≡ Some c → at < most → HoldsUntil (is_touched d w q) at most (reach_end c.reach most)
unfolding is_touched
until-changer d w q at most k c found there lt =
    let it = and_parts (nat_lt w.place c.place && nat_lt c.place q.moment && bytes_eq c.file q.file) (changes c.reach at)
    (found-at (touches w.place q.moment q.file at) d.foreign.items k c found there) in record {
      some = changes-some c.reach at most it.1 lt;
      within = reach-within c.reach most;
      each = λ i low high.
          or_left (is_foreign d.foreign.items w.place q.moment q.file i || is_rewritten d.operations.items q.length w q.moment q.file i || q.gone)
          (is_given_up d.left.items d.operations.items q.length w q.moment q.file)
          (or_left (is_foreign d.foreign.items w.place q.moment q.file i || is_rewritten d.operations.items q.length w q.moment q.file i) q.gone
          (or_left (is_foreign d.foreign.items w.place q.moment q.file i) (is_rewritten d.operations.items q.length w q.moment q.file i)
          (any-there (touches w.place q.moment q.file i) d.foreign.items k c there
          (and_from (nat_lt w.place c.place && nat_lt c.place q.moment && bytes_eq c.file q.file) (changes c.reach i) it.0 (changes-until c.reach at most i it.1 low high)))));
    }

-- as they were found in the lists
pub rewriter-reaches : (d : Digest) (w : Course) (q : Question) (at most k : ℕ) (o : Operation) (os : List Operation) → os ≡ d.operations.items
    → position (rewrites q.length w q.moment q.file at) os ≡ Some k → o ≡ get_or os k o → at < most → (r : Option (ℕ × ℕ)) → r ≡ range o.course.work → (e : ℕ) → e ≡ range_end r most
    → HoldsUntil (is_touched d w q) at most e
rewriter-reaches d w q at most k o os same found read lt r is e ends =
    let inside : k < length os = found-within (rewrites q.length w q.moment q.file at) os k o found in
    let there : slice_get os k ≡ Some o = slice_get_read os (length os) k o refl inside read in
    subst (λ (z : ℕ). HoldsUntil (is_touched d w q) at most z) (sym (ends ∙ ap (λ (x : Option (ℕ × ℕ)). range_end x most) is))
    (until-rewriter d w q at most k o (subst (λ (z : List Operation). position (rewrites q.length w q.moment q.file at) z ≡ Some k) same found)
    (subst (λ (z : List Operation). slice_get z k ≡ Some o) same there) lt)

pub changer-reaches : (d : Digest) (w : Course) (q : Question) (at most k : ℕ) (c : changed.Foreign) (cs : List changed.Foreign) → cs ≡ d.foreign.items
    → position (touches w.place q.moment q.file at) cs ≡ Some k → c ≡ get_or cs k c → at < most → (e : ℕ) → e ≡ reach_end c.reach most → HoldsUntil (is_touched d w q) at most e
changer-reaches d w q at most k c cs same found read lt e ends =
    let inside : k < length cs = found-within (touches w.place q.moment q.file at) cs k c found in
    let there : slice_get cs k ≡ Some c = slice_get_read cs (length cs) k c refl inside read in
    subst (λ (z : ℕ). HoldsUntil (is_touched d w q) at most z) (sym ends)
    (until-changer d w q at most k c (subst (λ (z : List changed.Foreign). position (touches w.place q.moment q.file at) z ≡ Some k) same found)
    (subst (λ (z : List changed.Foreign). slice_get z k ≡ Some c) same there) lt)

-- or as each of its piece
pub until-same : (d : Digest) (w : Course) (q : Question) (at most e : ℕ) → IsPiece d.operations.items d.foreign.items at most e → is_touched d w q at ≡ true → HoldsUntil (is_touched d w q) at most e
until-same d w q at most e piece t = record {
  some = piece.some;
  within = piece.within;
  each = λ i low high. touched-moves d w q at most e at i piece (let some = piece.some in record { ai = omega arith; ib = some; aj = low; jb = high }) t;
}

-- what may have been changed is kept
pub until-kept : (h : List Entry) (d : Digest) (w : Course) (q : Question) (now stable : List ℕ) (offset at to e : ℕ) → HoldsUntil (is_touched d w q) at to e
    → HoldsUntil (is_kept h d w q now stable offset) at to e
until-kept h d w q now stable offset at to e until = record {
  some = until.some;
  within = until.within;
  each = λ i low high. or_right (shows h w.place now stable offset i) (is_touched d w q i) (until.each i low high);
}
