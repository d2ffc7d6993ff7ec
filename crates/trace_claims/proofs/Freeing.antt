-- Up to which place no byte past another one is pending.
use Rattle.std.proofs.Common.{◌≡◌, ◌<◌, ◌≤◌, ◌+◌, inl, inr, ℕ, Bool, true, false, true≢false, List, Some, slice_get, refl, sym, ◌∙◌, arith}
use Rattle.std.specs.Prelude.{◌&&◌, ◌||◌, not, nat_lt, nat_le, if◌then◌else◌}
use Rattle.std.proofs.lemmas.Bool.{cases_Bool, ltb-true, ltb-false, leb-true, le-leb, and_parts, and_from, or_cases, or_left, or_right, or_from, not_from_false, not_from_true, not-true, false_from_ne_true}
use Rattle.trace_claims.specs.declared.courses.Course.{Course}
use Rattle.trace_claims.specs.declared.digest.Digest.{Digest}
use Rattle.trace_claims.specs.declared.operations.Operation.{Operation}
use Rattle.trace_claims.specs.Courses.{covers, ended_before, is_done, is_refused, is_put, is_write}
use Rattle.trace_claims.specs.Operations.{writes_to, wrote_to, made_stable, cuts, ends_pending}
use Rattle.trace_claims.specs.Pendings.{ends_after, is_ended, is_left, is_pending, is_free, next_past}
use Rattle.trace_claims.specs.Pieces.{apart_work, IsOwnPiece}
use Rattle.trace_claims.specs.Places.{HoldsUntil}
use Rattle.trace_claims.proofs.Moving.{InPiece, turned, covers-moves, cuts-moves, any-moves}

ends-moves : (a b i j n : ℕ) (o : Operation) (f : List ℕ) → InPiece a b i j → apart_work a b o.course.work ≡ true → ends_pending o n f i ≡ true → ends_pending o n f j ≡ true
ends-moves a b i j n o f p t x =
    let two = and_parts (is_done o.course n) (made_stable o n f || (covers o.course.work i && wrote_to o n f) || cuts o f i) x in
    and_from (is_done o.course n) (made_stable o n f || (covers o.course.work j && wrote_to o n f) || cuts o f j) two.0
    (elim (or_cases (made_stable o n f || (covers o.course.work i && wrote_to o n f)) (cuts o f i) two.1) [
      | inl y ↦ or_left (made_stable o n f || (covers o.course.work j && wrote_to o n f)) (cuts o f j)
          (elim (or_cases (made_stable o n f) (covers o.course.work i && wrote_to o n f) y) [
            | inl z ↦ or_left (made_stable o n f) (covers o.course.work j && wrote_to o n f) z
            | inr z ↦
                let both = and_parts (covers o.course.work i) (wrote_to o n f) z in
                or_right (made_stable o n f) (covers o.course.work j && wrote_to o n f) (and_from (covers o.course.work j) (wrote_to o n f) (covers-moves a b i j o.course.work p t both.0) both.1)
          ])
      | inr y ↦ or_right (made_stable o n f || (covers o.course.work j && wrote_to o n f)) (cuts o f j) (cuts-moves a b i j o f p t y)
    ])

ended-moves : (a b i j n : ℕ) (w : Course) (f : List ℕ) (os : List Operation) → InPiece a b i j → ((k : ℕ) (o : Operation) → slice_get os k ≡ Some o → apart_work a b o.course.work ≡ true) → is_ended os w f n i ≡ true → is_ended os w f n j ≡ true
ended-moves a b i j n w f os p apart_all t = any-moves (ends_after w f n i) (ends_after w f n j) os (λ k o is x.
    let two = and_parts (ended_before w o.course.place) (ends_pending o n f i) x in
    and_from (ended_before w o.course.place) (ends_pending o n f j) two.0 (ends-moves a b i j n o f p (apart_all k o is) two.1)) t

-- a place of a piece is pending as another
pending-moves : (d : Digest) (n : ℕ) (o : Operation) (f : List ℕ) (q a most b i j : ℕ) → IsOwnPiece d.operations.items d.foreign.items o.course.work a most b → InPiece a b i j
    → is_pending d n o f q i ≡ true → is_pending d n o f q j ≡ true
unfolding is_pending
pending-moves d n o f q a most b i j own p x =
    let c1 = nat_lt o.course.place q in
    let c3 = writes_to o n f in
    let c4 = not (is_write o.course.work && is_refused o.course n) in
    let c5 = not (is_put o.course.work && is_done o.course q) in
    let c7 = (is_put o.course.work && is_refused o.course n) || not (is_left d n o.course f q) in
    let s6 = and_parts (c1 && covers o.course.work i && c3 && c4 && c5 && not (is_ended d.operations.items o.course f q i)) c7 x in
    let s5 = and_parts (c1 && covers o.course.work i && c3 && c4 && c5) (not (is_ended d.operations.items o.course f q i)) s6.0 in
    let s4 = and_parts (c1 && covers o.course.work i && c3 && c4) c5 s5.0 in
    let s3 = and_parts (c1 && covers o.course.work i && c3) c4 s4.0 in
    let s2 = and_parts (c1 && covers o.course.work i) c3 s3.0 in
    let s1 = and_parts c1 (covers o.course.work i) s2.0 in
    let unended : not (is_ended d.operations.items o.course f q j) ≡ true = elim (cases_Bool (is_ended d.operations.items o.course f q j)) [
      | inl t ↦ absurd (true≢false (sym (ended-moves a b j i q o.course f d.operations.items (turned a b i j p) own.piece.works t) ∙ not-true (is_ended d.operations.items o.course f q i) s5.1))
      | inr t ↦ not_from_false (is_ended d.operations.items o.course f q j) t
    ] in
    and_from (c1 && covers o.course.work j && c3 && c4 && c5 && not (is_ended d.operations.items o.course f q j)) c7
    (and_from (c1 && covers o.course.work j && c3 && c4 && c5) (not (is_ended d.operations.items o.course f q j))
    (and_from (c1 && covers o.course.work j && c3 && c4) c5
    (and_from (c1 && covers o.course.work j && c3) c4
    (and_from (c1 && covers o.course.work j) c3
    (and_from c1 (covers o.course.work j) s1.0 (covers-moves a b i j o.course.work p own.own s1.1)) s2.1) s3.1) s4.1) unended) s6.1

-- up to the place after another one
pub free-past : (d : Digest) (n : ℕ) (o : Operation) (f : List ℕ) (q past at to : ℕ) → at ≤ past → at < to → HoldsUntil (is_free d n o f q past) at to (next_past past to)
free-past d n o f q past at to le lt = by (nat_lt past to) refl
  where
    by : (b : Bool) → nat_lt past to ≡ b → HoldsUntil (is_free d n o f q past) at to (if b then past + 1 else to)
    by true is =
        let low : past < to = ltb-true past to is in
        record { some = omega (arith, le); within = omega (arith, low); each = λ i a e. or_left (nat_le i past) (not (is_pending d n o f q i)) (le-leb i past (omega (arith, e))) }
    by false is =
        let high : to ≤ past = ltb-false past to is in
        record { some = lt; within = omega arith; each = λ i a e. or_left (nat_le i past) (not (is_pending d n o f q i)) (le-leb i past (omega (arith, e, high))) }

pub free-piece : (d : Digest) (n : ℕ) (o : Operation) (f : List ℕ) (q past at to e : ℕ) → IsOwnPiece d.operations.items d.foreign.items o.course.work at to e → is_pending d n o f q at ≡ false
    → HoldsUntil (is_free d n o f q past) at to e
free-piece d n o f q past at to e own none = record {
  some = own.piece.some;
  within = own.piece.within;
  each = λ i low high. or_right (nat_le i past) (not (is_pending d n o f q i)) (elim (cases_Bool (is_pending d n o f q i)) [
    | inl t ↦ absurd (true≢false (sym (pending-moves d n o f q at to e i at own (let some = own.piece.some in record { ai = low; ib = high; aj = omega arith; jb = some }) t) ∙ none))
    | inr t ↦ not_from_false (is_pending d n o f q i) t
  ]);
}

pub free-not : (d : Digest) (n : ℕ) (o : Operation) (f : List ℕ) (q past at : ℕ) → past < at → is_pending d n o f q at ≡ true → is_free d n o f q past at ≡ false
free-not d n o f q past at lt t = or_from (nat_le at past) (not (is_pending d n o f q at)) (false_from_ne_true (nat_le at past) (λ x. let le : at ≤ past = leb-true at past x in omega (arith, le, lt))) (not_from_true (is_pending d n o f q at) t)
