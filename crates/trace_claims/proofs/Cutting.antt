-- A piece that is cut at each edge has none within.
use Rattle.std.proofs.Common.{◌≡◌, ◌<◌, ◌≤◌, ◌+◌, inl, inr, ℕ, Bool, true, false, List, length, Some, slice_get, refl, sym, ◌∙◌, subst, arith}
use Rattle.std.specs.Prelude.{◌&&◌, nat_lt, nat_le, min, if◌then◌else◌}
use Rattle.std.proofs.lemmas.Bool.{cases_lt, ltb-true, ltb-false, leb-true, le-leb, and_parts, and_from, or_cases, or_left, or_right}
use Rattle.std.proofs.lemmas.Option.{slice_get_within}
use Rattle.trace_claims.specs.declared.courses.Work.{Work}
use Rattle.trace_claims.specs.declared.courses.Work.TheVariants as works
use Rattle.trace_claims.specs.declared.operations.Operation.{Operation}
use Rattle.trace_claims.specs.declared.touched.Foreign as changed
use Rattle.trace_claims.specs.declared.touched.Reach.{Reach}
use Rattle.trace_claims.specs.declared.touched.Reach.TheVariants.{Range, Past}
use Rattle.trace_claims.specs.Pieces.{apart, apart_work, apart_reach, nearer, nearer_of_work, nearer_of_reach, IsPieceOfWorks, IsPieceOfReaches, IsPiece, IsOwnPiece}

-- c ends a piece that begins at a, no later than b
pub record Nearer (a b c : ℕ) : Type 0 where
  pub some : a < c
  pub within : c ≤ b

near : (a b e : ℕ) → a < b → Nearer a b (nearer a b e) × (apart a (nearer a b e) e ≡ true)
near a b e some = by (nat_lt a e) refl
  where
    by : (t : Bool) → nat_lt a e ≡ t → Nearer a b (if t then min b e else b) × (apart a (if t then min b e else b) e ≡ true)
    by true is =
        let lt : a < e = ltb-true a e is in
        (record { some = omega (arith, lt, some); within = omega arith }, or_right (nat_le e a) (nat_le (min b e) e) (le-leb (min b e) e (omega arith)))
    by false is =
        let le : e ≤ a = ltb-false a e is in
        (record { some = some; within = omega arith }, or_left (nat_le e a) (nat_le b e) (le-leb e a le))

-- an edge that isn't within a piece isn't within a shorter one
apart-less : (a b c e : ℕ) → c ≤ b → apart a b e ≡ true → apart a c e ≡ true
apart-less a b c e le t = elim (or_cases (nat_le e a) (nat_le b e) t) [
  | inl low ↦ or_left (nat_le e a) (nat_le c e) low
  | inr high ↦ or_right (nat_le e a) (nat_le c e) (le-leb c e (let it : b ≤ e = leb-true b e high in omega (arith, it, le)))
]

both-less : (a b c d e : ℕ) → c ≤ b → (apart a b d && apart a b e) ≡ true → (apart a c d && apart a c e) ≡ true
both-less a b c d e le t = let two = and_parts (apart a b d) (apart a b e) t in and_from (apart a c d) (apart a c e) (apart-less a b c d le two.0) (apart-less a b c e le two.1)

work-less : (a b c : ℕ) (w : Work) → c ≤ b → apart_work a b w ≡ true → apart_work a c w ≡ true
work-less a b c (works.Write slot offset count) le t = both-less a b c offset (offset + count) le t
work-less a b c (works.Put offset count) le t = both-less a b c offset (offset + count) le t
work-less a b c (works.Truncate slot size) le t = apart-less a b c size le t
work-less a b c (works.Open slot) le t = refl
work-less a b c (works.Read slot offset count) le t = refl
work-less a b c (works.Sync slot) le t = refl
work-less a b c (works.Close slot) le t = refl
work-less a b c works.Other le t = refl

reach-less : (a b c : ℕ) (r : Reach) → c ≤ b → apart_reach a b r ≡ true → apart_reach a c r ≡ true
reach-less a b c (Range from to) le t = both-less a b c from to le t
reach-less a b c (Past size) le t = apart-less a b c size le t

near-two : (a b d e : ℕ) → a < b → Nearer a b (nearer a (nearer a b d) e) × ((apart a (nearer a (nearer a b d) e) d && apart a (nearer a (nearer a b d) e) e) ≡ true)
near-two a b d e some =
    let first = near a b d some in
    let second = near a (nearer a b d) e first.0.some in
    let one = first.0.within in
    let two = second.0.within in (
      record { some = second.0.some; within = omega (arith, one, two) },
      and_from (apart a (nearer a (nearer a b d) e) d) (apart a (nearer a (nearer a b d) e) e) (apart-less a (nearer a b d) (nearer a (nearer a b d) e) d second.0.within first.1) second.1,
    )

near-work : (a b : ℕ) (w : Work) → a < b → Nearer a b (nearer_of_work a b w) × (apart_work a (nearer_of_work a b w) w ≡ true)
near-work a b (works.Write slot offset count) some = near-two a b offset (offset + count) some
near-work a b (works.Put offset count) some = near-two a b offset (offset + count) some
near-work a b (works.Truncate slot size) some = near a b size some
near-work a b (works.Open slot) some = (record { some = some; within = omega arith }, refl)
near-work a b (works.Read slot offset count) some = (record { some = some; within = omega arith }, refl)
near-work a b (works.Sync slot) some = (record { some = some; within = omega arith }, refl)
near-work a b (works.Close slot) some = (record { some = some; within = omega arith }, refl)
near-work a b works.Other some = (record { some = some; within = omega arith }, refl)

near-reach : (a b : ℕ) (r : Reach) → a < b → Nearer a b (nearer_of_reach a b r) × (apart_reach a (nearer_of_reach a b r) r ≡ true)
near-reach a b (Range from to) some = near-two a b from to some
near-reach a b (Past size) some = near a b size some

some-same : {X : Type 0} (xs : List X) (k : ℕ) (a b : X) → slice_get xs k ≡ Some a → slice_get xs k ≡ Some b → a ≡ b
some-same xs k a b x y = let it : Some a ≡ Some b = sym x ∙ y in cc

-- ---- operations

pub works-none : (os : List Operation) (a most : ℕ) → a < most → IsPieceOfWorks os 0 a most most
works-none os a most some = record { some = some; within = omega arith; apart_from = λ j o is lt. absurd (omega (arith, lt)) }

pub works-more : (os : List Operation) (k a most b : ℕ) (o : Operation) → slice_get os k ≡ Some o → IsPieceOfWorks os k a most b → IsPieceOfWorks os (k + 1) a most (nearer_of_work a b o.course.work)
works-more os k a most b o at p =
    let it = near-work a b o.course.work p.some in
    let le = it.0.within in
    let ok = p.within in
    record {
      some = it.0.some;
      within = omega (arith, le, ok);
      apart_from = λ j x is lt. elim (cases_lt j k) [
        | inl less ↦ work-less a b (nearer_of_work a b o.course.work) x.course.work le (p.apart_from j x is less)
        | inr above ↦ subst (λ (z : Operation). apart_work a (nearer_of_work a b o.course.work) z.course.work ≡ true)
            (some-same os k o x at (subst (λ (z : ℕ). slice_get os z ≡ Some x) (let same : j ≡ k = omega (arith, lt, above) in same) is)) it.1
      ];
    }

-- ---- changes of other clients

pub reaches-none : (cs : List changed.Foreign) (a most : ℕ) → a < most → IsPieceOfReaches cs 0 a most most
reaches-none cs a most some = record { some = some; within = omega arith; apart_from = λ j o is lt. absurd (omega (arith, lt)) }

pub reaches-more : (cs : List changed.Foreign) (k a most b : ℕ) (c : changed.Foreign) → slice_get cs k ≡ Some c → IsPieceOfReaches cs k a most b → IsPieceOfReaches cs (k + 1) a most (nearer_of_reach a b c.reach)
reaches-more cs k a most b c at p =
    let it = near-reach a b c.reach p.some in
    let le = it.0.within in
    let ok = p.within in
    record {
      some = it.0.some;
      within = omega (arith, le, ok);
      apart_from = λ j x is lt. elim (cases_lt j k) [
        | inl less ↦ reach-less a b (nearer_of_reach a b c.reach) x.reach le (p.apart_from j x is less)
        | inr above ↦ subst (λ (z : changed.Foreign). apart_reach a (nearer_of_reach a b c.reach) z.reach ≡ true)
            (some-same cs k c x at (subst (λ (z : ℕ). slice_get cs z ≡ Some x) (let same : j ≡ k = omega (arith, lt, above) in same) is)) it.1
      ];
    }

-- ---- both

pub piece-of-both : (os : List Operation) (cs : List changed.Foreign) (a most b c : ℕ) → IsPieceOfWorks os (length os) a most b → IsPieceOfReaches cs (length cs) a b c → IsPiece os cs a most c
piece-of-both os cs a most b c p q =
    let one = p.within in
    let two = q.within in
    record {
      some = q.some;
      within = omega (arith, one, two);
      works = λ j o is. work-less a b c o.course.work two (p.apart_from j o is (slice_get_within os j o is));
      reaches = λ j o is. q.apart_from j o is (slice_get_within cs j o is);
    }

-- ---- and one operation beside

pub own-piece : (os : List Operation) (cs : List changed.Foreign) (w : Work) (a most b : ℕ) → IsPiece os cs a most b → IsOwnPiece os cs w a most (nearer_of_work a b w)
own-piece os cs w a most b p =
    let it = near-work a b w p.some in
    let le = it.0.within in
    let ok = p.within in
    record {
      piece = record {
        some = it.0.some;
        within = omega (arith, le, ok);
        works = λ j o is. work-less a b (nearer_of_work a b w) o.course.work le (p.works j o is);
        reaches = λ j o is. reach-less a b (nearer_of_work a b w) o.reach le (p.reaches j o is);
      };
      own = it.1;
    }
