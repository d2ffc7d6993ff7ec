-- The least place at which what an operation wrote is settled, one operation after another; and that it is the least in a beginning.
use Rattle.std.proofs.Common.{◌≡◌, ◌<◌, ◌≤◌, ◌+◌, ◌⊎◌, inl, inr, ℕ, true, false, true≢false, List, Option, Some, None, slice_get, refl, sym, ◌∙◌, subst, arith}
use Rattle.std.specs.Prelude.{min}
use Rattle.std.proofs.lemmas.Bool.{cases_lt, cases_Bool}
use Rattle.trace_claims.specs.declared.courses.Course.{Course}
use Rattle.trace_claims.specs.declared.operations.Operation.{Operation}
use Rattle.trace_claims.specs.Courses.{is_put}
use Rattle.trace_claims.specs.Settling.{own_end, settles_after, settles_at, sooner, SettlesThere, itself, by, Settles}

some-op : (a b : Operation) → Some a ≡ Some b → a ≡ b
some-op a b e = cc

earlier-or-this : (j k : ℕ) → j < k + 1 → (j < k) ⊎ (j ≡ k)
earlier-or-this j k lt = elim (cases_lt j k) [
  | inl before ↦ inl before
  | inr le ↦ inr (omega (arith, le, lt))
]

-- before any other operation
pub settles-none : (os : List Operation) (n : ℕ) (w : Course) (f : List ℕ) → Settles os n w f 0 (own_end w)
settles-none os n w f = elim (cases_Bool (is_put w.work)) [
  | inl t ↦ subst (λ (o : Option ℕ). Settles os n w f 0 o) (sym (put t)) (record { there = itself t refl; own = λ _. omega arith; least = λ j o at lt passes. absurd (omega (arith, lt)) })
  | inr e ↦ subst (λ (o : Option ℕ). Settles os n w f 0 o) (sym (other e)) (record { no_put = e; none = λ j o at lt. absurd (omega (arith, lt)) })
]
  where
    put : is_put w.work ≡ true → own_end w ≡ Some w.ending.end
    put t = rw t refl

    other : is_put w.work ≡ false → own_end w ≡ None
    other e = rw e refl

there-more : (os : List Operation) (n : ℕ) (w : Course) (f : List ℕ) (k at : ℕ) → SettlesThere os n w f k at → SettlesThere os n w f (k + 1) at
there-more os n w f k at (itself t end) = itself t end
there-more os n w f k at (by j o is lt passes end) = by j o is (omega (arith, lt)) passes end

-- one operation more
pub settles-more : (os : List Operation) (n : ℕ) (w : Course) (f : List ℕ) (k : ℕ) (x : Operation) (found : Option ℕ) → slice_get os k ≡ Some x → Settles os n w f k found → Settles os n w f (k + 1) (sooner found (settles_at x n w f))
settles-more os n w f k x found at known = elim (cases_Bool (settles_after x n w f)) [
  | inl passes ↦ subst (λ (o : Option ℕ). Settles os n w f (k + 1) (sooner found o)) (sym (there passes)) (settling passes found known)
  | inr other ↦ subst (λ (o : Option ℕ). Settles os n w f (k + 1) (sooner found o)) (sym (nothing other)) (passing other found known)
]
  where
    there : settles_after x n w f ≡ true → settles_at x n w f ≡ Some x.course.ending.end
    there t = rw t refl

    nothing : settles_after x n w f ≡ false → settles_at x n w f ≡ None
    nothing t = rw t refl

    this : (j : ℕ) (o : Operation) → slice_get os j ≡ Some o → j ≡ k → x ≡ o
    this j o is same = some-op x o (sym at ∙ subst (λ (z : ℕ). slice_get os z ≡ Some o) same is)

    passing : settles_after x n w f ≡ false → (found : Option ℕ) → Settles os n w f k found → Settles os n w f (k + 1) (sooner found None)
    passing e None known = record {
      no_put = known.no_put;
      none = λ j o is lt. elim (earlier-or-this j k lt) [
        | inl before ↦ known.none j o is before
        | inr same ↦ subst (λ (z : Operation). settles_after z n w f ≡ false) (this j o is same) e
      ];
    }
    passing e (Some a) known = record {
      there = there-more os n w f k a known.there;
      own = known.own;
      least = λ j o is lt passes. elim (earlier-or-this j k lt) [
        | inl before ↦ known.least j o is before passes
        | inr same ↦ absurd (true≢false (sym passes ∙ subst (λ (z : Operation). settles_after z n w f ≡ false) (this j o is same) e))
      ];
    }

    here : settles_after x n w f ≡ true → (v : ℕ) → x.course.ending.end ≡ v → SettlesThere os n w f (k + 1) v
    here t v is = by k x at (omega arith) t is

    last : (v : ℕ) → v ≤ x.course.ending.end → (j : ℕ) (o : Operation) → slice_get os j ≡ Some o → j ≡ k → v ≤ o.course.ending.end
    last v le j o is same = subst (λ (z : Operation). v ≤ z.course.ending.end) (this j o is same) le

    settling : settles_after x n w f ≡ true → (found : Option ℕ) → Settles os n w f k found → Settles os n w f (k + 1) (sooner found (Some x.course.ending.end))
    settling t None known = record {
      there = here t x.course.ending.end refl;
      own = λ put. absurd (true≢false (sym put ∙ known.no_put));
      least = λ j o is lt passes. elim (earlier-or-this j k lt) [
        | inl before ↦ absurd (true≢false (sym passes ∙ known.none j o is before))
        | inr same ↦ last x.course.ending.end (omega arith) j o is same
      ];
    }
    settling t (Some a) known = elim (cases_lt x.course.ending.end a) [
      | inl less ↦ record {
        there = here t (min a x.course.ending.end) (omega (arith, less));
        own = λ put. let le = known.own put in omega (arith, le, less);
        least = λ j o is lt passes. elim (earlier-or-this j k lt) [
          | inl before ↦ let le = known.least j o is before passes in omega (arith, le, less)
          | inr same ↦ last (min a x.course.ending.end) (omega (arith, less)) j o is same
        ];
      }
      | inr le ↦ record {
        there = subst (λ (v : ℕ). SettlesThere os n w f (k + 1) v) (let is : a ≡ min a x.course.ending.end = omega (arith, le) in is) (there-more os n w f k a known.there);
        own = λ put. let few = known.own put in omega (arith, few, le);
        least = λ j o is lt passes. elim (earlier-or-this j k lt) [
          | inl before ↦ let few = known.least j o is before passes in omega (arith, few, le)
          | inr same ↦ last (min a x.course.ending.end) (omega (arith, le)) j o is same
        ];
      }
    ]
