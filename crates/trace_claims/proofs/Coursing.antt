-- The operations of a history, one place after another; and what the tests on one of them decide.
use Rattle.std.proofs.Common.{◌≡◌, ◌+◌, ◌⊎◌, inl, inr, ℕ, zero, suc, List, [], ◌∷◌, ◌++◌, append-nil, length, Option, Some, None, slice_get, refl, sym, ◌∙◌, subst, arith}
use Rattle.std.specs.Prelude.{MatchOption}
use Rattle.std.proofs.lemmas.Bool.{cases_lt}
use Rattle.world_model.specs.declared.entry.Entry.{Entry}
use Rattle.world_model.specs.declared.entry.Entry.TheVariants.{Began}
use Rattle.world_model.specs.Entries.{At}
use Rattle.trace_claims.specs.declared.courses.Course.{Course}
use Rattle.trace_claims.specs.Courses.{IsCourse, IsCourseAt, NoneBegins, HasCourses, list_of}

-- ---- lists

some-course : (a b : Course) → Some a ≡ Some b → a ≡ b
some-course a b e = cc

-- what a list with one course more has, it had, or is that course
get-last : (cs : List Course) (c : Course) (k : ℕ) (d : Course) → slice_get (cs ++ c ∷ []) k ≡ Some d → (slice_get cs k ≡ Some d) ⊎ (c ≡ d)
get-last [] c zero d at = inr (some-course c d at)
get-last [] c (suc k) d at = absurd cc
get-last (x ∷ cs) c zero d at = inl at
get-last (x ∷ cs) c (suc k) d at = get-last cs c k d at

get-grow : (cs : List Course) (c : Course) (k : ℕ) (d : Course) → slice_get cs k ≡ Some d → slice_get (cs ++ c ∷ []) k ≡ Some d
get-grow [] c k d at = absurd cc
get-grow (x ∷ cs) c zero d at = at
get-grow (x ∷ cs) c (suc k) d at = get-grow cs c k d at

get-new : (cs : List Course) (c : Course) → slice_get (cs ++ c ∷ []) (length cs) ≡ Some c
get-new [] c = refl
get-new (x ∷ cs) c = get-new cs c

-- ---- all operations

pub no-courses : (h : List Entry) → HasCourses h 0 []
no-courses h = record { each = λ k c at. absurd cc; every = λ x lane line op at lt. absurd (omega (arith, lt)) }

pub more-courses : (h : List Entry) (n : ℕ) (cs : List Course) (o : Option Course) → HasCourses h n cs → MatchOption o (NoneBegins h n) (IsCourseAt h n) → HasCourses h (n + 1) (cs ++ list_of o)
more-courses h n cs None has none = subst (λ (l : List Course). HasCourses h (n + 1) l) (sym (append-nil cs)) (record {
  each = has.each;
  every = λ x lane line op at lt. elim (cases_lt x n) [
    | inl before ↦ has.every x lane line op at before
    | inr le ↦ absurd (none lane line op (subst (λ (z : ℕ). At h z (Began lane line op)) (let is : x ≡ n = omega (arith, le, lt) in is) at))
  ];
})
more-courses h n cs (Some c) has new = record {
  each = λ k d at. elim (get-last cs c k d at) [
    | inl there ↦ has.each k d there
    | inr is ↦ subst (λ (z : Course). IsCourse h z) is new.is
  ];
  every = λ x lane line op at lt. elim (cases_lt x n) [
    | inl before ↦ let old = has.every x lane line op at before in (old.0, old.1, get-grow cs c old.0 old.1 old.2, old.3)
    | inr le ↦ (length cs, c, get-new cs c, new.there ∙ (let is : n ≡ x = omega (arith, le, lt) in is))
  ];
}
