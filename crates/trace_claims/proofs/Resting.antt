-- Whether no put is under way at a place of a beginning, by the operations of the history.
use Rattle.std.proofs.Common.{◌≡◌, ◌≤◌, inl, inr, ℕ, zero, suc, Bool, true, false, true≢false, List, [], ◌∷◌, ◌++◌, length, Some, slice_get, refl, sym, ◌∙◌, ap, subst, arith}
use Rattle.std.specs.Prelude.{Decides, ◌||◌, not, nat_le}
use Rattle.std.specs.List.{list_all}
use Rattle.std.proofs.lemmas.Bool.{cases_Bool, cases_lt, leb-true, le-leb, and_parts, and_from, or_cases, not-true}
use Rattle.world_model.specs.declared.entry.Entry.{Entry}
use Rattle.world_model.specs.declared.entry.Entry.TheVariants.{Began}
use Rattle.world_model.specs.declared.op.Op.{Op}
use Rattle.world_model.specs.declared.op.Op.TheVariants as ops
use Rattle.world_model.specs.Entries.{At}
use Rattle.world_model.specs.Mounts.{Origin}
use Rattle.world_model.specs.Operations.{AnsweredBefore}
use Rattle.world_model.proofs.Places.{At-grow, At-back}
use Rattle.claims.specs.Modes.{Modes}
use Rattle.claims.specs.Pending.{NoPutAt}
use Rattle.trace_claims.specs.declared.operations.Operation.{Operation}
use Rattle.trace_claims.specs.Courses.{IsCourse, ended_before, is_put}
use Rattle.trace_claims.specs.Touching.{rests_at, no_put, HasOperations}
use Rattle.trace_claims.proofs.Telling.{put-op, course-work, before-of-beginning}

pub all-holds : {X : Type 0} (p : X → Bool) (xs : List X) (k : ℕ) (x : X) → list_all p xs ≡ true → slice_get xs k ≡ Some x → p x ≡ true
all-holds p [] k x t at = absurd cc
all-holds {X = X} p (y ∷ xs) zero x t at = subst (λ z. p z ≡ true) (some y x at) (and_parts (p y) (list_all p xs) t).0
  where
    some : (a b : X) → Some a ≡ Some b → a ≡ b
    some a b e = cc
all-holds p (y ∷ xs) (suc k) x t at = all-holds p xs k x (and_parts (p y) (list_all p xs) t).1 at

pub all-from : {X : Type 0} (p : X → Bool) (xs : List X) → ((k : ℕ) (x : X) → slice_get xs k ≡ Some x → p x ≡ true) → list_all p xs ≡ true
all-from p [] each = refl
all-from p (y ∷ xs) each = and_from (p y) (list_all p xs) (each zero y refl) (all-from p xs (λ k x at. each (suc k) x at))

pub no-put-decides : (m : Modes) (origin : Origin) (b more : List Entry) (os : List Operation) → HasOperations m origin (b ++ more) os → (k : ℕ) → k ≤ length b → Decides (no_put os k) (NoPutAt b k)
no-put-decides m origin b more os has k within = (told, shown)
  where
    told : no_put os k ≡ true → NoPutAt b k
    told t x lane line offset path bytes at before =
        let it = has.every x lane line (ops.Put path offset bytes) (At-grow b more x (Began lane line (ops.Put path offset bytes)) at) in
        let is : IsCourse (b ++ more) it.1.course = (has.each it.0 it.1 it.2).course in
        let here : At (b ++ more) it.1.course.place (Began lane line (ops.Put path offset bytes)) = subst (λ (z : ℕ). At (b ++ more) z (Began lane line (ops.Put path offset bytes))) (sym it.3) (At-grow b more x (Began lane line (ops.Put path offset bytes)) at) in
        let put : is_put it.1.course.work ≡ true = ap is_put (course-work (b ++ more) it.1.course is lane line (ops.Put path offset bytes) here) in
        let rests = all-holds (rests_at k) os it.0 it.1 t it.2 in
        subst (λ (z : ℕ). AnsweredBefore b z k) it.3
        (elim (or_cases (not (is_put it.1.course.work) || nat_le k it.1.course.place) (ended_before it.1.course k) rests) [
          | inl other ↦ elim (or_cases (not (is_put it.1.course.work)) (nat_le k it.1.course.place) other) [
            | inl none ↦ absurd (true≢false (sym put ∙ not-true (is_put it.1.course.work) none))
            | inr late ↦ let le : k ≤ it.1.course.place = leb-true k it.1.course.place late in let same = it.3 in absurd (omega (arith, le, same, before))
          ]
          | inr ended ↦ (before-of-beginning b more it.1.course k is within).0 ended
        ])

    left-or : (a b : Bool) → a ≡ true → (a || b) ≡ true
    left-or a b t = rw t refl

    right-or : (a b : Bool) → b ≡ true → (a || b) ≡ true
    right-or true b t = refl
    right-or false b t = t

    not-when : (b : Bool) → b ≡ false → not b ≡ true
    not-when b e = rw e refl

    each : NoPutAt b k → (j : ℕ) (o : Operation) → slice_get os j ≡ Some o → rests_at k o ≡ true
    each none j o at = elim (cases_Bool (is_put o.course.work)) [
      | inr other ↦ left-or (not (is_put o.course.work) || nat_le k o.course.place) (ended_before o.course k) (left-or (not (is_put o.course.work)) (nat_le k o.course.place) (not-when (is_put o.course.work) other))
      | inl t ↦ elim (cases_lt o.course.place k) [
        | inr le ↦ left-or (not (is_put o.course.work) || nat_le k o.course.place) (ended_before o.course k) (right-or (not (is_put o.course.work)) (nat_le k o.course.place) (le-leb k o.course.place le))
        | inl before ↦
            let is : IsCourse (b ++ more) o.course = (has.each j o at).course in
            let put = put-op is.op (sym (ap is_put is.does) ∙ t) in
            let began : At b o.course.place (Began o.course.lane is.line (ops.Put put.0 put.1 put.2)) = subst (λ (op : Op). At b o.course.place (Began o.course.lane is.line op)) put.3 (At-back b more o.course.place (Began o.course.lane is.line is.op) is.began (omega (arith, before, within))) in
            right-or (not (is_put o.course.work) || nat_le k o.course.place) (ended_before o.course k)
            ((before-of-beginning b more o.course k is within).1 (none o.course.place o.course.lane is.line put.1 put.0 put.2 began before))
      ]
    ]

    shown : NoPutAt b k → no_put os k ≡ true
    shown none = all-from (rests_at k) os (each none)
