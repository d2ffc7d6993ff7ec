-- The operations with their files, put together one after another.
use Rattle.std.proofs.Common.{◌≡◌, ◌+◌, inl, inr, ℕ, List, [], ◌∷◌, ◌++◌, length, Option, Some, None, slice_get, sym, ◌∙◌, ap, subst, arith}
use Rattle.std.proofs.lemmas.Bool.{cases_lt}
use Rattle.std.proofs.lemmas.Option.{slice_get_within}
use Rattle.world_model.specs.declared.entry.Entry.{Entry}
use Rattle.world_model.specs.declared.entry.Entry.TheVariants.{Began}
use Rattle.world_model.specs.Mounts.{Origin}
use Rattle.world_model.proofs.Places.{At-below}
use Rattle.claims.specs.Modes.{Modes}
use Rattle.trace_claims.specs.declared.courses.Course.{Course}
use Rattle.trace_claims.specs.declared.operations.Hold.{Hold}
use Rattle.trace_claims.specs.declared.operations.Operation.{Operation}
use Rattle.trace_claims.specs.declared.slots.Named.{Named}
use Rattle.trace_claims.specs.Assembled.{IsOperationOf, OperationsUpTo}
use Rattle.trace_claims.specs.Courses.{IsCourse, slot_of_work}
use Rattle.trace_claims.specs.Operations.{HoldsFor, IsOperation}
use Rattle.trace_claims.specs.Slotted.{HoldsBy, HasNamed}
use Rattle.trace_claims.specs.Touching.{HasOperations}
use Rattle.trace_claims.proofs.Holding.{slot-holds}
use Rattle.trace_claims.proofs.Listing.{get-last, get-grow, get-new, get-same}

-- what the slot of an operation holds
pub holds-for : (m : Modes) (h : List Entry) (ns : List Named) (c : Course) (slot : ℕ) (holds : List Hold) → HasNamed m h ns → IsCourse h c → slot_of_work c.work ≡ Some slot → HoldsBy ns c.lane slot c.place (length ns) holds → HoldsFor m h c (slot_of_work c.work) holds
holds-for m h ns c slot holds has is work by =
    let below = At-below h c.place (Began c.lane is.line is.op) is.began in
    subst (λ (s : Option ℕ). HoldsFor m h c s holds) (sym work) (slot-holds m h ns c.lane slot c.place holds has (omega (arith, below)) by)

pub holds-no : (m : Modes) (h : List Entry) (c : Course) (holds : List Hold) → slot_of_work c.work ≡ None → holds ≡ [] → HoldsFor m h c (slot_of_work c.work) holds
holds-no m h c holds work is = subst (λ (s : Option ℕ). HoldsFor m h c s holds) (sym work) is

pub ops-none : (m : Modes) (origin : Origin) (h : List Entry) (ns : List Named) → OperationsUpTo m origin h ns 0 []
ops-none m origin h ns = record { each = λ i o at. absurd cc; every = λ j n at lt. absurd (omega (arith, lt)) }

pub ops-more : (m : Modes) (origin : Origin) (h : List Entry) (ns : List Named) (k : ℕ) (n : Named) (o : Operation) (os : List Operation) → slice_get ns k ≡ Some n → IsOperationOf m origin h n o → OperationsUpTo m origin h ns k os
    → OperationsUpTo m origin h ns (k + 1) (os ++ o ∷ [])
ops-more m origin h ns k n o os at is so-far = record {
  each = λ i x there. elim (get-last os o i x there) [
    | inl old ↦ so-far.each i x old
    | inr e ↦ subst (λ (z : Operation). IsOperation m origin h z) e is.is
  ];
  every = λ j x there lt. elim (cases_lt j k) [
    | inl before ↦ let old = so-far.every j x there before in (old.0, old.1, get-grow os o old.0 old.1 old.2, old.3)
    | inr le ↦
        let same = get-same ns k n x at (subst (λ (z : ℕ). slice_get ns z ≡ Some x) (let e : j ≡ k = omega (arith, le, lt) in e) there) in
        (length os, o, get-new os o, is.course_is ∙ ap (λ (z : Named). z.course) same)
  ];
}

pub ops-all : (m : Modes) (origin : Origin) (h : List Entry) (ns : List Named) (os : List Operation) → HasNamed m h ns → OperationsUpTo m origin h ns (length ns) os → HasOperations m origin h os
ops-all m origin h ns os has all = record {
  each = all.each;
  every = λ x lane line op at.
      let n = has.every x lane line op at in
      let o = all.every n.0 n.1 n.2 (slice_get_within ns n.0 n.1 n.2) in
      (o.0, o.1, o.2, ap (λ (z : Course). z.place) o.3 ∙ n.3);
}
