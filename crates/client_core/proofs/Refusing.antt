-- A refusal in place of a call, put together.
use Rattle.std.proofs.Common.{◌≡◌, ℕ, List, Bool, true, false, Some, slice_get, slice_set, Result, Ok, Err, refl, sym, ap, subst, ◌∙◌, OnOk}
use Rattle.world_model.specs.declared.answer.Answer.{Answer}
use Rattle.world_model.specs.declared.answer.Fault.{Fault}
use Rattle.world_model.specs.declared.message.Call.{Call}
use Rattle.client_shelf.specs.declared.step.Step.{Step}
use Rattle.client_shelf.specs.declared.step.Step.TheVariants.{Send, Wait, Done}
use Rattle.client_shelf.specs.declared.shelf.Shelf.{Shelf}
use Rattle.op_machines.specs.declared.machine.Machine.{Machine}
use Rattle.client_core.specs.declared.lane.Lane.{Lane}
use Rattle.client_core.specs.declared.lane.State.TheVariants.{Busy, Over}
use Rattle.client_core.specs.View.{View, turn_at, unmade_turn, IsSound}
use Rattle.client_core.specs.Between.{Awaits, AwaitsCall, AwaitsRefusal}
use Rattle.client_core.specs.StepLaws.{StepLaws}
use Rattle.client_core.specs.Steps.{IsBusyAt, IsUnmade, Makes, Asks, Refuses, EndsAs, Leads}
use Rattle.client_core.proofs.Places.{same-number, same-machine}
use Rattle.client_core.proofs.Leading.{RefusedTo, refuses-by, refuses-sound, refused-done, refused-waits, ends-sound}
use Rattle.client_core.proofs.Stirring.{stepped, StepsBy, by-there}

module _ (v : View) (at : ℕ) (fault : Fault) (next : Step) (new : Lane) (shelf : Shelf) where
  -- the operation has its answer
  pub done-to : (answer : Answer) (last : View) (o : StepsBy v at (turn_at v) (Err fault) (unmade_turn v) next new shelf) → next ≡ Done answer → EndsAs (stepped v at new shelf) at answer last → RefusedTo v at o.number next o.after shelf last
  done-to answer last o is ends =
      refused-done v at o.number next answer o.after shelf (stepped v at new shelf) last is (ap (λ (l : Lane). stepped v at l shelf) o.new_is)
      (by-there v at (turn_at v) (Err fault) (unmade_turn v) next new shelf o) ends

  -- it waits on
  pub waits-to : (laws : StepLaws) (o : StepsBy v at (turn_at v) (Err fault) (unmade_turn v) next new shelf) → ((answer : Answer) → next ≡ Done answer → ⊥) → RefusedTo v at o.number next o.after shelf (stepped v at new shelf)
  waits-to laws o undone =
      refused-waits v at o.number next o.after shelf (stepped v at new shelf)
      (laws.takes_roomless v.wsize o.machine (turn_at v) (unmade_turn v) (Err fault) v.shelf next o.after shelf refl o.takes) undone (ap (λ (l : Lane). stepped v at l shelf) o.new_is)

  pub refuses-at : (last : View) → IsUnmade v fault → (o : StepsBy v at (turn_at v) (Err fault) (unmade_turn v) next new shelf) → RefusedTo v at o.number next o.after shelf last
      → (number : ℕ) (machine : Machine) → IsBusyAt v at number machine → Refuses v at number machine last
  refuses-at last unmade o to number machine there =
      subst (λ (n : ℕ). Refuses v at n machine last) (same-number v.lanes at o.number number (Busy o.machine) (Busy machine) o.there there)
      (subst (λ (m : Machine). Refuses v at o.number m last) (same-machine v.lanes at o.number number o.machine machine o.there there)
      (refuses-by v at o.number o.machine o.after fault next shelf last unmade o.takes to))

  pub refused-sound : (laws : StepLaws) (last : View) → AwaitsRefusal v at → IsUnmade v fault → (o : StepsBy v at (turn_at v) (Err fault) (unmade_turn v) next new shelf) → RefusedTo v at o.number next o.after shelf last → IsSound last
  refused-sound laws last a unmade o to =
      refuses-sound laws v at o.number o.machine last a o.there (refuses-by v at o.number o.machine o.after fault next shelf last unmade o.takes to)

-- a result that isn't an error
pub on-ok : {P : Type 0} → (r : Result (Unit {0}) Fault) → OnOk r P → ((f : Fault) → r ≡ Err f → ⊥) → P
on-ok (Ok done) p not = p
on-ok (Err f) p not = absurd (not f refl)

-- ---- what a step leads to

pub waits-sound : (v : View) (at : ℕ) (next : Step) → next ≡ Wait → Awaits v at next → IsSound v
waits-sound v at next is a = subst (λ (n : Step). Awaits v at n) is a

pub done-sound : (v : View) (at : ℕ) (next : Step) (answer : Answer) → next ≡ Done answer → Awaits v at next → IsSound v
done-sound v at next answer is a = subst (λ (n : Step). Awaits v at n) is a

pub asks-call : (v : View) (at : ℕ) (next : Step) (call : Call) → next ≡ Send call → Awaits v at next → AwaitsCall v at call
asks-call v at next call is a = subst (λ (n : Step). Awaits v at n) is a

pub leads-as : (v : View) (at : ℕ) (next to : Step) (new : View) → next ≡ to → ((number : ℕ) (machine : Machine) → IsBusyAt v at number machine → Leads v at number machine to new)
    → (number : ℕ) (machine : Machine) → IsBusyAt v at number machine → Leads v at number machine next new
leads-as v at next to new is leads number machine there = subst (λ (n : Step). Leads v at number machine n new) (sym is) (leads number machine there)
