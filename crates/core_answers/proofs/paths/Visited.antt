-- A walk that leads by recent names, and a call at its end.
use Rattle.core_answers.proofs.Prelude.{◌≡◌, ◌<◌, ℕ, Bool, true, false, List, [], ◌∷◌, ◌++◌, length, None, Result, Ok, refl, sym, ap, subst, ◌∙◌, if◌then◌else◌, Answer, Fault, Entry, Call, Reply, Step, Shelf, Turn, Visit, VisitStep, WalkStep, WalkAwaits, WalkMoves, go-step, took-step, then-as, ThenOf}
use Rattle.world_model.specs.declared.answer.Answer.TheVariants as answers
use Rattle.name_ops.specs.declared.visit.VisitStep.TheVariants as visits
use Rattle.name_ops.specs.declared.walk.WalkStep.TheVariants as walks
use Rattle.name_ops.specs.Visiting as visiting
use Rattle.name_ops.specs.Walking as walking
use Rattle.core_answers.proofs.engine.Told.{ToldSince, IsLate}
use Rattle.core_answers.proofs.bonds.StatsLed.{Kept}
use Rattle.core_answers.proofs.bonds.Walked.{LedBy, WalkAt, go-led, took-led, end-led, walk-grows}

-- Its walk leads along the path, and it asks for its own call at the end.
pub record VisitLed (most : ℕ) (top : List ℕ) (h : List Entry) (x : ℕ) (path : List (List ℕ)) (v : Visit) : Type 0 where
  pub walk : WalkAt most top h x path v.walk
  pub done : v.asked ≡ true → walking.next_name v.walk ≡ None

module _ (most : ℕ) (top : List ℕ) (h : List Entry) (x : ℕ) (within : x < length h) where
  abbrev VisitAt : List (List ℕ) → Visit → Type 0
  VisitAt path v = VisitLed most top h x path v

  pub visit-end : (path : List (List ℕ)) (v : Visit) → VisitAt path v → v.asked ≡ true → LedBy h most x top path v.walk.spot.dir
  visit-end path v s is = end-led most top h x within path v.walk s.walk (s.done is)

  on-way : (path : List (List ℕ)) (v : Visit) → WalkAt most top h x path v.walk → v.asked ≡ false → VisitAt path v
  on-way path v l idle = record { walk = l; done = λ is. absurd (let no_way : true ≡ false = sym is ∙ idle in cc) }

  follow-at : (path : List (List ℕ)) (step : WalkStep) (room : Bool) (v : Visit) → v.asked ≡ false → WalkAt most top h x path v.walk → WalkMoves step v.walk
      → VisitAt path (visiting.follow_after step room v)
  follow-at path (walks.Send call) room v idle l s = on-way path v l idle
  follow-at path walks.Wait room v idle l s = on-way path v l idle
  follow-at path (walks.At object) true v idle l s = record { walk = l; done = λ is. s.1 }
  follow-at path (walks.At object) false v idle l s = on-way path v l idle
  follow-at path (walks.Refused fault) room v idle l s = on-way path v l idle

  visit-goes : (path : List (List ℕ)) (v : Visit) (turn : Turn) (shelf : Shelf) → Kept most h shelf → IsLate h x turn.now → VisitAt path v → VisitAt path (visiting.visit_after v turn shelf)
  visit-goes path v turn shelf k late s = by v.asked refl
    where
      by : (b : Bool) → v.asked ≡ b
          → VisitAt path (if b then v else visiting.follow_after (walking.go_next v.walk turn shelf) turn.room (record v { walk = walking.go_after v.walk turn shelf }))
      by true is = s
      by false is = follow-at path (walking.go_next v.walk turn shelf) turn.room (record v { walk = walking.go_after v.walk turn shelf }) is
          (go-led most top h x within path v.walk turn shelf k.0 late k.1 s.walk) (go-step v.walk turn shelf)

  visit-takes : (path : List (List ℕ)) (v : Visit) (sent turn : Turn) (came : Result Reply Fault) (old : Shelf) (next : VisitStep) (new : Visit) (after : Shelf) (call : Call) → v.asked ≡ false
      → Kept most h old → Kept most h after → IsLate h x turn.now → VisitAt path v → WalkAwaits v.walk call → ((reply : Reply) → came ≡ Ok reply → ToldSince h x call sent.now reply)
      → visiting.VisitTakes v sent turn came old next new after → VisitAt path new
  visit-takes path v sent turn came old next new after call idle before kept late s e heard k =
      subst (VisitAt path) (sym k.visit_is)
      (follow-at path k.step turn.room k.walked (ap (λ (w : Visit). w.asked) k.walked_is ∙ idle)
      (took-led most top h x within path v.walk sent turn came old k.step k.walked.walk after call kept.0 late before.1 s.walk e heard k.takes)
      (took-step v.walk sent turn came old k.step k.walked.walk after k.takes))

  visit-by : (path : List (List ℕ)) (A : Answer → Type 0) (own : List ℕ → Call) (step : VisitStep) (new : Visit) → ((fault : Fault) → A (answers.Refused fault)) → VisitAt path new
      → ThenOf (VisitAt path) A (visiting.next_by own step) new
  visit-by path A own (visits.Look look) new refused s = s
  visit-by path A own visits.Wait new refused s = s
  visit-by path A own (visits.Ask object) new refused s = s
  visit-by path A own (visits.Refused fault) new refused s = refused fault

  pub visit-then : (path : List (List ℕ)) (A : Answer → Type 0) (own : List ℕ → Call) (v : Visit) (turn : Turn) (shelf : Shelf) (next : Step) → ((fault : Fault) → A (answers.Refused fault))
      → Kept most h shelf → IsLate h x turn.now → VisitAt path v → next ≡ visiting.next_by own (visiting.visit_next v turn shelf)
      → ThenOf (VisitAt path) A next (visiting.visit_after v turn shelf)
  visit-then path A own v turn shelf next refused k late s is =
      then-as (VisitAt path) A _ next (visiting.visit_after v turn shelf) is
      (visit-by path A own (visiting.visit_next v turn shelf) (visiting.visit_after v turn shelf) refused (visit-goes path v turn shelf k late s))

  pub walks-then : (path : List (List ℕ)) (A : Answer → Type 0) (own : List ℕ → Call) (v : Visit) (sent turn : Turn) (came : Result Reply Fault) (old : Shelf) (next : Step) (new : Visit)
      (after : Shelf) (call : Call) → ((fault : Fault) → A (answers.Refused fault)) → v.asked ≡ false → Kept most h old → Kept most h after → IsLate h x turn.now → VisitAt path v
      → WalkAwaits v.walk call → ((reply : Reply) → came ≡ Ok reply → ToldSince h x call sent.now reply) → visiting.Walks own v sent turn came old next new after → ThenOf (VisitAt path) A next new
  walks-then path A own v sent turn came old next new after call refused idle before kept late s e heard w =
      then-as (VisitAt path) A _ next new w.next_is
      (visit-by path A own w.step new refused (visit-takes path v sent turn came old w.step new after call idle before kept late s e heard w.takes))

pub visit-grows : (most : ℕ) (top : List ℕ) (h : List Entry) (e : Entry) (x : ℕ) → x < length h → (path : List (List ℕ)) (v : Visit) → VisitLed most top h x path v
    → VisitLed most top (h ++ e ∷ []) x path v
visit-grows most top h e x within path v s = record { walk = walk-grows h e most x top path v.walk within s.walk; done = s.done }
