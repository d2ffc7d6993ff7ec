-- Each step of a lane leaves the other lanes as they are.
use Rattle.core_session.proofs.Prelude.{◌≡◌, ◌≢◌, ℕ, inl, inr, List, [], ◌∷◌, ◌++◌, length, Some, Result, slice_get, refl, sym, ap, subst, ◌∙◌, Fault, Reply, Turn, Step, Machine, Lane, State, Busy, Over, with_state, Stirs, counted, StartsLane, TakesAt, Leads, View, taken_one, at-set, at-push, set-other}
use Rattle.client_shelf.specs.declared.step.Step.TheVariants as nexts
use Rattle.core_session.proofs.syncs.Plans.{stays-but, push-but}
use Rattle.core_session.proofs.syncs.Seen.{ButFor}

-- the state of the lane at a place afterwards
record LeadsTo (lanes : List Lane) (at number : ℕ) (new : View) : Type 0 where
  state : State
  here : slice_get new.lanes at ≡ Some (record { number = number; state = state })
  others : (k : ℕ) → k ≢ at → slice_get new.lanes k ≡ slice_get lanes k

leads-to : (v new : View) (at number : ℕ) (machine : Machine) (next : Step) → slice_get v.lanes at ≡ Some (record { number = number; state = Busy machine }) → Leads v at number machine next new
    → LeadsTo v.lanes at number new
leads-to v new at number machine (nexts.Send call) there (inl made) = subst (LeadsTo v.lanes at number) (sym made.is) (record { state = Busy machine; here = there; others = λ k other. refl })
leads-to v new at number machine (nexts.Send call) there (inr r) = subst (LeadsTo v.lanes at number) (sym r.is) (record {
  state = r.state;
  here = at-set v.lanes at (record { number = number; state = Busy machine }) (record { number = number; state = r.state }) there;
  others = λ k other. set-other v.lanes at k (record { number = number; state = r.state }) other;
})
leads-to v new at number machine nexts.Wait there is = subst (LeadsTo v.lanes at number) (sym is) (record { state = Busy machine; here = there; others = λ k other. refl })
leads-to v new at number machine (nexts.Done answer) there is = subst (LeadsTo v.lanes at number) (sym is) (record {
  state = Over answer;
  here = at-set v.lanes at (record { number = number; state = Busy machine }) (record { number = number; state = Over answer }) there;
  others = λ k other. set-other v.lanes at k (record { number = number; state = Over answer }) other;
})

-- it came to this state, and the other lanes stayed
pub record SteppedTo (f : List ℕ) (lanes new : List Lane) (at number : ℕ) : Type 0 where
  pub state : State
  pub but : ButFor f lanes new at (record { number = number; state = state })

module _ (f : List ℕ) where
  set-to : (old v new : View) (at number : ℕ) (machine after : Machine) (next : Step) → v.lanes ≡ (with_state old at number (Busy after) v.shelf).lanes → slice_get old.lanes at ≡ Some (record { number = number; state = Busy machine })
      → Leads v at number after next new → SteppedTo f old.lanes new.lanes at number
  set-to old v new at number machine after next is there l =
      let here = ap (λ (ls : List Lane). slice_get ls at) is ∙ at-set old.lanes at (record { number = number; state = Busy machine }) (record { number = number; state = Busy after }) there in
      let to = leads-to v new at number after next here l in
      record {
        state = to.state;
        but = stays-but f old.lanes new.lanes at (record { number = number; state = to.state }) to.here
            (λ k other. to.others k other ∙ ap (λ (ls : List Lane). slice_get ls k) is ∙ set-other old.lanes at k (record { number = number; state = Busy after }) other);
      }

  pub stirs-but : (old new : View) (at : ℕ) → (t : Stirs old at new) → SteppedTo f old.lanes new.lanes at t.number
  stirs-but old new at t = set-to old (with_state old at t.number (Busy t.after) t.shelf) new at t.number t.machine t.after t.next refl t.there t.leads

  pub takes-but : (old new : View) (xid at : ℕ) (sent : Turn) (came : Result Reply Fault) → (t : TakesAt (taken_one old xid) at sent came new) → SteppedTo f old.lanes new.lanes at t.number
  takes-but old new xid at sent came t = set-to old (with_state (taken_one old xid) at t.number (Busy t.after) t.shelf) new at t.number t.machine t.after t.next refl t.there t.leads

  pub starts-but : (old new : View) (now lane : ℕ) (machine : Machine) → StartsLane (counted old now) lane machine new → SteppedTo f old.lanes new.lanes (length old.lanes) lane
  starts-but old new now lane machine t =
      let v : View = record (counted old now) { lanes = old.lanes ++ record { number = lane; state = Busy t.after } ∷ []; shelf = t.shelf } in
      let to = leads-to v new (length old.lanes) lane t.after t.next (at-push old.lanes (record { number = lane; state = Busy t.after })) t.leads in
      record {
        state = to.state;
        but = push-but f old.lanes new.lanes (record { number = lane; state = Busy t.after }) (record { number = lane; state = to.state }) to.here to.others;
      }
