-- A fact that the steps of lanes keep is kept by each call of the core.
use Rattle.core_facts.proofs.Prelude.{◌≡◌, inl, inr, ℕ, List, [], ◌∷◌, ◌++◌, length, Bool, true, false, Option, Some, None, MatchOption, position, slice_get, sym, subst, said_of, Step, Send, Wait, Done, Shelf, Refused, Call, Machine, Purpose, State, Busy, Over, is_busy, View, IsBusyAt, with_state, Makes, Leads, Stirs, Moves, moves_none, moves_more, counted, StartsLane, BeginsIf, TakesAt, HearsFor}
use Rattle.client_core.specs.Steps.{Begins, HearsOwn}
use Rattle.world_model.specs.declared.answer.Fault.TheVariants as faults
use Rattle.core_facts.proofs.Lists.{at-set, at-push}

-- The fact stays where a call is made, and where the lane at a place comes to another state with another shelf.
pub record Stays (P : View → Type 0) : Type 0 where
  pub makes : (old new : View) (number : ℕ) (call : Call) → Makes old number call new → P old → P new
  pub sets : (old : View) (at number : ℕ) (was state : State) (shelf : Shelf) → slice_get old.lanes at ≡ Some (record { number = number; state = was })
      → P old → P (with_state old at number state shelf)

module _ (P : View → Type 0) (s : Stays P) where
  pub leads-stays : (old new : View) (at number : ℕ) (machine : Machine) (next : Step) → IsBusyAt old at number machine → Leads old at number machine next new → P old → P new
  leads-stays old new at number machine (Send call) there (inl made) p = s.makes old new number call made p
  leads-stays old new at number machine (Send call) there (inr refused) p = subst P (sym refused.is) (s.sets old at number (Busy machine) refused.state refused.left there p)
  leads-stays old new at number machine Wait there is p = subst P (sym is) p
  leads-stays old new at number machine (Done answer) there is p = subst P (sym is) (s.sets old at number (Busy machine) (Over answer) old.shelf there p)

  -- a step of the operation at a place, and what it leads to
  pub steps-stay : (old new : View) (at number : ℕ) (machine after : Machine) (shelf : Shelf) (next : Step) → IsBusyAt old at number machine
      → Leads (with_state old at number (Busy after) shelf) at number after next new → P old → P new
  steps-stay old new at number machine after shelf next there leads p =
      leads-stays (with_state old at number (Busy after) shelf) new at number after next
      (at-set old.lanes at (record { number = number; state = Busy machine }) (record { number = number; state = Busy after }) there) leads
      (s.sets old at number (Busy machine) (Busy after) shelf there p)

  pub stirs-stay : (old new : View) (at : ℕ) → Stirs old at new → P old → P new
  stirs-stay old new at t p = steps-stay old new at t.number t.machine t.after t.shelf t.next t.there t.leads p

  pub moves-stay : (old new : View) → Moves old new → P old → P new
  moves-stay _ _ (moves_none old new e) p = subst P (sym e) p
  moves-stay _ _ (moves_more old mid new at m room t first) p = stirs-stay mid new at t (moves-stay old mid m p)

  -- the view with one lane more
  pub starts-stay : (old new : View) (number : ℕ) (machine : Machine)
      → ((state : State) (shelf : Shelf) → P (record old { lanes = old.lanes ++ record { number = number; state = state } ∷ []; shelf = shelf })) → StartsLane old number machine new → P new
  starts-stay old new number machine p t =
      leads-stays (record old { lanes = old.lanes ++ record { number = number; state = Busy t.after } ∷ []; shelf = t.shelf }) new (length old.lanes) number t.after t.next
      (at-push old.lanes (record { number = number; state = Busy t.after })) t.leads (p (Busy t.after) t.shelf)

  begins-by : (b : Bool) (old new : View) (number : ℕ) (machine : Machine) (now : ℕ)
      → ((state : State) (shelf : Shelf) → P (record (counted old now) { lanes = old.lanes ++ record { number = number; state = state } ∷ []; shelf = shelf })) → BeginsIf b old number machine now new → P new
  begins-by true old new number machine now p is = subst P (sym is) (p (Over (Refused faults.Lost)) old.shelf)
  begins-by false old new number machine now p b = moves-stay b.first new b.rest (starts-stay (counted old now) b.first number machine p b.own)

  pub begins-stay : (old new : View) (number : ℕ) (machine : Machine) (now : ℕ)
      → ((state : State) (shelf : Shelf) → P (record (counted old now) { lanes = old.lanes ++ record { number = number; state = state } ∷ []; shelf = shelf })) → Begins old number machine now new → P new
  begins-stay old new number machine now p b = begins-by old.lost old new number machine now p b

  hears-own-stay : (old new : View) (rec : List ℕ) (purpose : Purpose) → HearsOwn old rec purpose new → P old → P new
  hears-own-stay old new rec purpose h p = by (position (is_busy purpose.lane) old.lanes) h
    where
      by : (o : Option ℕ) → MatchOption o (new ≡ old) (λ at. TakesAt old at purpose.sent (said_of purpose.proc rec) new) → P new
      by None is = subst P (sym is) p
      by (Some at) t = steps-stay old new at t.number t.machine t.after t.shelf t.next t.there t.leads p

  pub hears-for-stay : (old new : View) (rec : List ℕ) (purpose : Purpose) → HearsFor old rec purpose new → P old → P new
  hears-for-stay old new rec purpose h p = moves-stay h.first new h.rest (hears-own-stay old h.first rec purpose h.own p)
