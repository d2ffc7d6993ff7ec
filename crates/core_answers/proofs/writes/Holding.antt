-- A fact of what is pending and one of each operation under way, over what a step of a lane leads to.
use Rattle.core_answers.proofs.Prelude.{◌≡◌, ◌⊎◌, inl, inr, ℕ, List, [], ◌∷◌, ◌++◌, length, Some, slice_get, slice_set, Err, sym, subst, ◌∙◌, Fault, Pending, Step, Send, Wait, Done, Shelf, Machine, Takes, Lane, State, Busy, Over, IsRefused, Leads, View, turn_at, unmade_turn, at-set, get-push, get-remove, skip, by-place, set-other}
use Rattle.std.proofs.Common.{remove}

abbrev pub StateHas : (Machine → Type 0) → State → Type 0
StateHas K (Busy machine) = K machine
StateHas K (Over answer) = Unit {0}

abbrev pub LanesHave : (Machine → Type 0) → List Lane → Type 0
LanesHave K lanes = (k : ℕ) (lane : Lane) → slice_get lanes k ≡ Some lane → StateHas K lane.state

-- J of what is pending, and K of each operation under way
pub record Holds (J : Pending → Type 0) (K : Machine → Type 0) (v : View) : Type 0 where
  pub back : J v.shelf.back
  pub lanes : LanesHave K v.lanes

-- with more in a history
pub state-map : (K L : Machine → Type 0) → ((m : Machine) → K m → L m) → (state : State) → StateHas K state → StateHas L state
state-map K L f (Busy machine) s = f machine s
state-map K L f (Over answer) s = tt

pub lanes-map : (K L : Machine → Type 0) → ((m : Machine) → K m → L m) → (lanes : List Lane) → LanesHave K lanes → LanesHave L lanes
lanes-map K L f lanes s k lane there = state-map K L f lane.state (s k lane there)

pub lanes-without : (K : Machine → Type 0) (lanes : List Lane) (at : ℕ) → LanesHave K lanes → LanesHave K (remove lanes at)
lanes-without K lanes at s k lane there = s (skip at k) lane (get-remove lanes at k lane there)

pub lanes-push : (K : Machine → Type 0) (lanes : List Lane) (number : ℕ) (state : State) → LanesHave K lanes → StateHas K state
    → LanesHave K (lanes ++ record { number = number; state = state } ∷ [])
lanes-push K lanes number state s own k lane there = by (get-push lanes (record { number = number; state = state }) k lane there)
  where
    by : (slice_get lanes k ≡ Some lane) ⊎ ((k ≡ length lanes) × (lane ≡ record { number = number; state = state })) → StateHas K lane.state
    by (inl old) = s k lane old
    by (inr new) = subst (λ (l : Lane). StateHas K l.state) (sym new.1) own

pub lanes-set : (K : Machine → Type 0) (lanes : List Lane) (at number : ℕ) (was state : State) → slice_get lanes at ≡ Some (record { number = number; state = was })
    → LanesHave K lanes → StateHas K state → LanesHave K (slice_set lanes at (record { number = number; state = state }))
lanes-set K lanes at number was state there s own =
    by-place (λ (l : Lane). StateHas K l.state) (slice_set lanes at (record { number = number; state = state })) at (record { number = number; state = state })
    (at-set lanes at (record { number = number; state = was }) (record { number = number; state = state }) there) own
    (λ k lane here apart. s k lane (sym (set-other lanes at k (record { number = number; state = state }) apart) ∙ here))

-- what a call that isn't made leaves
abbrev pub Unmade : (Pending → Type 0) → (Machine → Type 0) → View → Machine → Type 0
Unmade J K v machine = (fault : Fault) (next : Step) (after : Machine) (left : Shelf) → Takes v.wsize machine (turn_at v) (unmade_turn v) (Err fault) v.shelf next after left
    → J left.back × K after

pub leads-holds : (J : Pending → Type 0) (K : Machine → Type 0) (v new : View) (at number : ℕ) (machine : Machine) (next : Step)
    → slice_get v.lanes at ≡ Some (record { number = number; state = Busy machine }) → Holds J K v → Unmade J K v machine → Leads v at number machine next new → Holds J K new
leads-holds J K v new at number machine (Send call) there i unmade (inl m) = subst (Holds J K) (sym m.is) (record { back = i.back; lanes = i.lanes })
leads-holds J K v new at number machine (Send call) there i unmade (inr f) = subst (Holds J K) (sym f.is) (record {
  back = left.0;
  lanes = lanes-set K v.lanes at number (Busy machine) f.state there i.lanes (by f.next f.leads);
})
  where
    left : J f.left.back × K f.after
    left = unmade f.fault f.next f.after f.left f.takes

    by : (next : Step) → IsRefused f.after next f.state → StateHas K f.state
    by (Send again) is = absurd is
    by Wait is = subst (StateHas K) (sym is) left.1
    by (Done answer) is = subst (StateHas K) (sym is) tt
leads-holds J K v new at number machine Wait there i unmade is = subst (Holds J K) (sym is) i
leads-holds J K v new at number machine (Done answer) there i unmade is = subst (Holds J K) (sym is) (record {
  back = i.back;
  lanes = lanes-set K v.lanes at number (Busy machine) (Over answer) there i.lanes tt;
})
