-- A step of a lane: a step of its operation, and one more where the call that it asks for isn't made.
use Rattle.core_session.proofs.Prelude.{◌≡◌, ℕ, zero, suc, List, [], ◌∷◌, ◌++◌, length, slice_set, Result, Err, inl, inr, refl, sym, ap, ◌∙◌, Fault, Call, Reply, Step, Send, Wait, Done, Shelf, Turn, Machine, Starts, Resumes, Takes, Lane, State, Busy, Over, with_state, IsRefused, Leads, Stirs, StartsLane, TakesAt, View, turn_at, unmade_turn}

-- what a step leads to, where its call is made
abbrev pub Settles : Step → Machine → State → Type 0
Settles (Send call) new state = state ≡ Busy new
Settles Wait new state = state ≡ Busy new
Settles (Done answer) new state = state ≡ Over answer

-- From one of the steps S the operation comes to a state, with this shelf.
pub data Leading (wsize : ℕ) (S : Step → Machine → Shelf → Type 0) (state : State) (after : Shelf) : Type 0 where
  settles : (next : Step) (new : Machine) → S next new after → Settles next new state → Leading wsize S state after
  unmade : (call : Call) (mid : Machine) (between : Shelf) (sent turn : Turn) (fault : Fault) (next : Step) (new : Machine) → S (Send call) mid between
      → Takes wsize mid sent turn (Err fault) between next new after → IsRefused new next state → Leading wsize S state after

set-set : {A : Type 0} → (xs : List A) (at : ℕ) (x y : A) → slice_set (slice_set xs at x) at y ≡ slice_set xs at y
set-set [] at x y = refl
set-set (z ∷ zs) zero x y = refl
set-set (z ∷ zs) (suc at) x y = ap (λ ws. z ∷ ws) (set-set zs at x y)

pub set-push : {A : Type 0} → (xs : List A) (x y : A) → slice_set (xs ++ x ∷ []) (length xs) y ≡ xs ++ y ∷ []
set-push [] x y = refl
set-push (z ∷ zs) x y = ap (λ ws. z ∷ ws) (set-push zs x y)

-- the lane at a place has come to a state
pub record Led (wsize : ℕ) (S : Step → Machine → Shelf → Type 0) (lanes : List Lane) (at number : ℕ) (new : View) : Type 0 where
  pub state : State
  pub leading : Leading wsize S state new.shelf
  pub lanes_are : new.lanes ≡ slice_set lanes at (record { number = number; state = state })

module _ (wsize : ℕ) (S : Step → Machine → Shelf → Type 0) (at number : ℕ) where
  leads-led : (v new : View) (lanes : List Lane) (next : Step) (machine : Machine) → v.wsize ≡ wsize → v.lanes ≡ slice_set lanes at (record { number = number; state = Busy machine })
      → S next machine v.shelf → Leads v at number machine next new → Led wsize S lanes at number new
  leads-led v new lanes (Send call) machine size is s (inl m) = record {
    state = Busy machine;
    leading = rw (m.is) (settles (Send call) machine s refl);
    lanes_are = ap (λ (w : View). w.lanes) m.is ∙ is;
  }
  leads-led v new lanes (Send call) machine size is s (inr f) = record {
    state = f.state;
    leading = rw (f.is) (unmade call machine v.shelf (turn_at v) (unmade_turn v) f.fault f.next f.after s (rw (← size) f.takes) f.leads);
    lanes_are = ap (λ (w : View). w.lanes) f.is ∙ ap (λ (ls : List Lane). slice_set ls at (record { number = number; state = f.state })) is
        ∙ set-set lanes at (record { number = number; state = Busy machine }) (record { number = number; state = f.state });
  }
  leads-led v new lanes Wait machine size is s w = record {
    state = Busy machine;
    leading = rw w (settles Wait machine s refl);
    lanes_are = ap (λ (k : View). k.lanes) w ∙ is;
  }
  leads-led v new lanes (Done answer) machine size is s w = record {
    state = Over answer;
    leading = rw w (settles (Done answer) machine s refl);
    lanes_are = ap (λ (k : View). k.lanes) w ∙ ap (λ (ls : List Lane). slice_set ls at (record { number = number; state = Over answer })) is
        ∙ set-set lanes at (record { number = number; state = Busy machine }) (record { number = number; state = Over answer });
  }

pub stirs-led : (old new : View) (at : ℕ) (t : Stirs old at new)
    → Led old.wsize (λ next machine shelf. Resumes old.wsize t.machine (turn_at old) old.shelf next machine shelf) old.lanes at t.number new
stirs-led old new at t =
    leads-led old.wsize (λ next machine shelf. Resumes old.wsize t.machine (turn_at old) old.shelf next machine shelf) at t.number
    (with_state old at t.number (Busy t.after) t.shelf) new old.lanes t.next t.after refl refl t.resumes t.leads

pub takes-led : (old new : View) (at : ℕ) (sent : Turn) (came : Result Reply Fault) (t : TakesAt old at sent came new)
    → Led old.wsize (λ next machine shelf. Takes old.wsize t.machine sent (turn_at old) came old.shelf next machine shelf) old.lanes at t.number new
takes-led old new at sent came t =
    leads-led old.wsize (λ next machine shelf. Takes old.wsize t.machine sent (turn_at old) came old.shelf next machine shelf) at t.number
    (with_state old at t.number (Busy t.after) t.shelf) new old.lanes t.next t.after refl refl t.takes t.leads

-- a lane that begins is the last
pub record Pushed (wsize : ℕ) (S : Step → Machine → Shelf → Type 0) (lanes : List Lane) (number : ℕ) (new : View) : Type 0 where
  pub state : State
  pub leading : Leading wsize S state new.shelf
  pub lanes_are : new.lanes ≡ lanes ++ record { number = number; state = state } ∷ []

pub starts-led : (old new : View) (number : ℕ) (machine : Machine) (t : StartsLane old number machine new)
    → Pushed old.wsize (λ next new shelf. Starts old.wsize machine (turn_at old) old.shelf next new shelf) old.lanes number new
starts-led old new number machine t =
    let l = leads-led old.wsize (λ next new shelf. Starts old.wsize machine (turn_at old) old.shelf next new shelf) (length old.lanes) number
    (record old { lanes = old.lanes ++ record { number = number; state = Busy t.after } ∷ []; shelf = t.shelf }) new (old.lanes ++ record { number = number; state = Busy t.after } ∷ [])
    t.next t.after refl (sym (set-push old.lanes (record { number = number; state = Busy t.after }) (record { number = number; state = Busy t.after }))) t.starts t.leads in
    record {
      state = l.state;
      leading = l.leading;
      lanes_are = l.lanes_are ∙ set-push old.lanes (record { number = number; state = Busy t.after }) (record { number = number; state = l.state });
    }
