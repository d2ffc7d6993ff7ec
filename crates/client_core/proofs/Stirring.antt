-- A lane that goes on, and one that waits.
use Rattle.std.proofs.Common.{◌≡◌, ◌≢◌, ◌<◌, ℕ, List, [], ◌∷◌, length, Bool, true, false, Option, Some, None, slice_get, slice_set, get_or, Result, refl, sym, ap, subst, ◌∙◌}
use Rattle.rpc_retry.specs.Held.{Held}
use Rattle.world_model.specs.declared.answer.Answer.{Answer}
use Rattle.world_model.specs.declared.answer.Fault.{Fault}
use Rattle.world_model.specs.declared.message.Reply.{Reply}
use Rattle.client_shelf.specs.declared.step.Step.{Step}
use Rattle.client_shelf.specs.declared.step.Step.TheVariants.{Send, Wait, Done}
use Rattle.client_shelf.specs.declared.shelf.Shelf.{Shelf}
use Rattle.client_shelf.specs.declared.turn.Turn.{Turn}
use Rattle.op_machines.specs.declared.machine.Machine.{Machine}
use Rattle.op_machines.specs.Steps.{Resumes, Takes}
use Rattle.client_core.specs.declared.lane.Lane.{Lane}
use Rattle.client_core.specs.declared.lane.State.{State}
use Rattle.client_core.specs.declared.lane.State.TheVariants.{Busy, Over}
use Rattle.client_core.specs.Lanes.{StateResumes, StateTakes, LaneResumes, LaneTakes, is_busy_at, busy_in, waits}
use Rattle.client_core.specs.View.{View, has_room, turn_at, IsSound}
use Rattle.client_core.specs.Between.{Awaits}
use Rattle.client_core.specs.StepLaws.{StepLaws}
use Rattle.client_core.specs.Steps.{IsBusyAt, with_state, Leads, Stirs, Rests, StirsIf, TakesAt}
use Rattle.client_core.proofs.Places.{lane_of, at-read, at-set, set-same, same-machine, is-busy, IsUnderWay, under-way, machine_in}
use Rattle.client_core.proofs.Awaiting.{resumed, took}

-- the view after a step of a lane, before what it leads to
abbrev pub stepped : View → ℕ → Lane → Shelf → View
stepped v at lane shelf = record v { lanes = slice_set v.lanes at lane; shelf = shelf }

-- ---- a lane that waits

not-busy : (lanes : List Lane) (at number other : ℕ) (answer : Answer) (machine : Machine) → slice_get lanes at ≡ Some (record { number = number; state = Over answer }) → slice_get lanes at ≡ Some (record { number = other; state = Busy machine }) → ⊥
not-busy lanes at number other answer machine here there = let no-way : false ≡ true = ap busy_in (sym here ∙ there) in absurd cc

over-rests : (v : View) (at number : ℕ) (answer : Answer) → slice_get v.lanes at ≡ Some (record { number = number; state = Over answer }) → Rests v at
over-rests v at number answer there other machine here = absurd (not-busy v.lanes at number other answer machine there here)

same-rests : (v : View) (at number : ℕ) (machine : Machine) → IsBusyAt v at number machine → Resumes v.wsize machine (turn_at v) v.shelf Wait machine v.shelf → Rests v at
same-rests v at number machine there waits other another here =
    subst (λ (m : Machine). Resumes v.wsize m (turn_at v) v.shelf Wait m v.shelf) (same-machine v.lanes at number other machine another there here) waits

same-view : (v : View) (at : ℕ) (lane new : Lane) (shelf : Shelf) → slice_get v.lanes at ≡ Some lane → new ≡ lane → shelf ≡ v.shelf → stepped v at new shelf ≡ v
same-view v at lane new shelf there is same =
    ap (λ (l : Lane). stepped v at l shelf) is
    ∙ ap (λ (s : Shelf). stepped v at lane s) same
    ∙ ap (λ (ls : List Lane). record v { lanes = ls }) (set-same v.lanes at lane there)

same-lane : (lane new : Lane) → new.state ≡ lane.state → new.number ≡ lane.number → new ≡ lane
same-lane lane new state number = ap (λ (n : ℕ). lane_of n new.state) number ∙ ap (λ (s : State). lane_of lane.number s) state

pub waits-still : (laws : StepLaws) (v : View) (at : ℕ) (lane new : Lane) (shelf : Shelf) → has_room v ≡ true → slice_get v.lanes at ≡ Some lane
    → LaneResumes v.wsize lane (turn_at v) v.shelf Wait new shelf → StirsIf v at false (stepped v at new shelf)
waits-still laws v at lane new shelf room there r = by lane.state refl r.0
  where
    by : (state : State) → lane.state ≡ state → StateResumes v.wsize state (turn_at v) v.shelf Wait new.state shelf → StirsIf v at false (stepped v at new shelf)
    by (Busy machine) is o =
        let still = laws.still v.wsize machine (turn_at v) v.shelf Wait o.after shelf room o.resumes refl in
        let here : IsBusyAt v at lane.number machine = there ∙ ap (λ (s : State). Some (lane_of lane.number s)) is in
        let waits : Resumes v.wsize machine (turn_at v) v.shelf Wait machine v.shelf = subst (λ (s : Shelf). Resumes v.wsize machine (turn_at v) v.shelf Wait machine s) still.1 (subst (λ (m : Machine). Resumes v.wsize machine (turn_at v) v.shelf Wait m shelf) still.0 o.resumes) in
        (same-view v at lane new shelf there (same-lane lane new (o.state_is ∙ ap (λ (m : Machine). Busy m) still.0 ∙ sym is) r.1) still.1, same-rests v at lane.number machine here waits)
    by (Over answer) is o = (
      same-view v at lane new shelf there (same-lane lane new (o.state_is ∙ sym is) r.1) o.shelf_is,
      over-rests v at lane.number answer (there ∙ ap (λ (s : State). Some (lane_of lane.number s)) is),
    )

-- ---- a lane that goes on

-- the step of the operation that is under way there
pub record StepsOn (v : View) (at : ℕ) (next : Step) (new : Lane) (shelf : Shelf) : Type 0 where
  pub number : ℕ
  pub machine : Machine
  pub after : Machine
  pub there : IsBusyAt v at number machine
  pub new_is : new ≡ record { number = number; state = Busy after }
  pub resumes : Resumes v.wsize machine (turn_at v) v.shelf next after shelf

pub steps-on : (v : View) (at : ℕ) (next : Step) (lane new : Lane) (shelf : Shelf) → (next ≡ Wait → ⊥) → slice_get v.lanes at ≡ Some lane → LaneResumes v.wsize lane (turn_at v) v.shelf next new shelf → StepsOn v at next new shelf
steps-on v at next lane new shelf goes there r = by lane.state refl r.0
  where
    by : (state : State) → lane.state ≡ state → StateResumes v.wsize state (turn_at v) v.shelf next new.state shelf → StepsOn v at next new shelf
    by (Busy machine) is o = record {
      number = lane.number;
      machine = machine;
      after = o.after;
      there = there ∙ ap (λ (s : State). Some (lane_of lane.number s)) is;
      new_is = ap (λ (n : ℕ). lane_of n new.state) r.1 ∙ ap (λ (s : State). lane_of lane.number s) o.state_is;
      resumes = o.resumes;
    }
    by (Over answer) is o = absurd (goes o.next_is)

pub on-awaits : (laws : StepLaws) (v : View) (at : ℕ) (next : Step) (new : Lane) (shelf : Shelf) → IsSound v → StepsOn v at next new shelf → Awaits (stepped v at new shelf) at next
on-awaits laws v at next new shelf s o =
    subst (λ (l : Lane). Awaits (stepped v at l shelf) at next) (sym o.new_is) (resumed laws v at o.number o.machine o.after next shelf s o.there o.resumes)

on-there : (v : View) (at : ℕ) (next : Step) (new : Lane) (shelf : Shelf) (o : StepsOn v at next new shelf) → IsBusyAt (stepped v at new shelf) at o.number o.after
on-there v at next new shelf o = at-set v.lanes at (record { number = o.number; state = Busy o.machine }) new o.there ∙ ap (λ (l : Lane). Some l) o.new_is

pub on-busy : (v : View) (at : ℕ) (next : Step) (new : Lane) (shelf : Shelf) → StepsOn v at next new shelf → is_busy_at at (slice_set v.lanes at new) ≡ true
on-busy v at next new shelf o = is-busy (slice_set v.lanes at new) at o.number o.after (on-there v at next new shelf o)

pub on-stirs : (v : View) (at : ℕ) (next : Step) (new : Lane) (shelf : Shelf) (last : View) → StepsOn v at next new shelf → (next ≡ Wait → ⊥)
    → ((number : ℕ) (machine : Machine) → IsBusyAt (stepped v at new shelf) at number machine → Leads (stepped v at new shelf) at number machine next last) → Stirs v at last
on-stirs v at next new shelf last o goes leads = record {
  number = o.number;
  machine = o.machine;
  there = o.there;
  next = next;
  after = o.after;
  shelf = shelf;
  resumes = o.resumes;
  goes = goes;
  leads = subst (λ (l : Lane). Leads (stepped v at l shelf) at o.number o.after next last) o.new_is (leads o.number o.after (on-there v at next new shelf o));
}

-- ---- a lane whose operation takes what came of a call

pub record StepsBy (v : View) (at : ℕ) (sent : Turn) (came : Result Reply Fault) (turn : Turn) (next : Step) (new : Lane) (shelf : Shelf) : Type 0 where
  pub number : ℕ
  pub machine : Machine
  pub after : Machine
  pub there : IsBusyAt v at number machine
  pub new_is : new ≡ record { number = number; state = Busy after }
  pub takes : Takes v.wsize machine sent turn came v.shelf next after shelf

pub steps-by : (v : View) (at : ℕ) (sent : Turn) (came : Result Reply Fault) (turn : Turn) (next : Step) (lane new : Lane) (shelf : Shelf) → is_busy_at at v.lanes ≡ true → slice_get v.lanes at ≡ Some lane
    → LaneTakes v.wsize lane sent turn came v.shelf next new shelf → StepsBy v at sent came turn next new shelf
steps-by v at sent came turn next lane new shelf busy there r = by lane.state refl r.0
  where
    way : IsUnderWay v.lanes at
    way = under-way v.lanes at busy

    by : (state : State) → lane.state ≡ state → StateTakes v.wsize state sent turn came v.shelf next new.state shelf → StepsBy v at sent came turn next new shelf
    by (Busy machine) is o = record {
      number = lane.number;
      machine = machine;
      after = o.after;
      there = there ∙ ap (λ (s : State). Some (lane_of lane.number s)) is;
      new_is = ap (λ (n : ℕ). lane_of n new.state) r.1 ∙ ap (λ (s : State). lane_of lane.number s) o.state_is;
      takes = o.takes;
    }
    by (Over answer) is o = absurd (not-busy v.lanes at lane.number way.number answer way.machine (there ∙ ap (λ (s : State). Some (lane_of lane.number s)) is) way.there)

pub by-there : (v : View) (at : ℕ) (sent : Turn) (came : Result Reply Fault) (turn : Turn) (next : Step) (new : Lane) (shelf : Shelf) (o : StepsBy v at sent came turn next new shelf) → IsBusyAt (stepped v at new shelf) at o.number o.after
by-there v at sent came turn next new shelf o = at-set v.lanes at (record { number = o.number; state = Busy o.machine }) new o.there ∙ ap (λ (l : Lane). Some l) o.new_is

pub by-busy : (v : View) (at : ℕ) (sent : Turn) (came : Result Reply Fault) (turn : Turn) (next : Step) (new : Lane) (shelf : Shelf) → StepsBy v at sent came turn next new shelf → is_busy_at at (slice_set v.lanes at new) ≡ true
by-busy v at sent came turn next new shelf o = is-busy (slice_set v.lanes at new) at o.number o.after (by-there v at sent came turn next new shelf o)

pub by-awaits : (laws : StepLaws) (v : View) (at : ℕ) (sent : Turn) (came : Result Reply Fault) (next : Step) (new : Lane) (shelf : Shelf)
    → IsSound v → v.shelf.seq < v.moments → StepsBy v at sent came (turn_at v) next new shelf → Awaits (stepped v at new shelf) at next
by-awaits laws v at sent came next new shelf s seq o =
    subst (λ (l : Lane). Awaits (stepped v at l shelf) at next) (sym o.new_is) (took laws v at o.number o.machine o.after sent came next shelf s seq o.there o.takes)

pub by-takes : (v : View) (at : ℕ) (sent : Turn) (came : Result Reply Fault) (next : Step) (new : Lane) (shelf : Shelf) (last : View) → StepsBy v at sent came (turn_at v) next new shelf
    → ((number : ℕ) (machine : Machine) → IsBusyAt (stepped v at new shelf) at number machine → Leads (stepped v at new shelf) at number machine next last) → TakesAt v at sent came last
by-takes v at sent came next new shelf last o leads = record {
  number = o.number;
  machine = o.machine;
  there = o.there;
  next = next;
  after = o.after;
  shelf = shelf;
  takes = o.takes;
  leads = subst (λ (l : Lane). Leads (stepped v at l shelf) at o.number o.after next last) o.new_is (leads o.number o.after (by-there v at sent came (turn_at v) next new shelf o));
}

-- ---- whether a step waits

pub does-wait : (next : Step) → waits next ≡ true → next ≡ Wait
does-wait (Send call) h = absurd (cc)
does-wait Wait h = refl
does-wait (Done answer) h = absurd (cc)

pub goes-on : (next : Step) → waits next ≡ false → next ≡ Wait → ⊥
goes-on next h is = let no-way : true ≡ false = sym (ap waits is) ∙ h in absurd cc

-- ---- a step that was told the turn of the view

pub told-resumes : (v : View) (turn : Turn) (next : Step) (lane new : Lane) (shelf : Shelf) → turn ≡ turn_at v → LaneResumes v.wsize lane turn v.shelf next new shelf → LaneResumes v.wsize lane (turn_at v) v.shelf next new shelf
told-resumes v turn next lane new shelf is r = subst (λ (t : Turn). LaneResumes v.wsize lane t v.shelf next new shelf) is r

pub told-takes : (v : View) (sent : Turn) (came : Result Reply Fault) (turn to : Turn) (next : Step) (lane new : Lane) (shelf : Shelf) → turn ≡ to → LaneTakes v.wsize lane sent turn came v.shelf next new shelf → LaneTakes v.wsize lane sent to came v.shelf next new shelf
told-takes v sent came turn to next lane new shelf is r = subst (λ (t : Turn). LaneTakes v.wsize lane sent t came v.shelf next new shelf) is r

pub waits-as : (v : View) (next : Step) (lane new : Lane) (shelf : Shelf) → waits next ≡ true → LaneResumes v.wsize lane (turn_at v) v.shelf next new shelf → LaneResumes v.wsize lane (turn_at v) v.shelf Wait new shelf
waits-as v next lane new shelf h r = subst (λ (n : Step). LaneResumes v.wsize lane (turn_at v) v.shelf n new shelf) (does-wait next h) r

-- the view within a core and as it is seen
pub seen-turn : (v now : View) (turn : Turn) → v ≡ now → turn ≡ turn_at now → turn ≡ turn_at v
seen-turn v now turn is told = told ∙ ap (λ (w : View). turn_at w) (sym is)
