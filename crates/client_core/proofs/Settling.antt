-- Lanes go on only so often: each step makes a call, of which 32 wait at most, or ends an operation, or loses a call that it may ask for.
use Rattle.std.proofs.Common.{◌≡◌, ◌+◌, ◌-◌, ◌*◌, ◌≤◌, ◌<◌, ℕ, zero, suc, List, [], ◌∷◌, ◌++◌, length, Bool, true, false, Some, slice_get, slice_set, nat_lt, Result, Err, refl, sym, ap, subst, ◌∙◌, inl, inr, ◌⊎◌, arith}
use Rattle.std.proofs.lemmas.Bool.{ltb-true}
use Rattle.std.proofs.lemmas.List.{length_push}
use Rattle.rpc_retry.specs.Held.{next_xid}
use Rattle.rpc_retry.specs.Waiting.{made_call}
use Rattle.rpc_retry.specs.Put.{call_bytes}
use Rattle.nfs_types.specs.declared.program.TheConstants.{NFS_PROGRAM}
use Rattle.world_model.specs.declared.answer.Answer.{Answer}
use Rattle.world_model.specs.declared.message.Call.{Call}
use Rattle.world_model.specs.Messages.{proc_of}
use Rattle.client_shelf.specs.declared.step.Step.{Step}
use Rattle.client_shelf.specs.declared.step.Step.TheVariants.{Send, Wait, Done}
use Rattle.client_shelf.specs.declared.shelf.Shelf.{Shelf}
use Rattle.op_machines.specs.declared.machine.Machine.{Machine}
use Rattle.op_machines.specs.Endings.{calls_left}
use Rattle.op_machines.specs.Steps.{Resumes, Takes}
use Rattle.rpc_retry.specs.declared.waiting.Waiting.{Waiting}
use Rattle.client_core.specs.declared.lane.Lane.{Lane}
use Rattle.client_core.specs.declared.lane.Purpose.{Purpose}
use Rattle.client_core.specs.declared.lane.State.{State}
use Rattle.client_core.specs.declared.lane.State.TheVariants.{Busy, Over}
use Rattle.client_core.specs.View.{View, has_room, turn_at, unmade_turn, IsSound}
use Rattle.client_core.specs.StepLaws.{StepLaws}
use Rattle.client_core.specs.Steps.{IsBusyAt, with_state, Makes, Refuses, IsRefused, Leads, Asks, Stirs, StirsOne, Moves, moves_none, moves_more, Rests, Still}
use Rattle.client_core.proofs.Numbers.{few-lanes}
use Rattle.client_core.proofs.Places.{set-twice}

-- what an operation may still do without a call that is made
abbrev pub weight : State → ℕ
weight (Busy machine) = 1 + calls_left machine
weight (Over answer) = 0

abbrev pub load : List Lane → ℕ
load [] = 0
load (lane ∷ lanes) = weight lane.state + load lanes

abbrev pub steps_left : View → ℕ
steps_left v = 49 * (32 - length v.calls.calls) + load v.lanes

load-set : (lanes : List Lane) (at : ℕ) (old new : Lane) → slice_get lanes at ≡ Some old → load (slice_set lanes at new) + weight old.state ≡ load lanes + weight new.state
load-set [] at old new there = absurd (cc)
load-set (lane ∷ lanes) zero old new there =
    let same : lane ≡ old = cc in
    let one : weight lane.state ≡ weight old.state = ap (λ (l : Lane). weight l.state) same in
    omega (arith, one)
load-set (lane ∷ lanes) (suc at) old new there =
    let rest = load-set lanes at old new there in
    omega (arith, rest)

light : (laws : StepLaws) (state : State) → weight state ≤ 3
light laws (Busy machine) = let few = laws.few_left machine in omega (arith, few)
light laws (Over answer) = omega arith

load-most : (laws : StepLaws) (lanes : List Lane) → load lanes ≤ 3 * length lanes
load-most laws [] = omega arith
load-most laws (lane ∷ lanes) =
    let one = light laws lane.state in
    let rest = load-most laws lanes in
    omega (arith, one, rest)

-- the lane at a place came from one state to another, by way of a third
load-twice : (v : View) (at number : ℕ) (machine after : Machine) (state : State) (lanes : List Lane) → IsBusyAt v at number machine
    → lanes ≡ slice_set (slice_set v.lanes at (record { number = number; state = Busy after })) at (record { number = number; state = state }) → load lanes + (1 + calls_left machine) ≡ load v.lanes + weight state
load-twice v at number machine after state lanes there is =
    ap (λ (ls : List Lane). load ls + (1 + calls_left machine)) (is ∙ set-twice v.lanes at (record { number = number; state = Busy after }) (record { number = number; state = state }))
    ∙ load-set v.lanes at (record { number = number; state = Busy machine }) (record { number = number; state = state }) there

-- as many calls wait, and the lane has less to do
fewer-left : (old new : View) (machine : Machine) (state : State) → new.calls ≡ old.calls → load new.lanes + (1 + calls_left machine) ≡ load old.lanes + weight state → weight state < 1 + calls_left machine → steps_left new < steps_left old
fewer-left old new machine state calls loads less =
    let same : length new.calls.calls ≡ length old.calls.calls = ap (λ h. length h.calls) calls in
    omega (arith, same, loads, less)

-- one more call waits
call-made : (laws : StepLaws) (old mid new : View) (number : ℕ) (call : Call) → has_room old ≡ true → IsSound new → mid.calls ≡ old.calls → Makes mid number call new → steps_left new < steps_left old
call-made laws old mid new number call room s same m =
    let purpose : Purpose = record { lane = number; proc = proc_of call; sent = turn_at mid } in
    let row : ℕ × Waiting Purpose = (next_xid mid.calls, made_call (call_bytes mid.calls.cred (next_xid mid.calls) NFS_PROGRAM (proc_of call) m.args) purpose) in
    let more : length (mid.calls.calls ++ row ∷ []) ≡ length mid.calls.calls + 1 = length_push mid.calls.calls row in
    let now : length new.calls.calls ≡ length (mid.calls.calls ++ row ∷ []) = ap (λ (v : View). length v.calls.calls) m.is in
    let before : length mid.calls.calls ≡ length old.calls.calls = ap (λ h. length h.calls) same in
    let free : length old.calls.calls < 32 = ltb-true (length old.calls.calls) 32 room in
    let lanes = few-lanes new.lanes s.bound.lanes in
    let most = load-most laws new.lanes in
    omega (arith, more, now, before, free, lanes, most)

refused-less : (laws : StepLaws) (old new : View) (at number : ℕ) (machine after : Machine) (call : Call) (shelf : Shelf) → IsBusyAt old at number machine
    → Resumes old.wsize machine (turn_at old) old.shelf (Send call) after shelf → Refuses (with_state old at number (Busy after) shelf) at number after new → steps_left new < steps_left old
refused-less laws old new at number machine after call shelf there resumes r = by r.next refl r.leads
  where
    mid : View
    mid = with_state old at number (Busy after) shelf

    calls : new.calls ≡ old.calls
    calls = ap (λ (v : View). v.calls) r.is

    loads : (state : State) → r.state ≡ state → load new.lanes + (1 + calls_left machine) ≡ load old.lanes + weight state
    loads state is = load-twice old at number machine after state new.lanes there (ap (λ (v : View). v.lanes) r.is ∙ ap (λ (s : State). slice_set (slice_set old.lanes at (record { number = number; state = Busy after })) at (record { number = number; state = s })) is)

    by : (n : Step) → r.next ≡ n → IsRefused r.after n r.state → steps_left new < steps_left old
    by Wait is state =
        let less = laws.refusals_end old.wsize machine (turn_at old) old.shelf call after shelf (unmade_turn mid) r.fault r.next r.after r.left resumes r.takes is in
        fewer-left old new machine (Busy r.after) calls (loads (Busy r.after) state) (omega (arith, less))
    by (Done answer) is state = fewer-left old new machine (Over answer) calls (loads (Over answer) state) (omega arith)
    by (Send call) is state = absurd state

pub stirs-less : (laws : StepLaws) (old new : View) (at : ℕ) → has_room old ≡ true → IsSound new → Stirs old at new → steps_left new < steps_left old
stirs-less laws old new at room s st = by st.next refl st.leads
  where
    mid : View
    mid = with_state old at st.number (Busy st.after) st.shelf

    by : (n : Step) → st.next ≡ n → Leads mid at st.number st.after n new → steps_left new < steps_left old
    by Wait is leads = absurd (st.goes is)
    by (Done answer) is leads =
        fewer-left old new st.machine (Over answer) (ap (λ (v : View). v.calls) leads)
        (load-twice old at st.number st.machine st.after (Over answer) new.lanes st.there (ap (λ (v : View). v.lanes) leads)) (omega arith)
    by (Send call) is (inl m) = call-made laws old mid new st.number call room s refl m
    by (Send call) is (inr r) =
        refused-less laws old new at st.number st.machine st.after call st.shelf st.there (subst (λ (n : Step). Resumes old.wsize st.machine (turn_at old) old.shelf n st.after st.shelf) is st.resumes) r

pub one-less : (laws : StepLaws) (old new : View) (b : Bool) → b ≡ true → has_room old ≡ true → IsSound new → StirsOne old b new → steps_left new < steps_left old
one-less laws old new true e room s st = stirs-less laws old new st.0 room s st.1
one-less laws old new false e room s st = absurd (cc)

pub one-more : (start old new : View) (b : Bool) → b ≡ true → has_room old ≡ true → Moves start old → StirsOne old b new → Moves start new
one-more start old new true e room m st = moves_more start old new st.0 m room st.1 st.2
one-more start old new false e room m st = absurd (cc)

pub no-more : (start old new : View) (b : Bool) → b ≡ false → Moves start old → StirsOne old b new → Moves start new
no-more start old new true e m st = absurd (cc)
no-more start old new false e m st = subst (λ (v : View). Moves start v) (sym st.0) m

pub all-still : (old new : View) (b : Bool) → b ≡ false → StirsOne old b new → Still new
all-still old new true e st = absurd (cc)
all-still old new false e st = subst Still (sym st.0) (inr st.1)
