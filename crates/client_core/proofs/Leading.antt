-- What a step leads to: a call that waits, a refusal in its place, or an answer.
use Rattle.std.proofs.Common.{◌≡◌, ◌≢◌, ◌+◌, ◌*◌, ◌≤◌, ◌<◌, ℕ, List, [], ◌∷◌, ◌++◌, length, Bool, true, false, Option, Some, None, All, slice_get, slice_set, Result, Err, refl, sym, ap, subst, ◌∙◌, inl, inr, Ok, OnOk, arith}
use Rattle.std.proofs.lemmas.List.{length_push}
use Rattle.std.proofs.lemmas.List.Elements.{All-set}
use Rattle.rpc_retry.specs.Held.{Held, next_xid}
use Rattle.rpc_retry.specs.Waiting.{made_call}
use Rattle.rpc_message.specs.Call.{SpellsCallHead, call_head_bytes}
use Rattle.xdr_codec.specs.Spells.{Wrote}
use Rattle.rpc_retry.specs.Sound.{IsRecord}
use Rattle.rpc_retry.specs.Put.{check_of, call_head, call_bytes}
use Rattle.rpc_retry.specs.Held.{KeepsSettings}
use Rattle.rpc_message.specs.declared.cred.Cred.{Cred}
use Rattle.world_model.specs.Messages.{SpellsArguments}
use Rattle.client_shelf.specs.Spelling.{IsSpellable}
use Rattle.nfs_types.specs.declared.program.TheConstants.{NFS_PROGRAM}
use Rattle.world_model.specs.declared.answer.Answer.{Answer}
use Rattle.world_model.specs.declared.answer.Fault.{Fault}
use Rattle.world_model.specs.declared.message.Call.{Call}
use Rattle.world_model.specs.Messages.{proc_of}
use Rattle.client_shelf.specs.declared.step.Step.{Step}
use Rattle.client_shelf.specs.declared.step.Step.TheVariants.{Send, Wait, Done}
use Rattle.client_shelf.specs.declared.shelf.Shelf.{Shelf}
use Rattle.client_shelf.specs.declared.turn.Turn.{Turn}
use Rattle.file_ops.specs.Ready.{IsReady}
use Rattle.op_machines.specs.declared.machine.Machine.{Machine}
use Rattle.op_machines.specs.Fits.{Fits}
use Rattle.op_machines.specs.Steps.{Takes}
use Rattle.rpc_retry.specs.declared.waiting.Waiting.{Waiting}
use Rattle.client_core.specs.declared.lane.Lane.{Lane}
use Rattle.client_core.specs.declared.lane.Purpose.{Purpose}
use Rattle.client_core.specs.declared.lane.State.{State}
use Rattle.client_core.specs.declared.lane.State.TheVariants.{Busy, Over}
use Rattle.client_core.specs.Lanes.{LaneFits, StateFits}
use Rattle.client_core.specs.View.{View, has_room, turn_at, unmade_turn, IsBound, IsSound}
use Rattle.client_core.specs.Between.{Awaits, AwaitsCall, AwaitsRefusal}
use Rattle.client_core.specs.StepLaws.{StepLaws}
use Rattle.client_core.specs.Steps.{IsBusyAt, with_state, put_view, PutsCall, IsRecordOf, SpellsCall, Makes, IsUnmade, IsRefused, Refuses, Asks, EndsAs, Leads}
use Rattle.client_core.proofs.Numbers.{set-lanes}
use Rattle.client_core.proofs.Places.{all-at, set-twice, same-number, same-machine}

-- ---- a call that was made

pub makes-sound : (v : View) (at number : ℕ) (call : Call) (new : View) → AwaitsRefusal v at → Makes v number call new → IsSound new
makes-sound v at number call new a m =
    let b = a.bound in
    let purpose : Purpose = record { lane = number; proc = proc_of call; sent = turn_at v } in
    let row : ℕ × Waiting Purpose = (next_xid v.calls, made_call (call_bytes v.calls.cred (next_xid v.calls) NFS_PROGRAM (proc_of call) m.args) purpose) in
    let more : length (v.calls.calls ++ row ∷ []) ≡ length v.calls.calls + 1 = length_push v.calls.calls row in
    let next : next_xid v.calls + 1 ≡ v.calls.first_xid + (v.calls.made + 1) = omega arith in
    subst IsSound (sym m.is) (record {
      bound = record {
        size = b.size;
        most = b.most;
        spells = b.spells;
        seq = let few = b.seq in omega (arith, few);
        moments = let all = b.moments in omega (arith, all, more);
        begun = b.begun;
        lanes = b.lanes;
        fits = b.fits;
      };
      ready = subst (λ (x : ℕ). IsReady x v.shelf.seq v.shelf.back) next a.ready;
    })

-- ---- a call that wasn't

refused-fits : (machine : Machine) (next : Step) (state : State) → IsRefused machine next state → Fits machine → StateFits state
refused-fits machine Wait state is fits = subst StateFits (sym is) fits
refused-fits machine (Done answer) state is fits = subst StateFits (sym is) tt
refused-fits machine (Send call) state is fits = absurd is

pub refuses-sound : (laws : StepLaws) (v : View) (at number : ℕ) (machine : Machine) (new : View) → AwaitsRefusal v at → IsBusyAt v at number machine → Refuses v at number machine new → IsSound new
refuses-sound laws v at number machine new a there r =
    let b = a.bound in
    let own : Fits machine = all-at LaneFits v.lanes at (record { number = number; state = Busy machine }) b.fits there in
    let fits : Fits r.after = laws.takes_fit v.wsize machine (turn_at v) (unmade_turn v) (Err r.fault) v.shelf r.next r.after r.left r.takes own in
    let lane : Lane = record { number = number; state = r.state } in
    subst IsSound (sym r.is) (record {
      bound = record {
        size = b.size;
        most = b.most;
        spells = (laws.takes_spellable v.wsize machine (turn_at v) (unmade_turn v) (Err r.fault) v.shelf r.next r.after r.left b.most own r.takes b.spells).0;
        seq = let same = laws.refusals_number v.wsize machine (turn_at v) (unmade_turn v) r.fault v.shelf r.next r.after r.left r.takes in let few = b.seq in omega (arith, same, few);
        moments = b.moments;
        begun = b.begun;
        lanes = set-lanes v.lanes at number (Busy machine) r.state there b.lanes;
        fits = All-set LaneFits v.lanes at lane (refused-fits r.after r.next r.state r.leads fits) b.fits;
      };
      ready = a.unmade number machine there (unmade_turn v) r.fault r.next r.after r.left refl r.takes;
    })

-- the state to which the refusal leads
pub record RefusedTo (v : View) (at number : ℕ) (next : Step) (after : Machine) (left : Shelf) (new : View) : Type 0 where
  pub state : State
  pub leads : IsRefused after next state
  pub is : new ≡ with_state v at number state left

pub refuses-by : (v : View) (at number : ℕ) (machine after : Machine) (fault : Fault) (next : Step) (left : Shelf) (new : View) → IsUnmade v fault
    → Takes v.wsize machine (turn_at v) (unmade_turn v) (Err fault) v.shelf next after left → RefusedTo v at number next after left new → Refuses v at number machine new
refuses-by v at number machine after fault next left new unmade takes to = record {
  fault = fault;
  next = next;
  after = after;
  left = left;
  state = to.state;
  unmade = unmade;
  takes = takes;
  leads = to.leads;
  is = to.is;
}

-- where the operation has its answer
pub refused-done : (v : View) (at number : ℕ) (next : Step) (answer : Answer) (after : Machine) (left : Shelf) (mid new : View) → next ≡ Done answer
    → mid ≡ with_state v at number (Busy after) left → slice_get mid.lanes at ≡ Some (record { number = number; state = Busy after }) → EndsAs mid at answer new → RefusedTo v at number next after left new
refused-done v at number next answer after left mid new is mid_is there ends = record {
  state = Over answer;
  leads = subst (λ (n : Step). IsRefused after n (Over answer)) (sym is) refl;
  is = ends.is ∙ ap (λ (n : ℕ). with_state mid at n (Over answer) mid.shelf) (sym (same-number mid.lanes at number ends.number (Busy after) ends.state there ends.there))
      ∙ ap (λ (m : View). with_state m at number (Over answer) m.shelf) mid_is
      ∙ ap (λ (ls : List Lane). record v { lanes = ls; shelf = left }) (set-twice v.lanes at (record { number = number; state = Busy after }) (record { number = number; state = Over answer }));
}

-- where it waits on: it asks for no call, since no call may be made
pub refused-waits : (v : View) (at number : ℕ) (next : Step) (after : Machine) (left : Shelf) (new : View) → ((call : Call) → next ≡ Send call → ⊥) → ((answer : Answer) → next ≡ Done answer → ⊥)
    → new ≡ with_state v at number (Busy after) left → RefusedTo v at number next after left new
refused-waits v at number next after left new none undone is = record { state = Busy after; leads = by next none undone; is = is }
  where
    by : (n : Step) → ((call : Call) → n ≡ Send call → ⊥) → ((answer : Answer) → n ≡ Done answer → ⊥) → IsRefused after n (Busy after)
    by Wait none undone = refl
    by (Send call) none undone = absurd (none call refl)
    by (Done answer) none undone = absurd (undone answer refl)

-- ---- an answer

pub ends-leads : (v : View) (at : ℕ) (answer : Answer) (new : View) → EndsAs v at answer new → (number : ℕ) (machine : Machine) → IsBusyAt v at number machine → Leads v at number machine (Done answer) new
ends-leads v at answer new ends number machine there = ends.is ∙ ap (λ (n : ℕ). with_state v at n (Over answer) v.shelf) (same-number v.lanes at ends.number number ends.state (Busy machine) ends.there there)

pub ends-sound : (v : View) (at : ℕ) (answer : Answer) (new : View) → EndsAs v at answer new → IsSound v → IsSound new
ends-sound v at answer new ends s =
    let b = s.bound in
    let lane : Lane = record { number = ends.number; state = Over answer } in
    subst IsSound (sym ends.is) (record {
      bound = record {
        size = b.size;
        most = b.most;
        spells = b.spells;
        seq = b.seq;
        moments = b.moments;
        begun = b.begun;
        lanes = set-lanes v.lanes at ends.number ends.state (Over answer) ends.there b.lanes;
        fits = All-set LaneFits v.lanes at lane tt b.fits;
      };
      ready = s.ready;
    })

-- ---- a call

pub asks-made : (v : View) (at lane number : ℕ) (machine : Machine) (call : Call) (new : View) → lane ≡ number → Makes v lane call new → Asks v at number machine call new
asks-made v at lane number machine call new same m = inl (subst (λ (n : ℕ). Makes v n call new) same m)

-- the table after a call was put
abbrev held : ℕ → ℕ → Cred → ℕ → List (ℕ × Waiting Purpose) → Held Purpose
held first limit cred made calls = record { first_xid = first; limit = limit; cred = cred; made = made; calls = calls }

held-made : (old new : Held Purpose) (made : ℕ) (calls : List (ℕ × Waiting Purpose)) → KeepsSettings old new → new.made ≡ made → new.calls ≡ calls → new ≡ held old.first_xid old.limit old.cred made calls
held-made old new made calls s m c =
    ap (λ (x : ℕ). held x new.limit new.cred new.made new.calls) s.first_xid
    ∙ ap (λ (x : ℕ). held old.first_xid x new.cred new.made new.calls) s.limit
    ∙ ap (λ (x : Cred). held old.first_xid old.limit x new.made new.calls) s.cred
    ∙ ap (λ (x : ℕ). held old.first_xid old.limit old.cred x new.calls) m
    ∙ ap (λ (x : List (ℕ × Waiting Purpose)). held old.first_xid old.limit old.cred made x) c

-- a call that may be made, made by its record
pub puts-record : (v : View) (purpose : Purpose) (bytes : List ℕ) (calls : Held Purpose) → KeepsSettings v.calls calls → calls.made ≡ v.calls.made + 1
    → calls.calls ≡ v.calls.calls ++ (next_xid v.calls, made_call bytes purpose) ∷ [] → (args : List ℕ) → IsRecordOf v purpose.proc args bytes → PutsCall v purpose args (record v { calls = calls; moments = v.moments + 1 })
puts-record v purpose bytes calls s m c args r = record {
  spelled = r.spelled;
  is = ap (λ (h : Held Purpose). record v { calls = h; moments = v.moments + 1 }) (held-made v.calls calls _ _ s m (c ∙ ap (λ (b : List ℕ). v.calls.calls ++ (next_xid v.calls, made_call b purpose) ∷ []) r.is));
}

-- what was written behind the head of a call
pub spells-call : (v : View) (proc : ℕ) (call : Call) (head bytes : List ℕ) → head ≡ call_head_bytes (call_head (next_xid v.calls) NFS_PROGRAM proc) v.calls.cred
    → ((args : List ℕ) → SpellsCallHead (call_head (next_xid v.calls) NFS_PROGRAM proc) args (call_bytes v.calls.cred (next_xid v.calls) NFS_PROGRAM proc args))
    → Wrote (SpellsArguments call) head bytes → SpellsCall v proc call bytes
spells-call v proc call head bytes head_is spelled w = record {
  args = w.text;
  spells = w.spells;
  of = record { is = w.is ∙ ap (λ (h : List ℕ). h ++ w.text) head_is; spelled = spelled w.text };
}

-- it is a record as the calls take it
pub is-record : (v : View) (proc : ℕ) (call : Call) (bytes : List ℕ) → SpellsCall v proc call bytes → IsRecord v.calls.cred (next_xid v.calls) bytes
is-record v proc call bytes s = record {
  prog = NFS_PROGRAM;
  proc = proc;
  args = s.args;
  is = s.of.is;
  spells = subst (λ (b : List ℕ). SpellsCallHead (call_head (next_xid v.calls) NFS_PROGRAM proc) s.args b) (sym s.of.is) s.of.spelled;
}

abbrev purpose_of : ℕ → ℕ → Turn → Purpose
purpose_of lane proc turn = record { lane = lane; proc = proc; sent = turn }

pub makes-of : (old new : View) (lane proc : ℕ) (turn : Turn) (call : Call) (args : List ℕ) → proc ≡ proc_of call → turn ≡ turn_at old → IsSpellable call → SpellsArguments call args → check_of old.calls ≡ Ok tt
    → PutsCall old (record { lane = lane; proc = proc; sent = turn }) args new → Makes old lane call new
makes-of old new lane proc turn call args proc_is turn_is spellable spells may put = record {
  args = args;
  spellable = spellable;
  spells = spells;
  spelled = subst (λ (p : ℕ). SpellsCallHead (call_head (next_xid old.calls) NFS_PROGRAM p) args (call_bytes old.calls.cred (next_xid old.calls) NFS_PROGRAM p args)) proc_is put.spelled;
  may = may;
  is = put.is ∙ ap (λ (p : ℕ). put_view old (purpose_of lane p turn) args) proc_is ∙ ap (λ (t : Turn). put_view old (purpose_of lane (proc_of call) t) args) turn_is;
}

pub on-ok-then : {P Q : Type 0} → (r : Result (Unit {0}) Fault) → OnOk r P → (P → Q) → OnOk r Q
on-ok-then (Ok done) p f = f p
on-ok-then (Err fault) p f = tt

-- ---- an answer that is given

pub ends-as : (v : View) (at : ℕ) (lane new : Lane) (answer : Answer) → slice_get v.lanes at ≡ Some lane → new ≡ record { number = lane.number; state = Over answer } → EndsAs v at answer (record v { lanes = slice_set v.lanes at new })
ends-as v at lane new answer there is = record {
  number = lane.number;
  state = lane.state;
  there = there;
  is = ap (λ (l : Lane). record v { lanes = slice_set v.lanes at l }) is;
}
