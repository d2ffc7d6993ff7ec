-- After each entry of a history no lane can go on, or no further call may wait.
use Rattle.core_facts.proofs.Prelude.{◌≡◌, ◌+◌, ℕ, zero, suc, List, [], ◌∷◌, ◌++◌, length, map, Bool, true, false, Option, Some, None, MatchOption, position, slice_get, refl, sym, ap, subst, ◌∙◌, inl, inr, xid_at, next_xid, failed_after, awaited, Waiting, Answer, Entry, Began, Answered, Dialed, Sent, Executed, Foreign, Flushed, Reboot, Delivered, Failed, Clock, Op, said_of, Step, Send, Wait, Done, Shelf, Turn, Machine, Resumes, Lane, Purpose, State, Busy, Over, Setup, NoneBusy, IsFresh, is_busy, lost_lane, Reaches, begins, goes, loses, StepsTo, last_reading, IsBusyAt, with_state, Leads, Moves, moves_none, moves_more, BeginsIf, counted, TakesAt, HearsFor, failed_view, lost, AnswersAt, View, turn_at}
use Rattle.std.proofs.Common.{nat_lt}
use Rattle.rpc_retry.specs.Fail.{after_failure}
use Rattle.core_facts.specs.Resting.{IsSettled}
use Rattle.client_core.specs.Lanes.{is_over, lost_state, busy_in}
use Rattle.client_core.specs.Steps.{Still, Begins, taken, HearsOwn, Hears, SendsIf, SendsBy, FailsAs, FailsBy, AnswersBy}
use Rattle.client_core.specs.View.{has_room}
use Rattle.std.specs.Prelude.{remove}
use Rattle.rpc_retry.specs.Waiting.{sent, first_given_up}
use Rattle.world_model.specs.declared.answer.Answer.TheVariants as answers
use Rattle.world_model.specs.declared.answer.Fault.TheVariants as faults
use Rattle.rpc_retry.proofs.Dues.{length-sent}
use Rattle.rpc_retry.proofs.Failing.{length-failed}

-- ---- a session that is lost stays so, and no other one is

pub leads-lost : (v : View) (at number : ℕ) (machine : Machine) (next : Step) (new : View) → Leads v at number machine next new → new.lost ≡ v.lost
leads-lost v at number machine (Send call) new (inl m) = ap (λ (w : View). w.lost) m.is
leads-lost v at number machine (Send call) new (inr r) = ap (λ (w : View). w.lost) r.is
leads-lost v at number machine Wait new leads = ap (λ (w : View). w.lost) leads
leads-lost v at number machine (Done answer) new leads = ap (λ (w : View). w.lost) leads

pub moves-lost : (old new : View) → Moves old new → new.lost ≡ old.lost
moves-lost _ _ (moves_none old new is) = ap (λ (w : View). w.lost) is
moves-lost _ _ (moves_more old mid new at m room st first) =
    leads-lost (with_state mid at st.number (Busy st.after) st.shelf) at st.number st.after st.next new st.leads ∙ moves-lost old mid m

-- where no operation is under way none moves
pub none-moves : (old new : View) → Moves old new → NoneBusy old → new ≡ old
none-moves _ _ (moves_none old new is) none = is
none-moves _ _ (moves_more old mid new at m room st first) none =
    absurd (none at st.number st.machine (subst (λ (v : View). IsBusyAt v at st.number st.machine) (none-moves old mid m none) st.there))

-- and all is still
none-rests : (v : View) → NoneBusy v → Still v
none-rests v none = inr (λ at number machine there. absurd (none at number machine there))

none-same : (old new : View) → new.lanes ≡ old.lanes → NoneBusy old → NoneBusy new
none-same old new is none at number machine there = none at number machine (subst (λ (ls : List Lane). slice_get ls at ≡ Some (record { number = number; state = Busy machine })) is there)

settled-none : (v : View) → NoneBusy v → IsSettled v
settled-none v none = record { still = none-rests v none; over = λ is. none }

-- ---- lists

-- what stands in a list after one was removed stood there before
removed-from : (xs : List Lane) (at k : ℕ) (x : Lane) → slice_get (remove xs at) k ≡ Some x → (j : ℕ) × (slice_get xs j ≡ Some x)
removed-from [] zero k x e = absurd (cc)
removed-from [] (suc at) k x e = absurd (cc)
removed-from (y ∷ ys) zero k x e = (suc k, e)
removed-from (y ∷ ys) (suc at) zero x e = (zero, e)
removed-from (y ∷ ys) (suc at) (suc k) x e = let r = removed-from ys at k x e in (suc r.0, r.1)

busy-lost : (state : State) (number : ℕ) → busy_in (Some (record { number = number; state = lost_state state })) ≡ false
busy-lost (Busy machine) number = refl
busy-lost (Over answer) number = refl

lost-not : (lanes : List Lane) (at number : ℕ) (machine : Machine) → slice_get (map lost_lane lanes) at ≡ Some (record { number = number; state = Busy machine }) → ⊥
lost-not [] at number machine there = absurd (cc)
lost-not (lane ∷ lanes) zero number machine there = let no-way : false ≡ true = sym (busy-lost lane.state lane.number) ∙ ap busy_in there in absurd cc
lost-not (lane ∷ lanes) (suc at) number machine there = lost-not lanes at number machine there

pushed-not : (lanes : List Lane) (own : ℕ) (answer : Answer) (at number : ℕ) (machine : Machine)
    → ((k n : ℕ) (m : Machine) → slice_get lanes k ≡ Some (record { number = n; state = Busy m }) → ⊥)
    → slice_get (lanes ++ record { number = own; state = Over answer } ∷ []) at ≡ Some (record { number = number; state = Busy machine }) → ⊥
pushed-not [] own answer zero number machine none there = let no-way : false ≡ true = ap busy_in there in absurd cc
pushed-not [] own answer (suc at) number machine none there = absurd (cc)
pushed-not (lane ∷ lanes) own answer zero number machine none there = none zero number machine there
pushed-not (lane ∷ lanes) own answer (suc at) number machine none there = pushed-not lanes own answer at number machine (λ k n m here. none (suc k) n m here) there

-- ---- the steps

-- the same lanes, shelf and turn
same-still : (old new : View) → new.lanes ≡ old.lanes → new.shelf ≡ old.shelf → new.wsize ≡ old.wsize → turn_at new ≡ turn_at old → Still old → Still new
same-still old new lanes shelf wsize turn (inl full) = inl (ap (λ (t : Turn). t.room) turn ∙ full)
same-still old new lanes shelf wsize turn (inr rest) = inr (λ at number machine there.
    let was = rest at number machine (subst (λ (ls : List Lane). slice_get ls at ≡ Some (record { number = number; state = Busy machine })) lanes there) in
    let here = subst (λ (s : Shelf). Resumes old.wsize machine (turn_at old) s Wait machine s) (sym shelf) was in
    let now = subst (λ (t : Turn). Resumes old.wsize machine t new.shelf Wait machine new.shelf) (sym turn) here in
    subst (λ (w : ℕ). Resumes w machine (turn_at new) new.shelf Wait machine new.shelf) (sym wsize) now)

begins-settled : (old new : View) (number : ℕ) (machine : Machine) (now : ℕ) → Begins old number machine now new → IsSettled old → IsSettled new
begins-settled old new number machine now b s = by old.lost refl b
  where
    by : (l : Bool) → old.lost ≡ l → BeginsIf l old number machine now new → IsSettled new
    by true is e =
        let none : NoneBusy new = λ at n m there. pushed-not old.lanes number (answers.Refused faults.Lost) at n m (s.over is) (subst (λ (v : View). slice_get v.lanes at ≡ Some (record { number = n; state = Busy m })) e there) in
        settled-none new none
    by false is g = record {
      still = g.still;
      over = λ lost. absurd (
          let first : g.first.lost ≡ old.lost = leads-lost (record (counted old now) { lanes = old.lanes ++ record { number = number; state = Busy g.own.after } ∷ []; shelf = g.own.shelf }) (length old.lanes) number g.own.after g.own.next g.first g.own.leads in
          let no-way : true ≡ false = sym lost ∙ moves-lost g.first new g.rest ∙ first ∙ is in cc);
    }

answers-settled : (old new : View) (number : ℕ) (result : Option Answer) → AnswersBy old number result new → IsSettled old → IsSettled new
answers-settled old new number result a s = by (position (is_over number) old.lanes) a
  where
    at-one : (k : ℕ) → AnswersAt old k number result new → IsSettled new
    at-one k o =
        record {
          still = rests s.still;
          over = λ lost at n m there. let was = removed-from old.lanes k at (record { number = n; state = Busy m }) (subst (λ (v : View). slice_get v.lanes at ≡ Some (record { number = n; state = Busy m })) o.is there) in
              s.over (sym (ap (λ (v : View). v.lost) o.is) ∙ lost) was.0 n m was.1;
        }
      where
        rests : Still old → Still new
        rests (inl full) = inl (ap (λ (v : View). has_room v) o.is ∙ full)
        rests (inr rest) = inr (λ at n m there.
            let was = removed-from old.lanes k at (record { number = n; state = Busy m }) (subst (λ (v : View). slice_get v.lanes at ≡ Some (record { number = n; state = Busy m })) o.is there) in
            subst (λ (v : View). Resumes v.wsize m (turn_at v) v.shelf Wait m v.shelf) (sym o.is) (rest was.0 n m was.1))

    by : (o : Option ℕ) → MatchOption o ((result ≡ None) × (new ≡ old)) (λ at. AnswersAt old at number result new) → IsSettled new
    by None a = subst IsSettled (sym a.1) s
    by (Some k) a = at-one k a

sends-settled : (old new : View) (result : Option (List ℕ)) → SendsBy old result new → IsSettled old → IsSettled new
sends-settled old new result a s = by old.lost a
  where
    by : (l : Bool) → SendsIf l old result new → IsSettled new
    by true a = subst IsSettled (sym a.1) s
    by false g = subst IsSettled (sym g.is) (record {
      still = same-still old (record old { calls = record old.calls { calls = sent old.calls.calls } }) refl refl refl
          (ap (λ (n : ℕ). record { xid = next_xid old.calls; moment = old.moments + 1; now = old.clock; room = nat_lt n 32 }) (length-sent old.calls.calls)) s.still;
      over = s.over;
    })

lost-settled : (v : View) → IsSettled (lost v)
lost-settled v = settled-none (lost v) (λ at number machine there. lost-not v.lanes at number machine there)

failure-length : (calls : List (ℕ × Waiting Purpose)) → length (after_failure calls) ≡ length calls
failure-length calls = by (first_given_up calls)
  where
    by : (o : Option ℕ) → length (failed_after o calls) ≡ length calls
    by None = length-failed true calls
    by (Some xid) = length-failed false calls

failed-settled : (v : View) → IsSettled v → IsSettled (failed_view v)
failed-settled v s = record {
  still = same-still v (failed_view v) refl refl refl
      (ap (λ (n : ℕ). record { xid = next_xid v.calls; moment = v.moments + 1; now = v.clock; room = nat_lt n 32 }) (failure-length v.calls.calls)) s.still;
  over = s.over;
}

fails-settled : (old new : View) (result : Bool) → FailsBy old result new → IsSettled old → IsSettled new
fails-settled old new result f s = by (first_given_up old.calls.calls) f
  where
    by : (o : Option ℕ) → FailsAs o old result new → IsSettled new
    by None f = subst IsSettled (sym f.1) (failed-settled old s)
    by (Some xid) f = subst IsSettled (sym f.1) (lost-settled (failed_view old))

-- the operation that made the call, if it is under way
pub own-lost : (old : View) (rec : List ℕ) (purpose : Purpose) (new : View) → HearsOwn old rec purpose new → new.lost ≡ old.lost
own-lost old rec purpose new own = by (position (is_busy purpose.lane) old.lanes) own
  where
    by : (o : Option ℕ) → MatchOption o (new ≡ old) (λ at. TakesAt old at purpose.sent (said_of purpose.proc rec) new) → new.lost ≡ old.lost
    by None is = ap (λ (v : View). v.lost) is
    by (Some at) t = leads-lost (with_state old at t.number (Busy t.after) t.shelf) at t.number t.after t.next new t.leads

pub own-none : (old : View) (rec : List ℕ) (purpose : Purpose) (new : View) → NoneBusy old → HearsOwn old rec purpose new → new ≡ old
own-none old rec purpose new none own = by (position (is_busy purpose.lane) old.lanes) own
  where
    by : (o : Option ℕ) → MatchOption o (new ≡ old) (λ at. TakesAt old at purpose.sent (said_of purpose.proc rec) new) → new ≡ old
    by None is = is
    by (Some at) t = absurd (none at t.number t.machine t.there)

hears-settled : (old new : View) (rec : List ℕ) (result : Bool) → Hears old rec result new → IsSettled old → IsSettled new
hears-settled old new rec result hears s = by (awaited (xid_at rec) old.calls.calls) hears
  where
    mid : View
    mid = taken old rec

    over : (purpose : Purpose) → HearsFor mid rec purpose new → new.lost ≡ true → NoneBusy new
    over purpose h lost =
        let was : old.lost ≡ true = sym (own-lost mid rec purpose h.first h.own) ∙ sym (moves-lost h.first new h.rest) ∙ lost in
        let none : NoneBusy mid = s.over was in
        let first : h.first ≡ mid = own-none mid rec purpose h.first none h.own in
        let none-first : NoneBusy h.first = subst NoneBusy (sym first) none in
        subst NoneBusy (sym (none-moves h.first new h.rest none-first)) none-first

    by : (o : Option (Waiting Purpose)) → MatchOption o ((result ≡ false) × (new ≡ old)) (λ call. (result ≡ true) × HearsFor mid rec call.purpose new) → IsSettled new
    by None a = subst IsSettled (sym a.1) s
    by (Some call) a = record { still = a.1.still; over = over call.purpose a.1 }

step : (machine_of : ℕ → Op → Machine) (h : List Entry) (old : View) (e : Entry) (new : View) → StepsTo machine_of h old e new → IsSettled old → IsSettled new
step machine_of h old (Began lane line op) new t s = begins-settled old new lane (machine_of lane op) (last_reading 0 h) t.step s
step machine_of h old (Answered lane line answer) new t s = answers-settled old new lane (Some answer) t.answers s
step machine_of h old (Sent bytes) new t s = sends-settled old new (Some bytes) t s
step machine_of h old (Delivered bytes) new t s = hears-settled old new bytes t.result t.hears s
step machine_of h old Failed new (inl t) s = fails-settled old new t.0 t.1 s
step machine_of h old Failed new (inr t) s = subst IsSettled (sym t) s
step machine_of h old (Dialed port) new t s = subst IsSettled (sym t) s
step machine_of h old (Executed xid call reply) new t s = subst IsSettled (sym t) s
step machine_of h old (Foreign call reply) new t s = subst IsSettled (sym t) s
step machine_of h old (Flushed file start len) new t s = subst IsSettled (sym t) s
step machine_of h old (Reboot verf) new t s = subst IsSettled (sym t) s
step machine_of h old (Clock ms) new t s = subst IsSettled (sym t) s

fresh-none : (setup : Setup) (v : View) → IsFresh setup v → NoneBusy v
fresh-none setup v f at number machine there = absurd (let no-way : None ≡ Some (record { number = number; state = Busy machine }) = subst (λ (ls : List Lane). slice_get ls at ≡ Some (record { number = number; state = Busy machine })) f.lanes there in cc)

pub comes-to-rest : (machine_of : ℕ → Op → Machine) (setup : Setup) (h : List Entry) (v : View) → Reaches machine_of setup h v → IsSettled v
comes-to-rest machine_of setup _ _ (begins h v may up fresh) = settled-none v (fresh-none setup v fresh)
comes-to-rest machine_of setup _ _ (goes h before v b e r is t) = step machine_of before b e v t (comes-to-rest machine_of setup before b r)
comes-to-rest machine_of setup _ _ (loses h v b r shown is) = subst IsSettled (sym is) (lost-settled b)
