-- As many calls wait as the operations know of.
use Rattle.core_facts.proofs.Prelude.{◌≡◌, ◌≤◌, ◌+◌, ◌-◌, inl, inr, ℕ, zero, suc, List, [], ◌∷◌, ◌++◌, length, remove, Bool, true, false, cond, nat_eq, Option, Some, None, MatchOption, position, slice_get, slice_set, Err, refl, sym, ap, subst, ◌∙◌, arith, eq-eqb, ne_eqb, Waiting, failed_after, Held, next_xid, made_call, waiting_at, without, Answer, Entry, Began, Answered, Dialed, Sent, Executed, Foreign, Flushed, Reboot, Delivered, Failed, Clock, Op, proc_of, said_of, Step, Send, Wait, Done, Shelf, Machine, Lane, Purpose, State, Busy, Over, Setup, IsFresh, is_busy, IsOther, numbers_of, IsBusyAt, with_state, record_of, IsRefused, Leads, Stirs, Moves, moves_none, moves_more, counted, StartsLane, BeginsIf, TakesAt, AnswersAt, View, turn_at, unmade_turn, in_flight, IsUnbegun, IsCounted, Counts, where_, calls_for, StepsTo, Reaches, begins, goes, loses, last_reading}
use Rattle.rpc_retry.specs.Waiting.{sent, sent_call, failed}
use Rattle.core_facts.specs.Counted.{known_in, known_by, AreCounted}
use Rattle.std.proofs.lemmas.Option.{get_or_from_slice_get, slice_get_within}
use borrow.Author.Tests.{eqb-true}
use Rattle.rpc_retry.proofs.Dues.{fails_everywhere}
use Rattle.core_facts.proofs.AllCounts.{counts-calls}
use Rattle.core_facts.proofs.Cases.{Heard, dropped, replied, heard, sent_now, FailedNow, goes_on, gives_up, failed_now, answered_now, taken_one}
use Rattle.core_facts.proofs.LaneMarks.{lanes-under-way, reached-lanes, idle-numbers, number_of}
use Rattle.core_facts.proofs.Lists.{at-set, at-push, at-position, to-map, skip, get-remove}

-- ---- calls of a lane

abbrev pub one_for : ℕ → Waiting Purpose → ℕ
one_for number call = where_ (nat_eq call.purpose.lane number) 1

calls-push : (number : ℕ) (es : List (ℕ × Waiting Purpose)) (e : ℕ × Waiting Purpose) → calls_for number (es ++ e ∷ []) ≡ calls_for number es + one_for number e.1
calls-push number [] e = omega arith
calls-push number (d ∷ es) e = let rest = calls-push number es e in omega (arith, rest)

pub calls-without : (number xid : ℕ) (es : List (ℕ × Waiting Purpose)) (call : Waiting Purpose) → waiting_at xid es ≡ Some call → calls_for number (without xid es) + one_for number call ≡ calls_for number es
calls-without number xid [] call at = absurd (cc)
calls-without number xid (e ∷ es) call at =
    elim (nat_eq xid e.0) as (λ b. nat_eq xid e.0 ≡ b → cond b (Some e.1) (waiting_at xid es) ≡ Some call → calls_for number (cond b es (e ∷ without xid es)) + one_for number call ≡ calls_for number (e ∷ es)) [
      | true ↦ λ d h. let which : e.1 ≡ call = cc in let same : one_for number e.1 ≡ one_for number call = ap (one_for number) which in omega (arith, same)
      | false ↦ λ d h. let rest = calls-without number xid es call h in omega (arith, rest)
    ] refl at

calls-sent : (number : ℕ) (es : List (ℕ × Waiting Purpose)) → calls_for number (sent es) ≡ calls_for number es
calls-sent number [] = refl
calls-sent number (e ∷ es) =
    let rest = calls-sent number es in
    elim e.1.due as (λ b. calls_for number (cond b ((e.0, sent_call e.1) ∷ es) (e ∷ sent es)) ≡ calls_for number (e ∷ es)) [
      | true ↦ refl
      | false ↦ ap (λ (n : ℕ). one_for number e.1 + n) rest
    ]

calls-failed : (number : ℕ) (again : Bool) (es : List (ℕ × Waiting Purpose)) → calls_for number (failed again es) ≡ calls_for number es
calls-failed number again [] = refl
calls-failed number true (e ∷ es) = ap (λ (n : ℕ). one_for number e.1 + n) (calls-failed number true es)
calls-failed number false (e ∷ es) = ap (λ (n : ℕ). one_for number e.1 + n) (calls-failed number false es)

-- a call that waits is counted
pub calls-some : (xid : ℕ) (es : List (ℕ × Waiting Purpose)) (call : Waiting Purpose) → waiting_at xid es ≡ Some call → 1 ≤ calls_for call.purpose.lane es
calls-some xid es call at =
    let all = calls-without call.purpose.lane xid es call at in
    let own : one_for call.purpose.lane call ≡ 1 = ap (λ (b : Bool). where_ b 1) (eq-eqb call.purpose.lane call.purpose.lane refl) in
    omega (arith, all, own)

abbrev pub part : ℕ → Lane → ℕ
part number lane = where_ (nat_eq lane.number number) (known_in lane.state)

known-set : (number : ℕ) (lanes : List Lane) (at : ℕ) (old new : Lane) → slice_get lanes at ≡ Some old
    → known_by number (slice_set lanes at new) + part number old ≡ known_by number lanes + part number new
known-set number [] at old new there = absurd (cc)
known-set number (lane ∷ lanes) zero old new there =
    let is : lane ≡ old = cc in
    let same : part number lane ≡ part number old = ap (part number) is in
    omega (arith, same)
known-set number (lane ∷ lanes) (suc at) old new there = let rest = known-set number lanes at old new there in omega (arith, rest)

known-push : (number : ℕ) (lanes : List Lane) (lane : Lane) → known_by number (lanes ++ lane ∷ []) ≡ known_by number lanes + part number lane
known-push number [] lane = omega arith
known-push number (l ∷ lanes) lane = let rest = known-push number lanes lane in omega (arith, rest)

known-remove : (number : ℕ) (lanes : List Lane) (at : ℕ) (lane : Lane) → slice_get lanes at ≡ Some lane → known_by number (remove lanes at) + part number lane ≡ known_by number lanes
known-remove number [] at lane there = absurd (cc)
known-remove number (l ∷ lanes) zero lane there =
    let is : l ≡ lane = cc in
    let same : part number l ≡ part number lane = ap (part number) is in
    omega (arith, same)
known-remove number (l ∷ lanes) (suc at) lane there = let rest = known-remove number lanes at lane there in omega (arith, rest)

-- the operation of which some calls wait is under way
pub record KnowsSome (number : ℕ) (lanes : List Lane) : Type 0 where
  pub at : ℕ
  pub machine : Machine
  pub there : slice_get lanes at ≡ Some (record { number = number; state = Busy machine })

known-further : (number : ℕ) (lane : Lane) (lanes : List Lane) → KnowsSome number lanes → KnowsSome number (lane ∷ lanes)
known-further number lane lanes k = record { at = suc k.at; machine = k.machine; there = k.there }

known-head : (number n : ℕ) (state : State) (lanes : List Lane) (b : Bool) → nat_eq n number ≡ b → (1 ≤ known_by number lanes → KnowsSome number lanes)
    → 1 ≤ where_ b (known_in state) + known_by number lanes → KnowsSome number (record { number = n; state = state } ∷ lanes)
known-head number n state lanes false d rest le = known-further number (record { number = n; state = state }) lanes (rest (omega (arith, le)))
known-head number n (Over answer) lanes true d rest le = known-further number (record { number = n; state = Over answer }) lanes (rest (omega (arith, le)))
known-head number n (Busy machine) lanes true d rest le = record { at = zero; machine = machine; there = ap (λ (k : ℕ). Some (record { number = k; state = Busy machine })) (eqb-true n number d) }

pub known-some : (number : ℕ) (lanes : List Lane) → 1 ≤ known_by number lanes → KnowsSome number lanes
known-some number [] some = absurd (omega (arith, some))
known-some number (lane ∷ lanes) some = known-head number lane.number lane.state lanes (nat_eq lane.number number) refl (known-some number lanes) some

-- ---- operations that count right

abbrev pub StateCounted : State → Type 0
StateCounted (Busy machine) = IsCounted machine
StateCounted (Over answer) = Unit {0}

abbrev pub AllCounted : List Lane → Type 0
AllCounted lanes = (at : ℕ) (lane : Lane) → slice_get lanes at ≡ Some lane → StateCounted lane.state

pub record IsKnown (v : View) : Type 0 where
  pub counted : AreCounted v
  pub right : AllCounted v.lanes

set-same : (lanes : List Lane) (at : ℕ) (lane : Lane) → slice_get lanes at ≡ Some lane → slice_set lanes at lane ≡ lanes
set-same [] at lane there = absurd (cc)
set-same (l ∷ lanes) zero lane there = let is : l ≡ lane = cc in ap (λ (k : Lane). k ∷ lanes) (sym is)
set-same (l ∷ lanes) (suc at) lane there = ap (λ (ls : List Lane). l ∷ ls) (set-same lanes at lane there)

some-lane : (a b : Lane) → Some a ≡ Some b → a ≡ b
some-lane a b e = cc

-- another state at the place of one that was set there
set-twice : (lanes : List Lane) (at : ℕ) (was lane : Lane) → StateCounted lane.state → AllCounted lanes → AllCounted (slice_set (slice_set lanes at was) at lane)
set-twice [] at was lane right all k l there = absurd (cc)
set-twice (x ∷ lanes) zero was lane right all zero l there = subst (λ (n : Lane). StateCounted n.state) (some-lane lane l there) right
set-twice (x ∷ lanes) zero was lane right all (suc k) l there = all (suc k) l there
set-twice (x ∷ lanes) (suc at) was lane right all zero l there = all zero l there
set-twice (x ∷ lanes) (suc at) was lane right all (suc k) l there = set-twice lanes at was lane right (λ j m here. all (suc j) m here) k l there

-- and at that of one that was added
set-pushed : (lanes : List Lane) (was lane : Lane) → StateCounted lane.state → AllCounted lanes → AllCounted (slice_set (lanes ++ was ∷ []) (length lanes) lane)
set-pushed [] was lane right all zero l there = subst (λ (n : Lane). StateCounted n.state) (some-lane lane l there) right
set-pushed [] was lane right all (suc k) l there = absurd (cc)
set-pushed (x ∷ lanes) was lane right all zero l there = all zero l there
set-pushed (x ∷ lanes) was lane right all (suc k) l there = set-pushed lanes was lane right (λ j m here. all (suc j) m here) k l there

-- ---- one step of an operation

-- The operation of the lane at a place has made a step before which so many of its calls waited, and what that leads to is still to come.
pub record Owes (v : View) (at number before : ℕ) (machine : Machine) : Type 0 where
  pub there : slice_get v.lanes at ≡ Some (record { number = number; state = Busy machine })
  pub counts : (m : ℕ) → calls_for m v.calls.calls + where_ (nat_eq number m) (in_flight machine) ≡ known_by m v.lanes + where_ (nat_eq number m) before
  pub rest : (state : State) → StateCounted state → AllCounted (slice_set v.lanes at (record { number = number; state = state }))

-- the operation asked for a call, and it was made
made-counts : (b : Bool) (calls now known machine before : ℕ) → now ≡ calls + where_ b 1 → machine ≡ before + 1 → calls + where_ b machine ≡ known + where_ b before → now ≡ known
made-counts true calls now known machine before c m e = omega (arith, c, m, e)
made-counts false calls now known machine before c m e = omega (arith, c, m, e)

-- it came to another state
state-counts : (b : Bool) (calls known later machine state before : ℕ) → later + where_ b machine ≡ known + where_ b state → state ≡ before → calls + where_ b machine ≡ known + where_ b before → calls ≡ later
state-counts true calls known later machine state before k s e = omega (arith, k, s, e)
state-counts false calls known later machine state before k s e = omega (arith, k, s, e)

ends-with : (v : View) (at number before : ℕ) (machine : Machine) (state : State) (shelf : Shelf) → Owes v at number before machine → known_in state ≡ before → StateCounted state
    → IsKnown (with_state v at number state shelf)
ends-with v at number before machine state shelf o s right = record {
  counted = λ m.
      state-counts (nat_eq number m) (calls_for m v.calls.calls) (known_by m v.lanes) (known_by m (slice_set v.lanes at (record { number = number; state = state }))) (in_flight machine) (known_in state) before
      (known-set m v.lanes at (record { number = number; state = Busy machine }) (record { number = number; state = state }) o.there) s (o.counts m);
  right = o.rest state right;
}

-- the lanes as they are, where the operation at the place counts right
owes-all : (v : View) (at number before : ℕ) (machine : Machine) → Owes v at number before machine → IsCounted machine → AllCounted v.lanes
owes-all v at number before machine o right =
    subst AllCounted (set-same v.lanes at (record { number = number; state = Busy machine }) o.there) (o.rest (Busy machine) right)

leads-count : (v new : View) (at number before : ℕ) (machine : Machine) (next : Step) → Owes v at number before machine → Counts next before machine → Leads v at number machine next new → IsKnown new
leads-count v new at number before machine (Send call) o c (inl m) =
    let row : ℕ × Waiting Purpose = (next_xid v.calls, made_call (record_of v call m.args) (record { lane = number; proc = proc_of call; sent = turn_at v })) in
    subst IsKnown (sym m.is) (record {
      counted = λ k.
          made-counts (nat_eq number k) (calls_for k v.calls.calls) (calls_for k (v.calls.calls ++ row ∷ [])) (known_by k v.lanes) (in_flight machine) before
          (calls-push k v.calls.calls row) c.0 (o.counts k);
      right = owes-all v at number before machine o c.1;
    })
leads-count v new at number before machine (Send call) o c (inr r) =
    subst IsKnown (sym r.is) (by r.next r.state (counts-calls.take v.wsize machine (turn_at v) (unmade_turn v) (Err r.fault) v.shelf r.next r.after r.left before r.takes c.1 c.0) r.leads)
  where
    by : (next : Step) (state : State) → Counts next before r.after → IsRefused r.after next state → IsKnown (with_state v at number state r.left)
    by (Send call) state counts is = absurd is
    by Wait state counts is = ends-with v at number before machine state r.left o (ap known_in is ∙ counts.0) (subst StateCounted (sym is) counts.1)
    by (Done answer) state counts is = ends-with v at number before machine state r.left o (ap known_in is ∙ sym counts) (subst StateCounted (sym is) tt)
leads-count v new at number before machine Wait o c is =
    subst IsKnown (sym is) (record {
      counted = λ m. same (nat_eq number m) (calls_for m v.calls.calls) (known_by m v.lanes) (in_flight machine) before c.0 (o.counts m);
      right = owes-all v at number before machine o c.1;
    })
  where
    same : (b : Bool) (calls known machine before : ℕ) → machine ≡ before → calls + where_ b machine ≡ known + where_ b before → calls ≡ known
    same true calls known machine before m e = omega (arith, m, e)
    same false calls known machine before m e = omega (arith, m, e)
leads-count v new at number before machine (Done answer) o c is = subst IsKnown (sym is) (ends-with v at number before machine (Over answer) v.shelf o (sym c) tt)

-- the operation at a place, of which so many calls waited by what it knows, came to another machine
stepped : (b : Bool) (calls known later old new : ℕ) → later + where_ b old ≡ known + where_ b new → calls ≡ known → calls + where_ b new ≡ later + where_ b old
stepped true calls known later old new k e = omega (arith, k, e)
stepped false calls known later old new k e = omega (arith, k, e)

owes-next : (v : View) (at number : ℕ) (machine after : Machine) (shelf : Shelf) → IsBusyAt v at number machine → IsKnown v → Owes (with_state v at number (Busy after) shelf) at number (in_flight machine) after
owes-next v at number machine after shelf there c = record {
  there = at-set v.lanes at (record { number = number; state = Busy machine }) (record { number = number; state = Busy after }) there;
  counts = λ m. stepped (nat_eq number m) (calls_for m v.calls.calls) (known_by m v.lanes) (known_by m (slice_set v.lanes at (record { number = number; state = Busy after }))) (in_flight machine) (in_flight after)
      (known-set m v.lanes at (record { number = number; state = Busy machine }) (record { number = number; state = Busy after }) there) (c.counted m);
  rest = λ state right. set-twice v.lanes at (record { number = number; state = Busy after }) (record { number = number; state = state }) right c.right;
}

pub stirs-count : (old new : View) (at : ℕ) → Stirs old at new → IsKnown old → IsKnown new
stirs-count old new at t c =
    leads-count (with_state old at t.number (Busy t.after) t.shelf) new at t.number (in_flight t.machine) t.after t.next
    (owes-next old at t.number t.machine t.after t.shelf t.there c) (counts-calls.resume old.wsize t.machine (turn_at old) old.shelf t.next t.after t.shelf t.resumes (c.right at (record { number = t.number; state = Busy t.machine }) t.there)) t.leads

pub moves-count : (old new : View) → Moves old new → IsKnown old → IsKnown new
moves-count _ _ (moves_none old new e) c = subst IsKnown (sym e) c
moves-count _ _ (moves_more old mid new at m room t first) c = stirs-count mid new at t (moves-count old mid m c)

-- ---- the calls of the core

fresh-lane : (b : Bool) (calls known new : ℕ) → calls ≡ known → calls + where_ b new ≡ (known + where_ b new) + where_ b 0
fresh-lane true calls known new e = omega (arith, e)
fresh-lane false calls known new e = omega (arith, e)

pub starts-count : (old new : View) (number : ℕ) (machine : Machine) → IsUnbegun machine → StartsLane old number machine new → IsKnown old → IsKnown new
starts-count old new number machine none t c =
    leads-count (record old { lanes = old.lanes ++ record { number = number; state = Busy t.after } ∷ []; shelf = t.shelf }) new (length old.lanes) number 0 t.after t.next
    (record {
      there = at-push old.lanes (record { number = number; state = Busy t.after });
      counts = λ m.
          let more = known-push m old.lanes (record { number = number; state = Busy t.after }) in
          subst (λ (k : ℕ). calls_for m old.calls.calls + where_ (nat_eq number m) (in_flight t.after) ≡ k + where_ (nat_eq number m) 0) (sym more)
          (fresh-lane (nat_eq number m) (calls_for m old.calls.calls) (known_by m old.lanes) (in_flight t.after) (c.counted m));
      rest = λ state right. set-pushed old.lanes (record { number = number; state = Busy t.after }) (record { number = number; state = state }) right c.right;
    })
    (counts-calls.start old.wsize machine (turn_at old) old.shelf t.next t.after t.shelf t.starts none) t.leads

abbrev pub IfFound : View → Type 0
IfFound v = v.lost ≡ false → IsKnown v

-- a lost session stays so
leads-lost : (v new : View) (at number : ℕ) (machine : Machine) (next : Step) → Leads v at number machine next new → new.lost ≡ v.lost
leads-lost v new at number machine (Send call) (inl m) = ap (λ (w : View). w.lost) m.is
leads-lost v new at number machine (Send call) (inr r) = ap (λ (w : View). w.lost) r.is
leads-lost v new at number machine Wait is = ap (λ (w : View). w.lost) is
leads-lost v new at number machine (Done answer) is = ap (λ (w : View). w.lost) is

moves-lost : (old new : View) → Moves old new → new.lost ≡ old.lost
moves-lost _ _ (moves_none old new e) = ap (λ (w : View). w.lost) e
moves-lost _ _ (moves_more old mid new at m room t first) =
    leads-lost (with_state mid at t.number (Busy t.after) t.shelf) new at t.number t.after t.next t.leads ∙ moves-lost old mid m

begins-count : (b : Bool) (old new : View) (number : ℕ) (machine : Machine) (now : ℕ) → old.lost ≡ b → IsUnbegun machine → BeginsIf b old number machine now new → IfFound old → IfFound new
begins-count true old new number machine now was none is c = λ found.
    absurd (let no_way : true ≡ false = sym was ∙ ap (λ (w : View). w.lost) (sym is) ∙ found in cc)
begins-count false old new number machine now was none b c = λ found.
    let k = c was in
    moves-count b.first new b.rest (starts-count (counted old now) b.first number machine none b.own (record { counted = k.counted; right = k.right }))

-- the call waits no more, and its operation takes what came of it
taken-owes : (b : Bool) (rest one calls known later old new others : ℕ) → rest + one ≡ calls → one ≡ where_ b 1 → calls ≡ known → old ≡ others + 1 → later + where_ b old ≡ known + where_ b new → rest + where_ b new ≡ later + where_ b others
taken-owes true rest one calls known later old new others r o c e k = omega (arith, r, o, c, e, k)
taken-owes false rest one calls known later old new others r o c e k = omega (arith, r, o, c, e, k)

-- ---- the only lane of a number

pub known-none : (number : ℕ) (lanes : List Lane) → ((k : ℕ) (l : Lane) → slice_get lanes k ≡ Some l → l.number ≡ number → ⊥) → known_by number lanes ≡ 0
known-none number [] none = refl
known-none number (lane ∷ lanes) none =
    let rest = known-none number lanes (λ k l there same. none (suc k) l there same) in
    let here : part number lane ≡ 0 = ap (λ (b : Bool). where_ b (known_in lane.state)) (ne_eqb lane.number number (λ same. none zero lane refl same)) in
    omega (arith, rest, here)

pub known-only : (number : ℕ) (lanes : List Lane) (at : ℕ) (state : State) → slice_get lanes at ≡ Some (record { number = number; state = state })
    → ((k : ℕ) (l : Lane) → slice_get lanes k ≡ Some l → l.number ≡ number → k ≡ at) → known_by number lanes ≡ known_in state
known-only number [] at state there only = absurd (cc)
known-only number (lane ∷ lanes) zero state there only =
    let is : lane ≡ record { number = number; state = state } = cc in
    let rest = known-none number lanes (λ k l here same. let no_way = only (suc k) l here same in omega (arith, no_way)) in
    let one : part number lane ≡ part number (record { number = number; state = state }) = ap (part number) is in
    let own : part number (record { number = number; state = state }) ≡ known_in state = ap (λ (b : Bool). where_ b (known_in state)) (eq-eqb number number refl) in
    omega (arith, rest, one, own)
known-only number (lane ∷ lanes) (suc at) state there only =
    let rest = known-only number lanes at state there (λ k l here same. let is = only (suc k) l here same in omega (arith, is)) in
    let here : part number lane ≡ 0 = ap (λ (b : Bool). where_ b (known_in lane.state)) (ne_eqb lane.number number (λ same. let no_way = only zero lane refl same in omega (arith, no_way))) in
    omega (arith, rest, here)

-- ---- a record comes

pub hears-count : (old new : View) (rec : List ℕ) (xid : ℕ) (call : Waiting Purpose) (at : ℕ) → waiting_at xid old.calls.calls ≡ Some call
    → position (is_busy call.purpose.lane) old.lanes ≡ Some at → ((k m : ℕ) (l n : Lane) → slice_get old.lanes k ≡ Some l → slice_get old.lanes m ≡ Some n → l.number ≡ n.number → k ≡ m)
    → TakesAt (taken_one old xid) at call.purpose.sent (said_of call.purpose.proc rec) new → IsKnown old → IsKnown new
hears-count old new rec xid call at waits found apart t c =
    let is : t.number ≡ call.purpose.lane = eqb-true t.number call.purpose.lane (at-position (is_busy call.purpose.lane) old.lanes at (record { number = t.number; state = Busy t.machine }) found t.there) in
    let only : known_by t.number old.lanes ≡ in_flight t.machine =
    known-only t.number old.lanes at (Busy t.machine) t.there (λ k l here same. apart k at l (record { number = t.number; state = Busy t.machine }) here t.there same) in
    let some = calls-some xid old.calls.calls call waits in
    let all : calls_for call.purpose.lane old.calls.calls ≡ in_flight t.machine = ap (λ (n : ℕ). calls_for n old.calls.calls) (sym is) ∙ c.counted t.number ∙ only in
    let before : in_flight t.machine ≡ (in_flight t.machine - 1) + 1 = omega (arith, some, all) in
    leads-count (with_state (taken_one old xid) at t.number (Busy t.after) t.shelf) new at t.number (in_flight t.machine - 1) t.after t.next
    (record {
      there = at-set old.lanes at (record { number = t.number; state = Busy t.machine }) (record { number = t.number; state = Busy t.after }) t.there;
      counts = λ m.
          taken-owes (nat_eq t.number m) (calls_for m (without xid old.calls.calls)) (one_for m call) (calls_for m old.calls.calls) (known_by m old.lanes)
          (known_by m (slice_set old.lanes at (record { number = t.number; state = Busy t.after }))) (in_flight t.machine) (in_flight t.after) (in_flight t.machine - 1)
          (calls-without m xid old.calls.calls call waits) (ap (λ (n : ℕ). where_ (nat_eq n m) 1) (sym is)) (c.counted m) before
          (known-set m old.lanes at (record { number = t.number; state = Busy t.machine }) (record { number = t.number; state = Busy t.after }) t.there);
      rest = λ state right. set-twice old.lanes at (record { number = t.number; state = Busy t.after }) (record { number = t.number; state = state }) right c.right;
    })
    (counts-calls.take old.wsize t.machine call.purpose.sent (turn_at (taken_one old xid)) (said_of call.purpose.proc rec) old.shelf t.next t.after t.shelf (in_flight t.machine - 1) t.takes (c.right at (record { number = t.number; state = Busy t.machine }) t.there) before) t.leads

-- a call that waits has its operation, so it isn't lost on the way
pub none-busy : (old : View) (xid : ℕ) (call : Waiting Purpose) → waiting_at xid old.calls.calls ≡ Some call → position (is_busy call.purpose.lane) old.lanes ≡ None → AreCounted old → ⊥
none-busy old xid call waits none c =
    let some = calls-some xid old.calls.calls call waits in
    let all = c call.purpose.lane in
    let k = known-some call.purpose.lane old.lanes (omega (arith, some, all)) in
    let lane : Lane = record { number = call.purpose.lane; state = Busy k.machine } in
    let fails = fails_everywhere (is_busy call.purpose.lane) old.lanes none lane k.at (slice_get_within old.lanes k.at lane k.there) in
    let here : is_busy call.purpose.lane lane ≡ false = subst (λ (l : Lane). is_busy call.purpose.lane l ≡ false) (get_or_from_slice_get old.lanes k.at lane lane k.there) fails in
    let own : nat_eq call.purpose.lane call.purpose.lane ≡ true = eq-eqb call.purpose.lane call.purpose.lane refl in
    let no_way : true ≡ false = sym own ∙ here in
    cc

heard-count : (old : View) (rec : List ℕ) (new : View) → ((k m : ℕ) (l n : Lane) → slice_get old.lanes k ≡ Some l → slice_get old.lanes m ≡ Some n → l.number ≡ n.number → k ≡ m)
    → Heard old rec new → old.lost ≡ false → IsKnown old → IsKnown new
heard-count old rec new apart (dropped none is) found c = subst IsKnown (sym is) c
heard-count old rec new apart (replied xid call named waits t) found c = moves-count t.first new t.rest (by (position (is_busy call.purpose.lane) old.lanes) refl t.own)
  where
    by : (o : Option ℕ) → position (is_busy call.purpose.lane) old.lanes ≡ o → MatchOption o (t.first ≡ taken_one old xid) (λ at. TakesAt (taken_one old xid) at call.purpose.sent (said_of call.purpose.proc rec) t.first)
        → IsKnown t.first
    by None none is = absurd (none-busy old xid call waits none c.counted)
    by (Some at) is h = hears-count old t.first rec xid call at waits is apart h c

pub heard-lost : (old : View) (rec : List ℕ) (new : View) → Heard old rec new → new.lost ≡ old.lost
heard-lost old rec new (dropped none is) = ap (λ (v : View). v.lost) is
heard-lost old rec new (replied xid call named waits t) = moves-lost t.first new t.rest ∙ by (position (is_busy call.purpose.lane) old.lanes) t.own
  where
    by : (o : Option ℕ) → MatchOption o (t.first ≡ taken_one old xid) (λ at. TakesAt (taken_one old xid) at call.purpose.sent (said_of call.purpose.proc rec) t.first) → t.first.lost ≡ old.lost
    by None is = ap (λ (v : View). v.lost) is
    by (Some at) h = leads-lost (with_state (taken_one old xid) at h.number (Busy h.after) h.shelf) t.first at h.number h.after h.next h.leads

-- ---- the other calls

answered-count : (old new : View) (at number : ℕ) (answer : Answer) → AnswersAt old at number (Some answer) new → IsKnown old → IsKnown new
answered-count old new at number answer a c = subst IsKnown (sym a.is) (record {
  counted = λ m.
      no-more (nat_eq number m) (calls_for m old.calls.calls) (known_by m old.lanes) (known_by m (remove old.lanes at)) (known-remove m old.lanes at (record { number = number; state = Over a.answer }) a.there)
      (c.counted m);
  right = λ k l there. c.right (skip at k) l (get-remove old.lanes at k l there);
})
  where
    no-more : (b : Bool) (calls known later : ℕ) → later + where_ b 0 ≡ known → calls ≡ known → calls ≡ later
    no-more true calls known later k e = omega (arith, k, e)
    no-more false calls known later k e = omega (arith, k, e)

failed-count : (old new : View) → FailedNow old new → IfFound old → IfFound new
failed-count old new (goes_on none is) c = λ found.
    let k = c (ap (λ (v : View). v.lost) (sym is) ∙ found) in
    subst IsKnown (sym is) (record {
      counted = λ m. ap (λ (o : Option ℕ). calls_for m (failed_after o old.calls.calls)) none ∙ calls-failed m true old.calls.calls ∙ k.counted m;
      right = k.right;
    })
failed-count old new (gives_up xid up is) c = λ found. absurd (let no_way : true ≡ false = ap (λ (v : View). v.lost) (sym is) ∙ found in cc)

same-count : (old new : View) → new ≡ old → IfFound old → IfFound new
same-count old new is c = subst IfFound (sym is) c

pub count-step : (machine_of : ℕ → Op → Machine) (h : List Entry) (old : View) (e : Entry) (new : View) → ((lane : ℕ) (op : Op) → IsUnbegun (machine_of lane op))
    → ((k m : ℕ) (l n : Lane) → slice_get old.lanes k ≡ Some l → slice_get old.lanes m ≡ Some n → l.number ≡ n.number → k ≡ m) → StepsTo machine_of h old e new → IfFound old → IfFound new
count-step machine_of h old (Began lane line op) new none apart t c = begins-count old.lost old new lane (machine_of lane op) (last_reading 0 h) refl (none lane op) t.step c
count-step machine_of h old (Answered lane line answer) new none apart t c = λ found.
    let a = answered_now old lane answer new t.answers in
    answered-count old new a.at lane answer a.is (c (ap (λ (v : View). v.lost) (sym a.is.is) ∙ found))
count-step machine_of h old (Sent bytes) new none apart t c = λ found.
    let n = sent_now old bytes new t in
    let k = c (ap (λ (v : View). v.lost) (sym n.is) ∙ found) in
    subst IsKnown (sym n.is) (record { counted = λ m. calls-sent m old.calls.calls ∙ k.counted m; right = k.right })
count-step machine_of h old (Delivered bytes) new none apart t c = λ found.
    let d = heard old bytes t.result new t.hears in
    let was : old.lost ≡ false = sym (heard-lost old bytes new d) ∙ found in
    heard-count old bytes new apart d was (c was)
count-step machine_of h old Failed new none apart (inl t) c = failed-count old new (failed_now old t.0 new t.1) c
count-step machine_of h old Failed new none apart (inr t) c = same-count old new t c
count-step machine_of h old (Dialed port) new none apart t c = same-count old new t c
count-step machine_of h old (Executed xid call reply) new none apart t c = same-count old new t c
count-step machine_of h old (Foreign call reply) new none apart t c = same-count old new t c
count-step machine_of h old (Flushed file from len) new none apart t c = same-count old new t c
count-step machine_of h old (Reboot verf) new none apart t c = same-count old new t c
count-step machine_of h old (Clock ms) new none apart t c = same-count old new t c

count-fresh : (setup : Setup) (v : View) → IsFresh setup v → IsKnown v
count-fresh setup v fresh = record {
  counted = λ m. ap (λ (c : Held Purpose). calls_for m c.calls) fresh.calls ∙ sym (ap (λ (lanes : List Lane). known_by m lanes) fresh.lanes);
  right = λ at lane there. absurd (let no_way : None ≡ Some lane = ap (λ (lanes : List Lane). slice_get lanes at) (sym fresh.lanes) ∙ there in cc);
}

pub reached-count : (machine_of : ℕ → Op → Machine) → ((lane : ℕ) (op : Op) → IsUnbegun (machine_of lane op)) → (setup : Setup) (h : List Entry) (v : View) → Reaches machine_of setup h v → IfFound v
reached-count machine_of none setup _ _ (begins h v may up fresh) = λ found. count-fresh setup v fresh
reached-count machine_of none setup _ _ (goes h before v b e r is t) =
    count-step machine_of before b e v none (lanes-under-way before b (reached-lanes machine_of setup before b r)).apart t (reached-count machine_of none setup before b r)
reached-count machine_of none setup _ _ (loses h v b r shown is) = λ found. absurd (let no_way : true ≡ false = ap (λ (w : View). w.lost) (sym is) ∙ found in cc)

pub reached-known : (machine_of : ℕ → Op → Machine) → ((lane : ℕ) (op : Op) → IsUnbegun (machine_of lane op)) → (setup : Setup) (h : List Entry) (v : View) → Reaches machine_of setup h v
    → v.lost ≡ false → AreCounted v
reached-known machine_of none setup h v r found = (reached-count machine_of none setup h v r found).counted

-- an idle lane has no call that waits
pub none-idle : (v : View) (number xid : ℕ) (call : Waiting Purpose) → IsOther number (numbers_of v.lanes) → AreCounted v → waiting_at xid v.calls.calls ≡ Some call → call.purpose.lane ≡ number → ⊥
none-idle v number xid call idle c waits same =
    let some = calls-some xid v.calls.calls call waits in
    let all = c call.purpose.lane in
    let k = known-some call.purpose.lane v.lanes (omega (arith, some, all)) in
    idle-numbers number (numbers_of v.lanes) idle k.at (to-map number_of v.lanes k.at (record { number = call.purpose.lane; state = Busy k.machine }) k.there ∙ ap Some same)
