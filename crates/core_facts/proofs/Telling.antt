-- What the steps of operations keep along a history, of the shelf, of each call that waits and of each operation under way, holds of each answer: of what
-- comes it is known which call it answers, for which operation that was sent, and where. G is known of each view before.
use Rattle.core_facts.proofs.Answered.{HadStory, answered-story}
use Rattle.core_facts.proofs.Prelude.{said_of, Says, IsFresh, is_busy, lost_lane, IsOther, numbers_of, with_state, record_of, Makes, IsRefused, Leads, Stirs, Moves, moves_none, moves_more, counted, BeginsIf, TakesAt, View, turn_at, unmade_turn, Lane, Purpose, State, Busy, Over, Setup, Step, Send, Wait, Done, Shelf, Turn, where_, calls_for, in_flight, IsUnbegun, Counts, IsSetUp, StepsTo, HearsRecord, goes, last_reading, loses, NoneBusy, IsOutstanding, Tried, unsent, runs, Starts, Resumes, Takes, Machine, xid_at, at_made, others_made, others_taken, gone, failed_after, next_xid, made_call, waiting_at, without, Waiting, ◌≡◌, ◌≢◌, ◌<◌, ◌+◌, ◌-◌, ◌⊎◌, inl, inr, ℕ, List, [], ◌∷◌, ◌++◌, length, map, Bool, true, false, nat_eq, Option, Some, None, MatchOption, position, slice_get, slice_set, Result, Err, refl, sym, ap, subst, ◌∙◌, arith, eqb-true, eq-eqb, FirstSent-grow, At-grow, At-below, At-back, At-last, At-cases, length_last, At, IsLost, HasXid, proc_of, Ended, UnderWay, Answer, Refused, Fault, Entry, Began, Answered, Dialed, Executed, Foreign, Flushed, Reboot, Delivered, Failed, Clock, Sent, Call, Reply, Op}
use Rattle.client_core.specs.Steps.{IsUnmade}
use Rattle.core_facts.specs.Reaches.{MayHear}
use Rattle.core_facts.specs.Tries.{IsMade, ended}
use Rattle.rpc_retry.proofs.Records.{before_sent, before_failed}
use Rattle.world_model.specs.Messages.{SpellsCall, SpellsCallBy}
use Rattle.core_facts.proofs.AllCounts.{counts-calls}
use Rattle.core_facts.proofs.Cases.{Heard, dropped, replied, sent_now, FailedNow, goes_on, gives_up, failed_now, answered_now, taken_one, heard}
use Rattle.core_facts.proofs.Counting.{IsKnown, calls-some, calls-without, known-only, known-none, one_for, stirs-count, starts-count, hears-count, reached-count, none-busy, none-idle}
use Rattle.core_facts.proofs.Expects.{ExpectLaws}
use Rattle.core_facts.proofs.Hearing.{was-sent, says-of}
use Rattle.core_facts.proofs.LaneMarks.{LanesKnown, quiet-facts, lanes-stay, lanes-begin, lanes-under-way, reached-lanes, idle-numbers, number_of}
use Rattle.core_facts.proofs.Lists.{at-set, at-push, at-position, get-push, get-remove, skip, in-map, to-map}
use Rattle.core_facts.proofs.Losing.{reached-shown, lost-grow}
use Rattle.core_facts.proofs.Owning.{reached-since}
use Rattle.core_facts.proofs.Passing.{Passes, passes_fresh, passes_step, passes_lost, forget}
use Rattle.core_facts.proofs.Resting.{comes-to-rest, none-moves, own-none}
use Rattle.core_facts.proofs.Rows.{Rows, rows-stay, same-rows, rows-grow, silent-grow, taken-quiet, not-sent, taken-rows, made-known, made-asked, reached-rows}
use Rattle.core_facts.proofs.SaidNone.{said-none}
use Rattle.core_facts.proofs.Steps.{AskedOf, KeptOf, ThenOf}
use Rattle.core_facts.proofs.Stories.{set-other, by-place, IsGiven, ended-grow, under-back, some-call, Going}
use Rattle.core_facts.proofs.Walks.{stirs-stay, starts-stay, steps-stay}
use Rattle.rpc_retry.specs.Records.{WaitedAs}
use Rattle.world_model.specs.Heard.{Heard as IsHeard}
use Rattle.world_model.specs.LanesTogether.{IsBusy}
use Rattle.world_model.specs.Waiting.{IsDelivered}
use Rattle.world_model.specs.declared.answer.Fault.TheVariants as faults

-- a call that is made, of which W holds
abbrev pub AsksFor : (Call → Type 0) → Step → Type 0
AsksFor W (Send call) = W call
AsksFor W Wait = Unit {0}
AsksFor W (Done answer) = Unit {0}

-- an operation that has its answer sees no further record
abbrev pub IsQuiet : State → Entry → Type 0
IsQuiet (Busy machine) e = Unit {0}
IsQuiet (Over answer) e = IsDelivered e → ⊥

-- What a step leaves: I of the shelf, W of the call that it asks for, and S of the operation.
pub record Did (W : List Entry → ℕ → Op → Call → Type 0) (I : List Entry → Shelf → Type 0) (S : List Entry → ℕ → Op → State → Type 0) (h : List Entry) (x : ℕ) (op : Op) (next : Step)
    (new : Machine) (after : Shelf) : Type 0 where
  pub shelf : I h after
  pub asks : AsksFor (W h x op) next
  pub then_ : ThenOf (λ m. S h x op (Busy m)) (λ a. S h x op (Over a)) next new

-- As a record comes Q holds of each call that waited, of the operation that is under way in its lane, of its machine, and of the place where the call was first
-- sent; as long as the session isn't lost. S was known of the operation before.
abbrev pub Sight : Type 1
Sight = List Entry → ℕ → Op → Machine → ℕ → Turn → Turn → Call → Shelf → Type 0

abbrev pub IsSeenBy : (ℕ → Op → Machine) → Setup → (List Entry → View → Type 0) → (List Entry → ℕ → Op → State → Type 0) → Sight → Type 0
IsSeenBy machine_of setup G S Q = (h : List Entry) (v : View) → Passes machine_of setup G h v → v.lost ≡ false → MayHear v → (xid : ℕ) (w : Waiting Purpose)
    → waiting_at xid v.calls.calls ≡ Some w → (made : IsMade setup.cred xid w) → (at : ℕ) (machine : Machine) → slice_get v.lanes at ≡ Some (record { number = w.purpose.lane; state = Busy machine })
    → (x : ℕ) (op : Op) → UnderWay h w.purpose.lane x (length h) op → (from : ℕ) → IsOutstanding h xid w.bytes from
    → S h x op (Busy machine) → (rec : List ℕ) → Q (h ++ Delivered rec ∷ []) x op machine from w.purpose.sent (turn_at (taken_one v xid)) made.asked v.shelf

-- The record at the end answers the call: a reply to it, or a refusal.
pub record IsHeardNow (h : List Entry) (x : ℕ) (call : Call) (came : Result Reply Fault) : Type 0 where
  pub xid : ℕ
  pub rec : List ℕ
  pub heard : IsHeard h x (length h) call xid rec
  pub since : x < heard.sent_at
  pub end : heard.got_at + 1 ≡ length h
  pub says : Says xid call rec came

-- What came of a call that the machine waited for, and Q of it: it is what the record says of the call's procedure, so a status came only in a reply.
pub record IsToldOf (Q : Sight) (E : Machine → Call → Type 0) (W : List Entry → ℕ → Op → Call → Type 0) (h : List Entry) (x : ℕ) (op : Op) (machine : Machine) (sent turn : Turn)
    (came : Result Reply Fault) (shelf : Shelf) : Type 0 where
  pub call : Call
  pub expects : E machine call
  pub asks : W h x op call
  pub now : IsHeardNow h x call came
  pub read : (status : ℕ) → came ≡ Err (faults.Nfs status) → ⊥
  pub proc : ℕ
  pub said_is : came ≡ said_of proc now.rec
  pub seen : Q h x op machine now.heard.sent_at sent turn call shelf

-- a call that isn't made: none is left, or there is no memory
abbrev pub IsUnmadeFault : Fault → Type 0
IsUnmadeFault faults.Spent = Unit {0}
IsUnmadeFault faults.Memory = Unit {0}
IsUnmadeFault fault = ⊥

-- Something came of a call, or it wasn't made.
pub data CameOf (Q : Sight) (E : Machine → Call → Type 0) (W : List Entry → ℕ → Op → Call → Type 0) (h : List Entry) (x : ℕ) (op : Op) (machine : Machine) (sent turn : Turn)
    (came : Result Reply Fault) (shelf : Shelf) : Type 0 where
  heard_of : IsToldOf Q E W h x op machine sent turn came shelf → CameOf Q E W h x op machine sent turn came shelf
  unmade : (call : Call) → E machine call → (fault : Fault) → came ≡ Err fault → IsUnmadeFault fault → W h x op call
      → CameOf Q E W h x op machine sent turn came shelf

-- Facts of the shelf, of a call that waits and of an operation, which began at a place, that steps keep, and entries; where P is known of the history and the shelf as the operation begins in its lane, and Q as a reply comes.
pub record TellLaws (P : List Entry → ℕ → Shelf → Type 0) (Q : Sight) (machine_of : ℕ → Op → Machine) (setup : Setup) (E : Machine → Call → Type 0)
    (W : List Entry → ℕ → Op → Call → Type 0) (I : List Entry → Shelf → Type 0) (S : List Entry → ℕ → Op → State → Type 0) : Type 0 where
  pub fresh : (h : List Entry) (v : View) → IsSetUp setup h → IsFresh setup v → I h v.shelf
  pub starts : (h : List Entry) (lane line : ℕ) (op : Op) (wsize : ℕ) (turn : Turn) (old : Shelf) (next : Step) (new : Machine) (after : Shelf) → P h lane old
      → I (h ++ Began lane line op ∷ []) old → Starts wsize (machine_of lane op) turn old next new after → Did W I S (h ++ Began lane line op ∷ []) (length h) op next new after
  pub resumes : (h : List Entry) (x : ℕ) (op : Op) (machine : Machine) (wsize : ℕ) (turn : Turn) (old : Shelf) (next : Step) (new : Machine) (after : Shelf)
      → I h old → S h x op (Busy machine) → Resumes wsize machine turn old next new after → Did W I S h x op next new after
  pub takes : (h : List Entry) (x : ℕ) (op : Op) (machine : Machine) (wsize : ℕ) (sent turn : Turn) (came : Result Reply Fault) (old : Shelf) (next : Step) (new : Machine)
      (after : Shelf) (others : ℕ) → I h old → S h x op (Busy machine) → in_flight machine ≡ others + 1 → CameOf Q E W h x op machine sent turn came old
      → Takes wsize machine sent turn came old next new after → Did W I S h x op next new after
  pub still : (h : List Entry) (e : Entry) (shelf : Shelf) → I h shelf → I (h ++ e ∷ []) shelf
  pub waits : (h : List Entry) (e : Entry) (x : ℕ) (op : Op) (call : Call) → W h x op call → W (h ++ e ∷ []) x op call
  pub grows : (h : List Entry) (e : Entry) (x : ℕ) (op : Op) (state : State) → IsQuiet state e → S h x op state → S (h ++ e ∷ []) x op state
  pub lost : (h : List Entry) (x : ℕ) (op : Op) → IsLost h (length h) → S h x op (Over (Refused faults.Lost))

-- ---- what came

why-unmade : (v : View) (fault : Fault) → IsUnmade v fault → IsUnmadeFault fault
why-unmade v faults.Spent u = tt
why-unmade v faults.Memory u = tt
why-unmade v faults.Lost u = absurd u
why-unmade v (faults.Nfs status) u = absurd u
why-unmade v (faults.Rpc n) u = absurd u
why-unmade v (faults.Bad rule) u = absurd u
why-unmade v faults.Slot u = absurd u
why-unmade v faults.Mode u = absurd u
why-unmade v faults.Kind u = absurd u
why-unmade v faults.Many u = absurd u

-- the record at the end of a history answers a call that was first sent after the place x
record HeardNow (h : List Entry) (x xid : ℕ) (call : Call) (rec : List ℕ) (from : ℕ) : Type 0 where
  pub heard : IsHeard h x (length h) call xid rec
  pub from_is : from ≡ heard.sent_at
  pub since : x < heard.sent_at
  pub end : heard.got_at + 1 ≡ length h

heard-now : (h : List Entry) (rec : List ℕ) (xid from x : ℕ) (asked : Call) (bytes : List ℕ) → IsOutstanding h xid bytes from → SpellsCall xid asked bytes → HasXid rec xid → x < from
    → HeardNow (h ++ Delivered rec ∷ []) x xid asked rec from
heard-now h rec xid from x asked bytes o spells named since =
    let within : from < length h = At-below h from (Sent bytes) o.sent.sent in
    let more = length_last h (Delivered rec) in
    record {
      heard = record {
        sent_at = from;
        record_sent = bytes;
        got_at = length h;
        sent = FirstSent-grow h (Delivered rec ∷ []) from xid bytes o.sent;
        spells = spells;
        got = record {
          got = At-last h (Delivered rec);
          under = named;
          waits = record {
            at = from;
            bytes = bytes;
            sent = At-grow h (Delivered rec ∷ []) from (Sent bytes) o.sent.sent;
            under = o.sent.under;
            before = within;
            unanswered = λ j b at has after before. o.unheard j b (At-back h (Delivered rec ∷ []) j (Delivered b) at before) has after;
          };
        };
        after = omega (arith, since);
        later = within;
        before = omega (arith, more);
      };
      from_is = refl;
      since = since;
      end = sym more;
    }

pub quiet-entry : (e : Entry) → (IsDelivered e → ⊥) → (state : State) → IsQuiet state e
quiet-entry e other (Busy machine) = tt
quiet-entry e other (Over answer) = other

module _ (machine_of : ℕ → Op → Machine) (unbegun : (lane : ℕ) (op : Op) → IsUnbegun (machine_of lane op)) (setup : Setup) (G : List Entry → View → Type 0) (P : List Entry → ℕ → Shelf → Type 0)
    (given : IsGiven machine_of setup P) (Q : Sight) (S : List Entry → ℕ → Op → State → Type 0) (sees : IsSeenBy machine_of setup G S Q) (E : Machine → Call → Type 0) (expected : ExpectLaws E)
    (W : List Entry → ℕ → Op → Call → Type 0) (I : List Entry → Shelf → Type 0) (laws : TellLaws P Q machine_of setup E W I S) where
  -- The call that waits is one that the machine expects.
  pub record IsExpected (h : List Entry) (number xid : ℕ) (w : Waiting Purpose) (machine : Machine) : Type 0 where
    pub made : IsMade setup.cred xid w
    pub expects : E machine made.asked
    pub asks : (x : ℕ) (op : Op) → UnderWay h number x (length h) op → W h x op made.asked

  abbrev pub StateExpected : List Entry → List (ℕ × Waiting Purpose) → ℕ → State → Type 0
  StateExpected h calls number (Busy machine) = (xid : ℕ) (w : Waiting Purpose) → waiting_at xid calls ≡ Some w → w.purpose.lane ≡ number → IsExpected h number xid w machine
  StateExpected h calls number (Over answer) = Unit {0}

  abbrev pub StateTold : List Entry → ℕ → State → Type 0
  StateTold h number state = (x : ℕ) (op : Op) → UnderWay h number x (length h) op → S h x op state

  abbrev pub LaneGood : List Entry → List (ℕ × Waiting Purpose) → Lane → Type 0
  LaneGood h calls lane = StateExpected h calls lane.number lane.state × StateTold h lane.number lane.state

  abbrev pub LanesGood : List Entry → View → Type 0
  LanesGood h v = (k : ℕ) (lane : Lane) → slice_get v.lanes k ≡ Some lane → LaneGood h v.calls.calls lane

  pub record AllGoodBy (h : List Entry) (v : View) : Type 0 where
    pub shelf : I h v.shelf
    pub each : LanesGood h v

  -- what holds between the steps of a session that isn't lost
  pub record Good (h : List Entry) (v : View) : Type 0 where
    pub rows : Rows setup h v
    pub lanes : LanesKnown h v
    pub known : IsKnown v
    pub all : AllGoodBy h v

  -- The machine of the lane at a place made a step, and what that leads to is still to come.
  pub record Owing (h : List Entry) (v : View) (at number others : ℕ) (machine : Machine) (next : Step) : Type 0 where
    pub there : slice_get v.lanes at ≡ Some (record { number = number; state = Busy machine })
    pub rest : (k : ℕ) (lane : Lane) → slice_get v.lanes k ≡ Some lane → k ≢ at → LaneGood h v.calls.calls lane
    pub calls : calls_for number v.calls.calls ≡ others
    pub counts : Counts next others machine
    pub asked : AskedOf E next machine
    pub own : Going next (StateExpected h v.calls.calls number (Busy machine))
    pub told : (x : ℕ) (op : Op) → UnderWay h number x (length h) op → Did W I S h x op next machine v.shelf
    pub shelf : I h v.shelf

  -- ---- one step

  good-set : (h : List Entry) (v : View) (at number : ℕ) (machine : Machine) (state : State) (shelf : Shelf) → slice_get v.lanes at ≡ Some (record { number = number; state = Busy machine })
      → ((k : ℕ) (lane : Lane) → slice_get v.lanes k ≡ Some lane → k ≢ at → LaneGood h v.calls.calls lane) → LaneGood h v.calls.calls (record { number = number; state = state })
      → LanesGood h (with_state v at number state shelf)
  good-set h v at number machine state shelf there rest good =
      by-place (LaneGood h v.calls.calls) (slice_set v.lanes at (record { number = number; state = state })) at (record { number = number; state = state })
      (at-set v.lanes at (record { number = number; state = Busy machine }) (record { number = number; state = state }) there) good
      (λ k lane here apart. rest k lane (sym (set-other v.lanes at k (record { number = number; state = state }) apart) ∙ here) apart)

  -- the call that is made is one of this lane, and no other lane's
  made-lane : (h : List Entry) (v : View) (number : ℕ) (call : Call) (new : View) (m : Makes v number call new) → Rows setup h v → (lane : ℕ) (machine : Machine)
      → ((xid : ℕ) (w : Waiting Purpose) → waiting_at xid v.calls.calls ≡ Some w → w.purpose.lane ≡ lane → IsExpected h lane xid w machine)
      → (lane ≡ number → E machine call × ((x : ℕ) (op : Op) → UnderWay h lane x (length h) op → W h x op call))
      → (xid : ℕ) (w : Waiting Purpose)
      → waiting_at xid (v.calls.calls ++ (next_xid v.calls, made_call (record_of v call m.args) (record { lane = number; proc = proc_of call; sent = turn_at v })) ∷ []) ≡ Some w
      → w.purpose.lane ≡ lane → IsExpected h lane xid w machine
  made-lane h v number call new m r lane machine old own xid w at same = by (nat_eq xid (next_xid v.calls)) refl
    where
      row : Waiting Purpose
      row = made_call (record_of v call m.args) (record { lane = number; proc = proc_of call; sent = turn_at v })

      by : (b : Bool) → nat_eq xid (next_xid v.calls) ≡ b → IsExpected h lane xid w machine
      by true d =
          let is : xid ≡ next_xid v.calls = eqb-true xid (next_xid v.calls) d in
          let which : row ≡ w = some-call row w (sym (at_made v.calls.cred v.calls.first_xid (next_xid v.calls) xid (next_xid v.calls) v.calls.calls row r.sound.calls.each is refl) ∙ at) in
          let k = made-known setup h v number call new m r in
          let mine = own (sym (ap (λ (c : Waiting Purpose). c.purpose.lane) which ∙ same)) in
          let asked : k.made.asked ≡ call = made-asked setup h v number call new m r in
          subst (λ (n : ℕ). IsExpected h lane n w machine) (sym is)
          (subst (λ (c : Waiting Purpose). IsExpected h lane (next_xid v.calls) c machine) which (record {
            made = k.made;
            expects = subst (λ (c : Call). E machine c) (sym asked) mine.0;
            asks = λ x op u. subst (λ (c : Call). W h x op c) (sym asked) (mine.1 x op u);
          }))
      by false d = old xid w (sym (others_made xid (next_xid v.calls) v.calls.calls row d) ∙ at) same

  leads-good : (h : List Entry) (v new : View) (at number others : ℕ) (machine : Machine) (next : Step) → LanesKnown h v → Rows setup h v → Owing h v at number others machine next
      → Leads v at number machine next new → AllGoodBy h new
  leads-good h v new at number others machine (Send call) lanes r o (inl m) = subst (AllGoodBy h) (sym m.is) (record {
    shelf = o.shelf;
    each = by-place (LaneGood h (v.calls.calls ++ (next_xid v.calls, row) ∷ [])) v.lanes at (record { number = number; state = Busy machine }) o.there
        (made-lane h v number call new m r number machine o.own (λ same. (o.asked, λ x op u. (o.told x op u).asks)), λ x op u. (o.told x op u).then_)
        (λ k lane here apart. other k lane here apart lane.state refl (o.rest k lane here apart));
  })
    where
      row : Waiting Purpose
      row = made_call (record_of v call m.args) (record { lane = number; proc = proc_of call; sent = turn_at v })

      other : (k : ℕ) (lane : Lane) → slice_get v.lanes k ≡ Some lane → k ≢ at → (state : State) → lane.state ≡ state → LaneGood h v.calls.calls lane
          → LaneGood h (v.calls.calls ++ (next_xid v.calls, row) ∷ []) lane
      other k lane here apart (Busy m2) is g =
          let was : StateExpected h v.calls.calls lane.number (Busy m2) = subst (StateExpected h v.calls.calls lane.number) is g.0 in (
            subst (StateExpected h (v.calls.calls ++ (next_xid v.calls, row) ∷ []) lane.number) (sym is)
                (made-lane h v number call new m r lane.number m2 was
                (λ same. absurd (apart ((lanes-under-way h v lanes).apart k at lane (record { number = number; state = Busy machine }) here o.there same)))),
            g.1,
          )
      other k lane here apart (Over answer) is g = (subst (StateExpected h (v.calls.calls ++ (next_xid v.calls, row) ∷ []) lane.number) (sym is) tt, g.1)
  leads-good h v new at number others machine (Send call) lanes r o (inr f) = subst (AllGoodBy h) (sym f.is) (record { shelf = (told busy.x busy.op busy.under_way).shelf; each = by f.next f.state f.leads kept.1 told })
    where
      busy : IsBusy h number (length h)
      busy = (lanes-under-way h v lanes).busy at (record { number = number; state = Busy machine }) o.there

      kept : AskedOf E f.next f.after × KeptOf E others machine f.next f.after
      kept = expected.takes machine v.wsize (turn_at v) (unmade_turn v) (Err f.fault) v.shelf f.next f.after f.left others o.counts.0 f.takes

      told : (x : ℕ) (op : Op) → UnderWay h number x (length h) op → Did W I S h x op f.next f.after f.left
      told x op u =
          let d = o.told x op u in
          laws.takes h x op machine v.wsize (turn_at v) (unmade_turn v) (Err f.fault) v.shelf f.next f.after f.left others o.shelf d.then_ o.counts.0 (unmade call o.asked f.fault refl (why-unmade v f.fault f.unmade) d.asks) f.takes

      by : (next : Step) (state : State) → IsRefused f.after next state → KeptOf E others machine next f.after
          → ((x : ℕ) (op : Op) → UnderWay h number x (length h) op → Did W I S h x op next f.after f.left) → LanesGood h (with_state v at number state f.left)
      by (Send again) state is k t = absurd is
      by Wait state is k t = good-set h v at number machine state f.left o.there o.rest
          (subst (λ (s : State). LaneGood h v.calls.calls (record { number = number; state = s })) (sym is) (
            λ xid w waits same.
                let e = o.own xid w waits same in
                let some = calls-some xid v.calls.calls w waits in
                let all = ap (λ (n : ℕ). calls_for n v.calls.calls) same ∙ o.calls in
                record { made = e.made; expects = k (omega (arith, some, all)) e.made.asked e.expects; asks = e.asks },
            λ x op u. (t x op u).then_,
          ))
      by (Done answer) state is k t = good-set h v at number machine state f.left o.there o.rest
          (subst (λ (s : State). LaneGood h v.calls.calls (record { number = number; state = s })) (sym is) (tt, λ x op u. (t x op u).then_))
  leads-good h v new at number others machine Wait lanes r o is = subst (AllGoodBy h) (sym is) (record {
    shelf = o.shelf;
    each = by-place (LaneGood h v.calls.calls) v.lanes at (record { number = number; state = Busy machine }) o.there (o.own, λ x op u. (o.told x op u).then_) o.rest;
  })
  leads-good h v new at number others machine (Done answer) lanes r o is = subst (AllGoodBy h) (sym is) (record {
    shelf = o.shelf;
    each = good-set h v at number machine (Over answer) v.shelf o.there o.rest (tt, λ x op u. (o.told x op u).then_);
  })

  -- what it expects after the step, as long as it goes on
  going-own : (h : List Entry) (next : Step) (calls : List (ℕ × Waiting Purpose)) (number others : ℕ) (machine after : Machine) → calls_for number calls ≡ others
      → StateExpected h calls number (Busy machine) → KeptOf E others machine next after → Going next (StateExpected h calls number (Busy after))
  going-own h (Send call) calls number others machine after count own k = λ xid w waits same.
      let e = own xid w waits same in
      let some = calls-some xid calls w waits in
      let all = ap (λ (n : ℕ). calls_for n calls) same ∙ count in
      record { made = e.made; expects = k (omega (arith, some, all)) e.made.asked e.expects; asks = e.asks }
  going-own h Wait calls number others machine after count own k = λ xid w waits same.
      let e = own xid w waits same in
      let some = calls-some xid calls w waits in
      let all = ap (λ (n : ℕ). calls_for n calls) same ∙ count in
      record { made = e.made; expects = k (omega (arith, some, all)) e.made.asked e.expects; asks = e.asks }
  going-own h (Done answer) calls number others machine after count own k = tt

  stirs-good : (h : List Entry) (old new : View) (at : ℕ) → Stirs old at new → Good h old → AllGoodBy h new
  stirs-good h old new at t g =
      let own = g.all.each at (record { number = t.number; state = Busy t.machine }) t.there in
      let e = expected.resumes t.machine old.wsize (turn_at old) old.shelf t.next t.after t.shelf t.resumes in
      let apart = (lanes-under-way h old g.lanes).apart in
      let busy = (lanes-under-way h old g.lanes).busy at (record { number = t.number; state = Busy t.machine }) t.there in
      let count : calls_for t.number old.calls.calls ≡ in_flight t.machine =
      g.known.counted t.number ∙ known-only t.number old.lanes at (Busy t.machine) t.there (λ k l is same. apart k at l (record { number = t.number; state = Busy t.machine }) is t.there same) in
      leads-good h (with_state old at t.number (Busy t.after) t.shelf) new at t.number (in_flight t.machine) t.after t.next
      ((lanes-stay h).sets old at t.number (Busy t.machine) (Busy t.after) t.shelf t.there g.lanes)
      (same-rows setup h old (with_state old at t.number (Busy t.after) t.shelf) refl g.rows)
      (record {
        there = at-set old.lanes at (record { number = t.number; state = Busy t.machine }) (record { number = t.number; state = Busy t.after }) t.there;
        rest = λ k lane is other. g.all.each k lane (sym (set-other old.lanes at k (record { number = t.number; state = Busy t.after }) other) ∙ is);
        calls = count;
        counts = counts-calls.resume old.wsize t.machine (turn_at old) old.shelf t.next t.after t.shelf t.resumes (g.known.right at (record { number = t.number; state = Busy t.machine }) t.there);
        asked = e.0;
        own = going-own h t.next old.calls.calls t.number (in_flight t.machine) t.machine t.after count own.0 e.1;
        told = λ x op u. laws.resumes h x op t.machine old.wsize (turn_at old) old.shelf t.next t.after t.shelf g.all.shelf (own.1 x op u) t.resumes;
        shelf = (laws.resumes h busy.x busy.op t.machine old.wsize (turn_at old) old.shelf t.next t.after t.shelf g.all.shelf (own.1 busy.x busy.op busy.under_way) t.resumes).shelf;
      }) t.leads

  moves-good : (h : List Entry) (old new : View) → Moves old new → Good h old → Good h new
  moves-good h _ _ (moves_none old new is) g = subst (Good h) (sym is) g
  moves-good h _ _ (moves_more old mid new at m room t first) g =
      let before = moves-good h old mid m g in record {
        rows = stirs-stay (Rows setup h) (rows-stay setup h) mid new at t before.rows;
        lanes = stirs-stay (LanesKnown h) (lanes-stay h) mid new at t before.lanes;
        known = stirs-count mid new at t before.known;
        all = stirs-good h mid new at t before;
      }

  -- ---- one entry more

  expected-grows : (h : List Entry) (e : Entry) (calls : List (ℕ × Waiting Purpose)) (number : ℕ) (state : State) → ((line : ℕ) (op : Op) → e ≡ Began number line op → ⊥)
      → StateExpected h calls number state → StateExpected (h ++ e ∷ []) calls number state
  expected-grows h e calls number (Over answer) other k = tt
  expected-grows h e calls number (Busy machine) other k = λ xid w waits same.
      let old = k xid w waits same in
      record { made = old.made; expects = old.expects; asks = λ x op u. laws.waits h e x op old.made.asked (old.asks x op (under-back h e number x op other u)) }

  lane-grows : (h : List Entry) (e : Entry) (calls : List (ℕ × Waiting Purpose)) (lane : Lane) → ((line : ℕ) (op : Op) → e ≡ Began lane.number line op → ⊥) → IsQuiet lane.state e
      → LaneGood h calls lane → LaneGood (h ++ e ∷ []) calls lane
  lane-grows h e calls lane other quiet g =
      (expected-grows h e calls lane.number lane.state other g.0, λ x op u. laws.grows h e x op lane.state quiet (g.1 x op (under-back h e lane.number x op other u)))

  abbrev pub AllQuiet : View → Entry → Type 0
  AllQuiet v e = (k : ℕ) (lane : Lane) → slice_get v.lanes k ≡ Some lane → IsQuiet lane.state e

  all-grows : (h : List Entry) (e : Entry) (v : View) → ((lane line : ℕ) (op : Op) → e ≡ Began lane line op → ⊥) → AllQuiet v e → AllGoodBy h v → AllGoodBy (h ++ e ∷ []) v
  all-grows h e v other quiet g = record {
    shelf = laws.still h e v.shelf g.shelf;
    each = λ k lane there. lane-grows h e v.calls.calls lane (other lane.number) (quiet k lane there) (g.each k lane there);
  }

  -- when a record is received each answer was noted
  noted-quiet : (old : View) (rec : List ℕ) (new : View) → HearsRecord old rec new → AllQuiet old (Delivered rec)
  noted-quiet old rec new t k lane there = by lane.state refl
    where
      by : (s : State) → lane.state ≡ s → IsQuiet s (Delivered rec)
      by (Busy machine) is = tt
      by (Over answer) is = λ d. t.may.noted k lane.number answer (there ∙ ap (λ (s : State). Some (record { number = lane.number; state = s })) is)

  all-quiet : (v : View) (e : Entry) → (IsDelivered e → ⊥) → AllQuiet v e
  all-quiet v e other k lane there = quiet-entry e other lane.state

  -- ---- an operation begins

  began-is : (a b c d : ℕ) (o p : Op) → Began a b o ≡ Began c d p → a ≡ c
  began-is a b c d o p e = cc

  began-op : (a b c d : ℕ) (o p : Op) → Began a b o ≡ Began c d p → p ≡ o
  began-op a b c d o p e = cc

  began-not : (a b : ℕ) (o : Op) → IsDelivered (Began a b o) → ⊥
  began-not a b o d = let is = d.1 in cc

  -- the operation that is under way in the lane is the one that begins
  now-told : (h : List Entry) (v : View) (lane line : ℕ) (op : Op) (P : ℕ → Op → Type 0) → LanesKnown h v → IsOther lane (numbers_of v.lanes) → P (length h) op
      → (x : ℕ) (o : Op) → UnderWay (h ++ Began lane line op ∷ []) lane x (length (h ++ Began lane line op ∷ [])) o → P x o
  now-told h v lane line op P lanes idle p x o u = by (At-cases h (Began lane line op) x (Began lane u.line o) u.began)
    where
      by : At h x (Began lane u.line o) ⊎ ((x ≡ length h) × (Began lane line op ≡ Began lane u.line o)) → P x o
      by (inr now) = subst (λ (y : ℕ). P y o) (sym now.0) (subst (λ (q : Op). P (length h) q) (sym (began-op lane line lane u.line op o now.1)) p)
      by (inl there) = absurd ((lanes-under-way h v lanes).idle lane idle (record {
        x = x;
        op = o;
        under_way = record {
          line = u.line;
          began = there;
          before = At-below h x (Began lane u.line o) there;
          unanswered = λ a. u.unanswered (record {
            lane = a.lane;
            op = a.op;
            y = a.y;
            answer = a.answer;
            ended = ended-grow h (Began lane line op) a.lane x a.op a.y a.answer a.ended;
            before = let more = length_last h (Began lane line op) in let low = a.before in omega (arith, more, low);
          });
        };
      }))

  pushed-good : (h : List Entry) (lanes : List Lane) (calls : List (ℕ × Waiting Purpose)) (own : Lane) → ((k : ℕ) (lane : Lane) → slice_get lanes k ≡ Some lane → LaneGood h calls lane)
      → LaneGood h calls own → (k : ℕ) (lane : Lane) → slice_get (lanes ++ own ∷ []) k ≡ Some lane → LaneGood h calls lane
  pushed-good h lanes calls own old good k lane there = by (get-push lanes own k lane there)
    where
      by : (slice_get lanes k ≡ Some lane) ⊎ ((k ≡ length lanes) × (lane ≡ own)) → LaneGood h calls lane
      by (inl here) = old k lane here
      by (inr new) = subst (LaneGood h calls) (sym new.1) good

  begins-good : (b : Bool) (h : List Entry) (old new : View) (lane line : ℕ) (op : Op) → old.lost ≡ b → StepsTo machine_of h old (Began lane line op) new → Passes machine_of setup G h old
      → BeginsIf b old lane (machine_of lane op) (last_reading 0 h) new → AllGoodBy h old → AllGoodBy (h ++ Began lane line op ∷ []) new
  begins-good true h old new lane line op was t r is g = subst (AllGoodBy (h ++ Began lane line op ∷ [])) (sym is) (record {
    shelf = laws.still h (Began lane line op) old.shelf g.shelf;
    each = pushed-good (h ++ Began lane line op ∷ []) old.lanes old.calls.calls (record { number = lane; state = Over (Refused faults.Lost) })
        (λ k l there. lane-grows h (Began lane line op) old.calls.calls l
        (λ n o e. idle-numbers lane (numbers_of old.lanes) t.idle.other k (to-map number_of old.lanes k l there ∙ ap Some (sym (began-is lane line l.number n op o e))))
        (quiet-entry (Began lane line op) (began-not lane line op) l.state) (g.each k l there))
        (tt, λ x o u. laws.lost (h ++ Began lane line op ∷ []) x o (lost-grow h (Began lane line op) (reached-shown machine_of setup h old (forget machine_of setup G h old r) was)));
  })
  begins-good false h old new lane line op was t r b g =
      (moves-good later b.first new b.rest (record { rows = rows; lanes = lanes; known = known; all = first })).all
    where
      later : List Entry
      later = h ++ Began lane line op ∷ []

      known-old : IsKnown old
      known-old = reached-count machine_of unbegun setup h old (forget machine_of setup G h old r) was

      rows : Rows setup later b.first
      rows = starts-stay (Rows setup later) (rows-stay setup later) (counted old (last_reading 0 h)) b.first lane (machine_of lane op)
          (λ state shelf. same-rows setup later old (record (counted old (last_reading 0 h)) { lanes = old.lanes ++ record { number = lane; state = state } ∷ []; shelf = shelf }) refl
          (silent-grow setup h (Began lane line op) old (record { sent = λ bytes is. cc; came = λ bytes is. cc }) (reached-rows machine_of setup h old (forget machine_of setup G h old r)))) b.own

      pushed : (state : State) (shelf : Shelf) → LanesKnown later (record (counted old (last_reading 0 h)) { lanes = old.lanes ++ record { number = lane; state = state } ∷ []; shelf = shelf })
      pushed state shelf = lanes-begin h old lane line op (reached-lanes machine_of setup h old (forget machine_of setup G h old r)) t.idle.other state

      lanes : LanesKnown later b.first
      lanes = starts-stay (LanesKnown later) (lanes-stay later) (counted old (last_reading 0 h)) b.first lane (machine_of lane op) pushed b.own

      known : IsKnown b.first
      known = starts-count (counted old (last_reading 0 h)) b.first lane (machine_of lane op) (unbegun lane op) b.own (record { counted = known-old.counted; right = known-old.right })

      none : calls_for lane old.calls.calls ≡ 0
      none = known-old.counted lane ∙ known-none lane old.lanes (λ k l there same. idle-numbers lane (numbers_of old.lanes) t.idle.other k (to-map number_of old.lanes k l there ∙ ap Some same))

      own-calls : (next : Step) (after : Machine) → Going next (StateExpected later old.calls.calls lane (Busy after))
      own-calls (Send call) after = λ xid w waits same. absurd (none-idle old lane xid w t.idle.other known-old.counted waits same)
      own-calls Wait after = λ xid w waits same. absurd (none-idle old lane xid w t.idle.other known-old.counted waits same)
      own-calls (Done answer) after = tt

      own-did : Did W I S later (length h) op b.own.next b.own.after b.own.shelf
      own-did = laws.starts h lane line op old.wsize (turn_at (counted old (last_reading 0 h))) old.shelf b.own.next b.own.after b.own.shelf
          (given h old (forget machine_of setup G h old r) was lane t.idle.other) (laws.still h (Began lane line op) old.shelf g.shelf) b.own.starts

      own-told : (x : ℕ) (o : Op) → UnderWay later lane x (length later) o → Did W I S later x o b.own.next b.own.after b.own.shelf
      own-told x o u = now-told h old lane line op (λ y q. Did W I S later y q b.own.next b.own.after b.own.shelf) (reached-lanes machine_of setup h old (forget machine_of setup G h old r)) t.idle.other own-did x o u

      first : AllGoodBy later b.first
      first = leads-good later (record (counted old (last_reading 0 h)) { lanes = old.lanes ++ record { number = lane; state = Busy b.own.after } ∷ []; shelf = b.own.shelf }) b.first
          (length old.lanes) lane 0 b.own.after b.own.next (pushed (Busy b.own.after) b.own.shelf)
          (same-rows setup later old (record (counted old (last_reading 0 h)) { lanes = old.lanes ++ record { number = lane; state = Busy b.own.after } ∷ []; shelf = b.own.shelf }) refl
          (silent-grow setup h (Began lane line op) old (record { sent = λ bytes is. cc; came = λ bytes is. cc }) (reached-rows machine_of setup h old (forget machine_of setup G h old r))))
          (record {
            there = at-push old.lanes (record { number = lane; state = Busy b.own.after });
            rest = λ k l there other. before k l (get-push old.lanes (record { number = lane; state = Busy b.own.after }) k l there) other;
            calls = none;
            counts = counts-calls.start old.wsize (machine_of lane op) (turn_at (counted old (last_reading 0 h))) old.shelf b.own.next b.own.after b.own.shelf b.own.starts (unbegun lane op);
            asked = expected.starts (machine_of lane op) old.wsize (turn_at (counted old (last_reading 0 h))) old.shelf b.own.next b.own.after b.own.shelf b.own.starts;
            own = own-calls b.own.next b.own.after;
            told = own-told;
            shelf = own-did.shelf;
          }) b.own.leads
        where
          before : (k : ℕ) (l : Lane) → (slice_get old.lanes k ≡ Some l) ⊎ ((k ≡ length old.lanes) × (l ≡ record { number = lane; state = Busy b.own.after })) → k ≢ length old.lanes
              → LaneGood later old.calls.calls l
          before k l (inl here) other = lane-grows h (Began lane line op) old.calls.calls l
              (λ n o e. idle-numbers lane (numbers_of old.lanes) t.idle.other k (to-map number_of old.lanes k l here ∙ ap Some (sym (began-is lane line l.number n op o e))))
              (quiet-entry (Began lane line op) (began-not lane line op) l.state) (g.each k l here)
          before k l (inr new) other = absurd (other new.0)

  -- ---- a record comes

  -- a call that waits no more is no other lane's
  less-expected : (h later : List Entry) (old : View) (xid number : ℕ) (state : State) → Rows setup h old → StateExpected later old.calls.calls number state
      → StateExpected later (without xid old.calls.calls) number state
  less-expected h later old xid number (Over answer) r e = tt
  less-expected h later old xid number (Busy machine) r e = λ y w waits same. by y w waits same (nat_eq y xid) refl
    where
      by : (y : ℕ) (w : Waiting Purpose) → waiting_at y (without xid old.calls.calls) ≡ Some w → w.purpose.lane ≡ number → (b : Bool) → nat_eq y xid ≡ b → IsExpected later number y w machine
      by y w waits same false d = e y w (sym (others_taken y xid old.calls.calls d) ∙ waits) same
      by y w waits same true d = absurd (
          let none : waiting_at xid (without xid old.calls.calls) ≡ None = gone old.calls.cred old.calls.first_xid (next_xid old.calls) xid old.calls.calls r.sound.calls.each in
          let there : waiting_at xid (without xid old.calls.calls) ≡ Some w = ap (λ (n : ℕ). waiting_at n (without xid old.calls.calls)) (sym (eqb-true y xid d)) ∙ waits in
          let no_way : None ≡ Some w = sym none ∙ there in cc)

  came-not : (bytes : List ℕ) (lane line : ℕ) (op : Op) → Delivered bytes ≡ Began lane line op → ⊥
  came-not bytes lane line op e = cc

  taken-lane : (h : List Entry) (old : View) (rec : List ℕ) (xid : ℕ) (lane : Lane) → Rows setup h old → IsQuiet lane.state (Delivered rec) → LaneGood h old.calls.calls lane
      → LaneGood (h ++ Delivered rec ∷ []) (without xid old.calls.calls) lane
  taken-lane h old rec xid lane r quiet g =
      lane-grows h (Delivered rec) (without xid old.calls.calls) lane (λ line op e. came-not rec lane.number line op e) quiet (less-expected h h old xid lane.number lane.state r g.0, g.1)

  taken-good : (h : List Entry) (old : View) (rec : List ℕ) (xid : ℕ) → Rows setup h old → AllQuiet old (Delivered rec) → AllGoodBy h old
      → AllGoodBy (h ++ Delivered rec ∷ []) (taken_one old xid)
  taken-good h old rec xid r quiet g = record {
    shelf = laws.still h (Delivered rec) old.shelf g.shelf;
    each = λ k lane there. taken-lane h old rec xid lane r (quiet k lane there) (g.each k lane there);
  }

  -- what is told of the call to the operation that is under way
  record OutOf (h : List Entry) (rec : List ℕ) (xid : ℕ) (bytes : List ℕ) (x : ℕ) (asked : Call) : Type 0 where
    from : ℕ
    out : IsOutstanding h xid bytes from
    now : HeardNow (h ++ Delivered rec ∷ []) x xid asked rec from

  told-of : (h : List Entry) (old : View) (rec : List ℕ) (new : View) (xid : ℕ) (call : Waiting Purpose) (t : HearsRecord old rec new) → Passes machine_of setup G h old → old.lost ≡ false
      → xid_at rec ≡ Some xid → waiting_at xid old.calls.calls ≡ Some call → (at : ℕ) (machine : Machine)
      → slice_get old.lanes at ≡ Some (record { number = call.purpose.lane; state = Busy machine }) → IsExpected h call.purpose.lane xid call machine
      → (x : ℕ) (op : Op) → UnderWay h call.purpose.lane x (length h) op → S h x op (Busy machine)
      → IsToldOf Q E W (h ++ Delivered rec ∷ []) x op machine call.purpose.sent (turn_at (taken_one old xid)) (said_of call.purpose.proc rec) old.shelf
  told-of h old rec new xid call t r found named waits at machine there e x op u story = record {
    call = e.made.asked;
    expects = e.expects;
    asks = laws.waits h (Delivered rec) x op e.made.asked (e.asks x op u);
    now = record { xid = xid; rec = rec; heard = out.now.heard; since = out.now.since; end = out.now.end; says = said };
    read = λ status is. said-none call.purpose.proc rec status is;
    proc = call.purpose.proc;
    said_is = refl;
    seen = subst (λ (n : ℕ). Q later x op machine n call.purpose.sent (turn_at (taken_one old xid)) e.made.asked old.shelf) out.now.from_is
        (sees h old r found t.may xid call waits e.made at machine there x op u out.from out.out story rec);
  }
    where
      later : List Entry
      later = h ++ Delivered rec ∷ []

      said : Says xid e.made.asked rec (said_of call.purpose.proc rec)
      said = says-of old rec t.result new xid call t.hears named waits xid named e.made.asked (record { nfs = e.made.nfs; is = sym e.made.proc })

      of : (from : ℕ) → IsOutstanding h xid call.bytes from → OutOf h rec xid call.bytes x e.made.asked
      of from o = record {
        from = from;
        out = o;
        now = heard-now h rec xid from x e.made.asked call.bytes o e.made.spells.spells named
            (reached-since machine_of unbegun setup h old (forget machine_of setup G h old r) found xid call waits x u.line op u.began from call.bytes o.sent.sent o.sent.under);
      }

      by : Tried h xid call → OutOf h rec xid call.bytes x e.made.asked
      by (unsent nothing n) = absurd (let some = was-sent xid old.calls.calls call t.may.sent waits in omega (arith, some, nothing))
      by (runs from running o rest) = of from o
      by (ended from idle o rest) = of from o

      out : OutOf h rec xid call.bytes x e.made.asked
      out = by ((reached-rows machine_of setup h old (forget machine_of setup G h old r)).rows xid call waits).tried

  hears-good : (h : List Entry) (old : View) (rec : List ℕ) (new : View) (xid : ℕ) (call : Waiting Purpose) (at : ℕ) (first : View) → HearsRecord old rec new
      → Passes machine_of setup G h old → old.lost ≡ false → xid_at rec ≡ Some xid → waiting_at xid old.calls.calls ≡ Some call → position (is_busy call.purpose.lane) old.lanes ≡ Some at
      → TakesAt (taken_one old xid) at call.purpose.sent (said_of call.purpose.proc rec) first → AllGoodBy h old → Good (h ++ Delivered rec ∷ []) first
  hears-good h old rec new xid call at first t r found named waits there o g = record {
    rows = steps-stay (Rows setup later) (rows-stay setup later) (taken_one old xid) first at o.number o.machine o.after o.shelf o.next o.there o.leads rows;
    lanes = steps-stay (LanesKnown later) (lanes-stay later) (taken_one old xid) first at o.number o.machine o.after o.shelf o.next o.there o.leads lanes;
    known = hears-count old first rec xid call at waits there apart o known;
    all = leads-good later (with_state (taken_one old xid) at o.number (Busy o.after) o.shelf) first at o.number (in_flight o.machine - 1) o.after o.next
        ((lanes-stay later).sets (taken_one old xid) at o.number (Busy o.machine) (Busy o.after) o.shelf o.there lanes)
        (same-rows setup later (taken_one old xid) (with_state (taken_one old xid) at o.number (Busy o.after) o.shelf) refl rows)
        (record {
          there = at-set old.lanes at (record { number = o.number; state = Busy o.machine }) (record { number = o.number; state = Busy o.after }) o.there;
          rest = λ k lane here other.
              let there = sym (set-other old.lanes at k (record { number = o.number; state = Busy o.after }) other) ∙ here in
              taken-lane h old rec xid lane rows-old (noted-quiet old rec new t k lane there) (g.each k lane there);
          calls = less;
          counts = counts-calls.take old.wsize o.machine call.purpose.sent (turn_at (taken_one old xid)) (said_of call.purpose.proc rec) old.shelf o.next o.after o.shelf
              (in_flight o.machine - 1) o.takes (known.right at (record { number = o.number; state = Busy o.machine }) o.there) before;
          asked = kept.0;
          own = going-own later o.next (without xid old.calls.calls) o.number (in_flight o.machine - 1) o.machine o.after less
              (less-expected h later old xid o.number (Busy o.machine) rows-old
              (expected-grows h (Delivered rec) old.calls.calls o.number (Busy o.machine) (λ line q e. came-not rec o.number line q e) own.0)) kept.1;
          told = told;
          shelf = (told busy.x busy.op busy.under_way).shelf;
        }) o.leads;
  }
    where
      later : List Entry
      later = h ++ Delivered rec ∷ []

      rows-old : Rows setup h old
      rows-old = reached-rows machine_of setup h old (forget machine_of setup G h old r)

      rows : Rows setup later (taken_one old xid)
      rows = rows-grow setup h (Delivered rec) (taken_one old xid) (taken-quiet setup h old rec xid rows-old named) (not-sent rec) (taken-rows setup h old xid rows-old)

      lanes : LanesKnown later (taken_one old xid)
      lanes = quiet-facts h (Delivered rec) (numbers_of old.lanes) (λ number. refl) (reached-lanes machine_of setup h old (forget machine_of setup G h old r))

      apart : (k m : ℕ) (l n : Lane) → slice_get old.lanes k ≡ Some l → slice_get old.lanes m ≡ Some n → l.number ≡ n.number → k ≡ m
      apart = (lanes-under-way h old (reached-lanes machine_of setup h old (forget machine_of setup G h old r))).apart

      known : IsKnown old
      known = reached-count machine_of unbegun setup h old (forget machine_of setup G h old r) found

      is : o.number ≡ call.purpose.lane
      is = eqb-true o.number call.purpose.lane (at-position (is_busy call.purpose.lane) old.lanes at (record { number = o.number; state = Busy o.machine }) there o.there)

      own : LaneGood h old.calls.calls (record { number = o.number; state = Busy o.machine })
      own = g.each at (record { number = o.number; state = Busy o.machine }) o.there

      count : calls_for o.number old.calls.calls ≡ in_flight o.machine
      count = known.counted o.number ∙ known-only o.number old.lanes at (Busy o.machine) o.there
          (λ k l here same. apart k at l (record { number = o.number; state = Busy o.machine }) here o.there same)

      before : in_flight o.machine ≡ (in_flight o.machine - 1) + 1
      before =
          let some = calls-some xid old.calls.calls call waits in
          let all : calls_for call.purpose.lane old.calls.calls ≡ in_flight o.machine = ap (λ (n : ℕ). calls_for n old.calls.calls) (sym is) ∙ count in
          omega (arith, some, all)

      less : calls_for o.number (without xid old.calls.calls) ≡ in_flight o.machine - 1
      less =
          let fewer = calls-without o.number xid old.calls.calls call waits in
          let one : one_for o.number call ≡ 1 = ap (λ (n : ℕ). one_for n call) is ∙ ap (λ (b : Bool). where_ b 1) (eq-eqb call.purpose.lane call.purpose.lane refl) in
          let all = count in
          omega (arith, fewer, one, all)

      kept : AskedOf E o.next o.after × KeptOf E (in_flight o.machine - 1) o.machine o.next o.after
      kept = expected.takes o.machine old.wsize call.purpose.sent (turn_at (taken_one old xid)) (said_of call.purpose.proc rec) old.shelf o.next o.after o.shelf (in_flight o.machine - 1) before o.takes

      told : (x : ℕ) (op : Op) → UnderWay later o.number x (length later) op → Did W I S later x op o.next o.after o.shelf
      told x op u =
          let was = under-back h (Delivered rec) o.number x op (λ line q e. came-not rec o.number line q e) u in
          laws.takes later x op o.machine old.wsize call.purpose.sent (turn_at (taken_one old xid)) (said_of call.purpose.proc rec) old.shelf o.next o.after o.shelf
          (in_flight o.machine - 1) (laws.still h (Delivered rec) old.shelf g.shelf) (laws.grows h (Delivered rec) x op (Busy o.machine) tt (own.1 x op was)) before
          (heard_of (told-of h old rec new xid call t r found named waits at o.machine
          (o.there ∙ ap (λ (n : ℕ). Some (record { number = n; state = Busy o.machine })) is)
          (subst (λ (n : ℕ). IsExpected h n xid call o.machine) is (own.0 xid call waits (sym is))) x op
          (subst (λ (n : ℕ). UnderWay h n x (length h) op) is was) (own.1 x op was))) o.takes

      busy : IsBusy later o.number (length later)
      busy = (lanes-under-way later (taken_one old xid) lanes).busy at (record { number = o.number; state = Busy o.machine }) o.there

  heard-good : (b : Bool) (h : List Entry) (old : View) (rec : List ℕ) (new : View) → old.lost ≡ b → HearsRecord old rec new → Passes machine_of setup G h old → Heard old rec new
      → AllGoodBy h old → AllGoodBy (h ++ Delivered rec ∷ []) new
  heard-good b h old rec new was t r (dropped none is) g =
      subst (AllGoodBy (h ++ Delivered rec ∷ [])) (sym is) (all-grows h (Delivered rec) old (λ lane line op e. came-not rec lane line op e) (noted-quiet old rec new t) g)
  heard-good true h old rec new was t r (replied xid call named waits f) g =
      let none : NoneBusy old = (comes-to-rest machine_of setup h old (forget machine_of setup G h old r)).over was in
      let first : f.first ≡ taken_one old xid = own-none (taken_one old xid) rec call.purpose f.first none f.own in
      let none-first : NoneBusy f.first = subst NoneBusy (sym first) none in
      let is : new ≡ taken_one old xid = none-moves f.first new f.rest none-first ∙ first in
      subst (AllGoodBy (h ++ Delivered rec ∷ [])) (sym is) (taken-good h old rec xid (reached-rows machine_of setup h old (forget machine_of setup G h old r)) (noted-quiet old rec new t) g)
  heard-good false h old rec new was t r (replied xid call named waits f) g = by (position (is_busy call.purpose.lane) old.lanes) refl f.own
    where
      by : (o : Option ℕ) → position (is_busy call.purpose.lane) old.lanes ≡ o
          → MatchOption o (f.first ≡ taken_one old xid) (λ at. TakesAt (taken_one old xid) at call.purpose.sent (said_of call.purpose.proc rec) f.first)
          → AllGoodBy (h ++ Delivered rec ∷ []) new
      by None none is = absurd (none-busy old xid call waits none (reached-count machine_of unbegun setup h old (forget machine_of setup G h old r) was).counted)
      by (Some at) there o = (moves-good (h ++ Delivered rec ∷ []) f.first new f.rest (hears-good h old rec new xid call at f.first t r was named waits there o g)).all

  -- ---- the other calls

  -- the same calls, as far as their records and purposes go
  waited-lane : (h : List Entry) (calls later : List (ℕ × Waiting Purpose)) (lane : Lane) → ((xid : ℕ) (w : Waiting Purpose) → waiting_at xid later ≡ Some w → WaitedAs calls xid w)
      → LaneGood h calls lane → LaneGood h later lane
  waited-lane h calls later lane was g = (by lane.state g.0, g.1)
    where
      by : (state : State) → StateExpected h calls lane.number state → StateExpected h later lane.number state
      by (Over answer) e = tt
      by (Busy machine) e = λ xid w waits same.
          let k = was xid w waits in
          let old = e xid k.was k.waited (ap (λ (p : Purpose). p.lane) (sym k.purpose) ∙ same) in
          record {
            made = record {
              asked = old.made.asked;
              spells = subst (SpellsCallBy setup.cred xid old.made.asked) (sym k.bytes) old.made.spells;
              nfs = old.made.nfs;
              proc = ap (λ (p : Purpose). p.proc) k.purpose ∙ old.made.proc;
            };
            expects = old.expects;
            asks = old.asks;
          }

  waited-good : (h : List Entry) (old new : View) → new.shelf ≡ old.shelf → new.lanes ≡ old.lanes → ((xid : ℕ) (w : Waiting Purpose) → waiting_at xid new.calls.calls ≡ Some w → WaitedAs old.calls.calls xid w)
      → AllGoodBy h old → AllGoodBy h new
  waited-good h old new kept same was g = record {
    shelf = subst (I h) (sym kept) g.shelf;
    each = λ k lane there. waited-lane h old.calls.calls new.calls.calls lane was (g.each k lane (ap (λ (lanes : List Lane). slice_get lanes k) (sym same) ∙ there));
  }

  lost-lane-good : (h : List Entry) (calls later : List (ℕ × Waiting Purpose)) (number : ℕ) (state : State) → IsLost h (length h) → LaneGood h calls (record { number = number; state = state })
      → LaneGood h later (lost_lane (record { number = number; state = state }))
  lost-lane-good h calls later number (Busy machine) l g = (tt, λ x op u. laws.lost h x op l)
  lost-lane-good h calls later number (Over answer) l g = (tt, g.1)

  lost-good : (h : List Entry) (old new : View) → IsLost h (length h) → new.shelf ≡ old.shelf → new.lanes ≡ map lost_lane old.lanes → AllGoodBy h old → AllGoodBy h new
  lost-good h old new l kept is g = record {
    shelf = subst (I h) (sym kept) g.shelf;
    each = λ k lane there.
        let m = in-map lost_lane old.lanes k lane (ap (λ (lanes : List Lane). slice_get lanes k) (sym is) ∙ there) in
        subst (LaneGood h new.calls.calls) (sym m.2) (lost-lane-good h old.calls.calls new.calls.calls m.0.number m.0.state l (g.each k m.0 m.1));
  }

  failed-good : (h : List Entry) (old new : View) → (new.lost ≡ true → IsLost h (length h)) → FailedNow old new → AllGoodBy h old → AllGoodBy h new
  failed-good h old new shown (goes_on none is) g =
      waited-good h old new (ap (λ (v : View). v.shelf) is) (ap (λ (v : View). v.lanes) is) (λ xid w at. before_failed true old.calls.calls xid w
      (sym (ap (λ (v : View). waiting_at xid v.calls.calls) is ∙ ap (λ (o : Option ℕ). waiting_at xid (failed_after o old.calls.calls)) none) ∙ at)) g
  failed-good h old new shown (gives_up xid up is) g = lost-good h old new (shown (ap (λ (v : View). v.lost) is)) (ap (λ (v : View). v.shelf) is) (ap (λ (v : View). v.lanes) is) g

  same-good : (h : List Entry) (e : Entry) (old new : View) → ((lane line : ℕ) (op : Op) → e ≡ Began lane line op → ⊥) → (IsDelivered e → ⊥) → new ≡ old → AllGoodBy h old
      → AllGoodBy (h ++ e ∷ []) new
  same-good h e old new other quiet is g = subst (AllGoodBy (h ++ e ∷ [])) (sym is) (all-grows h e old other (all-quiet old e quiet) g)

  good-step : (h : List Entry) (old : View) (e : Entry) (new : View) → StepsTo machine_of h old e new → Passes machine_of setup G h old → AllGoodBy h old → AllGoodBy (h ++ e ∷ []) new
  good-step h old (Began lane line op) new t r g = begins-good old.lost h old new lane line op refl t r t.step g
  good-step h old (Answered lane line answer) new t r g =
      let a = answered_now old lane answer new t.answers in
      subst (AllGoodBy (h ++ Answered lane line answer ∷ [])) (sym a.is.is)
      (record {
        shelf = laws.still h (Answered lane line answer) old.shelf g.shelf;
        each = λ k l there. lane-grows h (Answered lane line answer) old.calls.calls l (λ n o e. cc) (quiet-entry (Answered lane line answer) (λ d. let is = d.1 in cc) l.state)
            (g.each (skip a.at k) l (get-remove old.lanes a.at k l there));
      })
  good-step h old (Sent bytes) new t r g =
      let n = sent_now old bytes new t in
      waited-good (h ++ Sent bytes ∷ []) old new (ap (λ (v : View). v.shelf) n.is) (ap (λ (v : View). v.lanes) n.is)
      (λ xid w at. before_sent old.calls.calls xid w (sym (ap (λ (v : View). waiting_at xid v.calls.calls) n.is) ∙ at))
      (all-grows h (Sent bytes) old (λ lane line op e. cc) (all-quiet old (Sent bytes) (λ d. let is = d.1 in cc)) g)
  good-step h old (Delivered bytes) new t r g = heard-good old.lost h old bytes new refl t r (heard old bytes t.result new t.hears) g
  good-step h old Failed new (inl t) r g = failed-good (h ++ Failed ∷ []) old new
      (reached-shown machine_of setup (h ++ Failed ∷ []) new (goes (h ++ Failed ∷ []) h new old Failed (forget machine_of setup G h old r) refl (inl t))) (failed_now old t.0 new t.1) (all-grows h Failed old (λ lane line op e. cc) (all-quiet old Failed (λ d. let is = d.1 in cc)) g)
  good-step h old Failed new (inr t) r g = same-good h Failed old new (λ lane line op e. cc) (λ d. let is = d.1 in cc) t g
  good-step h old (Dialed port) new t r g = same-good h (Dialed port) old new (λ lane line op e. cc) (λ d. let is = d.1 in cc) t g
  good-step h old (Executed xid call reply) new t r g = same-good h (Executed xid call reply) old new (λ lane line op e. cc) (λ d. let is = d.1 in cc) t g
  good-step h old (Foreign call reply) new t r g = same-good h (Foreign call reply) old new (λ lane line op e. cc) (λ d. let is = d.1 in cc) t g
  good-step h old (Flushed file from len) new t r g = same-good h (Flushed file from len) old new (λ lane line op e. cc) (λ d. let is = d.1 in cc) t g
  good-step h old (Reboot verf) new t r g = same-good h (Reboot verf) old new (λ lane line op e. cc) (λ d. let is = d.1 in cc) t g
  good-step h old (Clock ms) new t r g = same-good h (Clock ms) old new (λ lane line op e. cc) (λ d. let is = d.1 in cc) t g

  pub reached-good-by : (h : List Entry) (v : View) → Passes machine_of setup G h v → AllGoodBy h v
  reached-good-by _ _ (passes_fresh h v may up fresh) = record {
    shelf = laws.fresh h v up fresh;
    each = λ k lane there. absurd (let no_way : None ≡ Some lane = ap (λ (lanes : List Lane). slice_get lanes k) (sym fresh.lanes) ∙ there in cc);
  }
  reached-good-by _ _ (passes_step h before v b e r given_so is t) = subst (λ (k : List Entry). AllGoodBy k v) (sym is) (good-step before b e v t r (reached-good-by before b r))
  reached-good-by _ _ (passes_lost h v b r shown is) = lost-good h b v (record { to = length h; by = omega arith; loses = shown }) (ap (λ (w : View). w.shelf) is) (ap (λ (w : View). w.lanes) is) (reached-good-by h b r)

  -- ---- answers

  abbrev Ends_ : List Entry → ℕ → Op → Answer → Type 0
  Ends_ h x op answer = S h x op (Over answer)

  pub reached-answered-by : (h : List Entry) (v : View) → Passes machine_of setup G h v → (lane x : ℕ) (op : Op) (y : ℕ) (answer : Answer) → Ended h lane x op y answer
      → HadStory Ends_ h x op y answer
  reached-answered-by = answered-story machine_of setup G Ends_
      (λ h v p known at number answer there x op u. ((reached-good-by h v p).each at (record { number = number; state = Over answer }) there).1 x op u)
