-- What the steps of operations keep along a history holds of each operation that is under way, and of each answer.
use Rattle.core_facts.proofs.Passing.{Anything, forget, passes-any}
use Rattle.core_facts.proofs.Answered.{HadStory, answered-story}
use Rattle.core_facts.proofs.Prelude.{◌≡◌, ◌≢◌, ◌<◌, ◌≤◌, ◌+◌, ◌-◌, ◌⊎◌, inl, inr, ℕ, zero, suc, List, [], ◌∷◌, ◌++◌, length, map, Bool, true, false, nat_eq, Option, Some, None, MatchOption, position, slice_get, slice_set, Result, Ok, Err, refl, sym, ap, subst, ◌∙◌, arith, eqb-true, eqb-false, eq-eqb, xid_at, Waiting, failed_after, next_xid, made_call, waiting_at, without, at_made, others_made, others_taken, gone, Answer, Refused, Fault, Entry, Began, Answered, Dialed, Sent, Executed, Foreign, Flushed, Reboot, Delivered, Failed, Clock, Call, Reply, Op, At, Asked, IsLost, SpellsReply, proc_of, Ended, EndsWith, UnderWay, At-grow, At-below, At-cases, length_last, said_of, Says, Step, Send, Wait, Done, Shelf, Turn, Machine, Starts, Resumes, Takes, Lane, Purpose, State, Busy, Over, Setup, is_busy, lost_lane, IsOther, numbers_of, with_state, record_of, Makes, IsRefused, Leads, Stirs, Moves, moves_none, moves_more, counted, BeginsIf, TakesAt, View, turn_at, unmade_turn, in_flight, IsUnbegun, Counts, where_, calls_for, StepsTo, HearsRecord, Reaches, begins, goes, loses, last_reading, NoneBusy, Tried, unsent, runs}
use Rattle.rpc_retry.proofs.Records.{before_sent, before_failed}
use Rattle.world_model.specs.Messages.{SpellsCallBy}
use Rattle.core_facts.specs.Tries.{IsMade, ended}
use Rattle.rpc_retry.specs.Records.{WaitedAs}
use Rattle.world_model.specs.declared.answer.Fault.TheVariants as faults
use Rattle.world_model.specs.Heard.{Heard as IsHeard}
use Rattle.core_facts.proofs.AllCounts.{counts-calls}
use Rattle.core_facts.proofs.Cases.{Heard, dropped, replied, heard, sent_now, FailedNow, goes_on, gives_up, failed_now, answered_now, taken_one}
use Rattle.core_facts.proofs.Counting.{IsKnown, calls-some, calls-without, known-only, known-none, one_for, stirs-count, starts-count, hears-count, reached-count, none-busy, none-idle}
use Rattle.core_facts.proofs.Steps.{AskedOf, KeptOf, ThenOf}
use Rattle.core_facts.proofs.Expecting.{Expects, Expected, expects-starts, expects-resumes, expects-takes}
use Rattle.core_facts.proofs.Faults.{IsOuter, FineResult}
use Rattle.core_facts.proofs.SaidFaults.{said-fine, unmade-fine}
use Rattle.core_facts.proofs.Losing.{reached-shown, lost-grow}
use Rattle.core_facts.proofs.Hearing.{was-sent, says-of, heard-of}
use Rattle.core_facts.proofs.LastReplies.{ends-of}
use Rattle.core_facts.proofs.LaneMarks.{LanesKnown, quiet-facts, lanes-stay, lanes-begin, lanes-under-way, reached-lanes, idle-numbers, number_of}
use Rattle.core_facts.proofs.Lists.{at-set, at-push, at-position, get-push, get-remove, skip, in-map, to-map}
use Rattle.core_facts.proofs.Owning.{reached-since}
use Rattle.core_facts.proofs.Resting.{comes-to-rest, none-moves, own-none}
use Rattle.core_facts.proofs.Rows.{Rows, rows-stay, same-rows, rows-grow, silent-grow, taken-quiet, not-sent, taken-rows, made-known, made-asked, reached-rows}
use Rattle.core_facts.proofs.Walks.{stirs-stay, starts-stay, steps-stay}
use Rattle.core_facts.proofs.Answered as answered

-- ---- what is kept

-- What came of a call that the machine waited for: a reply to it is in the history. A lost link gives nothing.
pub record IsTold (h : List Entry) (x : ℕ) (machine : Machine) (came : Result Reply Fault) : Type 0 where
  pub call : Call
  pub expects : Expects machine call
  pub heard : (reply : Reply) → came ≡ Ok reply → Asked h x (length h) call reply
  pub ends : (reply : Reply) → came ≡ Ok reply → EndsWith h x (length h) call reply
  pub fine : FineResult IsOuter came

-- A fact of an operation, which began at a place, that its steps keep, and each entry.
pub record StoryLaws (machine_of : ℕ → Op → Machine) (S : List Entry → ℕ → Op → State → Type 0) : Type 0 where
  pub starts : (h : List Entry) (lane line : ℕ) (op : Op) (wsize : ℕ) (turn : Turn) (old : Shelf) (next : Step) (new : Machine) (after : Shelf)
      → Starts wsize (machine_of lane op) turn old next new after
      → ThenOf (λ m. S (h ++ Began lane line op ∷ []) (length h) op (Busy m)) (λ a. S (h ++ Began lane line op ∷ []) (length h) op (Over a)) next new
  pub resumes : (h : List Entry) (x : ℕ) (op : Op) (machine : Machine) (wsize : ℕ) (turn : Turn) (old : Shelf) (next : Step) (new : Machine) (after : Shelf)
      → S h x op (Busy machine) → Resumes wsize machine turn old next new after → ThenOf (λ m. S h x op (Busy m)) (λ a. S h x op (Over a)) next new
  pub takes : (h : List Entry) (x : ℕ) (op : Op) (machine : Machine) (wsize : ℕ) (sent turn : Turn) (came : Result Reply Fault) (old : Shelf) (next : Step) (new : Machine)
      (after : Shelf) (others : ℕ) → S h x op (Busy machine) → in_flight machine ≡ others + 1 → IsTold h x machine came → Takes wsize machine sent turn came old next new after
      → ThenOf (λ m. S h x op (Busy m)) (λ a. S h x op (Over a)) next new
  pub grows : (h : List Entry) (e : Entry) (x : ℕ) (op : Op) (state : State) → S h x op state → S (h ++ e ∷ []) x op state
  pub lost : (h : List Entry) (x : ℕ) (op : Op) → IsLost h (length h) → S h x op (Over (Refused faults.Lost))

-- The same where P holds of the history and the shelf as the operation begins in its lane.
pub record LawsOver (P : List Entry → ℕ → Shelf → Type 0) (machine_of : ℕ → Op → Machine) (S : List Entry → ℕ → Op → State → Type 0) : Type 0 where
  pub starts : (h : List Entry) (lane line : ℕ) (op : Op) (wsize : ℕ) (turn : Turn) (old : Shelf) (next : Step) (new : Machine) (after : Shelf)
      → P h lane old → Starts wsize (machine_of lane op) turn old next new after
      → ThenOf (λ m. S (h ++ Began lane line op ∷ []) (length h) op (Busy m)) (λ a. S (h ++ Began lane line op ∷ []) (length h) op (Over a)) next new
  pub resumes : (h : List Entry) (x : ℕ) (op : Op) (machine : Machine) (wsize : ℕ) (turn : Turn) (old : Shelf) (next : Step) (new : Machine) (after : Shelf)
      → S h x op (Busy machine) → Resumes wsize machine turn old next new after → ThenOf (λ m. S h x op (Busy m)) (λ a. S h x op (Over a)) next new
  pub takes : (h : List Entry) (x : ℕ) (op : Op) (machine : Machine) (wsize : ℕ) (sent turn : Turn) (came : Result Reply Fault) (old : Shelf) (next : Step) (new : Machine)
      (after : Shelf) (others : ℕ) → S h x op (Busy machine) → in_flight machine ≡ others + 1 → IsTold h x machine came → Takes wsize machine sent turn came old next new after
      → ThenOf (λ m. S h x op (Busy m)) (λ a. S h x op (Over a)) next new
  pub grows : (h : List Entry) (e : Entry) (x : ℕ) (op : Op) (state : State) → S h x op state → S (h ++ e ∷ []) x op state
  pub lost : (h : List Entry) (x : ℕ) (op : Op) → IsLost h (length h) → S h x op (Over (Refused faults.Lost))

-- with nothing to know as it begins
abbrev pub Always : List Entry → ℕ → Shelf → Type 0
Always h lane shelf = Unit {0}

pub over-laws : (machine_of : ℕ → Op → Machine) (S : List Entry → ℕ → Op → State → Type 0) → StoryLaws machine_of S → LawsOver Always machine_of S
over-laws machine_of S laws = record {
  starts = λ h lane line op wsize turn old next new after p s. laws.starts h lane line op wsize turn old next new after s;
  resumes = laws.resumes;
  takes = laws.takes;
  grows = laws.grows;
  lost = laws.lost;
}

-- P holds of each idle lane, as long as the session isn't lost.
abbrev pub IsGiven : (ℕ → Op → Machine) → Setup → (List Entry → ℕ → Shelf → Type 0) → Type 0
IsGiven machine_of setup P =
    (h : List Entry) (v : View) → Reaches machine_of setup h v → v.lost ≡ false → (lane : ℕ) → IsOther lane (numbers_of v.lanes) → P h lane v.shelf

-- ---- operations under way

pub ended-grow : (h : List Entry) (e : Entry) (lane x : ℕ) (op : Op) (y : ℕ) (answer : Answer) → Ended h lane x op y answer → Ended (h ++ e ∷ []) lane x op y answer
ended-grow h e lane x op y answer d = record {
  line = d.line;
  began = At-grow h (e ∷ []) x (Began lane d.line op) d.began;
  answered = At-grow h (e ∷ []) y (Answered lane d.line answer) d.answered;
  later = d.later;
  first = λ j a there after. by j a after (At-cases h e j (Answered lane d.line a) there);
}
  where
    by : (j : ℕ) (a : Answer) → x < j → At h j (Answered lane d.line a) ⊎ ((j ≡ length h) × (e ≡ Answered lane d.line a)) → y ≤ j
    by j a after (inl there) = d.first j a there after
    by j a after (inr here) = let below = At-below h y (Answered lane d.line answer) d.answered in let is = here.0 in omega (arith, below, is)

pub under-back : (h : List Entry) (e : Entry) (number x : ℕ) (op : Op) → ((line : ℕ) (o : Op) → e ≡ Began number line o → ⊥) → UnderWay (h ++ e ∷ []) number x (length (h ++ e ∷ [])) op
    → UnderWay h number x (length h) op
under-back h e number x op other u = by (At-cases h e x (Began number u.line op) u.began)
  where
    by : At h x (Began number u.line op) ⊎ ((x ≡ length h) × (e ≡ Began number u.line op)) → UnderWay h number x (length h) op
    by (inl there) = record {
      line = u.line;
      began = there;
      before = At-below h x (Began number u.line op) there;
      unanswered = λ a. u.unanswered (record {
        lane = a.lane;
        op = a.op;
        y = a.y;
        answer = a.answer;
        ended = ended-grow h e a.lane x a.op a.y a.answer a.ended;
        before = let more = length_last h e in let low = a.before in omega (arith, more, low);
      });
    }
    by (inr here) = absurd (other u.line op here.1)

-- ---- lists

pub set-other : (lanes : List Lane) (at k : ℕ) (lane : Lane) → k ≢ at → slice_get (slice_set lanes at lane) k ≡ slice_get lanes k
set-other [] at k lane apart = refl
set-other (l ∷ lanes) zero zero lane apart = absurd (apart refl)
set-other (l ∷ lanes) zero (suc k) lane apart = refl
set-other (l ∷ lanes) (suc at) zero lane apart = refl
set-other (l ∷ lanes) (suc at) (suc k) lane apart = set-other lanes at k lane (λ same. apart (ap suc same))

some-lane : (a b : Lane) → Some a ≡ Some b → b ≡ a
some-lane a b e = cc

pub some-answer : (a b : Answer) → Some a ≡ Some b → a ≡ b
some-answer a b e = cc

pub some-call : (a b : Waiting Purpose) → Some a ≡ Some b → a ≡ b
some-call a b e = cc

-- a fact of the lane at a place, and of the others, is one of all
pub by-place : (P : Lane → Type 0) (lanes : List Lane) (at : ℕ) (own : Lane) → slice_get lanes at ≡ Some own → P own
    → ((k : ℕ) (lane : Lane) → slice_get lanes k ≡ Some lane → k ≢ at → P lane) → (k : ℕ) (lane : Lane) → slice_get lanes k ≡ Some lane → P lane
by-place P lanes at own there p others k lane here = by (nat_eq k at) refl
  where
    by : (b : Bool) → nat_eq k at ≡ b → P lane
    by true d = subst P (sym (some-lane own lane (sym there ∙ ap (slice_get lanes) (sym (eqb-true k at d)) ∙ here))) p
    by false d = others k lane here (eqb-false k at d)

-- as long as the step doesn't end the operation
abbrev pub Going : Step → Type 0 → Type 0
Going (Send call) P = P
Going Wait P = P
Going (Done answer) P = Unit {0}

module _ (machine_of : ℕ → Op → Machine) (unbegun : (lane : ℕ) (op : Op) → IsUnbegun (machine_of lane op)) (setup : Setup) (P : List Entry → ℕ → Shelf → Type 0) (given : IsGiven machine_of setup P)
    (S : List Entry → ℕ → Op → State → Type 0) (laws : LawsOver P machine_of S) where
  -- The call that waits is one that the machine expects.
  pub record IsExpected (xid : ℕ) (w : Waiting Purpose) (machine : Machine) : Type 0 where
    pub made : IsMade setup.cred xid w
    pub expects : Expects machine made.asked

  abbrev pub StateExpected : List (ℕ × Waiting Purpose) → ℕ → State → Type 0
  StateExpected calls number (Busy machine) = (xid : ℕ) (w : Waiting Purpose) → waiting_at xid calls ≡ Some w → w.purpose.lane ≡ number → IsExpected xid w machine
  StateExpected calls number (Over answer) = Unit {0}

  abbrev pub StateTold : List Entry → ℕ → State → Type 0
  StateTold h number state = (x : ℕ) (op : Op) → UnderWay h number x (length h) op → S h x op state

  abbrev pub LaneGood : List Entry → List (ℕ × Waiting Purpose) → Lane → Type 0
  LaneGood h calls lane = StateExpected calls lane.number lane.state × StateTold h lane.number lane.state

  abbrev pub AllGood : List Entry → View → Type 0
  AllGood h v = (k : ℕ) (lane : Lane) → slice_get v.lanes k ≡ Some lane → LaneGood h v.calls.calls lane

  -- what holds between the steps of a session that isn't lost
  pub record Good (h : List Entry) (v : View) : Type 0 where
    pub rows : Rows setup h v
    pub lanes : LanesKnown h v
    pub known : IsKnown v
    pub all : AllGood h v

  -- The machine of the lane at a place made a step, and what that leads to is still to come.
  pub record Owing (h : List Entry) (v : View) (at number others : ℕ) (machine : Machine) (next : Step) : Type 0 where
    pub there : slice_get v.lanes at ≡ Some (record { number = number; state = Busy machine })
    pub rest : (k : ℕ) (lane : Lane) → slice_get v.lanes k ≡ Some lane → k ≢ at → LaneGood h v.calls.calls lane
    pub calls : calls_for number v.calls.calls ≡ others
    pub counts : Counts next others machine
    pub asked : AskedOf Expects next machine
    pub own : Going next (StateExpected v.calls.calls number (Busy machine))
    pub told : (x : ℕ) (op : Op) → UnderWay h number x (length h) op → ThenOf (λ m. S h x op (Busy m)) (λ a. S h x op (Over a)) next machine

  -- ---- one step

  good-set : (h : List Entry) (v : View) (at number : ℕ) (machine : Machine) (state : State) (shelf : Shelf) → slice_get v.lanes at ≡ Some (record { number = number; state = Busy machine })
      → ((k : ℕ) (lane : Lane) → slice_get v.lanes k ≡ Some lane → k ≢ at → LaneGood h v.calls.calls lane) → LaneGood h v.calls.calls (record { number = number; state = state })
      → AllGood h (with_state v at number state shelf)
  good-set h v at number machine state shelf there rest good =
      by-place (LaneGood h v.calls.calls) (slice_set v.lanes at (record { number = number; state = state })) at (record { number = number; state = state })
      (at-set v.lanes at (record { number = number; state = Busy machine }) (record { number = number; state = state }) there) good
      (λ k lane here apart. rest k lane (sym (set-other v.lanes at k (record { number = number; state = state }) apart) ∙ here) apart)

  -- the call that is made is one of this lane, and no other lane's
  made-lane : (h : List Entry) (v : View) (number : ℕ) (call : Call) (new : View) (m : Makes v number call new) → Rows setup h v → (lane : ℕ) (machine : Machine)
      → ((xid : ℕ) (w : Waiting Purpose) → waiting_at xid v.calls.calls ≡ Some w → w.purpose.lane ≡ lane → IsExpected xid w machine) → (lane ≡ number → Expects machine call)
      → (xid : ℕ) (w : Waiting Purpose)
      → waiting_at xid (v.calls.calls ++ (next_xid v.calls, made_call (record_of v call m.args) (record { lane = number; proc = proc_of call; sent = turn_at v })) ∷ []) ≡ Some w
      → w.purpose.lane ≡ lane → IsExpected xid w machine
  made-lane h v number call new m r lane machine old own xid w at same = by (nat_eq xid (next_xid v.calls)) refl
    where
      row : Waiting Purpose
      row = made_call (record_of v call m.args) (record { lane = number; proc = proc_of call; sent = turn_at v })

      by : (b : Bool) → nat_eq xid (next_xid v.calls) ≡ b → IsExpected xid w machine
      by true d =
          let is : xid ≡ next_xid v.calls = eqb-true xid (next_xid v.calls) d in
          let which : row ≡ w = some-call row w (sym (at_made v.calls.cred v.calls.first_xid (next_xid v.calls) xid (next_xid v.calls) v.calls.calls row r.sound.calls.each is refl) ∙ at) in
          let k = made-known setup h v number call new m r in
          let here : number ≡ lane = ap (λ (c : Waiting Purpose). c.purpose.lane) which ∙ same in
          subst (λ (n : ℕ). IsExpected n w machine) (sym is)
          (subst (λ (c : Waiting Purpose). IsExpected (next_xid v.calls) c machine) which (record { made = k.made; expects = subst (λ (c : Call). Expects machine c) (sym (made-asked setup h v number call new m r)) (own (sym here)) }))
      by false d = old xid w (sym (others_made xid (next_xid v.calls) v.calls.calls row d) ∙ at) same

  leads-good : (h : List Entry) (v new : View) (at number others : ℕ) (machine : Machine) (next : Step) → LanesKnown h v → Rows setup h v → Owing h v at number others machine next
      → Leads v at number machine next new → AllGood h new
  leads-good h v new at number others machine (Send call) lanes r o (inl m) = subst (AllGood h) (sym m.is)
      (by-place (LaneGood h (v.calls.calls ++ (next_xid v.calls, row) ∷ [])) v.lanes at (record { number = number; state = Busy machine }) o.there
      (made-lane h v number call new m r number machine o.own (λ same. o.asked), o.told)
      (λ k lane here apart. other k lane here apart lane.state refl (o.rest k lane here apart)))
    where
      row : Waiting Purpose
      row = made_call (record_of v call m.args) (record { lane = number; proc = proc_of call; sent = turn_at v })

      other : (k : ℕ) (lane : Lane) → slice_get v.lanes k ≡ Some lane → k ≢ at → (state : State) → lane.state ≡ state → LaneGood h v.calls.calls lane
          → LaneGood h (v.calls.calls ++ (next_xid v.calls, row) ∷ []) lane
      other k lane here apart (Busy m2) is g =
          let was : StateExpected v.calls.calls lane.number (Busy m2) = subst (StateExpected v.calls.calls lane.number) is g.0 in (
            subst (StateExpected (v.calls.calls ++ (next_xid v.calls, row) ∷ []) lane.number) (sym is)
                (made-lane h v number call new m r lane.number m2 was
                (λ same. absurd (apart ((lanes-under-way h v lanes).apart k at lane (record { number = number; state = Busy machine }) here o.there same)))),
            g.1,
          )
      other k lane here apart (Over answer) is g = (subst (StateExpected (v.calls.calls ++ (next_xid v.calls, row) ∷ []) lane.number) (sym is) tt, g.1)
  leads-good h v new at number others machine (Send call) lanes r o (inr f) = subst (AllGood h) (sym f.is) (by f.next f.state f.leads kept.kept told)
    where
      kept : Expected others machine f.next f.after
      kept = expects-takes machine v.wsize (turn_at v) (unmade_turn v) (Err f.fault) v.shelf f.next f.after f.left others o.counts.0 f.takes

      told : (x : ℕ) (op : Op) → UnderWay h number x (length h) op → ThenOf (λ m. S h x op (Busy m)) (λ a. S h x op (Over a)) f.next f.after
      told x op u = laws.takes h x op machine v.wsize (turn_at v) (unmade_turn v) (Err f.fault) v.shelf f.next f.after f.left others (o.told x op u) o.counts.0
          (record { call = call; expects = o.asked; heard = λ reply is. absurd (cc); ends = λ reply is. absurd (cc); fine = unmade-fine v f.fault f.unmade }) f.takes

      by : (next : Step) (state : State) → IsRefused f.after next state → KeptOf Expects others machine next f.after
          → ((x : ℕ) (op : Op) → UnderWay h number x (length h) op → ThenOf (λ m. S h x op (Busy m)) (λ a. S h x op (Over a)) next f.after)
          → AllGood h (with_state v at number state f.left)
      by (Send again) state is k t = absurd is
      by Wait state is k t = good-set h v at number machine state f.left o.there o.rest
          (subst (λ (s : State). LaneGood h v.calls.calls (record { number = number; state = s })) (sym is) (
            λ xid w waits same.
                let e = o.own xid w waits same in
                let some = calls-some xid v.calls.calls w waits in
                let all = ap (λ (n : ℕ). calls_for n v.calls.calls) same ∙ o.calls in
                record { made = e.made; expects = k (omega (arith, some, all)) e.made.asked e.expects },
            t,
          ))
      by (Done answer) state is k t = good-set h v at number machine state f.left o.there o.rest
          (subst (λ (s : State). LaneGood h v.calls.calls (record { number = number; state = s })) (sym is) (tt, t))
  leads-good h v new at number others machine Wait lanes r o is = subst (AllGood h) (sym is)
      (by-place (LaneGood h v.calls.calls) v.lanes at (record { number = number; state = Busy machine }) o.there (o.own, o.told) o.rest)
  leads-good h v new at number others machine (Done answer) lanes r o is = subst (AllGood h) (sym is)
      (good-set h v at number machine (Over answer) v.shelf o.there o.rest (tt, o.told))

  -- what it expects after the step, as long as it goes on
  going-own : (next : Step) (calls : List (ℕ × Waiting Purpose)) (number others : ℕ) (machine after : Machine) → calls_for number calls ≡ others
      → StateExpected calls number (Busy machine) → KeptOf Expects others machine next after → Going next (StateExpected calls number (Busy after))
  going-own (Send call) calls number others machine after count own k = λ xid w waits same.
      let e = own xid w waits same in
      let some = calls-some xid calls w waits in
      let all = ap (λ (n : ℕ). calls_for n calls) same ∙ count in
      record { made = e.made; expects = k (omega (arith, some, all)) e.made.asked e.expects }
  going-own Wait calls number others machine after count own k = λ xid w waits same.
      let e = own xid w waits same in
      let some = calls-some xid calls w waits in
      let all = ap (λ (n : ℕ). calls_for n calls) same ∙ count in
      record { made = e.made; expects = k (omega (arith, some, all)) e.made.asked e.expects }
  going-own (Done answer) calls number others machine after count own k = tt

  stirs-good : (h : List Entry) (old new : View) (at : ℕ) → Stirs old at new → Good h old → AllGood h new
  stirs-good h old new at t g =
      let own = g.all at (record { number = t.number; state = Busy t.machine }) t.there in
      let e = expects-resumes t.machine old.wsize (turn_at old) old.shelf t.next t.after t.shelf t.resumes in
      let apart = (lanes-under-way h old g.lanes).apart in
      let count : calls_for t.number old.calls.calls ≡ in_flight t.machine =
      g.known.counted t.number ∙ known-only t.number old.lanes at (Busy t.machine) t.there (λ k l is same. apart k at l (record { number = t.number; state = Busy t.machine }) is t.there same) in
      leads-good h (with_state old at t.number (Busy t.after) t.shelf) new at t.number (in_flight t.machine) t.after t.next
      ((lanes-stay h).sets old at t.number (Busy t.machine) (Busy t.after) t.shelf t.there g.lanes)
      (same-rows setup h old (with_state old at t.number (Busy t.after) t.shelf) refl g.rows)
      (record {
        there = at-set old.lanes at (record { number = t.number; state = Busy t.machine }) (record { number = t.number; state = Busy t.after }) t.there;
        rest = λ k lane is other. g.all k lane (sym (set-other old.lanes at k (record { number = t.number; state = Busy t.after }) other) ∙ is);
        calls = count;
        counts = counts-calls.resume old.wsize t.machine (turn_at old) old.shelf t.next t.after t.shelf t.resumes (g.known.right at (record { number = t.number; state = Busy t.machine }) t.there);
        asked = e.asked;
        own = going-own t.next old.calls.calls t.number (in_flight t.machine) t.machine t.after count own.0 e.kept;
        told = λ x op u. laws.resumes h x op t.machine old.wsize (turn_at old) old.shelf t.next t.after t.shelf (own.1 x op u) t.resumes;
      }) t.leads

  moves-good : (h : List Entry) (old new : View) → Moves old new → Good h old → Good h new
  moves-good h _ _ (moves_none old new is) g = subst (Good h) (sym is) g
  moves-good h _ _ (moves_more old mid new at m room t first) g =
      let before = moves-good h old mid m g in record {
        rows = stirs-stay (Rows setup h) (rows-stay setup h) mid new at t before.rows;
        lanes = stirs-stay (LanesKnown h) (lanes-stay h) mid new at t before.lanes;
        known = stirs-count mid new at t before.known;
        all = stirs-good h mid new at t before;
      }

  -- ---- one entry more

  lane-grows : (h : List Entry) (e : Entry) (calls : List (ℕ × Waiting Purpose)) (lane : Lane) → ((line : ℕ) (op : Op) → e ≡ Began lane.number line op → ⊥) → LaneGood h calls lane
      → LaneGood (h ++ e ∷ []) calls lane
  lane-grows h e calls lane other g = (g.0, λ x op u. laws.grows h e x op lane.state (g.1 x op (under-back h e lane.number x op other u)))

  all-grows : (h : List Entry) (e : Entry) (v : View) → ((lane line : ℕ) (op : Op) → e ≡ Began lane line op → ⊥) → AllGood h v → AllGood (h ++ e ∷ []) v
  all-grows h e v other g k lane there = lane-grows h e v.calls.calls lane (other lane.number) (g k lane there)

  -- ---- an operation begins

  began-is : (a b c d : ℕ) (o p : Op) → Began a b o ≡ Began c d p → a ≡ c
  began-is a b c d o p e = cc

  began-op : (a b c d : ℕ) (o p : Op) → Began a b o ≡ Began c d p → p ≡ o
  began-op a b c d o p e = cc

  -- the operation that is under way in the lane is the one that begins
  pub now-told : (h : List Entry) (v : View) (lane line : ℕ) (op : Op) (P : ℕ → Op → Type 0) → LanesKnown h v → IsOther lane (numbers_of v.lanes) → P (length h) op
      → (x : ℕ) (o : Op) → UnderWay (h ++ Began lane line op ∷ []) lane x (length (h ++ Began lane line op ∷ [])) o → P x o
  now-told h v lane line op P lanes idle p x o u = by (At-cases h (Began lane line op) x (Began lane u.line o) u.began)
    where
      by : At h x (Began lane u.line o) ⊎ ((x ≡ length h) × (Began lane line op ≡ Began lane u.line o)) → P x o
      by (inr now) = subst (λ (y : ℕ). P y o) (sym now.0) (subst (λ (q : Op). P (length h) q) (sym (began-op lane line lane u.line op o now.1)) p)
      by (inl there) = absurd ((lanes-under-way h v lanes).idle lane idle (record {
        x = x;
        op = o;
        under_way = record {
          line = u.line;
          began = there;
          before = At-below h x (Began lane u.line o) there;
          unanswered = λ a. u.unanswered (record {
            lane = a.lane;
            op = a.op;
            y = a.y;
            answer = a.answer;
            ended = ended-grow h (Began lane line op) a.lane x a.op a.y a.answer a.ended;
            before = let more = length_last h (Began lane line op) in let low = a.before in omega (arith, more, low);
          });
        };
      }))

  pushed-good : (h : List Entry) (lanes : List Lane) (calls : List (ℕ × Waiting Purpose)) (own : Lane) → ((k : ℕ) (lane : Lane) → slice_get lanes k ≡ Some lane → LaneGood h calls lane)
      → LaneGood h calls own → (k : ℕ) (lane : Lane) → slice_get (lanes ++ own ∷ []) k ≡ Some lane → LaneGood h calls lane
  pushed-good h lanes calls own old good k lane there = by (get-push lanes own k lane there)
    where
      by : (slice_get lanes k ≡ Some lane) ⊎ ((k ≡ length lanes) × (lane ≡ own)) → LaneGood h calls lane
      by (inl here) = old k lane here
      by (inr new) = subst (LaneGood h calls) (sym new.1) good

  begins-good : (b : Bool) (h : List Entry) (old new : View) (lane line : ℕ) (op : Op) → old.lost ≡ b → StepsTo machine_of h old (Began lane line op) new → Reaches machine_of setup h old
      → BeginsIf b old lane (machine_of lane op) (last_reading 0 h) new → AllGood h old → AllGood (h ++ Began lane line op ∷ []) new
  begins-good true h old new lane line op was t r is g = subst (AllGood (h ++ Began lane line op ∷ [])) (sym is)
      (pushed-good (h ++ Began lane line op ∷ []) old.lanes old.calls.calls (record { number = lane; state = Over (Refused faults.Lost) })
      (λ k l there. lane-grows h (Began lane line op) old.calls.calls l
      (λ n o e. idle-numbers lane (numbers_of old.lanes) t.idle.other k (to-map number_of old.lanes k l there ∙ ap Some (sym (began-is lane line l.number n op o e)))) (g k l there))
      (tt, λ x o u. laws.lost (h ++ Began lane line op ∷ []) x o (lost-grow h (Began lane line op) (reached-shown machine_of setup h old r was))))
  begins-good false h old new lane line op was t r b g =
      (moves-good later b.first new b.rest (record { rows = rows; lanes = lanes; known = known; all = first })).all
    where
      later : List Entry
      later = h ++ Began lane line op ∷ []

      known-old : IsKnown old
      known-old = reached-count machine_of unbegun setup h old r was

      rows : Rows setup later b.first
      rows = starts-stay (Rows setup later) (rows-stay setup later) (counted old (last_reading 0 h)) b.first lane (machine_of lane op)
          (λ state shelf. same-rows setup later old (record (counted old (last_reading 0 h)) { lanes = old.lanes ++ record { number = lane; state = state } ∷ []; shelf = shelf }) refl
          (silent-grow setup h (Began lane line op) old (record { sent = λ bytes is. cc; came = λ bytes is. cc }) (reached-rows machine_of setup h old r))) b.own

      pushed : (state : State) (shelf : Shelf) → LanesKnown later (record (counted old (last_reading 0 h)) { lanes = old.lanes ++ record { number = lane; state = state } ∷ []; shelf = shelf })
      pushed state shelf = lanes-begin h old lane line op (reached-lanes machine_of setup h old r) t.idle.other state

      lanes : LanesKnown later b.first
      lanes = starts-stay (LanesKnown later) (lanes-stay later) (counted old (last_reading 0 h)) b.first lane (machine_of lane op) pushed b.own

      known : IsKnown b.first
      known = starts-count (counted old (last_reading 0 h)) b.first lane (machine_of lane op) (unbegun lane op) b.own (record { counted = known-old.counted; right = known-old.right })

      none : calls_for lane old.calls.calls ≡ 0
      none = known-old.counted lane ∙ known-none lane old.lanes (λ k l there same. idle-numbers lane (numbers_of old.lanes) t.idle.other k (to-map number_of old.lanes k l there ∙ ap Some same))

      own-calls : (next : Step) (after : Machine) → Going next (StateExpected old.calls.calls lane (Busy after))
      own-calls (Send call) after = λ xid w waits same. absurd (none-idle old lane xid w t.idle.other known-old.counted waits same)
      own-calls Wait after = λ xid w waits same. absurd (none-idle old lane xid w t.idle.other known-old.counted waits same)
      own-calls (Done answer) after = tt

      own-told : (x : ℕ) (o : Op) → UnderWay later lane x (length later) o → ThenOf (λ m. S later x o (Busy m)) (λ a. S later x o (Over a)) b.own.next b.own.after
      own-told x o u = now-told h old lane line op (λ y q. ThenOf (λ m. S later y q (Busy m)) (λ a. S later y q (Over a)) b.own.next b.own.after)
          (reached-lanes machine_of setup h old r) t.idle.other
          (laws.starts h lane line op old.wsize (turn_at (counted old (last_reading 0 h))) old.shelf b.own.next b.own.after b.own.shelf (given h old r was lane t.idle.other) b.own.starts) x o u

      first : AllGood later b.first
      first = leads-good later (record (counted old (last_reading 0 h)) { lanes = old.lanes ++ record { number = lane; state = Busy b.own.after } ∷ []; shelf = b.own.shelf }) b.first
          (length old.lanes) lane 0 b.own.after b.own.next (pushed (Busy b.own.after) b.own.shelf)
          (same-rows setup later old (record (counted old (last_reading 0 h)) { lanes = old.lanes ++ record { number = lane; state = Busy b.own.after } ∷ []; shelf = b.own.shelf }) refl
          (silent-grow setup h (Began lane line op) old (record { sent = λ bytes is. cc; came = λ bytes is. cc }) (reached-rows machine_of setup h old r)))
          (record {
            there = at-push old.lanes (record { number = lane; state = Busy b.own.after });
            rest = λ k l there other. before k l (get-push old.lanes (record { number = lane; state = Busy b.own.after }) k l there) other;
            calls = none;
            counts = counts-calls.start old.wsize (machine_of lane op) (turn_at (counted old (last_reading 0 h))) old.shelf b.own.next b.own.after b.own.shelf b.own.starts (unbegun lane op);
            asked = (expects-starts (machine_of lane op) old.wsize (turn_at (counted old (last_reading 0 h))) old.shelf b.own.next b.own.after b.own.shelf b.own.starts).asked;
            own = own-calls b.own.next b.own.after;
            told = own-told;
          }) b.own.leads
        where
          before : (k : ℕ) (l : Lane) → (slice_get old.lanes k ≡ Some l) ⊎ ((k ≡ length old.lanes) × (l ≡ record { number = lane; state = Busy b.own.after })) → k ≢ length old.lanes
              → LaneGood later old.calls.calls l
          before k l (inl here) other = lane-grows h (Began lane line op) old.calls.calls l
              (λ n o e. idle-numbers lane (numbers_of old.lanes) t.idle.other k (to-map number_of old.lanes k l here ∙ ap Some (sym (began-is lane line l.number n op o e)))) (g k l here)
          before k l (inr new) other = absurd (other new.0)

  -- ---- a record comes

  -- a call that waits no more is no other lane's
  less-expected : (h : List Entry) (old : View) (xid number : ℕ) (state : State) → Rows setup h old → StateExpected old.calls.calls number state
      → StateExpected (without xid old.calls.calls) number state
  less-expected h old xid number (Over answer) r e = tt
  less-expected h old xid number (Busy machine) r e = λ y w waits same. by y w waits same (nat_eq y xid) refl
    where
      by : (y : ℕ) (w : Waiting Purpose) → waiting_at y (without xid old.calls.calls) ≡ Some w → w.purpose.lane ≡ number → (b : Bool) → nat_eq y xid ≡ b → IsExpected y w machine
      by y w waits same false d = e y w (sym (others_taken y xid old.calls.calls d) ∙ waits) same
      by y w waits same true d = absurd (
          let none : waiting_at xid (without xid old.calls.calls) ≡ None = gone old.calls.cred old.calls.first_xid (next_xid old.calls) xid old.calls.calls r.sound.calls.each in
          let there : waiting_at xid (without xid old.calls.calls) ≡ Some w = ap (λ (n : ℕ). waiting_at n (without xid old.calls.calls)) (sym (eqb-true y xid d)) ∙ waits in
          let no_way : None ≡ Some w = sym none ∙ there in cc)

  came-not : (bytes : List ℕ) (lane line : ℕ) (op : Op) → Delivered bytes ≡ Began lane line op → ⊥
  came-not bytes lane line op e = cc

  taken-lane : (h : List Entry) (old : View) (rec : List ℕ) (xid : ℕ) (lane : Lane) → Rows setup h old → LaneGood h old.calls.calls lane
      → LaneGood (h ++ Delivered rec ∷ []) (without xid old.calls.calls) lane
  taken-lane h old rec xid lane r g =
      lane-grows h (Delivered rec) (without xid old.calls.calls) lane (λ line op e. came-not rec lane.number line op e) (less-expected h old xid lane.number lane.state r g.0, g.1)

  taken-good : (h : List Entry) (old : View) (rec : List ℕ) (xid : ℕ) → Rows setup h old → AllGood h old → AllGood (h ++ Delivered rec ∷ []) (taken_one old xid)
  taken-good h old rec xid r g k lane there = taken-lane h old rec xid lane r (g k lane there)

  -- what is told of the call to the operation that is under way
  pub told-of : (h : List Entry) (old : View) (rec : List ℕ) (new : View) (xid : ℕ) (call : Waiting Purpose) (t : HearsRecord old rec new) → Reaches machine_of setup h old → old.lost ≡ false
      → xid_at rec ≡ Some xid → waiting_at xid old.calls.calls ≡ Some call → (machine : Machine) → IsExpected xid call machine
      → (x line : ℕ) (op : Op) → At h x (Began call.purpose.lane line op) → IsTold (h ++ Delivered rec ∷ []) x machine (said_of call.purpose.proc rec)
  told-of h old rec new xid call t r found named waits machine e x line op began = record {
    call = e.made.asked;
    expects = e.expects;
    heard = λ reply is. record {
      xid = xid;
      bytes = rec;
      heard = subst (λ (n : ℕ). IsHeard (h ++ Delivered rec ∷ []) x n e.made.asked xid rec) (sym (length_last h (Delivered rec))) (by ((reached-rows machine_of setup h old r).rows xid call waits).tried);
      spells =
          let said = says-of old rec t.result new xid call t.hears named waits xid named e.made.asked (record { nfs = e.made.nfs; is = sym e.made.proc }) in
          (subst (Says xid e.made.asked rec) is said).is;
    };
    ends = λ reply is. ends-by reply (
        let said = says-of old rec t.result new xid call t.hears named waits xid named e.made.asked (record { nfs = e.made.nfs; is = sym e.made.proc }) in
        (subst (Says xid e.made.asked rec) is said).is) ((reached-rows machine_of setup h old r).rows xid call waits).tried;
    fine = said-fine call.purpose.proc rec;
  }
    where
      ends-by : (reply : Reply) → SpellsReply xid e.made.asked reply rec → Tried h xid call → EndsWith (h ++ Delivered rec ∷ []) x (length (h ++ Delivered rec ∷ [])) e.made.asked reply
      ends-by reply spells (unsent nothing u) = absurd (let some = was-sent xid old.calls.calls call t.may.sent waits in omega (arith, some, nothing))
      ends-by reply spells (runs from running o rest) = ends-of h rec xid from x e.made.asked call.bytes reply o e.made.spells.spells named
          (reached-since machine_of unbegun setup h old r found xid call waits x line op began from call.bytes o.sent.sent o.sent.under) spells
      ends-by reply spells (ended from idle o rest) = ends-of h rec xid from x e.made.asked call.bytes reply o e.made.spells.spells named
          (reached-since machine_of unbegun setup h old r found xid call waits x line op began from call.bytes o.sent.sent o.sent.under) spells

      by : Tried h xid call → IsHeard (h ++ Delivered rec ∷ []) x (length h + 1) e.made.asked xid rec
      by (unsent nothing u) = absurd (let some = was-sent xid old.calls.calls call t.may.sent waits in omega (arith, some, nothing))
      by (runs from running o rest) = heard-of h rec xid from x e.made.asked call.bytes o e.made.spells.spells named
          (reached-since machine_of unbegun setup h old r found xid call waits x line op began from call.bytes o.sent.sent o.sent.under)
      by (ended from idle o rest) = heard-of h rec xid from x e.made.asked call.bytes o e.made.spells.spells named
          (reached-since machine_of unbegun setup h old r found xid call waits x line op began from call.bytes o.sent.sent o.sent.under)

  hears-good : (h : List Entry) (old : View) (rec : List ℕ) (new : View) (xid : ℕ) (call : Waiting Purpose) (at : ℕ) (first : View) → HearsRecord old rec new
      → Reaches machine_of setup h old → old.lost ≡ false → xid_at rec ≡ Some xid → waiting_at xid old.calls.calls ≡ Some call → position (is_busy call.purpose.lane) old.lanes ≡ Some at
      → TakesAt (taken_one old xid) at call.purpose.sent (said_of call.purpose.proc rec) first → AllGood h old → Good (h ++ Delivered rec ∷ []) first
  hears-good h old rec new xid call at first t r found named waits there o g = record {
    rows = steps-stay (Rows setup later) (rows-stay setup later) (taken_one old xid) first at o.number o.machine o.after o.shelf o.next o.there o.leads rows;
    lanes = steps-stay (LanesKnown later) (lanes-stay later) (taken_one old xid) first at o.number o.machine o.after o.shelf o.next o.there o.leads lanes;
    known = hears-count old first rec xid call at waits there apart o known;
    all = leads-good later (with_state (taken_one old xid) at o.number (Busy o.after) o.shelf) first at o.number (in_flight o.machine - 1) o.after o.next
        ((lanes-stay later).sets (taken_one old xid) at o.number (Busy o.machine) (Busy o.after) o.shelf o.there lanes)
        (same-rows setup later (taken_one old xid) (with_state (taken_one old xid) at o.number (Busy o.after) o.shelf) refl rows)
        (record {
          there = at-set old.lanes at (record { number = o.number; state = Busy o.machine }) (record { number = o.number; state = Busy o.after }) o.there;
          rest = λ k lane here other. taken-lane h old rec xid lane rows-old (g k lane (sym (set-other old.lanes at k (record { number = o.number; state = Busy o.after }) other) ∙ here));
          calls = less;
          counts = counts-calls.take old.wsize o.machine call.purpose.sent (turn_at (taken_one old xid)) (said_of call.purpose.proc rec) old.shelf o.next o.after o.shelf
              (in_flight o.machine - 1) o.takes (known.right at (record { number = o.number; state = Busy o.machine }) o.there) before;
          asked = kept.asked;
          own = going-own o.next (without xid old.calls.calls) o.number (in_flight o.machine - 1) o.machine o.after less
              (less-expected h old xid o.number (Busy o.machine) rows-old own.0) kept.kept;
          told = λ x op u.
              let was = under-back h (Delivered rec) o.number x op (λ line q e. came-not rec o.number line q e) u in
              laws.takes later x op o.machine old.wsize call.purpose.sent (turn_at (taken_one old xid)) (said_of call.purpose.proc rec) old.shelf o.next o.after o.shelf
              (in_flight o.machine - 1) (laws.grows h (Delivered rec) x op (Busy o.machine) (own.1 x op was)) before
              (told-of h old rec new xid call t r found named waits o.machine (own.0 xid call waits (sym is)) x was.line op
              (subst (λ (n : ℕ). At h x (Began n was.line op)) is was.began)) o.takes;
        }) o.leads;
  }
    where
      later : List Entry
      later = h ++ Delivered rec ∷ []

      rows-old : Rows setup h old
      rows-old = reached-rows machine_of setup h old r

      rows : Rows setup later (taken_one old xid)
      rows = rows-grow setup h (Delivered rec) (taken_one old xid) (taken-quiet setup h old rec xid rows-old named) (not-sent rec) (taken-rows setup h old xid rows-old)

      lanes : LanesKnown later (taken_one old xid)
      lanes = quiet-facts h (Delivered rec) (numbers_of old.lanes) (λ number. refl) (reached-lanes machine_of setup h old r)

      apart : (k m : ℕ) (l n : Lane) → slice_get old.lanes k ≡ Some l → slice_get old.lanes m ≡ Some n → l.number ≡ n.number → k ≡ m
      apart = (lanes-under-way h old (reached-lanes machine_of setup h old r)).apart

      known : IsKnown old
      known = reached-count machine_of unbegun setup h old r found

      is : o.number ≡ call.purpose.lane
      is = eqb-true o.number call.purpose.lane (at-position (is_busy call.purpose.lane) old.lanes at (record { number = o.number; state = Busy o.machine }) there o.there)

      own : LaneGood h old.calls.calls (record { number = o.number; state = Busy o.machine })
      own = g at (record { number = o.number; state = Busy o.machine }) o.there

      count : calls_for o.number old.calls.calls ≡ in_flight o.machine
      count = known.counted o.number ∙ known-only o.number old.lanes at (Busy o.machine) o.there
          (λ k l here same. apart k at l (record { number = o.number; state = Busy o.machine }) here o.there same)

      before : in_flight o.machine ≡ (in_flight o.machine - 1) + 1
      before =
          let some = calls-some xid old.calls.calls call waits in
          let all : calls_for call.purpose.lane old.calls.calls ≡ in_flight o.machine = ap (λ (n : ℕ). calls_for n old.calls.calls) (sym is) ∙ count in
          omega (arith, some, all)

      less : calls_for o.number (without xid old.calls.calls) ≡ in_flight o.machine - 1
      less =
          let fewer = calls-without o.number xid old.calls.calls call waits in
          let one : one_for o.number call ≡ 1 = ap (λ (n : ℕ). one_for n call) is ∙ ap (λ (b : Bool). where_ b 1) (eq-eqb call.purpose.lane call.purpose.lane refl) in
          let all = count in
          omega (arith, fewer, one, all)

      kept : Expected (in_flight o.machine - 1) o.machine o.next o.after
      kept = expects-takes o.machine old.wsize call.purpose.sent (turn_at (taken_one old xid)) (said_of call.purpose.proc rec) old.shelf o.next o.after o.shelf (in_flight o.machine - 1) before o.takes

  heard-good : (b : Bool) (h : List Entry) (old : View) (rec : List ℕ) (new : View) → old.lost ≡ b → HearsRecord old rec new → Reaches machine_of setup h old → Heard old rec new
      → AllGood h old → AllGood (h ++ Delivered rec ∷ []) new
  heard-good b h old rec new was t r (dropped none is) g = subst (AllGood (h ++ Delivered rec ∷ [])) (sym is) (all-grows h (Delivered rec) old (λ lane line op e. came-not rec lane line op e) g)
  heard-good true h old rec new was t r (replied xid call named waits f) g =
      let none : NoneBusy old = (comes-to-rest machine_of setup h old r).over was in
      let first : f.first ≡ taken_one old xid = own-none (taken_one old xid) rec call.purpose f.first none f.own in
      let none-first : NoneBusy f.first = subst NoneBusy (sym first) none in
      let is : new ≡ taken_one old xid = none-moves f.first new f.rest none-first ∙ first in
      subst (AllGood (h ++ Delivered rec ∷ [])) (sym is) (taken-good h old rec xid (reached-rows machine_of setup h old r) g)
  heard-good false h old rec new was t r (replied xid call named waits f) g = by (position (is_busy call.purpose.lane) old.lanes) refl f.own
    where
      by : (o : Option ℕ) → position (is_busy call.purpose.lane) old.lanes ≡ o
          → MatchOption o (f.first ≡ taken_one old xid) (λ at. TakesAt (taken_one old xid) at call.purpose.sent (said_of call.purpose.proc rec) f.first)
          → AllGood (h ++ Delivered rec ∷ []) new
      by None none is = absurd (none-busy old xid call waits none (reached-count machine_of unbegun setup h old r was).counted)
      by (Some at) there o = (moves-good (h ++ Delivered rec ∷ []) f.first new f.rest (hears-good h old rec new xid call at f.first t r was named waits there o g)).all

  -- ---- the other calls

  -- the same calls, as far as their records and purposes go
  waited-lane : (h : List Entry) (calls later : List (ℕ × Waiting Purpose)) (lane : Lane) → ((xid : ℕ) (w : Waiting Purpose) → waiting_at xid later ≡ Some w → WaitedAs calls xid w)
      → LaneGood h calls lane → LaneGood h later lane
  waited-lane h calls later lane was g = (by lane.state g.0, g.1)
    where
      by : (state : State) → StateExpected calls lane.number state → StateExpected later lane.number state
      by (Over answer) e = tt
      by (Busy machine) e = λ xid w waits same.
          let k = was xid w waits in
          let old = e xid k.was k.waited (ap (λ (p : Purpose). p.lane) (sym k.purpose) ∙ same) in
          record {
            made = record {
              asked = old.made.asked;
              spells = subst (SpellsCallBy setup.cred xid old.made.asked) (sym k.bytes) old.made.spells;
              nfs = old.made.nfs;
              proc = ap (λ (p : Purpose). p.proc) k.purpose ∙ old.made.proc;
            };
            expects = old.expects;
          }

  waited-good : (h : List Entry) (old new : View) → new.lanes ≡ old.lanes → ((xid : ℕ) (w : Waiting Purpose) → waiting_at xid new.calls.calls ≡ Some w → WaitedAs old.calls.calls xid w)
      → AllGood h old → AllGood h new
  waited-good h old new same was g k lane there =
      waited-lane h old.calls.calls new.calls.calls lane was (g k lane (ap (λ (lanes : List Lane). slice_get lanes k) (sym same) ∙ there))

  lost-lane-good : (h : List Entry) (calls later : List (ℕ × Waiting Purpose)) (number : ℕ) (state : State) → IsLost h (length h) → LaneGood h calls (record { number = number; state = state })
      → LaneGood h later (lost_lane (record { number = number; state = state }))
  lost-lane-good h calls later number (Busy machine) l g = (tt, λ x op u. laws.lost h x op l)
  lost-lane-good h calls later number (Over answer) l g = (tt, g.1)

  lost-good : (h : List Entry) (old new : View) → IsLost h (length h) → new.lanes ≡ map lost_lane old.lanes → AllGood h old → AllGood h new
  lost-good h old new l is g k lane there =
      let m = in-map lost_lane old.lanes k lane (ap (λ (lanes : List Lane). slice_get lanes k) (sym is) ∙ there) in
      subst (LaneGood h new.calls.calls) (sym m.2) (lost-lane-good h old.calls.calls new.calls.calls m.0.number m.0.state l (g k m.0 m.1))

  failed-good : (h : List Entry) (old new : View) → (new.lost ≡ true → IsLost h (length h)) → FailedNow old new → AllGood h old → AllGood h new
  failed-good h old new shown (goes_on none is) g =
      waited-good h old new (ap (λ (v : View). v.lanes) is) (λ xid w at. before_failed true old.calls.calls xid w
      (sym (ap (λ (v : View). waiting_at xid v.calls.calls) is ∙ ap (λ (o : Option ℕ). waiting_at xid (failed_after o old.calls.calls)) none) ∙ at)) g
  failed-good h old new shown (gives_up xid up is) g = lost-good h old new (shown (ap (λ (v : View). v.lost) is)) (ap (λ (v : View). v.lanes) is) g

  same-good : (h : List Entry) (e : Entry) (old new : View) → ((lane line : ℕ) (op : Op) → e ≡ Began lane line op → ⊥) → new ≡ old → AllGood h old → AllGood (h ++ e ∷ []) new
  same-good h e old new other is g = subst (AllGood (h ++ e ∷ [])) (sym is) (all-grows h e old other g)

  good-step : (h : List Entry) (old : View) (e : Entry) (new : View) → StepsTo machine_of h old e new → Reaches machine_of setup h old → AllGood h old → AllGood (h ++ e ∷ []) new
  good-step h old (Began lane line op) new t r g = begins-good old.lost h old new lane line op refl t r t.step g
  good-step h old (Answered lane line answer) new t r g =
      let a = answered_now old lane answer new t.answers in
      subst (AllGood (h ++ Answered lane line answer ∷ [])) (sym a.is.is)
      (λ k l there. lane-grows h (Answered lane line answer) old.calls.calls l (λ n o e. cc) (g (skip a.at k) l (get-remove old.lanes a.at k l there)))
  good-step h old (Sent bytes) new t r g =
      let n = sent_now old bytes new t in
      waited-good (h ++ Sent bytes ∷ []) old new (ap (λ (v : View). v.lanes) n.is)
      (λ xid w at. before_sent old.calls.calls xid w (sym (ap (λ (v : View). waiting_at xid v.calls.calls) n.is) ∙ at))
      (all-grows h (Sent bytes) old (λ lane line op e. cc) g)
  good-step h old (Delivered bytes) new t r g = heard-good old.lost h old bytes new refl t r (heard old bytes t.result new t.hears) g
  good-step h old Failed new (inl t) r g = failed-good (h ++ Failed ∷ []) old new
      (reached-shown machine_of setup (h ++ Failed ∷ []) new (goes (h ++ Failed ∷ []) h new old Failed r refl (inl t))) (failed_now old t.0 new t.1) (all-grows h Failed old (λ lane line op e. cc) g)
  good-step h old Failed new (inr t) r g = same-good h Failed old new (λ lane line op e. cc) t g
  good-step h old (Dialed port) new t r g = same-good h (Dialed port) old new (λ lane line op e. cc) t g
  good-step h old (Executed xid call reply) new t r g = same-good h (Executed xid call reply) old new (λ lane line op e. cc) t g
  good-step h old (Foreign call reply) new t r g = same-good h (Foreign call reply) old new (λ lane line op e. cc) t g
  good-step h old (Flushed file from len) new t r g = same-good h (Flushed file from len) old new (λ lane line op e. cc) t g
  good-step h old (Reboot verf) new t r g = same-good h (Reboot verf) old new (λ lane line op e. cc) t g
  good-step h old (Clock ms) new t r g = same-good h (Clock ms) old new (λ lane line op e. cc) t g

  pub good-over : (h : List Entry) (v : View) → Reaches machine_of setup h v → AllGood h v
  good-over _ _ (begins h v may up fresh) = λ k lane there. absurd (let no_way : None ≡ Some lane = ap (λ (lanes : List Lane). slice_get lanes k) (sym fresh.lanes) ∙ there in cc)
  good-over _ _ (goes h before v b e r is t) = subst (λ (k : List Entry). AllGood k v) (sym is) (good-step before b e v t r (good-over before b r))
  good-over _ _ (loses h v b r shown is) = lost-good h b v (record { to = length h; by = omega arith; loses = shown }) (ap (λ (w : View). w.lanes) is) (good-over h b r)

  -- ---- answers

  abbrev Ends_ : List Entry → ℕ → Op → Answer → Type 0
  Ends_ h x op answer = S h x op (Over answer)

  -- the operation that is answered now was under way
  pub answered-under : (h : List Entry) (lane line : ℕ) (given : Answer) (x : ℕ) (op : Op) (answer : Answer) → Ended (h ++ Answered lane line given ∷ []) lane x op (length h) answer
      → UnderWay h lane x (length h) op
  answered-under = answered.answered-under

  pub answered-over : (h : List Entry) (v : View) → Reaches machine_of setup h v → (lane x : ℕ) (op : Op) (y : ℕ) (answer : Answer) → Ended h lane x op y answer → HadStory Ends_ h x op y answer
  answered-over h v r = answered-story machine_of setup Anything Ends_
      (λ g w p known at number answer there x op u. (good-over g w (forget machine_of setup Anything g w p) at (record { number = number; state = Over answer }) there).1 x op u)
      h v (passes-any machine_of setup h v r)

-- ---- the same, with nothing to know as an operation begins

pub reached-answered : (machine_of : ℕ → Op → Machine) → ((lane : ℕ) (op : Op) → IsUnbegun (machine_of lane op)) → (setup : Setup) (S : List Entry → ℕ → Op → State → Type 0)
    → StoryLaws machine_of S → (h : List Entry) (v : View) → Reaches machine_of setup h v → (lane x : ℕ) (op : Op) (y : ℕ) (answer : Answer) → Ended h lane x op y answer
    → HadStory (λ k z o b. S k z o (Over b)) h x op y answer
reached-answered machine_of unbegun setup S laws h v r lane x op y answer d =
    answered-over machine_of unbegun setup Always (λ g w t found number other. tt) S (over-laws machine_of S laws) h v r lane x op y answer d
