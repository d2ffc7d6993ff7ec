-- What the steps of operations keep of the shelf, and of themselves, holds along a history, with what is known of each view through which the core passes, and
-- how the session goes on from there: what they take is the last record that came, and answers the call that they wait for, which was first sent at a place
-- that the operation knows, or after it; where that is a WRITE, what is in flight under its xid is what it writes.
use Rattle.core_answers.proofs.Prelude.{HadStory, ◌≡◌, ◌≢◌, ◌<◌, ◌≤◌, ◌+◌, ◌-◌, ◌⊎◌, inl, inr, ℕ, List, [], ◌∷◌, ◌++◌, length, take, map, max, Bool, true, false, nat_eq, Option, Some, None, option_map, MatchOption, position, slice_get, slice_set, Ok, Err, refl, sym, ap, subst, ◌∙◌, arith, eqb-true, eq-eqb, xid_at, Waiting, failed_after, next_xid, WaitedAs, made_call, waiting_at, without, at_made, others_made, others_taken, gone, before_sent, before_failed, Refused, Answer, Entry, Began, Answered, Dialed, Executed, Foreign, Flushed, Reboot, Delivered, Failed, Clock, Call, Reply, Op, At, IsLost, Ended, UnderWay, SpellsCall, SpellsCallBy, HasXid, proc_of, At-grow, At-below, At-back, At-last, At-cases, length_last, said_of, Step, Send, Wait, Done, Shelf, machine_of, Mounted, Machine, Lane, Purpose, State, Busy, Over, Setup, IsFresh, is_busy, numbers_of, with_state, record_of, Makes, IsRefused, Leads, Stirs, Moves, moves_none, moves_more, counted, BeginsIf, TakesAt, View, turn_at, unmade_turn, in_flight, Counts, calls_for, StepsTo, Reaches, begins, goes, loses, last_reading, IsMade, IsOutstanding, counts-calls, begins-unbegun, Heard, dropped, replied, sent_now, FailedNow, goes_on, gives_up, failed_now, answered_now, taken_one, calls-some, stirs-count, starts-count, hears-count, reached-count, Flown, keeps-flown, LanesKnown, quiet-facts, lanes-stay, lanes-begin, lanes-under-way, at-set, at-push, get-push, get-remove, skip, Rows, rows-stay, same-rows, rows-grow, silent-grow, taken-quiet, not-sent, taken-rows, made-known, made-asked, reached-rows, AskedOf, ThenOf, stirs-stay, starts-stay, steps-stay, HadShown, time_next, IsDelivered, set-other, by-place, Passes}
use Rattle.core_facts.proofs.Answered.{answered-story}
use Rattle.std.proofs.Common.{append-nil}
use Rattle.rpc_retry.specs.Held.{Held}
use Rattle.world_model.specs.declared.entry.Entry.TheVariants.{Sent}
use Rattle.call_replies.specs.Says.{Says, SpellsOne}
use Rattle.client_core.specs.Lanes.{lost_lane}
use Rattle.client_core.specs.Numbers.{IsOther}
use Rattle.core_facts.specs.Counted.{where_}
use Rattle.core_facts.specs.Reaches.{HearsRecord}
use Rattle.core_facts.specs.Tries.{Tried, unsent, runs, ended}
use Rattle.core_facts.proofs.Cases.{heard}
use Rattle.core_facts.proofs.Counting.{IsKnown, known-only, known-none, none-busy, calls-without, one_for, none-idle}
use Rattle.core_facts.proofs.LaneMarks.{reached-lanes, idle-numbers, number_of}
use Rattle.core_facts.proofs.Lists.{in-map, to-map, at-position}
use Rattle.core_facts.proofs.Stories.{ended-grow, under-back, some-call, Going}
use Rattle.world_model.proofs.Growth.{FirstSent-grow}
use Rattle.core_facts.proofs.Hearing.{was-sent, says-of}
use Rattle.core_facts.proofs.Owning.{reached-since}
use Rattle.world_model.specs.LanesTogether.{IsBusy}
use Rattle.core_facts.specs.Resting.{NoneBusy}
use Rattle.core_facts.proofs.Losing.{reached-shown, lost-grow}
use Rattle.core_facts.proofs.Resting.{comes-to-rest, none-moves, own-none}
use Rattle.core_facts.proofs.Keeping.{Known as Viewed, reached-kept}
use Rattle.core_facts.proofs.PieceWalks.{IsForeign}
use Rattle.world_model.specs.Heard.{Heard as IsHeard}
use Rattle.core_answers.proofs.bonds.Clocks.{time-begins}
use Rattle.core_answers.proofs.bonds.FileCalls.{Asking, Keeps}
use Rattle.core_answers.proofs.bonds.Timed.{MadeAfter, reached-timed}
use Rattle.core_answers.proofs.engine.Laws.{KeepsAround, GoesBack, Did, FromPlace, LaneLaws}
use Rattle.core_answers.proofs.engine.Told.{AskLaws, IsLate, take-early, take-whole, IsAfter, ToldLast, IsQuiet, quiet-entry}
use Rattle.core_answers.proofs.pages.FilePages.{IsSentAs}
use Rattle.core_answers.proofs.pages.PiecesCalled.{Called, starts-spelled, resumes-spelled, takes-spelled, waits-before, next-unused, made-called, less-called, same-called, called-sent}
use Rattle.core_answers.proofs.pages.PiecesSent.{SentAs, starts-sent, resumes-sent, takes-sent}
use Rattle.world_model.specs.declared.answer.Fault.TheVariants as faults
use Rattle.core_answers.specs.pages.Passing as passing
use Rattle.core_facts.proofs.Passing as ways

module _ (m : Mounted) (setup : Setup) (A : List Entry → View → Type 0) (keeps : KeepsAround (machine_of m) setup A) (R Q : List Entry → View → Type 0)
    (back : GoesBack (machine_of m) setup R Q) (G : List Entry → View → Type 0) (gives : (h : List Entry) (v : View) → A h v → Q h v → G h v) (E : Machine → Call → Type 0)
    (asking : AskLaws E) (F : List Entry → ℕ → Shelf → Type 0) (K : List Entry → Shelf → Type 0) (B : List Entry → ℕ → ℕ → Op → Machine → Type 0)
    (O : List Entry → ℕ → Op → Answer → Type 0) (laws : LaneLaws (machine_of m) setup G E F K B O)
    (begin : (h : List Entry) (v : View) (lane : ℕ) → Reaches (machine_of m) setup h v → v.lost ≡ false → IsOther lane (numbers_of v.lanes) → F h lane v.shelf) where
  -- The call that waits is one that the machine waits for.
  pub record IsAsked (xid : ℕ) (w : Waiting Purpose) (machine : Machine) : Type 0 where
    pub made : IsMade setup.cred xid w
    pub on : E machine made.asked

  abbrev pub StateAsks : List (ℕ × Waiting Purpose) → ℕ → State → Type 0
  StateAsks calls number (Busy machine) = (xid : ℕ) (w : Waiting Purpose) → waiting_at xid calls ≡ Some w → w.purpose.lane ≡ number → IsAsked xid w machine
  StateAsks calls number (Over answer) = Unit {0}

  -- each call that waits for the lane was first sent there or later
  abbrev pub AllAfter : List Entry → List (ℕ × Waiting Purpose) → ℕ → ℕ → Type 0
  AllAfter h calls number place = (xid : ℕ) (w : Waiting Purpose) → waiting_at xid calls ≡ Some w → w.purpose.lane ≡ number → IsAfter h xid place

  -- what is known of an operation under way
  pub record IsHeld (h : List Entry) (calls : List (ℕ × Waiting Purpose)) (number x : ℕ) (op : Op) (machine : Machine) : Type 0 where
    pub place : ℕ
    pub within : place ≤ length h
    pub story : B h place x op machine
    pub sent : AllAfter h calls number place

  abbrev pub StateTold : List Entry → List (ℕ × Waiting Purpose) → ℕ → State → Type 0
  StateTold h calls number (Busy machine) = (x : ℕ) (op : Op) → UnderWay h number x (length h) op → IsHeld h calls number x op machine
  StateTold h calls number (Over answer) = (x : ℕ) (op : Op) → UnderWay h number x (length h) op → O h x op answer

  abbrev pub LaneGood : List Entry → List (ℕ × Waiting Purpose) → Lane → Type 0
  LaneGood h calls lane = StateAsks calls lane.number lane.state × StateTold h calls lane.number lane.state

  abbrev pub AllGood : List Entry → View → Type 0
  AllGood h v = (k : ℕ) (lane : Lane) → slice_get v.lanes k ≡ Some lane → LaneGood h v.calls.calls lane

  -- each operation began at a reading that isn't later than the core's time
  abbrev pub AllLate : List Entry → View → Type 0
  AllLate h v = (x lane line : ℕ) (op : Op) → At h x (Began lane line op) → IsLate h x v.clock

  -- what is known of a view
  pub record Known (h : List Entry) (v : View) : Type 0 where
    pub lanes : AllGood h v
    pub kept : K h v.shelf
    pub late : AllLate h v
    pub called : Called setup.cred v.calls.calls v.shelf.back

  -- what holds between the steps of a session that isn't lost
  pub record Bond (h : List Entry) (v : View) : Type 0 where
    pub rows : Rows setup h v
    pub lanes : LanesKnown h v
    pub counts : IsKnown v
    pub flown : Flown v
    pub passed : Passes (machine_of m) setup h v
    pub around : A h v
    pub on : Q h v
    pub known : Known h v

  as-viewed : (h : List Entry) (v : View) → Rows setup h v → LanesKnown h v → IsKnown v → Viewed setup h v
  as-viewed h v rows lanes counts = record { rows = rows; lanes = lanes; known = counts }

  -- the session went on from each view on the way
  moved-back : (h : List Entry) (old new : View) → Moves old new → Q h new → Q h old
  moved-back h _ _ (moves_none old new is) g = subst (Q h) is g
  moved-back h _ _ (moves_more old mid new at k room t first) g = moved-back h old mid k (back.stirs h mid new at t g)

  -- The machine of the lane at a place made a step, and what that leads to is still to come.
  pub record Owing (h : List Entry) (v : View) (at number others : ℕ) (machine : Machine) (next : Step) : Type 0 where
    pub there : slice_get v.lanes at ≡ Some (record { number = number; state = Busy machine })
    pub rest : (k : ℕ) (lane : Lane) → slice_get v.lanes k ≡ Some lane → k ≢ at → LaneGood h v.calls.calls lane
    pub calls : calls_for number v.calls.calls ≡ others
    pub counts : Counts next others machine
    pub asked : AskedOf E next machine
    pub own : Going next (StateAsks v.calls.calls number (Busy machine))
    pub told : (x : ℕ) (op : Op) → UnderWay h number x (length h) op → ThenOf (IsHeld h v.calls.calls number x op) (O h x op) next machine
    pub kept : K h v.shelf
    pub late : AllLate h v
    pub called : Called setup.cred v.calls.calls v.shelf.back
    pub sent : SentAs (next_xid v.calls) next v.shelf.back

  -- ---- one step

  good-set : (h : List Entry) (v : View) (at number : ℕ) (machine : Machine) (state : State) (shelf : Shelf) → slice_get v.lanes at ≡ Some (record { number = number; state = Busy machine })
      → ((k : ℕ) (lane : Lane) → slice_get v.lanes k ≡ Some lane → k ≢ at → LaneGood h v.calls.calls lane) → LaneGood h v.calls.calls (record { number = number; state = state })
      → AllGood h (with_state v at number state shelf)
  good-set h v at number machine state shelf there rest good =
      by-place (LaneGood h v.calls.calls) (slice_set v.lanes at (record { number = number; state = state })) at (record { number = number; state = state })
      (at-set v.lanes at (record { number = number; state = Busy machine }) (record { number = number; state = state }) there) good
      (λ k lane here apart. rest k lane (sym (set-other v.lanes at k (record { number = number; state = state }) apart) ∙ here) apart)

  -- the call that is made is one of this lane, and no other lane's
  made-lane : (h : List Entry) (v : View) (number : ℕ) (call : Call) (new : View) (k : Makes v number call new) → Rows setup h v → (lane : ℕ) (machine : Machine)
      → ((xid : ℕ) (w : Waiting Purpose) → waiting_at xid v.calls.calls ≡ Some w → w.purpose.lane ≡ lane → IsAsked xid w machine) → (lane ≡ number → E machine call)
      → (xid : ℕ) (w : Waiting Purpose)
      → waiting_at xid (v.calls.calls ++ (next_xid v.calls, made_call (record_of v call k.args) (record { lane = number; proc = proc_of call; sent = turn_at v })) ∷ []) ≡ Some w
      → w.purpose.lane ≡ lane → IsAsked xid w machine
  made-lane h v number call new k r lane machine old own xid w at same = by (nat_eq xid (next_xid v.calls)) refl
    where
      row : Waiting Purpose
      row = made_call (record_of v call k.args) (record { lane = number; proc = proc_of call; sent = turn_at v })

      by : (b : Bool) → nat_eq xid (next_xid v.calls) ≡ b → IsAsked xid w machine
      by true d =
          let is : xid ≡ next_xid v.calls = eqb-true xid (next_xid v.calls) d in
          let which : row ≡ w = some-call row w (sym (at_made v.calls.cred v.calls.first_xid (next_xid v.calls) xid (next_xid v.calls) v.calls.calls row r.sound.calls.each is refl) ∙ at) in
          let known = made-known setup h v number call new k r in
          let here : number ≡ lane = ap (λ (c : Waiting Purpose). c.purpose.lane) which ∙ same in
          subst (λ (n : ℕ). IsAsked n w machine) (sym is)
          (subst (λ (c : Waiting Purpose). IsAsked (next_xid v.calls) c machine) which
          (record { made = known.made; on = subst (λ (c : Call). E machine c) (sym (made-asked setup h v number call new k r)) (own (sym here)) }))
      by false d = old xid w (sym (others_made xid (next_xid v.calls) v.calls.calls row d) ∙ at) same

  -- it wasn't sent yet
  made-after : (h : List Entry) (v : View) (number : ℕ) (call : Call) (new : View) (k : Makes v number call new) → Rows setup h v → (lane place : ℕ) → AllAfter h v.calls.calls lane place
      → AllAfter h (v.calls.calls ++ (next_xid v.calls, made_call (record_of v call k.args) (record { lane = number; proc = proc_of call; sent = turn_at v })) ∷ []) lane place
  made-after h v number call new k r lane place old xid w at same = by (nat_eq xid (next_xid v.calls)) refl
    where
      row : Waiting Purpose
      row = made_call (record_of v call k.args) (record { lane = number; proc = proc_of call; sent = turn_at v })

      by : (b : Bool) → nat_eq xid (next_xid v.calls) ≡ b → IsAfter h xid place
      by true d = λ i bytes sent_at has.
          let is : xid ≡ next_xid v.calls = eqb-true xid (next_xid v.calls) d in
          let low = r.used i xid bytes sent_at has in
          absurd (omega (arith, is, low))
      by false d = old xid w (sym (others_made xid (next_xid v.calls) v.calls.calls row d) ∙ at) same

  made-held : (h : List Entry) (v : View) (number : ℕ) (call : Call) (new : View) (k : Makes v number call new) → Rows setup h v → (lane x : ℕ) (op : Op) (machine : Machine)
      → IsHeld h v.calls.calls lane x op machine
      → IsHeld h (v.calls.calls ++ (next_xid v.calls, made_call (record_of v call k.args) (record { lane = number; proc = proc_of call; sent = turn_at v })) ∷ []) lane x op machine
  made-held h v number call new k r lane x op machine held =
      record { place = held.place; within = held.within; story = held.story; sent = made-after h v number call new k r lane held.place held.sent }

  abbrev DidFrom : List Entry → ℕ → ℕ → ℕ → Op → Step → Machine → Shelf → Type 0
  DidFrom h others was x op next new after = Did K (λ k. FromPlace h others was (λ n. B h n x op k)) (O h x op) h next new after

  -- what a step leaves, with the calls that wait
  place-held : (h : List Entry) (calls : List (ℕ × Waiting Purpose)) (number x : ℕ) (op : Op) (others was : ℕ) (machine : Machine) → calls_for number calls ≡ others
      → AllAfter h calls number was → FromPlace h others was (λ n. B h n x op machine) → IsHeld h calls number x op machine
  place-held h calls number x op others was machine count sent f = record { place = f.place; within = f.within; story = f.holds; sent = by f.fits }
    where
      by : (f.place ≤ was) ⊎ (others ≡ 0) → AllAfter h calls number f.place
      by (inl early) = λ xid w at same i bytes sent_at has. let late = sent xid w at same i bytes sent_at has in omega (arith, early, late)
      by (inr none) = λ xid w at same.
          let some = calls-some xid calls w at in
          let all = ap (λ (n : ℕ). calls_for n calls) same ∙ count in
          absurd (omega (arith, some, all, none))

  then-held : (h : List Entry) (calls : List (ℕ × Waiting Purpose)) (number x : ℕ) (op : Op) (others was : ℕ) (next : Step) (machine : Machine) → calls_for number calls ≡ others
      → AllAfter h calls number was → ThenOf (λ k. FromPlace h others was (λ n. B h n x op k)) (O h x op) next machine → ThenOf (IsHeld h calls number x op) (O h x op) next machine
  then-held h calls number x op others was (Send call) machine count sent t = place-held h calls number x op others was machine count sent t
  then-held h calls number x op others was Wait machine count sent t = place-held h calls number x op others was machine count sent t
  then-held h calls number x op others was (Done answer) machine count sent t = t

  -- with the place as it was
  then-same : (h : List Entry) (calls : List (ℕ × Waiting Purpose)) (number x : ℕ) (op : Op) (place : ℕ) (next : Step) (machine : Machine) → place ≤ length h
      → AllAfter h calls number place → ThenOf (B h place x op) (O h x op) next machine → ThenOf (IsHeld h calls number x op) (O h x op) next machine
  then-same h calls number x op place (Send call) machine within sent t = record { place = place; within = within; story = t; sent = sent }
  then-same h calls number x op place Wait machine within sent t = record { place = place; within = within; story = t; sent = sent }
  then-same h calls number x op place (Done answer) machine within sent t = t

  no-room : (xid : ℕ) (v : View) → IsForeign xid (unmade_turn v).xid (unmade_turn v).room
  no-room xid v yes_ = absurd (let no_way : false ≡ true = yes_ in cc)

  leads-known : (h : List Entry) (v new : View) (at number others : ℕ) (machine : Machine) (next : Step) → LanesKnown h v → Rows setup h v → Owing h v at number others machine next
      → Leads v at number machine next new → Known h new
  leads-known h v new at number others machine (Send call) lanes r o (inl k) = subst (Known h) (sym k.is) (record {
    lanes =
        by-place (LaneGood h (v.calls.calls ++ (next_xid v.calls, row) ∷ [])) v.lanes at (record { number = number; state = Busy machine }) o.there
        (made-lane h v number call new k r number machine o.own (λ same. o.asked), λ x op u. made-held h v number call new k r number x op machine (o.told x op u))
        (λ j lane here apart. other j lane here apart lane.state refl (o.rest j lane here apart));
    kept = o.kept;
    late = o.late;
    called = made-called setup h v number call new k r o.sent o.called;
  })
    where
      row : Waiting Purpose
      row = made_call (record_of v call k.args) (record { lane = number; proc = proc_of call; sent = turn_at v })

      other : (j : ℕ) (lane : Lane) → slice_get v.lanes j ≡ Some lane → j ≢ at → (state : State) → lane.state ≡ state → LaneGood h v.calls.calls lane
          → LaneGood h (v.calls.calls ++ (next_xid v.calls, row) ∷ []) lane
      other j lane here apart (Busy m2) is g =
          let was : StateAsks v.calls.calls lane.number (Busy m2) = subst (StateAsks v.calls.calls lane.number) is g.0 in
          let told : StateTold h v.calls.calls lane.number (Busy m2) = subst (StateTold h v.calls.calls lane.number) is g.1 in (
            subst (StateAsks (v.calls.calls ++ (next_xid v.calls, row) ∷ []) lane.number) (sym is)
                (made-lane h v number call new k r lane.number m2 was
                (λ same. absurd (apart ((lanes-under-way h v lanes).apart j at lane (record { number = number; state = Busy machine }) here o.there same)))),
            subst (StateTold h (v.calls.calls ++ (next_xid v.calls, row) ∷ []) lane.number) (sym is) (λ x op u. made-held h v number call new k r lane.number x op m2 (told x op u)),
          )
      other j lane here apart (Over answer) is g =
          let told : StateTold h v.calls.calls lane.number (Over answer) = subst (StateTold h v.calls.calls lane.number) is g.1 in
          (subst (StateAsks (v.calls.calls ++ (next_xid v.calls, row) ∷ []) lane.number) (sym is) tt, subst (StateTold h (v.calls.calls ++ (next_xid v.calls, row) ∷ []) lane.number) (sym is) told)
  leads-known h v new at number others machine (Send call) lanes r o (inr f) =
      subst (Known h) (sym f.is) (record {
        lanes = by f.next f.state f.leads still.kept told;
        kept = (did busy.x busy.op busy.under_way).kept;
        late = o.late;
        called = λ xid w waits. takes-spelled setup.cred xid w.bytes v.wsize (unmade_turn v) (no-room xid v) (turn_at v) (Err f.fault) machine v.shelf f.next f.after f.left f.takes
            (o.called xid w waits);
      })
    where
      still : Asking E (E machine) others f.next f.after
      still = asking.takes machine v.wsize (turn_at v) (unmade_turn v) (Err f.fault) v.shelf f.next f.after f.left others o.counts.0 f.takes

      busy : IsBusy h number (length h)
      busy = (lanes-under-way h v lanes).busy at (record { number = number; state = Busy machine }) o.there

      did : (x : ℕ) (op : Op) (u : UnderWay h number x (length h) op) → DidFrom h others (o.told x op u).place x op f.next f.after f.left
      did x op u =
          let held = o.told x op u in
          laws.takes h held.place x op machine call v.wsize (turn_at v) (unmade_turn v) (Err f.fault) v.shelf f.next f.after f.left others o.kept u.before held.within
          (o.late x number u.line op u.began) o.counts.0 held.story o.asked (λ reply is. absurd cc) f.takes

      told : (x : ℕ) (op : Op) → UnderWay h number x (length h) op → ThenOf (IsHeld h v.calls.calls number x op) (O h x op) f.next f.after
      told x op u =
          let held = o.told x op u in
          then-held h v.calls.calls number x op others held.place f.next f.after o.calls held.sent (did x op u).then_

      by : (next : Step) (state : State) → IsRefused f.after next state → Keeps E (E machine) others next f.after
          → ((x : ℕ) (op : Op) → UnderWay h number x (length h) op → ThenOf (IsHeld h v.calls.calls number x op) (O h x op) next f.after)
          → AllGood h (with_state v at number state f.left)
      by (Send again) state is k t = absurd is
      by Wait state is k t = good-set h v at number machine state f.left o.there o.rest
          (subst (λ (s : State). LaneGood h v.calls.calls (record { number = number; state = s })) (sym is) (
            λ xid w waits same.
                let e = o.own xid w waits same in
                let some = calls-some xid v.calls.calls w waits in
                let all = ap (λ (n : ℕ). calls_for n v.calls.calls) same ∙ o.calls in
                record { made = e.made; on = k (omega (arith, some, all)) e.made.asked e.on },
            t,
          ))
      by (Done answer) state is k t = good-set h v at number machine state f.left o.there o.rest
          (subst (λ (s : State). LaneGood h v.calls.calls (record { number = number; state = s })) (sym is) (tt, t))
  leads-known h v new at number others machine Wait lanes r o is = subst (Known h) (sym is) (record {
    lanes = by-place (LaneGood h v.calls.calls) v.lanes at (record { number = number; state = Busy machine }) o.there (o.own, o.told) o.rest;
    kept = o.kept;
    late = o.late;
    called = o.called;
  })
  leads-known h v new at number others machine (Done answer) lanes r o is =
      subst (Known h) (sym is) (record { lanes = good-set h v at number machine (Over answer) v.shelf o.there o.rest (tt, o.told); kept = o.kept; late = o.late; called = o.called })

  -- what it waits for after the step, as long as it goes on
  going-own : (next : Step) (calls : List (ℕ × Waiting Purpose)) (number others : ℕ) (machine after : Machine) → calls_for number calls ≡ others
      → StateAsks calls number (Busy machine) → Keeps E (E machine) others next after → Going next (StateAsks calls number (Busy after))
  going-own (Send call) calls number others machine after count own k = λ xid w waits same.
      let e = own xid w waits same in
      let some = calls-some xid calls w waits in
      let all = ap (λ (n : ℕ). calls_for n calls) same ∙ count in
      record { made = e.made; on = k (omega (arith, some, all)) e.made.asked e.on }
  going-own Wait calls number others machine after count own k = λ xid w waits same.
      let e = own xid w waits same in
      let some = calls-some xid calls w waits in
      let all = ap (λ (n : ℕ). calls_for n calls) same ∙ count in
      record { made = e.made; on = k (omega (arith, some, all)) e.made.asked e.on }
  going-own (Done answer) calls number others machine after count own k = tt

  stirs-known : (h : List Entry) (old new : View) (at : ℕ) → Stirs old at new → Bond h old → Known h new
  stirs-known h old new at t g =
      let right = g.counts.right at (record { number = t.number; state = Busy t.machine }) t.there in
      let e = asking.resumes t.machine old.wsize (turn_at old) old.shelf t.next t.after t.shelf right t.goes t.resumes in
      let apart = (lanes-under-way h old g.lanes).apart in
      let count : calls_for t.number old.calls.calls ≡ in_flight t.machine =
      g.counts.counted t.number ∙ known-only t.number old.lanes at (Busy t.machine) t.there (λ k l is same. apart k at l (record { number = t.number; state = Busy t.machine }) is t.there same) in
      let busy = (lanes-under-way h old g.lanes).busy at (record { number = t.number; state = Busy t.machine }) t.there in
      let held : (x : ℕ) (op : Op) → UnderWay h t.number x (length h) op → IsHeld h old.calls.calls t.number x op t.machine =
      (g.known.lanes at (record { number = t.number; state = Busy t.machine }) t.there).1 in
      let did : (x : ℕ) (op : Op) (u : UnderWay h t.number x (length h) op) → Did K (B h (held x op u).place x op) (O h x op) h t.next t.after t.shelf = λ x op u.
      laws.resumes h (held x op u).place x op t.machine old.wsize (turn_at old) old.shelf t.next t.after t.shelf g.known.kept
      (let low = u.before in record { before = h; after = []; is = sym (append-nil h); late = omega (arith, low); view = old; passed = g.passed; same = refl; good = gives h old g.around g.on })
      (record { at = at; number = t.number; there = t.there; under_way = u }) u.before (held x op u).within (g.known.late x t.number u.line op u.began) (held x op u).story t.resumes in
      leads-known h (with_state old at t.number (Busy t.after) t.shelf) new at t.number (in_flight t.machine) t.after t.next
      ((lanes-stay h).sets old at t.number (Busy t.machine) (Busy t.after) t.shelf t.there g.lanes)
      (same-rows setup h old (with_state old at t.number (Busy t.after) t.shelf) refl g.rows)
      (record {
        there = at-set old.lanes at (record { number = t.number; state = Busy t.machine }) (record { number = t.number; state = Busy t.after }) t.there;
        rest = λ k lane is other. g.known.lanes k lane (sym (set-other old.lanes at k (record { number = t.number; state = Busy t.after }) other) ∙ is);
        calls = count;
        counts = counts-calls.resume old.wsize t.machine (turn_at old) old.shelf t.next t.after t.shelf t.resumes right;
        asked = e.asked;
        own = going-own t.next old.calls.calls t.number (in_flight t.machine) t.machine t.after count
            (g.known.lanes at (record { number = t.number; state = Busy t.machine }) t.there).0 e.kept;
        told = λ x op u. then-same h old.calls.calls t.number x op (held x op u).place t.next t.after (held x op u).within (held x op u).sent (did x op u).then_;
        late = g.known.late;
        kept = (did busy.x busy.op busy.under_way).kept;
        called = λ xid w waits.
            resumes-spelled setup.cred xid w.bytes old.wsize (turn_at old) (λ room same. waits-before setup h old g.rows xid w waits same) t.machine old.shelf t.next t.after t.shelf t.resumes
            (g.known.called xid w waits);
        sent = resumes-sent (turn_at old) old.wsize t.machine old.shelf t.next t.after t.shelf (next-unused setup h old g.rows g.flown) t.resumes;
      }) t.leads

  moves-bond : (h : List Entry) (old new : View) → Moves old new → Q h new → Bond h old → Bond h new
  moves-bond h _ _ (moves_none old new is) on g = subst (Bond h) (sym is) g
  moves-bond h _ _ (moves_more old mid new at k room t first) on g =
      let before = moves-bond h old mid k (back.stirs h mid new at t on) g in
      let viewed = as-viewed h mid before.rows before.lanes before.counts in record {
        rows = stirs-stay (Rows setup h) (rows-stay setup h) mid new at t before.rows;
        lanes = stirs-stay (LanesKnown h) (lanes-stay h) mid new at t before.lanes;
        counts = stirs-count mid new at t before.counts;
        flown = (keeps-flown m setup).stirs h mid new at viewed t before.flown;
        passed = passing.stirs new mid at before.passed t;
        around = keeps.stirs h mid new at viewed before.passed t before.around;
        on = on;
        known = stirs-known h mid new at t before;
      }

  -- ---- one entry more

  after-grows : (h : List Entry) (e : Entry) (calls : List (ℕ × Waiting Purpose)) (number place : ℕ) → place ≤ length h → AllAfter h calls number place → AllAfter (h ++ e ∷ []) calls number place
  after-grows h e calls number place within sent xid w at same i bytes sent_at has = by (At-cases h e i (Sent bytes) sent_at)
    where
      by : At h i (Sent bytes) ⊎ ((i ≡ length h) × (e ≡ Sent bytes)) → place ≤ i
      by (inl there) = sent xid w at same i bytes there has
      by (inr now) = let is = now.0 in omega (arith, within, is)

  held-grows : (h : List Entry) (e : Entry) (calls : List (ℕ × Waiting Purpose)) (number x : ℕ) (op : Op) (machine : Machine) → IsHeld h calls number x op machine
      → IsHeld (h ++ e ∷ []) calls number x op machine
  held-grows h e calls number x op machine held =
      let within = held.within in
      let more = length_last h e in
      record {
        place = held.place;
        within = omega (arith, within, more);
        story = laws.grows h e held.place x op machine held.story;
        sent = after-grows h e calls number held.place held.within held.sent;
      }

  told-grows : (h : List Entry) (e : Entry) (calls : List (ℕ × Waiting Purpose)) (number : ℕ) (state : State) → ((line : ℕ) (op : Op) → e ≡ Began number line op → ⊥) → IsQuiet state e
      → StateTold h calls number state → StateTold (h ++ e ∷ []) calls number state
  told-grows h e calls number (Busy machine) other quiet t = λ x op u. held-grows h e calls number x op machine (t x op (under-back h e number x op other u))
  told-grows h e calls number (Over answer) other quiet t = λ x op u. laws.stays h e x op answer quiet (t x op (under-back h e number x op other u))

  lane-grows : (h : List Entry) (e : Entry) (calls : List (ℕ × Waiting Purpose)) (lane : Lane) → ((line : ℕ) (op : Op) → e ≡ Began lane.number line op → ⊥) → IsQuiet lane.state e
      → LaneGood h calls lane → LaneGood (h ++ e ∷ []) calls lane
  lane-grows h e calls lane other quiet g = (g.0, told-grows h e calls lane.number lane.state other quiet g.1)

  abbrev pub AllQuiet : View → Entry → Type 0
  AllQuiet v e = (k : ℕ) (lane : Lane) → slice_get v.lanes k ≡ Some lane → IsQuiet lane.state e

  all-quiet : (v : View) (e : Entry) → (IsDelivered e → ⊥) → AllQuiet v e
  all-quiet v e other k lane there = quiet-entry e other lane.state

  -- when a record is received each answer was noted
  noted-quiet : (old : View) (rec : List ℕ) (new : View) → HearsRecord old rec new → AllQuiet old (Delivered rec)
  noted-quiet old rec new t k lane there = by lane.state refl
    where
      by : (state : State) → lane.state ≡ state → IsQuiet state (Delivered rec)
      by (Busy machine) is = tt
      by (Over answer) is = λ d. t.may.noted k lane.number answer (there ∙ ap (λ (s : State). Some (record { number = lane.number; state = s })) is)

  all-grows : (h : List Entry) (e : Entry) (v : View) → ((lane line : ℕ) (op : Op) → e ≡ Began lane line op → ⊥) → AllQuiet v e → AllGood h v → AllGood (h ++ e ∷ []) v
  all-grows h e v other quiet g k lane there = lane-grows h e v.calls.calls lane (other lane.number) (quiet k lane there) (g k lane there)

  -- the reading at an earlier place stays
  late-grow : (h : List Entry) (e : Entry) (x now : ℕ) → x ≤ length h → IsLate h x now → IsLate (h ++ e ∷ []) x now
  late-grow h e x now within l = subst (λ k. time_next k ≤ now) (sym (take-early h (e ∷ []) x within)) l

  late-grows : (h : List Entry) (e : Entry) (v : View) → ((lane line : ℕ) (op : Op) → e ≡ Began lane line op → ⊥) → AllLate h v → AllLate (h ++ e ∷ []) v
  late-grows h e v other l x lane line op at = by (At-cases h e x (Began lane line op) at)
    where
      by : At h x (Began lane line op) ⊎ ((x ≡ length h) × (e ≡ Began lane line op)) → IsLate (h ++ e ∷ []) x v.clock
      by (inl there) = let below = At-below h x (Began lane line op) there in late-grow h e x v.clock (omega (arith, below)) (l x lane line op there)
      by (inr now) = absurd (other lane line op now.1)

  -- the operation that begins does so at a reading that counts
  late-begins : (h : List Entry) (old : View) (lane line : ℕ) (op : Op) (x number other : ℕ) (o : Op) → At (h ++ Began lane line op ∷ []) x (Began number other o) → AllLate h old
      → time_next h ≤ max old.clock (last_reading 0 h) → IsLate (h ++ Began lane line op ∷ []) x (max old.clock (last_reading 0 h))
  late-begins h old lane line op x number other o at l next_is = by (At-cases h (Began lane line op) x (Began number other o) at)
    where
      by : At h x (Began number other o) ⊎ ((x ≡ length h) × (Began lane line op ≡ Began number other o)) → IsLate (h ++ Began lane line op ∷ []) x (max old.clock (last_reading 0 h))
      by (inl there) =
          let below = At-below h x (Began number other o) there in
          let was = l x number other o there in
          late-grow h (Began lane line op) x (max old.clock (last_reading 0 h)) (omega (arith, below)) (omega (arith, was))
      by (inr now) =
          late-grow h (Began lane line op) x (max old.clock (last_reading 0 h)) (let is = now.0 in omega (arith, is))
          (subst (λ n. time_next (take n h) ≤ max old.clock (last_reading 0 h)) (sym now.0)
          (subst (λ k. time_next k ≤ max old.clock (last_reading 0 h)) (sym (take-whole h)) next_is))

  known-grows : (h : List Entry) (e : Entry) (v : View) → ((lane line : ℕ) (op : Op) → e ≡ Began lane line op → ⊥) → AllQuiet v e → Known h v → Known (h ++ e ∷ []) v
  known-grows h e v other quiet g = record { lanes = all-grows h e v other quiet g.lanes; kept = laws.still h e v.shelf g.kept; late = late-grows h e v other g.late; called = g.called }

  -- ---- an operation begins

  began-is : (a b c d : ℕ) (o p : Op) → Began a b o ≡ Began c d p → a ≡ c
  began-is a b c d o p e = cc

  began-op : (a b c d : ℕ) (o p : Op) → Began a b o ≡ Began c d p → p ≡ o
  began-op a b c d o p e = cc

  -- the operation that is under way in the lane is the one that begins
  now-told : (h : List Entry) (v : View) (lane line : ℕ) (op : Op) (P : ℕ → Op → Type 0) → LanesKnown h v → IsOther lane (numbers_of v.lanes) → P (length h) op
      → (x : ℕ) (o : Op) → UnderWay (h ++ Began lane line op ∷ []) lane x (length (h ++ Began lane line op ∷ [])) o → P x o
  now-told h v lane line op P lanes idle p x o u = by (At-cases h (Began lane line op) x (Began lane u.line o) u.began)
    where
      by : At h x (Began lane u.line o) ⊎ ((x ≡ length h) × (Began lane line op ≡ Began lane u.line o)) → P x o
      by (inr now) = subst (λ (y : ℕ). P y o) (sym now.0) (subst (λ (q : Op). P (length h) q) (sym (began-op lane line lane u.line op o now.1)) p)
      by (inl there) = absurd ((lanes-under-way h v lanes).idle lane idle (record {
        x = x;
        op = o;
        under_way = record {
          line = u.line;
          began = there;
          before = At-below h x (Began lane u.line o) there;
          unanswered = λ a. u.unanswered (record {
            lane = a.lane;
            op = a.op;
            y = a.y;
            answer = a.answer;
            ended = ended-grow h (Began lane line op) a.lane x a.op a.y a.answer a.ended;
            before = let more = length_last h (Began lane line op) in let low = a.before in omega (arith, more, low);
          });
        };
      }))

  pushed-good : (h : List Entry) (lanes : List Lane) (calls : List (ℕ × Waiting Purpose)) (own : Lane) → ((k : ℕ) (lane : Lane) → slice_get lanes k ≡ Some lane → LaneGood h calls lane)
      → LaneGood h calls own → (k : ℕ) (lane : Lane) → slice_get (lanes ++ own ∷ []) k ≡ Some lane → LaneGood h calls lane
  pushed-good h lanes calls own old good k lane there = by (get-push lanes own k lane there)
    where
      by : (slice_get lanes k ≡ Some lane) ⊎ ((k ≡ length lanes) × (lane ≡ own)) → LaneGood h calls lane
      by (inl here) = old k lane here
      by (inr new) = subst (LaneGood h calls) (sym new.1) good

  begins-known : (b : Bool) (h : List Entry) (old new : View) (lane line : ℕ) (op : Op) → old.lost ≡ b → StepsTo (machine_of m) h old (Began lane line op) new → Reaches (machine_of m) setup h old
      → BeginsIf b old lane (machine_of m lane op) (last_reading 0 h) new → Q (h ++ Began lane line op ∷ []) new → Q h old → Known h old → Known (h ++ Began lane line op ∷ []) new
  begins-known true h old new lane line op was t r is on on_old g = subst (Known (h ++ Began lane line op ∷ [])) (sym is) (record {
    lanes = pushed-good (h ++ Began lane line op ∷ []) old.lanes old.calls.calls (record { number = lane; state = Over (Refused faults.Lost) })
        (λ k l there. lane-grows h (Began lane line op) old.calls.calls l
        (λ n o e. idle-numbers lane (numbers_of old.lanes) t.idle.other k (to-map number_of old.lanes k l there ∙ ap Some (sym (began-is lane line l.number n op o e))))
        (quiet-entry (Began lane line op) (λ d. let is = d.1 in cc) l.state) (g.lanes k l there))
        (tt, λ x o u. laws.lost (h ++ Began lane line op ∷ []) x o (lost-grow h (Began lane line op) (reached-shown (machine_of m) setup h old r was)));
    kept = laws.still h (Began lane line op) old.shelf g.kept;
    late = λ x number other o at. late-begins h old lane line op x number other o at g.late (time-begins (machine_of m) setup h old r);
    called = g.called;
  })
  begins-known false h old new lane line op was t r b on on_old g = (moves-bond later b.first new b.rest on (record {
    rows = rows;
    lanes = lanes;
    counts = counts;
    flown = (keeps-flown m setup).starts h old b.first lane op (last_reading 0 h) viewed t.idle b.own flown-old;
    passed = passing.starts b.first old h lane line op r was refl t.idle b.own;
    around = keeps.starts h old b.first lane line op (last_reading 0 h) r was viewed t.idle t.fits b.own (keeps.at_rest h old r was);
    on = moved-back later b.first new b.rest on;
    known = first;
  })).known
    where
      later : List Entry
      later = h ++ Began lane line op ∷ []

      counts-old : IsKnown old
      counts-old = reached-count (machine_of m) (begins-unbegun m) setup h old r was

      rows-old : Rows setup h old
      rows-old = reached-rows (machine_of m) setup h old r

      viewed : Viewed setup h old
      viewed = as-viewed h old rows-old (reached-lanes (machine_of m) setup h old r) counts-old

      flown-old : Flown old
      flown-old = reached-kept (machine_of m) (begins-unbegun m) setup Flown (keeps-flown m setup) h old r was

      rows : Rows setup later b.first
      rows = starts-stay (Rows setup later) (rows-stay setup later) (counted old (last_reading 0 h)) b.first lane (machine_of m lane op)
          (λ state shelf. same-rows setup later old (record (counted old (last_reading 0 h)) { lanes = old.lanes ++ record { number = lane; state = state } ∷ []; shelf = shelf }) refl
          (silent-grow setup h (Began lane line op) old (record { sent = λ bytes is. cc; came = λ bytes is. cc }) (reached-rows (machine_of m) setup h old r))) b.own

      pushed : (state : State) (shelf : Shelf) → LanesKnown later (record (counted old (last_reading 0 h)) { lanes = old.lanes ++ record { number = lane; state = state } ∷ []; shelf = shelf })
      pushed state shelf = lanes-begin h old lane line op (reached-lanes (machine_of m) setup h old r) t.idle.other state

      lanes : LanesKnown later b.first
      lanes = starts-stay (LanesKnown later) (lanes-stay later) (counted old (last_reading 0 h)) b.first lane (machine_of m lane op) pushed b.own

      counts : IsKnown b.first
      counts = starts-count (counted old (last_reading 0 h)) b.first lane (machine_of m lane op) (begins-unbegun m lane op) b.own (record { counted = counts-old.counted; right = counts-old.right })

      none : calls_for lane old.calls.calls ≡ 0
      none = counts-old.counted lane ∙ known-none lane old.lanes (λ k l there same. idle-numbers lane (numbers_of old.lanes) t.idle.other k (to-map number_of old.lanes k l there ∙ ap Some same))

      own-calls : (next : Step) (after : Machine) → Going next (StateAsks old.calls.calls lane (Busy after))
      own-calls (Send call) after = λ xid w waits same. absurd (none-idle old lane xid w t.idle.other counts-old.counted waits same)
      own-calls Wait after = λ xid w waits same. absurd (none-idle old lane xid w t.idle.other counts-old.counted waits same)
      own-calls (Done answer) after = tt

      did : Did K (B later (length h) (length h) op) (O later (length h) op) later b.own.next b.own.after b.own.shelf
      did =
          laws.starts h lane line op old.wsize (turn_at (counted old (last_reading 0 h))) old.shelf b.own.next b.own.after b.own.shelf (begin h old lane r was t.idle.other)
          (record { before = h; after = Began lane line op ∷ []; is = refl; late = omega arith; view = old; passed = passing.rests old r was; same = refl; good = gives h old (keeps.at_rest h old r was) on_old }) refl
          (laws.still h (Began lane line op) old.shelf g.kept) (time-begins (machine_of m) setup h old r) b.own.starts

      first : Known later b.first
      first = leads-known later (record (counted old (last_reading 0 h)) { lanes = old.lanes ++ record { number = lane; state = Busy b.own.after } ∷ []; shelf = b.own.shelf }) b.first
          (length old.lanes) lane 0 b.own.after b.own.next (pushed (Busy b.own.after) b.own.shelf)
          (same-rows setup later old (record (counted old (last_reading 0 h)) { lanes = old.lanes ++ record { number = lane; state = Busy b.own.after } ∷ []; shelf = b.own.shelf }) refl
          (silent-grow setup h (Began lane line op) old (record { sent = λ bytes is. cc; came = λ bytes is. cc }) (reached-rows (machine_of m) setup h old r)))
          (record {
            there = at-push old.lanes (record { number = lane; state = Busy b.own.after });
            rest = λ k l there other. before k l (get-push old.lanes (record { number = lane; state = Busy b.own.after }) k l there) other;
            calls = none;
            counts = counts-calls.start old.wsize (machine_of m lane op) (turn_at (counted old (last_reading 0 h))) old.shelf b.own.next b.own.after b.own.shelf b.own.starts (begins-unbegun m lane op);
            asked = asking.starts (machine_of m lane op) old.wsize (turn_at (counted old (last_reading 0 h))) old.shelf b.own.next b.own.after b.own.shelf b.own.starts;
            own = own-calls b.own.next b.own.after;
            told = λ x o u. now-told h old lane line op (λ y q. ThenOf (IsHeld later old.calls.calls lane y q) (O later y q) b.own.next b.own.after)
                (reached-lanes (machine_of m) setup h old r) t.idle.other
                (then-same later old.calls.calls lane (length h) op (length h) b.own.next b.own.after (let more = length_last h (Began lane line op) in omega (arith, more))
                (λ xid w waits same. absurd (none-idle old lane xid w t.idle.other counts-old.counted waits same)) did.then_) x o u;
            late = λ x number other o at. late-begins h old lane line op x number other o at g.late (time-begins (machine_of m) setup h old r);
            kept = did.kept;
            called = λ xid w waits.
                starts-spelled setup.cred xid w.bytes old.wsize (turn_at (counted old (last_reading 0 h))) (λ room same. waits-before setup h old rows-old xid w waits same)
                (machine_of m lane op) old.shelf b.own.next b.own.after b.own.shelf b.own.starts (g.called xid w waits);
            sent = starts-sent (turn_at (counted old (last_reading 0 h))) old.wsize (machine_of m lane op) old.shelf b.own.next b.own.after b.own.shelf
                (next-unused setup h old rows-old flown-old) b.own.starts;
          }) b.own.leads
        where
          before : (k : ℕ) (l : Lane) → (slice_get old.lanes k ≡ Some l) ⊎ ((k ≡ length old.lanes) × (l ≡ record { number = lane; state = Busy b.own.after })) → k ≢ length old.lanes
              → LaneGood later old.calls.calls l
          before k l (inl here) other = lane-grows h (Began lane line op) old.calls.calls l
              (λ n o e. idle-numbers lane (numbers_of old.lanes) t.idle.other k (to-map number_of old.lanes k l here ∙ ap Some (sym (began-is lane line l.number n op o e))))
              (quiet-entry (Began lane line op) (λ d. let is = d.1 in cc) l.state) (g.lanes k l here)
          before k l (inr new) other = absurd (other new.0)

  -- ---- a record comes

  -- a call that waits no more is no other lane's
  less-asks : (h : List Entry) (old : View) (xid number : ℕ) (state : State) → Rows setup h old → StateAsks old.calls.calls number state → StateAsks (without xid old.calls.calls) number state
  less-asks h old xid number (Over answer) r e = tt
  less-asks h old xid number (Busy machine) r e = λ y w waits same. by y w waits same (nat_eq y xid) refl
    where
      by : (y : ℕ) (w : Waiting Purpose) → waiting_at y (without xid old.calls.calls) ≡ Some w → w.purpose.lane ≡ number → (b : Bool) → nat_eq y xid ≡ b → IsAsked y w machine
      by y w waits same false d = e y w (sym (others_taken y xid old.calls.calls d) ∙ waits) same
      by y w waits same true d = absurd (
          let none : waiting_at xid (without xid old.calls.calls) ≡ None = gone old.calls.cred old.calls.first_xid (next_xid old.calls) xid old.calls.calls r.sound.calls.each in
          let there : waiting_at xid (without xid old.calls.calls) ≡ Some w = ap (λ (n : ℕ). waiting_at n (without xid old.calls.calls)) (sym (eqb-true y xid d)) ∙ waits in
          let no_way : None ≡ Some w = sym none ∙ there in cc)

  -- the record answers a call that was first sent at a place
  answers-call : (h : List Entry) (rec : List ℕ) (xid from : ℕ) (asked : Call) (bytes : List ℕ) → IsOutstanding h xid bytes from → SpellsCall xid asked bytes → HasXid rec xid
      → IsHeard (h ++ Delivered rec ∷ []) from (length (h ++ Delivered rec ∷ [])) asked xid rec
  answers-call h rec xid from asked bytes o spells named =
      let within : from < length h = At-below h from (Sent bytes) o.sent.sent in
      let more = length_last h (Delivered rec) in
      record {
        sent_at = from;
        record_sent = bytes;
        got_at = length h;
        sent = FirstSent-grow h (Delivered rec ∷ []) from xid bytes o.sent;
        spells = spells;
        got = record {
          got = At-last h (Delivered rec);
          under = named;
          waits = record {
            at = from;
            bytes = bytes;
            sent = At-grow h (Delivered rec ∷ []) from (Sent bytes) o.sent.sent;
            under = o.sent.under;
            before = within;
            unanswered = λ j b at has after before. o.unheard j b (At-back h (Delivered rec ∷ []) j (Delivered b) at before) has after;
          };
        };
        after = omega arith;
        later = within;
        before = omega (arith, more);
      }

  came-not : (bytes : List ℕ) (lane line : ℕ) (op : Op) → Delivered bytes ≡ Began lane line op → ⊥
  came-not bytes lane line op e = cc

  less-after : (h : List Entry) (old : View) (xid number place : ℕ) → Rows setup h old → AllAfter h old.calls.calls number place → AllAfter h (without xid old.calls.calls) number place
  less-after h old xid number place r sent y w waits same = by (nat_eq y xid) refl
    where
      by : (b : Bool) → nat_eq y xid ≡ b → IsAfter h y place
      by false d = sent y w (sym (others_taken y xid old.calls.calls d) ∙ waits) same
      by true d = absurd (
          let none : waiting_at xid (without xid old.calls.calls) ≡ None = gone old.calls.cred old.calls.first_xid (next_xid old.calls) xid old.calls.calls r.sound.calls.each in
          let there : waiting_at xid (without xid old.calls.calls) ≡ Some w = ap (λ (n : ℕ). waiting_at n (without xid old.calls.calls)) (sym (eqb-true y xid d)) ∙ waits in
          let no_way : None ≡ Some w = sym none ∙ there in cc)

  less-told : (h : List Entry) (old : View) (xid number : ℕ) (state : State) → Rows setup h old → StateTold h old.calls.calls number state
      → StateTold h (without xid old.calls.calls) number state
  less-told h old xid number (Busy machine) r t = λ x op u.
      let held = t x op u in
      record { place = held.place; within = held.within; story = held.story; sent = less-after h old xid number held.place r held.sent }
  less-told h old xid number (Over answer) r t = t

  taken-lane : (h : List Entry) (old : View) (rec : List ℕ) (xid : ℕ) (lane : Lane) → Rows setup h old → IsQuiet lane.state (Delivered rec) → LaneGood h old.calls.calls lane
      → LaneGood (h ++ Delivered rec ∷ []) (without xid old.calls.calls) lane
  taken-lane h old rec xid lane r quiet g =
      lane-grows h (Delivered rec) (without xid old.calls.calls) lane (λ line op e. came-not rec lane.number line op e) quiet
      (less-asks h old xid lane.number lane.state r g.0, less-told h old xid lane.number lane.state r g.1)

  -- The reply is one to the call, and where the call was first sent.
  record ToldFrom (h : List Entry) (rec : List ℕ) (x place : ℕ) (asked : Call) (xid now : ℕ) (reply : Reply) : Type 0 where
    told : ToldLast (h ++ Delivered rec ∷ []) x place asked now reply
    bytes : List ℕ
    sent_at : At h told.since.told.since (Sent bytes)
    under : HasXid bytes xid

  -- a reply that is taken is one to the call, which was first sent after its time, and since its operation began
  told-of : (h : List Entry) (old : View) (rec : List ℕ) (new : View) (xid : ℕ) (call : Waiting Purpose) (t : HearsRecord old rec new) → Reaches (machine_of m) setup h old → old.lost ≡ false
      → xid_at rec ≡ Some xid → waiting_at xid old.calls.calls ≡ Some call → (machine : Machine) (e : IsAsked xid call machine)
      → (x line : ℕ) (op : Op) → At h x (Began call.purpose.lane line op)
      → (place : ℕ) → IsAfter h xid place → (reply : Reply) → said_of call.purpose.proc rec ≡ Ok reply
      → ToldFrom h rec x place e.made.asked xid call.purpose.sent.now reply
  told-of h old rec new xid call t r found named waits machine e x line op began place late reply is = by ((reached-rows (machine_of m) setup h old r).rows xid call waits).tried
    where
      later : List Entry
      later = h ++ Delivered rec ∷ []

      since-began : (from : ℕ) → IsOutstanding h xid call.bytes from → x < from
      since-began from o = reached-since (machine_of m) (begins-unbegun m) setup h old r found xid call waits x line op began from call.bytes o.sent.sent o.sent.under

      timed : (from : ℕ) (o : IsOutstanding h xid call.bytes from) → MadeAfter h xid call.purpose.sent.now → HadShown later from call.purpose.sent.now
      timed from o (inl none) = inl (
        none,
        record {
          x = x;
          lane = call.purpose.lane;
          line = line;
          op = op;
          began = At-grow h (Delivered rec ∷ []) x (Began call.purpose.lane line op) began;
          before = since-began from o;
        },
      )
      timed from o (inr s) = inr (s.0, At-grow h (Delivered rec ∷ []) s.0 (Clock call.purpose.sent.now) s.1, s.2 from call.bytes o.sent.sent o.sent.under)

      said : SpellsOne xid e.made.asked rec reply
      said = subst (Says xid e.made.asked rec) is
          (says-of old rec t.result new xid call t.hears named waits xid named e.made.asked (record { nfs = e.made.nfs; is = sym e.made.proc }))

      told : (from : ℕ) → IsOutstanding h xid call.bytes from → ToldLast later x place e.made.asked call.purpose.sent.now reply
      told from o =
          let within : from < length h = At-below h from (Sent call.bytes) o.sent.sent in
          let more = length_last h (Delivered rec) in
          record {
            since = record {
              told = record {
                since = from;
                answered = record {
                  xid = xid;
                  bytes = rec;
                  heard = answers-call h rec xid from e.made.asked call.bytes o e.made.spells.spells named;
                  spells = said.is;
                  only = said.only;
                };
                timed = timed from o ((reached-timed (machine_of m) setup h old r).1 xid call waits);
              };
              later = since-began from o;
            };
            later = late from call.bytes o.sent.sent o.sent.under;
            ends = record {
              last = record {
                at = length h;
                bytes = rec;
                xid = xid;
                sent_at = from;
                record_sent = call.bytes;
                got = At-last h (Delivered rec);
                before = omega (arith, more);
                last = λ j b there lt. omega (arith, more, lt);
                under = named;
                sent = FirstSent-grow h (Delivered rec ∷ []) from xid call.bytes o.sent;
                spells = e.made.spells.spells;
                asked = within;
              };
              within = since-began from o;
              waits = record {
                at = from;
                bytes = call.bytes;
                sent = At-grow h (Delivered rec ∷ []) from (Sent call.bytes) o.sent.sent;
                under = o.sent.under;
                before = within;
                unanswered = λ j b at has after before. o.unheard j b (At-back h (Delivered rec ∷ []) j (Delivered b) at before) has after;
              };
              spells = said.is;
            };
            only = said.only;
          }

      from-there : (from : ℕ) → IsOutstanding h xid call.bytes from → ToldFrom h rec x place e.made.asked xid call.purpose.sent.now reply
      from-there from o = record { told = told from o; bytes = call.bytes; sent_at = o.sent.sent; under = o.sent.under }

      by : Tried h xid call → ToldFrom h rec x place e.made.asked xid call.purpose.sent.now reply
      by (unsent nothing u) = absurd (let some = was-sent xid old.calls.calls call t.may.sent waits in omega (arith, some, nothing))
      by (runs from running o rest) = from-there from o
      by (ended from idle o rest) = from-there from o

  hears-bond : (h : List Entry) (old : View) (rec : List ℕ) (new : View) (xid : ℕ) (call : Waiting Purpose) (at : ℕ) (first : View) → HearsRecord old rec new
      → Reaches (machine_of m) setup h old → old.lost ≡ false → xid_at rec ≡ Some xid → waiting_at xid old.calls.calls ≡ Some call → position (is_busy call.purpose.lane) old.lanes ≡ Some at
      → TakesAt (taken_one old xid) at call.purpose.sent (said_of call.purpose.proc rec) first → Q (h ++ Delivered rec ∷ []) first → Q h old → Known h old
      → Bond (h ++ Delivered rec ∷ []) first
  hears-bond h old rec new xid call at first t r found named waits there o on on_old g = record {
    flown = (keeps-flown m setup).takes h old first rec xid call at viewed waits there o flown;
    passed = passing.takes first old h rec xid at call r found refl named waits there o;
    around = keeps.takes h old first rec xid call at r found viewed new t named waits there o around-old;
    on = on;
    rows = steps-stay (Rows setup later) (rows-stay setup later) (taken_one old xid) first at o.number o.machine o.after o.shelf o.next o.there o.leads rows;
    lanes = steps-stay (LanesKnown later) (lanes-stay later) (taken_one old xid) first at o.number o.machine o.after o.shelf o.next o.there o.leads lanes;
    counts = hears-count old first rec xid call at waits there apart o counts;
    known = leads-known later (with_state (taken_one old xid) at o.number (Busy o.after) o.shelf) first at o.number (in_flight o.machine - 1) o.after o.next
        ((lanes-stay later).sets (taken_one old xid) at o.number (Busy o.machine) (Busy o.after) o.shelf o.there lanes)
        (same-rows setup later (taken_one old xid) (with_state (taken_one old xid) at o.number (Busy o.after) o.shelf) refl rows)
        (record {
          there = at-set old.lanes at (record { number = o.number; state = Busy o.machine }) (record { number = o.number; state = Busy o.after }) o.there;
          rest = λ k lane here other.
              let there = sym (set-other old.lanes at k (record { number = o.number; state = Busy o.after }) other) ∙ here in
              taken-lane h old rec xid lane rows-old (noted-quiet old rec new t k lane there) (g.lanes k lane there);
          calls = less;
          counts = counts-calls.take old.wsize o.machine call.purpose.sent (turn_at (taken_one old xid)) (said_of call.purpose.proc rec) old.shelf o.next o.after o.shelf
              (in_flight o.machine - 1) o.takes (counts.right at (record { number = o.number; state = Busy o.machine }) o.there) before;
          asked = still.asked;
          own = going-own o.next (without xid old.calls.calls) o.number (in_flight o.machine - 1) o.machine o.after less
              (less-asks h old xid o.number (Busy o.machine) rows-old own.0) still.kept;
          told = λ x op u.
              let was = under-back h (Delivered rec) o.number x op (λ line q e. came-not rec o.number line q e) u in
              let held = own.1 x op was in
              then-held later (without xid old.calls.calls) o.number x op (in_flight o.machine - 1) held.place o.next o.after less
              (after-grows h (Delivered rec) (without xid old.calls.calls) o.number held.place held.within (less-after h old xid o.number held.place rows-old held.sent)) (did x op was).then_;
          late = late;
          kept = (did busy.x busy.op busy.under_way).kept;
          called = λ y w left.
              let old_one = less-called setup h old xid old.shelf.back rows-old g.called y w left in
              takes-spelled setup.cred y w.bytes old.wsize (turn_at (taken_one old xid)) (λ room same. waits-before setup later (taken_one old xid) rows y w left same) call.purpose.sent
              (said_of call.purpose.proc rec) o.machine old.shelf o.next o.after o.shelf o.takes old_one;
          sent = takes-sent (turn_at (taken_one old xid)) old.wsize o.machine call.purpose.sent (said_of call.purpose.proc rec) old.shelf o.next o.after o.shelf
              (next-unused setup h old rows-old flown) o.takes;
        }) o.leads;
  }
    where
      later : List Entry
      later = h ++ Delivered rec ∷ []

      rows-old : Rows setup h old
      rows-old = reached-rows (machine_of m) setup h old r

      rows : Rows setup later (taken_one old xid)
      rows = rows-grow setup h (Delivered rec) (taken_one old xid) (taken-quiet setup h old rec xid rows-old named) (not-sent rec) (taken-rows setup h old xid rows-old)

      lanes : LanesKnown later (taken_one old xid)
      lanes = quiet-facts h (Delivered rec) (numbers_of old.lanes) (λ number. refl) (reached-lanes (machine_of m) setup h old r)

      apart : (k j : ℕ) (l n : Lane) → slice_get old.lanes k ≡ Some l → slice_get old.lanes j ≡ Some n → l.number ≡ n.number → k ≡ j
      apart = (lanes-under-way h old (reached-lanes (machine_of m) setup h old r)).apart

      counts : IsKnown old
      counts = reached-count (machine_of m) (begins-unbegun m) setup h old r found

      viewed : Viewed setup h old
      viewed = as-viewed h old rows-old (reached-lanes (machine_of m) setup h old r) counts

      flown : Flown old
      flown = reached-kept (machine_of m) (begins-unbegun m) setup Flown (keeps-flown m setup) h old r found

      around-old : A h old
      around-old = keeps.at_rest h old r found

      is : o.number ≡ call.purpose.lane
      is = eqb-true o.number call.purpose.lane (at-position (is_busy call.purpose.lane) old.lanes at (record { number = o.number; state = Busy o.machine }) there o.there)

      own : LaneGood h old.calls.calls (record { number = o.number; state = Busy o.machine })
      own = g.lanes at (record { number = o.number; state = Busy o.machine }) o.there

      mine : IsAsked xid call o.machine
      mine = own.0 xid call waits (sym is)

      late : AllLate later old
      late = late-grows h (Delivered rec) old (λ lane line op e. came-not rec lane line op e) g.late

      busy : IsBusy h o.number (length h)
      busy = (lanes-under-way h old (reached-lanes (machine_of m) setup h old r)).busy at (record { number = o.number; state = Busy o.machine }) o.there

      count : calls_for o.number old.calls.calls ≡ in_flight o.machine
      count = counts.counted o.number ∙ known-only o.number old.lanes at (Busy o.machine) o.there
          (λ k l here same. apart k at l (record { number = o.number; state = Busy o.machine }) here o.there same)

      before : in_flight o.machine ≡ (in_flight o.machine - 1) + 1
      before =
          let some = calls-some xid old.calls.calls call waits in
          let all : calls_for call.purpose.lane old.calls.calls ≡ in_flight o.machine = ap (λ (n : ℕ). calls_for n old.calls.calls) (sym is) ∙ count in
          omega (arith, some, all)

      less : calls_for o.number (without xid old.calls.calls) ≡ in_flight o.machine - 1
      less =
          let fewer = calls-without o.number xid old.calls.calls call waits in
          let one : one_for o.number call ≡ 1 = ap (λ (n : ℕ). one_for n call) is ∙ ap (λ (b : Bool). where_ b 1) (eq-eqb call.purpose.lane call.purpose.lane refl) in
          let all = count in
          omega (arith, fewer, one, all)

      link : IsSentAs call.purpose.sent.xid mine.made.asked old.shelf.back
      link = called-sent setup.cred xid call call.purpose.sent.xid old.shelf.back mine.made
          (flown.sents xid call.purpose (ap (option_map (λ (w : Waiting Purpose). w.purpose)) waits)) (g.called xid call waits)

      did : (x : ℕ) (op : Op) (was : UnderWay h o.number x (length h) op) → DidFrom later (in_flight o.machine - 1) (own.1 x op was).place x op o.next o.after o.shelf
      did x op was =
          let held = own.1 x op was in
          let low = was.before in
          let more = length_last h (Delivered rec) in
          let within = held.within in
          let told_from : (reply : Reply) → said_of call.purpose.proc rec ≡ Ok reply → ToldFrom h rec x held.place mine.made.asked xid call.purpose.sent.now reply =
          told-of h old rec new xid call t r found named waits o.machine mine x was.line op (subst (λ (n : ℕ). At h x (Began n was.line op)) is was.began) held.place
          (held.sent xid call waits (sym is)) in
          laws.takes later held.place x op o.machine mine.made.asked old.wsize call.purpose.sent (turn_at (taken_one old xid)) (said_of call.purpose.proc rec) old.shelf o.next o.after
          o.shelf (in_flight o.machine - 1) (laws.still h (Delivered rec) old.shelf g.kept) (omega (arith, low, more)) (omega (arith, within, more))
          (late x o.number was.line op (At-grow h (Delivered rec ∷ []) x (Began o.number was.line op) was.began)) before
          (laws.grows h (Delivered rec) held.place x op o.machine held.story) mine.on
          (λ reply said. let from = told_from reply said in (
            record {
              told = from.told;
              link = link;
              passed = record { before = h; after = Delivered rec ∷ []; is = refl; late = omega (arith, low); view = old; passed = passing.rests old r found; same = refl; good = gives h old around-old on_old };
              soon = omega arith;
              xid = xid;
              waiting = call;
              waits = waits;
              sent_is = refl;
              bytes = from.bytes;
              sent_at = from.sent_at;
              under = from.under;
            },
            record { at = at; number = o.number; there = o.there; under_way = was },
          ))
          o.takes

      still : Asking E (E o.machine) (in_flight o.machine - 1) o.next o.after
      still = asking.takes o.machine old.wsize call.purpose.sent (turn_at (taken_one old xid)) (said_of call.purpose.proc rec) old.shelf o.next o.after o.shelf (in_flight o.machine - 1) before o.takes

  taken-known : (h : List Entry) (old : View) (rec : List ℕ) (xid : ℕ) → Rows setup h old → AllQuiet old (Delivered rec) → Known h old → Known (h ++ Delivered rec ∷ []) (taken_one old xid)
  taken-known h old rec xid r quiet g = record {
    lanes = λ k lane there. taken-lane h old rec xid lane r (quiet k lane there) (g.lanes k lane there);
    kept = laws.still h (Delivered rec) old.shelf g.kept;
    late = late-grows h (Delivered rec) old (λ lane line op e. came-not rec lane line op e) g.late;
    called = less-called setup h old xid old.shelf.back r g.called;
  }

  heard-known : (b : Bool) (h : List Entry) (old : View) (rec : List ℕ) (new : View) → old.lost ≡ b → HearsRecord old rec new → Reaches (machine_of m) setup h old → Heard old rec new
      → Q (h ++ Delivered rec ∷ []) new → Q h old → Known h old → Known (h ++ Delivered rec ∷ []) new
  heard-known b h old rec new was t r (dropped none is) on on_old g = subst (Known (h ++ Delivered rec ∷ [])) (sym is) (known-grows h (Delivered rec) old (λ lane line op e. came-not rec lane line op e) (noted-quiet old rec new t) g)
  heard-known true h old rec new was t r (replied xid call named waits f) on on_old g =
      let none : NoneBusy old = (comes-to-rest (machine_of m) setup h old r).over was in
      let first : f.first ≡ taken_one old xid = own-none (taken_one old xid) rec call.purpose f.first none f.own in
      let none-first : NoneBusy f.first = subst NoneBusy (sym first) none in
      let is : new ≡ taken_one old xid = none-moves f.first new f.rest none-first ∙ first in
      subst (Known (h ++ Delivered rec ∷ [])) (sym is) (taken-known h old rec xid (reached-rows (machine_of m) setup h old r) (noted-quiet old rec new t) g)
  heard-known false h old rec new was t r (replied xid call named waits f) on on_old g = by (position (is_busy call.purpose.lane) old.lanes) refl f.own
    where
      by : (o : Option ℕ) → position (is_busy call.purpose.lane) old.lanes ≡ o
          → MatchOption o (f.first ≡ taken_one old xid) (λ at. TakesAt (taken_one old xid) at call.purpose.sent (said_of call.purpose.proc rec) f.first)
          → Known (h ++ Delivered rec ∷ []) new
      by None none is = absurd (none-busy old xid call waits none (reached-count (machine_of m) (begins-unbegun m) setup h old r was).counted)
      by (Some at) there o = (moves-bond (h ++ Delivered rec ∷ []) f.first new f.rest on
          (hears-bond h old rec new xid call at f.first t r was named waits there o (moved-back (h ++ Delivered rec ∷ []) f.first new f.rest on) on_old g)).known

  -- ---- the other calls

  -- the same calls, as far as their records and purposes go
  waited-lane : (calls later : List (ℕ × Waiting Purpose)) (number : ℕ) (state : State) → ((xid : ℕ) (w : Waiting Purpose) → waiting_at xid later ≡ Some w → WaitedAs calls xid w)
      → StateAsks calls number state → StateAsks later number state
  waited-lane calls later number (Over answer) was e = tt
  waited-lane calls later number (Busy machine) was e = λ xid w waits same.
      let k = was xid w waits in
      let old = e xid k.was k.waited (ap (λ (p : Purpose). p.lane) (sym k.purpose) ∙ same) in
      record {
        made = record {
          asked = old.made.asked;
          spells = subst (SpellsCallBy setup.cred xid old.made.asked) (sym k.bytes) old.made.spells;
          nfs = old.made.nfs;
          proc = ap (λ (p : Purpose). p.proc) k.purpose ∙ old.made.proc;
        };
        on = old.on;
      }

  waited-told : (h : List Entry) (calls later : List (ℕ × Waiting Purpose)) (number : ℕ) (state : State) → ((xid : ℕ) (w : Waiting Purpose) → waiting_at xid later ≡ Some w → WaitedAs calls xid w)
      → StateTold h calls number state → StateTold h later number state
  waited-told h calls later number (Over answer) was t = t
  waited-told h calls later number (Busy machine) was t = λ x op u.
      let held = t x op u in
      record {
        place = held.place;
        within = held.within;
        story = held.story;
        sent = λ xid w waits same. let k = was xid w waits in held.sent xid k.was k.waited (ap (λ (p : Purpose). p.lane) (sym k.purpose) ∙ same);
      }

  waited-good : (h : List Entry) (old new : View) → new.lanes ≡ old.lanes → ((xid : ℕ) (w : Waiting Purpose) → waiting_at xid new.calls.calls ≡ Some w → WaitedAs old.calls.calls xid w)
      → AllGood h old → AllGood h new
  waited-good h old new same was g k lane there =
      let good = g k lane (ap (λ (lanes : List Lane). slice_get lanes k) (sym same) ∙ there) in
      (waited-lane old.calls.calls new.calls.calls lane.number lane.state was good.0, waited-told h old.calls.calls new.calls.calls lane.number lane.state was good.1)

  lost-lane-good : (h : List Entry) (calls later : List (ℕ × Waiting Purpose)) (number : ℕ) (state : State) → IsLost h (length h) → LaneGood h calls (record { number = number; state = state })
      → LaneGood h later (lost_lane (record { number = number; state = state }))
  lost-lane-good h calls later number (Busy machine) l g = (tt, λ x op u. laws.lost h x op l)
  lost-lane-good h calls later number (Over answer) l g = (tt, g.1)

  lost-good : (h : List Entry) (old new : View) → IsLost h (length h) → new.lanes ≡ map lost_lane old.lanes → AllGood h old → AllGood h new
  lost-good h old new l is g k lane there =
      let j = in-map lost_lane old.lanes k lane (ap (λ (lanes : List Lane). slice_get lanes k) (sym is) ∙ there) in
      subst (LaneGood h new.calls.calls) (sym j.2) (lost-lane-good h old.calls.calls new.calls.calls j.0.number j.0.state l (g k j.0 j.1))

  -- the same clock
  same-late : (h : List Entry) (old new : View) → new.clock ≡ old.clock → AllLate h old → AllLate h new
  same-late h old new is l x lane line op at = subst (λ n. IsLate h x n) (sym is) (l x lane line op at)

  same-kept : (h : List Entry) (old new : View) → new.shelf ≡ old.shelf → K h old.shelf → K h new.shelf
  same-kept h old new is k = subst (K h) (sym is) k

  still-called : (old new : View) → new.shelf ≡ old.shelf → ((xid : ℕ) (w : Waiting Purpose) → waiting_at xid new.calls.calls ≡ Some w → WaitedAs old.calls.calls xid w)
      → Called setup.cred old.calls.calls old.shelf.back → Called setup.cred new.calls.calls new.shelf.back
  still-called old new is was c =
      subst (λ (s : Shelf). Called setup.cred new.calls.calls s.back) (sym is) (same-called setup.cred old.calls.calls new.calls.calls old.shelf.back was c)

  failed-known : (h : List Entry) (old new : View) → (new.lost ≡ true → IsLost h (length h)) → FailedNow old new → Known h old → Known h new
  failed-known h old new shown (goes_on none is) g = record {
    lanes = waited-good h old new (ap (λ (v : View). v.lanes) is) (λ xid w at. before_failed true old.calls.calls xid w
        (sym (ap (λ (v : View). waiting_at xid v.calls.calls) is ∙ ap (λ (o : Option ℕ). waiting_at xid (failed_after o old.calls.calls)) none) ∙ at)) g.lanes;
    kept = same-kept h old new (ap (λ (v : View). v.shelf) is) g.kept;
    late = same-late h old new (ap (λ (v : View). v.clock) is) g.late;
    called = still-called old new (ap (λ (v : View). v.shelf) is)
        (λ xid w at. before_failed true old.calls.calls xid w
        (sym (ap (λ (v : View). waiting_at xid v.calls.calls) is ∙ ap (λ (o : Option ℕ). waiting_at xid (failed_after o old.calls.calls)) none) ∙ at)) g.called;
  }
  failed-known h old new shown (gives_up xid up is) g = record {
    lanes = lost-good h old new (shown (ap (λ (v : View). v.lost) is)) (ap (λ (v : View). v.lanes) is) g.lanes;
    kept = same-kept h old new (ap (λ (v : View). v.shelf) is) g.kept;
    late = same-late h old new (ap (λ (v : View). v.clock) is) g.late;
    called = still-called old new (ap (λ (v : View). v.shelf) is)
        (λ y w at. before_failed false old.calls.calls y w
        (sym (ap (λ (v : View). waiting_at y v.calls.calls) is ∙ ap (λ (o : Option ℕ). waiting_at y (failed_after o old.calls.calls)) up) ∙ at)) g.called;
  }

  same-known : (h : List Entry) (e : Entry) (old new : View) → ((lane line : ℕ) (op : Op) → e ≡ Began lane line op → ⊥) → (IsDelivered e → ⊥) → new ≡ old → Known h old → Known (h ++ e ∷ []) new
  same-known h e old new other quiet is g = subst (Known (h ++ e ∷ [])) (sym is) (known-grows h e old other (all-quiet old e quiet) g)

  known-step : (h : List Entry) (old : View) (e : Entry) (new : View) → StepsTo (machine_of m) h old e new → Reaches (machine_of m) setup h old → R (h ++ e ∷ []) new → Known h old
      → Known (h ++ e ∷ []) new
  known-step h old (Began lane line op) new t r on g = begins-known old.lost h old new lane line op refl t r t.step
      (back.rest (h ++ Began lane line op ∷ []) new (goes (h ++ Began lane line op ∷ []) h new old (Began lane line op) r refl t) on)
      (back.rest h old r (back.steps h old (Began lane line op) new t r on)) g
  known-step h old (Answered lane line answer) new t r on g =
      let a = answered_now old lane answer new t.answers in
      subst (Known (h ++ Answered lane line answer ∷ [])) (sym a.is.is) (record {
        lanes = λ k l there. lane-grows h (Answered lane line answer) old.calls.calls l (λ n o e. cc) (quiet-entry (Answered lane line answer) (λ d. let is = d.1 in cc) l.state) (g.lanes (skip a.at k) l (get-remove old.lanes a.at k l there));
        kept = laws.still h (Answered lane line answer) old.shelf g.kept;
        late = late-grows h (Answered lane line answer) old (λ n l o e. cc) g.late;
        called = g.called;
      })
  known-step h old (Sent bytes) new t r on g =
      let n = sent_now old bytes new t in
      let more = known-grows h (Sent bytes) old (λ lane line op e. cc) (all-quiet old (Sent bytes) (λ d. let is = d.1 in cc)) g in
      record {
        lanes = waited-good (h ++ Sent bytes ∷ []) old new (ap (λ (v : View). v.lanes) n.is)
            (λ xid w at. before_sent old.calls.calls xid w (sym (ap (λ (v : View). waiting_at xid v.calls.calls) n.is) ∙ at)) more.lanes;
        kept = same-kept (h ++ Sent bytes ∷ []) old new (ap (λ (v : View). v.shelf) n.is) more.kept;
        late = same-late (h ++ Sent bytes ∷ []) old new (ap (λ (v : View). v.clock) n.is) more.late;
        called = still-called old new (ap (λ (v : View). v.shelf) n.is)
            (λ xid w at. before_sent old.calls.calls xid w (sym (ap (λ (v : View). waiting_at xid v.calls.calls) n.is) ∙ at)) more.called;
      }
  known-step h old (Delivered bytes) new t r on g = heard-known old.lost h old bytes new refl t r (heard old bytes t.result new t.hears)
      (back.rest (h ++ Delivered bytes ∷ []) new (goes (h ++ Delivered bytes ∷ []) h new old (Delivered bytes) r refl t) on)
      (back.rest h old r (back.steps h old (Delivered bytes) new t r on)) g
  known-step h old Failed new (inl t) r on g =
      failed-known (h ++ Failed ∷ []) old new (reached-shown (machine_of m) setup (h ++ Failed ∷ []) new (goes (h ++ Failed ∷ []) h new old Failed r refl (inl t)))
      (failed_now old t.0 new t.1) (known-grows h Failed old (λ lane line op e. cc) (all-quiet old Failed (λ d. let is = d.1 in cc)) g)
  known-step h old Failed new (inr t) r on g = same-known h Failed old new (λ lane line op e. cc) (λ d. let is = d.1 in cc) t g
  known-step h old (Dialed port) new t r on g = same-known h (Dialed port) old new (λ lane line op e. cc) (λ d. let is = d.1 in cc) t g
  known-step h old (Executed xid call reply) new t r on g = same-known h (Executed xid call reply) old new (λ lane line op e. cc) (λ d. let is = d.1 in cc) t g
  known-step h old (Foreign call reply) new t r on g = same-known h (Foreign call reply) old new (λ lane line op e. cc) (λ d. let is = d.1 in cc) t g
  known-step h old (Flushed file from len) new t r on g = same-known h (Flushed file from len) old new (λ lane line op e. cc) (λ d. let is = d.1 in cc) t g
  known-step h old (Reboot verf) new t r on g = same-known h (Reboot verf) old new (λ lane line op e. cc) (λ d. let is = d.1 in cc) t g
  known-step h old (Clock ms) new t r on g = same-known h (Clock ms) old new (λ lane line op e. cc) (λ d. let is = d.1 in cc) t g

  pub reached-known : ((h : List Entry) (v : View) → IsFresh setup v → K h v.shelf) → (h : List Entry) (v : View) → Reaches (machine_of m) setup h v → R h v → Known h v
  reached-known first _ _ (begins h v may up fresh) on = record {
    lanes = λ k lane there. absurd (let no_way : None ≡ Some lane = ap (λ (lanes : List Lane). slice_get lanes k) (sym fresh.lanes) ∙ there in cc);
    kept = first h v fresh;
    late = λ x lane line op at. absurd (up.unbegun x lane line op at);
    called = λ xid w waits. absurd (let no_way : None ≡ Some w = ap (λ (c : Held Purpose). waiting_at xid c.calls) (sym fresh.calls) ∙ waits in cc);
  }
  reached-known first _ _ (goes h before v b e r is t) on =
      let later = subst (λ (k : List Entry). R k v) is on in
      subst (λ (k : List Entry). Known k v) (sym is) (known-step before b e v t r later (reached-known first before b r (back.steps before b e v t r later)))
  reached-known first _ _ (loses h v b r shown is) on =
      let g = reached-known first h b r (back.drops h b v r is on) in
      record {
        lanes = lost-good h b v (record { to = length h; by = omega arith; loses = shown }) (ap (λ (w : View). w.lanes) is) g.lanes;
        kept = same-kept h b v (ap (λ (w : View). w.shelf) is) g.kept;
        late = same-late h b v (ap (λ (w : View). w.clock) is) g.late;
        called = subst (λ (w : View). Called setup.cred w.calls.calls w.shelf.back) (sym is) g.called;
      }

  -- ---- answers

  -- the views on the way, and that the session went on from each
  on-way : (h : List Entry) (v : View) → Reaches (machine_of m) setup h v → R h v → ways.Passes (machine_of m) setup R h v
  on-way _ _ (begins h v may up fresh) on = ways.passes_fresh h v may up fresh
  on-way _ _ (goes h before v b e r is t) on =
      let early = back.steps before b e v t r (subst (λ (k : List Entry). R k v) is on) in
      ways.passes_step h before v b e (on-way before b r early) early is t
  on-way _ _ (loses h v b r shown is) on = ways.passes_lost h v b (on-way h b r (back.drops h b v r is on)) shown is

  pub reached-answered : ((h : List Entry) (v : View) → IsFresh setup v → K h v.shelf) → (h : List Entry) (v : View) → Reaches (machine_of m) setup h v → R h v → (lane x : ℕ) (op : Op) (y : ℕ)
      (answer : Answer) → Ended h lane x op y answer → HadStory O h x op y answer
  reached-answered first h v r on = answered-story (machine_of m) setup R O
      (λ g w p known at number answer there x op u. ((reached-known first g w (ways.forget (machine_of m) setup R g w p) known).lanes at (record { number = number; state = Over answer }) there).1 x op u)
      h v (on-way h v r on)
