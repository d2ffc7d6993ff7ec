-- Along a history each operation is at work, and has its place in the order of its file.
use Rattle.core_facts.proofs.Prelude.{◌≡◌, ◌≢◌, ◌≤◌, ◌<◌, ◌+◌, ◌-◌, ◌⊎◌, inl, inr, ℕ, zero, suc, List, [], ◌∷◌, ◌++◌, length, remove, Bool, true, false, nat_eq, Option, Some, None, position, slice_get, slice_set, Err, refl, sym, ap, subst, ◌∙◌, arith, if◌then◌else◌, eqb-true, eqb-false, eq-eqb, ne_eqb, Waiting, waiting_at, Entry, Began, Op, said_of, LaneFile, Step, Send, Wait, Done, Shelf, Mounted, Machine, machine_of, Lane, Purpose, State, Busy, Over, Setup, is_busy, with_state, IsRefused, Leads, Stirs, counted, StartsLane, TakesAt, View, turn_at, unmade_turn, in_flight, Counts}
use Rattle.client_core.specs.Numbers.{IsIdle}
use Rattle.core_facts.specs.Lanes.{AreApart}
use Rattle.core_facts.proofs.AllCounts.{counts-calls, begins-unbegun}
use Rattle.core_facts.proofs.AllSeats.{seat_of, IsLive, begins-fresh, OfMachine, all-starts, all-resumes, all-takes}
use Rattle.core_facts.proofs.Cases.{taken_one}
use Rattle.core_facts.proofs.Keeping.{Known, Keeps, taker-one}
use Rattle.core_facts.proofs.LaneMarks.{lanes-stay, lanes-begin, lanes-under-way}
use Rattle.core_facts.proofs.Lists.{at-set, at-push, skip, get-remove, get-push}
use Rattle.core_facts.proofs.Looks.{look_in, head-same, head-other, look-idle, look-at, look-set, look-push, look-remove, set-other, by-place}
use Rattle.core_facts.proofs.Orders.{Sits, none-sits, same-sits, seat_with, seat-own, seat-other, SitsWith, leaves, joins}

-- ---- the places of the lanes

abbrev pub seat_state : State → Option (List ℕ)
seat_state (Busy machine) = seat_of machine
seat_state (Over answer) = None

abbrev pub seat_in : ℕ → List Lane → Option (List ℕ)
seat_in n lanes = look_in seat_state n lanes

-- the operation that has the place
pub record IsSeated (lanes : List Lane) (number : ℕ) (file : List ℕ) : Type 0 where
  pub at : ℕ
  pub machine : Machine
  pub there : slice_get lanes at ≡ Some (record { number = number; state = Busy machine })
  pub seat : seat_of machine ≡ Some file

seated-head : (number : ℕ) (n : ℕ) (state : State) (lanes : List Lane) (file : List ℕ) → n ≡ number → seat_state state ≡ Some file
    → IsSeated (record { number = n; state = state } ∷ lanes) number file
seated-head number n (Busy machine) lanes file same seat =
    record { at = zero; machine = machine; there = ap (λ (k : ℕ). Some (record { number = k; state = Busy machine })) same; seat = seat }
seated-head number n (Over answer) lanes file same seat = absurd (let no_way : None ≡ Some file = seat in cc)

seated-next : (number : ℕ) (lane : Lane) (lanes : List Lane) (file : List ℕ) → seat_in number (lane ∷ lanes) ≡ Some file
    → (seat_in number lanes ≡ Some file → IsSeated lanes number file) → (b : Bool) → nat_eq lane.number number ≡ b → IsSeated (lane ∷ lanes) number file
seated-next number lane lanes file seat rest true d =
    let same = eqb-true lane.number number d in
    seated-head number lane.number lane.state lanes file same (sym (head-same seat_state number lane lanes same) ∙ seat)
seated-next number lane lanes file seat rest false d =
    let r = rest (sym (head-other seat_state number lane lanes (eqb-false lane.number number d)) ∙ seat) in
    record { at = suc r.at; machine = r.machine; there = r.there; seat = r.seat }

pub seated : (number : ℕ) (lanes : List Lane) (file : List ℕ) → seat_in number lanes ≡ Some file → IsSeated lanes number file
seated number [] file seat = absurd (let no_way : None ≡ Some file = seat in cc)
seated number (lane ∷ lanes) file seat = seated-next number lane lanes file seat (seated number lanes file) (nat_eq lane.number number) refl

-- ---- what is kept

pub record LaneLive (lane : ℕ) (machine : Machine) : Type 0 where
  pub live : IsLive lane machine
  pub least : 1 ≤ lane
  pub most : lane ≤ 16

abbrev pub StateLive : ℕ → State → Type 0
StateLive lane (Busy machine) = LaneLive lane machine
StateLive lane (Over answer) = Unit {0}

abbrev pub AllLive : List Lane → Type 0
AllLive lanes = (k : ℕ) (lane : Lane) → slice_get lanes k ≡ Some lane → StateLive lane.number lane.state

pub record Placed (v : View) : Type 0 where
  pub live : AllLive v.lanes
  pub sits : Sits (λ n. seat_in n v.lanes) v.shelf.order

-- ---- one step

-- The operation of the lane at a place made a step, and what that leads to is still to come. The other lanes are as they were.
pub record Owes (v : View) (at number : ℕ) (machine : Machine) (base : ℕ → Option (List ℕ)) (next : Step) : Type 0 where
  pub there : slice_get v.lanes at ≡ Some (record { number = number; state = Busy machine })
  pub apart : AreApart v.lanes
  pub rest : (k : ℕ) (lane : Lane) → slice_get v.lanes k ≡ Some lane → k ≢ at → StateLive lane.number lane.state
  pub least : 1 ≤ number
  pub most : number ≤ 16
  pub others : (n : ℕ) → n ≢ number → base n ≡ seat_in n v.lanes
  pub step : OfMachine number (SitsWith number base) (leaves number base) (joins number base least most) next machine v.shelf.order

module _ (v : View) (at number : ℕ) (machine : Machine) (base : ℕ → Option (List ℕ)) (next : Step) (o : Owes v at number machine base next) where
  owes-set : (state : State) (shelf : Shelf) → StateLive number state → SitsWith number base (seat_state state) shelf.order → Placed (with_state v at number state shelf)
  owes-set state shelf live sits = record {
    live = by-place (λ (l : Lane). StateLive l.number l.state) (slice_set v.lanes at (record { number = number; state = state })) at (record { number = number; state = state })
        (at-set v.lanes at (record { number = number; state = Busy machine }) (record { number = number; state = state }) o.there) live
        (λ k lane here apart. o.rest k lane (sym (set-other v.lanes at k (record { number = number; state = state }) apart) ∙ here) apart);
    sits = same-sits (seat_with number (seat_state state) base) (λ n. seat_in n (slice_set v.lanes at (record { number = number; state = state }))) shelf.order
        (λ n. look-set seat_state n v.lanes at number (Busy machine) state o.apart o.there ∙ with-base n (nat_eq n number) refl) sits;
  }
    where
      with-base : (n : ℕ) (b : Bool) → nat_eq n number ≡ b → seat_with number (seat_state state) (λ m. seat_in m v.lanes) n ≡ seat_with number (seat_state state) base n
      with-base n true d =
          let same = eqb-true n number d in
          ap (λ (k : ℕ). seat_with number (seat_state state) (λ m. seat_in m v.lanes) k) same ∙ seat-own number (seat_state state) (λ m. seat_in m v.lanes)
          ∙ sym (ap (λ (k : ℕ). seat_with number (seat_state state) base k) same ∙ seat-own number (seat_state state) base)
      with-base n false d =
          let apart = eqb-false n number d in
          seat-other number n (seat_state state) (λ m. seat_in m v.lanes) apart ∙ sym (seat-other number n (seat_state state) base apart ∙ o.others n apart)

  -- the lanes as they are
  owes-here : LaneLive number machine → SitsWith number base (seat_of machine) v.shelf.order → Placed v
  owes-here live sits = record {
    live = by-place (λ (l : Lane). StateLive l.number l.state) v.lanes at (record { number = number; state = Busy machine }) o.there live o.rest;
    sits = same-sits (seat_with number (seat_of machine) base) (λ n. seat_in n v.lanes) v.shelf.order (λ n. here n (nat_eq n number) refl) sits;
  }
    where
      here : (n : ℕ) (b : Bool) → nat_eq n number ≡ b → seat_in n v.lanes ≡ seat_with number (seat_of machine) base n
      here n true d =
          let same = eqb-true n number d in
          ap (λ (k : ℕ). seat_in k v.lanes) same ∙ look-at seat_state v.lanes at number (Busy machine) o.apart o.there
          ∙ sym (ap (λ (k : ℕ). seat_with number (seat_of machine) base k) same ∙ seat-own number (seat_of machine) base)
      here n false d =
          let apart = eqb-false n number d in
          sym (o.others n apart) ∙ sym (seat-other number n (seat_of machine) base apart)

  of-lane : IsLive number machine → LaneLive number machine
  of-lane live = record { live = live; least = o.least; most = o.most }

leads-placed : (v new : View) (at number before : ℕ) (machine : Machine) (base : ℕ → Option (List ℕ)) (next : Step) → Owes v at number machine base next
    → Counts next before machine → Leads v at number machine next new → Placed new
leads-placed v new at number before machine base (Send call) o c (inl m) =
    let p = owes-here v at number machine base (Send call) o (of-lane v at number machine base (Send call) o o.step.0) o.step.1 in
    subst Placed (sym m.is) (record { live = p.live; sits = p.sits })
leads-placed v new at number before machine base (Send call) o c (inr r) =
    subst Placed (sym r.is) (by r.next r.state
    (all-takes number (SitsWith number base) (leaves number base) (joins number base o.least o.most) machine v.wsize (turn_at v) (unmade_turn v) (Err r.fault) v.shelf r.next
    r.after r.left before o.step.0 c.0 o.step.1 r.takes) r.leads)
  where
    by : (next : Step) (state : State) → OfMachine number (SitsWith number base) (leaves number base) (joins number base o.least o.most) next r.after r.left.order
        → IsRefused r.after next state → Placed (with_state v at number state r.left)
    by (Send again) state s is = absurd is
    by Wait state s is =
        subst (λ (t : State). Placed (with_state v at number t r.left)) (sym is)
        (owes-set v at number machine base (Send call) o (Busy r.after) r.left (record { live = s.0; least = o.least; most = o.most }) s.1)
    by (Done answer) state s is =
        subst (λ (t : State). Placed (with_state v at number t r.left)) (sym is) (owes-set v at number machine base (Send call) o (Over answer) r.left tt s)
leads-placed v new at number before machine base Wait o c is =
    subst Placed (sym is) (owes-here v at number machine base Wait o (of-lane v at number machine base Wait o o.step.0) o.step.1)
leads-placed v new at number before machine base (Done answer) o c is = subst Placed (sym is) (owes-set v at number machine base (Done answer) o (Over answer) v.shelf tt o.step)

-- where a step begins
own-seat : (v : View) (at number : ℕ) (machine : Machine) → AreApart v.lanes → slice_get v.lanes at ≡ Some (record { number = number; state = Busy machine }) → Placed v
    → SitsWith number (λ n. seat_in n v.lanes) (seat_of machine) v.shelf.order
own-seat v at number machine apart there p =
    same-sits (λ n. seat_in n v.lanes) (seat_with number (seat_of machine) (λ n. seat_in n v.lanes)) v.shelf.order (λ n. by n (nat_eq n number) refl) p.sits
  where
    by : (n : ℕ) (b : Bool) → nat_eq n number ≡ b → seat_with number (seat_of machine) (λ m. seat_in m v.lanes) n ≡ seat_in n v.lanes
    by n true d =
        let same = eqb-true n number d in
        ap (λ (k : ℕ). seat_with number (seat_of machine) (λ m. seat_in m v.lanes) k) same ∙ seat-own number (seat_of machine) (λ m. seat_in m v.lanes)
        ∙ sym (ap (λ (k : ℕ). seat_in k v.lanes) same ∙ look-at seat_state v.lanes at number (Busy machine) apart there)
    by n false d = seat-other number n (seat_of machine) (λ m. seat_in m v.lanes) (eqb-false n number d)

-- the places of the others, after the lane at a place came to another machine
set-base : (lanes : List Lane) (at number : ℕ) (machine after : Machine) → AreApart lanes → slice_get lanes at ≡ Some (record { number = number; state = Busy machine })
    → (n : ℕ) → n ≢ number → seat_in n lanes ≡ seat_in n (slice_set lanes at (record { number = number; state = Busy after }))
set-base lanes at number machine after apart there n other =
    sym (look-set seat_state n lanes at number (Busy machine) (Busy after) apart there ∙ seat-other number n (seat_of after) (λ m. seat_in m lanes) other)

module _ (m : Mounted) (setup : Setup) where
  stirs-placed : (h : List Entry) (old new : View) (at : ℕ) → Known setup h old → Stirs old at new → Placed old → Placed new
  stirs-placed h old new at k t p =
      let apart = (lanes-under-way h old k.lanes).apart in
      let own = p.live at (record { number = t.number; state = Busy t.machine }) t.there in
      leads-placed (with_state old at t.number (Busy t.after) t.shelf) new at t.number (in_flight t.machine) t.after (λ n. seat_in n old.lanes) t.next
      (record {
        there = at-set old.lanes at (record { number = t.number; state = Busy t.machine }) (record { number = t.number; state = Busy t.after }) t.there;
        apart = (lanes-under-way h (with_state old at t.number (Busy t.after) t.shelf)
            ((lanes-stay h).sets old at t.number (Busy t.machine) (Busy t.after) t.shelf t.there k.lanes)).apart;
        rest = λ j lane is other. p.live j lane (sym (set-other old.lanes at j (record { number = t.number; state = Busy t.after }) other) ∙ is);
        least = own.least;
        most = own.most;
        others = set-base old.lanes at t.number t.machine t.after apart t.there;
        step = all-resumes t.number (SitsWith t.number (λ n. seat_in n old.lanes)) (leaves t.number (λ n. seat_in n old.lanes))
            (joins t.number (λ n. seat_in n old.lanes) own.least own.most) t.machine old.wsize (turn_at old) old.shelf t.next t.after t.shelf own.live
            (own-seat old at t.number t.machine apart t.there p) t.resumes;
      })
      (counts-calls.resume old.wsize t.machine (turn_at old) old.shelf t.next t.after t.shelf t.resumes (k.known.right at (record { number = t.number; state = Busy t.machine }) t.there))
      t.leads

  starts-placed : (h : List Entry) (old new : View) (lane : ℕ) (op : Op) (now : ℕ) → Known setup h old → IsIdle lane old.lanes
      → StartsLane (counted old now) lane (machine_of m lane op) new → Placed old → Placed new
  starts-placed h old new lane op now k idle t p =
      leads-placed v new (length old.lanes) lane 0 t.after (λ n. seat_in n old.lanes) t.next
      (record {
        there = at-push old.lanes (record { number = lane; state = Busy t.after });
        apart = (lanes-under-way (h ++ Began lane 0 op ∷ []) v (lanes-begin h old lane 0 op k.lanes idle.other (Busy t.after))).apart;
        rest = λ j l is other. before j l (get-push old.lanes (record { number = lane; state = Busy t.after }) j l is) other;
        least = idle.least;
        most = idle.most;
        others = λ n other. sym (look-push seat_state n old.lanes lane (Busy t.after) idle.other ∙ seat-other lane n (seat_of t.after) (λ j. seat_in j old.lanes) other);
        step = all-starts lane (SitsWith lane (λ n. seat_in n old.lanes)) (leaves lane (λ n. seat_in n old.lanes)) (joins lane (λ n. seat_in n old.lanes) idle.least idle.most)
            (machine_of m lane op) old.wsize (turn_at (counted old now)) old.shelf t.next t.after t.shelf (begins-fresh m lane op)
            (same-sits (λ n. seat_in n old.lanes) (seat_with lane None (λ n. seat_in n old.lanes)) old.shelf.order (λ n. none n (nat_eq n lane) refl) p.sits) t.starts;
      })
      (counts-calls.start old.wsize (machine_of m lane op) (turn_at (counted old now)) old.shelf t.next t.after t.shelf t.starts (begins-unbegun m lane op)) t.leads
    where
      v : View
      v = record (counted old now) { lanes = old.lanes ++ record { number = lane; state = Busy t.after } ∷ []; shelf = t.shelf }

      before : (j : ℕ) (l : Lane) → (slice_get old.lanes j ≡ Some l) ⊎ ((j ≡ length old.lanes) × (l ≡ record { number = lane; state = Busy t.after })) → j ≢ length old.lanes
          → StateLive l.number l.state
      before j l (inl here) other = p.live j l here
      before j l (inr now_) other = absurd (other now_.0)

      none : (n : ℕ) (b : Bool) → nat_eq n lane ≡ b → seat_with lane None (λ j. seat_in j old.lanes) n ≡ seat_in n old.lanes
      none n true d =
          let same = eqb-true n lane d in
          ap (λ (j : ℕ). seat_with lane None (λ i. seat_in i old.lanes) j) same ∙ seat-own lane None (λ i. seat_in i old.lanes)
          ∙ sym (ap (λ (j : ℕ). seat_in j old.lanes) same ∙ look-idle seat_state lane old.lanes idle.other)
      none n false d = seat-other lane n None (λ j. seat_in j old.lanes) (eqb-false n lane d)

  takes-placed : (h : List Entry) (old new : View) (rec : List ℕ) (xid : ℕ) (call : Waiting Purpose) (at : ℕ) → Known setup h old
      → waiting_at xid old.calls.calls ≡ Some call → position (is_busy call.purpose.lane) old.lanes ≡ Some at
      → TakesAt (taken_one old xid) at call.purpose.sent (said_of call.purpose.proc rec) new → Placed old → Placed new
  takes-placed h old new rec xid call at k waits there t p =
      let apart = (lanes-under-way h old k.lanes).apart in
      let own = p.live at (record { number = t.number; state = Busy t.machine }) t.there in
      let one = taker-one setup h old xid call at k waits there t.number t.machine t.there in
      leads-placed (with_state (taken_one old xid) at t.number (Busy t.after) t.shelf) new at t.number (in_flight t.machine - 1) t.after (λ n. seat_in n old.lanes) t.next
      (record {
        there = at-set old.lanes at (record { number = t.number; state = Busy t.machine }) (record { number = t.number; state = Busy t.after }) t.there;
        apart = (lanes-under-way h (with_state (taken_one old xid) at t.number (Busy t.after) t.shelf)
            ((lanes-stay h).sets (taken_one old xid) at t.number (Busy t.machine) (Busy t.after) t.shelf t.there k.lanes)).apart;
        rest = λ j lane is other. p.live j lane (sym (set-other old.lanes at j (record { number = t.number; state = Busy t.after }) other) ∙ is);
        least = own.least;
        most = own.most;
        others = set-base old.lanes at t.number t.machine t.after apart t.there;
        step = all-takes t.number (SitsWith t.number (λ n. seat_in n old.lanes)) (leaves t.number (λ n. seat_in n old.lanes))
            (joins t.number (λ n. seat_in n old.lanes) own.least own.most) t.machine old.wsize call.purpose.sent (turn_at (taken_one old xid))
            (said_of call.purpose.proc rec) old.shelf t.next t.after t.shelf (in_flight t.machine - 1) own.live one
            (own-seat old at t.number t.machine apart t.there p) t.takes;
      })
      (counts-calls.take old.wsize t.machine call.purpose.sent (turn_at (taken_one old xid)) (said_of call.purpose.proc rec) old.shelf t.next t.after t.shelf
      (in_flight t.machine - 1) t.takes (k.known.right at (record { number = t.number; state = Busy t.machine }) t.there) one)
      t.leads

  pub keeps-placed : Keeps (machine_of m) setup Placed
  keeps-placed = record {
    fresh = λ v fresh. record {
      live = λ k lane there. absurd (let no_way : None ≡ Some lane = ap (λ (lanes : List Lane). slice_get lanes k) (sym fresh.lanes) ∙ there in cc);
      sits = subst (λ (order : List LaneFile). Sits (λ n. seat_in n v.lanes) order) (sym fresh.order)
          (none-sits (λ n. seat_in n v.lanes) (λ n. ap (λ (lanes : List Lane). seat_in n lanes) fresh.lanes));
    };
    stirs = stirs-placed;
    starts = starts-placed;
    takes = takes-placed;
    answers = λ h old new at lane answer k a p. subst Placed (sym a.is) (record {
      live = λ j l there. p.live (skip at j) l (get-remove old.lanes at j l there);
      sits = same-sits (λ n. seat_in n old.lanes) (λ n. seat_in n (remove old.lanes at)) old.shelf.order
          (λ n. look-remove seat_state n old.lanes at (record { number = lane; state = Over a.answer }) (lanes-under-way h old k.lanes).apart a.there refl) p.sits;
    });
    same = λ old new lanes shelf purposes p. record {
      live = λ j l there. p.live j l (ap (λ (ls : List Lane). slice_get ls j) (sym lanes) ∙ there);
      sits = subst (λ (s : Shelf). Sits (λ n. seat_in n new.lanes) s.order) (sym shelf)
          (same-sits (λ n. seat_in n old.lanes) (λ n. seat_in n new.lanes) old.shelf.order (λ n. ap (λ (ls : List Lane). seat_in n ls) lanes) p.sits);
    };
  }
