-- While a remove looks for a hidden name, or takes one, a slot held the file since it began.
use Rattle.core_session.proofs.Prelude.{◌≡◌, ◌≢◌, ◌≤◌, ◌⊎◌, inl, inr, ℕ, List, [], ◌∷◌, ◌++◌, length, false, Some, None, Err, slice_get, slice_set, refl, sym, ap, subst, ◌∙◌, arith, Waiting, Answer, Entry, Began, Answered, Delivered, Op, HeldOpen, UnderWay, Terms, length_last, said_of, Step, Mounted, Machine, machine_of, Lane, Purpose, State, Busy, Over, Setup, IsOther, numbers_of, with_state, IsRefused, Leads, Stirs, counted, StartsLane, TakesAt, View, turn_at, unmade_turn, Reaches, HearsRecord, begins-unbegun, taken_one, always-later, Known, idle-numbers, number_of, at-set, at-push, get-push, get-remove, skip, to-map, IsHeld, held-grow, by-place, set-other, under-back}
use Rattle.client_shelf.specs.declared.step.Step.TheVariants as nexts
use Rattle.core_session.proofs.saves.HearingAlong.{KeepsHearing, reached-hearing}
use Rattle.core_session.proofs.calls.Hiding.{Hides, starts-hides, resumes-hides, takes-hides, begun-hides, hides-map}
use Rattle.core_session.proofs.calls.TableHeld.{open-held}

-- what a slot held, it held in a longer history too
abbrev IsHeldIn : Terms → ℕ → ℕ → List ℕ → List Entry → Type 0
IsHeldIn terms from n f g = (n ≤ length g) × HeldOpen terms g from n f

pub open-grow : (terms : Terms) (h more : List Entry) (from n : ℕ) (f : List ℕ) → n ≤ length h → HeldOpen terms h from n f → HeldOpen terms (h ++ more) from n f
open-grow terms h more from n f within k = (always-later (IsHeldIn terms from n f) step h more (within, k)).1
  where
    step : (g : List Entry) (e : Entry) → IsHeldIn terms from n f g → IsHeldIn terms from n f (g ++ e ∷ [])
    step g e b =
        let low = b.0 in
        let soon = b.1.moment.soon in
        let more = length_last g e in
        let held : IsHeld terms.modes (g ++ e ∷ []) b.1.n b.1.lane b.1.slot f b.1.holds.opens.mode =
        held-grow terms.modes g e b.1.lane b.1.slot f b.1.holds.opens.mode b.1.n (omega (arith, low, soon)) (record { x = b.1.open_at; holds = b.1.holds; mode_is = refl }) in
        (omega (arith, low, more), record { lane = b.1.lane; slot = b.1.slot; open_at = held.x; n = b.1.n; moment = b.1.moment; holds = held.holds })

module _ (m : Mounted) (terms : Terms) (same : m.nocto ≡ terms.modes.nocto) (setup : Setup) where
  abbrev pub Held : List Entry → ℕ → List ℕ → Type 0
  Held h x f = HeldOpen terms h x (length h) f

  held-later : (h : List Entry) (e : Entry) (x : ℕ) (f : List ℕ) → Held h x f → Held (h ++ e ∷ []) x f
  held-later h e x f k =
      let soon = k.moment.soon in
      let more = length_last h e in
      let held : IsHeld terms.modes (h ++ e ∷ []) k.n k.lane k.slot f k.holds.opens.mode =
      held-grow terms.modes h e k.lane k.slot f k.holds.opens.mode k.n (omega (arith, soon)) (record { x = k.open_at; holds = k.holds; mode_is = refl }) in
      record {
        lane = k.lane;
        slot = k.slot;
        open_at = held.x;
        n = k.n;
        moment = record { late = k.moment.late; soon = omega (arith, soon, more) };
        holds = held.holds;
      }

  -- ---- of each lane

  abbrev pub StateHides : List Entry → ℕ → State → Type 0
  StateHides h x (Busy machine) = Hides (Held h x) machine
  StateHides h x (Over answer) = Unit {0}

  abbrev pub LaneHides : List Entry → Lane → Type 0
  LaneHides h lane = (x : ℕ) (op : Op) → UnderWay h lane.number x (length h) op → StateHides h x lane.state

  abbrev pub LanesHide : List Entry → List Lane → Type 0
  LanesHide h lanes = (k : ℕ) (lane : Lane) → slice_get lanes k ≡ Some lane → LaneHides h lane

  state-later : (h : List Entry) (e : Entry) (x : ℕ) (state : State) → StateHides h x state → StateHides (h ++ e ∷ []) x state
  state-later h e x (Busy machine) k = hides-map (Held h x) (Held (h ++ e ∷ []) x) (held-later h e x) machine k
  state-later h e x (Over answer) k = tt

  lane-later : (h : List Entry) (e : Entry) (lane : Lane) → ((line : ℕ) (op : Op) → e ≡ Began lane.number line op → ⊥) → LaneHides h lane → LaneHides (h ++ e ∷ []) lane
  lane-later h e lane other k x op u = state-later h e x lane.state (k x op (under-back h e lane.number x op other u))

  lanes-later : (h : List Entry) (e : Entry) (lanes : List Lane) → ((lane line : ℕ) (op : Op) → e ≡ Began lane line op → ⊥) → LanesHide h lanes → LanesHide (h ++ e ∷ []) lanes
  lanes-later h e lanes other all k lane there = lane-later h e lane (other lane.number) (all k lane there)

  -- ---- what a step leads to

  -- what the step of its lane leaves
  abbrev Own : List Entry → ℕ → Machine → Type 0
  Own h number machine = LaneHides h (record { number = number; state = Busy machine })

  set-hides : (h : List Entry) (lanes : List Lane) (at number : ℕ) (was state : State) → slice_get lanes at ≡ Some (record { number = number; state = was }) → LanesHide h lanes
      → LaneHides h (record { number = number; state = state }) → LanesHide h (slice_set lanes at (record { number = number; state = state }))
  set-hides h lanes at number was state there all own =
      by-place (LaneHides h) (slice_set lanes at (record { number = number; state = state })) at (record { number = number; state = state })
      (at-set lanes at (record { number = number; state = was }) (record { number = number; state = state }) there) own
      (λ k lane here apart. all k lane (sym (set-other lanes at k (record { number = number; state = state }) apart) ∙ here))

  leads-hides : (h : List Entry) (v new : View) (at number : ℕ) (machine : Machine) (next : Step) → slice_get v.lanes at ≡ Some (record { number = number; state = Busy machine })
      → LanesHide h v.lanes → Leads v at number machine next new → LanesHide h new.lanes
  leads-hides h v new at number machine (nexts.Send call) there all (inl k) = subst (λ (w : View). LanesHide h w.lanes) (sym k.is) all
  leads-hides h v new at number machine (nexts.Send call) there all (inr f) =
      subst (λ (w : View). LanesHide h w.lanes) (sym f.is) (set-hides h v.lanes at number (Busy machine) f.state there all (by f.next f.state f.leads own))
    where
      own : Own h number f.after
      own x op u =
          takes-hides (Held h x) v.wsize machine (turn_at v) (unmade_turn v) (Err f.fault) v.shelf f.next f.after f.left (λ file is. absurd (cc)) f.takes
          (all at (record { number = number; state = Busy machine }) there x op u)

      by : (next : Step) (state : State) → IsRefused f.after next state → Own h number f.after → LaneHides h (record { number = number; state = state })
      by (nexts.Send again) state is k = absurd is
      by nexts.Wait state is k = subst (λ (s : State). LaneHides h (record { number = number; state = s })) (sym is) k
      by (nexts.Done answer) state is k = subst (λ (s : State). LaneHides h (record { number = number; state = s })) (sym is) (λ x op u. tt)
  leads-hides h v new at number machine nexts.Wait there all is = subst (λ (w : View). LanesHide h w.lanes) (sym is) all
  leads-hides h v new at number machine (nexts.Done answer) there all is =
      subst (λ (w : View). LanesHide h w.lanes) (sym is) (set-hides h v.lanes at number (Busy machine) (Over answer) there all (λ x op u. tt))

  stirs-hides : (h : List Entry) (old new : View) (at : ℕ) → Known setup h old → Stirs old at new → LanesHide h old.lanes → LanesHide h new.lanes
  stirs-hides h old new at k t all =
      leads-hides h (with_state old at t.number (Busy t.after) t.shelf) new at t.number t.after t.next
      (at-set old.lanes at (record { number = t.number; state = Busy t.machine }) (record { number = t.number; state = Busy t.after }) t.there)
      (set-hides h old.lanes at t.number (Busy t.machine) (Busy t.after) t.there all
      (λ x op u. resumes-hides (Held h x) old.wsize t.machine (turn_at old) old.shelf t.next t.after t.shelf t.resumes (all at (record { number = t.number; state = Busy t.machine }) t.there x op u)))
      t.leads

  began-is : (a b c d : ℕ) (o p : Op) → Began a b o ≡ Began c d p → a ≡ c
  began-is a b c d o p e = cc

  starts-hide : (h : List Entry) (old new : View) (lane line : ℕ) (op : Op) (now : ℕ) → Known setup h old → ((k : ℕ) (l : Lane) → slice_get old.lanes k ≡ Some l → l.number ≢ lane)
      → StartsLane (counted old now) lane (machine_of m lane op) new → LanesHide h old.lanes → LanesHide (h ++ Began lane line op ∷ []) new.lanes
  starts-hide h old new lane line op now k apart t all =
      leads-hides later v new (length old.lanes) lane t.after t.next (at-push old.lanes (record { number = lane; state = Busy t.after }))
      (λ at l there. by at l (get-push old.lanes (record { number = lane; state = Busy t.after }) at l there)) t.leads
    where
      later : List Entry
      later = h ++ Began lane line op ∷ []

      v : View
      v = record (counted old now) { lanes = old.lanes ++ record { number = lane; state = Busy t.after } ∷ []; shelf = t.shelf }

      own : LaneHides later (record { number = lane; state = Busy t.after })
      own x o u =
          starts-hides (Held later x) old.wsize (machine_of m lane op) (turn_at (counted old now)) old.shelf t.next t.after t.shelf t.starts (begun-hides (Held later x) m lane op)

      by : (at : ℕ) (l : Lane) → (slice_get old.lanes at ≡ Some l) ⊎ ((at ≡ length old.lanes) × (l ≡ record { number = lane; state = Busy t.after })) → LaneHides later l
      by at l (inl was) = lane-later h (Began lane line op) l (λ other o is. apart at l was (sym (began-is lane line l.number other op o is))) (all at l was)
      by at l (inr now_) = subst (LaneHides later) (sym now_.1) own

  -- ---- a reply comes: each answer was noted before

  takes-hide : (h : List Entry) (old new : View) (rec : List ℕ) (xid : ℕ) (call : Waiting Purpose) (at : ℕ) → Reaches (machine_of m) setup h old → old.lost ≡ false → (fin : View)
      → HearsRecord old rec fin → TakesAt (taken_one old xid) at call.purpose.sent (said_of call.purpose.proc rec) new → LanesHide h old.lanes → LanesHide (h ++ Delivered rec ∷ []) new.lanes
  takes-hide h old new rec xid call at r found fin hears t all =
      leads-hides later (with_state (taken_one old xid) at t.number (Busy t.after) t.shelf) new at t.number t.after t.next
      (at-set old.lanes at (record { number = t.number; state = Busy t.machine }) (record { number = t.number; state = Busy t.after }) t.there)
      (set-hides later old.lanes at t.number (Busy t.machine) (Busy t.after) t.there grown own) t.leads
    where
      later : List Entry
      later = h ++ Delivered rec ∷ []

      not-began : (lane line : ℕ) (op : Op) → Delivered rec ≡ Began lane line op → ⊥
      not-began lane line op is = cc

      grown : LanesHide later old.lanes
      grown = lanes-later h (Delivered rec) old.lanes not-began all

      own : LaneHides later (record { number = t.number; state = Busy t.after })
      own x op u =
          takes-hides (Held later x) old.wsize t.machine call.purpose.sent (turn_at (taken_one old xid)) (said_of call.purpose.proc rec) old.shelf t.next t.after t.shelf
          (λ file told there.
          let was = under-back h (Delivered rec) t.number x op (not-began t.number) u in
          let since = was.before in
          let now = open-held m terms.modes same setup h old r found hears.may.noted file there in
          held-later h (Delivered rec) x file (record {
            lane = now.lane;
            slot = now.slot;
            open_at = now.held.x;
            n = length h;
            moment = record { late = omega (arith, since); soon = omega arith };
            holds = now.held.holds;
          })) t.takes (grown at (record { number = t.number; state = Busy t.machine }) t.there x op u)

  -- ---- along a history

  answered-not : (lane line : ℕ) (answer : Answer) (l k : ℕ) (op : Op) → Answered lane line answer ≡ Began l k op → ⊥
  answered-not lane line answer l k op is = cc

  pub keeps-hiding : KeepsHearing (machine_of m) setup (λ h v. LanesHide h v.lanes)
  keeps-hiding = record {
    fresh = λ h v may up fresh k lane there. absurd (let no_way : None ≡ Some lane = ap (λ (lanes : List Lane). slice_get lanes k) (sym fresh.lanes) ∙ there in cc);
    stirs = stirs-hides;
    starts = λ h old new lane line op now r before k idle fits t all.
        starts-hide h old new lane line op now k (λ at l there is. idle-apart lane old.lanes idle.other at l there is) t all;
    takes = λ h old new rec xid call at r before k fin hears named waits there t all. takes-hide h old new rec xid call at r before fin hears t all;
    answers = λ h old new at lane line answer k a all. subst (λ (w : View). LanesHide (h ++ Answered lane line answer ∷ []) w.lanes) (sym a.is)
        (λ i l there. lanes-later h (Answered lane line answer) old.lanes (answered-not lane line answer) all (skip at i) l (get-remove old.lanes at i l there));
    same = λ h e old new plain lanes shelf wsize calls all. subst (LanesHide (h ++ e ∷ [])) (sym lanes) (lanes-later h e old.lanes plain.begins_ all);
  }
    where
      idle-apart : (lane : ℕ) (lanes : List Lane) → IsOther lane (numbers_of lanes) → (at : ℕ) (l : Lane) → slice_get lanes at ≡ Some l → l.number ≡ lane → ⊥
      idle-apart lane lanes other at l there is = idle-numbers lane (numbers_of lanes) other at (to-map number_of lanes at l there ∙ ap Some is)

  pub hiding-held : (h : List Entry) (v : View) → Reaches (machine_of m) setup h v → v.lost ≡ false → LanesHide h v.lanes
  hiding-held h v r found = reached-hearing (machine_of m) (begins-unbegun m) setup (λ g u. LanesHide g u.lanes) keeps-hiding h v r found
