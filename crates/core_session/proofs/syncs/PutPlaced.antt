-- Along a history each put that is at its file is there among those to which lanes put: so another put of the file isn't alone.
use Rattle.core_session.proofs.Prelude.{◌≡◌, ◌≢◌, ◌≤◌, ◌-◌, inl, inr, ℕ, zero, suc, List, [], ◌∷◌, ◌++◌, length, remove, Bool, true, false, not, nat_eq, ◌&&◌, ◌||◌, Option, Some, None, position, slice_get, slice_set, Err, refl, sym, ap, subst, ◌∙◌, option_map, list_any, eqb-true, eqb-false, Waiting, waiting_at, Answer, Entry, Began, Call, Op, said_of, is_other, LaneFile, Step, Send, Wait, Done, Shelf, Mounted, Machine, machine_of, Lane, Purpose, State, Busy, Over, Setup, is_busy, IsIdle, with_state, IsRefused, Leads, Stirs, counted, StartsLane, TakesAt, AnswersAt, View, turn_at, unmade_turn, in_flight, AreApart, IsLive, taken_one, Known, taker-one, lanes-stay, lanes-begin, lanes-under-way, at-set, at-push, look-idle, look-at, Sits, same-sits, seat_with, seat-own, seat-other, SitsWith, joins, Placed, Putting, Saving, file_of, FileMachine, Opener}
use Rattle.std.proofs.lemmas.Bool.{ne_eqb}
use Rattle.core_facts.proofs.AllSeats.{begins-fresh, OfMachine, all-starts, all-resumes, all-takes}
use Rattle.core_facts.proofs.Looks.{look_in, look-set, look-push, look-remove}
use Rattle.core_facts.proofs.Orders.{none-sits, leaves}
use Rattle.std.specs.Cmp.Lexicographic.{pointwise, bytes_decides}
use Rattle.file_ops.specs.declared.put_file.Putting.TheVariants as putting
use Rattle.op_machines.specs.declared.file_machine.FileMachine.TheVariants as files
use Rattle.op_machines.specs.declared.machine.Machine.TheVariants as machines
use Rattle.core_session.proofs.syncs.PutGoes.{put_own, file_own, path_own, own_save}
use Rattle.core_session.proofs.syncs.PutSeats.{put_at_file, puts_file, puts_path, puts_of, Fin, puts-starts, puts-resumes, puts-takes}

-- ---- the places of the lanes

abbrev pub put_state : State → Option (List ℕ)
put_state (Busy machine) = puts_of machine
put_state (Over answer) = None

abbrev pub put_in : ℕ → List Lane → Option (List ℕ)
put_in n lanes = look_in put_state n lanes

abbrev pub PutPlaced : View → Type 0
PutPlaced v = Sits (λ n. put_in n v.lanes) v.shelf.puts

-- ---- one step

-- The operation of the lane at a place made a step, and what that leads to is still to come.
pub record Owes (v : View) (at number : ℕ) (machine : Machine) (base : ℕ → Option (List ℕ)) (next : Step) : Type 0 where
  pub there : slice_get v.lanes at ≡ Some (record { number = number; state = Busy machine })
  pub apart : AreApart v.lanes
  pub least : 1 ≤ number
  pub most : number ≤ 16
  pub others : (n : ℕ) → n ≢ number → base n ≡ put_in n v.lanes
  pub live : (call : Call) → next ≡ Send call → IsLive number machine
  pub step : Fin (SitsWith number base) puts_of next machine v.shelf.puts

module _ (v : View) (at number : ℕ) (machine : Machine) (base : ℕ → Option (List ℕ)) (next : Step) (o : Owes v at number machine base next) where
  owes-set : (state : State) (shelf : Shelf) → SitsWith number base (put_state state) shelf.puts → PutPlaced (with_state v at number state shelf)
  owes-set state shelf sits =
      same-sits (seat_with number (put_state state) base) (λ n. put_in n (slice_set v.lanes at (record { number = number; state = state }))) shelf.puts
      (λ n. look-set put_state n v.lanes at number (Busy machine) state o.apart o.there ∙ with-base n (nat_eq n number) refl) sits
    where
      with-base : (n : ℕ) (b : Bool) → nat_eq n number ≡ b → seat_with number (put_state state) (λ m. put_in m v.lanes) n ≡ seat_with number (put_state state) base n
      with-base n true d =
          let same = eqb-true n number d in
          ap (λ (k : ℕ). seat_with number (put_state state) (λ m. put_in m v.lanes) k) same ∙ seat-own number (put_state state) (λ m. put_in m v.lanes)
          ∙ sym (ap (λ (k : ℕ). seat_with number (put_state state) base k) same ∙ seat-own number (put_state state) base)
      with-base n false d =
          let apart = eqb-false n number d in
          seat-other number n (put_state state) (λ m. put_in m v.lanes) apart ∙ sym (seat-other number n (put_state state) base apart ∙ o.others n apart)

  -- the lanes as they are
  owes-here : SitsWith number base (puts_of machine) v.shelf.puts → PutPlaced v
  owes-here sits = same-sits (seat_with number (puts_of machine) base) (λ n. put_in n v.lanes) v.shelf.puts (λ n. here n (nat_eq n number) refl) sits
    where
      here : (n : ℕ) (b : Bool) → nat_eq n number ≡ b → put_in n v.lanes ≡ seat_with number (puts_of machine) base n
      here n true d =
          let same = eqb-true n number d in
          ap (λ (k : ℕ). put_in k v.lanes) same ∙ look-at put_state v.lanes at number (Busy machine) o.apart o.there
          ∙ sym (ap (λ (k : ℕ). seat_with number (puts_of machine) base k) same ∙ seat-own number (puts_of machine) base)
      here n false d =
          let apart = eqb-false n number d in
          sym (o.others n apart) ∙ sym (seat-other number n (puts_of machine) base apart)

leads-put : (v new : View) (at number : ℕ) (machine : Machine) (base : ℕ → Option (List ℕ)) (next : Step) → Owes v at number machine base next → Leads v at number machine next new → PutPlaced new
leads-put v new at number machine base (Send call) o (inl m) = subst PutPlaced (sym m.is) (owes-here v at number machine base (Send call) o o.step)
leads-put v new at number machine base (Send call) o (inr r) =
    subst PutPlaced (sym r.is) (by r.next r.state
    (puts-takes (SitsWith number base) number (leaves number base) (joins number base o.least o.most) machine v.wsize (turn_at v) (unmade_turn v) (Err r.fault) v.shelf r.next
    r.after r.left (o.live call refl) o.step r.takes) r.leads)
  where
    by : (next : Step) (state : State) → Fin (SitsWith number base) puts_of next r.after r.left.puts → IsRefused r.after next state → PutPlaced (with_state v at number state r.left)
    by (Send again) state s is = absurd is
    by Wait state s is =
        subst (λ (t : State). PutPlaced (with_state v at number t r.left)) (sym is) (owes-set v at number machine base (Send call) o (Busy r.after) r.left s)
    by (Done answer) state s is =
        subst (λ (t : State). PutPlaced (with_state v at number t r.left)) (sym is) (owes-set v at number machine base (Send call) o (Over answer) r.left s)
leads-put v new at number machine base Wait o is = subst PutPlaced (sym is) (owes-here v at number machine base Wait o o.step)
leads-put v new at number machine base (Done answer) o is = subst PutPlaced (sym is) (owes-set v at number machine base (Done answer) o (Over answer) v.shelf o.step)

-- where a step begins
own-put : (v : View) (at number : ℕ) (machine : Machine) → AreApart v.lanes → slice_get v.lanes at ≡ Some (record { number = number; state = Busy machine }) → PutPlaced v
    → SitsWith number (λ n. put_in n v.lanes) (puts_of machine) v.shelf.puts
own-put v at number machine apart there p =
    same-sits (λ n. put_in n v.lanes) (seat_with number (puts_of machine) (λ n. put_in n v.lanes)) v.shelf.puts (λ n. by n (nat_eq n number) refl) p
  where
    by : (n : ℕ) (b : Bool) → nat_eq n number ≡ b → seat_with number (puts_of machine) (λ m. put_in m v.lanes) n ≡ put_in n v.lanes
    by n true d =
        let same = eqb-true n number d in
        ap (λ (k : ℕ). seat_with number (puts_of machine) (λ m. put_in m v.lanes) k) same ∙ seat-own number (puts_of machine) (λ m. put_in m v.lanes)
        ∙ sym (ap (λ (k : ℕ). put_in k v.lanes) same ∙ look-at put_state v.lanes at number (Busy machine) apart there)
    by n false d = seat-other number n (puts_of machine) (λ m. put_in m v.lanes) (eqb-false n number d)

set-base : (lanes : List Lane) (at number : ℕ) (machine after : Machine) → AreApart lanes → slice_get lanes at ≡ Some (record { number = number; state = Busy machine })
    → (n : ℕ) → n ≢ number → put_in n lanes ≡ put_in n (slice_set lanes at (record { number = number; state = Busy after }))
set-base lanes at number machine after apart there n other =
    sym (look-set put_state n lanes at number (Busy machine) (Busy after) apart there ∙ seat-other number n (puts_of after) (λ m. put_in m lanes) other)

-- as long as it goes on it is at work
abbrev Any : Option (List ℕ) → List LaneFile → Type 0
Any seat order = Unit {0}

sent-live : (lane : ℕ) (next : Step) (m : Machine) (order : List LaneFile) → OfMachine lane Any (λ seat o p. tt) (λ seat file o p. tt) next m order → (call : Call) → next ≡ Send call → IsLive lane m
sent-live lane (Send call) m order s asked is = s.0
sent-live lane Wait m order s asked is = s.0
sent-live lane (Done answer) m order s asked is = absurd (cc)

module _ (m : Mounted) (setup : Setup) where
  pub stirs-put : (h : List Entry) (old new : View) (at : ℕ) → Known setup h old → Placed old → Stirs old at new → PutPlaced old → PutPlaced new
  stirs-put h old new at k placed t p =
      let apart = (lanes-under-way h old k.lanes).apart in
      let own = placed.live at (record { number = t.number; state = Busy t.machine }) t.there in
      leads-put (with_state old at t.number (Busy t.after) t.shelf) new at t.number t.after (λ n. put_in n old.lanes) t.next
      (record {
        there = at-set old.lanes at (record { number = t.number; state = Busy t.machine }) (record { number = t.number; state = Busy t.after }) t.there;
        apart = (lanes-under-way h (with_state old at t.number (Busy t.after) t.shelf)
            ((lanes-stay h).sets old at t.number (Busy t.machine) (Busy t.after) t.shelf t.there k.lanes)).apart;
        least = own.least;
        most = own.most;
        others = set-base old.lanes at t.number t.machine t.after apart t.there;
        live = sent-live t.number t.next t.after t.shelf.order
            (all-resumes t.number Any (λ seat o p. tt) (λ seat file o p. tt) t.machine old.wsize (turn_at old) old.shelf t.next t.after t.shelf own.live tt t.resumes);
        step = puts-resumes (SitsWith t.number (λ n. put_in n old.lanes)) t.number (leaves t.number (λ n. put_in n old.lanes)) (joins t.number (λ n. put_in n old.lanes) own.least own.most)
            t.machine old.wsize (turn_at old) old.shelf t.next t.after t.shelf own.live (own-put old at t.number t.machine apart t.there p) t.resumes;
      }) t.leads

  pub starts-put : (h : List Entry) (old new : View) (lane : ℕ) (op : Op) (now : ℕ) → Known setup h old → IsIdle lane old.lanes → StartsLane (counted old now) lane (machine_of m lane op) new
      → PutPlaced old → PutPlaced new
  starts-put h old new lane op now k idle t p =
      leads-put v new (length old.lanes) lane t.after (λ n. put_in n old.lanes) t.next
      (record {
        there = at-push old.lanes (record { number = lane; state = Busy t.after });
        apart = (lanes-under-way (h ++ Began lane 0 op ∷ []) v (lanes-begin h old lane 0 op k.lanes idle.other (Busy t.after))).apart;
        least = idle.least;
        most = idle.most;
        others = λ n other. sym (look-push put_state n old.lanes lane (Busy t.after) idle.other ∙ seat-other lane n (puts_of t.after) (λ j. put_in j old.lanes) other);
        live = sent-live lane t.next t.after t.shelf.order
            (all-starts lane Any (λ seat o p. tt) (λ seat file o p. tt) (machine_of m lane op) old.wsize (turn_at (counted old now)) old.shelf t.next t.after t.shelf (begins-fresh m lane op) tt t.starts);
        step = puts-starts (SitsWith lane (λ n. put_in n old.lanes)) lane (leaves lane (λ n. put_in n old.lanes)) (joins lane (λ n. put_in n old.lanes) idle.least idle.most)
            (machine_of m lane op) old.wsize (turn_at (counted old now)) old.shelf t.next t.after t.shelf (begins-fresh m lane op)
            (same-sits (λ n. put_in n old.lanes) (seat_with lane None (λ n. put_in n old.lanes)) old.shelf.puts (λ n. none n (nat_eq n lane) refl) p) t.starts;
      }) t.leads
    where
      v : View
      v = record (counted old now) { lanes = old.lanes ++ record { number = lane; state = Busy t.after } ∷ []; shelf = t.shelf }

      none : (n : ℕ) (b : Bool) → nat_eq n lane ≡ b → seat_with lane None (λ j. put_in j old.lanes) n ≡ put_in n old.lanes
      none n true d =
          let same = eqb-true n lane d in
          ap (λ (j : ℕ). seat_with lane None (λ i. put_in i old.lanes) j) same ∙ seat-own lane None (λ i. put_in i old.lanes)
          ∙ sym (ap (λ (j : ℕ). put_in j old.lanes) same ∙ look-idle put_state lane old.lanes idle.other)
      none n false d = seat-other lane n None (λ j. put_in j old.lanes) (eqb-false n lane d)

  pub takes-put : (h : List Entry) (old new : View) (rec : List ℕ) (xid : ℕ) (call : Waiting Purpose) (at : ℕ) → Known setup h old → Placed old
      → waiting_at xid old.calls.calls ≡ Some call → position (is_busy call.purpose.lane) old.lanes ≡ Some at
      → TakesAt (taken_one old xid) at call.purpose.sent (said_of call.purpose.proc rec) new → PutPlaced old → PutPlaced new
  takes-put h old new rec xid call at k placed waits there t p =
      let apart = (lanes-under-way h old k.lanes).apart in
      let own = placed.live at (record { number = t.number; state = Busy t.machine }) t.there in
      let one = taker-one setup h old xid call at k waits there t.number t.machine t.there in
      leads-put (with_state (taken_one old xid) at t.number (Busy t.after) t.shelf) new at t.number t.after (λ n. put_in n old.lanes) t.next
      (record {
        there = at-set old.lanes at (record { number = t.number; state = Busy t.machine }) (record { number = t.number; state = Busy t.after }) t.there;
        apart = (lanes-under-way h (with_state (taken_one old xid) at t.number (Busy t.after) t.shelf)
            ((lanes-stay h).sets (taken_one old xid) at t.number (Busy t.machine) (Busy t.after) t.shelf t.there k.lanes)).apart;
        least = own.least;
        most = own.most;
        others = set-base old.lanes at t.number t.machine t.after apart t.there;
        live = sent-live t.number t.next t.after t.shelf.order
            (all-takes t.number Any (λ seat o p. tt) (λ seat file o p. tt) t.machine old.wsize call.purpose.sent (turn_at (taken_one old xid)) (said_of call.purpose.proc rec) old.shelf t.next
            t.after t.shelf (in_flight t.machine - 1) own.live one tt t.takes);
        step = puts-takes (SitsWith t.number (λ n. put_in n old.lanes)) t.number (leaves t.number (λ n. put_in n old.lanes)) (joins t.number (λ n. put_in n old.lanes) own.least own.most)
            t.machine old.wsize call.purpose.sent (turn_at (taken_one old xid)) (said_of call.purpose.proc rec) old.shelf t.next t.after t.shelf own.live
            (own-put old at t.number t.machine apart t.there p) t.takes;
      }) t.leads

  pub answers-put : (h : List Entry) (old new : View) (at lane : ℕ) (answer : Answer) → Known setup h old → AnswersAt old at lane (Some answer) new → PutPlaced old → PutPlaced new
  answers-put h old new at lane answer k a p =
      subst PutPlaced (sym a.is)
      (same-sits (λ n. put_in n old.lanes) (λ n. put_in n (remove old.lanes at)) old.shelf.puts
      (λ n. look-remove put_state n old.lanes at (record { number = lane; state = Over a.answer }) (lanes-under-way h old k.lanes).apart a.there refl) p)

  pub same-put : (old new : View) → new.lanes ≡ old.lanes → new.shelf ≡ old.shelf → PutPlaced old → PutPlaced new
  same-put old new lanes shelf p =
      subst (λ (s : Shelf). Sits (λ n. put_in n new.lanes) s.puts) (sym shelf)
      (same-sits (λ n. put_in n old.lanes) (λ n. put_in n new.lanes) old.shelf.puts (λ n. ap (λ (ls : List Lane). put_in n ls) lanes) p)

  pub fresh-put : (v : View) → v.lanes ≡ [] → v.shelf.puts ≡ [] → PutPlaced v
  fresh-put v lanes none =
      subst (λ (ps : List LaneFile). Sits (λ n. put_in n v.lanes) ps) (sym none) (none-sits (λ n. put_in n v.lanes) (λ n. ap (λ (ls : List Lane). put_in n ls) lanes))

-- ---- another put of the file isn't alone

one-place : (a b : LaneFile) → Some a ≡ Some b → a ≡ b
one-place a b e = cc

or-left : (a b : Bool) → a ≡ true → (a || b) ≡ true
or-left true b e = refl
or-left false b e = absurd (cc)

or-right : (a b : Bool) → b ≡ true → (a || b) ≡ true
or-right true b e = refl
or-right false b e = e

any-at : (p : LaneFile → Bool) (ps : List LaneFile) (k : ℕ) (place : LaneFile) → slice_get ps k ≡ Some place → p place ≡ true → list_any p ps ≡ true
any-at p [] k place there is = absurd (cc)
any-at p (q ∷ ps) zero place there is = or-left (p q) (list_any p ps) (ap p (one-place q place there) ∙ is)
any-at p (q ∷ ps) (suc k) place there is = or-right (p q) (list_any p ps) (any-at p ps k place there is)

pub crowded : (v : View) (at n : ℕ) (machine : Machine) (f : List ℕ) (lane : ℕ) → AreApart v.lanes → PutPlaced v → slice_get v.lanes at ≡ Some (record { number = n; state = Busy machine })
    → puts_of machine ≡ Some f → n ≢ lane → list_any (is_other lane f) v.shelf.puts ≡ true
crowded v at n machine f lane apart p there seat other =
    let own = p.has n f (look-at put_state v.lanes at n (Busy machine) apart there ∙ seat) in
    any-at (is_other lane f) v.shelf.puts own.at (record { lane = n; file = f }) own.there
    (ap (λ (b : Bool). not b && pointwise nat_eq f f) (ne_eqb n lane other) ∙ (bytes_decides f f).1 refl)

-- ---- at its own save a put is at the file of that

put-at : (at : Putting) (z : Saving) → put_own at ≡ Some z → put_at_file at ≡ Some z.file
put-at putting.Idle z is = absurd (let no_way : None ≡ Some z = is in cc)
put-at putting.Opens z is = absurd (let no_way : None ≡ Some z = is in cc)
put-at (putting.Adds file) z is = absurd (let no_way : None ≡ Some z = is in cc)
put-at (putting.Saves s) z is = ap (option_map (λ (y : Saving). y.file)) is

file-at : (m : FileMachine) (z : Saving) → file_own m ≡ Some z → puts_file m ≡ Some z.file
file-at (files.Open m) z is = absurd (let no_way : None ≡ Some z = is in cc)
file-at (files.Read m) z is = absurd (let no_way : None ≡ Some z = is in cc)
file-at (files.Write m) z is = absurd (let no_way : None ≡ Some z = is in cc)
file-at (files.Sync m) z is = absurd (let no_way : None ≡ Some z = is in cc)
file-at (files.Close m) z is = absurd (let no_way : None ≡ Some z = is in cc)
file-at (files.Truncate m) z is = absurd (let no_way : None ≡ Some z = is in cc)
file-at (files.Put m) z is = put-at m.state z is

path-at : (there : Bool) (m : Opener) (z : Saving) → path_own there m ≡ Some z → puts_path there m ≡ Some z.file
path-at true m z is = file-at (file_of m) z is
path-at false m z is = absurd (let no_way : None ≡ Some z = is in cc)

pub own-at : (m : Machine) (z : Saving) → own_save m ≡ Some z → puts_of m ≡ Some z.file
own-at (machines.File m) z is = file-at m z is
own-at (machines.Path m) z is = path-at m.arrived m.opener z is
own-at (machines.Name m) z is = absurd (let no_way : None ≡ Some z = is in cc)
