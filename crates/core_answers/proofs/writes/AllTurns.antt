-- Along a history each operation on a file whose call waits is the first in the order of its file.
use Rattle.core_answers.proofs.Prelude.{◌≡◌, ◌≢◌, ◌+◌, ◌-◌, ◌⊎◌, inl, inr, ℕ, Bool, true, false, List, [], ◌∷◌, ◌++◌, length, Option, Some, None, position, slice_get, slice_set, Result, Err, refl, sym, ap, subst, ◌∙◌, Waiting, waiting_at, Fault, Entry, Began, Reply, Op, said_of, LaneFile, Step, Send, Wait, Done, Shelf, Turn, left, Closing, Putting, Syncing, Truncating, Writing, WalkStep, Mounted, FileMachine, Machine, Opener, PathMachine, machine_of, file_of, slot_taken, begun_at, placed, Starts, Resumes, Takes, Lane, Purpose, State, Busy, Over, Setup, is_busy, IsIdle, with_state, IsRefused, Leads, Stirs, counted, StartsLane, TakesAt, View, turn_at, unmade_turn, in_flight, Counts, counts-calls, begins-unbegun, of_path, path-file, taken_one, Known, lanes-stay, lanes-begin, lanes-under-way, at-set, at-push, get-push, by-place, set-other}
use Rattle.client_shelf.specs.LaneFiles.{added}
use Rattle.core_facts.proofs.Keeping.{Keeps, taker-one}
use Rattle.core_facts.proofs.LaneMarks.{idle-numbers, number_of}
use Rattle.core_facts.proofs.Lists.{to-map}
use Rattle.file_ops.specs.declared.close_file.Closing.TheVariants as closing
use Rattle.file_ops.specs.declared.put_file.Putting.TheVariants as putting
use Rattle.file_ops.specs.declared.sync_file.Syncing.TheVariants as syncing
use Rattle.file_ops.specs.declared.truncate_file.Truncating.TheVariants as truncating
use Rattle.file_ops.specs.declared.write_file.Writing.TheVariants as writing
use Rattle.name_ops.specs.declared.walk.WalkStep.TheVariants as walks
use Rattle.name_ops.specs.Walking as walking
use Rattle.op_machines.specs.declared.file_machine.FileMachine.TheVariants as files
use Rattle.op_machines.specs.declared.machine.Machine.TheVariants as machines
use Rattle.op_machines.specs.declared.opener.Opener.TheVariants as openers
use Rattle.op_machines.specs.PathSteps as paths
use Rattle.core_facts.specs.Lanes.{AreApart}
use Rattle.core_facts.proofs.AllSeats.{IsLive, IsFreshFor, OnPath, begins-fresh}
use Rattle.core_facts.proofs.AllSeats as seats
use Rattle.core_facts.proofs.FileSeats.{FileLive, Seats}
use Rattle.core_facts.proofs.Placing.{Placed, AllLive, StateLive, keeps-placed}
use Rattle.core_answers.proofs.writes.Firsts.{first-left, first-added}
use Rattle.core_answers.proofs.writes.Holding.{StateHas, LanesHave, lanes-without}
use Rattle.core_answers.proofs.writes.Turns.{Still, IsFirst, SyncTurn, CloseTurn, WriteTurn, TruncateTurn, PutTurn, FileTurn, file-starts, file-resumes, file-takes}

-- ---- any operation

abbrev pub PathTurn : Bool → Opener → List LaneFile → Type 0
PathTurn true opener order = FileTurn (file_of opener) order
PathTurn false opener order = Unit {0}

abbrev pub TurnOf : Machine → List LaneFile → Type 0
TurnOf (machines.File m) order = FileTurn m order
TurnOf (machines.Path m) order = PathTurn m.arrived m.opener order
TurnOf (machines.Name m) order = Unit {0}

any-next : (next : Step) (X : Type 0) → X → Still next X
any-next (Send call) X x = x
any-next Wait X x = x
any-next (Done answer) X x = tt

module _ (wsize : ℕ) (turn : Turn) where
  abbrev OfPath : Step → PathMachine → List LaneFile → Type 0
  OfPath next m order = Still next (PathTurn m.arrived m.opener order)

  all-as : (next : Step) (to new : Machine) (order : List LaneFile) → new ≡ to → Still next (TurnOf to order) → Still next (TurnOf new order)
  all-as next to new order is t = subst (λ (m : Machine). Still next (TurnOf m order)) (sym is) t

  arrived-as : (next : Step) (m : PathMachine) (opener : Opener) (new : PathMachine) (order : List LaneFile) → m.arrived ≡ true → new ≡ record m { opener = opener }
      → Still next (FileTurn (file_of opener) order) → OfPath next new order
  arrived-as next m opener new order there is t =
      subst (λ (n : PathMachine). OfPath next n order) (sym is) (subst (λ (b : Bool). Still next (PathTurn b opener order)) (sym there) t)

  way-as : (next : Step) (m new : PathMachine) (order : List LaneFile) → m.arrived ≡ false → new ≡ m → OfPath next new order
  way-as next m new order way is =
      subst (λ (n : PathMachine). OfPath next n order) (sym is) (any-next next _ (subst (λ (b : Bool). PathTurn b m.opener order) (sym way) tt))

  placed-turn : (dir : List ℕ) (o : Opener) (order : List LaneFile) → FileTurn (file_of (placed dir o)) order
  placed-turn dir (openers.Open m) order = tt
  placed-turn dir (openers.Put m) order = tt

  follows-path : (step : WalkStep) (m : PathMachine) (old : Shelf) (next : Step) (new : PathMachine) (after : Shelf) → m.arrived ≡ false
      → paths.Follows step wsize m turn old next new after → OfPath next new after.order
  follows-path (walks.Send call) m old next new after way f = way-as next m new after.order way f.1
  follows-path walks.Wait m old next new after way f = way-as next m new after.order way f.1
  follows-path (walks.At dir) m old next new after way f =
      arrived-as next (record m { opener = placed dir m.opener; arrived = true }) f.opener new after.order refl f.machine_is
      (file-resumes wsize turn (file_of (placed dir m.opener)) old next (file_of f.opener) after (placed-turn dir m.opener old.order) f.step)
  follows-path (walks.Refused fault) m old next new after way f = way-as next m new after.order way f.1

  path-resumes : (b : Bool) (m : PathMachine) (old : Shelf) (next : Step) (new : PathMachine) (after : Shelf) → m.arrived ≡ b → PathTurn b m.opener old.order
      → paths.PathResumes b wsize m turn old next new after → OfPath next new after.order
  path-resumes true m old next new after is t r =
      arrived-as next m r.opener new after.order is r.machine_is (file-resumes wsize turn (file_of m.opener) old next (file_of r.opener) after t r.step)
  path-resumes false m old next new after is t r =
      follows-path (walking.go_next m.walk turn old) (record m { walk = walking.go_after m.walk turn old }) (walking.go_shelf m.walk turn old) next new after is r

  path-starts : (taken : Bool) (m : PathMachine) (old : Shelf) (next : Step) (new : PathMachine) (after : Shelf) → m.arrived ≡ false
      → paths.StartsIf taken wsize m turn old next new after → OfPath next new after.order
  path-starts true m old next new after way s = way-as next m new after.order way s.1
  path-starts false m old next new after way s =
      path-resumes m.arrived (record m { opener = begun_at (turn.moment - 1) m.opener }) old next new after refl
      (subst (λ (b : Bool). PathTurn b (begun_at (turn.moment - 1) m.opener) old.order) (sym way) tt) s

  path-takes : (sent : Turn) (came : Result Reply Fault) (b : Bool) (m : PathMachine) (old : Shelf) (next : Step) (new : PathMachine) (after : Shelf) (others : ℕ)
      → m.arrived ≡ b → of_path m ≡ others + 1 → PathTurn b m.opener old.order → paths.PathTakes b wsize m sent turn came old next new after → OfPath next new after.order
  path-takes sent came true m old next new after others is one t s =
      arrived-as next m s.opener new after.order is s.machine_is
      (file-takes wsize turn sent came (file_of m.opener) old next (file_of s.opener) after others (sym (path-file m is) ∙ one) t s.step)
  path-takes sent came false m old next new after others is one t s =
      follows-path s.step s.walked s.heard next new after (ap (λ (n : PathMachine). n.arrived) s.walked_is ∙ is) s.follows

  pub all-starts : (m : Machine) (lane : ℕ) (old : Shelf) (next : Step) (new : Machine) (after : Shelf) → IsFreshFor lane m → Starts wsize m turn old next new after
      → Still next (TurnOf new after.order)
  all-starts (machines.File m) lane old next new after fresh s =
      all-as next (machines.File s.machine) new after.order s.machine_is (file-starts wsize turn m old next s.machine after s.step)
  all-starts (machines.Path m) lane old next new after fresh s =
      all-as next (machines.Path s.machine) new after.order s.machine_is (path-starts (slot_taken m.opener old.opens) m old next s.machine after fresh.on_way s.step)
  all-starts (machines.Name m) lane old next new after fresh s = all-as next (machines.Name s.machine) new after.order s.machine_is (any-next next _ tt)

  pub all-resumes : (m : Machine) (old : Shelf) (next : Step) (new : Machine) (after : Shelf) → TurnOf m old.order → Resumes wsize m turn old next new after
      → Still next (TurnOf new after.order)
  all-resumes (machines.File m) old next new after t s =
      all-as next (machines.File s.machine) new after.order s.machine_is (file-resumes wsize turn m old next s.machine after t s.step)
  all-resumes (machines.Path m) old next new after t s =
      all-as next (machines.Path s.machine) new after.order s.machine_is (path-resumes m.arrived m old next s.machine after refl t s.step)
  all-resumes (machines.Name m) old next new after t s = all-as next (machines.Name s.machine) new after.order s.machine_is (any-next next _ tt)

  pub all-takes : (sent : Turn) (came : Result Reply Fault) (m : Machine) (old : Shelf) (next : Step) (new : Machine) (after : Shelf) (others : ℕ) → in_flight m ≡ others + 1
      → TurnOf m old.order → Takes wsize m sent turn came old next new after → Still next (TurnOf new after.order)
  all-takes sent came (machines.File m) old next new after others one t s =
      all-as next (machines.File s.machine) new after.order s.machine_is (file-takes wsize turn sent came m old next s.machine after others one t s.step)
  all-takes sent came (machines.Path m) old next new after others one t s =
      all-as next (machines.Path s.machine) new after.order s.machine_is (path-takes sent came m.arrived m old next s.machine after others refl one t s.step)
  all-takes sent came (machines.Name m) old next new after others one t s = all-as next (machines.Name s.machine) new after.order s.machine_is (any-next next _ tt)

-- ---- the other lanes

abbrev pub OthersStay : ℕ → List LaneFile → List LaneFile → Type 0
OthersStay lane old new = (n : ℕ) → n ≢ lane → IsFirst n old → IsFirst n new

module _ (lane : ℕ) (start : List LaneFile) where
  abbrev Kept : Option (List ℕ) → List LaneFile → Type 0
  Kept seat order = OthersStay lane start order

  leaves : (seat : Option (List ℕ)) (order : List LaneFile) → Kept seat order → Kept None (left lane order)
  leaves seat order p n apart first = first-left n lane order apart (p n apart first)

  joins : (seat : Option (List ℕ)) (file : List ℕ) (order : List LaneFile) → Kept seat order → Kept (Some file) (added (record { lane = lane; file = file }) (left lane order))
  joins seat file order p n apart first = first-added n (record { lane = lane; file = file }) (left lane order) (first-left n lane order apart (p n apart first))

  kept-of : (next : Step) (Live : Type 0) (seat : Option (List ℕ)) (order : List LaneFile) → Seats lane Kept leaves joins next Live seat order → OthersStay lane start order
  kept-of (Send call) Live seat order s = s.1
  kept-of Wait Live seat order s = s.1
  kept-of (Done answer) Live seat order s = s

module _ (wsize : ℕ) (turn : Turn) (lane : ℕ) where
  others-start : (m : Machine) (old : Shelf) (next : Step) (new : Machine) (after : Shelf) → IsFreshFor lane m → Starts wsize m turn old next new after
      → OthersStay lane old.order after.order
  others-start m old next new after fresh s =
      kept-of lane old.order next _ _ after.order
      (seats.all-starts lane (Kept lane old.order) (leaves lane old.order) (joins lane old.order) m wsize turn old next new after fresh (λ n apart first. first) s)

  others-resume : (m : Machine) (old : Shelf) (next : Step) (new : Machine) (after : Shelf) → IsLive lane m → Resumes wsize m turn old next new after
      → OthersStay lane old.order after.order
  others-resume m old next new after live s =
      kept-of lane old.order next _ _ after.order
      (seats.all-resumes lane (Kept lane old.order) (leaves lane old.order) (joins lane old.order) m wsize turn old next new after live (λ n apart first. first) s)

  others-take : (sent : Turn) (came : Result Reply Fault) (m : Machine) (old : Shelf) (next : Step) (new : Machine) (after : Shelf) (others : ℕ) → IsLive lane m
      → in_flight m ≡ others + 1 → Takes wsize m sent turn came old next new after → OthersStay lane old.order after.order
  others-take sent came m old next new after others live one s =
      kept-of lane old.order next _ _ after.order
      (seats.all-takes lane (Kept lane old.order) (leaves lane old.order) (joins lane old.order) m wsize sent turn came old next new after others live one (λ n apart first. first) s)

sync-map : (T U : Type 0) → (T → U) → (state : Syncing) → SyncTurn T state → SyncTurn U state
sync-map T U f syncing.Idle t = tt
sync-map T U f (syncing.Saves saving) t = λ some. f (t some)

close-map : (T U : Type 0) → (T → U) → (state : Closing) → CloseTurn T state → CloseTurn U state
close-map T U f closing.Idle t = tt
close-map T U f (closing.Queued saving) t = tt
close-map T U f (closing.Saves saving) t = λ some. f (t some)
close-map T U f (closing.ToRemove removal) t = f t
close-map T U f (closing.Removing removal) t = f t

write-map : (T U : Type 0) → (T → U) → (state : Writing) → WriteTurn T state → WriteTurn U state
write-map T U f writing.Idle t = tt
write-map T U f (writing.Room file saving) t = λ some. f (t some)

truncate-map : (T U : Type 0) → (T → U) → (state : Truncating) → TruncateTurn T state → TruncateTurn U state
truncate-map T U f truncating.Idle t = tt
truncate-map T U f (truncating.Queued file upto) t = tt
truncate-map T U f (truncating.Asked file upto) t = f t

put-map : (T U : Type 0) → (T → U) → (state : Putting) (write : Writing) → PutTurn T state write → PutTurn U state write
put-map T U f putting.Idle write t = tt
put-map T U f putting.Opens write t = tt
put-map T U f (putting.Adds file) write t = write-map T U f write t
put-map T U f (putting.Saves saving) write t = λ some. f (t some)

module _ (lane : ℕ) (old new : List LaneFile) (f : IsFirst lane old → IsFirst lane new) where
  own-first : (l : ℕ) → l ≡ lane → IsFirst l old → IsFirst l new
  own-first l same first = subst (λ (n : ℕ). IsFirst n new) (sym same) (f (subst (λ (n : ℕ). IsFirst n old) same first))

  file-stays : (m : FileMachine) → FileLive lane m → FileTurn m old → FileTurn m new
  file-stays (files.Open m) live t = tt
  file-stays (files.Read m) live t = tt
  file-stays (files.Write m) live t = write-map (IsFirst m.lane old) (IsFirst m.lane new) (own-first m.lane live.0) m.state t
  file-stays (files.Sync m) live t = sync-map (IsFirst m.lane old) (IsFirst m.lane new) (own-first m.lane live.0) m.state t
  file-stays (files.Close m) live t = close-map (IsFirst m.lane old) (IsFirst m.lane new) (own-first m.lane live.0) m.state t
  file-stays (files.Truncate m) live t = truncate-map (IsFirst m.lane old) (IsFirst m.lane new) (own-first m.lane live.0) m.state t
  file-stays (files.Put m) live t = put-map (IsFirst m.write.lane old) (IsFirst m.write.lane new) (own-first m.write.lane live.0) m.state m.write.state t

  path-stays : (b : Bool) (m : PathMachine) → OnPath b lane m → PathTurn b m.opener old → PathTurn b m.opener new
  path-stays true m live t = file-stays (file_of m.opener) live t
  path-stays false m live t = tt

  pub turn-stays : (m : Machine) → IsLive lane m → TurnOf m old → TurnOf m new
  turn-stays (machines.File m) live t = file-stays m live t
  turn-stays (machines.Path m) live t = path-stays m.arrived m live t
  turn-stays (machines.Name m) live t = tt

-- ---- along a history

abbrev pub LanesTurn : List Lane → List LaneFile → Type 0
LanesTurn lanes order = LanesHave (λ (m : Machine). TurnOf m order) lanes

pub record Turned (v : View) : Type 0 where
  pub placed : Placed v
  pub turns : LanesTurn v.lanes v.shelf.order

state-stays : (lane : ℕ) (old new : List LaneFile) → (IsFirst lane old → IsFirst lane new) → (state : State) → StateLive lane state → StateHas (λ (m : Machine). TurnOf m old) state
    → StateHas (λ (m : Machine). TurnOf m new) state
state-stays lane old new f (Busy machine) live t = turn-stays lane old new f machine live.live t
state-stays lane old new f (Over answer) live t = tt

-- the other lanes, after one lane's step, which leaves its own lane at some state
others-turn : (lanes : List Lane) (at number : ℕ) (was state : State) (old new : List LaneFile) → AreApart lanes → slice_get lanes at ≡ Some (record { number = number; state = was })
    → AllLive lanes → OthersStay number old new → LanesTurn lanes old → StateHas (λ (m : Machine). TurnOf m new) state
    → LanesTurn (slice_set lanes at (record { number = number; state = state })) new
others-turn lanes at number was state old new apart there live stay turns own =
    by-place (λ (l : Lane). StateHas (λ (m : Machine). TurnOf m new) l.state) (slice_set lanes at (record { number = number; state = state })) at (record { number = number; state = state })
    (at-set lanes at (record { number = number; state = was }) (record { number = number; state = state }) there) own
    (λ k lane here other.
    let was_here = sym (set-other lanes at k (record { number = number; state = state }) other) ∙ here in
    state-stays lane.number old new
    (stay lane.number (λ same. other (apart k at lane (record { number = number; state = was }) was_here there same))) lane.state (live k lane was_here) (turns k lane was_here))

still-busy : (next : Step) (machine : Machine) (order : List LaneFile) → Still next (TurnOf machine order) → (call : _) → next ≡ Send call → TurnOf machine order
still-busy (Send other) machine order s call is = s
still-busy Wait machine order s call is = absurd (cc)
still-busy (Done answer) machine order s call is = absurd (cc)

-- A step of the lane at a place was made: the other lanes are as they were, with this order.
pub record Owing (v : View) (at number before : ℕ) (machine : Machine) (next : Step) : Type 0 where
  pub there : slice_get v.lanes at ≡ Some (record { number = number; state = Busy machine })
  pub apart : AreApart v.lanes
  pub rest : (k : ℕ) (lane : Lane) → slice_get v.lanes k ≡ Some lane → k ≢ at → StateLive lane.number lane.state × StateHas (λ (m : Machine). TurnOf m v.shelf.order) lane.state
  pub live : (call : _) → next ≡ Send call → IsLive number machine
  pub own : Still next (TurnOf machine v.shelf.order)
  pub count : (call : _) → next ≡ Send call → in_flight machine ≡ before + 1

module _ (v new : View) (at number before : ℕ) (machine : Machine) (next : Step) (o : Owing v at number before machine next) where
  lanes-as : (state : State) (order : List LaneFile) → OthersStay number v.shelf.order order → StateHas (λ (m : Machine). TurnOf m order) state
      → LanesTurn (slice_set v.lanes at (record { number = number; state = state })) order
  lanes-as state order stay own =
      by-place (λ (l : Lane). StateHas (λ (m : Machine). TurnOf m order) l.state) (slice_set v.lanes at (record { number = number; state = state })) at (record { number = number; state = state })
      (at-set v.lanes at (record { number = number; state = Busy machine }) (record { number = number; state = state }) o.there) own
      (λ k lane here other.
      let was = sym (set-other v.lanes at k (record { number = number; state = state }) other) ∙ here in
      let r = o.rest k lane was other in
      state-stays lane.number v.shelf.order order
      (stay lane.number (λ same. other (o.apart k at lane (record { number = number; state = Busy machine }) was o.there same))) lane.state r.0 r.1)

  lanes-here : TurnOf machine v.shelf.order → LanesTurn v.lanes v.shelf.order
  lanes-here own =
      by-place (λ (l : Lane). StateHas (λ (m : Machine). TurnOf m v.shelf.order) l.state) v.lanes at (record { number = number; state = Busy machine }) o.there own
      (λ k lane here other. (o.rest k lane here other).1)

leads-turn : (v new : View) (at number before : ℕ) (machine : Machine) (next : Step) → Owing v at number before machine next → Leads v at number machine next new
    → LanesTurn new.lanes new.shelf.order
leads-turn v new at number before machine (Send call) o (inl m) = subst (λ (w : View). LanesTurn w.lanes w.shelf.order) (sym m.is) (lanes-here v new at number before machine (Send call) o o.own)
leads-turn v new at number before machine (Send call) o (inr r) =
    subst (λ (w : View). LanesTurn w.lanes w.shelf.order) (sym r.is)
    (lanes-as v new at number before machine (Send call) o r.state r.left.order
    (others-take v.wsize (unmade_turn v) number (turn_at v) (Err r.fault) machine v.shelf r.next r.after r.left before (o.live call refl) (o.count call refl) r.takes)
    (by r.next r.state (all-takes v.wsize (unmade_turn v) (turn_at v) (Err r.fault) machine v.shelf r.next r.after r.left before (o.count call refl) o.own r.takes) r.leads))
  where
    by : (next : Step) (state : State) → Still next (TurnOf r.after r.left.order) → IsRefused r.after next state → StateHas (λ (m : Machine). TurnOf m r.left.order) state
    by (Send again) state s is = absurd is
    by Wait state s is = subst (StateHas (λ (m : Machine). TurnOf m r.left.order)) (sym is) s
    by (Done answer) state s is = subst (StateHas (λ (m : Machine). TurnOf m r.left.order)) (sym is) tt
leads-turn v new at number before machine Wait o is = subst (λ (w : View). LanesTurn w.lanes w.shelf.order) (sym is) (lanes-here v new at number before machine Wait o o.own)
leads-turn v new at number before machine (Done answer) o is =
    subst (λ (w : View). LanesTurn w.lanes w.shelf.order) (sym is)
    (lanes-as v new at number before machine (Done answer) o (Over answer) v.shelf.order (λ n apart first. first) tt)

live-next : (lane : ℕ) (start : List LaneFile) (next : Step) (Live : Type 0) (seat : Option (List ℕ)) (order : List LaneFile)
    → Seats lane (Kept lane start) (leaves lane start) (joins lane start) next Live seat order → (call : _) → next ≡ Send call → Live
live-next lane start (Send other) Live seat order s call is = s.0
live-next lane start Wait Live seat order s call is = absurd (cc)
live-next lane start (Done answer) Live seat order s call is = absurd (cc)

count-next : (next : Step) (before : ℕ) (machine : Machine) → Counts next before machine → (call : _) → next ≡ Send call → in_flight machine ≡ before + 1
count-next (Send other) before machine c call is = c.0
count-next Wait before machine c call is = absurd (cc)
count-next (Done answer) before machine c call is = absurd (cc)

module _ (m : Mounted) (setup : Setup) where
  stirs-turned : (h : List Entry) (old new : View) (at : ℕ) → Known setup h old → Stirs old at new → Turned old → Turned new
  stirs-turned h old new at k t i =
      let apart = (lanes-under-way h old k.lanes).apart in
      let own = i.placed.live at (record { number = t.number; state = Busy t.machine }) t.there in
      let stay = others-resume old.wsize (turn_at old) t.number t.machine old.shelf t.next t.after t.shelf own.live t.resumes in
      record {
        placed = (keeps-placed m setup).stirs h old new at k t i.placed;
        turns = leads-turn (with_state old at t.number (Busy t.after) t.shelf) new at t.number (in_flight t.machine) t.after t.next (record {
          there = at-set old.lanes at (record { number = t.number; state = Busy t.machine }) (record { number = t.number; state = Busy t.after }) t.there;
          apart = (lanes-under-way h (with_state old at t.number (Busy t.after) t.shelf)
              ((lanes-stay h).sets old at t.number (Busy t.machine) (Busy t.after) t.shelf t.there k.lanes)).apart;
          rest = λ j lane here other.
              let was = sym (set-other old.lanes at j (record { number = t.number; state = Busy t.after }) other) ∙ here in
              let live = i.placed.live j lane was in (
                live,
                state-stays lane.number old.shelf.order t.shelf.order
                    (stay lane.number (λ same. other (apart j at lane (record { number = t.number; state = Busy t.machine }) was t.there same))) lane.state live (i.turns j lane was),
              );
          live = live-next t.number old.shelf.order t.next _ _ t.shelf.order
              (seats.all-resumes t.number (Kept t.number old.shelf.order) (leaves t.number old.shelf.order) (joins t.number old.shelf.order) t.machine old.wsize (turn_at old) old.shelf
              t.next t.after t.shelf own.live (λ n apart first. first) t.resumes);
          own = all-resumes old.wsize (turn_at old) t.machine old.shelf t.next t.after t.shelf (i.turns at (record { number = t.number; state = Busy t.machine }) t.there) t.resumes;
          count = count-next t.next (in_flight t.machine) t.after
              (counts-calls.resume old.wsize t.machine (turn_at old) old.shelf t.next t.after t.shelf t.resumes (k.known.right at (record { number = t.number; state = Busy t.machine }) t.there));
        }) t.leads;
      }

  starts-turned : (h : List Entry) (old new : View) (lane : ℕ) (op : Op) (now : ℕ) → Known setup h old → IsIdle lane old.lanes
      → StartsLane (counted old now) lane (machine_of m lane op) new → Turned old → Turned new
  starts-turned h old new lane op now k idle t i = record {
    placed = (keeps-placed m setup).starts h old new lane op now k idle t i.placed;
    turns = leads-turn v new (length old.lanes) lane 0 t.after t.next (record {
      there = at-push old.lanes (record { number = lane; state = Busy t.after });
      apart = (lanes-under-way (h ++ Began lane 0 op ∷ []) v (lanes-begin h old lane 0 op k.lanes idle.other (Busy t.after))).apart;
      rest = λ j l here other. before j l (get-push old.lanes (record { number = lane; state = Busy t.after }) j l here) other;
      live = live-next lane old.shelf.order t.next _ _ t.shelf.order
          (seats.all-starts lane (Kept lane old.shelf.order) (leaves lane old.shelf.order) (joins lane old.shelf.order) (machine_of m lane op) old.wsize (turn_at (counted old now)) old.shelf
          t.next t.after t.shelf (begins-fresh m lane op) (λ n apart first. first) t.starts);
      own = all-starts old.wsize (turn_at (counted old now)) (machine_of m lane op) lane old.shelf t.next t.after t.shelf (begins-fresh m lane op) t.starts;
      count = count-next t.next 0 t.after
          (counts-calls.start old.wsize (machine_of m lane op) (turn_at (counted old now)) old.shelf t.next t.after t.shelf t.starts (begins-unbegun m lane op));
    }) t.leads;
  }
    where
      v : View
      v = record (counted old now) { lanes = old.lanes ++ record { number = lane; state = Busy t.after } ∷ []; shelf = t.shelf }

      stay : OthersStay lane old.shelf.order t.shelf.order
      stay = others-start old.wsize (turn_at (counted old now)) lane (machine_of m lane op) old.shelf t.next t.after t.shelf (begins-fresh m lane op) t.starts

      before : (j : ℕ) (l : Lane) → (slice_get old.lanes j ≡ Some l) ⊎ ((j ≡ length old.lanes) × (l ≡ record { number = lane; state = Busy t.after })) → j ≢ length old.lanes
          → StateLive l.number l.state × StateHas (λ (m : Machine). TurnOf m t.shelf.order) l.state
      before j l (inl here) other =
          let live = i.placed.live j l here in (
            live,
            state-stays l.number old.shelf.order t.shelf.order (stay l.number (λ same. idle-at j l here same)) l.state live (i.turns j l here),
          )
        where
          idle-at : (j : ℕ) (l : Lane) → slice_get old.lanes j ≡ Some l → l.number ≡ lane → ⊥
          idle-at j l here same = idle-numbers lane _ idle.other j (to-map number_of old.lanes j l here ∙ ap Some same)
      before j l (inr now_) other = absurd (other now_.0)

  takes-turned : (h : List Entry) (old new : View) (rec : List ℕ) (xid : ℕ) (call : Waiting Purpose) (at : ℕ) → Known setup h old
      → waiting_at xid old.calls.calls ≡ Some call → position (is_busy call.purpose.lane) old.lanes ≡ Some at
      → TakesAt (taken_one old xid) at call.purpose.sent (said_of call.purpose.proc rec) new → Turned old → Turned new
  takes-turned h old new rec xid call at k waits there t i =
      let apart = (lanes-under-way h old k.lanes).apart in
      let own = i.placed.live at (record { number = t.number; state = Busy t.machine }) t.there in
      let one = taker-one setup h old xid call at k waits there t.number t.machine t.there in
      let turn = turn_at (taken_one old xid) in
      let stay = others-take old.wsize turn t.number call.purpose.sent (said_of call.purpose.proc rec) t.machine old.shelf t.next t.after t.shelf (in_flight t.machine - 1) own.live one
      t.takes in
      record {
        placed = (keeps-placed m setup).takes h old new rec xid call at k waits there t i.placed;
        turns = leads-turn (with_state (taken_one old xid) at t.number (Busy t.after) t.shelf) new at t.number (in_flight t.machine - 1) t.after t.next (record {
          there = at-set old.lanes at (record { number = t.number; state = Busy t.machine }) (record { number = t.number; state = Busy t.after }) t.there;
          apart = (lanes-under-way h (with_state (taken_one old xid) at t.number (Busy t.after) t.shelf)
              ((lanes-stay h).sets (taken_one old xid) at t.number (Busy t.machine) (Busy t.after) t.shelf t.there k.lanes)).apart;
          rest = λ j lane here other.
              let was = sym (set-other old.lanes at j (record { number = t.number; state = Busy t.after }) other) ∙ here in
              let live = i.placed.live j lane was in (
                live,
                state-stays lane.number old.shelf.order t.shelf.order
                    (stay lane.number (λ same. other (apart j at lane (record { number = t.number; state = Busy t.machine }) was t.there same))) lane.state live (i.turns j lane was),
              );
          live = live-next t.number old.shelf.order t.next _ _ t.shelf.order
              (seats.all-takes t.number (Kept t.number old.shelf.order) (leaves t.number old.shelf.order) (joins t.number old.shelf.order) t.machine old.wsize call.purpose.sent turn
              (said_of call.purpose.proc rec) old.shelf t.next t.after t.shelf (in_flight t.machine - 1) own.live one (λ n apart first. first) t.takes);
          own = all-takes old.wsize turn call.purpose.sent (said_of call.purpose.proc rec) t.machine old.shelf t.next t.after t.shelf (in_flight t.machine - 1) one
              (i.turns at (record { number = t.number; state = Busy t.machine }) t.there) t.takes;
          count = count-next t.next (in_flight t.machine - 1) t.after
              (counts-calls.take old.wsize t.machine call.purpose.sent turn (said_of call.purpose.proc rec) old.shelf t.next t.after t.shelf
              (in_flight t.machine - 1) t.takes (k.known.right at (record { number = t.number; state = Busy t.machine }) t.there) one);
        }) t.leads;
      }

  pub keeps-turned : Keeps (machine_of m) setup Turned
  keeps-turned = record {
    fresh = λ v fresh. record {
      placed = (keeps-placed m setup).fresh v fresh;
      turns = λ k lane there. absurd (let no_way : None ≡ Some lane = ap (λ (lanes : List Lane). slice_get lanes k) (sym fresh.lanes) ∙ there in cc);
    };
    stirs = stirs-turned;
    starts = starts-turned;
    takes = takes-turned;
    answers = λ h old new at lane answer k a i. record {
      placed = (keeps-placed m setup).answers h old new at lane answer k a i.placed;
      turns = subst (λ (w : View). LanesTurn w.lanes w.shelf.order) (sym a.is) (lanes-without (λ (n : Machine). TurnOf n old.shelf.order) old.lanes at i.turns);
    };
    same = λ old new lanes shelf purposes i. record {
      placed = (keeps-placed m setup).same old new lanes shelf purposes i.placed;
      turns = subst (λ (ls : List Lane). LanesTurn ls new.shelf.order) (sym lanes) (subst (λ (s : Shelf). LanesTurn old.lanes s.order) (sym shelf) i.turns);
    };
  }
