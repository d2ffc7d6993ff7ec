-- Each file with pending bytes has a state in the page cache.
use Rattle.core_session.proofs.Prelude.{◌≡◌, ◌⊎◌, inl, inr, ℕ, List, [], ◌∷◌, ◌++◌, length, Bool, true, false, Option, Some, None, slice_get, slice_set, position, Result, Ok, Err, refl, sym, ap, subst, ◌∙◌, arith, Putting, Writing, FileMachine, Opener, file_of, Pages, Flown, fly_at, nothing, Cell, cell_at, covers, IsSound, IsOver, fly-some, IsMade, LastAtMost, written_file, IsInFlight, writes-whole, After, CarriesReply, RoomIs, any-saves, eqb-true, Waiting, waiting_at, Pending, of_file, Fault, Entry, Began, Reply, Op, Modes, IsOf, said_of, Step, Shelf, Turn, Mounted, Machine, machine_of, Starts, Resumes, Takes, Lane, Purpose, State, Busy, Over, Setup, is_busy, IsOther, numbers_of, IsIdle, with_state, IsRefused, Leads, Stirs, counted, StartsLane, TakesAt, View, turn_at, unmade_turn, Reaches, begins-unbegun, taken_one, Given, is-given, at-set, at-push, at-position, get-push, get-remove, skip, by-place, set-other}
use Rattle.core_answers.proofs.writes.Mapped.{back-map}
use Rattle.file_ops.specs.declared.put_file.Putting.TheVariants as putting
use Rattle.file_ops.specs.declared.write_file.Writing.TheVariants as writing
use Rattle.op_machines.specs.declared.file_machine.FileMachine.TheVariants as files
use Rattle.op_machines.specs.declared.machine.Machine.TheVariants as machines
use Rattle.nfs_file_calls.specs.declared.call.FileCall.TheVariants as file_calls
use Rattle.world_model.specs.declared.message.Call.TheVariants as calls
use Rattle.claims.specs.Touched.{Covers}
use Rattle.core_answers.proofs.writes.Given.{OfBack, cell-given, on-file-given, none-given, landed-given, landed-part-given, decided-given, cut-file-given, xid-given, bytes-given, sent-given}
use Rattle.core_session.proofs.calls.GivenBytes.{begun-with}
use Rattle.core_session.proofs.current.Along.{KeepsMoments, reached-moments}
use Rattle.core_session.proofs.current.FedMachines.{pages-starts, pages-resumes, pages-takes}
use Rattle.core_session.proofs.current.Good.{reached-good}
use Rattle.core_session.proofs.current.ReadsRecent.{opens-front}
use Rattle.core_session.proofs.order.Adds.{Moves, Bears, TakesHas, all-starts, all-resumes, all-takes}
use Rattle.core_session.proofs.order.Basis.{reached-basis}
use Rattle.core_session.proofs.settled.Given.{covers-true}
use Rattle.core_session.proofs.kept.MineNow.{Mine, mine-of}
use Rattle.core_session.proofs.kept.StateBrings.{PutOf, FileOf, PathOf, MachineOf, MachineBegins, MachineFound, found-stated, takes-has, starts-has, starts-brings, resumes-brings, takes-brings}
use Rattle.core_session.proofs.kept.StateOpened.{St, stated-shown, fed-stated}
use Rattle.world_model.specs.declared.op.Op.TheVariants as ops
use Rattle.client_shelf.specs.declared.step.Step.TheVariants as nexts
use Rattle.file_ops.specs.Syncs as syncs
use Rattle.core_answers.proofs.writes.SaveChanges.{IsKept, goes-kept, takes-kept}

-- of the file alone
abbrev S : Pages → List ℕ → ℕ → ℕ → ℕ → Type 0
S c f place byte number = St c f

abbrev Now : Pages → Pending → Type 0
Now c back = OfBack (S c) back

-- what it had a state of, it has then
abbrev More : Pages → Pages → Type 0
More c d = (f : List ℕ) → St c f → St d f

back-more : (c d : Pages) → More c d → (back : Pending) → Now c back → Now d back
back-more c d more back p = back-map (S c) (S d) (λ file place byte number g. more file g) back p

room-more : (B C : List ℕ → Type 0) → ((f : List ℕ) → B f → C f) → (at : Writing) → RoomIs B at → RoomIs C at
room-more B C f writing.Idle b = tt
room-more B C f (writing.Room file saving) b = f file b

put-more : (B C : List ℕ → Type 0) → ((f : List ℕ) → B f → C f) → (at : Putting) (write : Writing) → PutOf B at write → PutOf C at write
put-more B C f putting.Idle write b = tt
put-more B C f putting.Opens write b = tt
put-more B C f (putting.Adds file) write b = room-more B C f write b
put-more B C f (putting.Saves saving) write b = tt

file-more : (B C : List ℕ → Type 0) → ((f : List ℕ) → B f → C f) → (m : FileMachine) → FileOf B m → FileOf C m
file-more B C f (files.Open m) b = tt
file-more B C f (files.Read m) b = tt
file-more B C f (files.Write m) b = room-more B C f m.state b
file-more B C f (files.Sync m) b = tt
file-more B C f (files.Close m) b = tt
file-more B C f (files.Truncate m) b = tt
file-more B C f (files.Put m) b = put-more B C f m.state m.write.state b

path-more : (B C : List ℕ → Type 0) → ((f : List ℕ) → B f → C f) → (arrived : Bool) (o : Opener) → PathOf B arrived o → PathOf C arrived o
path-more B C f true o b = file-more B C f (file_of o) b
path-more B C f false o b = tt

machine-more : (B C : List ℕ → Type 0) → ((f : List ℕ) → B f → C f) → (m : Machine) → MachineOf B m → MachineOf C m
machine-more B C f (machines.File m) b = file-more B C f m b
machine-more B C f (machines.Path m) b = path-more B C f m.arrived m.opener b
machine-more B C f (machines.Name m) b = tt

-- ---- each step

module _ (c : Pages) where
  kept-so : (asked to : ℕ) → IsKept asked to (Now c)
  kept-so asked to = record {
    puts = λ file piece upto old new is on puts p. on-file-given (S c) old new file _ on (λ g. sent-given (S c file) piece upto (of_file file old) (of_file file new) puts g) p;
    lands = λ file change old new on p. on-file-given (S c) old new file _ on (λ g. landed-given (S c file) change asked (of_file file old) g) p;
    part_lands = λ file change count old new on p. on-file-given (S c) old new file _ on (λ g. landed-part-given (S c file) change count asked (of_file file old) g) p;
    renames = λ file old new on p. on-file-given (S c) old new file _ on (λ g. xid-given (S c file) asked to (of_file file old) g) p;
    decides = λ file upto verf old new on p. on-file-given (S c) old new file _ on (λ g. decided-given (S c file) upto verf (of_file file old) g) p;
  }

  back-after : (next : Step) (back : Pending) → Now c back → After (Now c) (λ call. Now c) next back
  back-after (nexts.Send call) back p = p
  back-after nexts.Wait back p = p
  back-after (nexts.Done answer) back p = p

  after-back : (next : Step) (back : Pending) → After (Now c) (λ call. Now c) next back → Now c back
  after-back (nexts.Send call) back p = p
  after-back nexts.Wait back p = p
  after-back (nexts.Done answer) back p = p

  moves : (wsize : ℕ) (turn : Turn) → Moves wsize turn (Now c) (λ call. Now c)
  moves wsize turn = record {
    goes = λ by_reply s back next new after g p. back-after (syncs.sync_next next) after (goes-kept (Now c) 0 turn.xid (kept-so 0 turn.xid) wsize turn.room by_reply s back next new after g p);
    cuts = λ file size upto old new quiet on p. on-file-given (S c) old new file _ on (λ g. cut-file-given (S c file) size upto (of_file file old) g) p;
    gives = λ file old new quiet on p. on-file-given (S c) old new file nothing on (λ g. none-given (S c file)) p;
    plain = λ call back p. p;
  }

  bears : (wsize : ℕ) (turn : Turn) → Bears wsize turn (λ f o b n. St c f) (Now c) (Now c) (λ call. Now c)
  bears wsize turn = record {
    first = moves wsize turn;
    then_ = moves wsize turn;
    less = λ back p. p;
    adds = λ file offset bytes number old new a room on p.
        on-file-given (S c) old new file _ on (λ g. bytes-given (S c file) offset bytes number (of_file file old) (λ place covers_. a) g) p;
  }

  replies_ : (wsize : ℕ) (sent turn : Turn) (came : Result Reply Fault) → CarriesReply wsize sent turn came (λ s b. Unit {0}) (Now c) (λ call. Now c)
  replies_ wsize sent turn came = record {
    takes = λ repeats s back next new after later t n p.
        back-after (syncs.sync_next next) after (takes-kept (Now c) sent turn (kept-so sent.xid turn.xid) wsize came repeats s back next new after later t p);
  }

  start-back : (wsize : ℕ) (turn : Turn) (machine : Machine) (old : Shelf) (next : Step) (new : Machine) (after : Shelf) → MachineBegins (St c) machine old.opens
      → Starts wsize machine turn old next new after → Now c old.back → Now c after.back
  start-back wsize turn machine old next new after has s p =
      after-back next after.back (all-starts wsize turn (λ f o b n. St c f) (Now c) (Now c) (λ call. Now c) (bears wsize turn) machine old next new after (starts-has (St c) machine old.opens next has) p s)

  resume-back : (wsize : ℕ) (turn : Turn) (machine : Machine) (old : Shelf) (next : Step) (new : Machine) (after : Shelf) → Resumes wsize machine turn old next new after → Now c old.back → Now c after.back
  resume-back wsize turn machine old next new after s p = after-back next after.back (all-resumes wsize turn (Now c) (λ call. Now c) (moves wsize turn) machine old next new after p s)

  take-back : (wsize : ℕ) (sent turn : Turn) (came : Result Reply Fault) (machine : Machine) (old : Shelf) (next : Step) (new : Machine) (after : Shelf)
      (t : Takes wsize machine sent turn came old next new after) → TakesHas (λ f o b. St c f) wsize machine sent turn came old next new after t → Now c old.back → Now c after.back
  take-back wsize sent turn came machine old next new after t has p =
      after-back next after.back
      (all-takes wsize turn (λ f o b n. St c f) (Now c) (Now c) (λ call. Now c) (bears wsize turn) sent came (λ s b. Unit {0}) (replies_ wsize sent turn came) machine old next new after t has
      (any-saves machine) p)

-- ---- along a history

module _ (m : Mounted) (modes : Modes) (same : m.nocto ≡ modes.nocto) (setup : Setup) (lasts : modes.nocto ≡ true → LastAtMost setup.lives modes.longest) where
  abbrev StateOf : Pages → State → Type 0
  StateOf c (Busy machine) = MachineOf (St c) machine
  StateOf c (Over answer) = Unit {0}

  abbrev LanesOf : Pages → List Lane → Type 0
  LanesOf c lanes = (k : ℕ) (lane : Lane) → slice_get lanes k ≡ Some lane → StateOf c lane.state

  -- each file with pending bytes, and each to which an operation is about to add some, has a state in the cache
  pub record Stately (v : View) : Type 0 where
    pub back : Now v.shelf.pages v.shelf.back
    pub lanes : LanesOf v.shelf.pages v.lanes

  state-more : (c d : Pages) → More c d → (state : State) → StateOf c state → StateOf d state
  state-more c d more (Busy machine) k = machine-more (St c) (St d) more machine k
  state-more c d more (Over answer) k = tt

  lanes-more : (c d : Pages) → More c d → (lanes : List Lane) → LanesOf c lanes → LanesOf d lanes
  lanes-more c d more lanes all k lane there = state-more c d more lane.state (all k lane there)

  set-lanes : (c : Pages) (lanes : List Lane) (at number : ℕ) (was state : State) → slice_get lanes at ≡ Some (record { number = number; state = was }) → LanesOf c lanes → StateOf c state
      → LanesOf c (slice_set lanes at (record { number = number; state = state }))
  set-lanes c lanes at number was state there all own =
      by-place (λ (l : Lane). StateOf c l.state) (slice_set lanes at (record { number = number; state = state })) at (record { number = number; state = state })
      (at-set lanes at (record { number = number; state = was }) (record { number = number; state = state }) there) own
      (λ k lane here apart. all k lane (sym (set-other lanes at k (record { number = number; state = state }) apart) ∙ here))

  -- what a call leaves that couldn't be made
  no-reply : (fault : Fault) (reply : Reply) → ◌≡◌ {A = Result Reply Fault} (Err fault) (Ok reply) → ⊥
  no-reply fault reply e = cc

  leads-st : (v new : View) (at number : ℕ) (machine : Machine) (next : Step) → slice_get v.lanes at ≡ Some (record { number = number; state = Busy machine }) → Stately v → Leads v at number machine next new
      → Stately new
  leads-st v new at number machine (nexts.Send call) there b (inl k) = subst Stately (sym k.is) (record { back = b.back; lanes = b.lanes })
  leads-st v new at number machine (nexts.Send call) there b (inr f) = subst Stately (sym f.is) (record {
    back = take-back f.left.pages v.wsize (turn_at v) (unmade_turn v) (Err f.fault) machine v.shelf f.next f.after f.left f.takes
        (takes-has (St f.left.pages) v.wsize machine (turn_at v) (unmade_turn v) (Err f.fault) v.shelf f.next f.after f.left f.takes found own) (back-more v.shelf.pages f.left.pages more v.shelf.back b.back);
    lanes = set-lanes f.left.pages v.lanes at number (Busy machine) f.state there (lanes-more v.shelf.pages f.left.pages more v.lanes b.lanes) (by f.next f.state f.leads after);
  })
    where
      more : More v.shelf.pages f.left.pages
      more file t =
          pages-takes (λ (c : Pages). St c file) (λ other index c. stated-shown file other index c) call (Err f.fault) (turn_at v) (unmade_turn v) (fed-stated file call (Err f.fault) (turn_at v) (unmade_turn v)) v.shelf
          (λ reply is. absurd (no-reply f.fault reply is)) machine v.wsize f.next f.after f.left (λ reply is. absurd (no-reply f.fault reply is)) f.takes t

      found : (file : List ℕ) → MachineFound v.wsize machine (turn_at v) (unmade_turn v) (Err f.fault) v.shelf f.next f.after f.left f.takes file → St f.left.pages file
      found file is = found-stated v.wsize machine (turn_at v) (unmade_turn v) (Err f.fault) v.shelf f.next f.after f.left f.takes file is

      own : MachineOf (St f.left.pages) machine
      own = machine-more (St v.shelf.pages) (St f.left.pages) more machine (b.lanes at (record { number = number; state = Busy machine }) there)

      after : MachineOf (St f.left.pages) f.after
      after = takes-brings (St f.left.pages) v.wsize machine (turn_at v) (unmade_turn v) (Err f.fault) v.shelf f.next f.after f.left own f.takes found

      by : (next : Step) (state : State) → IsRefused f.after next state → MachineOf (St f.left.pages) f.after → StateOf f.left.pages state
      by (nexts.Send again) state is k = absurd is
      by nexts.Wait state is k = subst (StateOf f.left.pages) (sym is) k
      by (nexts.Done answer) state is k = subst (StateOf f.left.pages) (sym is) tt
  leads-st v new at number machine nexts.Wait there b is = subst Stately (sym is) b
  leads-st v new at number machine (nexts.Done answer) there b is =
      subst Stately (sym is) (record { back = b.back; lanes = set-lanes v.shelf.pages v.lanes at number (Busy machine) (Over answer) there b.lanes tt })

  stirs-st : (old new : View) (at : ℕ) → Stirs old at new → Stately old → Stately new
  stirs-st old new at t b =
      leads-st (with_state old at t.number (Busy t.after) t.shelf) new at t.number t.after t.next
      (at-set old.lanes at (record { number = t.number; state = Busy t.machine }) (record { number = t.number; state = Busy t.after }) t.there)
      (record {
        back = resume-back t.shelf.pages old.wsize (turn_at old) t.machine old.shelf t.next t.after t.shelf t.resumes (back-more old.shelf.pages t.shelf.pages more old.shelf.back b.back);
        lanes = set-lanes t.shelf.pages old.lanes at t.number (Busy t.machine) (Busy t.after) t.there (lanes-more old.shelf.pages t.shelf.pages more old.lanes b.lanes)
            (resumes-brings (St t.shelf.pages) old.wsize t.machine (turn_at old) old.shelf t.next t.after t.shelf
            (machine-more (St old.shelf.pages) (St t.shelf.pages) more t.machine (b.lanes at (record { number = t.number; state = Busy t.machine }) t.there)) t.resumes);
      }) t.leads
    where
      more : More old.shelf.pages t.shelf.pages
      more file k = pages-resumes (λ (c : Pages). St c file) (λ other index c. stated-shown file other index c) t.machine old.wsize (turn_at old) old.shelf t.next t.after t.shelf t.resumes k

  -- ---- an operation begins

  module _ (h : List Entry) (old : View) (lane line : ℕ) (r : Reaches (machine_of m) setup h old) (found : old.lost ≡ false) (other : IsOther lane (numbers_of old.lanes)) (later : Pages)
      (more : More old.shelf.pages later) where
    given : Given modes h lane old.shelf
    given = is-given modes m same setup h old r found lane other

    -- the file that its slot holds was opened
    of-slot : (op : Op) (file : List ℕ) → IsOf modes (h ++ Began lane line op ∷ []) (length h) op file → St later file
    of-slot op file i =
        let low = i.holds.before in
        let k = (reached-good m modes same setup lasts h old r found).opened i.lane i.slot i.open_at i.holds.y file
        (opens-front modes h (Began lane line op ∷ []) i.lane i.slot i.open_at i.holds.y file low i.holds.opens) in
        more file (record { state = k.since.marked.state; there = k.since.marked.there; over = omega arith; seen = λ s known. tt })

    begins-with : (op : Op) → MachineBegins (St later) (machine_of m lane op) old.shelf.opens
    begins-with (ops.Write slot offset bytes) = λ file is. of-slot (ops.Write slot offset bytes) file ((begun-with modes m h lane line old.shelf given (ops.Write slot offset bytes) file is).held tt)
    begins-with (ops.Fill slot offset count byte) = λ file is. of-slot (ops.Fill slot offset count byte) file ((begun-with modes m h lane line old.shelf given (ops.Fill slot offset count byte) file is).held tt)
    begins-with (ops.Put path offset bytes) = tt
    begins-with (ops.OpenFile slot mode path) = tt
    begins-with (ops.Read slot offset count) = tt
    begins-with (ops.Sync slot) = tt
    begins-with (ops.Close slot) = tt
    begins-with (ops.Truncate slot size) = tt
    begins-with (ops.Stat path) = tt
    begins-with (ops.Access path bits) = tt
    begins-with (ops.MakeDir path) = tt
    begins-with (ops.RemoveDir path) = tt
    begins-with (ops.Remove path) = tt
    begins-with (ops.Rename from to) = tt
    begins-with (ops.Link from to) = tt
    begins-with (ops.SymLink path target) = tt
    begins-with (ops.ReadLink path) = tt
    begins-with (ops.List path) = tt

  starts-st : (h : List Entry) (old new : View) (lane line : ℕ) (op : Op) (now : ℕ) → Reaches (machine_of m) setup h old → old.lost ≡ false → IsIdle lane old.lanes
      → StartsLane (counted old now) lane (machine_of m lane op) new → Stately old → Stately new
  starts-st h old new lane line op now r found idle t b =
      leads-st v new (length old.lanes) lane t.after t.next (at-push old.lanes (record { number = lane; state = Busy t.after })) (record {
        back = start-back t.shelf.pages old.wsize (turn_at (counted old now)) (machine_of m lane op) old.shelf t.next t.after t.shelf begins t.starts (back-more old.shelf.pages t.shelf.pages more old.shelf.back b.back);
        lanes = λ at l there. by at l (get-push old.lanes (record { number = lane; state = Busy t.after }) at l there);
      }) t.leads
    where
      v : View
      v = record (counted old now) { lanes = old.lanes ++ record { number = lane; state = Busy t.after } ∷ []; shelf = t.shelf }

      more : More old.shelf.pages t.shelf.pages
      more file k =
          pages-starts (λ (c : Pages). St c file) (λ other index c. stated-shown file other index c) (machine_of m lane op) old.wsize (turn_at (counted old now)) old.shelf t.next t.after t.shelf t.starts k

      begins : MachineBegins (St t.shelf.pages) (machine_of m lane op) old.shelf.opens
      begins = begins-with h old lane line r found idle.other t.shelf.pages more op

      by : (at : ℕ) (l : Lane) → (slice_get old.lanes at ≡ Some l) ⊎ ((at ≡ length old.lanes) × (l ≡ record { number = lane; state = Busy t.after })) → StateOf t.shelf.pages l.state
      by at l (inl was) = state-more old.shelf.pages t.shelf.pages more l.state (b.lanes at l was)
      by at l (inr now_) =
          subst (λ (q : Lane). StateOf t.shelf.pages q.state) (sym now_.1)
          (starts-brings (St t.shelf.pages) old.wsize (machine_of m lane op) (turn_at (counted old now)) old.shelf t.next t.after t.shelf begins t.starts)

  -- ---- a reply comes

  takes-st : (h : List Entry) (old new : View) (rec : List ℕ) (xid : ℕ) (call : Waiting Purpose) (at : ℕ) → Reaches (machine_of m) setup h old → old.lost ≡ false
      → waiting_at xid old.calls.calls ≡ Some call → position (is_busy call.purpose.lane) old.lanes ≡ Some at
      → TakesAt (taken_one old xid) at call.purpose.sent (said_of call.purpose.proc rec) new → Stately old → Stately new
  takes-st h old new rec xid call at r found waits there t b =
      leads-st (with_state (taken_one old xid) at t.number (Busy t.after) t.shelf) new at t.number t.after t.next
      (at-set old.lanes at (record { number = t.number; state = Busy t.machine }) (record { number = t.number; state = Busy t.after }) t.there)
      (record {
        back = take-back t.shelf.pages old.wsize call.purpose.sent (turn_at (taken_one old xid)) came t.machine old.shelf t.next t.after t.shelf t.takes
            (takes-has (St t.shelf.pages) old.wsize t.machine call.purpose.sent (turn_at (taken_one old xid)) came old.shelf t.next t.after t.shelf t.takes opens own)
            (back-more old.shelf.pages t.shelf.pages more old.shelf.back b.back);
        lanes = set-lanes t.shelf.pages old.lanes at t.number (Busy t.machine) (Busy t.after) t.there (lanes-more old.shelf.pages t.shelf.pages more old.lanes b.lanes)
            (takes-brings (St t.shelf.pages) old.wsize t.machine call.purpose.sent (turn_at (taken_one old xid)) came old.shelf t.next t.after t.shelf own t.takes opens);
      }) t.leads
    where
      came : Result Reply Fault
      came = said_of call.purpose.proc rec

      lane-is : t.number ≡ call.purpose.lane
      lane-is = eqb-true t.number call.purpose.lane (at-position (is_busy call.purpose.lane) old.lanes at (record { number = t.number; state = Busy t.machine }) there t.there)

      mine : Mine setup h xid call t.machine old.shelf.back
      mine = mine-of m setup h old r found xid call at t.number t.machine waits lane-is t.there

      more : More old.shelf.pages t.shelf.pages
      more file k =
          pages-takes (λ (c : Pages). St c file) (λ other index c. stated-shown file other index c) mine.made.asked came call.purpose.sent (turn_at (taken_one old xid))
          (fed-stated file mine.made.asked came call.purpose.sent (turn_at (taken_one old xid))) old.shelf (λ reply said. mine.link) t.machine old.wsize t.next t.after t.shelf (λ reply said. mine.on) t.takes k

      opens : (file : List ℕ) → MachineFound old.wsize t.machine call.purpose.sent (turn_at (taken_one old xid)) came old.shelf t.next t.after t.shelf t.takes file → St t.shelf.pages file
      opens file is = found-stated old.wsize t.machine call.purpose.sent (turn_at (taken_one old xid)) came old.shelf t.next t.after t.shelf t.takes file is

      own : MachineOf (St t.shelf.pages) t.machine
      own = machine-more (St old.shelf.pages) (St t.shelf.pages) more t.machine (b.lanes at (record { number = t.number; state = Busy t.machine }) t.there)

  keeps-stately : KeepsMoments (machine_of m) setup (λ h v. Stately v)
  keeps-stately = record {
    fresh = λ h v may up fresh. record {
      back = subst (Now v.shelf.pages) (sym fresh.back) (record { file = λ f. none-given (S v.shelf.pages f) });
      lanes = λ k lane there. absurd (let no_way : None ≡ Some lane = ap (λ (lanes : List Lane). slice_get lanes k) (sym fresh.lanes) ∙ there in cc);
    };
    stirs = λ h old new at known passed t b. stirs-st old new at t b;
    starts = λ h old new lane line op now r found known idle fits t b. starts-st h old new lane line op now r found idle t b;
    takes = λ h old new rec xid call at r found known fin hears named waits there t b. takes-st h old new rec xid call at r found waits there t b;
    answers = λ h old new at lane line answer known a b. subst Stately (sym a.is) (record {
      back = b.back;
      lanes = λ i l there. b.lanes (skip at i) l (get-remove old.lanes at i l there);
    });
    same = λ h e old new plain lanes shelf wsize moments calls b. record {
      back = subst (λ (s : Shelf). Now s.pages s.back) (sym shelf) b.back;
      lanes = subst (λ (s : Shelf). LanesOf s.pages new.lanes) (sym shelf) (subst (LanesOf old.shelf.pages) (sym lanes) b.lanes);
    };
    drops = λ h old fin rec known hears b. b;
  }

  pub reached-stately : (h : List Entry) (v : View) → Reaches (machine_of m) setup h v → v.lost ≡ false → Stately v
  reached-stately h v r found = reached-moments (machine_of m) (begins-unbegun m) setup (λ h v. Stately v) keeps-stately h v r found

  -- beneath what is in flight stands a byte that is pending
  over-some : (flown : Option Flown) (cell : Option Cell) → (flown ≡ None → ⊥) → IsOver flown cell → (c : Cell) × (cell ≡ Some c)
  over-some None cell some over = absurd (some refl)
  over-some (Some flown) None some over = absurd over
  over-some (Some flown) (Some cell) some over = (cell, refl)

  -- the file of a WRITE that waits has a state
  pub stated-at : (h : List Entry) (v : View) → Reaches (machine_of m) setup h v → v.lost ≡ false → (xid : ℕ) (call : Waiting Purpose) → waiting_at xid v.calls.calls ≡ Some call
      → (made : IsMade setup.cred xid call) → (f : List ℕ) (offset how : ℕ) (bytes : List ℕ) → calls.File (file_calls.Write f offset how bytes) ≡ made.asked → (i b : ℕ) → Covers offset bytes i b
      → St v.shelf.pages f
  stated-at h v r found xid call waits made f offset how bytes same_ i b c =
      let flight : IsInFlight xid f made.asked v.shelf.back = writes-whole m setup h v r found xid made.asked f (record { waiting = call; waits = waits; spells = made.spells }) (ap written_file (sym same_)) in
      let parts : (offset ≡ flight.piece.offset) × (bytes ≡ flight.piece.bytes) = offset-is offset flight.piece.offset how flight.piece.how bytes flight.piece.bytes (same_ ∙ flight.is) in
      let inside : covers flight.piece.offset (length flight.piece.bytes) i ≡ true =
      subst (λ (z : ℕ). covers z (length flight.piece.bytes) i ≡ true) parts.0 (subst (λ (z : List ℕ). covers offset (length z) i ≡ true) parts.1 (covers-true offset bytes i b c)) in
      let sound : IsSound (of_file f v.shelf.back) = (reached-basis m setup h v r found).sound f in
      let newest = over-some (fly_at (of_file f v.shelf.back) i) (cell_at (of_file f v.shelf.back).segments i)
      (λ none. fly-some xid (of_file f v.shelf.back).pieces flight.piece i sound.sent flight.there inside none) (sound.over i) in
      cell-given (λ place byte number. St v.shelf.pages f) (of_file f v.shelf.back).segments i newest.0 ((reached-stately h v r found).back.file f).segments newest.1
    where
      offset-is : (a d k l : ℕ) (p q : List ℕ) → calls.File (file_calls.Write f a k p) ≡ calls.File (file_calls.Write f d l q) → (a ≡ d) × (p ≡ q)
      offset-is a d k l p q e = (cc, cc)
