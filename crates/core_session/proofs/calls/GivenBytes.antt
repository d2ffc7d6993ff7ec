-- Along a history each byte that is pending of a file is one that an operation writes there: of its slot's file, or of the one to which its path leads.
use Rattle.core_session.proofs.Prelude.{◌≡◌, ◌≤◌, ◌+◌, ◌-◌, ◌⊎◌, inl, inr, ℕ, List, [], ◌∷◌, ◌++◌, length, Bool, true, false, Option, Some, None, Result, Ok, Err, position, slice_get, slice_set, replicate, refl, sym, ap, subst, ◌∙◌, arith, slice_index, if◌then◌else◌, le-ltb, eqb-true, slice_get-get_or, Mode, xid_at, Waiting, waiting_at, Opened, covers, Pending, of_file, nothing, low-of, high-of, Answer, Fault, Entry, Began, Answered, Delivered, Reply, Op, At, IsBusy, Modes, AnsweredBefore, UnderWay, IsOf, slot_of, At-grow, At-below, At-last, At-cases, length_last, said_of, Step, Shelf, Turn, file_to_write, Mounted, Machine, IsNamed, machine_of, Starts, Resumes, Takes, Lane, Purpose, State, Busy, Over, Setup, is_busy, IsOther, numbers_of, IsIdle, with_state, IsRefused, Leads, Stirs, counted, StartsLane, TakesAt, View, turn_at, unmade_turn, Reaches, HearsRecord, begins-unbegun, taken_one, may, held-begins, Given, is-given, Known, lanes-under-way, idle-numbers, number_of, LeadsTo, leads-from, at-set, at-push, at-position, get-push, get-remove, skip, to-map, IsHeld, held-grow, by-place, set-other, under-back, byte_from, byte_by, After, CarriesReply, any-saves}
use Rattle.file_ops.specs.Opens.{in_mode, of_open}
use Rattle.core_facts.proofs.LaneMarks.{Rests}
use Rattle.core_facts.proofs.SlotGrowth.{ended-back}
use Rattle.core_answers.proofs.writes.Mapped.{back-map, brings-map}
use Rattle.std.specs.FinMap as finite
use Rattle.nfs_types.specs.declared.mode.Mode.TheVariants as modes
use Rattle.world_model.specs.declared.op.Op.TheVariants as ops
use Rattle.world_model.specs.Leads as paths
use Rattle.world_model.specs.Mounts as origins
use Rattle.claims.specs.Rights.{can_write}
use Rattle.client_shelf.specs.declared.step.Step.TheVariants as nexts
use Rattle.file_ops.specs.Syncs as syncs
use Rattle.core_facts.proofs.Marks.{answered-grow}
use Rattle.core_answers.proofs.writes.AllBacks.{Brings, StartsWith}
use Rattle.core_answers.proofs.writes.Brings.{starts-brings, resumes-brings, takes-brings}
use Rattle.core_answers.proofs.writes.Given.{OfBack, on-file-given, none-given, landed-given, landed-part-given, decided-given, cut-file-given, xid-given, bytes-given, sent-given}
use Rattle.core_answers.proofs.writes.SaveChanges.{IsKept, goes-kept, takes-kept}
use Rattle.core_session.proofs.saves.HearingAlong.{KeepsHearing, reached-hearing}
use Rattle.core_session.proofs.order.Adds.{Moves, Bears, TakesHas, StartsHas, all-starts, all-resumes, all-takes}
use Rattle.core_session.proofs.order.PutTales.{LeadsIn, put-finds}
use Rattle.core_session.proofs.order.Unmade.{unmade-has}
use Rattle.core_session.proofs.calls.Brought.{brings-has, has-both}
use Rattle.core_session.proofs.calls.WriteCause.{IsStore}

-- ---- what an operation writes

some-by : (offset : ℕ) (bytes : List ℕ) (place : ℕ) → covers offset (length bytes) place ≡ true → byte_from offset bytes place ≡ Some (slice_index bytes (place - offset))
some-by offset bytes place c =
    let low = low-of offset (offset + length bytes) place c in
    let high = high-of offset (offset + length bytes) place c in
    ap (λ (b : Bool). if b then None else slice_get bytes (place - offset)) (le-ltb place offset low) ∙ slice_get-get_or bytes (place - offset) 0 (omega (arith, low, high))

-- these are bytes of the operation at their places
abbrev pub BytesBy : Op → ℕ → List ℕ → Type 0
BytesBy op offset bytes = (place : ℕ) → covers offset (length bytes) place ≡ true → byte_by op place ≡ Some (slice_index bytes (place - offset))

-- before a place, by which the operation had no answer, the path leads to the file
pub record LeadsInTime (m : Mounted) (h : List Entry) (x : ℕ) (path : List (List ℕ)) (f : List ℕ) : Type 0 where
  pub n : ℕ
  pub within : n ≤ length h
  pub leads : paths.Leads (origins.Given m.root) h n path f
  pub unanswered : AnsweredBefore h x n → ⊥

module _ (m : Mounted) (modes_of : Modes) (h : List Entry) where
  -- an operation that began gives the byte to the place of the file
  pub record IsGiven (f : List ℕ) (place byte : ℕ) : Type 0 where
    pub lane : ℕ
    pub line : ℕ
    pub x : ℕ
    pub op : Op
    pub began : At h x (Began lane line op)
    pub gives : byte_by op place ≡ Some byte
    pub held : IsStore op → IsOf modes_of h x op f
    pub leads : (path : List (List ℕ)) (offset : ℕ) (text : List ℕ) → op ≡ ops.Put path offset text → IsNamed path → LeadsInTime m h x path f

  -- what the operation at the place x may add
  pub record MayGive (x : ℕ) (op : Op) (f : List ℕ) (offset : ℕ) (bytes : List ℕ) : Type 0 where
    pub bytes_are : BytesBy op offset bytes
    pub held : IsStore op → IsOf modes_of h x op f

  -- and where it adds it
  pub record Gives (x : ℕ) (op : Op) (f : List ℕ) (offset : ℕ) (bytes : List ℕ) : Type 0 where
    pub may_be : MayGive x op f offset bytes
    pub leads : (path : List (List ℕ)) (at : ℕ) (text : List ℕ) → op ≡ ops.Put path at text → IsNamed path → LeadsInTime m h x path f

  abbrev pub Gave : List ℕ → ℕ → ℕ → ℕ → Type 0
  Gave f place byte number = IsGiven f place byte

  abbrev pub Back : Pending → Type 0
  Back back = OfBack Gave back

  pub of-gives : (lane line x : ℕ) (op : Op) → At h x (Began lane line op) → (f : List ℕ) (offset : ℕ) (bytes : List ℕ) → Gives x op f offset bytes → (place : ℕ)
      → covers offset (length bytes) place ≡ true → IsGiven f place (slice_index bytes (place - offset))
  of-gives lane line x op began f offset bytes g place c =
      record { lane = lane; line = line; x = x; op = op; began = began; gives = g.may_be.bytes_are place c; held = g.may_be.held; leads = g.leads }

-- ---- one entry more

module _ (m : Mounted) (modes_of : Modes) (h : List Entry) (e : Entry) where
  pub of-later : (x : ℕ) (op : Op) (f : List ℕ) → IsOf modes_of h x op f → IsOf modes_of (h ++ e ∷ []) x op f
  of-later x op f i =
      let low = At-below h x (Began i.lane i.line op) i.began in
      let held : IsHeld modes_of (h ++ e ∷ []) x i.lane i.slot f i.holds.opens.mode =
      held-grow modes_of h e i.lane i.slot f i.holds.opens.mode x (omega (arith, low)) (record { x = i.open_at; holds = i.holds; mode_is = refl }) in
      record {
        lane = i.lane;
        line = i.line;
        slot = i.slot;
        open_at = held.x;
        began = At-grow h (e ∷ []) x (Began i.lane i.line op) i.began;
        works_on = i.works_on;
        holds = held.holds;
      }

  pub leads-on : (x : ℕ) (path : List (List ℕ)) (f : List ℕ) → LeadsInTime m h x path f → LeadsInTime m (h ++ e ∷ []) x path f
  leads-on x path f l =
      let within = l.within in
      let more = length_last h e in
      record {
        n = l.n;
        within = omega (arith, within, more);
        leads = leads-from m.root (origins.Given m.root) h (e ∷ []) l.n l.n path f (omega arith) refl l.leads;
        unanswered = λ a.
            let early = a.before in
            l.unanswered (record {
              lane = a.lane;
              op = a.op;
              y = a.y;
              answer = a.answer;
              ended = ended-back h e a.lane x a.op a.y a.answer (omega (arith, early, within)) a.ended;
              before = a.before;
            });
      }

  abbrev pub given-later : (f : List ℕ) (place byte : ℕ) → IsGiven m modes_of h f place byte → IsGiven m modes_of (h ++ e ∷ []) f place byte
  given-later f place byte g = record {
    lane = g.lane;
    line = g.line;
    x = g.x;
    op = g.op;
    began = At-grow h (e ∷ []) g.x (Began g.lane g.line g.op) g.began;
    gives = g.gives;
    held = λ store. of-later g.x g.op f (g.held store);
    leads = λ path offset text is named. leads-on g.x path f (g.leads path offset text is named);
  }

  pub back-later : (back : Pending) → Back m modes_of h back → Back m modes_of (h ++ e ∷ []) back
  back-later back p = back-map (Gave m modes_of h) (Gave m modes_of (h ++ e ∷ [])) (λ file place byte number g. given-later file place byte g) back p

  may-later : (x : ℕ) (op : Op) (f : List ℕ) (offset : ℕ) (bytes : List ℕ) → MayGive m modes_of h x op f offset bytes → MayGive m modes_of (h ++ e ∷ []) x op f offset bytes
  may-later x op f offset bytes k = record { bytes_are = k.bytes_are; held = λ store. of-later x op f (k.held store) }

  pub brings-later : (x : ℕ) (op : Op) (machine : Machine) → Brings (MayGive m modes_of h x op) machine → Brings (MayGive m modes_of (h ++ e ∷ []) x op) machine
  brings-later x op machine b = brings-map (MayGive m modes_of h x op) (MayGive m modes_of (h ++ e ∷ []) x op) (may-later x op) machine b

-- ---- as an operation begins

writable : (mode : Mode) (of file : List ℕ) → in_mode mode of ≡ Ok file → (can_write mode ≡ true) × (of ≡ file)
writable modes.R of file is = absurd (cc)
writable modes.W of file is = (refl, cc)
writable modes.RW of file is = (refl, cc)
writable modes.C of file is = (refl, cc)
writable modes.X of file is = (refl, cc)

-- a write or a fill of a slot is of the file that this holds
begins-at : (m : Modes) (h : List Entry) (lane line slot : ℕ) (op : Op) (old : Shelf) (file : List ℕ) → Given m h lane old → slot_of op ≡ Some slot
    → ((mode : Mode) → may op mode ≡ can_write mode) → file_to_write lane slot old.opens ≡ Ok file → IsOf m (h ++ Began lane line op ∷ []) (length h) op file
begins-at m h lane line slot op old file given works_on same found = by (finite.get old.opens (lane, slot)) refl found
  where
    by : (at : Option Opened) → finite.get old.opens (lane, slot) ≡ at → of_open at ≡ Ok file → IsOf m (h ++ Began lane line op ∷ []) (length h) op file
    by None there is = absurd (cc)
    by (Some o) there is =
        let w = writable o.mode o.file file is in
        let k = held-begins m h lane line slot op o old given works_on there (same o.mode ∙ w.0) in
        subst (IsOf m (h ++ Began lane line op ∷ []) (length h) op) w.1
        (record { lane = lane; line = line; slot = slot; open_at = k.held.x; began = k.began; works_on = works_on; holds = k.held.holds })

module _ (modes_of : Modes) (m : Mounted) (h : List Entry) (lane line : ℕ) (old : Shelf) (given : Given modes_of h lane old) where
  abbrev Later : Op → List Entry
  Later op = h ++ Began lane line op ∷ []

  stores : (op : Op) (slot offset : ℕ) (bytes file : List ℕ) → slot_of op ≡ Some slot → ((mode : Mode) → may op mode ≡ can_write mode)
      → ((place : ℕ) → byte_by op place ≡ byte_from offset bytes place) → file_to_write lane slot old.opens ≡ Ok file → MayGive m modes_of (Later op) (length h) op file offset bytes
  stores op slot offset bytes file works_on same gives found = record {
    bytes_are = λ place c. gives place ∙ some-by offset bytes place c;
    held = λ store. begins-at modes_of h lane line slot op old file given works_on same found;
  }

  pub begun-with : (op : Op) → StartsWith (MayGive m modes_of (Later op) (length h) op) (machine_of m lane op) old.opens
  begun-with (ops.Write slot offset bytes) = λ file found. stores (ops.Write slot offset bytes) slot offset bytes file refl (λ mode. refl) (λ place. refl) found
  begun-with (ops.Fill slot offset count byte) = λ file found.
      stores (ops.Fill slot offset count byte) slot offset (replicate count byte) file refl (λ mode. refl) (λ place. refl) found
  begun-with (ops.Put path offset bytes) = λ file. record { bytes_are = λ place c. some-by offset bytes place c; held = λ store. absurd store }
  begun-with (ops.OpenFile slot mode path) = tt
  begun-with (ops.Read slot offset count) = tt
  begun-with (ops.Sync slot) = tt
  begun-with (ops.Close slot) = tt
  begun-with (ops.Truncate slot size) = tt
  begun-with (ops.Stat path) = tt
  begun-with (ops.Access path bits) = tt
  begun-with (ops.MakeDir path) = tt
  begun-with (ops.RemoveDir path) = tt
  begun-with (ops.Remove path) = tt
  begun-with (ops.Rename from to) = tt
  begun-with (ops.Link from to) = tt
  begun-with (ops.SymLink path target) = tt
  begun-with (ops.ReadLink path) = tt
  begun-with (ops.List path) = tt

  -- a write that adds its bytes at once
  store-gives : (op : Op) → IsStore op → (f : List ℕ) (offset : ℕ) (bytes : List ℕ) → MayGive m modes_of (Later op) (length h) op f offset bytes → Gives m modes_of (Later op) (length h) op f offset bytes
  store-gives op store f offset bytes k = record { may_be = k; leads = λ path at text is named. absurd (subst IsStore is store) }

  pub begun-has : (op : Op) (next : Step) → StartsHas (Gives m modes_of (Later op) (length h) op) (machine_of m lane op) old.opens next
  begun-has (ops.Write slot offset bytes) next = λ file found well.
      store-gives (ops.Write slot offset bytes) tt file offset bytes (begun-with (ops.Write slot offset bytes) file found)
  begun-has (ops.Fill slot offset count byte) next = λ file found well.
      store-gives (ops.Fill slot offset count byte) tt file offset (replicate count byte) (begun-with (ops.Fill slot offset count byte) file found)
  begun-has (ops.Put path offset bytes) next = tt
  begun-has (ops.OpenFile slot mode path) next = tt
  begun-has (ops.Read slot offset count) next = tt
  begun-has (ops.Sync slot) next = tt
  begun-has (ops.Close slot) next = tt
  begun-has (ops.Truncate slot size) next = tt
  begun-has (ops.Stat path) next = tt
  begun-has (ops.Access path bits) next = tt
  begun-has (ops.MakeDir path) next = tt
  begun-has (ops.RemoveDir path) next = tt
  begun-has (ops.Remove path) next = tt
  begun-has (ops.Rename from to) next = tt
  begun-has (ops.Link from to) next = tt
  begun-has (ops.SymLink path target) next = tt
  begun-has (ops.ReadLink path) next = tt
  begun-has (ops.List path) next = tt

-- ---- each step

module _ (m : Mounted) (modes_of : Modes) (h : List Entry) where
  abbrev Now : Pending → Type 0
  Now back = Back m modes_of h back

  kept : (asked to : ℕ) → IsKept asked to Now
  kept asked to = record {
    puts = λ file piece upto old new is on puts p. on-file-given (Gave m modes_of h) old new file _ on (λ g. sent-given (Gave m modes_of h file) piece upto (of_file file old) (of_file file new) puts g) p;
    lands = λ file change old new on p. on-file-given (Gave m modes_of h) old new file _ on (λ g. landed-given (Gave m modes_of h file) change asked (of_file file old) g) p;
    part_lands = λ file change count old new on p.
        on-file-given (Gave m modes_of h) old new file _ on (λ g. landed-part-given (Gave m modes_of h file) change count asked (of_file file old) g) p;
    renames = λ file old new on p. on-file-given (Gave m modes_of h) old new file _ on (λ g. xid-given (Gave m modes_of h file) asked to (of_file file old) g) p;
    decides = λ file upto verf old new on p. on-file-given (Gave m modes_of h) old new file _ on (λ g. decided-given (Gave m modes_of h file) upto verf (of_file file old) g) p;
  }

  back-after : (next : Step) (back : Pending) → Now back → After Now (λ call. Now) next back
  back-after (nexts.Send call) back p = p
  back-after nexts.Wait back p = p
  back-after (nexts.Done answer) back p = p

  after-back : (next : Step) (back : Pending) → After Now (λ call. Now) next back → Now back
  after-back (nexts.Send call) back p = p
  after-back nexts.Wait back p = p
  after-back (nexts.Done answer) back p = p

  moves : (wsize : ℕ) (turn : Turn) → Moves wsize turn Now (λ call. Now)
  moves wsize turn = record {
    goes = λ by_reply s back next new after g p. back-after (syncs.sync_next next) after (goes-kept Now 0 turn.xid (kept 0 turn.xid) wsize turn.room by_reply s back next new after g p);
    cuts = λ file size upto old new quiet on p. on-file-given (Gave m modes_of h) old new file _ on (λ g. cut-file-given (Gave m modes_of h file) size upto (of_file file old) g) p;
    gives = λ file old new quiet on p. on-file-given (Gave m modes_of h) old new file nothing on (λ g. none-given (Gave m modes_of h file)) p;
    plain = λ call back p. p;
  }

  bears : (wsize : ℕ) (turn : Turn) (A : List ℕ → ℕ → List ℕ → Type 0)
      → ((f : List ℕ) (o : ℕ) (b : List ℕ) → A f o b → (place : ℕ) → covers o (length b) place ≡ true → IsGiven m modes_of h f place (slice_index b (place - o)))
      → Bears wsize turn (λ f o b n. A f o b) Now Now (λ call. Now)
  bears wsize turn A of = record {
    first = moves wsize turn;
    then_ = moves wsize turn;
    less = λ back p. p;
    adds = λ file offset bytes number old new a room on p.
        on-file-given (Gave m modes_of h) old new file _ on (λ g. bytes-given (Gave m modes_of h file) offset bytes number (of_file file old) (of file offset bytes a) g) p;
  }

  replies : (wsize : ℕ) (sent turn : Turn) (came : Result Reply Fault) → CarriesReply wsize sent turn came (λ s b. Unit {0}) Now (λ call. Now)
  replies wsize sent turn came = record {
    takes = λ repeats s back next new after later t n p. back-after (syncs.sync_next next) after (takes-kept Now sent turn (kept sent.xid turn.xid) wsize came repeats s back next new after later t p);
  }

  pub start-back : (wsize : ℕ) (turn : Turn) (lane line x : ℕ) (op : Op) → At h x (Began lane line op) → (machine : Machine) (old : Shelf) (next : Step) (new : Machine) (after : Shelf)
      → StartsHas (Gives m modes_of h x op) machine old.opens next → Starts wsize machine turn old next new after → Now old.back → Now after.back
  start-back wsize turn lane line x op began machine old next new after has s p =
      after-back next after.back
      (all-starts wsize turn (λ f o b n. Gives m modes_of h x op f o b) Now Now (λ call. Now) (bears wsize turn (Gives m modes_of h x op) (of-gives m modes_of h lane line x op began))
      machine old next new after has p s)

  pub resume-back : (wsize : ℕ) (turn : Turn) (machine : Machine) (old : Shelf) (next : Step) (new : Machine) (after : Shelf) → Resumes wsize machine turn old next new after → Now old.back → Now after.back
  resume-back wsize turn machine old next new after s p =
      after-back next after.back (all-resumes wsize turn Now (λ call. Now) (moves wsize turn) machine old next new after p s)

  pub take-back : (wsize : ℕ) (sent turn : Turn) (came : Result Reply Fault) (lane line x : ℕ) (op : Op) → At h x (Began lane line op) → (machine : Machine) (old : Shelf) (next : Step) (new : Machine)
      (after : Shelf) (t : Takes wsize machine sent turn came old next new after) → TakesHas (Gives m modes_of h x op) wsize machine sent turn came old next new after t → Now old.back → Now after.back
  take-back wsize sent turn came lane line x op began machine old next new after t has p =
      after-back next after.back
      (all-takes wsize turn (λ f o b n. Gives m modes_of h x op f o b) Now Now (λ call. Now) (bears wsize turn (Gives m modes_of h x op) (of-gives m modes_of h lane line x op began))
      sent came (λ s b. Unit {0}) (replies wsize sent turn came) machine old next new after t has (any-saves machine) p)

  -- a call that couldn't be made adds nothing
  pub unmade-back : (wsize : ℕ) (sent turn : Turn) (fault : Fault) (machine : Machine) (old : Shelf) (next : Step) (new : Machine) (after : Shelf)
      → Takes wsize machine sent turn (Err fault) old next new after → Now old.back → Now after.back
  unmade-back wsize sent turn fault machine old next new after t p =
      after-back next after.back
      (all-takes wsize turn (λ f o b n. ⊥) Now Now (λ call. Now) (bears wsize turn (λ f o b. ⊥) (λ f o b no_way. absurd no_way))
      sent (Err fault) (λ s b. Unit {0}) (replies wsize sent turn (Err fault)) machine old next new after t
      (unmade-has (λ f o b. ⊥) wsize sent turn fault machine old next new after t) (any-saves machine) p)

-- ---- along a history

module _ (m : Mounted) (modes_of : Modes) (same : m.nocto ≡ modes_of.nocto) (setup : Setup) where
  abbrev StateMay : List Entry → ℕ → Op → State → Type 0
  StateMay h x op (Busy machine) = Brings (MayGive m modes_of h x op) machine
  StateMay h x op (Over answer) = Unit {0}

  abbrev LaneMay : List Entry → Lane → Type 0
  LaneMay h lane = (x : ℕ) (op : Op) → UnderWay h lane.number x (length h) op → StateMay h x op lane.state

  abbrev LanesMay : List Entry → List Lane → Type 0
  LanesMay h lanes = (k : ℕ) (lane : Lane) → slice_get lanes k ≡ Some lane → LaneMay h lane

  pub record Bytes (h : List Entry) (v : View) : Type 0 where
    pub back : Back m modes_of h v.shelf.back
    pub lanes : LanesMay h v.lanes

  state-later : (h : List Entry) (e : Entry) (x : ℕ) (op : Op) (state : State) → StateMay h x op state → StateMay (h ++ e ∷ []) x op state
  state-later h e x op (Busy machine) k = brings-later m modes_of h e x op machine k
  state-later h e x op (Over answer) k = tt

  lane-later : (h : List Entry) (e : Entry) (lane : Lane) → ((line : ℕ) (op : Op) → e ≡ Began lane.number line op → ⊥) → LaneMay h lane → LaneMay (h ++ e ∷ []) lane
  lane-later h e lane other k x op u = state-later h e x op lane.state (k x op (under-back h e lane.number x op other u))

  lanes-later : (h : List Entry) (e : Entry) (lanes : List Lane) → ((lane line : ℕ) (op : Op) → e ≡ Began lane line op → ⊥) → LanesMay h lanes → LanesMay (h ++ e ∷ []) lanes
  lanes-later h e lanes other all k lane there = lane-later h e lane (other lane.number) (all k lane there)

  set-may : (h : List Entry) (lanes : List Lane) (at number : ℕ) (was state : State) → slice_get lanes at ≡ Some (record { number = number; state = was }) → LanesMay h lanes
      → LaneMay h (record { number = number; state = state }) → LanesMay h (slice_set lanes at (record { number = number; state = state }))
  set-may h lanes at number was state there all own =
      by-place (LaneMay h) (slice_set lanes at (record { number = number; state = state })) at (record { number = number; state = state })
      (at-set lanes at (record { number = number; state = was }) (record { number = number; state = state }) there) own
      (λ k lane here apart. all k lane (sym (set-other lanes at k (record { number = number; state = state }) apart) ∙ here))

  leads-bytes : (h : List Entry) (v new : View) (at number : ℕ) (machine : Machine) (next : Step) → slice_get v.lanes at ≡ Some (record { number = number; state = Busy machine })
      → Bytes h v → Leads v at number machine next new → Bytes h new
  leads-bytes h v new at number machine (nexts.Send call) there b (inl k) = subst (Bytes h) (sym k.is) (record { back = b.back; lanes = b.lanes })
  leads-bytes h v new at number machine (nexts.Send call) there b (inr f) = subst (Bytes h) (sym f.is) (record {
    back = unmade-back m modes_of h v.wsize (turn_at v) (unmade_turn v) f.fault machine v.shelf f.next f.after f.left f.takes b.back;
    lanes = set-may h v.lanes at number (Busy machine) f.state there b.lanes (by f.next f.state f.leads own);
  })
    where
      own : LaneMay h (record { number = number; state = Busy f.after })
      own x op u =
          takes-brings (MayGive m modes_of h x op) v.wsize machine (turn_at v) (unmade_turn v) (Err f.fault) v.shelf f.next f.after f.left
          (b.lanes at (record { number = number; state = Busy machine }) there x op u) f.takes

      by : (next : Step) (state : State) → IsRefused f.after next state → LaneMay h (record { number = number; state = Busy f.after }) → LaneMay h (record { number = number; state = state })
      by (nexts.Send again) state is k = absurd is
      by nexts.Wait state is k = subst (λ (s : State). LaneMay h (record { number = number; state = s })) (sym is) k
      by (nexts.Done answer) state is k = subst (λ (s : State). LaneMay h (record { number = number; state = s })) (sym is) (λ x op u. tt)
  leads-bytes h v new at number machine nexts.Wait there b is = subst (Bytes h) (sym is) b
  leads-bytes h v new at number machine (nexts.Done answer) there b is =
      subst (Bytes h) (sym is) (record { back = b.back; lanes = set-may h v.lanes at number (Busy machine) (Over answer) there b.lanes (λ x op u. tt) })

  stirs-bytes : (h : List Entry) (old new : View) (at : ℕ) → Known setup h old → Stirs old at new → Bytes h old → Bytes h new
  stirs-bytes h old new at k t b =
      leads-bytes h (with_state old at t.number (Busy t.after) t.shelf) new at t.number t.after t.next
      (at-set old.lanes at (record { number = t.number; state = Busy t.machine }) (record { number = t.number; state = Busy t.after }) t.there)
      (record {
        back = resume-back m modes_of h old.wsize (turn_at old) t.machine old.shelf t.next t.after t.shelf t.resumes b.back;
        lanes = set-may h old.lanes at t.number (Busy t.machine) (Busy t.after) t.there b.lanes
            (λ x op u. resumes-brings (MayGive m modes_of h x op) old.wsize t.machine (turn_at old) old.shelf t.next t.after t.shelf
            (b.lanes at (record { number = t.number; state = Busy t.machine }) t.there x op u) t.resumes);
      }) t.leads

  began-is : (a b c d : ℕ) (o p : Op) → Began a b o ≡ Began c d p → a ≡ c
  began-is a b c d o p e = cc

  began-op : (a b c d : ℕ) (o p : Op) → Began a b o ≡ Began c d p → o ≡ p
  began-op a b c d o p e = cc

  idle-apart : (lane : ℕ) (lanes : List Lane) → IsOther lane (numbers_of lanes) → (at : ℕ) (l : Lane) → slice_get lanes at ≡ Some l → l.number ≡ lane → ⊥
  idle-apart lane lanes other at l there is = idle-numbers lane (numbers_of lanes) other at (to-map number_of lanes at l there ∙ ap Some is)

  -- the one operation that is under way in the lane as it begins
  now-one : (h : List Entry) (lane line : ℕ) (op : Op) → Rests h lane → (x : ℕ) (o : Op) → UnderWay (h ++ Began lane line op ∷ []) lane x (length (h ++ Began lane line op ∷ [])) o
      → (x ≡ length h) × (op ≡ o)
  now-one h lane line op rests x o u = by (At-cases h (Began lane line op) x (Began lane u.line o) u.began)
    where
      by : At h x (Began lane u.line o) ⊎ ((x ≡ length h) × (Began lane line op ≡ Began lane u.line o)) → (x ≡ length h) × (op ≡ o)
      by (inr now) = (now.0, began-op lane line lane u.line op o now.1)
      by (inl was) = absurd (u.unanswered (answered-grow h (Began lane line op) x (length h) (length (h ++ Began lane line op ∷ [])) (let more = length_last h (Began lane line op) in omega (arith, more)) (rests.answered x u.line o was)))

  starts-bytes : (h : List Entry) (old new : View) (lane line : ℕ) (op : Op) (now : ℕ) → Reaches (machine_of m) setup h old → old.lost ≡ false → Known setup h old → IsIdle lane old.lanes
      → StartsLane (counted old now) lane (machine_of m lane op) new → Bytes h old → Bytes (h ++ Began lane line op ∷ []) new
  starts-bytes h old new lane line op now r found k idle t b =
      leads-bytes later v new (length old.lanes) lane t.after t.next (at-push old.lanes (record { number = lane; state = Busy t.after })) (record {
        back = start-back m modes_of later old.wsize (turn_at (counted old now)) lane line (length h) op (At-last h (Began lane line op)) (machine_of m lane op) old.shelf t.next t.after t.shelf
            (begun-has modes_of m h lane line old.shelf given op t.next) t.starts (back-later m modes_of h (Began lane line op) old.shelf.back b.back);
        lanes = λ at l there. by at l (get-push old.lanes (record { number = lane; state = Busy t.after }) at l there);
      }) t.leads
    where
      later : List Entry
      later = h ++ Began lane line op ∷ []

      v : View
      v = record (counted old now) { lanes = old.lanes ++ record { number = lane; state = Busy t.after } ∷ []; shelf = t.shelf }

      given : Given modes_of h lane old.shelf
      given = is-given modes_of m same setup h old r found lane idle.other

      mine : Brings (MayGive m modes_of later (length h) op) t.after
      mine = starts-brings (MayGive m modes_of later (length h) op) old.wsize (machine_of m lane op) (turn_at (counted old now)) old.shelf t.next t.after t.shelf
          (begun-with modes_of m h lane line old.shelf given op) t.starts

      own : LaneMay later (record { number = lane; state = Busy t.after })
      own x o u =
          let is = now-one h lane line op (k.lanes.rest lane (λ at there. idle-numbers lane (numbers_of old.lanes) idle.other at there)) x o u in
          subst (λ (q : Op). Brings (MayGive m modes_of later x q) t.after) is.1
          (subst (λ (n : ℕ). Brings (MayGive m modes_of later n op) t.after) (sym is.0) mine)

      by : (at : ℕ) (l : Lane) → (slice_get old.lanes at ≡ Some l) ⊎ ((at ≡ length old.lanes) × (l ≡ record { number = lane; state = Busy t.after })) → LaneMay later l
      by at l (inl was) = lane-later h (Began lane line op) l (λ other o is. idle-apart lane old.lanes idle.other at l was (sym (began-is lane line l.number other op o is))) (b.lanes at l was)
      by at l (inr now_) = subst (LaneMay later) (sym now_.1) own

  -- ---- a reply comes

  not-began : (rec : List ℕ) (lane line : ℕ) (op : Op) → Delivered rec ≡ Began lane line op → ⊥
  not-began rec lane line op is = cc

  module _ (h : List Entry) (old : View) (rec : List ℕ) (xid : ℕ) (call : Waiting Purpose) (at : ℕ) (machine : Machine) (r : Reaches (machine_of m) setup h old) (found : old.lost ≡ false) (fin : View)
      (hears : HearsRecord old rec fin) (named : xid_at rec ≡ Some xid) (waits : waiting_at xid old.calls.calls ≡ Some call)
      (there : slice_get old.lanes at ≡ Some (record { number = call.purpose.lane; state = Busy machine })) (x : ℕ)
      (silent : AnsweredBefore (h ++ Delivered rec ∷ []) x (length (h ++ Delivered rec ∷ [])) → ⊥) where
    abbrev Then : List Entry
    Then = h ++ Delivered rec ∷ []

    -- where it adds its bytes it has them, and its file
    abbrev Has : Op → (wsize : ℕ) (sent turn : Turn) (next : Step) (new : Machine) (after : Shelf)
        → Takes wsize machine sent turn (said_of call.purpose.proc rec) old.shelf next new after → Type 0
    Has op wsize sent turn next new after t = TakesHas (Gives m modes_of Then x op) wsize machine sent turn (said_of call.purpose.proc rec) old.shelf next new after t

    gives-of : (op : Op) → ((path : List (List ℕ)) (offset : ℕ) (text : List ℕ) → op ≡ ops.Put path offset text → IsNamed path → ⊥) → (f : List ℕ) (o : ℕ) (b : List ℕ)
        → MayGive m modes_of Then x op f o b → Gives m modes_of Then x op f o b
    gives-of op none f o b k = record { may_be = k; leads = λ path offset text is well. absurd (none path offset text is well) }

    plain-has : (op : Op) (wsize : ℕ) (sent turn : Turn) (next : Step) (new : Machine) (after : Shelf) (t : Takes wsize machine sent turn (said_of call.purpose.proc rec) old.shelf next new after)
        → ((path : List (List ℕ)) (offset : ℕ) (text : List ℕ) → op ≡ ops.Put path offset text → IsNamed path → ⊥) → Brings (MayGive m modes_of Then x op) machine → Has op wsize sent turn next new after t
    plain-has op wsize sent turn next new after t none b =
        brings-has wsize sent turn (said_of call.purpose.proc rec) (Gives m modes_of Then x op) machine old.shelf next new after t
        (brings-map (MayGive m modes_of Then x op) (Gives m modes_of Then x op) (gives-of op none) machine b)

    -- it has no answer yet
    in-time : (path : List (List ℕ)) (f : List ℕ) → LeadsTo m.root Then path f → LeadsInTime m Then x path f
    in-time path f l = record { n = length Then; within = omega arith; leads = l; unanswered = silent }

    put-is : (path other : List (List ℕ)) (offset at : ℕ) (text bytes : List ℕ) → ops.Put path offset text ≡ ops.Put other at bytes → path ≡ other
    put-is path other offset at text bytes e = cc

    put-has : (path : List (List ℕ)) (offset : ℕ) (text : List ℕ) → UnderWay h call.purpose.lane x (length h) (ops.Put path offset text) → IsNamed path → (wsize : ℕ) (sent turn : Turn) (next : Step)
        (new : Machine) (after : Shelf) (t : Takes wsize machine sent turn (said_of call.purpose.proc rec) old.shelf next new after) → Brings (MayGive m modes_of Then x (ops.Put path offset text)) machine
        → Has (ops.Put path offset text) wsize sent turn next new after t
    put-has path offset text u well wsize sent turn next new after t b =
        has-both wsize sent turn (said_of call.purpose.proc rec) (MayGive m modes_of Then x (ops.Put path offset text)) (LeadsIn m Then path) (Gives m modes_of Then x (ops.Put path offset text))
        (λ f o bytes k l. record { may_be = k; leads = λ its at given is named_. in-time its f (subst (λ (p : List (List ℕ)). LeadsTo m.root Then p f) (put-is path its offset at text given is) l) })
        machine old.shelf next new after t
        (brings-has wsize sent turn (said_of call.purpose.proc rec) (MayGive m modes_of Then x (ops.Put path offset text)) machine old.shelf next new after t b)
        (put-finds m setup h old rec fin xid call at machine r found hears named waits there x path offset text u well wsize sent turn next new after t)

    nameless : (offset at : ℕ) (text bytes : List ℕ) (path : List (List ℕ)) → ops.Put [] offset text ≡ ops.Put path at bytes → IsNamed path → ⊥
    nameless offset at text bytes path is well = let none : 1 ≤ length path = well in let same = ap (λ (p : List (List ℕ)). length p) (put-is [] path offset at text bytes is) in omega (arith, none, same)

    pub has-all : (op : Op) → UnderWay h call.purpose.lane x (length h) op → (wsize : ℕ) (sent turn : Turn) (next : Step) (new : Machine) (after : Shelf)
        (t : Takes wsize machine sent turn (said_of call.purpose.proc rec) old.shelf next new after) → Brings (MayGive m modes_of Then x op) machine → Has op wsize sent turn next new after t
    has-all (ops.Put [] offset text) u wsize sent turn next new after t b = plain-has (ops.Put [] offset text) wsize sent turn next new after t (λ path at bytes is. nameless offset at text bytes path is) b
    has-all (ops.Put (name ∷ path) offset text) u wsize sent turn next new after t b = put-has (name ∷ path) offset text u (omega arith) wsize sent turn next new after t b
    has-all (ops.OpenFile slot mode path) u wsize sent turn next new after t b = plain-has _ wsize sent turn next new after t (λ p o g is well. absurd (cc)) b
    has-all (ops.Read slot offset count) u wsize sent turn next new after t b = plain-has _ wsize sent turn next new after t (λ p o g is well. absurd (cc)) b
    has-all (ops.Write slot offset bytes) u wsize sent turn next new after t b = plain-has _ wsize sent turn next new after t (λ p o g is well. absurd (cc)) b
    has-all (ops.Fill slot offset count byte) u wsize sent turn next new after t b = plain-has _ wsize sent turn next new after t (λ p o g is well. absurd (cc)) b
    has-all (ops.Sync slot) u wsize sent turn next new after t b = plain-has _ wsize sent turn next new after t (λ p o g is well. absurd (cc)) b
    has-all (ops.Close slot) u wsize sent turn next new after t b = plain-has _ wsize sent turn next new after t (λ p o g is well. absurd (cc)) b
    has-all (ops.Truncate slot size) u wsize sent turn next new after t b = plain-has _ wsize sent turn next new after t (λ p o g is well. absurd (cc)) b
    has-all (ops.Stat path) u wsize sent turn next new after t b = plain-has _ wsize sent turn next new after t (λ p o g is well. absurd (cc)) b
    has-all (ops.Access path bits) u wsize sent turn next new after t b = plain-has _ wsize sent turn next new after t (λ p o g is well. absurd (cc)) b
    has-all (ops.MakeDir path) u wsize sent turn next new after t b = plain-has _ wsize sent turn next new after t (λ p o g is well. absurd (cc)) b
    has-all (ops.RemoveDir path) u wsize sent turn next new after t b = plain-has _ wsize sent turn next new after t (λ p o g is well. absurd (cc)) b
    has-all (ops.Remove path) u wsize sent turn next new after t b = plain-has _ wsize sent turn next new after t (λ p o g is well. absurd (cc)) b
    has-all (ops.Rename from to) u wsize sent turn next new after t b = plain-has _ wsize sent turn next new after t (λ p o g is well. absurd (cc)) b
    has-all (ops.Link from to) u wsize sent turn next new after t b = plain-has _ wsize sent turn next new after t (λ p o g is well. absurd (cc)) b
    has-all (ops.SymLink path target) u wsize sent turn next new after t b = plain-has _ wsize sent turn next new after t (λ p o g is well. absurd (cc)) b
    has-all (ops.ReadLink path) u wsize sent turn next new after t b = plain-has _ wsize sent turn next new after t (λ p o g is well. absurd (cc)) b
    has-all (ops.List path) u wsize sent turn next new after t b = plain-has _ wsize sent turn next new after t (λ p o g is well. absurd (cc)) b

  takes-bytes : (h : List Entry) (old new : View) (rec : List ℕ) (xid : ℕ) (call : Waiting Purpose) (at : ℕ) → Reaches (machine_of m) setup h old → old.lost ≡ false → Known setup h old → (fin : View)
      → HearsRecord old rec fin → xid_at rec ≡ Some xid → waiting_at xid old.calls.calls ≡ Some call → position (is_busy call.purpose.lane) old.lanes ≡ Some at
      → TakesAt (taken_one old xid) at call.purpose.sent (said_of call.purpose.proc rec) new → Bytes h old → Bytes (h ++ Delivered rec ∷ []) new
  takes-bytes h old new rec xid call at r found k fin hears named waits there t b =
      leads-bytes later (with_state (taken_one old xid) at t.number (Busy t.after) t.shelf) new at t.number t.after t.next
      (at-set old.lanes at (record { number = t.number; state = Busy t.machine }) (record { number = t.number; state = Busy t.after }) t.there)
      (record {
        back = take-back m modes_of later old.wsize call.purpose.sent (turn_at (taken_one old xid)) (said_of call.purpose.proc rec) t.number busy.under_way.line busy.x busy.op
            (At-grow h (Delivered rec ∷ []) busy.x (Began t.number busy.under_way.line busy.op) busy.under_way.began) t.machine old.shelf t.next t.after t.shelf t.takes
            (has-all h old rec xid call at t.machine r found fin hears named waits mine busy.x silent busy.op (subst (λ (n : ℕ). UnderWay h n busy.x (length h) busy.op) is busy.under_way)
            old.wsize call.purpose.sent (turn_at (taken_one old xid)) t.next t.after t.shelf t.takes brings)
            (back-later m modes_of h (Delivered rec) old.shelf.back b.back);
        lanes = set-may later old.lanes at t.number (Busy t.machine) (Busy t.after) t.there grown
            (λ x op u. takes-brings (MayGive m modes_of later x op) old.wsize t.machine call.purpose.sent (turn_at (taken_one old xid)) (said_of call.purpose.proc rec) old.shelf t.next t.after t.shelf
            (grown at (record { number = t.number; state = Busy t.machine }) t.there x op u) t.takes);
      }) t.leads
    where
      later : List Entry
      later = h ++ Delivered rec ∷ []

      is : t.number ≡ call.purpose.lane
      is = eqb-true t.number call.purpose.lane (at-position (is_busy call.purpose.lane) old.lanes at (record { number = t.number; state = Busy t.machine }) there t.there)

      mine : slice_get old.lanes at ≡ Some (record { number = call.purpose.lane; state = Busy t.machine })
      mine = subst (λ (n : ℕ). slice_get old.lanes at ≡ Some (record { number = n; state = Busy t.machine })) is t.there

      busy : IsBusy h t.number (length h)
      busy = (lanes-under-way h old k.lanes).busy at (record { number = t.number; state = Busy t.machine }) t.there

      no-mark : (lane line : ℕ) (answer : Answer) → Delivered rec ≡ Answered lane line answer → ⊥
      no-mark lane line answer q = cc

      silent : AnsweredBefore later busy.x (length later) → ⊥
      silent a = of (At-cases h (Delivered rec) a.y (Answered a.lane a.ended.line a.answer) a.ended.answered)
        where
          of : At h a.y (Answered a.lane a.ended.line a.answer) ⊎ ((a.y ≡ length h) × (Delivered rec ≡ Answered a.lane a.ended.line a.answer)) → ⊥
          of (inr now) = no-mark a.lane a.ended.line a.answer now.1
          of (inl was) =
              let low = At-below h a.y (Answered a.lane a.ended.line a.answer) was in
              busy.under_way.unanswered (record {
                lane = a.lane;
                op = a.op;
                y = a.y;
                answer = a.answer;
                ended = ended-back h (Delivered rec) a.lane busy.x a.op a.y a.answer low a.ended;
                before = low;
              })

      grown : LanesMay later old.lanes
      grown = lanes-later h (Delivered rec) old.lanes (not-began rec) b.lanes

      brings : Brings (MayGive m modes_of later busy.x busy.op) t.machine
      brings = brings-later m modes_of h (Delivered rec) busy.x busy.op t.machine (b.lanes at (record { number = t.number; state = Busy t.machine }) t.there busy.x busy.op busy.under_way)

  answered-not : (lane line : ℕ) (answer : Answer) (l k : ℕ) (op : Op) → Answered lane line answer ≡ Began l k op → ⊥
  answered-not lane line answer l k op is = cc

  pub keeps-bytes : KeepsHearing (machine_of m) setup Bytes
  keeps-bytes = record {
    fresh = λ h v may up fresh. record {
      back = subst (Back m modes_of h) (sym fresh.back) (record { file = λ f. none-given (Gave m modes_of h f) });
      lanes = λ k lane there. absurd (let no_way : None ≡ Some lane = ap (λ (lanes : List Lane). slice_get lanes k) (sym fresh.lanes) ∙ there in cc);
    };
    stirs = stirs-bytes;
    starts = λ h old new lane line op now r before k idle fits t b. starts-bytes h old new lane line op now r before k idle t b;
    takes = λ h old new rec xid call at r before k fin hears named waits there t b. takes-bytes h old new rec xid call at r before k fin hears named waits there t b;
    answers = λ h old new at lane line answer k a b. subst (Bytes (h ++ Answered lane line answer ∷ [])) (sym a.is) (record {
      back = back-later m modes_of h (Answered lane line answer) old.shelf.back b.back;
      lanes = λ i l there. lanes-later h (Answered lane line answer) old.lanes (answered-not lane line answer) b.lanes (skip at i) l (get-remove old.lanes at i l there);
    });
    same = λ h e old new plain lanes shelf wsize calls b. record {
      back = subst (λ (s : Shelf). Back m modes_of (h ++ e ∷ []) s.back) (sym shelf) (back-later m modes_of h e old.shelf.back b.back);
      lanes = subst (LanesMay (h ++ e ∷ [])) (sym lanes) (lanes-later h e old.lanes plain.begins_ b.lanes);
    };
  }

  pub reached-given : (h : List Entry) (v : View) → Reaches (machine_of m) setup h v → v.lost ≡ false → Back m modes_of h v.shelf.back
  reached-given h v r found = (reached-hearing (machine_of m) (begins-unbegun m) setup Bytes keeps-bytes h v r found).back
