-- Along a history: of each file, what is to be sent again has older numbers than what was never sent.
use Rattle.core_counts.proofs.Prelude.{◌≡◌, ◌≤◌, ◌<◌, inl, inr, ◌+◌, ◌-◌, ◌^◌, ◌++◌, ℕ, nat_eq, Bool, true, false, List, [], ◌∷◌, length, Option, Some, None, position, slice_get, Result, Ok, Err, refl, sym, ap, subst, ◌∙◌, arith, eqb-true, eqb-false, Waiting, waiting_at, Answer, Fault, Entry, Began, Answered, Delivered, Reply, Op, said_of, InFlight, Acked, is_in_flight, how_of, ready_of, if-true, if-false, Ready, Unsent, Pending, of_file, HasNoPiece, OnFile, Flown, nothing, rest_of, rest_at, fly_at, Cell, cell_at, Opens, Step, Shelf, Turn, is_first, PutFile, Putting, Saving, Text, Mounted, FileMachine, Machine, PathMachine, machine_of, Fits, file_of, Takes, Lane, Purpose, State, Busy, Over, Setup, is_busy, IsIdle, Leads, Stirs, counted, StartsLane, TakesAt, AnswersAt, View, turn_at, AreApart, IsFresh, in_flight, MaySetUp, IsSetUp, Reaches, begins-unbegun, taken_one, Known, taker-one, reached-all, lanes-under-way, get-remove, skip, look-at, LaneLive, keeps-placed, Basis, stirs-basis, starts-basis, takes-basis, keeps-basis, Wholly, keeps-wholly, stirs-wholly, starts-wholly, takes-wholly, JobBegins, JobOpens, job_save, Common, job_kind, save-is, Job, Content, ContentReplies, SaveSo, Tale, Owned, bases, ButFor, EachSound, IsUnderWay}
use Rattle.write_back.specs.declared.state.Ready.TheVariants.{Again, Refused}
use Rattle.core_facts.specs.InFlight.{of_saving}
use Rattle.core_facts.proofs.Placing.{Placed, seat_state, seat_in}
use Rattle.core_session.proofs.syncs.AllJobs.{PathOpens, job_lane}
use Rattle.core_session.proofs.syncs.Contents.{common, common-replies, common-adds, common-cuts, common-gives}
use Rattle.core_session.proofs.syncs.Fates.{live-lane}
use Rattle.core_session.proofs.syncs.Jobs.{PutOpens, FileOpens, file_lane}
use Rattle.core_session.proofs.syncs.Levels.{queued, elsewhere, under, not-seated}
use Rattle.core_session.proofs.syncs.Passing.{job-in, Shown}
use Rattle.core_session.proofs.syncs.Seen.{free, sees}
use Rattle.write_back.specs.declared.state.State.{State as Kept}
use Rattle.write_back.specs.declared.state.State.TheVariants.{Waiting as Waits}
use Rattle.client_shelf.specs.declared.step.Step.TheVariants as nexts
use Rattle.file_ops.specs.declared.put_file.Putting.TheVariants as putting
use Rattle.file_ops.specs.declared.write_file.Text.TheVariants as texts
use Rattle.file_ops.specs.PutFile as puts
use Rattle.file_ops.specs.Saves as saves
use Rattle.file_ops.specs.WriteFile as writes
use Rattle.op_machines.specs.declared.file_machine.FileMachine.TheVariants as files
use Rattle.op_machines.specs.declared.machine.Machine.TheVariants as machines
use Rattle.op_machines.specs.FileFits.{FileFits}
use Rattle.op_machines.specs.FileSteps as steps
use Rattle.op_machines.specs.PathSteps as paths
use Rattle.core_facts.proofs.AllSeats.{seat_of, path_seat}
use Rattle.core_facts.proofs.FileSeats.{seat_file, seat_put}
use Rattle.core_session.proofs.drops.KnowingAlong.{StepsKnowing, reached-knowing}
use Rattle.core_session.proofs.syncs.Nexts.{common-from, tale-map}
use Rattle.core_session.proofs.syncs.Plans.{Plan, Came_, stirs-came, takes-came, starts-came}
use Rattle.core_session.proofs.syncs.Stands.{Has}
use Rattle.step_pending.proofs.Cutting.{nothing-sound}
use Rattle.write_back.specs.Numbers.{AllUpTo}
use Rattle.write_back.proofs.Numbers.{upto-nothing}
use Rattle.core_counts.proofs.counts.rooms.Whole.{owned-removed}
use Rattle.core_counts.proofs.thrift.short.AgainSaves.{Parts, PartsAt, nothing-parts, goes-parts, takes-parts, unmade-parts, cuts-parts, gives-parts, adds-parts}

-- ---- the bytes of an operation end within all places

made-near : (offset : ℕ) (text : Text) → offset + length (writes.text_bytes text) ≤ 2 ^ 63 - 1 → offset + length (writes.made_bytes text) ≤ 2 ^ 63 - 1
made-near offset (texts.Given bytes) fits = fits
made-near offset (texts.Fill count byte) fits = omega (arith, fits)

abbrev pub Near : List ℕ → ℕ → List ℕ → Type 0
Near file offset bytes = offset + length bytes ≤ 2 ^ 63 - 1

abbrev pub its : Tale
its = record { T = λ n. Unit {0}; X = Unit {0}; A = Near; B = λ file. Unit {0}; Cut = λ file size upto. Unit {0} }

-- as a put has opened its file, it is the first of none
module _ (wsize : ℕ) (sent turn : Turn) (came : Result Reply Fault) (old : Shelf) (next : Step) (lane : ℕ) where
  put-opens : (at : Putting) (m : PutFile) (new : PutFile) (after : Shelf) (t : puts.Takes at wsize m sent turn came old next new after) → FileFits (files.Put m) → m.state ≡ at → m.write.lane ≡ lane
      → (seat_put m.state m.write.state ≡ None → is_first lane old.order ≡ false) → PutOpens Near at wsize m sent turn came old next new after t
  put-opens putting.Idle m new after t fits is same none = tt
  put-opens putting.Opens m new after t fits is same none = λ file ends. (
    made-near m.write.offset m.write.text fits,
    subst (λ (n : ℕ). is_first n old.order ≡ false) (sym same) (none (ap (λ (s : Putting). seat_put s m.write.state) is)),
  )
  put-opens (putting.Adds file) m new after t fits is same none = tt
  put-opens (putting.Saves s) m new after t fits is same none = tt

  file-opens : (m : FileMachine) (new : FileMachine) (after : Shelf) (t : steps.Takes wsize m sent turn came old next new after) → FileFits m → file_lane lane m ≡ lane
      → (seat_file m ≡ None → is_first lane old.order ≡ false) → FileOpens Near wsize m sent turn came old next new after t
  file-opens (files.Open m) new after t fits same none = tt
  file-opens (files.Read m) new after t fits same none = tt
  file-opens (files.Write m) new after t fits same none = tt
  file-opens (files.Sync m) new after t fits same none = tt
  file-opens (files.Close m) new after t fits same none = tt
  file-opens (files.Truncate m) new after t fits same none = tt
  file-opens (files.Put m) new after t fits same none = put-opens m.state m t.machine after t.step fits refl same none

  path-opens : (b : Bool) (m : PathMachine) (new : PathMachine) (after : Shelf) (t : paths.PathTakes b wsize m sent turn came old next new after) → FileFits (file_of m.opener) → file_lane lane (file_of m.opener) ≡ lane
      → (path_seat b m.opener ≡ None → is_first lane old.order ≡ false) → PathOpens Near b wsize m sent turn came old next new after t
  path-opens true m new after t fits same none = file-opens (file_of m.opener) (file_of t.opener) after t.step fits same none
  path-opens false m new after t fits same none = tt

  pub job-opens : (machine new : Machine) (after : Shelf) (t : Takes wsize machine sent turn came old next new after) → Fits machine → job_lane lane machine ≡ lane
      → (seat_of machine ≡ None → is_first lane old.order ≡ false) → JobOpens Near wsize machine sent turn came old next new after t
  job-opens (machines.File m) new after t fits same none = file-opens m t.machine after t.step fits same none
  job-opens (machines.Path m) new after t fits same none = path-opens m.arrived m t.machine after t.step fits same none
  job-opens (machines.Name m) new after t fits same none = tt

file-begins : (j : Job) → ((file : List ℕ) (offset : ℕ) (bytes : List ℕ) → Near file offset bytes → j.A file offset bytes) → ((file : List ℕ) → j.B file)
    → ((file : List ℕ) (size upto : ℕ) → j.C file size upto) → (m : FileMachine) → FileFits m → (slots : Opens) → JobBegins j (machines.File m) slots
file-begins j a b c (files.Open m) fits slots = tt
file-begins j a b c (files.Read m) fits slots = tt
file-begins j a b c (files.Write m) fits slots = λ file there. a file m.offset (writes.text_bytes m.text) fits
file-begins j a b c (files.Sync m) fits slots = λ file there. b file
file-begins j a b c (files.Close m) fits slots = λ file there. b file
file-begins j a b c (files.Truncate m) fits slots = λ file upto there. c file m.size upto
file-begins j a b c (files.Put m) fits slots = tt

pub job-begins : (j : Job) → ((file : List ℕ) (offset : ℕ) (bytes : List ℕ) → Near file offset bytes → j.A file offset bytes) → ((file : List ℕ) → j.B file)
    → ((file : List ℕ) (size upto : ℕ) → j.C file size upto) → (m : Machine) → Fits m → (slots : Opens) → JobBegins j m slots
job-begins j a b c (machines.File m) fits slots = file-begins j a b c m fits slots
job-begins j a b c (machines.Path m) fits slots = tt
job-begins j a b c (machines.Name m) fits slots = tt

-- ---- a step of an operation, as it is planned

module _ (f : List ℕ) where
  abbrev pub Of : ℕ → ℕ → Pending → Type 0
  Of q0 q b = Common q0 q b × PartsAt f q b

  -- the save whose reply it is
  abbrev Mine : ℕ → Result Reply Fault → Saving → Pending → Type 0
  Mine q0 (Ok reply) s b = f ≡ s.file → IsUnderWay s b × (s.upto ≤ q0)
  Mine q0 (Err fault) s b = Unit {0}

  content : (q0 wsize : ℕ) (turn : Turn) → Content wsize turn (Of q0)
  content q0 wsize turn = record {
    sound = λ q b c. c.0.sound;
    goes = λ s q b next new after g empty c. ((common q0 wsize turn).goes s q b next new after g empty c.0, goes-parts f q wsize turn.xid turn.room false s b next new after g c.1);
  }

  replies : (q0 wsize : ℕ) (sent turn : Turn) (came : Result Reply Fault) → ContentReplies wsize sent turn came (Mine q0 came) (Of q0)
  replies q0 wsize sent turn (Ok reply) = record {
    takes = λ repeats later s q b next new after t n empty c. (
      (common-replies q0 wsize sent turn (Ok reply) (Mine q0 (Ok reply))).takes repeats later s q b next new after t n empty c.0,
      takes-parts f q wsize sent turn (Ok reply) repeats s b next new after later t c.0.sound
          (λ same. let w = n.more same in let up = w.1 in let since = c.0.since in (w.0, omega (arith, up, since))) c.1,
    );
  }
  replies q0 wsize sent turn (Err fault) = record {
    takes = λ repeats later s q b next new after t n empty c. (
      (common-replies q0 wsize sent turn (Err fault) (Mine q0 (Err fault))).takes repeats later s q b next new after t n empty c.0,
      unmade-parts f q wsize sent turn fault repeats s b next new after later c.0.sound t c.1,
    );
  }

  given : (q0 : ℕ) (file : List ℕ) (q : ℕ) (b after : Pending) → OnFile b after file nothing → Of q0 q b → Of q0 q after
  given q0 file q b after on d = (common-gives q0 file q b after on d.0, gives-parts f q file b after on d.1)

  abbrev plan : (q0 wsize kind : ℕ) (tables : Shelf) → Plan f wsize kind q0 (λ z. Unit {0})
  plan q0 wsize kind tables = record {
    C = Of q0;
    D = Of q0;
    E = Of q0;
    t = its;
    ways = λ turn turned. record {
      c = content q0 wsize turn;
      d = content q0 wsize turn;
      e = content q0 wsize turn;
      mark = λ q b d. tt;
      apart_ends = λ file apart of. tt;
      settles = λ upto q b t clear d. tt;
      enough = λ q b c. c;
      less = λ q b d. d;
    };
    tables = tables;
    moves = λ next. record {
      adds = λ file offset bytes q b after is near full on c. ((common-adds q0 file offset bytes q b after near full on c.0, adds-parts f q file offset bytes b after c.0.sound on c.1), tt);
      enough = λ q b c. c;
      less = λ q b d. d;
      cuts = λ file size upto q b after short quiet on c. (common-cuts q0 file size upto q b after quiet on c.0, cuts-parts f q file size upto b after c.0.sound on c.1);
      gives = λ final z file fault q b after is of shut on d. given q0 file q b after on d;
    };
    Lone = Unit {0};
    puts = λ next final z file fault q b after is shut alone on e. given q0 file q b after on e;
    M = λ sent came. Mine q0 came;
    replies = λ sent turn came turned. replies q0 wsize sent turn came;
    more = λ sent turn came turned. replies q0 wsize sent turn came;
    unsaid = λ sent fault s b. tt;
    low_c = λ q b c. c.0.since;
    low_d = λ q b d. d.0.since;
    low_e = λ q b d. d.0.since;
  }

  -- ---- along a history

  abbrev pub Tells : State → Type 0
  Tells (Busy machine) = Has f its machine
  Tells (Over answer) = Unit {0}

  -- what a step of the lane at a place leads to
  record Stepped (old new : View) (at number : ℕ) : Type 0 where
    state : State
    but : ButFor f old.lanes new.lanes at (record { number = number; state = state })
    tells : Tells state
    content_ : Of 0 new.shelf.seq new.shelf.back
    owned : Owned f new.lanes new.shelf.seq new.shelf.back new.shelf.order

  module _ (old new : View) (wsize : ℕ) (some : 1 ≤ wsize) (at number : ℕ) (least : 1 ≤ number) (most : number ≤ 16) (kind : ℕ) (base : ℕ → Option (List ℕ)) where
    stepped-of : Came_ f wsize some number least most base kind old.shelf.seq (λ z. Unit {0}) (plan old.shelf.seq wsize kind new.shelf) old.lanes at new → Stepped old new at number
    stepped-of came = record {
      state = came.state;
      but = came.but;
      tells = tells-of came.state came.shown;
      content_ = content-of came.state came.shown;
      owned = came.owned_;
    }
      where
        from : Of old.shelf.seq new.shelf.seq new.shelf.back → Of 0 new.shelf.seq new.shelf.back
        from c = (common-from old.shelf.seq 0 new.shelf.seq new.shelf.back (omega arith) c.0, c.1)

        content-of : (s : State) → Shown f wsize some number least most base came.owner (Of old.shelf.seq) (Of old.shelf.seq) (Of old.shelf.seq) its kind s new.shelf.seq new.shelf.back new.shelf.order
            → Of 0 new.shelf.seq new.shelf.back
        content-of (Busy m) s = elim s.1.content [ inl c ↦ from c | inr d ↦ from d ]
        content-of (Over answer) s = from s.content

        tells-of : (s : State) → Shown f wsize some number least most base came.owner (Of old.shelf.seq) (Of old.shelf.seq) (Of old.shelf.seq) its kind s new.shelf.seq new.shelf.back new.shelf.order → Tells s
        tells-of (Busy m) s =
            tale-map f its its m (λ n z. z) (λ z. z) (λ file offset bytes z. z) (λ file z. z) (λ file size upto z. z) new.shelf.seq new.shelf.back new.shelf.order s.1.tale
        tells-of (Over answer) s = tt

module _ (m : Mounted) (setup : Setup) (f : List ℕ) where
  pub record Ordered (h : List Entry) (v : View) : Type 0 where
    pub basis : Basis setup h v
    pub wholly : Wholly setup h v
    pub placed : Placed v
    pub wsize : 1 ≤ v.wsize
    pub content_ : Of f 0 v.shelf.seq v.shelf.back
    pub owned : Owned f v.lanes v.shelf.seq v.shelf.back v.shelf.order
    pub tells : (k : ℕ) (lane : Lane) → slice_get v.lanes k ≡ Some lane → Tells f lane.state

  some-lane : (a b : Lane) → Some a ≡ Some b → a ≡ b
  some-lane a b e = cc

  was : (v : View) → Of f 0 v.shelf.seq v.shelf.back → Of f v.shelf.seq v.shelf.seq v.shelf.back
  was v c = (record { sound = c.0.sound; upto = c.0.upto; since = omega arith }, c.1)

  pub leads-size : (v new : View) (at number : ℕ) (machine : Machine) (nx : Step) → Leads v at number machine nx new → new.wsize ≡ v.wsize
  leads-size v new at number machine (nexts.Send call) (inl made) = ap (λ (w : View). w.wsize) made.is
  leads-size v new at number machine (nexts.Send call) (inr r) = ap (λ (w : View). w.wsize) r.is
  leads-size v new at number machine nexts.Wait is = ap (λ (w : View). w.wsize) is
  leads-size v new at number machine (nexts.Done answer) is = ap (λ (w : View). w.wsize) is

  ordered : (h : List Entry) (old new : View) (at number : ℕ) → Stepped f old new at number → Basis setup h new → Wholly setup h new → Placed new → 1 ≤ new.wsize
      → ((k : ℕ) (lane : Lane) → slice_get old.lanes k ≡ Some lane → Tells f lane.state) → Ordered h new
  ordered h old new at number s basis wholly placed some tells = record {
    basis = basis;
    wholly = wholly;
    placed = placed;
    wsize = some;
    content_ = s.content_;
    owned = s.owned;
    tells = λ k lane there. by k lane there (nat_eq k at) refl;
  }
    where
      by : (k : ℕ) (lane : Lane) → slice_get new.lanes k ≡ Some lane → (b : Bool) → nat_eq k at ≡ b → Tells f lane.state
      by k lane there true is =
          let same = some-lane (record { number = number; state = s.state }) lane (sym s.but.here ∙ ap (slice_get new.lanes) (sym (eqb-true k at is)) ∙ there) in
          subst (λ (l : Lane). Tells f l.state) same s.tells
      by k lane there false is = tells k lane (s.but.was k lane there (eqb-false k at is))

  more : (a b : ℕ) → b ≡ a → 1 ≤ a → 1 ≤ b
  more a b is some = omega (arith, is, some)

  stirs-ordered : (h : List Entry) (old new : View) (at : ℕ) → Known setup h old → Stirs old at new → Ordered h old → Ordered h new
  stirs-ordered h old new at k t i =
      let live : LaneLive t.number t.machine = i.placed.live at (record { number = t.number; state = Busy t.machine }) t.there in
      ordered h old new at t.number
      (stepped-of f old new old.wsize i.wsize at t.number live.least live.most (job_kind t.machine) (bases f old.lanes)
      (stirs-came m setup h old k i.wholly i.placed i.wsize f i.owned (λ z. Unit {0}) tt tt new at t (plan f old.shelf.seq old.wsize (job_kind t.machine) new.shelf) refl (λ alone. tt) (Unit {0})
      (λ u c. c) (was old i.content_) (i.tells at (record { number = t.number; state = Busy t.machine }) t.there old.shelf.seq old.shelf.back old.shelf.order)))
      (stirs-basis m setup h old new at k t i.basis) (stirs-wholly m setup h old new at k t i.wholly) ((keeps-placed m setup).stirs h old new at k t i.placed)
      (more old.wsize new.wsize (leads-size _ new _ _ t.after t.next t.leads) i.wsize) i.tells

  starts-ordered : (h : List Entry) (old new : View) (lane line : ℕ) (op : Op) (now : ℕ) → Reaches (machine_of m) setup h old → old.lost ≡ false → Known setup h old → IsIdle lane old.lanes
      → Fits (machine_of m lane op) → StartsLane (counted old now) lane (machine_of m lane op) new → Ordered h old → Ordered (h ++ Began lane line op ∷ []) new
  starts-ordered h old new lane line op now r found k idle fits t i =
      ordered (h ++ Began lane line op ∷ []) old new (length old.lanes) lane
      (stepped-of f old new old.wsize i.wsize (length old.lanes) lane idle.least idle.most (job_kind (machine_of m lane op)) (bases f old.lanes)
      (starts-came m setup h old k i.wholly i.placed i.wsize f i.owned (λ z. Unit {0}) tt tt new lane op now idle t (plan f old.shelf.seq old.wsize (job_kind (machine_of m lane op)) new.shelf) refl (λ alone. tt)
      (λ owner. job-begins
      (job-in f old.wsize i.wsize lane idle.least idle.most (bases f old.lanes) owner (Of f old.shelf.seq) (Of f old.shelf.seq) (Of f old.shelf.seq) its (turn_at (counted old now))
      ((plan f old.shelf.seq old.wsize (job_kind (machine_of m lane op)) new.shelf).ways (turn_at (counted old now)) tt))
      (λ file offset bytes a. a) (λ file. tt) (λ file size upto. tt) (machine_of m lane op) fits old.shelf.opens)
      (was old i.content_) (λ saver. was old i.content_)))
      (starts-basis m setup h old new lane line op now r found k idle fits t i.basis) (starts-wholly m setup h old new lane line op now r found k idle t i.wholly)
      ((keeps-placed m setup).starts h old new lane op now k idle t i.placed) (more old.wsize new.wsize (leads-size _ new _ _ t.after t.next t.leads) i.wsize) i.tells

  -- ---- a reply comes

  waits-not : (s : Saving) → s ≡ saves.begun s.file s.upto → 1 ≤ of_saving s → ⊥
  waits-not s is some = let few : 1 ≤ of_saving (saves.begun s.file s.upto) = subst (λ (z : Saving). 1 ≤ of_saving z) is some in omega (arith, few)

  module _ (h : List Entry) (old new : View) (rec : List ℕ) (xid : ℕ) (call : Waiting Purpose) (at : ℕ) (r : Reaches (machine_of m) setup h old) (found : old.lost ≡ false) (k : Known setup h old)
      (waits : waiting_at xid old.calls.calls ≡ Some call) (place : position (is_busy call.purpose.lane) old.lanes ≡ Some at)
      (t : TakesAt (taken_one old xid) at call.purpose.sent (said_of call.purpose.proc rec) new) (i : Ordered h old) where
    abbrev came : Result Reply Fault
    came = said_of call.purpose.proc rec

    apart : AreApart old.lanes
    apart = (lanes-under-way h old k.lanes).apart

    abbrev live : LaneLive t.number t.machine
    live = i.placed.live at (record { number = t.number; state = Busy t.machine }) t.there

    some-wait : 1 ≤ in_flight t.machine
    some-wait = let one = taker-one setup h old xid call at k waits place t.number t.machine t.there in omega (arith, one)

    -- its save is under way
    way : (z : Saving) → job_save t.machine ≡ Some z → f ≡ z.file → IsUnderWay z old.shelf.back × (z.upto ≤ old.shelf.seq)
    way z is same = by ((sees f old.lanes at t.number t.machine old.shelf.seq old.shelf.back old.shelf.order apart t.there i.owned).saves_ z is)
      where
        by : SaveSo f t.number (bases f old.lanes) (sees f old.lanes at t.number t.machine old.shelf.seq old.shelf.back old.shelf.order apart t.there i.owned).owner z old.shelf.seq old.shelf.back old.shelf.order
            → IsUnderWay z old.shelf.back × (z.upto ≤ old.shelf.seq)
        by (queued rests less other) = absurd (waits-not z rests ((save-is t.machine z is).waits some-wait))
        by (elsewhere off other) = absurd (off same)
        by (under here alone less first on) = (on, less)

    mine : (c : Result Reply Fault) (z : Saving) → job_save t.machine ≡ Some z → Mine f old.shelf.seq c z old.shelf.back
    mine (Ok reply) z is = way z is
    mine (Err fault) z is = tt

    opens : JobOpens Near old.wsize t.machine call.purpose.sent (turn_at (taken_one old xid)) came old.shelf t.next t.after t.shelf t.takes
    opens =
        job-opens old.wsize call.purpose.sent (turn_at (taken_one old xid)) came old.shelf t.next t.number t.machine t.after t.shelf t.takes
        (i.basis.fits at (record { number = t.number; state = Busy t.machine }) t.there) (live-lane t.number t.machine live.live)
        (λ is. not-seated (λ n. seat_in n old.lanes) old.shelf.order i.placed.sits t.number (look-at seat_state old.lanes at t.number (Busy t.machine) apart t.there ∙ is))

    takes-ordered : Ordered (h ++ Delivered rec ∷ []) new
    takes-ordered =
        ordered (h ++ Delivered rec ∷ []) old new at t.number
        (stepped-of f old new old.wsize i.wsize at t.number live.least live.most (job_kind t.machine) (bases f old.lanes)
        (takes-came m setup h old k i.wholly i.placed i.wsize f i.owned (λ z. Unit {0}) tt tt rec xid call at r found waits place new t
        (plan f old.shelf.seq old.wsize (job_kind t.machine) new.shelf) refl (λ alone. tt) (λ z saved. mine came z saved) opens (Unit {0})
        (λ u c. c) (was old i.content_) (i.tells at (record { number = t.number; state = Busy t.machine }) t.there old.shelf.seq old.shelf.back old.shelf.order)))
        (takes-basis m setup h old new rec xid call at r found k waits place t i.basis) (takes-wholly m setup h old new rec xid call at r found k waits place t i.wholly)
        ((keeps-placed m setup).takes h old new rec xid call at k waits there_ t i.placed)
        (more old.wsize new.wsize (leads-size _ new _ _ t.after t.next t.leads) i.wsize) i.tells
      where
        there_ : position (is_busy call.purpose.lane) old.lanes ≡ Some at
        there_ = place

  -- ---- the other entries

  pub fresh-ordered : (h : List Entry) (v : View) → MaySetUp setup → IsSetUp setup h → IsFresh setup v → Ordered h v
  fresh-ordered h v may up fresh = record {
    basis = (keeps-basis m setup).fresh h v may up fresh;
    wholly = (keeps-wholly m setup).fresh h v fresh;
    placed = (keeps-placed m setup).fresh v fresh;
    wsize = subst (λ (n : ℕ). 1 ≤ n) (sym fresh.wsize) may.sizes.write;
    content_ = (
      record {
        sound = subst EachSound (sym fresh.back) nothing-sound;
        upto = subst (AllUpTo v.shelf.seq) (sym fresh.back) (upto-nothing v.shelf.seq);
        since = omega arith;
      },
      (0, omega arith, subst (λ (b : Pending). Parts 0 (of_file f b)) (sym fresh.back) (nothing-parts 0)),
    );
    owned = free (subst (HasNoPiece f) (sym fresh.back) refl) (λ k l there. none k l there);
    tells = λ k l there. none k l there;
  }
    where
      none : {X : Type 0} → (k : ℕ) (l : Lane) → slice_get v.lanes k ≡ Some l → X
      none k l there = absurd (let no_way : None ≡ Some l = ap (λ (lanes : List Lane). slice_get lanes k) (sym fresh.lanes) ∙ there in cc)

  answers-ordered : (h : List Entry) (old new : View) (at lane line : ℕ) (answer : Answer) → Known setup h old → AreApart new.lanes → AnswersAt old at lane (Some answer) new → Ordered h old
      → Ordered (h ++ Answered lane line answer ∷ []) new
  answers-ordered h old new at lane line answer k apart a i = record {
    basis = (keeps-basis m setup).answers h old new at lane line answer k a i.basis;
    wholly = (keeps-wholly m setup).answers h old new at lane line answer k a i.wholly;
    placed = (keeps-placed m setup).answers h old new at lane answer k a i.placed;
    wsize = subst (λ (v : View). 1 ≤ v.wsize) (sym a.is) i.wsize;
    content_ = subst (λ (v : View). Of f 0 v.shelf.seq v.shelf.back) (sym a.is) i.content_;
    owned = subst (λ (v : View). Owned f v.lanes v.shelf.seq v.shelf.back v.shelf.order) (sym a.is)
        (owned-removed f old.lanes at lane a.answer a.there (subst (λ (v : View). AreApart v.lanes) a.is apart) old.shelf.seq old.shelf.back old.shelf.order i.owned);
    tells = subst (λ (v : View). (j : ℕ) (l : Lane) → slice_get v.lanes j ≡ Some l → Tells f l.state) (sym a.is) (λ j l there. i.tells (skip at j) l (get-remove old.lanes at j l there));
  }

  pub ordered-laws : StepsKnowing (machine_of m) setup Ordered
  ordered-laws = record {
    stirs = λ h old new at k t i. stirs-ordered h old new at k t i;
    starts = λ h old new lane line op now r found k idle fits t i. starts-ordered h old new lane line op now r found k idle fits t i;
    takes = λ h old new rec xid call at r found k fin hears named waits place t i. takes-ordered h old new rec xid call at r found k waits place t i;
    answers = λ h old new at lane line answer r found k later kept open_ a i.
        answers-ordered h old new at lane line answer k
        (lanes-under-way (h ++ Answered lane line answer ∷ []) new (reached-all (machine_of m) (begins-unbegun m) setup (h ++ Answered lane line answer ∷ []) new later kept).lanes).apart a i;
    same = λ h e old new plain noted lanes shelf wsize calls i. record {
      basis = (keeps-basis m setup).same h e old new (record { begins_ = plain.begins_; answers_ = plain.answers_ }) lanes shelf wsize calls i.basis;
      wholly = (keeps-wholly m setup).same h e old new lanes shelf calls i.wholly;
      placed = (keeps-placed m setup).same old new lanes shelf calls.purposes i.placed;
      wsize = subst (λ (n : ℕ). 1 ≤ n) (sym wsize) i.wsize;
      content_ = subst (λ (s : Shelf). Of f 0 s.seq s.back) (sym shelf) i.content_;
      owned = subst (λ (s : Shelf). Owned f new.lanes s.seq s.back s.order) (sym shelf) (subst (λ (l : List Lane). Owned f l old.shelf.seq old.shelf.back old.shelf.order) (sym lanes) i.owned);
      tells = subst (λ (ls : List Lane). (j : ℕ) (l : Lane) → slice_get ls j ≡ Some l → Tells f l.state) (sym lanes) i.tells;
    };
  }

  pub reached-ordered : (h : List Entry) (v : View) → Reaches (machine_of m) setup h v → v.lost ≡ false → Ordered h v
  reached-ordered = reached-knowing (machine_of m) (begins-unbegun m) setup Ordered ordered-laws fresh-ordered

same-cell : (a b : Cell) → Some a ≡ Some b → a ≡ b
same-cell a b e = cc

-- what rests isn't in flight
rest-idle : (o : Option Cell) (cell : Cell) → rest_of o ≡ Some cell → is_in_flight cell.state ≡ false
rest-idle None cell is = absurd (let no_way : None ≡ Some cell = is in cc)
rest-idle (Some other) cell is = by (is_in_flight other.state) refl
  where
    by : (b : Bool) → is_in_flight other.state ≡ b → is_in_flight cell.state ≡ false
    by true h = absurd (let no_way : None ≡ Some cell = sym (if-true (is_in_flight other.state) None (Some other) h) ∙ is in cc)
    by false h =
        let same = same-cell other cell (sym (if-false (is_in_flight other.state) None (Some other) h) ∙ is) in
        subst (λ (c : Cell). is_in_flight c.state ≡ false) same h

is-again : (ready : Ready) → (how_of ready ≡ 0 → ⊥) → ready ≡ Again
is-again Unsent stable = absurd (stable refl)
is-again Again stable = refl
is-again (Refused status) stable = absurd (stable refl)

waits-again : (state : Kept) → is_in_flight state ≡ false → (how_of (ready_of state) ≡ 0 → ⊥) → state ≡ Waits Again
waits-again (Waits ready) idle stable = ap (λ (r : Ready). Waits r) (is-again ready stable)
waits-again (InFlight ready) idle stable = absurd (let no_way : true ≡ false = idle in cc)
waits-again (Acked held) idle stable = absurd (stable refl)

-- W: what waits to be sent again has an older number than what was never sent, wherever in the file; and so has what flies again.
module _ (m : Mounted) (setup : Setup) (f : List ℕ) (h : List Entry) (v : View) (r : Reaches (machine_of m) setup h v) (found : v.lost ≡ false) (p q : ℕ) where
  pub again-older : (a c : Cell) → rest_at (of_file f v.shelf.back) p ≡ Some a → (how_of (ready_of a.state) ≡ 0 → ⊥) → rest_at (of_file f v.shelf.back) q ≡ Some c → c.state ≡ Waits Unsent → a.number < c.number
  again-older a c there stable here unsent =
      let parts = (reached-ordered m setup f h v r found).content_.1 in
      let again = waits-again a.state (rest-idle (cell_at (of_file f v.shelf.back).segments p) a there) stable in
      let low = (parts.2.rest p a there Again again).again refl in
      let high = (parts.2.rest q c here Unsent unsent).unsent refl in
      omega (arith, low, high)

  pub again-flies-older : (a : Flown) (c : Cell) → fly_at (of_file f v.shelf.back) p ≡ Some a → (how_of a.before ≡ 0 → ⊥) → rest_at (of_file f v.shelf.back) q ≡ Some c → c.state ≡ Waits Unsent → a.number < c.number
  again-flies-older a c there stable here unsent =
      let parts = (reached-ordered m setup f h v r found).content_.1 in
      let low = (parts.2.fly p a there).again (is-again a.before stable) in
      let high = (parts.2.rest q c here Unsent unsent).unsent refl in
      omega (arith, low, high)
