-- A step of a lane's operation with what is told of it, in any of the three ways a step comes about.
use Rattle.core_session.proofs.Prelude.{false, zero, suc, ◌≡◌, ◌≢◌, ◌≤◌, ◌⊎◌, inl, inr, ℕ, List, [], ◌∷◌, ◌++◌, length, Option, Some, None, position, Result, Err, slice_get, refl, sym, ap, subst, ◌∙◌, arith, Waiting, next_xid, waiting_at, Fault, Entry, Reply, Op, said_of, Pending, LaneFile, Turn, Step, Saving, Mounted, machine_of, Lane, Purpose, State, Busy, Over, Setup, is_busy, IsIdle, numbers_of, with_state, Stirs, counted, StartsLane, TakesAt, View, turn_at, unmade_turn, Reaches, taken_one, Known, idle-numbers, number_of, get-push, before-push, to-map, Placed, AreApart, Shelf, is_other, list_any}
use Rattle.core_facts.proofs.Placing.{LaneLive}
use Rattle.core_session.proofs.saves.WholeSteps.{Wholly}
use Rattle.core_session.proofs.syncs.AllJobs.{JobHas, JobBegins, JobOpens, job_save}
use Rattle.core_session.proofs.syncs.AllSteps as all
use Rattle.core_session.proofs.syncs.AllSteps.{stirs-landed, takes-landed, starts-landed}
use Rattle.core_session.proofs.syncs.Fates.{job_kind}
use Rattle.core_session.proofs.syncs.LaneSteps.{EndKnown, GivesBy, Landed, Unmade}
use Rattle.core_session.proofs.syncs.Levels.{Owner, ContentReplies}
use Rattle.core_session.proofs.syncs.Passing.{Tale, told, Ways, Shown, job-in}
use Rattle.core_session.proofs.syncs.Seen.{Sees, sees, sees-new, OthersSo, ButFor, Came, bare, Owned, owned, bases}
use Rattle.core_session.proofs.syncs.Working.{GivesPut, Moves}

-- what is known of an operation of this kind, with all that its steps ask for
pub record Plan (f : List ℕ) (wsize kind q0 : ℕ) (Turned : ℕ → Type 0) : Type 1 where
  pub C : ℕ → Pending → Type 0
  pub D : ℕ → Pending → Type 0
  pub E : ℕ → Pending → Type 0
  pub t : Tale
  pub ways : (turn : Turn) → Turned turn.xid → Ways f wsize turn C D E t
  pub tables : Shelf
  pub moves : (next : Step) → Moves C D E t.A (EndKnown kind next) (GivesBy tables kind next) t.Cut t.B next
  pub Lone : Type 0
  pub puts : (next : Step) → GivesPut f E (GivesBy tables kind next) next (λ final. Lone)
  pub M : Turn → Result Reply Fault → Saving → Pending → Type 0
  pub replies : (sent turn : Turn) (came : Result Reply Fault) → Turned turn.xid → ContentReplies wsize sent turn came (M sent came) C
  pub more : (sent turn : Turn) (came : Result Reply Fault) → Turned turn.xid → ContentReplies wsize sent turn came (M sent came) D
  pub unsaid : (sent : Turn) (fault : Fault) (s : Saving) (b : Pending) → M sent (Err fault) s b
  pub low_c : (q : ℕ) (b : Pending) → C q b → q0 ≤ q
  pub low_d : (q : ℕ) (b : Pending) → D q b → q0 ≤ q
  pub low_e : (q : ℕ) (b : Pending) → E q b → q0 ≤ q

-- what a step leads to
pub record Came_ (f : List ℕ) (wsize : ℕ) (some : 1 ≤ wsize) (number : ℕ) (least : 1 ≤ number) (most : number ≤ 16) (base : ℕ → Option (List ℕ)) (kind q0 : ℕ) (Turned : ℕ → Type 0)
    (p : Plan f wsize kind q0 Turned) (lanes : List Lane) (at : ℕ) (new : View) : Type 1 where
  pub state : State
  pub but : ButFor f lanes new.lanes at (record { number = number; state = state })
  pub owner : Option (Owner f number base)
  pub shown : Shown f wsize some number least most base owner p.C p.D p.E p.t kind state new.shelf.seq new.shelf.back new.shelf.order
  pub owned_ : Owned f new.lanes new.shelf.seq new.shelf.back new.shelf.order

module _ (f : List ℕ) (wsize : ℕ) (some : 1 ≤ wsize) (kind q0 : ℕ) (Turned : ℕ → Type 0) (p : Plan f wsize kind q0 Turned) where
  -- the step where a call isn't made
  pub unmade-of : (number : ℕ) (least : 1 ≤ number) (most : number ≤ 16) (base : ℕ → Option (List ℕ)) (owner : Option (Owner f number base)) (v : View) → Turned 0 → (owner ≡ None → list_any (is_other number f) p.tables.puts ≡ false → p.Lone)
      → Unmade f wsize some number least most base owner p.C p.D p.E p.t p.tables v kind
  unmade-of number least most base owner v none lone = record {
    ways = p.ways (unmade_turn v) none;
    moves = p.moves;
    puts = λ next final z file fault q b after n shut alone on e.
        p.puts next final z file fault q b after n shut
        (λ same. lone (alone same).0 (subst (λ (k : Shelf). list_any (is_other number f) k.puts ≡ false) (z.1 fault n) (alone same).1)) on e;
    M = λ fault. p.M (turn_at v) (Err fault);
    any = p.unsaid (turn_at v);
    replies = λ fault. p.replies (turn_at v) (unmade_turn v) (Err fault) none;
    more = λ fault. p.more (turn_at v) (unmade_turn v) (Err fault) none;
  }

  module _ (number : ℕ) (least : 1 ≤ number) (most : number ≤ 16) (base : ℕ → Option (List ℕ)) (owner : Option (Owner f number base)) where
    -- no number gets less, and the lane's own save is seen
    seq-up : (state : State) (q : ℕ) (b : Pending) (o : List LaneFile) → Shown f wsize some number least most base owner p.C p.D p.E p.t kind state q b o → q0 ≤ q
    seq-up (Busy m) q b o s = by s.1.content
      where
        by : p.C q b ⊎ p.D q b → q0 ≤ q
        by (inl c) = p.low_c q b c
        by (inr d) = p.low_d q b d
    seq-up (Over answer) q b o s = p.low_e q b s.content

    came-of : (state : State) (q : ℕ) (b : Pending) (o : List LaneFile) → Shown f wsize some number least most base owner p.C p.D p.E p.t kind state q b o → Came f number base owner q b o state
    came-of (Busy m) q b o s = s.1.came
    came-of (Over answer) q b o s = bare (λ m is. absurd (cc)) s.beside

    landed-came : (lanes0 lanes : List Lane) (at : ℕ) (new : View) → Landed f wsize some number least most base owner p.C p.D p.E p.t lanes at kind new
        → ((state : State) → slice_get new.lanes at ≡ Some (record { number = number; state = state }) → ButFor f lanes0 new.lanes at (record { number = number; state = state }))
        → OthersSo f lanes0 at number base owner q0 → Came_ f wsize some number least most base kind q0 Turned p lanes0 at new
    landed-came lanes0 lanes at new l but others = record {
      state = l.state;
      but = but l.state l.here;
      owner = owner;
      shown = l.shown;
      owned_ = owned f lanes0 new.lanes at number base l.state (but l.state l.here) q0 new.shelf.seq (seq-up l.state new.shelf.seq new.shelf.back new.shelf.order l.shown) new.shelf.back new.shelf.order
          owner others (came-of l.state new.shelf.seq new.shelf.back new.shelf.order l.shown);
    }

-- the other lanes stay where they are
pub stays-but : (f : List ℕ) (lanes new : List Lane) (at : ℕ) (own : Lane) → slice_get new at ≡ Some own → ((k : ℕ) → k ≢ at → slice_get new k ≡ slice_get lanes k) → ButFor f lanes new at own
stays-but f lanes new at own here others = record {
  here = here;
  was = λ k lane there apart. sym (others k apart) ∙ there;
  stays = λ k lane there apart. others k apart ∙ there;
}

some-number : (a b : ℕ) → Some a ≡ Some b → a ≡ b
some-number a b e = cc

pub push-but : (f : List ℕ) (lanes new : List Lane) (pushed own : Lane) → slice_get new (length lanes) ≡ Some own → ((k : ℕ) → k ≢ length lanes → slice_get new k ≡ slice_get (lanes ++ pushed ∷ []) k)
    → ButFor f lanes new (length lanes) own
push-but f lanes new pushed own here others = record {
  here = here;
  was = λ k lane there apart. by k lane apart (get-push lanes pushed k lane (sym (others k apart) ∙ there));
  stays = λ k lane there apart. others k apart ∙ before-push lanes pushed k lane there;
}
  where
    by : (k : ℕ) (lane : Lane) → k ≢ length lanes → (slice_get lanes k ≡ Some lane) ⊎ ((k ≡ length lanes) × (lane ≡ pushed)) → slice_get lanes k ≡ Some lane
    by k lane apart (inl there) = there
    by k lane apart (inr last) = absurd (apart last.0)

module _ (m : Mounted) (setup : Setup) (h : List Entry) (old : View) (k : Known setup h old) (wholly : Wholly setup h old) (placed : Placed old) (some : 1 ≤ old.wsize) (f : List ℕ)
    (own : Owned f old.lanes old.shelf.seq old.shelf.back old.shelf.order) (Turned : ℕ → Type 0) (next : Turned (next_xid old.calls)) (none : Turned 0) where
  pub all-apart : AreApart old.lanes
  all-apart = all.apart m setup h old k wholly placed some

  module _ (new : View) (at : ℕ) (s : Stirs old at new) where
    abbrev pub LiveS : LaneLive s.number s.machine
    LiveS = placed.live at (record { number = s.number; state = Busy s.machine }) s.there

    pub stirs-came : (p : Plan f old.wsize (job_kind s.machine) old.shelf.seq Turned) → p.tables ≡ new.shelf → (list_any (is_other s.number f) p.tables.puts ≡ false → p.Lone) → (Whole : Type 0) → (Whole → p.C old.shelf.seq old.shelf.back → p.D old.shelf.seq old.shelf.back) → p.C old.shelf.seq old.shelf.back
        → JobHas (told f Whole p.t) s.machine old.shelf.seq old.shelf.back old.shelf.order
        → Came_ f old.wsize some s.number LiveS.least LiveS.most (bases f old.lanes) (job_kind s.machine) old.shelf.seq Turned p old.lanes at new
    stirs-came p tables_are lone Whole whole c tale =
        let see : Sees f old.lanes at s.number (job_save s.machine) old.shelf.seq old.shelf.back old.shelf.order =
        sees f old.lanes at s.number s.machine old.shelf.seq old.shelf.back old.shelf.order all-apart s.there own in
        let l = stirs-landed m setup h old k wholly placed some f p.C p.D p.E p.t new at s see.owner p.tables tables_are (p.ways (turn_at old) next) p.moves
        (unmade-of f old.wsize some (job_kind s.machine) old.shelf.seq Turned p s.number LiveS.least LiveS.most (bases f old.lanes) see.owner
        (with_state old at s.number (Busy s.after) s.shelf) none (λ alone. lone))
        Whole whole c see.beside see.saves_ tale in
        landed-came f old.wsize some (job_kind s.machine) old.shelf.seq Turned p s.number LiveS.least LiveS.most (bases f old.lanes) see.owner old.lanes old.lanes at new l
        (λ state here. stays-but f old.lanes new.lanes at (record { number = s.number; state = state }) here l.others) see.others

  module _ (rec : List ℕ) (xid : ℕ) (call : Waiting Purpose) (at : ℕ) (r : Reaches (machine_of m) setup h old) (found : old.lost ≡ false) (waits : waiting_at xid old.calls.calls ≡ Some call)
      (place : position (is_busy call.purpose.lane) old.lanes ≡ Some at) (new : View) (s : TakesAt (taken_one old xid) at call.purpose.sent (said_of call.purpose.proc rec) new) where
    abbrev pub LiveT : LaneLive s.number s.machine
    LiveT = placed.live at (record { number = s.number; state = Busy s.machine }) s.there

    pub takes-came : (p : Plan f old.wsize (job_kind s.machine) old.shelf.seq Turned) → p.tables ≡ new.shelf → (list_any (is_other s.number f) p.tables.puts ≡ false → p.Lone)
        → ((z : Saving) → job_save s.machine ≡ Some z → p.M call.purpose.sent (said_of call.purpose.proc rec) z old.shelf.back)
        → JobOpens p.t.A old.wsize s.machine call.purpose.sent (turn_at (taken_one old xid)) (said_of call.purpose.proc rec) old.shelf s.next s.after s.shelf s.takes
        → (Whole : Type 0) → (Whole → p.C old.shelf.seq old.shelf.back → p.D old.shelf.seq old.shelf.back) → p.C old.shelf.seq old.shelf.back
        → JobHas (told f Whole p.t) s.machine old.shelf.seq old.shelf.back old.shelf.order
        → Came_ f old.wsize some s.number LiveT.least LiveT.most (bases f old.lanes) (job_kind s.machine) old.shelf.seq Turned p old.lanes at new
    takes-came p tables_are lone says opens Whole whole c tale =
        let see : Sees f old.lanes at s.number (job_save s.machine) old.shelf.seq old.shelf.back old.shelf.order =
        sees f old.lanes at s.number s.machine old.shelf.seq old.shelf.back old.shelf.order all-apart s.there own in
        let l = takes-landed m setup h old k wholly placed some f p.C p.D p.E p.t rec xid call at r found waits place new s see.owner p.tables tables_are (p.ways (turn_at (taken_one old xid)) next) p.moves
        (unmade-of f old.wsize some (job_kind s.machine) old.shelf.seq Turned p s.number LiveT.least LiveT.most (bases f old.lanes) see.owner
        (with_state (taken_one old xid) at s.number (Busy s.after) s.shelf) none (λ alone. lone))
        (p.M call.purpose.sent (said_of call.purpose.proc rec))
        (p.replies call.purpose.sent (turn_at (taken_one old xid)) (said_of call.purpose.proc rec) next) (p.more call.purpose.sent (turn_at (taken_one old xid)) (said_of call.purpose.proc rec) next) says opens
        Whole whole c see.beside see.saves_ tale in
        landed-came f old.wsize some (job_kind s.machine) old.shelf.seq Turned p s.number LiveT.least LiveT.most (bases f old.lanes) see.owner old.lanes old.lanes at new l
        (λ state here. stays-but f old.lanes new.lanes at (record { number = s.number; state = state }) here l.others) see.others

  module _ (new : View) (lane : ℕ) (op : Op) (now : ℕ) (idle : IsIdle lane old.lanes) (s : StartsLane (counted old now) lane (machine_of m lane op) new) where
    other : (i : ℕ) (l : Lane) → slice_get old.lanes i ≡ Some l → (i ≢ length old.lanes) × (l.number ≢ lane)
    other i l there = (λ same. end-none old.lanes i l same there, λ same. idle-numbers lane (numbers_of old.lanes) idle.other i (to-map number_of old.lanes i l there ∙ ap Some same))
      where
        end-none : (lanes : List Lane) (i : ℕ) (l : Lane) → i ≡ length lanes → slice_get lanes i ≡ Some l → ⊥
        end-none [] i l same there = absurd (let no_way : None ≡ Some l = there in cc)
        end-none (a ∷ rest) zero l same there = omega (arith, same)
        end-none (a ∷ rest) (suc i) l same there = end-none rest i l (omega (arith, same)) there

    pub starts-came : (p : Plan f old.wsize (job_kind (machine_of m lane op)) old.shelf.seq Turned) → p.tables ≡ new.shelf → (list_any (is_other lane f) p.tables.puts ≡ false → p.Lone)
        → ((owner : Option (Owner f lane (bases f old.lanes))) → JobBegins (job-in f old.wsize some lane idle.least idle.most (bases f old.lanes) owner p.C p.D p.E p.t (turn_at (counted old now)) (p.ways (turn_at (counted old now)) next))
        (machine_of m lane op) old.shelf.opens)
        → p.C old.shelf.seq old.shelf.back → ((job_kind (machine_of m lane op) ≡ 2) ⊎ (job_kind (machine_of m lane op) ≡ 5) → p.D old.shelf.seq old.shelf.back)
        → Came_ f old.wsize some lane idle.least idle.most (bases f old.lanes) (job_kind (machine_of m lane op)) old.shelf.seq Turned p old.lanes (length old.lanes) new
    starts-came p tables_are lone begins c whole =
        let see : Sees f old.lanes (length old.lanes) lane None old.shelf.seq old.shelf.back old.shelf.order =
        sees-new f old.lanes (length old.lanes) lane old.shelf.seq old.shelf.back old.shelf.order all-apart other own in
        let l = starts-landed m setup h old k wholly placed some f p.C p.D p.E p.t new lane op now idle s see.owner p.tables tables_are (p.ways (turn_at (counted old now)) next) p.moves
        (unmade-of f old.wsize some (job_kind (machine_of m lane op)) old.shelf.seq Turned p lane idle.least idle.most (bases f old.lanes) see.owner
        (record (counted old now) { lanes = old.lanes ++ record { number = lane; state = Busy s.after } ∷ []; shelf = s.shelf }) none (λ alone. lone))
        (begins see.owner) c whole (see.beside refl) in
        landed-came f old.wsize some (job_kind (machine_of m lane op)) old.shelf.seq Turned p lane idle.least idle.most (bases f old.lanes) see.owner old.lanes
        (old.lanes ++ record { number = lane; state = Busy s.after } ∷ []) (length old.lanes) new l
        (λ state here. push-but f old.lanes new.lanes (record { number = lane; state = Busy s.after }) (record { number = lane; state = state }) here l.others) see.others
