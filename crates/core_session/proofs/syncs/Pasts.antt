-- Beside a close of the file that is past its sync: it is the first in the file's order, so no other operation saves the file.
use Rattle.core_session.proofs.Prelude.{◌≡◌, ◌≢◌, ◌≤◌, ◌⊎◌, ℕ, List, ◌++◌, ◌∷◌, [], length, true, false, Option, Some, None, position, slice_get, refl, sym, ap, ◌∙◌, arith, Waiting, next_xid, waiting_at, Entry, Op, Pending, HasNoPiece, said_of, LaneFile, is_first, Saving, Mounted, Machine, machine_of, Lane, Purpose, Busy, Setup, is_busy, IsIdle, counted, Stirs, TakesAt, StartsLane, with_state, View, turn_at, AreApart, Reaches, seat_of, taken_one, Known, look-at, Sits, Placed, seat_state, seat_in, same-first}
use Rattle.file_ops.specs.Saves as saves
use Rattle.core_session.proofs.saves.WholeSteps.{Wholly}
use Rattle.step_saves.proofs.Going.{begins}
use Rattle.core_session.proofs.syncs.AllJobs.{JobHas, JobBegins, JobOpens, job_save}
use Rattle.core_session.proofs.syncs.AllSteps.{stirs-landed, takes-landed, starts-landed}
use Rattle.core_session.proofs.syncs.Fates.{job_kind, save-is}
use Rattle.core_session.proofs.syncs.LaneSteps.{Landed}
use Rattle.core_session.proofs.syncs.Levels.{Owner, BesideSo, SaveSo}
use Rattle.core_session.proofs.syncs.Passing.{told, job-in}
use Rattle.core_session.proofs.syncs.Plans.{Plan, unmade-of}
use Rattle.core_session.proofs.syncs.Plans as plans
use Rattle.core_session.proofs.syncs.Seen.{Owned, free, taken, StateRested, bases, rests-so}

-- a close that has no save any more, and is the first in the order of the file
pub record IsAhead (f : List ℕ) (lanes : List Lane) (order : List LaneFile) : Type 0 where
  pub at : ℕ
  pub n : ℕ
  pub machine : Machine
  pub there : slice_get lanes at ≡ Some (record { number = n; state = Busy machine })
  pub kind : job_kind machine ≡ 5
  pub bare : job_save machine ≡ None
  pub seat : seat_of machine ≡ Some f
  pub first : is_first n order ≡ true

some-number : (a b : Lane) → Some a ≡ Some b → a ≡ b
some-number a b e = cc

busy-is : (a b : Machine) → Busy a ≡ Busy b → a ≡ b
busy-is a b e = cc

module _ (f : List ℕ) (lanes : List Lane) (q : ℕ) (b : Pending) (o : List LaneFile) (apart : AreApart lanes) (sits : Sits (λ n. seat_in n lanes) o) (p : IsAhead f lanes o) where
  pub seat-there : seat_in p.n lanes ≡ Some f
  seat-there = look-at seat_state lanes p.at p.n (Busy p.machine) apart p.there ∙ p.seat

  -- no save of the file is under way
  pub at-rest : Owned f lanes q b o → HasNoPiece f b × ((k : ℕ) (lane : Lane) → slice_get lanes k ≡ Some lane → StateRested f q lane.state)
  at-rest (free quiet rest) = (quiet, rest)
  at-rest (taken at number m s there holds file way first low rest) =
      let seat : seat_in number lanes ≡ Some f = look-at seat_state lanes at number (Busy m) apart there ∙ (save-is m s holds).seat_is ∙ ap Some (sym file) in
      let one : number ≡ p.n = same-first (λ n. seat_in n lanes) o sits.sound number p.n f seat seat-there first p.first in
      let place : at ≡ p.at = apart at p.at (record { number = number; state = Busy m }) (record { number = p.n; state = Busy p.machine }) there p.there one in
      let machine : m ≡ p.machine = busy-is m p.machine (ap (λ (l : Lane). l.state)
      (some-number (record { number = number; state = Busy m }) (record { number = p.n; state = Busy p.machine }) (sym there ∙ ap (slice_get lanes) place ∙ p.there))) in
      absurd (let no_way : Some s ≡ None = sym holds ∙ ap job_save machine ∙ p.bare in cc)

  module _ (own : Owned f lanes q b o) (number : ℕ) (other : p.n ≢ number) where
    abbrev pub ahead : Owner f number (bases f lanes)
    ahead = record { n = p.n; s = saves.begun f 0; apart = other; seat = seat-there; file = refl }

    pub ahead-beside : BesideSo f number (bases f lanes) (Some ahead) q b o
    ahead-beside = (begins f 0 b (at-rest own).0, p.first, omega arith)

    pub ahead-saves : (at : ℕ) (m : Machine) → slice_get lanes at ≡ Some (record { number = number; state = Busy m }) → (s : Saving) → job_save m ≡ Some s
        → SaveSo f number (bases f lanes) (Some ahead) s q b o
    ahead-saves at m there = rests-so f lanes number (Some ahead) q b o (job_save m) ((at-rest own).1 at (record { number = number; state = Busy m }) there) ahead-beside

none-some : {A : Type 0} (P : Type 0) (a : A) → Some a ≡ None → P
none-some P a e = absurd cc

module _ (m : Mounted) (setup : Setup) (h : List Entry) (old : View) (k : Known setup h old) (wholly : Wholly setup h old) (placed : Placed old) (some : 1 ≤ old.wsize) (f : List ℕ)
    (own : Owned f old.lanes old.shelf.seq old.shelf.back old.shelf.order) (Turned : ℕ → Type 0) (next : Turned (next_xid old.calls)) (none : Turned 0) (p : IsAhead f old.lanes old.shelf.order) where
  abbrev pub AheadOf : (number : ℕ) → p.n ≢ number → Option (Owner f number (bases f old.lanes))
  AheadOf number other =
      Some (ahead f old.lanes old.shelf.seq old.shelf.back old.shelf.order (plans.all-apart m setup h old k wholly placed some f own Turned next none) placed.sits p own number other)

  abbrev pub apart_ : AreApart old.lanes
  apart_ = plans.all-apart m setup h old k wholly placed some f own Turned next none

  module _ (new : View) (at : ℕ) (s : Stirs old at new) (other : p.n ≢ s.number) where
    pub stirs-ahead : (l : Plan f old.wsize (job_kind s.machine) old.shelf.seq Turned) → l.tables ≡ new.shelf
        → l.C old.shelf.seq old.shelf.back → ((Unit {0}) → l.C old.shelf.seq old.shelf.back → l.D old.shelf.seq old.shelf.back)
        → JobHas (told f (Unit {0}) l.t) s.machine old.shelf.seq old.shelf.back old.shelf.order
        → Landed f old.wsize some s.number (plans.LiveS m setup h old k wholly placed some f own Turned next none new at s).least (plans.LiveS m setup h old k wholly placed some f own Turned next none new at s).most
        (bases f old.lanes) (AheadOf s.number other) l.C l.D l.E l.t old.lanes at (job_kind s.machine) new
    stirs-ahead l tables_are c whole tale =
        stirs-landed m setup h old k wholly placed some f l.C l.D l.E l.t new at s (AheadOf s.number other) l.tables tables_are (l.ways (turn_at old) next) l.moves
        (unmade-of f old.wsize some (job_kind s.machine) old.shelf.seq Turned l s.number (plans.LiveS m setup h old k wholly placed some f own Turned next none new at s).least
        (plans.LiveS m setup h old k wholly placed some f own Turned next none new at s).most (bases f old.lanes) (AheadOf s.number other)
        (with_state old at s.number (Busy s.after) s.shelf) none
        (λ e sole. none-some l.Lone (ahead f old.lanes old.shelf.seq old.shelf.back old.shelf.order apart_ placed.sits p own s.number other) e))
        (Unit {0}) whole c (λ bare. ahead-beside f old.lanes old.shelf.seq old.shelf.back old.shelf.order apart_ placed.sits p own s.number other)
        (ahead-saves f old.lanes old.shelf.seq old.shelf.back old.shelf.order apart_ placed.sits p own s.number other at s.machine s.there) tale

  module _ (rec : List ℕ) (xid : ℕ) (call : Waiting Purpose) (at : ℕ) (r : Reaches (machine_of m) setup h old) (found : old.lost ≡ false) (waits : waiting_at xid old.calls.calls ≡ Some call)
      (place : position (is_busy call.purpose.lane) old.lanes ≡ Some at) (new : View) (s : TakesAt (taken_one old xid) at call.purpose.sent (said_of call.purpose.proc rec) new) (other : p.n ≢ s.number) where
    pub takes-ahead : (l : Plan f old.wsize (job_kind s.machine) old.shelf.seq Turned) → l.tables ≡ new.shelf
        → ((z : Saving) → job_save s.machine ≡ Some z → l.M call.purpose.sent (said_of call.purpose.proc rec) z old.shelf.back)
        → JobOpens l.t.A old.wsize s.machine call.purpose.sent (turn_at (taken_one old xid)) (said_of call.purpose.proc rec) old.shelf s.next s.after s.shelf s.takes
        → l.C old.shelf.seq old.shelf.back → ((Unit {0}) → l.C old.shelf.seq old.shelf.back → l.D old.shelf.seq old.shelf.back)
        → JobHas (told f (Unit {0}) l.t) s.machine old.shelf.seq old.shelf.back old.shelf.order
        → Landed f old.wsize some s.number (plans.LiveT m setup h old k wholly placed some f own Turned next none rec xid call at r found waits place new s).least
        (plans.LiveT m setup h old k wholly placed some f own Turned next none rec xid call at r found waits place new s).most (bases f old.lanes) (AheadOf s.number other) l.C l.D l.E l.t old.lanes at (job_kind s.machine) new
    takes-ahead l tables_are says opens c whole tale =
        takes-landed m setup h old k wholly placed some f l.C l.D l.E l.t rec xid call at r found waits place new s (AheadOf s.number other) l.tables tables_are (l.ways (turn_at (taken_one old xid)) next) l.moves
        (unmade-of f old.wsize some (job_kind s.machine) old.shelf.seq Turned l s.number (plans.LiveT m setup h old k wholly placed some f own Turned next none rec xid call at r found waits place new s).least
        (plans.LiveT m setup h old k wholly placed some f own Turned next none rec xid call at r found waits place new s).most (bases f old.lanes) (AheadOf s.number other)
        (with_state (taken_one old xid) at s.number (Busy s.after) s.shelf) none
        (λ e sole. none-some l.Lone (ahead f old.lanes old.shelf.seq old.shelf.back old.shelf.order apart_ placed.sits p own s.number other) e))
        (l.M call.purpose.sent (said_of call.purpose.proc rec))
        (l.replies call.purpose.sent (turn_at (taken_one old xid)) (said_of call.purpose.proc rec) next) (l.more call.purpose.sent (turn_at (taken_one old xid)) (said_of call.purpose.proc rec) next) says opens
        (Unit {0}) whole c (λ bare. ahead-beside f old.lanes old.shelf.seq old.shelf.back old.shelf.order apart_ placed.sits p own s.number other)
        (ahead-saves f old.lanes old.shelf.seq old.shelf.back old.shelf.order apart_ placed.sits p own s.number other at s.machine s.there) tale

  module _ (new : View) (lane : ℕ) (op : Op) (now : ℕ) (idle : IsIdle lane old.lanes) (s : StartsLane (counted old now) lane (machine_of m lane op) new) (other : p.n ≢ lane) where
    pub starts-ahead : (l : Plan f old.wsize (job_kind (machine_of m lane op)) old.shelf.seq Turned) → l.tables ≡ new.shelf
        → ((owner : Option (Owner f lane (bases f old.lanes))) → JobBegins (job-in f old.wsize some lane idle.least idle.most (bases f old.lanes) owner l.C l.D l.E l.t (turn_at (counted old now)) (l.ways (turn_at (counted old now)) next))
        (machine_of m lane op) old.shelf.opens)
        → l.C old.shelf.seq old.shelf.back → ((job_kind (machine_of m lane op) ≡ 2) ⊎ (job_kind (machine_of m lane op) ≡ 5) → l.D old.shelf.seq old.shelf.back)
        → Landed f old.wsize some lane idle.least idle.most (bases f old.lanes) (AheadOf lane other) l.C l.D l.E l.t (old.lanes ++ record { number = lane; state = Busy s.after } ∷ []) (length old.lanes) (job_kind (machine_of m lane op)) new
    starts-ahead l tables_are begins_ c whole =
        starts-landed m setup h old k wholly placed some f l.C l.D l.E l.t new lane op now idle s (AheadOf lane other) l.tables tables_are (l.ways (turn_at (counted old now)) next) l.moves
        (unmade-of f old.wsize some (job_kind (machine_of m lane op)) old.shelf.seq Turned l lane idle.least idle.most (bases f old.lanes) (AheadOf lane other)
        (record (counted old now) { lanes = old.lanes ++ record { number = lane; state = Busy s.after } ∷ []; shelf = s.shelf }) none
        (λ e sole. none-some l.Lone (ahead f old.lanes old.shelf.seq old.shelf.back old.shelf.order apart_ placed.sits p own lane other) e))
        (begins_ (AheadOf lane other)) c whole
        (ahead-beside f old.lanes old.shelf.seq old.shelf.back old.shelf.order apart_ placed.sits p own lane other)
