-- An operation is refused for its slot only where it finds no place there, and for its open only where that isn't for it.
use Rattle.core_facts.proofs.Prelude.{◌≡◌, ◌≤◌, ◌-◌, ℕ, Bool, true, false, List, [], ◌∷◌, ◌++◌, length, Option, Some, None, option_map, Result, Ok, Err, refl, sym, ap, subst, ◌∙◌, arith, Mode, DirKept, FileKept, Opened, Answer, Fault, Entry, Began, Reply, Op, At, Ended, can_write, slot_of, Terms, At-grow, At-below, At-last, At-one, Step, Shelf, Turn, file_at, Mounted, FileMachine, Machine, Opener, PathMachine, machine_of, file_of, slot_taken, begun_at, placed, Starts, Resumes, Takes, WalkStep, State, Busy, Over, Setup, View, Reaches}
use Rattle.claims.specs.Rights.{can_read, write, fill, truncate, NoPlace, taken, free, NoRight, read, change}
use Rattle.std.specs.FinMap as finite
use Rattle.nfs_types.specs.declared.mode.Mode.TheVariants as modes
use Rattle.nfs_dir_calls.specs.declared.keeping.DirKept.TheVariants as found
use Rattle.nfs_file_calls.specs.declared.owned.FileKept.TheVariants as kept
use Rattle.world_model.specs.declared.answer.Answer.TheVariants as answers
use Rattle.world_model.specs.declared.answer.Fault.TheVariants as faults
use Rattle.world_model.specs.declared.message.Reply.TheVariants as replies
use Rattle.world_model.specs.declared.op.Op.TheVariants as ops
use Rattle.client_shelf.specs.declared.step.Step.TheVariants as nexts
use Rattle.op_machines.specs.declared.file_machine.FileMachine.TheVariants as files
use Rattle.op_machines.specs.declared.machine.Machine.TheVariants as machines
use Rattle.op_machines.specs.declared.opener.Opener.TheVariants as openers
use Rattle.op_machines.specs.FileSteps as moves
use Rattle.op_machines.specs.PathSteps as paths
use Rattle.name_ops.specs.declared.walk.WalkStep.TheVariants as walks
use Rattle.name_ops.specs.Walking as walking
use Rattle.core_facts.proofs.AllCounts.{begins-unbegun}
use Rattle.core_facts.proofs.AllFaults as steps
use Rattle.core_facts.proofs.Faults.{IsOuter, OwnFaults, OfReply, Came, FineResult, FineAnswer}
use Rattle.core_facts.proofs.HeldSlots.{may, Given, is-given, always-later}
use Rattle.core_facts.proofs.SlotExact.{NoneAt, is_taken, is_free, OtherAt, in-slot}
use Rattle.core_facts.proofs.SlotGrowth.{held-grow, held-back, IsShown, Agrees}
use Rattle.core_facts.proofs.Steps.{ThenOf}
use Rattle.core_facts.proofs.Stories.{LawsOver, answered-over}

-- ---- the rows

-- the operation that began at the place finds no place in its slots, or no right
pub record HasNone (terms : Terms) (h : List Entry) (x : ℕ) (op : Op) : Type 0 where
  pub lane : ℕ
  pub line : ℕ
  pub began : At h x (Began lane line op)
  pub none : NoneAt terms h lane x op

pub record HasOther (terms : Terms) (h : List Entry) (x : ℕ) (op : Op) : Type 0 where
  pub lane : ℕ
  pub line : ℕ
  pub began : At h x (Began lane line op)
  pub other : OtherAt terms h lane x op

-- an open may find its slot taken at its end too: of it nothing is said here
abbrev pub opens_slot : Op → Bool
opens_slot (ops.OpenFile slot mode path) = true
opens_slot op = false

abbrev pub SlotRow : Bool → Terms → List Entry → ℕ → Op → Type 0
SlotRow true terms h x op = Unit {0}
SlotRow false terms h x op = HasNone terms h x op

abbrev pub Row : Terms → List Entry → ℕ → Op → Fault → Type 0
Row terms h x op faults.Slot = SlotRow (opens_slot op) terms h x op
Row terms h x op faults.Mode = HasOther terms h x op
Row terms h x op faults.Lost = Unit {0}
Row terms h x op (faults.Nfs status) = Unit {0}
Row terms h x op (faults.Rpc n) = Unit {0}
Row terms h x op (faults.Bad rule) = Unit {0}
Row terms h x op faults.Spent = Unit {0}
Row terms h x op faults.Kind = Unit {0}
Row terms h x op faults.Many = Unit {0}
Row terms h x op faults.Memory = Unit {0}

module _ (terms : Terms) (h : List Entry) (x : ℕ) (op : Op) where
  pub own : OwnFaults (Row terms h x op)
  own = record { kind = tt; many = tt; memory = tt; bad = λ rule. tt }

  outer-row : (fault : Fault) → IsOuter fault → Row terms h x op fault
  outer-row faults.Lost o = tt
  outer-row (faults.Nfs status) o = tt
  outer-row (faults.Rpc n) o = tt
  outer-row (faults.Bad rule) o = tt
  outer-row faults.Spent o = tt
  outer-row faults.Slot o = absurd o
  outer-row faults.Mode o = absurd o
  outer-row faults.Kind o = tt
  outer-row faults.Many o = tt
  outer-row faults.Memory o = tt

  dir-row : (reply : DirKept) → OfReply (Row terms h x op) (replies.Dir reply)
  dir-row (found.LookupFail status dir) = tt
  dir-row (found.ReadLinkFail status attr) = tt
  dir-row (found.CreateFail status wcc) = tt
  dir-row (found.MkDirFail status wcc) = tt
  dir-row (found.SymLinkFail status wcc) = tt
  dir-row (found.RemoveFail status wcc) = tt
  dir-row (found.RmDirFail status wcc) = tt
  dir-row (found.RenameFail status source target) = tt
  dir-row (found.LinkFail status attr wcc) = tt
  dir-row (found.ReadDirPlusFail status attr) = tt
  dir-row reply = tt

  file-row : (reply : FileKept) → OfReply (Row terms h x op) (replies.File reply)
  file-row (kept.GetAttrFail status) = tt
  file-row (kept.SetAttrFail status wcc) = tt
  file-row (kept.AccessFail status attr) = tt
  file-row (kept.ReadFail status attr) = tt
  file-row (kept.WriteFail status wcc) = tt
  file-row (kept.CommitFail status wcc) = tt
  file-row reply = tt

  came-row : (came : Result Reply Fault) → FineResult IsOuter came → Came (Row terms h x op) came
  came-row (Ok (replies.Dir reply)) f = dir-row reply
  came-row (Ok (replies.File reply)) f = file-row reply
  came-row (Ok (replies.Mount reply)) f = tt
  came-row (Err fault) f = outer-row fault f

-- ---- operations other than opens stay so

abbrev FileOther : FileMachine → Type 0
FileOther (files.Open m) = ⊥
FileOther (files.Read m) = Unit {0}
FileOther (files.Write m) = Unit {0}
FileOther (files.Sync m) = Unit {0}
FileOther (files.Close m) = Unit {0}
FileOther (files.Truncate m) = Unit {0}
FileOther (files.Put m) = Unit {0}

abbrev IsOther : Machine → Type 0
IsOther (machines.File m) = FileOther m
IsOther (machines.Path m) = FileOther (file_of m.opener)
IsOther (machines.Name m) = Unit {0}

file-as : (to new : FileMachine) → new ≡ to → FileOther to → FileOther new
file-as to new is o = subst FileOther (sym is) o

file-starts : (m : FileMachine) (wsize : ℕ) (turn : Turn) (old : Shelf) (next : Step) (new : FileMachine) (after : Shelf) → FileOther m → moves.Starts wsize m turn old next new after → FileOther new
file-starts (files.Open m) wsize turn old next new after o s = absurd o
file-starts (files.Read m) wsize turn old next new after o s = file-as _ new s.machine_is tt
file-starts (files.Write m) wsize turn old next new after o s = file-as _ new s.machine_is tt
file-starts (files.Sync m) wsize turn old next new after o s = file-as _ new s.machine_is tt
file-starts (files.Close m) wsize turn old next new after o s = file-as _ new s.machine_is tt
file-starts (files.Truncate m) wsize turn old next new after o s = file-as _ new s.machine_is tt
file-starts (files.Put m) wsize turn old next new after o s = file-as _ new s.machine_is tt

file-resumes : (m : FileMachine) (wsize : ℕ) (turn : Turn) (old : Shelf) (next : Step) (new : FileMachine) (after : Shelf) → FileOther m → moves.Resumes wsize m turn old next new after → FileOther new
file-resumes (files.Open m) wsize turn old next new after o s = absurd o
file-resumes (files.Read m) wsize turn old next new after o s = file-as _ new s.machine_is tt
file-resumes (files.Write m) wsize turn old next new after o s = file-as _ new s.machine_is tt
file-resumes (files.Sync m) wsize turn old next new after o s = file-as _ new s.machine_is tt
file-resumes (files.Close m) wsize turn old next new after o s = file-as _ new s.machine_is tt
file-resumes (files.Truncate m) wsize turn old next new after o s = file-as _ new s.machine_is tt
file-resumes (files.Put m) wsize turn old next new after o s = file-as _ new s.machine_is tt

file-takes : (m : FileMachine) (wsize : ℕ) (sent turn : Turn) (came : Result Reply Fault) (old : Shelf) (next : Step) (new : FileMachine) (after : Shelf) → FileOther m
    → moves.Takes wsize m sent turn came old next new after → FileOther new
file-takes (files.Open m) wsize sent turn came old next new after o s = absurd o
file-takes (files.Read m) wsize sent turn came old next new after o s = file-as _ new s.machine_is tt
file-takes (files.Write m) wsize sent turn came old next new after o s = file-as _ new s.machine_is tt
file-takes (files.Sync m) wsize sent turn came old next new after o s = file-as _ new s.machine_is tt
file-takes (files.Close m) wsize sent turn came old next new after o s = file-as _ new s.machine_is tt
file-takes (files.Truncate m) wsize sent turn came old next new after o s = file-as _ new s.machine_is tt
file-takes (files.Put m) wsize sent turn came old next new after o s = file-as _ new s.machine_is tt

path-as : (to new : PathMachine) → new ≡ to → FileOther (file_of to.opener) → FileOther (file_of new.opener)
path-as to new is o = subst (λ (m : PathMachine). FileOther (file_of m.opener)) (sym is) o

placed-other : (dir : List ℕ) (k : Opener) → FileOther (file_of k) → FileOther (file_of (placed dir k))
placed-other dir (openers.Open m) o = o
placed-other dir (openers.Put m) o = tt

begun-other : (moment : ℕ) (k : Opener) → FileOther (file_of k) → FileOther (file_of (begun_at moment k))
begun-other moment (openers.Open m) o = o
begun-other moment (openers.Put m) o = tt

then-other : (wsize : ℕ) (m : PathMachine) (turn : Turn) (old : Shelf) (next : Step) (new : PathMachine) (after : Shelf) → FileOther (file_of m.opener)
    → paths.ThenResumes wsize m turn old next new after → FileOther (file_of new.opener)
then-other wsize m turn old next new after o t =
    path-as (record m { opener = t.opener }) new t.machine_is (file-resumes (file_of m.opener) wsize turn old next (file_of t.opener) after o t.step)

follows-other : (step : WalkStep) (wsize : ℕ) (m : PathMachine) (turn : Turn) (old : Shelf) (next : Step) (new : PathMachine) (after : Shelf) → FileOther (file_of m.opener)
    → paths.Follows step wsize m turn old next new after → FileOther (file_of new.opener)
follows-other (walks.Send call) wsize m turn old next new after o f = path-as m new f.1 o
follows-other walks.Wait wsize m turn old next new after o f = path-as m new f.1 o
follows-other (walks.At dir) wsize m turn old next new after o f =
    then-other wsize (record m { opener = placed dir m.opener; arrived = true }) turn old next new after (placed-other dir m.opener o) f
follows-other (walks.Refused fault) wsize m turn old next new after o f = path-as m new f.1 o

path-resumes : (b : Bool) (wsize : ℕ) (m : PathMachine) (turn : Turn) (old : Shelf) (next : Step) (new : PathMachine) (after : Shelf) → FileOther (file_of m.opener)
    → paths.PathResumes b wsize m turn old next new after → FileOther (file_of new.opener)
path-resumes true wsize m turn old next new after o r = then-other wsize m turn old next new after o r
path-resumes false wsize m turn old next new after o r =
    follows-other (walking.go_next m.walk turn old) wsize (record m { walk = walking.go_after m.walk turn old }) turn (walking.go_shelf m.walk turn old) next new after o r

path-starts : (b : Bool) (wsize : ℕ) (m : PathMachine) (turn : Turn) (old : Shelf) (next : Step) (new : PathMachine) (after : Shelf) → FileOther (file_of m.opener)
    → paths.StartsIf b wsize m turn old next new after → FileOther (file_of new.opener)
path-starts true wsize m turn old next new after o s = path-as m new s.1 o
path-starts false wsize m turn old next new after o s =
    path-resumes m.arrived wsize (record m { opener = begun_at (turn.moment - 1) m.opener }) turn old next new after (begun-other (turn.moment - 1) m.opener o) s

path-takes : (b : Bool) (wsize : ℕ) (m : PathMachine) (sent turn : Turn) (came : Result Reply Fault) (old : Shelf) (next : Step) (new : PathMachine) (after : Shelf) → FileOther (file_of m.opener)
    → paths.PathTakes b wsize m sent turn came old next new after → FileOther (file_of new.opener)
path-takes true wsize m sent turn came old next new after o t =
    path-as (record m { opener = t.opener }) new t.machine_is (file-takes (file_of m.opener) wsize sent turn came old next (file_of t.opener) after o t.step)
path-takes false wsize m sent turn came old next new after o t =
    follows-other t.step wsize t.walked turn t.heard next new after (path-as (record m { walk = t.walked.walk }) t.walked t.walked_is o) t.follows

other-as : (to new : Machine) → new ≡ to → IsOther to → IsOther new
other-as to new is o = subst IsOther (sym is) o

other-starts : (m : Machine) (wsize : ℕ) (turn : Turn) (old : Shelf) (next : Step) (new : Machine) (after : Shelf) → IsOther m → Starts wsize m turn old next new after → IsOther new
other-starts (machines.File m) wsize turn old next new after o s = other-as (machines.File s.machine) new s.machine_is (file-starts m wsize turn old next s.machine after o s.step)
other-starts (machines.Path m) wsize turn old next new after o s =
    other-as (machines.Path s.machine) new s.machine_is (path-starts (slot_taken m.opener old.opens) wsize m turn old next s.machine after o s.step)
other-starts (machines.Name m) wsize turn old next new after o s = other-as (machines.Name s.machine) new s.machine_is tt

other-resumes : (m : Machine) (wsize : ℕ) (turn : Turn) (old : Shelf) (next : Step) (new : Machine) (after : Shelf) → IsOther m → Resumes wsize m turn old next new after → IsOther new
other-resumes (machines.File m) wsize turn old next new after o s = other-as (machines.File s.machine) new s.machine_is (file-resumes m wsize turn old next s.machine after o s.step)
other-resumes (machines.Path m) wsize turn old next new after o s =
    other-as (machines.Path s.machine) new s.machine_is (path-resumes m.arrived wsize m turn old next s.machine after o s.step)
other-resumes (machines.Name m) wsize turn old next new after o s = other-as (machines.Name s.machine) new s.machine_is tt

other-takes : (m : Machine) (wsize : ℕ) (sent turn : Turn) (came : Result Reply Fault) (old : Shelf) (next : Step) (new : Machine) (after : Shelf) → IsOther m
    → Takes wsize m sent turn came old next new after → IsOther new
other-takes (machines.File m) wsize sent turn came old next new after o s =
    other-as (machines.File s.machine) new s.machine_is (file-takes m wsize sent turn came old next s.machine after o s.step)
other-takes (machines.Path m) wsize sent turn came old next new after o s =
    other-as (machines.Path s.machine) new s.machine_is (path-takes m.arrived wsize m sent turn came old next s.machine after o s.step)
other-takes (machines.Name m) wsize sent turn came old next new after o s = other-as (machines.Name s.machine) new s.machine_is tt

-- where an open may end with a taken slot
abbrev MayEnd : Bool → Machine → Type 0
MayEnd true machine = Unit {0}
MayEnd false machine = IsOther machine

module _ (P : Fault → Type 0) (own : OwnFaults P) where
  file-ends : (m : FileMachine) (old : Shelf) → FileOther m → steps.FileEnds P own m old
  file-ends (files.Open m) old o = absurd o
  file-ends (files.Read m) old o = tt
  file-ends (files.Write m) old o = tt
  file-ends (files.Sync m) old o = tt
  file-ends (files.Close m) old o = tt
  file-ends (files.Truncate m) old o = tt
  file-ends (files.Put m) old o = tt

  other-ends : (m : Machine) (old : Shelf) → IsOther m → steps.Ends P own m old
  other-ends (machines.File m) old o = file-ends m old o
  other-ends (machines.Path m) old o = file-ends (file_of m.opener) old o
  other-ends (machines.Name m) old o = tt

-- ---- one entry more

none-grow : (terms : Terms) (h : List Entry) (e : Entry) (lane x : ℕ) (op : Op) → x ≤ length h → NoneAt terms h lane x op → NoneAt terms (h ++ e ∷ []) lane x op
none-grow terms h e lane x op low (is_taken slot mode path f k is i) = is_taken slot mode path f k is (held-grow terms.modes h e lane slot f k x low i)
none-grow terms h e lane x op low (is_free slot on none) = is_free slot on (λ f k i. none f k (held-back terms.modes h e lane slot f k x low i))

has-none-later : (terms : Terms) (h : List Entry) (e : Entry) (x : ℕ) (op : Op) → HasNone terms h x op → HasNone terms (h ++ e ∷ []) x op
has-none-later terms h e x op r = record {
  lane = r.lane;
  line = r.line;
  began = At-grow h (e ∷ []) x (Began r.lane r.line op) r.began;
  none = let low = At-below h x (Began r.lane r.line op) r.began in none-grow terms h e r.lane x op (omega (arith, low)) r.none;
}

has-other-later : (terms : Terms) (h : List Entry) (e : Entry) (x : ℕ) (op : Op) → HasOther terms h x op → HasOther terms (h ++ e ∷ []) x op
has-other-later terms h e x op r =
    let low = At-below h x (Began r.lane r.line op) r.began in
    record {
      lane = r.lane;
      line = r.line;
      began = At-grow h (e ∷ []) x (Began r.lane r.line op) r.began;
      other = record {
        slot = r.other.slot;
        works_on = r.other.works_on;
        f = r.other.f;
        mode = r.other.mode;
        held = held-grow terms.modes h e r.lane r.other.slot r.other.f r.other.mode x (omega (arith, low)) r.other.held;
        right = r.other.right;
      };
    }

slot-later : (b : Bool) (terms : Terms) (h : List Entry) (e : Entry) (x : ℕ) (op : Op) → SlotRow b terms h x op → SlotRow b terms (h ++ e ∷ []) x op
slot-later true terms h e x op r = tt
slot-later false terms h e x op r = has-none-later terms h e x op r

row-later : (terms : Terms) (h : List Entry) (e : Entry) (x : ℕ) (op : Op) (fault : Fault) → Row terms h x op fault → Row terms (h ++ e ∷ []) x op fault
row-later terms h e x op faults.Slot r = slot-later (opens_slot op) terms h e x op r
row-later terms h e x op faults.Mode r = has-other-later terms h e x op r
row-later terms h e x op faults.Lost r = tt
row-later terms h e x op (faults.Nfs status) r = tt
row-later terms h e x op (faults.Rpc n) r = tt
row-later terms h e x op (faults.Bad rule) r = tt
row-later terms h e x op faults.Spent r = tt
row-later terms h e x op faults.Kind r = tt
row-later terms h e x op faults.Many r = tt
row-later terms h e x op faults.Memory r = tt

-- ---- as an operation begins

nothing-there : (o : Option Opened) → option_map (λ (k : Opened). k.file) o ≡ None → o ≡ None
nothing-there None e = refl
nothing-there (Some k) e = absurd cc

module _ (terms : Terms) (h : List Entry) (lane line : ℕ) (op : Op) (old : Shelf) (given : Given terms.modes h lane old) where
  abbrev Later : List Entry
  Later = h ++ Began lane line op ∷ []

  abbrev Now : Fault → Type 0
  Now = Row terms Later (length h) op

  finds-none : (slot : ℕ) → slot_of op ≡ Some slot → opens_slot op ≡ false → finite.get old.opens (lane, slot) ≡ None → Now faults.Slot
  finds-none slot on other none = subst (λ (b : Bool). SlotRow b terms Later (length h) op) (sym other) (record {
    lane = lane;
    line = line;
    began = At-last h (Began lane line op);
    none = is_free slot on (λ f k i. (subst (Agrees terms.modes h lane slot) none (given slot)) f k (held-back terms.modes h (Began lane line op) lane slot f k (length h) (omega arith) i));
  })

  finds-other : (slot : ℕ) (o : Opened) → slot_of op ≡ Some slot → finite.get old.opens (lane, slot) ≡ Some o → may op o.mode ≡ false → Now faults.Mode
  finds-other slot o on there right =
      let shown : IsShown terms.modes h lane slot o = subst (Agrees terms.modes h lane slot) there (given slot) in
      record {
        lane = lane;
        line = line;
        began = At-last h (Began lane line op);
        other = record {
          slot = slot;
          works_on = on;
          f = o.file;
          mode = o.mode;
          held = held-grow terms.modes h (Began lane line op) lane slot o.file o.mode (length h) (omega arith) shown.held;
          right = right;
        };
      }

  no-file : (slot : ℕ) → slot_of op ≡ Some slot → opens_slot op ≡ false → file_at lane slot old.opens ≡ None → Now faults.Slot
  no-file slot on other none = finds-none slot on other (nothing-there (finite.get old.opens (lane, slot)) none)

-- where its slot refuses it, it has its row
begins-row : (terms : Terms) (mounted : Mounted) (h : List Entry) (lane line : ℕ) (op : Op) (old : Shelf) → Given terms.modes h lane old
    → steps.Begins (Row terms (h ++ Began lane line op ∷ []) (length h) op) (own terms (h ++ Began lane line op ∷ []) (length h) op) (machine_of mounted lane op) old
begins-row terms mounted h lane line (ops.OpenFile slot mode path) old given = λ there. tt
begins-row terms mounted h lane line (ops.Read slot offset count) old given = (
  finds-none terms h lane line (ops.Read slot offset count) old given slot refl refl,
  λ o there is. finds-other terms h lane line (ops.Read slot offset count) old given slot o refl there (ap can_read is),
)
begins-row terms mounted h lane line (ops.Write slot offset bytes) old given = (
  finds-none terms h lane line (ops.Write slot offset bytes) old given slot refl refl,
  λ o there is. finds-other terms h lane line (ops.Write slot offset bytes) old given slot o refl there (ap can_write is),
)
begins-row terms mounted h lane line (ops.Fill slot offset count byte) old given = (
  finds-none terms h lane line (ops.Fill slot offset count byte) old given slot refl refl,
  λ o there is. finds-other terms h lane line (ops.Fill slot offset count byte) old given slot o refl there (ap can_write is),
)
begins-row terms mounted h lane line (ops.Sync slot) old given = no-file terms h lane line (ops.Sync slot) old given slot refl refl
begins-row terms mounted h lane line (ops.Close slot) old given = no-file terms h lane line (ops.Close slot) old given slot refl refl
begins-row terms mounted h lane line (ops.Truncate slot size) old given = (
  finds-none terms h lane line (ops.Truncate slot size) old given slot refl refl,
  λ o there is. finds-other terms h lane line (ops.Truncate slot size) old given slot o refl there (ap can_write is),
)
begins-row terms mounted h lane line (ops.Put path offset bytes) old given = λ there. absurd cc
begins-row terms mounted h lane line (ops.Stat path) old given = tt
begins-row terms mounted h lane line (ops.Access path bits) old given = tt
begins-row terms mounted h lane line (ops.MakeDir path) old given = tt
begins-row terms mounted h lane line (ops.RemoveDir path) old given = tt
begins-row terms mounted h lane line (ops.Remove path) old given = tt
begins-row terms mounted h lane line (ops.Rename from to) old given = tt
begins-row terms mounted h lane line (ops.Link from to) old given = tt
begins-row terms mounted h lane line (ops.SymLink path target) old given = tt
begins-row terms mounted h lane line (ops.ReadLink path) old given = tt
begins-row terms mounted h lane line (ops.List path) old given = tt

begins-other : (mounted : Mounted) (lane : ℕ) (op : Op) → MayEnd (opens_slot op) (machine_of mounted lane op)
begins-other mounted lane (ops.OpenFile slot mode path) = tt
begins-other mounted lane (ops.Read slot offset count) = tt
begins-other mounted lane (ops.Write slot offset bytes) = tt
begins-other mounted lane (ops.Fill slot offset count byte) = tt
begins-other mounted lane (ops.Put path offset bytes) = tt
begins-other mounted lane (ops.Sync slot) = tt
begins-other mounted lane (ops.Close slot) = tt
begins-other mounted lane (ops.Truncate slot size) = tt
begins-other mounted lane (ops.Stat path) = tt
begins-other mounted lane (ops.Access path bits) = tt
begins-other mounted lane (ops.MakeDir path) = tt
begins-other mounted lane (ops.RemoveDir path) = tt
begins-other mounted lane (ops.Remove path) = tt
begins-other mounted lane (ops.Rename from to) = tt
begins-other mounted lane (ops.Link from to) = tt
begins-other mounted lane (ops.SymLink path target) = tt
begins-other mounted lane (ops.ReadLink path) = tt
begins-other mounted lane (ops.List path) = tt

-- ---- the story

pub record RowRuns (terms : Terms) (h : List Entry) (x : ℕ) (op : Op) (machine : Machine) : Type 0 where
  pub fine : steps.FineMachine (Row terms h x op) (own terms h x op) machine
  pub other : MayEnd (opens_slot op) machine

abbrev RowState : Terms → List Entry → ℕ → Op → State → Type 0
RowState terms h x op (Busy machine) = RowRuns terms h x op machine
RowState terms h x op (Over (answers.Done value)) = Unit {0}
RowState terms h x op (Over (answers.Refused fault)) = Row terms h x op fault

row-answer : (terms : Terms) (h : List Entry) (x : ℕ) (op : Op) (answer : Answer) → FineAnswer (Row terms h x op) answer → RowState terms h x op (Over answer)
row-answer terms h x op (answers.Done value) f = tt
row-answer terms h x op (answers.Refused fault) f = f

then-row : (terms : Terms) (h : List Entry) (x : ℕ) (op : Op) (next : Step) (new : Machine) → steps.MachineStep (Row terms h x op) (own terms h x op) next new → MayEnd (opens_slot op) new
    → ThenOf (λ m. RowState terms h x op (Busy m)) (λ a. RowState terms h x op (Over a)) next new
then-row terms h x op (nexts.Send call) new f o = record { fine = f.1; other = o }
then-row terms h x op nexts.Wait new f o = record { fine = f.1; other = o }
then-row terms h x op (nexts.Done answer) new f o = row-answer terms h x op answer f.0

may-starts : (b : Bool) (m : Machine) (wsize : ℕ) (turn : Turn) (old : Shelf) (next : Step) (new : Machine) (after : Shelf) → MayEnd b m → Starts wsize m turn old next new after → MayEnd b new
may-starts true m wsize turn old next new after o s = tt
may-starts false m wsize turn old next new after o s = other-starts m wsize turn old next new after o s

may-resumes : (b : Bool) (m : Machine) (wsize : ℕ) (turn : Turn) (old : Shelf) (next : Step) (new : Machine) (after : Shelf) → MayEnd b m → Resumes wsize m turn old next new after → MayEnd b new
may-resumes true m wsize turn old next new after o s = tt
may-resumes false m wsize turn old next new after o s = other-resumes m wsize turn old next new after o s

may-takes : (b : Bool) (m : Machine) (wsize : ℕ) (sent turn : Turn) (came : Result Reply Fault) (old : Shelf) (next : Step) (new : Machine) (after : Shelf) → MayEnd b m
    → Takes wsize m sent turn came old next new after → MayEnd b new
may-takes true m wsize sent turn came old next new after o s = tt
may-takes false m wsize sent turn came old next new after o s = other-takes m wsize sent turn came old next new after o s

ends-row : (b : Bool) (terms : Terms) (h : List Entry) (x : ℕ) (op : Op) (machine : Machine) (old : Shelf) → opens_slot op ≡ b → MayEnd b machine
    → steps.Ends (Row terms h x op) (own terms h x op) machine old
ends-row true terms h x op machine old is o =
    steps.any-ends (Row terms h x op) (own terms h x op) (subst (λ (b : Bool). SlotRow b terms h x op) (sym is) tt) machine old
ends-row false terms h x op machine old is o = other-ends (Row terms h x op) (own terms h x op) machine old o

state-later : (terms : Terms) (h : List Entry) (e : Entry) (x : ℕ) (op : Op) (state : State) → RowState terms h x op state → RowState terms (h ++ e ∷ []) x op state
state-later terms h e x op (Busy machine) s = record {
  fine = steps.fine-more (Row terms h x op) (own terms h x op) (Row terms (h ++ e ∷ []) x op) (own terms (h ++ e ∷ []) x op) (row-later terms h e x op) machine s.fine;
  other = s.other;
}
state-later terms h e x op (Over (answers.Done value)) s = tt
state-later terms h e x op (Over (answers.Refused fault)) s = row-later terms h e x op fault s

row-laws : (terms : Terms) (mounted : Mounted) → LawsOver (Given terms.modes) (machine_of mounted) (RowState terms)
row-laws terms mounted = record {
  starts = λ h lane line op wsize turn old next new after given s.
      let later = h ++ Began lane line op ∷ [] in
      then-row terms later (length h) op next new
      (steps.all-starts (Row terms later (length h) op) (own terms later (length h) op) (machine_of mounted lane op) wsize turn old next new after (begins-row terms mounted h lane line op old given)
      (steps.begins-fine (Row terms later (length h) op) (own terms later (length h) op) mounted lane op) s)
      (may-starts (opens_slot op) (machine_of mounted lane op) wsize turn old next new after (begins-other mounted lane op) s);
  resumes = λ h x op machine wsize turn old next new after story r.
      then-row terms h x op next new (steps.all-resumes (Row terms h x op) (own terms h x op) machine wsize turn old next new after story.fine r)
      (may-resumes (opens_slot op) machine wsize turn old next new after story.other r);
  takes = λ h x op machine wsize sent turn came old next new after others story one told t.
      then-row terms h x op next new
      (steps.all-takes (Row terms h x op) (own terms h x op) machine wsize sent turn came old next new after (ends-row (opens_slot op) terms h x op machine old refl story.other)
      (came-row terms h x op came told.fine) story.fine t) (may-takes (opens_slot op) machine wsize sent turn came old next new after story.other t);
  grows = λ h e x op state story. state-later terms h e x op state story;
  lost = λ h x op shown. tt;
}

refused-row : (terms : Terms) (mounted : Mounted) → mounted.nocto ≡ terms.modes.nocto → (setup : Setup) (h : List Entry) (v : View) → Reaches (machine_of mounted) setup h v
    → (lane x y : ℕ) (op : Op) (fault : Fault) → Ended h lane x op y (answers.Refused fault) → Row terms h x op fault
refused-row terms mounted same setup h v r lane x y op fault ended =
    let s = answered-over (machine_of mounted) (begins-unbegun mounted) setup (Given terms.modes) (is-given terms.modes mounted same setup) (RowState terms) (row-laws terms mounted) h v r lane x op y
    (answers.Refused fault) ended in
    subst (λ (g : List Entry). Row terms g x op fault) (sym s.is)
    (always-later (λ g. Row terms g x op fault) (λ g e k. row-later terms g e x op fault k) s.before s.after s.story)

-- ---- as the rows say it

began-same : (a b c d : ℕ) (o p : Op) → Began a b o ≡ Began c d p → a ≡ c
began-same a b c d o p e = cc

to-place : (terms : Terms) (h : List Entry) (lane x : ℕ) (op : Op) → NoneAt terms h lane x op → NoPlace terms h lane x op
to-place terms h lane x op (is_taken slot mode path f k is i) = taken slot i.x mode path f is i.holds
to-place terms h lane x op (is_free slot on none) = free slot on (λ open_at f i. none f i.opens.mode (in-slot terms h x lane slot open_at f i))

one-slot : (a b : ℕ) → Some a ≡ Some b → a ≡ b
one-slot a b e = cc

not-true : true ≡ false → ⊥
not-true e = cc

to-right : (terms : Terms) (h : List Entry) (lane x : ℕ) (op : Op) → OtherAt terms h lane x op → NoRight terms h lane x op
to-right terms h lane x (ops.Read slot offset count) o =
    read o.slot offset count o.held.x o.f o.held.holds (ap (λ (s : ℕ). ops.Read s offset count) (one-slot slot o.slot o.works_on)) (ap can_read o.held.mode_is ∙ o.right)
to-right terms h lane x (ops.Write slot offset bytes) o =
    change o.slot o.held.x o.f o.held.holds (write offset bytes (ap (λ (s : ℕ). ops.Write s offset bytes) (one-slot slot o.slot o.works_on))) (ap can_write o.held.mode_is ∙ o.right)
to-right terms h lane x (ops.Fill slot offset count byte) o =
    change o.slot o.held.x o.f o.held.holds (fill offset count byte (ap (λ (s : ℕ). ops.Fill s offset count byte) (one-slot slot o.slot o.works_on))) (ap can_write o.held.mode_is ∙ o.right)
to-right terms h lane x (ops.Truncate slot size) o =
    change o.slot o.held.x o.f o.held.holds (truncate size (ap (λ (s : ℕ). ops.Truncate s size) (one-slot slot o.slot o.works_on))) (ap can_write o.held.mode_is ∙ o.right)
to-right terms h lane x (ops.OpenFile slot mode path) o = absurd (not-true o.right)
to-right terms h lane x (ops.Sync slot) o = absurd (not-true o.right)
to-right terms h lane x (ops.Close slot) o = absurd (not-true o.right)
to-right terms h lane x (ops.Put path offset bytes) o = absurd (not-true o.right)
to-right terms h lane x (ops.Stat path) o = absurd (not-true o.right)
to-right terms h lane x (ops.Access path bits) o = absurd (not-true o.right)
to-right terms h lane x (ops.MakeDir path) o = absurd (not-true o.right)
to-right terms h lane x (ops.RemoveDir path) o = absurd (not-true o.right)
to-right terms h lane x (ops.Remove path) o = absurd (not-true o.right)
to-right terms h lane x (ops.Rename from to) o = absurd (not-true o.right)
to-right terms h lane x (ops.Link from to) o = absurd (not-true o.right)
to-right terms h lane x (ops.SymLink path target) o = absurd (not-true o.right)
to-right terms h lane x (ops.ReadLink path) o = absurd (not-true o.right)
to-right terms h lane x (ops.List path) o = absurd (not-true o.right)

pub shows-right : (terms : Terms) (mounted : Mounted) → mounted.nocto ≡ terms.modes.nocto → (setup : Setup) (h : List Entry) (v : View) → Reaches (machine_of mounted) setup h v
    → (lane x y : ℕ) (op : Op) → Ended h lane x op y (answers.Refused faults.Mode) → NoRight terms h lane x op
shows-right terms mounted same setup h v r lane x y op ended =
    let row = refused-row terms mounted same setup h v r lane x y op faults.Mode ended in
    let is = began-same row.lane row.line lane ended.line op op (At-one h x (Began row.lane row.line op) (Began lane ended.line op) row.began ended.began) in
    to-right terms h lane x op (subst (λ (n : ℕ). OtherAt terms h n x op) is row.other)

pub shows-place : (terms : Terms) (mounted : Mounted) → mounted.nocto ≡ terms.modes.nocto → (setup : Setup) (h : List Entry) (v : View) → Reaches (machine_of mounted) setup h v
    → (lane x y : ℕ) (op : Op) → opens_slot op ≡ false → Ended h lane x op y (answers.Refused faults.Slot) → NoPlace terms h lane x op
shows-place terms mounted same setup h v r lane x y op other ended =
    let row : HasNone terms h x op = subst (λ (b : Bool). SlotRow b terms h x op) other (refused-row terms mounted same setup h v r lane x y op faults.Slot ended) in
    let is = began-same row.lane row.line lane ended.line op op (At-one h x (Began row.lane row.line op) (Began lane ended.line op) row.began ended.began) in
    to-place terms h lane x op (subst (λ (n : ℕ). NoneAt terms h n x op) is row.none)
