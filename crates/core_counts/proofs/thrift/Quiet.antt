-- Opens, reads and operations on names stay such, with the moment at which they began.
use Rattle.core_counts.proofs.Prelude.{◌≡◌, ◌≤◌, ◌-◌, ℕ, Bool, true, false, List, Option, Some, None, Result, Ok, Err, inl, inr, refl, sym, ap, subst, ◌∙◌, if◌then◌else◌, Mode, Opened, Pages, Pending, Answer, Fault, Call, Reply, Op, Step, Shelf, Turn, ReadFile, Phase, Reading, Mounted, Machine, NameMachine, machine_of, Starts, Resumes, Takes, ThenOf}
use Rattle.std.specs.FinMap as finite
use Rattle.nfs_types.specs.declared.mode.Mode.TheVariants as modes
use Rattle.world_model.specs.declared.answer.Fault.TheVariants as faults
use Rattle.world_model.specs.declared.op.Op.TheVariants as ops
use Rattle.client_shelf.specs.declared.step.Step.TheVariants as nexts
use Rattle.file_ops.specs.declared.reading.Phase.TheVariants as phases
use Rattle.file_ops.specs.ReadFile as reads
use Rattle.file_ops.specs.Reading as reading
use Rattle.op_machines.specs.declared.file_machine.FileMachine.TheVariants as files
use Rattle.op_machines.specs.declared.machine.Machine.TheVariants as machines
use Rattle.core_answers.proofs.bonds.MachineCalls.{Asks}
use Rattle.core_session.proofs.current.OpenMarks.{opening-starts, opening-resumes, opening-takes, Took, took_on, took_well, took_known}
use Rattle.core_session.proofs.current.OpenMarks as marks
use Rattle.core_session.proofs.current.ReadMarks.{ThenRead, IsSame, reading-resumes, reading-takes}
use Rattle.core_counts.proofs.thrift.OpKinds.{OnlyReads}
use Rattle.core_counts.proofs.thrift.TakePages.{IsQuiet, quiet_open, quiet_read, quiet_name}

-- ---- its moment stays

answered-moment : (p : Phase) (r : Reading) → (reading.answered p r).moment ≡ r.moment
answered-moment phases.Attrs r = refl
answered-moment phases.AskedAttrs r = refl
answered-moment phases.Pages r = refl
answered-moment phases.Rest r = refl
answered-moment (phases.Asked n) r = refl
answered-moment phases.Ended r = refl

settled-moment : (p : Phase) (r : Reading) (c : Pages) → (reading.settled_in p r c).reading.moment ≡ r.moment
settled-moment phases.Attrs r c = refl
settled-moment phases.AskedAttrs r c = refl
settled-moment phases.Pages r c = refl
settled-moment phases.Rest r c = refl
settled-moment (phases.Asked n) r c = refl
settled-moment phases.Ended r c = refl

gone-moment : (room : Bool) (s : reading.State) → (reading.gone room s).reading.moment ≡ s.reading.moment
gone-moment room s = by (reading.asks room s)
  where
    of : (attrs : Bool) → (if attrs then record { reading = record s.reading { phase = phases.AskedAttrs }; pages = s.pages } else reading.asked_part s).reading.moment ≡ s.reading.moment
    of true = refl
    of false = refl

    by : (asks : Bool) → (if asks then reading.asked s else record { reading = reading.answered s.reading.phase s.reading; pages = s.pages }).reading.moment ≡ s.reading.moment
    by true = of (reading.asks_attrs s.reading.phase)
    by false = answered-moment s.reading.phase s.reading

went-moment : (room : Bool) (r : Reading) (c : Pages) → (reading.gone room (reading.settled r c)).reading.moment ≡ r.moment
went-moment room r c = gone-moment room (reading.settled r c) ∙ settled-moment r.phase r c

-- ---- each step

abbrev pub Untold : Answer → Type 0
Untold answer = Unit {0}

abbrev pub ThenQuiet : ℕ → Step → Machine → Type 0
ThenQuiet b next new = ThenOf (IsQuiet b) Untold next new

module _ (b : ℕ) where
  any-then : (next : Step) (new : Machine) → IsQuiet b new → ThenQuiet b next new
  any-then (nexts.Send call) new k = k
  any-then nexts.Wait new k = k
  any-then (nexts.Done answer) new k = tt

  open-then : (nocto : Bool) (k : ℕ) (next : Step) (new : Machine) → k ≤ b → marks.GoesOn nocto k next new → ThenQuiet b next new
  open-then nocto k (nexts.Send call) new low g = quiet_open nocto k low g
  open-then nocto k nexts.Wait new low g = quiet_open nocto k low g
  open-then nocto k (nexts.Done answer) new low g = tt

  abbrev Low : Reading → Type 0
  Low r = r.moment ≤ b

  read-then : (next : Step) (new : Machine) → ThenRead Low next new → ThenQuiet b next new
  read-then (nexts.Send call) new k = quiet_read k
  read-then nexts.Wait new k = quiet_read k
  read-then (nexts.Done answer) new k = tt

  done-then : (next to : Step) (new : Machine) → next ≡ to → ThenQuiet b to new → ThenQuiet b next new
  done-then next to new is k = subst (λ (n : Step). ThenQuiet b n new) (sym is) k

  low-same : (r n : Reading) → IsSame r n → Low r → Low n
  low-same r n same low = subst (λ (k : ℕ). k ≤ b) (sym same.moment) low

  pub resumes-quiet : (machine : Machine) (wsize : ℕ) (turn : Turn) (old : Shelf) (next : Step) (new : Machine) (after : Shelf) → IsQuiet b machine → Resumes wsize machine turn old next new after
      → ThenQuiet b next new
  resumes-quiet machine wsize turn old next new after (quiet_open nocto k low o) r =
      open-then nocto k next new low (opening-resumes nocto k machine wsize turn old next new after o r)
  resumes-quiet machine wsize turn old next new after (quiet_read k) r = read-then next new (reading-resumes Low Low low-same machine wsize turn old next new after k r)
  resumes-quiet machine wsize turn old next new after (quiet_name m same) r =
      let s : Resumes wsize (machines.Name m) turn old next new after = subst (λ (z : Machine). Resumes wsize z turn old next new after) same r in
      any-then next new (quiet_name s.machine s.machine_is)

  module _ (call : Call) (came : Result Reply Fault) (sent turn : Turn) where
    took-quiet : (nocto : Bool) (k : ℕ) (attrs : _) (old : Pages) (next : Step) (new : Machine) (later : Pages) → k ≤ b → Took nocto k call came sent turn attrs old next new later → ThenQuiet b next new
    took-quiet nocto k attrs old next new later low (took_on g) = open-then nocto k next new low g
    took-quiet nocto k attrs old next new later low (took_well file attr well said on kind is) = done-then next _ new well tt
    took-quiet nocto k attrs old next new later low (took_known file stamp attr well may gives looked_is kind stamp_is is) = done-then next _ new well tt

    pub takes-quiet : (machine : Machine) (wsize : ℕ) (old : Shelf) (next : Step) (new : Machine) (after : Shelf) → IsQuiet b machine → ((reply : Reply) → came ≡ Ok reply → Asks machine call)
        → Takes wsize machine sent turn came old next new after → ThenQuiet b next new
    takes-quiet machine wsize old next new after (quiet_open nocto k low o) on t =
        took-quiet nocto k after.attrs old.pages next new after.pages low (opening-takes nocto k call came sent turn machine wsize old next new after o on t)
    takes-quiet machine wsize old next new after (quiet_read k) on t =
        read-then next new (reading-takes Low Low low-same came sent turn machine wsize old next new after
        (λ r n attr is moment file leaves low. subst (λ (z : ℕ). z ≤ b) (sym moment) low) k t)
    takes-quiet machine wsize old next new after (quiet_name m same) on t =
        let s : Takes wsize (machines.Name m) sent turn came old next new after = subst (λ (z : Machine). Takes wsize z sent turn came old next new after) same t in
        any-then next new (quiet_name s.machine s.machine_is)

  -- ---- the first step

  some-ok : (r n : Reading) → ◌≡◌ {A = Result Reading Fault} (Ok r) (Ok n) → r ≡ n
  some-ok r n e = cc

  no-refusal : (r : Reading) (fault : Fault) → ◌≡◌ {A = Result Reading Fault} (Ok r) (Err fault) → ⊥
  no-refusal r fault e = cc

  begun-or : (moment : ℕ) (m : ReadFile) (file : List ℕ) (back : Pending) (r : Reading) → reads.Begins (Ok (reads.begun moment m file back)) (Ok r) → r.moment ≡ moment
  begun-or moment m file back r (inl is) = ap (λ (z : Reading). z.moment) (some-ok r (reads.begun moment m file back) is)
  begun-or moment m file back r (inr none) = absurd (no-refusal r faults.Memory none)

  begun-in : (mode : Mode) (moment : ℕ) (m : ReadFile) (file : List ℕ) (back : Pending) (r : Reading) → reads.Begins (reads.begun_in mode moment m file back) (Ok r) → r.moment ≡ moment
  begun-in modes.W moment m file back r s = absurd (no-refusal r faults.Mode s)
  begun-in modes.R moment m file back r s = begun-or moment m file back r s
  begun-in modes.RW moment m file back r s = begun-or moment m file back r s
  begun-in modes.C moment m file back r s = begun-or moment m file back r s
  begun-in modes.X moment m file back r s = begun-or moment m file back r s

  begun-at : (o : Option Opened) (moment : ℕ) (m : ReadFile) (back : Pending) (r : Reading) → reads.Begins (reads.begun_at o moment m back) (Ok r) → r.moment ≡ moment
  begun-at None moment m back r s = absurd (no-refusal r faults.Slot s)
  begun-at (Some o) moment m back r s = begun-in o.mode moment m o.file back r s

  read-begins : (begun_ : Result Reading Fault) (o : Option Opened) (turn : Turn) (m k : ReadFile) (c later : Pages) (back : Pending) (next : Step) (new : Machine) → turn.moment - 1 ≤ b
      → new ≡ machines.File (files.Read k) → reads.Begins (reads.begun_at o (turn.moment - 1) m back) begun_ → reads.StartsWith begun_ turn.room m c back next k later → ThenQuiet b next new
  read-begins (Err fault) o turn m k c later back next new low is s w = done-then next _ new w.step tt
  read-begins (Ok r) o turn m k c later back next new low is s w =
      let to = reading.gone turn.room (reading.settled r c) in
      let first = begun-at o (turn.moment - 1) m back r s in
      any-then next new (quiet_read (record {
        m = k;
        is = is;
        r = to.reading;
        reading = ap (λ (z : ReadFile). z.reading) w.machine;
        told = subst (λ (n : ℕ). n ≤ b) (sym (went-moment turn.room r c ∙ first)) low;
      }))

  read-starts : (m : Mounted) (lane slot offset count wsize : ℕ) (turn : Turn) (old : Shelf) (next : Step) (new : Machine) (after : Shelf) → turn.moment - 1 ≤ b
      → Starts wsize (machine_of m lane (ops.Read slot offset count)) turn old next new after → ThenQuiet b next new
  read-starts m lane slot offset count wsize turn old next new after low s =
      read-begins s.step.step.reading (finite.get old.opens (lane, slot)) turn _ s.step.machine old.pages after.pages old.back next new low (s.machine_is ∙ ap machines.File s.step.machine_is)
      s.step.step.begins s.step.step.goes

  name-starts : (m : NameMachine) (wsize : ℕ) (turn : Turn) (old : Shelf) (next : Step) (new : Machine) (after : Shelf) → Starts wsize (machines.Name m) turn old next new after → ThenQuiet b next new
  name-starts m wsize turn old next new after s = any-then next new (quiet_name s.machine s.machine_is)

  pub starts-quiet : (m : Mounted) (lane : ℕ) (op : Op) (wsize : ℕ) (turn : Turn) (old : Shelf) (next : Step) (new : Machine) (after : Shelf) → turn.moment - 1 ≤ b → OnlyReads op
      → Starts wsize (machine_of m lane op) turn old next new after → ThenQuiet b next new
  starts-quiet m lane (ops.OpenFile slot mode path) wsize turn old next new after low only s =
      open-then m.nocto (turn.moment - 1) next new low (opening-starts m.nocto (turn.moment - 1) _ _ wsize turn old next new after refl refl refl s)
  starts-quiet m lane (ops.Read slot offset count) wsize turn old next new after low only s = read-starts m lane slot offset count wsize turn old next new after low s
  starts-quiet m lane (ops.Write slot offset bytes) wsize turn old next new after low only s = absurd only
  starts-quiet m lane (ops.Fill slot offset count byte) wsize turn old next new after low only s = absurd only
  starts-quiet m lane (ops.Put path offset bytes) wsize turn old next new after low only s = absurd only
  starts-quiet m lane (ops.Sync slot) wsize turn old next new after low only s = absurd only
  starts-quiet m lane (ops.Close slot) wsize turn old next new after low only s = absurd only
  starts-quiet m lane (ops.Truncate slot size) wsize turn old next new after low only s = absurd only
  starts-quiet m lane (ops.Stat path) wsize turn old next new after low only s = name-starts _ wsize turn old next new after s
  starts-quiet m lane (ops.Access path bits) wsize turn old next new after low only s = name-starts _ wsize turn old next new after s
  starts-quiet m lane (ops.MakeDir path) wsize turn old next new after low only s = name-starts _ wsize turn old next new after s
  starts-quiet m lane (ops.RemoveDir path) wsize turn old next new after low only s = name-starts _ wsize turn old next new after s
  starts-quiet m lane (ops.Remove path) wsize turn old next new after low only s = name-starts _ wsize turn old next new after s
  starts-quiet m lane (ops.Rename from to) wsize turn old next new after low only s = name-starts _ wsize turn old next new after s
  starts-quiet m lane (ops.Link from to) wsize turn old next new after low only s = name-starts _ wsize turn old next new after s
  starts-quiet m lane (ops.SymLink path target) wsize turn old next new after low only s = name-starts _ wsize turn old next new after s
  starts-quiet m lane (ops.ReadLink path) wsize turn old next new after low only s = name-starts _ wsize turn old next new after s
  starts-quiet m lane (ops.List path) wsize turn old next new after low only s = name-starts _ wsize turn old next new after s
