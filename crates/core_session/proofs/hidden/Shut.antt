-- As a close comes past its sync no slot holds its file.
use Rattle.core_session.proofs.Prelude.{◌≡◌, ◌⊎◌, inl, inr, ℕ, Bool, true, false, List, Option, Some, None, Result, Err, refl, sym, ap, subst, ◌∙◌, if◌then◌else◌, Opens, IsOpen, Fault, Reply, Op, of_file, last_end, is_first, goes_again, Step, Shelf, Turn, CloseFile, Closing, Removal, Saving, TellsOpen, refusal_of, remove_busy, file_at, joined, by-step, Mounted, FileMachine, Machine, machine_of, Starts, Resumes, Takes, State, Busy, Over, IsRefused, IsPast}
use Rattle.std.specs.FinMap as finite
use Rattle.world_model.specs.declared.op.Op.TheVariants as ops
use Rattle.client_shelf.specs.declared.step.Step.TheVariants as nexts
use Rattle.file_ops.specs.declared.close_file.Closing.TheVariants as closing
use Rattle.file_ops.specs.Closes as closes
use Rattle.file_ops.specs.Saves as saves
use Rattle.op_machines.specs.declared.file_machine.FileMachine.TheVariants as files
use Rattle.op_machines.specs.declared.machine.Machine.TheVariants as machines
use Rattle.op_machines.specs.FileSteps as steps
use Rattle.core_session.proofs.drops.Leading.{Leading, settles, unmade, Settles}

-- the file of a close past its sync, by the place where it is hidden
past-by : (f : List ℕ) (room : Bool) (removal : Removal) → IsPast f (closes.ask_state room removal) → removal.file ≡ f
past-by f true removal p = p
past-by f false removal p = p

-- a place is told only where the file isn't open
told-shut : (file : List ℕ) (opens : Opens) (is_open : Bool) (at place : Option (List ℕ × List ℕ)) (its : List ℕ × List ℕ) → place ≡ (if is_open then None else at) → place ≡ Some its
    → TellsOpen opens file is_open → IsOpen opens file → ⊥
told-shut file opens true at place its is there told = absurd (let no_way : None ≡ Some its = sym is ∙ there in cc)
told-shut file opens false at place its is there told = told

module _ (f : List ℕ) where
  -- no slot holds the file
  abbrev pub IsShut : Opens → Type 0
  IsShut opens = IsOpen opens f → ⊥

  -- ---- past the sync for the first time

  ends-shut : (place : Option (List ℕ × List ℕ)) (lane : ℕ) (room : Bool) (file : List ℕ) (refusal : Option Fault) (old : Shelf) (next : Step) (state : Closing) (new : Shelf)
      → ((its : List ℕ × List ℕ) → place ≡ Some its → IsOpen old.opens file → ⊥) → closes.EndsAt place lane room file refusal old next state new → IsPast f state → IsShut new.opens
  ends-shut None lane room file refusal old next state new told e p = absurd (subst (IsPast f) e.state_is p)
  ends-shut (Some place) lane room file refusal old next state new told e p =
      let removal : Removal = record { file = file; dir = place.0; name = place.1; refusal = refusal } in
      let same : file ≡ f = past-by f room removal (subst (IsPast f) e.state_is p) in
      subst (λ (s : Shelf). IsShut s.opens) (sym e.shelf_is) (subst (λ (g : List ℕ). IsOpen old.opens g → ⊥) same (told place refl))

  frees-shut : (lane slot : ℕ) (room : Bool) (file : List ℕ) (refusal : Option Fault) (old : Shelf) (next : Step) (state : Closing) (new : Shelf)
      → closes.Frees lane slot room file refusal old next state new → IsPast f state → IsShut new.opens
  frees-shut lane slot room file refusal old next state new k p =
      ends-shut k.place lane room file refusal k.freed next state new
      (λ its is. told-shut file k.freed.opens k.tells.is_open (finite.get old.silly file) k.place its k.tells.place_is is k.tells.told) k.ends p

  not-waits : (begun : Bool) (saving : Saving) → IsPast f (closes.waits_as begun saving) → ⊥
  not-waits true saving p = p
  not-waits false saving p = p

  follows-shut : (gives : _) (lane slot : ℕ) (room begun : Bool) (saving : Saving) (old : Shelf) (next : Step) (state : Closing) (new : Shelf)
      → closes.Follows gives lane slot room begun saving old next state new → IsPast f state → IsShut new.opens
  follows-shut gives lane slot room begun saving old next state new k p = by-step
      (λ g. closes.Follows g lane slot room begun saving old next state new → IsShut new.opens)
      (λ call l. absurd (subst (IsPast f) l.1 p))
      (λ l. absurd (not-waits begun saving (subst (IsPast f) l.1 p)))
      (λ result l. frees-shut lane slot room saving.file (refusal_of result) old next state new l p)
      gives k

  goes-on-shut : (wsize lane slot : ℕ) (turn : Turn) (begun : Bool) (saving : Saving) (old : Shelf) (next : Step) (state : Closing) (new : Shelf)
      → closes.GoesOn wsize lane slot turn begun saving old next state new → IsPast f state → IsShut new.opens
  goes-on-shut wsize lane slot turn begun saving old next state new g p = follows-shut g.gives lane slot turn.room begun g.saved g.gone next state new g.follows p

  begins-shut : (end : Option ℕ) (wsize lane slot : ℕ) (turn : Turn) (saving : Saving) (old : Shelf) (next : Step) (state : Closing) (new : Shelf)
      → closes.Begins end wsize lane slot turn saving old next state new → IsPast f state → IsShut new.opens
  begins-shut None wsize lane slot turn saving old next state new b p = frees-shut lane slot turn.room saving.file None old next state new b p
  begins-shut (Some end) wsize lane slot turn saving old next state new b p = goes-on-shut wsize lane slot turn false saving old next state new b p

  queues-shut : (first : Bool) (wsize lane slot : ℕ) (turn : Turn) (saving : Saving) (old : Shelf) (next : Step) (state : Closing) (new : Shelf)
      → closes.QueuesIf first wsize lane slot turn saving old next state new → IsPast f state → IsShut new.opens
  queues-shut true wsize lane slot turn saving old next state new q p =
      begins-shut (last_end (of_file saving.file old.back).segments) wsize lane slot turn saving old next state new q p
  queues-shut false wsize lane slot turn saving old next state new q p = absurd (subst (IsPast f) q.state_is p)

  goes-if-shut : (first : Bool) (wsize lane slot : ℕ) (turn : Turn) (saving : Saving) (old : Shelf) (next : Step) (state : Closing) (new : Shelf)
      → closes.GoesOnIf first wsize lane slot turn saving old next state new → IsPast f state → IsShut new.opens
  goes-if-shut true wsize lane slot turn saving old next state new g p = goes-on-shut wsize lane slot turn true saving old next state new g p
  goes-if-shut false wsize lane slot turn saving old next state new g p = absurd (subst (IsPast f) g.state_is p)

  starts-at-shut : (found : Option (List ℕ)) (wsize : ℕ) (c : CloseFile) (turn : Turn) (old : Shelf) (next : Step) (state : Closing) (new : Shelf) → c.state ≡ closing.Idle
      → closes.StartsAt found wsize c turn old next state new → IsPast f state → IsShut new.opens
  starts-at-shut None wsize c turn old next state new idle s p = absurd (subst (IsPast f) (s.state_is ∙ idle) p)
  starts-at-shut (Some file) wsize c turn old next state new idle s p =
      queues-shut (is_first c.lane (joined c.lane file old).order) wsize c.lane c.slot turn (saves.begun file old.seq) (joined c.lane file old) next state new s p

  -- ---- any step: it was past its sync before, and the table stays; or no slot holds the file

  abbrev Was : Closing → Opens → Opens → Type 0
  Was at old new = (IsPast f at × (new ≡ old)) ⊎ IsShut new

  close-resumes : (at : Closing) (wsize : ℕ) (c : CloseFile) (turn : Turn) (old : Shelf) (next : Step) (state : Closing) (new : Shelf) → closes.Resumes at wsize c turn old next state new
      → IsPast f state → Was at old.opens new.opens
  close-resumes closing.Idle wsize c turn old next state new r p = absurd (subst (IsPast f) r.state_is p)
  close-resumes (closing.Queued saving) wsize c turn old next state new r p = inr (queues-shut (is_first c.lane old.order) wsize c.lane c.slot turn saving old next state new r p)
  close-resumes (closing.Saves saving) wsize c turn old next state new r p = inr (goes-if-shut (is_first c.lane old.order) wsize c.lane c.slot turn saving old next state new r p)
  close-resumes (closing.ToRemove removal) wsize c turn old next state new r p =
      inl (past-by f turn.room removal (subst (IsPast f) r.state_is p), ap (λ (s : Shelf). s.opens) r.shelf_is)
  close-resumes (closing.Removing removal) wsize c turn old next state new r p = inl (subst (IsPast f) r.state_is p, ap (λ (s : Shelf). s.opens) r.shelf_is)

  ends-if : (again : Bool) (lane : ℕ) (removal : Removal) (base : Opens) (old : Shelf) (next : Step) (state : Closing) (new : Shelf) → old.opens ≡ base
      → closes.EndsIf again lane removal old next state new → IsPast f state → Was (closing.Removing removal) base new.opens
  ends-if true lane removal base old next state new same e p = inl (subst (IsPast f) e.state_is p, ap (λ (s : Shelf). s.opens) e.shelf_is ∙ same)
  ends-if false lane removal base old next state new same e p = absurd (subst (IsPast f) e.state_is p)

  close-takes : (at : Closing) (wsize : ℕ) (c : CloseFile) (sent turn : Turn) (came : Result Reply Fault) (old : Shelf) (next : Step) (state : Closing) (new : Shelf)
      → closes.Takes at wsize c sent turn came old next state new → IsPast f state → Was at old.opens new.opens
  close-takes closing.Idle wsize c sent turn came old next state new t p = absurd (subst (IsPast f) t.state_is p)
  close-takes (closing.Queued saving) wsize c sent turn came old next state new t p = absurd (subst (IsPast f) t.state_is p)
  close-takes (closing.Saves saving) wsize c sent turn came old next state new t p = inr (follows-shut t.gives c.lane c.slot turn.room true t.saved t.took next state new t.follows p)
  close-takes (closing.ToRemove removal) wsize c sent turn came old next state new t p = inl (subst (IsPast f) t.state_is p, ap (λ (s : Shelf). s.opens) t.shelf_is)
  close-takes (closing.Removing removal) wsize c sent turn came old next state new t p =
      ends-if (goes_again (remove_busy came) sent turn old.repeats) c.lane removal old.opens t.took next state new (ap (λ (s : Shelf). s.opens) t.others) t.ends p

-- ---- operations: a close of this slot, past its sync

module _ (f : List ℕ) (slot : ℕ) where
  abbrev pub FilePast : FileMachine → Type 0
  FilePast (files.Close c) = IsPast f c.state × (c.slot ≡ slot)
  FilePast (files.Open c) = ⊥
  FilePast (files.Read c) = ⊥
  FilePast (files.Write c) = ⊥
  FilePast (files.Sync c) = ⊥
  FilePast (files.Truncate c) = ⊥
  FilePast (files.Put c) = ⊥

  abbrev pub MachinePast : Machine → Type 0
  MachinePast (machines.File m) = FilePast m
  MachinePast (machines.Path m) = ⊥
  MachinePast (machines.Name m) = ⊥

  abbrev pub StatePast : State → Type 0
  StatePast (Busy machine) = MachinePast machine
  StatePast (Over answer) = ⊥

  -- what a step makes of it
  abbrev pub PastOr : Type 0 → Opens → Opens → Type 0
  PastOr A old new = (A × (new ≡ old)) ⊎ IsShut f new

  file-resumes : (wsize : ℕ) (m : FileMachine) (turn : Turn) (old : Shelf) (next : Step) (new : FileMachine) (after : Shelf) → steps.Resumes wsize m turn old next new after → FilePast new
      → PastOr (FilePast m) old.opens after.opens
  file-resumes wsize (files.Close c) turn old next new after s p = by (subst FilePast s.machine_is p)
    where
      by : IsPast f s.state × (c.slot ≡ slot) → PastOr (FilePast (files.Close c)) old.opens after.opens
      by k = elim (close-resumes f c.state wsize c turn old next s.state after s.step k.0) [
        | inl was ↦ inl ((was.0, k.1), was.1)
        | inr shut ↦ inr shut
      ]
  file-resumes wsize (files.Open c) turn old next new after s p = absurd (subst FilePast s.machine_is p)
  file-resumes wsize (files.Read c) turn old next new after s p = absurd (subst FilePast s.machine_is p)
  file-resumes wsize (files.Write c) turn old next new after s p = absurd (subst FilePast s.machine_is p)
  file-resumes wsize (files.Sync c) turn old next new after s p = absurd (subst FilePast s.machine_is p)
  file-resumes wsize (files.Truncate c) turn old next new after s p = absurd (subst FilePast s.machine_is p)
  file-resumes wsize (files.Put c) turn old next new after s p = absurd (subst FilePast s.machine_is p)

  file-takes : (wsize : ℕ) (m : FileMachine) (sent turn : Turn) (came : Result Reply Fault) (old : Shelf) (next : Step) (new : FileMachine) (after : Shelf)
      → steps.Takes wsize m sent turn came old next new after → FilePast new → PastOr (FilePast m) old.opens after.opens
  file-takes wsize (files.Close c) sent turn came old next new after s p = by (subst FilePast s.machine_is p)
    where
      by : IsPast f s.state × (c.slot ≡ slot) → PastOr (FilePast (files.Close c)) old.opens after.opens
      by k = elim (close-takes f c.state wsize c sent turn came old next s.state after s.step k.0) [
        | inl was ↦ inl ((was.0, k.1), was.1)
        | inr shut ↦ inr shut
      ]
  file-takes wsize (files.Open c) sent turn came old next new after s p = absurd (subst FilePast s.machine_is p)
  file-takes wsize (files.Read c) sent turn came old next new after s p = absurd (subst FilePast s.machine_is p)
  file-takes wsize (files.Write c) sent turn came old next new after s p = absurd (subst FilePast s.machine_is p)
  file-takes wsize (files.Sync c) sent turn came old next new after s p = absurd (subst FilePast s.machine_is p)
  file-takes wsize (files.Truncate c) sent turn came old next new after s p = absurd (subst FilePast s.machine_is p)
  file-takes wsize (files.Put c) sent turn came old next new after s p = absurd (subst FilePast s.machine_is p)

  -- a close that begins, which isn't past anything
  file-starts : (wsize : ℕ) (m : FileMachine) (turn : Turn) (old : Shelf) (next : Step) (new : FileMachine) (after : Shelf) → ((c : CloseFile) → m ≡ files.Close c → c.state ≡ closing.Idle)
      → steps.Starts wsize m turn old next new after → FilePast new → IsShut f after.opens
  file-starts wsize (files.Close c) turn old next new after idle s p =
      starts-at-shut f (file_at c.lane c.slot old.opens) wsize c turn old next s.state after (idle c refl) s.step (subst FilePast s.machine_is p).0
  file-starts wsize (files.Open c) turn old next new after idle s p = absurd (subst FilePast s.machine_is p)
  file-starts wsize (files.Read c) turn old next new after idle s p = absurd (subst FilePast s.machine_is p)
  file-starts wsize (files.Write c) turn old next new after idle s p = absurd (subst FilePast s.machine_is p)
  file-starts wsize (files.Sync c) turn old next new after idle s p = absurd (subst FilePast s.machine_is p)
  file-starts wsize (files.Truncate c) turn old next new after idle s p = absurd (subst FilePast s.machine_is p)
  file-starts wsize (files.Put c) turn old next new after idle s p = absurd (subst FilePast s.machine_is p)

  pub resumes-past : (wsize : ℕ) (m : Machine) (turn : Turn) (old : Shelf) (next : Step) (new : Machine) (after : Shelf) → Resumes wsize m turn old next new after → MachinePast new
      → PastOr (MachinePast m) old.opens after.opens
  resumes-past wsize (machines.File m) turn old next new after s p = file-resumes wsize m turn old next s.machine after s.step (subst MachinePast s.machine_is p)
  resumes-past wsize (machines.Path m) turn old next new after s p = absurd (subst MachinePast s.machine_is p)
  resumes-past wsize (machines.Name m) turn old next new after s p = absurd (subst MachinePast s.machine_is p)

  pub takes-past : (wsize : ℕ) (m : Machine) (sent turn : Turn) (came : Result Reply Fault) (old : Shelf) (next : Step) (new : Machine) (after : Shelf)
      → Takes wsize m sent turn came old next new after → MachinePast new → PastOr (MachinePast m) old.opens after.opens
  takes-past wsize (machines.File m) sent turn came old next new after s p = file-takes wsize m sent turn came old next s.machine after s.step (subst MachinePast s.machine_is p)
  takes-past wsize (machines.Path m) sent turn came old next new after s p = absurd (subst MachinePast s.machine_is p)
  takes-past wsize (machines.Name m) sent turn came old next new after s p = absurd (subst MachinePast s.machine_is p)

  idle-close : (m : Mounted) (lane : ℕ) (op : Op) (file : FileMachine) → machine_of m lane op ≡ machines.File file → (c : CloseFile) → file ≡ files.Close c → c.state ≡ closing.Idle
  idle-close m lane (ops.Close its) file is c same = begun (is ∙ ap machines.File same)
    where
      begun : machines.File (files.Close (record { lane = lane; slot = its; state = closing.Idle })) ≡ machines.File (files.Close c) → c.state ≡ closing.Idle
      begun e = cc
  idle-close m lane (ops.Read its offset count) file is c same = absurd (let no_way = is ∙ ap machines.File same in cc)
  idle-close m lane (ops.Write its offset bytes) file is c same = absurd (let no_way = is ∙ ap machines.File same in cc)
  idle-close m lane (ops.Fill its offset count byte) file is c same = absurd (let no_way = is ∙ ap machines.File same in cc)
  idle-close m lane (ops.Sync its) file is c same = absurd (let no_way = is ∙ ap machines.File same in cc)
  idle-close m lane (ops.Truncate its size) file is c same = absurd (let no_way = is ∙ ap machines.File same in cc)
  idle-close m lane (ops.OpenFile its mode path) file is c same = absurd (let no_way = is ∙ ap machines.File same in cc)
  idle-close m lane (ops.Put path offset bytes) file is c same = absurd (let no_way = is ∙ ap machines.File same in cc)
  idle-close m lane (ops.Stat path) file is c same = absurd (let no_way = is ∙ ap machines.File same in cc)
  idle-close m lane (ops.Access path bits) file is c same = absurd (let no_way = is ∙ ap machines.File same in cc)
  idle-close m lane (ops.MakeDir path) file is c same = absurd (let no_way = is ∙ ap machines.File same in cc)
  idle-close m lane (ops.RemoveDir path) file is c same = absurd (let no_way = is ∙ ap machines.File same in cc)
  idle-close m lane (ops.Remove path) file is c same = absurd (let no_way = is ∙ ap machines.File same in cc)
  idle-close m lane (ops.Rename from to) file is c same = absurd (let no_way = is ∙ ap machines.File same in cc)
  idle-close m lane (ops.Link from to) file is c same = absurd (let no_way = is ∙ ap machines.File same in cc)
  idle-close m lane (ops.SymLink path target) file is c same = absurd (let no_way = is ∙ ap machines.File same in cc)
  idle-close m lane (ops.ReadLink path) file is c same = absurd (let no_way = is ∙ ap machines.File same in cc)
  idle-close m lane (ops.List path) file is c same = absurd (let no_way = is ∙ ap machines.File same in cc)

  starts-machine : (mounted : Mounted) (lane : ℕ) (op : Op) (m : Machine) (wsize : ℕ) (turn : Turn) (old : Shelf) (next : Step) (new : Machine) (after : Shelf)
      → machine_of mounted lane op ≡ m → Starts wsize m turn old next new after → MachinePast new → IsShut f after.opens
  starts-machine mounted lane op (machines.File m) wsize turn old next new after is s p =
      file-starts wsize m turn old next s.machine after (idle-close mounted lane op m is) s.step (subst MachinePast s.machine_is p)
  starts-machine mounted lane op (machines.Path m) wsize turn old next new after is s p = absurd (subst MachinePast s.machine_is p)
  starts-machine mounted lane op (machines.Name m) wsize turn old next new after is s p = absurd (subst MachinePast s.machine_is p)

  pub starts-past : (mounted : Mounted) (lane : ℕ) (op : Op) (wsize : ℕ) (turn : Turn) (old : Shelf) (next : Step) (new : Machine) (after : Shelf)
      → Starts wsize (machine_of mounted lane op) turn old next new after → MachinePast new → IsShut f after.opens
  starts-past mounted lane op wsize turn old next new after s p = starts-machine mounted lane op (machine_of mounted lane op) wsize turn old next new after refl s p

  -- ---- a step of a lane

  settled : (next : Step) (new : Machine) (state : State) → Settles next new state → StatePast state → MachinePast new
  settled (nexts.Send call) new state is p = subst StatePast is p
  settled nexts.Wait new state is p = subst StatePast is p
  settled (nexts.Done answer) new state is p = absurd (subst StatePast is p)

  refused : (next : Step) (new : Machine) (state : State) → IsRefused new next state → StatePast state → MachinePast new
  refused (nexts.Send call) new state is p = absurd is
  refused nexts.Wait new state is p = subst StatePast is p
  refused (nexts.Done answer) new state is p = absurd (subst StatePast is p)

  -- A holds of the operation before, where it was past its sync
  pub led-past : (A : Type 0) (wsize : ℕ) (old : Opens) (S : Step → Machine → Shelf → Type 0)
      → ((next : Step) (new : Machine) (after : Shelf) → S next new after → MachinePast new → PastOr A old after.opens) → (state : State) (after : Shelf) → Leading wsize S state after
      → StatePast state → PastOr A old after.opens
  led-past A wsize old S step state after (settles next new s is) p = step next new after s (settled next new state is p)
  led-past A wsize old S step state after (unmade call mid between sent turn fault next new s takes is) p =
      by (takes-past wsize mid sent turn (Err fault) between next new after takes (refused next new state is p))
    where
      on : after.opens ≡ between.opens → PastOr A old between.opens → PastOr A old after.opens
      on same (inl was) = inl (was.0, same ∙ was.1)
      on same (inr shut) = inr (subst (IsShut f) (sym same) shut)

      by : PastOr (MachinePast mid) between.opens after.opens → PastOr A old after.opens
      by (inr shut) = inr shut
      by (inl was) = on was.1 (step (nexts.Send call) mid between s was.0)
