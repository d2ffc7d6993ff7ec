-- A truncate that goes well cuts what is pending of its file: each step of its machine, and of its lane.
use Rattle.core_session.proofs.Prelude.{if◌then◌else◌, ◌≡◌, ◌≤◌, inl, inr, ℕ, Bool, true, false, List, Some, Result, Ok, Err, slice_get, refl, sym, ap, subst, ◌∙◌, Wcc, Answer, Fault, Value, Reply, Op, Pending, HasNoPiece, Step, Repeat, Shelf, Turn, TruncateFile, Truncating, is_quiet, joined, FileMachine, Machine, Starts, Resumes, Takes, State, Busy, Over, IsRefused, Leads, View, turn_at, unmade_turn, at-set}
use Rattle.file_ops.specs.Quiet.{are_none}
use Rattle.world_model.specs.declared.answer.Answer.TheVariants as answers
use Rattle.world_model.specs.declared.op.Op.TheVariants as ops
use Rattle.client_shelf.specs.declared.step.Step.TheVariants as nexts
use Rattle.file_ops.specs.declared.truncate_file.Truncating.TheVariants as truncating
use Rattle.file_ops.specs.TruncateFile as truncates
use Rattle.op_machines.specs.declared.file_machine.FileMachine.TheVariants as files
use Rattle.op_machines.specs.declared.machine.Machine.TheVariants as machines
use Rattle.core_session.proofs.drops.LaneIs.{state-is, busy-over}
use Rattle.core_session.proofs.pending.Settles.{IsGood}

-- ---- what a truncate knows

-- of the bytes that it is to cut: all up to the number of the last write as it began
abbrev pub StateCuts : ℕ → Truncating → Type 0
StateCuts mark truncating.Idle = Unit {0}
StateCuts mark (truncating.Queued file upto) = mark ≤ upto
StateCuts mark (truncating.Asked file upto) = mark ≤ upto

abbrev pub FileCuts : ℕ → FileMachine → Type 0
FileCuts mark (files.Open m) = ⊥
FileCuts mark (files.Read m) = ⊥
FileCuts mark (files.Write m) = ⊥
FileCuts mark (files.Sync m) = ⊥
FileCuts mark (files.Close m) = ⊥
FileCuts mark (files.Truncate m) = StateCuts mark m.state
FileCuts mark (files.Put m) = ⊥

-- it is a truncate, with that
abbrev pub IsCutter : ℕ → Machine → Type 0
IsCutter mark (machines.File m) = FileCuts mark m
IsCutter mark (machines.Path m) = ⊥
IsCutter mark (machines.Name m) = ⊥

abbrev pub IsTruncate : Op → Type 0
IsTruncate (ops.Truncate slot size) = Unit {0}
IsTruncate op = ⊥

-- ---- its steps

module _ (mark : ℕ) where
  queued-cuts : (file : List ℕ) (upto : ℕ) (b : Bool) → mark ≤ upto → StateCuts mark (if b then truncating.Asked file upto else truncating.Queued file upto)
  queued-cuts file upto true low = low
  queued-cuts file upto false low = low

  starts-cuts : (m : TruncateFile) (turn : Turn) (old : Shelf) → mark ≤ old.seq → StateCuts mark (truncates.started_state m turn old)
  starts-cuts m turn old low = by (truncates.found_file m old)
    where
      by : (found : Result (List ℕ) Fault) → StateCuts mark (truncates.begun_state found m turn old)
      by (Ok file) = queued-cuts file old.seq (truncates.may_ask m.lane file turn (joined m.lane file old)) low
      by (Err fault) = tt

  resumes-cuts : (at : Truncating) (m : TruncateFile) (turn : Turn) (old : Shelf) → StateCuts mark at → StateCuts mark (truncates.resumed_state at m turn old)
  resumes-cuts truncating.Idle m turn old low = tt
  resumes-cuts (truncating.Queued file upto) m turn old low = queued-cuts file upto (truncates.may_ask m.lane file turn old) low
  resumes-cuts (truncating.Asked file upto) m turn old low = low

  takes-cuts : (at : Truncating) (came : Result Reply Fault) (sent turn : Turn) (repeats : List Repeat) → StateCuts mark at → StateCuts mark (truncates.took_state at came sent turn repeats)
  takes-cuts truncating.Idle came sent turn repeats low = tt
  takes-cuts (truncating.Queued file upto) came sent turn repeats low = low
  takes-cuts (truncating.Asked file upto) came sent turn repeats low = by (truncates.size_again came sent turn repeats)
    where
      by : (b : Bool) → StateCuts mark (truncates.ended_state b (truncating.Asked file upto))
      by true = low
      by false = tt

  pub cutter-resumes : (m : Machine) → IsCutter mark m → (wsize : ℕ) (turn : Turn) (old : Shelf) (next : Step) (new : Machine) (after : Shelf) → Resumes wsize m turn old next new after → IsCutter mark new
  cutter-resumes (machines.File (files.Truncate m)) c wsize turn old next new after r =
      subst (IsCutter mark) (sym r.machine_is) (subst (FileCuts mark) (sym r.step.machine_is) (resumes-cuts m.state m turn old c))
  cutter-resumes (machines.File (files.Open m)) c wsize turn old next new after r = absurd c
  cutter-resumes (machines.File (files.Read m)) c wsize turn old next new after r = absurd c
  cutter-resumes (machines.File (files.Write m)) c wsize turn old next new after r = absurd c
  cutter-resumes (machines.File (files.Sync m)) c wsize turn old next new after r = absurd c
  cutter-resumes (machines.File (files.Close m)) c wsize turn old next new after r = absurd c
  cutter-resumes (machines.File (files.Put m)) c wsize turn old next new after r = absurd c
  cutter-resumes (machines.Path m) c wsize turn old next new after r = absurd c
  cutter-resumes (machines.Name m) c wsize turn old next new after r = absurd c

  pub cutter-takes : (m : Machine) → IsCutter mark m → (wsize : ℕ) (sent turn : Turn) (came : Result Reply Fault) (old : Shelf) (next : Step) (new : Machine) (after : Shelf)
      → Takes wsize m sent turn came old next new after → IsCutter mark new
  cutter-takes (machines.File (files.Truncate m)) c wsize sent turn came old next new after r =
      subst (IsCutter mark) (sym r.machine_is) (subst (FileCuts mark) (sym r.step.machine_is) (takes-cuts m.state came sent turn old.repeats c))
  cutter-takes (machines.File (files.Open m)) c wsize sent turn came old next new after r = absurd c
  cutter-takes (machines.File (files.Read m)) c wsize sent turn came old next new after r = absurd c
  cutter-takes (machines.File (files.Write m)) c wsize sent turn came old next new after r = absurd c
  cutter-takes (machines.File (files.Sync m)) c wsize sent turn came old next new after r = absurd c
  cutter-takes (machines.File (files.Close m)) c wsize sent turn came old next new after r = absurd c
  cutter-takes (machines.File (files.Put m)) c wsize sent turn came old next new after r = absurd c
  cutter-takes (machines.Path m) c wsize sent turn came old next new after r = absurd c
  cutter-takes (machines.Name m) c wsize sent turn came old next new after r = absurd c

  pub cutter-starts : (m : TruncateFile) (wsize : ℕ) (turn : Turn) (old : Shelf) (next : Step) (new : Machine) (after : Shelf) → Starts wsize (machines.File (files.Truncate m)) turn old next new after
      → mark ≤ old.seq → IsCutter mark new
  cutter-starts m wsize turn old next new after r low = subst (IsCutter mark) (sym r.machine_is) (subst (FileCuts mark) (sym r.step.machine_is) (starts-cuts m turn old low))

-- ---- what each step at a reply keeps, the state of a lane has

module _ (Q : Machine → Type 0) (keeps : (m : Machine) → Q m → (wsize : ℕ) (sent turn : Turn) (came : Result Reply Fault) (old : Shelf) (next : Step) (new : Machine) (after : Shelf)
    → Takes wsize m sent turn came old next new after → Q new) where
  abbrev StateHas : State → Type 0
  StateHas (Busy machine) = Q machine
  StateHas (Over answer) = Unit {0}

  refused-has : (machine : Machine) (next : Step) (state : State) → IsRefused machine next state → Q machine → StateHas state
  refused-has machine (nexts.Send call) state is c = absurd is
  refused-has machine nexts.Wait state is c = subst StateHas (sym is) c
  refused-has machine (nexts.Done answer) state is c = subst StateHas (sym is) tt

  pub leads-keeps : (v new : View) (at number : ℕ) (machine : Machine) (next : Step) → slice_get v.lanes at ≡ Some (record { number = number; state = Busy machine }) → Leads v at number machine next new
      → Q machine → (state : State) → slice_get new.lanes at ≡ Some (record { number = number; state = state }) → (other : Machine) → state ≡ Busy other → Q other
  leads-keeps v new at number machine next there l c state here other busy = subst StateHas busy (by next l)
    where
      kept : slice_get new.lanes at ≡ slice_get v.lanes at → StateHas state
      kept same = subst StateHas (sym (state-is state (Busy machine) number number (sym here ∙ same ∙ there))) c

      set : (to : State) → StateHas to → slice_get new.lanes at ≡ Some (record { number = number; state = to }) → StateHas state
      set to k same = subst StateHas (sym (state-is state to number number (sym here ∙ same))) k

      by : (n : Step) → Leads v at number machine n new → StateHas state
      by (nexts.Send call) (inl made) = kept (ap (λ (z : View). slice_get z.lanes at) made.is)
      by (nexts.Send call) (inr r) =
          set r.state (refused-has r.after r.next r.state r.leads (keeps machine c v.wsize (turn_at v) (unmade_turn v) (Err r.fault) v.shelf r.next r.after r.left r.takes))
          (ap (λ (z : View). slice_get z.lanes at) r.is ∙ at-set v.lanes at (record { number = number; state = Busy machine }) (record { number = number; state = r.state }) there)
      by nexts.Wait same = kept (ap (λ (z : View). slice_get z.lanes at) same)
      by (nexts.Done answer) same =
          set (Over answer) tt
          (ap (λ (z : View). slice_get z.lanes at) same ∙ at-set v.lanes at (record { number = number; state = Busy machine }) (record { number = number; state = Over answer }) there)

-- ---- where it goes well

done-good : (answer : Answer) (value : Value) → Over answer ≡ Over (answers.Done value) → IsGood (nexts.Done answer)
done-good answer value e = subst (λ (a : Answer). IsGood (nexts.Done a)) (sym (over-is answer (answers.Done value) e)) tt
  where
    over-is : (a b : Answer) → Over a ≡ Over b → a ≡ b
    over-is a b e = cc

-- a lane's operation goes well by its step, or by one more at a call that isn't made
pub leads-done : (v new : View) (at number : ℕ) (machine : Machine) (next : Step) → slice_get v.lanes at ≡ Some (record { number = number; state = Busy machine }) → Leads v at number machine next new → (state : State)
    → slice_get new.lanes at ≡ Some (record { number = number; state = state }) → (value : Value) → state ≡ Over (answers.Done value) → (P : Pending → Type 0) → (IsGood next → P v.shelf.back)
    → ((fault : Fault) (n : Step) (after : Machine) (left : Shelf) → Takes v.wsize machine (turn_at v) (unmade_turn v) (Err fault) v.shelf n after left → IsGood n → P left.back) → P new.shelf.back
leads-done v new at number machine next there l state here value is P first second = by next l first
  where
    busy : slice_get new.lanes at ≡ slice_get v.lanes at → ⊥
    busy same = busy-over machine (answers.Done value) (sym (state-is state (Busy machine) number number (sym here ∙ same ∙ there)) ∙ is)

    refused : (after : Machine) (n : Step) (to : State) → IsRefused after n to → to ≡ Over (answers.Done value) → IsGood n
    refused after (nexts.Send call) to r e = absurd r
    refused after nexts.Wait to r e = absurd (busy-over after (answers.Done value) (sym r ∙ e))
    refused after (nexts.Done answer) to r e = done-good answer value (sym r ∙ e)

    by : (n : Step) → Leads v at number machine n new → (IsGood n → P v.shelf.back) → P new.shelf.back
    by (nexts.Send call) (inl made) first = absurd (busy (ap (λ (z : View). slice_get z.lanes at) made.is))
    by (nexts.Send call) (inr r) first =
        let lanes : slice_get new.lanes at ≡ Some (record { number = number; state = r.state }) =
        ap (λ (z : View). slice_get z.lanes at) r.is ∙ at-set v.lanes at (record { number = number; state = Busy machine }) (record { number = number; state = r.state }) there in
        let same : state ≡ r.state = state-is state r.state number number (sym here ∙ lanes) in
        subst (λ (z : View). P z.shelf.back) (sym r.is) (second r.fault r.next r.after r.left r.takes (refused r.after r.next r.state r.leads (sym same ∙ is)))
    by nexts.Wait same first = absurd (busy (ap (λ (z : View). slice_get z.lanes at) same))
    by (nexts.Done answer) same first =
        let lanes : slice_get new.lanes at ≡ Some (record { number = number; state = Over answer }) =
        ap (λ (z : View). slice_get z.lanes at) same ∙ at-set v.lanes at (record { number = number; state = Busy machine }) (record { number = number; state = Over answer }) there in
        let here_is : state ≡ Over answer = state-is state (Over answer) number number (sym here ∙ lanes) in
        subst (λ (z : View). P z.shelf.back) (sym same) (first (done-good answer value (sym here_is ∙ is)))

queued-not : (m : TruncateFile) (file : List ℕ) (turn : Turn) (old : Shelf) → IsGood (truncates.queued_next m file turn old) → ⊥
queued-not m file turn old good = by (truncates.may_ask m.lane file turn old) good
  where
    by : (b : Bool) → IsGood (if b then nexts.Send (truncates.size_call file m.size) else nexts.Wait) → ⊥
    by true good = good
    by false good = good

starts-not : (m : TruncateFile) (turn : Turn) (old : Shelf) → IsGood (truncates.started_next m turn old) → ⊥
starts-not m turn old good = by (truncates.found_file m old) good
  where
    by : (found : Result (List ℕ) Fault) → IsGood (truncates.begun_next found m turn old) → ⊥
    by (Ok file) good = queued-not m file turn (joined m.lane file old) good
    by (Err fault) good = good

resumes-not : (at : Truncating) (m : TruncateFile) (turn : Turn) (old : Shelf) → IsGood (truncates.resumed_next at m turn old) → ⊥
resumes-not truncating.Idle m turn old good = good
resumes-not (truncating.Queued file upto) m turn old good = queued-not m file turn old good
resumes-not (truncating.Asked file upto) m turn old good = good

told-good : (t : Result Wcc Fault) → IsGood (truncates.told_next t) → (wcc : Wcc) × (t ≡ Ok wcc)
told-good (Ok wcc) good = (wcc, refl)
told-good (Err fault) good = absurd good

-- It was answered, and cut the file.
pub record CutNow (m : TruncateFile) (old new : Pending) : Type 0 where
  pub file : List ℕ
  pub upto : ℕ
  pub state : m.state ≡ truncating.Asked file upto
  pub cuts : truncates.CutsQuiet (is_quiet file old) file m.size upto old new

takes-now : (m : TruncateFile) (at : Truncating) (sent turn : Turn) (came : Result Reply Fault) (repeats : List Repeat) (old new : Pending) → m.state ≡ at → IsGood (truncates.took_next at m came sent turn repeats)
    → truncates.TookBack at m came old new → CutNow m old new
takes-now m truncating.Idle sent turn came repeats old new is good back = absurd good
takes-now m (truncating.Queued file upto) sent turn came repeats old new is good back = absurd good
takes-now m (truncating.Asked file upto) sent turn came repeats old new is good back = by (truncates.size_again came sent turn repeats) good
  where
    by : (b : Bool) → IsGood (truncates.ended_next b m file came) → CutNow m old new
    by true good = absurd good
    by false good =
        let t = told-good (truncates.size_told came) good in
        record { file = file; upto = upto; state = is; cuts = subst (λ (r : Result Wcc Fault). truncates.CutsBack r file m.size upto old new) t.1 back }

takes-err : (at : Truncating) (m : TruncateFile) (sent turn : Turn) (fault : Fault) (repeats : List Repeat) → IsGood (truncates.took_next at m (Err fault) sent turn repeats) → ⊥
takes-err truncating.Idle m sent turn fault repeats good = good
takes-err (truncating.Queued file upto) m sent turn fault repeats good = good
takes-err (truncating.Asked file upto) m sent turn fault repeats good = by (truncates.size_again (Err fault) sent turn repeats) good
  where
    by : (b : Bool) → IsGood (truncates.ended_next b m file (Err fault)) → ⊥
    by true good = good
    by false good = good

-- ---- by machine

pub cutter-starts-not : (m : TruncateFile) (wsize : ℕ) (turn : Turn) (old : Shelf) (next : Step) (new : Machine) (after : Shelf) → Starts wsize (machines.File (files.Truncate m)) turn old next new after → IsGood next → ⊥
cutter-starts-not m wsize turn old next new after r good = starts-not m turn old (subst IsGood r.step.next_is good)

pub cutter-resumes-not : (mark : ℕ) (m : Machine) → IsCutter mark m → (wsize : ℕ) (turn : Turn) (old : Shelf) (next : Step) (new : Machine) (after : Shelf) → Resumes wsize m turn old next new after → IsGood next → ⊥
cutter-resumes-not mark (machines.File (files.Truncate m)) c wsize turn old next new after r good = resumes-not m.state m turn old (subst IsGood r.step.next_is good)
cutter-resumes-not mark (machines.File (files.Open m)) c wsize turn old next new after r good = absurd c
cutter-resumes-not mark (machines.File (files.Read m)) c wsize turn old next new after r good = absurd c
cutter-resumes-not mark (machines.File (files.Write m)) c wsize turn old next new after r good = absurd c
cutter-resumes-not mark (machines.File (files.Sync m)) c wsize turn old next new after r good = absurd c
cutter-resumes-not mark (machines.File (files.Close m)) c wsize turn old next new after r good = absurd c
cutter-resumes-not mark (machines.File (files.Put m)) c wsize turn old next new after r good = absurd c
cutter-resumes-not mark (machines.Path m) c wsize turn old next new after r good = absurd c
cutter-resumes-not mark (machines.Name m) c wsize turn old next new after r good = absurd c

pub cutter-takes-err : (mark : ℕ) (m : Machine) → IsCutter mark m → (wsize : ℕ) (sent turn : Turn) (fault : Fault) (old : Shelf) (next : Step) (new : Machine) (after : Shelf)
    → Takes wsize m sent turn (Err fault) old next new after → IsGood next → ⊥
cutter-takes-err mark (machines.File (files.Truncate m)) c wsize sent turn fault old next new after r good = takes-err m.state m sent turn fault old.repeats (subst IsGood r.step.next_is good)
cutter-takes-err mark (machines.File (files.Open m)) c wsize sent turn fault old next new after r good = absurd c
cutter-takes-err mark (machines.File (files.Read m)) c wsize sent turn fault old next new after r good = absurd c
cutter-takes-err mark (machines.File (files.Write m)) c wsize sent turn fault old next new after r good = absurd c
cutter-takes-err mark (machines.File (files.Sync m)) c wsize sent turn fault old next new after r good = absurd c
cutter-takes-err mark (machines.File (files.Close m)) c wsize sent turn fault old next new after r good = absurd c
cutter-takes-err mark (machines.File (files.Put m)) c wsize sent turn fault old next new after r good = absurd c
cutter-takes-err mark (machines.Path m) c wsize sent turn fault old next new after r good = absurd c
cutter-takes-err mark (machines.Name m) c wsize sent turn fault old next new after r good = absurd c

-- what a reply that ends it well has cut
pub record CutBy (machine : Machine) (old new : Pending) : Type 0 where
  pub m : TruncateFile
  pub is : machine ≡ machines.File (files.Truncate m)
  pub now : CutNow m old new

pub cutter-takes-now : (mark : ℕ) (m : Machine) → IsCutter mark m → (wsize : ℕ) (sent turn : Turn) (came : Result Reply Fault) (old : Shelf) (next : Step) (new : Machine) (after : Shelf)
    → Takes wsize m sent turn came old next new after → IsGood next → CutBy m old.back after.back
cutter-takes-now mark (machines.File (files.Truncate m)) c wsize sent turn came old next new after r good =
    record { m = m; is = refl; now = takes-now m m.state sent turn came old.repeats old.back after.back refl (subst IsGood r.step.next_is good) r.step.back }
cutter-takes-now mark (machines.File (files.Open m)) c wsize sent turn came old next new after r good = absurd c
cutter-takes-now mark (machines.File (files.Read m)) c wsize sent turn came old next new after r good = absurd c
cutter-takes-now mark (machines.File (files.Write m)) c wsize sent turn came old next new after r good = absurd c
cutter-takes-now mark (machines.File (files.Sync m)) c wsize sent turn came old next new after r good = absurd c
cutter-takes-now mark (machines.File (files.Close m)) c wsize sent turn came old next new after r good = absurd c
cutter-takes-now mark (machines.File (files.Put m)) c wsize sent turn came old next new after r good = absurd c
cutter-takes-now mark (machines.Path m) c wsize sent turn came old next new after r good = absurd c
cutter-takes-now mark (machines.Name m) c wsize sent turn came old next new after r good = absurd c

-- nothing is in flight
pub none-quiet : (file : List ℕ) (b : Pending) → HasNoPiece file b → is_quiet file b ≡ true
none-quiet file b none = ap are_none none
