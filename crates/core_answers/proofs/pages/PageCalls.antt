-- For which READ a read waits, and for which SETATTR a truncate.
use Rattle.core_answers.proofs.Prelude.{◌≡◌, ◌≤◌, ◌+◌, ◌&&◌, ℕ, Bool, true, false, List, Option, Some, None, Result, Ok, Err, refl, sym, subst, arith, if◌then◌else◌, Attr, Wcc, Pages, Fault, Call, Reply, Pending, Step, Repeat, Shelf, Turn, ReadFile, Phase, Reading, TruncateFile, Truncating, place_after, Said, part, refusal, joined, got_by, FileMachine, Machine, Starts, Resumes, Takes, of_phase, of_reading, of_truncating, in_flight, Plain, AskedOf}
use Rattle.core_facts.specs.InFlight.{of_file}
use Rattle.nfs_file_calls.specs.declared.call.FileCall.TheVariants as file_calls
use Rattle.xdr_codec.specs.declared.blob.Memory as memory
use Rattle.world_model.specs.declared.answer.Answer.TheVariants as answers
use Rattle.world_model.specs.declared.answer.Fault.TheVariants as faults
use Rattle.world_model.specs.declared.message.Call.TheVariants as calls
use Rattle.client_shelf.specs.declared.step.Step.TheVariants as nexts
use Rattle.file_ops.specs.declared.reading.Phase.TheVariants as phases
use Rattle.file_ops.specs.declared.truncate_file.Truncating.TheVariants as truncating
use Rattle.file_ops.specs.ReadFile as reads
use Rattle.file_ops.specs.Reading as reading
use Rattle.file_ops.specs.TruncateFile as truncates
use Rattle.op_machines.specs.declared.file_machine.FileMachine.TheVariants as files
use Rattle.op_machines.specs.declared.machine.Machine.TheVariants as machines
use Rattle.op_machines.specs.FileSteps as steps
use Rattle.core_facts.proofs.FileCounts.{read-resumes as read-resumes-count, truncate-resumes as truncate-resumes-count}
use Rattle.core_answers.proofs.bonds.FileCalls.{Asking, alone}
use Rattle.core_answers.proofs.engine.Told.{AskLaws}
use Rattle.core_answers.proofs.bonds.MachineCalls.{Asks, asks-laws}
use Rattle.core_answers.proofs.bonds.NameCalls.{asked-as, asked-done, asked-waits, asked-sends, asked-again, asked-for}

-- ---- what is waited for

-- after the attributes the part of the file that it asked for, from where its bytes end
abbrev pub PhaseAwaits : Phase → Reading → Call → Type 0
PhaseAwaits phases.Attrs r call = Unit {0}
PhaseAwaits phases.AskedAttrs r call = Unit {0}
PhaseAwaits phases.Pages r call = Unit {0}
PhaseAwaits phases.Rest r call = Unit {0}
PhaseAwaits (phases.Asked count) r call = call ≡ calls.File (file_calls.Read r.file (place_after r.base) count)
PhaseAwaits phases.Ended r call = Unit {0}

abbrev pub PartAwaits : Reading → Call → Type 0
PartAwaits r call = PhaseAwaits r.phase r call

abbrev pub ReadAwaits : Option Reading → Call → Type 0
ReadAwaits None call = Unit {0}
ReadAwaits (Some r) call = PartAwaits r call

abbrev pub SizeAwaits : Truncating → ℕ → Call → Type 0
SizeAwaits truncating.Idle size call = Unit {0}
SizeAwaits (truncating.Queued file upto) size call = Unit {0}
SizeAwaits (truncating.Asked file upto) size call = call ≡ truncates.size_call file size

abbrev pub FileAwaits : FileMachine → Call → Type 0
FileAwaits (files.Open m) call = Unit {0}
FileAwaits (files.Read m) call = ReadAwaits m.reading call
FileAwaits (files.Write m) call = Unit {0}
FileAwaits (files.Sync m) call = Unit {0}
FileAwaits (files.Close m) call = Unit {0}
FileAwaits (files.Truncate m) call = SizeAwaits m.state m.size call
FileAwaits (files.Put m) call = Unit {0}

abbrev pub PageAwaits : Machine → Call → Type 0
PageAwaits (machines.File m) call = FileAwaits m call
PageAwaits (machines.Path m) call = Unit {0}
PageAwaits (machines.Name m) call = Unit {0}

-- ---- reads

asked-on : (b : Bool) (s : reading.State)
    → PartAwaits (if b then record { reading = record s.reading { phase = phases.AskedAttrs }; pages = s.pages } else reading.asked_part s).reading
    (if b then reading.attrs_call s.reading.file else reading.read_call s)
asked-on true s = tt
asked-on false s = refl

stays-read : (p : Phase) (r : Reading) (back : Pending) (next : Step) (new : Reading) → reading.Stays p r back next → AskedOf PartAwaits next new
stays-read phases.Attrs r back next new s = asked-waits PartAwaits next new s
stays-read phases.AskedAttrs r back next new s = asked-waits PartAwaits next new s
stays-read phases.Pages r back next new s = asked-waits PartAwaits next new s
stays-read phases.Rest r back next new s = asked-waits PartAwaits next new s
stays-read (phases.Asked count) r back next new s = asked-waits PartAwaits next new s
stays-read phases.Ended r back next new s = asked-done PartAwaits _ next new s

goes-if : (b : Bool) (back : Pending) (s : reading.State) (next : Step) → reading.GoesIf b back s next
    → AskedOf PartAwaits next (if b then reading.asked s else record { reading = reading.answered s.reading.phase s.reading; pages = s.pages }).reading
goes-if true back s next g = asked-sends PartAwaits (reading.asked_call s) next (reading.asked s).reading g (asked-on (reading.asks_attrs s.reading.phase) s)
goes-if false back s next g = stays-read s.reading.phase s.reading back next (reading.answered s.reading.phase s.reading) g

goes-read : (room : Bool) (back : Pending) (s : reading.State) (next : Step) → reading.Goes room back s next → AskedOf PartAwaits next (reading.gone room s).reading
goes-read room back s next g = goes-if (room && reading.wants s.reading.phase) back s next g

abbrev ReadFileAwaits : ReadFile → Call → Type 0
ReadFileAwaits m call = ReadAwaits m.reading call

goes-from : (room : Bool) (m : ReadFile) (back : Pending) (s : reading.State) (next : Step) (new : ReadFile) (later : Pages) → reads.GoesFrom room m back s next new later
    → AskedOf ReadFileAwaits next new
goes-from room m back s next new later g =
    subst (λ k. AskedOf ReadFileAwaits next k) (sym g.machine)
    (asked-for PartAwaits ReadFileAwaits next (reading.gone room s).reading (record m { reading = Some (reading.gone room s).reading }) (λ call on. on) (goes-read room back s next g.step))

starts-with : (begun : Result Reading Fault) (room : Bool) (m : ReadFile) (pages : Pages) (back : Pending) (next : Step) (new : ReadFile) (later : Pages)
    → reads.StartsWith begun room m pages back next new later → AskedOf ReadFileAwaits next new
starts-with (Err fault) room m pages back next new later s = asked-done ReadFileAwaits (answers.Refused fault) next new s.step
starts-with (Ok r) room m pages back next new later s = goes-from room m back (reading.settled r pages) next new later s

read-resumes : (of : Option Reading) (room : Bool) (m : ReadFile) (pages : Pages) (back : Pending) (next : Step) (new : ReadFile) (later : Pages)
    → reads.ResumesIn of room m pages back next new later → AskedOf ReadFileAwaits next new
read-resumes None room m pages back next new later s = asked-waits ReadFileAwaits next new s.step
read-resumes (Some r) room m pages back next new later s = goes-from room m back (reading.settled r pages) next new later s

abbrev StateAwaits : reading.State → Call → Type 0
StateAwaits s call = PartAwaits s.reading call

again-read : (again : Bool) (call : Call) (fault : Fault) (r : Reading) (pages : Pages) (next : Step) (new : reading.State) → PartAwaits r call
    → next ≡ reading.again_next again call fault → new ≡ record { reading = r; pages = pages } → AskedOf StateAwaits next new
again-read again call fault r pages next new on is state = asked-again StateAwaits again call (answers.Refused fault) next new is (subst (λ s. StateAwaits s call) (sym state) on)

from-settled : (room : Bool) (back : Pending) (r : Reading) (pages : Pages) (next : Step) (new : reading.State) → reading.Goes room back (reading.settled r pages) next
    → new ≡ reading.gone room (reading.settled r pages) → AskedOf StateAwaits next new
from-settled room back r pages next new g is =
    subst (λ s. AskedOf StateAwaits next s) (sym is)
    (asked-for PartAwaits StateAwaits next (reading.gone room (reading.settled r pages)).reading (reading.gone room (reading.settled r pages)) (λ call on. on)
    (goes-read room back (reading.settled r pages) next g))

opened-read : (result : Result (Unit {0}) memory.Memory) (turn : Turn) (r : Reading) (pages : Pages) (back : Pending) (next : Step) (new : reading.State)
    → reading.AfterOpened result turn r pages back next new → AskedOf StateAwaits next new
opened-read (Ok done) turn r pages back next new a = from-settled turn.room back (record r { phase = phases.Pages }) pages next new a.0 a.1
opened-read (Err no_memory) turn r pages back next new a = asked-done StateAwaits (answers.Refused faults.Memory) next new a.0

attrs-awaits : (p : Phase) (r : Reading) → reading.waits_attrs p ≡ true → PhaseAwaits p r (reading.attrs_call r.file)
attrs-awaits phases.Attrs r is = tt
attrs-awaits phases.AskedAttrs r is = tt
attrs-awaits phases.Pages r is = tt
attrs-awaits phases.Rest r is = tt
attrs-awaits (phases.Asked count) r is = absurd cc
attrs-awaits phases.Ended r is = tt

part-awaits : (p : Phase) (r : Reading) → PhaseAwaits p r (calls.File (file_calls.Read r.file (place_after r.base) (reading.count_of p)))
part-awaits phases.Attrs r = tt
part-awaits phases.AskedAttrs r = tt
part-awaits phases.Pages r = tt
part-awaits phases.Rest r = tt
part-awaits (phases.Asked count) r = refl
part-awaits phases.Ended r = tt

attrs-read : (told : Result Attr Fault) (again : Bool) (sent turn : Turn) (r : Reading) (pages : Pages) (back : Pending) (next : Step) (new : reading.State) → reading.waits_attrs r.phase ≡ true
    → reading.TakesAttrs again told sent turn r pages back next new → AskedOf StateAwaits next new
attrs-read (Ok attr) again sent turn r pages back next new waits t = opened-read t.result turn r t.later back next new t.goes
attrs-read (Err fault) again sent turn r pages back next new waits t = again-read again (reading.attrs_call r.file) fault r pages next new (attrs-awaits r.phase r waits) t.0 t.1

part-read : (said : Said) (again : Bool) (sent turn : Turn) (r : Reading) (pages : Pages) (back : Pending) (next : Step) (new : reading.State)
    → reading.Tells again sent turn said r pages back next → new ≡ reading.told sent turn said r pages → AskedOf StateAwaits next new
part-read (part attr eof bytes) again sent turn r pages back next new t state = from-settled turn.room back (reading.added (reading.count_of r.phase) eof bytes r) _ next new t state
part-read (refusal attr fault) again sent turn r pages back next new t state = again-read again (reading.part_call r) fault r pages next new (part-awaits r.phase r) t state

heard-read : (said : Option Said) (sent turn : Turn) (repeats : List Repeat) (r : Reading) (pages : Pages) (back : Pending) (next : Step) (new : reading.State)
    → reading.TakesPart said sent turn repeats r pages back next new → AskedOf StateAwaits next new
heard-read None sent turn repeats r pages back next new t = asked-waits StateAwaits next new t.0
heard-read (Some said) sent turn repeats r pages back next new t = part-read said _ sent turn r pages back next new t.0 t.1

takes-read : (waits : Bool) (sent turn : Turn) (came : Result Reply Fault) (repeats : List Repeat) (r : Reading) (pages : Pages) (back : Pending) (next : Step) (new : reading.State)
    → reading.waits_attrs r.phase ≡ waits → reading.TakesIf waits sent turn came repeats r pages back next new → AskedOf StateAwaits next new
takes-read true sent turn came repeats r pages back next new is t = attrs-read (got_by came) _ sent turn r pages back next new is t
takes-read false sent turn came repeats r pages back next new is t = heard-read (reading.heard r.phase came) sent turn repeats r pages back next new t

read-takes : (of : Option Reading) (sent turn : Turn) (came : Result Reply Fault) (repeats : List Repeat) (m : ReadFile) (pages : Pages) (back : Pending) (next : Step)
    (new : ReadFile) (later : Pages) → reads.TakesIn of sent turn came repeats m pages back next new later → AskedOf ReadFileAwaits next new
read-takes None sent turn came repeats m pages back next new later t = asked-waits ReadFileAwaits next new t.step
read-takes (Some r) sent turn came repeats m pages back next new later t =
    subst (λ k. AskedOf ReadFileAwaits next k) (sym t.machine)
    (asked-for StateAwaits ReadFileAwaits next t.state (record m { reading = Some t.state.reading }) (λ call on. on)
    (takes-read (reading.waits_attrs r.phase) sent turn came repeats r pages back next t.state refl t.step))

-- ---- truncates

module _ (size : ℕ) where
  abbrev SizeOn : Truncating → Call → Type 0
  SizeOn state call = SizeAwaits state size call

  truncate-queued : (b : Bool) (file : List ℕ) (upto : ℕ) (next : Step) (state : Truncating) → next ≡ (if b then nexts.Send (truncates.size_call file size) else nexts.Wait)
      → state ≡ (if b then truncating.Asked file upto else truncating.Queued file upto) → AskedOf SizeOn next state
  truncate-queued true file upto next state is at = asked-as SizeOn (nexts.Send (truncates.size_call file size)) next (truncating.Asked file upto) state is at refl
  truncate-queued false file upto next state is at = asked-waits SizeOn next state is

  truncate-ended : (again : Bool) (told : Result Wcc Fault) (file : List ℕ) (upto : ℕ) (next : Step) (state : Truncating)
      → next ≡ (if again then nexts.Send (truncates.size_call file size) else truncates.told_next told) → state ≡ truncates.ended_state again (truncating.Asked file upto) → AskedOf SizeOn next state
  truncate-ended true told file upto next state is to = asked-as SizeOn (nexts.Send (truncates.size_call file size)) next (truncating.Asked file upto) state is to refl
  truncate-ended false (Ok wcc) file upto next state is to = asked-done SizeOn (answers.Done _) next state is
  truncate-ended false (Err fault) file upto next state is to = asked-done SizeOn (answers.Refused fault) next state is

truncate-starts : (found : Result (List ℕ) Fault) (m : TruncateFile) (turn : Turn) (old : Shelf) (next : Step) (state : Truncating) → next ≡ truncates.begun_next found m turn old
    → state ≡ truncates.begun_state found m turn old → AskedOf (SizeOn m.size) next state
truncate-starts (Ok file) m turn old next state is at = truncate-queued m.size (truncates.may_ask m.lane file turn (joined m.lane file old)) file old.seq next state is at
truncate-starts (Err fault) m turn old next state is at = asked-done (SizeOn m.size) (answers.Refused fault) next state is

truncate-resumes : (at : Truncating) (m : TruncateFile) (turn : Turn) (old : Shelf) (next : Step) (state : Truncating) → next ≡ truncates.resumed_next at m turn old
    → state ≡ truncates.resumed_state at m turn old → AskedOf (SizeOn m.size) next state
truncate-resumes truncating.Idle m turn old next state is to = asked-waits (SizeOn m.size) next state is
truncate-resumes (truncating.Queued file upto) m turn old next state is to = truncate-queued m.size (truncates.may_ask m.lane file turn old) file upto next state is to
truncate-resumes (truncating.Asked file upto) m turn old next state is to = asked-waits (SizeOn m.size) next state is

truncate-takes : (at : Truncating) (m : TruncateFile) (came : Result Reply Fault) (sent turn : Turn) (repeats : List Repeat) (next : Step) (state : Truncating)
    → next ≡ truncates.took_next at m came sent turn repeats → state ≡ truncates.took_state at came sent turn repeats → AskedOf (SizeOn m.size) next state
truncate-takes truncating.Idle m came sent turn repeats next state is to = asked-waits (SizeOn m.size) next state is
truncate-takes (truncating.Queued file upto) m came sent turn repeats next state is to = asked-waits (SizeOn m.size) next state is
truncate-takes (truncating.Asked file upto) m came sent turn repeats next state is to =
    truncate-ended m.size (truncates.size_again came sent turn repeats) (truncates.size_told came) file upto next state is to

-- ---- any operation on a file

-- where nothing is said of the call
any-asked : (next : Step) (new : FileMachine) → ((c : Call) → FileAwaits new c) → AskedOf FileAwaits next new
any-asked (nexts.Send call) new any = any call
any-asked nexts.Wait new any = tt
any-asked (nexts.Done answer) new any = tt

any-asking : (Old : Call → Type 0) (others : ℕ) (next : Step) (new : FileMachine) → ((c : Call) → FileAwaits new c) → Asking FileAwaits Old others next new
any-asking Old others (nexts.Send call) new any = record { asked = any call; kept = λ some c on. any c }
any-asking Old others nexts.Wait new any = record { asked = tt; kept = λ some c on. any c }
any-asking Old others (nexts.Done answer) new any = record { asked = tt; kept = tt }

any-as : (new to : FileMachine) → new ≡ to → ((c : Call) → FileAwaits to c) → (c : Call) → FileAwaits new c
any-as new to is any = subst (λ (n : FileMachine). (c : Call) → FileAwaits n c) (sym is) any

asks-file : {S : Type 0} → (E : S → Call → Type 0) (next : Step) (state : S) (to new : FileMachine) → ((call : Call) → E state call → FileAwaits to call) → new ≡ to → AskedOf E next state
    → AskedOf FileAwaits next new
asks-file E next state to new on is a = subst (λ k. AskedOf FileAwaits next k) (sym is) (asked-for E FileAwaits next state to on a)

-- one that has one call at most asks for it where none waits
single : (Old : Call → Type 0) (others after : ℕ) (next : Step) (new : FileMachine) → (next ≡ nexts.Wait → ⊥) → Plain next others after → after ≤ 1 → AskedOf FileAwaits next new
    → Asking FileAwaits Old others next new
single Old others after (nexts.Send call) new goes c most a = let more = c.0 in alone FileAwaits Old others (nexts.Send call) new (omega (arith, more, most)) a
single Old others after nexts.Wait new goes c most a = absurd (goes refl)
single Old others after (nexts.Done answer) new goes c most a = record { asked = tt; kept = tt }

phase-most : (p : Phase) → of_phase p ≤ 1
phase-most phases.Attrs = omega arith
phase-most phases.AskedAttrs = omega arith
phase-most phases.Pages = omega arith
phase-most phases.Rest = omega arith
phase-most (phases.Asked count) = omega arith
phase-most phases.Ended = omega arith

reading-most : (of : Option Reading) → of_reading of ≤ 1
reading-most None = omega arith
reading-most (Some r) = phase-most r.phase

truncate-most : (at : Truncating) → of_truncating at ≤ 1
truncate-most truncating.Idle = omega arith
truncate-most (truncating.Queued file upto) = omega arith
truncate-most (truncating.Asked file upto) = omega arith

file-starts : (m : FileMachine) (wsize : ℕ) (turn : Turn) (old : Shelf) (next : Step) (new : FileMachine) (after : Shelf) → steps.Starts wsize m turn old next new after
    → AskedOf FileAwaits next new
file-starts (files.Open m) wsize turn old next new after s = any-asked next new (any-as new _ s.machine_is (λ c. tt))
file-starts (files.Read m) wsize turn old next new after s =
    asks-file ReadFileAwaits next s.machine (files.Read s.machine) new (λ call on. on) s.machine_is
    (starts-with s.step.reading turn.room m old.pages old.back next s.machine after.pages s.step.goes)
file-starts (files.Write m) wsize turn old next new after s = any-asked next new (any-as new _ s.machine_is (λ c. tt))
file-starts (files.Sync m) wsize turn old next new after s = any-asked next new (any-as new _ s.machine_is (λ c. tt))
file-starts (files.Close m) wsize turn old next new after s = any-asked next new (any-as new _ s.machine_is (λ c. tt))
file-starts (files.Truncate m) wsize turn old next new after s =
    asks-file (SizeOn m.size) next (truncates.started_state m turn old) (files.Truncate (record m { state = truncates.started_state m turn old })) new (λ call on. on) s.machine_is
    (truncate-starts (truncates.found_file m old) m turn old next (truncates.started_state m turn old) s.next_is refl)
file-starts (files.Put m) wsize turn old next new after s = any-asked next new (any-as new _ s.machine_is (λ c. tt))

file-resumes : (m : FileMachine) (wsize : ℕ) (turn : Turn) (old : Shelf) (next : Step) (new : FileMachine) (after : Shelf) → (next ≡ nexts.Wait → ⊥)
    → steps.Resumes wsize m turn old next new after → Asking FileAwaits (FileAwaits m) (of_file m) next new
file-resumes (files.Open m) wsize turn old next new after goes s = any-asking _ _ next new (any-as new _ s.machine_is (λ c. tt))
file-resumes (files.Read m) wsize turn old next new after goes s =
    single (FileAwaits (files.Read m)) (of_reading m.reading) (of_reading s.machine.reading) next new goes
    (read-resumes-count m.reading turn.room m old.pages old.back next s.machine after.pages refl s.step) (reading-most s.machine.reading)
    (asks-file ReadFileAwaits next s.machine (files.Read s.machine) new (λ call on. on) s.machine_is (read-resumes m.reading turn.room m old.pages old.back next s.machine after.pages s.step))
file-resumes (files.Write m) wsize turn old next new after goes s = any-asking _ _ next new (any-as new _ s.machine_is (λ c. tt))
file-resumes (files.Sync m) wsize turn old next new after goes s = any-asking _ _ next new (any-as new _ s.machine_is (λ c. tt))
file-resumes (files.Close m) wsize turn old next new after goes s = any-asking _ _ next new (any-as new _ s.machine_is (λ c. tt))
file-resumes (files.Truncate m) wsize turn old next new after goes s =
    single (FileAwaits (files.Truncate m)) (of_truncating m.state) (of_truncating (truncates.resumed_state m.state m turn old)) next new goes
    (truncate-resumes-count m.state m turn old next (truncates.resumed_state m.state m turn old) s.next_is refl) (truncate-most (truncates.resumed_state m.state m turn old))
    (asks-file (SizeOn m.size) next (truncates.resumed_state m.state m turn old) (files.Truncate (record m { state = truncates.resumed_state m.state m turn old })) new (λ call on. on)
    s.machine_is (truncate-resumes m.state m turn old next (truncates.resumed_state m.state m turn old) s.next_is refl))
file-resumes (files.Put m) wsize turn old next new after goes s = any-asking _ _ next new (any-as new _ s.machine_is (λ c. tt))

file-takes : (m : FileMachine) (wsize : ℕ) (sent turn : Turn) (came : Result Reply Fault) (old : Shelf) (next : Step) (new : FileMachine) (after : Shelf) (others : ℕ)
    → of_file m ≡ others + 1 → steps.Takes wsize m sent turn came old next new after → Asking FileAwaits (FileAwaits m) others next new
file-takes (files.Open m) wsize sent turn came old next new after others one s = any-asking _ _ next new (any-as new _ s.machine_is (λ c. tt))
file-takes (files.Read m) wsize sent turn came old next new after others one s =
    let most = reading-most m.reading in
    alone FileAwaits (FileAwaits (files.Read m)) others next new (omega (arith, one, most))
    (asks-file ReadFileAwaits next s.machine (files.Read s.machine) new (λ call on. on) s.machine_is
    (read-takes m.reading sent turn came old.repeats m old.pages old.back next s.machine after.pages s.step))
file-takes (files.Write m) wsize sent turn came old next new after others one s = any-asking _ _ next new (any-as new _ s.machine_is (λ c. tt))
file-takes (files.Sync m) wsize sent turn came old next new after others one s = any-asking _ _ next new (any-as new _ s.machine_is (λ c. tt))
file-takes (files.Close m) wsize sent turn came old next new after others one s = any-asking _ _ next new (any-as new _ s.machine_is (λ c. tt))
file-takes (files.Truncate m) wsize sent turn came old next new after others one s =
    let most = truncate-most m.state in
    alone FileAwaits (FileAwaits (files.Truncate m)) others next new (omega (arith, one, most))
    (asks-file (SizeOn m.size) next (truncates.took_state m.state came sent turn old.repeats) (files.Truncate (record m { state = truncates.took_state m.state came sent turn old.repeats })) new
    (λ call on. on) s.machine_is (truncate-takes m.state m came sent turn old.repeats next (truncates.took_state m.state came sent turn old.repeats) s.next_is refl))
file-takes (files.Put m) wsize sent turn came old next new after others one s = any-asking _ _ next new (any-as new _ s.machine_is (λ c. tt))

-- ---- any operation

all-asked : (next : Step) (new : Machine) → ((c : Call) → PageAwaits new c) → AskedOf PageAwaits next new
all-asked (nexts.Send call) new any = any call
all-asked nexts.Wait new any = tt
all-asked (nexts.Done answer) new any = tt

all-asking : (Old : Call → Type 0) (others : ℕ) (next : Step) (new : Machine) → ((c : Call) → PageAwaits new c) → Asking PageAwaits Old others next new
all-asking Old others (nexts.Send call) new any = record { asked = any call; kept = λ some c on. any c }
all-asking Old others nexts.Wait new any = record { asked = tt; kept = λ some c on. any c }
all-asking Old others (nexts.Done answer) new any = record { asked = tt; kept = tt }

all-as : (new to : Machine) → new ≡ to → ((c : Call) → PageAwaits to c) → (c : Call) → PageAwaits new c
all-as new to is any = subst (λ (n : Machine). (c : Call) → PageAwaits n c) (sym is) any

asked-machine : (next : Step) (m : FileMachine) (new : Machine) → new ≡ machines.File m → AskedOf FileAwaits next m → AskedOf PageAwaits next new
asked-machine next m new is a = subst (λ k. AskedOf PageAwaits next k) (sym is) (asked-for FileAwaits PageAwaits next m (machines.File m) (λ call on. on) a)

to-machine : (Old : Call → Type 0) (others : ℕ) (next : Step) (m : FileMachine) → Asking FileAwaits Old others next m → Asking PageAwaits Old others next (machines.File m)
to-machine Old others (nexts.Send call) m a = record { asked = a.asked; kept = a.kept }
to-machine Old others nexts.Wait m a = record { asked = tt; kept = a.kept }
to-machine Old others (nexts.Done answer) m a = record { asked = tt; kept = tt }

asking-machine : (Old : Call → Type 0) (others : ℕ) (next : Step) (m : FileMachine) (new : Machine) → new ≡ machines.File m → Asking FileAwaits Old others next m
    → Asking PageAwaits Old others next new
asking-machine Old others next m new is a = subst (λ k. Asking PageAwaits Old others next k) (sym is) (to-machine Old others next m a)

await-starts : (m : Machine) (wsize : ℕ) (turn : Turn) (old : Shelf) (next : Step) (new : Machine) (after : Shelf) → Starts wsize m turn old next new after → AskedOf PageAwaits next new
await-starts (machines.File m) wsize turn old next new after s = asked-machine next s.machine new s.machine_is (file-starts m wsize turn old next s.machine after s.step)
await-starts (machines.Path m) wsize turn old next new after s = all-asked next new (all-as new (machines.Path s.machine) s.machine_is (λ c. tt))
await-starts (machines.Name m) wsize turn old next new after s = all-asked next new (all-as new (machines.Name s.machine) s.machine_is (λ c. tt))

await-resumes : (m : Machine) (wsize : ℕ) (turn : Turn) (old : Shelf) (next : Step) (new : Machine) (after : Shelf) → (next ≡ nexts.Wait → ⊥) → Resumes wsize m turn old next new after
    → Asking PageAwaits (PageAwaits m) (in_flight m) next new
await-resumes (machines.File m) wsize turn old next new after goes s =
    asking-machine (FileAwaits m) (of_file m) next s.machine new s.machine_is (file-resumes m wsize turn old next s.machine after goes s.step)
await-resumes (machines.Path m) wsize turn old next new after goes s = all-asking _ _ next new (all-as new (machines.Path s.machine) s.machine_is (λ c. tt))
await-resumes (machines.Name m) wsize turn old next new after goes s = all-asking _ _ next new (all-as new (machines.Name s.machine) s.machine_is (λ c. tt))

await-takes : (m : Machine) (wsize : ℕ) (sent turn : Turn) (came : Result Reply Fault) (old : Shelf) (next : Step) (new : Machine) (after : Shelf) (others : ℕ) → in_flight m ≡ others + 1
    → Takes wsize m sent turn came old next new after → Asking PageAwaits (PageAwaits m) others next new
await-takes (machines.File m) wsize sent turn came old next new after others one s =
    asking-machine (FileAwaits m) others next s.machine new s.machine_is (file-takes m wsize sent turn came old next s.machine after others one s.step)
await-takes (machines.Path m) wsize sent turn came old next new after others one s = all-asking _ _ next new (all-as new (machines.Path s.machine) s.machine_is (λ c. tt))
await-takes (machines.Name m) wsize sent turn came old next new after others one s = all-asking _ _ next new (all-as new (machines.Name s.machine) s.machine_is (λ c. tt))

-- ---- with its object

-- on which object the call is made, and which READ or SETATTR it is
abbrev pub Both : Machine → Call → Type 0
Both m c = Asks m c × PageAwaits m c

both-asked : (next : Step) (new : Machine) → AskedOf Asks next new → AskedOf PageAwaits next new → AskedOf Both next new
both-asked (nexts.Send call) new a b = (a, b)
both-asked nexts.Wait new a b = tt
both-asked (nexts.Done answer) new a b = tt

both-asking : (others : ℕ) (m : Machine) (next : Step) (new : Machine) → Asking Asks (Asks m) others next new → Asking PageAwaits (PageAwaits m) others next new
    → Asking Both (Both m) others next new
both-asking others m (nexts.Send call) new a b = record { asked = (a.asked, b.asked); kept = λ some c on. (a.kept some c on.0, b.kept some c on.1) }
both-asking others m nexts.Wait new a b = record { asked = tt; kept = λ some c on. (a.kept some c on.0, b.kept some c on.1) }
both-asking others m (nexts.Done answer) new a b = record { asked = tt; kept = tt }

pub both-asks : AskLaws Both
both-asks = record {
  starts = λ m wsize turn old next new after s. both-asked next new (asks-laws.starts m wsize turn old next new after s) (await-starts m wsize turn old next new after s);
  resumes = λ m wsize turn old next new after right goes s.
      both-asking (in_flight m) m next new (asks-laws.resumes m wsize turn old next new after right goes s) (await-resumes m wsize turn old next new after goes s);
  takes = λ m wsize sent turn came old next new after others one s.
      both-asking others m next new (asks-laws.takes m wsize sent turn came old next new after others one s) (await-takes m wsize sent turn came old next new after others one s);
}
