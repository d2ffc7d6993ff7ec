-- The call for which a truncate waits is the SETATTR of the size of its file.
use Rattle.core_answers.proofs.Prelude.{◌≡◌, ◌≤◌, ◌+◌, ℕ, Bool, true, false, List, Result, Ok, Err, inl, inr, refl, sym, ap, subst, ◌∙◌, arith, if◌then◌else◌, Fault, Call, Reply, Wcc, Step, Shelf, Turn, TruncateFile, Truncating, joined, FileMachine, Machine, Starts, Resumes, Takes, of_truncating, in_flight, ExpectLaws, AskedOf, KeptOf}
use Rattle.core_facts.specs.InFlight.{of_file}
use Rattle.client_shelf.specs.declared.step.Step.TheVariants as nexts
use Rattle.file_ops.specs.declared.truncate_file.Truncating.TheVariants as truncating
use Rattle.file_ops.specs.TruncateFile as truncates
use Rattle.op_machines.specs.declared.file_machine.FileMachine.TheVariants as files
use Rattle.op_machines.specs.declared.machine.Machine.TheVariants as machines
use Rattle.op_machines.specs.FileSteps as steps
use Rattle.core_facts.proofs.NamesAwaited.{none-left, rests-kept}

abbrev pub CutAwaits : Truncating → ℕ → Call → Type 0
CutAwaits truncating.Idle size call = Unit {0}
CutAwaits (truncating.Queued file upto) size call = Unit {0}
CutAwaits (truncating.Asked file upto) size call = call ≡ truncates.size_call file size

abbrev pub FileCuts : FileMachine → Call → Type 0
FileCuts (files.Open m) call = Unit {0}
FileCuts (files.Read m) call = Unit {0}
FileCuts (files.Write m) call = Unit {0}
FileCuts (files.Sync m) call = Unit {0}
FileCuts (files.Close m) call = Unit {0}
FileCuts (files.Truncate m) call = CutAwaits m.state m.size call
FileCuts (files.Put m) call = Unit {0}

-- of other operations nothing is said
abbrev pub Cuts : Machine → Call → Type 0
Cuts (machines.File m) call = FileCuts m call
Cuts (machines.Path m) call = Unit {0}
Cuts (machines.Name m) call = Unit {0}

-- ---- a truncate

abbrev CutMachine : TruncateFile → Call → Type 0
CutMachine m call = CutAwaits m.state m.size call

asked-as : (to next : Step) (new : TruncateFile) → next ≡ to → AskedOf CutMachine to new → AskedOf CutMachine next new
asked-as to next new is a = subst (λ (n : Step). AskedOf CutMachine n new) (sym is) a

queued-asks : (m : TruncateFile) (file : List ℕ) (upto : ℕ) (turn : Turn) (shelf : Shelf)
    → AskedOf CutMachine (truncates.queued_next m file turn shelf) (record m { state = truncates.queued_state m file upto turn shelf })
queued-asks m file upto turn shelf = by (truncates.may_ask m.lane file turn shelf)
  where
    by : (b : Bool) → AskedOf CutMachine (if b then nexts.Send (truncates.size_call file m.size) else nexts.Wait)
        (record m { state = if b then truncating.Asked file upto else truncating.Queued file upto })
    by true = refl
    by false = tt

begun-asks : (found : Result (List ℕ) Fault) (m : TruncateFile) (turn : Turn) (old : Shelf)
    → AskedOf CutMachine (truncates.begun_next found m turn old) (record m { state = truncates.begun_state found m turn old })
begun-asks (Ok file) m turn old = queued-asks m file old.seq turn (joined m.lane file old)
begun-asks (Err fault) m turn old = tt

resumed-asks : (at : Truncating) (m : TruncateFile) (turn : Turn) (old : Shelf)
    → AskedOf CutMachine (truncates.resumed_next at m turn old) (record m { state = truncates.resumed_state at m turn old })
resumed-asks truncating.Idle m turn old = tt
resumed-asks (truncating.Queued file upto) m turn old = queued-asks m file upto turn old
resumed-asks (truncating.Asked file upto) m turn old = tt

told-asks : (told : Result Wcc Fault) (m : TruncateFile) → AskedOf CutMachine (truncates.told_next told) m
told-asks (Ok wcc) m = tt
told-asks (Err fault) m = tt

took-asks : (at : Truncating) (m : TruncateFile) (came : Result Reply Fault) (sent turn : Turn) (repeats : _)
    → AskedOf CutMachine (truncates.took_next at m came sent turn repeats) (record m { state = truncates.took_state at came sent turn repeats })
took-asks truncating.Idle m came sent turn repeats = tt
took-asks (truncating.Queued file upto) m came sent turn repeats = tt
took-asks (truncating.Asked file upto) m came sent turn repeats = by (truncates.size_again came sent turn repeats)
  where
    by : (b : Bool) → AskedOf CutMachine (truncates.ended_next b m file came) (record m { state = truncates.ended_state b (truncating.Asked file upto) })
    by true = refl
    by false = told-asks (truncates.size_told came) (record m { state = truncating.Idle })

-- where its call has no reply it stays as it is
resumed-stays : (m : TruncateFile) (turn : Turn) (old : Shelf) (next : Step) → KeptOf CutMachine (of_truncating m.state) m next (record m { state = truncates.resumed_state m.state m turn old })
resumed-stays m turn old next = by m.state refl
  where
    new : TruncateFile
    new = record m { state = truncates.resumed_state m.state m turn old }

    by : (at : Truncating) → m.state ≡ at → KeptOf CutMachine (of_truncating m.state) m next new
    by truncating.Idle is = rests-kept CutMachine (of_truncating m.state) m next new (inl (ap of_truncating is))
    by (truncating.Queued file upto) is = rests-kept CutMachine (of_truncating m.state) m next new (inl (ap of_truncating is))
    by (truncating.Asked file upto) is =
        rests-kept CutMachine (of_truncating m.state) m next new
        (inr (ap (λ (s : Truncating). record m { state = truncates.resumed_state s m turn old }) is ∙ ap (λ (s : Truncating). record m { state = s }) (sym is)))

one-cut : (state : Truncating) → of_truncating state ≤ 1
one-cut truncating.Idle = omega arith
one-cut (truncating.Queued file upto) = omega arith
one-cut (truncating.Asked file upto) = omega arith

-- ---- any operation

as-file : (next : Step) (m : TruncateFile) → AskedOf CutMachine next m → AskedOf FileCuts next (files.Truncate m)
as-file (nexts.Send call) m a = a
as-file nexts.Wait m a = tt
as-file (nexts.Done answer) m a = tt

kept-file : (others : ℕ) (old : TruncateFile) (next : Step) (new : TruncateFile) → KeptOf CutMachine others old next new → KeptOf FileCuts others (files.Truncate old) next (files.Truncate new)
kept-file others old (nexts.Send call) new k = k
kept-file others old nexts.Wait new k = k
kept-file others old (nexts.Done answer) new k = tt

file-asks : (next : Step) (to new : FileMachine) → new ≡ to → AskedOf FileCuts next to → AskedOf FileCuts next new
file-asks next to new is a = subst (λ (k : FileMachine). AskedOf FileCuts next k) (sym is) a

file-kept : (others : ℕ) (old to : FileMachine) (next : Step) (new : FileMachine) → new ≡ to → KeptOf FileCuts others old next to → KeptOf FileCuts others old next new
file-kept others old to next new is k = subst (λ (n : FileMachine). KeptOf FileCuts others old next n) (sym is) k

-- one of which nothing is said
any-asks : (next : Step) (new : FileMachine) → ((c : Call) → FileCuts new c) → AskedOf FileCuts next new
any-asks (nexts.Send call) new any = any call
any-asks nexts.Wait new any = tt
any-asks (nexts.Done answer) new any = tt

any-kept : (others : ℕ) (old : FileMachine) (next : Step) (new : FileMachine) → ((c : Call) → FileCuts new c) → KeptOf FileCuts others old next new
any-kept others old (nexts.Send call) new any = λ some c e. any c
any-kept others old nexts.Wait new any = λ some c e. any c
any-kept others old (nexts.Done answer) new any = tt

file-any : (new to : FileMachine) → new ≡ to → ((c : Call) → FileCuts to c) → (c : Call) → FileCuts new c
file-any new to is any = subst (λ (n : FileMachine). (c : Call) → FileCuts n c) (sym is) any

-- a step that leads to a machine of which nothing is said, or one of a truncate
data Leads (others : ℕ) (old : FileMachine) (next : Step) (new : FileMachine) : Type 0 where
  other : ((c : Call) → FileCuts new c) → Leads others old next new
  cuts : AskedOf FileCuts next new → KeptOf FileCuts others old next new → Leads others old next new

leads-asked : (others : ℕ) (old : FileMachine) (next : Step) (new : FileMachine) → Leads others old next new → AskedOf FileCuts next new
leads-asked others old next new (other any) = any-asks next new any
leads-asked others old next new (cuts a k) = a

leads-kept : (others : ℕ) (old : FileMachine) (next : Step) (new : FileMachine) → Leads others old next new → KeptOf FileCuts others old next new
leads-kept others old next new (other any) = any-kept others old next new any
leads-kept others old next new (cuts a k) = k

file-starts : (m : FileMachine) (wsize : ℕ) (turn : Turn) (old : Shelf) (next : Step) (new : FileMachine) (after : Shelf) → steps.Starts wsize m turn old next new after → AskedOf FileCuts next new
file-starts (files.Open m) wsize turn old next new after s = any-asks next new (file-any new _ s.machine_is (λ c. tt))
file-starts (files.Read m) wsize turn old next new after s = any-asks next new (file-any new (files.Read s.machine) s.machine_is (λ c. tt))
file-starts (files.Write m) wsize turn old next new after s = any-asks next new (file-any new (files.Write s.machine) s.machine_is (λ c. tt))
file-starts (files.Sync m) wsize turn old next new after s = any-asks next new (file-any new (files.Sync _) s.machine_is (λ c. tt))
file-starts (files.Close m) wsize turn old next new after s = any-asks next new (file-any new (files.Close _) s.machine_is (λ c. tt))
file-starts (files.Put m) wsize turn old next new after s = any-asks next new (file-any new (files.Put _) s.machine_is (λ c. tt))
file-starts (files.Truncate m) wsize turn old next new after s =
    let to : TruncateFile = record m { state = truncates.started_state m turn old } in
    file-asks next (files.Truncate to) new s.machine_is
    (as-file next to (asked-as (truncates.started_next m turn old) next to s.next_is (begun-asks (truncates.found_file m old) m turn old)))

file-resumes : (m : FileMachine) (wsize : ℕ) (turn : Turn) (old : Shelf) (next : Step) (new : FileMachine) (after : Shelf) → steps.Resumes wsize m turn old next new after
    → Leads (of_file m) m next new
file-resumes (files.Open m) wsize turn old next new after s = other (file-any new _ s.machine_is (λ c. tt))
file-resumes (files.Read m) wsize turn old next new after s = other (file-any new (files.Read s.machine) s.machine_is (λ c. tt))
file-resumes (files.Write m) wsize turn old next new after s = other (file-any new (files.Write _) s.machine_is (λ c. tt))
file-resumes (files.Sync m) wsize turn old next new after s = other (file-any new (files.Sync _) s.machine_is (λ c. tt))
file-resumes (files.Close m) wsize turn old next new after s = other (file-any new (files.Close _) s.machine_is (λ c. tt))
file-resumes (files.Put m) wsize turn old next new after s = other (file-any new (files.Put s.machine) s.machine_is (λ c. tt))
file-resumes (files.Truncate m) wsize turn old next new after s =
    let to : TruncateFile = record m { state = truncates.resumed_state m.state m turn old } in
    cuts
    (file-asks next (files.Truncate to) new s.machine_is (as-file next to (asked-as (truncates.resumed_next m.state m turn old) next to s.next_is (resumed-asks m.state m turn old))))
    (file-kept (of_truncating m.state) (files.Truncate m) (files.Truncate to) next new s.machine_is (kept-file (of_truncating m.state) m next to (resumed-stays m turn old next)))

file-takes : (m : FileMachine) (wsize : ℕ) (sent turn : Turn) (came : Result Reply Fault) (old : Shelf) (next : Step) (new : FileMachine) (after : Shelf) (others : ℕ) → of_file m ≡ others + 1
    → steps.Takes wsize m sent turn came old next new after → Leads others m next new
file-takes (files.Open m) wsize sent turn came old next new after others one s = other (file-any new _ s.machine_is (λ c. tt))
file-takes (files.Read m) wsize sent turn came old next new after others one s = other (file-any new (files.Read s.machine) s.machine_is (λ c. tt))
file-takes (files.Write m) wsize sent turn came old next new after others one s = other (file-any new (files.Write _) s.machine_is (λ c. tt))
file-takes (files.Sync m) wsize sent turn came old next new after others one s = other (file-any new (files.Sync _) s.machine_is (λ c. tt))
file-takes (files.Close m) wsize sent turn came old next new after others one s = other (file-any new (files.Close _) s.machine_is (λ c. tt))
file-takes (files.Put m) wsize sent turn came old next new after others one s = other (file-any new (files.Put s.machine) s.machine_is (λ c. tt))
file-takes (files.Truncate m) wsize sent turn came old next new after others one s =
    let to : TruncateFile = record m { state = truncates.took_state m.state came sent turn old.repeats } in
    cuts
    (file-asks next (files.Truncate to) new s.machine_is
    (as-file next to (asked-as (truncates.took_next m.state m came sent turn old.repeats) next to s.next_is (took-asks m.state m came sent turn old.repeats))))
    (none-left FileCuts others (of_truncating m.state) (files.Truncate m) next new (one-cut m.state) one)

-- ---- the laws

to-machine : (next : Step) (file : FileMachine) (new : Machine) → new ≡ machines.File file → AskedOf FileCuts next file → AskedOf Cuts next new
to-machine next file new is a = subst (λ (k : Machine). AskedOf Cuts next k) (sym is) (by next a)
  where
    by : (n : Step) → AskedOf FileCuts n file → AskedOf Cuts n (machines.File file)
    by (nexts.Send call) b = b
    by nexts.Wait b = tt
    by (nexts.Done answer) b = tt

to-kept : (others : ℕ) (old : FileMachine) (next : Step) (file : FileMachine) (new : Machine) → new ≡ machines.File file → KeptOf FileCuts others old next file
    → KeptOf Cuts others (machines.File old) next new
to-kept others old next file new is k = subst (λ (m : Machine). KeptOf Cuts others (machines.File old) next m) (sym is) (by next k)
  where
    by : (n : Step) → KeptOf FileCuts others old n file → KeptOf Cuts others (machines.File old) n (machines.File file)
    by (nexts.Send call) b = b
    by nexts.Wait b = b
    by (nexts.Done answer) b = tt

plain-asks : (next : Step) (new : Machine) → ((c : Call) → Cuts new c) → AskedOf Cuts next new
plain-asks (nexts.Send call) new any = any call
plain-asks nexts.Wait new any = tt
plain-asks (nexts.Done answer) new any = tt

plain-kept : (others : ℕ) (old : Machine) (next : Step) (new : Machine) → ((c : Call) → Cuts new c) → KeptOf Cuts others old next new
plain-kept others old (nexts.Send call) new any = λ some c e. any c
plain-kept others old nexts.Wait new any = λ some c e. any c
plain-kept others old (nexts.Done answer) new any = tt

plain-any : (new to : Machine) → new ≡ to → ((c : Call) → Cuts to c) → (c : Call) → Cuts new c
plain-any new to is any = subst (λ (n : Machine). (c : Call) → Cuts n c) (sym is) any

cuts-starts : (m : Machine) (wsize : ℕ) (turn : Turn) (old : Shelf) (next : Step) (new : Machine) (after : Shelf) → Starts wsize m turn old next new after → AskedOf Cuts next new
cuts-starts (machines.File m) wsize turn old next new after s = to-machine next s.machine new s.machine_is (file-starts m wsize turn old next s.machine after s.step)
cuts-starts (machines.Path m) wsize turn old next new after s = plain-asks next new (plain-any new (machines.Path s.machine) s.machine_is (λ c. tt))
cuts-starts (machines.Name m) wsize turn old next new after s = plain-asks next new (plain-any new (machines.Name s.machine) s.machine_is (λ c. tt))

cuts-resumes : (m : Machine) (wsize : ℕ) (turn : Turn) (old : Shelf) (next : Step) (new : Machine) (after : Shelf) → Resumes wsize m turn old next new after
    → AskedOf Cuts next new × KeptOf Cuts (in_flight m) m next new
cuts-resumes (machines.File m) wsize turn old next new after s =
    let l = file-resumes m wsize turn old next s.machine after s.step in (
      to-machine next s.machine new s.machine_is (leads-asked (of_file m) m next s.machine l),
      to-kept (of_file m) m next s.machine new s.machine_is (leads-kept (of_file m) m next s.machine l),
    )
cuts-resumes (machines.Path m) wsize turn old next new after s =
    let any = plain-any new (machines.Path s.machine) s.machine_is (λ c. tt) in (plain-asks next new any, plain-kept (in_flight (machines.Path m)) (machines.Path m) next new any)
cuts-resumes (machines.Name m) wsize turn old next new after s =
    let any = plain-any new (machines.Name s.machine) s.machine_is (λ c. tt) in (plain-asks next new any, plain-kept (in_flight (machines.Name m)) (machines.Name m) next new any)

cuts-takes : (m : Machine) (wsize : ℕ) (sent turn : Turn) (came : Result Reply Fault) (old : Shelf) (next : Step) (new : Machine) (after : Shelf) (others : ℕ) → in_flight m ≡ others + 1
    → Takes wsize m sent turn came old next new after → AskedOf Cuts next new × KeptOf Cuts others m next new
cuts-takes (machines.File m) wsize sent turn came old next new after others one s =
    let l = file-takes m wsize sent turn came old next s.machine after others one s.step in (
      to-machine next s.machine new s.machine_is (leads-asked others m next s.machine l),
      to-kept others m next s.machine new s.machine_is (leads-kept others m next s.machine l),
    )
cuts-takes (machines.Path m) wsize sent turn came old next new after others one s =
    let any = plain-any new (machines.Path s.machine) s.machine_is (λ c. tt) in (plain-asks next new any, plain-kept others (machines.Path m) next new any)
cuts-takes (machines.Name m) wsize sent turn came old next new after others one s =
    let any = plain-any new (machines.Name s.machine) s.machine_is (λ c. tt) in (plain-asks next new any, plain-kept others (machines.Name m) next new any)

pub cuts-laws : ExpectLaws Cuts
cuts-laws = record {
  starts = λ m wsize turn old next new after s. cuts-starts m wsize turn old next new after s;
  resumes = λ m wsize turn old next new after s. cuts-resumes m wsize turn old next new after s;
  takes = λ m wsize sent turn came old next new after others one s. cuts-takes m wsize sent turn came old next new after others one s;
}
