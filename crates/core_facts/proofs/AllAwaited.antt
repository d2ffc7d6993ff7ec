-- For which call an operation waits that waits for one alone: those on names, opens, and walks on their way.
use Rattle.core_facts.proofs.Prelude.{◌≡◌, ◌≤◌, ◌+◌, ◌-◌, ◌⊎◌, ◌||◌, not, inl, inr, ℕ, Bool, true, false, List, Option, Some, None, Result, Ok, Err, refl, sym, ap, subst, ◌∙◌, arith, if◌then◌else◌, Fault, Call, Reply, Step, Shelf, Turn, OpenFile, Led, Opening, OpeningStep, OpeningPhase, PutFile, Putting, Saving, joined, by-step, is_first, WalkStep, FileMachine, Machine, Opener, PathMachine, file_of, slot_taken, begun_at, placed, Starts, Resumes, Takes, one_if, of_walk, of_opening, of_putting, of_names, in_flight}
use Rattle.core_facts.specs.InFlight.{of_file, path_by}
use Rattle.std.specs.FinMap as finite
use Rattle.world_model.specs.declared.answer.Answer.TheVariants as answers
use Rattle.world_model.specs.declared.answer.Fault.TheVariants as faults
use Rattle.client_shelf.specs.declared.step.Step.TheVariants as nexts
use Rattle.file_ops.specs.declared.opening.Led.TheVariants as leads
use Rattle.file_ops.specs.declared.opening.OpeningStep.TheVariants as openings
use Rattle.file_ops.specs.declared.opening.OpeningPhase.TheVariants as opening_steps
use Rattle.file_ops.specs.declared.put_file.Putting.TheVariants as putting
use Rattle.file_ops.proofs.Openings.{counted-call}
use Rattle.file_ops.specs.OpenFile as opens
use Rattle.file_ops.specs.Opening as opening
use Rattle.file_ops.specs.PutFile as puts
use Rattle.file_ops.specs.Saves as saves
use Rattle.name_ops.specs.declared.walk.WalkStep.TheVariants as walks
use Rattle.name_ops.specs.Walking as walking
use Rattle.op_machines.specs.declared.file_machine.FileMachine.TheVariants as files
use Rattle.op_machines.specs.declared.machine.Machine.TheVariants as machines
use Rattle.op_machines.specs.FileSteps as steps
use Rattle.op_machines.specs.PathSteps as paths
use Rattle.core_facts.proofs.Awaited.{WalkAwaits, WalkMoves, go-step, took-step, walk-rests, one-walk}
use Rattle.core_facts.proofs.NamesAwaited.{NameAwaits, one-name, none-left, rests-kept, Sends, sends-as, name-goes, name-rests, name-takes}
use Rattle.core_facts.proofs.Steps.{AskedOf, KeptOf}
use Rattle.core_facts.proofs.Expects.{ExpectLaws}

-- ---- what is waited for

abbrev pub OpeningAwaits : Opening → Call → Type 0
OpeningAwaits o call = call ≡ opening.call_of o o.step

-- of a put only while it opens its file
abbrev pub PutAwaits : Putting → Opening → Call → Type 0
PutAwaits putting.Idle o call = Unit {0}
PutAwaits putting.Opens o call = OpeningAwaits o call
PutAwaits (putting.Adds file) o call = Unit {0}
PutAwaits (putting.Saves saving) o call = Unit {0}

abbrev pub FileAwaits : FileMachine → Call → Type 0
FileAwaits (files.Open m) call = OpeningAwaits m.opening call
FileAwaits (files.Read m) call = Unit {0}
FileAwaits (files.Write m) call = Unit {0}
FileAwaits (files.Sync m) call = Unit {0}
FileAwaits (files.Close m) call = Unit {0}
FileAwaits (files.Truncate m) call = Unit {0}
FileAwaits (files.Put m) call = PutAwaits m.state m.opening call

abbrev pub PathOr : Bool → PathMachine → Call → Type 0
PathOr true m call = FileAwaits (file_of m.opener) call
PathOr false m call = WalkAwaits m.walk call

abbrev pub Awaits : Machine → Call → Type 0
Awaits (machines.File m) call = FileAwaits m call
Awaits (machines.Path m) call = PathOr m.arrived m call
Awaits (machines.Name m) call = NameAwaits m call

-- ---- an opening

call-same : (o : Opening) (step : OpeningPhase) (asked : Bool) → opening.call_of (record o { asked = asked }) step ≡ opening.call_of o step
call-same o opening_steps.Look asked = refl
call-same o opening_steps.Make asked = refl
call-same o opening_steps.Find asked = refl
call-same o (opening_steps.Ask file) asked = refl

abbrev OpeningSends : OpeningStep → Opening → Type 0
OpeningSends (openings.Send call) new = OpeningAwaits new call
OpeningSends openings.Wait new = Unit {0}
OpeningSends (openings.Ended result) new = Unit {0}

go-if : (b : Bool) (o : Opening) → OpeningSends (if b then openings.Wait else openings.Send (opening.call_of o o.step)) (if b then o else record o { asked = true })
go-if true o = tt
go-if false o = sym (call-same o o.step true)

go-sends : (o : Opening) (turn : Turn) → OpeningSends (opening.go_next o turn) (opening.go_after o turn)
go-sends o turn = go-if (opening.waits o turn) o

opening-as : (to step : OpeningStep) (new : Opening) → step ≡ to → OpeningSends to new → OpeningSends step new
opening-as to step new is s = subst (λ (n : OpeningStep). OpeningSends n new) (sym is) s

led-sends : (again : Bool) (o : Opening) (sent turn : Turn) (led : Led) (step : OpeningStep) (pages later : _) → opening.LedIf again o sent turn led step pages later
    → OpeningSends step (opening.opening_after again o turn led)
led-sends true o sent turn led step pages later l = opening-as (openings.Send (opening.call_of o o.step)) step (opening.counted o) l.0 (sym (counted-call o o.step))
led-sends false o sent turn (leads.Goes to) step pages later l = opening-as (opening.go_next (opening.at_step o to) turn) step _ l.0 (go-sends (opening.at_step o to) turn)
led-sends false o sent turn (leads.Opens file attr) (openings.Ended result) pages later l = tt
led-sends false o sent turn (leads.Opens file attr) (openings.Send call) pages later l = absurd l
led-sends false o sent turn (leads.Opens file attr) openings.Wait pages later l = tt
led-sends false o sent turn (leads.Knows file stamp) (openings.Ended result) pages later l = tt
led-sends false o sent turn (leads.Knows file stamp) (openings.Send call) pages later l = absurd l
led-sends false o sent turn (leads.Knows file stamp) openings.Wait pages later l = tt
led-sends false o sent turn (leads.Ends fault) step pages later l = opening-as (openings.Ended (Err fault)) step o l.0 tt

goes-as : (step : OpeningStep) (new : Opening) → OpeningSends step new → Sends (opens.goes_as step) (OpeningAwaits new)
goes-as (openings.Send call) new s = s
goes-as openings.Wait new s = tt
goes-as (openings.Ended (Ok file)) new s = tt
goes-as (openings.Ended (Err fault)) new s = tt

-- where its call has no reply it stays as it is
opening-rests : (o : Opening) (turn : Turn) → (of_opening o ≡ 0) ⊎ (opening.go_after o turn ≡ o)
opening-rests o turn = by o.asked refl
  where
    by : (b : Bool) → o.asked ≡ b → (of_opening o ≡ 0) ⊎ (opening.go_after o turn ≡ o)
    by false is = inl (ap one_if is)
    by true is = inr (ap (λ (b : Bool). if b || not turn.room then o else record o { asked = true }) is)

one-opening : (o : Opening) → of_opening o ≤ 1
one-opening o = by o.asked
  where
    by : (b : Bool) → one_if b ≤ 1
    by true = omega arith
    by false = omega arith

-- ---- operations on files

abbrev FileSends : Step → FileMachine → Type 0
FileSends next new = Sends next (FileAwaits new)

file-as : (next : Step) (new to : FileMachine) → new ≡ to → FileSends next to → FileSends next new
file-as next new to is s = subst (λ (n : FileMachine). FileSends next n) (sym is) s

-- what is waited for where nothing is said of it
any-sends : (next : Step) (new : FileMachine) → ((c : Call) → FileAwaits new c) → FileSends next new
any-sends (nexts.Send call) new any = any call
any-sends nexts.Wait new any = tt
any-sends (nexts.Done answer) new any = tt

any-as : (new to : FileMachine) → new ≡ to → ((c : Call) → FileAwaits to c) → (c : Call) → FileAwaits new c
any-as new to is any = subst (λ (n : FileMachine). (c : Call) → FileAwaits n c) (sym is) any

any-kept : (others : ℕ) (old : FileMachine) (next : Step) (new : FileMachine) → ((c : Call) → FileAwaits new c) → KeptOf FileAwaits others old next new
any-kept others old (nexts.Send call) new any = λ some c e. any c
any-kept others old nexts.Wait new any = λ some c e. any c
any-kept others old (nexts.Done answer) new any = tt

start-sends : (b : Bool) (m : OpenFile) (turn : Turn) (next : Step)
    → next ≡ (if b then opens.refused faults.Slot else opens.goes_as (opening.go_next (opens.begun m turn).opening turn))
    → Sends next (OpeningAwaits (if b then m else opens.gone (opens.begun m turn) turn).opening)
start-sends true m turn next is = sends-as (opens.refused faults.Slot) next _ is tt
start-sends false m turn next is = sends-as _ next _ is (goes-as (opening.go_next (opens.begun m turn).opening turn) _ (go-sends (opens.begun m turn).opening turn))

puts-send : (other : Option _) (place : _) (of : _) (next : Step) (old new : _) (A : Call → Type 0) → opens.PutsOver other place of next old new → Sends next A
puts-send (Some other) place of next old new A p = sends-as (opens.refused faults.Slot) next A p.0 tt
puts-send None place of next old new A (inl p) = sends-as opens.well next A p.0 tt
puts-send None place of next old new A (inr p) = sends-as (opens.refused faults.Memory) next A p.0 tt

open-follows : (m : OpenFile) (step : OpeningStep) (next : Step) (old new : _) (after : Opening) → OpeningSends step after → opens.Follows m step next old new
    → Sends next (OpeningAwaits after)
open-follows m (openings.Send call) next old new after s f = sends-as (nexts.Send call) next _ f.0 s
open-follows m openings.Wait next old new after s f = sends-as nexts.Wait next _ f.0 tt
open-follows m (openings.Ended (Ok file)) next old new after s f = puts-send (finite.get old (opens.place_of m)) (opens.place_of m) (opens.opened_of m.opening file) next old new _ f
open-follows m (openings.Ended (Err fault)) next old new after s f = sends-as (opens.refused fault) next _ f.0 tt

-- a put that doesn't open its file any more
abbrev Quiet : Putting → Type 0
Quiet state = (o : Opening) (c : Call) → PutAwaits state o c

quiet-as : (state to : Putting) → state ≡ to → Quiet to → Quiet state
quiet-as state to is q = subst Quiet (sym is) q

put-follows : (gives : _) (lane : ℕ) (saving : Saving) (old : Shelf) (next : Step) (state : Putting) (new : Shelf) → puts.Follows gives lane saving old next state new → Quiet state
put-follows gives lane saving old next state new f = by-step (λ g. puts.Follows g lane saving old next state new → Quiet state)
    (λ call l. quiet-as state (putting.Saves saving) l.1 (λ o c. tt)) (λ l. quiet-as state (putting.Saves saving) l.1 (λ o c. tt))
    (λ result l. quiet-as state putting.Idle l.state_is (λ o c. tt)) gives f

put-queues : (b : Bool) (wsize lane : ℕ) (turn : Turn) (saving : Saving) (old : Shelf) (next : Step) (state : Putting) (new : Shelf)
    → puts.QueuesIf b wsize lane turn saving old next state new → Quiet state
put-queues true wsize lane turn saving old next state new q = put-follows q.gives lane q.saved q.gone next state new q.follows
put-queues false wsize lane turn saving old next state new q = quiet-as state (putting.Saves saving) q.state_is (λ o c. tt)

after-write : (told : Step) (wsize lane : ℕ) (file : List ℕ) (turn : Turn) (old : Shelf) (next : Step) (state : Putting) (new : Shelf)
    → puts.AfterWrite told wsize lane file turn old next state new → Quiet state
after-write (nexts.Send call) wsize lane file turn old next state new a = quiet-as state (putting.Adds file) a.1 (λ o c. tt)
after-write nexts.Wait wsize lane file turn old next state new a = quiet-as state (putting.Adds file) a.1 (λ o c. tt)
after-write (nexts.Done (answers.Done value)) wsize lane file turn old next state new a =
    put-queues (is_first lane (joined lane file old).order) wsize lane turn (saves.begun file old.seq) (joined lane file old) next state new a
after-write (nexts.Done (answers.Refused fault)) wsize lane file turn old next state new a = quiet-as state putting.Idle a.state_is (λ o c. tt)

writes-on : (wsize : ℕ) (m : PutFile) (file : List ℕ) (turn : Turn) (told : Step) (written : _) (mid : Shelf) (next : Step) (new : PutFile) (after : Shelf)
    → puts.WritesOn wsize m file turn told written mid next new after → (c : Call) → FileAwaits (files.Put new) c
writes-on wsize m file turn told written mid next new after w c = after-write told wsize m.write.lane file turn mid next new.state after w.follows new.opening c

abbrev PutSends : Step → PutFile → Type 0
PutSends next new = FileSends next (files.Put new)

put-as : (next : Step) (new to : PutFile) → new ≡ to → PutSends next to → PutSends next new
put-as next new to is s = subst (λ (n : PutFile). PutSends next n) (sym is) s

put-resumes : (at : Putting) (wsize : ℕ) (m : PutFile) (turn : Turn) (old : Shelf) (next : Step) (new : PutFile) (after : Shelf) → m.state ≡ at
    → puts.Resumes at wsize m turn old next new after → PutSends next new
put-resumes putting.Idle wsize m turn old next new after is r = sends-as nexts.Wait next _ r.next_is tt
put-resumes putting.Opens wsize m turn old next new after is r =
    put-as next new (record m { opening = opening.go_after m.opening turn }) r.1
    (subst (λ (s : Putting). Sends next (PutAwaits s (opening.go_after m.opening turn))) (sym is)
    (sends-as _ next _ r.0 (goes-as (opening.go_next m.opening turn) (opening.go_after m.opening turn) (go-sends m.opening turn))))
put-resumes (putting.Adds file) wsize m turn old next new after is r =
    any-sends next (files.Put new) (writes-on wsize m file turn r.told r.written r.mid next new after r.goes)
put-resumes (putting.Saves saving) wsize m turn old next new after is r =
    any-sends next (files.Put new) (λ c. put-queues (is_first m.write.lane old.order) wsize m.write.lane turn saving old next new.state after r.0 new.opening c)

put-rests : (at : Putting) (wsize : ℕ) (m : PutFile) (turn : Turn) (old : Shelf) (next : Step) (new : PutFile) (after : Shelf) → m.state ≡ at
    → puts.Resumes at wsize m turn old next new after → KeptOf FileAwaits (of_file (files.Put m)) (files.Put m) next (files.Put new)
put-rests putting.Idle wsize m turn old next new after is r = rests-kept FileAwaits _ (files.Put m) next (files.Put new) (inr (ap files.Put r.machine_is))
put-rests putting.Opens wsize m turn old next new after is r = rests-kept FileAwaits _ (files.Put m) next (files.Put new) (by (opening-rests m.opening turn))
  where
    by : (of_opening m.opening ≡ 0) ⊎ (opening.go_after m.opening turn ≡ m.opening) → (of_file (files.Put m) ≡ 0) ⊎ (files.Put new ≡ files.Put m)
    by (inl none) = inl (ap (λ (s : Putting). of_putting s m.opening m.write.state) is ∙ none)
    by (inr same) = inr (ap files.Put (r.1 ∙ ap (λ (o : Opening). record m { opening = o }) same))
put-rests (putting.Adds file) wsize m turn old next new after is r =
    any-kept _ (files.Put m) next (files.Put new) (writes-on wsize m file turn r.told r.written r.mid next new after r.goes)
put-rests (putting.Saves saving) wsize m turn old next new after is r =
    any-kept _ (files.Put m) next (files.Put new) (λ c. put-queues (is_first m.write.lane old.order) wsize m.write.lane turn saving old next new.state after r.0 new.opening c)

after-opening : (step : OpeningStep) (wsize : ℕ) (m : PutFile) (turn : Turn) (old : Shelf) (next : Step) (new : PutFile) (after : Shelf) → m.state ≡ putting.Opens
    → OpeningSends step m.opening → puts.AfterOpening step wsize m turn old next new after → PutSends next new
after-opening (openings.Send call) wsize m turn old next new after is s a =
    put-as next new m a.1 (sends-as (nexts.Send call) next _ a.0 (subst (λ (p : Putting). PutAwaits p m.opening call) (sym is) s))
after-opening openings.Wait wsize m turn old next new after is s a = sends-as nexts.Wait next _ a.next_is tt
after-opening (openings.Ended (Ok file)) wsize m turn old next new after is s a =
    any-sends next (files.Put new) (writes-on wsize m file turn a.told a.written a.mid next new after a.goes)
after-opening (openings.Ended (Err fault)) wsize m turn old next new after is s a = sends-as (nexts.Done (answers.Refused fault)) next _ a.0 tt

put-takes : (at : Putting) (wsize : ℕ) (m : PutFile) (sent turn : Turn) (came : Result Reply Fault) (old : Shelf) (next : Step) (new : PutFile) (after : Shelf) → m.state ≡ at
    → puts.Takes at wsize m sent turn came old next new after → PutSends next new
put-takes putting.Idle wsize m sent turn came old next new after is t = sends-as nexts.Wait next _ t.next_is tt
put-takes putting.Opens wsize m sent turn came old next new after is t =
    let again = opening.opening_again m.opening sent turn came old.repeats in
    after-opening t.step wsize (puts.led again m turn came t.took.attrs old.pages) turn t.took next new after is
    (led-sends again m.opening sent turn (opening.led_on m.opening turn.now came t.took.attrs old.pages) t.step old.pages t.took.pages t.leads) t.follows
put-takes (putting.Adds file) wsize m sent turn came old next new after is t =
    any-sends next (files.Put new) (writes-on wsize m file turn t.told t.written t.mid next new after t.goes)
put-takes (putting.Saves saving) wsize m sent turn came old next new after is t =
    any-sends next (files.Put new) (λ c. put-follows t.0.gives m.write.lane t.0.saved t.0.took next new.state after t.0.follows new.opening c)

put-left : (at : Putting) (wsize : ℕ) (m : PutFile) (sent turn : Turn) (came : Result Reply Fault) (old : Shelf) (next : Step) (new : PutFile) (after : Shelf) (others : ℕ) → m.state ≡ at
    → of_file (files.Put m) ≡ others + 1 → puts.Takes at wsize m sent turn came old next new after → KeptOf FileAwaits others (files.Put m) next (files.Put new)
put-left putting.Idle wsize m sent turn came old next new after others is one t = rests-kept FileAwaits others (files.Put m) next (files.Put new) (inr (ap files.Put t.machine_is))
put-left putting.Opens wsize m sent turn came old next new after others is one t =
    none-left FileAwaits others (of_opening m.opening) (files.Put m) next (files.Put new) (one-opening m.opening) (sym (ap (λ (s : Putting). of_putting s m.opening m.write.state) is) ∙ one)
put-left (putting.Adds file) wsize m sent turn came old next new after others is one t =
    any-kept others (files.Put m) next (files.Put new) (writes-on wsize m file turn t.told t.written t.mid next new after t.goes)
put-left (putting.Saves saving) wsize m sent turn came old next new after others is one t =
    any-kept others (files.Put m) next (files.Put new) (λ c. put-follows t.0.gives m.write.lane t.0.saved t.0.took next new.state after t.0.follows new.opening c)

-- ---- any operation on a file

file-starts : (m : FileMachine) (wsize : ℕ) (turn : Turn) (old : Shelf) (next : Step) (new : FileMachine) (after : Shelf) → steps.Starts wsize m turn old next new after → FileSends next new
file-starts (files.Open m) wsize turn old next new after s = file-as next new _ s.machine_is (start-sends (opens.is_taken m old.opens) m turn next s.next_is)
file-starts (files.Read m) wsize turn old next new after s = any-sends next new (any-as new (files.Read s.machine) s.machine_is (λ c. tt))
file-starts (files.Write m) wsize turn old next new after s = any-sends next new (any-as new (files.Write s.machine) s.machine_is (λ c. tt))
file-starts (files.Sync m) wsize turn old next new after s = any-sends next new (any-as new (files.Sync _) s.machine_is (λ c. tt))
file-starts (files.Close m) wsize turn old next new after s = any-sends next new (any-as new (files.Close _) s.machine_is (λ c. tt))
file-starts (files.Truncate m) wsize turn old next new after s = any-sends next new (any-as new (files.Truncate _) s.machine_is (λ c. tt))
file-starts (files.Put m) wsize turn old next new after s =
    file-as next new _ s.machine_is (sends-as _ next _ s.next_is (goes-as (opening.go_next (puts.opening_at turn m) turn) _ (go-sends (puts.opening_at turn m) turn)))

file-resumes : (m : FileMachine) (wsize : ℕ) (turn : Turn) (old : Shelf) (next : Step) (new : FileMachine) (after : Shelf) → steps.Resumes wsize m turn old next new after → FileSends next new
file-resumes (files.Open m) wsize turn old next new after s =
    file-as next new _ s.machine_is (sends-as _ next _ s.next_is (goes-as (opening.go_next m.opening turn) (opening.go_after m.opening turn) (go-sends m.opening turn)))
file-resumes (files.Read m) wsize turn old next new after s = any-sends next new (any-as new (files.Read s.machine) s.machine_is (λ c. tt))
file-resumes (files.Write m) wsize turn old next new after s = any-sends next new (any-as new (files.Write _) s.machine_is (λ c. tt))
file-resumes (files.Sync m) wsize turn old next new after s = any-sends next new (any-as new (files.Sync _) s.machine_is (λ c. tt))
file-resumes (files.Close m) wsize turn old next new after s = any-sends next new (any-as new (files.Close _) s.machine_is (λ c. tt))
file-resumes (files.Truncate m) wsize turn old next new after s = any-sends next new (any-as new (files.Truncate _) s.machine_is (λ c. tt))
file-resumes (files.Put m) wsize turn old next new after s = file-as next new (files.Put s.machine) s.machine_is (put-resumes m.state wsize m turn old next s.machine after refl s.step)

kept-as : (others : ℕ) (old to : FileMachine) (next : Step) (new : FileMachine) → new ≡ to → KeptOf FileAwaits others old next to → KeptOf FileAwaits others old next new
kept-as others old to next new is k = subst (λ (n : FileMachine). KeptOf FileAwaits others old next n) (sym is) k

file-rests : (m : FileMachine) (wsize : ℕ) (turn : Turn) (old : Shelf) (next : Step) (new : FileMachine) (after : Shelf) → steps.Resumes wsize m turn old next new after
    → KeptOf FileAwaits (of_file m) m next new
file-rests (files.Open m) wsize turn old next new after s = rests-kept FileAwaits _ (files.Open m) next new (by (opening-rests m.opening turn))
  where
    by : (of_opening m.opening ≡ 0) ⊎ (opening.go_after m.opening turn ≡ m.opening) → (of_file (files.Open m) ≡ 0) ⊎ (new ≡ files.Open m)
    by (inl none) = inl none
    by (inr same) = inr (s.machine_is ∙ ap (λ (o : Opening). files.Open (record m { opening = o })) same)
file-rests (files.Read m) wsize turn old next new after s = any-kept _ (files.Read m) next new (any-as new (files.Read s.machine) s.machine_is (λ c. tt))
file-rests (files.Write m) wsize turn old next new after s = any-kept _ (files.Write m) next new (any-as new (files.Write _) s.machine_is (λ c. tt))
file-rests (files.Sync m) wsize turn old next new after s = any-kept _ (files.Sync m) next new (any-as new (files.Sync _) s.machine_is (λ c. tt))
file-rests (files.Close m) wsize turn old next new after s = any-kept _ (files.Close m) next new (any-as new (files.Close _) s.machine_is (λ c. tt))
file-rests (files.Truncate m) wsize turn old next new after s = any-kept _ (files.Truncate m) next new (any-as new (files.Truncate _) s.machine_is (λ c. tt))
file-rests (files.Put m) wsize turn old next new after s =
    kept-as _ (files.Put m) (files.Put s.machine) next new s.machine_is (put-rests m.state wsize m turn old next s.machine after refl s.step)

file-takes : (m : FileMachine) (wsize : ℕ) (sent turn : Turn) (came : Result Reply Fault) (old : Shelf) (next : Step) (new : FileMachine) (after : Shelf)
    → steps.Takes wsize m sent turn came old next new after → FileSends next new
file-takes (files.Open m) wsize sent turn came old next new after s =
    file-as next new _ s.machine_is (open-follows m s.steps.step next old.opens after.opens _ (led-sends _ m.opening sent turn _ s.steps.step old.pages after.pages s.steps.led) s.steps.follows)
file-takes (files.Read m) wsize sent turn came old next new after s = any-sends next new (any-as new (files.Read s.machine) s.machine_is (λ c. tt))
file-takes (files.Write m) wsize sent turn came old next new after s = any-sends next new (any-as new (files.Write _) s.machine_is (λ c. tt))
file-takes (files.Sync m) wsize sent turn came old next new after s = any-sends next new (any-as new (files.Sync _) s.machine_is (λ c. tt))
file-takes (files.Close m) wsize sent turn came old next new after s = any-sends next new (any-as new (files.Close _) s.machine_is (λ c. tt))
file-takes (files.Truncate m) wsize sent turn came old next new after s = any-sends next new (any-as new (files.Truncate _) s.machine_is (λ c. tt))
file-takes (files.Put m) wsize sent turn came old next new after s = file-as next new (files.Put s.machine) s.machine_is (put-takes m.state wsize m sent turn came old next s.machine after refl s.step)

file-left : (m : FileMachine) (wsize : ℕ) (sent turn : Turn) (came : Result Reply Fault) (old : Shelf) (next : Step) (new : FileMachine) (after : Shelf) (others : ℕ) → of_file m ≡ others + 1
    → steps.Takes wsize m sent turn came old next new after → KeptOf FileAwaits others m next new
file-left (files.Open m) wsize sent turn came old next new after others one s = none-left FileAwaits others (of_opening m.opening) (files.Open m) next new (one-opening m.opening) one
file-left (files.Read m) wsize sent turn came old next new after others one s = any-kept others (files.Read m) next new (any-as new (files.Read s.machine) s.machine_is (λ c. tt))
file-left (files.Write m) wsize sent turn came old next new after others one s = any-kept others (files.Write m) next new (any-as new (files.Write _) s.machine_is (λ c. tt))
file-left (files.Sync m) wsize sent turn came old next new after others one s = any-kept others (files.Sync m) next new (any-as new (files.Sync _) s.machine_is (λ c. tt))
file-left (files.Close m) wsize sent turn came old next new after others one s = any-kept others (files.Close m) next new (any-as new (files.Close _) s.machine_is (λ c. tt))
file-left (files.Truncate m) wsize sent turn came old next new after others one s = any-kept others (files.Truncate m) next new (any-as new (files.Truncate _) s.machine_is (λ c. tt))
file-left (files.Put m) wsize sent turn came old next new after others one s =
    kept-as others (files.Put m) (files.Put s.machine) next new s.machine_is (put-left m.state wsize m sent turn came old next s.machine after others refl one s.step)

-- ---- opens and puts on their way

abbrev PathAwaits : PathMachine → Call → Type 0
PathAwaits m call = PathOr m.arrived m call

abbrev PathSends : Step → PathMachine → Type 0
PathSends next new = Sends next (PathAwaits new)

path-as : (next : Step) (new to : PathMachine) → new ≡ to → PathSends next to → PathSends next new
path-as next new to is s = subst (λ (n : PathMachine). PathSends next n) (sym is) s

there-sends : (next : Step) (m : PathMachine) → m.arrived ≡ true → FileSends next (file_of m.opener) → PathSends next m
there-sends next m is s = subst (λ (b : Bool). Sends next (PathOr b m)) (sym is) s

way-sends : (next : Step) (m : PathMachine) → m.arrived ≡ false → Sends next (WalkAwaits m.walk) → PathSends next m
way-sends next m is s = subst (λ (b : Bool). Sends next (PathOr b m)) (sym is) s

then-sends : (wsize : ℕ) (m : PathMachine) (turn : Turn) (was : Shelf) (next : Step) (new : PathMachine) (after : Shelf) → m.arrived ≡ true
    → paths.ThenResumes wsize m turn was next new after → PathSends next new
then-sends wsize m turn was next new after is t =
    path-as next new (record m { opener = t.opener }) t.machine_is
    (there-sends next (record m { opener = t.opener }) is (file-resumes (file_of m.opener) wsize turn was next (file_of t.opener) after t.step))

follows-sends : (step : WalkStep) (wsize : ℕ) (m : PathMachine) (turn : Turn) (was : Shelf) (next : Step) (new : PathMachine) (after : Shelf) → m.arrived ≡ false → WalkMoves step m.walk
    → paths.Follows step wsize m turn was next new after → PathSends next new
follows-sends (walks.Send call) wsize m turn was next new after is s f = path-as next new m f.1 (way-sends next m is (sends-as (nexts.Send call) next _ f.0 s.0))
follows-sends walks.Wait wsize m turn was next new after is s f = sends-as nexts.Wait next _ f.0 tt
follows-sends (walks.At dir) wsize m turn was next new after is s f =
    then-sends wsize (record m { opener = placed dir m.opener; arrived = true }) turn was next new after refl f
follows-sends (walks.Refused fault) wsize m turn was next new after is s f = sends-as (nexts.Done (answers.Refused fault)) next _ f.0 tt

path-resumes : (b : Bool) (wsize : ℕ) (m : PathMachine) (turn : Turn) (was : Shelf) (next : Step) (new : PathMachine) (after : Shelf) → m.arrived ≡ b
    → paths.PathResumes b wsize m turn was next new after → PathSends next new
path-resumes true wsize m turn was next new after is r = then-sends wsize m turn was next new after is r
path-resumes false wsize m turn was next new after is r =
    follows-sends (walking.go_next m.walk turn was) wsize (record m { walk = walking.go_after m.walk turn was }) turn (walking.go_shelf m.walk turn was) next new after is
    (go-step m.walk turn was) r

path-starts : (taken : Bool) (wsize : ℕ) (m : PathMachine) (turn : Turn) (was : Shelf) (next : Step) (new : PathMachine) (after : Shelf)
    → paths.StartsIf taken wsize m turn was next new after → PathSends next new
path-starts true wsize m turn was next new after s = sends-as (nexts.Done (answers.Refused faults.Slot)) next _ s.0 tt
path-starts false wsize m turn was next new after s = path-resumes m.arrived wsize (record m { opener = begun_at (turn.moment - 1) m.opener }) turn was next new after refl s

path-kept : (others : ℕ) (m : PathMachine) (next : Step) (new : PathMachine) (opener : Opener) → m.arrived ≡ true → new ≡ record m { opener = opener }
    → KeptOf FileAwaits others (file_of m.opener) next (file_of opener) → KeptOf Awaits others (machines.Path m) next (machines.Path new)
path-kept others m next new opener there is k = by next k
  where
    here : ((c : Call) → FileAwaits (file_of m.opener) c → FileAwaits (file_of opener) c) → (c : Call) → PathAwaits m c → PathAwaits new c
    here f c e =
        subst (λ (n : PathMachine). PathAwaits n c) (sym is)
        (subst (λ (b : Bool). PathOr b (record m { opener = opener }) c) (sym there) (f c (subst (λ (b : Bool). PathOr b m c) there e)))

    by : (n : Step) → KeptOf FileAwaits others (file_of m.opener) n (file_of opener) → KeptOf Awaits others (machines.Path m) n (machines.Path new)
    by (nexts.Send call) f = λ some. here (f some)
    by nexts.Wait f = λ some. here (f some)
    by (nexts.Done answer) f = tt

path-rests : (b : Bool) (wsize : ℕ) (m : PathMachine) (turn : Turn) (was : Shelf) (next : Step) (new : PathMachine) (after : Shelf) → m.arrived ≡ b
    → paths.PathResumes b wsize m turn was next new after → KeptOf Awaits (in_flight (machines.Path m)) (machines.Path m) next (machines.Path new)
path-rests true wsize m turn was next new after is r =
    subst (λ (n : ℕ). KeptOf Awaits n (machines.Path m) next (machines.Path new)) (sym (ap (λ (b : Bool). path_by b (of_walk m.walk) (of_file (file_of m.opener))) is))
    (path-kept (of_file (file_of m.opener)) m next new r.opener is r.machine_is (file-rests (file_of m.opener) wsize turn was next (file_of r.opener) after r.step))
path-rests false wsize m turn was next new after is r = rests-kept Awaits _ (machines.Path m) next (machines.Path new) (by (walk-rests m.walk turn was))
  where
    by : (of_walk m.walk ≡ 0) ⊎ ((walking.go_next m.walk turn was ≡ walks.Wait) × (walking.go_after m.walk turn was ≡ m.walk)) → (in_flight (machines.Path m) ≡ 0) ⊎ (machines.Path new ≡ machines.Path m)
    by (inl none) = inl (ap (λ (b : Bool). path_by b (of_walk m.walk) (of_file (file_of m.opener))) is ∙ none)
    by (inr w) =
        let f = subst (λ (n : WalkStep). paths.Follows n wsize (record m { walk = walking.go_after m.walk turn was }) turn (walking.go_shelf m.walk turn was) next new after) w.0 r in
        inr (ap machines.Path (f.1 ∙ ap (λ (k : _). record m { walk = k }) w.1))

path-takes : (b : Bool) (wsize : ℕ) (m : PathMachine) (sent turn : Turn) (came : Result Reply Fault) (was : Shelf) (next : Step) (new : PathMachine) (after : Shelf) → m.arrived ≡ b
    → paths.PathTakes b wsize m sent turn came was next new after → PathSends next new
path-takes true wsize m sent turn came was next new after is t =
    path-as next new (record m { opener = t.opener }) t.machine_is
    (there-sends next (record m { opener = t.opener }) is (file-takes (file_of m.opener) wsize sent turn came was next (file_of t.opener) after t.step))
path-takes false wsize m sent turn came was next new after is t =
    follows-sends t.step wsize t.walked turn t.heard next new after (ap (λ (w : PathMachine). w.arrived) t.walked_is ∙ is)
    (took-step m.walk sent turn came was t.step t.walked.walk t.heard t.takes) t.follows

path-left : (b : Bool) (wsize : ℕ) (m : PathMachine) (sent turn : Turn) (came : Result Reply Fault) (was : Shelf) (next : Step) (new : PathMachine) (after : Shelf) (others : ℕ) → m.arrived ≡ b
    → in_flight (machines.Path m) ≡ others + 1 → paths.PathTakes b wsize m sent turn came was next new after → KeptOf Awaits others (machines.Path m) next (machines.Path new)
path-left true wsize m sent turn came was next new after others is one t =
    path-kept others m next new t.opener is t.machine_is
    (file-left (file_of m.opener) wsize sent turn came was next (file_of t.opener) after others (sym (ap (λ (b : Bool). path_by b (of_walk m.walk) (of_file (file_of m.opener))) is) ∙ one) t.step)
path-left false wsize m sent turn came was next new after others is one t =
    none-left Awaits others (of_walk m.walk) (machines.Path m) next (machines.Path new) (one-walk m.walk)
    (sym (ap (λ (b : Bool). path_by b (of_walk m.walk) (of_file (file_of m.opener))) is) ∙ one)

-- ---- any operation

abbrev AllSends : Step → Machine → Type 0
AllSends next new = Sends next (Awaits new)

all-as : (next : Step) (new to : Machine) → new ≡ to → AllSends next to → AllSends next new
all-as next new to is s = subst (λ (n : Machine). AllSends next n) (sym is) s

all-kept : (others : ℕ) (old to : Machine) (next : Step) (new : Machine) → new ≡ to → KeptOf Awaits others old next to → KeptOf Awaits others old next new
all-kept others old to next new is k = subst (λ (n : Machine). KeptOf Awaits others old next n) (sym is) k

sends-asked : (next : Step) (new : Machine) → AllSends next new → AskedOf Awaits next new
sends-asked (nexts.Send call) new s = s
sends-asked nexts.Wait new s = tt
sends-asked (nexts.Done answer) new s = tt

file-kept : (others : ℕ) (old : FileMachine) (next : Step) (new : FileMachine) → KeptOf FileAwaits others old next new → KeptOf Awaits others (machines.File old) next (machines.File new)
file-kept others old (nexts.Send call) new k = k
file-kept others old nexts.Wait new k = k
file-kept others old (nexts.Done answer) new k = tt

starts-sends : (m : Machine) (wsize : ℕ) (turn : Turn) (old : Shelf) (next : Step) (new : Machine) (after : Shelf) → Starts wsize m turn old next new after → AllSends next new
starts-sends (machines.File m) wsize turn old next new after s = all-as next new (machines.File s.machine) s.machine_is (file-starts m wsize turn old next s.machine after s.step)
starts-sends (machines.Path m) wsize turn old next new after s =
    all-as next new (machines.Path s.machine) s.machine_is (path-starts (slot_taken m.opener old.opens) wsize m turn old next s.machine after s.step)
starts-sends (machines.Name m) wsize turn old next new after s = all-as next new (machines.Name s.machine) s.machine_is (name-goes m turn old next s.machine after s.step)

resumes-sends : (m : Machine) (wsize : ℕ) (turn : Turn) (old : Shelf) (next : Step) (new : Machine) (after : Shelf) → Resumes wsize m turn old next new after → AllSends next new
resumes-sends (machines.File m) wsize turn old next new after s = all-as next new (machines.File s.machine) s.machine_is (file-resumes m wsize turn old next s.machine after s.step)
resumes-sends (machines.Path m) wsize turn old next new after s =
    all-as next new (machines.Path s.machine) s.machine_is (path-resumes m.arrived wsize m turn old next s.machine after refl s.step)
resumes-sends (machines.Name m) wsize turn old next new after s = all-as next new (machines.Name s.machine) s.machine_is (name-goes m turn old next s.machine after s.step)

resumes-kept : (m : Machine) (wsize : ℕ) (turn : Turn) (old : Shelf) (next : Step) (new : Machine) (after : Shelf) → Resumes wsize m turn old next new after
    → KeptOf Awaits (in_flight m) m next new
resumes-kept (machines.File m) wsize turn old next new after s =
    all-kept _ (machines.File m) (machines.File s.machine) next new s.machine_is (file-kept _ m next s.machine (file-rests m wsize turn old next s.machine after s.step))
resumes-kept (machines.Path m) wsize turn old next new after s =
    all-kept _ (machines.Path m) (machines.Path s.machine) next new s.machine_is (path-rests m.arrived wsize m turn old next s.machine after refl s.step)
resumes-kept (machines.Name m) wsize turn old next new after s = rests-kept Awaits _ (machines.Name m) next new (by (name-rests m turn old next s.machine after s.step))
  where
    by : (of_names m ≡ 0) ⊎ (s.machine ≡ m) → (in_flight (machines.Name m) ≡ 0) ⊎ (new ≡ machines.Name m)
    by (inl none) = inl none
    by (inr same) = inr (s.machine_is ∙ ap machines.Name same)

takes-sends : (m : Machine) (wsize : ℕ) (sent turn : Turn) (came : Result Reply Fault) (old : Shelf) (next : Step) (new : Machine) (after : Shelf)
    → Takes wsize m sent turn came old next new after → AllSends next new
takes-sends (machines.File m) wsize sent turn came old next new after s =
    all-as next new (machines.File s.machine) s.machine_is (file-takes m wsize sent turn came old next s.machine after s.step)
takes-sends (machines.Path m) wsize sent turn came old next new after s =
    all-as next new (machines.Path s.machine) s.machine_is (path-takes m.arrived wsize m sent turn came old next s.machine after refl s.step)
takes-sends (machines.Name m) wsize sent turn came old next new after s =
    all-as next new (machines.Name s.machine) s.machine_is (name-takes m sent turn came old next s.machine after s.step)

takes-kept : (m : Machine) (wsize : ℕ) (sent turn : Turn) (came : Result Reply Fault) (old : Shelf) (next : Step) (new : Machine) (after : Shelf) (others : ℕ) → in_flight m ≡ others + 1
    → Takes wsize m sent turn came old next new after → KeptOf Awaits others m next new
takes-kept (machines.File m) wsize sent turn came old next new after others one s =
    all-kept others (machines.File m) (machines.File s.machine) next new s.machine_is (file-kept others m next s.machine (file-left m wsize sent turn came old next s.machine after others one s.step))
takes-kept (machines.Path m) wsize sent turn came old next new after others one s =
    all-kept others (machines.Path m) (machines.Path s.machine) next new s.machine_is (path-left m.arrived wsize m sent turn came old next s.machine after others refl one s.step)
takes-kept (machines.Name m) wsize sent turn came old next new after others one s = none-left Awaits others (of_names m) (machines.Name m) next new (one-name m) one

pub awaits-laws : ExpectLaws Awaits
awaits-laws = record {
  starts = λ m wsize turn old next new after s. sends-asked next new (starts-sends m wsize turn old next new after s);
  resumes = λ m wsize turn old next new after s. (sends-asked next new (resumes-sends m wsize turn old next new after s), resumes-kept m wsize turn old next new after s);
  takes = λ m wsize sent turn came old next new after others one s.
      (sends-asked next new (takes-sends m wsize sent turn came old next new after s), takes-kept m wsize sent turn came old next new after others one s);
}
