-- On which objects the calls of operations on files are made.
use Rattle.core_answers.proofs.Prelude.{◌≡◌, ◌≤◌, ◌+◌, ◌==◌, ◌&&◌, ◌||◌, ℕ, not, Bool, true, false, List, [], ◌∷◌, Option, Some, None, Result, Ok, Err, inl, inr, refl, sym, ap, subst, ◌∙◌, arith, if◌then◌else◌, nat_lt, Verdict, AllStable, SendAgain, Attr, Verf, Wcc, Opened, Opens, Pages, Answer, Fault, Call, Reply, chosen, Pending, Segments, goes_again, Step, Repeat, Shelf, Turn, Closing, Removal, OpenFile, Led, Opening, OpeningStep, OpeningPhase, Putting, PutFile, ReadFile, Reading, Sending, Committing, Resending, CommittingAgain, Saving, Syncing, TruncateFile, Truncating, WriteFile, Writing, commit_told, FileMachine, is_first, left, CloseFile, SyncFile, is_full, remove_of, closed_answer, remove_busy, refusal_of, file_to_write, Said, part, refusal, file_at, joined, got_by, by-step, ends_as, of_opening, of_phase, of_reading, of_writing, of_syncing, of_closing, of_truncating, of_putting, Plain, AskedOf}
use Rattle.open_files.specs.Slots.{Place}
use Rattle.file_ops.proofs.SaveCounts.{of_saving, SaveCounts, save-goes, save-takes}
use Rattle.core_facts.specs.InFlight.{one_if, of_file, ClosingCounted, FileCounted}
use Rattle.core_facts.proofs.NameCounts.{one-left}
use Rattle.std.specs.FinMap as finite
use Rattle.xdr_codec.specs.declared.blob.Memory as memory
use Rattle.world_model.specs.declared.answer.Answer.TheVariants as answers
use Rattle.world_model.specs.declared.answer.Fault.TheVariants as faults
use Rattle.write_back.specs.Files.{of_file as of_pending}
use Rattle.client_shelf.specs.declared.step.Step.TheVariants as nexts
use Rattle.file_ops.specs.declared.close_file.Closing.TheVariants as closing
use Rattle.file_ops.specs.declared.opening.Led.TheVariants as leads
use Rattle.file_ops.specs.declared.opening.OpeningStep.TheVariants as openings
use Rattle.file_ops.specs.declared.opening.OpeningPhase.TheVariants as opening_steps
use Rattle.file_ops.specs.declared.put_file.Putting.TheVariants as putting
use Rattle.file_ops.specs.declared.reading.Phase.{Phase as ReadPhase}
use Rattle.file_ops.specs.declared.reading.Phase.TheVariants as phases
use Rattle.file_ops.specs.declared.saving.Phase.{Phase}
use Rattle.file_ops.specs.declared.sync_file.Syncing.TheVariants as syncing
use Rattle.file_ops.specs.declared.truncate_file.Truncating.TheVariants as truncating
use Rattle.file_ops.specs.declared.write_file.Writing.TheVariants as writing
use Rattle.file_ops.specs.OpenFile as opens
use Rattle.file_ops.specs.Opening as opening
use Rattle.file_ops.specs.Reading as reading
use Rattle.file_ops.specs.Saves as saves
use Rattle.op_machines.specs.declared.file_machine.FileMachine.TheVariants as files
use Rattle.file_ops.specs.Closes as closes
use Rattle.file_ops.specs.PutFile as puts
use Rattle.file_ops.specs.ReadFile as reads
use Rattle.file_ops.specs.Syncs as syncs
use Rattle.file_ops.specs.TruncateFile as truncates
use Rattle.file_ops.specs.WriteFile as writes
use Rattle.op_machines.specs.FileSteps as steps
use Rattle.core_facts.proofs.FileCounts.{opening-goes as opening-counts, opening-leaves, read-resumes as read-resumes-count, truncate-resumes as truncate-resumes-count, write-resumes as write-resumes-count, write-takes as write-takes-count}
use Rattle.core_facts.proofs.PutCounts.{of_put}
use Rattle.core_answers.proofs.bonds.Learnt.{IsOn}
use Rattle.core_answers.proofs.bonds.NameCalls.{asked-as, asked-done, asked-waits, asked-sends, asked-again, asked-for}

-- ---- which call an operation waits for

abbrev pub StepOn : OpeningPhase → List ℕ → Call → Type 0
StepOn opening_steps.Look dir call = IsOn dir call
StepOn opening_steps.Make dir call = IsOn dir call
StepOn opening_steps.Find dir call = IsOn dir call
StepOn (opening_steps.Ask file) dir call = IsOn file call

abbrev pub OpeningOn : Opening → Call → Type 0
OpeningOn o call = StepOn o.step o.dir call

abbrev pub ReadOn : Option Reading → Call → Type 0
ReadOn None call = Unit {0}
ReadOn (Some r) call = IsOn r.file call

abbrev pub SaveOn : Saving → Call → Type 0
SaveOn s call = IsOn s.file call

abbrev pub WriteOn : Writing → Call → Type 0
WriteOn writing.Idle call = Unit {0}
WriteOn (writing.Room file saving) call = SaveOn saving call

abbrev pub SyncOn : Syncing → Call → Type 0
SyncOn syncing.Idle call = Unit {0}
SyncOn (syncing.Saves saving) call = SaveOn saving call

abbrev pub CloseOn : Closing → Call → Type 0
CloseOn closing.Idle call = Unit {0}
CloseOn (closing.Queued saving) call = Unit {0}
CloseOn (closing.Saves saving) call = SaveOn saving call
CloseOn (closing.ToRemove removal) call = Unit {0}
CloseOn (closing.Removing removal) call = IsOn removal.dir call

abbrev pub TruncateOn : Truncating → Call → Type 0
TruncateOn truncating.Idle call = Unit {0}
TruncateOn (truncating.Queued file upto) call = Unit {0}
TruncateOn (truncating.Asked file upto) call = IsOn file call

abbrev pub PutOn : Putting → Opening → Writing → Call → Type 0
PutOn putting.Idle o write call = Unit {0}
PutOn putting.Opens o write call = OpeningOn o call
PutOn (putting.Adds file) o write call = WriteOn write call
PutOn (putting.Saves saving) o write call = SaveOn saving call

abbrev pub FileAsks : FileMachine → Call → Type 0
FileAsks (files.Open m) call = OpeningOn m.opening call
FileAsks (files.Read m) call = ReadOn m.reading call
FileAsks (files.Write m) call = WriteOn m.state call
FileAsks (files.Sync m) call = SyncOn m.state call
FileAsks (files.Close m) call = CloseOn m.state call
FileAsks (files.Truncate m) call = TruncateOn m.state call
FileAsks (files.Put m) call = PutOn m.state m.opening m.write.state call

-- ---- openings

abbrev pub OpeningAsked : OpeningStep → Opening → Type 0
OpeningAsked (openings.Send call) o = OpeningOn o call
OpeningAsked openings.Wait o = Unit {0}
OpeningAsked (openings.Ended result) o = Unit {0}

step-on : (step : OpeningPhase) (o : Opening) → StepOn step o.dir (opening.call_of o step)
step-on opening_steps.Look o = refl
step-on opening_steps.Make o = refl
step-on opening_steps.Find o = refl
step-on (opening_steps.Ask file) o = refl

opening-if : (b : Bool) (o : Opening) → OpeningAsked (if b then openings.Wait else openings.Send (opening.call_of o o.step)) (if b then o else record o { asked = true })
opening-if true o = tt
opening-if false o = step-on o.step o

opening-goes : (o : Opening) (turn : Turn) → OpeningAsked (opening.go_next o turn) (opening.go_after o turn)
opening-goes o turn = opening-if (o.asked || not turn.room) o

opening-took : (again : Bool) (o : Opening) (sent turn : Turn) (led : Led) (step : OpeningStep) (old new : Pages) → opening.LedIf again o sent turn led step old new
    → OpeningAsked step (opening.opening_after again o turn led)
opening-took true o sent turn led step old new l = subst (λ n. OpeningAsked n (opening.counted o)) (sym l.0) (step-on o.step o)
opening-took false o sent turn (leads.Goes to) step old new l =
    subst (λ n. OpeningAsked n (opening.go_after (opening.at_step o to) turn)) (sym l.0) (opening-goes (opening.at_step o to) turn)
opening-took false o sent turn (leads.Opens file attr) (openings.Ended result) old new l = tt
opening-took false o sent turn (leads.Opens file attr) (openings.Send call) old new l = absurd l
opening-took false o sent turn (leads.Opens file attr) openings.Wait old new l = absurd l
opening-took false o sent turn (leads.Knows file stamp) (openings.Ended result) old new l = tt
opening-took false o sent turn (leads.Knows file stamp) (openings.Send call) old new l = absurd l
opening-took false o sent turn (leads.Knows file stamp) openings.Wait old new l = absurd l
opening-took false o sent turn (leads.Ends fault) step old new l = subst (λ n. OpeningAsked n o) (sym l.0) tt

-- a step of the opening as one of an operation
opening-asks : {S : Type 0} → (E : S → Call → Type 0) (step : OpeningStep) (next : Step) (o : Opening) (new : S) → ((call : Call) → OpeningOn o call → E new call)
    → next ≡ opens.goes_as step → OpeningAsked step o → AskedOf E next new
opening-asks E (openings.Send call) next o new on is a = asked-sends E call next new is (on call a)
opening-asks E openings.Wait next o new on is a = asked-waits E next new is
opening-asks E (openings.Ended (Ok file)) next o new on is a = asked-done E (answers.Done _) next new is
opening-asks E (openings.Ended (Err fault)) next o new on is a = asked-done E (answers.Refused fault) next new is

-- ---- opens

abbrev pub OpenOn : OpenFile → Call → Type 0
OpenOn m call = OpeningOn m.opening call

open-starts : (b : Bool) (m : OpenFile) (turn : Turn) (next : Step)
    → next ≡ (if b then opens.refused faults.Slot else opens.goes_as (opening.go_next (opens.begun m turn).opening turn))
    → AskedOf OpenOn next (if b then m else opens.gone (opens.begun m turn) turn)
open-starts true m turn next is = asked-done OpenOn (answers.Refused faults.Slot) next m is
open-starts false m turn next is =
    opening-asks OpenOn (opening.go_next (opens.begun m turn).opening turn) next (opening.go_after (opens.begun m turn).opening turn) (opens.gone (opens.begun m turn) turn) (λ call on. on) is
    (opening-goes (opens.begun m turn).opening turn)

puts-open : (other : Option Opened) (place : Place) (of : Opened) (next : Step) (old new : Opens) (state : OpenFile) → opens.PutsOver other place of next old new → AskedOf OpenOn next state
puts-open (Some other) place of next old new state p = asked-done OpenOn (answers.Refused faults.Slot) next state p.0
puts-open None place of next old new state (inl p) = asked-done OpenOn (answers.Done _) next state p.0
puts-open None place of next old new state (inr p) = asked-done OpenOn (answers.Refused faults.Memory) next state p.0

open-follows : (m : OpenFile) (step : OpeningStep) (next : Step) (old new : Opens) (state : OpenFile) → opens.Follows m step next old new → OpeningAsked step state.opening
    → AskedOf OpenOn next state
open-follows m (openings.Send call) next old new state f a = asked-sends OpenOn call next state f.0 a
open-follows m openings.Wait next old new state f a = asked-waits OpenOn next state f.0
open-follows m (openings.Ended (Ok file)) next old new state f a =
    puts-open (finite.get old (opens.place_of m)) (opens.place_of m) (opens.opened_of m.opening file) next old new state f
open-follows m (openings.Ended (Err fault)) next old new state f a = asked-done OpenOn (answers.Refused fault) next state f.0

-- ---- reads

abbrev pub PartOn : Reading → Call → Type 0
PartOn r call = IsOn r.file call

asked-on : (b : Bool) (s : reading.State)
    → PartOn (if b then record { reading = record s.reading { phase = phases.AskedAttrs }; pages = s.pages } else reading.asked_part s).reading
    (if b then reading.attrs_call s.reading.file else reading.read_call s)
asked-on true s = refl
asked-on false s = refl

stays-read : (p : ReadPhase) (r : Reading) (back : Pending) (next : Step) (new : Reading) → reading.Stays p r back next → AskedOf PartOn next new
stays-read phases.Attrs r back next new s = asked-waits PartOn next new s
stays-read phases.AskedAttrs r back next new s = asked-waits PartOn next new s
stays-read phases.Pages r back next new s = asked-waits PartOn next new s
stays-read phases.Rest r back next new s = asked-waits PartOn next new s
stays-read (phases.Asked count) r back next new s = asked-waits PartOn next new s
stays-read phases.Ended r back next new s = asked-done PartOn _ next new s

goes-if : (b : Bool) (back : Pending) (s : reading.State) (next : Step) → reading.GoesIf b back s next
    → AskedOf PartOn next (if b then reading.asked s else record { reading = reading.answered s.reading.phase s.reading; pages = s.pages }).reading
goes-if true back s next g = asked-sends PartOn (reading.asked_call s) next (reading.asked s).reading g (asked-on (reading.asks_attrs s.reading.phase) s)
goes-if false back s next g = stays-read s.reading.phase s.reading back next (reading.answered s.reading.phase s.reading) g

goes-read : (room : Bool) (back : Pending) (s : reading.State) (next : Step) → reading.Goes room back s next → AskedOf PartOn next (reading.gone room s).reading
goes-read room back s next g = goes-if (room && reading.wants s.reading.phase) back s next g

abbrev pub ReadFileOn : ReadFile → Call → Type 0
ReadFileOn m call = ReadOn m.reading call

goes-from : (room : Bool) (m : ReadFile) (back : Pending) (s : reading.State) (next : Step) (new : ReadFile) (later : Pages) → reads.GoesFrom room m back s next new later
    → AskedOf ReadFileOn next new
goes-from room m back s next new later g =
    subst (λ k. AskedOf ReadFileOn next k) (sym g.machine)
    (asked-for PartOn ReadFileOn next (reading.gone room s).reading (record m { reading = Some (reading.gone room s).reading }) (λ call on. on) (goes-read room back s next g.step))

starts-with : (begun : Result Reading Fault) (room : Bool) (m : ReadFile) (pages : Pages) (back : Pending) (next : Step) (new : ReadFile) (later : Pages)
    → reads.StartsWith begun room m pages back next new later → AskedOf ReadFileOn next new
starts-with (Err fault) room m pages back next new later s = asked-done ReadFileOn (answers.Refused fault) next new s.step
starts-with (Ok r) room m pages back next new later s = goes-from room m back (reading.settled r pages) next new later s

read-resumes : (of : Option Reading) (room : Bool) (m : ReadFile) (pages : Pages) (back : Pending) (next : Step) (new : ReadFile) (later : Pages)
    → reads.ResumesIn of room m pages back next new later → AskedOf ReadFileOn next new
read-resumes None room m pages back next new later s = asked-waits ReadFileOn next new s.step
read-resumes (Some r) room m pages back next new later s = goes-from room m back (reading.settled r pages) next new later s

abbrev pub StateOn : reading.State → Call → Type 0
StateOn s call = PartOn s.reading call

again-read : (again : Bool) (call : Call) (fault : Fault) (r : Reading) (pages : Pages) (next : Step) (new : reading.State) → PartOn r call
    → next ≡ reading.again_next again call fault → new ≡ record { reading = r; pages = pages } → AskedOf StateOn next new
again-read again call fault r pages next new on is state = asked-again StateOn again call (answers.Refused fault) next new is (subst (λ s. StateOn s call) (sym state) on)

from-settled : (room : Bool) (back : Pending) (r : Reading) (pages : Pages) (next : Step) (new : reading.State) → reading.Goes room back (reading.settled r pages) next
    → new ≡ reading.gone room (reading.settled r pages) → AskedOf StateOn next new
from-settled room back r pages next new g is =
    subst (λ s. AskedOf StateOn next s) (sym is)
    (asked-for PartOn StateOn next (reading.gone room (reading.settled r pages)).reading (reading.gone room (reading.settled r pages)) (λ call on. on)
    (goes-read room back (reading.settled r pages) next g))

opened-read : (result : Result (Unit {0}) memory.Memory) (turn : Turn) (r : Reading) (pages : Pages) (back : Pending) (next : Step) (new : reading.State)
    → reading.AfterOpened result turn r pages back next new → AskedOf StateOn next new
opened-read (Ok done) turn r pages back next new a = from-settled turn.room back (record r { phase = phases.Pages }) pages next new a.0 a.1
opened-read (Err no_memory) turn r pages back next new a = asked-done StateOn (answers.Refused faults.Memory) next new a.0

attrs-read : (told : Result Attr Fault) (again : Bool) (sent turn : Turn) (r : Reading) (pages : Pages) (back : Pending) (next : Step) (new : reading.State)
    → reading.TakesAttrs again told sent turn r pages back next new → AskedOf StateOn next new
attrs-read (Ok attr) again sent turn r pages back next new t = opened-read t.result turn r t.later back next new t.goes
attrs-read (Err fault) again sent turn r pages back next new t = again-read again (reading.attrs_call r.file) fault r pages next new refl t.0 t.1

part-read : (said : Said) (again : Bool) (sent turn : Turn) (r : Reading) (pages : Pages) (back : Pending) (next : Step) (new : reading.State)
    → reading.Tells again sent turn said r pages back next → new ≡ reading.told sent turn said r pages → AskedOf StateOn next new
part-read (part attr eof bytes) again sent turn r pages back next new t state = from-settled turn.room back (reading.added (reading.count_of r.phase) eof bytes r) _ next new t state
part-read (refusal attr fault) again sent turn r pages back next new t state = again-read again (reading.part_call r) fault r pages next new refl t state

heard-read : (said : Option Said) (sent turn : Turn) (repeats : List Repeat) (r : Reading) (pages : Pages) (back : Pending) (next : Step) (new : reading.State)
    → reading.TakesPart said sent turn repeats r pages back next new → AskedOf StateOn next new
heard-read None sent turn repeats r pages back next new t = asked-waits StateOn next new t.0
heard-read (Some said) sent turn repeats r pages back next new t = part-read said _ sent turn r pages back next new t.0 t.1

takes-read : (waits : Bool) (sent turn : Turn) (came : Result Reply Fault) (repeats : List Repeat) (r : Reading) (pages : Pages) (back : Pending) (next : Step) (new : reading.State)
    → reading.TakesIf waits sent turn came repeats r pages back next new → AskedOf StateOn next new
takes-read true sent turn came repeats r pages back next new t = attrs-read (got_by came) _ sent turn r pages back next new t
takes-read false sent turn came repeats r pages back next new t = heard-read (reading.heard r.phase came) sent turn repeats r pages back next new t

read-takes : (of : Option Reading) (sent turn : Turn) (came : Result Reply Fault) (repeats : List Repeat) (m : ReadFile) (pages : Pages) (back : Pending) (next : Step)
    (new : ReadFile) (later : Pages) → reads.TakesIn of sent turn came repeats m pages back next new later → AskedOf ReadFileOn next new
read-takes None sent turn came repeats m pages back next new later t = asked-waits ReadFileOn next new t.step
read-takes (Some r) sent turn came repeats m pages back next new later t =
    subst (λ k. AskedOf ReadFileOn next k) (sym t.machine)
    (asked-for StateOn ReadFileOn next t.state (record m { reading = Some t.state.reading }) (λ call on. on)
    (takes-read (reading.waits_attrs r.phase) sent turn came repeats r pages back next t.state t.step))

-- ---- saves

-- a step of a save, as one of an operation: it stays that of its file, for which it asks
pub record Saved (s : Saving) (next : Step) (new : Saving) : Type 0 where
  pub file : new.file ≡ s.file
  pub asks : AskedOf SaveOn next new

leads-saved : (s : Saving) (to : _) (state : Saving) (gives : _) (new : Saving) → saves.Leads to state gives new → Saved s (syncs.sync_next to) state → Saved s (syncs.sync_next gives) new
leads-saved s to state gives new l k =
    subst (λ g. Saved s (syncs.sync_next g) new) (sym l.gives_next) (subst (λ (t : Saving). Saved s (syncs.sync_next to) t) (sym l.keeps) k)

refused-saved : (s : Saving) (fault : Fault) → Saved s (syncs.sync_next (saves.refused_next s.waiting fault)) s
refused-saved s fault = by (s.waiting == 0) refl
  where
    by : (b : Bool) → (s.waiting == 0) ≡ b → Saved s (syncs.sync_next (saves.refused_next s.waiting fault)) s
    by true e = record { file = refl; asks = (rw e tt) }
    by false e = record { file = refl; asks = (rw e tt) }

sent-saved : (by_reply : Bool) (s : Saving) → Saved s (syncs.sync_next (saves.next_sent by_reply s)) (saves.saving_sent by_reply s)
sent-saved by_reply s = by (nat_lt 0 s.waiting) (saves.is_again s.phase && by_reply) refl refl
  where
    by : (lt done : Bool) → nat_lt 0 s.waiting ≡ lt → (saves.is_again s.phase && by_reply) ≡ done → Saved s (syncs.sync_next (saves.next_sent by_reply s)) (saves.saving_sent by_reply s)
    by true done is ends = rw is (record { file = refl; asks = tt })
    by false true is ends = rw (is, ends) (record { file = refl; asks = tt })
    by false false is ends = rw (is, ends) (record { file = refl; asks = refl })

-- seen from a save of the same file
from-saved : (was s : Saving) (next : Step) (new : Saving) → s.file ≡ was.file → Saved s next new → Saved was next new
from-saved was s next new file k = record { file = k.file ∙ file; asks = k.asks }

module _ (wsize xid : ℕ) (room by_reply : Bool) where
  sends-saved : (run : Segments) (s : Saving) (back : Pending) (gives : _) (new : Saving) (after : Pending) → saves.Sends xid by_reply run s back gives new after
      → Saved s (syncs.sync_next gives) new
  sends-saved run s back gives new after (inr l) = leads-saved s (saves.refused_next s.waiting faults.Memory) s gives new l.0 (refused-saved s faults.Memory)
  sends-saved [] s back gives new after (inl l) = leads-saved s (saves.next_sent by_reply s) (saves.saving_sent by_reply s) gives new l.0 (sent-saved by_reply s)
  sends-saved (e ∷ es) s back gives new after (inl l) = leads-saved s _ (record s { waiting = s.waiting + 1 }) gives new l.0 (record { file = refl; asks = refl })

  sends-if : (b : Bool) (run : Segments) (s : Saving) (back : Pending) (gives : _) (new : Saving) (after : Pending) → saves.SendsIf b xid by_reply run s back gives new after
      → Saved s (syncs.sync_next gives) new
  sends-if true run s back gives new after l = sends-saved run s back gives new after l
  sends-if false run s back gives new after l = leads-saved s _ s gives new l.0 (record { file = refl; asks = tt })

  goes-over : (refusal : Option Fault) (s : Saving) (back : Pending) (gives : _) (new : Saving) (after : Pending) → saves.GoesOver refusal wsize xid room by_reply s back gives new after
      → Saved s (syncs.sync_next gives) new
  goes-over (Some fault) s back gives new after g = leads-saved s (saves.refused_next s.waiting fault) s gives new g.0 (refused-saved s fault)
  goes-over None s back gives new after g = sends-if (saves.may_send room s) (chosen s.upto wsize (of_pending s.file back)) s back gives new after g

  goes-saved : (s : Saving) (back : Pending) (gives : _) (new : Saving) (after : Pending) → saves.Goes wsize xid room by_reply s back gives new after → Saved s (syncs.sync_next gives) new
  goes-saved s back gives new after g = goes-over s.refusal s back gives new after g

refused-file : (refusal : Option Fault) (s : Saving) → (saves.refused_by refusal s).file ≡ s.file
refused-file None s = refl
refused-file (Some fault) s = refl

takes-write : (wsize asked xid : ℕ) (room : Bool) (told : _) (was s : Saving) (back : Pending) (gives : _) (new : Saving) (after : Pending) → s.file ≡ was.file
    → saves.TakesWrite wsize asked xid room told s back gives new after → Saved was (syncs.sync_next gives) new
takes-write wsize asked xid room told was s back gives new after file t =
    from-saved was (saves.refused_by t.refusal s) (syncs.sync_next gives) new (refused-file t.refusal s ∙ file)
    (goes-saved wsize xid room t.counts (saves.refused_by t.refusal s) t.between gives new after t.goes)

repeats-saved : (again : Bool) (wsize : ℕ) (sent turn : Turn) (told : _) (s : Saving) (back : Pending) (gives : _) (new : Saving) (after : Pending)
    → saves.RepeatsWrite again wsize sent turn told s back gives new after → Saved s (syncs.sync_next gives) new
repeats-saved true wsize sent turn told s back gives new after r = leads-saved s _ s gives new r.0 (record { file = refl; asks = refl })
repeats-saved false wsize sent turn told s back gives new after r = takes-write wsize sent.xid turn.xid turn.room told s (saves.less_waiting s) back gives new after refl r

told-saved : (busy : Bool) (wsize : ℕ) (sent turn : Turn) (told : _) (repeats : List Repeat) (s : Saving) (back : Pending) (gives : _) (new : Saving) (after : Pending)
    (later : List Repeat) → saves.TakesToldIf busy wsize sent turn told repeats s back gives new after later → Saved s (syncs.sync_next gives) new
told-saved true wsize sent turn told repeats s back gives new after later (inl t) = repeats-saved (goes_again true sent turn repeats) wsize sent turn told s back gives new after t.0
told-saved true wsize sent turn told repeats s back gives new after later (inr t) =
    takes-write wsize sent.xid turn.xid turn.room _ s (saves.less_waiting s) back gives new after refl t.0
told-saved false wsize sent turn told repeats s back gives new after later t = takes-write wsize sent.xid turn.xid turn.room told s (saves.less_waiting s) back gives new after refl t.0

decides-saved : (verdict : Verdict) (wsize xid : ℕ) (room : Bool) (was s : Saving) (back : Pending) (gives : _) (new : Saving) (after : Pending) → s.file ≡ was.file
    → saves.Decides verdict wsize xid room s back gives new after → Saved was (syncs.sync_next gives) new
decides-saved AllStable wsize xid room was s back gives new after file d = leads-saved was _ s gives new d.0 (record { file = file; asks = tt })
decides-saved (SendAgain count) wsize xid room was s back gives new after file d =
    from-saved was (record s { phase = Resending }) (syncs.sync_next gives) new file (goes-saved wsize xid room false (record s { phase = Resending }) back gives new after d)

commit-saved : (told : Result Verf Fault) (wsize xid : ℕ) (room : Bool) (was s : Saving) (back : Pending) (gives : _) (new : Saving) (after : Pending) → s.file ≡ was.file
    → saves.TakesCommit wsize xid room told s back gives new after → Saved was (syncs.sync_next gives) new
commit-saved (Ok verf) wsize xid room was s back gives new after file t = decides-saved _ wsize xid room was s t.between gives new after file t.goes
commit-saved (Err fault) wsize xid room was s back gives new after file t = leads-saved was _ s gives new t.0 (record { file = file; asks = tt })

first-saved : (again : Bool) (told : Result Verf Fault) (wsize : ℕ) (turn : Turn) (s : Saving) (back : Pending) (gives : _) (new : Saving) (after : Pending)
    → saves.TakesFirst again wsize turn told s back gives new after → Saved s (syncs.sync_next gives) new
first-saved true told wsize turn s back gives new after t = leads-saved s _ (saves.put_off_more s) gives new t.0 (record { file = refl; asks = refl })
first-saved false told wsize turn s back gives new after t = commit-saved told wsize turn.xid turn.room s (saves.less_waiting s) back gives new after refl t

last-saved : (again : Bool) (told : Result Verf Fault) (s : Saving) → Saved s (syncs.sync_next (saves.last_next again told s)) (saves.last_saving again s)
last-saved true told s = record { file = refl; asks = refl }
last-saved false (Ok verf) s = record { file = refl; asks = tt }
last-saved false (Err fault) s = record { file = refl; asks = tt }

takes-in : (phase : Phase) (wsize : ℕ) (sent turn : Turn) (came : Result Reply Fault) (repeats : List Repeat) (s : Saving) (back : Pending) (gives : _) (new : Saving) (after : Pending)
    (later : List Repeat) → saves.TakesIn phase wsize sent turn came repeats s back gives new after later → Saved s (syncs.sync_next gives) new
takes-in Sending wsize sent turn came repeats s back gives new after later t = told-saved _ wsize sent turn _ repeats s back gives new after later t
takes-in Resending wsize sent turn came repeats s back gives new after later t = told-saved _ wsize sent turn _ repeats s back gives new after later t
takes-in Committing wsize sent turn came repeats s back gives new after later t =
    first-saved (saves.commit_again (commit_told came) sent turn repeats s) (commit_told came) wsize turn s back gives new after t.0
takes-in CommittingAgain wsize sent turn came repeats s back gives new after later t =
    let again = saves.commit_again (commit_told came) sent turn repeats s in
    leads-saved s (saves.last_next again (commit_told came) s) (saves.last_saving again s) gives new t.0 (last-saved again (commit_told came) s)

takes-saved : (wsize : ℕ) (sent turn : Turn) (came : Result Reply Fault) (repeats : List Repeat) (s : Saving) (back : Pending) (gives : _) (new : Saving) (after : Pending)
    (later : List Repeat) → saves.Takes wsize sent turn came repeats s back gives new after later → Saved s (syncs.sync_next gives) new
takes-saved wsize sent turn came repeats s back gives new after later t = takes-in s.phase wsize sent turn came repeats s back gives new after later t

-- ---- a step of an operation that may have several calls

-- Of the calls that wait besides, as many as `others`, this was known; it stays so as long as the operation goes on.
abbrev pub Keeps : {S : Type 0} → (S → Call → Type 0) → (Call → Type 0) → ℕ → Step → S → Type 0
Keeps E Old others (nexts.Send call) new = 1 ≤ others → (c : Call) → Old c → E new c
Keeps E Old others nexts.Wait new = 1 ≤ others → (c : Call) → Old c → E new c
Keeps E Old others (nexts.Done answer) new = Unit {0}

pub record Asking {S : Type 0} (E : S → Call → Type 0) (Old : Call → Type 0) (others : ℕ) (next : Step) (new : S) : Type 0 where
  pub asked : AskedOf E next new
  pub kept : Keeps E Old others next new

-- none waits besides
pub alone : {S : Type 0} → (E : S → Call → Type 0) (Old : Call → Type 0) (others : ℕ) (next : Step) (new : S) → others ≡ 0 → AskedOf E next new → Asking E Old others next new
alone E Old others (nexts.Send call) new none a = record { asked = a; kept = λ some. absurd (omega (arith, none, some)) }
alone E Old others nexts.Wait new none a = record { asked = a; kept = λ some. absurd (omega (arith, none, some)) }
alone E Old others (nexts.Done answer) new none a = record { asked = a; kept = tt }

pub asking-as : {S : Type 0} → (E : S → Call → Type 0) (Old : Call → Type 0) (others : ℕ) (to next : Step) (state new : S) → next ≡ to → new ≡ state → Asking E Old others to state
    → Asking E Old others next new
asking-as E Old others to next state new is at a = subst (λ n. Asking E Old others n new) (sym is) (subst (λ s. Asking E Old others to s) (sym at) a)

pub asking-done : {S : Type 0} → (E : S → Call → Type 0) (Old : Call → Type 0) (others : ℕ) (answer : Answer) (next : Step) (new : S) → next ≡ nexts.Done answer → Asking E Old others next new
asking-done E Old others answer next new is = subst (λ n. Asking E Old others n new) (sym is) (record { asked = tt; kept = tt })

pub asking-for : {S T : Type 0} → (E : S → Call → Type 0) (F : T → Call → Type 0) (Old : Call → Type 0) (others : ℕ) (next : Step) (s : S) (t : T) → ((call : Call) → E s call → F t call)
    → Asking E Old others next s → Asking F Old others next t
asking-for E F Old others (nexts.Send call) s t same a = record { asked = same call a.asked; kept = λ some c old. same c (a.kept some c old) }
asking-for E F Old others nexts.Wait s t same a = record { asked = tt; kept = λ some c old. same c (a.kept some c old) }
asking-for E F Old others (nexts.Done answer) s t same a = record { asked = tt; kept = tt }

module _ (Old : Call → Type 0) (others : ℕ) where
  -- the calls of the save, as far as any wait
  abbrev pub OldOf : Saving → Type 0
  OldOf s = 1 ≤ others → (c : Call) → Old c → SaveOn s c

  moved : (s new : Saving) → new.file ≡ s.file → OldOf s → OldOf new
  moved s new file old some c was = old some c was ∙ ap Some (sym file)

  -- ---- writes

  write-leads : (to : Step) (state : Writing) (shelf : Shelf) (next : Step) (new : Writing) (after : Shelf) → writes.Leads to state shelf next new after
      → Asking WriteOn Old others to state → Asking WriteOn Old others next new
  write-leads to state shelf next new after l a = asking-as WriteOn Old others to next state new l.gives_next l.keeps a

  write-room : (told : _) (file : List ℕ) (s saved : Saving) → OldOf s → SaveCounts told others (of_saving saved) → Saved s (syncs.sync_next told) saved
      → Asking WriteOn Old others (writes.room_next told) (writes.room_state told file saved)
  write-room told file s saved old c k = by-step
      (λ g. SaveCounts g others (of_saving saved) → Saved s (syncs.sync_next g) saved → Asking WriteOn Old others (writes.room_next g) (writes.room_state g file saved))
      (λ call n t. record { asked = t.asks; kept = moved s saved t.file old })
      (λ n t. record { asked = tt; kept = moved s saved t.file old })
      ended told c k
    where
      ended : (result : Result (Unit {0}) Fault) → SaveCounts (ends_as result) others (of_saving saved) → Saved s (syncs.sync_next (ends_as result)) saved
          → Asking WriteOn Old others (writes.room_next (ends_as result)) (writes.room_state (ends_as result) file saved)
      ended (Ok done) n t = record { asked = tt; kept = moved s saved t.file old }
      ended (Err fault) n t = record { asked = tt; kept = tt }

  write-saves : (b : Bool) (wsize lane : ℕ) (file : List ℕ) (s : Saving) (turn : Turn) (shelf : Shelf) (next : Step) (new : Writing) (after : Shelf) → of_saving s ≡ others → OldOf s
      → writes.SavesIf b wsize lane file s turn shelf next new after → Asking WriteOn Old others next new
  write-saves true wsize lane file s turn shelf next new after count old k =
      write-leads (writes.room_next k.told) (writes.room_state k.told file k.saved) _ next new after k.leads
      (write-room k.told file s k.saved old
      (subst (λ n. SaveCounts k.told n (of_saving k.saved)) count (save-goes wsize turn.xid turn.room false s shelf.back k.told k.saved k.back k.goes))
      (goes-saved wsize turn.xid turn.room false s shelf.back k.told k.saved k.back k.goes))
  write-saves false wsize lane file s turn shelf next new after count old k = write-leads nexts.Wait (writing.Room file s) shelf next new after k (record { asked = tt; kept = old })

  write-refuses : (fault : Fault) (shelf : Shelf) (next : Step) (new : Writing) (after : Shelf) → writes.Refuses fault shelf next new after → Asking WriteOn Old others next new
  write-refuses fault shelf next new after l = write-leads (nexts.Done (answers.Refused fault)) writing.Idle shelf next new after l (record { asked = tt; kept = tt })

  write-writes : (b : Bool) (wsize lane : ℕ) (file : List ℕ) (offset : ℕ) (bytes : List ℕ) (turn : Turn) (shelf : Shelf) (next : Step) (new : Writing) (after : Shelf) → others ≡ 0
      → writes.WritesIf b wsize lane file offset bytes turn shelf next new after → Asking WriteOn Old others next new
  write-writes true wsize lane file offset bytes turn shelf next new after none (inl s) =
      write-saves (is_first lane (joined lane s.of shelf).order) wsize lane file (saves.begun s.of shelf.seq) turn (joined lane s.of shelf) next new after (sym none)
      (λ some. absurd (omega (arith, none, some))) s.saves
  write-writes true wsize lane file offset bytes turn shelf next new after none (inr s) = write-refuses faults.Memory shelf next new after s.1
  write-writes false wsize lane file offset bytes turn shelf next new after none (inl a) =
      write-leads (nexts.Done (answers.Done _)) writing.Idle _ next new after a.leads (record { asked = tt; kept = tt })
  write-writes false wsize lane file offset bytes turn shelf next new after none (inr s) = write-refuses faults.Memory shelf next new after s

  write-starts : (found : Result (List ℕ) Fault) (wsize : ℕ) (m : WriteFile) (turn : Turn) (shelf : Shelf) (next : Step) (new : WriteFile) (after : Shelf) → others ≡ 0
      → writes.StartsAt found wsize m turn shelf next new after → Asking WriteOn Old others next new.state
  write-starts (Err fault) wsize m turn shelf next new after none s = write-refuses fault shelf next new.state after s.refuses
  write-starts (Ok file) wsize m turn shelf next new after none (inl s) =
      write-writes (is_full (writes.text_bytes m.text) shelf.back) wsize m.lane file m.offset (writes.text_bytes m.text) turn shelf next new.state after none s.writes
  write-starts (Ok file) wsize m turn shelf next new after none (inr s) = write-refuses faults.Memory shelf next new.state after s.refuses

  write-resumes : (at : Writing) (wsize lane : ℕ) (turn : Turn) (shelf : Shelf) (next : Step) (new : Writing) (after : Shelf) → (1 ≤ others → (c : Call) → Old c → WriteOn at c)
      → of_writing at ≡ others → writes.ResumesIn at wsize lane turn shelf next new after → Asking WriteOn Old others next new
  write-resumes writing.Idle wsize lane turn shelf next new after old count r = write-leads nexts.Wait writing.Idle shelf next new after r (record { asked = tt; kept = λ some c was. tt })
  write-resumes (writing.Room file s) wsize lane turn shelf next new after old count r =
      write-saves (is_first lane shelf.order) wsize lane file s turn shelf next new after count old r

  write-follows : (told : _) (wsize : ℕ) (m : WriteFile) (file : List ℕ) (s saved : Saving) (turn : Turn) (shelf : Shelf) (next : Step) (new : Writing) (after : Shelf) → OldOf s
      → SaveCounts told others (of_saving saved) → Saved s (syncs.sync_next told) saved → writes.Follows told wsize m file saved turn shelf next new after → Asking WriteOn Old others next new
  write-follows told wsize m file s saved turn shelf next new after old c k f = by-step
      (λ g. SaveCounts g others (of_saving saved) → Saved s (syncs.sync_next g) saved → writes.Follows g wsize m file saved turn shelf next new after → Asking WriteOn Old others next new)
      (λ call n t l. write-leads (nexts.Send call) (writing.Room file saved) shelf next new after l (record { asked = t.asks; kept = moved s saved t.file old }))
      (λ n t l. write-leads nexts.Wait (writing.Room file saved) shelf next new after l (record { asked = tt; kept = moved s saved t.file old }))
      ended told c k f
    where
      ended : (result : Result (Unit {0}) Fault) → SaveCounts (ends_as result) others (of_saving saved) → Saved s (syncs.sync_next (ends_as result)) saved
          → writes.Follows (ends_as result) wsize m file saved turn shelf next new after → Asking WriteOn Old others next new
      ended (Ok done) n t l =
          write-writes (is_full (writes.made_bytes m.text) shelf.back) wsize m.lane file m.offset (writes.made_bytes m.text) turn (record shelf { order = left m.lane shelf.order }) next new after n.0 l
      ended (Err fault) n t l =
          write-leads (nexts.Done (answers.Refused fault)) writing.Idle (record shelf { order = left m.lane shelf.order }) next new after l (record { asked = tt; kept = tt })

  write-takes : (at : Writing) (wsize : ℕ) (m : WriteFile) (sent turn : Turn) (came : Result Reply Fault) (shelf : Shelf) (next : Step) (new : Writing) (after : Shelf)
      → (1 ≤ others → (c : Call) → Old c → WriteOn at c) → of_writing at ≡ others + 1
      → writes.TakesIn at wsize m sent turn came shelf next new after → Asking WriteOn Old others next new
  write-takes writing.Idle wsize m sent turn came shelf next new after old count t = write-leads nexts.Wait writing.Idle shelf next new after t (record { asked = tt; kept = λ some c was. tt })
  write-takes (writing.Room file s) wsize m sent turn came shelf next new after old count t =
      write-follows t.told wsize m file s t.saved turn _ next new after old
      (save-takes wsize sent turn came shelf.repeats s shelf.back t.told t.saved t.back t.repeats others count t.takes)
      (takes-saved wsize sent turn came shelf.repeats s shelf.back t.told t.saved t.back t.repeats t.takes) t.follows

  -- ---- syncs

  sync-as : (gives : _) (s saved : Saving) (next : Step) (state : Syncing) → OldOf s → Saved s (syncs.sync_next gives) saved → next ≡ syncs.sync_next gives
      → state ≡ syncs.sync_state gives saved → Asking SyncOn Old others next state
  sync-as gives s saved next state old k is at = by-step
      (λ g. Saved s (syncs.sync_next g) saved → next ≡ syncs.sync_next g → state ≡ syncs.sync_state g saved → Asking SyncOn Old others next state)
      (λ call t n e. asking-as SyncOn Old others (nexts.Send call) next (syncing.Saves saved) state n e (record { asked = t.asks; kept = moved s saved t.file old }))
      (λ t n e. asking-as SyncOn Old others nexts.Wait next (syncing.Saves saved) state n e (record { asked = tt; kept = moved s saved t.file old }))
      (λ result t n e. asking-done SyncOn Old others (syncs.answer_of result) next state n) gives k is at

  sync-queues : (b : Bool) (wsize lane : ℕ) (turn : Turn) (s : Saving) (old : Shelf) (next : Step) (state : Syncing) (new : Shelf) → OldOf s
      → syncs.QueuesIf b wsize lane turn s old next state new → Asking SyncOn Old others next state
  sync-queues true wsize lane turn s old next state new was q =
      sync-as q.gives s q.saved next state was (goes-saved wsize turn.xid turn.room false s old.back q.gives q.saved new.back q.goes) q.follows.next_is q.follows.state_is
  sync-queues false wsize lane turn s old next state new was q =
      asking-as SyncOn Old others nexts.Wait next (syncing.Saves s) state q.next_is q.state_is (record { asked = tt; kept = was })

  sync-starts : (found : Option (List ℕ)) (wsize : ℕ) (m : SyncFile) (turn : Turn) (old : Shelf) (next : Step) (state : Syncing) (new : Shelf) → others ≡ 0
      → syncs.StartsAt found wsize m turn old next state new → Asking SyncOn Old others next state
  sync-starts None wsize m turn old next state new none s = asking-done SyncOn Old others (answers.Refused faults.Slot) next state s.next_is
  sync-starts (Some file) wsize m turn old next state new none s =
      sync-queues (is_first m.lane (joined m.lane file old).order) wsize m.lane turn (saves.begun file old.seq) (joined m.lane file old) next state new (λ some. absurd (omega (arith, none, some))) s

  sync-resumes : (at : Syncing) (wsize : ℕ) (m : SyncFile) (turn : Turn) (old : Shelf) (next : Step) (state : Syncing) (new : Shelf) → (1 ≤ others → (c : Call) → Old c → SyncOn at c)
      → syncs.Resumes at wsize m turn old next state new → Asking SyncOn Old others next state
  sync-resumes syncing.Idle wsize m turn old next state new was r = asking-as SyncOn Old others nexts.Wait next syncing.Idle state r.next_is r.state_is (record { asked = tt; kept = λ some c o. tt })
  sync-resumes (syncing.Saves s) wsize m turn old next state new was r = sync-queues (is_first m.lane old.order) wsize m.lane turn s old next state new was r

  sync-takes : (at : Syncing) (wsize : ℕ) (m : SyncFile) (sent turn : Turn) (came : Result Reply Fault) (old : Shelf) (next : Step) (state : Syncing) (new : Shelf)
      → (1 ≤ others → (c : Call) → Old c → SyncOn at c) → syncs.Takes at wsize m sent turn came old next state new → Asking SyncOn Old others next state
  sync-takes syncing.Idle wsize m sent turn came old next state new was t =
      asking-as SyncOn Old others nexts.Wait next syncing.Idle state t.next_is t.state_is (record { asked = tt; kept = λ some c o. tt })
  sync-takes (syncing.Saves s) wsize m sent turn came old next state new was t =
      sync-as t.gives s t.saved next state was (takes-saved wsize sent turn came old.repeats s old.back t.gives t.saved new.back new.repeats t.takes) t.follows.next_is t.follows.state_is

  -- ---- closes

  close-to : (to : Step) (next : Step) (at state : Closing) → next ≡ to → state ≡ at → Asking CloseOn Old others to at → Asking CloseOn Old others next state
  close-to to next at state is same a = asking-as CloseOn Old others to next at state is same a

  close-asks : (room : Bool) (removal : Removal) (next : Step) (state : Closing) → others ≡ 0 → next ≡ closes.ask_next room removal → state ≡ closes.ask_state room removal
      → Asking CloseOn Old others next state
  close-asks true removal next state none is at =
      close-to (nexts.Send (remove_of removal)) next (closing.Removing removal) state is at
      (alone CloseOn Old others (nexts.Send (remove_of removal)) (closing.Removing removal) none refl)
  close-asks false removal next state none is at = close-to nexts.Wait next (closing.ToRemove removal) state is at (alone CloseOn Old others nexts.Wait (closing.ToRemove removal) none tt)

  close-ends-at : (place : Option (List ℕ × List ℕ)) (lane : ℕ) (room : Bool) (file : List ℕ) (why : Option Fault) (old : Shelf) (next : Step) (state : Closing) (new : Shelf) → others ≡ 0
      → closes.EndsAt place lane room file why old next state new → Asking CloseOn Old others next state
  close-ends-at None lane room file why old next state new none e = asking-done CloseOn Old others (closed_answer why) next state e.next_is
  close-ends-at (Some place) lane room file why old next state new none e = close-asks room _ next state none e.next_is e.state_is

  close-frees : (lane slot : ℕ) (room : Bool) (file : List ℕ) (why : Option Fault) (old : Shelf) (next : Step) (state : Closing) (new : Shelf) → others ≡ 0
      → closes.Frees lane slot room file why old next state new → Asking CloseOn Old others next state
  close-frees lane slot room file why old next state new none f = close-ends-at f.place lane room file why f.freed next state new none f.ends

  close-waits : (begun : Bool) (s : Saving) → OldOf s → (1 ≤ others → (c : Call) → Old c → CloseOn (closes.waits_as begun s) c)
  close-waits true s old some c was = old some c was
  close-waits false s old some c was = tt

  close-follows : (gives : _) (lane slot : ℕ) (room begun : Bool) (s saved : Saving) (old : Shelf) (next : Step) (state : Closing) (new : Shelf) → OldOf s
      → SaveCounts gives others (of_saving saved) → Saved s (syncs.sync_next gives) saved → closes.Follows gives lane slot room begun saved old next state new
      → Asking CloseOn Old others next state
  close-follows gives lane slot room begun s saved old next state new was c k f = by-step
      (λ g. SaveCounts g others (of_saving saved) → Saved s (syncs.sync_next g) saved → closes.Follows g lane slot room begun saved old next state new → Asking CloseOn Old others next state)
      (λ call n t l. close-to (nexts.Send call) next (closing.Saves saved) state l.0 l.1 (record { asked = t.asks; kept = moved s saved t.file was }))
      (λ n t l. close-to nexts.Wait next (closes.waits_as begun saved) state l.0 l.1 (record { asked = tt; kept = close-waits begun saved (moved s saved t.file was) }))
      (λ result n t l. close-frees lane slot room saved.file (refusal_of result) old next state new n.0 l) gives c k f

  close-goes : (wsize lane slot : ℕ) (turn : Turn) (begun : Bool) (s : Saving) (old : Shelf) (next : Step) (state : Closing) (new : Shelf) → of_saving s ≡ others → OldOf s
      → closes.GoesOn wsize lane slot turn begun s old next state new → Asking CloseOn Old others next state
  close-goes wsize lane slot turn begun s old next state new count was g =
      close-follows g.gives lane slot turn.room begun s g.saved g.gone next state new was
      (subst (λ n. SaveCounts g.gives n (of_saving g.saved)) count (save-goes wsize turn.xid turn.room false s old.back g.gives g.saved g.gone.back g.goes))
      (goes-saved wsize turn.xid turn.room false s old.back g.gives g.saved g.gone.back g.goes) g.follows

  close-begins : (end : Option ℕ) (wsize lane slot : ℕ) (turn : Turn) (s : Saving) (old : Shelf) (next : Step) (state : Closing) (new : Shelf) → others ≡ 0 → of_saving s ≡ 0
      → closes.Begins end wsize lane slot turn s old next state new → Asking CloseOn Old others next state
  close-begins None wsize lane slot turn s old next state new none count b = close-frees lane slot turn.room s.file None old next state new none b
  close-begins (Some end) wsize lane slot turn s old next state new none count b =
      close-goes wsize lane slot turn false s old next state new (count ∙ sym none) (λ some. absurd (omega (arith, none, some))) b

  close-queues : (b : Bool) (wsize lane slot : ℕ) (turn : Turn) (s : Saving) (old : Shelf) (next : Step) (state : Closing) (new : Shelf) → others ≡ 0 → of_saving s ≡ 0
      → closes.QueuesIf b wsize lane slot turn s old next state new → Asking CloseOn Old others next state
  close-queues true wsize lane slot turn s old next state new none count q = close-begins _ wsize lane slot turn s old next state new none count q
  close-queues false wsize lane slot turn s old next state new none count q =
      close-to nexts.Wait next (closing.Queued s) state q.next_is q.state_is (alone CloseOn Old others nexts.Wait (closing.Queued s) none tt)

  close-starts : (found : Option (List ℕ)) (wsize : ℕ) (m : CloseFile) (turn : Turn) (old : Shelf) (next : Step) (state : Closing) (new : Shelf) → others ≡ 0
      → closes.StartsAt found wsize m turn old next state new → Asking CloseOn Old others next state
  close-starts None wsize m turn old next state new none s = asking-done CloseOn Old others (answers.Refused faults.Slot) next state s.next_is
  close-starts (Some file) wsize m turn old next state new none s =
      close-queues (is_first m.lane (joined m.lane file old).order) wsize m.lane m.slot turn (saves.begun file old.seq) (joined m.lane file old) next state new none refl s

  close-on : (b : Bool) (wsize lane slot : ℕ) (turn : Turn) (s : Saving) (old : Shelf) (next : Step) (state : Closing) (new : Shelf) → of_saving s ≡ others → OldOf s
      → closes.GoesOnIf b wsize lane slot turn s old next state new → Asking CloseOn Old others next state
  close-on true wsize lane slot turn s old next state new count was g = close-goes wsize lane slot turn true s old next state new count was g
  close-on false wsize lane slot turn s old next state new count was g = close-to nexts.Wait next (closing.Saves s) state g.next_is g.state_is (record { asked = tt; kept = was })

  close-resumes : (at : Closing) (wsize : ℕ) (m : CloseFile) (turn : Turn) (old : Shelf) (next : Step) (state : Closing) (new : Shelf) → (1 ≤ others → (c : Call) → Old c → CloseOn at c)
      → of_closing at ≡ others → ClosingCounted at → closes.Resumes at wsize m turn old next state new → Asking CloseOn Old others next state
  close-resumes closing.Idle wsize m turn old next state new was count right r = close-to nexts.Wait next closing.Idle state r.next_is r.state_is (record { asked = tt; kept = λ some c o. tt })
  close-resumes (closing.Queued s) wsize m turn old next state new was count right r =
      close-queues (is_first m.lane old.order) wsize m.lane m.slot turn s old next state new (sym count) right r
  close-resumes (closing.Saves s) wsize m turn old next state new was count right r = close-on (is_first m.lane old.order) wsize m.lane m.slot turn s old next state new count was r
  close-resumes (closing.ToRemove removal) wsize m turn old next state new was count right r = close-asks turn.room removal next state (sym count) r.next_is r.state_is
  close-resumes (closing.Removing removal) wsize m turn old next state new was count right r =
      close-to nexts.Wait next (closing.Removing removal) state r.next_is r.state_is (record { asked = tt; kept = was })

  close-removed : (again : Bool) (lane : ℕ) (removal : Removal) (old : Shelf) (next : Step) (state : Closing) (new : Shelf) → others ≡ 0 → closes.EndsIf again lane removal old next state new
      → Asking CloseOn Old others next state
  close-removed true lane removal old next state new none e =
      close-to (nexts.Send (remove_of removal)) next (closing.Removing removal) state e.next_is e.state_is
      (alone CloseOn Old others (nexts.Send (remove_of removal)) (closing.Removing removal) none refl)
  close-removed false lane removal old next state new none e = asking-done CloseOn Old others (closed_answer removal.refusal) next state e.next_is

  close-takes : (at : Closing) (wsize : ℕ) (m : CloseFile) (sent turn : Turn) (came : Result Reply Fault) (old : Shelf) (next : Step) (state : Closing) (new : Shelf)
      → (1 ≤ others → (c : Call) → Old c → CloseOn at c) → of_closing at ≡ others + 1 → closes.Takes at wsize m sent turn came old next state new → Asking CloseOn Old others next state
  close-takes closing.Idle wsize m sent turn came old next state new was count t = absurd (omega (arith, count))
  close-takes (closing.Queued s) wsize m sent turn came old next state new was count t = absurd (omega (arith, count))
  close-takes (closing.Saves s) wsize m sent turn came old next state new was count t =
      close-follows t.gives m.lane m.slot turn.room true s t.saved t.took next state new was
      (save-takes wsize sent turn came old.repeats s old.back t.gives t.saved t.took.back t.took.repeats others count t.takes)
      (takes-saved wsize sent turn came old.repeats s old.back t.gives t.saved t.took.back t.took.repeats t.takes) t.follows
  close-takes (closing.ToRemove removal) wsize m sent turn came old next state new was count t = absurd (omega (arith, count))
  close-takes (closing.Removing removal) wsize m sent turn came old next state new was count t =
      close-removed (goes_again (remove_busy came) sent turn old.repeats) m.lane removal t.took next state new (omega (arith, count)) t.ends

  -- ---- puts

  put-to : (o : Opening) (write : Writing) (to next : Step) (at state : Putting) → next ≡ to → state ≡ at → Asking (λ s c. PutOn s o write c) Old others to at
      → Asking (λ s c. PutOn s o write c) Old others next state
  put-to o write to next at state is same a = asking-as (λ s c. PutOn s o write c) Old others to next at state is same a

  put-follows : (o : Opening) (write : Writing) (gives : _) (lane : ℕ) (s saved : Saving) (old : Shelf) (next : Step) (state : Putting) (new : Shelf) → OldOf s
      → Saved s (syncs.sync_next gives) saved → puts.Follows gives lane saved old next state new → Asking (λ p c. PutOn p o write c) Old others next state
  put-follows o write gives lane s saved old next state new was k f = by-step
      (λ g. Saved s (syncs.sync_next g) saved → puts.Follows g lane saved old next state new → Asking (λ p c. PutOn p o write c) Old others next state)
      (λ call t l. put-to o write (nexts.Send call) next (putting.Saves saved) state l.0 l.1 (record { asked = t.asks; kept = moved s saved t.file was }))
      (λ t l. put-to o write nexts.Wait next (putting.Saves saved) state l.0 l.1 (record { asked = tt; kept = moved s saved t.file was }))
      (λ result t l. asking-done (λ p c. PutOn p o write c) Old others (closed_answer (refusal_of result)) next state l.next_is) gives k f

  put-queues : (o : Opening) (write : Writing) (b : Bool) (wsize lane : ℕ) (turn : Turn) (s : Saving) (old : Shelf) (next : Step) (state : Putting) (new : Shelf) → OldOf s
      → puts.QueuesIf b wsize lane turn s old next state new → Asking (λ p c. PutOn p o write c) Old others next state
  put-queues o write true wsize lane turn s old next state new was q =
      put-follows o write q.gives lane s q.saved q.gone next state new was (goes-saved wsize turn.xid turn.room false s old.back q.gives q.saved q.gone.back q.goes) q.follows
  put-queues o write false wsize lane turn s old next state new was q =
      put-to o write nexts.Wait next (putting.Saves s) state q.next_is q.state_is (record { asked = tt; kept = was })

  -- what follows a step of its write
  after-write : (o : Opening) (write : Writing) (told : Step) (wsize lane : ℕ) (file : List ℕ) (turn : Turn) (old : Shelf) (next : Step) (state : Putting) (new : Shelf)
      → Asking WriteOn Old others told write → ((answer : Answer) → told ≡ nexts.Done answer → others ≡ 0)
      → puts.AfterWrite told wsize lane file turn old next state new → Asking (λ p c. PutOn p o write c) Old others next state
  after-write o write (nexts.Send call) wsize lane file turn old next state new a none f =
      put-to o write (nexts.Send call) next (putting.Adds file) state f.0 f.1 (record { asked = a.asked; kept = a.kept })
  after-write o write nexts.Wait wsize lane file turn old next state new a none f =
      put-to o write nexts.Wait next (putting.Adds file) state f.0 f.1 (record { asked = tt; kept = a.kept })
  after-write o write (nexts.Done (answers.Done value)) wsize lane file turn old next state new a none f =
      put-queues o write (is_first lane (joined lane file old).order) wsize lane turn (saves.begun file old.seq) (joined lane file old) next state new
      (λ some. let zero_ = none (answers.Done value) refl in absurd (omega (arith, zero_, some))) f
  after-write o write (nexts.Done (answers.Refused fault)) wsize lane file turn old next state new a none f =
      asking-done (λ p c. PutOn p o write c) Old others (closed_answer (Some fault)) next state f.next_is

or-left : (a b : Bool) → (a || b) ≡ false → a ≡ false
or-left true b e = absurd cc
or-left false b e = refl

-- it asks for a call only where none of its own waits
opening-none : (b : Bool) (o : Opening) (turn : Turn) (next : Step) → (o.asked || not turn.room) ≡ b → (next ≡ nexts.Wait → ⊥)
    → next ≡ opens.goes_as (if b then openings.Wait else openings.Send (opening.call_of o o.step)) → of_opening o ≡ 0
opening-none true o turn next is goes e = absurd (goes e)
opening-none false o turn next is goes e = ap one_if (or-left o.asked (not turn.room) is)

done-none : (told : Step) (others after : ℕ) → Plain told others after → (answer : Answer) → told ≡ nexts.Done answer → others ≡ 0
done-none (nexts.Send call) others after c answer is = absurd cc
done-none nexts.Wait others after c answer is = absurd cc
done-none (nexts.Done other) others after c answer is = c

abbrev pub PutFileOn : PutFile → Call → Type 0
PutFileOn m call = PutOn m.state m.opening m.write.state call

module _ (Old : Call → Type 0) (others : ℕ) where
  writes-on : (wsize : ℕ) (m : PutFile) (file : List ℕ) (turn : Turn) (told : Step) (written : Writing) (mid : Shelf) (next : Step) (new : PutFile) (after : Shelf)
      → Asking WriteOn Old others told written → ((answer : Answer) → told ≡ nexts.Done answer → others ≡ 0) → puts.WritesOn wsize m file turn told written mid next new after
      → Asking PutFileOn Old others next new
  writes-on wsize m file turn told written mid next new after a none w =
      subst (λ k. Asking PutFileOn Old others next k) (sym w.machine_is)
      (asking-for (λ p c. PutOn p m.opening written c) PutFileOn Old others next new.state (record m { write = record m.write { state = written }; state = new.state }) (λ call on. on)
      (after-write Old others m.opening written told wsize m.write.lane file turn mid next new.state after a none w.follows))

  put-stays : (m : PutFile) (old : Shelf) (next : Step) (new : PutFile) (after : Shelf) → (1 ≤ others → (c : Call) → Old c → PutFileOn m c) → puts.Stays m old next new after
      → Asking PutFileOn Old others next new
  put-stays m old next new after was s = asking-as PutFileOn Old others nexts.Wait next m new s.next_is s.machine_is (record { asked = tt; kept = was })

  put-adds : (wsize : ℕ) (m : PutFile) (file : List ℕ) (turn : Turn) (old : Shelf) (next : Step) (new : PutFile) (after : Shelf) → others ≡ 0 → puts.AddsBytes wsize m file turn old next new after
      → Asking PutFileOn Old others next new
  put-adds wsize m file turn old next new after none a =
      writes-on wsize m file turn a.told a.written a.mid next new after
      (write-writes Old others (is_full (writes.made_bytes m.write.text) (puts.put_at m.write.lane file old).back) wsize m.write.lane file m.write.offset (writes.made_bytes m.write.text) turn
      (puts.put_at m.write.lane file old) a.told a.written a.mid none a.writes) (λ answer is. none) a.goes

  after-opening : (step : OpeningStep) (wsize : ℕ) (m : PutFile) (turn : Turn) (old : Shelf) (next : Step) (new : PutFile) (after : Shelf) → others ≡ 0 → m.state ≡ putting.Opens
      → OpeningAsked step m.opening → puts.AfterOpening step wsize m turn old next new after → Asking PutFileOn Old others next new
  after-opening (openings.Send call) wsize m turn old next new after none at a f =
      asking-as PutFileOn Old others (nexts.Send call) next m new f.0 f.1
      (alone PutFileOn Old others (nexts.Send call) m none (subst (λ s. PutOn s m.opening m.write.state call) (sym at) a))
  after-opening openings.Wait wsize m turn old next new after none at a f = put-stays m old next new after (λ some. absurd (omega (arith, none, some))) f
  after-opening (openings.Ended (Ok file)) wsize m turn old next new after none at a f = put-adds wsize m file turn old next new after none f
  after-opening (openings.Ended (Err fault)) wsize m turn old next new after none at a f = asking-done PutFileOn Old others (answers.Refused fault) next new f.0

  put-saves : (wsize : ℕ) (m new : PutFile) (next : Step) → new ≡ record m { state = new.state } → Asking (λ p c. PutOn p m.opening m.write.state c) Old others next new.state
      → Asking PutFileOn Old others next new
  put-saves wsize m new next is a =
      subst (λ k. Asking PutFileOn Old others next k) (sym is)
      (asking-for (λ p c. PutOn p m.opening m.write.state c) PutFileOn Old others next new.state (record m { state = new.state }) (λ call on. on) a)

  put-resumes : (at : Putting) (wsize : ℕ) (m : PutFile) (turn : Turn) (old : Shelf) (next : Step) (new : PutFile) (after : Shelf) → m.state ≡ at
      → (1 ≤ others → (c : Call) → Old c → PutOn at m.opening m.write.state c) → of_putting at m.opening m.write.state ≡ others → (next ≡ nexts.Wait → ⊥)
      → puts.Resumes at wsize m turn old next new after → Asking PutFileOn Old others next new
  put-resumes putting.Idle wsize m turn old next new after is was count goes r = absurd (goes r.next_is)
  put-resumes putting.Opens wsize m turn old next new after is was count goes r =
      let none : of_opening m.opening ≡ 0 = opening-none (m.opening.asked || not turn.room) m.opening turn next refl goes r.0 in
      alone PutFileOn Old others next new (sym count ∙ none)
      (subst (λ k. AskedOf PutFileOn next k) (sym r.1)
      (opening-asks PutFileOn (opening.go_next m.opening turn) next (opening.go_after m.opening turn) (record m { opening = opening.go_after m.opening turn })
      (λ call on. subst (λ s. PutOn s (opening.go_after m.opening turn) m.write.state call) (sym is) on) r.0 (opening-goes m.opening turn)))
  put-resumes (putting.Adds file) wsize m turn old next new after is was count goes r =
      writes-on wsize m file turn r.told r.written r.mid next new after
      (write-resumes Old others m.write.state wsize m.write.lane turn old r.told r.written r.mid was count r.resumes)
      (done-none r.told others (of_writing r.written)
      (subst (λ n. Plain r.told n (of_writing r.written)) count (write-resumes-count m.write.state wsize m.write.lane turn old r.told r.written r.mid r.resumes))) r.goes
  put-resumes (putting.Saves s) wsize m turn old next new after is was count goes r =
      put-saves wsize m new next r.1 (put-queues Old others m.opening m.write.state (is_first m.write.lane old.order) wsize m.write.lane turn s old next new.state after was r.0)

  put-takes : (at : Putting) (wsize : ℕ) (m : PutFile) (sent turn : Turn) (came : Result Reply Fault) (old : Shelf) (next : Step) (new : PutFile) (after : Shelf) → m.state ≡ at
      → (1 ≤ others → (c : Call) → Old c → PutOn at m.opening m.write.state c) → of_putting at m.opening m.write.state ≡ others + 1
      → puts.Takes at wsize m sent turn came old next new after → Asking PutFileOn Old others next new
  put-takes putting.Idle wsize m sent turn came old next new after is was count t = absurd (omega (arith, count))
  put-takes putting.Opens wsize m sent turn came old next new after is was count t =
      let again = opening.opening_again m.opening sent turn came old.repeats in
      after-opening t.step wsize (puts.led again m turn came t.took.attrs old.pages) turn t.took next new after (one-left m.opening.asked others count) is
      (opening-took again m.opening sent turn (opening.led_on m.opening turn.now came t.took.attrs old.pages) t.step old.pages t.took.pages t.leads) t.follows
  put-takes (putting.Adds file) wsize m sent turn came old next new after is was count t =
      writes-on wsize m file turn t.told t.written t.mid next new after
      (write-takes Old others m.write.state wsize m.write sent turn came old t.told t.written t.mid was count t.takes)
      (done-none t.told others (of_writing t.written) (write-takes-count m.write.state wsize m.write sent turn came old t.told t.written t.mid others count t.takes)) t.goes
  put-takes (putting.Saves s) wsize m sent turn came old next new after is was count t =
      put-saves wsize m new next t.1
      (put-follows Old others m.opening m.write.state t.0.gives m.write.lane s t.0.saved t.0.took next new.state after was
      (takes-saved wsize sent turn came old.repeats s old.back t.0.gives t.0.saved t.0.took.back t.0.took.repeats t.0.takes) t.0.follows)

-- ---- truncates

truncate-queued : (b : Bool) (m : TruncateFile) (file : List ℕ) (upto : ℕ) (next : Step) (state : Truncating) → next ≡ (if b then nexts.Send (truncates.size_call file m.size) else nexts.Wait)
    → state ≡ (if b then truncating.Asked file upto else truncating.Queued file upto) → AskedOf TruncateOn next state
truncate-queued true m file upto next state is at = asked-as TruncateOn (nexts.Send (truncates.size_call file m.size)) next (truncating.Asked file upto) state is at refl
truncate-queued false m file upto next state is at = asked-waits TruncateOn next state is

truncate-starts : (found : Result (List ℕ) Fault) (m : TruncateFile) (turn : Turn) (old : Shelf) (next : Step) (state : Truncating) → next ≡ truncates.begun_next found m turn old
    → state ≡ truncates.begun_state found m turn old → AskedOf TruncateOn next state
truncate-starts (Ok file) m turn old next state is at = truncate-queued (truncates.may_ask m.lane file turn (joined m.lane file old)) m file old.seq next state is at
truncate-starts (Err fault) m turn old next state is at = asked-done TruncateOn (answers.Refused fault) next state is

truncate-resumes : (at : Truncating) (m : TruncateFile) (turn : Turn) (old : Shelf) (next : Step) (state : Truncating) → next ≡ truncates.resumed_next at m turn old
    → state ≡ truncates.resumed_state at m turn old → AskedOf TruncateOn next state
truncate-resumes truncating.Idle m turn old next state is to = asked-waits TruncateOn next state is
truncate-resumes (truncating.Queued file upto) m turn old next state is to = truncate-queued (truncates.may_ask m.lane file turn old) m file upto next state is to
truncate-resumes (truncating.Asked file upto) m turn old next state is to = asked-waits TruncateOn next state is

truncate-ended : (again : Bool) (told : Result Wcc Fault) (m : TruncateFile) (file : List ℕ) (upto : ℕ) (next : Step) (state : Truncating)
    → next ≡ (if again then nexts.Send (truncates.size_call file m.size) else truncates.told_next told) → state ≡ truncates.ended_state again (truncating.Asked file upto) → AskedOf TruncateOn next state
truncate-ended true told m file upto next state is to = asked-as TruncateOn (nexts.Send (truncates.size_call file m.size)) next (truncating.Asked file upto) state is to refl
truncate-ended false (Ok wcc) m file upto next state is to = asked-done TruncateOn (answers.Done _) next state is
truncate-ended false (Err fault) m file upto next state is to = asked-done TruncateOn (answers.Refused fault) next state is

truncate-takes : (at : Truncating) (m : TruncateFile) (came : Result Reply Fault) (sent turn : Turn) (repeats : List Repeat) (next : Step) (state : Truncating)
    → next ≡ truncates.took_next at m came sent turn repeats → state ≡ truncates.took_state at came sent turn repeats → AskedOf TruncateOn next state
truncate-takes truncating.Idle m came sent turn repeats next state is to = asked-waits TruncateOn next state is
truncate-takes (truncating.Queued file upto) m came sent turn repeats next state is to = asked-waits TruncateOn next state is
truncate-takes (truncating.Asked file upto) m came sent turn repeats next state is to =
    truncate-ended (truncates.size_again came sent turn repeats) (truncates.size_told came) m file upto next state is to

-- ---- any operation on a file

asks-file : {S : Type 0} → (E : S → Call → Type 0) (next : Step) (state : S) (to new : FileMachine) → ((call : Call) → E state call → FileAsks to call) → new ≡ to → AskedOf E next state
    → AskedOf FileAsks next new
asks-file E next state to new on is a = subst (λ k. AskedOf FileAsks next k) (sym is) (asked-for E FileAsks next state to on a)

asking-file : {S : Type 0} → (E : S → Call → Type 0) (Old : Call → Type 0) (others : ℕ) (next : Step) (state : S) (to new : FileMachine) → ((call : Call) → E state call → FileAsks to call)
    → new ≡ to → Asking E Old others next state → Asking FileAsks Old others next new
asking-file E Old others next state to new on is a = subst (λ k. Asking FileAsks Old others next k) (sym is) (asking-for E FileAsks Old others next state to on a)

abbrev pub Anything : Call → Type 0
Anything call = Unit {0}

pub file-starts-asked : (m : FileMachine) (wsize : ℕ) (turn : Turn) (old : Shelf) (next : Step) (new : FileMachine) (after : Shelf) → steps.Starts wsize m turn old next new after
    → AskedOf FileAsks next new
file-starts-asked (files.Open m) wsize turn old next new after s =
    asks-file OpenOn next (opens.start_after m turn old.opens) _ new (λ call on. on) s.machine_is (open-starts (opens.is_taken m old.opens) m turn next s.next_is)
file-starts-asked (files.Read m) wsize turn old next new after s =
    asks-file ReadFileOn next s.machine (files.Read s.machine) new (λ call on. on) s.machine_is (starts-with s.step.reading turn.room m old.pages old.back next s.machine after.pages s.step.goes)
file-starts-asked (files.Write m) wsize turn old next new after s =
    asks-file WriteOn next s.machine.state (files.Write s.machine) new (λ call on. on) s.machine_is
    (write-starts Anything 0 (file_to_write m.lane m.slot old.opens) wsize m turn old next s.machine after refl s.step).asked
file-starts-asked (files.Sync m) wsize turn old next new after s =
    asks-file SyncOn next s.state (files.Sync (record m { state = s.state })) new (λ call on. on) s.machine_is
    (sync-starts Anything 0 (file_at m.lane m.slot old.opens) wsize m turn old next s.state after refl s.step).asked
file-starts-asked (files.Close m) wsize turn old next new after s =
    asks-file CloseOn next s.state (files.Close (record m { state = s.state })) new (λ call on. on) s.machine_is
    (close-starts Anything 0 (file_at m.lane m.slot old.opens) wsize m turn old next s.state after refl s.step).asked
file-starts-asked (files.Truncate m) wsize turn old next new after s =
    asks-file TruncateOn next (truncates.started_state m turn old) (files.Truncate (record m { state = truncates.started_state m turn old })) new (λ call on. on) s.machine_is
    (truncate-starts (truncates.found_file m old) m turn old next (truncates.started_state m turn old) s.next_is refl)
file-starts-asked (files.Put m) wsize turn old next new after s =
    subst (λ k. AskedOf FileAsks next k) (sym s.machine_is)
    (opening-asks FileAsks (opening.go_next (puts.opening_at turn m) turn) next (opening.go_after (puts.opening_at turn m) turn) _ (λ call on. on) s.next_is
    (opening-goes (puts.opening_at turn m) turn))

-- one that has one call at most asks for it where none waits
single : (Old : Call → Type 0) (others after : ℕ) (next : Step) (new : FileMachine) → (next ≡ nexts.Wait → ⊥) → Plain next others after → after ≤ 1 → AskedOf FileAsks next new
    → Asking FileAsks Old others next new
single Old others after (nexts.Send call) new goes c most a = let more = c.0 in alone FileAsks Old others (nexts.Send call) new (omega (arith, more, most)) a
single Old others after nexts.Wait new goes c most a = absurd (goes refl)
single Old others after (nexts.Done answer) new goes c most a = record { asked = tt; kept = tt }

one-most : (b : Bool) → one_if b ≤ 1
one-most true = omega arith
one-most false = omega arith

phase-most : (p : ReadPhase) → of_phase p ≤ 1
phase-most phases.Attrs = omega arith
phase-most phases.AskedAttrs = omega arith
phase-most phases.Pages = omega arith
phase-most phases.Rest = omega arith
phase-most (phases.Asked count) = omega arith
phase-most phases.Ended = omega arith

reading-most : (of : Option Reading) → of_reading of ≤ 1
reading-most None = omega arith
reading-most (Some r) = phase-most r.phase

truncate-most : (at : Truncating) → of_truncating at ≤ 1
truncate-most truncating.Idle = omega arith
truncate-most (truncating.Queued file upto) = omega arith
truncate-most (truncating.Asked file upto) = omega arith

pub file-resumes-asking : (m : FileMachine) (wsize : ℕ) (turn : Turn) (old : Shelf) (next : Step) (new : FileMachine) (after : Shelf) → FileCounted m → (next ≡ nexts.Wait → ⊥)
    → steps.Resumes wsize m turn old next new after → Asking FileAsks (FileAsks m) (of_file m) next new
file-resumes-asking (files.Open m) wsize turn old next new after right goes s =
    single (FileAsks (files.Open m)) (of_opening m.opening) (of_opening (opening.go_after m.opening turn)) next new goes
    (opening-leaves (opening.go_next m.opening turn) next (of_opening m.opening) (of_opening (opening.go_after m.opening turn)) s.next_is (opening-counts m.opening turn))
    (one-most (opening.go_after m.opening turn).asked)
    (asks-file OpenOn next (opens.gone m turn) (files.Open (opens.gone m turn)) new (λ call on. on) s.machine_is
    (opening-asks OpenOn (opening.go_next m.opening turn) next (opening.go_after m.opening turn) (opens.gone m turn) (λ call on. on) s.next_is (opening-goes m.opening turn)))
file-resumes-asking (files.Read m) wsize turn old next new after right goes s =
    single (FileAsks (files.Read m)) (of_reading m.reading) (of_reading s.machine.reading) next new goes
    (read-resumes-count m.reading turn.room m old.pages old.back next s.machine after.pages refl s.step) (reading-most s.machine.reading)
    (asks-file ReadFileOn next s.machine (files.Read s.machine) new (λ call on. on) s.machine_is (read-resumes m.reading turn.room m old.pages old.back next s.machine after.pages s.step))
file-resumes-asking (files.Write m) wsize turn old next new after right goes s =
    asking-file WriteOn (FileAsks (files.Write m)) (of_writing m.state) next s.state (files.Write (record m { state = s.state })) new (λ call on. on) s.machine_is
    (write-resumes (WriteOn m.state) (of_writing m.state) m.state wsize m.lane turn old next s.state after (λ some c on. on) refl s.step)
file-resumes-asking (files.Sync m) wsize turn old next new after right goes s =
    asking-file SyncOn (FileAsks (files.Sync m)) (of_syncing m.state) next s.state (files.Sync (record m { state = s.state })) new (λ call on. on) s.machine_is
    (sync-resumes (SyncOn m.state) (of_syncing m.state) m.state wsize m turn old next s.state after (λ some c on. on) s.step)
file-resumes-asking (files.Close m) wsize turn old next new after right goes s =
    asking-file CloseOn (FileAsks (files.Close m)) (of_closing m.state) next s.state (files.Close (record m { state = s.state })) new (λ call on. on) s.machine_is
    (close-resumes (CloseOn m.state) (of_closing m.state) m.state wsize m turn old next s.state after (λ some c on. on) refl right s.step)
file-resumes-asking (files.Truncate m) wsize turn old next new after right goes s =
    single (FileAsks (files.Truncate m)) (of_truncating m.state) (of_truncating (truncates.resumed_state m.state m turn old)) next new goes
    (truncate-resumes-count m.state m turn old next (truncates.resumed_state m.state m turn old) s.next_is refl) (truncate-most (truncates.resumed_state m.state m turn old))
    (asks-file TruncateOn next (truncates.resumed_state m.state m turn old) (files.Truncate (record m { state = truncates.resumed_state m.state m turn old })) new (λ call on. on) s.machine_is
    (truncate-resumes m.state m turn old next (truncates.resumed_state m.state m turn old) s.next_is refl))
file-resumes-asking (files.Put m) wsize turn old next new after right goes s =
    asking-file PutFileOn (FileAsks (files.Put m)) (of_put m) next s.machine (files.Put s.machine) new (λ call on. on) s.machine_is
    (put-resumes (PutFileOn m) (of_put m) m.state wsize m turn old next s.machine after refl (λ some c on. on) refl goes s.step)

pub file-takes-asking : (m : FileMachine) (wsize : ℕ) (sent turn : Turn) (came : Result Reply Fault) (old : Shelf) (next : Step) (new : FileMachine) (after : Shelf) (others : ℕ)
    → of_file m ≡ others + 1 → steps.Takes wsize m sent turn came old next new after → Asking FileAsks (FileAsks m) others next new
file-takes-asking (files.Open m) wsize sent turn came old next new after others one s =
    let again = opening.opening_again m.opening sent turn came old.repeats in
    alone FileAsks (FileAsks (files.Open m)) others next new (one-left m.opening.asked others one)
    (asks-file OpenOn next (opens.took_after again m turn came after.attrs old.pages) _ new (λ call on. on) s.machine_is
    (open-follows m s.steps.step next old.opens after.opens (opens.took_after again m turn came after.attrs old.pages) s.steps.follows
    (opening-took again m.opening sent turn (opening.led_on m.opening turn.now came after.attrs old.pages) s.steps.step old.pages after.pages s.steps.led)))
file-takes-asking (files.Read m) wsize sent turn came old next new after others one s =
    let most = reading-most m.reading in
    alone FileAsks (FileAsks (files.Read m)) others next new (omega (arith, one, most))
    (asks-file ReadFileOn next s.machine (files.Read s.machine) new (λ call on. on) s.machine_is (read-takes m.reading sent turn came old.repeats m old.pages old.back next s.machine after.pages s.step))
file-takes-asking (files.Write m) wsize sent turn came old next new after others one s =
    asking-file WriteOn (FileAsks (files.Write m)) others next s.state (files.Write (record m { state = s.state })) new (λ call on. on) s.machine_is
    (write-takes (WriteOn m.state) others m.state wsize m sent turn came old next s.state after (λ some c on. on) one s.step)
file-takes-asking (files.Sync m) wsize sent turn came old next new after others one s =
    asking-file SyncOn (FileAsks (files.Sync m)) others next s.state (files.Sync (record m { state = s.state })) new (λ call on. on) s.machine_is
    (sync-takes (SyncOn m.state) others m.state wsize m sent turn came old next s.state after (λ some c on. on) s.step)
file-takes-asking (files.Close m) wsize sent turn came old next new after others one s =
    asking-file CloseOn (FileAsks (files.Close m)) others next s.state (files.Close (record m { state = s.state })) new (λ call on. on) s.machine_is
    (close-takes (CloseOn m.state) others m.state wsize m sent turn came old next s.state after (λ some c on. on) one s.step)
file-takes-asking (files.Truncate m) wsize sent turn came old next new after others one s =
    let most = truncate-most m.state in
    alone FileAsks (FileAsks (files.Truncate m)) others next new (omega (arith, one, most))
    (asks-file TruncateOn next (truncates.took_state m.state came sent turn old.repeats) (files.Truncate (record m { state = truncates.took_state m.state came sent turn old.repeats })) new
    (λ call on. on) s.machine_is (truncate-takes m.state m came sent turn old.repeats next (truncates.took_state m.state came sent turn old.repeats) s.next_is refl))
file-takes-asking (files.Put m) wsize sent turn came old next new after others one s =
    asking-file PutFileOn (FileAsks (files.Put m)) others next s.machine (files.Put s.machine) new (λ call on. on) s.machine_is
    (put-takes (PutFileOn m) others m.state wsize m sent turn came old next s.machine after refl (λ some c on. on) one s.step)
