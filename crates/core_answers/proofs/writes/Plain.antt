-- The operations that put nothing in flight ask for no WRITE and no COMMIT.
use Rattle.core_answers.proofs.Prelude.{◌≡◌, ℕ, Bool, true, false, List, Option, Some, None, Result, Ok, Err, refl, sym, subst, ◌∙◌, inl, inr, if◌then◌else◌, Attr, Wcc, Attrs, Pages, Opens, Opened, Fault, Answer, Call, Reply, Pending, Repeat, Shelf, Turn, FileCall, Step, Opening, OpeningPhase, OpeningStep, Led, OpenFile, ReadFile, Reading, Phase, TruncateFile, Truncating, fails_busy, goes_again, Said, part, refusal, joined, got_by}
use Rattle.open_files.specs.Slots.{Place}
use Rattle.file_ops.specs.ReadReply.{says_busy}
use Rattle.std.specs.FinMap as finite
use Rattle.xdr_codec.specs.declared.blob.Memory as memory
use Rattle.world_model.specs.declared.answer.Fault.TheVariants as faults
use Rattle.world_model.specs.declared.answer.Answer.TheVariants as answers
use Rattle.nfs_file_calls.specs.declared.call.FileCall.TheVariants as file_calls
use Rattle.world_model.specs.declared.message.Call.TheVariants as calls
use Rattle.client_shelf.specs.declared.step.Step.TheVariants as nexts
use Rattle.file_ops.specs.declared.opening.OpeningPhase.TheVariants.{Look, Make, Find, Ask}
use Rattle.file_ops.specs.declared.opening.OpeningStep.TheVariants as steps
use Rattle.file_ops.specs.declared.opening.Led.TheVariants as leads
use Rattle.file_ops.specs.declared.reading.Phase.TheVariants as phases
use Rattle.file_ops.specs.declared.truncate_file.Truncating.TheVariants as truncating
use Rattle.file_ops.specs.Opening as opening
use Rattle.file_ops.specs.OpenFile as opens
use Rattle.file_ops.specs.Reading as reading
use Rattle.file_ops.specs.ReadFile as reads
use Rattle.file_ops.specs.TruncateFile as truncates

-- a call that is no WRITE and no COMMIT
abbrev pub IsOtherFile : FileCall → Type 0
IsOtherFile (file_calls.Write f offset how bytes) = ⊥
IsOtherFile (file_calls.Commit f offset count) = ⊥
IsOtherFile call = Unit {0}

abbrev pub IsOther : Call → Type 0
IsOther (calls.File call) = IsOtherFile call
IsOther call = Unit {0}

-- ---- openings

pub other-opening : (o : Opening) (step : OpeningPhase) → IsOther (opening.call_of o step)
other-opening o Look = tt
other-opening o Make = tt
other-opening o Find = tt
other-opening o (Ask file) = tt

-- what is known of a call that a step of an opening asks for
abbrev pub OpeningAsks : OpeningStep → Type 0
OpeningAsks next = (call : Call) → next ≡ steps.Send call → IsOther call

pub go-asks : (o : Opening) (turn : Turn) (next : OpeningStep) → next ≡ opening.go_next o turn → OpeningAsks next
go-asks o turn next is call asks = by o.asked turn.room refl refl
  where
    by : (a b : Bool) → o.asked ≡ a → turn.room ≡ b → IsOther call
    by false true ha hb =
        let sends : next ≡ steps.Send (opening.call_of o o.step) = (rw (ha, hb) at is) in
        let same : opening.call_of o o.step ≡ call = (let k : steps.Send (opening.call_of o o.step) ≡ steps.Send call = sym sends ∙ asks in cc) in
        subst IsOther same (other-opening o o.step)
    by true b ha hb = let waits : next ≡ steps.Wait = (rw ha at is) in let no-way : steps.Wait ≡ steps.Send call = sym waits ∙ asks in absurd cc
    by false false ha hb = let waits : next ≡ steps.Wait = (rw (ha, hb) at is) in let no-way : steps.Wait ≡ steps.Send call = sym waits ∙ asks in absurd cc

led-asks : (o : Opening) (sent turn : Turn) (led : Led) (next : OpeningStep) (old new : Pages) → opening.LedTo o sent turn led next old new
    → OpeningAsks next
led-asks o sent turn (leads.Goes step) next old new l call asks = go-asks (opening.at_step o step) turn next l.0 call asks
led-asks o sent turn (leads.Opens file attr) (steps.Ended result) old new l call asks = absurd cc
led-asks o sent turn (leads.Opens file attr) (steps.Send other) old new l call asks = absurd l
led-asks o sent turn (leads.Opens file attr) steps.Wait old new l call asks = absurd l
led-asks o sent turn (leads.Knows file stamp) (steps.Ended result) old new l call asks = absurd cc
led-asks o sent turn (leads.Knows file stamp) (steps.Send other) old new l call asks = absurd l
led-asks o sent turn (leads.Knows file stamp) steps.Wait old new l call asks = absurd l
led-asks o sent turn (leads.Ends fault) next old new l call asks = let no-way : steps.Ended (Err fault) ≡ steps.Send call = sym l.0 ∙ asks in absurd cc

pub took-asks : (busy again : Bool) (repeats : List Repeat) (o : Opening) (sent turn : Turn) (led : Led) (next : OpeningStep) (old new : Pages)
    → goes_again busy sent turn repeats ≡ again → opening.LedIf again o sent turn led next old new → OpeningAsks next
took-asks busy true repeats o sent turn led next old new h l call asks =
    let same : opening.call_of o o.step ≡ call = (let k : steps.Send (opening.call_of o o.step) ≡ steps.Send call = sym l.0 ∙ asks in cc) in
    subst IsOther same (other-opening o o.step)
took-asks busy false repeats o sent turn led next old new h l call asks = led-asks o sent turn led next old new l call asks

-- what is known of a call that a step of these machines asks for
abbrev pub PlainAsks : Step → Type 0
PlainAsks next = (call : Call) → next ≡ nexts.Send call → IsOther call

waits-plain : (next : Step) → next ≡ nexts.Wait → PlainAsks next
waits-plain next is call asks = let no-way : nexts.Wait ≡ nexts.Send call = sym is ∙ asks in absurd cc

done-plain : (answer : Answer) (next : Step) → next ≡ nexts.Done answer → PlainAsks next
done-plain answer next is call asks = let no-way : nexts.Done answer ≡ nexts.Send call = sym is ∙ asks in absurd cc

sends-plain : (sent : Call) (next : Step) → next ≡ nexts.Send sent → IsOther sent → PlainAsks next
sends-plain sent next is other call asks =
    let same : sent ≡ call = (let k : nexts.Send sent ≡ nexts.Send call = sym is ∙ asks in cc) in subst IsOther same other

if-plain : (b : Bool) (sent : Call) (answer : Answer) (next : Step) → next ≡ (if b then nexts.Send sent else nexts.Done answer)
    → IsOther sent → PlainAsks next
if-plain true sent answer next is other = sends-plain sent next is other
if-plain false sent answer next is other = done-plain answer next is

-- ---- opens

pub opening-plain : (step : OpeningStep) (next : Step) → next ≡ opens.goes_as step → OpeningAsks step → PlainAsks next
opening-plain (steps.Send call) next is asks = sends-plain call next is (asks call refl)
opening-plain steps.Wait next is asks = waits-plain next is
opening-plain (steps.Ended (Ok file)) next is asks = done-plain _ next is
opening-plain (steps.Ended (Err fault)) next is asks = done-plain _ next is

pub open-starts : (m : OpenFile) (turn : Turn) (slots : Opens) (next : Step) → next ≡ opens.start_next m turn slots → PlainAsks next
open-starts m turn slots next is = by (opens.is_taken m slots) is
  where
    by : (b : Bool) → next ≡ (if b then opens.refused faults.Slot else opens.goes_as (opening.go_next (opens.begun m turn).opening turn)) → PlainAsks next
    by true is = done-plain _ next is
    by false is = opening-plain (opening.go_next (opens.begun m turn).opening turn) next is
        (go-asks (opens.begun m turn).opening turn (opening.go_next (opens.begun m turn).opening turn) refl)

pub open-resumes : (m : OpenFile) (turn : Turn) (next : Step) → next ≡ opens.goes_as (opening.go_next m.opening turn) → PlainAsks next
open-resumes m turn next is = opening-plain (opening.go_next m.opening turn) next is (go-asks m.opening turn (opening.go_next m.opening turn) refl)

pub open-takes : (m : OpenFile) (sent turn : Turn) (came : Result Reply Fault) (attrs : Attrs) (repeats : List Repeat) (next : Step) (pages later : Pages)
    (old new : Opens)
    → opens.OpenTakes m sent turn came attrs repeats next pages later old new → PlainAsks next
open-takes m sent turn came attrs repeats next pages later old new t = by t.step t.follows asks
  where
    asks : OpeningAsks t.step
    asks = took-asks (opening.may_again m.opening (opening.told_led m.opening came)) (opening.opening_again m.opening sent turn came repeats) repeats m.opening sent
        turn (opening.led_on m.opening turn.now came attrs pages) t.step pages later refl t.led

    put : (found : Option Opened) (place : Place) (of : Opened) → opens.PutsOver found place of next old new → PlainAsks next
    put (Some other) place of p = done-plain _ next p.0
    put None place of (inl p) = done-plain _ next p.0
    put None place of (inr p) = done-plain _ next p.0

    by : (step : OpeningStep) → opens.Follows m step next old new → OpeningAsks step → PlainAsks next
    by (steps.Ended (Ok file)) f asks = put (finite.get old (opens.place_of m)) (opens.place_of m) (opens.opened_of m.opening file) f
    by (steps.Ended (Err fault)) f asks = done-plain _ next f.0
    by (steps.Send call) f asks = opening-plain (steps.Send call) next f.0 asks
    by steps.Wait f asks = waits-plain next f.0

-- ---- reads

other-asked : (s : reading.State) → IsOther (reading.asked_call s)
other-asked s = by (reading.asks_attrs s.reading.phase)
  where
    by : (b : Bool) → IsOther (if b then reading.attrs_call s.reading.file else reading.read_call s)
    by true = tt
    by false = tt

read-goes : (turn : Turn) (back : Pending) (s : reading.State) (next : Step) → reading.Goes turn.room back s next → PlainAsks next
read-goes turn back s next g = by (reading.asks turn.room s) refl g
  where
    stays : (phase : Phase) → reading.Stays phase s.reading back next → PlainAsks next
    stays phases.Attrs is = waits-plain next is
    stays phases.AskedAttrs is = waits-plain next is
    stays phases.Pages is = waits-plain next is
    stays phases.Rest is = waits-plain next is
    stays (phases.Asked count) is = waits-plain next is
    stays phases.Ended is = done-plain _ next is

    by : (b : Bool) → reading.asks turn.room s ≡ b → reading.GoesIf b back s next → PlainAsks next
    by true h is = sends-plain (reading.asked_call s) next is (other-asked s)
    by false h is = stays s.reading.phase is

pub read-starts : (opened : Option Opened) (turn : Turn) (m : ReadFile) (pages : Pages) (back : Pending) (next : Step) (new : ReadFile) (later : Pages)
    → reads.Starts opened turn m pages back next new later → PlainAsks next
read-starts opened turn m pages back next new later s = by s.reading s.goes
  where
    by : (r : Result Reading Fault) → reads.StartsWith r turn.room m pages back next new later → PlainAsks next
    by (Err fault) g = done-plain _ next g.step
    by (Ok r) g = read-goes turn back (reading.settled r pages) next g.step

pub read-resumes : (at : Option Reading) (turn : Turn) (m : ReadFile) (pages : Pages) (back : Pending) (next : Step) (new : ReadFile) (later : Pages)
    → reads.ResumesIn at turn.room m pages back next new later → PlainAsks next
read-resumes None turn m pages back next new later s = waits-plain next s.step
read-resumes (Some r) turn m pages back next new later s = read-goes turn back (reading.settled r pages) next s.step

read-attrs : (result : Result Attr Fault) (again : Bool) (sent turn : Turn) (r : Reading) (pages : Pages) (back : Pending) (next : Step) (new : reading.State)
    → reading.TakesAttrs again result sent turn r pages back next new → PlainAsks next
read-attrs (Ok attr) again sent turn r pages back next new t = by t.result t.goes
  where
    by : (result : Result (Unit {0}) memory.Memory) → reading.AfterOpened result turn r t.later back next new → PlainAsks next
    by (Ok done) a = read-goes turn back (reading.settled (record r { phase = phases.Pages }) t.later) next a.0
    by (Err lack) a = done-plain _ next a.0
read-attrs (Err fault) again sent turn r pages back next new t = if-plain again (reading.attrs_call r.file) (answers.Refused fault) next t.0 tt

read-said : (said : Said) (again : Bool) (sent turn : Turn) (r : Reading) (pages : Pages) (back : Pending) (next : Step)
    → reading.Tells again sent turn said r pages back next → PlainAsks next
read-said (part attr eof bytes) again sent turn r pages back next t =
    read-goes turn back (reading.after_part (reading.count_of r.phase) sent.moment attr eof bytes r pages) next t
read-said (refusal attr fault) again sent turn r pages back next t = if-plain again (reading.part_call r) (answers.Refused fault) next t tt

pub read-takes : (at : Option Reading) (sent turn : Turn) (came : Result Reply Fault) (repeats : List Repeat) (m : ReadFile) (pages : Pages) (back : Pending)
    (next : Step) (new : ReadFile) (later : Pages)
    → reads.TakesIn at sent turn came repeats m pages back next new later → PlainAsks next
read-takes None sent turn came repeats m pages back next new later t = waits-plain next t.step
read-takes (Some r) sent turn came repeats m pages back next new later t = by (reading.waits_attrs r.phase) t.step
  where
    said : (heard : Option Said) → reading.TakesPart heard sent turn repeats r pages back next t.state → PlainAsks next
    said None p = waits-plain next p.0
    said (Some told) p = read-said told (goes_again (says_busy told) sent turn repeats) sent turn r pages back next p.0

    by : (b : Bool) → reading.TakesIf b sent turn came repeats r pages back next t.state → PlainAsks next
    by true a = read-attrs (got_by came) (goes_again (fails_busy (got_by came)) sent turn repeats) sent turn r pages back next t.state a
    by false p = said (reading.heard r.phase came) p

-- ---- truncates

truncate-queued : (m : TruncateFile) (file : List ℕ) (turn : Turn) (old : Shelf) (next : Step) → next ≡ truncates.queued_next m file turn old
    → PlainAsks next
truncate-queued m file turn old next is = by (truncates.may_ask m.lane file turn old) refl is
  where
    by : (b : Bool) → truncates.may_ask m.lane file turn old ≡ b → next ≡ (if b then nexts.Send (truncates.size_call file m.size) else nexts.Wait)
        → PlainAsks next
    by true h is = sends-plain (truncates.size_call file m.size) next is tt
    by false h is = waits-plain next is

pub truncate-starts : (m : TruncateFile) (turn : Turn) (old : Shelf) (next : Step) → next ≡ truncates.started_next m turn old → PlainAsks next
truncate-starts m turn old next is = by (truncates.found_file m old) is
  where
    by : (found : Result (List ℕ) Fault) → next ≡ truncates.begun_next found m turn old → PlainAsks next
    by (Ok file) is = truncate-queued m file turn (joined m.lane file old) next is
    by (Err fault) is = done-plain _ next is

pub truncate-resumes : (at : Truncating) (m : TruncateFile) (turn : Turn) (old : Shelf) (next : Step) → next ≡ truncates.resumed_next at m turn old
    → PlainAsks next
truncate-resumes truncating.Idle m turn old next is = waits-plain next is
truncate-resumes (truncating.Queued file upto) m turn old next is = truncate-queued m file turn old next is
truncate-resumes (truncating.Asked file upto) m turn old next is = waits-plain next is

pub truncate-takes : (at : Truncating) (m : TruncateFile) (came : Result Reply Fault) (sent turn : Turn) (repeats : List Repeat) (next : Step)
    → next ≡ truncates.took_next at m came sent turn repeats → PlainAsks next
truncate-takes truncating.Idle m came sent turn repeats next is = waits-plain next is
truncate-takes (truncating.Queued file upto) m came sent turn repeats next is = waits-plain next is
truncate-takes (truncating.Asked file upto) m came sent turn repeats next is = by (truncates.size_again came sent turn repeats) refl is
  where
    ended : (told : Result Wcc Fault) → next ≡ truncates.told_next told → PlainAsks next
    ended (Ok wcc) is = done-plain _ next is
    ended (Err fault) is = done-plain _ next is

    by : (b : Bool) → truncates.size_again came sent turn repeats ≡ b → next ≡ truncates.ended_next b m file came → PlainAsks next
    by true h is = sends-plain (truncates.size_call file m.size) next is tt
    by false h is = ended (truncates.size_told came) is
