-- The machines that put nothing in flight ask for calls that can be spelled, where there is room.
use Rattle.std.proofs.Common.{◌≡◌, ◌&&◌, ℕ, Bool, true, false, List, Option, Some, None, Result, Ok, Err, refl, sym, subst, ◌∙◌, inl, inr}
use Rattle.std.specs.Prelude.{if◌then◌else◌}
use Rattle.std.specs.FinMap as finite
use Rattle.nfs_types.specs.declared.attr.Attr.{Attr}
use Rattle.nfs_types.specs.declared.wcc.Wcc.{Wcc}
use Rattle.xdr_codec.specs.declared.blob.Memory as memory
use Rattle.attr_cache.specs.Attrs.{Attrs}
use Rattle.page_cache.specs.Pages.{Pages}
use Rattle.open_files.specs.Slots.{Place, Opens}
use Rattle.open_files.specs.declared.opened.Opened.{Opened}
use Rattle.world_model.specs.declared.answer.Fault.{Fault}
use Rattle.world_model.specs.declared.answer.Fault.TheVariants as faults
use Rattle.world_model.specs.declared.answer.Answer.{Answer}
use Rattle.world_model.specs.declared.answer.Answer.TheVariants as answers
use Rattle.world_model.specs.declared.message.Call.{Call}
use Rattle.world_model.specs.declared.message.Reply.{Reply}
use Rattle.write_back.specs.Files.{Pending}
use Rattle.client_shelf.specs.declared.repeats.Repeat.{Repeat}
use Rattle.client_shelf.specs.declared.shelf.Shelf.{Shelf}
use Rattle.client_shelf.specs.declared.turn.Turn.{Turn}
use Rattle.client_shelf.specs.LaneFiles.{is_first}
use Rattle.client_shelf.specs.Spelling.{IsSpellable}
use Rattle.client_shelf.specs.declared.step.Step.{Step}
use Rattle.client_shelf.specs.declared.step.Step.TheVariants as nexts
use Rattle.file_ops.specs.declared.opening.Opening.{Opening}
use Rattle.file_ops.specs.declared.opening.OpeningPhase.{OpeningPhase}
use Rattle.file_ops.specs.declared.opening.OpeningPhase.TheVariants.{Look, Make, Find, Ask}
use Rattle.file_ops.specs.declared.opening.OpeningStep.{OpeningStep}
use Rattle.file_ops.specs.declared.opening.OpeningStep.TheVariants as steps
use Rattle.file_ops.specs.declared.opening.Led.{Led}
use Rattle.file_ops.specs.declared.opening.Led.TheVariants as leads
use Rattle.file_ops.specs.declared.open_file.OpenFile.{OpenFile}
use Rattle.file_ops.specs.declared.read_file.ReadFile.{ReadFile}
use Rattle.file_ops.specs.declared.reading.Reading.{Reading}
use Rattle.file_ops.specs.declared.reading.Phase.{Phase}
use Rattle.file_ops.specs.declared.reading.Phase.TheVariants as phases
use Rattle.file_ops.specs.declared.truncate_file.TruncateFile.{TruncateFile}
use Rattle.file_ops.specs.declared.truncate_file.Truncating.{Truncating}
use Rattle.file_ops.specs.declared.truncate_file.Truncating.TheVariants as truncating
use Rattle.client_shelf.specs.Busy.{fails_busy, goes_again}
use Rattle.file_ops.specs.Quiet.{is_quiet}
use Rattle.file_ops.specs.ReadReply.{Said, part, refusal, says_busy}
use Rattle.file_ops.specs.SlotFiles.{joined}
use Rattle.file_ops.specs.Told.{got_by}
use Rattle.file_ops.specs.Opening as opening
use Rattle.file_ops.specs.OpenFile as opens
use Rattle.file_ops.specs.Reading as reading
use Rattle.file_ops.specs.ReadFile as reads
use Rattle.file_ops.specs.TruncateFile as truncates
use Rattle.file_ops.proofs.Walks.{LeftAs, SamePieces, same-pieces, cut-pieces, again-room, waits-left, done-left, asks-left}

-- ---- openings ask for calls that can be spelled, where there is room

pub spells-opening : (o : Opening) (step : OpeningPhase) → IsSpellable (opening.call_of o step)
spells-opening o Look = tt
spells-opening o Make = tt
spells-opening o Find = tt
spells-opening o (Ask file) = tt

-- what is known of a call that a step of an opening asks for
abbrev pub OpeningAsks : Turn → OpeningStep → Type 0
OpeningAsks turn next = (call : Call) → next ≡ steps.Send call → (turn.room ≡ true) × IsSpellable call

pub go-asks : (o : Opening) (turn : Turn) (next : OpeningStep) → next ≡ opening.go_next o turn → OpeningAsks turn next
go-asks o turn next is call asks = by o.asked turn.room refl refl
  where
    by : (a b : Bool) → o.asked ≡ a → turn.room ≡ b → (turn.room ≡ true) × IsSpellable call
    by false true ha hb =
        let sends : next ≡ steps.Send (opening.call_of o o.step) = (rw (ha, hb) at is) in
        let same : opening.call_of o o.step ≡ call = (let k : steps.Send (opening.call_of o o.step) ≡ steps.Send call = sym sends ∙ asks in cc) in
        (hb, subst IsSpellable same (spells-opening o o.step))
    by true b ha hb = let waits : next ≡ steps.Wait = (rw ha at is) in let no-way : steps.Wait ≡ steps.Send call = sym waits ∙ asks in absurd cc
    by false false ha hb = let waits : next ≡ steps.Wait = (rw (ha, hb) at is) in let no-way : steps.Wait ≡ steps.Send call = sym waits ∙ asks in absurd cc

led-asks : (o : Opening) (sent turn : Turn) (led : Led) (next : OpeningStep) (old new : Pages) → opening.LedTo o sent turn led next old new
    → OpeningAsks turn next
led-asks o sent turn (leads.Goes step) next old new l call asks = go-asks (opening.at_step o step) turn next l.0 call asks
led-asks o sent turn (leads.Opens file attr) (steps.Ended result) old new l call asks = absurd cc
led-asks o sent turn (leads.Opens file attr) (steps.Send other) old new l call asks = absurd l
led-asks o sent turn (leads.Opens file attr) steps.Wait old new l call asks = absurd l
led-asks o sent turn (leads.Knows file stamp) (steps.Ended result) old new l call asks = absurd cc
led-asks o sent turn (leads.Knows file stamp) (steps.Send other) old new l call asks = absurd l
led-asks o sent turn (leads.Knows file stamp) steps.Wait old new l call asks = absurd l
led-asks o sent turn (leads.Ends fault) next old new l call asks = let no-way : steps.Ended (Err fault) ≡ steps.Send call = sym l.0 ∙ asks in absurd cc

pub took-asks : (busy again : Bool) (repeats : List Repeat) (o : Opening) (sent turn : Turn) (led : Led) (next : OpeningStep) (old new : Pages)
    → goes_again busy sent turn repeats ≡ again → opening.LedIf again o sent turn led next old new → OpeningAsks turn next
took-asks busy true repeats o sent turn led next old new h l call asks =
    let same : opening.call_of o o.step ≡ call = (let k : steps.Send (opening.call_of o o.step) ≡ steps.Send call = sym l.0 ∙ asks in cc) in
    (again-room busy sent turn repeats h, subst IsSpellable same (spells-opening o o.step))
took-asks busy false repeats o sent turn led next old new h l call asks = led-asks o sent turn led next old new l call asks

-- as a step of a machine
pub as-left : {S : Type 0} → (P : Pending → Type 0) (H : S → Pending → Type 0) (Q : Call → Type 0) (turn : Turn) (step : OpeningStep) (next : Step)
    (state : S) (old new : Pending)
    → next ≡ opens.goes_as step → new ≡ old → OpeningAsks turn step → ((call : Call) → turn.room ≡ true → IsSpellable call → Q call) → P old → H state old
    → LeftAs P H Q next state new
as-left P H Q turn (steps.Send call) next state old new is same asks plain p h =
    let a = asks call refl in asks-left P H Q call next state old new is same h (plain call a.0 a.1)
as-left P H Q turn steps.Wait next state old new is same asks plain p h = waits-left P H Q next state old new is same p
as-left P H Q turn (steps.Ended (Ok file)) next state old new is same asks plain p h = done-left P H Q _ next state old new is same p
as-left P H Q turn (steps.Ended (Err fault)) next state old new is same asks plain p h = done-left P H Q _ next state old new is same p

-- what is known of a call that a step of these machines asks for
abbrev pub PlainAsks : Turn → Step → Type 0
PlainAsks turn next = (call : Call) → next ≡ nexts.Send call → (turn.room ≡ true) × IsSpellable call

waits-plain : (turn : Turn) (next : Step) → next ≡ nexts.Wait → PlainAsks turn next
waits-plain turn next is call asks = let no-way : nexts.Wait ≡ nexts.Send call = sym is ∙ asks in absurd cc

done-plain : (turn : Turn) (answer : Answer) (next : Step) → next ≡ nexts.Done answer → PlainAsks turn next
done-plain turn answer next is call asks = let no-way : nexts.Done answer ≡ nexts.Send call = sym is ∙ asks in absurd cc

sends-plain : (turn : Turn) (sent : Call) (next : Step) → next ≡ nexts.Send sent → turn.room ≡ true → IsSpellable sent → PlainAsks turn next
sends-plain turn sent next is room spells call asks =
    let same : sent ≡ call = (let k : nexts.Send sent ≡ nexts.Send call = sym is ∙ asks in cc) in (room, subst IsSpellable same spells)

if-plain : (b : Bool) (turn : Turn) (sent : Call) (answer : Answer) (next : Step) → next ≡ (if b then nexts.Send sent else nexts.Done answer)
    → (b ≡ true → turn.room ≡ true) → IsSpellable sent → PlainAsks turn next
if-plain true turn sent answer next is room spells = sends-plain turn sent next is (room refl) spells
if-plain false turn sent answer next is room spells = done-plain turn answer next is

-- of a step that leaves the pieces of each file, or takes them
pub plain-left : {S : Type 0} → (P : Pending → Type 0) (H : S → Pending → Type 0) (Q : Call → Type 0) (turn : Turn) (next : Step) (state : S) (back : Pending)
    → PlainAsks turn next → ((call : Call) → turn.room ≡ true → IsSpellable call → Q call) → P back → H state back → LeftAs P H Q next state back
plain-left P H Q turn (nexts.Send call) state back asks plain p h = let a = asks call refl in (h, plain call a.0 a.1)
plain-left P H Q turn nexts.Wait state back asks plain p h = p
plain-left P H Q turn (nexts.Done answer) state back asks plain p h = p

-- ---- opens

opening-plain : (turn : Turn) (step : OpeningStep) (next : Step) → next ≡ opens.goes_as step → OpeningAsks turn step → PlainAsks turn next
opening-plain turn (steps.Send call) next is asks = let a = asks call refl in sends-plain turn call next is a.0 a.1
opening-plain turn steps.Wait next is asks = waits-plain turn next is
opening-plain turn (steps.Ended (Ok file)) next is asks = done-plain turn _ next is
opening-plain turn (steps.Ended (Err fault)) next is asks = done-plain turn _ next is

pub open-starts : (m : OpenFile) (turn : Turn) (slots : Opens) (next : Step) → next ≡ opens.start_next m turn slots → PlainAsks turn next
open-starts m turn slots next is = by (opens.is_taken m slots) is
  where
    by : (b : Bool) → next ≡ (if b then opens.refused faults.Slot else opens.goes_as (opening.go_next (opens.begun m turn).opening turn)) → PlainAsks turn next
    by true is = done-plain turn _ next is
    by false is = opening-plain turn (opening.go_next (opens.begun m turn).opening turn) next is
        (go-asks (opens.begun m turn).opening turn (opening.go_next (opens.begun m turn).opening turn) refl)

pub open-resumes : (m : OpenFile) (turn : Turn) (next : Step) → next ≡ opens.goes_as (opening.go_next m.opening turn) → PlainAsks turn next
open-resumes m turn next is = opening-plain turn (opening.go_next m.opening turn) next is (go-asks m.opening turn (opening.go_next m.opening turn) refl)

pub open-takes : (m : OpenFile) (sent turn : Turn) (came : Result Reply Fault) (attrs : Attrs) (repeats : List Repeat) (next : Step) (pages later : Pages)
    (old new : Opens)
    → opens.OpenTakes m sent turn came attrs repeats next pages later old new → PlainAsks turn next
open-takes m sent turn came attrs repeats next pages later old new t = by t.step t.follows asks
  where
    asks : OpeningAsks turn t.step
    asks = took-asks (opening.may_again m.opening (opening.told_led m.opening came)) (opening.opening_again m.opening sent turn came repeats) repeats m.opening sent
        turn (opening.led_on m.opening turn.now came attrs pages) t.step pages later refl t.led

    put : (found : Option Opened) (place : Place) (of : Opened) → opens.PutsOver found place of next old new → PlainAsks turn next
    put (Some other) place of p = done-plain turn _ next p.0
    put None place of (inl p) = done-plain turn _ next p.0
    put None place of (inr p) = done-plain turn _ next p.0

    by : (step : OpeningStep) → opens.Follows m step next old new → OpeningAsks turn step → PlainAsks turn next
    by (steps.Ended (Ok file)) f asks = put (finite.get old (opens.place_of m)) (opens.place_of m) (opens.opened_of m.opening file) f
    by (steps.Ended (Err fault)) f asks = done-plain turn _ next f.0
    by (steps.Send call) f asks = opening-plain turn (steps.Send call) next f.0 asks
    by steps.Wait f asks = waits-plain turn next f.0

-- ---- reads

and-left : (a b : Bool) → (a && b) ≡ true → a ≡ true
and-left true b h = refl
and-left false b h = h

spells-asked : (s : reading.State) → IsSpellable (reading.asked_call s)
spells-asked s = by (reading.asks_attrs s.reading.phase)
  where
    by : (b : Bool) → IsSpellable (if b then reading.attrs_call s.reading.file else reading.read_call s)
    by true = tt
    by false = tt

read-goes : (turn : Turn) (back : Pending) (s : reading.State) (next : Step) → reading.Goes turn.room back s next → PlainAsks turn next
read-goes turn back s next g = by (reading.asks turn.room s) refl g
  where
    stays : (phase : Phase) → reading.Stays phase s.reading back next → PlainAsks turn next
    stays phases.Attrs is = waits-plain turn next is
    stays phases.AskedAttrs is = waits-plain turn next is
    stays phases.Pages is = waits-plain turn next is
    stays phases.Rest is = waits-plain turn next is
    stays (phases.Asked count) is = waits-plain turn next is
    stays phases.Ended is = done-plain turn _ next is

    by : (b : Bool) → reading.asks turn.room s ≡ b → reading.GoesIf b back s next → PlainAsks turn next
    by true h is = sends-plain turn (reading.asked_call s) next is (and-left turn.room (reading.wants s.reading.phase) h) (spells-asked s)
    by false h is = stays s.reading.phase is

pub read-starts : (opened : Option Opened) (turn : Turn) (m : ReadFile) (pages : Pages) (back : Pending) (next : Step) (new : ReadFile) (later : Pages)
    → reads.Starts opened turn m pages back next new later → PlainAsks turn next
read-starts opened turn m pages back next new later s = by s.reading s.goes
  where
    by : (r : Result Reading Fault) → reads.StartsWith r turn.room m pages back next new later → PlainAsks turn next
    by (Err fault) g = done-plain turn _ next g.step
    by (Ok r) g = read-goes turn back (reading.settled r pages) next g.step

pub read-resumes : (at : Option Reading) (turn : Turn) (m : ReadFile) (pages : Pages) (back : Pending) (next : Step) (new : ReadFile) (later : Pages)
    → reads.ResumesIn at turn.room m pages back next new later → PlainAsks turn next
read-resumes None turn m pages back next new later s = waits-plain turn next s.step
read-resumes (Some r) turn m pages back next new later s = read-goes turn back (reading.settled r pages) next s.step

read-attrs : (result : Result Attr Fault) (again : Bool) (sent turn : Turn) (r : Reading) (pages : Pages) (back : Pending) (next : Step) (new : reading.State)
    → (again ≡ true → turn.room ≡ true) → reading.TakesAttrs again result sent turn r pages back next new → PlainAsks turn next
read-attrs (Ok attr) again sent turn r pages back next new room t = by t.result t.goes
  where
    by : (result : Result (Unit {0}) memory.Memory) → reading.AfterOpened result turn r t.later back next new → PlainAsks turn next
    by (Ok done) a = read-goes turn back (reading.settled (record r { phase = phases.Pages }) t.later) next a.0
    by (Err lack) a = done-plain turn _ next a.0
read-attrs (Err fault) again sent turn r pages back next new room t = if-plain again turn (reading.attrs_call r.file) (answers.Refused fault) next t.0 room tt

read-said : (said : Said) (again : Bool) (sent turn : Turn) (r : Reading) (pages : Pages) (back : Pending) (next : Step) → (again ≡ true → turn.room ≡ true)
    → reading.Tells again sent turn said r pages back next → PlainAsks turn next
read-said (part attr eof bytes) again sent turn r pages back next room t =
    read-goes turn back (reading.after_part (reading.count_of r.phase) sent.moment attr eof bytes r pages) next t
read-said (refusal attr fault) again sent turn r pages back next room t = if-plain again turn (reading.part_call r) (answers.Refused fault) next t room tt

pub read-takes : (at : Option Reading) (sent turn : Turn) (came : Result Reply Fault) (repeats : List Repeat) (m : ReadFile) (pages : Pages) (back : Pending)
    (next : Step) (new : ReadFile) (later : Pages)
    → reads.TakesIn at sent turn came repeats m pages back next new later → PlainAsks turn next
read-takes None sent turn came repeats m pages back next new later t = waits-plain turn next t.step
read-takes (Some r) sent turn came repeats m pages back next new later t = by (reading.waits_attrs r.phase) t.step
  where
    said : (heard : Option Said) → reading.TakesPart heard sent turn repeats r pages back next t.state → PlainAsks turn next
    said None p = waits-plain turn next p.0
    said (Some told) p = read-said told (goes_again (says_busy told) sent turn repeats) sent turn r pages back next
        (again-room (says_busy told) sent turn repeats) p.0

    by : (b : Bool) → reading.TakesIf b sent turn came repeats r pages back next t.state → PlainAsks turn next
    by true a = read-attrs (got_by came) (goes_again (fails_busy (got_by came)) sent turn repeats) sent turn r pages back next t.state
        (again-room (fails_busy (got_by came)) sent turn repeats) a
    by false p = said (reading.heard r.phase came) p

-- ---- truncates

truncate-queued : (m : TruncateFile) (file : List ℕ) (turn : Turn) (old : Shelf) (next : Step) → next ≡ truncates.queued_next m file turn old
    → PlainAsks turn next
truncate-queued m file turn old next is = by (truncates.may_ask m.lane file turn old) refl is
  where
    by : (b : Bool) → truncates.may_ask m.lane file turn old ≡ b → next ≡ (if b then nexts.Send (truncates.size_call file m.size) else nexts.Wait)
        → PlainAsks turn next
    by true h is = sends-plain turn (truncates.size_call file m.size) next is
        (and-left turn.room (is_first m.lane old.order) (and-left (turn.room && is_first m.lane old.order) (is_quiet file old.back) h)) tt
    by false h is = waits-plain turn next is

pub truncate-starts : (m : TruncateFile) (turn : Turn) (old : Shelf) (next : Step) → next ≡ truncates.started_next m turn old → PlainAsks turn next
truncate-starts m turn old next is = by (truncates.found_file m old) is
  where
    by : (found : Result (List ℕ) Fault) → next ≡ truncates.begun_next found m turn old → PlainAsks turn next
    by (Ok file) is = truncate-queued m file turn (joined m.lane file old) next is
    by (Err fault) is = done-plain turn _ next is

pub truncate-resumes : (at : Truncating) (m : TruncateFile) (turn : Turn) (old : Shelf) (next : Step) → next ≡ truncates.resumed_next at m turn old
    → PlainAsks turn next
truncate-resumes truncating.Idle m turn old next is = waits-plain turn next is
truncate-resumes (truncating.Queued file upto) m turn old next is = truncate-queued m file turn old next is
truncate-resumes (truncating.Asked file upto) m turn old next is = waits-plain turn next is

pub truncate-takes : (at : Truncating) (m : TruncateFile) (came : Result Reply Fault) (sent turn : Turn) (repeats : List Repeat) (next : Step)
    → next ≡ truncates.took_next at m came sent turn repeats → PlainAsks turn next
truncate-takes truncating.Idle m came sent turn repeats next is = waits-plain turn next is
truncate-takes (truncating.Queued file upto) m came sent turn repeats next is = waits-plain turn next is
truncate-takes (truncating.Asked file upto) m came sent turn repeats next is = by (truncates.size_again came sent turn repeats) refl is
  where
    ended : (told : Result Wcc Fault) → next ≡ truncates.told_next told → PlainAsks turn next
    ended (Ok wcc) is = done-plain turn _ next is
    ended (Err fault) is = done-plain turn _ next is

    by : (b : Bool) → truncates.size_again came sent turn repeats ≡ b → next ≡ truncates.ended_next b m file came → PlainAsks turn next
    by true h is = sends-plain turn (truncates.size_call file m.size) next is (again-room (fails_busy (truncates.size_told came)) sent turn repeats h) tt
    by false h is = ended (truncates.size_told came) is

cuts-pieces : (quiet : Bool) (file : List ℕ) (size upto : ℕ) (old new : Pending) → truncates.CutsQuiet quiet file size upto old new → SamePieces old new
cuts-pieces true file size upto old new on = cut-pieces old new file size upto on
cuts-pieces false file size upto old new is = same-pieces old new is

pub truncate-pieces : (at : Truncating) (m : TruncateFile) (came : Result Reply Fault) (old new : Pending) → truncates.TookBack at m came old new
    → SamePieces old new
truncate-pieces truncating.Idle m came old new t = same-pieces old new t
truncate-pieces (truncating.Queued file upto) m came old new t = same-pieces old new t
truncate-pieces (truncating.Asked file upto) m came old new t = told (truncates.size_told came) t
  where
    told : (result : Result Wcc Fault) → truncates.CutsBack result file m.size upto old new → SamePieces old new
    told (Ok wcc) c = cuts-pieces (is_quiet file old) file m.size upto old new c
    told (Err fault) c = same-pieces old new c
