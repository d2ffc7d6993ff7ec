-- How many calls of an operation on a file wait after each of its steps.
use Rattle.core_facts.proofs.Prelude.{◌≡◌, ◌+◌, ◌-◌, ◌||◌, ◌&&◌, ℕ, not, Bool, true, false, List, Option, Some, None, Result, Ok, Err, inl, inr, refl, sym, ap, subst, ◌∙◌, arith, if◌then◌else◌, Attr, Mode, Wcc, Opened, Place, Opens, Pages, Fault, Call, Reply, Pending, of_file, last_end, goes_again, left, is_first, Step, Repeat, Shelf, Turn, CloseFile, Closing, Removal, OpenFile, Led, Opening, OpeningStep, ReadFile, Reading, Saving, SyncFile, Syncing, TruncateFile, Truncating, WriteFile, Writing, remove_of, closed_answer, refusal_of, joined, got_by, one_if, of_opening, of_saving, of_writing, of_syncing, of_closing, of_truncating, by-step, ends_as}
use Rattle.file_ops.specs.Closings.{remove_busy}
use Rattle.core_facts.specs.InFlight.{of_phase, of_reading, ClosingCounted, Leaves}
use Rattle.file_ops.proofs.SaveCounts.{SaveCounts, save-goes, save-takes}
use Rattle.std.specs.FinMap as finite
use Rattle.nfs_types.specs.declared.mode.Mode.TheVariants as modes
use Rattle.xdr_codec.specs.declared.blob.Memory as memory
use Rattle.world_model.specs.declared.answer.Answer.TheVariants as answers
use Rattle.world_model.specs.declared.answer.Fault.TheVariants as faults
use Rattle.world_model.specs.declared.answer.Value.TheVariants as values
use Rattle.client_shelf.specs.declared.step.Step.TheVariants as nexts
use Rattle.file_ops.specs.declared.close_file.Closing.TheVariants as closing
use Rattle.file_ops.specs.declared.gather.Found.{Found}
use Rattle.file_ops.specs.declared.gather.Found.TheVariants as found
use Rattle.file_ops.specs.declared.opening.Led.TheVariants as leads
use Rattle.file_ops.specs.declared.opening.OpeningStep.TheVariants as openings
use Rattle.file_ops.specs.declared.reading.Phase.{Phase}
use Rattle.file_ops.specs.declared.reading.Phase.TheVariants as phases
use Rattle.file_ops.specs.declared.sync_file.Syncing.TheVariants as syncing
use Rattle.file_ops.specs.declared.truncate_file.Truncating.TheVariants as truncating
use Rattle.file_ops.specs.declared.write_file.Writing.TheVariants as writing
use Rattle.file_ops.specs.Base.{place_after}
use Rattle.file_ops.specs.Closes as closes
use Rattle.file_ops.specs.OpenFile as opens
use Rattle.file_ops.specs.Opening as opening
use Rattle.file_ops.specs.ReadFile as reads
use Rattle.file_ops.specs.Reading as reading
use Rattle.file_ops.specs.ReadReply.{Said, part, refusal}
use Rattle.file_ops.specs.Saves as saves
use Rattle.file_ops.specs.Syncs as syncs
use Rattle.file_ops.specs.TruncateFile as truncates
use Rattle.file_ops.specs.WriteFile as writes
use Rattle.core_facts.proofs.NameCounts.{leaves-as, sends-leaves, waits-leaves, done-leaves, again-leaves, Plain, from-none, leaves-after, one-left}

or-left : (a b : Bool) → (a || b) ≡ false → a ≡ false
or-left true b e = absurd cc
or-left false b e = refl

-- ---- openings

abbrev pub OpeningCounts : OpeningStep → ℕ → ℕ → Type 0
OpeningCounts (openings.Send call) before after = after ≡ before + 1
OpeningCounts openings.Wait before after = after ≡ before
OpeningCounts (openings.Ended result) before after = before ≡ 0

opening-if : (b : Bool) (o : Opening) (turn : Turn) → (o.asked || not turn.room) ≡ b
    → OpeningCounts (if b then openings.Wait else openings.Send (opening.call_of o o.step)) (of_opening o) (of_opening (if b then o else record o { asked = true }))
opening-if true o turn is = refl
opening-if false o turn is = let none : of_opening o ≡ 0 = ap one_if (or-left o.asked (not turn.room) is) in omega (arith, none)

pub opening-goes : (o : Opening) (turn : Turn) → OpeningCounts (opening.go_next o turn) (of_opening o) (of_opening (opening.go_after o turn))
opening-goes o turn = opening-if (o.asked || not turn.room) o turn refl

pub opening-leaves : (step : OpeningStep) (next : Step) (before after : ℕ) → next ≡ opens.goes_as step → OpeningCounts step before after → Plain next before after
opening-leaves (openings.Send call) next before after is c = sends-leaves call next before after (Unit {0}) is c tt
opening-leaves openings.Wait next before after is c = waits-leaves next before after (Unit {0}) is c tt
opening-leaves (openings.Ended (Ok file)) next before after is c = done-leaves (answers.Done values.Nothing) next before after (Unit {0}) is c
opening-leaves (openings.Ended (Err fault)) next before after is c = done-leaves (answers.Refused fault) next before after (Unit {0}) is c

pub opening-took : (again : Bool) (o : Opening) (sent turn : Turn) (led : Led) (step : OpeningStep) (old new : Pages) (others : ℕ) → of_opening o ≡ others + 1
    → opening.LedIf again o sent turn led step old new → OpeningCounts step others (of_opening (opening.opening_after again o turn led))
opening-took true o sent turn led step old new others one l = subst (λ (n : OpeningStep). OpeningCounts n others (of_opening o)) (sym l.0) one
opening-took false o sent turn (leads.Goes to) step old new others one l =
    let here = opening-goes (opening.at_step o to) turn in
    let none : others ≡ 0 = one-left o.asked others one in
    subst (λ (n : OpeningStep). OpeningCounts n others (of_opening (opening.go_after (opening.at_step o to) turn))) (sym l.0)
    (subst (λ (n : ℕ). OpeningCounts (opening.go_next (opening.at_step o to) turn) n (of_opening (opening.go_after (opening.at_step o to) turn))) (sym none) here)
opening-took false o sent turn (leads.Opens file attr) (openings.Ended result) old new others one l = one-left o.asked others one
opening-took false o sent turn (leads.Opens file attr) (openings.Send call) old new others one l = absurd l
opening-took false o sent turn (leads.Opens file attr) openings.Wait old new others one l = absurd l
opening-took false o sent turn (leads.Knows file stamp) (openings.Ended result) old new others one l = one-left o.asked others one
opening-took false o sent turn (leads.Knows file stamp) (openings.Send call) old new others one l = absurd l
opening-took false o sent turn (leads.Knows file stamp) openings.Wait old new others one l = absurd l
opening-took false o sent turn (leads.Ends fault) step old new others one l = subst (λ (n : OpeningStep). OpeningCounts n others (of_opening o)) (sym l.0) (one-left o.asked others one)

-- ---- opens

pub open-starts : (b : Bool) (m : OpenFile) (turn : Turn) (next : Step) → of_opening m.opening ≡ 0
    → next ≡ (if b then opens.refused faults.Slot else opens.goes_as (opening.go_next (opens.begun m turn).opening turn))
    → Plain next 0 (of_opening (if b then m else opens.gone (opens.begun m turn) turn).opening)
open-starts true m turn next none is = done-leaves (answers.Refused faults.Slot) next 0 (of_opening m.opening) (Unit {0}) is refl
open-starts false m turn next none is =
    opening-leaves (opening.go_next (opens.begun m turn).opening turn) next 0 (of_opening (opening.go_after (opens.begun m turn).opening turn)) is
    (subst (λ (n : ℕ). OpeningCounts (opening.go_next (opens.begun m turn).opening turn) n (of_opening (opening.go_after (opens.begun m turn).opening turn))) none
    (opening-goes (opens.begun m turn).opening turn))

puts-open : (other : Option Opened) (place : Place) (of : Opened) (next : Step) (old new : Opens) (others after : ℕ) → others ≡ 0
    → opens.PutsOver other place of next old new → Plain next others after
puts-open (Some other) place of next old new others after none p = done-leaves (answers.Refused faults.Slot) next others after (Unit {0}) p.0 none
puts-open None place of next old new others after none (inl p) = done-leaves (answers.Done values.Nothing) next others after (Unit {0}) p.0 none
puts-open None place of next old new others after none (inr p) = done-leaves (answers.Refused faults.Memory) next others after (Unit {0}) p.0 none

pub open-follows : (m : OpenFile) (step : OpeningStep) (next : Step) (old new : Opens) (others after : ℕ) → opens.Follows m step next old new
    → OpeningCounts step others after → Plain next others after
open-follows m (openings.Send call) next old new others after f c = sends-leaves call next others after (Unit {0}) f.0 c tt
open-follows m openings.Wait next old new others after f c = waits-leaves next others after (Unit {0}) f.0 c tt
open-follows m (openings.Ended (Ok file)) next old new others after f c =
    puts-open (finite.get old (opens.place_of m)) (opens.place_of m) (opens.opened_of m.opening file) next old new others after c f
open-follows m (openings.Ended (Err fault)) next old new others after f c = done-leaves (answers.Refused fault) next others after (Unit {0}) f.0 c

-- ---- reads

wants-none : (p : Phase) → reading.wants p ≡ true → of_phase p ≡ 0
wants-none phases.Attrs is = refl
wants-none phases.AskedAttrs is = absurd cc
wants-none phases.Pages is = refl
wants-none phases.Rest is = refl
wants-none (phases.Asked count) is = absurd cc
wants-none phases.Ended is = absurd cc

asked-one : (b : Bool) (s : reading.State)
    → of_phase (if b then record { reading = record s.reading { phase = phases.AskedAttrs }; pages = s.pages } else reading.asked_part s).reading.phase ≡ 1
asked-one true s = refl
asked-one false s = refl

stays-read : (p : Phase) (r : Reading) (back : Pending) (next : Step) → r.phase ≡ p → reading.Stays p r back next → Plain next (of_phase r.phase) (of_phase (reading.answered p r).phase)
stays-read phases.Attrs r back next is s = waits-leaves next (of_phase r.phase) (of_phase r.phase) (Unit {0}) s refl tt
stays-read phases.AskedAttrs r back next is s = waits-leaves next (of_phase r.phase) (of_phase r.phase) (Unit {0}) s refl tt
stays-read phases.Pages r back next is s = waits-leaves next (of_phase r.phase) (of_phase r.phase) (Unit {0}) s refl tt
stays-read phases.Rest r back next is s = waits-leaves next (of_phase r.phase) (of_phase r.phase) (Unit {0}) s refl tt
stays-read (phases.Asked count) r back next is s = waits-leaves next (of_phase r.phase) (of_phase r.phase) (Unit {0}) s refl tt
stays-read phases.Ended r back next is s = done-leaves (answers.Done (values.Bytes (reading.answer_of r back))) next (of_phase r.phase) (of_phase r.phase) (Unit {0}) s (ap of_phase is)

and-right : (a b : Bool) → (a && b) ≡ true → b ≡ true
and-right true b e = e
and-right false b e = absurd cc

goes-if : (b room : Bool) (back : Pending) (s : reading.State) (next : Step) → (room && reading.wants s.reading.phase) ≡ b → reading.GoesIf b back s next
    → Plain next (of_phase s.reading.phase)
    (of_phase (if b then reading.asked s else record { reading = reading.answered s.reading.phase s.reading; pages = s.pages }).reading.phase)
goes-if true room back s next is g =
    let none = wants-none s.reading.phase (and-right room (reading.wants s.reading.phase) is) in
    let one : of_phase (reading.asked s).reading.phase ≡ 1 = asked-one (reading.asks_attrs s.reading.phase) s in
    sends-leaves (reading.asked_call s) next (of_phase s.reading.phase) (of_phase (reading.asked s).reading.phase) (Unit {0}) g (omega (arith, none, one)) tt
goes-if false room back s next is g = stays-read s.reading.phase s.reading back next refl g

goes-read : (room : Bool) (back : Pending) (s : reading.State) (next : Step) → reading.Goes room back s next → Plain next (of_phase s.reading.phase) (of_phase (reading.gone room s).reading.phase)
goes-read room back s next g = goes-if (room && reading.wants s.reading.phase) room back s next refl g

phase-found : (f : Found) → of_phase (reading.phase_of f) ≡ 0
phase-found found.Page = refl
phase-found found.Ended = refl
phase-found found.Wanted = refl

settled-in : (p : Phase) (r : Reading) (pages : Pages) → r.phase ≡ p → of_phase (reading.settled_in p r pages).reading.phase ≡ of_phase r.phase
settled-in phases.Attrs r pages is = refl
settled-in phases.AskedAttrs r pages is = refl
settled-in phases.Pages r pages is = phase-found _ ∙ sym (ap of_phase is)
settled-in phases.Rest r pages is = refl
settled-in (phases.Asked count) r pages is = refl
settled-in phases.Ended r pages is = refl

settled-same : (r : Reading) (pages : Pages) → of_phase (reading.settled r pages).reading.phase ≡ of_phase r.phase
settled-same r pages = settled-in r.phase r pages refl

from-settled : (room : Bool) (back : Pending) (r : Reading) (pages : Pages) (next : Step) → reading.Goes room back (reading.settled r pages) next
    → Plain next (of_phase r.phase) (of_phase (reading.gone room (reading.settled r pages)).reading.phase)
from-settled room back r pages next g =
    subst (λ (n : ℕ). Plain next n (of_phase (reading.gone room (reading.settled r pages)).reading.phase)) (settled-same r pages) (goes-read room back (reading.settled r pages) next g)

goes-from : (room : Bool) (m : ReadFile) (back : Pending) (r : Reading) (pages : Pages) (next : Step) (new : ReadFile) (later : Pages)
    → reads.GoesFrom room m back (reading.settled r pages) next new later → Plain next (of_phase r.phase) (of_reading new.reading)
goes-from room m back r pages next new later g =
    leaves-after next (of_phase r.phase) (of_reading new.reading) (of_phase (reading.gone room (reading.settled r pages)).reading.phase) (Unit {0})
    (ap (λ (n : ReadFile). of_reading n.reading) g.machine) (from-settled room back r pages next g.step)

-- a read that begins has asked for nothing
abbrev pub NoneAsked : Result Reading Fault → Type 0
NoneAsked (Ok r) = of_phase r.phase ≡ 0
NoneAsked (Err fault) = Unit {0}

first-none : (noac : Bool) → of_phase (reads.first_phase noac) ≡ 0
first-none true = refl
first-none false = refl

begun-in : (mode : Mode) (moment : ℕ) (m : ReadFile) (file : List ℕ) (back : Pending) → NoneAsked (reads.begun_in mode moment m file back)
begun-in modes.W moment m file back = tt
begun-in modes.R moment m file back = first-none m.noac
begun-in modes.RW moment m file back = first-none m.noac
begun-in modes.C moment m file back = first-none m.noac
begun-in modes.X moment m file back = first-none m.noac

begun-at : (opened : Option Opened) (moment : ℕ) (m : ReadFile) (back : Pending) → NoneAsked (reads.begun_at opened moment m back)
begun-at None moment m back = tt
begun-at (Some o) moment m back = begun-in o.mode moment m o.file back

begins-none : (tried result : Result Reading Fault) → NoneAsked tried → reads.Begins tried result → NoneAsked result
begins-none (Err fault) result n b = subst NoneAsked (sym b) tt
begins-none (Ok r) result n (inl b) = subst NoneAsked (sym b) n
begins-none (Ok r) result n (inr b) = subst NoneAsked (sym b) tt

starts-with : (begun : Result Reading Fault) (room : Bool) (m : ReadFile) (pages : Pages) (back : Pending) (next : Step) (new : ReadFile) (later : Pages) → NoneAsked begun
    → reads.StartsWith begun room m pages back next new later → Plain next 0 (of_reading new.reading)
starts-with (Err fault) room m pages back next new later n s = done-leaves (answers.Refused fault) next 0 (of_reading new.reading) (Unit {0}) s.step refl
starts-with (Ok r) room m pages back next new later n s =
    subst (λ (k : ℕ). Plain next k (of_reading new.reading)) n (goes-from room m back r pages next new later s)

pub read-starts : (opened : Option Opened) (turn : Turn) (m : ReadFile) (pages : Pages) (back : Pending) (next : Step) (new : ReadFile) (later : Pages)
    → reads.Starts opened turn m pages back next new later → Plain next 0 (of_reading new.reading)
read-starts opened turn m pages back next new later s =
    starts-with s.reading turn.room m pages back next new later
    (begins-none (reads.begun_at opened (turn.moment - 1) m back) s.reading (begun-at opened (turn.moment - 1) m back) s.begins) s.goes

pub read-resumes : (of : Option Reading) (room : Bool) (m : ReadFile) (pages : Pages) (back : Pending) (next : Step) (new : ReadFile) (later : Pages) → m.reading ≡ of
    → reads.ResumesIn of room m pages back next new later → Plain next (of_reading of) (of_reading new.reading)
read-resumes None room m pages back next new later is s =
    waits-leaves next 0 (of_reading new.reading) (Unit {0}) s.step (ap (λ (n : ReadFile). of_reading n.reading) s.machine ∙ ap of_reading is) tt
read-resumes (Some r) room m pages back next new later is s = goes-from room m back r pages next new later s

again-read : (again : Bool) (call : Call) (fault : Fault) (r : Reading) (pages : Pages) (next : Step) (new : reading.State) (others : ℕ) → of_phase r.phase ≡ others + 1 → others ≡ 0
    → next ≡ reading.again_next again call fault → new ≡ record { reading = r; pages = pages } → Plain next others (of_phase new.reading.phase)
again-read again call fault r pages next new others one none is state =
    again-leaves again call (answers.Refused fault) next others (of_phase new.reading.phase) (Unit {0}) is (ap (λ (s : reading.State). of_phase s.reading.phase) state ∙ one) none tt

opened-read : (result : Result (Unit {0}) memory.Memory) (turn : Turn) (r : Reading) (pages : Pages) (back : Pending) (next : Step) (new : reading.State) (others : ℕ) → others ≡ 0
    → reading.AfterOpened result turn r pages back next new → Plain next others (of_phase new.reading.phase)
opened-read (Ok done) turn r pages back next new others none a =
    from-none next others (of_phase new.reading.phase) (Unit {0}) none
    (leaves-after next 0 (of_phase new.reading.phase) (of_phase (reading.gone turn.room (reading.settled (record r { phase = phases.Pages }) pages)).reading.phase) (Unit {0})
    (ap (λ (s : reading.State). of_phase s.reading.phase) a.1) (from-settled turn.room back (record r { phase = phases.Pages }) pages next a.0))
opened-read (Err no_memory) turn r pages back next new others none a = done-leaves (answers.Refused faults.Memory) next others (of_phase new.reading.phase) (Unit {0}) a.0 none

attrs-read : (told : Result Attr Fault) (again : Bool) (sent turn : Turn) (r : Reading) (pages : Pages) (back : Pending) (next : Step) (new : reading.State) (others : ℕ)
    → of_phase r.phase ≡ others + 1 → others ≡ 0 → reading.TakesAttrs again told sent turn r pages back next new → Plain next others (of_phase new.reading.phase)
attrs-read (Ok attr) again sent turn r pages back next new others one none t = opened-read t.result turn r t.later back next new others none t.goes
attrs-read (Err fault) again sent turn r pages back next new others one none t = again-read again (reading.attrs_call r.file) fault r pages next new others one none t.0 t.1

then-none : (a b : Bool) → of_phase (if a then phases.Ended else if b then phases.Rest else phases.Pages) ≡ 0
then-none true b = refl
then-none false true = refl
then-none false false = refl

part-read : (said : Said) (again : Bool) (sent turn : Turn) (r : Reading) (pages : Pages) (back : Pending) (next : Step) (new : reading.State) (others : ℕ)
    → of_phase r.phase ≡ others + 1 → others ≡ 0 → reading.Tells again sent turn said r pages back next → new ≡ reading.told sent turn said r pages → Plain next others (of_phase new.reading.phase)
part-read (part attr eof bytes) again sent turn r pages back next new others one none t state =
    let more : Reading = reading.added (reading.count_of r.phase) eof bytes r in
    let kept : Pages = reading.noted attr r.file sent.moment (place_after r.base) bytes eof pages in
    let none-asked : of_phase more.phase ≡ 0 = then-none eof _ in
    let here = from-settled turn.room back more kept next t in
    leaves-after next others (of_phase new.reading.phase) (of_phase (reading.gone turn.room (reading.settled more kept)).reading.phase) (Unit {0})
    (ap (λ (s : reading.State). of_phase s.reading.phase) state)
    (subst (λ (n : ℕ). Plain next n (of_phase (reading.gone turn.room (reading.settled more kept)).reading.phase)) (none-asked ∙ sym none) here)
part-read (refusal attr fault) again sent turn r pages back next new others one none t state = again-read again (reading.part_call r) fault r pages next new others one none t state

reply-read : (p : Phase) (sent turn : Turn) (came : Result Reply Fault) (repeats : List Repeat) (r : Reading) (pages : Pages) (back : Pending) (next : Step) (new : reading.State) (others : ℕ)
    → r.phase ≡ p → of_phase p ≡ others + 1 → reading.TakesIf (reading.waits_attrs p) sent turn came repeats r pages back next new → Plain next others (of_phase new.reading.phase)
reply-read phases.Attrs sent turn came repeats r pages back next new others is one t = absurd (omega (arith, one))
reply-read phases.AskedAttrs sent turn came repeats r pages back next new others is one t =
    attrs-read (got_by came) _ sent turn r pages back next new others (ap of_phase is ∙ one) (omega (arith, one)) t
reply-read phases.Pages sent turn came repeats r pages back next new others is one t = absurd (omega (arith, one))
reply-read phases.Rest sent turn came repeats r pages back next new others is one t = absurd (omega (arith, one))
reply-read (phases.Asked count) sent turn came repeats r pages back next new others is one t =
    let here : reading.TakesPart (reading.heard (phases.Asked count) came) sent turn repeats r pages back next new =
    subst (λ (q : Phase). reading.TakesPart (reading.heard q came) sent turn repeats r pages back next new) is t in
    part-read _ _ sent turn r pages back next new others (ap of_phase is ∙ one) (omega (arith, one)) here.0 here.1
reply-read phases.Ended sent turn came repeats r pages back next new others is one t = absurd (omega (arith, one))

pub read-takes : (of : Option Reading) (sent turn : Turn) (came : Result Reply Fault) (repeats : List Repeat) (m : ReadFile) (pages : Pages) (back : Pending) (next : Step)
    (new : ReadFile) (later : Pages) (others : ℕ) → of_reading of ≡ others + 1 → reads.TakesIn of sent turn came repeats m pages back next new later
    → Plain next others (of_reading new.reading)
read-takes None sent turn came repeats m pages back next new later others one t = absurd (omega (arith, one))
read-takes (Some r) sent turn came repeats m pages back next new later others one t =
    leaves-after next others (of_reading new.reading) (of_phase t.state.reading.phase) (Unit {0}) (ap (λ (n : ReadFile). of_reading n.reading) t.machine)
    (reply-read r.phase sent turn came repeats r pages back next t.state others refl one t.step)

-- ---- writes

leads-write : (to : Step) (state : Writing) (shelf : Shelf) (next : Step) (new : Writing) (after : Shelf) (before : ℕ) → writes.Leads to state shelf next new after
    → Plain to before (of_writing state) → Plain next before (of_writing new)
leads-write to state shelf next new after before l c =
    leaves-as to next before (of_writing new) (Unit {0}) l.gives_next (leaves-after to before (of_writing new) (of_writing state) (Unit {0}) (ap of_writing l.keeps) c)

room-write : (told : _) (file : List ℕ) (saved : Saving) (before : ℕ) → SaveCounts told before (of_saving saved)
    → Plain (writes.room_next told) before (of_writing (writes.room_state told file saved))
room-write told file saved before c = by-step
    (λ g. SaveCounts g before (of_saving saved) → Plain (writes.room_next g) before (of_writing (writes.room_state g file saved)))
    (λ call k. (k, tt)) (λ k. (k, tt)) ended told c
  where
    ended : (result : Result (Unit {0}) Fault) → (before ≡ 0) × (of_saving saved ≡ 0) → Plain (writes.room_next (ends_as result)) before (of_writing (writes.room_state (ends_as result) file saved))
    ended (Ok nothing) k = (k.1 ∙ sym k.0, tt)
    ended (Err fault) k = k.0

saves-if : (b : Bool) (wsize lane : ℕ) (file : List ℕ) (saving : Saving) (turn : Turn) (shelf : Shelf) (next : Step) (new : Writing) (after : Shelf)
    → writes.SavesIf b wsize lane file saving turn shelf next new after → Plain next (of_saving saving) (of_writing new)
saves-if true wsize lane file saving turn shelf next new after s =
    leads-write (writes.room_next s.told) (writes.room_state s.told file s.saved) _ next new after (of_saving saving) s.leads
    (room-write s.told file s.saved (of_saving saving) (save-goes wsize turn.xid turn.room false saving shelf.back s.told s.saved s.back s.goes))
saves-if false wsize lane file saving turn shelf next new after s = leads-write nexts.Wait (writing.Room file saving) shelf next new after (of_saving saving) s (refl, tt)

refuses-write : (fault : Fault) (shelf : Shelf) (next : Step) (new : Writing) (after : Shelf) → writes.Refuses fault shelf next new after → Plain next 0 (of_writing new)
refuses-write fault shelf next new after l = leads-write (nexts.Done (answers.Refused fault)) writing.Idle shelf next new after 0 l refl

writes-if : (b : Bool) (wsize lane : ℕ) (file : List ℕ) (offset : ℕ) (bytes : List ℕ) (turn : Turn) (shelf : Shelf) (next : Step) (new : Writing) (after : Shelf)
    → writes.WritesIf b wsize lane file offset bytes turn shelf next new after → Plain next 0 (of_writing new)
writes-if true wsize lane file offset bytes turn shelf next new after (inl s) =
    saves-if (is_first lane (joined lane s.of shelf).order) wsize lane file (saves.begun s.of shelf.seq) turn (joined lane s.of shelf) next new after s.saves
writes-if true wsize lane file offset bytes turn shelf next new after (inr s) = refuses-write faults.Memory shelf next new after s.1
writes-if false wsize lane file offset bytes turn shelf next new after (inl s) = leads-write (nexts.Done (answers.Done values.Nothing)) writing.Idle _ next new after 0 s.leads refl
writes-if false wsize lane file offset bytes turn shelf next new after (inr s) = refuses-write faults.Memory shelf next new after s

pub writes-leave : (wsize lane : ℕ) (file : List ℕ) (offset : ℕ) (bytes : List ℕ) (turn : Turn) (shelf : Shelf) (next : Step) (new : Writing) (after : Shelf)
    → writes.Writes wsize lane file offset bytes turn shelf next new after → Plain next 0 (of_writing new)
writes-leave wsize lane file offset bytes turn shelf next new after w = writes-if _ wsize lane file offset bytes turn shelf next new after w

pub write-starts : (found : Result (List ℕ) Fault) (wsize : ℕ) (m : WriteFile) (turn : Turn) (shelf : Shelf) (next : Step) (new : WriteFile) (after : Shelf)
    → writes.StartsAt found wsize m turn shelf next new after → Plain next 0 (of_writing new.state)
write-starts (Err fault) wsize m turn shelf next new after s = refuses-write fault shelf next new.state after s.refuses
write-starts (Ok file) wsize m turn shelf next new after (inl s) = writes-leave wsize m.lane file m.offset _ turn shelf next new.state after s.writes
write-starts (Ok file) wsize m turn shelf next new after (inr s) = refuses-write faults.Memory shelf next new.state after s.refuses

pub write-resumes : (at : Writing) (wsize lane : ℕ) (turn : Turn) (shelf : Shelf) (next : Step) (new : Writing) (after : Shelf)
    → writes.ResumesIn at wsize lane turn shelf next new after → Plain next (of_writing at) (of_writing new)
write-resumes writing.Idle wsize lane turn shelf next new after r = leads-write nexts.Wait writing.Idle shelf next new after 0 r (refl, tt)
write-resumes (writing.Room file saving) wsize lane turn shelf next new after r =
    saves-if (is_first lane shelf.order) wsize lane file saving turn shelf next new after r

follows-write : (told : _) (wsize : ℕ) (m : WriteFile) (file : List ℕ) (saved : Saving) (turn : Turn) (shelf : Shelf) (next : Step) (new : Writing) (after : Shelf) (others : ℕ)
    → SaveCounts told others (of_saving saved) → writes.Follows told wsize m file saved turn shelf next new after → Plain next others (of_writing new)
follows-write told wsize m file saved turn shelf next new after others c f = by-step
    (λ g. SaveCounts g others (of_saving saved) → writes.Follows g wsize m file saved turn shelf next new after → Plain next others (of_writing new))
    (λ call k l. leads-write (nexts.Send call) (writing.Room file saved) shelf next new after others l (k, tt))
    (λ k l. leads-write nexts.Wait (writing.Room file saved) shelf next new after others l (k, tt))
    ended told c f
  where
    ended : (result : Result (Unit {0}) Fault) → (others ≡ 0) × (of_saving saved ≡ 0) → writes.Follows (ends_as result) wsize m file saved turn shelf next new after → Plain next others (of_writing new)
    ended (Ok nothing) k l = from-none next others (of_writing new) (Unit {0}) k.0
        (writes-leave wsize m.lane file m.offset (writes.made_bytes m.text) turn (record shelf { order = left m.lane shelf.order }) next new after l)
    ended (Err fault) k l = leads-write (nexts.Done (answers.Refused fault)) writing.Idle (record shelf { order = left m.lane shelf.order }) next new after others l k.0

pub write-takes : (at : Writing) (wsize : ℕ) (m : WriteFile) (sent turn : Turn) (came : Result Reply Fault) (shelf : Shelf) (next : Step) (new : Writing) (after : Shelf) (others : ℕ)
    → of_writing at ≡ others + 1 → writes.TakesIn at wsize m sent turn came shelf next new after → Plain next others (of_writing new)
write-takes writing.Idle wsize m sent turn came shelf next new after others one t = absurd (omega (arith, one))
write-takes (writing.Room file saving) wsize m sent turn came shelf next new after others one t =
    follows-write t.told wsize m file t.saved turn _ next new after others
    (save-takes wsize sent turn came shelf.repeats saving shelf.back t.told t.saved t.back t.repeats others one t.takes) t.follows

-- ---- syncs

sync-as : (gives : _) (saved : Saving) (next : Step) (state : Syncing) (before : ℕ) → next ≡ syncs.sync_next gives → state ≡ syncs.sync_state gives saved
    → SaveCounts gives before (of_saving saved) → Plain next before (of_syncing state)
sync-as gives saved next state before is to c = by-step
    (λ g. next ≡ syncs.sync_next g → state ≡ syncs.sync_state g saved → SaveCounts g before (of_saving saved) → Plain next before (of_syncing state))
    (λ call n t k. sends-leaves call next before (of_syncing state) (Unit {0}) n (ap of_syncing t ∙ k) tt)
    (λ n t k. waits-leaves next before (of_syncing state) (Unit {0}) n (ap of_syncing t ∙ k) tt)
    (λ result n t k. done-leaves (syncs.answer_of result) next before (of_syncing state) (Unit {0}) n k.0) gives is to c

sync-queues : (b : Bool) (wsize lane : ℕ) (turn : Turn) (saving : Saving) (old : Shelf) (next : Step) (state : Syncing) (new : Shelf)
    → syncs.QueuesIf b wsize lane turn saving old next state new → Plain next (of_saving saving) (of_syncing state)
sync-queues true wsize lane turn saving old next state new q =
    sync-as q.gives q.saved next state (of_saving saving) q.follows.next_is q.follows.state_is (save-goes wsize turn.xid turn.room false saving old.back q.gives q.saved new.back q.goes)
sync-queues false wsize lane turn saving old next state new q = waits-leaves next (of_saving saving) (of_syncing state) (Unit {0}) q.next_is (ap of_syncing q.state_is) tt

pub sync-starts : (found : Option (List ℕ)) (wsize : ℕ) (m : SyncFile) (turn : Turn) (old : Shelf) (next : Step) (state : Syncing) (new : Shelf)
    → syncs.StartsAt found wsize m turn old next state new → Plain next 0 (of_syncing state)
sync-starts None wsize m turn old next state new s = done-leaves (answers.Refused faults.Slot) next 0 (of_syncing state) (Unit {0}) s.next_is refl
sync-starts (Some file) wsize m turn old next state new s =
    sync-queues (is_first m.lane (joined m.lane file old).order) wsize m.lane turn (saves.begun file old.seq) (joined m.lane file old) next state new s

pub sync-resumes : (at : Syncing) (wsize : ℕ) (m : SyncFile) (turn : Turn) (old : Shelf) (next : Step) (state : Syncing) (new : Shelf)
    → syncs.Resumes at wsize m turn old next state new → Plain next (of_syncing at) (of_syncing state)
sync-resumes syncing.Idle wsize m turn old next state new r = waits-leaves next 0 (of_syncing state) (Unit {0}) r.next_is (ap of_syncing r.state_is) tt
sync-resumes (syncing.Saves saving) wsize m turn old next state new r = sync-queues (is_first m.lane old.order) wsize m.lane turn saving old next state new r

pub sync-takes : (at : Syncing) (wsize : ℕ) (m : SyncFile) (sent turn : Turn) (came : Result Reply Fault) (old : Shelf) (next : Step) (state : Syncing) (new : Shelf) (others : ℕ)
    → of_syncing at ≡ others + 1 → syncs.Takes at wsize m sent turn came old next state new → Plain next others (of_syncing state)
sync-takes syncing.Idle wsize m sent turn came old next state new others one t = absurd (omega (arith, one))
sync-takes (syncing.Saves saving) wsize m sent turn came old next state new others one t =
    sync-as t.gives t.saved next state others t.follows.next_is t.follows.state_is
    (save-takes wsize sent turn came old.repeats saving old.back t.gives t.saved new.back new.repeats others one t.takes)

-- ---- closes

abbrev pub CloseLeaves : Step → ℕ → Closing → Type 0
CloseLeaves next before state = Leaves next before (of_closing state) (ClosingCounted state)

close-as : (to : Closing) (next : Step) (before : ℕ) (state : Closing) → state ≡ to → CloseLeaves next before to → CloseLeaves next before state
close-as to next before state is l = subst (λ (s : Closing). CloseLeaves next before s) (sym is) l

close-asks : (room : Bool) (removal : Removal) (next : Step) (state : Closing) (before : ℕ) → before ≡ 0 → next ≡ closes.ask_next room removal → state ≡ closes.ask_state room removal
    → CloseLeaves next before state
close-asks true removal next state before none is to =
    close-as (closing.Removing removal) next before state to (sends-leaves (remove_of removal) next before 1 (Unit {0}) is (omega (arith, none)) tt)
close-asks false removal next state before none is to =
    close-as (closing.ToRemove removal) next before state to (waits-leaves next before 0 (Unit {0}) is (sym none) tt)

close-ends : (lane : ℕ) (file : List ℕ) (why : Option Fault) (old : Shelf) (next : Step) (state : Closing) (new : Shelf) (before : ℕ) → before ≡ 0
    → closes.Ends lane file why old next state new → CloseLeaves next before state
close-ends lane file why old next state new before none e = done-leaves (closed_answer why) next before (of_closing state) (ClosingCounted state) e.next_is none

close-ends-at : (place : Option (List ℕ × List ℕ)) (lane : ℕ) (room : Bool) (file : List ℕ) (why : Option Fault) (old : Shelf) (next : Step) (state : Closing) (new : Shelf)
    (before : ℕ) → before ≡ 0 → closes.EndsAt place lane room file why old next state new → CloseLeaves next before state
close-ends-at None lane room file why old next state new before none e = close-ends lane file why old next state new before none e
close-ends-at (Some place) lane room file why old next state new before none e = close-asks room _ next state before none e.next_is e.state_is

close-frees : (lane slot : ℕ) (room : Bool) (file : List ℕ) (why : Option Fault) (old : Shelf) (next : Step) (state : Closing) (new : Shelf) (before : ℕ) → before ≡ 0
    → closes.Frees lane slot room file why old next state new → CloseLeaves next before state
close-frees lane slot room file why old next state new before none f = close-ends-at f.place lane room file why f.freed next state new before none f.ends

close-waits : (begun : Bool) (saving : Saving) (before : ℕ) → (begun ≡ false → before ≡ 0) → of_saving saving ≡ before
    → (of_closing (closes.waits_as begun saving) ≡ before) × ClosingCounted (closes.waits_as begun saving)
close-waits true saving before none c = (c, tt)
close-waits false saving before none c = (sym (none refl), c ∙ none refl)

close-follows : (gives : _) (lane slot : ℕ) (room begun : Bool) (saving : Saving) (old : Shelf) (next : Step) (state : Closing) (new : Shelf) (before : ℕ)
    → (begun ≡ false → before ≡ 0) → SaveCounts gives before (of_saving saving) → closes.Follows gives lane slot room begun saving old next state new → CloseLeaves next before state
close-follows gives lane slot room begun saving old next state new before none c f = by-step
    (λ g. SaveCounts g before (of_saving saving) → closes.Follows g lane slot room begun saving old next state new → CloseLeaves next before state)
    (λ call k l. close-as (closing.Saves saving) next before state l.1 (sends-leaves call next before (of_saving saving) (Unit {0}) l.0 k tt))
    (λ k l.
    let w = close-waits begun saving before none k in
    close-as (closes.waits_as begun saving) next before state l.1
    (waits-leaves next before (of_closing (closes.waits_as begun saving)) (ClosingCounted (closes.waits_as begun saving)) l.0 w.0 w.1))
    (λ result k l. close-frees lane slot room saving.file (refusal_of result) old next state new before k.0 l) gives c f

close-goes : (wsize lane slot : ℕ) (turn : Turn) (begun : Bool) (saving : Saving) (old : Shelf) (next : Step) (state : Closing) (new : Shelf)
    → (begun ≡ false → of_saving saving ≡ 0) → closes.GoesOn wsize lane slot turn begun saving old next state new → CloseLeaves next (of_saving saving) state
close-goes wsize lane slot turn begun saving old next state new none g =
    close-follows g.gives lane slot turn.room begun g.saved g.gone next state new (of_saving saving) none
    (save-goes wsize turn.xid turn.room false saving old.back g.gives g.saved g.gone.back g.goes) g.follows

close-begins : (end : Option ℕ) (wsize lane slot : ℕ) (turn : Turn) (saving : Saving) (old : Shelf) (next : Step) (state : Closing) (new : Shelf) → of_saving saving ≡ 0
    → closes.Begins end wsize lane slot turn saving old next state new → CloseLeaves next 0 state
close-begins None wsize lane slot turn saving old next state new none b = close-frees lane slot turn.room saving.file None old next state new 0 refl b
close-begins (Some end) wsize lane slot turn saving old next state new none b =
    subst (λ (n : ℕ). CloseLeaves next n state) none (close-goes wsize lane slot turn false saving old next state new (λ is. none) b)

close-queues : (b : Bool) (wsize lane slot : ℕ) (turn : Turn) (saving : Saving) (old : Shelf) (next : Step) (state : Closing) (new : Shelf) → of_saving saving ≡ 0
    → closes.QueuesIf b wsize lane slot turn saving old next state new → CloseLeaves next 0 state
close-queues true wsize lane slot turn saving old next state new none q =
    close-begins (last_end (of_file saving.file old.back).segments) wsize lane slot turn saving old next state new none q
close-queues false wsize lane slot turn saving old next state new none q =
    close-as (closing.Queued saving) next 0 state q.state_is (waits-leaves next 0 0 (of_saving saving ≡ 0) q.next_is refl none)

pub close-starts : (found : Option (List ℕ)) (wsize : ℕ) (m : CloseFile) (turn : Turn) (old : Shelf) (next : Step) (state : Closing) (new : Shelf)
    → closes.StartsAt found wsize m turn old next state new → CloseLeaves next 0 state
close-starts None wsize m turn old next state new s = done-leaves (answers.Refused faults.Slot) next 0 (of_closing state) (ClosingCounted state) s.next_is refl
close-starts (Some file) wsize m turn old next state new s =
    close-queues (is_first m.lane (joined m.lane file old).order) wsize m.lane m.slot turn (saves.begun file old.seq) (joined m.lane file old) next state new refl s

close-on : (b : Bool) (wsize lane slot : ℕ) (turn : Turn) (saving : Saving) (old : Shelf) (next : Step) (state : Closing) (new : Shelf)
    → closes.GoesOnIf b wsize lane slot turn saving old next state new → CloseLeaves next (of_saving saving) state
close-on true wsize lane slot turn saving old next state new g = close-goes wsize lane slot turn true saving old next state new (λ is. absurd cc) g
close-on false wsize lane slot turn saving old next state new g =
    close-as (closing.Saves saving) next (of_saving saving) state g.state_is (waits-leaves next (of_saving saving) (of_saving saving) (Unit {0}) g.next_is refl tt)

pub close-resumes : (at : Closing) (wsize : ℕ) (m : CloseFile) (turn : Turn) (old : Shelf) (next : Step) (state : Closing) (new : Shelf) → ClosingCounted at
    → closes.Resumes at wsize m turn old next state new → CloseLeaves next (of_closing at) state
close-resumes closing.Idle wsize m turn old next state new counted r = close-as closing.Idle next 0 state r.state_is (waits-leaves next 0 0 (Unit {0}) r.next_is refl tt)
close-resumes (closing.Queued saving) wsize m turn old next state new counted r = close-queues (is_first m.lane old.order) wsize m.lane m.slot turn saving old next state new counted r
close-resumes (closing.Saves saving) wsize m turn old next state new counted r = close-on (is_first m.lane old.order) wsize m.lane m.slot turn saving old next state new r
close-resumes (closing.ToRemove removal) wsize m turn old next state new counted r = close-asks turn.room removal next state 0 refl r.next_is r.state_is
close-resumes (closing.Removing removal) wsize m turn old next state new counted r =
    close-as (closing.Removing removal) next 1 state r.state_is (waits-leaves next 1 1 (Unit {0}) r.next_is refl tt)

close-removed : (again : Bool) (lane : ℕ) (removal : Removal) (old : Shelf) (next : Step) (state : Closing) (new : Shelf) (others : ℕ) → 1 ≡ others + 1 → others ≡ 0
    → closes.EndsIf again lane removal old next state new → CloseLeaves next others state
close-removed true lane removal old next state new others one none e =
    close-as (closing.Removing removal) next others state e.state_is (sends-leaves (remove_of removal) next others 1 (Unit {0}) e.next_is one tt)
close-removed false lane removal old next state new others one none e = close-ends lane removal.file removal.refusal old next state new others none e

pub close-takes : (at : Closing) (wsize : ℕ) (m : CloseFile) (sent turn : Turn) (came : Result Reply Fault) (old : Shelf) (next : Step) (state : Closing) (new : Shelf) (others : ℕ)
    → of_closing at ≡ others + 1 → closes.Takes at wsize m sent turn came old next state new → CloseLeaves next others state
close-takes closing.Idle wsize m sent turn came old next state new others one t = absurd (omega (arith, one))
close-takes (closing.Queued saving) wsize m sent turn came old next state new others one t = absurd (omega (arith, one))
close-takes (closing.Saves saving) wsize m sent turn came old next state new others one t =
    close-follows t.gives m.lane m.slot turn.room true t.saved t.took next state new others (λ is. absurd cc)
    (save-takes wsize sent turn came old.repeats saving old.back t.gives t.saved t.took.back t.took.repeats others one t.takes) t.follows
close-takes (closing.ToRemove removal) wsize m sent turn came old next state new others one t = absurd (omega (arith, one))
close-takes (closing.Removing removal) wsize m sent turn came old next state new others one t =
    close-removed (goes_again (remove_busy came) sent turn old.repeats) m.lane removal t.took next state new others one (omega (arith, one)) t.ends

-- ---- truncates

truncate-queued : (b : Bool) (call : Call) (file : List ℕ) (upto : ℕ) (next : Step) (state : Truncating) → next ≡ (if b then nexts.Send call else nexts.Wait)
    → state ≡ (if b then truncating.Asked file upto else truncating.Queued file upto) → Plain next 0 (of_truncating state)
truncate-queued true call file upto next state is to = sends-leaves call next 0 (of_truncating state) (Unit {0}) is (ap of_truncating to) tt
truncate-queued false call file upto next state is to = waits-leaves next 0 (of_truncating state) (Unit {0}) is (ap of_truncating to) tt

pub truncate-starts : (found : Result (List ℕ) Fault) (m : TruncateFile) (turn : Turn) (old : Shelf) (next : Step) (state : Truncating) → next ≡ truncates.begun_next found m turn old
    → state ≡ truncates.begun_state found m turn old → Plain next 0 (of_truncating state)
truncate-starts (Ok file) m turn old next state is to =
    truncate-queued (truncates.may_ask m.lane file turn (joined m.lane file old)) (truncates.size_call file m.size) file old.seq next state is to
truncate-starts (Err fault) m turn old next state is to = done-leaves (answers.Refused fault) next 0 (of_truncating state) (Unit {0}) is refl

pub truncate-resumes : (at : Truncating) (m : TruncateFile) (turn : Turn) (old : Shelf) (next : Step) (state : Truncating) → next ≡ truncates.resumed_next at m turn old
    → state ≡ truncates.resumed_state at m turn old → Plain next (of_truncating at) (of_truncating state)
truncate-resumes truncating.Idle m turn old next state is to = waits-leaves next 0 (of_truncating state) (Unit {0}) is (ap of_truncating to) tt
truncate-resumes (truncating.Queued file upto) m turn old next state is to =
    truncate-queued (truncates.may_ask m.lane file turn old) (truncates.size_call file m.size) file upto next state is to
truncate-resumes (truncating.Asked file upto) m turn old next state is to = waits-leaves next 1 (of_truncating state) (Unit {0}) is (ap of_truncating to) tt

truncate-ended : (again : Bool) (told : Result Wcc Fault) (call : Call) (at : Truncating) (next : Step) (state : Truncating) (others : ℕ) → of_truncating at ≡ others + 1 → others ≡ 0
    → next ≡ (if again then nexts.Send call else truncates.told_next told) → state ≡ truncates.ended_state again at → Plain next others (of_truncating state)
truncate-ended true told call at next state others one none is to = sends-leaves call next others (of_truncating state) (Unit {0}) is (ap of_truncating to ∙ one) tt
truncate-ended false (Ok wcc) call at next state others one none is to = done-leaves (answers.Done values.Nothing) next others (of_truncating state) (Unit {0}) is none
truncate-ended false (Err fault) call at next state others one none is to = done-leaves (answers.Refused fault) next others (of_truncating state) (Unit {0}) is none

pub truncate-takes : (at : Truncating) (m : TruncateFile) (came : Result Reply Fault) (sent turn : Turn) (repeats : List Repeat) (next : Step) (state : Truncating) (others : ℕ)
    → of_truncating at ≡ others + 1 → next ≡ truncates.took_next at m came sent turn repeats → state ≡ truncates.took_state at came sent turn repeats → Plain next others (of_truncating state)
truncate-takes truncating.Idle m came sent turn repeats next state others one is to = absurd (omega (arith, one))
truncate-takes (truncating.Queued file upto) m came sent turn repeats next state others one is to = absurd (omega (arith, one))
truncate-takes (truncating.Asked file upto) m came sent turn repeats next state others one is to =
    truncate-ended (truncates.size_again came sent turn repeats) (truncates.size_told came) (truncates.size_call file m.size) (truncating.Asked file upto) next state others
    one (omega (arith, one)) is to
