-- Which faults a step of an opening, an open or a read gives: want of memory, and what it makes of what came of its call.
use Rattle.core_answers.proofs.Prelude.{◌≡◌, ◌-◌, ◌||◌, ℕ, not, Bool, true, false, List, Option, Some, None, Result, Ok, Err, inl, inr, sym, subst, refl, if◌then◌else◌, Attr, Mode, Opened, Opens, Pages, known_of, Fault, Reply, Pending, Step, Repeat, Turn, OpenFile, Led, Opening, OpeningStep, ReadFile, Phase, Reading, Said, part, refusal, said_to, got_by, looked, OpeningPhase, FineResult, FineNext, fine-as, fine-fault}
use Rattle.open_files.specs.Slots.{Place}
use Rattle.core_facts.proofs.Faults.{again-fine}
use Rattle.std.specs.FinMap as finite
use Rattle.nfs_types.specs.declared.mode.Mode.TheVariants as modes
use Rattle.xdr_codec.specs.declared.blob.Memory as memory
use Rattle.world_model.specs.declared.answer.Answer.TheVariants as answers
use Rattle.world_model.specs.declared.answer.Fault.TheVariants as faults
use Rattle.client_shelf.specs.declared.step.Step.TheVariants as nexts
use Rattle.file_ops.specs.declared.opening.Led.TheVariants as leads
use Rattle.file_ops.specs.declared.opening.OpeningStep.TheVariants as openings
use Rattle.file_ops.specs.declared.reading.Phase.TheVariants as phases
use Rattle.file_ops.specs.OpenFile as opens
use Rattle.file_ops.specs.Opening as opening
use Rattle.file_ops.specs.ReadFile as reads
use Rattle.file_ops.specs.Reading as reading
use Rattle.file_ops.specs.declared.opening.OpeningPhase.TheVariants as opening_steps
use Rattle.core_answers.proofs.answers.SaveFaults.{CallFaults}

module _ (P : Fault → Type 0) (own : CallFaults P) where
  -- ---- openings

  abbrev pub FineOpening : OpeningStep → Type 0
  FineOpening (openings.Send call) = Unit {0}
  FineOpening openings.Wait = Unit {0}
  FineOpening (openings.Ended result) = FineResult P result

  abbrev pub FineLed : Led → Type 0
  FineLed (leads.Goes step) = Unit {0}
  FineLed (leads.Opens file attr) = Unit {0}
  FineLed (leads.Knows file stamp) = Unit {0}
  FineLed (leads.Ends fault) = P fault

  waits-opening : (b : Bool) (o : Opening) → FineOpening (if b then openings.Wait else openings.Send (opening.call_of o o.step))
  waits-opening true o = tt
  waits-opening false o = tt

  pub go-opening : (o : Opening) (turn : Turn) → FineOpening (opening.go_next o turn)
  go-opening o turn = waits-opening (o.asked || not turn.room) o

  pub opening-next : (step : OpeningStep) → FineOpening step → FineNext P (opens.goes_as step)
  opening-next (openings.Send call) f = tt
  opening-next openings.Wait f = tt
  opening-next (openings.Ended (Ok file)) f = tt
  opening-next (openings.Ended (Err fault)) f = f

  at-known : (b : Bool) (one other : Led) → FineLed one → FineLed other → FineLed (if b then one else other)
  at-known true one other f g = f
  at-known false one other f g = g

  known-at : (file : List ℕ) (attr : Option Attr) (known : _) → FineLed (opening.known_at file attr known)
  known-at file (Some attr) (Some stamp) = at-known _ (leads.Knows file stamp) (leads.Goes (opening_steps.Ask file)) tt tt
  known-at file None known = tt
  known-at file (Some attr) None = tt

  known-step : (step : OpeningPhase) (now : ℕ) (attrs : _) (pages : Pages) → FineLed (opening.known_step step now attrs pages)
  known-step (opening_steps.Ask file) now attrs pages = known-at file (looked file now attrs) (known_of file pages)
  known-step opening_steps.Look now attrs pages = tt
  known-step opening_steps.Make now attrs pages = tt
  known-step opening_steps.Find now attrs pages = tt

  known-led : (led : Led) (now : ℕ) (attrs : _) (pages : Pages) → FineLed led → FineLed (opening.known_led led now attrs pages)
  known-led (leads.Goes step) now attrs pages f = known-step step now attrs pages
  known-led (leads.Opens file attr) now attrs pages f = tt
  known-led (leads.Knows file stamp) now attrs pages f = tt
  known-led (leads.Ends fault) now attrs pages f = f

  -- what it makes of what came of its call
  abbrev pub FitsOpening : Opening → Result Reply Fault → Type 0
  FitsOpening o came = FineLed (opening.told_led o came)

  pub led-on : (o : Opening) (now : ℕ) (came : Result Reply Fault) (attrs : _) (pages : Pages) → FitsOpening o came → FineLed (opening.led_on o now came attrs pages)
  led-on o now came attrs pages f =
      let led = opening.told_led o came in
      at-known o.nocto (opening.known_led led now attrs pages) led (known-led led now attrs pages f) f

  opened-fine : (file : List ℕ) (to : Pages) (result : Result (List ℕ) Fault) (old new : Pages) → opening.FileOpened file to result old new → FineResult P result
  opened-fine file to (Ok opened_file) old new o = tt
  opened-fine file to (Err fault) old new o = fine-fault P fault faults.Memory o.0 own.memory

  fine-opening : (to step : OpeningStep) → step ≡ to → FineOpening to → FineOpening step
  fine-opening to step is f = subst FineOpening (sym is) f

  pub opening-took : (again : Bool) (o : Opening) (sent turn : Turn) (led : Led) (step : OpeningStep) (old new : Pages) → FineLed led → opening.LedIf again o sent turn led step old new → FineOpening step
  opening-took true o sent turn led step old new f l = fine-opening (openings.Send (opening.call_of o o.step)) step l.0 tt
  opening-took false o sent turn (leads.Goes to) step old new f l = fine-opening (opening.go_next (opening.at_step o to) turn) step l.0 (go-opening (opening.at_step o to) turn)
  opening-took false o sent turn (leads.Opens file attr) (openings.Ended result) old new f l = opened-fine file _ result old new l
  opening-took false o sent turn (leads.Opens file attr) (openings.Send call) old new f l = tt
  opening-took false o sent turn (leads.Opens file attr) openings.Wait old new f l = tt
  opening-took false o sent turn (leads.Knows file stamp) (openings.Ended result) old new f l = opened-fine file _ result old new l
  opening-took false o sent turn (leads.Knows file stamp) (openings.Send call) old new f l = tt
  opening-took false o sent turn (leads.Knows file stamp) openings.Wait old new f l = tt
  opening-took false o sent turn (leads.Ends fault) step old new f l = fine-opening (openings.Ended (Err fault)) step l.0 f

  -- ---- opens

  pub open-starts : (b : Bool) (m : OpenFile) (turn : Turn) (next : Step) → (b ≡ true → P faults.Slot) → next ≡ (if b then opens.refused faults.Slot else opens.goes_as (opening.go_next (opens.begun m turn).opening turn)) → FineNext P next
  open-starts true m turn next place is = fine-as P (opens.refused faults.Slot) next is (place refl)
  open-starts false m turn next place is = fine-as P _ next is (opening-next (opening.go_next (opens.begun m turn).opening turn) (go-opening (opens.begun m turn).opening turn))

  puts-open : (there : Option Opened) (at : Place) (of : Opened) (next : Step) (old new : Opens) → ((other : Opened) → there ≡ Some other → P faults.Slot) → opens.PutsOver there at of next old new
      → FineNext P next
  puts-open (Some other) at of next old new place p = fine-as P (opens.refused faults.Slot) next p.0 (place other refl)
  puts-open None at of next old new place (inl p) = fine-as P opens.well next p.0 tt
  puts-open None at of next old new place (inr p) = fine-as P (opens.refused faults.Memory) next p.0 own.memory

  pub open-follows : (m : OpenFile) (step : OpeningStep) (next : Step) (old new : Opens) → ((other : Opened) → finite.get old (opens.place_of m) ≡ Some other → P faults.Slot) → FineOpening step → opens.Follows m step next old new → FineNext P next
  open-follows m (openings.Send call) next old new place f l = fine-as P (nexts.Send call) next l.0 tt
  open-follows m openings.Wait next old new place f l = fine-as P nexts.Wait next l.0 tt
  open-follows m (openings.Ended (Ok file)) next old new place f l = puts-open (finite.get old (opens.place_of m)) (opens.place_of m) (opens.opened_of m.opening file) next old new place l
  open-follows m (openings.Ended (Err fault)) next old new place f l = fine-as P (opens.refused fault) next l.0 f

  -- ---- reads

  stays-read : (p : Phase) (r : Reading) (back : Pending) (next : Step) → reading.Stays p r back next → FineNext P next
  stays-read phases.Attrs r back next s = fine-as P nexts.Wait next s tt
  stays-read phases.AskedAttrs r back next s = fine-as P nexts.Wait next s tt
  stays-read phases.Pages r back next s = fine-as P nexts.Wait next s tt
  stays-read phases.Rest r back next s = fine-as P nexts.Wait next s tt
  stays-read (phases.Asked count) r back next s = fine-as P nexts.Wait next s tt
  stays-read phases.Ended r back next s = fine-as P (reading.shown_next (reading.answer_of r back)) next s tt

  goes-if : (b : Bool) (back : Pending) (s : reading.State) (next : Step) → reading.GoesIf b back s next → FineNext P next
  goes-if true back s next g = fine-as P (nexts.Send (reading.asked_call s)) next g tt
  goes-if false back s next g = stays-read s.reading.phase s.reading back next g

  goes-read : (room : Bool) (back : Pending) (s : reading.State) (next : Step) → reading.Goes room back s next → FineNext P next
  goes-read room back s next g = goes-if (reading.asks room s) back s next g

  begun-in : (mode : Mode) (moment : ℕ) (m : ReadFile) (file : List ℕ) (back : Pending) → (mode ≡ modes.W → P faults.Mode) → FineResult P (reads.begun_in mode moment m file back)
  begun-in modes.W moment m file back right = right refl
  begun-in modes.R moment m file back right = tt
  begun-in modes.RW moment m file back right = tt
  begun-in modes.C moment m file back right = tt
  begun-in modes.X moment m file back right = tt

  begun-at : (opened : Option Opened) (moment : ℕ) (m : ReadFile) (back : Pending) → (opened ≡ None → P faults.Slot) → ((o : Opened) → opened ≡ Some o → o.mode ≡ modes.W → P faults.Mode)
      → FineResult P (reads.begun_at opened moment m back)
  begun-at None moment m back place right = place refl
  begun-at (Some o) moment m back place right = begun-in o.mode moment m o.file back (right o refl)

  begins-fine : (tried result : Result Reading Fault) → FineResult P tried → reads.Begins tried result → FineResult P result
  begins-fine (Err fault) result n b = subst (FineResult P) (sym b) n
  begins-fine (Ok r) result n (inl b) = subst (FineResult P) (sym b) tt
  begins-fine (Ok r) result n (inr b) = subst (FineResult P) (sym b) own.memory

  starts-with : (begun : Result Reading Fault) (room : Bool) (m : ReadFile) (pages : Pages) (back : Pending) (next : Step) (new : ReadFile) (later : Pages) → FineResult P begun
      → reads.StartsWith begun room m pages back next new later → FineNext P next
  starts-with (Err fault) room m pages back next new later n s = fine-as P (reading.refused fault) next s.step n
  starts-with (Ok r) room m pages back next new later n s = goes-read room back (reading.settled r pages) next s.step

  pub read-starts : (opened : Option Opened) (turn : Turn) (m : ReadFile) (pages : Pages) (back : Pending) (next : Step) (new : ReadFile) (later : Pages)
      → (opened ≡ None → P faults.Slot) → ((o : Opened) → opened ≡ Some o → o.mode ≡ modes.W → P faults.Mode) → reads.Starts opened turn m pages back next new later → FineNext P next
  read-starts opened turn m pages back next new later place right s =
      starts-with s.reading turn.room m pages back next new later
      (begins-fine (reads.begun_at opened (turn.moment - 1) m back) s.reading (begun-at opened (turn.moment - 1) m back place right) s.begins) s.goes

  pub read-resumes : (of : Option Reading) (room : Bool) (m : ReadFile) (pages : Pages) (back : Pending) (next : Step) (new : ReadFile) (later : Pages)
      → reads.ResumesIn of room m pages back next new later → FineNext P next
  read-resumes None room m pages back next new later s = fine-as P nexts.Wait next s.step tt
  read-resumes (Some r) room m pages back next new later s = goes-read room back (reading.settled r pages) next s.step

  opened-read : (result : Result (Unit {0}) memory.Memory) (turn : Turn) (r : Reading) (pages : Pages) (back : Pending) (next : Step) (new : reading.State)
      → reading.AfterOpened result turn r pages back next new → FineNext P next
  opened-read (Ok done) turn r pages back next new a = goes-read turn.room back (reading.settled (record r { phase = phases.Pages }) pages) next a.0
  opened-read (Err no_memory) turn r pages back next new a = fine-as P (reading.refused faults.Memory) next a.0 own.memory

  attrs-read : (told : Result Attr Fault) (again : Bool) (sent turn : Turn) (r : Reading) (pages : Pages) (back : Pending) (next : Step) (new : reading.State) → FineResult P told
      → reading.TakesAttrs again told sent turn r pages back next new → FineNext P next
  attrs-read (Ok attr) again sent turn r pages back next new n t = opened-read t.result turn r t.later back next new t.goes
  attrs-read (Err fault) again sent turn r pages back next new n t = again-fine P again (reading.attrs_call r.file) (answers.Refused fault) next t.0 n

  abbrev pub FineSaid : Said → Type 0
  FineSaid (part attr eof bytes) = Unit {0}
  FineSaid (refusal attr fault) = P fault

  part-read : (said : Said) (again : Bool) (sent turn : Turn) (r : Reading) (pages : Pages) (back : Pending) (next : Step) → FineSaid said → reading.Tells again sent turn said r pages back next → FineNext P next
  part-read (part attr eof bytes) again sent turn r pages back next n t = goes-read turn.room back _ next t
  part-read (refusal attr fault) again sent turn r pages back next n t = again-fine P again (reading.part_call r) (answers.Refused fault) next t n

  -- what it makes of what came of its call
  abbrev pub FitsPhase : Phase → Result Reply Fault → Type 0
  FitsPhase phases.Attrs came = Unit {0}
  FitsPhase phases.AskedAttrs came = FineResult P (got_by came)
  FitsPhase phases.Pages came = Unit {0}
  FitsPhase phases.Rest came = Unit {0}
  FitsPhase (phases.Asked count) came = FineSaid (said_to count came)
  FitsPhase phases.Ended came = Unit {0}

  heard-read : (p : Phase) (sent turn : Turn) (came : Result Reply Fault) (repeats : List Repeat) (r : Reading) (pages : Pages) (back : Pending) (next : Step) (new : reading.State) → FitsPhase p came
      → reading.TakesPart (reading.heard p came) sent turn repeats r pages back next new → FineNext P next
  heard-read phases.Attrs sent turn came repeats r pages back next new n t = fine-as P nexts.Wait next t.0 tt
  heard-read phases.AskedAttrs sent turn came repeats r pages back next new n t = fine-as P nexts.Wait next t.0 tt
  heard-read phases.Pages sent turn came repeats r pages back next new n t = fine-as P nexts.Wait next t.0 tt
  heard-read phases.Rest sent turn came repeats r pages back next new n t = fine-as P nexts.Wait next t.0 tt
  heard-read (phases.Asked count) sent turn came repeats r pages back next new n t = part-read (said_to count came) _ sent turn r pages back next n t.0
  heard-read phases.Ended sent turn came repeats r pages back next new n t = fine-as P nexts.Wait next t.0 tt

  waits-fine : (p : Phase) (came : Result Reply Fault) → reading.waits_attrs p ≡ true → FitsPhase p came → FineResult P (got_by came)
  waits-fine phases.AskedAttrs came is n = n
  waits-fine phases.Attrs came is n = absurd (cc)
  waits-fine phases.Pages came is n = absurd (cc)
  waits-fine phases.Rest came is n = absurd (cc)
  waits-fine (phases.Asked count) came is n = absurd (cc)
  waits-fine phases.Ended came is n = absurd (cc)

  reply-read : (b : Bool) (sent turn : Turn) (came : Result Reply Fault) (repeats : List Repeat) (r : Reading) (pages : Pages) (back : Pending) (next : Step) (new : reading.State)
      → reading.waits_attrs r.phase ≡ b → FitsPhase r.phase came → reading.TakesIf b sent turn came repeats r pages back next new → FineNext P next
  reply-read true sent turn came repeats r pages back next new is n t = attrs-read (got_by came) _ sent turn r pages back next new (waits-fine r.phase came is n) t
  reply-read false sent turn came repeats r pages back next new is n t = heard-read r.phase sent turn came repeats r pages back next new n t

  abbrev pub FitsRead : Option Reading → Result Reply Fault → Type 0
  FitsRead None came = Unit {0}
  FitsRead (Some r) came = FitsPhase r.phase came

  pub read-takes : (of : Option Reading) (sent turn : Turn) (came : Result Reply Fault) (repeats : List Repeat) (m : ReadFile) (pages : Pages) (back : Pending) (next : Step)
      (new : ReadFile) (later : Pages) → FitsRead of came → reads.TakesIn of sent turn came repeats m pages back next new later → FineNext P next
  read-takes None sent turn came repeats m pages back next new later n t = fine-as P nexts.Wait next t.step tt
  read-takes (Some r) sent turn came repeats m pages back next new later n t = reply-read (reading.waits_attrs r.phase) sent turn came repeats r pages back next t.state refl n t.step
