-- For which call a read waits: for the attributes of its file, or for a part of its bytes.
use Rattle.core_answers.proofs.Prelude.{◌≡◌, ◌≤◌, ◌+◌, ◌&&◌, ℕ, Bool, true, false, List, Option, Some, None, Result, Ok, Err, refl, sym, ap, subst, ◌∙◌, arith, if◌then◌else◌, Attr, Opened, Pages, Pending, Fault, Call, Reply, goes_again, fails_busy, Step, Repeat, Turn, ReadFile, Phase, Reading, place_after, Said, part, refusal, got_by, of_phase, of_reading, AskedOf}
use Rattle.nfs_file_calls.specs.declared.call.FileCall.TheVariants as calls_of
use Rattle.xdr_codec.specs.declared.blob.Memory as memory
use Rattle.world_model.specs.declared.answer.Answer.TheVariants as answers
use Rattle.world_model.specs.declared.answer.Fault.TheVariants as faults
use Rattle.world_model.specs.declared.answer.Value.TheVariants as values
use Rattle.world_model.specs.declared.message.Call.TheVariants as calls
use Rattle.client_shelf.specs.declared.step.Step.TheVariants as nexts
use Rattle.file_ops.specs.declared.reading.Phase.TheVariants as phases
use Rattle.file_ops.specs.ReadFile as reads
use Rattle.file_ops.specs.Reading as reading
use Rattle.core_facts.proofs.NamesAwaited.{Sends, sends-as}
use Rattle.core_answers.proofs.asks.OnSteps.{On, on-done, on-waits, on-none}

abbrev pub PhaseNames : Phase → Reading → Call → Type 0
PhaseNames phases.Attrs r call = Unit {0}
PhaseNames phases.AskedAttrs r call = call ≡ reading.attrs_call r.file
PhaseNames phases.Pages r call = Unit {0}
PhaseNames phases.Rest r call = Unit {0}
PhaseNames (phases.Asked n) r call = call ≡ calls.File (calls_of.Read r.file (place_after r.base) n)
PhaseNames phases.Ended r call = Unit {0}

abbrev pub ReadNames : Option Reading → Call → Type 0
ReadNames None call = Unit {0}
ReadNames (Some r) call = PhaseNames r.phase r call

abbrev StateNames : reading.State → Call → Type 0
StateNames s call = PhaseNames s.reading.phase s.reading call

-- ---- a state that goes on

stays-names : (p : Phase) (r : Reading) (back : Pending) (next : Step) (A : Call → Type 0) → reading.Stays p r back next → Sends next A
stays-names phases.Attrs r back next A s = sends-as nexts.Wait next A s tt
stays-names phases.AskedAttrs r back next A s = sends-as nexts.Wait next A s tt
stays-names phases.Pages r back next A s = sends-as nexts.Wait next A s tt
stays-names phases.Rest r back next A s = sends-as nexts.Wait next A s tt
stays-names (phases.Asked n) r back next A s = sends-as nexts.Wait next A s tt
stays-names phases.Ended r back next A s = sends-as (nexts.Done (answers.Done (values.Bytes (reading.answer_of r back)))) next A s tt

goes-names : (room : Bool) (back : Pending) (s : reading.State) (next : Step) → reading.Goes room back s next → Sends next (StateNames (reading.gone room s))
goes-names room back s next g = by (reading.asks room s) g
  where
    asked : (b : Bool) → PhaseNames (if b then record { reading = record s.reading { phase = phases.AskedAttrs }; pages = s.pages } else reading.asked_part s).reading.phase
        (if b then record { reading = record s.reading { phase = phases.AskedAttrs }; pages = s.pages } else reading.asked_part s).reading
        (if b then reading.attrs_call s.reading.file else reading.read_call s)
    asked true = refl
    asked false = refl

    by : (b : Bool) → reading.GoesIf b back s next
        → Sends next (StateNames (if b then reading.asked s else record { reading = reading.answered s.reading.phase s.reading; pages = s.pages }))
    by true is = sends-as (nexts.Send (reading.asked_call s)) next _ is (asked (reading.asks_attrs s.reading.phase))
    by false is = stays-names s.reading.phase s.reading back next _ is

-- ---- a reply

state-names : (next : Step) (to new : reading.State) → new ≡ to → Sends next (StateNames to) → Sends next (StateNames new)
state-names next to new is k = subst (λ (s : reading.State). Sends next (StateNames s)) (sym is) k

refuses-names : (fault : Fault) (next : Step) (A : Call → Type 0) → next ≡ reading.refused fault → Sends next A
refuses-names fault next A is = sends-as (nexts.Done (answers.Refused fault)) next A is tt

again-names : (again : Bool) (call : Call) (fault : Fault) (next : Step) (A : Call → Type 0) → A call → next ≡ reading.again_next again call fault → Sends next A
again-names true call fault next A a is = sends-as (nexts.Send call) next A is a
again-names false call fault next A a is = refuses-names fault next A is

opened-names : (result : Result (Unit {0}) memory.Memory) (turn : Turn) (r : Reading) (pages : Pages) (back : Pending) (next : Step) (new : reading.State)
    → reading.AfterOpened result turn r pages back next new → Sends next (StateNames new)
opened-names (Ok done) turn r pages back next new a =
    state-names next (reading.gone turn.room (reading.settled (record r { phase = phases.Pages }) pages)) new a.1
    (goes-names turn.room back (reading.settled (record r { phase = phases.Pages }) pages) next a.0)
opened-names (Err no_memory) turn r pages back next new a = refuses-names faults.Memory next _ a.0

attrs-names : (told : Result Attr Fault) (again : Bool) (sent turn : Turn) (r : Reading) (pages : Pages) (back : Pending) (next : Step) (new : reading.State) → r.phase ≡ phases.AskedAttrs
    → reading.TakesAttrs again told sent turn r pages back next new → Sends next (StateNames new)
attrs-names (Ok attr) again sent turn r pages back next new is t = opened-names t.result turn r t.later back next new t.goes
attrs-names (Err fault) again sent turn r pages back next new is t =
    state-names next (record { reading = r; pages = pages }) new t.1
    (again-names again (reading.attrs_call r.file) fault next _ (subst (λ (p : Phase). PhaseNames p r (reading.attrs_call r.file)) (sym is) refl) t.0)

said-names : (said : Said) (again : Bool) (n : ℕ) (sent turn : Turn) (r : Reading) (pages : Pages) (back : Pending) (next : Step) → r.phase ≡ phases.Asked n
    → reading.Tells again sent turn said r pages back next → Sends next (StateNames (reading.told sent turn said r pages))
said-names (part attr eof bytes) again n sent turn r pages back next is t =
    goes-names turn.room back (reading.after_part (reading.count_of r.phase) sent.moment attr eof bytes r pages) next t
said-names (refusal attr fault) again n sent turn r pages back next is t =
    again-names again (reading.part_call r) fault next _
    (subst (λ (p : Phase). PhaseNames p r (calls.File (calls_of.Read r.file (place_after r.base) (reading.count_of p)))) (sym is) refl) t

heard-names : (said : Option Said) (n : ℕ) (sent turn : Turn) (repeats : List Repeat) (r : Reading) (pages : Pages) (back : Pending) (next : Step) (new : reading.State) → r.phase ≡ phases.Asked n
    → reading.TakesPart said sent turn repeats r pages back next new → Sends next (StateNames new)
heard-names None n sent turn repeats r pages back next new is t = sends-as nexts.Wait next _ t.0 tt
heard-names (Some said) n sent turn repeats r pages back next new is t =
    state-names next (reading.told sent turn said r pages) new t.1 (said-names said _ n sent turn r pages back next is t.0)

takes-names : (p : Phase) (sent turn : Turn) (came : Result Reply Fault) (repeats : List Repeat) (r : Reading) (pages : Pages) (back : Pending) (next : Step) (new : reading.State) → r.phase ≡ p
    → 1 ≤ of_phase p → reading.TakesIf (reading.waits_attrs p) sent turn came repeats r pages back next new → Sends next (StateNames new)
takes-names phases.AskedAttrs sent turn came repeats r pages back next new is some t =
    attrs-names (got_by came) (goes_again (fails_busy (got_by came)) sent turn repeats) sent turn r pages back next new is t
takes-names (phases.Asked n) sent turn came repeats r pages back next new is some t = heard-names (reading.heard r.phase came) n sent turn repeats r pages back next new is t
takes-names phases.Attrs sent turn came repeats r pages back next new is some t = absurd (omega (arith, some))
takes-names phases.Pages sent turn came repeats r pages back next new is some t = absurd (omega (arith, some))
takes-names phases.Rest sent turn came repeats r pages back next new is some t = absurd (omega (arith, some))
takes-names phases.Ended sent turn came repeats r pages back next new is some t = absurd (omega (arith, some))

-- ---- one that waits stays as it is

room-none : (room : Bool) → (room && false) ≡ false
room-none true = refl
room-none false = refl

waits-same : (p : Phase) (room : Bool) (r : Reading) (pages : Pages) → r.phase ≡ p → 1 ≤ of_phase p → (reading.gone room (reading.settled r pages)).reading ≡ r
waits-same p room r pages is some = ap (λ (q : Phase). (reading.gone room (reading.settled_in q r pages)).reading) is ∙ of p some is
  where
    still : (q : Phase) → reading.wants q ≡ false → reading.answered q r ≡ r → r.phase ≡ q → (reading.gone room (record { reading = r; pages = pages })).reading ≡ r
    still q w same at =
        ap (λ (k : Phase). (if room && reading.wants k then reading.asked (record { reading = r; pages = pages }) else record { reading = reading.answered k r; pages = pages }).reading) at
        ∙ ap (λ (b : Bool). (if room && b then reading.asked (record { reading = r; pages = pages }) else record { reading = reading.answered q r; pages = pages }).reading) w
        ∙ ap (λ (b : Bool). (if b then reading.asked (record { reading = r; pages = pages }) else record { reading = reading.answered q r; pages = pages }).reading) (room-none room)
        ∙ same

    of : (q : Phase) → 1 ≤ of_phase q → r.phase ≡ q → (reading.gone room (reading.settled_in q r pages)).reading ≡ r
    of phases.AskedAttrs more at = still phases.AskedAttrs refl refl at
    of (phases.Asked n) more at = still (phases.Asked n) refl refl at
    of phases.Attrs more at = absurd (omega (arith, more))
    of phases.Pages more at = absurd (omega (arith, more))
    of phases.Rest more at = absurd (omega (arith, more))
    of phases.Ended more at = absurd (omega (arith, more))

-- ---- a read

abbrev pub FileReads : ReadFile → Call → Type 0
FileReads m call = ReadNames m.reading call

abbrev ReadOn : ℕ → ReadFile → Step → ReadFile → Type 0
ReadOn others old next new = On ReadFile FileReads others old next new

asked-so : (next : Step) (s : reading.State) (new : ReadFile) → new.reading ≡ Some s.reading → Sends next (StateNames s) → AskedOf FileReads next new
asked-so (nexts.Send call) s new is k = subst (λ (o : Option Reading). ReadNames o call) (sym is) k
asked-so nexts.Wait s new is k = tt
asked-so (nexts.Done answer) s new is k = tt

goes-from : (room : Bool) (m : ReadFile) (back : Pending) (s : reading.State) (next : Step) (new : ReadFile) (later : Pages) → reads.GoesFrom room m back s next new later → AskedOf FileReads next new
goes-from room m back s next new later g = asked-so next (reading.gone room s) new (ap (λ (k : ReadFile). k.reading) g.machine) (goes-names room back s next g.step)

starts-with : (begun : Result Reading Fault) (room : Bool) (m : ReadFile) (pages : Pages) (back : Pending) (next : Step) (new : ReadFile) (later : Pages)
    → reads.StartsWith begun room m pages back next new later → ReadOn 0 m next new
starts-with (Err fault) room m pages back next new later s = on-done ReadFile FileReads 0 m (answers.Refused fault) next new s.step
starts-with (Ok r) room m pages back next new later s = on-none ReadFile FileReads 0 m next new refl (goes-from room m back (reading.settled r pages) next new later s)

pub read-starts : (opened : Option Opened) (turn : Turn) (m : ReadFile) (pages : Pages) (back : Pending) (next : Step) (new : ReadFile) (later : Pages)
    → reads.Starts opened turn m pages back next new later → ReadOn 0 m next new
read-starts opened turn m pages back next new later s = starts-with s.reading turn.room m pages back next new later s.goes

kept-so : (others : ℕ) (m : ReadFile) (next : Step) (new : ReadFile) → AskedOf FileReads next new → (1 ≤ others → (c : Call) → FileReads m c → FileReads new c) → ReadOn others m next new
kept-so others m (nexts.Send call) new a k = record { asked = a; kept = k }
kept-so others m nexts.Wait new a k = record { asked = tt; kept = k }
kept-so others m (nexts.Done answer) new a k = record { asked = tt; kept = tt }

pub read-resumes : (of : Option Reading) (room : Bool) (m : ReadFile) (pages : Pages) (back : Pending) (next : Step) (new : ReadFile) (later : Pages) → m.reading ≡ of
    → reads.ResumesIn of room m pages back next new later → ReadOn (of_reading of) m next new
read-resumes None room m pages back next new later is s = on-waits ReadFile FileReads 0 m next new s.step s.machine
read-resumes (Some r) room m pages back next new later is s =
    kept-so (of_phase r.phase) m next new (goes-from room m back (reading.settled r pages) next new later s)
    (λ some c e.
    subst (λ (o : Option Reading). ReadNames o c) (sym (ap (λ (k : ReadFile). k.reading) s.machine ∙ ap (λ (k : Reading). Some k) (waits-same r.phase room r pages refl some)))
    (subst (λ (o : Option Reading). ReadNames o c) is e))

one-phase : (p : Phase) → of_phase p ≤ 1
one-phase phases.Attrs = omega arith
one-phase phases.AskedAttrs = omega arith
one-phase phases.Pages = omega arith
one-phase phases.Rest = omega arith
one-phase (phases.Asked n) = omega arith
one-phase phases.Ended = omega arith

pub read-takes : (of : Option Reading) (sent turn : Turn) (came : Result Reply Fault) (repeats : List Repeat) (m : ReadFile) (pages : Pages) (back : Pending) (next : Step) (new : ReadFile)
    (later : Pages) (others : ℕ) → of_reading of ≡ others + 1 → reads.TakesIn of sent turn came repeats m pages back next new later → ReadOn others m next new
read-takes None sent turn came repeats m pages back next new later others one t = absurd (omega (arith, one))
read-takes (Some r) sent turn came repeats m pages back next new later others one t =
    let few = one-phase r.phase in
    on-none ReadFile FileReads others m next new (omega (arith, few, one))
    (asked-so next t.state new (ap (λ (k : ReadFile). k.reading) t.machine)
    (takes-names r.phase sent turn came repeats r pages back next t.state refl (omega (arith, one)) t.step))
