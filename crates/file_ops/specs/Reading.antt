-- A read that has begun: how it goes on, and what a reply makes of it.
use Rattle.std.specs.Prelude.{◌≡◌, ℕ, ◌+◌, ◌/◌, ◌%◌, ◌&&◌, ◌||◌, ◌==◌, not, Bool, true, false, nat_lt, if◌then◌else◌, List, length, Option, None, Some, Result, Ok, Err}
use Rattle.nfs_types.specs.declared.attr.Attr.{Attr}
use Rattle.nfs_file_calls.specs.declared.call.FileCall.TheVariants as files
use Rattle.page_cache.specs.Pages.{Pages, saw}
use Rattle.nfs_types.specs.Stamps.{stamp_of}
use Rattle.xdr_codec.specs.declared.blob.Memory as memory
use Rattle.client_shelf.specs.declared.repeats.Repeat.{Repeat}
use Rattle.client_shelf.specs.declared.turn.Turn.{Turn}
use Rattle.write_back.specs.Files.{Pending}
use Rattle.world_model.specs.declared.answer.Fault.{Fault}
use Rattle.world_model.specs.declared.answer.Fault.TheVariants as faults
use Rattle.world_model.specs.declared.answer.Value.TheVariants as values
use Rattle.world_model.specs.declared.answer.Answer.TheVariants as answers
use Rattle.world_model.specs.declared.message.Call.{Call}
use Rattle.world_model.specs.declared.message.Call.TheVariants as calls
use Rattle.world_model.specs.declared.message.Reply.{Reply}
use Rattle.file_ops.specs.declared.gather.Found.{Found}
use Rattle.file_ops.specs.declared.gather.Found.TheVariants as found
use Rattle.client_shelf.specs.declared.step.Step.{Step}
use Rattle.client_shelf.specs.declared.step.Step.TheVariants.{Send, Wait, Done}
use Rattle.file_ops.specs.declared.reading.Phase.{Phase}
use Rattle.file_ops.specs.declared.reading.Phase.TheVariants as phases
use Rattle.file_ops.specs.declared.reading.Reading.{Reading}
use Rattle.file_ops.specs.Base.{Bytes, place_after, with_more}
use Rattle.file_ops.specs.Gather.{Gathered, gathered, next_count, next_plan}
use Rattle.file_ops.specs.Kept.{all_offered}
use Rattle.file_ops.specs.Overlaid.{shown_over, bytes_from}
use Rattle.client_shelf.specs.Busy.{fails_busy, goes_again, repeats_after}
use Rattle.file_ops.specs.PagesOpened.{PagesOpened}
use Rattle.file_ops.specs.Told.{got_by}
use Rattle.file_ops.specs.ReadReply.{Said, part, refusal, said_to, says_busy}

-- a read, and the kept pages
pub record State : Type 0 where
  pub reading : Reading
  pub pages : Pages

-- the bytes end, unless a page is wanted
abbrev pub phase_of : Found → Phase
phase_of found.Page = phases.Ended
phase_of found.Ended = phases.Ended
phase_of found.Wanted = phases.Pages

abbrev pub with_gathered : Gathered → Reading → State
with_gathered g r = record { reading = record r { base = g.base; phase = phase_of g.found }; pages = g.pages }

-- It takes pages that are kept, if it hasn't asked for a part and doesn't have to.
abbrev pub settled_in : Phase → Reading → Pages → State
settled_in phases.Pages r pages = with_gathered (gathered r.file (r.base.limit / 4096 + 1) r.base pages) r
settled_in phases.Attrs r pages = record { reading = r; pages = pages }
settled_in phases.AskedAttrs r pages = record { reading = r; pages = pages }
settled_in phases.Rest r pages = record { reading = r; pages = pages }
settled_in (phases.Asked count) r pages = record { reading = r; pages = pages }
settled_in phases.Ended r pages = record { reading = r; pages = pages }

abbrev pub settled : Reading → Pages → State
settled r pages = settled_in r.phase r pages

-- whether it is to make a call
abbrev pub wants : Phase → Bool
wants phases.Attrs = true
wants phases.AskedAttrs = false
wants phases.Pages = true
wants phases.Rest = true
wants (phases.Asked count) = false
wants phases.Ended = false

-- whether it waits for the reply to its call
abbrev pub has_asked : Phase → Bool
has_asked phases.Attrs = false
has_asked phases.AskedAttrs = true
has_asked phases.Pages = false
has_asked phases.Rest = false
has_asked (phases.Asked count) = true
has_asked phases.Ended = false

-- whether that is for the file's attributes, and whether it waits for them
abbrev pub asks_attrs : Phase → Bool
asks_attrs phases.Attrs = true
asks_attrs phases.AskedAttrs = false
asks_attrs phases.Pages = false
asks_attrs phases.Rest = false
asks_attrs (phases.Asked count) = false
asks_attrs phases.Ended = false

abbrev pub waits_attrs : Phase → Bool
waits_attrs phases.Attrs = false
waits_attrs phases.AskedAttrs = true
waits_attrs phases.Pages = false
waits_attrs phases.Rest = false
waits_attrs (phases.Asked count) = false
waits_attrs phases.Ended = false

abbrev pub attrs_call : List ℕ → Call
attrs_call file = calls.File (files.GetAttr file)

-- The next READ begins where its bytes end.
abbrev pub read_call : State → Call
read_call s = calls.File (files.Read s.reading.file (place_after s.reading.base) (next_count s.reading.file s.reading.rsize s.reading.base s.pages))

-- it has asked for that
abbrev pub asked_part : State → State
asked_part s = record {
  reading = record s.reading { phase = phases.Asked (next_count s.reading.file s.reading.rsize s.reading.base s.pages) };
  pages = (next_plan s.reading.file s.reading.rsize s.reading.base s.pages).pages;
}

-- its next call, and the read after it
abbrev pub asked_call : State → Call
asked_call s = if asks_attrs s.reading.phase then attrs_call s.reading.file else read_call s

abbrev pub asked : State → State
asked s = if asks_attrs s.reading.phase then record { reading = record s.reading { phase = phases.AskedAttrs }; pages = s.pages } else asked_part s

-- the answer: what the server has, with what was pending and what is pending now over it
abbrev pub answer_of : Reading → Pending → List ℕ
answer_of r back = shown_over r.file r.offset r.space (bytes_from r.offset r.base) r.was back

abbrev pub refused : Fault → Step
refused fault = Done (answers.Refused fault)

abbrev pub shown_next : List ℕ → Step
shown_next bytes = Done (answers.Done (values.Bytes bytes))

-- What it comes to if it has ended, or else waits. The answer takes no memory that it didn't take when it began.
abbrev pub Stays : Phase → Reading → Pending → Step → Type 0
Stays phases.Attrs r back next = next ≡ Wait
Stays phases.AskedAttrs r back next = next ≡ Wait
Stays phases.Pages r back next = next ≡ Wait
Stays phases.Rest r back next = next ≡ Wait
Stays (phases.Asked count) r back next = next ≡ Wait
Stays phases.Ended r back next = next ≡ shown_next (answer_of r back)

-- the answer uses its space up
abbrev pub answered : Phase → Reading → Reading
answered phases.Attrs r = r
answered phases.AskedAttrs r = r
answered phases.Pages r = r
answered phases.Rest r = r
answered (phases.Asked count) r = r
answered phases.Ended r = record r { space = 0 }

-- It makes a call if it is to and there is room.
abbrev pub asks : Bool → State → Bool
asks room s = room && wants s.reading.phase

abbrev pub gone : Bool → State → State
gone room s = if asks room s then asked s else record { reading = answered s.reading.phase s.reading; pages = s.pages }

abbrev pub GoesIf : Bool → Pending → State → Step → Type 0
GoesIf true back s next = next ≡ Send (asked_call s)
GoesIf false back s next = Stays s.reading.phase s.reading back next

abbrev pub Goes : Bool → Pending → State → Step → Type 0
Goes room back s next = GoesIf (asks room s) back s next

-- what a reply tells of the pages: its attributes are seen, and then its pages are offered
abbrev pub noted : Option Attr → List ℕ → ℕ → ℕ → List ℕ → Bool → Pages → Pages
noted None file sent place bytes eof pages = pages
noted (Some attr) file sent place bytes eof pages =
    all_offered file (stamp_of attr) sent place bytes (eof && (place + length bytes == attr.size)) (saw file (stamp_of attr) sent pages)

-- After a part: the bytes end, or those after it are asked for, or pages are taken again.
abbrev pub phase_then : ℕ → Bool → List ℕ → Bytes → Phase
phase_then count eof bytes base =
    if eof then phases.Ended else if nat_lt (length bytes) count || not (place_after base % 4096 == 0) then phases.Rest else phases.Pages

abbrev pub added : ℕ → Bool → List ℕ → Reading → Reading
added count eof bytes r = record r { base = with_more bytes r.base; phase = phase_then count eof bytes (with_more bytes r.base) }

-- the read after a part of so many bytes that it asked for
abbrev pub after_part : ℕ → ℕ → Option Attr → Bool → List ℕ → Reading → Pages → State
after_part count sent attr eof bytes r pages = settled (added count eof bytes r) (noted attr r.file sent (place_after r.base) bytes eof pages)

-- what it hears of a part, if it has asked for one
abbrev pub heard : Phase → Result Reply Fault → Option Said
heard phases.Attrs reply = None
heard phases.AskedAttrs reply = None
heard phases.Pages reply = None
heard phases.Rest reply = None
heard (phases.Asked count) reply = Some (said_to count reply)
heard phases.Ended reply = None

-- how many bytes it asked for
abbrev pub count_of : Phase → ℕ
count_of phases.Attrs = 0
count_of phases.AskedAttrs = 0
count_of phases.Pages = 0
count_of phases.Rest = 0
count_of (phases.Asked count) = count
count_of phases.Ended = 0

abbrev pub attr_in : Said → Option Attr
attr_in (part attr eof bytes) = attr
attr_in (refusal attr fault) = attr

-- the call for the part that it has asked for
abbrev pub part_call : Reading → Call
part_call r = calls.File (files.Read r.file (place_after r.base) (count_of r.phase))

-- A call that is refused is made again, or the read is refused.
abbrev pub again_next : Bool → Call → Fault → Step
again_next again call fault = if again then Send call else refused fault

abbrev pub refused_next : Bool → Fault → Reading → Step
refused_next again fault r = again_next again (part_call r) fault

-- the read after what was said, and what the step comes to
abbrev pub told : Turn → Turn → Said → Reading → Pages → State
told sent turn (part attr eof bytes) r pages = gone turn.room (after_part (count_of r.phase) sent.moment attr eof bytes r pages)
told sent turn (refusal attr fault) r pages = record { reading = r; pages = pages }

abbrev pub Tells : Bool → Turn → Turn → Said → Reading → Pages → Pending → Step → Type 0
Tells again sent turn (part attr eof bytes) r pages back next = Goes turn.room back (after_part (count_of r.phase) sent.moment attr eof bytes r pages) next
Tells again sent turn (refusal attr fault) r pages back next = next ≡ refused_next again fault r

-- The file's pages follow its attributes, and it goes on to take them; there may be no memory for a file that was never opened.
abbrev pub AfterOpened : Result (Unit {0}) memory.Memory → Turn → Reading → Pages → Pending → Step → State → Type 0
AfterOpened (Ok done) turn r pages back next new =
    Goes turn.room back (settled (record r { phase = phases.Pages }) pages) next × (new ≡ gone turn.room (settled (record r { phase = phases.Pages }) pages))
AfterOpened (Err memory) turn r pages back next new = (next ≡ refused faults.Memory) × (new ≡ record { reading = r; pages = pages })

pub record TakesAttr (attr : Attr) (sent turn : Turn) (r : Reading) (pages : Pages) (back : Pending) (next : Step) (new : State) : Type 0 where
  pub result : Result (Unit {0}) memory.Memory
  pub later : Pages
  pub opens : PagesOpened r.file attr r.moment sent turn result pages later
  pub goes : AfterOpened result turn r later back next new

-- the attributes came, or were refused
abbrev pub TakesAttrs : Bool → Result Attr Fault → Turn → Turn → Reading → Pages → Pending → Step → State → Type 0
TakesAttrs again (Ok attr) sent turn r pages back next new = TakesAttr attr sent turn r pages back next new
TakesAttrs again (Err fault) sent turn r pages back next new = (next ≡ again_next again (attrs_call r.file) fault)
    × (new ≡ record { reading = r; pages = pages })

-- the same of what was heard, if anything
abbrev pub TakesPart : Option Said → Turn → Turn → List Repeat → Reading → Pages → Pending → Step → State → Type 0
TakesPart None sent turn repeats r pages back next new = (next ≡ Wait) × (new ≡ record { reading = r; pages = pages })
TakesPart (Some said) sent turn repeats r pages back next new =
    Tells (goes_again (says_busy said) sent turn repeats) sent turn said r pages back next × (new ≡ told sent turn said r pages)

abbrev pub TakesIf : Bool → Turn → Turn → Result Reply Fault → List Repeat → Reading → Pages → Pending → Step → State → Type 0
TakesIf true sent turn reply repeats r pages back next new =
    TakesAttrs (goes_again (fails_busy (got_by reply)) sent turn repeats) (got_by reply) sent turn r pages back next new
TakesIf false sent turn reply repeats r pages back next new = TakesPart (heard r.phase reply) sent turn repeats r pages back next new

-- A read takes what came of the call that the step with the turn `sent` made.
abbrev pub Takes : Turn → Turn → Result Reply Fault → List Repeat → Reading → Pages → Pending → Step → State → Type 0
Takes sent turn reply repeats r pages back next new = TakesIf (waits_attrs r.phase) sent turn reply repeats r pages back next new

-- the attributes that are learnt
abbrev pub attr_got : Result Attr Fault → Option Attr
attr_got (Ok attr) = Some attr
attr_got (Err fault) = None

abbrev pub attr_of : Phase → Result Reply Fault → Option Attr
attr_of phases.Attrs reply = None
attr_of phases.AskedAttrs reply = attr_got (got_by reply)
attr_of phases.Pages reply = None
attr_of phases.Rest reply = None
attr_of (phases.Asked count) reply = attr_in (said_to count reply)
attr_of phases.Ended reply = None

-- the calls that are made again
abbrev pub repeats_taken : Phase → Turn → Turn → Result Reply Fault → List Repeat → List Repeat
repeats_taken phases.Attrs sent turn reply repeats = repeats
repeats_taken phases.AskedAttrs sent turn reply repeats = repeats_after (fails_busy (got_by reply)) sent turn repeats
repeats_taken phases.Pages sent turn reply repeats = repeats
repeats_taken phases.Rest sent turn reply repeats = repeats
repeats_taken (phases.Asked count) sent turn reply repeats = repeats_after (says_busy (said_to count reply)) sent turn repeats
repeats_taken phases.Ended sent turn reply repeats = repeats
