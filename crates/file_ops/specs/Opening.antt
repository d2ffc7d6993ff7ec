-- How a file is found, or made, and opened: which call each step makes, and what a reply leads to.
use Rattle.std.specs.Prelude.{◌≡◌, ◌+◌, ℕ, nat_lt, Bool, true, false, not, ◌==◌, ◌||◌, ◌&&◌, List, Option, Some, None, Result, Ok, Err, if◌then◌else◌}
use Rattle.nfs_types.specs.declared.attr.Attr.{Attr}
use Rattle.nfs_types.specs.declared.mode.Mode.{Mode}
use Rattle.nfs_types.specs.declared.mode.Mode.TheVariants.{C, X}
use Rattle.nfs_types.specs.declared.set_attr.SetAttr.{SetAttr}
use Rattle.nfs_types.specs.declared.set_attr.SetTime.TheVariants as times
use Rattle.nfs_types.specs.declared.wcc.Stamp.{Stamp}
use Rattle.nfs_dir_calls.specs.declared.call.DirCall.TheVariants as dirs
use Rattle.nfs_dir_calls.specs.declared.create.Making.{Making}
use Rattle.nfs_dir_calls.specs.declared.create.Making.TheVariants.{Unchecked, Guarded}
use Rattle.nfs_dir_calls.specs.declared.keeping.DirKept.TheVariants as kept
use Rattle.nfs_file_calls.specs.declared.call.FileCall.TheVariants as files
use Rattle.world_model.specs.declared.answer.Fault.{Fault}
use Rattle.world_model.specs.declared.answer.Fault.TheVariants as faults
use Rattle.world_model.specs.declared.message.Call.{Call}
use Rattle.world_model.specs.declared.message.Call.TheVariants as calls
use Rattle.world_model.specs.declared.message.Reply.{Reply}
use Rattle.world_model.specs.declared.message.Reply.TheVariants as replies
use Rattle.attr_cache.specs.Attrs.{Attrs, looked}
use Rattle.name_cache.specs.Names as names
use Rattle.page_cache.specs.Pages.{Pages, state_of, known_of, opened}
use Rattle.nfs_types.specs.Stamps.{stamp_of, same_stamp}
use Rattle.client_shelf.specs.declared.turn.Turn.{Turn}
use Rattle.client_shelf.specs.declared.repeats.Repeat.{Repeat}
use Rattle.file_ops.specs.declared.opening.Opening.{Opening}
use Rattle.file_ops.specs.declared.opening.OpeningPhase.{OpeningPhase}
use Rattle.file_ops.specs.declared.opening.OpeningPhase.TheVariants.{Look, Make, Find, Ask}
use Rattle.file_ops.specs.declared.opening.OpeningStep.{OpeningStep}
use Rattle.file_ops.specs.declared.opening.OpeningStep.TheVariants.{Send, Wait, Ended}
use Rattle.file_ops.specs.declared.opening.Led.{Led}
use Rattle.file_ops.specs.declared.opening.Led.TheVariants.{Goes, Opens, Knows, Ends}
use Rattle.client_shelf.specs.Learning.{Learns, Renews, LearnsThen, LearnsName}
use Rattle.client_shelf.specs.Busy.{is_busy, goes_again}
use Rattle.client_shelf.specs.Unmade.{came_unmade, names_after}
use Rattle.file_ops.specs.PagesOpened.{opened_pages}
use Rattle.file_ops.specs.Told.{found_by, made_by, got_by}

-- ---- the calls

-- the first call: X makes the file, the others look for it
abbrev pub first_step : Mode → OpeningPhase
first_step X = Make
first_step mode = Look

-- the mode 0644, and all else as the server likes
abbrev pub usual_set : SetAttr
usual_set = record { mode = Some 420; uid = None; gid = None; size = None; atime = times.Keep; mtime = times.Keep }

-- X makes a file that may not be there, C one that may
abbrev pub making_of : Mode → Making
making_of X = Guarded usual_set
making_of mode = Unchecked usual_set

-- the call of a step
abbrev pub call_of : Opening → OpeningPhase → Call
call_of o Look = calls.Dir (dirs.Lookup o.dir o.name)
call_of o Make = calls.Dir (dirs.Create o.dir o.name (making_of o.mode))
call_of o Find = calls.Dir (dirs.Lookup o.dir o.name)
call_of o (Ask file) = calls.File (files.GetAttr file)

-- it waits while its call has no reply, or there is no room for a call
abbrev pub waits : Opening → Turn → Bool
waits o turn = o.asked || not turn.room

abbrev pub go_next : Opening → Turn → OpeningStep
go_next o turn = if waits o turn then Wait else Send (call_of o o.step)

abbrev pub go_after : Opening → Turn → Opening
go_after o turn = if waits o turn then o else record o { asked = true }

-- ---- what a reply leads to

-- whether LOOKUP found nothing of that name
abbrev pub is_missing : Result Reply Fault → Bool
is_missing (Ok (replies.Dir (kept.LookupFail status dir_attr))) = status.0 == 2
is_missing reply = false

-- mode C makes a file that isn't there
abbrev pub makes : Mode → Result Reply Fault → Bool
makes C reply = is_missing reply
makes mode reply = false

-- after CREATE: without a file handle the name is looked up
abbrev pub made : Result (Option (List ℕ)) Fault → Led
made (Ok (Some found)) = Goes (Ask found)
made (Ok None) = Goes Find
made (Err fault) = Ends fault

-- after LOOKUP
abbrev pub found : Result (List ℕ) Fault → Led
found (Ok file) = Goes (Ask file)
found (Err fault) = Ends fault

-- after GETATTR: kind 1 is a file (RFC 1813, section 2.5, ftype3)
abbrev pub got : List ℕ → Result Attr Fault → Led
got file (Ok attr) = if attr.kind == 1 then Opens file attr else Ends faults.Kind
got file (Err fault) = Ends fault

abbrev pub led_to : Mode → OpeningPhase → Result Reply Fault → Led
led_to mode Look reply = if makes mode reply then Goes Make else found (found_by reply)
led_to mode Make reply = made (made_by reply)
led_to mode Find reply = found (found_by reply)
led_to mode (Ask file) reply = got file (got_by reply)

-- ---- what is learnt of a reply

-- of LOOKUP: the attributes of what was found, and those of the directory
abbrev pub LookedAttrs : List ℕ → ℕ → Result Reply Fault → Attrs → Attrs → Type 0
LookedAttrs dir now (Ok (replies.Dir (kept.Lookup found attr dir_attr))) old new = LearnsThen found attr now (Learns dir dir_attr now) old new
LookedAttrs dir now (Ok (replies.Dir (kept.LookupFail status dir_attr))) old new = Learns dir dir_attr now old new
LookedAttrs dir now reply old new = new ≡ old

-- and the name
abbrev pub LookedNames : List ℕ → List ℕ → Result Reply Fault → names.Entries → names.Entries → Type 0
LookedNames dir name (Ok (replies.Dir (kept.Lookup found attr dir_attr))) old new = LearnsName dir name dir_attr found old new
LookedNames dir name reply old new = new ≡ old

-- of CREATE: the attributes of the file whose handle it gave, and those of the directory
abbrev pub MadeFile : List ℕ → Option (List ℕ) → Option Attr → Option Attr → ℕ → Attrs → Attrs → Type 0
MadeFile dir (Some found) attr after now old new = LearnsThen found attr now (Renews dir after now) old new
MadeFile dir None attr after now old new = Renews dir after now old new

abbrev pub CreatedAttrs : List ℕ → ℕ → Result Reply Fault → Attrs → Attrs → Type 0
CreatedAttrs dir now (Ok (replies.Dir (kept.Create found attr wcc))) old new = MadeFile dir found attr wcc.after now old new
CreatedAttrs dir now (Ok (replies.Dir (kept.CreateFail status wcc))) old new = Renews dir wcc.after now old new
CreatedAttrs dir now reply old new = Renews dir None now old new

-- unless the CREATE couldn't be made
abbrev pub CreatedUnless : Bool → List ℕ → ℕ → Result Reply Fault → Attrs → Attrs → Type 0
CreatedUnless true dir now reply old new = new ≡ old
CreatedUnless false dir now reply old new = CreatedAttrs dir now reply old new

abbrev pub MadeAttrs : List ℕ → ℕ → Result Reply Fault → Attrs → Attrs → Type 0
MadeAttrs dir now reply old new = CreatedUnless (came_unmade reply) dir now reply old new

-- of GETATTR: the attributes
abbrev pub GotAttrs : List ℕ → ℕ → Result Attr Fault → Attrs → Attrs → Type 0
GotAttrs file now (Ok attr) old new = Learns file (Some attr) now old new
GotAttrs file now (Err fault) old new = new ≡ old

abbrev pub NotesAttrs : Opening → ℕ → Result Reply Fault → OpeningPhase → Attrs → Attrs → Type 0
NotesAttrs o now reply Look old new = LookedAttrs o.dir now reply old new
NotesAttrs o now reply Make old new = MadeAttrs o.dir now reply old new
NotesAttrs o now reply Find old new = LookedAttrs o.dir now reply old new
NotesAttrs o now reply (Ask file) old new = GotAttrs file now (got_by reply) old new

-- any reply to CREATE drops the names of the directory; a CREATE that couldn't be made drops none
abbrev pub NotesNames : Opening → Result Reply Fault → OpeningPhase → names.Entries → names.Entries → Type 0
NotesNames o reply Look old new = LookedNames o.dir o.name reply old new
NotesNames o reply Make old new = new ≡ names_after (came_unmade reply) o.dir old
NotesNames o reply Find old new = LookedNames o.dir o.name reply old new
NotesNames o reply (Ask file) old new = new ≡ old

-- ---- the file's pages

-- the file is opened, and what its pages are then; one that was never opened may want memory
abbrev pub FileOpened : List ℕ → Pages → Result (List ℕ) Fault → Pages → Pages → Type 0
FileOpened file to (Ok opened_file) old new = (opened_file ≡ file) × (new ≡ to)
FileOpened file to (Err fault) old new = (fault ≡ faults.Memory) × (state_of file old ≡ None) × (new ≡ old)

-- A file is asked for its attributes only if those that are believed don't show the state in which its pages are kept
-- (nfs(5), nocto).
abbrev pub known_at : List ℕ → Option Attr → Option Stamp → Led
known_at file (Some attr) (Some stamp) = if (attr.kind == 1) && same_stamp (stamp_of attr) stamp then Knows file stamp else Goes (Ask file)
known_at file attr known = Goes (Ask file)

abbrev pub known_step : OpeningPhase → ℕ → Attrs → Pages → Led
known_step (Ask file) now attrs pages = known_at file (looked file now attrs) (known_of file pages)
known_step Look now attrs pages = Goes Look
known_step Make now attrs pages = Goes Make
known_step Find now attrs pages = Goes Find

abbrev pub known_led : Led → ℕ → Attrs → Pages → Led
known_led (Goes step) now attrs pages = known_step step now attrs pages
known_led (Opens file attr) now attrs pages = Opens file attr
known_led (Knows file stamp) now attrs pages = Knows file stamp
known_led (Ends fault) now attrs pages = Ends fault

abbrev pub known_by : Bool → Led → ℕ → Attrs → Pages → Led
known_by nocto led now attrs pages = if nocto then known_led led now attrs pages else led

-- ---- a reply's step

-- the machine at another call
abbrev pub at_step : Opening → OpeningPhase → Opening
at_step o step = record o { step = step; asked = false }

abbrev pub led_after : Opening → Turn → Led → Opening
led_after o turn (Goes step) = go_after (at_step o step) turn
led_after o turn (Opens file attr) = o
led_after o turn (Knows file stamp) = o
led_after o turn (Ends fault) = o

-- what the step comes to, and the pages after it
abbrev pub LedTo : Opening → Turn → Turn → Led → OpeningStep → Pages → Pages → Type 0
LedTo o sent turn (Goes step) next old new = (next ≡ go_next (at_step o step) turn) × (new ≡ old)
LedTo o sent turn (Opens file attr) (Ended result) old new = FileOpened file (opened_pages file attr o.moment sent turn old) result old new
LedTo o sent turn (Opens file attr) next old new = ⊥
LedTo o sent turn (Knows file stamp) (Ended result) old new = FileOpened file (opened file stamp o.moment old) result old new
LedTo o sent turn (Knows file stamp) next old new = ⊥
LedTo o sent turn (Ends fault) next old new = (next ≡ Ended (Err fault)) × (new ≡ old)

-- what a reply leads to, and whether this is a refusal of a server that is busy
abbrev pub told_led : Opening → Result Reply Fault → Led
told_led o reply = led_to o.mode o.step reply

abbrev pub ends_busy : Led → Bool
ends_busy (Goes step) = false
ends_busy (Opens file attr) = false
ends_busy (Knows file stamp) = false
ends_busy (Ends fault) = is_busy fault

-- whether the name is looked up
abbrev pub looks : OpeningPhase → Bool
looks Look = true
looks Make = false
looks Find = true
looks (Ask file) = false

-- A LOOKUP after a CREATE is the call that was made before it, so both are counted together.
abbrev pub may_again : Opening → Led → Bool
may_again o led = ends_busy led && (not (looks o.step) || nat_lt o.put_off 3)

abbrev pub counted : Opening → Opening
counted o = record o { put_off = if looks o.step then o.put_off + 1 else o.put_off }

-- whether its call is made again
abbrev pub opening_again : Opening → Turn → Turn → Result Reply Fault → List Repeat → Bool
opening_again o sent turn reply repeats = goes_again (may_again o (told_led o reply)) sent turn repeats

-- what it leads to once the reply was learnt of
abbrev pub led_on : Opening → ℕ → Result Reply Fault → Attrs → Pages → Led
led_on o now reply attrs pages = known_by o.nocto (told_led o reply) now attrs pages

-- An opening whose call is made again stays as it is, but for the count.
abbrev pub opening_after : Bool → Opening → Turn → Led → Opening
opening_after again o turn led = if again then counted o else led_after o turn led

abbrev pub LedIf : Bool → Opening → Turn → Turn → Led → OpeningStep → Pages → Pages → Type 0
LedIf true o sent turn led next old new = (next ≡ Send (call_of o o.step)) × (new ≡ old)
LedIf false o sent turn led next old new = LedTo o sent turn led next old new
