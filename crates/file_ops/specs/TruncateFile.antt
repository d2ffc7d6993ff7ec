-- A truncate, step by step (RFC 1813, section 3.3.2). It takes its place in the order of its file. It asks for the size when its turn has come and
-- nothing of the file is in flight.
use Rattle.std.specs.Prelude.{◌≡◌, ℕ, ◌-◌, List, [], Bool, true, false, ◌&&◌, if◌then◌else◌, Option, Some, None, Result, Ok, Err}
use Rattle.nfs_types.specs.declared.set_attr.SetTime.TheVariants.{Keep}
use Rattle.nfs_types.specs.declared.attr.Attr.{Attr}
use Rattle.nfs_types.specs.declared.wcc.Wcc.{Wcc}
use Rattle.attr_cache.specs.Attrs.{Attrs}
use Rattle.nfs_file_calls.specs.declared.call.FileCall.TheVariants.{SetAttr as set_attr}
use Rattle.nfs_file_calls.specs.declared.owned.FileKept.{FileKept}
use Rattle.nfs_file_calls.specs.declared.owned.FileKept.TheVariants as kept
use Rattle.world_model.specs.declared.answer.Fault.{Fault}
use Rattle.world_model.specs.declared.answer.Fault.TheVariants as faults
use Rattle.world_model.specs.declared.answer.Answer.TheVariants.{Done as done, Refused as refused}
use Rattle.world_model.specs.declared.answer.Value.TheVariants.{Nothing}
use Rattle.world_model.specs.declared.message.Call.{Call}
use Rattle.world_model.specs.declared.message.Call.TheVariants.{File as file_call}
use Rattle.world_model.specs.declared.message.Reply.{Reply}
use Rattle.world_model.specs.declared.message.Reply.TheVariants as replies
use Rattle.client_shelf.specs.declared.turn.Turn.{Turn}
use Rattle.client_shelf.specs.declared.shelf.Shelf.{Shelf}
use Rattle.client_shelf.specs.LaneFiles.{left, is_first}
use Rattle.client_shelf.specs.declared.lane_files.LaneFile.{LaneFile}
use Rattle.client_shelf.specs.declared.repeats.Repeat.{Repeat}
use Rattle.client_shelf.specs.Busy.{fails_busy, goes_again, repeats_after}
use Rattle.page_cache.specs.Pages as pages
use Rattle.write_back.specs.Files.{Pending, of_file, OnFile}
use Rattle.write_back.specs.Landing.{with_cut}
use Rattle.client_shelf.specs.declared.step.Step.{Step}
use Rattle.client_shelf.specs.declared.step.Step.TheVariants.{Send, Wait, Done}
use Rattle.file_ops.specs.declared.truncate_file.TruncateFile.{TruncateFile}
use Rattle.file_ops.specs.declared.truncate_file.Truncating.{Truncating}
use Rattle.file_ops.specs.declared.truncate_file.Truncating.TheVariants.{Idle, Queued, Asked}
use Rattle.client_shelf.specs.Learning.{Learns}
use Rattle.file_ops.specs.Opens.{file_to_write}
use Rattle.file_ops.specs.Saves.{untold}
use Rattle.client_shelf.specs.Unmade.{is_unmade}
use Rattle.file_ops.specs.SlotFiles.{joined}
use Rattle.file_ops.specs.Quiet.{is_quiet}

-- the call that gives a file this size and sets nothing else
abbrev pub size_call : List ℕ → ℕ → Call
size_call file size =
    file_call (set_attr file (record { mode = None; uid = None; gid = None; size = Some size; atime = Keep; mtime = Keep }) None)

-- its turn has come: there is room for a call, and nothing of the file is in flight
abbrev pub may_ask : ℕ → List ℕ → Turn → Shelf → Bool
may_ask lane file turn shelf = turn.room && is_first lane shelf.order && is_quiet file shelf.back

-- in the order, it asks when its turn has come and waits before
abbrev pub queued_next : TruncateFile → List ℕ → Turn → Shelf → Step
queued_next machine file turn shelf = if may_ask machine.lane file turn shelf then Send (size_call file machine.size) else Wait

abbrev pub queued_state : TruncateFile → List ℕ → ℕ → Turn → Shelf → Truncating
queued_state machine file upto turn shelf = if may_ask machine.lane file turn shelf then Asked file upto else Queued file upto

-- At its start it takes its place, if its file may be written.
abbrev pub begun_next : Result (List ℕ) Fault → TruncateFile → Turn → Shelf → Step
begun_next (Ok file) machine turn shelf = queued_next machine file turn (joined machine.lane file shelf)
begun_next (Err fault) machine turn shelf = Done (refused fault)

abbrev pub begun_state : Result (List ℕ) Fault → TruncateFile → Turn → Shelf → Truncating
begun_state (Ok file) machine turn shelf = queued_state machine file shelf.seq turn (joined machine.lane file shelf)
begun_state (Err fault) machine turn shelf = Idle

abbrev pub begun_shelf : Result (List ℕ) Fault → TruncateFile → Shelf → Shelf
begun_shelf (Ok file) machine shelf = joined machine.lane file shelf
begun_shelf (Err fault) machine shelf = shelf

abbrev pub found_file : TruncateFile → Shelf → Result (List ℕ) Fault
found_file machine shelf = file_to_write machine.lane machine.slot shelf.opens

abbrev pub started_next : TruncateFile → Turn → Shelf → Step
started_next machine turn shelf = begun_next (found_file machine shelf) machine turn shelf

abbrev pub started_state : TruncateFile → Turn → Shelf → Truncating
started_state machine turn shelf = begun_state (found_file machine shelf) machine turn shelf

abbrev pub started_shelf : TruncateFile → Shelf → Shelf
started_shelf machine shelf = begun_shelf (found_file machine shelf) machine shelf

-- It goes on if it waits for its turn.
abbrev pub resumed_next : Truncating → TruncateFile → Turn → Shelf → Step
resumed_next Idle machine turn shelf = Wait
resumed_next (Queued file upto) machine turn shelf = queued_next machine file turn shelf
resumed_next (Asked file upto) machine turn shelf = Wait

abbrev pub resumed_state : Truncating → TruncateFile → Turn → Shelf → Truncating
resumed_state Idle machine turn shelf = Idle
resumed_state (Queued file upto) machine turn shelf = queued_state machine file upto turn shelf
resumed_state (Asked file upto) machine turn shelf = Asked file upto

-- what came of the SETATTR: what is told of the file, or why the size wasn't set
abbrev pub in_reply : FileKept → Result Wcc Fault
in_reply (kept.SetAttr wcc) = Ok wcc
in_reply (kept.SetAttrFail status wcc) = Err (faults.Nfs status.0)
in_reply other = Err (faults.Bad 2)

abbrev pub size_told : Result Reply Fault → Result Wcc Fault
size_told (Ok (replies.File reply)) = in_reply reply
size_told (Ok other) = Err (faults.Bad 2)
size_told (Err fault) = Err fault

-- The attributes in a reply are learnt, also in one that refuses.
abbrev pub attr_in : FileKept → Option Attr
attr_in (kept.SetAttr wcc) = wcc.after
attr_in (kept.SetAttrFail status wcc) = wcc.after
attr_in other = None

abbrev pub attr_told : Result Reply Fault → Option Attr
attr_told (Ok (replies.File reply)) = attr_in reply
attr_told (Ok other) = None
attr_told (Err fault) = None

-- its answer
abbrev pub told_next : Result Wcc Fault → Step
told_next (Ok wcc) = Done (done Nothing)
told_next (Err fault) = Done (refused fault)

-- Whether a SETATTR that failed leaves the kept pages: the server refused it, or it couldn't be made. Else it isn't known whether it was executed.
abbrev pub leaves_pages : Fault → Bool
leaves_pages (faults.Nfs status) = true
leaves_pages fault = is_unmade fault

-- Kept pages follow the new size, and may be dropped if it wasn't set.
abbrev pub told_pages : Result Wcc Fault → List ℕ → ℕ → ℕ → pages.Pages → pages.Pages
told_pages (Ok wcc) file size moment c = pages.cut file wcc size moment c
told_pages (Err fault) file size moment c = if leaves_pages fault then c else pages.wrote file untold 0 [] moment c

-- Pending bytes that are older than the truncate go from the new end on; if some are in flight, which never is so, all stay.
abbrev pub CutsQuiet : Bool → List ℕ → ℕ → ℕ → Pending → Pending → Type 0
CutsQuiet true file size upto old new = OnFile old new file (with_cut size upto (of_file file old))
CutsQuiet false file size upto old new = new ≡ old

abbrev pub CutsBack : Result Wcc Fault → List ℕ → ℕ → ℕ → Pending → Pending → Type 0
CutsBack (Ok wcc) file size upto old new = CutsQuiet (is_quiet file old) file size upto old new
CutsBack (Err fault) file size upto old new = new ≡ old

-- whether the SETATTR is made again: the server was busy
abbrev pub size_again : Result Reply Fault → Turn → Turn → List Repeat → Bool
size_again came sent turn repeats = goes_again (fails_busy (size_told came)) sent turn repeats

-- At the reply it leaves the order, unless the call is made again.
abbrev pub ended_order : Bool → ℕ → List LaneFile → List LaneFile
ended_order again lane order = if again then order else left lane order

abbrev pub ended_shelf : TruncateFile → List ℕ → Result Reply Fault → Turn → Turn → Attrs → Pending → Shelf → Shelf
ended_shelf machine file came sent turn attrs back shelf = record shelf {
  order = ended_order (size_again came sent turn shelf.repeats) machine.lane shelf.order;
  pages = told_pages (size_told came) file machine.size (turn.moment - 1) shelf.pages;
  attrs = attrs;
  back = back;
  repeats = repeats_after (fails_busy (size_told came)) sent turn shelf.repeats;
}

abbrev pub ended_next : Bool → TruncateFile → List ℕ → Result Reply Fault → Step
ended_next again machine file came = if again then Send (size_call file machine.size) else told_next (size_told came)

abbrev pub ended_state : Bool → Truncating → Truncating
ended_state again state = if again then state else Idle

-- A reply means nothing if it asked for none.
abbrev pub took_next : Truncating → TruncateFile → Result Reply Fault → Turn → Turn → List Repeat → Step
took_next Idle machine came sent turn repeats = Wait
took_next (Queued file upto) machine came sent turn repeats = Wait
took_next (Asked file upto) machine came sent turn repeats = ended_next (size_again came sent turn repeats) machine file came

abbrev pub took_state : Truncating → Result Reply Fault → Turn → Turn → List Repeat → Truncating
took_state Idle came sent turn repeats = Idle
took_state (Queued file upto) came sent turn repeats = Queued file upto
took_state (Asked file upto) came sent turn repeats = ended_state (size_again came sent turn repeats) (Asked file upto)

abbrev pub took_shelf : Truncating → TruncateFile → Result Reply Fault → Turn → Turn → Attrs → Pending → Shelf → Shelf
took_shelf Idle machine came sent turn attrs back shelf = shelf
took_shelf (Queued file upto) machine came sent turn attrs back shelf = shelf
took_shelf (Asked file upto) machine came sent turn attrs back shelf = ended_shelf machine file came sent turn attrs back shelf

abbrev pub TookAttrs : Truncating → Result Reply Fault → ℕ → Attrs → Attrs → Type 0
TookAttrs Idle came now old new = new ≡ old
TookAttrs (Queued file upto) came now old new = new ≡ old
TookAttrs (Asked file upto) came now old new = Learns file (attr_told came) now old new

abbrev pub TookBack : Truncating → TruncateFile → Result Reply Fault → Pending → Pending → Type 0
TookBack Idle machine came old new = new ≡ old
TookBack (Queued file upto) machine came old new = new ≡ old
TookBack (Asked file upto) machine came old new = CutsBack (size_told came) file machine.size upto old new
