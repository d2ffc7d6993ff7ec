-- How what is pending of a file is made stable: WRITEs of its bytes, then a COMMIT; what the COMMIT shows to be lost is
-- sent again (RFC 1813, sections 3.3.7, 3.3.21 and 4.8).
use Rattle.std.specs.Prelude.{◌≡◌, ◌≤◌, ◌⊎◌, ℕ, ◌+◌, ◌-◌, ◌==◌, ◌&&◌, nat_lt, Bool, true, false, not, if◌then◌else◌, List, [], ◌∷◌, take, length, Option, Some, None, IfSome, is_none, unwrap_or, Result, Ok, Err}
use Rattle.nfs_types.specs.declared.verf.Verf.{Verf}
use Rattle.nfs_types.specs.declared.wcc.Wcc.{Wcc}
use Rattle.nfs_file_calls.specs.declared.call.FileCall.TheVariants.{Write, Commit}
use Rattle.world_model.specs.declared.answer.Fault.{Fault}
use Rattle.world_model.specs.declared.answer.Fault.TheVariants.{Memory, Nfs}
use Rattle.world_model.specs.declared.message.Reply.{Reply}
use Rattle.world_model.specs.declared.message.Call.{Call}
use Rattle.world_model.specs.declared.message.Call.TheVariants as calls
use Rattle.xdr_codec.specs.declared.blob.Memory as memory
use Rattle.client_shelf.specs.declared.repeats.Repeat.{Repeat}
use Rattle.client_shelf.specs.declared.turn.Turn.{Turn}
use Rattle.write_back.specs.declared.change.Change.TheVariants as by
use Rattle.write_back.specs.Segments.{Segments}
use Rattle.write_back.specs.Changes.{lost}
use Rattle.write_back.specs.Pieces.{Sent, piece_under}
use Rattle.write_back.specs.Choice.{chosen, piece_of}
use Rattle.write_back.specs.Landing.{at_xid, landed, landed_part, acked_by, with_xid}
use Rattle.write_back.specs.Files.{Pending, of_file, all_pending, OnFile, PutsPiece}
use Rattle.commit_verf.specs.declared.commit.Verdict.{Verdict}
use Rattle.commit_verf.specs.declared.commit.Verdict.TheVariants.{AllStable, SendAgain}
use Rattle.commit_verf.specs.Decisions.{decided, verdict_of}
use Rattle.page_cache.specs.Pages.{Pages, wrote}
use Rattle.client_shelf.specs.Busy.{fails_busy, goes_again, repeats_after}
use Rattle.client_shelf.specs.Unmade.{is_unmade}
use Rattle.file_ops.specs.declared.judging.WriteTold.{WriteTold}
use Rattle.file_ops.specs.declared.judging.WriteTold.TheVariants.{Done, Refused, Fails}
use Rattle.file_ops.specs.Judging.{write_told, commit_told}
use Rattle.file_ops.specs.declared.saving.Saving.{Saving}
use Rattle.file_ops.specs.declared.saving.Phase.{Phase}
use Rattle.file_ops.specs.declared.saving.Phase.TheVariants.{Sending, Committing, Resending, CommittingAgain}
use Rattle.file_ops.specs.declared.saving.SavingStep.{SavingStep}
use Rattle.file_ops.specs.declared.saving.SavingStep.TheVariants.{Send, Wait, Ended}

-- nothing was sent yet
abbrev pub begun : List ℕ → ℕ → Saving
begun file upto = record { file = file; upto = upto; phase = Sending; waiting = 0; refusal = None; put_off = 0 }

-- whether bytes may be sent, and whether the lost ones are
abbrev pub is_sending : Phase → Bool
is_sending Sending = true
is_sending Committing = false
is_sending Resending = true
is_sending CommittingAgain = false

abbrev pub is_again : Phase → Bool
is_again Sending = false
is_again Committing = false
is_again Resending = true
is_again CommittingAgain = true

-- the COMMIT after what was sent
abbrev pub commit_phase : Phase → Phase
commit_phase phase = if is_again phase then CommittingAgain else Committing

-- Once refused it ends as soon as no call of its own waits.
abbrev pub refused_next : ℕ → Fault → SavingStep
refused_next waiting fault = if waiting == 0 then Ended (Err fault) else Wait

-- the first refusal stays
abbrev pub first_of : Option Fault → Fault → Fault
first_of None fault = fault
first_of (Some first) fault = first

abbrev pub with_refusal : Fault → Saving → Saving
with_refusal fault s = record s { refusal = Some (first_of s.refusal fault) }

-- It may send in a phase of transmission, if there is room and fewer than 32 of its calls wait.
abbrev pub may_send : Bool → Saving → Bool
may_send room s = room && is_sending s.phase && nat_lt s.waiting 32

-- the calls
abbrev pub write_of : List ℕ → Sent → Call
write_of file piece = calls.File (Write file piece.offset piece.how piece.bytes)

abbrev pub commit_of : List ℕ → Call
commit_of file = calls.File (Commit file 0 0)

-- Nothing is left to send: it waits for its own WRITEs; it is done if the reply to one, which counts all its bytes, made the last
-- lost byte stable; else it asks for a COMMIT.
abbrev pub next_sent : Bool → Saving → SavingStep
next_sent by_reply s = if nat_lt 0 s.waiting then Wait else if is_again s.phase && by_reply then Ended (Ok tt) else Send (commit_of s.file)

abbrev pub saving_sent : Bool → Saving → Saving
saving_sent by_reply s = if nat_lt 0 s.waiting then s else if is_again s.phase && by_reply then s else record s { phase = commit_phase s.phase; waiting = 1 }

-- A call of these segments, if there are any, and they are in flight. When out of memory nothing is changed.
abbrev pub CallsWrite : ℕ → ℕ → List ℕ → Segments → Pending → Pending → Result (Option Call) memory.Memory → Type 0
CallsWrite xid upto file run old new (Err memory) = new ≡ old
CallsWrite xid upto file [] old new (Ok call) = (call ≡ None) × (new ≡ old)
CallsWrite xid upto file (e ∷ es) old new (Ok call) = (call ≡ Some (write_of file (piece_of xid e (e ∷ es)))) × PutsPiece xid upto (e ∷ es) old new file

-- what a step leads to
pub record Leads (next : SavingStep) (saving : Saving) (gives : SavingStep) (new : Saving) : Type 0 where
  pub gives_next : gives ≡ next
  pub keeps : new ≡ saving

-- the next WRITE, or what follows once nothing is left to send
abbrev pub SendsRun : ℕ → Bool → Segments → Saving → Pending → SavingStep → Saving → Pending → Type 0
SendsRun xid by_reply [] s back next new after = Leads (next_sent by_reply s) (saving_sent by_reply s) next new × (after ≡ back)
SendsRun xid by_reply (e ∷ es) s back next new after =
    Leads (Send (write_of s.file (piece_of xid e (e ∷ es)))) (record s { waiting = s.waiting + 1 }) next new × PutsPiece xid s.upto (e ∷ es) back after s.file

-- If there is no memory for a call it waits for the replies to its others, and is refused if none waits.
abbrev pub Lacks : Saving → Pending → SavingStep → Saving → Pending → Type 0
Lacks s back next new after = Leads (refused_next s.waiting Memory) s next new × (after ≡ back)

abbrev pub Sends : ℕ → Bool → Segments → Saving → Pending → SavingStep → Saving → Pending → Type 0
Sends xid by_reply run s back next new after = SendsRun xid by_reply run s back next new after ⊎ Lacks s back next new after

-- It sends if it may, and waits else.
abbrev pub SendsIf : Bool → ℕ → Bool → Segments → Saving → Pending → SavingStep → Saving → Pending → Type 0
SendsIf true xid by_reply run s back next new after = Sends xid by_reply run s back next new after
SendsIf false xid by_reply run s back next new after = Leads Wait s next new × (after ≡ back)

abbrev pub GoesOver : Option Fault → ℕ → ℕ → Bool → Bool → Saving → Pending → SavingStep → Saving → Pending → Type 0
GoesOver (Some fault) wsize xid room by_reply s back next new after = Leads (refused_next s.waiting fault) s next new × (after ≡ back)
GoesOver None wsize xid room by_reply s back next new after =
    SendsIf (may_send room s) xid by_reply (chosen s.upto wsize (of_file s.file back)) s back next new after

-- A save goes on: with a WRITE size, an xid and whether there is room; `by_reply`: the reply to a WRITE has just come, and counts all its
-- bytes.
abbrev pub Goes : ℕ → ℕ → Bool → Bool → Saving → Pending → SavingStep → Saving → Pending → Type 0
Goes wsize xid room by_reply s back next new after = GoesOver s.refusal wsize xid room by_reply s back next new after

-- The piece that a reply answers. One of no bytes stands for one that isn't there.
abbrev pub no_piece : Sent
no_piece = record { xid = 0; offset = 0; how = 0; bytes = []; parts = [] }

abbrev pub answered : ℕ → List ℕ → Pending → Sent
answered xid file back = unwrap_or (piece_under xid (of_file file back).pieces) no_piece

-- what the reply says of it
abbrev pub told_of : ℕ → List ℕ → Pending → Result Reply Fault → WriteTold
told_of xid file back came = write_told (answered xid file back).how (length (answered xid file back).bytes) came

-- a change of a file of which nothing is told
abbrev pub untold : Wcc
untold = record { before = None; after = None }

-- After a call that failed it isn't known what the file has, unless the call couldn't be made.
abbrev pub pages_failed : List ℕ → ℕ → Fault → Pages → Pages
pages_failed file moment fault pages = if is_unmade fault then pages else wrote file untold 0 [] moment pages

-- Kept pages follow what was written. After a refusal it isn't known what was.
abbrev pub pages_told : List ℕ → ℕ → List ℕ → ℕ → WriteTold → Pages → Pages
pages_told file offset bytes moment (Done wcc count committed verf) pages = wrote file wcc offset (take count bytes) moment pages
pages_told file offset bytes moment (Refused status) pages = wrote file untold 0 [] moment pages
pages_told file offset bytes moment (Fails fault) pages = pages_failed file moment fault pages

-- The piece is in flight no more: what of it the server has isn't to be sent, and all else is. Whether that is a
-- refusal.
abbrev pub Lands : ℕ → List ℕ → WriteTold → Pending → Pending → Option Fault → Type 0
Lands xid file (Done wcc count committed verf) old new None = OnFile old new file (at_xid (landed_part (acked_by committed verf) count) xid (of_file file old))
Lands xid file (Done wcc count committed verf) old new (Some fault) = (fault ≡ Memory) × OnFile old new file (at_xid (landed by.Return) xid (of_file file old))
Lands xid file (Refused status) old new refusal = (refusal ≡ Some (Nfs status))
    × OnFile old new file (at_xid (landed (by.Refuse status)) xid (of_file file old))
Lands xid file (Fails fault) old new refusal = (refusal ≡ Some fault) × OnFile old new file (at_xid (landed by.Return) xid (of_file file old))

abbrev pub refused_by : Option Fault → Saving → Saving
refused_by None s = s
refused_by (Some fault) s = with_refusal fault s

-- the server has so many bytes of what was sent
abbrev pub HasAll : WriteTold → ℕ → Type 0
HasAll (Done wcc count committed verf) size = size ≤ count
HasAll (Refused status) size = ⊥
HasAll (Fails fault) size = ⊥

-- A piece that the server has whole lands without want of memory.
abbrev pub LandsWhole : WriteTold → Option Sent → Option Fault → Type 0
LandsWhole told piece refusal = IfSome piece (λ piece. HasAll told (length piece.bytes) → refusal ≡ None)

-- Whether a reply counts all the bytes that its WRITE carried. After a shorter one some may be left that newer bytes have covered meanwhile.
abbrev pub counts_all : WriteTold → ℕ → Bool
counts_all (Done wcc count committed verf) size = not (nat_lt count size)
counts_all (Refused status) size = false
counts_all (Fails fault) size = false

abbrev pub counts_whole : ℕ → List ℕ → WriteTold → Pending → Bool
counts_whole asked file told back = counts_all told (length (answered asked file back).bytes)

-- A WRITE's reply: the piece lands, so that no more bytes are pending than before, and the save goes on.
pub record TakesWrite (wsize asked xid : ℕ) (room : Bool) (told : WriteTold) (s : Saving) (back : Pending) (next : SavingStep) (new : Saving)
    (after : Pending) : Type 0 where
  pub refusal : Option Fault
  pub between : Pending
  pub lands : Lands asked s.file told back between refusal
  pub whole : LandsWhole told (piece_under asked (of_file s.file back).pieces) refusal
  pub total : all_pending between ≤ all_pending back
  pub counts : Bool
  pub counted : counts ≡ counts_whole asked s.file told back
  pub goes : Goes wsize xid room counts (refused_by refusal s) between next new after

-- It is done if all is stable; else what may be lost is sent again.
abbrev pub Decides : Verdict → ℕ → ℕ → Bool → Saving → Pending → SavingStep → Saving → Pending → Type 0
Decides AllStable wsize xid room s back next new after = Leads (Ended (Ok tt)) s next new × (after ≡ back)
Decides (SendAgain count) wsize xid room s back next new after = Goes wsize xid room false (record s { phase = Resending }) back next new after

-- the reply to a COMMIT that was done, after which no more bytes are pending than before
pub record TakesVerf (wsize xid : ℕ) (room : Bool) (verf : Verf) (s : Saving) (back : Pending) (next : SavingStep) (new : Saving)
    (after : Pending) : Type 0 where
  pub between : Pending
  pub decides : OnFile back between s.file (decided s.upto verf (of_file s.file back))
  pub total : all_pending between ≤ all_pending back
  pub goes : Decides (verdict_of (lost verf s.upto (of_file s.file back).segments)) wsize xid room s between next new after

abbrev pub TakesCommit : ℕ → ℕ → Bool → Result Verf Fault → Saving → Pending → SavingStep → Saving → Pending → Type 0
TakesCommit wsize xid room (Ok verf) s back next new after = TakesVerf wsize xid room verf s back next new after
TakesCommit wsize xid room (Err fault) s back next new after = Leads (Ended (Err fault)) s next new × (after ≡ back)

-- After the second COMMIT it has ended: the lost bytes were sent to be stable at once.
abbrev pub ended_by : Result Verf Fault → SavingStep
ended_by (Ok verf) = Ended (Ok tt)
ended_by (Err fault) = Ended (Err fault)

abbrev pub less_waiting : Saving → Saving
less_waiting s = record s { waiting = s.waiting - 1 }

-- ---- calls that are made again, since the server was busy (RFC 1813, section 2.6, NFS3ERR_JUKEBOX)

abbrev pub told_busy : WriteTold → Bool
told_busy (Done wcc count committed verf) = false
told_busy (Refused status) = status == 10008
told_busy (Fails fault) = false

-- A save that was refused makes no call again.
abbrev pub may_again : Bool → Saving → Bool
may_again busy s = busy && is_none s.refusal

-- the call of a piece, once more, if there is memory for it
abbrev pub CopiesPiece : Option Sent → List ℕ → Option Call → Type 0
CopiesPiece None file call = call ≡ None
CopiesPiece (Some piece) file call = (call ≡ Some (write_of file piece)) ⊎ (call ≡ None)

-- The WRITE goes on under another xid with the bytes that it has, so that as many are pending as before. It is refused once it was made
-- again too often.
abbrev pub RepeatsWrite : Bool → ℕ → Turn → Turn → WriteTold → Saving → Pending → SavingStep → Saving → Pending → Type 0
RepeatsWrite true wsize sent turn told s back next new after =
    Leads (Send (write_of s.file (answered sent.xid s.file back))) s next new × OnFile back after s.file (with_xid sent.xid turn.xid (of_file s.file back))
    × (all_pending after ≡ all_pending back)
RepeatsWrite false wsize sent turn told s back next new after = TakesWrite wsize sent.xid turn.xid turn.room told (less_waiting s) back next new after

-- a WRITE's reply from a server that is busy: its bytes are copied once more, if there is memory for that
abbrev pub TakesBusy : ℕ → Turn → Turn → WriteTold → List Repeat → Saving → Pending → SavingStep → Saving → Pending → List Repeat → Type 0
TakesBusy wsize sent turn told repeats s back next new after later =
    (RepeatsWrite (goes_again true sent turn repeats) wsize sent turn told s back next new after × (later ≡ repeats_after true sent turn repeats))
    ⊎ (TakesWrite wsize sent.xid turn.xid turn.room (Fails Memory) (less_waiting s) back next new after × (later ≡ repeats_after false sent turn repeats))

abbrev pub TakesToldIf : Bool → ℕ → Turn → Turn → WriteTold → List Repeat → Saving → Pending → SavingStep → Saving → Pending → List Repeat → Type 0
TakesToldIf true wsize sent turn told repeats s back next new after later = TakesBusy wsize sent turn told repeats s back next new after later
TakesToldIf false wsize sent turn told repeats s back next new after later =
    TakesWrite wsize sent.xid turn.xid turn.room told (less_waiting s) back next new after × (later ≡ repeats_after false sent turn repeats)

abbrev pub TakesTold : ℕ → Turn → Turn → WriteTold → List Repeat → Saving → Pending → SavingStep → Saving → Pending → List Repeat → Type 0
TakesTold wsize sent turn told repeats s back next new after later =
    TakesToldIf (may_again (told_busy told) s) wsize sent turn told repeats s back next new after later

-- A further COMMIT is the call that was made before, so both are counted together.
abbrev pub may_commit : Result Verf Fault → Saving → Bool
may_commit told s = may_again (fails_busy told) s && nat_lt s.put_off 3

abbrev pub put_off_more : Saving → Saving
put_off_more s = record s { put_off = s.put_off + 1 }

-- a COMMIT that is made again
abbrev pub CommitsAgain : Saving → Pending → SavingStep → Saving → Pending → Type 0
CommitsAgain s back next new after = Leads (Send (commit_of s.file)) (put_off_more s) next new × (after ≡ back)

-- the reply to the first COMMIT, and to the second one
abbrev pub TakesFirst : Bool → ℕ → Turn → Result Verf Fault → Saving → Pending → SavingStep → Saving → Pending → Type 0
TakesFirst true wsize turn told s back next new after = CommitsAgain s back next new after
TakesFirst false wsize turn told s back next new after = TakesCommit wsize turn.xid turn.room told (less_waiting s) back next new after

abbrev pub last_next : Bool → Result Verf Fault → Saving → SavingStep
last_next again told s = if again then Send (commit_of s.file) else ended_by told

abbrev pub last_saving : Bool → Saving → Saving
last_saving again s = if again then put_off_more s else less_waiting s

abbrev pub commit_again : Result Verf Fault → Turn → Turn → List Repeat → Saving → Bool
commit_again told sent turn repeats s = goes_again (may_commit told s) sent turn repeats

abbrev pub commit_repeats : Result Verf Fault → Turn → Turn → List Repeat → Saving → List Repeat
commit_repeats told sent turn repeats s = repeats_after (may_commit told s) sent turn repeats

-- A save takes what came of its call, which the step with the turn `sent` made, by its phase.
abbrev pub TakesIn : Phase → ℕ → Turn → Turn → Result Reply Fault → List Repeat → Saving → Pending → SavingStep → Saving → Pending → List Repeat → Type 0
TakesIn Sending wsize sent turn came repeats s back next new after later =
    TakesTold wsize sent turn (told_of sent.xid s.file back came) repeats s back next new after later
TakesIn Resending wsize sent turn came repeats s back next new after later =
    TakesTold wsize sent turn (told_of sent.xid s.file back came) repeats s back next new after later
TakesIn Committing wsize sent turn came repeats s back next new after later =
    TakesFirst (commit_again (commit_told came) sent turn repeats s) wsize turn (commit_told came) s back next new after
    × (later ≡ commit_repeats (commit_told came) sent turn repeats s)
TakesIn CommittingAgain wsize sent turn came repeats s back next new after later =
    Leads (last_next (commit_again (commit_told came) sent turn repeats s) (commit_told came) s)
    (last_saving (commit_again (commit_told came) sent turn repeats s) s) next new × (after ≡ back)
    × (later ≡ commit_repeats (commit_told came) sent turn repeats s)

abbrev pub Takes : ℕ → Turn → Turn → Result Reply Fault → List Repeat → Saving → Pending → SavingStep → Saving → Pending → List Repeat → Type 0
Takes wsize sent turn came repeats s back next new after later = TakesIn s.phase wsize sent turn came repeats s back next new after later

-- the kept pages after it
abbrev pub pages_after : ℕ → ℕ → Result Reply Fault → Saving → Pending → Pages → Pages
pages_after asked moment came s back pages =
    if is_sending s.phase then pages_told s.file (answered asked s.file back).offset (answered asked s.file back).bytes moment
    (told_of asked s.file back came) pages else pages
