-- A step that asks for no call puts nothing in flight.
use Rattle.std.proofs.Common.{◌≡◌, ◌≢◌, ◌+◌, ◌-◌, ℕ, Bool, true, false, ◌||◌, List, [], ◌∷◌, Option, Some, None, Result, Ok, Err, refl, sym, ap, subst, ◌∙◌, ◌⊎◌, inl, inr}
use Rattle.std.specs.Prelude.{Contains, nat_lt, nat_le, if◌then◌else◌}
use Rattle.std.proofs.lemmas.List.Elements.{Contains-append_left, Contains-append_right, Contains-append_cases}
use Rattle.nfs_types.specs.declared.verf.Verf.{Verf}
use Rattle.nfs_types.specs.declared.wcc.Wcc.{Wcc}
use Rattle.attr_cache.specs.Attrs.{Attrs}
use Rattle.world_model.specs.declared.answer.Fault.{Fault}
use Rattle.world_model.specs.declared.answer.Fault.TheVariants as faults
use Rattle.world_model.specs.declared.answer.Answer.TheVariants as answers
use Rattle.world_model.specs.declared.message.Call.{Call}
use Rattle.world_model.specs.declared.message.Reply.{Reply}
use Rattle.write_back.specs.Segments.{Segments, end_of, head_of, last_end, cut_from}
use Rattle.write_back.specs.Pieces.{FilePending}
use Rattle.write_back.specs.Landing.{with_cut}
use Rattle.write_back.specs.Files.{Pending, of_file, OnFile, numbers_of}
use Rattle.write_back.proofs.WritesByFile.{same-or}
use Rattle.write_back.specs.Changes.{lost}
use Rattle.write_back.specs.Choice.{chosen, piece_of}
use Rattle.commit_verf.specs.declared.commit.Verdict.{Verdict}
use Rattle.commit_verf.specs.declared.commit.Verdict.TheVariants.{AllStable, SendAgain}
use Rattle.commit_verf.specs.Decisions.{verdict_of}
use Rattle.client_shelf.specs.declared.repeats.Repeat.{Repeat}
use Rattle.client_shelf.specs.declared.shelf.Shelf.{Shelf}
use Rattle.client_shelf.specs.declared.turn.Turn.{Turn}
use Rattle.client_shelf.specs.LaneFiles.{left, is_first}
use Rattle.file_ops.specs.declared.judging.WriteTold.{WriteTold}
use Rattle.file_ops.specs.declared.judging.WriteTold.TheVariants.{Fails}
use Rattle.client_shelf.specs.declared.step.Step.{Step}
use Rattle.client_shelf.specs.declared.step.Step.TheVariants as nexts
use Rattle.file_ops.specs.declared.saving.Saving.{Saving}
use Rattle.file_ops.specs.declared.saving.Phase.{Phase}
use Rattle.file_ops.specs.declared.saving.Phase.TheVariants.{Sending, Committing, Resending, CommittingAgain}
use Rattle.file_ops.specs.declared.saving.SavingStep.{SavingStep}
use Rattle.file_ops.specs.declared.saving.SavingStep.TheVariants.{Send, Wait, Ended}
use Rattle.file_ops.specs.declared.opening.OpeningStep.{OpeningStep}
use Rattle.file_ops.specs.declared.opening.OpeningStep.TheVariants as steps
use Rattle.file_ops.specs.declared.sync_file.SyncFile.{SyncFile}
use Rattle.file_ops.specs.declared.sync_file.Syncing.{Syncing}
use Rattle.file_ops.specs.declared.sync_file.Syncing.TheVariants as syncing
use Rattle.file_ops.specs.declared.close_file.CloseFile.{CloseFile}
use Rattle.file_ops.specs.declared.close_file.Closing.{Closing}
use Rattle.file_ops.specs.declared.close_file.Closing.TheVariants as closing
use Rattle.file_ops.specs.declared.write_file.WriteFile.{WriteFile}
use Rattle.file_ops.specs.declared.write_file.Writing.{Writing}
use Rattle.file_ops.specs.declared.write_file.Writing.TheVariants as writing
use Rattle.file_ops.specs.declared.truncate_file.TruncateFile.{TruncateFile}
use Rattle.file_ops.specs.declared.truncate_file.Truncating.{Truncating}
use Rattle.file_ops.specs.declared.truncate_file.Truncating.TheVariants as truncating
use Rattle.file_ops.specs.declared.put_file.PutFile.{PutFile}
use Rattle.file_ops.specs.declared.put_file.Putting.{Putting}
use Rattle.file_ops.specs.declared.put_file.Putting.TheVariants as putting
use Rattle.file_ops.specs.Adding.{is_full}
use Rattle.client_shelf.specs.Busy.{goes_again}
use Rattle.file_ops.specs.Closings.{refusal_of, remove_busy}
use Rattle.file_ops.specs.Judging.{commit_told}
use Rattle.file_ops.specs.Opens.{file_to_write}
use Rattle.file_ops.specs.Ready.{IsReady}
use Rattle.file_ops.specs.Saves as saves
use Rattle.file_ops.specs.SlotFiles.{file_at, joined}
use Rattle.file_ops.specs.Syncs as syncs
use Rattle.file_ops.specs.Closes as closes
use Rattle.file_ops.specs.WriteFile as writes
use Rattle.file_ops.specs.PutFile as puts
use Rattle.file_ops.specs.TruncateFile as truncates
use Rattle.file_ops.specs.Quiet.{is_quiet}
use Rattle.file_ops.proofs.Fewer.{IsFewer, AreFewer, IsIn, both-in, later-in, numbers_written, numbers_flying, same-all, on-decided}
use Rattle.file_ops.proofs.SaveEnds.{lands-fewer}
use Rattle.file_ops.proofs.Steps.{shelf-ready, add-ready, same-back, gives-by-ready, fewer-ready}

abbrev pub AsksNothing : Step → Type 0
AsksNothing next = (call : Call) → next ≡ nexts.Send call → ⊥

-- ---- saves

abbrev pub NoCall : SavingStep → Type 0
NoCall next = (call : Call) → next ≡ Send call → ⊥

sends-same : (xid : ℕ) (by_reply : Bool) (run : Segments) (s : Saving) (back : Pending) (next : SavingStep) (new : Saving) (after : Pending)
    → saves.Sends xid by_reply run s back next new after → NoCall next → after ≡ back
sends-same xid by_reply [] s back next new after (inl g) none = g.1
sends-same xid by_reply (e ∷ es) s back next new after (inl g) none = absurd (none (saves.write_of s.file (piece_of xid e (e ∷ es))) g.0.gives_next)
sends-same xid by_reply run s back next new after (inr g) none = g.1

pub goes-same : (wsize xid : ℕ) (room by_reply : Bool) (s : Saving) (back : Pending) (next : SavingStep) (new : Saving) (after : Pending)
    → saves.Goes wsize xid room by_reply s back next new after → NoCall next → after ≡ back
goes-same wsize xid room by_reply s back next new after goes none = over s.refusal goes
  where
    may : (b : Bool) → saves.SendsIf b xid by_reply (chosen s.upto wsize (of_file s.file back)) s back next new after → after ≡ back
    may true g = sends-same xid by_reply (chosen s.upto wsize (of_file s.file back)) s back next new after g none
    may false g = g.1

    over : (r : Option Fault) → saves.GoesOver r wsize xid room by_reply s back next new after → after ≡ back
    over (Some fault) g = g.1
    over None g = may (saves.may_send room s) g

as-fewer : (old mid new : Pending) → AreFewer old mid → new ≡ mid → AreFewer old new
as-fewer old mid new less same = subst (λ (p : Pending). AreFewer old p) (sym same) less

write-fewer : (wsize asked xid : ℕ) (room : Bool) (told : WriteTold) (s : Saving) (back : Pending) (next : SavingStep) (new : Saving) (after : Pending)
    → saves.TakesWrite wsize asked xid room told s back next new after → NoCall next → AreFewer back after
write-fewer wsize asked xid room told s back next new after t none =
    as-fewer back t.between after (lands-fewer asked s.file told back t.between t.refusal t.lands) (goes-same wsize xid room t.counts (saves.refused_by t.refusal s) t.between next new after t.goes none)

decides-same : (verdict : Verdict) (wsize xid : ℕ) (room : Bool) (s : Saving) (back : Pending) (next : SavingStep) (new : Saving) (after : Pending)
    → saves.Decides verdict wsize xid room s back next new after → NoCall next → after ≡ back
decides-same AllStable wsize xid room s back next new after d none = d.1
decides-same (SendAgain count) wsize xid room s back next new after d none = goes-same wsize xid room false (record s { phase = Resending }) back next new after d none

commit-fewer : (told : Result Verf Fault) (wsize xid : ℕ) (room : Bool) (s : Saving) (back : Pending) (next : SavingStep) (new : Saving) (after : Pending)
    → saves.TakesCommit wsize xid room told s back next new after → NoCall next → AreFewer back after
commit-fewer (Err fault) wsize xid room s back next new after t none = same-all back after t.1
commit-fewer (Ok verf) wsize xid room s back next new after t none =
    as-fewer back t.between after (on-decided s.upto verf back t.between s.file t.decides)
    (decides-same (verdict_of (lost verf s.upto (of_file s.file back).segments)) wsize xid room s t.between next new after t.goes none)

repeats-fewer : (again : Bool) (wsize : ℕ) (sent turn : Turn) (told : WriteTold) (s : Saving) (back : Pending) (next : SavingStep) (new : Saving) (after : Pending)
    → saves.RepeatsWrite again wsize sent turn told s back next new after → NoCall next → AreFewer back after
repeats-fewer true wsize sent turn told s back next new after r none = absurd (none (saves.write_of s.file (saves.answered sent.xid s.file back)) r.0.gives_next)
repeats-fewer false wsize sent turn told s back next new after r none = write-fewer wsize sent.xid turn.xid turn.room told (saves.less_waiting s) back next new after r none

told-fewer : (wsize : ℕ) (sent turn : Turn) (told : WriteTold) (repeats : List Repeat) (s : Saving) (back : Pending) (next : SavingStep) (new : Saving) (after : Pending) (later : List Repeat)
    → saves.TakesTold wsize sent turn told repeats s back next new after later → NoCall next → AreFewer back after
told-fewer wsize sent turn told repeats s back next new after later t none = by (saves.may_again (saves.told_busy told) s) t
  where
    by : (b : Bool) → saves.TakesToldIf b wsize sent turn told repeats s back next new after later → AreFewer back after
    by true (inl g) = repeats-fewer (goes_again true sent turn repeats) wsize sent turn told s back next new after g.0 none
    by true (inr g) = write-fewer wsize sent.xid turn.xid turn.room (Fails faults.Memory) (saves.less_waiting s) back next new after g.0 none
    by false g = write-fewer wsize sent.xid turn.xid turn.room told (saves.less_waiting s) back next new after g.0 none

first-fewer : (again : Bool) (told : Result Verf Fault) (wsize : ℕ) (turn : Turn) (s : Saving) (back : Pending) (next : SavingStep) (new : Saving) (after : Pending)
    → saves.TakesFirst again wsize turn told s back next new after → NoCall next → AreFewer back after
first-fewer true told wsize turn s back next new after t none = absurd (none (saves.commit_of s.file) t.0.gives_next)
first-fewer false told wsize turn s back next new after t none = commit-fewer told wsize turn.xid turn.room (saves.less_waiting s) back next new after t none

pub takes-fewer : (wsize : ℕ) (sent turn : Turn) (came : Result Reply Fault) (repeats : List Repeat) (s : Saving) (back : Pending) (next : SavingStep) (new : Saving) (after : Pending) (later : List Repeat)
    → saves.Takes wsize sent turn came repeats s back next new after later → NoCall next → AreFewer back after
takes-fewer wsize sent turn came repeats s back next new after later takes none = by s.phase takes
  where
    by : (p : Phase) → saves.TakesIn p wsize sent turn came repeats s back next new after later → AreFewer back after
    by Sending t = told-fewer wsize sent turn (saves.told_of sent.xid s.file back came) repeats s back next new after later t none
    by Resending t = told-fewer wsize sent turn (saves.told_of sent.xid s.file back came) repeats s back next new after later t none
    by Committing t = first-fewer (saves.commit_again (commit_told came) sent turn repeats s) (commit_told came) wsize turn s back next new after t.0 none
    by CommittingAgain t = same-all back after t.1

-- ---- the shelf

pub same-leaves : (xid : ℕ) (old new : Shelf) → new ≡ old → IsReady xid old.seq old.back → IsReady xid new.seq new.back
same-leaves xid old new is r = subst (λ (s : Shelf). IsReady xid s.seq s.back) (sym is) r

pub fewer-leaves : (xid seq : ℕ) (old : Pending) (new : Shelf) → new.seq ≡ seq → AreFewer old new.back → IsReady xid seq old → IsReady xid new.seq new.back
fewer-leaves xid seq old new is less r = shelf-ready xid seq new is (fewer-ready xid seq old new.back less r)

-- ---- syncs

sync-no : (gives : SavingStep) (next : Step) → next ≡ syncs.sync_next gives → AsksNothing next → NoCall gives
sync-no gives next is none call e = none call (is ∙ ap (λ (g : SavingStep). syncs.sync_next g) e)

sync-queues : (xid : ℕ) (b : Bool) (wsize lane : ℕ) (turn : Turn) (saving : Saving) (old : Shelf) (next : Step) (state : Syncing) (new : Shelf)
    → syncs.QueuesIf b wsize lane turn saving old next state new → AsksNothing next → IsReady xid old.seq old.back → IsReady xid new.seq new.back
sync-queues xid true wsize lane turn saving old next state new q none r =
    fewer-leaves xid old.seq old.back new (ap (λ (s : Shelf). s.seq) q.others)
    (same-all old.back new.back (goes-same wsize turn.xid turn.room false saving old.back q.gives q.saved new.back q.goes (sync-no q.gives next q.follows.next_is none))) r
sync-queues xid false wsize lane turn saving old next state new q none r = same-leaves xid old new q.shelf_is r

pub sync-starts : (xid wsize : ℕ) (machine : SyncFile) (turn : Turn) (old : Shelf) (next : Step) (state : Syncing) (new : Shelf)
    → syncs.Starts wsize machine turn old next state new → AsksNothing next → IsReady xid old.seq old.back → IsReady xid new.seq new.back
sync-starts xid wsize machine turn old next state new s none r = at (file_at machine.lane machine.slot old.opens) s
  where
    at : (found : Option (List ℕ)) → syncs.StartsAt found wsize machine turn old next state new → IsReady xid new.seq new.back
    at None s = same-leaves xid old new s.shelf_is r
    at (Some file) s = sync-queues xid (is_first machine.lane (joined machine.lane file old).order) wsize machine.lane turn (saves.begun file old.seq) (joined machine.lane file old) next state new s none r

pub sync-resumes : (xid : ℕ) (at : Syncing) (wsize : ℕ) (machine : SyncFile) (turn : Turn) (old : Shelf) (next : Step) (state : Syncing) (new : Shelf)
    → syncs.Resumes at wsize machine turn old next state new → AsksNothing next → IsReady xid old.seq old.back → IsReady xid new.seq new.back
sync-resumes xid syncing.Idle wsize machine turn old next state new s none r = same-leaves xid old new s.shelf_is r
sync-resumes xid (syncing.Saves saving) wsize machine turn old next state new s none r = sync-queues xid (is_first machine.lane old.order) wsize machine.lane turn saving old next state new s none r

pub sync-takes : (xid : ℕ) (at : Syncing) (wsize : ℕ) (machine : SyncFile) (sent turn : Turn) (came : Result Reply Fault) (old : Shelf) (next : Step) (state : Syncing) (new : Shelf)
    → syncs.Takes at wsize machine sent turn came old next state new → AsksNothing next → IsReady xid old.seq old.back → IsReady xid new.seq new.back
sync-takes xid syncing.Idle wsize machine sent turn came old next state new t none r = same-leaves xid old new t.shelf_is r
sync-takes xid (syncing.Saves saving) wsize machine sent turn came old next state new t none r =
    fewer-leaves xid old.seq old.back new (ap (λ (s : Shelf). s.seq) t.others)
    (takes-fewer wsize sent turn came old.repeats saving old.back t.gives t.saved new.back new.repeats t.takes (sync-no t.gives next t.follows.next_is none)) r

-- ---- closes

close-ends : (xid lane : ℕ) (file : List ℕ) (refusal : Option Fault) (old : Shelf) (next : Step) (state : Closing) (new : Shelf)
    → closes.Ends lane file refusal old next state new → IsReady xid old.seq old.back → IsReady xid new.seq new.back
close-ends xid lane file refusal old next state new e r = shelf-ready xid old.seq new (ap (λ (s : Shelf). s.seq) e.others) (gives-by-ready xid old.seq refusal file old.opens old.back new.back e.back r)

close-frees : (xid lane slot : ℕ) (room : Bool) (file : List ℕ) (refusal : Option Fault) (old : Shelf) (next : Step) (state : Closing) (new : Shelf)
    → closes.Frees lane slot room file refusal old next state new → IsReady xid old.seq old.back → IsReady xid new.seq new.back
close-frees xid lane slot room file refusal old next state new f r = at f.place f.ends
  where
    freed : IsReady xid f.freed.seq f.freed.back
    freed = subst (λ (s : Shelf). IsReady xid s.seq s.back) (sym f.slot_is) r

    at : (place : Option (List ℕ × List ℕ)) → closes.EndsAt place lane room file refusal f.freed next state new → IsReady xid new.seq new.back
    at None e = close-ends xid lane file refusal f.freed next state new e freed
    at (Some place) e = same-leaves xid f.freed new e.shelf_is freed

close-follows : (xid : ℕ) (gives : SavingStep) (lane slot : ℕ) (room begun : Bool) (saving : Saving) (old : Shelf) (next : Step) (state : Closing) (new : Shelf)
    → closes.Follows gives lane slot room begun saving old next state new → IsReady xid old.seq old.back → IsReady xid new.seq new.back
close-follows xid (Send call) lane slot room begun saving old next state new f r = same-leaves xid old new f.2 r
close-follows xid Wait lane slot room begun saving old next state new f r = same-leaves xid old new f.2 r
close-follows xid (Ended result) lane slot room begun saving old next state new f r = close-frees xid lane slot room saving.file (refusal_of result) old next state new f r

close-no : (gives : SavingStep) (lane slot : ℕ) (room begun : Bool) (saving : Saving) (old : Shelf) (next : Step) (state : Closing) (new : Shelf)
    → closes.Follows gives lane slot room begun saving old next state new → AsksNothing next → NoCall gives
close-no (Send call) lane slot room begun saving old next state new f none other e = none call f.0
close-no Wait lane slot room begun saving old next state new f none other e = absurd cc
close-no (Ended result) lane slot room begun saving old next state new f none other e = absurd cc

close-on : (xid wsize lane slot : ℕ) (turn : Turn) (begun : Bool) (saving : Saving) (old : Shelf) (next : Step) (state : Closing) (new : Shelf)
    → closes.GoesOn wsize lane slot turn begun saving old next state new → AsksNothing next → IsReady xid old.seq old.back → IsReady xid new.seq new.back
close-on xid wsize lane slot turn begun saving old next state new g none r =
    let no = close-no g.gives lane slot turn.room begun g.saved g.gone next state new g.follows none in
    close-follows xid g.gives lane slot turn.room begun g.saved g.gone next state new g.follows
    (fewer-leaves xid old.seq old.back g.gone (ap (λ (s : Shelf). s.seq) g.others) (same-all old.back g.gone.back (goes-same wsize turn.xid turn.room false saving old.back g.gives g.saved g.gone.back g.goes no)) r)

close-queues : (xid : ℕ) (b : Bool) (wsize lane slot : ℕ) (turn : Turn) (saving : Saving) (old : Shelf) (next : Step) (state : Closing) (new : Shelf)
    → closes.QueuesIf b wsize lane slot turn saving old next state new → AsksNothing next → IsReady xid old.seq old.back → IsReady xid new.seq new.back
close-queues xid false wsize lane slot turn saving old next state new q none r = same-leaves xid old new q.shelf_is r
close-queues xid true wsize lane slot turn saving old next state new q none r = at (last_end (of_file saving.file old.back).segments) q
  where
    at : (end : Option ℕ) → closes.Begins end wsize lane slot turn saving old next state new → IsReady xid new.seq new.back
    at None b = close-frees xid lane slot turn.room saving.file None old next state new b r
    at (Some end) b = close-on xid wsize lane slot turn false saving old next state new b none r

pub close-starts : (xid wsize : ℕ) (machine : CloseFile) (turn : Turn) (old : Shelf) (next : Step) (state : Closing) (new : Shelf)
    → closes.Starts wsize machine turn old next state new → AsksNothing next → IsReady xid old.seq old.back → IsReady xid new.seq new.back
close-starts xid wsize machine turn old next state new s none r = at (file_at machine.lane machine.slot old.opens) s
  where
    at : (found : Option (List ℕ)) → closes.StartsAt found wsize machine turn old next state new → IsReady xid new.seq new.back
    at None s = same-leaves xid old new s.shelf_is r
    at (Some file) s = close-queues xid (is_first machine.lane (joined machine.lane file old).order) wsize machine.lane machine.slot turn (saves.begun file old.seq) (joined machine.lane file old) next state new s none r

pub close-resumes : (xid : ℕ) (at : Closing) (wsize : ℕ) (machine : CloseFile) (turn : Turn) (old : Shelf) (next : Step) (state : Closing) (new : Shelf)
    → closes.Resumes at wsize machine turn old next state new → AsksNothing next → IsReady xid old.seq old.back → IsReady xid new.seq new.back
close-resumes xid closing.Idle wsize machine turn old next state new s none r = same-leaves xid old new s.shelf_is r
close-resumes xid (closing.Queued saving) wsize machine turn old next state new s none r = close-queues xid (is_first machine.lane old.order) wsize machine.lane machine.slot turn saving old next state new s none r
close-resumes xid (closing.Saves saving) wsize machine turn old next state new s none r = by (is_first machine.lane old.order) s
  where
    by : (b : Bool) → closes.GoesOnIf b wsize machine.lane machine.slot turn saving old next state new → IsReady xid new.seq new.back
    by true g = close-on xid wsize machine.lane machine.slot turn true saving old next state new g none r
    by false g = same-leaves xid old new g.shelf_is r
close-resumes xid (closing.ToRemove removal) wsize machine turn old next state new s none r = same-leaves xid old new s.shelf_is r
close-resumes xid (closing.Removing removal) wsize machine turn old next state new s none r = same-leaves xid old new s.shelf_is r

pub close-takes : (xid : ℕ) (at : Closing) (wsize : ℕ) (machine : CloseFile) (sent turn : Turn) (came : Result Reply Fault) (old : Shelf) (next : Step) (state : Closing) (new : Shelf)
    → closes.Takes at wsize machine sent turn came old next state new → AsksNothing next → IsReady xid old.seq old.back → IsReady xid new.seq new.back
close-takes xid closing.Idle wsize machine sent turn came old next state new t none r = same-leaves xid old new t.shelf_is r
close-takes xid (closing.Queued saving) wsize machine sent turn came old next state new t none r = same-leaves xid old new t.shelf_is r
close-takes xid (closing.ToRemove removal) wsize machine sent turn came old next state new t none r = same-leaves xid old new t.shelf_is r
close-takes xid (closing.Saves saving) wsize machine sent turn came old next state new t none r =
    let no = close-no t.gives machine.lane machine.slot turn.room true t.saved t.took next state new t.follows none in
    close-follows xid t.gives machine.lane machine.slot turn.room true t.saved t.took next state new t.follows
    (fewer-leaves xid old.seq old.back t.took (ap (λ (s : Shelf). s.seq) t.others) (takes-fewer wsize sent turn came old.repeats saving old.back t.gives t.saved t.took.back t.took.repeats t.takes no) r)
close-takes xid (closing.Removing removal) wsize machine sent turn came old next state new t none r = by (goes_again (remove_busy came) sent turn old.repeats) t.ends
  where
    took : IsReady xid t.took.seq t.took.back
    took = subst (λ (s : Shelf). IsReady xid s.seq s.back) (sym t.others) r

    by : (b : Bool) → closes.EndsIf b machine.lane removal t.took next state new → IsReady xid new.seq new.back
    by true e = same-leaves xid t.took new e.shelf_is took
    by false e = close-ends xid machine.lane removal.file removal.refusal t.took next state new e took

-- ---- writes

room-no : (told : SavingStep) (next : Step) → next ≡ writes.room_next told → AsksNothing next → NoCall told
room-no told next is none call e = none call (is ∙ ap (λ (g : SavingStep). writes.room_next g) e)

room-seq : (told : SavingStep) (xid lane : ℕ) (shelf : Shelf) → IsReady xid shelf.seq shelf.back → IsReady xid (writes.room_shelf told lane shelf).seq (writes.room_shelf told lane shelf).back
room-seq (Send call) xid lane shelf r = r
room-seq Wait xid lane shelf r = r
room-seq (Ended (Ok done)) xid lane shelf r = r
room-seq (Ended (Err fault)) xid lane shelf r = r

write-saves : (xid : ℕ) (b : Bool) (wsize lane : ℕ) (file : List ℕ) (saving : Saving) (turn : Turn) (shelf : Shelf) (next : Step) (new : Writing) (after : Shelf)
    → writes.SavesIf b wsize lane file saving turn shelf next new after → AsksNothing next → IsReady xid shelf.seq shelf.back → IsReady xid after.seq after.back
write-saves xid false wsize lane file saving turn shelf next new after s none r = same-leaves xid shelf after s.shelf_is r
write-saves xid true wsize lane file saving turn shelf next new after s none r =
    same-leaves xid (writes.room_shelf s.told lane (record shelf { back = s.back })) after s.leads.shelf_is
    (room-seq s.told xid lane (record shelf { back = s.back })
    (same-back xid shelf.seq shelf.back s.back (goes-same wsize turn.xid turn.room false saving shelf.back s.told s.saved s.back s.goes (room-no s.told next s.leads.gives_next none)) r))

pub write-writes : (xid wsize lane : ℕ) (file : List ℕ) (offset : ℕ) (bytes : List ℕ) (turn : Turn) (shelf : Shelf) (next : Step) (new : Writing) (after : Shelf)
    → writes.Writes wsize lane file offset bytes turn shelf next new after → AsksNothing next → IsReady xid shelf.seq shelf.back → IsReady xid after.seq after.back
write-writes xid wsize lane file offset bytes turn shelf next new after w none r = by (is_full bytes shelf.back) w
  where
    by : (b : Bool) → writes.WritesIf b wsize lane file offset bytes turn shelf next new after → IsReady xid after.seq after.back
    by true (inl s) = write-saves xid (is_first lane (joined lane s.of shelf).order) wsize lane file (saves.begun s.of shelf.seq) turn (joined lane s.of shelf) next new after s.saves none r
    by true (inr s) = same-leaves xid shelf after s.1.shelf_is r
    by false (inl a) = shelf-ready xid (shelf.seq + 1) after (ap (λ (s : Shelf). s.seq) a.leads.shelf_is) (add-ready xid shelf.seq offset bytes file shelf.back after.back a.adds r)
    by false (inr s) = same-leaves xid shelf after s.shelf_is r

pub write-starts : (xid wsize : ℕ) (machine : WriteFile) (turn : Turn) (old : Shelf) (next : Step) (new : WriteFile) (after : Shelf)
    → writes.Starts wsize machine turn old next new after → AsksNothing next → IsReady xid old.seq old.back → IsReady xid after.seq after.back
write-starts xid wsize machine turn old next new after s none r = at (file_to_write machine.lane machine.slot old.opens) s
  where
    at : (found : Result (List ℕ) Fault) → writes.StartsAt found wsize machine turn old next new after → IsReady xid after.seq after.back
    at (Err fault) s = same-leaves xid old after s.refuses.shelf_is r
    at (Ok file) (inl w) = write-writes xid wsize machine.lane file machine.offset (writes.text_bytes machine.text) turn old next new.state after w.writes none r
    at (Ok file) (inr u) = same-leaves xid old after u.refuses.shelf_is r

pub write-resumes : (xid : ℕ) (at : Writing) (wsize lane : ℕ) (turn : Turn) (old : Shelf) (next : Step) (new : Writing) (after : Shelf)
    → writes.ResumesIn at wsize lane turn old next new after → AsksNothing next → IsReady xid old.seq old.back → IsReady xid after.seq after.back
write-resumes xid writing.Idle wsize lane turn old next new after s none r = same-leaves xid old after s.shelf_is r
write-resumes xid (writing.Room file saving) wsize lane turn old next new after s none r = write-saves xid (is_first lane old.order) wsize lane file saving turn old next new after s none r

write-follows : (xid : ℕ) (told : SavingStep) (wsize : ℕ) (machine : WriteFile) (file : List ℕ) (saved : Saving) (turn : Turn) (shelf : Shelf) (next : Step) (new : Writing) (after : Shelf)
    → writes.Follows told wsize machine file saved turn shelf next new after → AsksNothing next → IsReady xid shelf.seq shelf.back → IsReady xid after.seq after.back
write-follows xid (Ended (Ok done)) wsize machine file saved turn shelf next new after f none r =
    write-writes xid wsize machine.lane file machine.offset (writes.made_bytes machine.text) turn (record shelf { order = left machine.lane shelf.order }) next new after f none r
write-follows xid (Ended (Err fault)) wsize machine file saved turn shelf next new after f none r =
    same-leaves xid (writes.room_shelf (Ended (Err fault)) machine.lane shelf) after f.shelf_is r
write-follows xid (Send call) wsize machine file saved turn shelf next new after f none r = same-leaves xid shelf after f.shelf_is r
write-follows xid Wait wsize machine file saved turn shelf next new after f none r = same-leaves xid shelf after f.shelf_is r

write-no : (told : SavingStep) (wsize : ℕ) (machine : WriteFile) (file : List ℕ) (saved : Saving) (turn : Turn) (shelf : Shelf) (next : Step) (new : Writing) (after : Shelf)
    → writes.Follows told wsize machine file saved turn shelf next new after → AsksNothing next → NoCall told
write-no (Send call) wsize machine file saved turn shelf next new after f none other e = none call f.gives_next
write-no Wait wsize machine file saved turn shelf next new after f none other e = absurd cc
write-no (Ended (Ok done)) wsize machine file saved turn shelf next new after f none other e = absurd cc
write-no (Ended (Err fault)) wsize machine file saved turn shelf next new after f none other e = absurd cc

pub write-takes : (xid : ℕ) (at : Writing) (wsize : ℕ) (machine : WriteFile) (sent turn : Turn) (came : Result Reply Fault) (old : Shelf) (next : Step) (new : Writing) (after : Shelf)
    → writes.TakesIn at wsize machine sent turn came old next new after → AsksNothing next → IsReady xid old.seq old.back → IsReady xid after.seq after.back
write-takes xid writing.Idle wsize machine sent turn came old next new after t none r = same-leaves xid old after t.shelf_is r
write-takes xid (writing.Room file saving) wsize machine sent turn came old next new after t none r =
    write-follows xid t.told wsize machine file t.saved turn _ next new after t.follows none
    (fewer-ready xid old.seq old.back t.back (takes-fewer wsize sent turn came old.repeats saving old.back t.told t.saved t.back t.repeats t.takes (write-no t.told wsize machine file t.saved turn _ next new after t.follows none)) r)

-- ---- puts

put-ends : (xid lane : ℕ) (file : List ℕ) (refusal : Option Fault) (old : Shelf) (next : Step) (state : Putting) (new : Shelf)
    → puts.Ends lane file refusal old next state new → IsReady xid old.seq old.back → IsReady xid new.seq new.back
put-ends xid lane file refusal old next state new e r = shelf-ready xid old.seq new (ap (λ (s : Shelf). s.seq) e.others) (gives (puts.keeps_refused lane file old.puts old.order) e.back)
  where
    gives : (b : Bool) → puts.GivesUpAlone b refusal file old.opens old.back new.back → IsReady xid old.seq new.back
    gives true g = same-back xid old.seq old.back new.back g r
    gives false g = gives-by-ready xid old.seq refusal file old.opens old.back new.back g r

put-follows : (xid : ℕ) (gives : SavingStep) (lane : ℕ) (saving : Saving) (old : Shelf) (next : Step) (state : Putting) (new : Shelf)
    → puts.Follows gives lane saving old next state new → IsReady xid old.seq old.back → IsReady xid new.seq new.back
put-follows xid (Send call) lane saving old next state new f r = same-leaves xid old new f.2 r
put-follows xid Wait lane saving old next state new f r = same-leaves xid old new f.2 r
put-follows xid (Ended result) lane saving old next state new f r = put-ends xid lane saving.file (refusal_of result) old next state new f r

put-no : (gives : SavingStep) (lane : ℕ) (saving : Saving) (old : Shelf) (next : Step) (state : Putting) (new : Shelf)
    → puts.Follows gives lane saving old next state new → AsksNothing next → NoCall gives
put-no (Send call) lane saving old next state new f none other e = none call f.0
put-no Wait lane saving old next state new f none other e = absurd cc
put-no (Ended result) lane saving old next state new f none other e = absurd cc

put-queues : (xid : ℕ) (b : Bool) (wsize lane : ℕ) (turn : Turn) (saving : Saving) (old : Shelf) (next : Step) (state : Putting) (new : Shelf)
    → puts.QueuesIf b wsize lane turn saving old next state new → AsksNothing next → IsReady xid old.seq old.back → IsReady xid new.seq new.back
put-queues xid false wsize lane turn saving old next state new q none r = same-leaves xid old new q.shelf_is r
put-queues xid true wsize lane turn saving old next state new g none r =
    let no = put-no g.gives lane g.saved g.gone next state new g.follows none in
    put-follows xid g.gives lane g.saved g.gone next state new g.follows
    (fewer-leaves xid old.seq old.back g.gone (ap (λ (s : Shelf). s.seq) g.others) (same-all old.back g.gone.back (goes-same wsize turn.xid turn.room false saving old.back g.gives g.saved g.gone.back g.goes no)) r)

put-wrote : (xid : ℕ) (told : Step) (wsize lane : ℕ) (file : List ℕ) (turn : Turn) (old : Shelf) (next : Step) (state : Putting) (new : Shelf)
    → puts.AfterWrite told wsize lane file turn old next state new → AsksNothing next → IsReady xid old.seq old.back → IsReady xid new.seq new.back
put-wrote xid (nexts.Send call) wsize lane file turn old next state new a none r = same-leaves xid old new a.2 r
put-wrote xid nexts.Wait wsize lane file turn old next state new a none r = same-leaves xid old new a.2 r
put-wrote xid (nexts.Done (answers.Done value)) wsize lane file turn old next state new a none r =
    put-queues xid (is_first lane (joined lane file old).order) wsize lane turn (saves.begun file old.seq) (joined lane file old) next state new a none r
put-wrote xid (nexts.Done (answers.Refused fault)) wsize lane file turn old next state new a none r = put-ends xid lane file (Some fault) old next state new a r

-- where the put asks for nothing, its write asked for nothing
wrote-no : (told : Step) (wsize lane : ℕ) (file : List ℕ) (turn : Turn) (old : Shelf) (next : Step) (state : Putting) (new : Shelf)
    → puts.AfterWrite told wsize lane file turn old next state new → AsksNothing next → AsksNothing told
wrote-no (nexts.Send call) wsize lane file turn old next state new a none other e = none call a.0
wrote-no nexts.Wait wsize lane file turn old next state new a none other e = absurd cc
wrote-no (nexts.Done (answers.Done value)) wsize lane file turn old next state new a none other e = absurd cc
wrote-no (nexts.Done (answers.Refused fault)) wsize lane file turn old next state new a none other e = absurd cc

put-adds : (xid wsize : ℕ) (machine : PutFile) (file : List ℕ) (turn : Turn) (old : Shelf) (next : Step) (new : PutFile) (after : Shelf)
    → puts.AddsBytes wsize machine file turn old next new after → AsksNothing next → IsReady xid old.seq old.back → IsReady xid after.seq after.back
put-adds xid wsize machine file turn old next new after a none r =
    put-wrote xid a.told wsize machine.write.lane file turn a.mid next new.state after a.goes.follows none
    (write-writes xid wsize machine.write.lane file machine.write.offset (writes.made_bytes machine.write.text) turn (puts.put_at machine.write.lane file old) a.told a.written a.mid a.writes
    (wrote-no a.told wsize machine.write.lane file turn a.mid next new.state after a.goes.follows none) r)

put-opened : (xid : ℕ) (step : OpeningStep) (wsize : ℕ) (machine : PutFile) (turn : Turn) (old : Shelf) (next : Step) (new : PutFile) (after : Shelf)
    → puts.AfterOpening step wsize machine turn old next new after → AsksNothing next → IsReady xid old.seq old.back → IsReady xid after.seq after.back
put-opened xid (steps.Send call) wsize machine turn old next new after a none r = same-leaves xid old after a.2 r
put-opened xid steps.Wait wsize machine turn old next new after a none r = same-leaves xid old after a.shelf_is r
put-opened xid (steps.Ended (Ok file)) wsize machine turn old next new after a none r = put-adds xid wsize machine file turn old next new after a none r
put-opened xid (steps.Ended (Err fault)) wsize machine turn old next new after a none r = same-leaves xid old after a.2 r

pub put-resumes : (xid : ℕ) (at : Putting) (wsize : ℕ) (machine : PutFile) (turn : Turn) (old : Shelf) (next : Step) (new : PutFile) (after : Shelf)
    → puts.Resumes at wsize machine turn old next new after → AsksNothing next → IsReady xid old.seq old.back → IsReady xid after.seq after.back
put-resumes xid putting.Idle wsize machine turn old next new after s none r = same-leaves xid old after s.shelf_is r
put-resumes xid putting.Opens wsize machine turn old next new after s none r = same-leaves xid old after s.2 r
put-resumes xid (putting.Adds file) wsize machine turn old next new after s none r =
    put-wrote xid s.told wsize machine.write.lane file turn s.mid next new.state after s.goes.follows none
    (write-resumes xid machine.write.state wsize machine.write.lane turn old s.told s.written s.mid s.resumes (wrote-no s.told wsize machine.write.lane file turn s.mid next new.state after s.goes.follows none) r)
put-resumes xid (putting.Saves saving) wsize machine turn old next new after s none r =
    put-queues xid (is_first machine.write.lane old.order) wsize machine.write.lane turn saving old next new.state after s.0 none r

pub put-takes : (xid : ℕ) (at : Putting) (wsize : ℕ) (machine : PutFile) (sent turn : Turn) (came : Result Reply Fault) (old : Shelf) (next : Step) (new : PutFile) (after : Shelf)
    → puts.Takes at wsize machine sent turn came old next new after → AsksNothing next → IsReady xid old.seq old.back → IsReady xid after.seq after.back
put-takes xid putting.Idle wsize machine sent turn came old next new after t none r = same-leaves xid old after t.shelf_is r
put-takes xid putting.Opens wsize machine sent turn came old next new after t none r =
    put-opened xid t.step wsize _ turn t.took next new after t.follows none (subst (λ (s : Shelf). IsReady xid s.seq s.back) (sym t.others) r)
put-takes xid (putting.Adds file) wsize machine sent turn came old next new after t none r =
    put-wrote xid t.told wsize machine.write.lane file turn t.mid next new.state after t.goes.follows none
    (write-takes xid machine.write.state wsize machine.write sent turn came old t.told t.written t.mid t.takes (wrote-no t.told wsize machine.write.lane file turn t.mid next new.state after t.goes.follows none) r)
put-takes xid (putting.Saves saving) wsize machine sent turn came old next new after t none r =
    let one = t.0 in
    let no = put-no one.gives machine.write.lane one.saved one.took next new.state after one.follows none in
    put-follows xid one.gives machine.write.lane one.saved one.took next new.state after one.follows
    (fewer-leaves xid old.seq old.back one.took (ap (λ (s : Shelf). s.seq) one.others) (takes-fewer wsize sent turn came old.repeats saving old.back one.gives one.saved one.took.back one.took.repeats one.takes no) r)

-- ---- truncates

cut-in : (place upto : ℕ) (es : Segments) → IsIn (numbers_written (cut_from place upto es)) (numbers_written es)
cut-in place upto [] x c = c
cut-in place upto (e ∷ es) x c = by (nat_lt upto e.1.number || nat_le (end_of e) place) (nat_lt e.0 place) (cut-in place upto es) c
  where
    by : (a b : Bool) → IsIn (numbers_written (cut_from place upto es)) (numbers_written es)
        → Contains (numbers_written (if a then e ∷ cut_from place upto es else if b then (e.0, head_of (place - e.0) e.1) ∷ cut_from place upto es else cut_from place upto es)) x → Contains (numbers_written (e ∷ es)) x
    by true b w c = both-in e.1.number (numbers_written (cut_from place upto es)) (numbers_written es) w x c
    by false true w c = both-in e.1.number (numbers_written (cut_from place upto es)) (numbers_written es) w x c
    by false false w c = later-in e.1.number (numbers_written es) x (w x c)

cut-numbers : (size upto : ℕ) (of : FilePending) (x : ℕ) → Contains (numbers_of (with_cut size upto of)) x → Contains (numbers_of of) x
cut-numbers size upto of x c = by (Contains-append_cases (numbers_written (cut_from size upto of.segments)) (numbers_flying of.pieces) x c)
  where
    by : Contains (numbers_written (cut_from size upto of.segments)) x ⊎ Contains (numbers_flying of.pieces) x → Contains (numbers_of of) x
    by (inl d) = Contains-append_left (numbers_written of.segments) (numbers_flying of.pieces) x (cut-in size upto of.segments x d)
    by (inr d) = Contains-append_right (numbers_written of.segments) (numbers_flying of.pieces) x d

cut-fewer : (size upto : ℕ) (old new : Pending) (file : List ℕ) → OnFile old new file (with_cut size upto (of_file file old)) → AreFewer old new
cut-fewer size upto old new file on = record { of = λ other. by other (same-or file other) }
  where
    by : (other : List ℕ) → (other ≡ file) ⊎ (other ≢ file) → IsFewer (of_file other old) (of_file other new)
    by other (inl same) =
        subst (λ (f : List ℕ). IsFewer (of_file f old) (of_file f new)) (sym same)
        (subst (λ (v : FilePending). IsFewer (of_file file old) v) (sym on.here) (record { numbers = λ x c. cut-numbers size upto (of_file file old) x c; xids = λ x h. h }))
    by other (inr apart) = subst (λ (v : FilePending). IsFewer (of_file other old) v) (sym (on.others other apart)) (record { numbers = λ x c. c; xids = λ x h. h })

cuts : (quiet : Bool) (file : List ℕ) (size upto : ℕ) (old new : Pending) → truncates.CutsQuiet quiet file size upto old new → AreFewer old new
cuts true file size upto old new on = cut-fewer size upto old new file on
cuts false file size upto old new is = same-all old new is

pub truncate-back : (at : Truncating) (machine : TruncateFile) (came : Result Reply Fault) (old new : Pending) → truncates.TookBack at machine came old new → AreFewer old new
truncate-back truncating.Idle machine came old new t = same-all old new t
truncate-back (truncating.Queued file upto) machine came old new t = same-all old new t
truncate-back (truncating.Asked file upto) machine came old new t = told (truncates.size_told came) t
  where
    told : (result : Result Wcc Fault) → truncates.CutsBack result file machine.size upto old new → AreFewer old new
    told (Ok wcc) c = cuts (is_quiet file old) file machine.size upto old new c
    told (Err fault) c = same-all old new c

pub truncate-begins : (xid : ℕ) (found : Result (List ℕ) Fault) (m : TruncateFile) (old new : Shelf) → new ≡ truncates.begun_shelf found m old → IsReady xid old.seq old.back → IsReady xid new.seq new.back
truncate-begins xid (Ok file) m old new is r = same-leaves xid (joined m.lane file old) new is r
truncate-begins xid (Err fault) m old new is r = same-leaves xid old new is r

pub truncate-seq : (at : Truncating) (m : TruncateFile) (came : Result Reply Fault) (sent turn : Turn) (attrs : Attrs) (back : Pending) (old : Shelf) → (truncates.took_shelf at m came sent turn attrs back old).seq ≡ old.seq
truncate-seq truncating.Idle m came sent turn attrs back old = refl
truncate-seq (truncating.Queued file upto) m came sent turn attrs back old = refl
truncate-seq (truncating.Asked file upto) m came sent turn attrs back old = refl

pub begun-seq : (found : Result (List ℕ) Fault) (m : TruncateFile) (old : Shelf) → (truncates.begun_shelf found m old).seq ≡ old.seq
begun-seq (Ok file) m old = refl
begun-seq (Err fault) m old = refl
