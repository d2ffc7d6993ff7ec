-- How many numbers of writes a step gives out: a start or a reply one at most, any other step none.
use Rattle.std.proofs.Common.{◌≡◌, ◌≤◌, ◌+◌, ℕ, Bool, true, false, List, Option, Some, None, Result, Ok, Err, refl, ap, ◌∙◌, inl, inr, arith}
use Rattle.world_model.specs.declared.answer.Fault.{Fault}
use Rattle.world_model.specs.declared.answer.Answer.TheVariants as answers
use Rattle.world_model.specs.declared.message.Reply.{Reply}
use Rattle.write_back.specs.Segments.{last_end}
use Rattle.write_back.specs.Files.{of_file}
use Rattle.client_shelf.specs.declared.shelf.Shelf.{Shelf}
use Rattle.client_shelf.specs.declared.turn.Turn.{Turn}
use Rattle.client_shelf.specs.LaneFiles.{left, is_first}
use Rattle.client_shelf.specs.declared.step.Step.{Step}
use Rattle.client_shelf.specs.declared.step.Step.TheVariants as nexts
use Rattle.file_ops.specs.declared.saving.Saving.{Saving}
use Rattle.file_ops.specs.declared.saving.SavingStep.{SavingStep}
use Rattle.file_ops.specs.declared.saving.SavingStep.TheVariants.{Send, Wait, Ended}
use Rattle.file_ops.specs.declared.opening.OpeningStep.{OpeningStep}
use Rattle.file_ops.specs.declared.opening.OpeningStep.TheVariants as steps
use Rattle.file_ops.specs.declared.sync_file.SyncFile.{SyncFile}
use Rattle.file_ops.specs.declared.sync_file.Syncing.{Syncing}
use Rattle.file_ops.specs.declared.sync_file.Syncing.TheVariants as syncing
use Rattle.file_ops.specs.declared.close_file.CloseFile.{CloseFile}
use Rattle.file_ops.specs.declared.close_file.Closing.{Closing}
use Rattle.file_ops.specs.declared.close_file.Closing.TheVariants as closing
use Rattle.file_ops.specs.declared.write_file.WriteFile.{WriteFile}
use Rattle.file_ops.specs.declared.write_file.Writing.{Writing}
use Rattle.file_ops.specs.declared.write_file.Writing.TheVariants as writing
use Rattle.file_ops.specs.declared.put_file.PutFile.{PutFile}
use Rattle.file_ops.specs.declared.put_file.Putting.{Putting}
use Rattle.file_ops.specs.declared.put_file.Putting.TheVariants as putting
use Rattle.file_ops.specs.Adding.{is_full}
use Rattle.client_shelf.specs.Busy.{goes_again}
use Rattle.file_ops.specs.Closings.{refusal_of, remove_busy}
use Rattle.file_ops.specs.Opens.{file_to_write}
use Rattle.file_ops.specs.Saves.{begun}
use Rattle.file_ops.specs.SlotFiles.{file_at, joined}
use Rattle.file_ops.specs.Syncs as syncs
use Rattle.file_ops.specs.Closes as closes
use Rattle.file_ops.specs.WriteFile as writes
use Rattle.file_ops.specs.PutFile as puts

abbrev seq : Shelf → ℕ
seq s = s.seq

pub none-more : (a b : ℕ) → a ≡ b → a ≤ b + 1
none-more a b same = omega (arith, same)

-- ---- syncs

sync-queues : (b : Bool) (wsize lane : ℕ) (turn : Turn) (saving : Saving) (old : Shelf) (next : Step) (state : Syncing) (new : Shelf) → syncs.QueuesIf b wsize lane turn saving old next state new → new.seq ≡ old.seq
sync-queues true wsize lane turn saving old next state new q = ap seq q.others
sync-queues false wsize lane turn saving old next state new q = ap seq q.shelf_is

pub sync-starts : (wsize : ℕ) (machine : SyncFile) (turn : Turn) (old : Shelf) (next : Step) (state : Syncing) (new : Shelf) → syncs.Starts wsize machine turn old next state new → new.seq ≡ old.seq
sync-starts wsize machine turn old next state new s = at (file_at machine.lane machine.slot old.opens) s
  where
    at : (found : Option (List ℕ)) → syncs.StartsAt found wsize machine turn old next state new → new.seq ≡ old.seq
    at None s = ap seq s.shelf_is
    at (Some file) s = sync-queues (is_first machine.lane (joined machine.lane file old).order) wsize machine.lane turn (begun file old.seq) (joined machine.lane file old) next state new s

pub sync-resumes : (at : Syncing) (wsize : ℕ) (machine : SyncFile) (turn : Turn) (old : Shelf) (next : Step) (state : Syncing) (new : Shelf) → syncs.Resumes at wsize machine turn old next state new → new.seq ≡ old.seq
sync-resumes syncing.Idle wsize machine turn old next state new s = ap seq s.shelf_is
sync-resumes (syncing.Saves saving) wsize machine turn old next state new s = sync-queues (is_first machine.lane old.order) wsize machine.lane turn saving old next state new s

pub sync-takes : (at : Syncing) (wsize : ℕ) (machine : SyncFile) (sent turn : Turn) (came : Result Reply Fault) (old : Shelf) (next : Step) (state : Syncing) (new : Shelf)
    → syncs.Takes at wsize machine sent turn came old next state new → new.seq ≡ old.seq
sync-takes syncing.Idle wsize machine sent turn came old next state new t = ap seq t.shelf_is
sync-takes (syncing.Saves saving) wsize machine sent turn came old next state new t = ap seq t.others

-- ---- closes

close-frees : (lane slot : ℕ) (room : Bool) (file : List ℕ) (refusal : Option Fault) (old : Shelf) (next : Step) (state : Closing) (new : Shelf)
    → closes.Frees lane slot room file refusal old next state new → new.seq ≡ old.seq
close-frees lane slot room file refusal old next state new f = at f.place f.ends
  where
    at : (place : Option (List ℕ × List ℕ)) → closes.EndsAt place lane room file refusal f.freed next state new → new.seq ≡ old.seq
    at None e = ap seq e.others ∙ ap seq f.slot_is
    at (Some place) e = ap seq e.shelf_is ∙ ap seq f.slot_is

close-follows : (gives : SavingStep) (lane slot : ℕ) (room begun : Bool) (saving : Saving) (old : Shelf) (next : Step) (state : Closing) (new : Shelf)
    → closes.Follows gives lane slot room begun saving old next state new → new.seq ≡ old.seq
close-follows (Send call) lane slot room begun saving old next state new f = ap seq f.2
close-follows Wait lane slot room begun saving old next state new f = ap seq f.2
close-follows (Ended result) lane slot room begun saving old next state new f = close-frees lane slot room saving.file (refusal_of result) old next state new f

close-on : (wsize lane slot : ℕ) (turn : Turn) (begun : Bool) (saving : Saving) (old : Shelf) (next : Step) (state : Closing) (new : Shelf)
    → closes.GoesOn wsize lane slot turn begun saving old next state new → new.seq ≡ old.seq
close-on wsize lane slot turn begun saving old next state new g = close-follows g.gives lane slot turn.room begun g.saved g.gone next state new g.follows ∙ ap seq g.others

close-queues : (b : Bool) (wsize lane slot : ℕ) (turn : Turn) (saving : Saving) (old : Shelf) (next : Step) (state : Closing) (new : Shelf)
    → closes.QueuesIf b wsize lane slot turn saving old next state new → new.seq ≡ old.seq
close-queues false wsize lane slot turn saving old next state new q = ap seq q.shelf_is
close-queues true wsize lane slot turn saving old next state new q = at (last_end (of_file saving.file old.back).segments) q
  where
    at : (end : Option ℕ) → closes.Begins end wsize lane slot turn saving old next state new → new.seq ≡ old.seq
    at None b = close-frees lane slot turn.room saving.file None old next state new b
    at (Some end) b = close-on wsize lane slot turn false saving old next state new b

pub close-starts : (wsize : ℕ) (machine : CloseFile) (turn : Turn) (old : Shelf) (next : Step) (state : Closing) (new : Shelf) → closes.Starts wsize machine turn old next state new → new.seq ≡ old.seq
close-starts wsize machine turn old next state new s = at (file_at machine.lane machine.slot old.opens) s
  where
    at : (found : Option (List ℕ)) → closes.StartsAt found wsize machine turn old next state new → new.seq ≡ old.seq
    at None s = ap seq s.shelf_is
    at (Some file) s = close-queues (is_first machine.lane (joined machine.lane file old).order) wsize machine.lane machine.slot turn (begun file old.seq) (joined machine.lane file old) next state new s

pub close-resumes : (at : Closing) (wsize : ℕ) (machine : CloseFile) (turn : Turn) (old : Shelf) (next : Step) (state : Closing) (new : Shelf) → closes.Resumes at wsize machine turn old next state new → new.seq ≡ old.seq
close-resumes closing.Idle wsize machine turn old next state new s = ap seq s.shelf_is
close-resumes (closing.Queued saving) wsize machine turn old next state new s = close-queues (is_first machine.lane old.order) wsize machine.lane machine.slot turn saving old next state new s
close-resumes (closing.Saves saving) wsize machine turn old next state new s = by (is_first machine.lane old.order) s
  where
    by : (b : Bool) → closes.GoesOnIf b wsize machine.lane machine.slot turn saving old next state new → new.seq ≡ old.seq
    by true g = close-on wsize machine.lane machine.slot turn true saving old next state new g
    by false g = ap seq g.shelf_is
close-resumes (closing.ToRemove removal) wsize machine turn old next state new s = ap seq s.shelf_is
close-resumes (closing.Removing removal) wsize machine turn old next state new s = ap seq s.shelf_is

pub close-takes : (at : Closing) (wsize : ℕ) (machine : CloseFile) (sent turn : Turn) (came : Result Reply Fault) (old : Shelf) (next : Step) (state : Closing) (new : Shelf)
    → closes.Takes at wsize machine sent turn came old next state new → new.seq ≡ old.seq
close-takes closing.Idle wsize machine sent turn came old next state new t = ap seq t.shelf_is
close-takes (closing.Queued saving) wsize machine sent turn came old next state new t = ap seq t.shelf_is
close-takes (closing.ToRemove removal) wsize machine sent turn came old next state new t = ap seq t.shelf_is
close-takes (closing.Saves saving) wsize machine sent turn came old next state new t =
    close-follows t.gives machine.lane machine.slot turn.room true t.saved t.took next state new t.follows ∙ ap seq t.others
close-takes (closing.Removing removal) wsize machine sent turn came old next state new t = by (goes_again (remove_busy came) sent turn old.repeats) t.ends
  where
    by : (b : Bool) → closes.EndsIf b machine.lane removal t.took next state new → new.seq ≡ old.seq
    by true e = ap seq e.shelf_is ∙ ap seq t.others
    by false e = ap seq e.others ∙ ap seq t.others

-- ---- writes

pub room-seq : (told : SavingStep) (lane : ℕ) (shelf : Shelf) → (writes.room_shelf told lane shelf).seq ≡ shelf.seq
room-seq (Send call) lane shelf = refl
room-seq Wait lane shelf = refl
room-seq (Ended (Ok done)) lane shelf = refl
room-seq (Ended (Err fault)) lane shelf = refl

write-saves : (b : Bool) (wsize lane : ℕ) (file : List ℕ) (saving : Saving) (turn : Turn) (shelf : Shelf) (next : Step) (new : Writing) (after : Shelf)
    → writes.SavesIf b wsize lane file saving turn shelf next new after → after.seq ≡ shelf.seq
write-saves false wsize lane file saving turn shelf next new after s = ap seq s.shelf_is
write-saves true wsize lane file saving turn shelf next new after s = ap seq s.leads.shelf_is ∙ room-seq s.told lane (record shelf { back = s.back })

write-writes : (wsize lane : ℕ) (file : List ℕ) (offset : ℕ) (bytes : List ℕ) (turn : Turn) (shelf : Shelf) (next : Step) (new : Writing) (after : Shelf)
    → writes.Writes wsize lane file offset bytes turn shelf next new after → after.seq ≤ shelf.seq + 1
write-writes wsize lane file offset bytes turn shelf next new after w = by (is_full bytes shelf.back) w
  where
    by : (b : Bool) → writes.WritesIf b wsize lane file offset bytes turn shelf next new after → after.seq ≤ shelf.seq + 1
    by true (inl s) = none-more after.seq shelf.seq (write-saves (is_first lane (joined lane s.of shelf).order) wsize lane file (begun s.of shelf.seq) turn (joined lane s.of shelf) next new after s.saves)
    by true (inr s) = none-more after.seq shelf.seq (ap seq s.1.shelf_is)
    by false (inl a) = let one : after.seq ≡ shelf.seq + 1 = ap seq a.leads.shelf_is in omega (arith, one)
    by false (inr s) = none-more after.seq shelf.seq (ap seq s.shelf_is)

pub write-starts : (wsize : ℕ) (machine : WriteFile) (turn : Turn) (old : Shelf) (next : Step) (new : WriteFile) (after : Shelf) → writes.Starts wsize machine turn old next new after → after.seq ≤ old.seq + 1
write-starts wsize machine turn old next new after s = at (file_to_write machine.lane machine.slot old.opens) s
  where
    at : (found : Result (List ℕ) Fault) → writes.StartsAt found wsize machine turn old next new after → after.seq ≤ old.seq + 1
    at (Err fault) s = none-more after.seq old.seq (ap seq s.refuses.shelf_is)
    at (Ok file) (inl w) = write-writes wsize machine.lane file machine.offset (writes.text_bytes machine.text) turn old next new.state after w.writes
    at (Ok file) (inr u) = none-more after.seq old.seq (ap seq u.refuses.shelf_is)

pub write-resumes : (at : Writing) (wsize lane : ℕ) (turn : Turn) (old : Shelf) (next : Step) (new : Writing) (after : Shelf) → writes.ResumesIn at wsize lane turn old next new after → after.seq ≡ old.seq
write-resumes writing.Idle wsize lane turn old next new after s = ap seq s.shelf_is
write-resumes (writing.Room file saving) wsize lane turn old next new after s = write-saves (is_first lane old.order) wsize lane file saving turn old next new after s

write-follows : (told : SavingStep) (wsize : ℕ) (machine : WriteFile) (file : List ℕ) (saved : Saving) (turn : Turn) (shelf : Shelf) (next : Step) (new : Writing) (after : Shelf)
    → writes.Follows told wsize machine file saved turn shelf next new after → after.seq ≤ shelf.seq + 1
write-follows (Ended (Ok done)) wsize machine file saved turn shelf next new after f =
    write-writes wsize machine.lane file machine.offset (writes.made_bytes machine.text) turn (record shelf { order = left machine.lane shelf.order }) next new after f
write-follows (Ended (Err fault)) wsize machine file saved turn shelf next new after f = none-more after.seq shelf.seq (ap seq f.shelf_is)
write-follows (Send call) wsize machine file saved turn shelf next new after f = none-more after.seq shelf.seq (ap seq f.shelf_is)
write-follows Wait wsize machine file saved turn shelf next new after f = none-more after.seq shelf.seq (ap seq f.shelf_is)

pub write-takes : (at : Writing) (wsize : ℕ) (machine : WriteFile) (sent turn : Turn) (came : Result Reply Fault) (old : Shelf) (next : Step) (new : Writing) (after : Shelf)
    → writes.TakesIn at wsize machine sent turn came old next new after → after.seq ≤ old.seq + 1
write-takes writing.Idle wsize machine sent turn came old next new after t = none-more after.seq old.seq (ap seq t.shelf_is)
write-takes (writing.Room file saving) wsize machine sent turn came old next new after t = write-follows t.told wsize machine file t.saved turn _ next new after t.follows

-- ---- puts

pub put-follows : (gives : SavingStep) (lane : ℕ) (saving : Saving) (old : Shelf) (next : Step) (state : Putting) (new : Shelf) → puts.Follows gives lane saving old next state new → new.seq ≡ old.seq
put-follows (Send call) lane saving old next state new f = ap seq f.2
put-follows Wait lane saving old next state new f = ap seq f.2
put-follows (Ended result) lane saving old next state new f = ap seq f.others

put-queues : (b : Bool) (wsize lane : ℕ) (turn : Turn) (saving : Saving) (old : Shelf) (next : Step) (state : Putting) (new : Shelf) → puts.QueuesIf b wsize lane turn saving old next state new → new.seq ≡ old.seq
put-queues false wsize lane turn saving old next state new q = ap seq q.shelf_is
put-queues true wsize lane turn saving old next state new g = put-follows g.gives lane g.saved g.gone next state new g.follows ∙ ap seq g.others

pub put-wrote : (told : Step) (wsize lane : ℕ) (file : List ℕ) (turn : Turn) (old : Shelf) (next : Step) (state : Putting) (new : Shelf) → puts.AfterWrite told wsize lane file turn old next state new → new.seq ≡ old.seq
put-wrote (nexts.Send call) wsize lane file turn old next state new a = ap seq a.2
put-wrote nexts.Wait wsize lane file turn old next state new a = ap seq a.2
put-wrote (nexts.Done (answers.Done value)) wsize lane file turn old next state new a = put-queues (is_first lane (joined lane file old).order) wsize lane turn (begun file old.seq) (joined lane file old) next state new a
put-wrote (nexts.Done (answers.Refused fault)) wsize lane file turn old next state new a = ap seq a.others

put-adds : (wsize : ℕ) (machine : PutFile) (file : List ℕ) (turn : Turn) (old : Shelf) (next : Step) (new : PutFile) (after : Shelf) → puts.AddsBytes wsize machine file turn old next new after → after.seq ≤ old.seq + 1
put-adds wsize machine file turn old next new after a =
    let wrote = put-wrote a.told wsize machine.write.lane file turn a.mid next new.state after a.goes.follows in
    let more : a.mid.seq ≤ old.seq + 1 = write-writes wsize machine.write.lane file machine.write.offset (writes.made_bytes machine.write.text) turn (puts.put_at machine.write.lane file old) a.told a.written a.mid a.writes in
    omega (arith, wrote, more)

put-opened : (step : OpeningStep) (wsize : ℕ) (machine : PutFile) (turn : Turn) (old : Shelf) (next : Step) (new : PutFile) (after : Shelf) → puts.AfterOpening step wsize machine turn old next new after → after.seq ≤ old.seq + 1
put-opened (steps.Send call) wsize machine turn old next new after a = none-more after.seq old.seq (ap seq a.2)
put-opened steps.Wait wsize machine turn old next new after a = none-more after.seq old.seq (ap seq a.shelf_is)
put-opened (steps.Ended (Ok file)) wsize machine turn old next new after a = put-adds wsize machine file turn old next new after a
put-opened (steps.Ended (Err fault)) wsize machine turn old next new after a = none-more after.seq old.seq (ap seq a.2)

pub put-resumes : (at : Putting) (wsize : ℕ) (machine : PutFile) (turn : Turn) (old : Shelf) (next : Step) (new : PutFile) (after : Shelf) → puts.Resumes at wsize machine turn old next new after → after.seq ≡ old.seq
put-resumes putting.Idle wsize machine turn old next new after s = ap seq s.shelf_is
put-resumes putting.Opens wsize machine turn old next new after s = ap seq s.2
put-resumes (putting.Adds file) wsize machine turn old next new after s =
    put-wrote s.told wsize machine.write.lane file turn s.mid next new.state after s.goes.follows ∙ write-resumes machine.write.state wsize machine.write.lane turn old s.told s.written s.mid s.resumes
put-resumes (putting.Saves saving) wsize machine turn old next new after s = put-queues (is_first machine.write.lane old.order) wsize machine.write.lane turn saving old next new.state after s.0

pub put-takes : (at : Putting) (wsize : ℕ) (machine : PutFile) (sent turn : Turn) (came : Result Reply Fault) (old : Shelf) (next : Step) (new : PutFile) (after : Shelf)
    → puts.Takes at wsize machine sent turn came old next new after → after.seq ≤ old.seq + 1
put-takes putting.Idle wsize machine sent turn came old next new after t = none-more after.seq old.seq (ap seq t.shelf_is)
put-takes putting.Opens wsize machine sent turn came old next new after t =
    let took : t.took.seq ≡ old.seq = ap seq t.others in
    let more : after.seq ≤ t.took.seq + 1 = put-opened t.step wsize _ turn t.took next new after t.follows in
    omega (arith, took, more)
put-takes (putting.Adds file) wsize machine sent turn came old next new after t =
    let wrote = put-wrote t.told wsize machine.write.lane file turn t.mid next new.state after t.goes.follows in
    let more = write-takes machine.write.state wsize machine.write sent turn came old t.told t.written t.mid t.takes in
    omega (arith, wrote, more)
put-takes (putting.Saves saving) wsize machine sent turn came old next new after t =
    let one = t.0 in none-more after.seq old.seq (put-follows one.gives machine.write.lane one.saved one.took next new.state after one.follows ∙ ap seq one.others)
