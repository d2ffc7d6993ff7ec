-- Where none of its calls waits and there is room, an operation on a file goes on, unless another is before it in the order of its file or
-- a truncate finds bytes of the file in flight.
use Rattle.core_facts.proofs.Prelude.{◌≡◌, ◌+◌, ◌-◌, ◌||◌, ◌&&◌, ◌⊎◌, ℕ, not, Bool, true, false, List, Option, Some, None, Result, Ok, Err, inl, inr, refl, sym, ap, subst, ◌∙◌, arith, if◌then◌else◌, Pages, Pending, of_file, last_end, Fault, Call, is_first, Step, Shelf, Turn, CloseFile, Closing, Removal, Opening, PutFile, Putting, ReadFile, Reading, Saving, SyncFile, Syncing, TruncateFile, Truncating, Writing, closed_answer, refusal_of, remove_of, by-step, ends_as, FileMachine, one_if, of_opening, of_saving, of_writing, of_syncing, of_closing, of_truncating, of_putting}
use Rattle.world_model.specs.declared.answer.Answer.TheVariants as answers
use Rattle.client_shelf.specs.declared.step.Step.TheVariants as nexts
use Rattle.file_ops.specs.declared.close_file.Closing.TheVariants as closing
use Rattle.file_ops.specs.declared.gather.Found.{Found}
use Rattle.file_ops.specs.declared.gather.Found.TheVariants as found
use Rattle.file_ops.specs.declared.opening.OpeningStep.TheVariants as openings
use Rattle.file_ops.specs.declared.put_file.Putting.TheVariants as putting
use Rattle.file_ops.specs.declared.reading.Phase.{Phase}
use Rattle.file_ops.specs.declared.reading.Phase.TheVariants as phases
use Rattle.file_ops.specs.declared.sync_file.Syncing.TheVariants as syncing
use Rattle.file_ops.specs.declared.truncate_file.Truncating.TheVariants as truncating
use Rattle.file_ops.specs.declared.write_file.Writing.TheVariants as writing
use Rattle.file_ops.specs.Closes as closes
use Rattle.file_ops.specs.OpenFile as opens
use Rattle.file_ops.specs.Opening as opening
use Rattle.file_ops.specs.PutFile as puts
use Rattle.file_ops.specs.Quiet.{is_quiet}
use Rattle.file_ops.specs.ReadFile as reads
use Rattle.file_ops.specs.Reading as reading
use Rattle.file_ops.specs.Syncs as syncs
use Rattle.file_ops.specs.TruncateFile as truncates
use Rattle.file_ops.specs.WriteFile as writes
use Rattle.op_machines.specs.declared.file_machine.FileMachine.TheVariants as files
use Rattle.op_machines.specs.FileSteps as steps
use Rattle.core_facts.specs.InFlight.{of_phase, of_reading, of_file as calls_of, ClosingCounted, FileCounted}
use Rattle.core_facts.proofs.NameLives.{clash, GoesOn, on-as}
use Rattle.core_facts.proofs.SaveLives.{SaveLive, goes-on, on-sync}
use Rattle.core_facts.proofs.FileSeats.{seat_write, seat_sync, seat_close, seat_truncate, seat_put, seat_file, ReadLive, WriteLive, SyncLive, CloseLive, TruncateLive, PutLive, FileLive}

-- Another operation is before the lane's in the order of the file, or bytes of the file are in flight.
abbrev pub HeldUp : ℕ → Option (List ℕ) → Shelf → Type 0
HeldUp lane None shelf = ⊥
HeldUp lane (Some file) shelf = (is_first lane shelf.order ≡ false) ⊎ (is_quiet file shelf.back ≡ false)

abbrev pub OnOr : ℕ → Option (List ℕ) → Shelf → Step → Type 0
OnOr lane seat shelf next = GoesOn next ⊎ HeldUp lane seat shelf

-- ---- syncs

sync-queues : (b : Bool) (lane wsize : ℕ) (turn : Turn) (s : Saving) (old : Shelf) (next : Step) (state : Syncing) (new : Shelf) → is_first lane old.order ≡ b
    → turn.room ≡ true → SaveLive s → of_saving s ≡ 0 → syncs.QueuesIf b wsize lane turn s old next state new → OnOr lane (Some s.file) old next
sync-queues true lane wsize turn s old next state new is room live none q =
    inl (on-as (syncs.sync_next q.gives) next q.follows.next_is
    (on-sync q.gives (goes-on wsize turn.xid turn.room s old.back q.gives q.saved new.back room live none q.goes)))
sync-queues false lane wsize turn s old next state new is room live none q = inr (inl is)

sync-on : (at : Syncing) (lane wsize : ℕ) (m : SyncFile) (turn : Turn) (old : Shelf) (next : Step) (state : Syncing) (new : Shelf) → m.lane ≡ lane → turn.room ≡ true
    → SyncLive at → of_syncing at ≡ 0 → syncs.Resumes at wsize m turn old next state new → OnOr lane (seat_sync at) old next
sync-on syncing.Idle lane wsize m turn old next state new own room live none r = absurd live
sync-on (syncing.Saves s) lane wsize m turn old next state new own room live none r =
    sync-queues (is_first lane old.order) lane wsize turn s old next state new refl room live none
    (subst (λ (n : ℕ). syncs.QueuesIf (is_first n old.order) wsize n turn s old next state new) own r)

-- ---- closes

close-asks : (room : Bool) (removal : Removal) (old : Shelf) (next : Step) (state : Closing) (new : Shelf) → room ≡ true → closes.Asks room removal old next state new → GoesOn next
close-asks true removal old next state new is a = on-as (nexts.Send (remove_of removal)) next a.next_is tt
close-asks false removal old next state new is a = clash false is refl

close-ends-at : (place : Option (List ℕ × List ℕ)) (lane : ℕ) (room : Bool) (file : List ℕ) (refusal : Option Fault) (old : Shelf) (next : Step) (state : Closing) (new : Shelf)
    → room ≡ true → closes.EndsAt place lane room file refusal old next state new → GoesOn next
close-ends-at None lane room file refusal old next state new is e = on-as (nexts.Done (closed_answer refusal)) next e.next_is tt
close-ends-at (Some place) lane room file refusal old next state new is e =
    close-asks room (record { file = file; dir = place.0; name = place.1; refusal = refusal }) old next state new is e

close-frees : (lane slot : ℕ) (room : Bool) (file : List ℕ) (refusal : Option Fault) (old : Shelf) (next : Step) (state : Closing) (new : Shelf) → room ≡ true
    → closes.Frees lane slot room file refusal old next state new → GoesOn next
close-frees lane slot room file refusal old next state new is f = close-ends-at f.place lane room file refusal f.freed next state new is f.ends

close-follows : (gives : _) (lane slot : ℕ) (room begun : Bool) (saving : Saving) (old : Shelf) (next : Step) (state : Closing) (new : Shelf) → room ≡ true
    → GoesOn (syncs.sync_next gives) → closes.Follows gives lane slot room begun saving old next state new → GoesOn next
close-follows gives lane slot room begun saving old next state new is on f = by-step
    (λ g. GoesOn (syncs.sync_next g) → closes.Follows g lane slot room begun saving old next state new → GoesOn next)
    (λ call on f. on-as (nexts.Send call) next f.0 tt)
    (λ on f. absurd on)
    (λ result on f. close-frees lane slot room saving.file (refusal_of result) old next state new is f) gives on f

close-goes : (wsize lane slot : ℕ) (turn : Turn) (begun : Bool) (s : Saving) (old : Shelf) (next : Step) (state : Closing) (new : Shelf) → turn.room ≡ true → SaveLive s
    → of_saving s ≡ 0 → closes.GoesOn wsize lane slot turn begun s old next state new → GoesOn next
close-goes wsize lane slot turn begun s old next state new room live none g =
    close-follows g.gives lane slot turn.room begun g.saved g.gone next state new room
    (on-sync g.gives (goes-on wsize turn.xid turn.room s old.back g.gives g.saved g.gone.back room live none g.goes)) g.follows

close-begins : (end : Option ℕ) (wsize lane slot : ℕ) (turn : Turn) (s : Saving) (old : Shelf) (next : Step) (state : Closing) (new : Shelf) → turn.room ≡ true → SaveLive s
    → of_saving s ≡ 0 → closes.Begins end wsize lane slot turn s old next state new → GoesOn next
close-begins None wsize lane slot turn s old next state new room live none b = close-frees lane slot turn.room s.file None old next state new room b
close-begins (Some end) wsize lane slot turn s old next state new room live none b = close-goes wsize lane slot turn false s old next state new room live none b

close-queues : (b : Bool) (lane wsize slot : ℕ) (turn : Turn) (s : Saving) (old : Shelf) (next : Step) (state : Closing) (new : Shelf) → is_first lane old.order ≡ b
    → turn.room ≡ true → SaveLive s → of_saving s ≡ 0 → closes.QueuesIf b wsize lane slot turn s old next state new → OnOr lane (Some s.file) old next
close-queues true lane wsize slot turn s old next state new is room live none q =
    inl (close-begins (last_end (of_file s.file old.back).segments) wsize lane slot turn s old next state new room live none q)
close-queues false lane wsize slot turn s old next state new is room live none q = inr (inl is)

close-on-if : (b : Bool) (lane wsize slot : ℕ) (turn : Turn) (s : Saving) (old : Shelf) (next : Step) (state : Closing) (new : Shelf) → is_first lane old.order ≡ b
    → turn.room ≡ true → SaveLive s → of_saving s ≡ 0 → closes.GoesOnIf b wsize lane slot turn s old next state new → OnOr lane (Some s.file) old next
close-on-if true lane wsize slot turn s old next state new is room live none g = inl (close-goes wsize lane slot turn true s old next state new room live none g)
close-on-if false lane wsize slot turn s old next state new is room live none g = inr (inl is)

close-on : (at : Closing) (lane wsize : ℕ) (m : CloseFile) (turn : Turn) (old : Shelf) (next : Step) (state : Closing) (new : Shelf) → m.lane ≡ lane → turn.room ≡ true
    → CloseLive at → ClosingCounted at → of_closing at ≡ 0 → closes.Resumes at wsize m turn old next state new → OnOr lane (seat_close at) old next
close-on closing.Idle lane wsize m turn old next state new own room live counted none r = absurd live
close-on (closing.Queued s) lane wsize m turn old next state new own room live counted none r =
    close-queues (is_first lane old.order) lane wsize m.slot turn s old next state new refl room live counted
    (subst (λ (n : ℕ). closes.QueuesIf (is_first n old.order) wsize n m.slot turn s old next state new) own r)
close-on (closing.Saves s) lane wsize m turn old next state new own room live counted none r =
    close-on-if (is_first lane old.order) lane wsize m.slot turn s old next state new refl room live none
    (subst (λ (n : ℕ). closes.GoesOnIf (is_first n old.order) wsize n m.slot turn s old next state new) own r)
close-on (closing.ToRemove removal) lane wsize m turn old next state new own room live counted none r = inl (close-asks turn.room removal old next state new room r)
close-on (closing.Removing removal) lane wsize m turn old next state new own room live counted none r = absurd (omega (arith, none))

-- ---- truncates

truncate-if : (a b c : Bool) (call : Call) (lane : ℕ) (file : List ℕ) (old : Shelf) (next : Step) → a ≡ true → is_first lane old.order ≡ b → is_quiet file old.back ≡ c
    → next ≡ (if a && b && c then nexts.Send call else nexts.Wait) → OnOr lane (Some file) old next
truncate-if false b c call lane file old next room first quiet n = clash false room refl
truncate-if true false c call lane file old next room first quiet n = inr (inl first)
truncate-if true true false call lane file old next room first quiet n = inr (inr quiet)
truncate-if true true true call lane file old next room first quiet n = inl (on-as (nexts.Send call) next n tt)

truncate-on : (at : Truncating) (lane : ℕ) (m : TruncateFile) (turn : Turn) (old : Shelf) (next : Step) → m.lane ≡ lane → turn.room ≡ true → TruncateLive at
    → of_truncating at ≡ 0 → next ≡ truncates.resumed_next at m turn old → OnOr lane (seat_truncate at) old next
truncate-on truncating.Idle lane m turn old next own room live none n = absurd live
truncate-on (truncating.Queued file upto) lane m turn old next own room live none n =
    truncate-if turn.room (is_first lane old.order) (is_quiet file old.back) (truncates.size_call file m.size) lane file old next room refl refl
    (n ∙ ap (λ (k : ℕ). if turn.room && is_first k old.order && is_quiet file old.back then nexts.Send (truncates.size_call file m.size) else nexts.Wait) own)
truncate-on (truncating.Asked file upto) lane m turn old next own room live none n = absurd (omega (arith, none))

-- ---- writes

-- a step of the making of room, which never ends well without a reply
abbrev pub RoomOn : Step → Type 0
RoomOn (nexts.Send call) = Unit {0}
RoomOn nexts.Wait = ⊥
RoomOn (nexts.Done (answers.Done value)) = ⊥
RoomOn (nexts.Done (answers.Refused fault)) = Unit {0}

room-on : (gives : _) → GoesOn (writes.room_next gives) → RoomOn (writes.room_next gives)
room-on gives on = by-step (λ g. GoesOn (writes.room_next g) → RoomOn (writes.room_next g)) (λ call on. tt) (λ on. on) ended gives on
  where
    ended : (result : Result (Unit {0}) Fault) → GoesOn (writes.room_next (ends_as result)) → RoomOn (writes.room_next (ends_as result))
    ended (Ok done) on = on
    ended (Err fault) on = tt

room-as : (to next : Step) → next ≡ to → RoomOn to → RoomOn next
room-as to next is on = subst RoomOn (sym is) on

write-saves : (b : Bool) (lane wsize : ℕ) (file : List ℕ) (s : Saving) (turn : Turn) (shelf : Shelf) (next : Step) (new : Writing) (after : Shelf)
    → is_first lane shelf.order ≡ b → turn.room ≡ true → SaveLive s → of_saving s ≡ 0 → writes.SavesIf b wsize lane file s turn shelf next new after
    → RoomOn next ⊎ HeldUp lane (Some s.file) shelf
write-saves true lane wsize file s turn shelf next new after is room live none g =
    inl (room-as (writes.room_next g.told) next g.leads.gives_next
    (room-on g.told (goes-on wsize turn.xid turn.room s shelf.back g.told g.saved g.back room live none g.goes)))
write-saves false lane wsize file s turn shelf next new after is room live none g = inr (inl is)

write-on : (at : Writing) (lane wsize : ℕ) (turn : Turn) (shelf : Shelf) (next : Step) (new : Writing) (after : Shelf) → turn.room ≡ true → WriteLive at
    → of_writing at ≡ 0 → writes.ResumesIn at wsize lane turn shelf next new after → RoomOn next ⊎ HeldUp lane (seat_write at) shelf
write-on writing.Idle lane wsize turn shelf next new after room live none r = absurd live
write-on (writing.Room file s) lane wsize turn shelf next new after room live none r =
    write-saves (is_first lane shelf.order) lane wsize file s turn shelf next new after refl room live none r

on-room : (next : Step) → RoomOn next → GoesOn next
on-room (nexts.Send call) on = tt
on-room nexts.Wait on = on
on-room (nexts.Done answer) on = tt

write-own : (lane : ℕ) (seat : Option (List ℕ)) (shelf : Shelf) (next : Step) → RoomOn next ⊎ HeldUp lane seat shelf → OnOr lane seat shelf next
write-own lane seat shelf next (inl on) = inl (on-room next on)
write-own lane seat shelf next (inr held) = inr held

-- ---- openings

or-false : (asked room : Bool) → one_if asked ≡ 0 → room ≡ true → (asked || not room) ≡ false
or-false true room none is = absurd (omega (arith, none))
or-false false true none is = refl
or-false false false none is = clash false is refl

opening-if : (b : Bool) (call : Call) (next : Step) → b ≡ false → next ≡ opens.goes_as (if b then openings.Wait else openings.Send call) → GoesOn next
opening-if true call next is n = clash true refl is
opening-if false call next is n = on-as (nexts.Send call) next n tt

opening-on : (o : Opening) (turn : Turn) (next : Step) → of_opening o ≡ 0 → turn.room ≡ true → next ≡ opens.goes_as (opening.go_next o turn) → GoesOn next
opening-on o turn next none room n = opening-if (o.asked || not turn.room) (opening.call_of o o.step) next (or-false o.asked turn.room none room) n

-- ---- puts

after-write : (told : Step) (wsize lane : ℕ) (file : List ℕ) (turn : Turn) (old : Shelf) (next : Step) (state : Putting) (new : Shelf) → RoomOn told
    → puts.AfterWrite told wsize lane file turn old next state new → GoesOn next
after-write (nexts.Send call) wsize lane file turn old next state new on a = on-as (nexts.Send call) next a.0 tt
after-write nexts.Wait wsize lane file turn old next state new on a = absurd on
after-write (nexts.Done (answers.Done value)) wsize lane file turn old next state new on a = absurd on
after-write (nexts.Done (answers.Refused fault)) wsize lane file turn old next state new on a = on-as (nexts.Done (closed_answer (Some fault))) next a.next_is tt

put-follows : (gives : _) (lane : ℕ) (saving : Saving) (old : Shelf) (next : Step) (state : Putting) (new : Shelf) → GoesOn (syncs.sync_next gives)
    → puts.Follows gives lane saving old next state new → GoesOn next
put-follows gives lane saving old next state new on f = by-step
    (λ g. GoesOn (syncs.sync_next g) → puts.Follows g lane saving old next state new → GoesOn next)
    (λ call on f. on-as (nexts.Send call) next f.0 tt) (λ on f. absurd on)
    (λ result on f. on-as (nexts.Done (closed_answer (refusal_of result))) next f.next_is tt) gives on f

put-queues : (b : Bool) (lane wsize : ℕ) (turn : Turn) (s : Saving) (old : Shelf) (next : Step) (state : Putting) (new : Shelf) → is_first lane old.order ≡ b
    → turn.room ≡ true → SaveLive s → of_saving s ≡ 0 → puts.QueuesIf b wsize lane turn s old next state new → OnOr lane (Some s.file) old next
put-queues true lane wsize turn s old next state new is room live none q =
    inl (put-follows q.gives lane q.saved q.gone next state new
    (on-sync q.gives (goes-on wsize turn.xid turn.room s old.back q.gives q.saved q.gone.back room live none q.goes)) q.follows)
put-queues false lane wsize turn s old next state new is room live none q = inr (inl is)

put-adds : (wsize lane : ℕ) (m : PutFile) (file : List ℕ) (turn : Turn) (old : Shelf) (next : Step) (new : PutFile) (after : Shelf) (r : puts.ResumesRoom wsize m file turn old next new after)
    → RoomOn r.told ⊎ HeldUp lane (seat_write m.write.state) old → OnOr lane (seat_write m.write.state) old next
put-adds wsize lane m file turn old next new after r (inl on) =
    inl (after-write r.told wsize m.write.lane file turn r.mid next new.state after on r.goes.follows)
put-adds wsize lane m file turn old next new after r (inr held) = inr held

put-on : (at : Putting) (lane wsize : ℕ) (m : PutFile) (turn : Turn) (old : Shelf) (next : Step) (new : PutFile) (after : Shelf) → m.write.lane ≡ lane → turn.room ≡ true
    → PutLive at m.write.state → of_putting at m.opening m.write.state ≡ 0 → puts.Resumes at wsize m turn old next new after → OnOr lane (seat_put at m.write.state) old next
put-on putting.Idle lane wsize m turn old next new after own room live none r = absurd live
put-on putting.Opens lane wsize m turn old next new after own room live none r = inl (opening-on m.opening turn next none room r.0)
put-on (putting.Adds file) lane wsize m turn old next new after own room live none r =
    put-adds wsize lane m file turn old next new after r
    (write-on m.write.state lane wsize turn old r.told r.written r.mid room live none
    (subst (λ (n : ℕ). writes.ResumesIn m.write.state wsize n turn old r.told r.written r.mid) own r.resumes))
put-on (putting.Saves s) lane wsize m turn old next new after own room live none r =
    put-queues (is_first lane old.order) lane wsize turn s old next new.state after refl room live none
    (subst (λ (n : ℕ). puts.QueuesIf (is_first n old.order) wsize n turn s old next new.state after) own r.0)

-- ---- reads

phase-found : (f : Found) → of_phase (reading.phase_of f) ≡ 0
phase-found found.Page = refl
phase-found found.Ended = refl
phase-found found.Wanted = refl

settled-in : (p : Phase) (r : Reading) (pages : Pages) → r.phase ≡ p → of_phase (reading.settled_in p r pages).reading.phase ≡ of_phase r.phase
settled-in phases.Attrs r pages is = refl
settled-in phases.AskedAttrs r pages is = refl
settled-in phases.Pages r pages is = phase-found _ ∙ sym (ap of_phase is)
settled-in phases.Rest r pages is = refl
settled-in (phases.Asked count) r pages is = refl
settled-in phases.Ended r pages is = refl

read-if : (p : Phase) (room : Bool) (back : Pending) (s : reading.State) (next : Step) → s.reading.phase ≡ p → room ≡ true → of_phase p ≡ 0
    → reading.GoesIf (room && reading.wants p) back s next → GoesOn next
read-if phases.Attrs true back s next is room none g = on-as (nexts.Send (reading.asked_call s)) next g tt
read-if phases.AskedAttrs true back s next is room none g = absurd (omega (arith, none))
read-if phases.Pages true back s next is room none g = on-as (nexts.Send (reading.asked_call s)) next g tt
read-if phases.Rest true back s next is room none g = on-as (nexts.Send (reading.asked_call s)) next g tt
read-if (phases.Asked count) true back s next is room none g = absurd (omega (arith, none))
read-if phases.Ended true back s next is room none g =
    let ended : reading.Stays phases.Ended s.reading back next = subst (λ (q : Phase). reading.Stays q s.reading back next) is g in
    on-as (reading.shown_next (reading.answer_of s.reading back)) next ended tt
read-if p false back s next is room none g = clash false room refl

read-on : (of : Option Reading) (room : Bool) (m : ReadFile) (pages : Pages) (back : Pending) (next : Step) (new : ReadFile) (later : Pages) → room ≡ true → ReadLive of
    → of_reading of ≡ 0 → reads.ResumesIn of room m pages back next new later → GoesOn next
read-on None room m pages back next new later is live none r = absurd live
read-on (Some of) room m pages back next new later is live none r =
    let s : reading.State = reading.settled of pages in
    read-if s.reading.phase room back s next refl is (settled-in of.phase of pages refl ∙ none) r.step

-- ---- any operation on files

pub file-on : (m : FileMachine) (lane wsize : ℕ) (turn : Turn) (old : Shelf) (next : Step) (new : FileMachine) (after : Shelf) → turn.room ≡ true → FileLive lane m
    → FileCounted m → calls_of m ≡ 0 → steps.Resumes wsize m turn old next new after → OnOr lane (seat_file m) old next
file-on (files.Open m) lane wsize turn old next new after room live counted none s = inl (opening-on m.opening turn next none room s.next_is)
file-on (files.Read m) lane wsize turn old next new after room live counted none s =
    inl (read-on m.reading turn.room m old.pages old.back next s.machine after.pages room live none s.step)
file-on (files.Write m) lane wsize turn old next new after room live counted none s =
    write-own lane (seat_write m.state) old next
    (write-on m.state lane wsize turn old next s.state after room live.1 none
    (subst (λ (n : ℕ). writes.ResumesIn m.state wsize n turn old next s.state after) live.0 s.step))
file-on (files.Sync m) lane wsize turn old next new after room live counted none s =
    sync-on m.state lane wsize m turn old next s.state after live.0 room live.1 none s.step
file-on (files.Close m) lane wsize turn old next new after room live counted none s =
    close-on m.state lane wsize m turn old next s.state after live.0 room live.1 counted none s.step
file-on (files.Truncate m) lane wsize turn old next new after room live counted none s =
    truncate-on m.state lane m turn old next live.0 room live.1 none s.next_is
file-on (files.Put m) lane wsize turn old next new after room live counted none s =
    put-on m.state lane wsize m turn old next s.machine after live.0 room live.1 none s.step
