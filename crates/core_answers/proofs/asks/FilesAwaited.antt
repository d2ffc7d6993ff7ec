-- For which calls an operation on a file waits: those of its save, and the one that it makes itself.
use Rattle.core_answers.proofs.Prelude.{◌≡◌, ◌≤◌, ◌+◌, inl, inr, ℕ, Bool, true, false, List, Option, Some, None, Result, Ok, Err, refl, sym, ap, subst, ◌∙◌, arith, if◌then◌else◌, of_file, last_end, Fault, Call, Reply, goes_again, left, is_first, Step, Shelf, Turn, CloseFile, Closing, Removal, OpeningStep, PutFile, Putting, ReadFile, Saving, SyncFile, Syncing, TruncateFile, Truncating, WriteFile, Writing, remove_of, closed_answer, refusal_of, remove_busy, file_to_write, file_at, joined, by-step, ends_as, FileMachine, of_opening, of_reading, of_saving, of_writing, of_syncing, of_closing, of_truncating, of_putting, Plain}
use Rattle.file_ops.proofs.SaveCounts.{SaveCounts, save-goes, save-takes}
use Rattle.std.specs.FinMap as finite
use Rattle.world_model.specs.declared.answer.Answer.TheVariants as answers
use Rattle.world_model.specs.declared.answer.Fault.TheVariants as faults
use Rattle.world_model.specs.declared.answer.Value.TheVariants as values
use Rattle.client_shelf.specs.declared.step.Step.TheVariants as nexts
use Rattle.file_ops.specs.declared.close_file.Closing.TheVariants as closing
use Rattle.file_ops.specs.declared.opening.OpeningStep.TheVariants as openings
use Rattle.file_ops.specs.declared.put_file.Putting.TheVariants as putting
use Rattle.file_ops.specs.declared.sync_file.Syncing.TheVariants as syncing
use Rattle.file_ops.specs.declared.truncate_file.Truncating.TheVariants as truncating
use Rattle.file_ops.specs.declared.write_file.Writing.TheVariants as writing
use Rattle.file_ops.specs.Closes as closes
use Rattle.file_ops.specs.Opening as opening
use Rattle.file_ops.specs.PutFile as puts
use Rattle.file_ops.specs.Saves as saves
use Rattle.file_ops.specs.Syncs as syncs
use Rattle.file_ops.specs.TruncateFile as truncates
use Rattle.file_ops.specs.WriteFile as writes
use Rattle.op_machines.specs.declared.file_machine.FileMachine.TheVariants as files
use Rattle.op_machines.specs.FileSteps as steps
use Rattle.core_facts.specs.InFlight.{of_file as calls_of}
use Rattle.core_facts.proofs.FileCounts.{OpeningCounts, opening-took, writes-leave, write-resumes, write-takes}
use Rattle.core_answers.proofs.asks.OnSteps.{On, on-to, on-done, on-waits, on-none, on-any, on-lift}
use Rattle.core_answers.proofs.asks.ReadsAwaited.{FileReads, read-starts, read-resumes, read-takes}
use Rattle.core_answers.proofs.asks.SavedCalls.{Saves, SavesOn, goes-on, takes-on}

-- of its file, which stays
of-file : (a b : List ℕ) (c : Call) → a ≡ b → Saves b c → Saves a c
of-file a b c is s = subst (λ (f : List ℕ). Saves f c) (sym is) s

-- ---- syncs

abbrev pub SyncNames : Syncing → Call → Type 0
SyncNames syncing.Idle call = Unit {0}
SyncNames (syncing.Saves s) call = Saves s.file call

sync-follows : (others : ℕ) (old : Syncing) (s : Saving) (gives : _) (saved : Saving) (next : Step) (new : Syncing) → (1 ≤ others → (c : Call) → SyncNames old c → Saves s.file c)
    → SavesOn s.file (syncs.sync_next gives) saved → next ≡ syncs.sync_next gives → new ≡ syncs.sync_state gives saved → On Syncing SyncNames others old next new
sync-follows others old s gives saved next new was c is at = by-step
    (λ g. SavesOn s.file (syncs.sync_next g) saved → next ≡ syncs.sync_next g → new ≡ syncs.sync_state g saved → On Syncing SyncNames others old next new)
    (λ call k n t. on-to Syncing SyncNames others old (nexts.Send call) (syncing.Saves saved) next new n t
    (record { asked = of-file saved.file s.file call k.file k.asks; kept = λ some b e. of-file saved.file s.file b k.file (was some b e) }))
    (λ k n t. on-to Syncing SyncNames others old nexts.Wait (syncing.Saves saved) next new n t (record { asked = tt; kept = λ some b e. of-file saved.file s.file b k.file (was some b e) }))
    (λ result k n t. on-done Syncing SyncNames others old (syncs.answer_of result) next new n)
    gives c is at

sync-queues : (b : Bool) (old : Syncing) (wsize lane : ℕ) (turn : Turn) (s : Saving) (was : Shelf) (next : Step) (new : Syncing) (after : Shelf) (others : ℕ)
    → (1 ≤ others → (c : Call) → SyncNames old c → Saves s.file c) → syncs.QueuesIf b wsize lane turn s was next new after → On Syncing SyncNames others old next new
sync-queues true old wsize lane turn s was next new after others had q =
    sync-follows others old s q.gives q.saved next new had (goes-on s.file wsize turn.xid turn.room false s was.back q.gives q.saved after.back refl q.goes) q.follows.next_is q.follows.state_is
sync-queues false old wsize lane turn s was next new after others had q =
    on-to Syncing SyncNames others old nexts.Wait (syncing.Saves s) next new q.next_is q.state_is (record { asked = tt; kept = had })

sync-starts : (found : Option (List ℕ)) (wsize : ℕ) (m : SyncFile) (turn : Turn) (old : Shelf) (next : Step) (new : Syncing) (after : Shelf)
    → syncs.StartsAt found wsize m turn old next new after → On Syncing SyncNames 0 m.state next new
sync-starts None wsize m turn old next new after s = on-done Syncing SyncNames 0 m.state (answers.Refused faults.Slot) next new s.next_is
sync-starts (Some file) wsize m turn old next new after s =
    sync-queues (is_first m.lane (joined m.lane file old).order) m.state wsize m.lane turn (saves.begun file old.seq) (joined m.lane file old) next new after 0 (λ some. absurd (omega (arith, some))) s

sync-resumes : (at : Syncing) (wsize : ℕ) (m : SyncFile) (turn : Turn) (old : Shelf) (next : Step) (new : Syncing) (after : Shelf) (others : ℕ)
    → syncs.Resumes at wsize m turn old next new after → On Syncing SyncNames others at next new
sync-resumes syncing.Idle wsize m turn old next new after others r = on-waits Syncing SyncNames others syncing.Idle next new r.next_is r.state_is
sync-resumes (syncing.Saves s) wsize m turn old next new after others r =
    sync-queues (is_first m.lane old.order) (syncing.Saves s) wsize m.lane turn s old next new after others (λ some c e. e) r

sync-takes : (at : Syncing) (wsize : ℕ) (m : SyncFile) (sent turn : Turn) (came : Result Reply Fault) (old : Shelf) (next : Step) (new : Syncing) (after : Shelf) (others : ℕ)
    → syncs.Takes at wsize m sent turn came old next new after → On Syncing SyncNames others at next new
sync-takes syncing.Idle wsize m sent turn came old next new after others t = on-waits Syncing SyncNames others syncing.Idle next new t.next_is t.state_is
sync-takes (syncing.Saves s) wsize m sent turn came old next new after others t =
    sync-follows others (syncing.Saves s) s t.gives t.saved next new (λ some c e. e)
    (takes-on s.file wsize sent turn came old.repeats s old.back t.gives t.saved after.back after.repeats refl t.takes) t.follows.next_is t.follows.state_is

-- ---- writes, which save for room alone

abbrev pub WriteNames : Writing → Call → Type 0
WriteNames writing.Idle call = Unit {0}
WriteNames (writing.Room file saving) call = Saves saving.file call

write-leads : (others : ℕ) (old : Writing) (to : Step) (state : Writing) (shelf : Shelf) (next : Step) (new : Writing) (after : Shelf) → writes.Leads to state shelf next new after
    → On Writing WriteNames others old to state → On Writing WriteNames others old next new
write-leads others old to state shelf next new after l c = on-to Writing WriteNames others old to state next new l.gives_next l.keeps c

-- what it had before is of the file that it saves
abbrev Had : ℕ → Writing → List ℕ → Type 0
Had others old f = 1 ≤ others → (c : Call) → WriteNames old c → Saves f c

none-had : (others : ℕ) (old : Writing) (f : List ℕ) → others ≡ 0 → Had others old f
none-had others old f none = λ some. absurd (omega (arith, none, some))

room-on : (others : ℕ) (old : Writing) (f file : List ℕ) (told : _) (saved : Saving) → Had others old f → SavesOn f (syncs.sync_next told) saved
    → On Writing WriteNames others old (writes.room_next told) (writes.room_state told file saved)
room-on others old f file told saved had c = by-step
    (λ g. SavesOn f (syncs.sync_next g) saved → On Writing WriteNames others old (writes.room_next g) (writes.room_state g file saved))
    (λ call k. record { asked = of-file saved.file f call k.file k.asks; kept = λ some b e. of-file saved.file f b k.file (had some b e) })
    (λ k. record { asked = tt; kept = λ some b e. of-file saved.file f b k.file (had some b e) })
    ended told c
  where
    ended : (result : Result (Unit {0}) Fault) → SavesOn f (syncs.sync_next (ends_as result)) saved
        → On Writing WriteNames others old (writes.room_next (ends_as result)) (writes.room_state (ends_as result) file saved)
    ended (Ok nothing) k = record { asked = tt; kept = λ some b e. of-file saved.file f b k.file (had some b e) }
    ended (Err fault) k = record { asked = tt; kept = tt }

saves-if : (b : Bool) (others : ℕ) (old : Writing) (wsize lane : ℕ) (file : List ℕ) (saving : Saving) (turn : Turn) (shelf : Shelf) (next : Step) (new : Writing) (after : Shelf)
    → Had others old saving.file → writes.SavesIf b wsize lane file saving turn shelf next new after → On Writing WriteNames others old next new
saves-if true others old wsize lane file saving turn shelf next new after had s =
    write-leads others old (writes.room_next s.told) (writes.room_state s.told file s.saved) _ next new after s.leads
    (room-on others old saving.file file s.told s.saved had (goes-on saving.file wsize turn.xid turn.room false saving shelf.back s.told s.saved s.back refl s.goes))
saves-if false others old wsize lane file saving turn shelf next new after had s =
    write-leads others old nexts.Wait (writing.Room file saving) shelf next new after s (record { asked = tt; kept = had })

refuses-on : (others : ℕ) (old : Writing) (fault : Fault) (shelf : Shelf) (next : Step) (new : Writing) (after : Shelf) → writes.Refuses fault shelf next new after
    → On Writing WriteNames others old next new
refuses-on others old fault shelf next new after l = on-done Writing WriteNames others old (answers.Refused fault) next new l.gives_next

writes-if : (b : Bool) (others : ℕ) (old : Writing) (wsize lane : ℕ) (file : List ℕ) (offset : ℕ) (bytes : List ℕ) (turn : Turn) (shelf : Shelf) (next : Step) (new : Writing) (after : Shelf)
    → others ≡ 0 → writes.WritesIf b wsize lane file offset bytes turn shelf next new after → On Writing WriteNames others old next new
writes-if true others old wsize lane file offset bytes turn shelf next new after none (inl s) =
    saves-if (is_first lane (joined lane s.of shelf).order) others old wsize lane file (saves.begun s.of shelf.seq) turn (joined lane s.of shelf) next new after (none-had others old s.of none) s.saves
writes-if true others old wsize lane file offset bytes turn shelf next new after none (inr s) = refuses-on others old faults.Memory shelf next new after s.1
writes-if false others old wsize lane file offset bytes turn shelf next new after none (inl s) =
    on-done Writing WriteNames others old (answers.Done values.Nothing) next new s.leads.gives_next
writes-if false others old wsize lane file offset bytes turn shelf next new after none (inr s) = refuses-on others old faults.Memory shelf next new after s

writes-on : (others : ℕ) (old : Writing) (wsize lane : ℕ) (file : List ℕ) (offset : ℕ) (bytes : List ℕ) (turn : Turn) (shelf : Shelf) (next : Step) (new : Writing) (after : Shelf)
    → others ≡ 0 → writes.Writes wsize lane file offset bytes turn shelf next new after → On Writing WriteNames others old next new
writes-on others old wsize lane file offset bytes turn shelf next new after none w = writes-if _ others old wsize lane file offset bytes turn shelf next new after none w

write-starts : (found : Result (List ℕ) Fault) (wsize : ℕ) (m : WriteFile) (turn : Turn) (shelf : Shelf) (next : Step) (new : WriteFile) (after : Shelf)
    → writes.StartsAt found wsize m turn shelf next new after → On Writing WriteNames 0 m.state next new.state
write-starts (Err fault) wsize m turn shelf next new after s = refuses-on 0 m.state fault shelf next new.state after s.refuses
write-starts (Ok file) wsize m turn shelf next new after (inl s) = writes-on 0 m.state wsize m.lane file m.offset _ turn shelf next new.state after refl s.writes
write-starts (Ok file) wsize m turn shelf next new after (inr s) = refuses-on 0 m.state faults.Memory shelf next new.state after s.refuses

write-goes : (at : Writing) (wsize lane : ℕ) (turn : Turn) (shelf : Shelf) (next : Step) (new : Writing) (after : Shelf) (others : ℕ)
    → writes.ResumesIn at wsize lane turn shelf next new after → On Writing WriteNames others at next new
write-goes writing.Idle wsize lane turn shelf next new after others r = on-waits Writing WriteNames others writing.Idle next new r.gives_next r.keeps
write-goes (writing.Room file saving) wsize lane turn shelf next new after others r =
    saves-if (is_first lane shelf.order) others (writing.Room file saving) wsize lane file saving turn shelf next new after (λ some c e. e) r

write-follows : (told : _) (others : ℕ) (old : Writing) (f : List ℕ) (wsize : ℕ) (m : WriteFile) (file : List ℕ) (saved : Saving) (turn : Turn) (shelf : Shelf) (next : Step) (new : Writing)
    (after : Shelf) → Had others old f → SavesOn f (syncs.sync_next told) saved → SaveCounts told others (of_saving saved)
    → writes.Follows told wsize m file saved turn shelf next new after → On Writing WriteNames others old next new
write-follows told others old f wsize m file saved turn shelf next new after had k c l = by-step
    (λ g. SavesOn f (syncs.sync_next g) saved → SaveCounts g others (of_saving saved) → writes.Follows g wsize m file saved turn shelf next new after → On Writing WriteNames others old next new)
    (λ call j n l. write-leads others old (nexts.Send call) (writing.Room file saved) shelf next new after l
    (record { asked = of-file saved.file f call j.file j.asks; kept = λ some b e. of-file saved.file f b j.file (had some b e) }))
    (λ j n l. write-leads others old nexts.Wait (writing.Room file saved) shelf next new after l
    (record { asked = tt; kept = λ some b e. of-file saved.file f b j.file (had some b e) }))
    ended told k c l
  where
    ended : (result : Result (Unit {0}) Fault) → SavesOn f (syncs.sync_next (ends_as result)) saved → (others ≡ 0) × (of_saving saved ≡ 0)
        → writes.Follows (ends_as result) wsize m file saved turn shelf next new after → On Writing WriteNames others old next new
    ended (Ok nothing) j n l = writes-on others old wsize m.lane file m.offset (writes.made_bytes m.text) turn (record shelf { order = left m.lane shelf.order }) next new after n.0 l
    ended (Err fault) j n l = on-done Writing WriteNames others old (answers.Refused fault) next new l.gives_next

write-hears : (at : Writing) (wsize : ℕ) (m : WriteFile) (sent turn : Turn) (came : Result Reply Fault) (shelf : Shelf) (next : Step) (new : Writing) (after : Shelf) (others : ℕ)
    → of_writing at ≡ others + 1 → writes.TakesIn at wsize m sent turn came shelf next new after → On Writing WriteNames others at next new
write-hears writing.Idle wsize m sent turn came shelf next new after others one t = absurd (omega (arith, one))
write-hears (writing.Room file saving) wsize m sent turn came shelf next new after others one t =
    write-follows t.told others (writing.Room file saving) saving.file wsize m file t.saved turn _ next new after (λ some c e. e)
    (takes-on saving.file wsize sent turn came shelf.repeats saving shelf.back t.told t.saved t.back t.repeats refl t.takes)
    (save-takes wsize sent turn came shelf.repeats saving shelf.back t.told t.saved t.back t.repeats others one t.takes) t.follows

-- ---- closes

abbrev pub CloseNames : Closing → Call → Type 0
CloseNames closing.Idle call = Unit {0}
CloseNames (closing.Queued saving) call = Unit {0}
CloseNames (closing.Saves saving) call = Saves saving.file call
CloseNames (closing.ToRemove removal) call = Unit {0}
CloseNames (closing.Removing removal) call = call ≡ remove_of removal

close-asks : (others : ℕ) (old : Closing) (room : Bool) (removal : Removal) (next : Step) (state : Closing) → others ≡ 0 → next ≡ closes.ask_next room removal
    → state ≡ closes.ask_state room removal → On Closing CloseNames others old next state
close-asks others old true removal next state none is at =
    on-to Closing CloseNames others old (nexts.Send (remove_of removal)) (closing.Removing removal) next state is at
    (on-none Closing CloseNames others old (nexts.Send (remove_of removal)) (closing.Removing removal) none refl)
close-asks others old false removal next state none is at =
    on-to Closing CloseNames others old nexts.Wait (closing.ToRemove removal) next state is at (on-none Closing CloseNames others old nexts.Wait (closing.ToRemove removal) none tt)

close-ends-at : (others : ℕ) (old : Closing) (place : Option (List ℕ × List ℕ)) (lane : ℕ) (room : Bool) (file : List ℕ) (why : Option Fault) (was : Shelf) (next : Step) (state : Closing)
    (new : Shelf) → others ≡ 0 → closes.EndsAt place lane room file why was next state new → On Closing CloseNames others old next state
close-ends-at others old None lane room file why was next state new none e = on-done Closing CloseNames others old (closed_answer why) next state e.next_is
close-ends-at others old (Some place) lane room file why was next state new none e = close-asks others old room _ next state none e.next_is e.state_is

close-frees : (others : ℕ) (old : Closing) (lane slot : ℕ) (room : Bool) (file : List ℕ) (why : Option Fault) (was : Shelf) (next : Step) (state : Closing) (new : Shelf) → others ≡ 0
    → closes.Frees lane slot room file why was next state new → On Closing CloseNames others old next state
close-frees others old lane slot room file why was next state new none f = close-ends-at others old f.place lane room file why f.freed next state new none f.ends

close-waits : (others : ℕ) (old : Closing) (begun : Bool) (saving : Saving) → (1 ≤ others → (c : Call) → CloseNames old c → Saves saving.file c)
    → On Closing CloseNames others old nexts.Wait (closes.waits_as begun saving)
close-waits others old true saving had = record { asked = tt; kept = had }
close-waits others old false saving had = record { asked = tt; kept = λ some c e. tt }

close-follows : (gives : _) (others : ℕ) (old : Closing) (f : List ℕ) (lane slot : ℕ) (room begun : Bool) (saved : Saving) (was : Shelf) (next : Step) (state : Closing) (new : Shelf)
    → (1 ≤ others → (c : Call) → CloseNames old c → Saves f c) → SavesOn f (syncs.sync_next gives) saved → SaveCounts gives others (of_saving saved)
    → closes.Follows gives lane slot room begun saved was next state new → On Closing CloseNames others old next state
close-follows gives others old f lane slot room begun saved was next state new had k c l = by-step
    (λ g. SavesOn f (syncs.sync_next g) saved → SaveCounts g others (of_saving saved) → closes.Follows g lane slot room begun saved was next state new → On Closing CloseNames others old next state)
    (λ call j n l. on-to Closing CloseNames others old (nexts.Send call) (closing.Saves saved) next state l.0 l.1
    (record { asked = of-file saved.file f call j.file j.asks; kept = λ some b e. of-file saved.file f b j.file (had some b e) }))
    (λ j n l. on-to Closing CloseNames others old nexts.Wait (closes.waits_as begun saved) next state l.0 l.1
    (close-waits others old begun saved (λ some b e. of-file saved.file f b j.file (had some b e))))
    (λ result j n l. close-frees others old lane slot room saved.file (refusal_of result) was next state new n.0 l)
    gives k c l

close-goes : (others : ℕ) (old : Closing) (wsize lane slot : ℕ) (turn : Turn) (begun : Bool) (saving : Saving) (was : Shelf) (next : Step) (state : Closing) (new : Shelf)
    → (1 ≤ others → (c : Call) → CloseNames old c → Saves saving.file c) → of_saving saving ≡ others → closes.GoesOn wsize lane slot turn begun saving was next state new
    → On Closing CloseNames others old next state
close-goes others old wsize lane slot turn begun saving was next state new had count g =
    close-follows g.gives others old saving.file lane slot turn.room begun g.saved g.gone next state new had
    (goes-on saving.file wsize turn.xid turn.room false saving was.back g.gives g.saved g.gone.back refl g.goes)
    (subst (λ (n : ℕ). SaveCounts g.gives n (of_saving g.saved)) count (save-goes wsize turn.xid turn.room false saving was.back g.gives g.saved g.gone.back g.goes)) g.follows

close-begins : (end : Option ℕ) (old : Closing) (wsize lane slot : ℕ) (turn : Turn) (saving : Saving) (was : Shelf) (next : Step) (state : Closing) (new : Shelf) → of_saving saving ≡ 0
    → closes.Begins end wsize lane slot turn saving was next state new → On Closing CloseNames 0 old next state
close-begins None old wsize lane slot turn saving was next state new none b = close-frees 0 old lane slot turn.room saving.file None was next state new refl b
close-begins (Some end) old wsize lane slot turn saving was next state new none b =
    close-goes 0 old wsize lane slot turn false saving was next state new (λ some. absurd (omega (arith, some))) none b

close-queues : (b : Bool) (old : Closing) (wsize lane slot : ℕ) (turn : Turn) (saving : Saving) (was : Shelf) (next : Step) (state : Closing) (new : Shelf) → of_saving saving ≡ 0
    → closes.QueuesIf b wsize lane slot turn saving was next state new → On Closing CloseNames 0 old next state
close-queues true old wsize lane slot turn saving was next state new none q =
    close-begins (last_end (of_file saving.file was.back).segments) old wsize lane slot turn saving was next state new none q
close-queues false old wsize lane slot turn saving was next state new none q =
    on-to Closing CloseNames 0 old nexts.Wait (closing.Queued saving) next state q.next_is q.state_is (record { asked = tt; kept = λ some c e. tt })

close-starts : (found : Option (List ℕ)) (wsize : ℕ) (m : CloseFile) (turn : Turn) (was : Shelf) (next : Step) (state : Closing) (new : Shelf)
    → closes.StartsAt found wsize m turn was next state new → On Closing CloseNames 0 m.state next state
close-starts None wsize m turn was next state new s = on-done Closing CloseNames 0 m.state (answers.Refused faults.Slot) next state s.next_is
close-starts (Some file) wsize m turn was next state new s =
    close-queues (is_first m.lane (joined m.lane file was).order) m.state wsize m.lane m.slot turn (saves.begun file was.seq) (joined m.lane file was) next state new refl s

close-on : (b : Bool) (wsize lane slot : ℕ) (turn : Turn) (saving : Saving) (was : Shelf) (next : Step) (state : Closing) (new : Shelf)
    → closes.GoesOnIf b wsize lane slot turn saving was next state new → On Closing CloseNames (of_saving saving) (closing.Saves saving) next state
close-on true wsize lane slot turn saving was next state new g =
    close-goes (of_saving saving) (closing.Saves saving) wsize lane slot turn true saving was next state new (λ some c e. e) refl g
close-on false wsize lane slot turn saving was next state new g = on-waits Closing CloseNames (of_saving saving) (closing.Saves saving) next state g.next_is g.state_is

close-resumes : (at : Closing) (wsize : ℕ) (m : CloseFile) (turn : Turn) (was : Shelf) (next : Step) (state : Closing) (new : Shelf)
    → closes.Resumes at wsize m turn was next state new → On Closing CloseNames (of_closing at) at next state
close-resumes closing.Idle wsize m turn was next state new r = on-waits Closing CloseNames 0 closing.Idle next state r.next_is r.state_is
close-resumes (closing.Queued saving) wsize m turn was next state new r = queued (is_first m.lane was.order) r
  where
    -- of its own calls none waits, whatever its save says
    started : (gives : _) (saved : Saving) (gone : Shelf) → SavesOn saving.file (syncs.sync_next gives) saved → closes.Follows gives m.lane m.slot turn.room false saved gone next state new
        → On Closing CloseNames 0 (closing.Queued saving) next state
    started gives saved gone k l = by-step
        (λ g. SavesOn saving.file (syncs.sync_next g) saved → closes.Follows g m.lane m.slot turn.room false saved gone next state new
        → On Closing CloseNames 0 (closing.Queued saving) next state)
        (λ call j l. on-to Closing CloseNames 0 (closing.Queued saving) (nexts.Send call) (closing.Saves saved) next state l.0 l.1
        (on-none Closing CloseNames 0 (closing.Queued saving) (nexts.Send call) (closing.Saves saved) refl (of-file saved.file saving.file call j.file j.asks)))
        (λ j l. on-to Closing CloseNames 0 (closing.Queued saving) nexts.Wait (closing.Queued saved) next state l.0 l.1
        (on-none Closing CloseNames 0 (closing.Queued saving) nexts.Wait (closing.Queued saved) refl tt))
        (λ result j l. close-frees 0 (closing.Queued saving) m.lane m.slot turn.room saved.file (refusal_of result) gone next state new refl l)
        gives k l

    begun : (end : Option ℕ) → closes.Begins end wsize m.lane m.slot turn saving was next state new → On Closing CloseNames 0 (closing.Queued saving) next state
    begun None b = close-frees 0 (closing.Queued saving) m.lane m.slot turn.room saving.file None was next state new refl b
    begun (Some end) b = started b.gives b.saved b.gone (goes-on saving.file wsize turn.xid turn.room false saving was.back b.gives b.saved b.gone.back refl b.goes) b.follows

    queued : (b : Bool) → closes.QueuesIf b wsize m.lane m.slot turn saving was next state new → On Closing CloseNames 0 (closing.Queued saving) next state
    queued true q = begun (last_end (of_file saving.file was.back).segments) q
    queued false q = on-waits Closing CloseNames 0 (closing.Queued saving) next state q.next_is q.state_is
close-resumes (closing.Saves saving) wsize m turn was next state new r = close-on (is_first m.lane was.order) wsize m.lane m.slot turn saving was next state new r
close-resumes (closing.ToRemove removal) wsize m turn was next state new r = close-asks 0 (closing.ToRemove removal) turn.room removal next state refl r.next_is r.state_is
close-resumes (closing.Removing removal) wsize m turn was next state new r = on-waits Closing CloseNames 1 (closing.Removing removal) next state r.next_is r.state_is

close-removed : (again : Bool) (lane : ℕ) (removal : Removal) (was : Shelf) (next : Step) (state : Closing) (new : Shelf) (others : ℕ)
    → closes.EndsIf again lane removal was next state new → On Closing CloseNames others (closing.Removing removal) next state
close-removed true lane removal was next state new others e =
    on-to Closing CloseNames others (closing.Removing removal) (nexts.Send (remove_of removal)) (closing.Removing removal) next state e.next_is e.state_is
    (record { asked = refl; kept = λ some c e. e })
close-removed false lane removal was next state new others e = on-done Closing CloseNames others (closing.Removing removal) (closed_answer removal.refusal) next state e.next_is

close-takes : (at : Closing) (wsize : ℕ) (m : CloseFile) (sent turn : Turn) (came : Result Reply Fault) (was : Shelf) (next : Step) (state : Closing) (new : Shelf) (others : ℕ)
    → of_closing at ≡ others + 1 → closes.Takes at wsize m sent turn came was next state new → On Closing CloseNames others at next state
close-takes closing.Idle wsize m sent turn came was next state new others one t = absurd (omega (arith, one))
close-takes (closing.Queued saving) wsize m sent turn came was next state new others one t = absurd (omega (arith, one))
close-takes (closing.Saves saving) wsize m sent turn came was next state new others one t =
    close-follows t.gives others (closing.Saves saving) saving.file m.lane m.slot turn.room true t.saved t.took next state new (λ some c e. e)
    (takes-on saving.file wsize sent turn came was.repeats saving was.back t.gives t.saved t.took.back t.took.repeats refl t.takes)
    (save-takes wsize sent turn came was.repeats saving was.back t.gives t.saved t.took.back t.took.repeats others one t.takes) t.follows
close-takes (closing.ToRemove removal) wsize m sent turn came was next state new others one t = absurd (omega (arith, one))
close-takes (closing.Removing removal) wsize m sent turn came was next state new others one t =
    close-removed (goes_again (remove_busy came) sent turn was.repeats) m.lane removal t.took next state new others t.ends

-- ---- truncates

abbrev pub CutNames : ℕ → Truncating → Call → Type 0
CutNames size truncating.Idle call = Unit {0}
CutNames size (truncating.Queued file upto) call = Unit {0}
CutNames size (truncating.Asked file upto) call = call ≡ truncates.size_call file size

cut-queued : (b : Bool) (size others : ℕ) (old : Truncating) (file : List ℕ) (upto : ℕ) (next : Step) (state : Truncating) → others ≡ 0
    → next ≡ (if b then nexts.Send (truncates.size_call file size) else nexts.Wait) → state ≡ (if b then truncating.Asked file upto else truncating.Queued file upto)
    → On Truncating (CutNames size) others old next state
cut-queued true size others old file upto next state none is at =
    on-to Truncating (CutNames size) others old (nexts.Send (truncates.size_call file size)) (truncating.Asked file upto) next state is at
    (on-none Truncating (CutNames size) others old (nexts.Send (truncates.size_call file size)) (truncating.Asked file upto) none refl)
cut-queued false size others old file upto next state none is at =
    on-to Truncating (CutNames size) others old nexts.Wait (truncating.Queued file upto) next state is at
    (on-none Truncating (CutNames size) others old nexts.Wait (truncating.Queued file upto) none tt)

cut-starts : (found : Result (List ℕ) Fault) (m : TruncateFile) (turn : Turn) (old : Shelf) (next : Step) (state : Truncating) → next ≡ truncates.begun_next found m turn old
    → state ≡ truncates.begun_state found m turn old → On Truncating (CutNames m.size) 0 m.state next state
cut-starts (Ok file) m turn old next state is at = cut-queued (truncates.may_ask m.lane file turn (joined m.lane file old)) m.size 0 m.state file old.seq next state refl is at
cut-starts (Err fault) m turn old next state is at = on-done Truncating (CutNames m.size) 0 m.state (answers.Refused fault) next state is

cut-resumes : (at : Truncating) (m : TruncateFile) (turn : Turn) (old : Shelf) (next : Step) (state : Truncating) → next ≡ truncates.resumed_next at m turn old
    → state ≡ truncates.resumed_state at m turn old → On Truncating (CutNames m.size) (of_truncating at) at next state
cut-resumes truncating.Idle m turn old next state is same = on-waits Truncating (CutNames m.size) 0 truncating.Idle next state is same
cut-resumes (truncating.Queued file upto) m turn old next state is same =
    cut-queued (truncates.may_ask m.lane file turn old) m.size 0 (truncating.Queued file upto) file upto next state refl is same
cut-resumes (truncating.Asked file upto) m turn old next state is same = on-waits Truncating (CutNames m.size) 1 (truncating.Asked file upto) next state is same

cut-takes : (at : Truncating) (m : TruncateFile) (sent turn : Turn) (came : Result Reply Fault) (repeats : _) (next : Step) (state : Truncating) (others : ℕ)
    → next ≡ truncates.took_next at m came sent turn repeats → state ≡ truncates.took_state at came sent turn repeats → On Truncating (CutNames m.size) others at next state
cut-takes truncating.Idle m sent turn came repeats next state others is same = on-waits Truncating (CutNames m.size) others truncating.Idle next state is same
cut-takes (truncating.Queued file upto) m sent turn came repeats next state others is same = on-waits Truncating (CutNames m.size) others (truncating.Queued file upto) next state is same
cut-takes (truncating.Asked file upto) m sent turn came repeats next state others is same = by (truncates.size_again came sent turn repeats) is same
  where
    told : (result : Result _ Fault) → next ≡ truncates.told_next result → On Truncating (CutNames m.size) others (truncating.Asked file upto) next state
    told (Ok wcc) at = on-done Truncating (CutNames m.size) others (truncating.Asked file upto) (answers.Done values.Nothing) next state at
    told (Err fault) at = on-done Truncating (CutNames m.size) others (truncating.Asked file upto) (answers.Refused fault) next state at

    by : (b : Bool) → next ≡ truncates.ended_next b m file came → state ≡ truncates.ended_state b (truncating.Asked file upto)
        → On Truncating (CutNames m.size) others (truncating.Asked file upto) next state
    by true n s = on-to Truncating (CutNames m.size) others (truncating.Asked file upto) (nexts.Send (truncates.size_call file m.size)) (truncating.Asked file upto) next state n s
        (record { asked = refl; kept = λ some c e. e })
    by false n s = told (truncates.size_told came) n

-- ---- puts, once they have their file

abbrev pub StateNames : Putting → Writing → Call → Type 0
StateNames putting.Idle w call = Unit {0}
StateNames putting.Opens w call = Unit {0}
StateNames (putting.Adds file) w call = WriteNames w call
StateNames (putting.Saves s) w call = Saves s.file call

abbrev pub PutNames : PutFile → Call → Type 0
PutNames p call = StateNames p.state p.write.state call

abbrev PutOn : ℕ → PutFile → Step → PutFile → Type 0
PutOn others old next new = On PutFile PutNames others old next new

-- the put at another state
abbrev at_state : PutFile → Putting → PutFile
at_state p state = record p { state = state }

put-follows : (others : ℕ) (old p : PutFile) (f : List ℕ) (gives : _) (saved : Saving) (lane : ℕ) (was : Shelf) (next : Step) (state : Putting) (after : Shelf)
    → (1 ≤ others → (c : Call) → PutNames old c → Saves f c) → SavesOn f (syncs.sync_next gives) saved → puts.Follows gives lane saved was next state after
    → PutOn others old next (at_state p state)
put-follows others old p f gives saved lane was next state after had k l = by-step
    (λ g. SavesOn f (syncs.sync_next g) saved → puts.Follows g lane saved was next state after → PutOn others old next (at_state p state))
    (λ call j l. on-to PutFile PutNames others old (nexts.Send call) (at_state p (putting.Saves saved)) next (at_state p state) l.0 (ap (at_state p) l.1)
    (record { asked = of-file saved.file f call j.file j.asks; kept = λ some b e. of-file saved.file f b j.file (had some b e) }))
    (λ j l. on-to PutFile PutNames others old nexts.Wait (at_state p (putting.Saves saved)) next (at_state p state) l.0 (ap (at_state p) l.1)
    (record { asked = tt; kept = λ some b e. of-file saved.file f b j.file (had some b e) }))
    (λ result j l. on-done PutFile PutNames others old (closed_answer (refusal_of result)) next (at_state p state) l.next_is)
    gives k l

put-queues : (b : Bool) (others : ℕ) (old p : PutFile) (wsize lane : ℕ) (turn : Turn) (s : Saving) (was : Shelf) (next : Step) (state : Putting) (after : Shelf)
    → (1 ≤ others → (c : Call) → PutNames old c → Saves s.file c) → puts.QueuesIf b wsize lane turn s was next state after → PutOn others old next (at_state p state)
put-queues true others old p wsize lane turn s was next state after had q =
    put-follows others old p s.file q.gives q.saved lane q.gone next state after had (goes-on s.file wsize turn.xid turn.room false s was.back q.gives q.saved q.gone.back refl q.goes) q.follows
put-queues false others old p wsize lane turn s was next state after had q =
    on-to PutFile PutNames others old nexts.Wait (at_state p (putting.Saves s)) next (at_state p state) q.next_is (ap (at_state p) q.state_is) (record { asked = tt; kept = had })

-- what a step of its write comes to
after-write : (told : Step) (others : ℕ) (old p : PutFile) (was : Writing) (wsize lane : ℕ) (file : List ℕ) (turn : Turn) (shelf : Shelf) (next : Step) (state : Putting) (after : Shelf)
    → (1 ≤ others → (c : Call) → PutNames old c → WriteNames was c) → On Writing WriteNames others was told p.write.state → Plain told others (of_writing p.write.state)
    → puts.AfterWrite told wsize lane file turn shelf next state after → PutOn others old next (at_state p state)
after-write (nexts.Send call) others old p was wsize lane file turn shelf next state after had on count a =
    on-to PutFile PutNames others old (nexts.Send call) (at_state p (putting.Adds file)) next (at_state p state) a.0 (ap (at_state p) a.1)
    (record { asked = on.asked; kept = λ some c e. on.kept some c (had some c e) })
after-write nexts.Wait others old p was wsize lane file turn shelf next state after had on count a =
    on-to PutFile PutNames others old nexts.Wait (at_state p (putting.Adds file)) next (at_state p state) a.0 (ap (at_state p) a.1)
    (record { asked = tt; kept = λ some c e. on.kept some c (had some c e) })
after-write (nexts.Done (answers.Done value)) others old p was wsize lane file turn shelf next state after had on count a =
    put-queues (is_first lane (joined lane file shelf).order) others old p wsize lane turn (saves.begun file shelf.seq) (joined lane file shelf) next state after
    (λ some. absurd (omega (arith, count, some))) a
after-write (nexts.Done (answers.Refused fault)) others old p was wsize lane file turn shelf next state after had on count a =
    on-done PutFile PutNames others old (closed_answer (Some fault)) next (at_state p state) a.next_is

put-as : (others : ℕ) (old : PutFile) (next : Step) (to new : PutFile) → new ≡ to → PutOn others old next to → PutOn others old next new
put-as others old next to new is o = subst (λ (p : PutFile). PutOn others old next p) (sym is) o

writes-then : (wsize : ℕ) (m old : PutFile) (was : Writing) (file : List ℕ) (turn : Turn) (told : Step) (written : Writing) (mid : Shelf) (next : Step) (new : PutFile) (after : Shelf) (others : ℕ)
    → (1 ≤ others → (c : Call) → PutNames old c → WriteNames was c) → On Writing WriteNames others was told written → Plain told others (of_writing written)
    → puts.WritesOn wsize m file turn told written mid next new after → PutOn others old next new
writes-then wsize m old was file turn told written mid next new after others had on count w =
    put-as others old next (at_state (record m { write = record m.write { state = written } }) new.state) new w.machine_is
    (after-write told others old (record m { write = record m.write { state = written } }) was wsize m.write.lane file turn mid next new.state after had on count w.follows)

-- a put that opens its file
opens-any : (p : PutFile) → p.state ≡ putting.Opens → (c : Call) → PutNames p c
opens-any p is c = subst (λ (s : Putting). StateNames s p.write.state c) (sym is) tt

names-at : (p : PutFile) (at : Putting) (c : Call) → p.state ≡ at → PutNames p c → StateNames at p.write.state c
names-at p at c is e = subst (λ (s : Putting). StateNames s p.write.state c) is e

put-resumes : (at : Putting) (wsize : ℕ) (m : PutFile) (turn : Turn) (old : Shelf) (next : Step) (new : PutFile) (after : Shelf) → m.state ≡ at
    → puts.Resumes at wsize m turn old next new after → PutOn (of_putting at m.opening m.write.state) m next new
put-resumes putting.Idle wsize m turn old next new after is r = on-waits PutFile PutNames 0 m next new r.next_is r.machine_is
put-resumes putting.Opens wsize m turn old next new after is r =
    on-any PutFile PutNames (of_opening m.opening) m next new (opens-any new (ap (λ (p : PutFile). p.state) r.1 ∙ is))
put-resumes (putting.Adds file) wsize m turn old next new after is r =
    writes-then wsize m m m.write.state file turn r.told r.written r.mid next new after (of_writing m.write.state) (λ some c e. names-at m (putting.Adds file) c is e)
    (write-goes m.write.state wsize m.write.lane turn old r.told r.written r.mid (of_writing m.write.state) r.resumes)
    (write-resumes m.write.state wsize m.write.lane turn old r.told r.written r.mid r.resumes) r.goes
put-resumes (putting.Saves s) wsize m turn old next new after is r =
    put-as (of_saving s) m next (at_state m new.state) new r.1
    (put-queues (is_first m.write.lane old.order) (of_saving s) m m wsize m.write.lane turn s old next new.state after (λ some c e. names-at m (putting.Saves s) c is e) r.0)

after-opening : (step : OpeningStep) (wsize : ℕ) (m old : PutFile) (turn : Turn) (shelf : Shelf) (next : Step) (new : PutFile) (after : Shelf) (others : ℕ) → m.state ≡ putting.Opens
    → OpeningCounts step others (of_opening m.opening) → puts.AfterOpening step wsize m turn shelf next new after → PutOn others old next new
after-opening (openings.Send call) wsize m old turn shelf next new after others is c a = on-any PutFile PutNames others old next new (opens-any new (ap (λ (p : PutFile). p.state) a.1 ∙ is))
after-opening openings.Wait wsize m old turn shelf next new after others is c a =
    on-any PutFile PutNames others old next new (opens-any new (ap (λ (p : PutFile). p.state) a.machine_is ∙ is))
after-opening (openings.Ended (Ok file)) wsize m old turn shelf next new after others is c a =
    writes-then wsize m old m.write.state file turn a.told a.written a.mid next new after others (λ some. absurd (omega (arith, c, some)))
    (writes-on others m.write.state wsize m.write.lane file m.write.offset (writes.made_bytes m.write.text) turn (puts.put_at m.write.lane file shelf) a.told a.written a.mid c a.writes)
    (subst (λ (n : ℕ). Plain a.told n (of_writing a.written)) (sym c)
    (writes-leave wsize m.write.lane file m.write.offset (writes.made_bytes m.write.text) turn (puts.put_at m.write.lane file shelf) a.told a.written a.mid a.writes)) a.goes
after-opening (openings.Ended (Err fault)) wsize m old turn shelf next new after others is c a = on-done PutFile PutNames others old (answers.Refused fault) next new a.0

put-takes : (at : Putting) (wsize : ℕ) (m : PutFile) (sent turn : Turn) (came : Result Reply Fault) (old : Shelf) (next : Step) (new : PutFile) (after : Shelf) (others : ℕ) → m.state ≡ at
    → of_putting at m.opening m.write.state ≡ others + 1 → puts.Takes at wsize m sent turn came old next new after → PutOn others m next new
put-takes putting.Idle wsize m sent turn came old next new after others is one t = absurd (omega (arith, one))
put-takes putting.Opens wsize m sent turn came old next new after others is one t =
    let again = opening.opening_again m.opening sent turn came old.repeats in
    after-opening t.step wsize (puts.led again m turn came t.took.attrs old.pages) m turn t.took next new after others is
    (opening-took again m.opening sent turn (opening.led_on m.opening turn.now came t.took.attrs old.pages) t.step old.pages t.took.pages others one t.leads) t.follows
put-takes (putting.Adds file) wsize m sent turn came old next new after others is one t =
    writes-then wsize m m m.write.state file turn t.told t.written t.mid next new after others (λ some c e. names-at m (putting.Adds file) c is e)
    (write-hears m.write.state wsize m.write sent turn came old t.told t.written t.mid others one t.takes)
    (write-takes m.write.state wsize m.write sent turn came old t.told t.written t.mid others one t.takes) t.goes
put-takes (putting.Saves s) wsize m sent turn came old next new after others is one t =
    put-as others m next (at_state m new.state) new t.1
    (put-follows others m m s.file t.0.gives t.0.saved m.write.lane t.0.took next new.state after (λ some c e. names-at m (putting.Saves s) c is e)
    (takes-on s.file wsize sent turn came old.repeats s old.back t.0.gives t.0.saved t.0.took.back t.0.took.repeats refl t.0.takes) t.0.follows)

-- ---- any operation on a file

abbrev pub FileNames : FileMachine → Call → Type 0
FileNames (files.Open m) call = Unit {0}
FileNames (files.Read m) call = FileReads m call
FileNames (files.Write m) call = WriteNames m.state call
FileNames (files.Sync m) call = SyncNames m.state call
FileNames (files.Close m) call = CloseNames m.state call
FileNames (files.Truncate m) call = CutNames m.size m.state call
FileNames (files.Put m) call = PutNames m call

abbrev FileOn : ℕ → FileMachine → Step → FileMachine → Type 0
FileOn others old next new = On FileMachine FileNames others old next new

file-as : (others : ℕ) (old : FileMachine) (next : Step) (to new : FileMachine) → new ≡ to → FileOn others old next to → FileOn others old next new
file-as others old next to new is o = subst (λ (m : FileMachine). FileOn others old next m) (sym is) o

plain-on : (others : ℕ) (old : FileMachine) (next : Step) (to new : FileMachine) → new ≡ to → ((c : Call) → FileNames to c) → FileOn others old next new
plain-on others old next to new is any = file-as others old next to new is (on-any FileMachine FileNames others old next to any)

pub file-starts : (m : FileMachine) (wsize : ℕ) (turn : Turn) (old : Shelf) (next : Step) (new : FileMachine) (after : Shelf) → steps.Starts wsize m turn old next new after → FileOn 0 m next new
file-starts (files.Open m) wsize turn old next new after s = plain-on 0 (files.Open m) next _ new s.machine_is (λ c. tt)
file-starts (files.Read m) wsize turn old next new after s =
    file-as 0 (files.Read m) next (files.Read s.machine) new s.machine_is
    (on-lift ReadFile FileMachine FileReads FileNames 0 m next s.machine (files.Read m) (files.Read s.machine) (λ some c e. e) (λ c e. e)
    (read-starts (finite.get old.opens (m.lane, m.slot)) turn m old.pages old.back next s.machine after.pages s.step))
file-starts (files.Write m) wsize turn old next new after s =
    file-as 0 (files.Write m) next (files.Write s.machine) new s.machine_is
    (on-lift Writing FileMachine WriteNames FileNames 0 m.state next s.machine.state (files.Write m) (files.Write s.machine) (λ some c e. e) (λ c e. e)
    (write-starts (file_to_write m.lane m.slot old.opens) wsize m turn old next s.machine after s.step))
file-starts (files.Sync m) wsize turn old next new after s =
    file-as 0 (files.Sync m) next (files.Sync (record m { state = s.state })) new s.machine_is
    (on-lift Syncing FileMachine SyncNames FileNames 0 m.state next s.state (files.Sync m) (files.Sync (record m { state = s.state })) (λ some c e. e) (λ c e. e)
    (sync-starts (file_at m.lane m.slot old.opens) wsize m turn old next s.state after s.step))
file-starts (files.Close m) wsize turn old next new after s =
    file-as 0 (files.Close m) next (files.Close (record m { state = s.state })) new s.machine_is
    (on-lift Closing FileMachine CloseNames FileNames 0 m.state next s.state (files.Close m) (files.Close (record m { state = s.state })) (λ some c e. e) (λ c e. e)
    (close-starts (file_at m.lane m.slot old.opens) wsize m turn old next s.state after s.step))
file-starts (files.Truncate m) wsize turn old next new after s =
    file-as 0 (files.Truncate m) next (files.Truncate (record m { state = truncates.started_state m turn old })) new s.machine_is
    (on-lift Truncating FileMachine (CutNames m.size) FileNames 0 m.state next (truncates.started_state m turn old) (files.Truncate m)
    (files.Truncate (record m { state = truncates.started_state m turn old })) (λ some c e. e) (λ c e. e)
    (cut-starts (truncates.found_file m old) m turn old next (truncates.started_state m turn old) s.next_is refl))
file-starts (files.Put m) wsize turn old next new after s = plain-on 0 (files.Put m) next _ new s.machine_is (λ c. tt)

pub file-resumes : (m : FileMachine) (wsize : ℕ) (turn : Turn) (old : Shelf) (next : Step) (new : FileMachine) (after : Shelf) → steps.Resumes wsize m turn old next new after
    → FileOn (calls_of m) m next new
file-resumes (files.Open m) wsize turn old next new after s = plain-on _ (files.Open m) next _ new s.machine_is (λ c. tt)
file-resumes (files.Read m) wsize turn old next new after s =
    file-as (of_reading m.reading) (files.Read m) next (files.Read s.machine) new s.machine_is
    (on-lift ReadFile FileMachine FileReads FileNames (of_reading m.reading) m next s.machine (files.Read m) (files.Read s.machine) (λ some c e. e) (λ c e. e)
    (read-resumes m.reading turn.room m old.pages old.back next s.machine after.pages refl s.step))
file-resumes (files.Write m) wsize turn old next new after s =
    file-as (of_writing m.state) (files.Write m) next (files.Write (record m { state = s.state })) new s.machine_is
    (on-lift Writing FileMachine WriteNames FileNames (of_writing m.state) m.state next s.state (files.Write m) (files.Write (record m { state = s.state })) (λ some c e. e) (λ c e. e)
    (write-goes m.state wsize m.lane turn old next s.state after (of_writing m.state) s.step))
file-resumes (files.Sync m) wsize turn old next new after s =
    file-as (of_syncing m.state) (files.Sync m) next (files.Sync (record m { state = s.state })) new s.machine_is
    (on-lift Syncing FileMachine SyncNames FileNames (of_syncing m.state) m.state next s.state (files.Sync m) (files.Sync (record m { state = s.state })) (λ some c e. e) (λ c e. e)
    (sync-resumes m.state wsize m turn old next s.state after (of_syncing m.state) s.step))
file-resumes (files.Close m) wsize turn old next new after s =
    file-as (of_closing m.state) (files.Close m) next (files.Close (record m { state = s.state })) new s.machine_is
    (on-lift Closing FileMachine CloseNames FileNames (of_closing m.state) m.state next s.state (files.Close m) (files.Close (record m { state = s.state })) (λ some c e. e) (λ c e. e)
    (close-resumes m.state wsize m turn old next s.state after s.step))
file-resumes (files.Truncate m) wsize turn old next new after s =
    file-as (of_truncating m.state) (files.Truncate m) next (files.Truncate (record m { state = truncates.resumed_state m.state m turn old })) new s.machine_is
    (on-lift Truncating FileMachine (CutNames m.size) FileNames (of_truncating m.state) m.state next (truncates.resumed_state m.state m turn old) (files.Truncate m)
    (files.Truncate (record m { state = truncates.resumed_state m.state m turn old })) (λ some c e. e) (λ c e. e)
    (cut-resumes m.state m turn old next (truncates.resumed_state m.state m turn old) s.next_is refl))
file-resumes (files.Put m) wsize turn old next new after s =
    file-as (of_putting m.state m.opening m.write.state) (files.Put m) next (files.Put s.machine) new s.machine_is
    (on-lift PutFile FileMachine PutNames FileNames (of_putting m.state m.opening m.write.state) m next s.machine (files.Put m) (files.Put s.machine) (λ some c e. e) (λ c e. e)
    (put-resumes m.state wsize m turn old next s.machine after refl s.step))

pub file-takes : (m : FileMachine) (wsize : ℕ) (sent turn : Turn) (came : Result Reply Fault) (old : Shelf) (next : Step) (new : FileMachine) (after : Shelf) (others : ℕ)
    → calls_of m ≡ others + 1 → steps.Takes wsize m sent turn came old next new after → FileOn others m next new
file-takes (files.Open m) wsize sent turn came old next new after others one s = plain-on others (files.Open m) next _ new s.machine_is (λ c. tt)
file-takes (files.Read m) wsize sent turn came old next new after others one s =
    file-as others (files.Read m) next (files.Read s.machine) new s.machine_is
    (on-lift ReadFile FileMachine FileReads FileNames others m next s.machine (files.Read m) (files.Read s.machine) (λ some c e. e) (λ c e. e)
    (read-takes m.reading sent turn came old.repeats m old.pages old.back next s.machine after.pages others one s.step))
file-takes (files.Write m) wsize sent turn came old next new after others one s =
    file-as others (files.Write m) next (files.Write (record m { state = s.state })) new s.machine_is
    (on-lift Writing FileMachine WriteNames FileNames others m.state next s.state (files.Write m) (files.Write (record m { state = s.state })) (λ some c e. e) (λ c e. e)
    (write-hears m.state wsize m sent turn came old next s.state after others one s.step))
file-takes (files.Sync m) wsize sent turn came old next new after others one s =
    file-as others (files.Sync m) next (files.Sync (record m { state = s.state })) new s.machine_is
    (on-lift Syncing FileMachine SyncNames FileNames others m.state next s.state (files.Sync m) (files.Sync (record m { state = s.state })) (λ some c e. e) (λ c e. e)
    (sync-takes m.state wsize m sent turn came old next s.state after others s.step))
file-takes (files.Close m) wsize sent turn came old next new after others one s =
    file-as others (files.Close m) next (files.Close (record m { state = s.state })) new s.machine_is
    (on-lift Closing FileMachine CloseNames FileNames others m.state next s.state (files.Close m) (files.Close (record m { state = s.state })) (λ some c e. e) (λ c e. e)
    (close-takes m.state wsize m sent turn came old next s.state after others one s.step))
file-takes (files.Truncate m) wsize sent turn came old next new after others one s =
    file-as others (files.Truncate m) next (files.Truncate (record m { state = truncates.took_state m.state came sent turn old.repeats })) new s.machine_is
    (on-lift Truncating FileMachine (CutNames m.size) FileNames others m.state next (truncates.took_state m.state came sent turn old.repeats) (files.Truncate m)
    (files.Truncate (record m { state = truncates.took_state m.state came sent turn old.repeats })) (λ some c e. e) (λ c e. e)
    (cut-takes m.state m sent turn came old.repeats next (truncates.took_state m.state came sent turn old.repeats) others s.next_is refl))
file-takes (files.Put m) wsize sent turn came old next new after others one s =
    file-as others (files.Put m) next (files.Put s.machine) new s.machine_is
    (on-lift PutFile FileMachine PutNames FileNames others m next s.machine (files.Put m) (files.Put s.machine) (λ some c e. e) (λ c e. e)
    (put-takes m.state wsize m sent turn came old next s.machine after others refl one s.step))
