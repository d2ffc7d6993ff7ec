-- A call that an operation asks for, and that can't be made, ends the operation or leaves it fewer calls to ask for in vain.
use Rattle.std.proofs.Common.{◌≡◌, ◌+◌, ◌<◌, ◌≤◌, ℕ, Bool, true, false, List, Option, Some, None, Result, Ok, Err, refl, sym, ap, subst, ◌∙◌, arith}
use Rattle.std.specs.Prelude.{◌==◌, if◌then◌else◌}
use Rattle.attr_cache.specs.Attrs.{Attrs}
use Rattle.page_cache.specs.Pages.{Pages}
use Rattle.open_files.specs.Slots.{Opens}
use Rattle.world_model.specs.declared.answer.Fault.{Fault}
use Rattle.world_model.specs.declared.answer.Answer.{Answer}
use Rattle.world_model.specs.declared.answer.Answer.TheVariants as answers
use Rattle.world_model.specs.declared.answer.Value.{Value}
use Rattle.world_model.specs.declared.message.Call.{Call}
use Rattle.world_model.specs.declared.message.Reply.{Reply}
use Rattle.write_back.specs.Segments.{Segments, last_end}
use Rattle.write_back.specs.Choice.{chosen, piece_of}
use Rattle.write_back.specs.Files.{Pending, of_file}
use Rattle.client_shelf.specs.declared.repeats.Repeat.{Repeat}
use Rattle.client_shelf.specs.declared.shelf.Shelf.{Shelf}
use Rattle.client_shelf.specs.declared.turn.Turn.{Turn}
use Rattle.client_shelf.specs.declared.step.Step.{Step}
use Rattle.client_shelf.specs.declared.step.Step.TheVariants as nexts
use Rattle.client_shelf.specs.Busy.{goes_again, fails_busy}
use Rattle.client_shelf.specs.LaneFiles.{is_first}
use Rattle.file_ops.specs.declared.judging.WriteTold.TheVariants.{Fails}
use Rattle.file_ops.specs.declared.saving.Saving.{Saving}
use Rattle.file_ops.specs.declared.saving.Phase.{Phase}
use Rattle.file_ops.specs.declared.saving.Phase.TheVariants.{Sending, Committing, Resending, CommittingAgain}
use Rattle.file_ops.specs.declared.saving.SavingStep.{SavingStep}
use Rattle.file_ops.specs.declared.saving.SavingStep.TheVariants.{Send, Wait, Ended}
use Rattle.file_ops.specs.declared.opening.Opening.{Opening}
use Rattle.file_ops.specs.declared.opening.OpeningStep.{OpeningStep}
use Rattle.file_ops.specs.declared.opening.OpeningStep.TheVariants as steps
use Rattle.file_ops.specs.declared.opening.Led.{Led}
use Rattle.file_ops.specs.declared.opening.Led.TheVariants as leads
use Rattle.file_ops.specs.declared.open_file.OpenFile.{OpenFile}
use Rattle.file_ops.specs.declared.sync_file.SyncFile.{SyncFile}
use Rattle.file_ops.specs.declared.sync_file.Syncing.{Syncing}
use Rattle.file_ops.specs.declared.sync_file.Syncing.TheVariants as syncing
use Rattle.file_ops.specs.declared.closing.Removal.{Removal}
use Rattle.file_ops.specs.declared.close_file.CloseFile.{CloseFile}
use Rattle.file_ops.specs.declared.close_file.Closing.{Closing}
use Rattle.file_ops.specs.declared.close_file.Closing.TheVariants as closing
use Rattle.file_ops.specs.declared.write_file.WriteFile.{WriteFile}
use Rattle.file_ops.specs.declared.write_file.Writing.{Writing}
use Rattle.file_ops.specs.declared.write_file.Writing.TheVariants as writing
use Rattle.file_ops.specs.declared.put_file.PutFile.{PutFile}
use Rattle.file_ops.specs.declared.put_file.Putting.{Putting}
use Rattle.file_ops.specs.declared.put_file.Putting.TheVariants as putting
use Rattle.file_ops.specs.declared.truncate_file.TruncateFile.{TruncateFile}
use Rattle.file_ops.specs.declared.truncate_file.Truncating.{Truncating}
use Rattle.file_ops.specs.declared.truncate_file.Truncating.TheVariants as truncating
use Rattle.file_ops.specs.declared.read_file.ReadFile.{ReadFile}
use Rattle.file_ops.specs.declared.reading.Reading.{Reading}
use Rattle.file_ops.specs.Reading.{State}
use Rattle.file_ops.specs.declared.reading.Phase.{Phase as ReadPhase}
use Rattle.file_ops.specs.declared.reading.Phase.TheVariants as phases
use Rattle.file_ops.specs.Told.{got_by}
use Rattle.file_ops.specs.Closings.{closed_answer, refusal_of, remove_of, remove_busy}
use Rattle.file_ops.specs.Endings.{save_left, sync_left, write_left, close_left, put_left}
use Rattle.file_ops.specs.Opening as opening
use Rattle.file_ops.specs.OpenFile as opens
use Rattle.file_ops.specs.Saves as saves
use Rattle.file_ops.specs.Syncs as syncs
use Rattle.file_ops.specs.Closes as closes
use Rattle.file_ops.specs.WriteFile as writes
use Rattle.file_ops.specs.PutFile as puts
use Rattle.file_ops.specs.TruncateFile as truncates
use Rattle.file_ops.specs.ReadReply as replies
use Rattle.file_ops.specs.Reading as reads
use Rattle.file_ops.specs.ReadFile as files
use Rattle.file_ops.proofs.Puts.{resumes-not}
use Rattle.file_ops.proofs.Refusals.{takes-ill, led-ill, known-ill}

-- ---- steps that don't wait

send-waits : (call : Call) (next : Step) → next ≡ nexts.Send call → next ≡ nexts.Wait → ⊥
send-waits call next is waits = let no-way : nexts.Send call ≡ nexts.Wait = sym is ∙ waits in absurd cc

done-waits : (answer : Answer) (next : Step) → next ≡ nexts.Done answer → next ≡ nexts.Wait → ⊥
done-waits answer next is waits = let no-way : nexts.Done answer ≡ nexts.Wait = sym is ∙ waits in absurd cc

done-sends : (answer : Answer) (next : Step) (call : Call) → next ≡ nexts.Done answer → next ≡ nexts.Send call → ⊥
done-sends answer next call is sends = let no-way : nexts.Done answer ≡ nexts.Send call = sym is ∙ sends in absurd cc

-- ---- saves

-- a save that asks for a call wasn't refused
abbrev pub Asks : SavingStep → Option Fault → Type 0
Asks (Send call) refusal = refusal ≡ None
Asks Wait refusal = Unit {0}
Asks (Ended result) refusal = Unit {0}

refused-asks : (waiting : ℕ) (fault : Fault) (refusal : Option Fault) → Asks (saves.refused_next waiting fault) refusal
refused-asks waiting fault refusal = by (waiting == 0)
  where
    by : (b : Bool) → Asks (if b then Ended (Err fault) else Wait) refusal
    by true = tt
    by false = tt

pub goes-asks : (wsize xid : ℕ) (room by_reply : Bool) (s : Saving) (back : Pending) (next : SavingStep) (new : Saving) (after : Pending) → saves.Goes wsize xid room by_reply s back next new after → Asks next s.refusal
goes-asks wsize xid room by_reply s back next new after goes = over s.refusal refl goes
  where
    none-asks : (n : SavingStep) → s.refusal ≡ None → Asks n s.refusal
    none-asks (Send call) none = none
    none-asks Wait none = tt
    none-asks (Ended result) none = tt

    over : (r : Option Fault) → s.refusal ≡ r → saves.GoesOver r wsize xid room by_reply s back next new after → Asks next s.refusal
    over (Some fault) is g = subst (λ (n : SavingStep). Asks n s.refusal) (sym g.0.gives_next) (refused-asks s.waiting fault s.refusal)
    over None is g = none-asks next is

-- a save that takes a refusal and waits on was refused
abbrev pub Refused : SavingStep → Option Fault → Type 0
Refused (Send call) refusal = Unit {0}
Refused Wait refusal = save_left refusal ≡ 0
Refused (Ended result) refusal = Unit {0}

over-refused : (waiting : ℕ) (fault : Fault) (refusal : Option Fault) → save_left refusal ≡ 0 → Refused (saves.refused_next waiting fault) refusal
over-refused waiting fault refusal none = by (waiting == 0)
  where
    by : (b : Bool) → Refused (if b then Ended (Err fault) else Wait) refusal
    by true = tt
    by false = none

write-save : (wsize asked xid : ℕ) (room : Bool) (fault : Fault) (s : Saving) (back : Pending) (next : SavingStep) (new : Saving) (after : Pending)
    → saves.TakesWrite wsize asked xid room (Fails fault) s back next new after → Refused next new.refusal
write-save wsize asked xid room fault s back next new after t =
    let goes : saves.Goes wsize xid room t.counts (saves.with_refusal fault s) t.between next new after = subst
    (λ (r : Option Fault). saves.Goes wsize xid room t.counts (saves.refused_by r s) t.between next new after) t.lands.0 t.goes in
    let refusal : new.refusal ≡ Some (saves.first_of s.refusal fault) = ap (λ (n : Saving). n.refusal) goes.0.keeps in
    subst (λ (n : SavingStep). Refused n new.refusal) (sym goes.0.gives_next) (over-refused s.waiting (saves.first_of s.refusal fault) new.refusal (ap save_left refusal))

first-save : (again : Bool) (fault : Fault) (wsize : ℕ) (turn : Turn) (s : Saving) (back : Pending) (next : SavingStep) (new : Saving) (after : Pending)
    → saves.TakesFirst again wsize turn (Err fault) s back next new after → Refused next new.refusal
first-save true fault wsize turn s back next new after t = subst (λ (n : SavingStep). Refused n new.refusal) (sym t.0.gives_next) tt
first-save false fault wsize turn s back next new after t = subst (λ (n : SavingStep). Refused n new.refusal) (sym t.0.gives_next) tt

last-save : (again : Bool) (fault : Fault) (s new : Saving) (next : SavingStep) → next ≡ saves.last_next again (Err fault) s → Refused next new.refusal
last-save true fault s new next is = subst (λ (n : SavingStep). Refused n new.refusal) (sym is) tt
last-save false fault s new next is = subst (λ (n : SavingStep). Refused n new.refusal) (sym is) tt

pub takes-save : (wsize : ℕ) (sent turn : Turn) (fault : Fault) (repeats : List Repeat) (s : Saving) (back : Pending) (next : SavingStep) (new : Saving) (after : Pending) (later : List Repeat)
    → saves.Takes wsize sent turn (Err fault) repeats s back next new after later → Refused next new.refusal
takes-save wsize sent turn fault repeats s back next new after later takes = by s.phase takes
  where
    by : (p : Phase) → saves.TakesIn p wsize sent turn (Err fault) repeats s back next new after later → Refused next new.refusal
    by Sending t = write-save wsize sent.xid turn.xid turn.room fault (saves.less_waiting s) back next new after t.0
    by Resending t = write-save wsize sent.xid turn.xid turn.room fault (saves.less_waiting s) back next new after t.0
    by Committing t = first-save (saves.commit_again (Err fault) sent turn repeats s) fault wsize turn s back next new after t.0
    by CommittingAgain t = last-save (saves.commit_again (Err fault) sent turn repeats s) fault s new next t.0.gives_next

-- ---- syncs

sync-asked : (gives : SavingStep) (next : Step) (call : Call) (refusal : Option Fault) → next ≡ syncs.sync_next gives → next ≡ nexts.Send call → Asks gives refusal → save_left refusal ≡ 1
sync-asked (Send own) next call refusal is sends none = ap save_left none
sync-asked Wait next call refusal is sends none = absurd (send-waits call next sends is)
sync-asked (Ended result) next call refusal is sends none = absurd (done-sends (syncs.answer_of result) next call is sends)

pub sync-asks : (at : Syncing) (wsize : ℕ) (machine : SyncFile) (turn : Turn) (old : Shelf) (next : Step) (call : Call) (state : Syncing) (new : Shelf)
    → syncs.Resumes at wsize machine turn old next state new → next ≡ nexts.Send call → sync_left at ≡ 1
sync-asks syncing.Idle wsize machine turn old next call state new s sends = absurd (send-waits call next sends s.next_is)
sync-asks (syncing.Saves saving) wsize machine turn old next call state new s sends = by (is_first machine.lane old.order) s
  where
    by : (b : Bool) → syncs.QueuesIf b wsize machine.lane turn saving old next state new → save_left saving.refusal ≡ 1
    by true g = sync-asked g.gives next call saving.refusal g.follows.next_is sends (goes-asks wsize turn.xid turn.room false saving old.back g.gives g.saved new.back g.goes)
    by false g = absurd (send-waits call next sends g.next_is)

sync-after : (gives : SavingStep) (saved : Saving) (next : Step) (state : Syncing) → next ≡ syncs.sync_next gives → state ≡ syncs.sync_state gives saved → Refused gives saved.refusal → next ≡ nexts.Wait → sync_left state ≡ 0
sync-after (Send call) saved next state is to refused waits = absurd (send-waits call next is waits)
sync-after Wait saved next state is to refused waits = ap sync_left to ∙ refused
sync-after (Ended result) saved next state is to refused waits = absurd (done-waits (syncs.answer_of result) next is waits)

pub sync-ends : (at : Syncing) (wsize : ℕ) (machine : SyncFile) (sent turn : Turn) (fault : Fault) (old : Shelf) (next : Step) (state : Syncing) (new : Shelf)
    → syncs.Takes at wsize machine sent turn (Err fault) old next state new → next ≡ nexts.Wait → sync_left state ≡ 0
sync-ends syncing.Idle wsize machine sent turn fault old next state new t waits = ap sync_left t.state_is
sync-ends (syncing.Saves saving) wsize machine sent turn fault old next state new t waits =
    sync-after t.gives t.saved next state t.follows.next_is t.follows.state_is (takes-save wsize sent turn fault old.repeats saving old.back t.gives t.saved new.back new.repeats t.takes) waits

-- ---- closes

-- what a close that asks for a call came to
pub data CloseAsked (at state : Closing) : Type 0 where
  saves_on : (saving : Saving) → close_left at ≡ 2 → state ≡ closing.Saves saving → CloseAsked at state
  removes : (removal : Removal) → state ≡ closing.Removing removal → CloseAsked at state

asks-removal : (room : Bool) (removal : Removal) (at : Closing) (old : Shelf) (next : Step) (call : Call) (state : Closing) (new : Shelf) → closes.Asks room removal old next state new → next ≡ nexts.Send call → CloseAsked at state
asks-removal true removal at old next call state new a sends = removes removal a.state_is
asks-removal false removal at old next call state new a sends = absurd (send-waits call next sends a.next_is)

frees-asks : (at : Closing) (lane slot : ℕ) (room : Bool) (file : List ℕ) (refusal : Option Fault) (old : Shelf) (next : Step) (call : Call) (state : Closing) (new : Shelf)
    → closes.Frees lane slot room file refusal old next state new → next ≡ nexts.Send call → CloseAsked at state
frees-asks at lane slot room file refusal old next call state new f sends = by f.place f.ends
  where
    by : (place : Option (List ℕ × List ℕ)) → closes.EndsAt place lane room file refusal f.freed next state new → CloseAsked at state
    by None e = absurd (done-sends (closed_answer refusal) next call e.next_is sends)
    by (Some place) e = asks-removal room (record { file = file; dir = place.0; name = place.1; refusal = refusal }) at f.freed next call state new e sends

close-follows : (gives : SavingStep) (at : Closing) (lane slot : ℕ) (room begun : Bool) (saving : Saving) (old : Shelf) (next : Step) (call : Call) (state : Closing) (new : Shelf)
    → ((own : Call) → gives ≡ Send own → close_left at ≡ 2) → closes.Follows gives lane slot room begun saving old next state new → next ≡ nexts.Send call → CloseAsked at state
close-follows (Send own) at lane slot room begun saving old next call state new two f sends = saves_on saving (two own refl) f.1
close-follows Wait at lane slot room begun saving old next call state new two f sends = absurd (send-waits call next sends f.0)
close-follows (Ended result) at lane slot room begun saving old next call state new two f sends = frees-asks at lane slot room saving.file (refusal_of result) old next call state new f sends

pub close-asks : (at : Closing) (wsize : ℕ) (machine : CloseFile) (turn : Turn) (old : Shelf) (next : Step) (call : Call) (state : Closing) (new : Shelf)
    → closes.Resumes at wsize machine turn old next state new → next ≡ nexts.Send call → CloseAsked at state
close-asks closing.Idle wsize machine turn old next call state new s sends = absurd (send-waits call next sends s.next_is)
close-asks (closing.Queued saving) wsize machine turn old next call state new s sends = by (is_first machine.lane old.order) s
  where
    begins : (end : Option ℕ) → closes.Begins end wsize machine.lane machine.slot turn saving old next state new → CloseAsked (closing.Queued saving) state
    begins None b = frees-asks (closing.Queued saving) machine.lane machine.slot turn.room saving.file None old next call state new b sends
    begins (Some end) b = close-follows b.gives (closing.Queued saving) machine.lane machine.slot turn.room false b.saved b.gone next call state new (λ own is. refl) b.follows sends

    by : (b : Bool) → closes.QueuesIf b wsize machine.lane machine.slot turn saving old next state new → CloseAsked (closing.Queued saving) state
    by true q = begins (last_end (of_file saving.file old.back).segments) q
    by false q = absurd (send-waits call next sends q.next_is)
close-asks (closing.Saves saving) wsize machine turn old next call state new s sends = by (is_first machine.lane old.order) s
  where
    two : (gives : SavingStep) → Asks gives saving.refusal → (own : Call) → gives ≡ Send own → close_left (closing.Saves saving) ≡ 2
    two gives asks own is = ap (λ (r : Option Fault). 1 + save_left r) (subst (λ (g : SavingStep). Asks g saving.refusal) is asks)

    by : (b : Bool) → closes.GoesOnIf b wsize machine.lane machine.slot turn saving old next state new → CloseAsked (closing.Saves saving) state
    by true g = close-follows g.gives (closing.Saves saving) machine.lane machine.slot turn.room true g.saved g.gone next call state new (two g.gives (goes-asks wsize turn.xid turn.room false saving old.back g.gives g.saved g.gone.back g.goes)) g.follows sends
    by false g = absurd (send-waits call next sends g.next_is)
close-asks (closing.ToRemove removal) wsize machine turn old next call state new s sends = asks-removal turn.room removal (closing.ToRemove removal) old next call state new s sends
close-asks (closing.Removing removal) wsize machine turn old next call state new s sends = absurd (send-waits call next sends s.next_is)

asks-after : (room : Bool) (removal : Removal) (old : Shelf) (next : Step) (state : Closing) (new : Shelf) → closes.Asks room removal old next state new → next ≡ nexts.Wait → close_left state ≤ 1
asks-after true removal old next state new a waits = absurd (send-waits (remove_of removal) next a.next_is waits)
asks-after false removal old next state new a waits = let one = ap close_left a.state_is in omega (arith, one)

frees-after : (lane slot : ℕ) (room : Bool) (file : List ℕ) (refusal : Option Fault) (old : Shelf) (next : Step) (state : Closing) (new : Shelf)
    → closes.Frees lane slot room file refusal old next state new → next ≡ nexts.Wait → close_left state ≤ 1
frees-after lane slot room file refusal old next state new f waits = by f.place f.ends
  where
    by : (place : Option (List ℕ × List ℕ)) → closes.EndsAt place lane room file refusal f.freed next state new → close_left state ≤ 1
    by None e = absurd (done-waits (closed_answer refusal) next e.next_is waits)
    by (Some place) e = asks-after room (record { file = file; dir = place.0; name = place.1; refusal = refusal }) f.freed next state new e waits

pub saves-end : (wsize : ℕ) (machine : CloseFile) (saving : Saving) (sent turn : Turn) (fault : Fault) (old : Shelf) (next : Step) (state : Closing) (new : Shelf)
    → closes.Takes (closing.Saves saving) wsize machine sent turn (Err fault) old next state new → next ≡ nexts.Wait → close_left state ≤ 1
saves-end wsize machine saving sent turn fault old next state new t waits =
    by t.gives (takes-save wsize sent turn fault old.repeats saving old.back t.gives t.saved t.took.back t.took.repeats t.takes) t.follows
  where
    by : (gives : SavingStep) → Refused gives t.saved.refusal → closes.Follows gives machine.lane machine.slot turn.room true t.saved t.took next state new → close_left state ≤ 1
    by (Send call) refused f = absurd (send-waits call next f.0 waits)
    by Wait refused f = let one = ap close_left f.1 in omega (arith, one, refused)
    by (Ended result) refused f = frees-after machine.lane machine.slot turn.room t.saved.file (refusal_of result) t.took next state new f waits

pub removes-end : (wsize : ℕ) (machine : CloseFile) (removal : Removal) (sent turn : Turn) (fault : Fault) (old : Shelf) (next : Step) (state : Closing) (new : Shelf)
    → closes.Takes (closing.Removing removal) wsize machine sent turn (Err fault) old next state new → next ≡ nexts.Wait → ⊥
removes-end wsize machine removal sent turn fault old next state new t waits = by (goes_again (remove_busy (Err fault)) sent turn old.repeats) t.ends
  where
    by : (b : Bool) → closes.EndsIf b machine.lane removal t.took next state new → ⊥
    by true e = send-waits (remove_of removal) next e.next_is waits
    by false e = done-waits (closed_answer removal.refusal) next e.next_is waits

-- ---- writes and fills

write-asked : (told : SavingStep) (next : Step) (call : Call) (refusal : Option Fault) → next ≡ writes.room_next told → next ≡ nexts.Send call → Asks told refusal → save_left refusal ≡ 1
write-asked (Send own) next call refusal is sends none = ap save_left none
write-asked Wait next call refusal is sends none = absurd (send-waits call next sends is)
write-asked (Ended (Ok done)) next call refusal is sends none = absurd (send-waits call next sends is)
write-asked (Ended (Err fault)) next call refusal is sends none = absurd (done-sends (answers.Refused fault) next call is sends)

pub write-asks : (at : Writing) (wsize lane : ℕ) (turn : Turn) (old : Shelf) (next : Step) (call : Call) (state : Writing) (after : Shelf)
    → writes.ResumesIn at wsize lane turn old next state after → next ≡ nexts.Send call → write_left at ≡ 1
write-asks writing.Idle wsize lane turn old next call state after s sends = absurd (send-waits call next sends s.gives_next)
write-asks (writing.Room file saving) wsize lane turn old next call state after s sends = by (is_first lane old.order) s
  where
    by : (b : Bool) → writes.SavesIf b wsize lane file saving turn old next state after → save_left saving.refusal ≡ 1
    by true g = write-asked g.told next call saving.refusal g.leads.gives_next sends (goes-asks wsize turn.xid turn.room false saving old.back g.told g.saved g.back g.goes)
    by false g = absurd (send-waits call next sends g.gives_next)

write-after : (told : SavingStep) (wsize : ℕ) (machine : WriteFile) (file : List ℕ) (saved : Saving) (turn : Turn) (shelf : Shelf) (next : Step) (new : Writing) (after : Shelf)
    → Refused told saved.refusal → (told ≡ Ended (Ok tt) → ⊥) → writes.Follows told wsize machine file saved turn shelf next new after → next ≡ nexts.Wait → write_left new ≡ 0
write-after (Send call) wsize machine file saved turn shelf next new after refused ill f waits = absurd (send-waits call next f.gives_next waits)
write-after Wait wsize machine file saved turn shelf next new after refused ill f waits = ap write_left f.keeps ∙ refused
write-after (Ended (Ok done)) wsize machine file saved turn shelf next new after refused ill f waits = absurd (ill refl)
write-after (Ended (Err fault)) wsize machine file saved turn shelf next new after refused ill f waits = absurd (done-waits (answers.Refused fault) next f.gives_next waits)

pub write-ends : (at : Writing) (wsize : ℕ) (machine : WriteFile) (sent turn : Turn) (fault : Fault) (old : Shelf) (next : Step) (new : Writing) (after : Shelf)
    → writes.TakesIn at wsize machine sent turn (Err fault) old next new after → next ≡ nexts.Wait → write_left new ≡ 0
write-ends writing.Idle wsize machine sent turn fault old next new after t waits = ap write_left t.keeps
write-ends (writing.Room file saving) wsize machine sent turn fault old next new after t waits =
    write-after t.told wsize machine file t.saved turn _ next new after (takes-save wsize sent turn fault old.repeats saving old.back t.told t.saved t.back t.repeats t.takes)
    (takes-ill wsize sent turn fault old.repeats saving old.back t.told t.saved t.back t.repeats t.takes) t.follows waits

-- a refusal never makes the bytes pending
write-unwritten : (told : SavingStep) (wsize : ℕ) (machine : WriteFile) (file : List ℕ) (saved : Saving) (turn : Turn) (shelf : Shelf) (next : Step) (new : Writing) (after : Shelf) (value : Value)
    → (told ≡ Ended (Ok tt) → ⊥) → writes.Follows told wsize machine file saved turn shelf next new after → next ≡ nexts.Done (answers.Done value) → ⊥
write-unwritten (Send call) wsize machine file saved turn shelf next new after value ill f done = done-sends (answers.Done value) next call done f.gives_next
write-unwritten Wait wsize machine file saved turn shelf next new after value ill f done = done-waits (answers.Done value) next done f.gives_next
write-unwritten (Ended (Ok nothing)) wsize machine file saved turn shelf next new after value ill f done = ill refl
write-unwritten (Ended (Err fault)) wsize machine file saved turn shelf next new after value ill f done =
    let no-way : nexts.Done (answers.Refused fault) ≡ nexts.Done (answers.Done value) = sym f.gives_next ∙ done in absurd cc

write-not : (at : Writing) (wsize : ℕ) (machine : WriteFile) (sent turn : Turn) (fault : Fault) (old : Shelf) (next : Step) (new : Writing) (after : Shelf) (value : Value)
    → writes.TakesIn at wsize machine sent turn (Err fault) old next new after → next ≡ nexts.Done (answers.Done value) → ⊥
write-not writing.Idle wsize machine sent turn fault old next new after value t done = done-waits (answers.Done value) next done t.gives_next
write-not (writing.Room file saving) wsize machine sent turn fault old next new after value t done =
    write-unwritten t.told wsize machine file t.saved turn _ next new after value (takes-ill wsize sent turn fault old.repeats saving old.back t.told t.saved t.back t.repeats t.takes) t.follows done

-- ---- openings

-- an opening that takes a refusal asks again or has ended
abbrev IsRefusedStep : OpeningStep → Type 0
IsRefusedStep (steps.Send call) = Unit {0}
IsRefusedStep steps.Wait = ⊥
IsRefusedStep (steps.Ended (Ok file)) = ⊥
IsRefusedStep (steps.Ended (Err fault)) = Unit {0}

opening-refused : (again : Bool) (o : Opening) (sent turn : Turn) (fault : Fault) (attrs : Attrs) (kept : Pages) (step : OpeningStep) (old new : Pages)
    → opening.LedIf again o sent turn (opening.led_on o turn.now (Err fault) attrs kept) step old new → IsRefusedStep step
opening-refused true o sent turn fault attrs kept step old new l = subst IsRefusedStep (sym l.0) tt
opening-refused false o sent turn fault attrs kept step old new l =
    let ends = known-ill o.nocto (opening.told_led o (Err fault)) turn.now attrs kept fault (led-ill o.mode o.step fault) in
    let to : opening.LedTo o sent turn (leads.Ends fault) step old new = subst (λ (led : Led). opening.LedTo o sent turn led step old new) ends l in
    subst IsRefusedStep (sym to.0) tt

pub open-ends : (m : OpenFile) (sent turn : Turn) (fault : Fault) (attrs : Attrs) (repeats : List Repeat) (next : Step) (pages later : Pages) (old new : Opens)
    → opens.OpenTakes m sent turn (Err fault) attrs repeats next pages later old new → next ≡ nexts.Wait → ⊥
open-ends m sent turn fault attrs repeats next pages later old new t waits =
    by t.step (opening-refused (opening.opening_again m.opening sent turn (Err fault) repeats) m.opening sent turn fault attrs pages t.step pages later t.led) t.follows
  where
    by : (step : OpeningStep) → IsRefusedStep step → opens.Follows m step next old new → ⊥
    by (steps.Send call) r f = send-waits call next f.0 waits
    by steps.Wait r f = r
    by (steps.Ended (Ok file)) r f = r
    by (steps.Ended (Err fault)) r f = done-waits (answers.Refused fault) next f.0 waits

-- ---- puts

pub put-asks : (at : Putting) (wsize : ℕ) (machine : PutFile) (turn : Turn) (old : Shelf) (next : Step) (call : Call) (new : PutFile) (after : Shelf)
    → puts.Resumes at wsize machine turn old next new after → next ≡ nexts.Send call → put_left at machine.write.state ≡ 1
put-asks putting.Idle wsize machine turn old next call new after s sends = absurd (send-waits call next sends s.next_is)
put-asks putting.Opens wsize machine turn old next call new after s sends = refl
put-asks (putting.Adds file) wsize machine turn old next call new after s sends = by s.told refl s.goes.follows
  where
    by : (told : Step) → s.told ≡ told → puts.AfterWrite told wsize machine.write.lane file turn s.mid next new.state after → write_left machine.write.state ≡ 1
    by (nexts.Send own) is f = write-asks machine.write.state wsize machine.write.lane turn old s.told own s.written s.mid s.resumes is
    by nexts.Wait is f = absurd (send-waits call next sends f.0)
    by (nexts.Done (answers.Done value)) is f = absurd (resumes-not machine.write.state wsize machine.write.lane turn old s.told s.written s.mid s.resumes value is)
    by (nexts.Done (answers.Refused fault)) is f = absurd (done-sends (closed_answer (Some fault)) next call f.next_is sends)
put-asks (putting.Saves saving) wsize machine turn old next call new after s sends = by (is_first machine.write.lane old.order) s.0
  where
    follows : (gives : SavingStep) (saved : Saving) (gone : Shelf) → Asks gives saving.refusal → puts.Follows gives machine.write.lane saved gone next new.state after → save_left saving.refusal ≡ 1
    follows (Send own) saved gone none f = ap save_left none
    follows Wait saved gone none f = absurd (send-waits call next sends f.0)
    follows (Ended result) saved gone none f = absurd (done-sends (closed_answer (refusal_of result)) next call f.next_is sends)

    by : (b : Bool) → puts.QueuesIf b wsize machine.write.lane turn saving old next new.state after → save_left saving.refusal ≡ 1
    by true g = follows g.gives g.saved g.gone (goes-asks wsize turn.xid turn.room false saving old.back g.gives g.saved g.gone.back g.goes) g.follows
    by false g = absurd (send-waits call next sends g.next_is)

pub put-ends : (at : Putting) (wsize : ℕ) (machine : PutFile) (sent turn : Turn) (fault : Fault) (old : Shelf) (next : Step) (new : PutFile) (after : Shelf)
    → machine.state ≡ at → puts.Takes at wsize machine sent turn (Err fault) old next new after → next ≡ nexts.Wait → put_left new.state new.write.state ≡ 0
put-ends putting.Idle wsize machine sent turn fault old next new after is t waits =
    ap (λ (m : PutFile). put_left m.state m.write.state) t.machine_is ∙ ap (λ (s : Putting). put_left s machine.write.state) is
put-ends putting.Opens wsize machine sent turn fault old next new after is t waits =
    absurd (by t.step (opening-refused (opening.opening_again machine.opening sent turn (Err fault) old.repeats) machine.opening sent turn fault t.took.attrs old.pages t.step old.pages t.took.pages t.leads) t.follows)
  where
    by : (step : OpeningStep) → IsRefusedStep step → puts.AfterOpening step wsize (puts.led (opening.opening_again machine.opening sent turn (Err fault) old.repeats) machine turn (Err fault) t.took.attrs old.pages) turn t.took next new after → ⊥
    by (steps.Send call) r f = send-waits call next f.0 waits
    by steps.Wait r f = r
    by (steps.Ended (Ok file)) r f = r
    by (steps.Ended (Err own)) r f = done-waits (answers.Refused own) next f.0 waits
put-ends (putting.Adds file) wsize machine sent turn fault old next new after is t waits = by t.told refl t.goes.follows
  where
    by : (told : Step) → t.told ≡ told → puts.AfterWrite told wsize machine.write.lane file turn t.mid next new.state after → put_left new.state new.write.state ≡ 0
    by (nexts.Send call) told f = absurd (send-waits call next f.0 waits)
    by nexts.Wait told f =
        ap (λ (s : Putting). put_left s new.write.state) f.1
        ∙ ap (λ (m : PutFile). write_left m.write.state) t.goes.machine_is
        ∙ write-ends machine.write.state wsize machine.write sent turn fault old t.told t.written t.mid t.takes told
    by (nexts.Done (answers.Done value)) told f = absurd (write-not machine.write.state wsize machine.write sent turn fault old t.told t.written t.mid value t.takes told)
    by (nexts.Done (answers.Refused own)) told f = absurd (done-waits (closed_answer (Some own)) next f.next_is waits)
put-ends (putting.Saves saving) wsize machine sent turn fault old next new after is t waits =
    by t.0.gives (takes-save wsize sent turn fault old.repeats saving old.back t.0.gives t.0.saved t.0.took.back t.0.took.repeats t.0.takes) t.0.follows
  where
    by : (gives : SavingStep) → Refused gives t.0.saved.refusal → puts.Follows gives machine.write.lane t.0.saved t.0.took next new.state after → put_left new.state new.write.state ≡ 0
    by (Send call) refused f = absurd (send-waits call next f.0 waits)
    by Wait refused f = ap (λ (s : Putting). put_left s new.write.state) f.1 ∙ refused
    by (Ended result) refused f = absurd (done-waits (closed_answer (refusal_of result)) next f.next_is waits)

-- ---- truncates

abbrev pub IsSized : Truncating → Type 0
IsSized truncating.Idle = ⊥
IsSized (truncating.Queued file upto) = ⊥
IsSized (truncating.Asked file upto) = Unit {0}

pub truncate-asks : (at : Truncating) (machine : TruncateFile) (turn : Turn) (old : Shelf) (next : Step) (call : Call) → next ≡ truncates.resumed_next at machine turn old → next ≡ nexts.Send call → IsSized (truncates.resumed_state at machine turn old)
truncate-asks truncating.Idle machine turn old next call is sends = send-waits call next sends is
truncate-asks (truncating.Queued file upto) machine turn old next call is sends = by (truncates.may_ask machine.lane file turn old) is
  where
    by : (b : Bool) → next ≡ (if b then nexts.Send (truncates.size_call file machine.size) else nexts.Wait) → IsSized (if b then truncating.Asked file upto else truncating.Queued file upto)
    by true e = tt
    by false e = send-waits call next sends e
truncate-asks (truncating.Asked file upto) machine turn old next call is sends = tt

pub truncate-ends : (at : Truncating) (machine : TruncateFile) (sent turn : Turn) (fault : Fault) (repeats : List Repeat) (next : Step) → IsSized at → next ≡ truncates.took_next at machine (Err fault) sent turn repeats → next ≡ nexts.Wait → ⊥
truncate-ends truncating.Idle machine sent turn fault repeats next sized is waits = sized
truncate-ends (truncating.Queued file upto) machine sent turn fault repeats next sized is waits = sized
truncate-ends (truncating.Asked file upto) machine sent turn fault repeats next sized is waits = by (truncates.size_again (Err fault) sent turn repeats) is
  where
    by : (b : Bool) → next ≡ truncates.ended_next b machine file (Err fault) → ⊥
    by true e = send-waits (truncates.size_call file machine.size) next e waits
    by false e = done-waits (answers.Refused fault) next e waits

-- ---- reads

abbrev pub IsAsked : ReadPhase → Type 0
IsAsked phases.Attrs = ⊥
IsAsked phases.AskedAttrs = Unit {0}
IsAsked phases.Pages = ⊥
IsAsked phases.Rest = ⊥
IsAsked (phases.Asked count) = Unit {0}
IsAsked phases.Ended = ⊥

-- a read that has asked for something
pub record HasAsked (at : Option Reading) : Type 0 where
  pub reading : Reading
  pub is : at ≡ Some reading
  pub asked : IsAsked reading.phase

asked-phase : (s : State) → IsAsked (reads.asked s).reading.phase
asked-phase s = by (reads.asks_attrs s.reading.phase)
  where
    by : (b : Bool) → IsAsked (if b then record { reading = record s.reading { phase = phases.AskedAttrs }; pages = s.pages } else reads.asked_part s).reading.phase
    by true = tt
    by false = tt

stays-sends : (p : ReadPhase) (r : Reading) (back : Pending) (next : Step) (call : Call) → reads.Stays p r back next → next ≡ nexts.Send call → ⊥
stays-sends phases.Attrs r back next call is sends = send-waits call next sends is
stays-sends phases.AskedAttrs r back next call is sends = send-waits call next sends is
stays-sends phases.Pages r back next call is sends = send-waits call next sends is
stays-sends phases.Rest r back next call is sends = send-waits call next sends is
stays-sends (phases.Asked count) r back next call is sends = send-waits call next sends is
stays-sends phases.Ended r back next call is sends = done-sends _ next call is sends

pub read-asks : (at : Option Reading) (room : Bool) (m : ReadFile) (pages : Pages) (back : Pending) (next : Step) (call : Call) (new : ReadFile) (later : Pages)
    → files.ResumesIn at room m pages back next new later → next ≡ nexts.Send call → HasAsked new.reading
read-asks None room m pages back next call new later s sends = absurd (send-waits call next sends s.step)
read-asks (Some reading) room m pages back next call new later g sends = by (reads.asks room (reads.settled reading pages)) refl g.step
  where
    goes : reads.asks room (reads.settled reading pages) ≡ true → reads.gone room (reads.settled reading pages) ≡ reads.asked (reads.settled reading pages)
    goes asks = ap
        (λ (b : Bool). if b then reads.asked (reads.settled reading pages) else record { reading = reads.answered (reads.settled reading pages).reading.phase (reads.settled reading pages).reading; pages = (reads.settled reading pages).pages })
        asks

    by : (b : Bool) → reads.asks room (reads.settled reading pages) ≡ b → reads.GoesIf b back (reads.settled reading pages) next → HasAsked new.reading
    by true asks step = record {
      reading = (reads.asked (reads.settled reading pages)).reading;
      is = ap (λ (m : ReadFile). m.reading) g.machine ∙ ap (λ (s : State). Some s.reading) (goes asks);
      asked = asked-phase (reads.settled reading pages);
    }
    by false asks step = absurd (stays-sends (reads.settled reading pages).reading.phase (reads.settled reading pages).reading back next call step sends)

again-waits : (b : Bool) (call : Call) (fault : Fault) (next : Step) → next ≡ reads.again_next b call fault → next ≡ nexts.Wait → ⊥
again-waits true call fault next is waits = send-waits call next is waits
again-waits false call fault next is waits = done-waits (answers.Refused fault) next is waits

reading-ends : (r : Reading) (sent turn : Turn) (fault : Fault) (repeats : List Repeat) (pages : Pages) (back : Pending) (next : Step) (state : State) → IsAsked r.phase → reads.Takes sent turn (Err fault) repeats r pages back next state → next ≡ nexts.Wait → ⊥
reading-ends r sent turn fault repeats pages back next state asked takes waits = by r.phase refl asked takes
  where
    by : (p : ReadPhase) → r.phase ≡ p → IsAsked p → reads.TakesIf (reads.waits_attrs p) sent turn (Err fault) repeats r pages back next state → ⊥
    by phases.Attrs is no-way t = no-way
    by phases.AskedAttrs is tried t = again-waits (goes_again (fails_busy (got_by (Err fault))) sent turn repeats) (reads.attrs_call r.file) fault next t.0 waits
    by phases.Pages is no-way t = no-way
    by phases.Rest is no-way t = no-way
    by (phases.Asked count) is tried t =
        let said : reads.TakesPart (Some (replies.refusal None fault)) sent turn repeats r pages back next state = subst (λ (q : ReadPhase). reads.TakesPart (reads.heard q (Err fault)) sent turn repeats r pages back next state) is t in
        again-waits (goes_again (replies.says_busy (replies.refusal None fault)) sent turn repeats) (reads.part_call r) fault next said.0 waits
    by phases.Ended is no-way t = no-way

pub read-ends : (at : Option Reading) (m : ReadFile) (sent turn : Turn) (fault : Fault) (repeats : List Repeat) (pages : Pages) (back : Pending) (next : Step) (new : ReadFile) (later : Pages) → HasAsked at
    → files.TakesIn at sent turn (Err fault) repeats m pages back next new later → next ≡ nexts.Wait → ⊥
read-ends at m sent turn fault repeats pages back next new later has t waits =
    let own : files.TakesFrom sent turn (Err fault) repeats m has.reading back pages next new later = subst (λ (o : Option Reading). files.TakesIn o sent turn (Err fault) repeats m pages back next new later) has.is t in
    reading-ends has.reading sent turn fault repeats pages back next own.state has.asked own.step waits
