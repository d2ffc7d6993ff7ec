-- Where the operation of a lane has a place in the order of a file, as its machine says; and that it never waits for nothing.
use Rattle.core_facts.proofs.Prelude.{◌≡◌, ◌+◌, ◌-◌, ℕ, Bool, true, false, List, Option, Some, None, Result, Ok, Err, inl, inr, refl, sym, ap, subst, ◌∙◌, arith, if◌then◌else◌, Pages, Pending, of_file, last_end, Answer, Fault, Call, Reply, goes_again, left, is_first, LaneFile, Step, Repeat, Shelf, Turn, CloseFile, Closing, Removal, OpeningStep, PutFile, Putting, ReadFile, Reading, Saving, SyncFile, Syncing, TruncateFile, Truncating, WriteFile, Writing, closed_answer, refusal_of, remove_of, file_to_write, file_at, joined, by-step, ends_as, FileMachine, of_saving, of_writing, of_syncing, of_closing, of_truncating, of_putting}
use Rattle.client_shelf.specs.LaneFiles.{added}
use Rattle.file_ops.specs.Closings.{remove_busy}
use Rattle.world_model.specs.declared.answer.Answer.TheVariants as answers
use Rattle.world_model.specs.declared.answer.Fault.TheVariants as faults
use Rattle.world_model.specs.declared.answer.Value.TheVariants as values
use Rattle.client_shelf.specs.declared.step.Step.TheVariants as nexts
use Rattle.file_ops.specs.declared.close_file.Closing.TheVariants as closing
use Rattle.file_ops.specs.declared.opening.OpeningStep.TheVariants as openings
use Rattle.file_ops.specs.declared.put_file.Putting.TheVariants as putting
use Rattle.file_ops.specs.declared.sync_file.Syncing.TheVariants as syncing
use Rattle.file_ops.specs.declared.truncate_file.Truncating.TheVariants as truncating
use Rattle.file_ops.specs.declared.write_file.Writing.TheVariants as writing
use Rattle.file_ops.specs.Closes as closes
use Rattle.file_ops.specs.OpenFile as opens
use Rattle.file_ops.specs.Opening as opening
use Rattle.file_ops.specs.PutFile as puts
use Rattle.file_ops.specs.ReadFile as reads
use Rattle.file_ops.specs.Saves as saves
use Rattle.file_ops.specs.Syncs as syncs
use Rattle.file_ops.specs.TruncateFile as truncates
use Rattle.file_ops.specs.WriteFile as writes
use Rattle.op_machines.specs.declared.file_machine.FileMachine.TheVariants as files
use Rattle.op_machines.specs.FileSteps as steps
use Rattle.core_facts.specs.InFlight.{of_file as calls_of}
use Rattle.core_facts.proofs.NameLives.{going-any}
use Rattle.core_facts.proofs.PutCounts.{of_put}
use Rattle.core_facts.proofs.SaveCommits.{goes-steps, takes-steps}
use Rattle.core_facts.proofs.SaveLives.{SaveLive, SaveGoing, begun-live, goes-live, takes-live}

-- ---- the file in whose order it has a place

abbrev pub seat_write : Writing → Option (List ℕ)
seat_write writing.Idle = None
seat_write (writing.Room file saving) = Some saving.file

abbrev pub seat_sync : Syncing → Option (List ℕ)
seat_sync syncing.Idle = None
seat_sync (syncing.Saves saving) = Some saving.file

abbrev pub seat_close : Closing → Option (List ℕ)
seat_close closing.Idle = None
seat_close (closing.Queued saving) = Some saving.file
seat_close (closing.Saves saving) = Some saving.file
seat_close (closing.ToRemove removal) = Some removal.file
seat_close (closing.Removing removal) = Some removal.file

abbrev pub seat_truncate : Truncating → Option (List ℕ)
seat_truncate truncating.Idle = None
seat_truncate (truncating.Queued file upto) = Some file
seat_truncate (truncating.Asked file upto) = Some file

abbrev pub seat_put : Putting → Writing → Option (List ℕ)
seat_put putting.Idle write = None
seat_put putting.Opens write = None
seat_put (putting.Adds file) write = seat_write write
seat_put (putting.Saves saving) write = Some saving.file

abbrev pub seat_file : FileMachine → Option (List ℕ)
seat_file (files.Open m) = None
seat_file (files.Read m) = None
seat_file (files.Write m) = seat_write m.state
seat_file (files.Sync m) = seat_sync m.state
seat_file (files.Close m) = seat_close m.state
seat_file (files.Truncate m) = seat_truncate m.state
seat_file (files.Put m) = seat_put m.state m.write.state

-- ---- it is at work

abbrev pub ReadLive : Option Reading → Type 0
ReadLive None = ⊥
ReadLive (Some reading) = Unit {0}

abbrev pub WriteLive : Writing → Type 0
WriteLive writing.Idle = ⊥
WriteLive (writing.Room file saving) = SaveLive saving

abbrev pub SyncLive : Syncing → Type 0
SyncLive syncing.Idle = ⊥
SyncLive (syncing.Saves saving) = SaveLive saving

abbrev pub CloseLive : Closing → Type 0
CloseLive closing.Idle = ⊥
CloseLive (closing.Queued saving) = SaveLive saving
CloseLive (closing.Saves saving) = SaveLive saving
CloseLive (closing.ToRemove removal) = Unit {0}
CloseLive (closing.Removing removal) = Unit {0}

abbrev pub TruncateLive : Truncating → Type 0
TruncateLive truncating.Idle = ⊥
TruncateLive (truncating.Queued file upto) = Unit {0}
TruncateLive (truncating.Asked file upto) = Unit {0}

abbrev pub PutLive : Putting → Writing → Type 0
PutLive putting.Idle write = ⊥
PutLive putting.Opens write = Unit {0}
PutLive (putting.Adds file) write = WriteLive write
PutLive (putting.Saves saving) write = SaveLive saving

-- and is of this lane, where it takes places in orders
abbrev pub FileLive : ℕ → FileMachine → Type 0
FileLive lane (files.Open m) = Unit {0}
FileLive lane (files.Read m) = ReadLive m.reading
FileLive lane (files.Write m) = (m.lane ≡ lane) × WriteLive m.state
FileLive lane (files.Sync m) = (m.lane ≡ lane) × SyncLive m.state
FileLive lane (files.Close m) = (m.lane ≡ lane) × CloseLive m.state
FileLive lane (files.Truncate m) = (m.lane ≡ lane) × TruncateLive m.state
FileLive lane (files.Put m) = (m.write.lane ≡ lane) × PutLive m.state m.write.state

-- one that has still to begin
abbrev pub FileFresh : ℕ → FileMachine → Type 0
FileFresh lane (files.Open m) = Unit {0}
FileFresh lane (files.Read m) = Unit {0}
FileFresh lane (files.Write m) = m.lane ≡ lane
FileFresh lane (files.Sync m) = m.lane ≡ lane
FileFresh lane (files.Close m) = m.lane ≡ lane
FileFresh lane (files.Truncate m) = m.lane ≡ lane
FileFresh lane (files.Put m) = m.write.lane ≡ lane

-- a save stays with its file
goes-file : (wsize xid : ℕ) (room by_reply : Bool) (s : Saving) (back : Pending) (next : _) (new : Saving) (after : Pending)
    → saves.Goes wsize xid room by_reply s back next new after → new.file ≡ s.file
goes-file wsize xid room by_reply s back next new after g =
    (goes-steps (Unit {0}) wsize xid room by_reply s back next new after (λ later. tt) g).file

takes-file : (wsize : ℕ) (sent turn : Turn) (came : Result Reply Fault) (repeats : List Repeat) (s : Saving) (back : Pending) (next : _) (new : Saving) (after : Pending)
    (later : List Repeat) (others : ℕ) → of_saving s ≡ others + 1 → saves.Takes wsize sent turn came repeats s back next new after later → new.file ≡ s.file
takes-file wsize sent turn came repeats s back next new after later others one t =
    (takes-steps (Unit {0}) wsize sent turn came repeats s back next new after later others one (λ again. tt) (λ idle verf told. tt) t).file

-- P holds of the file in whose order a lane has a place, and of the orders: a lane that leaves its place has none, and one that comes to a file,
-- leaving the place that it had, has a place there.
module _ (lane : ℕ) (P : Option (List ℕ) → List LaneFile → Type 0) (leaves : (seat : Option (List ℕ)) (order : List LaneFile) → P seat order → P None (left lane order))
    (joins : (seat : Option (List ℕ)) (file : List ℕ) (order : List LaneFile) → P seat order → P (Some file) (added (record { lane = lane; file = file }) (left lane order))) where
  -- as long as it goes on it is at work, and P holds of its place
  abbrev pub Seats : Step → Type 0 → Option (List ℕ) → List LaneFile → Type 0
  Seats (nexts.Send call) Live seat order = Live × P seat order
  Seats nexts.Wait Live seat order = Live × P seat order
  Seats (nexts.Done answer) Live seat order = P None order

  -- ---- a step that leads to a state

  pub to-send : {S : Type 0} → (Live : S → Type 0) (seat : S → Option (List ℕ)) (call : Call) (to : S) (next : Step) (new : S) (old order : List LaneFile)
      → next ≡ nexts.Send call → new ≡ to → order ≡ old → Live to → P (seat to) old → Seats next (Live new) (seat new) order
  to-send Live seat call to next new old order n s o live p = rw (n, s, o) (live, p)

  pub to-wait : {S : Type 0} → (Live : S → Type 0) (seat : S → Option (List ℕ)) (to : S) (next : Step) (new : S) (old order : List LaneFile)
      → next ≡ nexts.Wait → new ≡ to → order ≡ old → Live to → P (seat to) old → Seats next (Live new) (seat new) order
  to-wait Live seat to next new old order n s o live p = rw (n, s, o) (live, p)

  pub to-done : (answer : Answer) (next : Step) (Live : Type 0) (seat : Option (List ℕ)) (old order : List LaneFile) → next ≡ nexts.Done answer → order ≡ old → P None old
      → Seats next Live seat order
  to-done answer next Live seat old order n o p = rw (n, o) p

  -- where it has no place, whatever comes
  pub to-any : (next : Step) (Live : Type 0) (seat : Option (List ℕ)) (old order : List LaneFile) → seat ≡ None → order ≡ old → Live → P None old → Seats next Live seat order
  to-any (nexts.Send call) Live seat old order s o live p = (live, rw (s, o) p)
  to-any nexts.Wait Live seat old order s o live p = (live, rw (s, o) p)
  to-any (nexts.Done answer) Live seat old order s o live p = rw o p

  same-order : (old after : Shelf) → after ≡ old → after.order ≡ old.order
  same-order old after is = ap (λ (s : Shelf). s.order) is

  -- ---- syncs

  sync-as : (gives : _) (saved : Saving) (next : Step) (state : Syncing) (old order : List LaneFile) → next ≡ syncs.sync_next gives → state ≡ syncs.sync_state gives saved
      → order ≡ syncs.sync_order gives lane old → SaveGoing (syncs.sync_next gives) saved → P (Some saved.file) old → Seats next (SyncLive state) (seat_sync state) order
  sync-as gives saved next state old order n s o live p = by-step
      (λ g. next ≡ syncs.sync_next g → state ≡ syncs.sync_state g saved → order ≡ syncs.sync_order g lane old → SaveGoing (syncs.sync_next g) saved
      → Seats next (SyncLive state) (seat_sync state) order)
      (λ call n s o live. to-send SyncLive seat_sync call (syncing.Saves saved) next state old order n s o live p)
      (λ n s o live. to-wait SyncLive seat_sync (syncing.Saves saved) next state old order n s o live p)
      (λ result n s o live. to-done (syncs.answer_of result) next (SyncLive state) (seat_sync state) (left lane old) order n o (leaves (Some saved.file) old p)) gives n s o live

  sync-queues : (b : Bool) (wsize : ℕ) (turn : Turn) (saving : Saving) (old : Shelf) (next : Step) (state : Syncing) (new : Shelf) → SaveLive saving
      → P (Some saving.file) old.order → syncs.QueuesIf b wsize lane turn saving old next state new → Seats next (SyncLive state) (seat_sync state) new.order
  sync-queues true wsize turn saving old next state new live p q =
      sync-as q.gives q.saved next state old.order new.order q.follows.next_is q.follows.state_is q.follows.order_is
      (going-any (syncs.sync_next q.gives) (SaveLive q.saved) (goes-live wsize turn.xid turn.room false saving old.back q.gives q.saved new.back live q.goes))
      (subst (λ (f : List ℕ). P (Some f) old.order) (sym (goes-file wsize turn.xid turn.room false saving old.back q.gives q.saved new.back q.goes)) p)
  sync-queues false wsize turn saving old next state new live p q =
      to-wait SyncLive seat_sync (syncing.Saves saving) next state old.order new.order q.next_is q.state_is (same-order old new q.shelf_is) live p

  sync-starts : (found : Option (List ℕ)) (wsize : ℕ) (m : SyncFile) (turn : Turn) (old : Shelf) (next : Step) (state : Syncing) (new : Shelf) → m.lane ≡ lane
      → P None old.order → syncs.StartsAt found wsize m turn old next state new → Seats next (SyncLive state) (seat_sync state) new.order
  sync-starts None wsize m turn old next state new own p s =
      to-done (answers.Refused faults.Slot) next (SyncLive state) (seat_sync state) old.order new.order s.next_is (same-order old new s.shelf_is) p
  sync-starts (Some file) wsize m turn old next state new own p s =
      sync-queues (is_first lane (joined lane file old).order) wsize turn (saves.begun file old.seq) (joined lane file old) next state new (begun-live file old.seq)
      (joins None file old.order p)
      (subst (λ (n : ℕ). syncs.QueuesIf (is_first n (joined n file old).order) wsize n turn (saves.begun file old.seq) (joined n file old) next state new) own s)

  sync-resumes : (at : Syncing) (wsize : ℕ) (m : SyncFile) (turn : Turn) (old : Shelf) (next : Step) (state : Syncing) (new : Shelf) → m.lane ≡ lane → SyncLive at
      → P (seat_sync at) old.order → syncs.Resumes at wsize m turn old next state new → Seats next (SyncLive state) (seat_sync state) new.order
  sync-resumes syncing.Idle wsize m turn old next state new own live p r = absurd live
  sync-resumes (syncing.Saves saving) wsize m turn old next state new own live p r =
      sync-queues (is_first lane old.order) wsize turn saving old next state new live p
      (subst (λ (n : ℕ). syncs.QueuesIf (is_first n old.order) wsize n turn saving old next state new) own r)

  sync-takes : (at : Syncing) (wsize : ℕ) (m : SyncFile) (sent turn : Turn) (came : Result Reply Fault) (old : Shelf) (next : Step) (state : Syncing) (new : Shelf) (others : ℕ)
      → m.lane ≡ lane → SyncLive at → of_syncing at ≡ others + 1 → P (seat_sync at) old.order → syncs.Takes at wsize m sent turn came old next state new
      → Seats next (SyncLive state) (seat_sync state) new.order
  sync-takes syncing.Idle wsize m sent turn came old next state new others own live one p t = absurd live
  sync-takes (syncing.Saves saving) wsize m sent turn came old next state new others own live one p t =
      sync-as t.gives t.saved next state old.order new.order t.follows.next_is t.follows.state_is
      (t.follows.order_is ∙ ap (λ (n : ℕ). syncs.sync_order t.gives n old.order) own)
      (takes-live wsize sent turn came old.repeats saving old.back t.gives t.saved new.back new.repeats live t.takes)
      (subst (λ (f : List ℕ). P (Some f) old.order)
      (sym (takes-file wsize sent turn came old.repeats saving old.back t.gives t.saved new.back new.repeats others one t.takes)) p)

  -- ---- closes

  close-ends : (file : List ℕ) (refusal : Option Fault) (old : Shelf) (next : Step) (state : Closing) (new : Shelf) → P (Some file) old.order
      → closes.Ends lane file refusal old next state new → Seats next (CloseLive state) (seat_close state) new.order
  close-ends file refusal old next state new p e =
      to-done (closed_answer refusal) next (CloseLive state) (seat_close state) (left lane old.order) new.order e.next_is (ap (λ (s : Shelf). s.order) e.others)
      (leaves (Some file) old.order p)

  close-asks : (room : Bool) (removal : Removal) (old : Shelf) (next : Step) (state : Closing) (new : Shelf) → P (Some removal.file) old.order
      → closes.Asks room removal old next state new → Seats next (CloseLive state) (seat_close state) new.order
  close-asks true removal old next state new p a =
      to-send CloseLive seat_close (remove_of removal) (closing.Removing removal) next state old.order new.order a.next_is a.state_is (same-order old new a.shelf_is) tt p
  close-asks false removal old next state new p a =
      to-wait CloseLive seat_close (closing.ToRemove removal) next state old.order new.order a.next_is a.state_is (same-order old new a.shelf_is) tt p

  close-ends-at : (place : Option (List ℕ × List ℕ)) (room : Bool) (file : List ℕ) (refusal : Option Fault) (old : Shelf) (next : Step) (state : Closing) (new : Shelf)
      → P (Some file) old.order → closes.EndsAt place lane room file refusal old next state new → Seats next (CloseLive state) (seat_close state) new.order
  close-ends-at None room file refusal old next state new p e = close-ends file refusal old next state new p e
  close-ends-at (Some place) room file refusal old next state new p e =
      close-asks room (record { file = file; dir = place.0; name = place.1; refusal = refusal }) old next state new p e

  close-frees : (slot : ℕ) (room : Bool) (file : List ℕ) (refusal : Option Fault) (old : Shelf) (next : Step) (state : Closing) (new : Shelf) → P (Some file) old.order
      → closes.Frees lane slot room file refusal old next state new → Seats next (CloseLive state) (seat_close state) new.order
  close-frees slot room file refusal old next state new p f =
      close-ends-at f.place room file refusal f.freed next state new
      (subst (λ (order : List LaneFile). P (Some file) order) (sym (ap (λ (s : Shelf). s.order) f.slot_is)) p) f.ends

  close-waits : (begun : Bool) (saving : Saving) (next : Step) (state : Closing) (old order : List LaneFile) → next ≡ nexts.Wait → state ≡ closes.waits_as begun saving
      → order ≡ old → SaveLive saving → P (Some saving.file) old → Seats next (CloseLive state) (seat_close state) order
  close-waits true saving next state old order n s o live p = to-wait CloseLive seat_close (closing.Saves saving) next state old order n s o live p
  close-waits false saving next state old order n s o live p = to-wait CloseLive seat_close (closing.Queued saving) next state old order n s o live p

  close-follows : (gives : _) (slot : ℕ) (room begun : Bool) (saving : Saving) (old : Shelf) (next : Step) (state : Closing) (new : Shelf)
      → SaveGoing (syncs.sync_next gives) saving → P (Some saving.file) old.order → closes.Follows gives lane slot room begun saving old next state new
      → Seats next (CloseLive state) (seat_close state) new.order
  close-follows gives slot room begun saving old next state new live p f = by-step
      (λ g. SaveGoing (syncs.sync_next g) saving → closes.Follows g lane slot room begun saving old next state new → Seats next (CloseLive state) (seat_close state) new.order)
      (λ call live f. to-send CloseLive seat_close call (closing.Saves saving) next state old.order new.order f.0 f.1 (same-order old new f.2) live p)
      (λ live f. close-waits begun saving next state old.order new.order f.0 f.1 (same-order old new f.2) live p)
      (λ result live f. close-frees slot room saving.file (refusal_of result) old next state new p f) gives live f

  close-on : (wsize slot : ℕ) (turn : Turn) (begun : Bool) (saving : Saving) (old : Shelf) (next : Step) (state : Closing) (new : Shelf) → SaveLive saving
      → P (Some saving.file) old.order → closes.GoesOn wsize lane slot turn begun saving old next state new → Seats next (CloseLive state) (seat_close state) new.order
  close-on wsize slot turn begun saving old next state new live p g =
      close-follows g.gives slot turn.room begun g.saved g.gone next state new
      (going-any (syncs.sync_next g.gives) (SaveLive g.saved) (goes-live wsize turn.xid turn.room false saving old.back g.gives g.saved g.gone.back live g.goes))
      (subst (λ (order : List LaneFile). P (Some g.saved.file) order) (sym (ap (λ (s : Shelf). s.order) g.others))
      (subst (λ (f : List ℕ). P (Some f) old.order) (sym (goes-file wsize turn.xid turn.room false saving old.back g.gives g.saved g.gone.back g.goes)) p)) g.follows

  close-begins : (end : Option ℕ) (wsize slot : ℕ) (turn : Turn) (saving : Saving) (old : Shelf) (next : Step) (state : Closing) (new : Shelf) → SaveLive saving
      → P (Some saving.file) old.order → closes.Begins end wsize lane slot turn saving old next state new → Seats next (CloseLive state) (seat_close state) new.order
  close-begins None wsize slot turn saving old next state new live p b = close-frees slot turn.room saving.file None old next state new p b
  close-begins (Some end) wsize slot turn saving old next state new live p b = close-on wsize slot turn false saving old next state new live p b

  close-queues : (b : Bool) (wsize slot : ℕ) (turn : Turn) (saving : Saving) (old : Shelf) (next : Step) (state : Closing) (new : Shelf) → SaveLive saving
      → P (Some saving.file) old.order → closes.QueuesIf b wsize lane slot turn saving old next state new → Seats next (CloseLive state) (seat_close state) new.order
  close-queues true wsize slot turn saving old next state new live p q =
      close-begins (last_end (of_file saving.file old.back).segments) wsize slot turn saving old next state new live p q
  close-queues false wsize slot turn saving old next state new live p q =
      to-wait CloseLive seat_close (closing.Queued saving) next state old.order new.order q.next_is q.state_is (same-order old new q.shelf_is) live p

  close-on-if : (b : Bool) (wsize slot : ℕ) (turn : Turn) (saving : Saving) (old : Shelf) (next : Step) (state : Closing) (new : Shelf) → SaveLive saving
      → P (Some saving.file) old.order → closes.GoesOnIf b wsize lane slot turn saving old next state new → Seats next (CloseLive state) (seat_close state) new.order
  close-on-if true wsize slot turn saving old next state new live p g = close-on wsize slot turn true saving old next state new live p g
  close-on-if false wsize slot turn saving old next state new live p g =
      to-wait CloseLive seat_close (closing.Saves saving) next state old.order new.order g.next_is g.state_is (same-order old new g.shelf_is) live p

  close-starts : (found : Option (List ℕ)) (wsize : ℕ) (m : CloseFile) (turn : Turn) (old : Shelf) (next : Step) (state : Closing) (new : Shelf) → m.lane ≡ lane
      → P None old.order → closes.StartsAt found wsize m turn old next state new → Seats next (CloseLive state) (seat_close state) new.order
  close-starts None wsize m turn old next state new own p s =
      to-done (answers.Refused faults.Slot) next (CloseLive state) (seat_close state) old.order new.order s.next_is (same-order old new s.shelf_is) p
  close-starts (Some file) wsize m turn old next state new own p s =
      close-queues (is_first lane (joined lane file old).order) wsize m.slot turn (saves.begun file old.seq) (joined lane file old) next state new
      (begun-live file old.seq) (joins None file old.order p)
      (subst (λ (n : ℕ). closes.QueuesIf (is_first n (joined n file old).order) wsize n m.slot turn (saves.begun file old.seq) (joined n file old) next state new) own s)

  close-resumes : (at : Closing) (wsize : ℕ) (m : CloseFile) (turn : Turn) (old : Shelf) (next : Step) (state : Closing) (new : Shelf) → m.lane ≡ lane → CloseLive at
      → P (seat_close at) old.order → closes.Resumes at wsize m turn old next state new → Seats next (CloseLive state) (seat_close state) new.order
  close-resumes closing.Idle wsize m turn old next state new own live p r = absurd live
  close-resumes (closing.Queued saving) wsize m turn old next state new own live p r =
      close-queues (is_first lane old.order) wsize m.slot turn saving old next state new live p
      (subst (λ (n : ℕ). closes.QueuesIf (is_first n old.order) wsize n m.slot turn saving old next state new) own r)
  close-resumes (closing.Saves saving) wsize m turn old next state new own live p r =
      close-on-if (is_first lane old.order) wsize m.slot turn saving old next state new live p
      (subst (λ (n : ℕ). closes.GoesOnIf (is_first n old.order) wsize n m.slot turn saving old next state new) own r)
  close-resumes (closing.ToRemove removal) wsize m turn old next state new own live p r = close-asks turn.room removal old next state new p r
  close-resumes (closing.Removing removal) wsize m turn old next state new own live p r =
      to-wait CloseLive seat_close (closing.Removing removal) next state old.order new.order r.next_is r.state_is (same-order old new r.shelf_is) tt p

  close-removed : (again : Bool) (removal : Removal) (old : Shelf) (next : Step) (state : Closing) (new : Shelf) → P (Some removal.file) old.order
      → closes.EndsIf again lane removal old next state new → Seats next (CloseLive state) (seat_close state) new.order
  close-removed true removal old next state new p e =
      to-send CloseLive seat_close (remove_of removal) (closing.Removing removal) next state old.order new.order e.next_is e.state_is (same-order old new e.shelf_is) tt p
  close-removed false removal old next state new p e = close-ends removal.file removal.refusal old next state new p e

  close-takes : (at : Closing) (wsize : ℕ) (m : CloseFile) (sent turn : Turn) (came : Result Reply Fault) (old : Shelf) (next : Step) (state : Closing) (new : Shelf)
      (others : ℕ) → m.lane ≡ lane → CloseLive at → of_closing at ≡ others + 1 → P (seat_close at) old.order → closes.Takes at wsize m sent turn came old next state new
      → Seats next (CloseLive state) (seat_close state) new.order
  close-takes closing.Idle wsize m sent turn came old next state new others own live one p t = absurd live
  close-takes (closing.Queued saving) wsize m sent turn came old next state new others own live one p t = absurd (omega (arith, one))
  close-takes (closing.Saves saving) wsize m sent turn came old next state new others own live one p t =
      close-follows t.gives m.slot turn.room true t.saved t.took next state new
      (takes-live wsize sent turn came old.repeats saving old.back t.gives t.saved t.took.back t.took.repeats live t.takes)
      (subst (λ (order : List LaneFile). P (Some t.saved.file) order) (sym (ap (λ (s : Shelf). s.order) t.others))
      (subst (λ (f : List ℕ). P (Some f) old.order)
      (sym (takes-file wsize sent turn came old.repeats saving old.back t.gives t.saved t.took.back t.took.repeats others one t.takes)) p))
      (subst (λ (n : ℕ). closes.Follows t.gives n m.slot turn.room true t.saved t.took next state new) own t.follows)
  close-takes (closing.ToRemove removal) wsize m sent turn came old next state new others own live one p t = absurd (omega (arith, one))
  close-takes (closing.Removing removal) wsize m sent turn came old next state new others own live one p t =
      close-removed (goes_again (remove_busy came) sent turn old.repeats) removal t.took next state new
      (subst (λ (order : List LaneFile). P (Some removal.file) order) (sym (ap (λ (s : Shelf). s.order) t.others)) p)
      (subst (λ (n : ℕ). closes.EndsIf (goes_again (remove_busy came) sent turn old.repeats) n removal t.took next state new) own t.ends)

  -- ---- truncates

  truncate-queued : (b : Bool) (call : Call) (file : List ℕ) (upto : ℕ) (next : Step) (state : Truncating) (old order : List LaneFile)
      → next ≡ (if b then nexts.Send call else nexts.Wait) → state ≡ (if b then truncating.Asked file upto else truncating.Queued file upto) → order ≡ old → P (Some file) old
      → Seats next (TruncateLive state) (seat_truncate state) order
  truncate-queued true call file upto next state old order n s o p = to-send TruncateLive seat_truncate call (truncating.Asked file upto) next state old order n s o tt p
  truncate-queued false call file upto next state old order n s o p = to-wait TruncateLive seat_truncate (truncating.Queued file upto) next state old order n s o tt p

  truncate-starts : (found : Result (List ℕ) Fault) (m : TruncateFile) (turn : Turn) (old : Shelf) (next : Step) (state : Truncating) (after : Shelf) → m.lane ≡ lane
      → P None old.order → next ≡ truncates.begun_next found m turn old → state ≡ truncates.begun_state found m turn old → after ≡ truncates.begun_shelf found m old
      → Seats next (TruncateLive state) (seat_truncate state) after.order
  truncate-starts (Ok file) m turn old next state after own p n s a =
      truncate-queued (truncates.may_ask m.lane file turn (joined m.lane file old)) (truncates.size_call file m.size) file old.seq next state (joined lane file old).order
      after.order n s (ap (λ (k : Shelf). k.order) a ∙ ap (λ (k : ℕ). (joined k file old).order) own) (joins None file old.order p)
  truncate-starts (Err fault) m turn old next state after own p n s a =
      to-done (answers.Refused fault) next (TruncateLive state) (seat_truncate state) old.order after.order n (same-order old after a) p

  truncate-resumes : (at : Truncating) (m : TruncateFile) (turn : Turn) (old : Shelf) (next : Step) (state : Truncating) (after : Shelf) → TruncateLive at
      → P (seat_truncate at) old.order → next ≡ truncates.resumed_next at m turn old → state ≡ truncates.resumed_state at m turn old → after ≡ old
      → Seats next (TruncateLive state) (seat_truncate state) after.order
  truncate-resumes truncating.Idle m turn old next state after live p n s a = absurd live
  truncate-resumes (truncating.Queued file upto) m turn old next state after live p n s a =
      truncate-queued (truncates.may_ask m.lane file turn old) (truncates.size_call file m.size) file upto next state old.order after.order n s (same-order old after a) p
  truncate-resumes (truncating.Asked file upto) m turn old next state after live p n s a =
      to-wait TruncateLive seat_truncate (truncating.Asked file upto) next state old.order after.order n s (same-order old after a) tt p

  truncate-told : (told : Result _ Fault) (next : Step) (Live : Type 0) (seat : Option (List ℕ)) (old order : List LaneFile) → next ≡ truncates.told_next told → order ≡ old
      → P None old → Seats next Live seat order
  truncate-told (Ok wcc) next Live seat old order n o p = to-done _ next Live seat old order n o p
  truncate-told (Err fault) next Live seat old order n o p = to-done _ next Live seat old order n o p

  truncate-ended : (again : Bool) (m : TruncateFile) (file : List ℕ) (upto : ℕ) (came : Result Reply Fault) (old : List LaneFile) (next : Step) (state : Truncating)
      (order : List LaneFile) → m.lane ≡ lane → P (Some file) old → next ≡ truncates.ended_next again m file came
      → state ≡ truncates.ended_state again (truncating.Asked file upto) → order ≡ truncates.ended_order again m.lane old
      → Seats next (TruncateLive state) (seat_truncate state) order
  truncate-ended true m file upto came old next state order own p n s o =
      to-send TruncateLive seat_truncate (truncates.size_call file m.size) (truncating.Asked file upto) next state old order n s o tt p
  truncate-ended false m file upto came old next state order own p n s o =
      truncate-told (truncates.size_told came) next (TruncateLive state) (seat_truncate state) (left lane old) order n (o ∙ ap (λ (k : ℕ). left k old) own)
      (leaves (Some file) old p)

  truncate-takes : (at : Truncating) (m : TruncateFile) (sent turn : Turn) (came : Result Reply Fault) (attrs : _) (back : Pending) (old : Shelf) (next : Step)
      (state : Truncating) (after : Shelf) (others : ℕ) → m.lane ≡ lane → TruncateLive at → of_truncating at ≡ others + 1 → P (seat_truncate at) old.order
      → next ≡ truncates.took_next at m came sent turn old.repeats → state ≡ truncates.took_state at came sent turn old.repeats
      → after ≡ truncates.took_shelf at m came sent turn attrs back old → Seats next (TruncateLive state) (seat_truncate state) after.order
  truncate-takes truncating.Idle m sent turn came attrs back old next state after others own live one p n s a = absurd live
  truncate-takes (truncating.Queued file upto) m sent turn came attrs back old next state after others own live one p n s a = absurd (omega (arith, one))
  truncate-takes (truncating.Asked file upto) m sent turn came attrs back old next state after others own live one p n s a =
      truncate-ended (truncates.size_again came sent turn old.repeats) m file upto came old.order next state after.order own p n s (ap (λ (k : Shelf). k.order) a)

  -- ---- writes

  write-to : (to : Step) (state : Writing) (shelf : Shelf) (next : Step) (new : Writing) (after : Shelf) → writes.Leads to state shelf next new after
      → Seats to (WriteLive state) (seat_write state) shelf.order → Seats next (WriteLive new) (seat_write new) after.order
  write-to to state shelf next new after l s = rw (l.gives_next, l.keeps, same-order shelf after l.shelf_is) s

  write-refuses : (fault : Fault) (shelf : Shelf) (next : Step) (new : Writing) (after : Shelf) → P None shelf.order → writes.Refuses fault shelf next new after
      → Seats next (WriteLive new) (seat_write new) after.order
  write-refuses fault shelf next new after p l =
      to-done (answers.Refused fault) next (WriteLive new) (seat_write new) shelf.order after.order l.gives_next (same-order shelf after l.shelf_is) p

  -- a save for room, which is one of this file
  room-as : (gives : _) (file : List ℕ) (saved : Saving) (shelf : Shelf) (next : Step) (new : Writing) (after : Shelf) → SaveLive saved → P (Some saved.file) shelf.order
      → writes.Leads (writes.room_next gives) (writes.room_state gives file saved) (writes.room_shelf gives lane shelf) next new after
      → Seats next (WriteLive new) (seat_write new) after.order
  room-as gives file saved shelf next new after live p l = by-step
      (λ g. writes.Leads (writes.room_next g) (writes.room_state g file saved) (writes.room_shelf g lane shelf) next new after → Seats next (WriteLive new) (seat_write new) after.order)
      (λ call l. to-send WriteLive seat_write call (writing.Room file saved) next new shelf.order after.order l.gives_next l.keeps (same-order shelf after l.shelf_is) live p)
      (λ l. to-wait WriteLive seat_write (writing.Room file saved) next new shelf.order after.order l.gives_next l.keeps (same-order shelf after l.shelf_is) live p)
      ended gives l
    where
      ended : (result : Result (Unit {0}) Fault)
          → writes.Leads (writes.room_next (ends_as result)) (writes.room_state (ends_as result) file saved) (writes.room_shelf (ends_as result) lane shelf) next new after
          → Seats next (WriteLive new) (seat_write new) after.order
      ended (Ok done) l =
          to-wait WriteLive seat_write (writing.Room file saved) next new shelf.order after.order l.gives_next l.keeps (same-order shelf after l.shelf_is) live p
      ended (Err fault) l =
          to-done (answers.Refused fault) next (WriteLive new) (seat_write new) (left lane shelf.order) after.order l.gives_next (ap (λ (s : Shelf). s.order) l.shelf_is)
          (leaves (Some saved.file) shelf.order p)

  write-saves : (b : Bool) (wsize : ℕ) (file : List ℕ) (saving : Saving) (turn : Turn) (shelf : Shelf) (next : Step) (new : Writing) (after : Shelf) → SaveLive saving
      → P (Some saving.file) shelf.order → writes.SavesIf b wsize lane file saving turn shelf next new after → Seats next (WriteLive new) (seat_write new) after.order
  write-saves true wsize file saving turn shelf next new after live p s =
      room-as s.told file s.saved (record shelf { back = s.back }) next new after
      (goes-live wsize turn.xid turn.room false saving shelf.back s.told s.saved s.back live s.goes)
      (subst (λ (f : List ℕ). P (Some f) shelf.order) (sym (goes-file wsize turn.xid turn.room false saving shelf.back s.told s.saved s.back s.goes)) p) s.leads
  write-saves false wsize file saving turn shelf next new after live p s =
      to-wait WriteLive seat_write (writing.Room file saving) next new shelf.order after.order s.gives_next s.keeps (same-order shelf after s.shelf_is) live p

  write-if : (b : Bool) (wsize : ℕ) (file : List ℕ) (offset : ℕ) (bytes : List ℕ) (turn : Turn) (shelf : Shelf) (next : Step) (new : Writing) (after : Shelf)
      → P None shelf.order → writes.WritesIf b wsize lane file offset bytes turn shelf next new after → Seats next (WriteLive new) (seat_write new) after.order
  write-if true wsize file offset bytes turn shelf next new after p (inl s) =
      write-saves (is_first lane (joined lane s.of shelf).order) wsize file (saves.begun s.of shelf.seq) turn (joined lane s.of shelf) next new after
      (begun-live s.of shelf.seq) (joins None s.of shelf.order p) s.saves
  write-if true wsize file offset bytes turn shelf next new after p (inr s) = write-refuses faults.Memory shelf next new after p s.1
  write-if false wsize file offset bytes turn shelf next new after p (inl s) =
      to-done (answers.Done values.Nothing) next (WriteLive new) (seat_write new) shelf.order after.order s.leads.gives_next (ap (λ (k : Shelf). k.order) s.leads.shelf_is) p
  write-if false wsize file offset bytes turn shelf next new after p (inr s) = write-refuses faults.Memory shelf next new after p s

  -- the bytes become pending, or room is made for them
  pub write-writes : (wsize : ℕ) (file : List ℕ) (offset : ℕ) (bytes : List ℕ) (turn : Turn) (shelf : Shelf) (next : Step) (new : Writing) (after : Shelf)
      → P None shelf.order → writes.Writes wsize lane file offset bytes turn shelf next new after → Seats next (WriteLive new) (seat_write new) after.order
  write-writes wsize file offset bytes turn shelf next new after p w = write-if _ wsize file offset bytes turn shelf next new after p w

  write-starts : (found : Result (List ℕ) Fault) (wsize : ℕ) (m : WriteFile) (turn : Turn) (shelf : Shelf) (next : Step) (new : WriteFile) (after : Shelf) → m.lane ≡ lane
      → P None shelf.order → writes.StartsAt found wsize m turn shelf next new after → Seats next (WriteLive new.state) (seat_write new.state) after.order
  write-starts (Err fault) wsize m turn shelf next new after own p s = write-refuses fault shelf next new.state after p s.refuses
  write-starts (Ok file) wsize m turn shelf next new after own p (inl s) =
      write-writes wsize file m.offset (writes.text_bytes m.text) turn shelf next new.state after p
      (subst (λ (n : ℕ). writes.Writes wsize n file m.offset (writes.text_bytes m.text) turn shelf next new.state after) own s.writes)
  write-starts (Ok file) wsize m turn shelf next new after own p (inr s) = write-refuses faults.Memory shelf next new.state after p s.refuses

  write-lane : (found : Result (List ℕ) Fault) (wsize : ℕ) (m : WriteFile) (turn : Turn) (shelf : Shelf) (next : Step) (new : WriteFile) (after : Shelf)
      → writes.StartsAt found wsize m turn shelf next new after → new.lane ≡ m.lane
  write-lane (Err fault) wsize m turn shelf next new after s = ap (λ (k : WriteFile). k.lane) s.text
  write-lane (Ok file) wsize m turn shelf next new after (inl s) = ap (λ (k : WriteFile). k.lane) s.text
  write-lane (Ok file) wsize m turn shelf next new after (inr s) = ap (λ (k : WriteFile). k.lane) s.text

  pub write-resumes : (at : Writing) (wsize : ℕ) (turn : Turn) (shelf : Shelf) (next : Step) (new : Writing) (after : Shelf) → WriteLive at → P (seat_write at) shelf.order
      → writes.ResumesIn at wsize lane turn shelf next new after → Seats next (WriteLive new) (seat_write new) after.order
  write-resumes writing.Idle wsize turn shelf next new after live p r = absurd live
  write-resumes (writing.Room file saving) wsize turn shelf next new after live p r =
      write-saves (is_first lane shelf.order) wsize file saving turn shelf next new after live p r

  write-follows : (gives : _) (wsize : ℕ) (m : WriteFile) (file : List ℕ) (saved : Saving) (turn : Turn) (shelf : Shelf) (next : Step) (new : Writing) (after : Shelf)
      → m.lane ≡ lane → SaveGoing (syncs.sync_next gives) saved → P (Some saved.file) shelf.order → writes.Follows gives wsize m file saved turn shelf next new after
      → Seats next (WriteLive new) (seat_write new) after.order
  write-follows gives wsize m file saved turn shelf next new after own live p f = by-step
      (λ g. SaveGoing (syncs.sync_next g) saved → writes.Follows g wsize m file saved turn shelf next new after → Seats next (WriteLive new) (seat_write new) after.order)
      (λ call live l. to-send WriteLive seat_write call (writing.Room file saved) next new shelf.order after.order l.gives_next l.keeps (same-order shelf after l.shelf_is) live p)
      (λ live l. to-wait WriteLive seat_write (writing.Room file saved) next new shelf.order after.order l.gives_next l.keeps (same-order shelf after l.shelf_is) live p)
      ended gives live f
    where
      ended : (result : Result (Unit {0}) Fault) → SaveGoing (syncs.sync_next (ends_as result)) saved
          → writes.Follows (ends_as result) wsize m file saved turn shelf next new after → Seats next (WriteLive new) (seat_write new) after.order
      ended (Ok done) live l =
          write-writes wsize file m.offset (writes.made_bytes m.text) turn (record shelf { order = left lane shelf.order }) next new after (leaves (Some saved.file) shelf.order p)
          (subst (λ (n : ℕ). writes.Writes wsize n file m.offset (writes.made_bytes m.text) turn (record shelf { order = left n shelf.order }) next new after) own l)
      ended (Err fault) live l =
          to-done (answers.Refused fault) next (WriteLive new) (seat_write new) (left lane shelf.order) after.order l.gives_next
          (ap (λ (s : Shelf). s.order) l.shelf_is ∙ ap (λ (n : ℕ). left n shelf.order) own) (leaves (Some saved.file) shelf.order p)

  pub write-takes : (at : Writing) (wsize : ℕ) (m : WriteFile) (sent turn : Turn) (came : Result Reply Fault) (shelf : Shelf) (next : Step) (new : Writing) (after : Shelf)
      (others : ℕ) → m.lane ≡ lane → WriteLive at → of_writing at ≡ others + 1 → P (seat_write at) shelf.order
      → writes.TakesIn at wsize m sent turn came shelf next new after → Seats next (WriteLive new) (seat_write new) after.order
  write-takes writing.Idle wsize m sent turn came shelf next new after others own live one p t = absurd live
  write-takes (writing.Room file saving) wsize m sent turn came shelf next new after others own live one p t =
      write-follows t.told wsize m file t.saved turn _ next new after own
      (takes-live wsize sent turn came shelf.repeats saving shelf.back t.told t.saved t.back t.repeats live t.takes)
      (subst (λ (f : List ℕ). P (Some f) shelf.order)
      (sym (takes-file wsize sent turn came shelf.repeats saving shelf.back t.told t.saved t.back t.repeats others one t.takes)) p) t.follows

  -- ---- puts

  abbrev pub PutSeats : Step → Writing → Putting → List LaneFile → Type 0
  PutSeats next write state order = Seats next (PutLive state write) (seat_put state write) order

  put-send : (call : Call) (write : Writing) (to : Putting) (next : Step) (state : Putting) (old order : List LaneFile) → next ≡ nexts.Send call → state ≡ to → order ≡ old
      → PutLive to write → P (seat_put to write) old → PutSeats next write state order
  put-send call write to next state old order n s o live p = to-send (λ t. PutLive t write) (λ t. seat_put t write) call to next state old order n s o live p

  put-wait : (write : Writing) (to : Putting) (next : Step) (state : Putting) (old order : List LaneFile) → next ≡ nexts.Wait → state ≡ to → order ≡ old
      → PutLive to write → P (seat_put to write) old → PutSeats next write state order
  put-wait write to next state old order n s o live p = to-wait (λ t. PutLive t write) (λ t. seat_put t write) to next state old order n s o live p

  put-ends : (write : Writing) (seat : Option (List ℕ)) (file : List ℕ) (refusal : Option Fault) (old : Shelf) (next : Step) (state : Putting) (new : Shelf) → P seat old.order
      → puts.Ends lane file refusal old next state new → PutSeats next write state new.order
  put-ends write seat file refusal old next state new p e =
      to-done (closed_answer refusal) next (PutLive state write) (seat_put state write) (left lane old.order) new.order e.next_is (ap (λ (s : Shelf). s.order) e.others)
      (leaves seat old.order p)

  put-follows : (gives : _) (write : Writing) (saving : Saving) (old : Shelf) (next : Step) (state : Putting) (new : Shelf) → SaveGoing (syncs.sync_next gives) saving
      → P (Some saving.file) old.order → puts.Follows gives lane saving old next state new → PutSeats next write state new.order
  put-follows gives write saving old next state new live p f = by-step
      (λ g. SaveGoing (syncs.sync_next g) saving → puts.Follows g lane saving old next state new → PutSeats next write state new.order)
      (λ call live f. put-send call write (putting.Saves saving) next state old.order new.order f.0 f.1 (same-order old new f.2) live p)
      (λ live f. put-wait write (putting.Saves saving) next state old.order new.order f.0 f.1 (same-order old new f.2) live p)
      (λ result live f. put-ends write (Some saving.file) saving.file (refusal_of result) old next state new p f) gives live f

  put-queues : (b : Bool) (wsize : ℕ) (turn : Turn) (write : Writing) (saving : Saving) (old : Shelf) (next : Step) (state : Putting) (new : Shelf) → SaveLive saving
      → P (Some saving.file) old.order → puts.QueuesIf b wsize lane turn saving old next state new → PutSeats next write state new.order
  put-queues true wsize turn write saving old next state new live p q =
      put-follows q.gives write q.saved q.gone next state new
      (going-any (syncs.sync_next q.gives) (SaveLive q.saved) (goes-live wsize turn.xid turn.room false saving old.back q.gives q.saved q.gone.back live q.goes))
      (subst (λ (order : List LaneFile). P (Some q.saved.file) order) (sym (ap (λ (s : Shelf). s.order) q.others))
      (subst (λ (f : List ℕ). P (Some f) old.order) (sym (goes-file wsize turn.xid turn.room false saving old.back q.gives q.saved q.gone.back q.goes)) p)) q.follows
  put-queues false wsize turn write saving old next state new live p q =
      put-wait write (putting.Saves saving) next state old.order new.order q.next_is q.state_is (same-order old new q.shelf_is) live p

  -- after a step of its write
  after-write : (told : Step) (wsize : ℕ) (write : Writing) (file : List ℕ) (turn : Turn) (old : Shelf) (next : Step) (state : Putting) (new : Shelf)
      → Seats told (WriteLive write) (seat_write write) old.order → puts.AfterWrite told wsize lane file turn old next state new → PutSeats next write state new.order
  after-write (nexts.Send call) wsize write file turn old next state new s a =
      put-send call write (putting.Adds file) next state old.order new.order a.0 a.1 (same-order old new a.2) s.0 s.1
  after-write nexts.Wait wsize write file turn old next state new s a = put-wait write (putting.Adds file) next state old.order new.order a.0 a.1 (same-order old new a.2) s.0 s.1
  after-write (nexts.Done (answers.Done value)) wsize write file turn old next state new s a =
      put-queues (is_first lane (joined lane file old).order) wsize turn write (saves.begun file old.seq) (joined lane file old) next state new (begun-live file old.seq)
      (joins None file old.order s) a
  after-write (nexts.Done (answers.Refused fault)) wsize write file turn old next state new s a = put-ends write None file (Some fault) old next state new s a

  abbrev pub PutLives : PutFile → Type 0
  PutLives m = (m.write.lane ≡ lane) × PutLive m.state m.write.state

  abbrev pub OfPut : Step → PutFile → List LaneFile → Type 0
  OfPut next m order = Seats next (PutLives m) (seat_put m.state m.write.state) order

  with-lane : (next : Step) (m : PutFile) (order : List LaneFile) → m.write.lane ≡ lane → PutSeats next m.write.state m.state order → OfPut next m order
  with-lane (nexts.Send call) m order own s = ((own, s.0), s.1)
  with-lane nexts.Wait m order own s = ((own, s.0), s.1)
  with-lane (nexts.Done answer) m order own s = s

  writes-on : (wsize : ℕ) (m : PutFile) (file : List ℕ) (turn : Turn) (told : Step) (written : Writing) (mid : Shelf) (next : Step) (new : PutFile) (after : Shelf)
      → m.write.lane ≡ lane → Seats told (WriteLive written) (seat_write written) mid.order → puts.WritesOn wsize m file turn told written mid next new after
      → OfPut next new after.order
  writes-on wsize m file turn told written mid next new after own s w =
      let of : new.write ≡ record m.write { state = written } = ap (λ (p : PutFile). p.write) w.machine_is in
      with-lane next new after.order (ap (λ (p : WriteFile). p.lane) of ∙ own)
      (subst (λ (p : WriteFile). PutSeats next p.state new.state after.order) (sym of)
      (after-write told wsize written file turn mid next new.state after s
      (subst (λ (n : ℕ). puts.AfterWrite told wsize n file turn mid next new.state after) own w.follows)))

  -- while it is opened it has no place
  opens-any : (m : PutFile) (old : List LaneFile) (next : Step) (new : PutFile) (order : List LaneFile) → new.write ≡ m.write → new.state ≡ putting.Opens → order ≡ old
      → m.write.lane ≡ lane → P None old → OfPut next new order
  opens-any m old next new order w s o own p =
      to-any next (PutLives new) (seat_put new.state new.write.state) old order (ap (λ (t : Putting). seat_put t new.write.state) s) o
      (ap (λ (k : WriteFile). k.lane) w ∙ own, subst (λ (t : Putting). PutLive t new.write.state) (sym s) tt) p

  after-opening : (step : OpeningStep) (wsize : ℕ) (m : PutFile) (turn : Turn) (old : Shelf) (next : Step) (new : PutFile) (after : Shelf) → m.write.lane ≡ lane
      → m.state ≡ putting.Opens → P None old.order → puts.AfterOpening step wsize m turn old next new after → OfPut next new after.order
  after-opening (openings.Send call) wsize m turn old next new after own is p a =
      opens-any m old.order next new after.order (ap (λ (k : PutFile). k.write) a.1) (ap (λ (k : PutFile). k.state) a.1 ∙ is) (same-order old after a.2) own p
  after-opening openings.Wait wsize m turn old next new after own is p a =
      opens-any m old.order next new after.order (ap (λ (k : PutFile). k.write) a.machine_is) (ap (λ (k : PutFile). k.state) a.machine_is ∙ is) (same-order old after a.shelf_is) own p
  after-opening (openings.Ended (Ok file)) wsize m turn old next new after own is p a =
      writes-on wsize m file turn a.told a.written a.mid next new after own
      (write-writes wsize file m.write.offset (writes.made_bytes m.write.text) turn (puts.put_at m.write.lane file old) a.told a.written a.mid p
      (subst (λ (n : ℕ). writes.Writes wsize n file m.write.offset (writes.made_bytes m.write.text) turn (puts.put_at m.write.lane file old) a.told a.written a.mid) own a.writes))
      a.goes
  after-opening (openings.Ended (Err fault)) wsize m turn old next new after own is p a =
      to-done (answers.Refused fault) next (PutLives new) (seat_put new.state new.write.state) old.order after.order a.0 (same-order old after a.2) p

  put-resumes : (at : Putting) (wsize : ℕ) (m : PutFile) (turn : Turn) (old : Shelf) (next : Step) (new : PutFile) (after : Shelf) → m.state ≡ at → m.write.lane ≡ lane
      → PutLive at m.write.state → P (seat_put at m.write.state) old.order → puts.Resumes at wsize m turn old next new after → OfPut next new after.order
  put-resumes putting.Idle wsize m turn old next new after is own live p r = absurd live
  put-resumes putting.Opens wsize m turn old next new after is own live p r =
      opens-any m old.order next new after.order (ap (λ (k : PutFile). k.write) r.1) (ap (λ (k : PutFile). k.state) r.1 ∙ is) (same-order old after r.2) own p
  put-resumes (putting.Adds file) wsize m turn old next new after is own live p r =
      writes-on wsize m file turn r.told r.written r.mid next new after own
      (write-resumes m.write.state wsize turn old r.told r.written r.mid live p
      (subst (λ (n : ℕ). writes.ResumesIn m.write.state wsize n turn old r.told r.written r.mid) own r.resumes)) r.goes
  put-resumes (putting.Saves saving) wsize m turn old next new after is own live p r =
      let of : new.write ≡ m.write = ap (λ (k : PutFile). k.write) r.1 in
      with-lane next new after.order (ap (λ (k : WriteFile). k.lane) of ∙ own)
      (put-queues (is_first lane old.order) wsize turn new.write.state saving old next new.state after live p
      (subst (λ (n : ℕ). puts.QueuesIf (is_first n old.order) wsize n turn saving old next new.state after) own r.0))

  put-takes : (at : Putting) (wsize : ℕ) (m : PutFile) (sent turn : Turn) (came : Result Reply Fault) (old : Shelf) (next : Step) (new : PutFile) (after : Shelf) (others : ℕ)
      → m.state ≡ at → m.write.lane ≡ lane → PutLive at m.write.state → of_put m ≡ others + 1 → P (seat_put at m.write.state) old.order
      → puts.Takes at wsize m sent turn came old next new after → OfPut next new after.order
  put-takes putting.Idle wsize m sent turn came old next new after others is own live one p t = absurd live
  put-takes putting.Opens wsize m sent turn came old next new after others is own live one p t =
      after-opening t.step wsize (puts.led (opening.opening_again m.opening sent turn came old.repeats) m turn came t.took.attrs old.pages) turn t.took next new after own is
      (subst (λ (order : List LaneFile). P None order) (sym (ap (λ (s : Shelf). s.order) t.others)) p) t.follows
  put-takes (putting.Adds file) wsize m sent turn came old next new after others is own live one p t =
      writes-on wsize m file turn t.told t.written t.mid next new after own
      (write-takes m.write.state wsize m.write sent turn came old t.told t.written t.mid others own live
      (sym (ap (λ (s : Putting). of_putting s m.opening m.write.state) is) ∙ one) p t.takes) t.goes
  put-takes (putting.Saves saving) wsize m sent turn came old next new after others is own live one p t =
      let of : new.write ≡ m.write = ap (λ (k : PutFile). k.write) t.1 in
      let was : of_saving saving ≡ others + 1 = sym (ap (λ (s : Putting). of_putting s m.opening m.write.state) is) ∙ one in
      with-lane next new after.order (ap (λ (k : WriteFile). k.lane) of ∙ own)
      (put-follows t.0.gives new.write.state t.0.saved t.0.took next new.state after
      (takes-live wsize sent turn came old.repeats saving old.back t.0.gives t.0.saved t.0.took.back t.0.took.repeats live t.0.takes)
      (subst (λ (order : List LaneFile). P (Some t.0.saved.file) order) (sym (ap (λ (s : Shelf). s.order) t.0.others))
      (subst (λ (f : List ℕ). P (Some f) old.order)
      (sym (takes-file wsize sent turn came old.repeats saving old.back t.0.gives t.0.saved t.0.took.back t.0.took.repeats others was t.0.takes)) p))
      (subst (λ (n : ℕ). puts.Follows t.0.gives n t.0.saved t.0.took next new.state after) own t.0.follows))

  -- ---- reads

  read-some : (next : Step) (new : ReadFile) (old order : List LaneFile) (reading : Reading) → new.reading ≡ Some reading → order ≡ old → P None old
      → Seats next (ReadLive new.reading) None order
  read-some next new old order reading is o p = to-any next (ReadLive new.reading) None old order refl o (subst ReadLive (sym is) tt) p

  read-starts : (begun : Result Reading Fault) (room : Bool) (m : ReadFile) (pages : Pages) (back : Pending) (next : Step) (new : ReadFile) (later : Pages)
      (old order : List LaneFile) → order ≡ old → P None old → reads.StartsWith begun room m pages back next new later → Seats next (ReadLive new.reading) None order
  read-starts (Err fault) room m pages back next new later old order o p s = to-done (answers.Refused fault) next (ReadLive new.reading) None old order s.step o p
  read-starts (Ok r) room m pages back next new later old order o p s = read-some next new old order _ (ap (λ (k : ReadFile). k.reading) s.machine) o p

  read-resumes : (of : Option Reading) (room : Bool) (m : ReadFile) (pages : Pages) (back : Pending) (next : Step) (new : ReadFile) (later : Pages) (old order : List LaneFile)
      → ReadLive of → order ≡ old → P None old → reads.ResumesIn of room m pages back next new later → Seats next (ReadLive new.reading) None order
  read-resumes None room m pages back next new later old order live o p r = absurd live
  read-resumes (Some reading) room m pages back next new later old order live o p r = read-some next new old order _ (ap (λ (k : ReadFile). k.reading) r.machine) o p

  read-takes : (of : Option Reading) (sent turn : Turn) (came : Result Reply Fault) (repeats : List Repeat) (m : ReadFile) (pages : Pages) (back : Pending) (next : Step)
      (new : ReadFile) (later : Pages) (old order : List LaneFile) → ReadLive of → order ≡ old → P None old
      → reads.TakesIn of sent turn came repeats m pages back next new later → Seats next (ReadLive new.reading) None order
  read-takes None sent turn came repeats m pages back next new later old order live o p t = absurd live
  read-takes (Some reading) sent turn came repeats m pages back next new later old order live o p t =
      read-some next new old order _ (ap (λ (k : ReadFile). k.reading) t.machine) o p

  -- ---- any operation on files

  abbrev pub OfFile : Step → FileMachine → List LaneFile → Type 0
  OfFile next m order = Seats next (FileLive lane m) (seat_file m) order

  file-as : (next : Step) (to new : FileMachine) (order : List LaneFile) → new ≡ to → OfFile next to order → OfFile next new order
  file-as next to new order is s = subst (λ (m : FileMachine). OfFile next m order) (sym is) s

  -- with the lane, which stays
  owned : (next : Step) (own : ℕ) (Live : Type 0) (seat : Option (List ℕ)) (order : List LaneFile) → own ≡ lane → Seats next Live seat order
      → Seats next ((own ≡ lane) × Live) seat order
  owned (nexts.Send call) own Live seat order is s = ((is, s.0), s.1)
  owned nexts.Wait own Live seat order is s = ((is, s.0), s.1)
  owned (nexts.Done answer) own Live seat order is s = s

  pub file-starts : (m : FileMachine) (wsize : ℕ) (turn : Turn) (old : Shelf) (next : Step) (new : FileMachine) (after : Shelf) → FileFresh lane m → P None old.order
      → steps.Starts wsize m turn old next new after → OfFile next new after.order
  file-starts (files.Open m) wsize turn old next new after fresh p s =
      file-as next (files.Open _) new after.order s.machine_is (to-any next (Unit {0}) None old.order after.order refl (same-order old after s.shelf_is) tt p)
  file-starts (files.Read m) wsize turn old next new after fresh p s =
      file-as next (files.Read s.machine) new after.order s.machine_is
      (read-starts s.step.reading turn.room m old.pages old.back next s.machine after.pages old.order after.order (ap (λ (k : Shelf). k.order) s.others) p s.step.goes)
  file-starts (files.Write m) wsize turn old next new after fresh p s =
      file-as next (files.Write s.machine) new after.order s.machine_is
      (owned next s.machine.lane (WriteLive s.machine.state) (seat_write s.machine.state) after.order
      (write-lane (file_to_write m.lane m.slot old.opens) wsize m turn old next s.machine after s.step ∙ fresh)
      (write-starts (file_to_write m.lane m.slot old.opens) wsize m turn old next s.machine after fresh p s.step))
  file-starts (files.Sync m) wsize turn old next new after fresh p s =
      file-as next (files.Sync (record m { state = s.state })) new after.order s.machine_is
      (owned next m.lane (SyncLive s.state) (seat_sync s.state) after.order fresh
      (sync-starts (file_at m.lane m.slot old.opens) wsize m turn old next s.state after fresh p s.step))
  file-starts (files.Close m) wsize turn old next new after fresh p s =
      file-as next (files.Close (record m { state = s.state })) new after.order s.machine_is
      (owned next m.lane (CloseLive s.state) (seat_close s.state) after.order fresh
      (close-starts (file_at m.lane m.slot old.opens) wsize m turn old next s.state after fresh p s.step))
  file-starts (files.Truncate m) wsize turn old next new after fresh p s =
      file-as next (files.Truncate (record m { state = truncates.started_state m turn old })) new after.order s.machine_is
      (owned next m.lane (TruncateLive (truncates.started_state m turn old)) (seat_truncate (truncates.started_state m turn old)) after.order fresh
      (truncate-starts (truncates.found_file m old) m turn old next (truncates.started_state m turn old) after fresh p s.next_is refl s.shelf_is))
  file-starts (files.Put m) wsize turn old next new after fresh p s =
      file-as next (files.Put (record m { opening = opening.go_after (puts.opening_at turn m) turn; state = putting.Opens })) new after.order s.machine_is
      (opens-any m old.order next (record m { opening = opening.go_after (puts.opening_at turn m) turn; state = putting.Opens }) after.order refl refl
      (same-order old after s.shelf_is) fresh p)

  pub file-resumes : (m : FileMachine) (wsize : ℕ) (turn : Turn) (old : Shelf) (next : Step) (new : FileMachine) (after : Shelf) → FileLive lane m → P (seat_file m) old.order
      → steps.Resumes wsize m turn old next new after → OfFile next new after.order
  file-resumes (files.Open m) wsize turn old next new after live p s =
      file-as next (files.Open _) new after.order s.machine_is (to-any next (Unit {0}) None old.order after.order refl (same-order old after s.shelf_is) tt p)
  file-resumes (files.Read m) wsize turn old next new after live p s =
      file-as next (files.Read s.machine) new after.order s.machine_is
      (read-resumes m.reading turn.room m old.pages old.back next s.machine after.pages old.order after.order live (ap (λ (k : Shelf). k.order) s.others) p s.step)
  file-resumes (files.Write m) wsize turn old next new after live p s =
      file-as next (files.Write (record m { state = s.state })) new after.order s.machine_is
      (owned next m.lane (WriteLive s.state) (seat_write s.state) after.order live.0
      (write-resumes m.state wsize turn old next s.state after live.1 p
      (subst (λ (n : ℕ). writes.ResumesIn m.state wsize n turn old next s.state after) live.0 s.step)))
  file-resumes (files.Sync m) wsize turn old next new after live p s =
      file-as next (files.Sync (record m { state = s.state })) new after.order s.machine_is
      (owned next m.lane (SyncLive s.state) (seat_sync s.state) after.order live.0 (sync-resumes m.state wsize m turn old next s.state after live.0 live.1 p s.step))
  file-resumes (files.Close m) wsize turn old next new after live p s =
      file-as next (files.Close (record m { state = s.state })) new after.order s.machine_is
      (owned next m.lane (CloseLive s.state) (seat_close s.state) after.order live.0 (close-resumes m.state wsize m turn old next s.state after live.0 live.1 p s.step))
  file-resumes (files.Truncate m) wsize turn old next new after live p s =
      file-as next (files.Truncate (record m { state = truncates.resumed_state m.state m turn old })) new after.order s.machine_is
      (owned next m.lane (TruncateLive (truncates.resumed_state m.state m turn old)) (seat_truncate (truncates.resumed_state m.state m turn old)) after.order live.0
      (truncate-resumes m.state m turn old next (truncates.resumed_state m.state m turn old) after live.1 p s.next_is refl s.shelf_is))
  file-resumes (files.Put m) wsize turn old next new after live p s =
      file-as next (files.Put s.machine) new after.order s.machine_is (put-resumes m.state wsize m turn old next s.machine after refl live.0 live.1 p s.step)

  pub file-takes : (m : FileMachine) (wsize : ℕ) (sent turn : Turn) (came : Result Reply Fault) (old : Shelf) (next : Step) (new : FileMachine) (after : Shelf) (others : ℕ)
      → FileLive lane m → calls_of m ≡ others + 1 → P (seat_file m) old.order → steps.Takes wsize m sent turn came old next new after → OfFile next new after.order
  file-takes (files.Open m) wsize sent turn came old next new after others live one p s =
      file-as next (files.Open _) new after.order s.machine_is
      (to-any next (Unit {0}) None old.order after.order refl (ap (λ (k : Shelf). k.order) s.others) tt p)
  file-takes (files.Read m) wsize sent turn came old next new after others live one p s =
      file-as next (files.Read s.machine) new after.order s.machine_is
      (read-takes m.reading sent turn came old.repeats m old.pages old.back next s.machine after.pages old.order after.order live (ap (λ (k : Shelf). k.order) s.others) p s.step)
  file-takes (files.Write m) wsize sent turn came old next new after others live one p s =
      file-as next (files.Write (record m { state = s.state })) new after.order s.machine_is
      (owned next m.lane (WriteLive s.state) (seat_write s.state) after.order live.0
      (write-takes m.state wsize m sent turn came old next s.state after others live.0 live.1 one p s.step))
  file-takes (files.Sync m) wsize sent turn came old next new after others live one p s =
      file-as next (files.Sync (record m { state = s.state })) new after.order s.machine_is
      (owned next m.lane (SyncLive s.state) (seat_sync s.state) after.order live.0
      (sync-takes m.state wsize m sent turn came old next s.state after others live.0 live.1 one p s.step))
  file-takes (files.Close m) wsize sent turn came old next new after others live one p s =
      file-as next (files.Close (record m { state = s.state })) new after.order s.machine_is
      (owned next m.lane (CloseLive s.state) (seat_close s.state) after.order live.0
      (close-takes m.state wsize m sent turn came old next s.state after others live.0 live.1 one p s.step))
  file-takes (files.Truncate m) wsize sent turn came old next new after others live one p s =
      file-as next (files.Truncate (record m { state = truncates.took_state m.state came sent turn old.repeats })) new after.order s.machine_is
      (owned next m.lane (TruncateLive (truncates.took_state m.state came sent turn old.repeats)) (seat_truncate (truncates.took_state m.state came sent turn old.repeats))
      after.order live.0
      (truncate-takes m.state m sent turn came after.attrs after.back old next (truncates.took_state m.state came sent turn old.repeats) after others live.0 live.1 one p
      s.next_is refl s.shelf_is))
  file-takes (files.Put m) wsize sent turn came old next new after others live one p s =
      file-as next (files.Put s.machine) new after.order s.machine_is (put-takes m.state wsize m sent turn came old next s.machine after others refl live.0 live.1 one p s.step)
