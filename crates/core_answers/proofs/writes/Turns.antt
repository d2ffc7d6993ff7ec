-- An operation on a file whose call waits is the first in the order of its file.
use Rattle.core_answers.proofs.Prelude.{◌≡◌, ◌≤◌, ◌+◌, ◌&&◌, ℕ, Bool, true, false, List, Option, Some, None, Result, Ok, Err, inl, inr, refl, sym, ap, subst, arith, if◌then◌else◌, Answer, Fault, Reply, last_end, of_file, LaneFile, Step, Shelf, Turn, goes_again, left, is_first, CloseFile, Closing, Removal, OpeningStep, PutFile, Putting, Saving, SyncFile, Syncing, TruncateFile, Truncating, WriteFile, Writing, is_full, refusal_of, remove_busy, file_to_write, file_at, joined, by-step, ends_as, FileMachine, of_saving, of_writing, of_syncing, of_closing, of_putting}
use Rattle.world_model.specs.declared.answer.Answer.TheVariants as answers
use Rattle.client_shelf.specs.declared.step.Step.TheVariants as nexts
use Rattle.file_ops.specs.declared.close_file.Closing.TheVariants as closing
use Rattle.file_ops.specs.declared.opening.OpeningStep.TheVariants as openings
use Rattle.file_ops.specs.declared.put_file.Putting.TheVariants as putting
use Rattle.file_ops.specs.declared.sync_file.Syncing.TheVariants as syncing
use Rattle.file_ops.specs.declared.truncate_file.Truncating.TheVariants as truncating
use Rattle.file_ops.specs.declared.write_file.Writing.TheVariants as writing
use Rattle.file_ops.specs.Quiet.{is_quiet}
use Rattle.file_ops.specs.Opening as opening
use Rattle.file_ops.specs.Closes as closes
use Rattle.file_ops.specs.PutFile as puts
use Rattle.file_ops.specs.Saves as saves
use Rattle.file_ops.specs.Syncs as syncs
use Rattle.file_ops.specs.TruncateFile as truncates
use Rattle.file_ops.specs.WriteFile as writes
use Rattle.op_machines.specs.declared.file_machine.FileMachine.TheVariants as files
use Rattle.op_machines.specs.FileSteps as steps
use Rattle.core_facts.specs.InFlight.{of_file as calls_of}

-- ---- whose turn it is

-- as long as it goes on
abbrev pub Still : Step → Type 0 → Type 0
Still (nexts.Send call) X = X
Still nexts.Wait X = X
Still (nexts.Done answer) X = Unit {0}

abbrev pub IsFirst : ℕ → List LaneFile → Type 0
IsFirst lane order = is_first lane order ≡ true

-- T where a call of it waits, or waited
abbrev pub SaveTurn : Type 0 → Saving → Type 0
SaveTurn T s = 1 ≤ of_saving s → T

abbrev pub SyncTurn : Type 0 → Syncing → Type 0
SyncTurn T syncing.Idle = Unit {0}
SyncTurn T (syncing.Saves saving) = SaveTurn T saving

abbrev pub CloseTurn : Type 0 → Closing → Type 0
CloseTurn T closing.Idle = Unit {0}
CloseTurn T (closing.Queued saving) = Unit {0}
CloseTurn T (closing.Saves saving) = SaveTurn T saving
CloseTurn T (closing.ToRemove removal) = T
CloseTurn T (closing.Removing removal) = T

abbrev pub WriteTurn : Type 0 → Writing → Type 0
WriteTurn T writing.Idle = Unit {0}
WriteTurn T (writing.Room file saving) = SaveTurn T saving

abbrev pub TruncateTurn : Type 0 → Truncating → Type 0
TruncateTurn T truncating.Idle = Unit {0}
TruncateTurn T (truncating.Queued file upto) = Unit {0}
TruncateTurn T (truncating.Asked file upto) = T

abbrev pub PutTurn : Type 0 → Putting → Writing → Type 0
PutTurn T putting.Idle write = Unit {0}
PutTurn T putting.Opens write = Unit {0}
PutTurn T (putting.Adds file) write = WriteTurn T write
PutTurn T (putting.Saves saving) write = SaveTurn T saving

abbrev pub FileTurn : FileMachine → List LaneFile → Type 0
FileTurn (files.Open m) order = Unit {0}
FileTurn (files.Read m) order = Unit {0}
FileTurn (files.Write m) order = WriteTurn (IsFirst m.lane order) m.state
FileTurn (files.Sync m) order = SyncTurn (IsFirst m.lane order) m.state
FileTurn (files.Close m) order = CloseTurn (IsFirst m.lane order) m.state
FileTurn (files.Truncate m) order = TruncateTurn (IsFirst m.lane order) m.state
FileTurn (files.Put m) order = PutTurn (IsFirst m.write.lane order) m.state m.write.state

-- ---- where it is its turn

any-still : (next : Step) (X : Type 0) → X → Still next X
any-still (nexts.Send call) X x = x
any-still nexts.Wait X x = x
any-still (nexts.Done answer) X x = tt

still-done : (answer : Answer) (next : Step) (X : Type 0) → next ≡ nexts.Done answer → Still next X
still-done answer next X is = subst (λ (n : Step). Still n X) (sym is) tt

still-map : (next : Step) (X Y : Type 0) → (X → Y) → Still next X → Still next Y
still-map (nexts.Send call) X Y f s = f s
still-map nexts.Wait X Y f s = f s
still-map (nexts.Done answer) X Y f s = tt

sync-any : (T : Type 0) → T → (state : Syncing) → SyncTurn T state
sync-any T t syncing.Idle = tt
sync-any T t (syncing.Saves saving) = λ some. t

close-any : (T : Type 0) → T → (state : Closing) → CloseTurn T state
close-any T t closing.Idle = tt
close-any T t (closing.Queued saving) = tt
close-any T t (closing.Saves saving) = λ some. t
close-any T t (closing.ToRemove removal) = t
close-any T t (closing.Removing removal) = t

write-any : (T : Type 0) → T → (state : Writing) → WriteTurn T state
write-any T t writing.Idle = tt
write-any T t (writing.Room file saving) = λ some. t

put-any : (T : Type 0) → T → (state : Putting) (write : Writing) → PutTurn T state write
put-any T t putting.Idle write = tt
put-any T t putting.Opens write = tt
put-any T t (putting.Adds file) write = write-any T t write
put-any T t (putting.Saves saving) write = λ some. t

begun-turn : (T : Type 0) (file : List ℕ) (upto : ℕ) → SaveTurn T (saves.begun file upto)
begun-turn T file upto some = absurd (omega (arith, some))

module _ (lane : ℕ) where
  First : List LaneFile → Type 0
  First order = IsFirst lane order

order-of : (old new : Shelf) → new ≡ old → new.order ≡ old.order
order-of old new is = ap (λ (s : Shelf). s.order) is

first-as : (lane : ℕ) (old new : List LaneFile) → new ≡ old → IsFirst lane old → IsFirst lane new
first-as lane old new is t = subst (IsFirst lane) (sym is) t

module _ (wsize lane : ℕ) (turn : Turn) where
  -- ---- syncs

  sync-as : (gives : _) (next : Step) (order later : List LaneFile) → next ≡ syncs.sync_next gives → later ≡ syncs.sync_order gives lane order → IsFirst lane order
      → Still next (IsFirst lane later)
  sync-as gives next order later n o t = by-step
      (λ g. next ≡ syncs.sync_next g → later ≡ syncs.sync_order g lane order → Still next (IsFirst lane later))
      (λ call n o. any-still next (IsFirst lane later) (first-as lane order later o t))
      (λ n o. any-still next (IsFirst lane later) (first-as lane order later o t))
      (λ result n o. still-done (syncs.answer_of result) next (IsFirst lane later) n)
      gives n o

  sync-queues : (b : Bool) (saving : Saving) (old : Shelf) (next : Step) (state : Syncing) (new : Shelf) → is_first lane old.order ≡ b → SaveTurn (IsFirst lane old.order) saving
      → syncs.QueuesIf b wsize lane turn saving old next state new → Still next (SyncTurn (IsFirst lane new.order) state)
  sync-queues true saving old next state new is t q =
      still-map next (IsFirst lane new.order) (SyncTurn (IsFirst lane new.order) state) (λ f. sync-any (IsFirst lane new.order) f state)
      (sync-as q.gives next old.order new.order q.follows.next_is q.follows.order_is is)
  sync-queues false saving old next state new is t q =
      any-still next _ (subst (SyncTurn (IsFirst lane new.order)) (sym q.state_is) (λ some. first-as lane old.order new.order (order-of old new q.shelf_is) (t some)))

  -- ---- closes

  close-waits : (at : Closing) (old : Shelf) (next : Step) (state : Closing) (new : Shelf) → closes.Waits at old next state new → CloseTurn (IsFirst lane old.order) at
      → Still next (CloseTurn (IsFirst lane new.order) state)
  close-waits at old next state new w t =
      any-still next _ (subst (λ (s : Closing). CloseTurn (IsFirst lane new.order) s) (sym w.state_is)
      (subst (λ (s : Shelf). CloseTurn (IsFirst lane s.order) at) (sym w.shelf_is) t))

  close-first : (next : Step) (state : Closing) (old new : List LaneFile) → new ≡ old → IsFirst lane old → Still next (CloseTurn (IsFirst lane new) state)
  close-first next state old new is t = any-still next _ (close-any (IsFirst lane new) (first-as lane old new is t) state)

  close-asks : (b : Bool) (removal : Removal) (old : Shelf) (next : Step) (state : Closing) (new : Shelf) → closes.Asks b removal old next state new → IsFirst lane old.order
      → Still next (CloseTurn (IsFirst lane new.order) state)
  close-asks b removal old next state new a t = close-first next state old.order new.order (order-of old new a.shelf_is) t

  close-frees : (slot : ℕ) (file : List ℕ) (refusal : Option Fault) (old : Shelf) (next : Step) (state : Closing) (new : Shelf)
      → closes.Frees lane slot turn.room file refusal old next state new → IsFirst lane old.order → Still next (CloseTurn (IsFirst lane new.order) state)
  close-frees slot file refusal old next state new f t = at f.place f.ends
    where
      freed : IsFirst lane f.freed.order
      freed = first-as lane old.order f.freed.order (ap (λ (s : Shelf). s.order) f.slot_is) t

      at : (place : Option (List ℕ × List ℕ)) → closes.EndsAt place lane turn.room file refusal f.freed next state new → Still next (CloseTurn (IsFirst lane new.order) state)
      at None e = still-done _ next (CloseTurn (IsFirst lane new.order) state) e.next_is
      at (Some place) e = close-asks turn.room (record { file = file; dir = place.0; name = place.1; refusal = refusal }) f.freed next state new e freed

  close-follows : (gives : _) (slot : ℕ) (begun : Bool) (saving : Saving) (old : Shelf) (next : Step) (state : Closing) (new : Shelf)
      → closes.Follows gives lane slot turn.room begun saving old next state new → IsFirst lane old.order → Still next (CloseTurn (IsFirst lane new.order) state)
  close-follows gives slot begun saving old next state new f t = by-step
      (λ g. closes.Follows g lane slot turn.room begun saving old next state new → Still next (CloseTurn (IsFirst lane new.order) state))
      (λ call f. close-first next state old.order new.order (order-of old new f.2) t)
      (λ f. close-first next state old.order new.order (order-of old new f.2) t)
      (λ result f. close-frees slot saving.file (refusal_of result) old next state new f t)
      gives f

  close-on : (slot : ℕ) (begun : Bool) (saving : Saving) (old : Shelf) (next : Step) (state : Closing) (new : Shelf)
      → closes.GoesOn wsize lane slot turn begun saving old next state new → IsFirst lane old.order → Still next (CloseTurn (IsFirst lane new.order) state)
  close-on slot begun saving old next state new g t =
      close-follows g.gives slot begun g.saved g.gone next state new g.follows (first-as lane old.order g.gone.order (ap (λ (s : Shelf). s.order) g.others) t)

  close-queues : (b : Bool) (slot : ℕ) (saving : Saving) (old : Shelf) (next : Step) (state : Closing) (new : Shelf) → is_first lane old.order ≡ b
      → closes.QueuesIf b wsize lane slot turn saving old next state new → Still next (CloseTurn (IsFirst lane new.order) state)
  close-queues false slot saving old next state new is q = close-waits (closing.Queued saving) old next state new q tt
  close-queues true slot saving old next state new is q = at (last_end (of_file saving.file old.back).segments) q
    where
      at : (end : Option ℕ) → closes.Begins end wsize lane slot turn saving old next state new → Still next (CloseTurn (IsFirst lane new.order) state)
      at None b = close-frees slot saving.file None old next state new b is
      at (Some end) b = close-on slot false saving old next state new b is

  -- ---- writes and fills

  room-as : (told : _) (file : List ℕ) (saved : Saving) (shelf : Shelf) (next : Step) (state : Writing) (after : Shelf)
      → writes.Leads (writes.room_next told) (writes.room_state told file saved) (writes.room_shelf told lane shelf) next state after → IsFirst lane shelf.order
      → Still next (WriteTurn (IsFirst lane after.order) state)
  room-as told file saved shelf next state after r t = by-step
      (λ k. writes.Leads (writes.room_next k) (writes.room_state k file saved) (writes.room_shelf k lane shelf) next state after → Still next (WriteTurn (IsFirst lane after.order) state))
      (λ call r. here r.shelf_is)
      (λ r. here r.shelf_is)
      ended told r
    where
      here : after ≡ shelf → Still next (WriteTurn (IsFirst lane after.order) state)
      here is = any-still next _ (write-any (IsFirst lane after.order) (first-as lane shelf.order after.order (order-of shelf after is) t) state)

      ended : (result : Result (Unit {0}) Fault)
          → writes.Leads (writes.room_next (ends_as result)) (writes.room_state (ends_as result) file saved) (writes.room_shelf (ends_as result) lane shelf) next state after
          → Still next (WriteTurn (IsFirst lane after.order) state)
      ended (Ok done) r = here r.shelf_is
      ended (Err fault) r = still-done _ next _ r.gives_next

  write-saves : (b : Bool) (file : List ℕ) (saving : Saving) (shelf : Shelf) (next : Step) (state : Writing) (after : Shelf) → is_first lane shelf.order ≡ b
      → SaveTurn (IsFirst lane shelf.order) saving → writes.SavesIf b wsize lane file saving turn shelf next state after → Still next (WriteTurn (IsFirst lane after.order) state)
  write-saves false file saving shelf next state after is t s =
      any-still next _ (subst (WriteTurn (IsFirst lane after.order)) (sym s.keeps) (λ some. first-as lane shelf.order after.order (order-of shelf after s.shelf_is) (t some)))
  write-saves true file saving shelf next state after is t s = room-as s.told file s.saved (record shelf { back = s.back }) next state after s.leads is

  write-writes : (file : List ℕ) (offset : ℕ) (bytes : List ℕ) (shelf : Shelf) (next : Step) (state : Writing) (after : Shelf)
      → writes.Writes wsize lane file offset bytes turn shelf next state after → Still next (WriteTurn (IsFirst lane after.order) state)
  write-writes file offset bytes shelf next state after wrote = by (is_full bytes shelf.back) wrote
    where
      by : (b : Bool) → writes.WritesIf b wsize lane file offset bytes turn shelf next state after → Still next (WriteTurn (IsFirst lane after.order) state)
      by true (inl s) =
          write-saves (is_first lane (joined lane s.of shelf).order) file (saves.begun s.of shelf.seq) (joined lane s.of shelf) next state after refl
          (begun-turn (IsFirst lane (joined lane s.of shelf).order) s.of shelf.seq) s.saves
      by true (inr s) = still-done _ next _ s.1.gives_next
      by false (inl s) = still-done _ next _ s.leads.gives_next
      by false (inr s) = still-done _ next _ s.gives_next

  write-resumes : (at : Writing) (old : Shelf) (next : Step) (state : Writing) (after : Shelf) → WriteTurn (IsFirst lane old.order) at
      → writes.ResumesIn at wsize lane turn old next state after → Still next (WriteTurn (IsFirst lane after.order) state)
  write-resumes writing.Idle old next state after t s = any-still next _ (subst (WriteTurn (IsFirst lane after.order)) (sym s.keeps) tt)
  write-resumes (writing.Room file saving) old next state after t s = write-saves (is_first lane old.order) file saving old next state after refl t s

  -- ---- puts

  put-first : (next : Step) (state : Putting) (write : Writing) (old new : List LaneFile) → new ≡ old → IsFirst lane old → Still next (PutTurn (IsFirst lane new) state write)
  put-first next state write old new is t = any-still next _ (put-any (IsFirst lane new) (first-as lane old new is t) state write)

  put-follows : (gives : _) (saving : Saving) (old : Shelf) (next : Step) (state : Putting) (write : Writing) (after : Shelf)
      → puts.Follows gives lane saving old next state after → IsFirst lane old.order → Still next (PutTurn (IsFirst lane after.order) state write)
  put-follows gives saving old next state write after f t = by-step
      (λ g. puts.Follows g lane saving old next state after → Still next (PutTurn (IsFirst lane after.order) state write))
      (λ call f. put-first next state write old.order after.order (order-of old after f.2) t)
      (λ f. put-first next state write old.order after.order (order-of old after f.2) t)
      (λ result f. still-done _ next _ f.next_is)
      gives f

  put-queues : (b : Bool) (saving : Saving) (old : Shelf) (next : Step) (state : Putting) (write : Writing) (after : Shelf) → is_first lane old.order ≡ b
      → SaveTurn (IsFirst lane old.order) saving → puts.QueuesIf b wsize lane turn saving old next state after → Still next (PutTurn (IsFirst lane after.order) state write)
  put-queues false saving old next state write after is t q =
      any-still next _ (subst (λ (s : Putting). PutTurn (IsFirst lane after.order) s write) (sym q.state_is)
      (λ some. first-as lane old.order after.order (order-of old after q.shelf_is) (t some)))
  put-queues true saving old next state write after is t g =
      put-follows g.gives g.saved g.gone next state write after g.follows (first-as lane old.order g.gone.order (ap (λ (s : Shelf). s.order) g.others) is)

  put-wrote : (told : Step) (file : List ℕ) (old : Shelf) (next : Step) (state : Putting) (write : Writing) (after : Shelf)
      → puts.AfterWrite told wsize lane file turn old next state after → Still told (WriteTurn (IsFirst lane old.order) write)
      → Still next (PutTurn (IsFirst lane after.order) state write)
  put-wrote (nexts.Send call) file old next state write after a t =
      any-still next _ (subst (λ (s : Putting). PutTurn (IsFirst lane after.order) s write) (sym a.1)
      (subst (λ (s : Shelf). WriteTurn (IsFirst lane s.order) write) (sym a.2) t))
  put-wrote nexts.Wait file old next state write after a t =
      any-still next _ (subst (λ (s : Putting). PutTurn (IsFirst lane after.order) s write) (sym a.1)
      (subst (λ (s : Shelf). WriteTurn (IsFirst lane s.order) write) (sym a.2) t))
  put-wrote (nexts.Done (answers.Done value)) file old next state write after a t =
      put-queues (is_first lane (joined lane file old).order) (saves.begun file old.seq) (joined lane file old) next state write after refl
      (begun-turn (IsFirst lane (joined lane file old).order) file old.seq) a
  put-wrote (nexts.Done (answers.Refused fault)) file old next state write after a t = still-done _ next _ a.next_is

-- ---- with what came of a call

module _ (wsize : ℕ) (sent turn : Turn) (came : Result Reply Fault) where
  write-follows : (told : _) (machine : WriteFile) (file : List ℕ) (saved : Saving) (shelf : Shelf) (next : Step) (state : Writing) (after : Shelf)
      → writes.Follows told wsize machine file saved turn shelf next state after → IsFirst machine.lane shelf.order
      → Still next (WriteTurn (IsFirst machine.lane after.order) state)
  write-follows told machine file saved shelf next state after f t = by-step
      (λ k. writes.Follows k wsize machine file saved turn shelf next state after → Still next (WriteTurn (IsFirst machine.lane after.order) state))
      (λ call f. here f.shelf_is)
      (λ f. here f.shelf_is)
      ended told f
    where
      here : after ≡ shelf → Still next (WriteTurn (IsFirst machine.lane after.order) state)
      here is = any-still next _ (write-any (IsFirst machine.lane after.order) (first-as machine.lane shelf.order after.order (order-of shelf after is) t) state)

      ended : (result : Result (Unit {0}) Fault) → writes.Follows (ends_as result) wsize machine file saved turn shelf next state after
          → Still next (WriteTurn (IsFirst machine.lane after.order) state)
      ended (Ok done) f = write-writes wsize machine.lane turn file machine.offset (writes.made_bytes machine.text) (record shelf { order = left machine.lane shelf.order }) next state after f
      ended (Err fault) f = still-done _ next _ f.gives_next

  write-takes : (at : Writing) (machine : WriteFile) (old : Shelf) (next : Step) (state : Writing) (after : Shelf) (others : ℕ) → of_writing at ≡ others + 1
      → WriteTurn (IsFirst machine.lane old.order) at → writes.TakesIn at wsize machine sent turn came old next state after
      → Still next (WriteTurn (IsFirst machine.lane after.order) state)
  write-takes writing.Idle machine old next state after others one t s = absurd (omega (arith, one))
  write-takes (writing.Room file saving) machine old next state after others one t s =
      write-follows s.told machine file s.saved _ next state after s.follows (t (omega (arith, one)))

  sync-takes : (at : Syncing) (machine : SyncFile) (old : Shelf) (next : Step) (state : Syncing) (new : Shelf) (others : ℕ) → of_syncing at ≡ others + 1
      → SyncTurn (IsFirst machine.lane old.order) at → syncs.Takes at wsize machine sent turn came old next state new
      → Still next (SyncTurn (IsFirst machine.lane new.order) state)
  sync-takes syncing.Idle machine old next state new others one t s = absurd (omega (arith, one))
  sync-takes (syncing.Saves saving) machine old next state new others one t s =
      still-map next (IsFirst machine.lane new.order) (SyncTurn (IsFirst machine.lane new.order) state) (λ f. sync-any (IsFirst machine.lane new.order) f state)
      (sync-as wsize machine.lane turn s.gives next old.order new.order s.follows.next_is s.follows.order_is (t (omega (arith, one))))

  close-takes : (at : Closing) (machine : CloseFile) (old : Shelf) (next : Step) (state : Closing) (new : Shelf) (others : ℕ) → of_closing at ≡ others + 1
      → CloseTurn (IsFirst machine.lane old.order) at → closes.Takes at wsize machine sent turn came old next state new
      → Still next (CloseTurn (IsFirst machine.lane new.order) state)
  close-takes closing.Idle machine old next state new others one t s = absurd (omega (arith, one))
  close-takes (closing.Queued saving) machine old next state new others one t s = absurd (omega (arith, one))
  close-takes (closing.ToRemove removal) machine old next state new others one t s = absurd (omega (arith, one))
  close-takes (closing.Saves saving) machine old next state new others one t s =
      close-follows wsize machine.lane turn s.gives machine.slot true s.saved s.took next state new s.follows
      (first-as machine.lane old.order s.took.order (ap (λ (x : Shelf). x.order) s.others) (t (omega (arith, one))))
  close-takes (closing.Removing removal) machine old next state new others one t s = by (goes_again (remove_busy came) sent turn old.repeats) s.ends
    where
      took : IsFirst machine.lane s.took.order
      took = first-as machine.lane old.order s.took.order (ap (λ (x : Shelf). x.order) s.others) t

      by : (b : Bool) → closes.EndsIf b machine.lane removal s.took next state new → Still next (CloseTurn (IsFirst machine.lane new.order) state)
      by true e = close-first wsize machine.lane turn next state s.took.order new.order (order-of s.took new e.shelf_is) took
      by false e = still-done _ next _ e.next_is

-- a put in whose lane the write is
abbrev pub OfPut : Step → PutFile → List LaneFile → Type 0
OfPut next m order = Still next (PutTurn (IsFirst m.write.lane order) m.state m.write.state)

module _ (wsize : ℕ) (turn : Turn) where
  put-as : (next : Step) (to new : PutFile) (order : List LaneFile) → new ≡ to → OfPut next to order → OfPut next new order
  put-as next to new order is t = subst (λ (m : PutFile). OfPut next m order) (sym is) t

  put-goes : (m : PutFile) (file : List ℕ) (told : Step) (written : Writing) (mid : Shelf) (next : Step) (new : PutFile) (after : Shelf)
      → puts.WritesOn wsize m file turn told written mid next new after → Still told (WriteTurn (IsFirst m.write.lane mid.order) written) → OfPut next new after.order
  put-goes m file told written mid next new after g t =
      put-as next (record m { write = record m.write { state = written }; state = new.state }) new after.order g.machine_is
      (put-wrote wsize m.write.lane turn told file mid next new.state written after g.follows t)

  put-stays : (m : PutFile) (old : Shelf) (next : Step) (new : PutFile) (after : Shelf) → new ≡ m → after ≡ old → PutTurn (IsFirst m.write.lane old.order) m.state m.write.state
      → OfPut next new after.order
  put-stays m old next new after is same t =
      put-as next m new after.order is (any-still next _ (subst (λ (s : Shelf). PutTurn (IsFirst m.write.lane s.order) m.state m.write.state) (sym same) t))

  opens-turn : (m : PutFile) (T : Type 0) → m.state ≡ putting.Opens → PutTurn T m.state m.write.state
  opens-turn m T is = subst (λ (s : Putting). PutTurn T s m.write.state) (sym is) tt

  put-opened : (step : OpeningStep) (m : PutFile) (old : Shelf) (next : Step) (new : PutFile) (after : Shelf) → m.state ≡ putting.Opens
      → puts.AfterOpening step wsize m turn old next new after → OfPut next new after.order
  put-opened (openings.Send call) m old next new after at a = put-stays m old next new after a.1 a.2 (opens-turn m (IsFirst m.write.lane old.order) at)
  put-opened openings.Wait m old next new after at a = put-stays m old next new after a.machine_is a.shelf_is (opens-turn m (IsFirst m.write.lane old.order) at)
  put-opened (openings.Ended (Ok file)) m old next new after at a =
      put-goes m file a.told a.written a.mid next new after a.goes
      (write-writes wsize m.write.lane turn file m.write.offset (writes.made_bytes m.write.text) (puts.put_at m.write.lane file old) a.told a.written a.mid a.writes)
  put-opened (openings.Ended (Err fault)) m old next new after at a = still-done _ next _ a.0

  put-resumes : (at : Putting) (m : PutFile) (old : Shelf) (next : Step) (new : PutFile) (after : Shelf) → m.state ≡ at
      → PutTurn (IsFirst m.write.lane old.order) at m.write.state → puts.Resumes at wsize m turn old next new after → OfPut next new after.order
  put-resumes putting.Idle m old next new after at t s =
      put-stays m old next new after s.machine_is s.shelf_is (subst (λ (s : Putting). PutTurn (IsFirst m.write.lane old.order) s m.write.state) (sym at) tt)
  put-resumes putting.Opens m old next new after at t s =
      put-as next (record m { opening = opening.go_after m.opening turn }) new after.order s.1
      (any-still next _ (opens-turn m (IsFirst m.write.lane after.order) at))
  put-resumes (putting.Adds file) m old next new after at t s =
      put-goes m file s.told s.written s.mid next new after s.goes (write-resumes wsize m.write.lane turn m.write.state old s.told s.written s.mid t s.resumes)
  put-resumes (putting.Saves saving) m old next new after at t s =
      put-as next (record m { state = new.state }) new after.order s.1
      (put-queues wsize m.write.lane turn (is_first m.write.lane old.order) saving old next new.state m.write.state after refl t s.0)

  put-takes : (sent : Turn) (came : Result Reply Fault) (at : Putting) (m : PutFile) (old : Shelf) (next : Step) (new : PutFile) (after : Shelf) (others : ℕ) → m.state ≡ at
      → of_putting at m.opening m.write.state ≡ others + 1 → PutTurn (IsFirst m.write.lane old.order) at m.write.state
      → puts.Takes at wsize m sent turn came old next new after → OfPut next new after.order
  put-takes sent came putting.Idle m old next new after others at one t s = absurd (omega (arith, one))
  put-takes sent came putting.Opens m old next new after others at one t s = put-opened s.step _ s.took next new after at s.follows
  put-takes sent came (putting.Adds file) m old next new after others at one t s =
      put-goes m file s.told s.written s.mid next new after s.goes (write-takes wsize sent turn came m.write.state m.write old s.told s.written s.mid others one t s.takes)
  put-takes sent came (putting.Saves saving) m old next new after others at one t s =
      let k = s.0 in
      put-as next (record m { state = new.state }) new after.order s.1
      (put-follows wsize m.write.lane turn k.gives k.saved k.took next new.state m.write.state after k.follows
      (first-as m.write.lane old.order k.took.order (ap (λ (x : Shelf). x.order) k.others) (t (omega (arith, one)))))

  -- ---- truncates

  and-left : (a b : Bool) → (a && b) ≡ true → a ≡ true
  and-left true b e = refl
  and-left false b e = absurd cc

  and-right : (a b : Bool) → (a && b) ≡ true → b ≡ true
  and-right true b e = e
  and-right false b e = absurd cc

  queued-turn : (m : TruncateFile) (file : List ℕ) (upto : ℕ) (shelf : Shelf) → TruncateTurn (IsFirst m.lane shelf.order) (truncates.queued_state m file upto turn shelf)
  queued-turn m file upto shelf = by (truncates.may_ask m.lane file turn shelf) refl
    where
      by : (b : Bool) → truncates.may_ask m.lane file turn shelf ≡ b
          → TruncateTurn (IsFirst m.lane shelf.order) (if b then truncating.Asked file upto else truncating.Queued file upto)
      by true is = and-right turn.room (is_first m.lane shelf.order) (and-left (turn.room && is_first m.lane shelf.order) (is_quiet file shelf.back) is)
      by false is = tt

  truncate-starts : (m : TruncateFile) (old : Shelf) → TruncateTurn (IsFirst m.lane (truncates.started_shelf m old).order) (truncates.started_state m turn old)
  truncate-starts m old = by (truncates.found_file m old)
    where
      by : (found : Result (List ℕ) Fault) → TruncateTurn (IsFirst m.lane (truncates.begun_shelf found m old).order) (truncates.begun_state found m turn old)
      by (Ok file) = queued-turn m file old.seq (joined m.lane file old)
      by (Err fault) = tt

  truncate-resumes : (at : Truncating) (m : TruncateFile) (old : Shelf) → TruncateTurn (IsFirst m.lane old.order) at
      → TruncateTurn (IsFirst m.lane old.order) (truncates.resumed_state at m turn old)
  truncate-resumes truncating.Idle m old t = tt
  truncate-resumes (truncating.Queued file upto) m old t = queued-turn m file upto old
  truncate-resumes (truncating.Asked file upto) m old t = t

  truncate-takes : (at : Truncating) (m : TruncateFile) (sent : Turn) (came : Result Reply Fault) (old after : Shelf) → TruncateTurn (IsFirst m.lane old.order) at
      → TruncateTurn (IsFirst m.lane (truncates.took_shelf at m came sent turn after.attrs after.back old).order) (truncates.took_state at came sent turn old.repeats)
  truncate-takes truncating.Idle m sent came old after t = tt
  truncate-takes (truncating.Queued file upto) m sent came old after t = tt
  truncate-takes (truncating.Asked file upto) m sent came old after t = by (truncates.size_again came sent turn old.repeats)
    where
      by : (b : Bool) → TruncateTurn (IsFirst m.lane (truncates.ended_order b m.lane old.order)) (truncates.ended_state b (truncating.Asked file upto))
      by true = t
      by false = tt

  -- ---- any operation on a file

  abbrev pub OfFile : Step → FileMachine → List LaneFile → Type 0
  OfFile next m order = Still next (FileTurn m order)

  file-as : (next : Step) (to new : FileMachine) (order : List LaneFile) → new ≡ to → OfFile next to order → OfFile next new order
  file-as next to new order is t = subst (λ (m : FileMachine). OfFile next m order) (sym is) t

  write-starts : (m : WriteFile) (old : Shelf) (next : Step) (new : WriteFile) (after : Shelf) → writes.Starts wsize m turn old next new after
      → OfFile next (files.Write new) after.order
  write-starts m old next new after s = at (file_to_write m.lane m.slot old.opens) s
    where
      at : (found : Result (List ℕ) Fault) → writes.StartsAt found wsize m turn old next new after → OfFile next (files.Write new) after.order
      at (Err fault) s = still-done _ next _ s.refuses.gives_next
      at (Ok file) (inr s) = still-done _ next _ s.refuses.gives_next
      at (Ok file) (inl s) =
          let same : new.lane ≡ m.lane = ap (λ (k : WriteFile). k.lane) s.text in
          subst (λ (l : ℕ). Still next (WriteTurn (IsFirst l after.order) new.state)) (sym same)
          (write-writes wsize m.lane turn file m.offset (writes.text_bytes m.text) old next new.state after s.writes)

  sync-starts : (m : SyncFile) (old : Shelf) (next : Step) (state : Syncing) (after : Shelf) → syncs.Starts wsize m turn old next state after
      → Still next (SyncTurn (IsFirst m.lane after.order) state)
  sync-starts m old next state after s = at (file_at m.lane m.slot old.opens) s
    where
      at : (found : Option (List ℕ)) → syncs.StartsAt found wsize m turn old next state after → Still next (SyncTurn (IsFirst m.lane after.order) state)
      at None s = still-done _ next _ s.next_is
      at (Some file) s =
          sync-queues wsize m.lane turn (is_first m.lane (joined m.lane file old).order) (saves.begun file old.seq) (joined m.lane file old) next state after refl
          (begun-turn (IsFirst m.lane (joined m.lane file old).order) file old.seq) s

  sync-resumes : (at : Syncing) (m : SyncFile) (old : Shelf) (next : Step) (state : Syncing) (after : Shelf) → SyncTurn (IsFirst m.lane old.order) at
      → syncs.Resumes at wsize m turn old next state after → Still next (SyncTurn (IsFirst m.lane after.order) state)
  sync-resumes syncing.Idle m old next state after t s = any-still next _ (subst (SyncTurn (IsFirst m.lane after.order)) (sym s.state_is) tt)
  sync-resumes (syncing.Saves saving) m old next state after t s = sync-queues wsize m.lane turn (is_first m.lane old.order) saving old next state after refl t s

  close-starts : (m : CloseFile) (old : Shelf) (next : Step) (state : Closing) (after : Shelf) → closes.Starts wsize m turn old next state after
      → Still next (CloseTurn (IsFirst m.lane after.order) state)
  close-starts m old next state after s = at (file_at m.lane m.slot old.opens) s
    where
      at : (found : Option (List ℕ)) → closes.StartsAt found wsize m turn old next state after → Still next (CloseTurn (IsFirst m.lane after.order) state)
      at None s = still-done _ next _ s.next_is
      at (Some file) s =
          close-queues wsize m.lane turn (is_first m.lane (joined m.lane file old).order) m.slot (saves.begun file old.seq) (joined m.lane file old) next state after refl s

  close-resumes : (at : Closing) (m : CloseFile) (old : Shelf) (next : Step) (state : Closing) (after : Shelf) → CloseTurn (IsFirst m.lane old.order) at
      → closes.Resumes at wsize m turn old next state after → Still next (CloseTurn (IsFirst m.lane after.order) state)
  close-resumes closing.Idle m old next state after t s = close-waits wsize m.lane turn closing.Idle old next state after s tt
  close-resumes (closing.Queued saving) m old next state after t s = close-queues wsize m.lane turn (is_first m.lane old.order) m.slot saving old next state after refl s
  close-resumes (closing.Saves saving) m old next state after t s = by (is_first m.lane old.order) refl s
    where
      by : (b : Bool) → is_first m.lane old.order ≡ b → closes.GoesOnIf b wsize m.lane m.slot turn saving old next state after
          → Still next (CloseTurn (IsFirst m.lane after.order) state)
      by true is g = close-on wsize m.lane turn m.slot true saving old next state after g is
      by false is g = close-waits wsize m.lane turn (closing.Saves saving) old next state after g t
  close-resumes (closing.ToRemove removal) m old next state after t s = close-asks wsize m.lane turn turn.room removal old next state after s t
  close-resumes (closing.Removing removal) m old next state after t s = close-waits wsize m.lane turn (closing.Removing removal) old next state after s t

  pub file-starts : (m : FileMachine) (old : Shelf) (next : Step) (new : FileMachine) (after : Shelf) → steps.Starts wsize m turn old next new after → OfFile next new after.order
  file-starts (files.Open m) old next new after s = file-as next _ new after.order s.machine_is (any-still next _ tt)
  file-starts (files.Read m) old next new after s = file-as next (files.Read s.machine) new after.order s.machine_is (any-still next _ tt)
  file-starts (files.Write m) old next new after s = file-as next (files.Write s.machine) new after.order s.machine_is (write-starts m old next s.machine after s.step)
  file-starts (files.Sync m) old next new after s =
      file-as next (files.Sync (record m { state = s.state })) new after.order s.machine_is (sync-starts m old next s.state after s.step)
  file-starts (files.Close m) old next new after s =
      file-as next (files.Close (record m { state = s.state })) new after.order s.machine_is (close-starts m old next s.state after s.step)
  file-starts (files.Truncate m) old next new after s =
      file-as next (files.Truncate (record m { state = truncates.started_state m turn old })) new after.order s.machine_is
      (any-still next _ (subst (λ (k : Shelf). TruncateTurn (IsFirst m.lane k.order) (truncates.started_state m turn old)) (sym s.shelf_is) (truncate-starts m old)))
  file-starts (files.Put m) old next new after s =
      file-as next (files.Put (record m { opening = opening.go_after (puts.opening_at turn m) turn; state = putting.Opens })) new after.order s.machine_is (any-still next _ tt)

  pub file-resumes : (m : FileMachine) (old : Shelf) (next : Step) (new : FileMachine) (after : Shelf) → FileTurn m old.order → steps.Resumes wsize m turn old next new after
      → OfFile next new after.order
  file-resumes (files.Open m) old next new after t s = file-as next _ new after.order s.machine_is (any-still next _ tt)
  file-resumes (files.Read m) old next new after t s = file-as next (files.Read s.machine) new after.order s.machine_is (any-still next _ tt)
  file-resumes (files.Write m) old next new after t s =
      file-as next (files.Write (record m { state = s.state })) new after.order s.machine_is (write-resumes wsize m.lane turn m.state old next s.state after t s.step)
  file-resumes (files.Sync m) old next new after t s =
      file-as next (files.Sync (record m { state = s.state })) new after.order s.machine_is (sync-resumes m.state m old next s.state after t s.step)
  file-resumes (files.Close m) old next new after t s =
      file-as next (files.Close (record m { state = s.state })) new after.order s.machine_is (close-resumes m.state m old next s.state after t s.step)
  file-resumes (files.Truncate m) old next new after t s =
      file-as next (files.Truncate (record m { state = truncates.resumed_state m.state m turn old })) new after.order s.machine_is
      (any-still next _ (subst (λ (k : Shelf). TruncateTurn (IsFirst m.lane k.order) (truncates.resumed_state m.state m turn old)) (sym s.shelf_is) (truncate-resumes m.state m old t)))
  file-resumes (files.Put m) old next new after t s =
      file-as next (files.Put s.machine) new after.order s.machine_is (put-resumes m.state m old next s.machine after refl t s.step)

  pub file-takes : (sent : Turn) (came : Result Reply Fault) (m : FileMachine) (old : Shelf) (next : Step) (new : FileMachine) (after : Shelf) (others : ℕ)
      → calls_of m ≡ others + 1 → FileTurn m old.order → steps.Takes wsize m sent turn came old next new after → OfFile next new after.order
  file-takes sent came (files.Open m) old next new after others one t s = file-as next _ new after.order s.machine_is (any-still next _ tt)
  file-takes sent came (files.Read m) old next new after others one t s = file-as next (files.Read s.machine) new after.order s.machine_is (any-still next _ tt)
  file-takes sent came (files.Write m) old next new after others one t s =
      file-as next (files.Write (record m { state = s.state })) new after.order s.machine_is (write-takes wsize sent turn came m.state m old next s.state after others one t s.step)
  file-takes sent came (files.Sync m) old next new after others one t s =
      file-as next (files.Sync (record m { state = s.state })) new after.order s.machine_is (sync-takes wsize sent turn came m.state m old next s.state after others one t s.step)
  file-takes sent came (files.Close m) old next new after others one t s =
      file-as next (files.Close (record m { state = s.state })) new after.order s.machine_is (close-takes wsize sent turn came m.state m old next s.state after others one t s.step)
  file-takes sent came (files.Truncate m) old next new after others one t s =
      file-as next (files.Truncate (record m { state = truncates.took_state m.state came sent turn old.repeats })) new after.order s.machine_is
      (any-still next _ (subst (λ (k : Shelf). TruncateTurn (IsFirst m.lane k.order) (truncates.took_state m.state came sent turn old.repeats)) (sym s.shelf_is)
      (truncate-takes m.state m sent came old after t)))
  file-takes sent came (files.Put m) old next new after others one t s =
      file-as next (files.Put s.machine) new after.order s.machine_is (put-takes sent came m.state m old next s.machine after others refl one t s.step)
