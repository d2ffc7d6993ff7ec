-- What each step of any operation makes of what is pending, as in `core_answers.proofs.writes`; where bytes are added, it is known that there was room for
-- them, and how the operation came to their file.
use Rattle.core_session.proofs.Prelude.{◌≡◌, ◌&&◌, ◌+◌, ◌-◌, ℕ, Bool, true, false, not, List, Option, Some, None, Result, Ok, Err, refl, sym, ap, subst, ◌∙◌, inl, inr, Wcc, Fault, Value, Call, Reply, last_end, nothing, with_cut, Pending, of_file, OnFile, with_bytes, Opens, Shelf, Turn, goes_again, left, is_first, Step, CloseFile, Closing, Removal, OpeningStep, PutFile, Putting, Saving, SyncFile, Syncing, TruncateFile, Truncating, WriteFile, Writing, is_full, GivesUpBy, closed_answer, refusal_of, remove_of, remove_busy, file_to_write, is_quiet, file_at, joined, by-step, ends_as, WalkStep, walk-takes-kept, FileMachine, Machine, PathMachine, file_of, slot_taken, begun_at, Starts, Resumes, Takes, name-goes-kept, name-takes-kept, After, CarriesReply}
use Rattle.file_ops.specs.Closings.{GivesIf}
use Rattle.name_ops.proofs.Keeps.{IsKept}
use Rattle.op_machines.specs.Openers.{placed}
use Rattle.core_answers.proofs.writes.Backs.{SyncSaves, CloseSaves, WriteSaves, PutSaves, FileSaves, waits-after, done-after, asks-after, plain-after, back-of}
use Rattle.std.specs.FinMap as finite
use Rattle.world_model.specs.declared.answer.Answer.TheVariants as answers
use Rattle.client_shelf.specs.declared.step.Step.TheVariants as nexts
use Rattle.file_ops.specs.declared.close_file.Closing.TheVariants as closing
use Rattle.file_ops.specs.declared.opening.OpeningStep.TheVariants as openings
use Rattle.file_ops.specs.declared.put_file.Putting.TheVariants as putting
use Rattle.file_ops.specs.declared.sync_file.Syncing.TheVariants as syncing
use Rattle.file_ops.specs.declared.truncate_file.Truncating.TheVariants as truncating
use Rattle.file_ops.specs.declared.write_file.Writing.TheVariants as writing
use Rattle.file_ops.specs.OpenFile as opens
use Rattle.file_ops.specs.Opening as opening
use Rattle.file_ops.specs.Closes as closes
use Rattle.file_ops.specs.PutFile as puts
use Rattle.file_ops.specs.Saves as saves
use Rattle.file_ops.specs.Syncs as syncs
use Rattle.file_ops.specs.TruncateFile as truncates
use Rattle.file_ops.specs.WriteFile as writes
use Rattle.name_ops.specs.declared.walk.WalkStep.TheVariants as walks
use Rattle.name_ops.specs.Walking as walking
use Rattle.op_machines.specs.declared.file_machine.FileMachine.TheVariants as files
use Rattle.op_machines.specs.declared.machine.Machine.TheVariants as machines
use Rattle.op_machines.specs.FileSteps as steps
use Rattle.op_machines.specs.PathSteps as paths
use Rattle.core_answers.proofs.writes.AllBacks.{Saves, PathSaves}
use Rattle.core_answers.proofs.writes.Plain.{PlainAsks, OpeningAsks, go-asks, took-asks, opening-plain, open-starts, open-resumes, open-takes, read-starts, read-resumes, read-takes, truncate-starts, truncate-resumes, truncate-takes}

-- ---- what is carried through a step

-- What a save makes of P without a reply, and what else an operation does without adding bytes; Q holds with a call that is asked for.
pub record Moves (wsize : ℕ) (turn : Turn) (P : Pending → Type 0) (Q : Call → Pending → Type 0) : Type 0 where
  pub goes : (by_reply : Bool) (s : Saving) (back : Pending) (next : _) (new : Saving) (after : Pending)
      → saves.Goes wsize turn.xid turn.room by_reply s back next new after → P back → After P Q (syncs.sync_next next) after
  pub cuts : (file : List ℕ) (size upto : ℕ) (old new : Pending) → is_quiet file old ≡ true → OnFile old new file (with_cut size upto (of_file file old)) → P old → P new
  pub gives : (file : List ℕ) (old new : Pending) → is_quiet file old ≡ true → OnFile old new file nothing → P old → P new
  pub plain : (call : Call) (back : Pending) → P back → Q call back

-- Bytes are added once at most in a step: P holds before, and R since.
pub record Bears (wsize : ℕ) (turn : Turn) (A : List ℕ → ℕ → List ℕ → ℕ → Type 0) (P R : Pending → Type 0) (Q : Call → Pending → Type 0) : Type 0 where
  pub first : Moves wsize turn P Q
  pub then_ : Moves wsize turn R Q
  pub less : (back : Pending) → P back → R back
  pub adds : (file : List ℕ) (offset : ℕ) (bytes : List ℕ) (number : ℕ) (old new : Pending) → A file offset bytes number → is_full bytes old ≡ false
      → OnFile old new file (with_bytes offset bytes number (of_file file old)) → P old → R new

-- ---- the file to which bytes are added

-- B of the file of a write whose save for room ends well
abbrev pub RoomHas : (List ℕ → Type 0) → (at : Writing) (wsize : ℕ) (m : WriteFile) (sent turn : Turn) (came : Result Reply Fault) (old : Shelf) (next : Step) (state : Writing) (after : Shelf)
    → writes.TakesIn at wsize m sent turn came old next state after → Type 0
RoomHas B writing.Idle wsize m sent turn came old next state after t = Unit {0}
RoomHas B (writing.Room file saving) wsize m sent turn came old next state after t = t.told ≡ ends_as (Ok tt) → B file

-- B of the file that a put has opened, or for which it made room
abbrev pub PutHas : (List ℕ → Type 0) → (at : Putting) (wsize : ℕ) (m : PutFile) (sent turn : Turn) (came : Result Reply Fault) (old : Shelf) (next : Step) (new : PutFile) (after : Shelf)
    → puts.Takes at wsize m sent turn came old next new after → Type 0
PutHas B putting.Idle wsize m sent turn came old next new after t = Unit {0}
PutHas B putting.Opens wsize m sent turn came old next new after t = (file : List ℕ) → t.step ≡ openings.Ended (Ok file) → B file
PutHas B (putting.Adds file) wsize m sent turn came old next new after t = RoomHas B m.write.state wsize m.write sent turn came old t.told t.written t.mid t.takes
PutHas B (putting.Saves saving) wsize m sent turn came old next new after t = Unit {0}

-- the step ends the operation well
abbrev pub EndsWell : Step → Type 0
EndsWell next = (value : Value) × (next ≡ nexts.Done (answers.Done value))

module _ (A : List ℕ → ℕ → List ℕ → Type 0) where
  abbrev pub FileHas : (wsize : ℕ) (m : FileMachine) (sent turn : Turn) (came : Result Reply Fault) (old : Shelf) (next : Step) (new : FileMachine) (after : Shelf)
      → steps.Takes wsize m sent turn came old next new after → Type 0
  FileHas wsize (files.Open m) sent turn came old next new after t = Unit {0}
  FileHas wsize (files.Read m) sent turn came old next new after t = Unit {0}
  FileHas wsize (files.Write m) sent turn came old next new after t =
      RoomHas (λ f. EndsWell next → A f m.offset (writes.made_bytes m.text)) m.state wsize m sent turn came old next t.state after t.step
  FileHas wsize (files.Sync m) sent turn came old next new after t = Unit {0}
  FileHas wsize (files.Close m) sent turn came old next new after t = Unit {0}
  FileHas wsize (files.Truncate m) sent turn came old next new after t = Unit {0}
  FileHas wsize (files.Put m) sent turn came old next new after t =
      PutHas (λ f. A f m.write.offset (writes.made_bytes m.write.text)) m.state wsize m sent turn came old next t.machine after t.step

  abbrev pub PathHas : (b : Bool) (wsize : ℕ) (m : PathMachine) (sent turn : Turn) (came : Result Reply Fault) (old : Shelf) (next : Step) (new : PathMachine) (after : Shelf)
      → paths.PathTakes b wsize m sent turn came old next new after → Type 0
  PathHas true wsize m sent turn came old next new after t = FileHas wsize (file_of m.opener) sent turn came old next (file_of t.opener) after t.step
  PathHas false wsize m sent turn came old next new after t = Unit {0}

  -- A of the file and of the bytes that are added
  abbrev pub TakesHas : (wsize : ℕ) (m : Machine) (sent turn : Turn) (came : Result Reply Fault) (old : Shelf) (next : Step) (new : Machine) (after : Shelf)
      → Takes wsize m sent turn came old next new after → Type 0
  TakesHas wsize (machines.File m) sent turn came old next new after t = FileHas wsize m sent turn came old next t.machine after t.step
  TakesHas wsize (machines.Path m) sent turn came old next new after t = PathHas m.arrived wsize m sent turn came old next t.machine after t.step
  TakesHas wsize (machines.Name m) sent turn came old next new after t = Unit {0}

  -- as it begins
  abbrev pub FileStartsHas : FileMachine → Opens → Step → Type 0
  FileStartsHas (files.Open m) slots next = Unit {0}
  FileStartsHas (files.Read m) slots next = Unit {0}
  FileStartsHas (files.Write m) slots next = (file : List ℕ) → file_to_write m.lane m.slot slots ≡ Ok file → EndsWell next → A file m.offset (writes.text_bytes m.text)
  FileStartsHas (files.Sync m) slots next = Unit {0}
  FileStartsHas (files.Close m) slots next = Unit {0}
  FileStartsHas (files.Truncate m) slots next = Unit {0}
  FileStartsHas (files.Put m) slots next = Unit {0}

  abbrev pub StartsHas : Machine → Opens → Step → Type 0
  StartsHas (machines.File m) slots next = FileStartsHas m slots next
  StartsHas (machines.Path m) slots next = Unit {0}
  StartsHas (machines.Name m) slots next = Unit {0}

-- ---- one step that adds nothing

module _ (wsize : ℕ) (turn : Turn) (P : Pending → Type 0) (Q : Call → Pending → Type 0) (w : Moves wsize turn P Q) where
  -- a machine whose step puts nothing in flight and adds nothing
  plain-step : (next : Step) (old new : Pending) → PlainAsks next → new ≡ old → P old → After P Q next new
  plain-step next old new asks same p =
      let here : P new = subst P (sym same) p in plain-after P Q next new asks (λ call other. w.plain call new here) here

  -- ---- what is given up

  given-if : (quiet b : Bool) (file : List ℕ) (old new : Pending) → is_quiet file old ≡ quiet → GivesIf (b && quiet) file old new → P old → P new
  given-if true true file old new is g p = w.gives file old new is g p
  given-if true false file old new is g p = subst P (sym g) p
  given-if false true file old new is g p = subst P (sym g) p
  given-if false false file old new is g p = subst P (sym g) p

  given-by : (refusal : Option Fault) (file : List ℕ) (slots : Opens) (old new : Pending) → GivesUpBy refusal file slots old new → P old → P new
  given-by None file slots old new g p = subst P (sym g) p
  given-by (Some fault) file slots old new g p = given-if (is_quiet file old) (not g.is_open) file old new refl g.back p

  -- ---- syncs

  sync-as : (gives : _) (next : Step) (back : Pending) → next ≡ syncs.sync_next gives → After P Q (syncs.sync_next gives) back → After P Q next back
  sync-as gives next back n l = subst (λ (k : Step). After P Q k back) (sym n) l

  sync-queues : (b : Bool) (lane : ℕ) (saving : Saving) (old : Shelf) (next : Step) (state : Syncing) (new : Shelf)
      → syncs.QueuesIf b wsize lane turn saving old next state new → P old.back → After P Q next new.back
  sync-queues true lane saving old next state new q p = sync-as q.gives next new.back q.follows.next_is (w.goes false saving old.back q.gives q.saved new.back q.goes p)
  sync-queues false lane saving old next state new q p = waits-after P Q next old.back new.back q.next_is (back-of old new q.shelf_is) p

  sync-starts : (machine : SyncFile) (old : Shelf) (next : Step) (state : Syncing) (new : Shelf) → syncs.Starts wsize machine turn old next state new → P old.back
      → After P Q next new.back
  sync-starts machine old next state new s p = at (file_at machine.lane machine.slot old.opens) s
    where
      at : (found : Option (List ℕ)) → syncs.StartsAt found wsize machine turn old next state new → After P Q next new.back
      at None s = done-after P Q _ next old.back new.back s.next_is (back-of old new s.shelf_is) p
      at (Some file) s = sync-queues (is_first machine.lane (joined machine.lane file old).order) machine.lane (saves.begun file old.seq)
          (joined machine.lane file old) next state new s p

  sync-resumes : (at : Syncing) (machine : SyncFile) (old : Shelf) (next : Step) (state : Syncing) (new : Shelf) → syncs.Resumes at wsize machine turn old next state new
      → P old.back → After P Q next new.back
  sync-resumes syncing.Idle machine old next state new s p = waits-after P Q next old.back new.back s.next_is (back-of old new s.shelf_is) p
  sync-resumes (syncing.Saves saving) machine old next state new s p = sync-queues (is_first machine.lane old.order) machine.lane saving old next state new s p

  sync-takes : (sent : Turn) (came : Result Reply Fault) (N : Saving → Pending → Type 0) → CarriesReply wsize sent turn came N P Q
      → (at : Syncing) (machine : SyncFile) (old : Shelf) (next : Step) (state : Syncing) (new : Shelf)
      → syncs.Takes at wsize machine sent turn came old next state new → SyncSaves (λ s. N s old.back) at → P old.back → After P Q next new.back
  sync-takes sent came N v syncing.Idle machine old next state new t n p = waits-after P Q next old.back new.back t.next_is (back-of old new t.shelf_is) p
  sync-takes sent came N v (syncing.Saves saving) machine old next state new t n p =
      sync-as t.gives next new.back t.follows.next_is (v.takes old.repeats saving old.back t.gives t.saved new.back new.repeats t.takes n p)

  -- ---- closes

  close-waits : (next : Step) (old new : Shelf) → next ≡ nexts.Wait → new ≡ old → P old.back → After P Q next new.back
  close-waits next old new waits same p = waits-after P Q next old.back new.back waits (back-of old new same) p

  close-ends : (lane : ℕ) (file : List ℕ) (refusal : Option Fault) (old : Shelf) (next : Step) (state : Closing) (new : Shelf)
      → closes.Ends lane file refusal old next state new → P old.back → After P Q next new.back
  close-ends lane file refusal old next state new e p =
      done-after P Q (closed_answer refusal) next new.back new.back e.next_is refl (given-by refusal file old.opens old.back new.back e.back p)

  close-asks : (b : Bool) (removal : Removal) (old : Shelf) (next : Step) (state : Closing) (new : Shelf) → closes.Asks b removal old next state new → P old.back
      → After P Q next new.back
  close-asks true removal old next state new a p =
      asks-after P Q (remove_of removal) next old.back new.back a.next_is (back-of old new a.shelf_is) (w.plain (remove_of removal) old.back p)
  close-asks false removal old next state new a p = close-waits next old new a.next_is a.shelf_is p

  close-frees : (lane slot : ℕ) (file : List ℕ) (refusal : Option Fault) (old : Shelf) (next : Step) (state : Closing) (new : Shelf)
      → closes.Frees lane slot turn.room file refusal old next state new → P old.back → After P Q next new.back
  close-frees lane slot file refusal old next state new f p = at f.place f.ends
    where
      freed : P f.freed.back
      freed = subst P (sym (ap (λ (s : Shelf). s.back) f.slot_is)) p

      at : (place : Option (List ℕ × List ℕ)) → closes.EndsAt place lane turn.room file refusal f.freed next state new → After P Q next new.back
      at None e = close-ends lane file refusal f.freed next state new e freed
      at (Some place) e = close-asks turn.room (record { file = file; dir = place.0; name = place.1; refusal = refusal }) f.freed next state new e freed

  close-follows : (gives : _) (lane slot : ℕ) (begun : Bool) (saving : Saving) (old : Shelf) (next : Step) (state : Closing) (new : Shelf)
      → closes.Follows gives lane slot turn.room begun saving old next state new → After P Q (syncs.sync_next gives) old.back → After P Q next new.back
  close-follows gives lane slot begun saving old next state new f l = by-step
      (λ g. closes.Follows g lane slot turn.room begun saving old next state new → After P Q (syncs.sync_next g) old.back → After P Q next new.back)
      (λ call f l. asks-after P Q call next old.back new.back f.0 (back-of old new f.2) l)
      (λ f l. close-waits next old new f.0 f.2 l)
      (λ result f l. close-frees lane slot saving.file (refusal_of result) old next state new f l)
      gives f l

  close-on : (lane slot : ℕ) (begun : Bool) (saving : Saving) (old : Shelf) (next : Step) (state : Closing) (new : Shelf)
      → closes.GoesOn wsize lane slot turn begun saving old next state new → P old.back → After P Q next new.back
  close-on lane slot begun saving old next state new g p = close-follows g.gives lane slot begun g.saved g.gone next state new g.follows
      (w.goes false saving old.back g.gives g.saved g.gone.back g.goes p)

  close-queues : (b : Bool) (lane slot : ℕ) (saving : Saving) (old : Shelf) (next : Step) (state : Closing) (new : Shelf)
      → closes.QueuesIf b wsize lane slot turn saving old next state new → P old.back → After P Q next new.back
  close-queues false lane slot saving old next state new q p = close-waits next old new q.next_is q.shelf_is p
  close-queues true lane slot saving old next state new q p = at (last_end (of_file saving.file old.back).segments) q
    where
      at : (end : Option ℕ) → closes.Begins end wsize lane slot turn saving old next state new → After P Q next new.back
      at None b = close-frees lane slot saving.file None old next state new b p
      at (Some end) b = close-on lane slot false saving old next state new b p

  close-starts : (machine : CloseFile) (old : Shelf) (next : Step) (state : Closing) (new : Shelf) → closes.Starts wsize machine turn old next state new → P old.back
      → After P Q next new.back
  close-starts machine old next state new s p = at (file_at machine.lane machine.slot old.opens) s
    where
      at : (found : Option (List ℕ)) → closes.StartsAt found wsize machine turn old next state new → After P Q next new.back
      at None s = done-after P Q _ next old.back new.back s.next_is (back-of old new s.shelf_is) p
      at (Some file) s = close-queues (is_first machine.lane (joined machine.lane file old).order) machine.lane machine.slot (saves.begun file old.seq)
          (joined machine.lane file old) next state new s p

  close-resumes : (at : Closing) (machine : CloseFile) (old : Shelf) (next : Step) (state : Closing) (new : Shelf) → closes.Resumes at wsize machine turn old next state new
      → P old.back → After P Q next new.back
  close-resumes closing.Idle machine old next state new s p = close-waits next old new s.next_is s.shelf_is p
  close-resumes (closing.Queued saving) machine old next state new s p = close-queues (is_first machine.lane old.order) machine.lane machine.slot saving old next state new s p
  close-resumes (closing.Saves saving) machine old next state new s p = by (is_first machine.lane old.order) s
    where
      by : (b : Bool) → closes.GoesOnIf b wsize machine.lane machine.slot turn saving old next state new → After P Q next new.back
      by true g = close-on machine.lane machine.slot true saving old next state new g p
      by false g = close-waits next old new g.next_is g.shelf_is p
  close-resumes (closing.ToRemove removal) machine old next state new s p = close-asks turn.room removal old next state new s p
  close-resumes (closing.Removing removal) machine old next state new s p = close-waits next old new s.next_is s.shelf_is p

  close-takes : (sent : Turn) (came : Result Reply Fault) (N : Saving → Pending → Type 0) → CarriesReply wsize sent turn came N P Q
      → (at : Closing) (machine : CloseFile) (old : Shelf) (next : Step) (state : Closing) (new : Shelf)
      → closes.Takes at wsize machine sent turn came old next state new → CloseSaves (λ s. N s old.back) at → P old.back → After P Q next new.back
  close-takes sent came N v closing.Idle machine old next state new t n p = close-waits next old new t.next_is t.shelf_is p
  close-takes sent came N v (closing.Queued saving) machine old next state new t n p = close-waits next old new t.next_is t.shelf_is p
  close-takes sent came N v (closing.ToRemove removal) machine old next state new t n p = close-waits next old new t.next_is t.shelf_is p
  close-takes sent came N v (closing.Saves saving) machine old next state new t n p =
      close-follows t.gives machine.lane machine.slot true t.saved t.took next state new t.follows
      (v.takes old.repeats saving old.back t.gives t.saved t.took.back t.took.repeats t.takes n p)
  close-takes sent came N v (closing.Removing removal) machine old next state new t n p = by (goes_again (remove_busy came) sent turn old.repeats) t.ends
    where
      took : P t.took.back
      took = subst P (sym (ap (λ (s : Shelf). s.back) t.others)) p

      by : (b : Bool) → closes.EndsIf b machine.lane removal t.took next state new → After P Q next new.back
      by true e =
          asks-after P Q (remove_of removal) next t.took.back new.back e.next_is (back-of t.took new e.shelf_is) (w.plain (remove_of removal) t.took.back took)
      by false e = close-ends machine.lane removal.file removal.refusal t.took next state new e took

  -- ---- writes and fills

  room-as : (told : _) (lane : ℕ) (file : List ℕ) (saved : Saving) (shelf : Shelf) (next : Step) (state : Writing) (after : Shelf)
      → writes.Leads (writes.room_next told) (writes.room_state told file saved) (writes.room_shelf told lane shelf) next state after
      → After P Q (syncs.sync_next told) shelf.back → After P Q next after.back
  room-as told lane file saved shelf next state after r l = by-step
      (λ t. writes.Leads (writes.room_next t) (writes.room_state t file saved) (writes.room_shelf t lane shelf) next state after
      → After P Q (syncs.sync_next t) shelf.back → After P Q next after.back)
      (λ call r l. asks-after P Q call next shelf.back after.back r.gives_next (ap (λ (s : Shelf). s.back) r.shelf_is) l)
      (λ r l. waits-after P Q next shelf.back after.back r.gives_next (ap (λ (s : Shelf). s.back) r.shelf_is) l)
      ended told r l
    where
      ended : (result : Result (Unit {0}) Fault)
          → writes.Leads (writes.room_next (ends_as result)) (writes.room_state (ends_as result) file saved) (writes.room_shelf (ends_as result) lane shelf) next state after
          → P shelf.back → After P Q next after.back
      ended (Ok done) r l = waits-after P Q next shelf.back after.back r.gives_next (ap (λ (s : Shelf). s.back) r.shelf_is) l
      ended (Err fault) r l = done-after P Q _ next shelf.back after.back r.gives_next (ap (λ (s : Shelf). s.back) r.shelf_is) l

  write-refuses : (fault : Fault) (shelf : Shelf) (next : Step) (state : Writing) (after : Shelf) → writes.Refuses fault shelf next state after → P shelf.back
      → After P Q next after.back
  write-refuses fault shelf next state after r p = done-after P Q _ next shelf.back after.back r.gives_next (ap (λ (s : Shelf). s.back) r.shelf_is) p

  write-saves : (b : Bool) (lane : ℕ) (file : List ℕ) (saving : Saving) (shelf : Shelf) (next : Step) (state : Writing) (after : Shelf)
      → writes.SavesIf b wsize lane file saving turn shelf next state after → P shelf.back → After P Q next after.back
  write-saves false lane file saving shelf next state after s p = waits-after P Q next shelf.back after.back s.gives_next (ap (λ (s : Shelf). s.back) s.shelf_is) p
  write-saves true lane file saving shelf next state after s p =
      room-as s.told lane file s.saved (record shelf { back = s.back }) next state after s.leads (w.goes false saving shelf.back s.told s.saved s.back s.goes p)

  write-resumes : (at : Writing) (lane : ℕ) (old : Shelf) (next : Step) (state : Writing) (after : Shelf)
      → writes.ResumesIn at wsize lane turn old next state after → P old.back → After P Q next after.back
  write-resumes writing.Idle lane old next state after s p = waits-after P Q next old.back after.back s.gives_next (ap (λ (s : Shelf). s.back) s.shelf_is) p
  write-resumes (writing.Room file saving) lane old next state after s p = write-saves (is_first lane old.order) lane file saving old next state after s p

  -- ---- puts

  put-ends : (lane : ℕ) (file : List ℕ) (refusal : Option Fault) (old : Shelf) (next : Step) (state : Putting) (after : Shelf)
      → puts.Ends lane file refusal old next state after → P old.back → After P Q next after.back
  put-ends lane file refusal old next state after e p = done-after P Q (closed_answer refusal) next after.back after.back e.next_is refl
      (gone (puts.keeps_refused lane file old.puts old.order) e.back)
    where
      gone : (b : Bool) → puts.GivesUpAlone b refusal file old.opens old.back after.back → P after.back
      gone true g = subst P (sym g) p
      gone false g = given-by refusal file old.opens old.back after.back g p

  put-follows : (gives : _) (lane : ℕ) (saving : Saving) (old : Shelf) (next : Step) (state : Putting) (after : Shelf)
      → puts.Follows gives lane saving old next state after → After P Q (syncs.sync_next gives) old.back → After P Q next after.back
  put-follows gives lane saving old next state after f l = by-step
      (λ g. puts.Follows g lane saving old next state after → After P Q (syncs.sync_next g) old.back → After P Q next after.back)
      (λ call f l. asks-after P Q call next old.back after.back f.0 (back-of old after f.2) l)
      (λ f l. close-waits next old after f.0 f.2 l)
      (λ result f l. put-ends lane saving.file (refusal_of result) old next state after f l)
      gives f l

  put-queues : (b : Bool) (lane : ℕ) (saving : Saving) (old : Shelf) (next : Step) (state : Putting) (after : Shelf)
      → puts.QueuesIf b wsize lane turn saving old next state after → P old.back → After P Q next after.back
  put-queues false lane saving old next state after q p = close-waits next old after q.next_is q.shelf_is p
  put-queues true lane saving old next state after g p = put-follows g.gives lane g.saved g.gone next state after g.follows
      (w.goes false saving old.back g.gives g.saved g.gone.back g.goes p)

  put-wrote : (told : Step) (lane : ℕ) (file : List ℕ) (old : Shelf) (next : Step) (state : Putting) (after : Shelf)
      → puts.AfterWrite told wsize lane file turn old next state after → After P Q told old.back → After P Q next after.back
  put-wrote (nexts.Send call) lane file old next state after a l = asks-after P Q call next old.back after.back a.0 (back-of old after a.2) l
  put-wrote nexts.Wait lane file old next state after a l = close-waits next old after a.0 a.2 l
  put-wrote (nexts.Done (answers.Done value)) lane file old next state after a l = put-queues (is_first lane (joined lane file old).order) lane
      (saves.begun file old.seq) (joined lane file old) next state after a l
  put-wrote (nexts.Done (answers.Refused fault)) lane file old next state after a l = put-ends lane file (Some fault) old next state after a l

  opening-as : (step : OpeningStep) (next : Step) (old new : Shelf) → next ≡ opens.goes_as step → new ≡ old → OpeningAsks step → P old.back → After P Q next new.back
  opening-as step next old new is same asks p = plain-step next old.back new.back (opening-plain step next is asks) (back-of old new same) p

  put-resumes : (at : Putting) (machine : PutFile) (old : Shelf) (next : Step) (new : PutFile) (after : Shelf) → puts.Resumes at wsize machine turn old next new after
      → P old.back → After P Q next after.back
  put-resumes putting.Idle machine old next new after s p = close-waits next old after s.next_is s.shelf_is p
  put-resumes putting.Opens machine old next new after s p =
      opening-as (opening.go_next machine.opening turn) next old after s.0 s.2 (go-asks machine.opening turn (opening.go_next machine.opening turn) refl) p
  put-resumes (putting.Adds file) machine old next new after s p =
      put-wrote s.told machine.write.lane file s.mid next new.state after s.goes.follows (write-resumes machine.write.state machine.write.lane old s.told s.written s.mid s.resumes p)
  put-resumes (putting.Saves saving) machine old next new after s p = put-queues (is_first machine.write.lane old.order) machine.write.lane saving old next
      new.state after s.0 p

  -- ---- truncates

  begun-back : (found : Result (List ℕ) Fault) (m : TruncateFile) (old : Shelf) → (truncates.begun_shelf found m old).back ≡ old.back
  begun-back (Ok file) m old = refl
  begun-back (Err fault) m old = refl

  cut-quiet : (b : Bool) (file : List ℕ) (size upto : ℕ) (old new : Pending) → is_quiet file old ≡ b → truncates.CutsQuiet b file size upto old new → P old → P new
  cut-quiet true file size upto old new is c p = w.cuts file size upto old new is c p
  cut-quiet false file size upto old new is c p = subst P (sym c) p

  truncate-cuts : (at : Truncating) (m : TruncateFile) (came : Result Reply Fault) (old new : Pending) → truncates.TookBack at m came old new → P old → P new
  truncate-cuts truncating.Idle m came old new t p = subst P (sym t) p
  truncate-cuts (truncating.Queued file upto) m came old new t p = subst P (sym t) p
  truncate-cuts (truncating.Asked file upto) m came old new t p = told (truncates.size_told came) t
    where
      told : (result : Result Wcc Fault) → truncates.CutsBack result file m.size upto old new → P new
      told (Ok wcc) c = cut-quiet (is_quiet file old) file m.size upto old new refl c p
      told (Err fault) c = subst P (sym c) p

  -- ---- any operation

  pub file-resumes : (machine : FileMachine) (old : Shelf) (next : Step) (new : FileMachine) (after : Shelf) → steps.Resumes wsize machine turn old next new after
      → P old.back → After P Q next after.back
  file-resumes (files.Open m) old next new after s p = plain-step next old.back after.back (open-resumes m turn next s.next_is) (back-of old after s.shelf_is) p
  file-resumes (files.Read m) old next new after s p =
      plain-step next old.back after.back (read-resumes m.reading turn m old.pages old.back next s.machine after.pages s.step) (ap (λ (x : Shelf). x.back) s.others) p
  file-resumes (files.Write m) old next new after s p = write-resumes m.state m.lane old next s.state after s.step p
  file-resumes (files.Sync m) old next new after s p = sync-resumes m.state m old next s.state after s.step p
  file-resumes (files.Close m) old next new after s p = close-resumes m.state m old next s.state after s.step p
  file-resumes (files.Truncate m) old next new after s p =
      plain-step next old.back after.back (truncate-resumes m.state m turn old next s.next_is) (back-of old after s.shelf_is) p
  file-resumes (files.Put m) old next new after s p = put-resumes m.state m old next s.machine after s.step p

  follows-path : (step : WalkStep) (m : PathMachine) (old : Shelf) (next : Step) (new : PathMachine) (after : Shelf) → P old.back → paths.Follows step wsize m turn old next new after
      → After P Q next after.back
  follows-path (walks.Send call) m old next new after p f = asks-after P Q call next old.back after.back f.0 (back-of old after f.2) (w.plain call old.back p)
  follows-path walks.Wait m old next new after p f = waits-after P Q next old.back after.back f.0 (back-of old after f.2) p
  follows-path (walks.At dir) m old next new after p f = file-resumes (file_of (placed dir m.opener)) old next (file_of f.opener) after f.step p
  follows-path (walks.Refused fault) m old next new after p f = done-after P Q _ next old.back after.back f.0 (back-of old after f.2) p

  path-resumes : (b : Bool) (m : PathMachine) (old : Shelf) (next : Step) (new : PathMachine) (after : Shelf) → P old.back → paths.PathResumes b wsize m turn old next new after
      → After P Q next after.back
  path-resumes true m old next new after p r = file-resumes (file_of m.opener) old next (file_of r.opener) after r.step p
  path-resumes false m old next new after p r =
      follows-path (walking.go_next m.walk turn old) (record m { walk = walking.go_after m.walk turn old }) (walking.go_shelf m.walk turn old) next new after p r

  path-starts : (taken : Bool) (m : PathMachine) (old : Shelf) (next : Step) (new : PathMachine) (after : Shelf) → P old.back → paths.StartsIf taken wsize m turn old next new after
      → After P Q next after.back
  path-starts true m old next new after p s = done-after P Q _ next old.back after.back s.0 (back-of old after s.2) p
  path-starts false m old next new after p s = path-resumes m.arrived (record m { opener = begun_at (turn.moment - 1) m.opener }) old next new after p s

  -- an operation on names
  name-all : (next : Step) (old new : Shelf) → IsKept old new → P old.back → After P Q next new.back
  name-all (nexts.Send call) old new k p = w.plain call new.back (subst P (sym k.back) p)
  name-all nexts.Wait old new k p = subst P (sym k.back) p
  name-all (nexts.Done answer) old new k p = subst P (sym k.back) p

  pub all-resumes : (m : Machine) (old : Shelf) (next : Step) (new : Machine) (after : Shelf) → P old.back → Resumes wsize m turn old next new after → After P Q next after.back
  all-resumes (machines.File m) old next new after p s = file-resumes m old next s.machine after s.step p
  all-resumes (machines.Path m) old next new after p s = path-resumes m.arrived m old next s.machine after p s.step
  all-resumes (machines.Name m) old next new after p s = name-all next old after (name-goes-kept m turn old next s.machine after s.step) p

-- ---- one step that may add bytes

module _ (wsize : ℕ) (turn : Turn) (A : List ℕ → ℕ → List ℕ → ℕ → Type 0) (P R : Pending → Type 0) (Q : Call → Pending → Type 0) (w : Bears wsize turn A P R Q) where
  less-after : (next : Step) (back : Pending) → After P Q next back → After R Q next back
  less-after (nexts.Send call) back p = p
  less-after nexts.Wait back p = w.less back p
  less-after (nexts.Done answer) back p = w.less back p

  -- ---- writes and fills

  -- it ends well where it adds
  write-writes : (lane : ℕ) (file : List ℕ) (offset : ℕ) (bytes : List ℕ) (shelf : Shelf) (next : Step) (state : Writing) (after : Shelf)
      → (EndsWell next → A file offset bytes (shelf.seq + 1)) → writes.Writes wsize lane file offset bytes turn shelf next state after → P shelf.back → After R Q next after.back
  write-writes lane file offset bytes shelf next state after a wrote p = by (is_full bytes shelf.back) refl wrote
    where
      by : (b : Bool) → is_full bytes shelf.back ≡ b → writes.WritesIf b wsize lane file offset bytes turn shelf next state after → After R Q next after.back
      by true full (inl s) = less-after next after.back (write-saves wsize turn P Q w.first (is_first lane (joined lane s.of shelf).order) lane file (saves.begun s.of shelf.seq) (joined lane s.of shelf) next state
          after s.saves p)
      by true full (inr s) = less-after next after.back (write-refuses wsize turn P Q w.first _ shelf next state after s.1 p)
      by false full (inl s) =
          done-after R Q _ next after.back after.back s.leads.gives_next refl (w.adds file offset bytes (shelf.seq + 1) shelf.back after.back (a (_, s.leads.gives_next)) full s.adds p)
      by false full (inr s) = less-after next after.back (write-refuses wsize turn P Q w.first _ shelf next state after s p)

  write-starts : (machine : WriteFile) (old : Shelf) (next : Step) (new : WriteFile) (after : Shelf)
      → ((file : List ℕ) → file_to_write machine.lane machine.slot old.opens ≡ Ok file → EndsWell next → A file machine.offset (writes.text_bytes machine.text) (old.seq + 1))
      → writes.Starts wsize machine turn old next new after → P old.back → After R Q next after.back
  write-starts machine old next new after brings s p = at (file_to_write machine.lane machine.slot old.opens) refl s
    where
      at : (found : Result (List ℕ) Fault) → file_to_write machine.lane machine.slot old.opens ≡ found → writes.StartsAt found wsize machine turn old next new after
          → After R Q next after.back
      at (Err fault) is s = less-after next after.back (write-refuses wsize turn P Q w.first fault old next new.state after s.refuses p)
      at (Ok file) is (inl s) = write-writes machine.lane file machine.offset (writes.text_bytes machine.text) old next new.state after (brings file is) s.writes p
      at (Ok file) is (inr s) = less-after next after.back (write-refuses wsize turn P Q w.first _ old next new.state after s.refuses p)

  write-follows : (told : _) (machine : WriteFile) (file : List ℕ) (saved : Saving) (shelf : Shelf) (next : Step) (state : Writing) (after : Shelf)
      → (told ≡ ends_as (Ok tt) → EndsWell next → A file machine.offset (writes.made_bytes machine.text) (shelf.seq + 1))
      → writes.Follows told wsize machine file saved turn shelf next state after → After P Q (syncs.sync_next told) shelf.back → After R Q next after.back
  write-follows told machine file saved shelf next state after a f l = by-step
      (λ t. (t ≡ ends_as (Ok tt) → EndsWell next → A file machine.offset (writes.made_bytes machine.text) (shelf.seq + 1))
      → writes.Follows t wsize machine file saved turn shelf next state after → After P Q (syncs.sync_next t) shelf.back → After R Q next after.back)
      (λ call a f l. asks-after R Q call next shelf.back after.back f.gives_next (ap (λ (s : Shelf). s.back) f.shelf_is) l)
      (λ a f l. waits-after R Q next shelf.back after.back f.gives_next (ap (λ (s : Shelf). s.back) f.shelf_is) (w.less shelf.back l))
      ended told a f l
    where
      ended : (result : Result (Unit {0}) Fault) → (ends_as result ≡ ends_as (Ok tt) → EndsWell next → A file machine.offset (writes.made_bytes machine.text) (shelf.seq + 1))
          → writes.Follows (ends_as result) wsize machine file saved turn shelf next state after → P shelf.back → After R Q next after.back
      ended (Ok done) a f l =
          write-writes machine.lane file machine.offset (writes.made_bytes machine.text) (record shelf { order = left machine.lane shelf.order }) next state after (a refl) f l
      ended (Err fault) a f l = done-after R Q _ next shelf.back after.back f.gives_next (ap (λ (s : Shelf). s.back) f.shelf_is) (w.less shelf.back l)

  -- with B of the next step of the write, which a put takes with it
  write-takes : (sent : Turn) (came : Result Reply Fault) (N : Saving → Pending → Type 0) → CarriesReply wsize sent turn came N P Q
      → (at : Writing) (machine : WriteFile) (old : Shelf) (next : Step) (state : Writing) (after : Shelf)
      → (t : writes.TakesIn at wsize machine sent turn came old next state after)
      → RoomHas (λ f. EndsWell next → A f machine.offset (writes.made_bytes machine.text) (old.seq + 1)) at wsize machine sent turn came old next state after t
      → WriteSaves (λ s. N s old.back) at → P old.back → After R Q next after.back
  write-takes sent came N v writing.Idle machine old next state after t a n p = waits-after R Q next old.back after.back t.gives_next (ap (λ (s : Shelf). s.back) t.shelf_is) (w.less old.back p)
  write-takes sent came N v (writing.Room file saving) machine old next state after t a n p =
      write-follows t.told machine file t.saved _ next state after a t.follows (v.takes old.repeats saving old.back t.told t.saved t.back t.repeats t.takes n p)

  -- ---- puts

  put-opened : (step : OpeningStep) (machine : PutFile) (old : Shelf) (next : Step) (new : PutFile) (after : Shelf)
      → ((file : List ℕ) → step ≡ openings.Ended (Ok file) → A file machine.write.offset (writes.made_bytes machine.write.text) (old.seq + 1))
      → puts.AfterOpening step wsize machine turn old next new after → OpeningAsks step → P old.back → After R Q next after.back
  put-opened (openings.Send call) machine old next new after brings a asks p =
      asks-after R Q call next old.back after.back a.0 (back-of old after a.2) (w.first.plain call old.back p)
  put-opened openings.Wait machine old next new after brings a asks p = close-waits wsize turn R Q w.then_ next old after a.next_is a.shelf_is (w.less old.back p)
  put-opened (openings.Ended (Ok file)) machine old next new after brings a asks p =
      put-wrote wsize turn R Q w.then_ a.told machine.write.lane file a.mid next new.state after a.goes.follows
      (write-writes machine.write.lane file machine.write.offset (writes.made_bytes machine.write.text) (puts.put_at machine.write.lane file old) a.told a.written a.mid
      (λ well. brings file refl) a.writes p)
  put-opened (openings.Ended (Err fault)) machine old next new after brings a asks p = done-after R Q _ next old.back after.back a.0 (back-of old after a.2) (w.less old.back p)

  -- of the same bytes where its opening took a reply
  room-map : (B C : List ℕ → Type 0) → ((f : List ℕ) → B f → C f) → (at : Writing) (m : WriteFile) (sent : Turn) (came : Result Reply Fault) (old : Shelf) (next : Step) (state : Writing)
      (after : Shelf) (t : writes.TakesIn at wsize m sent turn came old next state after) → RoomHas B at wsize m sent turn came old next state after t
      → RoomHas C at wsize m sent turn came old next state after t
  room-map B C f writing.Idle m sent came old next state after t r = tt
  room-map B C f (writing.Room file saving) m sent came old next state after t r = λ well. f file (r well)

  put-takes : (sent : Turn) (came : Result Reply Fault) (N : Saving → Pending → Type 0) → CarriesReply wsize sent turn came N P Q
      → (at : Putting) (machine : PutFile) (old : Shelf) (next : Step) (new : PutFile) (after : Shelf)
      → (t : puts.Takes at wsize machine sent turn came old next new after)
      → PutHas (λ f. A f machine.write.offset (writes.made_bytes machine.write.text) (old.seq + 1)) at wsize machine sent turn came old next new after t
      → PutSaves (λ s. N s old.back) at machine.write.state → P old.back → After R Q next after.back
  put-takes sent came N v putting.Idle machine old next new after t a n p = close-waits wsize turn R Q w.then_ next old after t.next_is t.shelf_is (w.less old.back p)
  put-takes sent came N v putting.Opens machine old next new after t a n p =
      put-opened t.step _ t.took next new after
      (λ file is. subst (λ (k : ℕ). A file machine.write.offset (writes.made_bytes machine.write.text) (k + 1)) (sym (ap (λ (s : Shelf). s.seq) t.others)) (a file is))
      t.follows
      (took-asks (opening.may_again machine.opening (opening.told_led machine.opening came)) (opening.opening_again machine.opening sent turn came old.repeats) old.repeats
      machine.opening sent turn (opening.led_on machine.opening turn.now came t.took.attrs old.pages) t.step old.pages t.took.pages refl t.leads)
      (subst P (sym (ap (λ (s : Shelf). s.back) t.others)) p)
  put-takes sent came N v (putting.Adds file) machine old next new after t a n p =
      put-wrote wsize turn R Q w.then_ t.told machine.write.lane file t.mid next new.state after t.goes.follows
      (write-takes sent came N v machine.write.state machine.write old t.told t.written t.mid t.takes
      (room-map (λ f. A f machine.write.offset (writes.made_bytes machine.write.text) (old.seq + 1)) (λ f. EndsWell t.told → A f machine.write.offset (writes.made_bytes machine.write.text) (old.seq + 1))
      (λ f k well. k) machine.write.state machine.write sent came old t.told t.written t.mid t.takes a) n p)
  put-takes sent came N v (putting.Saves saving) machine old next new after t a n p =
      let one = t.0 in
      put-follows wsize turn R Q w.then_ one.gives machine.write.lane one.saved one.took next new.state after one.follows
      (less-after (syncs.sync_next one.gives) one.took.back (v.takes old.repeats saving old.back one.gives one.saved one.took.back one.took.repeats one.takes n p))

  -- ---- any operation on a file

  file-starts : (machine : FileMachine) (old : Shelf) (next : Step) (new : FileMachine) (after : Shelf) → FileStartsHas (λ f o b. A f o b (old.seq + 1)) machine old.opens next
      → steps.Starts wsize machine turn old next new after → P old.back → After R Q next after.back
  file-starts (files.Open m) old next new after a s p =
      less-after next after.back (plain-step wsize turn P Q w.first next old.back after.back (open-starts m turn old.opens next s.next_is) (back-of old after s.shelf_is) p)
  file-starts (files.Read m) old next new after a s p =
      less-after next after.back (plain-step wsize turn P Q w.first next old.back after.back
      (read-starts (finite.get old.opens (m.lane, m.slot)) turn m old.pages old.back next s.machine after.pages s.step) (ap (λ (x : Shelf). x.back) s.others) p)
  file-starts (files.Write m) old next new after a s p = write-starts m old next s.machine after a s.step p
  file-starts (files.Sync m) old next new after a s p = less-after next after.back (sync-starts wsize turn P Q w.first m old next s.state after s.step p)
  file-starts (files.Close m) old next new after a s p = less-after next after.back (close-starts wsize turn P Q w.first m old next s.state after s.step p)
  file-starts (files.Truncate m) old next new after a s p =
      less-after next after.back (plain-step wsize turn P Q w.first next old.back after.back (truncate-starts m turn old next s.next_is)
      (ap (λ (x : Shelf). x.back) s.shelf_is ∙ begun-back wsize turn P Q w.first (truncates.found_file m old) m old) p)
  file-starts (files.Put m) old next new after a s p =
      less-after next after.back (opening-as wsize turn P Q w.first (opening.go_next (puts.opening_at turn m) turn) next old after s.next_is s.shelf_is
      (go-asks (puts.opening_at turn m) turn (opening.go_next (puts.opening_at turn m) turn) refl) p)

  module _ (sent : Turn) (came : Result Reply Fault) (N : Saving → Pending → Type 0) (v : CarriesReply wsize sent turn came N P Q) where
    file-takes : (machine : FileMachine) (old : Shelf) (next : Step) (new : FileMachine) (after : Shelf) (t : steps.Takes wsize machine sent turn came old next new after)
        → FileHas (λ f o b. A f o b (old.seq + 1)) wsize machine sent turn came old next new after t → FileSaves (λ s. N s old.back) machine → P old.back → After R Q next after.back
    file-takes (files.Open m) old next new after s a n p =
        less-after next after.back (plain-step wsize turn P Q w.first next old.back after.back
        (open-takes m sent turn came after.attrs old.repeats next old.pages after.pages old.opens after.opens s.steps) (ap (λ (x : Shelf). x.back) s.others) p)
    file-takes (files.Read m) old next new after s a n p =
        less-after next after.back (plain-step wsize turn P Q w.first next old.back after.back
        (read-takes m.reading sent turn came old.repeats m old.pages old.back next s.machine after.pages s.step) (ap (λ (x : Shelf). x.back) s.others) p)
    file-takes (files.Write m) old next new after s a n p = write-takes sent came N v m.state m old next s.state after s.step a n p
    file-takes (files.Sync m) old next new after s a n p = less-after next after.back (sync-takes wsize turn P Q w.first sent came N v m.state m old next s.state after s.step n p)
    file-takes (files.Close m) old next new after s a n p = less-after next after.back (close-takes wsize turn P Q w.first sent came N v m.state m old next s.state after s.step n p)
    file-takes (files.Truncate m) old next new after s a n p =
        less-after next after.back (plain-step wsize turn P Q w.first next after.back after.back (truncate-takes m.state m came sent turn old.repeats next s.next_is) refl
        (truncate-cuts wsize turn P Q w.first m.state m came old.back after.back s.back p))
    file-takes (files.Put m) old next new after s a n p = put-takes sent came N v m.state m old next s.machine after s.step a n p

  -- ---- any operation

  pub all-starts : (m : Machine) (old : Shelf) (next : Step) (new : Machine) (after : Shelf) → StartsHas (λ f o b. A f o b (old.seq + 1)) m old.opens next → P old.back
      → Starts wsize m turn old next new after → After R Q next after.back
  all-starts (machines.File m) old next new after a p s = file-starts m old next s.machine after a s.step p
  all-starts (machines.Path m) old next new after a p s =
      less-after next after.back (path-starts wsize turn P Q w.first (slot_taken m.opener old.opens) m old next s.machine after p s.step)
  all-starts (machines.Name m) old next new after a p s =
      less-after next after.back (name-all wsize turn P Q w.first next old after (name-goes-kept m turn old next s.machine after s.step) p)

  module _ (sent : Turn) (came : Result Reply Fault) (N : Saving → Pending → Type 0) (v : CarriesReply wsize sent turn came N P Q) where
    path-takes : (b : Bool) (m : PathMachine) (old : Shelf) (next : Step) (new : PathMachine) (after : Shelf) (t : paths.PathTakes b wsize m sent turn came old next new after)
        → PathHas (λ f o b. A f o b (old.seq + 1)) b wsize m sent turn came old next new after t → PathSaves (λ s. N s old.back) b m.opener → P old.back → After R Q next after.back
    path-takes true m old next new after t a n p = file-takes sent came N v (file_of m.opener) old next (file_of t.opener) after t.step a n p
    path-takes false m old next new after t a n p =
        less-after next after.back (follows-path wsize turn P Q w.first t.step t.walked t.heard next new after
        (subst P (sym (walk-takes-kept (walking.waiting_name m.walk) m.walk sent turn came old t.step t.walked.walk t.heard t.takes).back) p) t.follows)

    pub all-takes : (m : Machine) (old : Shelf) (next : Step) (new : Machine) (after : Shelf) (t : Takes wsize m sent turn came old next new after)
        → TakesHas (λ f o b. A f o b (old.seq + 1)) wsize m sent turn came old next new after t → Saves (λ s. N s old.back) m → P old.back → After R Q next after.back
    all-takes (machines.File m) old next new after t a n p = file-takes sent came N v m old next t.machine after t.step a n p
    all-takes (machines.Path m) old next new after t a n p = path-takes m.arrived m old next t.machine after t.step a n p
    all-takes (machines.Name m) old next new after t a n p =
        less-after next after.back (name-all wsize turn P Q w.first next old after (name-takes-kept m sent turn came old next t.machine after t.step) p)
