-- Which faults a step of a sync, a close or a put gives, and of a write as it begins: want of memory, and what it makes of what came of its call where that isn't
-- made again.
use Rattle.core_session.proofs.Prelude.{◌≡◌, ℕ, Bool, true, false, List, Option, Some, None, Result, Ok, Err, inl, inr, sym, subst, refl, Fault, Reply, Pending, of_file, last_end, is_first, Step, Repeat, Shelf, Turn, CloseFile, Closing, Removal, Pages, Led, Opening, OpeningStep, Saving, SyncFile, Syncing, WriteFile, Writing, remove_of, closed_answer, refusal_of, joined, by-step, ends_as, PutFile, Putting, FineResult, FineOption, FineAnswer, FineNext, fine-as, CallFaults, FineLed, FitsOpening}
use Rattle.core_answers.proofs.refusals.FitReads.{FineOpening, go-opening, opening-next, opening-took, led-on}
use Rattle.world_model.specs.declared.answer.Answer.TheVariants as answers
use Rattle.world_model.specs.declared.answer.Fault.TheVariants as faults
use Rattle.client_shelf.specs.declared.step.Step.TheVariants as nexts
use Rattle.file_ops.specs.declared.close_file.Closing.TheVariants as closing
use Rattle.file_ops.specs.declared.opening.OpeningStep.TheVariants as openings
use Rattle.file_ops.specs.declared.sync_file.Syncing.TheVariants as syncing
use Rattle.file_ops.specs.Closes as closes
use Rattle.file_ops.specs.OpenFile as opens
use Rattle.file_ops.specs.Opening as opening
use Rattle.file_ops.specs.Saves as saves
use Rattle.file_ops.specs.Syncs as syncs
use Rattle.file_ops.specs.WriteFile as writes
use Rattle.file_ops.specs.declared.put_file.Putting.TheVariants as putting
use Rattle.file_ops.specs.PutFile as puts
use Rattle.core_session.proofs.delays.Times.{Times, Looked, go-looked, after-looked, AgainSync, AgainClose, AgainPut}
use Rattle.core_session.proofs.delays.SaveSteps.{FineSave, SaveFine, FitsSave, begun-save, goes-fine, takes-fine}
use Rattle.core_session.proofs.delays.WriteSteps.{FineWriting, WriteFine, FitsWrite, writes-fine, write-resumes, write-takes}

module _ (P : Fault → Type 0) (own : CallFaults P) (times : Times) where
  -- ---- writes

  refuses-write : (fault : Fault) (shelf : Shelf) (next : Step) (new : Writing) (after : Shelf) → P fault → writes.Refuses fault shelf next new after → WriteFine P own times next new
  refuses-write fault shelf next new after n l = (fine-as P (nexts.Done (answers.Refused fault)) next l.gives_next n, subst (FineWriting P own times) (sym l.keeps) tt)

  pub write-starts : (found : Result (List ℕ) Fault) (wsize : ℕ) (m : WriteFile) (turn : Turn) (shelf : Shelf) (next : Step) (new : WriteFile) (after : Shelf) → FineResult P found
      → writes.StartsAt found wsize m turn shelf next new after → WriteFine P own times next new.state
  write-starts (Err fault) wsize m turn shelf next new after n s = refuses-write fault shelf next new.state after n s.refuses
  write-starts (Ok file) wsize m turn shelf next new after n (inl s) = writes-fine P own times wsize m.lane file m.offset _ turn shelf next new.state after s.writes
  write-starts (Ok file) wsize m turn shelf next new after n (inr s) = refuses-write faults.Memory shelf next new.state after own.memory s.refuses

  -- ---- syncs

  abbrev pub FineSyncing : Syncing → Type 0
  FineSyncing syncing.Idle = Unit {0}
  FineSyncing (syncing.Saves saving) = FineSave P own times saving

  abbrev pub SyncFine : Step → Syncing → Type 0
  SyncFine next state = FineNext P next × FineSyncing state

  sync-as : (to : Step) (at : Syncing) (next : Step) (state : Syncing) → next ≡ to → state ≡ at → SyncFine to at → SyncFine next state
  sync-as to at next state is same f = (fine-as P to next is f.0, subst FineSyncing (sym same) f.1)

  sync-follows : (gives : _) (saved : Saving) (next : Step) (state : Syncing) → next ≡ syncs.sync_next gives → state ≡ syncs.sync_state gives saved
      → SaveFine P own times (syncs.sync_next gives) saved → SyncFine next state
  sync-follows gives saved next state is to c = by-step
      (λ g. next ≡ syncs.sync_next g → state ≡ syncs.sync_state g saved → SaveFine P own times (syncs.sync_next g) saved → SyncFine next state)
      (λ call n t k. sync-as (nexts.Send call) (syncing.Saves saved) next state n t (tt, k.1))
      (λ n t k. sync-as nexts.Wait (syncing.Saves saved) next state n t (tt, k.1))
      (λ result n t k. sync-as (nexts.Done (syncs.answer_of result)) syncing.Idle next state n t (k.0, tt)) gives is to c

  sync-queues : (b : Bool) (wsize lane : ℕ) (turn : Turn) (saving : Saving) (old : Shelf) (next : Step) (state : Syncing) (new : Shelf) → FineSave P own times saving
      → syncs.QueuesIf b wsize lane turn saving old next state new → SyncFine next state
  sync-queues true wsize lane turn saving old next state new f q =
      sync-follows q.gives q.saved next state q.follows.next_is q.follows.state_is (goes-fine P own times wsize turn.xid turn.room false saving old.back q.gives q.saved new.back f q.goes)
  sync-queues false wsize lane turn saving old next state new f q = sync-as nexts.Wait (syncing.Saves saving) next state q.next_is q.state_is (tt, f)

  pub sync-starts : (found : Option (List ℕ)) (wsize : ℕ) (m : SyncFile) (turn : Turn) (old : Shelf) (next : Step) (state : Syncing) (new : Shelf) → (found ≡ None → P faults.Slot) → FineSyncing m.state
      → syncs.StartsAt found wsize m turn old next state new → SyncFine next state
  sync-starts None wsize m turn old next state new place f s = sync-as (nexts.Done (answers.Refused faults.Slot)) m.state next state s.next_is s.state_is (place refl, f)
  sync-starts (Some file) wsize m turn old next state new place f s =
      sync-queues (is_first m.lane (joined m.lane file old).order) wsize m.lane turn (saves.begun file old.seq) (joined m.lane file old) next state new (begun-save P own times file old.seq) s

  pub sync-resumes : (at : Syncing) (wsize : ℕ) (m : SyncFile) (turn : Turn) (old : Shelf) (next : Step) (state : Syncing) (new : Shelf) → FineSyncing at
      → syncs.Resumes at wsize m turn old next state new → SyncFine next state
  sync-resumes syncing.Idle wsize m turn old next state new f r = sync-as nexts.Wait syncing.Idle next state r.next_is r.state_is (tt, tt)
  sync-resumes (syncing.Saves saving) wsize m turn old next state new f r = sync-queues (is_first m.lane old.order) wsize m.lane turn saving old next state new f r

  abbrev pub FitsSync : Turn → Turn → Result Reply Fault → List Repeat → Syncing → Pending → Type 0
  FitsSync sent turn came repeats syncing.Idle back = Unit {0}
  FitsSync sent turn came repeats (syncing.Saves saving) back = FitsSave P own times sent turn came repeats saving back

  pub sync-takes : (at : Syncing) (wsize : ℕ) (m : SyncFile) (sent turn : Turn) (came : Result Reply Fault) (old : Shelf) (next : Step) (state : Syncing) (new : Shelf)
      → FitsSync sent turn came old.repeats at old.back → FineSyncing at → AgainSync times sent turn came old.repeats at → syncs.Takes at wsize m sent turn came old next state new → SyncFine next state
  sync-takes syncing.Idle wsize m sent turn came old next state new n f more t = sync-as nexts.Wait syncing.Idle next state t.next_is t.state_is (tt, tt)
  sync-takes (syncing.Saves saving) wsize m sent turn came old next state new n f more t =
      sync-follows t.gives t.saved next state t.follows.next_is t.follows.state_is
      (takes-fine P own times wsize sent turn came old.repeats saving old.back t.gives t.saved new.back new.repeats n f more t.takes)

  -- ---- closes

  abbrev pub FineClosing : Closing → Type 0
  FineClosing closing.Idle = Unit {0}
  FineClosing (closing.Queued saving) = FineSave P own times saving
  FineClosing (closing.Saves saving) = FineSave P own times saving
  FineClosing (closing.ToRemove removal) = FineOption P removal.refusal
  FineClosing (closing.Removing removal) = FineOption P removal.refusal

  abbrev pub CloseFine : Step → Closing → Type 0
  CloseFine next state = FineNext P next × FineClosing state

  close-as : (to : Step) (at : Closing) (next : Step) (state : Closing) → next ≡ to → state ≡ at → CloseFine to at → CloseFine next state
  close-as to at next state is same f = (fine-as P to next is f.0, subst FineClosing (sym same) f.1)

  closed-fine : (why : Option Fault) → FineOption P why → FineAnswer P (closed_answer why)
  closed-fine None n = tt
  closed-fine (Some fault) n = n

  close-asks : (room : Bool) (removal : Removal) (next : Step) (state : Closing) → FineOption P removal.refusal → next ≡ closes.ask_next room removal → state ≡ closes.ask_state room removal
      → CloseFine next state
  close-asks true removal next state f is to = close-as (nexts.Send (remove_of removal)) (closing.Removing removal) next state is to (tt, f)
  close-asks false removal next state f is to = close-as nexts.Wait (closing.ToRemove removal) next state is to (tt, f)

  close-ends : (lane : ℕ) (file : List ℕ) (why : Option Fault) (old : Shelf) (next : Step) (state : Closing) (new : Shelf) → FineOption P why
      → closes.Ends lane file why old next state new → CloseFine next state
  close-ends lane file why old next state new n e = close-as (nexts.Done (closed_answer why)) closing.Idle next state e.next_is e.state_is (closed-fine why n, tt)

  close-ends-at : (place : Option (List ℕ × List ℕ)) (lane : ℕ) (room : Bool) (file : List ℕ) (why : Option Fault) (old : Shelf) (next : Step) (state : Closing) (new : Shelf)
      → FineOption P why → closes.EndsAt place lane room file why old next state new → CloseFine next state
  close-ends-at None lane room file why old next state new n e = close-ends lane file why old next state new n e
  close-ends-at (Some place) lane room file why old next state new n e = close-asks room _ next state n e.next_is e.state_is

  close-frees : (lane slot : ℕ) (room : Bool) (file : List ℕ) (why : Option Fault) (old : Shelf) (next : Step) (state : Closing) (new : Shelf) → FineOption P why
      → closes.Frees lane slot room file why old next state new → CloseFine next state
  close-frees lane slot room file why old next state new n f = close-ends-at f.place lane room file why f.freed next state new n f.ends

  close-waits : (begun : Bool) (saving : Saving) → FineSave P own times saving → FineClosing (closes.waits_as begun saving)
  close-waits true saving f = f
  close-waits false saving f = f

  why-fine : (result : Result (Unit {0}) Fault) → FineNext P (syncs.sync_next (ends_as result)) → FineOption P (refusal_of result)
  why-fine (Ok done) n = tt
  why-fine (Err fault) n = n

  close-follows : (gives : _) (lane slot : ℕ) (room begun : Bool) (saving : Saving) (old : Shelf) (next : Step) (state : Closing) (new : Shelf)
      → SaveFine P own times (syncs.sync_next gives) saving → closes.Follows gives lane slot room begun saving old next state new → CloseFine next state
  close-follows gives lane slot room begun saving old next state new c f = by-step
      (λ g. SaveFine P own times (syncs.sync_next g) saving → closes.Follows g lane slot room begun saving old next state new → CloseFine next state)
      (λ call k l. close-as (nexts.Send call) (closing.Saves saving) next state l.0 l.1 (tt, k.1))
      (λ k l. close-as nexts.Wait (closes.waits_as begun saving) next state l.0 l.1 (tt, close-waits begun saving k.1))
      (λ result k l. close-frees lane slot room saving.file (refusal_of result) old next state new (why-fine result k.0) l) gives c f

  close-goes : (wsize lane slot : ℕ) (turn : Turn) (begun : Bool) (saving : Saving) (old : Shelf) (next : Step) (state : Closing) (new : Shelf) → FineSave P own times saving
      → closes.GoesOn wsize lane slot turn begun saving old next state new → CloseFine next state
  close-goes wsize lane slot turn begun saving old next state new f g =
      close-follows g.gives lane slot turn.room begun g.saved g.gone next state new (goes-fine P own times wsize turn.xid turn.room false saving old.back g.gives g.saved g.gone.back f g.goes) g.follows

  close-begins : (end : Option ℕ) (wsize lane slot : ℕ) (turn : Turn) (saving : Saving) (old : Shelf) (next : Step) (state : Closing) (new : Shelf) → FineSave P own times saving
      → closes.Begins end wsize lane slot turn saving old next state new → CloseFine next state
  close-begins None wsize lane slot turn saving old next state new f b = close-frees lane slot turn.room saving.file None old next state new tt b
  close-begins (Some end) wsize lane slot turn saving old next state new f b = close-goes wsize lane slot turn false saving old next state new f b

  close-queues : (b : Bool) (wsize lane slot : ℕ) (turn : Turn) (saving : Saving) (old : Shelf) (next : Step) (state : Closing) (new : Shelf) → FineSave P own times saving
      → closes.QueuesIf b wsize lane slot turn saving old next state new → CloseFine next state
  close-queues true wsize lane slot turn saving old next state new f q = close-begins (last_end (of_file saving.file old.back).segments) wsize lane slot turn saving old next state new f q
  close-queues false wsize lane slot turn saving old next state new f q = close-as nexts.Wait (closing.Queued saving) next state q.next_is q.state_is (tt, f)

  pub close-starts : (found : Option (List ℕ)) (wsize : ℕ) (m : CloseFile) (turn : Turn) (old : Shelf) (next : Step) (state : Closing) (new : Shelf) → (found ≡ None → P faults.Slot) → FineClosing m.state
      → closes.StartsAt found wsize m turn old next state new → CloseFine next state
  close-starts None wsize m turn old next state new place f s = close-as (nexts.Done (answers.Refused faults.Slot)) m.state next state s.next_is s.state_is (place refl, f)
  close-starts (Some file) wsize m turn old next state new place f s =
      close-queues (is_first m.lane (joined m.lane file old).order) wsize m.lane m.slot turn (saves.begun file old.seq) (joined m.lane file old) next state new (begun-save P own times file old.seq) s

  close-on : (b : Bool) (wsize lane slot : ℕ) (turn : Turn) (saving : Saving) (old : Shelf) (next : Step) (state : Closing) (new : Shelf) → FineSave P own times saving
      → closes.GoesOnIf b wsize lane slot turn saving old next state new → CloseFine next state
  close-on true wsize lane slot turn saving old next state new f g = close-goes wsize lane slot turn true saving old next state new f g
  close-on false wsize lane slot turn saving old next state new f g = close-as nexts.Wait (closing.Saves saving) next state g.next_is g.state_is (tt, f)

  pub close-resumes : (at : Closing) (wsize : ℕ) (m : CloseFile) (turn : Turn) (old : Shelf) (next : Step) (state : Closing) (new : Shelf) → FineClosing at
      → closes.Resumes at wsize m turn old next state new → CloseFine next state
  close-resumes closing.Idle wsize m turn old next state new f r = close-as nexts.Wait closing.Idle next state r.next_is r.state_is (tt, tt)
  close-resumes (closing.Queued saving) wsize m turn old next state new f r = close-queues (is_first m.lane old.order) wsize m.lane m.slot turn saving old next state new f r
  close-resumes (closing.Saves saving) wsize m turn old next state new f r = close-on (is_first m.lane old.order) wsize m.lane m.slot turn saving old next state new f r
  close-resumes (closing.ToRemove removal) wsize m turn old next state new f r = close-asks turn.room removal next state f r.next_is r.state_is
  close-resumes (closing.Removing removal) wsize m turn old next state new f r = close-as nexts.Wait (closing.Removing removal) next state r.next_is r.state_is (tt, f)

  ends-if : (b : Bool) (lane : ℕ) (removal : Removal) (old : Shelf) (next : Step) (state : Closing) (new : Shelf) → FineOption P removal.refusal
      → closes.EndsIf b lane removal old next state new → CloseFine next state
  ends-if true lane removal old next state new f e = close-as (nexts.Send (remove_of removal)) (closing.Removing removal) next state e.next_is e.state_is (tt, f)
  ends-if false lane removal old next state new f e = close-ends lane removal.file removal.refusal old next state new f e

  -- what comes of a REMOVE is no matter
  abbrev pub FitsClose : Turn → Turn → Result Reply Fault → List Repeat → Closing → Pending → Type 0
  FitsClose sent turn came repeats closing.Idle back = Unit {0}
  FitsClose sent turn came repeats (closing.Queued saving) back = Unit {0}
  FitsClose sent turn came repeats (closing.Saves saving) back = FitsSave P own times sent turn came repeats saving back
  FitsClose sent turn came repeats (closing.ToRemove removal) back = Unit {0}
  FitsClose sent turn came repeats (closing.Removing removal) back = Unit {0}

  pub close-takes : (at : Closing) (wsize : ℕ) (m : CloseFile) (sent turn : Turn) (came : Result Reply Fault) (old : Shelf) (next : Step) (state : Closing) (new : Shelf)
      → FitsClose sent turn came old.repeats at old.back → FineClosing at → AgainClose times sent turn came old.repeats at → closes.Takes at wsize m sent turn came old next state new → CloseFine next state
  close-takes closing.Idle wsize m sent turn came old next state new n f more t = close-as nexts.Wait closing.Idle next state t.next_is t.state_is (tt, tt)
  close-takes (closing.Queued saving) wsize m sent turn came old next state new n f more t = close-as nexts.Wait (closing.Queued saving) next state t.next_is t.state_is (tt, f)
  close-takes (closing.Saves saving) wsize m sent turn came old next state new n f more t =
      close-follows t.gives m.lane m.slot turn.room true t.saved t.took next state new
      (takes-fine P own times wsize sent turn came old.repeats saving old.back t.gives t.saved t.took.back t.took.repeats n f more t.takes) t.follows
  close-takes (closing.ToRemove removal) wsize m sent turn came old next state new n f more t = close-as nexts.Wait (closing.ToRemove removal) next state t.next_is t.state_is (tt, f)
  close-takes (closing.Removing removal) wsize m sent turn came old next state new n f more t = ends-if _ m.lane removal t.took next state new f t.ends

  -- ---- puts

  abbrev pub FinePutting : Putting → Type 0
  FinePutting putting.Idle = Unit {0}
  FinePutting putting.Opens = Unit {0}
  FinePutting (putting.Adds file) = Unit {0}
  FinePutting (putting.Saves saving) = FineSave P own times saving

  abbrev pub FinePut : PutFile → Type 0
  FinePut m = FineWriting P own times m.write.state × FinePutting m.state × Looked times m.opening

  abbrev pub PutFine : Step → PutFile → Type 0
  PutFine next m = FineNext P next × FinePut m

  abbrev PutStep : Step → Putting → Type 0
  PutStep next state = FineNext P next × FinePutting state

  put-as : (to : Step) (at : Putting) (next : Step) (state : Putting) → next ≡ to → state ≡ at → PutStep to at → PutStep next state
  put-as to at next state is same f = (fine-as P to next is f.0, subst FinePutting (sym same) f.1)

  put-ends : (lane : ℕ) (file : List ℕ) (why : Option Fault) (old : Shelf) (next : Step) (state : Putting) (new : Shelf) → FineOption P why → puts.Ends lane file why old next state new → PutStep next state
  put-ends lane file why old next state new n e = put-as (nexts.Done (closed_answer why)) putting.Idle next state e.next_is e.state_is (closed-fine why n, tt)

  put-follows : (gives : _) (lane : ℕ) (saving : Saving) (old : Shelf) (next : Step) (state : Putting) (new : Shelf) → SaveFine P own times (syncs.sync_next gives) saving
      → puts.Follows gives lane saving old next state new → PutStep next state
  put-follows gives lane saving old next state new c f = by-step
      (λ g. SaveFine P own times (syncs.sync_next g) saving → puts.Follows g lane saving old next state new → PutStep next state)
      (λ call k l. put-as (nexts.Send call) (putting.Saves saving) next state l.0 l.1 (tt, k.1))
      (λ k l. put-as nexts.Wait (putting.Saves saving) next state l.0 l.1 (tt, k.1))
      (λ result k l. put-ends lane saving.file (refusal_of result) old next state new (why-fine result k.0) l) gives c f

  put-queues : (b : Bool) (wsize lane : ℕ) (turn : Turn) (saving : Saving) (old : Shelf) (next : Step) (state : Putting) (new : Shelf) → FineSave P own times saving
      → puts.QueuesIf b wsize lane turn saving old next state new → PutStep next state
  put-queues true wsize lane turn saving old next state new f q =
      put-follows q.gives lane q.saved q.gone next state new (goes-fine P own times wsize turn.xid turn.room false saving old.back q.gives q.saved q.gone.back f q.goes) q.follows
  put-queues false wsize lane turn saving old next state new f q = put-as nexts.Wait (putting.Saves saving) next state q.next_is q.state_is (tt, f)

  after-write : (told : Step) (wsize lane : ℕ) (file : List ℕ) (turn : Turn) (old : Shelf) (next : Step) (state : Putting) (new : Shelf) → FineNext P told
      → puts.AfterWrite told wsize lane file turn old next state new → PutStep next state
  after-write (nexts.Send call) wsize lane file turn old next state new n a = put-as (nexts.Send call) (putting.Adds file) next state a.0 a.1 (tt, tt)
  after-write nexts.Wait wsize lane file turn old next state new n a = put-as nexts.Wait (putting.Adds file) next state a.0 a.1 (tt, tt)
  after-write (nexts.Done (answers.Done value)) wsize lane file turn old next state new n a =
      put-queues (is_first lane (joined lane file old).order) wsize lane turn (saves.begun file old.seq) (joined lane file old) next state new (begun-save P own times file old.seq) a
  after-write (nexts.Done (answers.Refused fault)) wsize lane file turn old next state new n a = put-ends lane file (Some fault) old next state new n a

  put-is : (to : PutFile) (next : Step) (new : PutFile) → new ≡ to → PutFine next to → PutFine next new
  put-is to next new is f = (f.0, subst FinePut (sym is) f.1)

  writes-on : (wsize : ℕ) (m : PutFile) (file : List ℕ) (turn : Turn) (told : Step) (written : Writing) (mid : Shelf) (next : Step) (new : PutFile) (after : Shelf) → WriteFine P own times told written
      → Looked times m.opening → puts.WritesOn wsize m file turn told written mid next new after → PutFine next new
  writes-on wsize m file turn told written mid next new after f o w =
      let step = after-write told wsize m.write.lane file turn mid next new.state after f.0 w.follows in
      put-is (record m { write = record m.write { state = written }; state = new.state }) next new w.machine_is (step.0, (f.1, step.1, o))

  stays-put : (m : PutFile) (old : Shelf) (next : Step) (new : PutFile) (after : Shelf) → FinePut m → puts.Stays m old next new after → PutFine next new
  stays-put m old next new after f s = put-is m next new s.machine_is (fine-as P nexts.Wait next s.next_is tt, f)

  pub put-starts : (m : PutFile) (turn : Turn) (next : Step) → next ≡ opens.goes_as (opening.go_next (puts.opening_at turn m) turn) → FineNext P next
  put-starts m turn next is = fine-as P _ next is (opening-next P own (opening.go_next (puts.opening_at turn m) turn) (go-opening P own (puts.opening_at turn m) turn))

  pub put-resumes : (at : Putting) (wsize : ℕ) (m : PutFile) (turn : Turn) (old : Shelf) (next : Step) (new : PutFile) (after : Shelf) → FineWriting P own times m.write.state → FinePutting at → Looked times m.opening → m.state ≡ at
      → puts.Resumes at wsize m turn old next new after → PutFine next new
  put-resumes putting.Idle wsize m turn old next new after w f o is r = stays-put m old next new after (w, subst FinePutting (sym is) tt, o) r
  put-resumes putting.Opens wsize m turn old next new after w f o is r =
      put-is (record m { opening = opening.go_after m.opening turn }) next new r.1
      (fine-as P _ next r.0 (opening-next P own (opening.go_next m.opening turn) (go-opening P own m.opening turn)), (w, subst FinePutting (sym is) tt, go-looked times m.opening turn o))
  put-resumes (putting.Adds file) wsize m turn old next new after w f o is r =
      writes-on wsize m file turn r.told r.written r.mid next new after (write-resumes P own times m.write.state wsize m.write.lane turn old r.told r.written r.mid w r.resumes) o r.goes
  put-resumes (putting.Saves saving) wsize m turn old next new after w f o is r =
      let step = put-queues (is_first m.write.lane old.order) wsize m.write.lane turn saving old next new.state after f r.0 in
      put-is (record m { state = new.state }) next new r.1 (step.0, (w, step.1, o))

  after-opening : (step : OpeningStep) (wsize : ℕ) (m : PutFile) (turn : Turn) (old : Shelf) (next : Step) (new : PutFile) (after : Shelf) → FineOpening P own step → FinePut m
      → puts.AfterOpening step wsize m turn old next new after → PutFine next new
  after-opening (openings.Send call) wsize m turn old next new after n f a = put-is m next new a.1 (fine-as P (nexts.Send call) next a.0 tt, f)
  after-opening openings.Wait wsize m turn old next new after n f a = stays-put m old next new after f a
  after-opening (openings.Ended (Ok file)) wsize m turn old next new after n f a =
      writes-on wsize m file turn a.told a.written a.mid next new after
      (writes-fine P own times wsize m.write.lane file m.write.offset (writes.made_bytes m.write.text) turn (puts.put_at m.write.lane file old) a.told a.written a.mid a.writes) f.2 a.goes
  after-opening (openings.Ended (Err fault)) wsize m turn old next new after n f a =
      put-is (record m { state = putting.Idle }) next new a.1 (fine-as P (nexts.Done (answers.Refused fault)) next a.0 n, (f.0, tt, f.2))

  abbrev pub FitsPut : Turn → Turn → Result Reply Fault → List Repeat → Putting → PutFile → Pending → Type 0
  FitsPut sent turn came repeats putting.Idle m back = Unit {0}
  FitsPut sent turn came repeats putting.Opens m back = opening.opening_again m.opening sent turn came repeats ≡ false → FitsOpening P own m.opening came
  FitsPut sent turn came repeats (putting.Adds file) m back = FitsWrite P own times sent turn came repeats m.write.state back
  FitsPut sent turn came repeats (putting.Saves saving) m back = FitsSave P own times sent turn came repeats saving back

  -- what an opening comes to whose call isn't made again
  opening-if : (again : Bool) (o : Opening) (sent turn : Turn) (led : Led) (step : OpeningStep) (old new : Pages) → (again ≡ false → FineLed P own led) → opening.LedIf again o sent turn led step old new
      → FineOpening P own step
  opening-if true o sent turn led step old new f l = subst (FineOpening P own) (sym l.0) tt
  opening-if false o sent turn led step old new f l = opening-took P own false o sent turn led step old new (f refl) l

  pub put-takes : (at : Putting) (wsize : ℕ) (m : PutFile) (sent turn : Turn) (came : Result Reply Fault) (old : Shelf) (next : Step) (new : PutFile) (after : Shelf) → FitsPut sent turn came old.repeats at m old.back
      → FineWriting P own times m.write.state → FinePutting at → Looked times m.opening → AgainPut times sent turn came old.repeats at m → m.state ≡ at → puts.Takes at wsize m sent turn came old next new after → PutFine next new
  put-takes putting.Idle wsize m sent turn came old next new after n w f o more is t = stays-put m old next new after (w, subst FinePutting (sym is) tt, o) t
  put-takes putting.Opens wsize m sent turn came old next new after n w f o more is t =
      let again = opening.opening_again m.opening sent turn came old.repeats in
      after-opening t.step wsize (puts.led again m turn came t.took.attrs old.pages) turn t.took next new after
      (opening-if again m.opening sent turn (opening.led_on m.opening turn.now came t.took.attrs old.pages) t.step old.pages t.took.pages
      (λ ends. led-on P own m.opening turn.now came t.took.attrs old.pages (n ends)) t.leads)
      (w, subst FinePutting (sym is) tt, after-looked times again m.opening turn (opening.led_on m.opening turn.now came t.took.attrs old.pages) o more) t.follows
  put-takes (putting.Adds file) wsize m sent turn came old next new after n w f o more is t =
      writes-on wsize m file turn t.told t.written t.mid next new after (write-takes P own times m.write.state wsize m.write sent turn came old t.told t.written t.mid n w more t.takes) o t.goes
  put-takes (putting.Saves saving) wsize m sent turn came old next new after n w f o more is t =
      let step = put-follows t.0.gives m.write.lane t.0.saved t.0.took next new.state after
      (takes-fine P own times wsize sent turn came old.repeats saving old.back t.0.gives t.0.saved t.0.took.back t.0.took.repeats n f more t.0.takes) t.0.follows in
      put-is (record m { state = new.state }) next new t.1 (step.0, (w, step.1, o))
