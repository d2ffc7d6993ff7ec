-- Where a sync or a close has saved its file, only later bytes are pending of it: each step of their machines.
use Rattle.core_session.proofs.Prelude.{◌≡◌, ◌≤◌, ◌⊎◌, inl, inr, ℕ, Bool, true, false, List, Option, Some, None, Result, Ok, Err, refl, sym, ap, subst, Fault, Call, Reply, last_end, Pending, of_file, HasNoPiece, Step, Repeat, Shelf, Turn, goes_again, is_first, CloseFile, Closing, Removal, Saving, SyncFile, Syncing, GivesUpBy, closed_answer, remove_busy, file_at, joined, by-step, ends_as, FileMachine, Machine, Starts, Resumes, Takes, State, Busy, Over, EndsSo, takes-not, Free, EachSound, IsClearUpTo, IsUnderWay, IsAwaited}
use Rattle.core_answers.proofs.paths.Endings.{goes-not}
use Rattle.step_saves.specs.Saves.{IsSaved, Leaves}
use Rattle.world_model.specs.declared.answer.Answer.TheVariants as answers
use Rattle.client_shelf.specs.declared.step.Step.TheVariants as nexts
use Rattle.file_ops.specs.declared.close_file.Closing.TheVariants as closing
use Rattle.file_ops.specs.declared.sync_file.Syncing.TheVariants as syncing
use Rattle.file_ops.specs.Closes as closes
use Rattle.file_ops.specs.Saves as saves
use Rattle.file_ops.specs.Syncs as syncs
use Rattle.op_machines.specs.declared.file_machine.FileMachine.TheVariants as files
use Rattle.op_machines.specs.declared.machine.Machine.TheVariants as machines
use Rattle.step_saves.proofs.Taking.{takes-leaves, takes-sound}
use Rattle.core_session.proofs.syncs.AllJobs.{job_save}
use Rattle.core_session.proofs.syncs.Jobs.{file_save}
use Rattle.core_session.proofs.pending.Above.{Above, empty-above, clear-above}
use Rattle.core_session.proofs.pending.Newest.{OfNewest}

-- ---- how a step ends

abbrev pub IsGood : Step → Type 0
IsGood (nexts.Send call) = ⊥
IsGood nexts.Wait = ⊥
IsGood (nexts.Done (answers.Done value)) = Unit {0}
IsGood (nexts.Done (answers.Refused fault)) = ⊥

-- a close that is past its sync, which went well
abbrev pub PastClose : Closing → Type 0
PastClose closing.Idle = ⊥
PastClose (closing.Queued s) = ⊥
PastClose (closing.Saves s) = ⊥
PastClose (closing.ToRemove r) = r.refusal ≡ None
PastClose (closing.Removing r) = r.refusal ≡ None

abbrev pub PastFile : FileMachine → Type 0
PastFile (files.Open m) = ⊥
PastFile (files.Read m) = ⊥
PastFile (files.Write m) = ⊥
PastFile (files.Sync m) = ⊥
PastFile (files.Close m) = PastClose m.state
PastFile (files.Truncate m) = ⊥
PastFile (files.Put m) = ⊥

abbrev pub IsPast : Machine → Type 0
IsPast (machines.File m) = PastFile m
IsPast (machines.Path m) = ⊥
IsPast (machines.Name m) = ⊥

-- it has saved its file
abbrev pub Good : Step → Machine → Type 0
Good next machine = IsGood next ⊎ IsPast machine

abbrev pub StateGood : State → Type 0
StateGood (Busy machine) = IsPast machine
StateGood (Over (answers.Done value)) = Unit {0}
StateGood (Over (answers.Refused fault)) = ⊥

-- a sync or a close
abbrev pub SavesFile : FileMachine → Type 0
SavesFile (files.Open m) = ⊥
SavesFile (files.Read m) = ⊥
SavesFile (files.Write m) = ⊥
SavesFile (files.Sync m) = Unit {0}
SavesFile (files.Close m) = Unit {0}
SavesFile (files.Truncate m) = ⊥
SavesFile (files.Put m) = ⊥

abbrev pub IsSaver : Machine → Type 0
IsSaver (machines.File m) = SavesFile m
IsSaver (machines.Path m) = ⊥
IsSaver (machines.Name m) = ⊥

pub not-good : (n : Step) → EndsSo ⊥ n → IsGood n → ⊥
not-good (nexts.Send call) e good = good
not-good nexts.Wait e good = good
not-good (nexts.Done (answers.Done value)) e good = e
not-good (nexts.Done (answers.Refused fault)) e good = good

good-is : (n m : Step) → n ≡ m → IsGood n → IsGood m
good-is n m is good = subst IsGood is good

module _ (f : List ℕ) (i u : ℕ) where
  abbrev pub AboveIt : Pending → Type 0
  AboveIt b = OfNewest (Above f i u) b

  -- ---- closes

  abbrev CloseGood : Step → Closing → Type 0
  CloseGood next state = IsGood next ⊎ PastClose state

  close-ends : (lane : ℕ) (file : List ℕ) (refusal : Option Fault) (old : Shelf) (next : Step) (state : Closing) (new : Shelf) → closes.Ends lane file refusal old next state new
      → (refusal ≡ None → AboveIt old.back) → CloseGood next state → AboveIt new.back
  close-ends lane file refusal old next state new e at good = by refusal refl e.next_is e.back
    where
      by : (r : Option Fault) → refusal ≡ r → next ≡ nexts.Done (closed_answer r) → GivesUpBy r file old.opens old.back new.back → AboveIt new.back
      by None is n back = subst AboveIt (sym back) (at is)
      by (Some fault) is n back = absurd (none good)
        where
          none : CloseGood next state → ⊥
          none (inl g) = good-is next (nexts.Done (answers.Refused fault)) n g
          none (inr p) = subst PastClose e.state_is p

  close-waits : (to : Closing) (old : Shelf) (next : Step) (state : Closing) (new : Shelf) → next ≡ nexts.Wait → state ≡ to → new ≡ old → (PastClose to → AboveIt old.back)
      → CloseGood next state → AboveIt new.back
  close-waits to old next state new n s o at (inl g) = absurd (good-is next nexts.Wait n g)
  close-waits to old next state new n s o at (inr p) = subst AboveIt (sym (ap (λ (z : Shelf). z.back) o)) (at (subst PastClose s p))

  close-asks : (b : Bool) (r : Removal) (old : Shelf) (next : Step) (state : Closing) (new : Shelf) → closes.Asks b r old next state new → (r.refusal ≡ None → AboveIt old.back)
      → CloseGood next state → AboveIt new.back
  close-asks true r old next state new a at (inl g) = absurd (subst IsGood a.next_is g)
  close-asks true r old next state new a at (inr p) = subst AboveIt (sym (ap (λ (z : Shelf). z.back) a.shelf_is)) (at (subst PastClose a.state_is p))
  close-asks false r old next state new a at good = close-waits (closing.ToRemove r) old next state new a.next_is a.state_is a.shelf_is at good

  close-frees : (lane slot : ℕ) (room : Bool) (file : List ℕ) (refusal : Option Fault) (old : Shelf) (next : Step) (state : Closing) (new : Shelf)
      → closes.Frees lane slot room file refusal old next state new → (refusal ≡ None → AboveIt old.back) → CloseGood next state → AboveIt new.back
  close-frees lane slot room file refusal old next state new e at good = by e.place e.ends
    where
      freed : refusal ≡ None → AboveIt e.freed.back
      freed none = subst AboveIt (sym (ap (λ (z : Shelf). z.back) e.slot_is)) (at none)

      by : (place : Option (List ℕ × List ℕ)) → closes.EndsAt place lane room file refusal e.freed next state new → AboveIt new.back
      by None k = close-ends lane file refusal e.freed next state new k freed good
      by (Some place) k = close-asks room (record { file = file; dir = place.0; name = place.1; refusal = refusal }) e.freed next state new k freed good

  none-fault : (fault : Fault) → Some fault ≡ None → ⊥
  none-fault fault e = absurd (cc)

  close-follows : (gives : _) (lane slot : ℕ) (room begun : Bool) (saved : Saving) (old : Shelf) (next : Step) (state : Closing) (new : Shelf)
      → closes.Follows gives lane slot room begun saved old next state new → (IsGood (syncs.sync_next gives) → AboveIt old.back) → CloseGood next state → AboveIt new.back
  close-follows gives lane slot room begun saved old next state new k at good = by-step
      (λ g. closes.Follows g lane slot room begun saved old next state new → (IsGood (syncs.sync_next g) → AboveIt old.back) → AboveIt new.back)
      (λ call k at. sends call k.0 k.1 good) (λ k at. waits begun k.0 k.1 k.2) ended gives k at
    where
      sends : (call : Call) → next ≡ nexts.Send call → state ≡ closing.Saves saved → CloseGood next state → AboveIt new.back
      sends call n s (inl g) = absurd (subst IsGood n g)
      sends call n s (inr p) = absurd (subst PastClose s p)

      waits : (b : Bool) → next ≡ nexts.Wait → state ≡ closes.waits_as b saved → new ≡ old → AboveIt new.back
      waits true n s o = close-waits (closing.Saves saved) old next state new n s o (λ none. absurd none) good
      waits false n s o = close-waits (closing.Queued saved) old next state new n s o (λ none. absurd none) good

      ended : (result : Result (Unit {0}) Fault) → closes.Follows (ends_as result) lane slot room begun saved old next state new → (IsGood (syncs.sync_next (ends_as result)) → AboveIt old.back) → AboveIt new.back
      ended (Ok done) k at = close-frees lane slot room saved.file None old next state new k (λ none. at tt) good
      ended (Err fault) k at = close-frees lane slot room saved.file (Some fault) old next state new k (λ none. absurd (none-fault fault none)) good

  -- no save ends well where no reply comes
  close-goes : (wsize lane slot : ℕ) (turn : Turn) (begun : Bool) (s : Saving) (old : Shelf) (next : Step) (state : Closing) (new : Shelf)
      → closes.GoesOn wsize lane slot turn begun s old next state new → CloseGood next state → AboveIt new.back
  close-goes wsize lane slot turn begun s old next state new k good =
      close-follows k.gives lane slot turn.room begun k.saved k.gone next state new k.follows
      (λ well. absurd (not-good (syncs.sync_next k.gives) (goes-not wsize turn.xid turn.room s old.back k.gives k.saved k.gone.back k.goes) well)) good

  close-queues : (b : Bool) (wsize lane slot : ℕ) (turn : Turn) (s : Saving) (old : Shelf) (next : Step) (state : Closing) (new : Shelf)
      → closes.QueuesIf b wsize lane slot turn s old next state new → f ≡ s.file → EachSound old.back → CloseGood next state → AboveIt new.back
  close-queues false wsize lane slot turn s old next state new k here sound good =
      close-waits (closing.Queued s) old next state new k.next_is k.state_is k.shelf_is (λ none. absurd none) good
  close-queues true wsize lane slot turn s old next state new k here sound good = by (last_end (of_file s.file old.back).segments) refl k
    where
      by : (end : Option ℕ) → last_end (of_file s.file old.back).segments ≡ end → closes.Begins end wsize lane slot turn s old next state new → AboveIt new.back
      by None is e =
          close-frees lane slot turn.room s.file None old next state new e
          (λ none. empty-above f i u old.back sound (subst (λ (g : List ℕ). last_end (of_file g old.back).segments ≡ None) (sym here) is)) good
      by (Some end) is e = close-goes wsize lane slot turn false s old next state new e good

  close-resumes : (at : Closing) (wsize : ℕ) (m : CloseFile) (turn : Turn) (old : Shelf) (next : Step) (state : Closing) (new : Shelf) → closes.Resumes at wsize m turn old next state new
      → ((z : Saving) → file_save (files.Close (record m { state = at })) ≡ Some z → f ≡ z.file) → EachSound old.back → (PastClose at → AboveIt old.back) → CloseGood next state → AboveIt new.back
  close-resumes closing.Idle wsize m turn old next state new r of sound past good = close-waits closing.Idle old next state new r.next_is r.state_is r.shelf_is past good
  close-resumes (closing.Queued s) wsize m turn old next state new r of sound past good =
      close-queues (is_first m.lane old.order) wsize m.lane m.slot turn s old next state new r (of s refl) sound good
  close-resumes (closing.Saves s) wsize m turn old next state new r of sound past good = by (is_first m.lane old.order) r
    where
      by : (b : Bool) → closes.GoesOnIf b wsize m.lane m.slot turn s old next state new → AboveIt new.back
      by true k = close-goes wsize m.lane m.slot turn true s old next state new k good
      by false k = close-waits (closing.Saves s) old next state new k.next_is k.state_is k.shelf_is (λ none. absurd none) good
  close-resumes (closing.ToRemove r) wsize m turn old next state new k of sound past good = close-asks turn.room r old next state new k past good
  close-resumes (closing.Removing r) wsize m turn old next state new k of sound past good =
      close-waits (closing.Removing r) old next state new k.next_is k.state_is k.shelf_is past good

  close-starts : (wsize : ℕ) (m : CloseFile) (turn : Turn) (old : Shelf) (next : Step) (state : Closing) (new : Shelf) → closes.Starts wsize m turn old next state new
      → ((file : List ℕ) → file_at m.lane m.slot old.opens ≡ Some file → f ≡ file) → EachSound old.back → (state ≡ m.state → PastClose state → ⊥) → CloseGood next state → AboveIt new.back
  close-starts wsize m turn old next state new s of sound fresh good = by (file_at m.lane m.slot old.opens) refl s
    where
      by : (found : Option (List ℕ)) → file_at m.lane m.slot old.opens ≡ found → closes.StartsAt found wsize m turn old next state new → AboveIt new.back
      by None is k = absurd (none good)
        where
          none : CloseGood next state → ⊥
          none (inl g) = subst IsGood k.next_is g
          none (inr p) = fresh k.state_is p
      by (Some file) is k =
          close-queues (is_first m.lane (joined m.lane file old).order) wsize m.lane m.slot turn (saves.begun file old.seq) (joined m.lane file old) next state new k (of file is) sound good

  -- where what came ends its save well, this holds of what is then pending
  abbrev pub SaveEnds : ℕ → Turn → Turn → Result Reply Fault → Pending → Saving → Type 0
  SaveEnds wsize sent turn came b z = (repeats later : List Repeat) (gives : _) (new : Saving) (after : Pending)
      → saves.Takes wsize sent turn came repeats z b gives new after later → IsGood (syncs.sync_next gives) → AboveIt after

  close-takes : (at : Closing) (wsize : ℕ) (m : CloseFile) (sent turn : Turn) (came : Result Reply Fault) (old : Shelf) (next : Step) (state : Closing) (new : Shelf)
      → closes.Takes at wsize m sent turn came old next state new
      → ((z : Saving) → file_save (files.Close (record m { state = at })) ≡ Some z → SaveEnds wsize sent turn came old.back z) → (PastClose at → AboveIt old.back) → CloseGood next state → AboveIt new.back
  close-takes closing.Idle wsize m sent turn came old next state new k ends past good = close-waits closing.Idle old next state new k.next_is k.state_is k.shelf_is past good
  close-takes (closing.Queued s) wsize m sent turn came old next state new k ends past good =
      close-waits (closing.Queued s) old next state new k.next_is k.state_is k.shelf_is past good
  close-takes (closing.Saves s) wsize m sent turn came old next state new k ends past good =
      close-follows k.gives m.lane m.slot turn.room true k.saved k.took next state new k.follows
      (λ well. ends s refl old.repeats k.took.repeats k.gives k.saved k.took.back k.takes well) good
  close-takes (closing.ToRemove r) wsize m sent turn came old next state new k ends past good =
      close-waits (closing.ToRemove r) old next state new k.next_is k.state_is k.shelf_is past good
  close-takes (closing.Removing r) wsize m sent turn came old next state new k ends past good = by (goes_again (remove_busy came) sent turn old.repeats) k.ends
    where
      took : r.refusal ≡ None → AboveIt k.took.back
      took none = subst AboveIt (sym (ap (λ (z : Shelf). z.back) k.others)) (past none)

      asked : closes.EndsIf true m.lane r k.took next state new → CloseGood next state → AboveIt new.back
      asked e (inl g) = absurd (subst IsGood e.next_is g)
      asked e (inr p) = subst AboveIt (sym (ap (λ (z : Shelf). z.back) e.shelf_is)) (took (subst PastClose e.state_is p))

      by : (b : Bool) → closes.EndsIf b m.lane r k.took next state new → AboveIt new.back
      by true e = asked e good
      by false e = close-ends m.lane r.file r.refusal k.took next state new e took good

  -- ---- syncs

  sync-goes : (wsize lane : ℕ) (turn : Turn) (s : Saving) (old : Shelf) (next : Step) (state : Syncing) (new : Shelf) (b : Bool) → syncs.QueuesIf b wsize lane turn s old next state new → IsGood next → ⊥
  sync-goes wsize lane turn s old next state new true k good =
      not-good (syncs.sync_next k.gives) (goes-not wsize turn.xid turn.room s old.back k.gives k.saved new.back k.goes) (subst IsGood k.follows.next_is good)
  sync-goes wsize lane turn s old next state new false k good = subst IsGood k.next_is good

  sync-resumes : (at : Syncing) (wsize : ℕ) (m : SyncFile) (turn : Turn) (old : Shelf) (next : Step) (state : Syncing) (new : Shelf) → syncs.Resumes at wsize m turn old next state new → IsGood next → ⊥
  sync-resumes syncing.Idle wsize m turn old next state new k good = subst IsGood k.next_is good
  sync-resumes (syncing.Saves s) wsize m turn old next state new k good = sync-goes wsize m.lane turn s old next state new (is_first m.lane old.order) k good

  sync-starts : (wsize : ℕ) (m : SyncFile) (turn : Turn) (old : Shelf) (next : Step) (state : Syncing) (new : Shelf) → syncs.Starts wsize m turn old next state new → IsGood next → ⊥
  sync-starts wsize m turn old next state new s good = by (file_at m.lane m.slot old.opens) s
    where
      by : (found : Option (List ℕ)) → syncs.StartsAt found wsize m turn old next state new → ⊥
      by None k = subst IsGood k.next_is good
      by (Some file) k = sync-goes wsize m.lane turn (saves.begun file old.seq) (joined m.lane file old) next state new (is_first m.lane (joined m.lane file old).order) k good

  sync-takes : (at : Syncing) (wsize : ℕ) (m : SyncFile) (sent turn : Turn) (came : Result Reply Fault) (old : Shelf) (next : Step) (state : Syncing) (new : Shelf)
      → syncs.Takes at wsize m sent turn came old next state new → ((z : Saving) → file_save (files.Sync (record m { state = at })) ≡ Some z → SaveEnds wsize sent turn came old.back z)
      → IsGood next → AboveIt new.back
  sync-takes syncing.Idle wsize m sent turn came old next state new k ends good = absurd (subst IsGood k.next_is good)
  sync-takes (syncing.Saves s) wsize m sent turn came old next state new k ends good =
      ends s refl old.repeats new.repeats k.gives k.saved new.back k.takes (subst IsGood k.follows.next_is good)

  -- ---- either of them

  pub resumes-good : (m : Machine) → IsSaver m → (wsize : ℕ) (turn : Turn) (old : Shelf) (next : Step) (new : Machine) (after : Shelf) → Resumes wsize m turn old next new after
      → ((z : Saving) → job_save m ≡ Some z → f ≡ z.file) → EachSound old.back → (IsPast m → AboveIt old.back) → Good next new → AboveIt after.back
  resumes-good (machines.File (files.Sync m)) saver wsize turn old next new after r of sound past (inl g) = absurd (sync-resumes m.state wsize m turn old next r.step.state after r.step.step g)
  resumes-good (machines.File (files.Sync m)) saver wsize turn old next new after r of sound past (inr p) =
      absurd (subst PastFile r.step.machine_is (subst IsPast r.machine_is p))
  resumes-good (machines.File (files.Close m)) saver wsize turn old next new after r of sound past (inl g) =
      close-resumes m.state wsize m turn old next r.step.state after r.step.step of sound past (inl g)
  resumes-good (machines.File (files.Close m)) saver wsize turn old next new after r of sound past (inr p) =
      close-resumes m.state wsize m turn old next r.step.state after r.step.step of sound past (inr (subst PastFile r.step.machine_is (subst IsPast r.machine_is p)))
  resumes-good (machines.File (files.Open m)) saver wsize turn old next new after r of sound past good = absurd saver
  resumes-good (machines.File (files.Read m)) saver wsize turn old next new after r of sound past good = absurd saver
  resumes-good (machines.File (files.Write m)) saver wsize turn old next new after r of sound past good = absurd saver
  resumes-good (machines.File (files.Truncate m)) saver wsize turn old next new after r of sound past good = absurd saver
  resumes-good (machines.File (files.Put m)) saver wsize turn old next new after r of sound past good = absurd saver
  resumes-good (machines.Path m) saver wsize turn old next new after r of sound past good = absurd saver
  resumes-good (machines.Name m) saver wsize turn old next new after r of sound past good = absurd saver

  pub starts-good-sync : (m : SyncFile) (wsize : ℕ) (turn : Turn) (old : Shelf) (next : Step) (new : Machine) (after : Shelf) → Starts wsize (machines.File (files.Sync m)) turn old next new after
      → Good next new → AboveIt after.back
  starts-good-sync m wsize turn old next new after r (inl g) = absurd (sync-starts wsize m turn old next r.step.state after r.step.step g)
  starts-good-sync m wsize turn old next new after r (inr p) = absurd (subst PastFile r.step.machine_is (subst IsPast r.machine_is p))

  pub starts-good-close : (m : CloseFile) → (PastClose m.state → ⊥) → (wsize : ℕ) (turn : Turn) (old : Shelf) (next : Step) (new : Machine) (after : Shelf)
      → Starts wsize (machines.File (files.Close m)) turn old next new after → ((file : List ℕ) → file_at m.lane m.slot old.opens ≡ Some file → f ≡ file) → EachSound old.back → Good next new → AboveIt after.back
  starts-good-close m fresh wsize turn old next new after r of sound good =
      close-starts wsize m turn old next r.step.state after r.step.step of sound (λ is p. fresh (subst PastClose is p)) (by good)
    where
      by : Good next new → CloseGood next r.step.state
      by (inl g) = inl g
      by (inr p) = inr (subst PastFile r.step.machine_is (subst IsPast r.machine_is p))

  pub takes-good : (m : Machine) → IsSaver m → (wsize : ℕ) (sent turn : Turn) (came : Result Reply Fault) (old : Shelf) (next : Step) (new : Machine) (after : Shelf)
      → Takes wsize m sent turn came old next new after → ((z : Saving) → job_save m ≡ Some z → SaveEnds wsize sent turn came old.back z) → (IsPast m → AboveIt old.back) → Good next new → AboveIt after.back
  takes-good (machines.File (files.Sync m)) saver wsize sent turn came old next new after r ends past (inl g) =
      sync-takes m.state wsize m sent turn came old next r.step.state after r.step.step ends g
  takes-good (machines.File (files.Sync m)) saver wsize sent turn came old next new after r ends past (inr p) =
      absurd (subst PastFile r.step.machine_is (subst IsPast r.machine_is p))
  takes-good (machines.File (files.Close m)) saver wsize sent turn came old next new after r ends past (inl g) =
      close-takes m.state wsize m sent turn came old next r.step.state after r.step.step ends past (inl g)
  takes-good (machines.File (files.Close m)) saver wsize sent turn came old next new after r ends past (inr p) =
      close-takes m.state wsize m sent turn came old next r.step.state after r.step.step ends past (inr (subst PastFile r.step.machine_is (subst IsPast r.machine_is p)))
  takes-good (machines.File (files.Open m)) saver wsize sent turn came old next new after r ends past good = absurd saver
  takes-good (machines.File (files.Read m)) saver wsize sent turn came old next new after r ends past good = absurd saver
  takes-good (machines.File (files.Write m)) saver wsize sent turn came old next new after r ends past good = absurd saver
  takes-good (machines.File (files.Truncate m)) saver wsize sent turn came old next new after r ends past good = absurd saver
  takes-good (machines.File (files.Put m)) saver wsize sent turn came old next new after r ends past good = absurd saver
  takes-good (machines.Path m) saver wsize sent turn came old next new after r ends past good = absurd saver
  takes-good (machines.Name m) saver wsize sent turn came old next new after r ends past good = absurd saver

  -- ---- how a save ends

  -- where a call isn't made, it doesn't end well
  pub unmade-ends : (wsize : ℕ) (sent turn : Turn) (fault : Fault) (b : Pending) (z : Saving) → SaveEnds wsize sent turn (Err fault) b z
  unmade-ends wsize sent turn fault b z repeats later gives new after t good = absurd (not-good (syncs.sync_next gives) (takes-not wsize sent turn fault repeats z b gives new after later t) good)

  saved-of : (n : Step) (s new : Saving) (after : Pending) → IsGood n → Leaves n s new after → IsSaved s after
  saved-of (nexts.Send call) s new after good l = absurd good
  saved-of nexts.Wait s new after good l = absurd good
  saved-of (nexts.Done (answers.Done value)) s new after good l = l
  saved-of (nexts.Done (answers.Refused fault)) s new after good l = absurd good

  -- of the file, with a number of at least this
  pub reply-ends : (wsize : ℕ) → 1 ≤ wsize → (sent turn : Turn) (came : Result Reply Fault) (b : Pending) (z : Saving) → EachSound b → Free turn.xid b → f ≡ z.file → u ≤ z.upto → IsUnderWay z b
      → IsAwaited z sent.xid b → SaveEnds wsize sent turn came b z
  reply-ends wsize some sent turn came b z sound free here low way awaited repeats later gives new after t good =
      let saved = saved-of (syncs.sync_next gives) z new after good (takes-leaves wsize sent turn came repeats z b gives new after later some sound way awaited t) in
      clear-above f i u z.upto after low (takes-sound wsize sent turn came repeats z b gives new after later sound free t)
      (subst (λ (g : List ℕ). HasNoPiece g after) (sym here) saved.quiet) (subst (λ (g : List ℕ). IsClearUpTo z.upto (of_file g after)) (sym here) saved.clear)
