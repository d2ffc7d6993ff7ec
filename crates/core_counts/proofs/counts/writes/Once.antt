-- Each operation adds its bytes once at most: where a step adds them, the operation is over then, or is a put whose bytes are pending, which never adds any.
use Rattle.core_counts.proofs.Prelude.{◌≡◌, ◌≢◌, ◌⊎◌, inl, inr, ℕ, Bool, true, false, List, length, Result, Ok, Err, refl, sym, ap, subst, ◌∙◌, Answer, Fault, Reply, is_first, Step, Shelf, Turn, OpeningStep, PutFile, Putting, Saving, WriteFile, Writing, is_full, joined, by-step, ends_as, FileMachine, Machine, PathMachine, file_of, Takes, PutHas, FileHas, PathHas, TakesHas, Stage, stage_of}
use Rattle.client_shelf.specs.LaneFiles.{left}
use Rattle.core_session.proofs.order.Adds.{RoomHas, EndsWell}
use Rattle.world_model.specs.declared.answer.Answer.TheVariants as answers
use Rattle.client_shelf.specs.declared.step.Step.TheVariants as nexts
use Rattle.file_ops.specs.declared.opening.OpeningStep.TheVariants as openings
use Rattle.file_ops.specs.declared.put_file.Putting.TheVariants as putting
use Rattle.file_ops.specs.declared.write_file.Writing.TheVariants as writing
use Rattle.file_ops.specs.PutFile as puts
use Rattle.file_ops.specs.Saves as saves
use Rattle.file_ops.specs.WriteFile as writes
use Rattle.op_machines.specs.declared.file_machine.FileMachine.TheVariants as files
use Rattle.op_machines.specs.declared.machine.Machine.TheVariants as machines
use Rattle.op_machines.specs.FileSteps as steps
use Rattle.op_machines.specs.PathSteps as paths
use Rattle.core_session.proofs.room.Stages.{storing, putting as puts_still, settling, put_stage, file_stage, path_stage}

-- the number of the last write is the same
abbrev pub Level : Shelf → Shelf → Type 0
Level new old = new.seq ≡ old.seq

-- the operation is over, or its bytes are pending
abbrev pub Gone : Step → Stage → Type 0
Gone next stage = ((answer : Answer) × (next ≡ nexts.Done answer)) ⊎ (stage ≡ settling)

up : {new old : Shelf} → new ≡ old → Level new old
up {new} {old} is = ap (λ (s : Shelf). s.seq) is

well-gone : (next : Step) (stage : Stage) → EndsWell next → Gone next stage
well-gone next stage well = inl (answers.Done well.0, well.1)

-- ---- a step of a write

abbrev Wrote : Shelf → Shelf → Step → Type 0
Wrote old after next = Level after old ⊎ EndsWell next

room-level : (told : _) (lane : ℕ) (shelf : Shelf) → Level (writes.room_shelf told lane shelf) shelf
room-level told lane shelf = by-step (λ g. Level (writes.room_shelf g lane shelf) shelf) (λ call. refl) refl ended told
  where
    ended : (result : Result (Unit {0}) Fault) → Level (writes.room_shelf (ends_as result) lane shelf) shelf
    ended (Ok nothing) = refl
    ended (Err fault) = refl

saves-level : (b : Bool) (wsize lane : ℕ) (file : List ℕ) (saving : Saving) (turn : Turn) (shelf : Shelf) (next : Step) (new : Writing) (after : Shelf)
    → writes.SavesIf b wsize lane file saving turn shelf next new after → Level after shelf
saves-level true wsize lane file saving turn shelf next new after s = up s.leads.shelf_is ∙ room-level s.told lane (record shelf { back = s.back })
saves-level false wsize lane file saving turn shelf next new after s = up s.shelf_is

writes-wrote : (b : Bool) (wsize lane : ℕ) (file : List ℕ) (offset : ℕ) (bytes : List ℕ) (turn : Turn) (shelf : Shelf) (next : Step) (new : Writing) (after : Shelf)
    → writes.WritesIf b wsize lane file offset bytes turn shelf next new after → Wrote shelf after next
writes-wrote true wsize lane file offset bytes turn shelf next new after (inl s) =
    inl (saves-level (is_first lane (joined lane s.of shelf).order) wsize lane file (saves.begun s.of shelf.seq) turn (joined lane s.of shelf) next new after s.saves)
writes-wrote true wsize lane file offset bytes turn shelf next new after (inr s) = inl (up s.1.shelf_is)
writes-wrote false wsize lane file offset bytes turn shelf next new after (inl s) = inr (_, s.leads.gives_next)
writes-wrote false wsize lane file offset bytes turn shelf next new after (inr s) = inl (up s.shelf_is)

follows-wrote : (told : _) (wsize : ℕ) (m : WriteFile) (file : List ℕ) (saved : Saving) (turn : Turn) (shelf : Shelf) (next : Step) (new : Writing) (after : Shelf)
    → writes.Follows told wsize m file saved turn shelf next new after → Wrote shelf after next
follows-wrote told wsize m file saved turn shelf next new after f = by-step
    (λ g. writes.Follows g wsize m file saved turn shelf next new after → Wrote shelf after next)
    (λ call l. inl (up l.shelf_is)) (λ l. inl (up l.shelf_is)) ended told f
  where
    ended : (result : Result (Unit {0}) Fault) → writes.Follows (ends_as result) wsize m file saved turn shelf next new after → Wrote shelf after next
    ended (Ok nothing) l = writes-wrote _ wsize m.lane file m.offset (writes.made_bytes m.text) turn (record shelf { order = left m.lane shelf.order }) next new after l
    ended (Err fault) l = inl (up l.shelf_is)

write-took : (at : Writing) (wsize : ℕ) (m : WriteFile) (sent turn : Turn) (came : Result Reply Fault) (shelf : Shelf) (next : Step) (new : Writing) (after : Shelf)
    → writes.TakesIn at wsize m sent turn came shelf next new after → Wrote shelf after next
write-took writing.Idle wsize m sent turn came shelf next new after t = inl (up t.shelf_is)
write-took (writing.Room file saving) wsize m sent turn came shelf next new after t = follows-wrote t.told wsize m file t.saved turn _ next new after t.follows

-- ---- of a put

module _ (size : ℕ) where
  abbrev Rises : Shelf → Shelf → Step → Putting → Type 0
  Rises old after next state = Level after old ⊎ Gone next (put_stage state size)

  saves-gone : (next : Step) (state : Putting) (saving : Saving) → state ≡ putting.Saves saving → Gone next (put_stage state size)
  saves-gone next state saving is = inr (ap (λ (p : Putting). put_stage p size) is)

  put-follows : (gives : _) (lane : ℕ) (saving : Saving) (old : Shelf) (next : Step) (state : Putting) (new : Shelf) → puts.Follows gives lane saving old next state new
      → Gone next (put_stage state size)
  put-follows gives lane saving old next state new f = by-step (λ g. puts.Follows g lane saving old next state new → Gone next (put_stage state size))
      (λ call l. saves-gone next state saving l.1) (λ l. saves-gone next state saving l.1) (λ result l. inl (_, l.next_is)) gives f

  put-queues : (b : Bool) (wsize lane : ℕ) (turn : Turn) (saving : Saving) (old : Shelf) (next : Step) (state : Putting) (new : Shelf)
      → puts.QueuesIf b wsize lane turn saving old next state new → Gone next (put_stage state size)
  put-queues true wsize lane turn saving old next state new q = put-follows q.gives lane q.saved q.gone next state new q.follows
  put-queues false wsize lane turn saving old next state new q = saves-gone next state saving q.state_is

  send-well : {X : Type 0} → (call : _) → EndsWell (nexts.Send call) → X
  send-well call well = absurd (let no_way : nexts.Send call ≡ nexts.Done (answers.Done well.0) = well.1 in cc)

  wait-well : {X : Type 0} → EndsWell nexts.Wait → X
  wait-well well = absurd (let no_way : nexts.Wait ≡ nexts.Done (answers.Done well.0) = well.1 in cc)

  after-write : (told : Step) (wsize lane : ℕ) (file : List ℕ) (turn : Turn) (old mid : Shelf) (next : Step) (state : Putting) (new : Shelf)
      → puts.AfterWrite told wsize lane file turn mid next state new → Wrote old mid told → Rises old new next state
  after-write (nexts.Send call) wsize lane file turn old mid next state new a (inl same) = inl (up a.2 ∙ same)
  after-write (nexts.Send call) wsize lane file turn old mid next state new a (inr well) = send-well call well
  after-write nexts.Wait wsize lane file turn old mid next state new a (inl same) = inl (up a.2 ∙ same)
  after-write nexts.Wait wsize lane file turn old mid next state new a (inr well) = wait-well well
  after-write (nexts.Done (answers.Done value)) wsize lane file turn old mid next state new a w =
      inr (put-queues (is_first lane (joined lane file mid).order) wsize lane turn (saves.begun file mid.seq) (joined lane file mid) next state new a)
  after-write (nexts.Done (answers.Refused fault)) wsize lane file turn old mid next state new a w = inr (inl (_, a.next_is))

  after-opening : (step : OpeningStep) (wsize : ℕ) (m : PutFile) (turn : Turn) (old : Shelf) (next : Step) (new : PutFile) (after : Shelf)
      → puts.AfterOpening step wsize m turn old next new after → Rises old after next new.state
  after-opening (openings.Send call) wsize m turn old next new after a = inl (up a.2)
  after-opening openings.Wait wsize m turn old next new after a = inl (up a.shelf_is)
  after-opening (openings.Ended (Ok file)) wsize m turn old next new after a =
      after-write a.told wsize m.write.lane file turn (puts.put_at m.write.lane file old) a.mid next new.state after a.goes.follows
      (writes-wrote (is_full (writes.made_bytes m.write.text) (puts.put_at m.write.lane file old).back) wsize m.write.lane file m.write.offset (writes.made_bytes m.write.text) turn
      (puts.put_at m.write.lane file old) a.told a.written a.mid a.writes)
  after-opening (openings.Ended (Err fault)) wsize m turn old next new after a = inl (up a.2)

  move-rises : (old mid after : Shelf) (next : Step) (state : Putting) → Level mid old → Rises mid after next state → Rises old after next state
  move-rises old mid after next state same (inl is) = inl (is ∙ same)
  move-rises old mid after next state same (inr gone) = inr gone

-- ---- where it adds

module _ (wsize : ℕ) (sent turn : Turn) (came : Result Reply Fault) where
  -- its stage is one before it adds, and after the step it's over, or its bytes are pending; unless the step adds nothing
  abbrev pub Once : Stage → Shelf → Step → Stage → Shelf → Type 0
  Once was old next is after = (was ≢ settling) × (Level after old ⊎ Gone next is)

  stores-not : (size : ℕ) (room : Bool) → storing size room ≢ settling
  stores-not size room e = cc

  puts-not : (size : ℕ) (room : Bool) → puts_still size room ≢ settling
  puts-not size room e = cc

  put-once : (size k : ℕ) (at : Putting) (m : PutFile) (old : Shelf) (next : Step) (new : PutFile) (after : Shelf) (t : puts.Takes at wsize m sent turn came old next new after)
      → PutHas (λ f. Once (put_stage at size) old next (put_stage new.state k) after) at wsize m sent turn came old next new after t
  put-once size k putting.Idle m old next new after t = tt
  put-once size k putting.Opens m old next new after t = λ file is.
      (puts-not size false, move-rises k old t.took after next new.state (up t.others) (after-opening k t.step wsize _ turn t.took next new after t.follows))
  put-once size k (putting.Adds file) m old next new after t = made m.write.state t.takes
      (after-write k t.told wsize m.write.lane file turn old t.mid next new.state after t.goes.follows (write-took m.write.state wsize m.write sent turn came old t.told t.written t.mid t.takes))
    where
      made : (w : Writing) (take : writes.TakesIn w wsize m.write sent turn came old t.told t.written t.mid) → Level after old ⊎ Gone next (put_stage new.state k)
          → RoomHas (λ f. Once (puts_still size true) old next (put_stage new.state k) after) w wsize m.write sent turn came old t.told t.written t.mid take
      made writing.Idle take rises = tt
      made (writing.Room file saving) take rises = λ told. (puts-not size true, rises)
  put-once size k (putting.Saves saving) m old next new after t = tt

  room-once : (B : List ℕ → Type 0) → ((f : List ℕ) → B f) → (at : Writing) (m : WriteFile) (old : Shelf) (next : Step) (state : Writing) (after : Shelf)
      (t : writes.TakesIn at wsize m sent turn came old next state after) → RoomHas B at wsize m sent turn came old next state after t
  room-once B b writing.Idle m old next state after t = tt
  room-once B b (writing.Room file saving) m old next state after t = λ told. b file

  file-once : (m : FileMachine) (old : Shelf) (next : Step) (new : FileMachine) (after : Shelf) (t : steps.Takes wsize m sent turn came old next new after)
      → FileHas (λ f o b. Once (file_stage m) old next (file_stage new) after) wsize m sent turn came old next new after t
  file-once (files.Open m) old next new after t = tt
  file-once (files.Read m) old next new after t = tt
  file-once (files.Write m) old next new after t = room-once _ (λ f well. (stores-not _ _, inr (well-gone next (file_stage new) well))) m.state m old next t.state after t.step
  file-once (files.Sync m) old next new after t = tt
  file-once (files.Close m) old next new after t = tt
  file-once (files.Truncate m) old next new after t = tt
  file-once (files.Put m) old next new after t =
      subst (λ (n : FileMachine). PutHas (λ f. Once (put_stage m.state (length (writes.text_bytes m.write.text))) old next (file_stage n) after) m.state wsize m sent turn came old next t.machine after t.step)
      (sym t.machine_is)
      (put-once (length (writes.text_bytes m.write.text)) (length (writes.text_bytes t.machine.write.text)) m.state m old next t.machine after t.step)

  path-once : (b : Bool) (m : PathMachine) (old : Shelf) (next : Step) (new : PathMachine) (after : Shelf) (t : paths.PathTakes b wsize m sent turn came old next new after) → m.arrived ≡ b
      → PathHas (λ f o by. Once (path_stage b m.opener) old next (path_stage new.arrived new.opener) after) b wsize m sent turn came old next new after t
  path-once true m old next new after t is =
      subst (λ (n : PathMachine). FileHas (λ f o by. Once (file_stage (file_of m.opener)) old next (path_stage n.arrived n.opener) after) wsize (file_of m.opener) sent turn came old next (file_of t.opener) after t.step)
      (sym t.machine_is)
      (subst (λ (b : Bool). FileHas (λ f o by. Once (file_stage (file_of m.opener)) old next (path_stage b t.opener) after) wsize (file_of m.opener) sent turn came old next (file_of t.opener) after t.step)
      (sym is) (file-once (file_of m.opener) old next (file_of t.opener) after t.step))
  path-once false m old next new after t is = tt

  pub once-has : (m : Machine) (old : Shelf) (next : Step) (new : Machine) (after : Shelf) (t : Takes wsize m sent turn came old next new after)
      → TakesHas (λ f o b. Once (stage_of m) old next (stage_of new) after) wsize m sent turn came old next new after t
  once-has (machines.File m) old next new after t =
      subst (λ (n : Machine). FileHas (λ f o b. Once (file_stage m) old next (stage_of n) after) wsize m sent turn came old next t.machine after t.step) (sym t.machine_is)
      (file-once m old next t.machine after t.step)
  once-has (machines.Path m) old next new after t =
      subst (λ (n : Machine). PathHas (λ f o b. Once (path_stage m.arrived m.opener) old next (stage_of n) after) m.arrived wsize m sent turn came old next t.machine after t.step) (sym t.machine_is)
      (path-once m.arrived m old next t.machine after t.step refl)
  once-has (machines.Name m) old next new after t = tt
