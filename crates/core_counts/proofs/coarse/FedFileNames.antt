-- What a step of an operation on a file, or of one on its way, leaves of the kept names: what holds of each of them, if it holds of what a
-- LOOKUP was answered with.
-- ---- writes
use Rattle.core_counts.proofs.Prelude.{◌≡◌, ◌-◌, ℕ, Bool, true, false, List, Option, Some, None, Result, Ok, Err, inl, inr, refl, ap, ◌∙◌, Fault, Call, Reply, of_file, last_end, is_first, Step, Shelf, Turn, CloseFile, Closing, Removal, Opening, OpeningStep, Saving, Writing, refusal_of, joined, file_at, OpeningPhase, by-step, ends_as, WalkStep, file_to_write, FileMachine, Machine, PathMachine, file_of, slot_taken, begun_at, Starts, Resumes, Takes, PutFile, Putting}
use Rattle.op_machines.specs.Openers.{placed}
use Rattle.world_model.specs.declared.answer.Answer.TheVariants as answers
use Rattle.client_shelf.specs.Unmade.{came_unmade}
use Rattle.client_shelf.specs.declared.step.Step.TheVariants as nexts
use Rattle.file_ops.specs.declared.close_file.Closing.TheVariants as closing
use Rattle.file_ops.specs.declared.opening.OpeningStep.TheVariants as openings
use Rattle.file_ops.specs.declared.write_file.Writing.TheVariants as writing
use Rattle.file_ops.specs.Closes as closes
use Rattle.file_ops.specs.Opening as opening
use Rattle.file_ops.specs.Saves as saves
use Rattle.file_ops.specs.WriteFile as writes
use Rattle.file_ops.specs.declared.opening.OpeningPhase.TheVariants as opening_steps
use Rattle.name_cache.specs.Names as names
use Rattle.name_ops.specs.declared.walk.WalkStep.TheVariants as walks
use Rattle.name_ops.specs.Walking as walking
use Rattle.file_ops.specs.TruncateFile.{found_file}
use Rattle.op_machines.specs.declared.file_machine.FileMachine.TheVariants as files
use Rattle.op_machines.specs.declared.machine.Machine.TheVariants as machines
use Rattle.op_machines.specs.FileSteps as steps
use Rattle.op_machines.specs.PathSteps as paths
use Rattle.core_counts.proofs.coarse.FedNameSteps.{QuietLaws, CallTells, told-as, left-told, shelf-as, go-told, looked-told, walk-told, name-goes, name-takes}
use Rattle.core_facts.proofs.FilesKept.{write-starts, write-resumes, write-takes, sync-starts, sync-resumes, sync-takes, truncate-starts, truncate-takes, put-resumes}
use Rattle.core_facts.proofs.AllAwaited.{PutAwaits, FileAwaits, PathOr, Awaits}
use Rattle.file_ops.specs.declared.put_file.Putting.TheVariants as putting
use Rattle.file_ops.specs.PutFile as puts

leads-names : (to : Step) (state : Writing) (shelf : Shelf) (next : Step) (new : Writing) (after : Shelf) → writes.Leads to state shelf next new after → after.names ≡ shelf.names
leads-names to state shelf next new after l = ap (λ (s : Shelf). s.names) l.shelf_is

room-names : (told : _) (lane : ℕ) (shelf : Shelf) → (writes.room_shelf told lane shelf).names ≡ shelf.names
room-names told lane shelf = by-step (λ g. (writes.room_shelf g lane shelf).names ≡ shelf.names) (λ call. refl) refl ended told
  where
    ended : (result : Result (Unit {0}) Fault) → (writes.room_shelf (ends_as result) lane shelf).names ≡ shelf.names
    ended (Ok nothing) = refl
    ended (Err fault) = refl

saves-names : (b : Bool) (wsize lane : ℕ) (file : List ℕ) (saving : Saving) (turn : Turn) (shelf : Shelf) (next : Step) (new : Writing) (after : Shelf)
    → writes.SavesIf b wsize lane file saving turn shelf next new after → after.names ≡ shelf.names
saves-names true wsize lane file saving turn shelf next new after s = ap (λ (k : Shelf). k.names) s.leads.shelf_is ∙ room-names s.told lane (record shelf { back = s.back })
saves-names false wsize lane file saving turn shelf next new after s = leads-names nexts.Wait (writing.Room file saving) shelf next new after s

writes-names : (b : Bool) (wsize lane : ℕ) (file : List ℕ) (offset : ℕ) (bytes : List ℕ) (turn : Turn) (shelf : Shelf) (next : Step) (new : Writing) (after : Shelf)
    → writes.WritesIf b wsize lane file offset bytes turn shelf next new after → after.names ≡ shelf.names
writes-names true wsize lane file offset bytes turn shelf next new after (inl s) =
    saves-names (is_first lane (joined lane s.of shelf).order) wsize lane file (saves.begun s.of shelf.seq) turn (joined lane s.of shelf) next new after s.saves
writes-names true wsize lane file offset bytes turn shelf next new after (inr s) = leads-names _ _ shelf next new after s.1
writes-names false wsize lane file offset bytes turn shelf next new after (inl s) = ap (λ (k : Shelf). k.names) s.leads.shelf_is
writes-names false wsize lane file offset bytes turn shelf next new after (inr s) = leads-names _ _ shelf next new after s

put-follows : (gives : _) (lane : ℕ) (saving : Saving) (old : Shelf) (next : Step) (state : Putting) (new : Shelf) → puts.Follows gives lane saving old next state new → new.names ≡ old.names
put-follows gives lane saving old next state new f = by-step (λ g. puts.Follows g lane saving old next state new → new.names ≡ old.names)
    (λ call l. ap (λ (k : Shelf). k.names) l.2) (λ l. ap (λ (k : Shelf). k.names) l.2) (λ result l. ap (λ (k : Shelf). k.names) l.others) gives f

put-queues : (b : Bool) (wsize lane : ℕ) (turn : Turn) (saving : Saving) (old : Shelf) (next : Step) (state : Putting) (new : Shelf)
    → puts.QueuesIf b wsize lane turn saving old next state new → new.names ≡ old.names
put-queues true wsize lane turn saving old next state new q = put-follows q.gives lane q.saved q.gone next state new q.follows ∙ ap (λ (k : Shelf). k.names) q.others
put-queues false wsize lane turn saving old next state new q = ap (λ (k : Shelf). k.names) q.shelf_is

after-write : (told : Step) (wsize lane : ℕ) (file : List ℕ) (turn : Turn) (old : Shelf) (next : Step) (state : Putting) (new : Shelf)
    → puts.AfterWrite told wsize lane file turn old next state new → new.names ≡ old.names
after-write (nexts.Send call) wsize lane file turn old next state new a = ap (λ (k : Shelf). k.names) a.2
after-write nexts.Wait wsize lane file turn old next state new a = ap (λ (k : Shelf). k.names) a.2
after-write (nexts.Done (answers.Done value)) wsize lane file turn old next state new a =
    put-queues (is_first lane (joined lane file old).order) wsize lane turn (saves.begun file old.seq) (joined lane file old) next state new a
after-write (nexts.Done (answers.Refused fault)) wsize lane file turn old next state new a = ap (λ (k : Shelf). k.names) a.others

after-opening : (step : OpeningStep) (wsize : ℕ) (m : PutFile) (turn : Turn) (old : Shelf) (next : Step) (new : PutFile) (after : Shelf)
    → puts.AfterOpening step wsize m turn old next new after → after.names ≡ old.names
after-opening (openings.Send call) wsize m turn old next new after a = ap (λ (k : Shelf). k.names) a.2
after-opening openings.Wait wsize m turn old next new after a = ap (λ (k : Shelf). k.names) a.shelf_is
after-opening (openings.Ended (Ok file)) wsize m turn old next new after a =
    after-write a.told wsize m.write.lane file turn a.mid next new.state after a.goes.follows
    ∙ writes-names _ wsize m.write.lane file m.write.offset (writes.made_bytes m.write.text) turn (puts.put_at m.write.lane file old) a.told a.written a.mid a.writes
after-opening (openings.Ended (Err fault)) wsize m turn old next new after a = ap (λ (k : Shelf). k.names) a.2

module _ (T : names.Entries → Type 0) (quiet : QuietLaws T) where
  -- ---- puts

  notes-told : (o : Opening) (came : Result Reply Fault) (step : OpeningPhase) (old new : names.Entries) (call : Call) → call ≡ opening.call_of o step → CallTells T quiet came call
      → opening.NotesNames o came step old new → T old → T new
  notes-told o came opening_steps.Look old new call e c n t = looked-told T quiet o.dir o.name came old new (c o.dir o.name e) n t
  notes-told o came opening_steps.Make old new call e c n t = told-as T quiet _ new n (left-told T quiet (came_unmade came) o.dir old t)
  notes-told o came opening_steps.Find old new call e c n t = looked-told T quiet o.dir o.name came old new (c o.dir o.name e) n t
  notes-told o came (opening_steps.Ask file) old new call e c n t = told-as T quiet old new n t

  put-takes : (at : Putting) (wsize : ℕ) (m : PutFile) (sent turn : Turn) (came : Result Reply Fault) (old : Shelf) (next : Step) (new : PutFile) (after : Shelf) (call : Call)
      → PutAwaits at m.opening call → CallTells T quiet came call → puts.Takes at wsize m sent turn came old next new after → T old.names → T after.names
  put-takes putting.Idle wsize m sent turn came old next new after call e c k t = shelf-as T quiet old after k.shelf_is t
  put-takes putting.Opens wsize m sent turn came old next new after call e c k t =
      told-as T quiet k.took.names after.names (after-opening k.step wsize _ turn k.took next new after k.follows)
      (notes-told m.opening came m.opening.step old.names k.took.names call e c k.names t)
  put-takes (putting.Adds file) wsize m sent turn came old next new after call e c k t =
      told-as T quiet old.names after.names
      (after-write k.told wsize m.write.lane file turn k.mid next new.state after k.goes.follows ∙ write-takes m.write.state wsize m.write sent turn came old k.told k.written k.mid k.takes) t
  put-takes (putting.Saves saving) wsize m sent turn came old next new after call e c k t =
      told-as T quiet old.names after.names (put-follows k.0.gives m.write.lane k.0.saved k.0.took next new.state after k.0.follows ∙ ap (λ (s : Shelf). s.names) k.0.others) t

  -- ---- closes

  ends-at : (place : Option (List ℕ × List ℕ)) (lane : ℕ) (room : Bool) (file : List ℕ) (why : Option Fault) (old : Shelf) (next : Step) (state : Closing) (new : Shelf)
      → closes.EndsAt place lane room file why old next state new → T old.names → T new.names
  ends-at None lane room file why old next state new e t = shelf-as T quiet _ new e.others t
  ends-at (Some place) lane room file why old next state new e t = shelf-as T quiet old new e.shelf_is t

  frees : (lane slot : ℕ) (room : Bool) (file : List ℕ) (why : Option Fault) (old : Shelf) (next : Step) (state : Closing) (new : Shelf)
      → closes.Frees lane slot room file why old next state new → T old.names → T new.names
  frees lane slot room file why old next state new f t = ends-at f.place lane room file why f.freed next state new f.ends (shelf-as T quiet _ f.freed f.slot_is t)

  close-follows : (gives : _) (lane slot : ℕ) (room begun : Bool) (saving : Saving) (old : Shelf) (next : Step) (state : Closing) (new : Shelf)
      → closes.Follows gives lane slot room begun saving old next state new → T old.names → T new.names
  close-follows gives lane slot room begun saving old next state new f t = by-step
      (λ g. closes.Follows g lane slot room begun saving old next state new → T new.names)
      (λ call l. shelf-as T quiet old new l.2 t) (λ l. shelf-as T quiet old new l.2 t) (λ result l. frees lane slot room saving.file (refusal_of result) old next state new l t) gives f

  close-goes : (wsize lane slot : ℕ) (turn : Turn) (begun : Bool) (saving : Saving) (old : Shelf) (next : Step) (state : Closing) (new : Shelf)
      → closes.GoesOn wsize lane slot turn begun saving old next state new → T old.names → T new.names
  close-goes wsize lane slot turn begun saving old next state new g t =
      close-follows g.gives lane slot turn.room begun g.saved g.gone next state new g.follows (shelf-as T quiet _ g.gone g.others t)

  close-begins : (end : Option ℕ) (wsize lane slot : ℕ) (turn : Turn) (saving : Saving) (old : Shelf) (next : Step) (state : Closing) (new : Shelf)
      → closes.Begins end wsize lane slot turn saving old next state new → T old.names → T new.names
  close-begins None wsize lane slot turn saving old next state new b t = frees lane slot turn.room saving.file None old next state new b t
  close-begins (Some end) wsize lane slot turn saving old next state new b t = close-goes wsize lane slot turn false saving old next state new b t

  close-queues : (b : Bool) (wsize lane slot : ℕ) (turn : Turn) (saving : Saving) (old : Shelf) (next : Step) (state : Closing) (new : Shelf)
      → closes.QueuesIf b wsize lane slot turn saving old next state new → T old.names → T new.names
  close-queues true wsize lane slot turn saving old next state new q t = close-begins (last_end (of_file saving.file old.back).segments) wsize lane slot turn saving old next state new q t
  close-queues false wsize lane slot turn saving old next state new q t = shelf-as T quiet old new q.shelf_is t

  close-starts : (file : Option (List ℕ)) (wsize : ℕ) (m : CloseFile) (turn : Turn) (old : Shelf) (next : Step) (state : Closing) (new : Shelf)
      → closes.StartsAt file wsize m turn old next state new → T old.names → T new.names
  close-starts None wsize m turn old next state new s t = shelf-as T quiet old new s.shelf_is t
  close-starts (Some file) wsize m turn old next state new s t =
      close-queues (is_first m.lane (joined m.lane file old).order) wsize m.lane m.slot turn (saves.begun file old.seq) (joined m.lane file old) next state new s t

  close-on : (b : Bool) (wsize lane slot : ℕ) (turn : Turn) (saving : Saving) (old : Shelf) (next : Step) (state : Closing) (new : Shelf)
      → closes.GoesOnIf b wsize lane slot turn saving old next state new → T old.names → T new.names
  close-on true wsize lane slot turn saving old next state new g t = close-goes wsize lane slot turn true saving old next state new g t
  close-on false wsize lane slot turn saving old next state new g t = shelf-as T quiet old new g.shelf_is t

  close-resumes : (at : Closing) (wsize : ℕ) (m : CloseFile) (turn : Turn) (old : Shelf) (next : Step) (state : Closing) (new : Shelf)
      → closes.Resumes at wsize m turn old next state new → T old.names → T new.names
  close-resumes closing.Idle wsize m turn old next state new r t = shelf-as T quiet old new r.shelf_is t
  close-resumes (closing.Queued saving) wsize m turn old next state new r t = close-queues (is_first m.lane old.order) wsize m.lane m.slot turn saving old next state new r t
  close-resumes (closing.Saves saving) wsize m turn old next state new r t = close-on (is_first m.lane old.order) wsize m.lane m.slot turn saving old next state new r t
  close-resumes (closing.ToRemove removal) wsize m turn old next state new r t = shelf-as T quiet old new r.shelf_is t
  close-resumes (closing.Removing removal) wsize m turn old next state new r t = shelf-as T quiet old new r.shelf_is t

  ends-if : (b : Bool) (lane : ℕ) (removal : Removal) (old : Shelf) (next : Step) (state : Closing) (new : Shelf) → closes.EndsIf b lane removal old next state new
      → T old.names → T new.names
  ends-if true lane removal old next state new e t = shelf-as T quiet old new e.shelf_is t
  ends-if false lane removal old next state new e t = shelf-as T quiet _ new e.others t

  close-takes : (at : Closing) (wsize : ℕ) (m : CloseFile) (sent turn : Turn) (came : Result Reply Fault) (old : Shelf) (next : Step) (state : Closing) (new : Shelf)
      → closes.Takes at wsize m sent turn came old next state new → T old.names → T new.names
  close-takes closing.Idle wsize m sent turn came old next state new k t = shelf-as T quiet old new k.shelf_is t
  close-takes (closing.Queued saving) wsize m sent turn came old next state new k t = shelf-as T quiet old new k.shelf_is t
  close-takes (closing.Saves saving) wsize m sent turn came old next state new k t =
      close-follows k.gives m.lane m.slot turn.room true k.saved k.took next state new k.follows (shelf-as T quiet _ k.took k.others t)
  close-takes (closing.ToRemove removal) wsize m sent turn came old next state new k t = shelf-as T quiet old new k.shelf_is t
  close-takes (closing.Removing removal) wsize m sent turn came old next state new k t =
      ends-if _ m.lane removal k.took next state new k.ends (shelf-as T quiet _ k.took k.others (left-told T quiet (came_unmade came) removal.dir old.names t))

  -- ---- any operation on a file

  file-starts : (m : FileMachine) (wsize : ℕ) (turn : Turn) (old : Shelf) (next : Step) (new : FileMachine) (after : Shelf) → steps.Starts wsize m turn old next new after
      → T old.names → T after.names
  file-starts (files.Open m) wsize turn old next new after s t = shelf-as T quiet old after s.shelf_is t
  file-starts (files.Read m) wsize turn old next new after s t = shelf-as T quiet _ after s.others t
  file-starts (files.Write m) wsize turn old next new after s t = told-as T quiet old.names after.names (write-starts (file_to_write m.lane m.slot old.opens) wsize m turn old next s.machine after s.step) t
  file-starts (files.Sync m) wsize turn old next new after s t = told-as T quiet old.names after.names (sync-starts (file_at m.lane m.slot old.opens) wsize m turn old next s.state after s.step) t
  file-starts (files.Close m) wsize turn old next new after s t = close-starts (file_at m.lane m.slot old.opens) wsize m turn old next s.state after s.step t
  file-starts (files.Truncate m) wsize turn old next new after s t = told-as T quiet old.names after.names (truncate-starts (found_file m old) m old after s.shelf_is) t
  file-starts (files.Put m) wsize turn old next new after s t = shelf-as T quiet old after s.shelf_is t

  file-resumes : (m : FileMachine) (wsize : ℕ) (turn : Turn) (old : Shelf) (next : Step) (new : FileMachine) (after : Shelf) → steps.Resumes wsize m turn old next new after
      → T old.names → T after.names
  file-resumes (files.Open m) wsize turn old next new after s t = shelf-as T quiet old after s.shelf_is t
  file-resumes (files.Read m) wsize turn old next new after s t = shelf-as T quiet _ after s.others t
  file-resumes (files.Write m) wsize turn old next new after s t = told-as T quiet old.names after.names (write-resumes m.state wsize m.lane turn old next s.state after s.step) t
  file-resumes (files.Sync m) wsize turn old next new after s t = told-as T quiet old.names after.names (sync-resumes m.state wsize m turn old next s.state after s.step) t
  file-resumes (files.Close m) wsize turn old next new after s t = close-resumes m.state wsize m turn old next s.state after s.step t
  file-resumes (files.Truncate m) wsize turn old next new after s t = shelf-as T quiet old after s.shelf_is t
  file-resumes (files.Put m) wsize turn old next new after s t = told-as T quiet old.names after.names (put-resumes m.state wsize m turn old next s.machine after s.step) t

  file-takes : (m : FileMachine) (wsize : ℕ) (sent turn : Turn) (came : Result Reply Fault) (old : Shelf) (next : Step) (new : FileMachine) (after : Shelf) (call : Call)
      → FileAwaits m call → CallTells T quiet came call → steps.Takes wsize m sent turn came old next new after → T old.names → T after.names
  file-takes (files.Open m) wsize sent turn came old next new after call e c s t = notes-told m.opening came m.opening.step old.names after.names call e c s.names t
  file-takes (files.Read m) wsize sent turn came old next new after call e c s t = shelf-as T quiet _ after s.others t
  file-takes (files.Write m) wsize sent turn came old next new after call e c s t =
      told-as T quiet old.names after.names (write-takes m.state wsize m sent turn came old next s.state after s.step) t
  file-takes (files.Sync m) wsize sent turn came old next new after call e c s t = told-as T quiet old.names after.names (sync-takes m.state wsize m sent turn came old next s.state after s.step) t
  file-takes (files.Close m) wsize sent turn came old next new after call e c s t = close-takes m.state wsize m sent turn came old next s.state after s.step t
  file-takes (files.Truncate m) wsize sent turn came old next new after call e c s t =
      told-as T quiet old.names after.names (truncate-takes m.state m came sent turn after.attrs after.back old after s.shelf_is) t
  file-takes (files.Put m) wsize sent turn came old next new after call e c s t = put-takes m.state wsize m sent turn came old next s.machine after call e c s.step t

  -- ---- opens and puts on their way

  then-told : (wsize : ℕ) (m : PathMachine) (turn : Turn) (old : Shelf) (next : Step) (new : PathMachine) (after : Shelf) → paths.ThenResumes wsize m turn old next new after
      → T old.names → T after.names
  then-told wsize m turn old next new after k t = file-resumes (file_of m.opener) wsize turn old next (file_of k.opener) after k.step t

  follows-path : (step : WalkStep) (wsize : ℕ) (m : PathMachine) (turn : Turn) (old : Shelf) (next : Step) (new : PathMachine) (after : Shelf)
      → paths.Follows step wsize m turn old next new after → T old.names → T after.names
  follows-path (walks.Send call) wsize m turn old next new after f t = shelf-as T quiet old after f.2 t
  follows-path walks.Wait wsize m turn old next new after f t = shelf-as T quiet old after f.2 t
  follows-path (walks.At dir) wsize m turn old next new after f t = then-told wsize (record m { opener = placed dir m.opener; arrived = true }) turn old next new after f t
  follows-path (walks.Refused fault) wsize m turn old next new after f t = shelf-as T quiet old after f.2 t

  path-resumes : (b : Bool) (wsize : ℕ) (m : PathMachine) (turn : Turn) (old : Shelf) (next : Step) (new : PathMachine) (after : Shelf) → paths.PathResumes b wsize m turn old next new after
      → T old.names → T after.names
  path-resumes true wsize m turn old next new after r t = then-told wsize m turn old next new after r t
  path-resumes false wsize m turn old next new after r t =
      follows-path (walking.go_next m.walk turn old) wsize (record m { walk = walking.go_after m.walk turn old }) turn (walking.go_shelf m.walk turn old) next new after r (go-told T quiet m.walk turn old t)

  path-starts : (taken : Bool) (wsize : ℕ) (m : PathMachine) (turn : Turn) (old : Shelf) (next : Step) (new : PathMachine) (after : Shelf) → paths.StartsIf taken wsize m turn old next new after
      → T old.names → T after.names
  path-starts true wsize m turn old next new after s t = shelf-as T quiet old after s.2 t
  path-starts false wsize m turn old next new after s t = path-resumes m.arrived wsize (record m { opener = begun_at (turn.moment - 1) m.opener }) turn old next new after s t

  path-takes : (b : Bool) (wsize : ℕ) (m : PathMachine) (sent turn : Turn) (came : Result Reply Fault) (old : Shelf) (next : Step) (new : PathMachine) (after : Shelf) (call : Call)
      → PathOr b m call → CallTells T quiet came call → paths.PathTakes b wsize m sent turn came old next new after → T old.names → T after.names
  path-takes true wsize m sent turn came old next new after call e c k t = file-takes (file_of m.opener) wsize sent turn came old next (file_of k.opener) after call e c k.step t
  path-takes false wsize m sent turn came old next new after call e c k t =
      follows-path k.step wsize k.walked turn k.heard next new after k.follows (walk-told T quiet m.walk sent turn came old k.step k.walked.walk k.heard call e c k.takes t)

  -- ---- any operation

  pub all-starts : (m : Machine) (wsize : ℕ) (turn : Turn) (old : Shelf) (next : Step) (new : Machine) (after : Shelf) → Starts wsize m turn old next new after → T old.names → T after.names
  all-starts (machines.File m) wsize turn old next new after s t = file-starts m wsize turn old next s.machine after s.step t
  all-starts (machines.Path m) wsize turn old next new after s t = path-starts (slot_taken m.opener old.opens) wsize m turn old next s.machine after s.step t
  all-starts (machines.Name m) wsize turn old next new after s t = name-goes T quiet m turn old next s.machine after s.step t

  pub all-resumes : (m : Machine) (wsize : ℕ) (turn : Turn) (old : Shelf) (next : Step) (new : Machine) (after : Shelf) → Resumes wsize m turn old next new after → T old.names → T after.names
  all-resumes (machines.File m) wsize turn old next new after s t = file-resumes m wsize turn old next s.machine after s.step t
  all-resumes (machines.Path m) wsize turn old next new after s t = path-resumes m.arrived wsize m turn old next s.machine after s.step t
  all-resumes (machines.Name m) wsize turn old next new after s t = name-goes T quiet m turn old next s.machine after s.step t

  pub all-takes : (m : Machine) (wsize : ℕ) (sent turn : Turn) (came : Result Reply Fault) (old : Shelf) (next : Step) (new : Machine) (after : Shelf) (call : Call) → Awaits m call
      → CallTells T quiet came call → Takes wsize m sent turn came old next new after → T old.names → T after.names
  all-takes (machines.File m) wsize sent turn came old next new after call e c s t = file-takes m wsize sent turn came old next s.machine after call e c s.step t
  all-takes (machines.Path m) wsize sent turn came old next new after call e c s t = path-takes m.arrived wsize m sent turn came old next s.machine after call e c s.step t
  all-takes (machines.Name m) wsize sent turn came old next new after call e c s t = name-takes T quiet m sent turn came old next s.machine after call e c s.step t
