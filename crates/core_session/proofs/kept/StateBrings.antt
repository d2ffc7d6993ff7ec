-- The file to which an operation is about to add bytes has a state in the page cache.
use Rattle.core_session.proofs.Prelude.{◌≡◌, ◌-◌, ℕ, Bool, true, false, List, Result, Ok, Err, refl, sym, ap, subst, ◌∙◌, inl, inr, Fault, Reply, Step, Shelf, Turn, left, is_first, OpeningStep, PutFile, Putting, Saving, WriteFile, Writing, is_full, file_to_write, joined, by-step, ends_as, WalkStep, FileMachine, Machine, Opener, PathMachine, file_of, slot_taken, begun_at, Starts, Resumes, Takes, Opens, Pages, RoomIs}
use Rattle.op_machines.specs.Openers.{placed}
use Rattle.world_model.specs.declared.answer.Answer.TheVariants as answers
use Rattle.client_shelf.specs.declared.step.Step.TheVariants as nexts
use Rattle.file_ops.specs.declared.opening.OpeningStep.TheVariants as openings
use Rattle.file_ops.specs.declared.put_file.Putting.TheVariants as putting
use Rattle.file_ops.specs.declared.write_file.Writing.TheVariants as writing
use Rattle.file_ops.specs.Opening as opening
use Rattle.file_ops.specs.PutFile as puts
use Rattle.file_ops.specs.Saves as saves
use Rattle.file_ops.specs.WriteFile as writes
use Rattle.name_ops.specs.declared.walk.WalkStep.TheVariants as walks
use Rattle.name_ops.specs.Walking as walking
use Rattle.op_machines.specs.declared.file_machine.FileMachine.TheVariants as files
use Rattle.op_machines.specs.declared.machine.Machine.TheVariants as machines
use Rattle.op_machines.specs.declared.opener.Opener.TheVariants as openers
use Rattle.op_machines.specs.FileSteps as steps
use Rattle.op_machines.specs.PathSteps as paths
use Rattle.core_session.proofs.order.Adds.{RoomHas, PutHas, FileHas, PathHas, TakesHas, StartsHas}
use Rattle.core_session.proofs.kept.OwnTold.{added-same}
use Rattle.core_session.proofs.kept.StateOpened.{St, led-stated}

-- ---- of which operations something is said

-- B of the file for which a put makes room
abbrev pub PutOf : (List ℕ → Type 0) → Putting → Writing → Type 0
PutOf B putting.Idle write = Unit {0}
PutOf B putting.Opens write = Unit {0}
PutOf B (putting.Adds file) write = RoomIs B write
PutOf B (putting.Saves saving) write = Unit {0}

abbrev pub FileOf : (List ℕ → Type 0) → FileMachine → Type 0
FileOf B (files.Open m) = Unit {0}
FileOf B (files.Read m) = Unit {0}
FileOf B (files.Write m) = RoomIs B m.state
FileOf B (files.Sync m) = Unit {0}
FileOf B (files.Close m) = Unit {0}
FileOf B (files.Truncate m) = Unit {0}
FileOf B (files.Put m) = PutOf B m.state m.write.state

abbrev pub PathOf : (List ℕ → Type 0) → Bool → Opener → Type 0
PathOf B true opener = FileOf B (file_of opener)
PathOf B false opener = Unit {0}

abbrev pub MachineOf : (List ℕ → Type 0) → Machine → Type 0
MachineOf B (machines.File m) = FileOf B m
MachineOf B (machines.Path m) = PathOf B m.arrived m.opener
MachineOf B (machines.Name m) = Unit {0}

-- as it begins, of the file that its slot holds
abbrev pub FileBegins : (List ℕ → Type 0) → FileMachine → Opens → Type 0
FileBegins B (files.Open m) slots = Unit {0}
FileBegins B (files.Read m) slots = Unit {0}
FileBegins B (files.Write m) slots = (file : List ℕ) → file_to_write m.lane m.slot slots ≡ Ok file → B file
FileBegins B (files.Sync m) slots = Unit {0}
FileBegins B (files.Close m) slots = Unit {0}
FileBegins B (files.Truncate m) slots = Unit {0}
FileBegins B (files.Put m) slots = Unit {0}

abbrev pub MachineBegins : (List ℕ → Type 0) → Machine → Opens → Type 0
MachineBegins B (machines.File m) slots = FileBegins B m slots
MachineBegins B (machines.Path m) slots = PathOf B m.arrived m.opener
MachineBegins B (machines.Name m) slots = Unit {0}

module _ (B : List ℕ → Type 0) where
  -- ---- writes and fills

  room-to : (told : _) (file : List ℕ) (saved : Saving) (state : Writing) → state ≡ writes.room_state told file saved → B file → RoomIs B state
  room-to told file saved state is b = by-step (λ t. state ≡ writes.room_state t file saved → RoomIs B state)
      (λ call is. subst (RoomIs B) (sym is) b)
      (λ is. subst (RoomIs B) (sym is) b)
      ended told is
    where
      ended : (result : Result (Unit {0}) Fault) → state ≡ writes.room_state (ends_as result) file saved → RoomIs B state
      ended (Ok done) is = subst (RoomIs B) (sym is) b
      ended (Err fault) is = subst (RoomIs B) (sym is) tt

  idle-to : (state : Writing) → state ≡ writing.Idle → RoomIs B state
  idle-to state is = subst (RoomIs B) (sym is) tt

  saves-to : (b : Bool) (wsize lane : ℕ) (file : List ℕ) (saving : Saving) (turn : Turn) (shelf : Shelf) (next : Step) (state : Writing) (after : Shelf)
      → writes.SavesIf b wsize lane file saving turn shelf next state after → B file → RoomIs B state
  saves-to false wsize lane file saving turn shelf next state after s b = subst (RoomIs B) (sym s.keeps) b
  saves-to true wsize lane file saving turn shelf next state after s b = room-to s.told file s.saved state s.leads.keeps b

  writes-to : (wsize lane : ℕ) (file : List ℕ) (offset : ℕ) (bytes : List ℕ) (turn : Turn) (shelf : Shelf) (next : Step) (state : Writing) (after : Shelf)
      → writes.Writes wsize lane file offset bytes turn shelf next state after → B file → RoomIs B state
  writes-to wsize lane file offset bytes turn shelf next state after w b = by (is_full bytes shelf.back) w
    where
      by : (full : Bool) → writes.WritesIf full wsize lane file offset bytes turn shelf next state after → RoomIs B state
      by true (inl s) = saves-to (is_first lane (joined lane s.of shelf).order) wsize lane file (saves.begun s.of shelf.seq) turn (joined lane s.of shelf) next state after s.saves b
      by true (inr s) = idle-to state s.1.keeps
      by false (inl s) = idle-to state s.leads.keeps
      by false (inr s) = idle-to state s.keeps

  resumes-to : (at : Writing) (wsize lane : ℕ) (turn : Turn) (old : Shelf) (next : Step) (state : Writing) (after : Shelf)
      → writes.ResumesIn at wsize lane turn old next state after → RoomIs B at → RoomIs B state
  resumes-to writing.Idle wsize lane turn old next state after s b = idle-to state s.keeps
  resumes-to (writing.Room file saving) wsize lane turn old next state after s b = saves-to (is_first lane old.order) wsize lane file saving turn old next state after s b

  follows-to : (told : _) (wsize : ℕ) (machine : WriteFile) (file : List ℕ) (saved : Saving) (turn : Turn) (shelf : Shelf) (next : Step) (state : Writing) (after : Shelf)
      → writes.Follows told wsize machine file saved turn shelf next state after → B file → RoomIs B state
  follows-to told wsize machine file saved turn shelf next state after f b = by-step (λ t. writes.Follows t wsize machine file saved turn shelf next state after → RoomIs B state)
      (λ call f. subst (RoomIs B) (sym f.keeps) b)
      (λ f. subst (RoomIs B) (sym f.keeps) b)
      ended told f
    where
      ended : (result : Result (Unit {0}) Fault) → writes.Follows (ends_as result) wsize machine file saved turn shelf next state after → RoomIs B state
      ended (Ok done) f = writes-to wsize machine.lane file machine.offset (writes.made_bytes machine.text) turn (record shelf { order = left machine.lane shelf.order }) next state after f b
      ended (Err fault) f = idle-to state f.keeps

  takes-to : (at : Writing) (wsize : ℕ) (machine : WriteFile) (sent turn : Turn) (came : Result Reply Fault) (old : Shelf) (next : Step) (state : Writing) (after : Shelf)
      → writes.TakesIn at wsize machine sent turn came old next state after → RoomIs B at → RoomIs B state
  takes-to writing.Idle wsize machine sent turn came old next state after t b = idle-to state t.keeps
  takes-to (writing.Room file saving) wsize machine sent turn came old next state after t b = follows-to t.told wsize machine file t.saved turn _ next state after t.follows b

  -- ---- puts

  done-to : (state : Putting) (write : Writing) → state ≡ putting.Idle → PutOf B state write
  done-to state write is = subst (λ (s : Putting). PutOf B s write) (sym is) tt

  save-to : (saving : Saving) (state : Putting) (write : Writing) → state ≡ putting.Saves saving → PutOf B state write
  save-to saving state write is = subst (λ (s : Putting). PutOf B s write) (sym is) tt

  put-follows-to : (gives : _) (lane : ℕ) (saving : Saving) (old : Shelf) (next : Step) (state : Putting) (write : Writing) (after : Shelf)
      → puts.Follows gives lane saving old next state after → PutOf B state write
  put-follows-to gives lane saving old next state write after f = by-step (λ g. puts.Follows g lane saving old next state after → PutOf B state write)
      (λ call f. save-to saving state write f.1)
      (λ f. save-to saving state write f.1)
      (λ result f. done-to state write f.state_is)
      gives f

  put-queues-to : (b : Bool) (wsize lane : ℕ) (turn : Turn) (saving : Saving) (old : Shelf) (next : Step) (state : Putting) (write : Writing) (after : Shelf)
      → puts.QueuesIf b wsize lane turn saving old next state after → PutOf B state write
  put-queues-to false wsize lane turn saving old next state write after q = save-to saving state write q.state_is
  put-queues-to true wsize lane turn saving old next state write after g = put-follows-to g.gives lane g.saved g.gone next state write after g.follows

  put-wrote-to : (told : Step) (wsize lane : ℕ) (file : List ℕ) (turn : Turn) (old : Shelf) (next : Step) (state : Putting) (write : Writing) (after : Shelf)
      → puts.AfterWrite told wsize lane file turn old next state after → RoomIs B write → PutOf B state write
  put-wrote-to (nexts.Send call) wsize lane file turn old next state write after a r = subst (λ (s : Putting). PutOf B s write) (sym a.1) r
  put-wrote-to nexts.Wait wsize lane file turn old next state write after a r = subst (λ (s : Putting). PutOf B s write) (sym a.1) r
  put-wrote-to (nexts.Done (answers.Done value)) wsize lane file turn old next state write after a r =
      put-queues-to (is_first lane (joined lane file old).order) wsize lane turn (saves.begun file old.seq) (joined lane file old) next state write after a
  put-wrote-to (nexts.Done (answers.Refused fault)) wsize lane file turn old next state write after a r = done-to state write a.state_is

-- ---- which file it opens at a reply

abbrev pub PutFound : (at : Putting) (wsize : ℕ) (m : PutFile) (sent turn : Turn) (came : Result Reply Fault) (old : Shelf) (next : Step) (new : PutFile) (after : Shelf)
    → puts.Takes at wsize m sent turn came old next new after → List ℕ → Type 0
PutFound putting.Idle wsize m sent turn came old next new after t file = ⊥
PutFound putting.Opens wsize m sent turn came old next new after t file = t.step ≡ openings.Ended (Ok file)
PutFound (putting.Adds f) wsize m sent turn came old next new after t file = ⊥
PutFound (putting.Saves saving) wsize m sent turn came old next new after t file = ⊥

abbrev pub FileFound : (wsize : ℕ) (m : FileMachine) (sent turn : Turn) (came : Result Reply Fault) (old : Shelf) (next : Step) (new : FileMachine) (after : Shelf)
    → steps.Takes wsize m sent turn came old next new after → List ℕ → Type 0
FileFound wsize (files.Open m) sent turn came old next new after t file = ⊥
FileFound wsize (files.Read m) sent turn came old next new after t file = ⊥
FileFound wsize (files.Write m) sent turn came old next new after t file = ⊥
FileFound wsize (files.Sync m) sent turn came old next new after t file = ⊥
FileFound wsize (files.Close m) sent turn came old next new after t file = ⊥
FileFound wsize (files.Truncate m) sent turn came old next new after t file = ⊥
FileFound wsize (files.Put m) sent turn came old next new after t file = PutFound m.state wsize m sent turn came old next t.machine after t.step file

abbrev pub PathFound : (b : Bool) (wsize : ℕ) (m : PathMachine) (sent turn : Turn) (came : Result Reply Fault) (old : Shelf) (next : Step) (new : PathMachine) (after : Shelf)
    → paths.PathTakes b wsize m sent turn came old next new after → List ℕ → Type 0
PathFound true wsize m sent turn came old next new after t file = FileFound wsize (file_of m.opener) sent turn came old next (file_of t.opener) after t.step file
PathFound false wsize m sent turn came old next new after t file = ⊥

abbrev pub MachineFound : (wsize : ℕ) (m : Machine) (sent turn : Turn) (came : Result Reply Fault) (old : Shelf) (next : Step) (new : Machine) (after : Shelf)
    → Takes wsize m sent turn came old next new after → List ℕ → Type 0
MachineFound wsize (machines.File m) sent turn came old next new after t file = FileFound wsize m sent turn came old next t.machine after t.step file
MachineFound wsize (machines.Path m) sent turn came old next new after t file = PathFound m.arrived wsize m sent turn came old next t.machine after t.step file
MachineFound wsize (machines.Name m) sent turn came old next new after t file = ⊥

-- the cache has a state of it
put-stated : (at : Putting) (wsize : ℕ) (m : PutFile) (sent turn : Turn) (came : Result Reply Fault) (old : Shelf) (next : Step) (new : PutFile) (after : Shelf)
    (t : puts.Takes at wsize m sent turn came old next new after) (file : List ℕ) → PutFound at wsize m sent turn came old next new after t file → St after.pages file
put-stated putting.Idle wsize m sent turn came old next new after t file is = absurd is
put-stated putting.Opens wsize m sent turn came old next new after t file is =
    let a = subst (λ (s : OpeningStep). puts.AfterOpening s wsize (puts.led (opening.opening_again m.opening sent turn came old.repeats) m turn came t.took.attrs old.pages) turn t.took next new after) is t.follows in
    subst (λ (c : Pages). St c file) (sym (added-same wsize (puts.led (opening.opening_again m.opening sent turn came old.repeats) m turn came t.took.attrs old.pages) file turn t.took next new after a))
    (led-stated (opening.opening_again m.opening sent turn came old.repeats) m.opening sent turn (opening.led_on m.opening turn.now came t.took.attrs old.pages) t.step old.pages t.took.pages t.leads file is)
put-stated (putting.Adds f) wsize m sent turn came old next new after t file is = absurd is
put-stated (putting.Saves saving) wsize m sent turn came old next new after t file is = absurd is

file-stated : (wsize : ℕ) (m : FileMachine) (sent turn : Turn) (came : Result Reply Fault) (old : Shelf) (next : Step) (new : FileMachine) (after : Shelf)
    (t : steps.Takes wsize m sent turn came old next new after) (file : List ℕ) → FileFound wsize m sent turn came old next new after t file → St after.pages file
file-stated wsize (files.Open m) sent turn came old next new after t file is = absurd is
file-stated wsize (files.Read m) sent turn came old next new after t file is = absurd is
file-stated wsize (files.Write m) sent turn came old next new after t file is = absurd is
file-stated wsize (files.Sync m) sent turn came old next new after t file is = absurd is
file-stated wsize (files.Close m) sent turn came old next new after t file is = absurd is
file-stated wsize (files.Truncate m) sent turn came old next new after t file is = absurd is
file-stated wsize (files.Put m) sent turn came old next new after t file is = put-stated m.state wsize m sent turn came old next t.machine after t.step file is

path-stated : (b : Bool) (wsize : ℕ) (m : PathMachine) (sent turn : Turn) (came : Result Reply Fault) (old : Shelf) (next : Step) (new : PathMachine) (after : Shelf)
    (t : paths.PathTakes b wsize m sent turn came old next new after) (file : List ℕ) → PathFound b wsize m sent turn came old next new after t file → St after.pages file
path-stated true wsize m sent turn came old next new after t file is = file-stated wsize (file_of m.opener) sent turn came old next (file_of t.opener) after t.step file is
path-stated false wsize m sent turn came old next new after t file is = absurd is

pub found-stated : (wsize : ℕ) (m : Machine) (sent turn : Turn) (came : Result Reply Fault) (old : Shelf) (next : Step) (new : Machine) (after : Shelf)
    (t : Takes wsize m sent turn came old next new after) (file : List ℕ) → MachineFound wsize m sent turn came old next new after t file → St after.pages file
found-stated wsize (machines.File m) sent turn came old next new after t file is = file-stated wsize m sent turn came old next t.machine after t.step file is
found-stated wsize (machines.Path m) sent turn came old next new after t file is = path-stated m.arrived wsize m sent turn came old next t.machine after t.step file is
found-stated wsize (machines.Name m) sent turn came old next new after t file is = absurd is

-- ---- after a step

module _ (B : List ℕ → Type 0) where
  abbrev OfPut : PutFile → Type 0
  OfPut m = PutOf B m.state m.write.state

  put-as : (to new : PutFile) → new ≡ to → OfPut to → OfPut new
  put-as to new is p = subst (OfPut) (sym is) p

  put-goes-to : (wsize : ℕ) (m : PutFile) (file : List ℕ) (turn : Turn) (told : Step) (written : Writing) (mid : Shelf) (next : Step) (new : PutFile) (after : Shelf)
      → puts.WritesOn wsize m file turn told written mid next new after → RoomIs B written → OfPut new
  put-goes-to wsize m file turn told written mid next new after g r =
      put-as (record m { write = record m.write { state = written }; state = new.state }) new g.machine_is
      (put-wrote-to B told wsize m.write.lane file turn mid next new.state written after g.follows r)

  put-opened-to : (step : OpeningStep) (wsize : ℕ) (m : PutFile) (turn : Turn) (old : Shelf) (next : Step) (new : PutFile) (after : Shelf) → m.state ≡ putting.Opens
      → puts.AfterOpening step wsize m turn old next new after → ((file : List ℕ) → step ≡ openings.Ended (Ok file) → B file) → OfPut new
  put-opened-to (openings.Send call) wsize m turn old next new after at a b = put-as m new a.1 (subst (λ (s : Putting). PutOf B s m.write.state) (sym at) tt)
  put-opened-to openings.Wait wsize m turn old next new after at a b = put-as m new a.machine_is (subst (λ (s : Putting). PutOf B s m.write.state) (sym at) tt)
  put-opened-to (openings.Ended (Ok file)) wsize m turn old next new after at a b =
      put-goes-to wsize m file turn a.told a.written a.mid next new after a.goes
      (writes-to B wsize m.write.lane file m.write.offset (writes.made_bytes m.write.text) turn (puts.put_at m.write.lane file old) a.told a.written a.mid a.writes (b file refl))
  put-opened-to (openings.Ended (Err fault)) wsize m turn old next new after at a b = put-as (record m { state = putting.Idle }) new a.1 tt

  put-resumes-to : (at : Putting) (wsize : ℕ) (m : PutFile) (turn : Turn) (old : Shelf) (next : Step) (new : PutFile) (after : Shelf) → m.state ≡ at
      → puts.Resumes at wsize m turn old next new after → PutOf B at m.write.state → OfPut new
  put-resumes-to putting.Idle wsize m turn old next new after at s b =
      put-as m new s.machine_is (subst (λ (s : Putting). PutOf B s m.write.state) (sym at) tt)
  put-resumes-to putting.Opens wsize m turn old next new after at s b =
      put-as (record m { opening = opening.go_after m.opening turn }) new s.1
      (subst (λ (s : Putting). PutOf B s m.write.state) (sym at) tt)
  put-resumes-to (putting.Adds file) wsize m turn old next new after at s b =
      put-goes-to wsize m file turn s.told s.written s.mid next new after s.goes
      (resumes-to B m.write.state wsize m.write.lane turn old s.told s.written s.mid s.resumes b)
  put-resumes-to (putting.Saves saving) wsize m turn old next new after at s b =
      put-as (record m { state = new.state }) new s.1
      (put-queues-to B (is_first m.write.lane old.order) wsize m.write.lane turn saving old next new.state m.write.state after s.0)

  put-takes-to : (at : Putting) (wsize : ℕ) (m : PutFile) (sent turn : Turn) (came : Result Reply Fault) (old : Shelf) (next : Step) (new : PutFile) (after : Shelf) → m.state ≡ at
      → (t : puts.Takes at wsize m sent turn came old next new after) → ((file : List ℕ) → PutFound at wsize m sent turn came old next new after t file → B file) → PutOf B at m.write.state → OfPut new
  put-takes-to putting.Idle wsize m sent turn came old next new after at t found b =
      put-as m new t.machine_is (subst (λ (s : Putting). PutOf B s m.write.state) (sym at) tt)
  put-takes-to putting.Opens wsize m sent turn came old next new after at t found b = put-opened-to t.step wsize _ turn t.took next new after at t.follows found
  put-takes-to (putting.Adds file) wsize m sent turn came old next new after at t found b =
      put-goes-to wsize m file turn t.told t.written t.mid next new after t.goes
      (takes-to B m.write.state wsize m.write sent turn came old t.told t.written t.mid t.takes b)
  put-takes-to (putting.Saves saving) wsize m sent turn came old next new after at t found b =
      put-as (record m { state = new.state }) new t.1
      (put-follows-to B t.0.gives m.write.lane t.0.saved t.0.took next new.state m.write.state after t.0.follows)

  -- ---- any operation on a file

  file-as : (to new : FileMachine) → new ≡ to → FileOf B to → FileOf B new
  file-as to new is b = subst (FileOf B) (sym is) b

  write-starts-to : (wsize : ℕ) (m : WriteFile) (turn : Turn) (old : Shelf) (next : Step) (new : WriteFile) (after : Shelf) → FileBegins B (files.Write m) old.opens
      → writes.Starts wsize m turn old next new after → FileOf B (files.Write new)
  write-starts-to wsize m turn old next new after a s = at (file_to_write m.lane m.slot old.opens) refl s
    where
      at : (found : Result (List ℕ) Fault) → file_to_write m.lane m.slot old.opens ≡ found → writes.StartsAt found wsize m turn old next new after → FileOf B (files.Write new)
      at (Err fault) is s = idle-to B new.state s.refuses.keeps
      at (Ok file) is (inr s) = idle-to B new.state s.refuses.keeps
      at (Ok file) is (inl s) =
          let room : RoomIs B new.state =
          writes-to B wsize m.lane file m.offset (writes.text_bytes m.text) turn old next new.state after s.writes (a file is) in
          file-as _ (files.Write new) (ap files.Write s.text) room

  pub file-starts-to : (wsize : ℕ) (m : FileMachine) (turn : Turn) (old : Shelf) (next : Step) (new : FileMachine) (after : Shelf) → FileBegins B m old.opens
      → steps.Starts wsize m turn old next new after → FileOf B new
  file-starts-to wsize (files.Open m) turn old next new after a s = file-as _ new s.machine_is tt
  file-starts-to wsize (files.Read m) turn old next new after a s = file-as (files.Read s.machine) new s.machine_is tt
  file-starts-to wsize (files.Write m) turn old next new after a s = file-as (files.Write s.machine) new s.machine_is (write-starts-to wsize m turn old next s.machine after a s.step)
  file-starts-to wsize (files.Sync m) turn old next new after a s = file-as _ new s.machine_is tt
  file-starts-to wsize (files.Close m) turn old next new after a s = file-as _ new s.machine_is tt
  file-starts-to wsize (files.Truncate m) turn old next new after a s = file-as _ new s.machine_is tt
  file-starts-to wsize (files.Put m) turn old next new after a s = file-as _ new s.machine_is tt

  pub file-resumes-to : (wsize : ℕ) (m : FileMachine) (turn : Turn) (old : Shelf) (next : Step) (new : FileMachine) (after : Shelf) → steps.Resumes wsize m turn old next new after
      → FileOf B m → FileOf B new
  file-resumes-to wsize (files.Open m) turn old next new after s b = file-as _ new s.machine_is tt
  file-resumes-to wsize (files.Read m) turn old next new after s b = file-as (files.Read s.machine) new s.machine_is tt
  file-resumes-to wsize (files.Write m) turn old next new after s b =
      file-as (files.Write (record m { state = s.state })) new s.machine_is
      (resumes-to B m.state wsize m.lane turn old next s.state after s.step b)
  file-resumes-to wsize (files.Sync m) turn old next new after s b = file-as _ new s.machine_is tt
  file-resumes-to wsize (files.Close m) turn old next new after s b = file-as _ new s.machine_is tt
  file-resumes-to wsize (files.Truncate m) turn old next new after s b = file-as _ new s.machine_is tt
  file-resumes-to wsize (files.Put m) turn old next new after s b =
      file-as (files.Put s.machine) new s.machine_is (put-resumes-to m.state wsize m turn old next s.machine after refl s.step b)

  pub file-takes-to : (wsize : ℕ) (m : FileMachine) (sent turn : Turn) (came : Result Reply Fault) (old : Shelf) (next : Step) (new : FileMachine) (after : Shelf)
      → (s : steps.Takes wsize m sent turn came old next new after) → ((file : List ℕ) → FileFound wsize m sent turn came old next new after s file → B file) → FileOf B m → FileOf B new
  file-takes-to wsize (files.Open m) sent turn came old next new after s found b = file-as _ new s.machine_is tt
  file-takes-to wsize (files.Read m) sent turn came old next new after s found b = file-as (files.Read s.machine) new s.machine_is tt
  file-takes-to wsize (files.Write m) sent turn came old next new after s found b =
      file-as (files.Write (record m { state = s.state })) new s.machine_is
      (takes-to B m.state wsize m sent turn came old next s.state after s.step b)
  file-takes-to wsize (files.Sync m) sent turn came old next new after s found b = file-as _ new s.machine_is tt
  file-takes-to wsize (files.Close m) sent turn came old next new after s found b = file-as _ new s.machine_is tt
  file-takes-to wsize (files.Truncate m) sent turn came old next new after s found b = file-as _ new s.machine_is tt
  file-takes-to wsize (files.Put m) sent turn came old next new after s found b =
      file-as (files.Put s.machine) new s.machine_is (put-takes-to m.state wsize m sent turn came old next s.machine after refl s.step found b)

  -- ---- opens and puts on their way

  abbrev pub OfPath : PathMachine → Type 0
  OfPath m = PathOf B m.arrived m.opener

  path-as : (to new : PathMachine) → new ≡ to → OfPath to → OfPath new
  path-as to new is b = subst OfPath (sym is) b

  arrived-to : (m : PathMachine) (opener : Opener) (new : PathMachine) → m.arrived ≡ true → new ≡ record m { opener = opener } → FileOf B (file_of opener) → OfPath new
  arrived-to m opener new there is b = path-as (record m { opener = opener }) new is (subst (λ (k : Bool). PathOf B k opener) (sym there) b)

  way-to : (m new : PathMachine) → m.arrived ≡ false → new ≡ m → PathOf B false m.opener → OfPath new
  way-to m new way is b = path-as m new is (subst (λ (k : Bool). PathOf B k m.opener) (sym way) b)

  placed-brings : (dir : List ℕ) (o : Opener) → FileOf B (file_of (placed dir o))
  placed-brings dir (openers.Open m) = tt
  placed-brings dir (openers.Put m) = tt

  begun-brings : (moment : ℕ) (arrived : Bool) (o : Opener) → PathOf B arrived o → PathOf B arrived (begun_at moment o)
  begun-brings moment true (openers.Open m) b = b
  begun-brings moment true (openers.Put m) b = b
  begun-brings moment false o b = tt

  path-follows-to : (step : WalkStep) (wsize : ℕ) (m : PathMachine) (turn : Turn) (old : Shelf) (next : Step) (new : PathMachine) (after : Shelf) → m.arrived ≡ false
      → paths.Follows step wsize m turn old next new after → PathOf B false m.opener → OfPath new
  path-follows-to (walks.Send call) wsize m turn old next new after way f b = way-to m new way f.1 b
  path-follows-to walks.Wait wsize m turn old next new after way f b = way-to m new way f.1 b
  path-follows-to (walks.At dir) wsize m turn old next new after way f b =
      arrived-to (record m { opener = placed dir m.opener; arrived = true }) f.opener new refl f.machine_is
      (file-resumes-to wsize (file_of (placed dir m.opener)) turn old next (file_of f.opener) after f.step (placed-brings dir m.opener))
  path-follows-to (walks.Refused fault) wsize m turn old next new after way f b = way-to m new way f.1 b

  path-resumes-to : (k : Bool) (wsize : ℕ) (m : PathMachine) (turn : Turn) (old : Shelf) (next : Step) (new : PathMachine) (after : Shelf) → m.arrived ≡ k
      → paths.PathResumes k wsize m turn old next new after → PathOf B k m.opener → OfPath new
  path-resumes-to true wsize m turn old next new after is r b =
      arrived-to m r.opener new is r.machine_is (file-resumes-to wsize (file_of m.opener) turn old next (file_of r.opener) after r.step b)
  path-resumes-to false wsize m turn old next new after is r b =
      path-follows-to (walking.go_next m.walk turn old) wsize (record m { walk = walking.go_after m.walk turn old }) turn (walking.go_shelf m.walk turn old) next new after is r b

  path-takes-to : (k : Bool) (wsize : ℕ) (m : PathMachine) (sent turn : Turn) (came : Result Reply Fault) (old : Shelf) (next : Step) (new : PathMachine) (after : Shelf)
      → m.arrived ≡ k → (t : paths.PathTakes k wsize m sent turn came old next new after) → ((file : List ℕ) → PathFound k wsize m sent turn came old next new after t file → B file) → PathOf B k m.opener → OfPath new
  path-takes-to true wsize m sent turn came old next new after is t found b =
      arrived-to m t.opener new is t.machine_is (file-takes-to wsize (file_of m.opener) sent turn came old next (file_of t.opener) after t.step found b)
  path-takes-to false wsize m sent turn came old next new after is t found b =
      path-follows-to t.step wsize t.walked turn t.heard next new after (ap (λ (n : PathMachine). n.arrived) t.walked_is ∙ is) t.follows
      (subst (λ (n : PathMachine). PathOf B false n.opener) (sym t.walked_is) b)

  path-starts-to : (taken : Bool) (wsize : ℕ) (m : PathMachine) (turn : Turn) (old : Shelf) (next : Step) (new : PathMachine) (after : Shelf)
      → paths.StartsIf taken wsize m turn old next new after → OfPath m → OfPath new
  path-starts-to true wsize m turn old next new after s b = path-as m new s.1 b
  path-starts-to false wsize m turn old next new after s b =
      path-resumes-to m.arrived wsize (record m { opener = begun_at (turn.moment - 1) m.opener }) turn old next new after refl s
      (begun-brings (turn.moment - 1) m.arrived m.opener b)

  -- ---- any operation

  machine-as : (to new : Machine) → new ≡ to → MachineOf B to → MachineOf B new
  machine-as to new is b = subst (MachineOf B) (sym is) b

  pub starts-brings : (wsize : ℕ) (m : Machine) (turn : Turn) (old : Shelf) (next : Step) (new : Machine) (after : Shelf) → MachineBegins B m old.opens
      → Starts wsize m turn old next new after → MachineOf B new
  starts-brings wsize (machines.File m) turn old next new after a s =
      machine-as (machines.File s.machine) new s.machine_is (file-starts-to wsize m turn old next s.machine after a s.step)
  starts-brings wsize (machines.Path m) turn old next new after a s =
      machine-as (machines.Path s.machine) new s.machine_is (path-starts-to (slot_taken m.opener old.opens) wsize m turn old next s.machine after s.step a)
  starts-brings wsize (machines.Name m) turn old next new after a s = machine-as (machines.Name s.machine) new s.machine_is tt

  pub resumes-brings : (wsize : ℕ) (m : Machine) (turn : Turn) (old : Shelf) (next : Step) (new : Machine) (after : Shelf) → MachineOf B m → Resumes wsize m turn old next new after
      → MachineOf B new
  resumes-brings wsize (machines.File m) turn old next new after b s =
      machine-as (machines.File s.machine) new s.machine_is (file-resumes-to wsize m turn old next s.machine after s.step b)
  resumes-brings wsize (machines.Path m) turn old next new after b s =
      machine-as (machines.Path s.machine) new s.machine_is (path-resumes-to m.arrived wsize m turn old next s.machine after refl s.step b)
  resumes-brings wsize (machines.Name m) turn old next new after b s = machine-as (machines.Name s.machine) new s.machine_is tt

  pub takes-brings : (wsize : ℕ) (m : Machine) (sent turn : Turn) (came : Result Reply Fault) (old : Shelf) (next : Step) (new : Machine) (after : Shelf) → MachineOf B m
      → (s : Takes wsize m sent turn came old next new after) → ((file : List ℕ) → MachineFound wsize m sent turn came old next new after s file → B file) → MachineOf B new
  takes-brings wsize (machines.File m) sent turn came old next new after b s found =
      machine-as (machines.File s.machine) new s.machine_is (file-takes-to wsize m sent turn came old next s.machine after s.step found b)
  takes-brings wsize (machines.Path m) sent turn came old next new after b s found =
      machine-as (machines.Path s.machine) new s.machine_is (path-takes-to m.arrived wsize m sent turn came old next s.machine after refl s.step found b)
  takes-brings wsize (machines.Name m) sent turn came old next new after b s found = machine-as (machines.Name s.machine) new s.machine_is tt

  -- what it adds is of such a file

  room-has : (C : List ℕ → Type 0) → ((f : List ℕ) → B f → C f) → (at : Writing) (wsize : ℕ) (sent turn : Turn) (came : Result Reply Fault) (m : WriteFile) (old : Shelf) (next : Step) (state : Writing) (after : Shelf)
      (t : writes.TakesIn at wsize m sent turn came old next state after) → RoomIs B at → RoomHas C at wsize m sent turn came old next state after t
  room-has C f writing.Idle wsize sent turn came m old next state after t b = tt
  room-has C f (writing.Room file saving) wsize sent turn came m old next state after t b = λ well. f file b

  put-has : (at : Putting) (wsize : ℕ) (sent turn : Turn) (came : Result Reply Fault) (m : PutFile) (old : Shelf) (next : Step) (new : PutFile) (after : Shelf) (t : puts.Takes at wsize m sent turn came old next new after)
      → ((file : List ℕ) → PutFound at wsize m sent turn came old next new after t file → B file) → PutOf B at m.write.state → PutHas B at wsize m sent turn came old next new after t
  put-has putting.Idle wsize sent turn came m old next new after t found b = tt
  put-has putting.Opens wsize sent turn came m old next new after t found b = found
  put-has (putting.Adds file) wsize sent turn came m old next new after t found b = room-has B (λ f k. k) m.write.state wsize sent turn came m.write old t.told t.written t.mid t.takes b
  put-has (putting.Saves saving) wsize sent turn came m old next new after t found b = tt

  file-has : (wsize : ℕ) (m : FileMachine) (sent turn : Turn) (came : Result Reply Fault) (old : Shelf) (next : Step) (new : FileMachine) (after : Shelf) (t : steps.Takes wsize m sent turn came old next new after)
      → ((file : List ℕ) → FileFound wsize m sent turn came old next new after t file → B file) → FileOf B m → FileHas (λ f o b. B f) wsize m sent turn came old next new after t
  file-has wsize (files.Open m) sent turn came old next new after t found b = tt
  file-has wsize (files.Read m) sent turn came old next new after t found b = tt
  file-has wsize (files.Write m) sent turn came old next new after t found b = room-has _ (λ f k well. k) m.state wsize sent turn came m old next t.state after t.step b
  file-has wsize (files.Sync m) sent turn came old next new after t found b = tt
  file-has wsize (files.Close m) sent turn came old next new after t found b = tt
  file-has wsize (files.Truncate m) sent turn came old next new after t found b = tt
  file-has wsize (files.Put m) sent turn came old next new after t found b = put-has m.state wsize sent turn came m old next t.machine after t.step found b

  path-has : (k : Bool) (wsize : ℕ) (m : PathMachine) (sent turn : Turn) (came : Result Reply Fault) (old : Shelf) (next : Step) (new : PathMachine) (after : Shelf)
      (t : paths.PathTakes k wsize m sent turn came old next new after) → ((file : List ℕ) → PathFound k wsize m sent turn came old next new after t file → B file) → PathOf B k m.opener
      → PathHas (λ f o b. B f) k wsize m sent turn came old next new after t
  path-has true wsize m sent turn came old next new after t found b = file-has wsize (file_of m.opener) sent turn came old next (file_of t.opener) after t.step found b
  path-has false wsize m sent turn came old next new after t found b = tt

  pub takes-has : (wsize : ℕ) (m : Machine) (sent turn : Turn) (came : Result Reply Fault) (old : Shelf) (next : Step) (new : Machine) (after : Shelf) (t : Takes wsize m sent turn came old next new after)
      → ((file : List ℕ) → MachineFound wsize m sent turn came old next new after t file → B file) → MachineOf B m → TakesHas (λ f o b. B f) wsize m sent turn came old next new after t
  takes-has wsize (machines.File m) sent turn came old next new after t found b = file-has wsize m sent turn came old next t.machine after t.step found b
  takes-has wsize (machines.Path m) sent turn came old next new after t found b = path-has m.arrived wsize m sent turn came old next t.machine after t.step found b
  takes-has wsize (machines.Name m) sent turn came old next new after t found b = tt

  -- and as it begins
  pub starts-has : (m : Machine) (slots : Opens) (next : Step) → MachineBegins B m slots → StartsHas (λ f o b. B f) m slots next
  starts-has (machines.File (files.Open m)) slots next b = tt
  starts-has (machines.File (files.Read m)) slots next b = tt
  starts-has (machines.File (files.Write m)) slots next b = λ file found well. b file found
  starts-has (machines.File (files.Sync m)) slots next b = tt
  starts-has (machines.File (files.Close m)) slots next b = tt
  starts-has (machines.File (files.Truncate m)) slots next b = tt
  starts-has (machines.File (files.Put m)) slots next b = tt
  starts-has (machines.Path m) slots next b = tt
  starts-has (machines.Name m) slots next b = tt
