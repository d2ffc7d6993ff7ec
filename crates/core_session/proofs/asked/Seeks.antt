-- The file that an operation saves to make room: it stays the same along the operation's steps, and where one is chosen, something of it is pending.
use Rattle.core_session.proofs.Prelude.{◌≡◌, ◌⊎◌, ◌-◌, inl, inr, ℕ, Bool, true, false, List, Result, Ok, Err, refl, sym, ap, subst, ◌∙◌, Fault, Reply, Pending, Step, Shelf, Turn, left, is_first, OpeningStep, PutFile, Putting, Saving, WriteFile, Writing, is_full, file_to_write, joined, by-step, ends_as, WalkStep, FileMachine, Machine, Opener, PathMachine, file_of, slot_taken, begun_at, Starts, Resumes, Takes, EndsSo, takes-not}
use Rattle.op_machines.specs.Openers.{placed}
use Rattle.world_model.specs.declared.answer.Answer.TheVariants as answers
use Rattle.client_shelf.specs.declared.step.Step.TheVariants as nexts
use Rattle.file_ops.specs.declared.opening.OpeningStep.TheVariants as openings
use Rattle.file_ops.specs.declared.put_file.Putting.TheVariants as puttings
use Rattle.file_ops.specs.declared.write_file.Writing.TheVariants as writings
use Rattle.file_ops.specs.Opening as opening
use Rattle.file_ops.specs.PutFile as puts
use Rattle.file_ops.specs.Saves as saves
use Rattle.file_ops.specs.Syncs as syncs
use Rattle.file_ops.specs.WriteFile as writes
use Rattle.name_ops.specs.declared.walk.WalkStep.TheVariants as walks
use Rattle.name_ops.specs.Walking as walking
use Rattle.op_machines.specs.declared.file_machine.FileMachine.TheVariants as files
use Rattle.op_machines.specs.declared.machine.Machine.TheVariants as machines
use Rattle.op_machines.specs.declared.opener.Opener.TheVariants as openers
use Rattle.op_machines.specs.FileSteps as steps
use Rattle.op_machines.specs.PathSteps as paths
use Rattle.core_answers.proofs.asks.SavedCalls.{goes-on, takes-on}
use Rattle.core_session.proofs.order.Adds.{PutHas, FileHas, PathHas, TakesHas}
use Rattle.core_session.proofs.asked.Empty.{IsEmpty, oldest-some, takes-empty}

-- N of the file that the operation saves to make room.
module _ (N : List ℕ → Type 0) where
  abbrev pub WriteSeeks : Writing → Type 0
  WriteSeeks writings.Idle = Unit {0}
  WriteSeeks (writings.Room file saving) = N saving.file

  abbrev pub PutSeeks : Putting → Writing → Type 0
  PutSeeks puttings.Idle write = Unit {0}
  PutSeeks puttings.Opens write = Unit {0}
  PutSeeks (puttings.Adds file) write = WriteSeeks write
  PutSeeks (puttings.Saves saving) write = Unit {0}

  abbrev pub FileSeeks : FileMachine → Type 0
  FileSeeks (files.Open m) = Unit {0}
  FileSeeks (files.Read m) = Unit {0}
  FileSeeks (files.Write m) = WriteSeeks m.state
  FileSeeks (files.Sync m) = Unit {0}
  FileSeeks (files.Close m) = Unit {0}
  FileSeeks (files.Truncate m) = Unit {0}
  FileSeeks (files.Put m) = PutSeeks m.state m.write.state

  abbrev pub PathSeeks : Bool → Opener → Type 0
  PathSeeks true opener = FileSeeks (file_of opener)
  PathSeeks false opener = Unit {0}

  abbrev pub Seeks : Machine → Type 0
  Seeks (machines.File m) = FileSeeks m
  Seeks (machines.Path m) = PathSeeks m.arrived m.opener
  Seeks (machines.Name m) = Unit {0}

  -- N of each file of which something is pending
  abbrev pub Gives : Pending → Type 0
  Gives back = (f : List ℕ) → (IsEmpty f back → ⊥) → N f

  -- what came of a call came to nothing
  abbrev pub IsErr : Result Reply Fault → Type 0
  IsErr came = (fault : Fault) × (came ≡ Err fault)

  -- ---- a write

  leads-seeks : (next : Step) (state : Writing) (shelf : Shelf) (gives : Step) (new : Writing) (after : Shelf) → writes.Leads next state shelf gives new after → WriteSeeks state
      → WriteSeeks new
  leads-seeks next state shelf gives new after l s = subst WriteSeeks (sym l.keeps) s

  room-seeks : (told : _) (file : List ℕ) (saved : Saving) → N saved.file → WriteSeeks (writes.room_state told file saved)
  room-seeks told file saved n = by-step (λ g. WriteSeeks (writes.room_state g file saved)) (λ call. n) n ended told
    where
      ended : (result : Result (Unit {0}) Fault) → WriteSeeks (writes.room_state (ends_as result) file saved)
      ended (Ok nothing) = n
      ended (Err fault) = tt

  if-seeks : (b : Bool) (wsize lane : ℕ) (file : List ℕ) (saving : Saving) (turn : Turn) (shelf : Shelf) (next : Step) (new : Writing) (after : Shelf) → N saving.file
      → writes.SavesIf b wsize lane file saving turn shelf next new after → WriteSeeks new
  if-seeks true wsize lane file saving turn shelf next new after n s =
      leads-seeks _ (writes.room_state s.told file s.saved) _ next new after s.leads
      (room-seeks s.told file s.saved (subst N (sym (goes-on saving.file wsize turn.xid turn.room false saving shelf.back s.told s.saved s.back refl s.goes).file) n))
  if-seeks false wsize lane file saving turn shelf next new after n s = leads-seeks nexts.Wait (writings.Room file saving) shelf next new after s n

  writes-if : (b : Bool) (wsize lane : ℕ) (file : List ℕ) (offset : ℕ) (bytes : List ℕ) (turn : Turn) (shelf : Shelf) (next : Step) (new : Writing) (after : Shelf) → Gives shelf.back
      → writes.WritesIf b wsize lane file offset bytes turn shelf next new after → WriteSeeks new
  writes-if true wsize lane file offset bytes turn shelf next new after g (inl s) =
      if-seeks (is_first lane (joined lane s.of shelf).order) wsize lane file (saves.begun s.of shelf.seq) turn (joined lane s.of shelf) next new after
      (g s.of (oldest-some shelf.back s.of s.oldest)) s.saves
  writes-if true wsize lane file offset bytes turn shelf next new after g (inr s) = subst WriteSeeks (sym s.1.keeps) tt
  writes-if false wsize lane file offset bytes turn shelf next new after g (inl s) = subst WriteSeeks (sym s.leads.keeps) tt
  writes-if false wsize lane file offset bytes turn shelf next new after g (inr s) = subst WriteSeeks (sym s.keeps) tt

  writes-seeks : (wsize lane : ℕ) (file : List ℕ) (offset : ℕ) (bytes : List ℕ) (turn : Turn) (shelf : Shelf) (next : Step) (new : Writing) (after : Shelf) → Gives shelf.back
      → writes.Writes wsize lane file offset bytes turn shelf next new after → WriteSeeks new
  writes-seeks wsize lane file offset bytes turn shelf next new after g w = writes-if (is_full bytes shelf.back) wsize lane file offset bytes turn shelf next new after g w

  write-starts : (wsize : ℕ) (m : WriteFile) (turn : Turn) (old : Shelf) (next : Step) (new : WriteFile) (after : Shelf) → Gives old.back
      → writes.Starts wsize m turn old next new after → WriteSeeks new.state
  write-starts wsize m turn old next new after g s = by (file_to_write m.lane m.slot old.opens) s
    where
      by : (found : Result (List ℕ) Fault) → writes.StartsAt found wsize m turn old next new after → WriteSeeks new.state
      by (Err fault) k = subst WriteSeeks (sym k.refuses.keeps) tt
      by (Ok file) (inl k) = writes-seeks wsize m.lane file m.offset (writes.text_bytes m.text) turn old next new.state after g k.writes
      by (Ok file) (inr k) = subst WriteSeeks (sym k.refuses.keeps) tt

  write-resumes : (at : Writing) (wsize lane : ℕ) (turn : Turn) (old : Shelf) (next : Step) (new : Writing) (after : Shelf) → WriteSeeks at
      → writes.ResumesIn at wsize lane turn old next new after → WriteSeeks new
  write-resumes writings.Idle wsize lane turn old next new after k r = subst WriteSeeks (sym r.keeps) tt
  write-resumes (writings.Room file saving) wsize lane turn old next new after k r =
      if-seeks (is_first lane old.order) wsize lane file saving turn old next new after k r

  -- what follows a step of the save, which didn't end well, or after which N holds of all that is pending
  follows-seeks : (told : _) (wsize : ℕ) (m : WriteFile) (file : List ℕ) (saved : Saving) (turn : Turn) (shelf : Shelf) (next : Step) (new : Writing) (after : Shelf)
      → N saved.file → EndsSo ⊥ (syncs.sync_next told) ⊎ Gives shelf.back → writes.Follows told wsize m file saved turn shelf next new after → WriteSeeks new
  follows-seeks told wsize m file saved turn shelf next new after n g f = by-step
      (λ t. EndsSo ⊥ (syncs.sync_next t) ⊎ Gives shelf.back → writes.Follows t wsize m file saved turn shelf next new after → WriteSeeks new)
      (λ call g f. subst WriteSeeks (sym f.keeps) n) (λ g f. subst WriteSeeks (sym f.keeps) n) ended told g f
    where
      ended : (result : Result (Unit {0}) Fault) → EndsSo ⊥ (syncs.sync_next (ends_as result)) ⊎ Gives shelf.back
          → writes.Follows (ends_as result) wsize m file saved turn shelf next new after → WriteSeeks new
      ended (Ok nothing) (inl never) f = absurd never
      ended (Ok nothing) (inr g) f =
          writes-seeks wsize m.lane file m.offset (writes.made_bytes m.text) turn (record shelf { order = left m.lane shelf.order }) next new after g f
      ended (Err fault) g f = subst WriteSeeks (sym f.keeps) tt

  gives-later : (f_wsize : ℕ) (sent turn : Turn) (came : Result Reply Fault) (repeats : _) (s : Saving) (back : Pending) (next : _) (new : Saving) (after : Pending) (later : _)
      → saves.Takes f_wsize sent turn came repeats s back next new after later → Gives back → Gives after
  gives-later wsize sent turn came repeats s back next new after later t g f some =
      g f (λ none. some (takes-empty f wsize sent turn came repeats s back next new after later t none))

  write-takes : (at : Writing) (wsize : ℕ) (m : WriteFile) (sent turn : Turn) (came : Result Reply Fault) (old : Shelf) (next : Step) (new : Writing) (after : Shelf) → WriteSeeks at
      → IsErr came ⊎ Gives old.back → writes.TakesIn at wsize m sent turn came old next new after → WriteSeeks new
  write-takes writings.Idle wsize m sent turn came old next new after k g t = subst WriteSeeks (sym t.keeps) tt
  write-takes (writings.Room file saving) wsize m sent turn came old next new after k g t =
      follows-seeks t.told wsize m file t.saved turn _ next new after
      (subst N (sym (takes-on saving.file wsize sent turn came old.repeats saving old.back t.told t.saved t.back t.repeats refl t.takes).file) k) (ends g) t.follows
    where
      ends : IsErr came ⊎ Gives old.back → EndsSo ⊥ (syncs.sync_next t.told) ⊎ Gives t.back
      ends (inl err) = inl (takes-not wsize sent turn err.0 old.repeats saving old.back t.told t.saved t.back t.repeats
          (subst (λ (c : Result Reply Fault). saves.Takes wsize sent turn c old.repeats saving old.back t.told t.saved t.back t.repeats) err.1 t.takes))
      ends (inr g) = inr (gives-later wsize sent turn came old.repeats saving old.back t.told t.saved t.back t.repeats t.takes g)

  -- ---- a put

  abbrev PutOf : PutFile → Type 0
  PutOf m = PutSeeks m.state m.write.state

  put-follows : (gives_ : _) (lane : ℕ) (saving : Saving) (old : Shelf) (next : Step) (state : Putting) (after : Shelf) (write : Writing)
      → puts.Follows gives_ lane saving old next state after → PutSeeks state write
  put-follows gives_ lane saving old next state after write f = by-step
      (λ g. puts.Follows g lane saving old next state after → PutSeeks state write)
      (λ call f. subst (λ (p : Putting). PutSeeks p write) (sym f.1) tt) (λ f. subst (λ (p : Putting). PutSeeks p write) (sym f.1) tt)
      (λ result f. subst (λ (p : Putting). PutSeeks p write) (sym f.state_is) tt) gives_ f

  put-queues : (b : Bool) (wsize lane : ℕ) (turn : Turn) (saving : Saving) (old : Shelf) (next : Step) (state : Putting) (after : Shelf) (write : Writing)
      → puts.QueuesIf b wsize lane turn saving old next state after → PutSeeks state write
  put-queues false wsize lane turn saving old next state after write q = subst (λ (p : Putting). PutSeeks p write) (sym q.state_is) tt
  put-queues true wsize lane turn saving old next state after write g = put-follows g.gives lane g.saved g.gone next state after write g.follows

  put-wrote : (told : Step) (wsize lane : ℕ) (file : List ℕ) (turn : Turn) (old : Shelf) (next : Step) (state : Putting) (after : Shelf) (write : Writing) → WriteSeeks write
      → puts.AfterWrite told wsize lane file turn old next state after → PutSeeks state write
  put-wrote (nexts.Send call) wsize lane file turn old next state after write k a = subst (λ (p : Putting). PutSeeks p write) (sym a.1) k
  put-wrote nexts.Wait wsize lane file turn old next state after write k a = subst (λ (p : Putting). PutSeeks p write) (sym a.1) k
  put-wrote (nexts.Done (answers.Done value)) wsize lane file turn old next state after write k a =
      put-queues (is_first lane (joined lane file old).order) wsize lane turn (saves.begun file old.seq) (joined lane file old) next state after write a
  put-wrote (nexts.Done (answers.Refused fault)) wsize lane file turn old next state after write k a = subst (λ (p : Putting). PutSeeks p write) (sym a.state_is) tt

  put-writes : (wsize : ℕ) (m : PutFile) (file : List ℕ) (turn : Turn) (told : Step) (written : Writing) (mid : Shelf) (next : Step) (new : PutFile) (after : Shelf) → WriteSeeks written
      → puts.WritesOn wsize m file turn told written mid next new after → PutOf new
  put-writes wsize m file turn told written mid next new after k g =
      subst PutOf (sym g.machine_is) (put-wrote told wsize m.write.lane file turn mid next new.state after written k g.follows)

  put-stays : (m : PutFile) (old : Shelf) (next : Step) (new : PutFile) (after : Shelf) → PutOf m → puts.Stays m old next new after → PutOf new
  put-stays m old next new after k s = subst PutOf (sym s.machine_is) k

  put-resumes : (at : Putting) (wsize : ℕ) (m : PutFile) (turn : Turn) (old : Shelf) (next : Step) (new : PutFile) (after : Shelf) → m.state ≡ at → PutOf m
      → puts.Resumes at wsize m turn old next new after → PutOf new
  put-resumes puttings.Idle wsize m turn old next new after is k r = put-stays m old next new after k r
  put-resumes puttings.Opens wsize m turn old next new after is k r = subst PutOf (sym r.1) k
  put-resumes (puttings.Adds file) wsize m turn old next new after is k r =
      put-writes wsize m file turn r.told r.written r.mid next new after
      (write-resumes m.write.state wsize m.write.lane turn old r.told r.written r.mid (subst (λ (p : Putting). PutSeeks p m.write.state) is k) r.resumes) r.goes
  put-resumes (puttings.Saves saving) wsize m turn old next new after is k r =
      subst PutOf (sym r.1) (put-queues (is_first m.write.lane old.order) wsize m.write.lane turn saving old next new.state after m.write.state r.0)

  -- a step of its opening, which hasn't found the file, or before which N holds of all that is pending
  put-opened : (step : OpeningStep) (wsize : ℕ) (m : PutFile) (turn : Turn) (old : Shelf) (next : Step) (new : PutFile) (after : Shelf) → m.state ≡ puttings.Opens
      → ((file : List ℕ) → step ≡ openings.Ended (Ok file) → ⊥) ⊎ Gives old.back → puts.AfterOpening step wsize m turn old next new after → PutOf new
  put-opened (openings.Send call) wsize m turn old next new after is g a = subst PutOf (sym a.1) (subst (λ (p : Putting). PutSeeks p m.write.state) (sym is) tt)
  put-opened openings.Wait wsize m turn old next new after is g a = subst PutOf (sym a.machine_is) (subst (λ (p : Putting). PutSeeks p m.write.state) (sym is) tt)
  put-opened (openings.Ended (Ok file)) wsize m turn old next new after is (inl never) a = absurd (never file refl)
  put-opened (openings.Ended (Ok file)) wsize m turn old next new after is (inr g) a =
      put-writes wsize m file turn a.told a.written a.mid next new after
      (writes-seeks wsize m.write.lane file m.write.offset (writes.made_bytes m.write.text) turn (puts.put_at m.write.lane file old) a.told a.written a.mid g a.writes) a.goes
  put-opened (openings.Ended (Err fault)) wsize m turn old next new after is g a = subst PutOf (sym a.1) tt

  put-takes : (at : Putting) (wsize : ℕ) (m : PutFile) (sent turn : Turn) (came : Result Reply Fault) (old : Shelf) (next : Step) (new : PutFile) (after : Shelf) → m.state ≡ at → PutOf m
      → (t : puts.Takes at wsize m sent turn came old next new after) → (IsErr came × PutHas (λ f. ⊥) at wsize m sent turn came old next new after t) ⊎ Gives old.back → PutOf new
  put-takes puttings.Idle wsize m sent turn came old next new after is k t g = put-stays m old next new after k t
  put-takes puttings.Opens wsize m sent turn came old next new after is k t g =
      put-opened t.step wsize (puts.led (opening.opening_again m.opening sent turn came old.repeats) m turn came t.took.attrs old.pages) turn t.took next new after is (known g) t.follows
    where
      known : (IsErr came × ((file : List ℕ) → t.step ≡ openings.Ended (Ok file) → ⊥)) ⊎ Gives old.back → ((file : List ℕ) → t.step ≡ openings.Ended (Ok file) → ⊥) ⊎ Gives t.took.back
      known (inl err) = inl err.1
      known (inr g) = inr (subst Gives (sym (ap (λ (s : Shelf). s.back) t.others)) g)
  put-takes (puttings.Adds file) wsize m sent turn came old next new after is k t g =
      put-writes wsize m file turn t.told t.written t.mid next new after
      (write-takes m.write.state wsize m.write sent turn came old t.told t.written t.mid (subst (λ (p : Putting). PutSeeks p m.write.state) is k) (known g) t.takes) t.goes
    where
      known : (IsErr came × PutHas (λ f. ⊥) (puttings.Adds file) wsize m sent turn came old next new after t) ⊎ Gives old.back → IsErr came ⊎ Gives old.back
      known (inl err) = inl err.0
      known (inr g) = inr g
  put-takes (puttings.Saves saving) wsize m sent turn came old next new after is k t g =
      subst PutOf (sym t.1) (put-follows t.0.gives m.write.lane t.0.saved t.0.took next new.state after m.write.state t.0.follows)

  -- ---- any operation on a file

  file-starts : (m : FileMachine) (wsize : ℕ) (turn : Turn) (old : Shelf) (next : Step) (new : FileMachine) (after : Shelf) → Gives old.back → steps.Starts wsize m turn old next new after
      → FileSeeks new
  file-starts (files.Open m) wsize turn old next new after g s = subst FileSeeks (sym s.machine_is) tt
  file-starts (files.Read m) wsize turn old next new after g s = subst FileSeeks (sym s.machine_is) tt
  file-starts (files.Write m) wsize turn old next new after g s = subst FileSeeks (sym s.machine_is) (write-starts wsize m turn old next s.machine after g s.step)
  file-starts (files.Sync m) wsize turn old next new after g s = subst FileSeeks (sym s.machine_is) tt
  file-starts (files.Close m) wsize turn old next new after g s = subst FileSeeks (sym s.machine_is) tt
  file-starts (files.Truncate m) wsize turn old next new after g s = subst FileSeeks (sym s.machine_is) tt
  file-starts (files.Put m) wsize turn old next new after g s = subst FileSeeks (sym s.machine_is) tt

  file-resumes : (m : FileMachine) (wsize : ℕ) (turn : Turn) (old : Shelf) (next : Step) (new : FileMachine) (after : Shelf) → FileSeeks m → steps.Resumes wsize m turn old next new after
      → FileSeeks new
  file-resumes (files.Open m) wsize turn old next new after k s = subst FileSeeks (sym s.machine_is) tt
  file-resumes (files.Read m) wsize turn old next new after k s = subst FileSeeks (sym s.machine_is) tt
  file-resumes (files.Write m) wsize turn old next new after k s = subst FileSeeks (sym s.machine_is) (write-resumes m.state wsize m.lane turn old next s.state after k s.step)
  file-resumes (files.Sync m) wsize turn old next new after k s = subst FileSeeks (sym s.machine_is) tt
  file-resumes (files.Close m) wsize turn old next new after k s = subst FileSeeks (sym s.machine_is) tt
  file-resumes (files.Truncate m) wsize turn old next new after k s = subst FileSeeks (sym s.machine_is) tt
  file-resumes (files.Put m) wsize turn old next new after k s = subst FileSeeks (sym s.machine_is) (put-resumes m.state wsize m turn old next s.machine after refl k s.step)

  -- what came to nothing, and opened no file; or N holds of all that is pending
  abbrev FileKnown : (m : FileMachine) (wsize : ℕ) (sent turn : Turn) (came : Result Reply Fault) (old : Shelf) (next : Step) (new : FileMachine) (after : Shelf)
      → steps.Takes wsize m sent turn came old next new after → Type 0
  FileKnown m wsize sent turn came old next new after t = (IsErr came × FileHas (λ f o b. ⊥) wsize m sent turn came old next new after t) ⊎ Gives old.back

  file-takes : (m : FileMachine) (wsize : ℕ) (sent turn : Turn) (came : Result Reply Fault) (old : Shelf) (next : Step) (new : FileMachine) (after : Shelf) → FileSeeks m
      → (t : steps.Takes wsize m sent turn came old next new after) → FileKnown m wsize sent turn came old next new after t → FileSeeks new
  file-takes (files.Open m) wsize sent turn came old next new after k t g = subst FileSeeks (sym t.machine_is) tt
  file-takes (files.Read m) wsize sent turn came old next new after k t g = subst FileSeeks (sym t.machine_is) tt
  file-takes (files.Write m) wsize sent turn came old next new after k t g =
      subst FileSeeks (sym t.machine_is) (write-takes m.state wsize m sent turn came old next t.state after k (known g) t.step)
    where
      known : FileKnown (files.Write m) wsize sent turn came old next new after t → IsErr came ⊎ Gives old.back
      known (inl err) = inl err.0
      known (inr g) = inr g
  file-takes (files.Sync m) wsize sent turn came old next new after k t g = subst FileSeeks (sym t.machine_is) tt
  file-takes (files.Close m) wsize sent turn came old next new after k t g = subst FileSeeks (sym t.machine_is) tt
  file-takes (files.Truncate m) wsize sent turn came old next new after k t g = subst FileSeeks (sym t.machine_is) tt
  file-takes (files.Put m) wsize sent turn came old next new after k t g =
      subst FileSeeks (sym t.machine_is) (put-takes m.state wsize m sent turn came old next t.machine after refl k t.step g)

  -- ---- opens and puts on their way

  placed-seeks : (dir : List ℕ) (opener : Opener) → FileSeeks (file_of (placed dir opener))
  placed-seeks dir (openers.Open m) = tt
  placed-seeks dir (openers.Put m) = tt

  path-seeks : (m : PathMachine) (opener : Opener) (new : PathMachine) → m.arrived ≡ true → new ≡ record m { opener = opener } → FileSeeks (file_of opener)
      → PathSeeks new.arrived new.opener
  path-seeks m opener new there is k =
      subst (λ (n : PathMachine). PathSeeks n.arrived n.opener) (sym is) (subst (λ (b : Bool). PathSeeks b opener) (sym there) k)

  on-way : (m new : PathMachine) → m.arrived ≡ false → new ≡ m → PathSeeks new.arrived new.opener
  on-way m new way is = subst (λ (n : PathMachine). PathSeeks n.arrived n.opener) (sym is) (subst (λ (b : Bool). PathSeeks b m.opener) (sym way) tt)

  path-follows : (step : WalkStep) (wsize : ℕ) (m : PathMachine) (turn : Turn) (old : Shelf) (next : Step) (new : PathMachine) (after : Shelf) → m.arrived ≡ false
      → paths.Follows step wsize m turn old next new after → PathSeeks new.arrived new.opener
  path-follows (walks.Send call) wsize m turn old next new after way f = on-way m new way f.1
  path-follows walks.Wait wsize m turn old next new after way f = on-way m new way f.1
  path-follows (walks.At dir) wsize m turn old next new after way f =
      path-seeks (record m { opener = placed dir m.opener; arrived = true }) f.opener new refl f.machine_is
      (file-resumes (file_of (placed dir m.opener)) wsize turn old next (file_of f.opener) after (placed-seeks dir m.opener) f.step)
  path-follows (walks.Refused fault) wsize m turn old next new after way f = on-way m new way f.1

  path-resumes : (b : Bool) (wsize : ℕ) (m : PathMachine) (turn : Turn) (old : Shelf) (next : Step) (new : PathMachine) (after : Shelf) → m.arrived ≡ b → PathSeeks b m.opener
      → paths.PathResumes b wsize m turn old next new after → PathSeeks new.arrived new.opener
  path-resumes true wsize m turn old next new after is k r =
      path-seeks m r.opener new is r.machine_is (file-resumes (file_of m.opener) wsize turn old next (file_of r.opener) after k r.step)
  path-resumes false wsize m turn old next new after is k r =
      path-follows (walking.go_next m.walk turn old) wsize (record m { walk = walking.go_after m.walk turn old }) turn (walking.go_shelf m.walk turn old) next new after is r

  path-starts : (taken : Bool) (wsize : ℕ) (m : PathMachine) (turn : Turn) (old : Shelf) (next : Step) (new : PathMachine) (after : Shelf) → m.arrived ≡ false
      → paths.StartsIf taken wsize m turn old next new after → PathSeeks new.arrived new.opener
  path-starts true wsize m turn old next new after way s = on-way m new way s.1
  path-starts false wsize m turn old next new after way s =
      path-resumes false wsize (record m { opener = begun_at (turn.moment - 1) m.opener }) turn old next new after way tt
      (subst (λ (b : Bool). paths.PathResumes b wsize (record m { opener = begun_at (turn.moment - 1) m.opener }) turn old next new after) way s)

  path-takes : (b : Bool) (wsize : ℕ) (m : PathMachine) (sent turn : Turn) (came : Result Reply Fault) (old : Shelf) (next : Step) (new : PathMachine) (after : Shelf) → m.arrived ≡ b
      → PathSeeks b m.opener → (t : paths.PathTakes b wsize m sent turn came old next new after)
      → (IsErr came × PathHas (λ f o b. ⊥) b wsize m sent turn came old next new after t) ⊎ Gives old.back → PathSeeks new.arrived new.opener
  path-takes true wsize m sent turn came old next new after is k t g =
      path-seeks m t.opener new is t.machine_is (file-takes (file_of m.opener) wsize sent turn came old next (file_of t.opener) after k t.step g)
  path-takes false wsize m sent turn came old next new after is k t g =
      path-follows t.step wsize t.walked turn t.heard next new after (ap (λ (w : PathMachine). w.arrived) t.walked_is ∙ is) t.follows

  -- ---- any operation

  -- it is at no directory yet, as each that begins
  abbrev pub IsOnWay : Machine → Type 0
  IsOnWay (machines.File m) = Unit {0}
  IsOnWay (machines.Path m) = m.arrived ≡ false
  IsOnWay (machines.Name m) = Unit {0}

  pub all-starts : (m : Machine) (wsize : ℕ) (turn : Turn) (old : Shelf) (next : Step) (new : Machine) (after : Shelf) → IsOnWay m → Gives old.back → Starts wsize m turn old next new after
      → Seeks new
  all-starts (machines.File m) wsize turn old next new after way g s = subst Seeks (sym s.machine_is) (file-starts m wsize turn old next s.machine after g s.step)
  all-starts (machines.Path m) wsize turn old next new after way g s =
      subst Seeks (sym s.machine_is) (path-starts (slot_taken m.opener old.opens) wsize m turn old next s.machine after way s.step)
  all-starts (machines.Name m) wsize turn old next new after way g s = subst Seeks (sym s.machine_is) tt

  pub all-resumes : (m : Machine) (wsize : ℕ) (turn : Turn) (old : Shelf) (next : Step) (new : Machine) (after : Shelf) → Seeks m → Resumes wsize m turn old next new after → Seeks new
  all-resumes (machines.File m) wsize turn old next new after k s = subst Seeks (sym s.machine_is) (file-resumes m wsize turn old next s.machine after k s.step)
  all-resumes (machines.Path m) wsize turn old next new after k s = subst Seeks (sym s.machine_is) (path-resumes m.arrived wsize m turn old next s.machine after refl k s.step)
  all-resumes (machines.Name m) wsize turn old next new after k s = subst Seeks (sym s.machine_is) tt

  pub all-takes : (m : Machine) (wsize : ℕ) (sent turn : Turn) (came : Result Reply Fault) (old : Shelf) (next : Step) (new : Machine) (after : Shelf) → Seeks m
      → (t : Takes wsize m sent turn came old next new after) → (IsErr came × TakesHas (λ f o b. ⊥) wsize m sent turn came old next new after t) ⊎ Gives old.back → Seeks new
  all-takes (machines.File m) wsize sent turn came old next new after k t g = subst Seeks (sym t.machine_is) (file-takes m wsize sent turn came old next t.machine after k t.step g)
  all-takes (machines.Path m) wsize sent turn came old next new after k t g =
      subst Seeks (sym t.machine_is) (path-takes m.arrived wsize m sent turn came old next t.machine after refl k t.step g)
  all-takes (machines.Name m) wsize sent turn came old next new after k t g = subst Seeks (sym t.machine_is) tt

-- ---- one fact and another

module _ (N L : List ℕ → Type 0) (more : (f : List ℕ) → N f → L f) where
  write-map : (w : Writing) → WriteSeeks N w → WriteSeeks L w
  write-map writings.Idle k = tt
  write-map (writings.Room file saving) k = more saving.file k

  put-map : (p : Putting) (w : Writing) → PutSeeks N p w → PutSeeks L p w
  put-map puttings.Idle w k = tt
  put-map puttings.Opens w k = tt
  put-map (puttings.Adds file) w k = write-map w k
  put-map (puttings.Saves saving) w k = tt

  file-map : (m : FileMachine) → FileSeeks N m → FileSeeks L m
  file-map (files.Open m) k = tt
  file-map (files.Read m) k = tt
  file-map (files.Write m) k = write-map m.state k
  file-map (files.Sync m) k = tt
  file-map (files.Close m) k = tt
  file-map (files.Truncate m) k = tt
  file-map (files.Put m) k = put-map m.state m.write.state k

  path-map : (b : Bool) (opener : Opener) → PathSeeks N b opener → PathSeeks L b opener
  path-map true opener k = file-map (file_of opener) k
  path-map false opener k = tt

  pub seeks-map : (m : Machine) → Seeks N m → Seeks L m
  seeks-map (machines.File m) k = file-map m k
  seeks-map (machines.Path m) k = path-map m.arrived m.opener k
  seeks-map (machines.Name m) k = tt
