-- Which faults a step of an operation gives: its own, those of what came of its calls, and those that it keeps.
use Rattle.core_facts.proofs.Prelude.{◌≡◌, ◌-◌, ℕ, Bool, true, false, List, Option, Some, None, Result, refl, sym, subst, Mode, Opened, Fault, Reply, Op, Step, Shelf, Turn, WalkStep, Closing, Putting, Syncing, Writing, file_to_write, file_at, found_file, Mounted, FileMachine, Machine, Opener, PathMachine, machine_of, file_of, slot_taken, begun_at, placed, Starts, Resumes, Takes}
use Rattle.std.specs.FinMap as finite
use Rattle.nfs_types.specs.declared.mode.Mode.TheVariants as modes
use Rattle.world_model.specs.declared.answer.Fault.TheVariants as faults
use Rattle.world_model.specs.declared.op.Op.TheVariants as ops
use Rattle.name_ops.specs.declared.walk.WalkStep.TheVariants as walks
use Rattle.name_ops.specs.Walking as walking
use Rattle.file_ops.specs.declared.close_file.Closing.TheVariants as closing
use Rattle.file_ops.specs.declared.put_file.Putting.TheVariants as putting
use Rattle.file_ops.specs.declared.sync_file.Syncing.TheVariants as syncing
use Rattle.file_ops.specs.declared.write_file.Writing.TheVariants as writing
use Rattle.file_ops.specs.OpenFile.{place_of, is_taken}
use Rattle.file_ops.specs.Opening.{opening_again, led_on, go_next}
use Rattle.op_machines.specs.declared.file_machine.FileMachine.TheVariants as files
use Rattle.op_machines.specs.declared.machine.Machine.TheVariants as machines
use Rattle.op_machines.specs.declared.opener.Opener.TheVariants as openers
use Rattle.op_machines.specs.FileSteps as steps
use Rattle.op_machines.specs.PathSteps as paths
use Rattle.core_facts.proofs.Faults.{OwnFaults, Came, FineOption, FineNext, fine-as}
use Rattle.core_facts.proofs.NameFaults.{FineWalk, go-fine, walk-took, name-goes, name-takes}
use Rattle.core_facts.proofs.ReadFaults.{go-opening, opening-next, opening-took, led-on, open-starts, open-follows, read-starts, read-resumes, read-takes}
use Rattle.core_facts.proofs.FileFaults.{FineWriting, FineSyncing, FineClosing, FinePutting, FinePut, of-open, write-starts, write-resumes, write-takes, sync-starts, sync-resumes, sync-takes, close-starts, close-resumes, close-takes, truncate-starts, truncate-resumes, truncate-takes, put-starts, put-resumes, put-takes}

module _ (P : Fault → Type 0) (own : OwnFaults P) where
  -- ---- operations on files

  -- no fault that it keeps is that of a lost link
  abbrev pub FineFile : FileMachine → Type 0
  FineFile (files.Open m) = Unit {0}
  FineFile (files.Read m) = Unit {0}
  FineFile (files.Write m) = FineWriting P own m.state
  FineFile (files.Sync m) = FineSyncing P own m.state
  FineFile (files.Close m) = FineClosing P own m.state
  FineFile (files.Truncate m) = Unit {0}
  FineFile (files.Put m) = FinePut P own m

  abbrev FileStep : Step → FileMachine → Type 0
  FileStep next new = FineNext P next × FineFile new

  file-as : (to : FileMachine) (next : Step) (new : FileMachine) → new ≡ to → FileStep next to → FileStep next new
  file-as to next new is f = (f.0, subst FineFile (sym is) f.1)

  -- where the slot of an operation refuses it as it begins
  abbrev FindsNone : ℕ → ℕ → Shelf → Type 0
  FindsNone lane slot old = finite.get old.opens (lane, slot) ≡ None → P faults.Slot

  abbrev FindsOther : Mode → ℕ → ℕ → Shelf → Type 0
  FindsOther mode lane slot old = (o : Opened) → finite.get old.opens (lane, slot) ≡ Some o → o.mode ≡ mode → P faults.Mode

  abbrev pub FileBegins : FileMachine → Shelf → Type 0
  FileBegins (files.Open m) old = is_taken m old.opens ≡ true → P faults.Slot
  FileBegins (files.Read m) old = FindsNone m.lane m.slot old × FindsOther modes.W m.lane m.slot old
  FileBegins (files.Write m) old = FindsNone m.lane m.slot old × FindsOther modes.R m.lane m.slot old
  FileBegins (files.Sync m) old = file_at m.lane m.slot old.opens ≡ None → P faults.Slot
  FileBegins (files.Close m) old = file_at m.lane m.slot old.opens ≡ None → P faults.Slot
  FileBegins (files.Truncate m) old = FindsNone m.lane m.slot old × FindsOther modes.R m.lane m.slot old
  FileBegins (files.Put m) old = Unit {0}

  -- and where an open finds its slot taken at its end
  abbrev pub FileEnds : FileMachine → Shelf → Type 0
  FileEnds (files.Open m) old = (other : Opened) → finite.get old.opens (place_of m) ≡ Some other → P faults.Slot
  FileEnds (files.Read m) old = Unit {0}
  FileEnds (files.Write m) old = Unit {0}
  FileEnds (files.Sync m) old = Unit {0}
  FileEnds (files.Close m) old = Unit {0}
  FileEnds (files.Truncate m) old = Unit {0}
  FileEnds (files.Put m) old = Unit {0}

  file-starts : (m : FileMachine) (wsize : ℕ) (turn : Turn) (old : Shelf) (next : Step) (new : FileMachine) (after : Shelf) → FileBegins m old → FineFile m
      → steps.Starts wsize m turn old next new after → FileStep next new
  file-starts (files.Open m) wsize turn old next new after place f s = file-as (files.Open _) next new s.machine_is (open-starts P own (is_taken m old.opens) m turn next place s.next_is, tt)
  file-starts (files.Read m) wsize turn old next new after place f s =
      file-as (files.Read s.machine) next new s.machine_is (read-starts P own (finite.get old.opens (m.lane, m.slot)) turn m old.pages old.back next s.machine after.pages place.0 place.1 s.step, tt)
  file-starts (files.Write m) wsize turn old next new after place f s =
      file-as (files.Write s.machine) next new s.machine_is
      (write-starts P own (file_to_write m.lane m.slot old.opens) wsize m turn old next s.machine after (of-open P own (finite.get old.opens (m.lane, m.slot)) place.0 place.1) s.step)
  file-starts (files.Sync m) wsize turn old next new after place f s =
      file-as (files.Sync (record m { state = s.state })) next new s.machine_is (sync-starts P own (file_at m.lane m.slot old.opens) wsize m turn old next s.state after place f s.step)
  file-starts (files.Close m) wsize turn old next new after place f s =
      file-as (files.Close (record m { state = s.state })) next new s.machine_is (close-starts P own (file_at m.lane m.slot old.opens) wsize m turn old next s.state after place f s.step)
  file-starts (files.Truncate m) wsize turn old next new after place f s =
      file-as (files.Truncate _) next new s.machine_is (truncate-starts P own (found_file m old) m turn old next (of-open P own (finite.get old.opens (m.lane, m.slot)) place.0 place.1) s.next_is, tt)
  file-starts (files.Put m) wsize turn old next new after place f s = file-as (files.Put _) next new s.machine_is (put-starts P own m turn next s.next_is, (f.0, tt))

  file-resumes : (m : FileMachine) (wsize : ℕ) (turn : Turn) (old : Shelf) (next : Step) (new : FileMachine) (after : Shelf) → FineFile m
      → steps.Resumes wsize m turn old next new after → FileStep next new
  file-resumes (files.Open m) wsize turn old next new after f s =
      file-as (files.Open _) next new s.machine_is (fine-as P _ next s.next_is (opening-next P own (go_next m.opening turn) (go-opening P own m.opening turn)), tt)
  file-resumes (files.Read m) wsize turn old next new after f s =
      file-as (files.Read s.machine) next new s.machine_is (read-resumes P own m.reading turn.room m old.pages old.back next s.machine after.pages s.step, tt)
  file-resumes (files.Write m) wsize turn old next new after f s =
      file-as (files.Write (record m { state = s.state })) next new s.machine_is (write-resumes P own m.state wsize m.lane turn old next s.state after f s.step)
  file-resumes (files.Sync m) wsize turn old next new after f s =
      file-as (files.Sync (record m { state = s.state })) next new s.machine_is (sync-resumes P own m.state wsize m turn old next s.state after f s.step)
  file-resumes (files.Close m) wsize turn old next new after f s =
      file-as (files.Close (record m { state = s.state })) next new s.machine_is (close-resumes P own m.state wsize m turn old next s.state after f s.step)
  file-resumes (files.Truncate m) wsize turn old next new after f s = file-as (files.Truncate _) next new s.machine_is (truncate-resumes P own m.state m turn old next s.next_is, tt)
  file-resumes (files.Put m) wsize turn old next new after f s =
      file-as (files.Put s.machine) next new s.machine_is (put-resumes P own m.state wsize m turn old next s.machine after f.0 f.1 refl s.step)

  file-takes : (m : FileMachine) (wsize : ℕ) (sent turn : Turn) (came : Result Reply Fault) (old : Shelf) (next : Step) (new : FileMachine) (after : Shelf) → FileEnds m old → Came P came → FineFile m
      → steps.Takes wsize m sent turn came old next new after → FileStep next new
  file-takes (files.Open m) wsize sent turn came old next new after place n f s =
      let again = opening_again m.opening sent turn came old.repeats in
      file-as (files.Open _) next new s.machine_is (
        open-follows P own m s.steps.step next old.opens after.opens place
            (opening-took P own again m.opening sent turn (led_on m.opening turn.now came after.attrs old.pages) s.steps.step old.pages after.pages (led-on P own m.opening turn.now came after.attrs old.pages n) s.steps.led)
            s.steps.follows,
        tt,
      )
  file-takes (files.Read m) wsize sent turn came old next new after place n f s =
      file-as (files.Read s.machine) next new s.machine_is (read-takes P own m.reading sent turn came old.repeats m old.pages old.back next s.machine after.pages n s.step, tt)
  file-takes (files.Write m) wsize sent turn came old next new after place n f s =
      file-as (files.Write (record m { state = s.state })) next new s.machine_is (write-takes P own m.state wsize m sent turn came old next s.state after n f s.step)
  file-takes (files.Sync m) wsize sent turn came old next new after place n f s =
      file-as (files.Sync (record m { state = s.state })) next new s.machine_is (sync-takes P own m.state wsize m sent turn came old next s.state after n f s.step)
  file-takes (files.Close m) wsize sent turn came old next new after place n f s =
      file-as (files.Close (record m { state = s.state })) next new s.machine_is (close-takes P own m.state wsize m sent turn came old next s.state after n f s.step)
  file-takes (files.Truncate m) wsize sent turn came old next new after place n f s = file-as (files.Truncate _) next new s.machine_is (truncate-takes P own m.state m came sent turn old.repeats next n s.next_is, tt)
  file-takes (files.Put m) wsize sent turn came old next new after place n f s =
      file-as (files.Put s.machine) next new s.machine_is (put-takes P own m.state wsize m sent turn came old next s.machine after n f.0 f.1 refl s.step)

  -- ---- opens and puts on their way

  abbrev FinePath : PathMachine → Type 0
  FinePath m = FineFile (file_of m.opener)

  abbrev PathStep : Step → PathMachine → Type 0
  PathStep next new = FineNext P next × FinePath new

  path-as : (to : PathMachine) (next : Step) (new : PathMachine) → new ≡ to → PathStep next to → PathStep next new
  path-as to next new is f = (f.0, subst FinePath (sym is) f.1)

  placed-fine : (dir : List ℕ) (o : Opener) → FineFile (file_of o) → FineFile (file_of (placed dir o))
  placed-fine dir (openers.Open m) f = tt
  placed-fine dir (openers.Put m) f = (f.0, tt)

  begun-fine : (moment : ℕ) (o : Opener) → FineFile (file_of o) → FineFile (file_of (begun_at moment o))
  begun-fine moment (openers.Open m) f = tt
  begun-fine moment (openers.Put m) f = f

  then-resumes : (wsize : ℕ) (m : PathMachine) (turn : Turn) (old : Shelf) (next : Step) (new : PathMachine) (after : Shelf) → FinePath m
      → paths.ThenResumes wsize m turn old next new after → PathStep next new
  then-resumes wsize m turn old next new after f t =
      path-as (record m { opener = t.opener }) next new t.machine_is (file-resumes (file_of m.opener) wsize turn old next (file_of t.opener) after f t.step)

  follows-path : (step : WalkStep) (wsize : ℕ) (m : PathMachine) (turn : Turn) (old : Shelf) (next : Step) (new : PathMachine) (after : Shelf) → FineWalk P own step → FinePath m
      → paths.Follows step wsize m turn old next new after → PathStep next new
  follows-path (walks.Send call) wsize m turn old next new after w f l = path-as m next new l.1 (fine-as P _ next l.0 tt, f)
  follows-path walks.Wait wsize m turn old next new after w f l = path-as m next new l.1 (fine-as P _ next l.0 tt, f)
  follows-path (walks.At dir) wsize m turn old next new after w f l =
      then-resumes wsize (record m { opener = placed dir m.opener; arrived = true }) turn old next new after (placed-fine dir m.opener f) l
  follows-path (walks.Refused fault) wsize m turn old next new after w f l = path-as m next new l.1 (fine-as P _ next l.0 w, f)

  path-resumes : (b : Bool) (wsize : ℕ) (m : PathMachine) (turn : Turn) (old : Shelf) (next : Step) (new : PathMachine) (after : Shelf) → FinePath m
      → paths.PathResumes b wsize m turn old next new after → PathStep next new
  path-resumes true wsize m turn old next new after f r = then-resumes wsize m turn old next new after f r
  path-resumes false wsize m turn old next new after f r =
      follows-path (walking.go_next m.walk turn old) wsize (record m { walk = walking.go_after m.walk turn old }) turn (walking.go_shelf m.walk turn old) next new after (go-fine P own m.walk turn old) f r

  path-starts : (taken : Bool) (wsize : ℕ) (m : PathMachine) (turn : Turn) (old : Shelf) (next : Step) (new : PathMachine) (after : Shelf) → (taken ≡ true → P faults.Slot) → FinePath m
      → paths.StartsIf taken wsize m turn old next new after → PathStep next new
  path-starts true wsize m turn old next new after place f s = path-as m next new s.1 (fine-as P _ next s.0 (place refl), f)
  path-starts false wsize m turn old next new after place f s =
      path-resumes m.arrived wsize (record m { opener = begun_at (turn.moment - 1) m.opener }) turn old next new after (begun-fine (turn.moment - 1) m.opener f) s

  path-takes : (b : Bool) (wsize : ℕ) (m : PathMachine) (sent turn : Turn) (came : Result Reply Fault) (old : Shelf) (next : Step) (new : PathMachine) (after : Shelf) → FileEnds (file_of m.opener) old → Came P came → FinePath m
      → paths.PathTakes b wsize m sent turn came old next new after → PathStep next new
  path-takes true wsize m sent turn came old next new after place n f t =
      path-as (record m { opener = t.opener }) next new t.machine_is (file-takes (file_of m.opener) wsize sent turn came old next (file_of t.opener) after place n f t.step)
  path-takes false wsize m sent turn came old next new after place n f t =
      follows-path t.step wsize t.walked turn t.heard next new after (walk-took P own (walking.waiting_name m.walk) m.walk sent turn came old t.step t.walked.walk t.heard n t.takes)
      (subst FinePath (sym t.walked_is) f) t.follows

  -- ---- any operation

  abbrev pub FineMachine : Machine → Type 0
  FineMachine (machines.File m) = FineFile m
  FineMachine (machines.Path m) = FinePath m
  FineMachine (machines.Name m) = Unit {0}

  abbrev pub MachineStep : Step → Machine → Type 0
  MachineStep next new = FineNext P next × FineMachine new

  all-as : (to : Machine) (next : Step) (new : Machine) → new ≡ to → MachineStep next to → MachineStep next new
  all-as to next new is f = (f.0, subst FineMachine (sym is) f.1)

  abbrev pub Begins : Machine → Shelf → Type 0
  Begins (machines.File m) old = FileBegins m old
  Begins (machines.Path m) old = slot_taken m.opener old.opens ≡ true → P faults.Slot
  Begins (machines.Name m) old = Unit {0}

  abbrev pub Ends : Machine → Shelf → Type 0
  Ends (machines.File m) old = FileEnds m old
  Ends (machines.Path m) old = FileEnds (file_of m.opener) old
  Ends (machines.Name m) old = Unit {0}

  -- of any operation, where P holds of these faults anyway
  file-begins : P faults.Slot → P faults.Mode → (m : FileMachine) (old : Shelf) → FileBegins m old
  file-begins slot mode (files.Open m) old = λ taken. slot
  file-begins slot mode (files.Read m) old = (λ none. slot, λ o there is. mode)
  file-begins slot mode (files.Write m) old = (λ none. slot, λ o there is. mode)
  file-begins slot mode (files.Sync m) old = λ none. slot
  file-begins slot mode (files.Close m) old = λ none. slot
  file-begins slot mode (files.Truncate m) old = (λ none. slot, λ o there is. mode)
  file-begins slot mode (files.Put m) old = tt

  file-ends : P faults.Slot → (m : FileMachine) (old : Shelf) → FileEnds m old
  file-ends slot (files.Open m) old = λ other there. slot
  file-ends slot (files.Read m) old = tt
  file-ends slot (files.Write m) old = tt
  file-ends slot (files.Sync m) old = tt
  file-ends slot (files.Close m) old = tt
  file-ends slot (files.Truncate m) old = tt
  file-ends slot (files.Put m) old = tt

  pub any-begins : P faults.Slot → P faults.Mode → (m : Machine) (old : Shelf) → Begins m old
  any-begins slot mode (machines.File m) old = file-begins slot mode m old
  any-begins slot mode (machines.Path m) old = λ taken. slot
  any-begins slot mode (machines.Name m) old = tt

  pub any-ends : P faults.Slot → (m : Machine) (old : Shelf) → Ends m old
  any-ends slot (machines.File m) old = file-ends slot m old
  any-ends slot (machines.Path m) old = file-ends slot (file_of m.opener) old
  any-ends slot (machines.Name m) old = tt

  pub all-starts : (m : Machine) (wsize : ℕ) (turn : Turn) (old : Shelf) (next : Step) (new : Machine) (after : Shelf) → Begins m old → FineMachine m → Starts wsize m turn old next new after → MachineStep next new
  all-starts (machines.File m) wsize turn old next new after place f s = all-as (machines.File s.machine) next new s.machine_is (file-starts m wsize turn old next s.machine after place f s.step)
  all-starts (machines.Path m) wsize turn old next new after place f s =
      all-as (machines.Path s.machine) next new s.machine_is (path-starts (slot_taken m.opener old.opens) wsize m turn old next s.machine after place f s.step)
  all-starts (machines.Name m) wsize turn old next new after place f s = all-as (machines.Name s.machine) next new s.machine_is (name-goes P own m turn old next s.machine after s.step, tt)

  pub all-resumes : (m : Machine) (wsize : ℕ) (turn : Turn) (old : Shelf) (next : Step) (new : Machine) (after : Shelf) → FineMachine m → Resumes wsize m turn old next new after
      → MachineStep next new
  all-resumes (machines.File m) wsize turn old next new after f s = all-as (machines.File s.machine) next new s.machine_is (file-resumes m wsize turn old next s.machine after f s.step)
  all-resumes (machines.Path m) wsize turn old next new after f s = all-as (machines.Path s.machine) next new s.machine_is (path-resumes m.arrived wsize m turn old next s.machine after f s.step)
  all-resumes (machines.Name m) wsize turn old next new after f s = all-as (machines.Name s.machine) next new s.machine_is (name-goes P own m turn old next s.machine after s.step, tt)

  pub all-takes : (m : Machine) (wsize : ℕ) (sent turn : Turn) (came : Result Reply Fault) (old : Shelf) (next : Step) (new : Machine) (after : Shelf) → Ends m old → Came P came → FineMachine m
      → Takes wsize m sent turn came old next new after → MachineStep next new
  all-takes (machines.File m) wsize sent turn came old next new after place n f s =
      all-as (machines.File s.machine) next new s.machine_is (file-takes m wsize sent turn came old next s.machine after place n f s.step)
  all-takes (machines.Path m) wsize sent turn came old next new after place n f s =
      all-as (machines.Path s.machine) next new s.machine_is (path-takes m.arrived wsize m sent turn came old next s.machine after place n f s.step)
  all-takes (machines.Name m) wsize sent turn came old next new after place n f s = all-as (machines.Name s.machine) next new s.machine_is (name-takes P own m sent turn came old next s.machine after n s.step, tt)

  -- an operation that begins keeps none
  pub begins-fine : (m : Mounted) (lane : ℕ) (op : Op) → FineMachine (machine_of m lane op)
  begins-fine m lane (ops.OpenFile slot mode path) = tt
  begins-fine m lane (ops.Read slot offset count) = tt
  begins-fine m lane (ops.Write slot offset bytes) = tt
  begins-fine m lane (ops.Fill slot offset count byte) = tt
  begins-fine m lane (ops.Put path offset bytes) = (tt, tt)
  begins-fine m lane (ops.Sync slot) = tt
  begins-fine m lane (ops.Close slot) = tt
  begins-fine m lane (ops.Truncate slot size) = tt
  begins-fine m lane (ops.Stat path) = tt
  begins-fine m lane (ops.Access path bits) = tt
  begins-fine m lane (ops.MakeDir path) = tt
  begins-fine m lane (ops.RemoveDir path) = tt
  begins-fine m lane (ops.Remove path) = tt
  begins-fine m lane (ops.Rename from to) = tt
  begins-fine m lane (ops.Link from to) = tt
  begins-fine m lane (ops.SymLink path target) = tt
  begins-fine m lane (ops.ReadLink path) = tt
  begins-fine m lane (ops.List path) = tt

-- what holds of each fault that is kept goes on holding
module _ (P : Fault → Type 0) (own : OwnFaults P) (Q : Fault → Type 0) (other : OwnFaults Q) (more : (fault : Fault) → P fault → Q fault) where
  option-more : (o : Option Fault) → FineOption P o → FineOption Q o
  option-more None f = tt
  option-more (Some fault) f = more fault f

  writing-more : (w : Writing) → FineWriting P own w → FineWriting Q other w
  writing-more writing.Idle f = tt
  writing-more (writing.Room file saving) f = option-more saving.refusal f

  syncing-more : (s : Syncing) → FineSyncing P own s → FineSyncing Q other s
  syncing-more syncing.Idle f = tt
  syncing-more (syncing.Saves saving) f = option-more saving.refusal f

  closing-more : (c : Closing) → FineClosing P own c → FineClosing Q other c
  closing-more closing.Idle f = tt
  closing-more (closing.Queued saving) f = option-more saving.refusal f
  closing-more (closing.Saves saving) f = option-more saving.refusal f
  closing-more (closing.ToRemove removal) f = option-more removal.refusal f
  closing-more (closing.Removing removal) f = option-more removal.refusal f

  putting-more : (p : Putting) → FinePutting P own p → FinePutting Q other p
  putting-more putting.Idle f = tt
  putting-more putting.Opens f = tt
  putting-more (putting.Adds file) f = tt
  putting-more (putting.Saves saving) f = option-more saving.refusal f

  file-more : (m : FileMachine) → FineFile P own m → FineFile Q other m
  file-more (files.Open m) f = tt
  file-more (files.Read m) f = tt
  file-more (files.Write m) f = writing-more m.state f
  file-more (files.Sync m) f = syncing-more m.state f
  file-more (files.Close m) f = closing-more m.state f
  file-more (files.Truncate m) f = tt
  file-more (files.Put m) f = (writing-more m.write.state f.0, putting-more m.state f.1)

  pub fine-more : (m : Machine) → FineMachine P own m → FineMachine Q other m
  fine-more (machines.File m) f = file-more m f
  fine-more (machines.Path m) f = file-more (file_of m.opener) f
  fine-more (machines.Name m) f = tt
