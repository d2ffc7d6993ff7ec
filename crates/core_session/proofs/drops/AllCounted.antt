-- No step of any operation lowers the number of the last write.
use Rattle.core_session.proofs.Prelude.{◌≡◌, ◌≤◌, ◌-◌, ℕ, Bool, true, false, List, Option, Some, None, Result, ap, arith, Fault, Reply, of_file, last_end, goes_again, is_first, Step, Shelf, Turn, CloseFile, Closing, Saving, refusal_of, remove_busy, file_to_write, file_at, joined, by-step, WalkStep, walk-takes-kept, FileMachine, Machine, PathMachine, file_of, slot_taken, begun_at, Starts, Resumes, Takes, name-goes-kept, name-takes-kept}
use Rattle.op_machines.specs.Openers.{placed}
use Rattle.file_ops.specs.declared.close_file.Closing.TheVariants as closing
use Rattle.file_ops.specs.Closes as closes
use Rattle.file_ops.specs.Saves as saves
use Rattle.file_ops.specs.TruncateFile.{found_file}
use Rattle.name_ops.specs.declared.walk.WalkStep.TheVariants as walks
use Rattle.name_ops.specs.Walking as walking
use Rattle.op_machines.specs.declared.file_machine.FileMachine.TheVariants as files
use Rattle.op_machines.specs.declared.machine.Machine.TheVariants as machines
use Rattle.op_machines.specs.FileSteps as steps
use Rattle.op_machines.specs.PathSteps as paths
use Rattle.core_session.proofs.drops.Counted.{Up, up, level}
use Rattle.core_session.proofs.drops.Counted as plain

-- ---- closes

module _ (lane slot : ℕ) where
  ends-up : (of : List ℕ) (refusal : Option Fault) (old : Shelf) (next : Step) (state : Closing) (new : Shelf) → closes.Ends lane of refusal old next state new → Up new old
  ends-up of refusal old next state new e = level (ap (λ (s : Shelf). s.seq) e.others)

  ends-at-up : (place : Option (List ℕ × List ℕ)) (room : Bool) (of : List ℕ) (refusal : Option Fault) (old : Shelf) (next : Step) (state : Closing) (new : Shelf)
      → closes.EndsAt place lane room of refusal old next state new → Up new old
  ends-at-up None room of refusal old next state new e = ends-up of refusal old next state new e
  ends-at-up (Some place) room of refusal old next state new e = up e.shelf_is

  frees-up : (room : Bool) (of : List ℕ) (refusal : Option Fault) (old : Shelf) (next : Step) (state : Closing) (new : Shelf) → closes.Frees lane slot room of refusal old next state new → Up new old
  frees-up room of refusal old next state new f =
      let freed : f.freed.seq ≡ old.seq = ap (λ (s : Shelf). s.seq) f.slot_is in
      let more = ends-at-up f.place room of refusal f.freed next state new f.ends in
      omega (arith, freed, more)

  follows-up : (gives : _) (room begun : Bool) (saving : Saving) (old : Shelf) (next : Step) (state : Closing) (new : Shelf)
      → closes.Follows gives lane slot room begun saving old next state new → Up new old
  follows-up gives room begun saving old next state new f = by-step (λ g. closes.Follows g lane slot room begun saving old next state new → Up new old)
      (λ call l. up l.2) (λ l. up l.2) (λ result l. frees-up room saving.file (refusal_of result) old next state new l) gives f

  goes-on-up : (wsize : ℕ) (turn : Turn) (begun : Bool) (saving : Saving) (old : Shelf) (next : Step) (state : Closing) (new : Shelf)
      → closes.GoesOn wsize lane slot turn begun saving old next state new → Up new old
  goes-on-up wsize turn begun saving old next state new g =
      let gone : g.gone.seq ≡ old.seq = ap (λ (s : Shelf). s.seq) g.others in
      let more = follows-up g.gives turn.room begun g.saved g.gone next state new g.follows in
      omega (arith, gone, more)

  begins-up : (end : Option ℕ) (wsize : ℕ) (turn : Turn) (saving : Saving) (old : Shelf) (next : Step) (state : Closing) (new : Shelf)
      → closes.Begins end wsize lane slot turn saving old next state new → Up new old
  begins-up None wsize turn saving old next state new b = frees-up turn.room saving.file None old next state new b
  begins-up (Some end) wsize turn saving old next state new b = goes-on-up wsize turn false saving old next state new b

  close-queues-up : (b : Bool) (wsize : ℕ) (turn : Turn) (saving : Saving) (old : Shelf) (next : Step) (state : Closing) (new : Shelf)
      → closes.QueuesIf b wsize lane slot turn saving old next state new → Up new old
  close-queues-up true wsize turn saving old next state new q = begins-up (last_end (of_file saving.file old.back).segments) wsize turn saving old next state new q
  close-queues-up false wsize turn saving old next state new q = up q.shelf_is

close-starts : (found : Option (List ℕ)) (wsize : ℕ) (m : CloseFile) (turn : Turn) (old : Shelf) (next : Step) (state : Closing) (new : Shelf)
    → closes.StartsAt found wsize m turn old next state new → Up new old
close-starts None wsize m turn old next state new s = up s.shelf_is
close-starts (Some file) wsize m turn old next state new s =
    close-queues-up m.lane m.slot (is_first m.lane (joined m.lane file old).order) wsize turn (saves.begun file old.seq) (joined m.lane file old) next state new s

close-resumes : (at : Closing) (wsize : ℕ) (m : CloseFile) (turn : Turn) (old : Shelf) (next : Step) (state : Closing) (new : Shelf) → closes.Resumes at wsize m turn old next state new
    → Up new old
close-resumes closing.Idle wsize m turn old next state new r = up r.shelf_is
close-resumes (closing.Queued saving) wsize m turn old next state new r = close-queues-up m.lane m.slot (is_first m.lane old.order) wsize turn saving old next state new r
close-resumes (closing.Saves saving) wsize m turn old next state new r = by (is_first m.lane old.order) r
  where
    by : (b : Bool) → closes.GoesOnIf b wsize m.lane m.slot turn saving old next state new → Up new old
    by true g = goes-on-up m.lane m.slot wsize turn true saving old next state new g
    by false g = up g.shelf_is
close-resumes (closing.ToRemove removal) wsize m turn old next state new r = up r.shelf_is
close-resumes (closing.Removing removal) wsize m turn old next state new r = up r.shelf_is

close-takes : (at : Closing) (wsize : ℕ) (m : CloseFile) (sent turn : Turn) (came : Result Reply Fault) (old : Shelf) (next : Step) (state : Closing) (new : Shelf)
    → closes.Takes at wsize m sent turn came old next state new → Up new old
close-takes closing.Idle wsize m sent turn came old next state new t = up t.shelf_is
close-takes (closing.Queued saving) wsize m sent turn came old next state new t = up t.shelf_is
close-takes (closing.Saves saving) wsize m sent turn came old next state new t =
    let took : t.took.seq ≡ old.seq = ap (λ (s : Shelf). s.seq) t.others in
    let more = follows-up m.lane m.slot t.gives turn.room true t.saved t.took next state new t.follows in
    omega (arith, took, more)
close-takes (closing.ToRemove removal) wsize m sent turn came old next state new t = up t.shelf_is
close-takes (closing.Removing removal) wsize m sent turn came old next state new t = by (goes_again (remove_busy came) sent turn old.repeats) t.ends
  where
    took : t.took.seq ≡ old.seq
    took = ap (λ (s : Shelf). s.seq) t.others

    by : (b : Bool) → closes.EndsIf b m.lane removal t.took next state new → Up new old
    by true e = let same : new.seq ≡ t.took.seq = ap (λ (s : Shelf). s.seq) e.shelf_is in omega (arith, same, took)
    by false e = let same : new.seq ≡ t.took.seq = ap (λ (s : Shelf). s.seq) e.others in omega (arith, same, took)

-- ---- operations on files

file-starts : (m : FileMachine) (wsize : ℕ) (turn : Turn) (old : Shelf) (next : Step) (new : FileMachine) (after : Shelf) → steps.Starts wsize m turn old next new after → Up after old
file-starts (files.Open m) wsize turn old next new after s = up s.shelf_is
file-starts (files.Read m) wsize turn old next new after s = level (ap (λ (k : Shelf). k.seq) s.others)
file-starts (files.Write m) wsize turn old next new after s = plain.write-starts (file_to_write m.lane m.slot old.opens) wsize m turn old next s.machine after s.step
file-starts (files.Sync m) wsize turn old next new after s = plain.sync-starts (file_at m.lane m.slot old.opens) wsize m turn old next s.state after s.step
file-starts (files.Close m) wsize turn old next new after s = close-starts (file_at m.lane m.slot old.opens) wsize m turn old next s.state after s.step
file-starts (files.Truncate m) wsize turn old next new after s = plain.truncate-starts (found_file m old) m old after s.shelf_is
file-starts (files.Put m) wsize turn old next new after s = up s.shelf_is

file-resumes : (m : FileMachine) (wsize : ℕ) (turn : Turn) (old : Shelf) (next : Step) (new : FileMachine) (after : Shelf) → steps.Resumes wsize m turn old next new after → Up after old
file-resumes (files.Open m) wsize turn old next new after s = up s.shelf_is
file-resumes (files.Read m) wsize turn old next new after s = level (ap (λ (k : Shelf). k.seq) s.others)
file-resumes (files.Write m) wsize turn old next new after s = plain.write-resumes m.state wsize m.lane turn old next s.state after s.step
file-resumes (files.Sync m) wsize turn old next new after s = plain.sync-resumes m.state wsize m turn old next s.state after s.step
file-resumes (files.Close m) wsize turn old next new after s = close-resumes m.state wsize m turn old next s.state after s.step
file-resumes (files.Truncate m) wsize turn old next new after s = up s.shelf_is
file-resumes (files.Put m) wsize turn old next new after s = plain.put-resumes m.state wsize m turn old next s.machine after s.step

file-takes : (m : FileMachine) (wsize : ℕ) (sent turn : Turn) (came : Result Reply Fault) (old : Shelf) (next : Step) (new : FileMachine) (after : Shelf)
    → steps.Takes wsize m sent turn came old next new after → Up after old
file-takes (files.Open m) wsize sent turn came old next new after s = level (ap (λ (k : Shelf). k.seq) s.others)
file-takes (files.Read m) wsize sent turn came old next new after s = level (ap (λ (k : Shelf). k.seq) s.others)
file-takes (files.Write m) wsize sent turn came old next new after s = plain.write-takes m.state wsize m sent turn came old next s.state after s.step
file-takes (files.Sync m) wsize sent turn came old next new after s = plain.sync-takes m.state wsize m sent turn came old next s.state after s.step
file-takes (files.Close m) wsize sent turn came old next new after s = close-takes m.state wsize m sent turn came old next s.state after s.step
file-takes (files.Truncate m) wsize sent turn came old next new after s = plain.truncate-takes m.state m came sent turn after.attrs after.back old after s.shelf_is
file-takes (files.Put m) wsize sent turn came old next new after s = plain.put-takes m.state wsize m sent turn came old next s.machine after s.step

-- ---- on their way, and on names

follows-path : (step : WalkStep) (wsize : ℕ) (m : PathMachine) (turn : Turn) (old : Shelf) (next : Step) (new : PathMachine) (after : Shelf)
    → paths.Follows step wsize m turn old next new after → Up after old
follows-path (walks.Send call) wsize m turn old next new after f = up f.2
follows-path walks.Wait wsize m turn old next new after f = up f.2
follows-path (walks.At dir) wsize m turn old next new after f = file-resumes (file_of (placed dir m.opener)) wsize turn old next (file_of f.opener) after f.step
follows-path (walks.Refused fault) wsize m turn old next new after f = up f.2

path-resumes : (b : Bool) (wsize : ℕ) (m : PathMachine) (turn : Turn) (old : Shelf) (next : Step) (new : PathMachine) (after : Shelf)
    → paths.PathResumes b wsize m turn old next new after → Up after old
path-resumes true wsize m turn old next new after r = file-resumes (file_of m.opener) wsize turn old next (file_of r.opener) after r.step
path-resumes false wsize m turn old next new after r =
    follows-path (walking.go_next m.walk turn old) wsize (record m { walk = walking.go_after m.walk turn old }) turn (walking.go_shelf m.walk turn old) next new after r

path-starts : (taken : Bool) (wsize : ℕ) (m : PathMachine) (turn : Turn) (old : Shelf) (next : Step) (new : PathMachine) (after : Shelf)
    → paths.StartsIf taken wsize m turn old next new after → Up after old
path-starts true wsize m turn old next new after s = up s.2
path-starts false wsize m turn old next new after s = path-resumes m.arrived wsize (record m { opener = begun_at (turn.moment - 1) m.opener }) turn old next new after s

path-takes : (b : Bool) (wsize : ℕ) (m : PathMachine) (sent turn : Turn) (came : Result Reply Fault) (old : Shelf) (next : Step) (new : PathMachine) (after : Shelf)
    → paths.PathTakes b wsize m sent turn came old next new after → Up after old
path-takes true wsize m sent turn came old next new after t = file-takes (file_of m.opener) wsize sent turn came old next (file_of t.opener) after t.step
path-takes false wsize m sent turn came old next new after t =
    let more = follows-path t.step wsize t.walked turn t.heard next new after t.follows in
    let same = (walk-takes-kept (walking.waiting_name m.walk) m.walk sent turn came old t.step t.walked.walk t.heard t.takes).seq in
    omega (arith, more, same)

-- ---- any operation

pub up-starts : (m : Machine) (wsize : ℕ) (turn : Turn) (old : Shelf) (next : Step) (new : Machine) (after : Shelf) → Starts wsize m turn old next new after → old.seq ≤ after.seq
up-starts (machines.File m) wsize turn old next new after s = file-starts m wsize turn old next s.machine after s.step
up-starts (machines.Path m) wsize turn old next new after s = path-starts (slot_taken m.opener old.opens) wsize m turn old next s.machine after s.step
up-starts (machines.Name m) wsize turn old next new after s = level (name-goes-kept m turn old next s.machine after s.step).seq

pub up-resumes : (m : Machine) (wsize : ℕ) (turn : Turn) (old : Shelf) (next : Step) (new : Machine) (after : Shelf) → Resumes wsize m turn old next new after → old.seq ≤ after.seq
up-resumes (machines.File m) wsize turn old next new after s = file-resumes m wsize turn old next s.machine after s.step
up-resumes (machines.Path m) wsize turn old next new after s = path-resumes m.arrived wsize m turn old next s.machine after s.step
up-resumes (machines.Name m) wsize turn old next new after s = level (name-goes-kept m turn old next s.machine after s.step).seq

pub up-takes : (m : Machine) (wsize : ℕ) (sent turn : Turn) (came : Result Reply Fault) (old : Shelf) (next : Step) (new : Machine) (after : Shelf)
    → Takes wsize m sent turn came old next new after → old.seq ≤ after.seq
up-takes (machines.File m) wsize sent turn came old next new after s = file-takes m wsize sent turn came old next s.machine after s.step
up-takes (machines.Path m) wsize sent turn came old next new after s = path-takes m.arrived wsize m sent turn came old next s.machine after s.step
up-takes (machines.Name m) wsize sent turn came old next new after s = level (name-takes-kept m sent turn came old next s.machine after s.step).seq
