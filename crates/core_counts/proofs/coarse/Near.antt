-- The bytes of any operation end within all places of a file.
use Rattle.core_counts.proofs.Prelude.{◌≤◌, ◌+◌, ◌-◌, ◌^◌, ℕ, Bool, true, false, List, length, Result, refl, arith, Fault, Reply, Step, Shelf, Turn, Opens, PutFile, Putting, Text, WriteFile, Writing, FileMachine, Machine, PathMachine, Fits, file_of, Takes, PutHas, FileHas, PathHas, TakesHas, StartsHas, NearAs}
use Rattle.core_session.proofs.order.Adds.{RoomHas}
use Rattle.file_ops.specs.declared.put_file.Putting.TheVariants as putting
use Rattle.file_ops.specs.declared.write_file.Text.TheVariants as texts
use Rattle.file_ops.specs.declared.write_file.Writing.TheVariants as writing
use Rattle.file_ops.specs.PutFile as puts
use Rattle.file_ops.specs.WriteFile as writes
use Rattle.op_machines.specs.declared.file_machine.FileMachine.TheVariants as files
use Rattle.op_machines.specs.declared.machine.Machine.TheVariants as machines
use Rattle.op_machines.specs.FileFits.{FileFits}
use Rattle.op_machines.specs.FileSteps as steps
use Rattle.op_machines.specs.PathSteps as paths

-- ---- the bytes of an operation end within all places

made-near : (offset : ℕ) (text : Text) → offset + length (writes.text_bytes text) ≤ 2 ^ 63 - 1 → offset + length (writes.made_bytes text) ≤ 2 ^ 63 - 1
made-near offset (texts.Given bytes) fits = fits
made-near offset (texts.Fill count byte) fits = omega (arith, fits)

module _ (n wsize : ℕ) (sent turn : Turn) (came : Result Reply Fault) where
  room-near : (B : List ℕ → Type 0) → ((f : List ℕ) → B f) → (at : Writing) (m : WriteFile) (old : Shelf) (next : Step) (state : Writing) (after : Shelf)
      (t : writes.TakesIn at wsize m sent turn came old next state after) → RoomHas B at wsize m sent turn came old next state after t
  room-near B b writing.Idle m old next state after t = tt
  room-near B b (writing.Room file saving) m old next state after t = λ well. b file

  put-near : (B : List ℕ → Type 0) → ((f : List ℕ) → B f) → (at : Putting) (m : PutFile) (old : Shelf) (next : Step) (new : PutFile) (after : Shelf)
      (t : puts.Takes at wsize m sent turn came old next new after) → PutHas B at wsize m sent turn came old next new after t
  put-near B b putting.Idle m old next new after t = tt
  put-near B b putting.Opens m old next new after t = λ file is. b file
  put-near B b (putting.Adds file) m old next new after t = room-near B b m.write.state m.write old t.told t.written t.mid t.takes
  put-near B b (putting.Saves saving) m old next new after t = tt

  file-near : (m : FileMachine) (old : Shelf) (next : Step) (new : FileMachine) (after : Shelf) (t : steps.Takes wsize m sent turn came old next new after) → FileFits m
      → FileHas (λ f o b. NearAs wsize turn n f o b n) wsize m sent turn came old next new after t
  file-near (files.Open m) old next new after t fits = tt
  file-near (files.Read m) old next new after t fits = tt
  file-near (files.Write m) old next new after t fits = room-near _ (λ f ends. (refl, made-near m.offset m.text fits)) m.state m old next t.state after t.step
  file-near (files.Sync m) old next new after t fits = tt
  file-near (files.Close m) old next new after t fits = tt
  file-near (files.Truncate m) old next new after t fits = tt
  file-near (files.Put m) old next new after t fits = put-near _ (λ f. (refl, made-near m.write.offset m.write.text fits)) m.state m old next t.machine after t.step

  path-near : (b : Bool) (m : PathMachine) (old : Shelf) (next : Step) (new : PathMachine) (after : Shelf) (t : paths.PathTakes b wsize m sent turn came old next new after) → FileFits (file_of m.opener)
      → PathHas (λ f o b. NearAs wsize turn n f o b n) b wsize m sent turn came old next new after t
  path-near true m old next new after t fits = file-near (file_of m.opener) old next (file_of t.opener) after t.step fits
  path-near false m old next new after t fits = tt

  pub near-has : (m : Machine) (old : Shelf) (next : Step) (new : Machine) (after : Shelf) (t : Takes wsize m sent turn came old next new after) → Fits m
      → TakesHas (λ f o b. NearAs wsize turn n f o b n) wsize m sent turn came old next new after t
  near-has (machines.File m) old next new after t fits = file-near m old next t.machine after t.step fits
  near-has (machines.Path m) old next new after t fits = path-near m.arrived m old next t.machine after t.step fits
  near-has (machines.Name m) old next new after t fits = tt

pub near-starts : (n wsize : ℕ) (turn : Turn) (m : Machine) (slots : Opens) (next : Step) → Fits m → StartsHas (λ f o b. NearAs wsize turn n f o b n) m slots next
near-starts n wsize turn (machines.File (files.Open m)) slots next fits = tt
near-starts n wsize turn (machines.File (files.Read m)) slots next fits = tt
near-starts n wsize turn (machines.File (files.Write m)) slots next fits = λ file found ends. (refl, fits)
near-starts n wsize turn (machines.File (files.Sync m)) slots next fits = tt
near-starts n wsize turn (machines.File (files.Close m)) slots next fits = tt
near-starts n wsize turn (machines.File (files.Truncate m)) slots next fits = tt
near-starts n wsize turn (machines.File (files.Put m)) slots next fits = tt
near-starts n wsize turn (machines.Path m) slots next fits = tt
near-starts n wsize turn (machines.Name m) slots next fits = tt
