-- What an operation may add, it has where it adds it.
use Rattle.core_session.proofs.Prelude.{ℕ, List, Bool, true, false, Result, Fault, Reply, Step, Shelf, Turn, PutFile, Putting, WriteFile, Writing, FileMachine, Machine, PathMachine, file_of, Takes, RoomIs}
use Rattle.core_answers.proofs.writes.Backs.{PutIs, FileBrings}
use Rattle.file_ops.specs.declared.put_file.Putting.TheVariants as putting
use Rattle.file_ops.specs.declared.write_file.Writing.TheVariants as writing
use Rattle.file_ops.specs.PutFile as puts
use Rattle.file_ops.specs.WriteFile as writes
use Rattle.op_machines.specs.declared.file_machine.FileMachine.TheVariants as files
use Rattle.op_machines.specs.declared.machine.Machine.TheVariants as machines
use Rattle.op_machines.specs.FileSteps as steps
use Rattle.op_machines.specs.PathSteps as paths
use Rattle.core_answers.proofs.writes.AllBacks.{Brings, PathBrings}
use Rattle.core_session.proofs.order.Adds.{RoomHas, PutHas, FileHas, PathHas, TakesHas}

module _ (wsize : ℕ) (sent turn : Turn) (came : Result Reply Fault) where
  -- ---- from what it may add

  room-brings : (B C : List ℕ → Type 0) → ((f : List ℕ) → B f → C f) → (at : Writing) (m : WriteFile) (old : Shelf) (next : Step) (state : Writing) (after : Shelf)
      (t : writes.TakesIn at wsize m sent turn came old next state after) → RoomIs B at → RoomHas C at wsize m sent turn came old next state after t
  room-brings B C f writing.Idle m old next state after t r = tt
  room-brings B C f (writing.Room file saving) m old next state after t r = λ well. f file r

  put-brings : (B : List ℕ → Type 0) (at : Putting) (m : PutFile) (old : Shelf) (next : Step) (new : PutFile) (after : Shelf) (t : puts.Takes at wsize m sent turn came old next new after)
      → PutIs B at m.write.state → PutHas B at wsize m sent turn came old next new after t
  put-brings B putting.Idle m old next new after t r = tt
  put-brings B putting.Opens m old next new after t r = λ file is. r file
  put-brings B (putting.Adds file) m old next new after t r = room-brings B B (λ f b. b) m.write.state m.write old t.told t.written t.mid t.takes r
  put-brings B (putting.Saves saving) m old next new after t r = tt

  module _ (A : List ℕ → ℕ → List ℕ → Type 0) where
    file-brings : (m : FileMachine) (old : Shelf) (next : Step) (new : FileMachine) (after : Shelf) (t : steps.Takes wsize m sent turn came old next new after) → FileBrings A m
        → FileHas A wsize m sent turn came old next new after t
    file-brings (files.Open m) old next new after t b = tt
    file-brings (files.Read m) old next new after t b = tt
    file-brings (files.Write m) old next new after t b =
        room-brings (λ f. A f m.offset (writes.made_bytes m.text)) _ (λ f k well. k) m.state m old next t.state after t.step b
    file-brings (files.Sync m) old next new after t b = tt
    file-brings (files.Close m) old next new after t b = tt
    file-brings (files.Truncate m) old next new after t b = tt
    file-brings (files.Put m) old next new after t b = put-brings (λ f. A f m.write.offset (writes.made_bytes m.write.text)) m.state m old next t.machine after t.step b

    path-brings : (b : Bool) (m : PathMachine) (old : Shelf) (next : Step) (new : PathMachine) (after : Shelf) (t : paths.PathTakes b wsize m sent turn came old next new after)
        → PathBrings A b m.opener → PathHas A b wsize m sent turn came old next new after t
    path-brings true m old next new after t b = file-brings (file_of m.opener) old next (file_of t.opener) after t.step b
    path-brings false m old next new after t b = tt

    pub brings-has : (m : Machine) (old : Shelf) (next : Step) (new : Machine) (after : Shelf) (t : Takes wsize m sent turn came old next new after) → Brings A m
        → TakesHas A wsize m sent turn came old next new after t
    brings-has (machines.File m) old next new after t b = file-brings m old next t.machine after t.step b
    brings-has (machines.Path m) old next new after t b = path-brings m.arrived m old next t.machine after t.step b
    brings-has (machines.Name m) old next new after t b = tt

  -- ---- both

  module _ (A D E : List ℕ → ℕ → List ℕ → Type 0) (both : (f : List ℕ) (o : ℕ) (b : List ℕ) → A f o b → D f o b → E f o b) where
    room-both : (X Y Z : List ℕ → Type 0) → ((f : List ℕ) → X f → Y f → Z f) → (at : Writing) (m : WriteFile) (old : Shelf) (next : Step) (state : Writing) (after : Shelf)
        (t : writes.TakesIn at wsize m sent turn came old next state after) → RoomHas X at wsize m sent turn came old next state after t → RoomHas Y at wsize m sent turn came old next state after t
        → RoomHas Z at wsize m sent turn came old next state after t
    room-both X Y Z f writing.Idle m old next state after t x y = tt
    room-both X Y Z f (writing.Room file saving) m old next state after t x y = λ well. f file (x well) (y well)

    put-both : (X Y Z : List ℕ → Type 0) → ((f : List ℕ) → X f → Y f → Z f) → (at : Putting) (m : PutFile) (old : Shelf) (next : Step) (new : PutFile) (after : Shelf)
        (t : puts.Takes at wsize m sent turn came old next new after) → PutHas X at wsize m sent turn came old next new after t → PutHas Y at wsize m sent turn came old next new after t
        → PutHas Z at wsize m sent turn came old next new after t
    put-both X Y Z f putting.Idle m old next new after t x y = tt
    put-both X Y Z f putting.Opens m old next new after t x y = λ file is. f file (x file is) (y file is)
    put-both X Y Z f (putting.Adds file) m old next new after t x y = room-both X Y Z f m.write.state m.write old t.told t.written t.mid t.takes x y
    put-both X Y Z f (putting.Saves saving) m old next new after t x y = tt

    file-both : (m : FileMachine) (old : Shelf) (next : Step) (new : FileMachine) (after : Shelf) (t : steps.Takes wsize m sent turn came old next new after)
        → FileHas A wsize m sent turn came old next new after t → FileHas D wsize m sent turn came old next new after t → FileHas E wsize m sent turn came old next new after t
    file-both (files.Open m) old next new after t x y = tt
    file-both (files.Read m) old next new after t x y = tt
    file-both (files.Write m) old next new after t x y =
        room-both _ _ _ (λ f a d well. both f m.offset (writes.made_bytes m.text) (a well) (d well)) m.state m old next t.state after t.step x y
    file-both (files.Sync m) old next new after t x y = tt
    file-both (files.Close m) old next new after t x y = tt
    file-both (files.Truncate m) old next new after t x y = tt
    file-both (files.Put m) old next new after t x y =
        put-both _ _ _ (λ f a d. both f m.write.offset (writes.made_bytes m.write.text) a d) m.state m old next t.machine after t.step x y

    path-both : (b : Bool) (m : PathMachine) (old : Shelf) (next : Step) (new : PathMachine) (after : Shelf) (t : paths.PathTakes b wsize m sent turn came old next new after)
        → PathHas A b wsize m sent turn came old next new after t → PathHas D b wsize m sent turn came old next new after t → PathHas E b wsize m sent turn came old next new after t
    path-both true m old next new after t x y = file-both (file_of m.opener) old next (file_of t.opener) after t.step x y
    path-both false m old next new after t x y = tt

    pub has-both : (m : Machine) (old : Shelf) (next : Step) (new : Machine) (after : Shelf) (t : Takes wsize m sent turn came old next new after)
        → TakesHas A wsize m sent turn came old next new after t → TakesHas D wsize m sent turn came old next new after t → TakesHas E wsize m sent turn came old next new after t
    has-both (machines.File m) old next new after t x y = file-both m old next t.machine after t.step x y
    has-both (machines.Path m) old next new after t x y = path-both m.arrived m old next t.machine after t.step x y
    has-both (machines.Name m) old next new after t x y = tt
