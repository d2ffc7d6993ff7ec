-- A write or a fill, step by step, and that each of its calls makes room.
use Rattle.core_session.proofs.Prelude.{◌≡◌, ◌≤◌, ℕ, List, [], ◌∷◌, ◌++◌, length, Result, ap, subst, ◌∙◌, arith, Fault, Entry, Began, Call, Reply, Op, Step, Shelf, Turn, WriteFile, Writing, Mounted, Machine, machine_of, Starts, Resumes, Takes, State, Busy, Over, of_writing, in_flight, ThenOf, IsForRoom, Expects, WriteNames}
use Rattle.world_model.specs.declared.op.Op.TheVariants as ops
use Rattle.client_shelf.specs.declared.step.Step.TheVariants as nexts
use Rattle.file_ops.specs.declared.write_file.Writing.TheVariants as writing
use Rattle.op_machines.specs.declared.file_machine.FileMachine.TheVariants as files
use Rattle.op_machines.specs.declared.machine.Machine.TheVariants as machines
use Rattle.core_facts.proofs.Stories.{StoryLaws}
use Rattle.core_answers.proofs.asks.PutAsks.{for-room}

-- a write or a fill
abbrev pub IsStore : Op → Type 0
IsStore (ops.Write slot offset text) = Unit {0}
IsStore (ops.Fill slot offset count byte) = Unit {0}
IsStore op = ⊥

-- it is worked on by the machine of one
pub record IsWrite (machine : Machine) : Type 0 where
  pub of : WriteFile
  pub is : machine ≡ machines.File (files.Write of)

abbrev pub StateStory : State → Type 0
StateStory (Busy machine) = IsWrite machine
StateStory (Over answer) = Unit {0}

abbrev pub WriteStory : List Entry → ℕ → Op → State → Type 0
WriteStory h x op state = IsStore op → StateStory state

then-writes : (h : List Entry) (x : ℕ) (op : Op) (next : Step) (new : Machine) → (IsStore op → IsWrite new)
    → ThenOf (λ m. WriteStory h x op (Busy m)) (λ a. WriteStory h x op (Over a)) next new
then-writes h x op (nexts.Send call) new k = k
then-writes h x op nexts.Wait new k = k
then-writes h x op (nexts.Done answer) new k = λ stores. tt

begins : (m : Mounted) (lane : ℕ) (op : Op) (wsize : ℕ) (turn : Turn) (old : Shelf) (next : Step) (new : Machine) (after : Shelf) → Starts wsize (machine_of m lane op) turn old next new after
    → IsStore op → IsWrite new
begins m lane (ops.Write slot offset text) wsize turn old next new after s stores = record { of = s.step.machine; is = s.machine_is ∙ ap machines.File s.step.machine_is }
begins m lane (ops.Fill slot offset count byte) wsize turn old next new after s stores = record { of = s.step.machine; is = s.machine_is ∙ ap machines.File s.step.machine_is }
begins m lane op wsize turn old next new after s stores = absurd stores

goes : (machine : Machine) (wsize : ℕ) (turn : Turn) (old : Shelf) (next : Step) (new : Machine) (after : Shelf) → IsWrite machine → Resumes wsize machine turn old next new after → IsWrite new
goes machine wsize turn old next new after k r =
    let g = subst (λ (n : Machine). Resumes wsize n turn old next new after) k.is r in
    record { of = record k.of { state = g.step.state }; is = g.machine_is ∙ ap machines.File g.step.machine_is }

hears : (machine : Machine) (wsize : ℕ) (sent turn : Turn) (came : Result Reply Fault) (old : Shelf) (next : Step) (new : Machine) (after : Shelf) → IsWrite machine
    → Takes wsize machine sent turn came old next new after → IsWrite new
hears machine wsize sent turn came old next new after k t =
    let g = subst (λ (n : Machine). Takes wsize n sent turn came old next new after) k.is t in
    record { of = record k.of { state = g.step.state }; is = g.machine_is ∙ ap machines.File g.step.machine_is }

state-later : (state : State) → StateStory state → StateStory state
state-later state k = k

pub write-laws : (m : Mounted) → StoryLaws (machine_of m) WriteStory
write-laws m = record {
  starts = λ h lane line op wsize turn old next new after s. then-writes (h ++ Began lane line op ∷ []) (length h) op next new (begins m lane op wsize turn old next new after s);
  resumes = λ h x op machine wsize turn old next new after story r. then-writes h x op next new (λ stores. goes machine wsize turn old next new after (story stores) r);
  takes = λ h x op machine wsize sent turn came old next new after others story one told t.
      then-writes h x op next new (λ stores. hears machine wsize sent turn came old next new after (story stores) t);
  grows = λ h e x op state story. story;
  lost = λ h x op shown stores. tt;
}

room-asks : (w : Writing) (call : Call) → WriteNames w call → 1 ≤ of_writing w → IsForRoom call
room-asks writing.Idle call e some = absurd (omega (arith, some))
room-asks (writing.Room file saving) call e some = for-room saving.file call e

pub write-asks : (machine : Machine) (call : Call) → IsWrite machine → Expects machine call → 1 ≤ in_flight machine → IsForRoom call
write-asks machine call k e some =
    room-asks k.of.state call (subst (λ (n : Machine). Expects n call) k.is e).1 (subst (λ (n : Machine). 1 ≤ in_flight n) k.is some)
