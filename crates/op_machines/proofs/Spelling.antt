-- Each call that a step asks for has a spelling.
use Rattle.std.proofs.Common.{◌≤◌, ℕ, Result}
use Rattle.world_model.specs.declared.answer.Fault.{Fault}
use Rattle.world_model.specs.declared.message.Reply.{Reply}
use Rattle.write_back.specs.Files.{Pending}
use Rattle.client_shelf.specs.declared.shelf.Shelf.{Shelf}
use Rattle.client_shelf.specs.declared.turn.Turn.{Turn}
use Rattle.client_shelf.specs.declared.step.Step.{Step}
use Rattle.client_shelf.specs.Spelling.{IsSpellable, AreSpellable}
use Rattle.file_ops.proofs.Walks.{LeftAs}
use Rattle.file_ops.proofs.Spellables.{SpellableSave, carries-spells, replies-spell}
use Rattle.op_machines.specs.declared.file_machine.FileMachine.{FileMachine as Machine}
use Rattle.op_machines.specs.FileSteps.{Starts, Resumes, Takes}
use Rattle.op_machines.specs.Laws.{AsksSpellable}
use Rattle.op_machines.proofs.Walk.{Has, has-any, left-call, left-back, starts-left, resumes-left, takes-left}

both : (next : Step) (machine : Machine) (back : Pending) → LeftAs AreSpellable (Has AreSpellable SpellableSave) IsSpellable next machine back
    → AreSpellable back × AsksSpellable next
both next machine back l = (
  left-back AreSpellable SpellableSave IsSpellable (λ saving back all. all) next machine back l,
  left-call AreSpellable (Has AreSpellable SpellableSave)
      IsSpellable next machine back l,
)

pub starts-spell : (wsize : ℕ) (machine : Machine) (turn : Turn) (old : Shelf) (next : Step) (new : Machine) (after : Shelf)
    → wsize ≤ 65536 → Starts wsize machine turn old next new after → AreSpellable old.back → AreSpellable after.back × AsksSpellable next
starts-spell wsize machine turn old next new after small s all =
    both next new after.back (starts-left wsize turn AreSpellable SpellableSave IsSpellable (carries-spells wsize turn small) machine old next new after s all)

pub resumes-spell : (wsize : ℕ) (machine : Machine) (turn : Turn) (old : Shelf) (next : Step) (new : Machine) (after : Shelf)
    → wsize ≤ 65536 → Resumes wsize machine turn old next new after → AreSpellable old.back → AreSpellable after.back × AsksSpellable next
resumes-spell wsize machine turn old next new after small s all =
    both next new after.back (resumes-left wsize turn AreSpellable SpellableSave IsSpellable (carries-spells wsize turn small) machine old next new after s all)

pub takes-spell : (wsize : ℕ) (machine : Machine) (sent turn : Turn) (came : Result Reply Fault) (old : Shelf) (next : Step) (new : Machine) (after : Shelf)
    → wsize ≤ 65536 → Takes wsize machine sent turn came old next new after → AreSpellable old.back → AreSpellable after.back × AsksSpellable next
takes-spell wsize machine sent turn came old next new after small s all =
    both next new after.back
    (takes-left wsize turn AreSpellable SpellableSave IsSpellable (carries-spells wsize turn small) sent came SpellableSave
    (replies-spell wsize sent turn came small) machine old next new after s
    (has-any AreSpellable SpellableSave (λ saving back p. p) machine old.back all))
