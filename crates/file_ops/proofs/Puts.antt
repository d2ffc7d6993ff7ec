-- Once the bytes of a write are pending, nothing is in flight under an xid if nothing was.
use Rattle.std.proofs.Common.{◌≡◌, ◌≢◌, ◌+◌, ◌⊎◌, inl, inr, ℕ, Bool, true, false, List, [], ◌∷◌, Result, Ok, Err, None, refl, sym, ap, ◌∙◌, subst}
use Rattle.world_model.specs.declared.answer.Fault.{Fault}
use Rattle.world_model.specs.declared.answer.Fault.TheVariants as faults
use Rattle.world_model.specs.declared.answer.Value.{Value}
use Rattle.world_model.specs.declared.answer.Answer.TheVariants.{Done as done, Refused as refused}
use Rattle.world_model.specs.declared.message.Reply.{Reply}
use Rattle.client_shelf.specs.declared.turn.Turn.{Turn}
use Rattle.client_shelf.specs.declared.shelf.Shelf.{Shelf}
use Rattle.client_shelf.specs.LaneFiles.{left, is_first}
use Rattle.write_back.specs.Pieces.{FilePending, piece_under}
use Rattle.write_back.specs.Files.{Pending, of_file, OnFile, with_bytes}
use Rattle.write_back.proofs.WritesByFile.{same-or}
use Rattle.client_shelf.specs.declared.step.Step.{Step}
use Rattle.client_shelf.specs.declared.step.Step.TheVariants.{Send, Wait, Done}
use Rattle.file_ops.specs.declared.saving.Saving.{Saving}
use Rattle.file_ops.specs.declared.saving.SavingStep.{SavingStep}
use Rattle.file_ops.specs.declared.saving.SavingStep.TheVariants as save
use Rattle.file_ops.specs.declared.write_file.WriteFile.{WriteFile}
use Rattle.file_ops.specs.declared.write_file.Writing.{Writing}
use Rattle.file_ops.specs.declared.write_file.Writing.TheVariants.{Idle, Room}
use Rattle.file_ops.specs.Adding.{is_full}
use Rattle.file_ops.specs.SlotFiles.{IsUnused, joined}
use Rattle.file_ops.specs.Saves.{begun}
use Rattle.file_ops.specs.WriteFile.{room_next, SavesIf, MakesRoom, WritesIf, Writes, Follows, TakesIn, ResumesIn, made_bytes}
use Rattle.file_ops.specs.declared.put_file.PutFile.{PutFile}
use Rattle.file_ops.specs.PutFile.{AfterWrite, WritesOn}
use Rattle.file_ops.proofs.Fewer.{fewer-unused}
use Rattle.file_ops.proofs.SaveEnds.{takes-fewer}

bytes-unused : (xid offset : ℕ) (bytes : List ℕ) (number : ℕ) (of : FilePending) → piece_under xid of.pieces ≡ None → piece_under xid (with_bytes offset bytes number of).pieces ≡ None
bytes-unused xid offset [] number of h = h
bytes-unused xid offset (b ∷ bs) number of h = h

added-unused : (xid offset : ℕ) (bytes : List ℕ) (number : ℕ) (file : List ℕ) (old new : Pending) → OnFile old new file (with_bytes offset bytes number (of_file file old)) → IsUnused xid old → IsUnused xid new
added-unused xid offset bytes number file old new on unused other = by (same-or file other)
  where
    by : (other ≡ file) ⊎ (other ≢ file) → piece_under xid (of_file other new).pieces ≡ None
    by (inl same) = subst (λ f. piece_under xid (of_file f new).pieces ≡ None) (sym same)
        (subst (λ v. piece_under xid v.pieces ≡ None) (sym on.here) (bytes-unused xid offset bytes number (of_file file old) (unused file)))
    by (inr apart) = subst (λ v. piece_under xid v.pieces ≡ None) (sym (on.others other apart)) (unused other)

-- a step of the save for room is no good end
pub room-not : (told : SavingStep) (value : Value) (next : Step) → next ≡ room_next told → next ≡ Done (done value) → ⊥
room-not (save.Send call) value next is ended = let no-way : Send call ≡ Done (done value) = sym is ∙ ended in absurd cc
room-not save.Wait value next is ended = let no-way : Wait ≡ Done (done value) = sym is ∙ ended in absurd cc
room-not (save.Ended (Ok nothing)) value next is ended = let no-way : Wait ≡ Done (done value) = sym is ∙ ended in absurd cc
room-not (save.Ended (Err fault)) value next is ended = let no-way : Done (refused fault) ≡ Done (done value) = sym is ∙ ended in absurd cc

saves-not : (first : Bool) (wsize lane : ℕ) (file : List ℕ) (saving : Saving) (turn : Turn) (shelf : Shelf) (next : Step) (new : Writing) (after : Shelf) (value : Value)
    → SavesIf first wsize lane file saving turn shelf next new after → next ≡ Done (done value) → ⊥
saves-not true wsize lane file saving turn shelf next new after value s ended = room-not s.told value next s.leads.gives_next ended
saves-not false wsize lane file saving turn shelf next new after value s ended = let no-way : Wait ≡ Done (done value) = sym s.gives_next ∙ ended in absurd cc

pub room-makes-not : (wsize lane : ℕ) (file : List ℕ) (turn : Turn) (shelf : Shelf) (next : Step) (new : Writing) (after : Shelf) (value : Value)
    → MakesRoom wsize lane file turn shelf next new after → next ≡ Done (done value) → ⊥
room-makes-not wsize lane file turn shelf next new after value (inl s) ended =
    saves-not (is_first lane (joined lane s.of shelf).order) wsize lane file (begun s.of shelf.seq) turn (joined lane s.of shelf) next new after value s.saves ended
room-makes-not wsize lane file turn shelf next new after value (inr s) ended = let no-way : Done (refused faults.Memory) ≡ Done (done value) = sym s.1.gives_next ∙ ended in absurd cc

pub writes-unused : (wsize lane : ℕ) (file : List ℕ) (offset : ℕ) (bytes : List ℕ) (turn : Turn) (shelf : Shelf) (next : Step) (new : Writing) (after : Shelf)
    → Writes wsize lane file offset bytes turn shelf next new after → IsUnused turn.xid shelf.back → (value : Value) → next ≡ Done (done value) → IsUnused turn.xid after.back
writes-unused wsize lane file offset bytes turn shelf next new after w unused value ended = by (is_full bytes shelf.back) w
  where
    by : (b : Bool) → WritesIf b wsize lane file offset bytes turn shelf next new after → IsUnused turn.xid after.back
    by true w = absurd (room-makes-not wsize lane file turn shelf next new after value w ended)
    by false (inl w) = added-unused turn.xid offset bytes (shelf.seq + 1) file shelf.back after.back w.adds unused
    by false (inr w) = let no-way : Done (refused faults.Memory) ≡ Done (done value) = sym w.gives_next ∙ ended in absurd cc

follows-unused : (told : SavingStep) (wsize : ℕ) (machine : WriteFile) (file : List ℕ) (saved : Saving) (turn : Turn) (shelf : Shelf) (next : Step) (new : Writing) (after : Shelf)
    → Follows told wsize machine file saved turn shelf next new after → (told ≡ save.Ended (Ok tt) → IsUnused turn.xid shelf.back) → (value : Value) → next ≡ Done (done value) → IsUnused turn.xid after.back
follows-unused (save.Ended (Ok nothing)) wsize machine file saved turn shelf next new after f unused value ended =
    writes-unused wsize machine.lane file machine.offset (made_bytes machine.text) turn (record shelf { order = left machine.lane shelf.order }) next new after f (unused refl) value ended
follows-unused (save.Ended (Err fault)) wsize machine file saved turn shelf next new after f unused value ended = absurd (room-not (save.Ended (Err fault)) value next f.gives_next ended)
follows-unused (save.Send call) wsize machine file saved turn shelf next new after f unused value ended = absurd (room-not (save.Send call) value next f.gives_next ended)
follows-unused save.Wait wsize machine file saved turn shelf next new after f unused value ended = absurd (room-not save.Wait value next f.gives_next ended)

pub takes-unused : (state : Writing) (wsize : ℕ) (machine : WriteFile) (sent turn : Turn) (came : Result Reply Fault) (shelf : Shelf) (next : Step) (new : Writing) (after : Shelf)
    → TakesIn state wsize machine sent turn came shelf next new after → IsUnused turn.xid shelf.back → (value : Value) → next ≡ Done (done value) → IsUnused turn.xid after.back
takes-unused Idle wsize machine sent turn came shelf next new after t unused value ended = let no-way : Wait ≡ Done (done value) = sym t.gives_next ∙ ended in absurd cc
takes-unused (Room file saving) wsize machine sent turn came shelf next new after t unused value ended =
    follows-unused t.told wsize machine file t.saved turn _ next new after t.follows
    (λ well. fewer-unused turn.xid shelf.back t.back (takes-fewer wsize sent turn came shelf.repeats saving shelf.back t.told t.saved t.back t.repeats t.takes well) unused) value ended

pub resumes-not : (state : Writing) (wsize lane : ℕ) (turn : Turn) (shelf : Shelf) (next : Step) (new : Writing) (after : Shelf)
    → ResumesIn state wsize lane turn shelf next new after → (value : Value) → next ≡ Done (done value) → ⊥
resumes-not Idle wsize lane turn shelf next new after r value ended = let no-way : Wait ≡ Done (done value) = sym r.gives_next ∙ ended in absurd cc
resumes-not (Room file saving) wsize lane turn shelf next new after r value ended = saves-not (is_first lane shelf.order) wsize lane file saving turn shelf next new after value r ended

pub resumes-unused : (state : Writing) (wsize lane : ℕ) (turn : Turn) (shelf : Shelf) (next : Step) (new : Writing) (after : Shelf)
    → ResumesIn state wsize lane turn shelf next new after → (value : Value) → next ≡ Done (done value) → IsUnused turn.xid after.back
resumes-unused Idle wsize lane turn shelf next new after r value ended = let no-way : Wait ≡ Done (done value) = sym r.gives_next ∙ ended in absurd cc
resumes-unused (Room file saving) wsize lane turn shelf next new after r value ended =
    absurd (saves-not (is_first lane shelf.order) wsize lane file saving turn shelf next new after value r ended)

-- what a step of the write makes of the put
pub writes-on : (wsize : ℕ) (machine : PutFile) (file : List ℕ) (turn : Turn) (told : Step) (write : WriteFile) (mid : Shelf) (next : Step) (new : PutFile) (after : Shelf)
    → write ≡ record machine.write { state = write.state } → AfterWrite told wsize write.lane file turn mid next new.state after → new ≡ record machine { write = write; state = new.state }
    → WritesOn wsize machine file turn told write.state mid next new after
writes-on wsize machine file turn told write mid next new after kept follows is = record {
  follows = subst (λ lane. AfterWrite told wsize lane file turn mid next new.state after) (ap (λ w. w.lane) kept) follows;
  machine_is = is ∙ ap (λ w. record machine { write = w; state = new.state }) kept;
}
