-- Which faults a step of a write gives, as of a save, where a call isn't made again.
use Rattle.core_session.proofs.Prelude.{ℕ, Bool, true, false, List, Result, Ok, Err, inl, inr, sym, subst, Fault, Reply, left, is_first, Step, Shelf, Turn, Pending, Saving, WriteFile, Writing, joined, by-step, ends_as, Repeat, FineNext, fine-as, CallFaults}
use Rattle.world_model.specs.declared.answer.Answer.TheVariants as answers
use Rattle.world_model.specs.declared.answer.Fault.TheVariants as faults
use Rattle.world_model.specs.declared.answer.Value.TheVariants as values
use Rattle.client_shelf.specs.declared.step.Step.TheVariants as nexts
use Rattle.file_ops.specs.declared.write_file.Writing.TheVariants as writing
use Rattle.file_ops.specs.Saves as saves
use Rattle.file_ops.specs.Syncs as syncs
use Rattle.file_ops.specs.WriteFile as writes
use Rattle.core_session.proofs.delays.Times.{Times, AgainWrite}
use Rattle.core_session.proofs.delays.SaveSteps.{FineSave, SaveFine, FitsSave, begun-save, goes-fine, takes-fine}

module _ (P : Fault → Type 0) (own : CallFaults P) (times : Times) where
  abbrev pub FineWriting : Writing → Type 0
  FineWriting writing.Idle = Unit {0}
  FineWriting (writing.Room file saving) = FineSave P own times saving

  abbrev pub WriteFine : Step → Writing → Type 0
  WriteFine next state = FineNext P next × FineWriting state

  leads-write : (to : Step) (state : Writing) (shelf : Shelf) (next : Step) (new : Writing) (after : Shelf) → writes.Leads to state shelf next new after → WriteFine to state → WriteFine next new
  leads-write to state shelf next new after l f = (fine-as P to next l.gives_next f.0, subst FineWriting (sym l.keeps) f.1)

  room-write : (told : _) (file : List ℕ) (saved : Saving) → SaveFine P own times (syncs.sync_next told) saved → WriteFine (writes.room_next told) (writes.room_state told file saved)
  room-write told file saved f = by-step
      (λ g. SaveFine P own times (syncs.sync_next g) saved → WriteFine (writes.room_next g) (writes.room_state g file saved))
      (λ call k. (tt, k.1)) (λ k. (tt, k.1)) ended told f
    where
      ended : (result : Result (Unit {0}) Fault) → SaveFine P own times (syncs.sync_next (ends_as result)) saved → WriteFine (writes.room_next (ends_as result)) (writes.room_state (ends_as result) file saved)
      ended (Ok nothing) k = (tt, k.1)
      ended (Err fault) k = (k.0, tt)

  saves-if : (b : Bool) (wsize lane : ℕ) (file : List ℕ) (saving : Saving) (turn : Turn) (shelf : Shelf) (next : Step) (new : Writing) (after : Shelf) → FineSave P own times saving
      → writes.SavesIf b wsize lane file saving turn shelf next new after → WriteFine next new
  saves-if true wsize lane file saving turn shelf next new after f s =
      leads-write (writes.room_next s.told) (writes.room_state s.told file s.saved) _ next new after s.leads
      (room-write s.told file s.saved (goes-fine P own times wsize turn.xid turn.room false saving shelf.back s.told s.saved s.back f s.goes))
  saves-if false wsize lane file saving turn shelf next new after f s = leads-write nexts.Wait (writing.Room file saving) shelf next new after s (tt, f)

  refuses-write : (fault : Fault) (shelf : Shelf) (next : Step) (new : Writing) (after : Shelf) → P fault → writes.Refuses fault shelf next new after → WriteFine next new
  refuses-write fault shelf next new after n l = leads-write (nexts.Done (answers.Refused fault)) writing.Idle shelf next new after l (n, tt)

  writes-if : (b : Bool) (wsize lane : ℕ) (file : List ℕ) (offset : ℕ) (bytes : List ℕ) (turn : Turn) (shelf : Shelf) (next : Step) (new : Writing) (after : Shelf)
      → writes.WritesIf b wsize lane file offset bytes turn shelf next new after → WriteFine next new
  writes-if true wsize lane file offset bytes turn shelf next new after (inl s) =
      saves-if (is_first lane (joined lane s.of shelf).order) wsize lane file (saves.begun s.of shelf.seq) turn (joined lane s.of shelf) next new after (begun-save P own times s.of shelf.seq) s.saves
  writes-if true wsize lane file offset bytes turn shelf next new after (inr s) = refuses-write faults.Memory shelf next new after own.memory s.1
  writes-if false wsize lane file offset bytes turn shelf next new after (inl s) = leads-write (nexts.Done (answers.Done values.Nothing)) writing.Idle _ next new after s.leads (tt, tt)
  writes-if false wsize lane file offset bytes turn shelf next new after (inr s) = refuses-write faults.Memory shelf next new after own.memory s

  pub writes-fine : (wsize lane : ℕ) (file : List ℕ) (offset : ℕ) (bytes : List ℕ) (turn : Turn) (shelf : Shelf) (next : Step) (new : Writing) (after : Shelf)
      → writes.Writes wsize lane file offset bytes turn shelf next new after → WriteFine next new
  writes-fine wsize lane file offset bytes turn shelf next new after w = writes-if _ wsize lane file offset bytes turn shelf next new after w

  pub write-resumes : (at : Writing) (wsize lane : ℕ) (turn : Turn) (shelf : Shelf) (next : Step) (new : Writing) (after : Shelf) → FineWriting at
      → writes.ResumesIn at wsize lane turn shelf next new after → WriteFine next new
  write-resumes writing.Idle wsize lane turn shelf next new after f r = leads-write nexts.Wait writing.Idle shelf next new after r (tt, tt)
  write-resumes (writing.Room file saving) wsize lane turn shelf next new after f r = saves-if (is_first lane shelf.order) wsize lane file saving turn shelf next new after f r

  follows-write : (told : _) (wsize : ℕ) (m : WriteFile) (file : List ℕ) (saved : Saving) (turn : Turn) (shelf : Shelf) (next : Step) (new : Writing) (after : Shelf)
      → SaveFine P own times (syncs.sync_next told) saved → writes.Follows told wsize m file saved turn shelf next new after → WriteFine next new
  follows-write told wsize m file saved turn shelf next new after c f = by-step
      (λ g. SaveFine P own times (syncs.sync_next g) saved → writes.Follows g wsize m file saved turn shelf next new after → WriteFine next new)
      (λ call k l. leads-write (nexts.Send call) (writing.Room file saved) shelf next new after l (tt, k.1))
      (λ k l. leads-write nexts.Wait (writing.Room file saved) shelf next new after l (tt, k.1))
      ended told c f
    where
      ended : (result : Result (Unit {0}) Fault) → SaveFine P own times (syncs.sync_next (ends_as result)) saved → writes.Follows (ends_as result) wsize m file saved turn shelf next new after → WriteFine next new
      ended (Ok nothing) k l = writes-fine wsize m.lane file m.offset (writes.made_bytes m.text) turn (record shelf { order = left m.lane shelf.order }) next new after l
      ended (Err fault) k l = leads-write (nexts.Done (answers.Refused fault)) writing.Idle (record shelf { order = left m.lane shelf.order }) next new after l (k.0, tt)

  -- as of its save
  abbrev pub FitsWrite : Turn → Turn → Result Reply Fault → List Repeat → Writing → Pending → Type 0
  FitsWrite sent turn came repeats writing.Idle back = Unit {0}
  FitsWrite sent turn came repeats (writing.Room file saving) back = FitsSave P own times sent turn came repeats saving back

  pub write-takes : (at : Writing) (wsize : ℕ) (m : WriteFile) (sent turn : Turn) (came : Result Reply Fault) (shelf : Shelf) (next : Step) (new : Writing) (after : Shelf)
      → FitsWrite sent turn came shelf.repeats at shelf.back → FineWriting at → AgainWrite times sent turn came shelf.repeats at → writes.TakesIn at wsize m sent turn came shelf next new after → WriteFine next new
  write-takes writing.Idle wsize m sent turn came shelf next new after n f more t = leads-write nexts.Wait writing.Idle shelf next new after t (tt, tt)
  write-takes (writing.Room file saving) wsize m sent turn came shelf next new after n f more t =
      follows-write t.told wsize m file t.saved turn _ next new after
      (takes-fine P own times wsize sent turn came shelf.repeats saving shelf.back t.told t.saved t.back t.repeats n f more t.takes) t.follows
