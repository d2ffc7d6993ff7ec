-- For which calls the write of a put waits: for those of the save that makes room for it.
use Rattle.core_answers.proofs.Prelude.{◌≡◌, ◌+◌, ◌≤◌, ℕ, Bool, true, false, List, Result, Ok, Err, inl, inr, sym, subst, arith, Fault, Call, Reply, left, is_first, Step, Shelf, Turn, Saving, WriteFile, Writing, joined, by-step, ends_as, of_saving, of_writing}
use Rattle.file_ops.proofs.SaveCounts.{SaveCounts, save-takes}
use Rattle.world_model.specs.declared.answer.Answer.TheVariants as answers
use Rattle.world_model.specs.declared.answer.Fault.TheVariants as faults
use Rattle.world_model.specs.declared.answer.Value.TheVariants as values
use Rattle.client_shelf.specs.declared.step.Step.TheVariants as nexts
use Rattle.file_ops.specs.declared.write_file.Writing.TheVariants as writing
use Rattle.file_ops.specs.Saves as saves
use Rattle.file_ops.specs.Syncs as syncs
use Rattle.file_ops.specs.WriteFile as writes
use Rattle.core_answers.proofs.answers.SaveCalls.{SaveCall, CallSo, goes-calls, takes-calls, goes-stay, takes-stay}

abbrev pub WriteCalls : Writing → Call → Type 0
WriteCalls writing.Idle call = Unit {0}
WriteCalls (writing.Room file saving) call = SaveCall saving call

-- what is asked for, and what still waits
abbrev pub AskedBy : Step → (Call → Type 0) → Type 0
AskedBy (nexts.Send call) E = E call
AskedBy nexts.Wait E = Unit {0}
AskedBy (nexts.Done answer) E = Unit {0}

abbrev pub KeptBy : ℕ → (Call → Type 0) → Step → (Call → Type 0) → Type 0
KeptBy others D (nexts.Send call) E = 1 ≤ others → (c : Call) → D c → E c
KeptBy others D nexts.Wait E = 1 ≤ others → (c : Call) → D c → E c
KeptBy others D (nexts.Done answer) E = Unit {0}

pub record CallStep (others : ℕ) (D : Call → Type 0) (next : Step) (E : Call → Type 0) : Type 0 where
  pub asked : AskedBy next E
  pub kept : KeptBy others D next E

module _ (others : ℕ) (D : Call → Type 0) where
  abbrev pub WriteStep : Step → Writing → Type 0
  WriteStep next state = CallStep others D next (WriteCalls state)

  leads-write : (to : Step) (state : Writing) (shelf : Shelf) (next : Step) (new : Writing) (after : Shelf) → writes.Leads to state shelf next new after → WriteStep to state
      → WriteStep next new
  leads-write to state shelf next new after l s = subst (λ (n : Step). WriteStep n new) (sym l.gives_next) (subst (λ (w : Writing). WriteStep to w) (sym l.keeps) s)

  waits-write : (state : Writing) → (1 ≤ others → (c : Call) → D c → WriteCalls state c) → WriteStep nexts.Wait state
  waits-write state k = record { asked = tt; kept = k }

  done-write : (answer : _) (state : Writing) → WriteStep (nexts.Done answer) state
  done-write answer state = record { asked = tt; kept = tt }

  room-write : (told : _) (file : List ℕ) (saved : Saving) → CallSo (syncs.sync_next told) saved → (1 ≤ others → (c : Call) → D c → SaveCall saved c)
      → WriteStep (writes.room_next told) (writes.room_state told file saved)
  room-write told file saved f k = by-step
      (λ g. CallSo (syncs.sync_next g) saved → WriteStep (writes.room_next g) (writes.room_state g file saved))
      (λ call a. record { asked = a; kept = k }) (λ a. record { asked = tt; kept = k }) ended told f
    where
      ended : (result : Result (Unit {0}) Fault) → CallSo (syncs.sync_next (ends_as result)) saved → WriteStep (writes.room_next (ends_as result)) (writes.room_state (ends_as result) file saved)
      ended (Ok nothing) a = record { asked = tt; kept = k }
      ended (Err fault) a = record { asked = tt; kept = tt }

  saves-if : (b : Bool) (wsize lane : ℕ) (file : List ℕ) (saving : Saving) (turn : Turn) (shelf : Shelf) (next : Step) (new : Writing) (after : Shelf) → others ≡ of_saving saving
      → (1 ≤ others → (c : Call) → D c → SaveCall saving c) → writes.SavesIf b wsize lane file saving turn shelf next new after → WriteStep next new
  saves-if true wsize lane file saving turn shelf next new after count k s =
      leads-write (writes.room_next s.told) (writes.room_state s.told file s.saved) _ next new after s.leads
      (room-write s.told file s.saved (goes-calls wsize turn.xid turn.room false saving shelf.back s.told s.saved s.back s.goes)
      (λ some c d. goes-stay wsize turn.xid turn.room false saving shelf.back s.told s.saved s.back s.goes (omega (arith, some, count)) c (k some c d)))
  saves-if false wsize lane file saving turn shelf next new after count k s =
      leads-write nexts.Wait (writing.Room file saving) shelf next new after s (waits-write (writing.Room file saving) k)

  refuses-write : (fault : Fault) (shelf : Shelf) (next : Step) (new : Writing) (after : Shelf) → writes.Refuses fault shelf next new after → WriteStep next new
  refuses-write fault shelf next new after l = leads-write (nexts.Done (answers.Refused fault)) writing.Idle shelf next new after l (done-write _ writing.Idle)

  writes-if : (b : Bool) (wsize lane : ℕ) (file : List ℕ) (offset : ℕ) (bytes : List ℕ) (turn : Turn) (shelf : Shelf) (next : Step) (new : Writing) (after : Shelf) → others ≡ 0
      → writes.WritesIf b wsize lane file offset bytes turn shelf next new after → WriteStep next new
  writes-if true wsize lane file offset bytes turn shelf next new after none (inl s) =
      saves-if (is_first lane (joined lane s.of shelf).order) wsize lane file (saves.begun s.of shelf.seq) turn (joined lane s.of shelf) next new after none
      (λ some. absurd (omega (arith, none, some))) s.saves
  writes-if true wsize lane file offset bytes turn shelf next new after none (inr s) = refuses-write faults.Memory shelf next new after s.1
  writes-if false wsize lane file offset bytes turn shelf next new after none (inl s) =
      leads-write (nexts.Done (answers.Done values.Nothing)) writing.Idle _ next new after s.leads (done-write _ writing.Idle)
  writes-if false wsize lane file offset bytes turn shelf next new after none (inr s) = refuses-write faults.Memory shelf next new after s

  pub writes-calls : (wsize lane : ℕ) (file : List ℕ) (offset : ℕ) (bytes : List ℕ) (turn : Turn) (shelf : Shelf) (next : Step) (new : Writing) (after : Shelf) → others ≡ 0
      → writes.Writes wsize lane file offset bytes turn shelf next new after → WriteStep next new
  writes-calls wsize lane file offset bytes turn shelf next new after none w = writes-if _ wsize lane file offset bytes turn shelf next new after none w

  pub resumes-calls : (at : Writing) (wsize lane : ℕ) (turn : Turn) (shelf : Shelf) (next : Step) (new : Writing) (after : Shelf) → others ≡ of_writing at
      → ((c : Call) → D c → WriteCalls at c) → writes.ResumesIn at wsize lane turn shelf next new after → WriteStep next new
  resumes-calls writing.Idle wsize lane turn shelf next new after count k r =
      leads-write nexts.Wait writing.Idle shelf next new after r (waits-write writing.Idle (λ some c d. tt))
  resumes-calls (writing.Room file saving) wsize lane turn shelf next new after count k r =
      saves-if (is_first lane shelf.order) wsize lane file saving turn shelf next new after count (λ some. k) r

  follows-calls : (told : _) (wsize : ℕ) (m : WriteFile) (file : List ℕ) (saved : Saving) (turn : Turn) (shelf : Shelf) (next : Step) (new : Writing) (after : Shelf)
      → SaveCounts told others (of_saving saved) → CallSo (syncs.sync_next told) saved → (1 ≤ others → (c : Call) → D c → SaveCall saved c)
      → writes.Follows told wsize m file saved turn shelf next new after → WriteStep next new
  follows-calls told wsize m file saved turn shelf next new after c a k f = by-step
      (λ g. SaveCounts g others (of_saving saved) → CallSo (syncs.sync_next g) saved → writes.Follows g wsize m file saved turn shelf next new after → WriteStep next new)
      (λ call n s l. leads-write (nexts.Send call) (writing.Room file saved) shelf next new after l (record { asked = s; kept = k }))
      (λ n s l. leads-write nexts.Wait (writing.Room file saved) shelf next new after l (record { asked = tt; kept = k }))
      ended told c a f
    where
      ended : (result : Result (Unit {0}) Fault) → (others ≡ 0) × (of_saving saved ≡ 0) → CallSo (syncs.sync_next (ends_as result)) saved
          → writes.Follows (ends_as result) wsize m file saved turn shelf next new after → WriteStep next new
      ended (Ok nothing) n s l = writes-calls wsize m.lane file m.offset (writes.made_bytes m.text) turn (record shelf { order = left m.lane shelf.order }) next new after n.0 l
      ended (Err fault) n s l =
          leads-write (nexts.Done (answers.Refused fault)) writing.Idle (record shelf { order = left m.lane shelf.order }) next new after l (done-write _ writing.Idle)

  pub took-calls : (at : Writing) (wsize : ℕ) (m : WriteFile) (sent turn : Turn) (came : Result Reply Fault) (shelf : Shelf) (next : Step) (new : Writing) (after : Shelf)
      → of_writing at ≡ others + 1 → ((c : Call) → D c → WriteCalls at c) → writes.TakesIn at wsize m sent turn came shelf next new after → WriteStep next new
  took-calls writing.Idle wsize m sent turn came shelf next new after one k t = absurd (omega (arith, one))
  took-calls (writing.Room file saving) wsize m sent turn came shelf next new after one k t =
      follows-calls t.told wsize m file t.saved turn _ next new after
      (save-takes wsize sent turn came shelf.repeats saving shelf.back t.told t.saved t.back t.repeats others one t.takes)
      (takes-calls wsize sent turn came shelf.repeats saving shelf.back t.told t.saved t.back t.repeats t.takes)
      (λ some c d. takes-stay wsize sent turn came shelf.repeats saving shelf.back t.told t.saved t.back t.repeats others one t.takes some c (k c d)) t.follows
