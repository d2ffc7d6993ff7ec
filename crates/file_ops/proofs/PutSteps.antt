-- Each step of a put leaves what the next step needs.
use Rattle.std.proofs.Common.{◌≡◌, ◌+◌, ℕ, Bool, true, false, List, Option, Some, Result, Ok, Err, refl, sym, ap, ◌∙◌, inl, inr, subst}
use Rattle.world_model.specs.declared.answer.Fault.{Fault}
use Rattle.world_model.specs.declared.answer.Fault.TheVariants as faults
use Rattle.world_model.specs.declared.answer.Value.{Value}
use Rattle.world_model.specs.declared.answer.Answer.TheVariants as answers
use Rattle.world_model.specs.declared.message.Reply.{Reply}
use Rattle.client_shelf.specs.declared.shelf.Shelf.{Shelf}
use Rattle.client_shelf.specs.declared.turn.Turn.{Turn}
use Rattle.client_shelf.specs.LaneFiles.{left, is_first}
use Rattle.client_shelf.specs.declared.step.Step.{Step}
use Rattle.client_shelf.specs.declared.step.Step.TheVariants as nexts
use Rattle.file_ops.specs.declared.saving.Saving.{Saving}
use Rattle.file_ops.specs.declared.saving.SavingStep.{SavingStep}
use Rattle.file_ops.specs.declared.saving.SavingStep.TheVariants.{Send, Wait, Ended}
use Rattle.file_ops.specs.declared.opening.OpeningStep.{OpeningStep}
use Rattle.file_ops.specs.declared.opening.OpeningStep.TheVariants as steps
use Rattle.file_ops.specs.declared.put_file.PutFile.{PutFile}
use Rattle.file_ops.specs.declared.put_file.Putting.{Putting}
use Rattle.file_ops.specs.declared.put_file.Putting.TheVariants as putting
use Rattle.file_ops.specs.declared.write_file.WriteFile.{WriteFile}
use Rattle.file_ops.specs.declared.write_file.Writing.{Writing}
use Rattle.file_ops.specs.declared.write_file.Writing.TheVariants as writing
use Rattle.file_ops.specs.Adding.{is_full}
use Rattle.file_ops.specs.Closings.{refusal_of}
use Rattle.file_ops.specs.Ready.{IsReady}
use Rattle.file_ops.specs.SlotFiles.{joined}
use Rattle.file_ops.specs.Saves.{begun}
use Rattle.file_ops.specs.WriteFile as writes
use Rattle.file_ops.specs.PutFile as puts
use Rattle.file_ops.proofs.Puts.{room-not, room-makes-not, resumes-not}
use Rattle.file_ops.proofs.Readies.{goes-kept, takes-kept}
use Rattle.file_ops.proofs.SaveEnds.{takes-fewer}
use Rattle.file_ops.proofs.Steps.{shelf-ready, same-ready, add-ready, same-back, gives-by-ready, fewer-ready, kept-on, writes-ready, write-resumes-ready, write-takes-ready}

-- ---- a write that ended well made no call

writes-well : (wsize lane : ℕ) (file : List ℕ) (offset : ℕ) (bytes : List ℕ) (turn : Turn) (shelf : Shelf) (next : Step) (new : Writing) (after : Shelf) (value : Value)
    → writes.Writes wsize lane file offset bytes turn shelf next new after → next ≡ nexts.Done (answers.Done value) → IsReady turn.xid shelf.seq shelf.back → IsReady turn.xid after.seq after.back
writes-well wsize lane file offset bytes turn shelf next new after value w ended r = by (is_full bytes shelf.back) w
  where
    by : (b : Bool) → writes.WritesIf b wsize lane file offset bytes turn shelf next new after → IsReady turn.xid after.seq after.back
    by true w = absurd (room-makes-not wsize lane file turn shelf next new after value w ended)
    by false (inl a) = shelf-ready turn.xid (shelf.seq + 1) after (ap (λ s. s.seq) a.leads.shelf_is) (add-ready turn.xid shelf.seq offset bytes file shelf.back after.back a.adds r)
    by false (inr s) = let no-way : nexts.Done (answers.Refused faults.Memory) ≡ nexts.Done (answers.Done value) = sym s.gives_next ∙ ended in absurd cc

follows-well : (told : SavingStep) (wsize : ℕ) (machine : WriteFile) (file : List ℕ) (saved : Saving) (turn : Turn) (shelf : Shelf) (next : Step) (new : Writing) (after : Shelf) (value : Value)
    → writes.Follows told wsize machine file saved turn shelf next new after → next ≡ nexts.Done (answers.Done value) → (told ≡ Ended (Ok tt) → IsReady turn.xid shelf.seq shelf.back) → IsReady turn.xid after.seq after.back
follows-well (Ended (Ok done)) wsize machine file saved turn shelf next new after value f ended well =
    writes-well wsize machine.lane file machine.offset (writes.made_bytes machine.text) turn (record shelf { order = left machine.lane shelf.order }) next new after value f ended (well refl)
follows-well (Ended (Err fault)) wsize machine file saved turn shelf next new after value f ended well = absurd (room-not (Ended (Err fault)) value next f.gives_next ended)
follows-well (Send call) wsize machine file saved turn shelf next new after value f ended well = absurd (room-not (Send call) value next f.gives_next ended)
follows-well Wait wsize machine file saved turn shelf next new after value f ended well = absurd (room-not Wait value next f.gives_next ended)

takes-well : (at : Writing) (wsize : ℕ) (machine : WriteFile) (sent turn : Turn) (came : Result Reply Fault) (old : Shelf) (next : Step) (new : Writing) (after : Shelf) (value : Value)
    → writes.TakesIn at wsize machine sent turn came old next new after → next ≡ nexts.Done (answers.Done value) → IsReady turn.xid old.seq old.back → IsReady turn.xid after.seq after.back
takes-well writing.Idle wsize machine sent turn came old next new after value t ended r = let no-way : nexts.Wait ≡ nexts.Done (answers.Done value) = sym t.gives_next ∙ ended in absurd cc
takes-well (writing.Room file saving) wsize machine sent turn came old next new after value t ended r =
    follows-well t.told wsize machine file t.saved turn _ next new after value t.follows ended
    (λ well. fewer-ready turn.xid old.seq old.back t.back (takes-fewer wsize sent turn came old.repeats saving old.back t.told t.saved t.back t.repeats t.takes well) r)

-- ---- the put

put-ends : (xid lane : ℕ) (file : List ℕ) (refusal : Option Fault) (old : Shelf) (next : Step) (state : Putting) (new : Shelf) → puts.Ends lane file refusal old next state new → IsReady xid old.seq old.back → IsReady xid new.seq new.back
put-ends xid lane file refusal old next state new e r = shelf-ready xid old.seq new (ap (λ s. s.seq) e.others) (gives (puts.keeps_refused lane file old.puts old.order) e.back)
  where
    gives : (b : Bool) → puts.GivesUpAlone b refusal file old.opens old.back new.back → IsReady xid old.seq new.back
    gives true g = same-back xid old.seq old.back new.back g r
    gives false g = gives-by-ready xid old.seq refusal file old.opens old.back new.back g r

put-follows : (xid : ℕ) (gives : SavingStep) (lane : ℕ) (saving : Saving) (old : Shelf) (next : Step) (state : Putting) (new : Shelf) → puts.Follows gives lane saving old next state new → IsReady xid old.seq old.back → IsReady xid new.seq new.back
put-follows xid (Send call) lane saving old next state new f r = subst (λ s. IsReady xid s.seq s.back) (sym f.2) r
put-follows xid Wait lane saving old next state new f r = subst (λ s. IsReady xid s.seq s.back) (sym f.2) r
put-follows xid (Ended result) lane saving old next state new f r = put-ends xid lane saving.file (refusal_of result) old next state new f r

put-queues : (b : Bool) (wsize lane : ℕ) (turn : Turn) (saving : Saving) (old : Shelf) (next : Step) (state : Putting) (new : Shelf)
    → puts.QueuesIf b wsize lane turn saving old next state new → IsReady turn.xid old.seq old.back → IsReady (turn.xid + 1) new.seq new.back
put-queues false wsize lane turn saving old next state new q r = same-ready turn.xid old new q.shelf_is r
put-queues true wsize lane turn saving old next state new g r =
    put-follows (turn.xid + 1) g.gives lane g.saved g.gone next state new g.follows
    (kept-on turn.xid old.seq old.back g.gone (ap (λ s. s.seq) g.others) (goes-kept wsize turn.xid turn.room false saving old.back g.gives g.saved g.gone.back g.goes) r)

-- what follows a step of the write: where it ended well, the save may make the call of this step
put-wrote : (told : Step) (wsize lane : ℕ) (file : List ℕ) (turn : Turn) (old : Shelf) (next : Step) (state : Putting) (new : Shelf)
    → puts.AfterWrite told wsize lane file turn old next state new → ((value : Value) → told ≡ nexts.Done (answers.Done value) → IsReady turn.xid old.seq old.back) → IsReady (turn.xid + 1) old.seq old.back
    → IsReady (turn.xid + 1) new.seq new.back
put-wrote (nexts.Send call) wsize lane file turn old next state new a well r = subst (λ s. IsReady (turn.xid + 1) s.seq s.back) (sym a.2) r
put-wrote nexts.Wait wsize lane file turn old next state new a well r = subst (λ s. IsReady (turn.xid + 1) s.seq s.back) (sym a.2) r
put-wrote (nexts.Done (answers.Done value)) wsize lane file turn old next state new a well r =
    put-queues (is_first lane (joined lane file old).order) wsize lane turn (begun file old.seq) (joined lane file old) next state new a (well value refl)
put-wrote (nexts.Done (answers.Refused fault)) wsize lane file turn old next state new a well r = put-ends (turn.xid + 1) lane file (Some fault) old next state new a r

put-adds : (wsize : ℕ) (machine : PutFile) (file : List ℕ) (turn : Turn) (old : Shelf) (next : Step) (new : PutFile) (after : Shelf)
    → puts.AddsBytes wsize machine file turn old next new after → IsReady turn.xid old.seq old.back → IsReady (turn.xid + 1) after.seq after.back
put-adds wsize machine file turn old next new after a r =
    let lane = machine.write.lane in
    let bytes = writes.made_bytes machine.write.text in
    put-wrote a.told wsize lane file turn a.mid next new.state after a.goes.follows
    (λ value ended. writes-well wsize lane file machine.write.offset bytes turn (puts.put_at lane file old) a.told a.written a.mid value a.writes ended r)
    (writes-ready wsize lane file machine.write.offset bytes turn (puts.put_at lane file old) a.told a.written a.mid a.writes r)

put-opened : (step : OpeningStep) (wsize : ℕ) (machine : PutFile) (turn : Turn) (old : Shelf) (next : Step) (new : PutFile) (after : Shelf)
    → puts.AfterOpening step wsize machine turn old next new after → IsReady turn.xid old.seq old.back → IsReady (turn.xid + 1) after.seq after.back
put-opened (steps.Send call) wsize machine turn old next new after a r = same-ready turn.xid old after a.2 r
put-opened steps.Wait wsize machine turn old next new after a r = same-ready turn.xid old after a.shelf_is r
put-opened (steps.Ended (Ok file)) wsize machine turn old next new after a r = put-adds wsize machine file turn old next new after a r
put-opened (steps.Ended (Err fault)) wsize machine turn old next new after a r = same-ready turn.xid old after a.2 r

pub put-resumes-ready : (at : Putting) (wsize : ℕ) (machine : PutFile) (turn : Turn) (old : Shelf) (next : Step) (new : PutFile) (after : Shelf)
    → puts.Resumes at wsize machine turn old next new after → IsReady turn.xid old.seq old.back → IsReady (turn.xid + 1) after.seq after.back
put-resumes-ready putting.Idle wsize machine turn old next new after s r = same-ready turn.xid old after s.shelf_is r
put-resumes-ready putting.Opens wsize machine turn old next new after s r = same-ready turn.xid old after s.2 r
put-resumes-ready (putting.Adds file) wsize machine turn old next new after s r =
    put-wrote s.told wsize machine.write.lane file turn s.mid next new.state after s.goes.follows
    (λ value ended. absurd (resumes-not machine.write.state wsize machine.write.lane turn old s.told s.written s.mid s.resumes value ended))
    (write-resumes-ready machine.write.state wsize machine.write.lane turn old s.told s.written s.mid s.resumes r)
put-resumes-ready (putting.Saves saving) wsize machine turn old next new after s r = put-queues (is_first machine.write.lane old.order) wsize machine.write.lane turn saving old next new.state after s.0 r

pub put-takes-ready : (at : Putting) (wsize : ℕ) (machine : PutFile) (sent turn : Turn) (came : Result Reply Fault) (old : Shelf) (next : Step) (new : PutFile) (after : Shelf)
    → puts.Takes at wsize machine sent turn came old next new after → IsReady turn.xid old.seq old.back → IsReady (turn.xid + 1) after.seq after.back
put-takes-ready putting.Idle wsize machine sent turn came old next new after t r = same-ready turn.xid old after t.shelf_is r
put-takes-ready putting.Opens wsize machine sent turn came old next new after t r =
    put-opened t.step wsize _ turn t.took next new after t.follows (subst (λ s. IsReady turn.xid s.seq s.back) (sym t.others) r)
put-takes-ready (putting.Adds file) wsize machine sent turn came old next new after t r =
    put-wrote t.told wsize machine.write.lane file turn t.mid next new.state after t.goes.follows
    (λ value ended. takes-well machine.write.state wsize machine.write sent turn came old t.told t.written t.mid value t.takes ended r)
    (write-takes-ready machine.write.state wsize machine.write sent turn came old t.told t.written t.mid t.takes r)
put-takes-ready (putting.Saves saving) wsize machine sent turn came old next new after t r =
    let one = t.0 in
    put-follows (turn.xid + 1) one.gives machine.write.lane one.saved one.took next new.state after one.follows
    (kept-on turn.xid old.seq old.back one.took (ap (λ s. s.seq) one.others) (takes-kept wsize sent turn came old.repeats saving old.back one.gives one.saved one.took.back one.took.repeats one.takes) r)
