-- What each step of a save makes of what is pending and of its call, each step of a put makes of it too.
use Rattle.std.proofs.Common.{◌≡◌, ℕ, Bool, true, false, List, Option, Some, Result, Ok, Err, refl, sym, ap, subst}
use Rattle.world_model.specs.declared.answer.Fault.{Fault}
use Rattle.world_model.specs.declared.answer.Answer.TheVariants as answers
use Rattle.world_model.specs.declared.message.Call.{Call}
use Rattle.world_model.specs.declared.message.Reply.{Reply}
use Rattle.write_back.specs.Files.{Pending}
use Rattle.client_shelf.specs.declared.shelf.Shelf.{Shelf}
use Rattle.client_shelf.specs.declared.turn.Turn.{Turn}
use Rattle.client_shelf.specs.LaneFiles.{is_first}
use Rattle.client_shelf.specs.declared.step.Step.{Step}
use Rattle.client_shelf.specs.declared.step.Step.TheVariants as nexts
use Rattle.file_ops.specs.declared.saving.Saving.{Saving}
use Rattle.file_ops.specs.declared.saving.SavingStep.{SavingStep}
use Rattle.file_ops.specs.declared.saving.SavingStep.TheVariants.{Send, Wait, Ended}
use Rattle.file_ops.specs.declared.opening.OpeningStep.{OpeningStep}
use Rattle.file_ops.specs.declared.opening.OpeningStep.TheVariants as steps
use Rattle.file_ops.specs.declared.write_file.Writing.{Writing}
use Rattle.file_ops.specs.declared.put_file.PutFile.{PutFile}
use Rattle.file_ops.specs.declared.put_file.Putting.{Putting}
use Rattle.file_ops.specs.declared.put_file.Putting.TheVariants as putting
use Rattle.file_ops.specs.Closings.{closed_answer, refusal_of}
use Rattle.file_ops.specs.SlotFiles.{joined}
use Rattle.file_ops.specs.Saves as saves
use Rattle.file_ops.specs.Opening as opening
use Rattle.file_ops.specs.WriteFile as writes
use Rattle.file_ops.specs.PutFile as puts
use Rattle.file_ops.proofs.Walks.{Left, LeftAs, Carries, CarriesReply, given-by, same-pieces, waits-left, done-left, asks-left, WriteHas, write-writes, write-resumes, write-takes}
use Rattle.file_ops.proofs.PlainWalks.{OpeningAsks, go-asks, took-asks, as-left}

-- ---- puts

abbrev pub PutHasIn : (Pending → Type 0) → (Saving → Pending → Type 0) → Putting → Writing → Pending → Type 0
PutHasIn P M putting.Idle write back = P back
PutHasIn P M putting.Opens write back = P back
PutHasIn P M (putting.Adds file) write back = WriteHas P M write back
PutHasIn P M (putting.Saves saving) write back = M saving back

abbrev pub PutHas : (Pending → Type 0) → (Saving → Pending → Type 0) → PutFile → Pending → Type 0
PutHas P M machine back = PutHasIn P M machine.state machine.write.state back

module _ (wsize : ℕ) (turn : Turn) (P : Pending → Type 0) (M : Saving → Pending → Type 0) (Q : Call → Type 0) (w : Carries wsize turn P M Q) where
  put-waits : (next : Step) (new : PutFile) (old after : Shelf) → next ≡ nexts.Wait → after ≡ old → P old.back → LeftAs P (PutHas P M) Q next new after.back
  put-waits next new old after waits same p = waits-left P (PutHas P M) Q next new old.back after.back waits (ap (λ (s : Shelf). s.back) same) p

  put-ends : (lane : ℕ) (file : List ℕ) (refusal : Option Fault) (old : Shelf) (next : Step) (state : Putting) (new : PutFile) (after : Shelf)
      → puts.Ends lane file refusal old next state after → P old.back → LeftAs P (PutHas P M) Q next new after.back
  put-ends lane file refusal old next state new after e p = done-left P (PutHas P M) Q (closed_answer refusal) next new after.back after.back e.next_is refl
      (gives (puts.keeps_refused lane file old.puts old.order) e.back)
    where
      gives : (b : Bool) → puts.GivesUpAlone b refusal file old.opens old.back after.back → P after.back
      gives true g = w.pieces old.back after.back (same-pieces old.back after.back g) p
      gives false g = w.pieces old.back after.back (given-by refusal file old.opens old.back after.back g) p

  put-follows : (gives : SavingStep) (lane : ℕ) (saving : Saving) (old : Shelf) (next : Step) (new : PutFile) (after : Shelf)
      → puts.Follows gives lane saving old next new.state after → Left P M Q gives saving old.back → LeftAs P (PutHas P M) Q next new after.back
  put-follows (Send call) lane saving old next new after f l =
      asks-left P (PutHas P M) Q call next new old.back after.back f.0 (ap (λ (s : Shelf). s.back) f.2)
      (subst (λ (s : Putting). PutHasIn P M s new.write.state old.back) (sym f.1) l.0) l.1
  put-follows Wait lane saving old next new after f l = put-waits next new old after f.0 f.2 l
  put-follows (Ended result) lane saving old next new after f l = put-ends lane saving.file (refusal_of result) old next new.state new after f l

  put-queues : (b : Bool) (lane : ℕ) (saving : Saving) (old : Shelf) (next : Step) (new : PutFile) (after : Shelf)
      → puts.QueuesIf b wsize lane turn saving old next new.state after → P old.back → LeftAs P (PutHas P M) Q next new after.back
  put-queues false lane saving old next new after q p = put-waits next new old after q.next_is q.shelf_is p
  put-queues true lane saving old next new after g p = put-follows g.gives lane g.saved g.gone next new after g.follows
      (w.goes false saving old.back g.gives g.saved g.gone.back g.goes p)

  put-wrote : (told : Step) (written : Writing) (lane : ℕ) (file : List ℕ) (old : Shelf) (next : Step) (new : PutFile) (after : Shelf)
      → puts.AfterWrite told wsize lane file turn old next new.state after
      → new.write.state ≡ written → LeftAs P (WriteHas P M) Q told written old.back → LeftAs P (PutHas P M) Q next new after.back
  put-wrote (nexts.Send call) written lane file old next new after a is l =
      asks-left P (PutHas P M) Q call next new old.back after.back a.0 (ap (λ (s : Shelf). s.back) a.2)
      (subst (λ (s : Putting). PutHasIn P M s new.write.state old.back) (sym a.1) (subst (λ (s : Writing). WriteHas P M s old.back) (sym is) l.0)) l.1
  put-wrote nexts.Wait written lane file old next new after a is l = put-waits next new old after a.0 a.2 l
  put-wrote (nexts.Done (answers.Done value)) written lane file old next new after a is l = put-queues (is_first lane (joined lane file old).order) lane
      (saves.begun file old.seq) (joined lane file old) next new after a l
  put-wrote (nexts.Done (answers.Refused fault)) written lane file old next new after a is l = put-ends lane file (Some fault) old next new.state new after a l

  put-goes : (machine : PutFile) (file : List ℕ) (told : Step) (written : Writing) (mid : Shelf) (next : Step) (new : PutFile) (after : Shelf)
      → puts.WritesOn wsize machine file turn told written mid next new after → LeftAs P (WriteHas P M) Q told written mid.back
      → LeftAs P (PutHas P M) Q next new after.back
  put-goes machine file told written mid next new after g l = put-wrote told written machine.write.lane file mid next new after g.follows
      (ap (λ (m : PutFile). m.write.state) g.machine_is) l

  put-opened : (step : OpeningStep) (machine : PutFile) (old : Shelf) (next : Step) (new : PutFile) (after : Shelf)
      → puts.AfterOpening step wsize machine turn old next new after
      → OpeningAsks turn step → machine.state ≡ putting.Opens → P old.back → LeftAs P (PutHas P M) Q next new after.back
  put-opened (steps.Send call) machine old next new after a asks at p =
      let here : PutHas P M new old.back = subst (λ (m : PutFile). PutHas P M m old.back) (sym a.1)
      (subst (λ (s : Putting). PutHasIn P M s machine.write.state old.back) (sym at) p) in
      let q = asks call refl in
      asks-left P (PutHas P M) Q call next new old.back after.back a.0 (ap (λ (s : Shelf). s.back) a.2) here (w.plain call q.0 q.1)
  put-opened steps.Wait machine old next new after a asks at p = put-waits next new old after a.next_is a.shelf_is p
  put-opened (steps.Ended (Ok file)) machine old next new after a asks at p =
      put-goes machine file a.told a.written a.mid next new after a.goes
      (write-writes wsize turn P M Q w machine.write.lane file machine.write.offset (writes.made_bytes machine.write.text)
      (puts.put_at machine.write.lane file old) a.told a.written a.mid a.writes p)
  put-opened (steps.Ended (Err fault)) machine old next new after a asks at p = done-left P (PutHas P M) Q _ next new old.back after.back a.0
      (ap (λ (s : Shelf). s.back) a.2) p

  pub put-resumes : (at : Putting) (machine : PutFile) (old : Shelf) (next : Step) (new : PutFile) (after : Shelf) → machine.state ≡ at
      → puts.Resumes at wsize machine turn old next new after → P old.back → LeftAs P (PutHas P M) Q next new after.back
  put-resumes putting.Idle machine old next new after at s p = put-waits next new old after s.next_is s.shelf_is p
  put-resumes putting.Opens machine old next new after at s p =
      as-left P (PutHas P M) Q turn (opening.go_next machine.opening turn) next new old.back after.back s.0 (ap (λ (s : Shelf). s.back) s.2)
      (go-asks machine.opening turn (opening.go_next machine.opening turn) refl) w.plain p
      (subst (λ (m : PutFile). PutHas P M m old.back) (sym s.1) (subst (λ (s : Putting). PutHasIn P M s machine.write.state old.back) (sym at) p))
  put-resumes (putting.Adds file) machine old next new after at s p =
      put-goes machine file s.told s.written s.mid next new after s.goes
      (write-resumes wsize turn P M Q w machine.write.state machine.write.lane old s.told s.written s.mid s.resumes p)
  put-resumes (putting.Saves saving) machine old next new after at s p = put-queues (is_first machine.write.lane old.order) machine.write.lane saving old next
      new after s.0 p

  pub put-takes : (sent : Turn) (came : Result Reply Fault) (N : Saving → Pending → Type 0) → CarriesReply wsize sent turn came P N M Q
      → (at : Putting) (machine : PutFile) (old : Shelf) (next : Step) (new : PutFile) (after : Shelf) → machine.state ≡ at
      → puts.Takes at wsize machine sent turn came old next new after
      → PutHasIn P N at machine.write.state old.back → LeftAs P (PutHas P M) Q next new after.back
  put-takes sent came N v putting.Idle machine old next new after at t h = put-waits next new old after t.next_is t.shelf_is h
  put-takes sent came N v putting.Opens machine old next new after at t h =
      put-opened t.step _ t.took next new after t.follows
      (took-asks (opening.may_again machine.opening (opening.told_led machine.opening came)) (opening.opening_again machine.opening sent turn came old.repeats) old.repeats
      machine.opening sent turn (opening.led_on machine.opening turn.now came t.took.attrs old.pages) t.step old.pages t.took.pages refl t.leads)
      at (subst P (sym (ap (λ (s : Shelf). s.back) t.others)) h)
  put-takes sent came N v (putting.Adds file) machine old next new after at t h =
      put-goes machine file t.told t.written t.mid next new after t.goes
      (write-takes wsize turn P M Q w sent came N v machine.write.state machine.write old t.told t.written t.mid t.takes h)
  put-takes sent came N v (putting.Saves saving) machine old next new after at t h =
      let one = t.0 in
      put-follows one.gives machine.write.lane one.saved one.took next new after one.follows
      (v.takes old.repeats saving old.back one.gives one.saved one.took.back one.took.repeats one.takes h)
