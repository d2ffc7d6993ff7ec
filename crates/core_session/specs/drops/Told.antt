-- What is shown of closes and puts that give up what is pending of a file: the theorems' statements (a rule of this client: NFS version 3 has no closes, RFC
-- 1813, section 1.5).
use Rattle.std.specs.Prelude.{◌≡◌, ◌⊎◌, ◌≤◌, ℕ, false, true, List, [], ◌∷◌, ◌++◌, length, Some, None, slice_get}
use Rattle.open_files.specs.Slots.{IsOpen}
use Rattle.world_model.specs.declared.answer.Answer.{Answer}
use Rattle.world_model.specs.declared.answer.Answer.TheVariants as answers
use Rattle.world_model.specs.declared.answer.Fault.{Fault}
use Rattle.world_model.specs.declared.answer.Value.{Value}
use Rattle.world_model.specs.declared.entry.Entry.{Entry}
use Rattle.world_model.specs.declared.entry.Entry.TheVariants.{Began}
use Rattle.world_model.specs.declared.op.Op.{Op}
use Rattle.world_model.specs.declared.op.Op.TheVariants as ops
use Rattle.claims.specs.Slots.{InSlot}
use Rattle.claims.specs.Terms.{Terms}
use Rattle.client_shelf.specs.LaneFiles.{is_first}
use Rattle.file_ops.specs.declared.close_file.CloseFile.{CloseFile}
use Rattle.file_ops.specs.declared.closing.Removal.{Removal}
use Rattle.file_ops.specs.declared.put_file.PutFile.{PutFile}
use Rattle.file_ops.specs.declared.put_file.Putting.TheVariants as puttings
use Rattle.file_ops.specs.declared.saving.Saving.{Saving}
use Rattle.file_ops.specs.declared.write_file.WriteFile.{WriteFile}
use Rattle.file_ops.specs.SlotFiles.{file_at}
use Rattle.op_machines.specs.declared.begun.Mounted.{Mounted}
use Rattle.op_machines.specs.declared.file_machine.FileMachine.TheVariants as files
use Rattle.op_machines.specs.declared.machine.Machine.TheVariants as machines
use Rattle.op_machines.specs.Begun.{machine_of}
use Rattle.client_core.specs.declared.lane.State.{State}
use Rattle.client_core.specs.declared.lane.State.TheVariants.{Busy, Over}
use Rattle.client_core.specs.declared.setup.Setup.{Setup}
use Rattle.client_core.specs.Numbers.{IsIdle}
use Rattle.client_core.specs.Steps.{counted, StartsLane, AnswersAt}
use Rattle.client_core.specs.View.{View}
use Rattle.core_facts.specs.Reaches.{StepsTo, MayHear}
use Rattle.core_facts.specs.SlotAnswers.{GoesWith}
use Rattle.core_session.specs.drops.Dropped.{IsOwed, WasLeft, IsDropped}
use Rattle.core_session.specs.drops.Guarded.{file_in, save_in, removal_in, IsGuarded}
use Rattle.core_session.specs.drops.LaneSteps.{LaneStep}

-- ---- slots

-- Of each history that the core goes with: a slot of a lane holds one file.
abbrev pub SlotsHoldOneFile : Type 0
SlotsHoldOneFile = (m : Mounted) (terms : Terms) (setup : Setup) (h : List Entry) (v : View) → GoesWith m terms setup h v → (n lane slot a b : ℕ) (f g : List ℕ)
    → InSlot terms.modes h n lane slot a f → InSlot terms.modes h n lane slot b g → f ≡ g

-- ---- closes that are refused

-- a lane's state, before and after
pub record Turned (old new : View) (at n : ℕ) (was state : State) : Type 0 where
  pub before : slice_get old.lanes at ≡ Some (record { number = n; state = was })
  pub after : slice_get new.lanes at ≡ Some (record { number = n; state = state })

-- A close of the file is refused in a step, or as it begins, and no slot holds the file then: its answer is owed.
pub record RefusedOwes (m : Mounted) (terms : Terms) (setup : Setup) (h : List Entry) (v : View) : Type 0 where
  pub goes : (g : List Entry) (w : View) → LaneStep (machine_of m) h v g w → (at n : ℕ) (c : CloseFile) (fault : Fault) (f : List ℕ)
      → Turned v w at n (Busy (machines.File (files.Close c))) (Over (answers.Refused fault)) → file_in c.state ≡ Some f → (IsOpen w.shelf.opens f → ⊥)
      → IsOwed terms.modes (length g) g w f
  pub begins : (lane line slot now : ℕ) (w : View) (fault : Fault) (f : List ℕ) → IsIdle lane v.lanes
      → StartsLane (counted v now) lane (machine_of m lane (ops.Close slot)) w → file_at lane slot v.shelf.opens ≡ Some f
      → w.lanes ≡ v.lanes ++ record { number = lane; state = Over (answers.Refused fault) } ∷ [] → (IsOpen w.shelf.opens f → ⊥)
      → IsOwed terms.modes (length (h ++ Began lane line (ops.Close slot) ∷ [])) (h ++ Began lane line (ops.Close slot) ∷ []) w f

abbrev pub RefusedClosesAreOwed : Type 0
RefusedClosesAreOwed = (m : Mounted) (terms : Terms) (setup : Setup) (h : List Entry) (v : View) → GoesWith m terms setup h v → v.lost ≡ false
    → RefusedOwes m terms setup h v

-- Until the answers are noted they are owed. Once they are, and before a record comes, the history shows that the last close left the file. It shows, too,
-- that its answer, or one that was noted just before, was a refusal.
pub record OwedLeaves (m : Mounted) (terms : Terms) (setup : Setup) (h : List Entry) (v : View) : Type 0 where
  pub stays : (e : Entry) (w : View) → StepsTo (machine_of m) h v e w → w.lost ≡ false → (from : ℕ) (f : List ℕ) → IsDropped terms.modes from h v f
      → IsDropped terms.modes from (h ++ e ∷ []) w f
  pub left : MayHear v → (from : ℕ) (f : List ℕ) → IsDropped terms.modes from h v f → (WasLeft terms.modes from h f → ⊥) → ⊥

abbrev pub OwedClosesLeave : Type 0
OwedClosesLeave = (m : Mounted) (terms : Terms) (setup : Setup) (h : List Entry) (v : View) → GoesWith m terms setup h v → v.lost ≡ false
    → OwedLeaves m terms setup h v

-- ---- what guards a byte

-- A close of the file saved what came with the number, and its save ended well; or it was refused, and no slot holds the file.
pub data LetsGo (number : ℕ) (f : List ℕ) (old new : View) : Type 0 where
  saved : (at n : ℕ) (c : CloseFile) (save : Saving) (value : Value) → Turned old new at n (Busy (machines.File (files.Close c))) (Over (answers.Done value))
      → save_in c.state ≡ Some save → save.file ≡ f → number ≤ save.upto → LetsGo number f old new
  removes : (at n : ℕ) (c d : CloseFile) (save : Saving) (removal : Removal)
      → Turned old new at n (Busy (machines.File (files.Close c))) (Busy (machines.File (files.Close d))) → save_in c.state ≡ Some save → save.file ≡ f
      → number ≤ save.upto → removal_in d.state ≡ Some removal → removal.refusal ≡ None → LetsGo number f old new
  gave : (at n : ℕ) (c : CloseFile) (fault : Fault) → Turned old new at n (Busy (machines.File (files.Close c))) (Over (answers.Refused fault))
      → file_in c.state ≡ Some f → (IsOpen new.shelf.opens f → ⊥) → LetsGo number f old new

-- The operation that begins is a close of a slot that held the file. By this it ends in its first step, or is past its sync.
pub data BeginsWell (lane : ℕ) (op : Op) (f : List ℕ) (old new : View) : Type 0 where
  begun_saved : (slot : ℕ) (value : Value) → op ≡ ops.Close slot → file_at lane slot old.shelf.opens ≡ Some f
      → new.lanes ≡ old.lanes ++ record { number = lane; state = Over (answers.Done value) } ∷ [] → BeginsWell lane op f old new
  begun_removes : (slot : ℕ) (d : CloseFile) (removal : Removal) → op ≡ ops.Close slot → file_at lane slot old.shelf.opens ≡ Some f
      → new.lanes ≡ old.lanes ++ record { number = lane; state = Busy (machines.File (files.Close d)) } ∷ [] → removal_in d.state ≡ Some removal
      → removal.refusal ≡ None → BeginsWell lane op f old new
  begun_gave : (slot : ℕ) (fault : Fault) → op ≡ ops.Close slot → file_at lane slot old.shelf.opens ≡ Some f
      → new.lanes ≡ old.lanes ++ record { number = lane; state = Over (answers.Refused fault) } ∷ [] → (IsOpen new.shelf.opens f → ⊥)
      → BeginsWell lane op f old new

-- What a write adds is guarded: its slot holds the file. Through a step a byte stays guarded until it is let go. What is guarded no put is first to give up: a
-- slot holds its file, or a close of it, which is no put, is the first in the order of the file.
pub record KeepsGuards (m : Mounted) (terms : Terms) (setup : Setup) (h : List Entry) (v : View) : Type 0 where
  pub goes : (g : List Entry) (w : View) → LaneStep (machine_of m) h v g w → (number : ℕ) (f : List ℕ) → IsGuarded number v f
      → IsGuarded number w f ⊎ LetsGo number f v w
  pub begins : (lane now : ℕ) (op : Op) (w : View) → IsIdle lane v.lanes → StartsLane (counted v now) lane (machine_of m lane op) w → (number : ℕ)
      → number ≤ v.shelf.seq → (f : List ℕ) → IsGuarded number v f → IsGuarded number w f ⊎ BeginsWell lane op f v w
  pub noted : (at lane : ℕ) (answer : Answer) (w : View) → AnswersAt v at lane (Some answer) w → (number : ℕ) (f : List ℕ) → IsGuarded number v f
      → IsGuarded number w f
  pub writes : (number : ℕ) (f : List ℕ) (at n : ℕ) (w : WriteFile)
      → slice_get v.lanes at ≡ Some (record { number = n; state = Busy (machines.File (files.Write w)) })
      → file_at n w.slot v.shelf.opens ≡ Some f → IsGuarded number v f
  pub puts : (number : ℕ) (f : List ℕ) → IsGuarded number v f → (IsOpen v.shelf.opens f → ⊥) → (at n : ℕ) (p : PutFile) (save : Saving)
      → slice_get v.lanes at ≡ Some (record { number = n; state = Busy (machines.File (files.Put p)) }) → p.state ≡ puttings.Saves save → save.file ≡ f
      → is_first n v.shelf.order ≡ true → ⊥

abbrev pub GuardsAreKept : Type 0
GuardsAreKept = (m : Mounted) (terms : Terms) (setup : Setup) (h : List Entry) (v : View) → GoesWith m terms setup h v → v.lost ≡ false
    → KeepsGuards m terms setup h v
