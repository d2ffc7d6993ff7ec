-- A step that takes a refusal gives out no number of a write: no save ends well by it, and no file is opened.
use Rattle.std.proofs.Common.{◌≡◌, ℕ, Bool, true, false, List, Option, Ok, Err, refl, sym, ap, subst, ◌∙◌}
use Rattle.nfs_types.specs.declared.mode.Mode.{Mode}
use Rattle.nfs_types.specs.declared.mode.Mode.TheVariants as modes
use Rattle.attr_cache.specs.Attrs.{Attrs}
use Rattle.page_cache.specs.Pages.{Pages}
use Rattle.world_model.specs.declared.answer.Fault.{Fault}
use Rattle.write_back.specs.Files.{Pending}
use Rattle.client_shelf.specs.declared.repeats.Repeat.{Repeat}
use Rattle.client_shelf.specs.declared.shelf.Shelf.{Shelf}
use Rattle.client_shelf.specs.declared.turn.Turn.{Turn}
use Rattle.client_shelf.specs.declared.step.Step.{Step}
use Rattle.file_ops.specs.declared.judging.WriteTold.TheVariants.{Fails}
use Rattle.file_ops.specs.declared.saving.Saving.{Saving}
use Rattle.file_ops.specs.declared.saving.Phase.{Phase}
use Rattle.file_ops.specs.declared.saving.Phase.TheVariants.{Sending, Committing, Resending, CommittingAgain}
use Rattle.file_ops.specs.declared.saving.SavingStep.{SavingStep}
use Rattle.file_ops.specs.declared.saving.SavingStep.TheVariants.{Send, Wait, Ended}
use Rattle.file_ops.specs.declared.opening.Opening.{Opening}
use Rattle.file_ops.specs.declared.opening.OpeningPhase.{OpeningPhase}
use Rattle.file_ops.specs.declared.opening.OpeningPhase.TheVariants.{Look, Make, Find, Ask}
use Rattle.file_ops.specs.declared.opening.OpeningStep.{OpeningStep}
use Rattle.file_ops.specs.declared.opening.OpeningStep.TheVariants as steps
use Rattle.file_ops.specs.declared.opening.Led.{Led}
use Rattle.file_ops.specs.declared.opening.Led.TheVariants as leads
use Rattle.file_ops.specs.declared.write_file.WriteFile.{WriteFile}
use Rattle.file_ops.specs.declared.write_file.Writing.{Writing}
use Rattle.file_ops.specs.declared.write_file.Writing.TheVariants as writing
use Rattle.file_ops.specs.declared.put_file.PutFile.{PutFile}
use Rattle.file_ops.specs.declared.put_file.Putting.{Putting}
use Rattle.file_ops.specs.declared.put_file.Putting.TheVariants as putting
use Rattle.file_ops.specs.Opening as opening
use Rattle.file_ops.specs.Saves as saves
use Rattle.file_ops.specs.WriteFile as writes
use Rattle.file_ops.specs.PutFile as puts
use Rattle.file_ops.proofs.SaveEnds.{refused-not}
use Rattle.file_ops.proofs.Numbers.{put-wrote, put-follows}

abbrev seq : Shelf → ℕ
seq s = s.seq

-- ---- saves

ended-ill : (fault : Fault) (next : SavingStep) → next ≡ Ended (Err fault) → next ≡ Ended (Ok tt) → ⊥
ended-ill fault next is well = let no-way : Ended (Err fault) ≡ Ended (Ok tt) = sym is ∙ well in absurd cc

asks-on : (s : Saving) (next : SavingStep) → next ≡ Send (saves.commit_of s.file) → next ≡ Ended (Ok tt) → ⊥
asks-on s next is well = let no-way : Send (saves.commit_of s.file) ≡ Ended (Ok tt) = sym is ∙ well in absurd cc

write-ill : (wsize asked xid : ℕ) (room : Bool) (fault : Fault) (s : Saving) (back : Pending) (next : SavingStep) (new : Saving) (after : Pending)
    → saves.TakesWrite wsize asked xid room (Fails fault) s back next new after → next ≡ Ended (Ok tt) → ⊥
write-ill wsize asked xid room fault s back next new after t =
    let goes : saves.Goes wsize xid room t.counts (saves.with_refusal fault s) t.between next new after = subst
    (λ (r : Option Fault). saves.Goes wsize xid room t.counts (saves.refused_by r s) t.between next new after) t.lands.0 t.goes in
    refused-not s.waiting (saves.first_of s.refusal fault) next goes.0.gives_next

first-ill : (again : Bool) (fault : Fault) (wsize : ℕ) (turn : Turn) (s : Saving) (back : Pending) (next : SavingStep) (new : Saving) (after : Pending)
    → saves.TakesFirst again wsize turn (Err fault) s back next new after → next ≡ Ended (Ok tt) → ⊥
first-ill true fault wsize turn s back next new after t = asks-on s next t.0.gives_next
first-ill false fault wsize turn s back next new after t = ended-ill fault next t.0.gives_next

last-ill : (again : Bool) (fault : Fault) (s : Saving) (next : SavingStep) → next ≡ saves.last_next again (Err fault) s → next ≡ Ended (Ok tt) → ⊥
last-ill true fault s next is = asks-on s next is
last-ill false fault s next is = ended-ill fault next is

-- a save that takes a refusal doesn't end well
pub takes-ill : (wsize : ℕ) (sent turn : Turn) (fault : Fault) (repeats : List Repeat) (s : Saving) (back : Pending) (next : SavingStep) (new : Saving)
    (after : Pending) (later : List Repeat)
    → saves.Takes wsize sent turn (Err fault) repeats s back next new after later → next ≡ Ended (Ok tt) → ⊥
takes-ill wsize sent turn fault repeats s back next new after later takes = by s.phase takes
  where
    by : (p : Phase) → saves.TakesIn p wsize sent turn (Err fault) repeats s back next new after later → next ≡ Ended (Ok tt) → ⊥
    by Sending t = write-ill wsize sent.xid turn.xid turn.room fault (saves.less_waiting s) back next new after t.0
    by Resending t = write-ill wsize sent.xid turn.xid turn.room fault (saves.less_waiting s) back next new after t.0
    by Committing t = first-ill (saves.commit_again (Err fault) sent turn repeats s) fault wsize turn s back next new after t.0
    by CommittingAgain t = last-ill (saves.commit_again (Err fault) sent turn repeats s) fault s next t.0.gives_next

-- ---- writes and fills

write-on : (told : SavingStep) (wsize : ℕ) (machine : WriteFile) (file : List ℕ) (saved : Saving) (turn : Turn) (shelf : Shelf) (next : Step) (new : Writing)
    (after : Shelf)
    → (told ≡ Ended (Ok tt) → ⊥) → writes.Follows told wsize machine file saved turn shelf next new after → after.seq ≡ shelf.seq
write-on (Ended (Ok done)) wsize machine file saved turn shelf next new after ill f = absurd (ill refl)
write-on (Ended (Err fault)) wsize machine file saved turn shelf next new after ill f = ap seq f.shelf_is
write-on (Send call) wsize machine file saved turn shelf next new after ill f = ap seq f.shelf_is
write-on Wait wsize machine file saved turn shelf next new after ill f = ap seq f.shelf_is

pub write-refused : (at : Writing) (wsize : ℕ) (machine : WriteFile) (sent turn : Turn) (fault : Fault) (old : Shelf) (next : Step) (new : Writing)
    (after : Shelf)
    → writes.TakesIn at wsize machine sent turn (Err fault) old next new after → after.seq ≡ old.seq
write-refused writing.Idle wsize machine sent turn fault old next new after t = ap seq t.shelf_is
write-refused (writing.Room file saving) wsize machine sent turn fault old next new after t =
    write-on t.told wsize machine file t.saved turn _ next new after (takes-ill wsize sent turn fault old.repeats saving old.back t.told t.saved t.back
    t.repeats t.takes) t.follows

-- ---- puts

pub led-ill : (mode : Mode) (step : OpeningPhase) (fault : Fault) → opening.led_to mode step (Err fault) ≡ leads.Ends fault
led-ill mode Look fault = look mode
  where
    look : (mode : Mode) → opening.led_to mode Look (Err fault) ≡ leads.Ends fault
    look modes.R = refl
    look modes.W = refl
    look modes.RW = refl
    look modes.C = refl
    look modes.X = refl
led-ill mode Make fault = refl
led-ill mode Find fault = refl
led-ill mode (Ask file) fault = refl

pub known-ill : (nocto : Bool) (led : Led) (now : ℕ) (attrs : Attrs) (pages : Pages) (fault : Fault) → led ≡ leads.Ends fault
    → opening.known_by nocto led now attrs pages ≡ leads.Ends fault
known-ill true led now attrs pages fault is = ap (λ (l : Led). opening.known_led l now attrs pages) is
known-ill false led now attrs pages fault is = is

opening-ill : (again : Bool) (o : Opening) (sent turn : Turn) (fault : Fault) (attrs : Attrs) (kept : Pages) (step : OpeningStep) (old new : Pages)
    → opening.LedIf again o sent turn (opening.led_on o turn.now (Err fault) attrs kept) step old new → (file : List ℕ) → step ≡ steps.Ended (Ok file) → ⊥
opening-ill true o sent turn fault attrs kept step old new l file well = let no-way : steps.Send (opening.call_of o o.step) ≡ steps.Ended (Ok file) = sym l.0 ∙ well in absurd cc
opening-ill false o sent turn fault attrs kept step old new l file well =
    let ends = known-ill o.nocto (opening.told_led o (Err fault)) turn.now attrs kept fault (led-ill o.mode o.step fault) in
    let to : opening.LedTo o sent turn (leads.Ends fault) step old new = subst (λ (led : Led). opening.LedTo o sent turn led step old new) ends l in
    let no-way : steps.Ended (Err fault) ≡ steps.Ended (Ok file) = sym to.0 ∙ well in absurd cc

put-opened : (step : OpeningStep) (wsize : ℕ) (machine : PutFile) (turn : Turn) (old : Shelf) (next : Step) (new : PutFile) (after : Shelf)
    → ((file : List ℕ) → step ≡ steps.Ended (Ok file) → ⊥) → puts.AfterOpening step wsize machine turn old next new after → after.seq ≡ old.seq
put-opened (steps.Send call) wsize machine turn old next new after ill a = ap seq a.2
put-opened steps.Wait wsize machine turn old next new after ill a = ap seq a.shelf_is
put-opened (steps.Ended (Ok file)) wsize machine turn old next new after ill a = absurd (ill file refl)
put-opened (steps.Ended (Err fault)) wsize machine turn old next new after ill a = ap seq a.2

pub put-refused : (at : Putting) (wsize : ℕ) (machine : PutFile) (sent turn : Turn) (fault : Fault) (old : Shelf) (next : Step) (new : PutFile) (after : Shelf)
    → puts.Takes at wsize machine sent turn (Err fault) old next new after → after.seq ≡ old.seq
put-refused putting.Idle wsize machine sent turn fault old next new after t = ap seq t.shelf_is
put-refused putting.Opens wsize machine sent turn fault old next new after t =
    put-opened t.step wsize _ turn t.took next new after
    (opening-ill (opening.opening_again machine.opening sent turn (Err fault) old.repeats) machine.opening sent turn fault t.took.attrs old.pages t.step
    old.pages t.took.pages t.leads) t.follows ∙ ap seq t.others
put-refused (putting.Adds file) wsize machine sent turn fault old next new after t =
    put-wrote t.told wsize machine.write.lane file turn t.mid next new.state after t.goes.follows ∙ write-refused machine.write.state wsize machine.write sent
    turn fault old t.told t.written t.mid t.takes
put-refused (putting.Saves saving) wsize machine sent turn fault old next new after t =
    let one = t.0 in put-follows one.gives machine.write.lane one.saved one.took next new.state after one.follows ∙ ap seq one.others
