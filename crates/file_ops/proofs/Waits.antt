-- A close, a put, an open, a read or a truncate that no reply made possible to go on, and that waits, changes nothing where there is
-- room for a call.
use Rattle.std.proofs.Common.{◌≡◌, ℕ, ◌&&◌, ◌+◌, ◌/◌, Bool, true, false, List, Option, Some, None, refl, sym, ap, ◌∙◌, subst}
use Rattle.std.specs.Prelude.{if◌then◌else◌}
use Rattle.world_model.specs.declared.answer.Fault.{Fault}
use Rattle.world_model.specs.declared.answer.Answer.{Answer}
use Rattle.world_model.specs.declared.answer.Answer.TheVariants as answers
use Rattle.world_model.specs.declared.answer.Value.TheVariants as values
use Rattle.write_back.specs.Segments.{last_end}
use Rattle.write_back.specs.Files.{Pending, of_file}
use Rattle.page_cache.specs.Pages.{Pages}
use Rattle.client_shelf.specs.declared.shelf.Shelf.{Shelf}
use Rattle.client_shelf.specs.declared.turn.Turn.{Turn}
use Rattle.client_shelf.specs.LaneFiles.{is_first}
use Rattle.client_shelf.specs.declared.step.Step.{Step}
use Rattle.client_shelf.specs.declared.step.Step.TheVariants as nexts
use Rattle.file_ops.specs.declared.saving.Saving.{Saving}
use Rattle.file_ops.specs.declared.saving.SavingStep.{SavingStep}
use Rattle.file_ops.specs.declared.saving.SavingStep.TheVariants.{Send, Wait, Ended}
use Rattle.file_ops.specs.declared.close_file.CloseFile.{CloseFile}
use Rattle.file_ops.specs.declared.close_file.Closing.{Closing}
use Rattle.file_ops.specs.declared.close_file.Closing.TheVariants as closing
use Rattle.file_ops.specs.declared.put_file.PutFile.{PutFile}
use Rattle.file_ops.specs.declared.put_file.Putting.{Putting}
use Rattle.file_ops.specs.declared.put_file.Putting.TheVariants as putting
use Rattle.file_ops.specs.declared.write_file.Writing.{Writing}
use Rattle.file_ops.specs.declared.open_file.OpenFile.{OpenFile}
use Rattle.file_ops.specs.declared.truncate_file.TruncateFile.{TruncateFile}
use Rattle.file_ops.specs.declared.truncate_file.Truncating.{Truncating}
use Rattle.file_ops.specs.declared.truncate_file.Truncating.TheVariants as truncating
use Rattle.file_ops.specs.declared.read_file.ReadFile.{ReadFile}
use Rattle.file_ops.specs.declared.reading.Reading.{Reading}
use Rattle.file_ops.specs.declared.reading.Phase.{Phase}
use Rattle.file_ops.specs.declared.reading.Phase.TheVariants as phases
use Rattle.file_ops.specs.declared.gather.Found.{Found}
use Rattle.file_ops.specs.declared.gather.Found.TheVariants as found
use Rattle.file_ops.specs.Saves.{Goes}
use Rattle.file_ops.specs.Closings.{closed_answer, refusal_of, remove_of}
use Rattle.file_ops.specs.Closes as closes
use Rattle.file_ops.specs.PutFile as puts
use Rattle.file_ops.specs.WriteFile.{ResumesIn}
use Rattle.file_ops.specs.Opening as opening
use Rattle.file_ops.specs.OpenFile.{goes_as, gone}
use Rattle.file_ops.specs.TruncateFile as truncates
use Rattle.file_ops.specs.Gather.{gathered}
use Rattle.file_ops.specs.Reading as reads
use Rattle.file_ops.specs.ReadFile as files
use Rattle.file_ops.proofs.Stills.{StaysSo, goes-still, write-still}
use Rattle.file_ops.proofs.Puts.{resumes-not}

-- ---- closes

done-not : {A : Type 0} → (answer : Answer) (next : Step) → next ≡ nexts.Done answer → next ≡ nexts.Wait → A
done-not answer next is waits = let no-way : nexts.Done answer ≡ nexts.Wait = sym is ∙ waits in absurd cc

ends-at : (place : Option (List ℕ × List ℕ)) (lane : ℕ) (file : List ℕ) (refusal : Option Fault) (old : Shelf) (next : Step) (state : Closing) (new : Shelf)
    → closes.EndsAt place lane true file refusal old next state new → next ≡ nexts.Wait → ⊥
ends-at None lane file refusal old next state new e waits = done-not (closed_answer refusal) next e.next_is waits
ends-at (Some place) lane file refusal old next state new e waits = let no-way : nexts.Send (remove_of (record { file = file; dir = place.0; name = place.1; refusal = refusal })) ≡ nexts.Wait = sym e.next_is ∙ waits in absurd cc

close-on : (gives : SavingStep) (wsize lane slot : ℕ) (turn : Turn) (begun : Bool) (saving saved : Saving) (old gone : Shelf) (next : Step) (state : Closing) (new : Shelf)
    → turn.room ≡ true → Goes wsize turn.xid turn.room false saving old.back gives saved gone.back → gone ≡ record old { back = gone.back }
    → closes.Follows gives lane slot turn.room begun saved gone next state new → next ≡ nexts.Wait → StaysSo (closes.waits_as begun saving) state old new
close-on (Send call) wsize lane slot turn begun saving saved old gone next state new room goes others f ends = let no-way : nexts.Send call ≡ nexts.Wait = sym f.0 ∙ ends in absurd cc
close-on (Ended result) wsize lane slot turn begun saving saved old gone next state new room goes others f ends =
    absurd (ends-at f.place lane saved.file (refusal_of result) f.freed next state new (subst (λ b. closes.EndsAt f.place lane b saved.file (refusal_of result) f.freed next state new) room f.ends) ends)
close-on Wait wsize lane slot turn begun saving saved old gone next state new room goes others f ends =
    let still = goes-still wsize turn.xid turn.room saving old.back Wait saved gone.back goes refl in
    (f.1 ∙ ap (λ s. closes.waits_as begun s) still.0, f.2 ∙ others ∙ ap (λ b. record old { back = b }) still.1)

close-begins : (end : Option ℕ) (wsize lane slot : ℕ) (turn : Turn) (saving : Saving) (old : Shelf) (next : Step) (state : Closing) (new : Shelf)
    → turn.room ≡ true → closes.Begins end wsize lane slot turn saving old next state new → next ≡ nexts.Wait → StaysSo (closing.Queued saving) state old new
close-begins None wsize lane slot turn saving old next state new room b waits =
    absurd (ends-at b.place lane saving.file None b.freed next state new (subst (λ r. closes.EndsAt b.place lane r saving.file None b.freed next state new) room b.ends) waits)
close-begins (Some end) wsize lane slot turn saving old next state new room b waits =
    close-on b.gives wsize lane slot turn false saving b.saved old b.gone next state new room b.goes b.others b.follows waits

pub close-still : (at : Closing) (wsize : ℕ) (machine : CloseFile) (turn : Turn) (old : Shelf) (next : Step) (state : Closing) (new : Shelf)
    → turn.room ≡ true → closes.Resumes at wsize machine turn old next state new → next ≡ nexts.Wait → StaysSo at state old new
close-still closing.Idle wsize machine turn old next state new room r waits = (r.state_is, r.shelf_is)
close-still (closing.Queued saving) wsize machine turn old next state new room r waits = by (is_first machine.lane old.order) r
  where
    by : (b : Bool) → closes.QueuesIf b wsize machine.lane machine.slot turn saving old next state new → StaysSo (closing.Queued saving) state old new
    by true q = close-begins (last_end (of_file saving.file old.back).segments) wsize machine.lane machine.slot turn saving old next state new room q waits
    by false q = (q.state_is, q.shelf_is)
close-still (closing.Saves saving) wsize machine turn old next state new room r waits = by (is_first machine.lane old.order) r
  where
    by : (b : Bool) → closes.GoesOnIf b wsize machine.lane machine.slot turn saving old next state new → StaysSo (closing.Saves saving) state old new
    by true g = close-on g.gives wsize machine.lane machine.slot turn true saving g.saved old g.gone next state new room g.goes g.others g.follows waits
    by false q = (q.state_is, q.shelf_is)
close-still (closing.ToRemove removal) wsize machine turn old next state new room r waits =
    let asks : next ≡ closes.ask_next true removal = subst (λ b. next ≡ closes.ask_next b removal) room r.next_is in
    let no-way : nexts.Send (remove_of removal) ≡ nexts.Wait = sym asks ∙ waits in absurd cc
close-still (closing.Removing removal) wsize machine turn old next state new room r waits = (r.state_is, r.shelf_is)

-- ---- puts

put-on : (gives : SavingStep) (wsize lane : ℕ) (turn : Turn) (saving saved : Saving) (old gone : Shelf) (next : Step) (state : Putting) (new : Shelf)
    → Goes wsize turn.xid turn.room false saving old.back gives saved gone.back → gone ≡ record old { back = gone.back }
    → puts.Follows gives lane saved gone next state new → next ≡ nexts.Wait → StaysSo (putting.Saves saving) state old new
put-on (Send call) wsize lane turn saving saved old gone next state new goes others f waits = let no-way : nexts.Send call ≡ nexts.Wait = sym f.0 ∙ waits in absurd cc
put-on (Ended result) wsize lane turn saving saved old gone next state new goes others f waits = done-not (closed_answer (refusal_of result)) next f.next_is waits
put-on Wait wsize lane turn saving saved old gone next state new goes others f waits =
    let still = goes-still wsize turn.xid turn.room saving old.back Wait saved gone.back goes refl in
    (f.1 ∙ ap (λ s. putting.Saves s) still.0, f.2 ∙ others ∙ ap (λ b. record old { back = b }) still.1)

put-queues : (wsize lane : ℕ) (turn : Turn) (saving : Saving) (old : Shelf) (next : Step) (state : Putting) (new : Shelf)
    → puts.Queues wsize lane turn saving old next state new → next ≡ nexts.Wait → StaysSo (putting.Saves saving) state old new
put-queues wsize lane turn saving old next state new q waits = by (is_first lane old.order) q
  where
    by : (b : Bool) → puts.QueuesIf b wsize lane turn saving old next state new → StaysSo (putting.Saves saving) state old new
    by true g = put-on g.gives wsize lane turn saving g.saved old g.gone next state new g.goes g.others g.follows waits
    by false w = (w.state_is, w.shelf_is)

put-room : (told : Step) (wsize : ℕ) (machine : PutFile) (file : List ℕ) (turn : Turn) (written : Writing) (old mid : Shelf) (next : Step) (new : PutFile) (after : Shelf)
    → machine.state ≡ putting.Adds file → ResumesIn machine.write.state wsize machine.write.lane turn old told written mid
    → puts.WritesOn wsize machine file turn told written mid next new after → next ≡ nexts.Wait → StaysSo machine new old after
put-room (nexts.Send call) wsize machine file turn written old mid next new after at r g waits = let no-way : nexts.Send call ≡ nexts.Wait = sym g.follows.0 ∙ waits in absurd cc
put-room (nexts.Done (answers.Done value)) wsize machine file turn written old mid next new after at r g waits =
    absurd (resumes-not machine.write.state wsize machine.write.lane turn old (nexts.Done (answers.Done value)) written mid r value refl)
put-room (nexts.Done (answers.Refused fault)) wsize machine file turn written old mid next new after at r g waits = done-not (closed_answer (Some fault)) next g.follows.next_is waits
put-room nexts.Wait wsize machine file turn written old mid next new after at r g waits =
    let still = write-still machine.write.state wsize machine.write.lane turn old nexts.Wait written mid r refl in
    (g.machine_is ∙ ap (λ w. record machine { write = record machine.write { state = w }; state = new.state }) still.0 ∙ ap (λ s. record machine { state = s }) (g.follows.1 ∙ sym at), g.follows.2 ∙ still.1)

pub put-still : (at : Putting) (wsize : ℕ) (machine : PutFile) (turn : Turn) (old : Shelf) (next : Step) (new : PutFile) (after : Shelf)
    → machine.state ≡ at → puts.Resumes at wsize machine turn old next new after → next ≡ nexts.Wait → StaysSo machine new old after
put-still putting.Idle wsize machine turn old next new after is r waits = (r.machine_is, r.shelf_is)
put-still putting.Opens wsize machine turn old next new after is r waits = by (opening.waits machine.opening turn) refl
  where
    by : (b : Bool) → opening.waits machine.opening turn ≡ b → StaysSo machine new old after
    by true h = let same : new ≡ machine = (rw h at r.1) in (same, r.2)
    by false h = let sends : next ≡ nexts.Send (opening.call_of machine.opening machine.opening.step) = (rw h at r.0) in let no-way : nexts.Send (opening.call_of machine.opening machine.opening.step) ≡ nexts.Wait = sym sends ∙ waits in absurd cc
put-still (putting.Adds file) wsize machine turn old next new after is r waits = put-room r.told wsize machine file turn r.written old r.mid next new after is r.resumes r.goes waits
put-still (putting.Saves saving) wsize machine turn old next new after is r waits =
    let still = put-queues wsize machine.write.lane turn saving old next new.state after r.0 waits in
    (r.1 ∙ ap (λ s. record machine { state = s }) (still.0 ∙ sym is), still.1)

-- ---- opens

pub open-still : (machine : OpenFile) (turn : Turn) (next : Step) (new : OpenFile) → next ≡ goes_as (opening.go_next machine.opening turn) → new ≡ gone machine turn → next ≡ nexts.Wait → new ≡ machine
open-still machine turn next new is keeps waits = by (opening.waits machine.opening turn) refl
  where
    by : (b : Bool) → opening.waits machine.opening turn ≡ b → new ≡ machine
    by true h = (rw h at keeps)
    by false h = let sends : next ≡ nexts.Send (opening.call_of machine.opening machine.opening.step) = (rw h at is) in let no-way : nexts.Send (opening.call_of machine.opening machine.opening.step) ≡ nexts.Wait = sym sends ∙ waits in absurd cc

-- ---- truncates

pub truncate-still : (at : Truncating) (machine : TruncateFile) (turn : Turn) (old : Shelf) (next : Step) → next ≡ truncates.resumed_next at machine turn old → next ≡ nexts.Wait → truncates.resumed_state at machine turn old ≡ at
truncate-still truncating.Idle machine turn old next is waits = refl
truncate-still (truncating.Asked file upto) machine turn old next is waits = refl
truncate-still (truncating.Queued file upto) machine turn old next is waits = by (truncates.may_ask machine.lane file turn old) refl
  where
    by : (b : Bool) → truncates.may_ask machine.lane file turn old ≡ b → truncates.queued_state machine file upto turn old ≡ truncating.Queued file upto
    by true h = let sends : next ≡ nexts.Send (truncates.size_call file machine.size) = (rw h at is) in let no-way : nexts.Send (truncates.size_call file machine.size) ≡ nexts.Wait = sym sends ∙ waits in absurd cc
    by false h = rw h refl

-- ---- reads

read-from : (phase : Phase) (s : reads.State) (back : Pending) (next : Step) → s.reading.phase ≡ phase → reads.wants phase ≡ true → reads.Goes true back s next → next ≡ nexts.Wait → ⊥
read-from phase s back next is wants goes waits =
    let asks : reads.wants s.reading.phase ≡ true = ap (λ p. reads.wants p) is ∙ wants in
    let sends : next ≡ nexts.Send (reads.asked_call s) = (rw asks at goes) in
    let no-way : nexts.Send (reads.asked_call s) ≡ nexts.Wait = sym sends ∙ waits in absurd cc

ended-waits : (s : reads.State) (back : Pending) (next : Step) → s.reading.phase ≡ phases.Ended → reads.Goes true back s next → next ≡ nexts.Wait → ⊥
ended-waits s back next ended goes waits = let shows : next ≡ reads.shown_next (reads.answer_of s.reading back) = (rw ended at goes) in done-not (answers.Done (values.Bytes (reads.answer_of s.reading back))) next shows waits

found-waits : (f : Found) (s : reads.State) (back : Pending) (next : Step) → s.reading.phase ≡ reads.phase_of f → reads.Goes true back s next → next ≡ nexts.Wait → ⊥
found-waits found.Wanted s back next is goes waits = read-from phases.Pages s back next is refl goes waits
found-waits found.Page s back next is goes waits = ended-waits s back next is goes waits
found-waits found.Ended s back next is goes waits = ended-waits s back next is goes waits

-- a read that has made its call
asked-still : (phase : Phase) (m : ReadFile) (reading : Reading) (pages : Pages) (new : ReadFile) (later : Pages)
    → reading.phase ≡ phase → reads.wants phase ≡ false → reads.answered phase reading ≡ reading → m.reading ≡ Some reading
    → new ≡ record m { reading = Some (reads.gone true (record { reading = reading; pages = pages })).reading } → later ≡ (reads.gone true (record { reading = reading; pages = pages })).pages
    → (new ≡ m) × (later ≡ pages)
asked-still phase m reading pages new later is wants same at machine kept =
    (machine ∙ ap (λ s. record m { reading = Some s.reading }) still ∙ ap (λ r. record m { reading = r }) (sym at), kept ∙ ap (λ s. s.pages) still)
  where
    still : reads.gone true (record { reading = reading; pages = pages }) ≡ record { reading = reading; pages = pages }
    still =
        ap (λ b. if true && b then reads.asked (record { reading = reading; pages = pages }) else record { reading = reads.answered reading.phase reading; pages = pages }) (ap (λ p. reads.wants p) is ∙ wants)
        ∙ ap (λ r. record { reading = r; pages = pages }) (ap (λ p. reads.answered p reading) is ∙ same)

pub read-still : (at : Option Reading) (m : ReadFile) (pages : Pages) (back : Pending) (next : Step) (new : ReadFile) (later : Pages)
    → m.reading ≡ at → files.ResumesIn at true m pages back next new later → next ≡ nexts.Wait → (new ≡ m) × (later ≡ pages)
read-still None m pages back next new later at r waits = (r.machine, r.kept)
read-still (Some reading) m pages back next new later at r waits = by reading.phase refl r
  where
    by : (p : Phase) → reading.phase ≡ p → files.GoesFrom true m back (reads.settled_in p reading pages) next new later → (new ≡ m) × (later ≡ pages)
    by phases.Attrs is g = absurd (read-from phases.Attrs (record { reading = reading; pages = pages }) back next is refl g.step waits)
    by phases.AskedAttrs is g = asked-still phases.AskedAttrs m reading pages new later is refl refl at g.machine g.kept
    by phases.Pages is g = absurd (found-waits (gathered reading.file (reading.base.limit / 4096 + 1) reading.base pages).found (reads.settled_in phases.Pages reading pages) back next refl g.step waits)
    by phases.Rest is g = absurd (read-from phases.Rest (record { reading = reading; pages = pages }) back next is refl g.step waits)
    by (phases.Asked count) is g = asked-still (phases.Asked count) m reading pages new later is refl refl at g.machine g.kept
    by phases.Ended is g = absurd (ended-waits (record { reading = reading; pages = pages }) back next is g.step waits)
