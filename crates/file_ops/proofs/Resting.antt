-- Operations on files that wait for their turn, or for calls of their own: a step that no reply made possible does nothing.
use Rattle.std.proofs.Common.{◌≡◌, ℕ, ◌==◌, ◌&&◌, ◌||◌, Bool, true, false, not, List, [], ◌∷◌, Option, Some, None, Ok, refl, sym, ap, subst, ◌∙◌, inl, arith}
use Rattle.std.specs.Prelude.{nat_lt, if◌then◌else◌}
use Rattle.std.specs.Bool.{OnTrue}
use Rattle.std.proofs.lemmas.Bool.{ne_eqb, ltb-true}
use Rattle.world_model.specs.declared.answer.Fault.{Fault}
use Rattle.page_cache.specs.Pages.{Pages}
use Rattle.write_back.specs.Segments.{Segments}
use Rattle.write_back.specs.Choice.{chosen, NoneGo}
use Rattle.write_back.specs.Files.{Pending, of_file}
use Rattle.client_shelf.specs.declared.shelf.Shelf.{Shelf}
use Rattle.client_shelf.specs.declared.turn.Turn.{Turn}
use Rattle.client_shelf.specs.declared.step.Step.TheVariants as nexts
use Rattle.client_shelf.specs.LaneFiles.{is_first}
use Rattle.file_ops.specs.declared.close_file.CloseFile.{CloseFile}
use Rattle.file_ops.specs.declared.close_file.Closing.{Closing}
use Rattle.file_ops.specs.declared.close_file.Closing.TheVariants as closing
use Rattle.file_ops.specs.declared.closing.Removal.{Removal}
use Rattle.file_ops.specs.declared.opening.Opening.{Opening}
use Rattle.file_ops.specs.declared.opening.OpeningStep.TheVariants as opening_steps
use Rattle.file_ops.specs.declared.put_file.PutFile.{PutFile}
use Rattle.file_ops.specs.declared.put_file.Putting.{Putting}
use Rattle.file_ops.specs.declared.put_file.Putting.TheVariants as putting
use Rattle.file_ops.specs.declared.read_file.ReadFile.{ReadFile}
use Rattle.file_ops.specs.declared.reading.Phase.{Phase}
use Rattle.file_ops.specs.declared.reading.Phase.TheVariants as phases
use Rattle.file_ops.specs.declared.reading.Reading.{Reading}
use Rattle.file_ops.specs.declared.saving.Saving.{Saving}
use Rattle.file_ops.specs.declared.saving.SavingStep.TheVariants.{Wait}
use Rattle.file_ops.specs.declared.sync_file.SyncFile.{SyncFile}
use Rattle.file_ops.specs.declared.sync_file.Syncing.{Syncing}
use Rattle.file_ops.specs.declared.sync_file.Syncing.TheVariants as syncing
use Rattle.file_ops.specs.declared.write_file.Writing.{Writing}
use Rattle.file_ops.specs.declared.write_file.Writing.TheVariants as writing
use Rattle.file_ops.specs.Closes as closes
use Rattle.file_ops.specs.Opening as openings
use Rattle.file_ops.specs.OpenFile as opens
use Rattle.file_ops.specs.PutFile as puts
use Rattle.file_ops.specs.ReadFile as reads
use Rattle.file_ops.specs.Reading.{settled, has_asked}
use Rattle.file_ops.specs.Rests.{SaveRests, TurnRests, SyncRests, WriteRests, CloseRests, PutRests, ReadRests}
use Rattle.file_ops.specs.Saves.{GoesOver, SendsIf, Sends, is_sending, may_send, next_sent, saving_sent}
use Rattle.file_ops.specs.Syncs as syncs
use Rattle.file_ops.specs.WriteFile as writes

-- ---- saves

-- one that was refused waits for its calls
pub refused-rests : (s : Saving) (back : Pending) (fault : Fault) (b : Bool) → s.refusal ≡ Some fault → b ≡ nat_lt 0 s.waiting → OnTrue b (SaveRests s back)
refused-rests s back fault false is waits = tt
refused-rests s back fault true is waits =
    let some : (s.waiting == 0) ≡ false = ne_eqb s.waiting 0 (λ same. absurd (let more = ltb-true 0 s.waiting (sym waits) in omega (arith, more, same))) in
    λ wsize xid room. subst (λ (r : Option Fault). GoesOver r wsize xid room false s back Wait s back) (sym is) (record { gives_next = rw some refl; keeps = refl }, refl)

over-none : (wsize xid : ℕ) (room : Bool) (s : Saving) (back : Pending) → s.refusal ≡ None → GoesOver None wsize xid room false s back Wait s back → GoesOver s.refusal wsize xid room false s back Wait s back
over-none wsize xid room s back is goes = subst (λ (r : Option Fault). GoesOver r wsize xid room false s back Wait s back) (sym is) goes

-- one that may not send though there is room
pub unsending-rests : (s : Saving) (back : Pending) → s.refusal ≡ None → may_send true s ≡ false → SaveRests s back
unsending-rests s back is may = λ wsize xid room. over-none wsize xid room s back is (by wsize xid room)
  where
    waits : (wsize xid : ℕ) (b : Bool) → b ≡ false → SendsIf b xid false (chosen s.upto wsize (of_file s.file back)) s back Wait s back
    waits wsize xid true h = absurd cc
    waits wsize xid false h = (record { gives_next = refl; keeps = refl }, refl)

    by : (wsize xid : ℕ) (room : Bool) → SendsIf (may_send room s) xid false (chosen s.upto wsize (of_file s.file back)) s back Wait s back
    by wsize xid true = waits wsize xid (may_send true s) may
    by wsize xid false = waits wsize xid (may_send false s) refl

-- one that has calls waiting and nothing to send
pub sent-rests : (s : Saving) (back : Pending) (b : Bool) → s.refusal ≡ None → nat_lt 0 s.waiting ≡ true → OnTrue b (NoneGo s.upto (of_file s.file back)) → OnTrue b (SaveRests s back)
sent-rests s back false is waits none = tt
sent-rests s back true is waits none = λ wsize xid room. over-none wsize xid room s back is (by wsize xid (may_send room s))
  where
    leads : (xid : ℕ) → Sends xid false [] s back Wait s back
    leads xid = inl (record { gives_next = rw waits refl; keeps = rw waits refl }, refl)

    by : (wsize xid : ℕ) (may : Bool) → SendsIf may xid false (chosen s.upto wsize (of_file s.file back)) s back Wait s back
    by wsize xid true = subst (λ (run : Segments). Sends xid false run s back Wait s back) (sym (none wsize)) (leads xid)
    by wsize xid false = (record { gives_next = refl; keeps = refl }, refl)

-- one whose turn has come, or has not
pub first-rests : (lane : ℕ) (s : Saving) (shelf : Shelf) (b : Bool) → OnTrue b (SaveRests s shelf.back) → OnTrue b (TurnRests lane s shelf)
first-rests lane s shelf false rests = tt
first-rests lane s shelf true rests = by (is_first lane shelf.order)
  where
    by : (first : Bool) → OnTrue first (SaveRests s shelf.back)
    by true = rests
    by false = tt

pub later-rests : (lane : ℕ) (s : Saving) (shelf : Shelf) → is_first lane shelf.order ≡ false → TurnRests lane s shelf
later-rests lane s shelf later = subst (λ (first : Bool). OnTrue first (SaveRests s shelf.back)) (sym later) tt

-- ---- syncs and writes

sync-queues : (first : Bool) (wsize lane : ℕ) (turn : Turn) (saving : Saving) (shelf : Shelf) → OnTrue first (SaveRests saving shelf.back)
    → syncs.QueuesIf first wsize lane turn saving shelf nexts.Wait (syncing.Saves saving) shelf
sync-queues true wsize lane turn saving shelf rests = record {
  gives = Wait;
  saved = saving;
  goes = rests wsize turn.xid turn.room;
  follows = record { next_is = refl; state_is = refl; order_is = refl };
  others = refl;
}
sync-queues false wsize lane turn saving shelf rests = record { next_is = refl; state_is = refl; shelf_is = refl }

pub sync-rests : (m : SyncFile) (saving : Saving) (shelf : Shelf) (b : Bool) → m.state ≡ syncing.Saves saving → OnTrue b (TurnRests m.lane saving shelf) → OnTrue b (SyncRests m shelf)
sync-rests m saving shelf false is rests = tt
sync-rests m saving shelf true is rests = λ wsize turn.
    subst (λ (state : Syncing). syncs.Resumes state wsize m turn shelf nexts.Wait state shelf) (sym is) (sync-queues (is_first m.lane shelf.order) wsize m.lane turn saving shelf rests)

write-saves : (first : Bool) (wsize lane : ℕ) (file : List ℕ) (turn : Turn) (saving : Saving) (shelf : Shelf) → OnTrue first (SaveRests saving shelf.back)
    → writes.SavesIf first wsize lane file saving turn shelf nexts.Wait (writing.Room file saving) shelf
write-saves true wsize lane file turn saving shelf rests = record {
  told = Wait;
  saved = saving;
  back = shelf.back;
  goes = rests wsize turn.xid turn.room;
  leads = record { gives_next = refl; keeps = refl; shelf_is = refl };
}
write-saves false wsize lane file turn saving shelf rests = record { gives_next = refl; keeps = refl; shelf_is = refl }

pub write-rests : (state : Writing) (lane : ℕ) (file : List ℕ) (saving : Saving) (shelf : Shelf) (b : Bool) → state ≡ writing.Room file saving → OnTrue b (TurnRests lane saving shelf) → OnTrue b (WriteRests state lane shelf)
write-rests state lane file saving shelf false is rests = tt
write-rests state lane file saving shelf true is rests = λ wsize turn.
    subst (λ (s : Writing). writes.ResumesIn s wsize lane turn shelf nexts.Wait s shelf) (sym is) (write-saves (is_first lane shelf.order) wsize lane file turn saving shelf rests)

-- ---- closes

close-goes : (first : Bool) (wsize lane slot : ℕ) (turn : Turn) (saving : Saving) (shelf : Shelf) → OnTrue first (SaveRests saving shelf.back)
    → closes.GoesOnIf first wsize lane slot turn saving shelf nexts.Wait (closing.Saves saving) shelf
close-goes true wsize lane slot turn saving shelf rests = record {
  gives = Wait;
  saved = saving;
  gone = shelf;
  goes = rests wsize turn.xid turn.room;
  others = refl;
  follows = (refl, refl, refl);
}
close-goes false wsize lane slot turn saving shelf rests = record { next_is = refl; state_is = refl; shelf_is = refl }

pub saves-rests : (m : CloseFile) (saving : Saving) (shelf : Shelf) (b : Bool) → m.state ≡ closing.Saves saving → OnTrue b (TurnRests m.lane saving shelf) → OnTrue b (CloseRests m shelf)
saves-rests m saving shelf false is rests = tt
saves-rests m saving shelf true is rests = λ wsize turn.
    subst (λ (state : Closing). closes.Resumes state wsize m turn shelf nexts.Wait state shelf) (sym is) (close-goes (is_first m.lane shelf.order) wsize m.lane m.slot turn saving shelf rests)

pub queued-rests : (m : CloseFile) (saving : Saving) (shelf : Shelf) (b : Bool) → m.state ≡ closing.Queued saving → b ≡ is_first m.lane shelf.order → OnTrue (not b) (CloseRests m shelf)
queued-rests m saving shelf true is first = tt
queued-rests m saving shelf false is first = λ wsize turn.
    subst (λ (state : Closing). closes.Resumes state wsize m turn shelf nexts.Wait state shelf) (sym is)
    (subst (λ (f : Bool). closes.QueuesIf f wsize m.lane m.slot turn saving shelf nexts.Wait (closing.Queued saving) shelf) first (record { next_is = refl; state_is = refl; shelf_is = refl }))

pub removing-rests : (m : CloseFile) (removal : Removal) (shelf : Shelf) → m.state ≡ closing.Removing removal → CloseRests m shelf
removing-rests m removal shelf is = λ wsize turn.
    subst (λ (state : Closing). closes.Resumes state wsize m turn shelf nexts.Wait state shelf) (sym is) (record { next_is = refl; state_is = refl; shelf_is = refl })

-- ---- puts

opening-waits : (o : Opening) (turn : Turn) → o.asked ≡ true → (openings.go_next o turn ≡ opening_steps.Wait) × (openings.go_after o turn ≡ o)
opening-waits o turn h =
    let waits : openings.waits o turn ≡ true = ap (λ (b : Bool). b || not turn.room) h in (
      ap (λ (b : Bool). if b then opening_steps.Wait else opening_steps.Send (openings.call_of o o.step)) waits,
      ap (λ (b : Bool). if b then o else record o { asked = true }) waits,
    )

pub opens-rests : (m : PutFile) (shelf : Shelf) (b : Bool) → m.state ≡ putting.Opens → b ≡ m.opening.asked → OnTrue b (PutRests m shelf)
opens-rests m shelf false is asked = tt
opens-rests m shelf true is asked = λ wsize turn.
    let still = opening-waits m.opening turn (sym asked) in
    subst (λ (state : Putting). puts.Resumes state wsize m turn shelf nexts.Wait m shelf) (sym is)
    (sym (ap (λ n. opens.goes_as n) still.0), ap (λ (o : Opening). record m { opening = o }) (sym still.1), refl)

pub adds-rests : (m : PutFile) (file : List ℕ) (shelf : Shelf) (b : Bool) → m.state ≡ putting.Adds file → OnTrue b (WriteRests m.write.state m.write.lane shelf) → OnTrue b (PutRests m shelf)
adds-rests m file shelf false is rests = tt
adds-rests m file shelf true is rests = λ wsize turn.
    subst (λ (state : Putting). puts.Resumes state wsize m turn shelf nexts.Wait m shelf) (sym is)
    (record { told = nexts.Wait; written = m.write.state; mid = shelf; resumes = rests wsize turn; goes = record { follows = (refl, is, refl); machine_is = refl } })

put-queues : (first : Bool) (wsize lane : ℕ) (turn : Turn) (saving : Saving) (state : Putting) (shelf : Shelf) → state ≡ putting.Saves saving → OnTrue first (SaveRests saving shelf.back)
    → puts.QueuesIf first wsize lane turn saving shelf nexts.Wait state shelf
put-queues true wsize lane turn saving state shelf is rests = record {
  gives = Wait;
  saved = saving;
  gone = shelf;
  goes = rests wsize turn.xid turn.room;
  others = refl;
  follows = (refl, is, refl);
}
put-queues false wsize lane turn saving state shelf is rests = record { next_is = refl; state_is = is; shelf_is = refl }

pub put-rests : (m : PutFile) (saving : Saving) (shelf : Shelf) (b : Bool) → m.state ≡ putting.Saves saving → OnTrue b (TurnRests m.write.lane saving shelf) → OnTrue b (PutRests m shelf)
put-rests m saving shelf false is rests = tt
put-rests m saving shelf true is rests = λ wsize turn.
    subst (λ (state : Putting). puts.Resumes state wsize m turn shelf nexts.Wait m shelf) (sym is)
    (put-queues (is_first m.write.lane shelf.order) wsize m.write.lane turn saving m.state shelf is rests, refl)

-- ---- reads

abbrev StillAt : ReadFile → Reading → Type 0
StillAt m r = (room : Bool) (pages : Pages) (back : Pending) → reads.GoesFrom room (record m { reading = Some r }) back (settled r pages) nexts.Wait (record m { reading = Some r }) pages

asked-attrs : (m : ReadFile) (r : Reading) → StillAt m (record r { phase = phases.AskedAttrs })
asked-attrs m r true pages back = record { step = refl; machine = refl; kept = refl }
asked-attrs m r false pages back = record { step = refl; machine = refl; kept = refl }

asked-part : (m : ReadFile) (r : Reading) (count : ℕ) → StillAt m (record r { phase = phases.Asked count })
asked-part m r count true pages back = record { step = refl; machine = refl; kept = refl }
asked-part m r count false pages back = record { step = refl; machine = refl; kept = refl }

asked-still : (m : ReadFile) (r : Reading) (p : Phase) → r.phase ≡ p → has_asked p ≡ true → StillAt m r
asked-still m r phases.Attrs is asked = absurd cc
asked-still m r phases.AskedAttrs is asked = subst (StillAt m) (sym (ap (λ (p : Phase). record r { phase = p }) is)) (asked-attrs m r)
asked-still m r phases.Pages is asked = absurd cc
asked-still m r phases.Rest is asked = absurd cc
asked-still m r (phases.Asked count) is asked = subst (StillAt m) (sym (ap (λ (p : Phase). record r { phase = p }) is)) (asked-part m r count)
asked-still m r phases.Ended is asked = absurd cc

pub read-rests : (m : ReadFile) (r : Reading) (b : Bool) → m.reading ≡ Some r → b ≡ has_asked r.phase → OnTrue b (ReadRests m)
read-rests m r false is asked = tt
read-rests m r true is asked = λ room pages back.
    subst (λ (o : Option Reading). reads.ResumesIn o room (record m { reading = o }) pages back nexts.Wait (record m { reading = o }) pages) (sym is) (asked-still m r r.phase refl (sym asked) room pages back)
