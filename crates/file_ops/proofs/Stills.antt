-- A step that no reply made possible and that waits changes nothing.
use Rattle.std.proofs.Common.{◌≡◌, ℕ, ◌&&◌, Bool, true, false, List, [], ◌∷◌, Option, Some, None, Ok, Err, refl, sym, ap, ◌∙◌, inl, inr}
use Rattle.std.specs.Prelude.{nat_lt, if◌then◌else◌}
use Rattle.world_model.specs.declared.answer.Fault.{Fault}
use Rattle.world_model.specs.declared.answer.Fault.TheVariants as faults
use Rattle.world_model.specs.declared.message.Call.{Call}
use Rattle.world_model.specs.declared.answer.Answer.TheVariants.{Refused as refused}
use Rattle.write_back.specs.Segments.{Segments}
use Rattle.write_back.specs.Choice.{chosen, piece_of}
use Rattle.write_back.specs.Files.{Pending, of_file}
use Rattle.client_shelf.specs.declared.shelf.Shelf.{Shelf}
use Rattle.client_shelf.specs.declared.turn.Turn.{Turn}
use Rattle.client_shelf.specs.LaneFiles.{is_first}
use Rattle.client_shelf.specs.declared.step.Step.{Step}
use Rattle.client_shelf.specs.declared.step.Step.TheVariants as nexts
use Rattle.file_ops.specs.declared.saving.Saving.{Saving}
use Rattle.file_ops.specs.declared.saving.SavingStep.{SavingStep}
use Rattle.file_ops.specs.declared.saving.SavingStep.TheVariants.{Send, Wait, Ended}
use Rattle.file_ops.specs.declared.sync_file.SyncFile.{SyncFile}
use Rattle.file_ops.specs.declared.sync_file.Syncing.{Syncing}
use Rattle.file_ops.specs.declared.sync_file.Syncing.TheVariants as syncing
use Rattle.file_ops.specs.declared.write_file.Writing.{Writing}
use Rattle.file_ops.specs.declared.write_file.Writing.TheVariants as writing
use Rattle.file_ops.specs.Saves.{Goes, GoesOver, SendsIf, Sends, may_send, is_again, write_of, commit_of, next_sent, saving_sent}
use Rattle.file_ops.specs.Syncs as syncs
use Rattle.file_ops.proofs.SaveEnds.{refused-not}
use Rattle.file_ops.specs.WriteFile as writes

abbrev pub IsStill : Saving → Saving → Pending → Pending → Type 0
IsStill s new back after = (new ≡ s) × (after ≡ back)

-- ---- saves

send-not : (call : Call) (next : SavingStep) → next ≡ Send call → next ≡ Wait → ⊥
send-not call next is waits = let no-way : Send call ≡ Wait = sym is ∙ waits in absurd cc

sent-still : (s new : Saving) (back after : Pending) (next : SavingStep) → next ≡ next_sent false s → new ≡ saving_sent false s → after ≡ back → next ≡ Wait → IsStill s new back after
sent-still s new back after next is keeps same waits = by (nat_lt 0 s.waiting) refl
  where
    by : (b : Bool) → nat_lt 0 s.waiting ≡ b → IsStill s new back after
    by true h = let k : new ≡ s = (rw h at keeps) in (k, same)
    by false h = let n : next ≡ (if is_again s.phase && false then Ended (Ok tt) else Send (commit_of s.file)) = (rw h at is) in again (is_again s.phase) n
      where
        again : (b : Bool) → next ≡ (if b && false then Ended (Ok tt) else Send (commit_of s.file)) → IsStill s new back after
        again true n = absurd (send-not (commit_of s.file) next n waits)
        again false n = absurd (send-not (commit_of s.file) next n waits)

sends-still : (xid : ℕ) (run : Segments) (s : Saving) (back : Pending) (next : SavingStep) (new : Saving) (after : Pending) → Sends xid false run s back next new after → next ≡ Wait → IsStill s new back after
sends-still xid [] s back next new after (inl g) waits = sent-still s new back after next g.0.gives_next g.0.keeps g.1 waits
sends-still xid (e ∷ es) s back next new after (inl g) waits = absurd (send-not (write_of s.file (piece_of xid e (e ∷ es))) next g.0.gives_next waits)
sends-still xid run s back next new after (inr g) waits = (g.0.keeps, g.1)

pub goes-still : (wsize xid : ℕ) (room : Bool) (s : Saving) (back : Pending) (next : SavingStep) (new : Saving) (after : Pending) → Goes wsize xid room false s back next new after → next ≡ Wait → IsStill s new back after
goes-still wsize xid room s back next new after goes waits = over s.refusal goes
  where
    may : (b : Bool) → SendsIf b xid false (chosen s.upto wsize (of_file s.file back)) s back next new after → IsStill s new back after
    may true g = sends-still xid (chosen s.upto wsize (of_file s.file back)) s back next new after g waits
    may false g = (g.0.keeps, g.1)

    over : (r : Option Fault) → GoesOver r wsize xid room false s back next new after → IsStill s new back after
    over (Some fault) g = (g.0.keeps, g.1)
    over None g = may (may_send room s) g

-- nor does it end well
sent-not : (s : Saving) (next : SavingStep) → next ≡ next_sent false s → next ≡ Ended (Ok tt) → ⊥
sent-not s next is ended = by (nat_lt 0 s.waiting) refl
  where
    sends : next ≡ Send (commit_of s.file) → ⊥
    sends n = let no-way : Send (commit_of s.file) ≡ Ended (Ok tt) = sym n ∙ ended in absurd cc

    again : (b : Bool) → next ≡ (if b && false then Ended (Ok tt) else Send (commit_of s.file)) → ⊥
    again true n = sends n
    again false n = sends n

    by : (b : Bool) → nat_lt 0 s.waiting ≡ b → ⊥
    by true h = let n : next ≡ Wait = (rw h at is) in let no-way : Wait ≡ Ended (Ok tt) = sym n ∙ ended in absurd cc
    by false h = let n : next ≡ (if is_again s.phase && false then Ended (Ok tt) else Send (commit_of s.file)) = (rw h at is) in again (is_again s.phase) n

sends-not : (xid : ℕ) (run : Segments) (s : Saving) (back : Pending) (next : SavingStep) (new : Saving) (after : Pending) → Sends xid false run s back next new after → next ≡ Ended (Ok tt) → ⊥
sends-not xid [] s back next new after (inl g) ended = sent-not s next g.0.gives_next ended
sends-not xid (e ∷ es) s back next new after (inl g) ended = let no-way : Send (write_of s.file (piece_of xid e (e ∷ es))) ≡ Ended (Ok tt) = sym g.0.gives_next ∙ ended in absurd cc
sends-not xid run s back next new after (inr g) ended = refused-not s.waiting faults.Memory next g.0.gives_next ended

pub goes-not-well : (wsize xid : ℕ) (room : Bool) (s : Saving) (back : Pending) (next : SavingStep) (new : Saving) (after : Pending) → Goes wsize xid room false s back next new after → next ≡ Ended (Ok tt) → ⊥
goes-not-well wsize xid room s back next new after goes ended = over s.refusal goes
  where
    may : (b : Bool) → SendsIf b xid false (chosen s.upto wsize (of_file s.file back)) s back next new after → ⊥
    may true g = sends-not xid (chosen s.upto wsize (of_file s.file back)) s back next new after g ended
    may false g = let no-way : Wait ≡ Ended (Ok tt) = sym g.0.gives_next ∙ ended in absurd cc

    over : (r : Option Fault) → GoesOver r wsize xid room false s back next new after → ⊥
    over (Some fault) g = refused-not s.waiting fault next g.0.gives_next ended
    over None g = may (may_send room s) g

-- ---- syncs

abbrev pub StaysSo : {S : Type 0} → S → S → Shelf → Shelf → Type 0
StaysSo state new old after = (new ≡ state) × (after ≡ old)

sync-on : (gives : SavingStep) (wsize lane : ℕ) (turn : Turn) (saving saved : Saving) (old : Shelf) (next : Step) (state : Syncing) (new : Shelf)
    → Goes wsize turn.xid turn.room false saving old.back gives saved new.back → syncs.Follows lane gives saved old.order next state new.order
    → new ≡ record old { back = new.back; order = new.order } → next ≡ nexts.Wait → StaysSo (syncing.Saves saving) state old new
sync-on (Send call) wsize lane turn saving saved old next state new goes f others waits = let no-way : nexts.Send call ≡ nexts.Wait = sym f.next_is ∙ waits in absurd cc
sync-on (Ended result) wsize lane turn saving saved old next state new goes f others waits = let no-way : nexts.Done (syncs.answer_of result) ≡ nexts.Wait = sym f.next_is ∙ waits in absurd cc
sync-on Wait wsize lane turn saving saved old next state new goes f others waits =
    let still = goes-still wsize turn.xid turn.room saving old.back Wait saved new.back goes refl in
    (f.state_is ∙ ap (λ s. syncing.Saves s) still.0, others ∙ ap (λ b. record old { back = b; order = new.order }) still.1 ∙ ap (λ o. record old { order = o }) f.order_is)

pub sync-still : (at : Syncing) (wsize : ℕ) (machine : SyncFile) (turn : Turn) (old : Shelf) (next : Step) (state : Syncing) (new : Shelf)
    → syncs.Resumes at wsize machine turn old next state new → next ≡ nexts.Wait → StaysSo at state old new
sync-still syncing.Idle wsize machine turn old next state new r waits = (r.state_is, r.shelf_is)
sync-still (syncing.Saves saving) wsize machine turn old next state new r waits = by (is_first machine.lane old.order) r
  where
    by : (b : Bool) → syncs.QueuesIf b wsize machine.lane turn saving old next state new → StaysSo (syncing.Saves saving) state old new
    by true q = sync-on q.gives wsize machine.lane turn saving q.saved old next state new q.goes q.follows q.others waits
    by false q = (q.state_is, q.shelf_is)

-- ---- writes

write-on : (told : SavingStep) (wsize lane : ℕ) (file : List ℕ) (saving saved : Saving) (turn : Turn) (shelf : Shelf) (back : Pending) (next : Step) (new : Writing) (after : Shelf)
    → Goes wsize turn.xid turn.room false saving shelf.back told saved back
    → writes.Leads (writes.room_next told) (writes.room_state told file saved) (writes.room_shelf told lane (record shelf { back = back })) next new after
    → next ≡ nexts.Wait → StaysSo (writing.Room file saving) new shelf after
write-on (Send call) wsize lane file saving saved turn shelf back next new after goes l waits = let no-way : nexts.Send call ≡ nexts.Wait = sym l.gives_next ∙ waits in absurd cc
write-on (Ended (Ok done)) wsize lane file saving saved turn shelf back next new after goes l waits = absurd (goes-not-well wsize turn.xid turn.room saving shelf.back (Ended (Ok done)) saved back goes refl)
write-on (Ended (Err fault)) wsize lane file saving saved turn shelf back next new after goes l waits = let no-way : nexts.Done (refused fault) ≡ nexts.Wait = sym l.gives_next ∙ waits in absurd cc
write-on Wait wsize lane file saving saved turn shelf back next new after goes l waits =
    let still = goes-still wsize turn.xid turn.room saving shelf.back Wait saved back goes refl in
    (l.keeps ∙ ap (λ s. writing.Room file s) still.0, l.shelf_is ∙ ap (λ b. record shelf { back = b }) still.1)

pub write-still : (at : Writing) (wsize lane : ℕ) (turn : Turn) (shelf : Shelf) (next : Step) (new : Writing) (after : Shelf)
    → writes.ResumesIn at wsize lane turn shelf next new after → next ≡ nexts.Wait → StaysSo at new shelf after
write-still writing.Idle wsize lane turn shelf next new after r waits = (r.keeps, r.shelf_is)
write-still (writing.Room file saving) wsize lane turn shelf next new after r waits = by (is_first lane shelf.order) r
  where
    by : (b : Bool) → writes.SavesIf b wsize lane file saving turn shelf next new after → StaysSo (writing.Room file saving) new shelf after
    by true s = write-on s.told wsize lane file saving s.saved turn shelf s.back next new after s.goes s.leads waits
    by false s = (s.keeps, s.shelf_is)
