-- What an operation that makes bytes stable, or sets a size, makes of the kept pages where it sends no WRITE.
use Rattle.core_counts.proofs.Prelude.{◌≡◌, ◌-◌, ℕ, Bool, true, false, List, Option, Some, None, Result, Ok, Err, inl, inr, refl, ap, ◌∙◌, if◌then◌else◌, Fault, Reply, is_first, goes_again, Step, Shelf, Turn, Closing, CloseFile, Removal, PutFile, Putting, Saving, SyncFile, Syncing, WriteFile, Writing, is_full, remove_busy, refusal_of, joined, by-step, ends_as, flies_if, flies_put, kept-as}
use Rattle.core_facts.proofs.Flights.{flies_save, flies_write, flies_sync, flies_close}
use Rattle.core_answers.proofs.pages.NamePages.{SamePages}
use Rattle.world_model.specs.declared.answer.Answer.TheVariants as answers
use Rattle.client_shelf.specs.declared.step.Step.TheVariants as nexts
use Rattle.file_ops.specs.declared.close_file.Closing.TheVariants as closing
use Rattle.file_ops.specs.declared.put_file.Putting.TheVariants as putting
use Rattle.file_ops.specs.declared.sync_file.Syncing.TheVariants as syncing
use Rattle.file_ops.specs.declared.write_file.Writing.TheVariants as writing
use Rattle.file_ops.specs.Closes as closes
use Rattle.file_ops.specs.PutFile as puts
use Rattle.file_ops.specs.Saves as saves
use Rattle.file_ops.specs.Syncs as syncs
use Rattle.file_ops.specs.WriteFile as writes
use Rattle.core_counts.proofs.thrift.SaverSteps.{StateSaves}

-- ---- steps that leave them

then-same : (a b c : Shelf) → SamePages a b → SamePages b c → SamePages a c
then-same a b c f g = g ∙ f

room-same : (told : _) (lane : ℕ) (shelf : Shelf) → SamePages shelf (writes.room_shelf told lane shelf)
room-same told lane shelf = by-step (λ g. SamePages shelf (writes.room_shelf g lane shelf)) (λ call. refl) refl ended told
  where
    ended : (result : Result (Unit {0}) Fault) → SamePages shelf (writes.room_shelf (ends_as result) lane shelf)
    ended (Ok done) = refl
    ended (Err fault) = refl

saves-same : (b : Bool) (wsize lane : ℕ) (file : List ℕ) (saving : Saving) (turn : Turn) (shelf : Shelf) (next : Step) (new : Writing) (after : Shelf)
    → writes.SavesIf b wsize lane file saving turn shelf next new after → SamePages shelf after
saves-same true wsize lane file saving turn shelf next new after s =
    kept-as shelf (writes.room_shelf s.told lane (record shelf { back = s.back })) after s.leads.shelf_is (room-same s.told lane (record shelf { back = s.back }))
saves-same false wsize lane file saving turn shelf next new after s = kept-as shelf shelf after s.shelf_is refl

writes-same : (b : Bool) (wsize lane : ℕ) (file : List ℕ) (offset : ℕ) (bytes : List ℕ) (turn : Turn) (shelf : Shelf) (next : Step) (new : Writing) (after : Shelf)
    → writes.WritesIf b wsize lane file offset bytes turn shelf next new after → SamePages shelf after
writes-same true wsize lane file offset bytes turn shelf next new after (inl s) =
    saves-same (is_first lane (joined lane s.of shelf).order) wsize lane file (saves.begun s.of shelf.seq) turn (joined lane s.of shelf) next new after s.saves
writes-same true wsize lane file offset bytes turn shelf next new after (inr s) = kept-as shelf shelf after s.1.shelf_is refl
writes-same false wsize lane file offset bytes turn shelf next new after (inl a) = ap (λ (s : Shelf). s.pages) a.leads.shelf_is
writes-same false wsize lane file offset bytes turn shelf next new after (inr s) = kept-as shelf shelf after s.shelf_is refl

write-follows : (told : _) (wsize : ℕ) (m : WriteFile) (file : List ℕ) (saved : Saving) (turn : Turn) (shelf : Shelf) (next : Step) (new : Writing) (after : Shelf)
    → writes.Follows told wsize m file saved turn shelf next new after → SamePages shelf after
write-follows told wsize m file saved turn shelf next new after f = by-step
    (λ g. writes.Follows g wsize m file saved turn shelf next new after → SamePages shelf after)
    (λ call l. kept-as shelf shelf after l.shelf_is refl) (λ l. kept-as shelf shelf after l.shelf_is refl) ended told f
  where
    ended : (result : Result (Unit {0}) Fault) → writes.Follows (ends_as result) wsize m file saved turn shelf next new after → SamePages shelf after
    ended (Ok done) l = writes-same (is_full (writes.made_bytes m.text) shelf.back) wsize m.lane file m.offset (writes.made_bytes m.text) turn _ next new after l
    ended (Err fault) l = kept-as shelf (writes.room_shelf (ends_as (Err fault)) m.lane shelf) after l.shelf_is refl

close-ends-at : (place : Option (List ℕ × List ℕ)) (lane : ℕ) (room : Bool) (file : List ℕ) (why : Option Fault) (old : Shelf) (next : Step) (state : Closing) (new : Shelf)
    → closes.EndsAt place lane room file why old next state new → SamePages old new
close-ends-at None lane room file why old next state new e = ap (λ (s : Shelf). s.pages) e.others
close-ends-at (Some place) lane room file why old next state new e = kept-as old old new e.shelf_is refl

close-follows : (gives : _) (lane slot : ℕ) (room begun : Bool) (saving : Saving) (old : Shelf) (next : Step) (state : Closing) (new : Shelf)
    → closes.Follows gives lane slot room begun saving old next state new → SamePages old new
close-follows gives lane slot room begun saving old next state new f = by-step
    (λ g. closes.Follows g lane slot room begun saving old next state new → SamePages old new)
    (λ call l. kept-as old old new l.2 refl) (λ l. kept-as old old new l.2 refl) frees gives f
  where
    frees : (result : Result (Unit {0}) Fault) → closes.Frees lane slot room saving.file (refusal_of result) old next state new → SamePages old new
    frees result k = then-same old k.freed new (ap (λ (s : Shelf). s.pages) k.slot_is) (close-ends-at k.place lane room saving.file (refusal_of result) k.freed next state new k.ends)

close-removed : (again : Bool) (lane : ℕ) (removal : Removal) (mid : Shelf) (next : Step) (state : Closing) (new : Shelf) → closes.EndsIf again lane removal mid next state new → SamePages mid new
close-removed true lane removal mid next state new e = kept-as mid mid new e.shelf_is refl
close-removed false lane removal mid next state new e = ap (λ (s : Shelf). s.pages) e.others

put-follows : (gives : _) (lane : ℕ) (saving : Saving) (old : Shelf) (next : Step) (state : Putting) (new : Shelf) → puts.Follows gives lane saving old next state new → SamePages old new
put-follows gives lane saving old next state new f = by-step
    (λ g. puts.Follows g lane saving old next state new → SamePages old new)
    (λ call l. kept-as old old new l.2 refl) (λ l. kept-as old old new l.2 refl)
    (λ result e. ap (λ (s : Shelf). s.pages) e.others) gives f

put-queues : (b : Bool) (wsize lane : ℕ) (turn : Turn) (saving : Saving) (old : Shelf) (next : Step) (state : Putting) (new : Shelf)
    → puts.QueuesIf b wsize lane turn saving old next state new → SamePages old new
put-queues true wsize lane turn saving old next state new q =
    then-same old q.gone new (ap (λ (s : Shelf). s.pages) q.others) (put-follows q.gives lane q.saved q.gone next state new q.follows)
put-queues false wsize lane turn saving old next state new q = kept-as old old new q.shelf_is refl

after-write : (told : Step) (wsize lane : ℕ) (file : List ℕ) (turn : Turn) (old : Shelf) (next : Step) (state : Putting) (new : Shelf)
    → puts.AfterWrite told wsize lane file turn old next state new → SamePages old new
after-write (nexts.Send call) wsize lane file turn old next state new a = kept-as old old new a.2 refl
after-write nexts.Wait wsize lane file turn old next state new a = kept-as old old new a.2 refl
after-write (nexts.Done (answers.Done value)) wsize lane file turn old next state new a =
    put-queues (is_first lane (joined lane file old).order) wsize lane turn (saves.begun file old.seq) (joined lane file old) next state new a
after-write (nexts.Done (answers.Refused fault)) wsize lane file turn old next state new e = ap (λ (s : Shelf). s.pages) e.others

-- ---- what came of a call that isn't a WRITE

some-flies : {A : Type 0} → (b : Bool) (file : List ℕ) → flies_if b file ≡ None → b ≡ true → A
some-flies true file e is = absurd (cc)
some-flies false file e is = absurd (cc)

module _ (came : Result Reply Fault) (sent turn : Turn) (old : Shelf) where
  none-saved : (s : Saving) → flies_save s ≡ None → saves.pages_after sent.xid (turn.moment - 1) came s old.back old.pages ≡ old.pages
  none-saved s none = by (saves.is_sending s.phase) refl
    where
      by : (b : Bool) → saves.is_sending s.phase ≡ b
          → (if b then saves.pages_told s.file (saves.answered sent.xid s.file old.back).offset (saves.answered sent.xid s.file old.back).bytes (turn.moment - 1)
          (saves.told_of sent.xid s.file old.back came) old.pages else old.pages) ≡ old.pages
      by true is = some-flies (saves.is_sending s.phase) s.file none is
      by false is = refl

  pub write-none : (at : Writing) (wsize : ℕ) (m : WriteFile) (next : Step) (new : Writing) (after : Shelf) → flies_write at ≡ None → writes.TakesIn at wsize m sent turn came old next new after
      → SamePages old after
  write-none writing.Idle wsize m next new after none p = kept-as old old after p.shelf_is refl
  write-none (writing.Room file s) wsize m next new after none p = write-follows p.told wsize m file p.saved turn _ next new after p.follows ∙ none-saved s none

  pub sync-none : (at : Syncing) (wsize : ℕ) (m : SyncFile) (next : Step) (new : Syncing) (after : Shelf) → flies_sync at ≡ None → syncs.Takes at wsize m sent turn came old next new after
      → SamePages old after
  sync-none syncing.Idle wsize m next new after none p = kept-as old old after p.shelf_is refl
  sync-none (syncing.Saves s) wsize m next new after none p = p.pages ∙ none-saved s none

  pub close-none : (at : Closing) (wsize : ℕ) (m : CloseFile) (next : Step) (state : Closing) (after : Shelf) → flies_close at ≡ None → closes.Takes at wsize m sent turn came old next state after
      → SamePages old after
  close-none closing.Idle wsize m next state after none p = kept-as old old after p.shelf_is refl
  close-none (closing.Queued s) wsize m next state after none p = kept-as old old after p.shelf_is refl
  close-none (closing.Saves s) wsize m next state after none p = close-follows p.gives m.lane m.slot turn.room true p.saved p.took next state after p.follows ∙ p.pages ∙ none-saved s none
  close-none (closing.ToRemove removal) wsize m next state after none p = kept-as old old after p.shelf_is refl
  close-none (closing.Removing removal) wsize m next state after none p =
      close-removed (goes_again (remove_busy came) sent turn old.repeats) m.lane removal p.took next state after p.ends ∙ ap (λ (s : Shelf). s.pages) p.others

  pub put-none : (at : Putting) (wsize : ℕ) (m : PutFile) (next : Step) (new : PutFile) (after : Shelf) → StateSaves at → flies_put at m.write.state ≡ None
      → puts.Takes at wsize m sent turn came old next new after → SamePages old after
  put-none putting.Idle wsize m next new after own none p = absurd own
  put-none putting.Opens wsize m next new after own none p = absurd own
  put-none (putting.Adds file) wsize m next new after own none p =
      after-write p.told wsize m.write.lane file turn p.mid next new.state after p.goes.follows ∙ write-none m.write.state wsize m.write p.told p.written p.mid none p.takes
  put-none (putting.Saves s) wsize m next new after own none p = put-follows p.0.gives m.write.lane p.0.saved p.0.took next new.state after p.0.follows ∙ p.0.pages ∙ none-saved s none
