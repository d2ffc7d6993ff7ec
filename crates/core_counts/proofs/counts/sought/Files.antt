-- What a step of a write, a sync, a truncate or a put leaves of the number of the next hidden name: it stays.
use Rattle.core_counts.proofs.Prelude.{◌≡◌, ℕ, Bool, true, false, List, Option, Some, None, Result, Ok, Err, inl, inr, refl, ap, ◌∙◌, Fault, Reply, Pending, is_first, Step, Shelf, Turn, OpeningStep, Saving, SyncFile, Syncing, Truncating, WriteFile, Writing, joined, by-step, ends_as, PutFile, Putting}
use Rattle.client_shelf.specs.LaneFiles.{left}
use Rattle.world_model.specs.declared.answer.Answer.TheVariants as answers
use Rattle.client_shelf.specs.declared.step.Step.TheVariants as nexts
use Rattle.file_ops.specs.declared.opening.OpeningStep.TheVariants as openings
use Rattle.file_ops.specs.declared.sync_file.Syncing.TheVariants as syncing
use Rattle.file_ops.specs.declared.truncate_file.TruncateFile.{TruncateFile}
use Rattle.file_ops.specs.declared.truncate_file.Truncating.TheVariants as truncating
use Rattle.file_ops.specs.declared.write_file.Writing.TheVariants as writing
use Rattle.file_ops.specs.Saves as saves
use Rattle.file_ops.specs.Syncs as syncs
use Rattle.file_ops.specs.TruncateFile as truncates
use Rattle.file_ops.specs.WriteFile as writes
use Rattle.file_ops.specs.declared.put_file.Putting.TheVariants as putting
use Rattle.file_ops.specs.PutFile as puts

-- ---- writes

leads-counter : (to : Step) (state : Writing) (shelf : Shelf) (next : Step) (new : Writing) (after : Shelf) → writes.Leads to state shelf next new after → after.counter ≡ shelf.counter
leads-counter to state shelf next new after l = ap (λ (s : Shelf). s.counter) l.shelf_is

room-counter : (told : _) (lane : ℕ) (shelf : Shelf) → (writes.room_shelf told lane shelf).counter ≡ shelf.counter
room-counter told lane shelf = by-step (λ g. (writes.room_shelf g lane shelf).counter ≡ shelf.counter) (λ call. refl) refl ended told
  where
    ended : (result : Result (Unit {0}) Fault) → (writes.room_shelf (ends_as result) lane shelf).counter ≡ shelf.counter
    ended (Ok nothing) = refl
    ended (Err fault) = refl

saves-counter : (b : Bool) (wsize lane : ℕ) (file : List ℕ) (saving : Saving) (turn : Turn) (shelf : Shelf) (next : Step) (new : Writing) (after : Shelf)
    → writes.SavesIf b wsize lane file saving turn shelf next new after → after.counter ≡ shelf.counter
saves-counter true wsize lane file saving turn shelf next new after s = ap (λ (k : Shelf). k.counter) s.leads.shelf_is ∙ room-counter s.told lane (record shelf { back = s.back })
saves-counter false wsize lane file saving turn shelf next new after s = leads-counter nexts.Wait (writing.Room file saving) shelf next new after s

writes-counter : (b : Bool) (wsize lane : ℕ) (file : List ℕ) (offset : ℕ) (bytes : List ℕ) (turn : Turn) (shelf : Shelf) (next : Step) (new : Writing) (after : Shelf)
    → writes.WritesIf b wsize lane file offset bytes turn shelf next new after → after.counter ≡ shelf.counter
writes-counter true wsize lane file offset bytes turn shelf next new after (inl s) =
    saves-counter (is_first lane (joined lane s.of shelf).order) wsize lane file (saves.begun s.of shelf.seq) turn (joined lane s.of shelf) next new after s.saves
writes-counter true wsize lane file offset bytes turn shelf next new after (inr s) = leads-counter _ _ shelf next new after s.1
writes-counter false wsize lane file offset bytes turn shelf next new after (inl s) = ap (λ (k : Shelf). k.counter) s.leads.shelf_is
writes-counter false wsize lane file offset bytes turn shelf next new after (inr s) = leads-counter _ _ shelf next new after s

pub write-starts : (found : Result (List ℕ) Fault) (wsize : ℕ) (m : WriteFile) (turn : Turn) (shelf : Shelf) (next : Step) (new : WriteFile) (after : Shelf)
    → writes.StartsAt found wsize m turn shelf next new after → after.counter ≡ shelf.counter
write-starts (Err fault) wsize m turn shelf next new after s = leads-counter _ _ shelf next new.state after s.refuses
write-starts (Ok file) wsize m turn shelf next new after (inl s) = writes-counter _ wsize m.lane file m.offset _ turn shelf next new.state after s.writes
write-starts (Ok file) wsize m turn shelf next new after (inr s) = leads-counter _ _ shelf next new.state after s.refuses

pub write-resumes : (at : Writing) (wsize lane : ℕ) (turn : Turn) (shelf : Shelf) (next : Step) (new : Writing) (after : Shelf)
    → writes.ResumesIn at wsize lane turn shelf next new after → after.counter ≡ shelf.counter
write-resumes writing.Idle wsize lane turn shelf next new after r = leads-counter nexts.Wait writing.Idle shelf next new after r
write-resumes (writing.Room file saving) wsize lane turn shelf next new after r = saves-counter (is_first lane shelf.order) wsize lane file saving turn shelf next new after r

follows-counter : (told : _) (wsize : ℕ) (m : WriteFile) (file : List ℕ) (saved : Saving) (turn : Turn) (shelf : Shelf) (next : Step) (new : Writing) (after : Shelf)
    → writes.Follows told wsize m file saved turn shelf next new after → after.counter ≡ shelf.counter
follows-counter told wsize m file saved turn shelf next new after f = by-step
    (λ g. writes.Follows g wsize m file saved turn shelf next new after → after.counter ≡ shelf.counter)
    (λ call l. leads-counter _ _ shelf next new after l) (λ l. leads-counter _ _ shelf next new after l) ended told f
  where
    ended : (result : Result (Unit {0}) Fault) → writes.Follows (ends_as result) wsize m file saved turn shelf next new after → after.counter ≡ shelf.counter
    ended (Ok nothing) l = writes-counter _ wsize m.lane file m.offset (writes.made_bytes m.text) turn (record shelf { order = left m.lane shelf.order }) next new after l
    ended (Err fault) l = ap (λ (k : Shelf). k.counter) l.shelf_is

pub write-takes : (at : Writing) (wsize : ℕ) (m : WriteFile) (sent turn : Turn) (came : Result Reply Fault) (shelf : Shelf) (next : Step) (new : Writing) (after : Shelf)
    → writes.TakesIn at wsize m sent turn came shelf next new after → after.counter ≡ shelf.counter
write-takes writing.Idle wsize m sent turn came shelf next new after t = leads-counter nexts.Wait writing.Idle shelf next new after t
write-takes (writing.Room file saving) wsize m sent turn came shelf next new after t = follows-counter t.told wsize m file t.saved turn _ next new after t.follows

-- ---- syncs

queues-counter : (b : Bool) (wsize lane : ℕ) (turn : Turn) (saving : Saving) (old : Shelf) (next : Step) (state : Syncing) (new : Shelf)
    → syncs.QueuesIf b wsize lane turn saving old next state new → new.counter ≡ old.counter
queues-counter true wsize lane turn saving old next state new q = ap (λ (k : Shelf). k.counter) q.others
queues-counter false wsize lane turn saving old next state new q = ap (λ (k : Shelf). k.counter) q.shelf_is

pub sync-starts : (found : Option (List ℕ)) (wsize : ℕ) (m : SyncFile) (turn : Turn) (old : Shelf) (next : Step) (state : Syncing) (new : Shelf)
    → syncs.StartsAt found wsize m turn old next state new → new.counter ≡ old.counter
sync-starts None wsize m turn old next state new s = ap (λ (k : Shelf). k.counter) s.shelf_is
sync-starts (Some file) wsize m turn old next state new s =
    queues-counter (is_first m.lane (joined m.lane file old).order) wsize m.lane turn (saves.begun file old.seq) (joined m.lane file old) next state new s

pub sync-resumes : (at : Syncing) (wsize : ℕ) (m : SyncFile) (turn : Turn) (old : Shelf) (next : Step) (state : Syncing) (new : Shelf)
    → syncs.Resumes at wsize m turn old next state new → new.counter ≡ old.counter
sync-resumes syncing.Idle wsize m turn old next state new r = ap (λ (k : Shelf). k.counter) r.shelf_is
sync-resumes (syncing.Saves saving) wsize m turn old next state new r = queues-counter (is_first m.lane old.order) wsize m.lane turn saving old next state new r

pub sync-takes : (at : Syncing) (wsize : ℕ) (m : SyncFile) (sent turn : Turn) (came : Result Reply Fault) (old : Shelf) (next : Step) (state : Syncing) (new : Shelf)
    → syncs.Takes at wsize m sent turn came old next state new → new.counter ≡ old.counter
sync-takes syncing.Idle wsize m sent turn came old next state new t = ap (λ (k : Shelf). k.counter) t.shelf_is
sync-takes (syncing.Saves saving) wsize m sent turn came old next state new t = ap (λ (k : Shelf). k.counter) t.others

-- ---- truncates

pub truncate-starts : (found : Result (List ℕ) Fault) (m : TruncateFile) (old after : Shelf) → after ≡ truncates.begun_shelf found m old → after.counter ≡ old.counter
truncate-starts (Ok file) m old after is = ap (λ (k : Shelf). k.counter) is
truncate-starts (Err fault) m old after is = ap (λ (k : Shelf). k.counter) is

pub truncate-takes : (at : Truncating) (m : TruncateFile) (came : Result Reply Fault) (sent turn : Turn) (attrs : _) (back : Pending) (old after : Shelf)
    → after ≡ truncates.took_shelf at m came sent turn attrs back old → after.counter ≡ old.counter
truncate-takes truncating.Idle m came sent turn attrs back old after is = ap (λ (k : Shelf). k.counter) is
truncate-takes (truncating.Queued file upto) m came sent turn attrs back old after is = ap (λ (k : Shelf). k.counter) is
truncate-takes (truncating.Asked file upto) m came sent turn attrs back old after is = ap (λ (k : Shelf). k.counter) is

-- ---- puts

put-follows : (gives : _) (lane : ℕ) (saving : Saving) (old : Shelf) (next : Step) (state : Putting) (new : Shelf) → puts.Follows gives lane saving old next state new → new.counter ≡ old.counter
put-follows gives lane saving old next state new f = by-step (λ g. puts.Follows g lane saving old next state new → new.counter ≡ old.counter)
    (λ call l. ap (λ (k : Shelf). k.counter) l.2) (λ l. ap (λ (k : Shelf). k.counter) l.2) (λ result l. ap (λ (k : Shelf). k.counter) l.others) gives f

put-queues : (b : Bool) (wsize lane : ℕ) (turn : Turn) (saving : Saving) (old : Shelf) (next : Step) (state : Putting) (new : Shelf)
    → puts.QueuesIf b wsize lane turn saving old next state new → new.counter ≡ old.counter
put-queues true wsize lane turn saving old next state new q = put-follows q.gives lane q.saved q.gone next state new q.follows ∙ ap (λ (k : Shelf). k.counter) q.others
put-queues false wsize lane turn saving old next state new q = ap (λ (k : Shelf). k.counter) q.shelf_is

after-write : (told : Step) (wsize lane : ℕ) (file : List ℕ) (turn : Turn) (old : Shelf) (next : Step) (state : Putting) (new : Shelf)
    → puts.AfterWrite told wsize lane file turn old next state new → new.counter ≡ old.counter
after-write (nexts.Send call) wsize lane file turn old next state new a = ap (λ (k : Shelf). k.counter) a.2
after-write nexts.Wait wsize lane file turn old next state new a = ap (λ (k : Shelf). k.counter) a.2
after-write (nexts.Done (answers.Done value)) wsize lane file turn old next state new a =
    put-queues (is_first lane (joined lane file old).order) wsize lane turn (saves.begun file old.seq) (joined lane file old) next state new a
after-write (nexts.Done (answers.Refused fault)) wsize lane file turn old next state new a = ap (λ (k : Shelf). k.counter) a.others

pub put-resumes : (at : Putting) (wsize : ℕ) (m : PutFile) (turn : Turn) (old : Shelf) (next : Step) (new : PutFile) (after : Shelf)
    → puts.Resumes at wsize m turn old next new after → after.counter ≡ old.counter
put-resumes putting.Idle wsize m turn old next new after r = ap (λ (k : Shelf). k.counter) r.shelf_is
put-resumes putting.Opens wsize m turn old next new after r = ap (λ (k : Shelf). k.counter) r.2
put-resumes (putting.Adds file) wsize m turn old next new after r =
    after-write r.told wsize m.write.lane file turn r.mid next new.state after r.goes.follows ∙ write-resumes m.write.state wsize m.write.lane turn old r.told r.written r.mid r.resumes
put-resumes (putting.Saves saving) wsize m turn old next new after r = put-queues (is_first m.write.lane old.order) wsize m.write.lane turn saving old next new.state after r.0

after-opening : (step : OpeningStep) (wsize : ℕ) (m : PutFile) (turn : Turn) (old : Shelf) (next : Step) (new : PutFile) (after : Shelf)
    → puts.AfterOpening step wsize m turn old next new after → after.counter ≡ old.counter
after-opening (openings.Send call) wsize m turn old next new after a = ap (λ (k : Shelf). k.counter) a.2
after-opening openings.Wait wsize m turn old next new after a = ap (λ (k : Shelf). k.counter) a.shelf_is
after-opening (openings.Ended (Ok file)) wsize m turn old next new after a =
    after-write a.told wsize m.write.lane file turn a.mid next new.state after a.goes.follows
    ∙ writes-counter _ wsize m.write.lane file m.write.offset (writes.made_bytes m.write.text) turn (puts.put_at m.write.lane file old) a.told a.written a.mid a.writes
after-opening (openings.Ended (Err fault)) wsize m turn old next new after a = ap (λ (k : Shelf). k.counter) a.2

pub put-takes : (at : Putting) (wsize : ℕ) (m : PutFile) (sent turn : Turn) (came : Result Reply Fault) (old : Shelf) (next : Step) (new : PutFile) (after : Shelf)
    → puts.Takes at wsize m sent turn came old next new after → after.counter ≡ old.counter
put-takes putting.Idle wsize m sent turn came old next new after t = ap (λ (k : Shelf). k.counter) t.shelf_is
put-takes putting.Opens wsize m sent turn came old next new after t =
    after-opening t.step wsize _ turn t.took next new after t.follows ∙ ap (λ (k : Shelf). k.counter) t.others
put-takes (putting.Adds file) wsize m sent turn came old next new after t =
    after-write t.told wsize m.write.lane file turn t.mid next new.state after t.goes.follows ∙ write-takes m.write.state wsize m.write sent turn came old t.told t.written t.mid t.takes
put-takes (putting.Saves saving) wsize m sent turn came old next new after t =
    put-follows t.0.gives m.write.lane t.0.saved t.0.took next new.state after t.0.follows ∙ ap (λ (k : Shelf). k.counter) t.0.others
