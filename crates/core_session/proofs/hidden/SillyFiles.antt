-- What a step of a write, a sync, a truncate or a put leaves of the places of hidden files: all.
use Rattle.core_session.proofs.Prelude.{◌≡◌, ℕ, Bool, true, false, List, Option, Some, None, Result, Ok, Err, inl, inr, refl, ap, ◌∙◌, Fault, Reply, Pending, left, is_first, Step, Shelf, Turn, OpeningStep, Saving, SyncFile, Syncing, TruncateFile, Truncating, WriteFile, Writing, joined, by-step, ends_as, PutFile, Putting}
use Rattle.world_model.specs.declared.answer.Answer.TheVariants as answers
use Rattle.client_shelf.specs.declared.step.Step.TheVariants as nexts
use Rattle.file_ops.specs.declared.opening.OpeningStep.TheVariants as openings
use Rattle.file_ops.specs.declared.sync_file.Syncing.TheVariants as syncing
use Rattle.file_ops.specs.declared.truncate_file.Truncating.TheVariants as truncating
use Rattle.file_ops.specs.declared.write_file.Writing.TheVariants as writing
use Rattle.file_ops.specs.Saves as saves
use Rattle.file_ops.specs.Syncs as syncs
use Rattle.file_ops.specs.TruncateFile as truncates
use Rattle.file_ops.specs.WriteFile as writes
use Rattle.file_ops.specs.declared.put_file.Putting.TheVariants as putting
use Rattle.file_ops.specs.PutFile as puts

-- ---- writes

leads-silly : (to : Step) (state : Writing) (shelf : Shelf) (next : Step) (new : Writing) (after : Shelf) → writes.Leads to state shelf next new after → after.silly ≡ shelf.silly
leads-silly to state shelf next new after l = ap (λ (s : Shelf). s.silly) l.shelf_is

room-silly : (told : _) (lane : ℕ) (shelf : Shelf) → (writes.room_shelf told lane shelf).silly ≡ shelf.silly
room-silly told lane shelf = by-step (λ g. (writes.room_shelf g lane shelf).silly ≡ shelf.silly) (λ call. refl) refl ended told
  where
    ended : (result : Result (Unit {0}) Fault) → (writes.room_shelf (ends_as result) lane shelf).silly ≡ shelf.silly
    ended (Ok nothing) = refl
    ended (Err fault) = refl

saves-silly : (b : Bool) (wsize lane : ℕ) (file : List ℕ) (saving : Saving) (turn : Turn) (shelf : Shelf) (next : Step) (new : Writing) (after : Shelf)
    → writes.SavesIf b wsize lane file saving turn shelf next new after → after.silly ≡ shelf.silly
saves-silly true wsize lane file saving turn shelf next new after s = ap (λ (k : Shelf). k.silly) s.leads.shelf_is ∙ room-silly s.told lane (record shelf { back = s.back })
saves-silly false wsize lane file saving turn shelf next new after s = leads-silly nexts.Wait (writing.Room file saving) shelf next new after s

writes-silly : (b : Bool) (wsize lane : ℕ) (file : List ℕ) (offset : ℕ) (bytes : List ℕ) (turn : Turn) (shelf : Shelf) (next : Step) (new : Writing) (after : Shelf)
    → writes.WritesIf b wsize lane file offset bytes turn shelf next new after → after.silly ≡ shelf.silly
writes-silly true wsize lane file offset bytes turn shelf next new after (inl s) =
    saves-silly (is_first lane (joined lane s.of shelf).order) wsize lane file (saves.begun s.of shelf.seq) turn (joined lane s.of shelf) next new after s.saves
writes-silly true wsize lane file offset bytes turn shelf next new after (inr s) = leads-silly _ _ shelf next new after s.1
writes-silly false wsize lane file offset bytes turn shelf next new after (inl s) = ap (λ (k : Shelf). k.silly) s.leads.shelf_is
writes-silly false wsize lane file offset bytes turn shelf next new after (inr s) = leads-silly _ _ shelf next new after s

pub write-starts : (found : Result (List ℕ) Fault) (wsize : ℕ) (m : WriteFile) (turn : Turn) (shelf : Shelf) (next : Step) (new : WriteFile) (after : Shelf)
    → writes.StartsAt found wsize m turn shelf next new after → after.silly ≡ shelf.silly
write-starts (Err fault) wsize m turn shelf next new after s = leads-silly _ _ shelf next new.state after s.refuses
write-starts (Ok file) wsize m turn shelf next new after (inl s) = writes-silly _ wsize m.lane file m.offset _ turn shelf next new.state after s.writes
write-starts (Ok file) wsize m turn shelf next new after (inr s) = leads-silly _ _ shelf next new.state after s.refuses

pub write-resumes : (at : Writing) (wsize lane : ℕ) (turn : Turn) (shelf : Shelf) (next : Step) (new : Writing) (after : Shelf)
    → writes.ResumesIn at wsize lane turn shelf next new after → after.silly ≡ shelf.silly
write-resumes writing.Idle wsize lane turn shelf next new after r = leads-silly nexts.Wait writing.Idle shelf next new after r
write-resumes (writing.Room file saving) wsize lane turn shelf next new after r = saves-silly (is_first lane shelf.order) wsize lane file saving turn shelf next new after r

follows-silly : (told : _) (wsize : ℕ) (m : WriteFile) (file : List ℕ) (saved : Saving) (turn : Turn) (shelf : Shelf) (next : Step) (new : Writing) (after : Shelf)
    → writes.Follows told wsize m file saved turn shelf next new after → after.silly ≡ shelf.silly
follows-silly told wsize m file saved turn shelf next new after f = by-step
    (λ g. writes.Follows g wsize m file saved turn shelf next new after → after.silly ≡ shelf.silly)
    (λ call l. leads-silly _ _ shelf next new after l) (λ l. leads-silly _ _ shelf next new after l) ended told f
  where
    ended : (result : Result (Unit {0}) Fault) → writes.Follows (ends_as result) wsize m file saved turn shelf next new after → after.silly ≡ shelf.silly
    ended (Ok nothing) l = writes-silly _ wsize m.lane file m.offset (writes.made_bytes m.text) turn (record shelf { order = left m.lane shelf.order }) next new after l
    ended (Err fault) l = ap (λ (k : Shelf). k.silly) l.shelf_is

pub write-takes : (at : Writing) (wsize : ℕ) (m : WriteFile) (sent turn : Turn) (came : Result Reply Fault) (shelf : Shelf) (next : Step) (new : Writing) (after : Shelf)
    → writes.TakesIn at wsize m sent turn came shelf next new after → after.silly ≡ shelf.silly
write-takes writing.Idle wsize m sent turn came shelf next new after t = leads-silly nexts.Wait writing.Idle shelf next new after t
write-takes (writing.Room file saving) wsize m sent turn came shelf next new after t = follows-silly t.told wsize m file t.saved turn _ next new after t.follows

-- ---- syncs

queues-silly : (b : Bool) (wsize lane : ℕ) (turn : Turn) (saving : Saving) (old : Shelf) (next : Step) (state : Syncing) (new : Shelf)
    → syncs.QueuesIf b wsize lane turn saving old next state new → new.silly ≡ old.silly
queues-silly true wsize lane turn saving old next state new q = ap (λ (k : Shelf). k.silly) q.others
queues-silly false wsize lane turn saving old next state new q = ap (λ (k : Shelf). k.silly) q.shelf_is

pub sync-starts : (found : Option (List ℕ)) (wsize : ℕ) (m : SyncFile) (turn : Turn) (old : Shelf) (next : Step) (state : Syncing) (new : Shelf)
    → syncs.StartsAt found wsize m turn old next state new → new.silly ≡ old.silly
sync-starts None wsize m turn old next state new s = ap (λ (k : Shelf). k.silly) s.shelf_is
sync-starts (Some file) wsize m turn old next state new s =
    queues-silly (is_first m.lane (joined m.lane file old).order) wsize m.lane turn (saves.begun file old.seq) (joined m.lane file old) next state new s

pub sync-resumes : (at : Syncing) (wsize : ℕ) (m : SyncFile) (turn : Turn) (old : Shelf) (next : Step) (state : Syncing) (new : Shelf)
    → syncs.Resumes at wsize m turn old next state new → new.silly ≡ old.silly
sync-resumes syncing.Idle wsize m turn old next state new r = ap (λ (k : Shelf). k.silly) r.shelf_is
sync-resumes (syncing.Saves saving) wsize m turn old next state new r = queues-silly (is_first m.lane old.order) wsize m.lane turn saving old next state new r

pub sync-takes : (at : Syncing) (wsize : ℕ) (m : SyncFile) (sent turn : Turn) (came : Result Reply Fault) (old : Shelf) (next : Step) (state : Syncing) (new : Shelf)
    → syncs.Takes at wsize m sent turn came old next state new → new.silly ≡ old.silly
sync-takes syncing.Idle wsize m sent turn came old next state new t = ap (λ (k : Shelf). k.silly) t.shelf_is
sync-takes (syncing.Saves saving) wsize m sent turn came old next state new t = ap (λ (k : Shelf). k.silly) t.others

-- ---- truncates

pub truncate-starts : (found : Result (List ℕ) Fault) (m : TruncateFile) (old after : Shelf) → after ≡ truncates.begun_shelf found m old → after.silly ≡ old.silly
truncate-starts (Ok file) m old after is = ap (λ (k : Shelf). k.silly) is
truncate-starts (Err fault) m old after is = ap (λ (k : Shelf). k.silly) is

pub truncate-takes : (at : Truncating) (m : TruncateFile) (came : Result Reply Fault) (sent turn : Turn) (attrs : _) (back : Pending) (old after : Shelf)
    → after ≡ truncates.took_shelf at m came sent turn attrs back old → after.silly ≡ old.silly
truncate-takes truncating.Idle m came sent turn attrs back old after is = ap (λ (k : Shelf). k.silly) is
truncate-takes (truncating.Queued file upto) m came sent turn attrs back old after is = ap (λ (k : Shelf). k.silly) is
truncate-takes (truncating.Asked file upto) m came sent turn attrs back old after is = ap (λ (k : Shelf). k.silly) is

-- ---- puts

put-follows : (gives : _) (lane : ℕ) (saving : Saving) (old : Shelf) (next : Step) (state : Putting) (new : Shelf) → puts.Follows gives lane saving old next state new → new.silly ≡ old.silly
put-follows gives lane saving old next state new f = by-step (λ g. puts.Follows g lane saving old next state new → new.silly ≡ old.silly)
    (λ call l. ap (λ (k : Shelf). k.silly) l.2) (λ l. ap (λ (k : Shelf). k.silly) l.2) (λ result l. ap (λ (k : Shelf). k.silly) l.others) gives f

put-queues : (b : Bool) (wsize lane : ℕ) (turn : Turn) (saving : Saving) (old : Shelf) (next : Step) (state : Putting) (new : Shelf)
    → puts.QueuesIf b wsize lane turn saving old next state new → new.silly ≡ old.silly
put-queues true wsize lane turn saving old next state new q = put-follows q.gives lane q.saved q.gone next state new q.follows ∙ ap (λ (k : Shelf). k.silly) q.others
put-queues false wsize lane turn saving old next state new q = ap (λ (k : Shelf). k.silly) q.shelf_is

after-write : (told : Step) (wsize lane : ℕ) (file : List ℕ) (turn : Turn) (old : Shelf) (next : Step) (state : Putting) (new : Shelf)
    → puts.AfterWrite told wsize lane file turn old next state new → new.silly ≡ old.silly
after-write (nexts.Send call) wsize lane file turn old next state new a = ap (λ (k : Shelf). k.silly) a.2
after-write nexts.Wait wsize lane file turn old next state new a = ap (λ (k : Shelf). k.silly) a.2
after-write (nexts.Done (answers.Done value)) wsize lane file turn old next state new a =
    put-queues (is_first lane (joined lane file old).order) wsize lane turn (saves.begun file old.seq) (joined lane file old) next state new a
after-write (nexts.Done (answers.Refused fault)) wsize lane file turn old next state new a = ap (λ (k : Shelf). k.silly) a.others

pub put-resumes : (at : Putting) (wsize : ℕ) (m : PutFile) (turn : Turn) (old : Shelf) (next : Step) (new : PutFile) (after : Shelf)
    → puts.Resumes at wsize m turn old next new after → after.silly ≡ old.silly
put-resumes putting.Idle wsize m turn old next new after r = ap (λ (k : Shelf). k.silly) r.shelf_is
put-resumes putting.Opens wsize m turn old next new after r = ap (λ (k : Shelf). k.silly) r.2
put-resumes (putting.Adds file) wsize m turn old next new after r =
    after-write r.told wsize m.write.lane file turn r.mid next new.state after r.goes.follows ∙ write-resumes m.write.state wsize m.write.lane turn old r.told r.written r.mid r.resumes
put-resumes (putting.Saves saving) wsize m turn old next new after r = put-queues (is_first m.write.lane old.order) wsize m.write.lane turn saving old next new.state after r.0

after-opening : (step : OpeningStep) (wsize : ℕ) (m : PutFile) (turn : Turn) (old : Shelf) (next : Step) (new : PutFile) (after : Shelf)
    → puts.AfterOpening step wsize m turn old next new after → after.silly ≡ old.silly
after-opening (openings.Send call) wsize m turn old next new after a = ap (λ (k : Shelf). k.silly) a.2
after-opening openings.Wait wsize m turn old next new after a = ap (λ (k : Shelf). k.silly) a.shelf_is
after-opening (openings.Ended (Ok file)) wsize m turn old next new after a =
    after-write a.told wsize m.write.lane file turn a.mid next new.state after a.goes.follows
    ∙ writes-silly _ wsize m.write.lane file m.write.offset (writes.made_bytes m.write.text) turn (puts.put_at m.write.lane file old) a.told a.written a.mid a.writes
after-opening (openings.Ended (Err fault)) wsize m turn old next new after a = ap (λ (k : Shelf). k.silly) a.2

pub put-takes : (at : Putting) (wsize : ℕ) (m : PutFile) (sent turn : Turn) (came : Result Reply Fault) (old : Shelf) (next : Step) (new : PutFile) (after : Shelf)
    → puts.Takes at wsize m sent turn came old next new after → after.silly ≡ old.silly
put-takes putting.Idle wsize m sent turn came old next new after t = ap (λ (k : Shelf). k.silly) t.shelf_is
put-takes putting.Opens wsize m sent turn came old next new after t =
    after-opening t.step wsize _ turn t.took next new after t.follows ∙ ap (λ (k : Shelf). k.silly) t.others
put-takes (putting.Adds file) wsize m sent turn came old next new after t =
    after-write t.told wsize m.write.lane file turn t.mid next new.state after t.goes.follows ∙ write-takes m.write.state wsize m.write sent turn came old t.told t.written t.mid t.takes
put-takes (putting.Saves saving) wsize m sent turn came old next new after t =
    put-follows t.0.gives m.write.lane t.0.saved t.0.took next new.state after t.0.follows ∙ ap (λ (k : Shelf). k.silly) t.0.others
