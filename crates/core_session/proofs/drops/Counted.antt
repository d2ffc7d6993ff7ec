-- No step of an operation lowers the number of the last write.
use Rattle.core_session.proofs.Prelude.{◌≡◌, ◌≤◌, ◌+◌, ℕ, Bool, true, false, List, Option, Some, None, Result, Ok, Err, inl, inr, refl, ap, arith, Fault, Reply, Pending, left, is_first, Step, Shelf, Turn, OpeningStep, Saving, SyncFile, Syncing, TruncateFile, Truncating, WriteFile, Writing, joined, by-step, ends_as, PutFile, Putting}
use Rattle.world_model.specs.declared.answer.Answer.TheVariants as answers
use Rattle.client_shelf.specs.declared.step.Step.TheVariants as nexts
use Rattle.file_ops.specs.declared.opening.OpeningStep.TheVariants as openings
use Rattle.file_ops.specs.declared.sync_file.Syncing.TheVariants as syncing
use Rattle.file_ops.specs.declared.truncate_file.Truncating.TheVariants as truncating
use Rattle.file_ops.specs.declared.write_file.Writing.TheVariants as writing
use Rattle.file_ops.specs.Saves as saves
use Rattle.file_ops.specs.Syncs as syncs
use Rattle.file_ops.specs.TruncateFile as truncates
use Rattle.file_ops.specs.WriteFile as writes
use Rattle.file_ops.specs.declared.put_file.Putting.TheVariants as putting
use Rattle.file_ops.specs.PutFile as puts

-- the number of the last write is at least as high
abbrev pub Up : Shelf → Shelf → Type 0
Up new old = old.seq ≤ new.seq

pub up : {new old : Shelf} → new ≡ old → Up new old
up {new} {old} is = let same : new.seq ≡ old.seq = ap (λ (s : Shelf). s.seq) is in omega (arith, same)

pub level : {n o : ℕ} → n ≡ o → o ≤ n
level {n} {o} same = omega (arith, same)

pub on : {c b a : ℕ} → b ≤ c → a ≤ b → a ≤ c
on {c} {b} {a} two one = omega (arith, one, two)

-- ---- writes

leads-up : (to : Step) (state : Writing) (shelf : Shelf) (next : Step) (new : Writing) (after : Shelf) → writes.Leads to state shelf next new after → Up after shelf
leads-up to state shelf next new after l = (up l.shelf_is)

room-up : (told : _) (lane : ℕ) (shelf : Shelf) → Up (writes.room_shelf told lane shelf) shelf
room-up told lane shelf = by-step (λ g. Up (writes.room_shelf g lane shelf) shelf) (λ call. level {n = shelf.seq} {o = shelf.seq} refl) (level {n = shelf.seq} {o = shelf.seq} refl) ended told
  where
    ended : (result : Result (Unit {0}) Fault) → Up (writes.room_shelf (ends_as result) lane shelf) shelf
    ended (Ok nothing) = level {n = shelf.seq} {o = shelf.seq} refl
    ended (Err fault) = level {n = shelf.seq} {o = shelf.seq} refl

saves-up : (b : Bool) (wsize lane : ℕ) (file : List ℕ) (saving : Saving) (turn : Turn) (shelf : Shelf) (next : Step) (new : Writing) (after : Shelf)
    → writes.SavesIf b wsize lane file saving turn shelf next new after → Up after shelf
saves-up true wsize lane file saving turn shelf next new after s = on ((up s.leads.shelf_is)) (room-up s.told lane (record shelf { back = s.back }))
saves-up false wsize lane file saving turn shelf next new after s = leads-up nexts.Wait (writing.Room file saving) shelf next new after s

writes-up : (b : Bool) (wsize lane : ℕ) (file : List ℕ) (offset : ℕ) (bytes : List ℕ) (turn : Turn) (shelf : Shelf) (next : Step) (new : Writing) (after : Shelf)
    → writes.WritesIf b wsize lane file offset bytes turn shelf next new after → Up after shelf
writes-up true wsize lane file offset bytes turn shelf next new after (inl s) =
    saves-up (is_first lane (joined lane s.of shelf).order) wsize lane file (saves.begun s.of shelf.seq) turn (joined lane s.of shelf) next new after s.saves
writes-up true wsize lane file offset bytes turn shelf next new after (inr s) = leads-up _ _ shelf next new after s.1
writes-up false wsize lane file offset bytes turn shelf next new after (inl s) =
    let more : after.seq ≡ shelf.seq + 1 = ap (λ (k : Shelf). k.seq) s.leads.shelf_is in omega (arith, more)
writes-up false wsize lane file offset bytes turn shelf next new after (inr s) = leads-up _ _ shelf next new after s

pub write-starts : (found : Result (List ℕ) Fault) (wsize : ℕ) (m : WriteFile) (turn : Turn) (shelf : Shelf) (next : Step) (new : WriteFile) (after : Shelf)
    → writes.StartsAt found wsize m turn shelf next new after → Up after shelf
write-starts (Err fault) wsize m turn shelf next new after s = leads-up _ _ shelf next new.state after s.refuses
write-starts (Ok file) wsize m turn shelf next new after (inl s) = writes-up _ wsize m.lane file m.offset _ turn shelf next new.state after s.writes
write-starts (Ok file) wsize m turn shelf next new after (inr s) = leads-up _ _ shelf next new.state after s.refuses

pub write-resumes : (at : Writing) (wsize lane : ℕ) (turn : Turn) (shelf : Shelf) (next : Step) (new : Writing) (after : Shelf)
    → writes.ResumesIn at wsize lane turn shelf next new after → Up after shelf
write-resumes writing.Idle wsize lane turn shelf next new after r = leads-up nexts.Wait writing.Idle shelf next new after r
write-resumes (writing.Room file saving) wsize lane turn shelf next new after r = saves-up (is_first lane shelf.order) wsize lane file saving turn shelf next new after r

follows-up : (told : _) (wsize : ℕ) (m : WriteFile) (file : List ℕ) (saved : Saving) (turn : Turn) (shelf : Shelf) (next : Step) (new : Writing) (after : Shelf)
    → writes.Follows told wsize m file saved turn shelf next new after → Up after shelf
follows-up told wsize m file saved turn shelf next new after f = by-step
    (λ g. writes.Follows g wsize m file saved turn shelf next new after → Up after shelf)
    (λ call l. leads-up _ _ shelf next new after l) (λ l. leads-up _ _ shelf next new after l) ended told f
  where
    ended : (result : Result (Unit {0}) Fault) → writes.Follows (ends_as result) wsize m file saved turn shelf next new after → Up after shelf
    ended (Ok nothing) l = writes-up _ wsize m.lane file m.offset (writes.made_bytes m.text) turn (record shelf { order = left m.lane shelf.order }) next new after l
    ended (Err fault) l = (up l.shelf_is)

pub write-takes : (at : Writing) (wsize : ℕ) (m : WriteFile) (sent turn : Turn) (came : Result Reply Fault) (shelf : Shelf) (next : Step) (new : Writing) (after : Shelf)
    → writes.TakesIn at wsize m sent turn came shelf next new after → Up after shelf
write-takes writing.Idle wsize m sent turn came shelf next new after t = leads-up nexts.Wait writing.Idle shelf next new after t
write-takes (writing.Room file saving) wsize m sent turn came shelf next new after t = follows-up t.told wsize m file t.saved turn _ next new after t.follows

-- ---- syncs

queues-up : (b : Bool) (wsize lane : ℕ) (turn : Turn) (saving : Saving) (old : Shelf) (next : Step) (state : Syncing) (new : Shelf)
    → syncs.QueuesIf b wsize lane turn saving old next state new → Up new old
queues-up true wsize lane turn saving old next state new q = (up q.others)
queues-up false wsize lane turn saving old next state new q = (up q.shelf_is)

pub sync-starts : (found : Option (List ℕ)) (wsize : ℕ) (m : SyncFile) (turn : Turn) (old : Shelf) (next : Step) (state : Syncing) (new : Shelf)
    → syncs.StartsAt found wsize m turn old next state new → Up new old
sync-starts None wsize m turn old next state new s = (up s.shelf_is)
sync-starts (Some file) wsize m turn old next state new s =
    queues-up (is_first m.lane (joined m.lane file old).order) wsize m.lane turn (saves.begun file old.seq) (joined m.lane file old) next state new s

pub sync-resumes : (at : Syncing) (wsize : ℕ) (m : SyncFile) (turn : Turn) (old : Shelf) (next : Step) (state : Syncing) (new : Shelf)
    → syncs.Resumes at wsize m turn old next state new → Up new old
sync-resumes syncing.Idle wsize m turn old next state new r = (up r.shelf_is)
sync-resumes (syncing.Saves saving) wsize m turn old next state new r = queues-up (is_first m.lane old.order) wsize m.lane turn saving old next state new r

pub sync-takes : (at : Syncing) (wsize : ℕ) (m : SyncFile) (sent turn : Turn) (came : Result Reply Fault) (old : Shelf) (next : Step) (state : Syncing) (new : Shelf)
    → syncs.Takes at wsize m sent turn came old next state new → Up new old
sync-takes syncing.Idle wsize m sent turn came old next state new t = (up t.shelf_is)
sync-takes (syncing.Saves saving) wsize m sent turn came old next state new t = (up t.others)

-- ---- truncates

pub truncate-starts : (found : Result (List ℕ) Fault) (m : TruncateFile) (old after : Shelf) → after ≡ truncates.begun_shelf found m old → Up after old
truncate-starts (Ok file) m old after is = (up is)
truncate-starts (Err fault) m old after is = (up is)

pub truncate-takes : (at : Truncating) (m : TruncateFile) (came : Result Reply Fault) (sent turn : Turn) (attrs : _) (back : Pending) (old after : Shelf)
    → after ≡ truncates.took_shelf at m came sent turn attrs back old → Up after old
truncate-takes truncating.Idle m came sent turn attrs back old after is = (up is)
truncate-takes (truncating.Queued file upto) m came sent turn attrs back old after is = (up is)
truncate-takes (truncating.Asked file upto) m came sent turn attrs back old after is = (up is)

-- ---- puts

put-follows : (gives : _) (lane : ℕ) (saving : Saving) (old : Shelf) (next : Step) (state : Putting) (new : Shelf) → puts.Follows gives lane saving old next state new → Up new old
put-follows gives lane saving old next state new f = by-step (λ g. puts.Follows g lane saving old next state new → Up new old)
    (λ call l. (up l.2)) (λ l. (up l.2)) (λ result l. (up l.others)) gives f

put-queues : (b : Bool) (wsize lane : ℕ) (turn : Turn) (saving : Saving) (old : Shelf) (next : Step) (state : Putting) (new : Shelf)
    → puts.QueuesIf b wsize lane turn saving old next state new → Up new old
put-queues true wsize lane turn saving old next state new q = on (put-follows q.gives lane q.saved q.gone next state new q.follows) ((up q.others))
put-queues false wsize lane turn saving old next state new q = (up q.shelf_is)

after-write : (told : Step) (wsize lane : ℕ) (file : List ℕ) (turn : Turn) (old : Shelf) (next : Step) (state : Putting) (new : Shelf)
    → puts.AfterWrite told wsize lane file turn old next state new → Up new old
after-write (nexts.Send call) wsize lane file turn old next state new a = (up a.2)
after-write nexts.Wait wsize lane file turn old next state new a = (up a.2)
after-write (nexts.Done (answers.Done value)) wsize lane file turn old next state new a =
    put-queues (is_first lane (joined lane file old).order) wsize lane turn (saves.begun file old.seq) (joined lane file old) next state new a
after-write (nexts.Done (answers.Refused fault)) wsize lane file turn old next state new a = (up a.others)

pub put-resumes : (at : Putting) (wsize : ℕ) (m : PutFile) (turn : Turn) (old : Shelf) (next : Step) (new : PutFile) (after : Shelf)
    → puts.Resumes at wsize m turn old next new after → Up after old
put-resumes putting.Idle wsize m turn old next new after r = (up r.shelf_is)
put-resumes putting.Opens wsize m turn old next new after r = (up r.2)
put-resumes (putting.Adds file) wsize m turn old next new after r =
    on (after-write r.told wsize m.write.lane file turn r.mid next new.state after r.goes.follows) (write-resumes m.write.state wsize m.write.lane turn old r.told r.written r.mid r.resumes)
put-resumes (putting.Saves saving) wsize m turn old next new after r = put-queues (is_first m.write.lane old.order) wsize m.write.lane turn saving old next new.state after r.0

after-opening : (step : OpeningStep) (wsize : ℕ) (m : PutFile) (turn : Turn) (old : Shelf) (next : Step) (new : PutFile) (after : Shelf)
    → puts.AfterOpening step wsize m turn old next new after → Up after old
after-opening (openings.Send call) wsize m turn old next new after a = (up a.2)
after-opening openings.Wait wsize m turn old next new after a = (up a.shelf_is)
after-opening (openings.Ended (Ok file)) wsize m turn old next new after a =
    on (after-write a.told wsize m.write.lane file turn a.mid next new.state after a.goes.follows) (writes-up _ wsize m.write.lane file m.write.offset (writes.made_bytes m.write.text) turn (puts.put_at m.write.lane file old) a.told a.written a.mid a.writes)
after-opening (openings.Ended (Err fault)) wsize m turn old next new after a = (up a.2)

pub put-takes : (at : Putting) (wsize : ℕ) (m : PutFile) (sent turn : Turn) (came : Result Reply Fault) (old : Shelf) (next : Step) (new : PutFile) (after : Shelf)
    → puts.Takes at wsize m sent turn came old next new after → Up after old
put-takes putting.Idle wsize m sent turn came old next new after t = (up t.shelf_is)
put-takes putting.Opens wsize m sent turn came old next new after t =
    on (after-opening t.step wsize _ turn t.took next new after t.follows) ((up t.others))
put-takes (putting.Adds file) wsize m sent turn came old next new after t =
    on (after-write t.told wsize m.write.lane file turn t.mid next new.state after t.goes.follows) (write-takes m.write.state wsize m.write sent turn came old t.told t.written t.mid t.takes)
put-takes (putting.Saves saving) wsize m sent turn came old next new after t =
    on (put-follows t.0.gives m.write.lane t.0.saved t.0.took next new.state after t.0.follows) ((up t.0.others))
