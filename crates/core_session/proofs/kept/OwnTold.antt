-- After the reply to an own WRITE the pages of its file follow what it tells.
use Rattle.core_session.proofs.Prelude.{◌≡◌, ◌-◌, ◌||◌, ◌==◌, ℕ, Bool, true, false, List, [], length, take, Option, Some, None, Result, Ok, Err, inl, inr, refl, sym, ap, subst, ◌∙◌, if◌then◌else◌, Verf, Wcc, FileKept, Pages, Fault, Reply, of_file, piece_under, is_first, Step, Shelf, Turn, Closing, CloseFile, PutFile, Putting, Saving, SyncFile, Syncing, WriteFile, Writing, is_full, refusal_of, written_by, write_told, joined, by-step, ends_as, FileMachine, Machine, PathMachine, file_of, Takes, flies_if, flies_save, flies_write, flies_sync, flies_close, flies_put, flies_file, flies_path, flies_of}
use Rattle.std.proofs.Common.{nat_lt}
use Rattle.page_cache.specs.Pages.{wrote}
use Rattle.write_back.specs.Pieces.{Sent}
use Rattle.file_ops.specs.Judging.{write_told_by}
use Rattle.nfs_file_calls.specs.declared.owned.FileKept.TheVariants as kept
use Rattle.world_model.specs.declared.answer.Answer.TheVariants as answers
use Rattle.world_model.specs.declared.message.Reply.TheVariants as replies
use Rattle.client_shelf.specs.Unmade.{is_unmade, came_unmade}
use Rattle.client_shelf.specs.declared.step.Step.TheVariants as nexts
use Rattle.file_ops.specs.declared.close_file.Closing.TheVariants as closing
use Rattle.file_ops.specs.declared.put_file.Putting.TheVariants as putting
use Rattle.file_ops.specs.declared.sync_file.Syncing.TheVariants as syncing
use Rattle.file_ops.specs.declared.write_file.Writing.TheVariants as writing
use Rattle.file_ops.specs.Closes as closes
use Rattle.file_ops.specs.PutFile as puts
use Rattle.file_ops.specs.Saves as saves
use Rattle.file_ops.specs.Syncs as syncs
use Rattle.file_ops.specs.WriteFile as writes
use Rattle.file_ops.proofs.Failed.{failed-made, failed-unmade}
use Rattle.op_machines.specs.declared.file_machine.FileMachine.TheVariants as files
use Rattle.op_machines.specs.FileSteps as steps
use Rattle.core_answers.proofs.pages.NamePages.{SamePages, kept-as}
use Rattle.op_machines.specs.declared.machine.Machine.TheVariants as machines
use Rattle.op_machines.specs.PathSteps as paths

-- ---- what leaves them, as `current.FedPages` of core_session

then-same : (a b c : Shelf) → SamePages a b → SamePages b c → SamePages a c
then-same a b c f g = g ∙ f

-- ---- writes

room-same : (told : _) (lane : ℕ) (shelf : Shelf) → SamePages shelf (writes.room_shelf told lane shelf)
room-same told lane shelf = by-step (λ g. SamePages shelf (writes.room_shelf g lane shelf)) (λ call. refl) refl ended told
  where
    ended : (result : Result (Unit {0}) Fault) → SamePages shelf (writes.room_shelf (ends_as result) lane shelf)
    ended (Ok done) = refl
    ended (Err fault) = refl

saves-same : (b : Bool) (wsize lane : ℕ) (file : List ℕ) (saving : Saving) (turn : Turn) (shelf : Shelf) (next : Step) (new : Writing) (after : Shelf)
    → writes.SavesIf b wsize lane file saving turn shelf next new after → SamePages shelf after
saves-same true wsize lane file saving turn shelf next new after s =
    kept-as shelf (writes.room_shelf s.told lane (record shelf { back = s.back })) after s.leads.shelf_is (room-same s.told lane (record shelf { back = s.back }))
saves-same false wsize lane file saving turn shelf next new after s = kept-as shelf shelf after s.shelf_is refl

writes-same : (b : Bool) (wsize lane : ℕ) (file : List ℕ) (offset : ℕ) (bytes : List ℕ) (turn : Turn) (shelf : Shelf) (next : Step) (new : Writing) (after : Shelf)
    → writes.WritesIf b wsize lane file offset bytes turn shelf next new after → SamePages shelf after
writes-same true wsize lane file offset bytes turn shelf next new after (inl s) =
    saves-same (is_first lane (joined lane s.of shelf).order) wsize lane file (saves.begun s.of shelf.seq) turn (joined lane s.of shelf) next new after s.saves
writes-same true wsize lane file offset bytes turn shelf next new after (inr s) = kept-as shelf shelf after s.1.shelf_is refl
writes-same false wsize lane file offset bytes turn shelf next new after (inl a) = ap (λ (s : Shelf). s.pages) a.leads.shelf_is
writes-same false wsize lane file offset bytes turn shelf next new after (inr s) = kept-as shelf shelf after s.shelf_is refl

write-follows : (told : _) (wsize : ℕ) (m : WriteFile) (file : List ℕ) (saved : Saving) (turn : Turn) (shelf : Shelf) (next : Step) (new : Writing) (after : Shelf)
    → writes.Follows told wsize m file saved turn shelf next new after → SamePages shelf after
write-follows told wsize m file saved turn shelf next new after f = by-step
    (λ g. writes.Follows g wsize m file saved turn shelf next new after → SamePages shelf after)
    (λ call l. kept-as shelf shelf after l.shelf_is refl) (λ l. kept-as shelf shelf after l.shelf_is refl) ended told f
  where
    ended : (result : Result (Unit {0}) Fault) → writes.Follows (ends_as result) wsize m file saved turn shelf next new after → SamePages shelf after
    ended (Ok done) l = writes-same (is_full (writes.made_bytes m.text) shelf.back) wsize m.lane file m.offset (writes.made_bytes m.text) turn _ next new after l
    ended (Err fault) l = kept-as shelf (writes.room_shelf (ends_as (Err fault)) m.lane shelf) after l.shelf_is refl

close-ends-at : (place : Option (List ℕ × List ℕ)) (lane : ℕ) (room : Bool) (file : List ℕ) (why : Option Fault) (old : Shelf) (next : Step) (state : Closing) (new : Shelf)
    → closes.EndsAt place lane room file why old next state new → SamePages old new
close-ends-at None lane room file why old next state new e = ap (λ (s : Shelf). s.pages) e.others
close-ends-at (Some place) lane room file why old next state new e = kept-as old old new e.shelf_is refl

close-frees : (lane slot : ℕ) (room : Bool) (file : List ℕ) (why : Option Fault) (old : Shelf) (next : Step) (state : Closing) (new : Shelf)
    → closes.Frees lane slot room file why old next state new → SamePages old new
close-frees lane slot room file why old next state new f =
    then-same old f.freed new (ap (λ (s : Shelf). s.pages) f.slot_is) (close-ends-at f.place lane room file why f.freed next state new f.ends)

close-follows : (gives : _) (lane slot : ℕ) (room begun : Bool) (saving : Saving) (old : Shelf) (next : Step) (state : Closing) (new : Shelf)
    → closes.Follows gives lane slot room begun saving old next state new → SamePages old new
close-follows gives lane slot room begun saving old next state new f = by-step
    (λ g. closes.Follows g lane slot room begun saving old next state new → SamePages old new)
    (λ call l. kept-as old old new l.2 refl) (λ l. kept-as old old new l.2 refl)
    (λ result l. close-frees lane slot room saving.file (refusal_of result) old next state new l) gives f

put-ends : (lane : ℕ) (file : List ℕ) (why : Option Fault) (old : Shelf) (next : Step) (state : Putting) (new : Shelf) → puts.Ends lane file why old next state new → SamePages old new
put-ends lane file why old next state new e = ap (λ (s : Shelf). s.pages) e.others

put-follows : (gives : _) (lane : ℕ) (saving : Saving) (old : Shelf) (next : Step) (state : Putting) (new : Shelf) → puts.Follows gives lane saving old next state new → SamePages old new
put-follows gives lane saving old next state new f = by-step
    (λ g. puts.Follows g lane saving old next state new → SamePages old new)
    (λ call l. kept-as old old new l.2 refl) (λ l. kept-as old old new l.2 refl)
    (λ result l. put-ends lane saving.file (refusal_of result) old next state new l) gives f

put-queues : (b : Bool) (wsize lane : ℕ) (turn : Turn) (saving : Saving) (old : Shelf) (next : Step) (state : Putting) (new : Shelf)
    → puts.QueuesIf b wsize lane turn saving old next state new → SamePages old new
put-queues true wsize lane turn saving old next state new q =
    then-same old q.gone new (ap (λ (s : Shelf). s.pages) q.others) (put-follows q.gives lane q.saved q.gone next state new q.follows)
put-queues false wsize lane turn saving old next state new q = kept-as old old new q.shelf_is refl

after-write : (told : Step) (wsize lane : ℕ) (file : List ℕ) (turn : Turn) (old : Shelf) (next : Step) (state : Putting) (new : Shelf)
    → puts.AfterWrite told wsize lane file turn old next state new → SamePages old new
after-write (nexts.Send call) wsize lane file turn old next state new a = kept-as old old new a.2 refl
after-write nexts.Wait wsize lane file turn old next state new a = kept-as old old new a.2 refl
after-write (nexts.Done (answers.Done value)) wsize lane file turn old next state new a =
    put-queues (is_first lane (joined lane file old).order) wsize lane turn (saves.begun file old.seq) (joined lane file old) next state new a
after-write (nexts.Done (answers.Refused fault)) wsize lane file turn old next state new a = put-ends lane file (Some fault) old next state new a

-- a put that adds its bytes, or makes room for them
pub added-same : (wsize : ℕ) (m : PutFile) (file : List ℕ) (turn : Turn) (old : Shelf) (next : Step) (new : PutFile) (after : Shelf) → puts.AddsBytes wsize m file turn old next new after
    → SamePages old after
added-same wsize m file turn old next new after a =
    after-write a.told wsize m.write.lane file turn a.mid next new.state after a.goes.follows
    ∙ writes-same (is_full (writes.made_bytes m.write.text) (puts.put_at m.write.lane file old).back) wsize m.write.lane file m.write.offset (writes.made_bytes m.write.text) turn
    (puts.put_at m.write.lane file old) a.told a.written a.mid a.writes

-- ---- the reply

none-flies : {X : Type 0} → (f : List ℕ) → None ≡ Some f → X
none-flies f e = absurd (let no_way : None ≡ Some f = e in cc)

one-file : (a b : List ℕ) → Some a ≡ Some b → a ≡ b
one-file a b e = cc

module _ (T : Pages → Type 0) (f : List ℕ) (came : Result Reply Fault) (sent turn : Turn) (old : Shelf) (unmade : came_unmade came ≡ true → T old.pages)
    (drops : came_unmade came ≡ false → T (wrote f saves.untold 0 [] (turn.moment - 1) old.pages))
    (writes_ : (offset : ℕ) (bytes : List ℕ) (wcc : Wcc) (count committed : ℕ) (verf : Verf) → came ≡ Ok (replies.File (kept.Write wcc count committed verf))
    → T (wrote f wcc offset bytes (turn.moment - 1) old.pages)) where
  as-pages : (a b : Pages) → b ≡ a → T a → T b
  as-pages a b is t = subst T (sym is) t

  as-shelf : (a b : Shelf) → SamePages a b → T a.pages → T b.pages
  as-shelf a b is t = as-pages a.pages b.pages is t

  written-pages : (offset : ℕ) (bytes : List ℕ) (how size : ℕ) (wcc : Wcc) (count committed : ℕ) (verf : Verf) → came ≡ Ok (replies.File (kept.Write wcc count committed verf))
      → T (saves.pages_told f offset bytes (turn.moment - 1) (written_by how size wcc count committed verf) old.pages)
  written-pages offset bytes how size wcc count committed verf is = by (nat_lt committed how || nat_lt 2 committed) ((count == 0) || nat_lt size count) refl refl
    where
      by : (a b : Bool) → (nat_lt committed how || nat_lt 2 committed) ≡ a → ((count == 0) || nat_lt size count) ≡ b
          → T (saves.pages_told f offset bytes (turn.moment - 1) (written_by how size wcc count committed verf) old.pages)
      by true b ea eb = rw ea (drops (ap came_unmade is))
      by false true ea eb = rw (ea, eb) (drops (ap came_unmade is))
      by false false ea eb = rw (ea, eb) (writes_ offset (take count bytes) wcc count committed verf is)

  file-told : (k : FileKept) (offset : ℕ) (bytes : List ℕ) (how size : ℕ) → came ≡ Ok (replies.File k)
      → T (saves.pages_told f offset bytes (turn.moment - 1) (write_told_by how size k) old.pages)
  file-told (kept.Write wcc count committed verf) offset bytes how size is = written-pages offset bytes how size wcc count committed verf is
  file-told (kept.WriteFail status wcc) offset bytes how size is = drops (ap came_unmade is)
  file-told k offset bytes how size is = drops (ap came_unmade is)

  pages-told : (what : Result Reply Fault) (offset : ℕ) (bytes : List ℕ) (how size : ℕ) → came ≡ what
      → T (saves.pages_told f offset bytes (turn.moment - 1) (write_told how size what) old.pages)
  pages-told (Ok (replies.File k)) offset bytes how size is = file-told k offset bytes how size is
  pages-told (Ok (replies.Dir k)) offset bytes how size is = drops (ap came_unmade is)
  pages-told (Ok (replies.Mount k)) offset bytes how size is = drops (ap came_unmade is)
  pages-told (Err fault) offset bytes how size is = by (is_unmade fault) refl
    where
      by : (b : Bool) → is_unmade fault ≡ b → T (saves.pages_failed f (turn.moment - 1) fault old.pages)
      by true e = failed-unmade T f (turn.moment - 1) fault old.pages e (unmade (ap came_unmade is ∙ e))
      by false e = failed-made T f (turn.moment - 1) fault old.pages e (drops (ap came_unmade is ∙ e))

  -- a save that sends bytes of the file
  saved-pages : (s : Saving) → flies_save s ≡ Some f → T (saves.pages_after sent.xid (turn.moment - 1) came s old.back old.pages)
  saved-pages s flies = by (saves.is_sending s.phase) refl flies
    where
      o : Option Sent
      o = piece_under sent.xid (of_file s.file old.back).pieces

      by : (b : Bool) → saves.is_sending s.phase ≡ b → flies_if b s.file ≡ Some f
          → T (if b then saves.pages_told s.file (saves.answered sent.xid s.file old.back).offset (saves.answered sent.xid s.file old.back).bytes (turn.moment - 1)
          (saves.told_of sent.xid s.file old.back came) old.pages else old.pages)
      by true is e =
          subst (λ (g : List ℕ). T (saves.pages_told g (saves.answered sent.xid s.file old.back).offset (saves.answered sent.xid s.file old.back).bytes (turn.moment - 1)
          (saves.told_of sent.xid s.file old.back came) old.pages)) (sym (one-file s.file f e))
          (pages-told came (saves.answered sent.xid s.file old.back).offset (saves.answered sent.xid s.file old.back).bytes (saves.answered sent.xid s.file old.back).how
          (length (saves.answered sent.xid s.file old.back).bytes) refl)
      by false is e = none-flies f e

  write-takes : (at : Writing) (wsize : ℕ) (m : WriteFile) (next : Step) (new : Writing) (after : Shelf) → flies_write at ≡ Some f → writes.TakesIn at wsize m sent turn came old next new after → T after.pages
  write-takes writing.Idle wsize m next new after flies p = none-flies f flies
  write-takes (writing.Room file s) wsize m next new after flies p = as-pages _ after.pages (write-follows p.told wsize m file p.saved turn _ next new after p.follows) (saved-pages s flies)

  sync-takes : (at : Syncing) (wsize : ℕ) (m : SyncFile) (next : Step) (new : Syncing) (after : Shelf) → flies_sync at ≡ Some f → syncs.Takes at wsize m sent turn came old next new after → T after.pages
  sync-takes syncing.Idle wsize m next new after flies p = none-flies f flies
  sync-takes (syncing.Saves s) wsize m next new after flies p = as-pages _ after.pages p.pages (saved-pages s flies)

  close-takes : (at : Closing) (wsize : ℕ) (m : CloseFile) (next : Step) (state : Closing) (after : Shelf) → flies_close at ≡ Some f → closes.Takes at wsize m sent turn came old next state after → T after.pages
  close-takes closing.Idle wsize m next state after flies p = none-flies f flies
  close-takes (closing.Queued s) wsize m next state after flies p = none-flies f flies
  close-takes (closing.Saves s) wsize m next state after flies p =
      as-shelf p.took after (close-follows p.gives m.lane m.slot turn.room true p.saved p.took next state after p.follows) (as-pages _ p.took.pages p.pages (saved-pages s flies))
  close-takes (closing.ToRemove removal) wsize m next state after flies p = none-flies f flies
  close-takes (closing.Removing removal) wsize m next state after flies p = none-flies f flies

  put-takes : (at : Putting) (wsize : ℕ) (m : PutFile) (next : Step) (new : PutFile) (after : Shelf) → flies_put at m.write.state ≡ Some f → puts.Takes at wsize m sent turn came old next new after → T after.pages
  put-takes putting.Idle wsize m next new after flies p = none-flies f flies
  put-takes putting.Opens wsize m next new after flies p = none-flies f flies
  put-takes (putting.Adds file) wsize m next new after flies p =
      as-shelf p.mid after (after-write p.told wsize m.write.lane file turn p.mid next new.state after p.goes.follows)
      (write-takes m.write.state wsize m.write p.told p.written p.mid flies p.takes)
  put-takes (putting.Saves s) wsize m next new after flies p =
      as-shelf p.0.took after (put-follows p.0.gives m.write.lane p.0.saved p.0.took next new.state after p.0.follows)
      (as-pages _ p.0.took.pages p.0.pages (saved-pages s flies))

  file-takes : (m : FileMachine) (wsize : ℕ) (next : Step) (new : FileMachine) (after : Shelf) → flies_file m ≡ Some f → steps.Takes wsize m sent turn came old next new after → T after.pages
  file-takes (files.Open m) wsize next new after flies p = none-flies f flies
  file-takes (files.Read m) wsize next new after flies p = none-flies f flies
  file-takes (files.Write m) wsize next new after flies p = write-takes m.state wsize m next p.state after flies p.step
  file-takes (files.Sync m) wsize next new after flies p = sync-takes m.state wsize m next p.state after flies p.step
  file-takes (files.Close m) wsize next new after flies p = close-takes m.state wsize m next p.state after flies p.step
  file-takes (files.Truncate m) wsize next new after flies p = none-flies f flies
  file-takes (files.Put m) wsize next new after flies p = put-takes m.state wsize m next p.machine after flies p.step

  path-takes : (b : Bool) (wsize : ℕ) (m : PathMachine) (next : Step) (new : PathMachine) (after : Shelf) → flies_path b m.opener ≡ Some f → paths.PathTakes b wsize m sent turn came old next new after → T after.pages
  path-takes true wsize m next new after flies p = file-takes (file_of m.opener) wsize next (file_of p.opener) after flies p.step
  path-takes false wsize m next new after flies p = none-flies f flies

  pub takes-wrote : (m : Machine) (wsize : ℕ) (next : Step) (new : Machine) (after : Shelf) → flies_of m ≡ Some f → Takes wsize m sent turn came old next new after → T after.pages
  takes-wrote (machines.File m) wsize next new after flies s = file-takes m wsize next s.machine after flies s.step
  takes-wrote (machines.Path m) wsize next new after flies s = path-takes m.arrived wsize m next s.machine after flies s.step
  takes-wrote (machines.Name m) wsize next new after flies s = none-flies f flies
