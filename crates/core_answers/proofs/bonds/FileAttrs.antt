-- What an operation on files learns of attributes was shown by what came of its call.
use Rattle.core_answers.proofs.Prelude.{◌≡◌, ℕ, Bool, true, false, List, Option, Some, None, Result, Ok, Err, inl, inr, refl, ap, ◌∙◌, if◌then◌else◌, Attrs, KeptAttr, Attr, DirKept, FileKept, Fault, Call, Reply, of_object, of_file, last_end, is_first, goes_again, Step, Shelf, Turn, Closing, CloseFile, Removal, Opening, OpeningStep, OpeningPhase, PutFile, Putting, Phase, Reading, Saving, SyncFile, Syncing, TruncateFile, Truncating, WriteFile, Writing, is_full, remove_busy, refusal_of, file_to_write, part, refusal, said_to, breaks_rule, file_at, joined, got_by, by-step, ends_as, FileMachine}
use Rattle.claims.specs.Shown.{of_given}
use Rattle.file_ops.specs.Closings.{removed_of}
use Rattle.nfs_dir_calls.specs.declared.keeping.DirKept.TheVariants as dir_kept
use Rattle.nfs_file_calls.specs.declared.owned.FileKept.TheVariants as kept
use Rattle.world_model.specs.declared.answer.Answer.TheVariants as answers
use Rattle.world_model.specs.declared.answer.Fault.TheVariants as faults
use Rattle.world_model.specs.declared.message.Reply.TheVariants as replies
use Rattle.client_shelf.specs.Learning.{Learns}
use Rattle.client_shelf.specs.Unmade.{is_unmade, came_unmade}
use Rattle.client_shelf.specs.declared.step.Step.TheVariants as nexts
use Rattle.file_ops.specs.declared.close_file.Closing.TheVariants as closing
use Rattle.file_ops.specs.declared.opening.OpeningStep.TheVariants as openings
use Rattle.file_ops.specs.declared.opening.OpeningPhase.TheVariants as opening_steps
use Rattle.file_ops.specs.declared.put_file.Putting.TheVariants as putting
use Rattle.file_ops.specs.declared.reading.Phase.TheVariants as phases
use Rattle.file_ops.specs.declared.sync_file.Syncing.TheVariants as syncing
use Rattle.file_ops.specs.declared.truncate_file.Truncating.TheVariants as truncating
use Rattle.file_ops.specs.declared.write_file.Writing.TheVariants as writing
use Rattle.file_ops.specs.Closes as closes
use Rattle.file_ops.specs.Judging.{after_of}
use Rattle.file_ops.specs.Opening as opening
use Rattle.file_ops.specs.PutFile as puts
use Rattle.file_ops.specs.ReadFile as reads
use Rattle.file_ops.specs.Reading as reading
use Rattle.file_ops.specs.Saves as saves
use Rattle.file_ops.specs.Syncs as syncs
use Rattle.file_ops.specs.TruncateFile as truncates
use Rattle.file_ops.specs.WriteFile as writes
use Rattle.op_machines.specs.declared.file_machine.FileMachine.TheVariants as files
use Rattle.op_machines.specs.FileSteps as steps
use Rattle.core_answers.proofs.bonds.Learnt.{IsOn, Good, May, Tells, MayOf, good-as, learns-good, renews-good, renews-unless}
use Rattle.core_answers.proofs.bonds.NameAttrs.{SameAttrs, same-as}
use Rattle.core_answers.proofs.bonds.FileCalls.{StepOn, ReadOn, SaveOn, WriteOn, SyncOn, CloseOn, TruncateOn, PutOn, FileAsks}

-- ---- steps that learn nothing

then-same : (a b c : Shelf) → SameAttrs a b → SameAttrs b c → SameAttrs a c
then-same a b c f g = g ∙ f

-- ---- writes

room-same : (told : _) (lane : ℕ) (shelf : Shelf) → SameAttrs shelf (writes.room_shelf told lane shelf)
room-same told lane shelf = by-step (λ g. SameAttrs shelf (writes.room_shelf g lane shelf)) (λ call. refl) refl ended told
  where
    ended : (result : Result (Unit {0}) Fault) → SameAttrs shelf (writes.room_shelf (ends_as result) lane shelf)
    ended (Ok done) = refl
    ended (Err fault) = refl

saves-same : (b : Bool) (wsize lane : ℕ) (file : List ℕ) (saving : Saving) (turn : Turn) (shelf : Shelf) (next : Step) (new : Writing) (after : Shelf)
    → writes.SavesIf b wsize lane file saving turn shelf next new after → SameAttrs shelf after
saves-same true wsize lane file saving turn shelf next new after s =
    same-as shelf (writes.room_shelf s.told lane (record shelf { back = s.back })) after s.leads.shelf_is (room-same s.told lane (record shelf { back = s.back }))
saves-same false wsize lane file saving turn shelf next new after s = same-as shelf shelf after s.shelf_is refl

pub writes-same : (b : Bool) (wsize lane : ℕ) (file : List ℕ) (offset : ℕ) (bytes : List ℕ) (turn : Turn) (shelf : Shelf) (next : Step) (new : Writing) (after : Shelf)
    → writes.WritesIf b wsize lane file offset bytes turn shelf next new after → SameAttrs shelf after
writes-same true wsize lane file offset bytes turn shelf next new after (inl s) =
    saves-same (is_first lane (joined lane s.of shelf).order) wsize lane file (saves.begun s.of shelf.seq) turn (joined lane s.of shelf) next new after s.saves
writes-same true wsize lane file offset bytes turn shelf next new after (inr s) = same-as shelf shelf after s.1.shelf_is refl
writes-same false wsize lane file offset bytes turn shelf next new after (inl a) = ap (λ (s : Shelf). s.attrs) a.leads.shelf_is
writes-same false wsize lane file offset bytes turn shelf next new after (inr s) = same-as shelf shelf after s.shelf_is refl

write-starts : (found : Result (List ℕ) Fault) (wsize : ℕ) (m : WriteFile) (turn : Turn) (old : Shelf) (next : Step) (new : WriteFile) (after : Shelf)
    → writes.StartsAt found wsize m turn old next new after → SameAttrs old after
write-starts (Err fault) wsize m turn old next new after s = same-as old old after s.refuses.shelf_is refl
write-starts (Ok file) wsize m turn old next new after (inl s) =
    writes-same (is_full (writes.text_bytes m.text) old.back) wsize m.lane file m.offset (writes.text_bytes m.text) turn old next new.state after s.writes
write-starts (Ok file) wsize m turn old next new after (inr s) = same-as old old after s.refuses.shelf_is refl

pub write-resumes : (at : Writing) (wsize lane : ℕ) (turn : Turn) (old : Shelf) (next : Step) (new : Writing) (after : Shelf) → writes.ResumesIn at wsize lane turn old next new after
    → SameAttrs old after
write-resumes writing.Idle wsize lane turn old next new after r = same-as old old after r.shelf_is refl
write-resumes (writing.Room file saving) wsize lane turn old next new after r = saves-same (is_first lane old.order) wsize lane file saving turn old next new after r

write-follows : (told : _) (wsize : ℕ) (m : WriteFile) (file : List ℕ) (saved : Saving) (turn : Turn) (shelf : Shelf) (next : Step) (new : Writing) (after : Shelf)
    → writes.Follows told wsize m file saved turn shelf next new after → SameAttrs shelf after
write-follows told wsize m file saved turn shelf next new after f = by-step
    (λ g. writes.Follows g wsize m file saved turn shelf next new after → SameAttrs shelf after)
    (λ call l. same-as shelf shelf after l.shelf_is refl) (λ l. same-as shelf shelf after l.shelf_is refl) ended told f
  where
    ended : (result : Result (Unit {0}) Fault) → writes.Follows (ends_as result) wsize m file saved turn shelf next new after → SameAttrs shelf after
    ended (Ok done) l = writes-same (is_full (writes.made_bytes m.text) shelf.back) wsize m.lane file m.offset (writes.made_bytes m.text) turn _ next new after l
    ended (Err fault) l = same-as shelf (writes.room_shelf (ends_as (Err fault)) m.lane shelf) after l.shelf_is refl

-- ---- syncs

sync-queues : (b : Bool) (wsize lane : ℕ) (turn : Turn) (saving : Saving) (old : Shelf) (next : Step) (state : Syncing) (new : Shelf)
    → syncs.QueuesIf b wsize lane turn saving old next state new → SameAttrs old new
sync-queues true wsize lane turn saving old next state new q = ap (λ (s : Shelf). s.attrs) q.others
sync-queues false wsize lane turn saving old next state new q = same-as old old new q.shelf_is refl

sync-starts : (found : Option (List ℕ)) (wsize : ℕ) (m : SyncFile) (turn : Turn) (old : Shelf) (next : Step) (state : Syncing) (new : Shelf)
    → syncs.StartsAt found wsize m turn old next state new → SameAttrs old new
sync-starts None wsize m turn old next state new s = same-as old old new s.shelf_is refl
sync-starts (Some file) wsize m turn old next state new s =
    sync-queues (is_first m.lane (joined m.lane file old).order) wsize m.lane turn (saves.begun file old.seq) (joined m.lane file old) next state new s

sync-resumes : (at : Syncing) (wsize : ℕ) (m : SyncFile) (turn : Turn) (old : Shelf) (next : Step) (state : Syncing) (new : Shelf)
    → syncs.Resumes at wsize m turn old next state new → SameAttrs old new
sync-resumes syncing.Idle wsize m turn old next state new r = same-as old old new r.shelf_is refl
sync-resumes (syncing.Saves saving) wsize m turn old next state new r = sync-queues (is_first m.lane old.order) wsize m.lane turn saving old next state new r

-- ---- closes

close-ends-at : (place : Option (List ℕ × List ℕ)) (lane : ℕ) (room : Bool) (file : List ℕ) (why : Option Fault) (old : Shelf) (next : Step) (state : Closing) (new : Shelf)
    → closes.EndsAt place lane room file why old next state new → SameAttrs old new
close-ends-at None lane room file why old next state new e = ap (λ (s : Shelf). s.attrs) e.others
close-ends-at (Some place) lane room file why old next state new e = same-as old old new e.shelf_is refl

close-frees : (lane slot : ℕ) (room : Bool) (file : List ℕ) (why : Option Fault) (old : Shelf) (next : Step) (state : Closing) (new : Shelf)
    → closes.Frees lane slot room file why old next state new → SameAttrs old new
close-frees lane slot room file why old next state new f =
    then-same old f.freed new (ap (λ (s : Shelf). s.attrs) f.slot_is) (close-ends-at f.place lane room file why f.freed next state new f.ends)

close-follows : (gives : _) (lane slot : ℕ) (room begun : Bool) (saving : Saving) (old : Shelf) (next : Step) (state : Closing) (new : Shelf)
    → closes.Follows gives lane slot room begun saving old next state new → SameAttrs old new
close-follows gives lane slot room begun saving old next state new f = by-step
    (λ g. closes.Follows g lane slot room begun saving old next state new → SameAttrs old new)
    (λ call l. same-as old old new l.2 refl) (λ l. same-as old old new l.2 refl)
    (λ result l. close-frees lane slot room saving.file (refusal_of result) old next state new l) gives f

close-on : (wsize lane slot : ℕ) (turn : Turn) (begun : Bool) (saving : Saving) (old : Shelf) (next : Step) (state : Closing) (new : Shelf)
    → closes.GoesOn wsize lane slot turn begun saving old next state new → SameAttrs old new
close-on wsize lane slot turn begun saving old next state new g =
    then-same old g.gone new (ap (λ (s : Shelf). s.attrs) g.others) (close-follows g.gives lane slot turn.room begun g.saved g.gone next state new g.follows)

close-begins : (end : Option ℕ) (wsize lane slot : ℕ) (turn : Turn) (saving : Saving) (old : Shelf) (next : Step) (state : Closing) (new : Shelf)
    → closes.Begins end wsize lane slot turn saving old next state new → SameAttrs old new
close-begins None wsize lane slot turn saving old next state new b = close-frees lane slot turn.room saving.file None old next state new b
close-begins (Some end) wsize lane slot turn saving old next state new b = close-on wsize lane slot turn false saving old next state new b

close-queues : (b : Bool) (wsize lane slot : ℕ) (turn : Turn) (saving : Saving) (old : Shelf) (next : Step) (state : Closing) (new : Shelf)
    → closes.QueuesIf b wsize lane slot turn saving old next state new → SameAttrs old new
close-queues true wsize lane slot turn saving old next state new q = close-begins (last_end (of_file saving.file old.back).segments) wsize lane slot turn saving old next state new q
close-queues false wsize lane slot turn saving old next state new q = same-as old old new q.shelf_is refl

close-starts : (found : Option (List ℕ)) (wsize : ℕ) (m : CloseFile) (turn : Turn) (old : Shelf) (next : Step) (state : Closing) (new : Shelf)
    → closes.StartsAt found wsize m turn old next state new → SameAttrs old new
close-starts None wsize m turn old next state new s = same-as old old new s.shelf_is refl
close-starts (Some file) wsize m turn old next state new s =
    close-queues (is_first m.lane (joined m.lane file old).order) wsize m.lane m.slot turn (saves.begun file old.seq) (joined m.lane file old) next state new s

close-if : (b : Bool) (wsize lane slot : ℕ) (turn : Turn) (saving : Saving) (old : Shelf) (next : Step) (state : Closing) (new : Shelf)
    → closes.GoesOnIf b wsize lane slot turn saving old next state new → SameAttrs old new
close-if true wsize lane slot turn saving old next state new g = close-on wsize lane slot turn true saving old next state new g
close-if false wsize lane slot turn saving old next state new g = same-as old old new g.shelf_is refl

close-resumes : (at : Closing) (wsize : ℕ) (m : CloseFile) (turn : Turn) (old : Shelf) (next : Step) (state : Closing) (new : Shelf)
    → closes.Resumes at wsize m turn old next state new → SameAttrs old new
close-resumes closing.Idle wsize m turn old next state new r = same-as old old new r.shelf_is refl
close-resumes (closing.Queued saving) wsize m turn old next state new r = close-queues (is_first m.lane old.order) wsize m.lane m.slot turn saving old next state new r
close-resumes (closing.Saves saving) wsize m turn old next state new r = close-if (is_first m.lane old.order) wsize m.lane m.slot turn saving old next state new r
close-resumes (closing.ToRemove removal) wsize m turn old next state new r = same-as old old new r.shelf_is refl
close-resumes (closing.Removing removal) wsize m turn old next state new r = same-as old old new r.shelf_is refl

-- ---- puts

put-ends : (lane : ℕ) (file : List ℕ) (why : Option Fault) (old : Shelf) (next : Step) (state : Putting) (new : Shelf) → puts.Ends lane file why old next state new → SameAttrs old new
put-ends lane file why old next state new e = ap (λ (s : Shelf). s.attrs) e.others

put-follows : (gives : _) (lane : ℕ) (saving : Saving) (old : Shelf) (next : Step) (state : Putting) (new : Shelf) → puts.Follows gives lane saving old next state new → SameAttrs old new
put-follows gives lane saving old next state new f = by-step
    (λ g. puts.Follows g lane saving old next state new → SameAttrs old new)
    (λ call l. same-as old old new l.2 refl) (λ l. same-as old old new l.2 refl)
    (λ result l. put-ends lane saving.file (refusal_of result) old next state new l) gives f

put-queues : (b : Bool) (wsize lane : ℕ) (turn : Turn) (saving : Saving) (old : Shelf) (next : Step) (state : Putting) (new : Shelf)
    → puts.QueuesIf b wsize lane turn saving old next state new → SameAttrs old new
put-queues true wsize lane turn saving old next state new q =
    then-same old q.gone new (ap (λ (s : Shelf). s.attrs) q.others) (put-follows q.gives lane q.saved q.gone next state new q.follows)
put-queues false wsize lane turn saving old next state new q = same-as old old new q.shelf_is refl

after-write : (told : Step) (wsize lane : ℕ) (file : List ℕ) (turn : Turn) (old : Shelf) (next : Step) (state : Putting) (new : Shelf)
    → puts.AfterWrite told wsize lane file turn old next state new → SameAttrs old new
after-write (nexts.Send call) wsize lane file turn old next state new a = same-as old old new a.2 refl
after-write nexts.Wait wsize lane file turn old next state new a = same-as old old new a.2 refl
after-write (nexts.Done (answers.Done value)) wsize lane file turn old next state new a =
    put-queues (is_first lane (joined lane file old).order) wsize lane turn (saves.begun file old.seq) (joined lane file old) next state new a
after-write (nexts.Done (answers.Refused fault)) wsize lane file turn old next state new a = put-ends lane file (Some fault) old next state new a

adds-same : (wsize : ℕ) (m : PutFile) (file : List ℕ) (turn : Turn) (old : Shelf) (next : Step) (new : PutFile) (after : Shelf) → puts.AddsBytes wsize m file turn old next new after
    → SameAttrs old after
adds-same wsize m file turn old next new after a =
    then-same old a.mid after
    (writes-same (is_full (writes.made_bytes m.write.text) (puts.put_at m.write.lane file old).back) wsize m.write.lane file m.write.offset (writes.made_bytes m.write.text) turn
    (puts.put_at m.write.lane file old) a.told a.written a.mid a.writes)
    (after-write a.told wsize m.write.lane file turn a.mid next new.state after a.goes.follows)

after-opening : (step : OpeningStep) (wsize : ℕ) (m : PutFile) (turn : Turn) (old : Shelf) (next : Step) (new : PutFile) (after : Shelf)
    → puts.AfterOpening step wsize m turn old next new after → SameAttrs old after
after-opening (openings.Send call) wsize m turn old next new after a = same-as old old after a.2 refl
after-opening openings.Wait wsize m turn old next new after a = same-as old old after a.shelf_is refl
after-opening (openings.Ended (Ok file)) wsize m turn old next new after a = adds-same wsize m file turn old next new after a
after-opening (openings.Ended (Err fault)) wsize m turn old next new after a = same-as old old after a.2 refl

put-resumes : (at : Putting) (wsize : ℕ) (m : PutFile) (turn : Turn) (old : Shelf) (next : Step) (new : PutFile) (after : Shelf) → puts.Resumes at wsize m turn old next new after
    → SameAttrs old after
put-resumes putting.Idle wsize m turn old next new after r = same-as old old after r.shelf_is refl
put-resumes putting.Opens wsize m turn old next new after r = same-as old old after r.2 refl
put-resumes (putting.Adds file) wsize m turn old next new after r =
    then-same old r.mid after (write-resumes m.write.state wsize m.write.lane turn old r.told r.written r.mid r.resumes)
    (after-write r.told wsize m.write.lane file turn r.mid next new.state after r.goes.follows)
put-resumes (putting.Saves saving) wsize m turn old next new after r = put-queues (is_first m.write.lane old.order) wsize m.write.lane turn saving old next new.state after r.0

-- ---- any of them

begun-same : (found : Result (List ℕ) Fault) (m : TruncateFile) (old : Shelf) → SameAttrs old (truncates.begun_shelf found m old)
begun-same (Ok file) m old = refl
begun-same (Err fault) m old = refl

pub file-starts : (m : FileMachine) (wsize : ℕ) (turn : Turn) (old : Shelf) (next : Step) (new : FileMachine) (after : Shelf) → steps.Starts wsize m turn old next new after
    → SameAttrs old after
file-starts (files.Open m) wsize turn old next new after s = same-as old old after s.shelf_is refl
file-starts (files.Read m) wsize turn old next new after s = ap (λ (x : Shelf). x.attrs) s.others
file-starts (files.Write m) wsize turn old next new after s = write-starts (file_to_write m.lane m.slot old.opens) wsize m turn old next s.machine after s.step
file-starts (files.Sync m) wsize turn old next new after s = sync-starts (file_at m.lane m.slot old.opens) wsize m turn old next s.state after s.step
file-starts (files.Close m) wsize turn old next new after s = close-starts (file_at m.lane m.slot old.opens) wsize m turn old next s.state after s.step
file-starts (files.Truncate m) wsize turn old next new after s =
    same-as old (truncates.started_shelf m old) after s.shelf_is (begun-same (truncates.found_file m old) m old)
file-starts (files.Put m) wsize turn old next new after s = same-as old old after s.shelf_is refl

pub file-resumes : (m : FileMachine) (wsize : ℕ) (turn : Turn) (old : Shelf) (next : Step) (new : FileMachine) (after : Shelf) → steps.Resumes wsize m turn old next new after
    → SameAttrs old after
file-resumes (files.Open m) wsize turn old next new after s = same-as old old after s.shelf_is refl
file-resumes (files.Read m) wsize turn old next new after s = ap (λ (x : Shelf). x.attrs) s.others
file-resumes (files.Write m) wsize turn old next new after s = write-resumes m.state wsize m.lane turn old next s.state after s.step
file-resumes (files.Sync m) wsize turn old next new after s = sync-resumes m.state wsize m turn old next s.state after s.step
file-resumes (files.Close m) wsize turn old next new after s = close-resumes m.state wsize m turn old next s.state after s.step
file-resumes (files.Truncate m) wsize turn old next new after s = same-as old old after s.shelf_is refl
file-resumes (files.Put m) wsize turn old next new after s = put-resumes m.state wsize m turn old next s.machine after s.step

-- ---- what came of a call

module _ (P : List ℕ × KeptAttr → Type 0) (most : ℕ) (call : Call) (now : ℕ) where
  dir-looked : (k : DirKept) (dir : List ℕ) (old new : Attrs) → IsOn dir call → Tells P most call now (Ok (replies.Dir k)) → opening.LookedAttrs dir now (Ok (replies.Dir k)) old new
      → Good P most old → Good P most new
  dir-looked (dir_kept.Lookup found attr dir_attr) dir old new on told l g =
      learns-good P most dir dir_attr now l.mid new l.rest (λ a is. told _ refl dir a (of_object on is))
      (learns-good P most found attr now old l.mid l.first (λ a is. told _ refl found a (of_given refl is)) g)
  dir-looked (dir_kept.LookupFail status dir_attr) dir old new on told l g = learns-good P most dir dir_attr now old new l (λ a is. told _ refl dir a (of_object on is)) g
  dir-looked k dir old new on told l g = good-as P most old new l g

  looked : (came : Result Reply Fault) (dir : List ℕ) (old new : Attrs) → IsOn dir call → Tells P most call now came → opening.LookedAttrs dir now came old new
      → Good P most old → Good P most new
  looked (Ok (replies.Dir k)) dir old new on told l g = dir-looked k dir old new on told l g
  looked (Ok (replies.File k)) dir old new on told l g = good-as P most old new l g
  looked (Ok (replies.Mount k)) dir old new on told l g = good-as P most old new l g
  looked (Err fault) dir old new on told l g = good-as P most old new l g

  dir-created : (k : DirKept) (dir : List ℕ) (old new : Attrs) → IsOn dir call → Tells P most call now (Ok (replies.Dir k)) → opening.MadeAttrs dir now (Ok (replies.Dir k)) old new
      → Good P most old → Good P most new
  dir-created (dir_kept.Create (Some found) attr wcc) dir old new on told l g =
      renews-good P most dir wcc.after now l.mid new l.rest (λ a is. told _ refl dir a (of_object on is))
      (learns-good P most found attr now old l.mid l.first (λ a is. told _ refl found a (of_given refl is)) g)
  dir-created (dir_kept.Create None attr wcc) dir old new on told l g = renews-good P most dir wcc.after now old new l (λ a is. told _ refl dir a (of_object on is)) g
  dir-created (dir_kept.CreateFail status wcc) dir old new on told l g = renews-good P most dir wcc.after now old new l (λ a is. told _ refl dir a (of_object on is)) g
  dir-created k dir old new on told l g = renews-good P most dir None now old new l (λ a is. absurd cc) g

  created : (came : Result Reply Fault) (dir : List ℕ) (old new : Attrs) → IsOn dir call → Tells P most call now came → opening.MadeAttrs dir now came old new
      → Good P most old → Good P most new
  created (Ok (replies.Dir k)) dir old new on told l g = dir-created k dir old new on told l g
  created (Ok (replies.File k)) dir old new on told l g = renews-good P most dir None now old new l (λ a is. absurd cc) g
  created (Ok (replies.Mount k)) dir old new on told l g = renews-good P most dir None now old new l (λ a is. absurd cc) g
  created (Err fault) dir old new on told l g = by (is_unmade fault) l
    where
      by : (b : Bool) → opening.CreatedUnless b dir now (Err fault) old new → Good P most new
      by true is = good-as P most old new is g
      by false renews = renews-good P most dir None now old new renews (λ a is. absurd cc) g

  file-got : (k : FileKept) (file : List ℕ) (a : Attr) → IsOn file call → Tells P most call now (Ok (replies.File k)) → got_by (Ok (replies.File k)) ≡ Ok a → May P most now file a
  file-got (kept.GetAttr attr) file a on told is = told _ refl file a (of_object on (let same : attr ≡ a = cc in ap Some same))
  file-got k file a on told is = absurd cc

  got : (came : Result Reply Fault) (file : List ℕ) (a : Attr) → IsOn file call → Tells P most call now came → got_by came ≡ Ok a → May P most now file a
  got (Ok (replies.File k)) file a on told is = file-got k file a on told is
  got (Ok (replies.Dir k)) file a on told is = absurd cc
  got (Ok (replies.Mount k)) file a on told is = absurd cc
  got (Err fault) file a on told is = absurd cc

  got-attrs : (said : Result Attr Fault) (file : List ℕ) (old new : Attrs) → ((a : Attr) → said ≡ Ok a → May P most now file a) → opening.GotAttrs file now said old new
      → Good P most old → Good P most new
  got-attrs (Ok attr) file old new told l g = learns-good P most file (Some attr) now old new l (λ a is. told a (let same : attr ≡ a = cc in ap Ok same)) g
  got-attrs (Err fault) file old new told l g = good-as P most old new l g

  notes : (step : OpeningPhase) (o : Opening) (came : Result Reply Fault) (old new : Attrs) → StepOn step o.dir call → Tells P most call now came
      → opening.NotesAttrs o now came step old new → Good P most old → Good P most new
  notes opening_steps.Look o came old new on told l g = looked came o.dir old new on told l g
  notes opening_steps.Make o came old new on told l g = created came o.dir old new on told l g
  notes opening_steps.Find o came old new on told l g = looked came o.dir old new on told l g
  notes (opening_steps.Ask file) o came old new on told l g = got-attrs (got_by came) file old new (λ a is. got came file a on told is) l g

  -- ---- reads

  said-attr : (b : Bool) (attr : Option Attr) (eof : Bool) (bytes : List ℕ) (a : Attr) → reading.attr_in (if b then refusal attr (faults.Bad 5) else part attr eof bytes) ≡ Some a
      → attr ≡ Some a
  said-attr true attr eof bytes a is = is
  said-attr false attr eof bytes a is = is

  file-part : (k : FileKept) (count : ℕ) (file : List ℕ) → IsOn file call → Tells P most call now (Ok (replies.File k)) → MayOf P most now file (reading.attr_in (said_to count (Ok (replies.File k))))
  file-part (kept.Read attr n eof bytes) count file on told = λ a is. told _ refl file a (of_object on (said-attr (breaks_rule count n eof bytes) attr eof bytes a is))
  file-part (kept.ReadFail status attr) count file on told = λ a is. told _ refl file a (of_object on is)
  file-part k count file on told = λ a is. absurd cc

  part-fits : (came : Result Reply Fault) (count : ℕ) (file : List ℕ) → IsOn file call → Tells P most call now came → MayOf P most now file (reading.attr_in (said_to count came))
  part-fits (Ok (replies.File k)) count file on told = file-part k count file on told
  part-fits (Ok (replies.Dir k)) count file on told = λ a is. absurd cc
  part-fits (Ok (replies.Mount k)) count file on told = λ a is. absurd cc
  part-fits (Err fault) count file on told = λ a is. absurd cc

  got-some : (said : Result Attr Fault) (a : Attr) → reading.attr_got said ≡ Some a → said ≡ Ok a
  got-some (Ok attr) a is = let same : attr ≡ a = cc in ap Ok same
  got-some (Err fault) a is = absurd cc

  phase-fits : (phase : Phase) (came : Result Reply Fault) (file : List ℕ) → IsOn file call → Tells P most call now came → MayOf P most now file (reading.attr_of phase came)
  phase-fits phases.Attrs came file on told = λ a is. absurd cc
  phase-fits phases.AskedAttrs came file on told = λ a is. got came file a on told (got-some (got_by came) a is)
  phase-fits phases.Pages came file on told = λ a is. absurd cc
  phase-fits phases.Rest came file on told = λ a is. absurd cc
  phase-fits (phases.Asked count) came file on told = part-fits came count file on told
  phase-fits phases.Ended came file on told = λ a is. absurd cc

  read-fits : (of : Option Reading) (came : Result Reply Fault) → ReadOn of call → Tells P most call now came → MayOf P most now (reads.file_of of) (reads.attr_heard of came)
  read-fits None came on told = λ a is. absurd cc
  read-fits (Some r) came on told = phase-fits r.phase came r.file on told

  -- ---- saves

  file-after : (k : FileKept) (file : List ℕ) → IsOn file call → Tells P most call now (Ok (replies.File k)) → MayOf P most now file (after_of (Ok (replies.File k)))
  file-after (kept.Write wcc count committed verf) file on told = λ a is. told _ refl file a (of_object on is)
  file-after (kept.WriteFail status wcc) file on told = λ a is. told _ refl file a (of_object on is)
  file-after (kept.Commit wcc verf) file on told = λ a is. told _ refl file a (of_object on is)
  file-after (kept.CommitFail status wcc) file on told = λ a is. told _ refl file a (of_object on is)
  file-after k file on told = λ a is. absurd cc

  after-fits : (came : Result Reply Fault) (file : List ℕ) → IsOn file call → Tells P most call now came → MayOf P most now file (after_of came)
  after-fits (Ok (replies.File k)) file on told = file-after k file on told
  after-fits (Ok (replies.Dir k)) file on told = λ a is. absurd cc
  after-fits (Ok (replies.Mount k)) file on told = λ a is. absurd cc
  after-fits (Err fault) file on told = λ a is. absurd cc

  -- ---- truncates

  file-cut : (k : FileKept) (file : List ℕ) → IsOn file call → Tells P most call now (Ok (replies.File k)) → MayOf P most now file (truncates.attr_told (Ok (replies.File k)))
  file-cut (kept.SetAttr wcc) file on told = λ a is. told _ refl file a (of_object on is)
  file-cut (kept.SetAttrFail status wcc) file on told = λ a is. told _ refl file a (of_object on is)
  file-cut k file on told = λ a is. absurd cc

  cut-fits : (came : Result Reply Fault) (file : List ℕ) → IsOn file call → Tells P most call now came → MayOf P most now file (truncates.attr_told came)
  cut-fits (Ok (replies.File k)) file on told = file-cut k file on told
  cut-fits (Ok (replies.Dir k)) file on told = λ a is. absurd cc
  cut-fits (Ok (replies.Mount k)) file on told = λ a is. absurd cc
  cut-fits (Err fault) file on told = λ a is. absurd cc

  took-attrs : (at : Truncating) (came : Result Reply Fault) (old new : Attrs) → TruncateOn at call → Tells P most call now came → truncates.TookAttrs at came now old new
      → Good P most old → Good P most new
  took-attrs truncating.Idle came old new on told l g = good-as P most old new l g
  took-attrs (truncating.Queued file upto) came old new on told l g = good-as P most old new l g
  took-attrs (truncating.Asked file upto) came old new on told l g = learns-good P most file (truncates.attr_told came) now old new l (cut-fits came file on told) g

  -- ---- the REMOVE of a last close

  dir-removed : (k : DirKept) (dir : List ℕ) → IsOn dir call → Tells P most call now (Ok (replies.Dir k)) → MayOf P most now dir (removed_of (Ok (replies.Dir k)))
  dir-removed (dir_kept.Remove wcc) dir on told = λ a is. told _ refl dir a (of_object on is)
  dir-removed (dir_kept.RemoveFail status wcc) dir on told = λ a is. told _ refl dir a (of_object on is)
  dir-removed k dir on told = λ a is. absurd cc

  removed-fits : (came : Result Reply Fault) (dir : List ℕ) → IsOn dir call → Tells P most call now came → MayOf P most now dir (removed_of came)
  removed-fits (Ok (replies.Dir k)) dir on told = dir-removed k dir on told
  removed-fits (Ok (replies.File k)) dir on told = λ a is. absurd cc
  removed-fits (Ok (replies.Mount k)) dir on told = λ a is. absurd cc
  removed-fits (Err fault) dir on told = λ a is. absurd cc

-- ---- the steps

module _ (P : List ℕ × KeptAttr → Type 0) (most : ℕ) (call : Call) (sent turn : Turn) (came : Result Reply Fault) (told : Tells P most call sent.now came) where
  abbrev Stays : Shelf → Shelf → Type 0
  Stays old after = Good P most old.attrs → Good P most after.attrs

  same-good : (old after : Shelf) → SameAttrs old after → Stays old after
  same-good old after same g = good-as P most old.attrs after.attrs same g

  -- the save learns of its reply
  save-learns : (saving : Saving) (old new : Attrs) → SaveOn saving call → Learns saving.file (after_of came) sent.now old new → Good P most old → Good P most new
  save-learns saving old new on l g = learns-good P most saving.file (after_of came) sent.now old new l (after-fits P most call sent.now came saving.file on told) g

  pub write-takes : (at : Writing) (wsize : ℕ) (m : WriteFile) (old : Shelf) (next : Step) (new : Writing) (after : Shelf) → WriteOn at call
      → writes.TakesIn at wsize m sent turn came old next new after → Stays old after
  write-takes writing.Idle wsize m old next new after on t g = same-good old after (same-as old old after t.shelf_is refl) g
  write-takes (writing.Room file saving) wsize m old next new after on t g =
      good-as P most t.attrs after.attrs (write-follows t.told wsize m file t.saved turn _ next new after t.follows) (save-learns saving old.attrs t.attrs on t.learns g)

  sync-takes : (at : Syncing) (wsize : ℕ) (m : SyncFile) (old : Shelf) (next : Step) (new : Syncing) (after : Shelf) → SyncOn at call
      → syncs.Takes at wsize m sent turn came old next new after → Stays old after
  sync-takes syncing.Idle wsize m old next new after on t g = same-good old after (same-as old old after t.shelf_is refl) g
  sync-takes (syncing.Saves saving) wsize m old next new after on t g = save-learns saving old.attrs after.attrs on t.attrs g

  removes-if : (again : Bool) (lane : ℕ) (removal : Removal) (old : Shelf) (next : Step) (state : Closing) (new : Shelf) → closes.EndsIf again lane removal old next state new
      → SameAttrs old new
  removes-if true lane removal old next state new e = same-as old old new e.shelf_is refl
  removes-if false lane removal old next state new e = ap (λ (s : Shelf). s.attrs) e.others

  close-takes : (at : Closing) (wsize : ℕ) (m : CloseFile) (old : Shelf) (next : Step) (state : Closing) (after : Shelf) → CloseOn at call
      → closes.Takes at wsize m sent turn came old next state after → Stays old after
  close-takes closing.Idle wsize m old next state after on t g = same-good old after (same-as old old after t.shelf_is refl) g
  close-takes (closing.Queued saving) wsize m old next state after on t g = same-good old after (same-as old old after t.shelf_is refl) g
  close-takes (closing.Saves saving) wsize m old next state after on t g =
      same-good t.took after (close-follows t.gives m.lane m.slot turn.room true t.saved t.took next state after t.follows) (save-learns saving old.attrs t.took.attrs on t.attrs g)
  close-takes (closing.ToRemove removal) wsize m old next state after on t g = same-good old after (same-as old old after t.shelf_is refl) g
  close-takes (closing.Removing removal) wsize m old next state after on t g =
      same-good t.took after (removes-if (goes_again (remove_busy came) sent turn old.repeats) m.lane removal t.took next state after t.ends)
      (renews-unless P most (came_unmade came) removal.dir (removed_of came) sent.now old.attrs t.took.attrs t.attrs (removed-fits P most call sent.now came removal.dir on told) g)

  put-takes : (at : Putting) (wsize : ℕ) (m : PutFile) (old : Shelf) (next : Step) (new : PutFile) (after : Shelf) → PutOn at m.opening m.write.state call
      → puts.Takes at wsize m sent turn came old next new after → Stays old after
  put-takes putting.Idle wsize m old next new after on t g = same-good old after (same-as old old after t.shelf_is refl) g
  put-takes putting.Opens wsize m old next new after on t g =
      same-good t.took after (after-opening t.step wsize _ turn t.took next new after t.follows)
      (notes P most call sent.now m.opening.step m.opening came old.attrs t.took.attrs on told t.attrs g)
  put-takes (putting.Adds file) wsize m old next new after on t g =
      same-good t.mid after (after-write t.told wsize m.write.lane file turn t.mid next new.state after t.goes.follows)
      (write-takes m.write.state wsize m.write old t.told t.written t.mid on t.takes g)
  put-takes (putting.Saves saving) wsize m old next new after on t g =
      same-good t.0.took after (put-follows t.0.gives m.write.lane t.0.saved t.0.took next new.state after t.0.follows)
      (save-learns saving old.attrs t.0.took.attrs on t.0.attrs g)

  pub file-takes : (m : FileMachine) (wsize : ℕ) (old : Shelf) (next : Step) (new : FileMachine) (after : Shelf) → FileAsks m call
      → steps.Takes wsize m sent turn came old next new after → Stays old after
  file-takes (files.Open m) wsize old next new after on t g = notes P most call sent.now m.opening.step m.opening came old.attrs after.attrs on told t.attrs g
  file-takes (files.Read m) wsize old next new after on t g =
      learns-good P most (reads.file_of m.reading) (reads.attr_heard m.reading came) sent.now old.attrs after.attrs t.attrs (read-fits P most call sent.now m.reading came on told) g
  file-takes (files.Write m) wsize old next new after on t g = write-takes m.state wsize m old next t.state after on t.step g
  file-takes (files.Sync m) wsize old next new after on t g = sync-takes m.state wsize m old next t.state after on t.step g
  file-takes (files.Close m) wsize old next new after on t g = close-takes m.state wsize m old next t.state after on t.step g
  file-takes (files.Truncate m) wsize old next new after on t g = took-attrs P most call sent.now m.state came old.attrs after.attrs on told t.attrs g
  file-takes (files.Put m) wsize old next new after on t g = put-takes m.state wsize m old next t.machine after on t.step g
