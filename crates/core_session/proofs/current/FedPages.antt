-- What each step of an operation on files makes of the kept pages, where it is known of which call a reply tells and when that was made.
use Rattle.core_session.proofs.Prelude.{◌≡◌, ◌+◌, ◌-◌, ◌/◌, ◌&&◌, ◌||◌, ◌==◌, ℕ, zero, suc, Bool, true, false, nat_le, List, [], length, take, Option, Some, None, Result, Ok, Err, inl, inr, refl, sym, ap, subst, ◌∙◌, arith, if◌then◌else◌, eqb-true, nat_tests, Attr, Verf, Stamp, Wcc, Mode, stamp_of, looked, FileKept, start_of, Pages, page_of, known_of, after_page, saw, cut, Fault, Call, Reply, Pending, of_file, piece_under, last_end, is_first, goes_again, Step, Repeat, Shelf, Turn, Closing, CloseFile, Removal, Found, Led, Opening, OpeningPhase, OpeningStep, PutFile, Putting, ReadFile, Phase, Reading, Saving, SyncFile, Syncing, TruncateFile, Truncating, WriteFile, Writing, is_full, place_after, is_whole, remove_busy, refusal_of, Gathered, written_by, write_told, offered, file_to_write, opened_pages, PagesOpened, part, refusal, said_to, said_by, breaks_rule, file_at, joined, made_by, got_by, by-step, ends_as, FileMachine, ReadOn, IsOn, IsSentAs, PhaseAwaits, ReadAwaits}
use Rattle.std.proofs.Common.{nat_lt, unwrap_or, is_some}
use Rattle.nfs_types.specs.Stamps.{same_stamp}
use Rattle.attr_cache.specs.Attrs.{Attrs}
use Rattle.page_cache.specs.Pages.{opened, wrote}
use Rattle.write_back.specs.Pieces.{Sent}
use Rattle.file_ops.specs.Base.{Bytes}
use Rattle.file_ops.specs.Gather.{Planned}
use Rattle.file_ops.specs.Judging.{write_told_by}
use Rattle.file_ops.specs.Kept.{offered_from}
use Rattle.file_ops.specs.Told.{found_by}
use Rattle.core_answers.proofs.bonds.FileCalls.{StepOn, OpeningOn, PutOn, FileAsks}
use Rattle.core_answers.proofs.pages.PageCalls.{SizeAwaits, FileAwaits}
use Rattle.xdr_codec.specs.declared.blob.Memory as memory
use Rattle.nfs_file_calls.specs.declared.call.FileCall.TheVariants as file_calls
use Rattle.nfs_file_calls.specs.declared.owned.FileKept.TheVariants as kept
use Rattle.world_model.specs.declared.answer.Answer.TheVariants as answers
use Rattle.world_model.specs.declared.answer.Fault.TheVariants as faults
use Rattle.world_model.specs.declared.message.Call.TheVariants as calls
use Rattle.world_model.specs.declared.message.Reply.TheVariants as replies
use Rattle.client_shelf.specs.declared.step.Step.TheVariants as nexts
use Rattle.file_ops.specs.declared.close_file.Closing.TheVariants as closing
use Rattle.file_ops.specs.declared.gather.Found.TheVariants as founds
use Rattle.file_ops.specs.declared.opening.Led.TheVariants as leads
use Rattle.file_ops.specs.declared.opening.OpeningPhase.TheVariants as opening_steps
use Rattle.file_ops.specs.declared.opening.OpeningStep.TheVariants as openings
use Rattle.file_ops.specs.declared.put_file.Putting.TheVariants as putting
use Rattle.file_ops.specs.declared.reading.Phase.TheVariants as phases
use Rattle.file_ops.specs.declared.sync_file.Syncing.TheVariants as syncing
use Rattle.file_ops.specs.declared.truncate_file.Truncating.TheVariants as truncating
use Rattle.file_ops.specs.declared.write_file.Writing.TheVariants as writing
use Rattle.file_ops.specs.Closes as closes
use Rattle.file_ops.specs.Gather as gather
use Rattle.file_ops.specs.Opening as opening
use Rattle.file_ops.specs.PutFile as puts
use Rattle.file_ops.specs.ReadFile as reads
use Rattle.file_ops.specs.Reading as reading
use Rattle.file_ops.specs.Saves as saves
use Rattle.file_ops.specs.Syncs as syncs
use Rattle.file_ops.specs.TruncateFile as truncates
use Rattle.file_ops.specs.WriteFile as writes
use Rattle.file_ops.proofs.Failed.{failed-as, unset-as}
use Rattle.op_machines.specs.declared.file_machine.FileMachine.TheVariants as files
use Rattle.op_machines.specs.FileSteps as steps
use Rattle.core_answers.proofs.pages.NamePages.{SamePages, kept-as}

-- ---- steps that leave them

then-same : (a b c : Shelf) → SamePages a b → SamePages b c → SamePages a c
then-same a b c f g = g ∙ f

-- ---- writes

room-same : (told : _) (lane : ℕ) (shelf : Shelf) → SamePages shelf (writes.room_shelf told lane shelf)
room-same told lane shelf = by-step (λ g. SamePages shelf (writes.room_shelf g lane shelf)) (λ call. refl) refl ended told
  where
    ended : (result : Result (Unit {0}) Fault) → SamePages shelf (writes.room_shelf (ends_as result) lane shelf)
    ended (Ok done) = refl
    ended (Err fault) = refl

saves-same : (b : Bool) (wsize lane : ℕ) (file : List ℕ) (saving : Saving) (turn : Turn) (shelf : Shelf) (next : Step) (new : Writing) (after : Shelf)
    → writes.SavesIf b wsize lane file saving turn shelf next new after → SamePages shelf after
saves-same true wsize lane file saving turn shelf next new after s =
    kept-as shelf (writes.room_shelf s.told lane (record shelf { back = s.back })) after s.leads.shelf_is (room-same s.told lane (record shelf { back = s.back }))
saves-same false wsize lane file saving turn shelf next new after s = kept-as shelf shelf after s.shelf_is refl

writes-same : (b : Bool) (wsize lane : ℕ) (file : List ℕ) (offset : ℕ) (bytes : List ℕ) (turn : Turn) (shelf : Shelf) (next : Step) (new : Writing) (after : Shelf)
    → writes.WritesIf b wsize lane file offset bytes turn shelf next new after → SamePages shelf after
writes-same true wsize lane file offset bytes turn shelf next new after (inl s) =
    saves-same (is_first lane (joined lane s.of shelf).order) wsize lane file (saves.begun s.of shelf.seq) turn (joined lane s.of shelf) next new after s.saves
writes-same true wsize lane file offset bytes turn shelf next new after (inr s) = kept-as shelf shelf after s.1.shelf_is refl
writes-same false wsize lane file offset bytes turn shelf next new after (inl a) = ap (λ (s : Shelf). s.pages) a.leads.shelf_is
writes-same false wsize lane file offset bytes turn shelf next new after (inr s) = kept-as shelf shelf after s.shelf_is refl

write-starts : (found : Result (List ℕ) Fault) (wsize : ℕ) (m : WriteFile) (turn : Turn) (old : Shelf) (next : Step) (new : WriteFile) (after : Shelf)
    → writes.StartsAt found wsize m turn old next new after → SamePages old after
write-starts (Err fault) wsize m turn old next new after s = kept-as old old after s.refuses.shelf_is refl
write-starts (Ok file) wsize m turn old next new after (inl s) =
    writes-same (is_full (writes.text_bytes m.text) old.back) wsize m.lane file m.offset (writes.text_bytes m.text) turn old next new.state after s.writes
write-starts (Ok file) wsize m turn old next new after (inr s) = kept-as old old after s.refuses.shelf_is refl

write-resumes : (at : Writing) (wsize lane : ℕ) (turn : Turn) (old : Shelf) (next : Step) (new : Writing) (after : Shelf) → writes.ResumesIn at wsize lane turn old next new after
    → SamePages old after
write-resumes writing.Idle wsize lane turn old next new after r = kept-as old old after r.shelf_is refl
write-resumes (writing.Room file saving) wsize lane turn old next new after r = saves-same (is_first lane old.order) wsize lane file saving turn old next new after r

write-follows : (told : _) (wsize : ℕ) (m : WriteFile) (file : List ℕ) (saved : Saving) (turn : Turn) (shelf : Shelf) (next : Step) (new : Writing) (after : Shelf)
    → writes.Follows told wsize m file saved turn shelf next new after → SamePages shelf after
write-follows told wsize m file saved turn shelf next new after f = by-step
    (λ g. writes.Follows g wsize m file saved turn shelf next new after → SamePages shelf after)
    (λ call l. kept-as shelf shelf after l.shelf_is refl) (λ l. kept-as shelf shelf after l.shelf_is refl) ended told f
  where
    ended : (result : Result (Unit {0}) Fault) → writes.Follows (ends_as result) wsize m file saved turn shelf next new after → SamePages shelf after
    ended (Ok done) l = writes-same (is_full (writes.made_bytes m.text) shelf.back) wsize m.lane file m.offset (writes.made_bytes m.text) turn _ next new after l
    ended (Err fault) l = kept-as shelf (writes.room_shelf (ends_as (Err fault)) m.lane shelf) after l.shelf_is refl

-- ---- syncs

sync-queues : (b : Bool) (wsize lane : ℕ) (turn : Turn) (saving : Saving) (old : Shelf) (next : Step) (state : Syncing) (new : Shelf)
    → syncs.QueuesIf b wsize lane turn saving old next state new → SamePages old new
sync-queues true wsize lane turn saving old next state new q = ap (λ (s : Shelf). s.pages) q.others
sync-queues false wsize lane turn saving old next state new q = kept-as old old new q.shelf_is refl

sync-starts : (found : Option (List ℕ)) (wsize : ℕ) (m : SyncFile) (turn : Turn) (old : Shelf) (next : Step) (state : Syncing) (new : Shelf)
    → syncs.StartsAt found wsize m turn old next state new → SamePages old new
sync-starts None wsize m turn old next state new s = kept-as old old new s.shelf_is refl
sync-starts (Some file) wsize m turn old next state new s =
    sync-queues (is_first m.lane (joined m.lane file old).order) wsize m.lane turn (saves.begun file old.seq) (joined m.lane file old) next state new s

sync-resumes : (at : Syncing) (wsize : ℕ) (m : SyncFile) (turn : Turn) (old : Shelf) (next : Step) (state : Syncing) (new : Shelf)
    → syncs.Resumes at wsize m turn old next state new → SamePages old new
sync-resumes syncing.Idle wsize m turn old next state new r = kept-as old old new r.shelf_is refl
sync-resumes (syncing.Saves saving) wsize m turn old next state new r = sync-queues (is_first m.lane old.order) wsize m.lane turn saving old next state new r

-- ---- closes

close-ends-at : (place : Option (List ℕ × List ℕ)) (lane : ℕ) (room : Bool) (file : List ℕ) (why : Option Fault) (old : Shelf) (next : Step) (state : Closing) (new : Shelf)
    → closes.EndsAt place lane room file why old next state new → SamePages old new
close-ends-at None lane room file why old next state new e = ap (λ (s : Shelf). s.pages) e.others
close-ends-at (Some place) lane room file why old next state new e = kept-as old old new e.shelf_is refl

close-frees : (lane slot : ℕ) (room : Bool) (file : List ℕ) (why : Option Fault) (old : Shelf) (next : Step) (state : Closing) (new : Shelf)
    → closes.Frees lane slot room file why old next state new → SamePages old new
close-frees lane slot room file why old next state new f =
    then-same old f.freed new (ap (λ (s : Shelf). s.pages) f.slot_is) (close-ends-at f.place lane room file why f.freed next state new f.ends)

close-follows : (gives : _) (lane slot : ℕ) (room begun : Bool) (saving : Saving) (old : Shelf) (next : Step) (state : Closing) (new : Shelf)
    → closes.Follows gives lane slot room begun saving old next state new → SamePages old new
close-follows gives lane slot room begun saving old next state new f = by-step
    (λ g. closes.Follows g lane slot room begun saving old next state new → SamePages old new)
    (λ call l. kept-as old old new l.2 refl) (λ l. kept-as old old new l.2 refl)
    (λ result l. close-frees lane slot room saving.file (refusal_of result) old next state new l) gives f

close-on : (wsize lane slot : ℕ) (turn : Turn) (begun : Bool) (saving : Saving) (old : Shelf) (next : Step) (state : Closing) (new : Shelf)
    → closes.GoesOn wsize lane slot turn begun saving old next state new → SamePages old new
close-on wsize lane slot turn begun saving old next state new g =
    then-same old g.gone new (ap (λ (s : Shelf). s.pages) g.others) (close-follows g.gives lane slot turn.room begun g.saved g.gone next state new g.follows)

close-begins : (end : Option ℕ) (wsize lane slot : ℕ) (turn : Turn) (saving : Saving) (old : Shelf) (next : Step) (state : Closing) (new : Shelf)
    → closes.Begins end wsize lane slot turn saving old next state new → SamePages old new
close-begins None wsize lane slot turn saving old next state new b = close-frees lane slot turn.room saving.file None old next state new b
close-begins (Some end) wsize lane slot turn saving old next state new b = close-on wsize lane slot turn false saving old next state new b

close-queues : (b : Bool) (wsize lane slot : ℕ) (turn : Turn) (saving : Saving) (old : Shelf) (next : Step) (state : Closing) (new : Shelf)
    → closes.QueuesIf b wsize lane slot turn saving old next state new → SamePages old new
close-queues true wsize lane slot turn saving old next state new q = close-begins (last_end (of_file saving.file old.back).segments) wsize lane slot turn saving old next state new q
close-queues false wsize lane slot turn saving old next state new q = kept-as old old new q.shelf_is refl

close-starts : (found : Option (List ℕ)) (wsize : ℕ) (m : CloseFile) (turn : Turn) (old : Shelf) (next : Step) (state : Closing) (new : Shelf)
    → closes.StartsAt found wsize m turn old next state new → SamePages old new
close-starts None wsize m turn old next state new s = kept-as old old new s.shelf_is refl
close-starts (Some file) wsize m turn old next state new s =
    close-queues (is_first m.lane (joined m.lane file old).order) wsize m.lane m.slot turn (saves.begun file old.seq) (joined m.lane file old) next state new s

close-if : (b : Bool) (wsize lane slot : ℕ) (turn : Turn) (saving : Saving) (old : Shelf) (next : Step) (state : Closing) (new : Shelf)
    → closes.GoesOnIf b wsize lane slot turn saving old next state new → SamePages old new
close-if true wsize lane slot turn saving old next state new g = close-on wsize lane slot turn true saving old next state new g
close-if false wsize lane slot turn saving old next state new g = kept-as old old new g.shelf_is refl

close-resumes : (at : Closing) (wsize : ℕ) (m : CloseFile) (turn : Turn) (old : Shelf) (next : Step) (state : Closing) (new : Shelf)
    → closes.Resumes at wsize m turn old next state new → SamePages old new
close-resumes closing.Idle wsize m turn old next state new r = kept-as old old new r.shelf_is refl
close-resumes (closing.Queued saving) wsize m turn old next state new r = close-queues (is_first m.lane old.order) wsize m.lane m.slot turn saving old next state new r
close-resumes (closing.Saves saving) wsize m turn old next state new r = close-if (is_first m.lane old.order) wsize m.lane m.slot turn saving old next state new r
close-resumes (closing.ToRemove removal) wsize m turn old next state new r = kept-as old old new r.shelf_is refl
close-resumes (closing.Removing removal) wsize m turn old next state new r = kept-as old old new r.shelf_is refl

-- ---- puts

put-ends : (lane : ℕ) (file : List ℕ) (why : Option Fault) (old : Shelf) (next : Step) (state : Putting) (new : Shelf) → puts.Ends lane file why old next state new → SamePages old new
put-ends lane file why old next state new e = ap (λ (s : Shelf). s.pages) e.others

put-follows : (gives : _) (lane : ℕ) (saving : Saving) (old : Shelf) (next : Step) (state : Putting) (new : Shelf) → puts.Follows gives lane saving old next state new → SamePages old new
put-follows gives lane saving old next state new f = by-step
    (λ g. puts.Follows g lane saving old next state new → SamePages old new)
    (λ call l. kept-as old old new l.2 refl) (λ l. kept-as old old new l.2 refl)
    (λ result l. put-ends lane saving.file (refusal_of result) old next state new l) gives f

put-queues : (b : Bool) (wsize lane : ℕ) (turn : Turn) (saving : Saving) (old : Shelf) (next : Step) (state : Putting) (new : Shelf)
    → puts.QueuesIf b wsize lane turn saving old next state new → SamePages old new
put-queues true wsize lane turn saving old next state new q =
    then-same old q.gone new (ap (λ (s : Shelf). s.pages) q.others) (put-follows q.gives lane q.saved q.gone next state new q.follows)
put-queues false wsize lane turn saving old next state new q = kept-as old old new q.shelf_is refl

after-write : (told : Step) (wsize lane : ℕ) (file : List ℕ) (turn : Turn) (old : Shelf) (next : Step) (state : Putting) (new : Shelf)
    → puts.AfterWrite told wsize lane file turn old next state new → SamePages old new
after-write (nexts.Send call) wsize lane file turn old next state new a = kept-as old old new a.2 refl
after-write nexts.Wait wsize lane file turn old next state new a = kept-as old old new a.2 refl
after-write (nexts.Done (answers.Done value)) wsize lane file turn old next state new a =
    put-queues (is_first lane (joined lane file old).order) wsize lane turn (saves.begun file old.seq) (joined lane file old) next state new a
after-write (nexts.Done (answers.Refused fault)) wsize lane file turn old next state new a = put-ends lane file (Some fault) old next state new a

adds-same : (wsize : ℕ) (m : PutFile) (file : List ℕ) (turn : Turn) (old : Shelf) (next : Step) (new : PutFile) (after : Shelf) → puts.AddsBytes wsize m file turn old next new after
    → SamePages old after
adds-same wsize m file turn old next new after a =
    then-same old a.mid after
    (writes-same (is_full (writes.made_bytes m.write.text) (puts.put_at m.write.lane file old).back) wsize m.write.lane file m.write.offset (writes.made_bytes m.write.text) turn
    (puts.put_at m.write.lane file old) a.told a.written a.mid a.writes)
    (after-write a.told wsize m.write.lane file turn a.mid next new.state after a.goes.follows)

after-opening : (step : OpeningStep) (wsize : ℕ) (m : PutFile) (turn : Turn) (old : Shelf) (next : Step) (new : PutFile) (after : Shelf)
    → puts.AfterOpening step wsize m turn old next new after → SamePages old after
after-opening (openings.Send call) wsize m turn old next new after a = kept-as old old after a.2 refl
after-opening openings.Wait wsize m turn old next new after a = kept-as old old after a.shelf_is refl
after-opening (openings.Ended (Ok file)) wsize m turn old next new after a = adds-same wsize m file turn old next new after a
after-opening (openings.Ended (Err fault)) wsize m turn old next new after a = kept-as old old after a.2 refl

put-resumes : (at : Putting) (wsize : ℕ) (m : PutFile) (turn : Turn) (old : Shelf) (next : Step) (new : PutFile) (after : Shelf) → puts.Resumes at wsize m turn old next new after
    → SamePages old after
put-resumes putting.Idle wsize m turn old next new after r = kept-as old old after r.shelf_is refl
put-resumes putting.Opens wsize m turn old next new after r = kept-as old old after r.2 refl
put-resumes (putting.Adds file) wsize m turn old next new after r =
    then-same old r.mid after (write-resumes m.write.state wsize m.write.lane turn old r.told r.written r.mid r.resumes)
    (after-write r.told wsize m.write.lane file turn r.mid next new.state after r.goes.follows)
put-resumes (putting.Saves saving) wsize m turn old next new after r = put-queues (is_first m.write.lane old.order) wsize m.write.lane turn saving old next new.state after r.0

-- ---- any of them

begun-same : (found : Result (List ℕ) Fault) (m : TruncateFile) (old : Shelf) → SamePages old (truncates.begun_shelf found m old)
begun-same (Ok file) m old = refl
begun-same (Err fault) m old = refl

-- ---- what the pages may be told

-- A fact of the kept pages that stays where what came of a call is taken: attributes that a GETATTR gave, with which a file is opened; a known stamp that
-- is believed; attributes beside a READ, and the pages that it gave; an own WRITE and an own SETATTR; and where the pages of a file are dropped.
pub record FedLaws (T : Pages → Type 0) (call : Call) (came : Result Reply Fault) (sent turn : Turn) : Type 0 where
  pub drops : (file : List ℕ) (c : Pages) → T c → T (wrote file saves.untold 0 [] (turn.moment - 1) c)
  pub opens : (file : List ℕ) (attr : Attr) (mark : ℕ) (c : Pages) → came ≡ Ok (replies.File (kept.GetAttr attr)) → IsOn file call → T c → T (opened_pages file attr mark sent turn c)
  pub knows : (file : List ℕ) (stamp : Stamp) (mark : ℕ) (c : Pages) → known_of file c ≡ Some stamp → T c → T (opened file stamp mark c)
  pub sees : (file : List ℕ) (attr : Attr) (counted : ℕ) (eof : Bool) (given : List ℕ) (place count : ℕ) (c : Pages)
      → came ≡ Ok (replies.File (kept.Read (Some attr) counted eof given)) → call ≡ calls.File (file_calls.Read file place count) → T c → T (saw file (stamp_of attr) sent.moment c)
  pub offers : (file : List ℕ) (attr : Attr) (counted : ℕ) (eof : Bool) (given : List ℕ) (place count index : ℕ) (ends : Bool) (c : Pages)
      → came ≡ Ok (replies.File (kept.Read (Some attr) counted eof given)) → call ≡ calls.File (file_calls.Read file place count) → (ends ≡ true → eof ≡ true)
      → T c → T (offered file (stamp_of attr) sent.moment place given ends index c)
  pub writes : (file : List ℕ) (offset how : ℕ) (bytes : List ℕ) (wcc : Wcc) (count committed : ℕ) (verf : Verf) (c : Pages)
      → came ≡ Ok (replies.File (kept.Write wcc count committed verf)) → call ≡ calls.File (file_calls.Write file offset how bytes)
      → T c → T (wrote file wcc offset (take count bytes) (turn.moment - 1) c)
  pub cuts : (file : List ℕ) (wcc : Wcc) (size : ℕ) (c : Pages) → came ≡ Ok (replies.File (kept.SetAttr wcc)) → call ≡ truncates.size_call file size
      → T c → T (cut file wcc size (turn.moment - 1) c)

-- ---- what a reply leads an opening to

ok-attr : (a b : Attr) → ◌≡◌ {A = Result Attr Fault} (Ok a) (Ok b) → a ≡ b
ok-attr a b e = cc

pub got-file : (k : FileKept) (attr : Attr) → got_by (Ok (replies.File k)) ≡ Ok attr → ◌≡◌ {A = Result Reply Fault} (Ok (replies.File k)) (Ok (replies.File (kept.GetAttr attr)))
got-file (kept.GetAttr a) attr e = ap (λ (z : Attr). Ok (replies.File (kept.GetAttr z))) (ok-attr a attr e)
got-file k attr e = absurd cc

pub got-is : (came : Result Reply Fault) (attr : Attr) → got_by came ≡ Ok attr → came ≡ Ok (replies.File (kept.GetAttr attr))
got-is (Ok (replies.File k)) attr e = got-file k attr e
got-is (Ok (replies.Dir k)) attr e = absurd cc
got-is (Ok (replies.Mount k)) attr e = absurd cc
got-is (Err fault) attr e = absurd cc

-- the file is opened by what GETATTR says of it
pub record OpensBy (step : OpeningPhase) (came : Result Reply Fault) (file : List ℕ) (attr : Attr) : Type 0 where
  pub asks : step ≡ opening_steps.Ask file
  pub got : came ≡ Ok (replies.File (kept.GetAttr attr))
  pub kind : attr.kind ≡ 1

goes-on : (a : OpeningPhase) (file : List ℕ) (attr : Attr) → leads.Goes a ≡ leads.Opens file attr → ⊥
goes-on a file attr e = cc

ends-so : (a : Fault) (file : List ℕ) (attr : Attr) → leads.Ends a ≡ leads.Opens file attr → ⊥
ends-so a file attr e = cc

knows-so : (a : List ℕ) (s : Stamp) (file : List ℕ) (attr : Attr) → leads.Knows a s ≡ leads.Opens file attr → ⊥
knows-so a s file attr e = cc

found-goes : (r : Result (List ℕ) Fault) (file : List ℕ) (attr : Attr) → opening.found r ≡ leads.Opens file attr → ⊥
found-goes (Ok f) file attr e = goes-on (opening_steps.Ask f) file attr e
found-goes (Err fault) file attr e = ends-so fault file attr e

made-goes : (r : Result (Option (List ℕ)) Fault) (file : List ℕ) (attr : Attr) → opening.made r ≡ leads.Opens file attr → ⊥
made-goes (Ok (Some f)) file attr e = goes-on (opening_steps.Ask f) file attr e
made-goes (Ok None) file attr e = goes-on opening_steps.Find file attr e
made-goes (Err fault) file attr e = ends-so fault file attr e

look-goes : (b : Bool) (r : Result (List ℕ) Fault) (file : List ℕ) (attr : Attr) → (if b then leads.Goes opening_steps.Make else opening.found r) ≡ leads.Opens file attr → ⊥
look-goes true r file attr e = goes-on opening_steps.Make file attr e
look-goes false r file attr e = found-goes r file attr e

opens-is : (a b : List ℕ) (p q : Attr) → leads.Opens a p ≡ leads.Opens b q → (a ≡ b) × (p ≡ q)
opens-is a b p q e = (cc, cc)

got-opens : (g : List ℕ) (r : Result Attr Fault) (file : List ℕ) (attr : Attr) → opening.got g r ≡ leads.Opens file attr → (g ≡ file) × (r ≡ Ok attr) × (attr.kind ≡ 1)
got-opens g (Ok a) file attr e = by (a.kind == 1) refl e
  where
    by : (b : Bool) → (a.kind == 1) ≡ b → (if b then leads.Opens g a else leads.Ends faults.Kind) ≡ leads.Opens file attr
        → (g ≡ file) × (◌≡◌ {A = Result Attr Fault} (Ok a) (Ok attr)) × (attr.kind ≡ 1)
    by true is e = let k = opens-is g file a attr e in (k.0, ap Ok k.1, ap (λ (z : Attr). z.kind) (sym k.1) ∙ eqb-true a.kind 1 is)
    by false is e = absurd (ends-so faults.Kind file attr e)
got-opens g (Err fault) file attr e = absurd (ends-so fault file attr e)

pub told-opens : (mode : Mode) (step : OpeningPhase) (came : Result Reply Fault) (file : List ℕ) (attr : Attr) → opening.led_to mode step came ≡ leads.Opens file attr → OpensBy step came file attr
told-opens mode opening_steps.Look came file attr e = absurd (look-goes (opening.makes mode came) (found_by came) file attr e)
told-opens mode opening_steps.Make came file attr e = absurd (made-goes (made_by came) file attr e)
told-opens mode opening_steps.Find came file attr e = absurd (found-goes (found_by came) file attr e)
told-opens mode (opening_steps.Ask g) came file attr e =
    let k = got-opens g (got_by came) file attr e in
    record { asks = ap opening_steps.Ask k.0; got = got-is came attr k.1; kind = k.2 }

module _ (now : ℕ) (attrs : Attrs) (c : Pages) where
  at-opens : (f : List ℕ) (a : Option Attr) (s : Option Stamp) (file : List ℕ) (attr : Attr) → opening.known_at f a s ≡ leads.Opens file attr → ⊥
  at-opens f None s file attr e = goes-on (opening_steps.Ask f) file attr e
  at-opens f (Some a) None file attr e = goes-on (opening_steps.Ask f) file attr e
  at-opens f (Some a) (Some s) file attr e = by ((a.kind == 1) && same_stamp (stamp_of a) s) e
    where
      by : (b : Bool) → (if b then leads.Knows f s else leads.Goes (opening_steps.Ask f)) ≡ leads.Opens file attr → ⊥
      by true e = knows-so f s file attr e
      by false e = goes-on (opening_steps.Ask f) file attr e

  known-opens : (led : Led) (file : List ℕ) (attr : Attr) → opening.known_led led now attrs c ≡ leads.Opens file attr → led ≡ leads.Opens file attr
  known-opens (leads.Goes (opening_steps.Ask f)) file attr e = absurd (at-opens f (looked f now attrs) (known_of f c) file attr e)
  known-opens (leads.Goes opening_steps.Look) file attr e = e
  known-opens (leads.Goes opening_steps.Make) file attr e = e
  known-opens (leads.Goes opening_steps.Find) file attr e = e
  known-opens (leads.Opens f a) file attr e = e
  known-opens (leads.Knows f s) file attr e = e
  known-opens (leads.Ends fault) file attr e = e

  pub by-opens : (nocto : Bool) (led : Led) (file : List ℕ) (attr : Attr) → opening.known_by nocto led now attrs c ≡ leads.Opens file attr → led ≡ leads.Opens file attr
  by-opens true led file attr e = known-opens led file attr e
  by-opens false led file attr e = e

  -- what an opening believes is the known stamp
  knows-is : (a b : List ℕ) (s t : Stamp) → leads.Knows a s ≡ leads.Knows b t → (a ≡ b) × (s ≡ t)
  knows-is a b s t e = (cc, cc)

  goes-knows : (a : OpeningPhase) (file : List ℕ) (s : Stamp) → leads.Goes a ≡ leads.Knows file s → ⊥
  goes-knows a file s e = cc

  at-knows : (f : List ℕ) (a : Option Attr) (s : Option Stamp) (file : List ℕ) (stamp : Stamp) → known_of f c ≡ s → opening.known_at f a s ≡ leads.Knows file stamp → known_of file c ≡ Some stamp
  at-knows f None s file stamp is e = absurd (goes-knows (opening_steps.Ask f) file stamp e)
  at-knows f (Some a) None file stamp is e = absurd (goes-knows (opening_steps.Ask f) file stamp e)
  at-knows f (Some a) (Some s) file stamp is e = by ((a.kind == 1) && same_stamp (stamp_of a) s) e
    where
      by : (b : Bool) → (if b then leads.Knows f s else leads.Goes (opening_steps.Ask f)) ≡ leads.Knows file stamp → known_of file c ≡ Some stamp
      by true e = let k = knows-is f file s stamp e in ap (λ (g : List ℕ). known_of g c) (sym k.0) ∙ is ∙ ap Some k.1
      by false e = absurd (goes-knows (opening_steps.Ask f) file stamp e)

  no-goes : (b : Bool) (file : List ℕ) (stamp : Stamp) (x : Led) → ((x ≡ leads.Knows file stamp) → ⊥) → (y : Led) → ((y ≡ leads.Knows file stamp) → ⊥) → (if b then x else y) ≡ leads.Knows file stamp → ⊥
  no-goes true file stamp x p y q e = p e
  no-goes false file stamp x p y q e = q e

  ends-knows : (a : Fault) (file : List ℕ) (s : Stamp) → leads.Ends a ≡ leads.Knows file s → ⊥
  ends-knows a file s e = cc

  opens-knows : (a : List ℕ) (attr : Attr) (file : List ℕ) (s : Stamp) → leads.Opens a attr ≡ leads.Knows file s → ⊥
  opens-knows a attr file s e = cc

  found-knows : (r : Result (List ℕ) Fault) (file : List ℕ) (s : Stamp) → opening.found r ≡ leads.Knows file s → ⊥
  found-knows (Ok f) file s e = goes-knows (opening_steps.Ask f) file s e
  found-knows (Err fault) file s e = ends-knows fault file s e

  made-knows : (r : Result (Option (List ℕ)) Fault) (file : List ℕ) (s : Stamp) → opening.made r ≡ leads.Knows file s → ⊥
  made-knows (Ok (Some f)) file s e = goes-knows (opening_steps.Ask f) file s e
  made-knows (Ok None) file s e = goes-knows opening_steps.Find file s e
  made-knows (Err fault) file s e = ends-knows fault file s e

  got-knows : (g : List ℕ) (r : Result Attr Fault) (file : List ℕ) (s : Stamp) → opening.got g r ≡ leads.Knows file s → ⊥
  got-knows g (Ok a) file s e = no-goes (a.kind == 1) file s (leads.Opens g a) (opens-knows g a file s) (leads.Ends faults.Kind) (ends-knows faults.Kind file s) e
  got-knows g (Err fault) file s e = ends-knows fault file s e

  pub told-knows : (mode : Mode) (step : OpeningPhase) (came : Result Reply Fault) (file : List ℕ) (s : Stamp) → opening.led_to mode step came ≡ leads.Knows file s → ⊥
  told-knows mode opening_steps.Look came file s e =
      no-goes (opening.makes mode came) file s (leads.Goes opening_steps.Make) (goes-knows opening_steps.Make file s) (opening.found (found_by came)) (found-knows (found_by came) file s) e
  told-knows mode opening_steps.Make came file s e = made-knows (made_by came) file s e
  told-knows mode opening_steps.Find came file s e = found-knows (found_by came) file s e
  told-knows mode (opening_steps.Ask g) came file s e = got-knows g (got_by came) file s e

  known-knows : (led : Led) (file : List ℕ) (stamp : Stamp) → ((led ≡ leads.Knows file stamp) → ⊥) → opening.known_led led now attrs c ≡ leads.Knows file stamp → known_of file c ≡ Some stamp
  known-knows (leads.Goes (opening_steps.Ask f)) file stamp no_way e = at-knows f (looked f now attrs) (known_of f c) file stamp refl e
  known-knows (leads.Goes opening_steps.Look) file stamp no_way e = absurd (no_way e)
  known-knows (leads.Goes opening_steps.Make) file stamp no_way e = absurd (no_way e)
  known-knows (leads.Goes opening_steps.Find) file stamp no_way e = absurd (no_way e)
  known-knows (leads.Opens f a) file stamp no_way e = absurd (no_way e)
  known-knows (leads.Knows f s) file stamp no_way e = absurd (no_way e)
  known-knows (leads.Ends fault) file stamp no_way e = absurd (no_way e)

  by-knows : (nocto : Bool) (mode : Mode) (step : OpeningPhase) (came : Result Reply Fault) (file : List ℕ) (stamp : Stamp)
      → opening.known_by nocto (opening.led_to mode step came) now attrs c ≡ leads.Knows file stamp → known_of file c ≡ Some stamp
  by-knows true mode step came file stamp e = known-knows (opening.led_to mode step came) file stamp (told-knows mode step came file stamp) e
  by-knows false mode step came file stamp e = absurd (told-knows mode step came file stamp e)

-- ---- any fact of the pages

module _ (T : Pages → Type 0) (shows : (file : List ℕ) (index : ℕ) (c : Pages) → T c → T (after_page file index c)) where
  as-pages : (old new : Pages) → new ≡ old → T old → T new
  as-pages old new is t = subst T (sym is) t

  pub as-shelf : (old new : Shelf) → SamePages old new → T old.pages → T new.pages
  as-shelf old new is t = as-pages old.pages new.pages is t

  -- ---- reads

  abbrev OfGathered : Gathered → Type 0
  OfGathered g = T g.pages

  abbrev OfPlanned : Planned → Type 0
  OfPlanned plan = T plan.pages

  abbrev OfState : reading.State → Type 0
  OfState s = T s.pages

  taken-pages : (b : Bool) (file : List ℕ) (base : Bytes) (c : Pages) → T c
      → OfGathered (if b then record { found = founds.Ended; base = base; pages = c } else record {
        found = gather.found_of (page_of file (gather.next_page base) c);
        base = gather.base_with (page_of file (gather.next_page base) c) base;
        pages = after_page file (gather.next_page base) c;
      })
  taken-pages true file base c t = t
  taken-pages false file base c t = shows file (gather.next_page base) c t

  then-pages : (file : List ℕ) (g : Gathered) (found : Found) → T g.pages → T (gather.then_taken file g found).pages
  then-pages file g founds.Page t = taken-pages (is_whole g.base || gather.is_past (known_of file g.pages) (place_after g.base)) file g.base g.pages t
  then-pages file g founds.Ended t = t
  then-pages file g founds.Wanted t = t

  pub gathered-pages : (file : List ℕ) (n : ℕ) (base : Bytes) (c : Pages) → T c → T (gather.gathered file n base c).pages
  gathered-pages file zero base c t = t
  gathered-pages file (suc n) base c t = then-pages file (gather.gathered file n base c) (gather.gathered file n base c).found (gathered-pages file n base c t)

  stopped-pages : (b : Bool) (file : List ℕ) (index : ℕ) (plan : Planned) → T plan.pages
      → OfPlanned (if b then plan else record { end = if is_some (page_of file index plan.pages) then start_of index else plan.end; pages = after_page file index plan.pages })
  stopped-pages true file index plan t = t
  stopped-pages false file index plan t = shows file index plan.pages t

  planned-pages : (file : List ℕ) (index n : ℕ) (plan : Planned) → T plan.pages → T (gather.planned file index n plan).pages
  planned-pages file index zero plan t = t
  planned-pages file index (suc n) plan t =
      let before = gather.planned file index n plan in
      stopped-pages (nat_le before.end (start_of (index + n))) file (index + n) before (planned-pages file index n plan t)

  pub settled-pages : (phase : Phase) (r : Reading) (c : Pages) → T c → T (reading.settled_in phase r c).pages
  settled-pages phases.Attrs r c t = t
  settled-pages phases.AskedAttrs r c t = t
  settled-pages phases.Pages r c t = gathered-pages r.file (r.base.limit / 4096 + 1) r.base c t
  settled-pages phases.Rest r c t = t
  settled-pages (phases.Asked count) r c t = t
  settled-pages phases.Ended r c t = t

  asked-pages : (b : Bool) (s : reading.State) → T s.pages
      → OfState (if b then record { reading = record s.reading { phase = phases.AskedAttrs }; pages = s.pages } else reading.asked_part s)
  asked-pages true s t = t
  asked-pages false s t =
      planned-pages s.reading.file (gather.next_page s.reading.base + 1) (s.reading.base.limit / 4096)
      (record { end = place_after s.reading.base + gather.most_asked s.reading.rsize s.reading.base; pages = s.pages }) t

  gone-if : (b : Bool) (s : reading.State) → T s.pages
      → OfState (if b then reading.asked s else record { reading = reading.answered s.reading.phase s.reading; pages = s.pages })
  gone-if true s t = asked-pages (reading.asks_attrs s.reading.phase) s t
  gone-if false s t = t

  pub gone-pages : (room : Bool) (s : reading.State) → T s.pages → T (reading.gone room s).pages
  gone-pages room s t = gone-if (reading.asks room s) s t

  starts-with : (begun : Result Reading Fault) (room : Bool) (m : ReadFile) (c : Pages) (back : Pending) (next : Step) (new : ReadFile) (later : Pages)
      → reads.StartsWith begun room m c back next new later → T c → T later
  starts-with (Err fault) room m c back next new later s t = as-pages c later s.kept t
  starts-with (Ok r) room m c back next new later s t =
      as-pages (reading.gone room (reading.settled r c)).pages later s.kept (gone-pages room (reading.settled r c) (settled-pages r.phase r c t))

  read-resumes : (of : Option Reading) (room : Bool) (m : ReadFile) (c : Pages) (back : Pending) (next : Step) (new : ReadFile) (later : Pages)
      → reads.ResumesIn of room m c back next new later → T c → T later
  read-resumes None room m c back next new later s t = as-pages c later s.kept t
  read-resumes (Some r) room m c back next new later s t =
      as-pages (reading.gone room (reading.settled r c)).pages later s.kept (gone-pages room (reading.settled r c) (settled-pages r.phase r c t))

  -- ---- steps before a reply

  pub file-starts : (m : FileMachine) (wsize : ℕ) (turn : Turn) (old : Shelf) (next : Step) (new : FileMachine) (after : Shelf) → steps.Starts wsize m turn old next new after
      → T old.pages → T after.pages
  file-starts (files.Open m) wsize turn old next new after s t = as-shelf old after (kept-as old old after s.shelf_is refl) t
  file-starts (files.Read m) wsize turn old next new after s t = starts-with s.step.reading turn.room m old.pages old.back next s.machine after.pages s.step.goes t
  file-starts (files.Write m) wsize turn old next new after s t =
      as-shelf old after (write-starts (file_to_write m.lane m.slot old.opens) wsize m turn old next s.machine after s.step) t
  file-starts (files.Sync m) wsize turn old next new after s t = as-shelf old after (sync-starts (file_at m.lane m.slot old.opens) wsize m turn old next s.state after s.step) t
  file-starts (files.Close m) wsize turn old next new after s t = as-shelf old after (close-starts (file_at m.lane m.slot old.opens) wsize m turn old next s.state after s.step) t
  file-starts (files.Truncate m) wsize turn old next new after s t =
      as-shelf old after (kept-as old (truncates.started_shelf m old) after s.shelf_is (begun-same (truncates.found_file m old) m old)) t
  file-starts (files.Put m) wsize turn old next new after s t = as-shelf old after (kept-as old old after s.shelf_is refl) t

  pub file-resumes : (m : FileMachine) (wsize : ℕ) (turn : Turn) (old : Shelf) (next : Step) (new : FileMachine) (after : Shelf) → steps.Resumes wsize m turn old next new after
      → T old.pages → T after.pages
  file-resumes (files.Open m) wsize turn old next new after s t = as-shelf old after (kept-as old old after s.shelf_is refl) t
  file-resumes (files.Read m) wsize turn old next new after s t = read-resumes m.reading turn.room m old.pages old.back next s.machine after.pages s.step t
  file-resumes (files.Write m) wsize turn old next new after s t = as-shelf old after (write-resumes m.state wsize m.lane turn old next s.state after s.step) t
  file-resumes (files.Sync m) wsize turn old next new after s t = as-shelf old after (sync-resumes m.state wsize m turn old next s.state after s.step) t
  file-resumes (files.Close m) wsize turn old next new after s t = as-shelf old after (close-resumes m.state wsize m turn old next s.state after s.step) t
  file-resumes (files.Truncate m) wsize turn old next new after s t = as-shelf old after (kept-as old old after s.shelf_is refl) t
  file-resumes (files.Put m) wsize turn old next new after s t = as-shelf old after (put-resumes m.state wsize m turn old next s.machine after s.step) t

  -- ---- what came of a call

  module _ (call : Call) (came : Result Reply Fault) (sent turn : Turn) (fed : FedLaws T call came sent turn) where
    pub pages-opened : (result : Result (Unit {0}) memory.Memory) (file : List ℕ) (attr : Attr) (mark : ℕ) (c later : Pages) → came ≡ Ok (replies.File (kept.GetAttr attr)) → IsOn file call
        → PagesOpened file attr mark sent turn result c later → T c → T later
    pages-opened (Ok done) file attr mark c later is on o t = as-pages _ later o (fed.opens file attr mark c is on t)
    pages-opened (Err no_memory) file attr mark c later is on o t = as-pages c later o.1 t

    from-settled : (room : Bool) (r : Reading) (c : Pages) (new : reading.State) → new ≡ reading.gone room (reading.settled r c) → T c → T new.pages
    from-settled room r c new is t =
        as-pages (reading.gone room (reading.settled r c)).pages new.pages (ap (λ (s : reading.State). s.pages) is)
        (gone-pages room (reading.settled r c) (settled-pages r.phase r c t))

    after-opened : (result : Result (Unit {0}) memory.Memory) (r : Reading) (c : Pages) (back : Pending) (next : Step) (new : reading.State)
        → reading.AfterOpened result turn r c back next new → T c → T new.pages
    after-opened (Ok done) r c back next new a t = from-settled turn.room (record r { phase = phases.Pages }) c new a.1 t
    after-opened (Err no_memory) r c back next new a t = as-pages c new.pages (ap (λ (s : reading.State). s.pages) a.1) t

    attrs-read : (told : Result Attr Fault) (again : Bool) (r : Reading) (c : Pages) (back : Pending) (next : Step) (new : reading.State) → got_by came ≡ told → ((reply : Reply) → came ≡ Ok reply → IsOn r.file call)
        → reading.TakesAttrs again told sent turn r c back next new → T c → T new.pages
    attrs-read (Ok attr) again r c back next new got on a t =
        after-opened a.result r a.later back next new a.goes (pages-opened a.result r.file attr r.moment c a.later (got-is came attr got) (on (replies.File (kept.GetAttr attr)) (got-is came attr got)) a.opens t)
    attrs-read (Err fault) again r c back next new got on a t = as-pages c new.pages (ap (λ (s : reading.State). s.pages) a.1) t

    -- ---- openings

    file-opened : (result : Result (List ℕ) Fault) (file : List ℕ) (to old new : Pages) → opening.FileOpened file to result old new → T to → T old → T new
    file-opened (Ok file_is) file to old new f t u = as-pages to new f.1 t
    file-opened (Err fault) file to old new f t u = as-pages old new f.2 u

    step-on : (o : Opening) (file : List ℕ) → OpeningOn o call → o.step ≡ opening_steps.Ask file → IsOn file call
    step-on o file on is = subst (λ (s : OpeningPhase). StepOn s o.dir call) is on

    led-pages : (again : Bool) (o : Opening) (attrs : Attrs) (led : Led) (step : OpeningStep) (old new : Pages) → opening.led_on o turn.now came attrs old ≡ led → ((reply : Reply) → came ≡ Ok reply → OpeningOn o call)
        → opening.LedIf again o sent turn led step old new → T old → T new
    led-pages true o attrs led step old new is on l t = as-pages old new l.1 t
    led-pages false o attrs (leads.Goes to) step old new is on l t = as-pages old new l.1 t
    led-pages false o attrs (leads.Opens file attr) (openings.Ended result) old new is on l t =
        let k = told-opens o.mode o.step came file attr (by-opens turn.now attrs old o.nocto (opening.told_led o came) file attr is) in
        file-opened result file (opened_pages file attr o.moment sent turn old) old new l (fed.opens file attr o.moment old k.got (step-on o file (on (replies.File (kept.GetAttr attr)) k.got) k.asks) t) t
    led-pages false o attrs (leads.Opens file attr) (openings.Send again) old new is on l t = absurd l
    led-pages false o attrs (leads.Opens file attr) openings.Wait old new is on l t = absurd l
    led-pages false o attrs (leads.Knows file stamp) (openings.Ended result) old new is on l t =
        file-opened result file (opened file stamp o.moment old) old new l
        (fed.knows file stamp o.moment old (by-knows turn.now attrs old o.nocto o.mode o.step came file stamp is) t) t
    led-pages false o attrs (leads.Knows file stamp) (openings.Send again) old new is on l t = absurd l
    led-pages false o attrs (leads.Knows file stamp) openings.Wait old new is on l t = absurd l
    led-pages false o attrs (leads.Ends fault) step old new is on l t = as-pages old new l.1 t

    -- ---- parts

    -- pages of a part are offered
    offered-pages : (file : List ℕ) (attr : Attr) (counted : ℕ) (eof : Bool) (given : List ℕ) (place count index : ℕ) (ends : Bool) (n : ℕ) (c : Pages)
        → came ≡ Ok (replies.File (kept.Read (Some attr) counted eof given)) → call ≡ calls.File (file_calls.Read file place count) → (ends ≡ true → eof ≡ true)
        → T c → T (offered_from file (stamp_of attr) sent.moment place given ends index n c)
    offered-pages file attr counted eof given place count index ends zero c is asked whole t = t
    offered-pages file attr counted eof given place count index ends (suc n) c is asked whole t =
        fed.offers file attr counted eof given place count (index + n) ends (offered_from file (stamp_of attr) sent.moment place given ends index n c) is asked whole
        (offered-pages file attr counted eof given place count index ends n c is asked whole t)

    both-true : (a b : Bool) → (a && b) ≡ true → a ≡ true
    both-true true b is = refl
    both-true false b is = absurd cc

    pub noted-pages : (attr : Option Attr) (file : List ℕ) (counted : ℕ) (eof : Bool) (given : List ℕ) (place count : ℕ) (c : Pages)
        → came ≡ Ok (replies.File (kept.Read attr counted eof given)) → call ≡ calls.File (file_calls.Read file place count) → T c
        → T (reading.noted attr file sent.moment place given eof c)
    noted-pages None file counted eof given place count c is asked t = t
    noted-pages (Some attr) file counted eof given place count c is asked t =
        offered-pages file attr counted eof given place count (place / 4096) (eof && (place + length given == attr.size)) (length given / 4096 + 2)
        (saw file (stamp_of attr) sent.moment c) is asked (both-true eof (place + length given == attr.size)) (fed.sees file attr counted eof given place count c is asked t)

    part-if : (b : Bool) (attr : Option Attr) (counted : ℕ) (eof : Bool) (given : List ℕ) (count : ℕ) (r : Reading) (c : Pages)
        → came ≡ Ok (replies.File (kept.Read attr counted eof given)) → call ≡ calls.File (file_calls.Read r.file (place_after r.base) count) → T c
        → T (reading.told sent turn (if b then refusal attr (faults.Bad 5) else part attr eof given) r c).pages
    part-if true attr counted eof given count r c is asked t = t
    part-if false attr counted eof given count r c is asked t =
        let noted = reading.noted attr r.file sent.moment (place_after r.base) given eof c in
        let after = reading.added (reading.count_of r.phase) eof given r in
        gone-pages turn.room (reading.settled after noted)
        (settled-pages after.phase after noted (noted-pages attr r.file counted eof given (place_after r.base) count c is asked t))

    file-part : (k : FileKept) (count : ℕ) (r : Reading) (c : Pages) → came ≡ Ok (replies.File k)
        → call ≡ calls.File (file_calls.Read r.file (place_after r.base) count) → T c → T (reading.told sent turn (said_by count (replies.File k)) r c).pages
    file-part (kept.Read attr counted eof given) count r c is asked t = part-if (breaks_rule count counted eof given) attr counted eof given count r c is asked t
    file-part (kept.ReadFail status attr) count r c is asked t = t
    file-part k count r c is asked t = t

    part-pages : (what : Result Reply Fault) (count : ℕ) (r : Reading) (c : Pages) → came ≡ what
        → ((reply : Reply) → came ≡ Ok reply → call ≡ calls.File (file_calls.Read r.file (place_after r.base) count)) → T c → T (reading.told sent turn (said_to count what) r c).pages
    part-pages (Ok (replies.File k)) count r c is asked t = file-part k count r c is (asked (replies.File k) is) t
    part-pages (Ok (replies.Dir k)) count r c is asked t = t
    part-pages (Ok (replies.Mount k)) count r c is asked t = t
    part-pages (Err fault) count r c is asked t = t

    heard-pages : (phase : Phase) (repeats : List Repeat) (r : Reading) (c : Pages) (back : Pending) (next : Step) (new : reading.State) → ((reply : Reply) → came ≡ Ok reply → PhaseAwaits phase r call)
        → reading.TakesPart (reading.heard phase came) sent turn repeats r c back next new → T c → T new.pages
    heard-pages phases.Attrs repeats r c back next new asked p t = as-pages c new.pages (ap (λ (s : reading.State). s.pages) p.1) t
    heard-pages phases.AskedAttrs repeats r c back next new asked p t = as-pages c new.pages (ap (λ (s : reading.State). s.pages) p.1) t
    heard-pages phases.Pages repeats r c back next new asked p t = as-pages c new.pages (ap (λ (s : reading.State). s.pages) p.1) t
    heard-pages phases.Rest repeats r c back next new asked p t = as-pages c new.pages (ap (λ (s : reading.State). s.pages) p.1) t
    heard-pages (phases.Asked count) repeats r c back next new asked p t =
        as-pages (reading.told sent turn (said_to count came) r c).pages new.pages (ap (λ (s : reading.State). s.pages) p.1) (part-pages came count r c refl asked t)
    heard-pages phases.Ended repeats r c back next new asked p t = as-pages c new.pages (ap (λ (s : reading.State). s.pages) p.1) t

    takes-read : (waits : Bool) (repeats : List Repeat) (r : Reading) (c : Pages) (back : Pending) (next : Step) (new : reading.State) → ((reply : Reply) → came ≡ Ok reply → PhaseAwaits r.phase r call) → ((reply : Reply) → came ≡ Ok reply → IsOn r.file call)
        → reading.TakesIf waits sent turn came repeats r c back next new → T c → T new.pages
    takes-read true repeats r c back next new asked on p t = attrs-read (got_by came) _ r c back next new refl on p t
    takes-read false repeats r c back next new asked on p t = heard-pages r.phase repeats r c back next new asked p t

    read-takes : (of : Option Reading) (repeats : List Repeat) (m : ReadFile) (c : Pages) (back : Pending) (next : Step) (new : ReadFile) (later : Pages)
        → ((reply : Reply) → came ≡ Ok reply → ReadAwaits of call) → ((reply : Reply) → came ≡ Ok reply → ReadOn of call) → reads.TakesIn of sent turn came repeats m c back next new later → T c → T later
    read-takes None repeats m c back next new later asked on p t = as-pages c later p.kept t
    read-takes (Some r) repeats m c back next new later asked on p t =
        as-pages p.state.pages later p.kept (takes-read (reading.waits_attrs r.phase) repeats r c back next p.state asked on p.step t)

    -- ---- saves

    module _ (file : List ℕ) (c : Pages) (t : T c) where
      written-pages : (piece : Sent) (wcc : Wcc) (count committed : ℕ) (verf : Verf) → came ≡ Ok (replies.File (kept.Write wcc count committed verf)) → call ≡ saves.write_of file piece
          → T (saves.pages_told file piece.offset piece.bytes (turn.moment - 1) (written_by piece.how (length piece.bytes) wcc count committed verf) c)
      written-pages piece wcc count committed verf is asked =
          by (nat_lt committed piece.how || nat_lt 2 committed) ((count == 0) || nat_lt (length piece.bytes) count) refl refl
        where
          by : (a b : Bool) → (nat_lt committed piece.how || nat_lt 2 committed) ≡ a → ((count == 0) || nat_lt (length piece.bytes) count) ≡ b
              → T (saves.pages_told file piece.offset piece.bytes (turn.moment - 1) (written_by piece.how (length piece.bytes) wcc count committed verf) c)
          by true b ea eb = rw ea (fed.drops file c t)
          by false true ea eb = rw (ea, eb) (fed.drops file c t)
          by false false ea eb = rw (ea, eb) (fed.writes file piece.offset piece.how piece.bytes wcc count committed verf c is asked t)

      file-told : (k : FileKept) (piece : Sent) → came ≡ Ok (replies.File k) → call ≡ saves.write_of file piece
          → T (saves.pages_told file piece.offset piece.bytes (turn.moment - 1) (write_told_by piece.how (length piece.bytes) k) c)
      file-told (kept.Write wcc count committed verf) piece is asked = written-pages piece wcc count committed verf is asked
      file-told (kept.WriteFail status wcc) piece is asked = fed.drops file c t
      file-told k piece is asked = fed.drops file c t

      pages-told : (what : Result Reply Fault) (piece : Sent) → came ≡ what → ((reply : Reply) → came ≡ Ok reply → call ≡ saves.write_of file piece)
          → T (saves.pages_told file piece.offset piece.bytes (turn.moment - 1) (write_told piece.how (length piece.bytes) what) c)
      pages-told (Ok (replies.File k)) piece is asked = file-told k piece is (asked (replies.File k) is)
      pages-told (Ok (replies.Dir k)) piece is asked = fed.drops file c t
      pages-told (Ok (replies.Mount k)) piece is asked = fed.drops file c t
      pages-told (Err fault) piece is asked = failed-as T file (turn.moment - 1) fault c t (fed.drops file c t)

      -- without a piece no count is right
      none-written : (wcc : Wcc) (count committed : ℕ) (verf : Verf) → T (saves.pages_told file 0 [] (turn.moment - 1) (written_by 0 0 wcc count committed verf) c)
      none-written wcc count committed verf = by (nat_lt committed 0 || nat_lt 2 committed) ((count == 0) || nat_lt 0 count) refl refl
        where
          by : (a b : Bool) → (nat_lt committed 0 || nat_lt 2 committed) ≡ a → ((count == 0) || nat_lt 0 count) ≡ b
              → T (saves.pages_told file 0 [] (turn.moment - 1) (written_by 0 0 wcc count committed verf) c)
          by true b ea eb = rw ea (fed.drops file c t)
          by false true ea eb = rw (ea, eb) (fed.drops file c t)
          by false false ea eb = absurd (grind (arith, nat_tests))

      none-told-by : (k : FileKept) → T (saves.pages_told file 0 [] (turn.moment - 1) (write_told_by 0 0 k) c)
      none-told-by (kept.Write wcc count committed verf) = none-written wcc count committed verf
      none-told-by (kept.WriteFail status wcc) = fed.drops file c t
      none-told-by k = fed.drops file c t

      none-told : (what : Result Reply Fault) → T (saves.pages_told file 0 [] (turn.moment - 1) (write_told 0 0 what) c)
      none-told (Ok (replies.File k)) = none-told-by k
      none-told (Ok (replies.Dir k)) = fed.drops file c t
      none-told (Ok (replies.Mount k)) = fed.drops file c t
      none-told (Err fault) = failed-as T file (turn.moment - 1) fault c t (fed.drops file c t)

      piece-told : (o : Option Sent) → ((piece : Sent) → o ≡ Some piece → (reply : Reply) → came ≡ Ok reply → call ≡ saves.write_of file piece)
          → T (saves.pages_told file (unwrap_or o saves.no_piece).offset (unwrap_or o saves.no_piece).bytes (turn.moment - 1)
          (write_told (unwrap_or o saves.no_piece).how (length (unwrap_or o saves.no_piece).bytes) came) c)
      piece-told None sent = none-told came
      piece-told (Some piece) sent = pages-told came piece refl (sent piece refl)

      sent-pages : (b : Bool) (asked : ℕ) (back : Pending) → ((reply : Reply) → came ≡ Ok reply → IsSentAs asked call back)
          → T (if b then saves.pages_told file (saves.answered asked file back).offset (saves.answered asked file back).bytes (turn.moment - 1) (saves.told_of asked file back came) c else c)
      sent-pages true asked back sent = piece-told (piece_under asked (of_file file back).pieces) (λ piece is reply came_so. sent reply came_so file piece is)
      sent-pages false asked back sent = t

    module _ (old : Shelf) (link : (reply : Reply) → came ≡ Ok reply → IsSentAs sent.xid call old.back) where
      saved-pages : (s : Saving) → T old.pages → T (saves.pages_after sent.xid (turn.moment - 1) came s old.back old.pages)
      saved-pages s t = sent-pages s.file old.pages t (saves.is_sending s.phase) sent.xid old.back link

      write-takes : (at : Writing) (wsize : ℕ) (m : WriteFile) (next : Step) (new : Writing) (after : Shelf) → writes.TakesIn at wsize m sent turn came old next new after
          → T old.pages → T after.pages
      write-takes writing.Idle wsize m next new after p t = as-shelf old after (kept-as old old after p.shelf_is refl) t
      write-takes (writing.Room file s) wsize m next new after p t =
          as-pages _ after.pages (write-follows p.told wsize m file p.saved turn _ next new after p.follows) (saved-pages s t)

      sync-takes : (at : Syncing) (wsize : ℕ) (m : SyncFile) (next : Step) (new : Syncing) (after : Shelf) → syncs.Takes at wsize m sent turn came old next new after
          → T old.pages → T after.pages
      sync-takes syncing.Idle wsize m next new after p t = as-shelf old after (kept-as old old after p.shelf_is refl) t
      sync-takes (syncing.Saves s) wsize m next new after p t = as-pages _ after.pages p.pages (saved-pages s t)

      removes-if : (again : Bool) (lane : ℕ) (removal : Removal) (mid : Shelf) (next : Step) (state : Closing) (new : Shelf) → closes.EndsIf again lane removal mid next state new
          → SamePages mid new
      removes-if true lane removal mid next state new e = kept-as mid mid new e.shelf_is refl
      removes-if false lane removal mid next state new e = ap (λ (s : Shelf). s.pages) e.others

      close-takes : (at : Closing) (wsize : ℕ) (m : CloseFile) (next : Step) (state : Closing) (after : Shelf) → closes.Takes at wsize m sent turn came old next state after
          → T old.pages → T after.pages
      close-takes closing.Idle wsize m next state after p t = as-shelf old after (kept-as old old after p.shelf_is refl) t
      close-takes (closing.Queued s) wsize m next state after p t = as-shelf old after (kept-as old old after p.shelf_is refl) t
      close-takes (closing.Saves s) wsize m next state after p t =
          as-shelf p.took after (close-follows p.gives m.lane m.slot turn.room true p.saved p.took next state after p.follows) (as-pages _ p.took.pages p.pages (saved-pages s t))
      close-takes (closing.ToRemove removal) wsize m next state after p t = as-shelf old after (kept-as old old after p.shelf_is refl) t
      close-takes (closing.Removing removal) wsize m next state after p t =
          as-shelf p.took after (removes-if (goes_again (remove_busy came) sent turn old.repeats) m.lane removal p.took next state after p.ends)
          (as-shelf old p.took (ap (λ (s : Shelf). s.pages) p.others) t)

      put-takes : (at : Putting) (wsize : ℕ) (m : PutFile) (next : Step) (new : PutFile) (after : Shelf) → ((reply : Reply) → came ≡ Ok reply → PutOn at m.opening m.write.state call) → puts.Takes at wsize m sent turn came old next new after
          → T old.pages → T after.pages
      put-takes putting.Idle wsize m next new after on p t = as-shelf old after (kept-as old old after p.shelf_is refl) t
      put-takes putting.Opens wsize m next new after on p t =
          as-shelf p.took after (after-opening p.step wsize _ turn p.took next new after p.follows)
          (led-pages (opening.opening_again m.opening sent turn came old.repeats) m.opening p.took.attrs (opening.led_on m.opening turn.now came p.took.attrs old.pages) p.step old.pages
          p.took.pages refl on p.leads t)
      put-takes (putting.Adds file) wsize m next new after on p t =
          as-shelf p.mid after (after-write p.told wsize m.write.lane file turn p.mid next new.state after p.goes.follows)
          (write-takes m.write.state wsize m.write p.told p.written p.mid p.takes t)
      put-takes (putting.Saves s) wsize m next new after on p t =
          as-shelf p.0.took after (put-follows p.0.gives m.write.lane p.0.saved p.0.took next new.state after p.0.follows)
          (as-pages _ p.0.took.pages p.0.pages (saved-pages s t))

      -- ---- truncates

      size-told : (k : FileKept) (file : List ℕ) (size : ℕ) → came ≡ Ok (replies.File k) → call ≡ truncates.size_call file size → T old.pages
          → T (truncates.told_pages (truncates.in_reply k) file size (turn.moment - 1) old.pages)
      size-told (kept.SetAttr wcc) file size is asked t = fed.cuts file wcc size old.pages is asked t
      size-told (kept.SetAttrFail status wcc) file size is asked t = t
      size-told k file size is asked t = fed.drops file old.pages t

      cut-told : (what : Result Reply Fault) (file : List ℕ) (size : ℕ) → came ≡ what → ((reply : Reply) → came ≡ Ok reply → call ≡ truncates.size_call file size) → T old.pages
          → T (truncates.told_pages (truncates.size_told what) file size (turn.moment - 1) old.pages)
      cut-told (Ok (replies.File k)) file size is asked t = size-told k file size is (asked (replies.File k) is) t
      cut-told (Ok (replies.Dir k)) file size is asked t = fed.drops file old.pages t
      cut-told (Ok (replies.Mount k)) file size is asked t = fed.drops file old.pages t
      cut-told (Err fault) file size is asked t = unset-as T file (turn.moment - 1) fault old.pages t (fed.drops file old.pages t)

      truncate-takes : (at : Truncating) (m : TruncateFile) (attrs : _) (back : Pending) (after : Shelf) → ((reply : Reply) → came ≡ Ok reply → SizeAwaits at m.size call)
          → after ≡ truncates.took_shelf at m came sent turn attrs back old → T old.pages → T after.pages
      truncate-takes truncating.Idle m attrs back after asked is t = as-shelf old after (kept-as old old after is refl) t
      truncate-takes (truncating.Queued file upto) m attrs back after asked is t = as-shelf old after (kept-as old old after is refl) t
      truncate-takes (truncating.Asked file upto) m attrs back after asked is t =
          as-pages _ after.pages (ap (λ (s : Shelf). s.pages) is) (cut-told came file m.size refl asked t)

      -- ---- any of them

      pub file-takes : (m : FileMachine) (wsize : ℕ) (next : Step) (new : FileMachine) (after : Shelf) → ((reply : Reply) → came ≡ Ok reply → FileAwaits m call) → ((reply : Reply) → came ≡ Ok reply → FileAsks m call) → steps.Takes wsize m sent turn came old next new after
          → T old.pages → T after.pages
      file-takes (files.Open m) wsize next new after asked on p t =
          led-pages (opening.opening_again m.opening sent turn came old.repeats) m.opening after.attrs (opening.led_on m.opening turn.now came after.attrs old.pages) p.steps.step old.pages
          after.pages refl on p.steps.led t
      file-takes (files.Read m) wsize next new after asked on p t = read-takes m.reading old.repeats m old.pages old.back next p.machine after.pages asked on p.step t
      file-takes (files.Write m) wsize next new after asked on p t = write-takes m.state wsize m next p.state after p.step t
      file-takes (files.Sync m) wsize next new after asked on p t = sync-takes m.state wsize m next p.state after p.step t
      file-takes (files.Close m) wsize next new after asked on p t = close-takes m.state wsize m next p.state after p.step t
      file-takes (files.Truncate m) wsize next new after asked on p t = truncate-takes m.state m after.attrs after.back after asked p.shelf_is t
      file-takes (files.Put m) wsize next new after asked on p t = put-takes m.state wsize m next p.machine after on p.step t
