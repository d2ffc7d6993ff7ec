-- An operation on a file makes a call again that was put off, as often as it may; a save also the WRITE of a piece, and its COMMIT.
use Rattle.core_session.proofs.Prelude.{◌≡◌, ◌≤◌, ◌&&◌, ◌||◌, ◌==◌, ℕ, Bool, true, false, List, Option, Some, None, Result, Ok, Err, inl, inr, refl, sym, ap, subst, ◌∙◌, arith, nat_lt, eqb-true, Attr, Verf, Wcc, DirKept, FileKept, Fault, Call, Reply, status_of, jukebox, Pending, Pages, Opens, left, Step, Repeat, Shelf, Turn, fails_busy, goes_again, CloseFile, Closing, Removal, OpenFile, Led, Opening, OpeningStep, PutFile, Putting, ReadFile, Reading, Sending, Committing, Resending, CommittingAgain, Saving, SyncFile, Syncing, TruncateFile, Truncating, WriteFile, Writing, place_after, remove_of, remove_busy, written_by, write_told, commit_told, part, refusal, said_to, got_by, by-step, ends_as, WalkStep, FileMachine, Machine, PathMachine, file_of, Takes, of_writing, of_syncing, of_closing, of_truncating, of_putting, of_walk, path_by, in_flight, PathOr, FineNext, flies_if, flies_save, flies_write, flies_sync, flies_close, flies_put, flies_file, flies_path, Expects, PathNames, SyncNames, WriteNames, CloseNames, StateNames, FileNames, Saves, IsPiece, CallFaults, CallFits, FitsWalk, FineLed, FitsOpening}
use Rattle.std.specs.Prelude.{is_none}
use Rattle.client_shelf.specs.Busy.{is_busy, repeats_after}
use Rattle.file_ops.specs.Closings.{busy_by}
use Rattle.file_ops.specs.ReadReply.{Said, says_busy}
use Rattle.core_facts.specs.InFlight.{of_phase, of_reading, of_file}
use Rattle.core_facts.proofs.AllAwaited.{PutAwaits, FileAwaits}
use Rattle.core_answers.proofs.asks.FilesAwaited.{CutNames}
use Rattle.core_answers.proofs.answers.SaveFaults.{FitsSave}
use Rattle.core_answers.proofs.writes.AllFits.{commits_path}
use Rattle.core_answers.proofs.refusals.FitReads.{FitsPhase, FitsRead, FineSaid}
use Rattle.nfs_dir_calls.specs.declared.keeping.DirKept.TheVariants as found
use Rattle.nfs_file_calls.specs.declared.call.FileCall.TheVariants as calls_of
use Rattle.nfs_file_calls.specs.declared.owned.FileKept.TheVariants as kept
use Rattle.world_model.specs.declared.answer.Fault.TheVariants as faults
use Rattle.world_model.specs.declared.message.Call.TheVariants as calls
use Rattle.world_model.specs.declared.message.Reply.TheVariants as replies
use Rattle.write_back.specs.Pieces.{Sent}
use Rattle.client_shelf.specs.declared.step.Step.TheVariants as nexts
use Rattle.file_ops.specs.declared.close_file.Closing.TheVariants as closing
use Rattle.file_ops.specs.declared.opening.Led.TheVariants as leads
use Rattle.file_ops.specs.declared.opening.OpeningStep.TheVariants as openings
use Rattle.file_ops.specs.declared.put_file.Putting.TheVariants as putting
use Rattle.file_ops.specs.declared.reading.Phase.{Phase as ReadPhase}
use Rattle.file_ops.specs.declared.reading.Phase.TheVariants as phases
use Rattle.file_ops.specs.declared.saving.Phase.{Phase}
use Rattle.file_ops.specs.declared.sync_file.Syncing.TheVariants as syncing
use Rattle.file_ops.specs.declared.truncate_file.Truncating.TheVariants as truncating
use Rattle.file_ops.specs.declared.write_file.Writing.TheVariants as writing
use Rattle.file_ops.specs.Closes as closes
use Rattle.file_ops.specs.OpenFile as opens
use Rattle.file_ops.specs.Opening as opening
use Rattle.file_ops.specs.PutFile as puts
use Rattle.file_ops.specs.ReadFile as reads
use Rattle.file_ops.specs.Reading as reading
use Rattle.file_ops.specs.Saves as saves
use Rattle.file_ops.specs.Syncs as syncs
use Rattle.file_ops.specs.TruncateFile as truncates
use Rattle.file_ops.specs.WriteFile as writes
use Rattle.name_ops.specs.declared.walk.WalkStep.TheVariants as walks
use Rattle.name_ops.specs.Walking as walking
use Rattle.op_machines.specs.declared.file_machine.FileMachine.TheVariants as files
use Rattle.op_machines.specs.declared.machine.Machine.TheVariants as machines
use Rattle.op_machines.specs.FileSteps as steps
use Rattle.op_machines.specs.PathSteps as paths
use Rattle.core_answers.proofs.asks.ReadsAwaited.{PhaseNames, ReadNames}
use Rattle.core_answers.proofs.answers.WriteFaults.{FitsWrite}
use Rattle.core_answers.proofs.writes.CallFits.{Fits, commits_save, commits_write, commits_sync, commits_close, commits_put, commits_file}
use Rattle.core_answers.proofs.refusals.FitAll.{FitsFile, FitsPath, FitsMachine}
use Rattle.core_answers.proofs.refusals.FitFiles.{FitsSync, FitsClose, FitsCut, FitsPut}
use Rattle.core_session.proofs.delays.Rests.{Same, same, writes-same, close-follows, put-follows, writes-on, adds-bytes, follows-path}
use Rattle.core_session.proofs.delays.Times.{opening_full, not-put-off}
use Rattle.core_session.proofs.delays.SaveSteps.{Gives}
use Rattle.core_session.proofs.delays.Took.{Took, took-as, fault-busy, result-busy, result-calm, again-busy, again-no}
use Rattle.core_session.proofs.delays.TookNames.{took-walk, took-name}

and-left : (a b : Bool) → (a && b) ≡ true → a ≡ true
and-left true b e = refl
and-left false b e = absurd (cc)

-- ---- a reply to a WRITE that puts it off

pub record IsPutOff (came : Result Reply Fault) : Type 0 where
  pub reply : Reply
  pub is : came ≡ Ok reply
  pub status : status_of reply ≡ jukebox

written-not : (R : Type 0) (how size : ℕ) (wcc : Wcc) (count committed : ℕ) (verf : Verf) (a b : Bool) → (nat_lt committed how || nat_lt 2 committed) ≡ a → ((count == 0) || nat_lt size count) ≡ b
    → saves.told_busy (written_by how size wcc count committed verf) ≡ true → R
written-not R how size wcc count committed verf true b i j is = let k = rw i at is in absurd (cc)
written-not R how size wcc count committed verf false true i j is = let k = rw (i, j) at is in absurd (cc)
written-not R how size wcc count committed verf false false i j is = let k = rw (i, j) at is in absurd (cc)

file-busy : (how size : ℕ) (reply : FileKept) → saves.told_busy (write_told how size (Ok (replies.File reply))) ≡ true → IsPutOff (Ok (replies.File reply))
file-busy how size (kept.Write wcc count committed verf) is =
    written-not (IsPutOff (Ok (replies.File (kept.Write wcc count committed verf)))) how size wcc count committed verf (nat_lt committed how || nat_lt 2 committed)
    ((count == 0) || nat_lt size count) refl refl is
file-busy how size (kept.WriteFail status wcc) is = record { reply = replies.File (kept.WriteFail status wcc); is = refl; status = eqb-true status.0 jukebox is }
file-busy how size reply is = absurd (cc)

pub write-busy : (how size : ℕ) (r : Result Reply Fault) → saves.told_busy (write_told how size r) ≡ true → IsPutOff r
write-busy how size (Ok (replies.File reply)) is = file-busy how size reply is
write-busy how size (Ok (replies.Dir reply)) is = absurd (cc)
write-busy how size (Ok (replies.Mount reply)) is = absurd (cc)
write-busy how size (Err fault) is = absurd (cc)

dir-busy : (reply : DirKept) → busy_by reply ≡ true → IsPutOff (Ok (replies.Dir reply))
dir-busy (found.RemoveFail status wcc) is = record { reply = replies.Dir (found.RemoveFail status wcc); is = refl; status = eqb-true status.0 jukebox is }
dir-busy reply is = absurd (cc)

remove-off : (r : Result Reply Fault) → remove_busy r ≡ true → IsPutOff r
remove-off (Ok (replies.Dir reply)) is = dir-busy reply is
remove-off (Ok (replies.File reply)) is = absurd (cc)
remove-off (Ok (replies.Mount reply)) is = absurd (cc)
remove-off (Err fault) is = absurd (cc)

-- ---- for which call a save waits, by whether it sends

pub sends-write : (s : Saving) (call : Call) → Saves s.file call → Fits (flies_save s) (commits_save s) call → saves.is_sending s.phase ≡ true → (p : Sent) × (call ≡ saves.write_of s.file p)
sends-write s call (inl w) k is = w
sends-write s call (inr c) k is = absurd (
    let flies : flies_save s ≡ Some s.file = ap (λ (b : Bool). flies_if b s.file) is in
    let w = subst (λ (c : Call). Fits (flies_save s) (commits_save s) c) c k in
    let no_way : None ≡ Some s.file = w.sends s.file flies in cc)

pub commits-file : (s : Saving) (call : Call) → Saves s.file call → Fits (flies_save s) (commits_save s) call → saves.is_sending s.phase ≡ false → call ≡ saves.commit_of s.file
commits-file s call (inr c) k is = c
commits-file s call (inl w) k is = absurd (
    let flies : flies_save s ≡ None = ap (λ (b : Bool). flies_if b s.file) is in
    let c = subst (λ (c : Call). Fits (flies_save s) (commits_save s) c) w.1 k in
    let no_way : None ≡ Some s.file = sym flies ∙ c.writes s.file refl in cc)

-- What an operation makes of what came where that doesn't put its call off; nothing is said here of a save.
module _ (Q : Fault → Type 0) (fine : CallFaults Q) (came : Result Reply Fault) where
  abbrev pub CalmFile : FileMachine → Type 0
  CalmFile (files.Open m) = opening_full m.opening ≡ false → FitsOpening Q fine m.opening came
  CalmFile (files.Read m) = FitsRead Q fine m.reading came
  CalmFile (files.Write m) = Unit {0}
  CalmFile (files.Sync m) = Unit {0}
  CalmFile (files.Close m) = Unit {0}
  CalmFile (files.Truncate m) = FitsCut Q fine m.state came
  CalmFile (files.Put m) = Unit {0}

  abbrev pub CalmPath : Bool → PathMachine → Type 0
  CalmPath true m = CalmFile (file_of m.opener)
  CalmPath false m = FitsWalk Q fine (walking.waiting_name m.walk) came

  abbrev pub Calm : Step → Machine → Type 0
  Calm next (machines.File m) = CalmFile m
  Calm next (machines.Path m) = CalmPath m.arrived m
  Calm next (machines.Name m) = FineNext Q next

module _ (P : Fault → Type 0) (own : CallFaults P) (sent turn : Turn) (came : Result Reply Fault) (call : Call) (evident : IsPutOff came → P (faults.Nfs jukebox)) where
  -- ---- saves

  module _ (s : Saving) (back : Pending) (e : Saves s.file call) (k : Fits (flies_save s) (commits_save s) call) (piece : (reply : Reply) → came ≡ Ok reply → IsPiece sent.xid call back)
      (fits : FitsSave P own sent came s back) (wsize : ℕ) (repeats : List Repeat) (gives : Gives) (new : Saving) (after : Pending) (later : List Repeat) where
    abbrev TookSave : Type 0
    TookSave = Took P sent turn repeats later (syncs.sync_next gives ≡ nexts.Send call) (Unit {0})

    same-write : saves.is_sending s.phase ≡ true → saves.told_busy (saves.told_of sent.xid s.file back came) ≡ true → saves.write_of s.file (saves.answered sent.xid s.file back) ≡ call
    same-write sending is =
        let w = write-busy (saves.answered sent.xid s.file back).how _ came is in
        let p = sends-write s call e k sending in
        sym (piece w.reply w.is s.file p.0.offset p.0.how p.0.bytes p.1)

    repeats-send : (c : Bool) → saves.RepeatsWrite c wsize sent turn (saves.told_of sent.xid s.file back came) s back gives new after → c ≡ true → syncs.sync_next gives ≡ nexts.Send (saves.write_of s.file (saves.answered sent.xid s.file back))
    repeats-send true r is = ap syncs.sync_next r.0.gives_next
    repeats-send false r is = absurd (cc)

    not-busy : later ≡ repeats_after false sent turn repeats → TookSave
    not-busy is = record { busy = false; later_is = is; again = λ a. again-no _ false sent turn repeats refl a; fault = λ wrong. absurd (cc); calm = λ none. tt }

    told-took : (b : Bool) → saves.may_again (saves.told_busy (saves.told_of sent.xid s.file back came)) s ≡ b → saves.is_sending s.phase ≡ true → saves.TakesToldIf b wsize sent turn (saves.told_of sent.xid s.file back came) repeats s back gives new after later → TookSave
    told-took true is sending (inl t) =
        let busy : saves.told_busy (saves.told_of sent.xid s.file back came) ≡ true = and-left (saves.told_busy (saves.told_of sent.xid s.file back came)) (is_none s.refusal) is in
        record {
          busy = true;
          later_is = t.1;
          again = λ a. repeats-send (goes_again true sent turn repeats) t.0 a ∙ ap (λ (c : Call). nexts.Send c) (same-write sending busy);
          fault = λ yes_. evident (write-busy (saves.answered sent.xid s.file back).how _ came busy);
          calm = λ none. tt;
        }
    told-took true is sending (inr t) = not-busy t.1
    told-took false is sending t = not-busy t.1

    commit-busy : saves.is_sending s.phase ≡ false → saves.may_commit (commit_told came) s ≡ true → P (faults.Nfs jukebox)
    commit-busy idle is =
        result-busy P (commit_told came)
        (and-left (fails_busy (commit_told came)) (is_none s.refusal) (and-left (saves.may_again (fails_busy (commit_told came)) s) (nat_lt s.put_off 3) is)) (fits.commits idle)

    first-send : (c : Bool) → saves.TakesFirst c wsize turn (commit_told came) s back gives new after → c ≡ true → syncs.sync_next gives ≡ nexts.Send (saves.commit_of s.file)
    first-send true t is = ap syncs.sync_next t.0.gives_next
    first-send false t is = absurd (cc)

    commit-took : saves.is_sending s.phase ≡ false → later ≡ saves.commit_repeats (commit_told came) sent turn repeats s
        → (saves.commit_again (commit_told came) sent turn repeats s ≡ true → syncs.sync_next gives ≡ nexts.Send (saves.commit_of s.file)) → TookSave
    commit-took idle is sends = record {
      busy = saves.may_commit (commit_told came) s;
      later_is = is;
      again = λ a. sends a ∙ ap (λ (c : Call). nexts.Send c) (sym (commits-file s call e k idle));
      fault = commit-busy idle;
      calm = λ none. tt;
    }

    took-in : (p : Phase) → s.phase ≡ p → saves.TakesIn p wsize sent turn came repeats s back gives new after later → TookSave
    took-in Sending is t = told-took (saves.may_again (saves.told_busy (saves.told_of sent.xid s.file back came)) s) refl (ap saves.is_sending is) t
    took-in Resending is t = told-took (saves.may_again (saves.told_busy (saves.told_of sent.xid s.file back came)) s) refl (ap saves.is_sending is) t
    took-in Committing is t = commit-took (ap saves.is_sending is) t.1 (first-send (saves.commit_again (commit_told came) sent turn repeats s) t.0)
    took-in CommittingAgain is t =
        commit-took (ap saves.is_sending is) t.2 (λ a. ap syncs.sync_next t.0.gives_next ∙ ap (λ (c : Bool). syncs.sync_next (saves.last_next c (commit_told came) s)) a)

    pub took-save : saves.Takes wsize sent turn came repeats s back gives new after later → TookSave
    took-save t = took-in s.phase refl t

  abbrev TookTo : Shelf → Shelf → Type 0 → Type 0 → Type 0
  TookTo old after A C = Took P sent turn old.repeats after.repeats A C

  as-unit : (old : Shelf) (later new : List Repeat) (gives : Gives) (next : Step) → new ≡ later → (syncs.sync_next gives ≡ nexts.Send call → next ≡ nexts.Send call)
      → Took P sent turn old.repeats later (syncs.sync_next gives ≡ nexts.Send call) (Unit {0}) → Took P sent turn old.repeats new (next ≡ nexts.Send call) (Unit {0})
  as-unit old later new gives next is sends t = took-as P sent turn old.repeats later new (syncs.sync_next gives ≡ nexts.Send call) (next ≡ nexts.Send call) (Unit {0}) (Unit {0}) is sends (λ c. c) t

  -- ---- syncs

  took-sync : (at : Syncing) (wsize : ℕ) (m : SyncFile) (old : Shelf) (next : Step) (state : Syncing) (new : Shelf) → 1 ≤ of_syncing at → SyncNames at call
      → Fits (flies_sync at) (commits_sync at) call → ((reply : Reply) → came ≡ Ok reply → IsPiece sent.xid call old.back) → FitsSync P own sent came at old.back
      → syncs.Takes at wsize m sent turn came old next state new → TookTo old new (next ≡ nexts.Send call) (Unit {0})
  took-sync syncing.Idle wsize m old next state new some e k piece fits t = absurd (omega (arith, some))
  took-sync (syncing.Saves s) wsize m old next state new some e k piece fits t =
      as-unit old new.repeats new.repeats t.gives next refl (λ is. t.follows.next_is ∙ is)
      (took-save s old.back e k piece fits wsize old.repeats t.gives t.saved new.back new.repeats t.takes)

  -- ---- closes

  follows-close : (gives : Gives) (lane slot : ℕ) (room begun : Bool) (saving : Saving) (old : Shelf) (next : Step) (state : Closing) (new : Shelf)
      → closes.Follows gives lane slot room begun saving old next state new → syncs.sync_next gives ≡ nexts.Send call → next ≡ nexts.Send call
  follows-close gives lane slot room begun saving old next state new f is = by-step
      (λ g. closes.Follows g lane slot room begun saving old next state new → syncs.sync_next g ≡ nexts.Send call → next ≡ nexts.Send call)
      (λ asked l same_call. l.0 ∙ same_call) (λ l wrong. absurd (cc)) (λ result l wrong. absurd (cc)) gives f is

  removed-same : (c : Bool) (lane : ℕ) (removal : Removal) (old : Shelf) (next : Step) (state : Closing) (new : Shelf) → closes.EndsIf c lane removal old next state new → Same new old
  removed-same true lane removal old next state new e = same new old e.shelf_is
  removed-same false lane removal old next state new e = ap (λ (s : Shelf). s.repeats) e.others

  removed-send : (c : Bool) (lane : ℕ) (removal : Removal) (old : Shelf) (next : Step) (state : Closing) (new : Shelf) → closes.EndsIf c lane removal old next state new → c ≡ true
      → next ≡ nexts.Send (remove_of removal)
  removed-send true lane removal old next state new e is = e.next_is
  removed-send false lane removal old next state new e is = absurd (cc)

  took-close : (at : Closing) (wsize : ℕ) (m : CloseFile) (old : Shelf) (next : Step) (state : Closing) (new : Shelf) → 1 ≤ of_closing at → CloseNames at call
      → Fits (flies_close at) (commits_close at) call → ((reply : Reply) → came ≡ Ok reply → IsPiece sent.xid call old.back) → FitsClose P own sent came at old.back
      → closes.Takes at wsize m sent turn came old next state new → TookTo old new (next ≡ nexts.Send call) (Unit {0})
  took-close closing.Idle wsize m old next state new some e k piece fits t = absurd (omega (arith, some))
  took-close (closing.Queued s) wsize m old next state new some e k piece fits t = absurd (omega (arith, some))
  took-close (closing.Saves s) wsize m old next state new some e k piece fits t =
      as-unit old t.took.repeats new.repeats t.gives next (close-follows t.gives m.lane m.slot turn.room true t.saved t.took next state new t.follows)
      (follows-close t.gives m.lane m.slot turn.room true t.saved t.took next state new t.follows)
      (took-save s old.back e k piece fits wsize old.repeats t.gives t.saved t.took.back t.took.repeats t.takes)
  took-close (closing.ToRemove removal) wsize m old next state new some e k piece fits t = absurd (omega (arith, some))
  took-close (closing.Removing removal) wsize m old next state new some e k piece fits t = record {
    busy = remove_busy came;
    later_is = removed-same (goes_again (remove_busy came) sent turn old.repeats) m.lane removal t.took next state new t.ends ∙ ap (λ (s : Shelf). s.repeats) t.others;
    again = λ a. removed-send (goes_again (remove_busy came) sent turn old.repeats) m.lane removal t.took next state new t.ends a ∙ ap (λ (c : Call). nexts.Send c) (sym e);
    fault = λ is. evident (remove-off came is);
    calm = λ none. tt;
  }

  -- ---- writes

  follows-write-same : (told : Gives) (wsize : ℕ) (m : WriteFile) (file : List ℕ) (saved : Saving) (shelf : Shelf) (next : Step) (new : Writing) (after : Shelf)
      → writes.Follows told wsize m file saved turn shelf next new after → Same after shelf
  follows-write-same told wsize m file saved shelf next new after f = by-step
      (λ g. writes.Follows g wsize m file saved turn shelf next new after → Same after shelf)
      (λ asked l. same after shelf l.shelf_is) (λ l. same after shelf l.shelf_is) ended told f
    where
      ended : (result : Result (Unit {0}) Fault) → writes.Follows (ends_as result) wsize m file saved turn shelf next new after → Same after shelf
      ended (Ok nothing) l = writes-same _ wsize m.lane file m.offset (writes.made_bytes m.text) turn (record shelf { order = left m.lane shelf.order }) next new after l
      ended (Err fault) l = ap (λ (s : Shelf). s.repeats) l.shelf_is

  follows-write-send : (told : Gives) (wsize : ℕ) (m : WriteFile) (file : List ℕ) (saved : Saving) (shelf : Shelf) (next : Step) (new : Writing) (after : Shelf)
      → writes.Follows told wsize m file saved turn shelf next new after → syncs.sync_next told ≡ nexts.Send call → next ≡ nexts.Send call
  follows-write-send told wsize m file saved shelf next new after f is = by-step
      (λ g. writes.Follows g wsize m file saved turn shelf next new after → syncs.sync_next g ≡ nexts.Send call → next ≡ nexts.Send call)
      (λ asked l same_call. l.gives_next ∙ same_call) (λ l wrong. absurd (cc)) (λ result l wrong. absurd (cc)) told f is

  took-write : (at : Writing) (wsize : ℕ) (m : WriteFile) (old : Shelf) (next : Step) (new : Writing) (after : Shelf) → 1 ≤ of_writing at → WriteNames at call
      → Fits (flies_write at) (commits_write at) call → ((reply : Reply) → came ≡ Ok reply → IsPiece sent.xid call old.back) → FitsWrite P own sent came at old.back
      → writes.TakesIn at wsize m sent turn came old next new after → TookTo old after (next ≡ nexts.Send call) (Unit {0})
  took-write writing.Idle wsize m old next new after some e k piece fits t = absurd (omega (arith, some))
  took-write (writing.Room file s) wsize m old next new after some e k piece fits t =
      as-unit old t.repeats after.repeats t.told next (follows-write-same t.told wsize m file t.saved _ next new after t.follows)
      (follows-write-send t.told wsize m file t.saved _ next new after t.follows)
      (took-save s old.back e k piece fits wsize old.repeats t.told t.saved t.back t.repeats t.takes)

  -- ---- puts

  led-send : (c : Bool) (o : Opening) (led : Led) (step : OpeningStep) (old new : Pages) → opening.LedIf c o sent turn led step old new → c ≡ true → step ≡ openings.Send (opening.call_of o o.step)
  led-send true o led step old new l is = l.0
  led-send false o led step old new l is = absurd (cc)

  led-busy : (led : Led) → opening.ends_busy led ≡ true → FineLed P own led → P (faults.Nfs jukebox)
  led-busy (leads.Goes step) is f = absurd (cc)
  led-busy (leads.Opens file attr) is f = absurd (cc)
  led-busy (leads.Knows file stamp) is f = absurd (cc)
  led-busy (leads.Ends fault) is f = fault-busy P fault is f

  opening-busy : (o : Opening) → opening.may_again o (opening.told_led o came) ≡ true → opening.ends_busy (opening.told_led o came) ≡ true
  opening-busy o is = and-left (opening.ends_busy (opening.told_led o came)) _ is

  put-opening-same : (step : OpeningStep) (wsize : ℕ) (m : PutFile) (old : Shelf) (next : Step) (new : PutFile) (after : Shelf) → puts.AfterOpening step wsize m turn old next new after → Same after old
  put-opening-same (openings.Send asked) wsize m old next new after a = same after old a.2
  put-opening-same openings.Wait wsize m old next new after a = same after old a.shelf_is
  put-opening-same (openings.Ended (Ok file)) wsize m old next new after a = adds-bytes wsize m file turn old next new after a
  put-opening-same (openings.Ended (Err fault)) wsize m old next new after a = same after old a.2

  put-opening-send : (step : OpeningStep) (asked : Call) (wsize : ℕ) (m : PutFile) (old : Shelf) (next : Step) (new : PutFile) (after : Shelf) → puts.AfterOpening step wsize m turn old next new after
      → step ≡ openings.Send asked → next ≡ nexts.Send asked
  put-opening-send (openings.Send own_call) asked wsize m old next new after a is = a.0 ∙ ap (λ (c : Call). nexts.Send c) (same-send own_call asked is)
    where
      same-send : (x y : Call) → openings.Send x ≡ openings.Send y → x ≡ y
      same-send x y e = cc
  put-opening-send openings.Wait asked wsize m old next new after a is = absurd (cc)
  put-opening-send (openings.Ended result) asked wsize m old next new after a is = absurd (cc)

  after-write-send : (told : Step) (wsize lane : ℕ) (file : List ℕ) (old : Shelf) (next : Step) (state : Putting) (new : Shelf) → puts.AfterWrite told wsize lane file turn old next state new
      → told ≡ nexts.Send call → next ≡ nexts.Send call
  after-write-send (nexts.Send asked) wsize lane file old next state new a is = a.0 ∙ is
  after-write-send nexts.Wait wsize lane file old next state new a is = absurd (cc)
  after-write-send (nexts.Done answer) wsize lane file old next state new a is = absurd (cc)

  follows-put : (gives : Gives) (lane : ℕ) (saving : Saving) (old : Shelf) (next : Step) (state : Putting) (new : Shelf) → puts.Follows gives lane saving old next state new
      → syncs.sync_next gives ≡ nexts.Send call → next ≡ nexts.Send call
  follows-put gives lane saving old next state new f is = by-step
      (λ g. puts.Follows g lane saving old next state new → syncs.sync_next g ≡ nexts.Send call → next ≡ nexts.Send call)
      (λ asked l same_call. l.0 ∙ same_call) (λ l wrong. absurd (cc)) (λ result l wrong. absurd (cc)) gives f is

  took-put : (at : Putting) (wsize : ℕ) (m : PutFile) (old : Shelf) (next : Step) (new : PutFile) (after : Shelf) → 1 ≤ of_putting at m.opening m.write.state → PutAwaits at m.opening call
      → StateNames at m.write.state call → Fits (flies_put at m.write.state) (commits_put at m.write.state) call → ((reply : Reply) → came ≡ Ok reply → IsPiece sent.xid call old.back)
      → FitsPut P own sent came at m old.back → puts.Takes at wsize m sent turn came old next new after → TookTo old after (next ≡ nexts.Send call) (Unit {0})
  took-put putting.Idle wsize m old next new after some a e k piece fits t = absurd (omega (arith, some))
  took-put putting.Opens wsize m old next new after some a e k piece fits t = record {
    busy = opening.may_again m.opening (opening.told_led m.opening came);
    later_is = put-opening-same t.step wsize _ t.took next new after t.follows ∙ t.repeats;
    again = λ go.
        put-opening-send t.step (opening.call_of m.opening m.opening.step) wsize _ t.took next new after t.follows
        (led-send (opening.opening_again m.opening sent turn came old.repeats) m.opening _ t.step old.pages t.took.pages t.leads go) ∙ ap (λ (c : Call). nexts.Send c) (sym a);
    fault = λ is. led-busy (opening.told_led m.opening came) (opening-busy m.opening is) fits;
    calm = λ none. tt;
  }
  took-put (putting.Adds file) wsize m old next new after some a e k piece fits t =
      took-as P sent turn old.repeats t.mid.repeats after.repeats (t.told ≡ nexts.Send call) (next ≡ nexts.Send call) (Unit {0}) (Unit {0})
      (writes-on wsize m file turn t.told t.written t.mid next new after t.goes)
      (λ is. after-write-send t.told wsize m.write.lane file t.mid next new.state after t.goes.follows is) (λ c. c)
      (took-write m.write.state wsize m.write old t.told t.written t.mid some e k piece fits t.takes)
  took-put (putting.Saves s) wsize m old next new after some a e k piece fits t =
      as-unit old t.0.took.repeats after.repeats t.0.gives next (put-follows t.0.gives m.write.lane t.0.saved t.0.took next new.state after t.0.follows)
      (follows-put t.0.gives m.write.lane t.0.saved t.0.took next new.state after t.0.follows)
      (took-save s old.back e k piece fits wsize old.repeats t.0.gives t.0.saved t.0.took.back t.0.took.repeats t.0.takes)

  module _ (Q : Fault → Type 0) (fine : CallFaults Q) (other : (fault : Fault) → is_busy fault ≡ false → Q fault) where
    -- ---- opens

    led-calm : (led : Led) → opening.ends_busy led ≡ false → FineLed Q fine led
    led-calm (leads.Goes step) is = tt
    led-calm (leads.Opens file attr) is = tt
    led-calm (leads.Knows file stamp) is = tt
    led-calm (leads.Ends fault) is = other fault is

    follows-open : (m : OpenFile) (step : OpeningStep) (asked : Call) (next : Step) (old new : Opens) → opens.Follows m step next old new → step ≡ openings.Send asked → next ≡ nexts.Send asked
    follows-open m (openings.Send own_call) asked next old new f is = f.0 ∙ ap (λ (c : Call). nexts.Send c) (same-send own_call asked is)
      where
        same-send : (x y : Call) → openings.Send x ≡ openings.Send y → x ≡ y
        same-send x y e = cc
    follows-open m openings.Wait asked next old new f is = absurd (cc)
    follows-open m (openings.Ended (Ok file)) asked next old new f is = absurd (cc)
    follows-open m (openings.Ended (Err fault)) asked next old new f is = absurd (cc)

    took-open : (m : OpenFile) (old : Shelf) (next : Step) (new : FileMachine) (after : Shelf) → call ≡ opening.call_of m.opening m.opening.step → FitsOpening P own m.opening came
        → steps.OpenTakes m sent turn came old next new after → TookTo old after (next ≡ nexts.Send call) (opening_full m.opening ≡ false → FitsOpening Q fine m.opening came)
    took-open m old next new after e fits t = record {
      busy = opening.may_again m.opening (opening.told_led m.opening came);
      later_is = t.repeats;
      again = λ go.
          follows-open m t.steps.step (opening.call_of m.opening m.opening.step) next old.opens after.opens t.steps.follows
          (led-send (opening.opening_again m.opening sent turn came old.repeats) m.opening _ t.steps.step old.pages after.pages t.steps.led go) ∙ ap (λ (c : Call). nexts.Send c) (sym e);
      fault = λ is. led-busy (opening.told_led m.opening came) (opening-busy m.opening is) fits;
      calm = λ is low.
          led-calm (opening.told_led m.opening came)
          (not-put-off (opening.ends_busy (opening.told_led m.opening came)) (opening.looks m.opening.step) (nat_lt m.opening.put_off 3) is low);
    }

    -- ---- reads

    module _ (r : Reading) (repeats : List Repeat) (pages : Pages) (back : Pending) (next : Step) (new : reading.State) where
      abbrev TookRead : ReadPhase → Type 0
      TookRead p = Took P sent turn repeats (reading.repeats_taken p sent turn came repeats) (next ≡ nexts.Send call) (FitsPhase Q fine p came)

      attrs-send : (told : Result Attr Fault) (c : Bool) → reading.TakesAttrs c told sent turn r pages back next new → fails_busy told ≡ true → c ≡ true → next ≡ nexts.Send (reading.attrs_call r.file)
      attrs-send (Ok attr) c t is a = absurd (cc)
      attrs-send (Err fault) c t is a = t.0 ∙ ap (λ (d : Bool). reading.again_next d (reading.attrs_call r.file) fault) a

      took-attrs : (p : ReadPhase) → reading.waits_attrs p ≡ true → PhaseNames p r call → FitsPhase P own p came
          → reading.TakesAttrs (goes_again (fails_busy (got_by came)) sent turn repeats) (got_by came) sent turn r pages back next new → TookRead p
      took-attrs phases.AskedAttrs is e fits t = record {
        busy = fails_busy (got_by came);
        later_is = refl;
        again = λ a.
            attrs-send (got_by came) (goes_again (fails_busy (got_by came)) sent turn repeats) t (again-busy (fails_busy (got_by came)) sent turn repeats a) a
            ∙ ap (λ (c : Call). nexts.Send c) (sym e);
        fault = λ b. result-busy P (got_by came) b fits;
        calm = λ b. result-calm Q other (got_by came) b;
      }
      took-attrs phases.Attrs is e fits t = absurd (cc)
      took-attrs phases.Pages is e fits t = absurd (cc)
      took-attrs phases.Rest is e fits t = absurd (cc)
      took-attrs (phases.Asked count) is e fits t = absurd (cc)
      took-attrs phases.Ended is e fits t = absurd (cc)

      said-send : (said : Said) (c : Bool) → reading.Tells c sent turn said r pages back next → says_busy said ≡ true → c ≡ true → next ≡ nexts.Send (reading.part_call r)
      said-send (part attr eof bytes) c t is a = absurd (cc)
      said-send (refusal attr fault) c t is a = t ∙ ap (λ (d : Bool). reading.refused_next d fault r) a

      said-busy : (said : Said) → says_busy said ≡ true → FineSaid P own said → P (faults.Nfs jukebox)
      said-busy (part attr eof bytes) is f = absurd (cc)
      said-busy (refusal attr fault) is f = fault-busy P fault is f

      said-calm : (said : Said) → says_busy said ≡ false → FineSaid Q fine said
      said-calm (part attr eof bytes) is = tt
      said-calm (refusal attr fault) is = other fault is

      took-part : (p : ReadPhase) → r.phase ≡ p → 1 ≤ of_phase p → reading.waits_attrs p ≡ false → PhaseNames p r call → FitsPhase P own p came
          → reading.TakesPart (reading.heard p came) sent turn repeats r pages back next new → TookRead p
      took-part (phases.Asked count) at some is e fits t = record {
        busy = says_busy (said_to count came);
        later_is = refl;
        again = λ a.
            said-send (said_to count came) (goes_again (says_busy (said_to count came)) sent turn repeats) t.0 (again-busy (says_busy (said_to count came)) sent turn repeats a) a
            ∙ ap (λ (q : ReadPhase). nexts.Send (calls.File (calls_of.Read r.file (place_after r.base) (reading.count_of q)))) at ∙ ap (λ (c : Call). nexts.Send c) (sym e);
        fault = λ b. said-busy (said_to count came) b fits;
        calm = λ b. said-calm (said_to count came) b;
      }
      took-part phases.AskedAttrs at some is e fits t = absurd (cc)
      took-part phases.Attrs at some is e fits t = absurd (omega (arith, some))
      took-part phases.Pages at some is e fits t = absurd (omega (arith, some))
      took-part phases.Rest at some is e fits t = absurd (omega (arith, some))
      took-part phases.Ended at some is e fits t = absurd (omega (arith, some))

      took-phase : (b : Bool) → reading.waits_attrs r.phase ≡ b → 1 ≤ of_phase r.phase → PhaseNames r.phase r call → FitsPhase P own r.phase came
          → reading.TakesIf b sent turn came repeats r pages back next new → TookRead r.phase
      took-phase true is some e fits t = took-attrs r.phase is e fits t
      took-phase false is some e fits t = took-part r.phase refl some is e fits t

    took-read : (o : Option Reading) (m : ReadFile) (repeats : List Repeat) (pages : Pages) (back : Pending) (next : Step) (new : ReadFile) (later : Pages) → 1 ≤ of_reading o → ReadNames o call
        → FitsRead P own o came → reads.TakesIn o sent turn came repeats m pages back next new later
        → Took P sent turn repeats (reads.repeats_heard o sent turn came repeats) (next ≡ nexts.Send call) (FitsRead Q fine o came)
    took-read None m repeats pages back next new later some e fits t = absurd (omega (arith, some))
    took-read (Some r) m repeats pages back next new later some e fits t = took-phase r repeats pages back next t.state (reading.waits_attrs r.phase) refl some e fits t.step

    -- ---- truncates

    took-cut : (at : Truncating) (m : TruncateFile) (old : Shelf) (next : Step) (attrs : _) (back : Pending) (after : Shelf) → 1 ≤ of_truncating at → CutNames m.size at call → FitsCut P own at came
        → next ≡ truncates.took_next at m came sent turn old.repeats → after ≡ truncates.took_shelf at m came sent turn attrs back old
        → TookTo old after (next ≡ nexts.Send call) (FitsCut Q fine at came)
    took-cut truncating.Idle m old next attrs back after some e fits is shelf = absurd (omega (arith, some))
    took-cut (truncating.Queued file upto) m old next attrs back after some e fits is shelf = absurd (omega (arith, some))
    took-cut (truncating.Asked file upto) m old next attrs back after some e fits is shelf = record {
      busy = fails_busy (truncates.size_told came);
      later_is = ap (λ (s : Shelf). s.repeats) shelf;
      again = λ a. is ∙ ap (λ (c : Bool). truncates.ended_next c m file came) a ∙ ap (λ (c : Call). nexts.Send c) (sym e);
      fault = λ b. result-busy P (truncates.size_told came) b fits;
      calm = λ b. result-calm Q other (truncates.size_told came) b;
    }

    -- ---- any operation on a file

    pub took-file : (m : FileMachine) (wsize : ℕ) (old : Shelf) (next : Step) (new : FileMachine) (after : Shelf) → 1 ≤ of_file m → FileAwaits m call → FileNames m call
        → Fits (flies_file m) (commits_file m) call → ((reply : Reply) → came ≡ Ok reply → IsPiece sent.xid call old.back) → FitsFile P own sent came m old.back
        → steps.Takes wsize m sent turn came old next new after → TookTo old after (next ≡ nexts.Send call) (CalmFile Q fine came m)
    took-file (files.Open m) wsize old next new after some a e k piece fits t = took-open m old next new after a fits t
    took-file (files.Read m) wsize old next new after some a e k piece fits t =
        took-as P sent turn old.repeats (reads.repeats_heard m.reading sent turn came old.repeats) after.repeats (next ≡ nexts.Send call) (next ≡ nexts.Send call) (FitsRead Q fine m.reading came)
        (FitsRead Q fine m.reading came) t.repeats (λ is. is) (λ c. c) (took-read m.reading m old.repeats old.pages old.back next t.machine after.pages some e fits t.step)
    took-file (files.Write m) wsize old next new after some a e k piece fits t = took-write m.state wsize m old next t.state after some e k piece fits t.step
    took-file (files.Sync m) wsize old next new after some a e k piece fits t = took-sync m.state wsize m old next t.state after some e k piece fits t.step
    took-file (files.Close m) wsize old next new after some a e k piece fits t = took-close m.state wsize m old next t.state after some e k piece fits t.step
    took-file (files.Truncate m) wsize old next new after some a e k piece fits t = took-cut m.state m old next after.attrs after.back after some e fits t.next_is t.shelf_is
    took-file (files.Put m) wsize old next new after some a e k piece fits t = took-put m.state wsize m old next t.machine after some a e k piece fits t.step

    -- ---- on their way

    follows-way : (step : WalkStep) (wsize : ℕ) (m : PathMachine) (old : Shelf) (next : Step) (new : PathMachine) (after : Shelf) → paths.Follows step wsize m turn old next new after
        → step ≡ walks.Send call → next ≡ nexts.Send call
    follows-way (walks.Send asked) wsize m old next new after f is = f.0 ∙ ap (λ (c : Call). nexts.Send c) (same-send asked call is)
      where
        same-send : (x y : Call) → walks.Send x ≡ walks.Send y → x ≡ y
        same-send x y e = cc
    follows-way walks.Wait wsize m old next new after f is = absurd (cc)
    follows-way (walks.At dir) wsize m old next new after f is = absurd (cc)
    follows-way (walks.Refused fault) wsize m old next new after f is = absurd (cc)

    took-path : (b : Bool) (wsize : ℕ) (m : PathMachine) (old : Shelf) (next : Step) (new : PathMachine) (after : Shelf) → 1 ≤ path_by b (of_walk m.walk) (of_file (file_of m.opener)) → PathOr b m call
        → PathNames b m call → Fits (flies_path b m.opener) (commits_path b m.opener) call → ((reply : Reply) → came ≡ Ok reply → IsPiece sent.xid call old.back)
        → FitsPath P own b sent came m old.back → paths.PathTakes b wsize m sent turn came old next new after → TookTo old after (next ≡ nexts.Send call) (CalmPath Q fine came b m)
    took-path true wsize m old next new after some a e k piece fits t = took-file (file_of m.opener) wsize old next (file_of t.opener) after some a e k piece fits t.step
    took-path false wsize m old next new after some a e k piece fits t =
        took-as P sent turn old.repeats t.heard.repeats after.repeats (t.step ≡ walks.Send call) (next ≡ nexts.Send call) (FitsWalk Q fine (walking.waiting_name m.walk) came)
        (FitsWalk Q fine (walking.waiting_name m.walk) came) (follows-path t.step wsize t.walked turn t.heard next new after t.follows)
        (follows-way t.step wsize t.walked t.heard next new after t.follows) (λ c. c)
        (took-walk P own Q fine other sent turn came call (walking.waiting_name m.walk) m.walk old t.step t.walked.walk t.heard some a fits t.takes)

    -- ---- any operation

    pub took-any : (m : Machine) (wsize : ℕ) (old : Shelf) (next : Step) (new : Machine) (after : Shelf) → 1 ≤ in_flight m → Expects m call → CallFits m call
        → ((reply : Reply) → came ≡ Ok reply → IsPiece sent.xid call old.back) → FitsMachine P own sent came m old.back → Takes wsize m sent turn came old next new after
        → TookTo old after (next ≡ nexts.Send call) (Calm Q fine came next m)
    took-any (machines.File m) wsize old next new after some e k piece fits t = took-file m wsize old next t.machine after some e.0 e.1 k piece fits t.step
    took-any (machines.Path m) wsize old next new after some e k piece fits t = took-path m.arrived wsize m old next t.machine after some e.0 e.1 k piece fits t.step
    took-any (machines.Name m) wsize old next new after some e k piece fits t = took-name P own Q fine other sent turn came call m old next t.machine after some e.0 fits t.step
