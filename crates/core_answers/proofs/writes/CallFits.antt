-- A WRITE is asked for by an operation that sends bytes of its file, and a COMMIT by one that waits for it.
use Rattle.core_answers.proofs.Prelude.{◌≡◌, ◌+◌, ◌&&◌, ◌==◌, ℕ, Bool, true, false, List, [], ◌∷◌, Option, Some, None, Result, Ok, Err, inl, inr, refl, sym, ap, subst, ◌∙◌, nat_lt, Verdict, AllStable, SendAgain, verdict_of, Verf, FileCall, Answer, Fault, Memory, Call, Reply, lost, chosen, piece_of, Pending, of_file, Sent, Segments, last_end, Step, Repeat, Shelf, Turn, goes_again, left, is_first, CloseFile, Closing, Removal, OpeningStep, PutFile, Putting, Sending, Committing, Resending, CommittingAgain, Saving, SyncFile, Syncing, WriteFile, Writing, is_full, refusal_of, remove_of, remove_busy, commit_told, file_to_write, file_at, joined, by-step, ends_as, FileMachine, flies_if, flies_save, flies_write, flies_sync, flies_close, flies_put, flies_file}
use Rattle.std.specs.FinMap as finite
use Rattle.nfs_file_calls.specs.declared.call.FileCall.TheVariants as file_calls
use Rattle.world_model.specs.declared.answer.Answer.TheVariants as answers
use Rattle.world_model.specs.declared.message.Call.TheVariants as calls
use Rattle.client_shelf.specs.declared.step.Step.TheVariants as nexts
use Rattle.file_ops.specs.declared.close_file.Closing.TheVariants as closing
use Rattle.file_ops.specs.declared.opening.OpeningStep.TheVariants as openings
use Rattle.file_ops.specs.declared.put_file.Putting.TheVariants as putting
use Rattle.file_ops.specs.declared.saving.Phase.{Phase}
use Rattle.file_ops.specs.declared.sync_file.Syncing.TheVariants as syncing
use Rattle.file_ops.specs.declared.write_file.Writing.TheVariants as writing
use Rattle.file_ops.specs.Opening as opening
use Rattle.file_ops.specs.Closes as closes
use Rattle.file_ops.specs.PutFile as puts
use Rattle.file_ops.specs.Saves as saves
use Rattle.file_ops.specs.Syncs as syncs
use Rattle.file_ops.specs.WriteFile as writes
use Rattle.op_machines.specs.declared.file_machine.FileMachine.TheVariants as files
use Rattle.op_machines.specs.FileSteps as steps
use Rattle.core_answers.specs.writes.Alone.{written_file, committed_file, write_in, commit_in}
use Rattle.core_answers.proofs.writes.Plain.{IsOther, IsOtherFile, PlainAsks, OpeningAsks, go-asks, took-asks, opening-plain, open-starts, open-resumes, open-takes, read-starts, read-resumes, read-takes, truncate-starts, truncate-resumes, truncate-takes}

-- ---- the file whose COMMIT an operation waits for

abbrev pub commits_if : Bool → List ℕ → Option (List ℕ)
commits_if true file = None
commits_if false file = Some file

abbrev pub commits_save : Saving → Option (List ℕ)
commits_save s = commits_if (saves.is_sending s.phase) s.file

abbrev pub commits_write : Writing → Option (List ℕ)
commits_write writing.Idle = None
commits_write (writing.Room file saving) = commits_save saving

abbrev pub commits_sync : Syncing → Option (List ℕ)
commits_sync syncing.Idle = None
commits_sync (syncing.Saves saving) = commits_save saving

abbrev pub commits_close : Closing → Option (List ℕ)
commits_close closing.Idle = None
commits_close (closing.Queued saving) = None
commits_close (closing.Saves saving) = commits_save saving
commits_close (closing.ToRemove removal) = None
commits_close (closing.Removing removal) = None

abbrev pub commits_put : Putting → Writing → Option (List ℕ)
commits_put putting.Idle write = None
commits_put putting.Opens write = None
commits_put (putting.Adds file) write = commits_write write
commits_put (putting.Saves saving) write = commits_save saving

abbrev pub commits_file : FileMachine → Option (List ℕ)
commits_file (files.Open m) = None
commits_file (files.Read m) = None
commits_file (files.Write m) = commits_write m.state
commits_file (files.Sync m) = commits_sync m.state
commits_file (files.Close m) = commits_close m.state
commits_file (files.Truncate m) = None
commits_file (files.Put m) = commits_put m.state m.write.state

-- ---- what a call fits

-- A WRITE is of the file of which bytes are sent, where nothing else is asked for, and a COMMIT of the one whose COMMIT is waited for.
pub record Fits (flies commits : Option (List ℕ)) (call : Call) : Type 0 where
  pub sends : (f : List ℕ) → flies ≡ Some f → written_file call ≡ Some f
  pub writes : (f : List ℕ) → written_file call ≡ Some f → flies ≡ Some f
  pub commits_ : (f : List ℕ) → committed_file call ≡ Some f → commits ≡ Some f

none-is : {X : Type 0} → (f : List ℕ) → None ≡ Some f → X
none-is f e = absurd (let no_way : None ≡ Some f = e in cc)

pub no-write : (call : FileCall) → IsOtherFile call → write_in call ≡ None
no-write (file_calls.Write f offset how bytes) o = absurd o
no-write (file_calls.Commit f offset count) o = absurd o
no-write call o = refl

no-commit : (call : FileCall) → IsOtherFile call → commit_in call ≡ None
no-commit (file_calls.Write f offset how bytes) o = absurd o
no-commit (file_calls.Commit f offset count) o = absurd o
no-commit call o = refl

pub other-fits : (flies commits : Option (List ℕ)) (call : Call) → flies ≡ None → IsOther call → Fits flies commits call
other-fits flies commits (calls.File call) none o = record {
  sends = λ f is. none-is f (sym none ∙ is);
  writes = λ f is. none-is f (sym (no-write call o) ∙ is);
  commits_ = λ f is. none-is f (sym (no-commit call o) ∙ is);
}
other-fits flies commits (calls.Dir call) none o = record { sends = λ f is. none-is f (sym none ∙ is); writes = λ f is. none-is f is; commits_ = λ f is. none-is f is }
other-fits flies commits (calls.Mount call) none o = record { sends = λ f is. none-is f (sym none ∙ is); writes = λ f is. none-is f is; commits_ = λ f is. none-is f is }

abbrev pub AskFits : Step → Option (List ℕ) → Option (List ℕ) → Type 0
AskFits (nexts.Send call) flies commits = Fits flies commits call
AskFits nexts.Wait flies commits = Unit {0}
AskFits (nexts.Done answer) flies commits = Unit {0}

-- ---- saves

sending-fits : (s : Saving) (piece : Sent) → saves.is_sending s.phase ≡ true → Fits (flies_save s) (commits_save s) (saves.write_of s.file piece)
sending-fits s piece sending = record {
  sends = λ f is. sym (ap (λ (b : Bool). flies_if b s.file) sending) ∙ is;
  writes = λ f is. ap (λ (b : Bool). flies_if b s.file) sending ∙ is;
  commits_ = λ f is. none-is f is;
}

commit-fits : (s : Saving) → saves.is_sending s.phase ≡ false → Fits (flies_save s) (commits_save s) (saves.commit_of s.file)
commit-fits s idle = record {
  sends = λ f is. none-is f (sym (ap (λ (b : Bool). flies_if b s.file) idle) ∙ is);
  writes = λ f is. none-is f is;
  commits_ = λ f is. ap (λ (b : Bool). commits_if b s.file) idle ∙ is;
}

idle-commit : (phase : Phase) → saves.is_sending (saves.commit_phase phase) ≡ false
idle-commit Sending = refl
idle-commit Committing = refl
idle-commit Resending = refl
idle-commit CommittingAgain = refl

abbrev SaveAsks : Step → Saving → Type 0
SaveAsks next s = AskFits next (flies_save s) (commits_save s)

and-left : (a b : Bool) → (a && b) ≡ true → a ≡ true
and-left true b e = refl
and-left false b e = absurd cc

and-right : (a b : Bool) → (a && b) ≡ true → b ≡ true
and-right true b e = e
and-right false b e = absurd cc

lead-asks : (to : _) (saved : Saving) (next : _) (new : Saving) → saves.Leads to saved next new → SaveAsks (syncs.sync_next to) saved → SaveAsks (syncs.sync_next next) new
lead-asks to saved next new l a =
    subst (λ n. SaveAsks (syncs.sync_next n) new) (sym l.gives_next) (subst (λ (s : Saving). SaveAsks (syncs.sync_next to) s) (sym l.keeps) a)

refused-asks : (s : Saving) (fault : Fault) → SaveAsks (syncs.sync_next (saves.refused_next s.waiting fault)) s
refused-asks s fault = by (s.waiting == 0) refl
  where
    by : (b : Bool) → (s.waiting == 0) ≡ b → SaveAsks (syncs.sync_next (saves.refused_next s.waiting fault)) s
    by true e = rw e tt
    by false e = rw e tt

sent-asks : (by_reply : Bool) (s : Saving) → SaveAsks (syncs.sync_next (saves.next_sent by_reply s)) (saves.saving_sent by_reply s)
sent-asks by_reply s = by (nat_lt 0 s.waiting) (saves.is_again s.phase && by_reply) refl refl
  where
    by : (lt done : Bool) → nat_lt 0 s.waiting ≡ lt → (saves.is_again s.phase && by_reply) ≡ done
        → SaveAsks (syncs.sync_next (saves.next_sent by_reply s)) (saves.saving_sent by_reply s)
    by true done is ends = rw is tt
    by false true is ends = rw (is, ends) tt
    by false false is ends = rw (is, ends) (commit-fits (record s { phase = saves.commit_phase s.phase; waiting = 1 }) (idle-commit s.phase))

module _ (wsize xid : ℕ) (room : Bool) where
  sends-asks : (by_reply : Bool) (run : Segments) (s : Saving) (back : Pending) (next : _) (new : Saving) (after : Pending) → saves.is_sending s.phase ≡ true
      → saves.Sends xid by_reply run s back next new after → SaveAsks (syncs.sync_next next) new
  sends-asks by_reply run s back next new after sending (inr l) = lead-asks (saves.refused_next s.waiting Memory) s next new l.0 (refused-asks s Memory)
  sends-asks by_reply [] s back next new after sending (inl l) =
      lead-asks (saves.next_sent by_reply s) (saves.saving_sent by_reply s) next new l.0 (sent-asks by_reply s)
  sends-asks by_reply (e ∷ es) s back next new after sending (inl l) =
      lead-asks _ (record s { waiting = s.waiting + 1 }) next new l.0 (sending-fits (record s { waiting = s.waiting + 1 }) (piece_of xid e (e ∷ es)) sending)

  if-asks : (b by_reply : Bool) (run : Segments) (s : Saving) (back : Pending) (next : _) (new : Saving) (after : Pending) → saves.may_send room s ≡ b
      → saves.SendsIf b xid by_reply run s back next new after → SaveAsks (syncs.sync_next next) new
  if-asks false by_reply run s back next new after may l = lead-asks _ s next new l.0 tt
  if-asks true by_reply run s back next new after may l =
      let both = and-left (room && saves.is_sending s.phase) (nat_lt s.waiting 32) may in
      sends-asks by_reply run s back next new after (and-right room (saves.is_sending s.phase) both) l

  over-asks : (refusal : Option Fault) (by_reply : Bool) (s : Saving) (back : Pending) (next : _) (new : Saving) (after : Pending)
      → saves.GoesOver refusal wsize xid room by_reply s back next new after → SaveAsks (syncs.sync_next next) new
  over-asks (Some fault) by_reply s back next new after g = lead-asks (saves.refused_next s.waiting fault) s next new g.0 (refused-asks s fault)
  over-asks None by_reply s back next new after g =
      if-asks (saves.may_send room s) by_reply (chosen s.upto wsize (of_file s.file back)) s back next new after refl g

  goes-asks : (by_reply : Bool) (s : Saving) (back : Pending) (next : _) (new : Saving) (after : Pending) → saves.Goes wsize xid room by_reply s back next new after
      → SaveAsks (syncs.sync_next next) new
  goes-asks by_reply s back next new after g = over-asks s.refusal by_reply s back next new after g

  write-asks : (asked : ℕ) (told : _) (s : Saving) (back : Pending) (next : _) (new : Saving) (after : Pending) → saves.TakesWrite wsize asked xid room told s back next new after
      → SaveAsks (syncs.sync_next next) new
  write-asks asked told s back next new after g = goes-asks g.counts (saves.refused_by g.refusal s) g.between next new after g.goes

  decides-asks : (verdict : Verdict) (s : Saving) (back : Pending) (next : _) (new : Saving) (after : Pending) → saves.Decides verdict wsize xid room s back next new after
      → SaveAsks (syncs.sync_next next) new
  decides-asks AllStable s back next new after d = lead-asks _ s next new d.0 tt
  decides-asks (SendAgain count) s back next new after d = goes-asks false (record s { phase = Resending }) back next new after d

  commit-asks : (told : Result Verf Fault) (s : Saving) (back : Pending) (next : _) (new : Saving) (after : Pending) → saves.TakesCommit wsize xid room told s back next new after
      → SaveAsks (syncs.sync_next next) new
  commit-asks (Err fault) s back next new after g = lead-asks _ s next new g.0 tt
  commit-asks (Ok verf) s back next new after g = decides-asks (verdict_of (lost verf s.upto (of_file s.file back).segments)) s g.between next new after g.goes

module _ (wsize : ℕ) (sent turn : Turn) where
  repeats-asks : (again : Bool) (told : _) (s : Saving) (back : Pending) (next : _) (new : Saving) (after : Pending) → saves.is_sending s.phase ≡ true
      → saves.RepeatsWrite again wsize sent turn told s back next new after → SaveAsks (syncs.sync_next next) new
  repeats-asks true told s back next new after sending r = lead-asks _ s next new r.0 (sending-fits s (saves.answered sent.xid s.file back) sending)
  repeats-asks false told s back next new after sending r = write-asks wsize turn.xid turn.room sent.xid told (saves.less_waiting s) back next new after r

  told-asks : (busy : Bool) (told : _) (repeats : List Repeat) (s : Saving) (back : Pending) (next : _) (new : Saving) (after : Pending) (later : List Repeat)
      → saves.is_sending s.phase ≡ true → saves.TakesToldIf busy wsize sent turn told repeats s back next new after later → SaveAsks (syncs.sync_next next) new
  told-asks true told repeats s back next new after later sending (inl g) = repeats-asks (goes_again true sent turn repeats) told s back next new after sending g.0
  told-asks true told repeats s back next new after later sending (inr g) = write-asks wsize turn.xid turn.room sent.xid _ (saves.less_waiting s) back next new after g.0
  told-asks false told repeats s back next new after later sending g = write-asks wsize turn.xid turn.room sent.xid told (saves.less_waiting s) back next new after g.0

  first-asks : (again : Bool) (told : Result Verf Fault) (s : Saving) (back : Pending) (next : _) (new : Saving) (after : Pending) → saves.is_sending s.phase ≡ false
      → saves.TakesFirst again wsize turn told s back next new after → SaveAsks (syncs.sync_next next) new
  first-asks true told s back next new after idle g = lead-asks _ (saves.put_off_more s) next new g.0 (commit-fits (saves.put_off_more s) idle)
  first-asks false told s back next new after idle g = commit-asks wsize turn.xid turn.room told (saves.less_waiting s) back next new after g

  last-asks : (again : Bool) (told : Result Verf Fault) (s : Saving) → saves.is_sending s.phase ≡ false
      → SaveAsks (syncs.sync_next (saves.last_next again told s)) (saves.last_saving again s)
  last-asks true told s idle = commit-fits (saves.put_off_more s) idle
  last-asks false (Ok verf) s idle = tt
  last-asks false (Err fault) s idle = tt

  in-asks : (phase : Phase) (came : Result Reply Fault) (repeats : List Repeat) (s : Saving) (back : Pending) (next : _) (new : Saving) (after : Pending) (later : List Repeat)
      → s.phase ≡ phase → saves.TakesIn phase wsize sent turn came repeats s back next new after later → SaveAsks (syncs.sync_next next) new
  in-asks Sending came repeats s back next new after later at g = told-asks _ _ repeats s back next new after later (ap saves.is_sending at) g
  in-asks Resending came repeats s back next new after later at g = told-asks _ _ repeats s back next new after later (ap saves.is_sending at) g
  in-asks Committing came repeats s back next new after later at g =
      first-asks (saves.commit_again (commit_told came) sent turn repeats s) (commit_told came) s back next new after (ap saves.is_sending at) g.0
  in-asks CommittingAgain came repeats s back next new after later at g =
      lead-asks _ _ next new g.0 (last-asks (saves.commit_again (commit_told came) sent turn repeats s) (commit_told came) s (ap saves.is_sending at))

  takes-asks : (came : Result Reply Fault) (repeats : List Repeat) (s : Saving) (back : Pending) (next : _) (new : Saving) (after : Pending) (later : List Repeat)
      → saves.Takes wsize sent turn came repeats s back next new after later → SaveAsks (syncs.sync_next next) new
  takes-asks came repeats s back next new after later g = in-asks s.phase came repeats s back next new after later refl g

-- ---- steps of operations

waits-asks : (next : Step) (flies commits : Option (List ℕ)) → next ≡ nexts.Wait → AskFits next flies commits
waits-asks next flies commits is = subst (λ (n : Step). AskFits n flies commits) (sym is) tt

done-asks : (answer : Answer) (next : Step) (flies commits : Option (List ℕ)) → next ≡ nexts.Done answer → AskFits next flies commits
done-asks answer next flies commits is = subst (λ (n : Step). AskFits n flies commits) (sym is) tt

pub plain-asks : (next : Step) (flies commits : Option (List ℕ)) → flies ≡ None → PlainAsks next → AskFits next flies commits
plain-asks (nexts.Send call) flies commits none asks = other-fits flies commits call none (asks call refl)
plain-asks nexts.Wait flies commits none asks = tt
plain-asks (nexts.Done answer) flies commits none asks = tt

send-asks : (call : Call) (next : Step) (flies commits : Option (List ℕ)) → next ≡ nexts.Send call → Fits flies commits call → AskFits next flies commits
send-asks call next flies commits is f = subst (λ (n : Step). AskFits n flies commits) (sym is) f

module _ (wsize : ℕ) (turn : Turn) where
  -- ---- syncs

  sync-as : (gives : _) (saved : Saving) (next : Step) (state : Syncing) → next ≡ syncs.sync_next gives → state ≡ syncs.sync_state gives saved
      → SaveAsks (syncs.sync_next gives) saved → AskFits next (flies_sync state) (commits_sync state)
  sync-as gives saved next state n s a = by-step
      (λ g. next ≡ syncs.sync_next g → state ≡ syncs.sync_state g saved → SaveAsks (syncs.sync_next g) saved → AskFits next (flies_sync state) (commits_sync state))
      (λ call n s a. send-asks call next _ _ n (subst (λ (t : Syncing). Fits (flies_sync t) (commits_sync t) call) (sym s) a))
      (λ n s a. waits-asks next _ _ n)
      (λ result n s a. done-asks _ next _ _ n)
      gives n s a

  sync-queues : (b : Bool) (lane : ℕ) (saving : Saving) (old : Shelf) (next : Step) (state : Syncing) (new : Shelf) → syncs.QueuesIf b wsize lane turn saving old next state new
      → AskFits next (flies_sync state) (commits_sync state)
  sync-queues true lane saving old next state new q =
      sync-as q.gives q.saved next state q.follows.next_is q.follows.state_is (goes-asks wsize turn.xid turn.room false saving old.back q.gives q.saved new.back q.goes)
  sync-queues false lane saving old next state new q = waits-asks next _ _ q.next_is

  sync-starts : (m : SyncFile) (old : Shelf) (next : Step) (state : Syncing) (new : Shelf) → syncs.Starts wsize m turn old next state new
      → AskFits next (flies_sync state) (commits_sync state)
  sync-starts m old next state new s = at (file_at m.lane m.slot old.opens) s
    where
      at : (found : Option (List ℕ)) → syncs.StartsAt found wsize m turn old next state new → AskFits next (flies_sync state) (commits_sync state)
      at None s = done-asks _ next _ _ s.next_is
      at (Some file) s = sync-queues (is_first m.lane (joined m.lane file old).order) m.lane (saves.begun file old.seq) (joined m.lane file old) next state new s

  sync-resumes : (at : Syncing) (m : SyncFile) (old : Shelf) (next : Step) (state : Syncing) (new : Shelf) → syncs.Resumes at wsize m turn old next state new
      → AskFits next (flies_sync state) (commits_sync state)
  sync-resumes syncing.Idle m old next state new s = waits-asks next _ _ s.next_is
  sync-resumes (syncing.Saves saving) m old next state new s = sync-queues (is_first m.lane old.order) m.lane saving old next state new s

  sync-takes : (sent : Turn) (came : Result Reply Fault) (at : Syncing) (m : SyncFile) (old : Shelf) (next : Step) (state : Syncing) (new : Shelf)
      → syncs.Takes at wsize m sent turn came old next state new → AskFits next (flies_sync state) (commits_sync state)
  sync-takes sent came syncing.Idle m old next state new s = waits-asks next _ _ s.next_is
  sync-takes sent came (syncing.Saves saving) m old next state new s =
      sync-as s.gives s.saved next state s.follows.next_is s.follows.state_is (takes-asks wsize sent turn came old.repeats saving old.back s.gives s.saved new.back new.repeats s.takes)

  -- ---- closes

  close-asks : (b : Bool) (removal : Removal) (old : Shelf) (next : Step) (state : Closing) (new : Shelf) → closes.Asks b removal old next state new
      → AskFits next (flies_close state) (commits_close state)
  close-asks true removal old next state new a = send-asks (remove_of removal) next _ _ a.next_is (other-fits _ _ (remove_of removal) (ap flies_close a.state_is) tt)
  close-asks false removal old next state new a = waits-asks next _ _ a.next_is

  close-frees : (lane slot : ℕ) (file : List ℕ) (refusal : Option Fault) (old : Shelf) (next : Step) (state : Closing) (new : Shelf)
      → closes.Frees lane slot turn.room file refusal old next state new → AskFits next (flies_close state) (commits_close state)
  close-frees lane slot file refusal old next state new f = at f.place f.ends
    where
      at : (place : Option (List ℕ × List ℕ)) → closes.EndsAt place lane turn.room file refusal f.freed next state new → AskFits next (flies_close state) (commits_close state)
      at None e = done-asks _ next _ _ e.next_is
      at (Some place) e = close-asks turn.room (record { file = file; dir = place.0; name = place.1; refusal = refusal }) f.freed next state new e

  close-follows : (gives : _) (lane slot : ℕ) (begun : Bool) (saving : Saving) (old : Shelf) (next : Step) (state : Closing) (new : Shelf)
      → closes.Follows gives lane slot turn.room begun saving old next state new → SaveAsks (syncs.sync_next gives) saving → AskFits next (flies_close state) (commits_close state)
  close-follows gives lane slot begun saving old next state new f a = by-step
      (λ g. closes.Follows g lane slot turn.room begun saving old next state new → SaveAsks (syncs.sync_next g) saving → AskFits next (flies_close state) (commits_close state))
      (λ call f a. send-asks call next _ _ f.0 (subst (λ (t : Closing). Fits (flies_close t) (commits_close t) call) (sym f.1) a))
      (λ f a. waits-asks next _ _ f.0)
      (λ result f a. close-frees lane slot saving.file (refusal_of result) old next state new f)
      gives f a

  close-on : (lane slot : ℕ) (begun : Bool) (saving : Saving) (old : Shelf) (next : Step) (state : Closing) (new : Shelf)
      → closes.GoesOn wsize lane slot turn begun saving old next state new → AskFits next (flies_close state) (commits_close state)
  close-on lane slot begun saving old next state new g =
      close-follows g.gives lane slot begun g.saved g.gone next state new g.follows (goes-asks wsize turn.xid turn.room false saving old.back g.gives g.saved g.gone.back g.goes)

  close-queues : (b : Bool) (lane slot : ℕ) (saving : Saving) (old : Shelf) (next : Step) (state : Closing) (new : Shelf)
      → closes.QueuesIf b wsize lane slot turn saving old next state new → AskFits next (flies_close state) (commits_close state)
  close-queues false lane slot saving old next state new q = waits-asks next _ _ q.next_is
  close-queues true lane slot saving old next state new q = at (last_end (of_file saving.file old.back).segments) q
    where
      at : (end : Option ℕ) → closes.Begins end wsize lane slot turn saving old next state new → AskFits next (flies_close state) (commits_close state)
      at None b = close-frees lane slot saving.file None old next state new b
      at (Some end) b = close-on lane slot false saving old next state new b

  close-starts : (m : CloseFile) (old : Shelf) (next : Step) (state : Closing) (new : Shelf) → closes.Starts wsize m turn old next state new
      → AskFits next (flies_close state) (commits_close state)
  close-starts m old next state new s = at (file_at m.lane m.slot old.opens) s
    where
      at : (found : Option (List ℕ)) → closes.StartsAt found wsize m turn old next state new → AskFits next (flies_close state) (commits_close state)
      at None s = done-asks _ next _ _ s.next_is
      at (Some file) s = close-queues (is_first m.lane (joined m.lane file old).order) m.lane m.slot (saves.begun file old.seq) (joined m.lane file old) next state new s

  close-resumes : (at : Closing) (m : CloseFile) (old : Shelf) (next : Step) (state : Closing) (new : Shelf) → closes.Resumes at wsize m turn old next state new
      → AskFits next (flies_close state) (commits_close state)
  close-resumes closing.Idle m old next state new s = waits-asks next _ _ s.next_is
  close-resumes (closing.Queued saving) m old next state new s = close-queues (is_first m.lane old.order) m.lane m.slot saving old next state new s
  close-resumes (closing.Saves saving) m old next state new s = by (is_first m.lane old.order) s
    where
      by : (b : Bool) → closes.GoesOnIf b wsize m.lane m.slot turn saving old next state new → AskFits next (flies_close state) (commits_close state)
      by true g = close-on m.lane m.slot true saving old next state new g
      by false g = waits-asks next _ _ g.next_is
  close-resumes (closing.ToRemove removal) m old next state new s = close-asks turn.room removal old next state new s
  close-resumes (closing.Removing removal) m old next state new s = waits-asks next _ _ s.next_is

  close-takes : (sent : Turn) (came : Result Reply Fault) (at : Closing) (m : CloseFile) (old : Shelf) (next : Step) (state : Closing) (new : Shelf)
      → closes.Takes at wsize m sent turn came old next state new → AskFits next (flies_close state) (commits_close state)
  close-takes sent came closing.Idle m old next state new s = waits-asks next _ _ s.next_is
  close-takes sent came (closing.Queued saving) m old next state new s = waits-asks next _ _ s.next_is
  close-takes sent came (closing.ToRemove removal) m old next state new s = waits-asks next _ _ s.next_is
  close-takes sent came (closing.Saves saving) m old next state new s =
      close-follows s.gives m.lane m.slot true s.saved s.took next state new s.follows
      (takes-asks wsize sent turn came old.repeats saving old.back s.gives s.saved s.took.back s.took.repeats s.takes)
  close-takes sent came (closing.Removing removal) m old next state new s = by (goes_again (remove_busy came) sent turn old.repeats) s.ends
    where
      by : (b : Bool) → closes.EndsIf b m.lane removal s.took next state new → AskFits next (flies_close state) (commits_close state)
      by true e = send-asks (remove_of removal) next _ _ e.next_is (other-fits _ _ (remove_of removal) (ap flies_close e.state_is) tt)
      by false e = done-asks _ next _ _ e.next_is

  -- ---- writes and fills

  room-as : (told : _) (lane : ℕ) (file : List ℕ) (saved : Saving) (shelf : Shelf) (next : Step) (state : Writing) (after : Shelf)
      → writes.Leads (writes.room_next told) (writes.room_state told file saved) (writes.room_shelf told lane shelf) next state after → SaveAsks (syncs.sync_next told) saved
      → AskFits next (flies_write state) (commits_write state)
  room-as told lane file saved shelf next state after r a = by-step
      (λ k. writes.Leads (writes.room_next k) (writes.room_state k file saved) (writes.room_shelf k lane shelf) next state after → SaveAsks (syncs.sync_next k) saved
      → AskFits next (flies_write state) (commits_write state))
      (λ call r a. send-asks call next _ _ r.gives_next (subst (λ (t : Writing). Fits (flies_write t) (commits_write t) call) (sym r.keeps) a))
      (λ r a. waits-asks next _ _ r.gives_next)
      ended told r a
    where
      ended : (result : Result (Unit {0}) Fault)
          → writes.Leads (writes.room_next (ends_as result)) (writes.room_state (ends_as result) file saved) (writes.room_shelf (ends_as result) lane shelf) next state after
          → Unit {0} → AskFits next (flies_write state) (commits_write state)
      ended (Ok done) r a = waits-asks next _ _ r.gives_next
      ended (Err fault) r a = done-asks _ next _ _ r.gives_next

  write-saves : (b : Bool) (lane : ℕ) (file : List ℕ) (saving : Saving) (shelf : Shelf) (next : Step) (state : Writing) (after : Shelf)
      → writes.SavesIf b wsize lane file saving turn shelf next state after → AskFits next (flies_write state) (commits_write state)
  write-saves false lane file saving shelf next state after s = waits-asks next _ _ s.gives_next
  write-saves true lane file saving shelf next state after s =
      room-as s.told lane file s.saved (record shelf { back = s.back }) next state after s.leads
      (goes-asks wsize turn.xid turn.room false saving shelf.back s.told s.saved s.back s.goes)

  write-writes : (lane : ℕ) (file : List ℕ) (offset : ℕ) (bytes : List ℕ) (shelf : Shelf) (next : Step) (state : Writing) (after : Shelf)
      → writes.Writes wsize lane file offset bytes turn shelf next state after → AskFits next (flies_write state) (commits_write state)
  write-writes lane file offset bytes shelf next state after wrote = by (is_full bytes shelf.back) wrote
    where
      by : (b : Bool) → writes.WritesIf b wsize lane file offset bytes turn shelf next state after → AskFits next (flies_write state) (commits_write state)
      by true (inl s) = write-saves (is_first lane (joined lane s.of shelf).order) lane file (saves.begun s.of shelf.seq) (joined lane s.of shelf) next state after s.saves
      by true (inr s) = done-asks _ next _ _ s.1.gives_next
      by false (inl s) = done-asks _ next _ _ s.leads.gives_next
      by false (inr s) = done-asks _ next _ _ s.gives_next

  write-starts : (m : WriteFile) (old : Shelf) (next : Step) (new : WriteFile) (after : Shelf) → writes.Starts wsize m turn old next new after
      → AskFits next (flies_write new.state) (commits_write new.state)
  write-starts m old next new after s = at (file_to_write m.lane m.slot old.opens) s
    where
      at : (found : Result (List ℕ) Fault) → writes.StartsAt found wsize m turn old next new after → AskFits next (flies_write new.state) (commits_write new.state)
      at (Err fault) s = done-asks _ next _ _ s.refuses.gives_next
      at (Ok file) (inr s) = done-asks _ next _ _ s.refuses.gives_next
      at (Ok file) (inl s) = write-writes m.lane file m.offset (writes.text_bytes m.text) old next new.state after s.writes

  write-resumes : (at : Writing) (lane : ℕ) (old : Shelf) (next : Step) (state : Writing) (after : Shelf) → writes.ResumesIn at wsize lane turn old next state after
      → AskFits next (flies_write state) (commits_write state)
  write-resumes writing.Idle lane old next state after s = waits-asks next _ _ s.gives_next
  write-resumes (writing.Room file saving) lane old next state after s = write-saves (is_first lane old.order) lane file saving old next state after s

  write-follows : (told : _) (m : WriteFile) (file : List ℕ) (saved : Saving) (shelf : Shelf) (next : Step) (state : Writing) (after : Shelf)
      → writes.Follows told wsize m file saved turn shelf next state after → SaveAsks (syncs.sync_next told) saved → AskFits next (flies_write state) (commits_write state)
  write-follows told m file saved shelf next state after f a = by-step
      (λ k. writes.Follows k wsize m file saved turn shelf next state after → SaveAsks (syncs.sync_next k) saved → AskFits next (flies_write state) (commits_write state))
      (λ call f a. send-asks call next _ _ f.gives_next (subst (λ (t : Writing). Fits (flies_write t) (commits_write t) call) (sym f.keeps) a))
      (λ f a. waits-asks next _ _ f.gives_next)
      ended told f a
    where
      ended : (result : Result (Unit {0}) Fault) → writes.Follows (ends_as result) wsize m file saved turn shelf next state after → Unit {0}
          → AskFits next (flies_write state) (commits_write state)
      ended (Ok done) f a = write-writes m.lane file m.offset (writes.made_bytes m.text) (record shelf { order = left m.lane shelf.order }) next state after f
      ended (Err fault) f a = done-asks _ next _ _ f.gives_next

  write-takes : (sent : Turn) (came : Result Reply Fault) (at : Writing) (m : WriteFile) (old : Shelf) (next : Step) (state : Writing) (after : Shelf)
      → writes.TakesIn at wsize m sent turn came old next state after → AskFits next (flies_write state) (commits_write state)
  write-takes sent came writing.Idle m old next state after s = waits-asks next _ _ s.gives_next
  write-takes sent came (writing.Room file saving) m old next state after s =
      write-follows s.told m file s.saved _ next state after s.follows (takes-asks wsize sent turn came old.repeats saving old.back s.told s.saved s.back s.repeats s.takes)

  -- ---- puts

  put-follows : (gives : _) (lane : ℕ) (saving : Saving) (old : Shelf) (next : Step) (state : Putting) (write : Writing) (after : Shelf)
      → puts.Follows gives lane saving old next state after → SaveAsks (syncs.sync_next gives) saving → AskFits next (flies_put state write) (commits_put state write)
  put-follows gives lane saving old next state write after f a = by-step
      (λ g. puts.Follows g lane saving old next state after → SaveAsks (syncs.sync_next g) saving → AskFits next (flies_put state write) (commits_put state write))
      (λ call f a. send-asks call next _ _ f.0 (subst (λ (t : Putting). Fits (flies_put t write) (commits_put t write) call) (sym f.1) a))
      (λ f a. waits-asks next _ _ f.0)
      (λ result f a. done-asks _ next _ _ f.next_is)
      gives f a

  put-queues : (b : Bool) (lane : ℕ) (saving : Saving) (old : Shelf) (next : Step) (state : Putting) (write : Writing) (after : Shelf)
      → puts.QueuesIf b wsize lane turn saving old next state after → AskFits next (flies_put state write) (commits_put state write)
  put-queues false lane saving old next state write after q = waits-asks next _ _ q.next_is
  put-queues true lane saving old next state write after g =
      put-follows g.gives lane g.saved g.gone next state write after g.follows (goes-asks wsize turn.xid turn.room false saving old.back g.gives g.saved g.gone.back g.goes)

  put-wrote : (told : Step) (lane : ℕ) (file : List ℕ) (old : Shelf) (next : Step) (state : Putting) (write : Writing) (after : Shelf)
      → puts.AfterWrite told wsize lane file turn old next state after → AskFits told (flies_write write) (commits_write write)
      → AskFits next (flies_put state write) (commits_put state write)
  put-wrote (nexts.Send call) lane file old next state write after a f =
      send-asks call next _ _ a.0 (subst (λ (t : Putting). Fits (flies_put t write) (commits_put t write) call) (sym a.1) f)
  put-wrote nexts.Wait lane file old next state write after a f = waits-asks next _ _ a.0
  put-wrote (nexts.Done (answers.Done value)) lane file old next state write after a f =
      put-queues (is_first lane (joined lane file old).order) lane (saves.begun file old.seq) (joined lane file old) next state write after a
  put-wrote (nexts.Done (answers.Refused fault)) lane file old next state write after a f = done-asks _ next _ _ a.next_is

  put-as : (next : Step) (to new : PutFile) → new ≡ to → AskFits next (flies_put to.state to.write.state) (commits_put to.state to.write.state)
      → AskFits next (flies_put new.state new.write.state) (commits_put new.state new.write.state)
  put-as next to new is a = subst (λ (m : PutFile). AskFits next (flies_put m.state m.write.state) (commits_put m.state m.write.state)) (sym is) a

  put-goes : (m : PutFile) (file : List ℕ) (told : Step) (written : Writing) (mid : Shelf) (next : Step) (new : PutFile) (after : Shelf)
      → puts.WritesOn wsize m file turn told written mid next new after → AskFits told (flies_write written) (commits_write written)
      → AskFits next (flies_put new.state new.write.state) (commits_put new.state new.write.state)
  put-goes m file told written mid next new after g a =
      put-as next (record m { write = record m.write { state = written }; state = new.state }) new g.machine_is
      (put-wrote told m.write.lane file mid next new.state written after g.follows a)

  put-opened : (step : OpeningStep) (m : PutFile) (old : Shelf) (next : Step) (new : PutFile) (after : Shelf) → m.state ≡ putting.Opens → puts.AfterOpening step wsize m turn old next new after
      → OpeningAsks step → AskFits next (flies_put new.state new.write.state) (commits_put new.state new.write.state)
  put-opened (openings.Send call) m old next new after at a asks =
      send-asks call next _ _ a.0 (other-fits _ _ call (ap (λ (p : PutFile). flies_put p.state p.write.state) a.1 ∙ ap (λ (t : Putting). flies_put t m.write.state) at) (asks call refl))
  put-opened openings.Wait m old next new after at a asks = waits-asks next _ _ a.next_is
  put-opened (openings.Ended (Ok file)) m old next new after at a asks =
      put-goes m file a.told a.written a.mid next new after a.goes
      (write-writes m.write.lane file m.write.offset (writes.made_bytes m.write.text) (puts.put_at m.write.lane file old) a.told a.written a.mid a.writes)
  put-opened (openings.Ended (Err fault)) m old next new after at a asks = done-asks _ next _ _ a.0

  put-resumes : (at : Putting) (m : PutFile) (old : Shelf) (next : Step) (new : PutFile) (after : Shelf) → m.state ≡ at → puts.Resumes at wsize m turn old next new after
      → AskFits next (flies_put new.state new.write.state) (commits_put new.state new.write.state)
  put-resumes putting.Idle m old next new after at s = waits-asks next _ _ s.next_is
  put-resumes putting.Opens m old next new after at s =
      plain-asks next _ _ (ap (λ (p : PutFile). flies_put p.state p.write.state) s.1 ∙ ap (λ (t : Putting). flies_put t m.write.state) at) (opening-plain (opening.go_next m.opening turn) next s.0 (go-asks m.opening turn (opening.go_next m.opening turn) refl))
  put-resumes (putting.Adds file) m old next new after at s =
      put-goes m file s.told s.written s.mid next new after s.goes (write-resumes m.write.state m.write.lane old s.told s.written s.mid s.resumes)
  put-resumes (putting.Saves saving) m old next new after at s =
      put-as next (record m { state = new.state }) new s.1 (put-queues (is_first m.write.lane old.order) m.write.lane saving old next new.state m.write.state after s.0)

  put-takes : (sent : Turn) (came : Result Reply Fault) (at : Putting) (m : PutFile) (old : Shelf) (next : Step) (new : PutFile) (after : Shelf)
      → m.state ≡ at → puts.Takes at wsize m sent turn came old next new after → AskFits next (flies_put new.state new.write.state) (commits_put new.state new.write.state)
  put-takes sent came putting.Idle m old next new after at s = waits-asks next _ _ s.next_is
  put-takes sent came putting.Opens m old next new after at s =
      put-opened s.step _ s.took next new after at s.follows
      (took-asks (opening.may_again m.opening (opening.told_led m.opening came)) (opening.opening_again m.opening sent turn came old.repeats) old.repeats
      m.opening sent turn (opening.led_on m.opening turn.now came s.took.attrs old.pages) s.step old.pages s.took.pages refl s.leads)
  put-takes sent came (putting.Adds file) m old next new after at s =
      put-goes m file s.told s.written s.mid next new after s.goes (write-takes sent came m.write.state m.write old s.told s.written s.mid s.takes)
  put-takes sent came (putting.Saves saving) m old next new after at s =
      let k = s.0 in
      put-as next (record m { state = new.state }) new s.1
      (put-follows k.gives m.write.lane k.saved k.took next new.state m.write.state after k.follows
      (takes-asks wsize sent turn came old.repeats saving old.back k.gives k.saved k.took.back k.took.repeats k.takes))

  -- ---- any operation on a file

  abbrev pub FileAsks : Step → FileMachine → Type 0
  FileAsks next m = AskFits next (flies_file m) (commits_file m)

  file-as : (next : Step) (to new : FileMachine) → new ≡ to → FileAsks next to → FileAsks next new
  file-as next to new is a = subst (λ (m : FileMachine). FileAsks next m) (sym is) a

  pub file-starts : (m : FileMachine) (old : Shelf) (next : Step) (new : FileMachine) (after : Shelf) → steps.Starts wsize m turn old next new after → FileAsks next new
  file-starts (files.Open m) old next new after s = plain-asks next _ _ (ap flies_file s.machine_is) (open-starts m turn old.opens next s.next_is)
  file-starts (files.Read m) old next new after s =
      plain-asks next _ _ (ap flies_file s.machine_is) (read-starts (finite.get old.opens (m.lane, m.slot)) turn m old.pages old.back next s.machine after.pages s.step)
  file-starts (files.Write m) old next new after s = file-as next (files.Write s.machine) new s.machine_is (write-starts m old next s.machine after s.step)
  file-starts (files.Sync m) old next new after s = file-as next (files.Sync (record m { state = s.state })) new s.machine_is (sync-starts m old next s.state after s.step)
  file-starts (files.Close m) old next new after s = file-as next (files.Close (record m { state = s.state })) new s.machine_is (close-starts m old next s.state after s.step)
  file-starts (files.Truncate m) old next new after s = plain-asks next _ _ (ap flies_file s.machine_is) (truncate-starts m turn old next s.next_is)
  file-starts (files.Put m) old next new after s =
      plain-asks next _ _ (ap flies_file s.machine_is) (opening-plain (opening.go_next (puts.opening_at turn m) turn) next s.next_is
      (go-asks (puts.opening_at turn m) turn (opening.go_next (puts.opening_at turn m) turn) refl))

  pub file-resumes : (m : FileMachine) (old : Shelf) (next : Step) (new : FileMachine) (after : Shelf) → steps.Resumes wsize m turn old next new after → FileAsks next new
  file-resumes (files.Open m) old next new after s = plain-asks next _ _ (ap flies_file s.machine_is) (open-resumes m turn next s.next_is)
  file-resumes (files.Read m) old next new after s =
      plain-asks next _ _ (ap flies_file s.machine_is) (read-resumes m.reading turn m old.pages old.back next s.machine after.pages s.step)
  file-resumes (files.Write m) old next new after s = file-as next (files.Write (record m { state = s.state })) new s.machine_is (write-resumes m.state m.lane old next s.state after s.step)
  file-resumes (files.Sync m) old next new after s = file-as next (files.Sync (record m { state = s.state })) new s.machine_is (sync-resumes m.state m old next s.state after s.step)
  file-resumes (files.Close m) old next new after s = file-as next (files.Close (record m { state = s.state })) new s.machine_is (close-resumes m.state m old next s.state after s.step)
  file-resumes (files.Truncate m) old next new after s = plain-asks next _ _ (ap flies_file s.machine_is) (truncate-resumes m.state m turn old next s.next_is)
  file-resumes (files.Put m) old next new after s = file-as next (files.Put s.machine) new s.machine_is (put-resumes m.state m old next s.machine after refl s.step)

  pub file-takes : (sent : Turn) (came : Result Reply Fault) (m : FileMachine) (old : Shelf) (next : Step) (new : FileMachine) (after : Shelf)
      → steps.Takes wsize m sent turn came old next new after → FileAsks next new
  file-takes sent came (files.Open m) old next new after s =
      plain-asks next _ _ (ap flies_file s.machine_is) (open-takes m sent turn came after.attrs old.repeats next old.pages after.pages old.opens after.opens s.steps)
  file-takes sent came (files.Read m) old next new after s =
      plain-asks next _ _ (ap flies_file s.machine_is) (read-takes m.reading sent turn came old.repeats m old.pages old.back next s.machine after.pages s.step)
  file-takes sent came (files.Write m) old next new after s =
      file-as next (files.Write (record m { state = s.state })) new s.machine_is (write-takes sent came m.state m old next s.state after s.step)
  file-takes sent came (files.Sync m) old next new after s =
      file-as next (files.Sync (record m { state = s.state })) new s.machine_is (sync-takes sent came m.state m old next s.state after s.step)
  file-takes sent came (files.Close m) old next new after s =
      file-as next (files.Close (record m { state = s.state })) new s.machine_is (close-takes sent came m.state m old next s.state after s.step)
  file-takes sent came (files.Truncate m) old next new after s = plain-asks next _ _ (ap flies_file s.machine_is) (truncate-takes m.state m came sent turn old.repeats next s.next_is)
  file-takes sent came (files.Put m) old next new after s = file-as next (files.Put s.machine) new s.machine_is (put-takes sent came m.state m old next s.machine after refl s.step)
