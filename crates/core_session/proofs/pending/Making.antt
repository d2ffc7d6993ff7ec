-- A WRITE carries what is newest at its places as it is made; or it is one that was put off, and carries the same again.
use Rattle.core_session.proofs.Prelude.{◌≡◌, ◌≢◌, ◌⊎◌, inl, inr, ℕ, Bool, true, false, List, [], ◌∷◌, ◌++◌, length, Option, Some, None, Result, Ok, Err, refl, sym, ap, subst, ◌∙◌, Verdict, AllStable, SendAgain, verdict_of, Verf, Fault, Reply, lost, chosen, piece_of, with_sent, Pending, of_file, OnFile, with_xid, FilePending, piece_under, rest_at, PutsInFlight, Segments, covers, same-or, Step, Repeat, Shelf, Turn, goes_again, Closing, Putting, Sending, Committing, Resending, CommittingAgain, Saving, Syncing, Writing, commit_told, IsUnused, FileMachine, Machine, Opener, file_of, Starts, Resumes, Takes, After, CarriesReply}
use Rattle.write_back.specs.Pieces.{Sent}
use Rattle.core_answers.proofs.writes.Backs.{Carries, SyncSaves, CloseSaves, WriteSaves, PutSaves, FileSaves}
use Rattle.client_shelf.specs.declared.step.Step.TheVariants as nexts
use Rattle.file_ops.specs.declared.close_file.Closing.TheVariants as closing
use Rattle.file_ops.specs.declared.put_file.Putting.TheVariants as putting
use Rattle.file_ops.specs.declared.saving.Phase.{Phase}
use Rattle.file_ops.specs.declared.sync_file.Syncing.TheVariants as syncing
use Rattle.file_ops.specs.declared.write_file.Writing.TheVariants as writing
use Rattle.file_ops.specs.Saves as saves
use Rattle.file_ops.specs.Syncs as syncs
use Rattle.file_ops.proofs.Landed.{lands-out}
use Rattle.op_machines.specs.declared.file_machine.FileMachine.TheVariants as files
use Rattle.op_machines.specs.declared.machine.Machine.TheVariants as machines
use Rattle.core_answers.proofs.writes.AllBacks.{PathSaves, Saves, all-starts, all-resumes, all-takes}
use Rattle.core_answers.proofs.writes.Mapped.{any-asks, any-brings, any-starts}
use Rattle.core_answers.proofs.writes.OwnPieces.{same-free, on-free, out-free}
use Rattle.core_answers.proofs.writes.Under.{under-last, under-renamed, same-under, bytes-under, gives-under}

some-sent : (a b : Sent) → Some a ≡ Some b → a ≡ b
some-sent a b e = cc

-- W of a file, an offset and bytes, as a call that is put off carries them.
module _ (W : List ℕ → ℕ → List ℕ → Type 0) (xid : ℕ) where
  abbrev pub Free : Pending → Type 0
  Free back = IsUnused xid back

  -- What is in flight covers all that is newest at its places; or it was in flight before, under the xid of the call that was put off.
  pub data IsMade (f : List ℕ) (piece : Sent) (back : Pending) : Type 0 where
    newest : ((place : ℕ) → covers piece.offset (length piece.bytes) place ≡ true → rest_at (of_file f back) place ≡ None) → IsMade f piece back
    again : W f piece.offset piece.bytes → IsMade f piece back

  abbrev pub AllMade : Pending → Type 0
  AllMade back = (f : List ℕ) (piece : Sent) → piece_under xid (of_file f back).pieces ≡ Some piece → IsMade f piece back

  none-made : (back : Pending) → Free back → AllMade back
  none-made back free f piece is = absurd (let no_way : None ≡ Some piece = sym (free f) ∙ is in cc)

  free-after : (next : Step) (back : Pending) → Free back → After Free (λ call. AllMade) next back
  free-after (nexts.Send call) back free = none-made back free
  free-after nexts.Wait back free = free
  free-after (nexts.Done answer) back free = free

  as-next : (to next : _) (back : Pending) → next ≡ to → After Free (λ call. AllMade) (syncs.sync_next to) back → After Free (λ call. AllMade) (syncs.sync_next next) back
  as-next to next back is a = subst (λ n. After Free (λ call. AllMade) (syncs.sync_next n) back) (sym is) a

  -- ---- a save that goes on

  puts-made : (file : List ℕ) (piece : Sent) (upto : ℕ) (old new : Pending) → piece.xid ≡ xid → OnFile old new file (with_sent piece (of_file file old))
      → PutsInFlight piece upto (of_file file old) (of_file file new) → Free old → AllMade new
  puts-made file piece upto old new is on puts free f p there = by (same-or file f)
    where
      last : piece_under xid ((of_file file old).pieces ++ piece ∷ []) ≡ Some piece
      last = subst (λ (n : ℕ). piece_under n ((of_file file old).pieces ++ piece ∷ []) ≡ Some piece) is
          (under-last (of_file file old).pieces piece (ap (λ (n : ℕ). piece_under n (of_file file old).pieces) is ∙ free file))

      bare : IsMade file piece new
      bare = newest (λ place c. puts.rest place ∙ (rw c refl))

      by : (f ≡ file) ⊎ (f ≢ file) → IsMade f p new
      by (inl same) =
          let here : piece_under xid (of_file file new).pieces ≡ Some p = subst (λ (g : List ℕ). piece_under xid (of_file g new).pieces ≡ Some p) same there in
          let which : piece ≡ p = some-sent piece p (sym last ∙ sym (ap (λ (of : FilePending). piece_under xid of.pieces) on.here) ∙ here) in
          subst (λ (g : List ℕ). IsMade g p new) (sym same) (subst (λ (q : Sent). IsMade file q new) which bare)
      by (inr apart) =
          absurd (let no_way : None ≡ Some p = sym (ap (λ (of : FilePending). piece_under xid of.pieces) (on.others f apart) ∙ free f) ∙ there in cc)

  sends-made : (by_reply : Bool) (run : Segments) (s : Saving) (back : Pending) (next : _) (new : Saving) (after : Pending) → saves.Sends xid by_reply run s back next new after
      → Free back → After Free (λ call. AllMade) (syncs.sync_next next) after
  sends-made by_reply run s back next new after (inr l) free = free-after (syncs.sync_next next) after (same-free xid back after l.1 free)
  sends-made by_reply [] s back next new after (inl l) free = free-after (syncs.sync_next next) after (same-free xid back after l.1 free)
  sends-made by_reply (e ∷ es) s back next new after (inl l) free =
      as-next _ next after l.0.gives_next (puts-made s.file (piece_of xid e (e ∷ es)) s.upto back after refl l.1.0 l.1.1 free)

  if-made : (b by_reply : Bool) (run : Segments) (s : Saving) (back : Pending) (next : _) (new : Saving) (after : Pending) → saves.SendsIf b xid by_reply run s back next new after
      → Free back → After Free (λ call. AllMade) (syncs.sync_next next) after
  if-made true by_reply run s back next new after l free = sends-made by_reply run s back next new after l free
  if-made false by_reply run s back next new after l free = free-after (syncs.sync_next next) after (same-free xid back after l.1 free)

  over-made : (refusal : Option Fault) (wsize : ℕ) (room by_reply : Bool) (s : Saving) (back : Pending) (next : _) (new : Saving) (after : Pending)
      → saves.GoesOver refusal wsize xid room by_reply s back next new after → Free back → After Free (λ call. AllMade) (syncs.sync_next next) after
  over-made (Some fault) wsize room by_reply s back next new after g free = free-after (syncs.sync_next next) after (same-free xid back after g.1 free)
  over-made None wsize room by_reply s back next new after g free =
      if-made (saves.may_send room s) by_reply (chosen s.upto wsize (of_file s.file back)) s back next new after g free

  goes-made : (wsize : ℕ) (room by_reply : Bool) (s : Saving) (back : Pending) (next : _) (new : Saving) (after : Pending)
      → saves.Goes wsize xid room by_reply s back next new after → Free back → After Free (λ call. AllMade) (syncs.sync_next next) after
  goes-made wsize room by_reply s back next new after g free = over-made s.refusal wsize room by_reply s back next new after g free

  -- ---- what came of a call

  write-made : (wsize asked : ℕ) (room : Bool) (told : _) (s : Saving) (back : Pending) (next : _) (new : Saving) (after : Pending)
      → saves.TakesWrite wsize asked xid room told s back next new after → Free back → After Free (λ call. AllMade) (syncs.sync_next next) after
  write-made wsize asked room told s back next new after g free =
      goes-made wsize room g.counts (saves.refused_by g.refusal s) g.between next new after g.goes
      (out-free xid asked s.file back g.between (lands-out asked s.file told back g.between g.refusal g.lands) free)

  renamed-made : (asked : ℕ) (file : List ℕ) (old new : Pending) → OnFile old new file (with_xid asked xid (of_file file old))
      → ((f : List ℕ) (p : Sent) → piece_under asked (of_file f old).pieces ≡ Some p → W f p.offset p.bytes) → Free old → AllMade new
  renamed-made asked file old new on was free f p there = by (same-or file f)
    where
      by : (f ≡ file) ⊎ (f ≢ file) → IsMade f p new
      by (inl same) =
          let here : piece_under xid (of_file file new).pieces ≡ Some p = subst (λ (g : List ℕ). piece_under xid (of_file g new).pieces ≡ Some p) same there in
          let w = under-renamed asked xid (of_file file old).pieces p (free file) (sym (ap (λ (of : FilePending). piece_under xid of.pieces) on.here) ∙ here) in
          again (subst (λ (q : Sent). W f q.offset q.bytes) (sym w.is) (subst (λ (g : List ℕ). W g w.was.offset w.was.bytes) (sym same) (was file w.was w.there)))
      by (inr apart) =
          absurd (let no_way : None ≡ Some p = sym (ap (λ (of : FilePending). piece_under xid of.pieces) (on.others f apart) ∙ free f) ∙ there in cc)

  decides-made : (verdict : Verdict) (wsize : ℕ) (room : Bool) (s : Saving) (back : Pending) (next : _) (new : Saving) (after : Pending)
      → saves.Decides verdict wsize xid room s back next new after → Free back → After Free (λ call. AllMade) (syncs.sync_next next) after
  decides-made AllStable wsize room s back next new after d free = free-after (syncs.sync_next next) after (same-free xid back after d.1 free)
  decides-made (SendAgain count) wsize room s back next new after d free = goes-made wsize room false (record s { phase = Resending }) back next new after d free

  commit-made : (told : Result Verf Fault) (wsize : ℕ) (room : Bool) (s : Saving) (back : Pending) (next : _) (new : Saving) (after : Pending)
      → saves.TakesCommit wsize xid room told s back next new after → Free back → After Free (λ call. AllMade) (syncs.sync_next next) after
  commit-made (Err fault) wsize room s back next new after g free = free-after (syncs.sync_next next) after (same-free xid back after g.1 free)
  commit-made (Ok verf) wsize room s back next new after g free =
      decides-made (verdict_of (lost verf s.upto (of_file s.file back).segments)) wsize room s g.between next new after g.goes
      (on-free xid back g.between s.file _ g.decides (λ none. none) free)

-- of the call that is put off
abbrev pub WasAsked : (List ℕ → ℕ → List ℕ → Type 0) → ℕ → Pending → Type 0
WasAsked W asked back = (f : List ℕ) (p : Sent) → piece_under asked (of_file f back).pieces ≡ Some p → W f p.offset p.bytes

module _ (W : List ℕ → ℕ → List ℕ → Type 0) (sent turn : Turn) where
  repeats-made : (once_more : Bool) (wsize : ℕ) (told : _) (s : Saving) (back : Pending) (next : _) (new : Saving) (after : Pending)
      → saves.RepeatsWrite once_more wsize sent turn told s back next new after → WasAsked W sent.xid back → Free W turn.xid back
      → After (Free W turn.xid) (λ call. AllMade W turn.xid) (syncs.sync_next next) after
  repeats-made true wsize told s back next new after r was free =
      as-next W turn.xid _ next after r.0.gives_next (renamed-made W turn.xid sent.xid s.file back after r.1 was free)
  repeats-made false wsize told s back next new after r was free = write-made W turn.xid wsize sent.xid turn.room told (saves.less_waiting s) back next new after r free

  told-made : (busy : Bool) (wsize : ℕ) (told : _) (repeats : List Repeat) (s : Saving) (back : Pending) (next : _) (new : Saving) (after : Pending) (later : List Repeat)
      → saves.TakesToldIf busy wsize sent turn told repeats s back next new after later → WasAsked W sent.xid back → Free W turn.xid back
      → After (Free W turn.xid) (λ call. AllMade W turn.xid) (syncs.sync_next next) after
  told-made true wsize told repeats s back next new after later (inl g) was free = repeats-made (goes_again true sent turn repeats) wsize told s back next new after g.0 was free
  told-made true wsize told repeats s back next new after later (inr g) was free =
      write-made W turn.xid wsize sent.xid turn.room _ (saves.less_waiting s) back next new after g.0 free
  told-made false wsize told repeats s back next new after later g was free =
      write-made W turn.xid wsize sent.xid turn.room told (saves.less_waiting s) back next new after g.0 free

  first-made : (once_more : Bool) (told : Result Verf Fault) (wsize : ℕ) (s : Saving) (back : Pending) (next : _) (new : Saving) (after : Pending)
      → saves.TakesFirst once_more wsize turn told s back next new after → Free W turn.xid back → After (Free W turn.xid) (λ call. AllMade W turn.xid) (syncs.sync_next next) after
  first-made true told wsize s back next new after g free = free-after W turn.xid (syncs.sync_next next) after (same-free turn.xid back after g.1 free)
  first-made false told wsize s back next new after g free = commit-made W turn.xid told wsize turn.room (saves.less_waiting s) back next new after g free

  in-made : (phase : Phase) (wsize : ℕ) (came : Result Reply Fault) (repeats : List Repeat) (s : Saving) (back : Pending) (next : _) (new : Saving) (after : Pending)
      (later : List Repeat) → saves.TakesIn phase wsize sent turn came repeats s back next new after later → WasAsked W sent.xid back → Free W turn.xid back
      → After (Free W turn.xid) (λ call. AllMade W turn.xid) (syncs.sync_next next) after
  in-made Sending wsize came repeats s back next new after later g was free = told-made _ wsize _ repeats s back next new after later g was free
  in-made Resending wsize came repeats s back next new after later g was free = told-made _ wsize _ repeats s back next new after later g was free
  in-made Committing wsize came repeats s back next new after later g was free =
      first-made (saves.commit_again (commit_told came) sent turn repeats s) (commit_told came) wsize s back next new after g.0 free
  in-made CommittingAgain wsize came repeats s back next new after later g was free = free-after W turn.xid (syncs.sync_next next) after (same-free turn.xid back after g.1 free)

  replies-made : (wsize : ℕ) (came : Result Reply Fault) → CarriesReply wsize sent turn came (λ s b. WasAsked W sent.xid b) (Free W turn.xid) (λ call. AllMade W turn.xid)
  replies-made wsize came = record {
    takes = λ repeats s back next new after later t was free. in-made s.phase wsize came repeats s back next new after later t was free;
  }

-- ---- as a step of an operation

carries-made : (W : List ℕ → ℕ → List ℕ → Type 0) (wsize : ℕ) (turn : Turn) → Carries wsize turn (λ f o b n. Unit {0}) (λ c. Unit {0}) (Free W turn.xid) (λ call. AllMade W turn.xid)
carries-made W wsize turn = record {
  goes = λ by_reply s back next new after g free. goes-made W turn.xid wsize turn.room by_reply s back next new after g free;
  adds = λ file offset bytes number old new a on free f. bytes-under turn.xid old old new file offset bytes number on (λ g. refl) f ∙ free f;
  cuts = λ file size upto old new on free f. same-under turn.xid old old new file _ refl on (λ g. refl) f ∙ free f;
  gives = λ file old new quiet on free f. gives-under turn.xid old old new file quiet on (λ g. refl) f ∙ free f;
  plain = λ call back fine free. none-made W turn.xid back free;
}

-- a fact of any save
module _ (N : Saving → Type 0) (each : (s : Saving) → N s) where
  of-sync : (state : Syncing) → SyncSaves N state
  of-sync syncing.Idle = tt
  of-sync (syncing.Saves saving) = each saving

  of-close : (state : Closing) → CloseSaves N state
  of-close closing.Idle = tt
  of-close (closing.Queued saving) = tt
  of-close (closing.Saves saving) = each saving
  of-close (closing.ToRemove removal) = tt
  of-close (closing.Removing removal) = tt

  of-write : (state : Writing) → WriteSaves N state
  of-write writing.Idle = tt
  of-write (writing.Room file saving) = each saving

  of-put : (state : Putting) (write : Writing) → PutSaves N state write
  of-put putting.Idle write = tt
  of-put putting.Opens write = tt
  of-put (putting.Adds file) write = of-write write
  of-put (putting.Saves saving) write = each saving

  of-files : (m : FileMachine) → FileSaves N m
  of-files (files.Open m) = tt
  of-files (files.Read m) = tt
  of-files (files.Write m) = of-write m.state
  of-files (files.Sync m) = of-sync m.state
  of-files (files.Close m) = of-close m.state
  of-files (files.Truncate m) = tt
  of-files (files.Put m) = of-put m.state m.write.state

  of-path : (arrived : Bool) (o : Opener) → PathSaves N arrived o
  of-path true o = of-files (file_of o)
  of-path false o = tt

  pub each-saves : (m : Machine) → Saves N m
  each-saves (machines.File m) = of-files m
  each-saves (machines.Path m) = of-path m.arrived m.opener
  each-saves (machines.Name m) = tt

-- no call was put off
abbrev pub Never : List ℕ → ℕ → List ℕ → Type 0
Never f offset bytes = ⊥

module _ (wsize : ℕ) (turn : Turn) where
  pub starts-made : (machine : Machine) (old : Shelf) (next : Step) (new : Machine) (after : Shelf) → Starts wsize machine turn old next new after → IsUnused turn.xid old.back
      → After (Free Never turn.xid) (λ call. AllMade Never turn.xid) next after.back
  starts-made machine old next new after s free =
      all-starts wsize turn (λ f o b n. Unit {0}) (λ c. Unit {0}) (λ call o. tt) (Free Never turn.xid) (λ call. AllMade Never turn.xid) (carries-made Never wsize turn)
      machine old next new after (any-asks next new) (any-starts machine old.opens) free s

  pub resumes-made : (machine : Machine) (old : Shelf) (next : Step) (new : Machine) (after : Shelf) → Resumes wsize machine turn old next new after → IsUnused turn.xid old.back
      → After (Free Never turn.xid) (λ call. AllMade Never turn.xid) next after.back
  resumes-made machine old next new after s free =
      all-resumes wsize turn (λ f o b n. Unit {0}) (λ c. Unit {0}) (λ call o. tt) (Free Never turn.xid) (λ call. AllMade Never turn.xid) (carries-made Never wsize turn)
      machine old next new after (any-asks next new) free s

  pub takes-made : (W : List ℕ → ℕ → List ℕ → Type 0) (sent : Turn) (came : Result Reply Fault) (machine : Machine) (old : Shelf) (next : Step) (new : Machine) (after : Shelf)
      → Takes wsize machine sent turn came old next new after → WasAsked W sent.xid old.back → IsUnused turn.xid old.back → After (Free W turn.xid) (λ call. AllMade W turn.xid) next after.back
  takes-made W sent came machine old next new after s was free =
      all-takes wsize turn (λ f o b n. Unit {0}) (λ c. Unit {0}) (λ call o. tt) (Free W turn.xid) (λ call. AllMade W turn.xid) (carries-made W wsize turn)
      sent came (λ s b. WasAsked W sent.xid b) (replies-made W sent turn wsize came) machine old next new after (any-asks next new) (any-brings machine)
      (each-saves (λ s. WasAsked W sent.xid old.back) (λ s. was) machine) free s
