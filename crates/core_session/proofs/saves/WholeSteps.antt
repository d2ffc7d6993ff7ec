-- Each WRITE that waits has its piece in flight: the same bytes.
use Rattle.core_session.proofs.Prelude.{◌≡◌, ◌≢◌, ◌≤◌, ◌<◌, ◌+◌, ◌-◌, ◌&&◌, ◌==◌, inl, inr, ℕ, List, [], ◌∷◌, ◌++◌, length, Bool, true, false, nat_eq, Option, Some, None, option_map, position, Result, Ok, Err, refl, sym, ap, subst, ◌∙◌, arith, nat_lt, eqb-true, eqb-false, Verdict, AllStable, SendAgain, verdict_of, Verf, Waiting, next_xid, made_call, waiting_at, without, waits_early, at_made, others_made, others_taken, gone, lost, chosen, piece_of, with_sent, Pending, of_file, OnFile, with_xid, FilePending, piece_under, Segments, Fault, Memory, Entry, Began, Delivered, Call, Reply, Op, SpellsCallBy, proc_of, said_of, Step, Repeat, Shelf, Turn, goes_again, Closing, Putting, Sending, Committing, Resending, CommittingAgain, Saving, Syncing, Writing, commit_told, IsUnused, Mounted, FileMachine, Machine, Opener, PathMachine, machine_of, file_of, Starts, Resumes, Takes, Purpose, Busy, Setup, is_busy, IsIdle, with_state, record_of, Makes, Leads, Stirs, counted, StartsLane, TakesAt, View, turn_at, unmade_turn, in_flight, Reaches, begins-unbegun, taken_one, flies_if, flies_save, flies_write, flies_sync, flies_close, flies_put, flies_file, flies_path, flies_of, Known, taker-is, taker-one, Rows, same-rows, taken-rows, reached-good, one-call, written_file, IsWaiting, write_of, IsInFlight, CallFits, fits-laws, After, CarriesReply, Free, waits-late, unused-next, starts-under, resumes-under, takes-under, SameUnder}
use Rattle.std.specs.Prelude.{unwrap_or}
use Rattle.write_back.specs.Pieces.{Sent}
use Rattle.core_facts.proofs.Rows.{made-known, made-asked}
use Rattle.core_answers.proofs.writes.AllFits.{Asks}
use Rattle.core_answers.proofs.writes.Backs.{Carries, SyncSaves, CloseSaves, WriteSaves, PutSaves, FileSaves}
use Rattle.core_answers.proofs.writes.OwnPieces.{on-free, out-free}
use Rattle.core_answers.proofs.writes.PiecesCarried.{Flying, unmade-under, keeps-flying}
use Rattle.core_answers.proofs.writes.Under.{under-last, renamed-under, as_xid, bytes-under, same-under, gives-under}
use Rattle.world_model.specs.declared.message.Call.TheVariants as calls
use Rattle.client_shelf.specs.declared.step.Step.TheVariants as nexts
use Rattle.file_ops.specs.declared.close_file.Closing.TheVariants as closing
use Rattle.file_ops.specs.declared.put_file.Putting.TheVariants as putting
use Rattle.file_ops.specs.declared.saving.Phase.{Phase}
use Rattle.file_ops.specs.declared.sync_file.Syncing.TheVariants as syncing
use Rattle.file_ops.specs.declared.write_file.Writing.TheVariants as writing
use Rattle.file_ops.specs.Saves as saves
use Rattle.file_ops.specs.Syncs as syncs
use Rattle.file_ops.proofs.Landed.{lands-out}
use Rattle.op_machines.specs.declared.file_machine.FileMachine.TheVariants as files
use Rattle.op_machines.specs.declared.machine.Machine.TheVariants as machines
use Rattle.core_answers.proofs.writes.AllBacks.{AsksOther, OtherBy, OnWay, Saves, PathSaves}
use Rattle.core_answers.proofs.writes.AllBacks as backs
use Rattle.core_answers.proofs.writes.AllFits as fitting
use Rattle.core_answers.proofs.writes.Along.{KeepsAlong, reached-along}
use Rattle.core_answers.proofs.writes.CallFits.{no-write}
use Rattle.core_answers.proofs.writes.CommitsAlone.{tales, nfs-write}
use Rattle.core_answers.proofs.writes.Mapped.{any-brings, any-starts}
use Rattle.core_answers.proofs.writes.Plain.{IsOther}

pub none-some : {X : Type 0} → (f : List ℕ) → None ≡ Some f → X
none-some f e = absurd (let no_way : None ≡ Some f = e in cc)

pub some-file : (a b : List ℕ) → Some a ≡ Some b → a ≡ b
some-file a b e = cc

-- ---- what is said of a WRITE

abbrev pub HasPiece : ℕ → Call → Pending → Type 0
HasPiece xid call back = (f : List ℕ) → written_file call ≡ Some f → IsInFlight xid f call back

-- no WRITE
abbrev pub NoWrite : Call → Type 0
NoWrite call = (f : List ℕ) → written_file call ≡ Some f → ⊥

pub other-no : (call : Call) → IsOther call → NoWrite call
other-no call o f is = by call o is
  where
    by : (call : Call) → IsOther call → written_file call ≡ Some f → ⊥
    by (calls.File call) o is = none-some f (sym (no-write call o) ∙ is)
    by (calls.Dir call) o is = none-some f is
    by (calls.Mount call) o is = none-some f is

pub has-same : (xid : ℕ) (call : Call) (old new : Pending) → SameUnder xid old new → HasPiece xid call old → HasPiece xid call new
has-same xid call old new same h f is = let k = h f is in record { piece = k.piece; there = same f ∙ k.there; is = k.is }

-- a save that sends has the piece of the call that is answered
pub record IsSent (xid : ℕ) (f : List ℕ) (back : Pending) : Type 0 where
  pub piece : Sent
  pub there : piece_under xid (of_file f back).pieces ≡ Some piece

abbrev pub SendsIt : ℕ → Saving → Pending → Type 0
SendsIt xid s back = saves.is_sending s.phase ≡ true → IsSent xid s.file back

module _ (xid : ℕ) where
  abbrev pub Has : Call → Pending → Type 0
  Has call back = HasPiece xid call back

  AfterHas : Step → Pending → Type 0
  AfterHas next back = After (Free xid) Has next back

  lead-has : (to : _) (saved : Saving) (next : _) (new : Saving) (old after : Pending) → saves.Leads to saved next new → after ≡ old
      → After (Free xid) Has (syncs.sync_next to) old → After (Free xid) Has (syncs.sync_next next) after
  lead-has to saved next new old after l is a =
      subst (λ n. After (Free xid) Has (syncs.sync_next n) after) (sym l.gives_next) (subst (After (Free xid) Has (syncs.sync_next to)) (sym is) a)

  refused-has : (s : Saving) (fault : Fault) (back : Pending) → Free xid back → After (Free xid) Has (syncs.sync_next (saves.refused_next s.waiting fault)) back
  refused-has s fault back free = by (s.waiting == 0) refl
    where
      by : (b : Bool) → (s.waiting == 0) ≡ b → After (Free xid) Has (syncs.sync_next (saves.refused_next s.waiting fault)) back
      by true e = rw e free
      by false e = rw e free

  commit-has : (file : List ℕ) (back : Pending) → Has (saves.commit_of file) back
  commit-has file back f is = none-some f is

  sent-has : (by_reply : Bool) (s : Saving) (back : Pending) → Free xid back → After (Free xid) Has (syncs.sync_next (saves.next_sent by_reply s)) back
  sent-has by_reply s back free = by (nat_lt 0 s.waiting) (saves.is_again s.phase && by_reply) refl refl
    where
      by : (lt done : Bool) → nat_lt 0 s.waiting ≡ lt → (saves.is_again s.phase && by_reply) ≡ done → After (Free xid) Has (syncs.sync_next (saves.next_sent by_reply s)) back
      by true done is ends = rw is free
      by false true is ends = rw (is, ends) free
      by false false is ends = rw (is, ends) (commit-has s.file back)

  puts-has : (file : List ℕ) (piece : Sent) (old new : Pending) → piece.xid ≡ xid → OnFile old new file (with_sent piece (of_file file old)) → Free xid old → Has (write_of file piece) new
  puts-has file piece old new is on free f at =
      let same : file ≡ f = some-file file f at in
      let last : piece_under xid ((of_file file old).pieces ++ piece ∷ []) ≡ Some piece =
      subst (λ (n : ℕ). piece_under n ((of_file file old).pieces ++ piece ∷ []) ≡ Some piece) is
      (under-last (of_file file old).pieces piece (ap (λ (n : ℕ). piece_under n (of_file file old).pieces) is ∙ free file)) in
      record {
        piece = piece;
        there = ap (λ (g : List ℕ). piece_under xid (of_file g new).pieces) (sym same) ∙ ap (λ (of : FilePending). piece_under xid of.pieces) on.here ∙ last;
        is = ap (λ (g : List ℕ). write_of g piece) same;
      }

  sends-has : (by_reply : Bool) (run : Segments) (s : Saving) (back : Pending) (next : _) (new : Saving) (after : Pending) → saves.Sends xid by_reply run s back next new after
      → Free xid back → After (Free xid) Has (syncs.sync_next next) after
  sends-has by_reply run s back next new after (inr l) free = lead-has (saves.refused_next s.waiting Memory) s next new back after l.0 l.1 (refused-has s Memory back free)
  sends-has by_reply [] s back next new after (inl l) free =
      lead-has (saves.next_sent by_reply s) (saves.saving_sent by_reply s) next new back after l.0 l.1 (sent-has by_reply s back free)
  sends-has by_reply (e ∷ es) s back next new after (inl l) free =
      lead-has _ _ next new after after l.0 refl (puts-has s.file (piece_of xid e (e ∷ es)) back after refl l.1.0 free)

  if-has : (b by_reply : Bool) (run : Segments) (s : Saving) (back : Pending) (next : _) (new : Saving) (after : Pending) → saves.SendsIf b xid by_reply run s back next new after
      → Free xid back → After (Free xid) Has (syncs.sync_next next) after
  if-has true by_reply run s back next new after l free = sends-has by_reply run s back next new after l free
  if-has false by_reply run s back next new after l free = lead-has _ s next new back after l.0 l.1 free

  over-has : (refusal : Option Fault) (wsize : ℕ) (room by_reply : Bool) (s : Saving) (back : Pending) (next : _) (new : Saving) (after : Pending)
      → saves.GoesOver refusal wsize xid room by_reply s back next new after → Free xid back → After (Free xid) Has (syncs.sync_next next) after
  over-has (Some fault) wsize room by_reply s back next new after g free =
      lead-has (saves.refused_next s.waiting fault) s next new back after g.0 g.1 (refused-has s fault back free)
  over-has None wsize room by_reply s back next new after g free =
      if-has (saves.may_send room s) by_reply (chosen s.upto wsize (of_file s.file back)) s back next new after g free

  goes-has : (wsize : ℕ) (room by_reply : Bool) (s : Saving) (back : Pending) (next : _) (new : Saving) (after : Pending) → saves.Goes wsize xid room by_reply s back next new after
      → Free xid back → After (Free xid) Has (syncs.sync_next next) after
  goes-has wsize room by_reply s back next new after g free = over-has s.refusal wsize room by_reply s back next new after g free

  write-has : (wsize asked : ℕ) (room : Bool) (told : _) (s : Saving) (back : Pending) (next : _) (new : Saving) (after : Pending)
      → saves.TakesWrite wsize asked xid room told s back next new after → Free xid back → After (Free xid) Has (syncs.sync_next next) after
  write-has wsize asked room told s back next new after g free =
      goes-has wsize room g.counts (saves.refused_by g.refusal s) g.between next new after g.goes
      (out-free xid asked s.file back g.between (lands-out asked s.file told back g.between g.refusal g.lands) free)

  renamed-has : (asked : ℕ) (file : List ℕ) (old new : Pending) → OnFile old new file (with_xid asked xid (of_file file old)) → Free xid old → IsSent asked file old
      → Has (write_of file (saves.answered asked file old)) new
  renamed-has asked file old new on free sent f at =
      let same : file ≡ f = some-file file f at in
      let there = renamed-under asked xid (of_file file old).pieces sent.piece (free file) sent.there in
      record {
        piece = as_xid xid sent.piece;
        there = ap (λ (g : List ℕ). piece_under xid (of_file g new).pieces) (sym same) ∙ ap (λ (of : FilePending). piece_under xid of.pieces) on.here ∙ there;
        is = ap (λ (o : Option Sent). write_of file (unwrap_or o saves.no_piece)) sent.there ∙ ap (λ (g : List ℕ). write_of g sent.piece) same;
      }

  decides-has : (verdict : Verdict) (wsize : ℕ) (room : Bool) (s : Saving) (back : Pending) (next : _) (new : Saving) (after : Pending)
      → saves.Decides verdict wsize xid room s back next new after → Free xid back → After (Free xid) Has (syncs.sync_next next) after
  decides-has AllStable wsize room s back next new after d free = lead-has _ s next new back after d.0 d.1 free
  decides-has (SendAgain count) wsize room s back next new after d free = goes-has wsize room false (record s { phase = Resending }) back next new after d free

  commit-takes : (told : Result Verf Fault) (wsize : ℕ) (room : Bool) (s : Saving) (back : Pending) (next : _) (new : Saving) (after : Pending)
      → saves.TakesCommit wsize xid room told s back next new after → Free xid back → After (Free xid) Has (syncs.sync_next next) after
  commit-takes (Err fault) wsize room s back next new after g free = lead-has _ s next new back after g.0 g.1 free
  commit-takes (Ok verf) wsize room s back next new after g free =
      decides-has (verdict_of (lost verf s.upto (of_file s.file back).segments)) wsize room s g.between next new after g.goes
      (on-free xid back g.between s.file _ g.decides (λ none. none) free)

  last-has : (again : Bool) (told : Result Verf Fault) (s : Saving) (back : Pending) → Free xid back → After (Free xid) Has (syncs.sync_next (saves.last_next again told s)) back
  last-has true told s back free = commit-has s.file back
  last-has false (Ok verf) s back free = free
  last-has false (Err fault) s back free = free

module _ (sent turn : Turn) where
  repeats-has : (again : Bool) (wsize : ℕ) (told : _) (s : Saving) (back : Pending) (next : _) (new : Saving) (after : Pending) → IsSent sent.xid s.file back
      → saves.RepeatsWrite again wsize sent turn told s back next new after → Free turn.xid back → After (Free turn.xid) (Has turn.xid) (syncs.sync_next next) after
  repeats-has true wsize told s back next new after it r free =
      lead-has turn.xid _ _ next new after after r.0 refl (renamed-has turn.xid sent.xid s.file back after r.1 free it)
  repeats-has false wsize told s back next new after it r free = write-has turn.xid wsize sent.xid turn.room told (saves.less_waiting s) back next new after r free

  told-has : (busy : Bool) (wsize : ℕ) (told : _) (repeats : List Repeat) (s : Saving) (back : Pending) (next : _) (new : Saving) (after : Pending) (later : List Repeat)
      → IsSent sent.xid s.file back → saves.TakesToldIf busy wsize sent turn told repeats s back next new after later → Free turn.xid back
      → After (Free turn.xid) (Has turn.xid) (syncs.sync_next next) after
  told-has true wsize told repeats s back next new after later it (inl g) free = repeats-has (goes_again true sent turn repeats) wsize told s back next new after it g.0 free
  told-has true wsize told repeats s back next new after later it (inr g) free =
      write-has turn.xid wsize sent.xid turn.room _ (saves.less_waiting s) back next new after g.0 free
  told-has false wsize told repeats s back next new after later it g free =
      write-has turn.xid wsize sent.xid turn.room told (saves.less_waiting s) back next new after g.0 free

  first-has : (again : Bool) (told : Result Verf Fault) (wsize : ℕ) (s : Saving) (back : Pending) (next : _) (new : Saving) (after : Pending)
      → saves.TakesFirst again wsize turn told s back next new after → Free turn.xid back → After (Free turn.xid) (Has turn.xid) (syncs.sync_next next) after
  first-has true told wsize s back next new after g free = lead-has turn.xid _ (saves.put_off_more s) next new back after g.0 g.1 (commit-has turn.xid s.file back)
  first-has false told wsize s back next new after g free = commit-takes turn.xid told wsize turn.room (saves.less_waiting s) back next new after g free

  in-has : (phase : Phase) (wsize : ℕ) (came : Result Reply Fault) (repeats : List Repeat) (s : Saving) (back : Pending) (next : _) (new : Saving) (after : Pending)
      (later : List Repeat) → s.phase ≡ phase → SendsIt sent.xid s back → saves.TakesIn phase wsize sent turn came repeats s back next new after later → Free turn.xid back
      → After (Free turn.xid) (Has turn.xid) (syncs.sync_next next) after
  in-has Sending wsize came repeats s back next new after later at it g free = told-has _ wsize _ repeats s back next new after later (it (ap saves.is_sending at)) g free
  in-has Resending wsize came repeats s back next new after later at it g free = told-has _ wsize _ repeats s back next new after later (it (ap saves.is_sending at)) g free
  in-has Committing wsize came repeats s back next new after later at it g free =
      first-has (saves.commit_again (commit_told came) sent turn repeats s) (commit_told came) wsize s back next new after g.0 free
  in-has CommittingAgain wsize came repeats s back next new after later at it g free =
      lead-has turn.xid _ _ next new back after g.0 g.1 (last-has turn.xid (saves.commit_again (commit_told came) sent turn repeats s) (commit_told came) s back free)

pub carries-has : (wsize : ℕ) (turn : Turn) → Carries wsize turn (λ f o b n. Unit {0}) NoWrite (Free turn.xid) (Has turn.xid)
carries-has wsize turn = record {
  goes = λ by_reply s back next new after g free. goes-has turn.xid wsize turn.room by_reply s back next new after g free;
  adds = λ file offset bytes number old new a on free f. bytes-under turn.xid old old new file offset bytes number on (λ g. refl) f ∙ free f;
  cuts = λ file size upto old new on free f. same-under turn.xid old old new file _ refl on (λ g. refl) f ∙ free f;
  gives = λ file old new quiet on free f. gives-under turn.xid old old new file quiet on (λ g. refl) f ∙ free f;
  plain = λ call back none free f is. absurd (none f is);
}

pub replies-has : (wsize : ℕ) (sent turn : Turn) (came : Result Reply Fault) → CarriesReply wsize sent turn came (SendsIt sent.xid) (Free turn.xid) (Has turn.xid)
replies-has wsize sent turn came = record {
  takes = λ repeats s back next new after later t it free. in-has sent turn s.phase wsize came repeats s back next new after later refl it t free;
}

-- ---- of an operation

pub no-way : (b : Bool) (m : PathMachine) (call : Call) → m.arrived ≡ b → ((f : List ℕ) → written_file call ≡ Some f → flies_path b m.opener ≡ Some f) → OnWay NoWrite b call
no-way true m call is w = tt
no-way false m call is w = λ f at. none-some f (w f at)

pub other-by : (m : Machine) (call : Call) → CallFits m call → OtherBy NoWrite m call
other-by (machines.File m) call e = tt
other-by (machines.Path m) call e = no-way m.arrived m call refl e.writes
other-by (machines.Name m) call e = λ f at. none-some f (e.writes f at)

pub asks-other : (next : Step) (new : Machine) → Asks next new → AsksOther NoWrite next new
asks-other (nexts.Send call) new a = other-by new call a
asks-other nexts.Wait new a = tt
asks-other (nexts.Done answer) new a = tt

-- each save that sends
module _ (Q : List ℕ → Type 0) where
  abbrev pub SendsQ : Saving → Type 0
  SendsQ s = saves.is_sending s.phase ≡ true → Q s.file

  save-q : (s : Saving) → ((f : List ℕ) → flies_save s ≡ Some f → Q f) → SendsQ s
  save-q s q sending = q s.file (ap (λ (b : Bool). flies_if b s.file) sending)

  sync-q : (w : Syncing) → ((f : List ℕ) → flies_sync w ≡ Some f → Q f) → SyncSaves SendsQ w
  sync-q syncing.Idle q = tt
  sync-q (syncing.Saves s) q = save-q s q

  close-q : (w : Closing) → ((f : List ℕ) → flies_close w ≡ Some f → Q f) → CloseSaves SendsQ w
  close-q closing.Idle q = tt
  close-q (closing.Queued s) q = tt
  close-q (closing.Saves s) q = save-q s q
  close-q (closing.ToRemove removal) q = tt
  close-q (closing.Removing removal) q = tt

  write-q : (w : Writing) → ((f : List ℕ) → flies_write w ≡ Some f → Q f) → WriteSaves SendsQ w
  write-q writing.Idle q = tt
  write-q (writing.Room file s) q = save-q s q

  put-q : (p : Putting) (w : Writing) → ((f : List ℕ) → flies_put p w ≡ Some f → Q f) → PutSaves SendsQ p w
  put-q putting.Idle w q = tt
  put-q putting.Opens w q = tt
  put-q (putting.Adds file) w q = write-q w q
  put-q (putting.Saves s) w q = save-q s q

  file-q : (m : FileMachine) → ((f : List ℕ) → flies_file m ≡ Some f → Q f) → FileSaves SendsQ m
  file-q (files.Open m) q = tt
  file-q (files.Read m) q = tt
  file-q (files.Write m) q = write-q m.state q
  file-q (files.Sync m) q = sync-q m.state q
  file-q (files.Close m) q = close-q m.state q
  file-q (files.Truncate m) q = tt
  file-q (files.Put m) q = put-q m.state m.write.state q

  path-q : (b : Bool) (o : Opener) → ((f : List ℕ) → flies_path b o ≡ Some f → Q f) → PathSaves SendsQ b o
  path-q true o q = file-q (file_of o) q
  path-q false o q = tt

  all-q : (m : Machine) → ((f : List ℕ) → flies_of m ≡ Some f → Q f) → Saves SendsQ m
  all-q (machines.File m) q = file-q m q
  all-q (machines.Path m) q = path-q m.arrived m.opener q
  all-q (machines.Name m) q = tt

module _ (wsize : ℕ) (turn : Turn) where
  pub starts-has : (machine : Machine) (old : Shelf) (next : Step) (new : Machine) (after : Shelf) → Starts wsize machine turn old next new after → IsUnused turn.xid old.back
      → After (Free turn.xid) (Has turn.xid) next after.back
  starts-has machine old next new after s free =
      backs.all-starts wsize turn (λ f o b n. Unit {0}) NoWrite other-no (Free turn.xid) (Has turn.xid) (carries-has wsize turn) machine old next new after
      (asks-other next new (fitting.all-starts wsize turn machine old next new after s)) (any-starts machine old.opens) free s

  pub resumes-has : (machine : Machine) (old : Shelf) (next : Step) (new : Machine) (after : Shelf) → Resumes wsize machine turn old next new after → IsUnused turn.xid old.back
      → After (Free turn.xid) (Has turn.xid) next after.back
  resumes-has machine old next new after s free =
      backs.all-resumes wsize turn (λ f o b n. Unit {0}) NoWrite other-no (Free turn.xid) (Has turn.xid) (carries-has wsize turn) machine old next new after
      (asks-other next new (fitting.all-resumes wsize turn machine old next new after s)) free s

  pub takes-has : (sent : Turn) (came : Result Reply Fault) (machine : Machine) (old : Shelf) (next : Step) (new : Machine) (after : Shelf) (others : ℕ) → in_flight machine ≡ others + 1
      → ((f : List ℕ) → flies_of machine ≡ Some f → IsSent sent.xid f old.back) → Takes wsize machine sent turn came old next new after → IsUnused turn.xid old.back
      → After (Free turn.xid) (Has turn.xid) next after.back
  takes-has sent came machine old next new after others one it s free =
      backs.all-takes wsize turn (λ f o b n. Unit {0}) NoWrite other-no (Free turn.xid) (Has turn.xid) (carries-has wsize turn) sent came (SendsIt sent.xid)
      (replies-has wsize sent turn came) machine old next new after (asks-other next new (fitting.all-takes wsize turn sent came machine old next new after others one s))
      (any-brings machine) (all-q (λ f. IsSent sent.xid f old.back) machine it) free s

-- ---- of each call that waits

pub record Whole (setup : Setup) (back : Pending) (xid : ℕ) (bytes : List ℕ) : Type 0 where
  pub call : Call
  pub spells : SpellsCallBy setup.cred xid call bytes
  pub has : HasPiece xid call back

abbrev pub AllWhole : Setup → View → Type 0
AllWhole setup v = (xid : ℕ) (w : Waiting Purpose) → waiting_at xid v.calls.calls ≡ Some w → Whole setup v.shelf.back xid w.bytes

pub record Wholly (setup : Setup) (h : List Entry) (v : View) : Type 0 where
  pub flying : Flying setup h v
  pub all : AllWhole setup v

pub whole-same : (setup : Setup) (xid : ℕ) (bytes : List ℕ) (old new : Pending) → SameUnder xid old new → Whole setup old xid bytes → Whole setup new xid bytes
whole-same setup xid bytes old new same s = record { call = s.call; spells = s.spells; has = has-same xid s.call old new same s.has }

pub some-waiting : (a b : Waiting Purpose) → Some a ≡ Some b → a ≡ b
some-waiting a b e = cc

module _ (setup : Setup) (h : List Entry) (v : View) (r : Rows setup h v) (all : AllWhole setup v) where
  early : (xid : ℕ) (w : Waiting Purpose) → waiting_at xid v.calls.calls ≡ Some w → xid < next_xid v.calls
  early xid w is = waits_early v.calls.cred v.calls.first_xid (next_xid v.calls) xid v.calls.calls w r.sound.calls.each is

  late : (xid : ℕ) (w : Waiting Purpose) → waiting_at xid v.calls.calls ≡ Some w → 1 ≤ xid
  late xid w is =
      let low = waits-late v.calls.cred v.calls.first_xid (next_xid v.calls) xid v.calls.calls w r.sound.calls.each is in
      let first = r.sound.calls.first in
      omega (arith, low, first)

  made-whole : (number : ℕ) (call : Call) (new : View) (m : Makes v number call new) → HasPiece (next_xid v.calls) call v.shelf.back → (xid : ℕ) (w : Waiting Purpose)
      → waiting_at xid (v.calls.calls ++ (next_xid v.calls, made_call (record_of v call m.args) (record { lane = number; proc = proc_of call; sent = turn_at v })) ∷ []) ≡ Some w
      → Whole setup v.shelf.back xid w.bytes
  made-whole number call new m own xid w is = by (nat_eq xid (next_xid v.calls)) refl
    where
      row : Waiting Purpose
      row = made_call (record_of v call m.args) (record { lane = number; proc = proc_of call; sent = turn_at v })

      by : (b : Bool) → nat_eq xid (next_xid v.calls) ≡ b → Whole setup v.shelf.back xid w.bytes
      by true d =
          let here : xid ≡ next_xid v.calls = eqb-true xid (next_xid v.calls) d in
          let which : row ≡ w =
          some-waiting row w (sym (at_made v.calls.cred v.calls.first_xid (next_xid v.calls) xid (next_xid v.calls) v.calls.calls row r.sound.calls.each here refl) ∙ is) in
          let k = made-known setup h v number call new m r in
          subst (λ (n : ℕ). Whole setup v.shelf.back n w.bytes) (sym here)
          (subst (λ (c : Waiting Purpose). Whole setup v.shelf.back (next_xid v.calls) c.bytes) which (record {
            call = call;
            spells = subst (λ (c : Call). SpellsCallBy setup.cred (next_xid v.calls) c row.bytes) (made-asked setup h v number call new m r) k.made.spells;
            has = own;
          }))
      by false d = all xid w (sym (others_made xid (next_xid v.calls) v.calls.calls row d) ∙ is)

  leads-whole : (new : View) (at number : ℕ) (machine : Machine) (next : Step) → After (Free (next_xid v.calls)) (Has (next_xid v.calls)) next v.shelf.back
      → ((fault : Fault) (step : Step) (after : Machine) (left : Shelf) → Takes v.wsize machine (turn_at v) (unmade_turn v) (Err fault) v.shelf step after left
      → (xid : ℕ) → next_xid v.calls ≢ xid → 0 ≢ xid → SameUnder xid v.shelf.back left.back)
      → Leads v at number machine next new → AllWhole setup new
  leads-whole new at number machine (nexts.Send call) own unmade (inl m) = subst (AllWhole setup) (sym m.is) (made-whole number call new m own)
  leads-whole new at number machine (nexts.Send call) own unmade (inr f) = subst (AllWhole setup) (sym f.is) (λ xid w is.
      let low = late xid w is in
      let high = early xid w is in
      whole-same setup xid w.bytes v.shelf.back f.left.back
      (unmade f.fault f.next f.after f.left f.takes xid (λ same. absurd (omega (arith, high, same))) (λ same. absurd (omega (arith, low, same)))) (all xid w is))
  leads-whole new at number machine nexts.Wait own unmade is = subst (AllWhole setup) (sym is) all
  leads-whole new at number machine (nexts.Done answer) own unmade is = subst (AllWhole setup) (sym is) all

-- ---- along a history

module _ (m : Mounted) (setup : Setup) where
  pub stirs-wholly : (h : List Entry) (old new : View) (at : ℕ) → Known setup h old → Stirs old at new → Wholly setup h old → Wholly setup h new
  stirs-wholly h old new at k t i = record {
    flying = (keeps-flying m setup).stirs h old new at k t i.flying;
    all = leads-whole setup h v (same-rows setup h old v refl k.rows)
        (λ xid w is.
        let high = waits_early old.calls.cred old.calls.first_xid (next_xid old.calls) xid old.calls.calls w k.rows.sound.calls.each is in
        whole-same setup xid w.bytes old.shelf.back t.shelf.back
        (resumes-under old.wsize (turn_at old) xid (λ same. absurd (omega (arith, high, same))) t.machine old.shelf t.next t.after t.shelf t.resumes) (i.all xid w is))
        new at t.number t.after t.next
        (resumes-has old.wsize (turn_at old) t.machine old.shelf t.next t.after t.shelf t.resumes (unused-next setup h old k.rows i.flying.flown))
        (unmade-under m setup v t.after) t.leads;
  }
    where
      v : View
      v = with_state old at t.number (Busy t.after) t.shelf

  pub starts-wholly : (h : List Entry) (old new : View) (lane line : ℕ) (op : Op) (now : ℕ) → Reaches (machine_of m) setup h old → old.lost ≡ false → Known setup h old
      → IsIdle lane old.lanes → StartsLane (counted old now) lane (machine_of m lane op) new → Wholly setup h old → Wholly setup (h ++ Began lane line op ∷ []) new
  starts-wholly h old new lane line op now r found k idle t i = record {
    flying = (keeps-flying m setup).starts h old new lane line op now r found k idle t i.flying;
    all = leads-whole setup h v (same-rows setup h old v refl k.rows)
        (λ xid w is.
        let high = waits_early old.calls.cred old.calls.first_xid (next_xid old.calls) xid old.calls.calls w k.rows.sound.calls.each is in
        whole-same setup xid w.bytes old.shelf.back t.shelf.back
        (starts-under old.wsize (turn_at (counted old now)) xid (λ same. absurd (omega (arith, high, same))) (machine_of m lane op) old.shelf t.next t.after t.shelf t.starts) (i.all xid w is))
        new (length old.lanes) lane t.after t.next
        (starts-has old.wsize (turn_at (counted old now)) (machine_of m lane op) old.shelf t.next t.after t.shelf t.starts (unused-next setup h old k.rows i.flying.flown))
        (unmade-under m setup v t.after) t.leads;
  }
    where
      v : View
      v = record (counted old now) { lanes = old.lanes ++ record { number = lane; state = Busy t.after } ∷ []; shelf = t.shelf }

  pub takes-wholly : (h : List Entry) (old new : View) (rec : List ℕ) (xid : ℕ) (call : Waiting Purpose) (at : ℕ) → Reaches (machine_of m) setup h old → old.lost ≡ false
      → Known setup h old → waiting_at xid old.calls.calls ≡ Some call → position (is_busy call.purpose.lane) old.lanes ≡ Some at
      → TakesAt (taken_one old xid) at call.purpose.sent (said_of call.purpose.proc rec) new → Wholly setup h old → Wholly setup (h ++ Delivered rec ∷ []) new
  takes-wholly h old new rec xid call at r found k waits there t i = record {
    flying = (keeps-flying m setup).takes h old new rec xid call at r found k waits there t i.flying;
    all = leads-whole setup h v (same-rows setup h (taken_one old xid) v refl (taken-rows setup h old xid k.rows)) left
        new at t.number t.after t.next
        (takes-has old.wsize (turn_at (taken_one old xid)) call.purpose.sent (said_of call.purpose.proc rec) t.machine old.shelf t.next t.after t.shelf
        (in_flight t.machine - 1) (taker-one setup h old xid call at k waits there t.number t.machine t.there) it t.takes
        (unused-next setup h old k.rows i.flying.flown))
        (unmade-under m setup v t.after) t.leads;
  }
    where
      v : View
      v = with_state (taken_one old xid) at t.number (Busy t.after) t.shelf

      sent-is : call.purpose.sent.xid ≡ xid
      sent-is = i.flying.flown.sents xid call.purpose (ap (option_map (λ (w : Waiting Purpose). w.purpose)) waits)

      -- what its operation sends is what the call carries that is answered
      it : (f : List ℕ) → flies_of t.machine ≡ Some f → IsSent call.purpose.sent.xid f old.shelf.back
      it f is =
          let good = reached-good (machine_of m) (begins-unbegun m) setup CallFits fits-laws (λ g y o c. Unit {0}) (λ g s. Unit {0}) (λ g y o s. Unit {0}) (tales m setup) h old r in
          let e = (good.each at (record { number = t.number; state = Busy t.machine }) t.there).0 xid call waits
          (sym (taker-is setup h old xid call at k waits there t.number t.machine t.there)) in
          let whole = i.all xid call waits in
          let write : written_file e.made.asked ≡ Some f = e.expects.sends f is in
          let same : e.made.asked ≡ whole.call = one-call xid xid e.made.asked whole.call call.bytes (nfs-write e.made.asked f write) e.made.spells.spells whole.spells.spells in
          let here = whole.has f (ap written_file (sym same) ∙ write) in
          record { piece = here.piece; there = ap (λ (n : ℕ). piece_under n (of_file f old.shelf.back).pieces) sent-is ∙ here.there }

      left : (y : ℕ) (w : Waiting Purpose) → waiting_at y (without xid old.calls.calls) ≡ Some w → Whole setup t.shelf.back y w.bytes
      left y w is = by (nat_eq y xid) refl
        where
          by : (b : Bool) → nat_eq y xid ≡ b → Whole setup t.shelf.back y w.bytes
          by true d = absurd (
              let none : waiting_at xid (without xid old.calls.calls) ≡ None = gone old.calls.cred old.calls.first_xid (next_xid old.calls) xid old.calls.calls k.rows.sound.calls.each in
              let here : waiting_at xid (without xid old.calls.calls) ≡ Some w = ap (λ (n : ℕ). waiting_at n (without xid old.calls.calls)) (sym (eqb-true y xid d)) ∙ is in
              let no_way : None ≡ Some w = sym none ∙ here in cc)
          by false d =
              let was : waiting_at y old.calls.calls ≡ Some w = sym (others_taken y xid old.calls.calls d) ∙ is in
              let apart : y ≢ xid = eqb-false y xid d in
              let high = waits_early old.calls.cred old.calls.first_xid (next_xid old.calls) y old.calls.calls w k.rows.sound.calls.each was in
              whole-same setup y w.bytes old.shelf.back t.shelf.back
              (takes-under old.wsize (turn_at (taken_one old xid)) call.purpose.sent (said_of call.purpose.proc rec) y (λ same. apart (sym same ∙ sent-is))
              (λ same. absurd (omega (arith, high, same))) t.machine old.shelf t.next t.after t.shelf t.takes) (i.all y w was)

  pub keeps-wholly : KeepsAlong (machine_of m) setup (Wholly setup)
  keeps-wholly = record {
    fresh = λ h v fresh. record {
      flying = (keeps-flying m setup).fresh h v fresh;
      all = λ xid w is. absurd (let no_way : None ≡ Some w = ap (λ c. waiting_at xid c.calls) (sym fresh.calls) ∙ is in cc);
    };
    stirs = stirs-wholly;
    starts = starts-wholly;
    takes = takes-wholly;
    answers = λ h old new at lane line answer k a i. record {
      flying = (keeps-flying m setup).answers h old new at lane line answer k a i.flying;
      all = subst (AllWhole setup) (sym a.is) i.all;
    };
    same = λ h e old new lanes shelf calls i. record {
      flying = (keeps-flying m setup).same h e old new lanes shelf calls i.flying;
      all = λ xid w is.
          let k = calls.waited xid w is in
          subst (λ (s : Shelf). Whole setup s.back xid w.bytes) (sym shelf) (subst (Whole setup old.shelf.back xid) (sym k.bytes) (i.all xid k.was k.waited));
    };
  }

-- what a WRITE that waits carries is in flight under its xid
pub writes-whole : (m : Mounted) (setup : Setup) (h : List Entry) (v : View) → Reaches (machine_of m) setup h v → v.lost ≡ false
    → (xid : ℕ) (call : Call) (f : List ℕ) → IsWaiting setup v xid call → written_file call ≡ Some f → IsInFlight xid f call v.shelf.back
writes-whole m setup h v r found xid call f w is =
    let i = reached-along (machine_of m) (begins-unbegun m) setup (Wholly setup) (keeps-wholly m setup) h v r found in
    let whole = i.all xid w.waiting w.waits in
    let same : call ≡ whole.call = one-call xid xid call whole.call w.waiting.bytes (nfs-write call f is) w.spells.spells whole.spells.spells in
    subst (λ (c : Call). IsInFlight xid f c v.shelf.back) (sym same) (whole.has f (ap written_file (sym same) ∙ is))
