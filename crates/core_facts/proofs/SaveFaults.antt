-- Which faults a step of a save gives: its own, those of what came of its calls, and those that it keeps.
use Rattle.core_facts.proofs.Prelude.{◌≡◌, ◌+◌, ◌==◌, ◌&&◌, ◌||◌, ℕ, Bool, true, false, List, [], ◌∷◌, Option, Some, None, Result, Ok, Err, inl, inr, refl, sym, subst, nat_lt, Verdict, AllStable, SendAgain, Verf, Wcc, FileKept, Fault, Reply, Step, Repeat, Turn, goes_again, chosen, Pending, of_file, Segments, Phase, Sending, Committing, Resending, CommittingAgain, Saving, commit_told}
use Rattle.file_ops.specs.Judging.{write_told, write_told_by, written_by, commit_told_by}
use Rattle.nfs_file_calls.specs.declared.owned.FileKept.TheVariants as kept
use Rattle.world_model.specs.declared.answer.Fault.TheVariants.{Memory, Nfs, Bad}
use Rattle.world_model.specs.declared.message.Reply.TheVariants as replies
use Rattle.file_ops.specs.Saves as saves
use Rattle.file_ops.specs.Syncs as syncs
use Rattle.core_facts.proofs.Faults.{OwnFaults, OfReply, Came, FineResult, FineOption, FineNext, fine-fault, fine-some}

module _ (P : Fault → Type 0) (own : OwnFaults P) where
  -- the step is so, and so is the fault that the save keeps
  abbrev pub SaveFine : Step → Saving → Type 0
  SaveFine next new = FineNext P next × FineOption P new.refusal

  leads-fine : (to : _) (saved : Saving) (next : _) (new : Saving) → saves.Leads to saved next new → SaveFine (syncs.sync_next to) saved → SaveFine (syncs.sync_next next) new
  leads-fine to saved next new l f =
      subst (λ n. SaveFine (syncs.sync_next n) new) (sym l.gives_next) (subst (λ (s : Saving). SaveFine (syncs.sync_next to) s) (sym l.keeps) f)

  refused-fine : (s : Saving) (fault : Fault) → P fault → FineOption P s.refusal → SaveFine (syncs.sync_next (saves.refused_next s.waiting fault)) s
  refused-fine s fault n f = by (s.waiting == 0) refl
    where
      by : (b : Bool) → (s.waiting == 0) ≡ b → SaveFine (syncs.sync_next (saves.refused_next s.waiting fault)) s
      by true e = (rw e n, f)
      by false e = (rw e tt, f)

  sent-fine : (by_reply : Bool) (s : Saving) → FineOption P s.refusal → SaveFine (syncs.sync_next (saves.next_sent by_reply s)) (saves.saving_sent by_reply s)
  sent-fine by_reply s f = by (nat_lt 0 s.waiting) (saves.is_again s.phase && by_reply) refl refl
    where
      by : (lt done : Bool) → nat_lt 0 s.waiting ≡ lt → (saves.is_again s.phase && by_reply) ≡ done → SaveFine (syncs.sync_next (saves.next_sent by_reply s)) (saves.saving_sent by_reply s)
      by true done is ends = rw is (tt, f)
      by false true is ends = rw (is, ends) (tt, f)
      by false false is ends = rw (is, ends) (tt, f)

  sends-fine : (xid : ℕ) (by_reply : Bool) (run : Segments) (s : Saving) (back : Pending) (next : _) (new : Saving) (after : Pending) → FineOption P s.refusal
      → saves.Sends xid by_reply run s back next new after → SaveFine (syncs.sync_next next) new
  sends-fine xid by_reply run s back next new after f (inr l) = leads-fine (saves.refused_next s.waiting Memory) s next new l.0 (refused-fine s Memory own.memory f)
  sends-fine xid by_reply [] s back next new after f (inl l) = leads-fine (saves.next_sent by_reply s) (saves.saving_sent by_reply s) next new l.0 (sent-fine by_reply s f)
  sends-fine xid by_reply (e ∷ es) s back next new after f (inl l) = leads-fine _ (record s { waiting = s.waiting + 1 }) next new l.0 (tt, f)

  sends-if-fine : (b : Bool) (xid : ℕ) (by_reply : Bool) (run : Segments) (s : Saving) (back : Pending) (next : _) (new : Saving) (after : Pending) → FineOption P s.refusal
      → saves.SendsIf b xid by_reply run s back next new after → SaveFine (syncs.sync_next next) new
  sends-if-fine true xid by_reply run s back next new after f l = sends-fine xid by_reply run s back next new after f l
  sends-if-fine false xid by_reply run s back next new after f l = leads-fine _ s next new l.0 (tt, f)

  goes-over-fine : (refusal : Option Fault) (wsize xid : ℕ) (room by_reply : Bool) (s : Saving) (back : Pending) (next : _) (new : Saving) (after : Pending) → FineOption P refusal → FineOption P s.refusal
      → saves.GoesOver refusal wsize xid room by_reply s back next new after → SaveFine (syncs.sync_next next) new
  goes-over-fine (Some fault) wsize xid room by_reply s back next new after n f g = leads-fine (saves.refused_next s.waiting fault) s next new g.0 (refused-fine s fault n f)
  goes-over-fine None wsize xid room by_reply s back next new after n f g =
      sends-if-fine (saves.may_send room s) xid by_reply (chosen s.upto wsize (of_file s.file back)) s back next new after f g

  pub goes-fine : (wsize xid : ℕ) (room by_reply : Bool) (s : Saving) (back : Pending) (next : _) (new : Saving) (after : Pending) → FineOption P s.refusal
      → saves.Goes wsize xid room by_reply s back next new after → SaveFine (syncs.sync_next next) new
  goes-fine wsize xid room by_reply s back next new after f g = goes-over-fine s.refusal wsize xid room by_reply s back next new after f f g

  -- ---- what the reply to a WRITE says

  module _ (how size asked : ℕ) (file : List ℕ) (old new : Pending) where
    written-fine : (a b : Bool) (wcc : Wcc) (count committed : ℕ) (verf : Verf) (refusal : Option Fault) → (nat_lt committed how || nat_lt 2 committed) ≡ a → ((count == 0) || nat_lt size count) ≡ b
        → saves.Lands asked file (written_by how size wcc count committed verf) old new refusal → FineOption P refusal
    written-fine true b wcc count committed verf refusal is other l = let k = rw is at l in fine-some P (Bad 3) refusal k.0 (own.bad 3)
    written-fine false true wcc count committed verf refusal is other l = let k = rw (is, other) at l in fine-some P (Bad 4) refusal k.0 (own.bad 4)
    written-fine false false wcc count committed verf None is other l = tt
    written-fine false false wcc count committed verf (Some fault) is other l = let k = rw (is, other) at l in fine-fault P fault Memory k.0 own.memory

    reply-fine : (reply : FileKept) (refusal : Option Fault) → OfReply P (replies.File reply) → saves.Lands asked file (write_told_by how size reply) old new refusal → FineOption P refusal
    reply-fine (kept.Write wcc count committed verf) refusal n l = written-fine _ _ wcc count committed verf refusal refl refl l
    reply-fine (kept.WriteFail status wcc) refusal n l = fine-some P (Nfs status.0) refusal l.0 n
    reply-fine reply refusal n l = fine-some P (Bad 2) refusal l.0 (own.bad 2)

    lands-fine : (came : Result Reply Fault) (refusal : Option Fault) → Came P came → saves.Lands asked file (write_told how size came) old new refusal → FineOption P refusal
    lands-fine (Ok (replies.File reply)) refusal n l = reply-fine reply refusal n l
    lands-fine (Ok (replies.Dir reply)) refusal n l = fine-some P (Bad 2) refusal l.0 (own.bad 2)
    lands-fine (Ok (replies.Mount reply)) refusal n l = fine-some P (Bad 2) refusal l.0 (own.bad 2)
    lands-fine (Err fault) refusal n l = fine-some P fault refusal l.0 n

  -- ---- what came of a call

  first-fine : (o : Option Fault) (fault : Fault) → FineOption P o → P fault → P (saves.first_of o fault)
  first-fine None fault f n = n
  first-fine (Some first) fault f n = f

  refused-by-fine : (refusal : Option Fault) (s : Saving) → FineOption P refusal → FineOption P s.refusal → FineOption P (saves.refused_by refusal s).refusal
  refused-by-fine None s n f = f
  refused-by-fine (Some fault) s n f = first-fine s.refusal fault f n

  takes-write-fine : (wsize asked xid : ℕ) (room : Bool) (told : _) (s : Saving) (back : Pending) (next : _) (new : Saving) (after : Pending) → FineOption P s.refusal
      → ((between : Pending) (refusal : Option Fault) → saves.Lands asked s.file told back between refusal → FineOption P refusal)
      → saves.TakesWrite wsize asked xid room told s back next new after → SaveFine (syncs.sync_next next) new
  takes-write-fine wsize asked xid room told s back next new after f lands t =
      goes-fine wsize xid room t.counts (saves.refused_by t.refusal s) t.between next new after (refused-by-fine t.refusal s (lands t.between t.refusal t.lands) f) t.goes

  repeats-fine : (more : Bool) (wsize : ℕ) (sent turn : Turn) (told : _) (s : Saving) (back : Pending) (next : _) (new : Saving) (after : Pending) → FineOption P s.refusal
      → ((between : Pending) (refusal : Option Fault) → saves.Lands sent.xid s.file told back between refusal → FineOption P refusal)
      → saves.RepeatsWrite more wsize sent turn told s back next new after → SaveFine (syncs.sync_next next) new
  repeats-fine true wsize sent turn told s back next new after f lands r = leads-fine _ s next new r.0 (tt, f)
  repeats-fine false wsize sent turn told s back next new after f lands r =
      takes-write-fine wsize sent.xid turn.xid turn.room told (saves.less_waiting s) back next new after f lands r

  told-fine : (busy : Bool) (wsize : ℕ) (sent turn : Turn) (told : _) (repeats : List Repeat) (s : Saving) (back : Pending) (next : _) (new : Saving) (after : Pending) (later : List Repeat)
      → FineOption P s.refusal → ((between : Pending) (refusal : Option Fault) → saves.Lands sent.xid s.file told back between refusal → FineOption P refusal)
      → saves.TakesToldIf busy wsize sent turn told repeats s back next new after later → SaveFine (syncs.sync_next next) new
  told-fine true wsize sent turn told repeats s back next new after later f lands (inl t) =
      repeats-fine (goes_again true sent turn repeats) wsize sent turn told s back next new after f lands t.0
  told-fine true wsize sent turn told repeats s back next new after later f lands (inr t) =
      takes-write-fine wsize sent.xid turn.xid turn.room _ (saves.less_waiting s) back next new after f (λ between refusal l. fine-some P Memory refusal l.0 own.memory) t.0
  told-fine false wsize sent turn told repeats s back next new after later f lands t =
      takes-write-fine wsize sent.xid turn.xid turn.room told (saves.less_waiting s) back next new after f lands t.0

  decides-fine : (verdict : Verdict) (wsize xid : ℕ) (room : Bool) (s : Saving) (back : Pending) (next : _) (new : Saving) (after : Pending) → FineOption P s.refusal
      → saves.Decides verdict wsize xid room s back next new after → SaveFine (syncs.sync_next next) new
  decides-fine AllStable wsize xid room s back next new after f d = leads-fine _ s next new d.0 (tt, f)
  decides-fine (SendAgain count) wsize xid room s back next new after f d = goes-fine wsize xid room false (record s { phase = Resending }) back next new after f d

  commit-fine : (told : Result Verf Fault) (wsize xid : ℕ) (room : Bool) (s : Saving) (back : Pending) (next : _) (new : Saving) (after : Pending) → FineResult P told → FineOption P s.refusal
      → saves.TakesCommit wsize xid room told s back next new after → SaveFine (syncs.sync_next next) new
  commit-fine (Ok verf) wsize xid room s back next new after n f t = decides-fine _ wsize xid room s t.between next new after f t.goes
  commit-fine (Err fault) wsize xid room s back next new after n f t = leads-fine _ s next new t.0 (n, f)

  first-commit-fine : (more : Bool) (told : Result Verf Fault) (wsize : ℕ) (turn : Turn) (s : Saving) (back : Pending) (next : _) (new : Saving) (after : Pending) → FineResult P told → FineOption P s.refusal
      → saves.TakesFirst more wsize turn told s back next new after → SaveFine (syncs.sync_next next) new
  first-commit-fine true told wsize turn s back next new after n f t = leads-fine _ (saves.put_off_more s) next new t.0 (tt, f)
  first-commit-fine false told wsize turn s back next new after n f t = commit-fine told wsize turn.xid turn.room (saves.less_waiting s) back next new after n f t

  last-fine : (more : Bool) (told : Result Verf Fault) (s : Saving) → FineResult P told → FineOption P s.refusal
      → SaveFine (syncs.sync_next (saves.last_next more told s)) (saves.last_saving more s)
  last-fine true told s n f = (tt, f)
  last-fine false (Ok verf) s n f = (tt, f)
  last-fine false (Err fault) s n f = (n, f)

  committed-by-fine : (reply : FileKept) → OfReply P (replies.File reply) → FineResult P (commit_told_by reply)
  committed-by-fine (kept.Commit wcc verf) n = tt
  committed-by-fine (kept.CommitFail status wcc) n = n
  committed-by-fine reply n = own.bad 2

  committed-fine : (came : Result Reply Fault) → Came P came → FineResult P (commit_told came)
  committed-fine (Ok (replies.File reply)) n = committed-by-fine reply n
  committed-fine (Ok (replies.Dir reply)) n = own.bad 2
  committed-fine (Ok (replies.Mount reply)) n = own.bad 2
  committed-fine (Err fault) n = n

  takes-in-fine : (phase : Phase) (wsize : ℕ) (sent turn : Turn) (came : Result Reply Fault) (repeats : List Repeat) (s : Saving) (back : Pending) (next : _) (new : Saving) (after : Pending)
      (later : List Repeat) → Came P came → FineOption P s.refusal → saves.TakesIn phase wsize sent turn came repeats s back next new after later → SaveFine (syncs.sync_next next) new
  takes-in-fine Sending wsize sent turn came repeats s back next new after later n f t =
      told-fine _ wsize sent turn _ repeats s back next new after later f (λ between refusal l. lands-fine _ _ sent.xid s.file back between came refusal n l) t
  takes-in-fine Resending wsize sent turn came repeats s back next new after later n f t =
      told-fine _ wsize sent turn _ repeats s back next new after later f (λ between refusal l. lands-fine _ _ sent.xid s.file back between came refusal n l) t
  takes-in-fine Committing wsize sent turn came repeats s back next new after later n f t =
      first-commit-fine (saves.commit_again (commit_told came) sent turn repeats s) (commit_told came) wsize turn s back next new after (committed-fine came n) f t.0
  takes-in-fine CommittingAgain wsize sent turn came repeats s back next new after later n f t =
      let more = saves.commit_again (commit_told came) sent turn repeats s in
      leads-fine (saves.last_next more (commit_told came) s) (saves.last_saving more s) next new t.0 (last-fine more (commit_told came) s (committed-fine came n) f)

  pub takes-fine : (wsize : ℕ) (sent turn : Turn) (came : Result Reply Fault) (repeats : List Repeat) (s : Saving) (back : Pending) (next : _) (new : Saving) (after : Pending) (later : List Repeat)
      → Came P came → FineOption P s.refusal → saves.Takes wsize sent turn came repeats s back next new after later → SaveFine (syncs.sync_next next) new
  takes-fine wsize sent turn came repeats s back next new after later n f t = takes-in-fine s.phase wsize sent turn came repeats s back next new after later n f t
