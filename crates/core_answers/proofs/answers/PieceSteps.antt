-- The WRITE that a step asks for carries the piece that is in flight under the xid of its turn.
use Rattle.core_answers.proofs.Prelude.{◌≡◌, ◌≢◌, ◌&&◌, ◌==◌, ◌⊎◌, inl, inr, ℕ, nat_eq, Bool, true, false, List, [], ◌∷◌, ◌++◌, Option, Some, None, Result, Ok, Err, refl, sym, ap, subst, ◌∙◌, unwrap_or, nat_lt, if◌then◌else◌, eqb-true, eqb-false, Verdict, AllStable, SendAgain, verdict_of, Verf, Fault, Memory, Call, Reply, lost, chosen, piece_of, with_sent, Pending, of_file, OnFile, with_xid, Sent, FilePending, piece_under, renumbered, Segments, same-or, Step, Repeat, Turn, goes_again, Sending, Committing, Resending, CommittingAgain, Saving, commit_told, IsUnused, write_of}
use Rattle.nfs_file_calls.specs.declared.call.FileCall.TheVariants.{Write}
use Rattle.world_model.specs.declared.message.Call.TheVariants as calls
use Rattle.client_shelf.specs.declared.step.Step.TheVariants as nexts
use Rattle.file_ops.specs.declared.saving.Phase.{Phase}
use Rattle.file_ops.specs.Saves as saves
use Rattle.file_ops.specs.Syncs as syncs
use Rattle.file_ops.proofs.Free.{none-without}
use Rattle.file_ops.proofs.Landed.{TakenOut, lands-out}
use Rattle.core_answers.proofs.writes.Backs.{After, Carries, CarriesReply}
use Rattle.core_answers.proofs.writes.Plain.{IsOther}
use Rattle.core_answers.proofs.writes.Under.{SameUnder, under-last, under-head, under-tail, as_xid, same-under, bytes-under, gives-under}

-- a call that is a WRITE is that of the piece under the xid
abbrev pub IsPiece : ℕ → Call → Pending → Type 0
IsPiece xid call back = (file : List ℕ) (offset how : ℕ) (bytes : List ℕ) → call ≡ calls.File (Write file offset how bytes) → call ≡ write_of file (saves.answered xid file back)

-- no WRITE is asked for
abbrev NoWrite : Step → Type 0
NoWrite (nexts.Send call) = (file : List ℕ) (offset how : ℕ) (bytes : List ℕ) → call ≡ calls.File (Write file offset how bytes) → ⊥
NoWrite nexts.Wait = Unit {0}
NoWrite (nexts.Done answer) = Unit {0}

other-piece : (xid : ℕ) (call : Call) (back : Pending) → IsOther call → IsPiece xid call back
other-piece xid call back other file offset how bytes is = absurd (subst IsOther is other)

pub same-piece : (xid : ℕ) (call : Call) (old new : Pending) → SameUnder xid old new → IsPiece xid call old → IsPiece xid call new
same-piece xid call old new same own file offset how bytes is =
    own file offset how bytes is ∙ ap (λ (o : Option Sent). write_of file (unwrap_or o saves.no_piece)) (sym (same file))

-- the piece that gets the xid is the one that was under the other
renamed-piece : (file : List ℕ) (asked to : ℕ) (ps : List Sent) → piece_under to ps ≡ None
    → write_of file (unwrap_or (piece_under asked ps) saves.no_piece) ≡ write_of file (unwrap_or (piece_under to (renumbered asked to ps)) saves.no_piece)
renamed-piece file asked to [] none = ap (λ (o : Option Sent). write_of file (unwrap_or o saves.no_piece)) (sym none)
renamed-piece file asked to (q ∷ ps) none = by (nat_eq q.xid asked) refl (nat_eq q.xid to) refl none (λ n. renamed-piece file asked to ps n)
  where
    gives : Option Sent → Call
    gives o = write_of file (unwrap_or o saves.no_piece)

    by : (b : Bool) → nat_eq q.xid asked ≡ b → (d : Bool) → nat_eq q.xid to ≡ d → (if d then Some q else piece_under to ps) ≡ None
        → (piece_under to ps ≡ None → write_of file (unwrap_or (piece_under asked ps) saves.no_piece) ≡ write_of file (unwrap_or (piece_under to (renumbered asked to ps)) saves.no_piece))
        → write_of file (unwrap_or (piece_under asked (q ∷ ps)) saves.no_piece)
        ≡ write_of file (unwrap_or (piece_under to (if b then as_xid to q ∷ ps else q ∷ renumbered asked to ps)) saves.no_piece)
    by b e true d n rest = absurd (let no_way : Some q ≡ None = n in cc)
    by true e false d n rest =
        ap (λ (o : Option Sent). write_of file (unwrap_or o saves.no_piece)) (under-head asked q ps (eqb-true q.xid asked e))
        ∙ sym (ap (λ (o : Option Sent). write_of file (unwrap_or o saves.no_piece)) (under-head to (as_xid to q) ps refl))
    by false e false d n rest =
        ap (λ (o : Option Sent). write_of file (unwrap_or o saves.no_piece)) (under-tail asked q ps (eqb-false q.xid asked e)) ∙ rest n
        ∙ sym (ap (λ (o : Option Sent). write_of file (unwrap_or o saves.no_piece)) (under-tail to q (renumbered asked to ps) (eqb-false q.xid to d)))

refused-none : (waiting : ℕ) (fault : Fault) → NoWrite (syncs.sync_next (saves.refused_next waiting fault))
refused-none waiting fault = by (waiting == 0) refl
  where
    by : (b : Bool) → (waiting == 0) ≡ b → NoWrite (syncs.sync_next (saves.refused_next waiting fault))
    by true e = rw e tt
    by false e = rw e tt

commit-none : (f file : List ℕ) (offset how : ℕ) (bytes : List ℕ) → saves.commit_of f ≡ calls.File (Write file offset how bytes) → ⊥
commit-none f file offset how bytes is = cc

sent-none : (by_reply : Bool) (s : Saving) → NoWrite (syncs.sync_next (saves.next_sent by_reply s))
sent-none by_reply s = by (nat_lt 0 s.waiting) (saves.is_again s.phase && by_reply) refl refl
  where
    by : (lt done : Bool) → nat_lt 0 s.waiting ≡ lt → (saves.is_again s.phase && by_reply) ≡ done → NoWrite (syncs.sync_next (saves.next_sent by_reply s))
    by true done is ends = rw is tt
    by false true is ends = rw (is, ends) tt
    by false false is ends = rw (is, ends) (commit-none s.file)

last-none : (more : Bool) (told : Result Verf Fault) (s : Saving) → NoWrite (syncs.sync_next (saves.last_next more told s))
last-none true told s = commit-none s.file
last-none false (Ok verf) s = tt
last-none false (Err fault) s = tt

module _ (xid : ℕ) where
  abbrev pub Free : Pending → Type 0
  Free back = IsUnused xid back

  abbrev pub Own : Call → Pending → Type 0
  Own call back = IsPiece xid call back

  free-after : (next : Step) (back : Pending) → NoWrite next → Free back → After Free Own next back
  free-after (nexts.Send call) back none free = λ file offset how bytes is. absurd (none file offset how bytes is)
  free-after nexts.Wait back none free = free
  free-after (nexts.Done answer) back none free = free

  as-next : (to next : _) (back : Pending) → next ≡ to → After Free Own (syncs.sync_next to) back → After Free Own (syncs.sync_next next) back
  as-next to next back is a = subst (λ n. After Free Own (syncs.sync_next n) back) (sym is) a

  same-free : (old new : Pending) → new ≡ old → Free old → Free new
  same-free old new is free = subst Free (sym is) free

  -- nothing is sent
  rests-own : (to next : _) (old new : Pending) → next ≡ to → new ≡ old → NoWrite (syncs.sync_next to) → Free old → After Free Own (syncs.sync_next next) new
  rests-own to next old new is same none free = as-next to next new is (free-after (syncs.sync_next to) new none (same-free old new same free))

  -- what is on a file alone
  on-free : (old new : Pending) (file : List ℕ) (to : FilePending) → OnFile old new file to → (piece_under xid (of_file file old).pieces ≡ None → piece_under xid to.pieces ≡ None)
      → Free old → Free new
  on-free old new file to on step free f = by (same-or file f)
    where
      by : (f ≡ file) ⊎ (f ≢ file) → piece_under xid (of_file f new).pieces ≡ None
      by (inl is) =
          subst (λ (g : List ℕ). piece_under xid (of_file g new).pieces ≡ None) (sym is)
          (ap (λ (of : FilePending). piece_under xid of.pieces) on.here ∙ step (free file))
      by (inr apart) = ap (λ (of : FilePending). piece_under xid of.pieces) (on.others f apart) ∙ free f

  out-free : (asked : ℕ) (file : List ℕ) (old new : Pending) → TakenOut asked file old new → Free old → Free new
  out-free asked file old new out free f = by (same-or file f)
    where
      by : (f ≡ file) ⊎ (f ≢ file) → piece_under xid (of_file f new).pieces ≡ None
      by (inl is) =
          subst (λ (g : List ℕ). piece_under xid (of_file g new).pieces ≡ None) (sym is)
          (ap (λ (ps : List Sent). piece_under xid ps) out.here ∙ none-without xid asked (of_file file old).pieces (free file))
      by (inr apart) = ap (λ (of : FilePending). piece_under xid of.pieces) (out.others f apart) ∙ free f

  -- ---- a save that goes on

  puts-own : (file : List ℕ) (piece : Sent) (old new : Pending) → piece.xid ≡ xid → OnFile old new file (with_sent piece (of_file file old)) → Free old → Own (write_of file piece) new
  puts-own file piece old new is on free f offset how bytes call =
      let same : file ≡ f = cc in
      sym (ap (λ (q : Sent). write_of file q) there) ∙ ap (λ (g : List ℕ). write_of g (saves.answered xid g new)) same
    where
      last : piece_under xid ((of_file file old).pieces ++ piece ∷ []) ≡ Some piece
      last = subst (λ (n : ℕ). piece_under n ((of_file file old).pieces ++ piece ∷ []) ≡ Some piece) is
          (under-last (of_file file old).pieces piece (ap (λ (n : ℕ). piece_under n (of_file file old).pieces) is ∙ free file))

      there : saves.answered xid file new ≡ piece
      there =
          ap (λ (of : FilePending). unwrap_or (piece_under xid of.pieces) saves.no_piece) on.here ∙ ap (λ (o : Option Sent). unwrap_or o saves.no_piece) last

  sends-own : (by_reply : Bool) (run : Segments) (s : Saving) (back : Pending) (next : _) (new : Saving) (after : Pending) → saves.Sends xid by_reply run s back next new after
      → Free back → After Free Own (syncs.sync_next next) after
  sends-own by_reply run s back next new after (inr l) free =
      rests-own (saves.refused_next s.waiting Memory) next back after l.0.gives_next l.1 (refused-none s.waiting Memory) free
  sends-own by_reply [] s back next new after (inl l) free = rests-own (saves.next_sent by_reply s) next back after l.0.gives_next l.1 (sent-none by_reply s) free
  sends-own by_reply (e ∷ es) s back next new after (inl l) free =
      as-next _ next after l.0.gives_next (puts-own s.file (piece_of xid e (e ∷ es)) back after refl l.1.0 free)

  if-own : (b by_reply : Bool) (run : Segments) (s : Saving) (back : Pending) (next : _) (new : Saving) (after : Pending) → saves.SendsIf b xid by_reply run s back next new after
      → Free back → After Free Own (syncs.sync_next next) after
  if-own true by_reply run s back next new after l free = sends-own by_reply run s back next new after l free
  if-own false by_reply run s back next new after l free = rests-own _ next back after l.0.gives_next l.1 tt free

  over-own : (refusal : Option Fault) (wsize : ℕ) (room by_reply : Bool) (s : Saving) (back : Pending) (next : _) (new : Saving) (after : Pending)
      → saves.GoesOver refusal wsize xid room by_reply s back next new after → Free back → After Free Own (syncs.sync_next next) after
  over-own (Some fault) wsize room by_reply s back next new after g free =
      rests-own (saves.refused_next s.waiting fault) next back after g.0.gives_next g.1 (refused-none s.waiting fault) free
  over-own None wsize room by_reply s back next new after g free =
      if-own (saves.may_send room s) by_reply (chosen s.upto wsize (of_file s.file back)) s back next new after g free

  pub goes-own : (wsize : ℕ) (room by_reply : Bool) (s : Saving) (back : Pending) (next : _) (new : Saving) (after : Pending)
      → saves.Goes wsize xid room by_reply s back next new after → Free back → After Free Own (syncs.sync_next next) after
  goes-own wsize room by_reply s back next new after g free = over-own s.refusal wsize room by_reply s back next new after g free

  -- ---- what came of a call

  write-own : (wsize asked : ℕ) (room : Bool) (told : _) (s : Saving) (back : Pending) (next : _) (new : Saving) (after : Pending)
      → saves.TakesWrite wsize asked xid room told s back next new after → Free back → After Free Own (syncs.sync_next next) after
  write-own wsize asked room told s back next new after g free =
      goes-own wsize room g.counts (saves.refused_by g.refusal s) g.between next new after g.goes
      (out-free asked s.file back g.between (lands-out asked s.file told back g.between g.refusal g.lands) free)

  renamed-own : (asked : ℕ) (file : List ℕ) (old new : Pending) → OnFile old new file (with_xid asked xid (of_file file old)) → Free old
      → Own (write_of file (saves.answered asked file old)) new
  renamed-own asked file old new on free f offset how bytes call =
      let same : file ≡ f = cc in
      renamed-piece file asked xid (of_file file old).pieces (free file)
      ∙ sym (ap (λ (of : FilePending). write_of file (unwrap_or (piece_under xid of.pieces) saves.no_piece)) on.here)
      ∙ ap (λ (g : List ℕ). write_of g (saves.answered xid g new)) same

  decides-own : (verdict : Verdict) (wsize : ℕ) (room : Bool) (s : Saving) (back : Pending) (next : _) (new : Saving) (after : Pending)
      → saves.Decides verdict wsize xid room s back next new after → Free back → After Free Own (syncs.sync_next next) after
  decides-own AllStable wsize room s back next new after d free = rests-own _ next back after d.0.gives_next d.1 tt free
  decides-own (SendAgain count) wsize room s back next new after d free = goes-own wsize room false (record s { phase = Resending }) back next new after d free

  commit-own : (told : Result Verf Fault) (wsize : ℕ) (room : Bool) (s : Saving) (back : Pending) (next : _) (new : Saving) (after : Pending)
      → saves.TakesCommit wsize xid room told s back next new after → Free back → After Free Own (syncs.sync_next next) after
  commit-own (Err fault) wsize room s back next new after g free = rests-own _ next back after g.0.gives_next g.1 tt free
  commit-own (Ok verf) wsize room s back next new after g free =
      decides-own (verdict_of (lost verf s.upto (of_file s.file back).segments)) wsize room s g.between next new after g.goes
      (on-free back g.between s.file _ g.decides (λ none. none) free)

module _ (sent turn : Turn) where
  repeats-own : (again : Bool) (wsize : ℕ) (told : _) (s : Saving) (back : Pending) (next : _) (new : Saving) (after : Pending)
      → saves.RepeatsWrite again wsize sent turn told s back next new after → Free turn.xid back → After (Free turn.xid) (Own turn.xid) (syncs.sync_next next) after
  repeats-own true wsize told s back next new after r free =
      as-next turn.xid _ next after r.0.gives_next (renamed-own turn.xid sent.xid s.file back after r.1 free)
  repeats-own false wsize told s back next new after r free = write-own turn.xid wsize sent.xid turn.room told (saves.less_waiting s) back next new after r free

  told-own : (busy : Bool) (wsize : ℕ) (told : _) (repeats : List Repeat) (s : Saving) (back : Pending) (next : _) (new : Saving) (after : Pending) (later : List Repeat)
      → saves.TakesToldIf busy wsize sent turn told repeats s back next new after later → Free turn.xid back
      → After (Free turn.xid) (Own turn.xid) (syncs.sync_next next) after
  told-own true wsize told repeats s back next new after later (inl g) free = repeats-own (goes_again true sent turn repeats) wsize told s back next new after g.0 free
  told-own true wsize told repeats s back next new after later (inr g) free =
      write-own turn.xid wsize sent.xid turn.room _ (saves.less_waiting s) back next new after g.0 free
  told-own false wsize told repeats s back next new after later g free =
      write-own turn.xid wsize sent.xid turn.room told (saves.less_waiting s) back next new after g.0 free

  first-own : (again : Bool) (told : Result Verf Fault) (wsize : ℕ) (s : Saving) (back : Pending) (next : _) (new : Saving) (after : Pending)
      → saves.TakesFirst again wsize turn told s back next new after → Free turn.xid back → After (Free turn.xid) (Own turn.xid) (syncs.sync_next next) after
  first-own true told wsize s back next new after g free = rests-own turn.xid _ next back after g.0.gives_next g.1 (commit-none s.file) free
  first-own false told wsize s back next new after g free = commit-own turn.xid told wsize turn.room (saves.less_waiting s) back next new after g free

  in-own : (phase : Phase) (wsize : ℕ) (came : Result Reply Fault) (repeats : List Repeat) (s : Saving) (back : Pending) (next : _) (new : Saving) (after : Pending)
      (later : List Repeat) → saves.TakesIn phase wsize sent turn came repeats s back next new after later → Free turn.xid back
      → After (Free turn.xid) (Own turn.xid) (syncs.sync_next next) after
  in-own Sending wsize came repeats s back next new after later g free = told-own _ wsize _ repeats s back next new after later g free
  in-own Resending wsize came repeats s back next new after later g free = told-own _ wsize _ repeats s back next new after later g free
  in-own Committing wsize came repeats s back next new after later g free =
      first-own (saves.commit_again (commit_told came) sent turn repeats s) (commit_told came) wsize s back next new after g.0 free
  in-own CommittingAgain wsize came repeats s back next new after later g free =
      let more = saves.commit_again (commit_told came) sent turn repeats s in
      rests-own turn.xid (saves.last_next more (commit_told came) s) next back after g.0.gives_next g.1 (last-none more (commit_told came) s) free

-- ---- as a step of an operation

pub carries-own : (wsize : ℕ) (turn : Turn) → Carries wsize turn (λ f o b n. Unit {0}) IsOther (Free turn.xid) (Own turn.xid)
carries-own wsize turn = record {
  goes = λ by_reply s back next new after g free. goes-own turn.xid wsize turn.room by_reply s back next new after g free;
  adds = λ file offset bytes number old new a on free f. bytes-under turn.xid old old new file offset bytes number on (λ g. refl) f ∙ free f;
  cuts = λ file size upto old new on free f. same-under turn.xid old old new file _ refl on (λ g. refl) f ∙ free f;
  gives = λ file old new quiet on free f. gives-under turn.xid old old new file quiet on (λ g. refl) f ∙ free f;
  plain = λ call back fine free. other-piece turn.xid call back fine;
}

pub replies-own : (wsize : ℕ) (sent turn : Turn) (came : Result Reply Fault) → CarriesReply wsize sent turn came (λ s b. Unit {0}) (Free turn.xid) (Own turn.xid)
replies-own wsize sent turn came = record {
  takes = λ repeats s back next new after later t n free. in-own sent turn s.phase wsize came repeats s back next new after later t free;
}
