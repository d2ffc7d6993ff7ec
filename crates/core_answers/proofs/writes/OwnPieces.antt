-- What a step puts in flight under the xid of its turn is what the WRITE carries that it asks for.
use Rattle.core_answers.proofs.Prelude.{◌≡◌, ◌≢◌, ◌⊎◌, inl, inr, ℕ, Bool, true, false, List, [], ◌∷◌, ◌++◌, Option, Some, None, Result, Ok, Err, refl, sym, ap, subst, ◌∙◌, unwrap_or, Verdict, AllStable, SendAgain, verdict_of, Verf, Fault, Call, Reply, lost, chosen, piece_of, with_sent, Pending, of_file, OnFile, with_xid, Sent, FilePending, piece_under, Segments, same-or, Step, Repeat, Turn, goes_again, Sending, Committing, Resending, CommittingAgain, Saving, commit_told, IsUnused, write_of}
use Rattle.client_shelf.specs.declared.step.Step.TheVariants as nexts
use Rattle.file_ops.specs.declared.saving.Phase.{Phase}
use Rattle.file_ops.specs.Saves as saves
use Rattle.file_ops.specs.Syncs as syncs
use Rattle.file_ops.proofs.Free.{none-without}
use Rattle.file_ops.proofs.Landed.{TakenOut, lands-out}
use Rattle.core_answers.proofs.writes.Backs.{After, Carries, CarriesReply}
use Rattle.core_answers.proofs.writes.SaveChanges.{IsKept, goes-kept, takes-kept}
use Rattle.core_answers.proofs.writes.Under.{SameUnder, under-last, under-renamed, puts-under, lands-under, part-under, renames-under, same-under, bytes-under, gives-under}

some-sent : (a b : Sent) → Some a ≡ Some b → a ≡ b
some-sent a b e = cc

-- the call is the WRITE of each piece in flight under the xid
abbrev pub CarriesAll : ℕ → Call → Pending → Type 0
CarriesAll xid call back = (f : List ℕ) (piece : Sent) → piece_under xid (of_file f back).pieces ≡ Some piece → call ≡ write_of f piece

pub unused-carries : (xid : ℕ) (call : Call) (back : Pending) → IsUnused xid back → CarriesAll xid call back
unused-carries xid call back free f piece is = absurd (let no_way : None ≡ Some piece = sym (free f) ∙ is in cc)

module _ (xid : ℕ) where
  abbrev pub Free : Pending → Type 0
  Free back = IsUnused xid back

  abbrev pub Own : Call → Pending → Type 0
  Own call back = CarriesAll xid call back

  pub free-after : (next : Step) (back : Pending) → Free back → After Free Own next back
  free-after (nexts.Send call) back free = unused-carries xid call back free
  free-after nexts.Wait back free = free
  free-after (nexts.Done answer) back free = free

  as-next : (to next : _) (back : Pending) → next ≡ to → After Free Own (syncs.sync_next to) back → After Free Own (syncs.sync_next next) back
  as-next to next back is a = subst (λ n. After Free Own (syncs.sync_next n) back) (sym is) a

  pub same-free : (old new : Pending) → new ≡ old → Free old → Free new
  same-free old new is free = subst Free (sym is) free

  -- what is on a file alone
  pub on-free : (old new : Pending) (file : List ℕ) (to : FilePending) → OnFile old new file to → (piece_under xid (of_file file old).pieces ≡ None → piece_under xid to.pieces ≡ None)
      → Free old → Free new
  on-free old new file to on step free f = by (same-or file f)
    where
      by : (f ≡ file) ⊎ (f ≢ file) → piece_under xid (of_file f new).pieces ≡ None
      by (inl is) =
          subst (λ (g : List ℕ). piece_under xid (of_file g new).pieces ≡ None) (sym is)
          (ap (λ (of : FilePending). piece_under xid of.pieces) on.here ∙ step (free file))
      by (inr apart) = ap (λ (of : FilePending). piece_under xid of.pieces) (on.others f apart) ∙ free f

  pub out-free : (asked : ℕ) (file : List ℕ) (old new : Pending) → TakenOut asked file old new → Free old → Free new
  out-free asked file old new out free f = by (same-or file f)
    where
      by : (f ≡ file) ⊎ (f ≢ file) → piece_under xid (of_file f new).pieces ≡ None
      by (inl is) =
          subst (λ (g : List ℕ). piece_under xid (of_file g new).pieces ≡ None) (sym is)
          (ap (λ (ps : List Sent). piece_under xid ps) out.here ∙ none-without xid asked (of_file file old).pieces (free file))
      by (inr apart) = ap (λ (of : FilePending). piece_under xid of.pieces) (out.others f apart) ∙ free f

  -- ---- a save that goes on

  puts-own : (file : List ℕ) (piece : Sent) (old new : Pending) → piece.xid ≡ xid → OnFile old new file (with_sent piece (of_file file old)) → Free old → Own (write_of file piece) new
  puts-own file piece old new is on free f p there = by (same-or file f)
    where
      last : piece_under xid ((of_file file old).pieces ++ piece ∷ []) ≡ Some piece
      last = subst (λ (n : ℕ). piece_under n ((of_file file old).pieces ++ piece ∷ []) ≡ Some piece) is
          (under-last (of_file file old).pieces piece (ap (λ (n : ℕ). piece_under n (of_file file old).pieces) is ∙ free file))

      by : (f ≡ file) ⊎ (f ≢ file) → write_of file piece ≡ write_of f p
      by (inl same) =
          let here : piece_under xid (of_file file new).pieces ≡ Some p = subst (λ (g : List ℕ). piece_under xid (of_file g new).pieces ≡ Some p) same there in
          let which : piece ≡ p = some-sent piece p (sym last ∙ sym (ap (λ (of : FilePending). piece_under xid of.pieces) on.here) ∙ here) in
          ap (λ (q : Sent). write_of file q) which ∙ ap (λ (g : List ℕ). write_of g p) (sym same)
      by (inr apart) =
          absurd (let no_way : None ≡ Some p = sym (ap (λ (of : FilePending). piece_under xid of.pieces) (on.others f apart) ∙ free f) ∙ there in cc)

  sends-own : (by_reply : Bool) (run : Segments) (s : Saving) (back : Pending) (next : _) (new : Saving) (after : Pending) → saves.Sends xid by_reply run s back next new after
      → Free back → After Free Own (syncs.sync_next next) after
  sends-own by_reply run s back next new after (inr l) free = free-after (syncs.sync_next next) after (same-free back after l.1 free)
  sends-own by_reply [] s back next new after (inl l) free = free-after (syncs.sync_next next) after (same-free back after l.1 free)
  sends-own by_reply (e ∷ es) s back next new after (inl l) free =
      as-next _ next after l.0.gives_next (puts-own s.file (piece_of xid e (e ∷ es)) back after refl l.1.0 free)

  if-own : (b by_reply : Bool) (run : Segments) (s : Saving) (back : Pending) (next : _) (new : Saving) (after : Pending) → saves.SendsIf b xid by_reply run s back next new after
      → Free back → After Free Own (syncs.sync_next next) after
  if-own true by_reply run s back next new after l free = sends-own by_reply run s back next new after l free
  if-own false by_reply run s back next new after l free = free-after (syncs.sync_next next) after (same-free back after l.1 free)

  over-own : (refusal : Option Fault) (wsize : ℕ) (room by_reply : Bool) (s : Saving) (back : Pending) (next : _) (new : Saving) (after : Pending)
      → saves.GoesOver refusal wsize xid room by_reply s back next new after → Free back → After Free Own (syncs.sync_next next) after
  over-own (Some fault) wsize room by_reply s back next new after g free = free-after (syncs.sync_next next) after (same-free back after g.1 free)
  over-own None wsize room by_reply s back next new after g free =
      if-own (saves.may_send room s) by_reply (chosen s.upto wsize (of_file s.file back)) s back next new after g free

  pub goes-own : (wsize : ℕ) (room by_reply : Bool) (s : Saving) (back : Pending) (next : _) (new : Saving) (after : Pending)
      → saves.Goes wsize xid room by_reply s back next new after → Free back → After Free Own (syncs.sync_next next) after
  goes-own wsize room by_reply s back next new after g free = over-own s.refusal wsize room by_reply s back next new after g free

  -- ---- what came of a call

  write-own : (wsize asked : ℕ) (room : Bool) (told : _) (s : Saving) (back : Pending) (next : _) (new : Saving) (after : Pending)
      → saves.TakesWrite wsize asked xid room told s back next new after → Free back → After Free Own (syncs.sync_next next) after
  write-own wsize asked room told s back next new after g free =
      goes-own wsize room g.counts (saves.refused_by g.refusal s) g.between next new after g.goes
      (out-free asked s.file back g.between (lands-out asked s.file told back g.between g.refusal g.lands) free)

  renamed-own : (asked : ℕ) (file : List ℕ) (old new : Pending) → OnFile old new file (with_xid asked xid (of_file file old)) → Free old
      → Own (write_of file (saves.answered asked file old)) new
  renamed-own asked file old new on free f p there = by (same-or file f)
    where
      by : (f ≡ file) ⊎ (f ≢ file) → write_of file (saves.answered asked file old) ≡ write_of f p
      by (inl same) =
          let here : piece_under xid (of_file file new).pieces ≡ Some p = subst (λ (g : List ℕ). piece_under xid (of_file g new).pieces ≡ Some p) same there in
          let w = under-renamed asked xid (of_file file old).pieces p (free file) (sym (ap (λ (of : FilePending). piece_under xid of.pieces) on.here) ∙ here) in
          ap (λ (o : Option Sent). write_of file (unwrap_or o saves.no_piece)) w.there ∙ sym (ap (λ (q : Sent). write_of file q) w.is) ∙ ap (λ (g : List ℕ). write_of g p) (sym same)
      by (inr apart) =
          absurd (let no_way : None ≡ Some p = sym (ap (λ (of : FilePending). piece_under xid of.pieces) (on.others f apart) ∙ free f) ∙ there in cc)

  decides-own : (verdict : Verdict) (wsize : ℕ) (room : Bool) (s : Saving) (back : Pending) (next : _) (new : Saving) (after : Pending)
      → saves.Decides verdict wsize xid room s back next new after → Free back → After Free Own (syncs.sync_next next) after
  decides-own AllStable wsize room s back next new after d free = free-after (syncs.sync_next next) after (same-free back after d.1 free)
  decides-own (SendAgain count) wsize room s back next new after d free = goes-own wsize room false (record s { phase = Resending }) back next new after d free

  commit-own : (told : Result Verf Fault) (wsize : ℕ) (room : Bool) (s : Saving) (back : Pending) (next : _) (new : Saving) (after : Pending)
      → saves.TakesCommit wsize xid room told s back next new after → Free back → After Free Own (syncs.sync_next next) after
  commit-own (Err fault) wsize room s back next new after g free = free-after (syncs.sync_next next) after (same-free back after g.1 free)
  commit-own (Ok verf) wsize room s back next new after g free =
      decides-own (verdict_of (lost verf s.upto (of_file s.file back).segments)) wsize room s g.between next new after g.goes
      (on-free back g.between s.file _ g.decides (λ none. none) free)

module _ (sent turn : Turn) where
  repeats-own : (again : Bool) (wsize : ℕ) (told : _) (s : Saving) (back : Pending) (next : _) (new : Saving) (after : Pending)
      → saves.RepeatsWrite again wsize sent turn told s back next new after → Free turn.xid back → After (Free turn.xid) (Own turn.xid) (syncs.sync_next next) after
  repeats-own true wsize told s back next new after r free =
      as-next turn.xid _ next after r.0.gives_next (renamed-own turn.xid sent.xid s.file back after r.1 free)
  repeats-own false wsize told s back next new after r free = write-own turn.xid wsize sent.xid turn.room told (saves.less_waiting s) back next new after r free

  told-own : (busy : Bool) (wsize : ℕ) (told : _) (repeats : List Repeat) (s : Saving) (back : Pending) (next : _) (new : Saving) (after : Pending) (later : List Repeat)
      → saves.TakesToldIf busy wsize sent turn told repeats s back next new after later → Free turn.xid back
      → After (Free turn.xid) (Own turn.xid) (syncs.sync_next next) after
  told-own true wsize told repeats s back next new after later (inl g) free = repeats-own (goes_again true sent turn repeats) wsize told s back next new after g.0 free
  told-own true wsize told repeats s back next new after later (inr g) free =
      write-own turn.xid wsize sent.xid turn.room _ (saves.less_waiting s) back next new after g.0 free
  told-own false wsize told repeats s back next new after later g free =
      write-own turn.xid wsize sent.xid turn.room told (saves.less_waiting s) back next new after g.0 free

  first-own : (again : Bool) (told : Result Verf Fault) (wsize : ℕ) (s : Saving) (back : Pending) (next : _) (new : Saving) (after : Pending)
      → saves.TakesFirst again wsize turn told s back next new after → Free turn.xid back → After (Free turn.xid) (Own turn.xid) (syncs.sync_next next) after
  first-own true told wsize s back next new after g free = free-after turn.xid (syncs.sync_next next) after (same-free turn.xid back after g.1 free)
  first-own false told wsize s back next new after g free = commit-own turn.xid told wsize turn.room (saves.less_waiting s) back next new after g free

  in-own : (phase : Phase) (wsize : ℕ) (came : Result Reply Fault) (repeats : List Repeat) (s : Saving) (back : Pending) (next : _) (new : Saving) (after : Pending)
      (later : List Repeat) → saves.TakesIn phase wsize sent turn came repeats s back next new after later → Free turn.xid back
      → After (Free turn.xid) (Own turn.xid) (syncs.sync_next next) after
  in-own Sending wsize came repeats s back next new after later g free = told-own _ wsize _ repeats s back next new after later g free
  in-own Resending wsize came repeats s back next new after later g free = told-own _ wsize _ repeats s back next new after later g free
  in-own Committing wsize came repeats s back next new after later g free =
      first-own (saves.commit_again (commit_told came) sent turn repeats s) (commit_told came) wsize s back next new after g.0 free
  in-own CommittingAgain wsize came repeats s back next new after later g free = free-after turn.xid (syncs.sync_next next) after (same-free turn.xid back after g.1 free)

-- ---- as a step of an operation

pub carries-own : (wsize : ℕ) (turn : Turn) → Carries wsize turn (λ f o b n. Unit {0}) (λ c. Unit {0}) (Free turn.xid) (Own turn.xid)
carries-own wsize turn = record {
  goes = λ by_reply s back next new after g free. goes-own turn.xid wsize turn.room by_reply s back next new after g free;
  adds = λ file offset bytes number old new a on free f. bytes-under turn.xid old old new file offset bytes number on (λ g. refl) f ∙ free f;
  cuts = λ file size upto old new on free f. same-under turn.xid old old new file _ refl on (λ g. refl) f ∙ free f;
  gives = λ file old new quiet on free f. gives-under turn.xid old old new file quiet on (λ g. refl) f ∙ free f;
  plain = λ call back fine free. unused-carries turn.xid call back free;
}

pub replies-own : (wsize : ℕ) (sent turn : Turn) (came : Result Reply Fault) → CarriesReply wsize sent turn came (λ s b. Unit {0}) (Free turn.xid) (Own turn.xid)
replies-own wsize sent turn came = record {
  takes = λ repeats s back next new after later t n free. in-own sent turn s.phase wsize came repeats s back next new after later t free;
}

-- ---- under every other xid nothing changes, but under the one that is answered

module _ (y : ℕ) (start : Pending) where
  abbrev pub Same : Pending → Type 0
  Same back = SameUnder y start back

  same-kept : (asked to : ℕ) → asked ≢ y → to ≢ y → IsKept asked to Same
  same-kept asked to apart other = record {
    puts = λ file piece upto old new is on puts p. puts-under y start old new file piece (λ same. other (sym is ∙ same)) on p;
    lands = λ file change old new on p. lands-under y start old new file change asked apart on p;
    part_lands = λ file change count old new on p. part-under y start old new file change count asked apart on p;
    renames = λ file old new on p. renames-under y start old new file asked to apart other on p;
    decides = λ file upto verf old new on p. same-under y start old new file _ refl on p;
  }

  any-after : (next : Step) (back : Pending) → Same back → After Same (λ call. Same) next back
  any-after (nexts.Send call) back p = p
  any-after nexts.Wait back p = p
  any-after (nexts.Done answer) back p = p

  pub after-same : (next : Step) (back : Pending) → After Same (λ call. Same) next back → Same back
  after-same (nexts.Send call) back p = p
  after-same nexts.Wait back p = p
  after-same (nexts.Done answer) back p = p

  pub carries-same : (wsize : ℕ) (turn : Turn) → turn.xid ≢ y → Carries wsize turn (λ f o b n. Unit {0}) (λ c. Unit {0}) Same (λ call. Same)
  carries-same wsize turn other = record {
    goes = λ by_reply s back next new after g p.
        any-after (syncs.sync_next next) after (goes-kept Same turn.xid turn.xid (same-kept turn.xid turn.xid other other) wsize turn.room by_reply s back next new after g p);
    adds = λ file offset bytes number old new a on p. bytes-under y start old new file offset bytes number on p;
    cuts = λ file size upto old new on p. same-under y start old new file _ refl on p;
    gives = λ file old new quiet on p. gives-under y start old new file quiet on p;
    plain = λ call back fine p. p;
  }

  pub replies-same : (wsize : ℕ) (sent turn : Turn) (came : Result Reply Fault) → sent.xid ≢ y → turn.xid ≢ y
      → CarriesReply wsize sent turn came (λ s b. Unit {0}) Same (λ call. Same)
  replies-same wsize sent turn came apart other = record {
    takes = λ repeats s back next new after later t n p.
        any-after (syncs.sync_next next) after (takes-kept Same sent turn (same-kept sent.xid turn.xid apart other) wsize came repeats s back next new after later t p);
  }
