-- A step of a save with what came of its call.
use Rattle.std.proofs.Common.{◌≡◌, ◌≤◌, ◌+◌, ◌-◌, ◌==◌, ◌||◌, ℕ, Bool, true, false, List, [], length, Option, Some, None, Result, Ok, Err, inl, inr, refl, sym, ap, subst, ◌∙◌, arith}
use Rattle.std.specs.Prelude.{nat_lt, unwrap_or, IsSome, IfSome}
use Rattle.std.proofs.lemmas.Bool.{ltb-false, lt-ltb, or_parts}
use Rattle.nfs_types.specs.declared.verf.Verf.{Verf}
use Rattle.nfs_types.specs.declared.wcc.Wcc.{Wcc}
use Rattle.nfs_file_calls.specs.declared.owned.FileKept.{FileKept}
use Rattle.nfs_file_calls.specs.declared.owned.FileKept.TheVariants as kept
use Rattle.world_model.specs.declared.answer.Fault.{Fault}
use Rattle.world_model.specs.declared.answer.Fault.TheVariants.{Memory, Nfs, Bad}
use Rattle.world_model.specs.declared.message.Reply.{Reply}
use Rattle.world_model.specs.declared.message.Reply.TheVariants as replies
use Rattle.client_shelf.specs.declared.repeats.Repeat.{Repeat}
use Rattle.client_shelf.specs.declared.turn.Turn.{Turn}
use Rattle.client_shelf.specs.Busy.{goes_again}
use Rattle.write_back.specs.declared.change.Change.TheVariants as by_change
use Rattle.write_back.specs.Changes.{lost}
use Rattle.write_back.specs.Files.{Pending, of_file, HasNoPiece, IsFree, OnFile}
use Rattle.write_back.specs.Landing.{acked_by, at_xid, landed, landed_part, with_xid}
use Rattle.write_back.specs.Pieces.{Sent, FilePending, piece_under, without, rest_at}
use Rattle.write_back.specs.Places.{Lands}
use Rattle.write_back.specs.Sound.{IsSound}
use Rattle.write_back.proofs.Landings.{answer-store}
use Rattle.write_back.proofs.Replying.{lands-part-at}
use Rattle.write_back.specs.declared.change.Change.TheVariants.{Settle, MarkAgain}
use Rattle.commit_verf.specs.declared.commit.Verdict.{Verdict}
use Rattle.commit_verf.specs.declared.commit.Verdict.TheVariants.{AllStable, SendAgain}
use Rattle.commit_verf.specs.Decisions.{decided, verdict_of, cell_decided, IsAllUnder}
use Rattle.commit_verf.proofs.Stable.{stable-is}
use Rattle.file_ops.specs.declared.saving.Phase.{Phase}
use Rattle.file_ops.specs.declared.saving.Phase.TheVariants.{Sending, Committing, Resending, CommittingAgain}
use Rattle.file_ops.specs.declared.saving.Saving.{Saving}
use Rattle.file_ops.specs.Judging.{write_told, write_told_by, written_by, commit_told}
use Rattle.file_ops.specs.Saves as saves
use Rattle.file_ops.specs.Syncs.{sync_next}
use Rattle.file_ops.proofs.Free.{none-without}
use Rattle.file_ops.proofs.Landed.{lands-out}
use Rattle.step_pending.specs.Cells.{EachSound}
use Rattle.step_pending.proofs.Leading.{if-true}
use Rattle.step_pending.proofs.Hearing.{sound-heard}
use Rattle.step_pending.proofs.Renaming.{sound-renamed}
use Rattle.step_pending.proofs.Replied.{sound-acked, sound-returned, sound-refused}
use Rattle.step_saves.specs.Saves.{IsClearUpTo, IsHeld, IsLost, EachUpTo, IsAgain, AreAgain, PhaseHas, PhaseCounts, IsUnderWay, GoesOn, IsSaved, Leaves, IsAwaited}
use Rattle.step_saves.proofs.Going.{saving, leads-leaves, leaves-as, stays-on, goes-leaves, goes-sound}
use Rattle.step_saves.proofs.Pieces.{length-without, length-renumbered, again-without, again-renumbered, again-under}
use Rattle.step_saves.proofs.Places.{rests-decided, lost-decided, clear-decided, lost-landed}

some-is : {A : Type 0} → (o : Option A) → IsSome o → (x : A) × (o ≡ Some x)
some-is None is = absurd cc
some-is (Some x) is = (x, refl)

-- what is known of a piece that is there
of-piece : (P : Sent → Type 0) (o : Option Sent) (piece : Sent) → o ≡ Some piece → IfSome o P → P piece
of-piece P None piece is so = absurd cc
of-piece P (Some other) piece is so = let same : other ≡ piece = (let k : Some other ≡ Some piece = is in cc) in subst P same so

-- ---- what came of a WRITE

-- The server said that it made some bytes as stable as it was asked to; or else the save is refused, and they are to be sent again.
pub data Outcome (asked : ℕ) (file : List ℕ) (how : ℕ) (came : Result Reply Fault) (old new : Pending) (now : Option Fault) : Type 0 where
  did : (wcc : Wcc) (count firm : ℕ) (verf : Verf) → came ≡ Ok (replies.File (kept.Write wcc count firm verf)) → how ≤ firm → now ≡ None
      → OnFile old new file (at_xid (landed_part (acked_by firm verf) count) asked (of_file file old)) → Outcome asked file how came old new now
  fails : (fault : Fault) → now ≡ Some fault → OnFile old new file (at_xid (landed by_change.Return) asked (of_file file old)) → Outcome asked file how came old new now
  refuses : (fault : Fault) (status : ℕ) → now ≡ Some fault → OnFile old new file (at_xid (landed (by_change.Refuse status)) asked (of_file file old))
      → Outcome asked file how came old new now

module _ (how size asked : ℕ) (file : List ℕ) (old new : Pending) where
  written-outcome : (a b : Bool) (wcc : Wcc) (count firm : ℕ) (verf : Verf) (now : Option Fault) → (nat_lt firm how || nat_lt 2 firm) ≡ a → ((count == 0) || nat_lt size count) ≡ b
      → saves.Lands asked file (written_by how size wcc count firm verf) old new now → Outcome asked file how (Ok (replies.File (kept.Write wcc count firm verf))) old new now
  written-outcome true b wcc count firm verf now h g l = let k = rw h at l in fails (Bad 3) k.0 k.1
  written-outcome false true wcc count firm verf now h g l = let k = rw (h, g) at l in fails (Bad 4) k.0 k.1
  written-outcome false false wcc count firm verf None h g l =
      let k = rw (h, g) at l in
      let parts = or_parts (nat_lt firm how) (nat_lt 2 firm) h in
      did wcc count firm verf refl (ltb-false firm how parts.0) refl k
  written-outcome false false wcc count firm verf (Some fault) h g l = let k = rw (h, g) at l in fails fault refl k.1

  reply-outcome : (reply : FileKept) (now : Option Fault) → saves.Lands asked file (write_told_by how size reply) old new now → Outcome asked file how (Ok (replies.File reply)) old new now
  reply-outcome (kept.Write wcc count firm verf) now l = written-outcome (nat_lt firm how || nat_lt 2 firm) ((count == 0) || nat_lt size count) wcc count firm verf now refl refl l
  reply-outcome (kept.WriteFail status wcc) now l = refuses (Nfs status.0) status.0 l.0 l.1
  reply-outcome reply now l = fails (Bad 2) l.0 l.1

  pub came-outcome : (came : Result Reply Fault) (now : Option Fault) → saves.Lands asked file (write_told how size came) old new now → Outcome asked file how came old new now
  came-outcome (Ok (replies.File reply)) now l = reply-outcome reply now l
  came-outcome (Ok (replies.Dir reply)) now l = fails (Bad 2) l.0 l.1
  came-outcome (Ok (replies.Mount reply)) now l = fails (Bad 2) l.0 l.1
  came-outcome (Err fault) now l = fails fault l.0 l.1

-- ---- a WRITE's reply

module _ (file : List ℕ) (upto asked : ℕ) (back between : Pending) (piece : Sent) (found : piece_under asked (of_file file back).pieces ≡ Some piece) (sound : IsSound (of_file file back)) where
  -- lost bytes of which the server made some stable
  lost-then : (count committed : ℕ) (verf : Verf) → 1 ≤ committed → OnFile back between file (at_xid (landed_part (acked_by committed verf) count) asked (of_file file back))
      → EachUpTo upto IsLost (of_file file back) → AreAgain (of_file file back).pieces → EachUpTo upto IsLost (of_file file between)
  lost-then count committed verf firm on lost all =
      let store : acked_by committed verf ≡ by_change.Store = if-true (nat_lt 0 committed) by_change.Store (by_change.Ack verf) (lt-ltb 0 committed (omega (arith, firm))) in
      let here : of_file file between ≡ at_xid (landed_part by_change.Store count) asked (of_file file back) =
      on.here ∙ ap (λ change. at_xid (landed_part change count) asked (of_file file back)) store in
      let lands : Lands piece count by_change.Store by_change.Return (of_file file back) (of_file file between) =
      of-piece (λ p. Lands p count by_change.Store by_change.Return (of_file file back) (of_file file between)) (piece_under asked (of_file file back).pieces) piece found
      (lands-part-at by_change.Store count asked (of_file file back) (of_file file between) answer-store sound here) in
      lost-landed piece count upto (of_file file back) (of_file file between) lands lost all

  module _ (came : Result Reply Fault) (out : (of_file file between).pieces ≡ without asked (of_file file back).pieces) where
    fewer : (waiting : ℕ) → length (of_file file back).pieces ≡ waiting → length (of_file file between).pieces ≡ waiting - 1
    fewer waiting counts =
        let one : length (without asked (of_file file back).pieces) + 1 ≡ length (of_file file back).pieces = length-without asked (of_file file back).pieces piece found in
        ap length out ∙ omega (arith, one, counts)

    lands-has : Outcome asked file piece.how came back between None → EachUpTo upto IsLost (of_file file back) × AreAgain (of_file file back).pieces → PhaseHas Resending None upto (of_file file between)
    lands-has (did wcc count firm verf is enough same on) has =
        let again : IsAgain piece = again-under asked (of_file file back).pieces piece has.1 found in
        let stable : 1 ≤ firm = omega (arith, again.how, enough) in
        (lost-then count firm verf stable on has.0 has.1, subst AreAgain (sym out) (again-without asked (of_file file back).pieces has.1))
    lands-has (fails fault same on) has = let no_way : None ≡ Some fault = same in absurd cc
    lands-has (refuses fault status same on) has = let no_way : None ≡ Some fault = same in absurd cc

    lands-on : (put_off : ℕ) (phase : Phase) (waiting : ℕ) (refusal now : Option Fault) → saves.is_sending phase ≡ true → Outcome asked file piece.how came back between now
        → IsUnderWay (saving put_off file upto phase waiting refusal) back → IsUnderWay (saves.refused_by now (saving put_off file upto phase (waiting - 1) refusal)) between
    lands-on put_off Sending waiting refusal None sends outcome way = record { counts = fewer waiting way.counts; has = tt }
    lands-on put_off Sending waiting refusal (Some fault) sends outcome way = record { counts = fewer waiting way.counts; has = tt }
    lands-on put_off Resending waiting refusal (Some fault) sends outcome way = record { counts = fewer waiting way.counts; has = tt }
    lands-on put_off Resending waiting (Some first) None sends outcome way = record { counts = fewer waiting way.counts; has = tt }
    lands-on put_off Resending waiting None None sends outcome way = record { counts = fewer waiting way.counts; has = lands-has outcome way.has }
    lands-on put_off Committing waiting refusal now sends outcome way = absurd cc
    lands-on put_off CommittingAgain waiting refusal now sends outcome way = absurd cc

-- its COMMIT was put off once more
counts-on : (s : Saving) (back : Pending) → IsUnderWay s back → GoesOn s (saves.put_off_more s) back
counts-on s back way = record { file = refl; upto = refl; so = record { counts = way.counts; has = way.has } }

pub lands-sound : (asked : ℕ) (file : List ℕ) (how : ℕ) (came : Result Reply Fault) (old new : Pending) (now : Option Fault) → EachSound old → Outcome asked file how came old new now → EachSound new
lands-sound asked file how came old new now sound (did wcc count firm verf is enough same on) = sound-acked old new file asked count firm verf sound on
lands-sound asked file how came old new now sound (fails fault same on) = sound-returned old new file asked sound on
lands-sound asked file how came old new now sound (refuses fault status same on) = sound-refused old new file asked status sound on

pub refused-file : (now : Option Fault) (s : Saving) → ((saves.refused_by now s).file ≡ s.file) × ((saves.refused_by now s).upto ≡ s.upto)
refused-file None s = (refl, refl)
refused-file (Some fault) s = (refl, refl)

-- its piece gets another xid
module _ (turn : Turn) (s : Saving) (back : Pending) (way : IsUnderWay s back) (after : Pending) (asked : ℕ) (sends : saves.is_sending s.phase ≡ true) where
  renumbered-on : OnFile back after s.file (with_xid asked turn.xid (of_file s.file back)) → IsUnderWay s after
  renumbered-on on = record { counts = counts s.phase sends way.counts; has = has s.phase s.refusal sends way.has }
    where
      pieces : (of_file s.file after).pieces ≡ (with_xid asked turn.xid (of_file s.file back)).pieces
      pieces = ap (λ (of : FilePending). of.pieces) on.here

      long : length (of_file s.file after).pieces ≡ length (of_file s.file back).pieces
      long = ap length pieces ∙ length-renumbered asked turn.xid (of_file s.file back).pieces

      counts : (phase : Phase) → saves.is_sending phase ≡ true → PhaseCounts phase s.waiting (of_file s.file back).pieces → PhaseCounts phase s.waiting (of_file s.file after).pieces
      counts Sending e c = long ∙ c
      counts Committing e c = absurd cc
      counts Resending e c = long ∙ c
      counts CommittingAgain e c = absurd cc

      has : (phase : Phase) (refusal : Option Fault) → saves.is_sending phase ≡ true → PhaseHas phase refusal s.upto (of_file s.file back) → PhaseHas phase refusal s.upto (of_file s.file after)
      has Sending refusal e h = tt
      has Committing refusal e h = absurd cc
      has Resending (Some fault) e h = tt
      has Resending None e h =
          ((λ place cell at. h.0 place cell (sym (ap (λ (of : FilePending). rest_at of place) on.here) ∙ at)), subst AreAgain (sym pieces) (again-renumbered asked turn.xid (of_file s.file back).pieces h.1))
      has CommittingAgain refusal e h = absurd cc

module _ (wsize : ℕ) (turn : Turn) (some : 1 ≤ wsize) (s : Saving) (back : Pending) (sound : EachSound back) (way : IsUnderWay s back) (next : _) (new : Saving) (after : Pending) where
  -- it goes on after its piece has landed
  module _ (sent : Turn) (came : Result Reply Fault) (piece : Sent) (found : piece_under sent.xid (of_file s.file back).pieces ≡ Some piece) (sends : saves.is_sending s.phase ≡ true) where
    write-leaves : (told : _) → ((between : Pending) (now : Option Fault) → saves.Lands sent.xid s.file told back between now → Outcome sent.xid s.file piece.how came back between now)
        → saves.TakesWrite wsize sent.xid turn.xid turn.room told (saves.less_waiting s) back next new after → Leaves (sync_next next) s new after
    write-leaves told outcomes t =
        let outcome : Outcome sent.xid s.file piece.how came back t.between t.refusal = outcomes t.between t.refusal t.lands in
        let mid : EachSound t.between = lands-sound sent.xid s.file piece.how came back t.between t.refusal sound outcome in
        let on : IsUnderWay (saves.refused_by t.refusal (saves.less_waiting s)) t.between =
        lands-on s.file s.upto sent.xid back t.between piece found (sound s.file) came (lands-out sent.xid s.file told back t.between t.refusal t.lands).here s.put_off s.phase s.waiting s.refusal t.refusal sends outcome way in
        let same = refused-file t.refusal (saves.less_waiting s) in
        leaves-as (sync_next next) (saves.refused_by t.refusal (saves.less_waiting s)) s new after same.0 same.1
        (goes-leaves wsize turn.xid turn.room t.counts (saves.refused_by t.refusal (saves.less_waiting s)) t.between next new after some (mid (saves.refused_by t.refusal (saves.less_waiting s)).file) on t.goes)

    repeats-leaves : (again : Bool) (told : _) → ((between : Pending) (now : Option Fault) → saves.Lands sent.xid s.file told back between now → Outcome sent.xid s.file piece.how came back between now)
        → saves.RepeatsWrite again wsize sent turn told s back next new after → Leaves (sync_next next) s new after
    repeats-leaves true told outcomes r =
        leads-leaves _ s next s new after r.0 (stays-on s after (renumbered-on turn s back way after sent.xid sends r.1))
    repeats-leaves false told outcomes r =
        write-leaves told outcomes r

    told-leaves : (busy : Bool) (told : _) (repeats later : List Repeat) → ((between : Pending) (now : Option Fault) → saves.Lands sent.xid s.file told back between now → Outcome sent.xid s.file piece.how came back between now)
        → saves.TakesToldIf busy wsize sent turn told repeats s back next new after later → Leaves (sync_next next) s new after
    told-leaves true told repeats later outcomes (inl t) = repeats-leaves (goes_again true sent turn repeats) told outcomes t.0
    told-leaves true told repeats later outcomes (inr t) =
        write-leaves _ (λ between now l. fails Memory l.0 l.1) t.0
    told-leaves false told repeats later outcomes t =
        write-leaves told outcomes t.0

  told-by : (sent : Turn) (came : Result Reply Fault) (repeats later : List Repeat) → saves.is_sending s.phase ≡ true → IsAwaited s sent.xid back
      → saves.TakesTold wsize sent turn (saves.told_of sent.xid s.file back came) repeats s back next new after later → Leaves (sync_next next) s new after
  told-by sent came repeats later sends awaited t =
      let found = some-is (piece_under sent.xid (of_file s.file back).pieces) (awaited sends) in
      let same : saves.answered sent.xid s.file back ≡ found.0 = ap (λ o. unwrap_or o saves.no_piece) found.1 in
      told-leaves sent came found.0 found.1 sends (saves.may_again (saves.told_busy (saves.told_of sent.xid s.file back came)) s) (saves.told_of sent.xid s.file back came) repeats later
      (λ between now l. subst (λ (p : Sent). Outcome sent.xid s.file p.how came back between now) same
      (came-outcome (saves.answered sent.xid s.file back).how (length (saves.answered sent.xid s.file back).bytes) sent.xid s.file back between came now l)) t

-- ---- a COMMIT's reply

module _ (put_off : ℕ) (file : List ℕ) (upto : ℕ) (verf : Verf) (back between : Pending) (sound : IsSound (of_file file back)) (on : OnFile back between file (decided upto verf (of_file file back)))
    (quiet : (of_file file back).pieces ≡ []) (held : EachUpTo upto IsHeld (of_file file back)) where
  rests : (place : ℕ) → rest_at (of_file file between) place ≡ cell_decided upto verf (rest_at (of_file file back) place)
  rests place = ap (λ (of : FilePending). rest_at of place) on.here ∙ rests-decided upto verf (of_file file back) sound place

  none-then : (of_file file between).pieces ≡ []
  none-then = ap (λ (of : FilePending). of.pieces) on.here ∙ quiet

  all-stable : verdict_of (lost verf upto (of_file file back).segments) ≡ AllStable → IsSaved (saving put_off file upto Committing 0 None) between
  all-stable is =
      let under : IsAllUnder upto verf (of_file file back) = (stable-is verf upto (of_file file back) (verdict_of (lost verf upto (of_file file back).segments)) sound refl).0 is in
      record { quiet = none-then; clear = clear-decided upto verf (of_file file back) (of_file file between) rests held under none-then }

  resends : (waiting : ℕ) (refusal : Option Fault) → waiting ≡ 1 → IsUnderWay (saving put_off file upto Resending (waiting - 1) refusal) between
  resends waiting None one = record { counts = ap length none-then ∙ omega (arith, one); has = (lost-decided upto verf (of_file file back) (of_file file between) rests held, subst AreAgain (sym none-then) tt) }
  resends waiting (Some fault) one = record { counts = ap length none-then ∙ omega (arith, one); has = tt }

module _ (put_off : ℕ) (file : List ℕ) (upto wsize : ℕ) (turn : Turn) (some : 1 ≤ wsize) (waiting : ℕ) (refusal : Option Fault) (back : Pending) (sound : EachSound back)
    (way : IsUnderWay (saving put_off file upto Committing waiting refusal) back) (next : _) (new : Saving) (after : Pending) where
  decides-leaves : (verf : Verf) (between : Pending) (verdict : Verdict) → OnFile back between file (decided upto verf (of_file file back)) → verdict_of (lost verf upto (of_file file back).segments) ≡ verdict
      → saves.Decides verdict wsize turn.xid turn.room (saves.less_waiting (saving put_off file upto Committing waiting refusal)) between next new after → Leaves (sync_next next) (saving put_off file upto Committing waiting refusal) new after
  decides-leaves verf between AllStable on is d =
      let saved = all-stable put_off file upto verf back between (sound file) on way.counts.1 way.has is in
      let here : IsSaved (saving put_off file upto Committing waiting refusal) between = record { quiet = saved.quiet; clear = saved.clear } in
      leads-leaves _ (saves.less_waiting (saving put_off file upto Committing waiting refusal)) next (saving put_off file upto Committing waiting refusal) new after d.0
      (subst (λ (p : Pending). IsSaved (saving put_off file upto Committing waiting refusal) p) (sym d.1) here)
  decides-leaves verf between (SendAgain count) on is d =
      let mid : EachSound between = sound-heard back between file upto verf sound on in
      leaves-as (sync_next next) (saving put_off file upto Resending (waiting - 1) refusal) (saving put_off file upto Committing waiting refusal) new after refl refl
      (goes-leaves wsize turn.xid turn.room false (saving put_off file upto Resending (waiting - 1) refusal) between next new after some (mid file)
      (resends put_off file upto verf back between (sound file) on way.counts.1 way.has waiting refusal way.counts.0) d)

  commit-leaves : (told : Result Verf Fault) → saves.TakesCommit wsize turn.xid turn.room told (saves.less_waiting (saving put_off file upto Committing waiting refusal)) back next new after
      → Leaves (sync_next next) (saving put_off file upto Committing waiting refusal) new after
  commit-leaves (Ok verf) t = decides-leaves verf t.between (verdict_of (lost verf upto (of_file file back).segments)) t.decides refl t.goes
  commit-leaves (Err fault) t =
      leads-leaves _ (saves.less_waiting (saving put_off file upto Committing waiting refusal)) next (saving put_off file upto Committing waiting refusal) new after t.0
      (subst (λ (p : Pending). HasNoPiece file p) (sym t.1) way.counts.1)

  first-leaves : (again : Bool) (told : Result Verf Fault) → saves.TakesFirst again wsize turn told (saving put_off file upto Committing waiting refusal) back next new after
      → Leaves (sync_next next) (saving put_off file upto Committing waiting refusal) new after
  first-leaves true told t =
      leads-leaves _ (saves.put_off_more (saving put_off file upto Committing waiting refusal)) next (saving put_off file upto Committing waiting refusal) new after t.0
      (subst (λ (p : Pending). GoesOn (saving put_off file upto Committing waiting refusal) (saves.put_off_more (saving put_off file upto Committing waiting refusal)) p) (sym t.1) (counts-on (saving put_off file upto Committing waiting refusal) back way))
  first-leaves false told t = commit-leaves told t

-- the reply to the second COMMIT
last-leaves : (s : Saving) (back : Pending) (again : Bool) (told : Result Verf Fault) → HasNoPiece s.file back → IsClearUpTo s.upto (of_file s.file back) → IsUnderWay s back
    → Leaves (sync_next (saves.last_next again told s)) s (saves.last_saving again s) back
last-leaves s back true told quiet clear way = counts-on s back way
last-leaves s back false (Ok verf) quiet clear way = record { quiet = quiet; clear = clear }
last-leaves s back false (Err fault) quiet clear way = quiet

-- ---- the step

module _ (wsize : ℕ) (sent turn : Turn) (came : Result Reply Fault) (repeats : List Repeat) (some : 1 ≤ wsize) (put_off : ℕ) (file : List ℕ) (upto waiting : ℕ) (refusal : Option Fault)
    (back : Pending) (sound : EachSound back) (next : _) (new : Saving) (after : Pending) (later : List Repeat) where
  by-phase : (phase : Phase) → IsUnderWay (saving put_off file upto phase waiting refusal) back → IsAwaited (saving put_off file upto phase waiting refusal) sent.xid back
      → saves.TakesIn phase wsize sent turn came repeats (saving put_off file upto phase waiting refusal) back next new after later → Leaves (sync_next next) (saving put_off file upto phase waiting refusal) new after
  by-phase Sending way awaited t = told-by wsize turn some (saving put_off file upto Sending waiting refusal) back sound way next new after sent came repeats later refl awaited t
  by-phase Resending way awaited t = told-by wsize turn some (saving put_off file upto Resending waiting refusal) back sound way next new after sent came repeats later refl awaited t
  by-phase Committing way awaited t =
      first-leaves put_off file upto wsize turn some waiting refusal back sound way next new after
      (saves.commit_again (commit_told came) sent turn repeats (saving put_off file upto Committing waiting refusal)) (commit_told came) t.0
  by-phase CommittingAgain way awaited t =
      leads-leaves _ (saves.last_saving (saves.commit_again (commit_told came) sent turn repeats (saving put_off file upto CommittingAgain waiting refusal)) (saving put_off file upto CommittingAgain waiting refusal)) next
      (saving put_off file upto CommittingAgain waiting refusal) new after t.0
      (subst (λ (p : Pending). Leaves (sync_next (saves.last_next (saves.commit_again (commit_told came) sent turn repeats (saving put_off file upto CommittingAgain waiting refusal)) (commit_told came) (saving put_off file upto CommittingAgain waiting refusal)))
      (saving put_off file upto CommittingAgain waiting refusal) (saves.last_saving (saves.commit_again (commit_told came) sent turn repeats (saving put_off file upto CommittingAgain waiting refusal)) (saving put_off file upto CommittingAgain waiting refusal)) p) (sym t.1)
      (last-leaves (saving put_off file upto CommittingAgain waiting refusal) back (saves.commit_again (commit_told came) sent turn repeats (saving put_off file upto CommittingAgain waiting refusal)) (commit_told came) way.counts.1 way.has way))

pub takes-leaves : (wsize : ℕ) (sent turn : Turn) (came : Result Reply Fault) (repeats : List Repeat) (s : Saving) (back : Pending) (next : _) (new : Saving) (after : Pending) (later : List Repeat)
    → 1 ≤ wsize → EachSound back → IsUnderWay s back → IsAwaited s sent.xid back → saves.Takes wsize sent turn came repeats s back next new after later → Leaves (sync_next next) s new after
takes-leaves wsize sent turn came repeats s back next new after later some sound way awaited t =
    by-phase wsize sent turn came repeats some s.put_off s.file s.upto s.waiting s.refusal back sound next new after later s.phase way awaited t

-- ---- what is pending stays sound

module _ (sent : Turn) (s : Saving) (back : Pending) (sound : EachSound back) where
  came-sound : (came : Result Reply Fault) (between : Pending) (now : Option Fault) → saves.Lands sent.xid s.file (saves.told_of sent.xid s.file back came) back between now → EachSound between
  came-sound came between now l =
      lands-sound sent.xid s.file (saves.answered sent.xid s.file back).how came back between now sound
      (came-outcome (saves.answered sent.xid s.file back).how (length (saves.answered sent.xid s.file back).bytes) sent.xid s.file back between came now l)

module _ (wsize : ℕ) (sent turn : Turn) (s : Saving) (back : Pending) (sound : EachSound back) (free : (other : List ℕ) → IsFree turn.xid other back) (next : _) (new : Saving) (after : Pending) where
  write-sound : (told : _) → ((between : Pending) (now : Option Fault) → saves.Lands sent.xid s.file told back between now → EachSound between)
      → saves.TakesWrite wsize sent.xid turn.xid turn.room told (saves.less_waiting s) back next new after → EachSound after
  write-sound told lands t =
      let mid : EachSound t.between = lands t.between t.refusal t.lands in
      let taken = lands-out sent.xid s.file told back t.between t.refusal t.lands in
      let here : IsFree turn.xid s.file t.between = ap (piece_under turn.xid) taken.here ∙ none-without turn.xid sent.xid (of_file s.file back).pieces (free s.file) in
      let there : IsFree turn.xid (saves.refused_by t.refusal (saves.less_waiting s)).file t.between = subst (λ (f : List ℕ). IsFree turn.xid f t.between) (sym (refused-file t.refusal (saves.less_waiting s)).0) here in
      goes-sound wsize turn.xid turn.room t.counts (saves.refused_by t.refusal (saves.less_waiting s)) t.between next new after mid there t.goes

  repeats-sound : (again : Bool) (told : _) → ((between : Pending) (now : Option Fault) → saves.Lands sent.xid s.file told back between now → EachSound between)
      → saves.RepeatsWrite again wsize sent turn told s back next new after → EachSound after
  repeats-sound true told lands r = sound-renamed back after s.file sent.xid turn.xid sound (free s.file) r.1
  repeats-sound false told lands r = write-sound told lands r

  told-sound : (busy : Bool) (told : _) (repeats later : List Repeat) → ((between : Pending) (now : Option Fault) → saves.Lands sent.xid s.file told back between now → EachSound between)
      → saves.TakesToldIf busy wsize sent turn told repeats s back next new after later → EachSound after
  told-sound true told repeats later lands (inl t) = repeats-sound (goes_again true sent turn repeats) told lands t.0
  told-sound true told repeats later lands (inr t) = write-sound _ (λ between now l. sound-returned back between s.file sent.xid sound l.1) t.0
  told-sound false told repeats later lands t = write-sound told lands t.0

  decides-sound : (verdict : Verdict) (between : Pending) → EachSound between → IsFree turn.xid s.file between
      → saves.Decides verdict wsize turn.xid turn.room (saves.less_waiting s) between next new after → EachSound after
  decides-sound AllStable between mid free-mid d = subst EachSound (sym d.1) mid
  decides-sound (SendAgain count) between mid free-mid d = goes-sound wsize turn.xid turn.room false (record (saves.less_waiting s) { phase = Resending }) between next new after mid free-mid d

  commit-sound : (told : Result Verf Fault) → saves.TakesCommit wsize turn.xid turn.room told (saves.less_waiting s) back next new after → EachSound after
  commit-sound (Ok verf) t =
      decides-sound (verdict_of (lost verf s.upto (of_file s.file back).segments)) t.between (sound-heard back t.between s.file s.upto verf sound t.decides)
      (ap (λ (of : FilePending). piece_under turn.xid of.pieces) t.decides.here ∙ free s.file) t.goes
  commit-sound (Err fault) t = subst EachSound (sym t.1) sound

  first-sound : (again : Bool) (told : Result Verf Fault) → saves.TakesFirst again wsize turn told s back next new after → EachSound after
  first-sound true told t = subst EachSound (sym t.1) sound
  first-sound false told t = commit-sound told t

  in-sound : (came : Result Reply Fault) (repeats later : List Repeat) (phase : Phase) → saves.TakesIn phase wsize sent turn came repeats s back next new after later → EachSound after
  in-sound came repeats later Sending t = told-sound (saves.may_again (saves.told_busy (saves.told_of sent.xid s.file back came)) s) (saves.told_of sent.xid s.file back came) repeats later (came-sound sent s back sound came) t
  in-sound came repeats later Resending t = told-sound (saves.may_again (saves.told_busy (saves.told_of sent.xid s.file back came)) s) (saves.told_of sent.xid s.file back came) repeats later (came-sound sent s back sound came) t
  in-sound came repeats later Committing t = first-sound (saves.commit_again (commit_told came) sent turn repeats s) (commit_told came) t.0
  in-sound came repeats later CommittingAgain t = subst EachSound (sym t.1) sound

pub takes-sound : (wsize : ℕ) (sent turn : Turn) (came : Result Reply Fault) (repeats : List Repeat) (s : Saving) (back : Pending) (next : _) (new : Saving) (after : Pending) (later : List Repeat)
    → EachSound back → ((other : List ℕ) → IsFree turn.xid other back) → saves.Takes wsize sent turn came repeats s back next new after later → EachSound after
takes-sound wsize sent turn came repeats s back next new after later sound free t = in-sound wsize sent turn s back sound free next new after came repeats later s.phase t
