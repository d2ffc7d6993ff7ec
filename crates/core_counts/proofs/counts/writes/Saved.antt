-- What a step of a save makes of how often a place may still be sent: no step lets it be sent more often, but a reply to a WRITE that leaves it unwritten, and one to
-- a COMMIT, by one.
use Rattle.core_counts.proofs.Prelude.{◌≡◌, ◌≤◌, ◌&&◌, ◌||◌, ◌==◌, ◌⊎◌, inl, inr, ℕ, Bool, true, false, List, [], ◌∷◌, length, Option, Some, None, Result, Ok, Err, refl, sym, ap, subst, nat_lt, Verdict, AllStable, SendAgain, verdict_of, Verf, Wcc, Fault, Memory, Reply, lost, chosen, Pending, of_file, OnFile, acked_by, at_xid, landed, landed_part, with_xid, piece_under, Segments, Repeat, Turn, goes_again, Sending, Committing, Resending, CommittingAgain, Saving, write_told, commit_told, IsUnused, EachSound}
use Rattle.std.proofs.Common.{IfSome}
use Rattle.world_model.specs.declared.answer.Fault.TheVariants.{Bad}
use Rattle.write_back.specs.Pieces.{Sent}
use Rattle.nfs_file_calls.specs.declared.owned.FileKept.TheVariants as kept
use Rattle.world_model.specs.declared.message.Reply.TheVariants as replies
use Rattle.write_back.specs.declared.change.Change.TheVariants as by_change
use Rattle.file_ops.specs.declared.saving.Phase.{Phase}
use Rattle.file_ops.specs.Saves as saves
use Rattle.core_counts.proofs.counts.writes.Landing.{the-piece, W, Fewer, same-fewer, fewer-then, puts-fewer, returned-fewer, Gain, Covered, FineBack, fine-then, fine-same, returns-fine, refuses-fine, acks-fine, renews-fine, decides-fine}
use Rattle.core_counts.proofs.counts.writes.Weights.{low, Below}

both-true : (a b : Bool) → (a && b) ≡ true → a ≡ true
both-true true b is = refl
both-true false b is = absurd cc

-- a reply that puts the WRITE off leaves it unwritten
busy-not-all : (how size : ℕ) (what : Result Reply Fault) (n : ℕ) → saves.told_busy (write_told how size what) ≡ true → saves.HasAll (write_told how size what) n → ⊥
busy-not-all how size (Err fault) n busy all = all
busy-not-all how size (Ok (replies.Mount reply)) n busy all = all
busy-not-all how size (Ok (replies.Dir reply)) n busy all = all
busy-not-all how size (Ok (replies.File (kept.Write wcc count committed verf))) n busy all = by (nat_lt committed how || nat_lt 2 committed) ((count == 0) || nat_lt size count) refl refl
  where
    by : (a b : Bool) → (nat_lt committed how || nat_lt 2 committed) ≡ a → ((count == 0) || nat_lt size count) ≡ b → ⊥
    by true b p q = let no_way : false ≡ true = (rw p at busy) in absurd cc
    by false true p q = let no_way : false ≡ true = (rw (p, q) at busy) in absurd cc
    by false false p q = let no_way : false ≡ true = (rw (p, q) at busy) in absurd cc
busy-not-all how size (Ok (replies.File reply)) n busy all = all

-- Of one place of one file; and a byte that is in flight counts under one xid.
module _ (f : List ℕ) (i y : ℕ) where
  -- ---- a save goes on

  sends-fewer : (z : ℕ) (by_reply : Bool) (run : Segments) (s : Saving) (back : Pending) (next : _) (new : Saving) (after : Pending) → saves.Sends z by_reply run s back next new after
      → Fewer f i y back after
  sends-fewer z by_reply run s back next new after (inr l) = same-fewer f i y back after l.1
  sends-fewer z by_reply [] s back next new after (inl l) = same-fewer f i y back after l.1
  sends-fewer z by_reply (e ∷ es) s back next new after (inl l) = puts-fewer f i y z s.upto e es back after s.file l.1

  if-fewer : (b : Bool) (z : ℕ) (by_reply : Bool) (run : Segments) (s : Saving) (back : Pending) (next : _) (new : Saving) (after : Pending)
      → saves.SendsIf b z by_reply run s back next new after → Fewer f i y back after
  if-fewer true z by_reply run s back next new after l = sends-fewer z by_reply run s back next new after l
  if-fewer false z by_reply run s back next new after l = same-fewer f i y back after l.1

  over-fewer : (refusal : Option Fault) (wsize z : ℕ) (room by_reply : Bool) (s : Saving) (back : Pending) (next : _) (new : Saving) (after : Pending)
      → saves.GoesOver refusal wsize z room by_reply s back next new after → Fewer f i y back after
  over-fewer (Some fault) wsize z room by_reply s back next new after g = same-fewer f i y back after g.1
  over-fewer None wsize z room by_reply s back next new after g =
      if-fewer (saves.may_send room s) z by_reply (chosen s.upto wsize (of_file s.file back)) s back next new after g

  pub goes-fewer : (wsize z : ℕ) (room by_reply : Bool) (s : Saving) (back : Pending) (next : _) (new : Saving) (after : Pending)
      → saves.Goes wsize z room by_reply s back next new after → Fewer f i y back after
  goes-fewer wsize z room by_reply s back next new after g = over-fewer s.refusal wsize z room by_reply s back next new after g

  -- ---- where the call came to nothing

  module _ (sent turn : Turn) (fault : Fault) (own : sent.xid ≡ y) (wsize : ℕ) where
    write-err : (how size : ℕ) (s : Saving) (back : Pending) (next : _) (new : Saving) (after : Pending) → EachSound back
        → saves.TakesWrite wsize sent.xid turn.xid turn.room (write_told how size (Err fault)) s back next new after → Fewer f i y back after
    write-err how size s back next new after sound g =
        fewer-then f i y back g.between after
        (returned-fewer f i y back g.between s.file sound
        (subst (λ (n : ℕ). OnFile back g.between s.file (at_xid (landed by_change.Return) n (of_file s.file back))) own g.lands.1))
        (goes-fewer wsize turn.xid turn.room g.counts (saves.refused_by g.refusal s) g.between next new after g.goes)

    first-err : (again : Bool) (s : Saving) (back : Pending) (next : _) (new : Saving) (after : Pending) → saves.TakesFirst again wsize turn (Err fault) s back next new after → Fewer f i y back after
    first-err true s back next new after g = same-fewer f i y back after g.1
    first-err false s back next new after g = same-fewer f i y back after g.1

    in-err : (phase : Phase) (repeats : List Repeat) (s : Saving) (back : Pending) (next : _) (new : Saving) (after : Pending) (later : List Repeat) → EachSound back
        → saves.TakesIn phase wsize sent turn (Err fault) repeats s back next new after later → Fewer f i y back after
    in-err Sending repeats s back next new after later sound g = write-err (saves.answered sent.xid s.file back).how (length (saves.answered sent.xid s.file back).bytes) (saves.less_waiting s) back next new after sound g.0
    in-err Resending repeats s back next new after later sound g = write-err (saves.answered sent.xid s.file back).how (length (saves.answered sent.xid s.file back).bytes) (saves.less_waiting s) back next new after sound g.0
    in-err Committing repeats s back next new after later sound g =
        first-err (saves.commit_again (Err fault) sent turn repeats s) s back next new after g.0
    in-err CommittingAgain repeats s back next new after later sound g = same-fewer f i y back after g.1

    pub takes-err : (repeats : List Repeat) (s : Saving) (back : Pending) (next : _) (new : Saving) (after : Pending) (later : List Repeat) → EachSound back
        → saves.Takes wsize sent turn (Err fault) repeats s back next new after later → Fewer f i y back after
    takes-err repeats s back next new after later sound g = in-err s.phase repeats s back next new after later sound g

  -- ---- a reply

  -- To the call under the xid x, where no more than n were due before; m more than n where the reply leaves the place unwritten, or is one to a COMMIT.
  module _ (s n m : ℕ) (within : n ≤ m) (wsize : ℕ) (sent turn : Turn) (own : turn.xid ≡ y) (came : Result Reply Fault) (back : Pending) (sound : EachSound back) (free : IsUnused y back)
      (few : W f i y (low s) back ≤ n) (below : Below s (of_file f back) i) where
    abbrev Fine_ : Pending → Type 0
    Fine_ b = FineBack f i y sent.xid s n m within back sound free few below b

    abbrev Gain_ : Type 0
    Gain_ = Gain f i y sent.xid s n m within back sound free few below

    abbrev Covered_ : List ℕ → (Sent → Type 0) → Type 0
    Covered_ file P = Covered f i y sent.xid s n m within back sound free few below file P

    -- what is known of the save that takes it
    pub record Told (sv : Saving) : Type 0 where
      pub writes : saves.is_sending sv.phase ≡ true
          → Covered_ sv.file (λ piece. saves.HasAll (saves.told_of sent.xid sv.file back came) (length piece.bytes) ⊎ Gain_)
      pub commits : saves.is_sending sv.phase ≡ false → f ≡ sv.file → Gain_

    -- a WRITE's piece lands
    none-some : (fault : Fault) → ◌≡◌ {A = Option Fault} (Some fault) None → ⊥
    none-some fault e = absurd (cc)

    -- what is known of a piece whose reply tells nothing of it
    gains : (file : List ℕ) → Covered_ file (λ piece. ⊥ ⊎ Gain_) → Covered_ file (λ piece. Gain_)
    gains file so same piece is inside = elim (so same piece is inside) [
      | inl never ↦ absurd never
      | inr gain ↦ gain
    ]

    back-fine : (file : List ℕ) (b : Pending) → OnFile back b file (at_xid (landed by_change.Return) sent.xid (of_file file back)) → Covered_ file (λ piece. ⊥ ⊎ Gain_) → Fine_ b
    back-fine file b on so = returns-fine f i y sent.xid s n m within back sound free few below b file on (gains file so)

    done-fine : (wcc : Wcc) (count committed : ℕ) (verf : Verf) (how size : ℕ) (refusal : Option Fault) (file : List ℕ) (b : Pending)
        → (nat_lt committed how || nat_lt 2 committed) ≡ false → ((count == 0) || nat_lt size count) ≡ false
        → saves.Lands sent.xid file (write_told how size (Ok (replies.File (kept.Write wcc count committed verf)))) back b refusal
        → (f ≡ file → saves.LandsWhole (write_told how size (Ok (replies.File (kept.Write wcc count committed verf)))) (piece_under sent.xid (of_file f back).pieces) refusal)
        → Covered_ file (λ piece. (length piece.bytes ≤ count) ⊎ Gain_) → Fine_ b
    done-fine wcc count committed verf how size None file b p q l whole so =
        let on : OnFile back b file (at_xid (landed_part (acked_by committed verf) count) sent.xid (of_file file back)) = (rw (p, q) at l) in
        acks-fine f i y sent.xid s n m within back sound free few below count committed verf b file on so
    done-fine wcc count committed verf how size (Some fault) file b p q l whole so =
        let on : (fault ≡ Memory) × OnFile back b file (at_xid (landed by_change.Return) sent.xid (of_file file back)) = (rw (p, q) at l) in
        returns-fine f i y sent.xid s n m within back sound free few below b file on.1 (λ same piece is inside. elim (so same piece is inside) [
          | inl all ↦ absurd (
              let own : IfSome (piece_under sent.xid (of_file f back).pieces) (λ piece. length piece.bytes ≤ count → Some fault ≡ None) = (rw (p, q) at (whole same)) in
              none-some fault (the-piece (λ k. length k.bytes ≤ count → Some fault ≡ None) (piece_under sent.xid (of_file f back).pieces) piece is own all))
          | inr gain ↦ gain
        ])

    wrote-fine : (wcc : Wcc) (count committed : ℕ) (verf : Verf) (how size : ℕ) (refusal : Option Fault) (file : List ℕ) (b : Pending)
        → saves.Lands sent.xid file (write_told how size (Ok (replies.File (kept.Write wcc count committed verf)))) back b refusal
        → (f ≡ file → saves.LandsWhole (write_told how size (Ok (replies.File (kept.Write wcc count committed verf)))) (piece_under sent.xid (of_file f back).pieces) refusal)
        → Covered_ file (λ piece. saves.HasAll (write_told how size (Ok (replies.File (kept.Write wcc count committed verf)))) (length piece.bytes) ⊎ Gain_) → Fine_ b
    wrote-fine wcc count committed verf how size refusal file b l whole so = by (nat_lt committed how || nat_lt 2 committed) ((count == 0) || nat_lt size count) refl refl
      where
        by : (a c : Bool) → (nat_lt committed how || nat_lt 2 committed) ≡ a → ((count == 0) || nat_lt size count) ≡ c → Fine_ b
        by true c p q =
            let on : (refusal ≡ Some (Bad 3)) × OnFile back b file (at_xid (landed by_change.Return) sent.xid (of_file file back)) = (rw p at l) in
            let less : Covered_ file (λ piece. ⊥ ⊎ Gain_) = (rw p at so) in
            back-fine file b on.1 less
        by false true p q =
            let on : (refusal ≡ Some (Bad 4)) × OnFile back b file (at_xid (landed by_change.Return) sent.xid (of_file file back)) = (rw (p, q) at l) in
            let less : Covered_ file (λ piece. ⊥ ⊎ Gain_) = (rw (p, q) at so) in
            back-fine file b on.1 less
        by false false p q =
            let all : Covered_ file (λ piece. (length piece.bytes ≤ count) ⊎ Gain_) = (rw (p, q) at so) in
            done-fine wcc count committed verf how size refusal file b p q l whole all

    lands-told : (how size : ℕ) (what : Result Reply Fault) (refusal : Option Fault) (file : List ℕ) (b : Pending) → saves.Lands sent.xid file (write_told how size what) back b refusal
        → (f ≡ file → saves.LandsWhole (write_told how size what) (piece_under sent.xid (of_file f back).pieces) refusal)
        → Covered_ file (λ piece. saves.HasAll (write_told how size what) (length piece.bytes) ⊎ Gain_) → Fine_ b
    lands-told how size (Err fault) refusal file b l whole so = back-fine file b l.1 so
    lands-told how size (Ok (replies.Mount reply)) refusal file b l whole so = back-fine file b l.1 so
    lands-told how size (Ok (replies.Dir reply)) refusal file b l whole so = back-fine file b l.1 so
    lands-told how size (Ok (replies.File (kept.Write wcc count committed verf))) refusal file b l whole so = wrote-fine wcc count committed verf how size refusal file b l whole so
    lands-told how size (Ok (replies.File (kept.WriteFail status wcc))) refusal file b l whole so =
        refuses-fine f i y sent.xid s n m within back sound free few below status.0 b file l.1 (gains file so)
    lands-told how size (Ok (replies.File reply)) refusal file b l whole so = back-fine file b l.1 so

    write-fine : (how size : ℕ) (what : Result Reply Fault) (sv : Saving) (next : _) (new : Saving) (after : Pending)
        → Covered_ sv.file (λ piece. saves.HasAll (write_told how size what) (length piece.bytes) ⊎ Gain_)
        → saves.TakesWrite wsize sent.xid turn.xid turn.room (write_told how size what) sv back next new after → Fine_ after
    write-fine how size what sv next new after so g =
        fine-then f i y sent.xid s n m within back sound free few below g.between after
        (lands-told how size what g.refusal sv.file g.between g.lands
        (λ same. subst (λ (h : List ℕ). saves.LandsWhole (write_told how size what) (piece_under sent.xid (of_file h back).pieces) g.refusal) (sym same) g.whole) so)
        (goes-fewer wsize turn.xid turn.room g.counts (saves.refused_by g.refusal sv) g.between next new after g.goes)

    gains-all : (how size : ℕ) (what : Result Reply Fault) (file : List ℕ) → Covered_ file (λ piece. Gain_)
        → Covered_ file (λ piece. saves.HasAll (write_told how size what) (length piece.bytes) ⊎ Gain_)
    gains-all how size what file all same piece is inside = inr (all same piece is inside)

    repeats-fine : (again : Bool) (how size : ℕ) (sv : Saving) (next : _) (new : Saving) (after : Pending) → Covered_ sv.file (λ piece. Gain_)
        → saves.RepeatsWrite again wsize sent turn (write_told how size came) sv back next new after → Fine_ after
    repeats-fine true how size sv next new after all r =
        renews-fine f i y sent.xid s n m within back sound free few below after sv.file
        (subst (λ (k : ℕ). OnFile back after sv.file (with_xid sent.xid k (of_file sv.file back))) own r.1) all
    repeats-fine false how size sv next new after all r = write-fine how size came (saves.less_waiting sv) next new after (gains-all how size came sv.file all) r

    told-fine : (busy : Bool) (how size : ℕ) (repeats : List Repeat) (sv : Saving) (next : _) (new : Saving) (after : Pending) (later : List Repeat)
        → (busy ≡ true → saves.told_busy (write_told how size came) ≡ true) → Covered_ sv.file (λ piece. saves.HasAll (write_told how size came) (length piece.bytes) ⊎ Gain_)
        → saves.TakesToldIf busy wsize sent turn (write_told how size came) repeats sv back next new after later → Fine_ after
    told-fine false how size repeats sv next new after later is so g = write-fine how size came (saves.less_waiting sv) next new after so g.0
    told-fine true how size repeats sv next new after later is so g = by g
      where
        all : Covered_ sv.file (λ piece. Gain_)
        all same piece there inside = elim (so same piece there inside) [
          | inl whole ↦ absurd (busy-not-all how size came (length piece.bytes) (is refl) whole)
          | inr gain ↦ gain
        ]

        by : saves.TakesBusy wsize sent turn (write_told how size came) repeats sv back next new after later → Fine_ after
        by (inl r) = repeats-fine (goes_again true sent turn repeats) how size sv next new after all r.0
        by (inr r) = write-fine how size (Err Memory) (saves.less_waiting sv) next new after (gains-all how size (Err Memory) sv.file all) r.0

    decides-then : (verdict : Verdict) (sv : Saving) (between : Pending) (next : _) (new : Saving) (after : Pending) → saves.Decides verdict wsize turn.xid turn.room sv between next new after
        → Fine_ between → Fine_ after
    decides-then AllStable sv between next new after d fine =
        fine-then f i y sent.xid s n m within back sound free few below between after fine (same-fewer f i y between after d.1)
    decides-then (SendAgain count) sv between next new after d fine =
        fine-then f i y sent.xid s n m within back sound free few below between after fine
        (goes-fewer wsize turn.xid turn.room false (record sv { phase = Resending }) between next new after d)

    commit-fine : (t : Result Verf Fault) (sv : Saving) (next : _) (new : Saving) (after : Pending) → (f ≡ sv.file → Gain_) → saves.TakesCommit wsize turn.xid turn.room t sv back next new after
        → Fine_ after
    commit-fine (Err fault) sv next new after gains g = fine-same f i y sent.xid s n m within back sound free few below after g.1
    commit-fine (Ok verf) sv next new after gains g =
        decides-then (verdict_of (lost verf sv.upto (of_file sv.file back).segments)) sv g.between next new after g.goes
        (decides-fine f i y sent.xid s n m within back sound free few below sv.upto verf g.between sv.file g.decides gains)

    first-fine : (again : Bool) (t : Result Verf Fault) (sv : Saving) (next : _) (new : Saving) (after : Pending) → (f ≡ sv.file → Gain_)
        → saves.TakesFirst again wsize turn t sv back next new after → Fine_ after
    first-fine true t sv next new after gains g = fine-same f i y sent.xid s n m within back sound free few below after g.1
    first-fine false t sv next new after gains g = commit-fine t (saves.less_waiting sv) next new after gains g

    in-fine : (phase : Phase) (repeats : List Repeat) (sv : Saving) (next : _) (new : Saving) (after : Pending) (later : List Repeat) → sv.phase ≡ phase → Told sv
        → saves.TakesIn phase wsize sent turn came repeats sv back next new after later → Fine_ after
    in-fine Sending repeats sv next new after later at t g =
        told-fine (saves.may_again (saves.told_busy (saves.told_of sent.xid sv.file back came)) sv) (saves.answered sent.xid sv.file back).how (length (saves.answered sent.xid sv.file back).bytes) repeats sv next new
        after later (λ is. both-true _ _ is) (t.writes (ap saves.is_sending at)) g
    in-fine Resending repeats sv next new after later at t g =
        told-fine (saves.may_again (saves.told_busy (saves.told_of sent.xid sv.file back came)) sv) (saves.answered sent.xid sv.file back).how (length (saves.answered sent.xid sv.file back).bytes) repeats sv next new
        after later (λ is. both-true _ _ is) (t.writes (ap saves.is_sending at)) g
    in-fine Committing repeats sv next new after later at t g =
        first-fine (saves.commit_again (commit_told came) sent turn repeats sv) (commit_told came) sv next new after (t.commits (ap saves.is_sending at)) g.0
    in-fine CommittingAgain repeats sv next new after later at t g = fine-same f i y sent.xid s n m within back sound free few below after g.1

    pub takes-fine : (repeats : List Repeat) (sv : Saving) (next : _) (new : Saving) (after : Pending) (later : List Repeat) → Told sv
        → saves.Takes wsize sent turn came repeats sv back next new after later → Fine_ after
    takes-fine repeats sv next new after later t g = in-fine sv.phase repeats sv next new after later refl t g
