-- What a save makes of the machine as it takes what came of its call.
use Rattle.core_counts.proofs.Prelude.{◌≡◌, ◌⊎◌, inl, inr, ◌&&◌, ◌||◌, ◌==◌, ℕ, Bool, true, false, List, Option, Some, None, Result, Ok, Err, refl, sym, ap, subst, nat_lt, Verdict, AllStable, SendAgain, decided, verdict_of, Verf, Wcc, Held, Fault, Call, Reply, lost, Pending, of_file, OnFile, acked_by, at_xid, landed, landed_part, with_xid, Step, Repeat, Turn, goes_again, Sending, Committing, Resending, CommittingAgain, Saving, write_told, commit_told, IsUnused, Purpose, Setup, After, EachSound}
use Rattle.nfs_types.specs.declared.status.Status.{Status}
use Rattle.nfs_file_calls.specs.declared.owned.FileKept.TheVariants as kept_replies
use Rattle.world_model.specs.declared.answer.Fault.TheVariants as faults
use Rattle.world_model.specs.declared.message.Reply.TheVariants as replies
use Rattle.write_back.specs.declared.change.Change.TheVariants as by_change
use Rattle.client_shelf.specs.declared.step.Step.TheVariants as nexts
use Rattle.file_ops.specs.declared.saving.Phase.{Phase}
use Rattle.file_ops.specs.Saves as saves
use Rattle.file_ops.specs.Syncs as syncs
use Rattle.file_ops.proofs.Landed.{lands-out}
use Rattle.core_facts.proofs.Syncing.{CameCommitted, told-commit}
use Rattle.core_answers.proofs.writes.OwnPieces.{on-free, out-free}
use Rattle.model_writes.specs.Machine.{View}
use Rattle.step_pending.proofs.Hearing.{sound-heard}
use Rattle.step_pending.proofs.Replied.{sound-acked, sound-returned, sound-refused}
use Rattle.core_counts.proofs.coarse.Led.{Led, Asked, led-after, goes-led}

both-true : (a b : Bool) → (a && b) ≡ true → a ≡ true
both-true true b is = refl
both-true false b is = absurd cc

-- J: what else may be so, where the step goes another way than this operation's; W: the call is made again, or J. N: of the save as it takes what came.
module _ (setup : Setup) (held : Held Purpose) (H : View → Type 0) (wsize : ℕ) (sent turn : Turn) (came : Result Reply Fault) (J : Pending → Type 0) (W : Call → Pending → Type 0)
    (N : Saving → Pending → Type 0) where
  abbrev pub L : Pending → Type 0
  L back = Led setup held H turn.xid back

  abbrev pub Had : Pending → Type 0
  Had back = J back ⊎ Led setup held H turn.xid back

  abbrev pub Asks : Call → Pending → Type 0
  Asks call back = W call back ⊎ Asked setup held H turn.xid wsize call back

  -- what becomes of what is pending where the call was a WRITE that came to something, or to nothing, and where it was a COMMIT
  pub record Fates : Type 0 where
    pub junk : (call : Call) (back : Pending) → J back → W call back
    pub returns : (s : Saving) (back between : Pending) → N s back → saves.is_sending s.phase ≡ true
        → OnFile back between s.file (at_xid (landed by_change.Return) sent.xid (of_file s.file back)) → L between
    pub refuses : (s : Saving) (back between : Pending) (status : Status) (wcc : Wcc) → N s back → saves.is_sending s.phase ≡ true
        → came ≡ Ok (replies.File (kept_replies.WriteFail status wcc))
        → OnFile back between s.file (at_xid (landed (by_change.Refuse status.0)) sent.xid (of_file s.file back)) → L between
    pub acks : (s : Saving) (back between : Pending) (wcc : Wcc) (count committed : ℕ) (verf : Verf) → N s back → saves.is_sending s.phase ≡ true
        → came ≡ Ok (replies.File (kept_replies.Write wcc count committed verf))
        → OnFile back between s.file (at_xid (landed_part (acked_by committed verf) count) sent.xid (of_file s.file back)) → L between
    pub renews : (s : Saving) (back after : Pending) → N s back → saves.is_sending s.phase ≡ true → saves.told_busy (saves.told_of sent.xid s.file back came) ≡ true
        → OnFile back after s.file (with_xid sent.xid turn.xid (of_file s.file back)) → W (saves.write_of s.file (saves.answered sent.xid s.file back)) after
    pub decides : (s : Saving) (back between : Pending) (wcc : Wcc) (verf : Verf) → N s back → saves.is_sending s.phase ≡ false
        → came ≡ Ok (replies.File (kept_replies.Commit wcc verf)) → OnFile back between s.file (decided s.upto verf (of_file s.file back)) → L between

  pub led-had : (next : Step) (back : Pending) → After L (Asked setup held H turn.xid wsize) next back → After Had Asks next back
  led-had (nexts.Send call) back a = inr a
  led-had nexts.Wait back a = inr a
  led-had (nexts.Done answer) back a = inr a

  pub junk-had : ((call : Call) (back : Pending) → J back → W call back) → (next : Step) (back : Pending) → J back → After Had Asks next back
  junk-had junk (nexts.Send call) back j = inl (junk call back j)
  junk-had junk nexts.Wait back j = inl j
  junk-had junk (nexts.Done answer) back j = inl j

  pub had-after : ((call : Call) (back : Pending) → J back → W call back) → (next : Step) (back : Pending) → IsUnused turn.xid back → Had back → After Had Asks next back
  had-after junk next back free (inl j) = junk-had junk next back j
  had-after junk next back free (inr l) = led-had next back (led-after setup held H turn.xid wsize next back free l)

  had-same : ((call : Call) (back : Pending) → J back → W call back) → (next : _) (old after : Pending) → after ≡ old → IsUnused turn.xid old → Had old
      → After Had Asks (syncs.sync_next next) after
  had-same junk next old after is free l = subst (After Had Asks (syncs.sync_next next)) (sym is) (had-after junk (syncs.sync_next next) old free l)

  module _ (f : Fates) (s : Saving) (back : Pending) (n : N s back) (sound : EachSound back) (free : IsUnused turn.xid back) where
    -- what is left where it lands
    abbrev Lands : Pending → Type 0
    Lands between = L between × EachSound between

    module _ (sends : saves.is_sending s.phase ≡ true) (between : Pending) where
      returned : OnFile back between s.file (at_xid (landed by_change.Return) sent.xid (of_file s.file back)) → Lands between
      returned on = (f.returns s back between n sends on, sound-returned back between s.file sent.xid sound on)

      wrote-led : (how size : ℕ) (wcc : Wcc) (count committed : ℕ) (verf : Verf) (refusal : Option Fault) → came ≡ Ok (replies.File (kept_replies.Write wcc count committed verf))
          → saves.Lands sent.xid s.file (write_told how size (Ok (replies.File (kept_replies.Write wcc count committed verf)))) back between refusal → Lands between
      wrote-led how size wcc count committed verf None is l = by (nat_lt committed how || nat_lt 2 committed) refl
        where
          done : (b : Bool) → (nat_lt committed how || nat_lt 2 committed) ≡ false → ((count == 0) || nat_lt size count) ≡ b → Lands between
          done true g e =
              let on : (None ≡ Some (faults.Bad 4)) × OnFile back between s.file (at_xid (landed by_change.Return) sent.xid (of_file s.file back)) = (rw (g, e) at l) in
              returned on.1
          done false g e =
              let on : OnFile back between s.file (at_xid (landed_part (acked_by committed verf) count) sent.xid (of_file s.file back)) = (rw (g, e) at l) in
              (f.acks s back between wcc count committed verf n sends is on, sound-acked back between s.file sent.xid count committed verf sound on)

          by : (b : Bool) → (nat_lt committed how || nat_lt 2 committed) ≡ b → Lands between
          by true e =
              let on : (None ≡ Some (faults.Bad 3)) × OnFile back between s.file (at_xid (landed by_change.Return) sent.xid (of_file s.file back)) = (rw e at l) in
              returned on.1
          by false e = done ((count == 0) || nat_lt size count) e refl
      wrote-led how size wcc count committed verf (Some fault) is l = by (nat_lt committed how || nat_lt 2 committed) refl
        where
          done : (b : Bool) → (nat_lt committed how || nat_lt 2 committed) ≡ false → ((count == 0) || nat_lt size count) ≡ b → Lands between
          done true g e =
              let on : (Some fault ≡ Some (faults.Bad 4)) × OnFile back between s.file (at_xid (landed by_change.Return) sent.xid (of_file s.file back)) = (rw (g, e) at l) in
              returned on.1
          done false g e =
              let on : (fault ≡ faults.Memory) × OnFile back between s.file (at_xid (landed by_change.Return) sent.xid (of_file s.file back)) = (rw (g, e) at l) in
              returned on.1

          by : (b : Bool) → (nat_lt committed how || nat_lt 2 committed) ≡ b → Lands between
          by true e =
              let on : (Some fault ≡ Some (faults.Bad 3)) × OnFile back between s.file (at_xid (landed by_change.Return) sent.xid (of_file s.file back)) = (rw e at l) in
              returned on.1
          by false e = done ((count == 0) || nat_lt size count) e refl

      lands-led : (how size : ℕ) (what : Result Reply Fault) (refusal : Option Fault) → came ≡ what → saves.Lands sent.xid s.file (write_told how size what) back between refusal → Lands between
      lands-led how size (Err fault) refusal is l = returned l.1
      lands-led how size (Ok (replies.Mount reply)) refusal is l = returned l.1
      lands-led how size (Ok (replies.Dir reply)) refusal is l = returned l.1
      lands-led how size (Ok (replies.File (kept_replies.Write wcc count committed verf))) refusal is l = wrote-led how size wcc count committed verf refusal is l
      lands-led how size (Ok (replies.File (kept_replies.WriteFail status wcc))) refusal is l =
          (f.refuses s back between status wcc n sends is l.1, sound-refused back between s.file sent.xid status.0 sound l.1)
      lands-led how size (Ok (replies.File reply)) refusal is l = returned l.1

    write-led : (t : _) (next : _) (new : Saving) (after : Pending) → ((between : Pending) (refusal : Option Fault) → saves.Lands sent.xid s.file t back between refusal → Lands between)
        → saves.TakesWrite wsize sent.xid turn.xid turn.room t (saves.less_waiting s) back next new after → After Had Asks (syncs.sync_next next) after
    write-led t next new after lands g =
        let l : Lands g.between = lands g.between g.refusal g.lands in
        led-had (syncs.sync_next next) after
        (goes-led setup held H turn.xid wsize turn.room g.counts (saves.refused_by g.refusal (saves.less_waiting s)) g.between next new after l.1
        (out-free turn.xid sent.xid s.file back g.between (lands-out sent.xid s.file t back g.between g.refusal g.lands) free) g.goes l.0)

    own-lands : saves.is_sending s.phase ≡ true → (between : Pending) (refusal : Option Fault) → saves.Lands sent.xid s.file (saves.told_of sent.xid s.file back came) back between refusal
        → Lands between
    own-lands sends between refusal l = lands-led sends between _ _ came refusal refl l

    repeats-led : (again : Bool) (next : _) (new : Saving) (after : Pending) → saves.is_sending s.phase ≡ true → saves.told_busy (saves.told_of sent.xid s.file back came) ≡ true
        → saves.RepeatsWrite again wsize sent turn (saves.told_of sent.xid s.file back came) s back next new after → After Had Asks (syncs.sync_next next) after
    repeats-led true next new after sends busy r =
        subst (λ k. After Had Asks (syncs.sync_next k) after) (sym r.0.gives_next) (inl (f.renews s back after n sends busy r.1))
    repeats-led false next new after sends busy r = write-led (saves.told_of sent.xid s.file back came) next new after (own-lands sends) r

    told-led : (busy : Bool) (repeats : List Repeat) (next : _) (new : Saving) (after : Pending) (later : List Repeat) → saves.is_sending s.phase ≡ true
        → saves.may_again (saves.told_busy (saves.told_of sent.xid s.file back came)) s ≡ busy
        → saves.TakesToldIf busy wsize sent turn (saves.told_of sent.xid s.file back came) repeats s back next new after later → After Had Asks (syncs.sync_next next) after
    told-led true repeats next new after later sends is (inl g) =
        repeats-led (goes_again true sent turn repeats) next new after sends (both-true _ _ is) g.0
    told-led true repeats next new after later sends is (inr g) =
        write-led _ next new after (λ between refusal l. returned sends between l.1) g.0
    told-led false repeats next new after later sends is g = write-led (saves.told_of sent.xid s.file back came) next new after (own-lands sends) g.0

    decides-led : (verdict : Verdict) (between : Pending) (next : _) (new : Saving) (after : Pending) → EachSound between → IsUnused turn.xid between
        → saves.Decides verdict wsize turn.xid turn.room (saves.less_waiting s) between next new after → L between → After Had Asks (syncs.sync_next next) after
    decides-led AllStable between next new after sound_ free_ d l =
        had-same f.junk next between after d.1 free_ (inr l)
    decides-led (SendAgain count) between next new after sound_ free_ d l =
        led-had (syncs.sync_next next) after
        (goes-led setup held H turn.xid wsize turn.room false (record (saves.less_waiting s) { phase = Resending }) between next new after sound_ free_ d l)

    commit-led : (t : Result Verf Fault) (next : _) (new : Saving) (after : Pending) → saves.is_sending s.phase ≡ false → commit_told came ≡ t
        → saves.TakesCommit wsize turn.xid turn.room t (saves.less_waiting s) back next new after → Had back → After Had Asks (syncs.sync_next next) after
    commit-led (Err fault) next new after idle is g p = had-same f.junk next back after g.1 free p
    commit-led (Ok verf) next new after idle is g p =
        let k : CameCommitted verf came = told-commit came verf is in
        decides-led (verdict_of (lost verf s.upto (of_file s.file back).segments)) g.between next new after
        (sound-heard back g.between s.file s.upto verf sound g.decides)
        (on-free turn.xid back g.between s.file (decided s.upto verf (of_file s.file back)) g.decides (λ none. none) free) g.goes
        (f.decides s back g.between k.wcc verf n idle k.is g.decides)

    first-led : (again : Bool) (next : _) (new : Saving) (after : Pending) → saves.is_sending s.phase ≡ false
        → saves.TakesFirst again wsize turn (commit_told came) s back next new after → Had back → After Had Asks (syncs.sync_next next) after
    first-led true next new after idle g p = had-same f.junk next back after g.1 free p
    first-led false next new after idle g p = commit-led (commit_told came) next new after idle refl g p

    in-led : (phase : Phase) (repeats : List Repeat) (next : _) (new : Saving) (after : Pending) (later : List Repeat) → s.phase ≡ phase
        → saves.TakesIn phase wsize sent turn came repeats s back next new after later → Had back → After Had Asks (syncs.sync_next next) after
    in-led Sending repeats next new after later at g p =
        told-led (saves.may_again (saves.told_busy (saves.told_of sent.xid s.file back came)) s) repeats next new after later (ap saves.is_sending at) refl g
    in-led Resending repeats next new after later at g p =
        told-led (saves.may_again (saves.told_busy (saves.told_of sent.xid s.file back came)) s) repeats next new after later (ap saves.is_sending at) refl g
    in-led Committing repeats next new after later at g p =
        first-led (saves.commit_again (commit_told came) sent turn repeats s) next new after (ap saves.is_sending at) g.0 p
    in-led CommittingAgain repeats next new after later at g p = had-same f.junk next back after g.1 free p

    pub takes-led : (repeats : List Repeat) (next : _) (new : Saving) (after : Pending) (later : List Repeat)
        → saves.Takes wsize sent turn came repeats s back next new after later → Had back → After Had Asks (syncs.sync_next next) after
    takes-led repeats next new after later g p = in-led s.phase repeats next new after later refl g p
