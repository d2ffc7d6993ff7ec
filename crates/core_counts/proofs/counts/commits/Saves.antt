-- A save asks for two COMMITs at most: after what was pending was sent, and after what the first one showed to be lost.
use Rattle.core_counts.proofs.Prelude.{◌≡◌, ◌≤◌, inl, inr, ◌+◌, ◌==◌, ◌&&◌, ℕ, Bool, true, false, List, [], ◌∷◌, Option, Some, None, Result, Ok, Err, refl, sym, ap, subst, ◌∙◌, arith, nat_lt, Verf, Verdict, AllStable, SendAgain, verdict_of, lost, chosen, piece_of, Pending, of_file, Segments, IsCommitOf, commit, Fault, Memory, Answer, Call, Reply, goes_again, ended, repeated, Step, Repeat, Turn, commit_told, Sending, Committing, Resending, CommittingAgain, Saving}
use Rattle.client_shelf.specs.Repeats.{answered}
use Rattle.write_back.specs.Pieces.{Sent}
use Rattle.world_model.specs.declared.answer.Answer.TheVariants as answers
use Rattle.world_model.specs.declared.answer.Value.TheVariants as values
use Rattle.client_shelf.specs.declared.step.Step.TheVariants as nexts
use Rattle.file_ops.specs.Saves as saves
use Rattle.file_ops.specs.Syncs as syncs
use Rattle.file_ops.specs.declared.saving.Phase.{Phase}

-- how many COMMITs may come
abbrev pub left_in : Phase → ℕ
left_in Sending = 2
left_in Committing = 1
left_in Resending = 1
left_in CommittingAgain = 0

abbrev pub left_to : Saving → ℕ
left_to s = left_in s.phase

module _ (f : List ℕ) where
  -- a step leaves so many, and a COMMIT takes one
  pub record Spent (had : ℕ) (next : Step) (new : Saving) : Type 0 where
    pub less : left_to new ≤ had
    pub asks : (call : Call) → next ≡ nexts.Send call → IsCommitOf f call → left_to new + 1 ≤ had

  led : (had : ℕ) (to : _) (s : Saving) (gives : _) (new : Saving) → saves.Leads to s gives new → Spent had (syncs.sync_next to) s → Spent had (syncs.sync_next gives) new
  led had to s gives new l k = subst (λ (n : Step). Spent had n new) (ap syncs.sync_next (sym l.gives_next)) (subst (Spent had (syncs.sync_next to)) (sym l.keeps) k)

  wait-spent : (had : ℕ) (s : Saving) → left_to s ≤ had → Spent had nexts.Wait s
  wait-spent had s few = record { less = few; asks = λ call sends is. absurd (cc) }

  done-spent : (had : ℕ) (answer : Answer) (s : Saving) → left_to s ≤ had → Spent had (nexts.Done answer) s
  done-spent had answer s few = record { less = few; asks = λ call sends is. absurd (cc) }

  refused-spent : (had waiting : ℕ) (fault : Fault) (s : Saving) → left_to s ≤ had → Spent had (syncs.sync_next (saves.refused_next waiting fault)) s
  refused-spent had waiting fault s few = by (waiting == 0) refl
    where
      by : (b : Bool) → (waiting == 0) ≡ b → Spent had (syncs.sync_next (saves.refused_next waiting fault)) s
      by true is = rw is (done-spent had (answers.Refused fault) s few)
      by false is = rw is (wait-spent had s few)

  same-call : (a b : Call) → nexts.Send a ≡ nexts.Send b → a ≡ b
  same-call a b e = cc

  write-not : (R : Type 0) (file : List ℕ) (piece : Sent) (call : Call) → saves.write_of file piece ≡ call → IsCommitOf f call → R
  write-not R file piece call is (commit offset count e) = absurd (let no_way = is ∙ e in cc)

  write-spent : (had : ℕ) (file : List ℕ) (piece : Sent) (s : Saving) → left_to s ≤ had → Spent had (nexts.Send (saves.write_of file piece)) s
  write-spent had file piece s few =
      record { less = few; asks = λ call sends is. write-not (left_to s + 1 ≤ had) file piece call (same-call (saves.write_of file piece) call sends) is }

  commit-left : (p : Phase) → saves.is_sending p ≡ true → left_in (saves.commit_phase p) + 1 ≤ left_in p
  commit-left Sending is = omega arith
  commit-left Resending is = omega arith
  commit-left Committing is = absurd (cc)
  commit-left CommittingAgain is = absurd (cc)

  sent-spent : (by_reply : Bool) (s : Saving) (gives : _) (new : Saving) → saves.is_sending s.phase ≡ true → saves.Leads (saves.next_sent by_reply s) (saves.saving_sent by_reply s) gives new
      → Spent (left_to s) (syncs.sync_next gives) new
  sent-spent by_reply s gives new sending l = by (nat_lt 0 s.waiting) refl (saves.is_again s.phase && by_reply) refl
    where
      by : (a : Bool) → nat_lt 0 s.waiting ≡ a → (b : Bool) → (saves.is_again s.phase && by_reply) ≡ b → Spent (left_to s) (syncs.sync_next gives) new
      by true ea b eb =
          led (left_to s) (saves.next_sent by_reply s) (saves.saving_sent by_reply s) gives new l (rw ea (wait-spent (left_to s) s (omega arith)))
      by false ea true eb =
          led (left_to s) (saves.next_sent by_reply s) (saves.saving_sent by_reply s) gives new l (rw (ea, eb) (done-spent (left_to s) (answers.Done values.Nothing) s (omega arith)))
      by false ea false eb =
          led (left_to s) (saves.next_sent by_reply s) (saves.saving_sent by_reply s) gives new l (rw (ea, eb) (let step = commit-left s.phase sending in record {
            less = omega (arith, step);
            asks = λ call sends is. omega (arith, step);
          }))

  run-spent : (xid : ℕ) (by_reply : Bool) (run : Segments) (s : Saving) (back : Pending) (gives : _) (new : Saving) (after : Pending) → saves.is_sending s.phase ≡ true
      → saves.SendsRun xid by_reply run s back gives new after → Spent (left_to s) (syncs.sync_next gives) new
  run-spent xid by_reply [] s back gives new after sending k = sent-spent by_reply s gives new sending k.0
  run-spent xid by_reply (e ∷ es) s back gives new after sending k =
      led (left_to s) _ (record s { waiting = s.waiting + 1 }) gives new k.0 (write-spent (left_to s) s.file (piece_of xid e (e ∷ es)) (record s { waiting = s.waiting + 1 }) (omega arith))

  and-parts : (a b c : Bool) → (a && b && c) ≡ true → b ≡ true
  and-parts true true c is = refl
  and-parts true false c is = absurd (cc)
  and-parts false b c is = absurd (cc)

  pub goes-spent : (wsize xid : ℕ) (room by_reply : Bool) (s : Saving) (back : Pending) (gives : _) (new : Saving) (after : Pending) → saves.Goes wsize xid room by_reply s back gives new after
      → Spent (left_to s) (syncs.sync_next gives) new
  goes-spent wsize xid room by_reply s back gives new after g = over s.refusal g
    where
      sends : (b : Bool) → saves.may_send room s ≡ b → saves.SendsIf b xid by_reply (chosen s.upto wsize (of_file s.file back)) s back gives new after → Spent (left_to s) (syncs.sync_next gives) new
      sends true may (inl k) =
          run-spent xid by_reply (chosen s.upto wsize (of_file s.file back)) s back gives new after (and-parts room (saves.is_sending s.phase) (nat_lt s.waiting 32) may) k
      sends true may (inr k) = led (left_to s) (saves.refused_next s.waiting Memory) s gives new k.0 (refused-spent (left_to s) s.waiting Memory s (omega arith))
      sends false may k = led (left_to s) _ s gives new k.0 (wait-spent (left_to s) s (omega arith))

      over : (o : Option Fault) → saves.GoesOver o wsize xid room by_reply s back gives new after → Spent (left_to s) (syncs.sync_next gives) new
      over (Some fault) k = led (left_to s) (saves.refused_next s.waiting fault) s gives new k.0 (refused-spent (left_to s) s.waiting fault s (omega arith))
      over None k = sends (saves.may_send room s) refl k

  -- ---- what came

  pub data Took (sent turn : Turn) (old later : List Repeat) (s : Saving) (next : Step) (new : Saving) : Type 0 where
    again : later ≡ repeated sent.xid turn.xid old → left_to new ≤ left_to s → Took sent turn old later s next new
    on : later ≡ ended sent.xid old → Spent (left_to s) next new → Took sent turn old later s next new

  spent-as : (few many : ℕ) (next : Step) (new : Saving) → few ≤ many → Spent few next new → Spent many next new
  spent-as few many next new le k = record {
    less = let l = k.less in omega (arith, l, le);
    asks = λ call sends is. let l = k.asks call sends is in omega (arith, l, le);
  }

  phase-refused : (refusal : Option Fault) (s : Saving) → left_to (saves.refused_by refusal s) ≡ left_to s
  phase-refused None s = refl
  phase-refused (Some fault) s = refl

  write-took : (wsize asked xid : ℕ) (room : Bool) (told : _) (s : Saving) (back : Pending) (gives : _) (new : Saving) (after : Pending)
      → saves.TakesWrite wsize asked xid room told s back gives new after → Spent (left_to s) (syncs.sync_next gives) new
  write-took wsize asked xid room told s back gives new after t =
      let same = phase-refused t.refusal s in
      spent-as (left_to (saves.refused_by t.refusal s)) (left_to s) (syncs.sync_next gives) new (omega (arith, same))
      (goes-spent wsize xid room t.counts (saves.refused_by t.refusal s) t.between gives new after t.goes)

  told-took : (busy : Bool) (wsize : ℕ) (sent turn : Turn) (told : _) (repeats : List Repeat) (s : Saving) (back : Pending) (gives : _) (new : Saving) (after : Pending) (later : List Repeat)
      → saves.TakesToldIf busy wsize sent turn told repeats s back gives new after later → Took sent turn repeats later s (syncs.sync_next gives) new
  told-took true wsize sent turn told repeats s back gives new after later (inl k) = by (goes_again true sent turn repeats) refl k.0
    where
      by : (b : Bool) → goes_again true sent turn repeats ≡ b → saves.RepeatsWrite b wsize sent turn told s back gives new after → Took sent turn repeats later s (syncs.sync_next gives) new
      by true goes r = again (k.1 ∙ ap (λ (b : Bool). answered b sent.xid turn.xid repeats) goes) (let same = ap left_to r.0.keeps in omega (arith, same))
      by false goes r = on (k.1 ∙ ap (λ (b : Bool). answered b sent.xid turn.xid repeats) goes) (write-took wsize sent.xid turn.xid turn.room told (saves.less_waiting s) back gives new after r)
  told-took true wsize sent turn told repeats s back gives new after later (inr k) = on k.1 (write-took wsize sent.xid turn.xid turn.room _ (saves.less_waiting s) back gives new after k.0)
  told-took false wsize sent turn told repeats s back gives new after later k = on k.1 (write-took wsize sent.xid turn.xid turn.room told (saves.less_waiting s) back gives new after k.0)

  decides-spent : (v : Verdict) (wsize xid : ℕ) (room : Bool) (s : Saving) (back : Pending) (gives : _) (new : Saving) (after : Pending) → left_to s ≡ 1
      → saves.Decides v wsize xid room s back gives new after → Spent 1 (syncs.sync_next gives) new
  decides-spent AllStable wsize xid room s back gives new after one k = led 1 _ s gives new k.0 (done-spent 1 (answers.Done values.Nothing) s (omega (arith, one)))
  decides-spent (SendAgain count) wsize xid room s back gives new after one k = goes-spent wsize xid room false (record s { phase = Resending }) back gives new after k

  commit-spent : (told : Result Verf Fault) (wsize xid : ℕ) (room : Bool) (s : Saving) (back : Pending) (gives : _) (new : Saving) (after : Pending) → left_to s ≡ 1
      → saves.TakesCommit wsize xid room told s back gives new after → Spent 1 (syncs.sync_next gives) new
  commit-spent (Ok verf) wsize xid room s back gives new after one k = decides-spent (verdict_of (lost verf s.upto (of_file s.file back).segments)) wsize xid room s k.between gives new after one k.goes
  commit-spent (Err fault) wsize xid room s back gives new after one k = led 1 _ s gives new k.0 (done-spent 1 (answers.Refused fault) s (omega (arith, one)))

  last-spent : (told : Result Verf Fault) (gives : _) (s new : Saving) → saves.Leads (saves.ended_by told) s gives new → Spent (left_to s) (syncs.sync_next gives) new
  last-spent (Ok verf) gives s new l = led (left_to s) _ s gives new l (done-spent (left_to s) (answers.Done values.Nothing) s (omega arith))
  last-spent (Err fault) gives s new l = led (left_to s) _ s gives new l (done-spent (left_to s) (answers.Refused fault) s (omega arith))

  takes-in : (p : Phase) (wsize : ℕ) (sent turn : Turn) (came : Result Reply Fault) (repeats : List Repeat) (s : Saving) (back : Pending) (gives : _) (new : Saving) (after : Pending) (later : List Repeat)
      → s.phase ≡ p → saves.TakesIn p wsize sent turn came repeats s back gives new after later → Took sent turn repeats later s (syncs.sync_next gives) new
  takes-in Sending wsize sent turn came repeats s back gives new after later is k =
      told-took (saves.may_again (saves.told_busy (saves.told_of sent.xid s.file back came)) s) wsize sent turn (saves.told_of sent.xid s.file back came) repeats s back gives new after later k
  takes-in Resending wsize sent turn came repeats s back gives new after later is k =
      told-took (saves.may_again (saves.told_busy (saves.told_of sent.xid s.file back came)) s) wsize sent turn (saves.told_of sent.xid s.file back came) repeats s back gives new after later k
  takes-in Committing wsize sent turn came repeats s back gives new after later is k = by (saves.commit_again (commit_told came) sent turn repeats s) refl k.0
    where
      by : (b : Bool) → saves.commit_again (commit_told came) sent turn repeats s ≡ b → saves.TakesFirst b wsize turn (commit_told came) s back gives new after
          → Took sent turn repeats later s (syncs.sync_next gives) new
      by true goes t = again (k.1 ∙ ap (λ (b : Bool). answered b sent.xid turn.xid repeats) goes) (let same = ap left_to t.0.keeps in omega (arith, same))
      by false goes t =
          let one : left_to s ≡ 1 = ap left_in is in
          on (k.1 ∙ ap (λ (b : Bool). answered b sent.xid turn.xid repeats) goes)
          (spent-as 1 (left_to s) (syncs.sync_next gives) new (omega (arith, one)) (commit-spent (commit_told came) wsize turn.xid turn.room (saves.less_waiting s) back gives new after one t))
  takes-in CommittingAgain wsize sent turn came repeats s back gives new after later is k = by (saves.commit_again (commit_told came) sent turn repeats s) refl
    where
      by : (b : Bool) → saves.commit_again (commit_told came) sent turn repeats s ≡ b → Took sent turn repeats later s (syncs.sync_next gives) new
      by true goes =
          let kept = k.0.keeps in
          let same_as : saves.last_saving (saves.commit_again (commit_told came) sent turn repeats s) s ≡ saves.put_off_more s = ap (λ (b : Bool). saves.last_saving b s) goes in
          again (k.2 ∙ ap (λ (b : Bool). answered b sent.xid turn.xid repeats) goes) (let same = ap left_to (kept ∙ same_as) in omega (arith, same))
      by false goes =
          on (k.2 ∙ ap (λ (b : Bool). answered b sent.xid turn.xid repeats) goes)
          (last-spent (commit_told came) gives (saves.less_waiting s) new
          (subst (λ (b : Bool). saves.Leads (saves.last_next b (commit_told came) s) (saves.last_saving b s) gives new) goes k.0))

  pub takes-took : (wsize : ℕ) (sent turn : Turn) (came : Result Reply Fault) (repeats : List Repeat) (s : Saving) (back : Pending) (gives : _) (new : Saving) (after : Pending) (later : List Repeat)
      → saves.Takes wsize sent turn came repeats s back gives new after later → Took sent turn repeats later s (syncs.sync_next gives) new
  takes-took wsize sent turn came repeats s back gives new after later k = takes-in s.phase wsize sent turn came repeats s back gives new after later refl k
