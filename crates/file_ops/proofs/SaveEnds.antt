-- A save that ends well leaves fewer writes pending, and nothing in flight under a new xid.
use Rattle.std.proofs.Common.{◌≡◌, ◌==◌, ℕ, Bool, true, false, List, [], ◌∷◌, Option, Some, None, Result, Ok, Err, refl, sym, ◌∙◌, inl, inr, subst}
use Rattle.nfs_types.specs.declared.verf.Verf.{Verf}
use Rattle.world_model.specs.declared.answer.Fault.{Fault}
use Rattle.world_model.specs.declared.answer.Fault.TheVariants as faults
use Rattle.world_model.specs.declared.message.Reply.{Reply}
use Rattle.client_shelf.specs.declared.repeats.Repeat.{Repeat}
use Rattle.client_shelf.specs.declared.turn.Turn.{Turn}
use Rattle.client_shelf.specs.Busy.{goes_again}
use Rattle.write_back.specs.declared.change.Change.TheVariants as by_change
use Rattle.write_back.specs.Segments.{Segments}
use Rattle.write_back.specs.Changes.{lost}
use Rattle.write_back.specs.Choice.{chosen, piece_of}
use Rattle.write_back.specs.Landing.{acked_by}
use Rattle.write_back.specs.Files.{Pending, of_file}
use Rattle.commit_verf.specs.declared.commit.Verdict.{Verdict}
use Rattle.commit_verf.specs.declared.commit.Verdict.TheVariants.{AllStable, SendAgain}
use Rattle.commit_verf.specs.Decisions.{verdict_of}
use Rattle.file_ops.specs.declared.judging.WriteTold.{WriteTold}
use Rattle.file_ops.specs.declared.judging.WriteTold.TheVariants.{Done, Refused, Fails}
use Rattle.file_ops.specs.declared.saving.Saving.{Saving}
use Rattle.file_ops.specs.declared.saving.Phase.{Phase}
use Rattle.file_ops.specs.declared.saving.Phase.TheVariants.{Sending, Committing, Resending, CommittingAgain}
use Rattle.file_ops.specs.declared.saving.SavingStep.{SavingStep}
use Rattle.file_ops.specs.declared.saving.SavingStep.TheVariants.{Send, Wait, Ended}
use Rattle.file_ops.specs.Judging.{commit_told}
use Rattle.file_ops.specs.Saves.{GoesOver, SendsIf, Sends, Goes, may_send, refused_next, write_of, Lands, TakesWrite, Decides, TakesCommit, TakesIn, Takes, TakesTold, TakesToldIf, TakesFirst, RepeatsWrite, may_again, told_busy, commit_again, answered, less_waiting, told_of, refused_by}
use Rattle.file_ops.proofs.Fewer.{AreFewer, same-all, on-landed, on-part, on-decided}

-- out of memory and waiting are no good end
pub refused-not : (waiting : ℕ) (fault : Fault) (next : SavingStep) → next ≡ refused_next waiting fault → next ≡ Ended (Ok tt) → ⊥
refused-not waiting fault next is ended = by (waiting == 0) refl
  where
    by : (b : Bool) → (waiting == 0) ≡ b → ⊥
    by true h = let is_it : next ≡ Ended (Err fault) = (rw h at is) in let no-way : Ended (Err fault) ≡ Ended (Ok tt) = sym is_it ∙ ended in absurd cc
    by false h = let is_it : next ≡ Wait = (rw h at is) in let no-way : Wait ≡ Ended (Ok tt) = sym is_it ∙ ended in absurd cc

sends-ended : (xid : ℕ) (by_reply : Bool) (run : Segments) (s : Saving) (back : Pending) (next : SavingStep) (new : Saving) (after : Pending) → Sends xid by_reply run s back next new after → next ≡ Ended (Ok tt) → after ≡ back
sends-ended xid by_reply [] s back next new after (inl g) ended = g.1
sends-ended xid by_reply (e ∷ es) s back next new after (inl g) ended = let no-way : Send (write_of s.file (piece_of xid e (e ∷ es))) ≡ Ended (Ok tt) = sym g.0.gives_next ∙ ended in absurd cc
sends-ended xid by_reply run s back next new after (inr g) ended = g.1

pub goes-ended : (wsize xid : ℕ) (room by_reply : Bool) (s : Saving) (back : Pending) (next : SavingStep) (new : Saving) (after : Pending) → Goes wsize xid room by_reply s back next new after → next ≡ Ended (Ok tt) → after ≡ back
goes-ended wsize xid room by_reply s back next new after goes ended = over s.refusal goes
  where
    may : (b : Bool) → SendsIf b xid by_reply (chosen s.upto wsize (of_file s.file back)) s back next new after → after ≡ back
    may true g = sends-ended xid by_reply (chosen s.upto wsize (of_file s.file back)) s back next new after g ended
    may false g = g.1

    over : (r : Option Fault) → GoesOver r wsize xid room by_reply s back next new after → after ≡ back
    over (Some fault) g = g.1
    over None g = may (may_send room s) g

pub lands-fewer : (asked : ℕ) (file : List ℕ) (told : WriteTold) (old new : Pending) (refusal : Option Fault) → Lands asked file told old new refusal → AreFewer old new
lands-fewer asked file (Done wcc count committed verf) old new None l = on-part (acked_by committed verf) count asked old new file l
lands-fewer asked file (Done wcc count committed verf) old new (Some fault) l = on-landed by_change.Return asked old new file l.1
lands-fewer asked file (Refused status) old new refusal l = on-landed (by_change.Refuse status) asked old new file l.1
lands-fewer asked file (Fails fault) old new refusal l = on-landed by_change.Return asked old new file l.1

then-same : (old mid new : Pending) → AreFewer old mid → new ≡ mid → AreFewer old new
then-same old mid new less is = subst (λ p. AreFewer old p) (sym is) less

write-fewer : (wsize asked xid : ℕ) (room : Bool) (told : WriteTold) (s : Saving) (back : Pending) (next : SavingStep) (new : Saving) (after : Pending) → TakesWrite wsize asked xid room told s back next new after → next ≡ Ended (Ok tt) → AreFewer back after
write-fewer wsize asked xid room told s back next new after t ended =
    then-same back t.between after (lands-fewer asked s.file told back t.between t.refusal t.lands) (goes-ended wsize xid room t.counts (refused_by t.refusal s) t.between next new after t.goes ended)

decides-same : (verdict : Verdict) (wsize xid : ℕ) (room : Bool) (s : Saving) (back : Pending) (next : SavingStep) (new : Saving) (after : Pending) → Decides verdict wsize xid room s back next new after → next ≡ Ended (Ok tt) → after ≡ back
decides-same AllStable wsize xid room s back next new after d ended = d.1
decides-same (SendAgain count) wsize xid room s back next new after d ended = goes-ended wsize xid room false (record s { phase = Resending }) back next new after d ended

commit-fewer : (told : Result Verf Fault) (wsize xid : ℕ) (room : Bool) (s : Saving) (back : Pending) (next : SavingStep) (new : Saving) (after : Pending) → TakesCommit wsize xid room told s back next new after → next ≡ Ended (Ok tt) → AreFewer back after
commit-fewer (Err fault) wsize xid room s back next new after t ended = same-all back after t.1
commit-fewer (Ok verf) wsize xid room s back next new after t ended =
    then-same back t.between after (on-decided s.upto verf back t.between s.file t.decides) (decides-same (verdict_of (lost verf s.upto (of_file s.file back).segments)) wsize xid room s t.between next new after t.goes ended)

-- a WRITE's reply that leads to the same call again ends nothing
repeats-fewer : (again : Bool) (wsize : ℕ) (sent turn : Turn) (told : WriteTold) (s : Saving) (back : Pending) (next : SavingStep) (new : Saving) (after : Pending)
    → RepeatsWrite again wsize sent turn told s back next new after → next ≡ Ended (Ok tt) → AreFewer back after
repeats-fewer true wsize sent turn told s back next new after r ended = let no-way : Send (write_of s.file (answered sent.xid s.file back)) ≡ Ended (Ok tt) = sym r.0.gives_next ∙ ended in absurd cc
repeats-fewer false wsize sent turn told s back next new after r ended = write-fewer wsize sent.xid turn.xid turn.room told (less_waiting s) back next new after r ended

told-fewer : (wsize : ℕ) (sent turn : Turn) (told : WriteTold) (repeats : List Repeat) (s : Saving) (back : Pending) (next : SavingStep) (new : Saving) (after : Pending) (later : List Repeat)
    → TakesTold wsize sent turn told repeats s back next new after later → next ≡ Ended (Ok tt) → AreFewer back after
told-fewer wsize sent turn told repeats s back next new after later t ended = by (may_again (told_busy told) s) t
  where
    by : (b : Bool) → TakesToldIf b wsize sent turn told repeats s back next new after later → AreFewer back after
    by true (inl g) = repeats-fewer (goes_again true sent turn repeats) wsize sent turn told s back next new after g.0 ended
    by true (inr g) = write-fewer wsize sent.xid turn.xid turn.room (Fails faults.Memory) (less_waiting s) back next new after g.0 ended
    by false g = write-fewer wsize sent.xid turn.xid turn.room told (less_waiting s) back next new after g.0 ended

first-fewer : (again : Bool) (told : Result Verf Fault) (wsize : ℕ) (turn : Turn) (s : Saving) (back : Pending) (next : SavingStep) (new : Saving) (after : Pending)
    → TakesFirst again wsize turn told s back next new after → next ≡ Ended (Ok tt) → AreFewer back after
first-fewer true told wsize turn s back next new after t ended = same-all back after t.1
first-fewer false told wsize turn s back next new after t ended = commit-fewer told wsize turn.xid turn.room (less_waiting s) back next new after t ended

pub takes-fewer : (wsize : ℕ) (sent turn : Turn) (came : Result Reply Fault) (repeats : List Repeat) (s : Saving) (back : Pending) (next : SavingStep) (new : Saving) (after : Pending) (later : List Repeat)
    → Takes wsize sent turn came repeats s back next new after later → next ≡ Ended (Ok tt) → AreFewer back after
takes-fewer wsize sent turn came repeats s back next new after later takes ended = by s.phase takes
  where
    by : (p : Phase) → TakesIn p wsize sent turn came repeats s back next new after later → AreFewer back after
    by Sending t = told-fewer wsize sent turn (told_of sent.xid s.file back came) repeats s back next new after later t ended
    by Resending t = told-fewer wsize sent turn (told_of sent.xid s.file back came) repeats s back next new after later t ended
    by Committing t = first-fewer (commit_again (commit_told came) sent turn repeats s) (commit_told came) wsize turn s back next new after t.0 ended
    by CommittingAgain t = same-all back after t.1
