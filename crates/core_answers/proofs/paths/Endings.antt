-- A save ends well only by a reply.
use Rattle.core_answers.proofs.Prelude.{◌≡◌, inl, inr, ℕ, Bool, true, false, List, [], ◌∷◌, length, Option, Some, None, Err, refl, sym, subst, Answer, Fault, Segments, Pending, of_file, chosen, Step, Repeat, Turn, goes_again, Sending, Committing, Resending, CommittingAgain, Saving, write_told}
use Rattle.std.proofs.Common.{nat_lt}
use Rattle.std.specs.Prelude.{◌==◌, ◌&&◌}
use Rattle.world_model.specs.declared.answer.Answer.TheVariants as answers
use Rattle.world_model.specs.declared.answer.Fault.TheVariants as faults
use Rattle.client_shelf.specs.declared.step.Step.TheVariants as nexts
use Rattle.file_ops.specs.declared.saving.Phase.{Phase}
use Rattle.file_ops.specs.Saves as saves
use Rattle.file_ops.specs.Syncs as syncs
use Rattle.core_facts.proofs.SaveCommits.{WellDone, EndsSo}

-- ---- what holds of a step that ends well

well-map : (C D : Type 0) → (C → D) → (answer : Answer) → WellDone C answer → WellDone D answer
well-map C D f (answers.Done value) w = f w
well-map C D f (answers.Refused fault) w = tt

pub ends-map : (C D : Type 0) → (C → D) → (next : Step) → EndsSo C next → EndsSo D next
ends-map C D f (nexts.Send call) e = tt
ends-map C D f nexts.Wait e = tt
ends-map C D f (nexts.Done answer) e = well-map C D f answer e

well-any : (C : Type 0) → C → (answer : Answer) → WellDone C answer
well-any C c (answers.Done value) = c
well-any C c (answers.Refused fault) = tt

pub ends-any : (C : Type 0) → C → (next : Step) → EndsSo C next
ends-any C c (nexts.Send call) = tt
ends-any C c nexts.Wait = tt
ends-any C c (nexts.Done answer) = well-any C c answer

-- ---- where no reply has just come

leads-not : (to : _) (s : Saving) (gives : _) (new : Saving) → saves.Leads to s gives new → EndsSo ⊥ (syncs.sync_next to) → EndsSo ⊥ (syncs.sync_next gives)
leads-not to s gives new l e = subst (λ n. EndsSo ⊥ (syncs.sync_next n)) (sym l.gives_next) e

refused-not : (waiting : ℕ) (fault : Fault) → EndsSo ⊥ (syncs.sync_next (saves.refused_next waiting fault))
refused-not waiting fault = by (waiting == 0) refl
  where
    by : (b : Bool) → (waiting == 0) ≡ b → EndsSo ⊥ (syncs.sync_next (saves.refused_next waiting fault))
    by true e = rw e tt
    by false e = rw e tt

and-false : (b : Bool) → (b && false) ≡ false
and-false true = refl
and-false false = refl

unsent-not : (s : Saving) → EndsSo ⊥ (syncs.sync_next (saves.next_sent false s))
unsent-not s = by (nat_lt 0 s.waiting) refl
  where
    by : (b : Bool) → nat_lt 0 s.waiting ≡ b → EndsSo ⊥ (syncs.sync_next (saves.next_sent false s))
    by true is = rw is tt
    by false is = rw (is, and-false (saves.is_again s.phase)) tt

run-not : (xid : ℕ) (run : Segments) (s : Saving) (back : Pending) (gives : _) (new : Saving) (after : Pending) → saves.SendsRun xid false run s back gives new after
    → EndsSo ⊥ (syncs.sync_next gives)
run-not xid [] s back gives new after r = leads-not (saves.next_sent false s) (saves.saving_sent false s) gives new r.0 (unsent-not s)
run-not xid (e ∷ es) s back gives new after r = leads-not _ _ gives new r.0 tt

sends-not : (b : Bool) (xid : ℕ) (run : Segments) (s : Saving) (back : Pending) (gives : _) (new : Saving) (after : Pending) → saves.SendsIf b xid false run s back gives new after
    → EndsSo ⊥ (syncs.sync_next gives)
sends-not true xid run s back gives new after (inl r) = run-not xid run s back gives new after r
sends-not true xid run s back gives new after (inr l) = leads-not (saves.refused_next s.waiting faults.Memory) s gives new l.0 (refused-not s.waiting faults.Memory)
sends-not false xid run s back gives new after l = leads-not _ s gives new l.0 tt

over-not : (refusal : Option Fault) (wsize xid : ℕ) (room : Bool) (s : Saving) (back : Pending) (gives : _) (new : Saving) (after : Pending)
    → saves.GoesOver refusal wsize xid room false s back gives new after → EndsSo ⊥ (syncs.sync_next gives)
over-not (Some fault) wsize xid room s back gives new after g = leads-not (saves.refused_next s.waiting fault) s gives new g.0 (refused-not s.waiting fault)
over-not None wsize xid room s back gives new after g = sends-not (saves.may_send room s) xid (chosen s.upto wsize (of_file s.file back)) s back gives new after g

pub goes-not : (wsize xid : ℕ) (room : Bool) (s : Saving) (back : Pending) (gives : _) (new : Saving) (after : Pending) → saves.Goes wsize xid room false s back gives new after
    → EndsSo ⊥ (syncs.sync_next gives)
goes-not wsize xid room s back gives new after g = over-not s.refusal wsize xid room s back gives new after g

-- ---- where a call came to nothing

write-not : (wsize asked xid how size : ℕ) (room : Bool) (fault : Fault) (s : Saving) (back : Pending) (gives : _) (new : Saving) (after : Pending)
    → saves.TakesWrite wsize asked xid room (write_told how size (Err fault)) s back gives new after → EndsSo ⊥ (syncs.sync_next gives)
write-not wsize asked xid how size room fault s back gives new after t = by t.refusal t.lands.0 t.goes
  where
    by : (refusal : Option Fault) → refusal ≡ Some fault → saves.Goes wsize xid room t.counts (saves.refused_by refusal s) t.between gives new after → EndsSo ⊥ (syncs.sync_next gives)
    by None is g = absurd (cc)
    by (Some f) is g = leads-not (saves.refused_next s.waiting (saves.first_of s.refusal f)) _ gives new g.0 (refused-not s.waiting (saves.first_of s.refusal f))

told-not : (b : Bool) (wsize how size : ℕ) (sent turn : Turn) (fault : Fault) (repeats : List Repeat) (s : Saving) (back : Pending) (gives : _) (new : Saving) (after : Pending)
    (later : List Repeat) → saves.TakesToldIf b wsize sent turn (write_told how size (Err fault)) repeats s back gives new after later → EndsSo ⊥ (syncs.sync_next gives)
told-not true wsize how size sent turn fault repeats s back gives new after later (inl t) = by (goes_again true sent turn repeats) t.0
  where
    by : (again : Bool) → saves.RepeatsWrite again wsize sent turn (write_told how size (Err fault)) s back gives new after → EndsSo ⊥ (syncs.sync_next gives)
    by true r = leads-not _ s gives new r.0 tt
    by false r = write-not wsize sent.xid turn.xid how size turn.room fault (saves.less_waiting s) back gives new after r
told-not true wsize how size sent turn fault repeats s back gives new after later (inr t) =
    write-not wsize sent.xid turn.xid how size turn.room faults.Memory (saves.less_waiting s) back gives new after t.0
told-not false wsize how size sent turn fault repeats s back gives new after later t =
    write-not wsize sent.xid turn.xid how size turn.room fault (saves.less_waiting s) back gives new after t.0

first-not : (again : Bool) (wsize : ℕ) (turn : Turn) (fault : Fault) (s : Saving) (back : Pending) (gives : _) (new : Saving) (after : Pending)
    → saves.TakesFirst again wsize turn (Err fault) s back gives new after → EndsSo ⊥ (syncs.sync_next gives)
first-not true wsize turn fault s back gives new after t = leads-not _ (saves.put_off_more s) gives new t.0 tt
first-not false wsize turn fault s back gives new after t = leads-not _ (saves.less_waiting s) gives new t.0 tt

last-not : (again : Bool) (fault : Fault) (s : Saving) → EndsSo ⊥ (syncs.sync_next (saves.last_next again (Err fault) s))
last-not true fault s = tt
last-not false fault s = tt

in-not : (phase : Phase) (wsize : ℕ) (sent turn : Turn) (fault : Fault) (repeats : List Repeat) (s : Saving) (back : Pending) (gives : _) (new : Saving) (after : Pending)
    (later : List Repeat) → saves.TakesIn phase wsize sent turn (Err fault) repeats s back gives new after later → EndsSo ⊥ (syncs.sync_next gives)
in-not Sending wsize sent turn fault repeats s back gives new after later t = told-not (saves.may_again (saves.told_busy (saves.told_of sent.xid s.file back (Err fault))) s) wsize (saves.answered sent.xid s.file back).how (length (saves.answered sent.xid s.file back).bytes) sent turn fault repeats s back gives new after later t
in-not Resending wsize sent turn fault repeats s back gives new after later t = told-not (saves.may_again (saves.told_busy (saves.told_of sent.xid s.file back (Err fault))) s) wsize (saves.answered sent.xid s.file back).how (length (saves.answered sent.xid s.file back).bytes) sent turn fault repeats s back gives new after later t
in-not Committing wsize sent turn fault repeats s back gives new after later t = first-not (saves.commit_again (Err fault) sent turn repeats s) wsize turn fault s back gives new after t.0
in-not CommittingAgain wsize sent turn fault repeats s back gives new after later t =
    leads-not (saves.last_next (saves.commit_again (Err fault) sent turn repeats s) (Err fault) s) _ gives new t.0
    (last-not (saves.commit_again (Err fault) sent turn repeats s) fault s)

pub takes-not : (wsize : ℕ) (sent turn : Turn) (fault : Fault) (repeats : List Repeat) (s : Saving) (back : Pending) (gives : _) (new : Saving) (after : Pending) (later : List Repeat)
    → saves.Takes wsize sent turn (Err fault) repeats s back gives new after later → EndsSo ⊥ (syncs.sync_next gives)
takes-not wsize sent turn fault repeats s back gives new after later t = in-not s.phase wsize sent turn fault repeats s back gives new after later t
