-- An operation is answered that the session is lost only where the history shows it.
use Rattle.core_facts.proofs.Prelude.{◌≤◌, ℕ, List, [], ◌∷◌, ◌++◌, length, Result, Ok, Err, sym, subst, arith, append_assoc, DirKept, FileKept, Answer, Refused, Fault, Reply, Entry, Op, IsLost, length_last, Step, Mounted, Machine, machine_of, State, Busy, Over}
use Rattle.world_model.specs.declared.answer.Answer.TheVariants.{Done}
use Rattle.world_model.specs.Lost.{Loses}
use Rattle.std.proofs.lemmas.List.{append-nil}
use Rattle.nfs_dir_calls.specs.declared.keeping.DirKept.TheVariants as found
use Rattle.nfs_file_calls.specs.declared.owned.FileKept.TheVariants as kept
use Rattle.world_model.specs.declared.answer.Fault.TheVariants as faults
use Rattle.world_model.specs.declared.message.Reply.TheVariants as replies
use Rattle.client_shelf.specs.declared.step.Step.TheVariants as nexts
use Rattle.core_facts.specs.Lanes.{LostAnswersShown}
use Rattle.core_facts.proofs.AllCounts.{begins-unbegun}
use Rattle.core_facts.proofs.AllFaults as steps
use Rattle.core_facts.proofs.Faults.{NotLost, IsOuter, OwnFaults, OfReply, Came, FineResult, FineAnswer}
use Rattle.core_facts.proofs.Losing.{lost-grow, loses-grow}
use Rattle.core_facts.proofs.Steps.{ThenOf}
use Rattle.core_facts.proofs.Stories.{StoryLaws, reached-answered}

-- an operation doesn't give this fault by itself, and no reply does
own : OwnFaults NotLost
own = record { kind = tt; many = tt; memory = tt; bad = λ rule. tt }

dir-fine : (reply : DirKept) → OfReply NotLost (replies.Dir reply)
dir-fine (found.LookupFail status dir) = tt
dir-fine (found.ReadLinkFail status attr) = tt
dir-fine (found.CreateFail status wcc) = tt
dir-fine (found.MkDirFail status wcc) = tt
dir-fine (found.SymLinkFail status wcc) = tt
dir-fine (found.RemoveFail status wcc) = tt
dir-fine (found.RmDirFail status wcc) = tt
dir-fine (found.RenameFail status source target) = tt
dir-fine (found.LinkFail status attr wcc) = tt
dir-fine (found.ReadDirPlusFail status attr) = tt
dir-fine reply = tt

file-fine : (reply : FileKept) → OfReply NotLost (replies.File reply)
file-fine (kept.GetAttrFail status) = tt
file-fine (kept.SetAttrFail status wcc) = tt
file-fine (kept.AccessFail status attr) = tt
file-fine (kept.ReadFail status attr) = tt
file-fine (kept.WriteFail status wcc) = tt
file-fine (kept.CommitFail status wcc) = tt
file-fine reply = tt

-- what comes of a call isn't that the link is lost
outer-not-lost : (fault : Fault) → IsOuter fault → NotLost fault
outer-not-lost faults.Lost o = o
outer-not-lost (faults.Nfs status) o = tt
outer-not-lost (faults.Rpc n) o = tt
outer-not-lost (faults.Bad rule) o = tt
outer-not-lost faults.Spent o = tt
outer-not-lost faults.Slot o = tt
outer-not-lost faults.Mode o = tt
outer-not-lost faults.Kind o = tt
outer-not-lost faults.Many o = tt
outer-not-lost faults.Memory o = tt

outer-fine : (came : Result Reply Fault) → FineResult IsOuter came → FineResult NotLost came
outer-fine (Ok reply) f = tt
outer-fine (Err fault) f = outer-not-lost fault f

came-fine : (came : Result Reply Fault) → FineResult NotLost came → Came NotLost came
came-fine (Ok (replies.Dir reply)) f = dir-fine reply
came-fine (Ok (replies.File reply)) f = file-fine reply
came-fine (Ok (replies.Mount reply)) f = tt
came-fine (Err fault) f = f

-- an answer that the session is lost has a cause before it
abbrev AnswerShown : List Entry → Answer → Type 0
AnswerShown h (Done value) = Unit {0}
AnswerShown h (Refused faults.Lost) = IsLost h (length h)
AnswerShown h (Refused (faults.Nfs status)) = Unit {0}
AnswerShown h (Refused (faults.Rpc n)) = Unit {0}
AnswerShown h (Refused (faults.Bad rule)) = Unit {0}
AnswerShown h (Refused faults.Spent) = Unit {0}
AnswerShown h (Refused faults.Slot) = Unit {0}
AnswerShown h (Refused faults.Mode) = Unit {0}
AnswerShown h (Refused faults.Kind) = Unit {0}
AnswerShown h (Refused faults.Many) = Unit {0}
AnswerShown h (Refused faults.Memory) = Unit {0}

abbrev StateShown : List Entry → State → Type 0
StateShown h (Busy machine) = steps.FineMachine NotLost own machine
StateShown h (Over answer) = AnswerShown h answer

abbrev Shown : List Entry → ℕ → Op → State → Type 0
Shown h x op state = StateShown h state

-- another answer needs none
fine-shown : (h : List Entry) (answer : Answer) → FineAnswer NotLost answer → AnswerShown h answer
fine-shown h (Done value) f = tt
fine-shown h (Refused faults.Lost) f = absurd f
fine-shown h (Refused (faults.Nfs status)) f = tt
fine-shown h (Refused (faults.Rpc n)) f = tt
fine-shown h (Refused (faults.Bad rule)) f = tt
fine-shown h (Refused faults.Spent) f = tt
fine-shown h (Refused faults.Slot) f = tt
fine-shown h (Refused faults.Mode) f = tt
fine-shown h (Refused faults.Kind) f = tt
fine-shown h (Refused faults.Many) f = tt
fine-shown h (Refused faults.Memory) f = tt

step-shown : (h : List Entry) (next : Step) (new : Machine) → steps.MachineStep NotLost own next new → ThenOf (λ m. StateShown h (Busy m)) (λ a. StateShown h (Over a)) next new
step-shown h (nexts.Send call) new s = s.1
step-shown h nexts.Wait new s = s.1
step-shown h (nexts.Done answer) new s = fine-shown h answer s.0

answer-later : (h : List Entry) (e : Entry) (answer : Answer) → AnswerShown h answer → AnswerShown (h ++ e ∷ []) answer
answer-later h e (Done value) s = tt
answer-later h e (Refused faults.Lost) s = lost-grow h e s
answer-later h e (Refused (faults.Nfs status)) s = tt
answer-later h e (Refused (faults.Rpc n)) s = tt
answer-later h e (Refused (faults.Bad rule)) s = tt
answer-later h e (Refused faults.Spent) s = tt
answer-later h e (Refused faults.Slot) s = tt
answer-later h e (Refused faults.Mode) s = tt
answer-later h e (Refused faults.Kind) s = tt
answer-later h e (Refused faults.Many) s = tt
answer-later h e (Refused faults.Memory) s = tt

state-later : (h : List Entry) (e : Entry) (state : State) → StateShown h state → StateShown (h ++ e ∷ []) state
state-later h e (Busy machine) s = s
state-later h e (Over answer) s = answer-later h e answer s

shown-laws : (m : Mounted) → StoryLaws (machine_of m) Shown
shown-laws m = record {
  starts = λ h lane line op wsize turn old next new after s.
      step-shown _ next new (steps.all-starts NotLost own (machine_of m lane op) wsize turn old next new after (steps.any-begins NotLost own tt tt (machine_of m lane op) old) (steps.begins-fine NotLost own m lane op) s);
  resumes = λ h x op machine wsize turn old next new after story r. step-shown h next new (steps.all-resumes NotLost own machine wsize turn old next new after story r);
  takes = λ h x op machine wsize sent turn came old next new after others story one told t.
      step-shown h next new (steps.all-takes NotLost own machine wsize sent turn came old next new after (steps.any-ends NotLost own tt machine old) (came-fine came (outer-fine came told.fine)) story t);
  grows = λ h e x op state story. state-later h e state story;
  lost = λ h x op shown. shown;
}

-- what was shown goes on being shown
loses-more : (h more : List Entry) (to : ℕ) → to ≤ length h → Loses h to → Loses (h ++ more) to
loses-more h [] to within l = subst (λ (k : List Entry). Loses k to) (sym (append-nil h)) l
loses-more h (e ∷ more) to within l =
    let long = length_last h e in
    subst (λ (k : List Entry). Loses k to) (append_assoc h (e ∷ []) more) (loses-more (h ++ e ∷ []) more to (omega (arith, within, long)) (loses-grow h e to within l))

pub lost-answers : LostAnswersShown
lost-answers m setup h v r lane x op y ended =
    let s = reached-answered (machine_of m) (begins-unbegun m) setup Shown (shown-laws m) h v r lane x op y (Refused faults.Lost) ended in
    let story : IsLost s.before (length s.before) = s.story in
    let there = s.there in
    let by = story.by in
    record { to = story.to; by = omega (arith, by, there); loses = subst (λ (k : List Entry). Loses k story.to) (sym s.is) (loses-more s.before s.after story.to story.by story.loses) }
