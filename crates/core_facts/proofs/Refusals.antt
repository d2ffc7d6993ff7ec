-- An operation is answered with a status of a server or a refusal by RPC only where a record refused a call of it so.
use Rattle.core_facts.proofs.Prelude.{◌≡◌, ◌≢◌, ◌<◌, ◌+◌, ℕ, List, [], ◌∷◌, ◌++◌, length, Option, Some, None, Result, Ok, Err, refl, sym, ap, subst, arith, DirKept, FileKept, Answer, Fault, Entry, Began, Call, Reply, Op, Asked, length_last, Step, Shelf, Mounted, Machine, machine_of, State, Busy, Over, Setup}
use Rattle.world_model.specs.Heard.{Refused, status_of}
use Rattle.nfs_dir_calls.specs.declared.keeping.DirKept.TheVariants as found
use Rattle.nfs_dir_calls.specs.Replies.{SpellsReply as SpellsDir}
use Rattle.nfs_file_calls.specs.declared.owned.FileKept.TheVariants as kept
use Rattle.nfs_file_calls.specs.Replies.{SpellsFileResults}
use Rattle.world_model.specs.declared.answer.Answer.TheVariants as answers
use Rattle.world_model.specs.declared.answer.Fault.TheVariants as faults
use Rattle.world_model.specs.declared.message.Call.TheVariants as calls
use Rattle.world_model.specs.declared.message.Reply.TheVariants as replies
use Rattle.world_model.specs.Messages.{SpellsResults}
use Rattle.world_model.proofs.Growth.{Refused-grow, Refused-wide}
use Rattle.client_shelf.specs.declared.step.Step.TheVariants as nexts
use Rattle.core_facts.specs.Refusing.{IsRefusedSo, IsRefusalShown, RefusalsShown}
use Rattle.core_facts.proofs.AllCounts.{begins-unbegun}
use Rattle.core_facts.proofs.AllFaults as steps
use Rattle.core_facts.proofs.Faults.{OwnFaults, OfReply, Came, FineAnswer}
use Rattle.core_facts.proofs.Expects.{ExpectLaws}
use Rattle.core_facts.proofs.Steps.{AskedOf, KeptOf, ThenOf}
use Rattle.core_facts.proofs.Tales.{IsTold, IsWhy, TaleLaws, reached-answered}
use Rattle.core_facts.proofs.Telling.{AsksFor, Did}

-- ---- what a reply that fails shows

spelled-dir : (call : Call) (reply : DirKept) (results : List ℕ) → SpellsResults call (replies.Dir reply) results → SpellsDir reply results
spelled-dir (calls.Dir call) reply results s = s.is
spelled-dir (calls.File call) reply results s = absurd s
spelled-dir (calls.Mount call) reply results s = absurd s

spelled-file : (call : Call) (reply : FileKept) (results : List ℕ) → SpellsResults call (replies.File reply) results → SpellsFileResults reply results
spelled-file (calls.File call) reply results s = s.is
spelled-file (calls.Dir call) reply results s = absurd s
spelled-file (calls.Mount call) reply results s = absurd s

not-zero : (n : ℕ) → 0 < n → n ≢ 0
not-zero n some none = absurd (omega (arith, some, none))

module _ (h : List Entry) (x : ℕ) where
  -- what is known of a fault by the end of the history
  abbrev pub Shown : Fault → Type 0
  Shown fault = IsRefusalShown h x (length h) fault

  own : OwnFaults Shown
  own = record { kind = tt; many = tt; memory = tt; bad = λ rule. tt }

  of-status : (call : Call) (reply : Reply) (status : ℕ) → Asked h x (length h) call reply → status_of reply ≡ status → 0 < status → IsRefusedSo h x (length h) (faults.Nfs status)
  of-status call reply status a is some =
      record { call = call; refused = record { xid = a.xid; bytes = a.bytes; heard = a.heard; refuses = (reply, a.spells, is, not-zero status some) } }

  of-dir : (call : Call) (reply : DirKept) → Asked h x (length h) call (replies.Dir reply) → OfReply Shown (replies.Dir reply)
  of-dir call reply a = by reply a (spelled-dir call reply a.spells.results a.spells.is)
    where
      by : (r : DirKept) → Asked h x (length h) call (replies.Dir r) → SpellsDir r a.spells.results → OfReply Shown (replies.Dir r)
      by (found.LookupFail status dir) b s = of-status call (replies.Dir (found.LookupFail status dir)) status.0 b refl s.failed
      by (found.ReadLinkFail status attr) b s = of-status call (replies.Dir (found.ReadLinkFail status attr)) status.0 b refl s.failed
      by (found.CreateFail status wcc) b s = of-status call (replies.Dir (found.CreateFail status wcc)) status.0 b refl s.failed
      by (found.MkDirFail status wcc) b s = of-status call (replies.Dir (found.MkDirFail status wcc)) status.0 b refl s.failed
      by (found.SymLinkFail status wcc) b s = of-status call (replies.Dir (found.SymLinkFail status wcc)) status.0 b refl s.failed
      by (found.RemoveFail status wcc) b s = of-status call (replies.Dir (found.RemoveFail status wcc)) status.0 b refl s.failed
      by (found.RmDirFail status wcc) b s = of-status call (replies.Dir (found.RmDirFail status wcc)) status.0 b refl s.failed
      by (found.RenameFail status source target) b s = of-status call (replies.Dir (found.RenameFail status source target)) status.0 b refl s.failed
      by (found.LinkFail status attr wcc) b s = of-status call (replies.Dir (found.LinkFail status attr wcc)) status.0 b refl s.failed
      by (found.ReadDirPlusFail status attr) b s = of-status call (replies.Dir (found.ReadDirPlusFail status attr)) status.0 b refl s.failed
      by r b s = tt

  of-file : (call : Call) (reply : FileKept) → Asked h x (length h) call (replies.File reply) → OfReply Shown (replies.File reply)
  of-file call reply a = by reply a (spelled-file call reply a.spells.results a.spells.is)
    where
      by : (r : FileKept) → Asked h x (length h) call (replies.File r) → SpellsFileResults r a.spells.results → OfReply Shown (replies.File r)
      by (kept.GetAttrFail status) b s = of-status call (replies.File (kept.GetAttrFail status)) status.0 b refl s.failed
      by (kept.SetAttrFail status wcc) b s = of-status call (replies.File (kept.SetAttrFail status wcc)) status.0 b refl s.failed
      by (kept.AccessFail status attr) b s = of-status call (replies.File (kept.AccessFail status attr)) status.0 b refl s.failed
      by (kept.ReadFail status attr) b s = of-status call (replies.File (kept.ReadFail status attr)) status.0 b refl s.failed
      by (kept.WriteFail status wcc) b s = of-status call (replies.File (kept.WriteFail status wcc)) status.0 b refl s.failed
      by (kept.CommitFail status wcc) b s = of-status call (replies.File (kept.CommitFail status wcc)) status.0 b refl s.failed
      by r b s = tt

  of-reply : (call : Call) (reply : Reply) → Asked h x (length h) call reply → OfReply Shown reply
  of-reply call (replies.Dir reply) a = of-dir call reply a
  of-reply call (replies.File reply) a = of-file call reply a
  of-reply call (replies.Mount reply) a = tt

  of-fault : (call : Call) (fault : Fault) → IsWhy h x call fault → Shown fault
  of-fault call (faults.Nfs status) w = record { call = call; refused = w }
  of-fault call (faults.Rpc n) w = record { call = call; refused = w }
  of-fault call (faults.Bad rule) w = tt
  of-fault call faults.Spent w = tt
  of-fault call faults.Memory w = tt
  of-fault call faults.Lost w = tt
  of-fault call faults.Slot w = tt
  of-fault call faults.Mode w = tt
  of-fault call faults.Kind w = tt
  of-fault call faults.Many w = tt

-- ---- the story

abbrev NoCall : Machine → Call → Type 0
NoCall machine call = Unit {0}

abbrev NoWait : List Entry → ℕ → Op → Call → Type 0
NoWait h x op call = Unit {0}

abbrev NoShelf : List Entry → Shelf → Type 0
NoShelf h shelf = Unit {0}

abbrev AnswerStory : List Entry → ℕ → Answer → Type 0
AnswerStory h x (answers.Done value) = Unit {0}
AnswerStory h x (answers.Refused fault) = Shown h x fault

abbrev StateStory : List Entry → ℕ → State → Type 0
StateStory h x (Busy machine) = steps.FineMachine (Shown h x) (own h x) machine
StateStory h x (Over answer) = AnswerStory h x answer

abbrev Story : List Entry → ℕ → Op → State → Type 0
Story h x op state = StateStory h x state

asked-none : (next : Step) (new : Machine) → AskedOf NoCall next new
asked-none (nexts.Send call) new = tt
asked-none nexts.Wait new = tt
asked-none (nexts.Done answer) new = tt

kept-none : (others : ℕ) (old : Machine) (next : Step) (new : Machine) → KeptOf NoCall others old next new
kept-none others old (nexts.Send call) new = λ some c e. tt
kept-none others old nexts.Wait new = λ some c e. tt
kept-none others old (nexts.Done answer) new = tt

asks-none : (h : List Entry) (x : ℕ) (op : Op) (next : Step) → AsksFor (NoWait h x op) next
asks-none h x op (nexts.Send call) = tt
asks-none h x op nexts.Wait = tt
asks-none h x op (nexts.Done answer) = tt

answer-story : (h : List Entry) (x : ℕ) (answer : Answer) → FineAnswer (Shown h x) answer → AnswerStory h x answer
answer-story h x (answers.Done value) f = tt
answer-story h x (answers.Refused fault) f = f

did : (h : List Entry) (x : ℕ) (op : Op) (next : Step) (new : Machine) (after : Shelf) → steps.MachineStep (Shown h x) (own h x) next new → Did NoWait NoShelf Story h x op next new after
did h x op next new after s = record { shelf = tt; asks = asks-none h x op next; then_ = by next s }
  where
    by : (n : Step) → steps.MachineStep (Shown h x) (own h x) n new → ThenOf (λ m. Story h x op (Busy m)) (λ a. Story h x op (Over a)) n new
    by (nexts.Send call) k = k.1
    by nexts.Wait k = k.1
    by (nexts.Done answer) k = answer-story h x answer k.0

came-shown : (h : List Entry) (x : ℕ) (op : Op) (machine : Machine) (came : Result Reply Fault) → IsTold NoCall NoWait h x op machine came → Came (Shown h x) came
came-shown h x op machine (Ok reply) told = of-reply h x told.call reply (told.heard reply refl).asked
came-shown h x op machine (Err fault) told = of-fault h x told.call fault (told.refused fault refl)

so-later : (h : List Entry) (e : Entry) (x : ℕ) (fault : Fault) → IsRefusedSo h x (length h) fault → IsRefusedSo (h ++ e ∷ []) x (length (h ++ e ∷ [])) fault
so-later h e x fault s =
    let more = length_last h e in
    record {
      call = s.call;
      refused = Refused-wide (h ++ e ∷ []) x (length h) x (length (h ++ e ∷ [])) s.call fault (omega arith) (omega (arith, more)) (Refused-grow h (e ∷ []) x (length h) s.call fault s.refused);
    }

shown-later : (h : List Entry) (e : Entry) (x : ℕ) (fault : Fault) → Shown h x fault → Shown (h ++ e ∷ []) x fault
shown-later h e x (faults.Nfs status) s = so-later h e x (faults.Nfs status) s
shown-later h e x (faults.Rpc n) s = so-later h e x (faults.Rpc n) s
shown-later h e x (faults.Bad rule) s = tt
shown-later h e x faults.Spent s = tt
shown-later h e x faults.Memory s = tt
shown-later h e x faults.Lost s = tt
shown-later h e x faults.Slot s = tt
shown-later h e x faults.Mode s = tt
shown-later h e x faults.Kind s = tt
shown-later h e x faults.Many s = tt

state-later : (h : List Entry) (e : Entry) (x : ℕ) (state : State) → StateStory h x state → StateStory (h ++ e ∷ []) x state
state-later h e x (Busy machine) s =
    steps.fine-more (Shown h x) (own h x) (Shown (h ++ e ∷ []) x) (own (h ++ e ∷ []) x) (shown-later h e x) machine s
state-later h e x (Over (answers.Done value)) s = tt
state-later h e x (Over (answers.Refused fault)) s = shown-later h e x fault s

none-expects : ExpectLaws NoCall
none-expects = record {
  starts = λ m wsize turn old next new after s. asked-none next new;
  resumes = λ m wsize turn old next new after s. (asked-none next new, kept-none _ m next new);
  takes = λ m wsize sent turn came old next new after others one s. (asked-none next new, kept-none others m next new);
}

refusal-laws : (m : Mounted) (setup : Setup) → TaleLaws (machine_of m) setup NoCall NoWait NoShelf Story
refusal-laws m setup = record {
  fresh = λ h v up fresh. tt;
  starts = λ h lane line op wsize turn old next new after kept s.
      did _ _ op next new after (steps.all-starts (Shown (h ++ Began lane line op ∷ []) (length h)) (own (h ++ Began lane line op ∷ []) (length h)) (machine_of m lane op) wsize turn old next new after (steps.any-begins (Shown (h ++ Began lane line op ∷ []) (length h)) (own (h ++ Began lane line op ∷ []) (length h)) tt tt (machine_of m lane op) old) (steps.begins-fine (Shown (h ++ Began lane line op ∷ []) (length h)) (own (h ++ Began lane line op ∷ []) (length h)) m lane op) s);
  resumes = λ h x op machine wsize turn old next new after kept story r.
      did h x op next new after (steps.all-resumes (Shown h x) (own h x) machine wsize turn old next new after story r);
  takes = λ h x op machine wsize sent turn came old next new after others kept story one told t.
      did h x op next new after (steps.all-takes (Shown h x) (own h x) machine wsize sent turn came old next new after (steps.any-ends (Shown h x) (own h x) tt machine old) (came-shown h x op machine came told) story t);
  still = λ h e shelf kept. tt;
  waits = λ h e x op call w. tt;
  grows = λ h e x op state quiet story. state-later h e x state story;
  lost = λ h x op shown. tt;
}

-- ---- answers

so-until : (before after : List Entry) (x y : ℕ) (fault : Fault) → length before ≡ y → IsRefusedSo before x (length before) fault → IsRefusedSo (before ++ after) x y fault
so-until before after x y fault there s =
    let grown = Refused-grow before after x (length before) s.call fault s.refused in
    record { call = s.call; refused = subst (λ (n : ℕ). Refused (before ++ after) x n s.call fault) there grown }

shown-until : (before after : List Entry) (x y : ℕ) (fault : Fault) → length before ≡ y → Shown before x fault → IsRefusalShown (before ++ after) x y fault
shown-until before after x y (faults.Nfs status) there s = so-until before after x y (faults.Nfs status) there s
shown-until before after x y (faults.Rpc n) there s = so-until before after x y (faults.Rpc n) there s
shown-until before after x y (faults.Bad rule) there s = tt
shown-until before after x y faults.Spent there s = tt
shown-until before after x y faults.Memory there s = tt
shown-until before after x y faults.Lost there s = tt
shown-until before after x y faults.Slot there s = tt
shown-until before after x y faults.Mode there s = tt
shown-until before after x y faults.Kind there s = tt
shown-until before after x y faults.Many there s = tt

pub refusals-shown : RefusalsShown
refusals-shown m setup h v r lane x op y fault ended =
    let s = reached-answered (machine_of m) (begins-unbegun m) setup NoCall none-expects NoWait NoShelf Story (refusal-laws m setup) h v r lane x op y (answers.Refused fault) ended in
    subst (λ (k : List Entry). IsRefusalShown k x y fault) (sym s.is) (shown-until s.before s.after x y fault s.there s.story)
